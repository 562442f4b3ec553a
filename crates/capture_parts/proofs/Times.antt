-- A group's own bytes in a capture, for its frame time.
use Prim.Native.Nat.{ℕ, suc, ◌+◌, ◌*◌, ◌-◌, ◌≤◌, ◌<◌}
use native.Mathlib.Nat.{mul-le-mul_right}
use native.Mathlib.Omega.{arith}
use mathlib.Core.Path.{◌≡◌, sym, subst}
use mathlib.Core.List.{List}
use lib.ListN.{length, take, drop, set, length-take, length-drop}
use Rattle.format.specs.Lists.{list}
use Rattle.format.specs.Plan.{group_words}
use Rattle.format.specs.Laws.Front.{Front, front_more}
use Rattle.format.specs.Laws.Lists.{list_more}
use Rattle.format.specs.declared.Plan.{Plan}

-- the group g, of w words
module _ (p : Plan) (g w : ℕ) (e : w ≡ group_words p) where
  pub part_begins : g * (3 * w) ≡ 3 * (g * group_words p)
  part_begins = rw e (omega arith)

  pub part_sized : g * (3 * w) + 3 * w - g * (3 * w) ≡ 3 * group_words p
  part_sized = omega arith

  module _ (c : List ℕ) (n : ℕ) (all : 3 * (n * group_words p) ≤ length c) (h : g < n) where
    pub part_fits : g * (3 * w) + 3 * w ≤ length c
    part_fits = let k : suc g ≤ n = h in rw e (omega (arith, mul-le-mul_right (group_words p) k))

    pub part_long : length (take (g * (3 * w) + 3 * w - g * (3 * w)) (drop (g * (3 * w)) c)) ≡ 3 * group_words p
    part_long = simp (length-take, length-drop) (omega (arith, part_fits))

-- a time more in the table
pub times_more : (f : ℕ → ℕ) {old times : List ℕ} {g v : ℕ} → Front (list f 0 g) old times g → g < length old → v ≡ f g → Front (list f 0 (g + 1)) old (set times g v) (g + 1)
times_more f {old} {times} {g} a h e = subst (λ (w : ℕ). Front (list f 0 (g + 1)) old (set times g w) (g + 1)) (sym e) (rw (list_more f g) (front_more (f g) a h))
