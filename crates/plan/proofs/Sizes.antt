-- Used buses counted from the left, and the data slots with and without frame time.
use Prim.Native.Nat.{ℕ, zero, suc, ◌+◌, ◌*◌, ◌-◌, ◌<◌, ◌≤◌}
use native.Mathlib.Nat.{mul-le-mul_right}
use native.Mathlib.Omega.{arith}
use native.Mathlib.Numerals.{add-one}
use mathlib.Core.Bool.{Bool, true, false, cond}
use mathlib.Core.Path.{◌≡◌, refl, ap, ◌∙◌}
use mathlib.Core.List.{List, [], ◌∷◌}
use lib.ListN.{length, drop}
use Rattle.format.specs.Bits.{bit}
use Rattle.format.specs.Plan.{group_words, is_used, kind_on, lead, rows, slots, used_buses}
use Rattle.format.specs.declared.Plan.{Plan}
use Rattle.format.specs.declared.Kind.{Kind}

pub bus_counted : (ks : List Kind) (i : ℕ) (b : Bool) → is_used (kind_on ks i) ≡ b → i < length ks → used_buses (drop i ks) ≡ bit b + used_buses (drop (i + 1) ks)
unfolding used_buses
bus_counted [] i b e h = absurd (omega arith)
bus_counted (k ∷ ks) zero b e h = rw e
bus_counted (k ∷ ks) (suc i) b e h =
    let n : i + 1 ≡ suc i = add-one i in
    bus_counted ks i b e (omega arith) ∙ rw (n, add-one (suc i))

pub all_counted : (ks : List Kind) (i : ℕ) → length ks ≤ i → used_buses (drop i ks) ≡ 0
unfolding used_buses
all_counted [] zero h = refl
all_counted [] (suc i) h = refl
all_counted (k ∷ ks) zero h = absurd (omega arith)
all_counted (k ∷ ks) (suc i) h = all_counted ks i (omega arith)

pub slots_timed : (p : Plan) → p.frame_time ≡ true → slots p ≡ p.tracks * rows p - 3
unfolding slots lead
slots_timed p e = ap (λ (b : Bool). p.tracks * rows p - cond b 3 0) e

pub slots_untimed : (p : Plan) → p.frame_time ≡ false → slots p ≡ p.tracks * rows p
unfolding slots lead
slots_untimed p e = ap (λ (b : Bool). p.tracks * rows p - cond b 3 0) e ∙ omega arith
