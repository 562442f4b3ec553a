-- A log that has no fault, walked item by item: what lies ahead of a place.
use Prim.Native.Nat.{ℕ, zero, suc, ◌+◌, ◌≤◌}
use Rattle.std.proofs.Common.{arith, le-ltb, eqb-true}
use Rattle.std.specs.Prelude.{Bool, true, false, cond, ◌≡◌, List, [], ◌∷◌, eqb}
use Rattle.std.proofs.Math.Path.{refl, sym}
use Rattle.std.proofs.Math.ListN.{length}
use Rattle.format.specs.Bits.{bytes_bits}
use Rattle.format.specs.Item.{item_bits}
use Rattle.format.specs.Log.{next_at, has, ends, wrong, Parsed, items, fault, consed, parse_from, parsed}
use Rattle.format.specs.Laws.Log.Forth.{same_items}
use Rattle.format.specs.declared.Item.{Item}
use Rattle.log_rules.specs.Laws.Onward.{Onward, onward}

-- the next item begins where this one's bits end
pub next_bit : (s : List ℕ) (p : ℕ) (i : Item) (q : ℕ) → next_at s p ≡ has i q → q ≡ p + length (item_bits i)
next_bit s p i q e =
    let w : Onward s p (has i q) = rw e at (onward s p) in
    w.2

-- from p on the log has these items, and then its end
pub record Ahead (check : Item → ℕ) (log : List ℕ) (p : ℕ) (rest : List Item) : Type 0 where
  pub fuel : ℕ
  pub left : parse_from fuel check (bytes_bits log) p ≡ items rest

-- the first of them, and the rest of them
pub record First (check : Item → ℕ) (log : List ℕ) (i : Item) (q : ℕ) (js : List Item) : Type 0 where
  pub rest : List Item
  pub row : js ≡ i ∷ rest
  pub passed : check i ≡ 0
  pub ahead : Ahead check log q rest

no_items : {A : Type 0} {n p : ℕ} {js : List Item} → fault n p ≡ items js → A
no_items e = let z : ◌≡◌ {A = ℕ} 0 1 = cc in absurd (omega arith)

module _ (check : Item → ℕ) (log : List ℕ) where
  pub ahead_start : (is : List Item) → length log ≤ 32768 → parsed check log ≡ items is → Ahead check log 0 is
  unfolding parsed
  ahead_start is h e = record { fuel = length log + 1; left = rw (le-ltb 32768 (length log) h) at e }

  first_of : (f p : ℕ) (i : Item) (q : ℕ) (js : List Item) → next_at (bytes_bits log) p ≡ has i q → parse_from f check (bytes_bits log) p ≡ items js → First check log i q js
  unfolding parse_from
  first_of zero p i q js n e = no_items e
  first_of (suc f) p i q js n e = go (eqb (check i) 0) refl (rw n at e)
    where
      more : check i ≡ 0 → (r : Parsed) → parse_from f check (bytes_bits log) q ≡ r → consed i r ≡ items js → First check log i q js
      more z (fault k m) g h = no_items h
      more z (items ks) g h = record { rest = ks; row = sym (same_items h); passed = z; ahead = record { fuel = f; left = g } }

      go : (b : Bool) → eqb (check i) 0 ≡ b → cond b (consed i (parse_from f check (bytes_bits log) q)) (fault (check i) p) ≡ items js → First check log i q js
      go true z h = more (eqb-true (check i) 0 z) (parse_from f check (bytes_bits log) q) refl h
      go false z h = no_items h

  -- where the code finds an item, it is the first ahead
  pub ahead_has : {p : ℕ} {js : List Item} (i : Item) (q : ℕ) → Ahead check log p js → next_at (bytes_bits log) p ≡ has i q → First check log i q js
  ahead_has {p} {js} i q a n = first_of a.fuel p i q js n a.left

  over : (f p : ℕ) (js : List Item) → next_at (bytes_bits log) p ≡ ends → parse_from f check (bytes_bits log) p ≡ items js → js ≡ []
  unfolding parse_from
  over zero p js n e = no_items e
  over (suc f) p js n e = same_items (sym (rw n at e))

  -- where it finds the end, nothing is ahead
  pub ahead_end : {p : ℕ} {js : List Item} → Ahead check log p js → next_at (bytes_bits log) p ≡ ends → js ≡ []
  ahead_end {p} {js} a n = over a.fuel p js n a.left

  never : (f p : ℕ) (js : List Item) → next_at (bytes_bits log) p ≡ wrong → parse_from f check (bytes_bits log) p ≡ items js → ⊥
  unfolding parse_from
  never zero p js n e = no_items e
  never (suc f) p js n e = no_items (rw n at e)

  -- and it finds nothing wrong
  pub ahead_wrong : {p : ℕ} {js : List Item} → Ahead check log p js → next_at (bytes_bits log) p ≡ wrong → ⊥
  ahead_wrong {p} {js} a n = never a.fuel p js n a.left
