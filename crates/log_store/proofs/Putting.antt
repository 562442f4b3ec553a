-- What is stored of an item, written behind what is there.
use Prim.Native.Nat.{ℕ, ◌+◌, ◌≤◌}
use native.Mathlib.Omega.{arith}
use mathlib.Core.Bool.{Bool, true, false, cond}
use mathlib.Core.Path.{◌≡◌, refl, ap, sym, subst, ◌∙◌}
use mathlib.Core.List.{List, [], ◌∷◌, ◌++◌, flat_map, append_assoc, append-nil}
use lib.Dec.{eqb}
use Rattle.format.specs.Item.{item_bits}
use Rattle.format.specs.declared.Item.{Item}
use Rattle.log_write.specs.declared.Pen.{Pen}
use Rattle.log_write.specs.Packed.{packed_of}
use Rattle.log_write.specs.Pen.{Wrote, item_in, item_put, pen_put}
use Rattle.log_write.proofs.Packing.{says}
use Rattle.log_write.proofs.Writing.{wrote_item}
use Rattle.log_buffer.specs.declared.Level.{Level}
use Rattle.log_store.specs.Store.{Puts, mark_of}

-- an item has at most 89 bits
pub item_few : (p : Pen) (i : Item) → (item_put p i).bits ≤ p.bits + 89
unfolding item_put pen_put
item_few p i = let s = says i (packed_of i) refl in omega (arith, s.first_few, s.behind_few)

item_written : {bits built : List ℕ} {pen : Pen} (i : Item) → Wrote bits built pen → Wrote (bits ++ flat_map item_bits (i ∷ [])) (item_in built pen i) (item_put pen i)
unfolding flat_map
item_written {bits} {built} {pen} i w =
    subst (λ (l : List ℕ). Wrote (bits ++ l) (item_in built pen i) (item_put pen i)) (sym (append-nil (item_bits i))) (wrote_item pen i bits built w)

module _ (l : Level) (i : Item) (built : List ℕ) (pen : Pen) where
  pub puts_none : (stored : Bool) → stored ≡ false → Puts l i stored built pen built pen
  unfolding flat_map
  puts_none stored e = rw e (λ bits w. subst (λ (b : List ℕ). Wrote b built pen) (sym (append-nil bits)) w, omega arith)

  abbrev now_is : Item → List ℕ → Pen → List ℕ → Pen → Type 0
  now_is j from p to r = (r ≡ item_put p j) × (to ≡ item_in from p j)

  pub puts_one : (stored : Bool) (to : List ℕ) (r : Pen) → stored ≡ true → eqb l.unmarked 0 ≡ true → now_is i built pen to r → Puts l i stored built pen to r
  puts_one stored to r e f n = rw (e, f, n.0, n.1) (λ bits w. item_written i w, omega (arith, item_few pen i))

  two_bits : (bits : List ℕ) (m : Item) → (bits ++ flat_map item_bits (m ∷ [])) ++ flat_map item_bits (i ∷ []) ≡ bits ++ flat_map item_bits (m ∷ i ∷ [])
  unfolding flat_map
  two_bits bits m = append_assoc bits (item_bits m ++ []) (item_bits i ++ []) ∙ ap (λ (x : List ℕ). bits ++ (x ++ (item_bits i ++ []))) (append-nil (item_bits m))

  pub puts_marked : (stored : Bool) (m : Item) (between to : List ℕ) (p r : Pen) → stored ≡ true → eqb l.unmarked 0 ≡ false → m ≡ mark_of l
      → now_is m built pen between p → now_is i between p to r → Puts l i stored built pen to r
  puts_marked stored m between to p r e f g n o =
      rw (e, f, ← g, o.0, o.1, n.0, n.1) (
        λ bits w. subst (λ (b : List ℕ). Wrote b (item_in (item_in built pen m) (item_put pen m) i) (item_put (item_put pen m) i)) (two_bits bits m) (item_written i (item_written m w)),
        omega (arith, item_few pen m, item_few (item_put pen m) i),
      )
