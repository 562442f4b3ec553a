-- The held item's five numbers in the row, by their parts.
use Prim.Native.Nat.{ℕ, zero, suc, ◌+◌, ◌-◌, ◌≤◌, ◌<◌}
use native.Mathlib.Omega.{arith}
use mathlib.Core.Bool.{Bool, true, false, cond}
use mathlib.Core.Path.{◌≡◌, refl, ap, sym, ◌∙◌}
use mathlib.Core.List.{List, [], ◌∷◌}
use lib.ListN.{length, get_or, take, drop}
use lib.Seq.{take_at, drop_at}
use lib.Dec.{eqb}
use borrow.Author.Tests.{eqb-true}
use Rattle.format.specs.Lists.{list}
use Rattle.format.specs.Laws.Lists.{length_list, list_split}
use Rattle.format.specs.Laws.Tests.{and_true, clash}
use Rattle.format.specs.Reader.{Fed, bad, fed}
use Rattle.format.specs.declared.Kind.{Kind}
use Rattle.format.specs.declared.Held.{Held}
use Rattle.format.specs.declared.Held.TheVariants.{Nothing}
use Rattle.data_start.specs.Holding.{flat}
use Rattle.stream_rules.specs.StateNumbers.{held_from}
use Rattle.stream_state.specs.declared.Again.{Again}
use Rattle.stream_state.specs.Again.{again, again_from, again_of}
use Rattle.stream_state.specs.Parts.{are_zeros, held_passes}
use Rattle.stream_state.specs.Laws.Again.{passes_again, passing}

-- parts of a counted list
front : (f : ℕ → ℕ) (a n m : ℕ) → n ≤ m → take n (list f a m) ≡ list f a n
front f a n m h =
    let e : m ≡ n + (m - n) = omega arith in
    ap (λ (k : ℕ). take n (list f a k)) e ∙ ap (take n) (list_split f a n (m - n)) ∙ take_at (list f a n) (list f (a + n) (m - n)) n (length_list f a n)

back : (f : ℕ → ℕ) (a n m : ℕ) → n ≤ m → drop n (list f a m) ≡ list f (a + n) (m - n)
back f a n m h =
    let e : m ≡ n + (m - n) = omega arith in
    ap (λ (k : ℕ). drop n (list f a k)) e ∙ ap (drop n) (list_split f a n (m - n)) ∙ drop_at (list f a n) (list f (a + n) (m - n)) n (length_list f a n)

refuted : (t : Bool) → (t ≡ true → ⊥) → t ≡ false
refuted true f = absurd (f refl)
refuted false f = refl

module _ (ks : List Kind) (sixteen : length ks ≡ 16) (f : ℕ → ℕ) where
  abbrev row : List ℕ
  row = list f 15 5

  head : (get_or row 0 0 ≡ f 15) × (drop 1 row ≡ list f 16 4)
  unfolding list
  head = (refl, refl)

  words : f 15 ≤ 4 → take (get_or row 0 0) (drop 1 row) ≡ list f 16 (f 15)
  words h = ap (λ (n : ℕ). take n (drop 1 row)) head.0 ∙ ap (take (f 15)) head.1 ∙ front f 16 (f 15) 4 h

  rest : f 15 ≤ 4 → drop (get_or row 0 0) (drop 1 row) ≡ list f (16 + f 15) (20 - (16 + f 15))
  rest h =
      let e : 4 - f 15 ≡ 20 - (16 + f 15) = omega arith in
      ap (λ (n : ℕ). drop n (drop 1 row)) head.0 ∙ ap (drop (f 15)) head.1 ∙ back f 16 (f 15) 4 h ∙ ap (list f (16 + f 15)) e

  fails : (held_passes ks row ≡ true → ⊥) → again_from bad ≡ again_of ks row
  fails g = rw (refuted (held_passes ks row) g) refl

  pub too_many : 4 < f 15 → again_from bad ≡ again_of ks row
  too_many h = fails (λ e. absurd (omega (arith, h, head.0, (passing ks sixteen row e).0)))

  pub not_zero : f 15 ≤ 4 → are_zeros (list f (16 + f 15) (20 - (16 + f 15))) ≡ false → again_from bad ≡ again_of ks row
  not_zero h z = fails (λ e. clash (sym z ∙ ap are_zeros (sym (rest h)) ∙ (passing ks sixteen row e).2))

  pub fed_again : f 15 ≤ 4 → are_zeros (list f (16 + f 15) (20 - (16 + f 15))) ≡ true → again_from (again ks Nothing (list f 16 (f 15))) ≡ again_of ks row
  fed_again h z = go (again ks Nothing (list f 16 (f 15))) refl
    where
      is_fed : Fed → Bool
      is_fed bad = false
      is_fed (fed is k) = true

      go : (r : Fed) → again ks Nothing (list f 16 (f 15)) ≡ r → again_from r ≡ again_of ks row
      go bad e = fails (λ t. clash (ap is_fed (sym e ∙ ap (again ks Nothing) (sym (words h)) ∙ (passing ks sixteen row t).1)))
      go (fed is k) e =
          let n : get_or row 0 0 ≤ 4 = omega (arith, head.0, h) in
          let p = passes_again ks row is k (length_list f 15 5) n (ap (again ks Nothing) (words h) ∙ e) (ap are_zeros (rest h) ∙ z) in
          rw (p.0, p.1) refl

  pub none_held : are_zeros row ≡ true → ◌≡◌ {A = Again} (record { bad = false; held = flat Nothing }) (again_of ks row)
  unfolding are_zeros list again
  none_held e =
      let t = and_true (eqb (f 15) 0) (are_zeros (list f 16 4)) e in
      let z : f 15 ≡ 0 = eqb-true (f 15) 0 t.0 in
      let g : are_zeros (list f (16 + f 15) (20 - (16 + f 15))) ≡ true = ap (λ (n : ℕ). are_zeros (list f (16 + n) (20 - (16 + n)))) z ∙ t.1 in
      ap (λ (n : ℕ). again_from (again ks Nothing (list f 16 n))) (sym z) ∙ fed_again (omega (arith, z)) g
