-- Room for more times than a capture has groups makes no difference.
use Prim.Native.Nat.{ℕ, ◌+◌, ◌*◌, ◌/◌, ◌%◌, ◌<◌, ◌≤◌}
use native.Mathlib.Omega.{arith}
use mathlib.Core.Bool.{Bool, true, false, cond, ◌&&◌}
use mathlib.Core.Path.{◌≡◌, refl, sym, ap}
use mathlib.Core.List.{List}
use lib.ListN.{length}
use lib.Dec.{eqb, leb}
use borrow.Author.Tests.{le-leb, leb-true, leb-false}
use Rattle.format.specs.Group.{Fault, none, found}
use Rattle.format.specs.Plan.{group_words, legal, slots, times_needed}
use Rattle.format.specs.Read.{Reading, gives, refuses, slots_from, unless_found}
use Rattle.format.specs.Laws.Tests.{and_true}
use Rattle.format.specs.Laws.Limits.{groups_most, least_group_bytes}
use Rattle.format.specs.Laws.Legal.{shape_of}
use Rattle.format.specs.Laws.Reader.Slots.{words_in}
use Rattle.format.specs.declared.Kind.{Kind}
use Rattle.format.specs.declared.Plan.{Plan}
use Rattle.capture_rules.specs.Split.{groups_fault, frame_times, words_read, words_roomed}
use Rattle.capture_parts.proofs.Given.{table_long, times_few}
use Rattle.read_from_c.proofs.Rooms.{Few}

module _ (p : Plan) (ks : List Kind) (c : List ℕ) (wordRoom : ℕ) where
  abbrev size : ℕ
  size = 3 * group_words p

  abbrev whole : Bool
  whole = leb (length c) 1048576 && eqb (length c % size) 0

  abbrev all : ℕ → Reading
  all T = unless_found (groups_fault p c (length c / size) 0) (words_roomed p c (length c / size) wordRoom T)

  module _ (T U : ℕ) (t : length c ≤ 1048576 → length c / least_group_bytes ≤ T) (u : length c ≤ 1048576 → length c / least_group_bytes ≤ U) where
    all_same : length c / size ≤ T → length c / size ≤ U → all T ≡ all U
    all_same h k =
        let few = times_few p (length c / size) in
        rw (le-leb (times_needed p (length c / size)) T (omega (arith, few)), le-leb (times_needed p (length c / size)) U (omega (arith, few))) refl

    room_enough : words_read p ks c wordRoom T ≡ words_read p ks c wordRoom U
    unfolding words_read
    room_enough = go (legal p ks) refl
      where
        of : legal p ks ≡ true → (b : Bool) → whole ≡ b → cond b (all T) (refuses 8 (length c) 0) ≡ cond b (all U) (refuses 8 (length c) 0)
        of e true f =
            let s : length c ≤ 1048576 = leb-true (length c) 1048576 (and_true _ _ f).0 in
            let k = groups_most p (shape_of p ks e) (length c) in
            all_same (omega (arith, k, t s)) (omega (arith, k, u s))
        of e false f = refl

        go : (b : Bool) → legal p ks ≡ b → cond b (cond whole (all T) (refuses 8 (length c) 0)) (refuses 1 0 0) ≡ cond b (cond whole (all U) (refuses 8 (length c) 0)) (refuses 1 0 0)
        go true e = of e whole refl
        go false e = refl

  few_all : (T : ℕ) → Few T (all T)
  few_all T = found_or (groups_fault p c (length c / size) 0) (words_roomed p c (length c / size) wordRoom T) (go (leb (length c / size * slots p) wordRoom) (leb (times_needed p (length c / size)) T) refl)
    where
      found_or : (f : Fault) (r : Reading) → Few T r → Few T (unless_found f r)
      found_or none r h = h
      found_or (found k at) r h = tt

      go : (a b : Bool) → leb (times_needed p (length c / size)) T ≡ b
          → Few T (cond a (cond b (gives (words_in (slots_from p c (length c / size) 0)) (frame_times p c (length c / size))) (refuses 7 (times_needed p (length c / size)) 0))
          (refuses 6 (length c / size * slots p) 0))
      go true true e = rw (table_long p c (times_needed p (length c / size))) (leb-true _ _ e)
      go true false e = tt
      go false b e = tt

  pub few_times : (T : ℕ) → Few T (words_read p ks c wordRoom T)
  unfolding words_read
  few_times T = go (legal p ks) whole
    where
      go : (a b : Bool) → Few T (cond a (cond b (all T) (refuses 8 (length c) 0)) (refuses 1 0 0))
      go true true = few_all T
      go true false = tt
      go false b = tt

  -- a row that has an entry for every time that there is room for, or for every group of a capture
  pub least_enough : (T row k : ℕ) → (row < T → length c ≤ 1048576 → length c / least_group_bytes ≤ row) → k ≡ cond (leb T row) T row
      → words_read p ks c wordRoom T ≡ words_read p ks c wordRoom k
  least_enough T row k h e = go (leb T row) refl e
    where
      go : (b : Bool) → leb T row ≡ b → k ≡ cond b T row → words_read p ks c wordRoom T ≡ words_read p ks c wordRoom k
      go true f e = ap (words_read p ks c wordRoom) (sym e)
      go false f e =
          let l : row < T = leb-false T row f in
          room_enough T k (λ s. omega (arith, h l s)) (λ s. rw e (h l s))
