-- Room for more times than a capture has groups makes no difference; and the times saved, as bytes.
use Prim.Native.Nat.{ℕ, ◌+◌, ◌*◌, ◌/◌, ◌%◌, ◌<◌, ◌≤◌}
use native.Mathlib.Omega.{arith}
use mathlib.Core.Bool.{Bool, true, false, cond, ◌&&◌}
use mathlib.Core.Path.{◌≡◌, refl, sym, ap, ◌∙◌}
use mathlib.Core.List.{List, [], ◌++◌, append_assoc, flat_map}
use lib.ListN.{length, length-append, take, drop}
use lib.Seq.{take_at}
use lib.Dec.{eqb, leb}
use borrow.Author.Tests.{le-leb, leb-true, leb-false}
use Rattle.format.specs.Answer.{over}
use Rattle.format.specs.Log.{log_of}
use Rattle.format.specs.Plan.{group_words, legal}
use Rattle.format.specs.Laws.Tests.{and_true}
use Rattle.format.specs.Laws.Limits.{groups_most, least_group_bytes}
use Rattle.format.specs.Laws.Legal.{shape_of}
use Rattle.format.specs.declared.Kind.{Kind}
use Rattle.format.specs.declared.Plan.{Plan}
use Rattle.salvage_rules.specs.Salvage.{Entry, Salvage, saves, forgoes, Saved, saved_in, salvage_groups, salvaged, salvage_answer, kept_times, Saves}
use Rattle.salvage_rules.proofs.Promises.{a_time_a_group}
use Rattle.salvage_rules.specs.declared.Salvaged.{Salvaged}
use Rattle.from_c.specs.Numbers.{time_bytes}
use Rattle.salvage_from_c.specs.Salvaging.{SavesBytes}

-- the times saved are no more than there is room for
abbrev pub Few : ℕ → Salvage → Type 0
Few T (saves log ts report) = length ts ≤ T
Few T (forgoes n q) = Unit {0}

module _ (p : Plan) (ks : List Kind) (c : List ℕ) (log_room reportRoom : ℕ) where
  abbrev size : ℕ
  size = 3 * group_words p

  abbrev whole : Bool
  whole = leb (length c) 1048576 && eqb (length c % size) 0

  abbrev n : ℕ
  n = length c / size

  abbrev s : Saved
  s = salvage_groups p ks c n

  abbrev row : List ℕ
  row = cond p.frame_time (kept_times p c n 0) []

  abbrev all : ℕ → Salvage
  all T = saved_in log_room T reportRoom (log_of s.its) row s.report

  row_few : length row ≤ n
  row_few = go p.frame_time
    where
      go : (b : Bool) → length (cond b (kept_times p c n 0) []) ≤ n
      go true = omega (arith, a_time_a_group p ks c n)
      go false = omega arith

  module _ (T U : ℕ) (t : length c ≤ 1048576 → length c / least_group_bytes ≤ T) (u : length c ≤ 1048576 → length c / least_group_bytes ≤ U) where
    all_same : n ≤ T → n ≤ U → all T ≡ all U
    all_same h k = rw (le-leb (length row) T (omega (arith, row_few)), le-leb (length row) U (omega (arith, row_few))) refl

    room_enough : salvaged p ks c log_room T reportRoom ≡ salvaged p ks c log_room U reportRoom
    unfolding salvaged
    room_enough = go (legal p ks) refl
      where
        of : legal p ks ≡ true → (b : Bool) → whole ≡ b → cond b (all T) (forgoes 8 (length c)) ≡ cond b (all U) (forgoes 8 (length c))
        of e true f =
            let s : length c ≤ 1048576 = leb-true (length c) 1048576 (and_true _ _ f).0 in
            let k = groups_most p (shape_of p ks e) (length c) in
            all_same (omega (arith, k, t s)) (omega (arith, k, u s))
        of e false f = refl

        go : (b : Bool) → legal p ks ≡ b → cond b (cond whole (all T) (forgoes 8 (length c))) (forgoes 1 0) ≡ cond b (cond whole (all U) (forgoes 8 (length c))) (forgoes 1 0)
        go true e = of e whole refl
        go false e = refl

  few_all : (T : ℕ) → Few T (all T)
  few_all T = go (leb (length (log_of s.its)) 32768 && leb (length (log_of s.its)) log_room) (leb (length row) T) (leb (length s.report) reportRoom) refl
    where
      go : (a b d : Bool) → leb (length row) T ≡ b
          → Few T (cond a (cond b (cond d (saves (log_of s.its) row s.report) (forgoes 20 (length s.report))) (forgoes 7 (length row))) (forgoes 6 (length (log_of s.its))))
      go true true true e = leb-true (length row) T e
      go true true false e = tt
      go true false d e = tt
      go false b d e = tt

  pub few_times : (T : ℕ) → Few T (salvaged p ks c log_room T reportRoom)
  unfolding salvaged
  few_times T = go (legal p ks) whole
    where
      go : (a b : Bool) → Few T (cond a (cond b (all T) (forgoes 8 (length c))) (forgoes 1 0))
      go true true = few_all T
      go true false = tt
      go false b = tt

  -- a row that has an entry for every time that there is room for, or for every group of a capture
  pub least_enough : (T row k : ℕ) → (row < T → length c ≤ 1048576 → length c / least_group_bytes ≤ row) → k ≡ cond (leb T row) T row
      → salvaged p ks c log_room T reportRoom ≡ salvaged p ks c log_room k reportRoom
  least_enough T row k h e = go (leb T row) refl e
    where
      go : (b : Bool) → leb T row ≡ b → k ≡ cond b T row → salvaged p ks c log_room T reportRoom ≡ salvaged p ks c log_room k reportRoom
      go true f e = ap (λ (t : ℕ). salvaged p ks c log_room t reportRoom) (sym e)
      go false f e =
          let l : row < T = leb-false T row f in
          room_enough T k (λ s. omega (arith, h l s)) (λ s. rw e (h l s))

-- as many times are put as were saved, and what was saved
module _ (r : Salvaged) (log log' part part' report report' : List ℕ) where
  pub saves_few : (T : ℕ) (m : Salvage) → Few T m → Saves m r log log' part part' report report' → r.times ≤ T
  saves_few T (saves l ts es) h e = rw e.0 h
  saves_few T (forgoes n q) h e = rw e.0 (omega arith)

  pub saves_there : (m : Salvage) → Saves m r log log' part part' report report' → r.times ≤ length part'
  saves_there (saves l ts es) e = rw (e.0, e.2, length-append ts (drop (length ts) part)) (omega arith)
  saves_there (forgoes n q) e = rw e.0 (omega arith)

  pub saves_bytes : (times times' row : List ℕ) (m : Salvage) → Saves m r log log' part part' report report' → times' ≡ over (flat_map time_bytes (take r.times (part' ++ row))) times
      → SavesBytes m r log log' times times' report report'
  unfolding flat_map
  saves_bytes times times' row (saves l ts es) e z =
      let k : take r.times (part' ++ row) ≡ ts =
      rw (e.0, e.2) (ap (take (length ts)) (append_assoc ts (drop (length ts) part) row) ∙ take_at ts (drop (length ts) part ++ row) (length ts) refl) in
      (e.0, e.1, z ∙ ap (λ (x : List ℕ). over (flat_map time_bytes x) times) k, e.3)
  saves_bytes times times' row (forgoes n q) e z =
      let k : take r.times (part' ++ row) ≡ [] = rw e.0 refl in
      (e.0, e.1, z ∙ ap (λ (x : List ℕ). over (flat_map time_bytes x) times) k, e.3)

-- a refusal leaves all as it was
pub saves_none : (r : Salvaged) (log times report : List ℕ) (n q : ℕ) → r ≡ salvage_answer (forgoes n q) → SavesBytes (forgoes n q) r log log times times report report
saves_none r log times report n q e = (e, refl, refl, refl)
