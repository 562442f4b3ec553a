-- A row of more than 126 times is refused by 5 at the number needed, whatever the log, if it comes to that.
use Prim.Native.Nat.{ℕ, zero, suc, ◌+◌, ◌*◌, ◌-◌, ◌/◌, ◌%◌, ◌<◌, ◌≤◌}
use native.Mathlib.Nat.{mul-le-mul_right, div-mul-le_self}
use native.Mathlib.Decide.{dec_lt}
use native.Mathlib.Omega.{arith}
use mathlib.Core.Bool.{Bool, true, false, cond}
use mathlib.Core.Path.{◌≡◌, refl, sym, ap, ◌∙◌}
use mathlib.Core.List.{List, [], ◌∷◌, flat_map}
use lib.ListN.{length, take, drop, length-append, length-drop}
use lib.Seq.{length-take-le}
use borrow.Author.Tests.{eq-eqb, ne_eqb}
use Rattle.format.specs.Compose.{Composed, refused, compose_parsed, composed, groups_for, unless_open}
use Rattle.format.specs.Notices.{open_fault, bit_of}
use Rattle.format.specs.Item.{item_words}
use Rattle.format.specs.Lists.{Bytes, list}
use Rattle.format.specs.Log.{Parsed, items, fault, log_of, on_plan, parsed}
use Rattle.format.specs.Plan.{lead, legal, rows, slots}
use Rattle.format.specs.declared.Item.{Item}
use Rattle.format.specs.declared.Kind.{Kind}
use Rattle.format.specs.declared.Plan.{Plan}
use Rattle.from_c.specs.Numbers.{times_from}
use Rattle.compose_from_c.specs.Composing.{TimesPut, composed_bytes, ragged, ragged_parsed}
use Rattle.format.specs.Laws.Limits.{composed_most, most_composed}
use Rattle.format.specs.Laws.Log.Forth.{log_forth}
use Rattle.format.specs.Laws.Legal.{shape_of}
use Rattle.compose.proofs.Answered.{times_wrong}
use Rattle.format.specs.Laws.Composed.Length.{words_few}
use Rattle.from_c.specs.Laws.{times_number}
use Rattle.from_c.proofs.Times.{row_taken}
use Rattle.format.specs.Answer.{over}

needed_few : (b : Bool) (n : ℕ) → n ≤ most_composed → cond b n 0 ≤ most_composed
needed_few true n h = h
needed_few false n h = omega arith

module _ (p : Plan) (ks : List Kind) (log : List ℕ) (w : Bytes log) where
  pub row_full : (times : List ℕ) (room : ℕ) → 126 < length times → composed p ks log times room ≡ ragged p ks log
  unfolding composed ragged
  row_full times room h = go (legal p ks) refl
    where
      of : legal p ks ≡ true → (r : Parsed) → parsed (on_plan ks) log ≡ r → compose_parsed p times room r ≡ ragged_parsed p r
      of e (fault n q) g = refl
      of e (items is) g =
          let f = log_forth (on_plan ks) log is w g in
          let n = composed_most p (shape_of p ks e) (length (flat_map item_words is)) (words_few is (rw f.0 f.2)) in
          let k = needed_few p.frame_time (groups_for p (length (flat_map item_words is))) n in
          ap (unless_open (open_fault (bit_of is) is)) (times_wrong p times room (flat_map item_words is) (λ z. absurd (omega (arith, k, z))))

      go : (b : Bool) → legal p ks ≡ b
          → cond b (compose_parsed p times room (parsed (on_plan ks) log)) (refused 1 0) ≡ cond b (ragged_parsed p (parsed (on_plan ks) log)) (refused 1 0)
      go true e = of e (parsed (on_plan ks) log) refl
      go false e = refl

  -- a run that is not whole eights, and one of more than 126
  not_eights : (row times : List ℕ) (room : ℕ) → 126 < length row → (length times % 8 ≡ 0 → ⊥) → composed_bytes p ks log times room ≡ composed p ks log row room
  unfolding composed_bytes
  not_eights row times room h z = rw (ne_eqb (length times % 8) 0 z) (sym (row_full row room h))

  too_many : (row times : List ℕ) (room : ℕ) → 126 < length row → length times % 8 ≡ 0 → 1008 < length times → composed_bytes p ks log times room ≡ composed p ks log row room
  unfolding composed_bytes
  too_many row times room h z k =
      let n : 126 < length (times_from times) = rw (times_number times) (omega arith) in
      rw (eq-eqb (length times % 8) 0 z) (row_full (times_from times) room n ∙ sym (row_full row room h))

  eights : (times : List ℕ) (room : ℕ) → length times % 8 ≡ 0 → composed_bytes p ks log times room ≡ composed p ks log (times_from times) room
  unfolding composed_bytes
  eights times room z = rw (eq-eqb (length times % 8) 0 z)

  -- so the row that was put is composed
  pub row_composed : (times row : List ℕ) (n room : ℕ) → TimesPut times row n → composed_bytes p ks log times room ≡ composed p ks log (take n row) room
  row_composed times row n room t = go (dec_lt 0 (length times % 8)) (dec_lt 1008 (length times))
    where
      all : ((length times % 8 ≡ 0) → (length times ≤ 1008) → ⊥) → 126 < length (take n row)
      all z = let e : n ≡ 127 = t.full z in simp (length-take-le n row (omega (arith, t.long))) (omega arith)

      go : Dec (0 < length times % 8) → Dec (1008 < length times) → composed_bytes p ks log times room ≡ composed p ks log (take n row) room
      go (yes z) d = not_eights (take n row) times room (all (λ e l. absurd (omega arith))) (λ e. absurd (omega arith))
      go (no z) (yes l) = too_many (take n row) times room (all (λ e k. absurd (omega arith))) (omega arith) l
      go (no z) (no l) = eights times room (omega arith) ∙ ap (λ (x : List ℕ). composed p ks log x room) (sym (t.is (omega arith) (omega arith)))

-- ---- a row that the times were put to, or not

module _ (times row : List ℕ) (long : length row ≡ 127) where
  pub put_ragged : (length times % 8 ≡ 0 → ⊥) → TimesPut times row 127
  put_ragged z = record { few = omega arith; is = λ e l. absurd (z e); full = λ f. refl; long = long }

  pub put_many : 1008 < length times → TimesPut times row 127
  put_many h = record { few = omega arith; is = λ e l. absurd (omega arith); full = λ f. refl; long = long }

  pub put_eights : {row' : List ℕ} → length times % 8 ≡ 0 → length times ≤ 1008 → row' ≡ over (times_from times) row → TimesPut times row' (length times / 8)
  put_eights {row'} e h o = record {
    few = omega arith;
    is = λ f l. ap (take (length times / 8)) o ∙ row_taken times row;
    full = λ f. absurd (f e h);
    long = rw (o, length-append (times_from times) (drop (length (times_from times)) row), length-drop (length (times_from times)) row) (omega (arith, times_number times, long));
  }
