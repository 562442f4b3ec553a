-- How the laws that scripts lean on (`log_rules`, K12) come to calls from C: a call that answered 0 succeeded, and a time row stands in bytes.
use Rattle.std.specs.Prelude.{ℕ, ◌+◌, ◌*◌, ◌/◌, ◌%◌, ◌^◌, ◌<◌, ◌≤◌, ◌≡◌, refl, ℤ, take, drop}
use Rattle.std.proofs.Common.{arith, ap, sym, ◌∙◌, inl, length-append, length-drop, drop_at, length-take-le, take_at}
use mathlib.Core.List.{List, ◌++◌, map, flat_map}
use Rattle.std.proofs.Math.ListN.{length, get_or, get_or-append}
use Rattle.std.proofs.lemmas.List.{length-map}
use Rattle.format.specs.Answer.{over}
use Rattle.format.specs.Lists.{All, Bytes, list}
use Rattle.format.specs.Read.{Reading, gives, refuses}
use Rattle.format.specs.Time.{time_end}
use Rattle.format.specs.Laws.Lists.{all_map, all_mapped, all_take, list_same, take_drop}
use Rattle.format.specs.Laws.Refusals.{ComposingNumber}
use Rattle.format.specs.declared.Answer.{Answer}
use Rattle.from_c.specs.Numbers.{half_at, time_at, time_bytes, times_from}
use Rattle.from_c.specs.Laws.{bytes_back, length_times, times_back, times_number}
use Rattle.log_rules.specs.Pick.{joined, picked}
use Rattle.log_rules.specs.Scripts.{PicksTo, JoinsTo, ShiftsTo}
use Rattle.log_rules.specs.Shift.{moved, moves, shifted}
use Rattle.log_rules.specs.Laws.Logs.{log_bytes}
use Rattle.log_rules.proofs.Laws.Pick.{pick_from, pick_gives}
use Rattle.log_rules.specs.Laws.Shift.{Passes, moved_sum, shift_from}
use Rattle.log_rules.specs.Laws.Succeeds.{join_number, pick_number, shift_number}
use Rattle.log_shift.specs.Shifted.{Shifted}
use Rattle.vinculampe.specs.Calls.{VinPick, VinJoin, VinShift}
use Rattle.vinculampe.specs.Laws.{made_bytes}

-- ---- times that stand in the front of a run of bytes

module _ (x tail : List ℕ) where
  half_front : (at : ℕ) → at + 4 ≤ length x → half_at (x ++ tail) at ≡ half_at x at
  unfolding half_at
  half_front at h = rw (each at (omega arith), each (at + 1) (omega arith), each (at + 2) (omega arith), each (at + 3) (omega arith))
    where
      each : (n : ℕ) → n < length x → get_or (x ++ tail) n 0 ≡ get_or x n 0
      each n l = get_or-append x tail 0 n l

  time_front : (at : ℕ) → at + 8 ≤ length x → time_at (x ++ tail) at ≡ time_at x at
  unfolding time_at
  time_front at h = rw (half_front at (omega arith), half_front (at + 4) (omega arith))

  -- spare bytes behind whole eights say nothing
  times_front : length x % 8 ≡ 0 → length tail < 8 → times_from (x ++ tail) ≡ times_from x
  times_front whole few =
      let n : length (x ++ tail) / 8 ≡ length x / 8 = rw (length-append x tail) (omega arith) in
      ap (list (λ i. time_at (x ++ tail) (8 * i)) 0) n
      ∙ list_same (λ i. time_at (x ++ tail) (8 * i)) (λ i. time_at x (8 * i)) (length x / 8) 0 0 (λ i h. time_front (8 * (0 + i)) (omega arith))

-- a row written over the times of a run of bytes is what these then say
pub row_says : (row old : List ℕ) → All (λ t. t < 2 ^ 64) row → length row ≡ length old / 8 → times_from (over (flat_map time_bytes row) old) ≡ row
row_says row old small e =
    let n = length_times row in
    let few : length (drop (length (flat_map time_bytes row)) old) < 8 = rw (length-drop (length (flat_map time_bytes row)) old) (omega (arith, n)) in
    times_front (flat_map time_bytes row) (drop (length (flat_map time_bytes row)) old) (omega (arith, n)) few ∙ times_back row small

-- a run of bytes with its own times written over it stays
pub row_stays : (s : List ℕ) → Bytes s → over (flat_map time_bytes (times_from s)) s ≡ s
row_stays s bytes =
    let k : ℕ = 8 * (length s / 8) in
    let n : length (take k s) ≡ k = length-take-le k s (omega arith) in
    let few : length (drop k s) < 8 = rw (length-drop k s) (omega arith) in
    let split : take k s ++ drop k s ≡ s = take_drop k s in
    let same : times_from s ≡ times_from (take k s) = ap times_from (sym split) ∙ times_front (take k s) (drop k s) (omega (arith, n)) few in
    let front : flat_map time_bytes (times_from s) ≡ take k s = ap (flat_map time_bytes) same ∙ bytes_back (take k s) (all_take k bytes) (omega (arith, n)) in
    rw (front, n) split

-- what was written over is forgotten
pub over_twice : (x y z : List ℕ) → length x ≡ length y → over x (over y z) ≡ over x z
over_twice x y z e = ap (λ (l : List ℕ). x ++ l) (drop_at y (drop (length y) z) (length x) (sym e) ∙ ap (λ (n : ℕ). drop n z) (sym e))

-- ---- a call that answered 0 succeeded

composing_number : {n : ℕ} → (2 ≤ n) × (n ≤ 6) → ComposingNumber n
composing_number h = (omega (arith, h.0), inl h.1)

pub vin_picks : {log out : List ℕ} {buses : ℕ} → VinPick log buses out → PicksTo log buses out
vin_picks {log} {out} {buses} p =
    let room = length p.lent in
    let m = made_bytes (picked log buses room) p.answer p.lent p.left (λ n q e. composing_number (pick_number log buses room n q e)) p.contract p.done in
    record { room = length p.lent; answers = rw (sym p.wrote ∙ m.2) m.1 }

pub vin_joins : {first second out : List ℕ} → VinJoin first second out → JoinsTo first second out
vin_joins {first} {second} {out} j =
    let room = length j.lent in
    let m = made_bytes (joined first second room) j.answer j.lent j.left (λ n q e. composing_number (join_number first second room n q e)) j.contract j.done in
    record { room = length j.lent; answers = rw (sym j.wrote ∙ m.2) m.1 }

-- the shift of the times that the row says, the row's bytes, and that a log was written
pub record RowShifted (log times : List ℕ) (by : ℤ) (out times' : List ℕ) : Type 0 where
  pub shifts : ShiftsTo log (times_from times) by out (times_from times')
  pub row : times' ≡ over (flat_map time_bytes (times_from times')) times
  pub count : length (times_from times') ≡ length (times_from times)
  pub bytes : Bytes out

moved_small : (by : ℤ) (ts : List ℕ) → Passes (moves by) ts → All (λ t. t < 2 ^ 64) (map (moved by) ts)
moved_small by ts z = all_mapped (λ t. t < 2 ^ 64) (moved by) ts (all_map (λ t e. omega (arith, (moved_sum by t e).1)) z)

pub vin_shifts : {log times out times' : List ℕ} {by : ℤ} → Bytes log → VinShift log times by out times' → RowShifted log times by out times'
vin_shifts {log} {times} {out} {times'} {by} bytes s = go (shifted log (times_from times) by (length s.lent)) refl s.contract
  where
    go : (g : Reading) → shifted log (times_from times) by (length s.lent) ≡ g → Shifted g s.answer s.lent s.left times times'
        → RowShifted log times by out times'
    go (refuses n p second) e c =
        let z : n ≡ 0 = sym (ap (λ (x : Answer). x.number) c.0) ∙ s.done in
        absurd (omega (arith, z, (shift_number log (times_from times) by (length s.lent) n p second e).0))
    go (gives new ts) e c =
        let f = shift_from log (times_from times) by (length s.lent) new ts bytes e in
        let count : length ts ≡ length (times_from times) = ap length f.1.moved_times ∙ length-map (times_from times) (moved by) in
        let small = rw (sym f.1.moved_times) at (moved_small by (times_from times) f.1.row) in
        let says : times_from times' ≡ ts = ap times_from c.2 ∙ row_says ts times small (count ∙ times_number times) in
        let wrote : new ≡ out = sym (take_at new (drop (length new) s.lent) (length new) refl) ∙ sym (rw (c.0, c.1) refl) ∙ s.wrote in
        record {
          shifts = record { room = length s.lent; answers = rw (← wrote, says) e };
          row = rw says c.2;
          count = rw says count;
          bytes = rw wrote at (log_bytes f.1.new);
        }

-- what is picked is bytes
pub vin_picked : {log out : List ℕ} {buses : ℕ} → Bytes log → VinPick log buses out → Bytes out
vin_picked {log} {out} {buses} bytes p =
    let a = vin_picks p in
    let f = pick_from log buses a.room out bytes a.answers in
    log_bytes (pick_gives buses a.room out f.1 a.answers)

-- ---- rows that were written twice

module _ {log times l1 t1 l2 t2 : List ℕ} {a b : ℤ} (one : RowShifted log times a l1 t1) (two : RowShifted l1 t1 b l2 t2) where
  -- the second row over the first is the second over what was lent
  pub row_after : t2 ≡ over (flat_map time_bytes (times_from t2)) times
  row_after =
      let x : List ℕ = flat_map time_bytes (times_from t2) in
      let y : List ℕ = flat_map time_bytes (times_from t1) in
      let e : length x ≡ length y = length_times (times_from t2) ∙ ap (λ (n : ℕ). 8 * n) two.count ∙ sym (length_times (times_from t1)) in
      two.row ∙ ap (over x) one.row ∙ over_twice x y times e

  pub two_rows : {l3 t3 : List ℕ} {c : ℤ} → RowShifted log times c l3 t3 → times_from t2 ≡ times_from t3 → t2 ≡ t3
  two_rows sum e = row_after ∙ ap (λ (row : List ℕ). over (flat_map time_bytes row) times) e ∙ sym sum.row
