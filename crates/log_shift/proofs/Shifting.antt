-- What a shift answers, of what was put and of the row.
use Prim.Native.Nat.{ℕ, zero, suc, ◌+◌, ◌*◌, ◌/◌, ◌≤◌, ◌<◌}
use native.Mathlib.Decide.{dec_lt}
use native.Mathlib.Omega.{arith}
use mathlib.Core.Bool.{Bool, true, false}
use mathlib.Core.Path.{◌≡◌, refl, ap, ap₂, sym, subst, ◌∙◌}
use mathlib.Core.List.{List, [], ◌∷◌, ◌++◌, map, flat_map}
use lib.ListN.{length, take, drop, get_or, length-map, get_or-map}
use lib.Dec.{leb}
use lib.IntN.{ℤ}
use lib.Seq.{take_all}
use borrow.Author.Tests.{le-leb, lt-leb}
use borrow.Rule.Slice.PartMut.{put_mid}
use Rattle.format.specs.Answer.{over, refusal}
use Rattle.format.specs.Group.{Fault, none, found, or_else}
use Rattle.format.specs.Item.{item_bits}
use Rattle.format.specs.Log.{Parsed, items, fault, log_of, on_no_plan, parsed}
use Rattle.format.specs.Laws.Front.{Front, take_more}
use Rattle.format.specs.Laws.Lists.{get_or_list}
use Rattle.format.specs.declared.Answer.{Answer}
use Rattle.format.specs.declared.Item.{Item}
use Rattle.from_c.specs.Numbers.{time_at, time_bytes, times_from}
use Rattle.from_c.specs.Laws.{length_times, times_number}
use Rattle.from_c.proofs.Times.{front_over, times_more}
use Rattle.log_close.specs.Made.{Finishable, StandsIn}
use Rattle.log_close.proofs.Giving.{no_all, same_pen}
use Rattle.log_put.specs.declared.Put.{Put}
use Rattle.log_put.specs.declared.Put.TheVariants.{All, Fault as Faulty}
use Rattle.log_rules.specs.Shift.{first_failing, first_unmoved, if_shifted, in_limits, item_moves, moved, moved_item, moves, shifted, shifted_in, shift_parsed, unshifted}
use Rattle.log_move.specs.Moved.{judged, moved_number, moved_row, row_of}
use Rattle.log_move.proofs.Times.{number_moved}
use Rattle.log_write.specs.Pen.{Wrote, closed_in, closed_size}
use Rattle.log_write.specs.declared.Pen.{Pen}
use Rattle.log_write.proofs.Writing.{closed_log, closed_size_lem}
use Rattle.log_shift.specs.Shifted.{moved_bytes, Moves, put_shifted, row_shifted, Shifted, ShiftsRow}

-- ---- the row written over

-- entry i of the row moved
entry_moved : (by : ℤ) (s : List ℕ) (i : ℕ) → i < length s / 8 → get_or (map (moved by) (times_from s)) i (moved by 0) ≡ moved by (time_at s (8 * i))
entry_moved by s i h =
    get_or-map (moved by) (times_from s) i 0 ∙ ap (moved by) (get_or_list (λ k. time_at s (8 * k)) 0 (length s / 8) i 0 h ∙ same i)
  where
    same : (k : ℕ) → time_at s (8 * (0 + k)) ≡ time_at s (8 * k)
    same k = let z : 0 + k ≡ k = omega arith in rw z refl

default : (l : List ℕ) (i a b : ℕ) → i < length l → get_or l i a ≡ get_or l i b
default [] i a b h = absurd (omega arith)
default (x ∷ l) zero a b h = refl
default (x ∷ l) (suc i) a b h = default l i a b (omega arith)

pub row_more : (by : ℤ) (d xs ys : List ℕ) (i k t : ℕ) → Moves by d → Front (flat_map time_bytes (take i (map (moved by) (times_from d)))) d xs (8 * i) → i < length d / 8 → k ≡ 8
    → t ≡ moved_number by (time_at d (8 * i)) → ys ≡ time_bytes t → Front (flat_map time_bytes (take (i + 1) (map (moved by) (times_from d)))) d (put_mid (8 * i) k xs ys) (8 * (i + 1))
row_more by d xs ys i k t m f h e g y =
    let r : List ℕ = map (moved by) (times_from d) in
    let l : length r ≡ length d / 8 = length-map (times_from d) (moved by) ∙ times_number d in
    let w : t ≡ get_or r i 0 = g ∙ number_moved by (time_at d (8 * i)) (m i h) ∙ sym (default r i 0 (moved by 0) (omega arith) ∙ entry_moved by d i h) in
    times_more r i k f (omega arith) e (omega arith) (y ∙ ap time_bytes w)

pub row_over : (by : ℤ) (d xs : List ℕ) (i : ℕ) → Front (flat_map time_bytes (take i (map (moved by) (times_from d)))) d xs (8 * i) → i ≡ length d / 8 → xs ≡ moved_bytes by d
row_over by d xs i f e =
    let r : List ℕ = map (moved by) (times_from d) in
    let l : length r ≡ i = length-map (times_from d) (moved by) ∙ times_number d ∙ sym e in
    front_over f ∙ ap (λ (q : List ℕ). over (flat_map time_bytes q) d) (take_all i r (omega (arith, l)))

-- ---- the answer of items that are put

module _ (by : ℤ) (is : List Item) (built : List ℕ) (p : Pen) (w : Wrote (flat_map item_bits is) built p) (times : List ℕ) where
  pub row_late : (room late : ℕ) (out : List ℕ) (r : Answer) → first_unmoved by 0 (times_from times) ≡ found 17 late → r ≡ refusal 17 late 0
      → Shifted (row_shifted by (times_from times) room is) r out out times times
  row_late room late out r e a = rw e (a, refl, refl)

  module _ (clear : first_unmoved by 0 (times_from times) ≡ none) (bytes : ℕ) (size : bytes ≡ closed_size p) where
    long : bytes ≡ length (log_of is)
    long = size ∙ closed_size_lem is built p w

    pub row_beyond : (room : ℕ) (out : List ℕ) (r : Answer) → 32768 < bytes → r ≡ refusal 6 bytes 0 → Shifted (row_shifted by (times_from times) room is) r out out times times
    row_beyond room out r h a =
        let z : leb (length (log_of is)) 32768 ≡ false = lt-leb (length (log_of is)) 32768 (omega (arith, long)) in
        rw (clear, z, ← long) (a, refl, refl)

    pub row_short : (room : ℕ) (out : List ℕ) (r : Answer) → bytes ≤ 32768 → room < bytes → r ≡ refusal 6 bytes 0 → Shifted (row_shifted by (times_from times) room is) r out out times times
    row_short room out r h g a =
        let y : leb (length (log_of is)) 32768 ≡ true = le-leb (length (log_of is)) 32768 (omega (arith, long)) in
        let z : leb (length (log_of is)) room ≡ false = lt-leb (length (log_of is)) room (omega (arith, long)) in
        rw (clear, y, z, ← long) (a, refl, refl)

    pub row_all : (built' out out' times' : List ℕ) (number : ℕ) → built' ≡ closed_in built p → bytes ≤ 32768 → bytes ≤ length out → bytes + 7 ≤ length built
        → out' ≡ take bytes built' ++ drop bytes out → number ≡ length times / 8 → times' ≡ moved_bytes by times
        → Shifted (row_shifted by (times_from times) (length out) is) (record { number = 0; place = 0; second = 0; bytes = bytes; times = number }) out out' times times'
    row_all built' out out' times' number c h g k o n m =
        let y : leb (length (log_of is)) 32768 ≡ true = le-leb (length (log_of is)) 32768 (omega (arith, long)) in
        let z : leb (length (log_of is)) (length out) ≡ true = le-leb (length (log_of is)) (length out) (omega (arith, long)) in
        let t : take bytes built' ≡ log_of is = rw (c, long) (closed_log is built p w (omega (arith, long))) in
        let q : number ≡ length (map (moved by) (times_from times)) = n ∙ sym (length-map (times_from times) (moved by) ∙ times_number times) in
        rw (clear, y, z) (
          ap (λ (b : ℕ). record { number = 0; place = 0; second = 0; bytes = b; times = number }) long ∙ ap (λ (j : ℕ). record { number = 0; place = 0; second = 0; bytes = length (log_of is); times = j }) q,
          o ∙ ap (λ (l : List ℕ). l ++ drop bytes out) t ∙ ap (λ (j : ℕ). log_of is ++ drop j out) long,
          m,
        )

-- ---- of what was put

same_number : {n q m k : ℕ} → Faulty n q ≡ Faulty m k → n ≡ m
same_number z = cc

same_place : {n q m k : ℕ} → Faulty n q ≡ Faulty m k → q ≡ k
same_place z = cc

refusals : (n q m k : ℕ) → Faulty n q ≡ Faulty m k → refusal n q 0 ≡ refusal m k 0
refusals n q m k z = ap₂ (λ (x y : ℕ). refusal x y 0) (same_number z) (same_place z)

pub put_all : (by : ℤ) (row : Parsed) (most room : ℕ) (built out out' times times' : List ℕ) (put : Put) (p : Pen) (r : Answer) → StandsIn row most built put → put ≡ All p
    → ((is : List Item) → Wrote (flat_map item_bits is) built p → Shifted (row_shifted by (times_from times) room is) r out out' times times')
    → Shifted (put_shifted by (times_from times) room row) r out out' times times'
put_all by (items is) most room built out out' times times' put p r s e g = g is (subst (λ (q : Pen). Wrote (flat_map item_bits is) built q) (same_pen (sym s.1 ∙ e)) s.4)
put_all by (fault n q) most room built out out' times times' put p r s e g = no_all (sym s ∙ e)

pub put_fault : (by : ℤ) (row : Parsed) (most room : ℕ) (built out times : List ℕ) (put : Put) (n q : ℕ) (r : Answer) → StandsIn row most built put → put ≡ Faulty n q
    → r ≡ refusal n q 0 → Shifted (put_shifted by (times_from times) room row) r out out times times
put_fault by (items is) most room built out times put n q r s e a = no_all (sym e ∙ s.1)
put_fault by (fault m k) most room built out times put n q r s e a = (a ∙ refusals n q m k (sym e ∙ s), refl, refl)

-- an array that has room for a log as long as this one, or for the longest
pub room_for : (n room : ℕ) → (room < 32776 → n + 8 ≤ room) → n ≤ 32768 → n + 8 ≤ room
room_for n room g h = go (dec_lt room 32776)
  where
    go : Dec (room < 32776) → n + 8 ≤ room
    go (yes y) = g y
    go (no y) = omega arith

pub put_finishes : (row : Parsed) (n room : ℕ) (built : List ℕ) (put : Put) → StandsIn row (n * 8) built put → (room < 32776 → n + 8 ≤ room) → Finishable put room
unfolding closed_size
put_finishes (items is) n room built put (p, e, h, f, w) g = rw e (omega arith, λ z. go (dec_lt room 32776) z)
  where
    go : Dec (room < 32776) → (p.bits + 11) / 8 ≤ 32768 → (p.bits + 11) / 8 + 7 ≤ room
    go (yes y) z = omega (arith, g y)
    go (no y) z = omega arith
put_finishes (fault k q) n room built put t g = rw t tt

-- ---- the call

pub within_limits : (log times : List ℕ) (by : ℤ) (room : ℕ) → in_limits by ≡ true → shifted log times by room ≡ put_shifted by times room (moved_row by (parsed on_no_plan log))
unfolding shifted
within_limits log times by room h = go (parsed on_no_plan log)
  where
    tags : (f : Fault) (is : List Item) → if_shifted (or_else f (first_unmoved by 0 times)) (shifted_in room (log_of is) (map (moved by) times)) ≡ put_shifted by times room (row_of f is)
    tags none is = refl
    tags (found n q) is = refl

    go : (r : Parsed) → shift_parsed times by room r ≡ put_shifted by times room (moved_row by r)
    go (fault n q) = refl
    go (items is) = rw h (tags (first_failing (item_moves by) 17 0 is) (map (moved_item by) is))

pub beyond_limits : (log times : List ℕ) (by : ℤ) (room : ℕ) (out row : List ℕ) (put : Put) (n q : ℕ) (r : Answer) → in_limits by ≡ false → put ≡ judged (parsed on_no_plan log) 0 → put ≡ Faulty n q
    → r ≡ refusal n q 0 → Shifted (shifted log times by room) r out out row row
unfolding shifted
beyond_limits log times by room out row put n q r h e f a = go (parsed on_no_plan log) (sym f ∙ e)
  where
    go : (s : Parsed) → Faulty n q ≡ judged s 0 → Shifted (shift_parsed times by room s) r out out row row
    go (fault m k) z = (a ∙ refusals n q m k z, refl, refl)
    go (items is) z = rw h (a ∙ refusals n q 17 0 z, refl, refl)

pub never_all : {A : Type 0} (s : Parsed) (place : ℕ) (put : Put) (p : Pen) → put ≡ judged s place → put ≡ All p → A
never_all (items is) place put p e f = no_all (sym e ∙ f)
never_all (fault n q) place put p e f = no_all (sym e ∙ f)
