-- The refusals behind the groups, and what is handed over.
use Prim.Native.Nat.{ℕ, zero, suc, ◌+◌, ◌*◌, ◌-◌, ◌/◌, ◌%◌, ◌≤◌, ◌<◌}
use native.Mathlib.Nat.{div-add-mod'}
use native.Mathlib.Omega.{arith}
use mathlib.Core.Bool.{Bool, true, false, cond, ◌&&◌}
use mathlib.Core.Path.{◌≡◌, refl, sym, ap, ap₂, subst, ◌∙◌}
use mathlib.Core.List.{List, ◌++◌}
use lib.ListN.{length, take, drop}
use lib.Dec.{eqb, leb}
use borrow.Author.Tests.{le-leb, lt-leb, leb-true, eq-eqb}
use Rattle.format.specs.Lists.{list}
use Rattle.format.specs.Log.{log_of}
use Rattle.format.specs.Plan.{group_words, legal, times_needed, stored_at}
use Rattle.format.specs.Group.{Fault, none, found, group_time}
use Rattle.format.specs.Read.{Got, Reading, gives, refuses, roomed, unless_found, settled, reading, read_groups, open_in, misplaced}
use Rattle.format.specs.Answer.{Given, success, refusal}
use Rattle.format.specs.declared.Answer.{Answer}
use Rattle.format.specs.declared.Kind.{Kind}
use Rattle.format.specs.declared.Item.{Item}
use Rattle.format.specs.declared.Held.TheVariants.{Nothing}
use Rattle.format.specs.declared.Plan.{Plan}
use Rattle.format.specs.Laws.Lists.{length_list}
pub use Rattle.format.specs.Laws.Legal.{shape_of}
pub use Rattle.format.specs.Laws.Limits.{some_words}
use Rattle.format.specs.Laws.Limits.{Shape}
use Rattle.read_groups.specs.declared.Outcome.{Outcome}
use Rattle.read_groups.specs.Misplaced.{told, place_up}
use Rattle.read_groups.specs.Groups.{groups_on}
use Rattle.read_groups.specs.End.{Logged, Ended}
use Rattle.read_groups.proofs.Misplaced.{told_none, told_found}
use Rattle.notices.specs.Laws.Capture as notices
use Rattle.read.specs.Room.{room_number, Built}
use Rattle.capture_parts.proofs.Part.{numbers_few}
use Rattle.capture_parts.proofs.Given.{given_whole, table_long}
use Rattle.capture_parts.specs.Room.{earlier}

-- "6, 7", by the number
abbrev by_tests : Bool → Bool → ℕ
by_tests x w = cond x (cond w 0 7) 6

number_by : (u v w : Bool) → ◌≡◌ {A = ℕ} (earlier (cond u 0 6) (earlier (cond v 0 6) (cond w 0 7))) (by_tests (u && v) w)
number_by true true true = refl
number_by true true false = refl
number_by true false true = refl
number_by true false false = refl
number_by false true true = refl
number_by false true false = refl
number_by false false true = refl
number_by false false false = refl

six_by : (x w : Bool) (g h k : Reading) → by_tests x w ≡ 6 → cond x (cond w g h) k ≡ k
six_by true true g h k e = absurd (omega arith)
six_by true false g h k e = absurd (omega arith)
six_by false w g h k e = refl

seven_by : (x w : Bool) (g h k : Reading) → by_tests x w ≡ 7 → cond x (cond w g h) k ≡ h
seven_by true true g h k e = absurd (omega arith)
seven_by true false g h k e = refl
seven_by false w g h k e = absurd (omega arith)

neither_by : (u v w : Bool) → (by_tests (u && v) w ≡ 6 → ⊥) → (by_tests (u && v) w ≡ 7 → ⊥) → (u ≡ true) × (v ≡ true) × (w ≡ true)
neither_by true true true a b = (refl, refl, refl)
neither_by true true false a b = absurd (b refl)
neither_by true false w a b = absurd (a refl)
neither_by false v w a b = absurd (a refl)

pub fit : (bytes log_room need time_room : ℕ) → (room_number bytes log_room need time_room ≡ 6 → ⊥) → (room_number bytes log_room need time_room ≡ 7 → ⊥)
    → (bytes ≤ 32768) × (bytes ≤ log_room) × (need ≤ time_room)
unfolding room_number
fit bytes log_room need time_room a b =
    let e = number_by (leb bytes 32768) (leb bytes log_room) (leb need time_room) in
    let r = neither_by (leb bytes 32768) (leb bytes log_room) (leb need time_room) (λ z. a (e ∙ z)) (λ z. b (e ∙ z)) in
    (leb-true bytes 32768 r.0, leb-true bytes log_room r.1, leb-true need time_room r.2)

module _ (p : Plan) (c : List ℕ) (n log_room time_room : ℕ) (whole : List ℕ) where
  abbrev number : ℕ
  number = room_number (length whole) log_room (times_needed p n) time_room

  abbrev given : Reading
  given = gives whole (list (λ g. group_time p c (g * group_words p)) 0 (times_needed p n))

  abbrev fits : Bool
  fits = leb (length whole) 32768 && leb (length whole) log_room

  number_is : number ≡ by_tests fits (leb (times_needed p n) time_room)
  unfolding room_number
  number_is = number_by (leb (length whole) 32768) (leb (length whole) log_room) (leb (times_needed p n) time_room)

  pub log_beyond : number ≡ 6 → roomed p c n log_room time_room whole ≡ refuses 6 (length whole) 0
  log_beyond e = six_by fits (leb (times_needed p n) time_room) given (refuses 7 (times_needed p n) 0) (refuses 6 (length whole) 0) (sym number_is ∙ e)

  pub times_beyond : number ≡ 7 → roomed p c n log_room time_room whole ≡ refuses 7 (times_needed p n) 0
  times_beyond e = seven_by fits (leb (times_needed p n) time_room) given (refuses 7 (times_needed p n) 0) (refuses 6 (length whole) 0) (sym number_is ∙ e)

  both_given : length whole ≤ 32768 → length whole ≤ log_room → times_needed p n ≤ time_room
      → roomed p c n log_room time_room whole ≡ given
  both_given h k l = rw (le-leb (length whole) 32768 h, le-leb (length whole) log_room k, le-leb (times_needed p n) time_room l) refl

-- the log is copied and the times are written
pub given_copied : (p : Plan) (c : List ℕ) (n : ℕ) (whole built : List ℕ) (bytes need : ℕ) (log log' times times' : List ℕ) → Built whole built bytes
    → bytes ≤ 32768 → bytes ≤ length log → bytes + 7 ≤ length built → need ≡ times_needed p n → need ≤ length times
    → log' ≡ take bytes built ++ drop bytes log → times' ≡ list (λ g. group_time p c (g * group_words p)) 0 need ++ drop need times
    → Given (roomed p c n (length log) (length times) whole) (success bytes need) log log' times times'
given_copied p c n whole built bytes need log log' times times' b small fits room e some el et =
    let table : List ℕ = list (λ g. group_time p c (g * group_words p)) 0 (times_needed p n) in
    let t : length table ≡ times_needed p n = table_long p c (times_needed p n) in
    let x : length whole ≤ 32768 = omega (arith, b.size) in
    let y : length whole ≤ length log = omega (arith, b.size) in
    let z : times_needed p n ≤ length times = omega (arith, e) in
    given_whole (roomed p c n (length log) (length times) whole) (success bytes need) log log' times times' whole table
    (both_given p c n (length log) (length times) whole x y z)
    (ap₂ success b.size (e ∙ sym t))
    (el ∙ ap₂ (λ (l : List ℕ) (k : ℕ). l ++ drop k log) (b.is room) b.size)
    (et ∙ ap (λ (k : ℕ). list (λ g. group_time p c (g * group_words p)) 0 k ++ drop k times) e ∙ ap (λ (k : ℕ). table ++ drop k times) (sym t))

-- misplaced fill, as it was found
fill_by : (b : Bool) (x : Reading) (f : Fault) (at : ℕ → ℕ) (m q : ℕ) → told (place_up at m) ≡ f → q ≡ cond b m 0 → (q ≡ 0 → ⊥)
    → unless_found (cond b f none) x ≡ refuses 14 (at (q - 1)) 0
fill_by false x f at m q e a z = absurd (z a)
fill_by true x f at zero q e a z = absurd (z a)
fill_by true x f at (suc m) q e a z =
    let k : suc (at m) - 1 ≡ at m = omega arith in
    let j : m ≡ q - 1 = omega arith in
    ap (λ (y : Fault). unless_found y x) (sym e ∙ told_found (suc (at m)) (λ w. omega arith) ∙ ap (found 14) (k ∙ ap at j))

none_by : (b : Bool) (x : Reading) (f : Fault) (at : ℕ → ℕ) (m : ℕ) → told (place_up at m) ≡ f → cond b m 0 ≡ 0 → unless_found (cond b f none) x ≡ x
none_by false x f at m e a = refl
none_by true x f at m e a = ap (λ (y : Fault). unless_found y x) (sym e ∙ ap (λ (k : ℕ). told (place_up at k)) a ∙ told_none 0 refl)

-- what the groups brought
pub built_of : {ks : List Kind} {p : Plan} {c : List ℕ} {n : ℕ} {r : Outcome} {out : List ℕ} (l : Logged ks p c n r out) → Built (log_of l.items) out r.bytes
built_of l = record { size = l.bytes; is = l.log }

module _ (p : Plan) (c : List ℕ) (n log_room time_room : ℕ) (closed : Bool) where
  abbrev answers : Got → Reading
  answers g = settled p c n log_room time_room closed g

  -- behind the notices: misplaced fill, and room
  abbrev behind : List Item → Reading
  behind is = unless_found (cond closed (misplaced p (groups_on p c 0 n)) none) (roomed p c n log_room time_room (log_of is))

  module _ {ks : List Kind} {r : Outcome} {out : List ℕ} where
    pub stops_settled : Ended ks p c n r out → (r.number ≡ 0 → ⊥) → answers (read_groups p ks c n 0 Nothing 0) ≡ refuses r.number r.place r.second
    stops_settled e z = ap answers (e.refused z).is

    -- an open notice, or none
    pub open_settled : (l : Logged ks p c n r out) → (r.notice ≡ 0 → ⊥) → {place : ℕ} → place ≡ stored_at p (r.notice - 1)
        → answers (read_groups p ks c n 0 Nothing 0) ≡ refuses 15 place 0
    open_settled l d s =
        ap answers l.is ∙ ap (λ (f : Fault). unless_found f (behind l.items)) (sym l.notice ∙ notices.told_found (stored_at p) r.notice d) ∙ ap (λ (k : ℕ). refuses 15 k 0) (sym s)

    none_settled : (l : Logged ks p c n r out) → r.notice ≡ 0 → answers (read_groups p ks c n 0 Nothing 0) ≡ behind l.items
    none_settled l z = ap answers l.is ∙ ap (λ (f : Fault). unless_found f (behind l.items)) (sym l.notice ∙ notices.told_none (stored_at p) r.notice z)

    pub open_few : (l : Logged ks p c n r out) (k : ℕ) → k ≡ n * (3 * group_words p) → k ≤ 1048576 → Shape p → r.notice ≤ 349525
    open_few l k a b s = omega (arith, l.low.0, numbers_few p s n k a b)

    module _ (l : Logged ks p c n r out) (o : r.notice ≡ 0) (q : ℕ) (e : q ≡ cond closed r.misplaced 0) where
      pub fill_settled : {place : ℕ} → (q ≡ 0 → ⊥) → place ≡ stored_at p (q - 1) → answers (read_groups p ks c n 0 Nothing 0) ≡ refuses 14 place 0
      fill_settled z s =
          none_settled l o
          ∙ fill_by closed (roomed p c n log_room time_room (log_of l.items)) (misplaced p (groups_on p c 0 n)) (stored_at p) r.misplaced q l.fill e z
          ∙ ap (λ (k : ℕ). refuses 14 k 0) (sym s)

      pub fill_few : (k : ℕ) → k ≡ n * (3 * group_words p) → k ≤ 1048576 → Shape p → q ≤ 349525
      fill_few k a b s = omega (arith, e, asked_low closed, l.low.1, numbers_few p s n k a b)
        where
          asked_low : (b : Bool) → cond b r.misplaced 0 ≤ r.misplaced
          asked_low true = omega arith
          asked_low false = omega arith

      pub log_settled : q ≡ 0 → answers (read_groups p ks c n 0 Nothing 0) ≡ roomed p c n log_room time_room (log_of l.items)
      log_settled z =
          none_settled l o ∙ none_by closed (roomed p c n log_room time_room (log_of l.items)) (misplaced p (groups_on p c 0 n)) (stored_at p) r.misplaced l.fill (sym e ∙ z)

-- ---- "Reading checks 1, 8"

module _ (closed : Bool) (p : Plan) (ks : List Kind) (c : List ℕ) (log_room time_room : ℕ) where
  pub illegal_refused : legal p ks ≡ false → reading closed p ks c log_room time_room ≡ refuses 1 0 0
  unfolding reading
  illegal_refused e = rw e refl

  pub long_refused : legal p ks ≡ true → 1048576 < length c → reading closed p ks c log_room time_room ≡ refuses 8 (length c) 0
  unfolding reading
  long_refused e h = rw (e, lt-leb (length c) 1048576 h) refl

  pub ragged_refused : legal p ks ≡ true → length c ≤ 1048576 → eqb (length c % (3 * group_words p)) 0 ≡ false → reading closed p ks c log_room time_room ≡ refuses 8 (length c) 0
  unfolding reading
  ragged_refused e h z = rw (e, le-leb (length c) 1048576 h, z) refl

  pub read_on : legal p ks ≡ true → length c ≤ 1048576 → length c % (3 * group_words p) ≡ 0
      → reading closed p ks c log_room time_room
      ≡ settled p c (length c / (3 * group_words p)) log_room time_room closed (read_groups p ks c (length c / (3 * group_words p)) 0 Nothing 0)
  unfolding reading
  read_on e h z = rw (e, le-leb (length c) 1048576 h, eq-eqb (length c % (3 * group_words p)) 0 z) refl
