-- Laws our scripts lean on (document 02, K12), over the calls: each by the items of its logs, and `one_log`.
use Rattle.std.specs.Prelude.{ℕ, ◌≤◌, true, ◌≡◌, refl, List, [], ◌∷◌, map, ℤ, pos, ◌+ℤ◌, length}
use Rattle.std.proofs.Common.{arith, ap, ap₂, sym, ◌∙◌}
use Rattle.std.specs.Int.Bits.{bit_and}
use Rattle.format.specs.Bits.{bits_of, bytes_bits, num_from, num_of}
use Rattle.format.specs.Lists.{nil, cons, Bytes}
use Rattle.format.specs.Log.{field, log_of, next_at, parse_from, parsed}
use Rattle.format.specs.Read.{Reading, gives}
use Rattle.format.specs.Laws.Lists.{all_map}
use Rattle.log_rules.specs.Pick.{in_turn, keep, on_buses}
use Rattle.log_rules.specs.Scripts.{PicksTo, JoinsTo, ShiftsTo}
use Rattle.log_rules.specs.Shift.{in_limits, moved, moved_item, shifted}
use Rattle.log_rules.specs.Laws.Logs.{LogOf, log_of_lem, logged_sized}
use Rattle.log_rules.proofs.Laws.Pick.{pick_from, pick_gives, join_from, join_gives}
use Rattle.log_rules.specs.Laws.Shift.{ShiftOf, shift_fits, shift_from, shift_gives}
use Rattle.log_rules.specs.Laws.Scripts.InTurn.{kept_in_turn, nothing_turn, turn_associates, turn_nothing}
use Rattle.log_rules.proofs.Laws.Scripts.Items.{items_none, items_once, items_twice, kept_moved, kept_twice, times_none, times_once, times_twice}
use Rattle.format.specs.declared.Item.{Item}

-- what lifts a law from items to calls: the same items are the same log
one_log : {log log' : List ℕ} {is js : List Item} → LogOf log is → LogOf log' js → is ≡ js → log ≡ log'
one_log a b e = sym a.bytes ∙ ap log_of e ∙ b.bytes

-- ---- a call that succeeds, by the items of its logs

picks_from : {log out : List ℕ} {set : ℕ} → Bytes log → PicksTo log set out → (is : List Item) × LogOf log is
picks_from {log} {out} {set} bytes p = pick_from log set p.room out bytes p.answers

picks : {log out : List ℕ} {set : ℕ} {is : List Item} → LogOf log is → PicksTo log set out → LogOf out (keep (on_buses set) is)
picks {out = out} {set = set} l p = pick_gives set p.room out l p.answers

joins_from : {first second out : List ℕ} → Bytes first → Bytes second → JoinsTo first second out
    → (is : List Item) × (js : List Item) × LogOf first is × LogOf second js
joins_from {first} {second} {out} a b j = join_from first second j.room out a b j.answers

joins : {first second out : List ℕ} {is js : List Item} → LogOf first is → LogOf second js → JoinsTo first second out → LogOf out (in_turn is js)
joins {out = out} a b j = join_gives j.room out a b j.answers

shifts_from : {log times out times' : List ℕ} {by : ℤ} → Bytes log → ShiftsTo log times by out times' → (is : List Item) × ShiftOf log times by is out times'
shifts_from {log} {times} {out} {times'} {by} bytes s = shift_from log times by s.room out times' bytes s.answers

shifts : {log times out times' : List ℕ} {by : ℤ} {is : List Item} → LogOf log is → ShiftsTo log times by out times' → ShiftOf log times by is out times'
shifts {times = times} {out = out} {times' = times'} {by = by} l s = shift_gives times by s.room out times' l s.answers

-- the empty log is the byte 0
empty_log : LogOf (0 ∷ []) []
unfolding parsed parse_from next_at field num_of num_from bytes_bits bits_of
empty_log = log_of_lem (0 ∷ []) [] (cons {a = 0} (omega arith) nil) refl

-- ---- picking and joining

module _ {first second both out a b out' : List ℕ} {set : ℕ} where
  pub pick_of_join : Bytes first → Bytes second → JoinsTo first second both → PicksTo both set out
      → PicksTo first set a → PicksTo second set b → JoinsTo a b out' → out ≡ out'
  pick_of_join x y whole of-whole one other together =
      let j = joins_from x y whole in
      one_log (picks (joins j.2 j.3 whole) of-whole) (joins (picks j.2 one) (picks j.3 other) together) (kept_in_turn set j.0 j.1)

pub pick_twice : {log once twice out : List ℕ} {s t : ℕ} → Bytes log
    → PicksTo log s once → PicksTo once t twice → PicksTo log (bit_and s t) out → twice ≡ out
pick_twice {s = s} {t = t} bytes one two both =
    let p = picks_from bytes one in
    one_log (picks (picks p.1 one) two) (picks p.1 both) (kept_twice s t p.0)

pub join_associates : {a b c ab abc bc abc' : List ℕ} → Bytes a → Bytes b → Bytes c
    → JoinsTo a b ab → JoinsTo ab c abc → JoinsTo b c bc → JoinsTo a bc abc' → abc ≡ abc'
join_associates x y z ab abc bc abc' =
    let j = joins_from x y ab in
    let k = joins_from y z bc in
    one_log (joins (joins j.2 j.3 ab) k.3 abc) (joins j.2 (joins j.3 k.3 bc) abc') (turn_associates j.0 j.1 k.1)

pub join_empty : {log out : List ℕ} → Bytes log → JoinsTo log (0 ∷ []) out → out ≡ log
join_empty bytes e =
    let j = joins_from bytes (cons {a = 0} (omega arith) nil) e in
    one_log (joins j.2 empty_log e) j.2 (turn_nothing j.0)

pub empty_join : {log out : List ℕ} → Bytes log → JoinsTo (0 ∷ []) log out → out ≡ log
empty_join bytes e =
    let j = joins_from (cons {a = 0} (omega arith) nil) bytes e in
    one_log (joins empty_log j.3 e) j.3 (nothing_turn j.1)

-- ---- shifting

module _ {log times l1 t1 l2 t2 : List ℕ} {a b : ℤ} (bytes : Bytes log) (one : ShiftsTo log times a l1 t1) (two : ShiftsTo l1 t1 b l2 t2) where
  -- where both succeed and the sum is within the limits, the one shift succeeds
  pub shift_once : (room : ℕ) → in_limits (a +ℤ b) ≡ true → length log ≤ room → shifted log times (a +ℤ b) room ≡ gives l2 t2
  shift_once room limits fits =
      let s = shifts_from bytes one in
      let u = shifts s.1.new two in
      let row = rw s.1.moved_times at u.row in
      let e = shift_fits times (a +ℤ b) room s.1.old limits (items_once a b s.0 s.1.tags u.tags) (times_once a b times s.1.row row) fits in
      e ∙ ap₂ gives (ap log_of (sym (items_twice a b s.0 s.1.tags)) ∙ u.new.bytes)
      (sym (times_twice a b times s.1.row) ∙ ap (map (moved b)) (sym s.1.moved_times) ∙ sym u.moved_times)

-- a shift has one result, whatever room it is lent
shift_one : {log times out out' times' times'' : List ℕ} {by : ℤ} → Bytes log
    → ShiftsTo log times by out times' → ShiftsTo log times by out' times'' → (out ≡ out') × (times' ≡ times'')
shift_one bytes one other =
    let s = shifts_from bytes one in
    let u = shifts s.1.old other in
    (one_log s.1.new u.new refl, s.1.moved_times ∙ sym u.moved_times)

pub shift_twice : {log times l1 t1 l2 t2 l3 t3 : List ℕ} {a b : ℤ} → Bytes log
    → ShiftsTo log times a l1 t1 → ShiftsTo l1 t1 b l2 t2 → ShiftsTo log times (a +ℤ b) l3 t3 → (l2 ≡ l3) × (t2 ≡ t3)
shift_twice {log} {a = a} {b = b} bytes one two sum =
    let limits = (shifts_from bytes sum).1.limits in
    shift_one bytes (record { room = length log; answers = shift_once bytes one two (length log) limits (omega arith) }) sum

pub shift_none : {log times out times' : List ℕ} → Bytes log → ShiftsTo log times (pos 0) out times' → (out ≡ log) × (times' ≡ times)
shift_none {times = times} bytes none =
    let s = shifts_from bytes none in (
      one_log s.1.new s.1.old (items_none s.0 (all_map (λ i z. (logged_sized i z).0) s.1.old.logged)),
      s.1.moved_times ∙ times_none times,
    )

-- ---- picking and shifting

pub pick_shift : {log times p x t q y t' : List ℕ} {set : ℕ} {by : ℤ} → Bytes log
    → PicksTo log set p → ShiftsTo p times by x t → ShiftsTo log times by q t' → PicksTo q set y → (x ≡ y) × (t ≡ t')
pick_shift {set = set} {by = by} bytes pick shift-picked shift pick-shifted =
    let s = picks_from bytes pick in
    let u = shifts (picks s.1 pick) shift-picked in
    let v = shifts s.1 shift in
    (one_log u.new (picks v.new pick-shifted) (sym (kept_moved set by s.0)), u.moved_times ∙ sym v.moved_times)
