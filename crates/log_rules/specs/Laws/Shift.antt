-- What a shift that succeeds went by, and that items keep their place and width (document 02, K9).
use Rattle.std.specs.Prelude.{ℕ, zero, suc, ◌+◌, ◌*◌, ◌/◌, ◌%◌, ◌^◌, ◌<◌, ◌≤◌, Bool, true, false, cond, ◌&&◌, ◌≡◌, refl, length, leb, ltb, ℤ, pos, negsuc, nat_abs, ◌+ℤ◌}
use Rattle.std.proofs.Common.{arith, ap, ap₂, sym, ◌∙◌, length-append, le-leb, leb-true, ltb-true}
use mathlib.Core.List.{List, [], ◌∷◌, ◌++◌, map, flat_map}
use Rattle.std.proofs.lemmas.List.{length-map}
use Rattle.format.specs.Lists.{All, nil, cons, Bytes}
use Rattle.format.specs.Bits.{bits_of}
use Rattle.format.specs.Item.{bus_of_item, item_bits, item_fields, in_time, Field}
use Rattle.format.specs.Lawful.{Sized, TagSized}
use Rattle.format.specs.Log.{Parsed, items, fault, parsed, on_no_plan, log_of}
use Rattle.format.specs.Group.{Fault, none, found, or_else, unless}
use Rattle.format.specs.Read.{Reading, gives, refuses}
use Rattle.format.specs.Compose.{made}
use Rattle.format.specs.Time.{time_end, high_part, low_part, micro_part, microseconds}
use Rattle.log_rules.specs.Shift.{in_limits, is_time, moves, moved, time_of, tag_time, moved_tag, tag_moves, moved_item, item_moves, first_failing, first_unmoved}
use Rattle.log_rules.specs.Shift.{unshifted, shifted_in, if_shifted, shift_parsed, shifted, timeless, timeless_tag}
use Rattle.format.specs.Laws.Tests.{clash, and_true}
use Rattle.format.specs.Laws.Log.Fields.{size}
use Rattle.format.specs.Laws.Log.Back.{Logged}
use Rattle.format.specs.Laws.Log.Sizes.{narrow_of, in_time_lem, fields_length}
use Rattle.log_rules.specs.Laws.Faults.{not_none, or_none, unless_none}
use Rattle.log_rules.specs.Laws.Logs.{LogOf, log_of_lem, log_new, same_length, logged_sized}
use Rattle.format.specs.declared.Time.{Time}
use Rattle.format.specs.declared.Tag.{Tag}
use Rattle.format.specs.declared.Tag.TheVariants.{Untagged, At}
use Rattle.format.specs.declared.Response.TheVariants.{Untimed, After}
use Rattle.format.specs.declared.Item.{Item}
use Rattle.format.specs.declared.Item.TheVariants.{Command, Status, Data, BusError, Arinc, Notice, User, Overflow}

-- ---- one time

-- a time that may be moved is moved to the sum, and to a time
is_time_lem : (z : ℤ) → is_time z ≡ true → (pos (nat_abs z) ≡ z) × (nat_abs z < time_end)
is_time_lem (pos n) e = (refl, ltb-true n time_end e)
is_time_lem (negsuc n) e = clash e

pub moved_sum : (by : ℤ) (t : ℕ) → moves by t ≡ true → (pos (moved by t) ≡ pos t +ℤ by) × (moved by t < time_end)
moved_sum by t e = is_time_lem (pos t +ℤ by) e

-- ---- a tag

time_sized : (n : ℕ) → n < time_end → TagSized (At (time_of n))
time_sized n h = let q : n / 10000 < 4294967296 = omega arith in omega arith

moved_tag_sized : (by : ℤ) (t : Tag) → tag_moves by t ≡ true → TagSized (moved_tag by t)
moved_tag_sized by Untagged e = tt
moved_tag_sized by (At t) e = time_sized (moved by (tag_time t)) (moved_sum by (tag_time t) e).1

-- ---- an item

moved_sized : (by : ℤ) (i : Item) → Sized i → item_moves by i ≡ true → Sized (moved_item by i)
unfolding moved_item item_moves
moved_sized by (Command bus s tag word) z e = (z.0, moved_tag_sized by tag e)
moved_sized by (Status bus s Untimed word) z e = z
moved_sized by (Status bus s (After r) word) z e = z
moved_sized by (Data bus s word) z e = z
moved_sized by (BusError bus s word) z e = z
moved_sized by (Arinc bus c tag word) z e = (z.0, z.1, moved_tag_sized by tag e)
moved_sized by (Notice bus c diag) z e = z
moved_sized by (User bus three word) z e = z
moved_sized by (Overflow bus word) z e = z

pub moved_bus : (by : ℤ) (i : Item) → bus_of_item (moved_item by i) ≡ bus_of_item i
unfolding moved_item bus_of_item
moved_bus by (Command bus s tag word) = refl
moved_bus by (Status bus s resp word) = refl
moved_bus by (Data bus s word) = refl
moved_bus by (BusError bus s word) = refl
moved_bus by (Arinc bus c tag word) = refl
moved_bus by (Notice bus c diag) = refl
moved_bus by (User bus three word) = refl
moved_bus by (Overflow bus word) = refl

moved_fields : (by : ℤ) (i : Item) → size (item_fields (moved_item by i)) ≡ size (item_fields i)
unfolding moved_item item_fields
moved_fields by (Command bus s Untagged word) = refl
moved_fields by (Command bus s (At t) word) = refl
moved_fields by (Status bus s resp word) = refl
moved_fields by (Data bus s word) = refl
moved_fields by (BusError bus s word) = refl
moved_fields by (Arinc bus c Untagged word) = refl
moved_fields by (Arinc bus c (At t) word) = refl
moved_fields by (Notice bus c diag) = refl
moved_fields by (User bus three word) = refl
moved_fields by (Overflow bus word) = refl

-- an item keeps its width in the log
pub moved_length : (by : ℤ) (i : Item) → length (item_bits (moved_item by i)) ≡ length (item_bits i)
unfolding item_bits
moved_length by i = fields_length (item_fields (moved_item by i)) ∙ moved_fields by i ∙ sym (fields_length (item_fields i))

logged_of : (i : Item) → Sized i → bus_of_item i < 16 → Logged on_no_plan i
logged_of i z h = record { narrow = narrow_of i z h; passed = rw (in_time_lem i z) refl }

moved_logged : (by : ℤ) (i : Item) → Logged on_no_plan i → item_moves by i ≡ true → Logged on_no_plan (moved_item by i)
moved_logged by i w e =
    let z = logged_sized i w in
    logged_of (moved_item by i) (moved_sized by i z.0 e) (rw (moved_bus by i) z.1)

-- ---- a row

-- each passes the test
abbrev pub Passes : {A : Type 0} → (A → Bool) → List A → Type 0
Passes f l = All (λ a. f a ≡ true) l

pub all_pass : (test : Item → Bool) (number p : ℕ) (is : List Item) → first_failing test number p is ≡ none → Passes test is
unfolding first_failing
all_pass test number p [] e = nil
all_pass test number p (i ∷ is) e = go (test i) refl e (all_pass test number (p + length (item_bits i)) is)
  where
    go : (b : Bool) → test i ≡ b → cond b (first_failing test number (p + length (item_bits i)) is) (found number p) ≡ none
        → (first_failing test number (p + length (item_bits i)) is ≡ none → Passes test is) → Passes test (i ∷ is)
    go true t z ih = cons t (ih z)
    go false t z ih = not_none z

all_unmoved : (by : ℤ) (k : ℕ) (ts : List ℕ) → first_unmoved by k ts ≡ none → Passes (moves by) ts
unfolding first_unmoved
all_unmoved by k [] e = nil
all_unmoved by k (t ∷ ts) e = go (moves by t) refl e (all_unmoved by (k + 1) ts)
  where
    go : (b : Bool) → moves by t ≡ b → cond b (first_unmoved by (k + 1) ts) (found 17 k) ≡ none
        → (first_unmoved by (k + 1) ts ≡ none → Passes (moves by) ts) → Passes (moves by) (t ∷ ts)
    go true m z ih = cons m (ih z)
    go false m z ih = not_none z

-- and what passes has no first that fails
pass_all : (test : Item → Bool) (number p : ℕ) (is : List Item) → Passes test is → first_failing test number p is ≡ none
unfolding first_failing
pass_all test number p [] nil = refl
pass_all test number p (i ∷ is) (cons z zs) = rw z (pass_all test number (p + length (item_bits i)) is zs)

unmoved_all : (by : ℤ) (k : ℕ) (ts : List ℕ) → Passes (moves by) ts → first_unmoved by k ts ≡ none
unfolding first_unmoved
unmoved_all by k [] nil = refl
unmoved_all by k (t ∷ ts) (cons z zs) = rw z (unmoved_all by (k + 1) ts zs)

moved_row : (by : ℤ) (is : List Item) → All (Logged on_no_plan) is → Passes (item_moves by) is → All (Logged on_no_plan) (map (moved_item by) is)
moved_row by [] w z = nil
moved_row by (i ∷ is) (cons w ws) (cons z zs) = cons (moved_logged by i w z) (moved_row by is ws zs)

row_length : (by : ℤ) (is : List Item) → length (flat_map item_bits (map (moved_item by) is)) ≡ length (flat_map item_bits is)
unfolding flat_map
row_length by [] = refl
row_length by (i ∷ is) =
    length-append (item_bits (moved_item by i)) (flat_map item_bits (map (moved_item by) is))
    ∙ ap₂ ◌+◌ (moved_length by i) (row_length by is)
    ∙ sym (length-append (item_bits i) (flat_map item_bits is))

-- ---- the call

-- what a shift that gives a log and times went by
pub record ShiftOf (log times : List ℕ) (by : ℤ) (is : List Item) (out times' : List ℕ) : Type 0 where
  pub old : LogOf log is
  pub limits : in_limits by ≡ true
  pub tags : Passes (item_moves by) is
  pub row : Passes (moves by) times
  pub new : LogOf out (map (moved_item by) is)
  pub moved_times : times' ≡ map (moved by) times

no_gives : {A : Type 0} {n q second : ℕ} {log times : List ℕ} → refuses n q second ≡ gives log times → A
no_gives e = let z : ◌≡◌ {A = ℕ} 0 1 = cc in absurd (omega arith)

same_gives : {a b c d : List ℕ} → gives a b ≡ gives c d → (a ≡ c) × (b ≡ d)
same_gives e = (cc, cc)

shifted_items : (log times : List ℕ) (by : ℤ) (room : ℕ) (is : List Item) (out times' : List ℕ) → LogOf log is
    → shift_parsed times by room (items is) ≡ gives out times' → ShiftOf log times by is out times'
shifted_items log times by room is out times' l e = go (unshifted by times is) refl e
  where
    new : List ℕ
    new = log_of (map (moved_item by) is)

    fits : (b : Bool) → (leb (length new) 32768 && leb (length new) room) ≡ b → cond b (gives new (map (moved by) times)) (refuses 6 (length new) 0) ≡ gives out times'
        → unshifted by times is ≡ none → ShiftOf log times by is out times'
    fits true t z n =
        let a = or_none _ _ n in
        let c = or_none _ _ a.1 in
        let p : Passes (item_moves by) is = all_pass (item_moves by) 17 0 is c.0 in
        let g = same_gives z in
        record {
          old = l;
          limits = unless_none _ 17 0 a.0;
          tags = p;
          row = all_unmoved by 0 times c.1;
          new = rw g.0 at (log_new (map (moved_item by) is) (moved_row by is l.logged p) (leb-true _ _ (and_true _ _ t).0));
          moved_times = sym g.1;
        }
    fits false t z n = no_gives z

    go : (f : Fault) → unshifted by times is ≡ f → if_shifted f (shifted_in room new (map (moved by) times)) ≡ gives out times' → ShiftOf log times by is out times'
    go none n z = fits (leb (length new) 32768 && leb (length new) room) refl z n
    go (found k q) n z = no_gives z

parsed_of : (r : Parsed) (times : List ℕ) (by : ℤ) (room : ℕ) (out times' : List ℕ) → shift_parsed times by room r ≡ gives out times' → (is : List Item) × (r ≡ items is)
parsed_of (items is) times by room out times' e = (is, refl)
parsed_of (fault n q) times by room out times' e = no_gives e

-- the log has items, and is shifted as the sentences say
pub shift_from : (log times : List ℕ) (by : ℤ) (room : ℕ) (out times' : List ℕ) → Bytes log → shifted log times by room ≡ gives out times'
    → (is : List Item) × ShiftOf log times by is out times'
unfolding shifted
shift_from log times by room out times' b e =
    let r = parsed_of (parsed on_no_plan log) times by room out times' e in
    (r.0, shifted_items log times by room r.0 out times' (log_of_lem log r.0 b r.1) (rw r.1 at e))

-- the same, of a log whose items are known
pub shift_gives : {log : List ℕ} {is : List Item} (times : List ℕ) (by : ℤ) (room : ℕ) (out times' : List ℕ) → LogOf log is
    → shifted log times by room ≡ gives out times' → ShiftOf log times by is out times'
unfolding shifted
shift_gives {log} {is} times by room out times' l e = shifted_items log times by room is out times' l (rw l.parses at e)

-- "Response times, item order and log length stay."
pub shift_length : (log times : List ℕ) (by : ℤ) (room : ℕ) (out times' : List ℕ) → Bytes log → shifted log times by room ≡ gives out times'
    → (length out ≡ length log) × (length times' ≡ length times)
shift_length log times by room out times' b e =
    let s = shift_from log times by room out times' b e in (
      sym (ap length s.1.new.bytes) ∙ same_length (map (moved_item by) s.0) s.0 (row_length by s.0) ∙ ap length s.1.old.bytes,
      ap length s.1.moved_times ∙ length-map times (moved by),
    )

-- and it succeeds where nothing refuses it, in the room of its log
pub shift_fits : {log : List ℕ} {is : List Item} (times : List ℕ) (by : ℤ) (room : ℕ) → LogOf log is → in_limits by ≡ true
    → Passes (item_moves by) is → Passes (moves by) times → length log ≤ room
    → shifted log times by room ≡ gives (log_of (map (moved_item by) is)) (map (moved by) times)
unfolding shifted
shift_fits {log} {is} times by room l limits tags row fits =
    let new : List ℕ = log_of (map (moved_item by) is) in
    let n : length new ≡ length log = same_length (map (moved_item by) is) is (row_length by is) ∙ ap length l.bytes in
    rw (
      l.parses,
      limits,
      pass_all (item_moves by) 17 0 is tags,
      unmoved_all by 0 times row,
      le-leb (length new) 32768 (omega (arith, n, l.short)),
      le-leb (length new) room (omega (arith, n)),
    ) refl

-- what is not a time stays
tag_timeless : (by : ℤ) (t : Tag) → timeless_tag (moved_tag by t) ≡ timeless_tag t
tag_timeless by Untagged = refl
tag_timeless by (At t) = refl

item_timeless : (by : ℤ) (i : Item) → timeless (moved_item by i) ≡ timeless i
unfolding timeless moved_item
item_timeless by (Command bus b tag word) = ap (λ (t : Tag). Command bus b t word) (tag_timeless by tag)
item_timeless by (Status bus b resp word) = refl
item_timeless by (Data bus b word) = refl
item_timeless by (BusError bus b word) = refl
item_timeless by (Arinc bus c tag word) = ap (λ (t : Tag). Arinc bus c t word) (tag_timeless by tag)
item_timeless by (Notice bus c diag) = refl
item_timeless by (User bus three word) = refl
item_timeless by (Overflow bus word) = refl

pub rest_stays : (by : ℤ) (is : List Item) → map timeless (map (moved_item by) is) ≡ map timeless is
rest_stays by [] = refl
rest_stays by (i ∷ is) = ap₂ (λ (x : Item) (l : List Item). x ∷ l) (item_timeless by i) (rest_stays by is)

-- ---- refusals, in their order

pub shift_refuses : (log times : List ℕ) (by : ℤ) (room n p : ℕ) → parsed on_no_plan log ≡ fault n p → shifted log times by room ≡ refuses n p 0
unfolding shifted
shift_refuses log times by room n p e = rw e refl

pub shift_beyond : {log : List ℕ} {is : List Item} (times : List ℕ) (by : ℤ) (room : ℕ) → LogOf log is → in_limits by ≡ false → shifted log times by room ≡ refuses 17 0 0
unfolding shifted
shift_beyond times by room l h = rw (l.parses, h) refl

pub shift_unmovable : {log : List ℕ} {is : List Item} (times : List ℕ) (by : ℤ) (room p : ℕ) → LogOf log is → in_limits by ≡ true
    → first_failing (item_moves by) 17 0 is ≡ found 17 p → shifted log times by room ≡ refuses 17 p 0
unfolding shifted
shift_unmovable times by room p l h e = rw (l.parses, h, e) refl
