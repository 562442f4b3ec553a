-- What the user is promised, as theorems over the definitions. The proofs stand in the modules under Laws that each names.
use Rattle.std.specs.Prelude.{ℕ, ◌+◌, ◌*◌, ◌-◌, ◌/◌, ◌%◌, ◌^◌, ◌≤◌, ◌<◌, Bool, true, false, ◌≡◌, refl, ◌↔◌, ◌⊎◌, length, get_or}
use Rattle.std.proofs.Common.{arith, ap, sym, ◌∙◌, eq-eqb, ne_eqb, le-leb}
use mathlib.Core.List.{List, ◌∷◌, ◌++◌, map, flat_map}
use Rattle.std.proofs.lemmas.List.{length-map}
use Rattle.format.specs.Lists.{All, Bytes, list}
use Rattle.format.specs.Word.{sent, bare, part_of, word_at, sync, fill}
use Rattle.format.specs.Time.{time_end}
use Rattle.format.specs.Bits.{bytes_bits}
use Rattle.format.specs.Plan.{legal, lead, slots, group_words, place_of, times_needed}
use Rattle.format.specs.Item.{item_words, item_parts, high_label, low_label, sided}
use Rattle.format.specs.Lawful.{Lawful, Sound}
use Rattle.format.specs.Log.{parsed, parse_from, on_plan, items, log_of}
use Rattle.format.specs.Reader.{Slot, run, data_of, places_of, bad_at, ran}
use Rattle.format.specs.Check.{check_word}
use Rattle.format.specs.Group.{time_words}
use Rattle.format.specs.Notices.{first_open, bit_of, first_word_of}
use Rattle.format.specs.Compose.{Composed, composed, made, refused, capture_of, groups_for}
use Rattle.format.specs.Read.{Reading, reading, gives, refuses, got, stopped, finish, onward, data_words, groups_in, read_groups, slots_from}
use Rattle.format.specs.Before as was
use Rattle.format.specs.Before.{plain}
use Rattle.format.specs.Answer.{Made, Given}
use Rattle.format.specs.Laws.Log.Back as Back
use Rattle.format.specs.Laws.Log.Forth as Forth
use Rattle.format.specs.Laws.Log.Enough.{never_out}
use Rattle.format.proofs.Laws.Reader.Words as Words
use Rattle.format.specs.Laws.Legal.{lawful_logged, logged_lawful}
use Rattle.format.specs.Laws.Lists.{all_map}
use Rattle.format.proofs.Laws.ThereAndBack.{ComposedOf, made_by, there_and_back, made_fits}
use Rattle.format.specs.Laws.Accepted.Given.{ReadOf, closed_plain, read_by, given_bytes, given_times}
use Rattle.format.proofs.Laws.Accepted.Together.{Says, given_parts, given_parses, item_says, words_count}
use Rattle.format.proofs.Laws.Exactly as Exactly
use Rattle.format.proofs.Laws.Composes.{lawful_composed}
use Rattle.format.proofs.Laws.Stands as Stands
use Rattle.format.specs.Laws.Notices.{Answered}
use Rattle.format.specs.Laws.Meaning.{OpenAt, FindsWord, first_open_lem, none_earlier, none_open, all_answered, notice_finds}
use Rattle.format.specs.Laws.Refusals.{composed_refused, reading_refused}
use Rattle.format.specs.Laws.Before.{composed_same, reading_same}
use Rattle.format.specs.Laws.Second.{answer_only, compose_none, read_only}
use Rattle.format.proofs.Laws.Broken.{Broken, EndsWith, CutBy, broken_where, cut_both}
use Rattle.format.specs.declared.Answer.{Answer}
use Rattle.format.specs.declared.Kind.{Kind}
use Rattle.format.specs.declared.Plan.{Plan}
use Rattle.format.specs.declared.Item.{Item}
use Rattle.format.specs.declared.Item.TheVariants.{Command, Status, Arinc, Notice}
use Rattle.format.specs.declared.Tag.{Tag}
use Rattle.format.specs.declared.Tag.TheVariants.{At}
use Rattle.format.specs.declared.Time.{Time}
use Rattle.format.specs.declared.Response.TheVariants.{After}
use Rattle.format.specs.declared.Held.{Held}
use Rattle.format.specs.declared.Held.TheVariants.{Nothing}

-- "sixteen bus kinds"
abbrev pub Sixteen : List Kind → Type 0
Sixteen ks = length ks ≡ 16

-- ---- A contract has only one answer

-- two answers that meet composing's contract are the same, and leave the same in the lent output
pub made_one : (m : Composed) (r r' : Answer) (out x x' : List ℕ) → Made m r out x → Made m r' out x' → (r ≡ r') × (x ≡ x')
made_one m r r' out x x' a b = (cc, cc)

-- two answers that meet a reading's contract are the same, and leave the same in the lent log and time table
pub given_one : (g : Reading) (r r' : Answer) (log x x' times y y' : List ℕ) → Given g r log x times y → Given g r' log x' times y'
    → (r ≡ r') × (x ≡ x') × (y ≡ y')
given_one g r r' log x x' times y y' a b = (cc, cc, cc)

-- ---- Number 0 says that the work is done: a refusal has a number of document 01's table, or 15

pub refused_by : (p : Plan) (ks : List Kind) (log times : List ℕ) (room number place : ℕ) → composed p ks log times room ≡ refused number place
    → (1 ≤ number) × ((number ≤ 6) ⊎ (number ≡ 15))
refused_by = composed_refused

pub refuses_by : (closed : Bool) (p : Plan) (ks : List Kind) (c : List ℕ) (log_room time_room number place second : ℕ)
    → reading closed p ks c log_room time_room ≡ refuses number place second → (1 ≤ number) × (number ≤ 15)
refuses_by = reading_refused

-- ---- A log and its items are one thing

-- the log of lawful items parses as those items
pub log_back : (ks : List Kind) (is : List Item) → Sixteen ks → All (Lawful ks) is → length (log_of is) ≤ 32768 → parsed (on_plan ks) (log_of is) ≡ items is
log_back ks is sixteen lawful short = Back.log_back (on_plan ks) is (all_map (λ i w. lawful_logged ks sixteen i w) lawful) short

-- a log that parses is the log of its items, and they are lawful
pub log_forth : (ks : List Kind) (log : List ℕ) (is : List Item) → Bytes log → parsed (on_plan ks) log ≡ items is → (log_of is ≡ log) × All (Lawful ks) is
log_forth ks log is bytes parses =
    let f = Forth.log_forth (on_plan ks) log is bytes parses in
    (f.0, all_map (λ i w. (logged_lawful ks i w).0) f.1)

-- the bound on the number of items that `parsed` starts from is never reached: with any larger one it says the same
pub bound_never_reached : (check : Item → ℕ) (log : List ℕ) (n : ℕ)
    → parse_from (length log + 1 + n) check (bytes_bits log) 0 ≡ parse_from (length log + 1) check (bytes_bits log) 0
bound_never_reached = never_out

-- ---- Items and their words are one thing

-- slots whose data words are the words of lawful items, wherever fill stands, read as those items
pub words_back : (ks : List Kind) (parity : Bool) (is : List Item) → All (Sound ks parity) is
    → (ss : List Slot) → data_of ss ≡ map (sent parity) (flat_map item_words is)
    → (p : ℕ) → onward (run ks parity ss Nothing p) finish ≡ got is
words_back = Words.words_back

-- slots that are read as items have just the words of those items, bar their parity, and they are lawful
pub words_forth : (ks : List Kind) (parity : Bool) (ss : List Slot) → All (λ w. w < 2 ^ 24) (data_of ss)
    → (p : ℕ) (is : List Item) → onward (run ks parity ss Nothing p) finish ≡ got is
    → (map (bare parity) (data_of ss) ≡ flat_map item_words is) × All (Lawful ks) is
words_forth = Words.words_forth

-- ---- What may be composed is composed

-- the groups that the words of these items take
abbrev pub groups_of : Plan → List Item → ℕ
groups_of p is = groups_for p (length (flat_map item_words is))

-- no notice of these items is open (document 02, K2)
abbrev pub NoneOpen : List Item → Type 0
NoneOpen is = (k : ℕ) → OpenAt is k → ⊥

-- a legal plan, lawful items, no open notice, a log of at most 32,768 bytes, the right number of times, each below the limit, and room: the capture is made
pub composes : (p : Plan) (ks : List Kind) (is : List Item) (times : List ℕ) (room : ℕ) → legal p ks ≡ true → Sixteen ks
    → All (Lawful ks) is → NoneOpen is → length (log_of is) ≤ 32768
    → length times ≡ times_needed p (groups_of p is) → All (λ t. t < time_end) times
    → groups_of p is * (3 * group_words p) ≤ room
    → composed p ks (log_of is) times room ≡ made (capture_of p times (flat_map item_words is))
composes p ks is times room lawful sixteen each closed short number early fits =
    lawful_composed p ks (log_of is) times room is lawful (log_back ks is sixteen each short) (all_answered is closed) number early fits

-- ---- Where each word of a capture stands

-- composing a log of these items, with these times, makes the capture
pub record ComposedAs (p : Plan) (ks : List Kind) (c times : List ℕ) (is : List Item) : Type 0 where
  pub log : List ℕ
  pub room : ℕ
  pub parses : parsed (on_plan ks) log ≡ items is
  pub makes : composed p ks log times room ≡ made c

composed_of : {p : Plan} {ks : List Kind} {c times : List ℕ} {is : List Item} → (m : ComposedAs p ks c times is)
    → (k : ComposedOf p ks m.log times c) × (k.its ≡ is)
composed_of {p} {ks} {times = times} m =
    let k = rw m.makes at (made_by p ks m.log times m.room) in
    (k, same_items (sym k.parses ∙ m.parses))
  where
    same_items : {xs ys : List Item} → items xs ≡ items ys → xs ≡ ys
    same_items e = cc

-- the capture is whole groups; they hold the words of the items, and no fewer would
pub fewest_groups : {p : Plan} {ks : List Kind} {c times : List ℕ} {is : List Item} → ComposedAs p ks c times is
    → (length c ≡ groups_in p c * (3 * group_words p))
    × (length (flat_map item_words is) ≤ groups_in p c * slots p)
    × ((n : ℕ) → length (flat_map item_words is) ≤ n * slots p → groups_in p c ≤ n)
fewest_groups m =
    let k = composed_of m in
    rw k.1 at (Stands.groups_hold k.0)

-- "Word 1 of each frame is FAF320": the frame of track t in group g, both counted from 0
pub sync_stands : {p : Plan} {ks : List Kind} {c times : List ℕ} {is : List Item} → ComposedAs p ks c times is
    → (g t : ℕ) → g < groups_in p c → t < p.tracks → word_at c (g * group_words p + t * p.words) ≡ 0xFAF320
unfolding sync
sync_stands m g t h k = Stands.sync_at (composed_of m).0 g h t k

-- "First come the frame's three time words": the dealt words 0, 1 and 2 of group g
pub time_stands : {p : Plan} {ks : List Kind} {c times : List ℕ} {is : List Item} → ComposedAs p ks c times is
    → (g s : ℕ) → g < groups_in p c → s < 3 → p.frame_time ≡ true
    → word_at c (g * group_words p + place_of p s) ≡ sent p.parity (get_or (time_words (get_or times g 0)) s (fill p.fill_bus))
time_stands m g s h k e = Stands.time_at (composed_of m).0 g h s k e

-- "then data": the slot i of group g holds the word g * slots + i of the items' words, and fill if there are no more
pub word_stands : {p : Plan} {ks : List Kind} {c times : List ℕ} {is : List Item} → ComposedAs p ks c times is
    → (g i : ℕ) → g < groups_in p c → i < slots p
    → word_at c (g * group_words p + place_of p (lead p + i)) ≡ sent p.parity (get_or (flat_map item_words is) (g * slots p + i) (fill p.fill_bus))
word_stands m g i h k =
    let q = composed_of m in
    rw q.1 at (Stands.slot_stands q.0 g h i k)

-- "With CRC, the last word of every frame is the CRC word" of those before it
pub check_stands : {p : Plan} {ks : List Kind} {c times : List ℕ} {is : List Item} → ComposedAs p ks c times is
    → (g t : ℕ) → g < groups_in p c → t < p.tracks → p.crc ≡ true
    → word_at c (g * group_words p + t * p.words + (p.words - 1)) ≡ check_word p.parity p.crc_label (list (word_at c) (g * group_words p + t * p.words) (p.words - 1))
check_stands m g t h k e = Stands.check_at (composed_of m).0 g h t k e

-- ---- A half belongs to its other half

-- a reading, plain or closed, accepts the capture and gives a log with these items
pub record ReadsAs (closed : Bool) (p : Plan) (ks : List Kind) (c : List ℕ) (is : List Item) : Type 0 where
  pub log_room : ℕ
  pub time_room : ℕ
  pub log : List ℕ
  pub times : List ℕ
  pub sixteen : Sixteen ks
  pub bytes : Bytes c
  pub accepts : reading closed p ks c log_room time_room ≡ gives log times
  pub parses : parsed (on_plan ks) log ≡ items is

says_items : {closed : Bool} {p : Plan} {ks : List Kind} {c : List ℕ} {is : List Item} → ReadsAs closed p ks c is
    → map (part_of p.parity) (data_words p c) ≡ flat_map item_parts is
says_items {closed} {p} {ks} {c} {is} r =
    given_parts r.sixteen r.bytes (rw r.accepts at (read_by closed p ks c r.log_room r.time_room)) is r.parses

read_answered : {closed : Bool} {p : Plan} {ks : List Kind} {c : List ℕ} {is : List Item} → ReadsAs closed p ks c is → Answered is
read_answered {closed} {p} {ks} {c} {is} r =
    let g : ReadOf closed p ks c r.log r.times = rw r.accepts at (read_by closed p ks c r.log_room r.time_room) in
    let s : g.its ≡ is = same_items (sym (given_parses r.sixteen r.bytes g) ∙ r.parses) in
    rw s at g.answered
  where
    same_items : {xs ys : List Item} → items xs ≡ items ys → xs ≡ ys
    same_items z = cc

-- no data word is left over
pub every_word_read : {closed : Bool} {p : Plan} {ks : List Kind} {c : List ℕ} {is : List Item} → ReadsAs closed p ks c is
    → length (data_words p c) ≡ length (flat_map item_words is)
every_word_read {p = p} {c = c} {is = is} r = sym (length-map (data_words p c) (part_of p.parity)) ∙ ap length (says_items r) ∙ sym (words_count is)

-- the two syllables of an ARINC word: the data words k and k + 1, on one bus, with one channel's labels,
-- where k counts the words of the items before it
pub halves_together : {closed : Bool} {p : Plan} {ks : List Kind} {c : List ℕ} (xs ys : List Item) (bus channel : ℕ) (tag : Tag) (word k : ℕ)
    → ReadsAs closed p ks c (xs ++ Arinc bus channel tag word ∷ ys) → length (flat_map item_words xs) ≡ k
    → Says p c k bus (high_label channel) (word / 2 ^ 16) × Says p c (k + 1) bus (low_label channel) (word % 2 ^ 16)
halves_together {p = p} {c = c} xs ys bus channel tag word k r e =
    let at = item_says p c _ xs ys (Arinc bus channel tag word) (says_items r) refl in
    (at 0 k (omega arith) (omega arith), at 1 (k + 1) (omega arith) (omega arith))

-- a command and its tag: four data words next to each other, on one bus
pub command_together : {closed : Bool} {p : Plan} {ks : List Kind} {c : List ℕ} (xs ys : List Item) (bus : ℕ) (b : Bool) (t : Time) (word k : ℕ)
    → ReadsAs closed p ks c (xs ++ Command bus b (At t) word ∷ ys) → length (flat_map item_words xs) ≡ k
    → Says p c k bus (sided 15 b) word × Says p c (k + 1) bus 7 t.high × Says p c (k + 2) bus 6 t.low × Says p c (k + 3) bus 5 t.micro
command_together {p = p} {c = c} xs ys bus b t word k r e =
    let at = item_says p c _ xs ys (Command bus b (At t) word) (says_items r) refl in
    (at 0 k (omega arith) (omega arith), at 1 (k + 1) (omega arith) (omega arith), at 2 (k + 2) (omega arith) (omega arith), at 3 (k + 3) (omega arith) (omega arith))

-- a response and its status: two data words next to each other, on one bus
pub status_together : {closed : Bool} {p : Plan} {ks : List Kind} {c : List ℕ} (xs ys : List Item) (bus : ℕ) (b : Bool) (response word k : ℕ)
    → ReadsAs closed p ks c (xs ++ Status bus b (After response) word ∷ ys) → length (flat_map item_words xs) ≡ k
    → Says p c k bus 4 response × Says p c (k + 1) bus (sided 14 b) word
status_together {p = p} {c = c} xs ys bus b response word k r e =
    let at = item_says p c _ xs ys (Status bus b (After response) word) (says_items r) refl in
    (at 0 k (omega arith) (omega arith), at 1 (k + 1) (omega arith) (omega arith))

-- an ARINC word and its tag: the tag follows the two syllables, on the same bus
pub arinc_together : {closed : Bool} {p : Plan} {ks : List Kind} {c : List ℕ} (xs ys : List Item) (bus channel : ℕ) (t : Time) (word k : ℕ)
    → ReadsAs closed p ks c (xs ++ Arinc bus channel (At t) word ∷ ys) → length (flat_map item_words xs) ≡ k
    → Says p c (k + 2) bus 7 t.high × Says p c (k + 3) bus 6 t.low × Says p c (k + 4) bus 5 t.micro
arinc_together {p = p} {c = c} xs ys bus channel t word k r e =
    let at = item_says p c _ xs ys (Arinc bus channel (At t) word) (says_items r) refl in
    (at 2 (k + 2) (omega arith) (omega arith), at 3 (k + 3) (omega arith) (omega arith), at 4 (k + 4) (omega arith) (omega arith))

-- ---- An error notice must find its word (document 02, K2)

-- in an accepted capture every notice is followed, on its bus and channel, by an ARINC word before the next notice
pub notice_answered : {closed : Bool} {p : Plan} {ks : List Kind} {c : List ℕ} (xs : List Item) (bus channel diagnostics : ℕ) (ys : List Item)
    → ReadsAs closed p ks c (xs ++ Notice bus channel diagnostics ∷ ys) → FindsWord bus channel ys
notice_answered xs bus channel diagnostics ys r = notice_finds xs bus channel diagnostics ys (read_answered r)

-- and in a log that is composed
pub notice_composed : {p : Plan} {ks : List Kind} {c times : List ℕ} (xs : List Item) (bus channel diagnostics : ℕ) (ys : List Item)
    → ComposedAs p ks c times (xs ++ Notice bus channel diagnostics ∷ ys) → FindsWord bus channel ys
notice_composed xs bus channel diagnostics ys m =
    let k = composed_of m in
    notice_finds xs bus channel diagnostics ys (rw k.1 at k.0.answered)

-- what a reading accepts has no open notice
pub read_no_open : {closed : Bool} {p : Plan} {ks : List Kind} {c : List ℕ} {is : List Item} → ReadsAs closed p ks c is → NoneOpen is
read_no_open {is = is} r = none_open is (read_answered r)

-- first_open is the number of the earliest open notice: it is one, and none stands before it
pub first_open_is : (is : List Item) → first_open is < length is → OpenAt is (first_open is)
first_open_is = first_open_lem

pub none_open_earlier : (is : List Item) (k : ℕ) → OpenAt is k → first_open is ≤ k
none_open_earlier = none_earlier

-- composing refuses it by 15 at its first bit
pub composed_open : (p : Plan) (ks : List Kind) (log times : List ℕ) (room : ℕ) (is : List Item) → legal p ks ≡ true
    → parsed (on_plan ks) log ≡ items is → first_open is < length is
    → composed p ks log times room ≡ refused 15 (bit_of is (first_open is))
unfolding composed
composed_open p ks log times room is l e h =
    let d : (first_open is ≡ length is → ⊥) = λ (z : first_open is ≡ length is). omega arith in
    rw (l, e, ne_eqb (first_open is) (length is) d)

-- both readings refuse it by 15 at its word
pub read_open : (closed : Bool) (p : Plan) (ks : List Kind) (c : List ℕ) (log_room time_room : ℕ) (is : List Item) → legal p ks ≡ true
    → length c ≤ 1048576 → length c % (3 * group_words p) ≡ 0
    → read_groups p ks c (groups_in p c) 0 Nothing 0 ≡ got is → first_open is < length is
    → reading closed p ks c log_room time_room ≡ refuses 15 (first_word_of (places_of (slots_from p c (groups_in p c) 0)) is (first_open is)) 0
unfolding reading
read_open closed p ks c log_room time_room is l short whole e h =
    let d : (first_open is ≡ length is → ⊥) = λ (z : first_open is ≡ length is). omega arith in
    rw (l, le-leb (length c) 1048576 short, eq-eqb (length c % (3 * group_words p)) 0 whole, e, ne_eqb (first_open is) (length is) d)

-- ---- Demand 2: reading what was composed gives back the same log and times, given room; plain and closed

pub composed_read : (closed : Bool) (p : Plan) (ks : List Kind) (log times c : List ℕ) (space log_room time_room : ℕ) → Bytes log
    → composed p ks log times space ≡ made c → length log ≤ log_room → length times ≤ time_room → reading closed p ks c log_room time_room ≡ gives log times
composed_read closed p ks log times c space log_room time_room bytes makes = there_and_back p ks log times c space log_room time_room closed bytes makes

-- what a reading gives is bytes
pub gives_bytes : (closed : Bool) (p : Plan) (ks : List Kind) (c log times : List ℕ) (log_room time_room : ℕ)
    → reading closed p ks c log_room time_room ≡ gives log times → Bytes log
gives_bytes closed p ks c log times log_room time_room r = given_bytes (rw r at (read_by closed p ks c log_room time_room))

-- and its times are numbers of 64 bits
pub gives_times : (closed : Bool) (p : Plan) (ks : List Kind) (c log times : List ℕ) (log_room time_room : ℕ)
    → reading closed p ks c log_room time_room ≡ gives log times → All (λ t. t < 2 ^ 64) times
gives_times closed p ks c log times log_room time_room r = given_times (rw r at (read_by closed p ks c log_room time_room))

-- what the closed reading accepts, the plain reading gives alike
pub closed_is_plain : (p : Plan) (ks : List Kind) (c log times : List ℕ) (log_room time_room : ℕ)
    → reading true p ks c log_room time_room ≡ gives log times → reading false p ks c log_room time_room ≡ gives log times
closed_is_plain = closed_plain

-- ---- Demand 3: the closed reading accepts a capture exactly when some log, with some frame times, composes to those very bytes

-- given room for them, a log and times are what the closed reading gives if and only if composing them makes the capture
pub closed_exactly : (p : Plan) (ks : List Kind) (c log times : List ℕ) (log_room time_room space : ℕ) → Sixteen ks → Bytes c → Bytes log
    → length log ≤ log_room → length times ≤ time_room → length c ≤ space
    → (reading true p ks c log_room time_room ≡ gives log times) ↔ (composed p ks log times space ≡ made c)
closed_exactly p ks c log times log_room time_room space sixteen bytes logBytes log_fits timesFit fits = (
  λ r. Exactly.closed_exactly p ks c log times log_room time_room space sixteen bytes r fits,
  λ m. there_and_back p ks log times c space log_room time_room true logBytes m log_fits timesFit,
)

-- a log and times compose to the capture, in just its room
abbrev pub Composes : Plan → List Kind → List ℕ → List ℕ → List ℕ → Type 0
Composes p ks log times c = Bytes log × (composed p ks log times (length c) ≡ made c)

-- with room for the longest log and a time a group, the closed reading accepts if and only if there are such a log and times
pub closed_accepts : (p : Plan) (ks : List Kind) (c : List ℕ) (log_room time_room : ℕ) → Sixteen ks → Bytes c → 32768 ≤ log_room → groups_in p c ≤ time_room
    → ((log : List ℕ) × (times : List ℕ) × (reading true p ks c log_room time_room ≡ gives log times))
    ↔ ((log : List ℕ) × (times : List ℕ) × Composes p ks log times c)
closed_accepts p ks c log_room time_room sixteen bytes log_fits timesFit = (
  λ r. (
    r.0,
    r.1,
    (gives_bytes true p ks c r.0 r.1 log_room time_room r.2, Exactly.closed_exactly p ks c r.0 r.1 log_room time_room (length c) sixteen bytes r.2 (omega arith)),
  ),
  λ m.
      let f = made_fits p ks m.0 m.1 c (length c) m.2.0 m.2.1 in
      (m.0, m.1, there_and_back p ks m.0 m.1 c (length c) log_room time_room true m.2.0 m.2.1 (omega arith) (omega arith)),
)

-- there is then only one such log and one such row of times
pub closed_one : (p : Plan) (ks : List Kind) (c log log' times times' : List ℕ) → Composes p ks log times c → Composes p ks log' times' c
    → (log ≡ log') × (times ≡ times')
closed_one p ks c log log' times times' m m' =
    let l : ℕ = length log + length log' in
    let t : ℕ = length times + length times' in
    let r = there_and_back p ks log times c (length c) l t true m.0 m.1 (omega arith) (omega arith) in
    let r' = there_and_back p ks log' times' c (length c) l t true m'.0 m'.1 (omega arith) (omega arith) in
    let e : gives log times ≡ gives log' times' = sym r ∙ r' in
    (cc, cc)

-- ---- The plan's last two lines (K5): "label 3 and code 0 reproduce today's bytes", and every answer; the definitions of Before take no
-- notice of the two

pub composed_as_before : (words tracks : ℕ) (time crc parity : Bool) (ks : List Kind) (log times : List ℕ) (room : ℕ)
    → composed (plain words tracks time crc parity) ks log times room ≡ was.composed (plain words tracks time crc parity) ks log times room
composed_as_before = composed_same

pub reading_as_before : (words tracks : ℕ) (time crc parity closed : Bool) (ks : List Kind) (c : List ℕ) (log_room time_room : ℕ)
    → reading closed (plain words tracks time crc parity) ks c log_room time_room ≡ was.reading closed (plain words tracks time crc parity) ks c log_room time_room
reading_as_before = reading_same

-- ---- Which item broke (K8)

-- "In every other answer the second place is 0."
pub second_only_13 : (closed : Bool) (p : Plan) (ks : List Kind) (c : List ℕ) (log_room time_room n place second : ℕ)
    → reading closed p ks c log_room time_room ≡ refuses n place second → (n ≡ 13 → ⊥) → second ≡ 0
second_only_13 closed p ks c log_room time_room n place second e = rw e at (read_only closed p ks c log_room time_room)

-- of what a reading answers
pub read_second : (closed : Bool) (p : Plan) (ks : List Kind) (c : List ℕ) (log_room time_room : ℕ) (r : Answer) (log log' times times' : List ℕ)
    → Given (reading closed p ks c log_room time_room) r log log' times times' → (r.number ≡ 13 → ⊥) → r.second ≡ 0
read_second closed p ks c log_room time_room r log log' times times' a = rw a.0 (answer_only (reading closed p ks c log_room time_room) (read_only closed p ks c log_room time_room))

-- and of what is answered where bytes are made, whatever is to be made: by composing, and by picking and joining
pub made_second : (m : Composed) (r : Answer) (out out' : List ℕ) → Made m r out out' → r.second ≡ 0
made_second m r out out' a = rw a.0 (compose_none m)

-- of slots that have a bad word: the data words before it are the words of lawful items, and then those of the item that broke; the
-- second place is where these begin, and is the bad word's own if there are none
pub broken_item : (ks : List Kind) (parity : Bool) (ss : List Slot) → All (λ w. w < 2 ^ 24) (data_of ss) → (p here second : ℕ)
    → run ks parity ss Nothing p ≡ bad_at here second → Broken ks (places_of ss) (map (part_of parity) (data_of ss)) here second
broken_item ks parity ss low p here second e = rw e at (broken_where ks parity ss (Words.said_fits parity (data_of ss) low) p)

-- "for an item cut at the end both places are its first word": of slots that end with an unfinished item
pub cut_item : (ks : List Kind) (parity : Bool) (ss : List Slot) → All (λ w. w < 2 ^ 24) (data_of ss) → (p : ℕ) (is : List Item) (h : Held) (at n place second : ℕ)
    → run ks parity ss Nothing p ≡ ran is h at → finish h at ≡ stopped n place second
    → (e : EndsWith ks (places_of ss) (map (part_of parity) (data_of ss)) h at)
    × (n ≡ 13) × (place ≡ get_or (places_of ss) (length (flat_map item_parts e.items)) 0) × (second ≡ get_or (places_of ss) (length (flat_map item_parts e.items)) 0)
cut_item ks parity ss low p is h at n place second e f =
    let b : EndsWith ks (places_of ss) (map (part_of parity) (data_of ss)) h at = rw e at (broken_where ks parity ss (Words.said_fits parity (data_of ss) low) p) in
    let k : ℕ = length (flat_map item_parts b.items) in
    let c : CutBy (places_of ss) k (stopped n place second) = rw f at (cut_both h (places_of ss) k at b.first) in
    (b, c.0, c.1, c.2)
