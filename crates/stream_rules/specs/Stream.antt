-- A capture as it arrives (document 02, K4): the state between two calls, opening, feeding and closing; and what all cuttings of
-- one capture hand out, said without pieces.
use Rattle.std.specs.Prelude.{ℕ, zero, suc, ◌+◌, ◌*◌, ◌/◌, ◌%◌, ◌^◌, ◌-◌, Bool, true, false, cond, ◌&&◌, ◌||◌, not, length, get_or, set, take, drop, replicate, ltb, leb, eqb}
use mathlib.Core.List.{List, [], ◌∷◌, ◌++◌, flat_map}
use Rattle.format.specs.Bits.{bits_of, num_of, packed}
use Rattle.format.specs.Word.{part_of, word_at}
use Rattle.format.specs.Time.{below_tick}
use Rattle.format.specs.Plan.{legal, slots, lead, group_words, place_of, kind_on, times_needed}
use Rattle.format.specs.Item.{item_bits}
use Rattle.format.specs.Lists.{list}
use Rattle.format.specs.Reader.{Slot, Ran, bad_at, ran, run}
use Rattle.format.specs.Group.{Fault, none, found, group_fault, group_time}
use Rattle.format.specs.Read.{Got, got, stopped, finish}
use Rattle.notices.specs.Roles as role
use Rattle.notices.specs.Roles.{Role, role_in}
use Rattle.notices.specs.Table.{or_first}
use Rattle.format.specs.declared.Kind.{Kind}
use Rattle.format.specs.declared.Kind.TheVariants.{Unused, Mil1553, Arinc429}
use Rattle.format.specs.declared.Item.{Item}
use Rattle.format.specs.declared.Base.{Base}
use Rattle.format.specs.declared.Base.TheVariants as base
use Rattle.format.specs.declared.Held.{Held}
use Rattle.format.specs.declared.Held.TheVariants.{Nothing, Taggable, Half, TagHigh, TagLow, Answering}
use Rattle.format.specs.declared.Plan.{Plan}

-- ---- the log's bits as they come

-- the bytes that bits fill
unfoldable pub whole_bytes : List ℕ → List ℕ
whole_bytes [] = []
whole_bytes (a ∷ []) = []
whole_bytes (a ∷ b ∷ []) = []
whole_bytes (a ∷ b ∷ c ∷ []) = []
whole_bytes (a ∷ b ∷ c ∷ d ∷ []) = []
whole_bytes (a ∷ b ∷ c ∷ d ∷ e ∷ []) = []
whole_bytes (a ∷ b ∷ c ∷ d ∷ e ∷ f ∷ []) = []
whole_bytes (a ∷ b ∷ c ∷ d ∷ e ∷ f ∷ g ∷ []) = []
whole_bytes (a ∷ b ∷ c ∷ d ∷ e ∷ f ∷ g ∷ h ∷ rest) = num_of (a ∷ b ∷ c ∷ d ∷ e ∷ f ∷ g ∷ h ∷ []) ∷ whole_bytes rest

-- the bits behind them, fewer than eight
unfoldable pub rest_bits : List ℕ → List ℕ
rest_bits [] = []
rest_bits (a ∷ []) = a ∷ []
rest_bits (a ∷ b ∷ []) = a ∷ b ∷ []
rest_bits (a ∷ b ∷ c ∷ []) = a ∷ b ∷ c ∷ []
rest_bits (a ∷ b ∷ c ∷ d ∷ []) = a ∷ b ∷ c ∷ d ∷ []
rest_bits (a ∷ b ∷ c ∷ d ∷ e ∷ []) = a ∷ b ∷ c ∷ d ∷ e ∷ []
rest_bits (a ∷ b ∷ c ∷ d ∷ e ∷ f ∷ []) = a ∷ b ∷ c ∷ d ∷ e ∷ f ∷ []
rest_bits (a ∷ b ∷ c ∷ d ∷ e ∷ f ∷ g ∷ []) = a ∷ b ∷ c ∷ d ∷ e ∷ f ∷ g ∷ []
rest_bits (a ∷ b ∷ c ∷ d ∷ e ∷ f ∷ g ∷ h ∷ rest) = rest_bits rest

-- ---- words by their number in dealt order: each group counts 2,048; in it 0 is the first sync word and s + 1 the dealt word s.
-- Of two words the earlier in dealt order has the smaller number; no data word has the number 0.

abbrev pub in_group : Plan → ℕ → ℕ
in_group p zero = 0
in_group p (suc s) = place_of p s

-- the stored place of the word with this number
abbrev pub stored_of : Plan → ℕ → ℕ
stored_of p k = k / 2048 * group_words p + in_group p (k % 2048)

-- the data slots of a group, v its bytes alone and `at` the place of its first stored word
unfoldable pub slots_at : Plan → List ℕ → ℕ → List Slot
slots_at p v at = list (λ s. (at + place_of p s, word_at v (place_of p s))) (lead p) (slots p)

-- the same slots, of the group g, by their numbers
unfoldable pub slots_of : Plan → List ℕ → ℕ → List Slot
slots_of p v g = list (λ s. (g * 2048 + suc s, word_at v (place_of p s))) (lead p) (slots p)

-- a fault of a group alone, in the capture
abbrev pub moved_fault : ℕ → Fault → Fault
moved_fault at none = none
moved_fault at (found n q) = found n (at + q)

-- ---- unanswered notices: "when a second notice or the close shows one open"

-- for each bus and channel, bus x 4 + channel, the number of its unanswered notice's word, 0 for none; and the first that a
-- second notice showed open, 0 for none
pub record Watch : Type 0 where
  pub waits : List ℕ
  pub shown : ℕ

-- the channel's notice is answered
abbrev pub answered_on : ℕ → Watch → Watch
answered_on j x = record { waits = set x.waits j 0; shown = x.shown }

-- a notice of the channel, its word numbered `here`, waits; one that waited is open
abbrev pub noticed_on : ℕ → ℕ → Watch → Watch
noticed_on here j x = record { waits = set x.waits j here; shown = or_first x.shown (get_or x.waits j 0) }

-- a word numbered `here`, by what it is to the notices: fill and most data words are neither
abbrev pub watch_word : ℕ → Role → Watch → Watch
watch_word here role.neither x = x
watch_word here (role.notice j) x = noticed_on here j x
watch_word here (role.word j) x = answered_on j x

-- the slots in dealt order, beside `run`
unfoldable pub watch : List Kind → Bool → List Slot → Watch → Watch
watch ks parity [] x = x
watch ks parity (s ∷ ss) x = watch ks parity ss (watch_word s.0 (role_in ks (part_of parity s.1)) x)

-- the smaller of two numbers, where 0 is none
abbrev pub lesser : ℕ → ℕ → ℕ
lesser a b = cond (eqb a 0) b (cond (eqb b 0) a (cond (ltb a b) a b))

-- the earliest unanswered notice, 0 if there is none
unfoldable pub earliest : List ℕ → ℕ
earliest [] = 0
earliest (k ∷ ks) = lesser k (earliest ks)

-- ---- one group

-- what is carried from group to group: what is held, the place of its first word, and the unanswered notices by their numbers
pub record Carry : Type 0 where
  pub held : Held
  pub since : ℕ
  pub waits : List ℕ

-- the items that are complete and what is carried then, or the fault's number, place and second place (K8): a group is taken whole or
-- not at all
pub data Brought : Type 0 where
  brings : List Item → Carry → Brought
  stops : ℕ → ℕ → ℕ → Brought

-- "15 last": a bad word is 13, then a notice shown open 15
abbrev pub watched : Plan → Ran → Watch → Brought
watched p (bad_at q second) y = stops 13 q second
watched p (ran is h q) y =
    cond (eqb y.shown 0) (brings is (record { held = h; since = q; waits = y.waits })) (stops 15 (stored_of p y.shown) 0)

abbrev pub soundly : Fault → Brought → Brought
soundly none b = b
soundly (found n q) b = stops n q 0

-- the group g, v its bytes
unfoldable pub take_group : Plan → List Kind → List ℕ → ℕ → Carry → Brought
take_group p ks v g x =
    soundly (moved_fault (g * group_words p) (group_fault p v 0))
    (watched p (run ks p.parity (slots_at p v (g * group_words p)) x.held x.since) (watch ks p.parity (slots_of p v g) (record { waits = x.waits; shown = 0 })))

-- ---- the end

-- "at the close the earliest"
abbrev pub unless_waits : Plan → ℕ → List Item → Got
unless_waits p k is = cond (eqb k 0) (got is) (stopped 15 (stored_of p k) 0)

abbrev pub closing_items : Plan → Carry → Got → Got
closing_items p x (stopped k q second) = stopped k q second
closing_items p x (got is) = unless_waits p (earliest x.waits) is

-- the cut item, then 15; else the item that was held, complete now
unfoldable pub closing : Plan → Carry → Got
closing p x = closing_items p x (finish x.held x.since)

-- "8 .. at the close for a part group, before 13 (place: bytes so far)"
abbrev pub closing_at : Plan → ℕ → ℕ → Carry → Got
closing_at p part count x = cond (eqb part 0) (closing p x) (stopped 8 count 0)

-- ---- all cuttings of one capture: no pieces, no state

-- before the first group
abbrev pub start : Carry
start = record { held = Nothing; since = 0; waits = replicate 64 0 }

-- the bytes of a group, and of the group g of a capture
abbrev pub group_size : Plan → ℕ
group_size p = 3 * group_words p

abbrev pub group_bytes : Plan → List ℕ → ℕ → List ℕ
group_bytes p c g = take (group_size p) (drop (g * group_size p) c)

-- the items handed out, the groups that were taken, and the end: number 0, or the fault's number, place and second place
pub record Tale : Type 0 where
  pub items : List Item
  pub groups : ℕ
  pub number : ℕ
  pub place : ℕ
  pub second : ℕ

abbrev pub ending : Got → Tale
ending (got is) = record { items = is; groups = 0; number = 0; place = 0; second = 0 }
ending (stopped k q second) = record { items = []; groups = 0; number = k; place = q; second = second }

abbrev pub further : List Item → Tale → Tale
further is t = record { items = is ++ t.items; groups = suc t.groups; number = t.number; place = t.place; second = t.second }

abbrev pub told : Brought → (Carry → Tale) → Tale
told (stops k q second) go = record { items = []; groups = 0; number = k; place = q; second = second }
told (brings is x) go = further is (go x)

-- n groups from g on, then the close
unfoldable pub stream_groups : Plan → List Kind → List ℕ → ℕ → ℕ → Carry → Tale
stream_groups p ks c zero g x = ending (closing_at p (length c % group_size p) (length c) x)
stream_groups p ks c (suc n) g x = told (take_group p ks (group_bytes p c g) g x) (λ x'. stream_groups p ks c n (g + 1) x')

-- the log behind bits that are there: "On a fault they are the whole bytes of the items complete .., with no end mark"
abbrev pub tale_log : List ℕ → Tale → List ℕ
tale_log bits t =
    cond (eqb t.number 0) (packed (bits ++ (flat_map item_bits t.items ++ bits_of 4 0))) (whole_bytes (bits ++ flat_map item_bits t.items))

-- "and the times of the groups before it"
abbrev pub tale_times : Plan → List ℕ → ℕ → Tale → List ℕ
tale_times p c g t = list (λ i. group_time p (group_bytes p c i) 0) g (times_needed p t.groups)

-- the log's bytes, the times, and the end
pub record Streamed : Type 0 where
  pub log : List ℕ
  pub times : List ℕ
  pub number : ℕ
  pub place : ℕ
  pub second : ℕ

abbrev pub handed : Plan → List ℕ → Tale → Streamed
handed p c t = record { log = tale_log [] t; times = tale_times p c 0 t; number = t.number; place = t.place; second = t.second }

-- what all cuttings of the capture hand out
unfoldable pub streamed : Plan → List Kind → List ℕ → Streamed
streamed p ks c = handed p c (stream_groups p ks c (length c / group_size p) 0 start)

-- ---- the state between two calls

pub record Working : Type 0 where
  pub plan : Plan
  pub kinds : List Kind
  pub groups : ℕ
  pub waiting : List ℕ
  pub bits : List ℕ
  pub carry : Carry

-- after the close or a refused opening; after a fault, with its number and both places; at work
pub data State : Type 0 where
  closed : State
  failed : ℕ → ℕ → ℕ → State
  working : Working → State

-- "bytes so far"
abbrev pub count_of : Working → ℕ
count_of w = w.groups * group_size w.plan + length w.waiting

-- "a capture may run to 2^40 bytes"
abbrev pub most_bytes : ℕ
most_bytes = 1099511627776

-- ---- the written test

abbrev pub is1553 : Kind → Bool
is1553 Unused = false
is1553 Mil1553 = true
is1553 Arinc429 = false

abbrev pub is_arinc : Kind → Bool
is_arinc Unused = false
is_arinc Mil1553 = false
is_arinc Arinc429 = true

abbrev pub is_info : ℕ → Bool
is_info n = ltb n 65536

abbrev pub base_fits : List Kind → Base → Bool
base_fits ks (base.Command bus b word) = is1553 (kind_on ks bus) && is_info word
base_fits ks (base.Arinc bus c word) = is_arinc (kind_on ks bus) && ltb c 4 && ltb word 4294967296

-- what is held is the beginning of an item on its bus
abbrev pub held_fits : List Kind → Held → Bool
held_fits ks Nothing = true
held_fits ks (Taggable x) = base_fits ks x
held_fits ks (Half bus c high) = is_arinc (kind_on ks bus) && ltb c 4 && is_info high
held_fits ks (TagHigh x high) = base_fits ks x && is_info high
held_fits ks (TagLow x high low) = base_fits ks x && is_info high && is_info low
held_fits ks (Answering bus r) = is1553 (kind_on ks bus) && below_tick r

-- none, or the number of a data slot in the groups read
abbrev pub number_fits : Plan → ℕ → ℕ → Bool
number_fits p groups k = eqb k 0 || (ltb k (groups * 2048) && (ltb (lead p) (k % 2048) && leb (k % 2048) (lead p + slots p)))

-- a place in the groups read; 0 before the first word
abbrev pub place_fits : Plan → ℕ → ℕ → Bool
place_fits p groups q = eqb q 0 || ltb q (groups * group_words p)

-- the notices from the index j on: on ARINC buses only
unfoldable pub waits_fit : Plan → List Kind → ℕ → ℕ → List ℕ → Bool
waits_fit p ks groups j [] = true
waits_fit p ks groups j (k ∷ rest) = (number_fits p groups k && (eqb k 0 || is_arinc (kind_on ks (j / 4)))) && waits_fit p ks groups (j + 1) rest

unfoldable pub are_bits : List ℕ → Bool
are_bits [] = true
are_bits (b ∷ bs) = ltb b 2 && are_bits bs

abbrev pub carry_fits : Plan → List Kind → ℕ → Carry → Bool
carry_fits p ks groups x =
    held_fits ks x.held && (place_fits p groups x.since && (eqb (length x.waits) 64 && waits_fit p ks groups 0 x.waits))

-- "In every other answer the second place is 0." (K8)
abbrev pub second_fits : ℕ → ℕ → Bool
second_fits k second = cond (eqb k 13) (ltb (3 * second) most_bytes) (eqb second 0)

-- "Which states fit together is one written test."
unfoldable pub fits : State → Bool
fits closed = true
fits (failed k q second) = ((leb 9 k && leb k 13 || eqb k 15) && ltb (3 * q) most_bytes) && second_fits k second
fits (working w) =
    (legal w.plan w.kinds && eqb (length w.kinds) 16)
    && ((ltb (length w.waiting) (group_size w.plan) && leb (count_of w) most_bytes)
    && ((ltb (length w.bits) 8 && are_bits w.bits) && carry_fits w.plan w.kinds w.groups w.carry))

-- ---- opening

abbrev pub fresh : Plan → List Kind → Working
fresh p ks = record { plan = p; kinds = ks; groups = 0; waiting = []; bits = []; carry = start }

-- "1 at the opening (the state is then closed)"
abbrev pub opened : Plan → List Kind → State
opened p ks = cond (legal p ks) (working (fresh p ks)) closed

abbrev pub opened_number : Plan → List Kind → ℕ
opened_number p ks = cond (legal p ks) 0 1

-- ---- feeding

-- what is handed out, and the state then
pub record Flow : Type 0 where
  pub log : List ℕ
  pub times : List ℕ
  pub state : State

abbrev pub still : State → Flow
still s = record { log = []; times = []; state = s }

abbrev pub flowed : Flow → Flow → Flow
flowed f r = record { log = f.log ++ r.log; times = f.times ++ r.times; state = r.state }

-- a whole group, v its bytes
abbrev pub taken : Working → List ℕ → Brought → Flow
taken w v (stops k q second) = still (failed k q second)
taken w v (brings is x) =
    record {
      log = whole_bytes (w.bits ++ flat_map item_bits is);
      times = cond w.plan.frame_time (group_time w.plan v 0 ∷ []) [];
      state = working (record { plan = w.plan; kinds = w.kinds; groups = w.groups + 1; waiting = []; bits = rest_bits (w.bits ++ flat_map item_bits is); carry = x });
    }

abbrev pub keeps : Working → List ℕ → Working
keeps w v = record { plan = w.plan; kinds = w.kinds; groups = w.groups; waiting = v; bits = w.bits; carry = w.carry }

-- one byte
abbrev pub feed_byte : State → ℕ → Flow
feed_byte closed b = still closed
feed_byte (failed k q second) b = still (failed k q second)
feed_byte (working w) b =
    let v : List ℕ = w.waiting ++ b ∷ [] in
    cond (ltb (length v) (group_size w.plan)) (still (working (keeps w v))) (taken w v (take_group w.plan w.kinds v w.groups w.carry))

-- the bytes, one after the other
unfoldable pub feed_bytes : State → List ℕ → Flow
feed_bytes s [] = still s
feed_bytes s (b ∷ bs) = flowed (feed_byte s b) (feed_bytes (feed_byte s b).state bs)

-- ---- the calls

-- number, place and second place of the answer, what is written, and the state then
pub record Call : Type 0 where
  pub number : ℕ
  pub place : ℕ
  pub second : ℕ
  pub log : List ℕ
  pub times : List ℕ
  pub state : State

abbrev pub refused_by : ℕ → ℕ → ℕ → State → Call
refused_by k q second s = record { number = k; place = q; second = second; log = []; times = []; state = s }

-- the call that meets a fault "still writes these"
abbrev pub number_of : State → ℕ
number_of closed = 0
number_of (failed k q second) = k
number_of (working w) = 0

abbrev pub place_in : State → ℕ
place_in closed = 0
place_in (failed k q second) = q
place_in (working w) = 0

abbrev pub second_in : State → ℕ
second_in closed = 0
second_in (failed k q second) = second
second_in (working w) = 0

abbrev pub answered : Flow → Call
answered f = record { number = number_of f.state; place = place_in f.state; second = second_in f.state; log = f.log; times = f.times; state = f.state }

-- "with frame time fewer lent entries than the groups its bytes fill (none after a fault)"
abbrev pub entries_for : State → ℕ → ℕ
entries_for closed n = 0
entries_for (failed k q second) n = 0
entries_for (working w) n = times_needed w.plan ((length w.waiting + n) / group_size w.plan)

abbrev pub is_open_state : State → Bool
is_open_state closed = false
is_open_state (failed k q second) = true
is_open_state (working w) = true

-- "16 first": "a piece too long, less than 12,288 bytes lent for log, .. fewer lent entries .., a call after the close, or a state
-- whose own numbers do not fit together"
abbrev pub feedable : State → ℕ → ℕ → ℕ → Bool
feedable s n log_room entries = (is_open_state s && fits s) && ((leb n 4096 && leb 12288 log_room) && leb (entries_for s n) entries)

-- "the state then repeats the refusal and writes nothing"; "8 when the size is crossed, that piece unread and the state unchanged"
abbrev pub fed_on : State → List ℕ → Call
fed_on closed piece = refused_by 16 0 0 closed
fed_on (failed k q second) piece = refused_by k q second (failed k q second)
fed_on (working w) piece =
    cond (leb (count_of w + length piece) most_bytes) (answered (feed_bytes (working w) piece)) (refused_by 8 (count_of w) 0 (working w))

unfoldable pub fed_by : State → List ℕ → ℕ → ℕ → Call
fed_by s piece log_room entries = cond (feedable s (length piece) log_room entries) (fed_on s piece) (refused_by 16 0 0 s)

-- ---- closing

abbrev pub closed_with : Working → Got → Call
closed_with w (stopped k q second) = refused_by k q second closed
closed_with w (got is) =
    record { number = 0; place = 0; second = 0; log = packed (w.bits ++ (flat_map item_bits is ++ bits_of 4 0)); times = []; state = closed }

abbrev pub close_on : State → Call
close_on closed = refused_by 16 0 0 closed
close_on (failed k q second) = refused_by k q second closed
close_on (working w) = closed_with w (closing_at w.plan (length w.waiting) (count_of w) w.carry)

unfoldable pub closed_by : State → ℕ → Call
closed_by s log_room = cond ((is_open_state s && fits s) && leb 12288 log_room) (close_on s) (refused_by 16 0 0 s)
