-- Replay the front-end buffer (document 02, K13): "Before a flight we want to know if a buffer is large enough."
use Rattle.std.specs.Prelude.{ℕ, ◌+◌, ◌-◌, ◌≤◌, Bool, true, false, cond, ◌&&◌, ◌||◌, ◌≡◌, length, leb, eqb}
use mathlib.Core.List.{List, [], ◌∷◌, ◌++◌, flat_map}
use Rattle.format.specs.Answer.{over}
use Rattle.format.specs.Item.{bus_of_item, item_bits, item_words}
use Rattle.format.specs.Log.{Parsed, items, fault, parsed, on_no_plan, log_of}
use Rattle.format.specs.Group.{Fault, none, found, or_else, unless}
use Rattle.format.specs.declared.Item.{Item}
use Rattle.format.specs.declared.Item.TheVariants.{Command, Status, Data, BusError, Arinc, Notice, User, Overflow}
use Rattle.log_rules.specs.declared.Replayed.{Replayed}

-- an overflow mark
abbrev pub is_mark : Item → Bool
is_mark (Command bus b tag word) = false
is_mark (Status bus b resp word) = false
is_mark (Data bus b word) = false
is_mark (BusError bus b word) = false
is_mark (Arinc bus c tag word) = false
is_mark (Notice bus c diag) = false
is_mark (User bus three word) = false
is_mark (Overflow bus word) = true

-- the buffer: what was stored, marks included, words sent, items lost, words held; and of the items lost since the last mark, how
-- many there are and the bus of the first
pub record Buffer : Type 0 where
  pub stored : List Item
  pub sent : ℕ
  pub lost : ℕ
  pub held : ℕ
  pub unmarked : ℕ
  pub bus : ℕ

abbrev pub empty_buffer : Buffer
empty_buffer = record { stored = []; sent = 0; lost = 0; held = 0; unmarked = 0; bus = 0 }

-- "and one more for a mark if items were lost since the last mark": "the mark (bus of the first lost item, word = number lost)"
abbrev pub mark_for : Buffer → List Item
mark_for s = cond (eqb s.unmarked 0) [] (Overflow s.bus s.unmarked ∷ [])

-- what goes in with an item, and the words that it needs
abbrev pub with_mark : Buffer → Item → List Item
with_mark s i = mark_for s ++ i ∷ []

abbrev pub needs : Buffer → Item → ℕ
needs s i = length (flat_map item_words (with_mark s i))

-- "the mark .. and the item go in"
abbrev pub taken : Buffer → Item → Buffer
taken s i = record { stored = s.stored ++ with_mark s i; sent = s.sent; lost = s.lost; held = s.held + needs s i; unmarked = 0; bus = 0 }

-- "otherwise the item is lost whole"
abbrev pub missed : Buffer → Item → Buffer
missed s i = record {
  stored = s.stored;
  sent = s.sent;
  lost = s.lost + 1;
  held = s.held;
  unmarked = s.unmarked + 1;
  bus = cond (eqb s.unmarked 0) (bus_of_item i) s.bus;
}

-- "An arriving item needs its words, and one more for a mark .. If they fit in the free room"
unfoldable pub arrive : ℕ → Buffer → Item → Buffer
arrive capacity s i = cond (leb (s.held + needs s i) capacity) (taken s i) (missed s i)

-- "A group takes the oldest words, as many as there are up to its slots, and that room is used again."
unfoldable pub leave : ℕ → Buffer → Buffer
leave slots s =
    let n : ℕ = cond (leb s.held slots) s.held slots in
    record { stored = s.stored; sent = s.sent + n; lost = s.lost; held = s.held - n; unmarked = s.unmarked; bus = s.bus }

-- "a row of .. events, each "next item arrives" or "a group leaves"": 0 and 1
unfoldable pub replay : ℕ → ℕ → List ℕ → List Item → Buffer → Buffer
replay capacity slots [] is s = s
replay capacity slots (e ∷ es) [] s = replay capacity slots es [] (cond (eqb e 0) s (leave slots s))
replay capacity slots (e ∷ es) (i ∷ is) s = cond (eqb e 0) (replay capacity slots es is (arrive capacity s i)) (replay capacity slots es (i ∷ is) (leave slots s))

-- how many items arrive
unfoldable pub arrivals : List ℕ → ℕ
arrivals [] = 0
arrivals (e ∷ es) = cond (eqb e 0) (arrivals es + 1) (arrivals es)

-- "an event of neither kind"
unfoldable pub events_known : List ℕ → Bool
events_known [] = true
events_known (e ∷ es) = (eqb e 0 || eqb e 1) && events_known es

-- "a row of at most 65,535 events ..., a capacity of 8 to 4,096 words, and the slots of a group, 1 to 2,048"; "an event of neither kind
-- or more arrivals than items"
abbrev pub in_bounds : List ℕ → ℕ → ℕ → List Item → Bool
in_bounds events capacity slots is =
    leb (length events) 65535 && (leb 8 capacity && leb capacity 4096) && (leb 1 slots && leb slots 2048)
    && events_known events && leb (arrivals events) (length is)

-- "first for a mark in the log (its first bit)", where the first of the items begins at p
unfoldable pub first_mark : ℕ → List Item → Fault
first_mark p [] = none
first_mark p (i ∷ is) = cond (is_mark i) (found 19 p) (first_mark (p + length (item_bits i)) is)

-- "a log of what was stored, marks included, and words sent, items lost, words held"; or a refusal's number and place
pub data Replay : Type 0 where
  stores : List ℕ → ℕ → ℕ → ℕ → Replay
  denies : ℕ → ℕ → Replay

-- "then 6": "output too short, or a log above 32,768"
abbrev pub stores_in : ℕ → Buffer → Replay
stores_in room s =
    let log : List ℕ = log_of s.stored in
    cond (leb (length log) 32768 && leb (length log) room) (stores log s.sent s.lost s.held) (denies 6 (length log))

-- "then 19, first for a mark in the log (its first bit), then for a limit broken, .. (place 0)"
abbrev pub unreplayed : List ℕ → ℕ → ℕ → List Item → Fault
unreplayed events capacity slots is = or_else (first_mark 0 is) (unless (in_bounds events capacity slots is) 19 0)

abbrev pub if_replayed : Fault → Replay → Replay
if_replayed none r = r
if_replayed (found n p) r = denies n p

abbrev pub replay_items : List ℕ → ℕ → ℕ → ℕ → List Item → Replay
replay_items events capacity slots room is =
    if_replayed (unreplayed events capacity slots is) (stores_in room (replay capacity slots events is empty_buffer))

abbrev pub replay_parsed : List ℕ → ℕ → ℕ → ℕ → Parsed → Replay
replay_parsed events capacity slots room (fault n p) = denies n p
replay_parsed events capacity slots room (items is) = replay_items events capacity slots room is

-- "Refusals: 2, 4 as in composing; then 19 ..; then 6."
unfoldable pub replayed : List ℕ → List ℕ → ℕ → ℕ → ℕ → Replay
replayed log events capacity slots room = replay_parsed events capacity slots room (parsed on_no_plan log)

-- ---- what is answered

abbrev pub replay_answer : Replay → Replayed
replay_answer (stores log sent lost held) = record { number = 0; place = 0; second = 0; bytes = length log; sent = sent; lost = lost; held = held }
replay_answer (denies n p) = record { number = n; place = p; second = 0; bytes = 0; sent = 0; lost = 0; held = 0 }

-- the lent output after the replay; a refusal "changes no lent byte or number"
abbrev pub replay_after : Replay → List ℕ → List ℕ
replay_after (stores log sent lost held) out = over log out
replay_after (denies n p) out = out

-- what the replay hands over: number, place, length and the three counts, and the lent output, `out` before and `out'` after. Two
-- answers that meet it are the same (Promises, `replays_one`)
abbrev pub Replays : Replay → Replayed → List ℕ → List ℕ → Type 0
Replays m r out out' = (r ≡ replay_answer m) × (out' ≡ replay_after m out)

-- ---- what is kept account of

-- how many of them are no marks
unfoldable pub plain_items : List Item → ℕ
plain_items [] = 0
plain_items (i ∷ is) = cond (is_mark i) 0 1 + plain_items is

-- a mark's number; 0 of another item
abbrev pub mark_number : Item → ℕ
mark_number (Command bus b tag word) = 0
mark_number (Status bus b resp word) = 0
mark_number (Data bus b word) = 0
mark_number (BusError bus b word) = 0
mark_number (Arinc bus c tag word) = 0
mark_number (Notice bus c diag) = 0
mark_number (User bus three word) = 0
mark_number (Overflow bus word) = word

-- "the marks' numbers", added up
unfoldable pub marked : List Item → ℕ
marked [] = 0
marked (i ∷ is) = mark_number i + marked is

-- what a replay that gives a log went by, and its three accounts
pub record ReplayOf (log events : List ℕ) (capacity slots : ℕ) (out : List ℕ) (sent lost held : ℕ) : Type 0 where
  pub its : List Item
  pub old : parsed on_no_plan log ≡ items its
  -- "The result is a log of what was stored, marks included"
  pub end : Buffer
  pub run : replay capacity slots events its empty_buffer ≡ end
  pub is_log : log_of end.stored ≡ out
  pub parses : parsed on_no_plan out ≡ items end.stored
  pub counts : (end.sent ≡ sent) × (end.lost ≡ lost) × (end.held ≡ held)
  -- "items that arrived are those stored plus those lost"
  pub all_items : arrivals events ≡ plain_items end.stored + lost
  -- "the marks' numbers plus the losses not yet marked are all losses"
  pub all_losses : marked end.stored + end.unmarked ≡ lost
  -- "words stored are those sent and those held"
  pub all_words : length (flat_map item_words end.stored) ≡ sent + held
  pub room : held ≤ capacity
