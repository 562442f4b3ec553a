-- What the user is promised of a capture as it arrives, as theorems over the definitions. The proofs stand in the modules under Laws that
-- each names.
use Rattle.std.specs.Prelude.{ℕ, ◌*◌, ◌^◌, ◌≤◌, ◌<◌, ◌/◌, false, true, ◌≡◌, refl, ◌↔◌, List, [], ◌∷◌, ◌++◌, length, get_or}
use Rattle.std.proofs.Common.{arith}
use Rattle.format.specs.Lists.{All, Bytes}
use Rattle.format.specs.Plan.{legal, slots, group_words, times_needed}
use Rattle.format.specs.Read.{reading, gives, refuses, groups_in}
use Rattle.format.specs.Reader.{run, ran, begun, counted}
use Rattle.capture_rules.specs.Split.{words_read, items_read, in_capture}
use Rattle.stream_rules.specs.Stream.{State, closed, failed, working, Working, fits, opened, is_open_state, entries_for, refused_by, fed_on, fed_by, close_on, closed_by, feed_bytes, most_bytes, Streamed, streamed, stream_groups, group_size, start, earliest}
use Rattle.stream_rules.specs.StateNumbers.{numbers_of, state_of, passes}
use Rattle.capture_rules.proofs.Laws.Split.Large as Large
use Rattle.capture_rules.proofs.Laws.Split.Whole.{Meets}
use Rattle.capture_rules.proofs.Laws.Split.Whole as Split
use Rattle.capture_rules.specs.Laws.Split.Second as SplitSecond
use Rattle.stream_rules.specs.Laws.Stream.Earliest as Earliest
use Rattle.stream_rules.proofs.Laws.Stream.Kept as Kept
use Rattle.stream_rules.proofs.Laws.Stream.Room as Room
use Rattle.stream_rules.proofs.Laws.Stream.Pieces.{Cut, capture_of, feed_all, NoneRefused, whole}
use Rattle.stream_rules.proofs.Laws.Stream.Pieces as Pieces
use Rattle.stream_rules.proofs.Laws.Stream.Plain.{Ends}
use Rattle.stream_rules.proofs.Laws.Stream.Plain as Plain
use Rattle.stream_rules.proofs.Laws.Stream.Answers as Answers
use Rattle.stream_rules.proofs.Laws.Stream.Numbers as Numbers
use Rattle.stream_rules.proofs.Laws.Stream.Second as StreamSecond
use Rattle.format.specs.declared.Item.{Item}
use Rattle.format.specs.declared.Held.{Held}
use Rattle.format.specs.declared.Held.TheVariants.{Nothing}
use Rattle.format.specs.declared.Kind.{Kind}
use Rattle.format.specs.declared.Plan.{Plan}

-- ---- K4: a capture as it arrives

-- "sixteen bus kinds"
abbrev pub Sixteen : List Kind → Type 0
Sixteen ks = length ks ≡ 16

-- "every state that the opening returns, or a call on a state that passes, passes it"
pub opened_passes : (p : Plan) (ks : List Kind) → Sixteen ks → fits (opened p ks) ≡ true
opened_passes = Kept.opened_fits

pub fed_passes : (s : State) (piece : List ℕ) (log_room entries : ℕ) → fits s ≡ true → fits (fed_by s piece log_room entries).state ≡ true
fed_passes = Kept.fed_fits

pub closed_passes : (s : State) (log_room : ℕ) → fits s ≡ true → fits (closed_by s log_room).state ≡ true
closed_passes = Kept.close_fits

-- "a state that passes is never refused for its numbers but worked on as they say"
pub passing_fed : (s : State) (piece : List ℕ) (log_room entries : ℕ) → fits s ≡ true → is_open_state s ≡ true → length piece ≤ 4096 → 12288 ≤ log_room
    → entries_for s (length piece) ≤ entries
    → (fed_by s piece log_room entries ≡ fed_on s piece) × ((fed_by s piece log_room entries).number ≡ 16 → ⊥)
passing_fed = Kept.fed_works

pub passing_closed : (s : State) (log_room : ℕ) → fits s ≡ true → is_open_state s ≡ true → 12288 ≤ log_room
    → (closed_by s log_room ≡ close_on s) × ((closed_by s log_room).number ≡ 16 → ⊥)
passing_closed = Kept.close_works

-- "the state then repeats the refusal and writes nothing", with both places (K8); the close too, and the state is closed then
pub fed_repeats : (k q second : ℕ) (piece : List ℕ) (log_room entries : ℕ) → fits (failed k q second) ≡ true → length piece ≤ 4096 → 12288 ≤ log_room
    → fed_by (failed k q second) piece log_room entries ≡ refused_by k q second (failed k q second)
fed_repeats k q second piece log_room entries f n r = (Kept.fed_works (failed k q second) piece log_room entries f refl n r (omega arith)).0

pub closed_repeats : (k q second log_room : ℕ) → fits (failed k q second) ≡ true → 12288 ≤ log_room
    → closed_by (failed k q second) log_room ≡ refused_by k q second closed
closed_repeats k q second log_room f r = (Kept.close_works (failed k q second) log_room f refl r).0

-- what is lent is enough, for every state that passes
pub log_fits : (w : Working) → fits (working w) ≡ true → (piece : List ℕ) → length piece ≤ 4096 → length (feed_bytes (working w) piece).log ≤ 11102
log_fits = Room.room_enough

pub entries_fit : (w : Working) → fits (working w) ≡ true → (piece : List ℕ) → length (feed_bytes (working w) piece).times ≤ entries_for (working w) (length piece)
entries_fit = Room.entries_enough

pub end_fits : (w : Working) → fits (working w) ≡ true → length (close_on (working w)).log ≤ 7
end_fits = Room.close_few

-- "All cuttings of one capture within that, no call refused by 16, hand out the same bytes and times and end alike"
pub cut_as_you_like : (p : Plan) (ks : List Kind) → legal p ks ≡ true → (xs : List Cut) (room : ℕ) → length (capture_of xs) ≤ most_bytes
    → NoneRefused (opened p ks) xs → ((closed_by (feed_all (opened p ks) xs).state room).number ≡ 16 → ⊥)
    → whole (feed_all (opened p ks) xs) (closed_by (feed_all (opened p ks) xs).state room) ≡ streamed p ks (capture_of xs)
cut_as_you_like = Pieces.all_cuttings

-- "plain reading's log and times where it accepts"
pub plain_streams : (p : Plan) (ks : List Kind) (c log times : List ℕ) (log_room time_room : ℕ) → Bytes c → reading false p ks c log_room time_room ≡ gives log times
    → streamed p ks c ≡ record { log = log; times = times; number = 0; place = 0; second = 0 }
plain_streams = Plain.stream_accepts

-- "its number and place where it refuses by 9 to 13", and its second place (K8), "unless a 15 was shown first": in an earlier group, or
-- before a 13
pub refused_streams : (p : Plan) (ks : List Kind) (c : List ℕ) (log_room time_room k q second : ℕ) → reading false p ks c log_room time_room ≡ refuses k q second → 9 ≤ k → k ≤ 13
    → Ends p (stream_groups p ks c (length c / group_size p) 0 start) k q second (streamed p ks c)
refused_streams = Plain.stream_refuses

-- and a 15 where it gives one
pub open_streams : (p : Plan) (ks : List Kind) (c : List ℕ) (log_room time_room q second : ℕ) → Sixteen ks → Bytes c → reading false p ks c log_room time_room ≡ refuses 15 q second
    → (streamed p ks c).number ≡ 15
open_streams = Answers.stream_open

-- "at the close the earliest": it waits, and no notice that waits has a smaller number (numbers rise in dealt order)
pub close_earliest : (l : List ℕ) → 1 ≤ earliest l → ((k : ℕ) × (get_or l k 0 ≡ earliest l)) × ((k : ℕ) → 1 ≤ get_or l k 0 → earliest l ≤ get_or l k 0)
close_earliest l h = (Earliest.earliest_one l h, λ k s. (Earliest.earliest_least l k s).1)

-- K8: "In every other answer the second place is 0."
pub streamed_second : (p : Plan) (ks : List Kind) (c : List ℕ) → ((streamed p ks c).number ≡ 13 → ⊥) → (streamed p ks c).second ≡ 0
streamed_second = StreamSecond.stream_only

pub fed_second : (s : State) (piece : List ℕ) (log_room entries : ℕ) → fits s ≡ true
    → ((fed_by s piece log_room entries).number ≡ 13 → ⊥) → (fed_by s piece log_room entries).second ≡ 0
fed_second = StreamSecond.fed_only

pub closed_second : (s : State) (log_room : ℕ) → fits s ≡ true → ((closed_by s log_room).number ≡ 13 → ⊥) → (closed_by s log_room).second ≡ 0
closed_second = StreamSecond.closed_only

-- the state as a row of numbers: a state that passes comes back from its numbers, they pass the test of a row, and only such rows pass it
pub state_back : (s : State) → fits s ≡ true → state_of (numbers_of s) ≡ s
state_back = Numbers.state_back

pub fits_passes : (s : State) → fits s ≡ true → passes (numbers_of s) ≡ true
fits_passes = Numbers.fits_passes

pub passes_fits : (ns : List ℕ) → passes ns ≡ true → (s : State) × (fits s ≡ true) × (numbers_of s ≡ ns)
passes_fits = Numbers.passes_fits
