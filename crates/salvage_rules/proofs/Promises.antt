-- What the user is promised of salvage, as theorems over the definitions. The proofs stand in the modules under Laws that each names.
use Rattle.std.specs.Prelude.{ℕ, ◌+◌, ◌*◌, ◌^◌, ◌≤◌, ◌<◌, Bool, false, true, ◌≡◌, ◌↔◌, ◌⊎◌, List, [], ◌∷◌, ◌++◌, map, length}
use Rattle.std.proofs.Common.{sym, ◌∙◌}
use Rattle.format.specs.Lists.{All, Bytes}
use Rattle.format.specs.Plan.{legal, slots, group_words, times_needed}
use Rattle.format.proofs.Promises.{Sixteen}
use Rattle.format.specs.Read.{reading, gives, refuses, groups_in}
use Rattle.format.specs.Reader.{run, ran, begun, counted}
use Rattle.capture_rules.specs.Split.{words_read, items_read, in_capture}
use Rattle.capture_rules.proofs.Laws.Split.Large as Large
use Rattle.capture_rules.proofs.Laws.Split.Whole.{Meets}
use Rattle.capture_rules.proofs.Laws.Split.Whole as Split
use Rattle.capture_rules.specs.Laws.Split.Second as SplitSecond
use Rattle.salvage_rules.specs.Salvage.{Piece, gap, pieces, kept_times, Entry, Salvage, Saves, saves, forgoes, salvage, salvage_groups, salvaged, entry_number, open_reading}
use Rattle.salvage_rules.proofs.Laws.Salvage.Account.{Account, OnOneSide}
use Rattle.salvage_rules.proofs.Laws.Salvage.Account as Account'
use Rattle.salvage_rules.proofs.Laws.Salvage.Plain as Saved
use Rattle.salvage_rules.proofs.Laws.Salvage.Call.{Apart, SalvageOf, groups_named}
use Rattle.salvage_rules.proofs.Laws.Salvage.Call as Salvaging
use Rattle.salvage_rules.proofs.Laws.Salvage.Named.{entry_of}
use Rattle.salvage_rules.specs.Laws.Salvage.Refusals.{Refused}
use Rattle.salvage_rules.specs.Laws.Salvage.Refusals as Refusals
use Rattle.salvage_rules.specs.declared.Salvaged.{Salvaged}
use Rattle.format.specs.declared.Item.{Item}
use Rattle.format.specs.declared.Held.{Held}
use Rattle.format.specs.declared.Held.TheVariants.{Nothing}
use Rattle.format.specs.declared.Kind.{Kind}
use Rattle.format.specs.declared.Plan.{Plan}

-- ---- K10: salvage a damaged capture

-- the contract has one answer, and one content of the three lent buffers
pub saves_one : (m : Salvage) (r r' : Salvaged) (log x x' times y y' report z z' : List ℕ)
    → Saves m r log x times y report z → Saves m r' log x' times y' report z' → (r ≡ r') × (x ≡ x') × (y ≡ y') × (z ≡ z')
saves_one m r r' log x x' times y y' report z z' a b = (a.0 ∙ sym b.0, a.1 ∙ sym b.1, a.2 ∙ sym b.2, a.3 ∙ sym b.3)

-- "Every data word is in one item, one report entry or a reported group.": the tape, that is the data words of the groups without a fault
-- of 9 to 12 and the index of each other group, in dealt order, is dealt piece by piece to the words kept and to the report, and the words
-- kept are those of the items (`Account`)
pub every_word_kept : (p : Plan) (ks : List Kind) (c : List ℕ) (n : ℕ) → Account ks p.parity (pieces p c n 0) (salvage_groups p ks c n)
every_word_kept = Account'.every_word

-- a salvage that gives a log: it parses under the plan, its items are those of the account, the data words whose place is not in the report
-- are just the words of the items, in order, and the times are those of the kept groups (`SalvageOf`)
pub salvages : (p : Plan) (ks : List Kind) (c log times : List ℕ) (report : List Entry) (log_room time_room reportRoom : ℕ) → Sixteen ks
    → salvaged p ks c log_room time_room reportRoom ≡ saves log times report → SalvageOf p ks c log times report
salvages = Salvaging.salvage_by

-- "Nothing is joined across a dropped group": the items and the report are those of the tape before it and then those of the tape behind
-- it, each with its own account (`OnOneSide`)
pub nothing_joined : (ks : List Kind) (parity : Bool) (ts us : List Piece) (n g : ℕ) → OnOneSide ks parity ts n g us (salvage ks parity (ts ++ gap n g ∷ us) Nothing [])
nothing_joined = Account'.one_side

-- and so of a salvage that gives a log: no item has words on both sides of a dropped group (`Apart`)
pub sides_apart : (p : Plan) (ks : List Kind) (c log times : List ℕ) (report : List Entry) (log_room time_room reportRoom : ℕ) → Sixteen ks
    → salvaged p ks c log_room time_room reportRoom ≡ saves log times report → Apart p ks c log report
sides_apart = Salvaging.apart_by

-- "The report names each dropped group by index with its fault's number, and each dropped data word outside these by its place": each entry's
-- number says which of the two it is, and of what (`entry_of`)
pub report_named : (p : Plan) (ks : List Kind) (c log times : List ℕ) (report : List Entry) (log_room time_room reportRoom : ℕ) → Sixteen ks
    → salvaged p ks c log_room time_room reportRoom ≡ saves log times report → map entry_of (map entry_number report) ≡ report
report_named = Salvaging.named_by

-- "The time row has the kept groups only."
pub a_time_a_group : (p : Plan) (ks : List Kind) (c : List ℕ) (n : ℕ) → length (kept_times p c n 0) + groups_named (salvage_groups p ks c n).report ≡ n
a_time_a_group = Salvaging.a_time_a_group

-- "A capture that plain reading accepts gives the same log and an empty report."
pub accepted_saved : (p : Plan) (ks : List Kind) (c log times : List ℕ) (log_room time_room reportRoom : ℕ)
    → reading false p ks c log_room time_room ≡ gives log times → salvaged p ks c log_room time_room reportRoom ≡ saves log times []
accepted_saved = Saved.plain_saved

-- The other way round plain reading accepts, or refuses by 15 ("Open notices remain.")
pub saved_accepted : (p : Plan) (ks : List Kind) (c log times : List ℕ) (log_room time_room reportRoom : ℕ)
    → salvaged p ks c log_room time_room reportRoom ≡ saves log times []
    → (reading false p ks c log_room time_room ≡ gives log times) ⊎ ((q : ℕ) × (reading false p ks c log_room time_room ≡ refuses 15 q 0))
saved_accepted = Saved.saved_plain

-- The report is empty exactly where plain reading without K2 (`open_reading`) accepts, in the same room, with the same log and times; and
-- plain reading differs from that only by a 15
pub saved_exactly : (p : Plan) (ks : List Kind) (c log times : List ℕ) (log_room time_room reportRoom : ℕ)
    → (open_reading p ks c log_room time_room ≡ gives log times) ↔ (salvaged p ks c log_room time_room reportRoom ≡ saves log times [])
saved_exactly = Saved.plain_exactly

pub open_or_same : (p : Plan) (ks : List Kind) (c : List ℕ) (log_room time_room : ℕ)
    → (reading false p ks c log_room time_room ≡ open_reading p ks c log_room time_room) ⊎ ((q : ℕ) × (reading false p ks c log_room time_room ≡ refuses 15 q 0))
open_or_same = Saved.reading_alike

-- "Refusals: 1, 8, then 6, 7, then 20 for too little report room (entries needed)": the number, its place, and that none before it holds
pub salvage_refused : (p : Plan) (ks : List Kind) (c : List ℕ) (log_room time_room reportRoom number place : ℕ)
    → salvaged p ks c log_room time_room reportRoom ≡ forgoes number place → Refused p ks c log_room time_room reportRoom number place
salvage_refused = Refusals.refused_by

-- K8: "In every other answer the second place is 0.", and salvage has no 13
pub salvage_second : (m : Salvage) (r : Salvaged) (log log' times times' report report' : List ℕ) → Saves m r log log' times times' report report' → r.second ≡ 0
salvage_second m r log log' times times' report report' a = rw a.0 (Refusals.answer_none m)
