-- Salvage a damaged capture (document 02, K10): "Tapes come back with dropouts."
use Rattle.std.specs.Prelude.{ℕ, zero, suc, ◌+◌, ◌-◌, ◌*◌, ◌/◌, ◌%◌, ◌^◌, Bool, cond, ◌&&◌, ◌≡◌, List, [], ◌∷◌, ◌++◌, map, length, drop, leb, eqb}
use Rattle.format.specs.Answer.{over}
use Rattle.format.specs.Word.{bus_of, label_of, info_of, is_fill}
use Rattle.format.specs.Plan.{legal, group_words}
use Rattle.format.specs.Log.{log_of}
use Rattle.format.specs.Reader.{Slot, Fed, bad, fed, feed, with_tag}
use Rattle.format.specs.Group.{Fault, none, found, group_fault, group_time, group_slots}
use Rattle.format.specs.Read.{Reading, gives, refuses, Got, got, stopped, read_groups, roomed}
use Rattle.salvage_rules.specs.declared.Salvaged.{Salvaged}
use Rattle.format.specs.declared.Kind.{Kind}
use Rattle.format.specs.declared.Plan.{Plan}
use Rattle.format.specs.declared.Tag.TheVariants.{Untagged}
use Rattle.format.specs.declared.Item.{Item}
use Rattle.format.specs.declared.Base.{Base}
use Rattle.format.specs.declared.Base.TheVariants as base
use Rattle.format.specs.declared.Held.{Held}
use Rattle.format.specs.declared.Held.TheVariants.{Nothing, Taggable, Half, TagHigh, TagLow, Answering}

-- ---- the tape: what is left of the groups

-- a dropped group, with its fault's number and its index, or a data word of a kept group
pub data Piece : Type 0 where
  gap : ℕ → ℕ → Piece
  datum : Slot → Piece

-- the data words of a kept group
unfoldable pub data_pieces : List Slot → List Piece
data_pieces [] = []
data_pieces (s ∷ ss) = cond (is_fill s.1) (data_pieces ss) (datum s ∷ data_pieces ss)

-- "Salvage drops each group with a fault 9 to 12 and reads the rest"
abbrev pub group_pieces : Fault → ℕ → List Slot → List Piece
group_pieces none g ss = data_pieces ss
group_pieces (found n q) g ss = gap n g ∷ []

-- n groups from g on
unfoldable pub pieces : Plan → List ℕ → ℕ → ℕ → List Piece
pieces p c zero g = []
pieces p c (suc n) g = group_pieces (group_fault p c (g * group_words p)) g (group_slots p c (g * group_words p)) ++ pieces p c n (g + 1)

-- "The time row has the kept groups only."
abbrev pub kept_time : Fault → ℕ → List ℕ
kept_time none t = t ∷ []
kept_time (found n q) t = []

unfoldable pub kept_times : Plan → List ℕ → ℕ → ℕ → List ℕ
kept_times p c zero g = []
kept_times p c (suc n) g = kept_time (group_fault p c (g * group_words p)) (group_time p c (g * group_words p)) ++ kept_times p c n (g + 1)

-- ---- items and report

-- "The report names each dropped group by index with its fault's number, and each dropped data word outside these by its place"
pub data Entry : Type 0 where
  lost_group : ℕ → ℕ → Entry
  lost_word : ℕ → Entry

pub record Saved : Type 0 where
  pub its : List Item
  pub report : List Entry

-- items and entries that come before
abbrev pub first : List Item → List Entry → Saved → Saved
first is es s = record { its = is ++ s.its; report = es ++ s.report }

-- how many words are held
abbrev pub base_words : Base → ℕ
base_words (base.Command bus b word) = 1
base_words (base.Arinc bus c word) = 2

abbrev pub held_words : Held → ℕ
held_words Nothing = 0
held_words (Taggable x) = base_words x
held_words (Half bus c high) = 1
held_words (TagHigh x high) = base_words x + 1
held_words (TagLow x high low) = base_words x + 2
held_words (Answering bus r) = 1

-- the last n: the places of what is held are those of the last words
abbrev pub last_of : ℕ → List ℕ → List ℕ
last_of n l = drop (length l - n) l

-- a command or an ARINC word without a tag is an item
abbrev pub finished : Held → List Item
finished Nothing = []
finished (Taggable x) = with_tag x Untagged ∷ []
finished (Half bus c high) = []
finished (TagHigh x high) = []
finished (TagLow x high low) = []
finished (Answering bus r) = []

-- an unfinished item's words are dropped
abbrev pub unfinished : Held → List ℕ → List ℕ
unfinished Nothing ps = []
unfinished (Taggable x) ps = []
unfinished (Half bus c high) ps = ps
unfinished (TagHigh x high) ps = ps
unfinished (TagLow x high low) ps = ps
unfinished (Answering bus r) ps = ps

-- "is tried as a start; if it starts nothing it is dropped too"
abbrev pub tried : Fed → ℕ → (Held → List ℕ → Saved) → Saved
tried bad here go = first [] (lost_word here ∷ []) (go Nothing [])
tried (fed is h) here go = first is [] (go h (last_of (held_words h) (here ∷ [])))

-- "A word that cannot continue the unfinished item drops that item's words and is tried as a start": what the word does to what is
-- held, and what it does where nothing is
abbrev pub salvage_word : Fed → Fed → Held → List ℕ → ℕ → (Held → List ℕ → Saved) → Saved
salvage_word (fed is h') start h ps here go = first is [] (go h' (last_of (held_words h') (ps ++ here ∷ [])))
salvage_word bad start h ps here go = first (finished h) (map lost_word (unfinished h ps)) (tried start here go)

-- the tape, holding h whose words stood at ps:
-- "An item left unfinished at the end is dropped."
-- "Nothing is joined across a dropped group, and a command or ARINC word that is the last data before one, its tag not yet seen, is
-- dropped as well."
unfoldable pub salvage : List Kind → Bool → List Piece → Held → List ℕ → Saved
salvage ks parity [] h ps = record { its = finished h; report = map lost_word (unfinished h ps) }
salvage ks parity (gap n g ∷ ts) h ps = first [] (map lost_word ps ++ lost_group n g ∷ []) (salvage ks parity ts Nothing [])
salvage ks parity (datum s ∷ ts) h ps =
    let bus : ℕ = bus_of parity s.1 in
    let label : ℕ = label_of s.1 in
    let info : ℕ = info_of s.1 in
    salvage_word (feed ks h bus label info) (feed ks Nothing bus label info) h ps s.0 (λ h' ps'. salvage ks parity ts h' ps')

-- ---- the call

-- the log, the times and the report, or a refusal's number and place ("In every other answer the second place is 0", K8: salvage has no 13)
pub data Salvage : Type 0 where
  saves : List ℕ → List ℕ → List Entry → Salvage
  forgoes : ℕ → ℕ → Salvage

-- "then 6, 7, then 20 for too little report room (entries needed)"
abbrev pub saved_in : ℕ → ℕ → ℕ → List ℕ → List ℕ → List Entry → Salvage
saved_in log_room time_room reportRoom log times report =
    cond (leb (length log) 32768 && leb (length log) log_room)
    (cond (leb (length times) time_room)
    (cond (leb (length report) reportRoom) (saves log times report) (forgoes 20 (length report)))
    (forgoes 7 (length times)))
    (forgoes 6 (length log))

-- all of n groups
abbrev pub salvage_groups : Plan → List Kind → List ℕ → ℕ → Saved
salvage_groups p ks c n = salvage ks p.parity (pieces p c n 0) Nothing []

-- "Refusals: 1, 8, then 6, 7, then 20"
unfoldable pub salvaged : Plan → List Kind → List ℕ → ℕ → ℕ → ℕ → Salvage
salvaged p ks c log_room time_room reportRoom =
    let size : ℕ = 3 * group_words p in
    let n : ℕ = length c / size in
    let s : Saved = salvage_groups p ks c n in
    cond (legal p ks)
    (cond (leb (length c) 1048576 && eqb (length c % size) 0)
    (saved_in log_room time_room reportRoom (log_of s.its) (cond p.frame_time (kept_times p c n 0) []) s.report)
    (forgoes 8 (length c)))
    (forgoes 1 0)

-- ---- what is handed over

-- a report's entry as one number: the number of the group's fault times 2^32 and its index, or 0 and the word's place
abbrev pub entry_number : Entry → ℕ
entry_number (lost_group n g) = n * 2 ^ 32 + g
entry_number (lost_word q) = q

-- "On success: number 0, place 0 and the lengths written"; "A refusal returns number, place and lengths 0"
abbrev pub salvage_answer : Salvage → Salvaged
salvage_answer (saves log times report) = record { number = 0; place = 0; second = 0; bytes = length log; times = length times; entries = length report }
salvage_answer (forgoes n p) = record { number = n; place = p; second = 0; bytes = 0; times = 0; entries = 0 }

-- the lent log, time table and report afterwards; a refusal "changes no lent byte or number"
abbrev pub log_after : Salvage → List ℕ → List ℕ
log_after (saves log times report) out = over log out
log_after (forgoes n p) out = out

abbrev pub times_after : Salvage → List ℕ → List ℕ
times_after (saves log times report) out = over times out
times_after (forgoes n p) out = out

abbrev pub report_after : Salvage → List ℕ → List ℕ
report_after (saves log times report) out = over (map entry_number report) out
report_after (forgoes n p) out = out

-- what the salvage hands over: number, place and three lengths, and the three lent buffers before and after. Two answers that meet it
-- are the same (Promises, `saves_one`)
abbrev pub Saves : Salvage → Salvaged → List ℕ → List ℕ → List ℕ → List ℕ → List ℕ → List ℕ → Type 0
Saves m r log log' times times' report report' =
    (r ≡ salvage_answer m) × (log' ≡ log_after m log) × (times' ≡ times_after m times) × (report' ≡ report_after m report)

-- ---- "Open notices remain."

-- the plain reading without K2: nothing is asked of notices
abbrev pub settled_open : Plan → List ℕ → ℕ → ℕ → ℕ → Got → Reading
settled_open p c n log_room time_room (stopped k at second) = refuses k at second
settled_open p c n log_room time_room (got is) = roomed p c n log_room time_room (log_of is)

unfoldable pub open_reading : Plan → List Kind → List ℕ → ℕ → ℕ → Reading
open_reading p ks c log_room time_room =
    let size : ℕ = 3 * group_words p in
    cond (legal p ks)
    (cond (leb (length c) 1048576 && eqb (length c % size) 0)
    (settled_open p c (length c / size) log_room time_room (read_groups p ks c (length c / size) 0 Nothing 0))
    (refuses 8 (length c) 0))
    (refuses 1 0 0)
