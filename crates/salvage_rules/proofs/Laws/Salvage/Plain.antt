-- Salvage and plain reading (document 02, K10): "A capture that plain reading accepts gives the same log and an empty report."
use Rattle.std.specs.Prelude.{ℕ, zero, suc, ◌+◌, ◌-◌, ◌*◌, ◌/◌, ◌%◌, ◌^◌, ◌<◌, ◌≤◌, ◌&&◌, ◌≡◌, ◌↔◌, ◌⊎◌, length}
use Rattle.std.proofs.Common.{arith, ap, ap₂, sym, ◌∙◌, inl, inr, leb-true, le-leb, eqb-true}
use Rattle.std.proofs.Math.Bool.{Bool, true, false, cond}
use Rattle.std.proofs.Math.Path.{refl}
use mathlib.Core.List.{List, [], ◌∷◌, ◌++◌, map, flat_map, append_assoc, append-nil}
use Rattle.std.proofs.Math.Dec.{leb, eqb}
use Rattle.format.specs.Lists.{All, nil, cons, Bytes, list}
use Rattle.format.specs.Word.{Part, part_of, is_fill}
use Rattle.format.specs.Item.{item_parts}
use Rattle.format.specs.Lawful.{Lawful}
use Rattle.format.specs.Plan.{group_words, legal}
use Rattle.format.specs.Log.{log_of}
use Rattle.format.specs.Notices.{first_open, first_word_of}
use Rattle.format.specs.Reader.{Slot, data_of, places_of}
use Rattle.format.specs.Group.{Fault, none, found, unless, group_fault, group_time, group_slots}
use Rattle.format.specs.Read.{Reading, gives, refuses, reading, read_groups, slots_from, Got, got, stopped, settled, roomed, unless_found, open_in}
use Rattle.salvage_rules.specs.Salvage.{Piece, gap, datum, data_pieces, group_pieces, pieces, kept_time, kept_times, Entry, lost_group, lost_word, Saved, salvage, Salvage, saves, forgoes, saved_in, salvage_groups, salvaged, settled_open, open_reading}
use Rattle.format.specs.Laws.Tests.{clash, and_true}
use Rattle.format.specs.Laws.Lists.{length_list}
use Rattle.format.specs.Laws.Reader.Parts.{said}
use Rattle.format.proofs.Laws.Reader.Reads.{Whole, whole, whole_of, reads}
use Rattle.format.proofs.Laws.Reader.Groups.{Faultless, last, next, groups_read}
use Rattle.format.proofs.Laws.Reader.Words.{got_whole}
use Rattle.format.proofs.Laws.Reader.Back as Back
use Rattle.format.proofs.Laws.Accepted.Faultless.{accepted_sound}
use Rattle.salvage_rules.proofs.Laws.Salvage.Account.{Dealt, done, kept, dropped, lost, Account, say_of, account, every_word, read_saved, saved, slots_in}
use Rattle.format.specs.declared.Kind.{Kind}
use Rattle.format.specs.declared.Plan.{Plan}
use Rattle.format.specs.declared.Item.{Item}
use Rattle.format.specs.declared.Held.{Held}
use Rattle.format.specs.declared.Held.TheVariants.{Nothing}

-- ---- groups without fault

pub data_pieces_append : (ss ts : List Slot) → data_pieces (ss ++ ts) ≡ data_pieces ss ++ data_pieces ts
unfolding data_pieces
data_pieces_append [] ts = refl
data_pieces_append (s ∷ ss) ts = go (is_fill s.1) (data_pieces_append ss ts)
  where
    go : (b : Bool) → data_pieces (ss ++ ts) ≡ data_pieces ss ++ data_pieces ts
        → cond b (data_pieces (ss ++ ts)) (datum s ∷ data_pieces (ss ++ ts)) ≡ cond b (data_pieces ss) (datum s ∷ data_pieces ss) ++ data_pieces ts
    go true e = e
    go false e = ap (λ (l : List Piece). datum s ∷ l) e

faultless_pieces : (p : Plan) (c : List ℕ) (n g : ℕ) → Faultless p c n g → pieces p c n g ≡ data_pieces (slots_from p c n g)
unfolding pieces slots_from data_pieces
faultless_pieces p c zero g last = refl
faultless_pieces p c (suc n) g (next e f) =
    rw e (ap (λ (l : List Piece). data_pieces (group_slots p c (g * group_words p)) ++ l) (faultless_pieces p c n (g + 1) f)
    ∙ sym (data_pieces_append (group_slots p c (g * group_words p)) (slots_from p c n (g + 1))))

faultless_times : (p : Plan) (c : List ℕ) (n g : ℕ) → Faultless p c n g → kept_times p c n g ≡ list (λ g. group_time p c (g * group_words p)) g n
unfolding kept_times list
faultless_times p c zero g last = refl
faultless_times p c (suc n) g (next e f) = rw e (ap (λ (l : List ℕ). group_time p c (g * group_words p) ∷ l) (faultless_times p c n (g + 1) f))

-- ---- an empty report

abbrev NoGap : List Piece → Type 0
NoGap [] = Unit {0}
NoGap (gap n g ∷ ts) = ⊥
NoGap (datum s ∷ ts) = NoGap ts

not_empty : {A : Type 0} {e : Entry} {es : List Entry} → e ∷ es ≡ [] → A
not_empty z = let y : ◌≡◌ {A = ℕ} 0 1 = cc in absurd (omega arith)

-- nothing reported, nothing lost
pub all_there : {ts : List Piece} {ss : List Slot} {es : List Entry} → Dealt ts ss es → es ≡ [] → NoGap ts × (slots_in ts ≡ ss)
all_there done e = (tt, refl)
all_there (kept s d) e = ((all_there d e).0, ap (λ (l : List Slot). s ∷ l) (all_there d e).1)
all_there (dropped s d) e = not_empty e
all_there (lost n g d) e = not_empty e

gap_behind : (ts us : List Piece) → NoGap (ts ++ us) → NoGap us
gap_behind [] us k = k
gap_behind (gap n g ∷ ts) us k = absurd k
gap_behind (datum s ∷ ts) us k = gap_behind ts us k

no_faults : (p : Plan) (c : List ℕ) (n g : ℕ) → NoGap (pieces p c n g) → Faultless p c n g
unfolding pieces
no_faults p c zero g k = last
no_faults p c (suc n) g k = go (group_fault p c (g * group_words p)) refl k (no_faults p c n (g + 1))
  where
    go : (f : Fault) → group_fault p c (g * group_words p) ≡ f → NoGap (group_pieces f g (group_slots p c (g * group_words p)) ++ pieces p c n (g + 1))
        → (NoGap (pieces p c n (g + 1)) → Faultless p c n (g + 1)) → Faultless p c (suc n) g
    go none e z ih = next e (ih (gap_behind (data_pieces (group_slots p c (g * group_words p))) (pieces p c n (g + 1)) z))
    go (found k q) e z ih = absurd z

data_say : (parity : Bool) (ss : List Slot) → say_of parity (slots_in (data_pieces ss)) ≡ said parity ss
unfolding data_pieces data_of
data_say parity [] = refl
data_say parity (s ∷ ss) = go (is_fill s.1) (data_say parity ss)
  where
    go : (b : Bool) → say_of parity (slots_in (data_pieces ss)) ≡ said parity ss
        → say_of parity (slots_in (cond b (data_pieces ss) (datum s ∷ data_pieces ss))) ≡ map (part_of parity) (cond b (data_of ss) (s.1 ∷ data_of ss))
    go true e = e
    go false e = ap (λ (l : List Part). part_of parity s.1 ∷ l) e

-- where the report is empty the groups have no fault and plain reading reads the same items
pub empty_read : (p : Plan) (ks : List Kind) (c : List ℕ) (n : ℕ) → (salvage_groups p ks c n).report ≡ []
    → Faultless p c n 0 × (read_groups p ks c n 0 Nothing 0 ≡ got (salvage_groups p ks c n).its)
empty_read p ks c n e =
    let a = every_word p ks c n in
    let t = all_there a.dealt e in
    let f = no_faults p c n 0 t.0 in
    let d : said p.parity (slots_from p c n 0) ≡ flat_map item_parts (salvage_groups p ks c n).its =
    sym (data_say p.parity (slots_from p c n 0)) ∙ ap (λ (l : List Piece). say_of p.parity (slots_in l)) (sym (faultless_pieces p c n 0 f))
    ∙ ap (say_of p.parity) t.1 ∙ a.says in (
      f,
      got_whole (read_groups p ks c n 0 Nothing 0) (salvage_groups p ks c n).its
          (groups_read p ks c n 0 f Nothing 0 ∙ ap (reads ks Nothing) d ∙ Back.parts_back ks (salvage_groups p ks c n).its a.lawful Nothing Back.none),
    )

-- and where plain reading reads items, they are salvaged and nothing is reported
pub read_empty : (p : Plan) (ks : List Kind) (c : List ℕ) (n : ℕ) (is : List Item) → read_groups p ks c n 0 Nothing 0 ≡ got is
    → Faultless p c n 0 × (salvage_groups p ks c n ≡ saved is [])
read_empty p ks c n is e =
    let f = accepted_sound p ks c n 0 Nothing 0 is e in (
      f,
      ap (λ (l : List Piece). salvage ks p.parity l Nothing []) (faultless_pieces p c n 0 f)
          ∙ read_saved ks p.parity (slots_from p c n 0) Nothing [] is (sym (groups_read p ks c n 0 f Nothing 0) ∙ ap whole_of e),
    )

-- ---- the calls

no_gives : {A : Type 0} {n q second : ℕ} {log times : List ℕ} → refuses n q second ≡ gives log times → A
no_gives e = let z : ◌≡◌ {A = ℕ} 0 1 = cc in absurd (omega arith)

no_saves : {A : Type 0} {n q : ℕ} {log times : List ℕ} {report : List Entry} → forgoes n q ≡ saves log times report → A
no_saves e = let z : ◌≡◌ {A = ℕ} 0 1 = cc in absurd (omega arith)

same_gives : {a b c d : List ℕ} → gives a b ≡ gives c d → (a ≡ c) × (b ≡ d)
same_gives e = (cc, cc)

same_saves : {a b c d : List ℕ} {r q : List Entry} → saves a b r ≡ saves c d q → (a ≡ c) × (b ≡ d) × (r ≡ q)
same_saves e = (cc, cc, cc)

module _ (p : Plan) (ks : List Kind) (c log times : List ℕ) (log_room time_room reportRoom : ℕ) where
  abbrev n : ℕ
  n = length c / (3 * group_words p)

  abbrev its : List Item
  its = (salvage_groups p ks c n).its

  abbrev row : List ℕ
  row = cond p.frame_time (kept_times p c n 0) []

  -- the times of all groups, where none has a fault
  row_is : Faultless p c n 0 → row ≡ list (λ g. group_time p c (g * group_words p)) 0 (cond p.frame_time n 0)
  unfolding list
  row_is f = go p.frame_time
    where
      go : (b : Bool) → cond b (kept_times p c n 0) [] ≡ list (λ g. group_time p c (g * group_words p)) 0 (cond b n 0)
      go true = faultless_times p c n 0 f
      go false = refl

  -- both ask for the same room
  room_there : (new row' : List ℕ) (need : ℕ) (is : List Item) (report : List Entry) → length row' ≡ need → report ≡ []
      → cond (leb (length new) 32768 && leb (length new) log_room) (cond (leb need time_room) (gives new row') (refuses 7 need 0)) (refuses 6 (length new) 0) ≡ gives log times
      → saved_in log_room time_room reportRoom new row' report ≡ saves log times []
  room_there new row' need is report l r e = rw (r, le-leb 0 reportRoom (omega arith)) (go (leb (length new) 32768 && leb (length new) log_room) e)
    where
      timed : (b : Bool) → cond b (gives new row') (refuses 7 need 0) ≡ gives log times → cond b (saves new row' []) (forgoes 7 need) ≡ saves log times []
      timed true e = let s = same_gives e in ap₂ (λ (x y : List ℕ). saves x y []) s.0 s.1
      timed false e = no_gives e

      go : (b : Bool) → cond b (cond (leb need time_room) (gives new row') (refuses 7 need 0)) (refuses 6 (length new) 0) ≡ gives log times
          → cond b (cond (leb (length row') time_room) (saves new row' []) (forgoes 7 (length row'))) (forgoes 6 (length new)) ≡ saves log times []
      go true e = rw l (timed (leb need time_room) e)
      go false e = no_gives e

  -- what a salvage with an empty report went by
  room_back : (new row' : List ℕ) (report : List Entry) → saved_in log_room time_room reportRoom new row' report ≡ saves log times []
      → (report ≡ []) × (cond (leb (length new) 32768 && leb (length new) log_room) (cond (leb (length row') time_room) (gives new row') (refuses 7 (length row') 0)) (refuses 6 (length new) 0) ≡ gives log times)
  room_back new row' report e = go (leb (length new) 32768 && leb (length new) log_room) e
    where
      told : (b : Bool) → cond b (saves new row' report) (forgoes 20 (length report)) ≡ saves log times [] → (report ≡ []) × (gives new row' ≡ gives log times)
      told true e = let s = same_saves e in (s.2, ap₂ gives s.0 s.1)
      told false e = no_saves e

      timed : (b : Bool) → cond b (cond (leb (length report) reportRoom) (saves new row' report) (forgoes 20 (length report))) (forgoes 7 (length row')) ≡ saves log times []
          → (report ≡ []) × (cond b (gives new row') (refuses 7 (length row') 0) ≡ gives log times)
      timed true e = told (leb (length report) reportRoom) e
      timed false e = no_saves e

      go : (b : Bool) → cond b (cond (leb (length row') time_room) (cond (leb (length report) reportRoom) (saves new row' report) (forgoes 20 (length report))) (forgoes 7 (length row'))) (forgoes 6 (length new)) ≡ saves log times []
          → (report ≡ []) × (cond b (cond (leb (length row') time_room) (gives new row') (refuses 7 (length row') 0)) (refuses 6 (length new) 0) ≡ gives log times)
      go true e = timed (leb (length row') time_room) e
      go false e = no_saves e

  plain_there : (g : Got) → read_groups p ks c n 0 Nothing 0 ≡ g → settled_open p c n log_room time_room g ≡ gives log times
      → saved_in log_room time_room reportRoom (log_of its) row (salvage_groups p ks c n).report ≡ saves log times []
  plain_there (stopped k q second) r e = no_gives e
  plain_there (got is) r e =
      let z = read_empty p ks c n is r in
      let t : row ≡ list (λ g. group_time p c (g * group_words p)) 0 (cond p.frame_time n 0) = row_is z.0 in
      ap (λ (s : Saved). saved_in log_room time_room reportRoom (log_of s.its) row s.report) z.1
      ∙ ap (λ (l : List ℕ). saved_in log_room time_room reportRoom (log_of is) l []) t
      ∙ room_there (log_of is) (list (λ g. group_time p c (g * group_words p)) 0 (cond p.frame_time n 0)) (cond p.frame_time n 0) is []
      (length_list (λ g. group_time p c (g * group_words p)) 0 (cond p.frame_time n 0)) refl e

  plain_back : saved_in log_room time_room reportRoom (log_of its) row (salvage_groups p ks c n).report ≡ saves log times []
      → settled_open p c n log_room time_room (read_groups p ks c n 0 Nothing 0) ≡ gives log times
  plain_back e =
      let b = room_back (log_of its) row (salvage_groups p ks c n).report e in
      let z = empty_read p ks c n b.0 in
      let need : ℕ = cond p.frame_time n 0 in
      let f : ℕ → ℕ = λ g. group_time p c (g * group_words p) in
      let r : cond (leb (length (log_of its)) 32768 && leb (length (log_of its)) log_room) (cond (leb (length (list f 0 need)) time_room) (gives (log_of its) (list f 0 need)) (refuses 7 (length (list f 0 need)) 0)) (refuses 6 (length (log_of its)) 0) ≡ gives log times
      = rw (row_is z.0) at b.1 in
      let q : settled_open p c n log_room time_room (got its) ≡ gives log times = rw (length_list f 0 need) at r in
      ap (settled_open p c n log_room time_room) z.1 ∙ q

  -- the report is empty exactly where plain reading without K2 accepts, with the same log and times, in the same room
  pub plain_exactly : (open_reading p ks c log_room time_room ≡ gives log times) ↔ (salvaged p ks c log_room time_room reportRoom ≡ saves log times [])
  unfolding open_reading salvaged
  plain_exactly = (λ e. go (legal p ks) e, λ e. og (legal p ks) e)
    where
      fits : Bool
      fits = leb (length c) 1048576 && eqb (length c % (3 * group_words p)) 0

      sized : (b : Bool) → cond b (settled_open p c n log_room time_room (read_groups p ks c n 0 Nothing 0)) (refuses 8 (length c) 0) ≡ gives log times
          → cond b (saved_in log_room time_room reportRoom (log_of its) row (salvage_groups p ks c n).report) (forgoes 8 (length c)) ≡ saves log times []
      sized true e = plain_there (read_groups p ks c n 0 Nothing 0) refl e
      sized false e = no_gives e

      go : (b : Bool) → cond b (cond fits (settled_open p c n log_room time_room (read_groups p ks c n 0 Nothing 0)) (refuses 8 (length c) 0)) (refuses 1 0 0) ≡ gives log times
          → cond b (cond fits (saved_in log_room time_room reportRoom (log_of its) row (salvage_groups p ks c n).report) (forgoes 8 (length c))) (forgoes 1 0) ≡ saves log times []
      go true e = sized fits e
      go false e = no_gives e

      desized : (b : Bool) → cond b (saved_in log_room time_room reportRoom (log_of its) row (salvage_groups p ks c n).report) (forgoes 8 (length c)) ≡ saves log times []
          → cond b (settled_open p c n log_room time_room (read_groups p ks c n 0 Nothing 0)) (refuses 8 (length c) 0) ≡ gives log times
      desized true e = plain_back e
      desized false e = no_saves e

      og : (b : Bool) → cond b (cond fits (saved_in log_room time_room reportRoom (log_of its) row (salvage_groups p ks c n).report) (forgoes 8 (length c))) (forgoes 1 0) ≡ saves log times []
          → cond b (cond fits (settled_open p c n log_room time_room (read_groups p ks c n 0 Nothing 0)) (refuses 8 (length c) 0)) (refuses 1 0 0) ≡ gives log times
      og true e = desized fits e
      og false e = no_saves e

-- ---- "Open notices remain": plain reading is that reading, or refuses by 15

-- the one or the other
abbrev pub Alike : Reading → Reading → Type 0
Alike r o = (r ≡ o) ⊎ ((q : ℕ) × (r ≡ refuses 15 q 0))

settled_alike : (p : Plan) (c : List ℕ) (n log_room time_room : ℕ) (g : Got) → Alike (settled p c n log_room time_room false g) (settled_open p c n log_room time_room g)
settled_alike p c n log_room time_room (stopped k q second) = inl refl
settled_alike p c n log_room time_room (got is) = go (eqb (first_open is) (length is)) (first_word_of (places_of (slots_from p c n 0)) is (first_open is))
  where
    go : (b : Bool) (q : ℕ) → Alike (unless_found (unless b 15 q) (unless_found none (roomed p c n log_room time_room (log_of is)))) (roomed p c n log_room time_room (log_of is))
    go true q = inl refl
    go false q = inr (q, refl)

pub reading_alike : (p : Plan) (ks : List Kind) (c : List ℕ) (log_room time_room : ℕ) → Alike (reading false p ks c log_room time_room) (open_reading p ks c log_room time_room)
unfolding reading open_reading
reading_alike p ks c log_room time_room = go (legal p ks) (leb (length c) 1048576 && eqb (length c % (3 * group_words p)) 0)
  where
    n : ℕ
    n = length c / (3 * group_words p)

    g : Got
    g = read_groups p ks c (length c / (3 * group_words p)) 0 Nothing 0

    go : (a b : Bool) → Alike (cond a (cond b (settled p c n log_room time_room false g) (refuses 8 (length c) 0)) (refuses 1 0 0))
        (cond a (cond b (settled_open p c n log_room time_room g) (refuses 8 (length c) 0)) (refuses 1 0 0))
    go true true = settled_alike p c n log_room time_room g
    go true false = inl refl
    go false b = inl refl

module _ (p : Plan) (ks : List Kind) (c log times : List ℕ) (log_room time_room reportRoom : ℕ) where
  -- "A capture that plain reading accepts gives the same log and an empty report."
  pub plain_saved : reading false p ks c log_room time_room ≡ gives log times → salvaged p ks c log_room time_room reportRoom ≡ saves log times []
  plain_saved e = (plain_exactly p ks c log times log_room time_room reportRoom).0 (go (reading_alike p ks c log_room time_room))
    where
      go : Alike (reading false p ks c log_room time_room) (open_reading p ks c log_room time_room) → open_reading p ks c log_room time_room ≡ gives log times
      go (inl s) = sym s ∙ e
      go (inr s) = no_gives (sym s.1 ∙ e)

  -- and the other way round, but for an open notice
  pub saved_plain : salvaged p ks c log_room time_room reportRoom ≡ saves log times [] → Alike (reading false p ks c log_room time_room) (gives log times)
  saved_plain e = go (reading_alike p ks c log_room time_room)
    where
      go : Alike (reading false p ks c log_room time_room) (open_reading p ks c log_room time_room) → Alike (reading false p ks c log_room time_room) (gives log times)
      go (inl s) = inl (s ∙ (plain_exactly p ks c log times log_room time_room reportRoom).1 e)
      go (inr s) = inr s
