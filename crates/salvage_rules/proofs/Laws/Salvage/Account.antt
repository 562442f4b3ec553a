-- What becomes of every data word in a salvage (document 02, K10).
use Rattle.std.specs.Prelude.{ℕ, zero, suc, ◌+◌, ◌-◌, ◌*◌, ◌/◌, ◌%◌, ◌^◌, ◌<◌, ◌≤◌, Bool, true, false, cond, ◌&&◌, ◌≡◌, refl, length, drop, take, leb, eqb}
use Rattle.std.proofs.Common.{arith, ap, ap₂, sym, ◌∙◌, length-append, drop_at, take_at}
use mathlib.Core.List.{List, [], ◌∷◌, ◌++◌, map, flat_map, append_assoc, append-nil}
use Rattle.std.proofs.lemmas.List.{length-map}
use Rattle.format.specs.Lists.{All, nil, cons, Bytes, list}
use Rattle.format.specs.Word.{Part, part, part_of, bus_of, label_of, info_of, is_fill}
use Rattle.format.specs.Item.{item_parts}
use Rattle.format.specs.Lawful.{Lawful}
use Rattle.format.specs.Plan.{group_words, legal}
use Rattle.format.specs.Log.{log_of}
use Rattle.format.specs.Reader.{Slot, Fed, bad, fed, feed, with_tag, data_of}
use Rattle.format.specs.Group.{Fault, none, found, group_fault, group_time, group_slots}
use Rattle.salvage_rules.specs.Salvage.{Piece, gap, datum, data_pieces, group_pieces, pieces, kept_time, kept_times, Entry, lost_group, lost_word, Saved, first, base_words, held_words, last_of, finished, unfinished, tried, salvage_word, salvage, Salvage, saves, forgoes, saved_in, salvage_groups, salvaged}
use Rattle.format.specs.Laws.Lists.{flat_map_append, all_append, map_append, take_drop}
use Rattle.format.specs.Laws.Reader.Parts.{said}
use Rattle.format.proofs.Laws.Reader.Reads.{Whole, cut, whole, ahead, chain, closed, reads}
use Rattle.format.proofs.Laws.Reader.Forth.{BaseOk, HeldOk, Fits, Good, feed_good, tagged_lawful, untagged_parts}
use Rattle.format.specs.Laws.Reader.Held.{base_parts, held_parts}
use Rattle.format.specs.declared.Kind.{Kind}
use Rattle.format.specs.declared.Plan.{Plan}
use Rattle.format.specs.declared.Tag.TheVariants.{Untagged}
use Rattle.format.specs.declared.Item.{Item}
use Rattle.format.specs.declared.Base.{Base}
use Rattle.format.specs.declared.Base.TheVariants as base
use Rattle.format.specs.declared.Held.{Held}
use Rattle.format.specs.declared.Held.TheVariants.{Nothing, Taggable, Half, TagHigh, TagLow, Answering}

-- ---- the account

-- "Every data word is in one item, one report entry or a reported group": the tape is dealt out, piece by piece and in order, to the
-- data words kept and to the report
pub data Dealt : List Piece → List Slot → List Entry → Type 0 where
  done : Dealt [] [] []
  kept : {ts : List Piece} {ss : List Slot} {es : List Entry} (s : Slot) → Dealt ts ss es → Dealt (datum s ∷ ts) (s ∷ ss) es
  dropped : {ts : List Piece} {ss : List Slot} {es : List Entry} (s : Slot) → Dealt ts ss es → Dealt (datum s ∷ ts) ss (lost_word s.0 ∷ es)
  lost : {ts : List Piece} {ss : List Slot} {es : List Entry} (n g : ℕ) → Dealt ts ss es → Dealt (gap n g ∷ ts) ss (lost_group n g ∷ es)

dealt_append : {ts us : List Piece} {ss vs : List Slot} {es fs : List Entry} → Dealt ts ss es → Dealt us vs fs → Dealt (ts ++ us) (ss ++ vs) (es ++ fs)
dealt_append done e = e
dealt_append (kept s d) e = kept s (dealt_append d e)
dealt_append (dropped s d) e = dropped s (dealt_append d e)
dealt_append (lost n g d) e = lost n g (dealt_append d e)

abbrev places : List Slot → List ℕ
places ss = map (λ (s : Slot). s.0) ss

all_kept : (ss : List Slot) → Dealt (map datum ss) ss []
all_kept [] = done
all_kept (s ∷ ss) = kept s (all_kept ss)

all_dropped : (ss : List Slot) → Dealt (map datum ss) [] (map lost_word (places ss))
all_dropped [] = done
all_dropped (s ∷ ss) = dropped s (all_dropped ss)

-- the data words on the tape: those of the kept groups
abbrev pub slots_in : List Piece → List Slot
slots_in [] = []
slots_in (gap n g ∷ ts) = slots_in ts
slots_in (datum s ∷ ts) = s ∷ slots_in ts

-- what the data words kept say
abbrev pub say_of : Bool → List Slot → List Part
say_of parity ss = map (λ (s : Slot). part_of parity s.1) ss

-- "the words of the salvaged log's items, in order" are the data words kept
pub record Account (ks : List Kind) (parity : Bool) (ts : List Piece) (r : Saved) : Type 0 where
  pub words : List Slot
  pub dealt : Dealt ts words r.report
  pub says : say_of parity words ≡ flat_map item_parts r.its
  pub lawful : All (Lawful ks) r.its

-- ---- what is held

held_count : (h : Held) → length (held_parts h) ≡ held_words h
held_count Nothing = refl
held_count (Taggable (base.Command bus b word)) = refl
held_count (Taggable (base.Arinc bus c word)) = refl
held_count (Half bus c high) = refl
held_count (TagHigh (base.Command bus b word) high) = refl
held_count (TagHigh (base.Arinc bus c word) high) = refl
held_count (TagLow (base.Command bus b word) high low) = refl
held_count (TagLow (base.Arinc bus c word) high low) = refl
held_count (Answering bus r) = refl

fits_any : (parity : Bool) (w : ℕ) → Fits (part_of parity w)
unfolding label_of info_of
fits_any parity w = record { label = omega arith; info = omega arith }

-- slots whose words say one thing and then another
record Cut (parity : Bool) (ss : List Slot) (P Q : List Part) : Type 0 where
  pub front : List Slot
  pub back : List Slot
  pub is : ss ≡ front ++ back
  pub front_says : say_of parity front ≡ P
  pub back_says : say_of parity back ≡ Q

cut_at : (parity : Bool) (ss : List Slot) (P Q : List Part) → say_of parity ss ≡ P ++ Q → Cut parity ss P Q
cut_at parity ss P Q e =
    let n : ℕ = length P in
    record {
      front = take n ss;
      back = drop n ss;
      is = sym (take_drop n ss);
      front_says = sym (take_map n ss) ∙ ap (take n) e ∙ take_at P Q n refl;
      back_says = sym (drop_map n ss) ∙ ap (drop n) e ∙ drop_at P Q n refl;
    }
  where
    take_map : (n : ℕ) (l : List Slot) → take n (say_of parity l) ≡ say_of parity (take n l)
    take_map zero l = refl
    take_map (suc n) [] = refl
    take_map (suc n) (s ∷ l) = ap (λ (m : List Part). part_of parity s.1 ∷ m) (take_map n l)

    drop_map : (n : ℕ) (l : List Slot) → drop n (say_of parity l) ≡ say_of parity (drop n l)
    drop_map zero l = refl
    drop_map (suc n) [] = refl
    drop_map (suc n) (s ∷ l) = drop_map n l

-- the places of what is held are those of the last words
last_places : (parity : Bool) (front back : List Slot) (h : Held) → say_of parity back ≡ held_parts h → last_of (held_words h) (places (front ++ back)) ≡ places back
last_places parity front back h e =
    let n : length back ≡ held_words h = sym (length-map back (λ (s : Slot). part_of parity s.1)) ∙ ap length e ∙ held_count h in
    let f : places (front ++ back) ≡ places front ++ places back = map_append (λ (s : Slot). s.0) front back in
    let l : length (places front ++ places back) ≡ length (places front) + length back =
    length-append (places front) (places back) ∙ ap (λ (m : ℕ). length (places front) + m) (length-map back (λ (s : Slot). s.0)) in
    let d : length (places front) ≡ length (places front ++ places back) - held_words h = omega arith in
    ap (last_of (held_words h)) f ∙ drop_at (places front) (places back) (length (places front ++ places back) - held_words h) d

-- ---- one after the other

abbrev pub saved : List Item → List Entry → Saved
saved is es = record { its = is; report = es }

account_append : (ks : List Kind) (parity : Bool) (ts us : List Piece) (r q : Saved) → Account ks parity ts r → Account ks parity us q
    → Account ks parity (ts ++ us) (first r.its r.report q)
account_append ks parity ts us r q a b = record {
  words = a.words ++ b.words;
  dealt = dealt_append a.dealt b.dealt;
  says = map_append (λ (s : Slot). part_of parity s.1) a.words b.words ∙ ap₂ (λ (x y : List Part). x ++ y) a.says b.says ∙ sym (flat_map_append item_parts r.its q.its);
  lawful = all_append a.lawful b.lawful;
}

account_kept : (ks : List Kind) (parity : Bool) (ss : List Slot) (is : List Item) → say_of parity ss ≡ flat_map item_parts is → All (Lawful ks) is
    → Account ks parity (map datum ss) (saved is [])
account_kept ks parity ss is e w = record { words = ss; dealt = all_kept ss; says = e; lawful = w }

account_dropped : (ks : List Kind) (parity : Bool) (ss : List Slot) → Account ks parity (map datum ss) (saved [] (map lost_word (places ss)))
unfolding flat_map
account_dropped ks parity ss = record { words = []; dealt = all_dropped ss; says = refl; lawful = nil }

-- what is held where no word continues it
account_held : (ks : List Kind) (parity : Bool) (h : Held) (hs : List Slot) → HeldOk ks h → say_of parity hs ≡ held_parts h
    → Account ks parity (map datum hs) (saved (finished h) (map lost_word (unfinished h (places hs))))
unfolding flat_map
account_held ks parity Nothing hs o e = account_kept ks parity hs [] e nil
account_held ks parity (Taggable x) hs o e =
    account_kept ks parity hs (with_tag x Untagged ∷ []) (e ∙ sym (untagged_parts x) ∙ sym (append-nil (item_parts (with_tag x Untagged)))) (cons (tagged_lawful ks x Untagged o tt) nil)
account_held ks parity (Half bus c high) hs o e = account_dropped ks parity hs
account_held ks parity (TagHigh x high) hs o e = account_dropped ks parity hs
account_held ks parity (TagLow x high low) hs o e = account_dropped ks parity hs
account_held ks parity (Answering bus r) hs o e = account_dropped ks parity hs

-- what follows is accounted for, whatever is held
abbrev Follows : List Kind → Bool → List Piece → (Held → List ℕ → Saved) → Type 0
Follows ks parity ts go = (h : Held) (hs : List Slot) → HeldOk ks h → say_of parity hs ≡ held_parts h → Account ks parity (map datum hs ++ ts) (go h (places hs))

-- a word that is taken
account_fed : (ks : List Kind) (parity : Bool) (ts : List Piece) (go : Held → List ℕ → Saved) → Follows ks parity ts go
    → (ss : List Slot) (is : List Item) (h : Held) → say_of parity ss ≡ flat_map item_parts is ++ held_parts h → All (Lawful ks) is → HeldOk ks h
    → Account ks parity (map datum ss ++ ts) (first is [] (go h (last_of (held_words h) (places ss))))
account_fed ks parity ts go f ss is h e w o =
    let c = cut_at parity ss (flat_map item_parts is) (held_parts h) e in
    let t : map datum c.front ++ (map datum c.back ++ ts) ≡ map datum ss ++ ts =
    sym (append_assoc (map datum c.front) (map datum c.back) ts)
    ∙ ap (λ (l : List Piece). l ++ ts) (sym (map_append datum c.front c.back) ∙ ap (map datum) (sym c.is)) in
    let l : last_of (held_words h) (places ss) ≡ places c.back = ap (λ (x : List Slot). last_of (held_words h) (places x)) c.is ∙ last_places parity c.front c.back h c.back_says in
    let a = account_append ks parity (map datum c.front) (map datum c.back ++ ts) (saved is []) (go h (places c.back))
    (account_kept ks parity c.front is c.front_says w) (f h c.back o c.back_says) in
    rw l (rw t at a)

-- a word that is tried as a start
account_tried : (ks : List Kind) (parity : Bool) (ts : List Piece) (go : Held → List ℕ → Saved) → Follows ks parity ts go
    → (s : Slot) (f : Fed) → Good ks (part_of parity s.1 ∷ []) f → Account ks parity (datum s ∷ ts) (tried f s.0 go)
account_tried ks parity ts go f s bad g =
    account_append ks parity (datum s ∷ []) ts (saved [] (lost_word s.0 ∷ [])) (go Nothing []) (account_dropped ks parity (s ∷ [])) (f Nothing [] tt refl)
account_tried ks parity ts go f s (fed is h) g = account_fed ks parity ts go f (s ∷ []) is h g.0 g.1 g.2

account_word : (ks : List Kind) (parity : Bool) (ts : List Piece) (go : Held → List ℕ → Saved) → Follows ks parity ts go
    → (s : Slot) (h : Held) (hs : List Slot) → HeldOk ks h → say_of parity hs ≡ held_parts h
    → (f start : Fed) → Good ks (held_parts h ++ part_of parity s.1 ∷ []) f → Good ks (part_of parity s.1 ∷ []) start
    → Account ks parity (map datum hs ++ datum s ∷ ts) (salvage_word f start h (places hs) s.0 go)
account_word ks parity ts go f s h hs o e (fed is h') start g b =
    let z : say_of parity (hs ++ s ∷ []) ≡ flat_map item_parts is ++ held_parts h' =
    map_append (λ (s : Slot). part_of parity s.1) hs (s ∷ []) ∙ ap (λ (l : List Part). l ++ part_of parity s.1 ∷ []) e ∙ g.0 in
    let t : map datum (hs ++ s ∷ []) ++ ts ≡ map datum hs ++ datum s ∷ ts =
    ap (λ (l : List Piece). l ++ ts) (map_append datum hs (s ∷ [])) ∙ append_assoc (map datum hs) (datum s ∷ []) ts in
    let q : places (hs ++ s ∷ []) ≡ places hs ++ s.0 ∷ [] = map_append (λ (s : Slot). s.0) hs (s ∷ []) in
    rw (t, q) at (account_fed ks parity ts go f (hs ++ s ∷ []) is h' z g.1 g.2)
account_word ks parity ts go f s h hs o e bad start g b =
    account_append ks parity (map datum hs) (datum s ∷ ts) (saved (finished h) (map lost_word (unfinished h (places hs)))) (tried start s.0 go)
    (account_held ks parity h hs o e) (account_tried ks parity ts go f s start b)

-- the whole tape
pub account : (ks : List Kind) (parity : Bool) (ts : List Piece) (h : Held) (hs : List Slot) → HeldOk ks h → say_of parity hs ≡ held_parts h
    → Account ks parity (map datum hs ++ ts) (salvage ks parity ts h (places hs))
unfolding salvage
account ks parity [] h hs o e = rw (append-nil (map datum hs)) (account_held ks parity h hs o e)
account ks parity (gap n g ∷ ts) h hs o e =
    let a = account ks parity ts Nothing [] tt refl in
    let d : Account ks parity (gap n g ∷ ts) (first [] (lost_group n g ∷ []) (salvage ks parity ts Nothing [])) =
    record { words = a.words; dealt = lost n g a.dealt; says = a.says; lawful = a.lawful } in
    let r : Saved = salvage ks parity ts Nothing [] in
    let z : map lost_word (places hs) ++ (lost_group n g ∷ r.report) ≡ (map lost_word (places hs) ++ lost_group n g ∷ []) ++ r.report =
    sym (append_assoc (map lost_word (places hs)) (lost_group n g ∷ []) r.report) in
    rw z at (account_append ks parity (map datum hs) (gap n g ∷ ts) (saved [] (map lost_word (places hs))) (first [] (lost_group n g ∷ []) r) (account_dropped ks parity hs) d)
account ks parity (datum s ∷ ts) h hs o e =
    let x : Part = part_of parity s.1 in
    account_word ks parity ts (λ h' ps'. salvage ks parity ts h' ps') (λ h' hs' o' e'. account ks parity ts h' hs' o' e') s h hs o e
    (feed ks h x.bus x.label x.info) (feed ks Nothing x.bus x.label x.info)
    (feed_good ks h x o (fits_any parity s.1)) (feed_good ks Nothing x tt (fits_any parity s.1))

-- "the data words of the kept groups without the reported ones are exactly the words of the salvaged log's items, in order"
pub every_word : (p : Plan) (ks : List Kind) (c : List ℕ) (n : ℕ) → Account ks p.parity (pieces p c n 0) (salvage_groups p ks c n)
every_word p ks c n = account ks p.parity (pieces p c n 0) Nothing [] tt refl

-- ---- nothing is joined across a dropped group

pub first_twice : (is js : List Item) (es fs : List Entry) (r : Saved) → first is es (first js fs r) ≡ first (is ++ js) (es ++ fs) r
first_twice is js es fs r = λ k. record { its = sym (append_assoc is js r.its) k; report = sym (append_assoc es fs r.report) k }

-- two tapes, one before a dropped group
abbrev Before : Saved → Saved → Saved → Type 0
Before w a b = w ≡ first a.its a.report b

before_first : (is : List Item) (es : List Entry) (w a b : Saved) → Before w a b → Before (first is es w) (first is es a) b
before_first is es w a b e = ap (first is es) e ∙ first_twice is a.its es a.report b

before_tried : (f : Fed) (here : ℕ) (go go' : Held → List ℕ → Saved) (b : Saved) → ((h : Held) (ps : List ℕ) → Before (go h ps) (go' h ps) b) → Before (tried f here go) (tried f here go') b
before_tried bad here go go' b e = before_first [] (lost_word here ∷ []) (go Nothing []) (go' Nothing []) b (e Nothing [])
before_tried (fed is h) here go go' b e =
    let ps : List ℕ = last_of (held_words h) (here ∷ []) in
    before_first is [] (go h ps) (go' h ps) b (e h ps)

before_word : (f start : Fed) (h : Held) (ps : List ℕ) (here : ℕ) (go go' : Held → List ℕ → Saved) (b : Saved) → ((h : Held) (ps : List ℕ) → Before (go h ps) (go' h ps) b)
    → Before (salvage_word f start h ps here go) (salvage_word f start h ps here go') b
before_word (fed is h') start h ps here go go' b e =
    let qs : List ℕ = last_of (held_words h') (ps ++ here ∷ []) in
    before_first is [] (go h' qs) (go' h' qs) b (e h' qs)
before_word bad start h ps here go go' b e =
    before_first (finished h) (map lost_word (unfinished h ps)) (tried start here go) (tried start here go') b (before_tried start here go go' b e)

-- what stands before a dropped group is salvaged by itself, and so is what stands behind it
pub at_gap : (ks : List Kind) (parity : Bool) (ts us : List Piece) (n g : ℕ) (h : Held) (ps : List ℕ)
    → Before (salvage ks parity (ts ++ gap n g ∷ us) h ps) (salvage ks parity (ts ++ gap n g ∷ []) h ps) (salvage ks parity us Nothing [])
unfolding salvage
at_gap ks parity [] us n g h ps =
    λ k. record { its = (salvage ks parity us Nothing []).its; report = sym (ap (λ (l : List Entry). l ++ (salvage ks parity us Nothing []).report) (append-nil (map lost_word ps ++ lost_group n g ∷ []))) k }
at_gap ks parity (gap m j ∷ ts) us n g h ps =
    before_first [] (map lost_word ps ++ lost_group m j ∷ []) (salvage ks parity (ts ++ gap n g ∷ us) Nothing []) (salvage ks parity (ts ++ gap n g ∷ []) Nothing [])
    (salvage ks parity us Nothing []) (at_gap ks parity ts us n g Nothing [])
at_gap ks parity (datum s ∷ ts) us n g h ps =
    before_word (feed ks h (bus_of parity s.1) (label_of s.1) (info_of s.1)) (feed ks Nothing (bus_of parity s.1) (label_of s.1) (info_of s.1)) h ps s.0
    (λ h' ps'. salvage ks parity (ts ++ gap n g ∷ us) h' ps') (λ h' ps'. salvage ks parity (ts ++ gap n g ∷ []) h' ps') (salvage ks parity us Nothing [])
    (λ h' ps'. at_gap ks parity ts us n g h' ps')

-- no item has words on both sides of a dropped group: the items are those of the words before it, and then those of the words behind it
pub record OnOneSide (ks : List Kind) (parity : Bool) (ts : List Piece) (n g : ℕ) (us : List Piece) (r : Saved) : Type 0 where
  pub before : Saved
  pub behind : Saved
  pub items_split : r.its ≡ before.its ++ behind.its
  pub report_split : r.report ≡ before.report ++ behind.report
  pub before_words : Account ks parity (ts ++ gap n g ∷ []) before
  pub behind_words : Account ks parity us behind

pub one_side : (ks : List Kind) (parity : Bool) (ts us : List Piece) (n g : ℕ) → OnOneSide ks parity ts n g us (salvage ks parity (ts ++ gap n g ∷ us) Nothing [])
one_side ks parity ts us n g =
    let e = at_gap ks parity ts us n g Nothing [] in
    record {
      before = salvage ks parity (ts ++ gap n g ∷ []) Nothing [];
      behind = salvage ks parity us Nothing [];
      items_split = ap (λ (r : Saved). r.its) e;
      report_split = ap (λ (r : Saved). r.report) e;
      before_words = account ks parity (ts ++ gap n g ∷ []) Nothing [] tt refl;
      behind_words = account ks parity us Nothing [] tt refl;
    }

-- ---- "A capture that plain reading accepts gives the same log and an empty report."

whole_split : (js is : List Item) (w : Whole) → ahead js w ≡ whole is → (ls : List Item) × (w ≡ whole ls) × (is ≡ js ++ ls)
whole_split js is cut e = let z : ◌≡◌ {A = ℕ} 0 1 = cc in absurd (omega arith)
whole_split js is (whole ls) e = (ls, refl, cc)

closed_saved : (h : Held) (ps : List ℕ) (is : List Item) → closed h ≡ whole is → saved (finished h) (map lost_word (unfinished h ps)) ≡ saved is []
closed_saved Nothing ps is e = let z : [] ≡ is = cc in ap (λ (l : List Item). saved l []) z
closed_saved (Taggable x) ps is e = let z : with_tag x Untagged ∷ [] ≡ is = cc in ap (λ (l : List Item). saved l []) z
closed_saved (Half bus c high) ps is e = let z : ◌≡◌ {A = ℕ} 0 1 = cc in absurd (omega arith)
closed_saved (TagHigh x high) ps is e = let z : ◌≡◌ {A = ℕ} 0 1 = cc in absurd (omega arith)
closed_saved (TagLow x high low) ps is e = let z : ◌≡◌ {A = ℕ} 0 1 = cc in absurd (omega arith)
closed_saved (Answering bus r) ps is e = let z : ◌≡◌ {A = ℕ} 0 1 = cc in absurd (omega arith)

word_saved : (f start : Fed) (h : Held) (ps : List ℕ) (here : ℕ) (go : Held → List ℕ → Saved) (read : Held → Whole) (is : List Item)
    → ((h : Held) (ps : List ℕ) (ls : List Item) → read h ≡ whole ls → go h ps ≡ saved ls []) → chain f read ≡ whole is
    → salvage_word f start h ps here go ≡ saved is []
word_saved bad start h ps here go read is ih e = let z : ◌≡◌ {A = ℕ} 0 1 = cc in absurd (omega arith)
word_saved (fed js h') start h ps here go read is ih e =
    let w = whole_split js is (read h') e in
    let qs : List ℕ = last_of (held_words h') (ps ++ here ∷ []) in
    ap (first js []) (ih h' qs w.0 w.1) ∙ ap (λ (l : List Item). saved l []) (sym w.2)

-- what is read is salvaged
pub read_saved : (ks : List Kind) (parity : Bool) (ss : List Slot) (h : Held) (ps : List ℕ) (is : List Item) → reads ks h (said parity ss) ≡ whole is
    → salvage ks parity (data_pieces ss) h ps ≡ saved is []
unfolding salvage data_pieces data_of reads
read_saved ks parity [] h ps is e = closed_saved h ps is e
read_saved ks parity (s ∷ ss) h ps is e = go (is_fill s.1) (read_saved ks parity ss) e
  where
    go : (b : Bool) → ((h : Held) (ps : List ℕ) (is : List Item) → reads ks h (said parity ss) ≡ whole is → salvage ks parity (data_pieces ss) h ps ≡ saved is [])
        → reads ks h (map (part_of parity) (cond b (data_of ss) (s.1 ∷ data_of ss))) ≡ whole is
        → salvage ks parity (cond b (data_pieces ss) (datum s ∷ data_pieces ss)) h ps ≡ saved is []
    go true ih z = ih h ps is z
    go false ih z =
        word_saved (feed ks h (bus_of parity s.1) (label_of s.1) (info_of s.1)) (feed ks Nothing (bus_of parity s.1) (label_of s.1) (info_of s.1)) h ps s.0
        (λ h' ps'. salvage ks parity (data_pieces ss) h' ps') (λ h'. reads ks h' (said parity ss)) is ih z
