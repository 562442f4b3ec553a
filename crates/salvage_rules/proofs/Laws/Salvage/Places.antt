-- The account by places (document 02, K10): no two data words have one place, so the words kept are those that the report does not name.
use Rattle.std.specs.Prelude.{ℕ, zero, suc, ◌+◌, ◌-◌, ◌*◌, ◌/◌, ◌%◌, ◌<◌, ◌≤◌, Bool, true, false, cond, ◌||◌, not, ◌≡◌, refl, eqb}
use Rattle.std.proofs.Math.Nat.{mul-add-div_right, mul-add-mod_self_right, div-eq_of_lt}
use Rattle.std.proofs.Common.{mod-eq_of_lt, div-add-mod', mul-le-mul_right, arith, ap, ap₂, sym, ◌∙◌, eq-eqb, ne_eqb}
use mathlib.Core.List.{List, [], ◌∷◌, ◌++◌, flat_map}
use Rattle.format.specs.Lists.{list}
use Rattle.log_rules.specs.Pick.{keep}
use Rattle.format.specs.Word.{word_at, is_fill}
use Rattle.format.specs.Bits.{bit}
use Rattle.format.specs.Item.{item_parts}
use Rattle.format.specs.Plan.{group_words, place_of, legal, lead, slots, rows}
use Rattle.format.specs.Reader.{Slot}
use Rattle.format.specs.Group.{Fault, none, found, group_fault, group_slots}
use Rattle.salvage_rules.specs.Salvage.{Piece, gap, datum, data_pieces, group_pieces, pieces, Entry, lost_group, lost_word, Saved, salvage_groups}
use Rattle.format.specs.Laws.Legal.{Legal, legal_is}
use Rattle.format.specs.Laws.Limits.{long, room}
use Rattle.format.specs.Laws.Composed.Frames.{track_low, row_in, place_low}
use Rattle.format.proofs.Laws.Composed.Slots.{slot_in}
use Rattle.salvage_rules.proofs.Laws.Salvage.Account.{Dealt, done, kept, dropped, lost, say_of, slots_in, every_word}
use Rattle.format.specs.declared.Kind.{Kind}
use Rattle.format.specs.declared.Plan.{Plan}

-- the report names this place
abbrev pub is_reported : List Entry → ℕ → Bool
is_reported [] q = false
is_reported (lost_group n g ∷ es) q = is_reported es q
is_reported (lost_word q' ∷ es) q = eqb q' q || is_reported es q

-- where a stored place stands in dealt order: by group, row and track
unfoldable pub key : Plan → ℕ → ℕ
key p q = q / group_words p * group_words p + (q % group_words p % p.words * p.tracks + q % group_words p / p.words)

key_of : (p : Plan) (ks : List Kind) → Legal p ks → (g s : ℕ) → s < p.tracks * rows p → key p (g * group_words p + place_of p s) ≡ g * group_words p + p.tracks + s
unfolding key place_of
key_of p ks l g s h =
    let G : ℕ = group_words p in
    let a : ℕ = s % p.tracks * p.words + s / p.tracks + 1 in
    let m : s % p.tracks < p.tracks = track_low p (long p l.shape) l.shape.tracks_least s in
    let r : suc (s / p.tracks) < p.words = row_in p (long p l.shape) l.shape.tracks_least s h in
    let b : a < G = place_low p (long p l.shape) l.shape.tracks_least s h in
    let one : 0 < G = omega arith in
    let w : 0 < p.words = omega arith in
    let d1 : (g * G + a) / G ≡ g = mul-add-div_right one g a ∙ rw (div-eq_of_lt b) (omega arith) in
    let m1 : (g * G + a) % G ≡ a = mul-add-mod_self_right g G a ∙ mod-eq_of_lt b in
    let e : a ≡ s % p.tracks * p.words + suc (s / p.tracks) = omega arith in
    let d2 : a / p.words ≡ s % p.tracks = ap (λ (x : ℕ). x / p.words) e ∙ mul-add-div_right w (s % p.tracks) (suc (s / p.tracks)) ∙ rw (div-eq_of_lt r) (omega arith) in
    let m2 : a % p.words ≡ suc (s / p.tracks) = ap (λ (x : ℕ). x % p.words) e ∙ mul-add-mod_self_right (s % p.tracks) p.words (suc (s / p.tracks)) ∙ mod-eq_of_lt r in
    rw (d1, m1, d2, m2) (omega (arith, div-add-mod' s p.tracks))

-- the data words stand in dealt order, from k on
abbrev Rising : Plan → ℕ → List Piece → Type 0
Rising p k [] = Unit {0}
Rising p k (gap n g ∷ ts) = Rising p k ts
Rising p k (datum s ∷ ts) = (k ≤ key p s.0) × Rising p (suc (key p s.0)) ts

rising_from : (p : Plan) (j k : ℕ) (ts : List Piece) → j ≤ k → Rising p k ts → Rising p j ts
rising_from p j k [] h r = tt
rising_from p j k (gap n g ∷ ts) h r = rising_from p j k ts h r
rising_from p j k (datum s ∷ ts) h r = (omega (arith, r.0), r.1)

-- slots whose keys are counted out
rising_list : (p : Plan) (f : ℕ → Slot) (base n a k : ℕ) (us : List Piece) → ((i : ℕ) → i < n → key p (f (a + i)).0 ≡ base + (a + i)) → k ≤ base + a
    → Rising p (base + (a + n)) us → Rising p k (data_pieces (list f a n) ++ us)
unfolding list data_pieces
rising_list p f base zero a k us e h r = rising_from p k (base + (a + zero)) us (omega arith) r
rising_list p f base (suc n) a k us e h r =
    let z : a + 0 ≡ a = omega arith in
    let y : a + suc n ≡ a + 1 + n = omega arith in
    let e0 : key p (f a).0 ≡ base + a = rw z at (e 0 (omega arith)) in
    go (is_fill (f a).1) e0
    (λ k' h'. rising_list p f base n (a + 1) k' us (λ i l. let q : a + suc i ≡ a + 1 + i = omega arith in rw q at (e (suc i) (omega arith))) h' (rw y at r))
  where
    go : (b : Bool) → key p (f a).0 ≡ base + a → ((k' : ℕ) → k' ≤ base + (a + 1) → Rising p k' (data_pieces (list f (a + 1) n) ++ us))
        → Rising p k (cond b (data_pieces (list f (a + 1) n)) (datum (f a) ∷ data_pieces (list f (a + 1) n)) ++ us)
    go true e0 ih = ih k (omega arith)
    go false e0 ih = (omega arith, ih (suc (key p (f a).0)) (omega arith))

rows_short : (p : Plan) → 2 ≤ p.words → rows p + 1 ≤ p.words
unfolding rows
rows_short p h = omega arith

slots_fit : (p : Plan) → 3 ≤ p.tracks * rows p → lead p + slots p ≡ p.tracks * rows p
unfolding slots lead
slots_fit p h = go p.frame_time
  where
    go : (b : Bool) → cond b 3 0 + (p.tracks * rows p - cond b 3 0) ≡ p.tracks * rows p
    go true = omega arith
    go false = omega arith

-- a group's data words stand after those of the groups before it
pub rising_pieces : (p : Plan) (ks : List Kind) → Legal p ks → (c : List ℕ) (n g : ℕ) → Rising p (g * group_words p) (pieces p c n g)
unfolding pieces group_slots
rising_pieces p ks l c zero g = tt
rising_pieces p ks l c (suc n) g = go (group_fault p c (g * group_words p)) (rising_pieces p ks l c n (g + 1))
  where
    slot : ℕ → Slot
    slot s = (g * group_words p + place_of p s, word_at c (g * group_words p + place_of p s))

    base : ℕ
    base = g * group_words p + p.tracks

    ends : base + (lead p + slots p) ≤ (g + 1) * group_words p
    ends =
        let e : lead p + slots p ≡ p.tracks * rows p = slots_fit p (room p l.shape) in
        let m : (rows p + 1) * p.tracks ≤ p.words * p.tracks = mul-le-mul_right p.tracks (rows_short p (long p l.shape)) in
        omega arith

    go : (f : Fault) → Rising p ((g + 1) * group_words p) (pieces p c n (g + 1))
        → Rising p (g * group_words p) (group_pieces f g (list slot (lead p) (slots p)) ++ pieces p c n (g + 1))
    go none r =
        rising_list p slot base (slots p) (lead p) (g * group_words p) (pieces p c n (g + 1))
        (λ i h. key_of p ks l g (lead p + i) (slot_in p i h)) (omega arith)
        (rising_from p (base + (lead p + slots p)) ((g + 1) * group_words p) (pieces p c n (g + 1)) ends r)
    go (found k q) r = rising_from p (g * group_words p) ((g + 1) * group_words p) (pieces p c n (g + 1)) (omega arith) r

-- ---- kept is what is not reported

other_place : (p : Plan) (q r : ℕ) → key p q < key p r → eqb r q ≡ false
other_place p q r h = ne_eqb r q (λ (e : r ≡ q). let z : key p r ≡ key p q = ap (key p) e in absurd (omega arith))

not_named : (p : Plan) {ts : List Piece} {ss : List Slot} {es : List Entry} → Dealt ts ss es → (k : ℕ) → Rising p k ts → (q : ℕ) → key p q < k → is_reported es q ≡ false
not_named p done k r q h = refl
not_named p (kept s d) k r q h = not_named p d (suc (key p s.0)) r.1 q (omega (arith, r.0))
not_named p (dropped s d) k r q h = rw (other_place p q s.0 (omega (arith, r.0))) (not_named p d (suc (key p s.0)) r.1 q (omega (arith, r.0)))
not_named p (lost n g d) k r q h = not_named p d k r q h

keep_agree : (p : Plan) (f g : Slot → Bool) (ts : List Piece) (k : ℕ) → Rising p k ts → ((s : Slot) → k ≤ key p s.0 → f s ≡ g s) → keep f (slots_in ts) ≡ keep g (slots_in ts)
unfolding keep
keep_agree p f g [] k r e = refl
keep_agree p f g (gap n j ∷ ts) k r e = keep_agree p f g ts k r e
keep_agree p f g (datum s ∷ ts) k r e = rw (e s r.0, keep_agree p f g ts (suc (key p s.0)) r.1 (λ t h. e t (omega (arith, r.0))))

abbrev pub unnamed : List Entry → Slot → Bool
unnamed es s = not (is_reported es s.0)

pub kept_unnamed : (p : Plan) {ts : List Piece} {ss : List Slot} {es : List Entry} → Dealt ts ss es → (k : ℕ) → Rising p k ts → keep (unnamed es) (slots_in ts) ≡ ss
unfolding keep
kept_unnamed p done k r = refl
kept_unnamed p (kept s d) k r =
    rw (not_named p d (suc (key p s.0)) r.1 s.0 (omega arith)) (ap (λ (l : List Slot). s ∷ l) (kept_unnamed p d (suc (key p s.0)) r.1))
kept_unnamed p (dropped {ts} {ss} {es} s d) k r =
    rw (eq-eqb s.0 s.0 refl)
    (keep_agree p (unnamed (lost_word s.0 ∷ es)) (unnamed es) ts (suc (key p s.0)) r.1 (λ t h. rw (ne_eqb s.0 t.0 (λ (e : s.0 ≡ t.0). let z : key p s.0 ≡ key p t.0 = ap (key p) e in absurd (omega arith))) refl)
    ∙ kept_unnamed p d (suc (key p s.0)) r.1)
kept_unnamed p (lost n g d) k r = kept_unnamed p d k r

-- "the data words of the kept groups without the reported ones are exactly the words of the salvaged log's items, in order"
pub words_unnamed : (p : Plan) (ks : List Kind) (c : List ℕ) (n : ℕ) → legal p ks ≡ true
    → say_of p.parity (keep (unnamed (salvage_groups p ks c n).report) (slots_in (pieces p c n 0))) ≡ flat_map item_parts (salvage_groups p ks c n).its
words_unnamed p ks c n e =
    let a = every_word p ks c n in
    let z : 0 * group_words p ≡ 0 = omega arith in
    ap (say_of p.parity) (kept_unnamed p a.dealt 0 (rw z at (rising_pieces p ks (legal_is p ks e) c n 0))) ∙ a.says
