-- The words of items tell what the items tell, wherever they stand and however much fill stands between them.
use Rattle.std.specs.Prelude.{ℕ, zero, suc, ◌+◌, ◌*◌, ◌/◌, ◌%◌, ◌^◌, ◌-◌, ◌<◌, ◌≤◌, Bool, true, false, cond, ◌≡◌, refl, length, take, drop, get_or, eqb}
use Rattle.std.proofs.Common.{arith, ap, sym, ◌∙◌, length-append, eqb-true}
use mathlib.Core.List.{List, [], ◌∷◌, ◌++◌, map, flat_map}
use Rattle.std.proofs.lemmas.List.{length-map}
use Rattle.format.specs.Plan.{kind_on}
use Rattle.format.specs.Word.{Part, part, part_of, is_fill, label_of}
use Rattle.format.specs.Item.{item_parts, item_words, high_label, low_label, stands_on, bus_of_item}
use Rattle.format.specs.Lists.{All, nil, cons}
use Rattle.format.specs.Lawful.{Lawful, Sized}
use Rattle.format.specs.Reader.{Slot, data_of, places_of}
use Rattle.format.specs.Notices.{first_open, first_word_of}
use Rattle.format.specs.Laws.Lists.{all_map}
use Rattle.format.specs.Laws.Tests.{clash, and_true}
use Rattle.format.specs.Laws.Reader.Parts.{said}
use Rattle.format.specs.declared.Kind.{Kind}
use Rattle.format.specs.declared.Kind.TheVariants.{Unused, Mil1553, Arinc429}
use Rattle.format.specs.declared.Tag.TheVariants.{Untagged, At}
use Rattle.format.specs.declared.Response.TheVariants.{Untimed, After}
use Rattle.format.specs.declared.Item.{Item}
use Rattle.format.specs.declared.Item.TheVariants.{Command, Status, Data, BusError, Arinc, Notice, User, Overflow}
use Rattle.notices.specs.Roles.{Role, neither, notice, word, Row, lacked, open_row, role_on, role_in, roles_in}
use Rattle.notices.specs.Laws.Items.{role_of, row_by, up_to, open_items}

-- places and what stands there
unfoldable pub paired : List Kind → List ℕ → List Part → Row
paired ks [] xs = []
paired ks (p ∷ ps) [] = []
paired ks (p ∷ ps) (x ∷ xs) = (p, role_in ks x) ∷ paired ks ps xs

places_count : (ss : List Slot) → length (places_of ss) ≡ length (data_of ss)
unfolding places_of data_of
places_count [] = refl
places_count (s ∷ ss) = go (is_fill s.1) (places_count ss)
  where
    go : (t : Bool) → length (places_of ss) ≡ length (data_of ss) → length (cond t (places_of ss) (s.0 ∷ places_of ss)) ≡ length (cond t (data_of ss) (s.1 ∷ data_of ss))
    go true e = e
    go false e = ap suc e

-- two rows that tell the same
pub record Same (r s : Row) : Type 0 where
  pub open' : open_row r ≡ open_row s
  pub lack : (k : ℕ) → lacked r k ≡ lacked s k

same_none : Same [] []
same_none = record { open' = refl; lack = λ k. refl }

same_next : (p : ℕ) (x : Role) (r s : Row) → Same r s → Same ((p, x) ∷ r) ((p, x) ∷ s)
unfolding open_row lacked
same_next p neither r s e = record { open' = e.open'; lack = λ k. e.lack k }
same_next p (notice j) r s e = record { open' = rw (e.lack j, e.open'); lack = λ k. rw (e.lack k) }
same_next p (word j) r s e = record { open' = e.open'; lack = λ k. rw (e.lack k) }

same_more : (p : ℕ) (r s : Row) → Same r s → Same ((p, neither) ∷ r) s
unfolding open_row lacked
same_more p r s e = record { open' = e.open'; lack = λ k. e.lack k }

-- fill says nothing
fill_quiet : (k : Kind) (parity : Bool) (w : ℕ) → is_fill w ≡ true → role_on k (part_of parity w) ≡ neither
unfolding is_fill
fill_quiet Unused parity w f = refl
fill_quiet Mil1553 parity w f = refl
fill_quiet Arinc429 parity w f = let l : label_of w ≡ 1 = eqb-true (label_of w) 1 (and_true _ _ f).0 in rw l

-- of slots the data words tell
roles_same : (ks : List Kind) (parity : Bool) (ss : List Slot) → Same (roles_in ks parity ss) (paired ks (places_of ss) (said parity ss))
unfolding roles_in paired places_of data_of
roles_same ks parity [] = same_none
roles_same ks parity (s ∷ ss) = go (is_fill s.1) refl (roles_same ks parity ss)
  where
    x : Role
    x = role_in ks (part_of parity s.1)

    go : (t : Bool) → is_fill s.1 ≡ t → Same (roles_in ks parity ss) (paired ks (places_of ss) (said parity ss))
        → Same ((s.0, x) ∷ roles_in ks parity ss) (paired ks (cond t (places_of ss) (s.0 ∷ places_of ss)) (map (part_of parity) (cond t (data_of ss) (s.1 ∷ data_of ss))))
    go true f e = rw (fill_quiet (kind_on ks (part_of parity s.1).bus) parity s.1 f) (same_more s.0 _ _ e)
    go false f e = same_next s.0 x _ _ e

-- of an item the first word tells, the others say nothing
pub record Tells (ks : List Kind) (i : Item) : Type 0 where
  pub first : Part
  pub others : List Part
  pub is : item_parts i ≡ first ∷ others
  pub told : role_in ks first ≡ role_of i
  pub quiet : All (λ x. role_in ks x ≡ neither) others

mil : (k : Kind) (x : Part) → k ≡ Mil1553 → role_on k x ≡ neither
mil k x e = rw e

pub high_role : (k : Kind) (bus c w : ℕ) → k ≡ Arinc429 → c < 4 → role_on k (part bus (high_label c) w) ≡ word (bus * 4 + c)
high_role k bus zero w e h = rw e
high_role k bus (suc zero) w e h = rw e
high_role k bus (suc (suc zero)) w e h = rw e
high_role k bus (suc (suc (suc zero))) w e h = rw e
high_role k bus (suc (suc (suc (suc c)))) w e h = absurd (omega arith)

low_role : (k : Kind) (bus c w : ℕ) → k ≡ Arinc429 → c < 4 → role_on k (part bus (low_label c) w) ≡ neither
low_role k bus zero w e h = rw e
low_role k bus (suc zero) w e h = rw e
low_role k bus (suc (suc zero)) w e h = rw e
low_role k bus (suc (suc (suc zero))) w e h = rw e
low_role k bus (suc (suc (suc (suc c)))) w e h = absurd (omega arith)

time_role : (k : Kind) (bus w : ℕ) → (role_on k (part bus 7 w) ≡ neither) × (role_on k (part bus 6 w) ≡ neither) × (role_on k (part bus 5 w) ≡ neither)
time_role Unused bus w = (refl, refl, refl)
time_role Mil1553 bus w = (refl, refl, refl)
time_role Arinc429 bus w = (refl, refl, refl)

either_role : (k : Kind) (bus w : ℕ) → (role_on k (part bus 3 w) ≡ neither) × (role_on k (part bus 2 w) ≡ neither) × (role_on k (part bus 0 w) ≡ neither)
either_role Unused bus w = (refl, refl, refl)
either_role Mil1553 bus w = (refl, refl, refl)
either_role Arinc429 bus w = (refl, refl, refl)

notice_role : (k : Kind) (bus c diag : ℕ) → k ≡ Arinc429 → c < 4 → diag < 2 ^ 8 → role_on k (part bus 4 (high_label c * 2 ^ 12 + low_label c * 2 ^ 8 + diag)) ≡ notice (bus * 4 + c)
notice_role k bus c diag e h l =
    let d : (high_label c * 2 ^ 12 + low_label c * 2 ^ 8 + diag) / 2 ^ 13 % 4 ≡ c = channel c h in
    rw (e, d)
  where
    channel : (c : ℕ) → c < 4 → (high_label c * 2 ^ 12 + low_label c * 2 ^ 8 + diag) / 2 ^ 13 % 4 ≡ c
    channel zero h = omega arith
    channel (suc zero) h = omega arith
    channel (suc (suc zero)) h = omega arith
    channel (suc (suc (suc zero))) h = omega arith
    channel (suc (suc (suc (suc c)))) h = absurd (omega arith)

pub stands_mil : (i : Item) (k : Kind) → stands_on i k ≡ true → stands_on i Arinc429 ≡ false → k ≡ Mil1553
unfolding stands_on
stands_mil i Unused e f = clash e
stands_mil i Mil1553 e f = refl
stands_mil i Arinc429 e f = clash (sym f ∙ e)

pub stands_arinc : (i : Item) (k : Kind) → stands_on i k ≡ true → stands_on i Mil1553 ≡ false → k ≡ Arinc429
unfolding stands_on
stands_arinc i Unused e f = clash e
stands_arinc i Mil1553 e f = clash (sym f ∙ e)
stands_arinc i Arinc429 e f = refl

item_tells : (ks : List Kind) (i : Item) → Lawful ks i → Tells ks i
unfolding stands_on bus_of_item
item_tells ks (Command bus b Untagged w) l = record { first = _; others = _; is = refl; told = mil (kind_on ks bus) _ (stands_mil (Command bus b Untagged w) _ l.stands refl); quiet = nil }
item_tells ks (Command bus b (At t) w) l = record {
  first = _;
  others = _;
  is = refl;
  told = mil (kind_on ks bus) _ (stands_mil (Command bus b (At t) w) _ l.stands refl);
  quiet = cons (time_role (kind_on ks bus) bus t.high).0 (cons (time_role (kind_on ks bus) bus t.low).1 (cons (time_role (kind_on ks bus) bus t.micro).2 nil));
}
item_tells ks (Status bus b Untimed w) l = record { first = _; others = _; is = refl; told = mil (kind_on ks bus) _ (stands_mil (Status bus b Untimed w) _ l.stands refl); quiet = nil }
item_tells ks (Status bus b (After r) w) l = record {
  first = _;
  others = _;
  is = refl;
  told = mil (kind_on ks bus) _ (stands_mil (Status bus b (After r) w) _ l.stands refl);
  quiet = cons (mil (kind_on ks bus) _ (stands_mil (Status bus b (After r) w) _ l.stands refl)) nil;
}
item_tells ks (Data bus b w) l = record { first = _; others = _; is = refl; told = mil (kind_on ks bus) _ (stands_mil (Data bus b w) _ l.stands refl); quiet = nil }
item_tells ks (BusError bus b w) l = record { first = _; others = _; is = refl; told = mil (kind_on ks bus) _ (stands_mil (BusError bus b w) _ l.stands refl); quiet = nil }
item_tells ks (Arinc bus c Untagged w) l = record {
  first = _;
  others = _;
  is = refl;
  told = high_role (kind_on ks bus) bus c _ (stands_arinc (Arinc bus c Untagged w) _ l.stands refl) l.sized.0;
  quiet = cons (low_role (kind_on ks bus) bus c _ (stands_arinc (Arinc bus c Untagged w) _ l.stands refl) l.sized.0) nil;
}
item_tells ks (Arinc bus c (At t) w) l = record {
  first = _;
  others = _;
  is = refl;
  told = high_role (kind_on ks bus) bus c _ (stands_arinc (Arinc bus c (At t) w) _ l.stands refl) l.sized.0;
  quiet = cons (low_role (kind_on ks bus) bus c _ (stands_arinc (Arinc bus c (At t) w) _ l.stands refl) l.sized.0)
      (cons (time_role (kind_on ks bus) bus t.high).0 (cons (time_role (kind_on ks bus) bus t.low).1 (cons (time_role (kind_on ks bus) bus t.micro).2 nil)));
}
item_tells ks (Notice bus c diag) l = record { first = _; others = _; is = refl; told = notice_role (kind_on ks bus) bus c diag (stands_arinc (Notice bus c diag) _ l.stands refl) l.sized.0 l.sized.1; quiet = nil }
item_tells ks (User bus true w) l = record { first = _; others = _; is = refl; told = (either_role (kind_on ks bus) bus w).0; quiet = nil }
item_tells ks (User bus false w) l = record { first = _; others = _; is = refl; told = (either_role (kind_on ks bus) bus w).1; quiet = nil }
item_tells ks (Overflow bus w) l = record { first = _; others = _; is = refl; told = (either_role (kind_on ks bus) bus w).2; quiet = nil }

-- words that say nothing
quiet_same : (ks : List Kind) (xs ys : List Part) (ps : List ℕ) (r : Row) → All (λ x. role_in ks x ≡ neither) xs → length xs ≤ length ps
    → Same (paired ks (drop (length xs) ps) ys) r → Same (paired ks ps (xs ++ ys)) r
unfolding paired
quiet_same ks [] ys ps r nil h e = e
quiet_same ks (x ∷ xs) ys [] r (cons q qs) h e = absurd (omega arith)
quiet_same ks (x ∷ xs) ys (p ∷ ps) r (cons q qs) h e = rw q (same_more p _ r (quiet_same ks xs ys ps r qs (omega arith) e))

-- one item
item_same : (ks : List Kind) (i : Item) → Tells ks i → (ys : List Part) (ps : List ℕ) (r : Row) → length (item_parts i) ≤ length ps
    → Same (paired ks (drop (length (item_parts i)) ps) ys) r → Same (paired ks ps (item_parts i ++ ys)) ((get_or ps 0 0, role_of i) ∷ r)
unfolding paired
item_same ks i t ys ps r h e = go ps (rw t.is at h) (rw t.is at e)
  where
    go : (ps : List ℕ) → suc (length t.others) ≤ length ps → Same (paired ks (drop (suc (length t.others)) ps) ys) r
        → Same (paired ks ps (item_parts i ++ ys)) ((get_or ps 0 0, role_of i) ∷ r)
    go [] h e = absurd (omega arith)
    go (p ∷ ps) h e = rw (t.is, t.told) (same_next p (role_of i) _ r (quiet_same ks t.others ys ps r t.quiet (omega arith) e))

-- the same row by other numbers
row_by_lem : (f g : ℕ → ℕ) (is : List Item) → ((k : ℕ) → f k ≡ g k) → row_by f is ≡ row_by g is
unfolding row_by
row_by_lem f g [] e = refl
row_by_lem f g (i ∷ is) e = rw (e 0, row_by_lem (λ k. f (suc k)) (λ k. g (suc k)) is (λ k. e (suc k)))

get_d_drop : (n m : ℕ) (ps : List ℕ) → get_or (drop n ps) m 0 ≡ get_or ps (n + m) 0
get_d_drop zero m ps = let z : 0 + m ≡ m = omega arith in rw z
get_d_drop (suc n) m [] = refl
get_d_drop (suc n) m (p ∷ ps) = let z : suc n + m ≡ suc (n + m) = omega arith in rw z (get_d_drop n m ps)

length_dropped : (n : ℕ) (ps : List ℕ) → length (drop n ps) ≡ length ps - n
length_dropped zero ps = omega arith
length_dropped (suc n) [] = omega arith
length_dropped (suc n) (p ∷ ps) = rw (length_dropped n ps) (omega arith)

words_parts : (i : Item) → length (item_words i) ≡ length (item_parts i)
unfolding item_words
words_parts i = length-map (item_parts i) _

-- the words of lawful items, wherever they stand, tell what the items tell
items_same : (ks : List Kind) (is : List Item) → All (Lawful ks) is → (ps : List ℕ) → length (flat_map item_parts is) ≡ length ps
    → Same (paired ks ps (flat_map item_parts is)) (row_by (first_word_of ps is) is)
unfolding flat_map row_by paired
items_same ks [] nil [] h = same_none
items_same ks [] nil (p ∷ ps) h = absurd (omega arith)
items_same ks (i ∷ is) (cons l ls) ps h =
    let n : length (item_parts i ++ flat_map item_parts is) ≡ length (item_parts i) + length (flat_map item_parts is) = length-append (item_parts i) (flat_map item_parts is) in
    let d : length (flat_map item_parts is) ≡ length (drop (length (item_parts i)) ps) = rw (length_dropped (length (item_parts i)) ps) (omega arith) in
    let e = items_same ks is ls (drop (length (item_parts i)) ps) d in
    let w : row_by (first_word_of (drop (length (item_parts i)) ps) is) is ≡ row_by (λ k. first_word_of ps (i ∷ is) (suc k)) is = row_by_lem _ _ is next in
    item_same ks i (item_tells ks i l) (flat_map item_parts is) ps _ (omega arith) (rw w at e)
  where
    next : (k : ℕ) → first_word_of (drop (length (item_parts i)) ps) is k ≡ first_word_of ps (i ∷ is) (suc k)
    next k =
        let z : length (item_words i ++ flat_map item_words (take k is)) ≡ length (item_parts i) + length (flat_map item_words (take k is)) = length-append (item_words i) (flat_map item_words (take k is)) ∙ ap (λ (n : ℕ). n + length (flat_map item_words (take k is))) (words_parts i) in
        get_d_drop (length (item_parts i)) (length (flat_map item_words (take k is))) ps ∙ ap (λ (n : ℕ). get_or ps n 0) (sym z)

-- of slots whose data words are those of lawful items: the row of their words tells where the earliest open notice stands
pub slots_open : (ks : List Kind) (parity : Bool) (ss : List Slot) (is : List Item) → All (Lawful ks) is → said parity ss ≡ flat_map item_parts is
    → open_row (roles_in ks parity ss) ≡ up_to (first_word_of (places_of ss) is) (first_open is) (length is)
slots_open ks parity ss is l e =
    let n : length (flat_map item_parts is) ≡ length (places_of ss) = ap length (sym e) ∙ length-map (data_of ss) (part_of parity) ∙ sym (places_count ss) in
    let s = items_same ks is l (places_of ss) n in
    (roles_same ks parity ss).open' ∙ ap (λ (xs : List Part). open_row (paired ks (places_of ss) xs)) e ∙ s.open'
    ∙ open_items (first_word_of (places_of ss) is) is (all_map (λ i w. w.sized) l)
