-- The words of each item of an accepted capture stand together among its data words.
use Rattle.std.specs.Prelude.{ℕ, zero, suc, ◌+◌, ◌<◌, Bool, true, false, cond, ◌≡◌, refl, length, get_or}
use Rattle.std.proofs.Common.{arith, ap, sym, ◌∙◌, length-append, get_or-append-add}
use mathlib.Core.List.{List, [], ◌∷◌, ◌++◌, map, flat_map}
use Rattle.std.proofs.lemmas.List.{length-map}
use Rattle.std.proofs.Math.ListN.{get_or-append}
use Rattle.format.specs.Word.{Part, part_of, bus_of, label_of, info_of, word_for, is_fill, part}
use Rattle.format.specs.Item.{item_words, item_parts}
use Rattle.format.specs.Lists.{All, Bytes, nil, cons}
use Rattle.format.specs.Log.{parsed, on_plan, items}
use Rattle.format.specs.Reader.{data_of, Slot}
use Rattle.format.specs.Read.{data_words, groups_in}
use Rattle.format.specs.Laws.Lists.{flat_map_append, all_map}
use Rattle.format.specs.Laws.Reader.Parts.{words_of}
use Rattle.format.specs.Laws.Accepted.Given.{ReadOf}
use Rattle.format.proofs.Laws.Accepted.Faultless.{accepted_parts}
use Rattle.format.proofs.Laws.Accepted.Exact.{slots_low}
use Rattle.format.specs.Laws.Log.Forth.{same_items}
use Rattle.format.proofs.Laws.Accepted.Tidy.{words_in}
use Rattle.format.specs.Laws.Log.Back.{log_back}
use Rattle.format.specs.Laws.Legal.{lawful_logged}
use Rattle.format.specs.declared.Kind.{Kind}
use Rattle.format.specs.declared.Plan.{Plan}
use Rattle.format.specs.declared.Item.{Item}

-- as many words as parts
pub words_count : (is : List Item) → length (flat_map item_words is) ≡ length (flat_map item_parts is)
words_count is = ap length (words_of is) ∙ length-map (flat_map item_parts is) word_for

-- the part j of an item behind the items xs
pub part_of_lem : (xs ys : List Item) (i : Item) (j : ℕ) (d : Part) → j < length (item_parts i)
    → get_or (flat_map item_parts (xs ++ i ∷ ys)) (length (flat_map item_words xs) + j) d ≡ get_or (item_parts i) j d
unfolding flat_map
part_of_lem xs ys i j d h =
    rw (flat_map_append item_parts xs (i ∷ ys), words_count xs)
    (get_or-append-add (flat_map item_parts xs) (item_parts i ++ flat_map item_parts ys) j d ∙ get_or-append (item_parts i) (flat_map item_parts ys) d j h)

get_or_mapped : {A B : Type 0} (f : A → B) (l : List A) (n : ℕ) (a : A) (b : B) → n < length l → get_or (map f l) n b ≡ f (get_or l n a)
get_or_mapped f [] n a b h = absurd (omega arith)
get_or_mapped f (x ∷ l) zero a b h = refl
get_or_mapped f (x ∷ l) (suc n) a b h = get_or_mapped f l n a b (omega arith)

-- the data word k of the capture says this
pub record Says (p : Plan) (c : List ℕ) (k bus label info : ℕ) : Type 0 where
  pub there : k < length (data_words p c)
  pub bus_is : bus_of p.parity (get_or (data_words p c) k 0) ≡ bus
  pub label_is : label_of (get_or (data_words p c) k 0) ≡ label
  pub info_is : info_of (get_or (data_words p c) k 0) ≡ info

says : (p : Plan) (c : List ℕ) (k : ℕ) (x : Part) → k < length (data_words p c) → part_of p.parity (get_or (data_words p c) k 0) ≡ x → Says p c k x.bus x.label x.info
says p c k x h e = record { there = h; bus_is = ap (λ (y : Part). y.bus) e; label_is = ap (λ (y : Part). y.label) e; info_is = ap (λ (y : Part). y.info) e }

-- the part of no word
abbrev pub blank : Part
blank = part 0 0 0

-- where the data words say what the items' words say, each item's words stand behind those of the items before it
pub item_says : (p : Plan) (c : List ℕ) (is xs ys : List Item) (i : Item) → map (part_of p.parity) (data_words p c) ≡ flat_map item_parts is → is ≡ xs ++ i ∷ ys
    → (j k : ℕ) → j < length (item_parts i) → length (flat_map item_words xs) + j ≡ k
    → Says p c k (get_or (item_parts i) j blank).bus (get_or (item_parts i) j blank).label (get_or (item_parts i) j blank).info
unfolding flat_map
item_says p c is xs ys i e s j k h z =
    let w : List Part = flat_map item_parts (xs ++ i ∷ ys) in
    let f : map (part_of p.parity) (data_words p c) ≡ w = e ∙ ap (flat_map item_parts) s in
    let n : length (data_words p c) ≡ length w = sym (length-map (data_words p c) (part_of p.parity)) ∙ ap length f in
    let m : length w ≡ length (flat_map item_parts xs) + length (item_parts i ++ flat_map item_parts ys) =
    ap length (flat_map_append item_parts xs (i ∷ ys)) ∙ length-append (flat_map item_parts xs) (item_parts i ++ flat_map item_parts ys) in
    let l : k < length (data_words p c) = omega (arith, length-append (item_parts i) (flat_map item_parts ys), words_count xs) in
    says p c k (get_or (item_parts i) j blank) l
    (sym (get_or_mapped (part_of p.parity) (data_words p c) k 0 blank l) ∙ ap (λ (v : List Part). get_or v k blank) f ∙ ap (λ (v : ℕ). get_or w v blank) (sym z) ∙ part_of_lem xs ys i j blank h)

-- ---- a reading that gives a log and times

pub data_all : {P : ℕ → Type 0} (ss : List Slot) → All P (words_in ss) → All P (data_of ss)
unfolding data_of
data_all [] nil = nil
data_all {P} (s ∷ ss) (cons h t) = go (is_fill s.1) (data_all ss t)
  where
    go : (b : Bool) → All P (data_of ss) → All P (cond b (data_of ss) (s.1 ∷ data_of ss))
    go true a = a
    go false a = cons h a

-- its log parses as the items that were read
pub given_parses : {closed : Bool} {p : Plan} {ks : List Kind} {c log times : List ℕ} → length ks ≡ 16 → Bytes c → (k : ReadOf closed p ks c log times)
    → parsed (on_plan ks) log ≡ items k.its
given_parses {p = p} {ks = ks} {c = c} sixteen bytes k =
    let a = accepted_parts p ks c (groups_in p c) k.its k.reads (data_all _ (slots_low p c bytes (groups_in p c) 0)) in
    rw k.logged at (log_back (on_plan ks) k.its (all_map (λ i w. lawful_logged ks sixteen i w) a.1) k.short)

-- and the data words say what the words of the log's items say
pub given_parts : {closed : Bool} {p : Plan} {ks : List Kind} {c log times : List ℕ} → length ks ≡ 16 → Bytes c → ReadOf closed p ks c log times
    → (is : List Item) → parsed (on_plan ks) log ≡ items is → map (part_of p.parity) (data_words p c) ≡ flat_map item_parts is
given_parts {p = p} {ks = ks} {c = c} sixteen bytes k is e =
    let a = accepted_parts p ks c (groups_in p c) k.its k.reads (data_all _ (slots_low p c bytes (groups_in p c) 0)) in
    let s : k.its ≡ is = same_items (sym (given_parses sixteen bytes k) ∙ e) in
    a.0 ∙ ap (flat_map item_parts) s
