-- What the reader accepts is the words of lawful items.
use Rattle.std.specs.Prelude.{ℕ, ◌+◌, ◌*◌, ◌/◌, ◌%◌, ◌^◌, ◌<◌, Bool, true, false, cond, ◌&&◌, ◌||◌, ◌≡◌, refl, eqb, ltb}
use Rattle.std.proofs.Common.{arith, ap, sym, ◌∙◌, shr-shr, ltb-true, eqb-true}
use mathlib.Core.List.{List, [], ◌∷◌, ◌++◌, flat_map, append_assoc, append-nil}
use Rattle.std.proofs.Math.Seq.{append_snoc}
use Rattle.format.specs.Plan.{kind_on}
use Rattle.format.specs.Item.{stands_on, bus_of_item, sided, high_label, low_label, channel_of, item_parts, tag_parts}
use Rattle.format.specs.Reader.{holds, alone, is_pair, Fed, bad, fed, feed, starts, with_tag, after, base_bus}
use Rattle.format.specs.Lists.{All, cons, nil}
use Rattle.format.specs.Lawful.{Lawful, Sized, TagSized}
use Rattle.format.specs.Word.{Part, part}
use Rattle.format.specs.Laws.Word.Parts.{same_part}
use Rattle.format.specs.Laws.Reader.Held.{base_parts, held_parts}
use Rattle.format.proofs.Laws.Reader.Reads.{Whole, cut, whole, ahead, chain, reads}
use Rattle.format.specs.Laws.Tests.{clash, and_true, below16}
use Rattle.format.specs.Laws.Lists.{flat_map_append, all_append}
use Rattle.format.specs.declared.Kind.{Kind}
use Rattle.format.specs.declared.Kind.TheVariants.{Unused, Mil1553, Arinc429}
use Rattle.format.specs.declared.Tag.{Tag}
use Rattle.format.specs.declared.Tag.TheVariants.{Untagged, At}
use Rattle.format.specs.declared.Response.TheVariants.{Untimed, After}
use Rattle.format.specs.declared.Item.{Item}
use Rattle.format.specs.declared.Item.TheVariants.{Command, Status, Data, BusError, Arinc, Notice, User, Overflow}
use Rattle.format.specs.declared.Base.{Base}
use Rattle.format.specs.declared.Base.TheVariants as base
use Rattle.format.specs.declared.Held.{Held}
use Rattle.format.specs.declared.Held.TheVariants.{Nothing, Taggable, Half, TagHigh, TagLow, Answering}

-- what may be held
abbrev pub BaseOk : List Kind → Base → Type 0
BaseOk ks (base.Command bus b word) = (kind_on ks bus ≡ Mil1553) × (word < 2 ^ 16)
BaseOk ks (base.Arinc bus c word) = (kind_on ks bus ≡ Arinc429) × (c < 4) × (word < 2 ^ 32)

abbrev pub HeldOk : List Kind → Held → Type 0
HeldOk ks Nothing = Unit {0}
HeldOk ks (Taggable x) = BaseOk ks x
HeldOk ks (Half bus c high) = (kind_on ks bus ≡ Arinc429) × (c < 4) × (high < 2 ^ 16)
HeldOk ks (TagHigh x high) = BaseOk ks x × (high < 2 ^ 16)
HeldOk ks (TagLow x high low) = BaseOk ks x × (high < 2 ^ 16) × (low < 2 ^ 16)
HeldOk ks (Answering bus r) = (kind_on ks bus ≡ Mil1553) × (r < 10000)

pub record Fits (x : Part) : Type 0 where
  pub label : x.label < 16
  pub info : x.info < 2 ^ 16

-- the words P are those of the finished items and of what is held
abbrev pub Good : List Kind → List Part → Fed → Type 0
Good ks P bad = Unit {0}
Good ks P (fed js h) = (P ≡ flat_map item_parts js ++ held_parts h) × All (Lawful ks) js × HeldOk ks h

abbrev pub AllRead : List Kind → List Part → Whole → Type 0
AllRead ks P cut = Unit {0}
AllRead ks P (whole is) = (P ≡ flat_map item_parts is) × All (Lawful ks) is

test_good : (ks : List Kind) (P : List Part) (f : Fed) (t : Bool) → (t ≡ true → Good ks P f) → Good ks P (cond t f bad)
test_good ks P f true g = g refl
test_good ks P f false g = tt

one_good : (ks : List Kind) (P : List Part) (i : Item) → P ≡ item_parts i → Lawful ks i → Good ks P (alone i)
unfolding flat_map
one_good ks P i e w = (rw e (simp (append-nil)), cons w nil, tt)

hold_if : (ks : List Kind) (P : List Part) (t : Bool) (h : Held) → (t ≡ true → (P ≡ held_parts h) × HeldOk ks h) → Good ks P (cond t (holds h) bad)
unfolding flat_map
hold_if ks P t h g = test_good ks P (holds h) t (λ e. ((g e).0, nil, (g e).1))

one_if : (ks : List Kind) (P : List Part) (t : Bool) (i : Item) → (t ≡ true → (P ≡ item_parts i) × Lawful ks i) → Good ks P (cond t (alone i) bad)
one_if ks P t i g = test_good ks P (alone i) t (λ e. one_good ks P i (g e).0 (g e).1)

-- a high label is its channel's
channel_forth : (n : ℕ) → channel_of n < 4 → high_label (channel_of n) ≡ n
channel_forth n = zeroth (eqb n (high_label 0)) refl
  where
    third : (t : Bool) → eqb n (high_label 3) ≡ t → cond t 3 4 < 4 → high_label (cond t 3 4) ≡ n
    third true e h = sym (eqb-true _ _ e)
    third false e h = absurd (omega arith)

    second : (t : Bool) → eqb n (high_label 2) ≡ t → cond t 2 (cond (eqb n (high_label 3)) 3 4) < 4 → high_label (cond t 2 (cond (eqb n (high_label 3)) 3 4)) ≡ n
    second true e h = sym (eqb-true _ _ e)
    second false e h = third (eqb n (high_label 3)) refl h

    first : (t : Bool) → eqb n (high_label 1) ≡ t → cond t 1 (cond (eqb n (high_label 2)) 2 (cond (eqb n (high_label 3)) 3 4)) < 4
        → high_label (cond t 1 (cond (eqb n (high_label 2)) 2 (cond (eqb n (high_label 3)) 3 4))) ≡ n
    first true e h = sym (eqb-true _ _ e)
    first false e h = second (eqb n (high_label 2)) refl h

    zeroth : (t : Bool) → eqb n (high_label 0) ≡ t → cond t 0 (cond (eqb n (high_label 1)) 1 (cond (eqb n (high_label 2)) 2 (cond (eqb n (high_label 3)) 3 4))) < 4
        → high_label (cond t 0 (cond (eqb n (high_label 1)) 1 (cond (eqb n (high_label 2)) 2 (cond (eqb n (high_label 3)) 3 4)))) ≡ n
    zeroth true e h = sym (eqb-true _ _ e)
    zeroth false e h = first (eqb n (high_label 1)) refl h

starts_good : (ks : List Kind) (k : Kind) (bus label info : ℕ) → kind_on ks bus ≡ k → label < 16 → info < 2 ^ 16
    → Good ks (part bus label info ∷ []) (starts k bus label info)
unfolding starts stands_on bus_of_item flat_map
starts_good ks Unused bus label info e l i = tt
starts_good ks Mil1553 bus label info e l i =
    below16 (λ n. Good ks (part bus n info ∷ []) (starts Mil1553 bus n info))
    (say (Overflow bus info) refl (rw e) i) tt (say (User bus false info) refl (rw e) i) (say (User bus true info) refl (rw e) i)
    (test_good ks _ _ (ltb info 10000) (λ t. (refl, nil, (e, ltb-true _ _ t)))) tt tt tt
    (say (BusError bus true info) refl (rw e) i) (say (Data bus true info) refl (rw e) i) (say (Status bus true Untimed info) refl (rw e) (i, tt)) (refl, nil, (e, i))
    (say (BusError bus false info) refl (rw e) i) (say (Data bus false info) refl (rw e) i) (say (Status bus false Untimed info) refl (rw e) (i, tt)) (refl, nil, (e, i))
    label l
  where
    say : {P : List Part} (x : Item) → P ≡ item_parts x → stands_on x (kind_on ks (bus_of_item x)) ≡ true → Sized x → Good ks P (alone x)
    say {P} x r s z = one_good ks P x r (record { stands = s; sized = z })
starts_good ks Arinc429 bus label info e l i =
    below16 (λ n. Good ks (part bus n info ∷ []) (starts Arinc429 bus n info))
    (say (Overflow bus info) refl (rw e) i) tt (say (User bus false info) refl (rw e) i) (say (User bus true info) refl (rw e) i)
    (test_good ks (part bus 4 info ∷ []) (alone (Notice bus (channel_of (info / 2 ^ 12)) (info % 2 ^ 8))) (is_pair (info / 2 ^ 12) (info / 2 ^ 8 % 16)) notice)
    tt tt tt
    tt (refl, nil, (e, omega arith, i)) tt (refl, nil, (e, omega arith, i)) tt (refl, nil, (e, omega arith, i)) tt (refl, nil, (e, omega arith, i))
    label l
  where
    say : {P : List Part} (x : Item) → P ≡ item_parts x → stands_on x (kind_on ks (bus_of_item x)) ≡ true → Sized x → Good ks P (alone x)
    say {P} x r s z = one_good ks P x r (record { stands = s; sized = z })

    notice : is_pair (info / 2 ^ 12) (info / 2 ^ 8 % 16) ≡ true → Good ks (part bus 4 info ∷ []) (alone (Notice bus (channel_of (info / 2 ^ 12)) (info % 2 ^ 8)))
    notice t =
        let a = and_true _ _ t in
        let c : ℕ = channel_of (info / 2 ^ 12) in
        let l : c < 4 = ltb-true _ _ a.0 in
        let h4 : high_label c ≡ info / 2 ^ 12 = channel_forth _ l in
        let h5 : low_label c ≡ info / 2 ^ 8 % 16 = sym (eqb-true _ _ a.1) in
        let r : info ≡ high_label c * 2 ^ 12 + low_label c * 2 ^ 8 + info % 2 ^ 8 = rw (h4, h5) (omega (arith, shr-shr info 8 4)) in
        say (Notice bus c (info % 2 ^ 8)) (ap (λ (n : ℕ). part bus 4 n ∷ []) r) (rw e) (l, omega arith)

-- what may be held, tagged or not, is lawful
pub tagged_lawful : (ks : List Kind) (x : Base) (t : Tag) → BaseOk ks x → TagSized t → Lawful ks (with_tag x t)
unfolding stands_on bus_of_item
tagged_lawful ks (base.Command bus b word) t w z = record { stands = rw w.0; sized = (w.1, z) }
tagged_lawful ks (base.Arinc bus c word) t w z = record { stands = rw w.0; sized = (w.1, w.2, z) }

tagged_parts : (x : Base) (t : Tag) → item_parts (with_tag x t) ≡ base_parts x ++ tag_parts (base_bus x) t
tagged_parts (base.Command bus b word) t = refl
tagged_parts (base.Arinc bus c word) t = refl

pub untagged_parts : (x : Base) → item_parts (with_tag x Untagged) ≡ base_parts x
untagged_parts (base.Command bus b word) = refl
untagged_parts (base.Arinc bus c word) = refl

-- an item that is finished comes before what the word starts
after_good : (ks : List Kind) (x : Item) (P : List Part) (f : Fed) → Lawful ks x → Good ks P f → Good ks (item_parts x ++ P) (after x f)
unfolding flat_map
after_good ks x P bad w g = tt
after_good ks x P (fed is h) w g = (rw g.0 (sym (append_assoc (item_parts x) (flat_map item_parts is) (held_parts h))), cons w g.1, g.2)

-- the two labels of a status
sided_status : (l : ℕ) (s t : Bool) → eqb l 14 ≡ s → eqb l 10 ≡ t → (s || t) ≡ true → l ≡ sided 14 t
sided_status l s true e f g = eqb-true _ _ f
sided_status l true false e f g = eqb-true _ _ e
sided_status l false false e f g = clash g

-- one word, in any state
pub feed_good : (ks : List Kind) (h : Held) (x : Part) → HeldOk ks h → Fits x → Good ks (held_parts h ++ x ∷ []) (feed ks h x.bus x.label x.info)
unfolding feed stands_on bus_of_item flat_map
feed_good ks Nothing x o z = starts_good ks _ x.bus x.label x.info refl z.label z.info
feed_good ks (Taggable y) x o z = go (eqb x.label 7 && eqb x.bus (base_bus y)) refl
  where
    go : (t : Bool) → (eqb x.label 7 && eqb x.bus (base_bus y)) ≡ t
        → Good ks (base_parts y ++ x ∷ []) (cond t (holds (TagHigh y x.info)) (after (with_tag y Untagged) (starts (kind_on ks x.bus) x.bus x.label x.info)))
    go true t =
        let a = and_true _ _ t in
        (ap (λ (p : Part). base_parts y ++ p ∷ []) (same_part x _ _ (eqb-true _ _ a.1) (eqb-true _ _ a.0)), nil, (o, z.info))
    go false t =
        rw (untagged_parts y)
        at (after_good ks (with_tag y Untagged) (x ∷ []) (starts (kind_on ks x.bus) x.bus x.label x.info) (tagged_lawful ks y Untagged o tt) (starts_good ks _ x.bus x.label x.info refl z.label z.info))
feed_good ks (Half bus c high) x o z =
    hold_if ks _ (eqb x.bus bus && eqb x.label (low_label c)) (Taggable (base.Arinc bus c (high * 2 ^ 16 + x.info))) λ t.
    let a = and_true _ _ t in
    let e1 : (high * 2 ^ 16 + x.info) / 2 ^ 16 ≡ high = omega (arith, z.info) in
    let e2 : (high * 2 ^ 16 + x.info) % 2 ^ 16 ≡ x.info = omega (arith, z.info) in
    (rw (e1, e2) (ap (λ (p : Part). part bus (high_label c) high ∷ p ∷ []) (same_part x _ _ (eqb-true _ _ a.0) (eqb-true _ _ a.1))), (o.0, o.1, omega (arith, o.2, z.info)))
feed_good ks (TagHigh y high) x o z =
    hold_if ks _ (eqb x.bus (base_bus y) && eqb x.label 6) (TagLow y high x.info) λ t.
    let a = and_true _ _ t in (
      append_assoc (base_parts y) (part (base_bus y) 7 high ∷ []) (x ∷ [])
          ∙ ap (λ (p : Part). base_parts y ++ part (base_bus y) 7 high ∷ p ∷ []) (same_part x _ _ (eqb-true _ _ a.0) (eqb-true _ _ a.1)),
      (o.0, o.1, z.info),
    )
feed_good ks (TagLow y high low) x o z =
    one_if ks _ (eqb x.bus (base_bus y) && eqb x.label 5 && ltb x.info 10000) (with_tag y (At (record { high = high; low = low; micro = x.info }))) λ t.
    let a = and_true _ _ t in
    let b = and_true _ _ a.0 in
    let tag : Tag = At (record { high = high; low = low; micro = x.info }) in (
      append_assoc (base_parts y) (part (base_bus y) 7 high ∷ part (base_bus y) 6 low ∷ []) (x ∷ [])
          ∙ ap (λ (p : Part). base_parts y ++ part (base_bus y) 7 high ∷ part (base_bus y) 6 low ∷ p ∷ []) (same_part x _ _ (eqb-true _ _ b.0) (eqb-true _ _ b.1))
          ∙ sym (tagged_parts y tag),
      tagged_lawful ks y tag o.0 (o.1, o.2, ltb-true _ _ a.1),
    )
feed_good ks (Answering bus r) x o z =
    one_if ks _ (eqb x.bus bus && (eqb x.label 14 || eqb x.label 10)) (Status bus (eqb x.label 10) (After r) x.info) λ t.
    let a = and_true _ _ t in (
      ap (λ (p : Part). part bus 4 r ∷ p ∷ []) (same_part x _ _ (eqb-true _ _ a.0) (sided_status x.label _ _ refl refl a.1)),
      record { stands = rw o.0; sized = (z.info, o.1) },
    )

chain_good : (ks : List Kind) (P xs : List Part) (f : Fed) (g : Held → Whole) → Good ks P f
    → ((h : Held) → HeldOk ks h → AllRead ks (held_parts h ++ xs) (g h)) → AllRead ks (P ++ xs) (chain f g)
chain_good ks P xs bad g w r = tt
chain_good ks P xs (fed is h) g w r = go (g h) (r h w.2)
  where
    go : (v : Whole) → AllRead ks (held_parts h ++ xs) v → AllRead ks (P ++ xs) (ahead is v)
    go cut z = tt
    go (whole js) z =
        (rw w.0 (append_assoc (flat_map item_parts is) (held_parts h) xs) ∙ ap (λ (l : List Part). flat_map item_parts is ++ l) z.0 ∙ sym (flat_map_append item_parts is js), all_append w.1 z.1)

-- the words that were read are the words of the items, and the items are lawful
pub parts_forth : (ks : List Kind) (xs : List Part) (h : Held) → HeldOk ks h → All Fits xs → AllRead ks (held_parts h ++ xs) (reads ks h xs)
unfolding reads flat_map
parts_forth ks [] Nothing o z = (refl, nil)
parts_forth ks [] (Taggable y) o z = (ap (λ (l : List Part). l ++ []) (sym (untagged_parts y)), cons (tagged_lawful ks y Untagged o tt) nil)
parts_forth ks [] (Half bus c high) o z = tt
parts_forth ks [] (TagHigh y high) o z = tt
parts_forth ks [] (TagLow y high low) o z = tt
parts_forth ks [] (Answering bus r) o z = tt
parts_forth ks (x ∷ xs) h o (cons z zs) =
    rw (← append_snoc (held_parts h) x xs)
    (chain_good ks (held_parts h ++ x ∷ []) xs (feed ks h x.bus x.label x.info) (λ h'. reads ks h' xs) (feed_good ks h x o z) (λ h' o'. parts_forth ks xs h' o' zs))
