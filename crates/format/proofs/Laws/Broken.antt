-- Which item broke (document 02, K8): the second place is that of the first data word that is no word of a finished item.
use Rattle.std.specs.Prelude.{ℕ, zero, suc, ◌+◌, ◌*◌, ◌/◌, ◌%◌, ◌^◌, ◌<◌, ◌≤◌, Bool, true, false, cond, ◌&&◌, ◌||◌, ◌⊎◌, ◌≡◌, refl, get_or, eqb, ltb}
use Rattle.std.proofs.Common.{arith, inl, inr, sym, ◌∙◌, length-append}
use Rattle.std.proofs.Math.Path.{ap}
use mathlib.Core.List.{List, [], ◌∷◌, ◌++◌, map, flat_map, append_assoc, append-nil}
use Rattle.std.proofs.Math.ListN.{length, get_or-append}
use Rattle.std.proofs.Math.Seq.{append_snoc, get_or_at}
use Rattle.format.specs.Plan.{kind_on}
use Rattle.format.specs.Word.{Part, part, part_of, bus_of, label_of, info_of, is_fill}
use Rattle.format.specs.Time.{below_tick}
use Rattle.format.specs.Item.{item_parts, low_label, channel_of}
use Rattle.format.specs.Lists.{All, nil, cons}
use Rattle.format.specs.Lawful.{Lawful}
use Rattle.format.specs.Reader.{Slot, data_of, places_of, Fed, bad, fed, starts, feed, after, holds, alone, with_tag, base_bus, is_pair, Ran, bad_at, ran, since, begun, more, join, run}
use Rattle.format.specs.Read.{Got, got, stopped, finish}
use Rattle.format.specs.Laws.Tests.{below16}
use Rattle.format.specs.Laws.Lists.{flat_map_append, all_append}
use Rattle.format.specs.Laws.Reader.Parts.{said}
use Rattle.format.proofs.Laws.Reader.Forth.{HeldOk, Fits, Good, feed_good, untagged_parts, tagged_lawful}
use Rattle.format.specs.Laws.Reader.Held.{held_parts, base_parts}
use Rattle.format.specs.declared.Kind.{Kind}
use Rattle.format.specs.declared.Kind.TheVariants.{Unused, Mil1553, Arinc429}
use Rattle.format.specs.declared.Item.{Item}
use Rattle.format.specs.declared.Item.TheVariants.{Command, Status, Data, BusError, Arinc, Notice, User, Overflow}
use Rattle.format.specs.declared.Tag.TheVariants.{Untagged, At}
use Rattle.format.specs.declared.Response.TheVariants.{Untimed, After}
use Rattle.format.specs.declared.Base.{Base}
use Rattle.format.specs.declared.Base.TheVariants as base
use Rattle.format.specs.declared.Held.{Held}
use Rattle.format.specs.declared.Held.TheVariants.{Nothing, Taggable, Half, TagHigh, TagLow, Answering}

-- ---- what a word begins has that word as its first; what goes on had a first word before

abbrev New : Held → Type 0
New Nothing = Unit {0}
New (Taggable (base.Command bus b word)) = Unit {0}
New (Taggable (base.Arinc bus c word)) = ⊥
New (Half bus c high) = Unit {0}
New (TagHigh x high) = ⊥
New (TagLow x high low) = ⊥
New (Answering bus r) = Unit {0}

abbrev StartsNew : Fed → Type 0
StartsNew bad = Unit {0}
StartsNew (fed js h) = New h

test_new : (t : Bool) (f : Fed) → StartsNew f → StartsNew (cond t f bad)
test_new true f n = n
test_new false f n = tt

starts_new : (k : Kind) (bus label info : ℕ) → label < 16 → StartsNew (starts k bus label info)
unfolding starts
starts_new Unused bus label info l = tt
starts_new Mil1553 bus label info l =
    below16 (λ n. StartsNew (starts Mil1553 bus n info))
    tt tt tt tt (test_new (below_tick info) (holds (Answering bus info)) tt) tt tt tt tt tt tt tt tt tt tt tt label l
starts_new Arinc429 bus label info l =
    below16 (λ n. StartsNew (starts Arinc429 bus n info))
    tt tt tt tt (test_new (is_pair (info / 2 ^ 12) (info / 2 ^ 8 % 16)) (alone (Notice bus (channel_of (info / 2 ^ 12)) (info % 2 ^ 8))) tt) tt tt tt tt tt tt tt tt tt tt tt label l

after_new : (i : Item) (f : Fed) → StartsNew f → StartsNew (after i f)
after_new i bad n = tt
after_new i (fed js h) n = n

-- something is held
abbrev Some : Held → Type 0
Some Nothing = ⊥
Some (Taggable x) = Unit {0}
Some (Half bus c high) = Unit {0}
Some (TagHigh x high) = Unit {0}
Some (TagLow x high low) = Unit {0}
Some (Answering bus r) = Unit {0}

-- what is held after a word is new, or went on with what was held, and nothing was finished
abbrev Went : Held → Fed → Type 0
Went h bad = Unit {0}
Went h (fed js h') = New h' ⊎ ((js ≡ []) × Some h)

went_new : (h : Held) (f : Fed) → StartsNew f → Went h f
went_new h bad n = tt
went_new h (fed js h') n = inl n

went_if : (h : Held) (t : Bool) (h' : Held) → Some h → Went h (cond t (holds h') bad)
went_if h true h' s = inr (refl, s)
went_if h false h' s = tt

alone_if : (h : Held) (t : Bool) (i : Item) → Went h (cond t (alone i) bad)
alone_if h true i = inl tt
alone_if h false i = tt

feed_went : (ks : List Kind) (h : Held) (bus label info : ℕ) → label < 16 → Went h (feed ks h bus label info)
unfolding feed
feed_went ks Nothing bus label info l = went_new Nothing (starts (kind_on ks bus) bus label info) (starts_new (kind_on ks bus) bus label info l)
feed_went ks (Taggable x) bus label info l = go (eqb label 7 && eqb bus (base_bus x))
  where
    go : (t : Bool) → Went (Taggable x) (cond t (holds (TagHigh x info)) (after (with_tag x Untagged) (starts (kind_on ks bus) bus label info)))
    go true = inr (refl, tt)
    go false =
        went_new (Taggable x) (after (with_tag x Untagged) (starts (kind_on ks bus) bus label info))
        (after_new (with_tag x Untagged) (starts (kind_on ks bus) bus label info) (starts_new (kind_on ks bus) bus label info l))
feed_went ks (Half b c high) bus label info l = went_if (Half b c high) (eqb bus b && eqb label (low_label c)) (Taggable (base.Arinc b c (high * 2 ^ 16 + info))) tt
feed_went ks (TagHigh x high) bus label info l = went_if (TagHigh x high) (eqb bus (base_bus x) && eqb label 6) (TagLow x high info) tt
feed_went ks (TagLow x high low) bus label info l =
    alone_if (TagLow x high low) (eqb bus (base_bus x) && eqb label 5 && below_tick info) (with_tag x (At (record { high = high; low = low; micro = info })))
feed_went ks (Answering b r) bus label info l =
    alone_if (Answering b r) (eqb bus b && (eqb label 14 || eqb label 10)) (Status b (eqb label 10) (After r) info)

-- ---- a row of data words, its places and what the words say

-- nothing, or an unfinished item: "Without one, a command or ARINC word is already finished"
abbrev pub Unfinished : Held → Type 0
Unfinished Nothing = Unit {0}
Unfinished (Taggable x) = ⊥
Unfinished (Half bus c high) = Unit {0}
Unfinished (TagHigh x high) = Unit {0}
Unfinished (TagLow x high low) = Unit {0}
Unfinished (Answering bus r) = Unit {0}

-- a row of data words: those of finished items, those of the unfinished item `held`, if there is one, and the bad word; it stands `here`,
-- and `second` is where the unfinished item begins, or `here`
pub record Broken (ks : List Kind) (places : List ℕ) (parts : List Part) (here second : ℕ) : Type 0 where
  pub items : List Item
  pub held : Held
  pub bad_word : Part
  pub later : List Part
  pub lawful : All (Lawful ks) items
  pub unfinished : Unfinished held
  pub says : parts ≡ flat_map item_parts items ++ (held_parts held ++ bad_word ∷ later)
  pub here_is : get_or places (length (flat_map item_parts items) + length (held_parts held)) 0 ≡ here
  pub second_is : get_or places (length (flat_map item_parts items)) 0 ≡ second

-- what is held begins there
abbrev pub First : Held → List ℕ → ℕ → ℕ → Type 0
First Nothing seen n p = Unit {0}
First (Taggable x) seen n p = p ≡ get_or seen n 0
First (Half bus c high) seen n p = p ≡ get_or seen n 0
First (TagHigh x high) seen n p = p ≡ get_or seen n 0
First (TagLow x high low) seen n p = p ≡ get_or seen n 0
First (Answering bus r) seen n p = p ≡ get_or seen n 0

-- a row of data words: those of finished items and of what is held, which begins at `at`
pub record EndsWith (ks : List Kind) (places : List ℕ) (parts : List Part) (h : Held) (at : ℕ) : Type 0 where
  pub items : List Item
  pub lawful : All (Lawful ks) items
  pub says : parts ≡ flat_map item_parts items ++ held_parts h
  pub first : First h places (length (flat_map item_parts items)) at

abbrev pub BrokenBy : List Kind → List ℕ → List Part → Ran → Type 0
BrokenBy ks places parts (bad_at here second) = Broken ks places parts here second
BrokenBy ks places parts (ran is h at) = EndsWith ks places parts h at

more_broken : (ks : List Kind) (places : List ℕ) (parts : List Part) (js : List Item) (r : Ran) → BrokenBy ks places parts r → BrokenBy ks places parts (more js r)
more_broken ks places parts js (bad_at here second) b = b
more_broken ks places parts js (ran is h at) b = b

-- words that were seen: those of finished items and of what is held
record Seen (ks : List Kind) (seen : List ℕ) (P : List Part) (done : List Item) (h : Held) (p : ℕ) : Type 0 where
  says : P ≡ flat_map item_parts done ++ held_parts h
  lawful : All (Lawful ks) done
  count : length seen ≡ length P
  ok : HeldOk ks h
  first : First h seen (length (flat_map item_parts done)) p

-- how many words are held
held_some : (h : Held) → Some h → 1 ≤ length (held_parts h)
held_some (Taggable (base.Command bus b word)) s = omega arith
held_some (Taggable (base.Arinc bus c word)) s = omega arith
held_some (Half bus c high) s = omega arith
held_some (TagHigh (base.Command bus b word) high) s = omega arith
held_some (TagHigh (base.Arinc bus c word) high) s = omega arith
held_some (TagLow (base.Command bus b word) high low) s = omega arith
held_some (TagLow (base.Arinc bus c word) high low) s = omega arith
held_some (Answering bus r) s = omega arith
held_some Nothing s = elim s [ ]

first_of : (h : Held) (seen : List ℕ) (n p : ℕ) → Some h → First h seen n p → p ≡ get_or seen n 0
first_of (Taggable x) seen n p s f = f
first_of (Half bus c high) seen n p s f = f
first_of (TagHigh x high) seen n p s f = f
first_of (TagLow x high low) seen n p s f = f
first_of (Answering bus r) seen n p s f = f
first_of Nothing seen n p s f = elim s [ ]

-- the next word begins what is held then
new_first : (h : Held) → New h → (seen : List ℕ) (n old here : ℕ) → length seen + 1 ≡ n + length (held_parts h) → First h (seen ++ here ∷ []) n (since h old here)
new_first Nothing w seen n old here e = tt
new_first (Taggable (base.Command bus b word)) w seen n old here e = sym (get_or_at seen here [] 0 n (omega arith))
new_first (Half bus c high) w seen n old here e = sym (get_or_at seen here [] 0 n (omega arith))
new_first (Answering bus r) w seen n old here e = sym (get_or_at seen here [] 0 n (omega arith))
new_first (Taggable (base.Arinc _ _ _)) w seen n old here e = elim w [ ]
new_first (TagHigh _ _) w seen n old here e = elim w [ ]
new_first (TagLow _ _ _) w seen n old here e = elim w [ ]

-- or goes on with it
old_first : (h : Held) → (New h → ⊥) → (seen : List ℕ) (n old here : ℕ) → n < length seen → old ≡ get_or seen n 0 → First h (seen ++ here ∷ []) n (since h old here)
old_first Nothing w seen n old here l e = tt
old_first (Taggable (base.Command bus b word)) w seen n old here l e = absurd (w tt)
old_first (Taggable (base.Arinc bus c word)) w seen n old here l e = e ∙ sym (get_or-append seen (here ∷ []) 0 n l)
old_first (Half bus c high) w seen n old here l e = absurd (w tt)
old_first (TagHigh x high) w seen n old here l e = e ∙ sym (get_or-append seen (here ∷ []) 0 n l)
old_first (TagLow x high low) w seen n old here l e = e ∙ sym (get_or-append seen (here ∷ []) 0 n l)
old_first (Answering bus r) w seen n old here l e = absurd (w tt)

is_new : (h : Held) → New h ⊎ (New h → ⊥)
is_new Nothing = inl tt
is_new (Taggable (base.Command bus b word)) = inl tt
is_new (Taggable (base.Arinc bus c word)) = inr (λ z. z)
is_new (Half bus c high) = inl tt
is_new (TagHigh x high) = inr (λ z. z)
is_new (TagLow x high low) = inr (λ z. z)
is_new (Answering bus r) = inl tt

module _ (ks : List Kind) (parity : Bool) where
  -- a bad word
  bad_here : (seen : List ℕ) (P : List Part) (done : List Item) (h : Held) (p here : ℕ) (later : List ℕ) (x : Part) (xs : List Part) → Seen ks seen P done h p
      → Broken ks (seen ++ here ∷ later) (P ++ x ∷ xs) here (begun h p here)
  unfolding flat_map
  bad_here seen P done h p here later x xs k = go h k
    where
      whole : (is : List Item) → All (Lawful ks) is → P ≡ flat_map item_parts is → length seen ≡ length P → Broken ks (seen ++ here ∷ later) (P ++ x ∷ xs) here here
      whole is l e c =
          let n : length seen ≡ length (flat_map item_parts is) = c ∙ ap length e in
          record {
            items = is;
            held = Nothing;
            bad_word = x;
            later = xs;
            lawful = l;
            unfinished = tt;
            says = ap (λ (y : List Part). y ++ x ∷ xs) e;
            here_is = get_or_at seen here later 0 (length (flat_map item_parts is) + 0) (omega arith);
            second_is = get_or_at seen here later 0 (length (flat_map item_parts is)) n;
          }

      broke : (h : Held) → Some h → Unfinished h → Seen ks seen P done h p → Broken ks (seen ++ here ∷ later) (P ++ x ∷ xs) here p
      broke h s u k =
          let n : length seen ≡ length (flat_map item_parts done) + length (held_parts h) = k.count ∙ ap length k.says ∙ length-append (flat_map item_parts done) (held_parts h) in
          let l : length (flat_map item_parts done) < length seen = omega (arith, held_some h s) in
          record {
            items = done;
            held = h;
            bad_word = x;
            later = xs;
            lawful = k.lawful;
            unfinished = u;
            says = ap (λ (y : List Part). y ++ x ∷ xs) k.says ∙ append_assoc (flat_map item_parts done) (held_parts h) (x ∷ xs);
            here_is = get_or_at seen here later 0 (length (flat_map item_parts done) + length (held_parts h)) n;
            second_is = get_or-append seen (here ∷ later) 0 (length (flat_map item_parts done)) l ∙ sym (first_of h seen (length (flat_map item_parts done)) p s k.first);
          }

      go : (h : Held) → Seen ks seen P done h p → Broken ks (seen ++ here ∷ later) (P ++ x ∷ xs) here (begun h p here)
      go Nothing k = whole done k.lawful (k.says ∙ append-nil (flat_map item_parts done)) k.count
      go (Taggable y) k =
          let e : flat_map item_parts (done ++ with_tag y Untagged ∷ []) ≡ flat_map item_parts done ++ base_parts y = flat_map_append item_parts done (with_tag y Untagged ∷ []) ∙ ap (λ (l : List Part). flat_map item_parts done ++ l) (append-nil (item_parts (with_tag y Untagged)) ∙ untagged_parts y) in
          whole (done ++ with_tag y Untagged ∷ []) (all_append k.lawful (cons (tagged_lawful ks y Untagged k.ok tt) nil)) (k.says ∙ sym e) k.count
      go (Half bus c high) k = broke (Half bus c high) tt tt k
      go (TagHigh y high) k = broke (TagHigh y high) tt tt k
      go (TagLow y high low) k = broke (TagLow y high low) tt tt k
      go (Answering bus r) k = broke (Answering bus r) tt tt k

  -- a word that was taken
  seen_next : (seen : List ℕ) (P : List Part) (done : List Item) (h : Held) (p here : ℕ) (x : Part) (js : List Item) (h' : Held) → Seen ks seen P done h p
      → Good ks (held_parts h ++ x ∷ []) (fed js h') → Went h (fed js h') → Seen ks (seen ++ here ∷ []) (P ++ x ∷ []) (done ++ js) h' (since h' p here)
  seen_next seen P done h p here x js h' k g w = record {
    says = s;
    lawful = all_append k.lawful g.1;
    count = length-append seen (here ∷ []) ∙ ap (λ (n : ℕ). n + 1) k.count ∙ sym (length-append P (x ∷ []));
    ok = g.2;
    first = go (is_new h') w;
  }
    where
      s : P ++ x ∷ [] ≡ flat_map item_parts (done ++ js) ++ held_parts h'
      s =
          ap (λ (l : List Part). l ++ x ∷ []) k.says ∙ append_assoc (flat_map item_parts done) (held_parts h) (x ∷ []) ∙ ap (λ (l : List Part). flat_map item_parts done ++ l) g.0
          ∙ sym (append_assoc (flat_map item_parts done) (flat_map item_parts js) (held_parts h')) ∙ ap (λ (l : List Part). l ++ held_parts h') (sym (flat_map_append item_parts done js))

      n : ℕ
      n = length (flat_map item_parts (done ++ js))

      total : length seen + 1 ≡ n + length (held_parts h')
      total = ap (λ (m : ℕ). m + 1) k.count ∙ sym (length-append P (x ∷ [])) ∙ ap length s ∙ length-append (flat_map item_parts (done ++ js)) (held_parts h')

      same : js ≡ [] → length (flat_map item_parts done) ≡ n
      same e = ap (λ (l : List Item). length (flat_map item_parts l)) (sym (append-nil done) ∙ ap (λ (l : List Item). done ++ l) (sym e))

      go : New h' ⊎ (New h' → ⊥) → Went h (fed js h') → First h' (seen ++ here ∷ []) n (since h' p here)
      go (inl w) z = new_first h' w seen n p here total
      go (inr w) (inl z) = absurd (w z)
      go (inr w) (inr z) =
          let q : length (flat_map item_parts done) ≡ n = same z.0 in
          let c : length seen ≡ length (flat_map item_parts done) + length (held_parts h) = k.count ∙ ap length k.says ∙ length-append (flat_map item_parts done) (held_parts h) in
          let l : n < length seen = omega (arith, held_some h z.1) in
          old_first h' w seen n p here l (first_of h seen (length (flat_map item_parts done)) p z.1 k.first ∙ ap (λ (m : ℕ). get_or seen m 0) q)

  run_broken : (ss : List Slot) → All Fits (said parity ss) → (seen : List ℕ) (P : List Part) (done : List Item) (h : Held) (p : ℕ) → Seen ks seen P done h p
      → BrokenBy ks (seen ++ places_of ss) (P ++ said parity ss) (run ks parity ss h p)
  unfolding run places_of data_of
  run_broken [] z seen P done h p k = rw (append-nil seen, append-nil P) (record { items = done; lawful = k.lawful; says = k.says; first = k.first })
  run_broken (s ∷ ss) z seen P done h p k = go (is_fill s.1) z (run_broken ss)
    where
      x : Part
      x = part_of parity s.1

      Next : Type 0
      Next = All Fits (said parity ss) → (seen : List ℕ) (P : List Part) (done : List Item) (h : Held) (p : ℕ) → Seen ks seen P done h p
          → BrokenBy ks (seen ++ places_of ss) (P ++ said parity ss) (run ks parity ss h p)

      fed_word : All Fits (said parity ss) → Next → (f : Fed) → Good ks (held_parts h ++ x ∷ []) f → Went h f
          → BrokenBy ks (seen ++ s.0 ∷ places_of ss) (P ++ x ∷ said parity ss) (join f p (begun h p s.0) s.0 (λ h' p'. run ks parity ss h' p'))
      fed_word zs ih bad g w = bad_here seen P done h p s.0 (places_of ss) x (said parity ss) k
      fed_word zs ih (fed js h') g w =
          more_broken ks _ _ js (run ks parity ss h' (since h' p s.0))
          (rw (append_snoc seen s.0 (places_of ss), append_snoc P x (said parity ss))
          at (ih zs (seen ++ s.0 ∷ []) (P ++ x ∷ []) (done ++ js) h' (since h' p s.0) (seen_next seen P done h p s.0 x js h' k g w)))

      go : (t : Bool) → All Fits (map (part_of parity) (cond t (data_of ss) (s.1 ∷ data_of ss))) → Next
          → BrokenBy ks (seen ++ cond t (places_of ss) (s.0 ∷ places_of ss)) (P ++ map (part_of parity) (cond t (data_of ss) (s.1 ∷ data_of ss)))
          (cond t (run ks parity ss h p) (join (feed ks h (bus_of parity s.1) (label_of s.1) (info_of s.1)) p (begun h p s.0) s.0 (λ h' p'. run ks parity ss h' p')))
      go true z ih = ih z seen P done h p k
      go false (cons f zs) ih = fed_word zs ih (feed ks h x.bus x.label x.info) (feed_good ks h x k.ok f) (feed_went ks h x.bus x.label x.info f.label)

  -- of a row of slots that has a bad word
  pub broken_where : (ss : List Slot) → All Fits (said parity ss) → (p : ℕ) → BrokenBy ks (places_of ss) (said parity ss) (run ks parity ss Nothing p)
  unfolding flat_map
  broken_where ss z p = run_broken ss z [] [] [] Nothing p (record { says = refl; lawful = nil; count = refl; ok = tt; first = tt })

-- "for an item cut at the end both places are its first word"
abbrev pub CutBy : List ℕ → ℕ → Got → Type 0
CutBy places n (got is) = Unit {0}
CutBy places n (stopped k place second) = (k ≡ 13) × (place ≡ get_or places n 0) × (second ≡ get_or places n 0)

pub cut_both : (h : Held) (places : List ℕ) (n at : ℕ) → First h places n at → CutBy places n (finish h at)
cut_both Nothing places n at f = tt
cut_both (Taggable x) places n at f = tt
cut_both (Half bus c high) places n at f = (refl, f, f)
cut_both (TagHigh x high) places n at f = (refl, f, f)
cut_both (TagLow x high low) places n at f = (refl, f, f)
cut_both (Answering bus r) places n at f = (refl, f, f)
