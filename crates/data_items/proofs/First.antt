-- What the first words of an item do, where nothing is held.
use Prim.Native.Nat.{ℕ, ◌+◌, ◌*◌, ◌-◌, ◌/◌, ◌%◌, ◌^◌, ◌≤◌, ◌<◌}
use native.Mathlib.Omega.{arith}
use mathlib.Core.Bool.{Bool, true, false}
use mathlib.Core.Path.{◌≡◌, refl, sym, ap, subst, ◌∙◌}
use mathlib.Core.List.{List, [], ◌∷◌, ◌++◌, flat_map}
use lib.ListN.{length, get_or}
use lib.Dec.{eqb}
use borrow.Author.Tests.{eq-eqb, lt-ltb}
use Rattle.format.specs.Bits.{bits_of}
use Rattle.format.specs.Word.{bus_of, label_of, info_of}
use Rattle.format.specs.Item.{item_bits}
use Rattle.format.specs.Plan.{kind_on}
use Rattle.format.specs.Lists.{list}
use Rattle.format.specs.Reader.{Fed, bad, fed, feed, starts}
use Rattle.format.specs.declared.Kind.{Kind}
use Rattle.format.specs.declared.Kind.TheVariants.{Unused, Mil1553, Arinc429}
use Rattle.format.specs.declared.Item.{Item}
use Rattle.format.specs.declared.Item.TheVariants.{Status}
use Rattle.format.specs.declared.Response.TheVariants.{After}
use Rattle.format.specs.declared.Base.{Base}
use Rattle.format.specs.declared.Base.TheVariants as base
use Rattle.format.specs.declared.Held.{Held}
use Rattle.format.specs.declared.Held.TheVariants.{Nothing, Taggable, Half, Answering}
use Rattle.format.specs.Laws.Tests.{clash}
use Rattle.format.specs.Laws.Lists.{get_or_list}
use Rattle.data_start.specs.declared.Step.{Step}
use Rattle.data_start.specs.Holding.{flat}
use Rattle.data_start.specs.Step.{begun}
use Rattle.data_start.proofs.Labels.{upper}
use Rattle.data_word.specs.Holding.{held_of}
use Rattle.data_word.specs.Step.{step_of}
use Rattle.data_word.specs.Meaning.{Means}
use Rattle.data_word.proofs.Flat.{nothing_is_held}
use Rattle.data_word.proofs.Meaning.{feed_means, nothing_is_sane}
use Rattle.data_word.proofs.Unawaited.{begun_of_nothing}
use Rattle.data_items.specs.Row.{top_of}
use Rattle.data_items.proofs.Words.{label_low, other_label, says_bus, says_label}
use Rattle.data_items.proofs.Items.{held_none}
use Rattle.data_items.proofs.Row.{Goes, fed_at, goes_first, goes_word}

-- ---- by the definition

-- a command of side B has label 11
abbrev pub command_of : ℕ → ℕ → ℕ → Base
command_of bus label info = base.Command bus (eqb label 11) info

-- the channel of a high syllable
abbrev pub channel : ℕ → ℕ
channel label = (label - 9) / 2

pub command_starts : (bus info label : ℕ) → 8 ≤ label → label < 16 → label % 4 ≡ 3 → starts Mil1553 bus label info ≡ fed [] (Taggable (command_of bus label info))
unfolding starts
command_starts bus info =
    upper (λ n. n % 4 ≡ 3 → starts Mil1553 bus n info ≡ fed [] (Taggable (command_of bus n info)))
    (λ e. absurd (omega arith)) (λ e. absurd (omega arith)) (λ e. absurd (omega arith)) (λ e. refl)
    (λ e. absurd (omega arith)) (λ e. absurd (omega arith)) (λ e. absurd (omega arith)) (λ e. refl)

pub syllable_starts : (bus info label : ℕ) → 8 ≤ label → label < 16 → label % 2 ≡ 1 → starts Arinc429 bus label info ≡ fed [] (Half bus (channel label) info)
unfolding starts
syllable_starts bus info =
    upper (λ n. n % 2 ≡ 1 → starts Arinc429 bus n info ≡ fed [] (Half bus (channel n) info))
    (λ e. absurd (omega arith)) (λ e. refl) (λ e. absurd (omega arith)) (λ e. refl)
    (λ e. absurd (omega arith)) (λ e. refl) (λ e. absurd (omega arith)) (λ e. refl)

response_starts : (bus info label : ℕ) → label ≡ 4 → info < 10000 → starts Mil1553 bus label info ≡ fed [] (Answering bus info)
unfolding starts
response_starts bus info label e h = rw (e, lt-ltb info 10000 h) refl

-- a status of either side follows its response
abbrev pub answer_of : ℕ → ℕ → ℕ → ℕ → Item
answer_of bus response label info = Status bus (eqb label 10) (After response) info

status_feeds : (ks : List Kind) (b r bus info label : ℕ) → bus ≡ b → 8 ≤ label → label < 16 → label % 4 ≡ 2
    → feed ks (Answering b r) bus label info ≡ fed (answer_of b r label info ∷ []) Nothing
unfolding feed
status_feeds ks b r bus info label d l u =
    upper (λ n. n % 4 ≡ 2 → feed ks (Answering b r) bus n info ≡ fed (answer_of b r n info ∷ []) Nothing)
    (λ e. absurd (omega arith)) (λ e. absurd (omega arith)) (λ e. rw (eq-eqb bus b d) refl) (λ e. absurd (omega arith))
    (λ e. absurd (omega arith)) (λ e. absurd (omega arith)) (λ e. rw (eq-eqb bus b d) refl) (λ e. absurd (omega arith))
    label l u

low_feeds : (ks : List Kind) (b c high bus label info : ℕ) → bus ≡ b → label ≡ 8 + 2 * c
    → feed ks (Half b c high) bus label info ≡ fed [] (Taggable (base.Arinc b c (high * 2 ^ 16 + info)))
unfolding feed
low_feeds ks b c high bus label info d e = rw (eq-eqb bus b d, eq-eqb label (8 + 2 * c) e) refl

-- ---- in a row

module _ (ks : List Kind) (parity : Bool) (row : List ℕ) where
  abbrev word : ℕ → ℕ
  word i = get_or row i 0

  abbrev bus : ℕ → ℕ
  bus i = bus_of parity (word i)

  first_feeds : (i : ℕ) (kind : Kind) → kind_on ks (bus i) ≡ kind → fed_at ks parity row Nothing i ≡ starts kind (bus i) (label_of (word i)) (info_of (word i))
  unfolding feed
  first_feeds i kind k = rw k refl

  pub goes_command : (i : ℕ) → i < length row → kind_on ks (bus i) ≡ Mil1553 → 8 ≤ label_of (word i) → label_of (word i) % 4 ≡ 3
      → Goes ks parity row i (i + 1) [] (Taggable (command_of (bus i) (label_of (word i)) (info_of (word i)))) i
  goes_command i l k a b =
      goes_first ks parity row [] _ l (other_label (word i) (λ z. absurd (omega (arith, z))))
      (first_feeds i Mil1553 k ∙ command_starts (bus i) (info_of (word i)) (label_of (word i)) a (label_low (word i)) b) (λ old here. refl)

  -- the high syllable, and its low one: on its bus, with the label before its own
  pub goes_arinc : (i : ℕ) → i + 1 < length row → kind_on ks (bus i) ≡ Arinc429 → 8 ≤ label_of (word i) → label_of (word i) % 2 ≡ 1
      → top_of parity (word (i + 1)) + 1 ≡ top_of parity (word i)
      → Goes ks parity row i (i + 2) [] (Taggable (base.Arinc (bus i) (channel (label_of (word i))) (info_of (word i) * 2 ^ 16 + info_of (word (i + 1))))) i
  goes_arinc i l k a b t =
      let c : ℕ = channel (label_of (word i)) in
      let o : 8 + 2 * c + 1 ≡ label_of (word i) = omega (arith, label_low (word i)) in
      let u : top_of parity (word (i + 1)) ≡ bus i * 16 + (8 + 2 * c) = omega arith in
      let z : i + 1 + 1 ≡ i + 2 = omega arith in
      let low : 8 + 2 * c < 16 = omega (arith, label_low (word i)) in
      let e : label_of (word (i + 1)) ≡ 8 + 2 * c = says_label parity (word (i + 1)) (bus i) (8 + 2 * c) u low in
      let high : Goes ks parity row i (i + 1) [] (Half (bus i) c (info_of (word i))) i =
      goes_first ks parity row [] _ (omega arith) (other_label (word i) (λ z. absurd (omega (arith, z))))
      (first_feeds i Arinc429 k ∙ syllable_starts (bus i) (info_of (word i)) (label_of (word i)) a (label_low (word i)) b) (λ old here. refl) in
      goes_word ks parity row [] _ (i + 2) i high z l (other_label (word (i + 1)) (λ z. absurd (omega (arith, z, e))))
      (low_feeds ks (bus i) c (info_of (word i)) (bus (i + 1)) (label_of (word (i + 1))) (info_of (word (i + 1))) (says_bus parity (word (i + 1)) (bus i) (8 + 2 * c) u low)
      e)
      (λ n. refl)

  -- a response, and a status on its bus
  pub goes_status : (i : ℕ) → i + 1 < length row → kind_on ks (bus i) ≡ Mil1553 → label_of (word i) ≡ 4 → info_of (word i) < 10000
      → bus (i + 1) ≡ bus i → 8 ≤ label_of (word (i + 1)) → label_of (word (i + 1)) % 4 ≡ 2
      → Goes ks parity row i (i + 2) (answer_of (bus i) (info_of (word i)) (label_of (word (i + 1))) (info_of (word (i + 1))) ∷ []) Nothing (i + 1)
  goes_status i l k a b d e m =
      let z : i + 1 + 1 ≡ i + 2 = omega arith in
      let response : Goes ks parity row i (i + 1) [] (Answering (bus i) (info_of (word i))) i =
      goes_first ks parity row [] _ (omega arith) (other_label (word i) (λ z. absurd (omega (arith, z))))
      (first_feeds i Mil1553 k ∙ response_starts (bus i) (info_of (word i)) (label_of (word i)) a b) (λ old here. refl) in
      goes_word ks parity row _ Nothing (i + 2) (i + 1) response z l (other_label (word (i + 1)) (λ z. absurd (omega (arith, z))))
      (status_feeds ks (bus i) (info_of (word i)) (bus (i + 1)) (info_of (word (i + 1))) (label_of (word (i + 1))) d e (label_low (word (i + 1))) m) (λ n. refl)

-- ---- an item of one word

-- a word that starts and ends an item, whose bits are the second string of a step
pub record Alone (kind : Kind) (bus label info : ℕ) (r : Step) : Type 0 where
  pub items : List Item
  pub is : starts kind bus label info ≡ fed items Nothing
  pub bits : bits_of r.second_width r.second ≡ flat_map item_bits items
  pub fits : r.second < 2 ^ r.second_width
  pub other : label ≡ 1 → ⊥

no_opener : (k : Kind) (bus info : ℕ) (items : List Item) (h : Held) → starts k bus 1 info ≡ fed items h → ⊥
unfolding starts
no_opener k bus info items h e = clash (sym (ap is_bad e) ∙ none k)
  where
    is_bad : Fed → Bool
    is_bad bad = true
    is_bad (fed is x) = false

    none : (k : Kind) → is_bad (starts k bus 1 info) ≡ true
    none Unused = refl
    none Mil1553 = refl
    none Arinc429 = refl

pub alone_of : (kind : Kind) (bus label info : ℕ) (r : Step) → r ≡ begun (flat Nothing) 0 0 (starts kind bus label info) → r.bad ≡ false → r.held.awaits ≡ 0
    → r.first_width ≡ 0 → bus < 16 → label < 16 → info < 65536 → Alone kind bus label info r
unfolding feed bits_of
alone_of kind bus label info r e z a w b l i =
    let ks : List Kind = list (λ n. kind) 0 16 in
    let k : kind_on ks bus ≡ kind = get_or_list (λ (n : ℕ). kind) 0 16 bus Unused b in
    let f : feed ks (held_of (flat Nothing)) bus label info ≡ starts kind bus label info = rw (nothing_is_held, k) refl in
    let s : r ≡ step_of (held_of (flat Nothing)) (starts kind bus label info) = e ∙ begun_of_nothing (starts kind bus label info) ∙ rw nothing_is_held refl in
    go (starts kind bus label info) refl
    (subst (Means (starts kind bus label info)) (sym s) (rw f at (feed_means ks (flat Nothing) bus label info nothing_is_sane b l i)))
  where
    go : (f : Fed) → starts kind bus label info ≡ f → Means f r → Alone kind bus label info r
    go bad d m = clash (sym z ∙ m)
    go (fed is h) d m = record {
      items = is;
      is = d ∙ ap (fed is) (sym m.holds ∙ held_none r.held a);
      bits = ap (λ (n : ℕ). bits_of n r.first ++ bits_of r.second_width r.second) (sym w) ∙ m.bits;
      fits = m.second_fits;
      other = λ y. no_opener kind bus info is h (ap (λ (n : ℕ). starts kind bus n info) (sym y) ∙ d);
    }

module _ (ks : List Kind) (parity : Bool) (row : List ℕ) where
  pub goes_alone : (i : ℕ) (kind : Kind) {r : Step} → i < length row → kind_on ks (bus_of parity (get_or row i 0)) ≡ kind
      → (a : Alone kind (bus_of parity (get_or row i 0)) (label_of (get_or row i 0)) (info_of (get_or row i 0)) r) → Goes ks parity row i (i + 1) a.items Nothing i
  goes_alone i kind l k a =
      goes_first ks parity row a.items Nothing l (other_label (get_or row i 0) a.other) (first_feeds ks parity row i kind k ∙ a.is) (λ old here. refl)
