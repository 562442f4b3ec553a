-- What a word finishes and holds fits: each field its width, and each of the two strings 46 bits.
use Prim.Native.Nat.{ℕ, zero, suc, ◌+◌, ◌*◌, ◌-◌, ◌/◌, ◌%◌, ◌^◌, ◌≤◌, ◌<◌}
use native.Mathlib.Omega.{arith}
use native.Mathlib.Decide.{dec_lt}
use mathlib.Core.Bool.{Bool, true, false, cond, ◌&&◌, ◌||◌}
use mathlib.Core.Path.{◌≡◌, refl, sym, ap, ◌∙◌}
use mathlib.Core.List.{List, [], ◌∷◌, ◌++◌, flat_map}
use lib.ListN.{take, drop}
use lib.Dec.{eqb, ltb, leb}
use borrow.Author.Tests.{ltb-true, eqb-true}
use Rattle.format.specs.Bits.{bit}
use Rattle.format.specs.Item.{item_fields, channel_of, low_label}
use Rattle.format.specs.Plan.{kind_on}
use Rattle.format.specs.Reader.{Fed, bad, fed, starts, feed, after, is_pair, is_high, base_bus, with_tag}
use Rattle.format.specs.declared.Kind.{Kind}
use Rattle.format.specs.declared.Kind.TheVariants.{Unused, Mil1553, Arinc429}
use Rattle.format.specs.declared.Tag.TheVariants.{Untagged, At}
use Rattle.format.specs.declared.Base.{Base}
use Rattle.format.specs.declared.Base.TheVariants as base
use Rattle.format.specs.declared.Held.{Held}
use Rattle.format.specs.declared.Held.TheVariants.{Nothing, Taggable, Half, TagHigh, TagLow, Answering}
use Rattle.data_start.specs.Holding.{width_of}
use Rattle.data_word.specs.Holding.{Fits, BaseFits}
use Rattle.data_word.specs.Step.{cut}
use Rattle.format.specs.Laws.Tests.{and_true, bit_low}
use Rattle.data_start.proofs.Labels.{lower, upper}
use Rattle.format.specs.Laws.Log.Fields.{Narrow}

abbrev pub Short : Held → Fed → Type 0
Short h bad = Unit {0}
Short h (fed is h') =
    Fits h' × Narrow (flat_map item_fields is) × (width_of (take (cut h) (flat_map item_fields is)) ≤ 46) × (width_of (drop (cut h) (flat_map item_fields is)) ≤ 46)

if_short : (h : Held) (t : Bool) (f : Fed) → (t ≡ true → Short h f) → Short h (cond t f bad)
if_short h true f g = g refl
if_short h false f g = tt

module _ (bus info : ℕ) (bb : bus < 16) (i : info < 65536) where
  abbrev Starts : Kind → ℕ → Type 0
  Starts k n = Short Nothing (starts k bus n info)

  five : (a b : ℕ) → a < 16 → b < 2 → Narrow ((4, a) ∷ (4, bus) ∷ (1, b) ∷ (1, 0) ∷ (16, info) ∷ [])
  five a b p q = (omega arith, (omega arith, (omega arith, (omega arith, (omega arith, tt)))))

  four : (a b : ℕ) → a < 16 → b < 2 → Narrow ((4, a) ∷ (4, bus) ∷ (1, b) ∷ (16, info) ∷ [])
  four a b p q = (omega arith, (omega arith, (omega arith, (omega arith, tt))))

  high_1553_short : (label : ℕ) → 8 ≤ label → label < 16 → Starts Mil1553 label
  unfolding starts item_fields flat_map
  high_1553_short =
      upper (Starts Mil1553)
      (tt, four 4 1 (omega arith) (omega arith), omega arith, omega arith)
      (tt, four 3 1 (omega arith) (omega arith), omega arith, omega arith)
      (tt, five 2 1 (omega arith) (omega arith), omega arith, omega arith)
      ((bb, i), tt, omega arith, omega arith)
      (tt, four 4 0 (omega arith) (omega arith), omega arith, omega arith)
      (tt, four 3 0 (omega arith) (omega arith), omega arith, omega arith)
      (tt, five 2 0 (omega arith) (omega arith), omega arith, omega arith)
      ((bb, i), tt, omega arith, omega arith)

  low_1553_short : (label : ℕ) → label < 8 → Starts Mil1553 label
  unfolding starts item_fields flat_map
  low_1553_short =
      lower (Starts Mil1553)
      (tt, (omega arith, (omega arith, (omega arith, tt))), omega arith, omega arith)
      tt
      (tt, four 7 0 (omega arith) (omega arith), omega arith, omega arith)
      (tt, four 7 1 (omega arith) (omega arith), omega arith, omega arith)
      (if_short Nothing (ltb info 10000) _ (λ e. ((bb, ltb-true _ _ e), tt, omega arith, omega arith)))
      tt
      tt
      tt

  high_429_short : (label : ℕ) → 8 ≤ label → label < 16 → Starts Arinc429 label
  unfolding starts item_fields flat_map
  high_429_short =
      upper (Starts Arinc429)
      tt
      ((bb, omega arith, i), tt, omega arith, omega arith)
      tt
      ((bb, omega arith, i), tt, omega arith, omega arith)
      tt
      ((bb, omega arith, i), tt, omega arith, omega arith)
      tt
      ((bb, omega arith, i), tt, omega arith, omega arith)

  low_429_short : (label : ℕ) → label < 8 → Starts Arinc429 label
  unfolding starts item_fields flat_map
  low_429_short =
      lower (Starts Arinc429)
      (tt, (omega arith, (omega arith, (omega arith, tt))), omega arith, omega arith)
      tt
      (tt, four 7 0 (omega arith) (omega arith), omega arith, omega arith)
      (tt, four 7 1 (omega arith) (omega arith), omega arith, omega arith)
      (if_short Nothing (is_pair (info / 2 ^ 12) (info / 2 ^ 8 % 16)) _
      (λ e. (tt, (omega arith, (omega arith, (ltb-true _ _ (and_true _ _ e).0, (omega arith, tt)))), omega arith, omega arith)))
      tt
      tt
      tt

  starts_short : (k : Kind) (label : ℕ) → label < 16 → Starts k label
  unfolding starts
  starts_short Unused label l = tt
  starts_short Mil1553 label l = go (dec_lt label 8)
    where
      go : Dec (label < 8) → Starts Mil1553 label
      go (yes h) = low_1553_short label h
      go (no h) = high_1553_short label (omega arith) l
  starts_short Arinc429 label l = go (dec_lt label 8)
    where
      go : Dec (label < 8) → Starts Arinc429 label
      go (yes h) = low_429_short label h
      go (no h) = high_429_short label (omega arith) l

-- behind an untagged command or ARINC word
after_short : (x : Base) → BaseFits x → (f : Fed) → Short Nothing f → Short (Taggable x) (after (with_tag x Untagged) f)
unfolding item_fields flat_map
after_short x p bad s = tt
after_short (base.Command b side word) p (fed is h) s =
    (s.0, (omega arith, (omega arith, (bit_low side, (omega arith, (p.1, s.1))))), omega arith, s.3)
after_short (base.Arinc b c word) p (fed is h) s =
    (s.0, (omega arith, (omega arith, (omega arith, (omega arith, (p.2, s.1))))), omega arith, s.3)

pub untagged_short : (x : Base) → BaseFits x → Short (Taggable x) (fed (with_tag x Untagged ∷ []) Nothing)
unfolding flat_map
untagged_short x p = after_short x p (fed [] Nothing) (tt, tt, omega arith, omega arith)

tag_short : (x : Base) → BaseFits x → (g : Held) (high low micro : ℕ) → cut g ≡ 5 → high < 2 ^ 16 → low < 2 ^ 16 → micro < 10000
    → Short g (fed (with_tag x (At (record { high = high; low = low; micro = micro })) ∷ []) Nothing)
unfolding item_fields flat_map
tag_short (base.Command b side word) p g high low micro e u v w =
    rw e (tt, (omega arith, (omega arith, (bit_low side, (omega arith, (p.1, (u, (v, (omega arith, tt)))))))), omega arith, omega arith)
tag_short (base.Arinc b c word) p g high low micro e u v w =
    rw e (tt, (omega arith, (omega arith, (omega arith, (omega arith, (p.2, (u, (v, (omega arith, tt)))))))), omega arith, omega arith)

pub feed_short : (ks : List Kind) (h : Held) (bus label info : ℕ) → Fits h → bus < 16 → label < 16 → info < 65536 → Short h (feed ks h bus label info)
unfolding feed item_fields flat_map
feed_short ks Nothing bus label info f b l i = starts_short bus info b i (kind_on ks bus) label l
feed_short ks (Taggable x) bus label info f b l i = go (eqb label 7 && eqb bus (base_bus x))
  where
    go : (t : Bool) → Short (Taggable x) (cond t (fed [] (TagHigh x info)) (after (with_tag x Untagged) (starts (kind_on ks bus) bus label info)))
    go true = ((f, i), tt, omega arith, omega arith)
    go false = after_short x f (starts (kind_on ks bus) bus label info) (starts_short bus info b i (kind_on ks bus) label l)
feed_short ks (Half a c high) bus label info f b l i =
    if_short (Half a c high) (eqb bus a && eqb label (low_label c)) _ (λ e. ((f.0, f.1, omega arith), tt, omega arith, omega arith))
feed_short ks (TagHigh x high) bus label info f b l i =
    if_short (TagHigh x high) (eqb bus (base_bus x) && eqb label 6) _ (λ e. ((f.0, f.1, i), tt, omega arith, omega arith))
feed_short ks (TagLow x high low) bus label info f b l i =
    if_short (TagLow x high low) (eqb bus (base_bus x) && eqb label 5 && ltb info 10000) _
    (λ e. tag_short x f.0 (TagLow x high low) high low info refl f.1 f.2 (ltb-true _ _ (last e)))
  where
    last : (eqb bus (base_bus x) && eqb label 5 && ltb info 10000) ≡ true → ltb info 10000 ≡ true
    last e = (and_true (eqb bus (base_bus x) && eqb label 5) (ltb info 10000) e).1
feed_short ks (Answering a r) bus label info f b l i =
    if_short (Answering a r) (eqb bus a && (eqb label 14 || eqb label 10)) _
    (λ e. (tt, (omega arith, (omega arith, (bit_low (eqb label 10), (omega arith, (i, (omega arith, tt)))))), omega arith, omega arith))
