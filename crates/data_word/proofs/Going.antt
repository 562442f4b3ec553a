-- The word that is awaited: what it does to what is held, in the numbers of the flat form.
use Prim.Native.Nat.{ℕ, ◌+◌, ◌*◌, ◌%◌, ◌^◌, ◌<◌, ◌≤◌}
use native.Mathlib.Omega.{arith}
use mathlib.Core.Bool.{cond}
use mathlib.Core.Path.{◌≡◌, refl, sym, ◌∙◌}
use mathlib.Core.List.{List, flat_map}
use lib.Dec.{ltb}
use borrow.Author.Tests.{eq-eqb, lt-ltb, le-ltb}
use Rattle.format.specs.Item.{item_fields}
use Rattle.format.specs.Reader.{feed, base_bus}
use Rattle.format.specs.declared.Kind.{Kind}
use Rattle.format.specs.declared.Base.TheVariants as base
use Rattle.format.specs.declared.Held.{Held}
use Rattle.format.specs.declared.Held.TheVariants.{Nothing, Taggable, Half, TagHigh, TagLow, Answering}
use Rattle.data_start.specs.declared.Holding.{Holding}
use Rattle.data_start.specs.Holding.{flat, number_of, untagged, half_fields}
use Rattle.data_word.specs.Holding.{held_of, Fits, Sane}
use Rattle.data_start.specs.Step.{refusal, holding, ended}
use Rattle.data_word.specs.Step.{step_of, base_width}
use Rattle.format.specs.Laws.Tests.{bit_low}
use Rattle.data_word.proofs.Flat.{sane_ind, ends_both}

-- bus x 16 + label says both
same_label : (a b x y : ℕ) → x < 16 → y < 16 → a * 16 + x ≡ b * 16 + y → x ≡ y
same_label a b x y p q e =
    let u : (a * 16 + x) % 16 ≡ x = omega arith in
    let v : (b * 16 + y) % 16 ≡ y = omega arith in
    sym u ∙ rw e v

module _ (ks : List Kind) (bus label info : ℕ) (bb : bus < 16) (l : label < 16) where
  abbrev pub HalfGoesOn : Holding → Held → Type 0
  HalfGoesOn g h = 8 ≤ label → g.awaits ≡ bus * 16 + label
      → holding 0 0 (record { base = g.base * 65536 + info; time = 0; awaits = bus * 16 + 7 }) ≡ step_of h (feed ks h bus label info)

  half : (h : Held) → Fits h → HalfGoesOn (flat h) h
  unfolding feed item_fields flat_map
  half Nothing f o e = absurd (omega arith)
  half (Taggable x) f o e = absurd (omega arith)
  half (Half b c high) f o e =
      let d : bus ≡ b = omega arith in
      let m : label ≡ 8 + 2 * c = omega arith in
      let n : number_of 0 (half_fields b c high) * 65536 + info ≡ number_of 0 (untagged (base.Arinc b c (high * 2 ^ 16 + info))) = omega arith in
      rw (eq-eqb bus b d, eq-eqb label (8 + 2 * c) m, d, n)
  half (TagHigh x high) f o e = absurd (omega arith)
  half (TagLow x high low) f o e = absurd (omega arith)
  half (Answering b r) f o e = absurd (omega arith)

  pub half_goes_on : (g : Holding) → Sane g → HalfGoesOn g (held_of g)
  half_goes_on = sane_ind HalfGoesOn half

  abbrev pub TagBegins : Holding → Held → Type 0
  TagBegins g h = label ≡ 7 → g.awaits ≡ bus * 16 + label
      → holding 0 0 (record { base = g.base; time = info; awaits = bus * 16 + 6 }) ≡ step_of h (feed ks h bus label info)

  begins : (h : Held) → Fits h → TagBegins (flat h) h
  unfolding feed flat_map
  begins Nothing f o e = absurd (omega arith)
  begins (Taggable x) f o e =
      let d : bus ≡ base_bus x = omega arith in
      rw (o, eq-eqb bus (base_bus x) d, d)
  begins (Half b c high) f o e = absurd (omega arith)
  begins (TagHigh x high) f o e = absurd (omega arith)
  begins (TagLow x high low) f o e = absurd (omega arith)
  begins (Answering b r) f o e = absurd (omega arith)

  pub tag_begins : (g : Holding) → Sane g → TagBegins g (held_of g)
  tag_begins = sane_ind TagBegins begins

  abbrev pub TagGoesOn : Holding → Held → Type 0
  TagGoesOn g h = label ≡ 6 → g.awaits ≡ bus * 16 + label
      → holding 0 0 (record { base = g.base; time = g.time * 65536 + info; awaits = bus * 16 + 5 }) ≡ step_of h (feed ks h bus label info)

  goes : (h : Held) → Fits h → TagGoesOn (flat h) h
  unfolding feed flat_map
  goes Nothing f o e = absurd (omega arith)
  goes (Taggable x) f o e = absurd (omega arith)
  goes (Half b c high) f o e = absurd (omega (arith, same_label b bus (8 + 2 * c) label (omega arith) l e))
  goes (TagHigh x high) f o e =
      let d : bus ≡ base_bus x = omega arith in
      rw (o, eq-eqb bus (base_bus x) d, d)
  goes (TagLow x high low) f o e = absurd (omega arith)
  goes (Answering b r) f o e = absurd (omega arith)

  pub tag_goes_on : (g : Holding) → Sane g → TagGoesOn g (held_of g)
  tag_goes_on = sane_ind TagGoesOn goes

  abbrev pub TagEnds : Holding → Held → Type 0
  TagEnds g h = label < 8 → (label ≡ 7 → ⊥) → (label ≡ 6 → ⊥) → info < 10000 → (g.awaits ≡ 0 → ⊥) → g.awaits ≡ bus * 16 + label
      → ended (cond (ltb g.base 4294967296) (g.base + 65536) (g.base + 4294967296)) (base_width g.base) (g.time * 16384 + info) 46 ≡ step_of h (feed ks h bus label info)

  tagged : (h : Held) → Fits h → TagEnds (flat h) h
  unfolding feed item_fields flat_map
  tagged Nothing f u s t i z e = absurd (z refl)
  tagged (Taggable x) f u s t i z e = absurd (s (omega arith))
  tagged (Half b c high) f u s t i z e = absurd (omega arith)
  tagged (TagHigh x high) f u s t i z e = absurd (t (omega arith))
  tagged (TagLow (base.Command b side word) high low) f u s t i z e =
      let d : bus ≡ b = omega arith in
      let m : label ≡ 5 = omega arith in
      let k : number_of 0 (untagged (base.Command b side word)) < 4294967296 = omega (arith, bit_low side) in
      rw (lt-ltb _ _ k, m, eq-eqb bus b d, lt-ltb info 10000 i) (ends_both 26 46 (omega arith) (omega arith))
  tagged (TagLow (base.Arinc b c word) high low) f u s t i z e =
      let d : bus ≡ b = omega arith in
      let m : label ≡ 5 = omega arith in
      let k : 4294967296 ≤ number_of 0 (untagged (base.Arinc b c word)) = omega arith in
      rw (le-ltb _ _ k, m, eq-eqb bus b d, lt-ltb info 10000 i) (ends_both 43 46 (omega arith) (omega arith))
  tagged (Answering b r) f u s t i z e = absurd (omega arith)

  pub tag_ends : (g : Holding) → Sane g → TagEnds g (held_of g)
  tag_ends = sane_ind TagEnds tagged

  abbrev pub LateMicro : Holding → Held → Type 0
  LateMicro g h = label < 8 → (label ≡ 7 → ⊥) → (label ≡ 6 → ⊥) → 10000 ≤ info → (g.awaits ≡ 0 → ⊥) → g.awaits ≡ bus * 16 + label → refusal g ≡ step_of h (feed ks h bus label info)

  late : (h : Held) → Fits h → LateMicro (flat h) h
  unfolding feed
  late Nothing f u s t i z e = absurd (z refl)
  late (Taggable x) f u s t i z e = absurd (s (omega arith))
  late (Half b c high) f u s t i z e = absurd (omega arith)
  late (TagHigh x high) f u s t i z e = absurd (t (omega arith))
  late (TagLow x high low) f u s t i z e =
      let d : bus ≡ base_bus x = omega arith in
      let m : label ≡ 5 = omega arith in
      rw (m, eq-eqb bus (base_bus x) d, le-ltb info 10000 i)
  late (Answering b r) f u s t i z e = absurd (omega arith)

  pub late_micro_is_bad : (g : Holding) → Sane g → LateMicro g (held_of g)
  late_micro_is_bad = sane_ind LateMicro late
