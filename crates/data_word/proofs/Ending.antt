-- The place of what is held, that of the item that a bad word breaks, and the end of the capture.
use Prim.Native.Nat.{ℕ, ◌+◌, ◌*◌, ◌%◌, ◌<◌, ◌≤◌}
use native.Mathlib.Omega.{arith}
use mathlib.Core.Path.{◌≡◌, refl}
use mathlib.Core.List.{flat_map}
use borrow.Author.Tests.{lt-ltb, le-ltb}
use Rattle.format.specs.Item.{item_fields}
use Rattle.format.specs.Reader.{since, begun}
use Rattle.format.specs.Read.{finish}
use Rattle.format.specs.declared.Base.TheVariants as base
use Rattle.format.specs.declared.Held.{Held}
use Rattle.format.specs.declared.Held.TheVariants.{Nothing, Taggable, Half, TagHigh, TagLow, Answering}
use Rattle.data_start.specs.declared.Holding.{Holding}
use Rattle.data_start.specs.Holding.{flat, number_of, untagged}
use Rattle.data_word.specs.Holding.{held_of, Fits, Sane}
use Rattle.data_start.specs.Step.{refusal, ended}
use Rattle.data_word.specs.Step.{base_width, closing}
use Rattle.format.specs.Laws.Tests.{bit_low}
use Rattle.data_word.proofs.Flat.{sane_ind}

module _ (old here : ℕ) where
  abbrev pub AtTag : Holding → Held → Type 0
  AtTag g h = 5 ≤ g.awaits % 16 → g.awaits % 16 < 7 → old ≡ since h old here

  at_tag : (h : Held) → Fits h → AtTag (flat h) h
  at_tag Nothing f l u = absurd (omega arith)
  at_tag (Taggable x) f l u = absurd (omega arith)
  at_tag (Half b c high) f l u = let m : (b * 16 + (8 + 2 * c)) % 16 ≡ 8 + 2 * c = omega arith in absurd (omega arith)
  at_tag (TagHigh x high) f l u = refl
  at_tag (TagLow x high low) f l u = refl
  at_tag (Answering b r) f l u = absurd (omega arith)

  pub since_before_its_tag : (g : Holding) → Sane g → AtTag g (held_of g)
  since_before_its_tag = sane_ind AtTag at_tag

  abbrev pub AtLow : Holding → Held → Type 0
  AtLow g h = g.awaits % 16 ≡ 7 → 4294967296 ≤ g.base → old ≡ since h old here

  at_low : (h : Held) → Fits h → AtLow (flat h) h
  unfolding item_fields
  at_low Nothing f e u = absurd (omega arith)
  at_low (Taggable (base.Command b side word)) f e u = absurd (omega (arith, bit_low side))
  at_low (Taggable (base.Arinc b c word)) f e u = refl
  at_low (Half b c high) f e u = absurd (omega arith)
  at_low (TagHigh x high) f e u = absurd (omega arith)
  at_low (TagLow x high low) f e u = absurd (omega arith)
  at_low (Answering b r) f e u = absurd (omega arith)

  pub since_its_high_syllable : (g : Holding) → Sane g → AtLow g (held_of g)
  since_its_high_syllable = sane_ind AtLow at_low

  abbrev pub AtCommand : Holding → Held → Type 0
  AtCommand g h = g.awaits % 16 ≡ 7 → g.base < 4294967296 → here ≡ since h old here

  at_command : (h : Held) → Fits h → AtCommand (flat h) h
  unfolding item_fields
  at_command Nothing f e u = refl
  at_command (Taggable (base.Command b side word)) f e u = refl
  at_command (Taggable (base.Arinc b c word)) f e u = absurd (omega arith)
  at_command (Half b c high) f e u = refl
  at_command (TagHigh x high) f e u = absurd (omega arith)
  at_command (TagLow x high low) f e u = absurd (omega arith)
  at_command (Answering b r) f e u = refl

  pub since_the_command : (g : Holding) → Sane g → AtCommand g (held_of g)
  since_the_command = sane_ind AtCommand at_command

  abbrev pub AtFirst : Holding → Held → Type 0
  AtFirst g h = (g.awaits % 16 ≡ 5 → ⊥) → (g.awaits % 16 ≡ 6 → ⊥) → (g.awaits % 16 ≡ 7 → ⊥) → here ≡ since h old here

  at_first : (h : Held) → Fits h → AtFirst (flat h) h
  at_first Nothing f x y z = refl
  at_first (Taggable b) f x y z = absurd (z (omega arith))
  at_first (Half b c high) f x y z = refl
  at_first (TagHigh b high) f x y z = absurd (y (omega arith))
  at_first (TagLow b high low) f x y z = absurd (x (omega arith))
  at_first (Answering b r) f x y z = refl

  pub since_this_word : (g : Holding) → Sane g → AtFirst g (held_of g)
  since_this_word = sane_ind AtFirst at_first

-- the item that a bad word breaks
module _ (first here : ℕ) where
  abbrev pub BreaksNothing : Holding → Held → Type 0
  BreaksNothing g h = g.awaits ≡ 0 → here ≡ begun h first here

  breaks_nothing : (h : Held) → Fits h → BreaksNothing (flat h) h
  breaks_nothing Nothing f e = refl
  breaks_nothing (Taggable x) f e = absurd (omega arith)
  breaks_nothing (Half b c high) f e = absurd (omega arith)
  breaks_nothing (TagHigh x high) f e = absurd (omega arith)
  breaks_nothing (TagLow x high low) f e = absurd (omega arith)
  breaks_nothing (Answering b r) f e = absurd (omega arith)

  pub nothing_is_broken : (g : Holding) → Sane g → BreaksNothing g (held_of g)
  nothing_is_broken = sane_ind BreaksNothing breaks_nothing

  abbrev pub BreaksFinished : Holding → Held → Type 0
  BreaksFinished g h = g.awaits % 16 ≡ 7 → here ≡ begun h first here

  breaks_finished : (h : Held) → Fits h → BreaksFinished (flat h) h
  breaks_finished Nothing f e = refl
  breaks_finished (Taggable x) f e = refl
  breaks_finished (Half b c high) f e = absurd (omega arith)
  breaks_finished (TagHigh x high) f e = absurd (omega arith)
  breaks_finished (TagLow x high low) f e = absurd (omega arith)
  breaks_finished (Answering b r) f e = absurd (omega arith)

  pub finished_is_whole : (g : Holding) → Sane g → BreaksFinished g (held_of g)
  finished_is_whole = sane_ind BreaksFinished breaks_finished

  abbrev pub BreaksItem : Holding → Held → Type 0
  BreaksItem g h = (g.awaits ≡ 0 → ⊥) → (g.awaits % 16 ≡ 7 → ⊥) → first ≡ begun h first here

  breaks_item : (h : Held) → Fits h → BreaksItem (flat h) h
  breaks_item Nothing f z s = absurd (z refl)
  breaks_item (Taggable x) f z s = absurd (s (omega arith))
  breaks_item (Half b c high) f z s = refl
  breaks_item (TagHigh x high) f z s = refl
  breaks_item (TagLow x high low) f z s = refl
  breaks_item (Answering b r) f z s = refl

  pub unfinished_is_broken : (g : Holding) → Sane g → BreaksItem g (held_of g)
  unfinished_is_broken = sane_ind BreaksItem breaks_item

-- the end of the capture
module _ (place : ℕ) where
  abbrev pub EndsEmpty : Holding → Held → Type 0
  EndsEmpty g h = g.awaits ≡ 0 → ended 0 0 0 0 ≡ closing h (finish h place)

  ends_empty : (h : Held) → Fits h → EndsEmpty (flat h) h
  unfolding flat_map
  ends_empty Nothing f e = refl
  ends_empty (Taggable x) f e = absurd (omega arith)
  ends_empty (Half b c high) f e = absurd (omega arith)
  ends_empty (TagHigh x high) f e = absurd (omega arith)
  ends_empty (TagLow x high low) f e = absurd (omega arith)
  ends_empty (Answering b r) f e = absurd (omega arith)

  pub nothing_is_left : (g : Holding) → Sane g → EndsEmpty g (held_of g)
  nothing_is_left = sane_ind EndsEmpty ends_empty

  abbrev pub EndsUntagged : Holding → Held → Type 0
  EndsUntagged g h = g.awaits % 16 ≡ 7 → ended g.base (base_width g.base) 0 0 ≡ closing h (finish h place)

  ends_untagged : (h : Held) → Fits h → EndsUntagged (flat h) h
  unfolding item_fields flat_map
  ends_untagged Nothing f e = absurd (omega arith)
  ends_untagged (Taggable (base.Command b side word)) f e =
      let k : number_of 0 (untagged (base.Command b side word)) < 4294967296 = omega (arith, bit_low side) in rw (lt-ltb _ _ k)
  ends_untagged (Taggable (base.Arinc b c word)) f e =
      let k : 4294967296 ≤ number_of 0 (untagged (base.Arinc b c word)) = omega arith in rw (le-ltb _ _ k)
  ends_untagged (Half b c high) f e = absurd (omega arith)
  ends_untagged (TagHigh x high) f e = absurd (omega arith)
  ends_untagged (TagLow x high low) f e = absurd (omega arith)
  ends_untagged (Answering b r) f e = absurd (omega arith)

  pub untagged_is_finished : (g : Holding) → Sane g → EndsUntagged g (held_of g)
  untagged_is_finished = sane_ind EndsUntagged ends_untagged

  abbrev pub EndsCut : Holding → Held → Type 0
  EndsCut g h = (g.awaits ≡ 0 → ⊥) → (g.awaits % 16 ≡ 7 → ⊥) → refusal g ≡ closing h (finish h place)

  ends_cut : (h : Held) → Fits h → EndsCut (flat h) h
  ends_cut Nothing f z s = absurd (z refl)
  ends_cut (Taggable x) f z s = absurd (s (omega arith))
  ends_cut (Half b c high) f z s = refl
  ends_cut (TagHigh x high) f z s = refl
  ends_cut (TagLow x high low) f z s = refl
  ends_cut (Answering b r) f z s = refl

  pub unfinished_is_cut : (g : Holding) → Sane g → EndsCut g (held_of g)
  unfinished_is_cut = sane_ind EndsCut ends_cut
