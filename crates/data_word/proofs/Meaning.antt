-- What a caller of `feed` cites: the step that the contract names brings the items that the definition finishes, as bits.
use Prim.Native.Nat.{ℕ, ◌^◌, ◌<◌, ◌≤◌}
use native.Mathlib.Omega.{arith}
use mathlib.Core.Bool.{true, false}
use mathlib.Core.Path.{◌≡◌, refl, sym, ap₂, ◌∙◌}
use mathlib.Core.List.{List, [], ◌∷◌, ◌++◌, flat_map}
use lib.ListN.{take, drop}
use Rattle.format.specs.Bits.{bits_of}
use Rattle.format.specs.Item.{Field, item_fields, item_bits}
use Rattle.format.specs.Reader.{Fed, bad, fed, feed}
use Rattle.format.specs.declared.Kind.{Kind}
use Rattle.format.specs.declared.Item.{Item}
use Rattle.format.specs.declared.Held.{Held}
use Rattle.format.specs.declared.Held.TheVariants.{Nothing, Taggable, Half, TagHigh, TagLow, Answering}
use Rattle.format.specs.Read.{Got, got, stopped, finish}
use Rattle.format.specs.Reader.{with_tag}
use Rattle.format.specs.declared.Tag.TheVariants.{Untagged}
use Rattle.data_start.specs.declared.Holding.{Holding}
use Rattle.data_start.specs.Holding.{flat, number_of, width_of}
use Rattle.data_word.specs.Holding.{held_of, Sane, Fits}
use Rattle.data_word.specs.Step.{cut, step_of, closing}
use Rattle.data_word.specs.Meaning.{Brings, Means, Closes}
use Rattle.data_start.specs.declared.Step.{Step}
use Rattle.format.specs.Laws.Log.Fields.{Narrow}
use Rattle.format.specs.Laws.Tests.{clash}
use Rattle.data_word.proofs.Numbers.{narrow_take, narrow_drop, bits_of_fields, number_of_fields_fits, field_bits_cut, bits_of_items}
use Rattle.data_word.proofs.Flat.{held_of_flat, flat_is_sane}
use Rattle.data_word.proofs.Short.{Short, feed_short, untagged_short}

step_means : (h : Held) (f : Fed) → Short h f → Means f (step_of h f)
step_means h bad s = refl
step_means h (fed is h') s =
    let fs : List Field = flat_map item_fields is in
    let x : Narrow (take (cut h) fs) = narrow_take (cut h) fs s.1 in
    let y : Narrow (drop (cut h) fs) = narrow_drop (cut h) fs s.1 in
    record {
      good = refl;
      holds = held_of_flat h' s.0;
      sane = flat_is_sane h' s.0;
      bits =
          ap₂ (λ (u v : List ℕ). u ++ v) (bits_of_fields (take (cut h) fs) x) (bits_of_fields (drop (cut h) fs) y) ∙ field_bits_cut (cut h) fs ∙ bits_of_items is;
      first_fits = number_of_fields_fits (take (cut h) fs) x;
      second_fits = number_of_fields_fits (drop (cut h) fs) y;
      first_short = s.2;
      second_short = s.3;
    }

pub nothing_is_sane : Sane (flat Nothing)
nothing_is_sane = flat_is_sane Nothing tt

pub feed_means : (ks : List Kind) (g : Holding) (bus label info : ℕ) → Sane g → bus < 16 → label < 16 → info < 65536
    → Means (feed ks (held_of g) bus label info) (step_of (held_of g) (feed ks (held_of g) bus label info))
feed_means ks g bus label info s b l i = step_means (held_of g) (feed ks (held_of g) bus label info) (feed_short ks (held_of g) bus label info s.fits b l i)

closing_means : (h : Held) → Fits h → (place : ℕ) → Closes (finish h place) (closing h (finish h place))
unfolding flat_map
closing_means Nothing f place = step_means Nothing (fed [] Nothing) (tt, tt, omega arith, omega arith)
closing_means (Taggable x) f place = step_means (Taggable x) (fed (with_tag x Untagged ∷ []) Nothing) (untagged_short x f)
closing_means (Half bus c high) f place = refl
closing_means (TagHigh x high) f place = refl
closing_means (TagLow x high low) f place = refl
closing_means (Answering bus r) f place = refl

-- what ends well is finished
pub record Finished (g : Got) (r : Step) : Type 0 where
  pub items : List Item
  pub is : g ≡ got items
  pub brings : Brings items Nothing r

pub finished : (g : Got) (r : Step) → Closes g r → r.bad ≡ false → Finished g r
finished (got js) r m z = record { items = js; is = refl; brings = m }
finished (stopped k q second) r m z = clash (sym z ∙ m)

pub finish_means : (g : Holding) → Sane g → (place : ℕ) → Closes (finish (held_of g) place) (closing (held_of g) (finish (held_of g) place))
finish_means g s place = closing_means (held_of g) s.fits place
