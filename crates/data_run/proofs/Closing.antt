-- Behind the last word: what is held is finished, or cut.
use Prim.Native.Nat.{ℕ, ◌+◌, ◌≤◌}
use native.Mathlib.Omega.{arith}
use mathlib.Core.Bool.{true, false}
use mathlib.Core.Path.{◌≡◌, refl, sym, ap, subst, ◌∙◌}
use mathlib.Core.List.{List, [], ◌++◌, flat_map}
use Rattle.format.specs.Item.{item_bits}
use Rattle.format.specs.Read.{Got, got, stopped, before, finish}
use Rattle.format.specs.Laws.Tests.{clash}
use Rattle.format.specs.Laws.Lists.{flat_map_append}
use Rattle.format.specs.declared.Item.{Item}
use Rattle.format.specs.declared.Held.{Held}
use Rattle.format.specs.declared.Held.TheVariants.{Nothing, Taggable, Half, TagHigh, TagLow, Answering}
use Rattle.data_start.specs.declared.Step.{Step}
use Rattle.data_word.specs.Holding.{held_of}
use Rattle.data_word.specs.Meaning.{Brings, Closes}
use Rattle.data_word.proofs.Meaning.{Finished, finished}
use Rattle.log_write.specs.Pen.{Wrote}
use Rattle.data_run.specs.declared.Pass.{Pass}
use Rattle.data_put.specs.Put.{Strings, step_pen, step_out}
use Rattle.data_put.proofs.Steps.{step_bits, step_wrote}
use Rattle.data_run.specs.Pass.{Brought}

-- the cut item
pub finish_cut : (h : Held) (at : ℕ) (r : Step) → Closes (finish h at) r → r.bad ≡ true → finish h at ≡ stopped 13 at at
finish_cut Nothing at r m z = clash (sym m.good ∙ z)
finish_cut (Taggable x) at r m z = clash (sym m.good ∙ z)
finish_cut (Half bus c high) at r m z = refl
finish_cut (TagHigh x high) at r m z = refl
finish_cut (TagLow x high low) at r m z = refl
finish_cut (Answering bus t) at r m z = refl

pub closing_fits : (g : Got) (r : Step) → Closes g r → r.bad ≡ false → Strings r
closing_fits g r m z =
    let b : Brings (finished g r m z).items Nothing r = (finished g r m z).brings in
    record { first_fits = b.first_fits; second_fits = b.second_fits; first_short = omega (arith, b.first_short); second_short = omega (arith, b.second_short) }

-- the items that were finished before, and what was held
module _ (x₀ : Pass) (out₀ : List ℕ) (is : List Item) (x : Pass) (out : List ℕ) (b : Brought x₀ out₀ is x out) (at : ℕ) (s : Step) (m : Closes (finish (held_of x.held) at) s)
    (z : s.bad ≡ false) where
  f : Finished (finish (held_of x.held) at) s
  f = finished (finish (held_of x.held) at) s m z

  pub closed_items : List Item
  closed_items = is ++ f.items

  pub closed_got : before is (finish (held_of x.held) at) ≡ got closed_items
  unfolding closed_items
  closed_got = ap (before is) f.is

  pub closed_bits : (step_pen x.pen s).bits ≤ x.pen.bits + 92
  closed_bits = step_bits f.items Nothing s f.brings x.pen

  pub closed_wrote : Wrote [] out₀ x₀.pen → Wrote (flat_map item_bits closed_items) (step_out out x.pen s) (step_pen x.pen s)
  unfolding closed_items
  closed_wrote w =
      subst (λ (l : List ℕ). Wrote l (step_out out x.pen s) (step_pen x.pen s)) (sym (flat_map_append item_bits is f.items))
      (step_wrote f.items Nothing s f.brings x.pen (flat_map item_bits is) out (b.wrote [] w))
