-- What bytes give, by the parts of the written test.
use Prim.Native.Nat.{ℕ}
use mathlib.Core.Bool.{Bool, true, false, cond}
use mathlib.Core.Path.{◌≡◌, refl, sym, ap, ◌∙◌}
use mathlib.Core.List.{List}
use lib.ListN.{length}
use lib.Dec.{eqb}
use borrow.Author.Tests.{eq-eqb, ne_eqb}
use Rattle.format.specs.Laws.Tests.{clash}
use Rattle.stream_rules.specs.Stream.{State}
use Rattle.stream_state.specs.declared.Loaded.{Loaded}
use Rattle.stream_state.specs.Layout.{is_state, state_at}
use Rattle.stream_state.specs.Stand.{loaded_as, loaded_of, stopped}
use Rattle.stream_state.specs.Laws.Bytes.{passed}

-- a part that a state passes and these bytes do not
pub misfits : (b : List ℕ) (t : Bool) → (is_state b ≡ true → t ≡ true) → t ≡ false → loaded_of b ≡ stopped 3 0 0 0
unfolding loaded_of
misfits b t f e = go (is_state b) refl
  where
    go : (u : Bool) → is_state b ≡ u → cond u (loaded_as (state_at b)) (stopped 3 0 0 0) ≡ stopped 3 0 0 0
    go false z = refl
    go true z = clash (sym e ∙ f z)

pub loads : (b : List ℕ) (s : State) → is_state b ≡ true → state_at b ≡ s → loaded_of b ≡ loaded_as s
unfolding loaded_of
loads b s e at = rw (e, at) refl

pub same_stopped : {stage k k' q q' s s' : ℕ} → k ≡ k' → q ≡ q' → s ≡ s' → stopped stage k q s ≡ stopped stage k' q' s'
same_stopped a b c = rw (a, b, c) refl

pub other_length : (b : List ℕ) → (length b ≡ 7168 → ⊥) → stopped 3 0 0 0 ≡ loaded_of b
other_length b h = sym (misfits b (eqb (length b) 7168) (λ e. eq-eqb (length b) 7168 (passed b e).long) (ne_eqb (length b) 7168 h))
