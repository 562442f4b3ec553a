-- What a caller of `load` knows, by the stage that it was told.
use Rattle.std.specs.Prelude.{ℕ, ◌^◌, ◌<◌, Bool, true, false, cond, ◌≡◌, refl, List, length, take, drop}
use Rattle.std.proofs.Common.{arith, ap, ap₂, sym, ◌∙◌}
use Rattle.format.specs.Bits.{bits_of, num_of}
use Rattle.format.specs.Lists.{Bytes, list}
use Rattle.format.specs.Laws.Tests.{clash}
use Rattle.stream_rules.specs.Stream.{State, closed, failed, working, Working, fits}
use Rattle.stream_state.specs.declared.Loaded.{Loaded}
use Rattle.stream_state.specs.Layout.{is_state, number_at, state_at}
use Rattle.stream_state.specs.Stand.{loaded_as, loaded_of, stand_of, stopped, working_of}

-- the bytes are the state that is told
pub told : (b : List ℕ) (stage : ℕ) → (loaded_of b).stage ≡ stage → stage < 3 → (is_state b ≡ true) × (loaded_of b ≡ loaded_as (state_at b))
unfolding loaded_of
told b stage e l = go (is_state b) e
  where
    go : (t : Bool) → (cond {A = Loaded} t (loaded_as (state_at b)) (stopped 3 0 0 0)).stage ≡ stage
        → (t ≡ true) × (cond {A = Loaded} t (loaded_as (state_at b)) (stopped 3 0 0 0) ≡ loaded_as (state_at b))
    go true f = (refl, refl)
    go false f = absurd (omega (arith, f, l))

pub loaded_none : (b : List ℕ) → (loaded_of b).stage ≡ 3 → is_state b ≡ false
unfolding loaded_of
loaded_none b e = go (is_state b) e
  where
    few : (s : State) → (loaded_as s).stage < 3
    few closed = omega arith
    few (failed k q second) = omega arith
    few (working w) = omega arith

    go : (t : Bool) → (cond {A = Loaded} t (loaded_as (state_at b)) (stopped 3 0 0 0)).stage ≡ 3 → t ≡ false
    go false f = refl
    go true f = absurd (omega (arith, f, few (state_at b)))

-- a closed state
pub loaded_closed : (b : List ℕ) → (loaded_of b).stage ≡ 0 → state_at b ≡ closed
loaded_closed b e = go (state_at b) (ap (λ (r : Loaded). r.stage) (sym (told b 0 e (omega arith)).1) ∙ e)
  where
    go : (s : State) → (loaded_as s).stage ≡ 0 → s ≡ closed
    go closed f = refl
    go (failed k q second) f = absurd (omega (arith, f))
    go (working w) f = absurd (omega (arith, f))

-- one with a fault
pub loaded_failed : (b : List ℕ) → (loaded_of b).stage ≡ 2 → state_at b ≡ failed (loaded_of b).number (loaded_of b).place (loaded_of b).second
loaded_failed b e =
    let t = (told b 2 e (omega arith)).1 in
    go (state_at b) (loaded_of b) t e
  where
    go : (s : State) (r : Loaded) → r ≡ loaded_as s → r.stage ≡ 2 → s ≡ failed r.number r.place r.second
    go closed r f g = absurd (omega (arith, g, ap (λ (x : Loaded). x.stage) f))
    go (failed k q second) r f g = rw f refl
    go (working w) r f g = absurd (omega (arith, g, ap (λ (x : Loaded). x.stage) f))

-- one at work, by its numbers
pub loaded_working : (b : List ℕ) → (loaded_of b).stage ≡ 1 → (w : Working) × (state_at b ≡ working w) × ((loaded_of b).stand ≡ stand_of w)
loaded_working b e = go (state_at b) refl (told b 1 e (omega arith)).1
  where
    go : (s : State) → state_at b ≡ s → loaded_of b ≡ loaded_as (state_at b) → (w : Working) × (state_at b ≡ working w) × ((loaded_of b).stand ≡ stand_of w)
    go closed f g = absurd (omega (arith, e, ap (λ (x : Loaded). x.stage) g, ap (λ (x : State). (loaded_as x).stage) f))
    go (failed k q second) f g = absurd (omega (arith, e, ap (λ (x : Loaded). x.stage) g, ap (λ (x : State). (loaded_as x).stage) f))
    go (working w) f g = (w, f, ap (λ (x : Loaded). x.stand) (g ∙ ap loaded_as f))
