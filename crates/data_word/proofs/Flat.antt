-- The flat form says what is held, and stays small.
use Prim.Native.Nat.{ℕ, ◌+◌, ◌*◌, ◌-◌, ◌/◌, ◌%◌, ◌^◌, ◌≤◌, ◌<◌}
use native.Mathlib.Omega.{arith}
use mathlib.Core.Bool.{true, false, cond}
use mathlib.Core.Path.{◌≡◌, refl, sym, ap, subst, ◌∙◌}
use lib.Dec.{eqb}
use borrow.Author.Tests.{ne_eqb, lt-ltb, le-ltb, le-leb, lt-leb}
use Rattle.format.specs.Item.{item_fields}
use Rattle.format.specs.Laws.Tests.{bit_low}
use Rattle.format.specs.Reader.{base_bus}
use Rattle.format.specs.declared.Base.{Base}
use Rattle.format.specs.declared.Base.TheVariants as base
use Rattle.format.specs.declared.Held.{Held}
use Rattle.format.specs.declared.Held.TheVariants.{Nothing, Taggable, Half, TagHigh, TagLow, Answering}
use Rattle.data_start.specs.declared.Holding.{Holding}
use Rattle.data_start.specs.Holding.{flat, number_of, untagged}
use Rattle.data_word.specs.Holding.{held_of, base_of, Fits, BaseFits, Sane}
use Rattle.data_start.specs.Step.{ended}

pub base_bus_small : (x : Base) → BaseFits x → base_bus x < 16
base_bus_small (base.Command bus b word) f = f.0
base_bus_small (base.Arinc bus c word) f = f.0

base_back : (x : Base) → BaseFits x → (t s : ℕ) → s < 16 → base_of (record { base = number_of 0 (untagged x); time = t; awaits = base_bus x * 16 + s }) ≡ x
unfolding item_fields
base_back (base.Command b false word) f t s h =
    let n : ℕ = number_of 0 (untagged (base.Command b false word)) in
    let k : n < 2 ^ 32 = omega arith in
    let u : n / 2 ^ 17 % 2 ≡ 0 = omega arith in
    let w : n % 2 ^ 16 ≡ word = omega arith in
    let a : (b * 16 + s) / 16 ≡ b = omega arith in
    rw (lt-ltb _ _ k, u, w, a)
base_back (base.Command b true word) f t s h =
    let n : ℕ = number_of 0 (untagged (base.Command b true word)) in
    let k : n < 2 ^ 32 = omega arith in
    let u : n / 2 ^ 17 % 2 ≡ 1 = omega arith in
    let w : n % 2 ^ 16 ≡ word = omega arith in
    let a : (b * 16 + s) / 16 ≡ b = omega arith in
    rw (lt-ltb _ _ k, u, w, a)
base_back (base.Arinc b c word) f t s h =
    let n : ℕ = number_of 0 (untagged (base.Arinc b c word)) in
    let k : 2 ^ 32 ≤ n = omega arith in
    let u : n / 2 ^ 33 % 4 ≡ c = omega arith in
    let w : n % 2 ^ 32 ≡ word = omega arith in
    let a : (b * 16 + s) / 16 ≡ b = omega arith in
    rw (le-ltb _ _ k, u, w, a)

-- the tests of `held_of`
module _ (g : Holding) (n : g.awaits ≡ 0 → ⊥) where
  unfinished : g.awaits < 256
      → held_of g
      ≡ cond (eqb (g.awaits % 16) 7) (Taggable (base_of g))
      (cond (eqb (g.awaits % 16) 6) (TagHigh (base_of g) g.time)
      (cond (eqb (g.awaits % 16) 5) (TagLow (base_of g) (g.time / 2 ^ 16) (g.time % 2 ^ 16))
      (Half (g.awaits / 16) ((g.awaits % 16 - 8) / 2) (g.base % 2 ^ 16))))
  unfolding held_of
  unfinished u = rw (ne_eqb _ _ n, lt-leb _ _ u)

  answering : 256 ≤ g.awaits → held_of g ≡ Answering (g.awaits / 16 % 16) g.time
  unfolding held_of
  answering u = rw (ne_eqb _ _ n, le-leb _ _ u)

pub nothing_is_held : held_of (flat Nothing) ≡ Nothing
unfolding held_of
nothing_is_held = refl

pub held_of_flat : (h : Held) → Fits h → held_of (flat h) ≡ h
held_of_flat Nothing f = nothing_is_held
held_of_flat (Taggable x) f =
    let m : (base_bus x * 16 + 7) % 16 ≡ 7 = omega arith in
    unfinished (flat (Taggable x)) (λ e. absurd (omega arith)) (omega (arith, base_bus_small x f)) ∙ rw (m, base_back x f 0 7 (omega arith))
held_of_flat (Half b c high) f =
    let m : (b * 16 + (8 + 2 * c)) % 16 ≡ 8 + 2 * c = omega arith in
    let d : (b * 16 + (8 + 2 * c)) / 16 ≡ b = omega arith in
    let s : (8 + 2 * c ≡ 7 → ⊥) = λ e. absurd (omega arith) in
    let t : (8 + 2 * c ≡ 6 → ⊥) = λ e. absurd (omega arith) in
    let u : (8 + 2 * c ≡ 5 → ⊥) = λ e. absurd (omega arith) in
    let v : (8 + 2 * c - 8) / 2 ≡ c = omega arith in
    let w : (flat (Half b c high)).base % 2 ^ 16 ≡ high = omega arith in
    unfinished (flat (Half b c high)) (λ e. absurd (omega arith)) (omega arith) ∙ rw (m, d, ne_eqb _ _ s, ne_eqb _ _ t, ne_eqb _ _ u, v, w)
held_of_flat (TagHigh x high) f =
    let m : (base_bus x * 16 + 6) % 16 ≡ 6 = omega arith in
    unfinished (flat (TagHigh x high)) (λ e. absurd (omega arith)) (omega (arith, base_bus_small x f.0)) ∙ rw (m, base_back x f.0 high 6 (omega arith))
held_of_flat (TagLow x high low) f =
    let m : (base_bus x * 16 + 5) % 16 ≡ 5 = omega arith in
    let d : (high * 2 ^ 16 + low) / 2 ^ 16 ≡ high = omega arith in
    let e : (high * 2 ^ 16 + low) % 2 ^ 16 ≡ low = omega arith in
    unfinished (flat (TagLow x high low)) (λ e. absurd (omega arith)) (omega (arith, base_bus_small x f.0))
    ∙ rw (m, base_back x f.0 (high * 2 ^ 16 + low) 5 (omega arith), d, e)
held_of_flat (Answering b r) f =
    let d : (270 + b * 16) / 16 % 16 ≡ b = omega arith in
    answering (flat (Answering b r)) (λ e. absurd (omega arith)) (omega arith) ∙ rw d

pub flat_is_sane : (h : Held) → Fits h → Sane (flat h)
flat_is_sane h f = record { is = ap flat (sym (held_of_flat h f)); fits = subst Fits (sym (held_of_flat h f)) f }

-- what holds of every flat form holds of numbers that are one
pub sane_ind : (P : Holding → Held → Type 0) → ((h : Held) → Fits h → P (flat h) h) → (g : Holding) → Sane g → P g (held_of g)
sane_ind P f g s = subst (λ (x : Holding). P x (held_of g)) (sym s.is) (f (held_of g) s.fits)

-- the numbers stay small
base_below : (h : Held) → Fits h → (flat h).base < 2 ^ 43
unfolding item_fields
base_below Nothing f = omega arith
base_below (Taggable (base.Command b side word)) f = omega (arith, bit_low side)
base_below (Taggable (base.Arinc b c word)) f = omega arith
base_below (Half b c high) f = omega arith
base_below (TagHigh (base.Command b side word) high) f = omega (arith, bit_low side)
base_below (TagHigh (base.Arinc b c word) high) f = omega arith
base_below (TagLow (base.Command b side word) high low) f = omega (arith, bit_low side)
base_below (TagLow (base.Arinc b c word) high low) f = omega arith
base_below (Answering b r) f = omega arith

pub base_small : (g : Holding) → Sane g → g.base < 2 ^ 43
base_small = sane_ind (λ g h. g.base < 2 ^ 43) base_below

time_below : (h : Held) → Fits h → (flat h).awaits % 16 ≡ 6 → (flat h).time < 2 ^ 16
time_below Nothing f e = omega arith
time_below (Taggable x) f e = omega arith
time_below (Half b c high) f e = omega arith
time_below (TagHigh x high) f e = f.1
time_below (TagLow x high low) f e = absurd (omega arith)
time_below (Answering b r) f e = omega arith

pub time_small : (g : Holding) → Sane g → g.awaits % 16 ≡ 6 → g.time < 2 ^ 16
time_small = sane_ind (λ g h. g.awaits % 16 ≡ 6 → g.time < 2 ^ 16) time_below

-- two strings are equal by their numbers
pub ends_both : {x y s t : ℕ} (w k : ℕ) → x ≡ y → s ≡ t → ended x w s k ≡ ended y w t k
ends_both w k e d = rw (e, d)
