-- What a word starts, in numbers: the definition at each label, and the arithmetic that the code does for it.
use Prim.Native.Nat.{ℕ, ◌+◌, ◌*◌, ◌/◌, ◌%◌, ◌-◌, ◌<◌, ◌≤◌}
use native.Mathlib.Omega.{arith}
use mathlib.Core.Bool.{Bool, true, false}
use mathlib.Core.Path.{◌≡◌, refl, sym, ◌∙◌}
use mathlib.Core.List.{flat_map}
use lib.Dec.{eqb}
use borrow.Author.Tests.{eq-eqb, ne_eqb, eqb-true, lt-ltb, le-ltb}
use Rattle.format.specs.Laws.Tests.{below16, clash}
use Rattle.format.specs.Item.{item_fields, channel_of}
use Rattle.format.specs.Reader.{starts, is_pair}
use Rattle.format.specs.declared.Kind.TheVariants.{Mil1553, Arinc429}
use Rattle.data_start.specs.declared.Holding.{Holding}
use Rattle.data_start.specs.Step.{refusal, holding, ended, begun}
use Rattle.data_start.proofs.Labels.{lower, upper}

-- the two labels of a notice
pub below_eight_is_no_high : (high low : ℕ) → high < 8 → is_pair high low ≡ false
below_eight_is_no_high high low l = lower (λ n. is_pair n low ≡ false) refl refl refl refl refl refl refl refl high l

pub even_is_no_high : (high low : ℕ) → 8 ≤ high → high < 16 → high % 2 ≡ 0 → is_pair high low ≡ false
even_is_no_high high low l u =
    upper (λ n. n % 2 ≡ 0 → is_pair n low ≡ false)
    (λ x. refl) (λ x. absurd (omega arith)) (λ x. refl) (λ x. absurd (omega arith)) (λ x. refl) (λ x. absurd (omega arith)) (λ x. refl) (λ x. absurd (omega arith))
    high l u

eqb_next : (a b : ℕ) → eqb (a + 1) (b + 1) ≡ eqb a b
eqb_next a b = go (eqb a b) refl
  where
    go : (t : Bool) → eqb a b ≡ t → eqb (a + 1) (b + 1) ≡ eqb a b
    go true e = eq-eqb (a + 1) (b + 1) (omega (arith, eqb-true a b e)) ∙ sym e
    go false e = ne_eqb (a + 1) (b + 1) (λ z. clash (sym e ∙ eq-eqb a b (omega (arith, z)))) ∙ sym e

pub odd_pairs_with_its_low : (high low : ℕ) → 8 ≤ high → high < 16 → (high % 2 ≡ 0 → ⊥) → eqb (low + 1) high ≡ is_pair high low
odd_pairs_with_its_low high low l u =
    upper (λ n. (n % 2 ≡ 0 → ⊥) → eqb (low + 1) n ≡ is_pair n low)
    (λ x. absurd (x refl)) (λ x. eqb_next low 8) (λ x. absurd (x refl)) (λ x. eqb_next low 10)
    (λ x. absurd (x refl)) (λ x. eqb_next low 12) (λ x. absurd (x refl)) (λ x. eqb_next low 14)
    high l u

pub pair_labels : (high low : ℕ) → high < 16 → is_pair high low ≡ true → (8 ≤ high) × (high % 2 ≡ 0 → ⊥) × (low + 1 ≡ high)
pair_labels high low l =
    below16 (λ n. is_pair n low ≡ true → (8 ≤ n) × (n % 2 ≡ 0 → ⊥) × (low + 1 ≡ n))
    (λ e. clash e) (λ e. clash e) (λ e. clash e) (λ e. clash e) (λ e. clash e) (λ e. clash e) (λ e. clash e) (λ e. clash e) (λ e. clash e)
    (λ e. (omega arith, (λ z. absurd (omega (arith, z))), omega (arith, eqb-true low 8 e))) (λ e. clash e)
    (λ e. (omega arith, (λ z. absurd (omega (arith, z))), omega (arith, eqb-true low 10 e))) (λ e. clash e)
    (λ e. (omega arith, (λ z. absurd (omega (arith, z))), omega (arith, eqb-true low 12 e))) (λ e. clash e)
    (λ e. (omega arith, (λ z. absurd (omega (arith, z))), omega (arith, eqb-true low 14 e)))
    high l

pub channel_of_high : (high : ℕ) → 8 ≤ high → high < 16 → (high % 2 ≡ 0 → ⊥) → channel_of high ≡ (high - 8) / 2
channel_of_high high l u =
    upper (λ n. (n % 2 ≡ 0 → ⊥) → channel_of n ≡ (n - 8) / 2)
    (λ x. absurd (x refl)) (λ x. refl) (λ x. absurd (x refl)) (λ x. refl) (λ x. absurd (x refl)) (λ x. refl) (λ x. absurd (x refl)) (λ x. refl)
    high l u

module _ (g : Holding) (v w bus info : ℕ) where
  holds_base : {x y : ℕ} (t a : ℕ) → x ≡ y → holding v w (record { base = x; time = t; awaits = a }) ≡ holding v w (record { base = y; time = t; awaits = a })
  holds_base t a e = rw e

  ends_second : {x y : ℕ} (k : ℕ) → x ≡ y → ended v w x k ≡ ended v w y k
  ends_second k e = rw e

  pub command_is_held : (label : ℕ) → 8 ≤ label → label < 16 → label % 4 ≡ 3
      → holding v w (record { base = ((16 + bus) * 2 + (3 - label / 4)) * 131072 + info; time = 0; awaits = bus * 16 + 7 }) ≡ begun g v w (starts Mil1553 bus label info)
  unfolding starts item_fields flat_map
  command_is_held label l u =
      upper (λ n. n % 4 ≡ 3 → holding v w (record { base = ((16 + bus) * 2 + (3 - n / 4)) * 131072 + info; time = 0; awaits = bus * 16 + 7 }) ≡ begun g v w (starts Mil1553 bus n info))
      (λ e. absurd (omega arith)) (λ e. absurd (omega arith)) (λ e. absurd (omega arith)) (λ e. holds_base 0 (bus * 16 + 7) (omega arith))
      (λ e. absurd (omega arith)) (λ e. absurd (omega arith)) (λ e. absurd (omega arith)) (λ e. holds_base 0 (bus * 16 + 7) (omega arith))
      label l u

  pub response_is_held : info < 10000 → holding v w (record { base = 0; time = info; awaits = 270 + bus * 16 }) ≡ begun g v w (starts Mil1553 bus 4 info)
  unfolding starts flat_map
  response_is_held l = simp (lt-ltb info 10000 l) refl

  pub late_response_starts_nothing : 10000 ≤ info → refusal g ≡ begun g v w (starts Mil1553 bus 4 info)
  unfolding starts
  late_response_starts_nothing l = simp (le-ltb info 10000 l) refl

  pub high_syllable_is_held : (label : ℕ) → 8 ≤ label → label < 16 → label % 2 ≡ 1
      → holding v w (record { base = ((80 + bus) * 8 + (label - 9)) * 65536 + info; time = 0; awaits = bus * 16 + (label - 1) }) ≡ begun g v w (starts Arinc429 bus label info)
  unfolding starts item_fields flat_map
  high_syllable_is_held label l u =
      upper (λ n. n % 2 ≡ 1 → holding v w (record { base = ((80 + bus) * 8 + (n - 9)) * 65536 + info; time = 0; awaits = bus * 16 + (n - 1) }) ≡ begun g v w (starts Arinc429 bus n info))
      (λ e. absurd (omega arith)) (λ e. holds_base 0 (bus * 16 + 8) (omega arith)) (λ e. absurd (omega arith)) (λ e. holds_base 0 (bus * 16 + 10) (omega arith))
      (λ e. absurd (omega arith)) (λ e. holds_base 0 (bus * 16 + 12) (omega arith)) (λ e. absurd (omega arith)) (λ e. holds_base 0 (bus * 16 + 14) (omega arith))
      label l u

  pub no_pair_starts_nothing : is_pair (info / 4096) (info / 256 % 16) ≡ false → refusal g ≡ begun g v w (starts Arinc429 bus 4 info)
  unfolding starts
  no_pair_starts_nothing e = rw e

  pub notice_ends : info < 65536 → is_pair (info / 4096) (info / 256 % 16) ≡ true
      → ended v w (((96 + bus) * 4 + (info / 4096 - 8) / 2) * 256 + info % 256) 18 ≡ begun g v w (starts Arinc429 bus 4 info)
  unfolding starts item_fields flat_map
  notice_ends i e =
      let u : info / 4096 < 16 = omega arith in
      let k = pair_labels (info / 4096) (info / 256 % 16) u e in
      rw (e, channel_of_high (info / 4096) k.0 u k.1) (ends_second 18 (omega arith))
