-- What the numbers of the openings say of a word.
use Prim.Native.Nat.{ℕ, zero, suc, ◌+◌, ◌*◌, ◌/◌, ◌%◌, ◌^◌, ◌-◌, ◌<◌, ◌≤◌}
use native.Mathlib.Omega.{arith}
use mathlib.Core.Bool.{false}
use mathlib.Core.Path.{◌≡◌, refl, ap}
use mathlib.Core.List.{[], ◌∷◌, flat_map}
use lib.ListN.{get_or}
use Rattle.format.specs.Item.{item_fields}
use Rattle.format.specs.Reader.{Fed, bad, fed, starts}
use Rattle.format.specs.declared.Kind.{Kind}
use Rattle.format.specs.declared.Kind.TheVariants.{Unused, Mil1553, Arinc429}
use Rattle.format.specs.Laws.Tests.{below16, clash}
use Rattle.data_start.specs.declared.Holding.{Holding}
use Rattle.data_start.specs.declared.Step.{Step}
use Rattle.data_start.specs.Step.{ended, begun}
use Rattle.data_start.specs.Opening.{one_word, opens, openings, row, row_of, single_of}
use Rattle.data_start.proofs.Labels.{lower, upper}

-- what the number n says of a word with this label on a bus of the kind k
pub record Says (k : Kind) (label n : ℕ) : Type 0 where
  pub command : n ≡ 1 → (k ≡ Mil1553) × (8 ≤ label) × (label % 4 ≡ 3)
  pub syllable : n ≡ 2 → (k ≡ Arinc429) × (8 ≤ label) × (label % 2 ≡ 1)
  pub response : n ≡ 3 → (k ≡ Mil1553) × (label ≡ 4)
  pub notice : n ≡ 4 → (k ≡ Arinc429) × (label ≡ 4)
  pub nothing : n < 8 → (n ≡ 1 → ⊥) → (n ≡ 2 → ⊥) → (n ≡ 3 → ⊥) → (n ≡ 4 → ⊥) → (bus info : ℕ) → starts k bus label info ≡ bad
  pub single : 8 ≤ n → (g : Holding) (bus info : ℕ) → single_of n bus info ≡ begun g 0 0 (starts k bus label info)
  pub low : n < 4096

says_nothing : {k : Kind} {label : ℕ} → ((bus info : ℕ) → starts k bus label info ≡ bad) → Says k label 0
says_nothing f = record {
  command = λ e. absurd (omega (arith, e));
  syllable = λ e. absurd (omega (arith, e));
  response = λ e. absurd (omega (arith, e));
  notice = λ e. absurd (omega (arith, e));
  nothing = λ _ _ _ _ _. f;
  single = λ e. absurd (omega (arith, e));
  low = omega arith;
}

says_command : {label : ℕ} → 8 ≤ label → label % 4 ≡ 3 → Says Mil1553 label 1
says_command a b = record {
  command = λ e. (refl, a, b);
  syllable = λ e. absurd (omega (arith, e));
  response = λ e. absurd (omega (arith, e));
  notice = λ e. absurd (omega (arith, e));
  nothing = λ _ x _ _ _. absurd (x refl);
  single = λ e. absurd (omega (arith, e));
  low = omega arith;
}

says_syllable : {label : ℕ} → 8 ≤ label → label % 2 ≡ 1 → Says Arinc429 label 2
says_syllable a b = record {
  command = λ e. absurd (omega (arith, e));
  syllable = λ e. (refl, a, b);
  response = λ e. absurd (omega (arith, e));
  notice = λ e. absurd (omega (arith, e));
  nothing = λ _ _ x _ _. absurd (x refl);
  single = λ e. absurd (omega (arith, e));
  low = omega arith;
}

says_response : Says Mil1553 4 3
says_response = record {
  command = λ e. absurd (omega (arith, e));
  syllable = λ e. absurd (omega (arith, e));
  response = λ e. (refl, refl);
  notice = λ e. absurd (omega (arith, e));
  nothing = λ _ _ _ x _. absurd (x refl);
  single = λ e. absurd (omega (arith, e));
  low = omega arith;
}

says_notice : Says Arinc429 4 4
says_notice = record {
  command = λ e. absurd (omega (arith, e));
  syllable = λ e. absurd (omega (arith, e));
  response = λ e. absurd (omega (arith, e));
  notice = λ e. (refl, refl);
  nothing = λ _ _ _ _ x. absurd (x refl);
  single = λ e. absurd (omega (arith, e));
  low = omega arith;
}

says_single : {k : Kind} {label n : ℕ} → 8 ≤ n → n < 4096 → ((g : Holding) (bus info : ℕ) → single_of n bus info ≡ begun g 0 0 (starts k bus label info)) → Says k label n
says_single l u f = record {
  command = λ e. absurd (omega (arith, e, l));
  syllable = λ e. absurd (omega (arith, e, l));
  response = λ e. absurd (omega (arith, e, l));
  notice = λ e. absurd (omega (arith, e, l));
  nothing = λ x. absurd (omega (arith, x, l));
  single = λ e. f;
  low = u;
}

ends_second : {x y : ℕ} (k : ℕ) → x ≡ y → ended 0 0 x k ≡ ended 0 0 y k
ends_second k e = rw e

pub opens_says : (k : Kind) (label : ℕ) → label < 16 → Says k label (opens k label)
unfolding opens starts item_fields flat_map
opens_says Unused label l =
    below16 (λ n. Says Unused n (opens Unused n))
    (says_nothing (λ _ _. refl)) (says_nothing (λ _ _. refl)) (says_nothing (λ _ _. refl)) (says_nothing (λ _ _. refl))
    (says_nothing (λ _ _. refl)) (says_nothing (λ _ _. refl)) (says_nothing (λ _ _. refl)) (says_nothing (λ _ _. refl))
    (says_nothing (λ _ _. refl)) (says_nothing (λ _ _. refl)) (says_nothing (λ _ _. refl)) (says_nothing (λ _ _. refl))
    (says_nothing (λ _ _. refl)) (says_nothing (λ _ _. refl)) (says_nothing (λ _ _. refl)) (says_nothing (λ _ _. refl))
    label l
opens_says Mil1553 label l =
    below16 (λ n. Says Mil1553 n (opens Mil1553 n))
    (says_single (omega arith) (omega arith) (λ g bus info. ends_second 24 (omega arith)))
    (says_nothing (λ _ _. refl))
    (says_single (omega arith) (omega arith) (λ g bus info. ends_second 25 (omega arith)))
    (says_single (omega arith) (omega arith) (λ g bus info. ends_second 25 (omega arith)))
    says_response
    (says_nothing (λ _ _. refl))
    (says_nothing (λ _ _. refl))
    (says_nothing (λ _ _. refl))
    (says_single (omega arith) (omega arith) (λ g bus info. ends_second 25 (omega arith)))
    (says_single (omega arith) (omega arith) (λ g bus info. ends_second 25 (omega arith)))
    (says_single (omega arith) (omega arith) (λ g bus info. ends_second 26 (omega arith)))
    (says_command (omega arith) refl)
    (says_single (omega arith) (omega arith) (λ g bus info. ends_second 25 (omega arith)))
    (says_single (omega arith) (omega arith) (λ g bus info. ends_second 25 (omega arith)))
    (says_single (omega arith) (omega arith) (λ g bus info. ends_second 26 (omega arith)))
    (says_command (omega arith) refl)
    label l
opens_says Arinc429 label l =
    below16 (λ n. Says Arinc429 n (opens Arinc429 n))
    (says_single (omega arith) (omega arith) (λ g bus info. ends_second 24 (omega arith)))
    (says_nothing (λ _ _. refl))
    (says_single (omega arith) (omega arith) (λ g bus info. ends_second 25 (omega arith)))
    (says_single (omega arith) (omega arith) (λ g bus info. ends_second 25 (omega arith)))
    says_notice
    (says_nothing (λ _ _. refl))
    (says_nothing (λ _ _. refl))
    (says_nothing (λ _ _. refl))
    (says_nothing (λ _ _. refl))
    (says_syllable (omega arith) refl)
    (says_nothing (λ _ _. refl))
    (says_syllable (omega arith) refl)
    (says_nothing (λ _ _. refl))
    (says_syllable (omega arith) refl)
    (says_nothing (λ _ _. refl))
    (says_syllable (omega arith) refl)
    label l

pub opened_says : (k : Kind) (label : ℕ) {n : ℕ} → label < 16 → n ≡ opens k label → Says k label n
opened_says k label l e = rw e (opens_says k label l)

behind_first : (first width : ℕ) (g : Holding) (f : Fed) {x long : ℕ} → ended 0 0 x long ≡ begun g 0 0 f → ended first width x long ≡ begun g first width f
behind_first first width g bad e = clash (ap (λ (s : Step). s.bad) e)
behind_first first width g (fed is h) e =
    ap (λ (s : Step). record { first = first; second = s.second; first_width = width; second_width = s.second_width; held = s.held; bad = false }) e

-- an item of one word, behind a string that is finished
pub single_starts : {k : Kind} {label n : ℕ} → Says k label n → 8 ≤ n → (first width bus info : ℕ) (g : Holding) {r : Step} → r ≡ single_of n bus info
    → ended first width r.second r.second_width ≡ begun g first width (starts k bus label info)
single_starts {k} {label} says l first width bus info g e = rw e (behind_first first width g (starts k bus label info) (says.single l g bus info))

-- what the code says of a label
pub either_overflow : (label : ℕ) → label ≡ 0 → (one_word 8 0 0 ≡ opens Mil1553 label) × (one_word 8 0 0 ≡ opens Arinc429 label)
unfolding opens
either_overflow label e = rw e (refl, refl)

pub either_user : (label : ℕ) → label < 8 → label / 2 ≡ 1 → (one_word 7 1 (label % 2) ≡ opens Mil1553 label) × (one_word 7 1 (label % 2) ≡ opens Arinc429 label)
unfolding opens
either_user =
    λ label l. lower (λ n. n / 2 ≡ 1 → (one_word 7 1 (n % 2) ≡ opens Mil1553 n) × (one_word 7 1 (n % 2) ≡ opens Arinc429 n))
    (λ e. absurd (omega arith)) (λ e. absurd (omega arith)) (λ e. (refl, refl)) (λ e. (refl, refl))
    (λ e. absurd (omega arith)) (λ e. absurd (omega arith)) (λ e. absurd (omega arith)) (λ e. absurd (omega arith))
    label l

pub either_nothing : (label : ℕ) → label < 8 → (label ≡ 4 → ⊥) → (label ≡ 0 → ⊥) → (label / 2 ≡ 1 → ⊥) → (0 ≡ opens Mil1553 label) × (0 ≡ opens Arinc429 label)
unfolding opens
either_nothing =
    λ label l. lower (λ n. (n ≡ 4 → ⊥) → (n ≡ 0 → ⊥) → (n / 2 ≡ 1 → ⊥) → (0 ≡ opens Mil1553 n) × (0 ≡ opens Arinc429 n))
    (λ x y z. absurd (y refl)) (λ x y z. (refl, refl)) (λ x y z. absurd (z refl)) (λ x y z. absurd (z refl))
    (λ x y z. absurd (x refl)) (λ x y z. (refl, refl)) (λ x y z. (refl, refl)) (λ x y z. (refl, refl))
    label l

pub none_on_unused : {k : Kind} (label : ℕ) → label < 16 → k ≡ Unused → 0 ≡ opens k label
unfolding opens
none_on_unused label l e = rw e (below16 (λ n. 0 ≡ opens Unused n) refl refl refl refl refl refl refl refl refl refl refl refl refl refl refl refl label l)

pub on_1553_command : (label : ℕ) → 8 ≤ label → label < 16 → (15 - label) % 4 ≡ 0 → 1 ≡ opens Mil1553 label
unfolding opens
on_1553_command label l u =
    upper (λ n. (15 - n) % 4 ≡ 0 → 1 ≡ opens Mil1553 n)
    (λ e. absurd (omega arith)) (λ e. absurd (omega arith)) (λ e. absurd (omega arith)) (λ e. refl)
    (λ e. absurd (omega arith)) (λ e. absurd (omega arith)) (λ e. absurd (omega arith)) (λ e. refl)
    label l u

pub on_1553_status : (label : ℕ) → 8 ≤ label → label < 16 → (15 - label) % 4 ≡ 1 → one_word 2 2 ((15 - label) / 4 * 2) ≡ opens Mil1553 label
unfolding opens
on_1553_status label l u =
    upper (λ n. (15 - n) % 4 ≡ 1 → one_word 2 2 ((15 - n) / 4 * 2) ≡ opens Mil1553 n)
    (λ e. absurd (omega arith)) (λ e. absurd (omega arith)) (λ e. refl) (λ e. absurd (omega arith))
    (λ e. absurd (omega arith)) (λ e. absurd (omega arith)) (λ e. refl) (λ e. absurd (omega arith))
    label l u

pub on_1553_word : (label : ℕ) → 8 ≤ label → label < 16 → ((15 - label) % 4 ≡ 0 → ⊥) → ((15 - label) % 4 ≡ 1 → ⊥)
    → one_word ((15 - label) % 4 + 1) 1 ((15 - label) / 4) ≡ opens Mil1553 label
unfolding opens
on_1553_word label l u =
    upper (λ n. ((15 - n) % 4 ≡ 0 → ⊥) → ((15 - n) % 4 ≡ 1 → ⊥) → one_word ((15 - n) % 4 + 1) 1 ((15 - n) / 4) ≡ opens Mil1553 n)
    (λ x y. refl) (λ x y. refl) (λ x y. absurd (y refl)) (λ x y. absurd (x refl))
    (λ x y. refl) (λ x y. refl) (λ x y. absurd (y refl)) (λ x y. absurd (x refl))
    label l u

pub on_429_syllable : (label : ℕ) → 8 ≤ label → label < 16 → label % 2 * 2 ≡ opens Arinc429 label
unfolding opens
on_429_syllable label l u = upper (λ n. n % 2 * 2 ≡ opens Arinc429 n) refl refl refl refl refl refl refl refl label l u

-- the row of a kind, found in the table
pub row_at : (k : Kind) (label : ℕ) → get_or (get_or openings (row_of k) []) label 0 ≡ opens k label
unfolding opens openings
row_at Unused label = refl
row_at Mil1553 label = refl
row_at Arinc429 label = refl

pub row_is : (k : Kind)
    → opens k 0 ∷ opens k 1 ∷ opens k 2 ∷ opens k 3 ∷ opens k 4 ∷ opens k 5 ∷ opens k 6 ∷ opens k 7
    ∷ opens k 8 ∷ opens k 9 ∷ opens k 10 ∷ opens k 11 ∷ opens k 12 ∷ opens k 13 ∷ opens k 14 ∷ opens k 15 ∷ []
    ≡ row k
unfolding opens
row_is Unused = refl
row_is Mil1553 = refl
row_is Arinc429 = refl

-- a number moved up by at most three bits
pub moved : (x n : ℕ) → x < 256 → n < 4 → (x * 2 ^ n % 2 ^ 32 ≡ x * 2 ^ n) × (x * 2 ^ n < 2048)
moved x zero b l = (omega arith, omega arith)
moved x (suc zero) b l = (omega arith, omega arith)
moved x (suc (suc zero)) b l = (omega arith, omega arith)
moved x (suc (suc (suc zero))) b l = (omega arith, omega arith)
moved x (suc (suc (suc (suc n)))) b l = absurd (omega arith)

pub row_low : (k : Kind) → row_of k < 3
row_low Unused = omega arith
row_low Mil1553 = omega arith
row_low Arinc429 = omega arith
