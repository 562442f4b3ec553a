-- Faults of a log without a plan: none, and their numbers.
use Rattle.std.specs.Prelude.{ℕ, zero, suc, ◌+◌, ◌≤◌, Bool, true, false, cond, ◌≡◌, refl, List, length, eqb, ltb}
use Rattle.std.proofs.Common.{arith, ltb-false}
use Rattle.std.proofs.lemmas.Bool.{eqb-false}
use Rattle.format.specs.Bits.{bytes_bits}
use Rattle.format.specs.Item.{in_time}
use Rattle.format.specs.Log.{Next, ends, has, wrong, next_at, Parsed, items, fault, consed, on_no_plan, parse_next, parse_from, parsed}
use Rattle.format.specs.Group.{Fault, none, found, or_else, unless}
use Rattle.format.specs.declared.Item.{Item}

pub not_none : {A : Type 0} {n q : ℕ} → found n q ≡ none → A
not_none z = let y : ◌≡◌ {A = ℕ} 0 1 = cc in absurd (omega arith)

pub or_none : (f g : Fault) → or_else f g ≡ none → (f ≡ none) × (g ≡ none)
or_none none g e = (refl, e)
or_none (found n q) g e = not_none e

pub unless_none : (b : Bool) (n q : ℕ) → unless b n q ≡ none → b ≡ true
unless_none true n q e = refl
unless_none false n q e = not_none e

-- ---- without a plan only 2 and 4

abbrev TwoOrFour : Parsed → Type 0
TwoOrFour (items is) = Unit {0}
TwoOrFour (fault n p) = (2 ≤ n) × (n ≤ 4)

consed_number : (i : Item) (r : Parsed) → TwoOrFour r → TwoOrFour (consed i r)
consed_number i (items is) h = tt
consed_number i (fault n p) h = h

next_number : (p : ℕ) (rest : ℕ → Parsed) → ((q : ℕ) → TwoOrFour (rest q)) → (n : Next) → TwoOrFour (parse_next on_no_plan p rest n)
next_number p rest h ends = tt
next_number p rest h wrong = (omega arith, omega arith)
next_number p rest h (has i q) = go (in_time i)
  where
    go : (b : Bool) → TwoOrFour (cond (eqb (cond b 0 4) 0) (consed i (rest q)) (fault (cond b 0 4) p))
    go true = consed_number i (rest q) (h q)
    go false = (omega arith, omega arith)

parse_number : (s : List ℕ) (f p : ℕ) → TwoOrFour (parse_from f on_no_plan s p)
unfolding parse_from
parse_number s zero p = (omega arith, omega arith)
parse_number s (suc f) p = next_number p (parse_from f on_no_plan s) (parse_number s f) (next_at s p)

log_number : (log : List ℕ) → TwoOrFour (parsed on_no_plan log)
unfolding parsed
log_number log = go (ltb 32768 (length log))
  where
    go : (b : Bool) → TwoOrFour (cond b (fault 2 0) (parse_from (length log + 1) on_no_plan (bytes_bits log) 0))
    go true = (omega arith, omega arith)
    go false = parse_number (bytes_bits log) (length log + 1) 0

-- "2, 4 as in composing"
pub log_refused : (log : List ℕ) (n q : ℕ) → parsed on_no_plan log ≡ fault n q → (2 ≤ n) × (n ≤ 4)
log_refused log n q e = rw e at (log_number log)

-- a log with items is no longer than it may be
pub log_short : (log : List ℕ) (is : List Item) → parsed on_no_plan log ≡ items is → length log ≤ 32768
unfolding parsed
log_short log is e = go (ltb 32768 (length log)) refl e
  where
    go : (b : Bool) → ltb 32768 (length log) ≡ b → cond b (fault 2 0) (parse_from (length log + 1) on_no_plan (bytes_bits log) 0) ≡ items is → length log ≤ 32768
    go true t z = let y : ◌≡◌ {A = ℕ} 0 1 = cc in absurd (omega arith)
    go false t z = ltb-false 32768 (length log) t
