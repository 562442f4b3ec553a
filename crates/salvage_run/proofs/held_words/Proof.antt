use borrow.Author.Rules.{rules}
use native.Mathlib.Omega.{arith}
use Rattle.salvage_run.proofs.Held.{nothing_held, bare_held, high_held, low_held, one_held}
use mathlib.Core.Path.{ap, ◌∙◌}
use Prim.Native.Nat.{ℕ, ◌+◌}
use Rattle.salvage_run.proofs.held_words.Statement.{statement}
use Rattle.salvage_run.proofs.held_words.Tie as tie
use Rattle.salvage_run.proofs.held_words.Reads as reads
use Rattle.salvage_run.proofs.held_words.Lts as lts
use Rattle.salvage_run.proofs.base_words.Reads as base-words-reads

returns-then-awaits-eq0 : tie.Need-returns-then-awaits-eq0
returns-then-awaits-eq0 c = nothing_held _ c.requires c.if-awaits-eq0.true

base_words-requires : tie.Need-base_words-requires
base_words-requires c κs = search rules

base_words-requires-in-6 : tie.Need-base_words-requires-in-6
base_words-requires-in-6 c κs = search rules

overflow_add-result : tie.Need-overflow_add-result
overflow_add-result c = omega (arith, c.base_words-in-6.ensures.1)

base_words-requires-in-5 : tie.Need-base_words-requires-in-5
base_words-requires-in-5 c κs = search rules

overflow_add-result-in-5 : tie.Need-overflow_add-result-in-5
overflow_add-result-in-5 c = omega (arith, c.base_words-in-5.ensures.1)

returns-in-7 : tie.Need-returns-in-7
returns-in-7 c = c.base_words.ensures.0 ∙ bare_held _ c.requires c.in-7.is

returns-in-6 : tie.Need-returns-in-6
returns-in-6 c = ap (λ (n : ℕ). n + 1) c.base_words-in-6.ensures.0 ∙ high_held _ c.requires c.in-6.is

returns-in-5 : tie.Need-returns-in-5
returns-in-5 c = ap (λ (n : ℕ). n + 2) c.base_words-in-5.ensures.0 ∙ low_held _ c.requires c.in-5.is

returns-in_default : tie.Need-returns-in_default
returns-in_default c = one_held _ c.requires c.if-awaits-eq0.false c.in_default.in_default-own.rest.0.0.1 c.in_default.in_default-own.rest.0.1 c.in_default.in_default-own.rest.1

pub held_words_spec : {M : Type 1} → statement M
held_words_spec =
    tie.close
    (tie.spec
    returns-then-awaits-eq0
    base_words-requires
    base_words-requires-in-6
    overflow_add-result
    base_words-requires-in-5
    overflow_add-result-in-5
    returns-in-7
    returns-in-6
    returns-in-5
    returns-in_default)
