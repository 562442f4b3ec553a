use Prim.Native.Nat.{ℕ, ◌*◌, ◌/◌}
use native.Mathlib.Omega.{arith}
use borrow.Author.Rules.{rules}
use mathlib.Core.Path.{ap, ◌∙◌}
use Rattle.format.specs.Laws.Limits.{some_words}
use Rattle.capture_parts.proofs.groups_in.Statement.{statement}
use Rattle.capture_parts.proofs.groups_in.Tie as tie

group_words-requires : tie.Need-group_words-requires
group_words-requires c κs = search rules

overflow_mul-group_words : tie.Need-overflow_mul-group_words
overflow_mul-group_words c = search rules

quotient-requires : tie.Need-quotient-requires
quotient-requires c κs =
    let s = c.before in
    let w = c.group_words.ensures in
    (omega (arith, s.requires.1), omega (arith, w.0, some_words _ s.requires.0), omega (arith, w.1))

returns : tie.Need-returns
returns c = let s = c.before.before in c.quotient.ensures ∙ ap (λ (w : ℕ). s.args.length / (3 * w)) c.group_words.ensures.0

pub groups_in_spec : {M : Type 1} → statement M
groups_in_spec = tie.close (tie.spec group_words-requires overflow_mul-group_words quotient-requires returns)
