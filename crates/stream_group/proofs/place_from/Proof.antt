use borrow.Author.Rules.{rules}
use native.Mathlib.Omega.{arith}
use mathlib.Core.Path.{◌∙◌, ap, sym}
use Prim.Native.Nat.{ℕ, ◌+◌, ◌-◌}
use borrow.Author.Tests.{eq-eqb, ne_eqb}
use Rattle.format.specs.Laws.Limits.{dealt_most, group_most}
use Rattle.format.specs.Plan.{place_of}
use Rattle.stream_group.proofs.Row.{dealt_in}
use Rattle.stream_group.proofs.place_from.Statement.{statement}
use Rattle.stream_group.proofs.place_from.Tie as tie
use Rattle.stream_group.proofs.place_from.Reads as reads
use Rattle.stream_group.proofs.place_from.Lts as lts
use Rattle.group_read.proofs.lead.Reads as lead-reads
use Rattle.group_read.proofs.place_of.Reads as place-of-reads

returns-then-number-eq0 : tie.Need-returns-then-number-eq0
returns-then-number-eq0 c = rw (eq-eqb _ 0 c.if-number-eq0.true)

lead-requires : tie.Need-lead-requires
lead-requires c κs = search rules

overflow_sub-dealt : tie.Need-overflow_sub-dealt
overflow_sub-dealt c = search rules

overflow_add-dealt : tie.Need-overflow_add-dealt
overflow_add-dealt c = omega (arith, c.lead.ensures, c.requires.1, dealt_in _ c.requires.0, dealt_most _ c.requires.0)

place_of-requires : tie.Need-place_of-requires
place_of-requires c κs = (c.requires.0, omega (arith, c.lead.ensures, c.if-number-eq0.false, c.requires.1, dealt_in _ c.requires.0))

overflow_add-result : tie.Need-overflow_add-result
overflow_add-result c = omega (arith, c.place_of.ensures.1, c.requires.2, group_most _ c.requires.0)

returns : tie.Need-returns
returns c =
    let a = c.args in
    rw (ne_eqb a.number 0 c.if-number-eq0.false)
    (ap (λ (q : ℕ). a.at + q) (c.place_of.ensures.0 ∙ ap (λ (n : ℕ). place_of a.plan (n + (a.number - 1))) c.lead.ensures))

pub place_from_spec : {M : Type 1} → statement M
place_from_spec =
    tie.close
    (tie.spec returns-then-number-eq0 lead-requires overflow_sub-dealt overflow_add-dealt place_of-requires overflow_add-result returns)
