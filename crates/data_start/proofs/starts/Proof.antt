use mathlib.Core.Path.{◌∙◌}
use native.Mathlib.Omega.{arith}
use Rattle.data_start.proofs.Openers.{Says, opened_says, single_starts}
use borrow.Author.Rules.{rules}
use Rattle.data_start.proofs.starts.Statement.{statement}
use Rattle.data_start.proofs.starts.Tie as tie

abbrev entry : tie.After-opens-opened → tie.Start
entry c = c.before

says : (c : tie.After-opens-opened) → Says (entry c).args.kind (entry c).args.label c.opens-opened.result
says c = opened_says (entry c).args.kind (entry c).args.label (entry c).requires.1 c.opens-opened.ensures

opens-opened-requires : tie.Need-opens-opened-requires
opens-opened-requires c κs = search rules

single-one-requires : tie.Need-single-one-requires
single-one-requires c κs = ((says c.before).low, (entry c.before).requires.0, (entry c.before).requires.2)

ends-requires : tie.Need-ends-requires
ends-requires c κs = search rules

returns-then-opened-ge8 : tie.Need-returns-then-opened-ge8
returns-then-opened-ge8 c = let e = entry c.before.before.before in
    c.ends.ensures ∙ single_starts (says c.before.before.before) c.if-opened-ge8.true e.args.first e.args.width e.args.bus
    e.args.information e.args.held c.single-one.ensures

command-requires : tie.Need-command-requires
command-requires c κs = let e = entry c.before.before in let k = (says c.before.before).command c.in-1.is in (e.requires.0, k.1, e.requires.1, k.2, e.requires.2)

syllable-requires : tie.Need-syllable-requires
syllable-requires c κs = let e = entry c.before.before in let k = (says c.before.before).syllable c.in-2.is in (e.requires.0, k.1, e.requires.1, k.2, e.requires.2)

starts_response-requires : tie.Need-starts_response-requires
starts_response-requires c κs = search rules

starts_notice-requires : tie.Need-starts_notice-requires
starts_notice-requires c κs = search rules

refused-requires : tie.Need-refused-requires
refused-requires c κs = search rules

returns-in-1 : tie.Need-returns-in-1
returns-in-1 c = rw ((says c.before.before.before).command c.in-1.is).0 (c.command.ensures _)

returns-in-2 : tie.Need-returns-in-2
returns-in-2 c = rw ((says c.before.before.before).syllable c.in-2.is).0 (c.syllable.ensures _)

returns-in-3 : tie.Need-returns-in-3
returns-in-3 c = let k = (says c.before.before.before).response c.in-3.is in rw (k.0, k.1) c.starts_response.ensures

returns-in-4 : tie.Need-returns-in-4
returns-in-4 c = let k = (says c.before.before.before).notice c.in-4.is in rw (k.0, k.1) c.starts_notice.ensures

returns-in_default : tie.Need-returns-in_default
returns-in_default c = let r = c.in_default.in_default-own.rest in
    rw ((says c.before.before.before).nothing (omega (arith, c.if-opened-ge8.false)) r.0.0.0.1 r.0.0.1 r.0.1 r.1 _ _) c.refused.ensures

pub starts_spec : {M : Type 1} → statement M
starts_spec =
    tie.close
    (tie.spec
    opens-opened-requires
    single-one-requires
    ends-requires
    returns-then-opened-ge8
    command-requires
    syllable-requires
    starts_response-requires
    starts_notice-requires
    refused-requires
    returns-in-1
    returns-in-2
    returns-in-3
    returns-in-4
    returns-in_default)
