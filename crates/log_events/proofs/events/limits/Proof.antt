use mathlib.Core.Path.{refl, sym, ◌∙◌}
use borrow.Author.Tests.{le-leb, lt-leb}
use borrow.Author.Rules.{rules}
use Rattle.log_events.proofs.events.limits.Statement.{statement}
use Rattle.log_events.proofs.events.limits.Tie as tie

returns-then-events-gt65535 : tie.Need-returns-then-events-gt65535
returns-then-events-gt65535 c = rw (lt-leb c.args.events 65535 c.if-events-gt65535.true) refl

within-requires : tie.Need-within-requires
within-requires c κs = search rules

returns-then-not-within : tie.Need-returns-then-not-within
returns-then-not-within c =
    let within = c.before in
    rw (le-leb within.args.events 65535 within.if-events-gt65535.false, sym within.within.ensures ∙ c.if-not-within.true) refl

within-requires-2 : tie.Need-within-requires-2
within-requires-2 c κs = search rules

returns : tie.Need-returns
returns c =
    let within = c.before.before in
    rw (le-leb within.args.events 65535 within.if-events-gt65535.false, sym within.within.ensures ∙ c.if-not-within.false)
    c.within-2.ensures

pub limits_spec : {M : Type 1} → statement M
limits_spec = tie.close (tie.spec returns-then-events-gt65535 within-requires returns-then-not-within within-requires-2 returns)
