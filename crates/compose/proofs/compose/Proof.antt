use Rattle.compose.proofs.Answered.{log_long, plan_illegal}
use lib.ListN.{length}
use mathlib.Core.Path.{refl, sym, ◌∙◌}
use borrow.Author.Rules.{rules}
use Rattle.compose.proofs.compose.Statement.{statement}
use Rattle.compose.proofs.compose.Tie as tie

legal-requires : tie.Need-legal-requires
legal-requires c κs = search rules

compose_tiny-requires : tie.Need-compose_tiny-requires
compose_tiny-requires c κs = (sym c.legal.ensures ∙ c.if-legal.true, c.if-log-le40.true)

shape_of-out-then-log-le40 : tie.Need-shape_of-out-then-log-le40
shape_of-out-then-log-le40 c = search rules

returns-then-log-le40 : tie.Need-returns-then-log-le40
returns-then-log-le40 c = search rules

compose_small-requires : tie.Need-compose_small-requires
compose_small-requires c κs = (sym c.legal.ensures ∙ c.if-legal.true, c.if-log-le512.true)

shape_of-out-then-log-le512 : tie.Need-shape_of-out-then-log-le512
shape_of-out-then-log-le512 c = search rules

returns-then-log-le512 : tie.Need-returns-then-log-le512
returns-then-log-le512 c = search rules

compose_middle-requires : tie.Need-compose_middle-requires
compose_middle-requires c κs = (sym c.legal.ensures ∙ c.if-legal.true, c.if-log-le4096.true)

shape_of-out-then-log-le4096 : tie.Need-shape_of-out-then-log-le4096
shape_of-out-then-log-le4096 c = search rules

returns-then-log-le4096 : tie.Need-returns-then-log-le4096
returns-then-log-le4096 c = search rules

compose_large-requires : tie.Need-compose_large-requires
compose_large-requires c κs = (sym c.legal.ensures ∙ c.if-legal.true, c.if-log-le32768.true)

shape_of-out-then-log-le32768 : tie.Need-shape_of-out-then-log-le32768
shape_of-out-then-log-le32768 c = search rules

returns-then-log-le32768 : tie.Need-returns-then-log-le32768
returns-then-log-le32768 c = search rules

refusal-requires : tie.Need-refusal-requires
refusal-requires c κs = search rules

returns-then-legal : tie.Need-returns-then-legal
returns-then-legal c =
    let a = c.args in
    rw (log_long a.plan a.kinds a.log.now a.times.now (length a.out.now) (sym c.legal.ensures ∙ c.if-legal.true) c.if-log-le32768.false) (c.refusal.ensures, refl)

refusal-requires-2 : tie.Need-refusal-requires-2
refusal-requires-2 c κs = search rules

returns : tie.Need-returns
returns c =
    let a = c.args in
    rw (plan_illegal a.plan a.kinds a.log.now a.times.now (length a.out.now) (sym c.legal.ensures ∙ c.if-legal.false)) (c.refusal-2.ensures, refl)

pub compose_spec : {M : Type 1} → statement M
compose_spec =
    tie.close
    (tie.spec
    legal-requires
    compose_tiny-requires
    shape_of-out-then-log-le40
    returns-then-log-le40
    compose_small-requires
    shape_of-out-then-log-le512
    returns-then-log-le512
    compose_middle-requires
    shape_of-out-then-log-le4096
    returns-then-log-le4096
    compose_large-requires
    shape_of-out-then-log-le32768
    returns-then-log-le32768
    refusal-requires
    returns-then-legal
    refusal-requires-2
    returns)
