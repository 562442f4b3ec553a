use mathlib.Core.Path.{refl, sym, ◌∙◌}
use borrow.Author.Tests.{eq-eqb, ne_eqb}
use Rattle.stream_calls.proofs.Refused.{within_close, within_long, within_stage}
use Rattle.stream_calls.proofs.within.Statement.{statement}
use Rattle.stream_calls.proofs.within.Tie as tie

returns-then-piece-gt4096 : tie.Need-returns-then-piece-gt4096
returns-then-piece-gt4096 c = let a = c.args in sym (within_long a.stage a.piece a.log_room c.if-piece-gt4096.true)

returns-then-log_room-lt12288 : tie.Need-returns-then-log_room-lt12288
returns-then-log_room-lt12288 c = let a = c.args in sym (within_close a.stage a.piece a.log_room c.if-log_room-lt12288.true)

returns-then-stage-eq1 : tie.Need-returns-then-stage-eq1
returns-then-stage-eq1 c =
    let a = c.args in
    sym (within_stage a.stage a.piece a.log_room c.if-piece-gt4096.false c.if-log_room-lt12288.false ∙ rw (eq-eqb a.stage 1 c.if-stage-eq1.true) refl)

returns : tie.Need-returns
returns c =
    let a = c.args in
    sym (within_stage a.stage a.piece a.log_room c.if-piece-gt4096.false c.if-log_room-lt12288.false ∙ rw (ne_eqb a.stage 1 c.if-stage-eq1.false) refl)

pub within_spec : {M : Type 1} → statement M
within_spec = tie.close (tie.spec returns-then-piece-gt4096 returns-then-log_room-lt12288 returns-then-stage-eq1 returns)
