use Rattle.data_word.proofs.Ending.{finished_is_whole, nothing_is_broken, unfinished_is_broken}
use Rattle.data_word.proofs.begun.Statement.{statement}
use Rattle.data_word.proofs.begun.Tie as tie

returns-then-awaited-eq0 : tie.Need-returns-then-awaited-eq0
returns-then-awaited-eq0 c = nothing_is_broken _ _ _ c.requires c.if-awaited-eq0.true

returns-then-awaited-eq7 : tie.Need-returns-then-awaited-eq7
returns-then-awaited-eq7 c = finished_is_whole _ _ _ c.requires c.if-awaited-eq7.true

returns : tie.Need-returns
returns c = unfinished_is_broken _ _ _ c.requires c.if-awaited-eq0.false c.if-awaited-eq7.false

pub begun_spec : {M : Type 1} → statement M
begun_spec = tie.close (tie.spec returns-then-awaited-eq0 returns-then-awaited-eq7 returns)
