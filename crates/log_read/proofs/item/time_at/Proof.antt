use Rattle.log_read.proofs.Table.{tagged_read}
use Rattle.log_read.proofs.Eight.{filled_ahead}
use Rattle.format.specs.Laws.Bits.{length_bytes}
use mathlib.Core.Path.{sym}
use native.Mathlib.Omega.{arith}
use borrow.Author.Rules.{rules}
use Rattle.log_read.proofs.item.time_at.Statement.{statement}
use Rattle.log_read.proofs.item.time_at.Tie as tie

filled-requires : tie.Need-filled-requires
filled-requires c κs = search rules

tagged-tag-requires : tie.Need-tagged-tag-requires
tagged-tag-requires c κs = search rules

overflow_cast-result : tie.Need-overflow_cast-result
overflow_cast-result c = search rules

overflow_cast-result-2 : tie.Need-overflow_cast-result-2
overflow_cast-result-2 c = search rules

overflow_cast-result-3 : tie.Need-overflow_cast-result-3
overflow_cast-result-3 c = search rules

returns : tie.Need-returns
returns c =
    let t = c.before.before.before in
    let log = t.args.log.now in
    λ l. rw t.tagged-tag.ensures.0 (sym (tagged_read (filled_ahead log _ t.filled.ensures.0) (omega arith) (omega arith) (omega (arith, l, length_bytes log))))

pub time_at_spec : {M : Type 1} → statement M
time_at_spec = tie.close (tie.spec filled-requires tagged-tag-requires overflow_cast-result overflow_cast-result-2 overflow_cast-result-3 returns)
