use Rattle.log_walk.proofs.Fields.{window_top}
use Rattle.format.specs.Laws.Bits.{length_bytes}
use Rattle.format.specs.Log.{field}
use Rattle.format.specs.Bits.{bytes_bits, num_of, num_from}
use mathlib.Core.Path.{refl, sym}
use native.Mathlib.Omega.{arith}
use borrow.Author.Rules.{rules}
use Rattle.log_walk.proofs.behind_number.Statement.{statement}
use Rattle.log_walk.proofs.behind_number.Tie as tie
use Rattle.log_walk.proofs.behind_number.Reads as reads
use Rattle.log_walk.proofs.behind_number.Lts as lts
use Rattle.log_walk.proofs.window.Reads as window-reads

returns-then-bits-eq0 : tie.Need-returns-then-bits-eq0
unfolding field num_of num_from
returns-then-bits-eq0 c = rw c.if-bits-eq0.true refl

window-requires : tie.Need-window-requires
window-requires c κs = search rules

overflow_sub-result : tie.Need-overflow_sub-result
overflow_sub-result c = search rules

overflow_cast-result : tie.Need-overflow_cast-result
overflow_cast-result c = search rules

overflow_shr-result : tie.Need-overflow_shr-result
overflow_shr-result c = search rules

returns : tie.Need-returns
returns c =
    let a = c.args in
    let q = c.requires in
    sym (window_top (bytes_bits a.log.now) a.at c.window.result a.bits c.window.ensures (omega arith) q.1 (omega (arith, q.0, length_bytes a.log.now)))

pub behind_number_spec : {M : Type 1} → statement M
behind_number_spec =
    tie.close (tie.spec returns-then-bits-eq0 window-requires overflow_sub-result overflow_cast-result overflow_shr-result returns)
