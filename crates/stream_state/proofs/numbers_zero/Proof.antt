use Prim.Native.Nat.{◌+◌, ◌*◌, ◌-◌, ◌≤◌}
use mathlib.Core.Path.{◌≡◌, refl, sym, ◌∙◌}
use native.Mathlib.Omega.{arith}
use lib.ListN.{length}
use Rattle.format.specs.Lists.{list}
use Rattle.stream_state.specs.Layout.{number_at}
use Rattle.stream_state.specs.Parts.{are_zeros}
use Rattle.stream_state.proofs.Runs.{zero_bad, zero_good, zeros_end}
use borrow.Author.Rules.{rules}
use Rattle.stream_state.proofs.numbers_zero.Statement.{statement}
use Rattle.stream_state.proofs.numbers_zero.Tie as tie
use Rattle.stream_state.proofs.numbers_zero.Reads as reads
use Rattle.stream_state.proofs.numbers_zero.Lts as lts
use Rattle.from_c.proofs.time_at.Reads as time-at-reads

abbrev invariant-loop-index : tie.invariant-loop-index
invariant-loop-index state first end index₀ index =
    (first ≤ index) × (index ≤ end) × (8 * end ≤ length state) × (are_zeros (list (number_at state) first (end - first)) ≡ are_zeros (list (number_at state) index (end - index)))

abbrev decreases-loop-index : tie.decreases-loop-index
decreases-loop-index state first end index₀ index = end - index

loop-index-init : tie.Need-loop-index-init invariant-loop-index decreases-loop-index
loop-index-init c = (omega arith, c.requires.0, c.requires.1, refl)

overflow_mul-index : tie.Need-overflow_mul-index invariant-loop-index decreases-loop-index
overflow_mul-index c = search rules

time_at-requires : tie.Need-time_at-requires invariant-loop-index decreases-loop-index
time_at-requires c κs = search rules

returns-then-time_at-ne0 : tie.Need-returns-then-time_at-ne0 invariant-loop-index decreases-loop-index
returns-then-time_at-ne0 c = let o = c.loop-index in let a = c.args in
    sym (o.invariant.3 ∙ zero_bad (number_at a.state.now) o.index a.end c.loop-index-test.true (λ z. c.if-time_at-ne0.true (c.time_at.ensures ∙ z)))

overflow_add-index : tie.Need-overflow_add-index invariant-loop-index decreases-loop-index
overflow_add-index c = search rules

loop-index-smaller : tie.Need-loop-index-smaller invariant-loop-index decreases-loop-index
loop-index-smaller c = search rules

loop-index-preserved : tie.Need-loop-index-preserved invariant-loop-index decreases-loop-index
loop-index-preserved c = let t = c.before.before in
    let o = t.loop-index in
    let a = t.args in
    let e = zero_good (number_at a.state.now) o.index a.end t.loop-index-test.true (sym c.time_at.ensures ∙ c.if-time_at-ne0.false) in
    (omega (arith, o.invariant.0), omega (arith, t.loop-index-test.true), o.invariant.2, o.invariant.3 ∙ e)

returns : tie.Need-returns invariant-loop-index decreases-loop-index
returns c = let o = c.loop-index in let a = c.args in
    sym (o.invariant.3 ∙ zeros_end (number_at a.state.now) o.index a.end (omega arith))

pub numbers_zero_spec : {M : Type 1} → statement M
numbers_zero_spec =
    tie.close
    (tie.spec
    invariant-loop-index
    decreases-loop-index
    loop-index-init
    overflow_mul-index
    time_at-requires
    returns-then-time_at-ne0
    overflow_add-index
    loop-index-smaller
    loop-index-preserved
    returns)
