use mathlib.Core.Path.{◌≡◌}
use Rattle.log_edit.proofs.Later.{Goes, goes_more, goes_over, goes_start}
use Rattle.format.specs.Laws.Front.{front_long}
use lib.ListN.{length}
use Prim.Native.Nat.{◌-◌, ◌≤◌, ◌<◌}
use native.Mathlib.Omega.{arith}
use borrow.Author.Rules.{rules}
use Rattle.log_edit.proofs.put_later.Statement.{statement}
use Rattle.log_edit.proofs.put_later.Tie as tie
use Rattle.log_edit.proofs.put_later.Reads as reads
use Rattle.log_edit.proofs.put_later.Lts as lts
use Rattle.log_edit.proofs.pair.Reads as Pair-reads

abbrev invariant-loop-i : tie.invariant-loop-i
invariant-loop-i out₀ before bytes shift last₀ i₀ out last i = (i ≤ length bytes) × (length bytes ≤ length out₀) × (shift < 8) × Goes shift before bytes out₀ out i last

abbrev decreases-loop-i : tie.decreases-loop-i
decreases-loop-i out₀ before bytes shift last₀ i₀ out last i = length bytes - i

loop-i-init : tie.Need-loop-i-init invariant-loop-i decreases-loop-i
loop-i-init c = let q = c.requires in (omega arith, q.1, q.0, goes_start _ _ _ _)

bounds-bytes-i : tie.Need-bounds-bytes-i invariant-loop-i decreases-loop-i
bounds-bytes-i c = search rules

pair-requires : tie.Need-pair-requires invariant-loop-i decreases-loop-i
pair-requires c κs = c.loop-i.invariant.2

bounds-out-i : tie.Need-bounds-out-i invariant-loop-i decreases-loop-i
bounds-out-i c = let o = c.loop-i.invariant in omega (arith, o.1, front_long o.3.front, c.loop-i-test.true)

overflow_add-i : tie.Need-overflow_add-i invariant-loop-i decreases-loop-i
overflow_add-i c = search rules

loop-i-smaller : tie.Need-loop-i-smaller invariant-loop-i decreases-loop-i
loop-i-smaller c = search rules

loop-i-preserved : tie.Need-loop-i-preserved invariant-loop-i decreases-loop-i
loop-i-preserved c = let o = c.loop-i.invariant in
    let t = c.loop-i-test.true in
    (omega (arith, t), o.1, o.2, rw c.pair.ensures (goes_more o.3 t o.1))

shape_of-out : tie.Need-shape_of-out invariant-loop-i decreases-loop-i
shape_of-out c = front_long c.loop-i.invariant.3.front

returns : tie.Need-returns invariant-loop-i decreases-loop-i
returns c = let e : c.loop-i.i ≡ length c.args.bytes.now = omega
    (arith, c.loop-i.invariant.0, c.loop-i-test.false) in goes_over c.loop-i.invariant.3 e

pub put_later_spec : {M : Type 1} → statement M
put_later_spec =
    tie.close
    (tie.spec
    invariant-loop-i
    decreases-loop-i
    loop-i-init
    bounds-bytes-i
    pair-requires
    bounds-out-i
    overflow_add-i
    loop-i-smaller
    loop-i-preserved
    shape_of-out
    returns)
