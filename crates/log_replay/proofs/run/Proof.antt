use Rattle.log_replay.proofs.Running.{Running, running_more, running_over, running_small, running_start}
use lib.ListN.{length}
use mathlib.Core.Path.{◌≡◌, refl, ◌∙◌}
use native.Mathlib.Omega.{arith}
use Prim.Native.Nat.{◌-◌, ◌≤◌}
use borrow.Author.Rules.{rules}
use Rattle.log_replay.proofs.run.Statement.{statement}
use Rattle.log_replay.proofs.run.Tie as tie

abbrev invariant-loop-i : tie.invariant-loop-i
invariant-loop-i log events capacity slots built₀ state₀ i₀ built state i = (i ≤ length events) × (length built ≡ length built₀) × Running log events capacity slots built state i

abbrev decreases-loop-i : tie.decreases-loop-i
decreases-loop-i log events capacity slots built₀ state₀ i₀ built state i = length events - i

start-state-requires : tie.Need-start-state-requires invariant-loop-i decreases-loop-i
start-state-requires c κs = search rules

loop-i-init : tie.Need-loop-i-init invariant-loop-i decreases-loop-i
loop-i-init c =
    let start = c.before.before.before.before in
    let a = start.args in
    (omega arith, refl, rw c.start-state.ensures (running_start a.log.now a.events.now a.capacity a.slots start.requires a.built.now))

bounds-events-i : tie.Need-bounds-events-i invariant-loop-i decreases-loop-i
bounds-events-i c = search rules

turn-state-requires : tie.Need-turn-state-requires invariant-loop-i decreases-loop-i
turn-state-requires c κs =
    let o = c.before.before.before in
    let start = o.before.before.before.before.before in
    let a = start.args in
    let h = running_small a.log.now a.events.now a.capacity a.slots start.requires o.loop-i.invariant.2 o.loop-i.invariant.0 in
    (start.requires.0, h.0, h.1)

overflow_add-i : tie.Need-overflow_add-i invariant-loop-i decreases-loop-i
overflow_add-i c = search rules

loop-i-smaller : tie.Need-loop-i-smaller invariant-loop-i decreases-loop-i
loop-i-smaller c = search rules

loop-i-preserved : tie.Need-loop-i-preserved invariant-loop-i decreases-loop-i
loop-i-preserved c =
    let turn = c.before.before in
    let test = turn.before.before.before in
    let o = test.before in
    let start = o.before.before.before.before.before in
    let a = start.args in (
      omega arith,
      c.built-1.given ∙ o.loop-i.invariant.1,
      running_more a.log.now a.events.now a.capacity a.slots start.requires o.loop-i.invariant.2 _ _ test.loop-i-test.true turn.turn-state.ensures,
    )

shape_of-built : tie.Need-shape_of-built invariant-loop-i decreases-loop-i
shape_of-built c = c.loop-i.invariant.1

returns : tie.Need-returns invariant-loop-i decreases-loop-i
returns c =
    let o = c.before in
    let start = o.before.before.before.before.before in
    let a = start.args in
    running_over a.log.now a.events.now a.capacity a.slots start.requires o.loop-i.invariant.2 o.loop-i.invariant.0 c.loop-i-test.false

pub run_spec : {M : Type 1} → statement M
run_spec =
    tie.close
    (tie.spec
    invariant-loop-i
    decreases-loop-i
    start-state-requires
    loop-i-init
    bounds-events-i
    turn-state-requires
    overflow_add-i
    loop-i-smaller
    loop-i-preserved
    shape_of-built
    returns)
