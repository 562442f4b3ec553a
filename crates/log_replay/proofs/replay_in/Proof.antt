use Rattle.log_replay.proofs.Giving.{enough_still, replayed_ready}
use Rattle.log_rules.specs.Replay.{empty_buffer, replay}
use Rattle.log_rules.specs.Items.{items_of}
use Rattle.format.specs.Log.{on_no_plan, parsed}
use lib.ListN.{length}
use borrow.Author.Rules.{rules}
use Rattle.log_replay.proofs.replay_in.Statement.{statement}
use Rattle.log_replay.proofs.replay_in.Tie as tie

run-state-requires : tie.Need-run-state-requires
run-state-requires c κs = search rules

give-requires : tie.Need-give-requires
give-requires c κs =
    let run = c.before.before.before.before in
    (run.run-state.ensures.1, enough_still _ _ _ c.built-1.given run.requires.1)

shape_of-out : tie.Need-shape_of-out
shape_of-out c = search rules

shape_of-built : tie.Need-shape_of-built
shape_of-built c = search rules

returns : tie.Need-returns
returns c =
    let give = c.before.before.before.before in
    let run = give.before.before.before.before.before in
    let start = run.before.before.before.before.before.before in
    let a = start.args in
    rw (replayed_ready a.log.now a.events.now a.capacity a.slots (length a.out.now) start.requires.0)
    (give.give.ensures (replay a.capacity a.slots a.events.now (items_of (parsed on_no_plan a.log.now)) empty_buffer) run.run-state.ensures.0)

pub replay_in_spec : {M : Type 1} → statement M
replay_in_spec = tie.close (tie.spec run-state-requires give-requires shape_of-out shape_of-built returns)
