use borrow.Author.Rules.{rules}
use mathlib.Core.Path.{◌∙◌}
use Rattle.stream_state.proofs.Loads.{other_length}
use Rattle.stream_state.proofs.load.Statement.{statement}
use Rattle.stream_state.proofs.load.Tie as tie
use Rattle.stream_state.proofs.load.Reads as reads
use Rattle.stream_state.proofs.load.Lts as lts
use Rattle.from_c.proofs.time_at.Reads as time-at-reads
use Rattle.stream_state.proofs.ended.Reads as ended-reads
use Rattle.stream_state.proofs.load_closed.Reads as load-closed-reads
use Rattle.stream_state.proofs.load_failed.Reads as load-failed-reads
use Rattle.stream_state.proofs.load_working.Reads as load-working-reads

ended-requires : tie.Need-ended-requires
ended-requires c κs = search rules

returns-then-state-ne7168 : tie.Need-returns-then-state-ne7168
returns-then-state-ne7168 c = c.ended.ensures ∙ other_length c.args.state.now c.if-state-ne7168.true

time_at-stage-requires : tie.Need-time_at-stage-requires
time_at-stage-requires c κs = search rules

load_working-requires : tie.Need-load_working-requires
load_working-requires c κs = search rules

returns-then-stage-eq1025 : tie.Need-returns-then-stage-eq1025
returns-then-stage-eq1025 c = c.load_working.ensures

load_failed-requires : tie.Need-load_failed-requires
load_failed-requires c κs = search rules

returns-then-stage-eq1026 : tie.Need-returns-then-stage-eq1026
returns-then-stage-eq1026 c = c.load_failed.ensures

load_closed-requires : tie.Need-load_closed-requires
load_closed-requires c κs = search rules

returns : tie.Need-returns
returns c = c.load_closed.ensures

pub load_spec : {M : Type 1} → statement M
load_spec =
    tie.close
    (tie.spec
    ended-requires
    returns-then-state-ne7168
    time_at-stage-requires
    load_working-requires
    returns-then-stage-eq1025
    load_failed-requires
    returns-then-stage-eq1026
    load_closed-requires
    returns)
