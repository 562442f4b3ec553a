use Rattle.format.specs.Log.{items, on_no_plan, parsed}
use mathlib.Core.Path.{◌≡◌}
use Rattle.log_rules.specs.Items.{items_of}
use Rattle.log_rules.specs.Laws.Faults.{log_short}
use Rattle.log_check.proofs.Judging.{tallied, profiled_judged, profiled_refused}
use borrow.Author.Rules.{rules}
use Rattle.log_check.proofs.profile.Statement.{statement}
use Rattle.log_check.proofs.profile.Tie as tie

-- where the log has no fault
parses : (c : tie.In-Items) → let r = parsed on_no_plan c.args.log.now in r ≡ items (items_of r)
parses c =
    tallied c.args.log.now c.parse-tally.result _ _ c.parse-tally.ensures
    c.in-Items.is

parse-tally-requires : tie.Need-parse-tally-requires
parse-tally-requires c κs = search rules

enum_told-1 : tie.Need-enum_told-1
enum_told-1 c = search rules

judge-requires : tie.Need-judge-requires
judge-requires c κs = (log_short c.args.log.now _ (parses c), parses c)

enum_known-tally : tie.Need-enum_known-tally
enum_known-tally c = search rules

answer-requires : tie.Need-answer-requires
answer-requires c κs = search rules

returns-in-Items : tie.Need-returns-in-Items
returns-in-Items c = rw (profiled_judged c.args.log.now (parses c.before)) c.judge.ensures

returns-in-Fault : tie.Need-returns-in-Fault
returns-in-Fault c =
    let parse = c.parse-tally in
    rw (profiled_refused c.args.log.now _ _ parse.result parse.ensures c.in-Fault.is)
    c.answer.ensures

pub profile_spec : {M : Type 1} → statement M
profile_spec =
    tie.close
    (tie.spec
    parse-tally-requires
    enum_told-1
    judge-requires
    enum_known-tally
    answer-requires
    returns-in-Items
    returns-in-Fault)
