use Rattle.log_events.proofs.Marks.{tallied, judged_refused, faulty_refused}
use Rattle.log_events.specs.Refused.{verdict_of}
use Rattle.log_rules.specs.Laws.Faults.{log_short}
use Rattle.log_rules.specs.Items.{items_of}
use Rattle.format.specs.Log.{items, on_no_plan, parsed}
use lib.ListN.{length}
use mathlib.Core.Path.{◌≡◌, refl, ap, ◌∙◌}
use borrow.Author.Rules.{rules}
use Rattle.log_events.proofs.refusals.refused_by.Statement.{statement}
use Rattle.log_events.proofs.refusals.refused_by.Tie as tie

-- where the log has no fault: its items, and how many
parses : (c : tie.In-Items) → let r = parsed on_no_plan c.args.log.now in
    (r ≡ items (items_of r)) × (c.in-Items.items ≡ length (items_of r))
parses c =
    tallied c.args.log.now c.parse.result _ _ c.parse.ensures
    c.in-Items.is

parse-requires : tie.Need-parse-requires
parse-requires c κs = search rules

enum_known-items : tie.Need-enum_known-items
enum_known-items c = search rules

judge-requires : tie.Need-judge-requires
judge-requires c κs = (log_short c.args.log.now _ (parses c).0, (parses c).0)

enum_known-number : tie.Need-enum_known-number
enum_known-number c = search rules

returns-in-Items : tie.Need-returns-in-Items
returns-in-Items c =
    let a = c.args in
    c.judge.ensures ∙ ap verdict_of (judged_refused a.events.now a.capacity a.slots _ _ (parses c.before).0 (parses c.before).1)

returns-in-Fault : tie.Need-returns-in-Fault
returns-in-Fault c =
    let parse = c.before in
    let a = parse.args in
    rw (faulty_refused a.log.now parse.parse.result _ _ parse.parse.ensures c.in-Fault.is a.events.now a.capacity a.slots) refl

pub refused_by_spec : {M : Type 1} → statement M
refused_by_spec =
    tie.close
    (tie.spec parse-requires enum_known-items judge-requires enum_known-number returns-in-Items returns-in-Fault)
