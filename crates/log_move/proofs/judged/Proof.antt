use Rattle.log_move.proofs.Moving.{judged_fault, judged_is}
use Rattle.format.specs.Log.{on_no_plan, parsed}
use borrow.Author.Rules.{rules}
use Rattle.log_move.proofs.judged.Statement.{statement}
use Rattle.log_move.proofs.judged.Tie as tie
use Rattle.log_move.proofs.judged.Reads as reads
use Rattle.log_move.proofs.judged.Lts as lts
use Rattle.log_read.proofs.parse.Reads as parse-reads

parse-requires : tie.Need-parse-requires
parse-requires c κs = search rules

enum_told-1 : tie.Need-enum_told-1
enum_told-1 c = search rules

enum_known-number : tie.Need-enum_known-number
enum_known-number c = search rules

returns-in-Items : tie.Need-returns-in-Items
returns-in-Items c = judged_is (parsed on_no_plan c.args.log.now) c.args.place c.parse.result c.parse.ensures _ _ c.in-Items.is

returns-in-Fault : tie.Need-returns-in-Fault
returns-in-Fault c = judged_fault (parsed on_no_plan c.args.log.now) c.args.place c.parse.result c.parse.ensures _ _ c.in-Fault.is

pub judged_spec : {M : Type 1} → statement M
judged_spec = tie.close (tie.spec parse-requires enum_told-1 enum_known-number returns-in-Items returns-in-Fault)
