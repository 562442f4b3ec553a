use Rattle.log_close.proofs.Giving.{all_made, fault_made}
use mathlib.Core.Path.{refl, sym, ◌∙◌}
use borrow.Author.Rules.{rules}
use Rattle.log_close.proofs.finish.Statement.{statement}
use Rattle.log_close.proofs.finish.Tie as tie
use Rattle.log_close.proofs.finish.Reads as reads
use Rattle.log_close.proofs.finish.Lts as lts
use Rattle.log_close.proofs.give.Reads as give-reads
use Rattle.log_close.proofs.refusal.Reads as refusal-reads

enum_known-put : tie.Need-enum_known-put
enum_known-put c = search rules

give-requires : tie.Need-give-requires
give-requires c κs = rw c.in-All.is at c.requires

enum_known-put-in-Fault-1 : tie.Need-enum_known-put-in-Fault-1
enum_known-put-in-Fault-1 c = search rules

refusal-requires : tie.Need-refusal-requires
refusal-requires c κs = search rules

shape_of-built : tie.Need-shape_of-built
shape_of-built c = search rules

shape_of-out : tie.Need-shape_of-out
shape_of-out c = search rules

returns-in-All : tie.Need-returns-in-All
returns-in-All c = λ row most s. all_made row most _ _ _ _ _ _ _ s c.in-All.is c.give.ensures

returns-in-Fault : tie.Need-returns-in-Fault
returns-in-Fault c = λ row most s. fault_made row most _ _ _ _ _ _ _ s c.in-Fault.is c.refusal.ensures

pub finish_spec : {M : Type 1} → statement M
finish_spec =
    tie.close
    (tie.spec
    enum_known-put
    give-requires
    enum_known-put-in-Fault-1
    refusal-requires
    shape_of-built
    shape_of-out
    returns-in-All
    returns-in-Fault)
