use borrow.Author.Tests.{eq-eqb, ne_eqb, lt-ltb, le-ltb, le-leb, lt-leb}
use borrow.Author.Rules.{rules}
use Rattle.log_read.proofs.faults.tag_in_time.Statement.{statement}
use Rattle.log_read.proofs.faults.tag_in_time.Tie as tie

enum_told-1 : tie.Need-enum_told-1
enum_told-1 c = search rules

enum_known-tag : tie.Need-enum_known-tag
enum_known-tag c = search rules

returns-in-Untagged : tie.Need-returns-in-Untagged
returns-in-Untagged c = simp c.in-Untagged.is

returns-in-At : tie.Need-returns-in-At
returns-in-At c = simp c.in-At.is

pub tag_in_time_spec : {M : Type 1} → statement M
tag_in_time_spec = tie.close (tie.spec enum_told-1 enum_known-tag returns-in-Untagged returns-in-At)
