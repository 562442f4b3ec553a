use borrow.Author.Tests.{eq-eqb, ne_eqb, lt-ltb, le-ltb, le-leb, lt-leb}
use borrow.Author.Rules.{rules}
use Rattle.log_read.proofs.faults.response_in_time.Statement.{statement}
use Rattle.log_read.proofs.faults.response_in_time.Tie as tie

enum_told-1 : tie.Need-enum_told-1
enum_told-1 c = search rules

enum_known-response : tie.Need-enum_known-response
enum_known-response c = search rules

returns-in-Untimed : tie.Need-returns-in-Untimed
returns-in-Untimed c = simp c.in-Untimed.is

returns-in-After : tie.Need-returns-in-After
returns-in-After c = simp c.in-After.is

pub response_in_time_spec : {M : Type 1} → statement M
response_in_time_spec = tie.close (tie.spec enum_told-1 enum_known-response returns-in-Untimed returns-in-After)
