use Rattle.log_words.proofs.Row.{puts_more}
use Rattle.log_words.specs.Laid as laid
use borrow.Author.Tests.{lt-ltb, le-ltb}
use mathlib.Core.Path.{refl}
use native.Mathlib.Omega.{arith}
use borrow.Author.Rules.{rules}
use Rattle.log_words.proofs.put.lay_timed.Statement.{statement}
use Rattle.log_words.proofs.put.lay_timed.Tie as tie

-- where the response time's word was put and the tests were made; where it was taken
abbrev first : tie.After-put-next → tie.After-put-first
first c = c.before.before.before.before

abbrev timely : tie.After-put-first → tie.Then-response-lt10000
timely c = c.before.before.before

abbrev took : tie.Then-response-lt10000 → tie.After-take-response
took c = c.before.before.before.before.before

take-response-requires : tie.Need-take-response-requires
take-response-requires c κs = search rules

fault-requires : tie.Need-fault-requires
fault-requires c κs = search rules

returns-then-total-response : tie.Need-returns-then-total-response
returns-then-total-response c =
    let t = c.take-response in
    laid.short (omega (arith, c.if-total-response.true, t.ensures.2)) c.fault.ensures refl

join-requires : tie.Need-join-requires
join-requires c κs = search rules

put-first-requires : tie.Need-put-first-requires
put-first-requires c κs = search rules

put-next-requires : tie.Need-put-next-requires
put-next-requires c κs = search rules

shape_of-words-then-response-lt10000 : tie.Need-shape_of-words-then-response-lt10000
shape_of-words-then-response-lt10000 c = search rules

returns-then-response-lt10000 : tie.Need-returns-then-response-lt10000
returns-then-response-lt10000 c =
    let two = c.before.before in
    let one = first two in
    let m = timely one in
    let t = (took m).take-response in
    rw (← t.ensures.0, ← t.ensures.2, ← one.join.ensures)
    (laid.put m.if-total-response.false m.if-stands.true (lt-ltb _ 10000 m.if-response-lt10000.true) refl refl
    (puts_more one.put-first.ensures two.put-next.ensures (omega (arith, (took m).requires))))

fault-requires-then-stands : tie.Need-fault-requires-then-stands
fault-requires-then-stands c κs = search rules

returns-then-stands : tie.Need-returns-then-stands
returns-then-stands c =
    let t = c.take-response in
    rw (← t.ensures.0, ← t.ensures.2)
    (laid.past c.if-total-response.false c.if-stands.true (le-ltb _ 10000 c.if-response-lt10000.false) c.fault-then-stands.ensures refl)

fault-requires-2 : tie.Need-fault-requires-2
fault-requires-2 c κs = search rules

returns : tie.Need-returns
returns c =
    let t = c.take-response in
    laid.misplaced (omega (arith, c.if-total-response.false, t.ensures.2)) c.if-stands.false c.fault-2.ensures refl

pub lay_timed_spec : {M : Type 1} → statement M
lay_timed_spec =
    tie.close
    (tie.spec
    take-response-requires
    fault-requires
    returns-then-total-response
    join-requires
    put-first-requires
    put-next-requires
    shape_of-words-then-response-lt10000
    returns-then-response-lt10000
    fault-requires-then-stands
    returns-then-stands
    fault-requires-2
    returns)
