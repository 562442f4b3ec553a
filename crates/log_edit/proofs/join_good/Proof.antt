use Rattle.log_edit.proofs.Joining.{joins_all, joins_beyond, joins_short}
use mathlib.Core.Path.{refl}
use borrow.Author.Rules.{rules}
use Rattle.log_edit.proofs.join_good.Statement.{statement}
use Rattle.log_edit.proofs.join_good.Tie as tie
use Rattle.log_edit.proofs.join_good.Reads as reads
use Rattle.log_edit.proofs.join_good.Lts as lts
use Rattle.log_close.proofs.refusal.Reads as refusal-reads
use Rattle.log_edit.proofs.put_both.Reads as put-both-reads

overflow_add-bytes : tie.Need-overflow_add-bytes
overflow_add-bytes c = search rules

overflow_add-bytes-2 : tie.Need-overflow_add-bytes-2
overflow_add-bytes-2 c = search rules

refusal-requires : tie.Need-refusal-requires
refusal-requires c κs = search rules

returns-then-bytes-gt32768 : tie.Need-returns-then-bytes-gt32768
returns-then-bytes-gt32768 c = let a = c.args in joins_beyond a.first.now a.second.now a.one a.two _ a.out.now _ refl
    c.if-bytes-gt32768.true c.refusal.ensures

refusal-requires-then-out-bytes : tie.Need-refusal-requires-then-out-bytes
refusal-requires-then-out-bytes c κs = search rules

returns-then-out-bytes : tie.Need-returns-then-out-bytes
returns-then-out-bytes c = let a = c.args in joins_short a.first.now a.second.now a.one a.two _
    a.out.now _ refl c.if-bytes-gt32768.false c.if-out-bytes.true c.refusal-then-out-bytes.ensures

put_both-requires : tie.Need-put_both-requires
put_both-requires c κs = search rules

shape_of-out : tie.Need-shape_of-out
shape_of-out c = search rules

returns : tie.Need-returns
returns c = let a = c.args in joins_all a.first.now a.second.now a.one
    a.two _ a.out.now _ refl c.if-bytes-gt32768.false c.if-out-bytes.false
    c.put_both.ensures

pub join_good_spec : {M : Type 1} → statement M
join_good_spec =
    tie.close
    (tie.spec
    overflow_add-bytes
    overflow_add-bytes-2
    refusal-requires
    returns-then-bytes-gt32768
    refusal-requires-then-out-bytes
    returns-then-out-bytes
    put_both-requires
    shape_of-out
    returns)
