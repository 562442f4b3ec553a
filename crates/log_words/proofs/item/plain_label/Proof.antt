use Rattle.log_words.proofs.Laying.{side_is, user_label}
use borrow.Author.Tests.{eq-eqb, ne_eqb}
use native.Mathlib.Omega.{arith}
use borrow.Author.Rules.{rules}
use Rattle.log_words.proofs.item.plain_label.Statement.{statement}
use Rattle.log_words.proofs.item.plain_label.Tie as tie

overflow_add-result : tie.Need-overflow_add-result
overflow_add-result c = search rules

returns-then-number-eq7 : tie.Need-returns-then-number-eq7
returns-then-number-eq7 c =
    rw (eq-eqb _ 7 c.if-number-eq7.true) (user_label c.args.bit c.requires.2, omega arith)

overflow_sub-result : tie.Need-overflow_sub-result
overflow_sub-result c = search rules

overflow_mul-result : tie.Need-overflow_mul-result
overflow_mul-result c = search rules

overflow_sub-result-2 : tie.Need-overflow_sub-result-2
overflow_sub-result-2 c = search rules

returns : tie.Need-returns
returns c =
    rw (ne_eqb _ 7 c.if-number-eq7.false) (side_is _ c.args.bit c.requires.2, omega arith)

pub plain_label_spec : {M : Type 1} → statement M
plain_label_spec =
    tie.close (tie.spec overflow_add-result returns-then-number-eq7 overflow_sub-result overflow_mul-result overflow_sub-result-2 returns)
