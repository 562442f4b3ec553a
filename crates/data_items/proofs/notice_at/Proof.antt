use native.Mathlib.Omega.{arith}
use mathlib.Core.Path.{sym, ◌∙◌}
use Rattle.data_items.proofs.Arms.{here_none, notice_fits, notice_taken, top_low}
use borrow.Author.Rules.{rules}
use Rattle.data_items.proofs.notice_at.Statement.{statement}
use Rattle.data_items.proofs.notice_at.Tie as tie

abbrev before-is_pair : tie.After-is_pair → tie.Start
before-is_pair c = c.before.before.before.before

abbrev before-then1 : tie.Then-is_pair → tie.After-is_pair
before-then1 c = c.before

abbrev before-notice : tie.After-notice-item → tie.Then-is_pair
before-notice c = c.before

abbrev before-put_in : tie.After-put_in-put → tie.After-notice-item
before-put_in c = c.before.before

abbrev start-then1 : tie.Then-is_pair → tie.Start
start-then1 c = c.before.before.before.before.before

abbrev start-notice : tie.After-notice-item → tie.Start
start-notice c = c.before.before.before.before.before.before

abbrev start-put_in : tie.After-put_in-put → tie.Start
start-put_in c = c.before.before.before.before.before.before.before.before

is_pair-requires : tie.Need-is_pair-requires
is_pair-requires c κs = search rules

notice-item-requires : tie.Need-notice-item-requires
notice-item-requires c κs = (omega (arith, top_low (start-then1 c).requires.0), omega arith, sym (before-then1 c).is_pair.ensures ∙ c.if-is_pair.true)

put_in-put-requires : tie.Need-put_in-put-requires
put_in-put-requires c κs = (
  omega (arith, (start-notice c.before).requires.0.few),
  omega arith,
  notice_fits (start-notice c.before).requires.0
      (start-notice c.before).requires.1 (sym (before-then1 (before-notice c.before)).is_pair.ensures ∙ (before-notice c.before).if-is_pair.true)
      c.notice-item.ensures,
  omega (arith, (start-notice c.before).requires.0.room),
)

overflow_add-behind : tie.Need-overflow_add-behind
overflow_add-behind c = omega (arith, (start-put_in c.before.before.before).requires.0.five, (start-put_in c.before.before.before).requires.0.short)

shape_of-out-then-is_pair : tie.Need-shape_of-out-then-is_pair
shape_of-out-then-is_pair c = search rules

returns-then-is_pair : tie.Need-returns-then-is_pair
returns-then-is_pair c = λ ks k. notice_taken (start-put_in c.before.before.before).requires.0 (start-put_in c.before.before.before).requires.1
    (sym (before-then1 (before-notice (before-put_in c.before.before.before))).is_pair.ensures ∙
    (before-notice (before-put_in c.before.before.before)).if-is_pair.true) (before-put_in c.before.before.before).notice-item.ensures ks k
    c.put_in-put.ensures

returns : tie.Need-returns
returns c = λ ks k. here_none (before-is_pair c.before).requires.0

pub notice_at_spec : {M : Type 1} → statement M
notice_at_spec =
    tie.close
    (tie.spec
    is_pair-requires
    notice-item-requires
    put_in-put-requires
    overflow_add-behind
    shape_of-out-then-is_pair
    returns-then-is_pair
    returns)
