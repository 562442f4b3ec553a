use Rattle.data_items.proofs.Arms.{here_none, kind_says, opened_says}
use borrow.Author.Rules.{rules}
use Rattle.data_items.proofs.item_at.Statement.{statement}
use Rattle.data_items.proofs.item_at.Tie as tie

abbrev before-then1 : tie.Then-opening-eq2 → tie.Start
before-then1 c = c.before.before.before

abbrev before-arinc_at : tie.After-arinc_at → tie.Then-opening-eq2
before-arinc_at c = c.before.before

abbrev before-then2 : tie.Then-opening-eq1 → tie.Start
before-then2 c = c.before.before.before.before

abbrev before-command_at : tie.After-command_at → tie.Then-opening-eq1
before-command_at c = c.before.before

abbrev before-then3 : tie.Then-opening-eq3 → tie.Start
before-then3 c = c.before.before.before.before.before

abbrev before-status_at : tie.After-status_at → tie.Then-opening-eq3
before-status_at c = c.before.before

abbrev before-then4 : tie.Then-opening-eq4 → tie.Start
before-then4 c = c.before.before.before.before.before.before

abbrev before-notice_at : tie.After-notice_at → tie.Then-opening-eq4
before-notice_at c = c.before.before

abbrev start-arinc_at : tie.After-arinc_at → tie.Start
start-arinc_at c = c.before.before.before.before.before

abbrev start-command_at : tie.After-command_at → tie.Start
start-command_at c = c.before.before.before.before.before.before

abbrev start-status_at : tie.After-status_at → tie.Start
start-status_at c = c.before.before.before.before.before.before.before

abbrev start-notice_at : tie.After-notice_at → tie.Start
start-notice_at c = c.before.before.before.before.before.before.before.before

arinc_at-requires : tie.Need-arinc_at-requires
arinc_at-requires c κs = let s = (opened_says (before-then1 c.before).requires.0 (before-then1 c.before).requires.1).syllable c.if-opening-eq2.true in
    ((before-then1 c.before).requires.0, s.1, s.2)

shape_of-out-then-opening-eq2 : tie.Need-shape_of-out-then-opening-eq2
shape_of-out-then-opening-eq2 c = search rules

returns-then-opening-eq2 : tie.Need-returns-then-opening-eq2
returns-then-opening-eq2 c = λ ks k. c.arinc_at.ensures ks ((kind_says (start-arinc_at c.before.before).requires.0 ks k).syllable
    (before-arinc_at c.before.before).if-opening-eq2.true).0

command_at-requires : tie.Need-command_at-requires
command_at-requires c κs = let s = (opened_says (before-then2 c.before).requires.0 (before-then2 c.before).requires.1).command c.if-opening-eq1.true in
    ((before-then2 c.before).requires.0, s.1, s.2)

shape_of-out-then-opening-eq1 : tie.Need-shape_of-out-then-opening-eq1
shape_of-out-then-opening-eq1 c = search rules

returns-then-opening-eq1 : tie.Need-returns-then-opening-eq1
returns-then-opening-eq1 c = λ ks k. c.command_at.ensures ks ((kind_says (start-command_at c.before.before).requires.0 ks k).command
    (before-command_at c.before.before).if-opening-eq1.true).0

status_at-requires : tie.Need-status_at-requires
status_at-requires c κs = (
  (before-then3 c.before).requires.0,
  ((opened_says (before-then3 c.before).requires.0 (before-then3 c.before).requires.1).response
      c.if-opening-eq3.true).1,
)

shape_of-out-then-opening-eq3 : tie.Need-shape_of-out-then-opening-eq3
shape_of-out-then-opening-eq3 c = search rules

returns-then-opening-eq3 : tie.Need-returns-then-opening-eq3
returns-then-opening-eq3 c = λ ks k. c.status_at.ensures ks ((kind_says (start-status_at c.before.before).requires.0 ks k).response
    (before-status_at c.before.before).if-opening-eq3.true).0

notice_at-requires : tie.Need-notice_at-requires
notice_at-requires c κs = (
  (before-then4 c.before).requires.0,
  ((opened_says (before-then4 c.before).requires.0 (before-then4 c.before).requires.1).notice
      c.if-opening-eq4.true).1,
)

shape_of-out-then-opening-eq4 : tie.Need-shape_of-out-then-opening-eq4
shape_of-out-then-opening-eq4 c = search rules

returns-then-opening-eq4 : tie.Need-returns-then-opening-eq4
returns-then-opening-eq4 c = λ ks k. c.notice_at.ensures ks ((kind_says (start-notice_at c.before.before).requires.0 ks k).notice
    (before-notice_at c.before.before).if-opening-eq4.true).0

returns : tie.Need-returns
returns c = λ ks k. here_none c.requires.0

pub item_at_spec : {M : Type 1} → statement M
item_at_spec =
    tie.close
    (tie.spec
    arinc_at-requires
    shape_of-out-then-opening-eq2
    returns-then-opening-eq2
    command_at-requires
    shape_of-out-then-opening-eq1
    returns-then-opening-eq1
    status_at-requires
    shape_of-out-then-opening-eq3
    returns-then-opening-eq3
    notice_at-requires
    shape_of-out-then-opening-eq4
    returns-then-opening-eq4
    returns)
