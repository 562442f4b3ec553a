use Rattle.log_words.proofs.Laying.{none_left_over, none_zero}
use Rattle.log_words.specs.Laid.{cut}
use Rattle.format.specs.Laws.Bits.{length_bytes}
use mathlib.Core.Path.{refl, sym, ◌∙◌}
use native.Mathlib.Omega.{arith}
use borrow.Author.Rules.{rules}
use Rattle.log_words.proofs.item.lay_other.Statement.{statement}
use Rattle.log_words.proofs.item.lay_other.Tie as tie

is_plain-requires : tie.Need-is_plain-requires
is_plain-requires c κs = search rules

overflow_mul-log : tie.Need-overflow_mul-log
overflow_mul-log c = search rules

lay_plain-requires : tie.Need-lay_plain-requires
lay_plain-requires c κs =
    (omega arith, omega arith, omega arith, sym c.is_plain.ensures ∙ c.if-is_plain.true)

shape_of-words-then-is_plain : tie.Need-shape_of-words-then-is_plain
shape_of-words-then-is_plain c = search rules

returns-then-is_plain : tie.Need-returns-then-is_plain
returns-then-is_plain c =
    let l = c.before.before in
    λ ks p g b. l.lay_plain.ensures _ (length_bytes _) ks p g b

fault-requires : tie.Need-fault-requires
fault-requires c κs = search rules

returns-then-number-eq0 : tie.Need-returns-then-number-eq0
returns-then-number-eq0 c =
    λ ks p g b. cut (none_zero _ p _ c.if-number-eq0.true) c.fault.ensures refl

lay_marked-requires : tie.Need-lay_marked-requires
lay_marked-requires c κs = search rules

shape_of-words-then-number-le2 : tie.Need-shape_of-words-then-number-le2
shape_of-words-then-number-le2 c = search rules

returns-then-number-le2 : tie.Need-returns-then-number-le2
returns-then-number-le2 c =
    c.lay_marked.ensures

overflow_mul-log-then-number-eq6 : tie.Need-overflow_mul-log-then-number-eq6
overflow_mul-log-then-number-eq6 c = search rules

lay_notice-requires : tie.Need-lay_notice-requires
lay_notice-requires c κs = search rules

shape_of-words-then-number-eq6 : tie.Need-shape_of-words-then-number-eq6
shape_of-words-then-number-eq6 c = search rules

returns-then-number-eq6 : tie.Need-returns-then-number-eq6
returns-then-number-eq6 c =
    let l = c.before.before in
    λ ks p g b. rw l.if-number-eq6.true (l.lay_notice.ensures _ (length_bytes _) ks p g b)

overflow_mul-log-then-number-eq8 : tie.Need-overflow_mul-log-then-number-eq8
overflow_mul-log-then-number-eq8 c = search rules

lay_overflow-requires : tie.Need-lay_overflow-requires
lay_overflow-requires c κs = search rules

shape_of-words-then-number-eq8 : tie.Need-shape_of-words-then-number-eq8
shape_of-words-then-number-eq8 c = search rules

returns-then-number-eq8 : tie.Need-returns-then-number-eq8
returns-then-number-eq8 c =
    let l = c.before.before in
    λ ks p g b. rw l.if-number-eq8.true (l.lay_overflow.ensures _ (length_bytes _) ks p g b)

fault-requires-2 : tie.Need-fault-requires-2
fault-requires-2 c κs = search rules

returns : tie.Need-returns
returns c =
    let a = c.before.before.before.before.before.before.before.before.before in
    let n = c.before.before.before.before.before in
    λ ks p g b.
    cut (none_left_over _ p a.args.head.kind c.if-number-le2.false a.requires.1.0 a.requires.1.1 c.if-number-eq6.false c.if-number-eq8.false
    (sym n.is_plain.ensures ∙ n.if-is_plain.false)) c.fault-2.ensures refl

pub lay_other_spec : {M : Type 1} → statement M
lay_other_spec =
    tie.close
    (tie.spec
    is_plain-requires
    overflow_mul-log
    lay_plain-requires
    shape_of-words-then-is_plain
    returns-then-is_plain
    fault-requires
    returns-then-number-eq0
    lay_marked-requires
    shape_of-words-then-number-le2
    returns-then-number-le2
    overflow_mul-log-then-number-eq6
    lay_notice-requires
    shape_of-words-then-number-eq6
    returns-then-number-eq6
    overflow_mul-log-then-number-eq8
    lay_overflow-requires
    shape_of-words-then-number-eq8
    returns-then-number-eq8
    fault-requires-2
    returns)
