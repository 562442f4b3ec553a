use mathlib.Core.Path.{◌≡◌, sym, ◌∙◌}
use Prim.Native.Nat.{◌*◌, ◌-◌, ◌≤◌}
use native.Mathlib.Omega.{arith}
use lib.ListN.{length}
use Rattle.format.specs.Log.{on_no_plan, parsed}
use Rattle.log_read.specs.Tally.{tallied_of}
use Rattle.log_read.proofs.Parsing.{onward, tally_long, tally_start, tally_end, tally_wrong, tally_fault, tally_more, follows, words_few}
use borrow.Author.Rules.{rules}
use Rattle.log_read.proofs.whole.parse.Statement.{statement}
use Rattle.log_read.proofs.whole.parse.Tie as tie

abbrev invariant-loop-item : tie.invariant-loop-item
invariant-loop-item log at₀ items₀ words₀ at items words = (items * 8 ≤ at.at) × (at.at ≤ length log * 8) × (words ≤ items * 5) × (length log ≤ 32768) × (tallied_of (parsed on_no_plan log) ≡ onward on_no_plan log at.at items words)

abbrev decreases-loop-item : tie.decreases-loop-item
decreases-loop-item log at₀ items₀ words₀ at items words = length log * 8 - at.at

returns-then-log-gt32768 : tie.Need-returns-then-log-gt32768 invariant-loop-item decreases-loop-item
returns-then-log-gt32768 c = rw (tally_long on_no_plan c.args.log.now c.if-log-gt32768.true)

loop-item-init : tie.Need-loop-item-init invariant-loop-item decreases-loop-item
loop-item-init c = (omega arith, omega arith, omega arith, c.if-log-gt32768.false, tally_start on_no_plan c.args.log.now c.if-log-gt32768.false)

item-requires : tie.Need-item-requires invariant-loop-item decreases-loop-item
item-requires c κs = search rules

enum_known-item : tie.Need-enum_known-item invariant-loop-item decreases-loop-item
enum_known-item c = search rules

fault_of-number-requires : tie.Need-fault_of-number-requires invariant-loop-item decreases-loop-item
fault_of-number-requires c κs = search rules

returns-then-number-ne0 : tie.Need-returns-then-number-ne0 invariant-loop-item decreases-loop-item
returns-then-number-ne0 c =
    let a = c.args in
    let o = c.loop-item in
    let i = c.in-Has in
    let f = follows a.log.now o.at.at c.item.result i.item i.next c.item.ensures i.is in
    let e = c.fault_of-number.ensures in
    rw e (sym (o.invariant.4 ∙ tally_fault on_no_plan a.log.now o.at.at o.items o.words o.invariant.0 o.invariant.1 _ _ f (λ z. c.if-number-ne0.true (e ∙ z))))

overflow_add-items : tie.Need-overflow_add-items invariant-loop-item decreases-loop-item
overflow_add-items c = omega arith

words_of-words-requires : tie.Need-words_of-words-requires invariant-loop-item decreases-loop-item
words_of-words-requires c κs = search rules

overflow_add-words : tie.Need-overflow_add-words invariant-loop-item decreases-loop-item
overflow_add-words c = omega (arith, words_few c.in-Has.item, c.words_of-words.ensures)

loop-item-smaller : tie.Need-loop-item-smaller invariant-loop-item decreases-loop-item
loop-item-smaller c =
    let a = c.args in
    let o = c.loop-item in
    let i = c.in-Has in
    let f = follows a.log.now o.at.at c.item.result i.item i.next c.item.ensures i.is in
    omega (arith, f.far, f.fits)

loop-item-preserved : tie.Need-loop-item-preserved invariant-loop-item decreases-loop-item
loop-item-preserved c =
    let a = c.args in
    let o = c.loop-item in
    let i = c.in-Has in
    let f = follows a.log.now o.at.at c.item.result i.item i.next c.item.ensures i.is in (
      omega (arith, f.far),
      f.fits,
      omega (arith, words_few i.item, c.words_of-words.ensures),
      o.invariant.3,
      rw c.words_of-words.ensures (o.invariant.4 ∙ tally_more on_no_plan a.log.now o.at.at o.items o.words o.invariant.0 o.invariant.1 i.item _ f (sym c.fault_of-number.ensures ∙ c.if-number-ne0.false)),
    )

enum_told-1 : tie.Need-enum_told-1 invariant-loop-item decreases-loop-item
enum_told-1 c = search rules

returns-in-End : tie.Need-returns-in-End invariant-loop-item decreases-loop-item
returns-in-End c =
    let o = c.loop-item in
    sym (o.invariant.4 ∙ tally_end on_no_plan c.args.log.now o.at.at o.items o.words o.invariant.0 o.invariant.1 c.item.result c.item.ensures c.in-End.is)

enum_told-in-Wrong : tie.Need-enum_told-in-Wrong invariant-loop-item decreases-loop-item
enum_told-in-Wrong c = search rules

returns-in-Wrong : tie.Need-returns-in-Wrong invariant-loop-item decreases-loop-item
returns-in-Wrong c =
    let o = c.loop-item in
    sym (o.invariant.4 ∙ tally_wrong on_no_plan c.args.log.now o.at.at o.items o.words o.invariant.0 o.invariant.1 c.item.result c.item.ensures c.in-Wrong.is)

pub parse_spec : {M : Type 1} → statement M
parse_spec =
    tie.close
    (tie.spec
    invariant-loop-item
    decreases-loop-item
    returns-then-log-gt32768
    loop-item-init
    item-requires
    enum_known-item
    fault_of-number-requires
    returns-then-number-ne0
    overflow_add-items
    words_of-words-requires
    overflow_add-words
    loop-item-smaller
    loop-item-preserved
    enum_told-1
    returns-in-End
    enum_told-in-Wrong
    returns-in-Wrong)
