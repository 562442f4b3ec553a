use Prim.Native.Nat.{ℕ, ◌-◌, ◌*◌}
use native.Mathlib.Omega.{arith}
use mathlib.Core.Bool.{Bool}
use mathlib.Core.Path.{◌≡◌, ap, sym, ◌∙◌}
use mathlib.Core.List.{List}
use lib.ListN.{length}
use borrow.Author.Rules.{rules}
use Rattle.format.specs.Bits.{bytes_bits}
use Rattle.format.specs.Log.{Next, next_at}
use Rattle.format.specs.declared.Item.{Item}
use Rattle.log_read.proofs.Parsing.{Follows, follows, found_end, found_wrong}
use Rattle.log_check.specs.Role.{passes_by, role_of}
use Rattle.log_check.proofs.Judging.{Judging, judging_start, judging_more, judging_breaks, judging_over, judging_never}
use Rattle.log_check.proofs.judge.Statement.{statement}
use Rattle.log_check.proofs.judge.Tie as tie

abbrev invariant-loop-item : tie.invariant-loop-item
invariant-loop-item log at₀ seen₀ at seen = Judging log at.at seen

abbrev decreases-loop-item : tie.decreases-loop-item
decreases-loop-item log at₀ seen₀ at seen = length log * 8 - at.at

-- the loop's place, the log, and what stands there
abbrev Loop : Type 0
Loop = tie.At-loop-item invariant-loop-item decreases-loop-item

abbrev the_log : Loop → List ℕ
the_log c = c.args.log.now

abbrev next : Loop → Next
next c = next_at (bytes_bits (the_log c)) c.loop-item.at.at

-- in a turn: the item, the place behind it, and how it was judged
abbrev Turn : Type 0
Turn = tie.After-passes invariant-loop-item decreases-loop-item

abbrev at_turn : Turn → Loop
at_turn c = c.before.before.before.before

abbrev the_item : Turn → Item
the_item c = c.in-Has.item

abbrev behind : Turn → ℕ
behind c = c.in-Has.next.at

here : (c : Turn) → Follows (the_log (at_turn c)) (at_turn c).loop-item.at.at (the_item c) (behind c)
here c =
    let i = c.in-Has in
    follows (the_log (at_turn c)) (at_turn c).loop-item.at.at c.item.result i.item i.next
    c.item.ensures i.is

judged : (c : Turn) → passes_by (at_turn c).loop-item.seen (role_of (the_item c)) ≡ c.passes.result
judged c = ap (passes_by (at_turn c).loop-item.seen) (sym c.role_of-role.ensures) ∙ sym c.passes.ensures

nothing-seen-requires : tie.Need-nothing-seen-requires invariant-loop-item decreases-loop-item
nothing-seen-requires c κs = search rules

loop-item-init : tie.Need-loop-item-init invariant-loop-item decreases-loop-item
loop-item-init c = rw c.nothing-seen.ensures (judging_start c.args.log.now c.requires.0 c.requires.1)

item-requires : tie.Need-item-requires invariant-loop-item decreases-loop-item
item-requires c κs = search rules

enum_known-item : tie.Need-enum_known-item invariant-loop-item decreases-loop-item
enum_known-item c = search rules

role_of-role-requires : tie.Need-role_of-role-requires invariant-loop-item decreases-loop-item
role_of-role-requires c κs = search rules

passes-requires : tie.Need-passes-requires invariant-loop-item decreases-loop-item
passes-requires c κs = search rules

answer-requires : tie.Need-answer-requires invariant-loop-item decreases-loop-item
answer-requires c κs = search rules

returns-then-not-passes : tie.Need-returns-then-not-passes invariant-loop-item decreases-loop-item
returns-then-not-passes c =
    let t : Turn = c.before.before in
    rw (judging_breaks (the_item t) (behind t) (at_turn t).loop-item.invariant (here t) (judged t ∙ c.if-not-passes.true))
    c.answer.ensures

after-seen-requires : tie.Need-after-seen-requires invariant-loop-item decreases-loop-item
after-seen-requires c κs = search rules

loop-item-smaller : tie.Need-loop-item-smaller invariant-loop-item decreases-loop-item
loop-item-smaller c = let f = here c.before.before in omega (arith, f.far, f.fits)

loop-item-preserved : tie.Need-loop-item-preserved invariant-loop-item decreases-loop-item
loop-item-preserved c =
    let t : Turn = c.before.before in
    rw (c.after-seen.ensures, t.role_of-role.ensures)
    (judging_more (the_item t) (behind t) (at_turn t).loop-item.invariant (here t) (judged t ∙ c.if-not-passes.false))

enum_told-1 : tie.Need-enum_told-1 invariant-loop-item decreases-loop-item
enum_told-1 c = search rules

answer-requires-in-End : tie.Need-answer-requires-in-End invariant-loop-item decreases-loop-item
answer-requires-in-End c κs = search rules

returns-in-End : tie.Need-returns-in-End invariant-loop-item decreases-loop-item
returns-in-End c =
    let o : Loop = c.before.before.before in
    rw (judging_over o.loop-item.invariant (found_end (next o) (sym c.item.ensures ∙ c.in-End.is))) c.answer-in-End.ensures

enum_told-in-Wrong : tie.Need-enum_told-in-Wrong invariant-loop-item decreases-loop-item
enum_told-in-Wrong c = search rules

answer-requires-in-Wrong : tie.Need-answer-requires-in-Wrong invariant-loop-item decreases-loop-item
answer-requires-in-Wrong c κs = search rules

returns-in-Wrong : tie.Need-returns-in-Wrong invariant-loop-item decreases-loop-item
returns-in-Wrong c =
    let o : Loop = c.before.before.before in
    absurd (judging_never o.loop-item.invariant (found_wrong (next o) (sym c.item.ensures ∙ c.in-Wrong.is)))

pub judge_spec : {M : Type 1} → statement M
judge_spec =
    tie.close
    (tie.spec
    invariant-loop-item
    decreases-loop-item
    nothing-seen-requires
    loop-item-init
    item-requires
    enum_known-item
    role_of-role-requires
    passes-requires
    answer-requires
    returns-then-not-passes
    after-seen-requires
    loop-item-smaller
    loop-item-preserved
    enum_told-1
    answer-requires-in-End
    returns-in-End
    enum_told-in-Wrong
    answer-requires-in-Wrong
    returns-in-Wrong)
