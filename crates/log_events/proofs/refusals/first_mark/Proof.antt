use Prim.Native.Nat.{ℕ, ◌-◌, ◌*◌}
use native.Mathlib.Omega.{arith}
use mathlib.Core.Path.{◌≡◌, refl, ap, sym, ◌∙◌}
use mathlib.Core.List.{List}
use lib.ListN.{length}
use borrow.Author.Rules.{rules}
use Rattle.format.specs.Bits.{bytes_bits}
use Rattle.format.specs.Log.{Next, next_at}
use Rattle.format.specs.declared.Item.{Item}
use Rattle.log_read.proofs.Parsing.{Follows, follows, found_end, found_wrong}
use Rattle.log_buffer.specs.Level.{load_of}
use Rattle.log_buffer.specs.declared.Load.{Load}
use Rattle.log_events.proofs.Marks.{Looking, looking_start, looking_more, looking_mark, looking_over, looking_never}
use Rattle.log_events.proofs.refusals.first_mark.Statement.{statement}
use Rattle.log_events.proofs.refusals.first_mark.Tie as tie

abbrev invariant-loop-item : tie.invariant-loop-item
invariant-loop-item log at₀ at = Looking log at.at

abbrev decreases-loop-item : tie.decreases-loop-item
decreases-loop-item log at₀ at = length log * 8 - at.at

-- the loop's place, the log, and what stands there
abbrev Loop : Type 0
Loop = tie.At-loop-item invariant-loop-item decreases-loop-item

abbrev the_log : Loop → List ℕ
the_log c = c.args.log.now

abbrev next : Loop → Next
next c = next_at (bytes_bits (the_log c)) c.loop-item.at.at

-- in a turn: the item and the place behind it
abbrev Turn : Type 0
Turn = tie.After-load_of invariant-loop-item decreases-loop-item

abbrev at_turn : Turn → Loop
at_turn c = c.before.before.before

abbrev the_item : Turn → Item
the_item c = c.in-Has.item

here : (c : Turn) → Follows (the_log (at_turn c)) (at_turn c).loop-item.at.at (the_item c) c.in-Has.next.at
here c =
    let i = c.in-Has in
    follows (the_log (at_turn c)) (at_turn c).loop-item.at.at c.item.result i.item i.next
    c.item.ensures i.is

seen : (c : Turn) → (load_of (the_item c)).mark ≡ c.load_of.result.mark
seen c = ap (λ (l : Load). l.mark) (sym c.load_of.ensures)

loop-item-init : tie.Need-loop-item-init invariant-loop-item decreases-loop-item
loop-item-init c = looking_start c.args.log.now c.requires.0 c.requires.1

item-requires : tie.Need-item-requires invariant-loop-item decreases-loop-item
item-requires c κs = search rules

enum_known-item : tie.Need-enum_known-item invariant-loop-item decreases-loop-item
enum_known-item c = search rules

load_of-requires : tie.Need-load_of-requires invariant-loop-item decreases-loop-item
load_of-requires c κs = search rules

returns-then-load_of : tie.Need-returns-then-load_of invariant-loop-item decreases-loop-item
returns-then-load_of c =
    let t : Turn = c.before in
    rw (looking_mark (at_turn t).loop-item.invariant (the_item t) _ (here t) (seen t ∙ c.if-load_of.true)) refl

loop-item-smaller : tie.Need-loop-item-smaller invariant-loop-item decreases-loop-item
loop-item-smaller c = let f = here c.before in omega (arith, f.far, f.fits)

loop-item-preserved : tie.Need-loop-item-preserved invariant-loop-item decreases-loop-item
loop-item-preserved c =
    let t : Turn = c.before in
    looking_more (at_turn t).loop-item.invariant (the_item t) _ (here t) (seen t ∙ c.if-load_of.false)

enum_told-1 : tie.Need-enum_told-1 invariant-loop-item decreases-loop-item
enum_told-1 c = search rules

returns-in-End : tie.Need-returns-in-End invariant-loop-item decreases-loop-item
returns-in-End c =
    let o : Loop = c.before.before in
    rw (looking_over o.loop-item.invariant (found_end (next o) (sym c.item.ensures ∙ c.in-End.is))) refl

enum_told-in-Wrong : tie.Need-enum_told-in-Wrong invariant-loop-item decreases-loop-item
enum_told-in-Wrong c = search rules

returns-in-Wrong : tie.Need-returns-in-Wrong invariant-loop-item decreases-loop-item
returns-in-Wrong c =
    let o : Loop = c.before.before in
    absurd (looking_never o.loop-item.invariant (found_wrong (next o) (sym c.item.ensures ∙ c.in-Wrong.is)))

pub first_mark_spec : {M : Type 1} → statement M
first_mark_spec =
    tie.close
    (tie.spec
    invariant-loop-item
    decreases-loop-item
    loop-item-init
    item-requires
    enum_known-item
    load_of-requires
    returns-then-load_of
    loop-item-smaller
    loop-item-preserved
    enum_told-1
    returns-in-End
    enum_told-in-Wrong
    returns-in-Wrong)
