use Prim.Native.Nat.{◌≤◌}
use Rattle.log_store.proofs.Turning.{turns_left, turns_arrived, turns_over, turns_wrong}
use Rattle.log_buffer.proofs.Loads.{load_few}
use Rattle.log_read.proofs.Parsing.{follows, found_end, found_wrong}
use Rattle.format.specs.Log.{next_at}
use Rattle.format.specs.Bits.{bytes_bits}
use mathlib.Core.Path.{sym, ◌∙◌}
use borrow.Author.Rules.{rules}
use Rattle.log_store.proofs.turn.Statement.{statement}
use Rattle.log_store.proofs.turn.Tie as tie

-- no item has more than five words
few : (c : tie.After-load_of-load) → c.load_of-load.result.words ≤ 5
few c = rw c.load_of-load.ensures (load_few c.in-Has.item)

left-requires : tie.Need-left-requires
left-requires c κs = search rules

returns-then-event-ne0 : tie.Need-returns-then-event-ne0
returns-then-event-ne0 c =
    let a = c.args in
    turns_left a.log.now a.event a.capacity a.slots a.built.now a.state c.left.result c.if-event-ne0.true c.left.ensures

item-requires : tie.Need-item-requires
item-requires c κs = search rules

enum_known-item : tie.Need-enum_known-item
enum_known-item c = search rules

load_of-load-requires : tie.Need-load_of-load-requires
load_of-load-requires c κs = search rules

fits-stored-requires : tie.Need-fits-stored-requires
fits-stored-requires c κs = (few c, c.requires.1)

arrived-requires : tie.Need-arrived-requires
arrived-requires c κs = (few c.before, c.requires.1)

put-requires : tie.Need-put-requires
put-requires c κs = search rules

enum_told-1 : tie.Need-enum_told-1
enum_told-1 c = search rules

enum_told-in-Wrong : tie.Need-enum_told-in-Wrong
enum_told-in-Wrong c = search rules

shape_of-built : tie.Need-shape_of-built
shape_of-built c = search rules

returns-in-Has : tie.Need-returns-in-Has
returns-in-Has c =
    let a = c.args in
    let i = c.in-Has in
    turns_arrived a.log.now a.event a.capacity a.slots a.built.now a.state i.item i.next c.fits-stored.result c.arrived.result
    _ c.put.result c.if-event-ne0.false
    (follows a.log.now a.state.at.at c.item.result i.item i.next c.item.ensures i.is).next
    (rw (← c.load_of-load.ensures) c.fits-stored.ensures) (rw (← c.load_of-load.ensures) c.arrived.ensures) c.put.ensures

returns-in-End : tie.Need-returns-in-End
returns-in-End c =
    let item = c.before in
    let a = item.args in
    turns_over a.log.now a.event a.capacity a.slots a.built.now a.state item.if-event-ne0.false
    (found_end (next_at (bytes_bits a.log.now) a.state.at.at) (sym item.item.ensures ∙ c.in-End.is))

returns-in-Wrong : tie.Need-returns-in-Wrong
returns-in-Wrong c =
    let item = c.before in
    let a = item.args in
    turns_wrong a.log.now a.event a.capacity a.slots a.built.now a.state item.if-event-ne0.false
    (found_wrong (next_at (bytes_bits a.log.now) a.state.at.at) (sym item.item.ensures ∙ c.in-Wrong.is))

pub turn_spec : {M : Type 1} → statement M
turn_spec =
    tie.close
    (tie.spec
    left-requires
    returns-then-event-ne0
    item-requires
    enum_known-item
    load_of-load-requires
    fits-stored-requires
    arrived-requires
    put-requires
    enum_told-1
    enum_told-in-Wrong
    shape_of-built
    returns-in-Has
    returns-in-End
    returns-in-Wrong)
