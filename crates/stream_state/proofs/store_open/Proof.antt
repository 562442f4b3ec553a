use mathlib.Core.Path.{ap, ◌∙◌}
use Rattle.stream_rules.specs.Stream.{working, Working}
use Rattle.stream_state.specs.Layout.{state_bytes}
use Rattle.stream_state.proofs.Stored.{fresh_is, fresh_storable}
use borrow.Author.Rules.{rules}
use Rattle.stream_state.proofs.store_open.Statement.{statement}
use Rattle.stream_state.proofs.store_open.Tie as tie
use Rattle.stream_state.proofs.store_open.Reads as reads
use Rattle.stream_state.proofs.store_open.Lts as lts
use Rattle.data_start.proofs.nothing.Reads as nothing-reads
use Rattle.stream_state.proofs.store.Reads as store-reads

nothing-requires : tie.Need-nothing-requires
nothing-requires c κs = search rules

slice_bounds-store-end : tie.Need-slice_bounds-store-end
slice_bounds-store-end c = search rules

slice_bounds-store-end-2 : tie.Need-slice_bounds-store-end-2
slice_bounds-store-end-2 c = search rules

store-requires : tie.Need-store-requires
store-requires c κs = let s = c.before.before.before.before.before in
    (s.requires.0, fresh_storable s.args.plan s.args.kinds c.nothing.result c.nothing.ensures s.requires.1 s.requires.2)

shape_of-state : tie.Need-shape_of-state
shape_of-state c = search rules

returns : tie.Need-returns
returns c = let s = c.before.before.before.before.before.before.before.before in
    let n = c.nothing in
    c.store.ensures ∙ ap (λ (w : Working). state_bytes (working w)) (fresh_is s.args.plan s.args.kinds n.result n.ensures)

pub store_open_spec : {M : Type 1} → statement M
store_open_spec =
    tie.close
    (tie.spec
    nothing-requires
    slice_bounds-store-end
    slice_bounds-store-end-2
    store-requires
    shape_of-state
    returns)
