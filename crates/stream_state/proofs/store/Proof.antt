use Prim.Native.Nat.{ℕ, ◌≤◌}
use mathlib.Core.List.{List, [], ◌++◌, flat_map}
use mathlib.Core.Path.{◌≡◌, refl, ◌∙◌}
use native.Mathlib.Omega.{arith}
use lib.ListN.{length}
use borrow.Rule.Slice.PartMut.{put_mid}
use Rattle.format.specs.Laws.Front.{Front, front_none, front_part}
use Rattle.from_c.specs.Numbers.{time_bytes}
use Rattle.stream_rules.specs.Stream.{Working}
use Rattle.stream_state.specs.Stand.{working_of}
use Rattle.stream_state.specs.Storing.{front_row}
use Rattle.stream_state.specs.Laws.Small.{carried, sixteen}
use Rattle.stream_state.proofs.Stored.{all_put, front_row_long, part_long, rest_few, stand_bytes, waiting_long}
use borrow.Author.Rules.{rules}
use Rattle.stream_state.proofs.store.Statement.{statement}
use Rattle.stream_state.proofs.store.Tie as tie
use Rattle.stream_state.proofs.store.Reads as reads
use Rattle.stream_state.proofs.store.Lts as lts
use Rattle.stream_state.proofs.put_front.Reads as put-front-reads
use Rattle.stream_state.proofs.put_waiting.Reads as put-waiting-reads

-- the state that is stored, and its sizes
abbrev work : tie.Start → Working
work s = working_of s.args.kinds s.args.stand s.args.table.now s.args.rest.now

tabled : (s : tie.Start) → length s.args.table.now ≡ 64
tabled s = (carried (work s) s.requires.1.fit).2

kinded : (s : tie.Start) → length s.args.kinds ≡ 16
kinded s = sixteen (work s) s.requires.1.fit

-- its numbers stand in front
abbrev numbers : tie.Start → List ℕ
numbers s = flat_map time_bytes (front_row s.args.kinds s.args.stand s.args.table.now)

numbered : (s : tie.Start) {ys : List ℕ} → ys ≡ numbers s → Front ([] ++ numbers s) s.args.state.now (put_mid 0 800 s.args.state.now ys) 800
numbered s e =
    front_part 800 (numbers s) (front_none s.args.state.now) (front_row_long s.args.kinds s.args.stand s.args.table.now (kinded s) (tabled s)) (omega (arith, s.requires.0)) refl e

slice_bounds-put_front-count : tie.Need-slice_bounds-put_front-count
slice_bounds-put_front-count c = search rules

slice_bounds-put_front-start : tie.Need-slice_bounds-put_front-start
slice_bounds-put_front-start c = search rules

slice_bounds-put_front-end : tie.Need-slice_bounds-put_front-end
slice_bounds-put_front-end c = search rules

put_front-requires : tie.Need-put_front-requires
put_front-requires c κs = let s = c.before.before.before.before in
    (part_long 800 (front_none s.args.state.now) (omega (arith, s.requires.0)), tabled s, kinded s, s.requires.1.held)

slice_bounds-put_waiting-count : tie.Need-slice_bounds-put_waiting-count
slice_bounds-put_waiting-count c = search rules

slice_bounds-put_waiting-start : tie.Need-slice_bounds-put_waiting-start
slice_bounds-put_waiting-start c = search rules

slice_bounds-put_waiting-end : tie.Need-slice_bounds-put_waiting-end
slice_bounds-put_waiting-end c = search rules

put_waiting-requires : tie.Need-put_waiting-requires
put_waiting-requires c κs = let s = c.before.before.before.before.before.before.before.before in
    let few = rest_few s.args.kinds s.args.stand s.args.table.now s.args.rest.now s.requires.1 in
    (part_long 6368 (numbered s c.put_front.ensures) (omega (arith, s.requires.0)), few)

shape_of-state : tie.Need-shape_of-state
shape_of-state c = search rules

returns : tie.Need-returns
returns c = let s = c.before.before.before.before.before.before.before.before.before.before.before in
    let few = rest_few s.args.kinds s.args.stand s.args.table.now s.args.rest.now s.requires.1 in
    let front = numbered s c.put_front.ensures in
    let all = front_part 6368 _ front (waiting_long s.args.rest.now few) (omega (arith, s.requires.0)) refl c.put_waiting.ensures in
    all_put all s.requires.0 ∙ stand_bytes s.args.kinds s.args.stand s.args.table.now s.args.rest.now s.requires.1

pub store_spec : {M : Type 1} → statement M
store_spec =
    tie.close
    (tie.spec
    slice_bounds-put_front-count
    slice_bounds-put_front-start
    slice_bounds-put_front-end
    put_front-requires
    slice_bounds-put_waiting-count
    slice_bounds-put_waiting-start
    slice_bounds-put_waiting-end
    put_waiting-requires
    shape_of-state
    returns)
