use borrow.Author.Rules.{rules}
use native.Mathlib.Omega.{arith}
use mathlib.Core.Path.{◌≡◌, refl}
use mathlib.Core.List.{List}
use Prim.Native.Nat.{ℕ, ◌+◌, ◌/◌, ◌≤◌}
use lib.ListN.{length}
use Rattle.format.specs.Plan.{times_needed}
use Rattle.stream_group.specs.Took.{Went, carried}
use Rattle.stream_group.specs.declared.Took.{Took}
use Rattle.stream_rules.specs.Stream.{Brought, Flow, feed_bytes, take_group, taken, working}
use Rattle.stream_piece.specs.Along.{work_of}
use Rattle.stream_piece.proofs.Group.{Grants, bits_written, built_room, group_flow, groups_low, ready_grants, stopped_goes, went_bytes, went_goes, went_times}
use Rattle.stream_piece.proofs.on_group.Statement.{statement}
use Rattle.stream_piece.proofs.on_group.Tie as tie
use Rattle.stream_piece.proofs.on_group.Reads as reads
use Rattle.stream_piece.proofs.on_group.Lts as lts
use Rattle.stream_group.proofs.take_group.Reads as take-group-reads
use Rattle.stream_piece.proofs.put_group.Reads as put-group-reads
use Rattle.stream_piece.proofs.stopped.Reads as stopped-reads

-- ---- the places

abbrev Taken : Type 0
Taken = tie.After-take_group-took

abbrev start : Taken → tie.Start
start c = c.before.before.before.before.before.before.before.before.before.before.before.before

abbrev took : Taken → Took
took c = c.take_group-took.result

abbrev brought : tie.Start → Brought
brought s = let a = s.args in take_group a.plan a.kinds a.group.now a.along.groups (carried a.along.held a.along.since a.table.now)

abbrev flow : tie.Start → Flow
flow s = let a = s.args in feed_bytes (working (work_of a.plan a.kinds a.along a.table.now)) a.group.now

grants : (s : tie.Start) → Grants s.args.plan s.args.kinds s.args.along.groups s.args.table.now
grants s = let a = s.args in ready_grants a.plan a.kinds a.along a.table.now s.requires.0.0 s.requires.0.1

flows : (s : tie.Start) → flow s ≡ taken (work_of s.args.plan s.args.kinds s.args.along s.args.table.now) s.args.group.now (brought s)
flows s = let a = s.args in group_flow (work_of a.plan a.kinds a.along a.table.now) a.group.now (grants s).shape refl s.requires.0.3

-- it is taken
went : (c : Taken) → (took c).number ≡ 0 → Went (brought (start c)) (start c).args.along.pen (start c).args.out.now (took c) c.take_group-took.new.table
    c.take_group-took.new.out
went c z = c.take_group-took.ensures.went z

-- and its log has room
record Room (s : tie.Start) (k : Took) (out : List ℕ) : Type 0 where
  built : k.pen.bits / 8 + 7 ≤ length out
  bytes : s.args.along.bytes + k.pen.bits / 8 ≤ length s.args.log.now
  entries : s.args.along.times + times_needed s.args.plan 1 ≤ length s.args.times.now

room : (c : Taken) → (took c).number ≡ 0 → Room (start c) (took c) c.take_group-took.new.out
room c z =
    let s = start c in
    let a = s.args in
    let w = went c z in
    let x = w.wrote _ (bits_written a.out.now a.along.pen s.requires.0.0.bits) in
    let n = went_bytes a.plan a.kinds a.along a.table.now a.group.now (flow s) (brought s) (flows s) (took c) _ _ w.items w.is x in
    let m = went_times a.plan a.kinds a.along a.table.now a.group.now (flow s) (brought s) (flows s) (took c) _ _ w.items w.is x in
    record {
      built = omega (arith, n, w.long, built_room a.plan a.kinds a.along a.table.now a.group.now a.out.now s.requires.0.0.bits s.requires.0.3 s.requires.0.2.built);
      bytes = omega (arith, n, s.requires.1.bytes);
      entries = omega (arith, m, s.requires.1.entries);
    }

-- ---- the needs

take_group-took-requires : tie.Need-take_group-took-requires
take_group-took-requires c κs =
    let s = c.before.before.before.before.before.before.before.before.before.before.before in
    let g = grants s in
    let r = s.requires.0.2 in
    ((g.shape, r.slots_are, s.requires.0.3, r.dealt, s.requires.0.0.sane, s.requires.0.0.bits), (g.long, g.waits, s.requires.0.4))

stopped-requires : tie.Need-stopped-requires
stopped-requires c κs = search rules

shape_of-table-then-took-ne0 : tie.Need-shape_of-table-then-took-ne0
shape_of-table-then-took-ne0 c = search rules

shape_of-row-then-took-ne0 : tie.Need-shape_of-row-then-took-ne0
shape_of-row-then-took-ne0 c = search rules

shape_of-out-then-took-ne0 : tie.Need-shape_of-out-then-took-ne0
shape_of-out-then-took-ne0 c = search rules

returns-then-took-ne0 : tie.Need-returns-then-took-ne0
returns-then-took-ne0 c =
    let t = c.before.before.before.before.before.before.before.before.before in
    let s = start t in
    let a = s.args in
    let z = c.if-took-ne0.true in
    stopped_goes a.plan a.kinds a.along a.table.now a.group.now (flow s) (brought s) (flows s) (took t) _ _ _ c.stopped.ensures (t.take_group-took.ensures.stopped z) z
    s.requires.0.0.sane s.requires.0.0.bits

put_group-requires : tie.Need-put_group-requires
put_group-requires c κs =
    let t = c.before.before.before.before.before.before.before.before.before.before in
    let s = start t in
    let x = room t c.if-took-ne0.false in
    (((grants s).shape, s.requires.0.3, groups_low s.args.plan (grants s).shape s.args.along.groups s.requires.0.4, omega (arith, x.built)), (x.bytes, x.entries))

shape_of-table : tie.Need-shape_of-table
shape_of-table c = search rules

shape_of-row : tie.Need-shape_of-row
shape_of-row c = search rules

shape_of-out : tie.Need-shape_of-out
shape_of-out c = search rules

shape_of-log : tie.Need-shape_of-log
shape_of-log c = search rules

shape_of-times : tie.Need-shape_of-times
shape_of-times c = search rules

returns : tie.Need-returns
returns c =
    let k = c.before.before.before.before in
    let t = k.before.before.before.before.before.before.before.before.before.before.before in
    let s = start t in
    let a = s.args in
    let z = k.if-took-ne0.false in
    let w = went t z in
    went_goes a.plan a.kinds a.along a.table.now a.group.now (flow s) (brought s) (flows s) (took t) _ _ w.items w.is
    (w.wrote _ (bits_written a.out.now a.along.pen s.requires.0.0.bits)) _ _ _ _
    k.put_group.ensures.0 w.sane (room t z).built k.put_group.ensures.1 k.put_group.ensures.2

pub on_group_spec : {M : Type 1} → statement M
on_group_spec =
    tie.close
    (tie.spec
    take_group-took-requires
    stopped-requires
    shape_of-table-then-took-ne0
    shape_of-row-then-took-ne0
    shape_of-out-then-took-ne0
    returns-then-took-ne0
    put_group-requires
    shape_of-table
    shape_of-row
    shape_of-out
    shape_of-log
    shape_of-times
    returns)
