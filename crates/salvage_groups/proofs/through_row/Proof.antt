use borrow.Author.Rules.{rules}
use Rattle.salvage_groups.proofs.Groups.{tallied}
use Rattle.salvage_run.proofs.Sounds.{gone_few, low_more}
use Rattle.capture_parts.proofs.Part.{numbers_few}
use Rattle.format.specs.Plan.{slots}
use lib.ListN.{length, get_or}
use native.Mathlib.Omega.{arith}
use Prim.Native.Nat.{ℕ, ◌*◌, ◌^◌, ◌≤◌, ◌<◌}
use Rattle.salvage_groups.proofs.through_row.Statement.{statement}
use Rattle.salvage_groups.proofs.through_row.Tie as tie
use Rattle.salvage_groups.proofs.through_row.Reads as reads
use Rattle.salvage_groups.proofs.through_row.Lts as lts
use Rattle.log_write.proofs.Pen.close.Reads as close-reads
use Rattle.salvage_groups.proofs.over_groups.Reads as over-groups-reads
use Rattle.salvage_run.proofs.let_go.Reads as let-go-reads

-- ---- the places

-- the groups are passed
abbrev Over : Type 0
Over = tie.After-over_groups-walk

abbrev start : Over → tie.Start
start c = c.before.before.before.before.before.before.before.before.before.before

bytes : (c : Over) (i : ℕ) → get_or (start c).args.capture.now i 0 < 2 ^ 8
bytes c i = omega (arith, c.shared_slice_known-1.given i)

-- the data words of all groups
all : (c : Over) → (start c).args.groups * slots (start c).args.plan ≤ 349525
all c =
    let s = start c in
    numbers_few s.args.plan s.requires.0.0 s.args.groups (length s.args.capture.now) s.requires.1.0 s.requires.1.1

-- what is held at the end is let go
abbrev over : tie.After-let_go-arg-3-1 → Over
over c = c.before.before.before.before.before.before.before.before.before.before.before

-- the log is closed
abbrev gone : tie.After-close-arg-1 → tie.After-let_go-pass
gone c = c.before.before.before.before.before.before

-- ---- the needs

over_groups-walk-requires : tie.Need-over_groups-walk-requires
over_groups-walk-requires c κs = search rules

let_go-pass-requires : tie.Need-let_go-pass-requires
let_go-pass-requires c κs =
    let o = over c in
    let s = start o in
    let x = o.over_groups-walk.ensures.1.sound in
    let n = all o in
    (s.requires.0.0, s.requires.0.1, x.sane, low_more (2 ^ 32) (omega arith) x.low, omega (arith, x.few_entries), omega (arith, x.few_bits))

close-bytes-requires : tie.Need-close-bytes-requires
close-bytes-requires c κs =
    let g = gone c in
    let o = over g.before in
    let x = o.over_groups-walk.ensures.1.sound in
    let n = all o in
    omega (arith, x.few_bits, (gone_few (start o).args.plan _ x.sane g.let_go-pass.ensures).few_bits)

shape_of-row : tie.Need-shape_of-row
shape_of-row c = search rules

shape_of-out : tie.Need-shape_of-out
shape_of-out c = search rules

shape_of-times : tie.Need-shape_of-times
shape_of-times c = search rules

shape_of-report : tie.Need-shape_of-report
shape_of-report c = search rules

returns : tie.Need-returns
returns c =
    let z = c.before.before in
    let g = gone z.before in
    let o = over g.before in
    let s = start o in
    let a = s.args in
    tallied a.kinds a.plan s.requires.0.0 a.capture.now (bytes o) a.groups a.out.now a.times.now a.report.now
    o.over_groups-walk.ensures.0 g.let_go-pass.ensures z.close-bytes.ensures.0 z.close-bytes.ensures.1

pub through_row_spec : {M : Type 1} → statement M
through_row_spec =
    tie.close
    (tie.spec
    over_groups-walk-requires
    let_go-pass-requires
    close-bytes-requires
    shape_of-row
    shape_of-out
    shape_of-times
    shape_of-report
    returns)
