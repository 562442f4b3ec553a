use borrow.Author.Rules.{rules}
use Rattle.salvage.proofs.Rooms.{by, denies_by, Enough, hands_over, Judges, whole_groups}
use Rattle.salvage.specs.Room.{saved_of}
use Rattle.salvage_rules.specs.Salvage.{forgoes, salvage_answer, Saves}
use Rattle.format.specs.Plan.{group_words}
use Rattle.salvage_rules.specs.declared.Salvaged.{Salvaged}
use lib.ListN.{length}
use mathlib.Core.Path.{◌≡◌, subst}
use native.Mathlib.Decide.{dec_lt}
use native.Mathlib.Omega.{arith}
use Prim.Native.Nat.{ℕ, ◌+◌, ◌*◌, ◌/◌, ◌<◌, ◌≤◌}
use Rattle.salvage.proofs.salvage_in.Statement.{statement}
use Rattle.salvage.proofs.salvage_in.Tie as tie
use Rattle.salvage.proofs.salvage_in.Reads as reads
use Rattle.salvage.proofs.salvage_in.Lts as lts
use Rattle.capture_parts.proofs.groups_in.Reads as groups-in-reads
use Rattle.log_close.proofs.copy.Reads as copy-reads
use Rattle.plan.proofs.slots.Reads as slots-reads
use Rattle.salvage.proofs.forgo.Reads as forgo-reads
use Rattle.salvage.proofs.room_number.Reads as room-number-reads
use Rattle.salvage_groups.proofs.salvage_groups.Reads as salvage-groups-reads

-- the rooms are judged
abbrev Judged : Type 0
Judged = tie.After-room_number-number

abbrev start : Judged → tie.Start
start c = c.before.before.before.before.before.before.before.before.before.before.before.before.before.before.before.before

abbrev groups : Judged → ℕ
groups c = c.groups_in-groups.result

judged : (c : Judged) → Judges (start c).args.plan (start c).args.kinds (start c).args.capture.now (groups c) (length (start c).args.log.now) (length (start c).args.times.now)
    (length (start c).args.report.now) c.salvage_groups-tally.result c.room_number-number.result
judged c =
    let a = (start c).args in
    let m = c.salvage_groups-tally.ensures in
    by a.plan a.kinds a.capture.now (groups c) (length a.log.now) (length a.times.now) (length a.report.now) c.salvage_groups-tally.result m.bytes m.number_times
    m.number_entries c.room_number-number.result c.room_number-number.ensures

denied : (c : Judged) (k q : ℕ) (r : Salvaged)
    → saved_of (start c).args.plan (start c).args.kinds (start c).args.capture.now (groups c) (length (start c).args.log.now) (length (start c).args.times.now) (length (start c).args.report.now) ≡ forgoes k q
    → r ≡ salvage_answer (forgoes k q)
    → Saves (saved_of (start c).args.plan (start c).args.kinds (start c).args.capture.now (length (start c).args.capture.now / (3 * group_words (start c).args.plan))
    (length (start c).args.log.now) (length (start c).args.times.now) (length (start c).args.report.now)) r (start c).args.log.now (start c).args.log.now (start c).args.times.now
    (start c).args.times.now (start c).args.report.now (start c).args.report.now
denied c k q r e f =
    let a = (start c).args in
    subst (λ (n : ℕ). Saves (saved_of a.plan a.kinds a.capture.now n (length a.log.now) (length a.times.now) (length a.report.now)) r a.log.now a.log.now a.times.now
    a.times.now a.report.now a.report.now) c.groups_in-groups.ensures
    (denies_by _ k q r a.log.now a.times.now a.report.now e f)

-- the log is in the array
in_built : (c : Judged) → Enough c.salvage_groups-tally.result (length (start c).args.log.now) (length (start c).args.times.now) (length (start c).args.report.now)
    → c.salvage_groups-tally.result.bytes + 7 ≤ length c.salvage_groups-tally.new.out
in_built c h = go (dec_lt (length (start c).args.built.now) 32776)
  where
    go : Dec (length (start c).args.built.now < 32776) → c.salvage_groups-tally.result.bytes + 7 ≤ length c.salvage_groups-tally.new.out
    go (yes l) = omega (arith, h.log, (start c).requires.1 l, c.built-1.given)
    go (no l) = omega (arith, h.short, c.built-1.given)

groups_in-groups-requires : tie.Need-groups_in-groups-requires
groups_in-groups-requires c κs = search rules

slots-count-requires : tie.Need-slots-count-requires
slots-count-requires c κs = search rules

slice_bounds-no_times-end : tie.Need-slice_bounds-no_times-end
slice_bounds-no_times-end c = search rules

slice_bounds-salvage_groups-end : tie.Need-slice_bounds-salvage_groups-end
slice_bounds-salvage_groups-end c = search rules

slice_bounds-no_report-end : tie.Need-slice_bounds-no_report-end
slice_bounds-no_report-end c = search rules

slice_bounds-salvage_groups-end-2 : tie.Need-slice_bounds-salvage_groups-end-2
slice_bounds-salvage_groups-end-2 c = search rules

salvage_groups-tally-requires : tie.Need-salvage_groups-tally-requires
salvage_groups-tally-requires c κs =
    let s = c.before.before.before.before.before.before.before.before.before.before in (
      (s.requires.0.0, c.slots-count.ensures.0),
      (
        rw c.groups_in-groups.ensures (whole_groups s.args.plan s.requires.0.0 (length s.args.capture.now) s.requires.0.2),
        s.requires.0.1,
      ),
    )

room_number-number-requires : tie.Need-room_number-number-requires
room_number-number-requires c κs = search rules

forgo-requires : tie.Need-forgo-requires
forgo-requires c κs = search rules

shape_of-built-then-number-eq6 : tie.Need-shape_of-built-then-number-eq6
shape_of-built-then-number-eq6 c = search rules

returns-then-number-eq6 : tie.Need-returns-then-number-eq6
returns-then-number-eq6 c = denied c.before.before 6 _ c.forgo.result ((judged c.before.before).six c.if-number-eq6.true) c.forgo.ensures

forgo-requires-then-number-eq7 : tie.Need-forgo-requires-then-number-eq7
forgo-requires-then-number-eq7 c κs = search rules

shape_of-built-then-number-eq7 : tie.Need-shape_of-built-then-number-eq7
shape_of-built-then-number-eq7 c = search rules

returns-then-number-eq7 : tie.Need-returns-then-number-eq7
returns-then-number-eq7 c = denied c.before.before.before 7 _ c.forgo-then-number-eq7.result ((judged c.before.before.before).seven c.if-number-eq7.true) c.forgo-then-number-eq7.ensures

forgo-requires-then-number-eq20 : tie.Need-forgo-requires-then-number-eq20
forgo-requires-then-number-eq20 c κs = search rules

shape_of-built-then-number-eq20 : tie.Need-shape_of-built-then-number-eq20
shape_of-built-then-number-eq20 c = search rules

returns-then-number-eq20 : tie.Need-returns-then-number-eq20
returns-then-number-eq20 c = denied c.before.before.before.before 20 _ c.forgo-then-number-eq20.result ((judged c.before.before.before.before).twenty c.if-number-eq20.true) c.forgo-then-number-eq20.ensures

copy-requires : tie.Need-copy-requires
copy-requires c κs =
    let j = (judged c.before.before.before.before).enough c.if-number-eq6.false c.if-number-eq7.false c.if-number-eq20.false in
    (j.log, omega (arith, in_built c.before.before.before.before j))

slice_bounds-no_log-end : tie.Need-slice_bounds-no_log-end
slice_bounds-no_log-end c = search rules

slice_bounds-salvage_groups-end-3 : tie.Need-slice_bounds-salvage_groups-end-3
slice_bounds-salvage_groups-end-3 c = search rules

salvage_groups-requires : tie.Need-salvage_groups-requires
salvage_groups-requires c κs =
    let s = c.before.before.before.before.before.before.before.before.before.before.before.before.before.before.before.before.before.before.before.before.before.before.before.before.before.before in (
      (s.requires.0.0, c.slots-count.ensures.0),
      (
        rw c.groups_in-groups.ensures (whole_groups s.args.plan s.requires.0.0 (length s.args.capture.now) s.requires.0.2),
        s.requires.0.1,
      ),
    )

shape_of-built : tie.Need-shape_of-built
shape_of-built c = search rules

shape_of-log : tie.Need-shape_of-log
shape_of-log c = search rules

shape_of-times : tie.Need-shape_of-times
shape_of-times c = search rules

shape_of-report : tie.Need-shape_of-report
shape_of-report c = search rules

returns : tie.Need-returns
returns c =
    let wrote = c.before.before.before.before.before in
    let times' = wrote.salvage_groups.new.times in
    let report' = wrote.salvage_groups.new.report in
    let copied = wrote.before.before.before.before.before.before in
    let log' = copied.copy.new.to in
    let third = copied.before.before in
    let second = third.before in
    let first = second.before in
    let q = first.before in
    let walked = q.before.before.before.before.before in
    let counted = walked.before.before.before.before.before in
    let t = walked.salvage_groups-tally.result in
    let a = (start q).args in
    let j = (judged q).enough first.if-number-eq6.false second.if-number-eq7.false third.if-number-eq20.false in
    let z = (judged q).all first.if-number-eq6.false second.if-number-eq7.false third.if-number-eq20.false in
    subst (λ (n : ℕ). Saves (saved_of a.plan a.kinds a.capture.now n (length a.log.now) (length a.times.now) (length a.report.now))
    (record { number = 0; place = 0; second = 0; bytes = t.bytes; times = t.times; entries = t.entries })
    a.log.now log' a.times.now times' a.report.now report') counted.groups_in-groups.ensures
    (hands_over a.plan a.kinds a.capture.now (groups q) a.log.now log' a.times.now times' a.report.now
    report' t walked.salvage_groups-tally.ensures wrote.salvage_groups.ensures j (in_built q j) copied.copy.ensures z)

pub salvage_in_spec : {M : Type 1} → statement M
salvage_in_spec =
    tie.close
    (tie.spec
    groups_in-groups-requires
    slots-count-requires
    slice_bounds-no_times-end
    slice_bounds-salvage_groups-end
    slice_bounds-no_report-end
    slice_bounds-salvage_groups-end-2
    salvage_groups-tally-requires
    room_number-number-requires
    forgo-requires
    shape_of-built-then-number-eq6
    returns-then-number-eq6
    forgo-requires-then-number-eq7
    shape_of-built-then-number-eq7
    returns-then-number-eq7
    forgo-requires-then-number-eq20
    shape_of-built-then-number-eq20
    returns-then-number-eq20
    copy-requires
    slice_bounds-no_log-end
    slice_bounds-salvage_groups-end-3
    salvage_groups-requires
    shape_of-built
    shape_of-log
    shape_of-times
    shape_of-report
    returns)
