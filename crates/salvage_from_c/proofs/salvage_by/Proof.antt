use Prim.Native.Nat.{ℕ, ◌/◌, ◌≤◌}
use native.Mathlib.Omega.{arith}
use borrow.Author.Rules.{rules}
use mathlib.Core.Path.{◌≡◌, sym, ap, ◌∙◌}
use mathlib.Core.List.{List, ◌++◌}
use lib.ListN.{length, length-append, drop, take}
use lib.Seq.{length-take-le}
use Rattle.salvage_rules.specs.Salvage.{Salvage, salvaged}
use Rattle.read_from_c.proofs.Rooms.{least_both}
use Rattle.salvage_from_c.proofs.Rooms.{few_times, least_enough, saves_bytes, saves_few, saves_there}
use Rattle.salvage_from_c.proofs.salvage_by.Statement.{statement}
use Rattle.salvage_from_c.proofs.salvage_by.Tie as tie

-- ---- the places

-- so many entries of the row are lent
abbrev Lent : Type 0
Lent = tie.After-least-entries

abbrev start : Lent → tie.Start
start c = c.before.before.before.before.before.before

abbrev log : Lent → List ℕ
log c = (start c).args.log.now

abbrev times : Lent → List ℕ
times c = (start c).args.times.now

abbrev report : Lent → List ℕ
report c = (start c).args.report.now

abbrev row : Lent → List ℕ
row c = (start c).args.row.now

abbrev entries : Lent → ℕ
entries c = c.least-entries.result

both : (c : Lent) → (entries c ≤ length (times c) / 8) × (entries c ≤ length (row c))
both c = least_both (length (times c) / 8) (length (row c)) (entries c) c.least-entries.ensures

abbrev part : Lent → List ℕ
part c = take (entries c) (row c)

part_long : (c : Lent) → length (part c) ≡ entries c
part_long c = length-take-le (entries c) (row c) (both c).1

-- the salvage with room for so many times
abbrev with : Lent → ℕ → Salvage
with c T = salvaged (start c).args.plan (start c).args.kinds (start c).args.capture.now (length (log c)) T (length (report c))

abbrev given : Lent → Salvage
given c = with c (length (part c))

-- the capture was salvaged
abbrev Done : Type 0
Done = tie.After-salvage-answer

abbrev lent : Done → Lent
lent c = c.before.before.before.before

abbrev log' : Done → List ℕ
log' c = c.salvage-answer.new.log

abbrev part' : Done → List ℕ
part' c = c.salvage-answer.new.times

abbrev report' : Done → List ℕ
report' c = c.salvage-answer.new.report

few : (c : Done) → c.salvage-answer.result.times ≤ length (part (lent c))
few c =
    let l = lent c in
    saves_few c.salvage-answer.result (log l) (log' c) (part l) (part' c) (report l) (report' c) (length (part l)) (given l)
    (few_times (start l).args.plan (start l).args.kinds (start l).args.capture.now (length (log l)) (length (report l)) (length (part l))) c.salvage-answer.ensures

-- ---- the needs

least-entries-requires : tie.Need-least-entries-requires
least-entries-requires c κs = search rules

slice_bounds-salvage-end : tie.Need-slice_bounds-salvage-end
slice_bounds-salvage-end c = (both c.before).1

slice_bounds-salvage-end-2 : tie.Need-slice_bounds-salvage-end-2
slice_bounds-salvage-end-2 c = sym (part_long c.before.before)

salvage-answer-requires : tie.Need-salvage-answer-requires
salvage-answer-requires c κs = search rules

put_times-requires : tie.Need-put_times-requires
put_times-requires c κs =
    let d = c.before.before.before.before.before.before.before in
    let l = lent d in
    let there : d.salvage-answer.result.times ≤ length (part' d ++ drop (entries l) (row l)) =
    rw (length-append (part' d) (drop (entries l) (row l)))
    (omega (arith, saves_there d.salvage-answer.result (log l) (log' d) (part l) (part' d) (report l) (report' d) (given l) d.salvage-answer.ensures)) in
    (there, omega (arith, few d, part_long l, (both l).0))

shape_of-log : tie.Need-shape_of-log
shape_of-log c = search rules

shape_of-times : tie.Need-shape_of-times
shape_of-times c = search rules

shape_of-report : tie.Need-shape_of-report
shape_of-report c = search rules

shape_of-row : tie.Need-shape_of-row
shape_of-row c = search rules

returns : tie.Need-returns
returns c =
    let t = c.before.before in
    let d = t.before.before.before.before.before.before.before.before in
    let l = lent d in
    let a = (start l).args in
    let e = least_enough a.plan a.kinds a.capture.now (length (log l)) (length (report l)) (length (times l) / 8) (length (row l)) (entries l) (start l).requires l.least-entries.ensures
    ∙ ap (with l) (sym (part_long l)) in
    rw e
    (saves_bytes d.salvage-answer.result (log l) (log' d) (part l) (part' d) (report l) (report' d) (times l) t.put_times.new.bytes (drop (entries l) (row l)) (given l) d.salvage-answer.ensures
    t.put_times.ensures)

pub salvage_by_spec : {M : Type 1} → statement M
salvage_by_spec =
    tie.close
    (tie.spec
    least-entries-requires
    slice_bounds-salvage-end
    slice_bounds-salvage-end-2
    salvage-answer-requires
    put_times-requires
    shape_of-log
    shape_of-times
    shape_of-report
    shape_of-row
    returns)
