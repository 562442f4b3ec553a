use Prim.Native.Nat.{ℕ, ◌/◌, ◌≤◌}
use mathlib.Core.Path.{◌≡◌, sym, ap, ◌∙◌}
use mathlib.Core.List.{List}
use native.Mathlib.Omega.{arith}
use lib.ListN.{length, length-append, drop, take}
use lib.Seq.{length-take-le}
use Rattle.format.specs.Read.{Reading, reading}
use Rattle.read_from_c.proofs.Rooms.{few_times, given_bytes, given_few, given_there, least_both, least_enough}
use borrow.Author.Rules.{rules}
use Rattle.read_from_c.proofs.read_by.Statement.{statement}
use Rattle.read_from_c.proofs.read_by.Tie as tie

-- ---- the places

-- how many entries are lent
abbrev Lent : Type 0
Lent = tie.After-least-entries

abbrev start : Lent → tie.Start
start c = c.before.before.before.before.before

abbrev entries : Lent → ℕ
entries c = c.least-entries.result

abbrev row : Lent → List ℕ
row c = (start c).args.row.now

abbrev time_room : Lent → ℕ
time_room c = length (start c).args.times.now / 8

both : (c : Lent) → (entries c ≤ time_room c) × (entries c ≤ length (row c))
both c = least_both (time_room c) (length (row c)) (entries c) c.least-entries.ensures

abbrev part : Lent → List ℕ
part c = take (entries c) (row c)

part_long : (c : Lent) → length (part c) ≡ entries c
part_long c = length-take-le (entries c) (row c) (both c).1

-- the reading where there is room for so many times
abbrev reading_in : Lent → ℕ → Reading
reading_in c room = let a = (start c).args in reading a.closed a.plan a.kinds a.capture.now (length a.log.now) room

same_reading : (c : Lent) → reading_in c (time_room c) ≡ reading_in c (length (part c))
same_reading c =
    let s = start c in
    let a = s.args in
    least_enough a.closed a.plan a.kinds a.capture.now (length a.log.now) (time_room c) (length (row c)) (entries c) s.requires c.least-entries.ensures
    ∙ ap (reading_in c) (sym (part_long c))

-- the capture is read
abbrev Read : Type 0
Read = tie.After-read_either-answer

abbrev lent : Read → Lent
lent c = c.before.before.before

abbrev log_after : Read → List ℕ
log_after c = c.read_either-answer.new.log

abbrev part_after : Read → List ℕ
part_after c = c.read_either-answer.new.times

few : (c : Read) → c.read_either-answer.result.times ≤ length (part (lent c))
few c =
    let l = lent c in
    let a = (start l).args in
    let n = length (part l) in
    given_few c.read_either-answer.result a.log.now (log_after c) (part l) (part_after c) n (reading_in l n)
    (few_times a.closed a.plan a.kinds a.capture.now (length a.log.now) n) c.read_either-answer.ensures

there : (c : Read) → c.read_either-answer.result.times ≤ length (part_after c)
there c =
    let l = lent c in
    given_there c.read_either-answer.result (start l).args.log.now (log_after c) (part l) (part_after c) (reading_in l (length (part l))) c.read_either-answer.ensures

-- its times are put
abbrev read : tie.After-put_times-arg-1 → Read
read c = c.before.before.before.before.before

-- ---- the needs

least-entries-requires : tie.Need-least-entries-requires
least-entries-requires c κs = search rules

slice_bounds-read_either-end : tie.Need-slice_bounds-read_either-end
slice_bounds-read_either-end c = (both c.before).1

slice_bounds-read_either-end-2 : tie.Need-slice_bounds-read_either-end-2
slice_bounds-read_either-end-2 c = sym (part_long c.before.before)

read_either-answer-requires : tie.Need-read_either-answer-requires
read_either-answer-requires c κs = search rules

put_times-requires : tie.Need-put_times-requires
put_times-requires c κs =
    let r = read c in
    let l = lent r in
    (rw (length-append (part_after r) (drop (entries l) (row l))) (omega (arith, there r)), omega (arith, few r, part_long l, (both l).0))

shape_of-log : tie.Need-shape_of-log
shape_of-log c = search rules

shape_of-times : tie.Need-shape_of-times
shape_of-times c = search rules

shape_of-row : tie.Need-shape_of-row
shape_of-row c = search rules

returns : tie.Need-returns
returns c =
    let p = c.before.before in
    let r = read p.before in
    let l = lent r in
    let a = (start l).args in
    rw (same_reading l) (given_bytes r.read_either-answer.result a.log.now (log_after r) (part l) (part_after r) a.times.now p.put_times.new.bytes
    (drop (entries l) (row l)) (reading_in l (length (part l))) r.read_either-answer.ensures p.put_times.ensures)

pub read_by_spec : {M : Type 1} → statement M
read_by_spec =
    tie.close
    (tie.spec
    least-entries-requires
    slice_bounds-read_either-end
    slice_bounds-read_either-end-2
    read_either-answer-requires
    put_times-requires
    shape_of-log
    shape_of-times
    shape_of-row
    returns)
