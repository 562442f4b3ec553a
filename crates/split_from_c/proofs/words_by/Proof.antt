use Prim.Native.Nat.{ℕ, ◌/◌, ◌≤◌}
use native.Mathlib.Omega.{arith}
use borrow.Author.Rules.{rules}
use mathlib.Core.Path.{◌≡◌, sym, ap, ◌∙◌}
use mathlib.Core.List.{List, ◌++◌}
use lib.ListN.{length, length-append, drop, take}
use lib.Seq.{length-take-le}
use Rattle.format.specs.Read.{Reading}
use Rattle.capture_rules.specs.Split.{words_read}
use Rattle.read_from_c.proofs.Rooms.{given_bytes, given_few, given_there, least_both}
use Rattle.split_from_c.proofs.Rooms.{few_times, least_enough}
use Rattle.split_from_c.proofs.words_by.Statement.{statement}
use Rattle.split_from_c.proofs.words_by.Tie as tie

-- ---- the places

-- so many entries of the row are lent
abbrev Lent : Type 0
Lent = tie.After-least-entries

abbrev start : Lent → tie.Start
start c = c.before.before.before.before.before

abbrev words : Lent → List ℕ
words c = (start c).args.words.now

abbrev times : Lent → List ℕ
times c = (start c).args.times.now

abbrev row : Lent → List ℕ
row c = (start c).args.row.now

abbrev entries : Lent → ℕ
entries c = c.least-entries.result

both : (c : Lent) → (entries c ≤ length (times c) / 8) × (entries c ≤ length (row c))
both c = least_both (length (times c) / 8) (length (row c)) (entries c) c.least-entries.ensures

abbrev part : Lent → List ℕ
part c = take (entries c) (row c)

part_long : (c : Lent) → length (part c) ≡ entries c
part_long c = length-take-le (entries c) (row c) (both c).1

abbrev given : Lent → Reading
given c = words_read (start c).args.plan (start c).args.kinds (start c).args.capture.now (length (words c)) (length (part c))

-- the words were read
abbrev Read : Type 0
Read = tie.After-read_words-answer

abbrev least : Read → Lent
least c = c.before.before.before

abbrev words' : Read → List ℕ
words' c = c.read_words-answer.new.words

abbrev part' : Read → List ℕ
part' c = c.read_words-answer.new.times

few : (c : Read) → c.read_words-answer.result.times ≤ length (part (least c))
few c =
    let l = least c in
    given_few c.read_words-answer.result (words l) (words' c) (part l) (part' c) (length (part l)) (given l)
    (few_times (start l).args.plan (start l).args.kinds (start l).args.capture.now (length (words l)) (length (part l))) c.read_words-answer.ensures

-- ---- the needs

least-entries-requires : tie.Need-least-entries-requires
least-entries-requires c κs = search rules

slice_bounds-read_words-end : tie.Need-slice_bounds-read_words-end
slice_bounds-read_words-end c = (both c.before).1

slice_bounds-read_words-end-2 : tie.Need-slice_bounds-read_words-end-2
slice_bounds-read_words-end-2 c = sym (part_long c.before.before)

read_words-answer-requires : tie.Need-read_words-answer-requires
read_words-answer-requires c κs = search rules

put_times-requires : tie.Need-put_times-requires
put_times-requires c κs =
    let r = c.before.before.before.before.before in
    let l = least r in
    let there : r.read_words-answer.result.times ≤ length (part' r ++ drop (entries l) (row l)) =
    rw (length-append (part' r) (drop (entries l) (row l))) (omega (arith, given_there r.read_words-answer.result (words l) (words' r) (part l) (part' r) (given l) r.read_words-answer.ensures)) in
    (there, omega (arith, few r, part_long l, (both l).0))

shape_of-words : tie.Need-shape_of-words
shape_of-words c = search rules

shape_of-times : tie.Need-shape_of-times
shape_of-times c = search rules

shape_of-row : tie.Need-shape_of-row
shape_of-row c = search rules

returns : tie.Need-returns
returns c =
    let t = c.before.before in
    let r = t.before.before.before.before.before.before in
    let l = least r in
    let e = least_enough (start l).args.plan (start l).args.kinds (start l).args.capture.now (length (words l)) (length (times l) / 8) (length (row l)) (entries l) (start l).requires l.least-entries.ensures
    ∙ ap (words_read (start l).args.plan (start l).args.kinds (start l).args.capture.now (length (words l))) (sym (part_long l)) in
    rw e
    (given_bytes r.read_words-answer.result (words l) (words' r) (part l) (part' r) (times l) t.put_times.new.bytes (drop (entries l) (row l)) (given l) r.read_words-answer.ensures
    t.put_times.ensures)

pub words_by_spec : {M : Type 1} → statement M
words_by_spec =
    tie.close
    (tie.spec
    least-entries-requires
    slice_bounds-read_words-end
    slice_bounds-read_words-end-2
    read_words-answer-requires
    put_times-requires
    shape_of-words
    shape_of-times
    shape_of-row
    returns)
