use Prim.Native.Nat.{ℕ, ◌/◌, ◌≤◌}
use native.Mathlib.Omega.{arith}
use mathlib.Core.Path.{◌≡◌, ap, sym, ◌∙◌}
use mathlib.Core.List.{List, ◌++◌}
use lib.ListN.{length, drop, length-append, take}
use lib.Seq.{length-take-le}
use Rattle.format.specs.declared.Answer.{Answer}
use Rattle.read_from_c.proofs.Rooms.{least_both}
use Rattle.stream_calls.specs.Calls.{Outcome, feeding}
use Rattle.stream_from_c.proofs.Entries.{least_same, leaves_bytes, times_few, told_times}
use borrow.Author.Rules.{rules}
use Rattle.stream_from_c.proofs.feed_by.Statement.{statement}
use Rattle.stream_from_c.proofs.feed_by.Tie as tie
use Rattle.stream_from_c.proofs.feed_by.Reads as reads
use Rattle.stream_from_c.proofs.feed_by.Lts as lts
use Rattle.from_c.proofs.put_times.Reads as put-times-reads
use Rattle.read_from_c.proofs.least.Reads as least-reads
use Rattle.stream.proofs.feed.Reads as feed-reads

-- ---- the places

-- so many entries of the row are lent
abbrev Lent : Type 0
Lent = tie.After-least-entries

abbrev start : Lent → tie.Start
start c = c.before.before.before.before.before.before

abbrev entries : Lent → ℕ
entries c = c.least-entries.result

abbrev row : Lent → List ℕ
row c = (start c).args.row.now

both : (c : Lent) → (entries c ≤ length (start c).args.times.now / 8) × (entries c ≤ length (row c))
both c = least_both (length (start c).args.times.now / 8) (length (row c)) (entries c) c.least-entries.ensures

part_long : (c : Lent) → length (take (entries c) (row c)) ≡ entries c
part_long c = length-take-le (entries c) (row c) (both c).1

-- the piece was fed
abbrev Fed : Type 0
Fed = tie.After-feed-answer

abbrev lent : Fed → Lent
lent c = c.before.before.before.before

abbrev outcome : Lent → Outcome
outcome l = let a = (start l).args in feeding a.state.now a.piece.now (length a.log.now) (length (take (entries l) (row l)))

told : (c : Fed) → c.feed-answer.result.times ≡ length (outcome (lent c)).times
told c =
    let l = lent c in
    let a = (start l).args in
    ap (λ (r : Answer). r.times) c.feed-answer.ensures.answer ∙ told_times a.state.now a.piece.now (length a.log.now) (length (take (entries l) (row l)))

few : (c : Fed) → c.feed-answer.result.times ≤ entries (lent c)
few c =
    let l = lent c in
    let a = (start l).args in
    omega (arith, told c, times_few a.state.now a.piece.now (length a.log.now) (length (take (entries l) (row l))), part_long l)

-- ---- the needs

least-entries-requires : tie.Need-least-entries-requires
least-entries-requires c κs = search rules

slice_bounds-feed-end : tie.Need-slice_bounds-feed-end
slice_bounds-feed-end c = (both c.before.before).1

slice_bounds-feed-end-2 : tie.Need-slice_bounds-feed-end-2
slice_bounds-feed-end-2 c = sym (part_long c.before.before.before)

feed-answer-requires : tie.Need-feed-answer-requires
feed-answer-requires c κs = search rules

put_times-requires : tie.Need-put_times-requires
put_times-requires c κs =
    let f = c.before.before.before.before.before.before.before in
    let l = lent f in
    let p : List ℕ = f.feed-answer.new.times in
    let there : f.feed-answer.result.times ≤ length (p ++ drop (entries l) (row l)) =
    rw (length-append p (drop (entries l) (row l))) (omega (arith, told f, ap (λ (u : List ℕ). length u) f.feed-answer.ensures.times ∙ length-append (outcome l).times _)) in
    (there, omega (arith, few f, (both l).0))

shape_of-state : tie.Need-shape_of-state
shape_of-state c = search rules

shape_of-log : tie.Need-shape_of-log
shape_of-log c = search rules

shape_of-times : tie.Need-shape_of-times
shape_of-times c = search rules

shape_of-row : tie.Need-shape_of-row
shape_of-row c = search rules

returns : tie.Need-returns
returns c =
    let t = c.before.before in
    let f = c.before.before.before.before.before.before.before.before.before.before in
    let l = lent f in
    let a = (start l).args in
    let e = least_same a.state.now a.piece.now (length a.log.now) (length a.times.now / 8) (length (row l)) (entries l) (start l).requires l.least-entries.ensures
    ∙ ap (feeding a.state.now a.piece.now (length a.log.now)) (sym (part_long l)) in
    rw e
    (leaves_bytes (outcome l) (take (entries l) (row l)) f.feed-answer.new.times (drop (entries l) (row l)) a.times.now f.feed-answer.ensures t.put_times.ensures
    (told_times a.state.now a.piece.now (length a.log.now) (length (take (entries l) (row l)))))

pub feed_by_spec : {M : Type 1} → statement M
feed_by_spec =
    tie.close
    (tie.spec
    least-entries-requires
    slice_bounds-feed-end
    slice_bounds-feed-end-2
    feed-answer-requires
    put_times-requires
    shape_of-state
    shape_of-log
    shape_of-times
    shape_of-row
    returns)
