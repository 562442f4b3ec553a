use Prim.Native.Nat.{ℕ}
use native.Mathlib.Omega.{arith}
use mathlib.Core.List.{List}
use mathlib.Core.Path.{◌≡◌, refl, sym, ◌∙◌}
use lib.ListN.{length, take}
use lib.Seq.{length-take-le}
use borrow.Author.Rules.{rules}
use Rattle.format.specs.Log.{on_plan}
use Rattle.log_words.specs.Words.{words_from}
use Rattle.compose.proofs.Laws.{all_bytes}
use Rattle.compose.proofs.Answered.{Counted, log_counted, log_faulty, row_begins, row_holds}
use Rattle.compose.proofs.compose_in.Statement.{statement}
use Rattle.compose.proofs.compose_in.Tie as tie

-- where a log without a fault was told: the words laid before, the function's entry, how many words there are and which
abbrev laid : tie.In-Items → tie.After-lay
laid c = c.before.before.before

abbrev entry : tie.After-lay → tie.Start
entry c = c.before.before.before.before.before.before

abbrev count : tie.In-Items → ℕ
count c = c.in-Items.words

abbrev words : tie.In-Items → List ℕ
words c = words_from (on_plan (entry (laid c)).args.kinds) (entry (laid c)).args.log.now 0

abbrev row : tie.In-Items → List ℕ
row c = (laid c).lay.new.words

counted : (c : tie.In-Items) → Counted (entry (laid c)).args.plan (entry (laid c)).args.kinds (entry (laid c)).args.log.now (count c)
counted c =
    let a = entry (laid c) in
    let g = c.in-Items in
    log_counted a.args.plan a.args.kinds a.args.log.now a.requires.0
    (all_bytes a.args.log.now (λ i. omega (arith, (laid c).shared_slice_known-1.given i)))
    g.items (count c) (sym g.is ∙ (laid c).lay.ensures.0)

begins : (c : tie.In-Items) → take (count c) (row c) ≡ words c
begins c = row_begins (count c) (row c) (words c) (entry (laid c)).args.row.now (laid c).lay.ensures.1 (counted c).count

lay-requires : tie.Need-lay-requires
lay-requires c κs = search rules

enum_known-words : tie.Need-enum_known-words
enum_known-words c = search rules

slice_bounds-compose_laid-end : tie.Need-slice_bounds-compose_laid-end
slice_bounds-compose_laid-end c =
    let w = c in
    row_holds (count w) (row w) (words w) (begins w) (counted w).count

slice_bounds-compose_laid-end-in-Items : tie.Need-slice_bounds-compose_laid-end-in-Items
slice_bounds-compose_laid-end-in-Items c =
    let w = c in
    sym (length-take-le (count w) (row w) (row_holds (count w) (row w) (words w) (begins w) (counted w).count))

compose_laid-requires : tie.Need-compose_laid-requires
compose_laid-requires c κs =
    let w = c.before in
    let k = counted w in
    rw (begins w) (k.shape, omega (arith, k.count, k.few), k.unsent)

enum_known-number : tie.Need-enum_known-number
enum_known-number c = search rules

refusal-requires : tie.Need-refusal-requires
refusal-requires c κs = search rules

shape_of-out : tie.Need-shape_of-out
shape_of-out c = search rules

shape_of-row-in-Items : tie.Need-shape_of-row-in-Items
shape_of-row-in-Items c = search rules

returns-in-Items : tie.Need-returns-in-Items
returns-in-Items c =
    let w = c.before.before.before.before in
    let a = (entry (laid w)).args in
    rw ((counted w).is a.times.now (length a.out.now)) (rw (begins w) at c.compose_laid.ensures)

shape_of-row-in-Fault : tie.Need-shape_of-row-in-Fault
shape_of-row-in-Fault c = search rules

returns-in-Fault : tie.Need-returns-in-Fault
returns-in-Fault c =
    let g = c.in-Fault in
    let l = c.before.before.before.before in
    let a = entry l in
    rw (log_faulty a.args.plan a.args.kinds a.args.log.now a.args.times.now (length a.args.out.now) a.requires.0
    g.number g.place (sym g.is ∙ l.lay.ensures.0))
    (c.refusal.ensures, refl)

pub compose_in_spec : {M : Type 1} → statement M
compose_in_spec =
    tie.close
    (tie.spec
    lay-requires
    enum_known-words
    slice_bounds-compose_laid-end
    slice_bounds-compose_laid-end-in-Items
    compose_laid-requires
    enum_known-number
    refusal-requires
    shape_of-out
    shape_of-row-in-Items
    returns-in-Items
    shape_of-row-in-Fault
    returns-in-Fault)
