use borrow.Author.Rules.{rules}
use Rattle.salvage.proofs.Rooms.{denies_by, is_saved, not_legal, not_whole, too_long}
use lib.ListN.{length}
use mathlib.Core.Path.{◌≡◌, sym, subst, ◌∙◌}
use Rattle.salvage_rules.specs.Salvage.{Salvage, Saves}
use Rattle.format.specs.Laws.Limits.{Shape}
use Rattle.format.specs.Laws.Legal.{shape_of}
use Rattle.format.specs.Plan.{group_words, legal}
use Prim.Native.Nat.{◌*◌, ◌%◌}
use lib.Dec.{eqb}
use mathlib.Core.Bool.{true}
use borrow.Author.Tests.{eqb-true, not-false, not-true}
use Rattle.salvage.proofs.salvage.Statement.{statement}
use Rattle.salvage.proofs.salvage.Tie as tie
use Rattle.salvage.proofs.salvage.Reads as reads
use Rattle.salvage.proofs.salvage.Lts as lts
use Rattle.capture_parts.proofs.is_whole.Reads as is-whole-reads
use Rattle.plan.proofs.legal.Reads as legal-reads
use Rattle.salvage.proofs.forgo.Reads as forgo-reads
use Rattle.salvage.proofs.salvage_sized.Reads as salvage-sized-reads

abbrev Judged : Type 0
Judged = tie.After-legal

abbrev start : Judged → tie.Start
start c = c.before.before.before.before.before

-- the plan is legal
is_legal : (c : tie.Else-not-legal) → legal (start c.before).args.plan (start c.before).args.kinds ≡ true
is_legal c = sym c.legal.ensures ∙ c.if-not-legal.false

shape : (c : tie.Else-not-legal) → Shape (start c.before).args.plan
shape c = shape_of _ _ (is_legal c)

-- and the capture has whole groups
whole : (c : tie.Else-not-is_whole) → let a = (start c.before.before.before.before).args in eqb (length a.capture.now % (3 * group_words a.plan)) 0 ≡ true
whole c = sym c.is_whole.ensures ∙ c.if-not-is_whole.false

abbrev sound : tie.After-salvage_sized-arg-3-1 → tie.Else-not-is_whole
sound c = c.before.before.before

legal-requires : tie.Need-legal-requires
legal-requires c κs = search rules

forgo-requires : tie.Need-forgo-requires
forgo-requires c κs = search rules

returns-then-not-legal : tie.Need-returns-then-not-legal
returns-then-not-legal c =
    let j = c.before.before in
    let a = (start j).args in
    let e = sym j.legal.ensures ∙ c.if-not-legal.true in
    denies_by _ 1 0 _ a.log.now a.times.now a.report.now (not_legal a.plan a.kinds a.capture.now _ _ _ e) c.forgo.ensures

forgo-requires-then-length-gt1048576 : tie.Need-forgo-requires-then-length-gt1048576
forgo-requires-then-length-gt1048576 c κs = search rules

returns-then-length-gt1048576 : tie.Need-returns-then-length-gt1048576
returns-then-length-gt1048576 c =
    let l = c.before.before in
    let a = (start l.before).args in
    denies_by _ 8 (length a.capture.now) _ a.log.now a.times.now a.report.now
    (too_long a.plan a.kinds a.capture.now _ _ _ (is_legal l) c.if-length-gt1048576.true) c.forgo-then-length-gt1048576.ensures

is_whole-requires : tie.Need-is_whole-requires
is_whole-requires c κs = (shape c.before, c.if-length-gt1048576.false)

forgo-requires-then-not-is_whole : tie.Need-forgo-requires-then-not-is_whole
forgo-requires-then-not-is_whole c κs = search rules

returns-then-not-is_whole : tie.Need-returns-then-not-is_whole
returns-then-not-is_whole c =
    let t = c.before in
    let f = t.before.before in
    let l = f.before in
    let a = (start l.before).args in
    let e = sym t.is_whole.ensures ∙ t.if-not-is_whole.true in
    denies_by _ 8 (length a.capture.now) _ a.log.now a.times.now a.report.now
    (not_whole a.plan a.kinds a.capture.now _ _ _ (is_legal l) f.if-length-gt1048576.false e) c.forgo-then-not-is_whole.ensures

salvage_sized-requires : tie.Need-salvage_sized-requires
salvage_sized-requires c κs =
    let w = sound c in
    let f = w.before.before in
    (shape f.before, f.if-length-gt1048576.false, eqb-true _ _ (whole w))

shape_of-log : tie.Need-shape_of-log
shape_of-log c = search rules

shape_of-times : tie.Need-shape_of-times
shape_of-times c = search rules

shape_of-report : tie.Need-shape_of-report
shape_of-report c = search rules

returns : tie.Need-returns
returns c =
    let z = c.before.before.before.before.before.before in
    let w = sound z.before in
    let f = w.before.before in
    let a = (start f.before.before).args in
    let y = z.salvage_sized.new in
    subst (λ (m : Salvage). Saves m z.salvage_sized.result a.log.now y.log a.times.now y.times a.report.now y.report)
    (sym (is_saved a.plan a.kinds a.capture.now (length a.log.now) (length a.times.now) (length a.report.now)
    (is_legal f.before) f.if-length-gt1048576.false (whole w)))
    z.salvage_sized.ensures

pub salvage_spec : {M : Type 1} → statement M
salvage_spec =
    tie.close
    (tie.spec
    legal-requires
    forgo-requires
    returns-then-not-legal
    forgo-requires-then-length-gt1048576
    returns-then-length-gt1048576
    is_whole-requires
    forgo-requires-then-not-is_whole
    returns-then-not-is_whole
    salvage_sized-requires
    shape_of-log
    shape_of-times
    shape_of-report
    returns)
