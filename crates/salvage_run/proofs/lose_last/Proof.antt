use borrow.Author.Rules.{rules}
use Prim.Native.Nat.{◌+◌, ◌-◌, ◌≤◌}
use native.Mathlib.Omega.{arith}
use mathlib.Core.Path.{◌≡◌}
use mathlib.Core.List.{map}
use lib.ListN.{length, drop}
use Rattle.format.specs.Plan.{stored_at}
use Rattle.salvage_run.specs.Tape.{put_all}
use Rattle.salvage_run.proofs.Rows.{all_next, all_last, put_long}
use Rattle.salvage_run.proofs.Held.{low_at}
use Rattle.salvage_run.specs.Tape.{numbers_of}
use mathlib.Core.Path.{sym, ◌∙◌}
use Prim.Native.Nat.{ℕ, ◌^◌}
use Rattle.salvage_run.specs.Tape.{put_at}
use lib.ListN.{get_or}
use mathlib.Core.List.{List}
use mathlib.Core.Path.{ap}
use Rattle.salvage_run.proofs.lose_last.Statement.{statement}
use Rattle.salvage_run.proofs.lose_last.Tie as tie
use Rattle.salvage_run.proofs.lose_last.Reads as reads
use Rattle.salvage_run.proofs.lose_last.Lts as lts
use Rattle.capture_parts.proofs.stored_place.Reads as stored-place-reads
use Rattle.salvage_run.proofs.put_at.Reads as put-at-reads

abbrev invariant-loop-index : tie.invariant-loop-index
invariant-loop-index words plan count at report₀ numbers index₀ entries₀ report index entries =
    (index ≤ 4) × (at + index ≡ entries + (4 - words)) × (length report ≡ length report₀)
    × (put_all report₀ at (map (stored_at plan) (drop (4 - words) numbers)) ≡ put_all report entries (map (stored_at plan) (drop index numbers)))

abbrev decreases-loop-index : tie.decreases-loop-index
decreases-loop-index words plan count at report₀ numbers index₀ entries₀ report index entries = 4 - index

overflow_sub-index : tie.Need-overflow_sub-index invariant-loop-index decreases-loop-index
overflow_sub-index c = search rules

loop-index-init : tie.Need-loop-index-init invariant-loop-index decreases-loop-index
loop-index-init c = search rules

offset_bounds-numbers-index : tie.Need-offset_bounds-numbers-index invariant-loop-index decreases-loop-index
offset_bounds-numbers-index c = search rules

bounds-numbers-index : tie.Need-bounds-numbers-index invariant-loop-index decreases-loop-index
bounds-numbers-index c = search rules

stored_place-requires : tie.Need-stored_place-requires invariant-loop-index decreases-loop-index
stored_place-requires c κs =
    let s = c.before.before.before.before in
    (s.requires.0, s.requires.1, low_at (2 ^ 32) s.args.last s.requires.2 c.loop-index.index (omega arith))

put_at-requires : tie.Need-put_at-requires invariant-loop-index decreases-loop-index
put_at-requires c κs = search rules

overflow_add-entries : tie.Need-overflow_add-entries invariant-loop-index decreases-loop-index
overflow_add-entries c = search rules

overflow_add-index : tie.Need-overflow_add-index invariant-loop-index decreases-loop-index
overflow_add-index c = search rules

loop-index-smaller : tie.Need-loop-index-smaller invariant-loop-index decreases-loop-index
loop-index-smaller c = search rules

loop-index-preserved : tie.Need-loop-index-preserved invariant-loop-index decreases-loop-index
loop-index-preserved c =
    let l = c.before.before.before.before.before.before in
    let s = l.before.before in
    let f : ℕ → ℕ = stored_at s.args.plan in
    let e : c.put_at.new.row ≡ put_at l.loop-index.report l.loop-index.entries (f (get_or (numbers_of s.args.last) l.loop-index.index 0)) =
    c.put_at.ensures ∙ ap (put_at l.loop-index.report l.loop-index.entries) c.stored_place.ensures in (
      omega arith,
      omega (arith, l.loop-index.invariant.1),
      c.report-1.given ∙ l.loop-index.invariant.2,
      l.loop-index.invariant.3 ∙ all_next f (numbers_of s.args.last) l.loop-index.report l.loop-index.entries l.loop-index.index c.loop-index-test.true
          ∙ ap (λ (r : List ℕ). put_all r (l.loop-index.entries + 1) (map f (drop (l.loop-index.index + 1) (numbers_of s.args.last)))) (sym e),
    )

shape_of-report : tie.Need-shape_of-report invariant-loop-index decreases-loop-index
shape_of-report c = search rules

returns : tie.Need-returns invariant-loop-index decreases-loop-index
returns c =
    let l = c.before in
    let s = l.before.before in (
      omega (arith, l.loop-index.invariant.1, c.loop-index-test.false, l.loop-index.invariant.0, s.requires.3),
      sym (l.loop-index.invariant.3 ∙ all_last (stored_at s.args.plan) (numbers_of s.args.last) l.loop-index.report l.loop-index.entries l.loop-index.index c.loop-index-test.false),
    )

pub lose_last_spec : {M : Type 1} → statement M
lose_last_spec =
    tie.close
    (tie.spec
    invariant-loop-index
    decreases-loop-index
    overflow_sub-index
    loop-index-init
    offset_bounds-numbers-index
    bounds-numbers-index
    stored_place-requires
    put_at-requires
    overflow_add-entries
    overflow_add-index
    loop-index-smaller
    loop-index-preserved
    shape_of-report
    returns)
