use borrow.Author.Rules.{rules}
use Rattle.salvage_run.proofs.Steps.{row_all, row_fill, row_none, row_word}
use Rattle.salvage_run.proofs.Sounds.{fill_sound, word_sound}
use Rattle.salvage_run.specs.Tape.{on_row, Sound, Tape, tape}
use Rattle.salvage_run.specs.declared.Pass.{Pass}
use lib.ListN.{length, drop, get_or}
use mathlib.Core.Path.{◌≡◌, refl, sym, ap, subst, ◌∙◌}
use native.Mathlib.Omega.{arith}
use Prim.Native.Nat.{ℕ, ◌+◌, ◌-◌, ◌≤◌}
use Rattle.salvage_run.proofs.on_row.Statement.{statement}
use Rattle.salvage_run.proofs.on_row.Tie as tie
use Rattle.salvage_run.proofs.on_row.Reads as reads
use Rattle.salvage_run.proofs.on_row.Lts as lts
use Rattle.salvage_run.proofs.on_word.Reads as on-word-reads
use Rattle.word.proofs.is_fill.Reads as is-fill-reads

abbrev invariant-loop-i : tie.invariant-loop-i
invariant-loop-i kinds plan count row from out₀ report₀ pass₀ i₀ out report pass i =
    (i ≤ length row) × (length out ≡ length out₀) × (length report ≡ length report₀) × Sound (from + i) pass
    × (on_row kinds plan from row (tape pass₀ out₀ report₀) ≡ on_row kinds plan (from + i) (drop i row) (tape pass out report))

abbrev decreases-loop-i : tie.decreases-loop-i
decreases-loop-i kinds plan count row from out₀ report₀ pass₀ i₀ out report pass i = length row - i

abbrev before : tie.Start invariant-loop-i decreases-loop-i → Tape
before s = tape s.args.pass s.args.out.now s.args.report.now

abbrev now : tie.At-loop-i invariant-loop-i decreases-loop-i → Tape
now l = tape l.loop-i.pass l.loop-i.out l.loop-i.report

further : (n i : ℕ) → n + i + 1 ≡ n + (i + 1)
further n i = omega arith

loop-i-init : tie.Need-loop-i-init invariant-loop-i decreases-loop-i
loop-i-init c =
    let s = c.before.before.before in
    let z : s.args.from ≡ s.args.from + 0 = omega arith in
    (omega arith, refl, refl, subst (λ (n : ℕ). Sound n s.args.pass) z s.requires.2, row_none s.args.kinds s.args.plan s.args.from s.args.row.now (before s))

offset_bounds-row-i : tie.Need-offset_bounds-row-i invariant-loop-i decreases-loop-i
offset_bounds-row-i c = search rules

bounds-row-i : tie.Need-bounds-row-i invariant-loop-i decreases-loop-i
bounds-row-i c = search rules

is_fill-requires : tie.Need-is_fill-requires invariant-loop-i decreases-loop-i
is_fill-requires c κs = search rules

overflow_add-i : tie.Need-overflow_add-i invariant-loop-i decreases-loop-i
overflow_add-i c = search rules

loop-i-smaller-then-is_fill : tie.Need-loop-i-smaller-then-is_fill invariant-loop-i decreases-loop-i
loop-i-smaller-then-is_fill c = search rules

loop-i-preserved-then-is_fill : tie.Need-loop-i-preserved-then-is_fill invariant-loop-i decreases-loop-i
loop-i-preserved-then-is_fill c =
    let l = c.before.before.before.before in
    let s = c.before.before.before.before.before.before.before.before in
    let a = s.args in
    let h = c.loop-i-test.true in (
      omega (arith, h),
      l.loop-i.invariant.1,
      l.loop-i.invariant.2,
      subst (λ (n : ℕ). Sound n l.loop-i.pass) (further a.from l.loop-i.i) (fill_sound (a.from + l.loop-i.i) l.loop-i.pass l.loop-i.invariant.3),
      l.loop-i.invariant.4 ∙ row_fill a.kinds a.plan a.from a.row.now l.loop-i.i (now l) h (sym c.is_fill.ensures ∙ c.if-is_fill.true),
    )

overflow_add-from : tie.Need-overflow_add-from invariant-loop-i decreases-loop-i
overflow_add-from c = search rules

on_word-pass-requires : tie.Need-on_word-pass-requires invariant-loop-i decreases-loop-i
on_word-pass-requires c κs =
    let l = c.before.before.before.before.before.before in
    let s = c.before.before.before.before.before.before.before.before.before.before in
    let h = c.loop-i-test.true in
    (s.requires.0, s.requires.1, l.loop-i.invariant.3, omega (arith, h, s.requires.4), s.requires.3 l.loop-i.i h)

overflow_add-i-in-loop-i : tie.Need-overflow_add-i-in-loop-i invariant-loop-i decreases-loop-i
overflow_add-i-in-loop-i c = search rules

loop-i-smaller : tie.Need-loop-i-smaller invariant-loop-i decreases-loop-i
loop-i-smaller c = search rules

loop-i-preserved : tie.Need-loop-i-preserved invariant-loop-i decreases-loop-i
loop-i-preserved c =
    let l = c.before.before.before.before.before.before.before.before.before.before.before in
    let s = c.before.before.before.before.before.before.before.before.before.before.before.before.before.before.before in
    let a = s.args in
    let h = c.loop-i-test.true in
    let w = c.on_word-pass.ensures in (
      omega (arith, h),
      c.out-1.given ∙ l.loop-i.invariant.1,
      c.report-1.given ∙ l.loop-i.invariant.2,
      subst (λ (n : ℕ). Sound n c.on_word-pass.result) (further a.from l.loop-i.i)
          (subst (λ (t : Tape). Sound (a.from + l.loop-i.i + 1) t.pass) (sym w)
          (word_sound a.plan a.kinds (a.from + l.loop-i.i) (get_or a.row.now l.loop-i.i 0) (s.requires.3 l.loop-i.i h) (now l) l.loop-i.invariant.3)),
      l.loop-i.invariant.4 ∙ row_word a.kinds a.plan a.from a.row.now l.loop-i.i (now l) h (sym c.is_fill.ensures ∙ c.if-is_fill.false)
          ∙ ap (on_row a.kinds a.plan (a.from + (l.loop-i.i + 1)) (drop (l.loop-i.i + 1) a.row.now)) (sym w),
    )

shape_of-out : tie.Need-shape_of-out invariant-loop-i decreases-loop-i
shape_of-out c = c.loop-i.invariant.1

shape_of-report : tie.Need-shape_of-report invariant-loop-i decreases-loop-i
shape_of-report c = c.loop-i.invariant.2

returns : tie.Need-returns invariant-loop-i decreases-loop-i
returns c =
    let l = c.before in
    let s = c.before.before.before.before.before in
    let a = s.args in
    let e : a.from + l.loop-i.i ≡ a.from + length a.row.now = omega (arith, c.loop-i-test.false, l.loop-i.invariant.0) in (
      sym (l.loop-i.invariant.4 ∙ row_all a.kinds a.plan a.from a.row.now l.loop-i.i (now l) c.loop-i-test.false),
      subst (λ (n : ℕ). Sound n l.loop-i.pass) e l.loop-i.invariant.3,
    )

pub on_row_spec : {M : Type 1} → statement M
on_row_spec =
    tie.close
    (tie.spec
    invariant-loop-i
    decreases-loop-i
    loop-i-init
    offset_bounds-row-i
    bounds-row-i
    is_fill-requires
    overflow_add-i
    loop-i-smaller-then-is_fill
    loop-i-preserved-then-is_fill
    overflow_add-from
    on_word-pass-requires
    overflow_add-i-in-loop-i
    loop-i-smaller
    loop-i-preserved
    shape_of-out
    shape_of-report
    returns)
