use Prim.Native.Nat.{ℕ, ◌*◌, ◌-◌, ◌≤◌}
use native.Mathlib.Omega.{arith}
use mathlib.Core.Bool.{false, true}
use mathlib.Core.Path.{◌≡◌, refl, ap, sym, ◌∙◌}
use mathlib.Core.List.{List}
use lib.ListN.{length}
use borrow.Author.Rules.{rules}
use Rattle.format.specs.Bits.{bytes_bits}
use Rattle.format.specs.Laws.Bits.{length_bytes}
use Rattle.format.specs.Log.{on_plan, parsed}
use Rattle.format.specs.declared.Kind.{Kind}
use Rattle.log_read.specs.Cursor.{Ahead}
use Rattle.log_read.specs.Fields.{Heads}
use Rattle.log_read.specs.Found.{found_of}
use Rattle.log_read.specs.Tally.{tallied_of}
use Rattle.log_read.specs.declared.Found.TheVariants.{End}
use Rattle.log_read.proofs.Eight.{filled_ahead}
use Rattle.log_read.proofs.Ending.{ends_good}
use Rattle.log_read.proofs.Parsing.{onward, tally_start}
use Rattle.log_read.proofs.Table.{head_read}
use Rattle.log_words.specs.Laid.{written}
use Rattle.log_words.specs.Row.{onto}
use Rattle.log_words.specs.Words.{words_from}
use Rattle.log_words.proofs.Logged.{behind, closes, fault_told, next_laid, next_none, next_other, none_left, unlaid}
use Rattle.log_words.proofs.Row.{first_written}
use Rattle.log_words.proofs.lay.Statement.{statement}
use Rattle.log_words.proofs.lay.Tie as tie

abbrev invariant-loop-kinds : tie.invariant-loop-kinds
invariant-loop-kinds log words₀ kinds total at₀ items₀ count₀ words at items count =
    (items * 8 ≤ at.at) × (at.at ≤ length log * 8) × (17 * count ≤ at.at) × (length words ≡ length words₀)
    × (tallied_of (parsed (on_plan kinds) log) ≡ onward (on_plan kinds) log at.at items count)
    × (written count (words_from (on_plan kinds) log at.at) words ≡ onto (words_from (on_plan kinds) log 0) words₀)

abbrev decreases-loop-kinds : tie.decreases-loop-kinds
decreases-loop-kinds log words₀ kinds total at₀ items₀ count₀ words at items count = length log * 8 - at.at

-- at the loop: the function's entry, the log and the kinds
abbrev entry : tie.At-loop-kinds invariant-loop-kinds decreases-loop-kinds → tie.Start invariant-loop-kinds decreases-loop-kinds
entry c = c.before.before.before

abbrev log : tie.At-loop-kinds invariant-loop-kinds decreases-loop-kinds → List ℕ
log c = (entry c).args.log.now

abbrev kinds : tie.At-loop-kinds invariant-loop-kinds decreases-loop-kinds → List Kind
kinds c = (entry c).args.kinds

-- where an item was laid: its head, and the turn
abbrev head : tie.After-lay_item-laid invariant-loop-kinds decreases-loop-kinds → tie.After-head-head invariant-loop-kinds decreases-loop-kinds
head c = c.before.before.before.before

abbrev turn : tie.After-head-head invariant-loop-kinds decreases-loop-kinds → tie.At-loop-kinds invariant-loop-kinds decreases-loop-kinds
turn c = c.before.before

ahead : (c : tie.After-head-head invariant-loop-kinds decreases-loop-kinds) → Ahead (bytes_bits (log (turn c))) (turn c).loop-kinds.at.at 57 0 c.filled-from.result
ahead c = filled_ahead (log (turn c)) (turn c).loop-kinds.at.at c.filled-from.ensures.0

here : (c : tie.After-head-head invariant-loop-kinds decreases-loop-kinds) → Heads (bytes_bits (log (turn c))) (turn c).loop-kinds.at.at c.head-head.result
here c = head_read (ahead c) c.head-head.ensures.0

overflow_mul-total : tie.Need-overflow_mul-total invariant-loop-kinds decreases-loop-kinds
overflow_mul-total c = search rules

loop-kinds-init : tie.Need-loop-kinds-init invariant-loop-kinds decreases-loop-kinds
loop-kinds-init c =
    let a = c.before.before in
    let ks = on_plan a.args.kinds in
    (omega arith, omega arith, omega arith, refl, tally_start ks a.args.log.now a.requires.0, first_written (words_from ks a.args.log.now 0) a.args.words.now)

filled-from-requires : tie.Need-filled-from-requires invariant-loop-kinds decreases-loop-kinds
filled-from-requires c κs = search rules

head-head-requires : tie.Need-head-head-requires invariant-loop-kinds decreases-loop-kinds
head-head-requires c κs = search rules

overflow_cast-head : tie.Need-overflow_cast-head invariant-loop-kinds decreases-loop-kinds
overflow_cast-head c = search rules

bounds-kinds-head : tie.Need-bounds-kinds-head invariant-loop-kinds decreases-loop-kinds
bounds-kinds-head c = search rules

lay_item-laid-requires : tie.Need-lay_item-laid-requires invariant-loop-kinds decreases-loop-kinds
lay_item-laid-requires c κs =
    let h = c.before.before.before in
    let o = turn h in
    (omega (arith, o.loop-kinds.invariant.2, o.loop-kinds.invariant.3), h.head-head.ensures.2, omega arith, omega arith, (entry o).requires.0)

ends-requires : tie.Need-ends-requires invariant-loop-kinds decreases-loop-kinds
ends-requires c κs = search rules

shape_of-words-then-ends : tie.Need-shape_of-words-then-ends invariant-loop-kinds decreases-loop-kinds
shape_of-words-then-ends c =
    let d = c.before.before.before.before.before.before in
    let h = head d in
    let o = turn h in
    let w = next_none (ahead h) h.head-head.ensures.0 (length (log o) * 8) (length_bytes (log o)) o.loop-kinds.invariant.1 (sym c.ends.ensures ∙ c.if-ends.true) in
    ap length (unlaid (d.lay_item-laid.ensures (kinds o) o.loop-kinds.at.at (here h) refl) w) ∙ o.loop-kinds.invariant.3

returns-then-ends : tie.Need-returns-then-ends invariant-loop-kinds decreases-loop-kinds
returns-then-ends c =
    let d = c.before.before.before.before.before.before in
    let h = head d in
    let o = turn h in
    let u = sym c.ends.ensures ∙ c.if-ends.true in
    let w = next_none (ahead h) h.head-head.ensures.0 (length (log o) * 8) (length_bytes (log o)) o.loop-kinds.invariant.1 u in
    let e = ends_good (ahead h) (length (log o) * 8) (length_bytes (log o)) o.loop-kinds.invariant.1 u in (
      sym (o.loop-kinds.invariant.4 ∙ closes (kinds o) (log o) o.loop-kinds.at.at o.loop-kinds.items o.loop-kinds.count o.loop-kinds.invariant.0 o.loop-kinds.invariant.1 e),
      unlaid (d.lay_item-laid.ensures (kinds o) o.loop-kinds.at.at (here h) refl) w
          ∙ none_left (kinds o) (log o) o.loop-kinds.at.at o.loop-kinds.items o.loop-kinds.count o.loop-kinds.invariant.0 o.loop-kinds.invariant.1 o.loop-kinds.words End (ap found_of e) tt ∙ o.loop-kinds.invariant.5,
    )

overflow_cast-result : tie.Need-overflow_cast-result invariant-loop-kinds decreases-loop-kinds
overflow_cast-result c =
    let d = c.before.before.before.before.before.before.before in
    let h = head d in
    let o = turn h in
    let n = next_other (ahead h) h.head-head.ensures.0 (length (log o) * 8) (length_bytes (log o)) o.loop-kinds.invariant.1 (sym c.ends.ensures ∙ c.if-ends.false) in
    let t = fault_told (kinds o) (log o) o.loop-kinds.at.at o.loop-kinds.items o.loop-kinds.count o.loop-kinds.invariant.0 o.loop-kinds.invariant.1
    n (d.lay_item-laid.ensures (kinds o) o.loop-kinds.at.at (here h) refl) c.if-laid-ne0.true in
    omega (arith, t.small)

shape_of-words-then-laid-ne0 : tie.Need-shape_of-words-then-laid-ne0 invariant-loop-kinds decreases-loop-kinds
shape_of-words-then-laid-ne0 c = search rules

returns-then-laid-ne0 : tie.Need-returns-then-laid-ne0 invariant-loop-kinds decreases-loop-kinds
returns-then-laid-ne0 c =
    let d = c.before.before.before.before.before.before.before in
    let h = head d in
    let o = turn h in
    let n = next_other (ahead h) h.head-head.ensures.0 (length (log o) * 8) (length_bytes (log o)) o.loop-kinds.invariant.1 (sym c.ends.ensures ∙ c.if-ends.false) in
    let t = fault_told (kinds o) (log o) o.loop-kinds.at.at o.loop-kinds.items o.loop-kinds.count o.loop-kinds.invariant.0 o.loop-kinds.invariant.1
    n (d.lay_item-laid.ensures (kinds o) o.loop-kinds.at.at (here h) refl) c.if-laid-ne0.true in
    (sym (o.loop-kinds.invariant.4 ∙ t.tally), t.row ∙ o.loop-kinds.invariant.5)

overflow_add-items : tie.Need-overflow_add-items invariant-loop-kinds decreases-loop-kinds
overflow_add-items c = search rules

loop-kinds-smaller : tie.Need-loop-kinds-smaller invariant-loop-kinds decreases-loop-kinds
loop-kinds-smaller c =
    let d = c.before.before.before.before in
    let h = head d in
    let o = turn h in
    let l = d.lay_item-laid.ensures (kinds o) o.loop-kinds.at.at (here h) refl in
    let n = next_laid (ahead h) h.head-head.ensures.0 (length (log o) * 8) (length_bytes (log o)) o.loop-kinds.invariant.1 l c.if-laid-ne0.false in
    let b = behind (kinds o) (log o) o.loop-kinds.at.at o.loop-kinds.items o.loop-kinds.count o.loop-kinds.invariant.0 o.loop-kinds.invariant.1
    n l c.if-laid-ne0.false (omega (arith, o.loop-kinds.invariant.2, o.loop-kinds.invariant.3)) in
    omega (arith, b.far, b.within)

loop-kinds-preserved : tie.Need-loop-kinds-preserved invariant-loop-kinds decreases-loop-kinds
loop-kinds-preserved c =
    let d = c.before.before.before.before in
    let h = head d in
    let o = turn h in
    let l = d.lay_item-laid.ensures (kinds o) o.loop-kinds.at.at (here h) refl in
    let n = next_laid (ahead h) h.head-head.ensures.0 (length (log o) * 8) (length_bytes (log o)) o.loop-kinds.invariant.1 l c.if-laid-ne0.false in
    let b = behind (kinds o) (log o) o.loop-kinds.at.at o.loop-kinds.items o.loop-kinds.count o.loop-kinds.invariant.0 o.loop-kinds.invariant.1
    n l c.if-laid-ne0.false (omega (arith, o.loop-kinds.invariant.2, o.loop-kinds.invariant.3)) in
    (omega (arith, b.far), b.within, omega (arith, b.dense), b.same ∙ o.loop-kinds.invariant.3, o.loop-kinds.invariant.4 ∙ b.tally, b.row ∙ o.loop-kinds.invariant.5)

pub lay_spec : {M : Type 1} → statement M
lay_spec =
    tie.close
    (tie.spec
    invariant-loop-kinds
    decreases-loop-kinds
    overflow_mul-total
    loop-kinds-init
    filled-from-requires
    head-head-requires
    overflow_cast-head
    bounds-kinds-head
    lay_item-laid-requires
    ends-requires
    shape_of-words-then-ends
    returns-then-ends
    overflow_cast-result
    shape_of-words-then-laid-ne0
    returns-then-laid-ne0
    overflow_add-items
    loop-kinds-smaller
    loop-kinds-preserved)
