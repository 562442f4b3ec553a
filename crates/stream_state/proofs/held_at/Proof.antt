use mathlib.Core.Bool.{true, false}
use Rattle.format.specs.declared.Held.TheVariants.{Nothing}
use Rattle.format.specs.declared.Kind.{Kind}
use Rattle.format.specs.Lists.{list}
use Rattle.format.specs.Laws.Lists.{length_list}
use Rattle.data_start.specs.declared.Holding.{Holding}
use Rattle.stream_state.specs.Parts.{are_zeros, kinds_at}
use Rattle.stream_state.specs.Again.{again, again_from}
use Prim.Native.Nat.{ℕ, ◌+◌, ◌*◌, ◌-◌, ◌≤◌, ◌<◌}
use mathlib.Core.Path.{◌≡◌, sym, ap, ap₂, ◌∙◌}
use native.Mathlib.Omega.{arith}
use mathlib.Core.List.{List}
use lib.ListN.{length}
use borrow.Author.Tests.{not-true, not-false}
use Rattle.stream_state.specs.Layout.{number_at}
use Rattle.stream_state.proofs.HeldRow.{fed_again, none_held, not_zero, too_many}
use Rattle.stream_state.proofs.Table.{zero_numbers}
use borrow.Author.Rules.{rules}
use Rattle.stream_state.proofs.held_at.Statement.{statement}
use Rattle.stream_state.proofs.held_at.Tie as tie
use Rattle.stream_state.proofs.held_at.Reads as reads
use Rattle.stream_state.proofs.held_at.Lts as lts
use Rattle.data_word.proofs.nothing.Reads as nothing-reads
use Rattle.from_c.proofs.time_at.Reads as time-at-reads
use Rattle.stream_state.proofs.few_zero.Reads as few-zero-reads
use Rattle.stream_state.proofs.kept.Reads as kept-reads
use Rattle.stream_state.proofs.kinds_at.Reads as kinds-at-reads
use Rattle.stream_state.proofs.lost.Reads as lost-reads
use Rattle.stream_state.proofs.numbers_zero.Reads as numbers-zero-reads
use Rattle.stream_state.proofs.refeed.Reads as refeed-reads

-- the function's entry, and the number of words
abbrev start : tie.After-time_at-count → tie.Start
start c = c.before.before.before.before.before

sixteen : (b : List ℕ) → length (kinds_at b) ≡ 16
sixteen b = length_list _ 0 16

abbrev at : tie.After-time_at-count → ℕ → ℕ
at c = number_at (start c).args.state.now

count_is : (c : tie.After-time_at-count) → c.time_at-count.result ≡ at c 15
count_is c = c.time_at-count.ensures

slice_bounds-few_zero-count : tie.Need-slice_bounds-few_zero-count
slice_bounds-few_zero-count c = search rules

slice_bounds-few_zero-start : tie.Need-slice_bounds-few_zero-start
slice_bounds-few_zero-start c = search rules

slice_bounds-few_zero-end : tie.Need-slice_bounds-few_zero-end
slice_bounds-few_zero-end c = search rules

few_zero-requires : tie.Need-few_zero-requires
few_zero-requires c κs = search rules

nothing-requires : tie.Need-nothing-requires
nothing-requires c κs = search rules

kept-requires : tie.Need-kept-requires
kept-requires c κs = search rules

returns-then-few_zero : tie.Need-returns-then-few_zero
returns-then-few_zero c = let t = c.before.before in
    let b = t.args.state.now in
    let z = sym t.few_zero.ensures ∙ t.if-few_zero.true in
    c.kept.ensures ∙ ap (λ (h : Holding). record { bad = false; held = h }) c.nothing.ensures
    ∙ none_held (kinds_at b) (sixteen b) (number_at b) (zero_numbers b 15 5 t.requires (omega arith) z)

time_at-count-requires : tie.Need-time_at-count-requires
time_at-count-requires c κs = search rules

lost-requires : tie.Need-lost-requires
lost-requires c κs = search rules

returns-then-count-gt4 : tie.Need-returns-then-count-gt4
returns-then-count-gt4 c = let r = c.before.before in
    let b = (start r).args.state.now in
    c.lost.ensures ∙ too_many (kinds_at b) (sixteen b) (at r) (omega (arith, count_is r, c.if-count-gt4.true))

overflow_add-first : tie.Need-overflow_add-first
overflow_add-first c = search rules

numbers_zero-requires : tie.Need-numbers_zero-requires
numbers_zero-requires c κs = search rules

lost-requires-then-not-numbers_zero : tie.Need-lost-requires-then-not-numbers_zero
lost-requires-then-not-numbers_zero c κs = search rules

returns-then-not-numbers_zero : tie.Need-returns-then-not-numbers_zero
returns-then-not-numbers_zero c = let r = c.before.before.before.before in
    let e = sym c.numbers_zero.ensures ∙ c.if-not-numbers_zero.true in
    let b = (start r).args.state.now in
    c.lost-then-not-numbers_zero.ensures ∙ not_zero (kinds_at b) (sixteen b) (at r) (omega (arith, count_is r, c.if-count-gt4.false)) (rw (count_is r) at e)

kinds_at-kinds-requires : tie.Need-kinds_at-kinds-requires
kinds_at-kinds-requires c κs = search rules

refeed-requires : tie.Need-refeed-requires
refeed-requires c κs = search rules

returns : tie.Need-returns
returns c = let k = c.before in
    let r = k.before.before.before.before in
    let b = (start r).args.state.now in
    let z : are_zeros (list (at r) (16 + at r 15) (20 - (16 + at r 15))) ≡ true = rw (count_is r) at (sym k.numbers_zero.ensures ∙ k.if-not-numbers_zero.false) in
    c.refeed.ensures
    ∙ ap₂ (λ (ks : List Kind) (n : ℕ). again_from (again ks Nothing (list (at r) 16 n))) k.kinds_at-kinds.ensures (count_is r)
    ∙ fed_again (kinds_at b) (sixteen b) (at r) (omega (arith, count_is r, k.if-count-gt4.false)) z

pub held_at_spec : {M : Type 1} → statement M
held_at_spec =
    tie.close
    (tie.spec
    slice_bounds-few_zero-count
    slice_bounds-few_zero-start
    slice_bounds-few_zero-end
    few_zero-requires
    nothing-requires
    kept-requires
    returns-then-few_zero
    time_at-count-requires
    lost-requires
    returns-then-count-gt4
    overflow_add-first
    numbers_zero-requires
    lost-requires-then-not-numbers_zero
    returns-then-not-numbers_zero
    kinds_at-kinds-requires
    refeed-requires
    returns)
