use mathlib.Core.Path.{◌≡◌, refl, sym, ap, ◌∙◌}
use mathlib.Core.Bool.{true}
use Rattle.notices.specs.Laws.Rows.{part_rest}
use Rattle.stream_rules.specs.Stream.{closed}
use Rattle.stream_state.specs.Laws.Ended.{Bare, bare_is, is_bare, state_closed}
use Rattle.stream_state.specs.Layout.{is_state}
use Prim.Native.Nat.{ℕ, ◌<◌}
use mathlib.Core.List.{List}
use native.Mathlib.Omega.{arith}
use lib.ListN.{drop}
use borrow.Author.Tests.{not-true, not-false}
use Rattle.format.specs.Lists.{Bytes, list}
use Rattle.format.specs.Laws.Word.Bytes.{all_bytes}
use Rattle.stream_state.specs.Parts.{are_zeros}
use Rattle.stream_state.specs.Layout.{number_at}
use Rattle.stream_state.proofs.Loads.{loads, misfits}
use borrow.Author.Rules.{rules}
use Rattle.stream_state.proofs.load_closed.Statement.{statement}
use Rattle.stream_state.proofs.load_closed.Tie as tie
use Rattle.stream_state.proofs.load_closed.Reads as reads
use Rattle.stream_state.proofs.load_closed.Lts as lts
use Rattle.stream_state.proofs.bytes_zero.Reads as bytes-zero-reads
use Rattle.stream_state.proofs.ended.Reads as ended-reads
use Rattle.stream_state.proofs.numbers_zero.Reads as numbers-zero-reads

-- what a state's bytes are here
abbrev bare : (s : tie.Start) → is_state s.args.state.now ≡ true → Bare s.args.state.now
bare s = is_bare s.args.state.now s.requires.1 s.requires.2

numbers_zero-requires : tie.Need-numbers_zero-requires
numbers_zero-requires c κs = search rules

ended-requires : tie.Need-ended-requires
ended-requires c κs = search rules

returns-then-not-numbers_zero : tie.Need-returns-then-not-numbers_zero
returns-then-not-numbers_zero c = let s = c.before.before.before.before in
    c.ended.ensures
    ∙ sym (misfits s.args.state.now (are_zeros (list (number_at s.args.state.now) 0 101)) (λ e. (bare s e).front)
    (sym c.numbers_zero.ensures ∙ c.if-not-numbers_zero.true))

slice_bounds-bytes_zero-count : tie.Need-slice_bounds-bytes_zero-count
slice_bounds-bytes_zero-count c = search rules

slice_bounds-bytes_zero-start : tie.Need-slice_bounds-bytes_zero-start
slice_bounds-bytes_zero-start c = search rules

slice_bounds-bytes_zero-end : tie.Need-slice_bounds-bytes_zero-end
slice_bounds-bytes_zero-end c = search rules

bytes_zero-requires : tie.Need-bytes_zero-requires
bytes_zero-requires c κs = search rules

ended-requires-then-not-bytes_zero : tie.Need-ended-requires-then-not-bytes_zero
ended-requires-then-not-bytes_zero c κs = search rules

returns-then-not-bytes_zero : tie.Need-returns-then-not-bytes_zero
returns-then-not-bytes_zero c = let s = c.before.before.before.before.before.before.before in let b = s.args.state.now in
    c.ended-then-not-bytes_zero.ensures
    ∙ sym (misfits b (are_zeros (drop 808 b)) (λ e. (bare s e).rest) (ap are_zeros (sym (part_rest 808 b)) ∙ sym c.bytes_zero.ensures ∙ c.if-not-bytes_zero.true))

ended-requires-2 : tie.Need-ended-requires-2
ended-requires-2 c κs = search rules

returns : tie.Need-returns
returns c = let s = c.before.before.before.before.before.before.before in let b = s.args.state.now in
    c.ended-2.ensures
    ∙ sym (loads b closed
    (bare_is b (all_bytes b (λ i. omega (arith, c.shared_slice_known-1.given i))) s.requires.0 s.requires.1 s.requires.2 (record {
      front = sym c.numbers_zero.ensures ∙ c.if-not-numbers_zero.false;
      rest = ap are_zeros (sym (part_rest 808 b)) ∙ sym c.bytes_zero.ensures ∙ c.if-not-bytes_zero.false;
    })) (state_closed b s.requires.1 s.requires.2))

pub load_closed_spec : {M : Type 1} → statement M
load_closed_spec =
    tie.close
    (tie.spec
    numbers_zero-requires
    ended-requires
    returns-then-not-numbers_zero
    slice_bounds-bytes_zero-count
    slice_bounds-bytes_zero-start
    slice_bounds-bytes_zero-end
    bytes_zero-requires
    ended-requires-then-not-bytes_zero
    returns-then-not-bytes_zero
    ended-requires-2
    returns)
