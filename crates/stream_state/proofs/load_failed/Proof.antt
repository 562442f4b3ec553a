use Prim.Native.Nat.{ℕ}
use mathlib.Core.List.{List}
use mathlib.Core.Path.{◌≡◌, refl, sym, ap, ◌∙◌}
use mathlib.Core.Bool.{true}
use native.Mathlib.Omega.{arith}
use lib.ListN.{drop}
use borrow.Author.Tests.{not-true, not-false}
use Rattle.format.specs.Lists.{list}
use Rattle.format.specs.Laws.Word.Bytes.{all_bytes}
use Rattle.stream_rules.specs.Stream.{State, failed, fits}
use Rattle.stream_state.specs.Laws.Small.{failed_small}
use Rattle.stream_state.specs.Laws.Ended.{Faulty, faulty_is, is_faulty, state_failed}
use Rattle.stream_state.specs.Parts.{are_zeros}
use Rattle.stream_state.specs.Layout.{is_state, number_at}
use Rattle.stream_state.proofs.Loads.{loads, misfits, same_stopped}
use Rattle.stream_state.proofs.Fault.{same_fault}
use Rattle.notices.specs.Laws.Rows.{part_rest}
use borrow.Author.Rules.{rules}
use Rattle.stream_state.proofs.load_failed.Statement.{statement}
use Rattle.stream_state.proofs.load_failed.Tie as tie
use Rattle.stream_state.proofs.load_failed.Reads as reads
use Rattle.stream_state.proofs.load_failed.Lts as lts
use Rattle.from_c.proofs.time_at.Reads as time-at-reads
use Rattle.stream_state.proofs.bytes_zero.Reads as bytes-zero-reads
use Rattle.stream_state.proofs.ended.Reads as ended-reads
use Rattle.stream_state.proofs.fault_fits.Reads as fault-fits-reads
use Rattle.stream_state.proofs.numbers_zero.Reads as numbers-zero-reads

-- the function's entry, with the fault that its bytes say
abbrev entry : tie.After-fault_fits → tie.Start
entry c = c.before.before.before.before.before

abbrev said : List ℕ → State
said b = failed (number_at b 12) (number_at b 13) (number_at b 14)

abbrev faulty : (s : tie.Start) → is_state s.args.state.now ≡ true → Faulty s.args.state.now
faulty s = is_faulty s.args.state.now s.requires.1

tested : (c : tie.After-fault_fits) → c.fault_fits.result ≡ fits (said (entry c).args.state.now)
tested c = c.fault_fits.ensures ∙ same_fault c.time_at-number.ensures c.time_at-place.ensures c.time_at-second.ensures

time_at-number-requires : tie.Need-time_at-number-requires
time_at-number-requires c κs = search rules

time_at-place-requires : tie.Need-time_at-place-requires
time_at-place-requires c κs = search rules

time_at-second-requires : tie.Need-time_at-second-requires
time_at-second-requires c κs = search rules

fault_fits-requires : tie.Need-fault_fits-requires
fault_fits-requires c κs = search rules

ended-requires : tie.Need-ended-requires
ended-requires c κs = search rules

returns-then-not-fault_fits : tie.Need-returns-then-not-fault_fits
returns-then-not-fault_fits c = let s = c.before.before.before.before.before.before.before in let b = s.args.state.now in
    c.ended.ensures ∙ sym (misfits b (fits (said b)) (λ e. (faulty s e).fit) (sym (tested c.before.before) ∙ c.if-not-fault_fits.true))

numbers_zero-requires : tie.Need-numbers_zero-requires
numbers_zero-requires c κs = search rules

ended-requires-then-not-numbers_zero : tie.Need-ended-requires-then-not-numbers_zero
ended-requires-then-not-numbers_zero c κs = search rules

returns-then-not-numbers_zero : tie.Need-returns-then-not-numbers_zero
returns-then-not-numbers_zero c = let s = c.before.before.before.before.before.before.before.before.before in let b = s.args.state.now in
    c.ended-then-not-numbers_zero.ensures ∙ sym (misfits b (are_zeros (list (number_at b) 1 11)) (λ e. (faulty s e).before) (sym c.numbers_zero.ensures ∙ c.if-not-numbers_zero.true))

numbers_zero-requires-2 : tie.Need-numbers_zero-requires-2
numbers_zero-requires-2 c κs = search rules

ended-requires-then-not-numbers_zero-2 : tie.Need-ended-requires-then-not-numbers_zero-2
ended-requires-then-not-numbers_zero-2 c κs = search rules

returns-then-not-numbers_zero-2 : tie.Need-returns-then-not-numbers_zero-2
returns-then-not-numbers_zero-2 c = let s = c.before.before.before.before.before.before.before.before.before.before.before in let b = s.args.state.now in
    c.ended-then-not-numbers_zero-2.ensures ∙ sym (misfits b (are_zeros (list (number_at b) 15 86)) (λ e. (faulty s e).after) (sym c.numbers_zero-2.ensures ∙ c.if-not-numbers_zero-2.true))

slice_bounds-bytes_zero-count : tie.Need-slice_bounds-bytes_zero-count
slice_bounds-bytes_zero-count c = search rules

slice_bounds-bytes_zero-start : tie.Need-slice_bounds-bytes_zero-start
slice_bounds-bytes_zero-start c = search rules

slice_bounds-bytes_zero-end : tie.Need-slice_bounds-bytes_zero-end
slice_bounds-bytes_zero-end c = search rules

bytes_zero-requires : tie.Need-bytes_zero-requires
bytes_zero-requires c κs = search rules

ended-requires-then-not-bytes_zero : tie.Need-ended-requires-then-not-bytes_zero
ended-requires-then-not-bytes_zero c κs = search rules

returns-then-not-bytes_zero : tie.Need-returns-then-not-bytes_zero
returns-then-not-bytes_zero c = let s = c.before.before.before.before.before.before.before.before.before.before.before.before.before.before in let b = s.args.state.now in
    c.ended-then-not-bytes_zero.ensures
    ∙ sym (misfits b (are_zeros (drop 808 b)) (λ e. (faulty s e).rest) (ap are_zeros (sym (part_rest 808 b)) ∙ sym c.bytes_zero.ensures ∙ c.if-not-bytes_zero.true))

overflow_cast-number : tie.Need-overflow_cast-number
overflow_cast-number c = let t = c.before.before.before.before.before.before.before in
    let b = (entry t.before).args.state.now in
    let f : fits (said b) ≡ true = sym (tested t.before) ∙ t.if-not-fault_fits.false in
    omega (arith, t.time_at-number.ensures, (failed_small (number_at b 12) (number_at b 13) (number_at b 14) f).0)

ended-requires-2 : tie.Need-ended-requires-2
ended-requires-2 c κs = search rules

returns : tie.Need-returns
returns c = let third = c.before.before.before.before in
    let second = third.before.before in
    let first = second.before.before in
    let t = first.before in
    let s = entry t in
    let b = s.args.state.now in
    let bytes = all_bytes b (λ i. omega (arith, t.shared_slice_known-1.given i)) in
    c.ended-2.ensures ∙ same_stopped t.time_at-number.ensures t.time_at-place.ensures t.time_at-second.ensures
    ∙ sym (loads b (said b)
    (faulty_is b bytes s.requires.0 s.requires.1 (record {
      fit = sym (tested t) ∙ first.if-not-fault_fits.false;
      before = sym second.numbers_zero.ensures ∙ second.if-not-numbers_zero.false;
      after = sym third.numbers_zero-2.ensures ∙ third.if-not-numbers_zero-2.false;
      rest = ap are_zeros (sym (part_rest 808 b)) ∙ sym c.bytes_zero.ensures ∙ c.if-not-bytes_zero.false;
    })) (state_failed b s.requires.1))

pub load_failed_spec : {M : Type 1} → statement M
load_failed_spec =
    tie.close
    (tie.spec
    time_at-number-requires
    time_at-place-requires
    time_at-second-requires
    fault_fits-requires
    ended-requires
    returns-then-not-fault_fits
    numbers_zero-requires
    ended-requires-then-not-numbers_zero
    returns-then-not-numbers_zero
    numbers_zero-requires-2
    ended-requires-then-not-numbers_zero-2
    returns-then-not-numbers_zero-2
    slice_bounds-bytes_zero-count
    slice_bounds-bytes_zero-start
    slice_bounds-bytes_zero-end
    bytes_zero-requires
    ended-requires-then-not-bytes_zero
    returns-then-not-bytes_zero
    overflow_cast-number
    ended-requires-2
    returns)
