use Prim.Native.Nat.{ℕ, ◌+◌, ◌^◌, ◌≤◌}
use mathlib.Core.Bool.{true}
use mathlib.Core.Path.{◌≡◌, refl, sym, ap, ◌∙◌}
use native.Mathlib.Omega.{arith}
use lib.ListN.{length, take, drop}
use borrow.Author.Tests.{not-true, not-false}
use Rattle.format.specs.Laws.Word.Bytes.{all_bytes}
use Rattle.format.specs.Laws.Limits.{Shape}
use Rattle.format.specs.Laws.Legal.{legal_is}
use Rattle.format.specs.Lists.{list}
use Rattle.stream_rules.specs.Stream.{place_fits, waits_fit}
use Rattle.stream_state.specs.Layout.{number_at}
use Rattle.stream_state.specs.Parts.{are_zeros, bits_fit, kinds_at}
use Rattle.stream_state.proofs.Sizes.{bits_few, sized_few}
use Rattle.notices.specs.Laws.Rows.{part_rest}
use Rattle.stream_state.proofs.Parts.{all_good, bad_bits, bad_fault, bad_gap, bad_held, bad_since, bad_tail, bad_waits}
use borrow.Author.Rules.{rules}
use Rattle.stream_state.proofs.load_sized.Statement.{statement}
use Rattle.stream_state.proofs.load_sized.Tie as tie
use Rattle.stream_state.proofs.load_sized.Reads as reads
use Rattle.stream_state.proofs.load_sized.Lts as lts
use Rattle.from_c.proofs.time_at.Reads as time-at-reads
use Rattle.stream_state.proofs.bits_fit.Reads as bits-fit-reads
use Rattle.stream_state.proofs.bytes_zero.Reads as bytes-zero-reads
use Rattle.stream_state.proofs.ended.Reads as ended-reads
use Rattle.stream_state.proofs.held_at.Reads as held-at-reads
use Rattle.stream_state.proofs.numbers_zero.Reads as numbers-zero-reads
use Rattle.stream_state.proofs.place_fits.Reads as place-fits-reads
use Rattle.stream_state.proofs.waits_fit.Reads as waits-fit-reads

-- ---- the places

-- the entry
shape : (s : tie.Start) → Shape s.args.plan
shape s = (legal_is s.args.plan (kinds_at s.args.state.now) s.requires.lawful).shape

few : (s : tie.Start) → (s.args.groups ≤ 2 ^ 40) × (s.args.waiting ≤ 6144)
few s = sized_few s.args.plan (shape s) s.args.groups s.args.waiting s.requires.size

long : (s : tie.Start) → length s.args.state.now ≡ 7168
long s = s.requires.planned.long

-- three numbers were read
abbrev Read : Type 0
Read = tie.After-time_at-since

abbrev start : Read → tie.Start
start c = c.before.before.before.before

abbrev left : Read → ℕ
left c = c.time_at-left.result

abbrev last : Read → ℕ
last c = c.time_at-last.result

-- the tests that were passed, one behind the other
abbrev one : tie.Else-not-bits_fit → Read
one c = c.before.before

abbrev two : tie.Else-not-place_fits → Read
two c = one c.before.before

abbrev three : tie.Else-not-numbers_zero → Read
three c = two c.before.before

abbrev four : tie.Else-again → Read
four c = three c.before.before

abbrev five : tie.Else-not-waits_fit → Read
five c = four c.before.before

abbrev six : tie.Else-not-bytes_zero → Read
six c = five c.before.before.before

-- the bytes behind those that wait are looked at
abbrev seventh : tie.After-held-1 → Read
seventh c = six c.before

abbrev eighth : tie.Else-not-bytes_zero-2 → Read
eighth c = seventh c.before.before.before

-- what each says
bits_good : (c : tie.Else-not-bits_fit) → bits_fit (left (one c)) (last (one c)) ≡ true
bits_good c = sym c.bits_fit.ensures ∙ c.if-not-bits_fit.false

since_good : (c : tie.Else-not-place_fits) → place_fits (start (two c)).args.plan (start (two c)).args.groups (two c).time_at-since.result ≡ true
since_good c = sym c.place_fits.ensures ∙ c.if-not-place_fits.false

faultless : (c : tie.Else-not-numbers_zero) → are_zeros (list (number_at (start (three c)).args.state.now) 12 3) ≡ true
faultless c = sym c.numbers_zero.ensures ∙ c.if-not-numbers_zero.false

waits_good : (c : tie.Else-not-waits_fit) → let a = (start (five c)).args in waits_fit a.plan (kinds_at a.state.now) a.groups 0 (list (number_at a.state.now) 36 64) ≡ true
waits_good c = sym c.waits_fit.ensures ∙ c.if-not-waits_fit.false

gap_good : (c : tie.Else-not-bytes_zero) → are_zeros (take 216 (drop 808 (start (six c)).args.state.now)) ≡ true
gap_good c = sym c.bytes_zero.ensures ∙ c.if-not-bytes_zero.false

-- the bytes from there on, as they were lent
tail_is : (c : tie.After-bytes_zero-2) → let a = (start (seventh c.before.before)).args in c.bytes_zero-2.result ≡ are_zeros (drop (1024 + a.waiting) a.state.now)
tail_is c = let a = (start (seventh c.before.before)).args in
    c.bytes_zero-2.ensures ∙ ap are_zeros (part_rest (1024 + a.waiting) a.state.now)

time_at-left-requires : tie.Need-time_at-left-requires
time_at-left-requires c κs = search rules

time_at-last-requires : tie.Need-time_at-last-requires
time_at-last-requires c κs = search rules

time_at-since-requires : tie.Need-time_at-since-requires
time_at-since-requires c κs = search rules

bits_fit-requires : tie.Need-bits_fit-requires
bits_fit-requires c κs = search rules

ended-requires : tie.Need-ended-requires
ended-requires c κs = search rules

returns-then-not-bits_fit : tie.Need-returns-then-not-bits_fit
returns-then-not-bits_fit c = let t = c.before.before.before in
    let e = sym c.bits_fit.ensures ∙ c.if-not-bits_fit.true in
    c.ended.ensures ∙ bad_bits (start t).requires t.time_at-left.ensures t.time_at-last.ensures e

place_fits-requires : tie.Need-place_fits-requires
place_fits-requires c κs = let s = start (one c) in (shape s, (few s).0)

ended-requires-then-not-place_fits : tie.Need-ended-requires-then-not-place_fits
ended-requires-then-not-place_fits c κs = search rules

returns-then-not-place_fits : tie.Need-returns-then-not-place_fits
returns-then-not-place_fits c = let t = one c.before.before.before in
    let e = sym c.place_fits.ensures ∙ c.if-not-place_fits.true in
    c.ended-then-not-place_fits.ensures ∙ bad_since (start t).requires t.time_at-since.ensures e

numbers_zero-requires : tie.Need-numbers_zero-requires
numbers_zero-requires c κs = search rules

ended-requires-then-not-numbers_zero : tie.Need-ended-requires-then-not-numbers_zero
ended-requires-then-not-numbers_zero c κs = search rules

returns-then-not-numbers_zero : tie.Need-returns-then-not-numbers_zero
returns-then-not-numbers_zero c = let t = two c.before.before.before in
    c.ended-then-not-numbers_zero.ensures ∙ bad_fault (start t).requires (sym c.numbers_zero.ensures ∙ c.if-not-numbers_zero.true)

held_at-again-requires : tie.Need-held_at-again-requires
held_at-again-requires c κs = long (start (three c))

ended-requires-then-again : tie.Need-ended-requires-then-again
ended-requires-then-again c κs = search rules

returns-then-again : tie.Need-returns-then-again
returns-then-again c = let t = three c.before.before.before in c.ended-then-again.ensures ∙ bad_held (start t).requires c.held_at-again.ensures c.if-again.true

waits_fit-requires : tie.Need-waits_fit-requires
waits_fit-requires c κs = let s = start (four c) in (shape s, (few s).0, long s)

ended-requires-then-not-waits_fit : tie.Need-ended-requires-then-not-waits_fit
ended-requires-then-not-waits_fit c κs = search rules

returns-then-not-waits_fit : tie.Need-returns-then-not-waits_fit
returns-then-not-waits_fit c = let t = four c.before.before.before in
    let e = sym c.waits_fit.ensures ∙ c.if-not-waits_fit.true in
    c.ended-then-not-waits_fit.ensures ∙ bad_waits (start t).requires refl e

slice_bounds-bytes_zero-count : tie.Need-slice_bounds-bytes_zero-count
slice_bounds-bytes_zero-count c = search rules

slice_bounds-bytes_zero-start : tie.Need-slice_bounds-bytes_zero-start
slice_bounds-bytes_zero-start c = search rules

slice_bounds-bytes_zero-end : tie.Need-slice_bounds-bytes_zero-end
slice_bounds-bytes_zero-end c = search rules

bytes_zero-requires : tie.Need-bytes_zero-requires
bytes_zero-requires c κs = search rules

ended-requires-then-not-bytes_zero : tie.Need-ended-requires-then-not-bytes_zero
ended-requires-then-not-bytes_zero c κs = search rules

returns-then-not-bytes_zero : tie.Need-returns-then-not-bytes_zero
returns-then-not-bytes_zero c = let t = five c.before.before.before.before in
    c.ended-then-not-bytes_zero.ensures ∙ bad_gap (start t).requires (sym c.bytes_zero.ensures ∙ c.if-not-bytes_zero.true)

overflow_add-end : tie.Need-overflow_add-end
overflow_add-end c = omega (arith, (few (start (seventh c))).1)

slice_bounds-bytes_zero-count-2 : tie.Need-slice_bounds-bytes_zero-count-2
slice_bounds-bytes_zero-count-2 c = let s = start (seventh c) in omega (arith, (few s).1, long s)

slice_bounds-bytes_zero-start-2 : tie.Need-slice_bounds-bytes_zero-start-2
slice_bounds-bytes_zero-start-2 c = let s = start (seventh c) in omega (arith, (few s).1, long s)

slice_bounds-bytes_zero-end-2 : tie.Need-slice_bounds-bytes_zero-end-2
slice_bounds-bytes_zero-end-2 c = search rules

bytes_zero-requires-2 : tie.Need-bytes_zero-requires-2
bytes_zero-requires-2 c κs = search rules

ended-requires-then-not-bytes_zero-2 : tie.Need-ended-requires-then-not-bytes_zero-2
ended-requires-then-not-bytes_zero-2 c κs = search rules

returns-then-not-bytes_zero-2 : tie.Need-returns-then-not-bytes_zero-2
returns-then-not-bytes_zero-2 c = let t = seventh c.before.before.before.before in
    c.ended-then-not-bytes_zero-2.ensures ∙ bad_tail (start t).requires (sym (tail_is c.before.before) ∙ c.if-not-bytes_zero-2.true)

overflow_cast-result : tie.Need-overflow_cast-result
overflow_cast-result c = let t = eighth c in
    let b = c.before.before.before.before.before.before.before.before.before.before.before.before.before.before.before in
    omega (arith, (bits_few (left t) (last t) (bits_good b)).0)

overflow_cast-result-2 : tie.Need-overflow_cast-result-2
overflow_cast-result-2 c = let t = eighth c in
    let b = c.before.before.before.before.before.before.before.before.before.before.before.before.before.before.before in
    omega (arith, (bits_few (left t) (last t) (bits_good b)).1)

returns : tie.Need-returns
returns c = let t = eighth c in
    let s = start t in
    let six = c.before.before.before.before in
    let five = six.before.before.before in
    let four = five.before.before in
    let three = four.before.before in
    let two = three.before.before in
    let bytes = all_bytes s.args.state.now (λ i. omega (arith, t.shared_slice_known-1.given i)) in
    let tail = sym (tail_is c.before) ∙ c.if-not-bytes_zero-2.false in
    all_good s.requires bytes t.time_at-left.ensures t.time_at-last.ensures t.time_at-since.ensures four.held_at-again.ensures refl
    (bits_good two.before.before) (since_good two) (faultless three) four.if-again.false (waits_good five) (gap_good six) tail

pub load_sized_spec : {M : Type 1} → statement M
load_sized_spec =
    tie.close
    (tie.spec
    time_at-left-requires
    time_at-last-requires
    time_at-since-requires
    bits_fit-requires
    ended-requires
    returns-then-not-bits_fit
    place_fits-requires
    ended-requires-then-not-place_fits
    returns-then-not-place_fits
    numbers_zero-requires
    ended-requires-then-not-numbers_zero
    returns-then-not-numbers_zero
    held_at-again-requires
    ended-requires-then-again
    returns-then-again
    waits_fit-requires
    ended-requires-then-not-waits_fit
    returns-then-not-waits_fit
    slice_bounds-bytes_zero-count
    slice_bounds-bytes_zero-start
    slice_bounds-bytes_zero-end
    bytes_zero-requires
    ended-requires-then-not-bytes_zero
    returns-then-not-bytes_zero
    overflow_add-end
    slice_bounds-bytes_zero-count-2
    slice_bounds-bytes_zero-start-2
    slice_bounds-bytes_zero-end-2
    bytes_zero-requires-2
    ended-requires-then-not-bytes_zero-2
    returns-then-not-bytes_zero-2
    overflow_cast-result
    overflow_cast-result-2
    returns)
