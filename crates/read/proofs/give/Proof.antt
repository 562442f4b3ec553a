use Prim.Native.Nat.{ℕ, ◌+◌, ◌≤◌}
use native.Mathlib.Nat.{mul-le-mul_right}
use native.Mathlib.Omega.{arith}
use borrow.Author.Rules.{rules}
use mathlib.Core.Path.{◌≡◌, sym, ap, ap₂, ◌∙◌}
use mathlib.Core.List.{List}
use lib.ListN.{length}
use Rattle.format.specs.Plan.{group_words, times_needed}
use Rattle.format.specs.Read.{refuses}
use Rattle.format.specs.declared.Plan.{Plan}
use Rattle.capture_parts.proofs.Given.{given_refused, times_few}
use Rattle.read.specs.Room.{Built, room_number}
use Rattle.read.proofs.Given.{fit, given_copied, log_beyond, times_beyond}
use Rattle.read.proofs.give.Statement.{statement}
use Rattle.read.proofs.give.Tie as tie

-- ---- the places

-- both rooms were measured
abbrev Measured : Type 0
Measured = tie.After-room_number-number

abbrev start : Measured → tie.Start
start c = c.before.before.before.before.before.before

abbrev plan : Measured → Plan
plan c = (start c).args.plan

abbrev capture : Measured → List ℕ
capture c = (start c).args.capture.now

abbrev n : Measured → ℕ
n c = (start c).args.n

abbrev log : Measured → List ℕ
log c = (start c).args.log.now

abbrev times : Measured → List ℕ
times c = (start c).args.times.now

abbrev bytes : Measured → ℕ
bytes c = (start c).args.bytes

abbrev need : Measured → ℕ
need c = c.times_of-need.result

need_is : (c : Measured) → need c ≡ times_needed (plan c) (n c)
need_is c = c.times_of-need.ensures

number_is : (c : Measured) (whole : List ℕ) → Built whole (start c).args.built.now (bytes c)
    → c.room_number-number.result ≡ room_number (length whole) (length (log c)) (times_needed (plan c) (n c)) (length (times c))
number_is c whole b = c.room_number-number.ensures ∙ ap₂ (λ (x y : ℕ). room_number x (length (log c)) y (length (times c))) b.size (need_is c)

-- and suffice
abbrev Fitting : Type 0
Fitting = tie.Else-number-eq7

abbrev measured : Fitting → Measured
measured c = c.before.before

fits : (c : Fitting) → let m = measured c in (bytes m ≤ 32768) × (bytes m ≤ length (log m)) × (need m ≤ length (times m))
fits c =
    let m = measured c in
    fit (bytes m) (length (log m)) (need m) (length (times m)) (λ z. c.if-number-eq6.false (m.room_number-number.ensures ∙ z)) (λ z. c.if-number-eq7.false (m.room_number-number.ensures ∙ z))

built_room : (c : Fitting) → let m = measured c in bytes m + 7 ≤ length (start m).args.built.now
built_room c = (start (measured c)).requires.1 (fits c).0 (fits c).1

-- ---- the needs

times_of-need-requires : tie.Need-times_of-need-requires
times_of-need-requires c κs = search rules

room_number-number-requires : tie.Need-room_number-number-requires
room_number-number-requires c κs = search rules

refusal-requires : tie.Need-refusal-requires
refusal-requires c κs = search rules

returns-then-number-eq6 : tie.Need-returns-then-number-eq6
returns-then-number-eq6 c = λ whole b.
    let m = c.before.before in
    given_refused (log m) (times m)
    (log_beyond (plan m) (capture m) (n m) (length (log m)) (length (times m)) whole (sym (number_is m whole b) ∙ c.if-number-eq6.true)
    ∙ ap (λ (k : ℕ). refuses 6 k 0) (sym b.size))
    c.refusal.ensures

refusal-requires-then-number-eq7 : tie.Need-refusal-requires-then-number-eq7
refusal-requires-then-number-eq7 c κs = search rules

returns-then-number-eq7 : tie.Need-returns-then-number-eq7
returns-then-number-eq7 c = λ whole b.
    let m = c.before.before.before in
    given_refused (log m) (times m)
    (times_beyond (plan m) (capture m) (n m) (length (log m)) (length (times m)) whole (sym (number_is m whole b) ∙ c.if-number-eq7.true)
    ∙ ap (λ (k : ℕ). refuses 7 k 0) (sym (need_is m)))
    c.refusal-then-number-eq7.ensures

copy-requires : tie.Need-copy-requires
copy-requires c κs = let e = c.before in ((fits e).1, omega (arith, built_room e))

write_times-requires : tie.Need-write_times-requires
write_times-requires c κs =
    let e = c.before.before.before.before.before in
    let m = measured e in
    let s = start m in
    let a = mul-le-mul_right (group_words (plan m)) (times_few (plan m) (n m)) in
    (s.requires.0.0, rw (need_is m) (omega (arith, a, s.requires.0.1)), s.requires.0.2, (fits e).2)

shape_of-log : tie.Need-shape_of-log
shape_of-log c = search rules

shape_of-times : tie.Need-shape_of-times
shape_of-times c = search rules

returns : tie.Need-returns
returns c =
    let e = c.before.before.before.before.before.before.before.before in
    let m = measured e in
    λ whole b.
    given_copied (plan m) (capture m) (n m) whole (start m).args.built.now (bytes m) (need m) (log m) _ (times m) _ b (fits e).0 (fits e).1 (built_room e) (need_is m) (fits e).2
    c.copy.ensures c.write_times.ensures

pub give_spec : {M : Type 1} → statement M
give_spec =
    tie.close
    (tie.spec
    times_of-need-requires
    room_number-number-requires
    refusal-requires
    returns-then-number-eq6
    refusal-requires-then-number-eq7
    returns-then-number-eq7
    copy-requires
    write_times-requires
    shape_of-log
    shape_of-times
    returns)
