use Prim.Native.Nat.{◌<◌}
use mathlib.Core.Path.{refl}
use native.Mathlib.Omega.{arith}
use Rattle.stream_rules.specs.Stream.{group_size}
use Rattle.stream_state.proofs.Sizes.{size_most, size_over, words_room}
use borrow.Author.Tests.{eq-eqb, ne_eqb, lt-ltb, le-ltb, le-leb, lt-leb}
use borrow.Author.Rules.{rules}
use Rattle.stream_state.proofs.size_fits.Statement.{statement}
use Rattle.stream_state.proofs.size_fits.Tie as tie
use Rattle.stream_state.proofs.size_fits.Reads as reads
use Rattle.stream_state.proofs.size_fits.Lts as lts
use Rattle.plan.proofs.group_words.Reads as group-words-reads

group_words-requires : tie.Need-group_words-requires
group_words-requires c κs = search rules

overflow_mul-size : tie.Need-overflow_mul-size
overflow_mul-size c = search rules

returns-then-size-waiting : tie.Need-returns-then-size-waiting
returns-then-size-waiting c = let a = c.args in rw (le-ltb a.waiting (group_size a.plan) (omega (arith, c.if-size-waiting.true, c.group_words.ensures.0))) refl

returns-then-groups-gt1099511627776 : tie.Need-returns-then-groups-gt1099511627776
returns-then-groups-gt1099511627776 c = let s = c.before.before.before in
    let a = s.args in
    let few : a.waiting < group_size a.plan = omega (arith, c.if-size-waiting.false, c.group_words.ensures.0) in
    rw (lt-ltb a.waiting (group_size a.plan) few, size_over a.plan s.requires a.groups a.waiting c.if-groups-gt1099511627776.true) refl

overflow_mul-result : tie.Need-overflow_mul-result
overflow_mul-result c = let s = c.before.before.before in rw c.group_words.ensures.0 (omega (arith, words_room s.args.plan s.requires s.args.groups c.if-groups-gt1099511627776.false))

overflow_add-result : tie.Need-overflow_add-result
overflow_add-result c = let s = c.before.before.before in
    let p = s.args.plan in
    let words = c.group_words.ensures.0 in
    rw words (omega (arith, words_room p s.requires s.args.groups c.if-groups-gt1099511627776.false, size_most p s.requires, c.if-size-waiting.false, words))

returns : tie.Need-returns
returns c = let a = c.args in
    rw (lt-ltb a.waiting (group_size a.plan) (omega (arith, c.if-size-waiting.false, c.group_words.ensures.0)), c.group_words.ensures.0) refl

pub size_fits_spec : {M : Type 1} → statement M
size_fits_spec =
    tie.close
    (tie.spec group_words-requires overflow_mul-size returns-then-size-waiting returns-then-groups-gt1099511627776 overflow_mul-result overflow_add-result returns)
