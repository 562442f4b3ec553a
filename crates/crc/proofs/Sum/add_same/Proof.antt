use Prim.Native.Nat.{ℕ, ◌-◌}
use lib.Bits.{bit_xor}
use mathlib.Core.Path.{◌≡◌, refl, sym, ap, ◌∙◌}
use native.Mathlib.Omega.{arith}
use borrow.Author.Rules.{rules}
use Rattle.crc.specs.Running.{next_check, next_five, check_from, same}
use Rattle.crc.specs.Sum.{Small, check_of_sum}
use Rattle.crc.proofs.Five.{five_apart}
use Rattle.crc.proofs.Sums.{check_none}
use Rattle.crc.proofs.Same.{same_none, same_one, same_five}
use Rattle.crc.proofs.Sum.add_same.Statement.{statement}
use Rattle.crc.proofs.Sum.add_same.Tie as tie

abbrev invariant-loop-left : tie.invariant-loop-left
invariant-loop-left word times five sum₀ left₀ sum left = Small sum × (check_from (check_of_sum sum₀) (same word left₀) ≡ check_from (check_of_sum sum) (same word left))

abbrev decreases-loop-left : tie.decreases-loop-left
decreases-loop-left word times five sum₀ left₀ sum left = left

abbrev invariant-loop-left-2 : tie.invariant-loop-left-2
invariant-loop-left-2 word times sum₀ left₀ sum left = Small sum × (check_from (check_of_sum sum₀) (same word left₀) ≡ check_from (check_of_sum sum) (same word left))

abbrev decreases-loop-left-2 : tie.decreases-loop-left-2
decreases-loop-left-2 word times sum₀ left₀ sum left = left

start-requires : tie.Need-start-requires invariant-loop-left decreases-loop-left invariant-loop-left-2 decreases-loop-left-2
start-requires c κs = search rules

add-requires : tie.Need-add-requires invariant-loop-left decreases-loop-left invariant-loop-left-2 decreases-loop-left-2
add-requires c κs = (c.start.ensures.small, c.requires.1)

add_two-requires : tie.Need-add_two-requires invariant-loop-left decreases-loop-left invariant-loop-left-2 decreases-loop-left-2
add_two-requires c κs = (c.add.ensures.small, c.requires.1, c.requires.1)

add_two-five-requires : tie.Need-add_two-five-requires invariant-loop-left decreases-loop-left invariant-loop-left-2 decreases-loop-left-2
add_two-five-requires c κs = (c.add_two.ensures.small, c.requires.1, c.requires.1)

-- what five of the word make
five_is : (c : tie.After-add_two-five invariant-loop-left decreases-loop-left invariant-loop-left-2 decreases-loop-left-2) → check_of_sum c.add_two-five.result ≡ next_five 0 c.args.word
unfolding check_from
five_is c =
    let w = c.args.word in
    let one : ℕ → ℕ = λ n. next_check n w in
    c.add_two-five.ensures.check
    ∙ ap (λ (n : ℕ). one (one n)) (c.add_two.ensures.check ∙ ap (λ (n : ℕ). one (one n)) (c.add.ensures.check ∙ ap one (check_none c.start.ensures)))

loop-left-init : tie.Need-loop-left-init invariant-loop-left decreases-loop-left invariant-loop-left-2 decreases-loop-left-2
loop-left-init c = (c.requires.0, refl)

add_five-sum-requires : tie.Need-add_five-sum-requires invariant-loop-left decreases-loop-left invariant-loop-left-2 decreases-loop-left-2
add_five-sum-requires c κs = (c.loop-left.invariant.0, c.add_two-five.ensures.small)

loop-left-smaller : tie.Need-loop-left-smaller invariant-loop-left decreases-loop-left invariant-loop-left-2 decreases-loop-left-2
loop-left-smaller c = search rules

loop-left-preserved : tie.Need-loop-left-preserved invariant-loop-left decreases-loop-left invariant-loop-left-2 decreases-loop-left-2
loop-left-preserved c =
    let w = c.args.word in
    let o = c.loop-left in
    let m = check_of_sum o.sum in (
      c.add_five-sum.ensures.0,
      o.invariant.1 ∙ same_five m w o.left (omega arith)
          ∙ ap (λ (n : ℕ). check_from n (same w (o.left - 5))) (sym (c.add_five-sum.ensures.1 ∙ ap (bit_xor (next_five m 0)) (five_is c.before.before.before) ∙ sym (five_apart m w))),
    )

loop-left-2-init : tie.Need-loop-left-2-init invariant-loop-left decreases-loop-left invariant-loop-left-2 decreases-loop-left-2
loop-left-2-init c = (c.loop-left.invariant.0, refl)

add-sum-requires : tie.Need-add-sum-requires invariant-loop-left decreases-loop-left invariant-loop-left-2 decreases-loop-left-2
add-sum-requires c κs = (c.loop-left-2.invariant.0, c.requires.1)

overflow_sub-left-in-loop-left-2 : tie.Need-overflow_sub-left-in-loop-left-2 invariant-loop-left decreases-loop-left invariant-loop-left-2 decreases-loop-left-2
overflow_sub-left-in-loop-left-2 c = search rules

loop-left-2-smaller : tie.Need-loop-left-2-smaller invariant-loop-left decreases-loop-left invariant-loop-left-2 decreases-loop-left-2
loop-left-2-smaller c = search rules

loop-left-2-preserved : tie.Need-loop-left-2-preserved invariant-loop-left decreases-loop-left invariant-loop-left-2 decreases-loop-left-2
unfolding check_from
loop-left-2-preserved c =
    let w = c.args.word in
    let o = c.loop-left-2 in (
      c.add-sum.ensures.small,
      o.invariant.1 ∙ same_one (check_of_sum o.sum) w o.left (omega arith) ∙ ap (λ (n : ℕ). check_from n (same w (o.left - 1))) (sym c.add-sum.ensures.check),
    )

returns : tie.Need-returns invariant-loop-left decreases-loop-left invariant-loop-left-2 decreases-loop-left-2
returns c =
    let o = c.loop-left-2 in
    record {
      small = o.invariant.0;
      check = sym (c.loop-left.invariant.1 ∙ o.invariant.1 ∙ same_none (check_of_sum o.sum) c.args.word o.left (omega arith));
    }

pub add_same_spec : {M : Type 1} → statement M
add_same_spec =
    tie.close
    (tie.spec
    invariant-loop-left
    decreases-loop-left
    invariant-loop-left-2
    decreases-loop-left-2
    start-requires
    add-requires
    add_two-requires
    add_two-five-requires
    loop-left-init
    add_five-sum-requires
    loop-left-smaller
    loop-left-preserved
    loop-left-2-init
    add-sum-requires
    overflow_sub-left-in-loop-left-2
    loop-left-2-smaller
    loop-left-2-preserved
    returns)
