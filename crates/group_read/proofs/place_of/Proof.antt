use Prim.Native.Nat.{ℕ, ◌+◌, ◌*◌, ◌/◌, ◌%◌, ◌<◌, ◌^◌}
use native.Mathlib.Omega.{arith}
use borrow.Author.Rules.{rules}
use mathlib.Core.Path.{◌≡◌, ap, ap₂}
use Rattle.format.specs.Plan.{group_words, place_of}
use Rattle.format.specs.Laws.Limits.{dealt_most, group_most}
use Rattle.group_read.proofs.Places.{digits_in}
use Rattle.group_read.proofs.place_of.Statement.{statement}
use Rattle.group_read.proofs.place_of.Tie as tie

-- where it stands by its track and row, which is in the group
abbrev place : tie.Start → ℕ
place c = c.args.dealt % c.args.plan.tracks * c.args.plan.words + c.args.dealt / c.args.plan.tracks + 1

low : (c : tie.Start) → place c < group_words c.args.plan
low c = digits_in c.args.plan c.requires.0 c.args.dealt c.requires.1

-- both numbers are narrow
narrow : (c : tie.Start) → (c.args.dealt < 2 ^ 32) × (0 < c.args.plan.tracks) × (c.args.plan.tracks < 2 ^ 32)
narrow c = let h = c.requires.0 in (omega (arith, c.requires.1, dealt_most c.args.plan h), h.tracks_least, omega (arith, h.tracks_most))

remainder-requires : tie.Need-remainder-requires
remainder-requires c κs = narrow c

-- the words of the tracks before it
before : (c : tie.After-remainder) → c.remainder.result * c.args.plan.words ≡ c.args.dealt % c.args.plan.tracks * c.args.plan.words
before c = ap (λ (k : ℕ). k * c.args.plan.words) c.remainder.ensures

overflow_mul-result : tie.Need-overflow_mul-result
overflow_mul-result c = let s = c.before.before in omega (arith, before c.before, low s, group_most s.args.plan s.requires.0)

quotient-requires : tie.Need-quotient-requires
quotient-requires c κs = narrow c.before.before

is_place : (c : tie.After-quotient) → c.remainder.result * c.args.plan.words + c.quotient.result + 1 ≡ place c.before.before.before
is_place c = ap₂ (λ (a b : ℕ). a + b + 1) (before c.before.before) c.quotient.ensures

overflow_add-result : tie.Need-overflow_add-result
overflow_add-result c = let s = c.before.before.before in omega (arith, is_place c, low s, group_most s.args.plan s.requires.0)

overflow_add-result-2 : tie.Need-overflow_add-result-2
overflow_add-result-2 c = let s = c.before.before.before in omega (arith, is_place c, low s, group_most s.args.plan s.requires.0)

returns : tie.Need-returns
unfolding place_of
returns c = let s = c.before.before.before in (is_place c, omega (arith, is_place c, low s))

pub place_of_spec : {M : Type 1} → statement M
place_of_spec = tie.close (tie.spec remainder-requires overflow_mul-result quotient-requires overflow_add-result overflow_add-result-2 returns)
