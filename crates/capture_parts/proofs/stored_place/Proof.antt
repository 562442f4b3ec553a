use Prim.Native.Nat.{ℕ, ◌+◌, ◌*◌, ◌/◌, ◌%◌, ◌^◌, ◌≤◌, ◌<◌}
use native.Mathlib.Nat.{mod-lt, div-le_self, mul-le-mul}
use native.Mathlib.Omega.{arith}
use borrow.Author.Rules.{rules}
use mathlib.Core.Path.{◌≡◌, ap, ap₂, ◌∙◌}
use Rattle.format.specs.Plan.{group_words, slots, lead, place_of, stored_at}
use Rattle.format.specs.Laws.Limits.{free, group_most, lead_few, slots_most, most_group_words}
use Rattle.group_read.specs.Row.{dealt_count}
use Rattle.capture_parts.proofs.stored_place.Statement.{statement}
use Rattle.capture_parts.proofs.stored_place.Tie as tie

some : (c : tie.Start) → 0 < c.args.count
some c = omega (arith, c.requires.1, free c.args.plan c.requires.0)

-- both numbers are narrow
narrow : (c : tie.Start) → (c.args.number < 2 ^ 32) × (0 < c.args.count) × (c.args.count < 2 ^ 32)
narrow c = (c.requires.2, some c, omega (arith, c.requires.1, slots_most c.args.plan c.requires.0))

inner : (c : tie.Start) → c.args.number % c.args.count < slots c.args.plan
inner c = omega (arith, mod-lt c.args.number (some c), c.requires.1)

quotient-group-requires : tie.Need-quotient-group-requires
quotient-group-requires c κs = narrow c

lead-requires : tie.Need-lead-requires
lead-requires c κs = search rules

-- the time words lead, and then the words before it in its group
abbrev Divided : Type 0
Divided = tie.After-remainder

abbrev start : Divided → tie.Start
start c = c.before.before.before

abbrev slot : Divided → ℕ
slot c = c.lead.result + c.remainder.result

slot_is : (c : Divided) → slot c ≡ lead (start c).args.plan + (start c).args.number % (start c).args.count
slot_is c = ap₂ ◌+◌ c.lead.ensures c.remainder.ensures

in_row : (c : Divided) → slot c < dealt_count (start c).args.plan
unfolding slots
in_row c = omega (arith, slot_is c, inner (start c))

remainder-requires : tie.Need-remainder-requires
remainder-requires c κs = narrow c.before.before

overflow_add-lead : tie.Need-overflow_add-lead
overflow_add-lead c = let s = start c in omega (arith, slot_is c, inner s, slots_most s.args.plan s.requires.0, lead_few s.args.plan)

place_of-place-requires : tie.Need-place_of-place-requires
place_of-place-requires c κs = ((start c).requires.0, in_row c)

-- the groups before it
abbrev Placed : Type 0
Placed = tie.After-place_of-place

abbrev divided : Placed → Divided
divided c = c.before

groups_is : (c : Placed) → c.quotient-group.result * group_words (start (divided c)).args.plan
    ≡ (start (divided c)).args.number / (start (divided c)).args.count * group_words (start (divided c)).args.plan
groups_is c = ap (λ (k : ℕ). k * group_words (start (divided c)).args.plan) c.quotient-group.ensures

groups : (s : tie.Start) → s.args.number / s.args.count * group_words s.args.plan ≤ 2 ^ 32 * most_group_words
groups s =
    let q : s.args.number / s.args.count ≤ 2 ^ 32 = omega (arith, div-le_self s.args.number s.args.count, s.requires.2) in
    mul-le-mul q (group_most s.args.plan s.requires.0)

overflow_mul-result : tie.Need-overflow_mul-result
overflow_mul-result c = let s = start (divided c.before) in omega (arith, group_most s.args.plan s.requires.0)

overflow_mul-result-2 : tie.Need-overflow_mul-result-2
overflow_mul-result-2 c = omega (arith, groups_is c.before, groups (start (divided c.before)))

overflow_add-result : tie.Need-overflow_add-result
overflow_add-result c =
    let s = start (divided c.before) in
    omega (arith, groups_is c.before, groups s, c.place_of-place.ensures.1, group_most s.args.plan s.requires.0)

returns : tie.Need-returns
unfolding stored_at
returns c =
    let placed = c.before in
    let s = start (divided placed) in
    let p = s.args.plan in
    let n = s.args.number in
    ap₂ ◌+◌ (groups_is placed ∙ ap (λ (k : ℕ). n / k * group_words p) s.requires.1)
    (placed.place_of-place.ensures.0 ∙ ap (place_of p) (slot_is (divided placed) ∙ ap (λ (k : ℕ). lead p + n % k) s.requires.1))

pub stored_place_spec : {M : Type 1} → statement M
stored_place_spec =
    tie.close
    (tie.spec
    quotient-group-requires
    lead-requires
    remainder-requires
    overflow_add-lead
    place_of-place-requires
    overflow_mul-result
    overflow_mul-result-2
    overflow_add-result
    returns)
