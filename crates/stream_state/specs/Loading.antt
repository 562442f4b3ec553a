-- What is known of a working state's bytes while they are tested, part by part.
use Rattle.std.specs.Prelude.{ℕ, true, ◌≡◌, List, length}
use Rattle.format.specs.Lists.{list}
use Rattle.format.specs.Plan.{legal}
use Rattle.from_c.specs.Numbers.{are_kinds}
use Rattle.format.specs.declared.Kind.{Kind}
use Rattle.format.specs.declared.Plan.{Plan}
use Rattle.stream_state.specs.Layout.{number_at}
use Rattle.stream_state.specs.Parts.{kinds_at, plan_at, plan_named, size_fits}

-- the plan's numbers and the kinds are named
pub record Planned (b : List ℕ) (p : Plan) : Type 0 where
  pub long : length b ≡ 7168
  pub stage : number_at b 0 ≡ 1025
  pub named : plan_named (number_at b 1) (number_at b 2) (number_at b 3) (number_at b 4) (number_at b 5) (number_at b 6) (number_at b 7) ≡ true
  pub kinds : are_kinds (list (number_at b) 20 16) ≡ true
  pub is : p ≡ plan_at b

-- and the plan is legal, and the bytes so far are not too many
pub record Sized (b : List ℕ) (p : Plan) (groups waiting : ℕ) (ks : List Kind) : Type 0 where
  pub planned : Planned b p
  pub kinds_are : ks ≡ kinds_at b
  pub groups_are : groups ≡ number_at b 10
  pub waiting_is : waiting ≡ number_at b 100
  pub lawful : legal p ks ≡ true
  pub size : size_fits p groups waiting ≡ true
