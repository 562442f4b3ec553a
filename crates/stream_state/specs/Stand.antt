-- A state's numbers as they are handed over by value, and what is loaded from the lent bytes.
use Rattle.std.specs.Prelude.{ℕ, cond, ◌&&◌, List, length, take, drop, eqb}
use Rattle.format.specs.Bits.{bits_of, num_of}
use Rattle.format.specs.Lists.{list}
use Rattle.from_c.specs.Numbers.{plan_from}
use Rattle.data_start.specs.Holding.{flat}
use Rattle.data_word.specs.Holding.{held_of}
use Rattle.stream_rules.specs.Stream.{State, closed, failed, working, Working}
use Rattle.format.specs.declared.Kind.{Kind}
use Rattle.format.specs.declared.Held.TheVariants.{Nothing}
use Rattle.stream_state.specs.declared.Loaded.{Loaded}
use Rattle.stream_state.specs.declared.Stand.{Stand}
use Rattle.stream_state.specs.Layout.{is_state, number_at, state_at}

-- the state at work that numbers, kinds, the notices' table and the room for waiting bytes say
abbrev pub working_of : List Kind → Stand → List ℕ → List ℕ → Working
working_of ks x table room = record {
  plan = x.plan;
  kinds = ks;
  groups = x.groups;
  waiting = take x.waiting room;
  bits = bits_of x.left x.last;
  carry = record { held = held_of x.held; since = x.since; waits = table };
}

-- the numbers of a state at work
abbrev pub stand_of : Working → Stand
stand_of w = record {
  plan = w.plan;
  left = length w.bits;
  last = num_of w.bits;
  groups = w.groups;
  since = w.carry.since;
  held = flat w.carry.held;
  waiting = length w.waiting;
}

-- where there is none
abbrev pub no_stand : Stand
no_stand = record { plan = plan_from 0 0 0 0 0 0 0; left = 0; last = 0; groups = 0; since = 0; held = flat Nothing; waiting = 0 }

abbrev pub stopped : ℕ → ℕ → ℕ → ℕ → Loaded
stopped stage number place second = record { stage = stage; stand = no_stand; number = number; place = place; second = second }

abbrev pub loaded_as : State → Loaded
loaded_as closed = stopped 0 0 0 0
loaded_as (failed number place second) = stopped 2 number place second
loaded_as (working w) = record { stage = 1; stand = stand_of w; number = 0; place = 0; second = 0 }

-- what the lent bytes give: 3 is for bytes that are no state
unfoldable pub loaded_of : List ℕ → Loaded
loaded_of b = cond (is_state b) (loaded_as (state_at b)) (stopped 3 0 0 0)
