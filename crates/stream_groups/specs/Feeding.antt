-- A feeding's numbers, and what is known when its groups are taken.
use Rattle.std.specs.Prelude.{ℕ, ◌+◌, ◌*◌, ◌/◌, ◌%◌, ◌^◌, ◌≤◌, true, cond, ◌≡◌, List, length, eqb}
use Rattle.format.specs.Plan.{times_needed}
use Rattle.format.specs.declared.Answer.{Answer}
use Rattle.format.specs.declared.Kind.{Kind}
use Rattle.format.specs.declared.Plan.{Plan}
use Rattle.stream_rules.specs.Stream.{State, failed, fits, group_size, most_bytes, working}
use Rattle.stream_state.specs.AtWork.{AtWork, table_at}
use Rattle.stream_state.specs.Stand.{working_of}
use Rattle.stream_state.specs.Storing.{Storable}
use Rattle.stream_state.specs.declared.Stand.{Stand}
use Rattle.stream_piece.specs.declared.Along.{Along}

-- before the first group: its own bytes wait in front of the piece
abbrev pub start_of : Stand → Along
start_of x = record {
  number = 0;
  place = 0;
  second = 0;
  pen = record { bits = x.left; last = x.last };
  groups = x.groups;
  since = x.since;
  held = x.held;
  bytes = 0;
  times = 0;
}

-- behind the last group, where so many bytes wait
abbrev pub stand_at : Plan → Along → ℕ → Stand
stand_at p a waiting =
    record { plan = p; left = a.pen.bits; last = a.pen.last % 2 ^ a.pen.bits; groups = a.groups; since = a.since; held = a.held; waiting = waiting }

-- the call that meets a fault tells the lengths written too
abbrev pub answer_at : ℕ → ℕ → ℕ → Along → Answer
answer_at number place second a = record { number = number; place = place; second = second; bytes = a.bytes; times = a.times }

-- ---- the end of a call that filled groups: the fault, if one was met, or the state at work with the bytes behind the last group

abbrev pub end_answer : Along → Answer
end_answer a = cond (eqb a.number 0) (answer_at 0 0 0 a) (answer_at a.number a.place a.second a)

abbrev pub end_state : Plan → List Kind → Along → List ℕ → List ℕ → State
end_state p ks a table rest =
    cond (eqb a.number 0) (working (working_of ks (stand_at p a (length rest)) table rest)) (failed a.number a.place a.second)

-- it passes the written test
pub record Stores (p : Plan) (ks : List Kind) (a : Along) (table rest : List ℕ) : Type 0 where
  pub fault : (a.number ≡ 0 → ⊥) → fits (failed a.number a.place a.second) ≡ true
  pub works : a.number ≡ 0 → Storable ks (stand_at p a (length rest)) table rest

-- ---- what is known

-- a state at work, within the limits of a call
pub record Fed (b : List ℕ) (x : Stand) (table piece : List ℕ) (room : ℕ) : Type 0 where
  pub work : AtWork b x
  pub table_is : table ≡ table_at b
  pub short : length piece ≤ 4096
  pub roomy : 12288 ≤ room

-- and the piece fills n groups, one at least, for whose times there are entries; the size is not crossed
pub record Filled (b : List ℕ) (x : Stand) (table piece : List ℕ) (room entries n : ℕ) : Type 0 where
  pub fed : Fed b x table piece room
  pub whole : n ≡ (x.waiting + length piece) / group_size x.plan
  pub some : 1 ≤ n
  pub timed : times_needed x.plan n ≤ entries
  pub size : x.groups * group_size x.plan + x.waiting + length piece ≤ most_bytes
