-- Where a feeding stands between two groups.
use Rattle.std.specs.Prelude.{ℕ, ◌+◌, ◌*◌, ◌/◌, ◌%◌, ◌≤◌, ◌<◌, true, cond, ◌≡◌, List, [], ◌++◌, length, take, drop, eqb}
use Rattle.format.specs.Bits.{bits_of}
use Rattle.format.specs.Plan.{slots, times_needed}
use Rattle.format.specs.declared.Kind.{Kind}
use Rattle.format.specs.declared.Plan.{Plan}
use Rattle.data_word.specs.Holding.{Sane}
use Rattle.group_read.specs.Row.{dealt_count}
use Rattle.stream_group.specs.Took.{carried}
use Rattle.stream_group.specs.declared.Took.{Took}
use Rattle.stream_rules.specs.Stream.{Flow, State, Working, failed, fits, group_size, working}
use Rattle.stream_piece.specs.declared.Along.{Along}

-- the state then: less than a group waits, and of that nothing is left between two groups
abbrev pub work_of : Plan → List Kind → Along → List ℕ → Working
work_of p ks a table = record {
  plan = p;
  kinds = ks;
  groups = a.groups;
  waiting = [];
  bits = bits_of a.pen.bits a.pen.last;
  carry = carried a.held a.since table;
}

abbrev pub reached : Plan → List Kind → Along → List ℕ → State
reached p ks a table = cond (eqb a.number 0) (working (work_of p ks a table)) (failed a.number a.place a.second)

-- `new` from `at` on
abbrev pub laid : ℕ → List ℕ → List ℕ → List ℕ
laid at new old = take at old ++ (new ++ drop (at + length new) old)

-- where a feeding stands behind a group that is refused, and behind one that is taken
abbrev pub stopped_by : Along → Took → Along
stopped_by a k = record { number = k.number; place = k.place; second = k.second; pen = a.pen; groups = a.groups; since = a.since; held = a.held; bytes = a.bytes; times = a.times }

abbrev pub gone_on : Plan → Along → Took → Along
gone_on p a k = record {
  number = 0;
  place = 0;
  second = 0;
  pen = record { bits = k.pen.bits % 8; last = k.pen.last };
  groups = a.groups + 1;
  since = k.since;
  held = k.held;
  bytes = a.bytes + k.pen.bits / 8;
  times = a.times + times_needed p 1;
}

-- the state that is reached passes the written test, and its numbers have their one form
pub record Ready (p : Plan) (ks : List Kind) (a : Along) (table : List ℕ) : Type 0 where
  pub fit : fits (reached p ks a table) ≡ true
  pub sane : Sane a.held
  pub bits : a.pen.bits < 8

-- work room for one group of the plan: its words as they are dealt, and the log of its items
pub record Rooms (p : Plan) (count : ℕ) (row out : List ℕ) : Type 0 where
  pub slots_are : count ≡ slots p
  pub dealt : dealt_count p ≤ length row
  pub built : 26 * group_size p + 414 ≤ 24 * length out

-- what is handed out has room behind what is written
pub record Takes (f : Flow) (a : Along) (log times : List ℕ) : Type 0 where
  pub bytes : a.bytes + length f.log ≤ length log
  pub entries : a.times + length f.times ≤ length times

-- from a to r the flow f was handed out: its bytes and times stand behind what was written
pub record Goes (p : Plan) (ks : List Kind) (f : Flow) (a r : Along) (table l l' t t' : List ℕ) : Type 0 where
  pub is : f.state ≡ reached p ks r table
  pub sane : Sane r.held
  pub bits : r.pen.bits < 8
  pub bytes : r.bytes ≡ a.bytes + length f.log
  pub entries : r.times ≡ a.times + length f.times
  pub log : l' ≡ laid a.bytes f.log l
  pub times : t' ≡ laid a.times f.times t
