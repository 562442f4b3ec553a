-- What a caller of `load` knows of a state at work.
use Rattle.std.specs.Prelude.{ℕ, ◌+◌, ◌*◌, ◌^◌, ◌≤◌, ◌<◌, true, ◌≡◌, List, length, drop}
use Rattle.format.specs.Lists.{list}
use Rattle.format.specs.Plan.{legal}
use Rattle.format.specs.Laws.Limits.{Shape}
use Rattle.data_word.specs.Holding.{Sane, held_of}
use Rattle.stream_rules.specs.Stream.{Working, working, fits, group_size, held_fits, most_bytes, place_fits, waits_fit}
use Rattle.stream_state.specs.declared.Stand.{Stand}
use Rattle.stream_state.specs.Layout.{is_state, number_at, state_at}
use Rattle.stream_state.specs.Parts.{kinds_at}
use Rattle.stream_state.specs.Stand.{working_of}

-- the notices' table that lent bytes say
abbrev pub table_at : List ℕ → List ℕ
table_at b = list (number_at b) 36 64

-- the state at work that lent bytes say, x its numbers by value
abbrev pub work_in : List ℕ → Stand → Working
work_in b x = working_of (kinds_at b) x (table_at b) (drop 1024 b)

-- the bytes are a state at work, and x its numbers
pub record AtWork (b : List ℕ) (x : Stand) : Type 0 where
  pub long : length b ≡ 7168
  pub passes : is_state b ≡ true
  pub says : state_at b ≡ working (work_in b x)
  pub fit : fits (working (work_in b x)) ≡ true
  pub sixteen : length (kinds_at b) ≡ 16
  pub lawful : legal x.plan (kinds_at b) ≡ true
  pub shape : Shape x.plan
  pub sane : Sane x.held
  pub left : x.left < 8
  pub last : x.last < 2 ^ x.left
  pub part : x.waiting < group_size x.plan
  pub count : x.groups * group_size x.plan + x.waiting ≤ most_bytes
  pub held : held_fits (kinds_at b) (held_of x.held) ≡ true
  pub since : place_fits x.plan x.groups x.since ≡ true
  pub waits : waits_fit x.plan (kinds_at b) x.groups 0 (table_at b) ≡ true
