-- What is stored into the lent bytes (document 02, K4): a state at work by its numbers, and a piece behind the bytes that wait.
use Rattle.std.specs.Prelude.{ℕ, ◌+◌, ◌/◌, ◌%◌, ◌^◌, ◌<◌, true, cond, ◌≡◌, List, [], ◌∷◌, ◌++◌, map, length, replicate, eqb}
use Rattle.format.specs.Bits.{bit}
use Rattle.format.specs.Laws.Reader.Held.{held_parts}
use Rattle.from_c.specs.Numbers.{time_bytes}
use Rattle.data_word.specs.Holding.{Sane, held_of}
use Rattle.stream_rules.specs.Stream.{State, closed, failed, working, Working, fits, group_size, keeps}
use Rattle.stream_rules.specs.StateNumbers.{four_words, kind_number}
use Rattle.format.specs.declared.Base.{Base}
use Rattle.format.specs.declared.Base.TheVariants as base
use Rattle.format.specs.declared.Held.{Held}
use Rattle.format.specs.declared.Held.TheVariants.{Taggable, TagHigh, TagLow}
use Rattle.format.specs.declared.Kind.{Kind}
use Rattle.stream_state.specs.declared.Stand.{Stand}
use Rattle.stream_state.specs.Layout.{is_state, state_at, zeros_behind}
use Rattle.stream_state.specs.Stand.{working_of}

-- ---- a state at work, by its numbers

-- the numbers fit together, each in its one form
pub record Storable (kinds : List Kind) (x : Stand) (table rest : List ℕ) : Type 0 where
  pub fit : fits (working (working_of kinds x table rest)) ≡ true
  pub held : Sane x.held
  pub last : x.last < 2 ^ x.left
  pub count : x.waiting ≡ length rest

-- a command or an ARINC word on this bus, by its log bits without a tag
abbrev pub command_in : ℕ → ℕ → Base
command_in bus bits = base.Command bus (eqb (bits / 2 ^ 17 % 2) 1) (bits % 2 ^ 16)

abbrev pub arinc_in : ℕ → ℕ → Base
arinc_in bus bits = base.Arinc bus (bits / 2 ^ 33 % 4) (bits % 2 ^ 32)

-- what is held of a command or an ARINC word, by the label that goes on with it: 7 the time's high part, 6 its low part, 5 its microseconds
abbrev pub staged : Base → ℕ → ℕ → Held
staged x stage time = cond (eqb stage 7) (Taggable x) (cond (eqb stage 6) (TagHigh x time) (TagLow x (time / 2 ^ 16) (time % 2 ^ 16)))

-- the first fifteen numbers
abbrev pub stand_row : Stand → List ℕ
stand_row x =
    1025 ∷ x.plan.words ∷ x.plan.tracks ∷ bit x.plan.frame_time ∷ bit x.plan.crc ∷ bit x.plan.parity ∷ x.plan.crc_label ∷ x.plan.fill_bus
    ∷ x.left ∷ x.last ∷ x.groups ∷ x.since ∷ 0 ∷ 0 ∷ 0 ∷ []

-- the hundred numbers in front of how many bytes wait
abbrev pub front_row : List Kind → Stand → List ℕ → List ℕ
front_row kinds x table = stand_row x ++ (four_words (held_parts (held_of x.held)) ++ (map kind_number kinds ++ table))

-- how many bytes wait, and these in their room
abbrev pub waiting_bytes : List ℕ → List ℕ
waiting_bytes v = time_bytes (length v) ++ (replicate 216 0 ++ zeros_behind 6144 v)

-- ---- a piece that fills no group

-- the piece behind the bytes that wait
abbrev pub kept_in : State → List ℕ → State
kept_in closed piece = closed
kept_in (failed k q second) piece = failed k q second
kept_in (working w) piece = working (keeps w (w.waiting ++ piece))

-- the lent bytes are a state at work, `waiting` bytes wait, and `more` bytes fill no group
pub record Waits (b : List ℕ) (waiting more : ℕ) : Type 0 where
  pub work : Working
  pub passes : is_state b ≡ true
  pub says : state_at b ≡ working work
  pub count : waiting ≡ length work.waiting
  pub part : waiting + more < group_size work.plan
