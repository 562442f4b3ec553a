-- What a salvage carries from group to group, and what each does to it and to the three arrays.
use Rattle.std.specs.Prelude.{ℕ, zero, suc, ◌+◌, ◌*◌, ◌≤◌, cond, List}
use Rattle.format.specs.Plan.{group_words, slots}
use Rattle.format.specs.Group.{Fault, none, found, group_fault, group_time, group_slots}
use Rattle.format.specs.Laws.Reader.Slots.{words_in}
use Rattle.format.specs.declared.Kind.{Kind}
use Rattle.format.specs.declared.Plan.{Plan}
use Rattle.salvage_run.specs.Tape.{drop_group, on_row, put_at, Sound, start_pass, Tape, tape}
use Rattle.salvage_groups.specs.declared.Walk.{Walk}

-- what is carried over words with its two arrays, how many frame times there are, and their row
pub record Reel : Type 0 where
  pub words : Tape
  pub times : ℕ
  pub row : List ℕ

abbrev pub reel : Walk → List ℕ → List ℕ → List ℕ → Reel
reel w out row report = record { words = tape w.pass out report; times = w.times; row = row }

abbrev pub start_walk : Walk
start_walk = record { pass = start_pass; times = 0 }

-- a kept group's frame time, if frame time is chosen
abbrev pub kept_count : Plan → ℕ → ℕ
kept_count p at = cond p.frame_time (at + 1) at

abbrev pub kept_row : Plan → ℕ → ℕ → List ℕ → List ℕ
kept_row p time at row = cond p.frame_time (put_at row at time) row

-- the group g: kept or dropped
abbrev pub group_on : Fault → List Kind → Plan → List ℕ → ℕ → Reel → Reel
group_on none ks p c g r = record {
  words = on_row ks p (g * slots p) (words_in (group_slots p c (g * group_words p))) r.words;
  times = kept_count p r.times;
  row = kept_row p (group_time p c (g * group_words p)) r.times r.row;
}
group_on (found k q) ks p c g r = record { words = drop_group p k g r.words; times = r.times; row = r.row }

unfoldable pub on_group : List Kind → Plan → List ℕ → ℕ → Reel → Reel
on_group ks p c g r = group_on (group_fault p c (g * group_words p)) ks p c g r

-- n groups from g on
unfoldable pub over_groups : List Kind → Plan → List ℕ → ℕ → ℕ → Reel → Reel
over_groups ks p c zero g r = r
over_groups ks p c (suc n) g r = over_groups ks p c n (g + 1) (on_group ks p c g r)

-- what is carried behind g groups
pub record Moves (p : Plan) (g : ℕ) (w : Walk) : Type 0 where
  pub sound : Sound (g * slots p) w.pass
  pub few : w.times ≤ g
