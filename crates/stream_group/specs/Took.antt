-- What the code has of a group that is taken, or not.
use Rattle.std.specs.Prelude.{ℕ, ◌+◌, ◌*◌, ◌-◌, cond, ◌≡◌, length, eqb}
use Rattle.std.proofs.Common.{ap, sym, ◌∙◌}
use mathlib.Core.List.{List, ◌++◌, flat_map}
use Rattle.format.specs.Plan.{lead, group_words, place_of}
use Rattle.format.specs.Item.{item_bits}
use Rattle.format.specs.Reader.{counted, run}
use Rattle.format.proofs.Laws.Reader.Named.{renamed}
use Rattle.format.specs.declared.Kind.{Kind}
use Rattle.format.specs.declared.Item.{Item}
use Rattle.format.specs.declared.Plan.{Plan}
use Rattle.stream_rules.specs.Stream.{Brought, Carry, brings, stops, watch, watched}
use Rattle.data_start.specs.declared.Holding.{Holding}
use Rattle.data_word.specs.Holding.{Sane, held_of}
use Rattle.log_write.specs.Pen.{Wrote}
use Rattle.log_write.specs.declared.Pen.{Pen}
use Rattle.stream_group.specs.declared.Took.{Took}

-- what is carried into a group
abbrev pub carried : Holding → ℕ → List ℕ → Carry
carried held since table = record { held = held_of held; since = since; waits = table }

-- a word by its number among the group's data words, from 1 on; 0 is the first word of what was held before
abbrev pub from_number : Plan → ℕ → ℕ → ℕ → ℕ
from_number p at since q = cond (eqb q 0) since (at + place_of p (lead p + (q - 1)))

-- what the group's data words bring, where the group has no fault of 9 to 12
unfoldable pub row_brings : Plan → List Kind → ℕ → Carry → List ℕ → Brought
row_brings p ks g x row =
    watched p (renamed (from_number p (g * group_words p) x.since) (run ks p.parity (counted 1 row) x.held 0))
    (watch ks p.parity (counted (g * 2048 + lead p + 1) row) (record { waits = x.waits; shown = 0 }))

abbrev pub stops_by : ℕ → ℕ → ℕ → Holding → Pen → Took
stops_by n q second held pen = record { number = n; place = q; second = second; held = held; since = 0; pen = pen }

-- the group was taken: its items are behind what the pen had written, and this is carried on
pub record Went (b : Brought) (pen : Pen) (out : List ℕ) (r : Took) (table out' : List ℕ) : Type 0 where
  pub items : List Item
  pub is : b ≡ brings items (carried r.held r.since table)
  pub sane : Sane r.held
  pub long : length out' ≡ length out
  pub wrote : (bits : List ℕ) → Wrote bits out pen → Wrote (bits ++ flat_map item_bits items) out' r.pen

-- the contract: number 0, or the refusal; the table and the array are work room then
pub record TookBy (b : Brought) (pen : Pen) (out : List ℕ) (r : Took) (table out' : List ℕ) : Type 0 where
  pub went : r.number ≡ 0 → Went b pen out r table out'
  pub stopped : (r.number ≡ 0 → ⊥) → b ≡ stops r.number r.place r.second
