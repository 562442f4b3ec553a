-- One contractor's bus tells nothing of another's (document 02, K14): "Two contractors share a composite capture and each gets only its
-- picked log."
use Rattle.std.specs.Prelude.{ℕ, Bool, false, ◌≡◌, List, map}
use Rattle.format.specs.Word.{Part, part_of}
use Rattle.format.specs.Read.{reading, gives, data_words}
use Rattle.log_rules.specs.Pick.{in_set, keep}
use Rattle.format.specs.declared.Kind.{Kind}
use Rattle.format.specs.declared.Plan.{Plan}

-- a word on one of the buses
abbrev pub says_on : ℕ → Part → Bool
says_on set x = in_set set x.bus

-- "the data words on a set of buses": their "bus, label and information", in order
abbrev pub said_on : ℕ → Plan → List ℕ → List Part
said_on set p c = keep (says_on set) (map (part_of p.parity) (data_words p c))

-- "accepted by plain reading": in the rooms that it was lent, whatever they were, the capture's reading gave this log and these times
pub record ReadsTo (p : Plan) (ks : List Kind) (c log times : List ℕ) : Type 0 where
  pub log_room : ℕ
  pub time_room : ℕ
  pub answers : reading false p ks c log_room time_room ≡ gives log times
