-- The first fault of the groups as number and place.
use Rattle.std.specs.Prelude.{ℕ, ◌≡◌}
use Rattle.std.proofs.Common.{sym, ◌∙◌}
use Rattle.format.specs.Group.{Fault, none}
use Rattle.group_read.specs.declared.Fault.{Fault as Found}
use Rattle.group_read.specs.Faults.{fault_of}

-- number 0 tells that there is none
pub record FirstFault (f : Fault) (r : Found) : Type 0 where
  pub is : r ≡ fault_of f
  pub clear : r.number ≡ 0 → f ≡ none

pub first_fault_one : (f : Fault) (r r' : Found) → FirstFault f r → FirstFault f r' → r ≡ r'
first_fault_one f r r' a b = a.is ∙ sym b.is
