-- Calls as scripts make them (document 02, K12): "Scripts reorder K7 and K9"; "where every call named succeeds". A call succeeds in the
-- room that it was lent, whatever that was.
use Rattle.std.specs.Prelude.{ℕ, ◌≡◌, List, ℤ}
use Rattle.format.specs.Compose.{made}
use Rattle.format.specs.Read.{gives}
use Rattle.log_rules.specs.Pick.{picked, joined}
use Rattle.log_rules.specs.Shift.{shifted}

-- picking this set of buses from the log gave these bytes
pub record PicksTo (log : List ℕ) (set : ℕ) (out : List ℕ) : Type 0 where
  pub room : ℕ
  pub answers : picked log set room ≡ made out

-- joining the two logs gave these bytes
pub record JoinsTo (first second out : List ℕ) : Type 0 where
  pub room : ℕ
  pub answers : joined first second room ≡ made out

-- shifting the log and its time row gave these bytes and this row
pub record ShiftsTo (log times : List ℕ) (by : ℤ) (out times' : List ℕ) : Type 0 where
  pub room : ℕ
  pub answers : shifted log times by room ≡ gives out times'
