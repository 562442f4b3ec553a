-- Calls of `vin_pick`, `vin_join` and `vin_shift` that answered 0, as a program in C makes them: by the contract of each, what was lent, what is
-- left there, and the bytes that the answer says were written.
use Rattle.std.specs.Prelude.{ℕ, ◌≡◌, List, ℤ, length, take}
use Rattle.format.specs.Answer.{Made}
use Rattle.format.specs.declared.Answer.{Answer}
use Rattle.from_c.specs.Numbers.{times_from}
use Rattle.log_rules.specs.Pick.{joined, picked}
use Rattle.log_rules.specs.Shift.{shifted}
use Rattle.log_shift.specs.Shifted.{Shifted}

pub record VinPick (log : List ℕ) (buses : ℕ) (out : List ℕ) : Type 0 where
  pub lent : List ℕ
  pub left : List ℕ
  pub answer : Answer
  pub contract : Made (picked log buses (length lent)) answer lent left
  pub done : answer.number ≡ 0
  pub wrote : take answer.bytes left ≡ out

pub record VinJoin (first second out : List ℕ) : Type 0 where
  pub lent : List ℕ
  pub left : List ℕ
  pub answer : Answer
  pub contract : Made (joined first second (length lent)) answer lent left
  pub done : answer.number ≡ 0
  pub wrote : take answer.bytes left ≡ out

-- the time row is `times` before the call and `times'` after it, all of its bytes
pub record VinShift (log times : List ℕ) (microseconds : ℤ) (out times' : List ℕ) : Type 0 where
  pub lent : List ℕ
  pub left : List ℕ
  pub answer : Answer
  pub contract : Shifted (shifted log (times_from times) microseconds (length lent)) answer lent left times times'
  pub done : answer.number ≡ 0
  pub wrote : take answer.bytes left ≡ out
