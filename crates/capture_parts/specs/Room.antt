-- The number of a refusal for want of room, 0 for none.
use Rattle.std.specs.Prelude.{ℕ, cond, eqb, leb}

abbrev pub short_of : ℕ → ℕ → ℕ → ℕ
short_of number needed room = cond (leb needed room) 0 number

abbrev pub earlier : ℕ → ℕ → ℕ
earlier first then = cond (eqb first 0) then first
