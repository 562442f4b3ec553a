-- Composing words that were laid: an open notice among them, or the groups.
use Rattle.std.specs.Prelude.{ℕ, ◌-◌, false, cond, List, take, eqb}
use Rattle.format.specs.Reader.{counted}
use Rattle.format.specs.Compose.{Composed, refused, compose_words}
use Rattle.format.specs.declared.Kind.{Kind}
use Rattle.format.specs.declared.Plan.{Plan}
use Rattle.notices.specs.Roles.{open_row, roles_in}
use Rattle.log_bits.specs.Bits.{bits_in}

-- the number of the earliest open notice's word, one up; 0 for none
abbrev pub open_word : List Kind → List ℕ → ℕ
open_word ks ws = open_row (roles_in ks false (counted 0 ws))

-- 15 at the bit behind the words before it, or what the words make
abbrev pub compose_laid : Plan → List Kind → List ℕ → ℕ → List ℕ → Composed
compose_laid p ks times room ws = cond (eqb (open_word ks ws) 0) (compose_words p times room ws) (refused 15 (bits_in ks (take (open_word ks ws - 1) ws)))
