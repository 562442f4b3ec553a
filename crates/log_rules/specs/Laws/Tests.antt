-- Tests turned round: what `!` of a test says.
use Rattle.std.specs.Prelude.{Bool, true, false, not, ◌≡◌, refl}
use Rattle.std.proofs.Common.{sym}
use Rattle.format.specs.Laws.Tests.{clash}

pub not_true : (b : Bool) → not b ≡ true → b ≡ false
not_true true e = clash e
not_true false e = refl

pub not_false : (b : Bool) → not b ≡ false → b ≡ true
not_false true e = refl
not_false false e = clash (sym e)
