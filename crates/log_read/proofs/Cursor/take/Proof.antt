use Rattle.log_read.proofs.Taken.{top_small}
use Rattle.log_read.specs.Cursor.{took_of}
use mathlib.Core.Path.{refl}
use native.Mathlib.Omega.{arith}
use borrow.Author.Rules.{rules}
use Rattle.log_read.proofs.Cursor.take.Statement.{statement}
use Rattle.log_read.proofs.Cursor.take.Tie as tie

overflow_sub-field : tie.Need-overflow_sub-field
overflow_sub-field c = search rules

overflow_cast-field : tie.Need-overflow_cast-field
overflow_cast-field c = search rules

overflow_shr-field : tie.Need-overflow_shr-field
overflow_shr-field c = search rules

overflow_cast-field-2 : tie.Need-overflow_cast-field-2
overflow_cast-field-2 c =
    record { fits = (top_small {a = c.args.self.ahead} c.args.width (omega arith) (omega arith)).1 }

overflow_add-at : tie.Need-overflow_add-at
overflow_add-at c = search rules

overflow_shl-ahead : tie.Need-overflow_shl-ahead
overflow_shl-ahead c = search rules

returns : tie.Need-returns
unfolding took_of
returns c =
    let a = c.args in
    (refl, (top_small {a = a.self.ahead} a.width (omega arith) (omega arith)).0, refl)

pub take_spec : {M : Type 1} → statement M
take_spec =
    tie.close (tie.spec overflow_sub-field overflow_cast-field overflow_shr-field overflow_cast-field-2 overflow_add-at overflow_shl-ahead returns)
