use Prim.Native.Nat.{◌*◌}
use mathlib.Core.Path.{refl}
use native.Mathlib.Omega.{arith}
use Rattle.data_start.proofs.Openers.{moved}
use borrow.Author.Rules.{rules}
use Rattle.data_start.proofs.one_word.Statement.{statement}
use Rattle.data_start.proofs.one_word.Tie as tie

overflow_mul-result : tie.Need-overflow_mul-result
overflow_mul-result c = search rules

overflow_shl-result : tie.Need-overflow_shl-result
overflow_shl-result c = search rules

overflow_add-result : tie.Need-overflow_add-result
overflow_add-result c = search rules

overflow_mul-result-2 : tie.Need-overflow_mul-result-2
overflow_mul-result-2 c = let m = moved (c.args.kind * 16) c.args.behind (omega (arith, c.requires.0)) c.requires.1 in omega (arith, m.0, m.1, c.requires.2)

overflow_add-result-2 : tie.Need-overflow_add-result-2
overflow_add-result-2 c = let m = moved (c.args.kind * 16) c.args.behind (omega (arith, c.requires.0)) c.requires.1 in omega (arith, m.0, m.1, c.requires.1, c.requires.2)

returns : tie.Need-returns
returns c = let m = moved (c.args.kind * 16) c.args.behind (omega (arith, c.requires.0)) c.requires.1 in rw m.0 refl

pub one_word_spec : {M : Type 1} → statement M
one_word_spec =
    tie.close (tie.spec overflow_mul-result overflow_shl-result overflow_add-result overflow_mul-result-2 overflow_add-result-2 returns)
