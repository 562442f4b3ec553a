use Prim.Native.Nat.{ℕ}
use borrow.Author.Rules.{rules}
use mathlib.Core.Path.{ap, ◌∙◌}
use lib.Bits.{bit_xor, xor_lt}
use Rattle.crc.specs.Sum.{check_of_sum}
use Rattle.crc.proofs.Kept.{made}
use Rattle.crc.proofs.Five.{past, five_more}
use Rattle.crc.proofs.Low.{met_five_low, folded_low}
use Rattle.crc.proofs.Sum.add_five.Statement.{statement}
use Rattle.crc.proofs.Sum.add_five.Tie as tie

overflow_mul-rest : tie.Need-overflow_mul-rest
overflow_mul-rest c = search rules

fold-requires : tie.Need-fold-requires
fold-requires c κs = met_five_low c.args.self.rest c.args.five.rest c.requires.0.0 c.requires.1.0

returns : tie.Need-returns
unfolding check_of_sum
returns c =
    let s = c.before.before.before.before in
    let r = s.args.self.rest in
    let o = s.args.self.ones in
    let f = s.args.five.rest in
    let p = s.args.five.ones in
    let e = c.fold.ensures in (
      (rw e (folded_low (bit_xor (past r) f) (met_five_low r f s.requires.0.0 s.requires.1.0)), xor_lt 24 o p s.requires.0.1 s.requires.1.1),
      ap (λ (n : ℕ). made n (bit_xor o p)) e ∙ five_more r o f p s.requires.0.0 s.requires.1.0,
    )

pub add_five_spec : {M : Type 1} → statement M
add_five_spec = tie.close (tie.spec overflow_mul-rest fold-requires returns)
