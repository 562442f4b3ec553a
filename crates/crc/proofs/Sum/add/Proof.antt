use native.Mathlib.Omega.{arith}
use borrow.Author.Rules.{rules}
use Prim.Native.Nat.{ℕ}
use mathlib.Core.Path.{ap, ◌∙◌}
use lib.Bits.{bit_xor, xor_lt}
use Rattle.crc.specs.Running.{check_from}
use Rattle.crc.specs.Sum.{check_of_sum}
use Rattle.crc.proofs.Kept.{made}
use Rattle.crc.proofs.Law.{far, one_more}
use Rattle.crc.proofs.Low.{odd_low, met_low, folded_low}
use Rattle.crc.proofs.Sum.add.Statement.{statement}
use Rattle.crc.proofs.Sum.add.Tie as tie

overflow_mul-rest : tie.Need-overflow_mul-rest
overflow_mul-rest c = search rules

overflow_mul-rest-2 : tie.Need-overflow_mul-rest-2
overflow_mul-rest-2 c = omega (arith, odd_low c.args.self.rest c.requires.0.0)

fold-requires : tie.Need-fold-requires
fold-requires c κs = met_low c.args.self.rest c.args.word c.requires.0.0 c.requires.1

returns : tie.Need-returns
unfolding check_of_sum check_from
returns c =
    let s = c.before.before in
    let r = s.args.self.rest in
    let o = s.args.self.ones in
    let w = s.args.word in
    let e = c.fold.ensures in
    record {
      small = (rw e (folded_low (bit_xor (far r) w) (met_low r w s.requires.0.0 s.requires.1)), xor_lt 24 o w s.requires.0.1 s.requires.1);
      check = ap (λ (n : ℕ). made n (bit_xor o w)) e ∙ one_more r o w s.requires.0.0 s.requires.1;
    }

pub add_spec : {M : Type 1} → statement M
add_spec = tie.close (tie.spec overflow_mul-rest overflow_mul-rest-2 fold-requires returns)
