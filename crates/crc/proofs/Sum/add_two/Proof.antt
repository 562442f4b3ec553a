use native.Mathlib.Omega.{arith}
use borrow.Author.Rules.{rules}
use Prim.Native.Nat.{ℕ, ◌+◌, ◌*◌, ◌^◌}
use mathlib.Core.Path.{ap, ◌∙◌}
use lib.Bits.{bit_xor, xor_lt}
use Rattle.crc.specs.Running.{check_from}
use Rattle.crc.specs.Sum.{check_of_sum}
use Rattle.crc.proofs.Kept.{made}
use Rattle.crc.proofs.Law.{farther, two_more}
use Rattle.crc.proofs.Low.{both_low, odd_low, quad_low, met_two_low, folded_low}
use Rattle.crc.proofs.Sum.add_two.Statement.{statement}
use Rattle.crc.proofs.Sum.add_two.Tie as tie

overflow_mul-odd : tie.Need-overflow_mul-odd
overflow_mul-odd c = search rules

overflow_mul-far : tie.Need-overflow_mul-far
overflow_mul-far c = omega (arith, odd_low c.args.self.rest c.requires.0.0)

overflow_mul-both : tie.Need-overflow_mul-both
overflow_mul-both c = search rules

overflow_add-both : tie.Need-overflow_add-both
overflow_add-both c = search rules

overflow_mul-far-2 : tie.Need-overflow_mul-far-2
overflow_mul-far-2 c = omega (arith, quad_low c.args.self.rest c.requires.0.0)

fold-requires : tie.Need-fold-requires
fold-requires c κs = met_two_low c.args.self.rest c.args.one c.args.two c.requires.0.0 c.requires.1 c.requires.2

overflow_cast-result : tie.Need-overflow_cast-result
overflow_cast-result c = omega (arith, both_low c.args.one c.args.two c.requires.1 c.requires.2)

returns : tie.Need-returns
unfolding check_of_sum check_from
returns c =
    let s = c.before.before in
    let r = s.args.self.rest in
    let o = s.args.self.ones in
    let u = s.args.one in
    let w = s.args.two in
    let e = c.fold.ensures in
    record {
      small = (
        rw e (folded_low (bit_xor (farther r) (u * 2 ^ 24 + w)) (met_two_low r u w s.requires.0.0 s.requires.1 s.requires.2)),
        xor_lt 24 o (bit_xor u w) s.requires.0.1 (both_low u w s.requires.1 s.requires.2),
      );
      check = ap (λ (n : ℕ). made n (bit_xor o (bit_xor u w))) e ∙ two_more r o u w s.requires.0.0 s.requires.1 s.requires.2;
    }

pub add_two_spec : {M : Type 1} → statement M
add_two_spec =
    tie.close (tie.spec overflow_mul-odd overflow_mul-far overflow_mul-both overflow_add-both overflow_mul-far-2 fold-requires overflow_cast-result returns)
