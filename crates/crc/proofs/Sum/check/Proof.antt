use native.Mathlib.Omega.{arith}
use borrow.Author.Rules.{rules}
use Prim.Native.Nat.{◌*◌, ◌^◌, ◌<◌}
use mathlib.Core.Path.{◌≡◌, sym, ap, ◌∙◌}
use lib.Bits.{bit_xor}
use Rattle.crc.specs.Sum.{check_of_sum, less, reduced}
use Rattle.crc.proofs.Low.{wide_low, once_low, less_low, met_ones_low, turned_low, odd_check, even_check}
use Rattle.crc.proofs.Sum.check.Statement.{statement}
use Rattle.crc.proofs.Sum.check.Tie as tie

overflow_mul-rest : tie.Need-overflow_mul-rest
overflow_mul-rest c = search rules

overflow_mul-rest-2 : tie.Need-overflow_mul-rest-2
overflow_mul-rest-2 c = search rules

reduce-requires : tie.Need-reduce-requires
reduce-requires c κs = omega (arith, wide_low c.args.self.rest c.requires.0)

once : (c : tie.After-reduce) → c.reduce.result < 2 ^ 18
once c =
    let r = c.args.self.rest in
    rw c.reduce.ensures (once_low (bit_xor (r * 2 ^ 1) (r * 2 ^ 2)) (wide_low r c.requires.0))

reduce-less-requires : tie.Need-reduce-less-requires
reduce-less-requires c κs = omega (arith, once c)

got : (c : tie.After-reduce-less) → c.reduce-less.result ≡ less c.args.self.rest
got c = c.reduce-less.ensures ∙ ap reduced c.reduce.ensures

low : (c : tie.After-reduce-less) → c.reduce-less.result < 2 ^ 15
low c = rw (got c) (less_low c.args.self.rest c.requires.0)

overflow_cast-less : tie.Need-overflow_cast-less
overflow_cast-less c = omega (arith, low c)

overflow_cast-self : tie.Need-overflow_cast-self
overflow_cast-self c = search rules

is_odd-requires : tie.Need-is_odd-requires
is_odd-requires c κs = met_ones_low c.reduce-less.result c.args.self.ones (low c.before) c.requires.1

returns-then-is_odd : tie.Need-returns-then-is_odd
unfolding check_of_sum
returns-then-is_odd c =
    let l = c.reduce-less.result in
    let r = c.args.self.rest in
    let o = c.args.self.ones in
    (odd_check r l o (got c.before.before.before) (sym c.is_odd.ensures ∙ c.if-is_odd.true), turned_low l (low c.before.before.before))

returns : tie.Need-returns
unfolding check_of_sum
returns c =
    let l = c.reduce-less.result in
    let r = c.args.self.rest in
    let o = c.args.self.ones in
    (even_check r l o (got c.before.before.before) (sym c.is_odd.ensures ∙ c.if-is_odd.false), omega (arith, low c.before.before.before))

pub check_spec : {M : Type 1} → statement M
check_spec =
    tie.close
    (tie.spec
    overflow_mul-rest
    overflow_mul-rest-2
    reduce-requires
    reduce-less-requires
    overflow_cast-less
    overflow_cast-self
    is_odd-requires
    returns-then-is_odd
    returns)
