use Prim.Native.Nat.{◌+◌, ◌*◌, ◌-◌, ◌≤◌, ◌<◌}
use mathlib.Core.Path.{◌≡◌, refl}
use native.Mathlib.Omega.{arith}
use lib.ListN.{length, take, drop, get_or}
use Rattle.format.specs.Bits.{bits_of, bytes_bits}
use Rattle.log_read.proofs.Eight.{cut_more, cut_eight}
use borrow.Author.Rules.{rules}
use Rattle.log_read.proofs.bits.eight_cut.Statement.{statement}
use Rattle.log_read.proofs.bits.eight_cut.Tie as tie

abbrev invariant-loop-m : tie.invariant-loop-m
invariant-loop-m s i n₀ m₀ n m = (m ≤ length s - i) × (bits_of (m * 8) n ≡ bytes_bits (take m (drop i s)))

abbrev decreases-loop-m : tie.decreases-loop-m
decreases-loop-m s i n₀ m₀ n m = length s - (i + m)

abbrev turn : tie.After-shared_slice_known-1 invariant-loop-m decreases-loop-m → tie.In-loop-m invariant-loop-m decreases-loop-m
turn c = c.before

abbrev entry : tie.After-shared_slice_known-1 invariant-loop-m decreases-loop-m → tie.Start invariant-loop-m decreases-loop-m
entry c = c.before.before.before

-- the byte that is read
byte : (c : tie.After-shared_slice_known-1 invariant-loop-m decreases-loop-m) → get_or (entry c).args.s.now ((entry c).args.i + (turn c).loop-m.m) 0 < 256
byte c = omega (arith, c.shared_slice_known-1.given ((entry c).args.i + (turn c).loop-m.m))

loop-m-init : tie.Need-loop-m-init invariant-loop-m decreases-loop-m
unfolding bits_of bytes_bits
loop-m-init c = (omega arith, refl)

overflow_add-i : tie.Need-overflow_add-i invariant-loop-m decreases-loop-m
overflow_add-i c = search rules

overflow_add-n : tie.Need-overflow_add-n invariant-loop-m decreases-loop-m
overflow_add-n c = search rules

bounds-s-i : tie.Need-bounds-s-i invariant-loop-m decreases-loop-m
bounds-s-i c = search rules

overflow_cast-n : tie.Need-overflow_cast-n invariant-loop-m decreases-loop-m
overflow_cast-n c = omega (arith, byte c)

overflow_add-n-in-loop-m : tie.Need-overflow_add-n-in-loop-m invariant-loop-m decreases-loop-m
overflow_add-n-in-loop-m c = omega (arith, byte c)

overflow_add-m : tie.Need-overflow_add-m invariant-loop-m decreases-loop-m
overflow_add-m c = search rules

loop-m-smaller : tie.Need-loop-m-smaller invariant-loop-m decreases-loop-m
loop-m-smaller c = search rules

loop-m-preserved : tie.Need-loop-m-preserved invariant-loop-m decreases-loop-m
loop-m-preserved c = let e = entry c in let o = (turn c).loop-m in (
  omega (arith, (turn c).loop-m-test.true),
  cut_more e.args.s.now e.args.i o.m o.n (turn c).loop-m-test.true
      (omega (arith, (turn c).loop-m-test.true, e.requires.1)) (byte c) o.invariant.1,
)

returns-then-m-eq0 : tie.Need-returns-then-m-eq0 invariant-loop-m decreases-loop-m
unfolding bits_of bytes_bits
returns-then-m-eq0 c = let o = c.loop-m in let e = c.before.before.before in
    cut_eight e.args.s.now e.args.i 0 0 e.requires.1 (omega (arith, c.if-m-eq0.true, c.loop-m-test.false)) refl

overflow_mul-result : tie.Need-overflow_mul-result invariant-loop-m decreases-loop-m
overflow_mul-result c = search rules

overflow_sub-result : tie.Need-overflow_sub-result invariant-loop-m decreases-loop-m
overflow_sub-result c = search rules

overflow_cast-result : tie.Need-overflow_cast-result invariant-loop-m decreases-loop-m
overflow_cast-result c = search rules

overflow_cast-result-2 : tie.Need-overflow_cast-result-2 invariant-loop-m decreases-loop-m
overflow_cast-result-2 c = search rules

overflow_shl-result : tie.Need-overflow_shl-result invariant-loop-m decreases-loop-m
overflow_shl-result c = search rules

returns : tie.Need-returns invariant-loop-m decreases-loop-m
returns c = let o = c.loop-m in let e = c.before.before.before in
    cut_eight e.args.s.now e.args.i o.m o.n e.requires.1 (omega (arith, o.invariant.0, c.loop-m-test.false)) o.invariant.1

pub eight_cut_spec : {M : Type 1} → statement M
eight_cut_spec =
    tie.close
    (tie.spec
    invariant-loop-m
    decreases-loop-m
    loop-m-init
    overflow_add-i
    overflow_add-n
    bounds-s-i
    overflow_cast-n
    overflow_add-n-in-loop-m
    overflow_add-m
    loop-m-smaller
    loop-m-preserved
    returns-then-m-eq0
    overflow_mul-result
    overflow_sub-result
    overflow_cast-result
    overflow_cast-result-2
    overflow_shl-result
    returns)
