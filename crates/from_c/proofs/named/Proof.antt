use borrow.Author.Tests.{le-leb, lt-leb, eq-eqb, ne_eqb}
use borrow.Author.Rules.{rules}
use Rattle.from_c.proofs.named.Statement.{statement}
use Rattle.from_c.proofs.named.Tie as tie

returns-then-frame_time-gt1 : tie.Need-returns-then-frame_time-gt1
returns-then-frame_time-gt1 c = simp (lt-leb _ _ c.if-frame_time-gt1.true)

returns-then-crc-gt1 : tie.Need-returns-then-crc-gt1
returns-then-crc-gt1 c = simp (le-leb _ _ c.if-frame_time-gt1.false, lt-leb _ _ c.if-crc-gt1.true)

returns-then-parity-gt1 : tie.Need-returns-then-parity-gt1
returns-then-parity-gt1 c = simp (le-leb _ _ c.if-frame_time-gt1.false, le-leb _ _ c.if-crc-gt1.false, lt-leb _ _ c.if-parity-gt1.true)

returns-then-kinds-ne16 : tie.Need-returns-then-kinds-ne16
returns-then-kinds-ne16 c = simp (le-leb _ _ c.if-frame_time-gt1.false, le-leb _ _ c.if-crc-gt1.false, le-leb _ _ c.if-parity-gt1.false, ne_eqb _ _ c.if-kinds-ne16.true)

are_kinds-requires : tie.Need-are_kinds-requires
are_kinds-requires c κs = search rules

returns : tie.Need-returns
returns c = rw (le-leb _ _ c.if-frame_time-gt1.false, le-leb _ _ c.if-crc-gt1.false, le-leb _ _ c.if-parity-gt1.false, eq-eqb _ _ c.if-kinds-ne16.false) c.are_kinds.ensures

pub named_spec : {M : Type 1} → statement M
named_spec =
    tie.close (tie.spec returns-then-frame_time-gt1 returns-then-crc-gt1 returns-then-parity-gt1 returns-then-kinds-ne16 are_kinds-requires returns)
