use borrow.Author.Tests.{le-leb, lt-leb}
use borrow.Author.Tests.{eq-eqb, ne_eqb, lt-ltb, le-ltb, le-leb, lt-leb}
use borrow.Author.Rules.{rules}
use Rattle.stream_state.proofs.plan_named.Statement.{statement}
use Rattle.stream_state.proofs.plan_named.Tie as tie
use Rattle.stream_state.proofs.plan_named.Reads as reads
use Rattle.stream_state.proofs.plan_named.Lts as lts

returns-then-words-gt512 : tie.Need-returns-then-words-gt512
returns-then-words-gt512 c = simp (lt-leb _ _ c.if-words-gt512.true)

returns-then-tracks-gt4 : tie.Need-returns-then-tracks-gt4
returns-then-tracks-gt4 c = simp (le-leb _ _ c.if-words-gt512.false, lt-leb _ _ c.if-tracks-gt4.true)

returns-then-frame_time-gt1 : tie.Need-returns-then-frame_time-gt1
returns-then-frame_time-gt1 c = simp (le-leb _ _ c.if-words-gt512.false, le-leb _ _ c.if-tracks-gt4.false, lt-leb _ _ c.if-frame_time-gt1.true)

returns-then-crc-gt1 : tie.Need-returns-then-crc-gt1
returns-then-crc-gt1 c = simp (le-leb _ _ c.if-words-gt512.false, le-leb _ _ c.if-tracks-gt4.false, le-leb _ _ c.if-frame_time-gt1.false, lt-leb _ _ c.if-crc-gt1.true)

returns-then-parity-gt1 : tie.Need-returns-then-parity-gt1
returns-then-parity-gt1 c = let t = c.before.before.before in
    simp (le-leb _ _ t.if-words-gt512.false, le-leb _ _ t.if-tracks-gt4.false, le-leb _ _ c.if-frame_time-gt1.false, le-leb _ _ c.if-crc-gt1.false, lt-leb _ _ c.if-parity-gt1.true)

returns-then-label-gt7 : tie.Need-returns-then-label-gt7
returns-then-label-gt7 c = let t = c.before.before.before in
    simp (le-leb _ _ t.if-words-gt512.false, le-leb _ _ t.if-tracks-gt4.false, le-leb _ _ t.if-frame_time-gt1.false)
    (simp (le-leb _ _ c.if-crc-gt1.false, le-leb _ _ c.if-parity-gt1.false, lt-leb _ _ c.if-label-gt7.true))

returns : tie.Need-returns
returns c = let t = c.before.before.before in
    simp (le-leb _ _ t.if-words-gt512.false, le-leb _ _ t.if-tracks-gt4.false, le-leb _ _ t.if-frame_time-gt1.false)
    (simp (le-leb _ _ c.if-crc-gt1.false, le-leb _ _ c.if-parity-gt1.false, le-leb _ _ c.if-label-gt7.false))

pub plan_named_spec : {M : Type 1} → statement M
plan_named_spec =
    tie.close (tie.spec returns-then-words-gt512 returns-then-tracks-gt4 returns-then-frame_time-gt1 returns-then-crc-gt1 returns-then-parity-gt1 returns-then-label-gt7 returns)
