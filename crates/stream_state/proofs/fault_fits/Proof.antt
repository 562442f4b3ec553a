use mathlib.Core.Path.{sym}
use Rattle.stream_state.proofs.Fault.{far, fourteen, one_place, too_high, too_low, two_places}
use borrow.Author.Rules.{rules}
use Rattle.stream_state.proofs.fault_fits.Statement.{statement}
use Rattle.stream_state.proofs.fault_fits.Tie as tie
use Rattle.stream_state.proofs.fault_fits.Reads as reads
use Rattle.stream_state.proofs.fault_fits.Lts as lts

returns-then-number-lt9 : tie.Need-returns-then-number-lt9
returns-then-number-lt9 c = sym (too_low c.args.number c.args.place c.args.second c.if-number-lt9.true)

returns-then-number-gt15 : tie.Need-returns-then-number-gt15
returns-then-number-gt15 c = sym (too_high c.args.number c.args.place c.args.second c.if-number-gt15.true)

returns-then-number-eq14 : tie.Need-returns-then-number-eq14
returns-then-number-eq14 c = sym (fourteen c.args.number c.args.place c.args.second c.if-number-eq14.true)

returns-then-place-gt366503875925 : tie.Need-returns-then-place-gt366503875925
returns-then-place-gt366503875925 c = let a = c.args in
    sym (far a.number a.place a.second c.if-number-lt9.false c.if-number-gt15.false c.if-number-eq14.false c.if-place-gt366503875925.true)

returns-then-number-eq13 : tie.Need-returns-then-number-eq13
returns-then-number-eq13 c = let a = c.args in
    let t = c.before.before in
    sym (two_places a.number a.place a.second t.if-number-lt9.false t.if-number-gt15.false t.if-number-eq14.false c.if-place-gt366503875925.false c.if-number-eq13.true)

returns : tie.Need-returns
returns c = let a = c.args in
    let t = c.before.before in
    sym (one_place a.number a.place a.second t.if-number-lt9.false t.if-number-gt15.false t.if-number-eq14.false c.if-place-gt366503875925.false c.if-number-eq13.false)

pub fault_fits_spec : {M : Type 1} → statement M
fault_fits_spec = tie.close (tie.spec returns-then-number-lt9 returns-then-number-gt15 returns-then-number-eq14 returns-then-place-gt366503875925 returns-then-number-eq13 returns)
