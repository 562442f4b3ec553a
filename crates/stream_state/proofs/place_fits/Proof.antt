use native.Mathlib.Omega.{arith}
use Rattle.stream_state.proofs.Sizes.{words_room}
use mathlib.Core.Path.{refl}
use borrow.Author.Tests.{eq-eqb, ne_eqb}
use borrow.Author.Tests.{eq-eqb, ne_eqb, lt-ltb, le-ltb, le-leb, lt-leb}
use borrow.Author.Rules.{rules}
use Rattle.stream_state.proofs.place_fits.Statement.{statement}
use Rattle.stream_state.proofs.place_fits.Tie as tie
use Rattle.stream_state.proofs.place_fits.Reads as reads
use Rattle.stream_state.proofs.place_fits.Lts as lts
use Rattle.plan.proofs.group_words.Reads as group-words-reads

returns-then-since-eq0 : tie.Need-returns-then-since-eq0
returns-then-since-eq0 c = simp (eq-eqb _ _ c.if-since-eq0.true)

group_words-requires : tie.Need-group_words-requires
group_words-requires c κs = search rules

overflow_mul-result : tie.Need-overflow_mul-result
overflow_mul-result c = rw c.group_words.ensures.0 (omega (arith, words_room c.args.plan c.requires.0 c.args.groups c.requires.1))

returns : tie.Need-returns
returns c = rw (ne_eqb _ _ c.if-since-eq0.false, c.group_words.ensures.0) refl

pub place_fits_spec : {M : Type 1} → statement M
place_fits_spec = tie.close (tie.spec returns-then-since-eq0 group_words-requires overflow_mul-result returns)
