use Rattle.format.specs.Word.{is_odd}
use Rattle.word.proofs.Ones.{count_of_word}
use Rattle.word.proofs.is_odd.Statement.{statement}
use Rattle.word.proofs.is_odd.Tie as tie

returns : tie.Need-returns
unfolding is_odd
returns c = rw (count_of_word c.args.word c.requires)

pub is_odd_spec : {M : Type 1} → statement M
is_odd_spec = tie.close (tie.spec returns)
