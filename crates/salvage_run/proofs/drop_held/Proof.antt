use borrow.Author.Rules.{rules}
use Rattle.salvage_run.proofs.Steps.{tape_dropped}
use Rattle.salvage_run.proofs.Held.{held_few}
use Rattle.salvage_run.specs.Tape.{places_of, put_all}
use Rattle.data_word.specs.Holding.{held_of}
use mathlib.Core.Path.{ap, ◌∙◌}
use native.Mathlib.Omega.{arith}
use Prim.Native.Nat.{ℕ}
use Rattle.salvage_run.proofs.drop_held.Statement.{statement}
use Rattle.salvage_run.proofs.drop_held.Tie as tie
use Rattle.salvage_run.proofs.drop_held.Reads as reads
use Rattle.salvage_run.proofs.drop_held.Lts as lts
use Rattle.data_start.proofs.nothing.Reads as nothing-reads
use Rattle.salvage_run.proofs.held_words.Reads as held-words-reads
use Rattle.salvage_run.proofs.lose_last.Reads as lose-last-reads

held_words-words-requires : tie.Need-held_words-words-requires
held_words-words-requires c κs = search rules

lose_last-entries-requires : tie.Need-lose_last-entries-requires
lose_last-entries-requires c κs =
    let s = c.before.before.before.before.before in
    (s.requires.0, s.requires.1, s.requires.3, omega (arith, c.held_words-words.ensures, held_few (held_of s.args.pass.held)), s.requires.4)

nothing-requires : tie.Need-nothing-requires
nothing-requires c κs = search rules

shape_of-report : tie.Need-shape_of-report
shape_of-report c = search rules

returns : tie.Need-returns
returns c = λ out.
    let s = c.before.before.before.before.before.before.before.before.before in
    let a = s.args in
    let w = c.held_words-words.ensures in
    tape_dropped a.plan a.pass out a.report.now c.nothing.ensures w c.lose_last-entries.ensures.0
    (c.lose_last-entries.ensures.1 ∙ ap (λ (n : ℕ). put_all a.report.now a.pass.entries (places_of a.plan n a.pass.last)) w)

pub drop_held_spec : {M : Type 1} → statement M
drop_held_spec =
    tie.close
    (tie.spec held_words-words-requires lose_last-entries-requires nothing-requires shape_of-report returns)
