use mathlib.Core.Path.{◌≡◌, ap, ◌∙◌}
use Prim.Native.Nat.{◌+◌}
use native.Mathlib.Omega.{arith}
use borrow.Author.Rules.{rules}
use Rattle.format.specs.Word.{word_at, info_of}
use Rattle.format.specs.Plan.{place_of}
use Rattle.format.specs.Laws.Limits.{room}
use Rattle.format.specs.Laws.Word.Parts.{info_low}
use Rattle.group_read.proofs.Places.{place_room}
use Rattle.group_read.proofs.time_information.Statement.{statement}
use Rattle.group_read.proofs.time_information.Tie as tie

place_of-requires : tie.Need-place_of-requires
place_of-requires c κs = let s = c.before in (s.requires.0, omega (arith, room s.args.plan s.requires.0, s.requires.2))

stored_word-requires : tie.Need-stored_word-requires
stored_word-requires c κs = let s = c.before.before in place_room s.args.plan s.requires.0 _ s.requires.1 c.place_of.ensures.1

information_of-requires : tie.Need-information_of-requires
information_of-requires c κs = search rules

overflow_cast-result : tie.Need-overflow_cast-result
overflow_cast-result c = omega (arith, c.information_of.ensures, info_low c.stored_word.result)

returns : tie.Need-returns
returns c =
    let placed = c.before.before in
    let s = placed.before.before in
    let e : placed.place_of.result ≡ 0 + place_of s.args.plan s.args.dealt = omega (arith, placed.place_of.ensures.0) in
    c.information_of.ensures ∙ ap info_of (c.stored_word.ensures.0 ∙ ap (word_at s.args.group.now) e)

pub time_information_spec : {M : Type 1} → statement M
time_information_spec =
    tie.close
    (tie.spec place_of-requires stored_word-requires information_of-requires overflow_cast-result returns)
