use Rattle.log_words.proofs.Same.{plain_few, plain_word}
use Rattle.log_words.proofs.ByKind.{read_lays, plain_read}
use mathlib.Core.Path.{◌≡◌, refl, ap}
use native.Mathlib.Omega.{arith}
use Prim.Native.Nat.{◌+◌}
use borrow.Author.Rules.{rules}
use Rattle.log_words.proofs.item.lay_plain.Statement.{statement}
use Rattle.log_words.proofs.item.lay_plain.Tie as tie

-- where the word was laid and where its fields were read
abbrev made : tie.After-lay_one → tie.After-join-word
made c = c.before.before.before

abbrev read : tie.After-join-word → tie.After-sided-fields
read c = c.before.before

sided-fields-requires : tie.Need-sided-fields-requires
sided-fields-requires c κs = search rules

plain_label-label-requires : tie.Need-plain_label-label-requires
plain_label-label-requires c κs = let h = plain_few _ c.requires.3 in (h.0, h.1, c.sided-fields.ensures.1)

join-word-requires : tie.Need-join-word-requires
join-word-requires c κs = search rules

plain_stands-requires : tie.Need-plain_stands-requires
plain_stands-requires c κs = search rules

lay_one-requires : tie.Need-lay_one-requires
lay_one-requires c κs = search rules

shape_of-words : tie.Need-shape_of-words
shape_of-words c = search rules

returns : tie.Need-returns
returns c =
    let l = c.before.before in
    let j = made l in
    let f = read j in
    let a = f.before.before.before in
    λ s e ks p g b.
    let q : f.sided-fields.result.next.at ≡ p + 25 = omega (arith, f.sided-fields.ensures.3, g.next.place) in
    read_lays (plain_read g a.args.head.kind a.requires.3) ks _ b e (omega arith) l.plain_stands.ensures refl
    (plain_word a.args.head.bus a.args.head.kind j.plain_label-label.result f.sided-fields.ensures.0 j.plain_label-label.ensures.0 j.join-word.ensures)
    q l.lay_one.ensures

pub lay_plain_spec : {M : Type 1} → statement M
lay_plain_spec =
    tie.close
    (tie.spec
    sided-fields-requires
    plain_label-label-requires
    join-word-requires
    plain_stands-requires
    lay_one-requires
    shape_of-words
    returns)
