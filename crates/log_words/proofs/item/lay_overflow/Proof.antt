use Rattle.log_words.proofs.ByKind.{read_lays, overflow_read}
use mathlib.Core.Path.{◌≡◌, refl, ap}
use native.Mathlib.Omega.{arith}
use Prim.Native.Nat.{◌+◌}
use borrow.Author.Rules.{rules}
use Rattle.log_words.proofs.item.lay_overflow.Statement.{statement}
use Rattle.log_words.proofs.item.lay_overflow.Tie as tie

-- where the word was laid and where its fields were read
abbrev made : tie.After-lay_one → tie.After-join-word
made c = c.before.before.before

abbrev read : tie.After-join-word → tie.After-take-took
read c = c.before

take-took-requires : tie.Need-take-took-requires
take-took-requires c κs = search rules

join-word-requires : tie.Need-join-word-requires
join-word-requires c κs = search rules

is_used-requires : tie.Need-is_used-requires
is_used-requires c κs = search rules

lay_one-requires : tie.Need-lay_one-requires
lay_one-requires c κs = search rules

shape_of-words : tie.Need-shape_of-words
shape_of-words c = search rules

returns : tie.Need-returns
returns c =
    let l = c.before.before in
    let j = made l in
    let f = read j in
    λ s e ks p g b.
    let q : f.take-took.result.next.at ≡ p + 24 = omega (arith, f.take-took.ensures.2, g.next.place) in
    read_lays (overflow_read g) ks _ b e (omega arith) l.is_used.ensures refl
    (rw (j.join-word.ensures, ← f.take-took.ensures.0))
    q l.lay_one.ensures

pub lay_overflow_spec : {M : Type 1} → statement M
lay_overflow_spec =
    tie.close
    (tie.spec take-took-requires join-word-requires is_used-requires lay_one-requires shape_of-words returns)
