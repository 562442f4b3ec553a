use Rattle.log_words.proofs.Same.{data_word}
use Rattle.log_words.proofs.ByKind.{read_lays, data_read}
use mathlib.Core.Path.{◌≡◌, refl, ap}
use native.Mathlib.Omega.{arith}
use Prim.Native.Nat.{◌+◌}
use borrow.Author.Rules.{rules}
use Rattle.log_words.proofs.item.lay_data.Statement.{statement}
use Rattle.log_words.proofs.item.lay_data.Tie as tie

-- where the word was laid and where its fields were read
abbrev made : tie.After-lay_one → tie.After-join-word
made c = c.before.before.before

abbrev read : tie.After-join-word → tie.After-sided-fields
read c = c.before.before

sided-fields-requires : tie.Need-sided-fields-requires
sided-fields-requires c κs = search rules

overflow_mul-fields : tie.Need-overflow_mul-fields
overflow_mul-fields c = search rules

overflow_sub-fields : tie.Need-overflow_sub-fields
overflow_sub-fields c = search rules

join-word-requires : tie.Need-join-word-requires
join-word-requires c κs = search rules

is_1553-requires : tie.Need-is_1553-requires
is_1553-requires c κs = search rules

lay_one-requires : tie.Need-lay_one-requires
lay_one-requires c κs = search rules

shape_of-words : tie.Need-shape_of-words
shape_of-words c = search rules

returns : tie.Need-returns
returns c =
    let l = c.before.before in
    let j = made l in
    let f = read j in
    λ s e ks p g b.
    let q : f.sided-fields.result.next.at ≡ p + 25 = omega (arith, f.sided-fields.ensures.3, g.next.place) in
    read_lays (data_read g) ks _ b e (omega arith) l.is_1553.ensures refl
    (data_word f.args.head.bus f.sided-fields.ensures.0 f.sided-fields.ensures.1 j.join-word.ensures)
    q l.lay_one.ensures

pub lay_data_spec : {M : Type 1} → statement M
lay_data_spec =
    tie.close
    (tie.spec
    sided-fields-requires
    overflow_mul-fields
    overflow_sub-fields
    join-word-requires
    is_1553-requires
    lay_one-requires
    shape_of-words
    returns)
