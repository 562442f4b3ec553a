use Rattle.log_words.proofs.Same.{notice_word}
use Rattle.log_words.proofs.ByKind.{read_lays, notice_read}
use mathlib.Core.Path.{◌≡◌, refl, ap}
use native.Mathlib.Omega.{arith}
use Prim.Native.Nat.{◌+◌}
use borrow.Author.Rules.{rules}
use Rattle.log_words.proofs.item.lay_notice.Statement.{statement}
use Rattle.log_words.proofs.item.lay_notice.Tie as tie

-- where the word was laid and where its fields were read
abbrev made : tie.After-lay_one → tie.After-join-word
made c = c.before.before.before

abbrev read : tie.After-join-word → tie.After-noticed-fields
read c = c.before.before.before.before

noticed-fields-requires : tie.Need-noticed-fields-requires
noticed-fields-requires c κs = search rules

high_label-requires : tie.Need-high_label-requires
high_label-requires c κs = search rules

overflow_mul-information : tie.Need-overflow_mul-information
overflow_mul-information c = search rules

low_label-requires : tie.Need-low_label-requires
low_label-requires c κs = search rules

overflow_mul-information-2 : tie.Need-overflow_mul-information-2
overflow_mul-information-2 c = search rules

overflow_add-information : tie.Need-overflow_add-information
overflow_add-information c = search rules

overflow_add-information-2 : tie.Need-overflow_add-information-2
overflow_add-information-2 c = search rules

join-word-requires : tie.Need-join-word-requires
join-word-requires c κs = search rules

is_arinc-requires : tie.Need-is_arinc-requires
is_arinc-requires c κs = search rules

lay_one-requires : tie.Need-lay_one-requires
lay_one-requires c κs = search rules

shape_of-words : tie.Need-shape_of-words
shape_of-words c = search rules

returns : tie.Need-returns
returns c =
    let l = c.before.before in
    let j = made l in
    let f = read j in
    let hi = j.high_label in
    let lo = j.low_label in
    λ s e ks p g b.
    let q : f.noticed-fields.result.next.at ≡ p + 18 = omega (arith, f.noticed-fields.ensures.3, g.next.place) in
    read_lays (notice_read g) ks _ b e (omega arith) l.is_arinc.ensures refl
    (notice_word f.args.head.bus hi.result lo.result f.noticed-fields.ensures.0 hi.ensures lo.ensures j.join-word.ensures)
    q l.lay_one.ensures

pub lay_notice_spec : {M : Type 1} → statement M
lay_notice_spec =
    tie.close
    (tie.spec
    noticed-fields-requires
    high_label-requires
    overflow_mul-information
    low_label-requires
    overflow_mul-information-2
    overflow_add-information
    overflow_add-information-2
    join-word-requires
    is_arinc-requires
    lay_one-requires
    shape_of-words
    returns)
