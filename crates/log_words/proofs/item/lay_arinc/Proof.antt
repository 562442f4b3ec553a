use Rattle.log_words.proofs.Same.{pair_words}
use Rattle.log_words.proofs.ByKind.{read_lays, tagged_lays, pair_read, pair_tagged_read}
use Rattle.log_words.specs.Laid.{syllables}
use Rattle.format.specs.Laws.Bits.{length_bytes}
use mathlib.Core.Path.{◌≡◌, refl, ap}
use native.Mathlib.Omega.{arith}
use Prim.Native.Nat.{◌+◌, ◌*◌}
use borrow.Author.Rules.{rules}
use Rattle.log_words.proofs.item.lay_arinc.Statement.{statement}
use Rattle.log_words.proofs.item.lay_arinc.Tie as tie

-- where the fields were read, of a word with a tag and of one without
abbrev tagged : tie.After-lay_pair_tagged → tie.After-channelled-fields
tagged c = c.before.before.before.before.before

abbrev plain : tie.After-lay_pair → tie.After-channelled-fields
plain c = c.before.before.before.before.before

abbrev entry : tie.After-channelled-fields → tie.Start
entry c = c.before.before.before.before

channelled-fields-requires : tie.Need-channelled-fields-requires
channelled-fields-requires c κs = search rules

is_arinc-requires : tie.Need-is_arinc-requires
is_arinc-requires c κs = search rules

lay_pair_tagged-requires : tie.Need-lay_pair_tagged-requires
lay_pair_tagged-requires c κs = search rules

shape_of-words-then-fields-eq1 : tie.Need-shape_of-words-then-fields-eq1
shape_of-words-then-fields-eq1 c = search rules

returns-then-fields-eq1 : tie.Need-returns-then-fields-eq1
returns-then-fields-eq1 c =
    let l = c.before.before in
    let f = tagged l in
    λ ks p g b.
    let q : f.channelled-fields.result.next.at ≡ p + 43 = omega (arith, f.channelled-fields.ensures.3, g.next.place) in
    tagged_lays (pair_tagged_read g (rw f.channelled-fields.ensures.0 at l.if-fields-eq1.true)) ks _ b (length_bytes (entry f).args.log.now)
    (omega arith) (omega (arith, (entry f).requires)) l.is_arinc.ensures (pair_words (entry f).args.head.bus f.channelled-fields.ensures.0) q l.lay_pair_tagged.ensures

is_arinc-requires-2 : tie.Need-is_arinc-requires-2
is_arinc-requires-2 c κs = search rules

overflow_mul-log : tie.Need-overflow_mul-log
overflow_mul-log c = search rules

lay_pair-requires : tie.Need-lay_pair-requires
lay_pair-requires c κs = search rules

shape_of-words : tie.Need-shape_of-words
shape_of-words c = search rules

returns : tie.Need-returns
returns c =
    let l = c.before.before in
    let f = plain l in
    λ ks p g b.
    let q : f.channelled-fields.result.next.at ≡ p + 43 = omega (arith, f.channelled-fields.ensures.3, g.next.place) in
    read_lays (pair_read g (rw f.channelled-fields.ensures.0 at l.if-fields-eq1.false)) ks _ b (length_bytes (entry f).args.log.now)
    (omega arith) l.is_arinc-2.ensures refl (pair_words (entry f).args.head.bus f.channelled-fields.ensures.0) q l.lay_pair.ensures

pub lay_arinc_spec : {M : Type 1} → statement M
lay_arinc_spec =
    tie.close
    (tie.spec
    channelled-fields-requires
    is_arinc-requires
    lay_pair_tagged-requires
    shape_of-words-then-fields-eq1
    returns-then-fields-eq1
    is_arinc-requires-2
    overflow_mul-log
    lay_pair-requires
    shape_of-words
    returns)
