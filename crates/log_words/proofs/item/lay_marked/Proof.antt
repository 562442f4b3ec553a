use Rattle.log_read.specs.declared.Head.{Head}
use Rattle.log_read.specs.declared.Marked.{Marked}
use Rattle.log_read.specs.Cursor.{took_of}
use lib.Dec.{ltb}
use Rattle.log_words.proofs.Same.{marked_word, timed_words}
use Rattle.log_words.proofs.ByKind.{read_lays, tagged_lays, command_read, marked_read, timed_read}
use Rattle.log_read.specs.Fields.{marked_of}
use Rattle.format.specs.Word.{word_of}
use Rattle.format.specs.Laws.Bits.{length_bytes}
use Rattle.format.specs.Item.{sided}
use lib.Dec.{eqb}
use mathlib.Core.List.{[], ◌∷◌}
use mathlib.Core.Path.{◌≡◌, refl, ap}
use native.Mathlib.Omega.{arith}
use Prim.Native.Nat.{ℕ, ◌+◌, ◌*◌, ◌-◌}
use borrow.Author.Rules.{rules}
use Rattle.log_words.proofs.item.lay_marked.Statement.{statement}
use Rattle.log_words.proofs.item.lay_marked.Tie as tie

-- where the word was made, of one with a tag, with a response time, and without; where its fields were read; the function's entry
abbrev tagged : tie.After-lay_tagged → tie.After-is_1553-stands
tagged c = c.before.before.before.before.before.before.before

abbrev timed : tie.After-lay_timed → tie.After-is_1553-stands
timed c = c.before.before.before.before.before.before.before

abbrev plain : tie.After-lay_one → tie.After-is_1553-stands
plain c = c.before.before.before.before.before

abbrev read : tie.After-is_1553-stands → tie.After-marked-fields
read c = c.before.before.before.before

abbrev entry : tie.After-marked-fields → tie.Start
entry c = c.before.before.before.before

abbrev taken : tie.After-is_1553-stands → Head
taken c = (entry (read c)).args.head

-- the word of a command or a status, by its kind
word_is : (c : tie.After-is_1553-stands) → c.join-word.result
    ≡ word_of (taken c).bus (sided (16 - (taken c).kind) (eqb (marked_of (taken c).next).side 1)) (marked_of (taken c).next).word
word_is c =
    let m = (read c).marked-fields in
    marked_word (taken c).bus (16 - (taken c).kind) m.ensures.0 m.ensures.1 c.join-word.ensures

marked-fields-requires : tie.Need-marked-fields-requires
marked-fields-requires c κs = search rules

overflow_sub-head : tie.Need-overflow_sub-head
overflow_sub-head c = search rules

overflow_mul-fields : tie.Need-overflow_mul-fields
overflow_mul-fields c = search rules

overflow_sub-head-2 : tie.Need-overflow_sub-head-2
overflow_sub-head-2 c = search rules

join-word-requires : tie.Need-join-word-requires
join-word-requires c κs = search rules

is_1553-stands-requires : tie.Need-is_1553-stands-requires
is_1553-stands-requires c κs = search rules

lay_tagged-requires : tie.Need-lay_tagged-requires
lay_tagged-requires c κs = search rules

shape_of-words-then-head-eq1 : tie.Need-shape_of-words-then-head-eq1
shape_of-words-then-head-eq1 c = search rules

returns-then-head-eq1 : tie.Need-returns-then-head-eq1
returns-then-head-eq1 c =
    let l = c.before.before in
    let w = tagged l in
    let f = read w in
    let a = entry f in
    λ ks p g b.
    let q : f.marked-fields.result.next.at ≡ p + 26 = omega (arith, f.marked-fields.ensures.4, g.next.place) in
    let t = command_read g (rw f.marked-fields.ensures.0 at l.if-fields-eq1.true) a.args.head.kind l.if-head-eq1.true in
    tagged_lays t ks _ b (length_bytes a.args.log.now) (omega arith) (omega (arith, a.requires)) w.is_1553-stands.ensures (ap (λ (x : ℕ). x ∷ []) (word_is w)) q l.lay_tagged.ensures

overflow_mul-log : tie.Need-overflow_mul-log
overflow_mul-log c = search rules

lay_timed-requires : tie.Need-lay_timed-requires
lay_timed-requires c κs = search rules

shape_of-words-then-fields-eq1 : tie.Need-shape_of-words-then-fields-eq1
shape_of-words-then-fields-eq1 c = search rules

returns-then-fields-eq1 : tie.Need-returns-then-fields-eq1
returns-then-fields-eq1 c =
    let l = c.before.before in
    let w = timed l in
    let f = read w in
    let a = entry f in
    let m = f.marked-fields.ensures.0 in
    let k : a.args.head.kind ≡ 2 = omega (arith, l.if-head-eq1.false, a.requires) in
    λ ks p g b.
    let q : f.marked-fields.result.next.at + 14 ≡ p + 26 + 14 = omega (arith, f.marked-fields.ensures.4, g.next.place) in
    let t = timed_read g (rw m at l.if-fields-eq1.true) a.args.head.kind k in
    read_lays t ks _ b (length_bytes a.args.log.now) (omega arith) w.is_1553-stands.ensures
    (ap (λ (x : Marked). ltb (took_of x.next 14).field 10000) m) (timed_words a.args.head.bus m (word_is w)) q l.lay_timed.ensures

overflow_mul-log-2 : tie.Need-overflow_mul-log-2
overflow_mul-log-2 c = search rules

lay_one-requires : tie.Need-lay_one-requires
lay_one-requires c κs = search rules

shape_of-words : tie.Need-shape_of-words
shape_of-words c = search rules

returns : tie.Need-returns
returns c =
    let l = c.before.before in
    let w = plain l in
    let f = read w in
    λ ks p g b.
    let q : f.marked-fields.result.next.at ≡ p + 26 = omega (arith, f.marked-fields.ensures.4, g.next.place) in
    let a = entry f in
    let t = marked_read g a.args.head.kind a.requires.5 a.requires.6 (rw f.marked-fields.ensures.0 at l.if-fields-eq1.false) in
    read_lays t ks _ b (length_bytes a.args.log.now)
    (omega arith) w.is_1553-stands.ensures refl (ap (λ (x : ℕ). x ∷ []) (word_is w)) q l.lay_one.ensures

pub lay_marked_spec : {M : Type 1} → statement M
lay_marked_spec =
    tie.close
    (tie.spec
    marked-fields-requires
    overflow_sub-head
    overflow_mul-fields
    overflow_sub-head-2
    join-word-requires
    is_1553-stands-requires
    lay_tagged-requires
    shape_of-words-then-head-eq1
    returns-then-head-eq1
    overflow_mul-log
    lay_timed-requires
    shape_of-words-then-fields-eq1
    returns-then-fields-eq1
    overflow_mul-log-2
    lay_one-requires
    shape_of-words
    returns)
