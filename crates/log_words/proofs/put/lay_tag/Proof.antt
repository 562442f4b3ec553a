use Rattle.log_words.proofs.Same.{puts_same, tag_words}
use Rattle.log_words.proofs.Row.{puts_more}
use Rattle.log_words.specs.Laid.{timely, late}
use Rattle.log_read.proofs.Table.{tagged_read}
use Rattle.log_read.proofs.Eight.{tag_ahead}
use Rattle.log_read.specs.declared.Tagged.{Tagged}
use Rattle.log_read.specs.Found.{time_at}
use Rattle.format.specs.declared.Time.{Time}
use Rattle.format.specs.declared.Tag.TheVariants.{At}
use Rattle.format.specs.Laws.Bits.{length_bytes}
use Rattle.format.specs.Item.{tag_in_time}
use Rattle.format.specs.Bits.{bytes_bits}
use lib.ListN.{length}
use borrow.Author.Tests.{lt-ltb, le-ltb}
use mathlib.Core.Path.{◌≡◌, refl, ap, sym, ◌∙◌}
use native.Mathlib.Omega.{arith}
use Prim.Native.Nat.{◌+◌, ◌≤◌}
use borrow.Author.Rules.{rules}
use Rattle.log_words.proofs.put.lay_tag.Statement.{statement}
use Rattle.log_words.proofs.put.lay_tag.Tie as tie

-- the words put before the last one, where the tag was read, and the function's entry
abbrev second : tie.After-put-micro → tie.After-put-low
second c = c.before.before.before.before.before

abbrev first : tie.After-put-low → tie.After-put-high
first c = c.before.before.before.before.before

abbrev read : tie.After-put-high → tie.After-tagged-tag
read c = c.before.before.before.before.before

abbrev entry : tie.After-tagged-tag → tie.Start
entry c = c.before.before.before.before

-- the tag that was read is the one at the bit
time_is : (c : tie.After-tagged-tag) → time_at (bytes_bits (entry c).args.log.now) (entry c).args.at.at
    ≡ record { high = c.tagged-tag.result.high; low = c.tagged-tag.result.low; micro = c.tagged-tag.result.micro }
time_is c =
    let a = entry c in
    tagged_read (tag_ahead a.args.log.now _ (omega (arith, a.requires)) c.tag_filled.ensures.0) (omega arith) (omega arith)
    (omega (arith, a.requires, length_bytes a.args.log.now))
    ∙ ap (λ (t : Tagged). record { high = t.high; low = t.low; micro = t.micro }) (sym c.tagged-tag.ensures.0)

tag_filled-requires : tie.Need-tag_filled-requires
tag_filled-requires c κs = search rules

tagged-tag-requires : tie.Need-tagged-tag-requires
tagged-tag-requires c κs = search rules

join-requires : tie.Need-join-requires
join-requires c κs = search rules

put-high-requires : tie.Need-put-high-requires
put-high-requires c κs = search rules

join-requires-then-tag-lt10000 : tie.Need-join-requires-then-tag-lt10000
join-requires-then-tag-lt10000 c κs = search rules

put-low-requires : tie.Need-put-low-requires
put-low-requires c κs = search rules

join-requires-then-tag-lt10000-2 : tie.Need-join-requires-then-tag-lt10000-2
join-requires-then-tag-lt10000-2 c κs = search rules

put-micro-requires : tie.Need-put-micro-requires
put-micro-requires c κs = search rules

shape_of-words-then-tag-lt10000 : tie.Need-shape_of-words-then-tag-lt10000
shape_of-words-then-tag-lt10000 c = search rules

returns-then-tag-lt10000 : tie.Need-returns-then-tag-lt10000
returns-then-tag-lt10000 c =
    let three = c.before.before in
    let two = second three in
    let one = first two in
    let t = read one in
    let a = entry t in
    let e = time_is t in
    let room : a.args.count + 1 ≤ length a.args.words.now = omega (arith, a.requires) in
    let more : a.args.count + 2 ≤ length a.args.words.now = omega (arith, a.requires) in
    timely (ap (λ (m : Time). tag_in_time (At m)) e ∙ lt-ltb _ 10000 one.if-tag-lt10000.true) refl (omega (arith, t.tagged-tag.ensures.4, t.tag_filled.ensures.1))
    (puts_same (tag_words a.args.bus e one.join.ensures two.join-then-tag-lt10000.ensures three.join-then-tag-lt10000-2.ensures)
    (puts_more (puts_more one.put-high.ensures two.put-low.ensures room) three.put-micro.ensures more))

fault-requires : tie.Need-fault-requires
fault-requires c κs = search rules

returns : tie.Need-returns
returns c =
    let t = c.before.before.before in
    late (ap (λ (m : Time). tag_in_time (At m)) (time_is t) ∙ le-ltb _ 10000 c.if-tag-lt10000.false) c.fault.ensures refl

pub lay_tag_spec : {M : Type 1} → statement M
lay_tag_spec =
    tie.close
    (tie.spec
    tag_filled-requires
    tagged-tag-requires
    join-requires
    put-high-requires
    join-requires-then-tag-lt10000
    put-low-requires
    join-requires-then-tag-lt10000-2
    put-micro-requires
    shape_of-words-then-tag-lt10000
    returns-then-tag-lt10000
    fault-requires
    returns)
