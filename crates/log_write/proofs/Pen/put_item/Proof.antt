use Prim.Native.Nat.{◌+◌}
use mathlib.Core.Path.{◌≡◌, ap, ◌∙◌}
use Rattle.log_write.specs.declared.Pen.{Pen}
use native.Mathlib.Omega.{arith}
use Rattle.log_write.specs.Pen.{item_put, item_in}
use Rattle.log_write.proofs.Packing.{Says, says}
use Rattle.log_write.proofs.Writing.{put_bits}
use borrow.Author.Rules.{rules}
use Rattle.log_write.proofs.Pen.put_item.Statement.{statement}
use Rattle.log_write.proofs.Pen.put_item.Tie as tie
use Rattle.log_write.proofs.Pen.put_item.Reads as reads
use Rattle.log_write.proofs.Pen.put_item.Lts as lts
use Rattle.log_write.proofs.numbers.item_bits.Reads as item-bits-reads
use Rattle.log_write.proofs.Pen.put.Reads as put_reads

-- the item as numbers
abbrev Packed-item : Type 0
Packed-item = tie.After-item_bits-p

abbrev start : Packed-item → tie.Start
start c = c.before.before

told : (c : Packed-item) → Says (start c).args.item c.item_bits-p.result
told c = says (start c).args.item c.item_bits-p.result c.item_bits-p.ensures

-- its first number is put
abbrev numbers : tie.After-put-pen → Packed-item
numbers c = c.before.before

first_put : (c : tie.After-put-pen) → c.put-pen.result.bits ≡ (start (numbers c)).args.self.bits + (numbers c).item_bits-p.result.first_bits
first_put c =
    let p = numbers c in
    let x = p.item_bits-p.result in
    ap (λ (q : Pen). q.bits) c.put-pen.ensures.0 ∙ put_bits (start p).args.self x.first x.first_bits (omega (arith, (told p).first_few)) (told p).first_low

item_bits-p-requires : tie.Need-item_bits-p-requires
item_bits-p-requires c κs = search rules

put-pen-requires : tie.Need-put-pen-requires
put-pen-requires c κs =
    let p = c.before in
    (omega (arith, (start p).requires), omega (arith, (told p).first_few), (told p).first_low)

put-requires : tie.Need-put-requires
put-requires c κs =
    let f = c.before.before.before in
    let p = numbers f in
    (omega (arith, first_put f, (told p).first_few, (start p).requires), omega (arith, (told p).behind_few), (told p).behind_low)

shape_of-out : tie.Need-shape_of-out
shape_of-out c = search rules

returns : tie.Need-returns
unfolding item_put item_in
returns c =
    let g = c.before.before in
    let f = g.before.before.before.before in
    let p = numbers f in (
      rw (← p.item_bits-p.ensures, ← f.put-pen.ensures.0) g.put.ensures.0,
      rw (← p.item_bits-p.ensures, ← f.put-pen.ensures.0, ← f.put-pen.ensures.1) g.put.ensures.1,
    )

pub put_item_spec : {M : Type 1} → statement M
put_item_spec =
    tie.close (tie.spec item_bits-p-requires put-pen-requires put-requires shape_of-out returns)
