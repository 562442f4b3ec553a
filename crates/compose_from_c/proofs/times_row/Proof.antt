use borrow.Author.Rules.{rules}
use Rattle.compose_from_c.proofs.Ragged.{put_eights, put_many, put_ragged}
use Rattle.compose_from_c.proofs.times_row.Statement.{statement}
use Rattle.compose_from_c.proofs.times_row.Tie as tie

returns-then-times-ne0 : tie.Need-returns-then-times-ne0
returns-then-times-ne0 c = let s = c.before.before.before in put_ragged s.args.times.now s.args.row.now s.requires c.if-times-ne0.true

returns-then-times-gt1008 : tie.Need-returns-then-times-gt1008
returns-then-times-gt1008 c = let s = c.before.before.before.before in put_many s.args.times.now s.args.row.now s.requires c.if-times-gt1008.true

times_from-requires : tie.Need-times_from-requires
times_from-requires c κs = search rules

shape_of-row : tie.Need-shape_of-row
shape_of-row c = search rules

returns : tie.Need-returns
returns c =
    let f = c.before.before in
    let k = f.before.before in
    let s = k.before.before.before.before in
    put_eights s.args.times.now s.args.row.now s.requires k.if-times-ne0.false k.if-times-gt1008.false f.times_from.ensures

pub times_row_spec : {M : Type 1} → statement M
times_row_spec = tie.close (tie.spec returns-then-times-ne0 returns-then-times-gt1008 times_from-requires shape_of-row returns)
