use Rattle.log_edit.proofs.Later.{less, placed, placed_all, placed_more}
use Rattle.log_edit.specs.Join.{both_bytes, pair_of}
use Rattle.format.specs.Laws.Front.{Front, front_long, front_more}
use Prim.Native.Nat.{ℕ, ◌+◌, ◌-◌, ◌/◌, ◌%◌, ◌^◌, ◌<◌}
use lib.ListN.{length, take, get_or}
use borrow.Rule.Slice.PartMut.{put_mid}
use mathlib.Core.List.{◌++◌, ◌∷◌, []}
use mathlib.Core.List.{append_assoc}
use mathlib.Core.Path.{◌≡◌, ap, refl, sym, ◌∙◌}
use native.Mathlib.Omega.{arith}
use native.Mathlib.Nat.{div-le_self}
use borrow.Author.Rules.{rules}
use Rattle.log_edit.proofs.put_both.Statement.{statement}
use Rattle.log_edit.proofs.put_both.Tie as tie
use Rattle.log_edit.proofs.put_both.Reads as reads
use Rattle.log_edit.proofs.put_both.Lts as lts
use Rattle.log_close.proofs.copy.Reads as copy-reads
use Rattle.log_edit.proofs.pair.Reads as Pair-reads
use Rattle.log_edit.proofs.put_later.Reads as put-later-reads

overflow_cast-shift : tie.Need-overflow_cast-shift
overflow_cast-shift c = search rules

copy-requires : tie.Need-copy-requires
copy-requires c κs = search rules

bounds-first-whole : tie.Need-bounds-first-whole
bounds-first-whole c = search rules

overflow_cast-before : tie.Need-overflow_cast-before
overflow_cast-before c = omega (arith, c.shared_slice_known-3-1.given (c.args.one / 8))

overflow_sub-before : tie.Need-overflow_sub-before
overflow_sub-before c = search rules

overflow_shr-before : tie.Need-overflow_shr-before
overflow_shr-before c = search rules

overflow_cast-before-2 : tie.Need-overflow_cast-before-2
overflow_cast-before-2 c = let x = get_or c.args.first.now
    (c.args.one / 8) 0 in omega (
      arith,
      c.shared_slice_known-3-1.given
          (c.args.one / 8),
      div-le_self x (2 ^
          (8 - c.args.one % 8)),
    )

slice_bounds-put_later-count : tie.Need-slice_bounds-put_later-count
slice_bounds-put_later-count c = search rules

slice_bounds-put_later-start : tie.Need-slice_bounds-put_later-start
slice_bounds-put_later-start c = search rules

slice_bounds-put_later-end : tie.Need-slice_bounds-put_later-end
slice_bounds-put_later-end c = search rules

put_later-last-requires : tie.Need-put_later-last-requires
put_later-last-requires c κs = search rules

overflow_add-far : tie.Need-overflow_add-far
overflow_add-far c = search rules

shape_of-out-then-far-bytes : tie.Need-shape_of-out-then-far-bytes
shape_of-out-then-far-bytes c = search rules

-- the second log's bytes behind the first's
abbrev whole_of : tie.After-put_later-last → ℕ
whole_of c = c.args.one / 8

placed_here : (c : tie.After-put_later-last)
    → Front (take (whole_of c) c.args.first.now ++ c.put_later-last.ensures.done)
    c.args.out.now
    (put_mid (whole_of c) (length c.copy.new.to - whole_of c) c.copy.new.to
    c.put_later-last.new.out) (whole_of c + length c.args.second.now)
placed_here c =
    let a = c.args in
    let q = c.requires in
    placed a.first.now a.second.now a.out.now _ _ (whole_of c) _ _ _ _ c.copy.ensures (omega (arith, q.0))
    (omega (arith, q.1, q.3)) refl c.put_later-last.ensures

both_here : (c : tie.After-put_later-last)
    → both_bytes c.args.one
    c.args.first.now
    c.args.second.now
    ≡ (take (whole_of c) c.args.first.now ++ c.put_later-last.ensures.done) ++
    pair_of (c.args.one % 8) c.put_later-last.result 0 ∷ []
both_here c =
    let w = take (whole_of c) c.args.first.now in
    let g = c.put_later-last.ensures in
    ap (◌++◌ w) g.rest ∙ sym (append_assoc w g.done (pair_of
    (c.args.one % 8) c.put_later-last.result 0 ∷ []))

last_fits : (c : tie.After-pair) → whole_of c.before.before.before.before + length
    c.args.second.now < length
    c.args.out.now
last_fits c = let q = c.requires in omega
    (arith, less _ _ q.1 c.if-far-bytes.false, q.3)

returns-then-far-bytes : tie.Need-returns-then-far-bytes
returns-then-far-bytes c = placed_all (placed_here c.before.before.before) _ _ (both_here c.before.before.before) _ c.if-far-bytes.true

pair-requires : tie.Need-pair-requires
pair-requires c κs = search rules

bounds-out-far : tie.Need-bounds-out-far
bounds-out-far c = search rules

shape_of-out : tie.Need-shape_of-out
shape_of-out c = front_long (front_more c.pair.result (placed_here c.before.before.before.before) (last_fits c))

returns : tie.Need-returns
returns c = let q = c.requires in
    rw c.pair.ensures (placed_more (placed_here c.before.before.before.before) _ _ (both_here c.before.before.before.before)
    c.args.bytes (last_fits c) (omega
    (arith, less _ _ q.1 c.if-far-bytes.false, q.2)))

pub put_both_spec : {M : Type 1} → statement M
put_both_spec =
    tie.close
    (tie.spec
    overflow_cast-shift
    copy-requires
    bounds-first-whole
    overflow_cast-before
    overflow_sub-before
    overflow_shr-before
    overflow_cast-before-2
    slice_bounds-put_later-count
    slice_bounds-put_later-start
    slice_bounds-put_later-end
    put_later-last-requires
    overflow_add-far
    shape_of-out-then-far-bytes
    returns-then-far-bytes
    pair-requires
    bounds-out-far
    shape_of-out
    returns)
