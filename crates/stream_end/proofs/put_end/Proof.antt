use native.Mathlib.Omega.{arith}
use mathlib.Core.Path.{◌≡◌, refl, ap, ap₂, ◌∙◌}
use mathlib.Core.List.{List, []}
use Prim.Native.Nat.{ℕ, ◌≤◌}
use lib.ListN.{length, replicate}
use Rattle.data_put.specs.Put.{step_out, step_pen}
use Rattle.log_write.specs.Pen.{closed_in, closed_size}
use Rattle.stream_end.specs.End.{Last}
use Rattle.stream_end.proofs.Closing.{few_bits, last_put, last_size, out_long}
use borrow.Author.Rules.{rules}
use Rattle.stream_end.proofs.put_end.Statement.{statement}
use Rattle.stream_end.proofs.put_end.Tie as tie
use Rattle.stream_end.proofs.put_end.Reads as reads
use Rattle.stream_end.proofs.put_end.Lts as lts
use Rattle.data_put.proofs.put_step.Reads as put-step-reads
use Rattle.log_close.proofs.copy.Reads as copy-reads
use Rattle.log_write.proofs.Pen.close.Reads as close-reads

-- ---- the places

-- the item is put
abbrev Put : Type 0
Put = tie.After-put_step-last

abbrev start : Put → tie.Start
start k = k.before.before.before

abbrev last : (s : tie.Start) → Last s.args.pen s.args.step
last s = s.requires.0

-- the end mark too
abbrev Closed : Type 0
Closed = tie.After-close-bytes

abbrev put : Closed → Put
put e = e.before.before.before

abbrev from : Closed → tie.Start
from e = start (put e)

size : (e : Closed) → e.close-bytes.result ≡ closed_size (step_pen (from e).args.pen (from e).args.step)
size e = e.close-bytes.ensures.0 ∙ ap closed_size (put e).put_step-last.ensures.0

few : (e : Closed) → e.close-bytes.result ≤ 7
few e =
    let s = from e in
    let l = last s in
    omega (arith, size e, last_size s.args.pen l.bits s.args.step l.items l.brings [], l.few)

built : (e : Closed) → e.close-bytes.new.out ≡ closed_in (step_out (replicate 16 0) (from e).args.pen (from e).args.step) (step_pen (from e).args.pen (from e).args.step)
built e = e.close-bytes.ensures.1 ∙ ap₂ closed_in (put e).put_step-last.ensures.1 (put e).put_step-last.ensures.0

long : (e : Closed) → length e.close-bytes.new.out ≡ 16
long e =
    let s = from e in
    let l = last s in
    ap (λ (u : List ℕ). length u) (built e) ∙ out_long s.args.pen l.bits s.args.step l.items l.brings (replicate 16 0)

-- ---- the needs

slice_bounds-put_step-end : tie.Need-slice_bounds-put_step-end
slice_bounds-put_step-end c = search rules

put_step-last-requires : tie.Need-put_step-last-requires
put_step-last-requires c κs = search rules

slice_bounds-close-end : tie.Need-slice_bounds-close-end
slice_bounds-close-end c = search rules

close-bytes-requires : tie.Need-close-bytes-requires
close-bytes-requires c κs =
    let k = c.before.before in
    let s = start k in
    let l = last s in
    rw k.put_step-last.ensures.0 (omega (arith, few_bits s.args.pen l.bits s.args.step l.items l.brings []))

slice_bounds-copy-end : tie.Need-slice_bounds-copy-end
slice_bounds-copy-end c = search rules

copy-requires : tie.Need-copy-requires
copy-requires c κs = let e = c.before.before.before in (omega (arith, few e, (from e).requires.1), omega (arith, few e, long e))

shape_of-log : tie.Need-shape_of-log
shape_of-log c = search rules

returns : tie.Need-returns
returns c =
    let e = c.before.before.before.before.before.before in
    let s = from e in
    λ is b. last_put s.args.pen (last s).bits s.args.step is b (replicate 16 0) s.args.log.now refl (built e) (size e) (few e) refl c.copy.ensures

pub put_end_spec : {M : Type 1} → statement M
put_end_spec =
    tie.close
    (tie.spec
    slice_bounds-put_step-end
    put_step-last-requires
    slice_bounds-close-end
    close-bytes-requires
    slice_bounds-copy-end
    copy-requires
    shape_of-log
    returns)
