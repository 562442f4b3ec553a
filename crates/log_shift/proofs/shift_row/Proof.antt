use Prim.Native.Nat.{ℕ, ◌+◌, ◌≤◌}
use mathlib.Core.List.{List}
use lib.IntN.{ℤ}
use lib.ListN.{length}
use Rattle.format.specs.Group.{none, found}
use Rattle.from_c.specs.Numbers.{times_from}
use Rattle.log_rules.specs.Shift.{first_unmoved}
use Rattle.log_shift.specs.Shifted.{Moves, first_unmovable}
use Rattle.log_shift.proofs.Shifting.{row_all, row_beyond, row_late, row_short}
use Rattle.log_shift.proofs.Row.{row_clear, row_fault}
use mir.Facts.{to_z-of_z}
use mathlib.Core.Path.{◌≡◌, refl, ap, sym, ◌∙◌}
use native.Mathlib.Omega.{arith}
use borrow.Author.Rules.{rules}
use Rattle.log_shift.proofs.shift_row.Statement.{statement}
use Rattle.log_shift.proofs.shift_row.Tie as tie
use Rattle.log_shift.proofs.shift_row.Reads as reads
use Rattle.log_shift.proofs.shift_row.Lts as lts
use Rattle.log_close.proofs.copy.Reads as copy-reads
use Rattle.log_close.proofs.refusal.Reads as refusal-reads
use Rattle.log_shift.proofs.first_unmovable.Reads as first-unmovable-reads
use Rattle.log_shift.proofs.move_times.Reads as move-times-reads
use Rattle.log_write.proofs.Pen.close.Reads as close-reads

-- ---- the places

-- the times are looked through
abbrev Looked : Type 0
Looked = tie.After-first_unmovable-late

abbrev start : Looked → tie.Start
start c = c.before.before.before.before

abbrev by : Looked → ℤ
by c = (start c).args.by

abbrev times : Looked → List ℕ
times c = (start c).args.times.now

first_is : (c : Looked) → c.first_unmovable-late.result ≡ first_unmovable (by c) (times_from (times c))
first_is c = rw (to_z-of_z (start c).ranges.by) at c.first_unmovable-late.ensures

late : (c : tie.Then-late-number) → let l = c.before in first_unmoved (by l) 0 (times_from (times l)) ≡ found 17 l.first_unmovable-late.result
late c =
    let l = c.before in
    row_fault (by l) (times l) (rw (first_is l) at c.if-late-number.true) ∙ ap (found 17) (sym (first_is l))

clear : (c : tie.Else-late-number) → let l = c.before in (first_unmoved (by l) 0 (times_from (times l)) ≡ none) × Moves (by l) (times l)
clear c = let l = c.before in row_clear (by l) (times l) (rw (first_is l) at c.if-late-number.false)

-- the log is closed
abbrev Closed : Type 0
Closed = tie.After-slice_known-4-1

abbrev close : Closed → tie.After-close-bytes
close c = c.before.before

abbrev movable : Closed → tie.Else-late-number
movable c = (close c).before.before

abbrev looked : Closed → Looked
looked c = (movable c).before

-- and is not too long
room : (c : tie.Else-bytes-gt32768) → (close c.before).close-bytes.result + 7 ≤ length (start (looked c.before)).args.built.now
room c = let k = c.before in (rw (← (close k).close-bytes.ensures.0) at (start (looked k)).requires.1.1) c.if-bytes-gt32768.false

-- it is copied
abbrev fits_out : tie.After-copy → tie.Else-out-bytes
fits_out c = c.before.before

-- ---- the needs

first_unmovable-late-requires : tie.Need-first_unmovable-late-requires
first_unmovable-late-requires c κs = let s = c.before.before.before in rw (to_z-of_z s.ranges.by) s.requires.0

refusal-requires : tie.Need-refusal-requires
refusal-requires c κs = search rules

shape_of-times-then-late-number : tie.Need-shape_of-times-then-late-number
shape_of-times-then-late-number c = search rules

returns-then-late-number : tie.Need-returns-then-late-number
returns-then-late-number c =
    let l = c.before.before in
    λ is w. row_late (by l) is _ _ w (times l) _ _ _ _ (late c.before) c.refusal.ensures

close-bytes-requires : tie.Need-close-bytes-requires
close-bytes-requires c κs = omega (arith, (start c.before.before).requires.1.0)

refusal-requires-then-bytes-gt32768 : tie.Need-refusal-requires-then-bytes-gt32768
refusal-requires-then-bytes-gt32768 c κs = search rules

shape_of-times-then-bytes-gt32768 : tie.Need-shape_of-times-then-bytes-gt32768
shape_of-times-then-bytes-gt32768 c = search rules

shape_of-built-then-bytes-gt32768 : tie.Need-shape_of-built-then-bytes-gt32768
shape_of-built-then-bytes-gt32768 c = search rules

returns-then-bytes-gt32768 : tie.Need-returns-then-bytes-gt32768
returns-then-bytes-gt32768 c =
    let t = c.before in
    let k = t.before in
    let l = looked k in
    λ is w. row_beyond (by l) is _ _ w (times l) (clear (movable k)).0 _ (close k).close-bytes.ensures.0 _ _ _ t.if-bytes-gt32768.true c.refusal-then-bytes-gt32768.ensures

refusal-requires-then-out-bytes : tie.Need-refusal-requires-then-out-bytes
refusal-requires-then-out-bytes c κs = search rules

shape_of-times-then-out-bytes : tie.Need-shape_of-times-then-out-bytes
shape_of-times-then-out-bytes c = search rules

shape_of-built-then-out-bytes : tie.Need-shape_of-built-then-out-bytes
shape_of-built-then-out-bytes c = search rules

returns-then-out-bytes : tie.Need-returns-then-out-bytes
returns-then-out-bytes c =
    let t = c.before in
    let e = t.before in
    let k = e.before in
    let l = looked k in
    λ is w. row_short (by l) is _ _ w (times l) (clear (movable k)).0 _ (close k).close-bytes.ensures.0 _ _ _ e.if-bytes-gt32768.false t.if-out-bytes.true c.refusal-then-out-bytes.ensures

copy-requires : tie.Need-copy-requires
copy-requires c κs =
    let e = c.before in
    (e.if-out-bytes.false, omega (arith, room e.before, e.built-1.given))

move_times-requires : tie.Need-move_times-requires
move_times-requires c κs =
    let k = (fits_out c.before.before.before).before.before in
    let s = start (looked k) in
    (rw (to_z-of_z s.ranges.by) s.requires.0, rw (to_z-of_z s.ranges.by) (clear (movable k)).1)

shape_of-times : tie.Need-shape_of-times
shape_of-times c = search rules

shape_of-out : tie.Need-shape_of-out
shape_of-out c = search rules

shape_of-built : tie.Need-shape_of-built
shape_of-built c = search rules

returns : tie.Need-returns
returns c =
    let m = c.before.before in
    let y = m.before.before.before.before in
    let f = fits_out y in
    let e = f.before in
    let k = e.before in
    let l = looked k in
    let ended = (close k).close-bytes.ensures in
    let moved = rw (to_z-of_z (start l).ranges.by) at m.move_times.ensures in
    λ is w.
    row_all (by l) is _ _ w (times l) (clear (movable k)).0 _ ended.0 _ _ _ _ _ ended.1 e.if-bytes-gt32768.false f.if-out-bytes.false (room e) y.copy.ensures refl moved

pub shift_row_spec : {M : Type 1} → statement M
shift_row_spec =
    tie.close
    (tie.spec
    first_unmovable-late-requires
    refusal-requires
    shape_of-times-then-late-number
    returns-then-late-number
    close-bytes-requires
    refusal-requires-then-bytes-gt32768
    shape_of-times-then-bytes-gt32768
    shape_of-built-then-bytes-gt32768
    returns-then-bytes-gt32768
    refusal-requires-then-out-bytes
    shape_of-times-then-out-bytes
    shape_of-built-then-out-bytes
    returns-then-out-bytes
    copy-requires
    move_times-requires
    shape_of-times
    shape_of-out
    shape_of-built
    returns)
