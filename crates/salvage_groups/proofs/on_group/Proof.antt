use borrow.Author.Rules.{rules}
use Rattle.salvage_groups.proofs.Turns.{dropped_sound, index_few, kept_few, numbers_upto, reel_dropped, reel_kept, time_is}
use Rattle.salvage_run.proofs.Sounds.{low_more}
use Rattle.capture_parts.proofs.Part.{dealt_found, dealt_none, dealt_words, part_long}
use Rattle.format.specs.Laws.Limits.{Shape, group_most, most_group_words}
use Rattle.format.specs.Plan.{group_words, slots}
use lib.ListN.{length}
use mathlib.Core.Path.{◌≡◌, sym, ap, subst, ◌∙◌}
use native.Mathlib.Omega.{arith}
use Prim.Native.Nat.{◌+◌, ◌*◌, ◌^◌, ◌≤◌}
use Rattle.salvage_run.specs.Tape.{Sound}
use Rattle.capture_parts.proofs.Part.{dealt_all, part_of}
use Rattle.group_read.proofs.Answers.{words_length, words_low}
use Rattle.format.specs.Laws.Reader.Slots.{words_in}
use Rattle.format.specs.Laws.Limits.{lead_few, slots_most}
use Rattle.format.specs.Group.{none, group_fault, group_slots, group_time}
use lib.ListN.{take, drop, get_or}
use mathlib.Core.Path.{ap₂}
use mathlib.Core.List.{List}
use Prim.Native.Nat.{ℕ, ◌-◌, ◌<◌}
use Rattle.salvage_groups.proofs.on_group.Statement.{statement}
use Rattle.salvage_groups.proofs.on_group.Tie as tie
use Rattle.salvage_groups.proofs.on_group.Reads as reads
use Rattle.salvage_groups.proofs.on_group.Lts as lts
use Rattle.group_read.proofs.deal.Reads as deal-reads
use Rattle.group_read.proofs.lead.Reads as lead-reads
use Rattle.salvage_groups.proofs.keep_time.Reads as keep-time-reads
use Rattle.salvage_run.proofs.drop_group.Reads as drop-group-reads
use Rattle.salvage_run.proofs.on_row.Reads as on-row-reads

shape : (s : tie.Start) → Shape s.args.plan
shape s = s.requires.0.0

size : (s : tie.Start) → group_words s.args.plan ≤ most_group_words
size s = group_most s.args.plan (shape s)

-- the group is within the capture
room : (s : tie.Start) → s.args.index * (3 * group_words s.args.plan) + 3 * group_words s.args.plan ≤ length s.args.capture.now
room s = s.requires.1.0

few : (s : tie.Start) → length s.args.capture.now ≤ 1048576
few s = s.requires.1.1

numbers : (s : tie.Start) → (s.args.index + 1) * slots s.args.plan ≤ 349525
numbers s = numbers_upto s.args.plan (shape s) s.args.index (length s.args.capture.now) (room s) (few s)

-- a group without a fault: its words in the row
abbrev Kept : Type 0
Kept = tie.After-lead-first

abbrev start : Kept → tie.Start
start c = c.before.before.before.before.before.before.before.before.before.before.before.before.before.before

sound : (c : Kept) → group_fault (start c).args.plan (start c).args.capture.now ((start c).args.index * group_words (start c).args.plan) ≡ none
sound c = let s = start c in dealt_none s.args.plan (shape s) s.args.capture.now s.args.index c.deal-fault.ensures c.if-fault-ne0.false

abbrev part : Kept → List ℕ
part c = take (c.lead-first.result + (start c).args.count - c.lead-first.result) (drop c.lead-first.result c.deal-fault.new.row)

part_is : (c : Kept) → part c ≡ words_in (group_slots (start c).args.plan (start c).args.capture.now ((start c).args.index * group_words (start c).args.plan))
part_is c =
    let s = start c in
    dealt_words s.args.plan (shape s) s.args.capture.now s.args.index c.deal-fault.ensures c.lead-first.result s.args.count c.if-fault-ne0.false c.lead-first.ensures s.requires.0.1

row_long : (c : Kept) → length (part c) ≡ slots (start c).args.plan
row_long c = let s = start c in ap length (part_is c) ∙ words_length s.args.plan s.args.capture.now (s.args.index * group_words s.args.plan)

bytes : (c : Kept) (i : ℕ) → get_or (start c).args.capture.now i 0 < 2 ^ 8
bytes c i = omega (arith, c.shared_slice_known-1.given i)

words_of : (c : Kept) (i : ℕ) → i < length (part c) → get_or (part c) i 0 < 2 ^ 24
words_of c i h =
    let s = start c in
    rw (part_is c) (words_low s.args.plan s.args.capture.now (s.args.index * group_words s.args.plan) (bytes c) i (rw (part_is c) at h))

more : (g n : ℕ) → g * n + n ≡ (g + 1) * n
more g n = omega arith

overflow_mul-size : tie.Need-overflow_mul-size
overflow_mul-size c = omega (arith, size c.before.before.before.before.before.before)

overflow_mul-size-2 : tie.Need-overflow_mul-size-2
overflow_mul-size-2 c = omega (arith, size c.before.before.before.before.before.before)

overflow_mul-begin : tie.Need-overflow_mul-begin
overflow_mul-begin c = omega (arith, room c.before.before.before.before.before.before, few c.before.before.before.before.before.before)

overflow_add-end : tie.Need-overflow_add-end
overflow_add-end c = omega (arith, room c.before.before.before.before.before.before, few c.before.before.before.before.before.before)

slice_bounds-deal-count : tie.Need-slice_bounds-deal-count
slice_bounds-deal-count c = search rules

slice_bounds-deal-start : tie.Need-slice_bounds-deal-start
slice_bounds-deal-start c = search rules

slice_bounds-deal-end : tie.Need-slice_bounds-deal-end
slice_bounds-deal-end c = room c.before.before.before.before.before.before

deal-fault-requires : tie.Need-deal-fault-requires
deal-fault-requires c κs = let s = c.before.before.before.before.before.before.before.before in (shape s, part_long s.args.plan (shape s) s.args.capture.now s.args.index (room s), s.requires.0.2)

drop_group-pass-requires : tie.Need-drop_group-pass-requires
drop_group-pass-requires c κs =
    let s = c.before.before.before.before.before.before.before.before.before.before.before.before.before.before.before in
    let x = s.requires.0.3.sound in
    let n = numbers s in (
      shape s,
      s.requires.0.1,
      x.sane,
      low_more (2 ^ 32) (omega arith) x.low,
      omega (arith, x.few_entries),
      omega (arith, index_few s.args.plan (shape s) s.args.index (length s.args.capture.now) (room s) (few s)),
    )

shape_of-row-then-fault-ne0 : tie.Need-shape_of-row-then-fault-ne0
shape_of-row-then-fault-ne0 c = c.row-1.given

shape_of-report-then-fault-ne0 : tie.Need-shape_of-report-then-fault-ne0
shape_of-report-then-fault-ne0 c = c.report-1.given

returns-then-fault-ne0 : tie.Need-returns-then-fault-ne0
returns-then-fault-ne0 c =
    let s = c.before.before.before.before.before.before.before.before.before.before.before.before.before.before.before.before.before.before in
    let a = s.args in
    let e = c.drop_group-pass.ensures in
    let f = c.deal-fault.result in (
      reel_dropped a.kinds a.plan a.capture.now a.index a.walk a.out.now a.times.now a.report.now f.number (a.index * group_words a.plan + f.place)
          (dealt_found a.plan (shape s) a.capture.now a.index c.deal-fault.ensures c.if-fault-ne0.true) e,
      record {
        sound = dropped_sound a.plan (shape s) f.number a.index a.walk.pass c.drop_group-pass.result a.report.now c.drop_group-pass.new.report s.requires.0.3.sound e;
        few = omega (arith, s.requires.0.3.few);
      },
    )

lead-first-requires : tie.Need-lead-first-requires
lead-first-requires c κs = search rules

overflow_add-behind : tie.Need-overflow_add-behind
overflow_add-behind c = let s = c.before.before.before.before.before.before.before.before.before.before.before.before.before.before in omega (arith, c.lead-first.ensures, lead_few s.args.plan, s.requires.0.1, slots_most s.args.plan (shape s))

overflow_mul-from : tie.Need-overflow_mul-from
overflow_mul-from c = let s = c.before.before.before.before.before.before.before.before.before.before.before.before.before.before in rw s.requires.0.1 (omega (arith, numbers s))

offset_bounds-row-first : tie.Need-offset_bounds-row-first
offset_bounds-row-first c = let s = c.before.before.before.before.before.before.before.before.before.before.before.before.before.before in omega (arith, c.lead-first.ensures, lead_few s.args.plan)

slice_bounds-on_row-count : tie.Need-slice_bounds-on_row-count
slice_bounds-on_row-count c = search rules

slice_bounds-on_row-start : tie.Need-slice_bounds-on_row-start
slice_bounds-on_row-start c = search rules

slice_bounds-on_row-end : tie.Need-slice_bounds-on_row-end
slice_bounds-on_row-end c =
    let s = c.before.before.before.before.before.before.before.before.before.before.before.before.before.before.before in
    omega (arith, c.lead-first.ensures, s.requires.0.1, c.deal-fault.ensures.long, s.requires.0.2, dealt_all s.args.plan (shape s))

on_row-pass-requires : tie.Need-on_row-pass-requires
on_row-pass-requires c κs =
    let s = c.before.before.before.before.before.before.before.before.before.before.before.before.before.before.before.before.before.before in
    let a = s.args in
    let q = c.before.before.before.before in
    let e : a.index * a.count ≡ a.index * slots a.plan = ap (λ (n : ℕ). a.index * n) s.requires.0.1 in (
      shape s,
      s.requires.0.1,
      subst (λ (n : ℕ). Sound (a.index * n) a.walk.pass) (sym s.requires.0.1) s.requires.0.3.sound,
      words_of q,
      omega (arith, row_long q, e, numbers s),
    )

slice_bounds-keep_time-count : tie.Need-slice_bounds-keep_time-count
slice_bounds-keep_time-count c = search rules

slice_bounds-keep_time-start : tie.Need-slice_bounds-keep_time-start
slice_bounds-keep_time-start c = search rules

slice_bounds-keep_time-end : tie.Need-slice_bounds-keep_time-end
slice_bounds-keep_time-end c = room c.before.before.before.before.before.before.before.before.before.before.before.before.before.before.before.before.before.before.before.before.before.before.before

keep_time-kept-requires : tie.Need-keep_time-kept-requires
keep_time-kept-requires c κs =
    let s = c.before.before.before.before.before.before.before.before.before.before.before.before.before.before.before.before.before.before.before.before.before.before.before.before.before in (
      shape s,
      part_long s.args.plan (shape s) s.args.capture.now s.args.index (room s),
      omega (arith, s.requires.0.3.few, index_few s.args.plan (shape s) s.args.index (length s.args.capture.now) (room s) (few s)),
    )

shape_of-row : tie.Need-shape_of-row
shape_of-row c = c.row-1.given

shape_of-out : tie.Need-shape_of-out
shape_of-out c = c.out-1.given

shape_of-times : tie.Need-shape_of-times
shape_of-times c = c.times-1.given

shape_of-report : tie.Need-shape_of-report
shape_of-report c = c.report-2-1.given

returns : tie.Need-returns
returns c =
    let s = c.before.before.before.before.before.before.before.before.before.before.before.before.before.before.before.before.before.before.before.before.before.before.before.before.before.before.before.before in
    let a = s.args in
    let q = c.before.before.before.before.before.before.before.before.before.before.before.before.before.before in
    let k = c.keep_time-kept.ensures in
    let w = c.on_row-pass.ensures in
    let e : a.index * a.count ≡ a.index * slots a.plan = ap (λ (n : ℕ). a.index * n) s.requires.0.1 in (
      reel_kept a.kinds a.plan a.capture.now a.index a.walk a.out.now a.times.now a.report.now (a.index * a.count) (part q) c.keep_time-kept.result
          (group_time a.plan (part_of a.plan (shape s) a.capture.now a.index) 0) (sound q) w.0 e (part_is q) k.0 k.1
          (time_is a.plan (shape s) a.capture.now a.index),
      record {
        sound = subst (λ (n : ℕ). Sound n c.on_row-pass.result) (ap₂ ◌+◌ e (row_long q) ∙ more a.index (slots a.plan)) w.1;
        few = kept_few a.plan a.index a.walk.times k.0 s.requires.0.3.few;
      },
    )

pub on_group_spec : {M : Type 1} → statement M
on_group_spec =
    tie.close
    (tie.spec
    overflow_mul-size
    overflow_mul-size-2
    overflow_mul-begin
    overflow_add-end
    slice_bounds-deal-count
    slice_bounds-deal-start
    slice_bounds-deal-end
    deal-fault-requires
    drop_group-pass-requires
    shape_of-row-then-fault-ne0
    shape_of-report-then-fault-ne0
    returns-then-fault-ne0
    lead-first-requires
    overflow_add-behind
    overflow_mul-from
    offset_bounds-row-first
    slice_bounds-on_row-count
    slice_bounds-on_row-start
    slice_bounds-on_row-end
    on_row-pass-requires
    slice_bounds-keep_time-count
    slice_bounds-keep_time-start
    slice_bounds-keep_time-end
    keep_time-kept-requires
    shape_of-row
    shape_of-out
    shape_of-times
    shape_of-report
    returns)
