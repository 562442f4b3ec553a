use borrow.Author.Rules.{rules}
use native.Mathlib.Omega.{arith}
use mathlib.Core.Path.{◌≡◌, refl, ap, sym, subst, ◌∙◌}
use mathlib.Core.List.{List}
use Prim.Native.Nat.{ℕ, ◌+◌, ◌*◌, ◌-◌, ◌^◌, ◌<◌}
use lib.ListN.{length, get_or, take, drop}
use Rattle.format.specs.Plan.{group_words, lead, slots}
use Rattle.format.specs.Group.{group_slots}
use Rattle.format.specs.Laws.Limits.{Shape, lead_few, slots_most, group_most}
use Rattle.format.specs.Laws.Reader.Slots.{words_in}
use Rattle.group_read.proofs.Answers.{words_length, words_low}
use Rattle.group_read.proofs.Numbers.{number_none, number_found, place_low}
use Rattle.stream_group.proofs.Row.{at_low, dealt_in, group_stops, group_took, own_words, took_stops}
use Rattle.stream_group.proofs.take_group.Statement.{statement}
use Rattle.stream_group.proofs.take_group.Tie as tie
use Rattle.stream_group.proofs.take_group.Reads as reads
use Rattle.stream_group.proofs.take_group.Lts as lts
use Rattle.group_read.proofs.deal.Reads as deal-reads
use Rattle.group_read.proofs.lead.Reads as lead-reads
use Rattle.stream_group.proofs.stops.Reads as stops-reads
use Rattle.stream_group.proofs.take_row.Reads as take-row-reads

-- ---- the places

-- the words are dealt
abbrev Dealt : Type 0
Dealt = tie.After-deal-fault

abbrev start : Dealt → tie.Start
start c = c.before.before.before.before.before.before

bytes : (c : Dealt) (i : ℕ) → get_or (start c).args.group.now i 0 < 2 ^ 8
bytes c i = omega (arith, c.shared_slice_known-1.given i)

abbrev dealt : tie.After-struct_known-1 → Dealt
dealt c = c.before.before.before

-- without a fault: where the data words begin
abbrev Led : Type 0
Led = tie.After-lead-first

abbrev group : Led → Dealt
group c = dealt c.before.before

abbrev part : Led → List ℕ
part c =
    let n = c.lead-first.result in
    take (n + (start (group c)).args.count - n) (drop n (group c).deal-fault.new.row)

part_is : (c : Led) → let a = (start (group c)).args in part c ≡ words_in (group_slots a.plan a.group.now 0)
part_is c =
    let d = (group c).deal-fault in
    let s = start (group c) in
    let a = s.args in
    own_words a.plan s.requires.0.0 a.group.now d.new.row _ s.requires.0.2 (d.ensures.words c.if-fault-ne0.false)
    c.lead-first.result a.count c.lead-first.ensures s.requires.0.1

words_low_in : (c : Led) (i : ℕ) → i < length (part c) → get_or (part c) i 0 < 2 ^ 24
words_low_in c i l =
    let a = (start (group c)).args in
    let h : i < length (words_in (group_slots a.plan a.group.now 0)) = subst (λ (ws : List ℕ). i < length ws) (part_is c) l in
    subst (λ (ws : List ℕ). get_or ws i 0 < 2 ^ 24) (sym (part_is c)) (words_low a.plan a.group.now 0 (bytes (group c)) i h)

-- its row is read
abbrev led : tie.After-take_row-arg-3-1 → Led
led c = c.before.before.before

-- ---- the needs

deal-fault-requires : tie.Need-deal-fault-requires
deal-fault-requires c κs = search rules

overflow_mul-at : tie.Need-overflow_mul-at
overflow_mul-at c = search rules

overflow_mul-at-then-fault-ne0 : tie.Need-overflow_mul-at-then-fault-ne0
overflow_mul-at-then-fault-ne0 c = search rules

overflow_add-at : tie.Need-overflow_add-at
overflow_add-at c =
    let d = dealt c.before.before in
    let s = start d in
    let h = s.requires.0.0 in
    omega (arith, at_low _ h s.args.index s.requires.1.2, place_low _ _ h d.deal-fault.ensures.fault, group_most _ h)

stops-requires : tie.Need-stops-requires
stops-requires c κs = search rules

shape_of-row-then-fault-ne0 : tie.Need-shape_of-row-then-fault-ne0
shape_of-row-then-fault-ne0 c = search rules

returns-then-fault-ne0 : tie.Need-returns-then-fault-ne0
returns-then-fault-ne0 c =
    let t = c.before.before in
    let d = dealt t.before in
    took_stops d.deal-fault.result.number _ 0 c.stops.ensures t.if-fault-ne0.true
    (group_stops _ _ _ _ _ _ _ (number_found _ _ (start d).requires.0.0 d.deal-fault.ensures.fault t.if-fault-ne0.true))

lead-first-requires : tie.Need-lead-first-requires
lead-first-requires c κs = search rules

overflow_add-behind : tie.Need-overflow_add-behind
overflow_add-behind c =
    let s = start (group c) in
    omega (arith, c.lead-first.ensures, lead_few s.args.plan, s.requires.0.1, slots_most _ s.requires.0.0)

offset_bounds-row-first : tie.Need-offset_bounds-row-first
offset_bounds-row-first c = omega (arith, c.lead-first.ensures, lead_few (start (group c)).args.plan)

slice_bounds-take_row-count : tie.Need-slice_bounds-take_row-count
slice_bounds-take_row-count c = search rules

slice_bounds-take_row-start : tie.Need-slice_bounds-take_row-start
slice_bounds-take_row-start c = search rules

slice_bounds-take_row-end : tie.Need-slice_bounds-take_row-end
slice_bounds-take_row-end c =
    let l = c in
    let s = start (group l) in
    omega (arith, l.lead-first.ensures, s.requires.0.1, s.requires.0.3, (group l).deal-fault.ensures.long, dealt_in _ s.requires.0.0)

take_row-requires : tie.Need-take_row-requires
take_row-requires c κs =
    let l = led c in
    let s = start (group l) in (
      (
        s.requires.0.0,
        words_low_in l,
        ap (λ (ws : List ℕ). length ws) (part_is l) ∙ words_length s.args.plan s.args.group.now 0,
        s.requires.0.4,
        s.requires.0.5,
      ),
      (s.requires.1.0, s.requires.1.1, s.requires.1.2),
    )

shape_of-table : tie.Need-shape_of-table
shape_of-table c = search rules

shape_of-row : tie.Need-shape_of-row
shape_of-row c = search rules

shape_of-out : tie.Need-shape_of-out
shape_of-out c = search rules

returns : tie.Need-returns
returns c =
    let t = c.before.before.before.before in
    let l = led t.before in
    let d = group l in
    let n = number_none _ _ (start d).requires.0.0 d.deal-fault.ensures.fault l.if-fault-ne0.false in
    group_took _ _ _ _ _ _ n (part_is l) t.take_row.ensures

pub take_group_spec : {M : Type 1} → statement M
take_group_spec =
    tie.close
    (tie.spec
    deal-fault-requires
    overflow_mul-at
    overflow_mul-at-then-fault-ne0
    overflow_add-at
    stops-requires
    shape_of-row-then-fault-ne0
    returns-then-fault-ne0
    lead-first-requires
    overflow_add-behind
    offset_bounds-row-first
    slice_bounds-take_row-count
    slice_bounds-take_row-start
    slice_bounds-take_row-end
    take_row-requires
    shape_of-table
    shape_of-row
    shape_of-out
    returns)
