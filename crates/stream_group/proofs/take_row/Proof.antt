use borrow.Author.Rules.{rules}
use native.Mathlib.Omega.{arith}
use mathlib.Core.Path.{◌≡◌, refl, ap, ap₂, sym, ◌∙◌}
use mathlib.Core.Bool.{true}
use Prim.Native.Nat.{ℕ, ◌+◌, ◌*◌, ◌-◌, ◌^◌, ◌≤◌, ◌<◌}
use lib.ListN.{length}
use Rattle.format.specs.Plan.{slots, group_words}
use Rattle.format.specs.Laws.Limits.{Shape, lead_few, slots_most}
use Rattle.data_run.specs.Pass.{Sound}
use Rattle.stream_rules.specs.Stream.{stops}
use Rattle.stream_group.proofs.Row.{at_low, index_low, ran_bad, ran_on, row_bad, row_shown, row_went, shown_in, shown_ok, took_stops, watched_from}
use Rattle.stream_group.proofs.take_row.Statement.{statement}
use Rattle.stream_group.proofs.take_row.Tie as tie
use Rattle.stream_group.proofs.take_row.Reads as reads
use Rattle.stream_group.proofs.take_row.Lts as lts
use Rattle.data_run.proofs.on_row.Reads as on-row-reads
use Rattle.group_read.proofs.lead.Reads as lead-reads
use Rattle.notices.proofs.has_arinc.Reads as has-arinc-reads
use Rattle.notices.proofs.watch_row.Reads as watch-row-reads
use Rattle.stream_group.proofs.place_from.Reads as place-from-reads
use Rattle.stream_group.proofs.stops.Reads as stops-reads
use Rattle.stream_group.proofs.stored_of.Reads as stored-of-reads

overflow_mul-at : tie.Need-overflow_mul-at
overflow_mul-at c = search rules

overflow_mul-at-2 : tie.Need-overflow_mul-at-2
overflow_mul-at-2 c = search rules

on_row-pass-requires : tie.Need-on_row-pass-requires
on_row-pass-requires c κs =
    let s = c.before.before.before.before.before in
    let h = s.requires.0.0 in
    (record { good = refl; sane = s.requires.0.3 }, s.requires.0.1, omega (arith, s.requires.0.4), omega (arith, s.requires.0.2, slots_most _ h), h.filling)

overflow_sub-pass : tie.Need-overflow_sub-pass
overflow_sub-pass c = search rules

place_from-requires : tie.Need-place_from-requires
place_from-requires c κs =
    let s = c.before.before.before.before.before.before.before.before.before.before.before in
    let e = c.before.before.before.before.before in
    let k = ran_bad _ _ _ _ s.requires.0.2 _ _ _ _ _ e.on_row-pass.ensures.0 c.if-pass-ne0.true in
    (s.requires.0.0, k.bad_low, at_low _ s.requires.0.0 s.args.index s.requires.1.2)

place_from-requires-then-pass-ne0 : tie.Need-place_from-requires-then-pass-ne0
place_from-requires-then-pass-ne0 c κs =
    let s = c.before.before.before.before.before.before.before.before.before.before.before.before in
    let e = c.before.before.before.before.before.before in
    let k = ran_bad _ _ _ _ s.requires.0.2 _ _ _ _ _ e.on_row-pass.ensures.0 c.if-pass-ne0.true in
    (s.requires.0.0, k.since_low, at_low _ s.requires.0.0 s.args.index s.requires.1.2)

stops-requires : tie.Need-stops-requires
stops-requires c κs = search rules

shape_of-out-then-pass-ne0 : tie.Need-shape_of-out-then-pass-ne0
shape_of-out-then-pass-ne0 c = search rules

returns-then-pass-ne0 : tie.Need-returns-then-pass-ne0
returns-then-pass-ne0 c =
    let s = c.before.before.before.before.before.before.before.before.before.before.before.before.before.before in
    let e = c.before.before.before.before.before.before.before.before in
    let k = ran_bad _ _ _ _ s.requires.0.2 _ _ _ _ _ e.on_row-pass.ensures.0 c.if-pass-ne0.true in
    took_stops 13 c.place_from.result c.place_from-then-pass-ne0.result c.stops.ensures (λ (z : 13 ≡ 0). omega arith)
    (row_bad _ _ _ _ _ _ _ k.is ∙ ap₂ (λ (a b : ℕ). stops 13 a b) (sym c.place_from.ensures) (sym c.place_from-then-pass-ne0.ensures))

has_arinc-arinc-requires : tie.Need-has_arinc-arinc-requires
has_arinc-arinc-requires c κs = search rules

overflow_mul-from : tie.Need-overflow_mul-from
overflow_mul-from c = let s = c.before.before.before.before.before.before.before.before.before.before.before in omega (arith, index_low _ s.requires.0.0 s.args.index s.requires.1.2)

lead-requires : tie.Need-lead-requires
lead-requires c κs = search rules

overflow_add-from : tie.Need-overflow_add-from
overflow_add-from c = let s = c.before.before.before.before.before.before.before.before.before.before.before.before in omega (arith, c.lead.ensures, lead_few s.args.plan, index_low _ s.requires.0.0 s.args.index s.requires.1.2)

watch_row-shown-requires : tie.Need-watch_row-shown-requires
watch_row-shown-requires c κs =
    let s = c.before.before.before.before.before.before.before.before.before.before.before.before.before in
    let h = s.requires.0.0 in (
      c.has_arinc-arinc.ensures,
      s.requires.0.1,
      omega (arith, s.requires.0.2, slots_most _ h),
      omega (arith, s.requires.0.2, slots_most _ h, c.lead.ensures, lead_few s.args.plan, index_low _ h s.args.index s.requires.1.2),
      s.requires.1.0,
    )

stored_of-requires : tie.Need-stored_of-requires
stored_of-requires c κs =
    let s = c.before.before.before.before.before.before.before.before.before.before.before.before.before.before.before.before.before in
    let a = s.args in
    let h = s.requires.0.0 in
    let n = ap (λ (n : ℕ). a.index * 2048 + n) c.lead.ensures in
    let w = watched_from a.plan a.kinds a.index a.row.now a.table.now n c.watch_row-shown.ensures in
    let ok = shown_ok a.plan h a.index s.requires.1.2 a.kinds a.row.now a.table.now s.requires.0.2 s.requires.1.0 s.requires.1.1 in
    let k = shown_in a.plan h a.index s.requires.1.2 c.watch_row-shown.result (rw w.0 at ok) c.if-shown-ne0.true in
    (h, k.0, k.1, k.2)

stops-requires-then-shown-ne0 : tie.Need-stops-requires-then-shown-ne0
stops-requires-then-shown-ne0 c κs = search rules

shape_of-table-then-shown-ne0 : tie.Need-shape_of-table-then-shown-ne0
shape_of-table-then-shown-ne0 c = search rules

shape_of-out-then-shown-ne0 : tie.Need-shape_of-out-then-shown-ne0
shape_of-out-then-shown-ne0 c = search rules

returns-then-shown-ne0 : tie.Need-returns-then-shown-ne0
returns-then-shown-ne0 c =
    let s = c.before.before.before.before.before.before.before.before.before.before.before.before.before.before.before.before.before.before.before in
    let a = s.args in
    let k = ran_on _ _ _ _ s.requires.0.2 _ _ _ _ _ c.on_row-pass.ensures.0 c.if-pass-ne0.false in
    let n = ap (λ (n : ℕ). a.index * 2048 + n) c.lead.ensures in
    let w = watched_from a.plan a.kinds a.index a.row.now a.table.now n c.watch_row-shown.ensures in
    took_stops 15 c.stored_of.result 0 c.stops-then-shown-ne0.ensures (λ (z : 15 ≡ 0). omega arith)
    (row_shown _ _ _ _ _ k.items _ _ _ k.is w.0 c.if-shown-ne0.true ∙ ap (λ (q : ℕ). stops 15 q 0) (sym c.stored_of.ensures))

place_from-requires-2 : tie.Need-place_from-requires-2
place_from-requires-2 c κs =
    let s = c.before.before.before.before.before.before.before.before.before.before.before.before.before.before.before.before.before.before.before in
    let k = ran_on _ _ _ _ s.requires.0.2 _ _ _ _ _ c.on_row-pass.ensures.0 c.if-pass-ne0.false in
    (s.requires.0.0, k.since_low, at_low _ s.requires.0.0 s.args.index s.requires.1.2)

shape_of-table : tie.Need-shape_of-table
shape_of-table c = search rules

shape_of-out : tie.Need-shape_of-out
shape_of-out c = search rules

returns : tie.Need-returns
returns c =
    let s = c.before.before.before.before.before.before.before.before.before.before.before.before.before.before.before.before.before.before.before.before in
    let a = s.args in
    let k = ran_on _ _ _ _ s.requires.0.2 _ _ _ _ _ c.on_row-pass.ensures.0 c.if-pass-ne0.false in
    let n = ap (λ (n : ℕ). a.index * 2048 + n) c.lead.ensures in
    let w = watched_from a.plan a.kinds a.index a.row.now a.table.now n c.watch_row-shown.ensures in
    record {
      went = λ z. record {
        items = k.items;
        is = row_went _ _ _ _ _ k.items _ _ _ _ k.is c.place_from-2.ensures (w.0 ∙ c.if-shown-ne0.false) w.1;
        sane = k.brought.sound.sane;
        long = k.brought.long;
        wrote = k.brought.wrote;
      };
      stopped = λ d. absurd (d refl);
    }

pub take_row_spec : {M : Type 1} → statement M
take_row_spec =
    tie.close
    (tie.spec
    overflow_mul-at
    overflow_mul-at-2
    on_row-pass-requires
    overflow_sub-pass
    place_from-requires
    place_from-requires-then-pass-ne0
    stops-requires
    shape_of-out-then-pass-ne0
    returns-then-pass-ne0
    has_arinc-arinc-requires
    overflow_mul-from
    lead-requires
    overflow_add-from
    watch_row-shown-requires
    stored_of-requires
    stops-requires-then-shown-ne0
    shape_of-table-then-shown-ne0
    shape_of-out-then-shown-ne0
    returns-then-shown-ne0
    place_from-requires-2
    shape_of-table
    shape_of-out
    returns)
