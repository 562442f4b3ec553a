use mathlib.Core.Path.{◌≡◌, refl, ap, sym, ◌∙◌}
use Prim.Native.Nat.{ℕ}
use lib.ListN.{length}
use borrow.Author.Tests.{not-false, not-true}
use Rattle.stream_state.specs.Stand.{loaded_of}
use Rattle.stream_state.specs.declared.Loaded.{Loaded}
use Rattle.stream_calls.specs.Calls.{within}
use Rattle.stream_close.specs.Closing.{Says}
use Rattle.stream_close.proofs.Closing.{not_closable, open_long, shut_state}
use Rattle.stream_calls.proofs.Refused.{Limits, limits}
use borrow.Author.Rules.{rules}
use Rattle.stream_close.proofs.close.Statement.{statement}
use Rattle.stream_close.proofs.close.Tie as tie

-- ---- the places

abbrev Found : Type 0
Found = tie.After-load-found

abbrev start : Found → tie.Start
start c = c.before.before.before

staged : (c : Found) → c.load-found.result.stage ≡ (loaded_of (start c).args.state.now).stage
staged c = ap (λ (r : Loaded). r.stage) c.load-found.ensures

-- the limits were looked at
abbrev Judged : Type 0
Judged = tie.After-within

abbrev found : Judged → Found
found c = c.before

judged : (c : Judged) → c.within.result ≡ within (found c).load-found.result.stage 0 (length (start (found c)).args.log.now)
judged c = c.within.ensures

-- within them
abbrev Open : Type 0
Open = tie.Else-not-within

within_them : (c : Open) → Limits (found c.before).load-found.result.stage 0 (length (start (found c.before)).args.log.now)
within_them c = limits (found c.before).load-found.result.stage 0 (length (start (found c.before)).args.log.now) (sym (judged c.before) ∙ c.if-not-within.false)

long : (o : Open) → length (start (found o.before)).args.state.now ≡ 7168
long o = let f = found o.before in open_long (start f).args.state.now f.load-found.result.stage (sym (staged f)) (within_them o).open_stage

-- the notices' numbers were read
abbrev Read : Type 0
Read = tie.After-notices_at

abbrev within_limits : Read → Open
within_limits n = n.before.before

says : (n : Read) → let f = found (within_limits n).before in Says (start f).args.state.now f.load-found.result n.notices_at.new.table
says n = record { is = (found (within_limits n).before).load-found.ensures; table_is = λ e. n.notices_at.ensures }

-- ---- the needs

load-found-requires : tie.Need-load-found-requires
load-found-requires c κs = search rules

within-requires : tie.Need-within-requires
within-requires c κs = search rules

refusal-requires : tie.Need-refusal-requires
refusal-requires c κs = search rules

shape_of-state-then-not-within : tie.Need-shape_of-state-then-not-within
shape_of-state-then-not-within c = search rules

returns-then-not-within : tie.Need-returns-then-not-within
returns-then-not-within c =
    let j = c.before.before in
    let a = (start (found j)).args in
    let e = not_closable a.state.now (length a.log.now)
    (ap (λ (n : ℕ). within n 0 (length a.log.now)) (sym (staged (found j))) ∙ sym (judged j) ∙ c.if-not-within.true) in
    rw e (c.refusal.ensures, refl, refl)

slice_bounds-notices_at-end : tie.Need-slice_bounds-notices_at-end
slice_bounds-notices_at-end c = search rules

notices_at-requires : tie.Need-notices_at-requires
notices_at-requires c κs = (long c.before, refl)

slice_bounds-close_on-end : tie.Need-slice_bounds-close_on-end
slice_bounds-close_on-end c = search rules

close_on-answer-requires : tie.Need-close_on-answer-requires
close_on-answer-requires c κs =
    let n = c.before.before.before in
    let o = within_limits n in
    record { bytes = (start (found o.before)).args.state.now; says = says n; open_stage = (within_them o).open_stage; roomy = (within_them o).roomy }

store_closed-requires : tie.Need-store_closed-requires
store_closed-requires c κs = long (within_limits c.before.before.before.before.before.before.before)

shape_of-state : tie.Need-shape_of-state
shape_of-state c = search rules

shape_of-log : tie.Need-shape_of-log
shape_of-log c = search rules

returns : tie.Need-returns
returns c =
    let n = c.before.before.before.before.before.before.before.before.before.before in
    let o = within_limits n in
    let f = found o.before in
    let a = (start f).args in
    let k = c.close_on-answer.ensures a.state.now (says n) in (
      k.0,
      c.store_closed.ensures ∙ sym
          (shut_state a.state.now (length a.log.now) f.load-found.result.stage (sym (staged f)) (within_them o).open_stage (within_them o).roomy),
      k.1,
    )

pub close_spec : {M : Type 1} → statement M
close_spec =
    tie.close
    (tie.spec
    load-found-requires
    within-requires
    refusal-requires
    shape_of-state-then-not-within
    returns-then-not-within
    slice_bounds-notices_at-end
    notices_at-requires
    slice_bounds-close_on-end
    close_on-answer-requires
    store_closed-requires
    shape_of-state
    shape_of-log
    returns)
