use mathlib.Core.Path.{◌≡◌, refl, ap, subst, sym, ◌∙◌}
use Prim.Native.Nat.{ℕ}
use lib.ListN.{length}
use borrow.Author.Tests.{not-false, not-true}
use Rattle.format.specs.Answer.{refusal}
use Rattle.stream_state.specs.AtWork.{AtWork}
use Rattle.stream_state.specs.Stand.{loaded_of}
use Rattle.stream_state.specs.declared.Loaded.{Loaded}
use Rattle.stream_state.proofs.AtWork.{loaded_work}
use Rattle.stream_calls.specs.Calls.{within}
use Rattle.stream_calls.proofs.Refused.{limits, not_within, repeated, unread_leaves}
use borrow.Author.Rules.{rules}
use Rattle.stream.proofs.feed.Statement.{statement}
use Rattle.stream.proofs.feed.Tie as tie

-- ---- the places

abbrev Found : Type 0
Found = tie.After-load-found

abbrev start : Found → tie.Start
start c = c.before.before.before.before.before

staged : (c : Found) → c.load-found.result.stage ≡ (loaded_of (start c).args.state.now).stage
staged c = ap (λ (r : Loaded). r.stage) c.load-found.ensures

-- the limits were looked at
abbrev Judged : Type 0
Judged = tie.After-within

abbrev found : Judged → Found
found c = c.before

judged : (c : Judged) → c.within.result ≡ within (loaded_of (start (found c)).args.state.now).stage (length (start (found c)).args.piece.now) (length (start (found c)).args.log.now)
judged c =
    let a = (start (found c)).args in
    c.within.ensures ∙ ap (λ (n : ℕ). within n (length a.piece.now) (length a.log.now)) (staged (found c))

-- ---- the needs

load-found-requires : tie.Need-load-found-requires
load-found-requires c κs = search rules

within-requires : tie.Need-within-requires
within-requires c κs = search rules

refusal-requires : tie.Need-refusal-requires
refusal-requires c κs = search rules

shape_of-state-then-not-within : tie.Need-shape_of-state-then-not-within
shape_of-state-then-not-within c = search rules

returns-then-not-within : tie.Need-returns-then-not-within
returns-then-not-within c =
    let j = c.before.before in
    let a = (start (found j)).args in
    unread_leaves a.state.now a.log.now a.times.now
    (not_within a.state.now a.piece.now (length a.log.now) (length a.times.now) (sym (judged j) ∙ c.if-not-within.true)) c.refusal.ensures

refusal-requires-then-found-eq2 : tie.Need-refusal-requires-then-found-eq2
refusal-requires-then-found-eq2 c κs = search rules

shape_of-state-then-found-eq2 : tie.Need-shape_of-state-then-found-eq2
shape_of-state-then-found-eq2 c = search rules

returns-then-found-eq2 : tie.Need-returns-then-found-eq2
returns-then-found-eq2 c =
    let j = c.before.before.before.before in
    let f = found j in
    let a = (start f).args in
    let k = limits (loaded_of a.state.now).stage (length a.piece.now) (length a.log.now) (sym (judged j) ∙ c.if-not-within.false) in
    let e = f.load-found.ensures in
    unread_leaves a.state.now a.log.now a.times.now
    (repeated a.state.now a.piece.now (length a.log.now) (length a.times.now) (sym (staged f) ∙ c.if-found-eq2.true) k.short k.roomy)
    (c.refusal-then-found-eq2.ensures ∙ ap (λ (r : Loaded). refusal r.number r.place r.second) e)

feed_working-requires : tie.Need-feed_working-requires
feed_working-requires c κs =
    let j = c.before.before.before.before.before.before.before in
    let f = found j in
    let a = (start f).args in
    let k = limits (loaded_of a.state.now).stage (length a.piece.now) (length a.log.now)
    (sym (judged j) ∙ c.if-not-within.false) in
    let one = k.open_stage (λ z. c.if-found-eq2.false (staged f ∙ z)) in
    let w = loaded_work a.state.now one in
    record {
      work = subst (AtWork a.state.now) (sym (ap (λ (r : Loaded). r.stand) f.load-found.ensures)) w;
      table_is = refl;
      short = k.short;
      roomy = k.roomy;
    }

shape_of-state : tie.Need-shape_of-state
shape_of-state c = search rules

shape_of-log : tie.Need-shape_of-log
shape_of-log c = search rules

shape_of-times : tie.Need-shape_of-times
shape_of-times c = search rules

returns : tie.Need-returns
returns c = search rules

pub feed_spec : {M : Type 1} → statement M
feed_spec =
    tie.close
    (tie.spec
    load-found-requires
    within-requires
    refusal-requires
    shape_of-state-then-not-within
    returns-then-not-within
    refusal-requires-then-found-eq2
    shape_of-state-then-found-eq2
    returns-then-found-eq2
    feed_working-requires
    shape_of-state
    shape_of-log
    shape_of-times
    returns)
