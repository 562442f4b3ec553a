use native.Mathlib.Omega.{arith}
use mathlib.Core.Path.{◌≡◌, ap, subst, sym, ◌∙◌}
use mathlib.Core.List.{List}
use Prim.Native.Nat.{ℕ, ◌+◌, ◌*◌}
use Rattle.format.specs.Answer.{refusal}
use Rattle.stream_rules.specs.Stream.{group_size}
use Rattle.stream_state.specs.AtWork.{AtWork}
use Rattle.stream_state.specs.Stand.{loaded_of}
use Rattle.stream_state.specs.declared.Loaded.{Loaded}
use Rattle.stream_state.proofs.AtWork.{loaded_work}
use Rattle.stream_close.specs.Closing.{Says}
use Rattle.stream_close.proofs.Closing.{shut_ends, shut_failed, shut_part, shut_whole}
use borrow.Author.Rules.{rules}
use Rattle.stream_close.proofs.close_on.Statement.{statement}
use Rattle.stream_close.proofs.close_on.Tie as tie

-- ---- the places

-- the bytes from which it was loaded are a state at work
stage_one : (s : tie.Start) → (s.args.found.stage ≡ 2 → ⊥) → (b : List ℕ) → Says b s.args.found s.args.table.now → (loaded_of b).stage ≡ 1
stage_one s z b y = sym (ap (λ (x : Loaded). x.stage) y.is) ∙ s.requires.open_stage z

at_work : (s : tie.Start) → (s.args.found.stage ≡ 2 → ⊥) → (b : List ℕ) → Says b s.args.found s.args.table.now → AtWork b s.args.found.stand
at_work s z b y = subst (AtWork b) (sym (ap (λ (x : Loaded). x.stand) y.is)) (loaded_work b (stage_one s z b y))

work : (s : tie.Start) → (s.args.found.stage ≡ 2 → ⊥) → AtWork s.requires.bytes s.args.found.stand
work s z = at_work s z s.requires.bytes s.requires.says

-- how long it is so far
abbrev Sized : Type 0
Sized = tie.After-group_words

abbrev start : Sized → tie.Start
start c = c.before.before.before.before.before.before.before.before

counts : (c : Sized) → (start c).args.found.stand.groups * (3 * c.group_words.result) ≡ (start c).args.found.stand.groups * group_size (start c).args.found.stand.plan
counts c = ap (λ (n : ℕ). (start c).args.found.stand.groups * (3 * n)) c.group_words.ensures.0

-- ---- the needs

refusal-requires : tie.Need-refusal-requires
refusal-requires c κs = search rules

returns-then-found-eq2 : tie.Need-returns-then-found-eq2
returns-then-found-eq2 c =
    let s = c.before.before.before.before.before in
    λ b y. shut_failed b s.args.log.now (sym (ap (λ (x : Loaded). x.stage) y.is) ∙ c.if-found-eq2.true) s.requires.roomy
    (c.refusal.ensures ∙ ap (λ (x : Loaded). refusal x.number x.place x.second) y.is)

group_words-requires : tie.Need-group_words-requires
group_words-requires c κs = (work c.before.before.before.before.before.before.before c.if-found-eq2.false).shape

overflow_mul-count : tie.Need-overflow_mul-count
overflow_mul-count c = search rules

overflow_mul-count-then-waiting-ne0 : tie.Need-overflow_mul-count-then-waiting-ne0
overflow_mul-count-then-waiting-ne0 c = let w = work c.before.before.before.before.before.before.before.before c.if-found-eq2.false in omega (arith, counts c, w.count)

overflow_add-count : tie.Need-overflow_add-count
overflow_add-count c = let w = work c.before.before.before.before.before.before.before.before c.if-found-eq2.false in omega (arith, counts c, w.count)

refusal-requires-then-waiting-ne0 : tie.Need-refusal-requires-then-waiting-ne0
refusal-requires-then-waiting-ne0 c κs = search rules

returns-then-waiting-ne0 : tie.Need-returns-then-waiting-ne0
returns-then-waiting-ne0 c =
    let s = c.before.before.before.before.before.before.before.before.before in
    let a = s.args in
    let x = a.found.stand in
    λ b y. shut_part b x (at_work s c.if-found-eq2.false b y) a.log.now s.requires.roomy _ c.if-waiting-ne0.true
    (ap (λ (n : ℕ). n + x.waiting) (counts c.before)) c.refusal-then-waiting-ne0.ensures

overflow_cast-pen : tie.Need-overflow_cast-pen
overflow_cast-pen c = search rules

overflow_cast-pen-2 : tie.Need-overflow_cast-pen-2
overflow_cast-pen-2 c = search rules

end_log-requires : tie.Need-end_log-requires
end_log-requires c κs =
    let s = c.before.before.before.before.before.before.before.before.before.before in
    let a = s.args in
    let z = c.if-found-eq2.false in
    shut_whole s.requires.bytes a.found.stand (work s z) a.log.now s.requires.roomy (c.if-waiting-ne0.false) a.table.now (s.requires.says.table_is (s.requires.open_stage z))

shape_of-log : tie.Need-shape_of-log
shape_of-log c = search rules

returns : tie.Need-returns
returns c =
    let s = c.before.before.before.before.before.before.before.before.before.before.before.before.before in
    let a = s.args in
    let z = c.if-found-eq2.false in
    λ b y. shut_ends b a.found.stand (at_work s z b y) a.log.now s.requires.roomy (c.if-waiting-ne0.false) a.table.now
    (y.table_is (s.requires.open_stage z)) c.end_log.ensures

pub close_on_spec : {M : Type 1} → statement M
close_on_spec =
    tie.close
    (tie.spec
    refusal-requires
    returns-then-found-eq2
    group_words-requires
    overflow_mul-count
    overflow_mul-count-then-waiting-ne0
    overflow_add-count
    refusal-requires-then-waiting-ne0
    returns-then-waiting-ne0
    overflow_cast-pen
    overflow_cast-pen-2
    end_log-requires
    shape_of-log
    returns)
