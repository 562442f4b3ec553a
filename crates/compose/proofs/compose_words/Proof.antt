use Rattle.compose.proofs.Answered.{times_wrong, time_late, room_short, all_made}
use Rattle.compose.proofs.Laws.{capture_length, small, timely}
use Rattle.format.specs.Plan.{group_words}
use Rattle.format.specs.Compose.{groups_for}
use Rattle.format.specs.Answer.{refusal, success}
use lib.ListN.{length}
use mathlib.Core.List.{[]}
use mathlib.Core.Path.{◌≡◌, refl, ap, ap₂, sym, ◌∙◌}
use mathlib.Core.Bool.{cond}
use native.Mathlib.Omega.{arith}
use Prim.Native.Nat.{ℕ, ◌*◌}
use borrow.Author.Rules.{rules}
use Rattle.compose.proofs.compose_words.Statement.{statement}
use Rattle.compose.proofs.compose_words.Tie as tie

groups_for-groups-requires : tie.Need-groups_for-groups-requires
groups_for-groups-requires c κs = search rules

times_needed-needed-requires : tie.Need-times_needed-needed-requires
times_needed-needed-requires c κs = search rules

refusal-requires : tie.Need-refusal-requires
refusal-requires c κs = search rules

returns-then-times-needed : tie.Need-returns-then-times-needed
returns-then-times-needed c =
    let a = c.args in
    let q = c.requires in
    let ts = a.times.now in
    let ws = a.words.now in
    let groups : c.groups_for-groups.result ≡ groups_for a.plan (length ws) = c.groups_for-groups.ensures in
    let need : c.times_needed-needed.result ≡ cond a.plan.frame_time (groups_for a.plan (length ws)) 0 =
    c.times_needed-needed.ensures ∙ ap (λ (k : ℕ). cond a.plan.frame_time k 0) groups in
    rw (times_wrong a.plan ts (length a.out.now) ws (λ z. c.if-times-needed.true (z ∙ sym need)))
    (c.refusal.ensures ∙ ap (λ (q : ℕ). refusal 5 q 0) need, refl)

first_late-late-requires : tie.Need-first_late-late-requires
first_late-late-requires c κs = search rules

refusal-requires-then-late-times : tie.Need-refusal-requires-then-late-times
refusal-requires-then-late-times c κs = search rules

returns-then-late-times : tie.Need-returns-then-late-times
returns-then-late-times c =
    let a = c.args in
    let q = c.requires in
    let ts = a.times.now in
    let ws = a.words.now in
    let groups : c.groups_for-groups.result ≡ groups_for a.plan (length ws) = c.groups_for-groups.ensures in
    let need : c.times_needed-needed.result ≡ cond a.plan.frame_time (groups_for a.plan (length ws)) 0 =
    c.times_needed-needed.ensures ∙ ap (λ (k : ℕ). cond a.plan.frame_time k 0) groups in
    let number = c.if-times-needed.false ∙ need in
    let late = c.first_late-late.ensures in
    rw (time_late a.plan ts (length a.out.now) ws number (λ z. c.if-late-times.true (late ∙ z)))
    (c.refusal-then-late-times.ensures ∙ ap (λ (q : ℕ). refusal 5 q 0) late, refl)

group_words-requires : tie.Need-group_words-requires
group_words-requires c κs = search rules

overflow_mul-bytes : tie.Need-overflow_mul-bytes
overflow_mul-bytes c = search rules

overflow_mul-bytes-2 : tie.Need-overflow_mul-bytes-2
overflow_mul-bytes-2 c =
    let a = c.args in
    let q = c.requires in
    let ts = a.times.now in
    let ws = a.words.now in
    let groups : c.groups_for-groups.result ≡ groups_for a.plan (length ws) = c.groups_for-groups.ensures in
    let bytes : c.groups_for-groups.result * (3 * c.group_words.result) ≡ groups_for a.plan (length ws) * (3 * group_words a.plan) =
    ap₂ (λ (g w : ℕ). g * (3 * w)) groups c.group_words.ensures.0 in
    rw bytes (omega (arith, small a.plan q.0 (length ws) q.1))

refusal-requires-then-out-bytes : tie.Need-refusal-requires-then-out-bytes
refusal-requires-then-out-bytes c κs = search rules

returns-then-out-bytes : tie.Need-returns-then-out-bytes
returns-then-out-bytes c =
    let a = c.args in
    let q = c.requires in
    let ts = a.times.now in
    let ws = a.words.now in
    let groups : c.groups_for-groups.result ≡ groups_for a.plan (length ws) = c.groups_for-groups.ensures in
    let need : c.times_needed-needed.result ≡ cond a.plan.frame_time (groups_for a.plan (length ws)) 0 =
    c.times_needed-needed.ensures ∙ ap (λ (k : ℕ). cond a.plan.frame_time k 0) groups in
    let number = c.if-times-needed.false ∙ need in
    let size = sym c.first_late-late.ensures ∙ c.if-late-times.false in
    let bytes : c.groups_for-groups.result * (3 * c.group_words.result) ≡ groups_for a.plan (length ws) * (3 * group_words a.plan) =
    ap₂ (λ (g w : ℕ). g * (3 * w)) groups c.group_words.ensures.0 in
    rw (room_short a.plan ts (length a.out.now) ws number size (rw bytes at c.if-out-bytes.true))
    (c.refusal-then-out-bytes.ensures ∙ ap (λ (q : ℕ). refusal 6 q 0) bytes, refl)

write_groups-requires : tie.Need-write_groups-requires
write_groups-requires c κs =
    let a = c.args in
    let q = c.requires in
    let ts = a.times.now in
    let ws = a.words.now in
    let groups : c.groups_for-groups.result ≡ groups_for a.plan (length ws) = c.groups_for-groups.ensures in
    let size = sym c.first_late-late.ensures ∙ c.if-late-times.false in
    let bytes : c.groups_for-groups.result * (3 * c.group_words.result) ≡ groups_for a.plan (length ws) * (3 * group_words a.plan) =
    ap₂ (λ (g w : ℕ). g * (3 * w)) groups c.group_words.ensures.0 in (
      (q.0, q.1, q.2, timely ts size),
      (groups, rw groups (rw bytes at c.if-out-bytes.false)),
    )

shape_of-out : tie.Need-shape_of-out
shape_of-out c = search rules

returns : tie.Need-returns
returns c =
    let a = c.args in
    let q = c.requires in
    let ts = a.times.now in
    let ws = a.words.now in
    let groups : c.groups_for-groups.result ≡ groups_for a.plan (length ws) = c.groups_for-groups.ensures in
    let need : c.times_needed-needed.result ≡ cond a.plan.frame_time (groups_for a.plan (length ws)) 0 =
    c.times_needed-needed.ensures ∙ ap (λ (k : ℕ). cond a.plan.frame_time k 0) groups in
    let number = c.if-times-needed.false ∙ need in
    let size = sym c.first_late-late.ensures ∙ c.if-late-times.false in
    let bytes : c.groups_for-groups.result * (3 * c.group_words.result) ≡ groups_for a.plan (length ws) * (3 * group_words a.plan) =
    ap₂ (λ (g w : ℕ). g * (3 * w)) groups c.group_words.ensures.0 in
    rw (all_made a.plan ts (length a.out.now) ws number size (rw bytes at c.if-out-bytes.false))
    (ap (λ (k : ℕ). success k 0) (bytes ∙ sym (capture_length a.plan (omega (arith, q.0.words_least)) q.0.tracks_least ts ws)), c.write_groups.ensures)

pub compose_words_spec : {M : Type 1} → statement M
compose_words_spec =
    tie.close
    (tie.spec
    groups_for-groups-requires
    times_needed-needed-requires
    refusal-requires
    returns-then-times-needed
    first_late-late-requires
    refusal-requires-then-late-times
    returns-then-late-times
    group_words-requires
    overflow_mul-bytes
    overflow_mul-bytes-2
    refusal-requires-then-out-bytes
    returns-then-out-bytes
    write_groups-requires
    shape_of-out
    returns)
