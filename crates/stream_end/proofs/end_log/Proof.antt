use native.Mathlib.Omega.{arith}
use mathlib.Core.Path.{◌≡◌, ap, subst, sym, ◌∙◌}
use Prim.Native.Nat.{ℕ}
use Rattle.format.specs.Answer.{refusal}
use Rattle.format.specs.Read.{finish}
use Rattle.data_word.specs.Holding.{held_of}
use Rattle.data_word.specs.Meaning.{Closes}
use Rattle.data_word.proofs.Meaning.{finish_means}
use Rattle.stream_rules.specs.Stream.{earliest}
use Rattle.stream_rules.specs.Laws.Stream.Fits.{NumberOk}
use Rattle.stream_end.proofs.Closing.{earliest_is, ends_cut, ends_last, ends_open, ends_put, stored_ok}
use borrow.Author.Rules.{rules}
use Rattle.stream_end.proofs.end_log.Statement.{statement}
use Rattle.stream_end.proofs.end_log.Tie as tie
use Rattle.stream_end.proofs.end_log.Reads as reads
use Rattle.stream_end.proofs.end_log.Lts as lts
use Rattle.capture_parts.proofs.refusal.Reads as refusal-reads
use Rattle.data_word.proofs.finish.Reads as finish-reads
use Rattle.notices.proofs.at_end.Reads as at-end-reads
use Rattle.notices.proofs.is_clear.Reads as is-clear-reads
use Rattle.stream_end.proofs.put_end.Reads as put-end-reads
use Rattle.stream_group.proofs.stored_of.Reads as stored-of-reads

-- ---- the places

-- what is held is finished, or cut
abbrev Done : Type 0
Done = tie.After-finish-step

abbrev start : Done → tie.Start
start f = f.before.before.before

closes : (f : Done) → Closes (finish (held_of (start f).args.held) (start f).args.since) f.finish-step.result
closes f =
    let s = start f in
    subst (Closes (finish (held_of s.args.held) s.args.since)) (sym (f.finish-step.ensures s.args.since)) (finish_means s.args.held s.requires.sane s.args.since)

-- the earliest notice is known
abbrev Noted : Type 0
Noted = tie.After-at_end-notice

abbrev done : Noted → Done
done n = n.before.before.before

abbrev from : Noted → tie.Start
from n = start (done n)

notice : (n : Noted) → n.at_end-notice.result ≡ earliest (from n).args.table.now
notice n = n.at_end-notice.ensures ∙ earliest_is (from n).args.table.now

none : (n : Noted) → n.at_end-notice.result ≡ 0 → earliest (from n).args.table.now ≡ 0
none n z = sym (notice n) ∙ z

-- ---- the needs

finish-step-requires : tie.Need-finish-step-requires
finish-step-requires c κs = search rules

refusal-requires : tie.Need-refusal-requires
refusal-requires c κs = search rules

returns-then-step : tie.Need-returns-then-step
returns-then-step c =
    let f = c.before.before in
    let a = (start f).args in
    ends_cut a.plan a.held a.since a.pen a.table.now a.log.now f.finish-step.result (closes f) c.if-step.true c.refusal.ensures

is_clear-requires : tie.Need-is_clear-requires
is_clear-requires c κs = search rules

at_end-notice-requires : tie.Need-at_end-notice-requires
at_end-notice-requires c κs = (omega (arith, (start c.before.before).requires.long), c.is_clear.ensures)

stored_of-requires : tie.Need-stored_of-requires
stored_of-requires c κs =
    let n = c.before in
    let s = from n in
    let k = stored_ok s.args.plan s.requires.shape s.args.groups n.at_end-notice.result s.requires.size c.if-notice-ne0.true
    (subst (NumberOk s.args.plan s.args.groups) (sym (notice n)) s.requires.waits) in
    (s.requires.shape, k.some, k.dealt, k.low)

refusal-requires-then-notice-ne0 : tie.Need-refusal-requires-then-notice-ne0
refusal-requires-then-notice-ne0 c κs = search rules

returns-then-notice-ne0 : tie.Need-returns-then-notice-ne0
returns-then-notice-ne0 c =
    let n = c.before.before.before in
    let f = done n in
    let a = (start f).args in
    ends_open a.plan a.held a.since a.pen a.table.now a.log.now f.finish-step.result (closes f) n.if-step.false n.at_end-notice.result (notice n)
    c.if-notice-ne0.true
    (c.refusal-then-notice-ne0.ensures ∙ ap (λ (q : ℕ). refusal 15 q 0) c.stored_of.ensures)

put_end-requires : tie.Need-put_end-requires
put_end-requires c κs =
    let n = c.before.before in
    let f = done n in
    let s = start f in
    let a = s.args in (
      ends_last a.plan a.held a.since a.pen a.table.now a.log.now f.finish-step.result (closes f) n.if-step.false (none n c.if-notice-ne0.false) s.requires.bits
          s.requires.few,
      s.requires.room,
    )

shape_of-log : tie.Need-shape_of-log
shape_of-log c = search rules

returns : tie.Need-returns
returns c =
    let k = c.before.before in
    let n = k.before.before.before in
    let f = done n in
    let a = (start f).args in
    ends_put a.plan a.held a.since a.pen a.table.now a.log.now f.finish-step.result (closes f) n.if-step.false (none n k.if-notice-ne0.false)
    k.put_end.ensures

pub end_log_spec : {M : Type 1} → statement M
end_log_spec =
    tie.close
    (tie.spec
    finish-step-requires
    refusal-requires
    returns-then-step
    is_clear-requires
    at_end-notice-requires
    stored_of-requires
    refusal-requires-then-notice-ne0
    returns-then-notice-ne0
    put_end-requires
    shape_of-log
    returns)
