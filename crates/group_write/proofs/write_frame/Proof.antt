use Prim.Native.Nat.{ℕ, ◌+◌, ◌*◌, ◌-◌, ◌^◌, ◌<◌}
use native.Mathlib.Omega.{arith}
use mathlib.Core.Path.{◌≡◌, refl, ap, sym, ◌∙◌}
use mathlib.Core.List.{List, [], ◌∷◌, ◌++◌}
use lib.ListN.{take}
use borrow.Author.Rules.{rules}
use Rattle.format.specs.Word.{sent}
use Rattle.format.specs.Plan.{rows, lead}
use Rattle.format.specs.Check.{check_word}
use Rattle.format.specs.Lawful.{buses}
use Rattle.format.specs.declared.Plan.{Plan}
use Rattle.format.specs.Laws.Limits.{rows_checked, rows_plain, rows_under}
use Rattle.word.proofs.Below.{sent_below, unsent_below}
use Rattle.crc.proofs.Sums.{sums_word}
use Rattle.group_write.specs.Writing.{front}
use Rattle.group_write.proofs.Words.{Written, written_is, written_length, written_word}
use Rattle.group_write.proofs.Dealt.{on_bus_0}
use Rattle.group_write.proofs.Frames.{front_count, frame_checked, frame_plain}
use Rattle.group_write.proofs.write_frame.Statement.{statement}
use Rattle.group_write.proofs.write_frame.Tie as tie

-- where all but the check word is written: the function's entry, the words dealt, and those written
abbrev Fronted : Type 0
Fronted = tie.After-write_front-sum

abbrev entry : Fronted → tie.Start
entry c = c.before.before.before.before

abbrev dealt : Fronted → List ℕ
dealt c = take (lead (entry c).args.plan) (entry c).args.times.now ++ (entry c).args.words.now

abbrev written : Fronted → List ℕ
written c = front (entry c).args.plan (dealt c) (entry c).args.track (rows (entry c).args.plan)

fronted : (c : Fronted) → Written (written c) (1 + rows (entry c).args.plan) (entry c).args.out.now c.write_front-sum.new.out
fronted c =
    let a = (entry c).args in
    record {
      is = c.write_front-sum.ensures.1;
      count = front_count a.plan (dealt c) a.track (rows a.plan);
      fits = omega (arith, (entry c).requires.1, rows_under a.plan (entry c).requires.0);
    }

-- where the check word is made
abbrev Joined : Type 0
Joined = tie.After-join

abbrev checked : tie.After-check → tie.Then-plan
checked c = c.before

abbrev at-check : tie.Then-plan → Fronted
at-check c = c.before.before.before

abbrev plan-of : tie.After-check → Plan
plan-of c = (entry (at-check (checked c))).args.plan

label_low : (c : tie.After-check) → (plan-of c).crc_label < 16
label_low c = omega (arith, (entry (at-check (checked c))).requires.0.named)

join_low : (c : Joined) → c.join.result < buses (plan-of c.before).parity * 2 ^ 20
join_low c = rw c.join.ensures (on_bus_0 (plan-of c.before).parity (plan-of c.before).crc_label c.check.result (label_low c.before) c.check.ensures.1)

-- and where it is sent, and put
abbrev sent-of : tie.After-put_word → tie.After-sent-word
sent-of c = c.before.before.before

abbrev at-sent : tie.After-sent-word → tie.Then-plan
at-sent c = checked c.before.before

check_is : (c : tie.After-sent-word) → c.sent-word.result ≡ check_word (plan-of c.before.before).parity (plan-of c.before.before).crc_label (written (at-check (at-sent c)))
check_is c =
    let t = at-sent c in
    let p = plan-of c.before.before in
    c.sent-word.ensures ∙ ap (sent p.parity) c.join.ensures
    ∙ sums_word {ws = written (at-check t)} p.parity p.crc_label c.check.result ((at-check t).write_front-sum.ensures.0 t.if-plan.true) c.check.ensures.0

write_front-sum-requires : tie.Need-write_front-sum-requires
write_front-sum-requires c κs = c.requires

check-requires : tie.Need-check-requires
check-requires c κs = ((at-check c).write_front-sum.ensures.0 c.if-plan.true).small

join-requires : tie.Need-join-requires
join-requires c κs = (omega arith, label_low c, c.check.ensures.1)

sent-word-requires : tie.Need-sent-word-requires
sent-word-requires c κs = unsent_below (entry (at-check (checked c.before))).args.plan.parity c.join.result (join_low c)

overflow_sub-plan : tie.Need-overflow_sub-plan
overflow_sub-plan c = omega (arith, (entry (at-check (at-sent c.before.before))).requires.0.words_least)

overflow_mul-plan : tie.Need-overflow_mul-plan
overflow_mul-plan c = omega (arith, (entry (at-check (at-sent c.before.before))).requires.0.words_most)

put_word-requires : tie.Need-put_word-requires
put_word-requires c κs =
    let f = at-check (at-sent c.before.before) in
    let s = entry f in (
      omega (arith, s.requires.1, s.requires.0.words_least, written_length (fronted f)),
      rw c.sent-word.ensures (sent_below s.args.plan.parity c.join.result (join_low c.before.before.before)),
    )

shape_of-out-then-plan : tie.Need-shape_of-out-then-plan
shape_of-out-then-plan c = search rules

returns-then-plan : tie.Need-returns-then-plan
returns-then-plan c =
    let k = sent-of c.before.before in
    let t = at-sent k in
    let f = at-check t in
    let s = entry f in
    let p = s.args.plan in
    let e = rows_checked p s.requires.0 t.if-plan.true in
    let w = written_word (3 * (p.words - 1)) k.sent-word.result (fronted f) (omega arith) (omega (arith, s.requires.1, s.requires.0.words_least)) e c.put_word.ensures in
    written_is w (ap (λ v. written f ++ (v ∷ [])) (check_is k) ∙ sym (frame_checked p (dealt f) s.args.track t.if-plan.true)) refl

shape_of-out-else-plan : tie.Need-shape_of-out-else-plan
shape_of-out-else-plan c = search rules

returns-else-plan : tie.Need-returns-else-plan
returns-else-plan c =
    let f = c.before.before.before in
    let s = entry f in
    written_is (fronted f) (sym (frame_plain s.args.plan (dealt f) s.args.track c.if-plan.false)) (rows_plain s.args.plan s.requires.0 c.if-plan.false)

pub write_frame_spec : {M : Type 1} → statement M
write_frame_spec =
    tie.close
    (tie.spec
    write_front-sum-requires
    check-requires
    join-requires
    sent-word-requires
    overflow_sub-plan
    overflow_mul-plan
    put_word-requires
    shape_of-out-then-plan
    returns-then-plan
    shape_of-out-else-plan
    returns-else-plan)
