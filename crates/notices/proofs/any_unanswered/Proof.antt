use mathlib.Core.Path.{◌≡◌, ap, ap₂, sym, ◌∙◌}
use Prim.Native.Nat.{ℕ}
use lib.Bits.{bit_or}
use Rattle.notices.specs.Marks.{in_word, marked, unanswered}
use Rattle.notices.specs.Laws.Marks.{joined, marked_label}
use borrow.Author.Rules.{rules}
use Rattle.notices.proofs.any_unanswered.Statement.{statement}
use Rattle.notices.proofs.any_unanswered.Tie as tie
use Rattle.notices.proofs.any_unanswered.Reads as reads
use Rattle.notices.proofs.any_unanswered.Lts as lts
use Rattle.notices.proofs.in_code.Reads as in-code-reads
use Rattle.notices.proofs.shared_bits.Reads as shared-bits-reads
use Rattle.notices.proofs.unanswered.Reads as unanswered-reads
use Rattle.word.proofs.join.Reads as join-reads

shared_bits-ones-requires : tie.Need-shared_bits-ones-requires
shared_bits-ones-requires c κs = search rules

shared_bits-requires : tie.Need-shared_bits-requires
shared_bits-requires c κs = search rules

in_code-requires : tie.Need-in_code-requires
in_code-requires c κs = search rules

join-mask-requires : tie.Need-join-mask-requires
join-mask-requires c κs = search rules

in_code-requires-2 : tie.Need-in_code-requires-2
in_code-requires-2 c κs = search rules

join-value-requires : tie.Need-join-value-requires
join-value-requires c κs = search rules

-- the two numbers by which notices are told
abbrev entry : tie.After-join-value → tie.Start
entry c = c.before.before.before.before.before.before.before

abbrev ones : tie.After-join-value → ℕ
ones c = c.shared_bits-ones.result

abbrev bits : tie.After-join-value → ℕ
bits c = bit_or (ones c) c.shared_bits.result

mask_is : (c : tie.After-join-value) → c.join-mask.result ≡ in_word (entry c).args.parity (bits c) 15
mask_is c =
    let i = c.in_code in
    joined (entry c).args.parity (bits c) 15 i.result c.join-mask.result i.ensures.0 c.join-mask.ensures

value_is : (c : tie.After-join-value) → c.join-value.result ≡ in_word (entry c).args.parity (ones c) 4
value_is c =
    let i = c.in_code-2 in
    joined (entry c).args.parity (ones c) 4 i.result c.join-value.result i.ensures.0 c.join-value.ensures

unanswered-requires : tie.Need-unanswered-requires
unanswered-requires c κs =
    let s = entry c in
    (s.requires.0, s.requires.1, s.requires.2, λ w e. marked_label s.args.parity (bits c) (ones c) w (sym (ap₂ (λ m v. marked m v w) (mask_is c) (value_is c)) ∙ e))

returns : tie.Need-returns
returns c =
    let d = c.before in
    let s = (entry d).args in
    let o = d.shared_bits-ones.ensures.0 in
    let z = d.shared_bits.ensures.0 in
    let m = mask_is d ∙ ap₂ (λ x y. in_word s.parity (bit_or x y) 15) o z in
    let v = value_is d ∙ ap (λ x. in_word s.parity x 4) o in
    c.unanswered.ensures ∙ ap₂ (λ x y. unanswered x y s.parity s.row.now) m v

pub any_unanswered_spec : {M : Type 1} → statement M
any_unanswered_spec =
    tie.close
    (tie.spec
    shared_bits-ones-requires
    shared_bits-requires
    in_code-requires
    join-mask-requires
    in_code-requires-2
    join-value-requires
    unanswered-requires
    returns)
