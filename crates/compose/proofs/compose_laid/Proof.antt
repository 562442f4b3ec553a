use Prim.Native.Nat.{ℕ, ◌-◌, ◌<◌, ◌≤◌}
use native.Mathlib.Omega.{arith}
use mathlib.Core.Path.{◌≡◌, refl, ap, sym, ◌∙◌}
use mathlib.Core.List.{List}
use lib.ListN.{length, take}
use lib.Seq.{length-take-le}
use borrow.Author.Rules.{rules}
use Rattle.format.specs.Answer.{refusal}
use Rattle.notices.specs.Roles.{Words}
use Rattle.log_bits.specs.Bits.{bits_in}
use Rattle.compose.specs.Laid.{open_word}
use Rattle.compose.proofs.Answered.{unsent_words, laid_open, laid_answered, open_within, words_take}
use Rattle.compose.proofs.compose_laid.Statement.{statement}
use Rattle.compose.proofs.compose_laid.Tie as tie

-- where the earliest open notice was looked for
abbrev Looked : Type 0
Looked = tie.After-first_open-open

abbrev entry : Looked → tie.Start
entry c = c.before.before.before.before

low : (s : tie.Start) → Words s.args.words.now
low s = unsent_words s.args.plan s.args.words.now s.requires.2

within : (c : Looked) → c.first_open-open.result ≤ length (entry c).args.words.now
within c = omega (arith, c.first_open-open.ensures, open_within (entry c).args.kinds (entry c).args.words.now)

first_open-open-requires : tie.Need-first_open-open-requires
first_open-open-requires c κs = let s = c.before.before.before in (low s, omega (arith, s.requires.1))

overflow_sub-before : tie.Need-overflow_sub-before
overflow_sub-before c = search rules

slice_bounds-bits_before-end : tie.Need-slice_bounds-bits_before-end
slice_bounds-bits_before-end c = let l = c.before in sym (length-take-le _ _ (omega (arith, within l)))

bits_before-requires : tie.Need-bits_before-requires
bits_before-requires c κs =
    let l = c.before in
    let s = entry l in
    (words_take (l.first_open-open.result - 1) s.args.words.now (low s), omega (arith, length-take-le (l.first_open-open.result - 1) s.args.words.now (omega (arith, within l)), within l, s.requires.1))

refusal-requires : tie.Need-refusal-requires
refusal-requires c κs = search rules

returns-then-open-ne0 : tie.Need-returns-then-open-ne0
returns-then-open-ne0 c =
    let l = c.before.before.before in
    let a = (entry l).args in
    let e : l.first_open-open.result ≡ open_word a.kinds a.words.now = l.first_open-open.ensures in
    rw (laid_open a.plan a.kinds a.times.now (length a.out.now) a.words.now (λ z. c.if-open-ne0.true (e ∙ z)))
    (c.refusal.ensures ∙ ap (λ (q : ℕ). refusal 15 q 0) (c.bits_before.ensures ∙ ap (λ (n : ℕ). bits_in a.kinds (take (n - 1) a.words.now)) e), refl)

compose_words-requires : tie.Need-compose_words-requires
compose_words-requires c κs = search rules

shape_of-out : tie.Need-shape_of-out
shape_of-out c = search rules

returns : tie.Need-returns
returns c =
    let w = c.before.before in
    let l = w.before.before.before in
    let a = (entry l).args in
    rw (laid_answered a.plan a.kinds a.times.now (length a.out.now) a.words.now (sym l.first_open-open.ensures ∙ w.if-open-ne0.false))
    w.compose_words.ensures

pub compose_laid_spec : {M : Type 1} → statement M
compose_laid_spec =
    tie.close
    (tie.spec
    first_open-open-requires
    overflow_sub-before
    slice_bounds-bits_before-end
    bits_before-requires
    refusal-requires
    returns-then-open-ne0
    compose_words-requires
    shape_of-out
    returns)
