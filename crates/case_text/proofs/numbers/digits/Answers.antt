use Rattle.std.proofs.Common.{◌≡◌, ℕ, ◌+◌, ◌*◌, ◌%◌, ◌<◌, ◌≤◌, true, false, nat_lt, cond, List, ◌∷◌, drop, get_or, ap, sym, ◌∙◌, subst, rules}
use Rattle.std.proofs.lemmas.List.{drop_more}
use Rattle.std.proofs.lemmas.List.{drop_all}
use Rattle.case_text.specs.Number.{digit, digits_from}
use Rattle.case_text.proofs.numbers.digits.Goals as goal

further : (base v b : ℕ) (bs : List ℕ) → digit b < base → digits_from base v (b ∷ bs) ≡ digits_from base (v % 1152921504606846976 * base + digit b) bs
further base v b bs less = let yes : nat_lt (digit b) base ≡ true = search rules in ap (λ t. cond t (digits_from base (v % 1152921504606846976 * base + digit b) bs) v) yes

ended : (base v b : ℕ) (bs : List ℕ) → base ≤ digit b → digits_from base v (b ∷ bs) ≡ v
ended base v b bs more = let no : nat_lt (digit b) base ≡ false = search rules in ap (λ t. cond t (digits_from base (v % 1152921504606846976 * base + digit b) bs) v) no

pub returns-in_default : goal.returns-in_default
returns-in_default c =
    let now = c.args.word.now in
    let i = c.loop-byte.byte-index in
    sym (ended c.args.base c.loop-byte.value (get_or now i 0) (drop (i + 1) now) c.in_default.ensures)
    ∙ sym (ap (digits_from c.args.base c.loop-byte.value) (drop_more now i 0 c.loop-byte-test.true))
    ∙ c.loop-byte.invariant

pub loop-byte-preserved : goal.loop-byte-preserved
loop-byte-preserved c =
    let now = c.args.word.now in
    let i = c.loop-byte.byte-index in
    let base = c.args.base in
    let value = c.loop-byte.value in
    let b = get_or now i 0 in
    let is = c.in-Some.ensures.0 in
    ap (λ d. digits_from base (value % 1152921504606846976 * base + d) (drop (i + 1) now)) is
    ∙ sym (further base value b (drop (i + 1) now) (subst (λ d. d < base) is c.in-Some.ensures.1))
    ∙ sym (ap (digits_from base value) (drop_more now i 0 c.loop-byte-test.true))
    ∙ c.loop-byte.invariant

pub returns : goal.returns
returns c =
    let now = c.args.word.now in
    sym (ap (digits_from c.args.base c.loop-byte.value) (drop_all c.loop-byte.byte-index now c.loop-byte-test.false)) ∙ c.loop-byte.invariant
