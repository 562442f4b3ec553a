-- One word more, and two: what is kept of the words makes their check. Both sides are linear over xor, and are computed at the powers of two.
use Prim.Native.Nat.{ℕ, ◌+◌, ◌*◌, ◌^◌, ◌<◌}
use mathlib.Core.Path.{◌≡◌, refl, sym, ap, ap₂, ◌∙◌}
use mathlib.Core.List.{flat_map}
use lib.Bits.{bit_xor, xor_shifted}
use Rattle.format.specs.Bits.{bits_of}
use Rattle.format.specs.Check.{check_of, remainder}
use Rattle.format.specs.Word.{ones}
use Rattle.crc.specs.Running.{next_check}
use Rattle.crc.specs.Sum.{folded, oddly}
use Rattle.crc.proofs.Xor.{xor_assoc, xor_swap}
use Rattle.crc.proofs.Linear.{Linear, raised, kept, after, added, agreed}
use Rattle.crc.proofs.Kept.{part, part_xor, made, made_apart, folded_xor, oddly_xor, kept_xor, zeros_xor, zeros_twice_xor, first_xor, next_apart, ones_on}

-- by X^24, and by X^48
abbrev pub far : ℕ → ℕ
far r = bit_xor r (r * 2 ^ 1) * 2 ^ 9

abbrev pub odd : ℕ → ℕ
odd r = bit_xor r (r * 2 ^ 1)

abbrev pub farther : ℕ → ℕ
farther r = bit_xor (odd r) (odd r * 2 ^ 2) * 2 ^ 3

odd_lin : Linear odd
odd_lin = added (λ r. r) (λ r. r * 2 ^ 1) (λ x y. refl) (raised 1)

far_xor : Linear far
far_xor = after (λ r. r * 2 ^ 9) odd (raised 9) odd_lin

farther_xor : Linear farther
farther_xor =
    after (λ r. r * 2 ^ 3) (λ r. bit_xor (odd r) (odd r * 2 ^ 2)) (raised 3)
    (added odd (λ r. odd r * 2 ^ 2) odd_lin (after (λ r. r * 2 ^ 2) odd (raised 2) odd_lin))

-- the rest, a word of zeros later and two later
rest_on : (r : ℕ) → r < 2 ^ 30 → part (folded (far r)) ≡ next_check (part r) 0
unfolding next_check check_of remainder bits_of flat_map ones
rest_on =
    agreed (λ r. part (folded (far r))) (λ r. next_check (part r) 0)
    (after part (λ r. folded (far r)) part_xor (after folded far folded_xor far_xor))
    (after (λ r. next_check r 0) part zeros_xor part_xor) 30 tt

rest_twice_on : (r : ℕ) → r < 2 ^ 30 → part (folded (farther r)) ≡ next_check (next_check (part r) 0) 0
unfolding next_check check_of remainder bits_of flat_map ones
rest_twice_on =
    agreed (λ r. part (folded (farther r))) (λ r. next_check (next_check (part r) 0) 0)
    (after part (λ r. folded (farther r)) part_xor (after folded farther folded_xor farther_xor))
    (after (λ r. next_check (next_check r 0) 0) part zeros_twice_xor part_xor) 30 tt

-- a word that comes, and one before another
word_on : (w : ℕ) → w < 2 ^ 24 → bit_xor (part (folded w)) (oddly w) ≡ next_check 0 w
unfolding next_check check_of remainder bits_of flat_map ones
word_on =
    agreed (λ w. bit_xor (part (folded w)) (oddly w)) (next_check 0)
    (added (λ w. part (folded w)) oddly (after part folded part_xor folded_xor) oddly_xor) first_xor 24 tt

before_on : (w : ℕ) → w < 2 ^ 24 → bit_xor (part (folded (w * 2 ^ 24))) (oddly w) ≡ next_check (next_check 0 w) 0
unfolding next_check check_of remainder bits_of flat_map ones
before_on =
    agreed (λ w. bit_xor (part (folded (w * 2 ^ 24))) (oddly w)) (λ w. next_check (next_check 0 w) 0)
    (added (λ w. part (folded (w * 2 ^ 24))) oddly (after (λ v. part (folded v)) (λ w. w * 2 ^ 24) kept_xor (raised 24)) oddly_xor)
    (after (λ r. next_check r 0) (next_check 0) zeros_xor first_xor) 24 tt

pub one_more : (r o w : ℕ) → r < 2 ^ 30 → w < 2 ^ 24 → made (folded (bit_xor (far r) w)) (bit_xor o w) ≡ next_check (made r o) w
one_more r o w hr hw =
    made_apart (folded (bit_xor (far r) w)) (bit_xor o w)
    ∙ ap₂ bit_xor (kept_xor (far r) w) (oddly_xor o w)
    ∙ xor_swap (part (folded (far r))) (part (folded w)) (oddly o) (oddly w)
    ∙ ap₂ bit_xor (ap₂ bit_xor (rest_on r hr) (ones_on o)) (word_on w hw)
    ∙ ap (λ (n : ℕ). bit_xor n (next_check 0 w)) (sym (zeros_xor (part r) (oddly o)) ∙ ap (λ (n : ℕ). next_check n 0) (sym (made_apart r o)))
    ∙ sym (next_apart (made r o) w)

-- two words of zeros go by what is kept
two_on : (r o : ℕ) → r < 2 ^ 30 → bit_xor (part (folded (farther r))) (oddly o) ≡ next_check (next_check (made r o) 0) 0
two_on r o hr =
    ap₂ bit_xor (rest_twice_on r hr) (ones_on o ∙ ap (λ (n : ℕ). next_check n 0) (ones_on o))
    ∙ sym (zeros_twice_xor (part r) (oddly o)) ∙ ap (λ (n : ℕ). next_check (next_check n 0) 0) (sym (made_apart r o))

two_apart : (m a b : ℕ) → next_check (next_check m a) b ≡ bit_xor (next_check (next_check m 0) 0) (bit_xor (next_check (next_check 0 a) 0) (next_check 0 b))
two_apart m a b =
    next_apart (next_check m a) b
    ∙ ap (λ (n : ℕ). bit_xor n (next_check 0 b)) (ap (λ (n : ℕ). next_check n 0) (next_apart m a) ∙ zeros_xor (next_check m 0) (next_check 0 a))
    ∙ xor_assoc (next_check (next_check m 0) 0) (next_check (next_check 0 a) 0) (next_check 0 b)

pub two_more : (r o a b : ℕ) → r < 2 ^ 30 → a < 2 ^ 24 → b < 2 ^ 24
    → made (folded (bit_xor (farther r) (a * 2 ^ 24 + b))) (bit_xor o (bit_xor a b)) ≡ next_check (next_check (made r o) a) b
two_more r o a b hr ha hb =
    let kept : ℕ → ℕ = λ v. part (folded v) in
    made_apart (folded (bit_xor (farther r) (a * 2 ^ 24 + b))) (bit_xor o (bit_xor a b))
    ∙ ap₂ bit_xor
    (kept_xor (farther r) (a * 2 ^ 24 + b)
    ∙ ap (λ (n : ℕ). bit_xor (kept (farther r)) n) (ap kept (sym (xor_shifted a 24 b hb)) ∙ kept_xor (a * 2 ^ 24) b))
    (oddly_xor o (bit_xor a b) ∙ ap (bit_xor (oddly o)) (oddly_xor a b))
    ∙ xor_swap (kept (farther r)) (bit_xor (kept (a * 2 ^ 24)) (kept b)) (oddly o) (bit_xor (oddly a) (oddly b))
    ∙ ap₂ bit_xor (two_on r o hr) (xor_swap (kept (a * 2 ^ 24)) (kept b) (oddly a) (oddly b) ∙ ap₂ bit_xor (before_on a ha) (word_on b hb))
    ∙ sym (two_apart (made r o) a b)
