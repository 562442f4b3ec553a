-- Five words more, all the same.
use Prim.Native.Nat.{ℕ, ◌*◌, ◌^◌, ◌<◌}
use native.Mathlib.Nat.{mod-eq_of_lt, div-eq_of_lt}
use mathlib.Core.Path.{◌≡◌, refl, sym, ap, ap₂, ◌∙◌}
use mathlib.Core.List.{flat_map}
use lib.Bits.{bit_xor, xor_zero_l, xor_zero_r}
use Rattle.format.specs.Bits.{bits_of}
use Rattle.format.specs.Check.{check_of, remainder}
use Rattle.format.specs.Word.{ones}
use Rattle.crc.specs.Running.{next_check, next_five}
use Rattle.crc.specs.Sum.{folded, oddly}
use Rattle.crc.proofs.Xor.{xor_swap}
use Rattle.crc.proofs.Linear.{Linear, raised, after, added, agreed}
use Rattle.crc.proofs.Kept.{part, part_xor, made, made_apart, oddly_xor, kept_xor, next_xor, ones_on}

next_on : (a b u v : ℕ) {c : ℕ} → c ≡ bit_xor a b → next_check c (bit_xor u v) ≡ bit_xor (next_check a u) (next_check b v)
next_on a b u v e = ap (λ (n : ℕ). next_check n (bit_xor u v)) e ∙ next_xor a b u v

five_xor : (a b u v : ℕ) → next_five (bit_xor a b) (bit_xor u v) ≡ bit_xor (next_five a u) (next_five b v)
five_xor a b u v =
    let one : ℕ → ℕ = λ n. next_check n u in
    let two : ℕ → ℕ = λ n. next_check n v in
    next_on (one (one (one (one a)))) (two (two (two (two b)))) u v
    (next_on (one (one (one a))) (two (two (two b))) u v (next_on (one (one a)) (two (two b)) u v (next_on (one a) (two b) u v (next_xor a b u v))))

zeros_five_xor : Linear (λ r. next_five r 0)
zeros_five_xor a b = five_xor a b 0 0

pub five_apart : (m w : ℕ) → next_five m w ≡ bit_xor (next_five m 0) (next_five 0 w)
five_apart m w = ap₂ next_five (sym (xor_zero_r m)) (sym (xor_zero_l w)) ∙ five_xor m 0 0 w

-- by X^120
abbrev pub past : ℕ → ℕ
past r = bit_xor (r * 2 ^ 8) r

past_xor : Linear past
past_xor = added (λ r. r * 2 ^ 8) (λ r. r) (raised 8) (λ x y. refl)

rest_five_on : (r : ℕ) → r < 2 ^ 30 → part (folded (past r)) ≡ next_five (part r) 0
unfolding next_check check_of remainder bits_of flat_map ones
rest_five_on =
    agreed (λ r. part (folded (past r))) (λ r. next_five (part r) 0)
    (after (λ v. part (folded v)) past kept_xor past_xor)
    (after (λ r. next_five r 0) part zeros_five_xor part_xor) 30 tt

ones_five_on : (o : ℕ) → oddly o ≡ next_five (oddly o) 0
ones_five_on o =
    let e : oddly o ≡ next_check (oddly o) 0 = ones_on o in
    let z : ℕ → ℕ = λ n. next_check n 0 in
    e ∙ ap z (e ∙ ap z (e ∙ ap z (e ∙ ap z e)))

-- 30 bits stay as they are
folded_small : (v : ℕ) → v < 2 ^ 30 → folded v ≡ v
folded_small v h = rw (mod-eq_of_lt h, div-eq_of_lt h) (xor_zero_r (bit_xor v 0) ∙ xor_zero_r v)

pub five_more : (r o f p : ℕ) → r < 2 ^ 30 → f < 2 ^ 30 → made (folded (bit_xor (past r) f)) (bit_xor o p) ≡ bit_xor (next_five (made r o) 0) (made f p)
five_more r o f p hr hf =
    made_apart (folded (bit_xor (past r) f)) (bit_xor o p)
    ∙ ap₂ bit_xor (kept_xor (past r) f ∙ ap (λ (n : ℕ). bit_xor (part (folded (past r))) (part n)) (folded_small f hf)) (oddly_xor o p)
    ∙ xor_swap (part (folded (past r))) (part f) (oddly o) (oddly p)
    ∙ ap₂ bit_xor
    (ap₂ bit_xor (rest_five_on r hr) (ones_five_on o) ∙ sym (zeros_five_xor (part r) (oddly o)) ∙ ap (λ (n : ℕ). next_five n 0) (sym (made_apart r o)))
    (sym (made_apart f p))
