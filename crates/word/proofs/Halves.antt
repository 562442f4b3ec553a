-- A number of microseconds taken apart by its two halves (document 02, K6): a long division by 10000 in digits of 16 bits.
use Prim.Native.Nat.{ℕ, ◌+◌, ◌*◌, ◌/◌, ◌%◌}
use mathlib.Core.Path.{◌≡◌}
use native.Mathlib.Omega.{arith}
use Rattle.format.specs.Time.{high_part, low_part, micro_part}
use Rattle.format.specs.declared.Time.{Time}
use Rattle.word.specs.Parts.{parts_of}

-- the upper half and the higher digit of the lower one
abbrev first : ℕ → ℕ
first t = t / 4294967296 * 65536 + t % 4294967296 / 65536

-- what is left of that, and the lower digit
abbrev second : ℕ → ℕ
second t = first t % 10000 * 65536 + t % 4294967296 % 65536

high_half : (t : ℕ) → first t / 10000 ≡ high_part t
high_half t = omega arith

-- all but the high part's share
second_is : (t : ℕ) → second t ≡ 10000 * low_part t + micro_part t
second_is t = omega (arith, high_half t)

low_half : (t : ℕ) → second t / 10000 ≡ low_part t
low_half t = omega (arith, second_is t)

micro_half : (t : ℕ) → second t % 10000 ≡ micro_part t
micro_half t = omega (arith, second_is t)

pub by_halves : (t : ℕ) → ◌≡◌ {A = Time} (record { high = first t / 10000; low = second t / 10000; micro = second t % 10000 }) (parts_of t)
by_halves t = rw (high_half t, low_half t, micro_half t)
