-- Bits that come in pieces: the bytes that they fill, and the bits left over.
use Rattle.std.specs.Prelude.{ℕ, zero, suc, ◌+◌, ◌*◌, ◌≤◌, ◌<◌, Bool, true, false, ◌&&◌, ◌≡◌, refl, List, [], ◌∷◌, ◌++◌, length}
use Rattle.std.proofs.Common.{arith, ap, sym, ◌∙◌}
use Rattle.format.specs.Lists.{All, nil, cons}
use Rattle.format.specs.Bits.{num_of, packed}
use Rattle.stream_rules.specs.Stream.{whole_bytes, rest_bits}

pub whole_append : (xs ys : List ℕ) → whole_bytes (xs ++ ys) ≡ whole_bytes xs ++ whole_bytes (rest_bits xs ++ ys)
unfolding whole_bytes rest_bits
whole_append [] ys = refl
whole_append (a ∷ []) ys = refl
whole_append (a ∷ b ∷ []) ys = refl
whole_append (a ∷ b ∷ c ∷ []) ys = refl
whole_append (a ∷ b ∷ c ∷ d ∷ []) ys = refl
whole_append (a ∷ b ∷ c ∷ d ∷ e ∷ []) ys = refl
whole_append (a ∷ b ∷ c ∷ d ∷ e ∷ f ∷ []) ys = refl
whole_append (a ∷ b ∷ c ∷ d ∷ e ∷ f ∷ g ∷ []) ys = refl
whole_append (a ∷ b ∷ c ∷ d ∷ e ∷ f ∷ g ∷ h ∷ rest) ys = ap (λ (l : List ℕ). num_of (a ∷ b ∷ c ∷ d ∷ e ∷ f ∷ g ∷ h ∷ []) ∷ l) (whole_append rest ys)

pub rest_append : (xs ys : List ℕ) → rest_bits (xs ++ ys) ≡ rest_bits (rest_bits xs ++ ys)
unfolding rest_bits
rest_append [] ys = refl
rest_append (a ∷ []) ys = refl
rest_append (a ∷ b ∷ []) ys = refl
rest_append (a ∷ b ∷ c ∷ []) ys = refl
rest_append (a ∷ b ∷ c ∷ d ∷ []) ys = refl
rest_append (a ∷ b ∷ c ∷ d ∷ e ∷ []) ys = refl
rest_append (a ∷ b ∷ c ∷ d ∷ e ∷ f ∷ []) ys = refl
rest_append (a ∷ b ∷ c ∷ d ∷ e ∷ f ∷ g ∷ []) ys = refl
rest_append (a ∷ b ∷ c ∷ d ∷ e ∷ f ∷ g ∷ h ∷ rest) ys = rest_append rest ys

pub packed_append : (xs ys : List ℕ) → packed (xs ++ ys) ≡ whole_bytes xs ++ packed (rest_bits xs ++ ys)
unfolding whole_bytes rest_bits packed
packed_append [] ys = refl
packed_append (a ∷ []) ys = refl
packed_append (a ∷ b ∷ []) ys = refl
packed_append (a ∷ b ∷ c ∷ []) ys = refl
packed_append (a ∷ b ∷ c ∷ d ∷ []) ys = refl
packed_append (a ∷ b ∷ c ∷ d ∷ e ∷ []) ys = refl
packed_append (a ∷ b ∷ c ∷ d ∷ e ∷ f ∷ []) ys = refl
packed_append (a ∷ b ∷ c ∷ d ∷ e ∷ f ∷ g ∷ []) ys = refl
packed_append (a ∷ b ∷ c ∷ d ∷ e ∷ f ∷ g ∷ h ∷ rest) ys = ap (λ (l : List ℕ). num_of (a ∷ b ∷ c ∷ d ∷ e ∷ f ∷ g ∷ h ∷ []) ∷ l) (packed_append rest ys)

pub rest_short : (xs : List ℕ) → length (rest_bits xs) < 8
unfolding rest_bits
rest_short [] = omega arith
rest_short (a ∷ []) = omega arith
rest_short (a ∷ b ∷ []) = omega arith
rest_short (a ∷ b ∷ c ∷ []) = omega arith
rest_short (a ∷ b ∷ c ∷ d ∷ []) = omega arith
rest_short (a ∷ b ∷ c ∷ d ∷ e ∷ []) = omega arith
rest_short (a ∷ b ∷ c ∷ d ∷ e ∷ f ∷ []) = omega arith
rest_short (a ∷ b ∷ c ∷ d ∷ e ∷ f ∷ g ∷ []) = omega arith
rest_short (a ∷ b ∷ c ∷ d ∷ e ∷ f ∷ g ∷ h ∷ rest) = rest_short rest

-- the bits are those of the bytes, and those left over
pub whole_size : (xs : List ℕ) → length (whole_bytes xs) * 8 + length (rest_bits xs) ≡ length xs
unfolding whole_bytes rest_bits
whole_size [] = refl
whole_size (a ∷ []) = refl
whole_size (a ∷ b ∷ []) = refl
whole_size (a ∷ b ∷ c ∷ []) = refl
whole_size (a ∷ b ∷ c ∷ d ∷ []) = refl
whole_size (a ∷ b ∷ c ∷ d ∷ e ∷ []) = refl
whole_size (a ∷ b ∷ c ∷ d ∷ e ∷ f ∷ []) = refl
whole_size (a ∷ b ∷ c ∷ d ∷ e ∷ f ∷ g ∷ []) = refl
whole_size (a ∷ b ∷ c ∷ d ∷ e ∷ f ∷ g ∷ h ∷ rest) = omega (arith, whole_size rest)

-- fewer than eight fill no byte
pub whole_none : (xs : List ℕ) → length xs < 8 → whole_bytes xs ≡ []
unfolding whole_bytes
whole_none [] l = refl
whole_none (a ∷ []) l = refl
whole_none (a ∷ b ∷ []) l = refl
whole_none (a ∷ b ∷ c ∷ []) l = refl
whole_none (a ∷ b ∷ c ∷ d ∷ []) l = refl
whole_none (a ∷ b ∷ c ∷ d ∷ e ∷ []) l = refl
whole_none (a ∷ b ∷ c ∷ d ∷ e ∷ f ∷ []) l = refl
whole_none (a ∷ b ∷ c ∷ d ∷ e ∷ f ∷ g ∷ []) l = refl
whole_none (a ∷ b ∷ c ∷ d ∷ e ∷ f ∷ g ∷ h ∷ rest) l = absurd (omega arith)

pub rest_all : (P : ℕ → Type 0) (xs : List ℕ) → All P xs → All P (rest_bits xs)
unfolding rest_bits
rest_all P [] w = w
rest_all P (a ∷ []) w = w
rest_all P (a ∷ b ∷ []) w = w
rest_all P (a ∷ b ∷ c ∷ []) w = w
rest_all P (a ∷ b ∷ c ∷ d ∷ []) w = w
rest_all P (a ∷ b ∷ c ∷ d ∷ e ∷ []) w = w
rest_all P (a ∷ b ∷ c ∷ d ∷ e ∷ f ∷ []) w = w
rest_all P (a ∷ b ∷ c ∷ d ∷ e ∷ f ∷ g ∷ []) w = w
rest_all P (a ∷ b ∷ c ∷ d ∷ e ∷ f ∷ g ∷ h ∷ rest) (cons _ (cons _ (cons _ (cons _ (cons _ (cons _ (cons _ (cons _ w)))))))) = rest_all P rest w
