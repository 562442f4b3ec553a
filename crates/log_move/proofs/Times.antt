-- A time moved by a signed number.
use Prim.Native.Nat.{ℕ, suc, ◌+◌, ◌-◌, ◌≤◌, ◌<◌}
use native.Mathlib.Omega.{arith}
use native.Mathlib.Decide.{dec_lt}
use mathlib.Core.Bool.{Bool, true, false, cond}
use mathlib.Core.Path.{◌≡◌, refl, ap₂, sym}
use lib.Dec.{T, ltb}
use lib.IntN.{ℤ, pos, negsuc, ◌+ℤ◌, sub_ℕ, nat_abs}
use lib.Signed.{lt_z, le_z, non_neg}
use mir.Syntax.{w64}
use mir.Val.{SFits, to_z, of_z}
use mir.Facts.{to_z-of_z, to_z_pos}
use borrow.Author.Tests.{ltb-true, ltb-false, leb-true, lt-ltb, le-ltb, lt-leb, le-leb}
use Rattle.log_rules.specs.Shift.{in_limits, is_time, moved, moves}
use Rattle.log_rules.specs.Laws.Shift.{moved_sum}
use Rattle.log_move.specs.Moved.{moved_number, number_of}

clash {ℓ} : {X : Type ℓ} → false ≡ true → X
clash e = let z : ◌≡◌ {A = ℕ} 0 1 = cc in absurd (omega arith)

-- ---- one time: `omega` does not read ℤ, so each law goes by cases `pos`, `negsuc`, where the tests compute to `ltb`, `leb`

pub below_limits : (d : ℤ) → lt_z d (negsuc 31622399999999) ≡ true → in_limits d ≡ false
below_limits (pos n) e = clash e
below_limits (negsuc n) e = lt-leb (suc n) 31622400000000 (omega (arith, ltb-true 31622399999999 n e))

pub above_limits : (d : ℤ) → lt_z d (negsuc 31622399999999) ≡ false → le_z d (pos 31622400000000) ≡ in_limits d
above_limits (pos n) e = refl
above_limits (negsuc n) e = sym (le-leb (suc n) 31622400000000 (omega (arith, ltb-false 31622399999999 n e)))

-- the sum fits
pub fits_sum : (t : ℕ) (d : ℤ) → t < 74572072960000 → in_limits d ≡ true → SFits w64 (pos t +ℤ d)
fits_sum t (pos n) h e = record { sfits = omega (arith, leb-true n 31622400000000 e) }
fits_sum t (negsuc n) h e = go (dec_lt t (suc n))
  where
    go : Dec (t < suc n) → SFits w64 (sub_ℕ t (suc n))
    go (yes l) = rw (lt-ltb t (suc n) l) (record { sfits = omega (arith, leb-true (suc n) 31622400000000 e) })
    go (no l) = rw (le-ltb t (suc n) (omega arith)) (record { sfits = omega arith })

-- the sum as the code has it: its operands go through their bits
pub sum_seen : (t : ℕ) (d : ℤ) → t < 74572072960000 → SFits w64 d → to_z w64 t +ℤ to_z w64 (of_z w64 d) ≡ pos t +ℤ d
sum_seen t d h f = ap₂ ◌+ℤ◌ (to_z_pos w64 (omega arith)) (to_z-of_z f)

-- a sum that is a time
pub below_z : (z : ℤ) → lt_z z (pos 0) ≡ true → 42949672960000 ≡ number_of z
below_z (pos n) e = absurd (omega (arith, ltb-true n 0 e))
below_z (negsuc n) e = refl

pub time_z : (z : ℤ) → lt_z z (pos 0) ≡ false → lt_z z (pos 42949672960000) ≡ true → T (non_neg z) × (nat_abs z < 42949672960000) × (nat_abs z ≡ number_of z)
time_z (pos n) e f = (tt, ltb-true n 42949672960000 f, rw f refl)
time_z (negsuc n) e f = clash (sym e)

pub past_z : (z : ℤ) → lt_z z (pos 0) ≡ false → lt_z z (pos 42949672960000) ≡ false → 42949672960000 ≡ number_of z
past_z (pos n) e f = rw f refl
past_z (negsuc n) e f = clash (sym e)

-- a number that is no time, and no shift within the limits makes it one
pub too_late : (t : ℕ) (d : ℤ) → 74572072960000 ≤ t → in_limits d ≡ true → 42949672960000 ≡ moved_number d t
too_late t (pos n) h e = rw (le-ltb (t + n) 42949672960000 (omega arith)) refl
too_late t (negsuc n) h e =
    let m : suc n ≤ 31622400000000 = leb-true (suc n) 31622400000000 e in
    rw (le-ltb t (suc n) (omega arith), le-ltb (t - suc n) 42949672960000 (omega arith)) refl

number_test : (z : ℤ) → ltb (number_of z) 42949672960000 ≡ is_time z
number_test (negsuc n) = refl
number_test (pos n) = go (ltb n 42949672960000) refl
  where
    go : (b : Bool) → ltb n 42949672960000 ≡ b → ltb (cond b n 42949672960000) 42949672960000 ≡ b
    go true t = t
    go false t = refl

pub test_moves : (by : ℤ) (t : ℕ) → ltb (moved_number by t) 42949672960000 ≡ moves by t
test_moves by t = number_test (pos t +ℤ by)

pub number_moved : (by : ℤ) (t : ℕ) → moves by t ≡ true → moved_number by t ≡ moved by t
number_moved by t e = rw e refl

pub number_low : (by : ℤ) (t : ℕ) → moves by t ≡ true → moved_number by t < 42949672960000
number_low by t e = rw (number_moved by t e) (moved_sum by t e).1
