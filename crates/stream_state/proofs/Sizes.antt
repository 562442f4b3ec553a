-- Products of groups and their sizes stay below 2 ^ 64.
use Prim.Native.Nat.{ℕ, ◌+◌, ◌*◌, ◌^◌, ◌%◌, ◌≤◌, ◌<◌}
use native.Mathlib.Nat.{mul-le-mul_left, mul-le-mul_right}
use native.Mathlib.Omega.{arith}
use mathlib.Core.Bool.{true, false, ◌&&◌}
use mathlib.Core.Path.{◌≡◌, refl}
use lib.Dec.{leb, ltb}
use borrow.Author.Tests.{leb-true, lt-leb, ltb-true}
use Rattle.format.specs.Plan.{group_words}
use Rattle.format.specs.Laws.Tests.{and_true, each_below}
use Rattle.format.specs.Laws.Limits.{Shape, group_least, group_most}
use Rattle.stream_rules.specs.Stream.{group_size, most_bytes}
use Rattle.format.specs.declared.Plan.{Plan}
use Rattle.stream_state.specs.Parts.{bits_fit, size_fits}

-- a bit is shifted up by less than eight places
pub shifted : (k : ℕ) → k < 8 → 1 * 2 ^ k % 18446744073709551616 ≡ 2 ^ k
shifted = each_below (λ k. 1 * 2 ^ k % 18446744073709551616 ≡ 2 ^ k) 8 (refl, (refl, (refl, (refl, (refl, (refl, (refl, (refl, tt))))))))

module _ (p : Plan) (shape : Shape p) where
  pub size_most : group_size p ≤ 6144
  size_most = omega (arith, group_most p shape)

  pub size_over : (groups waiting : ℕ) → 2 ^ 40 < groups → leb (groups * group_size p + waiting) most_bytes ≡ false
  size_over groups waiting h =
      lt-leb (groups * group_size p + waiting) most_bytes (omega (arith, h, mul-le-mul_left groups (group_least p shape)))

  pub words_room : (groups : ℕ) → groups ≤ 2 ^ 40 → groups * group_words p ≤ 2 ^ 40 * 2048
  words_room groups h = omega (arith, mul-le-mul_left groups (group_most p shape))

  pub sized_few : (groups waiting : ℕ) → size_fits p groups waiting ≡ true → (groups ≤ 2 ^ 40) × (waiting ≤ 6144)
  sized_few groups waiting e =
      let t = and_true (ltb waiting (group_size p)) (leb (groups * group_size p + waiting) most_bytes) e in
      let l : waiting < group_size p = ltb-true _ _ t.0 in
      let m : groups * group_size p + waiting ≤ most_bytes = leb-true _ _ t.1 in
      (omega (arith, m, mul-le-mul_left groups (group_least p shape)), omega (arith, l, size_most))

pow_few : (k : ℕ) → k < 8 → 2 ^ k ≤ 256
pow_few = each_below (λ k. 2 ^ k ≤ 256) 8 (omega arith, (omega arith, (omega arith, (omega arith, (omega arith, (omega arith, (omega arith, (omega arith, tt))))))))

pub bits_few : (left last : ℕ) → bits_fit left last ≡ true → (left < 8) × (last < 256)
bits_few left last e =
    let t = and_true (ltb left 8) (ltb last (2 ^ left)) e in
    let l : left < 8 = ltb-true left 8 t.0 in
    (l, omega (arith, ltb-true last (2 ^ left) t.1, pow_few left l))
