-- Fields that stand side by side are one field.
use Prim.Native.Nat.{ℕ, zero, suc, ◌+◌, ◌*◌, ◌-◌, ◌/◌, ◌%◌, ◌^◌, ◌≤◌, ◌<◌}
use native.Mathlib.Nat.{add_assoc, add-zero, zero-add, mod-eq_of_lt}
use native.Mathlib.Omega.{arith}
use mathlib.Core.Path.{◌≡◌, refl, ap, sym, ◌∙◌}
use mathlib.Core.List.{List, [], ◌∷◌, ◌++◌}
use lib.ListN.{length, take, drop, length-drop}
use lib.Dec.{eqb}
use lib.Pow.{shr_lt}
use lib.Seq.{drop-drop, length-take-le, take-add}
use Rattle.format.specs.Bits.{bit, bits_of, num_from, num_of}
use Rattle.format.specs.Item.{Field}
use Rattle.format.specs.Log.{field, flag}
use Rattle.format.specs.Laws.Lists.{all_drop, all_take}
use Rattle.format.specs.Laws.Log.Fields.{Stand, num_bits, bits_num, num_low}
use Rattle.format.specs.Laws.Log.Forth.{AllBits}
use Rattle.log_write.specs.Packed.{beside, widths}
use Rattle.log_walk.specs.Piece.{Window}

-- a field at the window's front is its highest bits
pub window_top : (s : List ℕ) (p w n : ℕ) → Window s p w → w < 2 ^ 64 → n ≤ 57 → p + n ≤ length s → field s p n ≡ w / 2 ^ (64 - n)
window_top s p w n f hw h l =
    let e : n + (64 - n) ≡ 64 = omega arith in
    let g : w < 2 ^ (n + (64 - n)) = rw e hw in
    ap (λ (q : ℕ). field s q n) (sym (add-zero p)) ∙ f 0 n (omega arith) (omega arith) ∙ mod-eq_of_lt (shr_lt n (64 - n) g)

num_append : (a : ℕ) (x y : List ℕ) → num_from a (x ++ y) ≡ num_from (num_from a x) y
unfolding num_from
num_append a [] y = refl
num_append a (b ∷ x) y = num_append (a * 2 + b) x y

module _ (s : List ℕ) (low : AllBits s) where
  -- a field is within its width, and its bits are those there
  module _ (q n : ℕ) (h : q + n ≤ length s) where
    there_low : AllBits (take n (drop q s))
    there_low = all_take n (all_drop q low)

    there_long : length (take n (drop q s)) ≡ n
    there_long = length-take-le n (drop q s) (rw length-drop (omega arith))

    pub field_low : field s q n < 2 ^ n
    unfolding field num_of
    field_low = rw there_long at (num_low (take n (drop q s)) there_low)

    pub field_bits : bits_of n (field s q n) ≡ take n (drop q s)
    unfolding field num_of
    field_bits = rw there_long at (bits_num 0 (take n (drop q s)) there_low)

  pub field_both : (q a b : ℕ) → q + a + b ≤ length s → field s q (a + b) ≡ field s q a * 2 ^ b + field s (q + a) b
  unfolding field num_of
  field_both q a b h =
      ap (num_from 0) (take-add a b (drop q s) ∙ ap (λ (l : List ℕ). take a (drop q s) ++ take b l) (drop-drop a q s))
      ∙ num_append 0 (take a (drop q s)) (take b (drop (q + a) s))
      ∙ ap (num_from (num_from 0 (take a (drop q s)))) (sym (field_bits (q + a) b h))
      ∙ num_bits (num_from 0 (take a (drop q s))) b (field s (q + a) b)
      ∙ rw (mod-eq_of_lt (field_low (q + a) b h))

  beside_stand : (q k : ℕ) (fs : List Field) → Stand s q k fs → q + k + widths fs ≤ length s → beside (field s q k) fs ≡ field s q (k + widths fs)
  beside_stand q k [] g h = ap (field s q) (sym (add-zero k))
  beside_stand q k (f ∷ fs) g h =
      let l : q + k + f.0 ≤ length s = omega arith in
      let v : f.1 % 2 ^ f.0 ≡ field s (q + k) f.0 = rw (← g.0) (mod-eq_of_lt (field_low (q + k) f.0 l)) in
      let e : field s q k * 2 ^ f.0 + f.1 % 2 ^ f.0 ≡ field s q (k + f.0) = rw v (sym (field_both q k f.0 l)) in
      ap (λ (a : ℕ). beside a fs) e
      ∙ beside_stand q (k + f.0) fs g.1 (omega arith)
      ∙ ap (field s q) (add_assoc k f.0 (widths fs))

  -- fields that stand from q on are one number
  pub stand_number : (q : ℕ) (fs : List Field) → Stand s q 0 fs → q + widths fs ≤ length s → beside 0 fs ≡ field s q (widths fs)
  unfolding field num_of num_from
  stand_number q fs g h = beside_stand q 0 fs g (omega arith) ∙ ap (field s q) (zero-add (widths fs))

  pub at_front : (q n : ℕ) {v : ℕ} → field s q n ≡ v → field s (q + 0) n ≡ v
  at_front q n e = ap (λ (k : ℕ). field s k n) (add-zero q) ∙ e

  -- a bit as a yes or no
  pub flag_bit : (q : ℕ) → q + 1 ≤ length s → field s q 1 ≡ bit (flag s q)
  unfolding field
  flag_bit q h = go (field s q 1) (field_low q 1 h)
    where
      go : (n : ℕ) → n < 2 → n ≡ bit (eqb n 1)
      go zero l = refl
      go (suc zero) l = refl
      go (suc (suc n)) l = absurd (omega arith)
