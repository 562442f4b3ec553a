-- An item of each kind as two numbers: the bits before its tag or response time, and those of it.
use Prim.Native.Nat.{ℕ, zero, suc, ◌+◌, ◌*◌, ◌-◌, ◌/◌, ◌%◌, ◌^◌, ◌≤◌, ◌<◌}
use native.Mathlib.Nat.{add_assoc}
use native.Mathlib.Omega.{arith}
use native.Mathlib.Decide.{dec_lt}
use mathlib.Core.Bool.{Bool, true, false}
use mathlib.Core.Path.{◌≡◌, refl, ap, sym, ◌∙◌}
use mathlib.Core.List.{List, [], ◌∷◌}
use lib.ListN.{length, take, drop}
use lib.Dec.{leb}
use borrow.Author.Tests.{le-leb, lt-leb}
use Rattle.format.specs.Bits.{bit, bytes_bits}
use Rattle.format.specs.Item.{item_fields}
use Rattle.format.specs.Log.{Next, has, wrong, field, flag, if_there, tagged, timed, item_at}
use Rattle.format.specs.Laws.Bits.{length_bytes}
use Rattle.format.specs.Laws.Log.Fields.{Stand}
use Rattle.format.specs.Laws.Log.Forth.{AllBits, bytes_low}
use Rattle.format.specs.Laws.Tests.{below16}
use Rattle.format.specs.declared.Item.{Item}
use Rattle.format.specs.declared.Item.TheVariants.{Command, Status, Arinc}
use Rattle.log_write.specs.Packed.{packed_of, beside, widths}
use Rattle.log_write.specs.declared.Packed.{Packed}
use Rattle.log_walk.specs.declared.Piece.TheVariants.{Item as Whole, Wrong}
use Rattle.log_walk.specs.Piece.{piece_of, first_bits, behind_bits, Window}
use Rattle.log_walk.proofs.Fields.{window_top, stand_number, at_front, flag_bit}

-- l bits are left from p on, and w is the window there
module _ (log : List ℕ) (p l w : ℕ) (win : Window (bytes_bits log) p w) (e : p + l ≡ length log * 8) where
  abbrev s : List ℕ
  s = bytes_bits log

  low : AllBits (bytes_bits log)
  low = bytes_low log

  within : (k : ℕ) → k ≤ l → p + k ≤ length (bytes_bits log)
  within k h = omega (arith, length_bytes log)

  there : (k : ℕ) → k ≤ l → leb (p + k) (length (bytes_bits log)) ≡ true
  there k h = le-leb (p + k) (length (bytes_bits log)) (within k h)

  cut : (k : ℕ) → l < k → leb (p + k) (length (bytes_bits log)) ≡ false
  cut k h = lt-leb (p + k) (length (bytes_bits log)) (omega (arith, length_bytes log))

  -- n bits from p on, and m behind them
  abbrev pub numbers : ℕ → ℕ → Packed
  numbers n m = record { first = field (bytes_bits log) p n; first_bits = n; behind = field (bytes_bits log) (p + n) m; behind_bits = m }

  -- what stands at p is an item of so many bits, if they are there
  pub record Shape (x : Next) (n m : ℕ) : Type 0 where
    pub short : l < n → x ≡ wrong
    pub shorter : n ≤ l → l < n + m → x ≡ wrong
    pub whole : n + m ≤ l → piece_of x ≡ Whole (numbers n m)

  shape_cut : {x : Next} {n m : ℕ} → Shape x n m → l < n + m → x ≡ wrong
  shape_cut {x} {n} {m} a h = go (dec_lt l n)
    where
      go : Dec (l < n) → x ≡ wrong
      go (yes y) = a.short y
      go (no y) = a.shorter (omega arith) h

  numbers_of : (i : Item) (n m : ℕ) → n + m ≤ l → widths (take 5 (item_fields i)) ≡ n → widths (drop 5 (item_fields i)) ≡ m
      → Stand s p 0 (take 5 (item_fields i)) → Stand s (p + n) 0 (drop 5 (item_fields i)) → packed_of i ≡ numbers n m
  unfolding packed_of
  numbers_of i n m h a b f g =
      let x : beside 0 (take 5 (item_fields i)) ≡ field s p n = rw a at (stand_number s low p (take 5 (item_fields i)) f (rw a (omega (arith, within (n + m) h)))) in
      let y : beside 0 (drop 5 (item_fields i)) ≡ field s (p + n) m = rw b at (stand_number s low (p + n) (drop 5 (item_fields i)) g (rw b (omega (arith, within (n + m) h)))) in
      rw (a, b, x, y) refl

  -- an item that has nothing behind
  plain : (i : Item) (n : ℕ) → (n ≤ l → packed_of i ≡ numbers n 0) → Shape (if_there s (p + n) (has i (p + n))) n 0
  plain i n g = record {
    short = λ h. rw (cut n h) refl;
    shorter = λ h k. absurd (omega arith);
    whole = λ h. let k : n ≤ l = omega arith in rw (there n k, g k) refl;
  }

  -- an item that has c bits behind if a flag says so
  optional : (F : Bool → Next) (i j : Item) (q n c f : ℕ) → F false ≡ has i (p + n) → F true ≡ if_there s (p + n + c) (has j (p + n + c))
      → (n ≤ l → field s q 1 ≡ f) → f < 2 → (n ≤ l → f ≡ 0 → packed_of i ≡ numbers n 0) → (n + c ≤ l → f ≡ 1 → packed_of j ≡ numbers n c)
      → Shape (if_there s (p + n) (F (flag s q))) n (f * c)
  optional F i j q n c zero no' yes' v few g h =
      let o : 0 * c ≡ 0 = omega arith in
      rw o record {
        short = λ k. rw (cut n k) refl;
        shorter = λ k z. absurd (omega arith);
        whole = λ k. let y : n ≤ l = omega arith in rw (there n y, v y, no', g y refl) refl;
      }
  optional F i j q n c (suc zero) no' yes' v few g h =
      let o : 1 * c ≡ c = omega arith in
      rw o record {
        short = λ k. rw (cut n k) refl;
        shorter = λ k z. rw (there n k, v k, yes', add_assoc p n c, cut (n + c) z) refl;
        whole = λ k. let y : n ≤ l = omega arith in rw (there n y, v y, yes', add_assoc p n c, there (n + c) k, h k refl) refl;
      }
  optional F i j q n c (suc (suc f)) no' yes' v few g h = absurd (omega arith)

  module _ (hw : w < 2 ^ 64) (hl : 4 ≤ l) where
    kind_is : (k : ℕ) → w / 2 ^ 60 ≡ k → field s (p + 0) 4 ≡ k
    kind_is k z = at_front s low p 4 (window_top s p w 4 win hw (omega arith) (within 4 hl) ∙ z)

    one : (j n : ℕ) → j + 1 ≤ 57 → j + 1 ≤ n → n ≤ l → field s (p + j) 1 ≡ w / 2 ^ (64 - j - 1) % 2
    one j n h g k = win j 1 h (omega (arith, length_bytes log))

    bit_at : (j n : ℕ) → j + 1 ≤ n → n ≤ l → field s (p + j) 1 ≡ bit (flag s (p + j))
    bit_at j n g k = flag_bit s low (p + j) (omega (arith, length_bytes log))

    -- its side, and its flag
    module _ (k : ℕ) (z : w / 2 ^ 60 ≡ k) where
      abbrev Sided : ℕ → Type 0
      Sided f = Stand s p 0 ((4, k) ∷ (4, field s (p + 4) 4) ∷ (1, bit (flag s (p + 8))) ∷ (1, f) ∷ (16, field s (p + 10) 16) ∷ [])

      sided : (f : ℕ) → 26 ≤ l → w / 2 ^ 54 % 2 ≡ f → Sided f
      sided f h g = (kind_is k z, (refl, (bit_at 8 26 (omega arith) h, (one 9 26 (omega arith) (omega arith) h ∙ g, (refl, tt)))))

      abbrev Bare : Type 0
      Bare = Stand s p 0 ((4, k) ∷ (4, field s (p + 4) 4) ∷ (1, bit (flag s (p + 8))) ∷ (16, field s (p + 9) 16) ∷ [])

      bare : 25 ≤ l → Bare
      bare h = (kind_is k z, (refl, (bit_at 8 25 (omega arith) h, (refl, tt))))

    of_command : w / 2 ^ 60 ≡ 1 → Shape (item_at s p 1) 26 (w / 2 ^ 54 % 2 * 46)
    unfolding item_at item_fields
    of_command z =
        optional (λ b. tagged s b (p + 26) (λ t. Command (field s (p + 4) 4) (flag s (p + 8)) t (field s (p + 10) 16))) _ _ (p + 9) 26 46 (w / 2 ^ 54 % 2) refl refl
        (λ h. one 9 26 (omega arith) (omega arith) h) (omega arith)
        (λ h f. numbers_of _ 26 0 (omega arith) refl refl (sided 1 z 0 h f) tt)
        (λ h f. numbers_of _ 26 46 h refl refl (sided 1 z 1 (omega arith) f) (at_front s low (p + 26) 16 refl, (refl, (refl, tt))))

    of_status : w / 2 ^ 60 ≡ 2 → Shape (item_at s p 2) 26 (w / 2 ^ 54 % 2 * 14)
    unfolding item_at item_fields
    of_status z =
        optional (λ b. timed s b (p + 26) (λ t. Status (field s (p + 4) 4) (flag s (p + 8)) t (field s (p + 10) 16))) _ _ (p + 9) 26 14 (w / 2 ^ 54 % 2) refl refl
        (λ h. one 9 26 (omega arith) (omega arith) h) (omega arith)
        (λ h f. numbers_of _ 26 0 (omega arith) refl refl (sided 2 z 0 h f) tt)
        (λ h f. numbers_of _ 26 14 h refl refl (sided 2 z 1 (omega arith) f) (at_front s low (p + 26) 14 refl, tt))

    of_data : w / 2 ^ 60 ≡ 3 → Shape (item_at s p 3) 25 0
    unfolding item_at item_fields
    of_data z = plain _ 25 (λ h. numbers_of _ 25 0 (omega arith) refl refl (bare 3 z h) tt)

    of_error : w / 2 ^ 60 ≡ 4 → Shape (item_at s p 4) 25 0
    unfolding item_at item_fields
    of_error z = plain _ 25 (λ h. numbers_of _ 25 0 (omega arith) refl refl (bare 4 z h) tt)

    of_arinc : w / 2 ^ 60 ≡ 5 → Shape (item_at s p 5) 43 (w / 2 ^ 53 % 2 * 46)
    unfolding item_at item_fields
    of_arinc z =
        optional (λ b. tagged s b (p + 43) (λ t. Arinc (field s (p + 4) 4) (field s (p + 8) 2) t (field s (p + 11) 32))) _ _ (p + 10) 43 46 (w / 2 ^ 53 % 2) refl refl
        (λ h. one 10 43 (omega arith) (omega arith) h) (omega arith)
        (λ h f. numbers_of _ 43 0 (omega arith) refl refl (kind_is 5 z, (refl, (refl, (one 10 43 (omega arith) (omega arith) h ∙ f, (refl, tt))))) tt)
        (λ h f. numbers_of _ 43 46 h refl refl (kind_is 5 z, (refl, (refl, (one 10 43 (omega arith) (omega arith) (omega arith) ∙ f, (refl, tt))))) (at_front s low (p + 43) 16 refl, (refl, (refl, tt))))

    of_notice : w / 2 ^ 60 ≡ 6 → Shape (item_at s p 6) 18 0
    unfolding item_at item_fields
    of_notice z = plain _ 18 (λ h. numbers_of _ 18 0 (omega arith) refl refl (kind_is 6 z, (refl, (refl, (refl, tt)))) tt)

    of_user : w / 2 ^ 60 ≡ 7 → Shape (item_at s p 7) 25 0
    unfolding item_at item_fields
    of_user z = plain _ 25 (λ h. numbers_of _ 25 0 (omega arith) refl refl (bare 7 z h) tt)

    of_overflow : w / 2 ^ 60 ≡ 8 → Shape (item_at s p 8) 24 0
    unfolding item_at item_fields
    of_overflow z = plain _ 24 (λ h. numbers_of _ 24 0 (omega arith) refl refl (kind_is 8 z, (refl, (refl, tt))) tt)

    -- an item of any kind
    pub shape : (k : ℕ) → k < 16 → 1 ≤ k → k ≤ 8 → w / 2 ^ 60 ≡ k → Shape (item_at s p k) (first_bits k) (behind_bits k w)
    shape =
        below16 (λ k. 1 ≤ k → k ≤ 8 → w / 2 ^ 60 ≡ k → Shape (item_at s p k) (first_bits k) (behind_bits k w))
        (λ a b z. absurd (omega arith)) (λ a b z. of_command z) (λ a b z. of_status z) (λ a b z. of_data z) (λ a b z. of_error z)
        (λ a b z. of_arinc z) (λ a b z. of_notice z) (λ a b z. of_user z) (λ a b z. of_overflow z)
        (λ a b z. absurd (omega arith)) (λ a b z. absurd (omega arith)) (λ a b z. absurd (omega arith)) (λ a b z. absurd (omega arith))
        (λ a b z. absurd (omega arith)) (λ a b z. absurd (omega arith)) (λ a b z. absurd (omega arith))

    -- what the code finds of it
    module _ (k n m : ℕ) (z : k ≡ w / 2 ^ 60) (lo : 1 ≤ k) (hi : k ≤ 8) (a : n ≡ first_bits k) (b : m ≡ behind_bits k w) where
      its : Shape (item_at s p k) n m
      its = rw (a, b) (shape k (omega arith) lo hi (sym z))

      pub item_cut : l < n + m → piece_of (item_at s p k) ≡ Wrong
      item_cut h = ap piece_of (shape_cut its h)

      pub item_whole : (x y : ℕ) → n ≤ 43 → n + m ≤ l → x ≡ w / 2 ^ (64 - n) → y ≡ field s (p + n) m
          → Whole (record { first = x; first_bits = n; behind = y; behind_bits = m }) ≡ piece_of (item_at s p k)
      item_whole x y few h f g =
          let t : field s p n ≡ w / 2 ^ (64 - n) = window_top s p w n win hw (omega arith) (within n (omega arith)) in
          sym (its.whole h ∙ rw (t, ← f, ← g) refl)
