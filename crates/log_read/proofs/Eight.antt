-- Eight bytes, with zeros past the end, as one number of 64 bits, and a field in them.
use Prim.Native.Nat.{ℕ, zero, suc, ◌+◌, ◌*◌, ◌-◌, ◌/◌, ◌%◌, ◌^◌, ◌≤◌, ◌<◌}
use native.Mathlib.Nat.{mod-lt, mod-eq_of_lt, add-zero, zero-mul, div-add-mod', le_refl}
use native.Mathlib.Omega.{arith}
use mathlib.Core.Path.{◌≡◌, refl, sym, ap, ap₂, ◌∙◌}
use mathlib.Core.List.{List, [], ◌∷◌, ◌++◌, append_assoc, append-nil}
use lib.ListN.{length, take, drop, get_or, replicate, length-drop, length-take, take-append-drop}
use lib.Seq.{drop_at, take_at, take_all, take-suc, drop-drop, get_or-drop}
use lib.Pow.{pow_pos, split, shr_lt, shr-shr}
use Rattle.format.specs.Bits.{bits_of, bytes_bits, num_of}
use Rattle.format.specs.Log.{field}
use Rattle.log_read.specs.Cursor.{eight, said, ahead_of, filled_of, tag_filled_of, Ahead}
use Rattle.log_read.specs.declared.Cursor.{Cursor}
use Rattle.format.specs.Laws.Log.Fields.{bits_num, num_bits}
use Rattle.format.specs.Laws.Log.Forth.{bytes_low}
use Rattle.format.specs.Laws.Bits.{length_bits, bits_cat, bits_mod, length_bytes, bytes_append, bytes_drop}
use Rattle.format.specs.Laws.Lists.{AllOf}
use Rattle.format.specs.Laws.Lists.{in_first}
use Rattle.format.specs.Laws.Bits.{joined, joined_bits}

abbrev first8 : List ℕ → List ℕ
first8 t = get_or t 0 0 ∷ get_or t 1 0 ∷ get_or t 2 0 ∷ get_or t 3 0 ∷ get_or t 4 0 ∷ get_or t 5 0 ∷ get_or t 6 0 ∷ get_or t 7 0 ∷ []

first_pad : (t : List ℕ) → first8 t ≡ take 8 t ++ replicate (8 - length t) 0
first_pad [] = refl
first_pad (a ∷ []) = refl
first_pad (a ∷ b ∷ []) = refl
first_pad (a ∷ b ∷ c ∷ []) = refl
first_pad (a ∷ b ∷ c ∷ d ∷ []) = refl
first_pad (a ∷ b ∷ c ∷ d ∷ e ∷ []) = refl
first_pad (a ∷ b ∷ c ∷ d ∷ e ∷ f ∷ []) = refl
first_pad (a ∷ b ∷ c ∷ d ∷ e ∷ f ∷ g ∷ []) = refl
first_pad (a ∷ b ∷ c ∷ d ∷ e ∷ f ∷ g ∷ h ∷ t) = let z : 8 - suc (suc (suc (suc (suc (suc (suc (suc (length t)))))))) ≡ 0 = omega arith in rw z

pub eight_pad : (s : List ℕ) (i : ℕ) → eight s i ≡ take 8 (drop i s) ++ replicate (8 - length (drop i s)) 0
eight_pad s i =
    rw (← get_or-drop i s 1 0, ← get_or-drop i s 2 0, ← get_or-drop i s 3 0, ← get_or-drop i s 4 0, ← get_or-drop i s 5 0, ← get_or-drop i s 6 0, ← get_or-drop i s 7 0)
    (ap (λ (n : ℕ). get_or s n 0 ∷ get_or (drop i s) 1 0 ∷ get_or (drop i s) 2 0 ∷ get_or (drop i s) 3 0 ∷ get_or (drop i s) 4 0 ∷ get_or (drop i s) 5 0 ∷ get_or (drop i s) 6 0 ∷ get_or (drop i s) 7 0 ∷ []) (sym (add-zero i))
    ∙ rw (← get_or-drop i s 0 0) (first_pad (drop i s)))

-- a field within s and within eight bytes is in the eight
pub eight_same : (s : List ℕ) (i k n : ℕ) → k + n ≤ length (drop i s) * 8 → k + n ≤ 64 → take n (drop k (bytes_bits (drop i s))) ≡ take n (drop k (bytes_bits (eight s i)))
eight_same s i k n h g =
    let t = drop i s in
    let p : k + n ≤ length (bytes_bits (take 8 t)) = rw (length_bytes (take 8 t), length-take) (omega arith) in
    ap (λ (l : List ℕ). take n (drop k (bytes_bits l))) (sym (take-append-drop 8 t))
    ∙ ap (λ (l : List ℕ). take n (drop k l)) (bytes_append (take 8 t) (drop 8 t))
    ∙ in_first n k (bytes_bits (take 8 t)) (bytes_bits (drop 8 t)) p
    ∙ sym (in_first n k (bytes_bits (take 8 t)) (bytes_bits (replicate (8 - length t) 0)) p)
    ∙ sym (ap (λ (l : List ℕ). take n (drop k l)) (bytes_append (take 8 t) (replicate (8 - length t) 0)))
    ∙ sym (ap (λ (l : List ℕ). take n (drop k (bytes_bits l))) (eight_pad s i))

pub eight_num : (a b c d e f g h : ℕ) → AllOf (λ b. b < 256) (a ∷ b ∷ c ∷ d ∷ e ∷ f ∷ g ∷ h ∷ [])
    → bytes_bits (a ∷ b ∷ c ∷ d ∷ e ∷ f ∷ g ∷ h ∷ []) ≡ bits_of 64 (a * 72057594037927936 + b * 281474976710656 + c * 1099511627776 + d * 4294967296 + e * 16777216 + f * 65536 + g * 256 + h)
unfolding bits_of
eight_num a b c d e f g h z =
    let w : joined 0 (a ∷ b ∷ c ∷ d ∷ e ∷ f ∷ g ∷ h ∷ []) ≡ a * 72057594037927936 + b * 281474976710656 + c * 1099511627776 + d * 4294967296 + e * 16777216 + f * 65536 + g * 256 + h = omega arith in
    sym (joined_bits 0 0 (a ∷ b ∷ c ∷ d ∷ e ∷ f ∷ g ∷ h ∷ []) z) ∙ ap (bits_of 64) w

-- 64 bits as the k above a field, the n of the field, and the r below it
pub cut64 : (w k n r : ℕ) → k + n + r ≡ 64 → bits_of 64 w ≡ bits_of k (w / 2 ^ r / 2 ^ n) ++ (bits_of n (w / 2 ^ r % 2 ^ n) ++ bits_of r (w % 2 ^ r))
cut64 w k n r e =
    ap₂ bits_of (sym e) (sym (split w r))
    ∙ bits_cat (k + n) r (w / 2 ^ r) (w % 2 ^ r) (mod-lt w (pow_pos r))
    ∙ ap (λ (l : List ℕ). l ++ bits_of r (w % 2 ^ r)) (ap (bits_of (k + n)) (sym (split (w / 2 ^ r) n)) ∙ bits_cat k n (w / 2 ^ r / 2 ^ n) (w / 2 ^ r % 2 ^ n) (mod-lt (w / 2 ^ r) (pow_pos n)))
    ∙ append_assoc (bits_of k (w / 2 ^ r / 2 ^ n)) (bits_of n (w / 2 ^ r % 2 ^ n)) (bits_of r (w % 2 ^ r))

-- the field, read
pub field64 : (w k n r : ℕ) → k + n + r ≡ 64 → num_of (take n (drop k (bits_of 64 w))) ≡ w / 2 ^ r % 2 ^ n
unfolding num_of
field64 w k n r e =
    ap (λ (l : List ℕ). num_of (take n (drop k l))) (cut64 w k n r e)
    ∙ ap (λ (l : List ℕ). num_of (take n l)) (drop_at (bits_of k (w / 2 ^ r / 2 ^ n)) (bits_of n (w / 2 ^ r % 2 ^ n) ++ bits_of r (w % 2 ^ r)) k (length_bits k _))
    ∙ ap num_of (take_at (bits_of n (w / 2 ^ r % 2 ^ n)) (bits_of r (w % 2 ^ r)) n (length_bits n _))
    ∙ num_bits 0 n (w / 2 ^ r % 2 ^ n)
    ∙ rw (mod-eq_of_lt (mod-lt (w / 2 ^ r) (pow_pos n))) (omega arith)

-- a number moved up by a bits, of which 64 are kept: its bits but the first a, and a zeros
moved_bits : (w a : ℕ) → a ≤ 64 → bits_of 64 (w * 2 ^ a % 2 ^ 64) ≡ drop a (bits_of 64 w) ++ bits_of a 0
moved_bits w a h =
    let e : (64 - a) + a ≡ 64 = omega arith in
    let f : a + (64 - a) ≡ 64 = omega arith in
    let up : bits_of 64 (w * 2 ^ a) ≡ bits_of (64 - a) w ++ bits_of a 0 =
    ap₂ bits_of (sym e) (sym (add-zero (w * 2 ^ a))) ∙ bits_cat (64 - a) a w 0 (pow_pos a) in
    let r = w % 2 ^ (64 - a) in
    let all : bits_of 64 w ≡ bits_of a (w / 2 ^ (64 - a)) ++ bits_of (64 - a) r =
    ap₂ bits_of (sym f) (sym (split w (64 - a))) ∙ bits_cat a (64 - a) (w / 2 ^ (64 - a)) r (mod-lt w (pow_pos (64 - a))) in
    let low : drop a (bits_of 64 w) ≡ bits_of (64 - a) w =
    ap (drop a) all ∙ drop_at (bits_of a (w / 2 ^ (64 - a))) (bits_of (64 - a) r) a (length_bits a _) ∙ bits_mod (64 - a) (64 - a) w (le_refl (64 - a)) in
    bits_mod 64 64 (w * 2 ^ a) (le_refl 64) ∙ up ∙ ap (λ (l : List ℕ). l ++ bits_of a 0) (sym low)

-- the number that eight bytes are, and its bits
pub said_is : (s : List ℕ) (i w : ℕ) → w < 2 ^ 64 → bytes_bits (eight s i) ≡ bits_of 64 w → w ≡ said s i
unfolding num_of
said_is s i w h e = sym (rw e (num_bits 0 64 w ∙ rw (mod-eq_of_lt h) (omega arith)))

said_bits : (s : List ℕ) (i : ℕ) → bytes_bits (eight s i) ≡ bits_of 64 (said s i)
unfolding num_of
said_bits s i =
    let l : length (bytes_bits (eight s i)) ≡ 64 = length_bytes (eight s i) in
    sym (rw l at (bits_num 0 (bytes_bits (eight s i)) (bytes_low (eight s i))))

-- eight bytes from i on, moved up by a bits, are ahead of a cursor a bits further on
moved_ahead : (s : List ℕ) (i a p n w : ℕ) → p ≡ i * 8 + a → a + n ≤ 64 → bytes_bits (eight s i) ≡ bits_of 64 w
    → Ahead (bytes_bits s) p n 0 (record { at = p; ahead = w * 2 ^ a % 2 ^ 64 })
unfolding field
moved_ahead s i a p n w z few e = record {
  place = sym (add-zero p);
  small = mod-lt (w * 2 ^ a) (pow_pos 64);
  bits = λ j m g h.
      let v = w * 2 ^ a % 2 ^ 64 in
      let l : length (bytes_bits s) ≡ length s * 8 = length_bytes s in
      let at : p + (0 + j) ≡ i * 8 + (a + j) = omega arith in
      let h1 : (a + j) + m ≤ length (drop i s) * 8 = rw length-drop (omega arith) in
      let h2 : j + m ≤ length (drop a (bits_of 64 w)) = rw (length-drop, length_bits 64 w) (omega arith) in
      let d : drop (p + (0 + j)) (bytes_bits s) ≡ drop (a + j) (bytes_bits (drop i s)) =
      ap (λ (k : ℕ). drop k (bytes_bits s)) at ∙ sym (drop-drop (a + j) (i * 8) (bytes_bits s)) ∙ ap (drop (a + j)) (bytes_drop i s) in
      ap (λ (l : List ℕ). num_of (take m l)) d
      ∙ ap num_of (eight_same s i (a + j) m h1 (omega arith)
      ∙ ap (λ (l : List ℕ). take m (drop (a + j) l)) e
      ∙ ap (take m) (sym (drop-drop j a (bits_of 64 w)))
      ∙ sym (in_first m j (drop a (bits_of 64 w)) (bits_of a 0) h2)
      ∙ ap (λ (l : List ℕ). take m (drop j l)) (sym (moved_bits w a (omega arith))))
      ∙ field64 v j m (64 - j - m) (omega arith);
}

-- a filled cursor has 57 bits ahead, and one that is filled for a tag has 46
pub filled_ahead : (log : List ℕ) (p : ℕ) {c : Cursor} → c ≡ filled_of log p → Ahead (bytes_bits log) p 57 0 c
unfolding ahead_of
filled_ahead log p e = rw e (moved_ahead log (p / 8) (p % 8) p 57 (said log (p / 8)) (omega arith) (omega arith) (said_bits log (p / 8)))

pub tag_ahead : (log : List ℕ) (p : ℕ) {c : Cursor} → 18 ≤ p → c ≡ tag_filled_of log p → Ahead (bytes_bits log) p 46 0 c
unfolding ahead_of
tag_ahead log p far e =
    let i = (p + 53) / 8 - 8 in
    let a = p + 64 - 8 * ((p + 53) / 8) in
    rw e (moved_ahead log i a p 46 (said log i) (omega arith) (omega arith) (said_bits log i))

-- ---- fewer than eight bytes are left: n is the first m of them

-- one more
pub cut_more : (s : List ℕ) (i m n : ℕ) → i + m < length s → m < 7 → get_or s (i + m) 0 < 256 → bits_of (m * 8) n ≡ bytes_bits (take m (drop i s))
    → bits_of ((m + 1) * 8) (n * 2 ^ 8 % 2 ^ 64 + get_or s (i + m) 0) ≡ bytes_bits (take (m + 1) (drop i s))
unfolding bytes_bits
cut_more s i m n h l low e =
    let b = get_or s (i + m) 0 in
    let f : n * 2 ^ 8 % 2 ^ 64 + b ≡ (n * 2 ^ 8 + b) % 2 ^ 64 = omega (arith, low) in
    let g : (m + 1) * 8 ≡ m * 8 + 8 = omega arith in
    let r : m < length (drop i s) = rw (length-drop) (omega (arith, h)) in
    let p : m + 1 ≡ suc m = omega arith in
    ap₂ bits_of g f
    ∙ bits_mod (m * 8 + 8) 64 (n * 2 ^ 8 + b) (omega (arith, l))
    ∙ bits_cat (m * 8) 8 n b low
    ∙ ap (λ (x : List ℕ). x ++ bits_of 8 b) e
    ∙ sym (ap (λ (k : ℕ). bytes_bits (take k (drop i s))) p
    ∙ ap bytes_bits (take-suc (drop i s) m 0 r)
    ∙ bytes_append (take m (drop i s)) (get_or (drop i s) m 0 ∷ [])
    ∙ ap (λ (x : ℕ). bytes_bits (take m (drop i s)) ++ bytes_bits (x ∷ [])) (get_or-drop i s m 0)
    ∙ ap (λ (x : List ℕ). bytes_bits (take m (drop i s)) ++ x) (append-nil (bits_of 8 b)))

zeros_bits : (j : ℕ) → bytes_bits (replicate j 0) ≡ bits_of (j * 8) 0
unfolding bytes_bits bits_of
zeros_bits zero = refl
zeros_bits (suc j) =
    let e : suc j * 8 ≡ 8 + j * 8 = omega arith in
    let z : 0 ≡ 0 * 2 ^ (j * 8) + 0 = sym (add-zero (0 * 2 ^ (j * 8)) ∙ zero-mul (2 ^ (j * 8))) in
    ap (λ (l : List ℕ). bits_of 8 0 ++ l) (zeros_bits j) ∙ sym (ap₂ bits_of e z ∙ bits_cat 8 (j * 8) 0 0 (pow_pos (j * 8)))

-- all of them
pub cut_eight : (s : List ℕ) (i m n : ℕ) → length s < i + 8 → m ≡ length s - i → bits_of (m * 8) n ≡ bytes_bits (take m (drop i s))
    → bytes_bits (eight s i) ≡ bits_of 64 (n * 2 ^ (64 - 8 * m) % 2 ^ 64)
cut_eight s i m n h k e =
    let d : length (drop i s) ≡ m = length-drop i s ∙ sym k in
    let a = 64 - 8 * m in
    let f : m * 8 + a ≡ 64 = omega (arith, h, k) in
    let g : (8 - m) * 8 ≡ a = omega (arith, h, k) in
    ap bytes_bits (eight_pad s i ∙ rw d (ap (λ (l : List ℕ). l ++ replicate (8 - m) 0) (take_all 8 (drop i s) (rw d (omega (arith, h, k))))))
    ∙ bytes_append (drop i s) (replicate (8 - m) 0)
    ∙ ap₂ ◌++◌ (ap bytes_bits (sym (take_all m (drop i s) (rw d (le_refl m)))) ∙ sym e) (zeros_bits (8 - m) ∙ ap (λ (l : ℕ). bits_of l 0) g)
    ∙ sym (bits_mod 64 64 (n * 2 ^ a) (le_refl 64) ∙ ap₂ bits_of (sym f) (sym (add-zero (n * 2 ^ a))) ∙ bits_cat (m * 8) a n 0 (pow_pos a))
