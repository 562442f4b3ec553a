-- A field that is taken at a cursor is the field of the bits there, and the cursor behind it has the rest ahead.
use Prim.Native.Nat.{ℕ, ◌+◌, ◌*◌, ◌-◌, ◌/◌, ◌%◌, ◌^◌, ◌≤◌, ◌<◌}
use native.Mathlib.Nat.{add-zero, zero-add, lt_of_lt_of_le, mod-lt, mod-eq_of_lt}
use native.Mathlib.Omega.{arith}
use mathlib.Core.Path.{◌≡◌, ap, sym, ◌∙◌}
use mathlib.Core.List.{List}
use lib.ListN.{length}
use lib.Pow as pow
use Rattle.format.specs.Log.{field}
use Rattle.log_read.specs.declared.Cursor.{Cursor}
use Rattle.log_read.specs.Cursor.{took_of, Ahead}

-- m bits of 64 that were moved up by w
shifted : (a w j m r : ℕ) → (j + m) + (w + r) ≡ 64 → a * 2 ^ w % 2 ^ 64 / 2 ^ (w + r) % 2 ^ m ≡ a / 2 ^ r % 2 ^ m
shifted a w j m r e =
    ap (λ (k : ℕ). a * 2 ^ w % 2 ^ k / 2 ^ (w + r) % 2 ^ m) (sym e)
    ∙ ap (λ (k : ℕ). k % 2 ^ m) (pow.field (a * 2 ^ w) (j + m) (w + r) ∙ ap (λ (k : ℕ). k % 2 ^ (j + m)) (sym (pow.shr-shr (a * 2 ^ w) w r) ∙ ap (λ (k : ℕ). k / 2 ^ r) (pow.shl-shr a w)))
    ∙ pow.mod-mod-pow (a / 2 ^ r) j m

module _ {s : List ℕ} {p n k : ℕ} {c : Cursor} (a : Ahead s p n k c) (few : n ≤ 64) (w : ℕ) (fits : k + w ≤ n) where
  pub took_field : p + (k + w) ≤ length s → field s (p + k) w ≡ (took_of c w).field
  unfolding took_of
  took_field there =
      let e : w + (64 - w) ≡ 64 = omega arith in
      let g : c.ahead < 2 ^ (w + (64 - w)) = rw e a.small in
      ap (λ (q : ℕ). field s (p + q) w) (sym (add-zero k))
      ∙ a.bits 0 w (omega arith) (omega arith)
      ∙ mod-eq_of_lt (pow.shr_lt w (64 - w) g)

  pub took_ahead : Ahead s p n (k + w) (took_of c w).next
  unfolding took_of
  took_ahead = record {
    place = omega (arith, a.place);
    small = mod-lt (c.ahead * 2 ^ w) (pow.pow_pos 64);
    bits = λ j m g h.
        let q : k + w + j ≡ k + (w + j) = omega arith in
        let r : ℕ = 64 - (w + j) - m in
        let u : 64 - j - m ≡ w + r = omega arith in
        ap (λ (x : ℕ). field s (p + x) m) q
        ∙ a.bits (w + j) m (omega arith) (omega arith)
        ∙ sym (shifted c.ahead w j m r (omega arith))
        ∙ ap (λ (x : ℕ). c.ahead * 2 ^ w % 2 ^ 64 / 2 ^ x % 2 ^ m) (sym u);
  }

-- the bits ahead where a cursor was filled, as fields of the log from there on
pub ahead_window : {s : List ℕ} {p n : ℕ} {c : Cursor} → Ahead s p n 0 c → (k w : ℕ) → k + w ≤ n → p + k + w ≤ length s
    → field s (p + k) w ≡ c.ahead / 2 ^ (64 - k - w) % 2 ^ w
ahead_window {s} {p} {n} {c} a k w h l =
    ap (λ (q : ℕ). field s (p + q) w) (sym (zero-add k)) ∙ a.bits k w (omega arith) (omega arith)

-- the w highest of 64 bits
pub top_small : {a : ℕ} (w : ℕ) → a < 2 ^ 64 → w ≤ 32 → (a / 2 ^ (64 - w) < 2 ^ w) × (a / 2 ^ (64 - w) < 2 ^ 32)
top_small {a} w h few =
    let e : w + (64 - w) ≡ 64 = omega arith in
    let g : a < 2 ^ (w + (64 - w)) = rw e h in
    let t : a / 2 ^ (64 - w) < 2 ^ w = pow.shr_lt w (64 - w) g in
    (t, lt_of_lt_of_le t (pow.pow_mono few))
