-- An item that is far from the log's end, found by its window.
use Prim.Native.Nat.{ℕ, ◌+◌, ◌*◌, ◌-◌, ◌/◌, ◌%◌, ◌^◌, ◌≤◌, ◌<◌}
use native.Mathlib.Nat.{add-zero, mod-eq_of_lt}
use native.Mathlib.Omega.{arith}
use mathlib.Core.Path.{◌≡◌, refl, ap, sym, ◌∙◌}
use mathlib.Core.List.{List}
use lib.ListN.{length}
use lib.Pow.{shr_lt, shr-shr}
use Rattle.format.specs.Bits.{bytes_bits, num_of, num_from}
use Rattle.format.specs.Log.{field, next_at}
use Rattle.format.specs.Laws.Bits.{length_bytes}
use Rattle.log_read.specs.Cursor.{Ahead}
use Rattle.log_read.specs.declared.Cursor.{Cursor}
use Rattle.log_read.proofs.Taken.{ahead_window}
use Rattle.log_walk.specs.declared.Piece.TheVariants.{Item as Whole}
use Rattle.log_walk.specs.Piece.{piece_of, first_bits, behind_bits, Window}
use Rattle.log_walk.proofs.Ends.{next_item}
use Rattle.log_walk.proofs.Shapes.{item_whole}

-- the highest bits ahead of a cursor that is filled for a tag
pub tag_top : (log : List ℕ) (p n : ℕ) {c : Cursor} → Ahead (bytes_bits log) p 46 0 c → n ≤ 46 → p + 46 ≤ length log * 8
    → c.ahead / 2 ^ 18 / 2 ^ (46 - n) ≡ field (bytes_bits log) p n
tag_top log p n {c} a h g =
    let s = bytes_bits log in
    let e : 18 + (46 - n) ≡ 64 - n = omega arith in
    let f : n + (64 - n) ≡ 64 = omega arith in
    let l : c.ahead < 2 ^ (n + (64 - n)) = rw f a.small in
    let k : p + 0 + n ≤ length (bytes_bits log) = omega (arith, length_bytes log) in
    shr-shr c.ahead 18 (46 - n) ∙ ap (λ (m : ℕ). c.ahead / 2 ^ m) e ∙ sym (mod-eq_of_lt (shr_lt n (64 - n) l))
    ∙ sym (ahead_window a 0 n (omega arith) k) ∙ ap (λ (q : ℕ). field s q n) (add-zero p)

field_none : (s : List ℕ) (q : ℕ) → 0 ≡ field s q 0
unfolding field num_of num_from
field_none s q = refl

module _ (log : List ℕ) (p w : ℕ) (win : Window (bytes_bits log) p w) (hw : w < 2 ^ 64) (far : p + 89 ≤ length log * 8) where
  abbrev left : ℕ
  left = length log * 8 - p

  pub whole_item : (n m x y : ℕ) → 1 ≤ w / 2 ^ 60 → w / 2 ^ 60 ≤ 8 → n ≡ first_bits (w / 2 ^ 60) → m ≡ behind_bits (w / 2 ^ 60) w → n ≤ 43 → m ≤ 46
      → x ≡ w / 2 ^ (64 - n) → y ≡ field (bytes_bits log) (p + n) m
      → Whole (record { first = x; first_bits = n; behind = y; behind_bits = m }) ≡ piece_of (next_at (bytes_bits log) p)
  whole_item n m x y lo hi a b few fewer f g =
      item_whole log p left w win (omega arith) hw (omega arith) (w / 2 ^ 60) n m refl lo hi a b x y few (omega arith) f g
      ∙ ap piece_of (sym (next_item log p left w win (omega arith) (omega arith) hw (λ z. omega arith)))

  pub whole_data : w / 2 ^ 60 ≡ 3 → Whole (record { first = w / 2 ^ 39; first_bits = 25; behind = 0; behind_bits = 0 }) ≡ piece_of (next_at (bytes_bits log) p)
  whole_data z =
      whole_item 25 0 (w / 2 ^ 39) 0 (omega arith) (omega arith) (rw z refl) (rw z refl) (omega arith) (omega arith) refl (field_none (bytes_bits log) (p + 25))
