-- Sums of words, as what the functions ensure tells of them.
use Prim.Native.Nat.{ℕ}
use mathlib.Core.Bool.{Bool, true, false, cond}
use mathlib.Core.Path.{◌≡◌, refl, sym, ap, ◌∙◌}
use mathlib.Core.List.{List, [], ◌∷◌, ◌++◌}
use Rattle.format.specs.Check.{check_word}
use Rattle.format.specs.Word.{word_of, sent}
use Rattle.crc.specs.Running.{next_check, check_from}
use Rattle.crc.specs.Sum.{Small, check_of_sum, Sums, Added, Summed}
use Rattle.crc.specs.declared.Sum.{Sum}
use Rattle.crc.proofs.Running.{check_is_from, from_append}

-- no words leave 0
pub check_none : {s : Sum} → Sums [] s → check_of_sum s ≡ 0
unfolding check_from
check_none p = p.check ∙ check_is_from []

-- of words and others
pub sums_more : {ws : List ℕ} {s t : Sum} (vs : List ℕ) → Sums ws s → Added s vs t → Sums (ws ++ vs) t
sums_more {ws} vs p q = record {
  small = q.small;
  check = q.check ∙ ap (λ (n : ℕ). check_from n vs) (p.check ∙ check_is_from ws) ∙ sym (check_is_from (ws ++ vs) ∙ from_append 0 ws vs);
}

-- the CRC word after them
pub sums_word : {ws : List ℕ} {s : Sum} (parity : Bool) (label c : ℕ) → Sums ws s → c ≡ check_of_sum s → sent parity (word_of 0 label c) ≡ check_word parity label ws
unfolding check_word
sums_word parity label c p e = ap (λ (n : ℕ). sent parity (word_of 0 label n)) (e ∙ p.check)

-- ---- with CRC or without it

pub summed_true : {crc : Bool} {s t : Sum} {ws : List ℕ} → crc ≡ true → Added s ws t → Summed crc s ws t
summed_true {crc} {s} {t} {ws} e p = record { small = p.small; check = rw e p.check }

pub summed_false : {crc : Bool} {s : Sum} (ws : List ℕ) → crc ≡ false → Small s → Summed crc s ws s
unfolding check_from
summed_false ws e h = record { small = h; check = rw e }

pub summed_is : {crc : Bool} {s t : Sum} {ws : List ℕ} → crc ≡ true → Summed crc s ws t → Added s ws t
summed_is {crc} {s} {t} {ws} e p = record { small = p.small; check = rw e at p.check }

pub summed_none : (crc : Bool) (s : Sum) → Small s → Summed crc s [] s
unfolding check_from
summed_none true s h = record { small = h; check = refl }
summed_none false s h = record { small = h; check = refl }

pub summed_more : (crc : Bool) {s t u : Sum} {ws vs : List ℕ} → Summed crc s ws t → Summed crc t vs u → Summed crc s (ws ++ vs) u
unfolding check_from
summed_more true {s} {t} {u} {ws} {vs} p q =
    record { small = q.small; check = q.check ∙ ap (λ (n : ℕ). check_from n vs) p.check ∙ sym (from_append (check_of_sum s) ws vs) }
summed_more false p q = record { small = q.small; check = q.check ∙ p.check }

-- and the check goes on by each
pub summed_one : (crc : Bool) {s t : Sum} {w : ℕ} → Summed crc s (w ∷ []) t → check_of_sum t ≡ cond crc (next_check (check_of_sum s) w) (check_of_sum s)
unfolding check_from
summed_one true p = p.check
summed_one false p = p.check

pub summed_two : (crc : Bool) {s t : Sum} {u v : ℕ} → Summed crc s (u ∷ v ∷ []) t → check_of_sum t ≡ cond crc (next_check (next_check (check_of_sum s) u) v) (check_of_sum s)
unfolding check_from
summed_two true p = p.check
summed_two false p = p.check
