-- Rows of one word made rows of another by their first bytes.
use Prim.Native.Nat.{ℕ, zero, suc, ◌+◌, ◌*◌, ◌/◌, ◌%◌, ◌^◌, ◌<◌, ◌≤◌}
use native.Mathlib.Omega.{arith}
use mathlib.Core.Bool.{Bool, true, false}
use mathlib.Core.Path.{◌≡◌, refl, sym, ap, ◌∙◌}
use mathlib.Core.List.{List, [], ◌∷◌, ◌++◌, flat_map}
use lib.ListN.{length, take, drop, set, get_or}
use lib.Seq.{get_or-drop}
use Rattle.format.specs.Word.{bytes_of, fill, info_of, is_odd, ones, sent, word_of, Part, part}
use Rattle.format.specs.Lawful.{buses}
use Rattle.format.specs.Lists.{list}
use Rattle.format.specs.Laws.Word.Parts.{part_back, fill_holds}
use Rattle.group_write.specs.Writing.{Tails, same_rows}
use Rattle.group_write.proofs.Words.{Written, written_length, written_past}
use Rattle.group_write.proofs.Runs.{written_row}

-- the first byte of a word whose other two stand there
pub first_set : (xs : List ℕ) (at v : ℕ) → at + 3 ≤ length xs → get_or xs (at + 1) 0 ≡ v / 2 ^ 8 % 256 → get_or xs (at + 2) 0 ≡ v % 256
    → set xs at (v / 2 ^ 16) ≡ take at xs ++ (bytes_of v ++ drop (at + 3) xs)
unfolding bytes_of
first_set (a ∷ b ∷ c ∷ xs) zero v h e f = rw (e, f) refl
first_set (a ∷ b ∷ []) zero v h e f = absurd (omega arith)
first_set (a ∷ []) zero v h e f = absurd (omega arith)
first_set [] at v h e f = absurd (omega arith)
first_set (x ∷ xs) (suc at) v h e f =
    let one : suc at + 1 ≡ suc (at + 1) = omega arith in
    let two : suc at + 2 ≡ suc (at + 2) = omega arith in
    let three : suc at + 3 ≡ suc (at + 3) = omega arith in
    rw three (ap (λ (l : List ℕ). x ∷ l) (first_set xs at v (omega arith) (rw one at e) (rw two at f)))

-- what stands behind the words written is as it was
behind : {ws d xs : List ℕ} {n : ℕ} (j : ℕ) → Written ws n d xs → get_or xs (3 * n + j) 0 ≡ get_or d (3 * n + j) 0
behind {ws} {d} {xs} {n} j w = sym (get_or-drop (3 * n) xs j 0) ∙ ap (λ (l : List ℕ). get_or l j 0) (written_past w) ∙ get_or-drop (3 * n) d j 0

-- one row more
pub top_row : {d xs : List ℕ} (v k n top : ℕ) → Tails v k d → 3 * k ≤ length d → n < k → top ≡ v / 2 ^ 16 → Written (same_rows v n) n d xs
    → Written (same_rows v (n + 1)) (n + 1) d (set xs (3 * n) top)
top_row {d} {xs} v k n top t fits l e w =
    let a = behind 1 w ∙ (t n l).0 in
    let b = behind 2 w ∙ (t n l).1 in
    let long : 3 * n + 3 ≤ length xs = omega (arith, written_length w) in
    rw e (written_row (λ r. v) n v w refl (omega arith) (first_set xs (3 * n) v long a b))

-- fill's other two bytes, on every bus
pub fill_tail : (parity : Bool) (bus : ℕ) → bus < buses parity → (sent parity (fill bus) / 2 ^ 8 % 256 ≡ 0xAA) × (sent parity (fill bus) % 256 ≡ 0xAA)
unfolding fill info_of
fill_tail parity bus h =
    let i : sent parity (word_of bus 1 0xAAAA) % 2 ^ 16 ≡ 0xAAAA = ap (λ (y : Part). y.info) (part_back parity (part bus 1 0xAAAA) (fill_holds parity bus h)) in
    (omega (arith, i), omega (arith, i))

-- on bus 0 it has no bit for the parity
pub blank_is : (parity : Bool) (bus : ℕ) → bus ≡ 0 → 0x01AAAA ≡ sent parity (fill bus)
unfolding fill word_of sent is_odd ones
blank_is true bus e = rw e refl
blank_is false bus e = rw e refl

tails_of : (n a : ℕ) (rest : List ℕ) (r : ℕ) → r < n
    → (get_or (flat_map bytes_of (list (λ k. 0x01AAAA) a n) ++ rest) (3 * r + 1) 0 ≡ 0xAA) × (get_or (flat_map bytes_of (list (λ k. 0x01AAAA) a n) ++ rest) (3 * r + 2) 0 ≡ 0xAA)
unfolding flat_map list bytes_of
tails_of zero a rest r h = absurd (omega arith)
tails_of (suc n) a rest zero h = (refl, refl)
tails_of (suc n) a rest (suc r) h =
    let one : 3 * suc r + 1 ≡ suc (suc (suc (3 * r + 1))) = omega arith in
    let two : 3 * suc r + 2 ≡ suc (suc (suc (3 * r + 2))) = omega arith in
    let t = tails_of n (a + 1) rest r (omega arith) in
    (rw one t.0, rw two t.1)

-- rows of fill on bus 0 have the tails of fill on any bus
pub blank_tails : (parity : Bool) (bus n : ℕ) {v : ℕ} {out : List ℕ} (rest : List ℕ) → bus < buses parity → v ≡ sent parity (fill bus)
    → out ≡ flat_map bytes_of (same_rows 0x01AAAA n) ++ rest → Tails v n out
blank_tails parity bus n {v} {out} rest h e o r l =
    let t = tails_of n 0 rest r l in
    let f = fill_tail parity bus h in
    rw (o, e) (t.0 ∙ sym f.0, t.1 ∙ sym f.1)
