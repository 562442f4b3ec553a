-- Every notice is marked, and where all that is marked is answered at once the whole row is quiet.
use Prim.Native.Nat.{ℕ, zero, suc, ◌+◌, ◌*◌, ◌/◌, ◌%◌, ◌^◌, ◌-◌, ◌<◌, ◌≤◌, min}
use Rattle.std.proofs.Common.{arith, pow-suc, mod-lt, mod-eq_of_lt, ap₂, sym, ◌∙◌, pow_pos}
use Rattle.std.proofs.Math.Nat.{div-div-eq-div-mul}
use Rattle.std.specs.Prelude.{Bool, cond, ◌&&◌, ◌||◌, ◌≡◌}
use Rattle.std.proofs.Math.Bool.{true, false, not}
use Rattle.std.proofs.Math.Path.{refl, ap}
use mathlib.Core.List.{List, [], ◌∷◌}
use Rattle.std.proofs.Math.ListN.{length, get_or, drop}
use Rattle.std.specs.Int.Bits.{bit_and, bit_or, bit_xor, and_self, and_step, and_zero_r}
use Rattle.std.proofs.lemmas.Nat.{and_block, and_mod, xor_shr, xor_mod}
use Rattle.std.proofs.lemmas.Nat.Bits.{and_high}
use Rattle.std.proofs.Math.Dec.{eqb}
use Rattle.std.proofs.Math.Pow.{split}
use Rattle.std.proofs.Math.Seq.{drop-length}
use borrow.Author.Tests.{eq-eqb, ne_eqb, eqb-true}
use Rattle.format.specs.Lawful.{buses}
use Rattle.format.specs.Plan.{kind_on}
use Rattle.format.specs.Word.{bus_of, label_of, info_of, word_of}
use Rattle.format.specs.Item.{high_label}
use Rattle.format.specs.Laws.Tests.{clash, and_true, or_false}
use Rattle.format.specs.declared.Kind.{Kind}
use Rattle.format.specs.declared.Kind.TheVariants.{Unused, Mil1553, Arinc429}
use Rattle.notices.specs.Roles.{Words}
use Rattle.notices.specs.Table.{any_notice, is_arinc}
use Rattle.notices.specs.Quiet.{answer_in, awaited, is_notice, quiet_part}
use Rattle.notices.specs.Marks.{Marks, answered_by, changed, code_bits, in_word, marked, notice_mask, notice_value, shared, shared_with, side, unanswered}
use Rattle.format.specs.Laws.Reader.Counted.{drop_next, drop_none}
use Rattle.notices.specs.Laws.Quiet.{label_low}
use Rattle.notices.specs.Laws.Rows.{kinds_next}
use Rattle.notices.specs.Laws.Bits.{Within, digit, within_both, within_left, within_right, within_trans, xor_zero}

-- ---- what all ARINC buses share

shared_within : (ones : Bool) (bits bus : ℕ) (ks : List Kind) → Within (shared ones bits bus ks) bits
unfolding shared
shared_within ones bits bus [] = and_self bits
shared_within ones bits bus (k ∷ ks) = go (is_arinc k) (λ x. shared_within ones x (bus + 1) ks)
  where
    go : (t : Bool) → ((x : ℕ) → Within (shared ones x (bus + 1) ks) x) → Within (shared ones (cond t (bit_and bits (side ones bus)) bits) (bus + 1) ks) bits
    go true ih = within_trans bits (bit_and bits (side ones bus)) _ (within_left bits (side ones bus)) (ih (bit_and bits (side ones bus)))
    go false ih = ih bits

shared_side : (ones : Bool) (bits bus : ℕ) (ks : List Kind) (i : ℕ) → is_arinc (kind_on ks i) ≡ true → Within (shared ones bits bus ks) (side ones (bus + i))
unfolding shared
shared_side ones bits bus [] i e = clash e
shared_side ones bits bus (k ∷ ks) zero e =
    let z : bus + 0 ≡ bus = omega arith in
    rw (z, e) (within_trans (side ones bus) (bit_and bits (side ones bus)) _ (within_right bits (side ones bus)) (shared_within ones (bit_and bits (side ones bus)) (bus + 1) ks))
shared_side ones bits bus (k ∷ ks) (suc i) e =
    let z : bus + suc i ≡ bus + 1 + i = omega arith in
    rw z (shared_side ones (cond (is_arinc k) (bit_and bits (side ones bus)) bits) (bus + 1) ks i e)

-- what a number lacks
apart : (k c : ℕ) → c < 2 ^ k → bit_and c (2 ^ k - 1 - c) ≡ 0
apart zero c h = let z : c ≡ 0 = omega arith in rw z
apart (suc k) c h =
    let p : 2 ^ suc k ≡ 2 ^ k * 2 = pow-suc 2 k in
    let l : c / 2 < 2 ^ k = omega arith in
    let half : (2 ^ suc k - 1 - c) / 2 ≡ 2 ^ k - 1 - c / 2 = omega arith in
    let odd : (2 ^ suc k - 1 - c) % 2 ≡ 1 - c % 2 = omega arith in
    and_step c (2 ^ suc k - 1 - c) ∙ rw (half, odd, apart k (c / 2) l) (digit (λ x. 0 * 2 + min x (1 - x) ≡ 0) refl refl c)

-- ---- a word by its mask

mark_word : (w m : ℕ) → bit_and w (m * 2 ^ 20 + 15 * 2 ^ 16) ≡ bit_and (w / 2 ^ 20) m * 2 ^ 20 + label_of w * 2 ^ 16
unfolding label_of
mark_word w m =
    let s : w ≡ w / 2 ^ 20 * 2 ^ 20 + w % 2 ^ 20 = omega arith in
    let l : w % 2 ^ 20 / 2 ^ 16 % 2 ^ 4 ≡ w / 2 ^ 16 % 16 = omega arith in
    ap (λ n. bit_and n (m * 2 ^ 20 + 15 * 2 ^ 16)) s ∙ and_block 20 (w / 2 ^ 20) m (w % 2 ^ 20) (15 * 2 ^ 16) (omega arith) (omega arith)
    ∙ ap (λ n. bit_and (w / 2 ^ 20) m * 2 ^ 20 + n) (and_high (w % 2 ^ 20) 4 16 ∙ ap (λ n. n * 2 ^ 16) l)

-- the low bits of a mask look at the low bits of a number
low_and : (j q s : ℕ) → bit_and q (s % 2 ^ j) ≡ bit_and (q % 2 ^ j) s % 2 ^ j
low_and j q s =
    let l : q % 2 ^ j < 2 ^ j = mod-lt q (pow_pos j) in
    let m : s % 2 ^ j < 2 ^ j = mod-lt s (pow_pos j) in
    let z : s % 2 ^ j ≡ 0 * 2 ^ j + s % 2 ^ j = omega arith in
    let f : bit_and (q % 2 ^ j) s % 2 ^ j ≡ bit_and (q % 2 ^ j) (s % 2 ^ j) = and_mod (q % 2 ^ j) s j ∙ ap (λ n. bit_and n (s % 2 ^ j)) (mod-eq_of_lt l) in
    ap₂ bit_and (sym (split q j)) z ∙ and_block j (q / 2 ^ j) 0 (q % 2 ^ j) (s % 2 ^ j) l m ∙ rw (and_zero_r (q / 2 ^ j), f) (omega arith)

notice_marked : (ks : List Kind) (parity : Bool) (w : ℕ) → w < 2 ^ 24 → is_notice ks parity w ≡ true → marked (notice_mask ks parity) (notice_value ks parity) w ≡ true
unfolding bus_of
notice_marked ks parity w h y =
    let a = and_true (eqb (label_of w) 4) (is_arinc (kind_on ks (bus_of parity w))) y in
    eq-eqb (bit_and w (notice_mask ks parity)) (notice_value ks parity)
    (mark_word w (bit_or (shared true 15 0 ks) (shared false 15 0 ks) % buses parity) ∙ rw (eqb-true (label_of w) 4 a.0, on_bus parity a.1))
  where
    both : (c : ℕ) → c < 16 → is_arinc (kind_on ks c) ≡ true → bit_and c (bit_or (shared true 15 0 ks) (shared false 15 0 ks)) ≡ shared true 15 0 ks
    both c l e =
        let z : 0 + c ≡ c = omega arith in
        within_both c (15 - c) (shared true 15 0 ks) (shared false 15 0 ks) (apart 4 c l) (rw z at (shared_side true 15 0 ks c e)) (rw z at (shared_side false 15 0 ks c e))

    on_bus : (parity : Bool) → is_arinc (kind_on ks (bus_of parity w)) ≡ true
        → bit_and (w / 2 ^ 20) (bit_or (shared true 15 0 ks) (shared false 15 0 ks) % buses parity) ≡ shared true 15 0 ks % buses parity
    on_bus true e = low_and 3 (w / 2 ^ 20) (bit_or (shared true 15 0 ks) (shared false 15 0 ks)) ∙ ap (λ n. n % 8) (both (w / 2 ^ 20 % 8) (omega arith) e)
    on_bus false e =
        let z : w / 2 ^ 20 % 16 ≡ w / 2 ^ 20 = omega arith in
        low_and 4 (w / 2 ^ 20) (bit_or (shared true 15 0 ks) (shared false 15 0 ks)) ∙ rw z (ap (λ n. n % 16) (both (w / 2 ^ 20) (omega arith) e))

-- a word that is joined of them
pub joined : (parity : Bool) (bits label code w : ℕ) → code ≡ bits % buses parity → w ≡ word_of code label 0 → w ≡ in_word parity bits label
unfolding word_of
joined parity bits label code w e f = rw (← e) (omega (arith, f))

-- what is marked has the label of a notice
pub marked_label : (parity : Bool) (bits ones w : ℕ) → marked (in_word parity bits 15) (in_word parity ones 4) w ≡ true → label_of w ≡ 4
marked_label parity bits ones w e =
    let l : label_of w < 16 = label_low w in
    sym (low (bit_and (w / 2 ^ 20) (bits % buses parity)) (label_of w) l)
    ∙ ap (λ n. n / 2 ^ 16 % 16) (sym (mark_word w (bits % buses parity)) ∙ eqb-true (bit_and w (in_word parity bits 15)) (in_word parity ones 4) e)
    ∙ low (ones % buses parity) 4 (omega arith)
  where
    low : (x l : ℕ) → l < 16 → (x * 2 ^ 20 + l * 2 ^ 16) / 2 ^ 16 % 16 ≡ l
    low x l h = omega arith

-- ---- the word right behind

looked : (j a b : ℕ) → eqb (bit_and (bit_xor a b) (2 ^ (j + 16) - 2 ^ 16)) 0 ≡ eqb (a / 2 ^ 16 % 2 ^ j) (b / 2 ^ 16 % 2 ^ j)
looked j a b =
    ap (λ n. eqb n 0) (and_high (bit_xor a b) j 16 ∙ ap (λ n. n % 2 ^ j * 2 ^ 16) (xor_shr a b 16) ∙ ap (λ n. n * 2 ^ 16) (xor_mod (a / 2 ^ 16) (b / 2 ^ 16) j))
    ∙ scaled (bit_xor (a / 2 ^ 16 % 2 ^ j) (b / 2 ^ 16 % 2 ^ j)) ∙ xor_zero (a / 2 ^ 16 % 2 ^ j) (b / 2 ^ 16 % 2 ^ j)
  where
    scaled : (n : ℕ) → eqb (n * 2 ^ 16) 0 ≡ eqb n 0
    scaled zero = refl
    scaled (suc n) = ne_eqb (suc n * 2 ^ 16) 0 (λ z. absurd (omega arith)) ∙ sym (ne_eqb (suc n) 0 (λ z. absurd (omega arith)))

code : (w : ℕ) → label_of w ≡ 4 → changed w / 2 ^ 16 ≡ w / 2 ^ 20 * 16 + (9 + 2 * (w % 2 ^ 16 / 2 ^ 13 % 4))
unfolding label_of
code w e =
    let c : w / 2 ^ 13 % 4 ≡ w % 2 ^ 16 / 2 ^ 13 % 4 = channel w in
    let d : w / 2 ^ 16 / 2 ^ 4 ≡ w / 2 ^ 20 = div-div-eq-div-mul w (2 ^ 16) (2 ^ 4) in
    let q : w / 2 ^ 16 ≡ w / 2 ^ 20 * 16 + 4 = omega (arith, d, e) in
    moved w (w / 2 ^ 13 % 4) ∙ rw (c, q) (omega arith)
  where
    moved : (w c : ℕ) → (w + 5 * 2 ^ 16 + c * 2 ^ 17) / 2 ^ 16 ≡ w / 2 ^ 16 + (5 + 2 * c)
    moved w c = omega arith

    channel : (w : ℕ) → w / 2 ^ 13 % 4 ≡ w % 2 ^ 16 / 2 ^ 13 % 4
    channel w = omega arith

pub behind : (parity : Bool) (w v : ℕ) → w < 2 ^ 24 → v < 2 ^ 24 → label_of w ≡ 4
    → eqb (bit_and (bit_xor v (changed w)) (code_bits parity)) 0 ≡ eqb (bus_of parity v * 16 + label_of v) (awaited parity w)
unfolding bus_of label_of info_of awaited
behind true w v h k e =
    let a : v / 2 ^ 16 % 2 ^ 7 ≡ v / 2 ^ 20 % 8 * 16 + v / 2 ^ 16 % 16 = omega arith in
    looked 7 v (changed w) ∙ ap₂ eqb a (ap (λ n. n % 2 ^ 7) (code w e) ∙ fits (w / 2 ^ 20) (w % 2 ^ 16 / 2 ^ 13 % 4) (omega arith))
  where
    fits : (q c : ℕ) → c < 4 → (q * 16 + (9 + 2 * c)) % 2 ^ 7 ≡ q % 8 * 16 + (9 + 2 * c)
    fits q c l = omega arith
behind false w v h k e =
    let a : v / 2 ^ 16 % 2 ^ 8 ≡ v / 2 ^ 20 * 16 + v / 2 ^ 16 % 16 = omega arith in
    looked 8 v (changed w) ∙ ap₂ eqb a (ap (λ n. n % 2 ^ 8) (code w e) ∙ fits (w / 2 ^ 20) (w % 2 ^ 16 / 2 ^ 13 % 4) (omega arith) (omega arith))
  where
    fits : (q c : ℕ) → c < 4 → q < 16 → (q * 16 + (9 + 2 * c)) % 2 ^ 8 ≡ q * 16 + (9 + 2 * c)
    fits q c l m = omega arith

-- ---- a row

held : (t u : Bool) → t ≡ true → (t && not u) ≡ false → u ≡ true
held true true e f = refl
held true false e f = clash (sym f)
held false u e f = clash e

module _ (ks : List Kind) (parity : Bool) (mask value : ℕ) (all : (w : ℕ) → w < 2 ^ 24 → is_notice ks parity w ≡ true → marked mask value w ≡ true) where
  pub answered_quiet : (ws : List ℕ) → Words ws → unanswered mask value parity ws ≡ false → quiet_part ks parity 0 ws ≡ length ws
  unfolding unanswered quiet_part answer_in awaited
  answered_quiet [] low e = refl
  answered_quiet (w ∷ ws) low e =
      let o = or_false (marked mask value w && not (answered_by parity w ws)) (unanswered mask value parity ws) e in
      go (is_notice ks parity w) refl ws o.0 (answered_quiet ws (λ i l. low (suc i) (omega arith)) o.1)
    where
      go : (t : Bool) → is_notice ks parity w ≡ t → (ws : List ℕ) → (marked mask value w && not (answered_by parity w ws)) ≡ false → quiet_part ks parity 0 ws ≡ length ws
          → quiet_part ks parity 0 (w ∷ ws) ≡ suc (length ws)
      go false y ws a ih = rw (y, ih)
      go true y [] a ih = clash (sym (ap (λ t. t && true) (sym (all w (low 0 (omega arith)) y)) ∙ a))
      go true y (v ∷ ws) a ih =
          let n : answered_by parity w (v ∷ ws) ≡ true = held (marked mask value w) (answered_by parity w (v ∷ ws)) (all w (low 0 (omega arith)) y) a in
          let s : bus_of parity v * 16 + label_of v ≡ bus_of parity w * 16 + (9 + 2 * (info_of w / 2 ^ 13 % 4)) = eqb-true (bus_of parity v * 16 + label_of v) (awaited parity w) n in
          let o : eqb (label_of v) 4 ≡ false = ne_eqb (label_of v) 4 (λ z. absurd (omega (arith, s, z, label_low v))) in
          rw (y, o, n) (ap suc (rw o at ih))

-- where all that is marked by the bits of notices is answered at once
pub look_quiet : (ks : List Kind) (parity : Bool) (ws : List ℕ) → Words ws → unanswered (notice_mask ks parity) (notice_value ks parity) parity ws ≡ false
    → quiet_part ks parity 0 ws ≡ length ws
look_quiet ks parity = answered_quiet ks parity (notice_mask ks parity) (notice_value ks parity) (notice_marked ks parity)

-- ---- one element further

module _ (ones : Bool) (bits : ℕ) (ks : List Kind) where
  pub shared_next : (bus : ℕ) → bus < length ks → shared ones bits bus (drop bus ks) ≡ shared ones (shared_with (get_or ks bus Unused) ones bits bus) (bus + 1) (drop (bus + 1) ks)
  unfolding shared
  shared_next bus l = rw (kinds_next bus ks l)

  pub shared_end : length ks ≡ 16 → shared ones bits 16 (drop 16 ks) ≡ bits
  unfolding shared
  shared_end e = ap (shared ones bits 16) (ap (λ (n : ℕ). drop n ks) (sym e) ∙ drop-length ks)

module _ (mask value : ℕ) (parity : Bool) (row : List ℕ) where
  pub unanswered_next : (i : ℕ) → Words row → Marks mask value → i + 1 < length row
      → unanswered mask value parity (drop i row)
      ≡ ((marked mask value (get_or row i 0) && not (eqb (bit_and (bit_xor (get_or row (i + 1) 0) (changed (get_or row i 0))) (code_bits parity)) 0)) || unanswered mask value parity (drop (i + 1) row))
  unfolding unanswered
  unanswered_next i low marks l =
      let w = get_or row i 0 in
      let v = get_or row (i + 1) 0 in
      rw (drop_next i row (omega arith), drop_next (i + 1) row l)
      (ap (λ t. t || unanswered mask value parity (v ∷ drop (i + 1 + 1) row)) (go (marked mask value w) refl))
    where
      go : (t : Bool) → marked mask value (get_or row i 0) ≡ t
          → (t && not (eqb (bus_of parity (get_or row (i + 1) 0) * 16 + label_of (get_or row (i + 1) 0)) (awaited parity (get_or row i 0))))
          ≡ (t && not (eqb (bit_and (bit_xor (get_or row (i + 1) 0) (changed (get_or row i 0))) (code_bits parity)) 0))
      go true e = ap not (sym (behind parity (get_or row i 0) (get_or row (i + 1) 0) (low i (omega arith)) (low (i + 1) l) (marks (get_or row i 0) e)))
      go false e = refl

  pub unanswered_last : (i : ℕ) → i + 1 ≡ length row → unanswered mask value parity (drop i row) ≡ marked mask value (get_or row i 0)
  unfolding unanswered
  unanswered_last i e = rw (drop_next i row (omega arith), drop_none (i + 1) row (omega arith)) (go (marked mask value (get_or row i 0)))
    where
      go : (t : Bool) → ((t && true) || false) ≡ t
      go true = refl
      go false = refl

pub any_some : (ws : List ℕ) → any_notice ws ≡ true → 0 < length ws
unfolding any_notice
any_some [] e = clash e
any_some (w ∷ ws) e = omega arith
