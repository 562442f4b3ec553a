-- The written test of the bytes of a working state is its parts.
use Rattle.std.specs.Prelude.{ℕ, zero, suc, ◌+◌, ◌*◌, ◌-◌, ◌^◌, ◌%◌, ◌≤◌, ◌<◌, Bool, false, cond, ◌&&◌, ◌≡◌, refl, List, [], ◌∷◌, ◌++◌, map, get_or, take, drop, replicate, eqb}
use Rattle.std.proofs.Common.{arith, mod-eq_of_lt, mul-le-mul_right, mul-le-mul_left, ap, ap₂, sym, ◌∙◌, length-append, length-drop, take_at, drop_at, drop-drop, length-take-le, eq-eqb, eqb-true, le-leb, leb-true, lt-ltb, ltb-true}
use Rattle.std.proofs.Math.Bool.{true}
use Rattle.std.proofs.Math.ListN.{length}
use Rattle.std.proofs.lemmas.List.{length-map, length-replicate}
use Rattle.std.proofs.Math.Dec.{leb, ltb}
use Rattle.format.specs.Bits.{bit, bits_of, num_from, num_of}
use Rattle.format.specs.Lists.{All, nil, cons, Bytes, list}
use Rattle.format.specs.Plan.{legal}
use Rattle.format.specs.Laws.Bits.{length_bits}
use Rattle.format.specs.Laws.Lists.{length_list, list_split}
use Rattle.format.specs.Laws.Tests.{and_true, bit_low}
use Rattle.from_c.specs.Numbers.{are_kinds, half_at, is_choice, kind_of, plan_from, time_at}
use Rattle.format.specs.Laws.Legal.{legal_is}
use Rattle.format.specs.Laws.Limits.{Shape, group_most}
use Rattle.format.specs.Laws.Log.Fields.{num_bits, num_low}
use Rattle.format.specs.Laws.Reader.Held.{held_parts}
use Rattle.stream_rules.specs.Stream.{State, Working, working, count_of, fits, group_size, held_fits, most_bytes, place_fits, waits_fit}
use Rattle.stream_rules.specs.StateNumbers.{four_words, held_from, kind_from, kind_number, numbers_of, state_of, same_row}
use Rattle.stream_rules.specs.Laws.Stream.Fits.{both}
use Rattle.stream_rules.proofs.Laws.Stream.Kept.{Fit, bits_are, bits_ok}
use Rattle.stream_rules.proofs.Laws.Stream.Numbers.{row_same, same_row_lem}
use Rattle.format.specs.declared.Kind.{Kind}
use Rattle.format.specs.declared.Kind.TheVariants.{Unused, Mil1553, Arinc429}
use Rattle.stream_state.specs.Layout.{stage_of, stamped, zeros_behind, number_at, row_at, row_bytes, state_at, state_bytes, is_state}
use Rattle.stream_state.specs.Parts.{are_zeros, plan_named, size_fits, bits_fit, held_passes, plan_at, kinds_at, working_at}
use Rattle.data_start.specs.Holding.{flat}
use Rattle.stream_state.specs.Stand.{stand_of}
use Rattle.stream_state.specs.Laws.Row.{are_zeros_lem, row_bytes_lem, waits_are}
use Rattle.stream_state.specs.Laws.Bytes.{passed, passes}
use Rattle.stream_state.specs.Laws.Small.{Said, buses_few, carried, fit, fits_said, four_long, shape, sixteen}

-- a number of at most one byte is its last byte
last_byte : (b : List ℕ) (at : ℕ) → time_at b at ≤ 2 → get_or b (at + 4 + 3) 0 ≡ time_at b at
unfolding time_at half_at
last_byte b at h = omega (arith, h)

-- the kinds are those that the numbers say
pub kinds_are : (b : List ℕ) (n bus : ℕ) → are_kinds (list (number_at b) (20 + bus) n) ≡ true
    → list (λ k. kind_of (get_or b (167 + 8 * k) 0)) bus n ≡ map kind_from (list (number_at b) (20 + bus) n)
unfolding list are_kinds
kinds_are b zero bus e = refl
kinds_are b (suc n) bus e =
    let t = and_true (leb (number_at b (20 + bus)) 2) (are_kinds (list (number_at b) (20 + bus + 1) n)) e in
    let at : 8 * (20 + bus) + 4 + 3 ≡ 167 + 8 * bus = omega arith in
    let on : 20 + bus + 1 ≡ 20 + (bus + 1) = omega arith in
    let k : get_or b (167 + 8 * bus) 0 ≡ number_at b (20 + bus) = rw at at (last_byte b (8 * (20 + bus)) (leb-true _ _ t.0)) in
    ap₂ (λ (n : ℕ) (l : List Kind). kind_from n ∷ l) k (rw on (kinds_are b n (bus + 1) (rw on at t.1)))

-- the state that they say, the kinds by their whole numbers
abbrev named : List ℕ → List Kind → Working
named b ks = record {
  plan = plan_at b;
  kinds = ks;
  groups = number_at b 10;
  waiting = take (number_at b 100) (drop 1024 b);
  bits = bits_of (number_at b 8) (number_at b 9);
  carry = record { held = held_from ks (list (number_at b) 15 5); since = number_at b 11; waits = list (number_at b) 36 64 };
}

state_named : (b : List ℕ) → number_at b 0 ≡ 1025 → state_at b ≡ working (named b (map kind_from (list (number_at b) 20 16)))
unfolding state_of row_at list
state_named b stage = rw stage refl

pub state_working : (b : List ℕ) → number_at b 0 ≡ 1025 → are_kinds (list (number_at b) 20 16) ≡ true → state_at b ≡ working (working_at b)
state_working b stage kinds = state_named b stage ∙ ap (λ (ks : List Kind). working (named b ks)) (sym (kinds_are b 16 0 kinds))

-- the row that they say
row_split : (b : List ℕ)
    → row_at b
    ≡ stage_of (number_at b 0) ∷ number_at b 1 ∷ number_at b 2 ∷ number_at b 3 ∷ number_at b 4 ∷ number_at b 5 ∷ number_at b 6 ∷ number_at b 7 ∷ number_at b 8 ∷ number_at b 9
    ∷ number_at b 10 ∷ number_at b 11 ∷ number_at b 12 ∷ number_at b 13 ∷ number_at b 14
    ∷ (list (number_at b) 15 5 ++ (list (number_at b) 20 16 ++ (list (number_at b) 36 64 ++ take (number_at b 100) (drop 1024 b))))
unfolding row_at list
row_split b = refl

-- ---- the parts

pub record Sound (b : List ℕ) : Type 0 where
  pub named : plan_named (number_at b 1) (number_at b 2) (number_at b 3) (number_at b 4) (number_at b 5) (number_at b 6) (number_at b 7) ≡ true
  pub kinds : are_kinds (list (number_at b) 20 16) ≡ true
  pub lawful : legal (plan_at b) (kinds_at b) ≡ true
  pub size : size_fits (plan_at b) (number_at b 10) (number_at b 100) ≡ true
  pub bits : bits_fit (number_at b 8) (number_at b 9) ≡ true
  pub since : place_fits (plan_at b) (number_at b 10) (number_at b 11) ≡ true
  pub faultless : are_zeros (list (number_at b) 12 3) ≡ true
  pub held : held_passes (kinds_at b) (list (number_at b) 15 5) ≡ true
  pub waits : waits_fit (plan_at b) (kinds_at b) (number_at b 10) 0 (list (number_at b) 36 64) ≡ true
  pub gap : are_zeros (take 216 (drop 808 b)) ≡ true
  pub tail : are_zeros (drop (1024 + number_at b 100) b) ≡ true

-- a choice is its flag, a kind its name
choice_flag : (n : ℕ) → is_choice n ≡ true → bit (eqb n 1) ≡ n
choice_flag zero e = refl
choice_flag (suc zero) e = refl
choice_flag (suc (suc n)) e = absurd (omega (arith, leb-true (suc (suc n)) 1 e))

kind_flag : (n : ℕ) → leb n 2 ≡ true → kind_number (kind_from n) ≡ n
kind_flag zero e = refl
kind_flag (suc zero) e = refl
kind_flag (suc (suc zero)) e = refl
kind_flag (suc (suc (suc n))) e = absurd (omega (arith, leb-true (suc (suc (suc n))) 2 e))

kind_flags : (l : List ℕ) → are_kinds l ≡ true → map kind_number (map kind_from l) ≡ l
unfolding are_kinds
kind_flags [] e = refl
kind_flags (n ∷ l) e = let t = and_true (leb n 2) (are_kinds l) e in ap₂ (λ (x : ℕ) (m : List ℕ). x ∷ m) (kind_flag n t.0) (kind_flags l t.1)

-- the plan's numbers, each in its range
pub ranges : (words tracks time crc parity label code : ℕ) → plan_named words tracks time crc parity label code ≡ true
    → (words ≤ 512) × (tracks ≤ 4) × (is_choice time ≡ true) × (is_choice crc ≡ true) × (is_choice parity ≡ true) × (label ≤ 7) × (code ≤ 15)
ranges words tracks time crc parity label code e =
    let a = and_true (leb words 512) _ e in
    let c = and_true (leb tracks 4) _ a.1 in
    let d = and_true (is_choice time) _ c.1 in
    let f = and_true (is_choice crc) _ d.1 in
    let g = and_true (is_choice parity) _ f.1 in
    let h = and_true (leb label 7) (leb code 15) g.1 in
    (leb-true words 512 a.0, leb-true tracks 4 c.0, d.0, f.0, g.0, leb-true label 7 h.0, leb-true code 15 h.1)

zero_three : (f : ℕ → ℕ) (a : ℕ) → are_zeros (list f a 3) ≡ true → (f a ≡ 0) × (f (a + 1) ≡ 0) × (f (a + 1 + 1) ≡ 0)
unfolding are_zeros list
zero_three f a e =
    let x = and_true (eqb (f a) 0) (are_zeros (list f (a + 1) 2)) e in
    let y = and_true (eqb (f (a + 1)) 0) (are_zeros (list f (a + 1 + 1) 1)) x.1 in
    let z = and_true (eqb (f (a + 1 + 1)) 0) true y.1 in
    (eqb-true _ _ x.0, eqb-true _ _ y.0, eqb-true _ _ z.0)

three_zeros : (f : ℕ → ℕ) (a : ℕ) → (f a ≡ 0) × (f (a + 1) ≡ 0) × (f (a + 1 + 1) ≡ 0) → are_zeros (list f a 3) ≡ true
unfolding are_zeros list
three_zeros f a z = rw (z.0, z.1, z.2) refl

module _ (b : List ℕ) (long : length b ≡ 7168) (stage : number_at b 0 ≡ 1025) (s : Sound b) where
  sound_shape : Shape (plan_at b)
  sound_shape = (legal_is (plan_at b) (kinds_at b) s.lawful).shape

  pub sized : (number_at b 100 < group_size (plan_at b)) × (number_at b 10 * group_size (plan_at b) + number_at b 100 ≤ most_bytes)
  sized =
      let p = plan_at b in
      let t = and_true (ltb (number_at b 100) (group_size p)) (leb (number_at b 10 * group_size p + number_at b 100) most_bytes) s.size in
      (ltb-true _ _ t.0, leb-true _ _ t.1)

  few : number_at b 100 ≤ 6144
  few = omega (arith, sized.0, group_most (plan_at b) sound_shape)

  pub waiting_long : length (take (number_at b 100) (drop 1024 b)) ≡ number_at b 100
  waiting_long = length-take-le (number_at b 100) (drop 1024 b) (rw (length-drop 1024 b, long) (omega (arith, few)))

  pub bits_fit_lem : (number_at b 8 < 8) × (number_at b 9 < 2 ^ number_at b 8)
  bits_fit_lem =
      let t = and_true (ltb (number_at b 8) 8) (ltb (number_at b 9) (2 ^ number_at b 8)) s.bits in
      (ltb-true _ _ t.0, ltb-true _ _ t.1)

  pub held_fits_lem : (held_fits (kinds_at b) (working_at b).carry.held ≡ true) × (four_words (held_parts (working_at b).carry.held) ≡ list (number_at b) 15 5)
  held_fits_lem =
      let h = (working_at b).carry.held in
      let t = and_true (held_fits (kinds_at b) h) (same_row (four_words (held_parts h)) (list (number_at b) 15 5)) s.held in
      (t.0, row_same (four_words (held_parts h)) (list (number_at b) 15 5) t.1)

  pub sound_fits : fits (working (working_at b)) ≡ true
  unfolding fits
  sound_fits =
      let n : length (kinds_at b) ≡ 16 = length_list _ 0 16 in
      let m : length (list (number_at b) 36 64) ≡ 64 = length_list (number_at b) 36 64 in
      let z : (ltb (length (working_at b).waiting) (group_size (plan_at b)) && leb (count_of (working_at b)) most_bytes) ≡ true = rw waiting_long s.size in
      let l : ltb (length (bits_of (number_at b 8) (number_at b 9))) 8 ≡ true = rw (length_bits (number_at b 8) (number_at b 9)) (lt-ltb _ _ bits_fit_lem.0) in
      both (both s.lawful (eq-eqb _ _ n))
      (both z (both (both l (bits_are (number_at b 8) (number_at b 9))) (both held_fits_lem.0 (both s.since (both (eq-eqb _ _ m) s.waits)))))

  last_bits : num_of (bits_of (number_at b 8) (number_at b 9)) ≡ number_at b 9
  unfolding num_of
  last_bits = num_bits 0 (number_at b 8) (number_at b 9) ∙ rw (mod-eq_of_lt bits_fit_lem.1) (omega arith)

  sound_row : numbers_of (working (working_at b)) ≡ row_at b
  sound_row =
      let c = ranges (number_at b 1) (number_at b 2) (number_at b 3) (number_at b 4) (number_at b 5) (number_at b 6) (number_at b 7) s.named in
      let z = zero_three (number_at b) 12 s.faultless in
      let k : map kind_number (kinds_at b) ≡ list (number_at b) 20 16 = ap (map kind_number) (kinds_are b 16 0 s.kinds) ∙ kind_flags (list (number_at b) 20 16) s.kinds in
      rw (choice_flag (number_at b 3) c.2, choice_flag (number_at b 4) c.3, choice_flag (number_at b 5) c.4, length_bits (number_at b 8) (number_at b 9), last_bits, held_fits_lem.1, k)
      (sym (row_split b ∙ rw (stage, z.0, z.1, z.2) refl))

  -- its numbers by value
  pub sound_stand : stand_of (working_at b)
      ≡ record {
        plan = plan_at b;
        left = number_at b 8;
        last = number_at b 9;
        groups = number_at b 10;
        since = number_at b 11;
        held = flat (held_from (kinds_at b) (list (number_at b) 15 5));
        waiting = number_at b 100;
      }
  sound_stand = rw (length_bits (number_at b 8) (number_at b 9), last_bits, waiting_long) refl

  pub sound_is : Bytes b → is_state b ≡ true
  sound_is bytes =
      let st : stamped (stage_of (number_at b 0)) ≡ number_at b 0 = rw stage refl in
      passes b (working (working_at b)) (state_working b stage s.kinds) sound_fits
      (ap row_bytes sound_row ∙ row_bytes_lem b bytes long st few s.gap s.tail)

-- ---- and back: bytes that pass are sound

kinds_named : (ks : List Kind) → are_kinds (map kind_number ks) ≡ true
unfolding are_kinds
kinds_named [] = refl
kinds_named (Unused ∷ ks) = kinds_named ks
kinds_named (Mil1553 ∷ ks) = kinds_named ks
kinds_named (Arinc429 ∷ ks) = kinds_named ks

-- two lists of one length, and what follows
parted : (n : ℕ) (a c r t : List ℕ) → length a ≡ n → length c ≡ n → a ++ r ≡ c ++ t → (a ≡ c) × (r ≡ t)
parted n a c r t la lc e = (sym (take_at a r n la) ∙ ap (take n) e ∙ take_at c t n lc, sym (drop_at a r n la) ∙ ap (drop n) e ∙ drop_at c t n lc)

module _ (b : List ℕ) (stage : number_at b 0 ≡ 1025) (e : is_state b ≡ true) where
  abbrev ks : List Kind
  ks = map kind_from (list (number_at b) 20 16)

  abbrev w : Working
  w = named b ks

  at : state_at b ≡ working w
  at = state_named b stage

  w_fits : fits (working w) ≡ true
  w_fits = ap fits (sym at) ∙ (passed b e).fit

  is : state_bytes (working w) ≡ b
  is = ap state_bytes (sym at) ∙ (passed b e).is

  says : Said (numbers_of (working w))
  says = fits_said (working w) w_fits

  row : row_at b ≡ numbers_of (working w)
  row = ap row_at (sym is) ∙ says.row

  number : (i : ℕ) → get_or (row_at b) i 0 ≡ get_or (numbers_of (working w)) i 0
  number i = ap (λ (l : List ℕ). get_or l i 0) row

  choices : (is_choice (number_at b 3) ≡ true) × (is_choice (number_at b 4) ≡ true) × (is_choice (number_at b 5) ≡ true)
  choices =
      let split = sym (row_split b) ∙ row in
      let x : number_at b 3 ≡ bit (eqb (number_at b 3) 1) = ap (λ (l : List ℕ). get_or l 3 0) split in
      let y : number_at b 4 ≡ bit (eqb (number_at b 4) 1) = ap (λ (l : List ℕ). get_or l 4 0) split in
      let z : number_at b 5 ≡ bit (eqb (number_at b 5) 1) = ap (λ (l : List ℕ). get_or l 5 0) split in
      (low (number_at b 3) x, low (number_at b 4) y, low (number_at b 5) z)
    where
      low : (n : ℕ) → n ≡ bit (eqb n 1) → is_choice n ≡ true
      low n e = le-leb n 1 (omega (arith, e, bit_low (eqb n 1)))

  zero_faults : (number_at b 12 ≡ 0) × (number_at b 13 ≡ 0) × (number_at b 14 ≡ 0)
  zero_faults =
      let split = sym (row_split b) ∙ row in
      (ap (λ (l : List ℕ). get_or l 12 0) split, ap (λ (l : List ℕ). get_or l 13 0) split, ap (λ (l : List ℕ). get_or l 14 0) split)

  last_is : number_at b 9 ≡ num_of (bits_of (number_at b 8) (number_at b 9))
  last_is = ap (λ (l : List ℕ). get_or l 9 0) (sym (row_split b) ∙ row)

  halves : (list (number_at b) 15 5 ≡ four_words (held_parts w.carry.held)) × (list (number_at b) 20 16 ≡ map kind_number ks)
  halves =
      let v : List ℕ = list (number_at b) 36 64 ++ take (number_at b 100) (drop 1024 b) in
      let t : list (number_at b) 15 5 ++ (list (number_at b) 20 16 ++ v) ≡ four_words (held_parts w.carry.held) ++ (map kind_number ks ++ v) =
      ap (drop 15) (sym (row_split b) ∙ row) in
      let h : List ℕ = four_words (held_parts w.carry.held) in
      let five : length h ≡ 5 = four_long (held_parts w.carry.held) in
      let x = parted 5 (list (number_at b) 15 5) h (list (number_at b) 20 16 ++ v) (map kind_number ks ++ v) (length_list (number_at b) 15 5) five t in
      let y = parted 16 (list (number_at b) 20 16) (map kind_number ks) v v (length_list (number_at b) 20 16) (length-map ks kind_number ∙ sixteen w w_fits) x.1 in
      (x.0, y.0)

  kinds_are_named : are_kinds (list (number_at b) 20 16) ≡ true
  kinds_are_named = ap are_kinds halves.1 ∙ kinds_named ks

  kinds_same : kinds_at b ≡ ks
  kinds_same = kinds_are b 16 0 kinds_are_named

  waiting_count : number_at b 100 ≡ length w.waiting
  waiting_count = ap (λ (c : List ℕ). number_at c 100) (sym is) ∙ says.count ∙ ap (λ (l : List ℕ). length (drop 100 l)) (sym row) ∙ ap length (waits_are b)

  waits_row : drop 100 (numbers_of (working w)) ≡ w.waiting
  waits_row = ap (drop 100) (sym row) ∙ waits_are b

  zero_gap : are_zeros (take 216 (drop 808 b)) ≡ true
  zero_gap =
      let d : drop 808 b ≡ replicate 216 0 ++ zeros_behind 6144 w.waiting =
      ap (drop 808) (sym is) ∙ says.behind ∙ ap (λ (l : List ℕ). replicate 216 0 ++ zeros_behind 6144 l) waits_row in
      ap (λ (l : List ℕ). are_zeros (take 216 l)) d
      ∙ ap are_zeros (take_at (replicate 216 0) (zeros_behind 6144 w.waiting) 216 (length-replicate {A = ℕ} 216 0)) ∙ are_zeros_lem 216

  zero_tail : are_zeros (drop (1024 + number_at b 100) b) ≡ true
  zero_tail =
      let d : drop 1024 b ≡ zeros_behind 6144 w.waiting = ap (drop 1024) (sym is) ∙ says.behind_gap ∙ ap (zeros_behind 6144) waits_row in
      let z : drop (number_at b 100) (drop 1024 b) ≡ replicate (6144 - length w.waiting) 0 =
      ap (drop (number_at b 100)) d ∙ drop_at w.waiting (replicate (6144 - length w.waiting) 0) (number_at b 100) (sym waiting_count) in
      ap are_zeros (sym (drop-drop (number_at b 100) 1024 b) ∙ z) ∙ are_zeros_lem (6144 - length w.waiting)

  bits_both : (number_at b 8 < 8) × (number_at b 9 < 2 ^ number_at b 8)
  unfolding num_of
  bits_both =
      let l : length (bits_of (number_at b 8) (number_at b 9)) ≡ number_at b 8 = length_bits (number_at b 8) (number_at b 9) in
      let n : num_from 0 (bits_of (number_at b 8) (number_at b 9)) < 2 ^ number_at b 8 =
      rw l at (num_low (bits_of (number_at b 8) (number_at b 9)) (bits_ok w.bits (fit w w_fits).bits)) in
      (rw l at (fit w w_fits).short, omega (arith, n, last_is))

  pub is_sound : Sound b
  is_sound =
      let p = plan_at b in
      let f = fit w w_fits in
      let s = shape w w_fits in
      let c = carried w w_fits in
      let x : leb p.words 512 ≡ true = le-leb p.words 512 s.words_most in
      let y : leb p.tracks 4 ≡ true = le-leb p.tracks 4 s.tracks_most in
      let l : leb p.crc_label 7 ≡ true = le-leb p.crc_label 7 s.named in
      let k : leb p.fill_bus 15 ≡ true = le-leb p.fill_bus 15 (omega (arith, s.filling, buses_few p.parity)) in
      let n : ltb (number_at b 100) (group_size p) ≡ true = lt-ltb (number_at b 100) (group_size p) (rw waiting_count f.part) in
      let m : leb (number_at b 10 * group_size p + number_at b 100) most_bytes ≡ true = le-leb (number_at b 10 * group_size p + number_at b 100) most_bytes (rw waiting_count f.count) in
      let r : List ℕ = four_words (held_parts w.carry.held) in
      let h : same_row r (list (number_at b) 15 5) ≡ true = ap (same_row r) halves.0 ∙ same_row_lem r in
      record {
        named = both x (both y (both choices.0 (both choices.1 (both choices.2 (both l k)))));
        kinds = kinds_are_named;
        lawful = rw kinds_same f.lawful;
        size = both n m;
        bits = both (lt-ltb (number_at b 8) 8 bits_both.0) (lt-ltb (number_at b 9) (2 ^ number_at b 8) bits_both.1);
        since = c.1;
        faultless = three_zeros (number_at b) 12 zero_faults;
        held = rw kinds_same (both c.0 h);
        waits = rw kinds_same c.3;
        gap = zero_gap;
        tail = zero_tail;
      }
