-- A state that passes comes back from its numbers.
use Rattle.std.specs.Prelude.{ℕ, zero, suc, ◌+◌, ◌*◌, ◌/◌, ◌%◌, ◌^◌, ◌≤◌, ◌<◌, Bool, true, false, cond, ◌&&◌, ◌≡◌, refl, List, [], ◌∷◌, ◌++◌, map, length, get_or, take, drop, replicate, eqb}
use Rattle.std.proofs.Common.{arith, ap, sym, ◌∙◌, ap₂, drop-drop, eqb-true, eq-eqb}
use Rattle.std.proofs.Math.Decide.{dec_lt}
use Rattle.std.proofs.lemmas.List.{length-map}
use Rattle.std.proofs.Math.ListN.{get_or-eq_default}
use Rattle.std.proofs.Math.Seq.{take-append_seam, drop-append_seam}
use Rattle.format.specs.Bits.{bit, bits_of, num_of, num_from}
use Rattle.format.specs.Word.{Part, part, word_for, part_of, sent}
use Rattle.format.specs.Item.{sided, high_label, low_label}
use Rattle.format.specs.Plan.{legal, kind_on}
use Rattle.format.specs.Lists.{All, nil, cons}
use Rattle.format.specs.Reader.{Fed, bad, fed, holds, base_bus}
use Rattle.stream_rules.specs.Stream.{State, closed, failed, working, Working, Carry, fits, held_fits, place_fits, waits_fit, are_bits}
use Rattle.stream_rules.specs.StateNumbers.{kind_number, kind_from, four_words, numbers_of, held_of, held_from, state_of, same_row, passes}
use Rattle.format.specs.Laws.Tests.{and_true, bit_flag, clash}
use Rattle.format.specs.Laws.Lists.{all_of, all_append}
use Rattle.format.specs.Laws.Word.Parts.{Holds, part_back}
use Rattle.format.specs.Laws.Log.Fields.{bits_num}
use Rattle.format.specs.Laws.Reader.Parts.{sided_low}
use Rattle.format.proofs.Laws.Reader.Forth.{BaseOk, HeldOk}
use Rattle.format.specs.Laws.Reader.Held.{base_parts, held_parts}
use Rattle.stream_rules.specs.Laws.Stream.Held.{refed, held_back}
use Rattle.stream_rules.specs.Laws.Stream.Fits.{held_ok, both}
use Rattle.stream_rules.proofs.Laws.Stream.Kept.{Fit, fits_is, bits_ok}
use Rattle.format.specs.declared.Kind.{Kind}
use Rattle.format.specs.declared.Kind.TheVariants.{Unused, Mil1553, Arinc429}
use Rattle.format.specs.declared.Base.{Base}
use Rattle.format.specs.declared.Base.TheVariants as base
use Rattle.format.specs.declared.Held.{Held}
use Rattle.format.specs.declared.Held.TheVariants.{Nothing, Taggable, Half, TagHigh, TagLow, Answering}
use Rattle.format.specs.declared.Plan.{Plan}

-- ---- the words of what is held

word_back : (x : Part) → Holds false x → part_of false (word_for x) ≡ x
unfolding sent
word_back x h = part_back false x h

four_take : (xs : List Part) (rest : List ℕ) → take 5 (four_words xs ++ rest) ≡ four_words xs
four_take [] rest = refl
four_take (a ∷ []) rest = refl
four_take (a ∷ b ∷ []) rest = refl
four_take (a ∷ b ∷ c ∷ []) rest = refl
four_take (a ∷ b ∷ c ∷ d ∷ xs) rest = refl

four_drop : (xs : List Part) (rest : List ℕ) → drop 5 (four_words xs ++ rest) ≡ rest
four_drop [] rest = refl
four_drop (a ∷ []) rest = refl
four_drop (a ∷ b ∷ []) rest = refl
four_drop (a ∷ b ∷ c ∷ []) rest = refl
four_drop (a ∷ b ∷ c ∷ d ∷ xs) rest = refl

pub four_back : (xs : List Part) → length xs ≤ 4 → All (Holds false) xs → map (part_of false) (take (get_or (four_words xs) 0 0) (drop 1 (four_words xs))) ≡ xs
four_back [] l h = refl
four_back (a ∷ []) l (cons x h) = rw (word_back a x)
four_back (a ∷ b ∷ []) l (cons x (cons y h)) = rw (word_back a x, word_back b y)
four_back (a ∷ b ∷ c ∷ []) l (cons x (cons y (cons z h))) = rw (word_back a x, word_back b y, word_back c z)
four_back (a ∷ b ∷ c ∷ d ∷ []) l (cons x (cons y (cons z (cons w h)))) = rw (word_back a x, word_back b y, word_back c z, word_back d w)
four_back (a ∷ b ∷ c ∷ d ∷ e ∷ xs) l h = absurd (omega (arith, l))

used_low : (ks : List Kind) (bus : ℕ) → length ks ≡ 16 → (kind_on ks bus ≡ Unused → ⊥) → bus < 16
used_low ks bus n e = go (dec_lt bus 16)
  where
    go : Dec (bus < 16) → bus < 16
    go (yes h) = h
    go (no h) = absurd (e (get_or-eq_default ks Unused (beyond h)))
      where
        beyond : (bus < 16 → ⊥) → length ks ≤ bus
        beyond h = omega (arith, h, n)

mil_used : (k : Kind) → k ≡ Mil1553 → k ≡ Unused → ⊥
mil_used k e f = let z : ◌≡◌ {A = ℕ} 0 1 = ap kind_number (sym f ∙ e) in omega (arith, z)

arinc_used : (k : Kind) → k ≡ Arinc429 → k ≡ Unused → ⊥
arinc_used k e f = let z : ◌≡◌ {A = ℕ} 0 2 = ap kind_number (sym f ∙ e) in omega (arith, z)

base_low : (ks : List Kind) → length ks ≡ 16 → (x : Base) → BaseOk ks x → base_bus x < 16
base_low ks n (base.Command bus b word) o = used_low ks bus n (mil_used (kind_on ks bus) o.0)
base_low ks n (base.Arinc bus c word) o = used_low ks bus n (arinc_used (kind_on ks bus) o.0)

base_holds : (ks : List Kind) → length ks ≡ 16 → (x : Base) → BaseOk ks x → All (Holds false) (base_parts x)
base_holds ks n (base.Command bus b word) o = all_of _ _ (omega (arith, base_low ks n (base.Command bus b word) o, sided_low 15 b (omega arith), o.1))
base_holds ks n (base.Arinc bus c word) o = all_of _ _ (omega (arith, base_low ks n (base.Arinc bus c word) o, o.1, o.2))

pub held_holds : (ks : List Kind) → length ks ≡ 16 → (h : Held) → HeldOk ks h → All (Holds false) (held_parts h)
held_holds ks n Nothing o = nil
held_holds ks n (Taggable x) o = base_holds ks n x o
held_holds ks n (Half bus c high) o = all_of _ _ (omega (arith, used_low ks bus n (arinc_used (kind_on ks bus) o.0), o.1, o.2))
held_holds ks n (TagHigh x high) o = all_append (base_holds ks n x o.0) (all_of _ _ (omega (arith, base_low ks n x o.0, o.1)))
held_holds ks n (TagLow x high low) o = all_append (base_holds ks n x o.0) (all_of _ _ (omega (arith, base_low ks n x o.0, o.1, o.2)))
held_holds ks n (Answering bus r) o = all_of _ _ (omega (arith, used_low ks bus n (mil_used (kind_on ks bus) o.0), o.1))

pub held_four : (h : Held) → length (held_parts h) ≤ 4
held_four Nothing = omega arith
held_four (Taggable (base.Command bus b word)) = omega arith
held_four (Taggable (base.Arinc bus c word)) = omega arith
held_four (Half bus c high) = omega arith
held_four (TagHigh (base.Command bus b word) high) = omega arith
held_four (TagHigh (base.Arinc bus c word) high) = omega arith
held_four (TagLow (base.Command bus b word) high low) = omega arith
held_four (TagLow (base.Arinc bus c word) high low) = omega arith
held_four (Answering bus r) = omega arith

pub held_from_lem : (ks : List Kind) → length ks ≡ 16 → (h : Held) → HeldOk ks h → held_from ks (four_words (held_parts h)) ≡ h
held_from_lem ks n h o =
    ap (λ (l : List Part). held_of (refed ks Nothing l)) (four_back (held_parts h) (held_four h) (held_holds ks n h o)) ∙ ap held_of (held_back ks h o)

-- ---- the rest

bits_back : (l : List ℕ) → are_bits l ≡ true → bits_of (length l) (num_of l) ≡ l
unfolding num_of
bits_back l e = bits_num 0 l (bits_ok l e)

pub kinds_back : (ks : List Kind) → map kind_from (map kind_number ks) ≡ ks
kinds_back [] = refl
kinds_back (Unused ∷ ks) = ap (λ (l : List Kind). Unused ∷ l) (kinds_back ks)
kinds_back (Mil1553 ∷ ks) = ap (λ (l : List Kind). Mil1553 ∷ l) (kinds_back ks)
kinds_back (Arinc429 ∷ ks) = ap (λ (l : List Kind). Arinc429 ∷ l) (kinds_back ks)

take_all : (n : ℕ) (xs ys : List ℕ) → length xs ≡ n → take n (xs ++ ys) ≡ xs
take_all n xs ys e = ap (λ (k : ℕ). take k (xs ++ ys)) (sym e) ∙ take-append_seam xs ys

drop_all : (n : ℕ) (xs ys : List ℕ) → length xs ≡ n → drop n (xs ++ ys) ≡ ys
drop_all n xs ys e = ap (λ (k : ℕ). drop k (xs ++ ys)) (sym e) ∙ drop-append_seam xs ys

same_working : {w v : Working} → w.plan ≡ v.plan → w.kinds ≡ v.kinds → w.groups ≡ v.groups → w.waiting ≡ v.waiting → w.bits ≡ v.bits
    → w.carry.held ≡ v.carry.held → w.carry.since ≡ v.carry.since → w.carry.waits ≡ v.carry.waits → working w ≡ working v
same_working {w} {v} a b c d e f g h =
    ap working (same w.plan v.plan w.kinds v.kinds w.groups v.groups w.waiting v.waiting w.bits v.bits w.carry.held v.carry.held w.carry.since v.carry.since w.carry.waits v.carry.waits a b c d e f g h)
  where
    same : (p p' : Plan) (k k' : List Kind) (g g' : ℕ) (x x' y y' : List ℕ) (h h' : Held) (s s' : ℕ) (z z' : List ℕ)
        → p ≡ p' → k ≡ k' → g ≡ g' → x ≡ x' → y ≡ y' → h ≡ h' → s ≡ s' → z ≡ z'
        → ◌≡◌ {A = Working} (record { plan = p; kinds = k; groups = g; waiting = x; bits = y; carry = record { held = h; since = s; waits = z } })
        (record { plan = p'; kinds = k'; groups = g'; waiting = x'; bits = y'; carry = record { held = h'; since = s'; waits = z' } })
    same p p' k k' g g' x x' y y' h h' s s' z z' a b c d e f i j = rw (a, b, c, d, e, f, i, j)

pub state_back : (s : State) → fits s ≡ true → state_of (numbers_of s) ≡ s
unfolding state_of
state_back closed e = refl
state_back (failed k q second) e = refl
state_back (working w) e =
    let f = fits_is w e in
    let n : length w.kinds ≡ 16 = eqb-true (length w.kinds) 16 f.sixteen in
    let a = and_true (held_fits w.kinds w.carry.held) _ f.carries in
    let b = and_true (place_fits w.plan w.groups w.carry.since) _ a.1 in
    let m : length w.carry.waits ≡ 64 = eqb-true (length w.carry.waits) 64 (and_true (eqb (length w.carry.waits) 64) _ b.1).0 in
    let ns : List ℕ = numbers_of (working w) in
    let four : List ℕ = four_words (held_parts w.carry.held) in
    let rest : List ℕ = map kind_number w.kinds ++ (w.carry.waits ++ w.waiting) in
    let d20 : drop 20 ns ≡ rest = four_drop (held_parts w.carry.held) rest in
    let d36 : drop 36 ns ≡ w.carry.waits ++ w.waiting = sym (drop-drop 16 20 ns) ∙ ap (drop 16) d20 ∙ drop_all 16 (map kind_number w.kinds) (w.carry.waits ++ w.waiting) (length-map w.kinds kind_number ∙ n) in
    let d100 : drop 100 ns ≡ w.waiting = sym (drop-drop 64 36 ns) ∙ ap (drop 64) d36 ∙ drop_all 64 w.carry.waits w.waiting m in
    let ks : map kind_from (take 16 (drop 20 ns)) ≡ w.kinds = ap (λ (l : List ℕ). map kind_from (take 16 l)) d20 ∙ ap (map kind_from) (take_all 16 (map kind_number w.kinds) (w.carry.waits ++ w.waiting) (length-map w.kinds kind_number ∙ n)) ∙ kinds_back w.kinds in
    same_working
    {w = record {
      plan = record { words = w.plan.words; tracks = w.plan.tracks; frame_time = eqb (bit w.plan.frame_time) 1; crc = eqb (bit w.plan.crc) 1; parity = eqb (bit w.plan.parity) 1; crc_label = w.plan.crc_label; fill_bus = w.plan.fill_bus };
      kinds = map kind_from (take 16 (drop 20 ns));
      groups = w.groups;
      waiting = drop 100 ns;
      bits = bits_of (length w.bits) (num_of w.bits);
      carry = record { held = held_from (map kind_from (take 16 (drop 20 ns))) (take 5 (four ++ rest)); since = w.carry.since; waits = take 64 (drop 36 ns) };
    }}
    {v = w}
    (plan_back w.plan) ks refl d100 (bits_back w.bits f.bits)
    (ap₂ held_from ks (four_take (held_parts w.carry.held) rest) ∙ held_from_lem w.kinds n w.carry.held (held_ok w.kinds w.carry.held a.0))
    refl (ap (take 64) d36 ∙ take_all 64 w.carry.waits w.waiting m)
  where
    plan_back : (p : Plan) → ◌≡◌ {A = Plan} (record { words = p.words; tracks = p.tracks; frame_time = eqb (bit p.frame_time) 1; crc = eqb (bit p.crc) 1; parity = eqb (bit p.parity) 1; crc_label = p.crc_label; fill_bus = p.fill_bus }) p
    plan_back p = three (eqb (bit p.frame_time) 1) (eqb (bit p.crc) 1) (eqb (bit p.parity) 1) (bit_flag p.frame_time) (bit_flag p.crc) (bit_flag p.parity)
      where
        three : (x y z : Bool) → x ≡ p.frame_time → y ≡ p.crc → z ≡ p.parity → ◌≡◌ {A = Plan} (record { words = p.words; tracks = p.tracks; frame_time = x; crc = y; parity = z; crc_label = p.crc_label; fill_bus = p.fill_bus }) p
        three x y z a b c = rw (a, b, c) refl

pub same_row_lem : (l : List ℕ) → same_row l l ≡ true
unfolding same_row
same_row_lem [] = refl
same_row_lem (a ∷ l) = both (eq-eqb a a refl) (same_row_lem l)

pub row_same : (l m : List ℕ) → same_row l m ≡ true → l ≡ m
unfolding same_row
row_same [] [] e = refl
row_same [] (b ∷ m) e = clash e
row_same (a ∷ l) [] e = clash e
row_same (a ∷ l) (b ∷ m) e =
    let t = and_true (eqb a b) (same_row l m) e in
    ap₂ (λ (x : ℕ) (y : List ℕ). x ∷ y) (eqb-true a b t.0) (row_same l m t.1)

-- the numbers of a state that fits pass, and only such rows pass
pub fits_passes : (s : State) → fits s ≡ true → passes (numbers_of s) ≡ true
fits_passes s e = rw (state_back s e) (both e (same_row_lem (numbers_of s)))

pub passes_fits : (ns : List ℕ) → passes ns ≡ true → (s : State) × (fits s ≡ true) × (numbers_of s ≡ ns)
passes_fits ns e =
    let a = and_true (fits (state_of ns)) (same_row (numbers_of (state_of ns)) ns) e in
    (state_of ns, a.0, row_same (numbers_of (state_of ns)) ns a.1)
