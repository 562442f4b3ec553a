-- An entry of the report, as one number, says what it names (document 02, K10).
use Prim.Native.Nat.{ℕ, zero, suc, ◌+◌, ◌*◌, ◌/◌, ◌%◌, ◌^◌, ◌<◌, ◌≤◌}
use Rattle.std.proofs.Common.{div-mul-le_self, ap₂, ne_eqb}
use Rattle.std.proofs.Math.Nat.{mul-le-mul_right}
use native.Mathlib.Omega.{arith}
use Rattle.std.specs.Prelude.{Bool, true, false, cond, ◌≡◌, refl, List, [], ◌∷◌, ◌++◌, map, length, eqb}
use Rattle.format.specs.Lists.{All, nil, cons}
use Rattle.format.specs.Plan.{group_words, legal}
use Rattle.format.specs.Read.{groups_in}
use Rattle.format.specs.Reader.{Slot}
use Rattle.format.specs.Word.{is_fill}
use Rattle.format.specs.Group.{Fault, none, found, group_fault, group_slots}
use Rattle.format.specs.Laws.Legal.{Legal, legal_is}
use Rattle.format.specs.Laws.Limits.{groups_most, least_group_bytes, long, room}
use Rattle.format.specs.Laws.Lists.{all_append}
use Rattle.capture_rules.specs.Laws.Split.Faults.{In, FaultIn, fault_in, slots_in}
use Rattle.salvage_rules.specs.Salvage.{Piece, gap, datum, data_pieces, group_pieces, pieces, Entry, lost_group, lost_word, entry_number, salvage_groups}
use Rattle.salvage_rules.proofs.Laws.Salvage.Account.{Dealt, done, kept, dropped, lost, every_word}
use Rattle.format.specs.declared.Kind.{Kind}
use Rattle.format.specs.declared.Plan.{Plan}

-- what a number of the report names
abbrev pub entry_of : ℕ → Entry
entry_of n = cond (eqb (n / 2 ^ 32) 0) (lost_word (n % 2 ^ 32)) (lost_group (n / 2 ^ 32) (n % 2 ^ 32))

abbrev Small : Entry → Type 0
Small (lost_group k g) = (9 ≤ k) × (g < 2 ^ 32)
Small (lost_word q) = q < 2 ^ 32

entry_back : (e : Entry) → Small e → entry_of (entry_number e) ≡ e
entry_back (lost_group k g) s =
    let d : (k * 2 ^ 32 + g) / 2 ^ 32 ≡ k = omega (arith, s.1) in
    let m : (k * 2 ^ 32 + g) % 2 ^ 32 ≡ g = omega (arith, s.1) in
    rw (d, m, ne_eqb k 0 (λ (e : k ≡ 0). absurd (omega (arith, s.0, e)))) refl
entry_back (lost_word q) s =
    let d : q / 2 ^ 32 ≡ 0 = omega (arith, s) in
    let m : q % 2 ^ 32 ≡ q = omega (arith, s) in
    rw (d, m) refl

entries_back : (es : List Entry) → All Small es → map entry_of (map entry_number es) ≡ es
entries_back [] nil = refl
entries_back (e ∷ es) (cons s a) = ap₂ (λ (x : Entry) (xs : List Entry). x ∷ xs) (entry_back e s) (entries_back es a)

-- ---- indices and places are small

abbrev SmallPiece : Piece → Type 0
SmallPiece (gap k g) = (9 ≤ k) × (g < 2 ^ 32)
SmallPiece (datum s) = s.0 < 2 ^ 32

dealt_small : {ts : List Piece} {ss : List Slot} {es : List Entry} → Dealt ts ss es → All SmallPiece ts → All Small es
dealt_small done nil = nil
dealt_small (kept s d) (cons h a) = dealt_small d a
dealt_small (dropped s d) (cons h a) = cons h (dealt_small d a)
dealt_small (lost k g d) (cons h a) = cons h (dealt_small d a)

data_small : (lo hi : ℕ) (ss : List Slot) → hi ≤ 2 ^ 32 → All (λ s. In lo hi s.0) ss → All SmallPiece (data_pieces ss)
unfolding data_pieces
data_small lo hi [] l nil = nil
data_small lo hi (s ∷ ss) l (cons h a) = go (is_fill s.1) (data_small lo hi ss l a)
  where
    go : (b : Bool) → All SmallPiece (data_pieces ss) → All SmallPiece (cond b (data_pieces ss) (datum s ∷ data_pieces ss))
    go true x = x
    go false x = let k : s.0 < 2 ^ 32 = omega (arith, h.under, l) in cons {a = datum s} k x

module _ (p : Plan) (ks : List Kind) (ok : Legal p ks) (c : List ℕ) where
  pieces_small : (n g : ℕ) → g + n ≤ 2 ^ 32 → (g + n) * group_words p ≤ 2 ^ 32 → All SmallPiece (pieces p c n g)
  unfolding pieces
  pieces_small zero g a b = nil
  pieces_small (suc n) g a b =
      let e : g + suc n ≡ g + 1 + n = omega arith in
      let k : (g + 1) * group_words p ≤ (g + suc n) * group_words p = mul-le-mul_right (group_words p) (omega arith) in
      go (group_fault p c (g * group_words p)) (fault_in p c (g * group_words p) (long p ok.shape) ok.shape.tracks_least (room p ok.shape)) (omega (arith, k, b))
      (pieces_small n (g + 1) (omega (arith, a)) (rw e at b))
    where
      go : (f : Fault) → FaultIn (g * group_words p) (g * group_words p + group_words p) f → g * group_words p + group_words p ≤ 2 ^ 32 → All SmallPiece (pieces p c n (g + 1))
          → All SmallPiece (group_pieces f g (group_slots p c (g * group_words p)) ++ pieces p c n (g + 1))
      go (found k q) i m x = cons {a = gap k g} (i.0, omega (arith, a)) x
      go none i m x =
          all_append (data_small (g * group_words p) (g * group_words p + group_words p) (group_slots p c (g * group_words p)) m
          (slots_in p c (g * group_words p) (long p ok.shape) ok.shape.tracks_least (room p ok.shape))) x

-- the numbers of a report say what it names
pub report_back : (p : Plan) (ks : List Kind) (c : List ℕ) → legal p ks ≡ true → length c ≤ 1048576
    → map entry_of (map entry_number (salvage_groups p ks c (groups_in p c)).report) ≡ (salvage_groups p ks c (groups_in p c)).report
report_back p ks c l h =
    let n : ℕ = groups_in p c in
    let ok = legal_is p ks l in
    let words : n * (3 * group_words p) ≤ length c = div-mul-le_self (length c) (3 * group_words p) in
    let few : n ≤ length c / least_group_bytes = groups_most p ok.shape (length c) in
    entries_back _ (dealt_small (every_word p ks c n).dealt (pieces_small p ks ok c n 0 (omega (arith, few, h)) (omega (arith, words, h))))
