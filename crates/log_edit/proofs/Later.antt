-- Bytes that are written some bits later: a byte more, and the bits that they say.
use Prim.Native.Nat.{ℕ, suc, ◌+◌, ◌*◌, ◌-◌, ◌/◌, ◌%◌, ◌^◌, ◌≤◌, ◌<◌}
use native.Mathlib.Nat.{le_refl}
use native.Mathlib.Numerals.{add-one}
use native.Mathlib.Decide.{dec_lt}
use native.Mathlib.Omega.{arith}
use mathlib.Core.Path.{◌≡◌, refl, ap, ap₂, sym, ◌∙◌}
use mathlib.Core.List.{List, [], ◌∷◌, ◌++◌, append_assoc, append-nil}
use lib.ListN.{length, take, drop, get_or, set, length-append, length-drop, drop_of_length-le}
use lib.Seq.{drop_at, drop-cons, drop-drop, length-take-le, take-add, take_all, take-append-le, take_at}
use borrow.Rule.Slice.PartMut.{put_mid}
use Rattle.format.specs.Bits.{bits_of, bytes_bits}
use Rattle.format.specs.Lists.{All, nil, cons, Bytes}
use Rattle.format.specs.Laws.Bits.{bits_cat, bits_mod, bits_split, bytes_append, bytes_drop, bytes_take, length_bits}
use Rattle.format.specs.Laws.Front.{Front, front_more, front_none}
use Rattle.log_edit.specs.Join.{Later, later, pair_of}

-- ---- the loop's turn

-- i bytes are written; `last` is the one before the next
pub record Goes (s before : ℕ) (bytes out₀ out : List ℕ) (i last : ℕ) : Type 0 where
  pub done : List ℕ
  pub front : Front done out₀ out i
  pub rest : later s before (bytes ++ 0 ∷ []) ≡ done ++ later s last (drop i bytes ++ 0 ∷ [])

pub goes_start : (s before : ℕ) (bytes out : List ℕ) → Goes s before bytes out out 0 before
goes_start s before bytes out = record { done = []; front = front_none out; rest = refl }

module _ {s before : ℕ} {bytes out₀ out : List ℕ} {i last : ℕ} (g : Goes s before bytes out₀ out i last) where
  pub goes_more : i < length bytes → length bytes ≤ length out₀ → Goes s before bytes out₀ (set out i (pair_of s last (get_or bytes i 0))) (i + 1) (get_or bytes i 0)
  unfolding later
  goes_more h l =
      let n = get_or bytes i 0 in
      let v = pair_of s last n in
      let d : drop i bytes ≡ n ∷ drop (i + 1) bytes = rw (add-one i) (drop-cons bytes i 0 h) in
      record {
        done = g.done ++ v ∷ [];
        front = front_more v g.front (omega arith);
        rest = g.rest ∙ ap (λ (l : List ℕ). g.done ++ later s last (l ++ 0 ∷ [])) d ∙ sym (append_assoc g.done (v ∷ []) (later s n (drop (i + 1) bytes ++ 0 ∷ [])));
      }

  pub goes_over : i ≡ length bytes → Later s before bytes out₀ out last
  unfolding later
  goes_over e =
      let q : length bytes ≤ i = omega arith in
      let d : drop i bytes ≡ [] = drop_of_length-le bytes q in
      record {
        done = g.done;
        size = g.front.size ∙ e;
        is = g.front.is ∙ ap (λ (n : ℕ). g.done ++ drop n out₀) e;
        rest = g.rest ∙ ap (λ (l : List ℕ). g.done ++ later s last (l ++ 0 ∷ [])) d;
      }

-- ---- in the output

pub less : (a b : ℕ) → a ≤ b → (a ≡ b → ⊥) → a < b
less a b h n = go (dec_lt a b)
  where
    go : Dec (a < b) → a < b
    go (yes y) = y
    go (no y) = absurd (n (omega arith))

-- behind w bytes of the first log
pub placed : (first second out one ys : List ℕ) (w k s b last : ℕ) → one ≡ take w first ++ drop w out → w ≤ length first → w + length second ≤ length out → k ≡ length one - w
    → (g : Later s b second (take k (drop w one)) ys last) → Front (take w first ++ g.done) out (put_mid w k one ys) (w + length second)
placed first second out one ys w k s b last c h l e g =
    let z : length (take w first) ≡ w = length-take-le w first h in
    let d : drop w one ≡ drop w out = rw c (drop_at (take w first) (drop w out) w z) in
    let t : take w one ≡ take w first = rw c (take_at (take w first) (drop w out) w z) in
    let n : length (drop w one) ≤ k = rw length-drop (omega arith) in
    let a : take k (drop w one) ≡ drop w out = take_all k (drop w one) n ∙ d in
    let y : ys ≡ g.done ++ drop (w + length second) out =
    g.is ∙ ap (λ (x : List ℕ). g.done ++ drop (length second) x) a ∙ ap (◌++◌ g.done) (drop-drop (length second) w out) in
    record {
      is = ap₂ ◌++◌ t (ap₂ ◌++◌ y (drop_of_length-le (drop w one) n) ∙ append-nil (g.done ++ drop (w + length second) out))
          ∙ sym (append_assoc (take w first) g.done (drop (w + length second) out));
      size = length-append (take w first) g.done ∙ ap₂ ◌+◌ z g.size;
      fits = l;
    }

module _ {P out xs : List ℕ} {far : ℕ} (f : Front P out xs far) (both : List ℕ) (v : ℕ) (e : both ≡ P ++ v ∷ []) (bytes : ℕ) where
  pub placed_all : far ≡ bytes → xs ≡ take bytes both ++ drop bytes out
  placed_all h =
      let t : take bytes both ≡ P = rw (e, ← h) (take_at P (v ∷ []) far f.size) in
      f.is ∙ ap₂ ◌++◌ (sym t) (ap (λ (n : ℕ). drop n out) h)

  pub placed_more : far < length out → far + 1 ≡ bytes → set xs far v ≡ take bytes both ++ drop bytes out
  placed_more l h =
      let m = front_more v f l in
      let n : length both ≤ bytes = rw e (omega (arith, m.size)) in
      m.is ∙ ap₂ ◌++◌ (sym (take_all bytes both n ∙ e)) (ap (λ (n : ℕ). drop n out) h)

-- ---- the bits

pair_bits : (s b x : ℕ) → s ≤ 8 → x < 256 → bits_of 8 (pair_of s b x) ++ bits_of s x ≡ bits_of s b ++ bits_of 8 x
pair_bits s b x h l =
    let v : ℕ = b * 256 + x in
    let m : v % 2 ^ 8 ≡ x = omega arith in
    let e : 8 + s ≡ s + 8 = omega arith in
    ap₂ ◌++◌ (bits_mod 8 8 (v / 2 ^ s) (le_refl 8)) (ap (bits_of s) (sym m) ∙ bits_mod s 8 v h)
    ∙ sym (bits_split 8 s v) ∙ ap (λ (n : ℕ). bits_of n v) e ∙ bits_cat s 8 b x l

pub later_bits : (s : ℕ) → s ≤ 8 → (b : ℕ) (bytes : List ℕ) → Bytes bytes
    → bytes_bits (later s b (bytes ++ 0 ∷ [])) ++ bits_of s 0 ≡ bits_of s b ++ (bytes_bits bytes ++ bits_of 8 0)
unfolding later bytes_bits
later_bits s h b [] nil = ap (λ (l : List ℕ). l ++ bits_of s 0) (append-nil (bits_of 8 (pair_of s b 0))) ∙ pair_bits s b 0 h (omega arith)
later_bits s h b (x ∷ xs) (cons l k) =
    let r = bytes_bits (later s x (xs ++ 0 ∷ [])) in
    let z = bytes_bits xs ++ bits_of 8 0 in
    append_assoc (bits_of 8 (pair_of s b x)) r (bits_of s 0)
    ∙ ap (◌++◌ (bits_of 8 (pair_of s b x))) (later_bits s h x xs k)
    ∙ sym (append_assoc (bits_of 8 (pair_of s b x)) (bits_of s x) z)
    ∙ ap (λ (l : List ℕ). l ++ z) (pair_bits s b x h l)
    ∙ append_assoc (bits_of s b) (bits_of 8 x) z
    ∙ ap (◌++◌ (bits_of s b)) (sym (append_assoc (bits_of 8 x) (bytes_bits xs) (bits_of 8 0)))

pub later_long : (s b : ℕ) (bytes : List ℕ) → length (later s b bytes) ≡ length bytes
unfolding later
later_long s b [] = refl
later_long s b (x ∷ xs) = ap suc (later_long s x xs)

pub later_small : (s b : ℕ) (bytes : List ℕ) → Bytes (later s b bytes)
unfolding later
later_small s b [] = nil
later_small s b (x ∷ xs) = cons {a = pair_of s b x} (omega arith) (later_small s x xs)

-- the first bits of bytes: whole bytes, and the upper bits of the next
pub first_bits_lem : (w s : ℕ) (l : List ℕ) → w < length l → s ≤ 8 → bytes_bits (take w l) ++ bits_of s (get_or l w 0 / 2 ^ (8 - s)) ≡ take (w * 8 + s) (bytes_bits l)
unfolding bytes_bits
first_bits_lem w s l h k =
    let b : ℕ = get_or l w 0 in
    let e : s + (8 - s) ≡ 8 = omega arith in
    let c : bits_of 8 b ≡ bits_of s (b / 2 ^ (8 - s)) ++ bits_of (8 - s) b = ap (λ (n : ℕ). bits_of n b) (sym e) ∙ bits_split s (8 - s) b in
    let n : s ≤ length (bits_of 8 b) = rw (length_bits 8 b) k in
    let m : s ≤ length (bits_of s (b / 2 ^ (8 - s))) = rw (length_bits s (b / 2 ^ (8 - s))) (le_refl s) in
    let u : length (bits_of s (b / 2 ^ (8 - s))) ≤ s = rw (length_bits s (b / 2 ^ (8 - s))) (le_refl s) in
    let t : take s (bits_of 8 b ++ bytes_bits (drop (w + 1) l)) ≡ bits_of s (b / 2 ^ (8 - s)) =
    take-append-le s (bits_of 8 b) (bytes_bits (drop (w + 1) l)) n ∙ ap (take s) c ∙ take-append-le s (bits_of s (b / 2 ^ (8 - s))) (bits_of (8 - s) b) m ∙ whole s (bits_of s (b / 2 ^ (8 - s))) u in
    let d : drop (w * 8) (bytes_bits l) ≡ bits_of 8 b ++ bytes_bits (drop (w + 1) l) =
    bytes_drop w l ∙ ap bytes_bits (drop-cons l w 0 h ∙ ap (λ (k : ℕ). b ∷ drop k l) (sym (add-one w))) in
    ap₂ ◌++◌ (sym (bytes_take w l)) (sym t ∙ ap (take s) (sym d)) ∙ sym (take-add (w * 8) s (bytes_bits l))
  where
    whole : (n : ℕ) (x : List ℕ) → length x ≤ n → take n x ≡ x
    whole n x g = take_all n x g
