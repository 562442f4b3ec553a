-- Bits put behind those that are written, and the end.
use Prim.Native.Nat.{ℕ, zero, suc, ◌+◌, ◌*◌, ◌-◌, ◌/◌, ◌%◌, ◌^◌, ◌≤◌, ◌<◌}
use native.Mathlib.Nat.{mod-lt, le_refl}
use native.Mathlib.Omega.{arith}
use native.Mathlib.Decide.{dec_lt}
use mathlib.Core.Bool.{Bool, true, false, cond}
use mathlib.Core.Path.{◌≡◌, refl, sym, ap, ap₂, subst, ◌∙◌}
use mathlib.Core.List.{List, [], ◌∷◌, ◌++◌, append_assoc, flat_map}
use lib.ListN.{length, take, drop, get_or, set, replicate, length-append, length-drop, length-replicate, replicate-append-replicate, get_or-append}
use lib.Seq.{get_or-append-add, get_or-take, length-take-le, take-append-add, sets-eq, ext_get_or}
use lib.Pow.{pow_pos, pow-add, split, shl-shr, shr-shr, mod-pow-add, low}
use lib.Arith.{digits_lt}
use lib.Dec.{leb}
use borrow.Author.Tests.{leb-true, leb-false}
use Rattle.format.specs.Bits.{bits_of, bytes_bits, packed}
use Rattle.format.specs.Item.{item_bits}
use Rattle.format.specs.Log.{log_of}
use Rattle.format.specs.Lists.{All, nil, Bytes}
use Rattle.format.specs.declared.Item.{Item}
use Rattle.format.specs.Laws.Lists.{AllOf, all_append, all_of, all_take}
use Rattle.format.specs.Laws.Bits.{length_bits, bits_cat, bits_mod, bits_zero, length_bytes, bytes_append, bytes_take}
use Rattle.format.specs.Laws.Log.Fields.{Packs, packs}
use Rattle.format.specs.Laws.Log.Sizes.{bits_low, items_low}
use Rattle.format.specs.Laws.Log.Forth.{bytes_same}
use Rattle.format.specs.Laws.Bits as bytes
use Rattle.log_write.specs.Packed.{packed_of}
use Rattle.log_write.proofs.Packing.{says}
use Rattle.log_write.specs.declared.Pen.{Pen}
use Rattle.log_write.specs.Pen.{start, eight, eight_in, joined, topped, pen_put, pen_in, item_put, item_in, closed_in, closed_size, Wrote}

-- ---- eight bytes

abbrev pub sets : List ℕ → ℕ → ℕ → List ℕ
sets out at w =
    set (set (set (set (set (set (set (set out at (w / 2 ^ 56)) (at + 1) (w / 2 ^ 48 % 256)) (at + 2) (w / 2 ^ 40 % 256)) (at + 3) (w / 2 ^ 32 % 256)) (at + 4) (w / 2 ^ 24 % 256)) (at + 5) (w / 2 ^ 16 % 256)) (at + 6) (w / 2 ^ 8 % 256)) (at + 7) (w % 256)

pub eight_sets : (out : List ℕ) (at w : ℕ) → at + 8 ≤ length out → sets out at w ≡ take at out ++ (eight w ++ drop (at + 8) out)
eight_sets out at w h =
    let e1 : at + 1 ≡ suc at = omega arith in
    let e2 : at + 2 ≡ suc (suc at) = omega arith in
    let e3 : at + 3 ≡ suc (suc (suc at)) = omega arith in
    let e4 : at + 4 ≡ suc (suc (suc (suc at))) = omega arith in
    let e5 : at + 5 ≡ suc (suc (suc (suc (suc at)))) = omega arith in
    let e6 : at + 6 ≡ suc (suc (suc (suc (suc (suc at))))) = omega arith in
    let e7 : at + 7 ≡ suc (suc (suc (suc (suc (suc (suc at)))))) = omega arith in
    rw (e1, e2, e3, e4, e5, e6, e7) (sets-eq (eight w) out at h ∙ append_assoc (take at out) (eight w) (drop (at + 8) out))

eight_bytes : (w : ℕ) → w < 2 ^ 64 → AllOf (λ b. b < 256) (eight w)
eight_bytes w h = omega arith

eight_small : (w : ℕ) → w < 2 ^ 64 → Bytes (eight w)
eight_small w h = all_of (λ b. b < 256) (eight w) (eight_bytes w h)

eight_bits : (w : ℕ) → w < 2 ^ 64 → bytes_bits (eight w) ≡ bits_of 64 w
unfolding bits_of
eight_bits w h =
    let e : bytes.joined 0 (eight w) ≡ w =
    omega (arith, shr-shr w 8 8, shr-shr w 16 8, shr-shr w 24 8, shr-shr w 32 8, shr-shr w 40 8, shr-shr w 48 8) in
    sym (bytes.joined_bits 0 0 (eight w) (eight_bytes w h)) ∙ ap (bits_of 64) e

eight_long : (out : List ℕ) (at w : ℕ) → length (eight_in out at w) ≡ length out
unfolding eight_in
eight_long out at w = go (leb (at + 8) (length out)) refl
  where
    go : (b : Bool) → leb (at + 8) (length out) ≡ b → length (cond b (take at out ++ (eight w ++ drop (at + 8) out)) out) ≡ length out
    go true e =
        let h : at + 8 ≤ length out = leb-true (at + 8) (length out) e in
        length-append (take at out) (eight w ++ drop (at + 8) out) ∙ rw (length-take-le at out (omega arith), length-append (eight w) (drop (at + 8) out), length-drop (at + 8) out) (omega arith)
    go false e = refl

take_all : (s t : List ℕ) → take (length s) (s ++ t) ≡ s
take_all [] t = refl
take_all (a ∷ s) t = ap (λ (l : List ℕ). a ∷ l) (take_all s t)

first_of : (k : ℕ) (s t : List ℕ) → length s ≡ k → take k (s ++ t) ≡ s
first_of k s t e = ap (λ (n : ℕ). take n (s ++ t)) (sym e) ∙ take_all s t

-- ---- numbers moved up

-- the upper bits of a number that is moved up by s
up_is : (x j s : ℕ) → x * 2 ^ s % 2 ^ (j + s) ≡ x % 2 ^ j * 2 ^ s
up_is x j s =
    let z : (x * 2 ^ s + 0) % 2 ^ s ≡ 0 = low x s (pow_pos s) in
    let y : x * 2 ^ s + 0 ≡ x * 2 ^ s = omega arith in
    let u : x * 2 ^ s % 2 ^ s ≡ 0 = rw y at z in
    mod-pow-add (x * 2 ^ s) j s ∙ rw (shl-shr x s, u) (omega arith)

module _ (p : Pen) (v n : ℕ) (hn : n ≤ 56) (hv : v < 2 ^ n) where
  abbrev had : ℕ
  had = p.bits % 8

  abbrev part : ℕ
  part = had + n

  abbrev x : ℕ
  x = joined p v n

  to_64 : 64 - n + n ≡ 64
  to_64 = omega arith

  x_is : x ≡ p.last % 2 ^ (64 - n) * 2 ^ n + v
  x_is = ap (λ (k : ℕ). p.last * 2 ^ n % 2 ^ k + v) (sym to_64) ∙ ap (λ (k : ℕ). k + v) (up_is p.last (64 - n) n)

  pub joined_low : x < 2 ^ 64
  joined_low =
      let a : p.last % 2 ^ (64 - n) * 2 ^ n + v < 2 ^ (64 - n) * 2 ^ n = digits_lt (mod-lt p.last (pow_pos (64 - n))) hv in
      let b : 2 ^ (64 - n) * 2 ^ n ≡ 2 ^ 64 = sym (pow-add 2 (64 - n) n) ∙ ap (λ (k : ℕ). 2 ^ k) to_64 in
      omega (arith, a, b, x_is)

  -- the last bits and the new ones
  x_bits : bits_of part x ≡ bits_of had p.last ++ bits_of n v
  x_bits =
      let h : had ≤ 64 - n = omega arith in
      ap (bits_of part) x_is ∙ bits_cat had n (p.last % 2 ^ (64 - n)) v hv ∙ ap (λ (l : List ℕ). l ++ bits_of n v) (bits_mod had (64 - n) p.last h)

  abbrev w : ℕ
  w = topped part x

  w_low : w < 2 ^ 64
  w_low = mod-lt (x * 2 ^ (63 - part) % 2 ^ 64 * 2 ^ 1) (pow_pos 64)

  -- they are the first of the 64
  w_bits : bits_of 64 w ≡ (bits_of part x ++ bits_of (63 - part) 0) ++ bits_of 1 0
  w_bits =
      let y : ℕ = x * 2 ^ (63 - part) % 2 ^ 64 in
      let a : y * 2 ^ 1 ≡ y * 2 ^ 1 + 0 = omega arith in
      let b : x * 2 ^ (63 - part) ≡ x * 2 ^ (63 - part) + 0 = omega arith in
      let c : 63 ≡ part + (63 - part) = omega arith in
      bits_mod 64 64 (y * 2 ^ 1) (le_refl 64) ∙ ap (bits_of 64) a ∙ bits_cat 63 1 y 0 (pow_pos 1)
      ∙ ap (λ (l : List ℕ). l ++ bits_of 1 0) (bits_mod 63 64 (x * 2 ^ (63 - part)) (omega arith) ∙ ap₂ bits_of c b ∙ bits_cat part (63 - part) x 0 (pow_pos (63 - part)))

  abbrev full : ℕ
  full = part / 8

  abbrev vs : List ℕ
  vs = take full (eight w)

  vs_long : length vs ≡ full
  vs_long = length-take-le full (eight w) (omega arith)

  -- the bytes that are full, and the bits that are left
  full_bits : bits_of part x ≡ bytes_bits vs ++ bits_of (part % 8) x
  full_bits =
      let h : ℕ = part % 8 in
      let e : part ≡ full * 8 + h = omega arith in
      let a : bits_of part x ≡ bits_of (full * 8) (x / 2 ^ h) ++ bits_of h (x % 2 ^ h) =
      ap₂ bits_of e (sym (split x h)) ∙ bits_cat (full * 8) h (x / 2 ^ h) (x % 2 ^ h) (mod-lt x (pow_pos h)) in
      let k : full * 8 ≤ length (bits_of (full * 8) (x / 2 ^ h)) = rw (length_bits (full * 8) (x / 2 ^ h)) (omega arith) in
      let q : List ℕ = bits_of h (x % 2 ^ h) ++ (bits_of (63 - part) 0 ++ bits_of 1 0) in
      let f : bits_of 64 w ≡ bits_of (full * 8) (x / 2 ^ h) ++ q =
      w_bits ∙ ap (λ (l : List ℕ). (l ++ bits_of (63 - part) 0) ++ bits_of 1 0) a
      ∙ append_assoc (bits_of (full * 8) (x / 2 ^ h) ++ bits_of h (x % 2 ^ h)) (bits_of (63 - part) 0) (bits_of 1 0)
      ∙ append_assoc (bits_of (full * 8) (x / 2 ^ h)) (bits_of h (x % 2 ^ h)) (bits_of (63 - part) 0 ++ bits_of 1 0) in
      let t : take (full * 8) (bits_of (full * 8) (x / 2 ^ h) ++ q) ≡ bits_of (full * 8) (x / 2 ^ h) = first_of (full * 8) (bits_of (full * 8) (x / 2 ^ h)) q (length_bits (full * 8) (x / 2 ^ h)) in
      let s : bytes_bits vs ≡ bits_of (full * 8) (x / 2 ^ h) = sym (bytes_take full (eight w)) ∙ ap (take (full * 8)) (eight_bits w w_low ∙ f) ∙ t in
      a ∙ ap₂ ◌++◌ (sym s) (bits_mod h h x (le_refl h))

  -- the array has the bytes for which it has room, with the new ones
  module _ (out bs : List ℕ) (size : length bs ≡ p.bits / 8) (k : (i : ℕ) → i + 8 ≤ length out → i < p.bits / 8 → get_or out i 0 ≡ get_or bs i 0) where
    abbrev at : ℕ
    at = p.bits / 8

    new_kept : at + 8 ≤ length out → (i : ℕ) → i + 8 ≤ length out → i < at + full → get_or (take at out ++ (eight w ++ drop (at + 8) out)) i 0 ≡ get_or (bs ++ vs) i 0
    new_kept room i h g = go (dec_lt i at)
      where
        long : length (take at out) ≡ at
        long = length-take-le at out (omega arith)

        go : Dec (i < at) → get_or (take at out ++ (eight w ++ drop (at + 8) out)) i 0 ≡ get_or (bs ++ vs) i 0
        go (yes y) =
            let a : i < length (take at out) = rw long y in
            let b : i < length bs = rw size y in
            get_or-append (take at out) (eight w ++ drop (at + 8) out) 0 i a ∙ get_or-take at out i 0 y ∙ k i h y
            ∙ sym (get_or-append bs vs 0 i b)
        go (no y) =
            let j : ℕ = i - at in
            let a : i ≡ length (take at out) + j = rw long (omega arith) in
            let b : i ≡ length bs + j = rw size (omega arith) in
            let c : j < 8 = omega arith in
            let d : j < full = omega arith in
            ap (λ (z : ℕ). get_or (take at out ++ (eight w ++ drop (at + 8) out)) z 0) a
            ∙ get_or-append-add (take at out) (eight w ++ drop (at + 8) out) j 0
            ∙ get_or-append (eight w) (drop (at + 8) out) 0 j c
            ∙ sym (get_or-take full (eight w) j 0 d)
            ∙ sym (ap (λ (z : ℕ). get_or (bs ++ vs) z 0) b ∙ get_or-append-add bs vs j 0)

    put_kept : (i : ℕ) → i + 8 ≤ length out → i < at + full → get_or (eight_in out at w) i 0 ≡ get_or (bs ++ vs) i 0
    unfolding eight_in
    put_kept i h g = go (leb (at + 8) (length out)) refl
      where
        go : (b : Bool) → leb (at + 8) (length out) ≡ b → get_or (cond b (take at out ++ (eight w ++ drop (at + 8) out)) out) i 0 ≡ get_or (bs ++ vs) i 0
        go true e = new_kept (leb-true (at + 8) (length out) e) i h g
        go false e =
            let y : i < at = omega (arith, leb-false (at + 8) (length out) e) in
            let b : i < length bs = rw size y in
            k i h y ∙ sym (get_or-append bs vs 0 i b)

  pub put_long : (out : List ℕ) → length (pen_in out p v n) ≡ length out
  unfolding pen_in
  put_long out = eight_long out (p.bits / 8) w

  pub put_bits : (pen_put p v n).bits ≡ p.bits + n
  unfolding pen_put
  put_bits = refl

  pub wrote_more : (bits out : List ℕ) → Wrote bits out p → Wrote (bits ++ bits_of n v) (pen_in out p v n) (pen_put p v n)
  unfolding pen_in pen_put
  wrote_more bits out o =
      let e : (p.bits + n) / 8 ≡ p.bits / 8 + full = omega arith in
      let f : (p.bits + n) % 8 ≡ part % 8 = omega arith in
      record {
        bytes = o.bytes ++ vs;
        small = all_append o.small (all_take full (eight_small w w_low));
        is = ap (λ (l : List ℕ). l ++ bits_of n v) o.is ∙ append_assoc (bytes_bits o.bytes) (bits_of had p.last) (bits_of n v)
            ∙ ap (◌++◌ (bytes_bits o.bytes)) (sym x_bits ∙ full_bits) ∙ sym (append_assoc (bytes_bits o.bytes) (bytes_bits vs) (bits_of (part % 8) x))
            ∙ ap₂ (λ (l : List ℕ) (z : ℕ). l ++ bits_of z x) (sym (bytes_append o.bytes vs)) (sym f);
        size = length-append o.bytes vs ∙ rw (o.size, vs_long) (sym e);
        kept = λ i h g. put_kept out o.bytes o.size o.kept i (rw (eight_long out (p.bits / 8) w) at h) (rw e at g);
      }

pub wrote_none : (out : List ℕ) → Wrote [] out start
unfolding bytes_bits bits_of
wrote_none out = record { bytes = []; small = nil; is = refl; size = refl; kept = λ i h g. absurd (omega arith) }

-- an item's bits
module _ (p : Pen) (i : Item) where
  pub item_long : (out : List ℕ) → length (item_in out p i) ≡ length out
  unfolding item_in
  item_long out =
      let s = says i (packed_of i) refl in
      put_long (pen_put p (packed_of i).first (packed_of i).first_bits) (packed_of i).behind (packed_of i).behind_bits (omega (arith, s.behind_few)) s.behind_low (pen_in out p (packed_of i).first (packed_of i).first_bits)
      ∙ put_long p (packed_of i).first (packed_of i).first_bits (omega (arith, s.first_few)) s.first_low out

  pub wrote_item : (bits out : List ℕ) → Wrote bits out p → Wrote (bits ++ item_bits i) (item_in out p i) (item_put p i)
  unfolding item_in item_put
  wrote_item bits out o =
      let s = says i (packed_of i) refl in
      let a : List ℕ = bits_of (packed_of i).first_bits (packed_of i).first in
      let b : List ℕ = bits_of (packed_of i).behind_bits (packed_of i).behind in
      subst (λ (l : List ℕ). Wrote l (item_in out p i) (item_put p i)) (append_assoc bits a b ∙ ap (◌++◌ bits) (sym s.bits))
      (wrote_more (pen_put p (packed_of i).first (packed_of i).first_bits) (packed_of i).behind (packed_of i).behind_bits (omega (arith, s.behind_few)) s.behind_low (bits ++ a) (pen_in out p (packed_of i).first (packed_of i).first_bits)
      (wrote_more p (packed_of i).first (packed_of i).first_bits (omega (arith, s.first_few)) s.first_low bits out o))

-- ---- the end

abbrev zeros : ℕ → List ℕ
zeros k = replicate k 0

zeros_take : (m k : ℕ) → m ≤ k → take m (zeros k) ≡ zeros m
zeros_take zero k h = refl
zeros_take (suc m) zero h = absurd (omega arith)
zeros_take (suc m) (suc k) h = ap (λ (l : List ℕ). 0 ∷ l) (zeros_take m k (omega arith))

-- whole bytes of bits and eleven zeros are these bits and the end mark packed
module _ (bits bs rest : List ℕ) (low : All (λ b. b < 2) bits) (small : Bytes bs) (e : bits ++ zeros 11 ≡ bytes_bits bs ++ rest) (size : length bs ≡ (length bits + 11) / 8) where
  abbrev marked : List ℕ
  marked = bits ++ bits_of 4 0

  pk : Packs marked
  pk = packs marked (all_append low (bits_low 4 0))

  pk_bits : bytes_bits (packed marked) ≡ bits ++ zeros (4 + pk.more)
  pk_bits =
      pk.bits ∙ append_assoc bits (bits_of 4 0) (zeros pk.more)
      ∙ ap (◌++◌ bits) (ap (λ (l : List ℕ). l ++ zeros pk.more) (bits_zero 4) ∙ replicate-append-replicate 4 pk.more 0)

  pk_long : length (packed marked) * 8 ≡ length bits + (4 + pk.more)
  pk_long =
      sym (length_bytes (packed marked)) ∙ ap (λ (l : List ℕ). length l) pk_bits ∙ length-append bits (zeros (4 + pk.more))
      ∙ ap (λ (n : ℕ). length bits + n) (length-replicate (4 + pk.more) 0)

  packed_size : length (packed marked) ≡ length bs
  packed_size = omega (arith, pk_long, pk.few, size)

  pub packed_is : bs ≡ packed marked
  packed_is =
      let a : length bs * 8 ≡ length (bytes_bits bs) = sym (length_bytes bs) in
      let b : length bs * 8 ≡ length bits + (4 + pk.more) = ap (λ (n : ℕ). n * 8) (sym packed_size) ∙ pk_long in
      bytes_same bs (packed marked) small pk.bytes
      (sym (first_of (length bs * 8) (bytes_bits bs) rest (sym a)) ∙ ap (take (length bs * 8)) (sym e) ∙ ap (λ (n : ℕ). take n (bits ++ zeros 11)) b
      ∙ take-append-add bits (zeros 11) (4 + pk.more) ∙ ap (◌++◌ bits) (zeros_take (4 + pk.more) 11 (omega (arith, pk.few))) ∙ sym pk_bits)

module _ (is : List Item) (out : List ℕ) (p : Pen) (o : Wrote (flat_map item_bits is) out p) where
  abbrev bits : List ℕ
  bits = flat_map item_bits is

  bits_long : length bits ≡ p.bits
  bits_long =
      ap (λ (n : List ℕ). length n) o.is ∙ length-append (bytes_bits o.bytes) (bits_of (p.bits % 8) p.last)
      ∙ rw (length_bytes o.bytes, length_bits (p.bits % 8) p.last, o.size) (omega arith)

  ended : Wrote (bits ++ bits_of 11 0) (closed_in out p) (pen_put p 0 11)
  unfolding closed_in
  ended = wrote_more p 0 11 (omega arith) (pow_pos 11) bits out o

  ended_size : length ended.bytes ≡ (p.bits + 11) / 8
  ended_size = ended.size ∙ ap (λ (n : ℕ). n / 8) (put_bits p 0 11 (omega arith) (pow_pos 11))

  ended_is : ended.bytes ≡ log_of is
  unfolding log_of
  ended_is =
      packed_is bits ended.bytes (bits_of ((pen_put p 0 11).bits % 8) (pen_put p 0 11).last) (items_low is) ended.small (ap (◌++◌ bits) (sym (bits_zero 11)) ∙ ended.is)
      (ended_size ∙ rw bits_long refl)

  pub closed_size_lem : closed_size p ≡ length (log_of is)
  unfolding closed_size
  closed_size_lem = sym ended_size ∙ ap (λ (l : List ℕ). length l) ended_is

  pub closed_long : length (closed_in out p) ≡ length out
  unfolding closed_in
  closed_long = put_long p 0 11 (omega arith) (pow_pos 11) out

  pub closed_log : length (log_of is) + 7 ≤ length out → take (length (log_of is)) (closed_in out p) ≡ log_of is
  closed_log h =
      let n : ℕ = length (log_of is) in
      let a : length (take n (closed_in out p)) ≡ n = length-take-le n (closed_in out p) (omega (arith, closed_long)) in
      let s : length ended.bytes ≡ n = ap (λ (l : List ℕ). length l) ended_is in
      ext_get_or 0 (take n (closed_in out p)) (log_of is) a
      (λ i k.
      let j : i < n = omega (arith, a) in
      let b : i < (pen_put p 0 11).bits / 8 = rw ended.size at (rw (sym s) at j) in
      get_or-take n (closed_in out p) i 0 j ∙ ended.kept i (omega (arith, closed_long)) b ∙ ap (λ (l : List ℕ). get_or l i 0) ended_is)
