-- Items taken one after the other, and put.
use Prim.Native.Nat.{ℕ, suc, ◌+◌, ◌*◌, ◌-◌, ◌%◌, ◌^◌, ◌≤◌, ◌<◌}
use native.Mathlib.Nat.{mul-le-mul_right}
use native.Mathlib.Omega.{arith}
use lib.Pow.{pow-add, pow-lt, shl_exact}
use native.Mathlib.Decide.{dec_lt}
use mathlib.Core.Bool.{Bool, false, cond}
use mathlib.Core.Path.{◌≡◌, refl, sym, ap, subst, ◌∙◌}
use mathlib.Core.List.{List, [], ◌++◌, flat_map, append_assoc, append-nil}
use lib.ListN.{length, drop, get_or}
use borrow.Author.Tests.{lt-ltb, le-ltb}
use Rattle.format.specs.Bits.{bits_of}
use Rattle.format.specs.Word.{is_fill}
use Rattle.format.specs.Item.{item_bits}
use Rattle.format.specs.Reader.{Ran, run, more, counted}
use Rattle.format.specs.declared.Kind.{Kind}
use Rattle.format.specs.declared.Item.{Item}
use Rattle.format.specs.declared.Held.TheVariants.{Nothing}
use Rattle.format.specs.Laws.Bits.{bits_cat}
use Rattle.format.specs.Laws.Lists.{flat_map_append}
use Rattle.data_start.specs.declared.Step.{Step}
use Rattle.log_write.specs.declared.Pen.{Pen}
use Rattle.log_write.specs.Pen.{Wrote, pen_in, pen_put}
use Rattle.log_write.proofs.Writing.{put_bits, put_long, wrote_more}
use Rattle.data_items.specs.declared.Taken.{Taken}
use Rattle.data_items.specs.Taken.{Roomy, Second, Took, both_of, last_of}
use Rattle.data_items.proofs.Row.{Goes}
use Rattle.format.proofs.Laws.Reader.Onward.{more_none, more_more}

-- ---- strings put

-- n bits more
pub record Puts (added : List ℕ) (n : ℕ) (out : List ℕ) (p : Pen) (out' : List ℕ) (p' : Pen) : Type 0 where
  pub long : length out' ≡ length out
  pub bits : p'.bits ≡ p.bits + n
  pub wrote : (bits : List ℕ) → Wrote bits out p → Wrote (bits ++ added) out' p'

-- one string
pub put_puts : {p r : Pen} {v n : ℕ} {out out' : List ℕ} → n ≤ 56 → v < 2 ^ n → (r ≡ pen_put p v n) × (out' ≡ pen_in out p v n) → Puts (bits_of n v) n out p out' r
put_puts {p} {r} {v} {n} {out} l f e = record {
  long = rw e.1 (put_long p v n l f out);
  bits = rw e.0 (put_bits p v n l f);
  wrote = λ bits o. rw (e.0, e.1) (wrote_more p v n l f bits out o);
}

-- two strings, one after the other
pub puts_then : {xs ys : List ℕ} {m n : ℕ} {out₀ out₁ out₂ : List ℕ} {p q r : Pen} → Puts xs m out₀ p out₁ q → Puts ys n out₁ q out₂ r → Puts (xs ++ ys) (m + n) out₀ p
    out₂ r
puts_then {xs} {ys} {m} {n} {out₀} {out₁} {out₂} {p} {q} {r} a b = record {
  long = b.long ∙ a.long;
  bits = omega (arith, a.bits, b.bits);
  wrote = λ bits o. subst (λ (l : List ℕ). Wrote l out₂ r) (append_assoc bits xs ys) (b.wrote (bits ++ xs) (a.wrote bits o));
}

-- two strings as one
both_low : (a b x y : ℕ) → x < 2 ^ a → y < 2 ^ b → x * 2 ^ b + y < 2 ^ (a + b)
both_low a b x y h k =
    let p : 2 ^ (a + b) ≡ 2 ^ a * 2 ^ b = pow-add 2 a b in
    let q : suc x * 2 ^ b ≤ 2 ^ a * 2 ^ b = mul-le-mul_right (2 ^ b) h in
    rw p (omega (arith, k))

module _ (one two : Step) (f : Second one) (g : Second two) where
  abbrev width : ℕ
  width = one.second_width + two.second_width

  pub both_fits : both_of one two < 2 ^ width
  both_fits = both_low one.second_width two.second_width one.second two.second f.fits g.fits

  pub both_small : both_of one two < 2 ^ 64
  both_small =
      let u : 2 ^ width < 2 ^ 64 = pow-lt {i = width} {j = 64} (omega (arith, f.short, g.short)) in
      omega (arith, both_fits, u)

  pub both_whole : one.second * 2 ^ two.second_width % 2 ^ 64 ≡ one.second * 2 ^ two.second_width
  both_whole = shl_exact one.second_width two.second_width 64 f.fits (omega (arith, f.short, g.short))

  pub both_bits : bits_of width (both_of one two) ≡ bits_of one.second_width one.second ++ bits_of two.second_width two.second
  both_bits = bits_cat one.second_width two.second_width one.second two.second g.fits

-- ---- items taken

abbrev rest : List Kind → Bool → List ℕ → ℕ → ℕ → ℕ → Ran
rest ks parity row n i old = run ks parity (counted (n + i) (drop i row)) Nothing old

last_then : (n old i j k : ℕ) → i ≤ j → j < k → last_of n (last_of n old i j) j k ≡ last_of n old i k
last_then n old i j k a b = rw (lt-ltb j k b, lt-ltb i k (omega arith)) refl

module _ {ks : List Kind} {parity : Bool} {row : List ℕ} where
  -- nothing was taken
  pub took_none : (t : Taken) (out : List ℕ) → t.slot ≤ length row → Took ks parity row t out t out
  unfolding flat_map
  took_none t out room = record {
    items = [];
    is = λ n old. sym (more_none (rest ks parity row n t.slot (last_of n old t.slot t.slot)) ∙ ap
        (λ (b : Bool). rest ks parity row n t.slot (cond b (n + t.slot - 1) old)) (le-ltb t.slot t.slot (omega arith)));
    unfilled = λ k a b. absurd (omega arith);
    onward = omega arith;
    room = room;
    long = refl;
    wrote = λ bits w. subst (λ (l : List ℕ). Wrote l out t.pen) (sym (append-nil bits)) w;
    few = omega arith;
    none = λ e. refl;
  }

  -- one item was
  pub took_item : {t : Taken} {j s m : ℕ} {xs : List Item} {added out out' : List ℕ} {pen' : Pen} → Goes ks parity row t.slot j xs Nothing s → s + 1 ≡ j → t.slot < j
      → j ≤ length row
      → Puts added m out t.pen out' pen' → added ≡ flat_map item_bits xs → m ≤ 32 * (j - t.slot) → Took ks parity row t out (record { slot = j; pen = pen' }) out'
  took_item {t} {j} {s} {m} {xs} {added} {out} {out'} {pen'} g e h room p a few = record {
    items = xs;
    is = λ n old.
        let z : n + s ≡ n + j - 1 = omega arith in
        g.is n old ∙ ap (λ (q : ℕ). more xs (rest ks parity row n j q)) (z ∙ sym (ap (λ (b : Bool). cond b (n + j - 1) old) (lt-ltb t.slot j h)));
    unfilled = g.unfilled;
    onward = omega arith;
    room = room;
    long = p.long;
    wrote = λ bits w. subst (λ (l : List ℕ). Wrote (bits ++ l) out' pen') a (p.wrote bits w);
    few = omega (arith, p.bits);
    none = λ y. absurd (omega arith);
  }

  -- more were
  pub took_then : {t t₁ t₂ : Taken} {out out₁ out₂ : List ℕ} → Took ks parity row t out t₁ out₁ → Took ks parity row t₁ out₁ t₂ out₂ → t₁.slot < t₂.slot
      → Took ks parity row t out t₂ out₂
  took_then {t} {t₁} {t₂} {out} {out₁} {out₂} a b h = record {
    items = a.items ++ b.items;
    is = λ n old.
        a.is n old ∙ ap (more a.items) (b.is n (last_of n old t.slot t₁.slot))
        ∙ more_more a.items b.items (rest ks parity row n t₂.slot (last_of n (last_of n old t.slot t₁.slot) t₁.slot t₂.slot))
        ∙ ap (λ (q : ℕ). more (a.items ++ b.items) (rest ks parity row n t₂.slot q)) (last_then n old t.slot t₁.slot t₂.slot a.onward h);
    unfilled = λ k x y. go k x y (dec_lt k t₁.slot);
    onward = omega (arith, a.onward);
    room = b.room;
    long = b.long ∙ a.long;
    wrote = λ bits w.
        subst (λ (l : List ℕ). Wrote l out₂ t₂.pen)
        (append_assoc bits (flat_map item_bits a.items) (flat_map item_bits b.items) ∙ ap (◌++◌ bits) (sym (flat_map_append item_bits a.items b.items)))
        (b.wrote (bits ++ flat_map item_bits a.items) (a.wrote bits w));
    few = omega (arith, a.few, b.few, a.onward);
    none = λ e. absurd (omega (arith, a.onward));
  }
    where
      go : (k : ℕ) → t.slot ≤ k → k < t₂.slot → Dec (k < t₁.slot) → is_fill (get_or row k 0) ≡ false
      go k x y (yes z) = a.unfilled k x z
      go k x y (no z) = b.unfilled k (omega arith) y

  -- the array as it is, where nothing more was taken
  pub took_still : {t t₁ t₂ : Taken} {out out₁ out₂ : List ℕ} → Took ks parity row t out t₁ out₁ → Took ks parity row t₁ out₁ t₂ out₂ → t₂.slot ≡ t₁.slot
      → Took ks parity row t out t₁ out₂
  took_still {t} {t₁} {t₂} {out} {out₁} {out₂} a b e = subst (λ (l : List ℕ). Took ks parity row t out t₁ l) (sym (b.none e)) a

  -- there is still room
  pub took_roomy : {t t₁ : Taken} {out out₁ : List ℕ} → Took ks parity row t out t₁ out₁ → Roomy row t out → t₁.slot < length row
      → (t₁.pen.bits < 2 ^ 60) × (t₁.pen.bits + 32 * (length row - t₁.slot) + 64 ≤ 8 * length out₁)
  took_roomy a r h = (omega (arith, a.few, a.onward, a.room, r.short, r.few), omega (arith, a.few, a.onward, a.long, r.room (omega (arith, a.onward))))

pub less_or_same : {i j : ℕ} → i ≤ j → (j ≡ i → ⊥) → i < j
less_or_same {i} {j} a n = go (dec_lt i j)
  where
    go : Dec (i < j) → i < j
    go (yes h) = h
    go (no h) = absurd (n (omega arith))
