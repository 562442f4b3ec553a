-- Text put behind text.
use Prim.Native.Nat.{ℕ, suc, ◌+◌, ◌-◌, ◌≤◌, ◌<◌}
use native.Mathlib.Omega.{arith}
use native.Mathlib.Numerals.{add-one}
use mathlib.Core.Path.{◌≡◌, refl, sym, ap, ap₂, ◌∙◌}
use mathlib.Core.List.{List, [], ◌∷◌, ◌++◌, append_assoc}
use lib.ListN.{length, take, drop, set, length-append, length-drop, take-append-drop}
use lib.Seq.{sets-eq, take_at, drop_at, drop-drop, length-take-le, set_split, drop-append-add}
use Rattle.log_text.specs.Text.{Adds}

pub adds_none : (d : List ℕ) (i : ℕ) → i ≤ length d → Adds [] d i d i
adds_none d i h = record { is = sym (take-append-drop i d); end = omega arith; fits = h }

pub adds_one : (d : List ℕ) (i b : ℕ) → i < length d → Adds (b ∷ []) d i (set d i b) (i + 1)
adds_one d i b h = record { is = rw (add-one i) (set_split d i b h); end = omega arith; fits = omega arith }

pub adds_two : (d : List ℕ) (i a b : ℕ) → i + 2 ≤ length d → Adds (a ∷ b ∷ []) d i (set (set d i a) (i + 1) b) (i + 2)
adds_two d i a b h =
    let e1 : i + 1 ≡ suc i = omega arith in
    record { is = rw e1 (sets-eq (a ∷ b ∷ []) d i h ∙ append_assoc (take i d) (a ∷ b ∷ []) (drop (i + 2) d)); end = omega arith; fits = h }

pub adds_four : (d : List ℕ) (i a b c e : ℕ) → i + 4 ≤ length d → Adds (a ∷ b ∷ c ∷ e ∷ []) d i (set (set (set (set d i a) (i + 1) b) (i + 2) c) (i + 3) e) (i + 4)
adds_four d i a b c e h =
    let e1 : i + 1 ≡ suc i = omega arith in
    let e2 : i + 2 ≡ suc (suc i) = omega arith in
    let e3 : i + 3 ≡ suc (suc (suc i)) = omega arith in
    record { is = rw (e1, e2, e3) (sets-eq (a ∷ b ∷ c ∷ e ∷ []) d i h ∙ append_assoc (take i d) (a ∷ b ∷ c ∷ e ∷ []) (drop (i + 4) d)); end = omega arith; fits = h }

module _ {a d x : List ℕ} {i j : ℕ} (f : Adds a d i x j) where
  front_long : length (take i d ++ a) ≡ j
  front_long =
      let h : i ≤ length d = omega (arith, f.end, f.fits) in
      length-append (take i d) a ∙ rw (length-take-le i d h) (sym f.end)

  split : x ≡ (take i d ++ a) ++ drop j d
  split = f.is ∙ sym (append_assoc (take i d) a (drop j d))

  pub adds_long : length x ≡ length d
  adds_long = ap length split ∙ length-append (take i d ++ a) (drop j d) ∙ rw (front_long, length-drop) (omega (arith, f.fits))

  -- there is room for what is to follow
  pub adds_room : (m : ℕ) → i + (length a + m) ≤ length d → j + m ≤ length x
  adds_room m h = omega (arith, f.end, adds_long)

  pub adds_same : {b : List ℕ} → a ≡ b → Adds b d i x j
  adds_same e = rw e at f

pub adds_then : {a b d x y : List ℕ} {i j k : ℕ} → Adds a d i x j → Adds b x j y k → Adds (a ++ b) d i y k
adds_then {a} {b} {d} {x} {y} {i} {j} {k} f g =
    let front = take i d ++ a in
    let t : take j x ≡ front = rw (split f) (take_at front (drop j d) j (front_long f)) in
    let z : k ≡ length front + (k - j) = rw (front_long f) (omega (arith, g.end)) in
    let z2 : j + (k - j) ≡ k = omega (arith, g.end) in
    let r : drop k x ≡ drop k d =
    ap (λ (n : ℕ). drop n x) z ∙ ap (drop (length front + (k - j))) (split f) ∙ drop-append-add front (drop j d) (k - j) ∙ drop-drop (k - j) j d ∙ ap (λ (n : ℕ). drop n d) z2 in
    record {
      is = g.is ∙ rw (t, r) (append_assoc (take i d) a (b ++ drop k d) ∙ ap (◌++◌ (take i d)) (sym (append_assoc a b (drop k d))));
      end = rw (length-append a b) (omega (arith, f.end, g.end));
      fits = omega (arith, g.fits, adds_long f);
    }

-- text of at most m bytes
pub record Short (a d : List ℕ) (i : ℕ) (x : List ℕ) (j m : ℕ) : Type 0 where
  pub adds : Adds a d i x j
  pub few : length a ≤ m

pub short : {a d x : List ℕ} {i j : ℕ} (m : ℕ) → Adds a d i x j → length a ≤ m → Short a d i x j m
short m f h = record { adds = f; few = h }

pub short_then : {a b d x y : List ℕ} {i j k m : ℕ} (n : ℕ) → Short a d i x j m → Adds b x j y k → length b ≤ n → Short (a ++ b) d i y k (m + n)
short_then {a} {b} n f g h = record { adds = adds_then f.adds g; few = omega (arith, length-append a b, f.few) }

pub short_room : {a d x : List ℕ} {i j m : ℕ} (k : ℕ) → Short a d i x j m → i + (m + k) ≤ length d → j + k ≤ length x
short_room k f h = omega (arith, f.adds.end, f.few, adds_long f.adds)
