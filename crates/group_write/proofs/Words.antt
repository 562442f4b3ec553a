-- Bytes that are filled from the front, word by word.
use Prim.Native.Nat.{ℕ, ◌+◌, ◌*◌, ◌-◌, ◌≤◌}
use native.Mathlib.Omega.{arith}
use mathlib.Core.Path.{◌≡◌, refl, sym, ap, ap₂, ◌∙◌}
use mathlib.Core.List.{List, [], ◌∷◌, ◌++◌, append_assoc, flat_map}
use lib.ListN.{length, take, drop, length-append, length-drop, take-append-drop}
use lib.Seq.{take_at, drop_at, drop-drop, drop-append-le, length-take-le}
use borrow.Rule.Slice.PartMut.{put_mid}
use Rattle.format.specs.Word.{bytes_of}
use Rattle.group_write.proofs.Laws.{flat_map_append, bytes_three}

-- the n words ws stand at the front of xs, which else is as d
pub record Written (ws : List ℕ) (n : ℕ) (d xs : List ℕ) : Type 0 where
  pub is : xs ≡ flat_map bytes_of ws ++ drop (3 * n) d
  pub count : length ws ≡ n
  pub fits : 3 * n ≤ length d

pub bytes_count : (ws : List ℕ) (n : ℕ) → length ws ≡ n → length (flat_map bytes_of ws) ≡ 3 * n
bytes_count ws n e = bytes_three ws ∙ rw e (omega arith)

pub written_none : (d : List ℕ) → Written [] 0 d d
unfolding flat_map
written_none d = record { is = refl; count = refl; fits = omega arith }

pub written_length : {ws d xs : List ℕ} {n : ℕ} → Written ws n d xs → length xs ≡ length d
written_length {ws} {d} {xs} {n} w =
    ap length w.is ∙ length-append (flat_map bytes_of ws) (drop (3 * n) d)
    ∙ rw (bytes_count ws n w.count, length-drop) (omega (arith, w.fits))

-- said of these very words
pub written_is : {ws vs d xs : List ℕ} {n m : ℕ} → Written ws n d xs → ws ≡ vs → n ≡ m → xs ≡ flat_map bytes_of vs ++ drop (3 * m) d
written_is {ws} {vs} {d} {xs} {n} {m} w e c = w.is ∙ ap₂ (λ (l : List ℕ) (i : ℕ). flat_map bytes_of l ++ drop (3 * i) d) e c

-- the bytes past the words are as they were
pub written_past : {ws d xs : List ℕ} {n : ℕ} → Written ws n d xs → drop (3 * n) xs ≡ drop (3 * n) d
written_past {ws} {d} {xs} {n} w = rw w.is (drop_at (flat_map bytes_of ws) (drop (3 * n) d) (3 * n) (bytes_count ws n w.count))

pub written_again : {ws d xs : List ℕ} {n : ℕ} → Written ws n d xs → Written ws n xs xs
written_again {ws} {d} {xs} {n} w = record {
  is = w.is ∙ ap (λ (l : List ℕ). flat_map bytes_of ws ++ l) (sym (written_past w));
  count = w.count;
  fits = omega (arith, written_length w, w.fits);
}

-- more words were written over the first
pub written_over : {vs ws d e xs : List ℕ} {m n : ℕ} → Written vs m d e → Written ws n e xs → m ≤ n → Written ws n d xs
written_over {vs} {ws} {d} {e} {xs} {m} {n} v w h =
    let k : 3 * m + (3 * n - 3 * m) ≡ 3 * n = omega arith in
    let same : drop (3 * n) e ≡ drop (3 * n) d =
    ap (λ (i : ℕ). drop i e) (sym k) ∙ sym (drop-drop (3 * n - 3 * m) (3 * m) e) ∙ ap (drop (3 * n - 3 * m)) (written_past v)
    ∙ drop-drop (3 * n - 3 * m) (3 * m) d ∙ ap (λ (i : ℕ). drop i d) k in
    record {
      is = w.is ∙ ap (λ (l : List ℕ). flat_map bytes_of ws ++ l) same;
      count = w.count;
      fits = omega (arith, written_length v, w.fits);
    }

-- k bytes after the n words are lent, and m words vs are put at their front
pub written_part : {ws d xs ys : List ℕ} {n m q : ℕ} (a k : ℕ) (vs : List ℕ) → Written ws n d xs → a ≡ 3 * n → length vs ≡ m → 3 * m ≤ k → a + k ≤ length d → n + m ≡ q
    → ys ≡ flat_map bytes_of vs ++ drop (3 * m) (take k (drop a xs)) → Written (ws ++ vs) q d (put_mid a k xs ys)
written_part {ws} {d} {xs} {ys} {n} {m} {q} a k vs w ea ev mk kd eq ey = record {
  is =
      let size : length (flat_map bytes_of ws) ≡ a = bytes_count ws n w.count ∙ sym ea in
      let here : xs ≡ flat_map bytes_of ws ++ drop a d = w.is ∙ ap (λ (z : ℕ). flat_map bytes_of ws ++ drop z d) (sym ea) in
      let d1 : drop a xs ≡ drop a d = rw here (drop_at (flat_map bytes_of ws) (drop a d) a size) in
      let t1 : take a xs ≡ flat_map bytes_of ws = rw here (take_at (flat_map bytes_of ws) (drop a d) a size) in
      let kl : k ≤ length (drop a d) = simp length-drop (omega arith) in
      let en : a + 3 * m ≡ 3 * q = omega arith in
      let d2 : drop (3 * q) d ≡ drop (3 * m) (take k (drop a d)) ++ drop k (drop a d) =
      ap (λ (z : ℕ). drop z d) (sym en) ∙ sym (drop-drop (3 * m) a d) ∙ ap (drop (3 * m)) (sym (take-append-drop k (drop a d)))
      ∙ drop-append-le (3 * m) (take k (drop a d)) (drop k (drop a d)) (simp (length-take-le k (drop a d) kl) mk) in
      rw (ey, d1, t1, d2, flat_map_append bytes_of ws vs) (simp append_assoc);
  count = length-append ws vs ∙ rw (w.count, ev) eq;
  fits = omega (arith, w.fits);
}

-- all bytes from `a` on
abbrev pub rest : ℕ → List ℕ → List ℕ
rest a xs = take (length xs - a) (drop a xs)

pub rest_room : (a m : ℕ) (xs : List ℕ) → a + m ≤ length xs → m ≤ length (rest a xs)
rest_room a m xs h = simp (length-take-le (length xs - a) (drop a xs) (simp length-drop (omega arith))) (omega arith)

-- all bytes after the n words are lent
pub written_rest : {ws d xs ys : List ℕ} {n m q : ℕ} (a : ℕ) (vs : List ℕ) → Written ws n d xs → a ≡ 3 * n → length vs ≡ m → 3 * q ≤ length d → n + m ≡ q
    → ys ≡ flat_map bytes_of vs ++ drop (3 * m) (rest a xs) → Written (ws ++ vs) q d (put_mid a (length xs - a) xs ys)
written_rest {ws} {d} {xs} {ys} {n} {m} {q} a vs w ea ev fits eq ey =
    let l = written_length w in
    written_part a (length xs - a) vs w ea ev (omega arith) (omega arith) eq ey

-- one word more
pub written_word : {ws d xs ys : List ℕ} {n q : ℕ} (at v : ℕ) → Written ws n d xs → at ≡ 3 * n → at + 3 ≤ length d → n + 1 ≡ q
    → ys ≡ take at xs ++ (bytes_of v ++ drop (at + 3) xs) → Written (ws ++ (v ∷ [])) q d ys
unfolding flat_map bytes_of
written_word {ws} {d} {xs} {ys} {n} {q} at v w ea fits eq ey =
    let three : length (take 3 (drop at xs)) ≡ 3 = length-take-le 3 (drop at xs) (simp length-drop (omega (arith, written_length w))) in
    let none : drop 3 (take 3 (drop at xs)) ≡ [] = nothing (take 3 (drop at xs)) three in
    let p : Written (ws ++ (v ∷ [])) q d (put_mid at 3 xs (bytes_of v)) =
    written_part {ys = bytes_of v} at 3 (v ∷ []) w ea refl (omega arith) fits eq (rw none) in
    rw (ey, ← (drop-drop 3 at xs)) p
  where
    nothing : (l : List ℕ) → length l ≡ 3 → drop 3 l ≡ []
    nothing (a ∷ b ∷ c ∷ []) e = refl
    nothing (a ∷ b ∷ c ∷ x ∷ l) e = absurd (omega arith)
    nothing [] e = absurd (omega arith)
    nothing (a ∷ []) e = absurd (omega arith)
    nothing (a ∷ b ∷ []) e = absurd (omega arith)
