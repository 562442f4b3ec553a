-- Words of a row fed one after the other, from one where nothing is held, up to the end of an item.
use Prim.Native.Nat.{ℕ, ◌+◌, ◌*◌, ◌-◌, ◌≤◌, ◌<◌}
use native.Mathlib.Omega.{arith}
use native.Mathlib.Decide.{dec_lt}
use mathlib.Core.Bool.{Bool, false}
use mathlib.Core.Path.{◌≡◌, refl, sym, ap, ◌∙◌}
use mathlib.Core.List.{List, [], ◌∷◌, ◌++◌}
use lib.ListN.{length, drop, get_or}
use borrow.Author.Tests.{eq-eqb, lt-ltb}
use Rattle.format.specs.Word.{is_fill, bus_of, label_of, info_of}
use Rattle.format.specs.Reader.{Slot, Fed, fed, Ran, run, more, join, feed, since, begun, counted, with_tag, base_bus}
use Rattle.format.specs.declared.Kind.{Kind}
use Rattle.format.specs.declared.Item.{Item}
use Rattle.format.specs.declared.Base.{Base}
use Rattle.format.specs.declared.Held.{Held}
use Rattle.format.specs.declared.Held.TheVariants.{Nothing, Taggable, TagHigh, TagLow}
use Rattle.format.specs.declared.Tag.{Tag}
use Rattle.format.specs.declared.Tag.TheVariants.{Untagged, At}
use Rattle.format.specs.Laws.Reader.Counted.{counted_next}
use Rattle.data_items.specs.Row.{top_of}
use Rattle.data_items.proofs.Words.{other_label, says_bus, says_label}
use Rattle.data_items.proofs.Items.{flushed}
use Rattle.format.proofs.Laws.Reader.Onward.{more_none, more_more}

-- the tag of three words
abbrev pub tagged : ℕ → ℕ → ℕ → Tag
tagged high low micro = At (record { high = info_of high; low = info_of low; micro = info_of micro })

module _ (ks : List Kind) (parity : Bool) (row : List ℕ) where
  abbrev word : ℕ → ℕ
  word i = get_or row i 0

  -- what a word does to what is held
  abbrev pub fed_at : Held → ℕ → Fed
  fed_at h i = feed ks h (bus_of parity (word i)) (label_of (word i)) (info_of (word i))

  -- from the word i on, where nothing was held, the words up to j finished xs, and h is held since the word s
  pub record Goes (i j : ℕ) (xs : List Item) (h : Held) (s : ℕ) : Type 0 where
    pub is : (n old : ℕ) → run ks parity (counted (n + i) (drop i row)) Nothing old ≡ more xs (run ks parity (counted (n + j) (drop j row)) h (n + s))
    pub unfilled : (k : ℕ) → i ≤ k → k < j → is_fill (word k) ≡ false

  abbrev rest : ℕ → ℕ → Held → ℕ → Ran
  rest n j h q = run ks parity (counted (n + j) (drop j row)) h q

  run_word : (n j k : ℕ) (h : Held) (q : ℕ) (f : Fed) → j + 1 ≡ k → j < length row → is_fill (word j) ≡ false → fed_at h j ≡ f
      → rest n j h q ≡ join f q (begun h q (n + j)) (n + j) (λ h' q'. rest n k h' q')
  unfolding run
  run_word n j k h q f z l nf e = ap (λ (ss : List Slot). run ks parity ss h q) (counted_next n j row l) ∙ rw (nf, e, z) refl

  more_unfilled : (i j k : ℕ) → j + 1 ≡ k → is_fill (word j) ≡ false → ((m : ℕ) → i ≤ m → m < j → is_fill (word m) ≡ false) → (m : ℕ) → i ≤ m → m < k → is_fill (word m) ≡
      false
  more_unfilled i j k z e f m a b = go (dec_lt m j)
    where
      go : Dec (m < j) → is_fill (word m) ≡ false
      go (yes h) = f m a h
      go (no h) = let y : m ≡ j = omega arith in rw y e

  -- the first word
  pub goes_first : {i : ℕ} (xs : List Item) (h : Held) → i < length row → is_fill (word i) ≡ false → fed_at Nothing i ≡ fed xs h
      → ((old here : ℕ) → since h old here ≡ here) → Goes i (i + 1) xs h i
  goes_first {i} xs h l nf e f = record {
    is = λ n old. run_word n i (i + 1) Nothing old (fed xs h) refl l nf e ∙ ap (λ (q : ℕ). more xs (rest n (i + 1) h q)) (f old (n + i));
    unfilled = more_unfilled i i (i + 1) refl nf (λ m a b. absurd (omega arith));
  }

  -- the next one
  pub goes_word : {i j s : ℕ} {h : Held} (xs : List Item) (h' : Held) (k s' : ℕ) → Goes i j [] h s → j + 1 ≡ k → j < length row → is_fill (word j) ≡ false
      → fed_at h j ≡ fed xs h' → ((n : ℕ) → since h' (n + s) (n + j) ≡ n + s') → Goes i k xs h' s'
  goes_word {i} {j} {s} {h} xs h' k s' g z l nf e f = record {
    is = λ n old. g.is n old ∙ more_none (rest n j h (n + s)) ∙ run_word n j k h (n + s) (fed xs h') z l nf e ∙ ap (λ (q : ℕ). more xs (rest n k h' q)) (f n);
    unfilled = more_unfilled i j k z nf g.unfilled;
  }

  -- items one after the other
  pub goes_then : {i j k s s' : ℕ} {xs ys : List Item} → Goes i j xs Nothing s → Goes j k ys Nothing s' → Goes i k (xs ++ ys) Nothing s'
  goes_then {i} {j} {k} {s} {s'} {xs} {ys} g h = record {
    is = λ n old. g.is n old ∙ ap (more xs) (h.is n (n + s)) ∙ more_more xs ys (rest n k Nothing (n + s'));
    unfilled = λ m a b. go m a b (dec_lt m j);
  }
    where
      go : (m : ℕ) → i ≤ m → m < k → Dec (m < j) → is_fill (word m) ≡ false
      go m a b (yes z) = g.unfilled m a z
      go m a b (no z) = h.unfilled m (omega arith) b

  -- a command or an ARINC word, and a word behind it that is no fill and not its tag
  pub goes_bare : {i j s : ℕ} (x : Base) → Goes i j [] (Taggable x) s → j < length row → is_fill (word j) ≡ false
      → (base_bus x * 16 + 7 ≡ top_of parity (word j) → ⊥) → (s' : ℕ) → Goes i j (with_tag x Untagged ∷ []) Nothing s'
  goes_bare {i} {j} {s} x g l nf e s' = record {
    is = λ n old.
        g.is n old ∙ more_none (rest n j (Taggable x) (n + s)) ∙ run_word n j (j + 1) (Taggable x) (n + s) (fed_at (Taggable x) j) refl l nf refl
        ∙ flushed ks x (bus_of parity (word j)) (label_of (word j)) (info_of (word j)) (n + s) (n + s') (n + j) (n + j) (λ h q. rest n (j + 1) h q) e
        ∙ ap (more (with_tag x Untagged ∷ [])) (sym (run_word n j (j + 1) Nothing (n + s') (fed_at Nothing j) refl l nf refl));
    unfilled = g.unfilled;
  }

  -- a command or an ARINC word, and the three words of its tag
  tag_high : (x : Base) (bus label info : ℕ) → bus ≡ base_bus x → label ≡ 7 → feed ks (Taggable x) bus label info ≡ fed [] (TagHigh x info)
  unfolding feed
  tag_high x bus label info b l = rw (eq-eqb label 7 l, eq-eqb bus (base_bus x) b) refl

  tag_low : (x : Base) (high bus label info : ℕ) → bus ≡ base_bus x → label ≡ 6 → feed ks (TagHigh x high) bus label info ≡ fed [] (TagLow x high info)
  unfolding feed
  tag_low x high bus label info b l = rw (eq-eqb label 6 l, eq-eqb bus (base_bus x) b) refl

  tag_micro : (x : Base) (high low bus label info : ℕ) → bus ≡ base_bus x → label ≡ 5 → info < 10000
      → feed ks (TagLow x high low) bus label info ≡ fed (with_tag x (At (record { high = high; low = low; micro = info })) ∷ []) Nothing
  unfolding feed
  tag_micro x high low bus label info b l u = rw (eq-eqb label 5 l, eq-eqb bus (base_bus x) b, lt-ltb info 10000 u) refl

  module _ (x : Base) (j l : ℕ) (e : top_of parity (word j) ≡ base_bus x * 16 + l) (u : l < 16) where
    tag_bus : bus_of parity (word j) ≡ base_bus x
    tag_bus = says_bus parity (word j) (base_bus x) l e u

    tag_label : label_of (word j) ≡ l
    tag_label = says_label parity (word j) (base_bus x) l e u

    tag_data : 2 ≤ l → is_fill (word j) ≡ false
    tag_data h = other_label (word j) (λ z. absurd (omega (arith, tag_label, z)))

  pub goes_tag : {i j s : ℕ} (x : Base) → Goes i j [] (Taggable x) s → j + 3 ≤ length row → top_of parity (word j) ≡ base_bus x * 16 + 7
      → top_of parity (word (j + 1)) ≡ base_bus x * 16 + 6 → top_of parity (word (j + 2)) ≡ base_bus x * 16 + 5 → info_of (word (j + 2)) < 10000
      → Goes i (j + 3) (with_tag x (tagged (word j) (word (j + 1)) (word (j + 2))) ∷ []) Nothing (j + 2)
  goes_tag {i} {j} {s} x g room a b c u =
      let k : j + 1 + 1 ≡ j + 2 = omega arith in
      let m : j + 2 + 1 ≡ j + 3 = omega arith in
      let hi : Goes i (j + 1) [] (TagHigh x (info_of (word j))) s =
      goes_word [] (TagHigh x (info_of (word j))) (j + 1) s g refl (omega arith) (tag_data x j 7 a (omega arith) (omega arith))
      (tag_high x _ _ _ (tag_bus x j 7 a (omega arith)) (tag_label x j 7 a (omega arith))) (λ n. refl) in
      let lo : Goes i (j + 2) [] (TagLow x (info_of (word j)) (info_of (word (j + 1)))) s =
      goes_word [] (TagLow x (info_of (word j)) (info_of (word (j + 1)))) (j + 2) s hi k (omega arith) (tag_data x (j + 1) 6 b (omega arith) (omega arith))
      (tag_low x _ _ _ _ (tag_bus x (j + 1) 6 b (omega arith)) (tag_label x (j + 1) 6 b (omega arith))) (λ n. refl) in
      goes_word (with_tag x (tagged (word j) (word (j + 1)) (word (j + 2))) ∷ []) Nothing (j + 3) (j + 2) lo m (omega arith)
      (tag_data x (j + 2) 5 c (omega arith) (omega arith))
      (tag_micro x _ _ _ _ _ (tag_bus x (j + 2) 5 c (omega arith)) (tag_label x (j + 2) 5 c (omega arith)) u) (λ n. refl)
