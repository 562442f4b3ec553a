-- Five numbers pass as a held item exactly if their words, fed again, hold it.
use Rattle.std.specs.Prelude.{ℕ, zero, suc, ◌+◌, ◌^◌, ◌≤◌, ◌<◌, Bool, true, false, cond, ◌&&◌, ◌≡◌, refl, List, [], ◌∷◌, ◌++◌, map, length, get_or, take, drop, replicate, ltb}
use Rattle.std.proofs.Common.{arith, ap, ap₂, sym, ◌∙◌, lt-ltb, ltb-true}
use Rattle.format.specs.Lists.{All, nil, cons}
use Rattle.format.specs.Word.{Part, part_of, word_for, word_of, bus_of, label_of, info_of, sent}
use Rattle.format.specs.Reader.{Fed, bad, fed, feed, holds}
use Rattle.format.proofs.Laws.Reader.Forth.{Fits, HeldOk}
use Rattle.format.specs.Laws.Reader.Held.{held_parts}
use Rattle.format.specs.Laws.Tests.{and_true, clash}
use Rattle.format.specs.Laws.Word.Parts.{Holds, part_back, part_forth, part_holds}
use Rattle.format.specs.declared.Kind.{Kind}
use Rattle.format.specs.declared.Item.{Item}
use Rattle.format.specs.declared.Held.{Held}
use Rattle.format.specs.declared.Held.TheVariants.{Nothing}
use Rattle.stream_rules.specs.Stream.{held_fits}
use Rattle.stream_rules.specs.StateNumbers.{four_words, held_from, held_of, same_row}
use Rattle.stream_rules.specs.Laws.Stream.Fits.{held_ok, ok_held}
use Rattle.stream_rules.specs.Laws.Stream.Held.{RefedOk, held_back, only_held, refed, refed_ok}
use Rattle.stream_rules.proofs.Laws.Stream.Numbers.{held_four, held_holds, row_same, same_row_lem}
use Rattle.stream_state.specs.Parts.{are_zeros, held_passes}
use Rattle.stream_state.specs.Again.{again}
use Rattle.stream_state.specs.Laws.Row.{zeros_are}

abbrev Low : ℕ → Type 0
Low w = w < 2 ^ 24

-- ---- numbers of 24 bits are fed as the words that they are

again_low : (ks : List Kind) (h : Held) (ws : List ℕ) → All Low ws → again ks h ws ≡ refed ks h (map (part_of false) ws)
unfolding again refed
again_low ks h [] nil = refl
again_low ks h (w ∷ ws) (cons l a) = rw (lt-ltb w (2 ^ 24) l) (go (feed ks h (bus_of false w) (label_of w) (info_of w)) (λ h'. again_low ks h' ws a))
  where
    go : (f : Fed) → ((h' : Held) → again ks h' ws ≡ refed ks h' (map (part_of false) ws))
        → only_held f (λ h'. again ks h' ws) ≡ only_held f (λ h'. refed ks h' (map (part_of false) ws))
    go bad g = refl
    go (fed [] h') g = g h'
    go (fed (i ∷ is) h') g = refl

-- whatever is fed to the end has 24 bits
again_all : (ks : List Kind) (h : Held) (ws : List ℕ) (is : List Item) (h' : Held) → again ks h ws ≡ fed is h' → All Low ws
unfolding again
again_all ks h [] is h' e = nil
again_all ks h (w ∷ ws) is h' e = go (λ k. again_all ks k ws is h') (ltb w (2 ^ 24)) refl e
  where
    ends : {A : Type 0} → bad ≡ fed is h' → A
    ends z = clash (ap is_fed z)
      where
        is_fed : Fed → Bool
        is_fed bad = false
        is_fed (fed js k) = true

    on : (f : Fed) → ((k : Held) → again ks k ws ≡ fed is h' → All Low ws) → only_held f (λ k. again ks k ws) ≡ fed is h' → All Low ws
    on bad g z = ends z
    on (fed [] k) g z = g k z
    on (fed (i ∷ js) k) g z = ends z

    go : ((k : Held) → again ks k ws ≡ fed is h' → All Low ws) → (t : Bool) → ltb w (2 ^ 24) ≡ t
        → cond t (only_held (feed ks h (bus_of false w) (label_of w) (info_of w)) (λ k. again ks k ws)) bad ≡ fed is h' → All Low (w ∷ ws)
    go g false t z = ends z
    go g true t z = cons (ltb-true w (2 ^ 24) t) (on (feed ks h (bus_of false w) (label_of w) (info_of w)) g z)

-- ---- five numbers

-- how many words, and the words
abbrev count_in : List ℕ → ℕ
count_in row = get_or row 0 0

abbrev words_in : List ℕ → List ℕ
words_in row = take (count_in row) (drop 1 row)

abbrev rest_in : List ℕ → List ℕ
rest_in row = drop (count_in row) (drop 1 row)

-- the five numbers of parts say these parts
four_says : (xs : List Part) → length xs ≤ 4 → (count_in (four_words xs) ≤ 4) × (words_in (four_words xs) ≡ map word_for xs) × (are_zeros (rest_in (four_words xs)) ≡ true)
unfolding are_zeros
four_says [] l = (omega arith, refl, refl)
four_says (a ∷ []) l = (omega arith, refl, refl)
four_says (a ∷ b ∷ []) l = (omega arith, refl, refl)
four_says (a ∷ b ∷ c ∷ []) l = (omega arith, refl, refl)
four_says (a ∷ b ∷ c ∷ d ∷ []) l = (omega arith, refl, refl)
four_says (a ∷ b ∷ c ∷ d ∷ e ∷ xs) l = absurd (omega (arith, l))

words_low : (xs : List Part) → All (Holds false) xs → All Low (map word_for xs)
unfolding word_of
words_low [] nil = nil
words_low (x ∷ xs) (cons h a) = cons {a = word_for x} (omega (arith, h.bus, h.label, h.info)) (words_low xs a)

words_back : (xs : List Part) → All (Holds false) xs → map (part_of false) (map word_for xs) ≡ xs
unfolding sent
words_back [] nil = refl
words_back (x ∷ xs) (cons h a) = ap₂ (λ (p : Part) (l : List Part). p ∷ l) (part_back false x h) (words_back xs a)

-- what passes is fed again
pub passing : (ks : List Kind) → length ks ≡ 16 → (row : List ℕ) → held_passes ks row ≡ true
    → (count_in row ≤ 4) × (again ks Nothing (words_in row) ≡ holds (held_from ks row)) × (are_zeros (rest_in row) ≡ true)
passing ks n row e =
    let h : Held = held_from ks row in
    let t = and_true (held_fits ks h) (same_row (four_words (held_parts h)) row) e in
    let r : four_words (held_parts h) ≡ row = row_same (four_words (held_parts h)) row t.1 in
    let o : HeldOk ks h = held_ok ks h t.0 in
    let a : All (Holds false) (held_parts h) = held_holds ks n h o in
    let s = four_says (held_parts h) (held_four h) in
    let w : words_in row ≡ map word_for (held_parts h) = ap words_in (sym r) ∙ s.1 in
    let c : count_in row ≡ count_in (four_words (held_parts h)) = ap count_in (sym r) in (
      omega (arith, c, s.0),
      ap (again ks Nothing) w ∙ again_low ks Nothing (map word_for (held_parts h)) (words_low (held_parts h) a) ∙ ap (refed ks Nothing) (words_back (held_parts h) a) ∙ held_back ks h o,
      ap (λ (l : List ℕ). are_zeros (rest_in l)) (sym r) ∙ s.2,
    )

-- and what is fed again passes
word_forth : (w : ℕ) → Low w → word_for (part_of false w) ≡ w
word_forth w l = part_forth false w l

five_forth : (k a b c d : ℕ) → k ≤ 4 → All Low (take k (a ∷ b ∷ c ∷ d ∷ [])) → are_zeros (drop k (a ∷ b ∷ c ∷ d ∷ [])) ≡ true
    → four_words (map (part_of false) (take k (a ∷ b ∷ c ∷ d ∷ []))) ≡ k ∷ a ∷ b ∷ c ∷ d ∷ []
five_forth zero a b c d l w z = ap (λ (m : List ℕ). 0 ∷ m) (sym (zeros_are (a ∷ b ∷ c ∷ d ∷ []) z))
five_forth (suc zero) a b c d l (cons x w) z =
    ap₂ (λ (i : ℕ) (m : List ℕ). 1 ∷ i ∷ m) (word_forth a x) (sym (zeros_are (b ∷ c ∷ d ∷ []) z))
five_forth (suc (suc zero)) a b c d l (cons x (cons y w)) z =
    ap₂ (λ (i j : ℕ). 2 ∷ i ∷ j ∷ 0 ∷ 0 ∷ []) (word_forth a x) (word_forth b y) ∙ ap (λ (m : List ℕ). 2 ∷ a ∷ b ∷ m) (sym (zeros_are (c ∷ d ∷ []) z))
five_forth (suc (suc (suc zero))) a b c d l (cons x (cons y (cons u w))) z =
    rw (word_forth a x, word_forth b y, word_forth c u) (ap (λ (m : List ℕ). 3 ∷ a ∷ b ∷ c ∷ m) (sym (zeros_are (d ∷ []) z)))
five_forth (suc (suc (suc (suc zero)))) a b c d l (cons x (cons y (cons u (cons v w)))) z = rw (word_forth a x, word_forth b y, word_forth c u, word_forth d v) refl
five_forth (suc (suc (suc (suc (suc k))))) a b c d l w z = absurd (omega (arith, l))

four_forth : (row : List ℕ) → length row ≡ 5 → count_in row ≤ 4 → All Low (words_in row) → are_zeros (rest_in row) ≡ true → four_words (map (part_of false) (words_in row)) ≡ row
four_forth (k ∷ a ∷ b ∷ c ∷ d ∷ []) n l w z = five_forth k a b c d l w z
four_forth [] n l w z = absurd (omega (arith, n))
four_forth (k ∷ []) n l w z = absurd (omega (arith, n))
four_forth (k ∷ a ∷ []) n l w z = absurd (omega (arith, n))
four_forth (k ∷ a ∷ b ∷ []) n l w z = absurd (omega (arith, n))
four_forth (k ∷ a ∷ b ∷ c ∷ []) n l w z = absurd (omega (arith, n))
four_forth (k ∷ a ∷ b ∷ c ∷ d ∷ e ∷ row) n l w z = absurd (omega (arith, n))

fit_parts : (ws : List ℕ) → All Low ws → All Fits (map (part_of false) ws)
fit_parts [] nil = nil
fit_parts (w ∷ ws) (cons l a) = let h = part_holds false w l in cons (record { label = h.label; info = h.info }) (fit_parts ws a)

pub passes_again : (ks : List Kind) (row : List ℕ) (is : List Item) (h : Held) → length row ≡ 5 → count_in row ≤ 4 → again ks Nothing (words_in row) ≡ fed is h
    → are_zeros (rest_in row) ≡ true → (held_passes ks row ≡ true) × (held_from ks row ≡ h)
passes_again ks row is h n l e z =
    let low : All Low (words_in row) = again_all ks Nothing (words_in row) is h e in
    let r : refed ks Nothing (map (part_of false) (words_in row)) ≡ fed is h = sym (again_low ks Nothing (words_in row) low) ∙ e in
    let from : held_from ks row ≡ h = ap held_of r in
    let ok : RefedOk ks (map (part_of false) (words_in row)) (fed is h) = rw r at (refed_ok ks (map (part_of false) (words_in row)) Nothing tt (fit_parts (words_in row) low)) in
    let four : four_words (held_parts h) ≡ row = ap four_words (sym ok.0) ∙ four_forth row n l low z in
    (rw (from, ok_held ks h ok.1, four) (same_row_lem row), from)
