-- A log's items by their words, as they are laid into a row and not sent yet: the earliest open notice.
use Rattle.std.specs.Prelude.{ℕ, zero, suc, ◌+◌, ◌-◌, ◌<◌, ◌≤◌, Bool, true, cond, ◌≡◌, refl, length, take, get_or, eqb}
use Rattle.std.proofs.Common.{arith, ap, sym, ◌∙◌, eqb-true}
use Rattle.std.proofs.Math.Bool.{false}
use mathlib.Core.List.{List, [], ◌∷◌, map, flat_map}
use Rattle.std.proofs.lemmas.Bool.{eqb-false}
use Rattle.format.specs.Word.{part_of, is_fill, sent}
use Rattle.format.specs.Item.{item_parts, item_words}
use Rattle.format.specs.Lists.{All, nil, cons}
use Rattle.format.specs.Lawful.{Sound}
use Rattle.format.specs.Reader.{data_of, places_of, counted}
use Rattle.format.specs.Notices.{first_open, first_word_of}
use Rattle.format.specs.Laws.Lists.{all_map}
use Rattle.format.specs.Laws.Notices.{Answered, first_within, words_before}
use Rattle.format.proofs.Laws.Reader.Words.{words_said}
use Rattle.format.proofs.Laws.Composed.Read.{words_data}
use Rattle.format.specs.declared.Kind.{Kind}
use Rattle.format.specs.declared.Item.{Item}
use Rattle.notices.specs.Roles.{open_row, roles_in}
use Rattle.notices.specs.Laws.Items.{up_to}
use Rattle.notices.specs.Laws.Words.{slots_open}

unsent : (l : List ℕ) → map (λ w. sent false w) l ≡ l
unfolding sent
unsent [] = refl
unsent (w ∷ l) = ap (λ (v : List ℕ). w ∷ v) (unsent l)

pub says_parts : (ks : List Kind) (is : List Item) → All (Sound ks false) is → map (part_of false) (flat_map item_words is) ≡ flat_map item_parts is
says_parts ks is sound = ap (map (part_of false)) (sym (unsent (flat_map item_words is))) ∙ words_said ks false is sound

-- ---- the words before an item

counted_data : (a : ℕ) (ws : List ℕ) → All (λ w. is_fill w ≡ false) ws → data_of (counted a ws) ≡ ws
unfolding counted data_of
counted_data a [] nil = refl
counted_data a (w ∷ ws) (cons h t) = rw (h, counted_data (a + 1) ws t)

counted_place : (a : ℕ) (ws : List ℕ) → All (λ w. is_fill w ≡ false) ws → (k : ℕ) → k < length ws → get_or (places_of (counted a ws)) k 0 ≡ a + k
unfolding counted places_of
counted_place a [] nil k l = absurd (omega arith)
counted_place a (w ∷ ws) (cons h t) zero l = rw h (omega arith)
counted_place a (w ∷ ws) (cons h t) (suc k) l = rw h (counted_place (a + 1) ws t k (omega arith) ∙ omega arith)

-- ---- the earliest open notice of a log, by the number of its word, one up

module _ (ks : List Kind) (is : List Item) (sound : All (Sound ks false) is) where
  abbrev ws : List ℕ
  ws = flat_map item_words is

  abbrev number : ℕ
  number = open_row (roles_in ks false (counted 0 ws))

  no_fill : All (λ w. is_fill w ≡ false) ws
  unfolding sent
  no_fill = all_map (λ w h. h) (words_data ks false is sound)

  number_is : number ≡ up_to (first_word_of (places_of (counted 0 ws)) is) (first_open is) (length is)
  number_is =
      slots_open ks false (counted 0 ws) is (all_map (λ i w. w.lawful) sound)
      (ap (map (part_of false)) (counted_data 0 ws no_fill) ∙ says_parts ks is sound)

  -- 0: none is open
  pub none_open : number ≡ 0 → Answered is
  none_open z = go (eqb (first_open is) (length is)) refl (sym number_is ∙ z)
    where
      go : (t : Bool) → eqb (first_open is) (length is) ≡ t → cond t 0 (first_word_of (places_of (counted 0 ws)) is (first_open is) + 1) ≡ 0 → Answered is
      go true e q = eqb-true _ _ e
      go false e q = absurd (omega arith)

  -- else it is the word behind those of the items before it
  pub open_word : (number ≡ 0 → ⊥) → (first_open is < length is) × (number ≡ length (flat_map item_words (take (first_open is) is)) + 1)
  open_word d = go (eqb (first_open is) (length is)) refl number_is
    where
      go : (t : Bool) → eqb (first_open is) (length is) ≡ t → number ≡ cond t 0 (first_word_of (places_of (counted 0 ws)) is (first_open is) + 1)
          → (first_open is < length is) × (number ≡ length (flat_map item_words (take (first_open is) is)) + 1)
      go true e q = absurd (d q)
      go false e q =
          let k : ℕ = first_open is in
          let other : (k ≡ length is → ⊥) = eqb-false k (length is) e in
          let l : k < length is = omega (arith, first_within is, other) in
          let p : first_word_of (places_of (counted 0 ws)) is k ≡ 0 + length (flat_map item_words (take k is)) =
          counted_place 0 ws no_fill (length (flat_map item_words (take k is))) (words_before is k l) in
          (l, omega (arith, q, p))
