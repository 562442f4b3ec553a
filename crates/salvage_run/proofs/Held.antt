-- How many words are held, and where they stand among the last four.
use Prim.Native.Nat.{ℕ, zero, suc, ◌+◌, ◌*◌, ◌/◌, ◌%◌, ◌^◌, ◌-◌, ◌<◌, ◌≤◌}
use native.Mathlib.Omega.{arith}
use mathlib.Core.Bool.{Bool, true, false, cond, ◌&&◌, ◌||◌}
use mathlib.Core.Path.{◌≡◌, refl, sym, ap, ◌∙◌}
use mathlib.Core.List.{List, [], ◌∷◌, ◌++◌, map}
use lib.ListN.{length, drop, get_or, length-map}
use lib.Dec.{eqb}
use borrow.Author.Tests.{lt-ltb, le-ltb}
use Rattle.format.specs.Item.{item_fields, low_label}
use Rattle.format.specs.Time.{below_tick}
use Rattle.format.specs.Reader.{Fed, bad, fed, feed, starts, after, with_tag, is_high, is_pair, base_bus}
use Rattle.format.specs.Plan.{kind_on}
use Rattle.format.specs.declared.Kind.{Kind}
use Rattle.format.specs.declared.Kind.TheVariants.{Unused, Mil1553, Arinc429}
use Rattle.format.specs.declared.Item.{Item}
use Rattle.format.specs.declared.Tag.TheVariants.{Untagged}
use Rattle.format.specs.declared.Base.{Base}
use Rattle.format.specs.declared.Base.TheVariants as base
use Rattle.format.specs.declared.Held.{Held}
use Rattle.format.specs.declared.Held.TheVariants.{Nothing, Taggable, Half, TagHigh, TagLow, Answering}
use Rattle.format.specs.Laws.Tests.{bit_low}
use Rattle.format.specs.Laws.Lists.{map_append}
use Rattle.salvage_rules.specs.Salvage.{base_words, held_words, last_of}
use Rattle.data_start.specs.declared.Holding.{Holding}
use Rattle.data_start.specs.Holding.{flat, number_of, untagged}
use Rattle.data_word.specs.Holding.{held_of, BaseFits, Fits, Sane}
use Rattle.data_word.proofs.Flat.{sane_ind}
use Rattle.salvage_run.specs.declared.Last.{Last}
use Rattle.salvage_run.specs.Tape.{base_words_of, numbers_of, shifted, Low}

-- ---- by the numbers that hold them

base_words_lem : (x : Base) → BaseFits x → base_words_of (number_of 0 (untagged x)) ≡ base_words x
unfolding item_fields
base_words_lem (base.Command b side word) f = rw (lt-ltb (number_of 0 (untagged (base.Command b side word))) 4294967296 (omega (arith, bit_low side))) refl
base_words_lem (base.Arinc b c word) f = rw (le-ltb (number_of 0 (untagged (base.Arinc b c word))) 4294967296 (omega arith)) refl

abbrev pub HoldsNone : Holding → Held → Type 0
HoldsNone g h = g.awaits ≡ 0 → 0 ≡ held_words h

holds_none : (h : Held) → Fits h → HoldsNone (flat h) h
holds_none Nothing f e = refl
holds_none (Taggable x) f e = absurd (omega arith)
holds_none (Half b c high) f e = absurd (omega arith)
holds_none (TagHigh x high) f e = absurd (omega arith)
holds_none (TagLow x high low) f e = absurd (omega arith)
holds_none (Answering b r) f e = absurd (omega arith)

pub nothing_held : (g : Holding) → Sane g → HoldsNone g (held_of g)
nothing_held = sane_ind HoldsNone holds_none

abbrev pub HoldsBare : Holding → Held → Type 0
HoldsBare g h = g.awaits % 16 ≡ 7 → base_words_of g.base ≡ held_words h

holds_bare : (h : Held) → Fits h → HoldsBare (flat h) h
holds_bare Nothing f e = absurd (omega arith)
holds_bare (Taggable x) f e = base_words_lem x f
holds_bare (Half b c high) f e = absurd (omega arith)
holds_bare (TagHigh x high) f e = absurd (omega arith)
holds_bare (TagLow x high low) f e = absurd (omega arith)
holds_bare (Answering b r) f e = absurd (omega arith)

pub bare_held : (g : Holding) → Sane g → HoldsBare g (held_of g)
bare_held = sane_ind HoldsBare holds_bare

-- with so many of the time words behind it
abbrev pub HoldsBase : ℕ → ℕ → Holding → Held → Type 0
HoldsBase stage more g h = g.awaits % 16 ≡ stage → base_words_of g.base + more ≡ held_words h

holds_high : (h : Held) → Fits h → HoldsBase 6 1 (flat h) h
holds_high Nothing f e = absurd (omega arith)
holds_high (Taggable x) f e = absurd (omega arith)
holds_high (Half b c high) f e = let m : (b * 16 + (8 + 2 * c)) % 16 ≡ 8 + 2 * c = omega arith in absurd (omega arith)
holds_high (TagHigh x high) f e = rw (base_words_lem x f.0) refl
holds_high (TagLow x high low) f e = absurd (omega arith)
holds_high (Answering b r) f e = absurd (omega arith)

pub high_held : (g : Holding) → Sane g → HoldsBase 6 1 g (held_of g)
high_held = sane_ind (HoldsBase 6 1) holds_high

holds_low : (h : Held) → Fits h → HoldsBase 5 2 (flat h) h
holds_low Nothing f e = absurd (omega arith)
holds_low (Taggable x) f e = absurd (omega arith)
holds_low (Half b c high) f e = absurd (omega arith)
holds_low (TagHigh x high) f e = absurd (omega arith)
holds_low (TagLow x high low) f e = rw (base_words_lem x f.0) refl
holds_low (Answering b r) f e = absurd (omega arith)

pub low_held : (g : Holding) → Sane g → HoldsBase 5 2 g (held_of g)
low_held = sane_ind (HoldsBase 5 2) holds_low

abbrev pub HoldsOne : Holding → Held → Type 0
HoldsOne g h = (g.awaits ≡ 0 → ⊥) → (g.awaits % 16 ≡ 7 → ⊥) → (g.awaits % 16 ≡ 6 → ⊥) → (g.awaits % 16 ≡ 5 → ⊥) → 1 ≡ held_words h

holds_one : (h : Held) → Fits h → HoldsOne (flat h) h
holds_one Nothing f z a b c = absurd (z refl)
holds_one (Taggable x) f z a b c = absurd (a (omega arith))
holds_one (Half bus ch high) f z a b c = refl
holds_one (TagHigh x high) f z a b c = absurd (b (omega arith))
holds_one (TagLow x high low) f z a b c = absurd (c (omega arith))
holds_one (Answering bus r) f z a b c = refl

pub one_held : (g : Holding) → Sane g → HoldsOne g (held_of g)
one_held = sane_ind HoldsOne holds_one

-- ---- never more than four, and each word at most one more

base_few : (x : Base) → base_words x ≤ 2
base_few (base.Command bus b word) = omega arith
base_few (base.Arinc bus c word) = omega arith

pub held_few : (h : Held) → held_words h ≤ 4
held_few Nothing = omega arith
held_few (Taggable x) = omega (arith, base_few x)
held_few (Half bus c high) = omega arith
held_few (TagHigh x high) = omega (arith, base_few x)
held_few (TagLow x high low) = omega (arith, base_few x)
held_few (Answering bus r) = omega arith

-- at most so many words are held then
abbrev pub Holds : ℕ → Fed → Type 0
Holds n bad = Unit {0}
Holds n (fed is h) = held_words h ≤ n

holds_if : (n : ℕ) (t : Bool) (f g : Fed) → Holds n f → Holds n g → Holds n (cond t f g)
holds_if n true f g x y = x
holds_if n false f g x y = y

starts_one : (k : Kind) (bus label info : ℕ) → Holds 1 (starts k bus label info)
unfolding starts
starts_one Unused bus label info = tt
starts_one Mil1553 bus label info =
    holds_if 1 (eqb label 15) _ _ (omega arith)
    (holds_if 1 (eqb label 11) _ _ (omega arith)
    (holds_if 1 (eqb label 14) _ _ (omega arith)
    (holds_if 1 (eqb label 10) _ _ (omega arith)
    (holds_if 1 (eqb label 13) _ _ (omega arith)
    (holds_if 1 (eqb label 9) _ _ (omega arith)
    (holds_if 1 (eqb label 12) _ _ (omega arith)
    (holds_if 1 (eqb label 8) _ _ (omega arith)
    (holds_if 1 (eqb label 4) _ _ (holds_if 1 (below_tick info) _ _ (omega arith) tt)
    (holds_if 1 (eqb label 3) _ _ (omega arith)
    (holds_if 1 (eqb label 2) _ _ (omega arith)
    (holds_if 1 (eqb label 0) _ _ (omega arith) tt)))))))))))
starts_one Arinc429 bus label info =
    holds_if 1 (is_high label) _ _ (omega arith)
    (holds_if 1 (eqb label 4) _ _ (holds_if 1 (is_pair (info / 2 ^ 12) (info / 2 ^ 8 % 16)) _ _ (omega arith) tt)
    (holds_if 1 (eqb label 3) _ _ (omega arith)
    (holds_if 1 (eqb label 2) _ _ (omega arith)
    (holds_if 1 (eqb label 0) _ _ (omega arith) tt))))

behind : (n : ℕ) (i : Item) (f : Fed) → Holds 1 f → Holds (n + 1) (after i f)
behind n i bad h = tt
behind n i (fed is h') h = omega (arith, h)

pub feed_holds : (ks : List Kind) (h : Held) (bus label info : ℕ) → Holds (held_words h + 1) (feed ks h bus label info)
unfolding feed
feed_holds ks Nothing bus label info = starts_one (kind_on ks bus) bus label info
feed_holds ks (Taggable x) bus label info =
    holds_if (base_words x + 1) (eqb label 7 && eqb bus (base_bus x)) _ _ (omega arith)
    (behind (base_words x) (with_tag x Untagged) (starts (kind_on ks bus) bus label info) (starts_one (kind_on ks bus) bus label info))
feed_holds ks (Half b c high) bus label info = holds_if 2 (eqb bus b && eqb label (low_label c)) _ _ (omega arith) tt
feed_holds ks (TagHigh x high) bus label info = holds_if (base_words x + 1 + 1) (eqb bus (base_bus x) && eqb label 6) _ _ (omega arith) tt
feed_holds ks (TagLow x high low) bus label info =
    holds_if (base_words x + 2 + 1) (eqb bus (base_bus x) && eqb label 5 && below_tick info) _ _ (omega arith) tt
feed_holds ks (Answering b r) bus label info = holds_if 2 (eqb bus b && (eqb label 14 || eqb label 10)) _ _ (omega arith) tt

-- ---- the last words of the last four

-- of a words that are held and one more, the last b, as the last b of the last four
last_shift : (a b : ℕ) → a ≤ 4 → b ≤ 4 → b ≤ a + 1 → (l : Last) (n : ℕ) → last_of b (last_of a (numbers_of l) ++ n ∷ []) ≡ last_of b (numbers_of (shifted l n))
last_shift zero zero x y z l n = refl
last_shift zero (suc zero) x y z l n = refl
last_shift zero (suc (suc b)) x y z l n = absurd (omega arith)
last_shift (suc zero) zero x y z l n = refl
last_shift (suc zero) (suc zero) x y z l n = refl
last_shift (suc zero) (suc (suc zero)) x y z l n = refl
last_shift (suc zero) (suc (suc (suc b))) x y z l n = absurd (omega arith)
last_shift (suc (suc zero)) zero x y z l n = refl
last_shift (suc (suc zero)) (suc zero) x y z l n = refl
last_shift (suc (suc zero)) (suc (suc zero)) x y z l n = refl
last_shift (suc (suc zero)) (suc (suc (suc zero))) x y z l n = refl
last_shift (suc (suc zero)) (suc (suc (suc (suc b)))) x y z l n = absurd (omega arith)
last_shift (suc (suc (suc zero))) zero x y z l n = refl
last_shift (suc (suc (suc zero))) (suc zero) x y z l n = refl
last_shift (suc (suc (suc zero))) (suc (suc zero)) x y z l n = refl
last_shift (suc (suc (suc zero))) (suc (suc (suc zero))) x y z l n = refl
last_shift (suc (suc (suc zero))) (suc (suc (suc (suc zero)))) x y z l n = refl
last_shift (suc (suc (suc zero))) (suc (suc (suc (suc (suc b))))) x y z l n = absurd (omega arith)
last_shift (suc (suc (suc (suc zero)))) zero x y z l n = refl
last_shift (suc (suc (suc (suc zero)))) (suc zero) x y z l n = refl
last_shift (suc (suc (suc (suc zero)))) (suc (suc zero)) x y z l n = refl
last_shift (suc (suc (suc (suc zero)))) (suc (suc (suc zero))) x y z l n = refl
last_shift (suc (suc (suc (suc zero)))) (suc (suc (suc (suc zero)))) x y z l n = refl
last_shift (suc (suc (suc (suc zero)))) (suc (suc (suc (suc (suc b))))) x y z l n = absurd (omega arith)
last_shift (suc (suc (suc (suc (suc a))))) b x y z l n = absurd (omega arith)

drop_map : (f : ℕ → ℕ) (n : ℕ) (l : List ℕ) → drop n (map f l) ≡ map f (drop n l)
drop_map f zero l = refl
drop_map f (suc n) [] = refl
drop_map f (suc n) (x ∷ l) = drop_map f n l

last_map : (f : ℕ → ℕ) (n : ℕ) (l : List ℕ) → last_of n (map f l) ≡ map f (last_of n l)
last_map f n l = ap (λ (k : ℕ). drop (k - n) (map f l)) (length-map l f) ∙ drop_map f (length l - n) l

-- the same where they stand
pub places_shift : (f : ℕ → ℕ) (a b : ℕ) → a ≤ 4 → b ≤ 4 → b ≤ a + 1 → (l : Last) (n : ℕ)
    → last_of b (map f (last_of a (numbers_of l)) ++ f n ∷ []) ≡ map f (last_of b (numbers_of (shifted l n)))
places_shift f a b x y z l n =
    ap (last_of b) (sym (map_append f (last_of a (numbers_of l)) (n ∷ []))) ∙ last_map f b (last_of a (numbers_of l) ++ n ∷ []) ∙ ap (map f) (last_shift a b x y z l n)

-- each of the last four is low
pub low_at : (n : ℕ) (l : Last) → Low n l → (k : ℕ) → k < 4 → get_or (numbers_of l) k 0 < n
low_at n l h zero b = h.first_low
low_at n l h (suc zero) b = h.second_low
low_at n l h (suc (suc zero)) b = h.third_low
low_at n l h (suc (suc (suc zero))) b = h.fourth_low
low_at n l h (suc (suc (suc (suc k)))) b = absurd (omega arith)

-- so many words, so many places
pub length_last : (f : ℕ → ℕ) (n : ℕ) (l : Last) → n ≤ 4 → length (map f (last_of n (numbers_of l))) ≡ n
length_last f zero l h = refl
length_last f (suc zero) l h = refl
length_last f (suc (suc zero)) l h = refl
length_last f (suc (suc (suc zero))) l h = refl
length_last f (suc (suc (suc (suc zero)))) l h = refl
length_last f (suc (suc (suc (suc (suc n))))) l h = absurd (omega arith)
