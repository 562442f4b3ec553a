-- What is held, kept between two calls as its words: fed to the reader again they bring it back.
use Rattle.std.specs.Prelude.{ℕ, zero, suc, ◌+◌, ◌*◌, ◌/◌, ◌%◌, ◌^◌, ◌<◌, Bool, true, false, cond, ◌&&◌, ◌||◌, ◌≡◌, refl, eqb, ltb}
use Rattle.std.proofs.Common.{arith, ap, sym, ◌∙◌, eq-eqb, lt-ltb}
use mathlib.Core.List.{List, [], ◌∷◌, ◌++◌, append-nil, flat_map}
use Rattle.std.proofs.Math.Seq.{append_snoc}
use Rattle.format.specs.Lists.{All, nil, cons}
use Rattle.format.specs.Word.{Part, part}
use Rattle.format.specs.Item.{high_label, low_label, channel_of, sided}
use Rattle.format.specs.Plan.{kind_on}
use Rattle.format.specs.Reader.{Fed, bad, fed, feed, starts, holds, base_bus}
use Rattle.format.proofs.Laws.Reader.Forth.{BaseOk, HeldOk, Fits, Good, feed_good}
use Rattle.format.specs.Laws.Reader.Held.{base_parts, held_parts}
use Rattle.format.specs.declared.Kind.{Kind}
use Rattle.format.specs.declared.Kind.TheVariants.{Mil1553, Arinc429}
use Rattle.format.specs.declared.Item.{Item}
use Rattle.format.specs.declared.Base.{Base}
use Rattle.format.specs.declared.Base.TheVariants as base
use Rattle.format.specs.declared.Held.{Held}
use Rattle.format.specs.declared.Held.TheVariants.{Nothing, Taggable, Half, TagHigh, TagLow, Answering}

-- a word that finishes no item goes on to the next
abbrev pub only_held : Fed → (Held → Fed) → Fed
only_held bad go = bad
only_held (fed [] h) go = go h
only_held (fed (i ∷ is) h) go = bad

-- the words, fed one after the other: `bad` if one of them is bad or finishes an item
unfoldable pub refed : List Kind → Held → List Part → Fed
refed ks h [] = holds h
refed ks h (x ∷ xs) = only_held (feed ks h x.bus x.label x.info) (λ h'. refed ks h' xs)

channel_is : (c : ℕ) → c < 4 → channel_of (high_label c) ≡ c
channel_is zero h = refl
channel_is (suc zero) h = refl
channel_is (suc (suc zero)) h = refl
channel_is (suc (suc (suc zero))) h = refl
channel_is (suc (suc (suc (suc c)))) h = absurd (omega arith)

half_is : (ks : List Kind) (bus c high : ℕ) → kind_on ks bus ≡ Arinc429 → c < 4 → feed ks Nothing bus (high_label c) high ≡ holds (Half bus c high)
unfolding feed starts
half_is ks bus c high e l = rw (e, channel_is c l, lt-ltb c 4 l)

base_back : (ks : List Kind) (x : Base) (ys : List Part) → BaseOk ks x → refed ks Nothing (base_parts x ++ ys) ≡ refed ks (Taggable x) ys
unfolding refed feed starts
base_back ks (base.Command bus false word) ys o = rw o.0 refl
base_back ks (base.Command bus true word) ys o = rw o.0 refl
base_back ks (base.Arinc bus c word) ys o =
    let e : word / 2 ^ 16 * 2 ^ 16 + word % 2 ^ 16 ≡ word = omega arith in
    rw (half_is ks bus c (word / 2 ^ 16) o.0 o.1, eq-eqb bus bus refl, eq-eqb (low_label c) (low_label c) refl, e) refl

-- what is held comes back from its words
pub held_back : (ks : List Kind) (h : Held) → HeldOk ks h → refed ks Nothing (held_parts h) ≡ holds h
unfolding refed feed starts
held_back ks Nothing o = refl
held_back ks (Taggable (base.Command bus false word)) o = rw o.0 refl
held_back ks (Taggable (base.Command bus true word)) o = rw o.0 refl
held_back ks (Taggable (base.Arinc bus c word)) o = base_back ks (base.Arinc bus c word) [] o
held_back ks (Half bus c high) o = rw (half_is ks bus c high o.0 o.1) refl
held_back ks (TagHigh x high) o = base_back ks x (part (base_bus x) 7 high ∷ []) o.0 ∙ rw (eq-eqb (base_bus x) (base_bus x) refl) refl
held_back ks (TagLow (base.Command bus b word) high low) o =
    base_back ks (base.Command bus b word) (part bus 7 high ∷ part bus 6 low ∷ []) o.0 ∙ simp (eq-eqb bus bus refl)
held_back ks (TagLow (base.Arinc bus c word) high low) o =
    base_back ks (base.Arinc bus c word) (part bus 7 high ∷ part bus 6 low ∷ []) o.0 ∙ simp (eq-eqb bus bus refl)
held_back ks (Answering bus r) o = rw (o.0, lt-ltb r 10000 o.1) refl

-- and words that are fed so are the beginning of an item: what they hold is such as may be held, and its words are these
abbrev pub RefedOk : List Kind → List Part → Fed → Type 0
RefedOk ks P bad = Unit {0}
RefedOk ks P (fed is h) = (P ≡ held_parts h) × HeldOk ks h

pub refed_ok : (ks : List Kind) (xs : List Part) (h : Held) → HeldOk ks h → All Fits xs → RefedOk ks (held_parts h ++ xs) (refed ks h xs)
unfolding refed flat_map
refed_ok ks [] h o nil = (append-nil (held_parts h), o)
refed_ok ks (x ∷ xs) h o (cons z zs) =
    go (feed ks h x.bus x.label x.info) (feed_good ks h x o z) (λ h' o'. refed_ok ks xs h' o' zs)
  where
    go : (f : Fed) → Good ks (held_parts h ++ x ∷ []) f → ((h' : Held) → HeldOk ks h' → RefedOk ks (held_parts h' ++ xs) (refed ks h' xs))
        → RefedOk ks (held_parts h ++ x ∷ xs) (only_held f (λ h'. refed ks h' xs))
    go bad g ih = tt
    go (fed [] h') g ih = rw (← append_snoc (held_parts h) x xs, first h' g) (ih h' g.2)
      where
        first : (h' : Held) → Good ks (held_parts h ++ x ∷ []) (fed [] h') → held_parts h ++ x ∷ [] ≡ held_parts h'
        first h' g = g.0
    go (fed (i ∷ is) h') g ih = tt
