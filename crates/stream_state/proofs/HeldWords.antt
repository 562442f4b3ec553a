-- The words of what is held, out of its three numbers.
use Prim.Native.Nat.{ℕ, ◌+◌, ◌*◌, ◌-◌, ◌/◌, ◌%◌, ◌^◌, ◌≤◌, ◌<◌}
use native.Mathlib.Omega.{arith}
use mathlib.Core.Bool.{Bool, true, false, cond}
use mathlib.Core.Path.{◌≡◌, refl, ap, sym, ◌∙◌}
use mathlib.Core.List.{List, [], ◌∷◌}
use lib.Dec.{eqb}
use borrow.Author.Tests.{eqb-true, eqb-false, eq-eqb, ne_eqb, le-leb, le-ltb, lt-leb, lt-ltb}
use Rattle.format.specs.Word.{word_of}
use Rattle.format.specs.Reader.{base_bus}
use Rattle.format.specs.Laws.Reader.Held.{held_parts}
use Rattle.data_start.specs.declared.Holding.{Holding}
use Rattle.data_start.specs.Holding.{flat}
use Rattle.data_word.specs.Holding.{Fits, Sane, base_of, held_of}
use Rattle.data_word.proofs.Flat.{sane_ind}
use Rattle.format.specs.declared.Held.{Held}
use Rattle.format.specs.declared.Held.TheVariants.{Nothing, Taggable, Half, TagHigh, TagLow, Answering}
use Rattle.stream_rules.specs.StateNumbers.{four_words}
use Rattle.stream_state.specs.Storing.{arinc_in, command_in, staged}

abbrev row_of : Holding → List ℕ
row_of g = four_words (held_parts (held_of g))

-- nothing, or a response
pub none_words : (g : Holding) → g.awaits ≡ 0 → 0 ∷ 0 ∷ 0 ∷ 0 ∷ 0 ∷ [] ≡ row_of g
unfolding held_of
none_words g e = rw e refl

pub answer_words : (g : Holding) (word : ℕ) → (g.awaits ≡ 0 → ⊥) → 256 ≤ g.awaits → word ≡ word_of (g.awaits / 16 % 16) 4 g.time
    → 1 ∷ word ∷ 0 ∷ 0 ∷ 0 ∷ [] ≡ row_of g
unfolding held_of
answer_words g word n u e = rw (e, ne_eqb _ _ n, le-leb _ _ u) refl

-- the label that goes on with what is held: even and from 8 on, or 5, 6, 7
labels : (g : Holding) → Sane g → g.awaits < 256 → (g.awaits ≡ 0 → ⊥) → (8 ≤ g.awaits % 16 → g.awaits % 2 ≡ 0) × (5 ≤ g.awaits % 16)
labels g s u n = sane_ind (λ x h. x.awaits < 256 → (x.awaits ≡ 0 → ⊥) → (8 ≤ x.awaits % 16 → x.awaits % 2 ≡ 0) × (5 ≤ x.awaits % 16)) go g s u n
  where
    go : (h : Held) → Fits h → (flat h).awaits < 256 → ((flat h).awaits ≡ 0 → ⊥) → (8 ≤ (flat h).awaits % 16 → (flat h).awaits % 2 ≡ 0) × (5 ≤ (flat h).awaits % 16)
    go Nothing f u n = absurd (n refl)
    go (Taggable x) f u n = (λ e. absurd (omega (arith, e)), omega arith)
    go (Half bus c high) f u n = let m : (bus * 16 + (8 + 2 * c)) % 16 ≡ 8 + 2 * c = omega (arith, f.1) in (λ e. omega arith, omega (arith, m))
    go (TagHigh x high) f u n = (λ e. absurd (omega (arith, e)), omega arith)
    go (TagLow x high low) f u n = (λ e. absurd (omega (arith, e)), omega arith)
    go (Answering bus r) f u n = absurd (omega (arith, u))

-- the first syllable of an ARINC word
pub half_words : (g : Holding) (word : ℕ) → Sane g → (g.awaits ≡ 0 → ⊥) → g.awaits < 256 → 8 ≤ g.awaits % 16
    → word ≡ word_of (g.awaits / 16) (g.awaits % 16 + 1) (g.base % 2 ^ 16) → 1 ∷ word ∷ 0 ∷ 0 ∷ 0 ∷ [] ≡ row_of g
unfolding held_of
half_words g word s n u h e =
    let x : (g.awaits % 16 ≡ 7 → ⊥) = λ z. absurd (omega (arith, z, h)) in
    let y : (g.awaits % 16 ≡ 6 → ⊥) = λ z. absurd (omega (arith, z, h)) in
    let w : (g.awaits % 16 ≡ 5 → ⊥) = λ z. absurd (omega (arith, z, h)) in
    let l : g.awaits % 16 + 1 ≡ 9 + 2 * ((g.awaits % 16 - 8) / 2) = omega (arith, h, (labels g s u n).0 h) in
    rw (e, l, ne_eqb _ _ n, lt-leb _ _ u, ne_eqb _ _ x, ne_eqb _ _ y, ne_eqb _ _ w) refl

-- a command or an ARINC word
based : (g : Holding) → Sane g → (g.awaits ≡ 0 → ⊥) → g.awaits < 256 → g.awaits % 16 < 8 → held_of g ≡ staged (base_of g) (g.awaits % 16) g.time
unfolding held_of
based g s n u h = rw (ne_eqb _ _ n, lt-leb _ _ u) (go (eqb (g.awaits % 16) 7) refl (eqb (g.awaits % 16) 6) refl)
  where
    go : (t : Bool) → eqb (g.awaits % 16) 7 ≡ t → (v : Bool) → eqb (g.awaits % 16) 6 ≡ v
        → cond t (Taggable (base_of g))
        (cond v (TagHigh (base_of g) g.time)
        (cond (eqb (g.awaits % 16) 5) (TagLow (base_of g) (g.time / 2 ^ 16) (g.time % 2 ^ 16))
        (Half (g.awaits / 16) ((g.awaits % 16 - 8) / 2) (g.base % 2 ^ 16))))
        ≡ cond t (Taggable (base_of g)) (cond v (TagHigh (base_of g) g.time) (TagLow (base_of g) (g.time / 2 ^ 16) (g.time % 2 ^ 16)))
    go true p v q = refl
    go false p true q = refl
    go false p false q =
        let five : g.awaits % 16 ≡ 5 = omega (arith, h, (labels g s u n).1, eqb-false (g.awaits % 16) 7 p, eqb-false (g.awaits % 16) 6 q) in
        rw (eq-eqb _ _ five) refl

pub command_row : (g : Holding) → Sane g → (g.awaits ≡ 0 → ⊥) → g.awaits < 256 → g.awaits % 16 < 8 → g.base < 2 ^ 32
    → four_words (held_parts (staged (command_in (g.awaits / 16) g.base) (g.awaits % 16) g.time)) ≡ row_of g
command_row g s n u h l =
    let b : base_of g ≡ command_in (g.awaits / 16) g.base = rw (lt-ltb _ _ l) refl in
    sym (ap (λ (x : Held). four_words (held_parts x)) (based g s n u h) ∙ rw b refl)

pub arinc_row : (g : Holding) → Sane g → (g.awaits ≡ 0 → ⊥) → g.awaits < 256 → g.awaits % 16 < 8 → 2 ^ 32 ≤ g.base
    → four_words (held_parts (staged (arinc_in (g.awaits / 16) g.base) (g.awaits % 16) g.time)) ≡ row_of g
arinc_row g s n u h l =
    let b : base_of g ≡ arinc_in (g.awaits / 16) g.base = rw (le-ltb _ _ l) refl in
    sym (ap (λ (x : Held). four_words (held_parts x)) (based g s n u h) ∙ rw b refl)
