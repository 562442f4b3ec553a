-- Rows of which the first that is shown is kept.
use Rattle.std.specs.Prelude.{ℕ, zero, suc, ◌+◌, ◌≤◌, ◌<◌, Bool, true, false, cond, ◌≡◌, refl, List, [], ◌∷◌, length, take, drop, get_or, eqb, leb}
use Rattle.std.proofs.Common.{arith, ap, sym, ◌∙◌, eqb-true}
use Rattle.std.proofs.lemmas.Bool.{eqb-false}
use Rattle.format.specs.Word.{part_of}
use Rattle.format.specs.Reader.{counted}
use Rattle.format.specs.Laws.Reader.Counted.{counted_next, counted_none}
use Rattle.format.specs.declared.Kind.{Kind}
use Rattle.notices.specs.Roles.{Role, neither, notice, word, Row, role_in, roles_in}
use Rattle.notices.specs.Table.{Notes, earlier, noted, notes_of, or_first, watched, watched_of}

-- ---- one element further

module _ (ks : List Kind) (parity : Bool) (ws : List ℕ) where
  pub watched_next : (n i : ℕ) → i < length ws → (s : Notes)
      → watched_of (roles_in ks parity (counted (n + i) (drop i ws))) s
      ≡ watched_of (roles_in ks parity (counted (n + (i + 1)) (drop (i + 1) ws))) (watched (n + i) (role_in ks (part_of parity (get_or ws i 0))) s)
  unfolding roles_in watched_of
  watched_next n i l s = rw (counted_next n i ws l)

  pub watched_end : (n i : ℕ) → length ws ≤ i → (s : Notes) → watched_of (roles_in ks parity (counted n (drop i ws))) s ≡ s
  unfolding roles_in watched_of
  watched_end n i l s = rw (counted_none n i ws l)

-- the words up to the word q, and then the others
pub watched_split : (ks : List Kind) (parity : Bool) (n q : ℕ) (ws : List ℕ) (s : Notes)
    → watched_of (roles_in ks parity (counted n ws)) s ≡ watched_of (roles_in ks parity (counted (n + q) (drop q ws))) (watched_of (roles_in ks parity (counted n (take q ws))) s)
unfolding roles_in watched_of counted
watched_split ks parity n zero ws s = let z : n + 0 ≡ n = omega arith in rw z
watched_split ks parity n (suc q) [] s = refl
watched_split ks parity n (suc q) (w ∷ ws) s =
    let z : n + 1 + q ≡ n + suc q = omega arith in
    rw z at (watched_split ks parity (n + 1) q ws (watched n (role_in ks (part_of parity w)) s))

-- ---- where none is shown, it is as if the earliest were kept

earlier_none : (a b : ℕ) → earlier a b ≡ 0 → a ≡ 0
unfolding earlier
earlier_none a b e = go (eqb a 0) refl (eqb b 0) refl (leb a b) e
  where
    go : (x : Bool) → eqb a 0 ≡ x → (y : Bool) → eqb b 0 ≡ y → (z : Bool) → cond x b (cond y a (cond z a b)) ≡ 0 → a ≡ 0
    go true f y g z e = eqb-true a 0 f
    go false f true g z e = e
    go false f false g true e = e
    go false f false g false e = absurd (eqb-false b 0 g e)

-- what was shown stays shown
notes_none : (r : Row) (s : Notes) → (notes_of r s).0 ≡ 0 → s.0 ≡ 0
unfolding notes_of
notes_none [] s e = e
notes_none (x ∷ r) s e = go x.1 (notes_none r (noted x.0 x.1 s) e)
  where
    go : (w : Role) → (noted x.0 w s).0 ≡ 0 → s.0 ≡ 0
    go neither e = e
    go (notice j) e = earlier_none s.0 (get_or s.1 j 0) e
    go (word j) e = e

pub watched_same : (r : Row) (t t' : List ℕ) → notes_of r (0, t) ≡ (0, t') → watched_of r (0, t) ≡ (0, t')
unfolding notes_of watched_of
watched_same [] t t' e = e
watched_same (x ∷ r) t t' e =
    let n : Notes = noted x.0 x.1 (0, t) in
    let z : n.0 ≡ 0 = notes_none r n (ap (λ (s : Notes). s.0) e) in
    let same : n ≡ (0, n.1) = ap (λ (a : ℕ). (a, n.1)) z in
    ap (watched_of r) same ∙ watched_same r n.1 t' (ap (notes_of r) (sym same) ∙ e)
