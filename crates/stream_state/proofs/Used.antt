-- The kinds' numbers: named, and how many buses are used.
use Prim.Native.Nat.{ℕ, zero, suc, ◌+◌, ◌-◌, ◌≤◌, ◌<◌}
use native.Mathlib.Omega.{arith}
use mathlib.Core.Bool.{Bool, true, false, not, cond, ◌&&◌, ◌||◌}
use mathlib.Core.Path.{◌≡◌, refl, sym, ap, ap₂, ◌∙◌}
use mathlib.Core.List.{List, [], ◌∷◌, ◌++◌, map}
use lib.ListN.{length, drop}
use lib.Dec.{eqb, leb}
use borrow.Author.Tests.{le-leb, leb-true}
use Rattle.format.specs.Lists.{list}
use Rattle.format.specs.Laws.Lists.{length_list}
use Rattle.format.specs.Plan.{is_used, legal, used_buses}
use Rattle.format.specs.Laws.Tests.{and_true}
use Rattle.from_c.specs.Numbers.{are_kinds}
use Rattle.format.specs.Bits.{bit}
use Rattle.stream_rules.specs.StateNumbers.{kind_from}
use Rattle.format.specs.declared.Kind.{Kind}
use Rattle.format.specs.declared.Plan.{Plan}
use Rattle.stream_state.specs.declared.Buses.{Buses}
use Rattle.stream_state.specs.Layout.{number_at}
use Rattle.stream_state.specs.Loading.{Planned}
use Rattle.stream_state.specs.Parts.{buses_fit, buses_in, kinds_at, plan_at, used_in, used_of}
use Rattle.stream_state.specs.Laws.Working.{kinds_are, ranges}
use Rattle.stream_state.proofs.Runs.{and_assoc, and_true_right}

-- ---- eight numbers, one after the other

-- so many of them were looked at
pub record Counted (f : ℕ → ℕ) (first : ℕ) (named : Bool) (used i : ℕ) : Type 0 where
  pub names : are_kinds (list f first 8) ≡ (named && are_kinds (list f (first + i) (8 - i)))
  pub uses : used_in (list f first 8) ≡ used + used_in (list f (first + i) (8 - i))

pub counted_none : (f : ℕ → ℕ) (first : ℕ) → Counted f first true 0 0
counted_none f first =
    let e : first + 0 ≡ first = omega arith in
    record { names = rw e refl; uses = rw e (omega arith) }

pub used_small : (n : ℕ) → used_of n ≤ 1
used_small n = go (eqb n 0)
  where
    go : (t : Bool) → cond {A = ℕ} t 0 1 ≤ 1
    go true = omega arith
    go false = omega arith

module _ {f : ℕ → ℕ} {first : ℕ} {named : Bool} {used i : ℕ} (x : Counted f first named used i) where
  abbrev here : ℕ
  here = f (first + i)

  next : i < 8 → list f (first + i) (8 - i) ≡ here ∷ list f (first + (i + 1)) (8 - (i + 1))
  unfolding list
  next h =
      let e : 8 - i ≡ suc (8 - (i + 1)) = omega arith in
      let d : first + i + 1 ≡ first + (i + 1) = omega arith in
      rw (e, d) refl

  pub counted_more : i < 8 → {n : ℕ} {t : Bool} {more : ℕ} → n ≡ here → t ≡ (named && leb n 2) → more ≡ used_of n → Counted f first t (used + more) (i + 1)
  unfolding are_kinds used_in
  counted_more h {n} {t} {more} e g k =
      let rest : List ℕ = list f (first + (i + 1)) (8 - (i + 1)) in
      record {
        names = x.names ∙ ap (λ (l : List ℕ). named && are_kinds l) (next h) ∙ and_assoc named (leb here 2) (are_kinds rest) ∙ rw (g, e) refl;
        uses = x.uses ∙ ap (λ (l : List ℕ). used + used_in l) (next h) ∙ rw (k, e) (omega arith);
      }

  pub counted_all : 8 ≤ i → ◌≡◌ {A = Buses} (record { named = named; used = used }) (buses_in (list f first 8))
  unfolding are_kinds used_in list
  counted_all h =
      let e : 8 - i ≡ 0 = omega arith in
      let a : are_kinds (list f first 8) ≡ named = x.names ∙ rw e (and_true_right named) in
      let b : used_in (list f first 8) ≡ used = x.uses ∙ rw e (omega arith) in
      rw (a, b) refl

-- ---- sixteen

pub kinds_both : (f : ℕ → ℕ) → are_kinds (list f 20 16) ≡ (are_kinds (list f 20 8) && are_kinds (list f 28 8))
unfolding are_kinds list
kinds_both f = go (leb (f 20) 2) (leb (f 21) 2) (leb (f 22) 2) (leb (f 23) 2) (leb (f 24) 2) (leb (f 25) 2) (leb (f 26) 2) (leb (f 27) 2) (are_kinds (list f 28 8))
  where
    go : (a b c d e g h i t : Bool) → (a && (b && (c && (d && (e && (g && (h && (i && t)))))))) ≡ ((a && (b && (c && (d && (e && (g && (h && (i && true)))))))) && t)
    go false b c d e g h i t = refl
    go true false c d e g h i t = refl
    go true true false d e g h i t = refl
    go true true true false e g h i t = refl
    go true true true true false g h i t = refl
    go true true true true true false h i t = refl
    go true true true true true true false i t = refl
    go true true true true true true true false t = refl
    go true true true true true true true true t = refl

used_append : (l m : List ℕ) → used_in (l ++ m) ≡ used_in l + used_in m
unfolding used_in
used_append [] m = omega arith
used_append (n ∷ l) m = rw (used_append l m) (omega arith)

pub used_few : (f : ℕ → ℕ) (first : ℕ) → used_in (list f first 8) ≤ 8
unfolding used_in
used_few f first = omega (arith, few (list f first 8), length_list f first 8)
  where
    few : (l : List ℕ) → used_in l ≤ length l
    few [] = omega arith
    few (n ∷ l) = omega (arith, few l, used_small n)

pub used_both : (f : ℕ → ℕ) → used_in (list f 20 8) + used_in (list f 28 8) ≡ used_in (list f 20 16)
unfolding list
used_both f = sym (used_append (list f 20 8) (list f 28 8))

-- ---- and the kinds that they say

used_one : (n : ℕ) → leb n 2 ≡ true → bit (is_used (kind_from n)) ≡ used_of n
unfolding is_used
used_one zero e = refl
used_one (suc zero) e = refl
used_one (suc (suc zero)) e = refl
used_one (suc (suc (suc n))) e = absurd (omega (arith, leb-true (suc (suc (suc n))) 2 e))

used_kinds : (l : List ℕ) → are_kinds l ≡ true → used_buses (map kind_from l) ≡ used_in l
unfolding are_kinds used_buses used_in
used_kinds [] e = refl
used_kinds (n ∷ l) e =
    let t = and_true (leb n 2) (are_kinds l) e in
    ap₂ (λ (a b : ℕ). a + b) (used_one n t.0) (used_kinds l t.1)

above : (f : ℕ → ℕ) → drop 8 (map kind_from (list f 20 16)) ≡ map kind_from (list f 28 8)
unfolding list
above f = refl

-- ---- what is legal

module _ (b : List ℕ) (p : Plan) (z : Planned b p) where
  kinds : kinds_at b ≡ map kind_from (list (number_at b) 20 16)
  kinds = kinds_are b 16 0 z.kinds

  all_used : used_buses (kinds_at b) ≡ used_in (list (number_at b) 20 16)
  all_used = ap used_buses kinds ∙ used_kinds (list (number_at b) 20 16) z.kinds

  above_used : used_buses (drop 8 (kinds_at b)) ≡ used_in (list (number_at b) 28 8)
  above_used =
      let e = and_true (are_kinds (list (number_at b) 20 8)) (are_kinds (list (number_at b) 28 8)) (sym (kinds_both (number_at b)) ∙ z.kinds) in
      ap (λ (ks : List Kind). used_buses (drop 8 ks)) kinds ∙ ap used_buses (above (number_at b)) ∙ used_kinds (list (number_at b) 28 8) e.1

  same : (a t u d e f : Bool) → (a && ((t && u) && (not d || (e && f)))) ≡ (a && true && t && true && u && (not d || e) && true && true && (not d || f))
  same false t u d e f = refl
  same true false u d e f = refl
  same true true false d e f = refl
  same true true true false e f = refl
  same true true true true false f = refl
  same true true true true true f = refl

  pub lawful : (used high : ℕ) → used ≡ used_in (list (number_at b) 20 16) → high ≡ used_in (list (number_at b) 28 8) → buses_fit p used high ≡ legal p (kinds_at b)
  unfolding legal
  lawful used high e g =
      let r = ranges (number_at b 1) (number_at b 2) (number_at b 3) (number_at b 4) (number_at b 5) (number_at b 6) (number_at b 7) z.named in
      let q : Plan = plan_at b in
      rw (e ∙ sym all_used, g ∙ sym above_used, z.is)
      (same (leb 128 q.words) (leb 1 q.tracks) (eqb q.tracks 1 || eqb (used_buses (kinds_at b)) 1) q.parity (eqb (used_buses (drop 8 (kinds_at b))) 0) (leb q.fill_bus 7)
      ∙ sym (rw (le-leb (number_at b 1) 512 r.0, le-leb (number_at b 2) 4 r.1, le-leb (number_at b 6) 7 r.5, le-leb (number_at b 7) 15 r.6) refl))
