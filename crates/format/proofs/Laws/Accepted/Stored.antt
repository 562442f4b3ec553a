-- A capture from its words, and what a group without fault says of its stored words.
use Rattle.std.specs.Prelude.{ℕ, zero, suc, ◌+◌, ◌*◌, ◌<◌, Bool, true, false, cond, ◌&&◌, ◌||◌, not, ◌≡◌, refl, List, [], ◌∷◌, eqb, ltb}
use Rattle.std.proofs.Common.{arith, eqb-true, ltb-true, eq-eqb}
use Rattle.format.specs.Word.{word_at, sync, is_odd, bus_of, label_of, info_of}
use Rattle.format.specs.Plan.{place_of}
use Rattle.format.specs.Lists.{list, All, nil, cons}
use Rattle.format.specs.Check.{check_word}
use Rattle.format.specs.Group.{Fault, none, found, or_else, unless, fault_at, first_of, stored_fault, time_word_fault, time_fault, group_fault}
use Rattle.format.specs.Laws.Tests.{clash, and_true}
use Rattle.format.specs.Laws.Lists.{all_at, all_block}
use Rattle.format.proofs.Laws.Accepted.Tidy.{no_fault}
use Rattle.format.specs.declared.Plan.{Plan}

-- no fault: each part has none
or_none : (f g : Fault) → or_else f g ≡ none → (f ≡ none) × (g ≡ none)
or_none none g e = (refl, e)
or_none (found n q) g e = no_fault n q e

unless_none : (b : Bool) (n q : ℕ) → unless b n q ≡ none → b ≡ true
unless_none true n q e = refl
unless_none false n q e = no_fault n q e

first_all : (fs : List Fault) → first_of fs ≡ none → All (λ f. f ≡ none) fs
unfolding first_of
first_all [] e = nil
first_all (f ∷ fs) e = cons (or_none f _ e).0 (first_all fs (or_none f _ e).1)

pub stored_fault_lem : (p : Plan) (c : List ℕ) (at t j : ℕ) → group_fault p c at ≡ none → t < p.tracks → j < p.words → fault_at p c (at + t * p.words) j ≡ none
unfolding group_fault stored_fault
stored_fault_lem p c at t j e l k =
    let a = first_all _ (or_none (stored_fault p c at) _ e).0 in
    let z1 : 0 + t ≡ t = omega arith in
    let z2 : 0 + j ≡ j = omega arith in
    rw (z1, z2)
    at (all_at (λ f. f ≡ none) (fault_at p c (at + (0 + t) * p.words)) p.words 0 j
    (all_block (λ f. f ≡ none) (λ (t : ℕ). list (fault_at p c (at + t * p.words)) 0 p.words) p.tracks 0 t a l) k)

-- the stored words: sync, odd, and the check word
pub sync_is : (p : Plan) (c : List ℕ) (at : ℕ) → fault_at p c at zero ≡ none → word_at c at ≡ sync
unfolding fault_at
sync_is p c at e = eqb-true _ _ (unless_none _ _ _ e)

pub odd_is : (p : Plan) (c : List ℕ) (at j : ℕ) → fault_at p c at (suc j) ≡ none → (not p.parity || is_odd (word_at c (at + suc j))) ≡ true
unfolding fault_at
odd_is p c at j e = unless_none _ _ _ (or_none _ _ e).0

pub check_is : (p : Plan) (c : List ℕ) (at j : ℕ) → fault_at p c at (suc j) ≡ none → p.crc ≡ true → suc (suc j) ≡ p.words
    → word_at c (at + suc j) ≡ check_word p.parity p.crc_label (list (word_at c) at (suc j))
unfolding fault_at
check_is p c at j e k l = go (p.crc && eqb (suc (suc j)) p.words) (both p.crc k) (or_none (unless (not p.parity || is_odd (word_at c (at + suc j))) 10 (at + suc j)) _ e).1
  where
    both : (b : Bool) → b ≡ true → (b && eqb (suc (suc j)) p.words) ≡ true
    both true z = eq-eqb _ _ l
    both false z = clash z

    go : (b : Bool) → b ≡ true → cond b (unless (eqb (word_at c (at + suc j)) (check_word p.parity p.crc_label (list (word_at c) at (suc j)))) 11 (at + suc j)) none ≡ none
        → word_at c (at + suc j) ≡ check_word p.parity p.crc_label (list (word_at c) at (suc j))
    go true z f = eqb-true _ _ (unless_none _ _ _ f)
    go false z f = clash z

-- the time words
pub record TimeWord (p : Plan) (c : List ℕ) (at s label : ℕ) : Type 0 where
  pub bus : bus_of p.parity (word_at c (at + place_of p s)) ≡ 0
  pub named : label_of (word_at c (at + place_of p s)) ≡ label

time_word_is : (p : Plan) (c : List ℕ) (at s label : ℕ) (micro : Bool) → time_word_fault p c at s label micro ≡ none
    → TimeWord p c at s label × (cond micro (ltb (info_of (word_at c (at + place_of p s))) 10000) true ≡ true)
unfolding time_word_fault
time_word_is p c at s label micro e =
    let a = and_true _ _ (unless_none _ _ _ e) in
    let b = and_true _ _ a.0 in
    (record { bus = eqb-true _ _ b.0; named = eqb-true _ _ b.1 }, a.1)

pub times_are : (p : Plan) (c : List ℕ) (at : ℕ) → group_fault p c at ≡ none → p.frame_time ≡ true
    → TimeWord p c at 0 7 × TimeWord p c at 1 6 × TimeWord p c at 2 5 × (info_of (word_at c (at + place_of p 2)) < 10000)
unfolding group_fault time_fault
times_are p c at e f = go p.frame_time f (or_none (stored_fault p c at) _ e).1
  where
    go : (b : Bool) → b ≡ true → cond b (or_else (time_word_fault p c at 0 7 false) (or_else (time_word_fault p c at 1 6 false) (time_word_fault p c at 2 5 true))) none ≡ none
        → TimeWord p c at 0 7 × TimeWord p c at 1 6 × TimeWord p c at 2 5 × (info_of (word_at c (at + place_of p 2)) < 10000)
    go true z g =
        let a = or_none _ _ g in
        let b = or_none _ _ a.1 in
        let m = time_word_is p c at 2 5 true b.1 in
        ((time_word_is p c at 0 7 false a.0).0, (time_word_is p c at 1 6 false b.0).0, m.0, ltb-true _ _ m.1)
    go false z g = clash z
