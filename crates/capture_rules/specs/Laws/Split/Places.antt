-- Numbers of 24 bits, and what follows them.
use Rattle.std.specs.Prelude.{ℕ, zero, suc, ◌+◌, ◌*◌, ◌/◌, ◌%◌, ◌^◌, ◌≤◌, ◌<◌, Bool, true, false, cond, ◌≡◌, refl, List, [], ◌∷◌, ◌++◌, ltb, eqb}
use Rattle.std.proofs.Common.{ap, sym, ◌∙◌, append-nil, lt-ltb}
use Rattle.format.specs.Word.{bus_of, label_of, info_of, is_fill}
use Rattle.format.specs.Reader.{Fed, feed, run, Ran, bad_at, ran, begun, join, Slot}
use Rattle.format.specs.Lists.{All, nil, cons}
use Rattle.capture_rules.specs.Split.{run_numbers}
use Rattle.format.specs.declared.Kind.{Kind}
use Rattle.format.specs.declared.Item.{Item}
use Rattle.format.specs.declared.Held.{Held}
use Rattle.format.proofs.Laws.Reader.Onward.{and_then, more_none, join_then}

-- ---- numbers of 24 bits

abbrev pub Small : List Slot → Type 0
Small ss = All (λ (s : Slot). s.1 < 2 ^ 24) ss

-- slots of 24 bits run as `run` says, and then the others
pub numbers_after : (ks : List Kind) (parity : Bool) (ss ts : List Slot) → Small ss → (h : Held) (p : ℕ)
    → run_numbers ks parity (ss ++ ts) h p ≡ and_then (run ks parity ss h p) (λ h p. run_numbers ks parity ts h p)
unfolding run run_numbers
numbers_after ks parity [] ts nil h p = sym (more_none (run_numbers ks parity ts h p))
numbers_after ks parity (s ∷ ss) ts (cons l a) h p = rw (lt-ltb _ _ l) (go (is_fill s.1) (numbers_after ks parity ss ts a))
  where
    f : Fed
    f = feed ks h (bus_of parity s.1) (label_of s.1) (info_of s.1)

    second : ℕ
    second = begun h p s.0

    go : (t : Bool) → ((h : Held) (p : ℕ) → run_numbers ks parity (ss ++ ts) h p ≡ and_then (run ks parity ss h p) (λ h p. run_numbers ks parity ts h p))
        → cond t (run_numbers ks parity (ss ++ ts) h p) (join f p second s.0 (λ h p. run_numbers ks parity (ss ++ ts) h p))
        ≡ and_then (cond t (run ks parity ss h p) (join f p second s.0 (λ h p. run ks parity ss h p))) (λ h p. run_numbers ks parity ts h p)
    go true ih = ih h p
    go false ih =
        join_then f p second s.0 (λ h p. run ks parity ss h p) (λ h p. run_numbers ks parity (ss ++ ts) h p) (λ h p. run_numbers ks parity ts h p) ih

then_none : (r : Ran) → and_then r (λ h p. ran [] h p) ≡ r
then_none (bad_at p q) = refl
then_none (ran is h p) = ap (λ (l : List Item). ran l h p) (append-nil is)

pub run_numbers_lem : (ks : List Kind) (parity : Bool) (ss : List Slot) → Small ss → (h : Held) (p : ℕ) → run_numbers ks parity ss h p ≡ run ks parity ss h p
unfolding run_numbers
run_numbers_lem ks parity ss a h p =
    sym (ap (λ (l : List Slot). run_numbers ks parity l h p) (append-nil ss)) ∙ numbers_after ks parity ss [] a h p ∙ then_none (run ks parity ss h p)
