-- One run of the reader behind another, and items that were finished before.
use Rattle.std.specs.Prelude.{ℕ, Bool, true, false, cond, ◌≡◌, refl, List, [], ◌∷◌, ◌++◌}
use Rattle.std.proofs.Common.{ap, sym, ◌∙◌, append_assoc}
use Rattle.format.specs.Word.{is_fill, bus_of, label_of, info_of}
use Rattle.format.specs.Reader.{Slot, Fed, bad, fed, Ran, bad_at, ran, run, more, join, feed, since, begun}
use Rattle.format.specs.Read.{Got, got, stopped, before, onward}
use Rattle.format.specs.declared.Kind.{Kind}
use Rattle.format.specs.declared.Item.{Item}
use Rattle.format.specs.declared.Held.{Held}

pub before_none : (g : Got) → before [] g ≡ g
before_none (got is) = refl
before_none (stopped n p q) = refl

pub before_before : (is js : List Item) (g : Got) → before is (before js g) ≡ before (is ++ js) g
before_before is js (got ks) = ap got (sym (append_assoc is js ks))
before_before is js (stopped n p q) = refl

pub more_none : (r : Ran) → more [] r ≡ r
more_none (bad_at q second) = refl
more_none (ran is h q) = refl

pub more_more : (is js : List Item) (r : Ran) → more is (more js r) ≡ more (is ++ js) r
more_more is js (bad_at p second) = refl
more_more is js (ran ks h p) = ap (λ (l : List Item). ran l h p) (sym (append_assoc is js ks))

-- the run goes on, unless it met a bad word
abbrev pub and_then : Ran → (Held → ℕ → Ran) → Ran
and_then (bad_at p q) go = bad_at p q
and_then (ran is h p) go = more is (go h p)

pub more_then : (is : List Item) (r : Ran) (go : Held → ℕ → Ran) → and_then (more is r) go ≡ more is (and_then r go)
more_then is (bad_at p q) go = refl
more_then is (ran js h p) go = sym (more_more is js (go h p))

pub join_then : (f : Fed) (old second here : ℕ) (go go' : Held → ℕ → Ran) (next : Held → ℕ → Ran) → ((h : Held) (p : ℕ) → go' h p ≡ and_then (go h p) next)
    → join f old second here go' ≡ and_then (join f old second here go) next
join_then bad old second here go go' next e = refl
join_then (fed is h) old second here go go' next e = ap (more is) (e h (since h old here)) ∙ sym (more_then is (go h (since h old here)) next)

pub run_append : (ks : List Kind) (parity : Bool) (ss ts : List Slot) (h : Held) (p : ℕ)
    → run ks parity (ss ++ ts) h p ≡ and_then (run ks parity ss h p) (λ h p. run ks parity ts h p)
unfolding run
run_append ks parity [] ts h p = sym (more_none (run ks parity ts h p))
run_append ks parity (s ∷ ss) ts h p = go (is_fill s.1) (run_append ks parity ss ts)
  where
    f : Fed
    f = feed ks h (bus_of parity s.1) (label_of s.1) (info_of s.1)

    second : ℕ
    second = begun h p s.0

    go : (t : Bool) → ((h : Held) (p : ℕ) → run ks parity (ss ++ ts) h p ≡ and_then (run ks parity ss h p) (λ h p. run ks parity ts h p))
        → cond t (run ks parity (ss ++ ts) h p) (join f p second s.0 (λ h p. run ks parity (ss ++ ts) h p))
        ≡ and_then (cond t (run ks parity ss h p) (join f p second s.0 (λ h p. run ks parity ss h p))) (λ h p. run ks parity ts h p)
    go true ih = ih h p
    go false ih = join_then f p second s.0 (λ h p. run ks parity ss h p) (λ h p. run ks parity (ss ++ ts) h p) (λ h p. run ks parity ts h p) ih

-- what follows a run that goes on
onward_more : (is : List Item) (r : Ran) (k : Held → ℕ → Got) → onward (more is r) k ≡ before is (onward r k)
onward_more is (bad_at p q) k = refl
onward_more is (ran js h p) k = sym (before_before is js (k h p))

onward_then : (r : Ran) (go : Held → ℕ → Ran) (k : Held → ℕ → Got) → onward (and_then r go) k ≡ onward r (λ h p. onward (go h p) k)
onward_then (bad_at p q) go k = refl
onward_then (ran is h p) go k = onward_more is (go h p) k

pub onward_append : (ks : List Kind) (parity : Bool) (ss ts : List Slot) (k : Held → ℕ → Got) (h : Held) (p : ℕ)
    → onward (run ks parity (ss ++ ts) h p) k ≡ onward (run ks parity ss h p) (λ h' p'. onward (run ks parity ts h' p') k)
onward_append ks parity ss ts k h p =
    ap (λ (r : Ran). onward r k) (run_append ks parity ss ts h p) ∙ onward_then (run ks parity ss h p) (λ h' p'. run ks parity ts h' p') k
