-- "13 (also for a number above 24 bits)" (document 02, K3): its place, and its second place (K8).
use Rattle.std.specs.Prelude.{ℕ, zero, suc, ◌+◌, ◌^◌, ◌≤◌, ◌<◌, Bool, true, ◌≡◌, refl, List, [], ◌∷◌, ◌++◌, length, ltb, leb}
use Rattle.std.proofs.Common.{arith, ap, sym, ◌∙◌, le-ltb, le-leb}
use Rattle.format.specs.Plan.{legal}
use Rattle.format.specs.Lists.{All, nil, cons}
use Rattle.format.specs.Reader.{bad, run, Ran, bad_at, ran, begun, Slot, counted}
use Rattle.format.specs.Read.{refuses, onward, finish}
use Rattle.capture_rules.specs.Split.{run_numbers, items_settled, items_read}
use Rattle.capture_rules.specs.Laws.Split.Places.{Small, numbers_after}
use Rattle.capture_rules.proofs.Laws.Split.Whole.{counted_small}
use Rattle.format.specs.declared.Kind.{Kind}
use Rattle.format.specs.declared.Item.{Item}
use Rattle.format.specs.declared.Plan.{Plan}
use Rattle.format.specs.declared.Held.{Held}
use Rattle.format.specs.declared.Held.TheVariants.{Nothing}
use Rattle.format.specs.Laws.Reader.Counted.{counted_append}
use Rattle.format.proofs.Laws.Reader.Onward.{and_then}

-- after slots that run, a number above 24 bits is bad, and what is held then says its second place
pub large_stops : (ks : List Kind) (parity : Bool) (ss ts : List Slot) → Small ss → (i w : ℕ) → 2 ^ 24 ≤ w → (h : Held) (p : ℕ) (is : List Item) (h' : Held) (p' : ℕ)
    → run ks parity ss h p ≡ ran is h' p' → run_numbers ks parity (ss ++ (i, w) ∷ ts) h p ≡ bad_at i (begun h' p' i)
unfolding run_numbers
large_stops ks parity ss ts a i w l h p is h' p' e =
    numbers_after ks parity ss ((i, w) ∷ ts) a h p ∙ ap (λ (r : Ran). and_then r (λ h p. run_numbers ks parity ((i, w) ∷ ts) h p)) e
    ∙ rw (le-ltb _ _ l)

-- of the words that the second operation was given
pub large_refused : (p : Plan) (ks : List Kind) (ws vs : List ℕ) (w log_room : ℕ) → legal p ks ≡ true → length (ws ++ w ∷ vs) ≤ 349525
    → All (λ n. n < 2 ^ 24) ws → 2 ^ 24 ≤ w → (is : List Item) (h : Held) (at : ℕ) → run ks p.parity (counted 0 ws) Nothing 0 ≡ ran is h at
    → items_read p ks (ws ++ w ∷ vs) log_room ≡ refuses 13 (length ws) (begun h at (length ws))
unfolding items_read counted
large_refused p ks ws vs w log_room l few small large is h at e =
    let z : 0 + length ws ≡ length ws = omega arith in
    let c : counted 0 (ws ++ w ∷ vs) ≡ counted 0 ws ++ (length ws, w) ∷ counted (length ws + 1) vs =
    counted_append 0 ws (w ∷ vs) ∙ ap (λ (k : ℕ). counted 0 ws ++ counted k (w ∷ vs)) z in
    let s : run_numbers ks p.parity (counted 0 (ws ++ w ∷ vs)) Nothing 0 ≡ bad_at (length ws) (begun h at (length ws)) =
    ap (λ (x : List Slot). run_numbers ks p.parity x Nothing 0) c
    ∙ large_stops ks p.parity (counted 0 ws) (counted (length ws + 1) vs) (counted_small 0 ws small) (length ws) w large Nothing 0 is h at e in
    rw (l, le-leb _ _ few) (ap (λ (r : Ran). items_settled log_room (counted 0 (ws ++ w ∷ vs)) (onward r finish)) s)
