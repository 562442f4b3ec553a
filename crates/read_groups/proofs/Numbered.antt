-- Fill told by numbers: the same fill as by its stored places; and how great numbers are.
use Prim.Native.Nat.{ℕ, zero, suc, ◌+◌, ◌≤◌, ◌<◌}
use native.Mathlib.Numerals.{add-one}
use native.Mathlib.Omega.{arith}
use mathlib.Core.Bool.{Bool, true, false, cond}
use mathlib.Core.Path.{◌≡◌, refl, sym, ap, ap₂, ◌∙◌}
use mathlib.Core.List.{List, [], ◌∷◌, map}
use lib.ListN.{length}
use lib.Dec.{eqb}
use borrow.Author.Tests.{ne_eqb}
use Rattle.format.specs.Lists.{list, All, nil, cons}
use Rattle.format.specs.Word.{is_fill, bus_of}
use Rattle.format.specs.Plan.{slots, stored_at}
use Rattle.format.specs.Reader.{Slot, Ran, bad_at, ran, counted}
use Rattle.format.specs.Read.{misplaced}
use Rattle.format.specs.Laws.Lists.{all_map}
use Rattle.format.proofs.Laws.Reader.Named.{named, slots_counted, RanIn}
use Rattle.format.specs.declared.Plan.{Plan}
use Rattle.data_run.specs.declared.Pass.{Pass}
use Rattle.data_run.specs.declared.fill.Fills.{Fills}
use Rattle.data_run.specs.Fills.{on_slot, on_fill, or_place, odd_fill, fills_in, no_fill}
use Rattle.data_run.specs.Pass.{RanTo}
use Rattle.read_groups.specs.Misplaced.{fills_over, numbers_of, numbers_on, told, place_up, earliest}
use Rattle.read_groups.specs.Groups.{groups_on}
use Rattle.read_groups.proofs.Misplaced.{fills_say_misplaced}

-- ---- fill told otherwise

abbrev placed : (ℕ → ℕ) → Fills → Fills
placed f x = record { first = place_up f x.first; misplaced = place_up f x.misplaced }

or_placed : (f : ℕ → ℕ) (old here : ℕ) → or_place (place_up f old) (f here) ≡ place_up f (or_place old here)
or_placed f zero here = add-one (f here) ∙ sym (ap (place_up f) (add-one here))
or_placed f (suc n) here =
    ap (λ (b : Bool). cond b (f here + 1) (suc (f n))) (one_up (f n)) ∙ sym (ap (λ (b : Bool). place_up f (cond b (here + 1) (suc n))) (one_up n))
  where
    one_up : (a : ℕ) → eqb (suc a) 0 ≡ false
    one_up a = ne_eqb (suc a) 0 (λ e. absurd (omega arith))

fill_placed : (f : ℕ → ℕ) (x : Fills) (here : ℕ) (odd : Bool) → on_fill (placed f x) (f here) odd ≡ placed f (on_fill x here odd)
fill_placed f x here true =
    ap₂ (λ (a b : ℕ). record { first = a; misplaced = b }) (or_placed f x.first here) (or_placed f x.misplaced here)
fill_placed f x here false = ap (λ (a : ℕ). record { first = a; misplaced = place_up f x.misplaced }) (or_placed f x.first here)

module _ (parity : Bool) (code : ℕ) (f : ℕ → ℕ) where
  slot_placed : (i : ℕ) (s : Slot) (x : Fills) → on_slot parity code i (named f s) (placed f x) ≡ placed f (on_slot parity code i s x)
  slot_placed i s x = go (is_fill s.1)
    where
      odd : Bool
      odd = odd_fill code i (bus_of parity s.1)

      go : (b : Bool)
          → cond b (on_fill (placed f x) (f s.0) odd) (record { first = (placed f x).first; misplaced = (placed f x).first })
          ≡ placed f (cond b (on_fill x s.0 odd) (record { first = x.first; misplaced = x.first }))
      go true = fill_placed f x s.0 odd
      go false = refl

  fills_placed : (i : ℕ) (ss : List Slot) (x : Fills) → fills_in parity code i (map (named f) ss) (placed f x) ≡ placed f (fills_in parity code i ss x)
  unfolding fills_in
  fills_placed i [] x = refl
  fills_placed i (s ∷ ss) x = ap (fills_in parity code (i + 1) (map (named f) ss)) (slot_placed i s x) ∙ fills_placed (i + 1) ss (on_slot parity code i s x)

-- group by group
module _ (p : Plan) (c : List ℕ) (some : 1 ≤ slots p) where
  over_placed : (n g : ℕ) (x : Fills) → fills_over p (groups_on p c g n) (placed (stored_at p) x) ≡ placed (stored_at p) (fills_over p (numbers_on p c g n) x)
  unfolding fills_over list
  over_placed zero g x = refl
  over_placed (suc n) g x =
      ap (λ (ss : List Slot). fills_over p (groups_on p c (g + 1) n) (fills_in p.parity p.fill_bus 0 ss (placed (stored_at p) x))) (slots_counted p c some g)
      ∙ ap (fills_over p (groups_on p c (g + 1) n)) (fills_placed p.parity p.fill_bus (stored_at p) 0 (numbers_of p c g) x)
      ∙ over_placed n (g + 1) (fills_in p.parity p.fill_bus 0 (numbers_of p c g) x)

  -- the number of the earliest misplaced fill says its place
  pub numbers_say_misplaced : (n : ℕ) → told (place_up (stored_at p) (fills_over p (numbers_on p c 0 n) no_fill).misplaced) ≡ misplaced p (groups_on p c 0 n)
  numbers_say_misplaced n = sym (ap earliest (over_placed n 0 no_fill)) ∙ fills_say_misplaced p (groups_on p c 0 n)

-- ---- numbers are below those of the words to come

pub counted_below : (N n : ℕ) (ws : List ℕ) → n + length ws ≤ N → All (λ (s : Slot). s.0 < N) (counted n ws)
unfolding counted
counted_below N n [] h = nil
counted_below N n (w ∷ ws) h = cons {a = (n, w)} (omega arith) (counted_below N (n + 1) ws (omega arith))

pub counted_within : (N n : ℕ) (ws : List ℕ) → n + length ws ≤ N → All (λ (s : Slot). s.0 ≤ N) (counted n ws)
counted_within N n ws h = all_map (λ s l. omega (arith, l)) (counted_below N n ws h)

abbrev pub Few : ℕ → Fills → Type 0
Few N x = (x.first ≤ N) × (x.misplaced ≤ N)

or_few : (N old here : ℕ) → here < N → old ≤ N → or_place old here ≤ N
or_few N old here h l = go (eqb old 0)
  where
    go : (b : Bool) → cond b (here + 1) old ≤ N
    go true = omega arith
    go false = l

slot_few : (N : ℕ) (parity : Bool) (code i : ℕ) (s : Slot) (x : Fills) → s.0 < N → Few N x → Few N (on_slot parity code i s x)
slot_few N parity code i s x h a = go (is_fill s.1) (odd_fill code i (bus_of parity s.1))
  where
    go : (b odd : Bool) → Few N (cond b (on_fill x s.0 odd) (record { first = x.first; misplaced = x.first }))
    go true true = (or_few N x.first s.0 h a.0, or_few N x.misplaced s.0 h a.1)
    go true false = (or_few N x.first s.0 h a.0, a.1)
    go false odd = (a.0, a.0)

pub fills_few : (N : ℕ) (parity : Bool) (code i : ℕ) (ss : List Slot) (x : Fills) → All (λ (s : Slot). s.0 < N) ss → Few N x → Few N (fills_in parity code i ss x)
unfolding fills_in
fills_few N parity code i [] x nil a = a
fills_few N parity code i (s ∷ ss) x (cons h all) a = fills_few N parity code (i + 1) ss (on_slot parity code i s x) all (slot_few N parity code i s x h a)

-- and so are those that a run tells of
pub ran_low : (N : ℕ) (x r : Pass) (out out' : List ℕ) (y : Ran) (f : Fills) → RanIn (λ q. q ≤ N) y → RanTo x out y f r out' → (r.since ≤ N) × (r.bad ≤ N + 1)
ran_low N x r out out' (bad_at q s) f a m = (rw m.1 a.1, omega (arith, m.0, a.0))
ran_low N x r out out' (ran is h q) f a m = (rw m.2 a, omega (arith, m.0.sound.good))
