-- The first mark in a log, and the whole verdict.
use Prim.Native.Nat.{ℕ, ◌+◌, ◌*◌, ◌≤◌}
use native.Mathlib.Omega.{arith}
use mathlib.Core.Bool.{Bool, true, false, cond}
use mathlib.Core.Path.{◌≡◌, refl, ap, sym, ◌∙◌}
use mathlib.Core.List.{List, [], ◌∷◌}
use lib.ListN.{length}
use Rattle.format.specs.Bits.{bytes_bits}
use Rattle.format.specs.Item.{item_bits}
use Rattle.format.specs.Log.{next_at, ends, wrong, Parsed, parsed, items, fault, on_no_plan}
use Rattle.format.specs.Group.{Fault, none, found, or_else, unless}
use Rattle.format.specs.declared.Item.{Item}
use Rattle.log_rules.specs.Items.{items_of}
use Rattle.log_rules.specs.Replay.{first_mark, is_mark}
use Rattle.log_rules.specs.Laws.Ahead.{Ahead, ahead_start, ahead_has, ahead_end, ahead_wrong, next_bit}
use Rattle.log_read.specs.declared.Tally.{Tally}
use Rattle.log_read.specs.declared.Tally.TheVariants.{Items, Fault as Faulty}
use Rattle.log_read.specs.Tally.{tallied_of}
use Rattle.log_read.proofs.Parsing.{Follows}
use Rattle.log_buffer.specs.Level.{load_of}
use Rattle.log_buffer.proofs.Loads.{load_mark}
use Rattle.log_events.specs.declared.Verdict.{Verdict}
use Rattle.log_events.specs.declared.Verdict.TheVariants.{May, Not}
use Rattle.log_events.specs.Refused.{first_of, judged_by, refused_by, verdict_of}

-- how far the search is
pub record Looking (log : List ℕ) (place : ℕ) : Type 0 where
  pub rest : List Item
  pub ahead : Ahead on_no_plan log place rest
  pub same : first_mark 0 (items_of (parsed on_no_plan log)) ≡ first_mark place rest
  pub fits : place ≤ length log * 8

pub looking_start : (log : List ℕ) → length log ≤ 32768 → parsed on_no_plan log ≡ items (items_of (parsed on_no_plan log)) → Looking log 0
looking_start log h e = record {
  rest = items_of (parsed on_no_plan log);
  ahead = ahead_start on_no_plan log (items_of (parsed on_no_plan log)) h e;
  same = refl;
  fits = omega arith;
}

mark_here : (p : ℕ) (i : Item) (is : List Item) → is_mark i ≡ true → first_mark p (i ∷ is) ≡ found 19 p
unfolding first_mark
mark_here p i is e = rw e refl

mark_later : (p : ℕ) (i : Item) (is : List Item) → is_mark i ≡ false → first_mark p (i ∷ is) ≡ first_mark (p + length (item_bits i)) is
unfolding first_mark
mark_later p i is e = rw e refl

mark_none : (p : ℕ) → first_mark p [] ≡ none
unfolding first_mark
mark_none p = refl

module _ {log : List ℕ} {place : ℕ} (k : Looking log place) where
  pub looking_more : (i : Item) (q : ℕ) → Follows log place i q → (load_of i).mark ≡ false → Looking log q
  looking_more i q f e =
      let a = ahead_has on_no_plan log i q k.ahead f.next in
      let n : q ≡ place + length (item_bits i) = next_bit (bytes_bits log) place i q f.next in
      record {
        rest = a.rest;
        ahead = a.ahead;
        same = k.same ∙ ap (first_mark place) a.row ∙ mark_later place i a.rest (sym (load_mark i) ∙ e) ∙ ap (λ (m : ℕ). first_mark m a.rest) (sym n);
        fits = f.fits;
      }

  pub looking_mark : (i : Item) (q : ℕ) → Follows log place i q → (load_of i).mark ≡ true → first_mark 0 (items_of (parsed on_no_plan log)) ≡ found 19 place
  looking_mark i q f e =
      let a = ahead_has on_no_plan log i q k.ahead f.next in
      k.same ∙ ap (first_mark place) a.row ∙ mark_here place i a.rest (sym (load_mark i) ∙ e)

  pub looking_over : next_at (bytes_bits log) place ≡ ends → first_mark 0 (items_of (parsed on_no_plan log)) ≡ none
  looking_over e = k.same ∙ ap (first_mark place) (ahead_end on_no_plan log k.ahead e) ∙ mark_none place

  pub looking_never : next_at (bytes_bits log) place ≡ wrong → ⊥
  looking_never e = ahead_wrong on_no_plan log k.ahead e

-- ---- the verdict

pub may_none : (f : Fault) → May ≡ verdict_of f → f ≡ none
may_none none e = refl
may_none (found n p) e = let z : ◌≡◌ {A = ℕ} 0 1 = cc in absurd (omega arith)

pub not_found : (f : Fault) (n p : ℕ) → Not n p ≡ verdict_of f → f ≡ found n p
not_found none n p e = let z : ◌≡◌ {A = ℕ} 0 1 = cc in absurd (omega arith)
not_found (found m q) n p e = cc

pub first_verdict : (f : Fault) (b : Bool) → first_of (verdict_of f) b ≡ verdict_of (or_else f (unless b 19 0))
first_verdict none true = refl
first_verdict none false = refl
first_verdict (found n p) true = refl
first_verdict (found n p) false = refl

-- a log that is tallied parses, and its items are counted
pub tallied : (log : List ℕ) (t : Tally) (n w : ℕ) → t ≡ tallied_of (parsed on_no_plan log) → t ≡ Items n w
    → (parsed on_no_plan log ≡ items (items_of (parsed on_no_plan log))) × (n ≡ length (items_of (parsed on_no_plan log)))
tallied log t n w e g = go (parsed on_no_plan log) (sym g ∙ e)
  where
    same : (m v : ℕ) → Items n w ≡ Items m v → n ≡ m
    same m v h = cc

    go : (r : Parsed) → Items n w ≡ tallied_of r → (r ≡ items (items_of r)) × (n ≡ length (items_of r))
    go (items is) h = (refl, same _ _ h)
    go (fault k p) h = let z : ◌≡◌ {A = ℕ} 0 1 = cc in absurd (omega arith)

pub judged_refused : (events : List ℕ) (capacity slots : ℕ) (r : Parsed) (n : ℕ) → r ≡ items (items_of r) → n ≡ length (items_of r)
    → judged_by events capacity slots (items_of r) n ≡ refused_by events capacity slots r
judged_refused events capacity slots (items is) n e g = rw g refl
judged_refused events capacity slots (fault m p) n e g = let z : ◌≡◌ {A = ℕ} 0 1 = cc in absurd (omega arith)

pub faulty_refused : (log : List ℕ) (t : Tally) (n p : ℕ) → t ≡ tallied_of (parsed on_no_plan log) → t ≡ Faulty n p
    → (events : List ℕ) (capacity slots : ℕ) → refused_by events capacity slots (parsed on_no_plan log) ≡ found n p
faulty_refused log t n p e g events capacity slots = go (parsed on_no_plan log) (sym g ∙ e)
  where
    go : (r : Parsed) → Faulty n p ≡ tallied_of r → refused_by events capacity slots r ≡ found n p
    go (items is) h = let z : ◌≡◌ {A = ℕ} 0 1 = cc in absurd (omega arith)
    go (fault k q) h = cc
