-- The items judged one by one, and the call.
use Prim.Native.Nat.{ℕ, ◌+◌, ◌*◌, ◌≤◌}
use native.Mathlib.Omega.{arith}
use mathlib.Core.Bool.{Bool, true, false, cond}
use mathlib.Core.Path.{◌≡◌, refl, ap, sym, ◌∙◌}
use mathlib.Core.List.{List, [], ◌∷◌}
use lib.ListN.{length}
use Rattle.format.specs.Bits.{bytes_bits}
use Rattle.format.specs.Item.{item_bits}
use Rattle.format.specs.Log.{next_at, ends, wrong, Parsed, parsed, items, fault, on_no_plan}
use Rattle.format.specs.Group.{none, found}
use Rattle.format.specs.declared.Item.{Item}
use Rattle.log_rules.specs.Items.{items_of}
use Rattle.log_rules.specs.Profile.{in_profile, first_break, profile_parsed, profiled}
use Rattle.log_rules.specs.Laws.Ahead.{Ahead, ahead_start, ahead_has, ahead_end, ahead_wrong, next_bit}
use Rattle.log_read.specs.declared.Tally.{Tally}
use Rattle.log_read.specs.declared.Tally.TheVariants.{Items, Fault as Faulty}
use Rattle.log_read.specs.Tally.{tallied_of}
use Rattle.log_read.proofs.Parsing.{Follows}
use Rattle.log_check.specs.Role.{after_by, nothing_seen, passes_by, role_of}
use Rattle.log_check.specs.declared.Seen.{Seen}
use Rattle.log_check.proofs.Carried.{Tie, passes_tie, tie_next, tie_none}

-- ---- the loop

-- how far the judging is: the items before, those ahead, and what is carried along
pub record Judging (log : List ℕ) (place : ℕ) (s : Seen) : Type 0 where
  pub before : List Item
  pub rest : List Item
  pub ahead : Ahead on_no_plan log place rest
  pub same : first_break [] 0 (items_of (parsed on_no_plan log)) ≡ first_break before place rest
  pub tie : Tie before s
  pub fits : place ≤ length log * 8

pub judging_start : (log : List ℕ) → length log ≤ 32768 → parsed on_no_plan log ≡ items (items_of (parsed on_no_plan log))
    → Judging log 0 nothing_seen
judging_start log h e = record {
  before = [];
  rest = items_of (parsed on_no_plan log);
  ahead = ahead_start on_no_plan log (items_of (parsed on_no_plan log)) h e;
  same = refl;
  tie = tie_none;
  fits = omega arith;
}

break_here : (before : List Item) (p : ℕ) (i : Item) (is : List Item) → in_profile before i ≡ false → first_break before p (i ∷ is) ≡ found 18 p
unfolding first_break
break_here before p i is e = rw e refl

break_later : (before : List Item) (p : ℕ) (i : Item) (is : List Item) → in_profile before i ≡ true → first_break before p (i ∷ is) ≡ first_break (i ∷ before) (p + length (item_bits i)) is
unfolding first_break
break_later before p i is e = rw e refl

break_none : (before : List Item) (p : ℕ) → first_break before p [] ≡ none
unfolding first_break
break_none before p = refl

pub judging_more : {log : List ℕ} {place : ℕ} {s : Seen} (i : Item) (q : ℕ) → Judging log place s → Follows log place i q → passes_by s (role_of i) ≡ true
    → Judging log q (after_by s (role_of i))
judging_more {log} {place} {s} i q k f e =
    let a = ahead_has on_no_plan log i q k.ahead f.next in
    let n : q ≡ place + length (item_bits i) = next_bit (bytes_bits log) place i q f.next in
    record {
      before = i ∷ k.before;
      rest = a.rest;
      ahead = a.ahead;
      same = k.same ∙ ap (first_break k.before place) a.row ∙ break_later k.before place i a.rest (sym (passes_tie k.tie i) ∙ e)
          ∙ ap (λ (m : ℕ). first_break (i ∷ k.before) m a.rest) (sym n);
      tie = tie_next k.tie i;
      fits = f.fits;
    }

pub judging_breaks : {log : List ℕ} {place : ℕ} {s : Seen} (i : Item) (q : ℕ) → Judging log place s → Follows log place i q → passes_by s (role_of i) ≡ false
    → first_break [] 0 (items_of (parsed on_no_plan log)) ≡ found 18 place
judging_breaks {log} {place} {s} i q k f e =
    let a = ahead_has on_no_plan log i q k.ahead f.next in
    k.same ∙ ap (first_break k.before place) a.row ∙ break_here k.before place i a.rest (sym (passes_tie k.tie i) ∙ e)

pub judging_over : {log : List ℕ} {place : ℕ} {s : Seen} → Judging log place s → next_at (bytes_bits log) place ≡ ends → first_break [] 0 (items_of (parsed on_no_plan log)) ≡ none
judging_over {log} {place} {s} k e = k.same ∙ ap (first_break k.before place) (ahead_end on_no_plan log k.ahead e) ∙ break_none k.before place

pub judging_never : {log : List ℕ} {place : ℕ} {s : Seen} → Judging log place s → next_at (bytes_bits log) place ≡ wrong → ⊥
judging_never {log} k e = ahead_wrong on_no_plan log k.ahead e

-- ---- the call

pub profiled_judged : (log : List ℕ) → parsed on_no_plan log ≡ items (items_of (parsed on_no_plan log)) → profiled log ≡ first_break [] 0 (items_of (parsed on_no_plan log))
unfolding profiled
profiled_judged log e = go (parsed on_no_plan log) e
  where
    go : (r : Parsed) → r ≡ items (items_of r) → profile_parsed r ≡ first_break [] 0 (items_of r)
    go (items is) e = refl
    go (fault n p) e = let z : ◌≡◌ {A = ℕ} 0 1 = cc in absurd (omega arith)

pub profiled_refused : (log : List ℕ) (n p : ℕ) (t : Tally) → t ≡ tallied_of (parsed on_no_plan log) → t ≡ Faulty n p → profiled log ≡ found n p
unfolding profiled
profiled_refused log n p t e g = go (parsed on_no_plan log) (sym g ∙ e)
  where
    go : (r : Parsed) → Faulty n p ≡ tallied_of r → profile_parsed r ≡ found n p
    go (items is) h = let z : ◌≡◌ {A = ℕ} 0 1 = cc in absurd (omega arith)
    go (fault k q) h = cc

-- a log that is tallied parses
pub tallied : (log : List ℕ) (t : Tally) (n w : ℕ) → t ≡ tallied_of (parsed on_no_plan log) → t ≡ Items n w → parsed on_no_plan log ≡ items (items_of (parsed on_no_plan log))
tallied log t n w e g = go (parsed on_no_plan log) (sym g ∙ e)
  where
    go : (r : Parsed) → Items n w ≡ tallied_of r → r ≡ items (items_of r)
    go (items is) h = refl
    go (fault k p) h = let z : ◌≡◌ {A = ℕ} 0 1 = cc in absurd (omega arith)
