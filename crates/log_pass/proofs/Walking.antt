-- A walk over a log goes on by an item that was found as bits, or ends there.
use Prim.Native.Nat.{ℕ, ◌+◌, ◌*◌, ◌≤◌, ◌<◌}
use native.Mathlib.Omega.{arith}
use mathlib.Core.Bool.{Bool, true, false, not}
use mathlib.Core.Path.{◌≡◌, refl, ap, sym, ◌∙◌}
use mathlib.Core.List.{List, [], ◌∷◌, ◌++◌}
use lib.ListN.{length}
use Rattle.format.specs.Bits.{bytes_bits}
use Rattle.format.specs.Log.{next_at, ends, wrong, fault, parsed, on_no_plan}
use Rattle.format.specs.Laws.Tests.{clash}
use Rattle.format.specs.declared.Item.{Item}
use Rattle.log_rules.specs.Laws.Checking.{Walk, walk_start, walk_more, walk_over, walk_wrong, walk_fault, walk_far, walk_bit, walk_long}
use Rattle.log_walk.specs.Piece.{times_in}
use Rattle.log_walk.proofs.Items.{Holds}
use Rattle.log_write.specs.declared.Packed.{Packed}
use Rattle.log_pass.specs.Pass.{Passing, pass_of}
use Rattle.log_pass.specs.declared.Passed.TheVariants.{All, Fault}

pub not_true : (b : Bool) → not b ≡ true → b ≡ false
not_true false e = refl
not_true true e = clash e

pub not_false : (b : Bool) → not b ≡ false → b ≡ true
not_false true e = refl
not_false false e = clash (sym e)

-- an item that was found where the walk stands
module _ {log : List ℕ} {past : List Item} {place : ℕ} (w : Walk on_no_plan log past place) {k : Packed} (h : Holds log place k) where
  next_is : place + (k.first_bits + k.behind_bits) ≡ h.next
  next_is = ap (λ (n : ℕ). place + n) (sym h.long) ∙ sym (walk_bit on_no_plan log w h.item h.next h.stands)

  pub next_fits : place + (k.first_bits + k.behind_bits) ≤ length log * 8
  next_fits = rw next_is (walk_far on_no_plan log w h.item h.next h.stands).1

  pub walk_item : times_in k ≡ true → Walk on_no_plan log (past ++ h.item ∷ []) (place + (k.first_bits + k.behind_bits))
  walk_item t =
      let c : on_no_plan h.item ≡ 0 = rw (sym h.times ∙ t) refl in
      rw next_is (walk_more on_no_plan log w h.item h.next h.stands c)

  -- answer 4
  pub walk_late : times_in k ≡ false → parsed on_no_plan log ≡ fault 4 place
  walk_late t =
      let c : on_no_plan h.item ≡ 4 = rw (sym h.times ∙ t) refl in
      walk_fault on_no_plan log w h.item h.next h.stands (λ z. absurd (omega arith)) ∙ ap (λ (n : ℕ). fault n place) c

-- ---- a log that is only looked at

pub passing_start : (log : List ℕ) → length log ≤ 32768 → Passing log 0
passing_start log h = record { past = []; walk = walk_start on_no_plan log h }

pub pass_long : (log : List ℕ) → 32768 < length log → Fault 2 0 ≡ pass_of (parsed on_no_plan log)
pass_long log h = rw (walk_long on_no_plan log h) refl

module _ {log : List ℕ} {place : ℕ} (w : Passing log place) where
  pub passing_fits : place ≤ length log * 8
  passing_fits = w.walk.fits

  pub passing_item : {k : Packed} → Holds log place k → times_in k ≡ true → Passing log (place + (k.first_bits + k.behind_bits))
  passing_item h t = record { past = w.past ++ h.item ∷ []; walk = walk_item w.walk h t }

  pub pass_late : {k : Packed} → Holds log place k → times_in k ≡ false → Fault 4 place ≡ pass_of (parsed on_no_plan log)
  pass_late h t = rw (walk_late w.walk h t) refl

  pub pass_wrong : next_at (bytes_bits log) place ≡ wrong → Fault 2 place ≡ pass_of (parsed on_no_plan log)
  pass_wrong n = rw (walk_wrong on_no_plan log w.walk n) refl

  pub pass_over : next_at (bytes_bits log) place ≡ ends → All place ≡ pass_of (parsed on_no_plan log)
  pass_over n = rw (walk_over on_no_plan log w.walk n) (ap All w.walk.at)
