-- What is told of the log that was put, as the row of pick.
use Prim.Native.Nat.{ℕ, ◌+◌, ◌*◌, ◌≤◌}
use native.Mathlib.Omega.{arith}
use mathlib.Core.Path.{◌≡◌, refl}
use mathlib.Core.List.{List}
use Rattle.format.specs.Log.{Parsed, items, fault, on_no_plan, parsed}
use Rattle.log_rules.specs.Pick.{keep, log_in, of_items, on_buses, picked}
use Rattle.log_write.specs.Pen.{closed_size}
use Rattle.log_put.specs.Put.{Told}
use Rattle.log_put.specs.declared.Put.{Put}
use Rattle.log_close.specs.Made.{Finishable, made_of, StandsIn}
use Rattle.log_edit.specs.Rows.{picks_of}

-- what is told of a log stands in the array
pub told_stands : (row : Parsed) (set most : ℕ) (built : List ℕ) (put : Put) → Told row set most built put → StandsIn (picks_of set row) most built put
told_stands (items is) set most built put (p, e, h, f, x) = (p, e, omega arith, f, x)
told_stands (fault n q) set most built put t = t

pub told_finishes : (row : Parsed) (set n room : ℕ) (built : List ℕ) (put : Put) → Told row set (n * 8) built put → (n ≤ 32768 → n + 8 ≤ room) → Finishable put room
unfolding closed_size
told_finishes (items is) set n room built put (p, e, h, f, x) g = rw e (omega (arith, f), λ z. omega (arith, f, g (omega arith)))
told_finishes (fault m q) set n room built put t g = rw t tt

pub picked_is : (log : List ℕ) (set room : ℕ) → picked log set room ≡ made_of room (picks_of set (parsed on_no_plan log))
unfolding picked
picked_is log set room = go (parsed on_no_plan log)
  where
    go : (r : Parsed) → of_items r (λ is. log_in room (keep (on_buses set) is)) ≡ made_of room (picks_of set r)
    go (items is) = refl
    go (fault n q) = refl
