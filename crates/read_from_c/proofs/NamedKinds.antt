-- Whether numbers name choices and kinds; and what is answered then.
use Prim.Native.Nat.{ℕ, ◌/◌}
use mathlib.Core.Bool.{Bool, true, false}
use mathlib.Core.Path.{◌≡◌}
use mathlib.Core.List.{List, map}
use Rattle.format.specs.Read.{reading, refuses}
use Rattle.format.specs.declared.Kind.{Kind}
use Rattle.format.specs.declared.Plan.{Plan}
use Rattle.from_c.specs.Numbers.{kind_of, named, plan_from}
use Rattle.read_from_c.specs.Reading.{reading_from}

module _ (words tracks time crc parity label code : ℕ) (kinds : List ℕ) where
  pub read_unnamed : (closed : Bool) (c : List ℕ) (log_room room : ℕ) → named time crc parity kinds ≡ false
      → reading_from closed words tracks time crc parity label code kinds c log_room room ≡ refuses 1 0 0
  unfolding reading_from
  read_unnamed closed c log_room room e = rw e

  module _ (p : Plan) (ks : List Kind) (e : named time crc parity kinds ≡ true)
      (a : p ≡ plan_from words tracks time crc parity label code) (b : ks ≡ map kind_of kinds) where
    pub read_named : (closed : Bool) (c : List ℕ) (log_room room : ℕ)
        → reading_from closed words tracks time crc parity label code kinds c log_room room ≡ reading closed p ks c log_room (room / 8)
    unfolding reading_from
    read_named closed c log_room room = rw (e, a, b)
