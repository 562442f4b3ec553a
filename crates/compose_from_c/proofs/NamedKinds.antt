-- Whether numbers name choices and kinds; and what is answered then.
use Prim.Native.Nat.{ℕ}
use mathlib.Core.Bool.{true, false}
use mathlib.Core.Path.{◌≡◌}
use mathlib.Core.List.{List, map}
use Rattle.format.specs.Compose.{refused}
use Rattle.format.specs.declared.Kind.{Kind}
use Rattle.format.specs.declared.Plan.{Plan}
use Rattle.from_c.specs.Numbers.{kind_of, named, plan_from}
use Rattle.compose_from_c.specs.Composing.{composed_bytes, composed_from}

module _ (words tracks time crc parity label code : ℕ) (kinds : List ℕ) where
  pub composed_unnamed : (log times : List ℕ) (room : ℕ) → named time crc parity kinds ≡ false
      → composed_from words tracks time crc parity label code kinds log times room ≡ refused 1 0
  unfolding composed_from
  composed_unnamed log times room e = rw e

  module _ (p : Plan) (ks : List Kind) (e : named time crc parity kinds ≡ true)
      (a : p ≡ plan_from words tracks time crc parity label code) (b : ks ≡ map kind_of kinds) where
    pub composed_named : (log times : List ℕ) (room : ℕ) → composed_from words tracks time crc parity label code kinds log times room ≡ composed_bytes p ks log times room
    unfolding composed_from
    composed_named log times room = rw (e, a, b)
