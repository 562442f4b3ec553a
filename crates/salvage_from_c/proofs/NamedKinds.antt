-- Whether numbers name choices and kinds; and what is answered then.
use Prim.Native.Nat.{ℕ, ◌/◌}
use mathlib.Core.Bool.{true, false}
use mathlib.Core.Path.{◌≡◌}
use mathlib.Core.List.{List, map}
use Rattle.format.specs.declared.Kind.{Kind}
use Rattle.format.specs.declared.Plan.{Plan}
use Rattle.salvage_rules.specs.Salvage.{forgoes, salvaged}
use Rattle.from_c.specs.Numbers.{kind_of, named, plan_from}
use Rattle.salvage_from_c.specs.Salvaging.{salvaged_from}

module _ (words tracks time crc parity label code : ℕ) (kinds c : List ℕ) (log_room room reportRoom : ℕ) where
  pub salvage_unnamed : named time crc parity kinds ≡ false → salvaged_from words tracks time crc parity label code kinds c log_room room reportRoom ≡ forgoes 1 0
  unfolding salvaged_from
  salvage_unnamed e = rw e

  pub salvage_named : (p : Plan) (ks : List Kind) → named time crc parity kinds ≡ true → p ≡ plan_from words tracks time crc parity label code → ks ≡ map kind_of kinds
      → salvaged_from words tracks time crc parity label code kinds c log_room room reportRoom ≡ salvaged p ks c log_room (room / 8) reportRoom
  unfolding salvaged_from
  salvage_named p ks e a b = rw (e, a, b)
