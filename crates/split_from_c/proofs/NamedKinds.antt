-- Whether numbers name choices and kinds; and what is answered then.
use Prim.Native.Nat.{ℕ, ◌/◌}
use mathlib.Core.Bool.{true, false}
use mathlib.Core.Path.{◌≡◌}
use mathlib.Core.List.{List, map}
use Rattle.format.specs.Read.{refuses}
use Rattle.format.specs.declared.Kind.{Kind}
use Rattle.format.specs.declared.Plan.{Plan}
use Rattle.capture_rules.specs.Split.{words_read, items_read}
use Rattle.from_c.specs.Numbers.{kind_of, named, plan_from}
use Rattle.split_from_c.specs.Splitting.{words_from, items_from}

module _ (words tracks time crc parity label code : ℕ) (kinds : List ℕ) where
  pub words_unnamed : (c : List ℕ) (wordRoom room : ℕ) → named time crc parity kinds ≡ false
      → words_from words tracks time crc parity label code kinds c wordRoom room ≡ refuses 1 0 0
  unfolding words_from
  words_unnamed c wordRoom room e = rw e

  pub items_unnamed : (ws : List ℕ) (log_room : ℕ) → named time crc parity kinds ≡ false
      → items_from words tracks time crc parity label code kinds ws log_room ≡ refuses 1 0 0
  unfolding items_from
  items_unnamed ws log_room e = rw e

  module _ (p : Plan) (ks : List Kind) (e : named time crc parity kinds ≡ true)
      (a : p ≡ plan_from words tracks time crc parity label code) (b : ks ≡ map kind_of kinds) where
    pub words_named : (c : List ℕ) (wordRoom room : ℕ)
        → words_from words tracks time crc parity label code kinds c wordRoom room ≡ words_read p ks c wordRoom (room / 8)
    unfolding words_from
    words_named c wordRoom room = rw (e, a, b)

    pub items_named : (ws : List ℕ) (log_room : ℕ) → items_from words tracks time crc parity label code kinds ws log_room ≡ items_read p ks ws log_room
    unfolding items_from
    items_named ws log_room = rw (e, a, b)
