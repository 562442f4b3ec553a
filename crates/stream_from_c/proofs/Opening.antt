-- Whether numbers name a plan, and what the opening answers then.
use Prim.Native.Nat.{ℕ}
use mathlib.Core.Bool.{Bool, true, false, cond}
use mathlib.Core.Path.{◌≡◌, refl, ap, sym, ◌∙◌}
use mathlib.Core.List.{List, map}
use lib.ListN.{length}
use lib.Dec.{eqb}
use Rattle.format.specs.Plan.{legal}
use Rattle.format.specs.declared.Answer.{Answer}
use Rattle.format.specs.declared.Kind.{Kind}
use Rattle.format.specs.declared.Plan.{Plan}
use Rattle.from_c.specs.Numbers.{kind_of, named, plan_from}
use Rattle.stream_calls.specs.Calls.{Opens, Outcome, opening}
use Rattle.stream_from_c.specs.Streaming.{OpensFrom, not_named, opening_from}

module _ (words tracks time crc parity label code : ℕ) (kinds b : List ℕ) where
  abbrev from : Outcome
  from = opening_from words tracks time crc parity label code kinds b

  is_named : named time crc parity kinds ≡ true → from ≡ opening (plan_from words tracks time crc parity label code) (map kind_of kinds) b
  unfolding opening_from
  is_named e = rw e refl

  is_not : named time crc parity kinds ≡ false → from ≡ not_named b
  unfolding opening_from
  is_not e = rw e refl

  pub opens_named : {r : Answer} {b' : List ℕ} (p : Plan) (ks : List Kind) → named time crc parity kinds ≡ true → p ≡ plan_from words tracks time crc parity label code → ks ≡ map kind_of kinds
      → Opens p ks b r b' → OpensFrom words tracks time crc parity label code kinds b r b'
  opens_named p ks e x y o =
      let z : opening p ks b ≡ from = rw (x, y) (sym (is_named e)) in
      (o.0 ∙ ap (λ (u : Outcome). u.answer) z, o.1 ∙ ap (λ (u : Outcome). u.state) z)

  none_is : (p : Plan) (ks : List Kind) → p ≡ plan_from 0 0 0 0 0 0 0 → opening p ks b ≡ not_named b
  unfolding opening legal
  none_is p ks x = rw x refl

  pub opens_none : {r : Answer} {b' : List ℕ} (p : Plan) (ks : List Kind) → named time crc parity kinds ≡ false → p ≡ plan_from 0 0 0 0 0 0 0 → Opens p ks b r b'
      → OpensFrom words tracks time crc parity label code kinds b r b'
  opens_none p ks e x o =
      let z : opening p ks b ≡ from = none_is p ks x ∙ sym (is_not e) in
      (o.0 ∙ ap (λ (u : Outcome). u.answer) z, o.1 ∙ ap (λ (u : Outcome). u.state) z)
