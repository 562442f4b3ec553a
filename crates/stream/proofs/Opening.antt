-- The opening.
use mathlib.Core.Bool.{true, false}
use mathlib.Core.Path.{◌≡◌, refl}
use mathlib.Core.List.{List}
use Prim.Native.Nat.{ℕ}
use lib.ListN.{length}
use borrow.Author.Tests.{eq-eqb, ne_eqb}
use Rattle.format.specs.Answer.{refusal}
use Rattle.format.specs.Plan.{legal}
use Rattle.format.specs.declared.Answer.{Answer}
use Rattle.format.specs.declared.Kind.{Kind}
use Rattle.format.specs.declared.Plan.{Plan}
use Rattle.stream_rules.specs.Stream.{closed, fresh, working}
use Rattle.stream_state.specs.Layout.{state_bytes}
use Rattle.stream_calls.specs.Calls.{Opens, opening}

module _ (p : Plan) (ks : List Kind) (b : List ℕ) {r : Answer} where
  pub opens_unread : (length b ≡ 7168 → ⊥) → r ≡ refusal 16 0 0 → Opens p ks b r b
  unfolding opening
  opens_unread n e = rw (ne_eqb (length b) 7168 n) (e, refl)

  pub opens_closed : {b' : List ℕ} → length b ≡ 7168 → legal p ks ≡ false → r ≡ refusal 1 0 0 → b' ≡ state_bytes closed → Opens p ks b r b'
  unfolding opening
  opens_closed n l e s = rw (eq-eqb (length b) 7168 n, l) (e, s)

  pub opens_work : {b' : List ℕ} → length b ≡ 7168 → legal p ks ≡ true → r ≡ refusal 0 0 0 → b' ≡ state_bytes (working (fresh p ks)) → Opens p ks b r b'
  unfolding opening
  opens_work n l e s = rw (eq-eqb (length b) 7168 n, l) (e, s)
