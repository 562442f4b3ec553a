use mathlib.Core.Bool.{true}
use mathlib.Core.Path.{◌≡◌, refl, sym, ◌∙◌}
use lib.ListN.{length}
use Rattle.log_events.specs.Refused.{limits_by}
use borrow.Author.Rules.{rules}
use Rattle.log_events.proofs.events.in_bounds.Statement.{statement}
use Rattle.log_events.proofs.events.in_bounds.Tie as tie

in_limits : (c : tie.Else-not-limits) → let a = c.args in limits_by (length a.events.now) a.capacity a.slots ≡ true
in_limits c = sym c.limits.ensures ∙ c.if-not-limits.false

limits-requires : tie.Need-limits-requires
limits-requires c κs = search rules

returns-then-not-limits : tie.Need-returns-then-not-limits
returns-then-not-limits c = rw (sym c.limits.ensures ∙ c.if-not-limits.true) refl

known-requires : tie.Need-known-requires
known-requires c κs = search rules

returns-then-not-known : tie.Need-returns-then-not-known
returns-then-not-known c =
    let known = c.before in
    rw (in_limits known.before, sym known.known.ensures ∙ c.if-not-known.true) refl

arriving-requires : tie.Need-arriving-requires
arriving-requires c κs = search rules

returns : tie.Need-returns
returns c =
    let known = c.before.before in
    rw (in_limits known.before, sym known.known.ensures ∙ c.if-not-known.false, ← c.arriving.ensures) refl

pub in_bounds_spec : {M : Type 1} → statement M
in_bounds_spec =
    tie.close
    (tie.spec limits-requires returns-then-not-limits known-requires returns-then-not-known arriving-requires returns)
