-- What a word begins behind a string that is finished: the contract of `command`, `response`, `notice` and `syllable`.
use Rattle.std.specs.Prelude.{ℕ, ◌≡◌}
use Rattle.std.proofs.Common.{sym, ◌∙◌}
use Rattle.format.specs.Reader.{Fed}
use Rattle.format.specs.declared.Held.TheVariants.{Nothing}
use Rattle.data_start.specs.declared.Holding.{Holding}
use Rattle.data_start.specs.declared.Step.{Step}
use Rattle.data_start.specs.Holding.{flat}
use Rattle.data_start.specs.Step.{begun}

-- such a word is taken, so what was held is of no account
abbrev pub Begins : ℕ → ℕ → Fed → Step → Type 0
Begins first width f r = (held : Holding) → r ≡ begun held first width f

-- one step does it
pub begins_one : (first width : ℕ) (f : Fed) {r r' : Step} → Begins first width f r → Begins first width f r' → r ≡ r'
begins_one first width f a b = a (flat Nothing) ∙ sym (b (flat Nothing))
