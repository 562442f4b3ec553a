-- What a word brings where its bus's kind is of no account, and what the capture's end brings wherever it is: the contracts of
-- `low`, `goes_on`, `answers` and `finish`.
use Rattle.std.specs.Prelude.{ℕ, ◌≡◌, List, []}
use Rattle.std.proofs.Common.{sym, ◌∙◌}
use Rattle.format.specs.Reader.{feed}
use Rattle.format.specs.Read as read
use Rattle.format.specs.declared.Kind.{Kind}
use Rattle.data_start.specs.declared.Holding.{Holding}
use Rattle.data_start.specs.declared.Step.{Step}
use Rattle.data_word.specs.Holding.{held_of}
use Rattle.data_word.specs.Step.{closing, step_of}

-- the word goes on with what is held, or is bad, whatever its bus is
abbrev pub Feeds : Holding → ℕ → ℕ → ℕ → Step → Type 0
Feeds held bus label info r = (kinds : List Kind) → r ≡ step_of (held_of held) (feed kinds (held_of held) bus label info)

-- one step does it
pub feeds_one : (held : Holding) (bus label info : ℕ) {r r' : Step} → Feeds held bus label info r → Feeds held bus label info r' → r ≡ r'
feeds_one held bus label info a b = a [] ∙ sym (b [])

-- the end of the capture, the place of what is held being of no account
abbrev pub Finishes : Holding → Step → Type 0
Finishes held r = (place : ℕ) → r ≡ closing (held_of held) (read.finish (held_of held) place)

-- one step does it
pub finishes_one : (held : Holding) {r r' : Step} → Finishes held r → Finishes held r' → r ≡ r'
finishes_one held a b = a 0 ∙ sym (b 0)
