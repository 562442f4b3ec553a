-- What laying a log leaves: the contract of `lay`.
use Rattle.std.specs.Prelude.{List, ◌++◌, ◌≡◌, ℕ, length, drop}
use Rattle.std.proofs.Common.{sym, ◌∙◌}
use Rattle.format.specs.Log.{on_plan, parsed}
use Rattle.format.specs.declared.Kind.{Kind}
use Rattle.log_read.specs.Tally.{tallied_of}
use Rattle.log_read.specs.declared.Tally.{Tally}
use Rattle.log_words.specs.Words.{words_from}

-- the first words are in the row, and behind them what stood there
abbrev pub onto : List ℕ → List ℕ → List ℕ
onto words before = words ++ drop (length words) before

-- the answer is that of the parse; the row begins with the words of the items, all of them or those up to the first fault
abbrev pub LaysLog : List Kind → List ℕ → List ℕ → List ℕ → Tally → Type 0
LaysLog kinds log before after r =
    (r ≡ tallied_of (parsed (on_plan kinds) log)) × (after ≡ onto (words_from (on_plan kinds) log 0) before)

-- nothing else does
pub lays_log_one : (kinds : List Kind) (log before : List ℕ) {after after' : List ℕ} {r r' : Tally}
    → LaysLog kinds log before after r → LaysLog kinds log before after' r' → (r ≡ r') × (after ≡ after')
lays_log_one kinds log before a b = (a.0 ∙ sym b.0, a.1 ∙ sym b.1)
