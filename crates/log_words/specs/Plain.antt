-- Bus errors and user words, which have the same fields, by the number of their kind.
use Rattle.std.specs.Prelude.{ℕ, ◌-◌, Bool, cond, eqb, ltb}
use Rattle.format.specs.Item.{sided}
use Rattle.format.specs.Plan.{is_used}
use Rattle.format.specs.declared.Kind.{Kind}
use Rattle.log_words.specs.Laid.{is_mil}

-- the word's label, by the bit behind the bus
abbrev pub plain_label : ℕ → ℕ → ℕ
plain_label k bit = cond (eqb k 7) (cond (eqb bit 1) 3 2) (sided (16 - k) (eqb bit 1))

-- where they may stand
abbrev pub plain_stands : Kind → ℕ → Bool
plain_stands kind k = cond (ltb k 7) (is_mil kind) (is_used kind)
