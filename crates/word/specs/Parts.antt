-- The three parts of a number of microseconds, as a time.
use Rattle.std.specs.Prelude.{ℕ}
use Rattle.format.specs.Time.{high_part, low_part, micro_part}
use Rattle.format.specs.declared.Time.{Time}

abbrev pub parts_of : ℕ → Time
parts_of t = record { high = high_part t; low = low_part t; micro = micro_part t }
