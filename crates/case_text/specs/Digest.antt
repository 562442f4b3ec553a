-- A digest of numbers: it stays below 4294967291.
use Rattle.std.specs.Prelude.{ℕ, ◌+◌, ◌*◌, ◌%◌}

abbrev pub folded : ℕ → ℕ → ℕ
folded digest value = (digest % 4294967291 * 31 + value % 4294967291) % 4294967291
