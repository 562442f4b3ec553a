-- An item's bits in the log as two numbers: its first five fields, and those behind them, its tag or its response time.
use Rattle.std.specs.Prelude.{ℕ, ◌+◌, ◌*◌, ◌%◌, ◌^◌, List, [], ◌∷◌, take, drop}
use Rattle.format.specs.Item.{Field, item_fields}
use Rattle.format.specs.declared.Item.{Item}
use Rattle.log_write.specs.declared.Packed.{Packed}

-- how many bits the fields take
abbrev pub widths : List Field → ℕ
widths [] = 0
widths (f ∷ fs) = f.0 + widths fs

-- the fields side by side as one number, after a
abbrev pub beside : ℕ → List Field → ℕ
beside a [] = a
beside a (f ∷ fs) = beside (a * 2 ^ f.0 + f.1 % 2 ^ f.0) fs

unfoldable pub packed_of : Item → Packed
packed_of i =
    record { first = beside 0 (take 5 (item_fields i)); first_bits = widths (take 5 (item_fields i)); behind = beside 0 (drop 5 (item_fields i)); behind_bits = widths (drop 5 (item_fields i)) }
