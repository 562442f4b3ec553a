-- What stands at a cursor, as the code has it.
use Rattle.std.specs.Prelude.{ℕ, ◌+◌, List, ◌≡◌, length}
use Rattle.format.specs.declared.Time.{Time}
use Rattle.format.specs.Log.{Next, ends, has, wrong, field, item_at}
use Rattle.log_read.specs.declared.Head.{Head}
use Rattle.log_read.specs.declared.Found.{Found}
use Rattle.log_read.specs.declared.Found.TheVariants.{Has, End, Wrong}
use Rattle.log_read.specs.Fields.{Heads}

abbrev pub found_of : Next → Found
found_of ends = End
found_of (has i q) = Has i (record { at = q; ahead = 0 })
found_of wrong = Wrong

-- "[high 16, low 16, micro 14]" from p on
abbrev pub time_at : List ℕ → ℕ → Time
time_at s p = record { high = field s p 16; low = field s (p + 16) 16; micro = field s (p + 32) 14 }

-- r is the item of the kind k that stands in a log of these bits where the head was read
abbrev pub FindsIn : List ℕ → Head → ℕ → Found → Type 0
FindsIn s h k r = (p : ℕ) → Heads s p h → r ≡ found_of (item_at s p k)

-- in any log of so many bits
abbrev pub Finds : Head → ℕ → ℕ → Found → Type 0
Finds h total k r = (s : List ℕ) → length s ≡ total → FindsIn s h k r
