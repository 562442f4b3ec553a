-- What the buffer sees of an item is the item's.
use Prim.Native.Nat.{ℕ, ◌≤◌}
use native.Mathlib.Omega.{arith}
use mathlib.Core.Path.{◌≡◌, refl}
use lib.ListN.{length}
use Rattle.format.specs.Item.{bus_of_item, item_words}
use Rattle.format.specs.declared.Tag.TheVariants.{Untagged, At}
use Rattle.format.specs.declared.Response.TheVariants.{Untimed, After}
use Rattle.format.specs.declared.Item.{Item}
use Rattle.format.specs.declared.Item.TheVariants.{Command, Status, Data, BusError, Arinc, Notice, User, Overflow}
use Rattle.log_rules.specs.Replay.{is_mark}
use Rattle.log_buffer.specs.Level.{load_of}

pub load_bus : (i : Item) → (load_of i).bus ≡ bus_of_item i
unfolding bus_of_item
load_bus (Command bus b Untagged word) = refl
load_bus (Command bus b (At t) word) = refl
load_bus (Status bus b Untimed word) = refl
load_bus (Status bus b (After r) word) = refl
load_bus (Data bus b word) = refl
load_bus (BusError bus b word) = refl
load_bus (Arinc bus c Untagged word) = refl
load_bus (Arinc bus c (At t) word) = refl
load_bus (Notice bus c diag) = refl
load_bus (User bus three word) = refl
load_bus (Overflow bus word) = refl

pub load_words : (i : Item) → (load_of i).words ≡ length (item_words i)
unfolding item_words
load_words (Command bus b Untagged word) = refl
load_words (Command bus b (At t) word) = refl
load_words (Status bus b Untimed word) = refl
load_words (Status bus b (After r) word) = refl
load_words (Data bus b word) = refl
load_words (BusError bus b word) = refl
load_words (Arinc bus c Untagged word) = refl
load_words (Arinc bus c (At t) word) = refl
load_words (Notice bus c diag) = refl
load_words (User bus three word) = refl
load_words (Overflow bus word) = refl

pub load_mark : (i : Item) → (load_of i).mark ≡ is_mark i
load_mark (Command bus b Untagged word) = refl
load_mark (Command bus b (At t) word) = refl
load_mark (Status bus b Untimed word) = refl
load_mark (Status bus b (After r) word) = refl
load_mark (Data bus b word) = refl
load_mark (BusError bus b word) = refl
load_mark (Arinc bus c Untagged word) = refl
load_mark (Arinc bus c (At t) word) = refl
load_mark (Notice bus c diag) = refl
load_mark (User bus three word) = refl
load_mark (Overflow bus word) = refl

pub load_few : (i : Item) → (load_of i).words ≤ 5
load_few (Command bus b Untagged word) = omega arith
load_few (Command bus b (At t) word) = omega arith
load_few (Status bus b Untimed word) = omega arith
load_few (Status bus b (After r) word) = omega arith
load_few (Data bus b word) = omega arith
load_few (BusError bus b word) = omega arith
load_few (Arinc bus c Untagged word) = omega arith
load_few (Arinc bus c (At t) word) = omega arith
load_few (Notice bus c diag) = omega arith
load_few (User bus three word) = omega arith
load_few (Overflow bus word) = omega arith
