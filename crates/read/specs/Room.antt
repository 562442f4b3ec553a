-- Room for the log and the times: the array that the log is built in, and the refusals for want of room.
use Rattle.std.specs.Prelude.{ℕ, ◌+◌, ◌*◌, ◌/◌, ◌≤◌, ◌≡◌, List, length, take}
use Rattle.format.specs.Log.{log_of}
use Rattle.format.specs.Plan.{group_words}
use Rattle.format.specs.Read.{got, read_groups}
use Rattle.format.specs.declared.Item.{Item}
use Rattle.format.specs.declared.Kind.{Kind}
use Rattle.format.specs.declared.Held.TheVariants.{Nothing}
use Rattle.format.specs.declared.Plan.{Plan}
use Rattle.capture_parts.specs.Room.{earlier, short_of}

-- "6, 7": the number of the refusal for want of room, 0 for none
unfoldable pub room_number : ℕ → ℕ → ℕ → ℕ → ℕ
room_number bytes log_room needed time_room = earlier (short_of 6 bytes 32768) (earlier (short_of 6 bytes log_room) (short_of 7 needed time_room))

-- the log is so many bytes long, and stands in the array if there is room
pub record Built (whole built : List ℕ) (bytes : ℕ) : Type 0 where
  pub size : bytes ≡ length whole
  pub is : bytes + 7 ≤ length built → take bytes built ≡ whole

-- every log that is not refused for its length has room in an array of so many bytes
pub record Enough (p : Plan) (ks : List Kind) (c : List ℕ) (built log_room : ℕ) : Type 0 where
  pub room : (is : List Item) → read_groups p ks c (length c / (3 * group_words p)) 0 Nothing 0 ≡ got is → length (log_of is) ≤ 32768 → length (log_of is) ≤ log_room
      → length (log_of is) + 7 ≤ built
