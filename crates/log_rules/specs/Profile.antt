-- The one_bus test profile (document 02, K11): "a yes or the first item that breaks it". First how an item is judged, then the rules
-- by themselves: Promises says that the yes is given exactly where they hold (`yes_exactly`).
use Rattle.std.specs.Prelude.{ℕ, zero, suc, ◌+◌, ◌≤◌, ◌<◌, Bool, true, false, cond, ◌&&◌, not, ◌≡◌, length, leb, eqb}
use mathlib.Core.List.{List, [], ◌∷◌, ◌++◌, flat_map}
use Rattle.format.specs.Time.{microseconds}
use Rattle.format.specs.Item.{bus_of_item, item_bits}
use Rattle.format.specs.Log.{Parsed, items, fault, parsed, on_no_plan}
use Rattle.format.specs.Group.{Fault, none, found}
use Rattle.format.specs.Answer.{success, refusal}
use Rattle.format.specs.declared.Answer.{Answer}
use Rattle.format.specs.declared.Time.{Time}
use Rattle.format.specs.declared.Tag.{Tag}
use Rattle.format.specs.declared.Tag.TheVariants.{Untagged, At}
use Rattle.format.specs.declared.Response.TheVariants.{Untimed, After}
use Rattle.format.specs.declared.Item.{Item}
use Rattle.format.specs.declared.Item.TheVariants.{Command, Status, Data, BusError, Arinc, Notice, User, Overflow}

-- a tag's number of microseconds
abbrev pub tag_time : Time → ℕ
tag_time t = microseconds t.high t.low t.micro

-- ---- an item is judged with the items before it, the latest of them first

-- "Only one bus occurs": the bus of the item just before, which was judged so itself
abbrev pub same_bus : List Item → Item → Bool
same_bus [] i = true
same_bus (j ∷ before) i = eqb (bus_of_item i) (bus_of_item j)

-- "on the same A or B side"
abbrev pub same_side : Bool → Bool → Bool
same_side true b = b
same_side false b = not b

-- "a tagged command on the same A or B side"
abbrev pub tagged_on : Bool → Item → Bool
tagged_on side (Command bus b Untagged word) = false
tagged_on side (Command bus b (At t) word) = same_side side b
tagged_on side (Status bus b resp word) = false
tagged_on side (Data bus b word) = false
tagged_on side (BusError bus b word) = false
tagged_on side (Arinc bus c tag word) = false
tagged_on side (Notice bus c diag) = false
tagged_on side (User bus three word) = false
tagged_on side (Overflow bus word) = false

-- "the item just before" is one
abbrev pub licensed : Bool → List Item → Bool
licensed side [] = false
licensed side (j ∷ before) = tagged_on side j

-- the last tag so far, after an item; 0 where there was none
abbrev pub tag_after : ℕ → Item → ℕ
tag_after last (Command bus b Untagged word) = last
tag_after last (Command bus b (At t) word) = tag_time t
tag_after last (Status bus b resp word) = last
tag_after last (Data bus b word) = last
tag_after last (BusError bus b word) = last
tag_after last (Arinc bus c tag word) = last
tag_after last (Notice bus c diag) = last
tag_after last (User bus three word) = last
tag_after last (Overflow bus word) = last

unfoldable pub last_tag : List Item → ℕ
last_tag [] = 0
last_tag (i ∷ before) = tag_after (last_tag before) i

-- "with no ARINC item. Every command is tagged, unless the item just before is a tagged command on the same A or B side. Every
-- status has its response time. Tags never go back. No user words."
abbrev pub keeps : List Item → Item → Bool
keeps before (Command bus b Untagged word) = licensed b before
keeps before (Command bus b (At t) word) = leb (last_tag before) (tag_time t)
keeps before (Status bus b Untimed word) = false
keeps before (Status bus b (After r) word) = true
keeps before (Data bus b word) = true
keeps before (BusError bus b word) = true
keeps before (Arinc bus c tag word) = false
keeps before (Notice bus c diag) = false
keeps before (User bus three word) = false
keeps before (Overflow bus word) = true

-- the item breaks no rule
abbrev pub in_profile : List Item → Item → Bool
in_profile before i = same_bus before i && keeps before i

-- "18 at the first bit of the earliest item that breaks a rule", where the first of them begins at p
unfoldable pub first_break : List Item → ℕ → List Item → Fault
first_break before p [] = none
first_break before p (i ∷ is) = cond (in_profile before i) (first_break (i ∷ before) (p + length (item_bits i)) is) (found 18 p)

abbrev pub profile_parsed : Parsed → Fault
profile_parsed (items is) = first_break [] 0 is
profile_parsed (fault n p) = found n p

-- "Refusals: 2, 4 as in composing; then 18"; no fault is the yes, "the empty log passes"
unfoldable pub profiled : List ℕ → Fault
profiled log = profile_parsed (parsed on_no_plan log)

-- ---- what is answered

-- the yes is number 0; nothing is written, so no length is ever told
abbrev pub profile_answer : Fault → Answer
profile_answer none = success 0 0
profile_answer (found n p) = refusal n p 0

-- what the profile hands over. Two answers that meet it are the same (Promises, `judged_one`)
abbrev pub Judged : List ℕ → Answer → Type 0
Judged log r = r ≡ profile_answer (profiled log)

-- ---- the rules, each by itself

-- the item number k, counted from 0
abbrev pub Stands : List Item → ℕ → Item → Type 0
Stands [] k i = ⊥
Stands (x ∷ is) zero i = x ≡ i
Stands (x ∷ is) (suc k) i = Stands is k i

-- just before the item number k stands a tagged command on this side
pub record Licence (is : List Item) (k : ℕ) (side : Bool) : Type 0 where
  pub before : ℕ
  pub next : k ≡ suc before
  pub bus : ℕ
  pub time : Time
  pub word : ℕ
  pub stands : Stands is before (Command bus side (At time) word)

pub record Rules (is : List Item) : Type 0 where
  -- "Only one bus occurs"
  pub one_bus : (j k : ℕ) (x y : Item) → Stands is j x → Stands is k y → bus_of_item x ≡ bus_of_item y
  -- "with no ARINC item"
  pub no_arinc : (k bus c : ℕ) (tag : Tag) (word : ℕ) → Stands is k (Arinc bus c tag word) → ⊥
  pub no_notice : (k bus c diag : ℕ) → Stands is k (Notice bus c diag) → ⊥
  -- "Every command is tagged, unless the item just before is a tagged command on the same A or B side."
  pub tagged : (k bus : ℕ) (side : Bool) (word : ℕ) → Stands is k (Command bus side Untagged word) → Licence is k side
  -- "Every status has its response time."
  pub timed : (k bus : ℕ) (side : Bool) (word : ℕ) → Stands is k (Status bus side Untimed word) → ⊥
  -- "Tags never go back."
  pub forward : (j k : ℕ) → j < k → (bus bus' : ℕ) (side side' : Bool) (t t' : Time) (word word' : ℕ)
      → Stands is j (Command bus side (At t) word) → Stands is k (Command bus' side' (At t') word') → tag_time t ≤ tag_time t'
  -- "No user words."
  pub no_user : (k bus : ℕ) (three : Bool) (word : ℕ) → Stands is k (User bus three word) → ⊥

-- the first bit of the earliest item that breaks a rule: those before it keep the rules, with it they do not
pub record BreaksAt (is : List Item) (place : ℕ) : Type 0 where
  pub before : List Item
  pub item : Item
  pub behind : List Item
  pub row : is ≡ before ++ item ∷ behind
  pub keep : Rules before
  pub breaks : Rules (before ++ item ∷ []) → ⊥
  pub first_bit : place ≡ length (flat_map item_bits before)
