-- A reading over the groups of a capture.
use Rattle.std.specs.Prelude.{ℕ, ◌*◌, ◌-◌, ◌≤◌, ◌≡◌, List}
use Rattle.format.specs.Lists.{list}
use Rattle.format.specs.Plan.{group_words, slots, stored_at}
use Rattle.format.specs.Group.{group_slots}
use Rattle.format.specs.Reader.{Slot}
use Rattle.format.specs.Read.{stopped, before, finish, read_groups}
use Rattle.format.specs.declared.Kind.{Kind}
use Rattle.format.specs.declared.Item.{Item}
use Rattle.format.specs.declared.Held.TheVariants.{Nothing}
use Rattle.format.specs.declared.Plan.{Plan}
use Rattle.data_word.specs.Holding.{held_of}
use Rattle.data_run.specs.declared.Pass.{Pass}
use Rattle.read_groups.specs.declared.Walk.{Walk}
use Rattle.read_groups.specs.Misplaced.{fills_over, numbers_on}
use Rattle.data_run.specs.Pass.{Brought, start_pass}
use Rattle.notices.specs.Laws.Groups.{open_number}
use Rattle.data_run.specs.Fills.{no_fill}

-- a bad word, and the item that it broke
abbrev pub broken_at : Plan → Pass → ℕ → ℕ → Walk
broken_at p x bad first = record { pass = x; number = 13; place = stored_at p (bad - 1); second = stored_at p first; notice = 0 }

-- the slots of k groups from the group g on, each told by its stored place
abbrev pub groups_on : Plan → List ℕ → ℕ → ℕ → List (List Slot)
groups_on p c g k = list (λ g. group_slots p c (g * group_words p)) g k

-- g of n groups were passed: what is carried tells words by their numbers, of which there are `count` a group
pub record Over (ks : List Kind) (p : Plan) (c : List ℕ) (n : ℕ) (out₀ : List ℕ) (g : ℕ) (x : Pass) (out : List ℕ) : Type 0 where
  pub items : List Item
  pub is : read_groups p ks c n 0 Nothing 0 ≡ before items (read_groups p ks c (n - g) g (held_of x.held) (stored_at p x.since))
  pub fill : fills_over p (numbers_on p c 0 n) no_fill ≡ fills_over p (numbers_on p c g (n - g)) x.fills
  pub brought : Brought start_pass out₀ items x out
  pub few : x.pen.bits ≤ 128 * (g * slots p)
  pub low : x.since ≤ g * slots p
  pub fill_low : (x.fills.first ≤ g * slots p) × (x.fills.misplaced ≤ g * slots p)

-- all groups were passed
pub record Through (ks : List Kind) (p : Plan) (c : List ℕ) (n : ℕ) (out₀ : List ℕ) (x : Pass) (out : List ℕ) : Type 0 where
  pub items : List Item
  pub is : read_groups p ks c n 0 Nothing 0 ≡ before items (finish (held_of x.held) (stored_at p x.since))
  pub fill : fills_over p (numbers_on p c 0 n) no_fill ≡ x.fills
  pub brought : Brought start_pass out₀ items x out
  pub few : x.pen.bits ≤ 128 * (n * slots p)
  pub low : x.since ≤ n * slots p
  pub fill_low : x.fills.misplaced ≤ n * slots p

-- number 0: all groups were passed, and the earliest open notice has this number; else the reading stopped
pub record Walked (ks : List Kind) (p : Plan) (c : List ℕ) (n : ℕ) (out₀ : List ℕ) (r : Walk) (out : List ℕ) : Type 0 where
  pub through : r.number ≡ 0 → Through ks p c n out₀ r.pass out
  pub notice : r.number ≡ 0 → r.notice ≡ open_number ks p c n
  pub stops : (r.number ≡ 0 → ⊥) → read_groups p ks c n 0 Nothing 0 ≡ stopped r.number r.place r.second
