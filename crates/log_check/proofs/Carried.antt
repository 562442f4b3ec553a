-- What the code carries along is what the rules ask of the items before.
use Prim.Native.Nat.{ℕ}
use mathlib.Core.Bool.{Bool, true, false, cond, ◌&&◌, not}
use mathlib.Core.Path.{◌≡◌, refl, ap, ap₂, ◌∙◌}
use mathlib.Core.List.{List, [], ◌∷◌}
use lib.Dec.{eqb, leb}
use Rattle.format.specs.Item.{bus_of_item}
use Rattle.format.specs.declared.Tag.TheVariants.{Untagged, At}
use Rattle.format.specs.declared.Response.TheVariants.{Untimed, After}
use Rattle.format.specs.declared.Item.{Item}
use Rattle.format.specs.declared.Item.TheVariants.{Command, Status, Data, BusError, Arinc, Notice, User, Overflow}
use Rattle.log_rules.specs.Profile.{tag_time, same_bus, tagged_on, licensed, tag_after, last_tag, keeps, in_profile}
use Rattle.log_check.specs.Role.{after_by, keeps_by, nothing_seen, passes_by, role_of}
use Rattle.log_check.specs.declared.Seen.{Seen}

-- what is carried along, and the items before, the latest first
pub record Tie (before : List Item) (s : Seen) : Type 0 where
  pub bus : (i : Item) → cond s.first true (eqb (bus_of_item i) s.bus) ≡ same_bus before i
  pub a : s.a ≡ licensed false before
  pub b : s.b ≡ licensed true before
  pub last : s.last ≡ last_tag before

role_bus : (i : Item) → (role_of i).bus ≡ bus_of_item i
unfolding bus_of_item
role_bus (Command bus b Untagged word) = refl
role_bus (Command bus b (At t) word) = refl
role_bus (Status bus b Untimed word) = refl
role_bus (Status bus b (After r) word) = refl
role_bus (Data bus b word) = refl
role_bus (BusError bus b word) = refl
role_bus (Arinc bus c tag word) = refl
role_bus (Notice bus c diag) = refl
role_bus (User bus three word) = refl
role_bus (Overflow bus word) = refl

keeps_tie : {before : List Item} {s : Seen} → Tie before s → (i : Item) → keeps_by s.a s.b s.last (role_of i) ≡ keeps before i
keeps_tie t (Command bus true Untagged word) = t.b
keeps_tie t (Command bus false Untagged word) = t.a
keeps_tie t (Command bus b (At u) word) = ap (λ (n : ℕ). leb n (tag_time u)) t.last
keeps_tie t (Status bus b Untimed word) = refl
keeps_tie t (Status bus b (After r) word) = refl
keeps_tie t (Data bus b word) = refl
keeps_tie t (BusError bus b word) = refl
keeps_tie t (Arinc bus c tag word) = refl
keeps_tie t (Notice bus c diag) = refl
keeps_tie t (User bus three word) = refl
keeps_tie t (Overflow bus word) = refl

pub passes_tie : {before : List Item} {s : Seen} → Tie before s → (i : Item) → passes_by s (role_of i) ≡ in_profile before i
passes_tie {before} {s} t i =
    ap₂ ◌&&◌ (ap (λ (n : ℕ). cond s.first true (eqb n s.bus)) (role_bus i) ∙ t.bus i) (keeps_tie t i)

next_a : (i : Item) → cond (eqb (role_of i).kind 3) (not (role_of i).side) false ≡ tagged_on false i
next_a (Command bus b Untagged word) = refl
next_a (Command bus b (At t) word) = refl
next_a (Status bus b Untimed word) = refl
next_a (Status bus b (After r) word) = refl
next_a (Data bus b word) = refl
next_a (BusError bus b word) = refl
next_a (Arinc bus c tag word) = refl
next_a (Notice bus c diag) = refl
next_a (User bus three word) = refl
next_a (Overflow bus word) = refl

next_b : (i : Item) → cond (eqb (role_of i).kind 3) (role_of i).side false ≡ tagged_on true i
next_b (Command bus b Untagged word) = refl
next_b (Command bus b (At t) word) = refl
next_b (Status bus b Untimed word) = refl
next_b (Status bus b (After r) word) = refl
next_b (Data bus b word) = refl
next_b (BusError bus b word) = refl
next_b (Arinc bus c tag word) = refl
next_b (Notice bus c diag) = refl
next_b (User bus three word) = refl
next_b (Overflow bus word) = refl

next_last : (last : ℕ) (i : Item) → cond (eqb (role_of i).kind 3) (role_of i).time last ≡ tag_after last i
next_last last (Command bus b Untagged word) = refl
next_last last (Command bus b (At t) word) = refl
next_last last (Status bus b Untimed word) = refl
next_last last (Status bus b (After r) word) = refl
next_last last (Data bus b word) = refl
next_last last (BusError bus b word) = refl
next_last last (Arinc bus c tag word) = refl
next_last last (Notice bus c diag) = refl
next_last last (User bus three word) = refl
next_last last (Overflow bus word) = refl

pub tie_next : {before : List Item} {s : Seen} → Tie before s → (i : Item) → Tie (i ∷ before) (after_by s (role_of i))
unfolding last_tag
tie_next {before} {s} t i = record {
  bus = λ j. ap (eqb (bus_of_item j)) (role_bus i);
  a = next_a i;
  b = next_b i;
  last = next_last s.last i ∙ ap (λ (n : ℕ). tag_after n i) t.last;
}

pub tie_none : Tie [] nothing_seen
unfolding last_tag
tie_none = record { bus = λ i. refl; a = refl; b = refl; last = refl }
