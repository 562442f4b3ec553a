-- Laws our scripts lean on (document 02, K12), over items in turn: what holds of the items of both logs, what is kept of them, three logs, and
-- the empty log on either side.
use Rattle.std.specs.Prelude.{ℕ, ◌≡◌, refl, List, []}
use Rattle.std.proofs.Common.{append_assoc, append-nil}
use Rattle.format.specs.Lists.{All}
use Rattle.format.specs.Laws.Lists.{all_append}
use Rattle.log_rules.specs.Pick.{in_turn, keep, on_buses}
use Rattle.log_rules.specs.Laws.Logs.{keep_append}
use Rattle.format.specs.declared.Item.{Item}

pub turn_all : {P : Item → Type 0} {is js : List Item} → All P is → All P js → All P (in_turn is js)
turn_all a b = all_append a b

pub kept_in_turn : (set : ℕ) (is js : List Item) → keep (on_buses set) (in_turn is js) ≡ in_turn (keep (on_buses set) is) (keep (on_buses set) js)
kept_in_turn set = keep_append (on_buses set)

pub turn_associates : (is js ks : List Item) → in_turn (in_turn is js) ks ≡ in_turn is (in_turn js ks)
turn_associates = append_assoc

pub turn_nothing : (is : List Item) → in_turn is [] ≡ is
turn_nothing = append-nil

pub nothing_turn : (is : List Item) → in_turn [] is ≡ is
nothing_turn is = refl
