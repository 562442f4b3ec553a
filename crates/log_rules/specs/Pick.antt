-- Pick and join (document 02, K7): "Crews work on one bus at a time and then put two sorties together." Neither takes a plan.
use Rattle.std.specs.Prelude.{ℕ, ◌/◌, ◌%◌, ◌^◌, Bool, cond, ◌&&◌, List, [], ◌∷◌, ◌++◌, length, leb, eqb}
use Rattle.format.specs.Item.{bus_of_item}
use Rattle.format.specs.Log.{Parsed, items, fault, parsed, on_no_plan, log_of}
use Rattle.format.specs.Compose.{Composed, made, refused}
use Rattle.format.specs.declared.Item.{Item}

-- the elements that pass the test, in their order
unfoldable pub keep : {A : Type 0} → (A → Bool) → List A → List A
keep test [] = []
keep test (a ∷ l) = cond (test a) (a ∷ keep test l) (keep test l)

-- "a set of bus codes": a number of sixteen bits, bit c for code c
abbrev pub in_set : ℕ → ℕ → Bool
in_set set bus = eqb (set / 2 ^ bus % 2) 1

-- "the items on those buses"
abbrev pub on_buses : ℕ → Item → Bool
on_buses set i = in_set set (bus_of_item i)

-- the log of the items, "then 6": "output too short, or a log above 32,768"
abbrev pub log_in : ℕ → List Item → Composed
log_in room is =
    let log : List ℕ = log_of is in
    cond (leb (length log) 32768 && leb (length log) room) (made log) (refused 6 (length log))

-- "2 and 4 as composing finds them": a log's fault, or what is made of its items
abbrev pub of_items : Parsed → (List Item → Composed) → Composed
of_items (items is) make = make is
of_items (fault n p) make = refused n p

-- "Picking takes a log and a set of bus codes and gives the log of exactly the items on those buses, in order."
unfoldable pub picked : List ℕ → ℕ → ℕ → Composed
picked log set room = of_items (parsed on_no_plan log) (λ is. log_in room (keep (on_buses set) is))

-- "the first log's items, then the second's"
abbrev pub in_turn : List Item → List Item → List Item
in_turn is js = is ++ js

-- "Joining gives the first log's items, then the second's."; "first log before second, then 6"
unfoldable pub joined : List ℕ → List ℕ → ℕ → Composed
joined first second room = of_items (parsed on_no_plan first) (λ is. of_items (parsed on_no_plan second) (λ js. log_in room (in_turn is js)))
