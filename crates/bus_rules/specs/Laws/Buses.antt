-- The words on a bus are those of the items on it, and they determine these items (document 02, K14).
use Rattle.std.specs.Prelude.{ℕ, Bool, true, false, cond, ◌≡◌, refl, length}
use Rattle.std.proofs.Common.{ap, sym, ◌∙◌}
use mathlib.Core.List.{List, [], ◌∷◌, ◌++◌, map, flat_map}
use Rattle.format.specs.Lists.{All, nil, cons, Bytes}
use Rattle.format.specs.Word.{Part, part_of}
use Rattle.format.specs.Item.{bus_of_item, item_parts}
use Rattle.format.specs.Lawful.{Lawful}
use Rattle.format.specs.Log.{on_no_plan, on_plan, log_of}
use Rattle.format.specs.Plan.{kind_on}
use Rattle.format.specs.Read.{data_words}
use Rattle.log_rules.specs.Pick.{in_set, keep, on_buses}
use Rattle.log_rules.specs.Scripts.{PicksTo}
use Rattle.format.specs.Laws.Lists.{all_map}
use Rattle.format.specs.Laws.Log.Back.{Logged}
use Rattle.format.specs.Laws.Log.Forth.{log_forth}
use Rattle.format.specs.Laws.Log.Sizes.{in_time_lem}
use Rattle.format.specs.Laws.Legal.{logged_lawful}
use Rattle.format.proofs.Laws.Reader.Reads.{Whole, whole, reads}
use Rattle.format.proofs.Laws.Reader.Back.{parts_back, none}
use Rattle.format.specs.Laws.Accepted.Given.{ReadOf, read_by, given_bytes}
use Rattle.format.proofs.Laws.Accepted.Together.{given_parses, given_parts}
use Rattle.log_rules.specs.Laws.Logs.{LogOf, log_new, all_keep, keep_append}
use Rattle.log_rules.proofs.Laws.Pick.{pick_gives}
use Rattle.bus_rules.specs.Buses.{ReadsTo, said_on, says_on}
use Rattle.format.specs.declared.Kind.{Kind}
use Rattle.format.specs.declared.Plan.{Plan}
use Rattle.format.specs.declared.Tag.TheVariants.{Untagged, At}
use Rattle.format.specs.declared.Response.TheVariants.{Untimed, After}
use Rattle.format.specs.declared.Item.{Item}
use Rattle.format.specs.declared.Item.TheVariants.{Command, Status, Data, BusError, Arinc, Notice, User, Overflow}
use Rattle.format.specs.declared.Held.TheVariants.{Nothing}

-- "All words of an item carry the same bus code"
pub one_bus : (i : Item) → All (λ (x : Part). x.bus ≡ bus_of_item i) (item_parts i)
unfolding bus_of_item
one_bus (Command bus b Untagged word) = cons refl nil
one_bus (Command bus b (At t) word) = cons refl (cons refl (cons refl (cons refl nil)))
one_bus (Status bus b Untimed word) = cons refl nil
one_bus (Status bus b (After r) word) = cons refl (cons refl nil)
one_bus (Data bus b word) = cons refl nil
one_bus (BusError bus b word) = cons refl nil
one_bus (Arinc bus c Untagged word) = cons refl (cons refl nil)
one_bus (Arinc bus c (At t) word) = cons refl (cons refl (cons refl (cons refl (cons refl nil))))
one_bus (Notice bus c diag) = cons refl nil
one_bus (User bus three word) = cons refl nil
one_bus (Overflow bus word) = cons refl nil

-- words of one bus are all kept or all left
keep_one : (set bus : ℕ) (b : Bool) → in_set set bus ≡ b → (xs : List Part) → All (λ (x : Part). x.bus ≡ bus) xs → keep (says_on set) xs ≡ cond b xs []
unfolding keep
keep_one set bus true e [] All.nil = refl
keep_one set bus false e [] All.nil = refl
keep_one set bus true e (x ∷ xs) (cons h t) =
    let z : says_on set x ≡ true = ap (in_set set) h ∙ e in
    rw z (ap (λ (l : List Part). x ∷ l) (keep_one set bus true e xs t))
keep_one set bus false e (x ∷ xs) (cons h t) =
    let z : says_on set x ≡ false = ap (in_set set) h ∙ e in
    rw z (keep_one set bus false e xs t)

-- the words on the buses are the words of the items on the buses
pub keep_parts : (set : ℕ) (is : List Item) → keep (says_on set) (flat_map item_parts is) ≡ flat_map item_parts (keep (on_buses set) is)
unfolding keep flat_map
keep_parts set [] = refl
keep_parts set (i ∷ is) =
    keep_append (says_on set) (item_parts i) (flat_map item_parts is) ∙ go (on_buses set i) refl (keep_parts set is)
  where
    others : List Part
    others = keep (says_on set) (flat_map item_parts is)

    kept : List Item
    kept = keep (on_buses set) is

    go : (b : Bool) → on_buses set i ≡ b → others ≡ flat_map item_parts kept
        → keep (says_on set) (item_parts i) ++ others ≡ flat_map item_parts (cond b (i ∷ kept) kept)
    go true e ih = rw (keep_one set (bus_of_item i) true e (item_parts i) (one_bus i), ih) refl
    go false e ih = rw (keep_one set (bus_of_item i) false e (item_parts i) (one_bus i), ih) refl

-- the words of lawful items determine the items
pub parts_one : (ks : List Kind) (is js : List Item) → All (Lawful ks) is → All (Lawful ks) js → flat_map item_parts is ≡ flat_map item_parts js → is ≡ js
parts_one ks is js a b e = same (sym (parts_back ks is a Nothing none) ∙ ap (reads ks Nothing) e ∙ parts_back ks js b Nothing none)
  where
    same : {xs ys : List Item} → whole xs ≡ whole ys → xs ≡ ys
    same z = cc

-- a log that a reading gives: its items, without a plan too, which are lawful and have the data words
pub record ItemsOf (p : Plan) (ks : List Kind) (c log : List ℕ) (is : List Item) : Type 0 where
  pub log_is : LogOf log is
  pub lawful : All (Lawful ks) is
  pub said : map (part_of p.parity) (data_words p c) ≡ flat_map item_parts is

unplanned : (ks : List Kind) (i : Item) → Logged (on_plan ks) i → Logged on_no_plan i
unplanned ks i w = record { narrow = w.narrow; passed = rw (in_time_lem i (logged_lawful ks i w).0.sized) refl }

pub items_of : {p : Plan} {ks : List Kind} {c log times : List ℕ} → length ks ≡ 16 → Bytes c → ReadsTo p ks c log times → (is : List Item) × ItemsOf p ks c log is
items_of {p} {ks} {c} {log} {times} sixteen bytes r =
    let k : ReadOf false p ks c log times = rw r.answers at (read_by false p ks c r.log_room r.time_room) in
    let s = given_parses sixteen bytes k in
    let f = log_forth (on_plan ks) log k.its (given_bytes k) s in
    let n : LogOf (log_of k.its) k.its = log_new k.its (all_map (λ i w. unplanned ks i w) f.1) k.short in
    (k.its, record { log_is = rw k.logged at n; lawful = all_map (λ i w. (logged_lawful ks i w).0) f.1; said = given_parts sixteen bytes k k.its s })

module _ {p p' : Plan} {ks : List Kind} {c c' log log' times times' out out' : List ℕ} {set : ℕ} where
  pub other_buses : length ks ≡ 16 → Bytes c → Bytes c' → ReadsTo p ks c log times → ReadsTo p' ks c' log' times' → said_on set p c ≡ said_on set p' c'
      → PicksTo log set out → PicksTo log' set out' → out ≡ out'
  other_buses sixteen b b' r r' same one other =
      let g = items_of sixteen b r in
      let h = items_of sixteen b' r' in
      let is : List Item = keep (on_buses set) g.0 in
      let js : List Item = keep (on_buses set) h.0 in
      let w : flat_map item_parts is ≡ flat_map item_parts js =
      sym (keep_parts set g.0) ∙ ap (keep (says_on set)) (sym g.1.said) ∙ same ∙ ap (keep (says_on set)) h.1.said ∙ keep_parts set h.0 in
      let s : is ≡ js = parts_one ks is js (all_keep (on_buses set) g.1.lawful) (all_keep (on_buses set) h.1.lawful) w in
      let x = pick_gives set one.room out g.1.log_is one.answers in
      let y = pick_gives set other.room out' h.1.log_is other.answers in
      sym x.bytes ∙ ap log_of s ∙ y.bytes
