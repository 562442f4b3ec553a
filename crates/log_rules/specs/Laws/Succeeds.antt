-- A call that answers 0 succeeded: the numbers by which picking, joining and shifting refuse.
use Rattle.std.specs.Prelude.{ℕ, ◌+◌, ◌≤◌, Bool, true, false, cond, ◌&&◌, ◌≡◌, refl, List, [], ◌∷◌, ◌++◌, map, length, leb, ℤ}
use Rattle.std.proofs.Common.{arith}
use Rattle.format.specs.Item.{item_bits}
use Rattle.format.specs.Log.{Parsed, items, fault, parsed, on_no_plan, log_of}
use Rattle.format.specs.Compose.{Composed, made, refused}
use Rattle.format.specs.Group.{Fault, none, found, or_else, unless}
use Rattle.format.specs.Read.{Reading, gives, refuses}
use Rattle.log_rules.specs.Pick.{keep, on_buses, log_in, of_items, picked, joined}
use Rattle.log_rules.specs.Shift.{in_limits, item_moves, moved, moved_item, moves, first_failing, first_unmoved, if_shifted, shift_parsed, shifted, shifted_in, unshifted}
use Rattle.log_rules.specs.Laws.Faults.{log_refused}
use Rattle.format.specs.declared.Item.{Item}

-- ---- picking and joining: 2, 4, 6

abbrev TwoToSix : Composed → Type 0
TwoToSix (made out) = Unit {0}
TwoToSix (refused n p) = (2 ≤ n) × (n ≤ 6)

log_in_lem : (room : ℕ) (is : List Item) → TwoToSix (log_in room is)
log_in_lem room is = go (leb (length (log_of is)) 32768 && leb (length (log_of is)) room)
  where
    go : (b : Bool) → TwoToSix (cond b (made (log_of is)) (refused 6 (length (log_of is))))
    go true = tt
    go false = (omega arith, omega arith)

of_items_lem : (log : List ℕ) (make : List Item → Composed) → ((is : List Item) → TwoToSix (make is)) → TwoToSix (of_items (parsed on_no_plan log) make)
of_items_lem log make h = go (parsed on_no_plan log) refl
  where
    go : (r : Parsed) → parsed on_no_plan log ≡ r → TwoToSix (of_items r make)
    go (items is) e = h is
    go (fault n p) e = (omega (arith, log_refused log n p e), omega (arith, log_refused log n p e))

pub pick_number : (log : List ℕ) (set room n p : ℕ) → picked log set room ≡ refused n p → (2 ≤ n) × (n ≤ 6)
unfolding picked
pick_number log set room n p e =
    let all : TwoToSix (picked log set room) = of_items_lem log _ (λ is. log_in_lem room _) in
    rw e at all

pub join_number : (first second : List ℕ) (room n p : ℕ) → joined first second room ≡ refused n p → (2 ≤ n) × (n ≤ 6)
unfolding joined
join_number first second room n p e =
    let all : TwoToSix (joined first second room) = of_items_lem first _ (λ is. of_items_lem second _ (λ js. log_in_lem room _)) in
    rw e at all

-- ---- shifting: 2, 4, 17, 6

abbrev Seventeen : Fault → Type 0
Seventeen none = Unit {0}
Seventeen (found n p) = n ≡ 17

or_seventeen : (f g : Fault) → Seventeen f → Seventeen g → Seventeen (or_else f g)
or_seventeen none g x y = y
or_seventeen (found n p) g x y = x

unless_seventeen : (b : Bool) → Seventeen (unless b 17 0)
unless_seventeen true = tt
unless_seventeen false = refl

if_seventeen : (b : Bool) (f g : Fault) → Seventeen f → Seventeen g → Seventeen (cond b f g)
if_seventeen true f g x y = x
if_seventeen false f g x y = y

first_failing_lem : (test : Item → Bool) (p : ℕ) (is : List Item) → Seventeen (first_failing test 17 p is)
unfolding first_failing
first_failing_lem test p [] = tt
first_failing_lem test p (i ∷ is) = if_seventeen (test i) _ (found 17 p) (first_failing_lem test (p + length (item_bits i)) is) refl

first_unmoved_lem : (by : ℤ) (k : ℕ) (ts : List ℕ) → Seventeen (first_unmoved by k ts)
unfolding first_unmoved
first_unmoved_lem by k [] = tt
first_unmoved_lem by k (t ∷ ts) = if_seventeen (moves by t) _ (found 17 k) (first_unmoved_lem by (k + 1) ts) refl

abbrev TwoToSeventeen : Reading → Type 0
TwoToSeventeen (gives out times) = Unit {0}
TwoToSeventeen (refuses n p second) = (2 ≤ n) × (n ≤ 17)

shifted_in_lem : (room : ℕ) (log times : List ℕ) → TwoToSeventeen (shifted_in room log times)
shifted_in_lem room log times = go (leb (length log) 32768 && leb (length log) room)
  where
    go : (b : Bool) → TwoToSeventeen (cond b (gives log times) (refuses 6 (length log) 0))
    go true = tt
    go false = (omega arith, omega arith)

if_shifted_lem : (f : Fault) (r : Reading) → Seventeen f → TwoToSeventeen r → TwoToSeventeen (if_shifted f r)
if_shifted_lem none r x y = y
if_shifted_lem (found n p) r x y = (omega (arith, x), omega (arith, x))

pub shift_number : (log times : List ℕ) (by : ℤ) (room n p second : ℕ) → shifted log times by room ≡ refuses n p second → (2 ≤ n) × (n ≤ 17)
unfolding shifted
shift_number log times by room n p second e = rw e at (go (parsed on_no_plan log) refl)
  where
    go : (r : Parsed) → parsed on_no_plan log ≡ r → TwoToSeventeen (shift_parsed times by room r)
    go (fault m q) h = (omega (arith, log_refused log m q h), omega (arith, log_refused log m q h))
    go (items is) h =
        let tags = first_failing (item_moves by) 17 0 is in
        let row = first_unmoved by 0 times in
        let late : Seventeen (or_else tags row) = or_seventeen tags row (first_failing_lem (item_moves by) 0 is) (first_unmoved_lem by 0 times) in
        let beyond : Seventeen (unshifted by times is) = or_seventeen (unless (in_limits by) 17 0) (or_else tags row) (unless_seventeen (in_limits by)) late in
        if_shifted_lem (unshifted by times is) _ beyond (shifted_in_lem room (log_of (map (moved_item by) is)) (map (moved by) times))
