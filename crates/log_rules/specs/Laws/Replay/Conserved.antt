-- What the replay conserves, and that its result is a log (document 02, K13).
use Rattle.std.specs.Prelude.{ℕ, ◌+◌, ◌-◌, ◌<◌, ◌≤◌, Bool, true, false, cond, ◌≡◌, refl, length, leb, eqb}
use Rattle.std.proofs.Common.{arith, ap, sym, ◌∙◌, length-append, leb-true, leb-false, eqb-true}
use mathlib.Core.List.{List, [], ◌∷◌, ◌++◌, flat_map}
use Rattle.format.specs.Lists.{All, nil, cons}
use Rattle.format.specs.Item.{bus_of_item, item_bits, item_words, in_time}
use Rattle.format.specs.Lawful.{Sized}
use Rattle.format.specs.Log.{on_no_plan}
use Rattle.format.specs.Group.{Fault, none, found}
use Rattle.format.specs.Laws.Tests.{clash}
use Rattle.format.specs.Laws.Lists.{flat_map_append, all_append}
use Rattle.format.specs.Laws.Log.Back.{Logged}
use Rattle.format.specs.Laws.Log.Sizes.{narrow_of, in_time_lem, sized_of}
use Rattle.log_rules.specs.Replay.{is_mark, Buffer, empty_buffer, with_mark, needs, taken, missed, arrive, leave, replay, arrivals, first_mark, plain_items, mark_number, marked}
use Rattle.log_rules.specs.Laws.Faults.{not_none}
use Rattle.format.specs.declared.Item.{Item}
use Rattle.format.specs.declared.Item.TheVariants.{Command, Status, Data, BusError, Arinc, Notice, User, Overflow}

-- no mark in the log
abbrev pub Unmarked : List Item → Type 0
Unmarked is = All (λ i. is_mark i ≡ false) is

pub none_marked : (p : ℕ) (is : List Item) → first_mark p is ≡ none → Unmarked is
unfolding first_mark
none_marked p [] e = nil
none_marked p (i ∷ is) e = go (is_mark i) refl e (none_marked (p + length (item_bits i)) is)
  where
    go : (b : Bool) → is_mark i ≡ b → cond b (found 19 p) (first_mark (p + length (item_bits i)) is) ≡ none
        → (first_mark (p + length (item_bits i)) is ≡ none → Unmarked is) → Unmarked (i ∷ is)
    go false t z ih = cons t (ih z)
    go true t z ih = not_none z

plain_append : (xs ys : List Item) → plain_items (xs ++ ys) ≡ plain_items xs + plain_items ys
unfolding plain_items
plain_append [] ys = omega arith
plain_append (x ∷ xs) ys = rw (plain_append xs ys) (omega arith)

marked_append : (xs ys : List Item) → marked (xs ++ ys) ≡ marked xs + marked ys
unfolding marked
marked_append [] ys = omega arith
marked_append (x ∷ xs) ys = rw (marked_append xs ys) (omega arith)

unmarked_number : (i : Item) → is_mark i ≡ false → mark_number i ≡ 0
unmarked_number (Command bus b tag word) e = refl
unmarked_number (Status bus b resp word) e = refl
unmarked_number (Data bus b word) e = refl
unmarked_number (BusError bus b word) e = refl
unmarked_number (Arinc bus c tag word) e = refl
unmarked_number (Notice bus c diag) e = refl
unmarked_number (User bus three word) e = refl
unmarked_number (Overflow bus word) e = clash (sym e)

-- after so many arrivals
pub record Conserved (capacity arrived : ℕ) (s : Buffer) : Type 0 where
  -- "items that arrived are those stored plus those lost"
  pub all_items : plain_items s.stored + s.lost ≡ arrived
  -- "the marks' numbers plus the losses not yet marked are all losses"
  pub all_losses : marked s.stored + s.unmarked ≡ s.lost
  -- "words stored are those sent and those held"
  pub all_words : length (flat_map item_words s.stored) ≡ s.sent + s.held
  pub room : s.held ≤ capacity

pub nothing_yet : (capacity : ℕ) → Conserved capacity 0 empty_buffer
unfolding plain_items marked flat_map
nothing_yet capacity = record { all_items = refl; all_losses = refl; all_words = refl; room = omega arith }

-- a mark and an item
plain_with : (b : Bool) (bus n : ℕ) (i : Item) → is_mark i ≡ false → plain_items (cond b [] (Overflow bus n ∷ []) ++ i ∷ []) ≡ 1
unfolding plain_items
plain_with true bus n i e = rw e refl
plain_with false bus n i e = rw e refl

marked_with : (n bus : ℕ) (b : Bool) → eqb n 0 ≡ b → (i : Item) → is_mark i ≡ false → marked (cond b [] (Overflow bus n ∷ []) ++ i ∷ []) ≡ n
unfolding marked
marked_with n bus true e i z = rw (unmarked_number i z) (sym (eqb-true _ _ e))
marked_with n bus false e i z = rw (unmarked_number i z) (omega arith)

taken_conserves : {capacity arrived : ℕ} (s : Buffer) (i : Item) → is_mark i ≡ false → Conserved capacity arrived s → s.held + needs s i ≤ capacity
    → Conserved capacity (arrived + 1) (taken s i)
taken_conserves s i z k h = record {
  all_items = omega (arith, k.all_items, plain_append s.stored (with_mark s i), plain_with (eqb s.unmarked 0) s.bus s.unmarked i z);
  all_losses = omega (arith, k.all_losses, marked_append s.stored (with_mark s i), marked_with s.unmarked s.bus (eqb s.unmarked 0) refl i z);
  all_words = ap length (flat_map_append item_words s.stored (with_mark s i))
      ∙ omega (arith, k.all_words, length-append (flat_map item_words s.stored) (flat_map item_words (with_mark s i)));
  room = h;
}

missed_conserves : {capacity arrived : ℕ} (s : Buffer) (i : Item) → Conserved capacity arrived s → Conserved capacity (arrived + 1) (missed s i)
missed_conserves s i k = record {
  all_items = omega (arith, k.all_items);
  all_losses = omega (arith, k.all_losses);
  all_words = k.all_words;
  room = k.room;
}

pub arrive_conserves : {capacity arrived : ℕ} (s : Buffer) (i : Item) → is_mark i ≡ false → Conserved capacity arrived s → Conserved capacity (arrived + 1) (arrive capacity s i)
unfolding arrive
arrive_conserves {capacity} {arrived} s i z k = go (leb (s.held + needs s i) capacity) refl
  where
    go : (b : Bool) → leb (s.held + needs s i) capacity ≡ b → Conserved capacity (arrived + 1) (cond b (taken s i) (missed s i))
    go true e = taken_conserves s i z k (leb-true _ _ e)
    go false e = missed_conserves s i k

pub leave_conserves : {capacity arrived : ℕ} (slots : ℕ) (s : Buffer) → Conserved capacity arrived s → Conserved capacity arrived (leave slots s)
unfolding leave
leave_conserves {capacity} {arrived} slots s k = go (leb s.held slots) refl
  where
    go : (b : Bool) → leb s.held slots ≡ b → Conserved capacity arrived
        (record { stored = s.stored; sent = s.sent + cond b s.held slots; lost = s.lost; held = s.held - cond b s.held slots; unmarked = s.unmarked; bus = s.bus })
    go true e = record { all_items = k.all_items; all_losses = k.all_losses; all_words = omega (arith, k.all_words); room = omega (arith, k.room) }
    go false e = record { all_items = k.all_items; all_losses = k.all_losses; all_words = omega (arith, k.all_words, leb-false s.held slots e); room = omega (arith, k.room) }

-- "Proved: items that arrived are those stored plus those lost; the marks' numbers plus the losses not yet marked are all losses;
-- words stored are those sent and those held", over the whole run
pub replay_conserves : (capacity slots : ℕ) (es : List ℕ) (is : List Item) → Unmarked is → arrivals es ≤ length is
    → (arrived : ℕ) (s : Buffer) → Conserved capacity arrived s → Conserved capacity (arrived + arrivals es) (replay capacity slots es is s)
unfolding replay arrivals
replay_conserves capacity slots [] is z h arrived s k =
    let e : arrived ≡ arrived + 0 = omega arith in
    rw e at k
replay_conserves capacity slots (e ∷ es) [] z h arrived s k = go (eqb e 0) h (replay_conserves capacity slots es [] z)
  where
    go : (b : Bool) → cond b (arrivals es + 1) (arrivals es) ≤ 0
        → (arrivals es ≤ 0 → (n : ℕ) (t : Buffer) → Conserved capacity n t → Conserved capacity (n + arrivals es) (replay capacity slots es [] t))
        → Conserved capacity (arrived + cond b (arrivals es + 1) (arrivals es)) (replay capacity slots es [] (cond b s (leave slots s)))
    go true l ih = absurd (omega arith)
    go false l ih = ih l arrived (leave slots s) (leave_conserves slots s k)
replay_conserves capacity slots (e ∷ es) (i ∷ is) (cons z zs) h arrived s k =
    go (eqb e 0) h (replay_conserves capacity slots es is zs) (replay_conserves capacity slots es (i ∷ is) (cons z zs))
  where
    go : (b : Bool) → cond b (arrivals es + 1) (arrivals es) ≤ length (i ∷ is)
        → (arrivals es ≤ length is → (n : ℕ) (t : Buffer) → Conserved capacity n t → Conserved capacity (n + arrivals es) (replay capacity slots es is t))
        → (arrivals es ≤ length (i ∷ is) → (n : ℕ) (t : Buffer) → Conserved capacity n t → Conserved capacity (n + arrivals es) (replay capacity slots es (i ∷ is) t))
        → Conserved capacity (arrived + cond b (arrivals es + 1) (arrivals es)) (cond b (replay capacity slots es is (arrive capacity s i)) (replay capacity slots es (i ∷ is) (leave slots s)))
    go true l ih jh =
        let q : arrived + 1 + arrivals es ≡ arrived + (arrivals es + 1) = omega arith in
        rw q at (ih (omega arith) (arrived + 1) (arrive capacity s i) (arrive_conserves s i z k))
    go false l ih jh = jh l arrived (leave slots s) (leave_conserves slots s k)

-- ---- the result is a log

-- what is stored may stand in a log, as long as so many arrivals are to come
pub record Loggable (s : Buffer) (coming : ℕ) : Type 0 where
  pub logged : All (Logged on_no_plan) s.stored
  pub bus_low : s.bus < 16
  pub few : s.unmarked + coming < 65536

-- what is logged without a plan has its fields within their ranges
logged_sized : (i : Item) → Logged on_no_plan i → Sized i × (bus_of_item i < 16)
logged_sized i w = sized_of i w.narrow (go (in_time i) w.passed)
  where
    go : (b : Bool) → ◌≡◌ {A = ℕ} (cond b 0 4) 0 → b ≡ true
    go true e = refl
    go false e = absurd (omega arith)

mark_logged : (bus n : ℕ) → bus < 16 → n < 65536 → Logged on_no_plan (Overflow bus n)
unfolding bus_of_item
mark_logged bus n h l = record { narrow = narrow_of (Overflow bus n) l h; passed = rw (in_time_lem (Overflow bus n) l) refl }

arrive_logs : (capacity : ℕ) (s : Buffer) (i : Item) (coming : ℕ) → Logged on_no_plan i → Loggable s (coming + 1) → Loggable (arrive capacity s i) coming
unfolding arrive
arrive_logs capacity s i coming w k = go (leb (s.held + needs s i) capacity)
  where
    with_mark_lem : (b : Bool) → All (Logged on_no_plan) (cond b [] (Overflow s.bus s.unmarked ∷ []) ++ i ∷ [])
    with_mark_lem true = cons w nil
    with_mark_lem false = cons (mark_logged s.bus s.unmarked k.bus_low (omega (arith, k.few))) (cons w nil)

    first_bus : (b : Bool) → cond b (bus_of_item i) s.bus < 16
    first_bus true = (logged_sized i w).1
    first_bus false = k.bus_low

    go : (b : Bool) → Loggable (cond b (taken s i) (missed s i)) coming
    go true = record { logged = all_append k.logged (with_mark_lem (eqb s.unmarked 0)); bus_low = omega arith; few = omega (arith, k.few) }
    go false = record { logged = k.logged; bus_low = first_bus (eqb s.unmarked 0); few = omega (arith, k.few) }

leave_logs : (slots : ℕ) (s : Buffer) (coming : ℕ) → Loggable s coming → Loggable (leave slots s) coming
unfolding leave
leave_logs slots s coming k = record { logged = k.logged; bus_low = k.bus_low; few = k.few }

pub replay_logs : (capacity slots : ℕ) (es : List ℕ) (is : List Item) → All (Logged on_no_plan) is → arrivals es ≤ length is
    → (s : Buffer) → Loggable s (arrivals es) → Loggable (replay capacity slots es is s) 0
unfolding replay arrivals
replay_logs capacity slots [] is z h s k = k
replay_logs capacity slots (e ∷ es) [] z h s k = go (eqb e 0) h k (replay_logs capacity slots es [] z)
  where
    go : (b : Bool) → cond b (arrivals es + 1) (arrivals es) ≤ 0 → Loggable s (cond b (arrivals es + 1) (arrivals es))
        → (arrivals es ≤ 0 → (t : Buffer) → Loggable t (arrivals es) → Loggable (replay capacity slots es [] t) 0)
        → Loggable (replay capacity slots es [] (cond b s (leave slots s))) 0
    go true l k ih = absurd (omega arith)
    go false l k ih = ih l (leave slots s) (leave_logs slots s (arrivals es) k)
replay_logs capacity slots (e ∷ es) (i ∷ is) (cons z zs) h s k =
    go (eqb e 0) h k (replay_logs capacity slots es is zs) (replay_logs capacity slots es (i ∷ is) (cons z zs))
  where
    go : (b : Bool) → cond b (arrivals es + 1) (arrivals es) ≤ length (i ∷ is) → Loggable s (cond b (arrivals es + 1) (arrivals es))
        → (arrivals es ≤ length is → (t : Buffer) → Loggable t (arrivals es) → Loggable (replay capacity slots es is t) 0)
        → (arrivals es ≤ length (i ∷ is) → (t : Buffer) → Loggable t (arrivals es) → Loggable (replay capacity slots es (i ∷ is) t) 0)
        → Loggable (cond b (replay capacity slots es is (arrive capacity s i)) (replay capacity slots es (i ∷ is) (leave slots s))) 0
    go true l k ih jh = ih (omega arith) (arrive capacity s i) (arrive_logs capacity s i (arrivals es) z k)
    go false l k ih jh = jh l (leave slots s) (leave_logs slots s (arrivals es) k)

pub arrivals_few : (es : List ℕ) → arrivals es ≤ length es
unfolding arrivals
arrivals_few [] = omega arith
arrivals_few (e ∷ es) = go (eqb e 0) (arrivals_few es)
  where
    go : (b : Bool) → arrivals es ≤ length es → cond b (arrivals es + 1) (arrivals es) ≤ length (e ∷ es)
    go true h = omega arith
    go false h = omega arith
