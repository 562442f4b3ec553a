-- What picking and joining that succeed went by (document 02, K7).
use Rattle.std.specs.Prelude.{ℕ, ◌+◌, ◌^◌, ◌<◌, ◌≤◌, Bool, true, false, cond, ◌&&◌, ◌≡◌, refl, length, leb}
use Rattle.std.proofs.Common.{arith, length-append, le-leb, leb-true}
use mathlib.Core.List.{List, [], ◌∷◌, ◌++◌, flat_map}
use Rattle.std.proofs.lemmas.Bool.{lt-leb}
use Rattle.format.specs.Lists.{All, Bytes, list}
use Rattle.format.specs.Item.{item_bits}
use Rattle.format.specs.Log.{Parsed, items, fault, parsed, on_no_plan, log_of}
use Rattle.format.specs.Compose.{Composed, made, refused}
use Rattle.log_rules.specs.Pick.{keep, in_set, in_turn, on_buses, log_in, of_items, picked, joined}
use Rattle.format.specs.Laws.Tests.{and_true}
use Rattle.format.specs.Laws.Log.Back.{Logged}
use Rattle.log_rules.specs.Laws.Logs.{LogOf, log_of_lem, log_new, all_keep, length_log}
use Rattle.log_rules.specs.Laws.Scripts.InTurn.{turn_all}
use Rattle.format.specs.declared.Item.{Item}

pub not_made : {A : Type 0} {n p : ℕ} {c : List ℕ} → refused n p ≡ made c → A
not_made e = let z : ◌≡◌ {A = ℕ} 0 1 = cc in absurd (omega arith)

pub same_made : {a b : List ℕ} → made a ≡ made b → a ≡ b
same_made e = cc

-- a log that has room
pub logged_in : (room : ℕ) (is : List Item) (out : List ℕ) → All (Logged on_no_plan) is → log_in room is ≡ made out → LogOf out is
logged_in room is out w e = go (leb (length (log_of is)) 32768 && leb (length (log_of is)) room) refl e
  where
    go : (b : Bool) → (leb (length (log_of is)) 32768 && leb (length (log_of is)) room) ≡ b → cond b (made (log_of is)) (refused 6 (length (log_of is))) ≡ made out → LogOf out is
    go true t z = rw (same_made z) at (log_new is w (leb-true _ _ (and_true _ _ t).0))
    go false t z = not_made z

-- what is made of a log's items
items_from : (r : Parsed) (make : List Item → Composed) (out : List ℕ) → of_items r make ≡ made out → (is : List Item) × (r ≡ items is)
items_from (items is) make out e = (is, refl)
items_from (fault n p) make out e = not_made e

-- the log that is picked from has items, and what is picked is the log of those on the buses
pub pick_from : (log : List ℕ) (set room : ℕ) (out : List ℕ) → Bytes log → picked log set room ≡ made out → (is : List Item) × LogOf log is
unfolding picked
pick_from log set room out b e =
    let r = items_from (parsed on_no_plan log) (λ is. log_in room (keep (on_buses set) is)) out e in
    (r.0, log_of_lem log r.0 b r.1)

pub pick_gives : {log : List ℕ} {is : List Item} (set room : ℕ) (out : List ℕ) → LogOf log is → picked log set room ≡ made out → LogOf out (keep (on_buses set) is)
unfolding picked
pick_gives {log} {is} set room out l e = logged_in room (keep (on_buses set) is) out (all_keep (on_buses set) l.logged) (rw l.parses at e)

-- the two logs that are joined have items, and the joined log is the log of both
pub join_from : (first second : List ℕ) (room : ℕ) (out : List ℕ) → Bytes first → Bytes second → joined first second room ≡ made out
    → (is : List Item) × (js : List Item) × LogOf first is × LogOf second js
unfolding joined
join_from first second room out a b e =
    let r = items_from (parsed on_no_plan first) (λ is. of_items (parsed on_no_plan second) (λ js. log_in room (in_turn is js))) out e in
    let f : of_items (parsed on_no_plan second) (λ js. log_in room (in_turn r.0 js)) ≡ made out = rw r.1 at e in
    let s = items_from (parsed on_no_plan second) (λ js. log_in room (in_turn r.0 js)) out f in
    (r.0, s.0, log_of_lem first r.0 a r.1, log_of_lem second s.0 b s.1)

pub join_gives : {first second : List ℕ} {is js : List Item} (room : ℕ) (out : List ℕ) → LogOf first is → LogOf second js → joined first second room ≡ made out → LogOf out (in_turn is js)
unfolding joined
join_gives {is = is} {js = js} room out a b e = logged_in room (in_turn is js) out (turn_all a.logged b.logged) (rw (a.parses, b.parses) at e)

-- what is picked has room where its log has
pub fewer_bits : (f : Item → Bool) (is : List Item) → length (flat_map item_bits (keep f is)) ≤ length (flat_map item_bits is)
unfolding keep flat_map
fewer_bits f [] = omega arith
fewer_bits f (i ∷ is) = go (f i) (fewer_bits f is)
  where
    go : (b : Bool) → length (flat_map item_bits (keep f is)) ≤ length (flat_map item_bits is)
        → length (flat_map item_bits (cond b (i ∷ keep f is) (keep f is))) ≤ length (item_bits i ++ flat_map item_bits is)
    go true h = rw (length-append (item_bits i) (flat_map item_bits (keep f is)), length-append (item_bits i) (flat_map item_bits is)) (omega arith)
    go false h = rw (length-append (item_bits i) (flat_map item_bits is)) (omega arith)

pub pick_fits : {log : List ℕ} {is : List Item} (set room : ℕ) → LogOf log is → length log ≤ room → picked log set room ≡ made (log_of (keep (on_buses set) is))
unfolding picked
pick_fits {log} {is} set room l h =
    let n : length (log_of is) ≤ 32768 = rw l.bytes l.short in
    let m : length (log_of is) ≤ room = rw l.bytes h in
    let k = fewer_bits (on_buses set) is in
    let s : length (log_of (keep (on_buses set) is)) ≤ length (log_of is) = omega (arith, (length_log is).0, (length_log (keep (on_buses set) is)).1) in
    rw (l.parses, le-leb (length (log_of (keep (on_buses set) is))) 32768 (omega arith), le-leb (length (log_of (keep (on_buses set) is))) room (omega arith)) refl

-- ---- refusals, and room for two

pub pick_refuses : (log : List ℕ) (set room n p : ℕ) → parsed on_no_plan log ≡ fault n p → picked log set room ≡ refused n p
unfolding picked
pick_refuses log set room n p e = rw e refl

pub join_refuses_first : (first second : List ℕ) (room n p : ℕ) → parsed on_no_plan first ≡ fault n p → joined first second room ≡ refused n p
unfolding joined
join_refuses_first first second room n p e = rw e refl

pub join_refuses_second : {first : List ℕ} {is : List Item} (second : List ℕ) (room n p : ℕ) → LogOf first is → parsed on_no_plan second ≡ fault n p → joined first second room ≡ refused n p
unfolding joined
join_refuses_second second room n p a e = rw (a.parses, e) refl

pub join_refuses_long : {first second : List ℕ} {is js : List Item} (room : ℕ) → LogOf first is → LogOf second js → 32768 < length (log_of (in_turn is js))
    → joined first second room ≡ refused 6 (length (log_of (in_turn is js)))
unfolding joined
join_refuses_long {is = is} {js = js} room a b h = rw (a.parses, b.parses, lt-leb (length (log_of (in_turn is js))) 32768 h) refl

pub join_fits : {first second : List ℕ} {is js : List Item} (room : ℕ) → LogOf first is → LogOf second js → length (log_of (in_turn is js)) ≤ 32768 → length (log_of (in_turn is js)) ≤ room
    → joined first second room ≡ made (log_of (in_turn is js))
unfolding joined
join_fits {is = is} {js = js} room a b h k = rw (a.parses, b.parses, le-leb (length (log_of (in_turn is js))) 32768 h, le-leb (length (log_of (in_turn is js))) room k) refl

-- ---- the set of one code

pub one_code : list (λ c. keep (in_set (2 ^ c)) (list (λ b. b) 0 16)) 0 16 ≡ list (λ c. c ∷ []) 0 16
unfolding list keep
one_code = refl
