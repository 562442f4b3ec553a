-- There and back: what composing makes, both readings give back.
use Rattle.std.specs.Prelude.{ℕ, ◌+◌, ◌*◌, ◌/◌, ◌%◌, ◌<◌, ◌≤◌, Bool, true, false, cond, ◌≡◌, refl, length, get_or, eqb, leb}
use Rattle.std.proofs.Common.{mul-le-mul_right, mul-div_cancel, arith, ap, ◌∙◌, sym, eqb-true, le-leb}
use Rattle.std.proofs.Math.Nat.{add-mul-mod_self_left, zero-mod}
use mathlib.Core.List.{List, flat_map}
use Rattle.format.specs.Plan.{legal, group_words}
use Rattle.format.specs.Item.{item_words}
use Rattle.format.specs.Log.{parsed, on_plan, Parsed, items, fault, log_of}
use Rattle.format.specs.Lists.{list, All, Bytes}
use Rattle.format.specs.Group.{group, group_slots, group_time, Fault, none, found}
use Rattle.format.specs.Compose.{Composed, made, refused, composed, compose_parsed, unless_open, compose_words, capture_of, dealt_for, groups_for, first_late}
use Rattle.format.specs.Read.{gives, reading, read_groups, misplaced, settled, got, groups_in}
use Rattle.format.specs.Lawful.{Sound}
use Rattle.format.specs.Time.{time_end}
use Rattle.format.specs.Laws.Lists.{all_map, length_blocks, list_is}
use Rattle.format.specs.Laws.Log.Forth.{log_forth}
use Rattle.format.specs.Laws.Composed.Frames.{group_length}
use Rattle.format.specs.Laws.Composed.Faultless.{time_back}
use Rattle.format.proofs.Laws.Composed.Read.{composed_read, words_data}
use Rattle.format.proofs.Laws.Composed.Closed.{composed_closed}
use Rattle.format.specs.Notices.{open_fault, bit_of}
use Rattle.format.specs.Laws.Notices.{Answered, none_answered, answered_read}
use Rattle.format.specs.Laws.Limits.{free, long, room}
use Rattle.format.specs.Laws.Legal.{Legal, legal_is, logged_sound, timely}
use Rattle.format.specs.Laws.Composed.Length.{small, words_few}
use Rattle.format.specs.Laws.Word.Bytes.{bytes_three}
use Rattle.format.specs.declared.Plan.{Plan}
use Rattle.format.specs.declared.Item.{Item}
use Rattle.format.specs.declared.Kind.{Kind}
use Rattle.format.specs.declared.Held.TheVariants.{Nothing}

-- what composing made
pub record ComposedOf (p : Plan) (ks : List Kind) (log times c : List ℕ) : Type 0 where
  pub lawful : legal p ks ≡ true
  pub its : List Item
  pub parses : parsed (on_plan ks) log ≡ items its
  pub answered : Answered its
  pub needs : length times ≡ cond p.frame_time (groups_for p (length (flat_map item_words its))) 0
  pub early : first_late 0 times ≡ length times
  pub capture : capture_of p times (flat_map item_words its) ≡ c

abbrev pub MadeBy : Plan → List Kind → List ℕ → List ℕ → Composed → Type 0
MadeBy p ks log times (made c) = ComposedOf p ks log times c
MadeBy p ks log times (refused n q) = Unit {0}

made_words : (p : Plan) (ks : List Kind) (log times : List ℕ) (space : ℕ) (is : List Item) → legal p ks ≡ true → parsed (on_plan ks) log ≡ items is
    → Answered is → MadeBy p ks log times (compose_words p times space (flat_map item_words is))
unfolding compose_words
made_words p ks log times space is l e o = go (eqb (length times) need) refl
  where
    n : ℕ
    n = groups_for p (length (flat_map item_words is))

    need : ℕ
    need = cond p.frame_time n 0

    bytes : ℕ
    bytes = n * (3 * group_words p)

    last : eqb (length times) need ≡ true → eqb (first_late 0 times) (length times) ≡ true → (b : Bool)
        → MadeBy p ks log times (cond b (made (capture_of p times (flat_map item_words is))) (refused 6 bytes))
    last t u true = record { lawful = l; its = is; parses = e; answered = o; needs = eqb-true _ _ t; early = eqb-true _ _ u; capture = refl }
    last t u false = tt

    next : eqb (length times) need ≡ true → (b : Bool) → eqb (first_late 0 times) (length times) ≡ b
        → MadeBy p ks log times (cond b (cond (leb bytes space) (made (capture_of p times (flat_map item_words is))) (refused 6 bytes)) (refused 5 (first_late 0 times)))
    next t true u = last t u (leb bytes space)
    next t false u = tt

    go : (b : Bool) → eqb (length times) need ≡ b
        → MadeBy p ks log times (cond b (cond (eqb (first_late 0 times) (length times)) (cond (leb bytes space) (made (capture_of p times (flat_map item_words is))) (refused 6 bytes)) (refused 5 (first_late 0 times))) (refused 5 need))
    go true t = next t (eqb (first_late 0 times) (length times)) refl
    go false t = tt

pub made_by : (p : Plan) (ks : List Kind) (log times : List ℕ) (space : ℕ) → MadeBy p ks log times (composed p ks log times space)
unfolding composed
made_by p ks log times space = go (legal p ks) refl
  where
    found_open : legal p ks ≡ true → (is : List Item) → parsed (on_plan ks) log ≡ items is → (f : Fault) → open_fault (bit_of is) is ≡ f
        → MadeBy p ks log times (unless_open f (compose_words p times space (flat_map item_words is)))
    found_open l is e none o = made_words p ks log times space is l e (none_answered (bit_of is) is o)
    found_open l is e (found n q) o = tt

    inner : legal p ks ≡ true → (r : Parsed) → parsed (on_plan ks) log ≡ r → MadeBy p ks log times (compose_parsed p times space r)
    inner l (items is) e = found_open l is e (open_fault (bit_of is) is) refl
    inner l (fault n q) e = tt

    go : (b : Bool) → legal p ks ≡ b → MadeBy p ks log times (cond b (compose_parsed p times space (parsed (on_plan ks) log)) (refused 1 0))
    go true l = inner l (parsed (on_plan ks) log) refl
    go false l = tt

-- the bytes of a capture
pub capture_length : (p : Plan) → 2 ≤ p.words → 1 ≤ p.tracks → (times ws : List ℕ) → length (capture_of p times ws) ≡ groups_for p (length ws) * (3 * group_words p)
unfolding capture_of
capture_length p l s times ws =
    let W : List ℕ = flat_map (λ (g : ℕ). group p (dealt_for p times ws g)) (list (λ g. g) 0 (groups_for p (length ws))) in
    let b : length W ≡ groups_for p (length ws) * group_words p = length_blocks (λ (g : ℕ). group p (dealt_for p times ws g)) (group_words p) (λ g. group_length p l s (dealt_for p times ws g)) 0 (groups_for p (length ws)) in
    bytes_three W ∙ rw b (omega arith)

-- the times that are read
times_back : (p : Plan) (ks : List Kind) → Legal p ks → (times ws : List ℕ) → ((g : ℕ) → get_or times g 0 < time_end)
    → length times ≡ cond p.frame_time (groups_for p (length ws)) 0
    → list (λ g. group_time p (capture_of p times ws) (g * group_words p)) 0 (length times) ≡ times
times_back p ks l times ws t e = list_is (λ g. group_time p (capture_of p times ws) (g * group_words p)) times 0 (λ g h. go p.frame_time refl g h)
  where
    go : (b : Bool) → p.frame_time ≡ b → (g : ℕ) → g < length times → group_time p (capture_of p times ws) ((0 + g) * group_words p) ≡ get_or times g 0
    go true f g h =
        let n : length times ≡ groups_for p (length ws) = e ∙ ap (λ (b : Bool). cond b (groups_for p (length ws)) 0) f in
        let z : 0 + g ≡ g = omega arith in
        rw z (time_back p (long p l.shape) l.shape.tracks_least (room p l.shape) times ws t g (omega arith) f)
    go false f g h =
        let n : length times ≡ 0 = e ∙ ap (λ (b : Bool). cond b (groups_for p (length ws)) 0) f in
        absurd (omega arith)

whole_groups : (n k : ℕ) → 1 ≤ k → (n * k % k ≡ 0) × (n * k / k ≡ n)
whole_groups n k h =
    let a : (0 + k * n) % k ≡ 0 % k = add-mul-mod_self_left 0 k n in
    let b : 0 + k * n ≡ n * k = omega arith in
    (rw b at a ∙ zero-mod k, mul-div_cancel n h)

-- the last steps of a reading that has the items
settle : (p : Plan) (c : List ℕ) (n log_room time_room : ℕ) (closed : Bool) (is : List Item) (log times : List ℕ)
    → Answered is → misplaced p (list (λ g. group_slots p c (g * group_words p)) 0 n) ≡ none → log_of is ≡ log → length log ≤ 32768 → length log ≤ log_room
    → length times ≡ cond p.frame_time n 0 → length times ≤ time_room → list (λ g. group_time p c (g * group_words p)) 0 (length times) ≡ times
    → settled p c n log_room time_room closed (got is) ≡ gives log times
settle p c n log_room time_room closed is log times o m e l1 l2 t t2 b =
    rw (answered_read p c n is o, m, same closed, e, ← t, le-leb (length log) 32768 l1, le-leb (length log) log_room l2, le-leb (length times) time_room t2, b)
  where
    same : (b : Bool) → ◌≡◌ {A = Fault} (cond b none none) none
    same true = refl
    same false = refl

-- a reading of what was composed of the items
read_back : (p : Plan) (ks : List Kind) (log times : List ℕ) (is : List Item) (log_room time_room : ℕ) (closed : Bool) → legal p ks ≡ true
    → All (Sound ks p.parity) is → Answered is → ((g : ℕ) → get_or times g 0 < time_end)
    → log_of is ≡ log → length log ≤ 32768 → length log ≤ log_room
    → length times ≡ cond p.frame_time (groups_for p (length (flat_map item_words is))) 0 → length times ≤ time_room
    → length (capture_of p times (flat_map item_words is)) ≤ 1048576
    → reading closed p ks (capture_of p times (flat_map item_words is)) log_room time_room ≡ gives log times
unfolding reading
read_back p ks log times is log_room time_room closed g s o t e l1 l2 k t2 small =
    let l : Legal p ks = legal_is p ks g in
    let ws : List ℕ = flat_map item_words is in
    let n : ℕ = groups_for p (length ws) in
    let len : length (capture_of p times ws) ≡ n * (3 * group_words p) = capture_length p (long p l.shape) l.shape.tracks_least times ws in
    let pos : 1 ≤ 3 * group_words p = omega (arith, l.shape.words_least, mul-le-mul_right p.words l.shape.tracks_least) in
    let w = whole_groups n (3 * group_words p) pos in
    let r : read_groups p ks (capture_of p times ws) n 0 Nothing 0 ≡ got is = composed_read p (long p l.shape) l.shape.tracks_least (room p l.shape) (free p l.shape) l.shape.named l.shape.filling ks times t is s in
    rw (g, le-leb (length (capture_of p times ws)) 1048576 small, len, w.0, w.1, r)
    (settle p (capture_of p times ws) n log_room time_room closed is log times o
    (composed_closed p (long p l.shape) l.shape.tracks_least (free p l.shape) l.shape.filling times ws (words_data ks p.parity is s)) e l1 l2 k t2 (times_back p ks l times ws t k))

-- there and back
pub there_and_back : (p : Plan) (ks : List Kind) (log times c : List ℕ) (space log_room time_room : ℕ) (closed : Bool) → Bytes log
    → composed p ks log times space ≡ made c → length log ≤ log_room → length times ≤ time_room → reading closed p ks c log_room time_room ≡ gives log times
there_and_back p ks log times c space log_room time_room closed bytes e l2 t2 = go c (rw e at (made_by p ks log times space))
  where
    go : (c : List ℕ) → ComposedOf p ks log times c → reading closed p ks c log_room time_room ≡ gives log times
    go c m =
        let f = log_forth (on_plan ks) log m.its bytes m.parses in
        let l : Legal p ks = legal_is p ks m.lawful in
        let ws : List ℕ = flat_map item_words m.its in
        let few : length ws ≤ 15420 = words_few m.its (rw f.0 f.2) in
        let h : length (capture_of p times ws) ≤ 1048576 = rw (capture_length p (long p l.shape) l.shape.tracks_least times ws) (small p l.shape (length ws) few) in
        rw m.capture
        at (read_back p ks log times m.its log_room time_room closed m.lawful (all_map (λ i w. logged_sound p ks l i w) f.1) m.answered (timely times m.early)
        f.0 f.2 l2 m.needs t2 h)

-- a capture has as many groups as its words need
pub made_groups : {p : Plan} {ks : List Kind} {log times c : List ℕ} → (m : ComposedOf p ks log times c)
    → (length c ≡ groups_for p (length (flat_map item_words m.its)) * (3 * group_words p)) × (groups_in p c ≡ groups_for p (length (flat_map item_words m.its)))
made_groups {p} {ks} {times = times} {c = c} m =
    let l : Legal p ks = legal_is p ks m.lawful in
    let ws : List ℕ = flat_map item_words m.its in
    let n : ℕ = groups_for p (length ws) in
    let pos : 1 ≤ 3 * group_words p = omega (arith, l.shape.words_least, mul-le-mul_right p.words l.shape.tracks_least) in
    let len : length c ≡ n * (3 * group_words p) = ap length (sym m.capture) ∙ capture_length p (long p l.shape) l.shape.tracks_least times ws in
    (len, ap (λ (x : ℕ). x / (3 * group_words p)) len ∙ (whole_groups n (3 * group_words p) pos).1)

-- what was composed fits into the largest log and one time a group
pub made_fits : (p : Plan) (ks : List Kind) (log times c : List ℕ) (space : ℕ) → Bytes log → composed p ks log times space ≡ made c
    → (length log ≤ 32768) × (length times ≤ groups_in p c)
made_fits p ks log times c space bytes e = go c (rw e at (made_by p ks log times space))
  where
    few : (b : Bool) (n : ℕ) → cond b n 0 ≤ n
    few true n = omega arith
    few false n = omega arith

    go : (c : List ℕ) → ComposedOf p ks log times c → (length log ≤ 32768) × (length times ≤ groups_in p c)
    go c m =
        let n : ℕ = groups_for p (length (flat_map item_words m.its)) in
        ((log_forth (on_plan ks) log m.its bytes m.parses).2, rw (made_groups m).1 (omega (arith, few p.frame_time n, m.needs)))
