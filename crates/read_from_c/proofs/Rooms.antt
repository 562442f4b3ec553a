-- Room for more times than a capture has groups makes no difference; and the times given, as bytes.
use Prim.Native.Nat.{ℕ, zero, suc, ◌+◌, ◌*◌, ◌-◌, ◌/◌, ◌%◌, ◌<◌, ◌≤◌}
use native.Mathlib.Nat.{mul-le-mul_left, mul-le-mul_right, div-mul-le_self}
use native.Mathlib.Decide.{dec_lt}
use native.Mathlib.Omega.{arith}
use mathlib.Core.Bool.{Bool, true, false, cond, ◌&&◌}
use mathlib.Core.Path.{◌≡◌, refl, sym, ap, subst, ◌∙◌}
use mathlib.Core.List.{List, [], ◌∷◌, ◌++◌, append_assoc, flat_map}
use lib.ListN.{length, length-append, take, drop}
use lib.Seq.{take_at}
use lib.Dec.{eqb, leb}
use borrow.Author.Tests.{le-leb, leb-true, leb-false}
use Rattle.format.specs.Answer.{Given, over, refusal}
use Rattle.format.specs.Group.{Fault, none, found, group_time, group_slots}
use Rattle.format.specs.Lists.{list}
use Rattle.format.specs.Log.{log_of}
use Rattle.format.specs.Plan.{group_words, legal, times_needed}
use Rattle.format.specs.Read.{Got, got, stopped, Reading, gives, refuses, misplaced, read_groups, reading, roomed, settled, unless_found, open_in}
use Rattle.format.specs.declared.Answer.{Answer}
use Rattle.format.specs.declared.Held.TheVariants.{Nothing}
use Rattle.format.specs.declared.Kind.{Kind}
use Rattle.format.specs.declared.Plan.{Plan}
use Rattle.from_c.specs.Numbers.{time_bytes}
use Rattle.read_from_c.specs.Reading.{GivenBytes}
use Rattle.format.specs.Laws.Tests.{and_true}
use Rattle.format.specs.Laws.Limits.{groups_most, least_group_bytes}
use Rattle.format.specs.Laws.Lists.{length_list}
use Rattle.format.specs.Laws.Legal.{shape_of}
use Rattle.capture_parts.proofs.Given.{times_few}

-- the times given are no more than there is room for
abbrev pub Few : ℕ → Reading → Type 0
Few T (gives log ts) = length ts ≤ T
Few T (refuses n q second) = Unit {0}

module _ (closed : Bool) (p : Plan) (ks : List Kind) (c : List ℕ) (log_room : ℕ) where
  abbrev size : ℕ
  size = 3 * group_words p

  abbrev whole : Bool
  whole = leb (length c) 1048576 && eqb (length c % size) 0

  abbrev all : ℕ → Reading
  all T = settled p c (length c / size) log_room T closed (read_groups p ks c (length c / size) 0 Nothing 0)

  module _ (T U : ℕ) (t : length c ≤ 1048576 → length c / least_group_bytes ≤ T) (u : length c ≤ 1048576 → length c / least_group_bytes ≤ U) where
    roomed_same : (n : ℕ) → n ≤ T → n ≤ U → (log : List ℕ) → roomed p c n log_room T log ≡ roomed p c n log_room U log
    roomed_same n h k log =
        let few = times_few p n in
        rw (le-leb (times_needed p n) T (omega (arith, few)), le-leb (times_needed p n) U (omega (arith, few))) refl

    settled_same : (n : ℕ) → n ≤ T → n ≤ U → (g : Got) → settled p c n log_room T closed g ≡ settled p c n log_room U closed g
    settled_same n h k (stopped r at second) = refl
    settled_same n h k (got is) =
        ap (λ (r : Reading). unless_found (open_in p c n is) (unless_found (cond closed (misplaced p (list (λ g. group_slots p c (g * group_words p)) 0 n)) none) r)) (roomed_same n h k (log_of is))

    pub room_enough : reading closed p ks c log_room T ≡ reading closed p ks c log_room U
    unfolding reading
    room_enough = go (legal p ks) refl
      where
        of : legal p ks ≡ true → (b : Bool) → whole ≡ b → cond b (all T) (refuses 8 (length c) 0) ≡ cond b (all U) (refuses 8 (length c) 0)
        of e true f =
            let s : length c ≤ 1048576 = leb-true (length c) 1048576 (and_true _ _ f).0 in
            let k = groups_most p (shape_of p ks e) (length c) in
            settled_same (length c / size) (omega (arith, k, t s)) (omega (arith, k, u s)) (read_groups p ks c (length c / size) 0 Nothing 0)
        of e false f = refl

        go : (b : Bool) → legal p ks ≡ b → cond b (cond whole (all T) (refuses 8 (length c) 0)) (refuses 1 0 0) ≡ cond b (cond whole (all U) (refuses 8 (length c) 0)) (refuses 1 0 0)
        go true e = of e whole refl
        go false e = refl

  few_roomed : (n T : ℕ) (log : List ℕ) → Few T (roomed p c n log_room T log)
  few_roomed n T log = go (leb (length log) 32768 && leb (length log) log_room) (leb (times_needed p n) T) refl
    where
      go : (a b : Bool) → leb (times_needed p n) T ≡ b → Few T (cond a (cond b (gives log (list (λ g. group_time p c (g * group_words p)) 0 (times_needed p n))) (refuses 7 (times_needed p n) 0)) (refuses 6 (length log) 0))
      go true true e = rw (length_list (λ g. group_time p c (g * group_words p)) 0 (times_needed p n)) (leb-true _ _ e)
      go true false e = tt
      go false b e = tt

  few_unless_found : (T : ℕ) (f : Fault) (r : Reading) → Few T r → Few T (unless_found f r)
  few_unless_found T none r h = h
  few_unless_found T (found k at) r h = tt

  few_settled : (n T : ℕ) (g : Got) → Few T (settled p c n log_room T closed g)
  few_settled n T (stopped k at second) = tt
  few_settled n T (got is) =
      let fill : Fault = cond closed (misplaced p (list (λ g. group_slots p c (g * group_words p)) 0 n)) none in
      few_unless_found T (open_in p c n is) (unless_found fill (roomed p c n log_room T (log_of is))) (few_unless_found T fill (roomed p c n log_room T (log_of is)) (few_roomed n T (log_of is)))

  pub few_times : (T : ℕ) → Few T (reading closed p ks c log_room T)
  unfolding reading
  few_times T = go (legal p ks) whole
    where
      go : (a b : Bool) → Few T (cond a (cond b (all T) (refuses 8 (length c) 0)) (refuses 1 0 0))
      go true true = few_settled (length c / size) T (read_groups p ks c (length c / size) 0 Nothing 0)
      go true false = tt
      go false b = tt

-- a row that has an entry for every time that there is room for, or for every group of a capture
pub least_enough : (closed : Bool) (p : Plan) (ks : List Kind) (c : List ℕ) (log_room T row k : ℕ) → (row < T → length c ≤ 1048576 → length c / least_group_bytes ≤ row) → k ≡ cond (leb T row) T row
    → reading closed p ks c log_room T ≡ reading closed p ks c log_room k
least_enough closed p ks c log_room T row k h e = go (leb T row) refl e
  where
    go : (b : Bool) → leb T row ≡ b → k ≡ cond b T row → reading closed p ks c log_room T ≡ reading closed p ks c log_room k
    go true f e = ap (reading closed p ks c log_room) (sym e)
    go false f e =
        let l : row < T = leb-false T row f in
        room_enough closed p ks c log_room T k (λ s. omega (arith, h l s)) (λ s. rw e (h l s))

pub least_both : (T row k : ℕ) → k ≡ cond (leb T row) T row → (k ≤ T) × (k ≤ row)
least_both T row k e = go (leb T row) refl e
  where
    go : (b : Bool) → leb T row ≡ b → k ≡ cond b T row → (k ≤ T) × (k ≤ row)
    go true f e = (omega arith, omega (arith, leb-true T row f))
    go false f e = (omega (arith, leb-false T row f), omega arith)

-- as many times are put as were given, and what was given
module _ (r : Answer) (log log' part part' : List ℕ) where
  pub given_few : (T : ℕ) (g : Reading) → Few T g → Given g r log log' part part' → r.times ≤ T
  given_few T (gives l ts) h e = rw e.0 h
  given_few T (refuses n q second) h e = rw e.0 (omega arith)

  pub given_there : (g : Reading) → Given g r log log' part part' → r.times ≤ length part'
  given_there (gives l ts) e = rw (e.0, e.2, length-append ts (drop (length ts) part)) (omega arith)
  given_there (refuses n q second) e = rw e.0 (omega arith)

  pub given_bytes : (times times' row : List ℕ) (g : Reading) → Given g r log log' part part' → times' ≡ over (flat_map time_bytes (take r.times (part' ++ row))) times
      → GivenBytes g r log log' times times'
  unfolding flat_map
  given_bytes times times' row (gives l ts) e z =
      let k : take r.times (part' ++ row) ≡ ts = rw (e.0, e.2) (ap (take (length ts)) (append_assoc ts (drop (length ts) part) row) ∙ take_at ts (drop (length ts) part ++ row) (length ts) refl) in
      let t : times' ≡ over (flat_map time_bytes ts) times = z ∙ ap (λ (x : List ℕ). over (flat_map time_bytes x) times) k in
      (cc, cc, cc)
  given_bytes times times' row (refuses n q second) e z =
      let k : take r.times (part' ++ row) ≡ [] = rw e.0 refl in
      let t : times' ≡ times = z ∙ ap (λ (x : List ℕ). over (flat_map time_bytes x) times) k in
      (cc, cc, cc)

-- a refusal leaves both runs as they were
pub given_none : (r : Answer) (log times : List ℕ) (n q second : ℕ) → r ≡ refusal n q second → GivenBytes (refuses n q second) r log log times times
given_none r log times n q second e = (cc, cc, cc)
