-- Bytes fed one after the other: the cutting does not matter, and whole groups are taken whole.
use Rattle.std.specs.Prelude.{ℕ, zero, suc, ◌+◌, ◌*◌, ◌/◌, ◌%◌, ◌≤◌, ◌<◌, Bool, true, false, cond, ◌≡◌, refl, length, ltb}
use Rattle.std.proofs.Common.{arith, ap, sym, ◌∙◌, ap₂, length-append, lt-ltb, le-ltb, ltb-false}
use mathlib.Core.List.{List, [], ◌∷◌, ◌++◌, append_assoc, append-nil, flat_map}
use Rattle.std.proofs.Math.Seq.{append_snoc}
use Rattle.stream_rules.specs.Stream.{Carry, Brought, brings, stops, take_group, group_size, Working, State, closed, failed, working, count_of, Flow, still, flowed, taken, keeps, feed_byte, feed_bytes}
use Rattle.format.specs.declared.Kind.{Kind}
use Rattle.format.specs.declared.Plan.{Plan}

same_flow : (a b : List ℕ) (s t u v : List ℕ) (x y : State) → a ≡ b → s ≡ t → x ≡ y
    → ◌≡◌ {A = Flow} (record { log = a; times = s; state = x }) (record { log = b; times = t; state = y })
same_flow a b s t u v x y e f g = rw (e, f, g)

pub flowed_assoc : (f g h : Flow) → flowed (flowed f g) h ≡ flowed f (flowed g h)
flowed_assoc f g h = same_flow _ _ _ _ [] [] _ _ (append_assoc f.log g.log h.log) (append_assoc f.times g.times h.times) refl

-- "All cuttings of one capture": a piece after another is both as one
pub feed_append : (s : State) (xs ys : List ℕ) → feed_bytes s (xs ++ ys) ≡ flowed (feed_bytes s xs) (feed_bytes (feed_bytes s xs).state ys)
unfolding feed_bytes
feed_append s [] ys = refl
feed_append s (x ∷ xs) ys =
    ap (flowed (feed_byte s x)) (feed_append (feed_byte s x).state xs ys)
    ∙ sym (flowed_assoc (feed_byte s x) (feed_bytes (feed_byte s x).state xs) (feed_bytes (feed_bytes (feed_byte s x).state xs).state ys))

-- after a fault, and after the close, nothing is read
pub feed_failed : (k q second : ℕ) (xs : List ℕ) → feed_bytes (failed k q second) xs ≡ still (failed k q second)
unfolding feed_bytes
feed_failed k q second [] = refl
feed_failed k q second (x ∷ xs) = rw (feed_failed k q second xs)

pub feed_closed : (xs : List ℕ) → feed_bytes closed xs ≡ still closed
unfolding feed_bytes
feed_closed [] = refl
feed_closed (x ∷ xs) = rw (feed_closed xs)

taken_keeps : (w : Working) (u v : List ℕ) (b : Brought) → taken (keeps w u) v b ≡ taken w v b
taken_keeps w u v (stops k q second) = refl
taken_keeps w u v (brings is x) = refl

-- less than a group waits
pub feed_part : (w : Working) (xs : List ℕ) → length w.waiting + length xs < group_size w.plan
    → feed_bytes (working w) xs ≡ still (working (keeps w (w.waiting ++ xs)))
unfolding feed_bytes
feed_part w [] h = ap (λ (l : List ℕ). still (working (keeps w l))) (sym (append-nil w.waiting))
feed_part w (x ∷ xs) h =
    let l : length (w.waiting ++ x ∷ []) ≡ length w.waiting + 1 = length-append w.waiting (x ∷ []) in
    let t : ltb (length (w.waiting ++ x ∷ [])) (group_size w.plan) ≡ true = lt-ltb (length (w.waiting ++ x ∷ [])) (group_size w.plan) (omega (arith, l, h)) in
    rw t (feed_part (keeps w (w.waiting ++ x ∷ [])) xs (omega (arith, l, h)) ∙ ap (λ (u : List ℕ). still (working (keeps w u))) (append_snoc w.waiting x xs))

-- the last byte of a group takes it
pub feed_group : (w : Working) (x : ℕ) (xs : List ℕ) → length w.waiting + length (x ∷ xs) ≡ group_size w.plan
    → feed_bytes (working w) (x ∷ xs) ≡ taken w (w.waiting ++ x ∷ xs) (take_group w.plan w.kinds (w.waiting ++ x ∷ xs) w.groups w.carry)
unfolding feed_bytes
feed_group w x [] h =
    let l : length (w.waiting ++ x ∷ []) ≡ length w.waiting + 1 = length-append w.waiting (x ∷ []) in
    let t : ltb (length (w.waiting ++ x ∷ [])) (group_size w.plan) ≡ false = le-ltb (length (w.waiting ++ x ∷ [])) (group_size w.plan) (omega (arith, l, h)) in
    rw t (nothing_after (taken w (w.waiting ++ x ∷ []) (take_group w.plan w.kinds (w.waiting ++ x ∷ []) w.groups w.carry)))
  where
    nothing_after : (f : Flow) → flowed f (still f.state) ≡ f
    nothing_after f = same_flow _ _ _ _ [] [] _ _ (append-nil f.log) (append-nil f.times) refl
feed_group w x (y ∷ ys) h =
    let l : length (w.waiting ++ x ∷ []) ≡ length w.waiting + 1 = length-append w.waiting (x ∷ []) in
    let t : ltb (length (w.waiting ++ x ∷ [])) (group_size w.plan) ≡ true = lt-ltb (length (w.waiting ++ x ∷ [])) (group_size w.plan) (omega (arith, l, h)) in
    let w' : Working = keeps w (w.waiting ++ x ∷ []) in
    rw t (feed_group w' y ys (omega (arith, l, h))
    ∙ taken_keeps w (w.waiting ++ x ∷ []) (w'.waiting ++ y ∷ ys) (take_group w.plan w.kinds (w'.waiting ++ y ∷ ys) w.groups w.carry)
    ∙ ap (λ (v : List ℕ). taken w v (take_group w.plan w.kinds v w.groups w.carry)) (append_snoc w.waiting x (y ∷ ys)))

-- ---- bytes so far

abbrev pub count_in : State → ℕ
count_in closed = 0
count_in (failed k q second) = 0
count_in (working w) = count_of w

taken_count : (w : Working) (v : List ℕ) (b : Brought) → group_size w.plan ≤ length v → count_in (taken w v b).state ≤ w.groups * group_size w.plan + length v
taken_count w v (stops k q second) h = omega arith
taken_count w v (brings is x) h = omega arith

pub byte_count : (s : State) (b : ℕ) → count_in (feed_byte s b).state ≤ count_in s + 1
byte_count closed b = omega arith
byte_count (failed k q second) b = omega arith
byte_count (working w) b = go (ltb (length (w.waiting ++ b ∷ [])) (group_size w.plan)) refl
  where
    v : List ℕ
    v = w.waiting ++ b ∷ []

    go : (t : Bool) → ltb (length (w.waiting ++ b ∷ [])) (group_size w.plan) ≡ t
        → count_in (cond t (still (working (keeps w (w.waiting ++ b ∷ [])))) (taken w (w.waiting ++ b ∷ []) (take_group w.plan w.kinds (w.waiting ++ b ∷ []) w.groups w.carry))).state ≤ count_of w + 1
    go true t = omega (arith, length-append w.waiting (b ∷ []))
    go false t =
        let a = taken_count w (w.waiting ++ b ∷ []) (take_group w.plan w.kinds (w.waiting ++ b ∷ []) w.groups w.carry) (ltb-false _ _ t) in
        omega (arith, length-append w.waiting (b ∷ []), a)

pub feed_count : (s : State) (xs : List ℕ) → count_in (feed_bytes s xs).state ≤ count_in s + length xs
unfolding feed_bytes
feed_count s [] = omega arith
feed_count s (x ∷ xs) = omega (arith, byte_count s x, feed_count (feed_byte s x).state xs)
