-- Parts of the lent bytes, written one behind the other.
use Prim.Native.Nat.{ℕ, zero, suc, ◌+◌, ◌*◌, ◌-◌, ◌≤◌, ◌<◌}
use native.Mathlib.Omega.{arith}
use native.Mathlib.Nat.{mod-eq_of_lt}
use mathlib.Core.Bool.{true}
use mathlib.Core.Path.{◌≡◌, refl, ap, ap₂, sym, ◌∙◌}
use mathlib.Core.List.{List, [], ◌∷◌, ◌++◌, append_assoc, append-nil, flat_map, map}
use lib.ListN.{length, take, drop, replicate, length-append, length-drop, length-map, length-replicate}
use lib.Seq.{drop_at, drop-length, length-take-le, take_all, take_at}
use borrow.Rule.Slice.PartMut.{put_mid}
use Rattle.format.specs.Answer.{over}
use Rattle.format.specs.Bits.{bits_of, num_from, num_of}
use Rattle.format.specs.Laws.Bits.{length_bits}
use Rattle.format.specs.Laws.Log.Fields.{num_bits}
use Rattle.format.specs.Plan.{legal}
use Rattle.format.specs.declared.Held.TheVariants.{Nothing}
use Rattle.format.specs.declared.Kind.{Kind}
use Rattle.format.specs.declared.Plan.{Plan}
use Rattle.stream_state.specs.declared.Stand.{Stand}
use Rattle.format.specs.Laws.Front.{Front, front_long, front_part}
use Rattle.format.specs.Laws.Lists.{flat_map_append}
use Rattle.from_c.specs.Numbers.{time_bytes}
use Rattle.from_c.specs.Laws.{length_time, length_times}
use Rattle.format.specs.Laws.Reader.Held.{held_parts}
use Rattle.data_start.specs.Holding.{flat}
use Rattle.data_start.specs.declared.Holding.{Holding}
use Rattle.data_word.specs.Holding.{held_of}
use Rattle.data_word.proofs.Flat.{flat_is_sane, nothing_is_held}
use Rattle.stream_rules.specs.StateNumbers.{four_words, kind_number}
use Rattle.stream_rules.specs.Stream.{failed, fits, fresh, working, Working}
use Rattle.stream_rules.proofs.Laws.Stream.Kept.{opened_fits}
use Rattle.stream_state.specs.Layout.{row_bytes, state_bytes, zeros_behind}
use Rattle.stream_state.specs.Stand.{working_of}
use Rattle.stream_state.specs.Storing.{Storable, front_row, stand_row, waiting_bytes}
use Rattle.stream_state.specs.Laws.Small.{four_long, hundred, hundred_long, row_is, waiting_few}
use Rattle.stream_state.proofs.Zeros.{zero_times, zeros_add}

-- the part that is lent
pub part_long : {P d xs : List ℕ} {a : ℕ} (k : ℕ) → Front P d xs a → a + k ≤ length d → length (take k (drop a xs)) ≡ k
part_long {P} {d} {xs} {a} k f h = length-take-le k (drop a xs) (rw (length-drop a xs, front_long f) (omega (arith, h)))

-- a row of numbers fills a part
pub row_fills : (row old : List ℕ) (m : ℕ) → length row ≡ m → 8 * m ≡ length old → over (flat_map time_bytes (take m row)) old ≡ flat_map time_bytes row
row_fills row old m l e =
    let t : take m row ≡ row = take_all m row (omega (arith, l)) in
    let n : length (flat_map time_bytes row) ≡ length old = length_times row ∙ rw l e in
    rw (t, n, drop-length old) (append-nil (flat_map time_bytes row))

pub put_row : {P d xs ys : List ℕ} {a n : ℕ} (k m : ℕ) (row : List ℕ) → length row ≡ m → 8 * m ≡ k → Front P d xs a → a + k ≤ length d → a + k ≡ n
    → ys ≡ over (flat_map time_bytes (take m row)) (take k (drop a xs)) → Front (P ++ flat_map time_bytes row) d (put_mid a k xs ys) n
put_row {P} {d} {xs} {ys} {a} {n} k m row l e f h q y =
    front_part k (flat_map time_bytes row) f (length_times row ∙ rw l e) h q (y ∙ row_fills row (take k (drop a xs)) m l (e ∙ sym (part_long k f h)))

-- zeros fill a part
pub put_zeros : {P d xs ys : List ℕ} {a n : ℕ} (k : ℕ) → Front P d xs a → a + k ≤ length d → a + k ≡ n → ys ≡ replicate (length (take k (drop a xs))) 0
    → Front (P ++ replicate k 0) d (put_mid a k xs ys) n
put_zeros {P} {d} {xs} {ys} {a} {n} k f h m y =
    front_part k (replicate k 0) f (length-replicate {A = ℕ} k 0) h m (y ∙ ap (λ (i : ℕ). replicate i 0) (part_long k f h))

-- all is written
pub all_put : {P d xs : List ℕ} {n : ℕ} → Front P d xs n → length d ≡ n → xs ≡ P
all_put {P} {d} {xs} {n} f e = f.is ∙ ap (λ (i : ℕ). P ++ drop i d) (sym e) ∙ ap (λ (l : List ℕ). P ++ l) (drop-length d) ∙ append-nil P

pub all_copied : {d xs : List ℕ} (v : List ℕ) (i : ℕ) → Front (take i v) d xs i → i ≡ length v → length d ≡ length v → xs ≡ v
all_copied {d} {xs} v i f e l = all_put f (l ∙ sym e) ∙ take_all i v (omega (arith, e))

-- ---- a state with a fault

parts_joined : (a z f y u v : List ℕ) → y ++ u ≡ v → (a ++ (z ++ (f ++ y))) ++ u ≡ ((([] ++ a) ++ z) ++ f) ++ v
parts_joined a z f y u v e = rw (← e) (simp append_assoc)

pub failed_bytes : (k q second : ℕ)
    → (((([] ++ flat_map time_bytes (1026 ∷ [])) ++ replicate 88 0) ++ flat_map time_bytes (k ∷ q ∷ second ∷ [])) ++ replicate 7048 0) ≡ state_bytes (failed k q second)
unfolding row_bytes
failed_bytes k q second =
    let z : List ℕ → List ℕ = λ l. flat_map time_bytes l in
    let front : z (1026 ∷ (replicate 11 0 ++ k ∷ q ∷ second ∷ replicate 86 0)) ≡ z (1026 ∷ []) ++ (replicate 88 0 ++ (z (k ∷ q ∷ second ∷ []) ++ replicate 688 0)) =
    flat_map_append time_bytes (1026 ∷ []) (replicate 11 0 ++ k ∷ q ∷ second ∷ replicate 86 0)
    ∙ ap (λ (l : List ℕ). z (1026 ∷ []) ++ l)
    (flat_map_append time_bytes (replicate 11 0) (k ∷ q ∷ second ∷ replicate 86 0)
    ∙ ap₂ (λ (l m : List ℕ). l ++ m) (zero_times 11)
    (flat_map_append time_bytes (k ∷ q ∷ second ∷ []) (replicate 86 0) ∙ ap (λ (l : List ℕ). z (k ∷ q ∷ second ∷ []) ++ l) (zero_times 86))) in
    sym (ap₂ (λ (l m : List ℕ). l ++ m) front (zeros_add 216 6144)
    ∙ parts_joined (z (1026 ∷ [])) (replicate 88 0) (z (k ∷ q ∷ second ∷ [])) (replicate 688 0) (replicate 6360 0) (replicate 7048 0) (zeros_add 688 6360))

-- ---- a state at work

pub one_time : (t : ℕ) → flat_map time_bytes (t ∷ []) ≡ time_bytes t
unfolding flat_map
one_time t = append-nil (time_bytes t)

row_put : (m v : List ℕ) → length m ≡ 99 → row_bytes (1 ∷ (m ++ v)) ≡ flat_map time_bytes (1025 ∷ m) ++ waiting_bytes v
unfolding row_bytes
row_put m v l =
    let t : take 99 (m ++ v) ≡ m = take_at m v 99 l in
    let d : drop 99 (m ++ v) ≡ v = drop_at m v 99 l in
    let f : flat_map time_bytes (1025 ∷ (m ++ length v ∷ [])) ≡ flat_map time_bytes (1025 ∷ m) ++ time_bytes (length v) =
    flat_map_append time_bytes (1025 ∷ m) (length v ∷ []) ∙ ap (λ (l : List ℕ). flat_map time_bytes (1025 ∷ m) ++ l) (one_time (length v)) in
    rw (t, d, f) (append_assoc (flat_map time_bytes (1025 ∷ m)) (time_bytes (length v)) (replicate 216 0 ++ zeros_behind 6144 v))

pub work_bytes : (w : Working) → length (hundred w) ≡ 99 → state_bytes (working w) ≡ flat_map time_bytes (1025 ∷ hundred w) ++ waiting_bytes w.waiting
work_bytes w l = ap row_bytes (row_is w) ∙ row_put (hundred w) w.waiting l

-- rows one behind the other are one row
pub rows_joined : (a b c d : List ℕ) → ((([] ++ flat_map time_bytes a) ++ flat_map time_bytes b) ++ flat_map time_bytes c) ++ flat_map time_bytes d ≡ flat_map time_bytes (a ++ (b ++ (c ++ d)))
rows_joined a b c d =
    sym (flat_map_append time_bytes a (b ++ (c ++ d)) ∙ ap (λ (l : List ℕ). flat_map time_bytes a ++ l) (flat_map_append time_bytes b (c ++ d)
    ∙ ap (λ (l : List ℕ). flat_map time_bytes b ++ l) (flat_map_append time_bytes c d)) ∙ joined (flat_map time_bytes a) (flat_map time_bytes b) (flat_map time_bytes c) (flat_map time_bytes d))
  where
    joined : (x y z u : List ℕ) → x ++ (y ++ (z ++ u)) ≡ ((([] ++ x) ++ y) ++ z) ++ u
    joined x y z u = simp append_assoc

-- the state at work that its numbers say
pub stand_bytes : (ks : List Kind) (x : Stand) (table rest : List ℕ) → Storable ks x table rest
    → flat_map time_bytes (front_row ks x table) ++ waiting_bytes rest ≡ state_bytes (working (working_of ks x table rest))
unfolding num_of
stand_bytes ks x table rest s =
    let w : Working = working_of ks x table rest in
    let n : length (bits_of x.left x.last) ≡ x.left = length_bits x.left x.last in
    let l : num_of (bits_of x.left x.last) ≡ x.last = num_bits 0 x.left x.last ∙ rw (mod-eq_of_lt s.last) (omega arith) in
    let v : w.waiting ≡ rest = take_all x.waiting rest (omega (arith, s.count)) in
    let f : 1025 ∷ hundred w ≡ front_row ks x table = rw (n, l) refl in
    sym (work_bytes w (hundred_long w s.fit) ∙ ap₂ (λ (row : List ℕ) (u : List ℕ). flat_map time_bytes row ++ waiting_bytes u) f v)

pub front_row_long : (ks : List Kind) (x : Stand) (table : List ℕ) → length ks ≡ 16 → length table ≡ 64 → length (flat_map time_bytes (front_row ks x table)) ≡ 800
front_row_long ks x table n m =
    let f : List ℕ = four_words (held_parts (held_of x.held)) in
    let k : length (f ++ (map kind_number ks ++ table)) ≡ 85 =
    length-append f (map kind_number ks ++ table) ∙ rw (four_long (held_parts (held_of x.held)), length-append (map kind_number ks) table, length-map ks kind_number, n, m) refl in
    length_times (front_row ks x table) ∙ rw (length-append (stand_row x) (f ++ (map kind_number ks ++ table)), k) refl

pub waiting_long : (v : List ℕ) → length v ≤ 6144 → length (waiting_bytes v) ≡ 6368
waiting_long v h =
    length-append (time_bytes (length v)) (replicate 216 0 ++ zeros_behind 6144 v)
    ∙ rw (length_time (length v), length-append (replicate 216 0) (zeros_behind 6144 v), length-replicate {A = ℕ} 216 0)
    (rw (length-append v (replicate (6144 - length v) 0), length-replicate {A = ℕ} (6144 - length v) 0) (omega (arith, h)))

pub rest_few : (ks : List Kind) (x : Stand) (table rest : List ℕ) → Storable ks x table rest → length rest ≤ 6144
rest_few ks x table rest s =
    let v : take x.waiting rest ≡ rest = take_all x.waiting rest (omega (arith, s.count)) in
    rw v at (waiting_few (working_of ks x table rest) s.fit)

-- the numbers of a state that was just opened
abbrev pub fresh_stand : Plan → Holding → Stand
fresh_stand p held = record { plan = p; left = 0; last = 0; groups = 0; since = 0; held = held; waiting = 0 }

pub fresh_is : (p : Plan) (ks : List Kind) (held : Holding) → held ≡ flat Nothing → working_of ks (fresh_stand p held) (replicate 64 0) [] ≡ fresh p ks
unfolding bits_of
fresh_is p ks held e = rw (e, nothing_is_held) refl

pub fresh_storable : (p : Plan) (ks : List Kind) (held : Holding) → held ≡ flat Nothing → legal p ks ≡ true → length ks ≡ 16 → Storable ks (fresh_stand p held) (replicate 64 0) []
fresh_storable p ks held e l n =
    let f : fits (working (fresh p ks)) ≡ true = rw l at (opened_fits p ks n) in
    record {
      fit = ap (λ (w : Working). fits (working w)) (fresh_is p ks held e) ∙ f;
      held = rw e (flat_is_sane Nothing tt);
      last = omega arith;
      count = refl;
    }

-- what waits, in its room
pub waiting_put : (v : List ℕ) (n k : ℕ) → n ≡ length v → k ≡ 6144 - length v
    → ((([] ++ time_bytes n) ++ replicate 216 0) ++ v) ++ replicate k 0 ≡ waiting_bytes v
waiting_put v n k e f = rw (e, f) (joined (time_bytes (length v)) (replicate 216 0) v (replicate (6144 - length v) 0))
  where
    joined : (a b c d : List ℕ) → ((([] ++ a) ++ b) ++ c) ++ d ≡ a ++ (b ++ (c ++ d))
    joined a b c d = simp append_assoc
