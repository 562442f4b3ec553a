-- The items of a log, moved and put.
use Prim.Native.Nat.{ℕ, ◌+◌, ◌*◌, ◌/◌, ◌^◌, ◌≤◌, ◌<◌}
use native.Mathlib.Nat.{zero-add}
use native.Mathlib.Omega.{arith}
use mathlib.Core.Bool.{Bool, true, false, cond}
use mathlib.Core.Path.{◌≡◌, refl, ap, sym, ◌∙◌}
use mathlib.Core.List.{List, [], ◌∷◌, ◌++◌, map, flat_map, append_assoc, append-nil}
use lib.ListN.{length, length-append}
use lib.IntN.{ℤ}
use lib.Dec.{eqb, ltb}
use borrow.Author.Tests.{eqb-true, le-ltb, lt-ltb}
use Rattle.format.specs.Time.{time_end, high_part, low_part, micro_part}
use Rattle.log_read.specs.Tally.{tallied_of}
use Rattle.log_read.specs.declared.Tally.{Tally}
use Rattle.log_read.specs.declared.Tally.TheVariants.{Items as Tallied, Fault as Faulty}
use Rattle.format.specs.Bits.{bytes_bits}
use Rattle.format.specs.Group.{none, found}
use Rattle.format.specs.Item.{item_bits}
use Rattle.format.specs.Log.{next_at, ends, Parsed, items, fault, parsed, on_no_plan}
use Rattle.format.specs.Laws.Lists.{flat_map_append}
use Rattle.format.specs.declared.Item.{Item}
use Rattle.log_close.specs.Made.{StandsIn}
use Rattle.log_put.specs.Put.{Fits, Puts, PutsPacked, packed_bits}
use Rattle.log_put.proofs.Putting.{holds_fits}
use Rattle.log_put.specs.declared.Put.{Put}
use Rattle.log_put.specs.declared.Put.TheVariants.{All, Fault}
use Rattle.log_rules.specs.Shift.{first_failing, item_moves, moved_item}
use Rattle.log_rules.specs.Laws.Checking.{Walk, walk_start, walk_over, walk_first}
use Rattle.log_pass.proofs.Walking.{next_fits, walk_item}
use Rattle.log_walk.specs.Piece.{times_in}
use Rattle.log_walk.proofs.Items.{Holds}
use Rattle.log_write.specs.Pen.{Wrote, start}
use Rattle.log_write.specs.declared.Packed.{Packed}
use Rattle.log_write.specs.declared.Pen.{Pen}
use Rattle.log_write.specs.Packed.{packed_of}
use Rattle.log_write.proofs.Packing.{Says, packed_says}
use Rattle.log_write.proofs.Writing.{wrote_none}
use Rattle.log_move.specs.Moved.{judged, Moving, moved_packed, moved_row, tag_number, time_number}
use Rattle.log_move.proofs.Tags.{tag_moves, tag_moved}

-- ---- the first item that fails

-- items that pass, and then one that fails
fails_at : (test : Item → Bool) (n p : ℕ) (past : List Item) (i : Item) (rest : List Item) → first_failing test n p past ≡ none → test i ≡ false
    → first_failing test n p (past ++ (i ∷ rest)) ≡ found n (p + length (flat_map item_bits past))
unfolding first_failing flat_map
fails_at test n p [] i rest e f = let z : p + 0 ≡ p = omega arith in rw (f, z) refl
fails_at test n p (j ∷ past) i rest e f = go (test j) refl e (λ z. fails_at test n (p + length (item_bits j)) past i rest z f)
  where
    go : (b : Bool) → test j ≡ b → cond b (first_failing test n (p + length (item_bits j)) past) (found n p) ≡ none
        → (first_failing test n (p + length (item_bits j)) past ≡ none
        → first_failing test n (p + length (item_bits j)) (past ++ (i ∷ rest)) ≡ found n (p + length (item_bits j) + length (flat_map item_bits past)))
        → first_failing test n p (j ∷ (past ++ (i ∷ rest))) ≡ found n (p + length (flat_map item_bits (j ∷ past)))
    go true t z ih =
        let l : length (flat_map item_bits (j ∷ past)) ≡ length (item_bits j) + length (flat_map item_bits past) = length-append (item_bits j) (flat_map item_bits past) in
        let m : p + length (item_bits j) + length (flat_map item_bits past) ≡ p + (length (item_bits j) + length (flat_map item_bits past)) = omega arith in
        rw (t, l) (ih z ∙ ap (found n) m)
    go false t z ih = let y : ◌≡◌ {A = ℕ} 0 1 = cc in absurd (omega arith)

passes_more : (test : Item → Bool) (n p : ℕ) (past : List Item) (i : Item) → first_failing test n p past ≡ none → test i ≡ true → first_failing test n p (past ++ (i ∷ [])) ≡ none
unfolding first_failing
passes_more test n p [] i e t = rw t refl
passes_more test n p (j ∷ past) i e t = go (test j) refl e (λ z. passes_more test n (p + length (item_bits j)) past i z t)
  where
    go : (b : Bool) → test j ≡ b → cond b (first_failing test n (p + length (item_bits j)) past) (found n p) ≡ none
        → (first_failing test n (p + length (item_bits j)) past ≡ none → first_failing test n (p + length (item_bits j)) (past ++ (i ∷ [])) ≡ none)
        → first_failing test n p (j ∷ (past ++ (i ∷ []))) ≡ none
    go true u z ih = rw u (ih z)
    go false u z ih = let y : ◌≡◌ {A = ℕ} 0 1 = cc in absurd (omega arith)

map_more : (f : Item → Item) (past : List Item) (i : Item) → map f (past ++ (i ∷ [])) ≡ map f past ++ (f i ∷ [])
map_more f [] i = refl
map_more f (j ∷ past) i = ap (λ (l : List Item). f j ∷ l) (map_more f past i)

-- ---- the loop

pub moving_start : (log : List ℕ) (by : ℤ) (built : List ℕ) (p : Pen) → length log ≤ 32768 → p ≡ start → Moving log by built 0 p
unfolding first_failing flat_map
moving_start log by built p h e = rw e record { past = []; walk = walk_start on_no_plan log h; clear = refl; wrote = wrote_none built; few = omega arith; short = h }

module _ {log : List ℕ} {by : ℤ} {built : List ℕ} {place : ℕ} {p : Pen} (w : Moving log by built place p) where
  module _ {k : Packed} (h : Holds log place k) where
    module _ (t : times_in k ≡ true) where
      on : Walk on_no_plan log (w.past ++ (h.item ∷ [])) (place + (k.first_bits + k.behind_bits))
      on = walk_item w.walk h t

      -- a tag that cannot be moved
      pub moving_fails : (built' : List ℕ) → item_moves by h.item ≡ false
          → StandsIn (moved_row by (parsed on_no_plan log)) (length log * 8) built' (judged (parsed on_no_plan log) place)
      moving_fails built' f = go (parsed on_no_plan log) refl
        where
          go : (r : Parsed) → parsed on_no_plan log ≡ r → StandsIn (moved_row by r) (length log * 8) built' (judged r place)
          go (fault n q) e = refl
          go (items is) e =
              let (rest, z) = walk_first on_no_plan log on is e in
              let y : is ≡ w.past ++ (h.item ∷ rest) = z ∙ append_assoc w.past (h.item ∷ []) rest in
              let x : first_failing (item_moves by) 17 0 is ≡ found 17 place =
              ap (first_failing (item_moves by) 17 0) y ∙ fails_at (item_moves by) 17 0 w.past h.item rest w.clear f ∙ ap (found 17) (zero-add _ ∙ sym w.walk.at) in
              rw x refl

      pub moving_more : {built' : List ℕ} {p' : Pen} (m : Packed) → item_moves by h.item ≡ true → m ≡ packed_of (moved_item by
          h.item) → m.first_bits + m.behind_bits ≡ k.first_bits + k.behind_bits
          → PutsPacked m built p built' p' → Moving log by built' (place + (k.first_bits + k.behind_bits)) p'
      unfolding flat_map
      moving_more {built'} {p'} m f g s x =
          let i : Item = moved_item by h.item in
          let b : packed_bits m ≡ item_bits i = rw g (sym (packed_says i).bits) in
          let e : flat_map item_bits (map (moved_item by) (w.past ++ (h.item ∷ []))) ≡ flat_map item_bits (map (moved_item by) w.past) ++ packed_bits m =
          ap (flat_map item_bits) (map_more (moved_item by) w.past h.item)
          ∙ flat_map_append item_bits (map (moved_item by) w.past) (i ∷ [])
          ∙ ap (λ (l : List ℕ). flat_map item_bits (map (moved_item by) w.past) ++ l) (one i ∙ sym b) in
          record {
            past = w.past ++ (h.item ∷ []);
            walk = on;
            clear = passes_more (item_moves by) 17 0 w.past h.item w.clear f;
            wrote = rw e (x.writes (flat_map item_bits (map (moved_item by) w.past)) w.wrote);
            few = omega (arith, x.few, w.few, s);
            short = w.short;
          }
        where
          one : (i : Item) → flat_map item_bits (i ∷ []) ≡ item_bits i
          one i = append-nil (item_bits i)

  pub moving_over : next_at (bytes_bits log) place ≡ ends → StandsIn (moved_row by (parsed on_no_plan log)) (length log * 8) built (All p)
  moving_over n =
      rw (walk_over on_no_plan log w.walk n, w.clear) (p, refl, omega (arith, w.short), omega (arith, w.few, w.walk.fits), w.wrote)

-- ---- what the code asks of an item moved

moved_fits : (k : Packed) (t : ℕ) → Fits k → time_number t < 2 ^ 46 → Fits (moved_packed t k)
moved_fits k t f h = go (eqb k.behind_bits 46)
  where
    go : (b : Bool) → Fits (cond b (record { first = k.first; first_bits = k.first_bits; behind = time_number t; behind_bits = 46 }) k)
    go true = record { first_low = f.first_low; first_many = f.first_many; first_few = f.first_few; behind_low = h; behind_few = omega arith }
    go false = f

moved_long : (k : Packed) (t : ℕ) → (moved_packed t k).first_bits + (moved_packed t k).behind_bits ≡ k.first_bits + k.behind_bits
moved_long k t = go (eqb k.behind_bits 46) refl
  where
    go : (b : Bool) → eqb k.behind_bits 46 ≡ b
        → (cond b (record { first = k.first; first_bits = k.first_bits; behind = time_number t; behind_bits = 46 }) k).first_bits
        + (cond b (record { first = k.first; first_bits = k.first_bits; behind = time_number t; behind_bits = 46 }) k).behind_bits ≡ k.first_bits + k.behind_bits
    go true e = rw (eqb-true k.behind_bits 46 e) refl
    go false e = refl

pub moved_size : (m k : Packed) (t : ℕ) → m ≡ moved_packed t k → m.first_bits + m.behind_bits ≡ k.first_bits + k.behind_bits
moved_size m k t e = ap (λ (q : Packed). q.first_bits + q.behind_bits) e ∙ moved_long k t

moved_first : (k : Packed) (t : ℕ) → (moved_packed t k).first_bits ≡ k.first_bits
moved_first k t = go (eqb k.behind_bits 46)
  where
    go : (b : Bool) → (cond b (record { first = k.first; first_bits = k.first_bits; behind = time_number t; behind_bits = 46 }) k).first_bits ≡ k.first_bits
    go true = refl
    go false = refl

pub time_number_low : (t : ℕ) → t < time_end → time_number t < 2 ^ 46
time_number_low t h =
    let q : t / 10000 < 4294967296 = omega arith in
    let a : high_part t < 65536 = omega arith in
    let b : low_part t < 65536 = omega arith in
    let c : micro_part t < 16384 = omega arith in
    low (high_part t) (low_part t) (micro_part t) a b c
  where
    low : (x y z : ℕ) → x < 65536 → y < 65536 → z < 16384 → (x * 65536 + y) * 16384 + z < 2 ^ 46
    low x y z a b c = omega arith

-- the room for its bits in an array that has eight bytes more than the log
pub moving_room : {log : List ℕ} {by : ℤ} {built : List ℕ} {place : ℕ} {p : Pen} (w : Moving log by built place p) {k : Packed} (h : Holds log place k) (m : Packed) (t n : ℕ)
    → m ≡ moved_packed t k → t < time_end → length log + 8 ≤ n → (p.bits < 2 ^ 61) × Fits m × ((p.bits + m.first_bits) / 8 + 8 ≤ n)
moving_room w {k} h m t n e l room =
    let f : m.first_bits ≡ k.first_bits = ap (λ (q : Packed). q.first_bits) e ∙ moved_first k t in (
      omega (arith, w.few, w.walk.fits, w.short),
      rw e (moved_fits k t (holds_fits h) (time_number_low t l)),
      omega (arith, f, w.few, next_fits w.walk h),
    )

pub judged_is : (r : Parsed) (place : ℕ) (t : Tally) → t ≡ tallied_of r → (n w : ℕ) → t ≡ Tallied n w → Fault 17 place ≡ judged r place
judged_is (items is) place t e n w g = refl
judged_is (fault m q) place t e n w g = let y : ◌≡◌ {A = ℕ} 0 1 = cc in absurd (omega arith)

pub judged_fault : (r : Parsed) (place : ℕ) (t : Tally) → t ≡ tallied_of r → (n q : ℕ) → t ≡ Faulty n q → Fault n q ≡ judged r place
judged_fault (items is) place t e n q g = let y : ◌≡◌ {A = ℕ} 0 1 = cc in absurd (omega arith)
judged_fault (fault m k) place t e n q g = let z : Faulty m k ≡ Faulty n q = sym e ∙ g in same z
  where
    same : Faulty m k ≡ Faulty n q → Fault n q ≡ Fault m k
    same z = cc

-- ---- whether an item that was found can be moved, and the item moved

module _ (by : ℤ) {log : List ℕ} {place : ℕ} {k : Packed} (h : Holds log place k) (time : ℕ) (e : time ≡ tag_number by k) where
  same_test : ltb time time_end ≡ item_moves by h.item
  same_test = ap (λ (n : ℕ). ltb n time_end) (e ∙ ap (tag_number by) h.is) ∙ tag_moves by h.item h.narrow

  pub cannot_move : time_end ≤ time → item_moves by h.item ≡ false
  cannot_move l = sym same_test ∙ le-ltb time time_end l

  pub can_move : time < time_end → item_moves by h.item ≡ true
  can_move l = sym same_test ∙ lt-ltb time time_end l

  pub moved_is : (m : Packed) → time < time_end → m ≡ moved_packed time k → m ≡ packed_of (moved_item by h.item)
  moved_is m l g =
      g ∙ ap (λ (t : ℕ). moved_packed t k) (e ∙ ap (tag_number by) h.is) ∙ ap (moved_packed (tag_number by (packed_of h.item))) h.is
      ∙ sym (tag_moved by h.item h.narrow (can_move l))

-- a data word has no tag: it stays as it is
module _ {by : ℤ} {log : List ℕ} {built : List ℕ} {place : ℕ} {p : Pen} (w : Moving log by built place p) {k : Packed} (h : Holds log place k) where
  pub moving_data : {built' : List ℕ} {p' : Pen} → k.first_bits ≡ 25 → k.behind ≡ 0 → k.behind_bits ≡ 0 → PutsPacked k built p built' p' → Moving log by built' (place + 25) p'
  moving_data f b g x =
      let t : times_in k ≡ true = rw b refl in
      let e : 0 ≡ tag_number by k = rw g refl in
      let m : k ≡ moved_packed 0 k = rw g refl in
      let n : 0 < time_end = omega arith in
      let s : k.first_bits + k.behind_bits ≡ 25 = omega (arith, f, g) in
      rw s at (moving_more w h t k (can_move by h 0 e n) (moved_is by h 0 e k n m) refl x)
