-- A group's data words by their numbers: what the code goes by is what the group brings.
use Prim.Native.Nat.{ℕ, zero, suc, ◌+◌, ◌*◌, ◌-◌, ◌/◌, ◌%◌, ◌^◌, ◌≤◌, ◌<◌}
use native.Mathlib.Nat.{mul-le-mul_left, mul-le-mul_right}
use native.Mathlib.Omega.{arith}
use mathlib.Core.Bool.{Bool, true, false, cond}
use mathlib.Core.Path.{◌≡◌, refl, ap, ap₂, subst, sym, ◌∙◌}
use mathlib.Core.List.{List, [], ◌∷◌, ◌++◌, map, flat_map}
use lib.ListN.{length, drop, get_or, set, take}
use lib.Seq.{take_all}
use lib.Dec.{eqb}
use borrow.Author.Tests.{eq-eqb, ne_eqb, eqb-true, eqb-false}
use Rattle.format.specs.Word.{word_at, part_of}
use Rattle.format.specs.Item.{item_bits}
use Rattle.format.specs.Lists.{All, nil, cons, list}
use Rattle.format.specs.Plan.{lead, rows, slots, group_words, place_of}
use Rattle.format.specs.Reader.{Slot, Ran, bad_at, ran, counted, run}
use Rattle.format.specs.Group.{none, found, group_fault, group_slots}
use Rattle.format.specs.Laws.Legal.{Legal}
use Rattle.format.specs.Laws.Limits.{Shape, dealt_most, group_least, lead_few, room}
use Rattle.format.proofs.Laws.Reader.Named.{RanIn, named, renamed, run_in, run_named}
use Rattle.format.specs.Laws.Reader.Slots.{words_in}
use Rattle.format.specs.declared.Kind.{Kind}
use Rattle.format.specs.declared.Item.{Item}
use Rattle.format.specs.declared.Held.{Held}
use Rattle.format.specs.declared.Plan.{Plan}
use Rattle.notices.specs.Roles.{Role, neither, notice, word, Row, role_in, roles_in}
use Rattle.notices.specs.Table.{Notes, earlier, noted, or_first, RowWatched, watched, watched_of}
use Rattle.stream_rules.specs.Stream as stream
use Rattle.stream_rules.specs.Stream.{Carry, Watch, brings, stops, watch, watch_word, soundly, moved_fault, slots_at, slots_of, take_group, group_size, most_bytes, stored_of, in_group, waits_fit}
use Rattle.stream_rules.specs.Laws.Stream.Fits.{NumberOk, zeroth, slotted, Slotted, WatchOk, watch_ok, waits_ok, waits_more}
use Rattle.group_read.proofs.Answers.{answer_words}
use Rattle.group_read.specs.Row.{dealt_words}
use Rattle.data_run.specs.Pass.{RanTo, Brought}
use Rattle.data_run.specs.declared.Pass.{Pass}
use Rattle.data_run.specs.declared.fill.Fills.{Fills}
use Rattle.data_start.specs.declared.Holding.{Holding}
use Rattle.data_word.specs.Holding.{held_of}
use Rattle.log_write.specs.declared.Pen.{Pen}
use Rattle.stream_group.specs.declared.Took.{Took}
use Rattle.stream_group.specs.Took.{TookBy, carried, from_number, row_brings, stops_by}

-- ---- the two names of a slot

from_slot : (p : Plan) (at since i : ℕ) → from_number p at since (1 + i) ≡ at + place_of p (lead p + i)
from_slot p at since i =
    let n : eqb (1 + i) 0 ≡ false = ne_eqb (1 + i) 0 (λ (z : 1 + i ≡ 0). omega arith) in
    let e : lead p + (1 + i - 1) ≡ lead p + i = omega arith in
    rw (n, e)

module _ (p : Plan) (v : List ℕ) where
  abbrev word_in : ℕ → ℕ
  word_in s = word_at v (0 + place_of p s)

  at_list : (at since n i : ℕ)
      → list {A = Slot} (λ s. (at + place_of p s, word_at v (place_of p s))) (lead p + i) n
      ≡ map (named (from_number p at since)) (counted (1 + i) (words_in (list {A = Slot} (λ s. (0 + place_of p s, word_in s)) (lead p + i) n)))
  unfolding list counted
  at_list at since zero i = refl
  at_list at since (suc n) i =
      let z : 0 + place_of p (lead p + i) ≡ place_of p (lead p + i) = omega arith in
      let a : lead p + i + 1 ≡ lead p + (i + 1) = omega arith in
      let b : 1 + i + 1 ≡ 1 + (i + 1) = omega arith in
      rw (a, b, z, from_slot p at since i) (ap (λ (l : List Slot). (at + place_of p (lead p + i), word_at v (place_of p (lead p + i))) ∷ l) (at_list at since n (i + 1)))

  pub slots_by_number : (at since : ℕ) → slots_at p v at ≡ map (named (from_number p at since)) (counted 1 (words_in (group_slots p v 0)))
  unfolding slots_at group_slots
  slots_by_number at since =
      let z : lead p + 0 ≡ lead p = omega arith in
      let y : 1 + 0 ≡ 1 = omega arith in
      rw (z, y) at (at_list at since (slots p) 0)

  of_list : (g n i : ℕ)
      → list {A = Slot} (λ s. (g * 2048 + suc s, word_at v (place_of p s))) (lead p + i) n
      ≡ counted (g * 2048 + lead p + 1 + i) (words_in (list {A = Slot} (λ s. (0 + place_of p s, word_in s)) (lead p + i) n))
  unfolding list counted
  of_list g zero i = refl
  of_list g (suc n) i =
      let z : 0 + place_of p (lead p + i) ≡ place_of p (lead p + i) = omega arith in
      let a : lead p + i + 1 ≡ lead p + (i + 1) = omega arith in
      let b : g * 2048 + lead p + 1 + i + 1 ≡ g * 2048 + lead p + 1 + (i + 1) = omega arith in
      let c : g * 2048 + suc (lead p + i) ≡ g * 2048 + lead p + 1 + i = omega arith in
      rw (a, b, z, c) (ap (λ (l : List Slot). (g * 2048 + lead p + 1 + i, word_at v (place_of p (lead p + i))) ∷ l) (of_list g n (i + 1)))

  pub slots_of_number : (g : ℕ) → slots_of p v g ≡ counted (g * 2048 + lead p + 1) (words_in (group_slots p v 0))
  unfolding slots_of group_slots
  slots_of_number g =
      let z : lead p + 0 ≡ lead p = omega arith in
      let y : g * 2048 + lead p + 1 + 0 ≡ g * 2048 + lead p + 1 = omega arith in
      rw (z, y) at (of_list g (slots p) 0)

-- a group without a fault of 9 to 12 brings what its data words bring
pub group_brings : (p : Plan) (ks : List Kind) (v : List ℕ) (g : ℕ) (x : Carry) → group_fault p v 0 ≡ none
    → take_group p ks v g x ≡ row_brings p ks g x (words_in (group_slots p v 0))
unfolding take_group row_brings
group_brings p ks v g x e =
    let f : ℕ → ℕ = from_number p (g * group_words p) x.since in
    let row : List ℕ = words_in (group_slots p v 0) in
    rw (e, slots_by_number p v (g * group_words p) x.since, slots_of_number p v g, run_named ks p.parity f (counted 1 row) x.held 0) refl

pub group_stops : (p : Plan) (ks : List Kind) (v : List ℕ) (g : ℕ) (x : Carry) (n q : ℕ) → group_fault p v 0 ≡ found n q
    → take_group p ks v g x ≡ stops n (g * group_words p + q) 0
unfolding take_group
group_stops p ks v g x n q e = rw e refl

-- ---- the notices of a row

first_none : (f : ℕ) → or_first f 0 ≡ f
first_none f = go (eqb f 0) refl
  where
    go : (b : Bool) → eqb f 0 ≡ b → cond b 0 f ≡ f
    go true e = sym (eqb-true f 0 e)
    go false e = refl

abbrev notes_in : Watch → Notes
notes_in x = (x.shown, x.waits)

word_watched : (n : ℕ) (w : Role) (x : Watch) → notes_in (watch_word (n + 1) w x) ≡ watched n w (notes_in x)
unfolding earlier
word_watched n neither x = ap (λ (f : ℕ). (f, x.waits)) (sym (first_none x.shown))
word_watched n (notice j) x = refl
word_watched n (word j) x = ap (λ (f : ℕ). (f, set x.waits j 0)) (sym (first_none x.shown))

pub row_watched : (ks : List Kind) (parity : Bool) (n : ℕ) (ws : List ℕ) (x : Watch)
    → notes_in (watch ks parity (counted (n + 1) ws) x) ≡ watched_of (roles_in ks parity (counted n ws)) (notes_in x)
unfolding watch roles_in watched_of counted
row_watched ks parity n [] x = refl
row_watched ks parity n (w ∷ ws) x =
    row_watched ks parity (n + 1) ws (watch_word (n + 1) (role_in ks (part_of parity w)) x)
    ∙ ap (watched_of (roles_in ks parity (counted (n + 1) ws))) (word_watched n (role_in ks (part_of parity w)) x)

-- what a row does to the table, as it is watched
pub watched_is : (ks : List Kind) (parity : Bool) (n : ℕ) (ws table : List ℕ) {r : ℕ} {table' : List ℕ} → RowWatched ks parity n ws table r table'
    → ((watch ks parity (counted (n + 1) ws) (record { waits = table; shown = 0 })).shown ≡ r) × ((watch ks parity (counted (n + 1) ws) (record { waits = table; shown = 0 })).waits ≡ table')
watched_is ks parity n ws table e =
    let w = row_watched ks parity n ws (record { waits = table; shown = 0 }) ∙ sym e in
    (ap (λ (s : Notes). s.0) w, ap (λ (s : Notes). s.1) w)

-- ---- sizes

pub dealt_in : (p : Plan) → Shape p → lead p + slots p ≤ p.tracks * rows p
unfolding slots
dealt_in p h = omega (arith, lead_few p, room p h)

module _ (p : Plan) (h : Shape p) (g : ℕ) (small : (g + 1) * group_size p ≤ most_bytes) where
  pub at_low : g * group_words p < 2 ^ 40
  at_low = omega (arith, small, group_least p h)

  pub index_low : g * 2048 < 2 ^ 43
  index_low = omega (arith, small, mul-le-mul_left g (group_least p h))

  -- the numbers of the group's data words, in dealt order
  number_ok : (i : ℕ) → i < slots p → NumberOk p (g + 1) (g * 2048 + lead p + 1 + i)
  number_ok i l =
      let m : lead p + i < 2044 = omega (arith, dealt_in p h, dealt_most p h) in
      let e : (g * 2048 + lead p + 1 + i) % 2048 ≡ lead p + 1 + i = omega (arith, m) in
      slotted (record { low = omega (arith, m); over = rw e (omega arith); under = rw e (omega arith) })

  numbers_ok : (ws : List ℕ) (i : ℕ) → i + length ws ≤ slots p → All (λ (s : Slot). NumberOk p (g + 1) s.0) (counted (g * 2048 + lead p + 1 + i) ws)
  unfolding counted
  numbers_ok [] i l = nil
  numbers_ok (w ∷ ws) i l =
      let e : g * 2048 + lead p + 1 + i + 1 ≡ g * 2048 + lead p + 1 + (i + 1) = omega arith in
      let t : All (λ (s : Slot). NumberOk p (g + 1) s.0) (counted (g * 2048 + lead p + 1 + i + 1) ws) = rw e (numbers_ok ws (i + 1) (omega arith)) in
      cons {a = (g * 2048 + lead p + 1 + i, w)} (number_ok i (omega arith)) t

  -- what is shown is one of the words so far
  pub shown_ok : (ks : List Kind) (row table : List ℕ) → length row ≡ slots p → length table ≡ 64 → waits_fit p ks g 0 table ≡ true
      → NumberOk p (g + 1) (watch ks p.parity (counted (g * 2048 + lead p + 1) row) (record { waits = table; shown = 0 })).shown
  shown_ok ks row table l n f =
      let z : g * 2048 + lead p + 1 + 0 ≡ g * 2048 + lead p + 1 = omega arith in
      let a : All (λ (s : Slot). NumberOk p (g + 1) s.0) (counted (g * 2048 + lead p + 1) row) = rw z at (numbers_ok row 0 (omega (arith, l))) in
      (watch_ok p ks (g + 1) p.parity (counted (g * 2048 + lead p + 1) row) a (record { waits = table; shown = 0 })
      (record { size = n; each = waits_more p ks g 0 table (waits_ok p ks g 0 table f); first = zeroth refl })).first

  pub shown_in : (k : ℕ) → NumberOk p (g + 1) k → (k ≡ 0 → ⊥) → (1 ≤ k % 2048) × (k % 2048 ≤ p.tracks * rows p) × (k < 2 ^ 52)
  shown_in k (zeroth e) d = absurd (d e)
  shown_in k (slotted s) d = (omega (arith, s.over), omega (arith, s.under, dealt_in p h), omega (arith, s.low, index_low))

pub stored_is : (p : Plan) (k q : ℕ) → 1 ≤ k % 2048 → q ≡ place_of p (k % 2048 - 1) → k / 2048 * group_words p + q ≡ stored_of p k
stored_is p k q l e = ap (λ (n : ℕ). k / 2048 * group_words p + n) (e ∙ sym (go (k % 2048) l))
  where
    go : (m : ℕ) → 1 ≤ m → in_group p m ≡ place_of p (m - 1)
    go zero l = absurd (omega arith)
    go (suc m) l = let z : suc m - 1 ≡ m = omega arith in ap (place_of p) (sym z)

-- ---- the run over the row

counted_most : (m n : ℕ) (ws : List ℕ) → n + length ws ≤ m + 1 → All (λ (s : Slot). s.0 ≤ m) (counted n ws)
unfolding counted
counted_most m n [] l = nil
counted_most m n (w ∷ ws) l = cons {a = (n, w)} (omega arith) (counted_most m (n + 1) ws (omega arith))

module _ (p : Plan) (ks : List Kind) (row : List ℕ) (h : Held) (few : length row ≡ slots p) where
  abbrev row_run : Ran
  row_run = run ks p.parity (counted 1 row) h 0

  run_low : RanIn (λ q. q ≤ slots p) row_run
  run_low = run_in ks p.parity (λ q. q ≤ slots p) (counted 1 row) (counted_most (slots p) 1 row (omega (arith, few))) h 0 (omega arith)

-- a bad word
pub record Broke (p : Plan) (ks : List Kind) (row : List ℕ) (h : Held) (x : Pass) : Type 0 where
  pub is : run ks p.parity (counted 1 row) h 0 ≡ bad_at (x.bad - 1) x.since
  pub bad_low : x.bad - 1 ≤ slots p
  pub since_low : x.since ≤ slots p

-- none
pub record RanOn (p : Plan) (ks : List Kind) (row : List ℕ) (h : Held) (x₀ : Pass) (out₀ : List ℕ) (x : Pass) (out : List ℕ) : Type 0 where
  pub items : List Item
  pub is : run ks p.parity (counted 1 row) h 0 ≡ ran items (held_of x.held) x.since
  pub brought : Brought x₀ out₀ items x out
  pub since_low : x.since ≤ slots p

module _ (p : Plan) (ks : List Kind) (row : List ℕ) (h : Held) (few : length row ≡ slots p) (x₀ : Pass) (out₀ : List ℕ) (f : Fills) (x : Pass) (out : List ℕ)
    (r : RanTo x₀ out₀ (run ks p.parity (counted 1 row) h 0) f x out) where
  pub ran_bad : (x.bad ≡ 0 → ⊥) → Broke p ks row h x
  ran_bad d = go (row_run p ks row h few) refl r (run_low p ks row h few)
    where
      go : (y : Ran) → run ks p.parity (counted 1 row) h 0 ≡ y → RanTo x₀ out₀ y f x out → RanIn (λ q. q ≤ slots p) y → Broke p ks row h x
      go (bad_at q second) e t i =
          let z : q ≡ x.bad - 1 = omega (arith, t.0) in
          record { is = e ∙ ap₂ bad_at z (sym t.1); bad_low = rw z at i.0; since_low = rw t.1 i.1 }
      go (ran is k q) e t i = absurd (d t.0.sound.good)

  pub ran_on : x.bad ≡ 0 → RanOn p ks row h x₀ out₀ x out
  ran_on z = go (row_run p ks row h few) refl r (run_low p ks row h few)
    where
      go : (y : Ran) → run ks p.parity (counted 1 row) h 0 ≡ y → RanTo x₀ out₀ y f x out → RanIn (λ q. q ≤ slots p) y → RanOn p ks row h x₀ out₀ x out
      go (bad_at q second) e t i = absurd (omega (arith, t.0, z))
      go (ran is k q) e t i = record { items = is; is = e ∙ ap₂ (ran is) (sym t.1) (sym t.2); brought = t.0; since_low = rw t.2 i }

-- ---- what the row brings

module _ (p : Plan) (ks : List Kind) (g : ℕ) (x : Carry) (row : List ℕ) where
  abbrev place : ℕ → ℕ
  place = from_number p (g * group_words p) x.since

  abbrev seen : Watch
  seen = watch ks p.parity (counted (g * 2048 + lead p + 1) row) (record { waits = x.waits; shown = 0 })

  pub row_bad : (a b : ℕ) → run ks p.parity (counted 1 row) x.held 0 ≡ bad_at a b → row_brings p ks g x row ≡ stops 13 (place a) (place b)
  unfolding row_brings
  row_bad a b e = rw e refl

  pub row_shown : (is : List Item) (h : Held) (q k : ℕ) → run ks p.parity (counted 1 row) x.held 0 ≡ ran is h q → seen.shown ≡ k → (k ≡ 0 → ⊥)
      → row_brings p ks g x row ≡ stops 15 (stored_of p k) 0
  unfolding row_brings
  row_shown is h q k e s d = rw (e, s, ne_eqb k 0 d) refl

  pub row_went : (is : List Item) (h : Held) (q since : ℕ) (t : List ℕ) → run ks p.parity (counted 1 row) x.held 0 ≡ ran is h q → since ≡ place q
      → seen.shown ≡ 0 → seen.waits ≡ t → row_brings p ks g x row ≡ brings is (record { held = h; since = since; waits = t })
  unfolding row_brings
  row_went is h q since t e f s w = rw (e, f, s, w) refl

-- ---- a group that is not taken

pub took_stops : {b : stream.Brought} {pen : Pen} {out : List ℕ} {r : Took} {table out' : List ℕ} (n q second : ℕ) {held : Holding} {pen' : Pen}
    → r ≡ stops_by n q second held pen' → (n ≡ 0 → ⊥) → b ≡ stops n q second → TookBy b pen out r table out'
took_stops {b} n q second e d f = rw e (record { went = λ z. absurd (d z); stopped = λ z. f })

-- ---- the row of a group that has no fault

pub group_took : (p : Plan) (ks : List Kind) (v : List ℕ) (g : ℕ) (x : Carry) (row : List ℕ) {pen : Pen} {out : List ℕ} {r : Took} {table out' : List ℕ} → group_fault p v 0 ≡ none
    → row ≡ words_in (group_slots p v 0) → TookBy (row_brings p ks g x row) pen out r table out' → TookBy (take_group p ks v g x) pen out r table out'
group_took p ks v g x row {pen} {out} {r} {table} {out'} n e t =
    subst (λ (b : stream.Brought). TookBy b pen out r table out') (ap (row_brings p ks g x) e ∙ sym (group_brings p ks v g x n)) t

pub own_words : (p : Plan) → Shape p → (v row rest : List ℕ) → length v ≡ 3 * group_words p → row ≡ dealt_words p v ++ rest → (first count : ℕ) → first ≡ lead p → count ≡ slots p
    → take (first + count - first) (drop first row) ≡ words_in (group_slots p v 0)
own_words p h v row rest l e first count f n =
    let all : length v ≤ 3 * group_words p = omega (arith, l) in
    let whole : v ≡ take (3 * group_words p) (drop 0 v) = sym (take_all (3 * group_words p) v all) in
    let k : first + count - first ≡ slots p = omega (arith, n) in
    ap (λ (m : ℕ). take (first + count - first) (drop m row)) f
    ∙ answer_words p v 0 0 (3 * group_words p) h (omega arith) refl rest (first + count - first) k (e ∙ ap (λ (g : List ℕ). dealt_words p g ++ rest) whole)

-- what is shown of a row whose first number is told so
pub watched_from : (p : Plan) (ks : List Kind) (g : ℕ) (row table : List ℕ) {from r : ℕ} {table' : List ℕ} → from ≡ g * 2048 + lead p
    → RowWatched ks p.parity from row table r table'
    → ((watch ks p.parity (counted (g * 2048 + lead p + 1) row) (record { waits = table; shown = 0 })).shown ≡ r)
    × ((watch ks p.parity (counted (g * 2048 + lead p + 1) row) (record { waits = table; shown = 0 })).waits ≡ table')
watched_from p ks g row table {r = r} {table' = table'} e w =
    watched_is ks p.parity (g * 2048 + lead p) row table (subst (λ (n : ℕ). RowWatched ks p.parity n row table r table') e w)
