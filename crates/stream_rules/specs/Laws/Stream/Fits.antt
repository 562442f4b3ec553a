-- The written test: what passes it stays such that it passes (document 02, K4, "Proved").
use Prim.Native.Nat.{ℕ, zero, suc, ◌+◌, ◌*◌, ◌/◌, ◌%◌, ◌^◌, ◌-◌, ◌≤◌, ◌<◌}
use native.Mathlib.Omega.{arith}
use Rattle.std.proofs.Common.{mod-lt, div-lt_iff_lt-mul, ap, sym, ◌∙◌, length-append, length-set}
use Rattle.std.proofs.Math.Nat.{mul-le-mul_right, mul-le-mul_left}
use Rattle.std.specs.Prelude.{Bool, ◌&&◌, ◌||◌, not, ◌≡◌, length, get_or, set, replicate, ltb, leb, eqb}
use Rattle.std.proofs.Math.Bool.{true, false, cond}
use Rattle.std.proofs.Math.Path.{refl, ap₂}
use mathlib.Core.List.{List, [], ◌∷◌, ◌++◌, flat_map, map}
use borrow.Author.Tests.{lt-ltb, le-leb, eq-eqb, ne_eqb, ltb-true, leb-true, eqb-true, eqb-false}
use Rattle.format.specs.Bits.{bits_of}
use Rattle.format.specs.Time.{below_tick}
use Rattle.format.specs.Word.{bus_of, label_of, info_of, is_fill, word_at, part, part_of, Part}
use Rattle.format.specs.Plan.{legal, rows, slots, lead, group_words, place_of, kind_on}
use Rattle.format.specs.Item.{item_bits, item_fields, Field, stands_on, bus_of_item, channel_of, low_label}
use Rattle.format.specs.Lists.{All, nil, cons, list}
use Rattle.format.specs.Lawful.{Lawful}
use Rattle.format.specs.Reader.{Slot, Fed, bad, fed, feed, starts, holds, alone, after, is_high, is_pair, base_bus, with_tag, Ran, bad_at, ran, run, begun, join, more, since}
use Rattle.format.specs.Group.{Fault, none, found, group_fault}
use Rattle.stream_rules.specs.Stream.{in_group, stored_of, slots_of, slots_at, moved_fault, Watch, answered_on, noticed_on, watch_word, watch, Carry, Brought, brings, stops, watched, soundly, take_group, start, group_size, most_bytes, is1553, is_arinc, is_info, base_fits, held_fits, number_fits, place_fits, waits_fit, are_bits, carry_fits, fits, State, closed, failed, working, Working, count_of}
use Rattle.notices.specs.Table.{or_first}
use Rattle.notices.specs.Roles as role
use Rattle.notices.specs.Roles.{Role, is_syllable, role_on, role_in}
use Rattle.format.specs.Laws.Tests.{clash, and_true}
use Rattle.format.specs.Laws.Lists.{all_list, all_map, all_append, all_flat}
use Rattle.format.specs.Laws.Legal.{Legal, legal_is}
use Rattle.format.specs.Laws.Limits.{long, room}
use Rattle.format.specs.Laws.Composed.Frames.{place_low}
use Rattle.format.proofs.Laws.Composed.Slots.{slot_in}
use Rattle.format.proofs.Laws.Reader.Forth.{BaseOk, HeldOk, Fits, Good, feed_good}
use Rattle.format.specs.Laws.Reader.Held.{held_parts}
use Rattle.capture_rules.specs.Laws.Split.Faults.{In, FaultIn, fault_in}
use Rattle.format.specs.declared.Kind.{Kind}
use Rattle.format.specs.declared.Kind.TheVariants.{Unused, Mil1553, Arinc429}
use Rattle.format.specs.declared.Item.{Item}
use Rattle.format.specs.declared.Item.TheVariants.{Command, Status, Data, BusError, Arinc, Notice, User, Overflow}
use Rattle.format.specs.declared.Tag.TheVariants.{Untagged, At}
use Rattle.format.specs.declared.Response.TheVariants.{After}
use Rattle.format.specs.declared.Base.{Base}
use Rattle.format.specs.declared.Base.TheVariants as base
use Rattle.format.specs.declared.Held.{Held}
use Rattle.format.specs.declared.Held.TheVariants.{Nothing, Taggable, Half, TagHigh, TagLow, Answering}
use Rattle.format.specs.declared.Plan.{Plan}
use Rattle.format.proofs.Laws.Reader.Named.{RanIn, run_in, named}

-- both tests
pub both : {a b : Bool} → a ≡ true → b ≡ true → (a && b) ≡ true
both {a} {b} e f = rw (e, f)

-- ---- what is held

is_mil : (k : Kind) → is1553 k ≡ true → k ≡ Mil1553
is_mil Unused e = clash e
is_mil Mil1553 e = refl
is_mil Arinc429 e = clash e

is_arinc_lem : (k : Kind) → is_arinc k ≡ true → k ≡ Arinc429
is_arinc_lem Unused e = clash e
is_arinc_lem Mil1553 e = clash e
is_arinc_lem Arinc429 e = refl

base_ok : (ks : List Kind) (x : Base) → base_fits ks x ≡ true → BaseOk ks x
base_ok ks (base.Command bus b word) e =
    let a = and_true (is1553 (kind_on ks bus)) (is_info word) e in
    (is_mil (kind_on ks bus) a.0, ltb-true word 65536 a.1)
base_ok ks (base.Arinc bus c word) e =
    let a = and_true (is_arinc (kind_on ks bus) && ltb c 4) (ltb word 4294967296) e in
    let b = and_true (is_arinc (kind_on ks bus)) (ltb c 4) a.0 in
    (is_arinc_lem (kind_on ks bus) b.0, ltb-true c 4 b.1, ltb-true word 4294967296 a.1)

pub held_ok : (ks : List Kind) (h : Held) → held_fits ks h ≡ true → HeldOk ks h
held_ok ks Nothing e = tt
held_ok ks (Taggable x) e = base_ok ks x e
held_ok ks (Half bus c high) e =
    let a = and_true (is_arinc (kind_on ks bus) && ltb c 4) (is_info high) e in
    let b = and_true (is_arinc (kind_on ks bus)) (ltb c 4) a.0 in
    (is_arinc_lem (kind_on ks bus) b.0, ltb-true c 4 b.1, ltb-true high 65536 a.1)
held_ok ks (TagHigh x high) e =
    let a = and_true (base_fits ks x) (is_info high) e in
    (base_ok ks x a.0, ltb-true high 65536 a.1)
held_ok ks (TagLow x high low) e =
    let a = and_true (base_fits ks x && is_info high) (is_info low) e in
    let b = and_true (base_fits ks x) (is_info high) a.0 in
    (base_ok ks x b.0, ltb-true high 65536 b.1, ltb-true low 65536 a.1)
held_ok ks (Answering bus r) e =
    let a = and_true (is1553 (kind_on ks bus)) (ltb r 10000) e in
    (is_mil (kind_on ks bus) a.0, ltb-true r 10000 a.1)

mil_is : (k : Kind) → k ≡ Mil1553 → is1553 k ≡ true
mil_is k e = rw e

arinc_is : (k : Kind) → k ≡ Arinc429 → is_arinc k ≡ true
arinc_is k e = rw e

ok_base : (ks : List Kind) (x : Base) → BaseOk ks x → base_fits ks x ≡ true
ok_base ks (base.Command bus b word) o = both (mil_is _ o.0) (lt-ltb word 65536 o.1)
ok_base ks (base.Arinc bus c word) o = both (both (arinc_is _ o.0) (lt-ltb c 4 o.1)) (lt-ltb word 4294967296 o.2)

pub ok_held : (ks : List Kind) (h : Held) → HeldOk ks h → held_fits ks h ≡ true
ok_held ks Nothing o = refl
ok_held ks (Taggable x) o = ok_base ks x o
ok_held ks (Half bus c high) o = both (both (arinc_is _ o.0) (lt-ltb c 4 o.1)) (lt-ltb high 65536 o.2)
ok_held ks (TagHigh x high) o = both (ok_base ks x o.0) (lt-ltb high 65536 o.1)
ok_held ks (TagLow x high low) o = both (both (ok_base ks x o.0) (lt-ltb high 65536 o.1)) (lt-ltb low 65536 o.2)
ok_held ks (Answering bus r) o = both (mil_is _ o.0) (lt-ltb r 10000 o.1)

-- ---- numbers of words

-- a data slot's number in the groups read
pub record Slotted (p : Plan) (groups k : ℕ) : Type 0 where
  pub low : k < groups * 2048
  pub over : lead p < k % 2048
  pub under : k % 2048 ≤ lead p + slots p

-- none, or such a number
pub data NumberOk (p : Plan) (groups k : ℕ) : Type 0 where
  zeroth : k ≡ 0 → NumberOk p groups k
  slotted : Slotted p groups k → NumberOk p groups k

pub number_ok : (p : Plan) (groups k : ℕ) → number_fits p groups k ≡ true → NumberOk p groups k
number_ok p groups k e = go (eqb k 0) refl e
  where
    go : (b : Bool) → eqb k 0 ≡ b → (b || (ltb k (groups * 2048) && (ltb (lead p) (k % 2048) && leb (k % 2048) (lead p + slots p)))) ≡ true → NumberOk p groups k
    go true t e = zeroth (eqb-true k 0 t)
    go false t e =
        let a = and_true (ltb k (groups * 2048)) _ e in
        let b = and_true (ltb (lead p) (k % 2048)) (leb (k % 2048) (lead p + slots p)) a.1 in
        slotted (record { low = ltb-true k (groups * 2048) a.0; over = ltb-true (lead p) (k % 2048) b.0; under = leb-true (k % 2048) (lead p + slots p) b.1 })

or_right : (a b : Bool) → b ≡ true → (a || b) ≡ true
or_right true b e = refl
or_right false b e = e

pub ok_number : (p : Plan) (groups k : ℕ) → NumberOk p groups k → number_fits p groups k ≡ true
ok_number p groups k (zeroth e) = rw (eq-eqb k 0 e)
ok_number p groups k (slotted s) =
    or_right (eqb k 0) _ (both (lt-ltb k (groups * 2048) s.low) (both (lt-ltb (lead p) (k % 2048) s.over) (le-leb (k % 2048) (lead p + slots p) s.under)))

pub number_more : (p : Plan) (g k : ℕ) → NumberOk p g k → NumberOk p (g + 1) k
number_more p g k (zeroth e) = zeroth e
number_more p g k (slotted s) = slotted (record { low = omega (arith, s.low); over = s.over; under = s.under })

-- ---- places

pub data PlaceOk (p : Plan) (groups q : ℕ) : Type 0 where
  zeroth_place : q ≡ 0 → PlaceOk p groups q
  placed : q < groups * group_words p → PlaceOk p groups q

pub place_ok : (p : Plan) (groups q : ℕ) → place_fits p groups q ≡ true → PlaceOk p groups q
place_ok p groups q e = go (eqb q 0) refl e
  where
    go : (b : Bool) → eqb q 0 ≡ b → (b || ltb q (groups * group_words p)) ≡ true → PlaceOk p groups q
    go true t e = zeroth_place (eqb-true q 0 t)
    go false t e = placed (ltb-true q (groups * group_words p) e)

ok_place : (p : Plan) (groups q : ℕ) → PlaceOk p groups q → place_fits p groups q ≡ true
ok_place p groups q (zeroth_place e) = rw (eq-eqb q 0 e)
ok_place p groups q (placed h) = or_right (eqb q 0) _ (lt-ltb q (groups * group_words p) h)

place_more : (p : Plan) (g q : ℕ) → PlaceOk p g q → PlaceOk p (g + 1) q
place_more p g q (zeroth_place e) = zeroth_place e
place_more p g q (placed h) = placed (omega (arith, h))

-- ---- unanswered notices

-- on its index, an ARINC bus
pub data WaitOk (p : Plan) (ks : List Kind) (groups j k : ℕ) : Type 0 where
  empty : k ≡ 0 → WaitOk p ks groups j k
  waits : NumberOk p groups k → kind_on ks (j / 4) ≡ Arinc429 → WaitOk p ks groups j k

pub data WaitsOk (p : Plan) (ks : List Kind) (groups : ℕ) : ℕ → List ℕ → Type 0 where
  last : {j : ℕ} → WaitsOk p ks groups j []
  next : {j k : ℕ} {l : List ℕ} → WaitOk p ks groups j k → WaitsOk p ks groups (j + 1) l → WaitsOk p ks groups j (k ∷ l)

pub waits_ok : (p : Plan) (ks : List Kind) (groups j : ℕ) (l : List ℕ) → waits_fit p ks groups j l ≡ true → WaitsOk p ks groups j l
unfolding waits_fit
waits_ok p ks groups j [] e = last
waits_ok p ks groups j (k ∷ l) e =
    let a = and_true (number_fits p groups k && (eqb k 0 || is_arinc (kind_on ks (j / 4)))) (waits_fit p ks groups (j + 1) l) e in
    let b = and_true (number_fits p groups k) (eqb k 0 || is_arinc (kind_on ks (j / 4))) a.0 in
    next (go (eqb k 0) refl b.1 (number_ok p groups k b.0)) (waits_ok p ks groups (j + 1) l a.1)
  where
    go : (t : Bool) → eqb k 0 ≡ t → (t || is_arinc (kind_on ks (j / 4))) ≡ true → NumberOk p groups k → WaitOk p ks groups j k
    go true t e n = empty (eqb-true k 0 t)
    go false t e n = waits n (is_arinc_lem (kind_on ks (j / 4)) e)

pub ok_waits : (p : Plan) (ks : List Kind) (groups j : ℕ) (l : List ℕ) → WaitsOk p ks groups j l → waits_fit p ks groups j l ≡ true
unfolding waits_fit
ok_waits p ks groups j [] last = refl
ok_waits p ks groups j (k ∷ l) (next (empty e) o) = both (both (ok_number p groups k (zeroth e)) (rw (eq-eqb k 0 e))) (ok_waits p ks groups (j + 1) l o)
ok_waits p ks groups j (k ∷ l) (next (waits n e) o) = both (both (ok_number p groups k n) (or_right (eqb k 0) _ (arinc_is _ e))) (ok_waits p ks groups (j + 1) l o)

wait_more : (p : Plan) (ks : List Kind) (g j k : ℕ) → WaitOk p ks g j k → WaitOk p ks (g + 1) j k
wait_more p ks g j k (empty e) = empty e
wait_more p ks g j k (waits n e) = waits (number_more p g k n) e

pub waits_more : (p : Plan) (ks : List Kind) (g j : ℕ) (l : List ℕ) → WaitsOk p ks g j l → WaitsOk p ks (g + 1) j l
waits_more p ks g j [] last = last
waits_more p ks g j (k ∷ l) (next w o) = next (wait_more p ks g j k w) (waits_more p ks g (j + 1) l o)

waits_set : (p : Plan) (ks : List Kind) (g j i k : ℕ) (l : List ℕ) → WaitOk p ks g (j + i) k → WaitsOk p ks g j l → WaitsOk p ks g j (set l i k)
waits_set p ks g j i k [] w last = last
waits_set p ks g j zero k (x ∷ l) w (next v o) =
    let e : j + 0 ≡ j = omega arith in
    next (rw e at w) o
waits_set p ks g j (suc i) k (x ∷ l) w (next v o) =
    let e : j + suc i ≡ j + 1 + i = omega arith in
    next v (waits_set p ks g (j + 1) i k l (rw e at w) o)

wait_number : (p : Plan) (ks : List Kind) (g j k : ℕ) → WaitOk p ks g j k → NumberOk p g k
wait_number p ks g j k (empty e) = zeroth e
wait_number p ks g j k (waits n e) = n

waits_at : (p : Plan) (ks : List Kind) (g j i : ℕ) (l : List ℕ) → WaitsOk p ks g j l → NumberOk p g (get_or l i 0)
waits_at p ks g j i [] last = zeroth refl
waits_at p ks g j zero (x ∷ l) (next v o) = wait_number p ks g j x v
waits_at p ks g j (suc i) (x ∷ l) (next v o) = waits_at p ks g (j + 1) i l o

pub record WatchOk (p : Plan) (ks : List Kind) (g : ℕ) (x : Watch) : Type 0 where
  pub size : length x.waits ≡ 64
  pub each : WaitsOk p ks g 0 x.waits
  pub first : NumberOk p g x.shown

first_ok : (p : Plan) (g a b : ℕ) → NumberOk p g a → NumberOk p g b → NumberOk p g (or_first a b)
first_ok p g a b x y = go (eqb a 0)
  where
    go : (t : Bool) → NumberOk p g (cond t b a)
    go true = y
    go false = x

part_fits : (bus w : ℕ) → Fits (part bus (label_of w) (info_of w))
unfolding label_of info_of
part_fits bus w = record { label = omega arith; info = omega arith }

-- ---- notices stand on ARINC buses

abbrev OnArinc : List Kind → Role → Type 0
OnArinc ks role.neither = Unit {0}
OnArinc ks (role.notice j) = kind_on ks ((0 + j) / 4) ≡ Arinc429
OnArinc ks (role.word j) = Unit {0}

role_arinc : (ks : List Kind) (k : Kind) (bus label info : ℕ) → kind_on ks bus ≡ k → OnArinc ks (role_on k (part bus label info))
role_arinc ks Unused bus label info e = tt
role_arinc ks Mil1553 bus label info e = tt
role_arinc ks Arinc429 bus label info e = go (eqb label 4) (is_syllable label)
  where
    go : (a b : Bool) → OnArinc ks (cond a (role.notice (bus * 4 + info / 2 ^ 13 % 4)) (cond b (role.word (bus * 4 + label / 2 % 4)) role.neither))
    go true b = let i : (0 + (bus * 4 + info / 2 ^ 13 % 4)) / 4 ≡ bus = omega arith in ap (kind_on ks) i ∙ e
    go false true = tt
    go false false = tt

module _ (p : Plan) (ks : List Kind) (g : ℕ) where
  word_ok : (here : ℕ) → NumberOk p g here → (w : Role) → OnArinc ks w → (x : Watch) → WatchOk p ks g x → WatchOk p ks g (watch_word here w x)
  word_ok here n role.neither a x o = o
  word_ok here n (role.notice j) a x o = record {
    size = length-set x.waits j here ∙ o.size;
    each = waits_set p ks g 0 j here x.waits (waits n a) o.each;
    first = first_ok p g x.shown (get_or x.waits j 0) o.first (waits_at p ks g 0 j x.waits o.each);
  }
  word_ok here n (role.word j) a x o = record {
    size = length-set x.waits j 0 ∙ o.size;
    each = waits_set p ks g 0 j 0 x.waits (empty refl) o.each;
    first = o.first;
  }

  -- the watch keeps what fits
  pub watch_ok : (parity : Bool) (ss : List Slot) → All (λ (s : Slot). NumberOk p g s.0) ss → (x : Watch) → WatchOk p ks g x → WatchOk p ks g (watch ks parity ss x)
  unfolding watch
  watch_ok parity [] nil x o = o
  watch_ok parity (s ∷ ss) (cons n ns) x o =
      watch_ok parity ss ns (watch_word s.0 (role_in ks (part_of parity s.1)) x)
      (word_ok s.0 n (role_in ks (part_of parity s.1)) (role_arinc ks (kind_on ks (bus_of parity s.1)) (bus_of parity s.1) (label_of s.1) (info_of s.1) refl) x o)

-- ---- what a run holds, and finishes

abbrev pub RanOk : List Kind → Ran → Type 0
RanOk ks (bad_at q second) = Unit {0}
RanOk ks (ran is h q) = All (Lawful ks) is × HeldOk ks h

more_ok : (ks : List Kind) (is : List Item) → All (Lawful ks) is → (r : Ran) → RanOk ks r → RanOk ks (more is r)
more_ok ks is a (bad_at q second) o = tt
more_ok ks is a (ran js h q) o = (all_append a o.0, o.1)

pub run_ok : (ks : List Kind) (parity : Bool) (ss : List Slot) (h : Held) (q : ℕ) → HeldOk ks h → RanOk ks (run ks parity ss h q)
unfolding run
run_ok ks parity [] h q o = (nil, o)
run_ok ks parity (s ∷ ss) h q o =
    go (is_fill s.1) (feed ks h (bus_of parity s.1) (label_of s.1) (info_of s.1)) (held_parts h ++ part (bus_of parity s.1) (label_of s.1) (info_of s.1) ∷ [])
    (feed_good ks h (part (bus_of parity s.1) (label_of s.1) (info_of s.1)) o fits_part)
    (λ h' q' o'. run_ok ks parity ss h' q' o')
  where
    fits_part : Fits (part (bus_of parity s.1) (label_of s.1) (info_of s.1))
    fits_part = part_fits (bus_of parity s.1) s.1

    go : (t : Bool) (f : Fed) (P : List Part) → Good ks P f → ((h' : Held) (q' : ℕ) → HeldOk ks h' → RanOk ks (run ks parity ss h' q'))
        → RanOk ks (cond t (run ks parity ss h q) (join f q (begun h q s.0) s.0 (λ h' q'. run ks parity ss h' q')))
    go true f P z ih = ih h q o
    go false bad P z ih = tt
    go false (fed is h') P z ih = more_ok ks is z.1 (run ks parity ss h' (since h' q s.0)) (ih h' (since h' q s.0) z.2)

-- ---- a group

pub data BroughtOk (p : Plan) (ks : List Kind) (g : ℕ) : Brought → Type 0 where
  goes : {is : List Item} {x : Carry} → All (Lawful ks) is → carry_fits p ks (g + 1) x ≡ true → BroughtOk p ks g (brings is x)
  halts : {k q second : ℕ} → fits (failed k q second) ≡ true → BroughtOk p ks g (stops k q second)

failed_low : (k q : ℕ) → 9 ≤ k → k ≤ 12 → 3 * q < most_bytes → fits (failed k q 0) ≡ true
unfolding fits
failed_low k q a b h = rw (le-leb 9 k a, le-leb k 13 (omega (arith, b)), lt-ltb (3 * q) most_bytes h, ne_eqb k 13 (λ e. omega (arith, e, b)))

failed_word : (q second : ℕ) → 3 * q < most_bytes → 3 * second < most_bytes → fits (failed 13 q second) ≡ true
unfolding fits
failed_word q second h l = rw (lt-ltb (3 * q) most_bytes h, lt-ltb (3 * second) most_bytes l)

failed_open : (q : ℕ) → 3 * q < most_bytes → fits (failed 15 q 0) ≡ true
unfolding fits
failed_open q h = rw (lt-ltb (3 * q) most_bytes h)

module _ (p : Plan) (ks : List Kind) (ok : Legal p ks) where
  pub dealt_few : p.tracks * rows p ≤ 2044
  unfolding rows
  dealt_few =
      let r : rows p ≤ 511 = omega (arith, ok.shape.words_most) in
      omega (arith, mul-le-mul_left p.tracks r, mul-le-mul_right 511 ok.shape.tracks_most)

  pub lead_in : lead p + slots p ≤ p.tracks * rows p
  unfolding slots lead
  lead_in = go p.frame_time
    where
      go : (b : Bool) → cond b 3 0 + (p.tracks * rows p - cond b 3 0) ≤ p.tracks * rows p
      go true = omega (arith, room p ok.shape)
      go false = omega arith

  number_in : (g k : ℕ) → NumberOk p g k → 1 ≤ g → stored_of p k < g * group_words p
  number_in g k (zeroth e) h = rw e (omega (arith, mul-le-mul_right (group_words p) h, mul-le-mul_right p.words ok.shape.tracks_least, ok.shape.words_least))
  number_in g k (slotted s) h = go (k % 2048) s.over s.under
    where
      go : (m : ℕ) → lead p < m → m ≤ lead p + slots p → k / 2048 * group_words p + in_group p m < g * group_words p
      go zero a b = absurd (omega arith)
      go (suc m) a b =
          let d : k / 2048 + 1 ≤ g = omega (arith, s.low) in
          omega (arith, mul-le-mul_right (group_words p) d, place_low p (long p ok.shape) ok.shape.tracks_least m (omega (arith, lead_in, b)))

  slots_ok : (v : List ℕ) (g : ℕ) → All (λ (s : Slot). NumberOk p (g + 1) s.0) (slots_of p v g)
  unfolding slots_of
  slots_ok v g =
      all_list (λ (s : Slot). NumberOk p (g + 1) s.0) (λ s. (g * 2048 + suc s, word_at v (place_of p s))) (slots p) (lead p)
      (λ i l.
      let m : lead p + i < 2044 = omega (arith, slot_in p i l, dealt_few) in
      let e : (g * 2048 + suc (lead p + i)) % 2048 ≡ suc (lead p + i) = omega (arith, m) in
      slotted (record { low = omega (arith, m); over = rw e (omega arith); under = rw e (omega (arith, l)) }))

  place_in : (g q : ℕ) → PlaceOk p g q → 1 ≤ g → q < g * group_words p
  place_in g q (zeroth_place e) h = rw e (omega (arith, mul-le-mul_right (group_words p) h, mul-le-mul_right p.words ok.shape.tracks_least, ok.shape.words_least))
  place_in g q (placed l) h = l

  places_ok : (v : List ℕ) (g : ℕ) → All (λ (s : Slot). PlaceOk p (g + 1) s.0) (slots_at p v (g * group_words p))
  unfolding slots_at
  places_ok v g =
      all_list (λ (s : Slot). PlaceOk p (g + 1) s.0) (λ s. (g * group_words p + place_of p s, word_at v (place_of p s))) (slots p) (lead p)
      (λ i l. placed (omega (arith, place_low p (long p ok.shape) ok.shape.tracks_least (lead p + i) (slot_in p i l))))

  -- the two names of a slot
  pub stored_number : (g s : ℕ) → suc s < 2048 → stored_of p (g * 2048 + suc s) ≡ g * group_words p + place_of p s
  stored_number g s h =
      let q : (g * 2048 + suc s) / 2048 ≡ g = omega arith in
      let r : (g * 2048 + suc s) % 2048 ≡ suc s = omega arith in
      ap₂ (λ (a b : ℕ). a * group_words p + in_group p b) q r

  named_list : (v : List ℕ) (g m a : ℕ) → a + m ≤ p.tracks * rows p
      → list (λ s. (g * group_words p + place_of p s, word_at v (place_of p s))) a m ≡ map (named (stored_of p)) (list (λ s. (g * 2048 + suc s, word_at v (place_of p s))) a m)
  unfolding list
  named_list v g zero a h = refl
  named_list v g (suc m) a h =
      ap₂ (λ (x : Slot) (y : List Slot). x ∷ y) (ap (λ (q : ℕ). (q, word_at v (place_of p a))) (sym (stored_number g a (omega (arith, h, dealt_few))))) (named_list v g m (a + 1) (omega (arith, h)))

  pub slots_named : (v : List ℕ) (g : ℕ) → slots_at p v (g * group_words p) ≡ map (named (stored_of p)) (slots_of p v g)
  unfolding slots_at slots_of
  slots_named v g = named_list v g (slots p) (lead p) lead_in

  module _ (g : ℕ) (small : (g + 1) * group_size p ≤ most_bytes) where
    watched_ok : (r : Ran) (y : Watch) → RanIn (PlaceOk p (g + 1)) r → RanOk ks r → WatchOk p ks (g + 1) y → BroughtOk p ks g (watched p r y)
    watched_ok (bad_at q second) y i o w =
        halts (failed_word q second (omega (arith, place_in (g + 1) q i.0 (omega arith), small)) (omega (arith, place_in (g + 1) second i.1 (omega arith), small)))
    watched_ok (ran is h k) y i o w = go (eqb y.shown 0)
      where
        go : (b : Bool) → BroughtOk p ks g (cond b (brings is (record { held = h; since = k; waits = y.waits })) (stops 15 (stored_of p y.shown) 0))
        go true = goes o.0 (both (ok_held ks h o.1) (both (ok_place p (g + 1) k i) (both (eq-eqb (length y.waits) 64 w.size) (ok_waits p ks (g + 1) 0 y.waits w.each))))
        go false = halts (failed_open (stored_of p y.shown) (omega (arith, number_in (g + 1) y.shown w.first (omega arith), small)))

    soundly_ok : (f : Fault) (b : Brought) → FaultIn 0 (0 + group_words p) f → BroughtOk p ks g b → BroughtOk p ks g (soundly (moved_fault (g * group_words p) f) b)
    soundly_ok none b i o = o
    soundly_ok (found k q) b i o = halts (failed_low k (g * group_words p + q) i.0 i.1 (omega (arith, i.2.under, small)))

    pub take_ok : (v : List ℕ) (x : Carry) → carry_fits p ks g x ≡ true → BroughtOk p ks g (take_group p ks v g x)
    unfolding take_group
    take_ok v x e =
        let a = and_true (held_fits ks x.held) _ e in
        let b = and_true (place_fits p g x.since) _ a.1 in
        let c = and_true (eqb (length x.waits) 64) _ b.1 in
        let o : HeldOk ks x.held = held_ok ks x.held a.0 in
        let n : PlaceOk p (g + 1) x.since = place_more p g x.since (place_ok p g x.since b.0) in
        let at : ℕ = g * group_words p in
        let y : Watch = record { waits = x.waits; shown = 0 } in
        let w : WatchOk p ks (g + 1) y = record { size = eqb-true (length x.waits) 64 c.0; each = waits_more p ks g 0 x.waits (waits_ok p ks g 0 x.waits c.1); first = zeroth refl } in
        soundly_ok (group_fault p v 0) (watched p (run ks p.parity (slots_at p v (g * group_words p)) x.held x.since) (watch ks p.parity (slots_of p v g) y))
        (fault_in p v 0 (long p ok.shape) ok.shape.tracks_least (room p ok.shape))
        (watched_ok (run ks p.parity (slots_at p v (g * group_words p)) x.held x.since) (watch ks p.parity (slots_of p v g) y)
        (run_in ks p.parity (PlaceOk p (g + 1)) (slots_at p v (g * group_words p)) (places_ok v g) x.held x.since n)
        (run_ok ks p.parity (slots_at p v (g * group_words p)) x.held x.since o)
        (watch_ok p ks (g + 1) p.parity (slots_of p v g) (slots_ok v g) y w))
