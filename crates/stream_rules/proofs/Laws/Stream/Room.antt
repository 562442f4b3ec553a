-- 12,288 bytes for the log are enough for every call on a state that passes, and the entries asked for are enough.
use Rattle.std.specs.Prelude.{ℕ, zero, suc, ◌+◌, ◌*◌, ◌/◌, ◌%◌, ◌^◌, ◌-◌, ◌≤◌, ◌<◌, Bool, true, false, cond, ◌&&◌, ◌||◌, not, ◌≡◌, refl, length, ltb, leb, eqb}
use Rattle.std.proofs.Common.{arith, mul-le-mul_right, mul-le-mul_left, le-div_iff_mul-le, ap, sym, ◌∙◌, ap₂, length-append, ltb-false, leb-true}
use mathlib.Core.List.{List, [], ◌∷◌, ◌++◌, flat_map}
use Rattle.format.specs.Bits.{bits_of, packed}
use Rattle.format.specs.Word.{bus_of, label_of, info_of, is_fill}
use Rattle.format.specs.Time.{below_tick}
use Rattle.format.specs.Plan.{legal, slots, rows, lead, group_words, kind_on, times_needed}
use Rattle.format.specs.Item.{item_bits, item_fields, low_label, channel_of}
use Rattle.format.specs.Reader.{Slot, Fed, bad, fed, alone, holds, after, feed, starts, is_high, is_pair, base_bus, with_tag, Ran, bad_at, ran, run, begun, join, more, since}
use Rattle.format.specs.Group.{Fault, none, found, group_fault, group_time}
use Rattle.format.specs.Read.{Got, got, stopped, finish}
use Rattle.stream_rules.specs.Stream.{whole_bytes, rest_bits, stored_of, slots_of, slots_at, moved_fault, Watch, watch, earliest, Carry, Brought, brings, stops, watched, soundly, take_group, unless_waits, closing, closing_items, closing_at, group_size, most_bytes, fits}
use Rattle.stream_rules.specs.Stream.{State, closed, failed, working, Working, count_of, Flow, still, flowed, taken, keeps, feed_byte, feed_bytes, Call, refused_by, answered, entries_for, is_open_state, feedable, fed_on, fed_by, closed_with, close_on, closed_by}
use Rattle.format.specs.Laws.Tests.{and_true}
use Rattle.format.specs.Laws.Lists.{flat_map_append, length_list}
use Rattle.format.specs.Laws.Legal.{Legal, legal_is}
use Rattle.capture_rules.proofs.Laws.Split.Whole.{slots_few}
use Rattle.format.specs.Laws.Bits.{length_bits}
use Rattle.stream_rules.specs.Laws.Stream.Bits.{whole_size}
use Rattle.stream_rules.proofs.Laws.Stream.Kept.{Fit, fits_is}
use Rattle.format.specs.declared.Kind.{Kind}
use Rattle.format.specs.declared.Kind.TheVariants.{Unused, Mil1553, Arinc429}
use Rattle.format.specs.declared.Tag.TheVariants.{Untagged, At}
use Rattle.format.specs.declared.Response.TheVariants.{Untimed, After}
use Rattle.format.specs.declared.Item.{Item}
use Rattle.format.specs.declared.Item.TheVariants.{Command, Status, Data, BusError, Arinc, Notice, User, Overflow}
use Rattle.format.specs.declared.Base.{Base}
use Rattle.format.specs.declared.Base.TheVariants as base
use Rattle.format.specs.declared.Held.{Held}
use Rattle.format.specs.declared.Held.TheVariants.{Nothing, Taggable, Half, TagHigh, TagLow, Answering}
use Rattle.format.specs.declared.Plan.{Plan}

-- the bits of items
abbrev bits_in : List Item → ℕ
bits_in is = length (flat_map item_bits is)

-- what is held will have as many bits as this, and at most 26 for each word that is still to come
abbrev owed_base : Base → ℕ
owed_base (base.Command bus b word) = 26
owed_base (base.Arinc bus c word) = 43

abbrev pub owed : Held → ℕ
owed Nothing = 0
owed (Taggable x) = owed_base x
owed (Half bus c high) = 17
owed (TagHigh x high) = owed_base x + 16
owed (TagLow x high low) = owed_base x + 32
owed (Answering bus r) = 14

pub data Costs (n : ℕ) : Fed → Type 0 where
  free : Costs n bad
  costs : {is : List Item} {h : Held} → bits_in is + owed h ≤ n → Costs n (fed is h)

costs_if : (n : ℕ) (t : Bool) (a b : Fed) → Costs n a → Costs n b → Costs n (cond t a b)
costs_if n true a b x y = x
costs_if n false a b x y = y

one : (n : ℕ) (i : Item) → length (item_bits i) ≤ n → Costs n (alone i)
unfolding flat_map
one n i h = costs {is = i ∷ []} {h = Nothing} (omega (arith, h, length-append (item_bits i) []))

hold : (n : ℕ) (h : Held) → owed h ≤ n → Costs n (holds h)
unfolding flat_map
hold n h l = costs {is = []} {h = h} (omega (arith, l))

starts_costs : (k : Kind) (bus label info : ℕ) → Costs 26 (starts k bus label info)
unfolding starts item_bits item_fields bits_of flat_map
starts_costs Unused bus label info = free
starts_costs Mil1553 bus label info =
    costs_if 26 (eqb label 15) _ _ (hold 26 (Taggable (base.Command bus false info)) (omega arith))
    (costs_if 26 (eqb label 11) _ _ (hold 26 (Taggable (base.Command bus true info)) (omega arith))
    (costs_if 26 (eqb label 14) _ _ (one 26 (Status bus false Untimed info) (omega arith))
    (costs_if 26 (eqb label 10) _ _ (one 26 (Status bus true Untimed info) (omega arith))
    (costs_if 26 (eqb label 13) _ _ (one 26 (Data bus false info) (omega arith))
    (costs_if 26 (eqb label 9) _ _ (one 26 (Data bus true info) (omega arith))
    (costs_if 26 (eqb label 12) _ _ (one 26 (BusError bus false info) (omega arith))
    (costs_if 26 (eqb label 8) _ _ (one 26 (BusError bus true info) (omega arith))
    (costs_if 26 (eqb label 4) _ _ (costs_if 26 (below_tick info) _ _ (hold 26 (Answering bus info) (omega arith)) free)
    (costs_if 26 (eqb label 3) _ _ (one 26 (User bus true info) (omega arith))
    (costs_if 26 (eqb label 2) _ _ (one 26 (User bus false info) (omega arith))
    (costs_if 26 (eqb label 0) _ _ (one 26 (Overflow bus info) (omega arith)) free)))))))))))
starts_costs Arinc429 bus label info =
    costs_if 26 (is_high label) _ _ (hold 26 (Half bus (channel_of label) info) (omega arith))
    (costs_if 26 (eqb label 4) _ _ (costs_if 26 (is_pair (info / 2 ^ 12) (info / 2 ^ 8 % 16)) _ _ (one 26 (Notice bus (channel_of (info / 2 ^ 12)) (info % 2 ^ 8)) (omega arith)) free)
    (costs_if 26 (eqb label 3) _ _ (one 26 (User bus true info) (omega arith))
    (costs_if 26 (eqb label 2) _ _ (one 26 (User bus false info) (omega arith))
    (costs_if 26 (eqb label 0) _ _ (one 26 (Overflow bus info) (omega arith)) free))))

untagged_size : (x : Base) → length (item_bits (with_tag x Untagged)) ≡ owed_base x
unfolding item_bits item_fields bits_of flat_map
untagged_size (base.Command bus b word) = refl
untagged_size (base.Arinc bus c word) = refl

tagged_size : (x : Base) (high low micro : ℕ) → length (item_bits (with_tag x (At (record { high = high; low = low; micro = micro })))) ≡ owed_base x + 46
unfolding item_bits item_fields bits_of flat_map
tagged_size (base.Command bus b word) high low micro = refl
tagged_size (base.Arinc bus c word) high low micro = refl

after_costs : (n : ℕ) (i : Item) (f : Fed) → Costs n f → Costs (length (item_bits i) + n) (after i f)
unfolding flat_map
after_costs n i bad free = free
after_costs n i (fed is h) (costs l) = costs {is = i ∷ is} {h = h} (omega (arith, l, length-append (item_bits i) (flat_map item_bits is)))

timed_size : (bus : ℕ) (b : Bool) (r info : ℕ) → length (item_bits (Status bus b (After r) info)) ≡ 40
unfolding item_bits item_fields bits_of flat_map
timed_size bus b r info = refl

feed_costs : (ks : List Kind) (h : Held) (bus label info : ℕ) → Costs (owed h + 26) (feed ks h bus label info)
unfolding feed
feed_costs ks Nothing bus label info = starts_costs (kind_on ks bus) bus label info
feed_costs ks (Taggable x) bus label info =
    costs_if (owed_base x + 26) (eqb label 7 && eqb bus (base_bus x)) (holds (TagHigh x info)) (after (with_tag x Untagged) (starts (kind_on ks bus) bus label info))
    (hold (owed_base x + 26) (TagHigh x info) (omega arith))
    (rw (untagged_size x) at (after_costs 26 (with_tag x Untagged) (starts (kind_on ks bus) bus label info) (starts_costs (kind_on ks bus) bus label info)))
feed_costs ks (Half b c high) bus label info =
    costs_if 43 (eqb bus b && eqb label (low_label c)) (holds (Taggable (base.Arinc b c (high * 2 ^ 16 + info)))) bad (hold 43 (Taggable (base.Arinc b c (high * 2 ^ 16 + info))) (omega arith)) free
feed_costs ks (TagHigh x high) bus label info =
    costs_if (owed_base x + 16 + 26) (eqb bus (base_bus x) && eqb label 6) (holds (TagLow x high info)) bad (hold (owed_base x + 16 + 26) (TagLow x high info) (omega arith)) free
feed_costs ks (TagLow x high low) bus label info =
    let i : Item = with_tag x (At (record { high = high; low = low; micro = info })) in
    costs_if (owed_base x + 32 + 26) (eqb bus (base_bus x) && eqb label 5 && below_tick info) (alone i) bad (one (owed_base x + 32 + 26) i (omega (arith, tagged_size x high low info))) free
feed_costs ks (Answering b r) bus label info =
    let i : Item = Status b (eqb label 10) (After r) info in
    costs_if 40 (eqb bus b && (eqb label 14 || eqb label 10)) (alone i) bad (one 40 i (omega (arith, timed_size b (eqb label 10) r info))) free

-- ---- a run

abbrev RanCosts : ℕ → Ran → Type 0
RanCosts n (bad_at q second) = Unit {0}
RanCosts n (ran is h q) = bits_in is + owed h ≤ n

more_costs : (n m : ℕ) (is : List Item) (r : Ran) → bits_in is + m ≤ n → RanCosts m r → RanCosts n (more is r)
more_costs n m is (bad_at q second) l c = tt
more_costs n m is (ran js h q) l c = rw (flat_map_append item_bits is js, length-append (flat_map item_bits is) (flat_map item_bits js)) (omega (arith, l, c))

less_costs : (n m : ℕ) (r : Ran) → n ≤ m → RanCosts n r → RanCosts m r
less_costs n m (bad_at q second) l c = tt
less_costs n m (ran is h q) l c = omega (arith, l, c)

run_costs : (ks : List Kind) (parity : Bool) (ss : List Slot) (h : Held) (q : ℕ) → RanCosts (owed h + 26 * length ss) (run ks parity ss h q)
unfolding run flat_map
run_costs ks parity [] h q = omega arith
run_costs ks parity (s ∷ ss) h q =
    go (is_fill s.1) (feed ks h (bus_of parity s.1) (label_of s.1) (info_of s.1)) (feed_costs ks h (bus_of parity s.1) (label_of s.1) (info_of s.1)) (λ h' q'. run_costs ks parity ss h' q')
  where
    n : ℕ
    n = owed h + 26 * suc (length ss)

    go : (t : Bool) (f : Fed) → Costs (owed h + 26) f → ((h' : Held) (q' : ℕ) → RanCosts (owed h' + 26 * length ss) (run ks parity ss h' q'))
        → RanCosts (owed h + 26 * suc (length ss)) (cond t (run ks parity ss h q) (join f q (begun h q s.0) s.0 (λ h' q'. run ks parity ss h' q')))
    go true f c ih = less_costs (owed h + 26 * length ss) (owed h + 26 * suc (length ss)) (run ks parity ss h q) (omega arith) (ih h q)
    go false bad c ih = tt
    go false (fed is h') (costs l) ih =
        more_costs (owed h + 26 * suc (length ss)) (owed h' + 26 * length ss) is (run ks parity ss h' (since h' q s.0)) (omega (arith, l)) (ih h' (since h' q s.0))

-- ---- a group

abbrev BroughtCosts : ℕ → Brought → Type 0
BroughtCosts n (stops k q second) = Unit {0}
BroughtCosts n (brings is x) = bits_in is + owed x.held ≤ n

watched_costs : (n : ℕ) (p : Plan) (r : Ran) (y : Watch) → RanCosts n r → BroughtCosts n (watched p r y)
watched_costs n p (bad_at k second) y c = tt
watched_costs n p (ran is h k) y c = go (eqb y.shown 0)
  where
    go : (b : Bool) → BroughtCosts n (cond b (brings is (record { held = h; since = k; waits = y.waits })) (stops 15 (stored_of p y.shown) 0))
    go true = c
    go false = tt

soundly_costs : (n : ℕ) (f : Fault) (b : Brought) → BroughtCosts n b → BroughtCosts n (soundly f b)
soundly_costs n none b c = c
soundly_costs n (found k q) b c = tt

slots_length : (p : Plan) (v : List ℕ) (at : ℕ) → length (slots_at p v at) ≡ slots p
unfolding slots_at
slots_length p v at = length_list _ (lead p) (slots p)

take_costs : (p : Plan) (ks : List Kind) (v : List ℕ) (g : ℕ) (x : Carry) → BroughtCosts (owed x.held + 26 * slots p) (take_group p ks v g x)
unfolding take_group
take_costs p ks v g x =
    let c : RanCosts (owed x.held + 26 * slots p) (run ks p.parity (slots_at p v (g * group_words p)) x.held x.since) =
    rw (slots_length p v (g * group_words p)) at (run_costs ks p.parity (slots_at p v (g * group_words p)) x.held x.since) in
    soundly_costs (owed x.held + 26 * slots p) (moved_fault (g * group_words p) (group_fault p v 0))
    (watched p (run ks p.parity (slots_at p v (g * group_words p)) x.held x.since) (watch ks p.parity (slots_of p v g) (record { waits = x.waits; shown = 0 })))
    (watched_costs (owed x.held + 26 * slots p) p (run ks p.parity (slots_at p v (g * group_words p)) x.held x.since) (watch ks p.parity (slots_of p v g) (record { waits = x.waits; shown = 0 })) c)

-- ---- bytes: three times the bits left over and owed, and 26 for each byte that waits

abbrev pub weight : State → ℕ
weight closed = 0
weight (failed k q second) = 0
weight (working w) = 3 * (length w.bits + owed w.carry.held) + 26 * length w.waiting

taken_weight : (w : Working) (v : List ℕ) (b : Brought) → group_size w.plan ≤ length v → length v ≡ length w.waiting + 1
    → BroughtCosts (owed w.carry.held + 26 * slots w.plan) b → 24 * length (taken w v b).log + weight (taken w v b).state ≤ weight (working w) + 26
taken_weight w v (stops k q second) h l c = omega arith
taken_weight w v (brings is x) h l c =
    omega (arith, h, l, c, slots_few w.plan, whole_size (w.bits ++ flat_map item_bits is), length-append w.bits (flat_map item_bits is))

byte_weight : (s : State) (b : ℕ) → 24 * length (feed_byte s b).log + weight (feed_byte s b).state ≤ weight s + 26
byte_weight closed b = omega arith
byte_weight (failed k q second) b = omega arith
byte_weight (working w) b = go (ltb (length (w.waiting ++ b ∷ [])) (group_size w.plan)) refl
  where
    l : length (w.waiting ++ b ∷ []) ≡ length w.waiting + 1
    l = length-append w.waiting (b ∷ [])

    B : Brought
    B = take_group w.plan w.kinds (w.waiting ++ b ∷ []) w.groups w.carry

    go : (t : Bool) → ltb (length (w.waiting ++ b ∷ [])) (group_size w.plan) ≡ t
        → 24 * length (cond t (still (working (keeps w (w.waiting ++ b ∷ [])))) (taken w (w.waiting ++ b ∷ []) B)).log + weight (cond t (still (working (keeps w (w.waiting ++ b ∷ [])))) (taken w (w.waiting ++ b ∷ []) B)).state
        ≤ weight (working w) + 26
    go true t = omega (arith, l)
    go false t = taken_weight w (w.waiting ++ b ∷ []) B (ltb-false (length (w.waiting ++ b ∷ [])) (group_size w.plan) t) l (take_costs w.plan w.kinds (w.waiting ++ b ∷ []) w.groups w.carry)

pub feed_weight : (xs : List ℕ) (s : State) → 24 * length (feed_bytes s xs).log + weight (feed_bytes s xs).state ≤ weight s + 26 * length xs
unfolding feed_bytes
feed_weight [] s = omega arith
feed_weight (x ∷ xs) s =
    rw (length-append (feed_byte s x).log (feed_bytes (feed_byte s x).state xs).log) (omega (arith, byte_weight s x, feed_weight xs (feed_byte s x).state))

pub owed_few : (h : Held) → owed h ≤ 75
owed_few Nothing = omega arith
owed_few (Taggable (base.Command bus b word)) = omega arith
owed_few (Taggable (base.Arinc bus c word)) = omega arith
owed_few (Half bus c high) = omega arith
owed_few (TagHigh (base.Command bus b word) high) = omega arith
owed_few (TagHigh (base.Arinc bus c word) high) = omega arith
owed_few (TagLow (base.Command bus b word) high low) = omega arith
owed_few (TagLow (base.Arinc bus c word) high low) = omega arith
owed_few (Answering bus r) = omega arith

size_few : (p : Plan) (ks : List Kind) → Legal p ks → group_size p ≤ 6144
size_few p ks ok = omega (arith, mul-le-mul_right p.words ok.shape.tracks_most, ok.shape.words_most)

-- a call hands out at most 11,102 bytes of log
pub room_enough : (w : Working) → fits (working w) ≡ true → (piece : List ℕ) → length piece ≤ 4096 → length (feed_bytes (working w) piece).log ≤ 11102
room_enough w e piece h =
    let f = fits_is w e in
    omega (arith, feed_weight piece (working w), owed_few w.carry.held, f.short, f.part, size_few w.plan w.kinds (legal_is w.plan w.kinds f.lawful), h)

-- ---- the times

abbrev Planned : Plan → State → Type 0
Planned p closed = Unit {0}
Planned p (failed k q second) = Unit {0}
Planned p (working w) = w.plan ≡ p

abbrev waits_in : State → ℕ
waits_in closed = 0
waits_in (failed k q second) = 0
waits_in (working w) = length w.waiting

-- a frame time at most for each group that the bytes fill
record Few (p : Plan) (n : ℕ) (f : Flow) : Type 0 where
  planned : Planned p f.state
  few : group_size p * length f.times + waits_in f.state ≤ n
  untimed : p.frame_time ≡ false → length f.times ≡ 0

time_few : (b : Bool) (t : ℕ) → length (cond b (t ∷ []) []) ≤ 1
time_few true t = omega arith
time_few false t = omega arith

time_none : (b : Bool) (t : ℕ) → b ≡ false → length (cond b (t ∷ []) []) ≡ 0
time_none true t e = let z : ◌≡◌ {A = ℕ} 1 0 = ap (λ (b : Bool). cond b 1 0) e in absurd (omega arith)
time_none false t e = refl

taken_few : (w : Working) (v : List ℕ) (b : Brought) → group_size w.plan ≤ length v → Few w.plan (length v) (taken w v b)
taken_few w v (stops k q second) h = record { planned = tt; few = omega arith; untimed = λ e. refl }
taken_few w v (brings is x) h =
    record {
      planned = refl;
      few = omega (arith, h, mul-le-mul_left (group_size w.plan) (time_few w.plan.frame_time (group_time w.plan v 0)));
      untimed = λ e. time_none w.plan.frame_time (group_time w.plan v 0) e;
    }

byte_few : (p : Plan) (s : State) (b : ℕ) → Planned p s → Few p (waits_in s + 1) (feed_byte s b)
byte_few p closed b e = record { planned = tt; few = omega arith; untimed = λ e. refl }
byte_few p (failed k q second) b e = record { planned = tt; few = omega arith; untimed = λ e. refl }
byte_few p (working w) b e = rw (← e) (go (ltb (length (w.waiting ++ b ∷ [])) (group_size w.plan)) refl)
  where
    l : length (w.waiting ++ b ∷ []) ≡ length w.waiting + 1
    l = length-append w.waiting (b ∷ [])

    B : Brought
    B = take_group w.plan w.kinds (w.waiting ++ b ∷ []) w.groups w.carry

    go : (t : Bool) → ltb (length (w.waiting ++ b ∷ [])) (group_size w.plan) ≡ t
        → Few w.plan (length w.waiting + 1) (cond t (still (working (keeps w (w.waiting ++ b ∷ [])))) (taken w (w.waiting ++ b ∷ []) B))
    go true t = record { planned = refl; few = omega (arith, l); untimed = λ e. refl }
    go false t = rw l at (taken_few w (w.waiting ++ b ∷ []) B (ltb-false (length (w.waiting ++ b ∷ [])) (group_size w.plan) t))

feed_few : (p : Plan) (xs : List ℕ) (s : State) → Planned p s → Few p (waits_in s + length xs) (feed_bytes s xs)
unfolding feed_bytes
feed_few p [] s e = record { planned = e; few = omega arith; untimed = λ e. refl }
feed_few p (x ∷ xs) s e =
    let a = byte_few p s x e in
    let b = feed_few p xs (feed_byte s x).state a.planned in
    let l = length-append (feed_byte s x).times (feed_bytes (feed_byte s x).state xs).times in
    record {
      planned = b.planned;
      few = rw l (omega (arith, a.few, b.few));
      untimed = λ z. rw l (omega (arith, a.untimed z, b.untimed z));
    }

-- the entries asked for are enough
pub entries_enough : (w : Working) → fits (working w) ≡ true → (piece : List ℕ) → length (feed_bytes (working w) piece).times ≤ entries_for (working w) (length piece)
entries_enough w e piece = go w.plan.frame_time refl
  where
    f : Few w.plan (length w.waiting + length piece) (feed_bytes (working w) piece)
    f = feed_few w.plan piece (working w) refl

    ok : Legal w.plan w.kinds
    ok = legal_is w.plan w.kinds (fits_is w e).lawful

    some : 1 ≤ group_size w.plan
    some = omega (arith, mul-le-mul_right w.plan.words ok.shape.tracks_least, ok.shape.words_least)

    go : (b : Bool) → w.plan.frame_time ≡ b → length (feed_bytes (working w) piece).times ≤ cond b ((length w.waiting + length piece) / group_size w.plan) 0
    go true t = (le-div_iff_mul-le some).1 (omega (arith, f.few))
    go false t = omega (arith, f.untimed t)

-- ---- the close

packed_size : (xs : List ℕ) → length (packed xs) * 8 ≤ length xs + 7
unfolding packed
packed_size [] = omega arith
packed_size (a ∷ []) = omega arith
packed_size (a ∷ b ∷ []) = omega arith
packed_size (a ∷ b ∷ c ∷ []) = omega arith
packed_size (a ∷ b ∷ c ∷ d ∷ []) = omega arith
packed_size (a ∷ b ∷ c ∷ d ∷ e ∷ []) = omega arith
packed_size (a ∷ b ∷ c ∷ d ∷ e ∷ f ∷ []) = omega arith
packed_size (a ∷ b ∷ c ∷ d ∷ e ∷ f ∷ g ∷ []) = omega arith
packed_size (a ∷ b ∷ c ∷ d ∷ e ∷ f ∷ g ∷ h ∷ rest) = omega (arith, packed_size rest)

abbrev GotCosts : Got → Type 0
GotCosts (got is) = bits_in is ≤ 43
GotCosts (stopped k q second) = Unit {0}

finish_costs : (h : Held) (q : ℕ) → GotCosts (finish h q)
unfolding item_bits item_fields bits_of flat_map
finish_costs Nothing q = omega arith
finish_costs (Taggable (base.Command bus b word)) q = omega arith
finish_costs (Taggable (base.Arinc bus c word)) q = omega arith
finish_costs (Half bus c high) q = tt
finish_costs (TagHigh x high) q = tt
finish_costs (TagLow x high low) q = tt
finish_costs (Answering bus r) q = tt

closing_costs : (p : Plan) (part count : ℕ) (x : Carry) → GotCosts (closing_at p part count x)
unfolding closing
closing_costs p part count x = go (eqb part 0)
  where
    items : (g : Got) → GotCosts g → GotCosts (closing_items p x g)
    items (stopped k q second) c = tt
    items (got is) c = two (eqb (earliest x.waits) 0)
      where
        two : (b : Bool) → GotCosts (cond b (got is) (stopped 15 (stored_of p (earliest x.waits)) 0))
        two true = c
        two false = tt

    go : (b : Bool) → GotCosts (cond b (closing_items p x (finish x.held x.since)) (stopped 8 count 0))
    go true = items (finish x.held x.since) (finish_costs x.held x.since)
    go false = tt

with_few : (w : Working) (r : Got) → length w.bits < 8 → GotCosts r → length (closed_with w r).log ≤ 7
with_few w (stopped k q second) h c = omega arith
with_few w (got is) h c =
    omega (arith, packed_size (w.bits ++ (flat_map item_bits is ++ bits_of 4 0)), length-append w.bits (flat_map item_bits is ++ bits_of 4 0), length-append (flat_map item_bits is) (bits_of 4 0), four, h, c)
  where
    four : length (bits_of 4 0) ≡ 4
    four = length_bits 4 0

-- the close writes at most seven bytes
pub close_few : (w : Working) → fits (working w) ≡ true → length (close_on (working w)).log ≤ 7
close_few w e = with_few w (closing_at w.plan (length w.waiting) (count_of w) w.carry) (fits_is w e).short (closing_costs w.plan (length w.waiting) (count_of w) w.carry)
