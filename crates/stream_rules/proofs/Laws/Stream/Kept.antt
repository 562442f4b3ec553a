-- "every state that the opening returns, or a call on a state that passes, passes it; and a state that passes is never refused for
-- its numbers but worked on as they say" (document 02, K4).
use Rattle.std.specs.Prelude.{ℕ, zero, suc, ◌+◌, ◌*◌, ◌/◌, ◌%◌, ◌^◌, ◌-◌, ◌≤◌, ◌<◌, Bool, true, false, cond, ◌&&◌, ◌||◌, not, ◌≡◌, refl, length, replicate, ltb, leb, eqb}
use Rattle.std.proofs.Common.{arith, mul-le-mul_right, ap, sym, ◌∙◌, ap₂, length-append, lt-ltb, le-leb, eq-eqb, ltb-true, leb-true, eqb-true, ltb-false, leb-false}
use mathlib.Core.List.{List, [], ◌∷◌, ◌++◌, flat_map}
use Rattle.format.specs.Bits.{bits_of}
use Rattle.format.specs.Plan.{legal, group_words, kind_on}
use Rattle.format.specs.Item.{item_bits, item_fields, Field}
use Rattle.format.specs.Lists.{All, nil, cons}
use Rattle.format.specs.Lawful.{Lawful}
use Rattle.format.specs.Read.{Got, got, stopped}
use Rattle.stream_rules.specs.Stream.{rest_bits, Carry, Brought, brings, stops, take_group, start, group_size, most_bytes, number_fits, waits_fit, are_bits, carry_fits, second_fits, fits, State, closed, failed, working, Working, count_of}
use Rattle.stream_rules.specs.Stream.{opened, fresh, Flow, still, flowed, taken, keeps, feed_byte, feed_bytes, Call, refused_by, answered, number_of, entries_for, is_open_state, feedable, fed_on, fed_by, closed_with, close_on, closed_by, closing_at}
use Rattle.format.specs.Laws.Tests.{clash, and_true}
use Rattle.format.specs.Laws.Lists.{all_append, all_flat}
use Rattle.format.specs.Laws.Legal.{Legal, legal_is}
use Rattle.stream_rules.specs.Laws.Stream.Bits.{rest_short, rest_all}
use Rattle.stream_rules.specs.Laws.Stream.Feed.{count_in, byte_count}
use Rattle.stream_rules.proofs.Laws.Stream.Groups.{NumberedLow, closing_low}
use Rattle.stream_rules.specs.Laws.Stream.Fits.{both, BroughtOk, goes, halts, take_ok}
use Rattle.format.specs.declared.Kind.{Kind}
use Rattle.format.specs.declared.Item.{Item}
use Rattle.format.specs.declared.Plan.{Plan}

-- ---- bits

pub bits_ok : (l : List ℕ) → are_bits l ≡ true → All (λ b. b < 2) l
unfolding are_bits
bits_ok [] e = nil
bits_ok (b ∷ l) e =
    let a = and_true (ltb b 2) (are_bits l) e in
    cons (ltb-true b 2 a.0) (bits_ok l a.1)

ok_bits : (l : List ℕ) → All (λ b. b < 2) l → are_bits l ≡ true
unfolding are_bits
ok_bits [] nil = refl
ok_bits (b ∷ l) (cons h t) = both (lt-ltb b 2 h) (ok_bits l t)

bits_low : (k v : ℕ) → All (λ b. b < 2) (bits_of k v)
unfolding bits_of
bits_low zero v = nil
bits_low (suc k) v = cons {a = v / 2 ^ k % 2} (omega arith) (bits_low k v)

pub bits_are : (k v : ℕ) → are_bits (bits_of k v) ≡ true
bits_are k v = ok_bits (bits_of k v) (bits_low k v)

all_fields : (fs : List Field) → All (λ (f : Field). All (λ b. b < 2) (bits_of f.0 f.1)) fs
all_fields [] = nil
all_fields (f ∷ fs) = cons (bits_low f.0 f.1) (all_fields fs)

item_low : (i : Item) → All (λ b. b < 2) (item_bits i)
unfolding item_bits
item_low i = all_flat (λ b. b < 2) (λ (f : Field). bits_of f.0 f.1) (item_fields i) (all_fields (item_fields i))

items_low : (is : List Item) → All (λ b. b < 2) (flat_map item_bits is)
unfolding flat_map
items_low [] = nil
items_low (i ∷ is) = all_append (item_low i) (items_low is)

-- ---- a working state that passes

pub record Fit (w : Working) : Type 0 where
  pub lawful : legal w.plan w.kinds ≡ true
  pub sixteen : eqb (length w.kinds) 16 ≡ true
  pub part : length w.waiting < group_size w.plan
  pub count : count_of w ≤ most_bytes
  pub short : length w.bits < 8
  pub bits : are_bits w.bits ≡ true
  pub carries : carry_fits w.plan w.kinds w.groups w.carry ≡ true

pub fits_is : (w : Working) → fits (working w) ≡ true → Fit w
unfolding fits
fits_is w e =
    let a = and_true (legal w.plan w.kinds && eqb (length w.kinds) 16) _ e in
    let b = and_true (legal w.plan w.kinds) (eqb (length w.kinds) 16) a.0 in
    let c = and_true (ltb (length w.waiting) (group_size w.plan) && leb (count_of w) most_bytes) _ a.1 in
    let d = and_true (ltb (length w.waiting) (group_size w.plan)) (leb (count_of w) most_bytes) c.0 in
    let f = and_true (ltb (length w.bits) 8 && are_bits w.bits) _ c.1 in
    let g = and_true (ltb (length w.bits) 8) (are_bits w.bits) f.0 in
    record {
      lawful = b.0;
      sixteen = b.1;
      part = ltb-true (length w.waiting) (group_size w.plan) d.0;
      count = leb-true (count_of w) most_bytes d.1;
      short = ltb-true (length w.bits) 8 g.0;
      bits = g.1;
      carries = f.1;
    }

pub is_fits : (w : Working) → Fit w → fits (working w) ≡ true
unfolding fits
is_fits w f =
    both (both f.lawful f.sixteen)
    (both (both (lt-ltb (length w.waiting) (group_size w.plan) f.part) (le-leb (count_of w) most_bytes f.count))
    (both (both (lt-ltb (length w.bits) 8 f.short) f.bits) f.carries))

size_some : (p : Plan) (ks : List Kind) → Legal p ks → 1 ≤ group_size p
size_some p ks ok = omega (arith, mul-le-mul_right p.words ok.shape.tracks_least, ok.shape.words_least)

-- ---- one byte

taken_fits : (w : Working) (v : List ℕ) → Fit w → (w.groups + 1) * group_size w.plan ≤ most_bytes → (b : Brought) → BroughtOk w.plan w.kinds w.groups b
    → fits (taken w v b).state ≡ true
taken_fits w v f small (stops k q second) (halts e) = e
taken_fits w v f small (brings is x) (goes a c) =
    is_fits (record { plan = w.plan; kinds = w.kinds; groups = w.groups + 1; waiting = []; bits = rest_bits (w.bits ++ flat_map item_bits is); carry = x }) (record {
      lawful = f.lawful;
      sixteen = f.sixteen;
      part = omega (arith, size_some w.plan w.kinds (legal_is w.plan w.kinds f.lawful));
      count = omega (arith, small);
      short = rest_short (w.bits ++ flat_map item_bits is);
      bits = ok_bits _ (rest_all (λ b. b < 2) (w.bits ++ flat_map item_bits is) (all_append (bits_ok w.bits f.bits) (items_low is)));
      carries = c;
    })

pub byte_fits : (s : State) (b : ℕ) → fits s ≡ true → count_in s + 1 ≤ most_bytes → fits (feed_byte s b).state ≡ true
byte_fits closed b e h = e
byte_fits (failed k q second) b e h = e
byte_fits (working w) b e h = go (ltb (length (w.waiting ++ b ∷ [])) (group_size w.plan)) refl
  where
    l : length (w.waiting ++ b ∷ []) ≡ length w.waiting + 1
    l = length-append w.waiting (b ∷ [])

    f : Fit w
    f = fits_is w e

    go : (t : Bool) → ltb (length (w.waiting ++ b ∷ [])) (group_size w.plan) ≡ t
        → fits (cond t (still (working (keeps w (w.waiting ++ b ∷ [])))) (taken w (w.waiting ++ b ∷ []) (take_group w.plan w.kinds (w.waiting ++ b ∷ []) w.groups w.carry))).state ≡ true
    go true t =
        is_fits (keeps w (w.waiting ++ b ∷ [])) (record {
          lawful = f.lawful;
          sixteen = f.sixteen;
          part = ltb-true (length (w.waiting ++ b ∷ [])) (group_size w.plan) t;
          count = omega (arith, l, h);
          short = f.short;
          bits = f.bits;
          carries = f.carries;
        })
    go false t =
        let small : (w.groups + 1) * group_size w.plan ≤ most_bytes = omega (arith, ltb-false (length (w.waiting ++ b ∷ [])) (group_size w.plan) t, l, h) in
        taken_fits w (w.waiting ++ b ∷ []) f small (take_group w.plan w.kinds (w.waiting ++ b ∷ []) w.groups w.carry)
        (take_ok w.plan w.kinds (legal_is w.plan w.kinds f.lawful) w.groups small (w.waiting ++ b ∷ []) w.carry f.carries)

pub feed_fits : (xs : List ℕ) (s : State) → fits s ≡ true → count_in s + length xs ≤ most_bytes → fits (feed_bytes s xs).state ≡ true
unfolding feed_bytes
feed_fits [] s e h = e
feed_fits (x ∷ xs) s e h =
    feed_fits xs (feed_byte s x).state (byte_fits s x e (omega (arith, h))) (omega (arith, h, byte_count s x))

-- ---- the calls

none_waits : (p : Plan) (ks : List Kind) (g n j : ℕ) → waits_fit p ks g j (replicate n 0) ≡ true
unfolding waits_fit
none_waits p ks g zero j = refl
none_waits p ks g (suc n) j = none_waits p ks g n (j + 1)

closed_fits : fits closed ≡ true
unfolding fits
closed_fits = refl

pub opened_fits : (p : Plan) (ks : List Kind) → length ks ≡ 16 → fits (opened p ks) ≡ true
opened_fits p ks n = go (legal p ks) refl
  where
    go : (b : Bool) → legal p ks ≡ b → fits (cond b (working (fresh p ks)) closed) ≡ true
    go true l =
        is_fits (fresh p ks) (record {
          lawful = l;
          sixteen = eq-eqb (length ks) 16 n;
          part = omega (arith, size_some p ks (legal_is p ks l));
          count = omega arith;
          short = omega arith;
          bits = ok_bits [] nil;
          carries = none_waits p ks 0 64 0;
        })
    go false l = closed_fits

-- a feeding call on a state that passes
on_fits : (s : State) (piece : List ℕ) → fits s ≡ true → fits (fed_on s piece).state ≡ true
on_fits closed piece e = e
on_fits (failed k q second) piece e = e
on_fits (working w) piece e = go (leb (count_of w + length piece) most_bytes) refl
  where
    go : (b : Bool) → leb (count_of w + length piece) most_bytes ≡ b
        → fits (cond b (answered (feed_bytes (working w) piece)) (refused_by 8 (count_of w) 0 (working w))).state ≡ true
    go true t = feed_fits piece (working w) e (leb-true (count_of w + length piece) most_bytes t)
    go false t = e

pub fed_fits : (s : State) (piece : List ℕ) (log_room entries : ℕ) → fits s ≡ true → fits (fed_by s piece log_room entries).state ≡ true
unfolding fed_by
fed_fits s piece log_room entries e = go (feedable s (length piece) log_room entries)
  where
    go : (b : Bool) → fits (cond b (fed_on s piece) (refused_by 16 0 0 s)).state ≡ true
    go true = on_fits s piece e
    go false = e

-- a closing call
got_closed : (w : Working) (r : Got) → (closed_with w r).state ≡ closed
got_closed w (got is) = refl
got_closed w (stopped k q second) = refl

close_closed : (s : State) → (close_on s).state ≡ closed
close_closed closed = refl
close_closed (failed k q second) = refl
close_closed (working w) = got_closed w (closing_at w.plan (length w.waiting) (count_of w) w.carry)

pub close_fits : (s : State) (log_room : ℕ) → fits s ≡ true → fits (closed_by s log_room).state ≡ true
unfolding closed_by
close_fits s log_room e = go ((is_open_state s && fits s) && leb 12288 log_room)
  where
    go : (b : Bool) → fits (cond b (close_on s) (refused_by 16 0 0 s)).state ≡ true
    go true = rw (close_closed s) closed_fits
    go false = e

-- ---- never refused for its numbers

not_sixteen : (k q second : ℕ) → fits (failed k q second) ≡ true → k ≡ 16 → ⊥
unfolding fits
not_sixteen k q second e z =
    let f : (leb 9 k && leb k 13 || eqb k 15) ≡ true = (and_true (leb 9 k && leb k 13 || eqb k 15) (ltb (3 * q) most_bytes) (and_true ((leb 9 k && leb k 13 || eqb k 15) && ltb (3 * q) most_bytes) (second_fits k second) e).0).0 in
    no (rw z at f)
  where
    no : false ≡ true → ⊥
    no e = clash e

number_not : (s : State) → fits s ≡ true → number_of s ≡ 16 → ⊥
number_not closed e z = omega (arith, z)
number_not (failed k q second) e z = not_sixteen k q second e z
number_not (working w) e z = omega (arith, z)

on_not : (s : State) (piece : List ℕ) → fits s ≡ true → is_open_state s ≡ true → (fed_on s piece).number ≡ 16 → ⊥
on_not closed piece e o z = clash o
on_not (failed k q second) piece e o z = not_sixteen k q second e z
on_not (working w) piece e o z = go (leb (count_of w + length piece) most_bytes) refl z
  where
    go : (b : Bool) → leb (count_of w + length piece) most_bytes ≡ b
        → (cond b (answered (feed_bytes (working w) piece)) (refused_by 8 (count_of w) 0 (working w))).number ≡ 16 → ⊥
    go true t z = number_not (feed_bytes (working w) piece).state (feed_fits piece (working w) e (leb-true (count_of w + length piece) most_bytes t)) z
    go false t z = omega (arith, z)

-- a state that passes, open, a piece, room and entries within the limits: the call is worked on, and is not refused by 16
pub fed_works : (s : State) (piece : List ℕ) (log_room entries : ℕ) → fits s ≡ true → is_open_state s ≡ true → length piece ≤ 4096 → 12288 ≤ log_room
    → entries_for s (length piece) ≤ entries
    → (fed_by s piece log_room entries ≡ fed_on s piece) × ((fed_by s piece log_room entries).number ≡ 16 → ⊥)
unfolding fed_by
fed_works s piece log_room entries e o a b c =
    let t : feedable s (length piece) log_room entries ≡ true =
    both (both o e) (both (both (le-leb (length piece) 4096 a) (le-leb 12288 log_room b)) (le-leb (entries_for s (length piece)) entries c)) in
    (rw t, λ z. on_not s piece e o (rw t at z))

closing_not : (w : Working) (r : Got) → NumberedLow r → (closed_with w r).number ≡ 16 → ⊥
closing_not w (got is) n z = omega (arith, z)
closing_not w (stopped k q second) n z = omega (arith, n, z)

pub close_works : (s : State) (log_room : ℕ) → fits s ≡ true → is_open_state s ≡ true → 12288 ≤ log_room
    → (closed_by s log_room ≡ close_on s) × ((closed_by s log_room).number ≡ 16 → ⊥)
unfolding closed_by
close_works s log_room e o a =
    let t : ((is_open_state s && fits s) && leb 12288 log_room) ≡ true = both (both o e) (le-leb 12288 log_room a) in
    (rw t, λ z. close_not s e o (rw t at z))
  where
    close_not : (s : State) → fits s ≡ true → is_open_state s ≡ true → (close_on s).number ≡ 16 → ⊥
    close_not closed e o z = clash o
    close_not (failed k q second) e o z = not_sixteen k q second e z
    close_not (working w) e o z = closing_not w (closing_at w.plan (length w.waiting) (count_of w) w.carry) (closing_low w.plan (length w.waiting) (count_of w) w.carry) z
