-- One group, taken whole or not at all.
use Prim.Native.Nat.{ℕ, ◌+◌, ◌*◌, ◌/◌, ◌%◌, ◌^◌, ◌≤◌, ◌<◌}
use native.Mathlib.Nat.{mod-lt, mul-le-mul_left}
use native.Mathlib.Omega.{arith}
use mathlib.Core.Bool.{Bool, true, false, cond, ◌&&◌}
use mathlib.Core.Path.{◌≡◌, refl, ap, ap₂, sym, ◌∙◌}
use mathlib.Core.List.{List, [], ◌∷◌, ◌++◌, flat_map}
use lib.ListN.{length, take}
use lib.Dec.{eqb}
use borrow.Author.Tests.{eq-eqb, eqb-true, ne_eqb}
use Rattle.format.specs.Bits.{bits_of, bytes_bits}
use Rattle.format.specs.Group.{group_time}
use Rattle.format.specs.Item.{item_bits}
use Rattle.format.specs.Lists.{nil}
use Rattle.format.specs.Plan.{group_words, times_needed}
use Rattle.format.specs.Laws.Bits.{length_bits}
use Rattle.format.specs.Laws.Legal.{shape_of}
use Rattle.format.specs.Laws.Limits.{Shape, some_words}
use Rattle.format.specs.Laws.Tests.{and_true}
use Rattle.format.specs.declared.Item.{Item}
use Rattle.format.specs.declared.Kind.{Kind}
use Rattle.format.specs.declared.Plan.{Plan}
use Rattle.data_start.specs.declared.Holding.{Holding}
use Rattle.data_word.specs.Holding.{Sane, held_of}
use Rattle.log_write.specs.Pen.{Wrote}
use Rattle.log_write.specs.declared.Pen.{Pen}
use Rattle.stream_group.specs.Took.{carried}
use Rattle.stream_group.specs.declared.Took.{Took}
use Rattle.stream_rules.specs.Stream.{Brought, Flow, State, Working, brings, feed_bytes, fits, group_size, held_fits, most_bytes, place_fits, rest_bits, stops, take_group, taken, waits_fit, whole_bytes, working}
use Rattle.stream_rules.specs.Laws.Stream.Code.{pen_parts}
use Rattle.stream_rules.specs.Laws.Stream.Feed.{feed_group}
use Rattle.stream_rules.proofs.Laws.Stream.Kept.{Fit, fits_is}
use Rattle.stream_rules.proofs.Laws.Stream.Room.{feed_weight, owed_few}
use Rattle.stream_piece.specs.Along.{Goes, Ready, gone_on, laid, reached, stopped_by, work_of}
use Rattle.stream_piece.specs.declared.Along.{Along}
use Rattle.stream_piece.proofs.Laid.{laid_none, written}

-- ---- what a state that passes grants

pub reached_work : (p : Plan) (ks : List Kind) (a : Along) (table : List ℕ) → a.number ≡ 0 → reached p ks a table ≡ working (work_of p ks a table)
reached_work p ks a table z = rw (eq-eqb a.number 0 z) refl

pub ready_fits : (p : Plan) (ks : List Kind) (a : Along) (table : List ℕ) → Ready p ks a table → a.number ≡ 0 → fits (working (work_of p ks a table)) ≡ true
ready_fits p ks a table r z = sym (ap fits (reached_work p ks a table z)) ∙ r.fit

pub record Grants (p : Plan) (ks : List Kind) (groups : ℕ) (table : List ℕ) : Type 0 where
  pub shape : Shape p
  pub long : length table ≡ 64
  pub waits : waits_fit p ks groups 0 table ≡ true

pub ready_grants : (p : Plan) (ks : List Kind) (a : Along) (table : List ℕ) → Ready p ks a table → a.number ≡ 0 → Grants p ks a.groups table
ready_grants p ks a table r z =
    let f : Fit (work_of p ks a table) = fits_is (work_of p ks a table) (ready_fits p ks a table r z) in
    let c = and_true (held_fits ks (held_of a.held)) (place_fits p a.groups a.since && (eqb (length table) 64 && waits_fit p ks a.groups 0 table)) f.carries in
    let d = and_true (place_fits p a.groups a.since) (eqb (length table) 64 && waits_fit p ks a.groups 0 table) c.1 in
    let t = and_true (eqb (length table) 64) (waits_fit p ks a.groups 0 table) d.1 in
    record { shape = shape_of p ks f.lawful; long = eqb-true (length table) 64 t.0; waits = t.1 }

-- ---- the group's flow

pub group_flow : (w : Working) (v : List ℕ) → Shape w.plan → w.waiting ≡ [] → length v ≡ group_size w.plan
    → feed_bytes (working w) v ≡ taken w v (take_group w.plan w.kinds v w.groups w.carry)
group_flow w [] s n e = absurd (omega (arith, e, some_words w.plan s))
group_flow w (x ∷ xs) s n e =
    let z : length w.waiting ≡ 0 = ap (λ (l : List ℕ). length l) n in
    feed_group w x xs (omega (arith, z, e)) ∙ ap (λ (l : List ℕ). taken w (l ++ x ∷ xs) (take_group w.plan w.kinds (l ++ x ∷ xs) w.groups w.carry)) n

-- ---- room for its log

pub built_room : (p : Plan) (ks : List Kind) (a : Along) (table v out : List ℕ) → a.pen.bits < 8 → length v ≡ group_size p → 26 * group_size p + 414 ≤ 24 * length out
    → length (feed_bytes (working (work_of p ks a table)) v).log + 7 ≤ length out
built_room p ks a table v out b e h =
    omega (arith, feed_weight v (working (work_of p ks a table)), owed_few (held_of a.held), length_bits a.pen.bits a.pen.last, b, e, h)

pub groups_low : (p : Plan) → Shape p → (g : ℕ) → (g + 1) * group_size p ≤ most_bytes → g < 2 ^ 41
groups_low p s g h =
    let one : 1 ≤ group_size p = omega (arith, some_words p s) in
    omega (arith, h, mul-le-mul_left (g + 1) one)

-- ---- what is written of it

-- the bits not yet a byte, as a pen has them
pub bits_written : (out : List ℕ) (pen : Pen) → pen.bits < 8 → Wrote (bits_of pen.bits pen.last) out pen
unfolding bytes_bits
bits_written out pen h =
    let e : pen.bits ≡ pen.bits % 8 = omega (arith, h) in
    record { bytes = []; small = nil; is = ap (λ (n : ℕ). bits_of n pen.last) e; size = omega (arith, h); kept = λ i x y. absurd (omega (arith, h, y)) }

pub time_count : (p : Plan) (t : ℕ) → length (cond p.frame_time (t ∷ []) []) ≡ times_needed p 1
time_count p t = go p.frame_time
  where
    go : (b : Bool) → length (cond b (t ∷ []) []) ≡ cond b 1 0
    go true = refl
    go false = refl

-- behind a group that is taken, with so many times
abbrev pub ahead_of : Along → Took → ℕ → Along
ahead_of a k n = record {
  number = 0;
  place = 0;
  second = 0;
  pen = record { bits = k.pen.bits % 8; last = k.pen.last };
  groups = a.groups + 1;
  since = k.since;
  held = k.held;
  bytes = a.bytes + k.pen.bits / 8;
  times = n;
}

module _ (p : Plan) (ks : List Kind) (a : Along) (table v : List ℕ) (flow : Flow) (g : Brought) (flows : flow ≡ taken (work_of p ks a table) v g) where
  -- the group is refused: nothing of it is handed out
  pub stopped_goes : (k : Took) {r : Along} (table' l t : List ℕ) → r ≡ stopped_by a k → g ≡ stops k.number k.place k.second → (k.number ≡ 0 → ⊥) → Sane a.held → a.pen.bits < 8
      → Goes p ks flow a r table' l l t t
  stopped_goes k table' l t y e z s b =
      rw (flows, y, e) (record {
        is = rw (ne_eqb k.number 0 z) refl;
        sane = s;
        bits = b;
        bytes = omega arith;
        entries = omega arith;
        log = sym (laid_none a.bytes l);
        times = sym (laid_none a.times t);
      })

  -- it is taken: its whole bytes and its time stand behind what was written
  module _ (k : Took) (table' out : List ℕ) (items : List Item) (e : g ≡ brings items (carried k.held k.since table'))
      (w : Wrote (bits_of a.pen.bits a.pen.last ++ flat_map item_bits items) out k.pen) where
    abbrev parts : List ℕ
    parts = bits_of a.pen.bits a.pen.last ++ flat_map item_bits items

    whole : whole_bytes parts ≡ w.bytes
    whole = (pen_parts parts w.bytes (k.pen.bits % 8) k.pen.last w.small (mod-lt k.pen.bits (omega arith)) w.is).0

    rest : rest_bits parts ≡ bits_of (k.pen.bits % 8) k.pen.last
    rest = (pen_parts parts w.bytes (k.pen.bits % 8) k.pen.last w.small (mod-lt k.pen.bits (omega arith)) w.is).1

    -- so many bytes are whole
    pub went_bytes : length flow.log ≡ k.pen.bits / 8
    went_bytes = rw (flows, e) (ap (λ (u : List ℕ). length u) whole ∙ w.size)

    pub went_times : length flow.times ≡ times_needed p 1
    went_times = rw (flows, e) (time_count p (group_time p v 0))

    pub went_goes : {r : Along} (l l' t t' : List ℕ) → r ≡ gone_on p a k → Sane k.held → k.pen.bits / 8 + 7 ≤ length out
        → l' ≡ laid a.bytes (take (k.pen.bits / 8) out) l → t' ≡ laid a.times (cond p.frame_time (group_time p v 0 ∷ []) []) t
        → Goes p ks flow a r table' l l' t t'
    went_goes l l' t t' z s h x y =
        rw (flows, z, e) (record {
          is = ap (λ (bits : List ℕ). working (record { plan = p; kinds = ks; groups = a.groups + 1; waiting = []; bits = bits; carry = carried k.held k.since table' })) rest;
          sane = s;
          bits = mod-lt k.pen.bits (omega arith);
          bytes = ap (λ (n : ℕ). a.bytes + n) (sym w.size ∙ ap (λ (u : List ℕ). length u) (sym whole));
          entries = ap (λ (n : ℕ). a.times + n) (sym (time_count p (group_time p v 0)));
          log = x ∙ ap (λ (u : List ℕ). laid a.bytes u l) (written w h ∙ sym whole);
          times = y;
        })
