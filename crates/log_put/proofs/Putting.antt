-- Items put behind what is written: one by its numbers, and those of a log that are on the buses.
use Prim.Native.Nat.{ℕ, ◌+◌, ◌*◌, ◌/◌, ◌^◌, ◌≤◌, ◌<◌}
use native.Mathlib.Omega.{arith}
use mathlib.Core.Bool.{Bool, true, false, cond}
use mathlib.Core.Path.{◌≡◌, refl, ap, sym, ◌∙◌}
use mathlib.Core.List.{List, [], ◌∷◌, ◌++◌, flat_map, append_assoc, append-nil}
use lib.ListN.{length}
use Rattle.format.specs.Bits.{bits_of, bytes_bits}
use Rattle.format.specs.Item.{item_bits}
use Rattle.format.specs.Log.{next_at, ends, parsed, on_no_plan}
use Rattle.format.specs.Laws.Lists.{flat_map_append}
use Rattle.log_rules.specs.Pick.{in_set, keep, on_buses}
use Rattle.log_rules.specs.Laws.Checking.{walk_start, walk_over}
use Rattle.log_rules.specs.Laws.Logs.{keep_append}
use Rattle.log_pass.proofs.Walking.{next_fits, walk_item}
use Rattle.log_walk.specs.Piece.{bus_in, times_in}
use Rattle.log_walk.proofs.Items.{Holds}
use Rattle.log_write.specs.Pen.{pen_put, pen_in, start}
use Rattle.log_write.specs.declared.Packed.{Packed}
use Rattle.log_write.specs.declared.Pen.{Pen}
use Rattle.log_write.proofs.Writing.{wrote_more, wrote_none, put_long, put_bits}
use Rattle.log_put.specs.Put.{Fits, Picking, Puts, PutsPacked, PutsPicked, packed_bits, Told}
use Rattle.log_put.specs.declared.Put.TheVariants.{All as Done}

-- ---- bits behind bits

puts_none : (out : List ℕ) (p : Pen) (n : ℕ) → Puts [] n out p out p
puts_none out p n = record { writes = λ bits w. rw (append-nil bits) w; few = omega arith; long = refl }

puts_then : {new more : List ℕ} {m n : ℕ} {a b c : List ℕ} {p q r : Pen} → Puts new m a p b q → Puts more n b q c r → Puts (new ++ more) (m + n) a p c r
puts_then {new} {more} {m} {n} {a} {b} {c} {p} {q} {r} x y = record {
  writes = λ bits w. rw (append_assoc bits new more) at (y.writes (bits ++ new) (x.writes bits w));
  few = omega (arith, x.few, y.few);
  long = y.long ∙ x.long;
}

-- the width low bits of a number
puts_number : (v n : ℕ) (out : List ℕ) (p : Pen) → n ≤ 56 → v < 2 ^ n → Puts (bits_of n v) n out p (pen_in out p v n) (pen_put p v n)
puts_number v n out p h g = record {
  writes = λ bits w. wrote_more p v n h g bits out w;
  few = omega (arith, put_bits p v n h g);
  long = put_long p v n h g out;
}

-- ---- an item

module _ (k : Packed) (f : Fits k) (out : List ℕ) (p : Pen) where
  first_put : Puts (bits_of k.first_bits k.first) k.first_bits out p (pen_in out p k.first k.first_bits) (pen_put p k.first k.first_bits)
  first_put = puts_number k.first k.first_bits out p (omega (arith, f.first_few)) f.first_low

  pub first_more : (pen_put p k.first k.first_bits).bits ≡ p.bits + k.first_bits
  first_more = put_bits p k.first k.first_bits (omega (arith, f.first_few)) f.first_low

  -- one that has nothing behind
  pub packed_one : {out' : List ℕ} {p' : Pen} → k.behind_bits ≡ 0 → p' ≡ pen_put p k.first k.first_bits → out' ≡ pen_in out p k.first k.first_bits
      → PutsPacked k out p out' p'
  unfolding bits_of
  packed_one {out'} {p'} z e g =
      rw (e, g, z) (puts_then first_put (puts_none (pen_in out p k.first k.first_bits) (pen_put p k.first k.first_bits) 0))

  pub packed_two : {out' out'' : List ℕ} {p' p'' : Pen} → p' ≡ pen_put p k.first k.first_bits → out' ≡ pen_in out p k.first k.first_bits
      → p'' ≡ pen_put p' k.behind k.behind_bits → out'' ≡ pen_in out' p' k.behind k.behind_bits → PutsPacked k out p out'' p''
  packed_two {out'} {out''} {p'} {p''} e g e' g' =
      rw (e', g', e, g) (puts_then first_put (puts_number k.behind k.behind_bits (pen_in out p k.first k.first_bits) (pen_put p k.first
      k.first_bits) (omega (arith, f.behind_few)) f.behind_low))

pub picked_yes : (set bus : ℕ) (k : Packed) {out out' : List ℕ} {p p' : Pen} {b : Bool} → bus ≡ bus_in k → b ≡ in_set set bus → b ≡ true → PutsPacked k out p out' p'
    → PutsPicked set k out p out' p'
picked_yes set bus k g e t x = let y : in_set set (bus_in k) ≡ true = ap (in_set set) (sym g) ∙ sym e ∙ t in rw y x

pub picked_no : (set bus : ℕ) (k : Packed) (out : List ℕ) (p : Pen) {b : Bool} → bus ≡ bus_in k → b ≡ in_set set bus → b ≡ false → PutsPicked set k out p out p
picked_no set bus k out p g e t = let y : in_set set (bus_in k) ≡ false = ap (in_set set) (sym g) ∙ sym e ∙ t in rw y (puts_none out p (k.first_bits + k.behind_bits))

pub holds_fits : {log : List ℕ} {place : ℕ} {k : Packed} → Holds log place k → Fits k
holds_fits h = record {
  first_low = h.says.first_low;
  first_many = h.many;
  first_few = h.says.first_few;
  behind_low = h.says.behind_low;
  behind_few = h.says.behind_few;
}

-- ---- the items of a log

pub picking_start : (log : List ℕ) (set : ℕ) (out : List ℕ) → length log ≤ 32768 → Picking log set out 0 start
unfolding keep flat_map
picking_start log set out h = record { past = []; walk = walk_start on_no_plan log h; wrote = wrote_none out; few = omega arith }

module _ {log : List ℕ} {set : ℕ} {out : List ℕ} {place : ℕ} {p : Pen} (w : Picking log set out place p) where
  module _ {k : Packed} (h : Holds log place k) where
    one_item : flat_map item_bits (keep (on_buses set) (h.item ∷ [])) ≡ cond (in_set set (bus_in k)) (packed_bits k) []
    unfolding keep flat_map
    one_item = rw h.bus (go (on_buses set h.item))
      where
        go : (b : Bool) → flat_map item_bits (cond b (h.item ∷ []) []) ≡ cond b (packed_bits k) []
        go true = append-nil (item_bits h.item) ∙ h.says.bits
        go false = refl

    pub picking_more : {out' : List ℕ} {p' : Pen} → times_in k ≡ true → PutsPicked set k out p out' p'
        → Picking log set out' (place + (k.first_bits + k.behind_bits)) p'
    picking_more t x =
        let e : flat_map item_bits (keep (on_buses set) (w.past ++ h.item ∷ []))
        ≡ flat_map item_bits (keep (on_buses set) w.past) ++ cond (in_set set (bus_in k)) (packed_bits k) [] =
        ap (flat_map item_bits) (keep_append (on_buses set) w.past (h.item ∷ []))
        ∙ flat_map_append item_bits (keep (on_buses set) w.past) (keep (on_buses set) (h.item ∷ []))
        ∙ ap (λ (l : List ℕ). flat_map item_bits (keep (on_buses set) w.past) ++ l) one_item in
        record {
          past = w.past ++ h.item ∷ [];
          walk = walk_item w.walk h t;
          wrote = rw e (x.writes _ w.wrote);
          few = omega (arith, w.few, x.few);
        }

    pub picking_data : {out' : List ℕ} {p' : Pen} → k.first_bits ≡ 25 → k.behind ≡ 0 → k.behind_bits ≡ 0 → PutsPicked set k out p out' p'
        → Picking log set out' (place + 25) p'
    picking_data f b g x =
        let e : k.first_bits + k.behind_bits ≡ 25 = omega (arith, f, g) in
        let t : times_in k ≡ true = rw b refl in
        rw e at (picking_more t x)

    -- the room for its bits in an array that has eight bytes more than the log
    pub picking_room : (n : ℕ) → length log ≤ 32768 → length log + 8 ≤ n → (p.bits < 2 ^ 61) × Fits k × ((p.bits + k.first_bits) / 8 + 8 ≤ n)
    picking_room n short room = (omega (arith, w.few, w.walk.fits), holds_fits h, omega (arith, w.few, next_fits w.walk h))

  pub picking_over : length log ≤ 32768 → next_at (bytes_bits log) place ≡ ends → Told (parsed on_no_plan log) set (length log * 8) out (Done p)
  picking_over short n = rw (walk_over on_no_plan log w.walk n) (p, refl, omega arith, omega (arith, w.few, w.walk.fits), w.wrote)
