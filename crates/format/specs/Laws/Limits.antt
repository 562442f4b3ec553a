-- The sizes of frames and groups under a legal plan, all worked out from the two limits of Plan.
use Rattle.std.specs.Prelude.{ℕ, ◌+◌, ◌*◌, ◌-◌, ◌/◌, ◌<◌, ◌≤◌, Bool, cond, ◌≡◌}
use Rattle.std.proofs.Common.{mul-le-mul_left}
use Rattle.std.proofs.Math.Nat.{mul-le-mul_right, div-mul-le_self}
use Rattle.std.proofs.Math.Decide.{dec_lt}
use native.Mathlib.Omega.{arith}
use Rattle.std.proofs.Math.Bool.{true, false}
use Rattle.std.proofs.Math.Path.{refl}
use Rattle.format.specs.Plan.{group_words, lead, least_words, most_words, rows, slots}
use Rattle.format.specs.Compose.{groups_for}
use Rattle.format.specs.Bits.{bit}
use Rattle.format.specs.Lawful.{buses}
use Rattle.format.specs.declared.Plan.{Plan}

-- what a legal plan says of its frames, its CRC word and its fill, whatever the kinds
pub record Shape (p : Plan) : Type 0 where
  pub words_least : least_words ≤ p.words
  pub words_most : p.words ≤ most_words
  pub tracks_least : 1 ≤ p.tracks
  pub tracks_most : p.tracks ≤ 4
  pub named : p.crc_label ≤ 7
  pub filling : p.fill_bus < buses p.parity

-- ---- The limits that follow

-- of the rows of a frame that are dealt: all but the sync word and, with CRC, the last
abbrev pub least_rows : ℕ
least_rows = least_words - 2

abbrev pub most_rows : ℕ
most_rows = most_words - 1

-- of the words dealt to a group, and of its data slots
abbrev pub most_dealt : ℕ
most_dealt = 4 * most_rows

abbrev pub least_slots : ℕ
least_slots = least_rows - 3

-- of a group as it is stored
abbrev pub most_group_words : ℕ
most_group_words = 4 * most_words

abbrev pub least_group_bytes : ℕ
least_group_bytes = 3 * least_words

-- of the groups of a capture
abbrev pub most_groups : ℕ
most_groups = 1048576 / least_group_bytes

-- of the groups of a composed capture: no log has more than 15,420 words (`words_few`)
abbrev pub most_composed : ℕ
most_composed = (15420 + least_slots - 1) / least_slots

-- ---- Frames

pub lead_few : (p : Plan) → lead p ≤ 3
unfolding lead
lead_few p = go p.frame_time
  where
    go : (b : Bool) → cond b 3 0 ≤ 3
    go true = omega arith
    go false = omega arith

module _ (p : Plan) (h : Shape p) where
  pub long : 2 ≤ p.words
  long = omega (arith, h.words_least)

  pub rows_checked : p.crc ≡ true → 1 + rows p + 1 ≡ p.words
  unfolding rows
  rows_checked e = rw e (omega (arith, h.words_least))

  pub rows_plain : p.crc ≡ false → 1 + rows p ≡ p.words
  unfolding rows
  rows_plain e = rw e (omega (arith, h.words_least))

  -- with or without CRC
  near : (rows p + 1 ≤ p.words) × (p.words ≤ rows p + 2)
  unfolding rows
  near = go p.crc
    where
      go : (b : Bool) → ((p.words - 1 - bit b) + 1 ≤ p.words) × (p.words ≤ (p.words - 1 - bit b) + 2)
      go true = (omega (arith, h.words_least), omega arith)
      go false = (omega (arith, h.words_least), omega arith)

  pub rows_under : 1 + rows p ≤ p.words
  rows_under = omega (arith, near)

  pub rows_least : least_rows ≤ rows p
  rows_least = omega (arith, near, h.words_least)

  pub rows_most : rows p ≤ most_rows
  rows_most = omega (arith, near, h.words_most)

  -- ---- What is dealt

  pub dealt_least : least_rows ≤ p.tracks * rows p
  dealt_least = omega (arith, rows_least, mul-le-mul_right (rows p) h.tracks_least)

  pub dealt_most : p.tracks * rows p ≤ most_dealt
  dealt_most = omega (arith, rows_most, mul-le-mul_right (rows p) h.tracks_most)

  -- the time words have room
  pub room : 3 ≤ p.tracks * rows p
  room = omega (arith, dealt_least)

  slots_are : slots p ≡ p.tracks * rows p - lead p
  unfolding slots
  slots_are = refl

  pub slots_least : least_slots ≤ slots p
  slots_least = omega (arith, slots_are, dealt_least, lead_few p)

  pub slots_most : slots p ≤ most_dealt
  slots_most = omega (arith, slots_are, dealt_most)

  pub free : 1 ≤ slots p
  free = omega (arith, slots_least)

  -- ---- Groups as they are stored

  pub group_least : least_words ≤ group_words p
  group_least = omega (arith, h.words_least, mul-le-mul_right p.words h.tracks_least)

  pub group_most : group_words p ≤ most_group_words
  group_most = omega (arith, h.words_most, mul-le-mul_right p.words h.tracks_most)

  pub some_words : 1 ≤ group_words p
  some_words = omega (arith, group_least)

  -- a group has few words that are no slots: sync and CRC words, and three time words
  pub group_near : group_words p ≤ slots p + 11
  group_near =
      let w : p.tracks * p.words ≤ p.tracks * (rows p + 2) = mul-le-mul_left p.tracks near.1 in
      omega (arith, w, slots_are, lead_few p, room, h.tracks_most)

  -- the groups of a capture of n bytes
  pub groups_most : (n : ℕ) → n / (3 * group_words p) ≤ n / least_group_bytes
  groups_most n = go (dec_lt (n / (3 * group_words p)) (n / least_group_bytes + 1))
    where
      go : Dec (n / (3 * group_words p) < n / least_group_bytes + 1) → n / (3 * group_words p) ≤ n / least_group_bytes
      go (yes k) = omega arith
      go (no k) =
          let m : n / least_group_bytes + 1 ≤ n / (3 * group_words p) = omega arith in
          let e : least_group_bytes ≤ 3 * group_words p = omega (arith, group_least) in
          absurd (omega (arith, mul-le-mul_left (n / least_group_bytes + 1) e, div-mul-le_self n (3 * group_words p), mul-le-mul_right (3 * group_words p) m))

  -- the groups that a log's words need
  pub composed_most : (n : ℕ) → n ≤ 15420 → groups_for p n ≤ most_composed
  unfolding groups_for
  composed_most n l = go (dec_lt ((n + slots p - 1) / slots p) (most_composed + 1))
    where
      go : Dec ((n + slots p - 1) / slots p < most_composed + 1) → (n + slots p - 1) / slots p ≤ most_composed
      go (yes k) = omega arith
      go (no k) =
          let m : most_composed + 1 ≤ (n + slots p - 1) / slots p = omega arith in
          absurd (omega (arith, slots_least, div-mul-le_self (n + slots p - 1) (slots p), mul-le-mul_right (slots p) m))
