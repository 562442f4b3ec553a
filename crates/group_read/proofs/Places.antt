-- Dealt words and the words of a track stand within the group.
use Prim.Native.Nat.{ℕ, ◌+◌, ◌*◌, ◌/◌, ◌%◌, ◌≤◌, ◌<◌}
use native.Mathlib.Omega.{arith}
use native.Mathlib.Nat.{mod-lt, mul-le-mul_right, div-lt_iff_lt-mul}
use mathlib.Core.Path.{◌≡◌}
use Rattle.format.specs.Plan.{group_words, rows, place_of}
use Rattle.format.specs.Laws.Limits.{Shape, rows_under}
use Rattle.format.specs.declared.Plan.{Plan}
use Rattle.group_read.specs.Row.{dealt_count}

module _ (p : Plan) (h : Shape p) where
  -- of a dealt word, its track's words and its row
  module _ (s : ℕ) (l : s < dealt_count p) where
    track_of : s % p.tracks < p.tracks
    track_of = mod-lt s h.tracks_least

    row_of : s / p.tracks < rows p
    row_of = let k : s < rows p * p.tracks = omega arith in (div-lt_iff_lt-mul h.tracks_least).1 k

    pub digits_in : s % p.tracks * p.words + s / p.tracks + 1 < group_words p
    digits_in =
        let m : s % p.tracks + 1 ≤ p.tracks = omega (arith, track_of) in
        omega (arith, mul-le-mul_right p.words m, row_of, rows_under p h)

    pub place_in : place_of p s < group_words p
    unfolding place_of
    place_in = digits_in

  -- the bytes of the word at a place, and of the word j of the track t
  pub place_room : (n : ℕ) {q : ℕ} → n ≡ 3 * group_words p → q < group_words p → 3 * (q + 1) ≤ n
  place_room n e l = omega arith

  pub word_room : (t j n : ℕ) → n ≡ 3 * group_words p → t < p.tracks → j < p.words → 3 * (t * p.words + j + 1) ≤ n
  word_room t j n e k l = omega (arith, mul-le-mul_right p.words k)
