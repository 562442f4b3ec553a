-- A frame by its rows, and a group by its tracks.
use Prim.Native.Nat.{ℕ, suc, ◌+◌, ◌^◌, ◌<◌}
use native.Mathlib.Omega.{arith}
use mathlib.Core.Bool.{Bool, true, false}
use mathlib.Core.Path.{◌≡◌, refl, ap, ◌∙◌}
use mathlib.Core.List.{List, [], ◌∷◌, ◌++◌, flat_map}
use lib.ListN.{length}
use Rattle.format.specs.Word.{sync}
use Rattle.format.specs.Plan.{rows, group_words}
use Rattle.format.specs.Group.{frame, group}
use Rattle.format.specs.Check.{check_word}
use Rattle.format.specs.Lists.{list}
use Rattle.format.specs.declared.Plan.{Plan}
use Rattle.crc.specs.Sum.{Sums, Summed}
use Rattle.crc.specs.declared.Sum.{Sum}
use Rattle.crc.proofs.Sums.{sums_more, summed_is}
use Rattle.format.specs.Laws.Limits.{Shape}
use Rattle.group_write.specs.Writing.{row_word, front}
use Rattle.group_write.proofs.Laws.{blocks_more, length_list, frame_length, group_length}

module _ (p : Plan) (dealt : List ℕ) (t : ℕ) where
  pub front_count : (n : ℕ) → length (front p dealt t n) ≡ 1 + n
  unfolding front
  front_count n = ap suc (length_list (row_word p dealt t) 0 n) ∙ omega arith

  -- with the check word, or without it
  pub frame_checked : p.crc ≡ true → frame p dealt t ≡ front p dealt t (rows p) ++ (check_word p.parity p.crc_label (front p dealt t (rows p)) ∷ [])
  unfolding frame front
  frame_checked e = rw e

  pub frame_plain : p.crc ≡ false → frame p dealt t ≡ front p dealt t (rows p)
  unfolding frame front
  frame_plain e = rw e

pub sync_below : sync < 2 ^ 24
unfolding sync
sync_below = omega arith

-- the sum of the sync word and three runs of rows, with CRC
pub sums_runs : {crc : Bool} {vs us ts ws all : List ℕ} {r s t u : Sum} → crc ≡ true → Sums vs r → Summed crc r us s → Summed crc s ts t → Summed crc t ws u
    → ((vs ++ us) ++ ts) ++ ws ≡ all → Sums all u
sums_runs {crc} {vs} {us} {ts} {ws} e p a b d z =
    rw (← z) (sums_more ws (sums_more ts (sums_more us p (summed_is e a)) (summed_is e b)) (summed_is e d))

-- the first n frames
unfoldable pub frames_of : Plan → List ℕ → ℕ → List ℕ
frames_of p dealt n = flat_map (frame p dealt) (list (λ t. t) 0 n)

module _ (p : Plan) (dealt : List ℕ) where
  pub frames_none : frames_of p dealt 0 ≡ []
  unfolding frames_of flat_map list
  frames_none = refl

  pub frames_more : (n : ℕ) → frames_of p dealt (n + 1) ≡ frames_of p dealt n ++ frame p dealt n
  unfolding frames_of
  frames_more n = blocks_more (frame p dealt) n

  pub frames_all : (n : ℕ) → n ≡ p.tracks → frames_of p dealt n ≡ group p dealt
  unfolding frames_of group
  frames_all n e = ap (λ (i : ℕ). flat_map (frame p dealt) (list (λ t. t) 0 i)) e

  pub frame_count : (t : ℕ) → Shape p → length (frame p dealt t) ≡ p.words
  frame_count t h = frame_length p dealt t (omega (arith, h.words_least))

  -- for a caller, who goes on after the group
  pub group_count : Shape p → length (group p dealt) ≡ group_words p
  group_count h = group_length p (omega (arith, h.words_least)) h.tracks_least dealt
