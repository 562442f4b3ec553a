-- Where the words of a composed capture stand, and how many groups it has.
use Prim.Native.Nat.{ℕ, suc, ◌+◌, ◌*◌, ◌/◌, ◌-◌, ◌<◌, ◌≤◌}
use Rattle.std.proofs.Common.{div-lt_iff_lt-mul, arith, sym, ◌∙◌, get_or-drop}
use Rattle.std.specs.Prelude.{Bool, true, cond, ◌≡◌, refl, length, drop, get_or}
use Rattle.std.proofs.Math.Path.{ap}
use mathlib.Core.List.{List, [], ◌++◌, flat_map}
use Rattle.std.proofs.Math.ListN.{take, get_or-append}
use Rattle.format.specs.Word.{word_at, sent, sync, fill}
use Rattle.format.specs.Plan.{rows, lead, slots, group_words, place_of}
use Rattle.format.specs.Bits.{bit}
use Rattle.format.specs.Item.{item_words}
use Rattle.format.specs.Lists.{list}
use Rattle.format.specs.Group.{dealt_of, frame, time_words}
use Rattle.format.specs.Check.{check_word}
use Rattle.format.specs.Compose.{capture_of, dealt_for, groups_for}
use Rattle.format.specs.Read.{groups_in}
use Rattle.format.specs.Laws.Limits.{free, long, room}
use Rattle.format.specs.Laws.Legal.{Legal, legal_is}
use Rattle.format.specs.Laws.Composed.Frames.{capture_at, stored_at, frame_front, frame_check}
use Rattle.format.specs.Laws.Composed.Faultless.{check_list}
use Rattle.format.proofs.Laws.Composed.Slots.{enough_groups, dealt_at, slot_in}
use Rattle.format.proofs.Laws.ThereAndBack.{ComposedOf, made_groups}
use Rattle.format.specs.declared.Plan.{Plan}
use Rattle.format.specs.declared.Kind.{Kind}

-- no fewer groups hold so many words
fewest : (p : Plan) (n m : ℕ) → 1 ≤ slots p → n ≤ m * slots p → groups_for p n ≤ m
unfolding groups_for
fewest p n m h l =
    let a : n + slots p - 1 < suc m * slots p = omega arith in
    let b : (n + slots p - 1) / slots p < suc m = (div-lt_iff_lt-mul h).1 a in
    omega arith

module _ {p : Plan} {ks : List Kind} {log times c : List ℕ} (m : ComposedOf p ks log times c) where
  l : Legal p ks
  l = legal_is p ks m.lawful

  abbrev ws : List ℕ
  ws = flat_map item_words m.its

  pub groups_hold : (length c ≡ groups_in p c * (3 * group_words p)) × (length ws ≤ groups_in p c * slots p) × ((n : ℕ) → length ws ≤ n * slots p → groups_in p c ≤ n)
  groups_hold =
      let g = made_groups m in (
        g.0 ∙ ap (λ (n : ℕ). n * (3 * group_words p)) (sym g.1),
        rw g.1 (enough_groups p (length ws) (free p l.shape)),
        λ n h. rw g.1 (fewest p (length ws) n (free p l.shape) h),
      )

  module _ (g : ℕ) (h : g < groups_in p c) where
    h' : g < groups_for p (length ws)
    h' = rw (made_groups m).1 at h

    -- the word j of the track t
    stored : (t : ℕ) → t < p.tracks → (j : ℕ) → j < p.words → word_at c (g * group_words p + t * p.words + j) ≡ get_or (frame p (dealt_for p times ws g) t) j 0
    stored t k j i = rw m.capture at (stored_at p (long p l.shape) l.shape.tracks_least times ws g t j h' k i)

    pub sync_at : (t : ℕ) → t < p.tracks → word_at c (g * group_words p + t * p.words) ≡ sync
    sync_at t k =
        let e : g * group_words p + t * p.words + 0 ≡ g * group_words p + t * p.words = omega arith in
        rw e at (stored t k 0 (omega (arith, l.shape.words_least)) ∙ frame_front p (dealt_for p times ws g) t 0 (omega arith))

    pub check_at : (t : ℕ) → t < p.tracks → p.crc ≡ true
        → word_at c (g * group_words p + t * p.words + (p.words - 1)) ≡ check_word p.parity p.crc_label (list (word_at c) (g * group_words p + t * p.words) (p.words - 1))
    unfolding rows
    check_at t k e =
        let o : bit p.crc ≡ 1 = ap bit e in
        let r : p.words - 1 ≡ suc (rows p) = omega (arith, l.shape.words_least) in
        rw r
        (stored t k (suc (rows p)) (omega (arith, l.shape.words_least)) ∙ frame_check p (dealt_for p times ws g) t e
        ∙ ap (check_word p.parity p.crc_label) (sym (check_list p (dealt_for p times ws g) t c (g * group_words p + t * p.words) (long p l.shape) (stored t k))))

    -- the dealt word s
    dealt_stands : (s : ℕ) → s < p.tracks * rows p → word_at c (g * group_words p + place_of p s) ≡ sent p.parity (get_or (dealt_for p times ws g) s (fill p.fill_bus))
    dealt_stands s k = rw m.capture at (capture_at p (long p l.shape) l.shape.tracks_least times ws g s h' k)

    pub time_at : (s : ℕ) → s < 3 → p.frame_time ≡ true → word_at c (g * group_words p + place_of p s) ≡ sent p.parity (get_or (time_words (get_or times g 0)) s (fill p.fill_bus))
    unfolding dealt_for dealt_of time_words
    time_at s k e =
        dealt_stands s (omega (arith, room p l.shape))
        ∙ ap (λ (b : Bool). sent p.parity (get_or (cond b (time_words (get_or times g 0)) [] ++ take (slots p) (drop (g * slots p) ws)) s (fill p.fill_bus))) e
        ∙ ap (sent p.parity) (get_or-append (time_words (get_or times g 0)) (take (slots p) (drop (g * slots p) ws)) (fill p.fill_bus) s k)

    pub slot_stands : (i : ℕ) → i < slots p → word_at c (g * group_words p + place_of p (lead p + i)) ≡ sent p.parity (get_or ws (g * slots p + i) (fill p.fill_bus))
    slot_stands i k =
        dealt_stands (lead p + i) (slot_in p i k)
        ∙ ap (sent p.parity) (dealt_at p times ws g i k ∙ get_or-drop (g * slots p) ws i (fill p.fill_bus))
