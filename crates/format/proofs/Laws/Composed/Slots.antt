-- The data words of a composed capture are the words that were composed.
use Prim.Native.Nat.{ℕ, zero, suc, ◌+◌, ◌*◌, ◌/◌, ◌-◌, ◌<◌, ◌≤◌}
use Rattle.std.proofs.Common.{mod-lt, div-add-mod', sym, ◌∙◌, get_or-append-add, get_or-take, take_all}
use native.Mathlib.Omega.{arith}
use Rattle.std.specs.Prelude.{Bool, true, false, cond, ◌≡◌, refl, length, take, get_or}
use Rattle.std.proofs.Math.Path.{ap}
use mathlib.Core.List.{List, [], ◌∷◌, map}
use Rattle.std.proofs.Math.ListN.{drop}
use Rattle.std.proofs.Math.Seq.{take-nil, take-add, drop-drop}
use Rattle.format.specs.Word.{word_at, sent, fill, is_fill}
use Rattle.format.specs.Plan.{rows, lead, slots, group_words, place_of}
use Rattle.format.specs.Reader.{Slot, data_of}
use Rattle.format.specs.Lawful.{buses}
use Rattle.format.specs.Lists.{list, All, nil, cons}
use Rattle.format.specs.Group.{dealt_of, group_slots, time_words}
use Rattle.format.specs.Compose.{capture_of, dealt_for, groups_for}
use Rattle.format.specs.Read.{slots_from}
use Rattle.format.specs.Laws.Lists.{map_append, all_drop}
use Rattle.format.proofs.Laws.Reader.Groups.{data_append}
use Rattle.format.specs.Laws.Composed.Frames.{capture_at}
use Rattle.format.specs.Laws.Word.Parts.{fill_sent}
use Rattle.format.specs.Laws.Tests.{later}
use Rattle.format.specs.declared.Plan.{Plan}

-- sent, no fill
abbrev pub IsData : Bool → ℕ → Type 0
IsData parity w = is_fill (sent parity w) ≡ false

-- slots that hold the words xs and then fill have the data words xs
share_data : (parity : Bool) (b : ℕ) → b < buses parity → (f : ℕ → Slot) (n a : ℕ) (xs : List ℕ) → All (IsData parity) xs
    → ((i : ℕ) → i < n → (f (a + i)).1 ≡ sent parity (get_or xs i (fill b))) → data_of (list f a n) ≡ map (sent parity) (take n xs)
unfolding data_of list
share_data parity b k f zero a xs w e = refl
share_data parity b k f (suc n) a [] w e =
    let z : a + 0 ≡ a = omega arith in
    let h : (f a).1 ≡ sent parity (fill b) = rw z at (e 0 (omega arith)) in
    rw (h, fill_sent parity b k) (share_data parity b k f n (a + 1) [] nil (λ i l. rw (later a i) (e (suc i) (omega arith))) ∙ simp take-nil)
share_data parity b k f (suc n) a (x ∷ xs) (cons w ws) e =
    let z : a + 0 ≡ a = omega arith in
    let h : (f a).1 ≡ sent parity x = rw z at (e 0 (omega arith)) in
    rw (h, w) (ap (λ (l : List ℕ). sent parity x ∷ l) (share_data parity b k f n (a + 1) xs ws (λ i l. rw (later a i) (e (suc i) (omega arith)))))

lead_length : (b : Bool) (t : ℕ) → length (cond b (time_words t) []) ≡ cond b 3 0
unfolding time_words
lead_length true t = refl
lead_length false t = refl

-- the groups have room for the words
enough : (n k : ℕ) → 1 ≤ k → n ≤ (n + k - 1) / k * k
enough n k h = omega (arith, div-add-mod' (n + k - 1) k, mod-lt (n + k - 1) h)

pub enough_groups : (p : Plan) (n : ℕ) → 1 ≤ slots p → n ≤ groups_for p n * slots p
unfolding groups_for
enough_groups p n h = enough n (slots p) h

pub dealt_at : (p : Plan) (times ws : List ℕ) (g i : ℕ) → i < slots p → get_or (dealt_for p times ws g) (lead p + i) (fill p.fill_bus) ≡ get_or (drop (g * slots p) ws) i (fill p.fill_bus)
unfolding dealt_for dealt_of lead
dealt_at p times ws g i h =
    let e : lead p ≡ length (cond p.frame_time (time_words (get_or times g 0)) []) = sym (lead_length p.frame_time (get_or times g 0)) in
    rw e (get_or-append-add (cond p.frame_time (time_words (get_or times g 0)) []) (take (slots p) (drop (g * slots p) ws)) i (fill p.fill_bus))
    ∙ get_or-take (slots p) (drop (g * slots p) ws) i (fill p.fill_bus) h

pub slot_in : (p : Plan) (i : ℕ) → i < slots p → lead p + i < p.tracks * rows p
unfolding slots
slot_in p i l = omega arith

module _ (p : Plan) (long : 2 ≤ p.words) (some : 1 ≤ p.tracks) (filling : p.fill_bus < buses p.parity) (times ws : List ℕ) (data' : All (IsData p.parity) ws) where
  abbrev c : List ℕ
  c = capture_of p times ws

  -- what stands in the slot i of group g
  pub slot_at : (g i : ℕ) → g < groups_for p (length ws) → i < slots p
      → word_at (capture_of p times ws) (g * group_words p + place_of p (lead p + i)) ≡ sent p.parity (get_or (drop (g * slots p) ws) i (fill p.fill_bus))
  slot_at g i h l = capture_at p long some times ws g (lead p + i) h (slot_in p i l) ∙ ap (sent p.parity) (dealt_at p times ws g i l)

  group_data : (g : ℕ) → g < groups_for p (length ws) → data_of (group_slots p c (g * group_words p)) ≡ map (sent p.parity) (take (slots p) (drop (g * slots p) ws))
  unfolding group_slots
  group_data g h =
      share_data p.parity p.fill_bus filling (λ s. (g * group_words p + place_of p s, word_at c (g * group_words p + place_of p s))) (slots p) (lead p) (drop (g * slots p) ws) (all_drop (g * slots p) data')
      (λ i l. slot_at g i h l)

  -- n groups from g on
  groups_data : (n g : ℕ) → g + n ≤ groups_for p (length ws) → data_of (slots_from p c n g) ≡ map (sent p.parity) (take (n * slots p) (drop (g * slots p) ws))
  unfolding slots_from data_of
  groups_data zero g h =
      let e : 0 * slots p ≡ 0 = omega arith in
      rw e
  groups_data (suc n) g h =
      let S : ℕ = slots p in
      let l : List ℕ = drop (g * S) ws in
      let e : suc n * S ≡ S + n * S = omega arith in
      let e2 : g * S + S ≡ (g + 1) * S = omega arith in
      let d : drop S l ≡ drop ((g + 1) * S) ws = drop-drop S (g * S) ws ∙ ap (λ (k : ℕ). drop k ws) e2 in
      data_append (group_slots p c (g * group_words p)) (slots_from p c n (g + 1))
      ∙ rw (group_data g (omega arith), groups_data n (g + 1) (omega arith), e, take-add S (n * S) l, d)
      (sym (map_append (sent p.parity) (take S l) (take (n * S) (drop ((g + 1) * S) ws))))

  -- all of them
  pub composed_data : 1 ≤ slots p → data_of (slots_from p c (groups_for p (length ws)) 0) ≡ map (sent p.parity) ws
  composed_data h =
      let n : ℕ = groups_for p (length ws) in
      let e : 0 * slots p ≡ 0 = omega arith in
      groups_data n 0 (omega arith) ∙ rw (e, take_all (n * slots p) ws (enough_groups p (length ws) h))
