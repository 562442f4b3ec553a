-- What was composed reads as the items.
use Rattle.std.specs.Prelude.{ℕ, zero, suc, ◌+◌, ◌*◌, ◌^◌, ◌-◌, ◌<◌, ◌≤◌, Bool, cond, ◌≡◌, length, get_or}
use Rattle.std.proofs.Common.{arith, ◌∙◌}
use Rattle.std.proofs.Math.Bool.{true, false}
use mathlib.Core.List.{List, [], flat_map}
use Rattle.format.specs.Word.{word_of, fill, Part, word_for}
use Rattle.format.specs.Plan.{rows, slots, group_words}
use Rattle.format.specs.Item.{item_words, sided, item_parts}
use Rattle.format.specs.Group.{dealt_of, group_fault, none, time_words}
use Rattle.format.specs.Compose.{capture_of, dealt_for, groups_for}
use Rattle.format.specs.Read.{got, read_groups}
use Rattle.format.specs.Lists.{All, nil, cons}
use Rattle.format.specs.Lawful.{Sound, Sized, buses}
use Rattle.format.specs.Time.{time_end}
use Rattle.format.specs.Laws.Word.Parts.{Holds, not_fill, fill_holds}
use Rattle.format.specs.Laws.Reader.Parts.{words_of, items_hold}
use Rattle.format.proofs.Laws.Reader.Back.{parts_back}
use Rattle.format.proofs.Laws.Reader.Back as back
use Rattle.format.specs.Laws.Lists.{all_append, all_drop, all_take, all_of, all_map, all_flat, all_both, all_mapped, all_get_d}
use Rattle.format.proofs.Laws.Reader.Words.{words_said, got_whole}
use Rattle.format.proofs.Laws.Reader.Groups.{Faultless, last, next, groups_read}
use Rattle.format.proofs.Laws.Composed.Slots.{IsData, composed_data}
use Rattle.format.specs.Laws.Composed.Faultless.{stored_none, Timely, time_holds, time_none}
use Rattle.format.specs.Laws.Tests.{clash}
use Rattle.format.specs.declared.Kind.{Kind}
use Rattle.format.specs.declared.Plan.{Plan}
use Rattle.format.specs.declared.Tag.TheVariants.{Untagged, At}
use Rattle.format.specs.declared.Response.TheVariants.{Untimed, After}
use Rattle.format.specs.declared.Item.{Item}
use Rattle.format.specs.declared.Item.TheVariants.{Command, Status, Data, BusError, Arinc, Notice, User, Overflow}
use Rattle.format.specs.declared.Held.TheVariants.{Nothing}

abbrev NoFill : Part → Type 0
NoFill x = x.label ≡ 1 → ⊥

sided_no : (l : ℕ) (b : Bool) → 6 ≤ l → sided l b ≡ 1 → ⊥
sided_no l true h = λ (e : l - 4 ≡ 1). omega arith
sided_no l false h = λ (e : l ≡ 1). omega arith

item_labels : (i : Item) → Sized i → All NoFill (item_parts i)
item_labels (Command bus b Untagged word) z = all_of _ _ (sided_no 15 b (omega arith), tt)
item_labels (Command bus b (At t) word) z = all_of _ _ (sided_no 15 b (omega arith), omega arith)
item_labels (Status bus b Untimed word) z = all_of _ _ (sided_no 14 b (omega arith), tt)
item_labels (Status bus b (After r) word) z = all_of _ _ (omega arith, (sided_no 14 b (omega arith), tt))
item_labels (Data bus b word) z = all_of _ _ (sided_no 13 b (omega arith), tt)
item_labels (BusError bus b word) z = all_of _ _ (sided_no 12 b (omega arith), tt)
item_labels (Arinc bus c Untagged word) z = all_of _ _ (omega arith)
item_labels (Arinc bus c (At t) word) z = all_of _ _ (omega arith)
item_labels (Notice bus c diag) z = all_of _ _ (omega arith)
item_labels (User bus true word) z = all_of _ _ (omega arith)
item_labels (User bus false word) z = all_of _ _ (omega arith)
item_labels (Overflow bus word) z = all_of _ _ (omega arith)

-- a word that fits in 23 bits if there is parity
abbrev Low : Bool → ℕ → Type 0
Low parity w = parity ≡ true → w < 2 ^ 23

holds_low : (parity : Bool) (x : Part) → Holds parity x → Low parity (word_for x)
unfolding word_of
holds_low true x h e = omega (arith, h.bus, h.label, h.info)
holds_low false x h e = clash e

fill_low : (parity : Bool) (b : ℕ) → b < buses parity → Low parity (fill b)
unfolding fill
fill_low parity b h e = holds_low parity _ (fill_holds parity b h) e

time_low : (parity : Bool) (t : ℕ) → t < time_end → All (Low parity) (time_words t)
unfolding time_words
time_low parity t h = cons (holds_low parity _ (time_holds parity t 0 h)) (cons (holds_low parity _ (time_holds parity t 1 h)) (cons (holds_low parity _ (time_holds parity t 2 h)) nil))

module _ (ks : List Kind) (parity : Bool) (is : List Item) (sound : All (Sound ks parity) is) where
  no_fills : All NoFill (flat_map item_parts is)
  no_fills = all_flat NoFill item_parts is (all_map (λ i w. item_labels i w.lawful.sized) sound)

  pub words_data : All (IsData parity) (flat_map item_words is)
  words_data = rw (words_of is) (all_mapped (IsData parity) word_for (flat_map item_parts is) (all_both (λ x h n. not_fill parity x h n) (items_hold ks parity is sound) no_fills))

  words_fit : All (Low parity) (flat_map item_words is)
  words_fit = rw (words_of is) (all_mapped (Low parity) word_for (flat_map item_parts is) (all_map (λ x h. holds_low parity x h) (items_hold ks parity is sound)))

module _ (p : Plan) (long : 2 ≤ p.words) (some : 1 ≤ p.tracks) (room : 3 ≤ p.tracks * rows p) (free : 1 ≤ slots p)
    (named : p.crc_label ≤ 7) (filling : p.fill_bus < buses p.parity) (ks : List Kind) (times : List ℕ) (timely : Timely times) (is : List Item) (sound : All (Sound ks p.parity) is) where
  abbrev ws : List ℕ
  ws = flat_map item_words is

  dealt_low : (g i : ℕ) → Low p.parity (get_or (dealt_for p times ws g) i (fill p.fill_bus))
  unfolding dealt_for dealt_of
  dealt_low g i =
      all_get_d (Low p.parity) (fill p.fill_bus) (fill_low p.parity p.fill_bus filling) _
      (all_append (go p.frame_time) (all_take (slots p) (all_drop (g * slots p) (words_fit ks p.parity is sound)))) i
    where
      go : (b : Bool) → All (Low p.parity) (cond b (time_words (get_or times g 0)) [])
      go true = time_low p.parity (get_or times g 0) (timely g)
      go false = nil

  group_sound : (g : ℕ) → g < groups_for p (length ws) → group_fault p (capture_of p times ws) (g * group_words p) ≡ none
  unfolding group_fault
  group_sound g h = rw (stored_none p long some named times ws g h (dealt_low g), time_none p long some room times ws timely g h)

  faultless : (n g : ℕ) → g + n ≤ groups_for p (length ws) → Faultless p (capture_of p times ws) n g
  faultless zero g h = last
  faultless (suc n) g h = next (group_sound g (omega arith)) (faultless n (g + 1) (omega arith))

  -- composed and read, the items come back
  pub composed_read : read_groups p ks (capture_of p times ws) (groups_for p (length ws)) 0 Nothing 0 ≡ got is
  composed_read =
      got_whole (read_groups p ks (capture_of p times ws) (groups_for p (length ws)) 0 Nothing 0) is
      (groups_read p ks (capture_of p times ws) (groups_for p (length ws)) 0 (faultless (groups_for p (length ws)) 0 (omega arith)) Nothing 0
      ∙ rw (composed_data p long some filling times ws (words_data ks p.parity is sound) free, words_said ks p.parity is sound)
      (parts_back ks is (all_map (λ i w. w.lawful) sound) Nothing back.none))
