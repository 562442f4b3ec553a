-- What composing answers, case by case: first of the words, then of the log.
use Prim.Native.Nat.{ℕ, ◌*◌, ◌^◌, ◌-◌, ◌<◌, ◌≤◌}
use native.Mathlib.Omega.{arith}
use mathlib.Core.Bool.{Bool, true, false, cond}
use mathlib.Core.Path.{◌≡◌, refl, ap, sym, ◌∙◌}
use mathlib.Core.List.{List, flat_map}
use lib.ListN.{length, take, drop, length-take}
use lib.Seq.{take_at, get_or-take}
use lib.Dec.{eqb}
use borrow.Author.Tests.{eq-eqb, ne_eqb, le-leb, lt-leb, lt-ltb, eqb-true, eqb-false}
use Rattle.format.specs.Compose.{made, refused, capture_of, compose_parsed, compose_words, unless_open, composed, first_late, groups_for}
use Rattle.format.specs.Item.{item_parts, item_words}
use Rattle.format.specs.Lawful.{buses, Sound}
use Rattle.format.specs.Lists.{All, Bytes}
use Rattle.format.specs.Group.{Fault as Found}
use Rattle.format.specs.Log.{Parsed, items, fault, on_plan, parsed}
use Rattle.format.specs.Plan.{group_words, legal}
use Rattle.format.specs.Word.{Part, word_for, word_of}
use Rattle.format.specs.declared.Item.{Item}
use Rattle.format.specs.declared.Kind.{Kind}
use Rattle.format.specs.declared.Plan.{Plan}
use Rattle.format.specs.Laws.Limits.{Shape}
use Rattle.group_write.specs.Writing.{Unsent}
use Rattle.format.specs.Laws.Notices.{answered_composed}
use Rattle.notices.specs.Roles.{Words}
use Rattle.notices.specs.Laws.Rows.{all_words, open_most}
use Rattle.notices.specs.Laws.Log.{none_open}
use Rattle.log_bits.specs.Bits.{bits_in}
use Rattle.log_bits.specs.Laws.{open_at}
use Rattle.compose.specs.Laid.{open_word, compose_laid}
use Rattle.log_read.specs.Tally.{tallied_of}
use Rattle.log_read.specs.declared.Tally.TheVariants.{Items, Fault}
use Rattle.log_words.specs.Row.{onto}
use Rattle.log_words.specs.Words.{words_from}
use Rattle.compose.proofs.Laws.{Holds, all_map, all_mapped, items_hold, legal_is, log_forth, logged_sound, words_few, words_of, words_parsed}

module _ (p : Plan) (times : List ℕ) (room : ℕ) (ws : List ℕ) where
  abbrev need : ℕ
  need = cond p.frame_time (groups_for p (length ws)) 0

  abbrev bytes : ℕ
  bytes = groups_for p (length ws) * (3 * group_words p)

  pub times_wrong : (length times ≡ need → ⊥) → compose_words p times room ws ≡ refused 5 need
  unfolding compose_words
  times_wrong h = rw (ne_eqb (length times) need h)

  module _ (number : length times ≡ need) where
    pub time_late : (first_late 0 times ≡ length times → ⊥) → compose_words p times room ws ≡ refused 5 (first_late 0 times)
    unfolding compose_words
    time_late h = rw (eq-eqb (length times) need number, ne_eqb (first_late 0 times) (length times) h)

    module _ (size : first_late 0 times ≡ length times) where
      pub room_short : room < bytes → compose_words p times room ws ≡ refused 6 bytes
      unfolding compose_words
      room_short h = rw (eq-eqb (length times) need number, eq-eqb (first_late 0 times) (length times) size, lt-leb bytes room h)

      pub all_made : bytes ≤ room → compose_words p times room ws ≡ made (capture_of p times ws)
      unfolding compose_words
      all_made h = rw (eq-eqb (length times) need number, eq-eqb (first_late 0 times) (length times) size, le-leb bytes room h)

-- of the log
module _ (p : Plan) (ks : List Kind) (log times : List ℕ) (room : ℕ) where
  pub plan_illegal : legal p ks ≡ false → composed p ks log times room ≡ refused 1 0
  unfolding composed
  plan_illegal e = rw e

  pub log_long : legal p ks ≡ true → 32768 < length log → composed p ks log times room ≡ refused 2 0
  unfolding composed parsed
  log_long e h = rw (e, lt-ltb 32768 (length log) h)

  pub log_faulty : legal p ks ≡ true → (n q : ℕ) → Fault n q ≡ tallied_of (parsed (on_plan ks) log) → composed p ks log times room ≡ refused n q
  unfolding composed
  log_faulty e n q t = rw e (go (parsed (on_plan ks) log) t)
    where
      go : (r : Parsed) → Fault n q ≡ tallied_of r → compose_parsed p times room r ≡ refused n q
      go (items is) t = let z : ◌≡◌ {A = ℕ} 0 1 = cc in absurd (omega arith)
      go (fault k j) t = cc

  log_whole : legal p ks ≡ true → (is : List Item) → parsed (on_plan ks) log ≡ items is → All (Sound ks p.parity) is
      → composed p ks log times room ≡ compose_laid p ks times room (flat_map item_words is)
  unfolding composed
  log_whole e is g sound = rw (e, g) (laid_whole is (all_map (λ i s. unsent_sound p.parity i s) sound))
    where
      unsent_sound : (parity : Bool) (i : Item) → Sound ks parity i → Sound ks false i
      unsent_sound true i s = record { lawful = s.lawful; bus = omega (arith, s.bus) }
      unsent_sound false i s = s

      laid_whole : (is : List Item) → All (Sound ks false) is → compose_parsed p times room (items is) ≡ compose_laid p ks times room (flat_map item_words is)
      laid_whole is sound = go (eqb (open_word ks (flat_map item_words is)) 0) refl
        where
          go : (b : Bool) → eqb (open_word ks (flat_map item_words is)) 0 ≡ b
              → compose_parsed p times room (items is)
              ≡ cond b (compose_words p times room (flat_map item_words is)) (refused 15 (bits_in ks (take (open_word ks (flat_map item_words is) - 1) (flat_map item_words is))))
          go true z = answered_composed p times room is (none_open ks is sound (eqb-true (open_word ks (flat_map item_words is)) 0 z))
          go false z = ap (λ (f : Found). unless_open f (compose_words p times room (flat_map item_words is))) (open_at ks is sound (eqb-false (open_word ks (flat_map item_words is)) 0 z))

-- a log of this many words, each on a bus that a word can name
pub record Counted (p : Plan) (ks : List Kind) (log : List ℕ) (words : ℕ) : Type 0 where
  pub shape : Shape p
  pub unsent : Unsent p (words_from (on_plan ks) log 0)
  pub count : words ≡ length (words_from (on_plan ks) log 0)
  pub few : words ≤ 15420
  pub is : (times : List ℕ) (room : ℕ) → composed p ks log times room ≡ compose_laid p ks times room (words_from (on_plan ks) log 0)

word_unsent : (parity : Bool) (x : Part) → Holds parity x → word_for x < buses parity * 2 ^ 20
unfolding word_of
word_unsent true x h = omega (arith, h.bus, h.label, h.info)
word_unsent false x h = omega (arith, h.bus, h.label, h.info)

pub log_counted : (p : Plan) (ks : List Kind) (log : List ℕ) → legal p ks ≡ true → Bytes log → (n words : ℕ) → Items n words ≡ tallied_of (parsed (on_plan ks) log) → Counted p ks log words
log_counted p ks log e w n words t = go (parsed (on_plan ks) log) refl t
  where
    go : (r : Parsed) → parsed (on_plan ks) log ≡ r → Items n words ≡ tallied_of r → Counted p ks log words
    go (fault k j) g t = let z : ◌≡◌ {A = ℕ} 0 1 = cc in absurd (omega arith)
    go (items is) g t =
        let l = legal_is p ks e in
        let f = log_forth (on_plan ks) log is w g in
        let v : words_from (on_plan ks) log 0 ≡ flat_map item_words is = words_parsed (on_plan ks) log is g in
        let m : words ≡ length (flat_map item_words is) = cc in
        record {
          shape = l.shape;
          unsent = rw (v, words_of is)
              (all_mapped _ word_for (flat_map item_parts is)
              (all_map (λ x h. word_unsent p.parity x h) (items_hold ks p.parity is (all_map (λ i h. logged_sound p ks l i h) f.1))));
          count = m ∙ ap length (sym v);
          few = rw m (words_few is (rw f.0 f.2));
          is = λ times room. rw v (log_whole p ks log times room e is g (all_map (λ i h. logged_sound p ks l i h) f.1));
        }

-- the row that they were laid into begins with them
pub row_begins : (w : ℕ) (row ws before : List ℕ) → row ≡ onto ws before → w ≡ length ws → take w row ≡ ws
row_begins w row ws before h e = rw (h, e) (take_at ws (drop (length ws) before) (length ws) refl)

-- a row that begins with these words has them all
pub row_holds : (w : ℕ) (row ws : List ℕ) → take w row ≡ ws → w ≡ length ws → w ≤ length row
row_holds w row ws h e = omega (arith, length-take w row, ap length h, e)

-- words that were laid, and not sent yet
pub unsent_words : (p : Plan) (ws : List ℕ) → Unsent p ws → Words ws
unsent_words p ws u = all_words ws (all_map (λ w h. low p.parity w h) u)
  where
    low : (b : Bool) (w : ℕ) → w < buses b * 2 ^ 20 → w < 2 ^ 24
    low true w h = omega arith
    low false w h = omega arith

module _ (p : Plan) (ks : List Kind) (times : List ℕ) (room : ℕ) (ws : List ℕ) where
  pub laid_open : (open_word ks ws ≡ 0 → ⊥) → compose_laid p ks times room ws ≡ refused 15 (bits_in ks (take (open_word ks ws - 1) ws))
  laid_open d = rw (ne_eqb (open_word ks ws) 0 d)

  pub laid_answered : open_word ks ws ≡ 0 → compose_laid p ks times room ws ≡ compose_words p times room ws
  laid_answered e = rw (eq-eqb (open_word ks ws) 0 e)

-- the words before the notice are some of them
pub open_within : (ks : List Kind) (ws : List ℕ) → open_word ks ws ≤ length ws
open_within ks ws = omega (arith, open_most ks false 0 ws)

pub words_take : (n : ℕ) (ws : List ℕ) → Words ws → Words (take n ws)
words_take n ws h i l =
    let k : i < length ws = omega (arith, length-take n ws, l) in
    rw (get_or-take n ws i 0 (omega (arith, length-take n ws, l))) (h i k)
