-- A capture that the closed reading accepts is the one composed of its items and times.
use Prim.Native.Nat.{ℕ, zero, suc, ◌+◌, ◌*◌, ◌/◌, ◌%◌, ◌^◌, ◌-◌, ◌<◌, ◌≤◌}
use Rattle.std.proofs.Common.{zero-add, div-lt_iff_lt-mul, mod-eq_of_lt, ap₂, ◌∙◌, length-append, get_or-drop, get_or-append-add, eqb-true}
use Rattle.std.proofs.Math.Nat.{mul-le-mul_right, mod-lt, div-add-mod', mul-add-div_right, div-eq_of_lt, add-mul-mod_self_right}
use Rattle.std.proofs.Math.Decide.{dec_lt}
use native.Mathlib.Omega.{arith}
use Rattle.std.specs.Prelude.{Bool, cond, ◌||◌, not, ◌≡◌, drop}
use Rattle.std.proofs.Math.Bool.{true, false}
use Rattle.std.proofs.Math.Path.{refl, ap, sym}
use mathlib.Core.List.{List, [], ◌∷◌, ◌++◌, map, flat_map}
use Rattle.std.proofs.Math.ListN.{length, get_or, get_or-append}
use Rattle.format.specs.Word.{word_at, bytes_of, sent, fill, is_fill, is_odd, label_of, info_of, bare, part_of, word_for}
use Rattle.format.specs.Plan.{rows, lead, slots, group_words, place_of, stored_at}
use Rattle.format.specs.Bits.{bit}
use Rattle.format.specs.Reader.{Slot, data_of, counted}
use Rattle.format.specs.Lists.{list, All, nil, cons, Bytes}
use Rattle.format.specs.Group.{frame, group, group_time, time_info, group_slots, group_fault, none, fault_at}
use Rattle.format.specs.Check.{check_word}
use Rattle.format.specs.Compose.{capture_of, dealt_for, groups_for}
use Rattle.format.specs.Read.{slots_from}
use Rattle.format.specs.Laws.Word.Parts.{part_forth, info_low}
use Rattle.format.specs.Laws.Tests.{and_true}
use Rattle.format.specs.Laws.Lists.{all_append, map_append, get_or_list, get_or_blocks, list_is, all_list, all_left, list_blocks}
use Rattle.format.specs.Laws.Word.Parity.{odd_sent}
use Rattle.format.specs.Laws.Limits.{free, long, room}
use Rattle.format.specs.Laws.Legal.{Legal}
use Rattle.format.proofs.Laws.Reader.Groups.{Faultless, last, next}
use Rattle.format.specs.Laws.Composed.Frames.{front, front_length, frame_front, frame_check, frame_length, group_length, dealt_on, track_low, row_in}
use Rattle.format.specs.Laws.Composed.Faultless.{Timely, time_part, dealt_time}
use Rattle.format.proofs.Laws.Composed.Slots.{dealt_at, slot_in}
use Rattle.format.proofs.Laws.Accepted.Tidy.{AllTidy, Blank, words_in, slots_length}
use Rattle.format.specs.Laws.Word.Bytes.{word_at_low, bytes_words}
use Rattle.format.proofs.Laws.Accepted.Stored.{stored_fault_lem, sync_is, odd_is, check_is, TimeWord, times_are}
use Rattle.format.specs.declared.Kind.{Kind}
use Rattle.format.specs.declared.Plan.{Plan}
use Rattle.format.specs.Laws.Reader.Counted.{counted_append}
use Rattle.format.proofs.Laws.Reader.Named.{named, slots_counted}

-- a stored word that is odd where there is parity is its own sealing
sent_bare : (parity : Bool) (w : ℕ) → w < 2 ^ 24 → (not parity || is_odd w) ≡ true → sent parity (bare parity w) ≡ w
unfolding sent
sent_bare true w h e = odd_sent w h e
sent_bare false w h e = refl

-- fill on the plan's bus is the fill that we write
blank_fill : (parity : Bool) (bus w : ℕ) → w < 2 ^ 24 → Blank parity bus w → bare parity w ≡ fill bus
unfolding is_fill fill
blank_fill parity bus w h b =
    let a = and_true _ _ b.0 in
    let e1 : label_of w ≡ 1 = eqb-true _ _ a.0 in
    let e2 : info_of w ≡ 0xAAAA = eqb-true _ _ a.1 in
    sym (part_forth parity w h) ∙ rw (b.1, e1, e2)

pub faultless_at : (p : Plan) (c : List ℕ) (n g₀ g : ℕ) → Faultless p c n g₀ → g < n → group_fault p c ((g₀ + g) * group_words p) ≡ none
faultless_at p c zero g₀ g last l = absurd (omega arith)
faultless_at p c (suc n) g₀ zero (next e f) l =
    let z : g₀ ≡ g₀ + 0 = omega arith in
    rw z at e
faultless_at p c (suc n) g₀ (suc g) (next e f) l =
    let z : g₀ + 1 + g ≡ g₀ + suc g = omega arith in
    rw z at (faultless_at p c n (g₀ + 1) g f (omega arith))

words_list : (f : ℕ → Slot) (n a : ℕ) → words_in (list f a n) ≡ list (λ s. (f s).1) a n
unfolding list
words_list f zero a = refl
words_list f (suc n) a = ap (λ (l : List ℕ). (f a).1 ∷ l) (words_list f n (a + 1))

group_words_lem : (p : Plan) (c : List ℕ) (at : ℕ) → words_in (group_slots p c at) ≡ list (λ s. word_at c (at + place_of p s)) (lead p) (slots p)
unfolding group_slots
group_words_lem p c at = words_list (λ s. (at + place_of p s, word_at c (at + place_of p s))) (slots p) (lead p)

group_slot : (p : Plan) (c : List ℕ) (at i : ℕ) → i < slots p → get_or (words_in (group_slots p c at)) i 0 ≡ word_at c (at + place_of p (lead p + i))
group_slot p c at i l = ap (λ (x : List ℕ). get_or x i 0) (group_words_lem p c at) ∙ get_or_list (λ s. word_at c (at + place_of p s)) (lead p) (slots p) i 0 l

pub slots_low : (p : Plan) (c : List ℕ) → Bytes c → (n g : ℕ) → All (λ w. w < 2 ^ 24) (words_in (slots_from p c n g))
unfolding slots_from
slots_low p c h zero g = nil
slots_low p c h (suc n) g =
    rw (map_append (λ (s : Slot). s.1) (group_slots p c (g * group_words p)) (slots_from p c n (g + 1)), group_words_lem p c (g * group_words p))
    (all_append (all_list (λ w. w < 2 ^ 24) (λ s. word_at c (g * group_words p + place_of p s)) (slots p) (lead p) (λ i l. word_at_low c h _)) (slots_low p c h n (g + 1)))

pub slots_count : (p : Plan) (c : List ℕ) (n g : ℕ) → length (words_in (slots_from p c n g)) ≡ n * slots p
unfolding slots_from
slots_count p c zero g = omega arith
slots_count p c (suc n) g =
    ap length (map_append (λ (s : Slot). s.1) (group_slots p c (g * group_words p)) (slots_from p c n (g + 1)))
    ∙ length-append (words_in (group_slots p c (g * group_words p))) (words_in (slots_from p c n (g + 1)))
    ∙ rw (slots_length p c (g * group_words p), slots_count p c n (g + 1)) (omega arith)

-- the slots of groups are their words, numbered and each told by where it stands
pub slots_named : (p : Plan) (c : List ℕ) (n g : ℕ) → 1 ≤ slots p
    → slots_from p c n g ≡ map (named (stored_at p)) (counted (g * slots p) (words_in (slots_from p c n g)))
unfolding slots_from counted
slots_named p c zero g some = refl
slots_named p c (suc n) g some =
    let a : List Slot = group_slots p c (g * group_words p) in
    let b : List Slot = slots_from p c n (g + 1) in
    let e : g * slots p + length (words_in a) ≡ (g + 1) * slots p = rw (slots_length p c (g * group_words p)) (omega arith) in
    let w : words_in (a ++ b) ≡ words_in a ++ words_in b = map_append (λ (s : Slot). s.1) a b in
    rw (
      w,
      counted_append (g * slots p) (words_in a) (words_in b),
      e,
      map_append (named (stored_at p)) (counted (g * slots p) (words_in a)) (counted ((g + 1) * slots p) (words_in b)),
      ← (slots_counted p c some g),
      ← (slots_named p c n (g + 1) some),
    )

-- the words of the slots, one by one
slots_at : (p : Plan) → 1 ≤ slots p → (c : List ℕ) (n g₀ g i : ℕ) → g < n → i < slots p
    → get_or (words_in (slots_from p c n g₀)) (g * slots p + i) 0 ≡ word_at c ((g₀ + g) * group_words p + place_of p (lead p + i))
unfolding slots_from
slots_at p free c zero g₀ g i h l = absurd (omega arith)
slots_at p free c (suc n) g₀ zero i h l =
    let e : zero * slots p + i ≡ i = omega arith in
    let z : g₀ + 0 ≡ g₀ = omega arith in
    let k : i < length (words_in (group_slots p c (g₀ * group_words p))) = rw (slots_length p c (g₀ * group_words p)) l in
    ap₂ (λ (x : List ℕ) (m : ℕ). get_or x m 0) (map_append (λ (s : Slot). s.1) (group_slots p c (g₀ * group_words p)) (slots_from p c n (g₀ + 1))) e
    ∙ get_or-append (words_in (group_slots p c (g₀ * group_words p))) (words_in (slots_from p c n (g₀ + 1))) 0 i k
    ∙ rw z (group_slot p c (g₀ * group_words p) i l)
slots_at p free c (suc n) g₀ (suc g) i h l =
    let e : suc g * slots p + i ≡ length (words_in (group_slots p c (g₀ * group_words p))) + (g * slots p + i) = rw (slots_length p c (g₀ * group_words p)) (omega arith) in
    let z : g₀ + 1 + g ≡ g₀ + suc g = omega arith in
    ap₂ (λ (x : List ℕ) (m : ℕ). get_or x m 0) (map_append (λ (s : Slot). s.1) (group_slots p c (g₀ * group_words p)) (slots_from p c n (g₀ + 1))) e
    ∙ get_or-append-add (words_in (group_slots p c (g₀ * group_words p))) (words_in (slots_from p c n (g₀ + 1))) (g * slots p + i) 0
    ∙ rw z at (slots_at p free c n (g₀ + 1) g i (omega arith) l)

-- where the word dealt to row r of track t stands
place_at : (p : Plan) (r t : ℕ) → t < p.tracks → place_of p (r * p.tracks + t) ≡ t * p.words + r + 1
unfolding place_of
place_at p r t h =
    let swap : r * p.tracks + t ≡ t + r * p.tracks = omega arith in
    let q : (r * p.tracks + t) / p.tracks ≡ r = mul-add-div_right (omega arith) r t ∙ rw (div-eq_of_lt h) (omega arith) in
    let m : (r * p.tracks + t) % p.tracks ≡ t = ap (λ (x : ℕ). x % p.tracks) swap ∙ add-mul-mod_self_right t r p.tracks ∙ mod-eq_of_lt h in
    rw (q, m)

-- data and then fill, bare
bare_at : (u : ℕ → ℕ) (d : ℕ) (D F : List ℕ) (k : ℕ) → k < length (D ++ F) → All (λ x. u x ≡ d) F → u (get_or (D ++ F) k 0) ≡ get_or (map u D) k d
bare_at u d [] [] k h a = absurd (omega arith)
bare_at u d [] (x ∷ F) zero h (cons e a) = e
bare_at u d [] (x ∷ F) (suc k) h (cons e a) = bare_at u d [] F k (omega arith) a
bare_at u d (x ∷ D) F zero h a = refl
bare_at u d (x ∷ D) F (suc k) h a = bare_at u d D F k (omega arith) a

blanks : (parity : Bool) (bus : ℕ) (F : List ℕ) → All (λ w. w < 2 ^ 24) F → All (Blank parity bus) F → All (λ x. bare parity x ≡ fill bus) F
blanks parity bus [] nil nil = nil
blanks parity bus (x ∷ F) (cons h a) (cons b c) = cons (blank_fill parity bus x h b) (blanks parity bus F a c)

lead_is : (p : Plan) (s : ℕ) → s < lead p → s < cond p.frame_time 3 0
unfolding lead
lead_is p s h = h

slot_of : (p : Plan) (s : ℕ) → lead p ≤ s → s < p.tracks * rows p → s - lead p < slots p
unfolding slots
slot_of p s m h = omega arith

-- a time from its three numbers, and back
time_parts : (a b m : ℕ) → b < 65536 → m < 10000
    → ((10000 * (65536 * a + b) + m) / 10000 / 65536 ≡ a) × ((10000 * (65536 * a + b) + m) / 10000 % 65536 ≡ b) × ((10000 * (65536 * a + b) + m) % 10000 ≡ m)
time_parts a b m h k =
    let e : (10000 * (65536 * a + b) + m) / 10000 ≡ 65536 * a + b = omega arith in
    (rw e (omega arith), rw e (omega arith), omega arith)

module _ (p : Plan) (ks : List Kind) (l : Legal p ks) (c : List ℕ) (bytes : Bytes c) (n : ℕ) (f : Faultless p c n 0) (t : AllTidy p c n 0)
    (ws : List ℕ) (w : map (bare p.parity) (data_of (slots_from p c n 0)) ≡ ws) where
  group_none : (g : ℕ) → g < n → group_fault p c (g * group_words p) ≡ none
  group_none g h =
      let z : 0 + g ≡ g = omega arith in
      rw z at (faultless_at p c n 0 g f h)

  stored_sent : (g t r : ℕ) → g < n → t < p.tracks → suc r < p.words
      → sent p.parity (bare p.parity (word_at c (g * group_words p + t * p.words + suc r))) ≡ word_at c (g * group_words p + t * p.words + suc r)
  stored_sent g t r h k m =
      sent_bare p.parity _ (word_at_low c bytes _) (odd_is p c (g * group_words p + t * p.words) r (stored_fault_lem p c (g * group_words p) t (suc r) (group_none g h) k m))

  dealt_sent : (g s : ℕ) → g < n → s < p.tracks * rows p
      → sent p.parity (bare p.parity (word_at c (g * group_words p + place_of p s))) ≡ word_at c (g * group_words p + place_of p s)
  unfolding place_of
  dealt_sent g s h k =
      let e : g * group_words p + (s % p.tracks * p.words + s / p.tracks + 1) ≡ g * group_words p + s % p.tracks * p.words + suc (s / p.tracks) = omega arith in
      rw e (stored_sent g (s % p.tracks) (s / p.tracks) h (track_low p (long p l.shape) l.shape.tracks_least s) (row_in p (long p l.shape) l.shape.tracks_least s k))

  slot_word : (g i : ℕ) → g < n → i < slots p → word_at c (g * group_words p + place_of p (lead p + i)) ≡ sent p.parity (get_or (drop (g * slots p) ws) i (fill p.fill_bus))
  slot_word g i h k =
      let W : List ℕ = words_in (slots_from p c n 0) in
      let D : List ℕ = data_of (slots_from p c n 0) in
      let z : 0 + g ≡ g = omega arith in
      let b : g * slots p + i < length (D ++ t.fills) = rw (← t.is, slots_count p c n 0) (omega (arith, mul-le-mul_right (slots p) h)) in
      let low : All (λ w. w < 2 ^ 24) t.fills = (all_left D t.fills (rw t.is at (slots_low p c bytes n 0))).1 in
      let e : word_at c (g * group_words p + place_of p (lead p + i)) ≡ get_or (D ++ t.fills) (g * slots p + i) 0 =
      sym (rw z at (slots_at p (free p l.shape) c n 0 g i h k)) ∙ ap (λ (x : List ℕ). get_or x (g * slots p + i) 0) t.is in
      let u : bare p.parity (word_at c (g * group_words p + place_of p (lead p + i))) ≡ get_or (drop (g * slots p) ws) i (fill p.fill_bus) =
      ap (bare p.parity) e ∙ bare_at (bare p.parity) (fill p.fill_bus) D t.fills (g * slots p + i) b (blanks p.parity p.fill_bus t.fills low t.blank)
      ∙ ap (λ (x : List ℕ). get_or x (g * slots p + i) (fill p.fill_bus)) w ∙ sym (get_or-drop (g * slots p) ws i (fill p.fill_bus)) in
      sym (dealt_sent g (lead p + i) h (slot_in p i k)) ∙ ap (sent p.parity) u

  module _ (times : List ℕ) (fits : n ≡ groups_for p (length ws)) (timely : Timely times)
      (clock : p.frame_time ≡ true → (g : ℕ) → g < n → get_or times g 0 ≡ group_time p c (g * group_words p)) where
    time_part_lem : (g s : ℕ) → g < n → s < 3 → p.frame_time ≡ true → part_of p.parity (word_at c (g * group_words p + place_of p s)) ≡ time_part (get_or times g 0) s
    unfolding group_time
    time_part_lem g s h k e = rw (clock e g h) (go s k)
      where
        at : ℕ
        at = g * group_words p

        ts : TimeWord p c at 0 7 × TimeWord p c at 1 6 × TimeWord p c at 2 5 × (info_of (word_at c (at + place_of p 2)) < 10000)
        ts = times_are p c at (group_none g h) e

        T : ℕ
        T = 10000 * (65536 * time_info p c at 0 + time_info p c at 1) + time_info p c at 2

        parts : (T / 10000 / 65536 ≡ time_info p c at 0) × (T / 10000 % 65536 ≡ time_info p c at 1) × (T % 10000 ≡ time_info p c at 2)
        parts = time_parts (time_info p c at 0) (time_info p c at 1) (time_info p c at 2) (info_low _) ts.3

        go : (s : ℕ) → s < 3 → part_of p.parity (word_at c (at + place_of p s)) ≡ time_part (10000 * (65536 * time_info p c at 0 + time_info p c at 1) + time_info p c at 2) s
        go zero k = λ i. record { bus = ts.0.bus i; label = ts.0.named i; info = sym parts.0 i }
        go (suc zero) k = λ i. record { bus = ts.1.bus i; label = ts.1.named i; info = sym parts.1 i }
        go (suc (suc zero)) k = λ i. record { bus = ts.2.bus i; label = ts.2.named i; info = sym parts.2 i }
        go (suc (suc (suc s))) k = absurd (omega arith)

    dealt_word : (g s : ℕ) → g < n → s < p.tracks * rows p → word_at c (g * group_words p + place_of p s) ≡ sent p.parity (get_or (dealt_for p times ws g) s (fill p.fill_bus))
    dealt_word g s h k = go (dec_lt s (lead p))
      where
        early : (b : Bool) → p.frame_time ≡ b → s < cond b 3 0 → word_at c (g * group_words p + place_of p s) ≡ sent p.parity (get_or (dealt_for p times ws g) s (fill p.fill_bus))
        early false e m = absurd (omega arith)
        early true e m =
            let x : ℕ = word_at c (g * group_words p + place_of p s) in
            let u : bare p.parity x ≡ get_or (dealt_for p times ws g) s (fill p.fill_bus) =
            sym (part_forth p.parity x (word_at_low c bytes (g * group_words p + place_of p s))) ∙ ap word_for (time_part_lem g s h m e)
            ∙ sym (dealt_time p (long p l.shape) l.shape.tracks_least (room p l.shape) times ws timely g (rw fits at h) s m e) in
            sym (dealt_sent g s h k) ∙ ap (sent p.parity) u

        go : Dec (s < lead p) → word_at c (g * group_words p + place_of p s) ≡ sent p.parity (get_or (dealt_for p times ws g) s (fill p.fill_bus))
        go (yes m) = early p.frame_time refl (lead_is p s m)
        go (no m) =
            let i : ℕ = s - lead p in
            let z : lead p + i ≡ s = omega arith in
            let q : i < slots p = slot_of p s (omega arith) k in
            rw z at (slot_word g i h q ∙ ap (sent p.parity) (sym (dealt_at p times ws g i q)))

    -- a frame: all but the check word
    module _ (g t' : ℕ) (h : g < n) (k : t' < p.tracks) where
      abbrev at : ℕ
      at = g * group_words p + t' * p.words

      abbrev dealt : List ℕ
      dealt = dealt_for p times ws g

      no_fault_at : (j : ℕ) → j < p.words → fault_at p c at j ≡ none
      no_fault_at j m = stored_fault_lem p c (g * group_words p) t' j (group_none g h) k m

      front_word : (i : ℕ) → i < suc (rows p) → word_at c (at + i) ≡ get_or (front p dealt t') i 0
      front_word zero m =
          let z : at + 0 ≡ at = omega arith in
          ap (word_at c) z ∙ sync_is p c at (no_fault_at 0 (omega (arith, l.shape.words_least)))
      front_word (suc r) m =
          let m' : r < rows p = omega arith in
          let z : 0 + r ≡ r = omega arith in
          let s : r * p.tracks + t' < p.tracks * rows p = omega (arith, mul-le-mul_right p.tracks m') in
          let e : at + suc r ≡ g * group_words p + (t' * p.words + r + 1) = omega arith in
          ap (word_at c) (e ∙ ap (λ (x : ℕ). g * group_words p + x) (sym (place_at p r t' k))) ∙ dealt_word g (r * p.tracks + t') h s
          ∙ sym (get_or_list (dealt_on p dealt t') 0 (rows p) r 0 m' ∙ ap (dealt_on p dealt t') z)

      front_list : list (word_at c) at (suc (rows p)) ≡ front p dealt t'
      front_list =
          ap (list (word_at c) at) (sym (front_length p dealt t'))
          ∙ list_is (word_at c) (front p dealt t') at (λ i m. front_word i (rw (front_length p dealt t') at m))

      frame_word : (j : ℕ) → j < p.words → word_at c (at + j) ≡ get_or (frame p dealt t') j 0
      unfolding rows
      frame_word j m = go (dec_lt j (suc (rows p))) p.crc refl
        where
          go : Dec (j < suc (rows p)) → (b : Bool) → p.crc ≡ b → word_at c (at + j) ≡ get_or (frame p dealt t') j 0
          go (yes q) b e = front_word j q ∙ sym (frame_front p dealt t' j q)
          go (no q) false e =
              let o : bit p.crc ≡ 0 = ap bit e in
              absurd (omega arith)
          go (no q) true e =
              let o : bit p.crc ≡ 1 = ap bit e in
              let r : j ≡ suc (rows p) = omega arith in
              let d : suc (suc (rows p)) ≡ p.words = omega (arith, l.shape.words_least) in
              ap (λ (x : ℕ). word_at c (at + x)) r ∙ check_is p c at (rows p) (no_fault_at (suc (rows p)) (omega arith)) e d
              ∙ ap (check_word p.parity p.crc_label) front_list ∙ sym (frame_check p dealt t' e) ∙ ap (λ (x : ℕ). get_or (frame p dealt t') x 0) (sym r)

    group_word : (g j : ℕ) → g < n → j < group_words p → word_at c (g * group_words p + j) ≡ get_or (group p (dealt_for p times ws g)) j 0
    unfolding group
    group_word g j h k =
        let pos : 1 ≤ p.words = omega (arith, l.shape.words_least) in
        let q : j / p.words < p.tracks = (div-lt_iff_lt-mul pos).1 k in
        let r : j % p.words < p.words = mod-lt j pos in
        let d : j / p.words * p.words + j % p.words ≡ j = div-add-mod' j p.words in
        let e : g * group_words p + j ≡ g * group_words p + j / p.words * p.words + j % p.words = omega arith in
        let z : 0 + j / p.words ≡ j / p.words = omega arith in
        ap (word_at c) e ∙ frame_word g (j / p.words) h q (j % p.words) r
        ∙ ap (λ (x : ℕ). get_or (frame p (dealt_for p times ws g) x) (j % p.words) 0) (sym z)
        ∙ sym (get_or_blocks (frame p (dealt_for p times ws g)) p.words (λ t. frame_length p (dealt_for p times ws g) t (long p l.shape)) 0 p.tracks (j / p.words) (j % p.words) 0 q r)
        ∙ ap (λ (x : ℕ). get_or (flat_map (frame p (dealt_for p times ws g)) (list (λ t. t) 0 p.tracks)) x 0) d

    -- the capture is the one composed
    pub exact : length c ≡ n * (3 * group_words p) → capture_of p times ws ≡ c
    unfolding capture_of
    exact len =
        let pos : 1 ≤ group_words p = omega (arith, l.shape.words_least, mul-le-mul_right p.words l.shape.tracks_least) in
        let e : length c ≡ n * group_words p * 3 = len ∙ omega arith in
        let b : list (word_at c) 0 (n * group_words p) ≡ flat_map (λ (g : ℕ). group p (dealt_for p times ws g)) (list (λ g. g) 0 n) =
        list_blocks (word_at c) (λ (g : ℕ). group p (dealt_for p times ws g)) (group_words p) pos (λ g. group_length p (long p l.shape) l.shape.tracks_least (dealt_for p times ws g)) n 0
        (λ g j h k. ap (word_at c) (zero-add (g * group_words p + j)) ∙ group_word g j h k) in
        ap (λ (m : ℕ). flat_map bytes_of (flat_map (λ (g : ℕ). group p (dealt_for p times ws g)) (list (λ g. g) 0 m))) (sym fits)
        ∙ ap (flat_map bytes_of) (sym b) ∙ bytes_words (n * group_words p) c e bytes
