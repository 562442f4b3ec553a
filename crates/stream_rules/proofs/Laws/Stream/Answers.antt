-- The other way round: where the stream shows no open notice there is none, so where plain reading gives 15 the stream does.
use Prim.Native.Nat.{ℕ, zero, suc, ◌+◌, ◌*◌, ◌/◌, ◌%◌, ◌^◌, ◌-◌, ◌≤◌, ◌<◌}
use Rattle.std.proofs.Common.{arith, ap, ◌∙◌, ap₂, length-set, get_or-set_same, get_or-set_other, eq-eqb, eqb-true}
use Rattle.std.proofs.Math.Decide.{dec_lt}
use Rattle.std.specs.Prelude.{Bool, cond, ◌&&◌, ◌||◌, not, length, drop, get_or, set, replicate, ltb, leb}
use Rattle.std.proofs.Math.Bool.{true, false}
use Rattle.std.proofs.Math.Path.{◌≡◌, refl, sym}
use mathlib.Core.List.{List, [], ◌∷◌, ◌++◌, map}
use Rattle.std.proofs.Math.ListN.{get_or-eq_default}
use Rattle.std.proofs.Math.Dec.{eqb}
use Rattle.std.proofs.lemmas.Bool.{eqb-false}
use Rattle.format.specs.Word.{bus_of, label_of, info_of, is_fill, part, part_of, word_at}
use Rattle.format.specs.Plan.{legal, group_words, kind_on, slots, lead, place_of, times_needed}
use Rattle.format.specs.Item.{channel_of}
use Rattle.format.specs.Laws.Lists.{all_list, all_take, all_drop}
use Rattle.format.specs.Laws.Word.Bytes.{word_at_low}
use Rattle.format.specs.Lists.{All, nil, cons, list, Bytes}
use Rattle.format.specs.Log.{log_of}
use Rattle.format.specs.Notices.{first_open, open_fault, first_word_of}
use Rattle.format.specs.Reader.{Slot, places_of, is_high, Fed, bad, fed, feed, Ran, bad_at, ran, run, begun, join, more, since}
use Rattle.format.specs.Group.{Fault, none, found, unless, group_fault, group_time, group_slots}
use Rattle.format.specs.Read.{Got, got, stopped, finish, onward, before, if_sound, read_groups, slots_from, Reading, gives, refuses, reading, settled, roomed, unless_found, open_in}
use Rattle.stream_rules.specs.Stream.{stored_of, slots_of, slots_at, moved_fault, Watch, answered_on, noticed_on, watch_word, watch, earliest, lesser, Carry, Brought, brings, stops, watched, soundly, take_group, unless_waits, closing_items, closing, closing_at, start, group_size, group_bytes, Tale, ending, further, told, stream_groups, Streamed, handed, streamed}
use Rattle.notices.specs.Table.{or_first}
use Rattle.format.specs.Laws.Tests.{clash, and_true}
use Rattle.notices.specs.Roles.{Role, neither, notice, word, Row, open_row, role_in, roles_in}
use Rattle.stream_rules.specs.Laws.Stream.Waiting.{Waiting, put, waited, shows_by, or_then, waits, shown, Quiet, open_or_waits}
use Rattle.format.specs.Laws.Legal.{Legal, legal_is}
use Rattle.format.specs.Laws.Limits.{free}
use Rattle.notices.specs.Laws.Table.{InTable}
use Rattle.notices.specs.Laws.Rows.{bus_low, role_low}
use Rattle.stream_rules.specs.Laws.Stream.Moved.{group_moved, slots_moved, numbers_moved}
use Rattle.stream_rules.proofs.Laws.Stream.Plain.{Agrees, accepts, refuses_too, shown_open, whole_agrees, row_append, waits_append, row_in_none}
use Rattle.format.specs.declared.Kind.{Kind}
use Rattle.format.specs.declared.Kind.TheVariants.{Unused, Mil1553, Arinc429}
use Rattle.format.specs.declared.Item.{Item}
use Rattle.format.specs.declared.Held.{Held}
use Rattle.format.specs.declared.Held.TheVariants.{Nothing}
use Rattle.format.specs.declared.Plan.{Plan}
use Rattle.format.proofs.Laws.Reader.Named.{renamed, run_named, named}

-- where nothing waits in the list, nothing waits in the table
record Over (l : List ℕ) (t : Waiting) : Type 0 where
  size : length l ≡ 64
  each : (k : ℕ) → get_or l k 0 ≡ 0 → t k ≡ 0

over_none : (l : List ℕ) (t : Waiting) (j : ℕ) → Over l t → Over (set l j 0) (put t j 0)
over_none l t j o = record { size = length-set l j 0 ∙ o.size; each = λ k z. go k (eqb j k) refl z }
  where
    go : (k : ℕ) (b : Bool) → eqb j k ≡ b → get_or (set l j 0) k 0 ≡ 0 → cond b 0 (t k) ≡ 0
    go k true e z = refl
    go k false e z = o.each k (sym (get_or-set_other l j k 0 0 (λ i. eqb-false j k e (sym i))) ∙ z)

over_some : (l : List ℕ) (t : Waiting) (j u v : ℕ) → j < 64 → 1 ≤ u → Over l t → Over (set l j u) (put t j v)
over_some l t j u v h s o = record { size = length-set l j u ∙ o.size; each = λ k z. go k (eqb j k) refl z }
  where
    go : (k : ℕ) (b : Bool) → eqb j k ≡ b → get_or (set l j u) k 0 ≡ 0 → cond b v (t k) ≡ 0
    go k true e z =
        let i : j ≡ k = eqb-true j k e in
        let m : get_or (set l j u) j 0 ≡ u = get_or-set_same l j u 0 (omega (arith, h, o.size)) in
        let n : get_or (set l j u) j 0 ≡ 0 = ap (λ (q : ℕ). get_or (set l j u) q 0) i ∙ z in
        absurd (omega (arith, m, n, s))
    go k false e z = o.each k (sym (get_or-set_other l j k u 0 (λ i. eqb-false j k e (sym i))) ∙ z)

first_zero : (a b : ℕ) → or_first a b ≡ 0 → (a ≡ 0) × (b ≡ 0)
first_zero a b e = go (eqb a 0) refl e
  where
    go : (t : Bool) → eqb a 0 ≡ t → cond t b a ≡ 0 → (a ≡ 0) × (b ≡ 0)
    go true h e = (eqb-true a 0 h, e)
    go false h e = absurd (eqb-false a 0 h e)

-- what was shown stays shown
word_shown : (here : ℕ) (w : Role) (x : Watch) → (watch_word here w x).shown ≡ 0 → x.shown ≡ 0
word_shown here neither x e = e
word_shown here (notice j) x e = (first_zero x.shown (get_or x.waits j 0) e).0
word_shown here (word j) x e = e

watch_shown : (ks : List Kind) (parity : Bool) (ss : List Slot) (x : Watch) → (watch ks parity ss x).shown ≡ 0 → x.shown ≡ 0
unfolding watch
watch_shown ks parity [] x e = e
watch_shown ks parity (s ∷ ss) x e =
    word_shown s.0 (role_in ks (part_of parity s.1)) x (watch_shown ks parity ss (watch_word s.0 (role_in ks (part_of parity s.1)) x) e)

word_over : (w : Role) (here place : ℕ) → InTable w → 1 ≤ here → (x : Watch) (t : Waiting) → Over x.waits t → (watch_word here w x).shown ≡ 0
    → (shows_by w t ≡ 0) × Over (watch_word here w x).waits (waited place w t)
word_over neither here place l n x t o q = (refl, o)
word_over (notice j) here place l n x t o q =
    (o.each j (first_zero x.shown (get_or x.waits j 0) q).1, over_some x.waits t j here (place + 1) l n o)
word_over (word j) here place l n x t o q = (refl, over_none x.waits t j o)

-- where nothing was shown, nothing is open in the row, and what waits in the table waits in the list
abbrev Follows : Watch → Row → Waiting → Type 0
Follows y r t = y.shown ≡ 0 → (shown r t ≡ 0) × Over y.waits (waits r t)

-- of words of 24 bits
watch_follows : (ks : List Kind) (parity : Bool) (f : ℕ → ℕ) (ss : List Slot) → All (λ (s : Slot). (1 ≤ s.0) × (s.1 < 2 ^ 24)) ss → (x : Watch) (t : Waiting) → Over x.waits t
    → Follows (watch ks parity ss x) (roles_in ks parity (map (named f) ss)) t
unfolding watch roles_in shown waits
watch_follows ks parity f [] nil x t o = λ e. (refl, o)
watch_follows ks parity f (s ∷ ss) (cons n ns) x t o = λ e.
    let w : Role = role_in ks (part_of parity s.1) in
    let x' : Watch = watch_word s.0 w x in
    let l : InTable w = role_low (kind_on ks (bus_of parity s.1)) parity s.1 (bus_low parity s.1 n.1) in
    let a = word_over w s.0 (f s.0) l n.0 x t o (watch_shown ks parity ss x' e) in
    let b = watch_follows ks parity f ss ns x' (waited (f s.0) w t) a.1 e in
    (rw a.0 b.0, b.1)

earliest_all : (l : List ℕ) → earliest l ≡ 0 → (k : ℕ) → get_or l k 0 ≡ 0
unfolding earliest
earliest_all [] e k = refl
earliest_all (x ∷ l) e k = go (eqb x 0) refl (eqb (earliest l) 0) refl (ltb x (earliest l)) e (earliest_all l) k
  where
    go : (a : Bool) → eqb x 0 ≡ a → (b : Bool) → eqb (earliest l) 0 ≡ b → (d : Bool) → cond a (earliest l) (cond b x (cond d x (earliest l))) ≡ 0
        → (earliest l ≡ 0 → (k : ℕ) → get_or l k 0 ≡ 0) → (k : ℕ) → get_or (x ∷ l) k 0 ≡ 0
    go true f b h d e ih zero = eqb-true x 0 f
    go true f b h d e ih (suc k) = ih e k
    go false f true h d e ih k = absurd (eqb-false x 0 f e)
    go false f false h true e ih k = absurd (eqb-false x 0 f e)
    go false f false h false e ih k = absurd (eqb-false (earliest l) 0 h e)

numbers_some : (p : Plan) (v : List ℕ) (g : ℕ) → Bytes v → All (λ (s : Slot). (1 ≤ s.0) × (s.1 < 2 ^ 24)) (slots_of p v g)
unfolding slots_of
numbers_some p v g b =
    all_list (λ (s : Slot). (1 ≤ s.0) × (s.1 < 2 ^ 24)) (λ s. (g * 2048 + suc s, word_at v (place_of p s))) (slots p) (lead p)
    (λ i l. (omega arith, word_at_low v b (place_of p (lead p + i))))

shown_both : (r s : Row) (t : Waiting) → shown r t ≡ 0 → shown s (waits r t) ≡ 0 → shown (r ++ s) t ≡ 0
unfolding shown waits
shown_both [] s t a b = b
shown_both (x ∷ r) s t a b =
    let e = then_zero (shows_by x.1 t) (shown r (waited x.0 x.1 t)) a in
    rw e.0 (shown_both r s (waited x.0 x.1 t) e.1 b)
  where
    then_zero : (a b : ℕ) → or_then a b ≡ 0 → (a ≡ 0) × (b ≡ 0)
    then_zero a b e = first_zero a b e

abbrev Silent : Got → Tale → Row → Waiting → Type 0
Silent (stopped k q second) a r t = Unit {0}
Silent (got is) a r t = a.number ≡ 0 → (shown r t ≡ 0) × ((k : ℕ) → waits r t k ≡ 0)

module _ (p : Plan) (ks : List Kind) (ok : Legal p ks) (c : List ℕ) (bytes : Bytes c) where
  abbrev row : ℕ → ℕ → Row
  row n g = roles_in ks p.parity (slots_from p c n g)

  closing_silent : (x : Carry) (t : Waiting) → Over x.waits t → (r : Got) → Silent r (ending (closing_items p x r)) [] t
  unfolding shown waits
  closing_silent x t o (stopped k q second) = tt
  closing_silent x t o (got is) = go (eqb (earliest x.waits) 0) refl
    where
      go : (b : Bool) → eqb (earliest x.waits) 0 ≡ b → (ending (cond b (got is) (stopped 15 (stored_of p (earliest x.waits)) 0))).number ≡ 0 → (◌≡◌ {A = ℕ} 0 0) × ((k : ℕ) → t k ≡ 0)
      go true e z = (refl, λ k. o.each k (earliest_all x.waits (eqb-true (earliest x.waits) 0 e) k))
      go false e z = absurd (omega (arith, z))

  silent : length c % group_size p ≡ 0 → (n g : ℕ) (x : Carry) (t : Waiting) → Over x.waits t
      → Silent (read_groups p ks c n g x.held x.since) (stream_groups p ks c n g x) (row n g) t
  unfolding read_groups stream_groups closing take_group slots_from roles_in
  silent whole zero g x t o = rw whole (closing_silent x t o (finish x.held x.since))
  silent whole (suc n) g x t o =
      let v : List ℕ = group_bytes p c g in
      let x₀ : Watch = record { waits = x.waits; shown = 0 } in
      let ss : List Slot = slots_of p v g in
      let here : Row = roles_in ks p.parity (slots_at p v (g * group_words p)) in
      let cut : roles_in ks p.parity (group_slots p c (g * group_words p) ++ slots_from p c n (g + 1)) ≡ roles_in ks p.parity (group_slots p c (g * group_words p)) ++ row n (g + 1) = row_append ks p.parity (group_slots p c (g * group_words p)) (slots_from p c n (g + 1)) in
      let moved : group_slots p c (g * group_words p) ≡ map (named (stored_of p)) ss = numbers_moved p ks ok c g in
      let same : slots_at p v (g * group_words p) ≡ map (named (stored_of p)) ss = sym (slots_moved p ks ok c g) ∙ moved in
      let b : Bytes v = all_take (group_size p) (all_drop (g * group_size p) bytes) in
      let f : Follows (watch ks p.parity ss x₀) here t = rw same (watch_follows ks p.parity (stored_of p) ss (numbers_some p v g b) x₀ t o) in
      rw (cut, group_moved p ks ok c g, slots_moved p ks ok c g)
      (go (moved_fault (g * group_words p) (group_fault p v 0)) (run ks p.parity (slots_at p v (g * group_words p)) x.held x.since) (watch ks p.parity ss x₀) here f
      (λ x' t' o'. silent whole n (g + 1) x' t' o'))
    where
      go : (f : Fault) (r : Ran) (y : Watch) (h₀ : Row) → Follows y h₀ t
          → ((x' : Carry) (t' : Waiting) → Over x'.waits t' → Silent (read_groups p ks c n (g + 1) x'.held x'.since) (stream_groups p ks c n (g + 1) x') (row n (g + 1)) t')
          → Silent (if_sound f (onward r (λ h' at'. read_groups p ks c n (g + 1) h' at'))) (told (soundly f (watched p r y)) (λ x'. stream_groups p ks c n (g + 1) x')) (h₀ ++ row n (g + 1)) t
      go (found k q) r y h₀ f ih = tt
      go none (bad_at k second) y h₀ f ih = tt
      go none (ran is h k) y h₀ f ih = rest (read_groups p ks c n (g + 1) h k) (eqb y.shown 0) refl (λ t' o'. ih (record { held = h; since = k; waits = y.waits }) t' o')
        where
          x'' : Carry
          x'' = record { held = h; since = k; waits = y.waits }

          rest : (r : Got) (b : Bool) → eqb y.shown 0 ≡ b → ((t' : Waiting) → Over y.waits t' → Silent r (stream_groups p ks c n (g + 1) x'') (row n (g + 1)) t')
              → Silent (before is r) (told (cond b (brings is x'') (stops 15 (stored_of p y.shown) 0)) (λ x'. stream_groups p ks c n (g + 1) x')) (h₀ ++ row n (g + 1)) t
          rest (stopped m q second) b e ih = tt
          rest (got js) false e ih = λ z. absurd (omega (arith, z))
          rest (got js) true e ih = λ z.
              let a = f (eqb-true y.shown 0 e) in
              let i = ih (waits h₀ t) a.1 z in
              (shown_both h₀ (row n (g + 1)) t a.0 i.0, λ k. ap (λ (w : Waiting). w k) (waits_append h₀ (row n (g + 1)) t) ∙ i.1 k)

start_over : Over start.waits (λ k. 0)
start_over = record { size = refl; each = λ k z. refl }

-- ---- the theorems

got_number : {size g n : ℕ} {is : List Item} {t : Tale} {A : Type 0} → Agrees size g n (got is) t → (t.number ≡ 0 → A) → (t.number ≡ 15 → A) → A
got_number (accepts a b c d e) f g = f c
got_number (shown_open e l) f g = g e

stopped_number : {size g n k q second : ℕ} {t : Tale} → Agrees size g n (stopped k q second) t → k ≡ 15 → t.number ≡ 15
stopped_number (refuses_too a b c) e = a ∙ e
stopped_number (shown_open e l) z = e

module _ (p : Plan) (ks : List Kind) (c : List ℕ) (bytes : Bytes c) where
  abbrev n : ℕ
  n = length c / group_size p

  -- a stream that accepts leaves no notice open
  whole_silent : Legal p ks → length c % group_size p ≡ 0 → (is : List Item) → read_groups p ks c n 0 Nothing 0 ≡ got is → (stream_groups p ks c n 0 start).number ≡ 0 → open_in p c n is ≡ none
  whole_silent ok whole is e z =
      let s : Silent (got is) (stream_groups p ks c n 0 start) (roles_in ks p.parity (slots_from p c n 0)) (λ k. 0) = rw e at (silent p ks ok c bytes whole n 0 start (λ k. 0) start_over) in
      let a = s z in
      let o : open_row (roles_in ks p.parity (slots_from p c n 0)) ≡ 0 = (open_or_waits (roles_in ks p.parity (slots_from p c n 0))).1 (record { none_shown = a.0; none_waits = a.1 }) in
      row_in_none p ks c n is (free p ok.shape) bytes e o

  abbrev Fifteen : Reading → Type 0
  Fifteen (gives log times) = Unit {0}
  Fifteen (refuses k q second) = k ≡ 15 → (streamed p ks c).number ≡ 15

  room_fifteen : (log_room time_room : ℕ) (log : List ℕ) → Fifteen (roomed p c n log_room time_room log)
  room_fifteen log_room time_room log = go (leb (length log) 32768 && leb (length log) log_room) (leb (times_needed p n) time_room)
    where
      go : (a b : Bool) → Fifteen (cond a (cond b (gives log (list (λ g. group_time p c (g * group_words p)) 0 (times_needed p n))) (refuses 7 (times_needed p n) 0)) (refuses 6 (length log) 0))
      go true true = tt
      go true false = λ e. absurd (omega (arith, e))
      go false b = λ e. absurd (omega (arith, e))

  settled_fifteen : Legal p ks → length c % group_size p ≡ 0 → (log_room time_room : ℕ) (r : Got) → read_groups p ks c n 0 Nothing 0 ≡ r → Fifteen (settled p c n log_room time_room false r)
  unfolding streamed
  settled_fifteen ok whole log_room time_room (stopped k q second) e = λ z. stopped_number (rw e at (whole_agrees p ks c ok whole)) z
  settled_fifteen ok whole log_room time_room (got is) e = go (open_in p c n is) refl
    where
      go : (f : Fault) → open_in p c n is ≡ f → Fifteen (unless_found f (roomed p c n log_room time_room (log_of is)))
      go none o = room_fifteen log_room time_room (log_of is)
      go (found k q) o = λ z. got_number (rw e at (whole_agrees p ks c ok whole)) (λ m. no_found (sym o ∙ whole_silent ok whole is e m)) (λ m. m)
        where
          no_found : {A : Type 0} → found k q ≡ none → A
          no_found e = let z : ◌≡◌ {A = ℕ} 0 1 = cc in absurd (omega arith)

  reading_fifteen : (log_room time_room : ℕ) → Fifteen (reading false p ks c log_room time_room)
  unfolding reading
  reading_fifteen log_room time_room = go (legal p ks) refl (leb (length c) 1048576 && eqb (length c % group_size p) 0) refl
    where
      go : (a : Bool) → legal p ks ≡ a → (b : Bool) → (leb (length c) 1048576 && eqb (length c % group_size p) 0) ≡ b
          → Fifteen (cond a (cond b (settled p c n log_room time_room false (read_groups p ks c n 0 Nothing 0)) (refuses 8 (length c) 0)) (refuses 1 0 0))
      go true l true e = settled_fifteen (legal_is p ks l) (eqb-true (length c % group_size p) 0 (and_true (leb (length c) 1048576) (eqb (length c % group_size p) 0) e).1) log_room time_room (read_groups p ks c n 0 Nothing 0) refl
      go true l false e = λ z. absurd (omega (arith, z))
      go false l b e = λ z. absurd (omega (arith, z))

-- where plain reading gives 15, the stream does, perhaps elsewhere
pub stream_open : (p : Plan) (ks : List Kind) (c : List ℕ) (log_room time_room q second : ℕ) → length ks ≡ 16 → Bytes c → reading false p ks c log_room time_room ≡ refuses 15 q second
    → (streamed p ks c).number ≡ 15
stream_open p ks c log_room time_room q second sixteen bytes e = (rw e at (reading_fifteen p ks c bytes log_room time_room)) refl
