-- The stream and the plain reading (document 02, K4): "plain reading's log and times where it accepts, its number and place where it
-- refuses by 9 to 13, unless a 15 was shown first".
use Prim.Native.Nat.{ℕ, zero, suc, ◌+◌, ◌*◌, ◌/◌, ◌%◌, ◌^◌, ◌-◌, ◌≤◌, ◌<◌}
use native.Mathlib.Omega.{arith}
use Rattle.std.proofs.Math.Decide.{dec_lt}
use Rattle.std.specs.Prelude.{Bool, cond, ◌&&◌, ◌||◌, not, ◌≡◌, ◌⊎◌, length, get_or, set, replicate, ltb, leb}
use Rattle.std.proofs.Math.Bool.{true, false}
use Rattle.std.proofs.Math.Path.{refl, ap}
use Rattle.std.proofs.Common.{sym, ◌∙◌, ap₂, inl, inr, get_or-set_other, eq-eqb, ne_eqb, eqb-true, leb-true}
use mathlib.Core.List.{List, [], ◌∷◌, ◌++◌, flat_map, map, append_assoc, append-nil}
use Rattle.std.proofs.Math.Dec.{eqb}
use Rattle.std.proofs.lemmas.Bool.{eqb-false}
use Rattle.format.specs.Word.{bus_of, label_of, info_of, is_fill, part, Part, part_of}
use Rattle.format.specs.Plan.{legal, group_words, kind_on, times_needed, slots, stored_at}
use Rattle.format.specs.Lists.{All, nil, cons, list, Bytes}
use Rattle.format.specs.Lawful.{Lawful}
use Rattle.format.specs.Log.{log_of}
use Rattle.format.specs.Bits.{bits_of, packed}
use Rattle.format.specs.Item.{item_bits, channel_of}
use Rattle.format.specs.Notices.{is_word_of, is_notice_of, unanswered, is_open, first_open, open_fault, first_word_of}
use Rattle.format.specs.Reader.{Slot, places_of, Fed, bad, fed, feed, Ran, bad_at, ran, run, join, more, since, with_tag, is_high, counted}
use Rattle.format.specs.Group.{Fault, none, found, unless, group_fault, group_time, group_slots}
use Rattle.format.specs.Read.{Got, got, stopped, finish, onward, before, if_sound, read_groups, Reading, gives, refuses, reading, settled, roomed, unless_found, open_in, slots_from}
use Rattle.stream_rules.specs.Stream.{whole_bytes, stored_of, slots_of, slots_at, moved_fault, Watch, answered_on, noticed_on, watch_word, watch, earliest, lesser, Carry, Brought, brings, stops, watched, soundly, take_group, unless_waits, closing_items, closing, closing_at, start, group_size, group_bytes, Tale, ending, further, told, stream_groups, tale_log, tale_times, Streamed, handed, streamed}
use Rattle.notices.specs.Table.{or_first}
use Rattle.format.specs.Laws.Tests.{clash, and_true, or_false}
use Rattle.format.specs.Laws.Notices.{Answered, none_answered, answered_none}
use Rattle.notices.specs.Roles.{Role, neither, notice, word, Row, lacked, open_row, role_on, role_in, roles_in}
use Rattle.stream_rules.specs.Laws.Stream.Waiting.{Waiting, put, waited, shows_by, or_then, waits, shown, Quiet, open_or_waits}
use Rattle.format.proofs.Laws.Accepted.Exact.{slots_named}
use Rattle.notices.specs.Laws.Capture.{placed_up, told15, told_found, open_named, open_in_lem}
use Rattle.format.specs.Laws.Legal.{Legal, legal_is}
use Rattle.format.specs.Laws.Limits.{long, room, free}
use Rattle.capture_rules.specs.Laws.Split.Faults.{FaultIn, fault_in}
use Rattle.format.specs.Laws.Lists.{list_same}
use Rattle.format.proofs.Laws.Reader.Forth.{HeldOk, Good, feed_good, tagged_lawful}
use Rattle.format.specs.Laws.Reader.Held.{held_parts}
use Rattle.format.specs.Laws.Accepted.Given.{ReadOf, ReadBy, read_by}
use Rattle.stream_rules.specs.Laws.Stream.Fits.{RanOk, run_ok}
use Rattle.stream_rules.specs.Laws.Stream.Moved.{group_moved, time_moved, slots_moved, numbers_moved}
use Rattle.format.specs.declared.Kind.{Kind}
use Rattle.format.specs.declared.Kind.TheVariants.{Unused, Mil1553, Arinc429}
use Rattle.format.specs.declared.Item.{Item}
use Rattle.format.specs.declared.Item.TheVariants.{Command, Status, Data, BusError, Arinc, Notice, User, Overflow}
use Rattle.format.specs.declared.Tag.TheVariants.{Untagged}
use Rattle.format.specs.declared.Base.{Base}
use Rattle.format.specs.declared.Base.TheVariants as base
use Rattle.format.specs.declared.Held.{Held}
use Rattle.format.specs.declared.Held.TheVariants.{Nothing, Taggable, Half, TagHigh, TagLow, Answering}
use Rattle.format.specs.declared.Plan.{Plan}
use Rattle.format.proofs.Laws.Reader.Named.{renamed, run_named, named}
use Rattle.format.specs.Laws.Reader.Slots.{words_in}

-- what stops a reading of groups whose first stored word is `low` stands there or behind it, or is a 13
abbrev pub Later : ℕ → Got → Type 0
Later low (got is) = Unit {0}
Later low (stopped k q second) = (low ≤ q) ⊎ (k ≡ 13)

later_before : (low : ℕ) (is : List Item) (r : Got) → Later low r → Later low (before is r)
later_before low is (got js) l = tt
later_before low is (stopped k q second) l = l

later_less : (low lower : ℕ) (r : Got) → lower ≤ low → Later low r → Later lower r
later_less low lower (got is) h l = tt
later_less low lower (stopped k q second) h (inl a) = inl (omega (arith, h, a))
later_less low lower (stopped k q second) h (inr e) = inr e

finish_later : (low : ℕ) (h : Held) (q : ℕ) → Later low (finish h q)
finish_later low Nothing q = tt
finish_later low (Taggable x) q = tt
finish_later low (Half bus c high) q = inr refl
finish_later low (TagHigh x high) q = inr refl
finish_later low (TagLow x high low') q = inr refl
finish_later low (Answering bus r) q = inr refl

groups_later : (p : Plan) (ks : List Kind) → Legal p ks → (c : List ℕ) (n g : ℕ) (h : Held) (at : ℕ) → Later (g * group_words p) (read_groups p ks c n g h at)
unfolding read_groups
groups_later p ks ok c zero g h at = finish_later (g * group_words p) h at
groups_later p ks ok c (suc n) g h at =
    go (group_fault p c (g * group_words p)) (fault_in p c (g * group_words p) (long p ok.shape) ok.shape.tracks_least (room p ok.shape)) (run ks p.parity (group_slots p c (g * group_words p)) h at)
    (λ h' at'. groups_later p ks ok c n (g + 1) h' at')
  where
    go : (f : Fault) → FaultIn (g * group_words p) (g * group_words p + group_words p) f → (r : Ran) → ((h' : Held) (at' : ℕ) → Later ((g + 1) * group_words p) (read_groups p ks c n (g + 1) h' at'))
        → Later (g * group_words p) (if_sound f (onward r (λ h' at'. read_groups p ks c n (g + 1) h' at')))
    go (found k q) i r ih = inl i.2.over
    go none i (bad_at q second) ih = inr refl
    go none i (ran is h' at') ih =
        later_before (g * group_words p) is (read_groups p ks c n (g + 1) h' at')
        (later_less ((g + 1) * group_words p) (g * group_words p) (read_groups p ks c n (g + 1) h' at') (omega arith) (ih h' at'))

-- what n groups from g on bring to the plain reading before 15, and to the stream; a 15 comes before what stops the plain reading: the
-- group that shows it, the one behind the groups taken, ends at or before that place, or that is a 13
pub data Agrees (size g n : ℕ) : Got → Tale → Type 0 where
  accepts : {is : List Item} {t : Tale} → t.items ≡ is → t.groups ≡ n → t.number ≡ 0 → t.place ≡ 0 → t.second ≡ 0 → Agrees size g n (got is) t
  refuses_too : {k q second : ℕ} {t : Tale} → t.number ≡ k → t.place ≡ q → t.second ≡ second → Agrees size g n (stopped k q second) t
  shown_open : {r : Got} {t : Tale} → t.number ≡ 15 → Later ((g + t.groups + 1) * size) r → Agrees size g n r t

further_agrees : (size g n : ℕ) (is : List Item) (r : Got) (t : Tale) → Agrees size (g + 1) n r t → Agrees size g (suc n) (before is r) (further is t)
further_agrees size g n is (got js) t (accepts a b c d e) = accepts (ap (λ (l : List Item). is ++ l) a) (ap suc b) c d e
further_agrees size g n is (got js) t (shown_open e l) = shown_open {r = got (is ++ js)} {t = further is t} e tt
further_agrees size g n is (stopped k q second) t (refuses_too a b c) = refuses_too a b c
further_agrees size g n is (stopped k q second) t (shown_open e l) =
    let z : g + 1 + t.groups + 1 ≡ g + suc t.groups + 1 = omega arith in
    shown_open {r = stopped k q second} {t = further is t} e (rw (← z) l)

module _ (p : Plan) (ks : List Kind) (ok : Legal p ks) (c : List ℕ) where
  closing_agrees : (g : ℕ) (x : Carry) (r : Got) → Agrees (group_words p) g 0 r (ending (closing_items p x r))
  closing_agrees g x (stopped k q second) = refuses_too refl refl refl
  closing_agrees g x (got is) = go (eqb (earliest x.waits) 0)
    where
      go : (b : Bool) → Agrees (group_words p) g 0 (got is) (ending (cond b (got is) (stopped 15 (stored_of p (earliest x.waits)) 0)))
      go true = accepts refl refl refl refl refl
      go false = shown_open {r = got is} refl tt

  pub agrees : length c % group_size p ≡ 0 → (n g : ℕ) (x : Carry) → Agrees (group_words p) g n (read_groups p ks c n g x.held x.since) (stream_groups p ks c n g x)
  unfolding read_groups stream_groups closing take_group
  agrees whole zero g x = rw whole (closing_agrees g x (finish x.held x.since))
  agrees whole (suc n) g x =
      let v : List ℕ = group_bytes p c g in
      rw (group_moved p ks ok c g, slots_moved p ks ok c g)
      (go (moved_fault (g * group_words p) (group_fault p v 0)) (run ks p.parity (slots_at p v (g * group_words p)) x.held x.since)
      (watch ks p.parity (slots_of p v g) (record { waits = x.waits; shown = 0 })) (λ x'. agrees whole n (g + 1) x'))
    where
      go : (f : Fault) (r : Ran) (y : Watch)
          → ((x' : Carry) → Agrees (group_words p) (g + 1) n (read_groups p ks c n (g + 1) x'.held x'.since) (stream_groups p ks c n (g + 1) x'))
          → Agrees (group_words p) g (suc n) (if_sound f (onward r (λ h' at'. read_groups p ks c n (g + 1) h' at'))) (told (soundly f (watched p r y)) (λ x'. stream_groups p ks c n (g + 1) x'))
      go (found k q) r y ih = refuses_too refl refl refl
      go none (bad_at k second) y ih = refuses_too refl refl refl
      go none (ran is h k) y ih = two (eqb y.shown 0)
        where
          here_later : (r : Got) → Later ((g + 1) * group_words p) r → Later ((g + 0 + 1) * group_words p) (before is r)
          here_later r l = let z : g + 0 + 1 ≡ g + 1 = omega arith in rw z (later_before ((g + 1) * group_words p) is r l)

          two : (b : Bool) → Agrees (group_words p) g (suc n) (before is (read_groups p ks c n (g + 1) h k))
              (told (cond b (brings is (record { held = h; since = k; waits = y.waits })) (stops 15 (stored_of p y.shown) 0)) (λ x'. stream_groups p ks c n (g + 1) x'))
          two true =
              further_agrees (group_words p) g n is (read_groups p ks c n (g + 1) h k) (stream_groups p ks c n (g + 1) (record { held = h; since = k; waits = y.waits })) (ih (record { held = h; since = k; waits = y.waits }))
          two false = shown_open {r = before is (read_groups p ks c n (g + 1) h k)} refl (here_later (read_groups p ks c n (g + 1) h k) (groups_later p ks ok c n (g + 1) h k))

-- ---- where no notice is open, the stream shows none

set_none : (l : List ℕ) (k : ℕ) → get_or (set l k 0) k 0 ≡ 0
set_none [] k = refl
set_none (x ∷ l) zero = refl
set_none (x ∷ l) (suc k) = set_none l k

-- where nothing waits in the table, nothing waits in the list
abbrev Under : List ℕ → Waiting → Type 0
Under l t = (k : ℕ) → t k ≡ 0 → get_or l k 0 ≡ 0

under_set : (l : List ℕ) (t : Waiting) (j u v : ℕ) → (v ≡ 0 → u ≡ 0) → Under l t → Under (set l j u) (put t j v)
under_set l t j u v h o k = go (eqb j k) refl
  where
    zeroed : (u : ℕ) → u ≡ 0 → get_or (set l j u) j 0 ≡ 0
    zeroed u e = rw e (set_none l j)

    go : (b : Bool) → eqb j k ≡ b → cond b v (t k) ≡ 0 → get_or (set l j u) k 0 ≡ 0
    go true e z = let i : j ≡ k = eqb-true j k e in rw (← i) (zeroed u (h z))
    go false e z = get_or-set_other l j k u 0 (λ i. eqb-false j k e (sym i)) ∙ o k z

either_zero : (a b : ℕ) → or_then a b ≡ 0 → (a ≡ 0) × (b ≡ 0)
either_zero a b e = go (eqb a 0) refl e
  where
    go : (t : Bool) → eqb a 0 ≡ t → cond t b a ≡ 0 → (a ≡ 0) × (b ≡ 0)
    go true h e = (eqb-true a 0 h, e)
    go false h e = absurd (eqb-false a 0 h e)

-- the list and what was shown, under the table
record Below (x : Watch) (t : Waiting) : Type 0 where
  under : Under x.waits t
  quiet : x.shown ≡ 0

word_below : (w : Role) (here place rest : ℕ) (x : Watch) (t : Waiting) → Below x t → or_then (shows_by w t) rest ≡ 0
    → Below (watch_word here w x) (waited place w t) × (rest ≡ 0)
word_below neither here place rest x t o e = (o, e)
word_below (notice j) here place rest x t o e =
    let z = either_zero (t j) rest e in
    let n : get_or x.waits j 0 ≡ 0 = o.under j z.0 in
    (record { under = under_set x.waits t j here (place + 1) (λ y. absurd (omega (arith, y))) o.under; quiet = rw o.quiet n }, z.1)
word_below (word j) here place rest x t o e = (record { under = under_set x.waits t j 0 0 (λ z. refl) o.under; quiet = o.quiet }, e)

watch_below : (ks : List Kind) (parity : Bool) (f : ℕ → ℕ) (ss : List Slot) (x : Watch) (t : Waiting) → Below x t
    → shown (roles_in ks parity (map (named f) ss)) t ≡ 0 → Below (watch ks parity ss x) (waits (roles_in ks parity (map (named f) ss)) t)
unfolding watch roles_in shown waits
watch_below ks parity f [] x t o e = o
watch_below ks parity f (s ∷ ss) x t o e =
    let w : Role = role_in ks (part_of parity s.1) in
    let a = word_below w s.0 (f s.0) (shown (roles_in ks parity (map (named f) ss)) (waited (f s.0) w t)) x t o e in
    watch_below ks parity f ss (watch_word s.0 w x) (waited (f s.0) w t) a.0 a.1

-- rows one after the other
pub row_append : (ks : List Kind) (parity : Bool) (ss ts : List Slot) → roles_in ks parity (ss ++ ts) ≡ roles_in ks parity ss ++ roles_in ks parity ts
unfolding roles_in
row_append ks parity [] ts = refl
row_append ks parity (s ∷ ss) ts = ap (λ (l : Row). (s.0, role_in ks (part_of parity s.1)) ∷ l) (row_append ks parity ss ts)

pub waits_append : (r s : Row) (t : Waiting) → waits (r ++ s) t ≡ waits s (waits r t)
unfolding waits
waits_append [] s t = refl
waits_append (x ∷ r) s t = waits_append r s (waited x.0 x.1 t)

shown_append : (r s : Row) (t : Waiting) → shown (r ++ s) t ≡ 0 → (shown r t ≡ 0) × (shown s (waits r t) ≡ 0)
unfolding shown waits
shown_append [] s t e = (refl, e)
shown_append (x ∷ r) s t e =
    let a = either_zero (shows_by x.1 t) (shown (r ++ s) (waited x.0 x.1 t)) e in
    let b = shown_append r s (waited x.0 x.1 t) a.1 in
    (rw a.0 b.0, b.1)

earliest_none : (l : List ℕ) → ((k : ℕ) → get_or l k 0 ≡ 0) → earliest l ≡ 0
unfolding earliest
earliest_none [] h = refl
earliest_none (x ∷ l) h = rw (h 0, earliest_none l (λ k. h (suc k)))

-- from what is carried, the stream shows no open notice
abbrev Unshown : Got → Tale → Type 0
Unshown (got is) t = t.number ≡ 0
Unshown (stopped k q second) t = Unit {0}

module _ (p : Plan) (ks : List Kind) (ok : Legal p ks) (c : List ℕ) where
  abbrev row : ℕ → ℕ → Row
  row n g = roles_in ks p.parity (slots_from p c n g)

  closing_unshown : (x : Carry) → earliest x.waits ≡ 0 → (r : Got) → Unshown r (ending (closing_items p x r))
  closing_unshown x e (stopped k q second) = tt
  closing_unshown x e (got is) = rw e refl

  unshown : length c % group_size p ≡ 0 → (n g : ℕ) (x : Carry) (t : Waiting) → Under x.waits t → shown (row n g) t ≡ 0 → ((k : ℕ) → waits (row n g) t k ≡ 0)
      → Unshown (read_groups p ks c n g x.held x.since) (stream_groups p ks c n g x)
  unfolding read_groups stream_groups closing take_group slots_from roles_in waits
  unshown whole zero g x t o e z = rw whole (closing_unshown x (earliest_none x.waits (λ k. o k (z k))) (finish x.held x.since))
  unshown whole (suc n) g x t o e z =
      let v : List ℕ = group_bytes p c g in
      let x₀ : Watch = record { waits = x.waits; shown = 0 } in
      let ss : List Slot = slots_of p v g in
      let here : Row = roles_in ks p.parity (group_slots p c (g * group_words p)) in
      let cut : row (suc n) g ≡ here ++ row n (g + 1) = row_append ks p.parity (group_slots p c (g * group_words p)) (slots_from p c n (g + 1)) in
      let parts = shown_append here (row n (g + 1)) t (rw cut at e) in
      let moved : group_slots p c (g * group_words p) ≡ map (named (stored_of p)) ss = numbers_moved p ks ok c g in
      let b : Below (watch ks p.parity ss x₀) (waits here t) =
      rw (← moved) at (watch_below ks p.parity (stored_of p) ss x₀ t (record { under = o; quiet = refl }) (rw moved at parts.0)) in
      let after : (k : ℕ) → waits (row n (g + 1)) (waits here t) k ≡ 0 = λ k. ap (λ (w : Waiting). w k) (sym (waits_append here (row n (g + 1)) t)) ∙ (rw cut at (z k)) in
      rw (group_moved p ks ok c g, slots_moved p ks ok c g)
      (go (moved_fault (g * group_words p) (group_fault p v 0)) (run ks p.parity (slots_at p v (g * group_words p)) x.held x.since) (watch ks p.parity ss x₀) (waits here t) b
      (λ x' o'. unshown whole n (g + 1) x' (waits here t) o' parts.1 after))
    where
      go : (f : Fault) (r : Ran) (y : Watch) (t' : Waiting) → Below y t'
          → ((x' : Carry) → Under x'.waits t' → Unshown (read_groups p ks c n (g + 1) x'.held x'.since) (stream_groups p ks c n (g + 1) x'))
          → Unshown (if_sound f (onward r (λ h' at'. read_groups p ks c n (g + 1) h' at'))) (told (soundly f (watched p r y)) (λ x'. stream_groups p ks c n (g + 1) x'))
      go (found k q) r y t' b ih = tt
      go none (bad_at k second) y t' b ih = tt
      go none (ran is h k) y t' b ih = rw (eq-eqb y.shown 0 b.quiet) (rest (read_groups p ks c n (g + 1) h k) (ih (record { held = h; since = k; waits = y.waits }) b.under))
        where
          rest : (r : Got) → Unshown r (stream_groups p ks c n (g + 1) (record { held = h; since = k; waits = y.waits }))
              → Unshown (before is r) (further is (stream_groups p ks c n (g + 1) (record { held = h; since = k; waits = y.waits })))
          rest (stopped m q second) z = tt
          rest (got js) z = z

-- ---- the theorems

start_under : Under start.waits (λ k. 0)
start_under k z = none_at 64 k
  where
    none_at : (n k : ℕ) → ◌≡◌ {A = ℕ} (get_or (replicate n 0) k 0) 0
    none_at zero k = refl
    none_at (suc n) zero = refl
    none_at (suc n) (suc k) = none_at n k

-- a capture whose items have no open notice has none in its row, and the other way round
module _ (p : Plan) (ks : List Kind) (c : List ℕ) (n : ℕ) (is : List Item) (some : 1 ≤ slots p) (bytes : Bytes c) (e : read_groups p ks c n 0 Nothing 0 ≡ got is) where
  abbrev counts : ℕ
  counts = open_row (roles_in ks p.parity (counted 0 (words_in (slots_from p c n 0))))

  row_counts : open_row (roles_in ks p.parity (slots_from p c n 0)) ≡ placed_up (stored_at p) counts
  row_counts =
      let z : 0 * slots p ≡ 0 = omega arith in
      ap (λ (ss : List Slot). open_row (roles_in ks p.parity ss)) (rw z at (slots_named p c n 0 some)) ∙ open_named (stored_at p) ks p.parity (counted 0 (words_in (slots_from p c n 0)))

  pub none_in_row : open_in p c n is ≡ none → open_row (roles_in ks p.parity (slots_from p c n 0)) ≡ 0
  none_in_row f = row_counts ∙ go (eqb counts 0) refl
    where
      no_found : {A : Type 0} {k q : ℕ} → found k q ≡ none → A
      no_found i = let z : ◌≡◌ {A = ℕ} 0 1 = cc in absurd (omega arith)

      go : (b : Bool) → eqb counts 0 ≡ b → placed_up (stored_at p) counts ≡ 0
      go true t = rw (eqb-true counts 0 t)
      go false t = no_found (sym (told_found (stored_at p) counts (eqb-false counts 0 t)) ∙ open_in_lem p ks c n is some bytes e ∙ f)

  pub row_in_none : open_row (roles_in ks p.parity (slots_from p c n 0)) ≡ 0 → open_in p c n is ≡ none
  row_in_none f = sym (open_in_lem p ks c n is some bytes e) ∙ ap told15 (sym row_counts ∙ f)

same_end : {size g : ℕ} (t : Tale) (n : ℕ) (is : List Item) → Agrees size g n (got is) t → t.number ≡ 0 → (t.items ≡ is) × (t.groups ≡ n) × (t.place ≡ 0) × (t.second ≡ 0)
same_end t n is (accepts a b c d e) z = (a, b, d, e)
same_end t n is (shown_open e l) z = absurd (omega (arith, e, z))

module _ (p : Plan) (ks : List Kind) (c : List ℕ) where
  abbrev n : ℕ
  n = length c / group_size p

  abbrev tale : Tale
  tale = stream_groups p ks c (length c / group_size p) 0 start

  pub whole_agrees : Legal p ks → length c % group_size p ≡ 0 → Agrees (group_words p) 0 n (read_groups p ks c n 0 Nothing 0) tale
  whole_agrees ok whole = agrees p ks ok c whole n 0 start

  whole_unshown : Legal p ks → Bytes c → length c % group_size p ≡ 0 → (is : List Item) → read_groups p ks c n 0 Nothing 0 ≡ got is → Answered is → tale.number ≡ 0
  whole_unshown ok bytes whole is e a =
      let o : open_row (roles_in ks p.parity (slots_from p c n 0)) ≡ 0 = none_in_row p ks c n is (free p ok.shape) bytes e (answered_none (first_word_of (places_of (slots_from p c n 0)) is) is a) in
      let q = (open_or_waits (roles_in ks p.parity (slots_from p c n 0))).0 o in
      rw e at (unshown p ks ok c whole n 0 start (λ k. 0) start_under q.none_shown q.none_waits)

  times_same : Legal p ks → (m k : ℕ) → m ≤ k → list (λ i. group_time p (group_bytes p c i) 0) 0 m ≡ list (λ g. group_time p c (g * group_words p)) 0 m
  times_same ok m k h = list_same (λ i. group_time p (group_bytes p c i) 0) (λ g. group_time p c (g * group_words p)) m 0 0 (λ i l. sym (time_moved p ks ok c (0 + i)))

same_streamed : (a b s t : List ℕ) (m n q r u v : ℕ) → a ≡ b → s ≡ t → m ≡ n → q ≡ r → u ≡ v
    → ◌≡◌ {A = Streamed} (record { log = a; times = s; number = m; place = q; second = u }) (record { log = b; times = t; number = n; place = r; second = v })
same_streamed a b s t m n q r u v e f g h i = rw (e, f, g, h, i)

-- "plain reading's log and times where it accepts"
pub stream_accepts : (p : Plan) (ks : List Kind) (c log times : List ℕ) (log_room time_room : ℕ) → Bytes c → reading false p ks c log_room time_room ≡ gives log times
    → streamed p ks c ≡ record { log = log; times = times; number = 0; place = 0; second = 0 }
unfolding streamed log_of
stream_accepts p ks c log times log_room time_room bytes e = go (rw e at (read_by false p ks c log_room time_room))
  where
    t : Tale
    t = stream_groups p ks c (length c / group_size p) 0 start

    go : ReadOf false p ks c log times → handed p c (stream_groups p ks c (length c / group_size p) 0 start) ≡ record { log = log; times = times; number = 0; place = 0; second = 0 }
    go given =
        let ok = legal_is p ks given.lawful in
        let whole : length c % group_size p ≡ 0 = given.evenly in
        let a : Agrees (group_words p) 0 (length c / group_size p) (got given.its) t = rw given.reads at (whole_agrees p ks c ok whole) in
        let z : t.number ≡ 0 = whole_unshown p ks c ok bytes whole given.its given.reads given.answered in
        let s = same_end t (length c / group_size p) given.its a z in
        let log' : tale_log [] t ≡ log = ap₂ (λ (m : ℕ) (is : List Item). cond (eqb m 0) (packed (flat_map item_bits is ++ bits_of 4 0)) (whole_bytes (flat_map item_bits is))) z s.0 ∙ given.logged in
        let times' : tale_times p c 0 t ≡ times = times_same p ks c ok (times_needed p t.groups) (times_needed p t.groups) (omega arith) ∙ ap (λ (m : ℕ). list (λ g. group_time p c (g * group_words p)) 0 (times_needed p m)) s.1 ∙ given.timed in
        same_streamed _ _ _ _ _ _ _ _ _ _ log' times' z s.2 s.3

-- ---- "its number and place where it refuses by 9 to 13, unless a 15 was shown first"; and its second place (K8)

-- the stream ends so; or in a 15 of a group that ends at or before that place, or before a 13
pub data Ends (p : Plan) (t : Tale) (k q second : ℕ) (s : Streamed) : Type 0 where
  alike : s.number ≡ k → s.place ≡ q → s.second ≡ second → Ends p t k q second s
  first15 : s.number ≡ 15 → ((t.groups + 1) * group_words p ≤ q) ⊎ (k ≡ 13) → Ends p t k q second s

abbrev Stops : Plan → List Kind → List ℕ → Reading → Type 0
Stops p ks c (gives log times) = Unit {0}
Stops p ks c (refuses k q second) = 9 ≤ k → k ≤ 13 → Ends p (stream_groups p ks c (length c / group_size p) 0 start) k q second (streamed p ks c)

module _ (p : Plan) (ks : List Kind) (c : List ℕ) (log_room time_room : ℕ) where
  stopped_ends : {k q second : ℕ} {t : Tale} → Agrees (group_words p) 0 (length c / group_size p) (stopped k q second) t → Ends p t k q second (handed p c t)
  stopped_ends (refuses_too a b c) = alike a b c
  stopped_ends {t = t} (shown_open e l) = let z : 0 + t.groups + 1 ≡ t.groups + 1 = omega arith in first15 e (rw z at l)

  room_stops : (log : List ℕ) → Stops p ks c (roomed p c (length c / group_size p) log_room time_room log)
  room_stops log = go (leb (length log) 32768 && leb (length log) log_room) (leb (times_needed p (length c / group_size p)) time_room)
    where
      go : (a b : Bool) → Stops p ks c (cond a (cond b (gives log (list (λ g. group_time p c (g * group_words p)) 0 (times_needed p (length c / group_size p)))) (refuses 7 (times_needed p (length c / group_size p)) 0)) (refuses 6 (length log) 0))
      go true true = tt
      go true false = λ a b. absurd (omega (arith, a, b))
      go false b = λ a b. absurd (omega (arith, a, b))

  settled_stops : Legal p ks → length c % group_size p ≡ 0 → (r : Got) → read_groups p ks c (length c / group_size p) 0 Nothing 0 ≡ r
      → Stops p ks c (settled p c (length c / group_size p) log_room time_room false r)
  unfolding streamed
  settled_stops ok whole (stopped k q second) e = λ a b. stopped_ends (rw e at (whole_agrees p ks c ok whole))
  settled_stops ok whole (got is) e = go (eqb (first_open is) (length is))
    where
      go : (b : Bool) → Stops p ks c (unless_found (unless b 15 (first_word_of (places_of (slots_from p c (length c / group_size p) 0)) is (first_open is))) (roomed p c (length c / group_size p) log_room time_room (log_of is)))
      go true = room_stops (log_of is)
      go false = λ a b. absurd (omega (arith, a, b))

  reading_stops : Stops p ks c (reading false p ks c log_room time_room)
  unfolding reading
  reading_stops = go (legal p ks) refl (leb (length c) 1048576 && eqb (length c % group_size p) 0) refl
    where
      go : (a : Bool) → legal p ks ≡ a → (b : Bool) → (leb (length c) 1048576 && eqb (length c % group_size p) 0) ≡ b
          → Stops p ks c (cond a (cond b (settled p c (length c / group_size p) log_room time_room false (read_groups p ks c (length c / group_size p) 0 Nothing 0)) (refuses 8 (length c) 0)) (refuses 1 0 0))
      go true l true e = settled_stops (legal_is p ks l) (eqb-true (length c % group_size p) 0 (and_true (leb (length c) 1048576) (eqb (length c % group_size p) 0) e).1) (read_groups p ks c (length c / group_size p) 0 Nothing 0) refl
      go true l false e = λ a b. absurd (omega (arith, a, b))
      go false l b e = λ a b. absurd (omega (arith, a, b))

pub stream_refuses : (p : Plan) (ks : List Kind) (c : List ℕ) (log_room time_room k q second : ℕ) → reading false p ks c log_room time_room ≡ refuses k q second → 9 ≤ k → k ≤ 13
    → Ends p (stream_groups p ks c (length c / group_size p) 0 start) k q second (streamed p ks c)
stream_refuses p ks c log_room time_room k q second e = rw e at (reading_stops p ks c log_room time_room)
