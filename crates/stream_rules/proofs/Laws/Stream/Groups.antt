-- A capture fed and closed is what `streamed` says: group by group.
use Prim.Native.Nat.{ℕ, zero, suc, ◌+◌, ◌*◌, ◌/◌, ◌%◌, ◌≤◌, ◌<◌}
use native.Mathlib.Omega.{arith}
use Rattle.std.proofs.Common.{mod-lt, div-add-mod', mul-le-mul_right, ◌∙◌, length-append, length-take, take-append-drop, drop-drop, ne_eqb, eqb-true}
use Rattle.std.proofs.Math.Nat.{mul-add-mod_self_right, mod-eq_of_lt}
use Rattle.std.specs.Prelude.{Bool, ◌≡◌, take, ltb, eqb}
use Rattle.std.proofs.Math.Bool.{true, false, cond}
use Rattle.std.proofs.Math.Path.{refl, ap, sym, ap₂}
use mathlib.Core.List.{List, [], ◌∷◌, ◌++◌, append_assoc, append-nil, flat_map}
use Rattle.std.proofs.Math.ListN.{length, drop, length-drop}
use Rattle.std.proofs.Math.Seq.{length-take-le}
use Rattle.format.specs.Bits.{bits_of, packed}
use Rattle.format.specs.Plan.{legal, group_words, times_needed}
use Rattle.format.specs.Item.{item_bits}
use Rattle.format.specs.Lists.{list}
use Rattle.format.specs.Reader.{Ran, bad_at, ran, run}
use Rattle.format.specs.Group.{Fault, none, found, group_fault, group_time}
use Rattle.format.specs.Read.{Got, got, stopped, finish}
use Rattle.stream_rules.specs.Stream.{whole_bytes, rest_bits, stored_of, slots_of, slots_at, moved_fault, Watch, watch, earliest, Carry, Brought, brings, stops, watched, soundly, take_group, unless_waits, closing_items, closing, closing_at, start, group_size, group_bytes, Tale}
use Rattle.stream_rules.specs.Stream.{ending, further, told, stream_groups, tale_log, tale_times, Streamed, handed, streamed, Working, State, closed, failed, working, count_of, Flow, still, flowed, taken, keeps, feed_byte, feed_bytes, Call, closed_with, close_on}
use Rattle.format.specs.Laws.Lists.{flat_map_append}
use Rattle.format.specs.Laws.Legal.{Legal, legal_is}
use Rattle.format.specs.Laws.Limits.{long, room}
use Rattle.capture_rules.specs.Laws.Split.Faults.{FaultIn, fault_in}
use Rattle.stream_rules.specs.Laws.Stream.Bits.{whole_append, rest_append, packed_append, rest_short, whole_none}
use Rattle.stream_rules.specs.Laws.Stream.Feed.{feed_append, feed_failed, feed_part, feed_group, flowed_assoc}
use Rattle.format.specs.declared.Kind.{Kind}
use Rattle.format.specs.declared.Plan.{Plan}
use Rattle.format.specs.declared.Item.{Item}
use Rattle.format.specs.declared.Held.{Held}
use Rattle.format.specs.declared.Held.TheVariants.{Nothing, Taggable, Half, TagHigh, TagLow, Answering}

-- ---- no refusal has the number 0

abbrev pub Numbered : Brought → Type 0
Numbered (brings is x) = Unit {0}
Numbered (stops k q second) = 1 ≤ k

watched_numbered : (p : Plan) (r : Ran) (y : Watch) → Numbered (watched p r y)
watched_numbered p (bad_at q second) y = omega arith
watched_numbered p (ran is h k) y = go (eqb y.shown 0)
  where
    go : (b : Bool) → Numbered (cond b (brings is (record { held = h; since = k; waits = y.waits })) (stops 15 (stored_of p y.shown) 0))
    go true = tt
    go false = omega arith

soundly_numbered : (lo hi at : ℕ) (f : Fault) (b : Brought) → FaultIn lo hi f → Numbered b → Numbered (soundly (moved_fault at f) b)
soundly_numbered lo hi at none b i n = n
soundly_numbered lo hi at (found k q) b i n = omega (arith, i.0)

pub take_numbered : (p : Plan) (ks : List Kind) → Legal p ks → (v : List ℕ) (g : ℕ) (x : Carry) → Numbered (take_group p ks v g x)
unfolding take_group
take_numbered p ks ok v g x =
    soundly_numbered 0 (0 + group_words p) (g * group_words p) (group_fault p v 0) _ (fault_in p v 0 (long p ok.shape) ok.shape.tracks_least (room p ok.shape))
    (watched_numbered p (run ks p.parity (slots_at p v (g * group_words p)) x.held x.since) (watch ks p.parity (slots_of p v g) (record { waits = x.waits; shown = 0 })))

abbrev NumberedGot : Got → Type 0
NumberedGot (got is) = Unit {0}
NumberedGot (stopped k q second) = 1 ≤ k

-- nor 16
abbrev pub NumberedLow : Got → Type 0
NumberedLow (got is) = Unit {0}
NumberedLow (stopped k q second) = (1 ≤ k) × (k ≤ 15)

finish_low : (h : Held) (q : ℕ) → NumberedLow (finish h q)
finish_low Nothing q = tt
finish_low (Taggable x) q = tt
finish_low (Half bus c high) q = (omega arith, omega arith)
finish_low (TagHigh x high) q = (omega arith, omega arith)
finish_low (TagLow x high low) q = (omega arith, omega arith)
finish_low (Answering bus r) q = (omega arith, omega arith)

items_low : (p : Plan) (x : Carry) (g : Got) → NumberedLow g → NumberedLow (closing_items p x g)
items_low p x (stopped k q second) n = n
items_low p x (got is) n = go (eqb (earliest x.waits) 0)
  where
    k : ℕ
    k = earliest x.waits

    go : (b : Bool) → NumberedLow (cond b (got is) (stopped 15 (stored_of p k) 0))
    go true = tt
    go false = (omega arith, omega arith)

pub closing_low : (p : Plan) (part count : ℕ) (x : Carry) → NumberedLow (closing_at p part count x)
unfolding closing
closing_low p part count x = go (eqb part 0)
  where
    go : (b : Bool) → NumberedLow (cond b (closing_items p x (finish x.held x.since)) (stopped 8 count 0))
    go true = items_low p x (finish x.held x.since) (finish_low x.held x.since)
    go false = (omega arith, omega arith)

low_numbered : (r : Got) → NumberedLow r → NumberedGot r
low_numbered (got is) n = tt
low_numbered (stopped k q second) n = n.0

closing_numbered : (p : Plan) (part count : ℕ) (x : Carry) → NumberedGot (closing_at p part count x)
closing_numbered p part count x = low_numbered (closing_at p part count x) (closing_low p part count x)

-- ---- fed, then closed

abbrev pub ended : Flow → Streamed
ended f =
    record { log = f.log ++ (close_on f.state).log; times = f.times ++ (close_on f.state).times; number = (close_on f.state).number; place = (close_on f.state).place; second = (close_on f.state).second }

abbrev behind : List ℕ → List ℕ → Streamed → Streamed
behind log times z = record { log = log ++ z.log; times = times ++ z.times; number = z.number; place = z.place; second = z.second }

abbrev Handing : Plan → List ℕ → ℕ → List ℕ → Tale → Streamed
Handing p c g bits t = record { log = tale_log bits t; times = tale_times p c g t; number = t.number; place = t.place; second = t.second }

same_streamed : (a b s t : List ℕ) (m n q r u v : ℕ) → a ≡ b → s ≡ t → m ≡ n → q ≡ r → u ≡ v
    → ◌≡◌ {A = Streamed} (record { log = a; times = s; number = m; place = q; second = u }) (record { log = b; times = t; number = n; place = r; second = v })
same_streamed a b s t m n q r u v e f g h i = rw (e, f, g, h, i)

no_times : (f : ℕ → ℕ) (p : Plan) (g : ℕ) → [] ≡ list f g (times_needed p 0)
unfolding list
no_times f p g = go p.frame_time
  where
    go : (b : Bool) → [] ≡ list f g (cond b 0 0)
    go true = refl
    go false = refl

-- a log that stops before its first item
none_log : (bits : List ℕ) (k : ℕ) → length bits < 8 → 1 ≤ k → [] ≡ cond (eqb k 0) (packed (bits ++ (flat_map item_bits [] ++ bits_of 4 0))) (whole_bytes (bits ++ flat_map item_bits []))
unfolding flat_map
none_log bits k short h = rw (ne_eqb k 0 (λ (e : k ≡ 0). omega arith), append-nil bits) (sym (whole_none bits short))

module _ (p : Plan) (ks : List Kind) (ok : Legal p ks) (c : List ℕ) where
  abbrev size : ℕ
  size = group_size p

  abbrev time : ℕ → ℕ
  time g = group_time p (group_bytes p c g) 0

  abbrev at : ℕ → List ℕ → Carry → Working
  at g bits x = record { plan = p; kinds = ks; groups = g; waiting = []; bits = bits; carry = x }

  -- the close
  close_same : (g : ℕ) (bits : List ℕ) (x : Carry) (v : List ℕ) (r : Got) → length bits < 8 → NumberedGot r
      → ◌≡◌ {A = Streamed}
      (record { log = (closed_with (keeps (at g bits x) v) r).log; times = (closed_with (keeps (at g bits x) v) r).times; number = (closed_with (keeps (at g bits x) v) r).number; place = (closed_with (keeps (at g bits x) v) r).place; second = (closed_with (keeps (at g bits x) v) r).second })
      (Handing p c g bits (ending r))
  close_same g bits x v (got is) short n = same_streamed _ _ _ _ 0 0 0 0 0 0 refl (no_times time p g) refl refl refl
  close_same g bits x v (stopped k q second) short n = same_streamed _ _ _ _ k k q q second second (none_log bits k short n) (no_times time p g) refl refl refl

  -- one group's log and times before those of the rest
  log_further : (bits : List ℕ) (is : List Item) (t : Tale)
      → whole_bytes (bits ++ flat_map item_bits is) ++ tale_log (rest_bits (bits ++ flat_map item_bits is)) t ≡ tale_log bits (further is t)
  log_further bits is t = go (eqb t.number 0)
    where
      xs : List ℕ
      xs = bits ++ flat_map item_bits is

      go : (b : Bool) → whole_bytes (bits ++ flat_map item_bits is)
          ++ cond b (packed (rest_bits (bits ++ flat_map item_bits is) ++ (flat_map item_bits t.items ++ bits_of 4 0))) (whole_bytes (rest_bits (bits ++ flat_map item_bits is) ++ flat_map item_bits t.items))
          ≡ cond b (packed (bits ++ (flat_map item_bits (is ++ t.items) ++ bits_of 4 0))) (whole_bytes (bits ++ flat_map item_bits (is ++ t.items)))
      go true =
          sym (packed_append xs (flat_map item_bits t.items ++ bits_of 4 0))
          ∙ ap packed (append_assoc bits (flat_map item_bits is) (flat_map item_bits t.items ++ bits_of 4 0)
          ∙ ap (λ (l : List ℕ). bits ++ l) (sym (append_assoc (flat_map item_bits is) (flat_map item_bits t.items) (bits_of 4 0)) ∙ ap (λ (l : List ℕ). l ++ bits_of 4 0) (sym (flat_map_append item_bits is t.items))))
      go false =
          sym (whole_append xs (flat_map item_bits t.items))
          ∙ ap whole_bytes (append_assoc bits (flat_map item_bits is) (flat_map item_bits t.items) ∙ ap (λ (l : List ℕ). bits ++ l) (sym (flat_map_append item_bits is t.items)))

  times_further : (g n : ℕ) → cond p.frame_time (time g ∷ []) [] ++ list time (g + 1) (times_needed p n) ≡ list time g (times_needed p (suc n))
  unfolding list
  times_further g n = go p.frame_time
    where
      go : (b : Bool) → cond b (time g ∷ []) [] ++ list time (g + 1) (cond b n 0) ≡ list time g (cond b (suc n) 0)
      go true = refl
      go false = refl

  ended_flowed : (f r : Flow) → ended (flowed f r) ≡ behind f.log f.times (ended r)
  ended_flowed f r =
      same_streamed _ _ _ _ _ _ _ _ _ _ (append_assoc f.log r.log (close_on r.state).log) (append_assoc f.times r.times (close_on r.state).times) refl refl refl

  some_size : 1 ≤ size
  some_size = omega (arith, mul-le-mul_right p.words ok.shape.tracks_least, ok.shape.words_least)

  whole_group : (g : ℕ) (bits : List ℕ) (x : Carry) (v : List ℕ) → length v ≡ size
      → feed_bytes (working (at g bits x)) v ≡ taken (at g bits x) v (take_group p ks v g x)
  whole_group g bits x [] h = absurd (omega (arith, h, some_size))
  whole_group g bits x (b ∷ bs) h = feed_group (at g bits x) b bs (omega (arith, h))

  pub stream_fed : (n g : ℕ) (x : Carry) (bits : List ℕ) (r : ℕ) → length bits < 8 → r < size → length c ≡ g * size + (n * size + r)
      → ended (feed_bytes (working (at g bits x)) (drop (g * size) c)) ≡ Handing p c g bits (stream_groups p ks c n g x)
  unfolding stream_groups
  stream_fed zero g x bits r short low e =
      let d : length (drop (g * size) c) ≡ r = length-drop (g * size) c ∙ omega (arith, e) in
      let m : length c % size ≡ r = ap (λ (k : ℕ). k % size) e ∙ mul-add-mod_self_right g size (0 * size + r) ∙ ap (λ (k : ℕ). k % size) (zero_times r) ∙ mod-eq_of_lt low in
      let k : g * size + length (drop (g * size) c) ≡ length c = omega (arith, d, e) in
      ap ended (feed_part (at g bits x) (drop (g * size) c) (omega (arith, d, low)))
      ∙ close_same g bits x (drop (g * size) c) (closing_at p (length (drop (g * size) c)) (g * size + length (drop (g * size) c)) x) short (closing_numbered p (length (drop (g * size) c)) (g * size + length (drop (g * size) c)) x)
      ∙ ap₂ (λ (a b : ℕ). Handing p c g bits (ending (closing_at p a b x))) (d ∙ sym m) k
    where
      zero_times : (r : ℕ) → 0 * size + r ≡ r
      zero_times r = omega arith
  stream_fed (suc n) g x bits r short low e =
      let v : List ℕ = group_bytes p c g in
      let s : State = working (at g bits x) in
      let rest : List ℕ = drop ((g + 1) * size) c in
      let step : g * size + size ≡ (g + 1) * size = omega arith in
      let cut : drop (g * size) c ≡ group_bytes p c g ++ drop ((g + 1) * size) c = sym (take-append-drop size (drop (g * size) c)) ∙ ap (λ (l : List ℕ). group_bytes p c g ++ l) (drop-drop size (g * size) c ∙ ap (λ (m : ℕ). drop m c) step) in
      let full : length (group_bytes p c g) ≡ size = length-take-le size (drop (g * size) c) (rw (length-drop (g * size) c) (omega (arith, e))) in
      let whole : feed_bytes s v ≡ taken (at g bits x) v (take_group p ks v g x) = whole_group g bits x v full in
      ap (λ (l : List ℕ). ended (feed_bytes s l)) cut ∙ ap ended (feed_append s v rest ∙ ap (λ (f : Flow). flowed f (feed_bytes f.state rest)) whole)
      ∙ go (take_group p ks v g x) (take_numbered p ks ok v g x) (λ x' bits' short'. stream_fed n (g + 1) x' bits' r short' low (omega (arith, e)))
    where
      go : (b : Brought) → Numbered b
          → ((x' : Carry) (bits' : List ℕ) → length bits' < 8 → ended (feed_bytes (working (at (g + 1) bits' x')) (drop ((g + 1) * size) c)) ≡ Handing p c (g + 1) bits' (stream_groups p ks c n (g + 1) x'))
          → ended (flowed (taken (at g bits x) (group_bytes p c g) b) (feed_bytes (taken (at g bits x) (group_bytes p c g) b).state (drop ((g + 1) * size) c)))
          ≡ Handing p c g bits (told b (λ x'. stream_groups p ks c n (g + 1) x'))
      go (stops k q second) h ih =
          ap (λ (f : Flow). ended (flowed (still (failed k q second)) f)) (feed_failed k q second (drop ((g + 1) * size) c))
          ∙ same_streamed _ _ _ _ k k q q second second (none_log bits k short h) (no_times time p g) refl refl refl
      go (brings is x') h ih =
          let f : Flow = taken (at g bits x) (group_bytes p c g) (brings is x') in
          let t : Tale = stream_groups p ks c n (g + 1) x' in
          let i = ih x' (rest_bits (bits ++ flat_map item_bits is)) (rest_short (bits ++ flat_map item_bits is)) in
          ended_flowed f (feed_bytes f.state (drop ((g + 1) * size) c))
          ∙ ap (behind f.log f.times) i
          ∙ same_streamed _ _ _ _ _ _ _ _ _ _ (log_further bits is t) (times_further g t.groups) refl refl refl

  -- a capture fed at once and closed
  pub streamed_fed : ended (feed_bytes (working (at 0 [] start)) c) ≡ streamed p ks c
  unfolding streamed
  streamed_fed =
      let z : 0 * size ≡ 0 = omega arith in
      let s = stream_fed (length c / size) 0 start [] (length c % size) (omega arith) (mod-lt (length c) some_size) (sym (div-add-mod' (length c) size) ∙ omega arith) in
      rw z at s
