-- Up to the first group with a fault of 9 to 12 the stream hands out what is salvaged (document 02, K4 and K10).
use Prim.Native.Nat.{ℕ, zero, suc, ◌+◌, ◌*◌, ◌%◌, ◌≤◌}
use native.Mathlib.Omega.{arith}
use Rattle.std.specs.Prelude.{Bool, cond, ◌≡◌, length, eqb}
use Rattle.std.proofs.Math.Bool.{true, false}
use Rattle.std.proofs.Math.Path.{refl, ap, sym}
use Rattle.std.proofs.Common.{◌∙◌}
use mathlib.Core.List.{List, [], ◌∷◌, ◌++◌, map, append_assoc, append-nil}
use Rattle.format.specs.Lists.{list}
use Rattle.format.specs.Plan.{group_words}
use Rattle.format.specs.Word.{bus_of, label_of, info_of, is_fill}
use Rattle.format.specs.Reader.{Slot, Fed, bad, fed, feed, begun, since, Ran, bad_at, ran, run, more, join}
use Rattle.format.specs.Group.{Fault, none, found, group_fault, group_time, group_slots}
use Rattle.format.specs.Read.{Got, got, stopped, finish}
use Rattle.format.specs.Laws.Legal.{Legal}
use Rattle.format.specs.Laws.Limits.{long, room}
use Rattle.capture_rules.specs.Laws.Split.Faults.{FaultIn, fault_in}
use Rattle.stream_rules.specs.Stream.{stored_of, slots_of, slots_at, moved_fault, Watch, watch, earliest, Carry, brings, stops, watched, soundly, take_group}
use Rattle.stream_rules.specs.Stream.{closing_items, closing, group_size, group_bytes, Tale, ending, further, told, stream_groups}
use Rattle.stream_rules.specs.Laws.Stream.Moved.{group_moved, slots_moved, time_moved}
use Rattle.salvage_rules.specs.Salvage.{Piece, gap, datum, data_pieces, group_pieces, pieces, kept_times, Entry, lost_group, lost_word}
use Rattle.salvage_rules.specs.Salvage.{Saved, first, held_words, last_of, finished, salvage_word, salvage}
use Rattle.format.specs.declared.Kind.{Kind}
use Rattle.format.specs.declared.Plan.{Plan}
use Rattle.format.specs.declared.Item.{Item}
use Rattle.format.specs.declared.Held.{Held}
use Rattle.format.specs.declared.Held.TheVariants.{Nothing, Taggable, Half, TagHigh, TagLow, Answering}

-- ---- words of which none is bad

module _ (ks : List Kind) (parity : Bool) (ts : List Piece) where
  -- the same items, nothing reported, and the same held before the rest of the tape
  abbrev pub Kept : Ran → Saved → Type 0
  Kept (bad_at q second) s = Unit {0}
  Kept (ran is h q) s = (ps : List ℕ) × (s.its ≡ is ++ (salvage ks parity ts h ps).its) × (s.report ≡ (salvage ks parity ts h ps).report)

  more_kept : (is : List Item) (r : Ran) (s : Saved) → Kept r s → Kept (more is r) (first is [] s)
  more_kept is (bad_at q second) s k = tt
  more_kept is (ran js h q) s k = (k.0, ap (λ (l : List Item). is ++ l) k.1 ∙ sym (append_assoc is js (salvage ks parity ts h k.0).its), k.2)

  word_kept : (ss : List Slot) → ((h : Held) (q : ℕ) (ps : List ℕ) → Kept (run ks parity ss h q) (salvage ks parity (data_pieces ss ++ ts) h ps))
      → (f start : Fed) (h : Held) (q second here : ℕ) (ps : List ℕ)
      → Kept (join f q second here (λ h' p'. run ks parity ss h' p')) (salvage_word f start h ps here (λ h' ps'. salvage ks parity (data_pieces ss ++ ts) h' ps'))
  word_kept ss ih bad start h q second here ps = tt
  word_kept ss ih (fed is h') start h q second here ps =
      more_kept is (run ks parity ss h' (since h' q here)) (salvage ks parity (data_pieces ss ++ ts) h' (last_of (held_words h') (ps ++ here ∷ [])))
      (ih h' (since h' q here) (last_of (held_words h') (ps ++ here ∷ [])))

  pub run_kept : (ss : List Slot) (h : Held) (q : ℕ) (ps : List ℕ) → Kept (run ks parity ss h q) (salvage ks parity (data_pieces ss ++ ts) h ps)
  unfolding run data_pieces salvage
  run_kept [] h q ps = (ps, refl, refl)
  run_kept (s ∷ ss) h q ps = go (is_fill s.1) (run_kept ss)
    where
      go : (b : Bool) → ((h : Held) (q : ℕ) (ps : List ℕ) → Kept (run ks parity ss h q) (salvage ks parity (data_pieces ss ++ ts) h ps))
          → Kept (cond b (run ks parity ss h q) (join (feed ks h (bus_of parity s.1) (label_of s.1) (info_of s.1)) q (begun h q s.0) s.0 (λ h' p'. run ks parity ss h' p')))
          (salvage ks parity (cond b (data_pieces ss) (datum s ∷ data_pieces ss) ++ ts) h ps)
      go true ih = ih h q ps
      go false ih =
          word_kept ss ih (feed ks h (bus_of parity s.1) (label_of s.1) (info_of s.1)) (feed ks Nothing (bus_of parity s.1) (label_of s.1) (info_of s.1)) h q (begun h q s.0) s.0 ps

-- ---- group by group

module _ (p : Plan) (ks : List Kind) (c : List ℕ) where
  -- what is salvaged of n groups from g on, and what they are to a stream that stopped at one
  abbrev pub behind : ℕ → ℕ → Saved
  behind n g = salvage ks p.parity (pieces p c n g) Nothing []

  abbrev pub time : ℕ → ℕ
  time g = group_time p (group_bytes p c g) 0

  -- a fault of 9 to 12: the words held are reported, then the group, and what follows is salvaged by itself
  pub record AtGap (n g : ℕ) (s : Saved) (t : Tale) : Type 0 where
    pub index : ℕ
    pub left : ℕ
    pub held : List ℕ
    pub index_is : index ≡ g + t.groups
    pub left_is : left + (t.groups + 1) ≡ n
    pub items_then : s.its ≡ t.items ++ (behind left (index + 1)).its
    pub report_then : s.report ≡ map lost_word held ++ lost_group t.number index ∷ (behind left (index + 1)).report

  -- n groups from g on
  pub record Shared (n g : ℕ) (s : Saved) (t : Tale) : Type 0 where
    pub more_items : List Item
    pub more_times : List ℕ
    pub items_first : s.its ≡ t.items ++ more_items
    pub times_first : kept_times p c n g ≡ list time g t.groups ++ more_times
    pub all_items : t.number ≡ 0 → more_items ≡ []
    pub at_gap : 9 ≤ t.number → t.number ≤ 12 → AtGap n g s t

  -- a stream that stops here, but not by a fault of 9 to 12
  stops_here : (n g : ℕ) (s : Saved) (k q second : ℕ) → (1 ≤ k) × (9 ≤ k → k ≤ 12 → ⊥)
      → Shared n g s (record { items = []; groups = 0; number = k; place = q; second = second })
  unfolding list
  stops_here n g s k q second d = record {
    more_items = s.its;
    more_times = kept_times p c n g;
    items_first = refl;
    times_first = refl;
    all_items = λ z. absurd (omega (arith, d.0, z));
    at_gap = λ a b. absurd (d.1 a b);
  }

  -- ---- the close

  abbrev FinishedAs : Held → Got → Type 0
  FinishedAs h (got is) = finished h ≡ is
  FinishedAs h (stopped k q second) = k ≡ 13

  finished_as : (h : Held) (q : ℕ) → FinishedAs h (finish h q)
  finished_as Nothing q = refl
  finished_as (Taggable x) q = refl
  finished_as (Half bus c high) q = refl
  finished_as (TagHigh x high) q = refl
  finished_as (TagLow x high low) q = refl
  finished_as (Answering bus r) q = refl

  close_shared : (g : ℕ) (x : Carry) (es : List Entry) (r : Got) → FinishedAs x.held r
      → Shared 0 g (record { its = finished x.held; report = es }) (ending (closing_items p x r))
  unfolding list kept_times
  close_shared g x es (stopped k q second) f = stops_here 0 g _ k q second (omega (arith, f), λ a b. absurd (omega (arith, f, b)))
  close_shared g x es (got is) f = go (eqb (earliest x.waits) 0)
    where
      go : (b : Bool) → Shared 0 g (record { its = finished x.held; report = es }) (ending (cond b (got is) (stopped 15 (stored_of p (earliest x.waits)) 0)))
      go true = record {
        more_items = [];
        more_times = [];
        items_first = f ∙ sym (append-nil is);
        times_first = refl;
        all_items = λ z. refl;
        at_gap = λ a b. absurd (omega (arith, a));
      }
      go false = stops_here 0 g _ 15 _ 0 (omega arith, λ a b. absurd (omega (arith, b)))

  -- ---- a group

  -- items that were handed out before
  further_shared : (n g : ℕ) (is : List Item) (s s' : Saved) (t : Tale) → group_fault p c (g * group_words p) ≡ none → group_time p c (g * group_words p) ≡ time g
      → s.its ≡ is ++ s'.its → s.report ≡ s'.report → Shared n (g + 1) s' t → Shared (suc n) g s (further is t)
  unfolding list kept_times
  further_shared n g is s s' t sound timed e r h = record {
    more_items = h.more_items;
    more_times = h.more_times;
    items_first = e ∙ ap (λ (l : List Item). is ++ l) h.items_first ∙ sym (append_assoc is t.items h.more_items);
    times_first = rw (sound, timed) (ap (λ (l : List ℕ). time g ∷ l) h.times_first);
    all_items = h.all_items;
    at_gap = λ a b.
        let k = h.at_gap a b in
        record {
          index = k.index;
          left = k.left;
          held = k.held;
          index_is = omega (arith, k.index_is);
          left_is = omega (arith, k.left_is);
          items_then = e ∙ ap (λ (l : List Item). is ++ l) k.items_then ∙ sym (append_assoc is t.items (behind k.left (k.index + 1)).its);
          report_then = r ∙ k.report_then;
        };
  }

  -- a dropped group
  gap_shared : (n g : ℕ) (h : Held) (ps : List ℕ) (k q : ℕ) → 9 ≤ k → group_fault p c (g * group_words p) ≡ found k q
      → Shared (suc n) g (salvage ks p.parity (gap k g ∷ pieces p c n (g + 1)) h ps) (record { items = []; groups = 0; number = k; place = q; second = 0 })
  unfolding list kept_times salvage
  gap_shared n g h ps k q l e = record {
    more_items = (behind n (g + 1)).its;
    more_times = kept_times p c n (g + 1);
    items_first = refl;
    times_first = rw e refl;
    all_items = λ z. absurd (omega (arith, l, z));
    at_gap = λ a b. record {
      index = g;
      left = n;
      held = ps;
      index_is = omega arith;
      left_is = omega arith;
      items_then = refl;
      report_then = append_assoc (map lost_word ps) (lost_group k g ∷ []) (behind n (g + 1)).report;
    };
  }

  module _ (ok : Legal p ks) where
    sound_fault : (g : ℕ) (f : Fault) → group_fault p c (g * group_words p) ≡ f → FaultIn (g * group_words p) (g * group_words p + group_words p) f
    sound_fault g f e = rw e at (fault_in p c (g * group_words p) (long p ok.shape) ok.shape.tracks_least (room p ok.shape))

    pub shared : (n g : ℕ) (x : Carry) (ps : List ℕ) → Shared n g (salvage ks p.parity (pieces p c n g) x.held ps) (stream_groups p ks c n g x)
    unfolding stream_groups pieces take_group closing salvage
    shared zero g x ps = go (eqb (length c % group_size p) 0)
      where
        go : (b : Bool) → Shared 0 g (salvage ks p.parity [] x.held ps) (ending (cond b (closing_items p x (finish x.held x.since)) (stopped 8 (length c) 0)))
        go true = close_shared g x _ (finish x.held x.since) (finished_as x.held x.since)
        go false = stops_here 0 g _ 8 (length c) 0 (omega arith, λ a b. absurd (omega (arith, a)))
    shared (suc n) g x ps =
        let v : List ℕ = group_bytes p c g in
        let at : ℕ = g * group_words p in
        let y : Watch = watch ks p.parity (slots_of p v g) (record { waits = x.waits; shown = 0 }) in
        let k = run_kept ks p.parity (pieces p c n (g + 1)) (slots_at p v at) x.held x.since ps in
        rw (slots_moved p ks ok c g)
        (go (group_fault p c at) (moved_fault at (group_fault p v 0)) refl (group_moved p ks ok c g) (slots_at p v at) (run ks p.parity (slots_at p v at) x.held x.since) y k
        (λ x' ps'. shared n (g + 1) x' ps'))
      where
        go : (f f' : Fault) → group_fault p c (g * group_words p) ≡ f → f ≡ f' → (ss : List Slot) (r : Ran) (y : Watch)
            → Kept ks p.parity (pieces p c n (g + 1)) r (salvage ks p.parity (data_pieces ss ++ pieces p c n (g + 1)) x.held ps)
            → ((x' : Carry) (ps' : List ℕ) → Shared n (g + 1) (salvage ks p.parity (pieces p c n (g + 1)) x'.held ps') (stream_groups p ks c n (g + 1) x'))
            → Shared (suc n) g (salvage ks p.parity (group_pieces f g ss ++ pieces p c n (g + 1)) x.held ps) (told (soundly f' (watched p r y)) (λ x'. stream_groups p ks c n (g + 1) x'))
        go (found k q) f' e m ss r y kept ih = rw (← m) (gap_shared n g x.held ps k q (sound_fault g (found k q) e).0 e)
        go none f' e m ss r y kept ih = rw (← m) (read r kept)
          where
            quiet : (is : List Item) (h : Held) (q : ℕ) (b : Bool)
                → Kept ks p.parity (pieces p c n (g + 1)) (ran is h q) (salvage ks p.parity (data_pieces ss ++ pieces p c n (g + 1)) x.held ps)
                → Shared (suc n) g (salvage ks p.parity (data_pieces ss ++ pieces p c n (g + 1)) x.held ps)
                (told (cond b (brings is (record { held = h; since = q; waits = y.waits })) (stops 15 (stored_of p y.shown) 0)) (λ x'. stream_groups p ks c n (g + 1) x'))
            quiet is h q true k =
                further_shared n g is _ _ _ e (time_moved p ks ok c g) k.1 k.2 (ih (record { held = h; since = q; waits = y.waits }) k.0)
            quiet is h q false k = stops_here (suc n) g _ 15 _ 0 (omega arith, λ a b. absurd (omega (arith, b)))

            read : (r : Ran) → Kept ks p.parity (pieces p c n (g + 1)) r (salvage ks p.parity (data_pieces ss ++ pieces p c n (g + 1)) x.held ps)
                → Shared (suc n) g (salvage ks p.parity (data_pieces ss ++ pieces p c n (g + 1)) x.held ps) (told (watched p r y) (λ x'. stream_groups p ks c n (g + 1) x'))
            read (bad_at q second) k = stops_here (suc n) g _ 13 q second (omega arith, λ a b. absurd (omega (arith, b)))
            read (ran is h q) k = quiet is h q (eqb y.shown 0) k
