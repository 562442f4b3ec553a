-- What the stream hands out of a capture, and what is salvaged of it (document 02, K4 and K10).
use Rattle.std.specs.Prelude.{ℕ, ◌+◌, ◌-◌, ◌≤◌, Bool, ◌≡◌, length}
use Rattle.std.proofs.Common.{arith, ◌∙◌, eqb-true}
use Rattle.std.proofs.Math.Bool.{true, false, cond}
use Rattle.std.proofs.Math.Path.{refl, ap, sym}
use mathlib.Core.List.{List, [], ◌∷◌, ◌++◌, map, flat_map, append_assoc, append-nil}
use Rattle.std.proofs.Math.Dec.{eqb}
use Rattle.format.specs.Bits.{bits_of, packed}
use Rattle.format.specs.Item.{item_bits}
use Rattle.format.specs.Lists.{list}
use Rattle.format.specs.Log.{log_of}
use Rattle.format.specs.Plan.{legal}
use Rattle.format.specs.Read.{groups_in}
use Rattle.format.specs.Laws.Legal.{legal_is}
use Rattle.format.specs.Laws.Lists.{flat_map_append}
use Rattle.format.specs.declared.Item.{Item}
use Rattle.format.specs.declared.Kind.{Kind}
use Rattle.format.specs.declared.Plan.{Plan}
use Rattle.stream_rules.specs.Stream.{whole_bytes, rest_bits, Tale, start, stream_groups, streamed, tale_log, tale_times}
use Rattle.stream_rules.specs.Laws.Stream.Bits.{packed_append}
use Rattle.salvage_rules.specs.Salvage.{Entry, lost_group, lost_word, Saved, salvage_groups, salvaged, saves, kept_times}
use Rattle.salvage_rules.proofs.Laws.Salvage.Call as Call
use Rattle.stream_salvage.specs.Laws.Shared.{AtGap, Shared, behind, shared, time}

-- the log of items behind others begins with the whole bytes of these
log_behind : (is js : List Item) → log_of (is ++ js) ≡ whole_bytes (flat_map item_bits is) ++ packed (rest_bits (flat_map item_bits is) ++ (flat_map item_bits js ++ bits_of 4 0))
unfolding log_of
log_behind is js =
    ap packed (ap (λ (l : List ℕ). l ++ bits_of 4 0) (flat_map_append item_bits is js) ∙ append_assoc (flat_map item_bits is) (flat_map item_bits js) (bits_of 4 0))
    ∙ packed_append (flat_map item_bits is) (flat_map item_bits js ++ bits_of 4 0)

module _ (p : Plan) (ks : List Kind) (c : List ℕ) where
  -- what the stream tells of the whole capture, and what is salvaged of it
  abbrev pub tale : Tale
  tale = stream_groups p ks c (groups_in p c) 0 start

  abbrev pub saved : Saved
  saved = salvage_groups p ks c (groups_in p c)

  alike : legal p ks ≡ true → Shared p ks c (groups_in p c) 0 saved tale
  alike l = shared p ks c (legal_is p ks l) (groups_in p c) 0 start []

  -- the items are those that the stream handed out and then those of the groups behind the one that it stopped at; the report names the words
  -- held at that group, the group, and then what the report of the groups behind it names
  pub record UpTo : Type 0 where
    pub held : List ℕ
    pub items_are : saved.its ≡ tale.items ++ (behind p ks c (groups_in p c - (tale.groups + 1)) (tale.groups + 1)).its
    pub report_is : saved.report ≡ map lost_word held ++ lost_group tale.number tale.groups ∷ (behind p ks c (groups_in p c - (tale.groups + 1)) (tale.groups + 1)).report

  up_to : AtGap p ks c (groups_in p c) 0 saved tale → UpTo
  up_to k =
      let i : k.index ≡ tale.groups = omega (arith, k.index_is) in
      let n : k.left ≡ groups_in p c - (tale.groups + 1) = omega (arith, k.left_is) in
      record { held = k.held; items_are = rw (i, n) at k.items_then; report_is = rw (i, n) at k.report_then }

  pub up_to_the_gap : legal p ks ≡ true → 9 ≤ tale.number → tale.number ≤ 12 → UpTo
  up_to_the_gap l a b = up_to ((alike l).at_gap a b)

  -- the bytes of the log, and the times
  log_first : Shared p ks c (groups_in p c) 0 saved tale → (rest : List ℕ) × (log_of saved.its ≡ tale_log [] tale ++ rest)
  unfolding log_of
  log_first h = go (eqb tale.number 0) refl
    where
      go : (b : Bool) → eqb tale.number 0 ≡ b
          → (rest : List ℕ) × (log_of saved.its ≡ cond b (packed (flat_map item_bits tale.items ++ bits_of 4 0)) (whole_bytes (flat_map item_bits tale.items)) ++ rest)
      go true z =
          let e : saved.its ≡ tale.items = h.items_first ∙ ap (λ (l : List Item). tale.items ++ l) (h.all_items (eqb-true tale.number 0 z)) ∙ append-nil tale.items in
          ([], ap log_of e ∙ sym (append-nil (log_of tale.items)))
      go false z = (packed (rest_bits (flat_map item_bits tale.items) ++ (flat_map item_bits h.more_items ++ bits_of 4 0)), ap log_of h.items_first ∙ log_behind tale.items h.more_items)

  times_first : Shared p ks c (groups_in p c) 0 saved tale
      → (rest : List ℕ) × (cond p.frame_time (kept_times p c (groups_in p c) 0) [] ≡ tale_times p c 0 tale ++ rest)
  unfolding list
  times_first h = go p.frame_time
    where
      go : (b : Bool) → (rest : List ℕ) × (cond b (kept_times p c (groups_in p c) 0) [] ≡ list (time p ks c) 0 (cond b tale.groups 0) ++ rest)
      go true = (h.more_times, h.times_first)
      go false = ([], refl)

  pub handed_first : (log times : List ℕ) (report : List Entry) (log_room time_room reportRoom : ℕ) → length ks ≡ 16
      → salvaged p ks c log_room time_room reportRoom ≡ saves log times report
      → (moreLog : List ℕ) × (moreTimes : List ℕ) × (log ≡ (streamed p ks c).log ++ moreLog) × (times ≡ (streamed p ks c).times ++ moreTimes)
  unfolding streamed
  handed_first log times report log_room time_room reportRoom sixteen e =
      let g = Call.given_by p ks c log times report log_room time_room reportRoom sixteen e in
      let h = alike g.lawful in
      let l = log_first h in
      let t = times_first h in
      (l.0, t.0, sym g.log_is ∙ l.1, sym g.times_are ∙ t.1)
