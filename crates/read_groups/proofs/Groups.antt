-- A reading goes from group to group.
use Prim.Native.Nat.{ℕ, suc, ◌+◌, ◌*◌, ◌-◌, ◌≤◌, ◌<◌}
use native.Mathlib.Nat.{mul-le-mul_right, mul-le-mul_left}
use native.Mathlib.Omega.{arith}
use mathlib.Core.Path.{◌≡◌, refl, sym, ap, ap₂, subst, ◌∙◌}
use mathlib.Core.List.{List, [], ◌∷◌, ◌++◌, append_assoc, append-nil, flat_map}
use lib.ListN.{length, take, drop, length-take, length-drop}
use Rattle.format.specs.Lists.{list}
use Rattle.format.specs.Plan.{group_words, slots, stored_at, rows, lead}
use Rattle.format.specs.Item.{item_bits}
use Rattle.format.specs.Group.{Fault, none, found, group_fault, group_slots}
use Rattle.format.specs.Reader.{Slot, Ran, bad_at, ran, run}
use Rattle.format.specs.Read.{Got, got, stopped, before, finish, onward, if_sound, read_groups}
use Rattle.format.specs.declared.Kind.{Kind}
use Rattle.format.specs.declared.Item.{Item}
use Rattle.format.specs.declared.Held.{Held}
use Rattle.format.specs.declared.Held.TheVariants.{Nothing}
use Rattle.format.specs.declared.Plan.{Plan}
use Rattle.format.specs.Laws.Limits.{Shape, free, rows_under, lead_few, room}
use Rattle.format.specs.Laws.Lists.{flat_map_append}
use Rattle.format.proofs.Laws.Reader.Named.{renamed, run_named, run_in, groups_fresh, slots_counted}
use Rattle.format.specs.Laws.Reader.Slots.{words_in}
use Rattle.group_read.specs.declared.Fault.{Fault as Found}
use Rattle.group_read.specs.Row.{dealt_count, Deals}
use Rattle.group_read.proofs.Answers.{answer_none, answer_found, answer_low, answer_words, words_length}
use Rattle.data_start.specs.Holding.{flat}
use Rattle.data_word.specs.Holding.{held_of}
use Rattle.data_word.proofs.Flat.{nothing_is_held}
use Rattle.data_word.proofs.Meaning.{nothing_is_sane}
use Rattle.log_write.specs.Pen.{Wrote}
use Rattle.data_run.specs.declared.Pass.{Pass}
use Rattle.data_run.specs.declared.fill.Fills.{Fills}
use Rattle.data_run.specs.Fills.{fills_in, no_fill}
use Rattle.data_run.specs.Pass.{Brought, RanTo, start_pass}
use Rattle.read_groups.specs.declared.Walk.{Walk}
use Rattle.read_groups.specs.Misplaced.{fills_over, numbers_of, numbers_on}
use Rattle.read_groups.specs.Groups.{broken_at, Over, Through, Walked}
use Rattle.read_groups.proofs.Numbered.{Few, counted_below, counted_within, fills_few, ran_low}
use Rattle.format.proofs.Laws.Reader.Onward.{before_none, before_before}

-- ---- from group to group

-- what was brought before, and then
brought_more : {x₀ x y : Pass} {out₀ out out' : List ℕ} {is js : List Item} → Brought x₀ out₀ is x out → Brought x out js y out' → Brought x₀ out₀ (is ++ js) y out'
brought_more {x₀} {x} {y} {out₀} {out} {out'} {is} {js} a b = record {
  sound = b.sound;
  long = b.long ∙ a.long;
  wrote = λ bits w.
      subst (λ (n : List ℕ). Wrote n out' y.pen) (append_assoc bits (flat_map item_bits is) (flat_map item_bits js) ∙ ap (◌++◌ bits) (sym (flat_map_append item_bits is js)))
      (b.wrote (bits ++ flat_map item_bits is) (a.wrote bits w));
}

module _ (ks : List Kind) (p : Plan) (c : List ℕ) (n : ℕ) (out₀ : List ℕ) where
  pub over_none : {x : Pass} → x ≡ start_pass → Over ks p c n out₀ 0 x out₀
  unfolding flat_map
  over_none {x} e = subst (λ (y : Pass). Over ks p c n out₀ 0 y out₀) (sym e) (record {
    items = [];
    is = groups_fresh p ks c n 0 0 (stored_at p 0)
        ∙ ap₂ (λ (k : ℕ) (h : Held). read_groups p ks c k 0 h (stored_at p 0)) z (sym nothing_is_held)
        ∙ sym (before_none (read_groups p ks c (n - 0) 0 (held_of (flat Nothing)) (stored_at p 0)));
    fill = ap (λ (k : ℕ). fills_over p (numbers_on p c 0 k) no_fill) z;
    brought = record {
      sound = record { good = refl; sane = nothing_is_sane };
      long = refl;
      wrote = λ bits w. subst (λ (l : List ℕ). Wrote l out₀ start_pass.pen) (sym (append-nil bits)) w;
    };
    few = omega arith;
    low = omega arith;
    fill_low = (omega arith, omega arith);
  })
    where
      z : n ≡ n - 0
      z = omega arith

  module _ (s : Shape p) (g : ℕ) (h : g < n) (x : Pass) (out : List ℕ) (a : Over ks p c n out₀ g x out) where
    abbrev first : ℕ
    first = g * group_words p

    -- the words of the group g, told by their numbers
    abbrev here : Ran
    here = run ks p.parity (numbers_of p c g) (held_of x.held) x.since

    abbrev behind : Held → ℕ → Got
    behind = λ h q. read_groups p ks c (n - (g + 1)) (g + 1) h q

    here_named : run ks p.parity (group_slots p c first) (held_of x.held) (stored_at p x.since) ≡ renamed (stored_at p) here
    here_named =
        ap (λ (ss : List Slot). run ks p.parity ss (held_of x.held) (stored_at p x.since)) (slots_counted p c (free p s) g)
        ∙ run_named ks p.parity (stored_at p) (numbers_of p c g) (held_of x.held) x.since

    -- the group g, and those behind it
    group_next : read_groups p ks c (n - g) g (held_of x.held) (stored_at p x.since) ≡ if_sound (group_fault p c first) (onward (renamed (stored_at p) here) behind)
    unfolding read_groups
    group_next =
        let e : n - g ≡ suc (n - (g + 1)) = omega arith in
        rw e (ap (λ (y : Ran). if_sound (group_fault p c first) (onward y behind)) here_named)

    slots_next : numbers_on p c g (n - g) ≡ numbers_of p c g ∷ numbers_on p c (g + 1) (n - (g + 1))
    unfolding list
    slots_next =
        let e : n - g ≡ suc (n - (g + 1)) = omega arith in
        rw e refl

    pub over_fault : {k q : ℕ} → group_fault p c first ≡ found k q → read_groups p ks c n 0 Nothing 0 ≡ stopped k q 0
    over_fault e = a.is ∙ ap (before a.items) (group_next ∙ ap (λ (f : Fault). if_sound f (onward (renamed (stored_at p) here) behind)) e)

    sound_next : group_fault p c first ≡ none → read_groups p ks c n 0 Nothing 0 ≡ before a.items (onward (renamed (stored_at p) here) behind)
    sound_next e = a.is ∙ ap (before a.items) (group_next ∙ ap (λ (f : Fault). if_sound f (onward (renamed (stored_at p) here) behind)) e)

    fill_next : fills_over p (numbers_on p c 0 n) no_fill ≡ fills_over p (numbers_on p c (g + 1) (n - (g + 1))) (fills_in p.parity p.fill_bus 0 (numbers_of p c g) x.fills)
    unfolding fills_over
    fill_next = a.fill ∙ rw slots_next refl

    -- numbers so far
    upto : g * slots p + length (words_in (group_slots p c first)) ≤ (g + 1) * slots p
    upto = omega (arith, words_length p c first)

    fill_low : Few ((g + 1) * slots p) (fills_in p.parity p.fill_bus 0 (numbers_of p c g) x.fills)
    fill_low =
        fills_few ((g + 1) * slots p) p.parity p.fill_bus 0 (numbers_of p c g) x.fills (counted_below ((g + 1) * slots p) (g * slots p) (words_in (group_slots p c first)) upto)
        (omega (arith, a.fill_low.0), omega (arith, a.fill_low.1))

    -- the slots that were run over are the group's, told by numbers
    module _ (ss : List Slot) (t : ss ≡ numbers_of p c g) (sound : group_fault p c first ≡ none) (r : Pass) (out' : List ℕ)
        (m : RanTo x out (run ks p.parity ss (held_of x.held) x.since) (fills_in p.parity p.fill_bus 0 ss x.fills) r out') where
      abbrev fills : Fills
      fills = fills_in p.parity p.fill_bus 0 (numbers_of p c g) x.fills

      ran_to : RanTo x out here fills r out'
      ran_to =
          subst (λ (l : List Slot). RanTo x out (run ks p.parity l (held_of x.held) x.since) (fills_in p.parity p.fill_bus 0 l x.fills) r out') t m

      pub told_low : (r.since ≤ (g + 1) * slots p) × (r.bad ≤ (g + 1) * slots p + 1)
      told_low =
          ran_low ((g + 1) * slots p) x r out out' here fills
          (run_in ks p.parity (λ q. q ≤ (g + 1) * slots p) (numbers_of p c g) (counted_within ((g + 1) * slots p) (g * slots p) (words_in (group_slots p c first)) upto)
          (held_of x.held) x.since (omega (arith, a.low)))
          ran_to

      bad_at_lem : (y : Ran) → RanTo x out y fills r out' → (r.bad ≡ 0 → ⊥) → y ≡ bad_at (r.bad - 1) r.since
      bad_at_lem (bad_at q s) m z = let e : q ≡ r.bad - 1 = omega (arith, m.0) in ap₂ bad_at e (sym m.1)
      bad_at_lem (ran is k q) m z = absurd (z m.0.sound.good)

      pub over_bad : (r.bad ≡ 0 → ⊥) → read_groups p ks c n 0 Nothing 0 ≡ stopped 13 (stored_at p (r.bad - 1)) (stored_at p r.since)
      over_bad z = sound_next sound ∙ ap (λ (y : Ran). before a.items (onward (renamed (stored_at p) y) behind)) (bad_at_lem here ran_to z)

      more_of : (y : Ran) → RanTo x out y fills r out' → r.bad ≡ 0 → r.pen.bits ≤ 128 * ((g + 1) * slots p)
          → read_groups p ks c n 0 Nothing 0 ≡ before a.items (onward (renamed (stored_at p) y) behind) → Over ks p c n out₀ (g + 1) r out'
      more_of (bad_at q s) m z l e = let k : q + 1 ≡ 0 = sym m.0 ∙ z in absurd (omega arith)
      more_of (ran is k q) m z l e = record {
        items = a.items ++ is;
        is = e ∙ before_before a.items is (behind k (stored_at p q))
            ∙ ap₂ (λ (k : Held) (q : ℕ). before (a.items ++ is) (behind k (stored_at p q))) (sym m.1) (sym m.2);
        fill = fill_next ∙ ap (fills_over p (numbers_on p c (g + 1) (n - (g + 1)))) (sym m.3);
        brought = brought_more a.brought m.0;
        few = l;
        low = told_low.0;
        fill_low = rw m.3 fill_low;
      }

      pub over_more : r.bad ≡ 0 → r.pen.bits ≤ 128 * ((g + 1) * slots p) → Over ks p c n out₀ (g + 1) r out'
      over_more z l = more_of here ran_to z l (sound_next sound)

  -- the walk ends at a bad word
  pub walked_bad : {x : Pass} {r : Walk} {out : List ℕ} (bad first : ℕ)
      → read_groups p ks c n 0 Nothing 0 ≡ stopped 13 (stored_at p (bad - 1)) (stored_at p first) → r ≡ broken_at p x bad first → Walked ks p c n out₀ r out
  walked_bad {x} {r} {out} bad first e w =
      subst (λ (k : Walk). Walked ks p c n out₀ k out) (sym w)
      (record { through = λ z. absurd (omega arith); notice = λ z. absurd (omega arith); stops = λ z. e })

  group_none : (k : ℕ) (h : Held) (q : ℕ) → k ≡ 0 → read_groups p ks c k n h q ≡ finish h q
  unfolding read_groups
  group_none k h q e = rw e refl

  fill_none : (k : ℕ) (f : Fills) → k ≡ 0 → fills_over p (numbers_on p c n k) f ≡ f
  unfolding fills_over list
  fill_none k f e = rw e refl

  through : {x : Pass} {out : List ℕ} → Over ks p c n out₀ n x out → Through ks p c n out₀ x out
  through {x} {out} a =
      let z : n - n ≡ 0 = omega arith in
      record {
        items = a.items;
        is = a.is ∙ ap (before a.items) (group_none (n - n) (held_of x.held) (stored_at p x.since) z);
        fill = a.fill ∙ fill_none (n - n) x.fills z;
        brought = a.brought;
        few = a.few;
        low = a.low;
        fill_low = a.fill_low.1;
      }

  pub over_all : (g : ℕ) {x : Pass} {out : List ℕ} → g ≡ n → Over ks p c n out₀ g x out → Through ks p c n out₀ x out
  over_all g e a = through (rw e at a)
