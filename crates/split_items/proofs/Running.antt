-- The words up to the first number above 24 bits are one run; what follows it.
use Prim.Native.Nat.{ℕ, zero, suc, ◌+◌, ◌*◌, ◌-◌, ◌^◌, ◌≤◌, ◌<◌}
use native.Mathlib.Omega.{arith}
use mathlib.Core.Bool.{Bool, true, false}
use mathlib.Core.Path.{◌≡◌, refl, ap, ap₂, sym, subst, ◌∙◌}
use mathlib.Core.List.{List, [], ◌∷◌, ◌++◌, flat_map, append-nil}
use lib.ListN.{length, take, drop, get_or, take-append-drop}
use lib.Seq.{get_or-take, length-take-le, take_all}
use borrow.Author.Tests.{le-ltb}
use Rattle.format.specs.Item.{item_bits}
use Rattle.format.specs.Lists.{All}
use Rattle.format.specs.Reader.{Slot, Ran, bad_at, ran, run, begun, counted}
use Rattle.format.specs.Read.{Got, got, stopped, before, onward, finish}
use Rattle.format.specs.Laws.Reader.Counted.{counted_append, counted_none, counted_one, drop_next}
use Rattle.format.proofs.Laws.Reader.Onward.{and_then}
use Rattle.format.specs.declared.Kind.{Kind}
use Rattle.format.specs.declared.Item.{Item}
use Rattle.format.specs.declared.Held.{Held}
use Rattle.format.specs.declared.Held.TheVariants.{Nothing}
use Rattle.capture_rules.specs.Split.{run_numbers}
use Rattle.capture_rules.specs.Laws.Split.Places.{Small, numbers_after}
use Rattle.capture_rules.proofs.Laws.Split.Whole.{counted_small}
use Rattle.data_items.specs.Row.{Words}
use Rattle.data_start.specs.declared.Step.{Step}
use Rattle.data_word.specs.Holding.{held_of}
use Rattle.data_word.specs.Meaning.{Closes}
use Rattle.data_word.proofs.Flat.{nothing_is_held}
use Rattle.data_word.proofs.Meaning.{nothing_is_sane}
use Rattle.data_run.specs.declared.Pass.{Pass}
use Rattle.data_run.specs.declared.fill.Fills.{Fills}
use Rattle.data_put.specs.Put.{step_out, step_pen}
use Rattle.data_run.specs.Pass.{Brought, RanTo, Sound, start_pass}
use Rattle.data_run.proofs.Closing.{finish_cut, closed_bits, closed_got, closed_items, closed_wrote}
use Rattle.log_write.specs.declared.Pen.{Pen}
use Rattle.log_write.specs.Pen.{Wrote}
use Rattle.log_write.proofs.Writing.{wrote_none}
use Rattle.split_items.specs.declared.Run.{Run}
use Rattle.split_items.specs.Numbers.{LowFront}
use Rattle.split_items.specs.Items.{Logged, RunsTo, got_of}
use Rattle.split_items.proofs.Numbers.{words_all}

pub start_sound : {s : Pass} → s ≡ start_pass → Sound s
start_sound e = subst Sound (sym e) (record { good = refl; sane = nothing_is_sane })

pub start_empty : {s : Pass} → s ≡ start_pass → s.pen.bits ≤ 128 * 0
start_empty e = rw e (omega arith)

-- a refusal
pub stops_to : (ks : List Kind) (parity : Bool) (ws : List ℕ) {k : Run} {place second : ℕ} {pen : Pen} (out : List ℕ)
    → k ≡ record { number = 13; place = place; second = second; pen = pen } → got_of ks parity ws ≡ stopped 13 place second → RunsTo ks parity ws k out
stops_to ks parity ws out e g =
    subst (λ (x : Run). RunsTo ks parity ws x out) (sym e) (record { logged = λ z. absurd (omega (arith, z)); refused = λ _. g })

module _ (ks : List Kind) (parity : Bool) (ws : List ℕ) (r : ℕ) (f : LowFront ws r) where
  front_long : length (take r ws) ≡ r
  front_long = length-take-le r ws f.few

  pub front_words : Words (take r ws)
  front_words i l =
      let k : i < r = omega (arith, l, front_long) in
      rw (get_or-take r ws i 0 k) (f.low i k)

  front_small : Small (counted 0 (take r ws))
  front_small = counted_small 0 (take r ws) (words_all (take r ws) (λ i l. front_words i l))

  -- the run over the front, and what is behind it
  abbrev front : Ran
  front = run ks parity (counted 0 (take r ws)) Nothing 0

  -- as it is run over from the first word on
  pub from_start : {s : Pass} (out₀ out : List ℕ) (x : Pass) (y : Fills) → s ≡ start_pass
      → RanTo s out₀ (run ks parity (counted 0 (take r ws)) (held_of s.held) s.since) y x out → RanTo start_pass out₀ front y x out
  from_start {s} out₀ out x y e m =
      subst (λ (h : Held). RanTo start_pass out₀ (run ks parity (counted 0 (take r ws)) h 0) y x out) nothing_is_held
      (subst (λ (z : Pass). RanTo z out₀ (run ks parity (counted 0 (take r ws)) (held_of z.held) z.since) y x out) e m)

  halves : counted 0 ws ≡ counted 0 (take r ws) ++ counted r (drop r ws)
  halves =
      let z : 0 + length (take r ws) ≡ r = omega (arith, front_long) in
      ap (counted 0) (sym (take-append-drop r ws)) ∙ counted_append 0 (take r ws) (drop r ws) ∙ ap (λ (k : ℕ). counted 0 (take r ws) ++ counted k (drop r ws)) z

  got_is : got_of ks parity ws ≡ onward (and_then front (λ h p. run_numbers ks parity (counted r (drop r ws)) h p)) finish
  got_is =
      ap (λ (ss : List Slot). onward (run_numbers ks parity ss Nothing 0) finish) halves
      ∙ ap (λ (x : Ran). onward x finish) (numbers_after ks parity (counted 0 (take r ws)) (counted r (drop r ws)) front_small Nothing 0)

  front_bad : {q s : ℕ} → front ≡ bad_at q s → got_of ks parity ws ≡ stopped 13 q s
  front_bad e = got_is ∙ ap (λ (x : Ran). onward (and_then x (λ h p. run_numbers ks parity (counted r (drop r ws)) h p)) finish) e

  module _ {is : List Item} {h : Held} {at : ℕ} (e : front ≡ ran is h at) where
    front_ran : got_of ks parity ws ≡ onward (and_then (ran is h at) (λ h p. run_numbers ks parity (counted r (drop r ws)) h p)) finish
    front_ran = got_is ∙ ap (λ (x : Ran). onward (and_then x (λ h p. run_numbers ks parity (counted r (drop r ws)) h p)) finish) e

    large : r < length ws → got_of ks parity ws ≡ stopped 13 r (begun h at r)
    unfolding run_numbers
    large l =
        front_ran ∙ ap (λ (x : List ℕ). onward (and_then (ran is h at) (λ h p. run_numbers ks parity (counted r x) h p)) finish) (drop_next r ws l)
        ∙ ap (λ (x : List Slot). onward (and_then (ran is h at) (λ h p. run_numbers ks parity x h p)) finish) (counted_one r (get_or ws r 0) (drop (r + 1) ws))
        ∙ rw (le-ltb _ _ (f.high l)) refl

    ended : length ws ≤ r → got_of ks parity ws ≡ before is (finish h at)
    unfolding run_numbers
    ended l =
        front_ran ∙ ap (λ (x : List Slot). onward (and_then (ran is h at) (λ h p. run_numbers ks parity x h p)) finish) (counted_none r r ws l)
        ∙ again is
      where
        again : (js : List Item) → onward (ran (js ++ []) h at) finish ≡ before js (finish h at)
        again js = ap (λ (l : List Item). before l (finish h at)) (append-nil js)

  -- ---- as the row was run over

  module _ (out₀ : List ℕ) (x : Pass) (out : List ℕ) (y : Fills) (m : RanTo start_pass out₀ front y x out) where
    ran_bad : (z : Ran) → front ≡ z → RanTo start_pass out₀ z y x out → (x.bad ≡ 0 → ⊥) → got_of ks parity ws ≡ stopped 13 (x.bad - 1) x.since
    ran_bad (bad_at q s) e n d = front_bad e ∙ ap₂ (stopped 13) (omega (arith, n.0)) (sym n.1)
    ran_bad (ran is h at) e n d = absurd (d n.0.sound.good)

    pub bad_stops : (x.bad ≡ 0 → ⊥) → got_of ks parity ws ≡ stopped 13 (x.bad - 1) x.since
    bad_stops = ran_bad front refl m

    -- no word of it is bad
    pub record Good : Type 0 where
      pub items : List Item
      pub is : front ≡ ran items (held_of x.held) x.since
      pub brought : Brought start_pass out₀ items x out

    ran_good : (z : Ran) → front ≡ z → RanTo start_pass out₀ z y x out → x.bad ≡ 0 → Good
    ran_good (bad_at q s) e n d = absurd (omega (arith, n.0))
    ran_good (ran is h at) e n d = record { items = is; is = e ∙ ap₂ (ran is) (sym n.1) (sym n.2); brought = n.0 }

    pub good : x.bad ≡ 0 → Good
    good = ran_good front refl m

    module _ (d : x.bad ≡ 0) where
      pub large_stops : r < length ws → got_of ks parity ws ≡ stopped 13 r (begun (held_of x.held) x.since r)
      large_stops = large (good d).is

      module _ (l : length ws ≤ r) (s : Step) (c : Closes (finish (held_of x.held) x.since) s) where
        pub cut_stops : s.bad ≡ true → got_of ks parity ws ≡ stopped 13 x.since x.since
        cut_stops z = ended (good d).is l ∙ ap (before (good d).items) (finish_cut (held_of x.held) x.since s c z)

        module _ (z : s.bad ≡ false) (few : x.pen.bits ≤ 128 * length ws) where
          pub words_log : (k : Run) → k.pen ≡ step_pen x.pen s → {out' : List ℕ} → out' ≡ step_out out x.pen s → Logged ks parity ws k out'
          words_log k e {out'} o =
              let g = good d in
              let w = closed_wrote start_pass out₀ g.items x out g.brought x.since s c z (wrote_none out₀) in
              record {
                items = closed_items start_pass out₀ g.items x out g.brought x.since s c z;
                is = ended g.is l ∙ closed_got start_pass out₀ g.items x out g.brought x.since s c z;
                words = rw (take_all r ws l) at front_words;
                wrote = rw (e, o) w;
                few = rw e (omega (arith, few, closed_bits start_pass out₀ g.items x out g.brought x.since s c z));
              }
