-- One data word: what it does to what is carried is a step of the run over the words.
use Prim.Native.Nat.{ℕ, ◌+◌, ◌^◌, ◌≤◌, ◌<◌}
use native.Mathlib.Omega.{arith}
use mathlib.Core.Bool.{Bool, true, false}
use mathlib.Core.Path.{◌≡◌, refl, sym, ap, subst, ◌∙◌}
use mathlib.Core.List.{List, ◌∷◌, ◌++◌, flat_map, append_assoc}
use lib.ListN.{length}
use Rattle.format.specs.Bits.{bits_of}
use Rattle.format.specs.Word.{is_fill, bus_of, label_of, info_of}
use Rattle.format.specs.Item.{item_bits}
use Rattle.format.specs.Reader.{Slot, Fed, bad, fed, Ran, bad_at, run, more, join, feed, since, begun}
use Rattle.format.specs.declared.Kind.{Kind}
use Rattle.format.specs.declared.Item.{Item}
use Rattle.format.specs.declared.Held.{Held}
use Rattle.format.specs.Laws.Tests.{clash}
use Rattle.format.specs.Laws.Lists.{flat_map_append}
use Rattle.data_start.specs.declared.Step.{Step}
use Rattle.data_word.specs.Holding.{held_of, Sane}
use Rattle.data_word.specs.Step.{step_of}
use Rattle.data_word.specs.Meaning.{Means, Brings}
use Rattle.data_word.proofs.Meaning.{feed_means}
use Rattle.data_items.proofs.Words.{bus_low, info_low, label_low, yes_or_no}
use Rattle.log_write.specs.declared.Pen.{Pen}
use Rattle.data_run.specs.declared.Pass.{Pass}
use Rattle.data_run.specs.declared.fill.Fills.{Fills}
use Rattle.data_run.specs.Fills.{fills_in, odd_fill, on_fill}
use Rattle.log_write.specs.Pen.{Wrote}
use Rattle.data_put.specs.Put.{Strings, step_pen, step_out}
use Rattle.data_put.proofs.Steps.{fed_fits, step_bits, step_long, step_wrote}
use Rattle.data_run.specs.Pass.{fill_pass, step_pass, word_step, word_pass, word_out, Along}
use Rattle.format.proofs.Laws.Reader.Onward.{more_more}

-- ---- one word

pub word_means : (ks : List Kind) (parity : Bool) (w : ℕ) (x : Pass) → w < 2 ^ 24 → Sane x.held
    → Means (feed ks (held_of x.held) (bus_of parity w) (label_of w) (info_of w)) (word_step ks parity w x)
unfolding word_step
word_means ks parity w x low sane = feed_means ks x.held (bus_of parity w) (label_of w) (info_of w) sane (bus_low parity w low) (label_low w) (info_low w)

pub word_step_lem : (ks : List Kind) (parity : Bool) (w : ℕ) (x : Pass) {bus label info : ℕ} {r : Step} → bus ≡ bus_of parity w → label ≡ label_of w → info ≡ info_of w
    → r ≡ step_of (held_of x.held) (feed ks (held_of x.held) bus label info) → r ≡ word_step ks parity w x
unfolding word_step
word_step_lem ks parity w x b l i e = e ∙ rw (b, l, i) refl

pub word_fits : (ks : List Kind) (parity : Bool) (w : ℕ) (x : Pass) {r : Step} → w < 2 ^ 24 → Sane x.held → r ≡ word_step ks parity w x → r.bad ≡ false
    → Strings r × Sane r.held
word_fits ks parity w x low sane e z =
    subst (λ (q : Step). q.bad ≡ false → Strings q × Sane q.held) (sym e)
    (fed_fits (feed ks (held_of x.held) (bus_of parity w) (label_of w) (info_of w)) (word_step ks parity w x) (word_means ks parity w x low sane)) z

-- fill, as the code has it
pub word_fill : (ks : List Kind) (parity : Bool) (code i number word : ℕ) (x : Pass) {bus : ℕ} {odd : Bool} {f : Fills} → is_fill word ≡ true → bus ≡ bus_of parity word
    → odd ≡ odd_fill code i bus → f ≡ on_fill x.fills number odd
    → record { held = x.held; since = x.since; pen = x.pen; fills = f; bad = 0 } ≡ word_pass ks parity code i number word x
unfolding word_pass
word_fill ks parity code i number word x e b o f = rw (e, f, o, b) refl

-- ---- one word of a row

module _ (ks : List Kind) (parity : Bool) (code : ℕ) (slots : List Slot) (x₀ : Pass) (out₀ : List ℕ) (i : ℕ) (s : Slot) (rest : List Slot) (x : Pass) (out : List ℕ) where
  abbrev now_run : Ran
  now_run = run ks parity (s ∷ rest) (held_of x.held) x.since

  run_fill : is_fill s.1 ≡ true → now_run ≡ run ks parity rest (held_of x.held) x.since
  unfolding run
  run_fill e = rw e refl

  run_data : (f : Fed) → is_fill s.1 ≡ false → feed ks (held_of x.held) (bus_of parity s.1) (label_of s.1) (info_of s.1) ≡ f
      → now_run ≡ join f x.since (begun (held_of x.held) x.since s.0) s.0 (λ h q. run ks parity rest h q)
  unfolding run
  run_data f e g = rw (e, g) refl

  along_fill : is_fill s.1 ≡ true → Along ks parity code slots x₀ out₀ i (s ∷ rest) x out
      → Along ks parity code slots x₀ out₀ (i + 1) rest (fill_pass parity code i s.0 s.1 x) out
  unfolding fills_in
  along_fill e a = record {
    items = a.items;
    is = a.is ∙ ap (more a.items) (run_fill e);
    fill = a.fill ∙ rw e refl;
    brought = record {
      sound = record { good = refl; sane = a.brought.sound.sane };
      long = a.brought.long;
      wrote = a.brought.wrote;
    };
    few = omega (arith, a.few);
  }

  along_fed : (f : Fed) → is_fill s.1 ≡ false → feed ks (held_of x.held) (bus_of parity s.1) (label_of s.1) (info_of s.1) ≡ f → (r : Step) → Means f r
      → r.bad ≡ false → Along ks parity code slots x₀ out₀ i (s ∷ rest) x out
      → Along ks parity code slots x₀ out₀ (i + 1) rest (step_pass s.0 x r) (step_out out x.pen r)
  unfolding fills_in
  along_fed bad e g r m z a = clash (sym z ∙ m)
  along_fed (fed is h) e g r m z a =
      rw z
      (record {
        items = a.items ++ is;
        is = a.is ∙ ap (more a.items) (run_data (fed is h) e g) ∙ more_more a.items is (run ks parity rest h (since h x.since s.0))
            ∙ ap (λ (k : Held). more (a.items ++ is) (run ks parity rest k (since k x.since s.0))) (sym m.holds);
        fill = a.fill ∙ rw e refl;
        brought = record {
          sound = record { good = refl; sane = m.sane };
          long = step_long is h r m x.pen out ∙ a.brought.long;
          wrote = λ bits y.
              subst (λ (n : List ℕ). Wrote n (step_out out x.pen r) (step_pen x.pen r))
              (append_assoc bits (flat_map item_bits a.items) (flat_map item_bits is) ∙ ap (◌++◌ bits) (sym (flat_map_append item_bits a.items is)))
              (step_wrote is h r m x.pen (bits ++ flat_map item_bits a.items) out (a.brought.wrote bits y));
        };
        few = omega (arith, a.few, step_bits is h r m x.pen);
      })

  along_bad : (f : Fed) → is_fill s.1 ≡ false → feed ks (held_of x.held) (bus_of parity s.1) (label_of s.1) (info_of s.1) ≡ f → (r : Step) → Means f r
      → r.bad ≡ true → Along ks parity code slots x₀ out₀ i (s ∷ rest) x out
      → run ks parity slots (held_of x₀.held) x₀.since ≡ bad_at s.0 (begun (held_of x.held) x.since s.0)
  along_bad bad e g r m z a = a.is ∙ ap (more a.items) (run_data bad e g)
  along_bad (fed is h) e g r m z a = clash (sym m.good ∙ z)

  -- what the slot does, as the code has it
  pub along_step : s.1 < 2 ^ 24 → Along ks parity code slots x₀ out₀ i (s ∷ rest) x out
      → (word_pass ks parity code i s.0 s.1 x).bad ≡ 0
      → Along ks parity code slots x₀ out₀ (i + 1) rest (word_pass ks parity code i s.0 s.1 x) (word_out ks parity s.1 x out)
  unfolding word_pass word_out
  along_step low a z =
      yes_or_no (is_fill s.1) (λ e. rw e (along_fill e a))
      (λ e.
      let r : Step = word_step ks parity s.1 x in
      let y : (step_pass s.0 x r).bad ≡ 0 = rw e at z in
      yes_or_no r.bad (λ b. let w : s.0 + 1 ≡ 0 = rw b at y in absurd (omega arith))
      (λ b. rw e (rw b (rw b at (along_fed _ e refl r (word_means ks parity s.1 x low a.brought.sound.sane) b a)))))

  pub along_stop : s.1 < 2 ^ 24 → Along ks parity code slots x₀ out₀ i (s ∷ rest) x out → ((word_pass ks parity code i s.0 s.1 x).bad ≡ 0 → ⊥)
      → (run ks parity slots (held_of x₀.held) x₀.since ≡ bad_at s.0 (word_pass ks parity code i s.0 s.1 x).since)
      × ((word_pass ks parity code i s.0 s.1 x).bad ≡ s.0 + 1)
  unfolding word_pass
  along_stop low a z =
      yes_or_no (is_fill s.1) (λ e. absurd (z (rw e refl)))
      (λ e.
      let r : Step = word_step ks parity s.1 x in
      yes_or_no r.bad
      (λ b. (rw (e, b) (along_bad _ e refl r (word_means ks parity s.1 x low a.brought.sound.sane) b a), rw (e, b) refl))
      (λ b. absurd (z (rw (e, b) refl))))
