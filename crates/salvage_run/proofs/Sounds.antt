-- What is carried stays sound: few bits, few entries, low numbers.
use Prim.Native.Nat.{ℕ, ◌+◌, ◌*◌, ◌^◌, ◌<◌, ◌≤◌}
use native.Mathlib.Omega.{arith}
use mathlib.Core.Bool.{Bool, true, false}
use mathlib.Core.Path.{◌≡◌, refl, sym, ap, subst, ◌∙◌}
use mathlib.Core.List.{List, [], ◌∷◌}
use lib.ListN.{length}
use Rattle.format.specs.Plan.{stored_at}
use Rattle.format.specs.Word.{bus_of, label_of, info_of}
use Rattle.format.specs.Reader.{Fed, bad, fed, feed}
use Rattle.format.specs.Read.{Got, got, stopped, finish}
use Rattle.format.specs.declared.Kind.{Kind}
use Rattle.format.specs.declared.Plan.{Plan}
use Rattle.format.specs.declared.Item.{Item}
use Rattle.format.specs.declared.Held.{Held}
use Rattle.format.specs.declared.Held.TheVariants.{Nothing}
use Rattle.format.specs.Laws.Tests.{clash}
use Rattle.salvage_rules.specs.Salvage.{held_words}
use Rattle.data_start.specs.declared.Step.{Step}
use Rattle.data_start.specs.Holding.{flat}
use Rattle.data_word.specs.Holding.{held_of, Sane}
use Rattle.data_word.specs.Meaning.{Brings, Means, Closes}
use Rattle.data_word.proofs.Meaning.{finish_means, nothing_is_sane}
use Rattle.data_put.proofs.Steps.{step_bits}
use Rattle.salvage_run.specs.declared.Last.{Last}
use Rattle.salvage_run.specs.declared.Pass.{Pass}
use Rattle.salvage_run.specs.Tape.{drop_held, freed, held_places, let_go, Low, on_word, put, shifted, Sound, Tape, taken, tape, told, try_start, word_step}
use Rattle.salvage_run.proofs.Held.{held_few, length_last}
use Rattle.salvage_run.proofs.Steps.{let_dropped, let_put, start_lost, start_means, start_taken, word_broken, word_means, word_taken}

pub low_more : {a : ℕ} (b : ℕ) {l : Last} → a ≤ b → Low a l → Low b l
low_more b h x =
    record { first_low = omega (arith, x.first_low); second_low = omega (arith, x.second_low); third_low = omega (arith, x.third_low); fourth_low = omega (arith, x.fourth_low) }

low_next : (n : ℕ) {l : Last} → Low (n + 1) l → Low (n + 1 + 1) (shifted l n)
low_next n x = record { first_low = omega (arith, x.second_low); second_low = omega (arith, x.third_low); third_low = omega (arith, x.fourth_low); fourth_low = omega arith }

-- so many bits and entries more
pub record Grew (bits entries : ℕ) (x x' : Pass) : Type 0 where
  pub sane : Sane x'.held
  pub few_bits : x'.pen.bits ≤ x.pen.bits + bits
  pub few_entries : x'.entries ≤ x.entries + entries

grew_put : (is : List Item) (h : Held) (s : Step) (l : Last) (t : Tape) → Brings is h s → Grew 92 0 t.pass (put s l t).pass
grew_put is h s l t b = record { sane = b.sane; few_bits = step_bits is h s b t.pass.pen; few_entries = omega arith }

pub grew_told : (ns : List ℕ) (n : ℕ) (t : Tape) → length ns ≤ n → Grew 0 n t.pass (told ns t).pass
grew_told ns n t h = record { sane = nothing_is_sane; few_bits = omega arith; few_entries = omega arith }

pub places_few : (p : Plan) (x : Pass) → length (held_places p x) ≤ 4
places_few p x = omega (arith, length_last (stored_at p) (held_words (held_of x.held)) x.last (held_few (held_of x.held)), held_few (held_of x.held))

-- ---- what is held is let go

pub record Gone (t t' : Tape) : Type 0 where
  pub free : t'.pass.held ≡ flat Nothing
  pub last : t'.pass.last ≡ t.pass.last
  pub grew : Grew 92 4 t.pass t'.pass

module _ (p : Plan) (t : Tape) where
  gone_by : (g : Got) → Closes g (freed t.pass) → Gone t (let_go p t)
  gone_by (got is) m =
      let g = grew_put is Nothing (freed t.pass) t.pass.last t m in
      subst (Gone t) (let_put p t refl m.good)
      (record {
        free = m.sane.is ∙ ap flat m.holds;
        last = refl;
        grew = record { sane = g.sane; few_bits = g.few_bits; few_entries = omega arith };
      })
  gone_by (stopped n q s) m =
      let g = grew_told (held_places p t.pass) 4 t (places_few p t.pass) in
      subst (Gone t) (let_dropped p t refl m)
      (record { free = refl; last = refl; grew = record { sane = g.sane; few_bits = omega arith; few_entries = g.few_entries } })

  pub let_gone : Sane t.pass.held → Gone t (let_go p t)
  let_gone s = gone_by (finish (held_of t.pass.held) 0) (finish_means t.pass.held s 0)

  -- as the code has it
  pub gone_few : {y : Pass} {out rep : List ℕ} → Sane t.pass.held → tape y out rep ≡ let_go p t → Grew 92 4 t.pass y
  gone_few s e = subst (λ (u : Tape). Grew 92 4 t.pass u.pass) (sym e) (let_gone s).grew

-- ---- a word

-- and the number of the last word
record Moved (n bits entries : ℕ) (x x' : Pass) : Type 0 where
  pub grew : Grew bits entries x x'
  pub low : Low (n + 1) x.last → Low (n + 1 + 1) x'.last

module _ (p : Plan) (ks : List Kind) (number word : ℕ) (small : word < 2 ^ 24) where
  moved_put : (is : List Item) (h : Held) (s : Step) (t : Tape) → Brings is h s → Moved number 92 1 t.pass (taken number s t).pass
  moved_put is h s t b =
      let g = grew_put is h s (shifted t.pass.last number) t b in
      record { grew = record { sane = g.sane; few_bits = g.few_bits; few_entries = omega arith }; low = λ l. low_next number l }

  start_by : (t : Tape) (f : Fed) → Means f (word_step ks p.parity Nothing word) → Moved number 92 1 t.pass (try_start ks p number word t).pass
  start_by t bad m =
      let g = grew_told (stored_at p number ∷ []) 1 t (omega arith) in
      subst (λ (u : Tape). Moved number 92 1 t.pass u.pass) (start_lost p t ks number word refl m)
      (record { grew = record { sane = g.sane; few_bits = omega arith; few_entries = g.few_entries }; low = λ l. low_more (number + 1 + 1) (omega arith) l })
  start_by t (fed is h) m =
      subst (λ (u : Tape). Moved number 92 1 t.pass u.pass) (start_taken p t ks number word refl m.good refl)
      (moved_put is h (word_step ks p.parity Nothing word) t m)

  start_moved : (t : Tape) → Moved number 92 1 t.pass (try_start ks p number word t).pass
  start_moved t = start_by t (feed ks Nothing (bus_of p.parity word) (label_of word) (info_of word)) (start_means ks p.parity word small)

  word_by : (t : Tape) → Sane t.pass.held → (f : Fed) → Means f (word_step ks p.parity (held_of t.pass.held) word)
      → Moved number 184 5 t.pass (on_word ks p number word t).pass
  word_by t s bad m =
      let g = let_gone p t s in
      let v = start_moved (let_go p t) in
      subst (λ (u : Tape). Moved number 184 5 t.pass u.pass) (word_broken p t ks number word refl m)
      (record {
        grew = record {
          sane = v.grew.sane;
          few_bits = omega (arith, g.grew.few_bits, v.grew.few_bits);
          few_entries = omega (arith, g.grew.few_entries, v.grew.few_entries);
        };
        low = λ l. v.low (subst (Low (number + 1)) (sym g.last) l);
      })
  word_by t s (fed is h) m =
      let v = moved_put is h (word_step ks p.parity (held_of t.pass.held) word) t m in
      subst (λ (u : Tape). Moved number 184 5 t.pass u.pass) (word_taken p t ks number word refl m.good refl)
      (record { grew = record { sane = v.grew.sane; few_bits = omega (arith, v.grew.few_bits); few_entries = omega (arith, v.grew.few_entries) }; low = v.low })

  word_moved : (t : Tape) → Sane t.pass.held → Moved number 184 5 t.pass (on_word ks p number word t).pass
  word_moved t s =
      word_by t s (feed ks (held_of t.pass.held) (bus_of p.parity word) (label_of word) (info_of word)) (word_means ks p.parity t.pass.held word small s)

  pub word_sane : (t : Tape) → Sane t.pass.held → Sane (on_word ks p number word t).pass.held
  word_sane t s = (word_moved t s).grew.sane

  pub word_sound : (t : Tape) → Sound number t.pass → Sound (number + 1) (on_word ks p number word t).pass
  word_sound t x =
      let v = word_moved t x.sane in
      record {
        sane = v.grew.sane;
        low = v.low x.low;
        few_bits = omega (arith, v.grew.few_bits, x.few_bits);
        few_entries = omega (arith, v.grew.few_entries, x.few_entries);
      }

-- fill
pub fill_sound : (n : ℕ) (x : Pass) → Sound n x → Sound (n + 1) x
fill_sound n x s =
    record { sane = s.sane; low = low_more (n + 1 + 1) (omega arith) s.low; few_bits = omega (arith, s.few_bits); few_entries = omega (arith, s.few_entries) }
