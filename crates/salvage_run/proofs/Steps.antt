-- What the code does at a word, as the definitions say it.
use Prim.Native.Nat.{ℕ, ◌+◌, ◌*◌, ◌^◌, ◌<◌, ◌≤◌}
use native.Mathlib.Numerals.{add-one}
use native.Mathlib.Omega.{arith}
use mathlib.Core.Bool.{Bool, true, false, cond}
use mathlib.Core.Path.{◌≡◌, refl, sym, ap, ap₂, subst, ◌∙◌}
use mathlib.Core.List.{List, [], ◌∷◌, ◌++◌}
use lib.ListN.{length, drop, get_or, length-append, drop_of_length-le}
use lib.Seq.{drop-cons}
use Rattle.format.specs.Plan.{stored_at}
use Rattle.format.specs.Word.{bus_of, label_of, info_of, is_fill}
use Rattle.format.specs.Reader.{feed}
use Rattle.format.specs.Read.{Got, got, stopped, finish}
use Rattle.format.specs.declared.Kind.{Kind}
use Rattle.format.specs.declared.Plan.{Plan}
use Rattle.format.specs.declared.Held.{Held}
use Rattle.format.specs.declared.Held.TheVariants.{Nothing}
use Rattle.format.specs.Laws.Tests.{clash}
use Rattle.salvage_rules.specs.Salvage.{held_words}
use Rattle.data_start.specs.declared.Holding.{Holding}
use Rattle.data_start.specs.declared.Step.{Step}
use Rattle.data_start.specs.Holding.{flat}
use Rattle.data_word.specs.Holding.{held_of, Sane}
use Rattle.data_word.specs.Step.{closing, step_of}
use Rattle.data_word.specs.Meaning.{Means, Closes}
use Rattle.data_word.proofs.Flat.{nothing_is_held}
use Rattle.data_word.proofs.Meaning.{feed_means, finish_means, nothing_is_sane}
use Rattle.data_items.proofs.Words.{bus_low, info_low, label_low}
use Rattle.data_put.specs.Put.{Strings}
use Rattle.data_put.proofs.Steps.{fed_fits}
use Rattle.salvage_run.specs.declared.Last.{Last}
use Rattle.salvage_run.specs.declared.Pass.{Pass}
use Rattle.salvage_run.specs.Tape.{drop_group, drop_held, freed, held_places, let_go, on_row, on_word, put, put_all, put_at, shifted, Tape, taken, tape, told, try_start, word_step}
use Rattle.salvage_run.proofs.Held.{held_few, length_last}
use Rattle.salvage_run.proofs.Rows.{all_append, all_one}

-- ---- what a word brings

pub word_step_lem : (ks : List Kind) (parity : Bool) (h : Held) (w : ℕ) {bus label info : ℕ} {r : Step} → bus ≡ bus_of parity w → label ≡ label_of w → info ≡ info_of w
    → r ≡ step_of h (feed ks h bus label info) → r ≡ word_step ks parity h w
unfolding word_step
word_step_lem ks parity h w b l i e = e ∙ rw (b, l, i) refl

pub start_step : (ks : List Kind) (parity : Bool) (g : Holding) (w : ℕ) {bus label info : ℕ} {r : Step} → g ≡ flat Nothing → bus ≡ bus_of parity w → label ≡ label_of w
    → info ≡ info_of w → r ≡ step_of (held_of g) (feed ks (held_of g) bus label info) → r ≡ word_step ks parity Nothing w
start_step ks parity g w n b l i e =
    let z : held_of g ≡ Nothing = ap held_of n ∙ nothing_is_held in
    word_step_lem ks parity (held_of g) w b l i e ∙ ap (λ (h : Held). word_step ks parity h w) z

pub start_sane : (g : Holding) → g ≡ flat Nothing → Sane g
start_sane g n = subst Sane (sym n) nothing_is_sane

pub word_means : (ks : List Kind) (parity : Bool) (g : Holding) (w : ℕ) → w < 2 ^ 24 → Sane g
    → Means (feed ks (held_of g) (bus_of parity w) (label_of w) (info_of w)) (word_step ks parity (held_of g) w)
unfolding word_step
word_means ks parity g w low s = feed_means ks g (bus_of parity w) (label_of w) (info_of w) s (bus_low parity w low) (label_low w) (info_low w)

pub start_means : (ks : List Kind) (parity : Bool) (w : ℕ) → w < 2 ^ 24
    → Means (feed ks Nothing (bus_of parity w) (label_of w) (info_of w)) (word_step ks parity Nothing w)
start_means ks parity w low =
    subst (λ (h : Held). Means (feed ks h (bus_of parity w) (label_of w) (info_of w)) (word_step ks parity h w)) nothing_is_held
    (word_means ks parity (flat Nothing) w low nothing_is_sane)

-- strings that fit
pub word_fits : (ks : List Kind) (parity : Bool) (g : Holding) (w : ℕ) {r : Step} → w < 2 ^ 24 → Sane g → r ≡ word_step ks parity (held_of g) w → r.bad ≡ false → Strings r
word_fits ks parity g w {r} low s e z =
    (fed_fits (feed ks (held_of g) (bus_of parity w) (label_of w) (info_of w)) r
    (subst (Means (feed ks (held_of g) (bus_of parity w) (label_of w) (info_of w))) (sym e) (word_means ks parity g w low s)) z).0

pub start_fits : (ks : List Kind) (parity : Bool) (w : ℕ) {r : Step} → w < 2 ^ 24 → r ≡ word_step ks parity Nothing w → r.bad ≡ false → Strings r
start_fits ks parity w {r} low e z =
    (fed_fits (feed ks Nothing (bus_of parity w) (label_of w) (info_of w)) r
    (subst (Means (feed ks Nothing (bus_of parity w) (label_of w) (info_of w))) (sym e) (start_means ks parity w low)) z).0

closing_fits : (g : Got) (r : Step) → Closes g r → r.bad ≡ false → Strings r
closing_fits (got is) r m z =
    record { first_fits = m.first_fits; second_fits = m.second_fits; first_short = omega (arith, m.first_short); second_short = omega (arith, m.second_short) }
closing_fits (stopped n q s) r m z = clash (sym z ∙ m)

pub freed_fits : (x : Pass) {r : Step} → Sane x.held → r ≡ freed x → r.bad ≡ false → Strings r
freed_fits x {r} s e z = closing_fits (finish (held_of x.held) 0) r (subst (Closes (finish (held_of x.held) 0)) (sym e) (finish_means x.held s 0)) z

-- ---- one step

-- what is held is reported, and dropped
pub tape_dropped : (p : Plan) (x : Pass) (out rep : List ℕ) {g : Holding} {words entries : ℕ} {rep' : List ℕ} → g ≡ flat Nothing → words ≡ held_words (held_of x.held)
    → entries ≡ x.entries + words → rep' ≡ put_all rep x.entries (held_places p x)
    → tape (record { held = g; last = x.last; pen = x.pen; entries = entries }) out rep' ≡ drop_held p (tape x out rep)
tape_dropped p x out rep {g} {words} {entries} {rep'} n w e r =
    let l : length (held_places p x) ≡ words = length_last (stored_at p) (held_words (held_of x.held)) x.last (held_few (held_of x.held)) ∙ sym w in
    rw (n, e, r, l) refl

-- a word is reported, nothing being held
pub tape_lost : (p : Plan) (x : Pass) (out rep : List ℕ) (number : ℕ) {g : Holding} {place : ℕ} {rep' : List ℕ} → g ≡ flat Nothing → place ≡ stored_at p number
    → rep' ≡ put_at rep x.entries place
    → tape (record { held = g; last = x.last; pen = x.pen; entries = x.entries + 1 }) out rep' ≡ told (stored_at p number ∷ []) (tape x out rep)
tape_lost p x out rep number n q r = rw (n, r, q, ← (all_one rep x.entries (stored_at p number))) refl

module _ (p : Plan) (t : Tape) where
  pub let_dropped : {r : Step} → r ≡ freed t.pass → r.bad ≡ true → drop_held p t ≡ let_go p t
  unfolding let_go
  let_dropped e z = let b : (freed t.pass).bad ≡ true = sym (ap (λ (s : Step). s.bad) e) ∙ z in rw b refl

  pub let_put : {r : Step} → r ≡ freed t.pass → r.bad ≡ false → put r t.pass.last t ≡ let_go p t
  unfolding let_go
  let_put e z =
      let b : (freed t.pass).bad ≡ false = sym (ap (λ (s : Step). s.bad) e) ∙ z in
      rw b (ap (λ (s : Step). put s t.pass.last t) e)

  module _ (ks : List Kind) (number word : ℕ) where
    pub start_lost : {r : Step} → r ≡ word_step ks p.parity Nothing word → r.bad ≡ true → told (stored_at p number ∷ []) t ≡ try_start ks p number word t
    unfolding try_start
    start_lost e z = let b : (word_step ks p.parity Nothing word).bad ≡ true = sym (ap (λ (s : Step). s.bad) e) ∙ z in rw b refl

    pub start_taken : {r : Step} {l : Last} → r ≡ word_step ks p.parity Nothing word → r.bad ≡ false → l ≡ shifted t.pass.last number
        → put r l t ≡ try_start ks p number word t
    unfolding try_start
    start_taken e z f =
        let b : (word_step ks p.parity Nothing word).bad ≡ false = sym (ap (λ (s : Step). s.bad) e) ∙ z in
        rw (b, f) (ap (λ (s : Step). taken number s t) e)

    pub word_broken : {r : Step} → r ≡ word_step ks p.parity (held_of t.pass.held) word → r.bad ≡ true → try_start ks p number word (let_go p t) ≡ on_word ks p number word t
    unfolding on_word
    word_broken e z = let b : (word_step ks p.parity (held_of t.pass.held) word).bad ≡ true = sym (ap (λ (s : Step). s.bad) e) ∙ z in rw b refl

    pub word_taken : {r : Step} {l : Last} → r ≡ word_step ks p.parity (held_of t.pass.held) word → r.bad ≡ false → l ≡ shifted t.pass.last number
        → put r l t ≡ on_word ks p number word t
    unfolding on_word
    word_taken e z f =
        let b : (word_step ks p.parity (held_of t.pass.held) word).bad ≡ false = sym (ap (λ (s : Step). s.bad) e) ∙ z in
        rw (b, f) (ap (λ (s : Step). taken number s t) e)

-- ---- a dropped group

-- one entry more
abbrev again : Tape → ℕ → Tape
again u e = tape (record { held = u.pass.held; last = u.pass.last; pen = u.pass.pen; entries = u.pass.entries + 1 }) u.out (put_at u.report u.pass.entries e)

pub tape_gap : (p : Plan) (number g : ℕ) (t u : Tape) → u ≡ drop_held p t → again u (number * 2 ^ 32 + g) ≡ drop_group p number g t
unfolding drop_group
tape_gap p number g t u h =
    let ps : List ℕ = held_places p t.pass in
    let e : ℕ = number * 2 ^ 32 + g in
    let n : t.pass.entries + length (ps ++ e ∷ []) ≡ t.pass.entries + length ps + 1 = rw (length-append ps (e ∷ [])) (omega arith) in
    ap (λ (v : Tape). again v e) h ∙ rw (n, all_append t.report t.pass.entries ps (e ∷ []), all_one (put_all t.report t.pass.entries ps) (t.pass.entries + length ps) e) refl

-- ---- a row

module _ (ks : List Kind) (p : Plan) (from : ℕ) (row : List ℕ) where
  abbrev rest : ℕ → Tape → Tape
  rest i t = on_row ks p (from + i) (drop i row) t

  pub row_none : (t : Tape) → on_row ks p from row t ≡ rest 0 t
  row_none t = let z : from ≡ from + 0 = omega arith in ap (λ (k : ℕ). on_row ks p k row t) z

  row_next : (i : ℕ) (t : Tape) → i < length row → rest i t ≡ rest (i + 1) (cond (is_fill (get_or row i 0)) t (on_word ks p (from + i) (get_or row i 0) t))
  unfolding on_row
  row_next i t h =
      let z : from + i + 1 ≡ from + (i + 1) = omega arith in
      ap (λ (l : List ℕ). on_row ks p (from + i) l t) (drop-cons row i 0 h)
      ∙ ap₂ (λ (k m : ℕ). on_row ks p k (drop m row) (cond (is_fill (get_or row i 0)) t (on_word ks p (from + i) (get_or row i 0) t))) z (sym (add-one i))

  pub row_fill : (i : ℕ) (t : Tape) → i < length row → is_fill (get_or row i 0) ≡ true → rest i t ≡ rest (i + 1) t
  row_fill i t h e = row_next i t h ∙ rw e refl

  pub row_word : (i : ℕ) (t : Tape) → i < length row → is_fill (get_or row i 0) ≡ false → rest i t ≡ rest (i + 1) (on_word ks p (from + i) (get_or row i 0) t)
  row_word i t h e = row_next i t h ∙ rw e refl

  pub row_all : (i : ℕ) (t : Tape) → length row ≤ i → rest i t ≡ t
  unfolding on_row
  row_all i t h = ap (λ (l : List ℕ). on_row ks p (from + i) l t) (drop_of_length-le row h)
