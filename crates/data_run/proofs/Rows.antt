-- The words of a row, one after the other.
use Prim.Native.Nat.{ℕ, zero, suc, ◌+◌, ◌*◌, ◌-◌, ◌^◌, ◌≤◌, ◌<◌}
use native.Mathlib.Decide.{dec_lt}
use native.Mathlib.Omega.{arith}
use mathlib.Core.Bool.{Bool, true, false, cond, ◌&&◌}
use mathlib.Core.Path.{◌≡◌, refl, sym, ap, subst, ◌∙◌}
use mathlib.Core.List.{List, [], ◌∷◌, ◌++◌, append_assoc, append-nil, flat_map}
use lib.ListN.{length, take, drop, get_or, take-append-drop, length-drop}
use lib.Seq.{drop-append-le, get_or-take, length-take-le}
use lib.Dec.{eqb, leb}
use borrow.Author.Tests.{eq-eqb, eqb-true, leb-false, leb-true, lt-ltb, ne_eqb}
use Rattle.format.specs.Word.{fill, is_fill, bus_of, sent}
use Rattle.format.specs.Item.{item_bits}
use Rattle.format.specs.Reader.{Slot, Ran, ran, run, more, counted}
use Rattle.format.specs.declared.Kind.{Kind}
use Rattle.format.specs.declared.Item.{Item}
use Rattle.format.specs.declared.Held.{Held}
use Rattle.format.specs.declared.Held.TheVariants.{Nothing}
use Rattle.format.specs.Laws.Tests.{and_true, clash}
use Rattle.format.specs.Lawful.{buses}
use Rattle.format.specs.Laws.Lists.{flat_map_append}
use Rattle.format.specs.Laws.Word.Parts.{fill_bus, fill_sent}
use Rattle.format.specs.Laws.Reader.Counted.{counted_all, counted_append, counted_next, counted_none}
use Rattle.data_word.specs.Holding.{held_of}
use Rattle.data_items.specs.declared.Taken.{Taken}
use Rattle.data_items.specs.Taken.{Roomy, Took, last_of}
use Rattle.data_items.specs.Row.{Words}
use Rattle.data_items.proofs.Words.{yes_or_no}
use Rattle.data_items.proofs.Items.{held_none}
use Rattle.data_run.specs.declared.Pass.{Pass}
use Rattle.data_run.specs.declared.fill.Fills.{Fills}
use Rattle.data_run.specs.Fills.{all_fill, fills_in, on_data, quiet}
use Rattle.log_write.specs.Pen.{Wrote, words_in}
use Rattle.data_run.specs.Pass.{word_pass, word_out, taken_from, items_pass, least_of, Along, FromPass, PastFill, RanTo, Sound}
use Rattle.data_run.proofs.OneSlot.{along_step, along_stop}
use Rattle.format.proofs.Laws.Reader.Onward.{and_then, more_none, more_more, more_then, run_append}

-- fill that changes nothing

module _ (blank : ℕ) where
  quiet_is : (f : Fills) (i w : ℕ) → quiet blank f i w ≡ true → (w ≡ blank) × (eqb f.first 0 ≡ false) × (eqb i 0 ≡ false)
  quiet_is f i w e =
      yes_or_no (eqb w blank)
      (λ a.
      yes_or_no (eqb f.first 0) (λ b. clash (rw (a, b) at e))
      (λ b. yes_or_no (eqb i 0) (λ d. clash (rw (a, b, d) at e)) (λ d. (eqb-true w blank a, b, d))))
      (λ a. clash (rw a at e))

  quiet_here : (f : Fills) (i w : ℕ) → (f.first ≡ 0 → ⊥) → (i ≡ 0 → ⊥) → w ≡ blank → quiet blank f i w ≡ true
  quiet_here f i w a b e = rw (eq-eqb w blank e, ne_eqb f.first 0 a, ne_eqb i 0 b) refl

  first_not_quiet : (f : Fills) (i w : ℕ) → f.first ≡ 0 → quiet blank f i w ≡ false
  first_not_quiet f i w a = yes_or_no (eqb w blank) (λ e. rw (e, eq-eqb f.first 0 a) refl) (λ e. rw e refl)

  front_not_quiet : (f : Fills) (i w : ℕ) → i ≡ 0 → quiet blank f i w ≡ false
  front_not_quiet f i w a =
      yes_or_no (eqb w blank) (λ e. yes_or_no (eqb f.first 0) (λ d. rw (e, d) refl) (λ d. rw (e, d, eq-eqb i 0 a) refl)) (λ e. rw e refl)

  data_not_quiet : (f : Fills) (i w : ℕ) → (w ≡ blank → ⊥) → quiet blank f i w ≡ false
  data_not_quiet f i w a = rw (ne_eqb w blank a) refl

-- P from i on, up to one further
pub upto_more : (P : ℕ → Type 0) (i s : ℕ) → ((k : ℕ) → i ≤ k → k < s → P k) → P s → (k : ℕ) → i ≤ k → k < s + 1 → P k
upto_more P i s f here k l u = go (dec_lt k s)
  where
    go : Dec (k < s) → P k
    go (yes h) = f k l h
    go (no h) = let z : s ≡ k = omega arith in subst P z here

module _ (blank : ℕ) where
  -- up to four further
  pub four_more : (row : List ℕ) (i s : ℕ) → ((k : ℕ) → i ≤ k → k < s → get_or row k 0 ≡ blank)
      → true ≡ all_fill blank (get_or row s 0) (get_or row (s + 1) 0) (get_or row (s + 2) 0) (get_or row (s + 3) 0) → (k : ℕ) → i ≤ k → k < s + 4 → get_or row k 0 ≡ blank
  four_more row i s f e k l u = go₀ (dec_lt k s)
    where
      at : ℕ → Bool
      at n = eqb (get_or row (s + n) 0) blank

      h₀ : (eqb (get_or row s 0) blank ≡ true) × ((at 1 && (at 2 && at 3)) ≡ true)
      h₀ = and_true (eqb (get_or row s 0) blank) (at 1 && (at 2 && at 3)) (sym e)

      h₁ : (at 1 ≡ true) × ((at 2 && at 3) ≡ true)
      h₁ = and_true (at 1) (at 2 && at 3) h₀.1

      h₂ : (at 2 ≡ true) × (at 3 ≡ true)
      h₂ = and_true (at 2) (at 3) h₁.1

      is : (n : ℕ) → at n ≡ true → k ≡ s + n → get_or row k 0 ≡ blank
      is n t z = ap (λ (m : ℕ). get_or row m 0) z ∙ eqb-true _ _ t

      go₃ : Dec (k < s + 3) → (k < s + 3 → get_or row k 0 ≡ blank) → get_or row k 0 ≡ blank
      go₃ (yes h) g = g h
      go₃ (no h) g = is 3 h₂.1 (omega arith)

      go₂ : Dec (k < s + 2) → (k < s + 2 → get_or row k 0 ≡ blank) → k < s + 3 → get_or row k 0 ≡ blank
      go₂ (yes h) g m = g h
      go₂ (no h) g m = is 2 h₂.0 (omega arith)

      go₁ : Dec (k < s + 1) → (k < s + 1 → get_or row k 0 ≡ blank) → k < s + 2 → get_or row k 0 ≡ blank
      go₁ (yes h) g m = g h
      go₁ (no h) g m = is 1 h₁.0 (omega arith)

      go₀ : Dec (k < s) → get_or row k 0 ≡ blank
      go₀ (yes h) = f k l h
      go₀ (no h) =
          go₃ (dec_lt k (s + 3))
          (go₂ (dec_lt k (s + 2)) (go₁ (dec_lt k (s + 1)) (λ m. let z : k ≡ s = omega arith in ap (λ (n : ℕ). get_or row n 0) z ∙ eqb-true _ _ h₀.0)))

  -- passed up to s, or not at all
  pub past_first : (row : List ℕ) (f : Fills) (i : ℕ) → i ≤ length row → f.first ≡ 0 → PastFill blank row f i i
  past_first row f i h e = record { onward = omega arith; room = h; quiets = λ k l u. absurd (omega arith); ends = λ u. first_not_quiet blank f i (get_or row i 0) e }

  pub past_front : (row : List ℕ) (f : Fills) (i : ℕ) → i ≤ length row → i ≡ 0 → PastFill blank row f i i
  past_front row f i h e = record { onward = omega arith; room = h; quiets = λ k l u. absurd (omega arith); ends = λ u. front_not_quiet blank f i (get_or row i 0) e }

  -- the plan's fill from the word i up to s
  pub record Filled (row : List ℕ) (i s : ℕ) : Type 0 where
    pub onward : i ≤ s
    pub room : s ≤ length row
    pub all : (k : ℕ) → i ≤ k → k < s → get_or row k 0 ≡ blank

  pub filled_none : (row : List ℕ) (i : ℕ) → i ≤ length row → Filled row i i
  filled_none row i h = record { onward = omega arith; room = h; all = λ k l u. absurd (omega arith) }

  pub filled_one : {row : List ℕ} {i s : ℕ} → Filled row i s → s < length row → get_or row s 0 ≡ blank → Filled row i (s + 1)
  filled_one {row} {i} {s} f h e = record { onward = omega (arith, f.onward); room = omega arith; all = upto_more (λ k. get_or row k 0 ≡ blank) i s f.all e }

  pub filled_four : {row : List ℕ} {i s : ℕ} → Filled row i s → s + 4 ≤ length row
      → true ≡ all_fill blank (get_or row s 0) (get_or row (s + 1) 0) (get_or row (s + 2) 0) (get_or row (s + 3) 0) → Filled row i (s + 4)
  filled_four {row} {i} {s} f h e = record { onward = omega (arith, f.onward); room = h; all = four_more row i s f.all e }

  pub past_some : (row : List ℕ) (f : Fills) {i s : ℕ} → Filled row i s → (f.first ≡ 0 → ⊥) → (i ≡ 0 → ⊥) → (s < length row → get_or row s 0 ≡ blank → ⊥) → PastFill blank row f i s
  past_some row f {i} {s} h a b e = record {
    onward = h.onward;
    room = h.room;
    quiets = λ k l u. quiet_here blank f k (get_or row k 0) a (λ z. b (omega arith)) (h.all k l u);
    ends = λ u. data_not_quiet blank f s (get_or row s 0) (e u);
  }

-- ---- a row and its front

module _ (ks : List Kind) (parity : Bool) where
  module _ (row : List ℕ) (e : ℕ) (within : e ≤ length row) where
    front_long : length (take e row) ≡ e
    front_long = length-take-le e row within

    rest_split : (n i : ℕ) → i ≤ e → counted (n + i) (drop i row) ≡ counted (n + i) (drop i (take e row)) ++ counted (n + e) (drop e row)
    rest_split n i h =
        let z : n + i + length (drop i (take e row)) ≡ n + e = rw (length-drop i (take e row), front_long) (omega arith) in
        ap (λ (l : List ℕ). counted (n + i) (drop i l)) (sym (take-append-drop e row))
        ∙ ap (counted (n + i)) (drop-append-le i (take e row) (drop e row) (rw front_long h))
        ∙ counted_append (n + i) (drop i (take e row)) (drop e row) ∙ ap (λ (k : ℕ). counted (n + i) (drop i (take e row)) ++ counted k (drop e row)) z

    abbrev front : ℕ → ℕ → List Slot
    front n i = counted (n + i) (drop i (take e row))

    run_front : (n i old : ℕ) → i ≤ e → run ks parity (counted (n + i) (drop i row)) Nothing old ≡ and_then (run ks parity (front n i) Nothing old)
        (λ h p. run ks parity (counted (n + e) (drop e row)) h p)
    run_front n i old h =
        ap (λ (ss : List Slot). run ks parity ss Nothing old) (rest_split n i h) ∙ run_append ks parity (front n i) (counted (n + e) (drop e row)) Nothing old

    -- what was taken from the front of a row was taken from the row
    pub took_front : {t t' : Taken} {out out' : List ℕ} → Took ks parity (take e row) t out t' out' → Took ks parity row t out t' out'
    took_front {t} {t'} {out} {out'} k =
        let r : t'.slot ≤ e = rw front_long at k.room in
        record {
          items = k.items;
          is = λ n old.
              let last : ℕ = last_of n old t.slot t'.slot in
              let go : Held → ℕ → Ran = λ h p. run ks parity (counted (n + e) (drop e row)) h p in
              run_front n t.slot old (omega (arith, k.onward)) ∙ ap (λ (x : Ran). and_then x go) (k.is n old)
              ∙ more_then k.items (run ks parity (front n t'.slot) Nothing last) go
              ∙ ap (more k.items) (sym (run_front n t'.slot last r));
          unfilled = λ m a b. ap is_fill (sym (get_or-take e row m 0 (omega arith))) ∙ k.unfilled m a b;
          onward = k.onward;
          room = omega arith;
          long = k.long;
          wrote = k.wrote;
          few = k.few;
          none = k.none;
        }

-- as many words as there is room for
pub least_below : (a b : ℕ) → (least_of a b ≤ a) × (least_of a b ≤ b) × ((i : ℕ) → i ≤ a → i ≤ b → i ≤ least_of a b)
least_below a b =
    yes_or_no (leb a b) (λ e. rw e (omega arith, leb-true a b e, λ i x y. x)) (λ e. rw e (omega (arith, leb-false a b e), omega arith, λ i x y. y))

pub least_le : (a b : ℕ) {e : ℕ} → e ≡ least_of a b → e ≤ a
least_le a b e = rw e (least_below a b).0

pub words_front : (row : List ℕ) (e : ℕ) → e ≤ length row → Words row → Words (take e row)
words_front row e h w i l =
    let u : i < e = rw (length-take-le e row h) at l in
    rw (get_or-take e row i 0 u) (w i (omega arith))

pub front_roomy : (row : List ℕ) (x : Pass) (i : ℕ) {e n : ℕ} (out : List ℕ) → i ≤ length row → length row < 2 ^ 40 → x.pen.bits < 2 ^ 59
    → e ≡ least_of (length row) (i + n) → n ≡ words_in x.pen (length out) → Roomy (take e row) (taken_from x i) out
front_roomy row x i {e} {n} out h s few a b =
    let l = least_below (length row) (i + n) in
    let m : e ≤ length row = rw a l.0 in
    let o : e ≤ i + n = rw a l.1 in
    let p : i ≤ e = rw a (l.2 i h (omega arith)) in
    let z : length (take e row) ≡ e = length-take-le e row m in
    record { within = rw z p; short = rw z (omega arith); few = few; room = λ u. rw z (roomy (rw z at u) o) }
  where
    roomy : i < e → e ≤ i + n → x.pen.bits + 32 * (e - i) + 64 ≤ 8 * length out
    roomy u o = omega arith

pub from_front : (ks : List Kind) (parity : Bool) (row : List ℕ) (x : Pass) (i : ℕ) {e : ℕ} {out out' : List ℕ} {t : Taken} → e ≤ length row → x.held.awaits ≡ 0
    → Took ks parity (take e row) (taken_from x i) out t out' → FromPass ks parity row x i out t out'
from_front ks parity row x i {e} h a k =
    let w = took_front ks parity row e h k in
    record { some = λ l. (a, w); none = λ l. w.none (omega (arith, w.onward, l)); room = w.room }

pub from_none : {ks : List Kind} {parity : Bool} {row : List ℕ} {x : Pass} {i : ℕ} {out : List ℕ} → i ≤ length row → FromPass ks parity row x i out (taken_from x i) out
from_none h = record { some = λ l. absurd (omega arith); none = λ l. refl; room = h }

-- ---- the words of a row

data_step : (parity : Bool) (code i : ℕ) (s : Slot) (ss : List Slot) (f : Fills) → is_fill s.1 ≡ false → fills_in parity code i (s ∷ ss) f ≡ fills_in parity code (i + 1) ss (on_data f)
unfolding fills_in
data_step parity code i s ss f e = rw e refl

run_none : (ks : List Kind) (parity : Bool) (is : List Item) (h : Held) (q : ℕ) → more is (run ks parity [] h q) ≡ ran is h q
unfolding run
run_none ks parity is h q = ap (λ (l : List Item). ran l h q) (append-nil is)

fills_none : (parity : Bool) (code i : ℕ) (f : Fills) → fills_in parity code i [] f ≡ f
unfolding fills_in
fills_none parity code i f = refl

module _ (ks : List Kind) (parity : Bool) (code : ℕ) (row : List ℕ) (from : ℕ) (x₀ : Pass) (out₀ : List ℕ) where
  abbrev word : ℕ → ℕ
  word i = get_or row i 0

  abbrev rest : ℕ → List Slot
  rest i = counted (from + i) (drop i row)

  -- i words of the row were passed
  abbrev pub Passed : ℕ → Pass → List ℕ → Type 0
  Passed i x out = Along ks parity code (counted from row) x₀ out₀ i (rest i) x out

  pub passed_none : Sound x₀ → Passed 0 x₀ out₀
  unfolding flat_map
  passed_none s = record {
    items = [];
    is = ap (λ (l : List Slot). run ks parity l (held_of x₀.held) x₀.since) (counted_all from row) ∙ sym
        (more_none (run ks parity (rest 0) (held_of x₀.held) x₀.since));
    fill = ap (λ (l : List Slot). fills_in parity code 0 l x₀.fills) (counted_all from row);
    brought = record { sound = s; long = refl; wrote = λ bits y. subst (λ (l : List ℕ). Wrote l out₀ x₀.pen) (sym (append-nil bits)) y };
    few = omega arith;
  }

  pub passed_still : (i : ℕ) {x : Pass} {out out' : List ℕ} → out' ≡ out → Passed i x out → Passed i x out'
  passed_still i {x} e a = subst (λ (o : List ℕ). Passed i x o) (sym e) a

  -- the next word
  next : (i : ℕ) {x : Pass} {out : List ℕ} → i < length row → Passed i x out → Along ks parity code (counted from row) x₀ out₀ i ((from + i, word i) ∷ rest (i + 1)) x out
  next i h a = rw (counted_next from i row h) at a

  pub passed_more : (i : ℕ) {x r : Pass} {out out' : List ℕ} → i < length row → word i < 2 ^ 24 → Passed i x out
      → (r ≡ word_pass ks parity code i (from + i) (word i) x) × (out' ≡ word_out ks parity (word i) x out) → r.bad ≡ 0 → Passed (i + 1) r out'
  passed_more i {x} {r} {out} {out'} h low a e z =
      rw (e.0, e.1) (along_step ks parity code (counted from row) x₀ out₀ i (from + i, word i) (rest (i + 1)) x out low (next i h a) (rw e.0 at z))

  pub passed_bad : (i : ℕ) {x r : Pass} {out : List ℕ} (out' : List ℕ) (f : Fills) → i < length row → word i < 2 ^ 24 → Passed i x out
      → r ≡ word_pass ks parity code i (from + i) (word i) x → (r.bad ≡ 0 → ⊥)
      → RanTo x₀ out₀ (run ks parity (counted from row) (held_of x₀.held) x₀.since) f r out'
  passed_bad i {x} {r} {out} out' f h low a e z =
      let b = along_stop ks parity code (counted from row) x₀ out₀ i (from + i, word i) (rest (i + 1)) x out low (next i h a) (λ y. z (ap (λ (p : Pass). p.bad) e ∙ y)) in
      subst (λ (y : Ran). RanTo x₀ out₀ y f r out') (sym b.0) (ap (λ (y : Pass). y.bad) e ∙ b.1, ap (λ (y : Pass). y.since) e)

  pub passed_all : (i : ℕ) {x : Pass} {out : List ℕ} → length row ≤ i → Passed i x out
      → RanTo x₀ out₀ (run ks parity (counted from row) (held_of x₀.held) x₀.since) (fills_in parity code 0 (counted from row) x₀.fills) x out
  passed_all i {x} {out} h a =
      let b : Along ks parity code (counted from row) x₀ out₀ i [] x out = rw (counted_none (from + i) i row h) at a in
      subst (λ (y : Ran). RanTo x₀ out₀ y (fills_in parity code 0 (counted from row) x₀.fills) x out)
      (sym (b.is ∙ run_none ks parity b.items (held_of x.held) x.since))
      (b.brought, refl, refl, sym (b.fill ∙ fills_none parity code i x.fills))

  -- data words all the way
  fills_next : (i : ℕ) (f : Fills) → i < length row → is_fill (word i) ≡ false → fills_in parity code i (rest i) f ≡ fills_in parity code (i + 1) (rest (i + 1)) (on_data f)
  fills_next i f h e = ap (λ (l : List Slot). fills_in parity code i l f) (counted_next from i row h) ∙ data_step parity code i (from + i, word i) (rest (i + 1)) f e

  fills_data : (n i : ℕ) (f : Fills) → i + n ≤ length row → ((k : ℕ) → i ≤ k → k < i + n → is_fill (word k) ≡ false) → (n ≡ 0 → ⊥)
      → fills_in parity code i (rest i) f ≡ fills_in parity code (i + n) (rest (i + n)) (on_data f)
  fills_data zero i f h d z = absurd (z refl)
  fills_data (suc zero) i f h d z = fills_next i f (omega arith) (d i (omega arith) (omega arith))
  fills_data (suc (suc n)) i f h d z =
      let m : i + 1 + suc n ≡ i + suc (suc n) = omega arith in
      fills_next i f (omega arith) (d i (omega arith) (omega arith))
      ∙ fills_data (suc n) (i + 1) (on_data f) (omega arith) (λ k a b. d k (omega arith) (omega arith)) (λ y. absurd (omega arith))
      ∙ ap (λ (k : ℕ). fills_in parity code k (rest k) (on_data f)) m

  pub passed_items : (i : ℕ) {x : Pass} {out out' : List ℕ} {t : Taken} → Passed i x out → i < t.slot → x.held.awaits ≡ 0
      → Took ks parity row (taken_from x i) out t out' → Passed t.slot (items_pass x t from) out'
  passed_items i {x} {out} {out'} {t} a l e k =
      let h : held_of x.held ≡ Nothing = held_none x.held e in
      let z : i + (t.slot - i) ≡ t.slot = omega arith in
      let last : last_of from x.since i t.slot ≡ from + t.slot - 1 = ap (λ (b : Bool). cond b (from + t.slot - 1) x.since) (lt-ltb i t.slot l) in
      record {
        items = a.items ++ k.items;
        is = a.is
            ∙ ap (more a.items) (ap (λ (y : Held). run ks parity (rest i) y x.since) h ∙ k.is from x.since
            ∙ ap (λ (q : ℕ). more k.items (run ks parity (rest t.slot) Nothing q)) last
            ∙ ap (λ (y : Held). more k.items (run ks parity (rest t.slot) y (from + t.slot - 1))) (sym h))
            ∙ more_more a.items k.items (run ks parity (rest t.slot) (held_of x.held) (from + t.slot - 1));
        fill = a.fill
            ∙ fills_data (t.slot - i) i x.fills (omega (arith, k.room)) (λ m p q. k.unfilled m p (omega arith)) (λ y. absurd (omega arith))
            ∙ ap (λ (n : ℕ). fills_in parity code n (rest n) (on_data x.fills)) z;
        brought = record {
          sound = record { good = refl; sane = a.brought.sound.sane };
          long = k.long ∙ a.brought.long;
          wrote = λ bits y.
              subst (λ (n : List ℕ). Wrote n out' t.pen)
              (append_assoc bits (flat_map item_bits a.items) (flat_map item_bits k.items) ∙ ap (◌++◌ bits) (sym (flat_map_append item_bits a.items k.items)))
              (k.wrote (bits ++ flat_map item_bits a.items) (a.brought.wrote bits y));
        };
        few = omega (arith, a.few, k.few, k.onward);
      }

-- the plan's fill is passed over
module _ (ks : List Kind) (parity : Bool) (code : ℕ) (low : code < buses parity) where
  abbrev blank : ℕ
  blank = sent parity (fill code)

  module _ (i w : ℕ) (x : Pass) (e : quiet blank x.fills i w ≡ true) where
    quiet_pass : (place : ℕ) → x.bad ≡ 0 → x ≡ word_pass ks parity code i place w x
    unfolding word_pass
    quiet_pass place good =
        let q = quiet_is blank x.fills i w e in
        rw (q.0, fill_sent parity code low, fill_bus parity code low, eq-eqb code code refl, q.1, q.2, ← good) refl

    quiet_out : (out : List ℕ) → out ≡ word_out ks parity w x out
    unfolding word_out
    quiet_out out = let q = quiet_is blank x.fills i w e in rw (q.0, fill_sent parity code low) refl

  module _ (row : List ℕ) (from : ℕ) (x₀ : Pass) (out₀ : List ℕ) (words : Words row) where
    abbrev Here : ℕ → Pass → List ℕ → Type 0
    Here = Passed ks parity code row from x₀ out₀

    passed_quiet : (i : ℕ) {x : Pass} {out : List ℕ} → i < length row → Here i x out → quiet blank x.fills i (get_or row i 0) ≡ true → Here (i + 1) x out
    passed_quiet i {x} {out} h a q =
        passed_more ks parity code row from x₀ out₀ i h (words i h) a
        (quiet_pass i (get_or row i 0) x q (from + i) a.brought.sound.good, quiet_out i (get_or row i 0) x q out) a.brought.sound.good

    passed_quiets : (n i : ℕ) {x : Pass} {out : List ℕ} → i + n ≤ length row → Here i x out → ((k : ℕ) → i ≤ k → k < i + n → quiet blank x.fills k (get_or row k 0) ≡ true)
        → Here (i + n) x out
    passed_quiets zero i {x} {out} h a q = let z : i ≡ i + 0 = omega arith in subst (λ (k : ℕ). Here k x out) z a
    passed_quiets (suc n) i {x} {out} h a q =
        let z : i + 1 + n ≡ i + suc n = omega arith in
        subst (λ (k : ℕ). Here k x out) z
        (passed_quiets n (i + 1) (omega arith) (passed_quiet i (omega arith) a (q i (omega arith) (omega arith))) (λ k l u. q k (omega arith) (omega arith)))

    pub passed_fill : (i r : ℕ) {x : Pass} {out : List ℕ} → Here i x out → PastFill blank row x.fills i r → Here r x out
    passed_fill i r {x} {out} a f =
        let z : i + (r - i) ≡ r = omega (arith, f.onward) in
        subst (λ (k : ℕ). Here k x out) z (passed_quiets (r - i) i (omega (arith, f.room)) a (λ k l u. f.quiets k l (omega (arith, f.onward))))
