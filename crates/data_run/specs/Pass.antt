-- What a reading carries from word to word, and what one word does to it.
use Rattle.std.specs.Prelude.{ℕ, ◌+◌, ◌*◌, ◌-◌, ◌^◌, ◌≤◌, ◌<◌, Bool, true, false, cond, ◌≡◌, length, get_or, leb}
use Rattle.std.proofs.Common.{ap, sym, ◌∙◌}
use mathlib.Core.List.{List, ◌++◌, flat_map}
use Rattle.format.specs.Word.{is_fill, bus_of, label_of, info_of}
use Rattle.format.specs.Item.{item_bits}
use Rattle.format.specs.Reader.{Slot, Ran, bad_at, ran, run, more, feed, since, begun}
use Rattle.format.specs.declared.Kind.{Kind}
use Rattle.format.specs.declared.Held.{Held}
use Rattle.format.specs.declared.Item.{Item}
use Rattle.data_start.specs.declared.Step.{Step}
use Rattle.data_start.specs.Holding.{flat}
use Rattle.data_word.specs.Holding.{held_of, Sane}
use Rattle.data_word.specs.Step.{step_of}
use Rattle.data_items.specs.declared.Taken.{Taken}
use Rattle.data_items.specs.Taken.{Took}
use Rattle.data_run.specs.declared.fill.Fills.{Fills}
use Rattle.log_write.specs.declared.Pen.{Pen}
use Rattle.data_put.specs.Put.{step_pen, step_out}
use Rattle.data_run.specs.declared.Pass.{Pass}
use Rattle.data_run.specs.Fills.{odd_fill, on_fill, on_data, fills_in, quiet, no_fill}
use Rattle.log_write.specs.Pen.{Wrote, start}
use Rattle.format.specs.declared.Held.TheVariants.{Nothing}

-- before the first word
abbrev pub start_pass : Pass
start_pass = record { held = flat Nothing; since = 0; pen = start; fills = no_fill; bad = 0 }

-- fill is looked at and dropped
abbrev pub fill_pass : Bool → ℕ → ℕ → ℕ → ℕ → Pass → Pass
fill_pass parity code i number word x =
    record { held = x.held; since = x.since; pen = x.pen; fills = on_fill x.fills number (odd_fill code i (bus_of parity word)); bad = 0 }

-- a bad word is told by its number, one up, and by that of the first word of the item that it broke
abbrev pub step_pass : ℕ → Pass → Step → Pass
step_pass number x r =
    cond r.bad (record { held = x.held; since = begun (held_of x.held) x.since number; pen = x.pen; fills = x.fills; bad = number + 1 })
    (record { held = r.held; since = since (held_of r.held) x.since number; pen = step_pen x.pen r; fills = on_data x.fills; bad = 0 })

abbrev pub pass_out : List ℕ → Pass → Step → List ℕ
pass_out out x r = cond r.bad out (step_out out x.pen r)

unfoldable pub word_step : List Kind → Bool → ℕ → Pass → Step
word_step ks parity word x = step_of (held_of x.held) (feed ks (held_of x.held) (bus_of parity word) (label_of word) (info_of word))

-- the word i of its row
unfoldable pub word_pass : List Kind → Bool → ℕ → ℕ → ℕ → ℕ → Pass → Pass
word_pass ks parity code i number word x = cond (is_fill word) (fill_pass parity code i number word x) (step_pass number x (word_step ks parity word x))

unfoldable pub word_out : List Kind → Bool → ℕ → Pass → List ℕ → List ℕ
word_out ks parity word x out =
    cond (is_fill word) out (pass_out out x (word_step ks parity word x))

-- from the word i on, up to the word r, there is only fill that changes nothing, and there it ends
pub record PastFill (blank : ℕ) (row : List ℕ) (f : Fills) (i r : ℕ) : Type 0 where
  pub onward : i ≤ r
  pub room : r ≤ length row
  pub quiets : (k : ℕ) → i ≤ k → k < r → quiet blank f k (get_or row k 0) ≡ true
  pub ends : r < length row → quiet blank f r (get_or row r 0) ≡ false

-- the lesser of two
abbrev pub least_of : ℕ → ℕ → ℕ
least_of a b = cond (leb a b) a b

-- items that were taken whole, nothing being held; the row's first word has the number `from`
abbrev pub taken_from : Pass → ℕ → Taken
taken_from x i = record { slot = i; pen = x.pen }

abbrev pub items_pass : Pass → Taken → ℕ → Pass
items_pass x t from = record { held = x.held; since = from + t.slot - 1; pen = t.pen; fills = on_data x.fills; bad = 0 }

pub record FromPass (ks : List Kind) (parity : Bool) (row : List ℕ) (x : Pass) (i : ℕ) (out : List ℕ) (t : Taken) (out' : List ℕ) : Type 0 where
  pub some : i < t.slot → (x.held.awaits ≡ 0) × Took ks parity row (taken_from x i) out t out'
  pub none : t.slot ≤ i → out' ≡ out
  pub room : t.slot ≤ length row

-- what is carried can go on
pub record Sound (x : Pass) : Type 0 where
  pub good : x.bad ≡ 0
  pub sane : Sane x.held

-- from the pass x₀ and the array out₀ the items `is` were finished, and x and `out` are what is carried now
pub record Brought (x₀ : Pass) (out₀ : List ℕ) (is : List Item) (x : Pass) (out : List ℕ) : Type 0 where
  pub sound : Sound x
  pub long : length out ≡ length out₀
  pub wrote : (bits : List ℕ) → Wrote bits out₀ x₀.pen → Wrote (bits ++ flat_map item_bits is) out x.pen

-- a run over the words of a row: told by the numbers of its bad word and of the first word of the item that broke, or gone on with
abbrev pub RanTo : Pass → List ℕ → Ran → Fills → Pass → List ℕ → Type 0
RanTo x₀ out₀ (bad_at place second) f x out = (x.bad ≡ place + 1) × (x.since ≡ second)
RanTo x₀ out₀ (ran is h place) f x out = Brought x₀ out₀ is x out × (held_of x.held ≡ h) × (x.since ≡ place) × (x.fills ≡ f)

-- what of it is one: the number of a bad word or 0, and that of what broke or of what is held; and after a good run what is held and the fill.
-- After a bad word the other numbers are read by nobody; the pen and the array are told by the bits they hold.
pub ran_to_one : (x₀ : Pass) (out₀ : List ℕ) (t : Ran) (f : Fills) (x x' : Pass) (out out' : List ℕ)
    → RanTo x₀ out₀ t f x out → RanTo x₀ out₀ t f x' out' → (x.bad ≡ x'.bad) × (x.since ≡ x'.since)
ran_to_one x₀ out₀ (bad_at place second) f x x' out out' a b = (a.0 ∙ sym b.0, a.1 ∙ sym b.1)
ran_to_one x₀ out₀ (ran is h place) f x x' out out' a b = (a.0.sound.good ∙ sym b.0.sound.good, a.2 ∙ sym b.2)

pub ran_held_one : (x₀ : Pass) (out₀ : List ℕ) (is : List Item) (h : Held) (place : ℕ) (f : Fills) (x x' : Pass) (out out' : List ℕ)
    → RanTo x₀ out₀ (ran is h place) f x out → RanTo x₀ out₀ (ran is h place) f x' out' → (x.held ≡ x'.held) × (x.fills ≡ x'.fills)
ran_held_one x₀ out₀ is h place f x x' out out' a b =
    (a.0.sound.sane.is ∙ ap flat (a.1 ∙ sym b.1) ∙ sym b.0.sound.sane.is, a.3 ∙ sym b.3)

-- within the row: i words were passed, and `rest` are to come; the plan's fill is on the bus `code`
pub record Along (ks : List Kind) (parity : Bool) (code : ℕ) (slots : List Slot) (x₀ : Pass) (out₀ : List ℕ) (i : ℕ) (rest : List Slot) (x : Pass) (out : List ℕ) : Type 0 where
  pub items : List Item
  pub is : run ks parity slots (held_of x₀.held) x₀.since ≡ more items (run ks parity rest (held_of x.held) x.since)
  pub fill : fills_in parity code 0 slots x₀.fills ≡ fills_in parity code i rest x.fills
  pub brought : Brought x₀ out₀ items x out
  pub few : x.pen.bits ≤ x₀.pen.bits + 128 * i
