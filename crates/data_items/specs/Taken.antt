-- Items that were taken whole.
use Rattle.std.specs.Prelude.{ℕ, ◌+◌, ◌*◌, ◌-◌, ◌^◌, ◌≤◌, ◌<◌, Bool, false, cond, ◌≡◌, length, drop, get_or, ltb}
use mathlib.Core.List.{List, ◌++◌, flat_map}
use Rattle.format.specs.Word.{is_fill, bus_of, label_of}
use Rattle.format.specs.Item.{item_bits}
use Rattle.format.specs.Plan.{kind_on}
use Rattle.format.specs.Reader.{run, more, counted}
use Rattle.format.specs.declared.Kind.{Kind}
use Rattle.format.specs.declared.Item.{Item}
use Rattle.format.specs.declared.Held.TheVariants.{Nothing}
use Rattle.data_start.specs.declared.Step.{Step}
use Rattle.data_start.specs.Opening.{opens}
use Rattle.log_write.specs.Pen.{Wrote}
use Rattle.data_items.specs.declared.Taken.{Taken}
use Rattle.data_items.specs.Row.{top_of, tops_of, parity_of, Words}

-- the number of the last word before the word j, if any was taken from the word i on; the row's first has the number n
abbrev pub last_of : ℕ → ℕ → ℕ → ℕ → ℕ
last_of n old i j = cond (ltb i j) (n + j - 1) old

-- from t, where nothing was held, to t', where nothing is held, items were taken and put; whatever the number of the row's first word is
pub record Took (ks : List Kind) (parity : Bool) (row : List ℕ) (t : Taken) (out : List ℕ) (t' : Taken) (out' : List ℕ) : Type 0 where
  pub items : List Item
  pub is : (n old : ℕ)
      → run ks parity (counted (n + t.slot) (drop t.slot row)) Nothing old
      ≡ more items (run ks parity (counted (n + t'.slot) (drop t'.slot row)) Nothing (last_of n old t.slot t'.slot))
  pub unfilled : (k : ℕ) → t.slot ≤ k → k < t'.slot → is_fill (get_or row k 0) ≡ false
  pub onward : t.slot ≤ t'.slot
  pub room : t'.slot ≤ length row
  pub long : length out' ≡ length out
  pub wrote : (bits : List ℕ) → Wrote bits out t.pen → Wrote (bits ++ flat_map item_bits items) out' t'.pen
  pub few : t'.pen.bits ≤ t.pen.bits + 32 * (t'.slot - t.slot)
  pub none : t'.slot ≡ t.slot → out' ≡ out

-- items were taken from a word on, if its bus has this kind, or if it opens this
abbrev pub TookOn : Kind → ℕ → List ℕ → ℕ → Taken → List ℕ → Taken → List ℕ → Type 0
TookOn kind tops row word t out t' out' =
    (ks : List Kind) → kind_on ks (bus_of (parity_of tops) word) ≡ kind → Took ks (parity_of tops) row t out t' out'

abbrev pub TookBy : ℕ → ℕ → List ℕ → ℕ → Taken → List ℕ → Taken → List ℕ → Type 0
TookBy opening tops row word t out t' out' =
    (ks : List Kind) → opening ≡ opens (kind_on ks (bus_of (parity_of tops) word)) (label_of word) → Took ks (parity_of tops) row t out t' out'

-- there is room for the items of the words from t on, if there are any
pub record Roomy (row : List ℕ) (t : Taken) (out : List ℕ) : Type 0 where
  pub within : t.slot ≤ length row
  pub short : length row < 2 ^ 40
  pub few : t.pen.bits < 2 ^ 59
  pub room : t.slot < length row → t.pen.bits + 32 * (length row - t.slot) + 64 ≤ 8 * length out

-- at t stands this word, of this bus x 16 + label; four more words are there, and room for the items of the five
pub record Here (tops : ℕ) (row : List ℕ) (t : Taken) (word top : ℕ) (out : List ℕ) : Type 0 where
  pub all : tops ≡ tops_of (parity_of tops)
  pub words : Words row
  pub five : t.slot + 5 ≤ length row
  pub short : length row < 2 ^ 40
  pub is : word ≡ get_or row t.slot 0
  pub says : top ≡ top_of (parity_of tops) word
  pub few : t.pen.bits < 2 ^ 60
  pub room : t.pen.bits + 224 ≤ 8 * length out

-- what a word with this label opens on a bus of some kind
pub record Opened (n label : ℕ) : Type 0 where
  pub kind : Kind
  pub is : n ≡ opens kind label

-- the second string of a step, that of an item of one word, fits its width
pub record Second (s : Step) : Type 0 where
  pub fits : s.second < 2 ^ s.second_width
  pub short : s.second_width ≤ 27

-- the second strings of two steps as one number
abbrev pub both_of : Step → Step → ℕ
both_of one two = one.second * 2 ^ two.second_width + two.second
