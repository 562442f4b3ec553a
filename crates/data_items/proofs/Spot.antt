-- The word in a slot, and an item of one word.
use Prim.Native.Nat.{ℕ, ◌+◌, ◌-◌, ◌/◌, ◌%◌, ◌^◌, ◌≤◌, ◌<◌}
use native.Mathlib.Omega.{arith}
use mathlib.Core.Bool.{Bool, false}
use mathlib.Core.Path.{◌≡◌, refl, sym, ap, ap₂, subst, ◌∙◌}
use mathlib.Core.List.{List, ◌++◌}
use lib.ListN.{length, get_or}
use Rattle.format.specs.Word.{bus_of, label_of, info_of}
use Rattle.format.specs.Item.{item_bits}
use Rattle.format.specs.Plan.{kind_on}
use Rattle.format.specs.Reader.{starts}
use Rattle.format.specs.declared.Kind.{Kind}
use Rattle.format.specs.declared.Held.TheVariants.{Nothing}
use Rattle.format.specs.Laws.Lists.{flat_map_append}
use Rattle.log_write.specs.declared.Pen.{Pen}
use Rattle.log_write.specs.Pen.{pen_in, pen_put}
use Rattle.data_start.specs.declared.Step.{Step}
use Rattle.data_start.specs.Holding.{flat}
use Rattle.data_start.specs.Opening.{opens, single_of}
use Rattle.data_start.specs.Step.{begun}
use Rattle.data_start.proofs.Openers as openers
use Rattle.data_items.specs.Row.{top_of}
use Rattle.data_items.specs.Taken.{Second, Took, both_of}
use Rattle.data_items.proofs.Words.{bus_is, bus_low, info_is, info_low, label_is, label_low}
use Rattle.data_items.proofs.First.{Alone, alone_of, goes_alone}
use Rattle.data_items.proofs.Row.{Goes, goes_then}
use Rattle.data_items.proofs.Taking.{both_bits, both_fits, put_puts, took_item}

-- the word in a slot, and its bus x 16 + label
pub record Spot (parity : Bool) (row : List ℕ) (slot word top : ℕ) : Type 0 where
  pub within : slot < length row
  pub low : get_or row slot 0 < 2 ^ 24
  pub is : word ≡ get_or row slot 0
  pub says : top ≡ top_of parity word

module _ {parity : Bool} {row : List ℕ} {slot word top : ℕ} (h : Spot parity row slot word top) where
  abbrev w : ℕ
  w = get_or row slot 0

  pub says_here : top ≡ top_of parity w
  says_here = h.says ∙ ap (top_of parity) h.is

  pub bus_here : top / 16 ≡ bus_of parity w
  bus_here = bus_is parity w top says_here

  pub label_here : top % 16 ≡ label_of w
  label_here = label_is parity w top says_here

  pub info_here : word % 65536 ≡ info_of w
  info_here = ap (λ (x : ℕ). x % 65536) h.is ∙ info_is w

  pub top_below : top < 256
  top_below = omega (arith, says_here, label_low w, bus_low parity w h.low)

  pub kind_here : (ks : List Kind) {kind : Kind} → kind_on ks (bus_of parity word) ≡ kind → kind_on ks (bus_of parity w) ≡ kind
  kind_here ks k = ap (λ (x : ℕ). kind_on ks (bus_of parity x)) (sym h.is) ∙ k

  -- ---- an item of one word

  module _ {kind : Kind} {r : Step} (e : r ≡ begun (flat Nothing) 0 0 (starts kind (top / 16) (top % 16) (word % 65536))) (good : r.bad ≡ false)
      (none : r.held.awaits ≡ 0) (first : r.first_width ≡ 0) where
    pub alone_here : Alone kind (bus_of parity w) (label_of w) (info_of w) r
    alone_here =
        alone_of kind (bus_of parity w) (label_of w) (info_of w) r (e ∙ rw (bus_here, label_here, info_here) refl) good none first (bus_low parity w h.low) (label_low w)
        (info_low w)

    -- it was put
    pub alone_taken : (ks : List Kind) → kind_on ks (bus_of parity word) ≡ kind → r.second_width ≤ 32 → {pen : Pen} {out out' : List ℕ} {pen' : Pen}
        → (pen' ≡ pen_put pen r.second r.second_width) × (out' ≡ pen_in out pen r.second r.second_width)
        → Took ks parity row (record { slot = slot; pen = pen }) out (record { slot = slot + 1; pen = pen' }) out'
    alone_taken ks k few p =
        let a = alone_here in
        took_item (goes_alone ks parity row slot kind h.within (kind_here ks k) a) refl (omega arith) (omega (arith, h.within))
        (put_puts (omega arith) a.fits p) a.bits (omega arith)

  -- by its opening

  module _ (ks : List Kind) {opening : ℕ} (o : opening ≡ opens (kind_on ks (top / 16)) (top % 16)) (l : 8 ≤ opening) {r : Step}
      (e : r ≡ single_of opening (top / 16) (word % 65536)) where
    single_begins : r ≡ begun (flat Nothing) 0 0 (starts (kind_on ks (top / 16)) (top / 16) (top % 16) (word % 65536))
    single_begins =
        let s : openers.Says (kind_on ks (top / 16)) (top % 16) opening = rw o (openers.opens_says (kind_on ks (top / 16)) (top % 16) (omega arith)) in
        e ∙ s.single l (flat Nothing) (top / 16) (word % 65536)

    abbrev good : r.bad ≡ false
    good = ap (λ (s : Step). s.bad) e

    abbrev none : r.held.awaits ≡ 0
    none = ap (λ (s : Step). s.held.awaits) e

    abbrev first : r.first_width ≡ 0
    first = ap (λ (s : Step). s.first_width) e

    pub single_short : r.second_width ≤ 27
    single_short = let z : r.second_width ≡ 24 + opening % 4 = ap (λ (s : Step). s.second_width) e in omega arith

    pub single_fits : r.second < 2 ^ r.second_width
    single_fits = (alone_here single_begins good none first).fits

    pub single_second : Second r
    single_second = record { fits = single_fits; short = single_short }

    pub single_alone : Alone (kind_on ks (top / 16)) (bus_of parity w) (label_of w) (info_of w) r
    single_alone = alone_here single_begins good none first

    pub single_goes : Goes ks parity row slot (slot + 1) single_alone.items Nothing slot
    single_goes = goes_alone ks parity row slot (kind_on ks (top / 16)) h.within (kind_here ks (ap (kind_on ks) (sym (bus_is parity word top h.says)))) single_alone

    pub single_taken : {pen : Pen} {out out' : List ℕ} {pen' : Pen} → (pen' ≡ pen_put pen r.second r.second_width) ×
        (out' ≡ pen_in out pen r.second r.second_width)
        → Took ks parity row (record { slot = slot; pen = pen }) out (record { slot = slot + 1; pen = pen' }) out'
    single_taken p = alone_taken single_begins good none first ks (ap (kind_on ks) (sym (bus_is parity word top h.says))) (omega (arith, single_short)) p

-- two words, each an item
module _ {parity : Bool} {row : List ℕ} {slot word top word' top' : ℕ} (h : Spot parity row slot word top) (h' : Spot parity row (slot + 1) word' top') (ks : List Kind)
    {opening opening' : ℕ} (o : opening ≡ opens (kind_on ks (top / 16)) (top % 16)) (o' : opening' ≡ opens (kind_on ks (top' / 16)) (top' % 16)) (l : 8 ≤ opening)
    (l' : 8 ≤ opening')
    {one two : Step} (e : one ≡ single_of opening (top / 16) (word % 65536)) (e' : two ≡ single_of opening' (top' / 16) (word' % 65536)) where
  pub two_taken : {pen : Pen} {out out' : List ℕ} {pen' : Pen}
      → (pen' ≡ pen_put pen (both_of one two) (one.second_width + two.second_width)) ×
      (out' ≡ pen_in out pen (both_of one two) (one.second_width + two.second_width))
      → Took ks parity row (record { slot = slot; pen = pen }) out (record { slot = slot + 2; pen = pen' }) out'
  two_taken p =
      let a = single_alone h ks o l e in
      let b = single_alone h' ks o' l' e' in
      let f : Second one = single_second h ks o l e in
      let g : Second two = single_second h' ks o' l' e' in
      let z : slot + 1 + 1 ≡ slot + 2 = omega arith in
      let k : Goes ks parity row slot (slot + 2) (a.items ++ b.items) Nothing (slot + 1) =
      subst (λ (n : ℕ). Goes ks parity row slot n (a.items ++ b.items) Nothing (slot + 1)) z
      (goes_then ks parity row (single_goes h ks o l e) (single_goes h' ks o' l' e')) in
      took_item k z (omega arith) (omega (arith, h'.within)) (put_puts (omega (arith, f.short, g.short)) (both_fits one two f g) p)
      (both_bits one two f g ∙ ap₂ (λ (x y : List ℕ). x ++ y) a.bits b.bits ∙ sym (flat_map_append item_bits a.items b.items))
      (omega (arith, f.short, g.short))

-- what a word opens, by its own fields
pub opens_here : (parity : Bool) (word : ℕ) {top : ℕ} → top ≡ top_of parity word → (ks : List Kind) {opening : ℕ} → opening ≡ opens (kind_on ks (top / 16)) (top % 16)
    → opening ≡ opens (kind_on ks (bus_of parity word)) (label_of word)
opens_here parity word {top} s ks e = e ∙ rw (bus_is parity word top s, label_is parity word top s) refl

-- an opening is small
pub opening_low : (k : Kind) (label : ℕ) {opening : ℕ} → opening ≡ opens k label → label < 16 → opening < 4096
opening_low k label {opening} e l = let s : openers.Says k label opening = rw e (openers.opens_says k label l) in s.low
