-- One word more of what is fed again.
use Prim.Native.Nat.{ℕ, zero, suc, ◌+◌, ◌-◌, ◌^◌, ◌≤◌, ◌<◌}
use native.Mathlib.Omega.{arith}
use mathlib.Core.Bool.{Bool, true, false, cond}
use mathlib.Core.Path.{◌≡◌, refl, ap, sym, ◌∙◌}
use mathlib.Core.List.{List, [], ◌∷◌, ◌++◌, flat_map}
use lib.ListN.{length, length-append}
use lib.Dec.{ltb}
use borrow.Author.Tests.{le-ltb, lt-ltb}
use Rattle.format.specs.Bits.{bits_of}
use Rattle.format.specs.Item.{item_bits, item_fields}
use Rattle.format.specs.Lists.{list}
use Rattle.format.specs.Word.{bus_of, label_of, info_of}
use Rattle.format.specs.Reader.{Fed, bad, fed, feed}
use Rattle.format.specs.Laws.Bits.{length_bits}
use Rattle.format.specs.Laws.Tests.{clash}
use Rattle.data_start.specs.declared.Step.{Step}
use Rattle.data_word.specs.Holding.{Sane, held_of}
use Rattle.data_word.specs.Meaning.{Brings, Means}
use Rattle.stream_rules.specs.Laws.Stream.Held.{only_held}
use Rattle.format.specs.declared.Kind.{Kind}
use Rattle.format.specs.declared.Item.{Item}
use Rattle.format.specs.declared.Item.TheVariants.{Command, Status, Data, BusError, Arinc, Notice, User, Overflow}
use Rattle.format.specs.declared.Held.{Held}
use Rattle.stream_state.specs.Again.{again}

-- ---- what a step says

-- an item has bits
some_bits : (i : Item) (l : List ℕ) → 1 ≤ length (item_bits i ++ l)
unfolding item_bits item_fields flat_map bits_of
some_bits (Command bus b tag word) l = omega arith
some_bits (Status bus b response word) l = omega arith
some_bits (Data bus b word) l = omega arith
some_bits (BusError bus b word) l = omega arith
some_bits (Arinc bus c tag word) l = omega arith
some_bits (Notice bus c diagnostics) l = omega arith
some_bits (User bus three word) l = omega arith
some_bits (Overflow bus word) l = omega arith

widths : {is : List Item} {h : Held} {r : Step} → Brings is h r → r.first_width + r.second_width ≡ length (flat_map item_bits is)
widths {is} {h} {r} m =
    let a : length (bits_of r.first_width r.first ++ bits_of r.second_width r.second) ≡ r.first_width + r.second_width =
    length-append (bits_of r.first_width r.first) (bits_of r.second_width r.second) ∙ rw (length_bits r.first_width r.first, length_bits r.second_width r.second) refl in
    sym a ∙ ap length m.bits

-- a word that is bad or finishes an item
pub ends_bad : (f : Fed) (r : Step) (go : Held → Fed) → Means f r → r.bad ≡ true → only_held f go ≡ bad
ends_bad bad r go m e = refl
ends_bad (fed [] h) r go m e = clash (sym m.good ∙ e)
ends_bad (fed (i ∷ is) h) r go m e = refl

pub ends_item : (f : Fed) (r : Step) (go : Held → Fed) → Means f r → (r.first_width + r.second_width ≡ 0 → ⊥) → only_held f go ≡ bad
unfolding flat_map
ends_item bad r go m e = refl
ends_item (fed [] h) r go m e = absurd (e (widths m))
ends_item (fed (i ∷ is) h) r go m e = refl

-- and one that does neither
pub goes_on : (f : Fed) (r : Step) → Means f r → r.bad ≡ false → r.first_width ≡ 0 → r.second_width ≡ 0 → (f ≡ fed [] (held_of r.held)) × Sane r.held
unfolding flat_map
goes_on bad r m b x y = clash (sym b ∙ m)
goes_on (fed [] h) r m b x y = (ap (fed []) (sym m.holds), m.sane)
goes_on (fed (i ∷ is) h) r m b x y = absurd (omega (arith, x, y, widths m, some_bits i (flat_map item_bits is)))

-- ---- the word i of n

module _ (ks : List Kind) (h : Held) (f : ℕ → ℕ) (i n : ℕ) (less : i < n) where
  one_more : n - i ≡ suc (n - (i + 1))
  one_more = omega arith

  next : 16 + i + 1 ≡ 16 + (i + 1)
  next = omega arith

  abbrev by_word : (Held → Fed) → Fed
  by_word go = only_held (feed ks h (bus_of false (f (16 + i))) (label_of (f (16 + i))) (info_of (f (16 + i)))) go

  again_next : again ks h (list f (16 + i) (n - i)) ≡ cond (ltb (f (16 + i)) (2 ^ 24)) (by_word (λ h'. again ks h' (list f (16 + (i + 1)) (n - (i + 1))))) bad
  unfolding again list
  again_next = rw (one_more, next) refl

  pub too_wide : 2 ^ 24 ≤ f (16 + i) → again ks h (list f (16 + i) (n - i)) ≡ bad
  too_wide w = again_next ∙ rw (le-ltb (f (16 + i)) (2 ^ 24) w) refl

  pub fed_bad : f (16 + i) < 2 ^ 24 → ((go : Held → Fed) → by_word go ≡ bad) → again ks h (list f (16 + i) (n - i)) ≡ bad
  fed_bad w e = again_next ∙ rw (lt-ltb (f (16 + i)) (2 ^ 24) w) (e _)

  pub fed_on_lem : (h' : Held) → f (16 + i) < 2 ^ 24 → feed ks h (bus_of false (f (16 + i))) (label_of (f (16 + i))) (info_of (f (16 + i))) ≡ fed [] h'
      → again ks h (list f (16 + i) (n - i)) ≡ again ks h' (list f (16 + (i + 1)) (n - (i + 1)))
  fed_on_lem h' w e = again_next ∙ rw (lt-ltb (f (16 + i)) (2 ^ 24) w, e) refl

pub again_end : (ks : List Kind) (h : Held) (f : ℕ → ℕ) (i n : ℕ) → n ≤ i → again ks h (list f (16 + i) (n - i)) ≡ fed [] h
unfolding again list
again_end ks h f i n l = let e : n - i ≡ 0 = omega arith in rw e refl
