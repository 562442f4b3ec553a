-- Words put into a row; and what laying an item does: it is refused, cut, or its words stand behind those in the row.
use Rattle.std.specs.Prelude.{ℕ, ◌+◌, ◌*◌, ◌/◌, ◌%◌, ◌^◌, ◌≤◌, ◌<◌, Bool, true, false, List, [], ◌∷◌, ◌++◌, map, ◌≡◌, length, take, drop}
use Rattle.format.specs.Item.{high_label, item_words, low_label, tag_parts, tag_in_time}
use Rattle.format.specs.Log.{Next, has, item_at, on_plan, wrong}
use Rattle.format.specs.Plan.{kind_on}
use Rattle.format.specs.Word.{word_for, word_of}
use Rattle.format.specs.declared.Item.{Item}
use Rattle.format.specs.declared.Kind.{Kind}
use Rattle.format.specs.declared.Kind.TheVariants.{Unused, Mil1553, Arinc429}
use Rattle.format.specs.declared.Tag.TheVariants.{At}
use Rattle.log_read.specs.declared.Head.{Head}
use Rattle.log_read.specs.Fields.{Heads}
use Rattle.log_read.specs.Found.{time_at}
use Rattle.log_words.specs.declared.put.Laid.{Laid}
use Rattle.log_words.specs.Words.{left_by}

abbrev pub is_mil : Kind → Bool
is_mil Unused = false
is_mil Mil1553 = true
is_mil Arinc429 = false

abbrev pub is_arinc : Kind → Bool
is_arinc Unused = false
is_arinc Mil1553 = false
is_arinc Arinc429 = true

abbrev pub faulty : ℕ → Laid
faulty number = record { number = number; at = 0; count = 0 }

-- xs with new in the place of its elements from `at` on
abbrev pub written : ℕ → List ℕ → List ℕ → List ℕ
written at new xs = take at xs ++ (new ++ drop (at + length new) xs)

-- `new` was put into a row from `at` on, and r is the place behind it
pub record Puts (at : ℕ) (new before after : List ℕ) (r : ℕ) : Type 0 where
  pub next : r ≡ at + length new
  pub is : after ≡ written at new before

-- of the tag at the bit p: its words are put behind n others, or its time is refused
pub data Tags (s : List ℕ) (bus p n : ℕ) (before after : List ℕ) (r : Laid) : Type 0 where
  timely : tag_in_time (At (time_at s p)) ≡ true → r.number ≡ 0 → r.at ≡ p + 46 → Puts n (map word_for (tag_parts bus (At (time_at s p)))) before after r.count → Tags s bus p n before after r
  late : tag_in_time (At (time_at s p)) ≡ false → r ≡ faulty 4 → after ≡ before → Tags s bus p n before after r

-- of what stands at the bit p of a log of e bits: it is cut, refused (and some of its words may be left behind n others), or its
-- words are put behind n others;
-- a word of an item takes 17 bits of the log or more
pub data Lays (check : Item → ℕ) (p n e : ℕ) (next : Next) (before after : List ℕ) (r : Laid) : Type 0 where
  cut : next ≡ wrong → r ≡ faulty 2 → after ≡ before → Lays check p n e next before after r
  refused : (i : Item) (q : ℕ) → next ≡ has i q → (check i ≡ 0 → ⊥) → r ≡ faulty (check i)
      → after ≡ written n (left_by (check i) i) before → Lays check p n e next before after r
  laid : (i : Item) (q : ℕ) → next ≡ has i q → check i ≡ 0 → r.number ≡ 0 → r.at ≡ q → Puts n (item_words i) before after r.count
      → 17 * length (item_words i) + p ≤ q → q ≤ e → Lays check p n e next before after r

-- an ARINC word's two syllables
abbrev pub syllables : ℕ → ℕ → ℕ → List ℕ
syllables bus channel word = word_of bus (high_label channel) (word / 2 ^ 16) ∷ word_of bus (low_label channel) (word % 2 ^ 16) ∷ []

-- of an item that ends at the bit q of a log of e bits: it is cut, its bus is not of the right kind, its time is too late, or its
-- words are put behind n others
pub data LaysWords (stands timely : Bool) (new : List ℕ) (q e n : ℕ) (before after : List ℕ) (r : Laid) : Type 0 where
  short : e < q → r ≡ faulty 2 → after ≡ before → LaysWords stands timely new q e n before after r
  misplaced : q ≤ e → stands ≡ false → r ≡ faulty 3 → after ≡ before → LaysWords stands timely new q e n before after r
  past : q ≤ e → stands ≡ true → timely ≡ false → r ≡ faulty 4 → after ≡ before → LaysWords stands timely new q e n before after r
  put : q ≤ e → stands ≡ true → timely ≡ true → r.number ≡ 0 → r.at ≡ q → Puts n new before after r.count
      → LaysWords stands timely new q e n before after r

-- of an item with a tag at the bit q: it is cut, its bus is not of the right kind, or its words are put and then its tag
pub data LaysTagged (stands : Bool) (new s : List ℕ) (bus q e n : ℕ) (before after : List ℕ) (r : Laid) : Type 0 where
  short : e < q + 46 → r ≡ faulty 2 → after ≡ before → LaysTagged stands new s bus q e n before after r
  misplaced : q + 46 ≤ e → stands ≡ false → r ≡ faulty 3 → after ≡ before → LaysTagged stands new s bus q e n before after r
  put : q + 46 ≤ e → stands ≡ true → (mid : List ℕ) (k : ℕ) → Puts n new before mid k → Tags s bus q k mid after r
      → LaysTagged stands new s bus q e n before after r

-- what stands where the head was read, an item of the kind k on a bus of this kind, is laid: in a log of these bits
abbrev pub LaysIn : List ℕ → ℕ → Kind → Head → ℕ → ℕ → List ℕ → List ℕ → Laid → Type 0
LaysIn s e kind h k n before after r =
    (ks : List Kind) (p : ℕ) → Heads s p h → kind_on ks h.bus ≡ kind → Lays (on_plan ks) p n e (item_at s p k) before after r

-- in any log of e bits
abbrev pub LaysAny : ℕ → Kind → Head → ℕ → ℕ → List ℕ → List ℕ → Laid → Type 0
LaysAny e kind h k n before after r = (s : List ℕ) → length s ≡ e → LaysIn s e kind h k n before after r
