-- How an item is laid: with a plan's check of it, with one word, and with a tag behind its words.
use Prim.Native.Nat.{ℕ, zero, suc, ◌+◌, ◌*◌, ◌/◌, ◌%◌, ◌^◌, ◌-◌, ◌≤◌, ◌<◌}
use native.Mathlib.Omega.{arith}
use native.Mathlib.Nat.{div-one}
use native.Mathlib.Decide.{dec_lt}
use mathlib.Core.Bool.{Bool, true, false, cond, ◌||◌}
use mathlib.Core.Path.{◌≡◌, refl, ap, sym, ◌∙◌}
use mathlib.Core.List.{List, ◌++◌, map}
use lib.Dec.{eqb}
use lib.ListN.{length, length-append}
use borrow.Author.Tests.{eq-eqb}
use Rattle.format.specs.Bits.{bytes_bits}
use Rattle.format.specs.Item.{bus_of_item, in_time, item_words, sided, stands_on, tag_in_time, tag_parts}
use Rattle.format.specs.Log.{Next, field, has, item_at, on_plan, wrong}
use Rattle.format.specs.Plan.{is_used, kind_on}
use Rattle.format.specs.Word.{word_for}
use Rattle.format.specs.declared.Item.{Item}
use Rattle.format.specs.declared.Kind.{Kind}
use Rattle.format.specs.declared.Kind.TheVariants.{Unused, Mil1553, Arinc429}
use Rattle.format.specs.declared.Tag.{Tag}
use Rattle.format.specs.declared.Tag.TheVariants.{At}
use Rattle.format.specs.declared.Response.{Response}
use Rattle.format.specs.declared.Item.TheVariants.{Command, Status, Data, BusError, Arinc, Notice, User, Overflow}
use Rattle.log_read.specs.Found.{time_at}
use Rattle.format.specs.Laws.Tests.{clash}
use Rattle.log_read.proofs.Items.{none_other}
use Rattle.log_words.specs.declared.put.Laid.{Laid}
use Rattle.log_words.specs.Laid.{faulty, is_arinc, is_mil, Lays, laid, refused, Puts, Tags, timely, late, written}
use Rattle.log_words.specs.Words.{before_tag, left_by}
use Rattle.log_words.proofs.Row.{none_written, puts_more}

-- the row with what an item leaves in it that is refused by a number
abbrev leaves : Item → ℕ → List ℕ → ℕ → List ℕ
leaves i n before number = written n (left_by number i) before

-- the check of an item whose bus is of this kind
pub on_plan_lem : (ks : List Kind) (i : Item) (kind : Kind) (s t : Bool) → kind_on ks (bus_of_item i) ≡ kind → stands_on i kind ≡ s → in_time i ≡ t → on_plan ks i ≡ cond s (cond t 0 4) 3
on_plan_lem ks i kind s t k h g = rw (k, h, g)

module _ (ks : List Kind) (kind : Kind) {p n e : ℕ} {next : Next} {before after : List ℕ} {r : Laid} (i : Item) (q : ℕ) (here : next ≡ has i q) (bus : kind_on ks (bus_of_item i) ≡ kind) where
  pub no_place : stands_on i kind ≡ false → r ≡ faulty 3 → after ≡ before → Lays (on_plan ks) p n e next before after r
  no_place h g s =
      let c : on_plan ks i ≡ 3 = on_plan_lem ks i kind false (in_time i) bus h refl in
      refused i q here (λ z. omega (arith, c, z)) (g ∙ ap faulty (sym c)) (s ∙ sym (none_written n before) ∙ ap (leaves i n before) (sym c))

  pub too_late : stands_on i kind ≡ true → in_time i ≡ false → r ≡ faulty 4 → after ≡ written n (before_tag i) before → Lays (on_plan ks) p n e next before after r
  too_late h t g s =
      let c : on_plan ks i ≡ 4 = on_plan_lem ks i kind true false bus h t in
      refused i q here (λ z. omega (arith, c, z)) (g ∙ ap faulty (sym c)) (s ∙ ap (leaves i n before) (sym c))

  pub words_laid : stands_on i kind ≡ true → in_time i ≡ true → (new : List ℕ) → item_words i ≡ new → r.number ≡ 0 → r.at ≡ q → Puts n new before after r.count
      → 17 * length new + p ≤ q → q ≤ e → Lays (on_plan ks) p n e next before after r
  words_laid h t new w z a x d f = laid i q here (on_plan_lem ks i kind true true bus h t) z a (rw w x) (rw w d) f

  pub tag_laid : {s mid : List ℕ} {b tp k : ℕ} → stands_on i kind ≡ true → in_time i ≡ tag_in_time (At (time_at s tp)) → (head : List ℕ)
      → before_tag i ≡ head → item_words i ≡ head ++ map word_for (tag_parts b (At (time_at s tp)))
      → q ≡ tp + 46 → Puts n head before mid k → n + length head ≤ length before → Tags s b tp k mid after r → 17 * (length head + 3) + p ≤ q → q ≤ e → Lays (on_plan ks) p n e next before after r
  tag_laid {s} {mid} {b} {tp} {k} h t head v w behind x room g d f = go g
    where
      tag : List ℕ
      tag = map word_for (tag_parts b (At (time_at s tp)))

      go : Tags s b tp k mid after r → Lays (on_plan ks) p n e next before after r
      go (timely y z a m) = words_laid h (t ∙ y) (head ++ tag) w z (a ∙ sym behind) (puts_more x m room) (omega (arith, d, length-append head tag)) f
      go (late y z u) = too_late h (t ∙ y) z (u ∙ x.is ∙ ap (λ (l : List ℕ). written n l before) (sym v))

-- where items of each kind may stand
pub command_stands : (bus : ℕ) (b : Bool) (t : Tag) (w : ℕ) (kind : Kind) → stands_on (Command bus b t w) kind ≡ is_mil kind
unfolding stands_on
command_stands bus b t w Unused = refl
command_stands bus b t w Mil1553 = refl
command_stands bus b t w Arinc429 = refl

pub status_stands : (bus : ℕ) (b : Bool) (t : Response) (w : ℕ) (kind : Kind) → stands_on (Status bus b t w) kind ≡ is_mil kind
unfolding stands_on
status_stands bus b t w Unused = refl
status_stands bus b t w Mil1553 = refl
status_stands bus b t w Arinc429 = refl

pub data_stands : (bus : ℕ) (b : Bool) (w : ℕ) (kind : Kind) → stands_on (Data bus b w) kind ≡ is_mil kind
unfolding stands_on
data_stands bus b w Unused = refl
data_stands bus b w Mil1553 = refl
data_stands bus b w Arinc429 = refl

pub error_stands : (bus : ℕ) (b : Bool) (w : ℕ) (kind : Kind) → stands_on (BusError bus b w) kind ≡ is_mil kind
unfolding stands_on
error_stands bus b w Unused = refl
error_stands bus b w Mil1553 = refl
error_stands bus b w Arinc429 = refl

pub arinc_stands : (bus n : ℕ) (t : Tag) (w : ℕ) (kind : Kind) → stands_on (Arinc bus n t w) kind ≡ is_arinc kind
unfolding stands_on
arinc_stands bus n t w Unused = refl
arinc_stands bus n t w Mil1553 = refl
arinc_stands bus n t w Arinc429 = refl

pub notice_stands : (bus n d : ℕ) (kind : Kind) → stands_on (Notice bus n d) kind ≡ is_arinc kind
unfolding stands_on
notice_stands bus n d Unused = refl
notice_stands bus n d Mil1553 = refl
notice_stands bus n d Arinc429 = refl

pub user_stands : (bus : ℕ) (b : Bool) (w : ℕ) (kind : Kind) → stands_on (User bus b w) kind ≡ is_used kind
unfolding stands_on is_used
user_stands bus b w Unused = refl
user_stands bus b w Mil1553 = refl
user_stands bus b w Arinc429 = refl

pub overflow_stands : (bus w : ℕ) (kind : Kind) → stands_on (Overflow bus w) kind ≡ is_used kind
unfolding stands_on is_used
overflow_stands bus w Unused = refl
overflow_stands bus w Mil1553 = refl
overflow_stands bus w Arinc429 = refl

-- no item is of another kind
pub none_zero : (s : List ℕ) (p k : ℕ) → k ≡ 0 → item_at s p k ≡ wrong
none_zero s p k h =
    none_other s p k (λ z. omega (arith, h, z)) (λ z. omega (arith, h, z)) (λ z. omega (arith, h, z)) (λ z. omega (arith, h, z))
    (λ z. omega (arith, h, z)) (λ z. omega (arith, h, z)) (λ z. omega (arith, h, z)) (λ z. omega (arith, h, z))

pub none_left_over : (s : List ℕ) (p k : ℕ) → 2 < k → (k ≡ 3 → ⊥) → (k ≡ 5 → ⊥) → (k ≡ 6 → ⊥) → (k ≡ 8 → ⊥) → (eqb k 4 || eqb k 7) ≡ false → item_at s p k ≡ wrong
none_left_over s p k h c e f i o =
    none_other s p k (λ z. omega (arith, h, z)) (λ z. omega (arith, h, z)) c (λ z. clash (sym o ∙ rw (eq-eqb k 4 z))) e f
    (λ z. go (eqb k 4) (rw (eq-eqb k 7 z) at o)) i
  where
    go : (b : Bool) → (b || true) ≡ false → ⊥
    go true x = clash (sym x)
    go false x = clash (sym x)

-- a bit, as a side of the bus and as a user word's label
pub side_is : (label x : ℕ) → x < 2 → label - 4 * x ≡ sided label (eqb x 1)
side_is label zero h = omega arith
side_is label (suc zero) h = refl
side_is label (suc (suc x)) h = absurd (omega arith)

pub user_label : (x : ℕ) → x < 2 → 2 + x ≡ cond (eqb x 1) 3 2
user_label zero h = refl
user_label (suc zero) h = refl
user_label (suc (suc x)) h = absurd (omega arith)
