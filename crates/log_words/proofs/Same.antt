-- Words made of the fields that were taken are those of the item.
use Prim.Native.Nat.{ℕ, ◌+◌, ◌*◌, ◌-◌, ◌^◌, ◌≤◌, ◌<◌}
use native.Mathlib.Omega.{arith}
use mathlib.Core.Bool.{Bool, true, false, ◌||◌}
use mathlib.Core.Path.{◌≡◌, refl}
use mathlib.Core.List.{List, [], ◌∷◌, map}
use lib.Dec.{eqb}
use borrow.Author.Tests.{eqb-true}
use Rattle.format.specs.Item.{high_label, low_label, sided, tag_parts}
use Rattle.format.specs.Word.{word_for, word_of}
use Rattle.format.specs.declared.Tag.TheVariants.{At}
use Rattle.format.specs.declared.Time.{Time}
use Rattle.log_read.specs.declared.Channelled.{Channelled}
use Rattle.log_read.specs.declared.Marked.{Marked}
use Rattle.log_read.specs.declared.Noticed.{Noticed}
use Rattle.log_read.specs.declared.Sided.{Sided}
use Rattle.log_read.specs.Cursor.{took_of}
use Rattle.log_words.specs.Laid.{Puts, syllables}
use Rattle.log_words.specs.Plain.{plain_label}
use Rattle.log_words.proofs.Laying.{side_is}

pub data_word : (bus : ℕ) {w : ℕ} {f g : Sided} → f ≡ g → f.side < 2 → w ≡ word_of bus (13 - 4 * f.side) f.word
    → w ∷ [] ≡ word_of bus (sided 13 (eqb g.side 1)) g.word ∷ []
data_word bus {w} {f} e l h = rw (← e, h, side_is 13 f.side l)

pub plain_word : (bus k label : ℕ) {w : ℕ} {f g : Sided} → f ≡ g → label ≡ plain_label k f.side → w ≡ word_of bus label f.word
    → w ∷ [] ≡ word_of bus (plain_label k g.side) g.word ∷ []
plain_word bus k label e l h = rw (← e, h, l)

pub notice_word : (bus high low : ℕ) {w : ℕ} {f g : Noticed} → f ≡ g → high ≡ high_label f.channel → low ≡ low_label f.channel
    → w ≡ word_of bus 4 (high * 4096 + low * 256 + f.diagnostics)
    → w ∷ [] ≡ word_of bus 4 (high_label g.channel * 2 ^ 12 + low_label g.channel * 2 ^ 8 + g.diagnostics) ∷ []
notice_word bus high low e a b h = rw (← e, h, a, b)

pub marked_word : (bus label : ℕ) {w : ℕ} {f g : Marked} → f ≡ g → f.side < 2 → w ≡ word_of bus (label - 4 * f.side) f.word
    → w ≡ word_of bus (sided label (eqb g.side 1)) g.word
marked_word bus label {w} {f} e l h = rw (← e, h, side_is label f.side l)

pub timed_words : (bus : ℕ) {w x : ℕ} {f g : Marked} → f ≡ g → w ≡ x
    → word_of bus 4 (took_of f.next 14).field ∷ w ∷ [] ≡ word_of bus 4 (took_of g.next 14).field ∷ x ∷ []
timed_words bus e h = rw (e, h)

pub pair_words : (bus : ℕ) {f g : Channelled} → f ≡ g → syllables bus f.channel f.word ≡ syllables bus g.channel g.word
pair_words bus e = rw e

pub tag_words : (bus : ℕ) {t u : Time} {a b c : ℕ} → t ≡ u → a ≡ word_of bus 7 u.high → b ≡ word_of bus 6 u.low → c ≡ word_of bus 5 u.micro
    → a ∷ b ∷ c ∷ [] ≡ map word_for (tag_parts bus (At t))
tag_words bus e f g h = rw (e, f, g, h)

pub puts_same : {at r : ℕ} {new more before after : List ℕ} → new ≡ more → Puts at new before after r → Puts at more before after r
puts_same e x = rw (← e) x

-- bus errors and user words
pub plain_few : (k : ℕ) → (eqb k 4 || eqb k 7) ≡ true → (0 < k) × (k ≤ 8)
plain_few k e = go (eqb k 4) refl e
  where
    go : (b : Bool) → eqb k 4 ≡ b → (b || eqb k 7) ≡ true → (0 < k) × (k ≤ 8)
    go true f u = (omega (arith, eqb-true k 4 f), omega (arith, eqb-true k 4 f))
    go false f u = (omega (arith, eqb-true k 7 u), omega (arith, eqb-true k 7 u))
