-- A word that is not awaited: an answer to a response, a bad word, or one that starts another item.
use Prim.Native.Nat.{ℕ, ◌+◌, ◌*◌, ◌/◌, ◌%◌, ◌-◌, ◌<◌, ◌≤◌}
use native.Mathlib.Omega.{arith}
use mathlib.Core.Bool.{Bool, true, false, ◌&&◌, ◌||◌}
use mathlib.Core.Path.{◌≡◌, refl}
use mathlib.Core.List.{List, flat_map}
use lib.Dec.{eqb, ltb}
use borrow.Author.Tests.{eq-eqb, ne_eqb, lt-ltb, le-ltb, eqb-true}
use Rattle.format.specs.Item.{item_fields}
use Rattle.format.specs.Plan.{kind_on}
use Rattle.format.specs.Reader.{Fed, bad, fed, starts, feed, after, base_bus, with_tag}
use Rattle.format.specs.declared.Kind.{Kind}
use Rattle.format.specs.declared.Tag.TheVariants.{Untagged}
use Rattle.format.specs.declared.Base.{Base}
use Rattle.format.specs.declared.Base.TheVariants as base
use Rattle.format.specs.declared.Held.{Held}
use Rattle.format.specs.declared.Held.TheVariants.{Nothing, Taggable, Half, TagHigh, TagLow, Answering}
use Rattle.data_start.specs.declared.Holding.{Holding}
use Rattle.data_start.specs.Holding.{flat, number_of, untagged}
use Rattle.data_word.specs.Holding.{held_of, Fits, BaseFits, Sane}
use Rattle.data_start.specs.Step.{refusal, ended, begun}
use Rattle.data_word.specs.Step.{step_of, base_width}
use Rattle.data_start.proofs.Labels.{lower, upper}
use Rattle.format.specs.Laws.Tests.{bit_low}
use Rattle.data_word.proofs.Flat.{base_bus_small, sane_ind, ends_both}

-- the labels of a status
pub below_eight_is_no_status : (label : ℕ) → label < 8 → (eqb label 14 || eqb label 10) ≡ false
below_eight_is_no_status = lower (λ n. (eqb n 14 || eqb n 10) ≡ false) refl refl refl refl refl refl refl refl

pub other_label_is_no_status : (label : ℕ) → 8 ≤ label → label < 16 → (label % 4 ≡ 2 → ⊥) → (eqb label 14 || eqb label 10) ≡ false
other_label_is_no_status =
    upper (λ n. (n % 4 ≡ 2 → ⊥) → (eqb n 14 || eqb n 10) ≡ false)
    (λ x. refl) (λ x. refl) (λ x. absurd (x refl)) (λ x. refl) (λ x. refl) (λ x. refl) (λ x. absurd (x refl)) (λ x. refl)

-- what a word starts where nothing is held is what it brings
pub begun_of_nothing : (f : Fed) → begun (flat Nothing) 0 0 f ≡ step_of Nothing f
begun_of_nothing bad = refl
begun_of_nothing (fed is h) = refl

module _ (ks : List Kind) (bus label info : ℕ) (bb : bus < 16) (l : label < 16) where
  abbrev pub StatusAnswers : Holding → Held → Type 0
  StatusAnswers g h = g.awaits ≡ 270 + bus * 16 → 8 ≤ label → label % 4 ≡ 2
      → ended (((32 + bus) * 2 + (3 - label / 4)) * 131072 + 65536 + info) 26 g.time 14 ≡ step_of h (feed ks h bus label info)

  timed : (b r n : ℕ) → bus ≡ b → 8 ≤ n → n < 16 → n % 4 ≡ 2
      → ended (((32 + bus) * 2 + (3 - n / 4)) * 131072 + 65536 + info) 26 r 14 ≡ step_of (Answering b r) (feed ks (Answering b r) bus n info)
  unfolding feed item_fields flat_map
  timed b r n d o u =
      upper (λ m. m % 4 ≡ 2 → ended (((32 + bus) * 2 + (3 - m / 4)) * 131072 + 65536 + info) 26 r 14 ≡ step_of (Answering b r) (feed ks (Answering b r) bus m info))
      (λ e. absurd (omega arith)) (λ e. absurd (omega arith)) (λ e. rw (eq-eqb bus b d) (ends_both 26 14 (omega arith) (omega arith))) (λ e. absurd (omega arith))
      (λ e. absurd (omega arith)) (λ e. absurd (omega arith)) (λ e. rw (eq-eqb bus b d) (ends_both 26 14 (omega arith) (omega arith))) (λ e. absurd (omega arith))
      n o u

  status : (h : Held) → Fits h → StatusAnswers (flat h) h
  status Nothing f e o s = absurd (omega arith)
  status (Taggable x) f e o s = absurd (omega (arith, base_bus_small x f))
  status (Half b c high) f e o s = absurd (omega arith)
  status (TagHigh x high) f e o s = absurd (omega (arith, base_bus_small x f.0))
  status (TagLow x high low) f e o s = absurd (omega (arith, base_bus_small x f.0))
  status (Answering b r) f e o s = timed b r label (omega arith) o l s

  pub status_answers : (g : Holding) → Sane g → StatusAnswers g (held_of g)
  status_answers = sane_ind StatusAnswers status

  -- a response awaits a status
  abbrev pub NoStatus : Holding → Held → Type 0
  NoStatus g h = g.awaits ≡ 270 + bus * 16 → (eqb label 14 || eqb label 10) ≡ false → refusal g ≡ step_of h (feed ks h bus label info)

  no_answer : (h : Held) → Fits h → NoStatus (flat h) h
  unfolding feed
  no_answer Nothing f e n = absurd (omega arith)
  no_answer (Taggable x) f e n = absurd (omega (arith, base_bus_small x f))
  no_answer (Half b c high) f e n = absurd (omega arith)
  no_answer (TagHigh x high) f e n = absurd (omega (arith, base_bus_small x f.0))
  no_answer (TagLow x high low) f e n = absurd (omega (arith, base_bus_small x f.0))
  no_answer (Answering b r) f e n = let d : bus ≡ b = omega arith in rw (eq-eqb bus b d, n)

  pub another_label_is_no_answer : (g : Holding) → Sane g → NoStatus g (held_of g)
  another_label_is_no_answer = sane_ind NoStatus no_answer

  -- neither awaited nor an answer
  abbrev pub Strange : Holding → Held → Type 0
  Strange g h = (g.awaits ≡ 270 + bus * 16 → ⊥) → (g.awaits ≡ bus * 16 + label → ⊥) → (g.awaits ≡ 0 → ⊥) → (g.awaits % 16 ≡ 7 → ⊥)
      → refusal g ≡ step_of h (feed ks h bus label info)

  -- the bus or the label is another
  differs : (b y : ℕ) → (b * 16 + y ≡ bus * 16 + label → ⊥) → (P : Bool → Bool → Type 0) → P false false → P false true → P true false
      → P (eqb bus b) (eqb label y)
  differs b y n P u v w = go (eqb bus b) (eqb label y) refl refl
    where
      go : (p q : Bool) → eqb bus b ≡ p → eqb label y ≡ q → P p q
      go true true e d = let x : bus ≡ b = eqb-true _ _ e in let z : label ≡ y = eqb-true _ _ d in absurd (n (omega arith))
      go true false e d = w
      go false true e d = v
      go false false e d = u

  strange : (h : Held) → Fits h → Strange (flat h) h
  unfolding feed
  strange Nothing f a k z s = absurd (z refl)
  strange (Taggable x) f a k z s = absurd (s (omega arith))
  strange (Half b c high) f a k z s = rw (differs b (8 + 2 * c) k (λ p q. (p && q) ≡ false) refl refl refl)
  strange (TagHigh x high) f a k z s = rw (differs (base_bus x) 6 k (λ p q. (p && q) ≡ false) refl refl refl)
  strange (TagLow x high low) f a k z s = rw (differs (base_bus x) 5 k (λ p q. (p && q && ltb info 10000) ≡ false) refl refl refl)
  strange (Answering b r) f a k z s = let d : (bus ≡ b → ⊥) = λ e. a (omega arith) in rw (ne_eqb bus b d)

  pub unawaited_word_is_bad : (g : Holding) → Sane g → Strange g (held_of g)
  unawaited_word_is_bad = sane_ind Strange strange

  -- nothing is held, or a command or an ARINC word that stays untagged
  begun_behind : (x : Base) → BaseFits x → (f : Fed)
      → begun (flat (Taggable x)) (number_of 0 (untagged x)) (base_width (number_of 0 (untagged x))) f ≡ step_of (Taggable x) (after (with_tag x Untagged) f)
  unfolding item_fields flat_map
  begun_behind x p bad = refl
  begun_behind (base.Command b side word) p (fed is h) =
      let k : number_of 0 (untagged (base.Command b side word)) < 4294967296 = omega (arith, bit_low side) in rw (lt-ltb _ _ k)
  begun_behind (base.Arinc b c word) p (fed is h) =
      let k : 4294967296 ≤ number_of 0 (untagged (base.Arinc b c word)) = omega arith in rw (le-ltb _ _ k)

  abbrev pub Free : Holding → Held → Type 0
  Free g h = g.awaits ≡ 0 → begun g g.base 0 (starts (kind_on ks bus) bus label info) ≡ step_of h (feed ks h bus label info)

  free : (h : Held) → Fits h → Free (flat h) h
  unfolding feed
  free Nothing f e = begun_of_nothing (starts (kind_on ks bus) bus label info)
  free (Taggable x) f e = absurd (omega arith)
  free (Half b c high) f e = absurd (omega arith)
  free (TagHigh x high) f e = absurd (omega arith)
  free (TagLow x high low) f e = absurd (omega arith)
  free (Answering b r) f e = absurd (omega arith)

  pub nothing_held : (g : Holding) → Sane g → Free g (held_of g)
  nothing_held = sane_ind Free free

  abbrev pub Untag : Holding → Held → Type 0
  Untag g h = g.awaits % 16 ≡ 7 → (g.awaits ≡ bus * 16 + label → ⊥)
      → begun g g.base (base_width g.base) (starts (kind_on ks bus) bus label info) ≡ step_of h (feed ks h bus label info)

  untag : (h : Held) → Fits h → Untag (flat h) h
  unfolding feed
  untag Nothing f e k = absurd (omega arith)
  untag (Taggable x) f e k = rw (differs (base_bus x) 7 k (λ p q. (q && p) ≡ false) refl refl refl) (begun_behind x f (starts (kind_on ks bus) bus label info))
  untag (Half b c high) f e k = absurd (omega arith)
  untag (TagHigh x high) f e k = absurd (omega arith)
  untag (TagLow x high low) f e k = absurd (omega arith)
  untag (Answering b r) f e k = absurd (omega arith)

  pub no_tag_follows : (g : Holding) → Sane g → Untag g (held_of g)
  no_tag_follows = sane_ind Untag untag
