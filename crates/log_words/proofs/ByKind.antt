-- The item of each kind: what was read of it, and how it is laid.
use Prim.Native.Nat.{ℕ, zero, suc, ◌+◌, ◌*◌, ◌-◌, ◌/◌, ◌%◌, ◌^◌, ◌≤◌, ◌<◌}
use native.Mathlib.Omega.{arith}
use mathlib.Core.Bool.{Bool, true, false, ◌||◌}
use mathlib.Core.Path.{◌≡◌, refl, ap, sym, ◌∙◌}
use mathlib.Core.List.{List, [], ◌∷◌, ◌++◌, map}
use lib.Dec.{eqb, ltb}
use lib.ListN.{length}
use borrow.Author.Tests.{eqb-true}
use Rattle.format.specs.Item.{bus_of_item, high_label, in_time, item_words, low_label, sided, stands_on, tag_in_time, tag_parts}
use Rattle.format.specs.Laws.Tests.{clash}
use Rattle.format.specs.Log.{has, if_there, item_at, on_plan}
use Rattle.format.specs.Plan.{is_used, kind_on}
use Rattle.format.specs.Word.{word_for, word_of}
use Rattle.format.specs.declared.Item.{Item}
use Rattle.format.specs.declared.Item.TheVariants.{Command, Status, Data, BusError, Arinc, Notice, User, Overflow}
use Rattle.format.specs.declared.Kind.{Kind}
use Rattle.format.specs.declared.Tag.TheVariants.{Untagged, At}
use Rattle.format.specs.declared.Response.TheVariants.{Untimed, After}
use Rattle.log_read.specs.declared.Head.{Head}
use Rattle.log_read.specs.Cursor.{took_of}
use Rattle.log_read.specs.Fields.{Heads, sided_of, marked_of, channelled_of, noticed_of}
use Rattle.log_read.specs.Found.{time_at}
use Rattle.log_read.proofs.Items as items
use Rattle.log_words.specs.declared.put.Laid.{Laid}
use Rattle.log_words.specs.Laid.{is_arinc, is_mil, Lays, LaysTagged, LaysWords, cut, syllables, written}
use Rattle.log_words.specs.Laid as laid
use Rattle.log_words.specs.Plain.{plain_label, plain_stands}
use Rattle.log_words.specs.Words.{before_tag}
use Rattle.log_words.proofs.Laying.{arinc_stands, command_stands, data_stands, error_stands, notice_stands, overflow_stands, status_stands, user_stands}
use Rattle.log_words.proofs.Laying.{no_place, tag_laid, too_late, words_laid}
use Rattle.log_words.proofs.Row.{none_written}

-- an item of the kind k at the bit p, which ends at q: where it may stand, whether its time is in time, and its words
pub record Read (s : List ℕ) (p k q bus : ℕ) (stands : Kind → Bool) (timely : Bool) (new : List ℕ) : Type 0 where
  pub item : Item
  pub here : item_at s p k ≡ if_there s q (has item q)
  pub on : bus_of_item item ≡ bus
  pub place : (kind : Kind) → stands_on item kind ≡ stands kind
  pub times : in_time item ≡ timely
  pub words : item_words item ≡ new
  pub late : timely ≡ false → before_tag item ≡ []

-- an item with a tag at q
pub record ReadTagged (s : List ℕ) (p k q bus : ℕ) (stands : Kind → Bool) (new : List ℕ) : Type 0 where
  pub item : Item
  pub here : item_at s p k ≡ if_there s (q + 46) (has item (q + 46))
  pub on : bus_of_item item ≡ bus
  pub place : (kind : Kind) → stands_on item kind ≡ stands kind
  pub times : in_time item ≡ tag_in_time (At (time_at s q))
  pub first : before_tag item ≡ new
  pub words : item_words item ≡ new ++ map word_for (tag_parts bus (At (time_at s q)))

module _ {s : List ℕ} {p k q bus : ℕ} {stands : Kind → Bool} {timely : Bool} {new : List ℕ} (t : Read s p k q bus stands timely new) where
  pub read_lays : (ks : List Kind) (kind : Kind) {n e : ℕ} {before after : List ℕ} {r : Laid} → kind_on ks bus ≡ kind → length s ≡ e → 17 * length new + p ≤ q
      → {st tm : Bool} {new' : List ℕ} {q' : ℕ} → st ≡ stands kind → tm ≡ timely → new' ≡ new → q' ≡ q
      → LaysWords st tm new' q' e n before after r → Lays (on_plan ks) p n e (item_at s p k) before after r
  read_lays ks kind {n} {e} {before} {after} {r} b size d x y u v g = go (rw (← x, ← y, ← u, ← v) g)
    where
      whole : q ≤ e → item_at s p k ≡ has t.item q
      whole l = t.here ∙ items.there s q (has t.item q) (omega (arith, l, size))

      on_bus : kind_on ks (bus_of_item t.item) ≡ kind
      on_bus = ap (kind_on ks) t.on ∙ b

      go : LaysWords (stands kind) timely new q e n before after r → Lays (on_plan ks) p n e (item_at s p k) before after r
      go (laid.short l f a) = cut (t.here ∙ items.cut s q (has t.item q) (omega (arith, l, size))) f a
      go (laid.misplaced l z f a) = no_place ks kind t.item q (whole l) on_bus (t.place kind ∙ z) f a
      go (laid.past l z y f a) =
          too_late ks kind t.item q (whole l) on_bus (t.place kind ∙ z) (t.times ∙ y) f
          (a ∙ sym (none_written n before) ∙ ap (λ (w : List ℕ). written n w before) (sym (t.late y)))
      go (laid.put l z y f a x) = words_laid ks kind t.item q (whole l) on_bus (t.place kind ∙ z) (t.times ∙ y) new t.words f a x d l

module _ {s : List ℕ} {p k q bus : ℕ} {stands : Kind → Bool} {new : List ℕ} (t : ReadTagged s p k q bus stands new) where
  pub tagged_lays : (ks : List Kind) (kind : Kind) {n e : ℕ} {before after : List ℕ} {r : Laid} → kind_on ks bus ≡ kind → length s ≡ e → 17 * (length new + 3) + p ≤ q + 46
      → n + length new ≤ length before
      → {st : Bool} {new' : List ℕ} {q' : ℕ} → st ≡ stands kind → new' ≡ new → q' ≡ q
      → LaysTagged st new' s bus q' e n before after r → Lays (on_plan ks) p n e (item_at s p k) before after r
  tagged_lays ks kind {n} {e} {before} {after} {r} b size d room x u v g = go (rw (← x, ← u, ← v) g)
    where
      whole : q + 46 ≤ e → item_at s p k ≡ has t.item (q + 46)
      whole l = t.here ∙ items.there s (q + 46) (has t.item (q + 46)) (omega (arith, l, size))

      on_bus : kind_on ks (bus_of_item t.item) ≡ kind
      on_bus = ap (kind_on ks) t.on ∙ b

      go : LaysTagged (stands kind) new s bus q e n before after r → Lays (on_plan ks) p n e (item_at s p k) before after r
      go (laid.short l f a) = cut (t.here ∙ items.cut s (q + 46) (has t.item (q + 46)) (omega (arith, l, size))) f a
      go (laid.misplaced l z f a) = no_place ks kind t.item (q + 46) (whole l) on_bus (t.place kind ∙ z) f a
      go (laid.put l z mid m x y) = tag_laid ks kind t.item (q + 46) (whole l) on_bus (t.place kind ∙ z) t.times new t.first t.words refl x room y d l

module _ {s : List ℕ} {p : ℕ} {h : Head} (g : Heads s p h) where
  pub data_read : Read s p 3 (p + 25) h.bus is_mil true (word_of h.bus (sided 13 (eqb (sided_of h.next).side 1)) (sided_of h.next).word ∷ [])
  unfolding bus_of_item in_time item_words
  data_read = record { item = _; here = items.data_at g; on = refl; place = data_stands _ _ _; times = refl; words = refl; late = λ z. refl }

  pub notice_read : Read s p 6 (p + 18) h.bus is_arinc true
      (word_of h.bus 4 (high_label (noticed_of h.next).channel * 2 ^ 12 + low_label (noticed_of h.next).channel * 2 ^ 8 + (noticed_of h.next).diagnostics) ∷ [])
  unfolding bus_of_item in_time item_words
  notice_read = record { item = _; here = items.notice_at g; on = refl; place = notice_stands _ _ _; times = refl; words = refl; late = λ z. refl }

  pub overflow_read : Read s p 8 (p + 24) h.bus is_used true (word_of h.bus 0 (took_of h.next 16).field ∷ [])
  unfolding bus_of_item in_time item_words
  overflow_read = record { item = _; here = items.overflow_at g; on = refl; place = overflow_stands _ _; times = refl; words = refl; late = λ z. refl }

  -- bus errors and user words
  pub plain_read : (k : ℕ) → (eqb k 4 || eqb k 7) ≡ true
      → Read s p k (p + 25) h.bus (λ kind. plain_stands kind k) true (word_of h.bus (plain_label k (sided_of h.next).side) (sided_of h.next).word ∷ [])
  unfolding bus_of_item in_time item_words
  plain_read k e = go (eqb k 4) refl e
    where
      go : (b : Bool) → eqb k 4 ≡ b → (b || eqb k 7) ≡ true
          → Read s p k (p + 25) h.bus (λ kind. plain_stands kind k) true (word_of h.bus (plain_label k (sided_of h.next).side) (sided_of h.next).word ∷ [])
      go true f u = rw (eqb-true k 4 f) (record { item = _; here = items.error_at g; on = refl; place = error_stands _ _ _; times = refl; words = refl; late = λ z. refl })
      go false f u = rw (eqb-true k 7 u) (record { item = _; here = items.user_at g; on = refl; place = user_stands _ _ _; times = refl; words = refl; late = λ z. refl })

  -- commands and statuses, without a mark
  pub marked_read : (k : ℕ) → 0 < k → k ≤ 2 → ((marked_of h.next).mark ≡ 1 → ⊥)
      → Read s p k (p + 26) h.bus is_mil true (word_of h.bus (sided (16 - k) (eqb (marked_of h.next).side 1)) (marked_of h.next).word ∷ [])
  unfolding bus_of_item in_time item_words
  marked_read zero lo hi off = absurd (omega arith)
  marked_read (suc zero) lo hi off = record { item = _; here = items.command_plain g off; on = refl; place = command_stands _ _ _ _; times = refl; words = refl; late = λ z. absurd (clash (sym z)) }
  marked_read (suc (suc zero)) lo hi off = record { item = _; here = items.status_plain g off; on = refl; place = status_stands _ _ _ _; times = refl; words = refl; late = λ z. refl }
  marked_read (suc (suc (suc k))) lo hi off = absurd (omega arith)

  -- and with one
  module _ (on : (marked_of h.next).mark ≡ 1) where
    pub timed_read : (k : ℕ) → k ≡ 2 → Read s p k (p + 26 + 14) h.bus is_mil (ltb (took_of (marked_of h.next).next 14).field 10000)
        (word_of h.bus 4 (took_of (marked_of h.next).next 14).field ∷ word_of h.bus (sided (16 - k) (eqb (marked_of h.next).side 1)) (marked_of h.next).word ∷ [])
    unfolding bus_of_item in_time item_words
    timed_read k e = rw e (record { item = _; here = items.status_timed g on; on = refl; place = status_stands _ _ _ _; times = refl; words = refl; late = λ z. refl })

    pub command_read : (k : ℕ) → k ≡ 1 → ReadTagged s p k (p + 26) h.bus is_mil (word_of h.bus (sided (16 - k) (eqb (marked_of h.next).side 1)) (marked_of h.next).word ∷ [])
    unfolding bus_of_item in_time item_words
    command_read k e = rw e (record { item = _; here = items.command_tagged g on (time_at s (p + 26)) (λ l. refl); on = refl; place = command_stands _ _ _ _; times = refl; first = refl; words = refl })

  -- ARINC words
  pub pair_read : ((channelled_of h.next).mark ≡ 1 → ⊥)
      → Read s p 5 (p + 43) h.bus is_arinc true (syllables h.bus (channelled_of h.next).channel (channelled_of h.next).word)
  unfolding bus_of_item in_time item_words
  pair_read off = record { item = _; here = items.arinc_plain g off; on = refl; place = arinc_stands _ _ _ _; times = refl; words = refl; late = λ z. absurd (clash (sym z)) }

  pub pair_tagged_read : (channelled_of h.next).mark ≡ 1
      → ReadTagged s p 5 (p + 43) h.bus is_arinc (syllables h.bus (channelled_of h.next).channel (channelled_of h.next).word)
  unfolding bus_of_item in_time item_words
  pair_tagged_read on = record { item = _; here = items.arinc_tagged g on (time_at s (p + 43)) (λ l. refl); on = refl; place = arinc_stands _ _ _ _; times = refl; first = refl; words = refl }
