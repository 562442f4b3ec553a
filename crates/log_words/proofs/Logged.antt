-- A log parsed item by item, its words put into a row.
use Prim.Native.Nat.{ℕ, ◌+◌, ◌*◌, ◌-◌, ◌^◌, ◌≤◌, ◌<◌}
use native.Mathlib.Omega.{arith}
use mathlib.Core.Bool.{Bool, true, false, cond}
use mathlib.Core.Path.{◌≡◌, refl, ap, sym, ◌∙◌}
use mathlib.Core.List.{List}
use lib.Dec.{eqb}
use lib.ListN.{length}
use borrow.Author.Tests.{eqb-true, eqb-false}
use Rattle.format.specs.Bits.{bytes_bits}
use Rattle.format.specs.Item.{bus_of_item, in_time, item_words, stands_on}
use Rattle.format.specs.Log.{Next, ends, has, item_at, next_at, on_plan, wrong}
use Rattle.format.specs.Plan.{kind_on}
use Rattle.format.specs.declared.Item.{Item}
use Rattle.format.specs.declared.Kind.{Kind}
use Rattle.log_read.specs.Cursor.{Ahead}
use Rattle.log_read.specs.Fields.{ends_of, head_of}
use Rattle.log_read.specs.Found.{found_of}
use Rattle.log_read.specs.declared.Cursor.{Cursor}
use Rattle.log_read.specs.declared.Head.{Head}
use Rattle.log_read.specs.declared.Found.{Found}
use Rattle.log_read.specs.declared.Found.TheVariants.{End, Wrong}
use Rattle.log_read.specs.declared.Tally.TheVariants.{Items, Fault}
use Rattle.log_read.proofs.Ending.{ends_bad, ends_kind}
use Rattle.log_read.proofs.Items.{next_item}
use Rattle.log_read.proofs.Table.{head_read}
use Rattle.log_read.proofs.Parsing.{Follows, follows, onward, tally_end, tally_wrong, tally_fault, tally_more, words_few}
use Rattle.log_words.specs.declared.put.Laid.{Laid}
use Rattle.log_words.specs.Laid.{Lays, cut, refused, laid, written}
use Rattle.log_words.specs.Words.{words_from}
use Rattle.log_words.proofs.Laying.{none_zero}
use Rattle.log_words.proofs.Row.{more_written, none_written, puts_length}
use Rattle.log_words.proofs.Words.{Empty, words_left, words_more, words_none}

no_item : {i : Item} {q : ℕ} → has i q ≡ wrong → ⊥
no_item {i} {q} e = let z : ◌≡◌ {A = ℕ} 0 1 = cc in omega arith

check_few : (ks : List Kind) (i : Item) → on_plan ks i < 5
check_few ks i = go (stands_on i (kind_on ks (bus_of_item i))) (in_time i)
  where
    go : (b c : Bool) → cond b (cond c 0 4) 3 < 5
    go true true = omega arith
    go true false = omega arith
    go false c = omega arith

-- nothing is laid of what is no item
pub unlaid : {check : Item → ℕ} {p n e : ℕ} {next : Next} {before after : List ℕ} {r : Laid} → Lays check p n e next before after r → next ≡ wrong → after ≡ before
unlaid (cut e f s) z = s
unlaid (refused i q e f g s) z = absurd (no_item (sym e ∙ z))
unlaid (laid i q e f g a x d y) z = absurd (no_item (sym e ∙ z))

-- what stands where a head was read, of a log of so many bits
module _ {s : List ℕ} {p : ℕ} {h : Head} {c : Cursor} (a : Ahead s p 57 0 c) (read : h ≡ head_of c) (total : ℕ) (size : length s ≡ total) (within : p ≤ total) where
  -- at an end mark there is no item
  pub next_none : ends_of c total ≡ true → item_at s p h.kind ≡ wrong
  next_none e = none_zero s p h.kind (ap (λ (r : Head). r.kind) read ∙ ends_kind a total size within e)

  -- elsewhere it is the item of the kind in the head, or neither
  pub next_other : ends_of c total ≡ false → next_at s p ≡ item_at s p h.kind
  next_other e = go (eqb h.kind 0) refl
    where
      go : (b : Bool) → eqb h.kind 0 ≡ b → next_at s p ≡ item_at s p h.kind
      go true z =
          let k : h.kind ≡ 0 = eqb-true h.kind 0 z in
          ends_bad a total size within e (sym (ap (λ (r : Head). r.kind) read) ∙ k) ∙ sym (none_zero s p h.kind k)
      go false z = next_item (head_read a read) (eqb-false h.kind 0 z)

  pub next_laid : {check : Item → ℕ} {n e : ℕ} {before after : List ℕ} {r : Laid} → Lays check p n e (item_at s p h.kind) before after r → r.number ≡ 0
      → next_at s p ≡ item_at s p h.kind
  next_laid {r = r} l z = go (ends_of c total) refl l
    where
      go : {check : Item → ℕ} {n e : ℕ} {before after : List ℕ} → (b : Bool) → ends_of c total ≡ b → Lays check p n e (item_at s p h.kind) before after r → next_at s p ≡ item_at s p h.kind
      go false u l = next_other u
      go true u (cut e f w) = absurd (omega (arith, sym (ap (λ (t : Laid). t.number) f) ∙ z))
      go true u (refused i q e f g w) = absurd (no_item (sym e ∙ next_none u))
      go true u (laid i q e f g k x d y) = absurd (no_item (sym e ∙ next_none u))

module _ (log : List ℕ) (p : ℕ) where
  found : (i : Item) (q : ℕ) → next_at (bytes_bits log) p ≡ has i q → Follows log p i q
  found i q e = follows log p (found_of (next_at (bytes_bits log) p)) i (record { at = q; ahead = 0 }) refl (ap found_of e)

-- n items and w words came before p
module _ (ks : List Kind) (log : List ℕ) (p n w : ℕ) (few : n * 8 ≤ p) (fits : p ≤ length log * 8) where
  pub stops : next_at (bytes_bits log) p ≡ wrong → onward (on_plan ks) log p n w ≡ Fault 2 p
  stops e = tally_wrong (on_plan ks) log p n w few fits Wrong (sym (ap found_of e)) refl

  pub closes : next_at (bytes_bits log) p ≡ ends → onward (on_plan ks) log p n w ≡ Items n w
  closes e = tally_end (on_plan ks) log p n w few fits End (sym (ap found_of e)) refl

  -- where no item stands, no words follow
  pub none_left : (row : List ℕ) (f : Found) → found_of (next_at (bytes_bits log) p) ≡ f → Empty f → row ≡ written w (words_from (on_plan ks) log p) row
  none_left row f e h = sym (rw (words_none (on_plan ks) log p f (sym e) h) (none_written w row))

  module _ {next : Next} {before after : List ℕ} {r : Laid} (here : next_at (bytes_bits log) p ≡ next) (l : Lays (on_plan ks) p w (length log * 8) next before after r) where
    -- a fault: its number, and what it leaves in the row
    pub record Told : Type 0 where
      pub tally : onward (on_plan ks) log p n w ≡ Fault r.number p
      pub small : r.number < 5
      pub row : after ≡ written w (words_from (on_plan ks) log p) before

    pub fault_told : (r.number ≡ 0 → ⊥) → Told
    fault_told h = go l
      where
        go : Lays (on_plan ks) p w (length log * 8) next before after r → Told
        go (cut e f s) = record {
          tally = rw f (stops (here ∙ e));
          small = rw f (omega arith);
          row = s ∙ none_left before Wrong (ap found_of (here ∙ e)) tt;
        }
        go (refused i q e f g s) = record {
          tally = rw g (tally_fault (on_plan ks) log p n w few fits i q (found log p i q (here ∙ e)) f);
          small = rw g (check_few ks i);
          row = s ∙ ap (λ (l : List ℕ). written w l before) (sym (words_left (on_plan ks) log p i q (here ∙ e) f));
        }
        go (laid i q e f g a x d z) = absurd (h g)

    -- the place behind the item, and what stands in the row then
    pub record Behind : Type 0 where
      pub far : p + 8 ≤ r.at
      pub within : r.at ≤ length log * 8
      pub dense : 17 * r.count + p ≤ 17 * w + r.at
      pub same : length after ≡ length before
      pub tally : onward (on_plan ks) log p n w ≡ onward (on_plan ks) log r.at (n + 1) r.count
      pub row : written r.count (words_from (on_plan ks) log r.at) after ≡ written w (words_from (on_plan ks) log p) before

    pub behind : r.number ≡ 0 → w + 5 ≤ length before → Behind
    behind h room = go l
      where
        go : Lays (on_plan ks) p w (length log * 8) next before after r → Behind
        go (cut e f s) = absurd (omega (arith, sym (ap (λ (t : Laid). t.number) f) ∙ h))
        go (refused i q e f g s) = absurd (f (sym (ap (λ (t : Laid). t.number) g) ∙ h))
        go (laid i q e f g a x d z) =
            let y = found log p i q (here ∙ e) in
            let short : w + length (item_words i) ≤ length before = omega (arith, words_few i, room) in
            record {
              far = rw a y.far;
              within = rw a z;
              dense = omega (arith, a, d, x.next);
              same = puts_length x short;
              tally = rw (a, x.next) (tally_more (on_plan ks) log p n w few fits i q y f);
              row = rw (a, x.next, x.is, words_more (on_plan ks) log p i q (here ∙ e) f) (more_written w (item_words i) (words_from (on_plan ks) log q) before short);
            }
