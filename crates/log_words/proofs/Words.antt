-- The words of a log, item by item.
use Prim.Native.Nat.{ℕ, zero, suc, ◌+◌, ◌*◌, ◌<◌, ◌≤◌}
use native.Mathlib.Omega.{arith}
use native.Mathlib.Numerals.{add-one}
use mathlib.Core.Bool.{Bool, true, false, cond}
use mathlib.Core.Path.{◌≡◌, refl, ap, sym, subst}
use mathlib.Core.List.{List, [], ◌++◌, flat_map}
use lib.ListN.{length}
use lib.Dec.{eqb, ltb}
use borrow.Author.Tests.{eq-eqb, lt-leb, ne_eqb}
use Rattle.format.specs.Bits.{bytes_bits}
use Rattle.format.specs.Item.{item_words}
use Rattle.format.specs.Log.{Next, ends, has, wrong, next_at, Parsed, items, fault, consed, parse_next, parse_from, parsed}
use Rattle.format.specs.declared.Item.{Item}
use Rattle.log_read.specs.Found.{found_of}
use Rattle.log_read.specs.declared.Found.{Found}
use Rattle.log_read.specs.declared.Found.TheVariants.{Has, End, Wrong}
use Rattle.log_words.specs.Words.{left_by, words_next, words_by, words_from}
use Rattle.format.specs.Laws.Bits.{length_bytes}
use Rattle.log_read.proofs.Parsing.{follows}

-- no item was found
abbrev pub Empty : Found → Type 0
Empty (Has i c) = ⊥
Empty End = Unit {0}
Empty Wrong = Unit {0}

module _ (check : Item → ℕ) (log : List ℕ) where
  -- an item takes eight bits or more
  item_far : (p : ℕ) (i : Item) (q : ℕ) → next_at (bytes_bits log) p ≡ has i q → p + 8 ≤ q
  item_far p i q e = (follows log p (found_of (next_at (bytes_bits log) p)) i (record { at = q; ahead = 0 }) refl (ap found_of e)).far

  -- past the log there is nothing
  none_past : (p : ℕ) → length (bytes_bits log) < p + 4 → next_at (bytes_bits log) p ≡ wrong
  unfolding next_at
  none_past p h = rw (lt-leb (p + 4) (length (bytes_bits log)) h)

  past_words : (f p : ℕ) → length log * 8 < p + 4 → words_by f check log p ≡ []
  unfolding words_by
  past_words zero p h = refl
  past_words (suc f) p h = rw (none_past p (omega (arith, length_bytes log)))

  -- two bounds that are high enough give the same words
  bound_free : (f g p : ℕ) → length log * 8 < p + 8 * f → length log * 8 < p + 8 * g → words_by f check log p ≡ words_by g check log p
  unfolding words_by
  bound_free zero g p h k = sym (past_words g p (omega arith))
  bound_free (suc f) zero p h k = past_words (suc f) p (omega arith)
  bound_free (suc f) (suc g) p h k = go (λ q. bound_free f g q) (next_at (bytes_bits log) p) refl
    where
      go : ((q : ℕ) → length log * 8 < q + 8 * f → length log * 8 < q + 8 * g → words_by f check log q ≡ words_by g check log q)
          → (n : Next) → next_at (bytes_bits log) p ≡ n → words_next check (words_by f check log) n ≡ words_next check (words_by g check log) n
      go same ends e = refl
      go same wrong e = refl
      go same (has i q) e =
          ap (λ (r : List ℕ). cond (eqb (check i) 0) (item_words i ++ r) (left_by (check i) i))
          (same q (omega (arith, item_far p i q e)) (omega (arith, item_far p i q e)))

  -- an item's words, and then those behind it
  pub words_more : (p : ℕ) (i : Item) (q : ℕ) → next_at (bytes_bits log) p ≡ has i q → check i ≡ 0 → words_from check log p ≡ item_words i ++ words_from check log q
  unfolding words_from words_by
  words_more p i q e z =
      rw (add-one (length log), e, eq-eqb (check i) 0 z)
      (ap (λ (r : List ℕ). item_words i ++ r) (bound_free (length log) (suc (length log)) q (omega (arith, item_far p i q e)) (omega arith)))

  -- what an item leaves that is refused
  pub words_left : (p : ℕ) (i : Item) (q : ℕ) → next_at (bytes_bits log) p ≡ has i q → (check i ≡ 0 → ⊥) → words_from check log p ≡ left_by (check i) i
  unfolding words_from words_by
  words_left p i q e z = rw (add-one (length log), e, ne_eqb (check i) 0 z)

  -- and none where there is no item
  pub words_none : (p : ℕ) (f : Found) → f ≡ found_of (next_at (bytes_bits log) p) → Empty f → words_from check log p ≡ []
  unfolding words_from words_by
  words_none p f e h = rw (add-one (length log)) (go (next_at (bytes_bits log) p) (subst Empty e h))
    where
      go : (n : Next) → Empty (found_of n) → words_next check (words_by (length log) check log) n ≡ []
      go ends h = refl
      go wrong h = refl
      go (has i q) h = absurd h

-- a log that parses has the words of its items
abbrev Said : List ℕ → Parsed → Type 0
Said ws (items is) = ws ≡ flat_map item_words is
Said ws (fault n q) = Unit {0}

module _ (check : Item → ℕ) (log : List ℕ) where
  said_more : (i : Item) (ws : List ℕ) (r : Parsed) → Said ws r → Said (item_words i ++ ws) (consed i r)
  unfolding flat_map
  said_more i ws (items is) h = ap (λ (l : List ℕ). item_words i ++ l) h
  said_more i ws (fault n q) h = tt

  said_from : (f p : ℕ) → Said (words_by f check log p) (parse_from f check (bytes_bits log) p)
  unfolding words_by parse_from flat_map
  said_from zero p = tt
  said_from (suc f) p = go (λ q. said_from f q) (next_at (bytes_bits log) p)
    where
      checked : (i : Item) (q : ℕ) → Said (words_by f check log q) (parse_from f check (bytes_bits log) q) → (b : Bool)
          → Said (cond b (item_words i ++ words_by f check log q) (left_by (check i) i)) (cond b (consed i (parse_from f check (bytes_bits log) q)) (fault (check i) p))
      checked i q h true = said_more i (words_by f check log q) (parse_from f check (bytes_bits log) q) h
      checked i q h false = tt

      go : ((q : ℕ) → Said (words_by f check log q) (parse_from f check (bytes_bits log) q)) → (n : Next) → Said (words_next check (words_by f check log) n) (parse_next check p (parse_from f check (bytes_bits log)) n)
      go rest ends = refl
      go rest wrong = tt
      go rest (has i q) = checked i q (rest q) (eqb (check i) 0)

  said_all : Said (words_from check log 0) (parsed check log)
  unfolding words_from parsed
  said_all = go (ltb 32768 (length log))
    where
      go : (b : Bool) → Said (words_by (length log + 1) check log 0) (cond b (fault 2 0) (parse_from (length log + 1) check (bytes_bits log) 0))
      go true = tt
      go false = said_from (length log + 1) 0

  pub words_parsed : (is : List Item) → parsed check log ≡ items is → words_from check log 0 ≡ flat_map item_words is
  words_parsed is e = rw e at said_all
