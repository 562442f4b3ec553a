-- A log walked item by item from its first bit, and checked on the way. Where the walk stands it has some items
-- behind it; the whole log parses as those, and as what is parsed from there on.
use Rattle.std.specs.Prelude.{ℕ, suc, ◌+◌, ◌*◌, ◌-◌, ◌≤◌, ◌<◌, ◌≡◌}
use Rattle.std.proofs.Common.{arith, sym, ◌∙◌}
use Rattle.std.proofs.Math.Path.{refl, ap}
use mathlib.Core.List.{List, [], ◌∷◌, ◌++◌, flat_map, append_assoc, append-nil}
use Rattle.std.proofs.Math.ListN.{length, length-append}
use borrow.Author.Tests.{lt-ltb, le-ltb, eq-eqb, ne_eqb}
use Rattle.format.specs.Bits.{bytes_bits}
use Rattle.format.specs.Item.{item_bits}
use Rattle.format.specs.Log.{next_at, has, ends, wrong, Parsed, items, fault, consed, parse_from, parsed}
use Rattle.format.specs.Laws.Bits.{length_bytes}
use Rattle.format.specs.Laws.Lists.{flat_map_append}
use Rattle.format.specs.Laws.Log.Forth.{same_items}
use Rattle.format.specs.declared.Item.{Item}
use Rattle.log_rules.specs.Laws.Onward.{Onward, onward}

-- items before the rest
abbrev pub behind : List Item → Parsed → Parsed
behind past (items is) = items (past ++ is)
behind past (fault n p) = fault n p

-- the walk stands at a bit, with these items behind it; each passed the check
pub record Walk (check : Item → ℕ) (log : List ℕ) (past : List Item) (place : ℕ) : Type 0 where
  pub fuel : ℕ
  pub is : parsed check log ≡ behind past (parse_from fuel check (bytes_bits log) place)
  pub enough : length log * 8 < place + fuel * 8
  pub at : place ≡ length (flat_map item_bits past)
  pub fits : place ≤ length log * 8

module _ (check : Item → ℕ) (log : List ℕ) where
  -- a log that is too long
  pub walk_long : 32768 < length log → parsed check log ≡ fault 2 0
  unfolding parsed
  walk_long h = rw (lt-ltb 32768 (length log) h)

  pub walk_start : length log ≤ 32768 → Walk check log [] 0
  unfolding parsed flat_map
  walk_start h = record {
    fuel = length log + 1;
    is = rw (le-ltb 32768 (length log) h) (go (parse_from (length log + 1) check (bytes_bits log) 0));
    enough = omega arith;
    at = refl;
    fits = omega arith;
  }
    where
      go : (r : Parsed) → r ≡ behind [] r
      go (items is) = refl
      go (fault n p) = refl

  module _ {past : List Item} {place : ℕ} (w : Walk check log past place) where
    abbrev here : ℕ → Parsed
    here f = behind past (parse_from f check (bytes_bits log) place)

    one_more : w.fuel ≡ suc (w.fuel - 1)
    one_more = omega (arith, w.enough, w.fits)

    -- where the log ends, it has the items behind
    pub walk_over : next_at (bytes_bits log) place ≡ ends → parsed check log ≡ items past
    unfolding parse_from
    walk_over n = w.is ∙ ap here one_more ∙ rw n (ap items (append-nil past))

    -- where the log parses, the items behind are its first
    pub walk_first : (is : List Item) → parsed check log ≡ items is → (rest : List Item) × (is ≡ past ++ rest)
    walk_first is e = go (parse_from w.fuel check (bytes_bits log) place) (sym e ∙ w.is)
      where
        go : (r : Parsed) → items is ≡ behind past r → (rest : List Item) × (is ≡ past ++ rest)
        go (items js) z = (js, same_items z)
        go (fault n p) z = let y : ◌≡◌ {A = ℕ} 0 1 = cc in absurd (omega arith)

    -- where it is cut, or has an unknown kind or a bad ending, that is its fault
    pub walk_wrong : next_at (bytes_bits log) place ≡ wrong → parsed check log ≡ fault 2 place
    unfolding parse_from
    walk_wrong n = w.is ∙ ap here one_more ∙ rw n refl

    module _ (i : Item) (q : ℕ) (n : next_at (bytes_bits log) place ≡ has i q) where
      -- an item that does not pass is its fault
      pub walk_fault : (check i ≡ 0 → ⊥) → parsed check log ≡ fault (check i) place
      unfolding parse_from
      walk_fault h = w.is ∙ ap here one_more ∙ rw (n, ne_eqb (check i) 0 h) refl

      next : Onward (bytes_bits log) place (has i q)
      next = rw n at (onward (bytes_bits log) place)

      pub walk_far : (place + 8 ≤ q) × (q ≤ length log * 8)
      walk_far = (next.0, omega (arith, next.1, length_bytes log))

      -- the next item begins where this one's bits end
      pub walk_bit : q ≡ place + length (item_bits i)
      walk_bit = next.2

      -- an item that passes is one more behind
      pub walk_more : check i ≡ 0 → Walk check log (past ++ i ∷ []) q
      unfolding parse_from flat_map
      walk_more h =
          let l : length (flat_map item_bits (past ++ i ∷ [])) ≡ length (flat_map item_bits past) + length (item_bits i ++ []) =
          ap length (flat_map_append item_bits past (i ∷ [])) ∙ length-append (flat_map item_bits past) (item_bits i ++ []) in
          let m : length (item_bits i ++ []) ≡ length (item_bits i) = ap length (append-nil (item_bits i)) in
          record {
            fuel = w.fuel - 1;
            is = w.is ∙ ap here one_more ∙ rw (n, eq-eqb (check i) 0 h) (go (parse_from (w.fuel - 1) check (bytes_bits log) q));
            enough = omega (arith, w.enough, w.fits, walk_far.0);
            at = omega (arith, w.at, walk_bit);
            fits = walk_far.1;
          }
        where
          go : (r : Parsed) → behind past (consed i r) ≡ behind (past ++ i ∷ []) r
          go (items is) = ap items (sym (append_assoc past (i ∷ []) is))
          go (fault k p) = refl
