-- The buffer's numbers follow the buffer.
use Prim.Native.Nat.{ℕ, ◌+◌}
use native.Mathlib.Omega.{arith}
use mathlib.Core.Bool.{Bool, true, false, cond}
use mathlib.Core.Path.{◌≡◌, refl, ap, sym, ◌∙◌}
use mathlib.Core.List.{List, [], ◌∷◌, ◌++◌, flat_map, append-nil}
use lib.ListN.{length, length-append}
use lib.Dec.{eqb, leb}
use Rattle.format.specs.Item.{bus_of_item, item_words}
use Rattle.format.specs.declared.Item.{Item}
use Rattle.format.specs.declared.Item.TheVariants.{Overflow}
use Rattle.log_rules.specs.Replay.{Buffer, arrive, leave, missed, needs, taken}
use Rattle.log_buffer.specs.Level.{arrived_by, left_by, level_of, load_of, missed_by, need_by, taken_by}
use Rattle.log_buffer.specs.declared.Level.{Level}
use Rattle.log_buffer.proofs.Loads.{load_bus, load_words}

one_words : (i : Item) → length (flat_map item_words (i ∷ [])) ≡ (load_of i).words
unfolding flat_map
one_words i = ap length (append-nil (item_words i)) ∙ sym (load_words i)

mark_words : (bus n : ℕ) (i : Item) → length (flat_map item_words (Overflow bus n ∷ i ∷ [])) ≡ (load_of i).words + 1
unfolding flat_map item_words
mark_words bus n i = omega (arith, one_words i)

-- the words that an arriving item needs
pub needs_are : (s : Buffer) (i : Item) → needs s i ≡ need_by s.unmarked (load_of i).words
needs_are s i = go (eqb s.unmarked 0)
  where
    go : (b : Bool) → length (flat_map item_words (cond b [] (Overflow s.bus s.unmarked ∷ []) ++ i ∷ [])) ≡ cond b (load_of i).words ((load_of i).words + 1)
    go true = one_words i
    go false = mark_words s.bus s.unmarked i

pub arrive_level : (capacity : ℕ) (s : Buffer) (i : Item)
    → level_of (arrive capacity s i) ≡ arrived_by (level_of s) (load_of i) (leb (s.held + need_by s.unmarked (load_of i).words) capacity)
unfolding arrive
arrive_level capacity s i =
    ap (λ (n : ℕ). level_of (cond (leb (s.held + n) capacity) (taken s i) (missed s i))) (needs_are s i)
    ∙ go (leb (s.held + need_by s.unmarked (load_of i).words) capacity)
  where
    go : (b : Bool) → level_of (cond b (taken s i) (missed s i)) ≡ arrived_by (level_of s) (load_of i) b
    go true = ap (λ (n : ℕ). record { sent = s.sent; lost = s.lost; held = s.held + n; unmarked = 0; bus = 0 }) (needs_are s i)
    go false = ap (λ (n : ℕ). missed_by (level_of s) n) (sym (load_bus i))

pub leave_level : (slots : ℕ) (s : Buffer) → level_of (leave slots s) ≡ left_by slots (level_of s)
unfolding leave
leave_level slots s = refl
