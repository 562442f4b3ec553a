-- The state between two calls as a row of numbers (document 02, K4), in the order in which they stand in the lent run of bytes.
use Rattle.std.specs.Prelude.{ℕ, zero, suc, ◌+◌, ◌*◌, ◌-◌, Bool, true, false, cond, ◌&&◌, List, [], ◌∷◌, ◌++◌, map, length, get_or, take, drop, replicate, eqb}
use Rattle.format.specs.Bits.{bit, bits_of, num_of}
use Rattle.format.specs.Word.{word_for, part_of, Part}
use Rattle.format.specs.Reader.{Fed, bad, fed}
use Rattle.stream_rules.specs.Stream.{State, closed, failed, working, Working, fits}
use Rattle.format.specs.Laws.Reader.Held.{held_parts}
use Rattle.stream_rules.specs.Laws.Stream.Held.{refed}
use Rattle.format.specs.declared.Kind.{Kind}
use Rattle.format.specs.declared.Kind.TheVariants.{Unused, Mil1553, Arinc429}
use Rattle.format.specs.declared.Held.{Held}
use Rattle.format.specs.declared.Held.TheVariants.{Nothing}
use Rattle.format.specs.declared.Plan.{Plan}

abbrev pub kind_number : Kind → ℕ
kind_number Unused = 0
kind_number Mil1553 = 1
kind_number Arinc429 = 2

abbrev pub kind_from : ℕ → Kind
kind_from n = cond (eqb n 1) Mil1553 (cond (eqb n 2) Arinc429 Unused)

-- how many words, and these, four at most
abbrev pub four_words : List Part → List ℕ
four_words [] = 0 ∷ 0 ∷ 0 ∷ 0 ∷ 0 ∷ []
four_words (a ∷ []) = 1 ∷ word_for a ∷ 0 ∷ 0 ∷ 0 ∷ []
four_words (a ∷ b ∷ []) = 2 ∷ word_for a ∷ word_for b ∷ 0 ∷ 0 ∷ []
four_words (a ∷ b ∷ c ∷ []) = 3 ∷ word_for a ∷ word_for b ∷ word_for c ∷ 0 ∷ []
four_words (a ∷ b ∷ c ∷ d ∷ rest) = 4 ∷ word_for a ∷ word_for b ∷ word_for c ∷ word_for d ∷ []

-- stage, plan, bits, groups, since, the fault and its two places, the held item's words, the sixteen kinds, the 64 notices, the waiting bytes
abbrev pub numbers_of : State → List ℕ
numbers_of closed = replicate 100 0
numbers_of (failed k q second) = 2 ∷ replicate 11 0 ++ k ∷ q ∷ second ∷ replicate 85 0
numbers_of (working w) =
    1 ∷ w.plan.words ∷ w.plan.tracks ∷ bit w.plan.frame_time ∷ bit w.plan.crc ∷ bit w.plan.parity ∷ w.plan.crc_label ∷ w.plan.fill_bus
    ∷ length w.bits ∷ num_of w.bits ∷ w.groups ∷ w.carry.since ∷ 0 ∷ 0 ∷ 0
    ∷ (four_words (held_parts w.carry.held) ++ (map kind_number w.kinds ++ (w.carry.waits ++ w.waiting)))

-- what the words hold
abbrev pub held_of : Fed → Held
held_of bad = Nothing
held_of (fed is h) = h

abbrev pub held_from : List Kind → List ℕ → Held
held_from ks row = held_of (refed ks Nothing (map (part_of false) (take (get_or row 0 0) (drop 1 row))))

-- the state that a row says
unfoldable pub state_of : List ℕ → State
state_of ns =
    let kinds : List Kind = map kind_from (take 16 (drop 20 ns)) in
    cond (eqb (get_or ns 0 0) 1)
    (working (record {
      plan = record { words = get_or ns 1 0; tracks = get_or ns 2 0; frame_time = eqb (get_or ns 3 0) 1; crc = eqb (get_or ns 4 0) 1; parity = eqb (get_or ns 5 0) 1; crc_label = get_or ns 6 0; fill_bus = get_or ns 7 0 };
      kinds = kinds;
      groups = get_or ns 10 0;
      waiting = drop 100 ns;
      bits = bits_of (get_or ns 8 0) (get_or ns 9 0);
      carry = record { held = held_from kinds (take 5 (drop 15 ns)); since = get_or ns 11 0; waits = take 64 (drop 36 ns) };
    }))
    (cond (eqb (get_or ns 0 0) 2) (failed (get_or ns 12 0) (get_or ns 13 0) (get_or ns 14 0)) closed)

unfoldable pub same_row : List ℕ → List ℕ → Bool
same_row [] [] = true
same_row [] (b ∷ bs) = false
same_row (a ∷ as') [] = false
same_row (a ∷ as') (b ∷ bs) = eqb a b && same_row as' bs

-- the written test of a row: the state that it says fits together, and these are its numbers (so every number that says nothing is 0)
abbrev pub passes : List ℕ → Bool
passes ns = fits (state_of ns) && same_row (numbers_of (state_of ns)) ns
