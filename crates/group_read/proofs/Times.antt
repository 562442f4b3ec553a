-- The three time words of a group.
use Prim.Native.Nat.{ℕ, ◌+◌}
use mathlib.Core.Path.{◌≡◌, refl, sym, ap, ◌∙◌}
use mathlib.Core.Bool.{Bool, true, false, cond}
use mathlib.Core.List.{List}
use borrow.Author.Tests.{lt-ltb}
use Rattle.format.specs.Word.{word_at}
use Rattle.format.specs.Plan.{place_of}
use Rattle.format.specs.Group.{Fault as GroupFault, none, or_else, unless, time_word_fault, time_fault}
use Rattle.format.specs.Laws.Word.Parts.{info_low}
use Rattle.format.specs.declared.Plan.{Plan}
use Rattle.group_read.specs.declared.Fault.{Fault}
use Rattle.group_read.specs.Faults.{fault_of, earlier_fault, is_time_word}

pub earlier_unless : (test : Bool) (place : ℕ) (f : GroupFault) → earlier_fault (fault_of (unless test 12 place)) (fault_of f) ≡ fault_of (or_else (unless test 12 place) f)
earlier_unless true place f = refl
earlier_unless false place f = refl

module _ (p : Plan) (c : List ℕ) (at : ℕ) where
  -- the dealt word s, right if its information is below `end`
  abbrev pub time_word_at : ℕ → ℕ → ℕ → GroupFault
  time_word_at s label end = unless (is_time_word p.parity (word_at c (at + place_of p s)) label end) 12 (at + place_of p s)

  -- a word's fault, found at its place
  pub time_word_at_lem : (s label end place : ℕ) {f : Fault} → f ≡ fault_of (unless (is_time_word p.parity (word_at c place) label end) 12 place)
      → place ≡ at + place_of p s → f ≡ fault_of (time_word_at s label end)
  time_word_at_lem s label end place e h = e ∙ ap (λ (q : ℕ). fault_of (unless (is_time_word p.parity (word_at c q) label end) 12 q)) h

  -- any information is below 65536
  any_information : (s label : ℕ) → time_word_fault p c at s label false ≡ time_word_at s label 65536
  unfolding time_word_fault is_time_word
  any_information s label = rw (lt-ltb _ _ (info_low (word_at c (at + place_of p s))))

  below_tick : (s label : ℕ) → time_word_fault p c at s label true ≡ time_word_at s label 10000
  unfolding time_word_fault is_time_word
  below_tick s label = refl

  three_words : p.frame_time ≡ true → time_fault p c at ≡ or_else (time_word_at 0 7 65536) (or_else (time_word_at 1 6 65536) (time_word_at 2 5 10000))
  unfolding time_fault
  three_words h =
      ap (λ (b : Bool). cond b (or_else (time_word_fault p c at 0 7 false) (or_else (time_word_fault p c at 1 6 false) (time_word_fault p c at 2 5 true))) none) h
      ∙ rw (any_information 0 7, any_information 1 6, below_tick 2 5)

  pub time_faults : p.frame_time ≡ true
      → earlier_fault (fault_of (time_word_at 0 7 65536)) (earlier_fault (fault_of (time_word_at 1 6 65536)) (fault_of (time_word_at 2 5 10000))) ≡ fault_of (time_fault p c at)
  time_faults h =
      ap (earlier_fault (fault_of (time_word_at 0 7 65536))) (earlier_unless (is_time_word p.parity (word_at c (at + place_of p 1)) 6 65536) (at + place_of p 1) (time_word_at 2 5 10000))
      ∙ earlier_unless (is_time_word p.parity (word_at c (at + place_of p 0)) 7 65536) (at + place_of p 0) (or_else (time_word_at 1 6 65536) (time_word_at 2 5 10000))
      ∙ ap fault_of (sym (three_words h))

  pub no_time_fault : p.frame_time ≡ false → time_fault p c at ≡ none
  unfolding time_fault
  no_time_fault h = rw h
