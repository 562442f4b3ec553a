-- The words dealt to a group: time words, data, then fill.
use Prim.Native.Nat.{ℕ, zero, suc, ◌*◌, ◌^◌, ◌-◌, ◌<◌, ◌≤◌}
use native.Mathlib.Omega.{arith}
use mathlib.Core.Bool.{Bool, true, false, cond}
use mathlib.Core.Path.{◌≡◌, refl, ap, ◌∙◌}
use mathlib.Core.List.{List, [], ◌∷◌, ◌++◌}
use lib.ListN.{length, take, get_or}
use Rattle.format.specs.Word.{word_of}
use Rattle.format.specs.Plan.{lead}
use Rattle.format.specs.Group.{time_words}
use Rattle.format.specs.Time.{time_end, high_part, low_part, micro_part}
use Rattle.format.specs.Lawful.{buses}
use Rattle.format.specs.Lists.{nil, cons}
use Rattle.format.specs.declared.Plan.{Plan}
use Rattle.word.proofs.Below.{word_below}
use Rattle.format.specs.Group.{dealt_of}
use Rattle.group_write.specs.Writing.{Unsent}

pub dealt_is : (p : Plan) (time : ℕ) (words : List ℕ) → dealt_of p time words ≡ take (lead p) (time_words time) ++ words
unfolding dealt_of lead time_words
dealt_is p time words = go p.frame_time
  where
    go : (b : Bool) → cond b (time_words time) [] ++ words ≡ take (cond b 3 0) (time_words time) ++ words
    go true = refl
    go false = refl

-- the dealt word s is a time word, a data word, or fill
module _ (e : ℕ) (words : List ℕ) where
  pub dealt_time : (k : ℕ) (times : List ℕ) (s d : ℕ) → s < k → k ≤ length times → get_or (take k times ++ words) s e ≡ get_or times s d
  dealt_time zero times s d h l = absurd (omega arith)
  dealt_time (suc k) [] s d h l = absurd (omega arith)
  dealt_time (suc k) (x ∷ times) zero d h l = refl
  dealt_time (suc k) (x ∷ times) (suc s) d h l = dealt_time k times s d (omega arith) (omega arith)

  pub dealt_past : (k : ℕ) (times : List ℕ) (s : ℕ) → k ≤ s → k ≤ length times → get_or (take k times ++ words) s e ≡ get_or words (s - k) e
  dealt_past zero times s h l =
      let z : s ≡ s - 0 = omega arith in
      ap (λ (i : ℕ). get_or words i e) z
  dealt_past (suc k) [] s h l = absurd (omega arith)
  dealt_past (suc k) (x ∷ times) zero h l = absurd (omega arith)
  dealt_past (suc k) (x ∷ times) (suc s) h l =
      let z : s - k ≡ suc s - suc k = omega arith in
      dealt_past k times s (omega arith) (omega arith) ∙ ap (λ (i : ℕ). get_or words i e) z

pub within : (ws : List ℕ) (i d e : ℕ) → i < length ws → get_or ws i e ≡ get_or ws i d
within [] i d e h = absurd (omega arith)
within (w ∷ ws) zero d e h = refl
within (w ∷ ws) (suc i) d e h = within ws i d e (omega arith)

pub buses_some : (parity : Bool) → 0 < buses parity
buses_some true = omega arith
buses_some false = omega arith

-- a word on bus 0 leaves bit 1 to the parity
pub on_bus_0 : (parity : Bool) (label info : ℕ) → label < 16 → info < 2 ^ 16 → word_of 0 label info < buses parity * 2 ^ 20
on_bus_0 parity label info l i = word_below (buses parity) 0 label info (buses_some parity) l i

pub time_words_three : (time : ℕ) → length (time_words time) ≡ 3
unfolding time_words
time_words_three time = refl

pub time_words_unsent : (p : Plan) (time : ℕ) → time < time_end → Unsent p (time_words time)
unfolding time_words
time_words_unsent p time h =
    cons (on_bus_0 p.parity 7 (high_part time) (omega arith) (omega arith))
    (cons (on_bus_0 p.parity 6 (low_part time) (omega arith) (omega arith))
    (cons (on_bus_0 p.parity 5 (micro_part time) (omega arith) (omega arith)) nil))
