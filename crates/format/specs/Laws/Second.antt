-- The second place (document 02, K8).
use Rattle.std.specs.Prelude.{ℕ, zero, suc, ◌+◌, ◌*◌, ◌/◌, ◌%◌, Bool, true, false, cond, ◌&&◌, ◌≡◌, refl, List, length, eqb, leb}
use Rattle.format.specs.Plan.{legal, group_words}
use Rattle.format.specs.Log.{log_of}
use Rattle.format.specs.Lists.{list}
use Rattle.format.specs.Group.{Fault, none, found, group_fault, group_slots, group_time}
use Rattle.format.specs.Reader.{Ran, bad_at, ran, run}
use Rattle.format.specs.Compose.{Composed, made, refused}
use Rattle.format.specs.Answer.{compose_answer, read_answer}
use Rattle.format.specs.Read.{Got, got, stopped, before, finish, onward, if_sound, read_groups, Reading, gives, refuses, reading, settled, roomed, unless_found, open_in, misplaced}
use Rattle.format.specs.declared.Kind.{Kind}
use Rattle.format.specs.declared.Plan.{Plan}
use Rattle.format.specs.declared.Item.{Item}
use Rattle.format.specs.declared.Held.{Held}
use Rattle.format.specs.declared.Held.TheVariants.{Nothing, Taggable, Half, TagHigh, TagLow, Answering}

-- "In every other answer the second place is 0."
abbrev pub Only13 : ℕ → ℕ → Type 0
Only13 n second = (n ≡ 13 → ⊥) → second ≡ 0

abbrev pub GotOnly : Got → Type 0
GotOnly (got is) = Unit {0}
GotOnly (stopped n p second) = Only13 n second

abbrev pub ReadOnly : Reading → Type 0
ReadOnly (gives log times) = Unit {0}
ReadOnly (refuses n p second) = Only13 n second

pub before_only : (is : List Item) (g : Got) → GotOnly g → GotOnly (before is g)
before_only is (got js) o = tt
before_only is (stopped n p q) o = o

pub finish_only : (h : Held) (at : ℕ) → GotOnly (finish h at)
finish_only Nothing at = tt
finish_only (Taggable x) at = tt
finish_only (Half bus c high) at = λ z. absurd (z refl)
finish_only (TagHigh x high) at = λ z. absurd (z refl)
finish_only (TagLow x high low) at = λ z. absurd (z refl)
finish_only (Answering bus r) at = λ z. absurd (z refl)

pub onward_only : (r : Ran) (k : Held → ℕ → Got) → ((h : Held) (at : ℕ) → GotOnly (k h at)) → GotOnly (onward r k)
onward_only (bad_at p q) k o = λ z. absurd (z refl)
onward_only (ran is h at) k o = before_only is (k h at) (o h at)

sound_only : (f : Fault) (g : Got) → GotOnly g → GotOnly (if_sound f g)
sound_only none g o = o
sound_only (found n p) g o = λ z. refl

groups_only : (p : Plan) (ks : List Kind) (c : List ℕ) (n g : ℕ) (h : Held) (at : ℕ) → GotOnly (read_groups p ks c n g h at)
unfolding read_groups
groups_only p ks c zero g h at = finish_only h at
groups_only p ks c (suc n) g h at =
    sound_only (group_fault p c (g * group_words p)) _
    (onward_only (run ks p.parity (group_slots p c (g * group_words p)) h at) (λ h' at'. read_groups p ks c n (g + 1) h' at') (λ h' at'. groups_only p ks c n (g + 1) h' at'))

pub placed_only : (f : Fault) (r : Reading) → ReadOnly r → ReadOnly (unless_found f r)
placed_only none r o = o
placed_only (found k at) r o = λ z. refl

pub test_only : (t : Bool) (r s : Reading) → ReadOnly r → ReadOnly s → ReadOnly (cond t r s)
test_only true r s o q = o
test_only false r s o q = q

module _ (p : Plan) (c : List ℕ) (n log_room time_room : ℕ) where
  roomed_only : (log : List ℕ) → ReadOnly (roomed p c n log_room time_room log)
  roomed_only log =
      test_only (leb (length log) 32768 && leb (length log) log_room) _ _
      (test_only (leb (cond p.frame_time n 0) time_room) (gives log (list (λ g. group_time p c (g * group_words p)) 0 (cond p.frame_time n 0))) _ tt (λ z. refl)) (λ z. refl)

  settled_only : (closed : Bool) (g : Got) → GotOnly g → ReadOnly (settled p c n log_room time_room closed g)
  settled_only closed (got is) o = placed_only (open_in p c n is) _ (placed_only (cond closed (misplaced p (list (λ g. group_slots p c (g * group_words p)) 0 n)) none) _ (roomed_only (log_of is)))
  settled_only closed (stopped k at second) o = o

pub read_only : (closed : Bool) (p : Plan) (ks : List Kind) (c : List ℕ) (log_room time_room : ℕ) → ReadOnly (reading closed p ks c log_room time_room)
unfolding reading
read_only closed p ks c log_room time_room =
    test_only (legal p ks) _ _
    (test_only (leb (length c) 1048576 && eqb (length c % (3 * group_words p)) 0) _ _
    (settled_only p c (length c / (3 * group_words p)) log_room time_room closed (read_groups p ks c (length c / (3 * group_words p)) 0 Nothing 0)
    (groups_only p ks c (length c / (3 * group_words p)) 0 Nothing 0))
    (λ z. refl)) (λ z. refl)

-- ---- what is answered

pub answer_only : (g : Reading) → ReadOnly g → Only13 (read_answer g).number (read_answer g).second
answer_only (gives log times) o = λ z. refl
answer_only (refuses n p second) o = o

pub compose_none : (m : Composed) → (compose_answer m).second ≡ 0
compose_none (made c) = refl
compose_none (refused n p) = refl
