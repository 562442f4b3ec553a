-- Frame times from the left, and the groups one behind the other.
use Prim.Native.Nat.{ℕ, min, ◌+◌, ◌*◌, ◌/◌, ◌-◌, ◌<◌, ◌≤◌}
use native.Mathlib.Nat.{mul-le-mul_right, div-mul-le_self}
use native.Mathlib.Omega.{arith}
use native.Mathlib.Numerals.{add-one}
use mathlib.Core.Bool.{Bool, true, false}
use mathlib.Core.Path.{◌≡◌, refl, ap, sym, ◌∙◌}
use mathlib.Core.List.{List, [], ◌++◌, flat_map}
use lib.Dec.{leb}
use lib.ListN.{length, take, drop, get_or, drop_of_length-le, length-drop}
use lib.Seq.{drop-cons, take_all}
use borrow.Author.Tests.{lt-ltb, le-ltb, leb-true, leb-false}
use Rattle.format.specs.Answer.{over}
use Rattle.format.specs.Compose.{capture_of, dealt_for, first_late, groups_for}
use Rattle.format.specs.Group.{group}
use Rattle.format.specs.Lists.{list}
use Rattle.format.specs.Plan.{slots}
use Rattle.format.specs.Word.{bytes_of}
use Rattle.format.specs.declared.Plan.{Plan}
use Rattle.format.specs.Group.{dealt_of}
use Rattle.compose.specs.Compose.{groups_to}
use Rattle.compose.proofs.Laws.{Written, blocks_more, bytes_count}
use Rattle.format.specs.Time.{time_end}

module _ (times : List ℕ) (i : ℕ) where
  pub late_end : length times ≤ i → first_late i (drop i times) ≡ i
  unfolding first_late
  late_end h = rw (drop_of_length-le times h)

  pub late_here : i < length times → time_end ≤ get_or times i 0 → first_late i (drop i times) ≡ i
  unfolding first_late
  late_here h l = rw (drop-cons times i 0 h, le-ltb (get_or times i 0) time_end l)

  pub late_later : i < length times → get_or times i 0 < time_end → first_late i (drop i times) ≡ first_late (i + 1) (drop (i + 1) times)
  unfolding first_late
  late_later h l = rw (drop-cons times i 0 h, lt-ltb (get_or times i 0) time_end l, add-one i)

module _ (p : Plan) (times ws : List ℕ) where
  pub groups_none : groups_to p times ws 0 ≡ []
  unfolding groups_to flat_map list
  groups_none = refl

  pub groups_more : (n : ℕ) → groups_to p times ws (n + 1) ≡ groups_to p times ws n ++ group p (dealt_of p (get_or times n 0) (take (slots p) (drop (n * slots p) ws)))
  unfolding groups_to dealt_for dealt_of
  groups_more n = blocks_more (λ g. group p (dealt_for p times ws g)) n

  pub groups_all : (n : ℕ) → n ≡ groups_for p (length ws) → flat_map bytes_of (groups_to p times ws n) ≡ capture_of p times ws
  unfolding groups_to capture_of
  groups_all n e = ap (λ (k : ℕ). flat_map bytes_of (flat_map (λ (g : ℕ). group p (dealt_for p times ws g)) (list (λ g. g) 0 k))) e

-- all the groups written, and the rest as it was
pub written_all : {ws d xs : List ℕ} {n : ℕ} (capture : List ℕ) → Written ws n d xs → flat_map bytes_of ws ≡ capture → xs ≡ over capture d
written_all {ws} {d} {xs} {n} capture w e = rw (← e) (w.is ∙ ap (λ (k : ℕ). flat_map bytes_of ws ++ drop k d) (sym (bytes_count ws n w.count)))

-- the next of n parts of this size is within
pub part_within : (g n size L : ℕ) → g < n → n * size ≤ L → g * size + size ≤ L
part_within g n size L h l = omega (arith, mul-le-mul_right size h)

-- a group begins before the last word, and its share is what is left if that is less
pub share_starts : (s n g : ℕ) → 0 < s → g < (n + s - 1) / s → g * s < n
share_starts s n g z h = omega (arith, mul-le-mul_right s h, div-mul-le_self (n + s - 1) s)

pub share_taken : (s from to : ℕ) (ws : List ℕ) → to ≡ min (from + s) (length ws) → take (to - from) (drop from ws) ≡ take s (drop from ws)
share_taken s from to ws e = go (leb (from + s) (length ws)) refl
  where
    go : (b : Bool) → leb (from + s) (length ws) ≡ b → take (to - from) (drop from ws) ≡ take s (drop from ws)
    go true h =
        let l : from + s ≤ length ws = leb-true _ _ h in
        let q : to - from ≡ s = omega arith in
        rw q
    go false h =
        let l : length ws < from + s = leb-false _ _ h in
        let few : length (drop from ws) ≤ to - from = rw length-drop (omega arith) in
        let less : length (drop from ws) ≤ s = rw length-drop (omega arith) in
        take_all (to - from) (drop from ws) few ∙ sym (take_all s (drop from ws) less)

-- the turn of a group of n words whose number is told by R: plain numbers, so that no turn's facts are read for them
pub next_turn : {g m : ℕ} → g < m → g + 1 ≤ m
next_turn h = omega arith

pub start_at : (g n : ℕ) → g * (3 * n) ≡ 3 * (g * n)
start_at g n = omega arith

pub part_size : (g R n : ℕ) → R ≡ n → 3 * n ≤ g * (3 * R) + 3 * R - g * (3 * R)
part_size g R n e = omega (arith, e)

pub part_room : (g R l : ℕ) → g * (3 * R) + 3 * R ≤ l → g * (3 * R) + (g * (3 * R) + 3 * R - g * (3 * R)) ≤ l
part_room g R l h = omega (arith, h)

pub part_next : (g n : ℕ) → g * n + n ≡ (g + 1) * n
part_next g n = omega arith
