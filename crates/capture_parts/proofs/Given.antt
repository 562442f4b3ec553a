-- What a reading hands over, and the frame times of whole groups.
use Prim.Native.Nat.{ℕ, ◌+◌, ◌*◌, ◌/◌, ◌%◌, ◌≤◌}
use native.Mathlib.Nat.{div-add-mod'}
use native.Mathlib.Omega.{arith}
use mathlib.Core.Bool.{Bool, true, false, cond}
use mathlib.Core.Path.{◌≡◌, refl, sym, subst, ◌∙◌}
use mathlib.Core.List.{List, ◌++◌}
use lib.ListN.{length, drop}
use Rattle.format.specs.Lists.{list}
use Rattle.format.specs.Plan.{group_words, times_needed}
use Rattle.format.specs.Group.{group_time}
use Rattle.format.specs.Read.{Reading, gives, refuses}
use Rattle.format.specs.Answer.{Given, success, refusal}
use Rattle.format.specs.Laws.Lists.{length_list}
use Rattle.format.specs.declared.Answer.{Answer}
use Rattle.format.specs.declared.Plan.{Plan}

pub given_refused : {g : Reading} {r : Answer} {number place second : ℕ} (log times : List ℕ) → g ≡ refuses number place second → r ≡ refusal number place second
    → Given g r log log times times
given_refused {g} {r} log times e a = subst (λ (x : Reading). Given x r log log times times) (sym e) (a, refl, refl)

pub given_whole : (g : Reading) (r : Answer) (log log' times times' whole table : List ℕ) → g ≡ gives whole table → r ≡ success (length whole) (length table)
    → log' ≡ whole ++ drop (length whole) log → times' ≡ table ++ drop (length table) times → Given g r log log' times times'
given_whole g r log log' times times' whole table e a b c = subst (λ (x : Reading). Given x r log log' times times') (sym e) (a, b, c)

pub table_long : (p : Plan) (c : List ℕ) (k : ℕ) → length (list (λ g. group_time p c (g * group_words p)) 0 k) ≡ k
table_long p c k = length_list (λ g. group_time p c (g * group_words p)) 0 k

pub times_few : (p : Plan) (n : ℕ) → times_needed p n ≤ n
times_few p n = go p.frame_time
  where
    go : (b : Bool) → cond b n 0 ≤ n
    go true = omega arith
    go false = omega arith

pub whole_groups : (p : Plan) (k : ℕ) → k % (3 * group_words p) ≡ 0 → k ≡ k / (3 * group_words p) * (3 * group_words p)
whole_groups p k e = sym (div-add-mod' k (3 * group_words p)) ∙ rw e (omega arith)
