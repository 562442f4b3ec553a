-- What is made of what was put: the refusals, or the log.
use Prim.Native.Nat.{ℕ, ◌+◌, ◌≤◌, ◌<◌}
use native.Mathlib.Omega.{arith}
use mathlib.Core.Bool.{true, false}
use mathlib.Core.Path.{◌≡◌, refl, ap, sym, subst, ◌∙◌}
use mathlib.Core.List.{List, ◌++◌, flat_map}
use lib.ListN.{length, take, drop}
use lib.Dec.{leb}
use borrow.Author.Tests.{le-leb, lt-leb}
use Rattle.format.specs.Answer.{Made, refusal}
use Rattle.format.specs.Item.{item_bits}
use Rattle.format.specs.Log.{Parsed, items, fault, log_of}
use Rattle.format.specs.declared.Answer.{Answer}
use Rattle.format.specs.declared.Item.{Item}
use Rattle.log_rules.specs.Pick.{log_in}
use Rattle.log_write.specs.Pen.{Wrote, closed_in, closed_size}
use Rattle.log_write.specs.declared.Pen.{Pen}
use Rattle.log_write.proofs.Writing.{closed_log, closed_size_lem}
use Rattle.log_put.specs.declared.Put.{Put}
use Rattle.log_put.specs.declared.Put.TheVariants.{All, Fault}
use Rattle.log_close.specs.Made.{made_of, StandsIn}

-- ---- the log of the items, which has so many bytes

module _ (is : List Item) (bytes : ℕ) (long : bytes ≡ length (log_of is)) where
  pub made_beyond : (room : ℕ) (out : List ℕ) (r : Answer) → 32768 < bytes → r ≡ refusal 6 bytes 0 → Made (log_in room is) r out out
  made_beyond room out r h a =
      let z : leb (length (log_of is)) 32768 ≡ false = lt-leb (length (log_of is)) 32768 (omega (arith, long)) in
      rw (z, ← long) (a, refl)

  pub made_short : (room : ℕ) (out : List ℕ) (r : Answer) → bytes ≤ 32768 → room < bytes → r ≡ refusal 6 bytes 0 → Made (log_in room is) r out out
  made_short room out r h g a =
      let y : leb (length (log_of is)) 32768 ≡ true = le-leb (length (log_of is)) 32768 (omega (arith, long)) in
      let z : leb (length (log_of is)) room ≡ false = lt-leb (length (log_of is)) room (omega (arith, long)) in
      rw (y, z, ← long) (a, refl)

  pub made_all : (log out out' : List ℕ) → bytes ≤ 32768 → bytes ≤ length out → log ≡ log_of is → out' ≡ log ++ drop bytes out
      → Made (log_in (length out) is) (record { number = 0; place = 0; second = 0; bytes = bytes; times = 0 }) out out'
  made_all log out out' h g t o =
      let y : leb (length (log_of is)) 32768 ≡ true = le-leb (length (log_of is)) 32768 (omega (arith, long)) in
      let z : leb (length (log_of is)) (length out) ≡ true = le-leb (length (log_of is)) (length out) (omega (arith, long)) in
      rw (y, z) (
        ap (λ (n : ℕ). record { number = 0; place = 0; second = 0; bytes = n; times = 0 }) long,
        o ∙ ap (λ (l : List ℕ). l ++ drop bytes out) t ∙ ap (λ (n : ℕ). log_of is ++ drop n out) long,
      )

-- closed in an array
module _ (is : List Item) (built : List ℕ) (p : Pen) (w : Wrote (flat_map item_bits is) built p) (bytes : ℕ) (size : bytes ≡ closed_size p) where
  long : bytes ≡ length (log_of is)
  long = size ∙ closed_size_lem is built p w

  pub give_beyond : (room : ℕ) (out : List ℕ) (r : Answer) → 32768 < bytes → r ≡ refusal 6 bytes 0 → Made (log_in room is) r out out
  give_beyond = made_beyond is bytes long

  pub give_short : (room : ℕ) (out : List ℕ) (r : Answer) → bytes ≤ 32768 → room < bytes → r ≡ refusal 6 bytes 0 → Made (log_in room is) r out out
  give_short = made_short is bytes long

  pub give_all : (built' out out' : List ℕ) → built' ≡ closed_in built p → bytes ≤ 32768 → bytes ≤ length out → bytes + 7 ≤ length built
      → out' ≡ take bytes built' ++ drop bytes out
      → Made (log_in (length out) is) (record { number = 0; place = 0; second = 0; bytes = bytes; times = 0 }) out out'
  give_all built' out out' c h g k o =
      let t : take bytes built' ≡ log_of is = rw (c, long) (closed_log is built p w (omega (arith, long))) in
      made_all is bytes long (take bytes built') out out' h g t o

-- ---- what was put

pub no_all : {A : Type 0} {n q : ℕ} {p : Pen} → Fault n q ≡ All p → A
no_all e = let z : ◌≡◌ {A = ℕ} 0 1 = cc in absurd (omega arith)

pub same_pen : {p p' : Pen} → All p ≡ All p' → p ≡ p'
same_pen e = cc

same_number : {n n' q q' : ℕ} → Fault n q ≡ Fault n' q' → n ≡ n'
same_number e = cc

same_place : {n n' q q' : ℕ} → Fault n q ≡ Fault n' q' → q ≡ q'
same_place e = cc

-- a row that is all there
pub all_made : (row : Parsed) (most room : ℕ) (built out out' : List ℕ) (put : Put) (p : Pen) (r : Answer) → StandsIn row most built put → put ≡ All p
    → ((is : List Item) → Wrote (flat_map item_bits is) built p → Made (log_in room is) r out out') → Made (made_of room row) r out out'
all_made (items is) most room built out out' put p r s e g = g is (subst (λ (q : Pen). Wrote (flat_map item_bits is) built q) (same_pen (sym s.1 ∙ e)) s.4)
all_made (fault n q) most room built out out' put p r s e g = no_all (sym s ∙ e)

-- a fault
pub fault_made : (row : Parsed) (most room : ℕ) (built out : List ℕ) (put : Put) (n q : ℕ) (r : Answer) → StandsIn row most built put → put ≡ Fault n q
    → r ≡ refusal n q 0 → Made (made_of room row) r out out
fault_made (items is) most room built out put n q r s e a = no_all (sym e ∙ s.1)
fault_made (fault m k) most room built out put n q r s e a = let z : Fault m k ≡ Fault n q = sym s ∙ e in rw (same_number z, same_place z) (a, refl)
