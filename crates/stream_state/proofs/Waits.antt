-- The table of notices' numbers, one after the other.
use Prim.Native.Nat.{ℕ, suc, ◌+◌, ◌*◌, ◌/◌, ◌≤◌, ◌<◌}
use native.Mathlib.Omega.{arith}
use native.Mathlib.Numerals.{add-one}
use mathlib.Core.Bool.{Bool, true, false, cond, ◌&&◌}
use mathlib.Core.Path.{◌≡◌, refl, ap, sym, ◌∙◌}
use mathlib.Core.List.{List, [], ◌∷◌}
use lib.ListN.{length, get_or, drop}
use lib.Seq.{drop-cons, drop-length}
use lib.Dec.{eqb}
use borrow.Author.Tests.{eqb-true}
use Rattle.format.specs.Laws.Tests.{and_true}
use Rattle.format.specs.Plan.{kind_on, lead, slots}
use Rattle.stream_rules.specs.Stream.{waits_fit}
use Rattle.format.specs.declared.Kind.{Kind}
use Rattle.format.specs.declared.Plan.{Plan}
use Rattle.stream_state.specs.Parts.{are_zeros, lead_of, wait_fits, waits_in}

pub lead_is : (p : Plan) → lead_of p.frame_time ≡ lead p
unfolding lead
lead_is p = refl

pub waits_in_lem : (p : Plan) (ks : List Kind) (groups j : ℕ) (l : List ℕ) → waits_in ks (groups * 2048) (lead p) (lead p + slots p) j l ≡ waits_fit p ks groups j l
unfolding waits_fit waits_in
waits_in_lem p ks groups j [] = refl
waits_in_lem p ks groups j (k ∷ l) = rw (waits_in_lem p ks groups (j + 1) l) refl

-- no notice waits
pub none_wait : (p : Plan) (ks : List Kind) (groups j : ℕ) (l : List ℕ) → are_zeros l ≡ true → waits_fit p ks groups j l ≡ true
unfolding are_zeros waits_fit
none_wait p ks groups j [] e = refl
none_wait p ks groups j (k ∷ l) e =
    let t = and_true (eqb k 0) (are_zeros l) e in
    rw (eqb-true k 0 t.0, none_wait p ks groups (j + 1) l t.1) refl

pub waits_by : (p : Plan) (ks : List Kind) (groups : ℕ) (table : List ℕ) (first count : ℕ) → first ≡ lead_of p.frame_time → count ≡ slots p
    → waits_in ks (groups * 2048) first (first + count) 0 table ≡ waits_fit p ks groups 0 table
waits_by p ks groups table first count e s = rw (e, s, lead_is p) (waits_in_lem p ks groups 0 table)

module _ (ks : List Kind) (end first last : ℕ) (table : List ℕ) (i : ℕ) where
  abbrev here : Bool
  here = wait_fits (kind_on ks (i / 4)) (get_or table i 0) end first last

  wait_next : i < length table → waits_in ks end first last i (drop i table) ≡ (here && waits_in ks end first last (i + 1) (drop (i + 1) table))
  unfolding waits_in
  wait_next h = ap (waits_in ks end first last i) (drop-cons table i 0 h) ∙ rw (add-one i) refl

  pub wait_good : i < length table → here ≡ true → waits_in ks end first last i (drop i table) ≡ waits_in ks end first last (i + 1) (drop (i + 1) table)
  wait_good h e = wait_next h ∙ rw e refl

  pub wait_bad : i < length table → here ≡ false → waits_in ks end first last i (drop i table) ≡ false
  wait_bad h e = wait_next h ∙ rw e refl

  pub waits_end : i ≡ length table → waits_in ks end first last i (drop i table) ≡ true
  unfolding waits_in
  waits_end e = rw (e, drop-length table) refl
