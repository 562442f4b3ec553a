-- The groups' slots, one group after the other, are read as one run.
use Rattle.std.specs.Prelude.{ℕ, zero, suc, ◌+◌, ◌*◌, Bool, true, false, cond, ◌≡◌, refl, List, [], ◌∷◌, ◌++◌}
use Rattle.std.proofs.Common.{ap}
use Rattle.format.specs.Word.{is_fill, part_of}
use Rattle.format.specs.Plan.{group_words}
use Rattle.format.specs.Reader.{Slot, data_of}
use Rattle.format.specs.Group.{group_slots, group_fault, none}
use Rattle.format.specs.Read.{read_groups, slots_from}
use Rattle.format.specs.Laws.Reader.Parts.{said}
use Rattle.format.proofs.Laws.Reader.Reads.{whole_of, reads, run_onward, closed_finish}
use Rattle.format.specs.Laws.Lists.{map_append}
use Rattle.format.specs.declared.Kind.{Kind}
use Rattle.format.specs.declared.Plan.{Plan}
use Rattle.format.specs.declared.Held.{Held}

-- none of n groups from g on has a fault
pub data Faultless (p : Plan) (c : List ℕ) : ℕ → ℕ → Type 0 where
  last : {g : ℕ} → Faultless p c zero g
  next : {n g : ℕ} → group_fault p c (g * group_words p) ≡ none → Faultless p c n (g + 1) → Faultless p c (suc n) g

pub data_append : (ss ts : List Slot) → data_of (ss ++ ts) ≡ data_of ss ++ data_of ts
unfolding data_of
data_append [] ts = refl
data_append (s ∷ ss) ts = go (is_fill s.1) (data_append ss ts)
  where
    go : (t : Bool) → data_of (ss ++ ts) ≡ data_of ss ++ data_of ts
        → cond t (data_of (ss ++ ts)) (s.1 ∷ data_of (ss ++ ts)) ≡ cond t (data_of ss) (s.1 ∷ data_of ss) ++ data_of ts
    go true e = e
    go false e = ap (λ (l : List ℕ). s.1 ∷ l) e

-- groups without fault read as one run
pub groups_read : (p : Plan) (ks : List Kind) (c : List ℕ) (n g : ℕ) → Faultless p c n g → (h : Held) (at : ℕ)
    → whole_of (read_groups p ks c n g h at) ≡ reads ks h (said p.parity (slots_from p c n g))
unfolding read_groups slots_from data_of reads
groups_read p ks c zero g last h at = closed_finish h at
groups_read p ks c (suc n) g (next e f) h at =
    rw (e, data_append (group_slots p c (g * group_words p)) (slots_from p c n (g + 1)), map_append (part_of p.parity) (data_of (group_slots p c (g * group_words p))) (data_of (slots_from p c n (g + 1))))
    (run_onward ks p.parity (group_slots p c (g * group_words p)) (said p.parity (slots_from p c n (g + 1))) (λ h' at'. read_groups p ks c n (g + 1) h' at')
    (λ h' at'. groups_read p ks c n (g + 1) f h' at') h at)
