-- The table goes from group to group of a capture.
use Prim.Native.Nat.{ℕ, zero, suc, ◌+◌, ◌*◌, ◌-◌, ◌<◌, ◌≤◌}
use native.Mathlib.Omega.{arith}
use Rattle.std.specs.Prelude.{Bool, true, false, cond, ◌≡◌, refl, replicate}
use Rattle.std.proofs.Math.Path.{ap, sym}
use Rattle.std.proofs.Common.{◌∙◌}
use mathlib.Core.List.{List, [], ◌∷◌, ◌++◌}
use Rattle.std.proofs.Math.ListN.{length}
use Rattle.format.specs.Lists.{Bytes}
use Rattle.format.specs.Plan.{slots, group_words}
use Rattle.format.specs.Word.{part_of}
use Rattle.format.specs.Group.{group_slots}
use Rattle.format.specs.Reader.{Slot, counted}
use Rattle.format.specs.Read.{slots_from}
use Rattle.format.specs.Laws.Lists.{map_append}
use Rattle.format.specs.Laws.Reader.Slots.{words_in}
use Rattle.format.specs.Laws.Reader.Counted.{counted_append}
use Rattle.format.proofs.Laws.Accepted.Exact.{slots_low, slots_count}
use Rattle.format.specs.declared.Kind.{Kind}
use Rattle.format.specs.declared.Plan.{Plan}
use Rattle.notices.specs.Roles.{Role, neither, notice, word, lacked, open_row, role_in, roles_in}
use Rattle.notices.specs.Table.{Notes, no_notes, noted, notes_of, earliest_of, RowNoted}
use Rattle.notices.specs.Laws.Rows.{all_words, open_most, table_open}
use Rattle.format.proofs.Laws.Accepted.Tidy.{slots_length}

-- the number of the earliest open notice among the data words of n groups, one up; 0 for none
abbrev pub open_number : List Kind → Plan → List ℕ → ℕ → ℕ
open_number ks p c n = open_row (roles_in ks p.parity (counted 0 (words_in (slots_from p c n 0))))

-- ---- from group to group

-- g of n groups were noted, and (shown, table) is what is kept
pub record NotedTo (ks : List Kind) (p : Plan) (c : List ℕ) (n g shown : ℕ) (table : List ℕ) : Type 0 where
  pub is : notes_of (roles_in ks p.parity (counted 0 (words_in (slots_from p c n 0)))) no_notes
      ≡ notes_of (roles_in ks p.parity (counted (g * slots p) (words_in (slots_from p c (n - g) g)))) (shown, table)

roles_append : (ks : List Kind) (parity : Bool) (ss ts : List Slot) (s : Notes) → notes_of (roles_in ks parity (ss ++ ts)) s ≡ notes_of (roles_in ks parity ts) (notes_of (roles_in ks parity ss) s)
unfolding roles_in notes_of
roles_append ks parity [] ts s = refl
roles_append ks parity (x ∷ ss) ts s = roles_append ks parity ss ts (noted x.0 (role_in ks (part_of parity x.1)) s)

module _ (ks : List Kind) (p : Plan) (c : List ℕ) (n : ℕ) where
  pub noted_none : NotedTo ks p c n 0 0 (replicate 64 0)
  noted_none =
      let z : n - 0 ≡ n = omega arith in
      let y : 0 * slots p ≡ 0 = omega arith in
      record { is = rw (z, y) }

  pub noted_more : (g : ℕ) → g < n → {shown shown' : ℕ} {table table' : List ℕ} → NotedTo ks p c n g shown table → (from : ℕ) (row : List ℕ)
      → from ≡ g * slots p → row ≡ words_in (group_slots p c (g * group_words p)) → RowNoted ks p.parity from row shown table shown' table'
      → NotedTo ks p c n (g + 1) shown' table'
  unfolding slots_from
  noted_more g l {shown} {shown'} {table} {table'} a from row e w r =
      let k : n - g ≡ suc (n - (g + 1)) = omega arith in
      let x : List Slot = group_slots p c (g * group_words p) in
      let y : List Slot = slots_from p c (n - (g + 1)) (g + 1) in
      let m : slots_from p c (n - g) g ≡ x ++ y = rw k in
      let d : g * slots p + length (words_in x) ≡ (g + 1) * slots p = omega (arith, slots_length p c (g * group_words p)) in
      let f : counted (g * slots p) (words_in (slots_from p c (n - g) g)) ≡ counted (g * slots p) (words_in x) ++ counted ((g + 1) * slots p) (words_in y) =
      ap (λ (ss : List Slot). counted (g * slots p) (words_in ss)) m ∙ ap (counted (g * slots p)) (map_append (λ (s : Slot). s.1) x y) ∙ counted_append (g * slots p) (words_in x) (words_in y)
      ∙ ap (λ (j : ℕ). counted (g * slots p) (words_in x) ++ counted j (words_in y)) d in
      let o : notes_of (roles_in ks p.parity (counted (g * slots p) (words_in x))) (shown, table) ≡ (shown', table') = sym (rw (e, w) at r) in
      let q = a.is ∙ ap (λ (ss : List Slot). notes_of (roles_in ks p.parity ss) (shown, table)) f
      ∙ roles_append ks p.parity (counted (g * slots p) (words_in x)) (counted ((g + 1) * slots p) (words_in y)) (shown, table)
      ∙ ap (notes_of (roles_in ks p.parity (counted ((g + 1) * slots p) (words_in y)))) o in
      record { is = q }

  -- all were: what is kept tells the earliest
  pub noted_all : Bytes c → (g : ℕ) → g ≡ n → {shown : ℕ} {table : List ℕ} → NotedTo ks p c n g shown table → earliest_of shown table ≡ open_number ks p c n
  unfolding slots_from counted roles_in notes_of
  noted_all bytes g e {shown} {table} a =
      let z : n - g ≡ 0 = omega arith in
      let s : notes_of (roles_in ks p.parity (counted 0 (words_in (slots_from p c n 0)))) no_notes ≡ (shown, table) = rw z at a.is in
      table_open ks p.parity (words_in (slots_from p c n 0)) (all_words (words_in (slots_from p c n 0)) (slots_low p c bytes n 0)) shown table (sym s)

pub open_few : (ks : List Kind) (p : Plan) (c : List ℕ) (n : ℕ) → open_number ks p c n ≤ n * slots p
open_few ks p c n = omega (arith, open_most ks p.parity 0 (words_in (slots_from p c n 0)), slots_count p c n 0)
