-- A group's words as they stand in a lent row (document 01, "Groups"): "word 2 of track 1, of track 2, and so on, then word 3".
use Rattle.std.specs.Prelude.{ℕ, ◌+◌, ◌*◌, ◌≡◌, List, ◌++◌, length, drop}
use Rattle.std.proofs.Common.{ap, sym, ◌∙◌}
use Rattle.format.specs.Lists.{list}
use Rattle.format.specs.Word.{word_at}
use Rattle.format.specs.Plan.{rows, place_of}
use Rattle.format.specs.Group.{group_fault}
use Rattle.format.specs.declared.Plan.{Plan}
use Rattle.group_read.specs.declared.Fault.{Fault}
use Rattle.group_read.specs.Faults.{fault_of}

-- how many words a group deals, time words and data
abbrev pub dealt_count : Plan → ℕ
dealt_count p = p.tracks * rows p

-- where in the row the word r + 2 of track t + 1 stands
abbrev pub slot_of : Plan → ℕ → ℕ → ℕ
slot_of p t r = r * p.tracks + t

-- the words of a group in dealt order, as stored: time words in front, then data
unfoldable pub dealt_words : Plan → List ℕ → List ℕ
dealt_words p g = list (λ s. word_at g (place_of p s)) 0 (dealt_count p)

-- the group's first fault; and where it has none, its words in front of what stood behind them in the row
pub record Deals (p : Plan) (g row₀ : List ℕ) (r : Fault) (row : List ℕ) : Type 0 where
  pub fault : r ≡ fault_of (group_fault p g 0)
  pub long : length row ≡ length row₀
  pub behind : drop (dealt_count p) row ≡ drop (dealt_count p) row₀
  pub words : r.number ≡ 0 → row ≡ dealt_words p g ++ drop (dealt_count p) row₀

-- ---- what of it is one: the fault; the row where there is none; and else the row behind the part of it that is work room

module _ (p : Plan) (g row₀ : List ℕ) {r r' : Fault} {row row' : List ℕ} (a : Deals p g row₀ r row) (b : Deals p g row₀ r' row') where
  pub deals_one : r ≡ r'
  deals_one = a.fault ∙ sym b.fault

  pub deals_behind_one : drop (dealt_count p) row ≡ drop (dealt_count p) row'
  deals_behind_one = a.behind ∙ sym b.behind

  pub deals_row_one : r.number ≡ 0 → row ≡ row'
  deals_row_one e = a.words e ∙ sym (b.words (sym (ap (λ (f : Fault). f.number) deals_one) ∙ e))
