-- The end of the walk over the groups: the cut item, and the log closed.
use Rattle.std.specs.Prelude.{ℕ, zero, suc, ◌+◌, ◌*◌, ◌≤◌, ◌≡◌, refl, List, length, take}
use Rattle.std.proofs.Common.{arith, ap, ap₂, sym, ◌∙◌}
use Rattle.format.specs.Log.{log_of}
use Rattle.format.specs.Plan.{slots, stored_at}
use Rattle.format.specs.Read.{Got, got, stopped, read_groups, open_in, misplaced}
use Rattle.format.specs.declared.Kind.{Kind}
use Rattle.format.specs.declared.Item.{Item}
use Rattle.format.specs.declared.Held.TheVariants.{Nothing}
use Rattle.format.specs.declared.Plan.{Plan}
use Rattle.read_groups.specs.declared.Outcome.{Outcome}
use Rattle.read_groups.specs.Misplaced.{fills_over, numbers_on, told, place_up}
use Rattle.read_groups.specs.Groups.{groups_on}
use Rattle.notices.specs.Laws.Capture.{told15, placed_up}
use Rattle.notices.specs.Laws.Groups.{open_number}
use Rattle.data_run.specs.Fills.{no_fill}

-- n groups bring items: the length of their log, the log itself if the array has room for it, and the numbers of the earliest open
-- notice and of the earliest misplaced fill, which stand at the definitions' places
pub record Logged (ks : List Kind) (p : Plan) (c : List ℕ) (n : ℕ) (r : Outcome) (out : List ℕ) : Type 0 where
  pub items : List Item
  pub is : read_groups p ks c n 0 Nothing 0 ≡ got items
  pub place : r.place ≡ 0
  pub second : r.second ≡ 0
  pub bytes : r.bytes ≡ length (log_of items)
  pub log : r.bytes + 7 ≤ length out → take r.bytes out ≡ log_of items
  pub notice_number : r.notice ≡ open_number ks p c n
  pub notice : told15 (placed_up (stored_at p) r.notice) ≡ open_in p c n items
  pub number : r.misplaced ≡ (fills_over p (numbers_on p c 0 n) no_fill).misplaced
  pub fill : told (place_up (stored_at p) r.misplaced) ≡ misplaced p (groups_on p c 0 n)
  pub low : (r.notice ≤ n * slots p) × (r.misplaced ≤ n * slots p)

-- n groups, or the cut item behind them, are refused
pub record Refused (ks : List Kind) (p : Plan) (c : List ℕ) (n : ℕ) (r : Outcome) : Type 0 where
  pub is : read_groups p ks c n 0 Nothing 0 ≡ stopped r.number r.place r.second
  pub bytes : r.bytes ≡ 0
  pub notice : r.notice ≡ 0
  pub misplaced : r.misplaced ≡ 0

-- number 0: the log; else the refusal
pub record Ended (ks : List Kind) (p : Plan) (c : List ℕ) (n : ℕ) (r : Outcome) (out : List ℕ) : Type 0 where
  pub logged : r.number ≡ 0 → Logged ks p c n r out
  pub refused : (r.number ≡ 0 → ⊥) → Refused ks p c n r

-- ---- what of it is one: all that is returned, and the log where both arrays have room for it; the rest of an array is work room

same_outcome : (r r' : Outcome) → r.number ≡ r'.number → r.place ≡ r'.place → r.second ≡ r'.second → r.bytes ≡ r'.bytes → r.notice ≡ r'.notice
    → r.misplaced ≡ r'.misplaced → r ≡ r'
same_outcome r r' a b q d o e =
    ap₂ (λ (x y : ℕ). record { number = x; place = y; second = r.second; bytes = r.bytes; notice = r.notice; misplaced = r.misplaced }) a b
    ∙ ap₂ (λ (x y : ℕ). record { number = r'.number; place = r'.place; second = x; bytes = y; notice = r.notice; misplaced = r.misplaced }) q d
    ∙ ap₂ (λ (x y : ℕ). record { number = r'.number; place = r'.place; second = r'.second; bytes = r'.bytes; notice = x; misplaced = y }) o e

same_items : {g : Got} {is js : List Item} → g ≡ got is → g ≡ got js → is ≡ js
same_items e f = cc

not_both : {A : Type 0} {g : Got} {is : List Item} {n q s : ℕ} → g ≡ got is → g ≡ stopped n q s → A
not_both e f = let z : ◌≡◌ {A = ℕ} 0 1 = cc in absurd (omega arith)

same_number : {g : Got} {n q s m k t : ℕ} → g ≡ stopped n q s → g ≡ stopped m k t → (n ≡ m) × (q ≡ k) × (s ≡ t)
same_number e f = (cc, cc, cc)

module _ (ks : List Kind) (p : Plan) (c : List ℕ) (n : ℕ) {r r' : Outcome} {out out' : List ℕ} (a : Ended ks p c n r out) (b : Ended ks p c n r' out') where
  same_log : (x : Logged ks p c n r out) (y : Logged ks p c n r' out') → log_of x.items ≡ log_of y.items
  same_log x y = ap log_of (same_items x.is y.is)

  pub ended_one : r ≡ r'
  ended_one = go r.number r'.number refl refl
    where
      go : (m k : ℕ) → r.number ≡ m → r'.number ≡ k → r ≡ r'
      go zero zero e f =
          let x = a.logged e in
          let y = b.logged f in
          same_outcome r r' (e ∙ sym f) (x.place ∙ sym y.place) (x.second ∙ sym y.second) (x.bytes ∙ ap length (same_log x y) ∙ sym y.bytes)
          (x.notice_number ∙ sym y.notice_number) (x.number ∙ sym y.number)
      go zero (suc k) e f = not_both (a.logged e).is (b.refused (λ z. omega (arith, z, f))).is
      go (suc m) zero e f = not_both (b.logged f).is (a.refused (λ z. omega (arith, z, e))).is
      go (suc m) (suc k) e f =
          let x = a.refused (λ z. omega (arith, z, e)) in
          let y = b.refused (λ z. omega (arith, z, f)) in
          let s = same_number x.is y.is in
          same_outcome r r' s.0 s.1 s.2 (x.bytes ∙ sym y.bytes) (x.notice ∙ sym y.notice) (x.misplaced ∙ sym y.misplaced)

  pub ended_log_one : r.number ≡ 0 → r.bytes + 7 ≤ length out → r'.bytes + 7 ≤ length out' → take r.bytes out ≡ take r'.bytes out'
  ended_log_one e h k =
      let x = a.logged e in
      let y = b.logged (sym (ap (λ (o : Outcome). o.number) ended_one) ∙ e) in
      x.log h ∙ same_log x y ∙ sym (y.log k)
