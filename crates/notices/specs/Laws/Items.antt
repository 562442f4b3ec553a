-- What items are to the notices: the earliest open notice of the definitions is the one that their row tells.
use Rattle.std.specs.Prelude.{ℕ, zero, suc, ◌+◌, ◌*◌, ◌<◌, Bool, true, false, cond, ◌&&◌, ◌||◌, not, ◌≡◌, refl, List, [], ◌∷◌, length, eqb}
use Rattle.std.proofs.Common.{arith, ◌∙◌, eq-eqb, ne_eqb, eqb-true}
use Rattle.std.proofs.lemmas.Bool.{eqb-false}
use Rattle.format.specs.Lists.{All, nil, cons}
use Rattle.format.specs.Lawful.{Sized}
use Rattle.format.specs.Notices.{is_word_of, is_notice_of, unanswered, is_open, first_open}
use Rattle.format.specs.declared.Item.{Item}
use Rattle.format.specs.declared.Item.TheVariants.{Command, Status, Data, BusError, Arinc, Notice, User, Overflow}
use Rattle.notices.specs.Roles.{Role, neither, notice, word, Row, lacked_by, lacked, open_by, open_row}

abbrev pub role_of : Item → Role
role_of (Command b s tag w) = neither
role_of (Status b s resp w) = neither
role_of (Data b s w) = neither
role_of (BusError b s w) = neither
role_of (Arinc b c tag w) = word (b * 4 + c)
role_of (Notice b c diag) = notice (b * 4 + c)
role_of (User b three w) = neither
role_of (Overflow b w) = neither

-- the k-th item stands at `place k`
unfoldable pub row_by : (ℕ → ℕ) → List Item → Row
row_by place [] = []
row_by place (i ∷ is) = (place 0, role_of i) ∷ row_by (λ k. place (suc k)) is

same_channel : (b d bus c : ℕ) → d < 4 → c < 4 → eqb (b * 4 + d) (bus * 4 + c) ≡ (eqb b bus && eqb d c)
same_channel b d bus c h l = go (eqb b bus) (eqb d c) refl refl
  where
    go : (s t : Bool) → eqb b bus ≡ s → eqb d c ≡ t → eqb (b * 4 + d) (bus * 4 + c) ≡ (s && t)
    go true true e f =
        let x : b ≡ bus = eqb-true _ _ e in
        let y : d ≡ c = eqb-true _ _ f in
        eq-eqb (b * 4 + d) (bus * 4 + c) (omega arith)
    go true false e f = ne_eqb (b * 4 + d) (bus * 4 + c) (λ (z : b * 4 + d ≡ bus * 4 + c). eqb-false d c f (omega arith))
    go false t e f = ne_eqb (b * 4 + d) (bus * 4 + c) (λ (z : b * 4 + d ≡ bus * 4 + c). eqb-false b bus e (omega arith))

lacked_items : (bus c : ℕ) → c < 4 → (place : ℕ → ℕ) (is : List Item) → All Sized is → lacked (row_by place is) (bus * 4 + c) ≡ unanswered bus c is
unfolding lacked row_by unanswered
lacked_items bus c h place [] nil = refl
lacked_items bus c h place (i ∷ is) (cons l ls) = one i l (lacked_items bus c h (λ k. place (suc k)) is ls)
  where
    rest : Bool
    rest = lacked (row_by (λ k. place (suc k)) is) (bus * 4 + c)

    word_one : (t : Bool) → rest ≡ unanswered bus c is → (not t && rest) ≡ cond t false (false || unanswered bus c is)
    word_one true e = refl
    word_one false e = e

    one : (i : Item) → Sized i → rest ≡ unanswered bus c is → lacked_by (role_of i) (bus * 4 + c) rest ≡ cond (is_word_of bus c i) false (is_notice_of bus c i || unanswered bus c is)
    one (Command b s tag w) l e = e
    one (Status b s resp w) l e = e
    one (Data b s w) l e = e
    one (BusError b s w) l e = e
    one (Arinc b d tag w) l e = rw (same_channel b d bus c l.0 h) (word_one (eqb b bus && eqb d c) e)
    one (Notice b d diag) l e = rw (same_channel b d bus c l.0 h, e)
    one (User b three w) l e = e
    one (Overflow b w) l e = e

-- the number k of n items as a place one up; n itself is none
abbrev pub up_to : (ℕ → ℕ) → ℕ → ℕ → ℕ
up_to place k n = cond (eqb k n) 0 (place k + 1)

up_next : (place : ℕ → ℕ) (k n : ℕ) → up_to (λ j. place (suc j)) k n ≡ up_to place (1 + k) (suc n)
up_next place k n = go (eqb k n) refl
  where
    s : 1 + k ≡ suc k
    s = omega arith

    go : (t : Bool) → eqb k n ≡ t → cond t 0 (place (suc k) + 1) ≡ up_to place (1 + k) (suc n)
    go true e = let z : k ≡ n = eqb-true _ _ e in rw (s, eq-eqb (suc k) (suc n) (omega arith))
    go false e =
        let u : (suc k ≡ suc n → ⊥) = λ (z : suc k ≡ suc n). eqb-false k n e (omega arith) in
        rw (s, ne_eqb (suc k) (suc n) u)

pub open_items : (place : ℕ → ℕ) (is : List Item) → All Sized is → open_row (row_by place is) ≡ up_to place (first_open is) (length is)
unfolding open_row row_by first_open
open_items place [] nil = refl
open_items place (i ∷ is) (cons l ls) = one i l (open_items (λ k. place (suc k)) is ls)
  where
    rest : Row
    rest = row_by (λ k. place (suc k)) is

    on : open_row rest ≡ up_to (λ k. place (suc k)) (first_open is) (length is) → open_row rest ≡ up_to place (1 + first_open is) (suc (length is))
    on e = e ∙ up_next place (first_open is) (length is)

    note : (t : Bool) → open_row rest ≡ up_to (λ k. place (suc k)) (first_open is) (length is)
        → cond t (place 0 + 1) (open_row rest) ≡ up_to place (cond t 0 (1 + first_open is)) (suc (length is))
    note true e = let u : (0 ≡ suc (length is) → ⊥) = λ (z : 0 ≡ suc (length is)). omega arith in rw (ne_eqb 0 (suc (length is)) u)
    note false e = on e

    one : (i : Item) → Sized i → open_row rest ≡ up_to (λ k. place (suc k)) (first_open is) (length is)
        → open_by (place 0) (role_of i) (lacked rest) (open_row rest) ≡ up_to place (cond (is_open i is) 0 (1 + first_open is)) (suc (length is))
    one (Command b s tag w) l e = on e
    one (Status b s resp w) l e = on e
    one (Data b s w) l e = on e
    one (BusError b s w) l e = on e
    one (Arinc b d tag w) l e = on e
    one (Notice b d diag) l e = rw (lacked_items b d l.0 (λ k. place (suc k)) is ls) (note (unanswered b d is) e)
    one (User b three w) l e = on e
    one (Overflow b w) l e = on e
