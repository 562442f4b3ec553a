-- The table finds the earliest open notice of a row whose numbers rise.
use Rattle.std.specs.Prelude.{ℕ, zero, suc, ◌+◌, ◌≤◌, ◌<◌, Bool, cond, ◌&&◌, ◌||◌, not, ◌≡◌, List, [], ◌∷◌, ◌++◌, length, set, replicate}
use Rattle.std.proofs.Common.{arith, ap, sym, ◌∙◌, length-set, get_or-set_same}
use Rattle.std.proofs.Math.Bool.{true, false}
use Rattle.std.proofs.Math.Path.{refl}
use Rattle.std.proofs.Math.ListN.{get_or}
use Rattle.std.proofs.Math.Seq.{get_or-set_other}
use Rattle.std.proofs.Math.Dec.{eqb}
use borrow.Author.Tests.{eq-eqb, ne_eqb, eqb-true, eqb-false}
use Rattle.format.specs.Laws.Tests.{clash}
use Rattle.notices.specs.Roles.{Role, neither, notice, word, Row, lacked, open_row}
use Rattle.notices.specs.Table.{Notes, no_notes, noted, notes_of, earliest_of, earlier}
use Rattle.notices.specs.Laws.Earliest.{Above, above_same, earlier_above, above_earlier, earliest_above, above_earliest}

-- the numbers of a row rise, from n on
abbrev pub Rising : ℕ → Row → Type 0
Rising n [] = Unit {0}
Rising n (x ∷ r) = (n ≤ x.0) × Rising (x.0 + 1) r

-- its channels are those of the table
abbrev pub InTable : Role → Type 0
InTable neither = Unit {0}
InTable (notice j) = j < 64
InTable (word j) = j < 64

abbrev pub Tabled : Row → Type 0
Tabled [] = Unit {0}
Tabled (x ∷ r) = InTable x.1 × Tabled r

-- an open notice of a row has a number of the row
open_above : (n : ℕ) (r : Row) → Rising n r → Above (n + 1) (open_row r)
unfolding open_row
open_above n [] h = λ z. absurd (z refl)
open_above n ((p, neither) ∷ r) h = λ z. omega (arith, open_above (p + 1) r h.1 z, h.0)
open_above n ((p, notice j) ∷ r) h = go (lacked r j) (open_above (p + 1) r h.1)
  where
    go : (t : Bool) → Above (p + 1 + 1) (open_row r) → Above (n + 1) (cond t (p + 1) (open_row r))
    go true ih = λ z. omega (arith, h.0)
    go false ih = λ z. omega (arith, ih z, h.0)
open_above n ((p, word j) ∷ r) h = λ z. omega (arith, open_above (p + 1) r h.1 z, h.0)

-- b is not above what was shown, nor any open notice of the row, nor what waits and finds no word in it
record Clear (b f : ℕ) (t : List ℕ) (r : Row) : Type 0 where
  shown : Above b f
  opens : Above b (open_row r)
  waits : (k : ℕ) → k < 64 → lacked r k ≡ true → Above b (get_or t k 0)

-- the table with v for the channel j
set_here : (t : List ℕ) (j v k : ℕ) → j < length t → k ≡ j → get_or (set t j v) k 0 ≡ v
set_here t j v k l e = rw e (get_or-set_same t j v 0 l)

module _ (b p : ℕ) (r : Row) (f : ℕ) (t : List ℕ) (size : length t ≡ 64) where
  -- an ARINC word
  word_forth : (j : ℕ) → j < 64 → Clear b f t ((p, word j) ∷ r) → Clear b f (set t j 0) r
  unfolding open_row lacked
  word_forth j l c = record { shown = c.shown; opens = c.opens; waits = λ k m e. go k m e (eqb j k) refl }
    where
      go : (k : ℕ) → k < 64 → lacked r k ≡ true → (s : Bool) → eqb j k ≡ s → Above b (get_or (set t j 0) k 0)
      go k m e true q = λ z. absurd (z (set_here t j 0 k (omega arith) (sym (eqb-true j k q))))
      go k m e false q =
          let o : get_or (set t j 0) k 0 ≡ get_or t k 0 = get_or-set_other t j k 0 0 (λ z. eqb-false j k q (sym z)) in
          let w : (not (eqb j k) && lacked r k) ≡ true = rw (q, e) in
          rw o (c.waits k m w)

  word_back : (j : ℕ) → j < 64 → Clear b f (set t j 0) r → Clear b f t ((p, word j) ∷ r)
  unfolding open_row lacked
  word_back j l c = record { shown = c.shown; opens = c.opens; waits = λ k m e. go k m (eqb j k) refl e }
    where
      go : (k : ℕ) → k < 64 → (s : Bool) → eqb j k ≡ s → (not s && lacked r k) ≡ true → Above b (get_or t k 0)
      go k m true q e = clash e
      go k m false q e =
          let o : get_or (set t j 0) k 0 ≡ get_or t k 0 = get_or-set_other t j k 0 0 (λ z. eqb-false j k q (sym z)) in
          rw o at (c.waits k m e)

  -- a notice
  notice_forth : (j : ℕ) → j < 64 → Rising (p + 1) r → Clear b f t ((p, notice j) ∷ r) → Clear b (earlier f (get_or t j 0)) (set t j (p + 1)) r
  unfolding open_row lacked
  notice_forth j l up c =
      let own : (eqb j j || lacked r j) ≡ true = rw (eq-eqb j j refl) in
      record {
        shown = above_earlier b f (get_or t j 0) c.shown (c.waits j l own);
        opens = rest (lacked r j) c.opens;
        waits = λ k m e. go k m e (eqb j k) refl;
      }
    where
      rest : (s : Bool) → Above b (cond s (p + 1) (open_row r)) → Above b (open_row r)
      rest true h = λ z. omega (arith, h (λ (y : p + 1 ≡ 0). omega arith), open_above (p + 1) r up z)
      rest false h = h

      own_waits : (s : Bool) → s ≡ true → Above b (cond s (p + 1) (open_row r)) → Above b (p + 1)
      own_waits true e h = h
      own_waits false e h = clash e

      go : (k : ℕ) → k < 64 → lacked r k ≡ true → (s : Bool) → eqb j k ≡ s → Above b (get_or (set t j (p + 1)) k 0)
      go k m e true q =
          let y : k ≡ j = sym (eqb-true j k q) in
          rw (set_here t j (p + 1) k (omega arith) y) (own_waits (lacked r j) (rw y at e) c.opens)
      go k m e false q =
          let o : get_or (set t j (p + 1)) k 0 ≡ get_or t k 0 = get_or-set_other t j k (p + 1) 0 (λ z. eqb-false j k q (sym z)) in
          let w : (eqb j k || lacked r k) ≡ true = rw (q, e) in
          rw o (c.waits k m w)

  notice_back : (j : ℕ) → j < 64 → Clear b (earlier f (get_or t j 0)) (set t j (p + 1)) r → Clear b f t ((p, notice j) ∷ r)
  unfolding open_row lacked
  notice_back j l c =
      let e = earlier_above b f (get_or t j 0) c.shown in
      record { shown = e.0; opens = here (lacked r j) refl; waits = λ k m q. go e.1 k m (eqb j k) refl q }
    where
      here : (s : Bool) → lacked r j ≡ s → Above b (cond s (p + 1) (open_row r))
      here true q = rw (set_here t j (p + 1) j (omega arith) refl) at (c.waits j l q)
      here false q = c.opens

      go : Above b (get_or t j 0) → (k : ℕ) → k < 64 → (s : Bool) → eqb j k ≡ s → (s || lacked r k) ≡ true → Above b (get_or t k 0)
      go own k m true q e = let y : j ≡ k = eqb-true j k q in rw y at own
      go own k m false q e =
          let o : get_or (set t j (p + 1)) k 0 ≡ get_or t k 0 = get_or-set_other t j k (p + 1) 0 (λ z. eqb-false j k q (sym z)) in
          rw o at (c.waits k m e)

-- over a whole row
clear_forth : (b n : ℕ) (r : Row) (f : ℕ) (t : List ℕ) → length t ≡ 64 → Tabled r → Rising n r → Clear b f t r → Above b (earliest_of (notes_of r (f, t)).0 (notes_of r (f, t)).1)
unfolding notes_of open_row lacked
clear_forth b n [] f t size in_table up c = above_earliest b f t c.shown (λ k l. c.waits k (omega arith) refl)
clear_forth b n ((p, neither) ∷ r) f t size in_table up c =
    clear_forth b (p + 1) r f t size in_table.1 up.1 (record { shown = c.shown; opens = c.opens; waits = λ k l e. c.waits k l e })
clear_forth b n ((p, notice j) ∷ r) f t size in_table up c =
    clear_forth b (p + 1) r (earlier f (get_or t j 0)) (set t j (p + 1)) (length-set t j (p + 1) ∙ size) in_table.1 up.1 (notice_forth b p r f t size j in_table.0 up.1 c)
clear_forth b n ((p, word j) ∷ r) f t size in_table up c =
    clear_forth b (p + 1) r f (set t j 0) (length-set t j 0 ∙ size) in_table.1 up.1 (word_forth b p r f t size j in_table.0 c)

clear_back : (b n : ℕ) (r : Row) (f : ℕ) (t : List ℕ) → length t ≡ 64 → Tabled r → Rising n r → Above b (earliest_of (notes_of r (f, t)).0 (notes_of r (f, t)).1) → Clear b f t r
unfolding notes_of open_row lacked
clear_back b n [] f t size in_table up h =
    let e = earliest_above b f t h in
    record { shown = e.0; opens = λ z. absurd (z refl); waits = λ k l q. e.1 k (omega arith) }
clear_back b n ((p, neither) ∷ r) f t size in_table up h =
    let c = clear_back b (p + 1) r f t size in_table.1 up.1 h in
    record { shown = c.shown; opens = c.opens; waits = λ k l e. c.waits k l e }
clear_back b n ((p, notice j) ∷ r) f t size in_table up h =
    notice_back b p r f t size j in_table.0 (clear_back b (p + 1) r (earlier f (get_or t j 0)) (set t j (p + 1)) (length-set t j (p + 1) ∙ size) in_table.1 up.1 h)
clear_back b n ((p, word j) ∷ r) f t size in_table up h =
    word_back b p r f t size j in_table.0 (clear_back b (p + 1) r f (set t j 0) (length-set t j 0 ∙ size) in_table.1 up.1 h)

none_waits : (k n : ℕ) → ◌≡◌ {A = ℕ} (get_or (replicate n 0) k 0) 0
none_waits k zero = refl
none_waits zero (suc n) = refl
none_waits (suc k) (suc n) = none_waits k n

-- the table tells the earliest open notice of the row
pub notes_open : (r : Row) → Tabled r → Rising 0 r → earliest_of (notes_of r no_notes).0 (notes_of r no_notes).1 ≡ open_row r
notes_open r in_table up =
    above_same _ (open_row r)
    (λ b h. (clear_back b 0 r 0 (replicate 64 0) refl in_table up h).opens)
    (λ b h. clear_forth b 0 r 0 (replicate 64 0) refl in_table up (record { shown = λ z. absurd (z refl); opens = h; waits = λ k l e z. absurd (z (none_waits k 64)) }))
