-- Open notices from the first word to the last: what a reading keeps that cannot look ahead ("the unanswered notices' places"). A table has, for each channel, the place, one up, of its notice that waits for its word; 0 for none.
use Rattle.std.specs.Prelude.{ℕ, ◌+◌, Bool, true, false, cond, ◌&&◌, ◌||◌, not, ◌≡◌, refl, ◌↔◌, List, [], ◌∷◌, eqb}
use Rattle.std.proofs.Common.{arith, ap, sym, ◌∙◌, eq-eqb, eqb-true, ne_eqb}
use Rattle.format.specs.Laws.Tests.{clash, or_false}
use Rattle.notices.specs.Roles.{Role, neither, notice, word, Row, lacked_by, lacked, open_by, open_row}

abbrev pub Waiting : Type 0
Waiting = ℕ → ℕ

-- the table with v for the channel j
abbrev pub put : Waiting → ℕ → ℕ → Waiting
put t j v k = cond (eqb j k) v (t k)

-- what a word does to it
abbrev pub waited : ℕ → Role → Waiting → Waiting
waited place neither t = t
waited place (notice j) t = put t j (place + 1)
waited place (word j) t = put t j 0

-- the notice, one up, that a second notice shows open; 0 for none
abbrev pub shows_by : Role → Waiting → ℕ
shows_by neither t = 0
shows_by (notice j) t = t j
shows_by (word j) t = 0

abbrev pub or_then : ℕ → ℕ → ℕ
or_then first then = cond (eqb first 0) then first

-- the table behind a row
unfoldable pub waits : Row → Waiting → Waiting
waits [] t = t
waits (x ∷ r) t = waits r (waited x.0 x.1 t)

-- the first notice that is shown open within it
unfoldable pub shown : Row → Waiting → ℕ
shown [] t = 0
shown (x ∷ r) t = or_then (shows_by x.1 t) (shown r (waited x.0 x.1 t))

-- no notice of the row is open, and each that waited before it finds its word
record Clear (r : Row) (t : Waiting) : Type 0 where
  none_open : open_row r ≡ 0
  found : (k : ℕ) → (t k ≡ 0 → ⊥) → lacked r k ≡ false

-- nothing was shown, and nothing waits behind it
pub record Quiet (r : Row) (t : Waiting) : Type 0 where
  pub none_shown : shown r t ≡ 0
  pub none_waits : (k : ℕ) → waits r t k ≡ 0

unlike : {A : Type 0} (a b : ℕ) → eqb a b ≡ false → a ≡ b → A
unlike a b f e = let z : ◌≡◌ {A = ℕ} 1 0 = ap (λ (t : Bool). cond t 1 0) (sym (eq-eqb a b e) ∙ f) in absurd (omega arith)

-- a number is 0 if it is not other than 0
zero_by : (n : ℕ) → ((n ≡ 0 → ⊥) → ⊥) → n ≡ 0
zero_by n h = go (eqb n 0) refl
  where
    go : (t : Bool) → eqb n 0 ≡ t → n ≡ 0
    go true e = eqb-true _ _ e
    go false e = absurd (h (λ z. unlike n 0 e z))

-- a notice that is not open
found_by : (t : Bool) (p n : ℕ) → cond t (p + 1) n ≡ 0 → (t ≡ false) × (n ≡ 0)
found_by true p n e = absurd (omega arith)
found_by false p n e = (refl, e)

clear_notice : (p j : ℕ) (r : Row) (t : Waiting) → Clear ((p, notice j) ∷ r) t → (t j ≡ 0) × Clear r (put t j (p + 1))
unfolding open_row lacked
clear_notice p j r t c =
    let f = found_by (lacked r j) p (open_row r) c.none_open in
    let own : eqb j j ≡ true = eq-eqb j j refl in
    (zero_by (t j) (λ z. clash (sym (or_false (eqb j j) (lacked r j) (c.found j z)).0 ∙ own)), record { none_open = f.1; found = λ k z. go f.0 k (eqb j k) refl z })
  where
    go : lacked r j ≡ false → (k : ℕ) (b : Bool) → eqb j k ≡ b → (cond b (p + 1) (t k) ≡ 0 → ⊥) → lacked r k ≡ false
    go f k true e z = let y : j ≡ k = eqb-true _ _ e in rw (← y) f
    go f k false e z = (or_false (eqb j k) (lacked r k) (c.found k z)).1

clear_word : (p j : ℕ) (r : Row) (t : Waiting) → Clear ((p, word j) ∷ r) t → Clear r (put t j 0)
unfolding open_row lacked
clear_word p j r t c = record { none_open = c.none_open; found = λ k z. go k (eqb j k) refl z }
  where
    go : (k : ℕ) (b : Bool) → eqb j k ≡ b → (cond b 0 (t k) ≡ 0 → ⊥) → lacked r k ≡ false
    go k true e z = absurd (z refl)
    go k false e z = rw e at (c.found k z)

clear_quiet : (r : Row) (t : Waiting) → Clear r t → Quiet r t
unfolding shown waits lacked open_row
clear_quiet [] t c = record { none_shown = refl; none_waits = λ k. zero_by (t k) (λ z. clash (sym (c.found k z))) }
clear_quiet ((p, neither) ∷ r) t c =
    let q = clear_quiet r t (record { none_open = c.none_open; found = λ k z. c.found k z }) in
    record { none_shown = q.none_shown; none_waits = λ k. q.none_waits k }
clear_quiet ((p, notice j) ∷ r) t c =
    let d = clear_notice p j r t c in
    let q = clear_quiet r (put t j (p + 1)) d.1 in
    record { none_shown = rw d.0 q.none_shown; none_waits = λ k. q.none_waits k }
clear_quiet ((p, word j) ∷ r) t c =
    let q = clear_quiet r (put t j 0) (clear_word p j r t c) in
    record { none_shown = q.none_shown; none_waits = λ k. q.none_waits k }

or_zero : (a b : ℕ) → or_then a b ≡ 0 → (a ≡ 0) × (b ≡ 0)
or_zero a b e = go (eqb a 0) refl e
  where
    go : (t : Bool) → eqb a 0 ≡ t → cond t b a ≡ 0 → (a ≡ 0) × (b ≡ 0)
    go true h e = (eqb-true _ _ h, e)
    go false h e = unlike a 0 h e

quiet_clear : (r : Row) (t : Waiting) → Quiet r t → Clear r t
unfolding shown waits lacked open_row
quiet_clear [] t q = record { none_open = refl; found = λ k z. absurd (z (q.none_waits k)) }
quiet_clear ((p, neither) ∷ r) t q =
    let c = quiet_clear r t (record { none_shown = q.none_shown; none_waits = λ k. q.none_waits k }) in
    record { none_open = c.none_open; found = λ k z. c.found k z }
quiet_clear ((p, notice j) ∷ r) t q =
    let o = or_zero (t j) (shown r (put t j (p + 1))) q.none_shown in
    let c = quiet_clear r (put t j (p + 1)) (record { none_shown = o.1; none_waits = λ k. q.none_waits k }) in
    let own : lacked r j ≡ false = c.found j (mine (eqb j j) (eq-eqb j j refl)) in
    record { none_open = rw own c.none_open; found = λ k z. go o.0 c k (eqb j k) refl z }
  where
    mine : (b : Bool) → b ≡ true → cond b (p + 1) (t j) ≡ 0 → ⊥
    mine true e = λ (z : p + 1 ≡ 0). omega arith
    mine false e = clash e

    go : t j ≡ 0 → Clear r (put t j (p + 1)) → (k : ℕ) (b : Bool) → eqb j k ≡ b → (t k ≡ 0 → ⊥) → (b || lacked r k) ≡ false
    go o c k true e z = let y : j ≡ k = eqb-true _ _ e in absurd (z (rw y at o))
    go o c k false e z = c.found k (rw e z)
quiet_clear ((p, word j) ∷ r) t q =
    let c = quiet_clear r (put t j 0) (record { none_shown = q.none_shown; none_waits = λ k. q.none_waits k }) in
    record { none_open = c.none_open; found = λ k z. go c k (eqb j k) refl z }
  where
    go : Clear r (put t j 0) → (k : ℕ) (b : Bool) → eqb j k ≡ b → (t k ≡ 0 → ⊥) → (not b && lacked r k) ≡ false
    go c k true e z = refl
    go c k false e z = c.found k (rw e z)

-- a row has no open notice exactly when none is shown within it and none waits behind it
pub open_or_waits : (r : Row) → (open_row r ≡ 0) ↔ Quiet r (λ k. 0)
open_or_waits r = (
  λ e. clear_quiet r (λ k. 0) (record { none_open = e; found = λ k z. absurd (z refl) }),
  λ q. (quiet_clear r (λ k. 0) q).none_open,
)
