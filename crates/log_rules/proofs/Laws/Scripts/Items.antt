-- Laws our scripts lean on (document 02, K12), over rows of items and of times: kept twice, moved twice, kept and moved.
use Rattle.std.specs.Prelude.{ℕ, zero, suc, ◌+◌, ◌*◌, ◌/◌, ◌%◌, ◌^◌, ◌<◌, Bool, true, false, cond, ◌&&◌, ◌≡◌, refl, List, [], ◌∷◌, map, eqb, ℤ, pos, nat_abs, ◌+ℤ◌}
use Rattle.std.proofs.Common.{arith, ap, ap₂, sym, ◌∙◌}
use Rattle.std.specs.Int.Bits.{bit_and}
use Rattle.std.proofs.lemmas.Nat.{and_shr, and_mod}
use Rattle.std.proofs.Math.IntN.{+ℤ_assoc, +ℤ_idr}
use Rattle.format.specs.Lists.{All, nil, cons}
use Rattle.format.specs.Item.{bus_of_item}
use Rattle.format.specs.Lawful.{Sized, TagSized}
use Rattle.format.specs.Time.{microseconds, high_part, low_part, micro_part}
use Rattle.log_rules.specs.Pick.{in_set, keep, on_buses}
use Rattle.log_rules.specs.Shift.{is_time, moves, moved, time_of, tag_time, moved_tag, tag_moves, moved_item, item_moves}
use Rattle.log_rules.specs.Laws.Shift.{Passes, moved_bus, moved_sum}
use Rattle.format.specs.declared.Time.{Time}
use Rattle.format.specs.declared.Tag.{Tag}
use Rattle.format.specs.declared.Tag.TheVariants.{Untagged, At}
use Rattle.format.specs.declared.Item.{Item}
use Rattle.format.specs.declared.Item.TheVariants.{Command, Status, Data, BusError, Arinc, Notice, User, Overflow}

-- ---- kept twice

keep_both : {A : Type 0} (f g : A → Bool) (l : List A) → keep f (keep g l) ≡ keep (λ a. g a && f a) l
unfolding keep
keep_both f g [] = refl
keep_both {A} f g (a ∷ l) = go (f a) refl (g a) (keep_both f g l)
  where
    go : (s : Bool) → f a ≡ s → (t : Bool) → keep f (keep g l) ≡ keep (λ a. g a && f a) l
        → keep f (cond t (a ∷ keep g l) (keep g l)) ≡ cond (t && s) (a ∷ keep (λ a. g a && f a) l) (keep (λ a. g a && f a) l)
    go true p true e = rw p (ap (λ (x : List A). a ∷ x) e)
    go true p false e = e
    go false p true e = rw p e
    go false p false e = e

keep_same : {A : Type 0} (f g : A → Bool) → ((a : A) → f a ≡ g a) → (l : List A) → keep f l ≡ keep g l
unfolding keep
keep_same f g e [] = refl
keep_same f g e (a ∷ l) = rw (e a, keep_same f g e l)

-- the common buses of two sets
both_bits : (a b : ℕ) → a < 2 → b < 2 → eqb (bit_and a b) 1 ≡ (eqb a 1 && eqb b 1)
both_bits zero zero h k = refl
both_bits zero (suc zero) h k = refl
both_bits (suc zero) zero h k = refl
both_bits (suc zero) (suc zero) h k = refl
both_bits (suc (suc a)) b h k = absurd (omega arith)
both_bits zero (suc (suc b)) h k = absurd (omega arith)
both_bits (suc zero) (suc (suc b)) h k = absurd (omega arith)

in_common : (s t bus : ℕ) → in_set (bit_and s t) bus ≡ (in_set s bus && in_set t bus)
in_common s t bus =
    ap (λ (n : ℕ). eqb (n % 2) 1) (and_shr s t bus) ∙ ap (λ (n : ℕ). eqb n 1) (and_mod (s / 2 ^ bus) (t / 2 ^ bus) 1)
    ∙ both_bits (s / 2 ^ bus % 2) (t / 2 ^ bus % 2) (omega arith) (omega arith)

pub kept_twice : (s t : ℕ) (is : List Item) → keep (on_buses t) (keep (on_buses s) is) ≡ keep (on_buses (bit_and s t)) is
kept_twice s t is = keep_both (on_buses t) (on_buses s) is ∙ keep_same _ (on_buses (bit_and s t)) (λ i. sym (in_common s t (bus_of_item i))) is

-- ---- a time moved twice, and by nothing

moved_twice : (a b : ℤ) (t : ℕ) → moves a t ≡ true → moved b (moved a t) ≡ moved (a +ℤ b) t
moved_twice a b t e = ap (λ (z : ℤ). nat_abs (z +ℤ b)) (moved_sum a t e).0 ∙ ap nat_abs (+ℤ_assoc (pos t) a b)

moves_twice : (a b : ℤ) (t : ℕ) → moves a t ≡ true → moves b (moved a t) ≡ moves (a +ℤ b) t
moves_twice a b t e = ap (λ (z : ℤ). is_time (z +ℤ b)) (moved_sum a t e).0 ∙ ap is_time (+ℤ_assoc (pos t) a b)

moved_none : (t : ℕ) → moved (pos 0) t ≡ t
moved_none t = ap nat_abs (+ℤ_idr (pos t))

-- ---- a tag: a number of microseconds as a tag, and back

tag_there : (n : ℕ) → tag_time (time_of n) ≡ n
tag_there n = omega arith

same_time : (t u : Time) → t.high ≡ u.high → t.low ≡ u.low → t.micro ≡ u.micro → t ≡ u
same_time t u a b c =
    ap₂ (λ (h l : ℕ). record { high = h; low = l; micro = t.micro }) a b ∙ ap (λ (m : ℕ). record { high = u.high; low = u.low; micro = m }) c

tag_back : (t : Time) → TagSized (At t) → time_of (tag_time t) ≡ t
tag_back t z = same_time (time_of (tag_time t)) t (omega arith) (omega arith) (omega arith)

moved_tag_twice : (a b : ℤ) (t : Tag) → tag_moves a t ≡ true → moved_tag b (moved_tag a t) ≡ moved_tag (a +ℤ b) t
moved_tag_twice a b Untagged e = refl
moved_tag_twice a b (At t) e = ap (λ (n : ℕ). At (time_of n)) (ap (moved b) (tag_there (moved a (tag_time t))) ∙ moved_twice a b (tag_time t) e)

moves_tag_twice : (a b : ℤ) (t : Tag) → tag_moves a t ≡ true → tag_moves b (moved_tag a t) ≡ tag_moves (a +ℤ b) t
moves_tag_twice a b Untagged e = refl
moves_tag_twice a b (At t) e = ap (moves b) (tag_there (moved a (tag_time t))) ∙ moves_twice a b (tag_time t) e

moved_tag_none : (t : Tag) → TagSized t → moved_tag (pos 0) t ≡ t
moved_tag_none Untagged z = refl
moved_tag_none (At t) z = ap At (ap time_of (moved_none (tag_time t)) ∙ tag_back t z)

-- ---- an item

moved_item_twice : (a b : ℤ) (i : Item) → item_moves a i ≡ true → moved_item b (moved_item a i) ≡ moved_item (a +ℤ b) i
unfolding moved_item item_moves
moved_item_twice a b (Command bus s tag word) e = ap (λ (t : Tag). Command bus s t word) (moved_tag_twice a b tag e)
moved_item_twice a b (Status bus s resp word) e = refl
moved_item_twice a b (Data bus s word) e = refl
moved_item_twice a b (BusError bus s word) e = refl
moved_item_twice a b (Arinc bus c tag word) e = ap (λ (t : Tag). Arinc bus c t word) (moved_tag_twice a b tag e)
moved_item_twice a b (Notice bus c diag) e = refl
moved_item_twice a b (User bus three word) e = refl
moved_item_twice a b (Overflow bus word) e = refl

moves_item_twice : (a b : ℤ) (i : Item) → item_moves a i ≡ true → item_moves b (moved_item a i) ≡ item_moves (a +ℤ b) i
unfolding moved_item item_moves
moves_item_twice a b (Command bus s tag word) e = moves_tag_twice a b tag e
moves_item_twice a b (Status bus s resp word) e = refl
moves_item_twice a b (Data bus s word) e = refl
moves_item_twice a b (BusError bus s word) e = refl
moves_item_twice a b (Arinc bus c tag word) e = moves_tag_twice a b tag e
moves_item_twice a b (Notice bus c diag) e = refl
moves_item_twice a b (User bus three word) e = refl
moves_item_twice a b (Overflow bus word) e = refl

moved_item_none : (i : Item) → Sized i → moved_item (pos 0) i ≡ i
unfolding moved_item
moved_item_none (Command bus s tag word) z = ap (λ (t : Tag). Command bus s t word) (moved_tag_none tag z.1)
moved_item_none (Status bus s resp word) z = refl
moved_item_none (Data bus s word) z = refl
moved_item_none (BusError bus s word) z = refl
moved_item_none (Arinc bus c tag word) z = ap (λ (t : Tag). Arinc bus c t word) (moved_tag_none tag z.2)
moved_item_none (Notice bus c diag) z = refl
moved_item_none (User bus three word) z = refl
moved_item_none (Overflow bus word) z = refl

-- ---- a row, of items or of times: what may be moved (m), and is moved (f)

-- moved by a and then by b is moved by a + b, and what may be moved so may be moved at once
module _ {A : Type 0} (m : ℤ → A → Bool) (f : ℤ → A → A) (a b : ℤ)
    (f-twice : (x : A) → m a x ≡ true → f b (f a x) ≡ f (a +ℤ b) x) (m-twice : (x : A) → m a x ≡ true → m b (f a x) ≡ m (a +ℤ b) x) where
  row_twice : (l : List A) → Passes (m a) l → map (f b) (map (f a) l) ≡ map (f (a +ℤ b)) l
  row_twice [] z = refl
  row_twice (x ∷ l) (cons z zs) = ap₂ (λ (y : A) (k : List A). y ∷ k) (f-twice x z) (row_twice l zs)

  row_once : (l : List A) → Passes (m a) l → Passes (m b) (map (f a) l) → Passes (m (a +ℤ b)) l
  row_once [] z y = nil
  row_once (x ∷ l) (cons z zs) (cons y ys) = cons (sym (m-twice x z) ∙ y) (row_once l zs ys)

pub items_twice : (a b : ℤ) (is : List Item) → Passes (item_moves a) is → map (moved_item b) (map (moved_item a) is) ≡ map (moved_item (a +ℤ b)) is
items_twice a b = row_twice item_moves moved_item a b (moved_item_twice a b) (moves_item_twice a b)

pub items_once : (a b : ℤ) (is : List Item) → Passes (item_moves a) is → Passes (item_moves b) (map (moved_item a) is) → Passes (item_moves (a +ℤ b)) is
items_once a b = row_once item_moves moved_item a b (moved_item_twice a b) (moves_item_twice a b)

pub times_twice : (a b : ℤ) (ts : List ℕ) → Passes (moves a) ts → map (moved b) (map (moved a) ts) ≡ map (moved (a +ℤ b)) ts
times_twice a b = row_twice moves moved a b (moved_twice a b) (moves_twice a b)

pub times_once : (a b : ℤ) (ts : List ℕ) → Passes (moves a) ts → Passes (moves b) (map (moved a) ts) → Passes (moves (a +ℤ b)) ts
times_once a b = row_once moves moved a b (moved_twice a b) (moves_twice a b)

pub items_none : (is : List Item) → All Sized is → map (moved_item (pos 0)) is ≡ is
items_none [] z = refl
items_none (i ∷ is) (cons z zs) = ap₂ (λ (j : Item) (l : List Item). j ∷ l) (moved_item_none i z) (items_none is zs)

pub times_none : (ts : List ℕ) → map (moved (pos 0)) ts ≡ ts
times_none [] = refl
times_none (t ∷ ts) = ap₂ (λ (u : ℕ) (l : List ℕ). u ∷ l) (moved_none t) (times_none ts)

-- ---- kept and moved

-- items stay on their buses
pub kept_moved : (set : ℕ) (by : ℤ) (is : List Item) → keep (on_buses set) (map (moved_item by) is) ≡ map (moved_item by) (keep (on_buses set) is)
unfolding keep
kept_moved set by [] = refl
kept_moved set by (i ∷ is) = rw (moved_bus by i) (go (on_buses set i) (kept_moved set by is))
  where
    go : (b : Bool) → keep (on_buses set) (map (moved_item by) is) ≡ map (moved_item by) (keep (on_buses set) is)
        → cond b (moved_item by i ∷ keep (on_buses set) (map (moved_item by) is)) (keep (on_buses set) (map (moved_item by) is))
        ≡ map (moved_item by) (cond b (i ∷ keep (on_buses set) is) (keep (on_buses set) is))
    go true e = ap (λ (l : List Item). moved_item by i ∷ l) e
    go false e = e
