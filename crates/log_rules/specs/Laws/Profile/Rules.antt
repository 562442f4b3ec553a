-- Items that are judged one by one keep the profile's rules, and only those (document 02, K11).
use Prim.Native.Nat.{ℕ, zero, suc, ◌≤◌, ◌<◌}
use Rattle.std.proofs.Common.{arith, ap, sym, ◌∙◌, leb-true, leb-false, eqb-true, le-leb, eq-eqb}
use Rattle.std.specs.Prelude.{Bool, true, false, ◌&&◌, ◌≡◌, leb, eqb}
use Rattle.std.proofs.Math.Path.{refl}
use mathlib.Core.List.{List, [], ◌∷◌}
use Rattle.format.specs.Item.{bus_of_item}
use Rattle.log_rules.specs.Profile.{tag_time, same_bus, tagged_on, licensed, tag_after, last_tag, keeps, in_profile, Stands, Licence, Rules}
use Rattle.format.specs.Laws.Tests.{clash, and_true}
use Rattle.format.specs.declared.Time.{Time}
use Rattle.format.specs.declared.Tag.TheVariants.{Untagged, At}
use Rattle.format.specs.declared.Response.TheVariants.{Untimed, After}
use Rattle.format.specs.declared.Item.{Item}
use Rattle.format.specs.declared.Item.TheVariants.{Command, Status, Data, BusError, Arinc, Notice, User, Overflow}

-- ---- the items by number

one_item : (is : List Item) (k : ℕ) (x y : Item) → Stands is k x → Stands is k y → x ≡ y
one_item [] k x y e f = absurd e
one_item (z ∷ is) zero x y e f = sym e ∙ f
one_item (z ∷ is) (suc k) x y e f = one_item is k x y e f

-- an item has one before it, but the first
before_it : (is : List Item) (k : ℕ) (x : Item) → Stands is (suc k) x → (y : Item) × Stands is k y
before_it [] k x e = absurd e
before_it (z ∷ is) zero x e = (z, refl)
before_it (z ∷ is) (suc k) x e = before_it is k x e

-- the first k items in front of `before`, the latest first
abbrev upto : ℕ → List Item → List Item → List Item
upto zero is before = before
upto (suc k) [] before = before
upto (suc k) (x ∷ is) before = upto k is (x ∷ before)

upto_next : (is before : List Item) (k : ℕ) (y : Item) → Stands is k y → upto (suc k) is before ≡ y ∷ upto k is before
upto_next [] before k y e = absurd e
upto_next (x ∷ is) before zero y e = ap (λ (z : Item). z ∷ before) e
upto_next (x ∷ is) before (suc k) y e = upto_next is (x ∷ before) k y e

-- ---- each item judged with those before it

abbrev pub Kept : List Item → List Item → Type 0
Kept before [] = Unit {0}
Kept before (i ∷ is) = (in_profile before i ≡ true) × Kept (i ∷ before) is

kept_at : (before is : List Item) → Kept before is → (k : ℕ) (i : Item) → Stands is k i → in_profile (upto k is before) i ≡ true
kept_at before [] h k i e = absurd e
kept_at before (x ∷ is) h zero i e = rw e at h.0
kept_at before (x ∷ is) h (suc k) i e = kept_at (x ∷ before) is h.1 k i e

at_kept : (before is : List Item) → ((k : ℕ) (i : Item) → Stands is k i → in_profile (upto k is before) i ≡ true) → Kept before is
at_kept before [] h = tt
at_kept before (x ∷ is) h = (h zero x refl, at_kept (x ∷ before) is (λ k i e. h (suc k) i e))

-- ---- what is kept has the rules

module _ (is : List Item) (h : Kept [] is) where
  keeps_at : (k : ℕ) (i : Item) → Stands is k i → keeps (upto k is []) i ≡ true
  keeps_at k i e = (and_true (same_bus (upto k is []) i) (keeps (upto k is []) i) (kept_at [] is h k i e)).1

  -- behind an item: on its bus
  bus_behind : (k : ℕ) (x y : Item) → Stands is k x → Stands is (suc k) y → bus_of_item y ≡ bus_of_item x
  bus_behind k x y e f =
      let b : same_bus (upto (suc k) is []) y ≡ true = (and_true (same_bus (upto (suc k) is []) y) (keeps (upto (suc k) is []) y) (kept_at [] is h (suc k) y f)).0 in
      let c : same_bus (x ∷ upto k is []) y ≡ true = rw (upto_next is [] k x e) at b in
      eqb-true (bus_of_item y) (bus_of_item x) c

  bus_first : (k : ℕ) (x y : Item) → Stands is 0 x → Stands is k y → bus_of_item y ≡ bus_of_item x
  bus_first zero x y e f = ap bus_of_item (one_item is 0 y x f e)
  bus_first (suc k) x y e f =
      let z = before_it is k y f in
      bus_behind k z.0 y z.1 f ∙ bus_first k x z.0 e z.1

  first_there : (k : ℕ) (y : Item) → Stands is k y → (x : Item) × Stands is 0 x
  first_there zero y e = (y, e)
  first_there (suc k) y e = let z = before_it is k y e in first_there k z.0 z.1

  licence_of : (k bus : ℕ) (side : Bool) (word : ℕ) → Stands is k (Command bus side Untagged word) → Licence is k side
  licence_of zero bus side word e = clash (keeps_at 0 (Command bus side Untagged word) e)
  licence_of (suc k) bus side word e =
      let z = before_it is k (Command bus side Untagged word) e in
      let t : tagged_on side z.0 ≡ true = rw (upto_next is [] k z.0 z.1) at (keeps_at (suc k) (Command bus side Untagged word) e) in
      go side z.0 t z.1
    where
      go : (s : Bool) (y : Item) → tagged_on s y ≡ true → Stands is k y → Licence is (suc k) s
      go s (Command b r Untagged w) t f = clash t
      go true (Command b true (At u) w) t f = record { before = k; next = refl; bus = b; time = u; word = w; stands = f }
      go false (Command b false (At u) w) t f = record { before = k; next = refl; bus = b; time = u; word = w; stands = f }
      go true (Command b false (At u) w) t f = clash t
      go false (Command b true (At u) w) t f = clash t
      go s (Status b r resp w) t f = clash t
      go s (Data b r w) t f = clash t
      go s (BusError b r w) t f = clash t
      go s (Arinc b c tag w) t f = clash t
      go s (Notice b c diag) t f = clash t
      go s (User b three w) t f = clash t
      go s (Overflow b w) t f = clash t

  -- the last tag never goes back
  tag_grows : (before : List Item) (i : Item) → keeps before i ≡ true → last_tag before ≤ tag_after (last_tag before) i
  tag_grows before (Command bus b Untagged word) e = omega arith
  tag_grows before (Command bus b (At t) word) e = leb-true _ _ e
  tag_grows before (Status bus b resp word) e = omega arith
  tag_grows before (Data bus b word) e = omega arith
  tag_grows before (BusError bus b word) e = omega arith
  tag_grows before (Arinc bus c tag word) e = omega arith
  tag_grows before (Notice bus c diag) e = omega arith
  tag_grows before (User bus three word) e = omega arith
  tag_grows before (Overflow bus word) e = omega arith

  last_next : (k : ℕ) (y : Item) → Stands is k y → last_tag (upto (suc k) is []) ≡ tag_after (last_tag (upto k is [])) y
  unfolding last_tag
  last_next k y e = rw (upto_next is [] k y e) refl

  last_grows : (m n : ℕ) (i : Item) → m ≤ n → Stands is n i → last_tag (upto m is []) ≤ last_tag (upto n is [])
  last_grows m zero i l e =
      let z : m ≡ 0 = omega arith in
      rw z (omega arith)
  last_grows m (suc n) i l e =
      let z = before_it is n i e in
      go z.0 z.1 (leb m n) refl (λ t. last_grows m n z.0 t z.1)
    where
      go : (y : Item) → Stands is n y → (b : Bool) → leb m n ≡ b → (m ≤ n → last_tag (upto m is []) ≤ last_tag (upto n is []))
          → last_tag (upto m is []) ≤ last_tag (upto (suc n) is [])
      go y there true t ih = omega (arith, ih (leb-true m n t), tag_grows (upto n is []) y (keeps_at n y there), last_next n y there)
      go y there false t ih =
          let z : m ≡ suc n = omega (arith, leb-false m n t) in
          rw z (omega arith)

  tags_forward : (j k : ℕ) → j < k → (bus bus' : ℕ) (side side' : Bool) (t t' : Time) (word word' : ℕ)
      → Stands is j (Command bus side (At t) word) → Stands is k (Command bus' side' (At t') word') → tag_time t ≤ tag_time t'
  tags_forward j k l bus bus' side side' t t' word word' e f =
      let a : last_tag (upto (suc j) is []) ≡ tag_time t = last_next j (Command bus side (At t) word) e in
      let b : last_tag (upto (suc j) is []) ≤ last_tag (upto k is []) = last_grows (suc j) k (Command bus' side' (At t') word') (omega arith) f in
      let c : last_tag (upto k is []) ≤ tag_time t' = leb-true _ _ (keeps_at k (Command bus' side' (At t') word') f) in
      omega (arith, a, b, c)

  pub kept_rules : Rules is
  kept_rules = record {
    one_bus = λ j k x y e f. let z = first_there j x e in bus_first j z.0 x z.1 e ∙ sym (bus_first k z.0 y z.1 f);
    no_arinc = λ k bus c tag word e. clash (keeps_at k (Arinc bus c tag word) e);
    no_notice = λ k bus c diag e. clash (keeps_at k (Notice bus c diag) e);
    tagged = licence_of;
    timed = λ k bus side word e. clash (keeps_at k (Status bus side Untimed word) e);
    forward = tags_forward;
    no_user = λ k bus three word e. clash (keeps_at k (User bus three word) e);
  }

-- ---- what has the rules is kept

-- the last tag is that of a command before, or 0
data TagFrom (is : List Item) (k last : ℕ) : Type 0 where
  no_tag : last ≡ 0 → TagFrom is k last
  tag_of : (j bus : ℕ) (side : Bool) (t : Time) (word : ℕ) → j < k → Stands is j (Command bus side (At t) word) → last ≡ tag_time t → TagFrom is k last

module _ (is : List Item) (w : Rules is) where
  tag_later : {k last : ℕ} → TagFrom is k last → TagFrom is (suc k) last
  tag_later (no_tag z) = no_tag z
  tag_later (tag_of j bus side t word l e z) = tag_of j bus side t word (omega arith) e z

  tag_next : (k last : ℕ) (i : Item) → Stands is k i → TagFrom is k last → TagFrom is (suc k) (tag_after last i)
  tag_next k last (Command bus b Untagged word) e f = tag_later f
  tag_next k last (Command bus b (At t) word) e f = tag_of k bus b t word (omega arith) e refl
  tag_next k last (Status bus b resp word) e f = tag_later f
  tag_next k last (Data bus b word) e f = tag_later f
  tag_next k last (BusError bus b word) e f = tag_later f
  tag_next k last (Arinc bus c tag word) e f = tag_later f
  tag_next k last (Notice bus c diag) e f = tag_later f
  tag_next k last (User bus three word) e f = tag_later f
  tag_next k last (Overflow bus word) e f = tag_later f

  tag_from : (k : ℕ) (i : Item) → Stands is k i → TagFrom is k (last_tag (upto k is []))
  unfolding last_tag
  tag_from zero i e = no_tag refl
  tag_from (suc k) i e =
      let z = before_it is k i e in
      rw (upto_next is [] k z.0 z.1) (tag_next k (last_tag (upto k is [])) z.0 z.1 (tag_from k z.0 z.1))

  last_kept : (k last bus : ℕ) (side : Bool) (t : Time) (word : ℕ) → Stands is k (Command bus side (At t) word) → TagFrom is k last → last ≤ tag_time t
  last_kept k last bus side t word e (no_tag z) = omega arith
  last_kept k last bus side t word e (tag_of j bus' side' t' word' l f z) = omega (arith, z, w.forward j k l bus' bus side' side t' t word' word f e)

  on_side : (s : Bool) (bus : ℕ) (t : Time) (word : ℕ) → tagged_on s (Command bus s (At t) word) ≡ true
  on_side true bus t word = refl
  on_side false bus t word = refl

  licence_kept : (k : ℕ) (side : Bool) → Licence is k side → licensed side (upto k is []) ≡ true
  licence_kept k side l =
      let y : Item = Command l.bus side (At l.time) l.word in
      let e : upto k is [] ≡ y ∷ upto l.before is [] = ap (λ (n : ℕ). upto n is []) l.next ∙ upto_next is [] l.before y l.stands in
      rw e (on_side side l.bus l.time l.word)

  one_kept : (k : ℕ) (i : Item) → Stands is k i → keeps (upto k is []) i ≡ true
  one_kept k (Command bus b Untagged word) e = licence_kept k b (w.tagged k bus b word e)
  one_kept k (Command bus b (At t) word) e = le-leb (last_tag (upto k is [])) (tag_time t) (last_kept k _ bus b t word e (tag_from k _ e))
  one_kept k (Status bus b Untimed word) e = absurd (w.timed k bus b word e)
  one_kept k (Status bus b (After r) word) e = refl
  one_kept k (Data bus b word) e = refl
  one_kept k (BusError bus b word) e = refl
  one_kept k (Arinc bus c tag word) e = absurd (w.no_arinc k bus c tag word e)
  one_kept k (Notice bus c diag) e = absurd (w.no_notice k bus c diag e)
  one_kept k (User bus three word) e = absurd (w.no_user k bus three word e)
  one_kept k (Overflow bus word) e = refl

  bus_kept : (k : ℕ) (i : Item) → Stands is k i → same_bus (upto k is []) i ≡ true
  bus_kept zero i e = refl
  bus_kept (suc k) i e =
      let z = before_it is k i e in
      rw (upto_next is [] k z.0 z.1) (eq-eqb (bus_of_item i) (bus_of_item z.0) (w.one_bus (suc k) k i z.0 e z.1))

  pub rules_kept : Kept [] is
  rules_kept = at_kept [] is (λ k i e. both (same_bus (upto k is []) i) (keeps (upto k is []) i) (bus_kept k i e) (one_kept k i e))
    where
      both : (s t : Bool) → s ≡ true → t ≡ true → (s && t) ≡ true
      both true true p q = refl
      both true false p q = q
      both false t p q = p
