-- An item of each kind, by the fields that were taken behind its kind and bus: it is there if the log has the bits before its end.
use Prim.Native.Nat.{ℕ, ◌+◌, ◌-◌, ◌/◌, ◌^◌, ◌≤◌, ◌<◌}
use native.Mathlib.Nat.{add_assoc, add-zero}
use native.Mathlib.Omega.{arith}
use native.Mathlib.Decide.{dec_le}
use mathlib.Core.Bool.{Bool, true, false, cond, ◌&&◌}
use mathlib.Core.Path.{◌≡◌, refl, ap, sym, ◌∙◌}
use mathlib.Core.List.{List}
use lib.ListN.{length, drop, length-drop}
use lib.Seq.{take_all}
use lib.Dec.{eqb, leb, ltb}
use borrow.Author.Tests.{eq-eqb, ne_eqb, le-leb, lt-leb, leb-true, leb-false, ltb-true, lt-ltb, le-ltb}
use Rattle.format.specs.Bits.{num_of}
use Rattle.format.specs.Log.{field, flag, if_there, tagged, timed, end_at, item_at, next_at, Next, has, ends, wrong}
use Rattle.format.specs.declared.Item.{Item}
use Rattle.format.specs.declared.Tag.{Tag}
use Rattle.format.specs.declared.Tag.TheVariants.{Untagged, At}
use Rattle.format.specs.declared.Time.{Time}
use Rattle.format.specs.declared.Response.{Response}
use Rattle.format.specs.declared.Response.TheVariants.{Untimed, After}
use Rattle.format.specs.declared.Item.TheVariants.{Command, Status, Data, BusError, Arinc, Notice, User, Overflow}
use Rattle.log_read.specs.declared.Cursor.{Cursor}
use Rattle.log_read.specs.declared.Head.{Head}
use Rattle.log_read.specs.declared.Found.{Found}
use Rattle.log_read.specs.Cursor.{Ahead, took_of}
use Rattle.log_read.specs.Fields.{Heads, sided_of, marked_of, channelled_of, noticed_of, ends_of}
use Rattle.log_read.specs.Found.{found_of, time_at, FindsIn}
use Rattle.log_read.proofs.Table.{sided_read, marked_read, marked_ahead, channelled_read, noticed_read}
use Rattle.log_read.proofs.Taken.{took_field}

-- an item where its bits are there, and nothing where it is cut
pub there : (s : List ℕ) (e : ℕ) (x : Next) → e ≤ length s → if_there s e x ≡ x
there s e x l = rw (le-leb e (length s) l)

pub cut : (s : List ℕ) (e : ℕ) (x : Next) → length s < e → if_there s e x ≡ wrong
cut s e x l = rw (lt-leb e (length s) l)

-- what is said only of bits that are there
same_there : (s : List ℕ) (e : ℕ) (x y : Next) → (e ≤ length s → x ≡ y) → if_there s e x ≡ if_there s e y
same_there s e x y h = go (leb e (length s)) refl
  where
    go : (b : Bool) → leb e (length s) ≡ b → cond b x wrong ≡ cond b y wrong
    go true t = h (leb-true e (length s) t)
    go false t = refl

-- of two ends the later one
there_there : (s : List ℕ) (e k : ℕ) (x : Next) → if_there s e (if_there s (e + k) x) ≡ if_there s (e + k) x
there_there s e k x = go (leb e (length s)) refl
  where
    go : (b : Bool) → leb e (length s) ≡ b → cond b (if_there s (e + k) x) wrong ≡ if_there s (e + k) x
    go true t = refl
    go false t = sym (cut s (e + k) x (omega (arith, leb-false e (length s) t)))

module _ {s : List ℕ} {p : ℕ} {h : Head} (g : Heads s p h) where
  bus_is : p + 8 ≤ length s → field s (p + 4) 4 ≡ h.bus
  bus_is l = sym (g.bus l)

  -- the kinds of one word and one bit
  one_bit : (item : ℕ → Bool → ℕ → Item)
      → if_there s (p + 25) (has (item (field s (p + 4) 4) (flag s (p + 8)) (field s (p + 9) 16)) (p + 25))
      ≡ if_there s (p + 25) (has (item h.bus (eqb (sided_of h.next).side 1) (sided_of h.next).word) (p + 25))
  one_bit item =
      same_there s (p + 25) (has (item (field s (p + 4) 4) (flag s (p + 8)) (field s (p + 9) 16)) (p + 25))
      (has (item h.bus (eqb (sided_of h.next).side 1) (sided_of h.next).word) (p + 25))
      (λ l. let f = sided_read g.next l in rw (bus_is (omega arith), f.0, f.1))

  pub data_at : item_at s p 3 ≡ if_there s (p + 25) (has (Data h.bus (eqb (sided_of h.next).side 1) (sided_of h.next).word) (p + 25))
  unfolding item_at
  data_at = one_bit Data

  pub error_at : item_at s p 4 ≡ if_there s (p + 25) (has (BusError h.bus (eqb (sided_of h.next).side 1) (sided_of h.next).word) (p + 25))
  unfolding item_at
  error_at = one_bit BusError

  pub user_at : item_at s p 7 ≡ if_there s (p + 25) (has (User h.bus (eqb (sided_of h.next).side 1) (sided_of h.next).word) (p + 25))
  unfolding item_at
  user_at = one_bit User

  pub overflow_at : item_at s p 8 ≡ if_there s (p + 24) (has (Overflow h.bus (took_of h.next 16).field) (p + 24))
  unfolding item_at
  overflow_at =
      same_there s (p + 24) (has (Overflow (field s (p + 4) 4) (field s (p + 8) 16)) (p + 24))
      (has (Overflow h.bus (took_of h.next 16).field) (p + 24))
      (λ l. rw (bus_is (omega arith), took_field g.next (omega arith) 16 (omega arith) l))

  pub notice_at : item_at s p 6 ≡ if_there s (p + 18) (has (Notice h.bus (noticed_of h.next).channel (noticed_of h.next).diagnostics) (p + 18))
  unfolding item_at
  notice_at =
      same_there s (p + 18) (has (Notice (field s (p + 4) 4) (field s (p + 8) 2) (field s (p + 10) 8)) (p + 18))
      (has (Notice h.bus (noticed_of h.next).channel (noticed_of h.next).diagnostics) (p + 18))
      (λ l. let f = noticed_read g.next l in rw (bus_is (omega arith), f.0, f.1))

  -- a command and a status, by their mark
  module _ (off : (marked_of h.next).mark ≡ 1 → ⊥) where
    pub command_plain : item_at s p 1 ≡ if_there s (p + 26) (has (Command h.bus (eqb (marked_of h.next).side 1) Untagged (marked_of h.next).word) (p + 26))
    unfolding item_at
    command_plain =
        same_there s (p + 26) (tagged s (flag s (p + 9)) (p + 26) (λ t. Command (field s (p + 4) 4) (flag s (p + 8)) t (field s (p + 10) 16)))
        (has (Command h.bus (eqb (marked_of h.next).side 1) Untagged (marked_of h.next).word) (p + 26))
        (λ l. let f = marked_read g.next l in rw (bus_is (omega arith), f.0, f.1, f.2, ne_eqb (marked_of h.next).mark 1 off))

    pub status_plain : item_at s p 2 ≡ if_there s (p + 26) (has (Status h.bus (eqb (marked_of h.next).side 1) Untimed (marked_of h.next).word) (p + 26))
    unfolding item_at
    status_plain =
        same_there s (p + 26) (timed s (flag s (p + 9)) (p + 26) (λ r. Status (field s (p + 4) 4) (flag s (p + 8)) r (field s (p + 10) 16)))
        (has (Status h.bus (eqb (marked_of h.next).side 1) Untimed (marked_of h.next).word) (p + 26))
        (λ l. let f = marked_read g.next l in rw (bus_is (omega arith), f.0, f.1, f.2, ne_eqb (marked_of h.next).mark 1 off))

  module _ (on : (marked_of h.next).mark ≡ 1) where
    pub command_tagged : (t : Time) → (p + 26 + 46 ≤ length s → time_at s (p + 26) ≡ t)
        → item_at s p 1 ≡ if_there s (p + 26 + 46) (has (Command h.bus (eqb (marked_of h.next).side 1) (At t) (marked_of h.next).word) (p + 26 + 46))
    unfolding item_at
    command_tagged t e =
        let new : Next = has (Command h.bus (eqb (marked_of h.next).side 1) (At t) (marked_of h.next).word) (p + 26 + 46) in
        let old : Next = has (Command (field s (p + 4) 4) (flag s (p + 8)) (At (time_at s (p + 26))) (field s (p + 10) 16)) (p + 26 + 46) in
        same_there s (p + 26) (tagged s (flag s (p + 9)) (p + 26) (λ t. Command (field s (p + 4) 4) (flag s (p + 8)) t (field s (p + 10) 16)))
        (if_there s (p + 26 + 46) old)
        (λ l. let f = marked_read g.next l in rw (f.1, eq-eqb (marked_of h.next).mark 1 on))
        ∙ there_there s (p + 26) 46 old
        ∙ same_there s (p + 26 + 46) old new
        (λ l. let f = marked_read g.next (omega arith) in rw (bus_is (omega arith), f.0, f.2, e l))

    pub status_timed : item_at s p 2
        ≡ if_there s (p + 26 + 14) (has (Status h.bus (eqb (marked_of h.next).side 1) (After (took_of (marked_of h.next).next 14).field) (marked_of h.next).word) (p + 26 + 14))
    unfolding item_at
    status_timed =
        let r : ℕ = (took_of (marked_of h.next).next 14).field in
        let new : Next = has (Status h.bus (eqb (marked_of h.next).side 1) (After r) (marked_of h.next).word) (p + 26 + 14) in
        let old : Next = has (Status (field s (p + 4) 4) (flag s (p + 8)) (After (field s (p + 26) 14)) (field s (p + 10) 16)) (p + 26 + 14) in
        same_there s (p + 26) (timed s (flag s (p + 9)) (p + 26) (λ r. Status (field s (p + 4) 4) (flag s (p + 8)) r (field s (p + 10) 16)))
        (if_there s (p + 26 + 14) old)
        (λ l. let f = marked_read g.next l in rw (f.1, eq-eqb (marked_of h.next).mark 1 on))
        ∙ there_there s (p + 26) 14 old
        ∙ same_there s (p + 26 + 14) old new
        (λ l. let f = marked_read g.next (omega arith) in rw (bus_is (omega arith), f.0, f.2, took_field (marked_ahead g.next) (omega arith) 14 (omega arith) (omega arith)))

  -- an ARINC word, by its mark
  pub arinc_plain : ((channelled_of h.next).mark ≡ 1 → ⊥)
      → item_at s p 5 ≡ if_there s (p + 43) (has (Arinc h.bus (channelled_of h.next).channel Untagged (channelled_of h.next).word) (p + 43))
  unfolding item_at
  arinc_plain off =
      same_there s (p + 43) (tagged s (flag s (p + 10)) (p + 43) (λ t. Arinc (field s (p + 4) 4) (field s (p + 8) 2) t (field s (p + 11) 32)))
      (has (Arinc h.bus (channelled_of h.next).channel Untagged (channelled_of h.next).word) (p + 43))
      (λ l. let f = channelled_read g.next l in rw (bus_is (omega arith), f.0, f.1, f.2, ne_eqb (channelled_of h.next).mark 1 off))

  pub arinc_tagged : ((channelled_of h.next).mark ≡ 1) → (t : Time) → (p + 43 + 46 ≤ length s → time_at s (p + 43) ≡ t)
      → item_at s p 5 ≡ if_there s (p + 43 + 46) (has (Arinc h.bus (channelled_of h.next).channel (At t) (channelled_of h.next).word) (p + 43 + 46))
  unfolding item_at
  arinc_tagged on t e =
      let new : Next = has (Arinc h.bus (channelled_of h.next).channel (At t) (channelled_of h.next).word) (p + 43 + 46) in
      let old : Next = has (Arinc (field s (p + 4) 4) (field s (p + 8) 2) (At (time_at s (p + 43))) (field s (p + 11) 32)) (p + 43 + 46) in
      same_there s (p + 43) (tagged s (flag s (p + 10)) (p + 43) (λ t. Arinc (field s (p + 4) 4) (field s (p + 8) 2) t (field s (p + 11) 32)))
      (if_there s (p + 43 + 46) old)
      (λ l. let f = channelled_read g.next l in rw (f.1, eq-eqb (channelled_of h.next).mark 1 on))
      ∙ there_there s (p + 43) 46 old
      ∙ same_there s (p + 43 + 46) old new
      (λ l. let f = channelled_read g.next (omega arith) in rw (bus_is (omega arith), f.0, f.2, e l))

-- no item is of another kind, and none where not even its kind is there
pub none_other : (s : List ℕ) (p k : ℕ) → (k ≡ 1 → ⊥) → (k ≡ 2 → ⊥) → (k ≡ 3 → ⊥) → (k ≡ 4 → ⊥) → (k ≡ 5 → ⊥) → (k ≡ 6 → ⊥) → (k ≡ 7 → ⊥) → (k ≡ 8 → ⊥) → item_at s p k ≡ wrong
unfolding item_at
none_other s p k a b c d e f g h = simp (ne_eqb k 1 a, ne_eqb k 2 b, ne_eqb k 3 c, ne_eqb k 4 d, ne_eqb k 5 e, ne_eqb k 6 f, ne_eqb k 7 g, ne_eqb k 8 h)

cond_wrong : (b : Bool) (x y : Next) → x ≡ wrong → y ≡ wrong → cond b x y ≡ wrong
cond_wrong true x y e f = e
cond_wrong false x y e f = f

none_past : (s : List ℕ) (p k : ℕ) → length s < p + 4 → item_at s p k ≡ wrong
unfolding item_at
none_past s p k l =
    cond_wrong (eqb k 1) _ _ (cut s (p + 26) _ (omega arith))
    (cond_wrong (eqb k 2) _ _ (cut s (p + 26) _ (omega arith))
    (cond_wrong (eqb k 3) _ _ (cut s (p + 25) _ (omega arith))
    (cond_wrong (eqb k 4) _ _ (cut s (p + 25) _ (omega arith))
    (cond_wrong (eqb k 5) _ _ (cut s (p + 43) _ (omega arith))
    (cond_wrong (eqb k 6) _ _ (cut s (p + 18) _ (omega arith))
    (cond_wrong (eqb k 7) _ _ (cut s (p + 25) _ (omega arith))
    (cond_wrong (eqb k 8) _ _ (cut s (p + 24) _ (omega arith)) refl)))))))

-- what stands at p, by the kind in the head
pub next_past : (s : List ℕ) (p : ℕ) → length s < p + 4 → next_at s p ≡ wrong
unfolding next_at
next_past s p l = cut s (p + 4) _ l

pub next_item : {s : List ℕ} {p : ℕ} {h : Head} → Heads s p h → (h.kind ≡ 0 → ⊥) → next_at s p ≡ item_at s p h.kind
unfolding next_at
next_item {s} {p} {h} g n = go (dec_le (p + 4) (length s))
  where
    go : Dec (p + 4 ≤ length s) → next_at s p ≡ item_at s p h.kind
    go (yes l) = rw (le-leb (p + 4) (length s) l, ← g.kind l, ne_eqb h.kind 0 n)
    go (no l) = next_past s p (omega arith) ∙ sym (none_past s p h.kind (omega arith))

-- an item of the kind in the head is what stands there
pub found_item : {s : List ℕ} {p : ℕ} {h : Head} {r : Found} → Heads s p h → (k : ℕ) → 0 < k → h.kind ≡ k → FindsIn s h k r → r ≡ found_of (next_at s p)
found_item {s} {p} g k n e f = f p g ∙ ap found_of (sym (next_item g (λ z. omega (arith, n, e, z)) ∙ ap (item_at s p) e))
