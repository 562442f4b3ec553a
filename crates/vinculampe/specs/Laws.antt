-- What composing and the readings from C rest on: the plan and the kinds that numbers name, and the times that bytes say.
use Rattle.std.specs.Prelude.{ℕ, ◌/◌, ◌%◌, ◌≤◌, Bool, length, take, drop}
use native.Mathlib.Omega.{arith}
use Rattle.std.proofs.Math.Bool.{true, false, cond}
use Rattle.std.proofs.Math.Path.{◌≡◌, refl}
use Rattle.std.proofs.Common.{ap, sym, ◌∙◌, inr, take_at}
use Rattle.std.proofs.Math.Logic.{inl}
use mathlib.Core.List.{List, map, flat_map}
use Rattle.std.proofs.lemmas.List.{length-map}
use Rattle.std.proofs.Math.Dec.{eqb}
use borrow.Author.Tests.{eqb-true, eq-eqb}
use Rattle.format.specs.Answer.{Made}
use Rattle.format.specs.declared.Answer.{Answer}
use Rattle.format.specs.Laws.Refusals.{ComposingNumber, composed_refused, log_refused, reading_refused}
use Rattle.format.specs.Laws.Second.{ReadOnly, read_only}
use Rattle.format.specs.Compose.{Composed, made, refused, composed, groups_for, unless_open}
use Rattle.format.specs.Group.{Fault, none, found, unless}
use Rattle.format.specs.Notices.{first_open, open_fault, bit_of}
use Rattle.format.specs.Log.{Parsed, items, fault, on_plan, parsed}
use Rattle.format.specs.Item.{item_words}
use Rattle.format.specs.Plan.{legal, times_needed}
use Rattle.format.specs.Read.{Reading, gives, refuses, reading}
use Rattle.format.specs.declared.Kind.{Kind}
use Rattle.format.specs.declared.Plan.{Plan}
use Rattle.from_c.specs.Numbers.{kind_of, named, plan_from, times_from}
use Rattle.from_c.specs.Laws.{sixteen}
use Rattle.compose_from_c.specs.Composing.{composed_bytes, composed_from, ragged, ragged_parsed}
use Rattle.read_from_c.specs.Reading.{reading_from}
use Rattle.format.proofs.Promises.{composed_as_before, reading_as_before}
use Rattle.vinculampe.specs.Before as was
use Rattle.format.specs.Laws.Before.{legal_same}

no_capture : {A : Type 0} {n q : ℕ} {c : List ℕ} → refused n q ≡ made c → A
no_capture e = let z : ◌≡◌ {A = ℕ} 0 1 = cc in absurd (omega arith)

no_log : {A : Type 0} {n q second : ℕ} {log times : List ℕ} → refuses n q second ≡ gives log times → A
no_log e = let z : ◌≡◌ {A = ℕ} 0 1 = cc in absurd (omega arith)

-- a run of times that is not whole eights makes nothing
ragged_makes : {A : Type 0} (p : Plan) (ks : List Kind) (log c : List ℕ) → ragged p ks log ≡ made c → A
unfolding ragged
ragged_makes {A} p ks log c e = go (legal p ks) (parsed (on_plan ks) log) e
  where
    open_makes : (f : Fault) (q : ℕ) → unless_open f (refused 5 q) ≡ made c → A
    open_makes none q z = no_capture z
    open_makes (found m k) q z = no_capture z

    go : (b : Bool) (r : Parsed) → cond b (ragged_parsed p r) (refused 1 0) ≡ made c → A
    go true (items is) z = open_makes (open_fault (bit_of is) is) (times_needed p (groups_for p (length (flat_map item_words is)))) z
    go true (fault n q) z = no_capture z
    go false r z = no_capture z

-- and is refused by 1 to 5, or 15
ragged_refused : (p : Plan) (ks : List Kind) (log : List ℕ) (n q : ℕ) → ragged p ks log ≡ refused n q → ComposingNumber n
unfolding ragged
ragged_refused p ks log n q e = go (legal p ks) (parsed (on_plan ks) log) refl e
  where
    go : (b : Bool) (r : Parsed) → parsed (on_plan ks) log ≡ r → cond b (ragged_parsed p r) (refused 1 0) ≡ refused n q → ComposingNumber n
    go true (items is) h z = open_refused (eqb (first_open is) (length is)) (bit_of is (first_open is)) (times_needed p (groups_for p (length (flat_map item_words is)))) z
      where
        open_refused : (b : Bool) (k l : ℕ) → unless_open (unless b 15 k) (refused 5 l) ≡ refused n q → ComposingNumber n
        open_refused true k l z = let five : ◌≡◌ {A = ℕ} 5 n = cc in (omega arith, inl (omega arith))
        open_refused false k l z = let fifteen : ◌≡◌ {A = ℕ} 15 n = cc in (omega arith, inr (sym fifteen))
    go true (fault m k) h z =
        let same : m ≡ n = cc in
        let l = log_refused ks log m k h in
        (omega (arith, l.0), inl (omega (arith, l.1)))
    go false r h z = let one : ◌≡◌ {A = ℕ} 1 n = cc in (omega arith, inl (omega arith))

-- number 0 is answered where a capture is made, and its bytes are then the first of the output
pub made_bytes : (m : Composed) (r : Answer) (out out' : List ℕ) → ((n q : ℕ) → m ≡ refused n q → ComposingNumber n) → Made m r out out' → r.number ≡ 0
    → (c : List ℕ) × (m ≡ made c) × (take r.bytes out' ≡ c)
made_bytes (made c) r out out' h a z = (c, refl, rw (a.0, a.1) (take_at c (drop (length c) out) (length c) refl))
made_bytes (refused n q) r out out' h a z =
    let e : n ≡ 0 = sym (ap (λ (x : Answer). x.number) a.0) ∙ z in
    absurd (omega (arith, (h n q refl).0))

module _ (words tracks time crc parity label code : ℕ) (kinds : List ℕ) where
  abbrev pub the_plan : Plan
  the_plan = plan_from words tracks time crc parity label code

  abbrev pub the_kinds : List Kind
  the_kinds = map kind_of kinds

  abbrev pub Named : Type 0
  Named = named time crc parity kinds ≡ true

  pub named_sixteen : Named → length the_kinds ≡ 16
  named_sixteen e = length-map kinds kind_of ∙ sixteen time crc parity kinds e

  -- what composing from C made, composing made
  pub made_from : (log times c : List ℕ) (room : ℕ) → composed_from words tracks time crc parity label code kinds log times room ≡ made c
      → Named × (length times % 8 ≡ 0) × (composed the_plan the_kinds log (times_from times) room ≡ made c)
  unfolding composed_from composed_bytes
  made_from log times c room e = go (named time crc parity kinds) (eqb (length times % 8) 0) refl refl e
    where
      go : (a b : Bool) → named time crc parity kinds ≡ a → eqb (length times % 8) 0 ≡ b
          → cond a (cond b (composed the_plan the_kinds log (times_from times) room) (ragged the_plan the_kinds log)) (refused 1 0) ≡ made c
          → Named × (length times % 8 ≡ 0) × (composed the_plan the_kinds log (times_from times) room ≡ made c)
      go true true n w z = (n, eqb-true (length times % 8) 0 w, z)
      go true false n w z = ragged_makes the_plan the_kinds log c z
      go false b n w z = no_capture z

  pub from_made : (log times : List ℕ) (room : ℕ) → Named → length times % 8 ≡ 0
      → composed_from words tracks time crc parity label code kinds log times room ≡ composed the_plan the_kinds log (times_from times) room
  unfolding composed_from composed_bytes
  from_made log times room n w = rw (n, eq-eqb (length times % 8) 0 w)

  -- a refusal's number is never 0
  pub composed_refused_from : (log times : List ℕ) (room n q : ℕ) → composed_from words tracks time crc parity label code kinds log times room ≡ refused n q → ComposingNumber n
  unfolding composed_from composed_bytes
  composed_refused_from log times room n q e = go (named time crc parity kinds) (eqb (length times % 8) 0) e
    where
      go : (a b : Bool) → cond a (cond b (composed the_plan the_kinds log (times_from times) room) (ragged the_plan the_kinds log)) (refused 1 0) ≡ refused n q → ComposingNumber n
      go true true z = composed_refused the_plan the_kinds log (times_from times) room n q z
      go true false z = ragged_refused the_plan the_kinds log n q z
      go false b z = let one : ◌≡◌ {A = ℕ} 1 n = cc in (omega arith, inl (omega arith))

  pub reading_refused_from : (closed : Bool) (c : List ℕ) (log_room time_room n q second : ℕ)
      → reading_from closed words tracks time crc parity label code kinds c log_room time_room ≡ refuses n q second
      → (1 ≤ n) × (n ≤ 15)
  unfolding reading_from
  reading_refused_from closed c log_room time_room n q second e = go (named time crc parity kinds) e
    where
      go : (a : Bool) → cond a (reading closed the_plan the_kinds c log_room (time_room / 8)) (refuses 1 0 0) ≡ refuses n q second → (1 ≤ n) × (n ≤ 15)
      go true z = reading_refused closed the_plan the_kinds c log_room (time_room / 8) n q second z
      go false z = let one : ◌≡◌ {A = ℕ} 1 n = cc in omega arith

  -- a reading from C has no second place but in 13
  pub read_only_from : (closed : Bool) (c : List ℕ) (log_room time_room : ℕ) → ReadOnly (reading_from closed words tracks time crc parity label code kinds c log_room time_room)
  unfolding reading_from
  read_only_from closed c log_room time_room = go (named time crc parity kinds)
    where
      go : (a : Bool) → ReadOnly (cond a (reading closed the_plan the_kinds c log_room (time_room / 8)) (refuses 1 0 0))
      go true = read_only closed the_plan the_kinds c log_room (time_room / 8)
      go false = λ z. refl

  -- what a reading from C gives, a reading gives
  pub gives_from : (closed : Bool) (c log row : List ℕ) (log_room time_room : ℕ) → reading_from closed words tracks time crc parity label code kinds c log_room time_room ≡ gives log row
      → Named × (reading closed the_plan the_kinds c log_room (time_room / 8) ≡ gives log row)
  unfolding reading_from
  gives_from closed c log row log_room time_room e = go (named time crc parity kinds) refl e
    where
      go : (a : Bool) → named time crc parity kinds ≡ a → cond a (reading closed the_plan the_kinds c log_room (time_room / 8)) (refuses 1 0 0) ≡ gives log row
          → Named × (reading closed the_plan the_kinds c log_room (time_room / 8) ≡ gives log row)
      go true n z = (n, z)
      go false n z = no_log z

  pub from_gives : (closed : Bool) (c : List ℕ) (log_room time_room : ℕ) → Named
      → reading_from closed words tracks time crc parity label code kinds c log_room time_room ≡ reading closed the_plan the_kinds c log_room (time_room / 8)
  unfolding reading_from
  from_gives closed c log_room time_room n = rw n

-- ---- label 3 and code 0: the answers of before

module _ (words tracks time crc parity : ℕ) (kinds : List ℕ) where
  abbrev ks : List Kind
  ks = map kind_of kinds

  ragged_before : (log : List ℕ) → ragged (was.plan_from words tracks time crc parity) ks log ≡ was.ragged (was.plan_from words tracks time crc parity) ks log
  unfolding ragged was.ragged
  ragged_before log = rw (legal_same words tracks (eqb time 1) (eqb crc 1) (eqb parity 1) ks)

  pub composed_from_before : (log times : List ℕ) (room : ℕ)
      → composed_from words tracks time crc parity 3 0 kinds log times room ≡ was.composed_from words tracks time crc parity kinds log times room
  unfolding composed_from composed_bytes was.composed_from
  composed_from_before log times room =
      rw (composed_as_before words tracks (eqb time 1) (eqb crc 1) (eqb parity 1) ks log (times_from times) room, ragged_before log)

  pub reading_from_before : (closed : Bool) (c : List ℕ) (log_room time_room : ℕ)
      → reading_from closed words tracks time crc parity 3 0 kinds c log_room time_room ≡ was.reading_from closed words tracks time crc parity kinds c log_room time_room
  unfolding reading_from was.reading_from
  reading_from_before closed c log_room time_room = rw (reading_as_before words tracks (eqb time 1) (eqb crc 1) (eqb parity 1) closed ks c log_room (time_room / 8))
