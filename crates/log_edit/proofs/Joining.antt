-- The bytes of two logs, the second's some bits later, are the log of both logs' items.
use Prim.Native.Nat.{ℕ, ◌+◌, ◌*◌, ◌-◌, ◌/◌, ◌%◌, ◌^◌, ◌≤◌, ◌<◌}
use native.Mathlib.Omega.{arith}
use mathlib.Core.Path.{◌≡◌, refl, ap, ap₂, sym, ◌∙◌}
use mathlib.Core.List.{List, [], ◌∷◌, ◌++◌, append_assoc, flat_map}
use lib.ListN.{length, take, drop, get_or, replicate, length-append, length-replicate, replicate-append-replicate, take-append-drop}
use lib.Seq.{length-take-le, take-append-le, take-append_seam}
use Rattle.format.specs.Answer.{Made, refusal}
use Rattle.format.specs.Bits.{bits_of, bytes_bits}
use Rattle.format.specs.Item.{item_bits}
use Rattle.format.specs.Lists.{Bytes}
use Rattle.format.specs.Log.{Parsed, items, fault, on_no_plan, parsed, log_of}
use Rattle.format.specs.Laws.Bits.{bits_zero, bytes_append, bytes_take, length_bytes}
use Rattle.format.specs.Laws.Lists.{all_append, all_take, flat_map_append}
use Rattle.format.specs.Laws.Log.Fields.{packs}
use Rattle.format.specs.Laws.Log.Sizes.{bits_low, items_low}
use Rattle.format.specs.declared.Answer.{Answer}
use Rattle.format.specs.declared.Item.{Item}
use Rattle.log_rules.specs.Pick.{joined, log_in, of_items}
use Rattle.log_rules.specs.Laws.Logs.{LogOf, length_log, log_bytes, log_of_lem}
use Rattle.log_write.proofs.Writing.{packed_is}
use Rattle.log_close.proofs.Giving.{made_all, made_beyond, made_short}
use Rattle.log_pass.specs.Pass.{pass_of}
use Rattle.log_pass.specs.declared.Passed.{Passed}
use Rattle.log_pass.specs.declared.Passed.TheVariants.{All, Fault}
use Rattle.log_edit.specs.Join.{both_bytes, Ends, Good, Joins, later}
use Rattle.log_edit.proofs.Later.{first_bits_lem, later_bits, later_long, later_small}

-- ---- the bits of a log: its items', and zeros

record Marked (log : List ℕ) (is : List Item) : Type 0 where
  pub more : ℕ
  pub bits : bytes_bits log ≡ flat_map item_bits is ++ replicate (4 + more) 0

marked : {log : List ℕ} {is : List Item} → LogOf log is → Marked log is
unfolding log_of
marked {log} {is} l =
    let k = packs (flat_map item_bits is ++ bits_of 4 0) (all_append (items_low is) (bits_low 4 0)) in
    record {
      more = k.more;
      bits = ap bytes_bits (sym l.bytes) ∙ k.bits ∙ append_assoc (flat_map item_bits is) (bits_of 4 0) (replicate k.more 0)
          ∙ ap (◌++◌ (flat_map item_bits is)) (ap (λ (x : List ℕ). x ++ replicate k.more 0) (bits_zero 4) ∙ replicate-append-replicate 4 k.more 0);
    }

pub ends_of : {log : List ℕ} {is : List Item} → LogOf log is → Ends log (length (flat_map item_bits is))
ends_of {log} {is} l =
    let h : Ends (log_of is) (length (flat_map item_bits is)) = ((length_log is).0, (length_log is).1, rw l.bytes l.short) in
    rw l.bytes at h

-- ---- both

module _ (first second : List ℕ) (is js : List Item) (a : LogOf first is) (b : LogOf second js) where
  abbrev m : ℕ
  m = length (flat_map item_bits is)

  abbrev n : ℕ
  n = length (flat_map item_bits js)

  abbrev bits : List ℕ
  bits = flat_map item_bits is ++ flat_map item_bits js

  abbrev both : List ℕ
  both = both_bytes m first second

  abbrev rest : ℕ
  rest = (marked b).more + 1

  bits_long : length bits ≡ m + n
  bits_long = length-append (flat_map item_bits is) (flat_map item_bits js)

  front : bytes_bits (take (m / 8) first) ++ bits_of (m % 8) (get_or first (m / 8) 0 / 2 ^ (8 - m % 8)) ≡ flat_map item_bits is
  front =
      let e : m / 8 * 8 + m % 8 ≡ m = omega arith in
      first_bits_lem (m / 8) (m % 8) first (omega (arith, (ends_of a).0)) (omega arith)
      ∙ ap₂ take e (marked a).bits ∙ take-append_seam (flat_map item_bits is) (replicate (4 + (marked a).more) 0)

  zeros : replicate (4 + (marked b).more) 0 ++ bits_of 8 0 ≡ replicate 11 0 ++ replicate rest 0
  zeros =
      let e : 4 + (marked b).more + 8 ≡ 11 + rest = omega arith in
      ap (◌++◌ (replicate (4 + (marked b).more) 0)) (bits_zero 8) ∙ replicate-append-replicate (4 + (marked b).more) 8 0
      ∙ ap (λ (k : ℕ). replicate k 0) e ∙ sym (replicate-append-replicate 11 rest 0)

  both_bits : bytes_bits both ++ bits_of (m % 8) 0 ≡ (bits ++ replicate 11 0) ++ replicate rest 0
  both_bits =
      let w = take (m / 8) first in
      let s = m % 8 in
      let p = get_or first (m / 8) 0 / 2 ^ (8 - m % 8) in
      let l = later s p (second ++ 0 ∷ []) in
      let t = bytes_bits second ++ bits_of 8 0 in
      ap (λ (x : List ℕ). x ++ bits_of s 0) (bytes_append w l)
      ∙ append_assoc (bytes_bits w) (bytes_bits l) (bits_of s 0)
      ∙ ap (◌++◌ (bytes_bits w)) (later_bits s (omega arith) p second (log_bytes b))
      ∙ sym (append_assoc (bytes_bits w) (bits_of s p) t)
      ∙ ap (λ (x : List ℕ). x ++ t) front
      ∙ ap (λ (x : List ℕ). flat_map item_bits is ++ (x ++ bits_of 8 0)) (marked b).bits
      ∙ ap (◌++◌ (flat_map item_bits is)) (append_assoc (flat_map item_bits js) (replicate (4 + (marked b).more) 0) (bits_of 8 0) ∙ ap (◌++◌ (flat_map item_bits js)) zeros)
      ∙ sym (append_assoc (flat_map item_bits is) (flat_map item_bits js) (replicate 11 0 ++ replicate rest 0))
      ∙ sym (append_assoc bits (replicate 11 0) (replicate rest 0))

  both_long : length both ≡ m / 8 + (length second + 1)
  both_long =
      length-append (take (m / 8) first) (later (m % 8) (get_or first (m / 8) 0 / 2 ^ (8 - m % 8)) (second ++ 0 ∷ []))
      ∙ ap₂ ◌+◌ (length-take-le (m / 8) first (omega (arith, (ends_of a).0))) (later_long (m % 8) (get_or first (m / 8) 0 / 2 ^ (8 - m % 8)) (second ++ 0 ∷ []) ∙ length-append second (0 ∷ []))

  module _ (bytes : ℕ) (size : bytes ≡ (m + n + 11) / 8) where
    fits : bytes ≤ length both
    fits = omega (arith, both_long, (ends_of b).0)

    its_bits : bytes_bits (take bytes both) ≡ take (bytes * 8) (bits ++ replicate 11 0)
    its_bits =
        let h : bytes * 8 ≤ length (bytes_bits both) = omega (arith, fits, length_bytes both) in
        let l : length (bits ++ replicate 11 0) ≡ m + n + 11 = length-append bits (replicate 11 0) ∙ ap₂ ◌+◌ bits_long (length-replicate {A = ℕ} 11 0) in
        let g : bytes * 8 ≤ length (bits ++ replicate 11 0) = omega arith in
        sym (bytes_take bytes both) ∙ sym (take-append-le (bytes * 8) (bytes_bits both) (bits_of (m % 8) 0) h)
        ∙ ap (take (bytes * 8)) both_bits ∙ take-append-le (bytes * 8) (bits ++ replicate 11 0) (replicate rest 0) g

    pub both_log : take bytes both ≡ log_of (is ++ js)
    unfolding log_of
    both_log =
        let x : List ℕ = bits ++ replicate 11 0 in
        let e : x ≡ bytes_bits (take bytes both) ++ drop (bytes * 8) x = sym (take-append-drop (bytes * 8) x) ∙ ap (λ (l : List ℕ). l ++ drop (bytes * 8) x) (sym its_bits) in
        let z : length (take bytes both) ≡ (length bits + 11) / 8 = length-take-le bytes both fits ∙ size ∙ ap (λ (k : ℕ). (k + 11) / 8) (sym bits_long) in
        let f : flat_map item_bits (is ++ js) ≡ bits = flat_map_append item_bits is js in
        packed_is bits (take bytes both) (drop (bytes * 8) x) (all_append (items_low is) (items_low js))
        (all_take bytes (all_append (all_take (m / 8) (log_bytes a)) (later_small (m % 8) (get_or first (m / 8) 0 / 2 ^ (8 - m % 8)) (second ++ 0 ∷ [])))) e z
        ∙ rw f refl

    pub both_size : bytes ≡ length (log_of (is ++ js))
    both_size = sym (length-take-le bytes both fits) ∙ ap (λ (l : List ℕ). length l) both_log

-- ---- the answers

pub joins_beyond : (first second : List ℕ) (m n bytes : ℕ) (out : List ℕ) (r : Answer) → bytes ≡ (m + n + 11) / 8 → 32768 < bytes → r ≡ refusal 6 bytes 0
    → Joins first m second n r out out
joins_beyond first second m n bytes out r e h a is js f g x y =
    made_beyond (is ++ js) bytes (both_size first second is js f g bytes (e ∙ ap₂ (λ (i j : ℕ). (i + j + 11) / 8) x y)) (length out) out r h a

pub joins_short : (first second : List ℕ) (m n bytes : ℕ) (out : List ℕ) (r : Answer) → bytes ≡ (m + n + 11) / 8 → bytes ≤ 32768 → length out < bytes → r ≡ refusal 6 bytes 0
    → Joins first m second n r out out
joins_short first second m n bytes out r e h l a is js f g x y =
    made_short (is ++ js) bytes (both_size first second is js f g bytes (e ∙ ap₂ (λ (i j : ℕ). (i + j + 11) / 8) x y)) (length out) out r h l a

pub joins_all : (first second : List ℕ) (m n bytes : ℕ) (out out' : List ℕ) → bytes ≡ (m + n + 11) / 8 → bytes ≤ 32768 → bytes ≤ length out
    → out' ≡ take bytes (both_bytes m first second) ++ drop bytes out
    → Joins first m second n (record { number = 0; place = 0; second = 0; bytes = bytes; times = 0 }) out out'
joins_all first second m n bytes out out' e h l o is js f g x y =
    let z : bytes ≡ (length (flat_map item_bits is) + length (flat_map item_bits js) + 11) / 8 = e ∙ ap₂ (λ (i j : ℕ). (i + j + 11) / 8) x y in
    let t : take bytes (both_bytes m first second) ≡ log_of (is ++ js) = ap (λ (k : ℕ). take bytes (both_bytes k first second)) x ∙ both_log first second is js f g bytes z in
    made_all (is ++ js) bytes (both_size first second is js f g bytes z) (take bytes (both_bytes m first second)) out out' h l t o

-- ---- both logs looked at

same_all : {m n : ℕ} → All m ≡ All n → m ≡ n
same_all e = cc

no_all : {A : Type 0} {m n q : ℕ} → Fault n q ≡ All m → A
no_all e = let z : ◌≡◌ {A = ℕ} 0 1 = cc in absurd (omega arith)

pub good : (log : List ℕ) (r : Passed) (n : ℕ) → Bytes log → r ≡ pass_of (parsed on_no_plan log) → r ≡ All n → Good log n
good log r n b e g = go (parsed on_no_plan log) refl (sym e ∙ g)
  where
    go : (x : Parsed) → parsed on_no_plan log ≡ x → pass_of x ≡ All n → Good log n
    go (items is) p z = record { its = is; parses = p; logged = log_of_lem log is b p; end = sym (same_all z) }
    go (fault k q) p z = no_all z

pub good_ends : {log : List ℕ} {n : ℕ} → Good log n → Ends log n
good_ends g = rw g.end (ends_of g.logged)

same_fault : {n k q j : ℕ} → Fault n q ≡ Fault k j → (n ≡ k) × (q ≡ j)
same_fault e = (cc, cc)

no_fault : {A : Type 0} {m n q : ℕ} → All m ≡ Fault n q → A
no_fault e = no_all (sym e)

pub bad : (log : List ℕ) (r : Passed) (n q : ℕ) → r ≡ pass_of (parsed on_no_plan log) → r ≡ Fault n q → parsed on_no_plan log ≡ fault n q
bad log r n q e g = go (parsed on_no_plan log) refl (sym e ∙ g)
  where
    go : (x : Parsed) → parsed on_no_plan log ≡ x → pass_of x ≡ Fault n q → parsed on_no_plan log ≡ fault n q
    go (items is) p z = no_fault z
    go (fault k j) p z = p ∙ ap₂ fault (same_fault z).0 (same_fault z).1

pub join_good : (first second : List ℕ) (m n : ℕ) (r : Answer) (out out' : List ℕ) → Good first m → Good second n → Joins first m second n r out out'
    → Made (joined first second (length out)) r out out'
unfolding joined
join_good first second m n r out out' a b j = rw (a.parses, b.parses) (j a.its b.its a.logged b.logged a.end b.end)

pub join_first : (first second : List ℕ) (n q : ℕ) (r : Answer) (out : List ℕ) → parsed on_no_plan first ≡ fault n q → r ≡ refusal n q 0 → Made (joined first second (length out)) r out out
unfolding joined
join_first first second n q r out e a = rw e (a, refl)

pub join_second : (first second : List ℕ) (m n q : ℕ) (r : Answer) (out : List ℕ) → Good first m → parsed on_no_plan second ≡ fault n q → r ≡ refusal n q 0
    → Made (joined first second (length out)) r out out
unfolding joined
join_second first second m n q r out g e a = rw (g.parses, e) (a, refl)
