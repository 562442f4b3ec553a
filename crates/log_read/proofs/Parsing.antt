-- A log parsed item by item, counting the items and their words.
use Prim.Native.Nat.{ℕ, zero, suc, ◌+◌, ◌*◌, ◌-◌, ◌≤◌, ◌<◌}
use native.Mathlib.Omega.{arith}
use mathlib.Core.Bool.{Bool, true, false, cond, ◌&&◌}
use mathlib.Core.Path.{◌≡◌, refl, ap, ap₂, sym, ◌∙◌}
use mathlib.Core.List.{List, [], ◌∷◌, ◌++◌, flat_map}
use lib.ListN.{length, drop, length-append}
use lib.Dec.{eqb, leb, ltb}
use borrow.Author.Tests.{leb-true, le-ltb, lt-ltb, eq-eqb, ne_eqb}
use Rattle.format.specs.Bits.{bytes_bits, num_of}
use Rattle.format.specs.Item.{item_words}
use Rattle.format.specs.Log.{if_there, tagged, timed, end_at, item_at, next_at, Next, has, ends, wrong, field, flag, Parsed, items, fault, consed, parse_from, parsed}
use Rattle.format.specs.declared.Tag.{Tag}
use Rattle.format.specs.declared.Tag.TheVariants.{Untagged, At}
use Rattle.format.specs.declared.Response.{Response}
use Rattle.format.specs.declared.Response.TheVariants.{Untimed, After}
use Rattle.format.specs.declared.Item.{Item}
use Rattle.format.specs.declared.Item.TheVariants.{Command, Status, Data, BusError, Arinc, Notice, User, Overflow}
use Rattle.log_read.specs.declared.Cursor.{Cursor}
use Rattle.log_read.specs.declared.Found.{Found}
use Rattle.log_read.specs.declared.Found.TheVariants.{Has, End, Wrong}
use Rattle.log_read.specs.declared.Tally.{Tally}
use Rattle.log_read.specs.declared.Tally.TheVariants.{Items, Fault}
use Rattle.log_read.specs.Found.{found_of}
use Rattle.log_read.specs.Tally.{tallied_of}
use Rattle.format.specs.Laws.Bits.{length_bytes}

-- ---- an item takes eight bits or more, and ends within the log

abbrev Within : List ℕ → ℕ → Next → Type 0
Within s p ends = Unit {0}
Within s p wrong = Unit {0}
Within s p (has i q) = (p + 8 ≤ q) × (q ≤ length s)

module _ (s : List ℕ) (p : ℕ) where
  there_within : (e : ℕ) (n : Next) → (e ≤ length s → Within s p n) → Within s p (if_there s e n)
  there_within e n g = go (leb e (length s)) refl
    where
      go : (t : Bool) → leb e (length s) ≡ t → Within s p (cond t n wrong)
      go true t = g (leb-true _ _ t)
      go false t = tt

  cond_within : (b : Bool) (x y : Next) → Within s p x → Within s p y → Within s p (cond b x y)
  cond_within true x y g h = g
  cond_within false x y g h = h

  tagged_within : (b : Bool) (e : ℕ) (item : Tag → Item) → p + 8 ≤ e → e ≤ length s → Within s p (tagged s b e item)
  tagged_within false e item h g = (h, g)
  tagged_within true e item h g = there_within (e + 46) _ (λ z. (omega arith, z))

  timed_within : (b : Bool) (e : ℕ) (item : Response → Item) → p + 8 ≤ e → e ≤ length s → Within s p (timed s b e item)
  timed_within false e item h g = (h, g)
  timed_within true e item h g = there_within (e + 14) _ (λ z. (omega arith, z))

  item_within : (k : ℕ) → Within s p (item_at s p k)
  unfolding item_at
  item_within k =
      cond_within (eqb k 1) _ _ (there_within (p + 26) _ (λ h. tagged_within (flag s (p + 9)) (p + 26) _ (omega arith) h))
      (cond_within (eqb k 2) _ _ (there_within (p + 26) _ (λ h. timed_within (flag s (p + 9)) (p + 26) _ (omega arith) h))
      (cond_within (eqb k 3) _ _ (there_within (p + 25) _ (λ h. (omega arith, h)))
      (cond_within (eqb k 4) _ _ (there_within (p + 25) _ (λ h. (omega arith, h)))
      (cond_within (eqb k 5) _ _ (there_within (p + 43) _ (λ h. tagged_within (flag s (p + 10)) (p + 43) _ (omega arith) h))
      (cond_within (eqb k 6) _ _ (there_within (p + 18) _ (λ h. (omega arith, h)))
      (cond_within (eqb k 7) _ _ (there_within (p + 25) _ (λ h. (omega arith, h)))
      (cond_within (eqb k 8) _ _ (there_within (p + 24) _ (λ h. (omega arith, h))) tt)))))))

  next_within : Within s p (next_at s p)
  unfolding next_at
  next_within =
      there_within (p + 4) _ (λ h. cond_within (eqb (field s p 4) 0) _ _
      (cond_within (ltb (length s) (p + 12) && eqb (num_of (drop (p + 4) s)) 0) _ _ tt tt)
      (item_within (field s p 4)))

-- ---- what the code found is what stands there

same_item : (j i : Item) (d c : Cursor) → Has j d ≡ Has i c → j ≡ i
same_item j i d c e = cc

same_place : (j i : Item) (d c : Cursor) → Has j d ≡ Has i c → d ≡ c
same_place j i d c e = cc

found_has : (n : Next) (i : Item) (c : Cursor) → found_of n ≡ Has i c → n ≡ has i c.at
found_has ends i c e = let z : ◌≡◌ {A = ℕ} 0 1 = cc in absurd (omega arith)
found_has wrong i c e = let z : ◌≡◌ {A = ℕ} 0 1 = cc in absurd (omega arith)
found_has (has j q) i c e =
    let d : Cursor = record { at = q; ahead = 0 } in
    ap₂ has (same_item j i d c e) (ap (λ (f : Cursor). f.at) (same_place j i d c e))

pub found_end : (n : Next) → found_of n ≡ End → n ≡ ends
found_end ends e = refl
found_end wrong e = let z : ◌≡◌ {A = ℕ} 0 1 = cc in absurd (omega arith)
found_end (has j q) e = let z : ◌≡◌ {A = ℕ} 0 1 = cc in absurd (omega arith)

pub found_wrong : (n : Next) → found_of n ≡ Wrong → n ≡ wrong
found_wrong wrong e = refl
found_wrong ends e = let z : ◌≡◌ {A = ℕ} 0 1 = cc in absurd (omega arith)
found_wrong (has j q) e = let z : ◌≡◌ {A = ℕ} 0 1 = cc in absurd (omega arith)

-- what follows an item that was found at p
pub record Follows (log : List ℕ) (p : ℕ) (i : Item) (q : ℕ) : Type 0 where
  pub next : next_at (bytes_bits log) p ≡ has i q
  pub far : p + 8 ≤ q
  pub fits : q ≤ length log * 8

pub follows : (log : List ℕ) (p : ℕ) (f : Found) (i : Item) (c : Cursor) → f ≡ found_of (next_at (bytes_bits log) p) → f ≡ Has i c → Follows log p i c.at
follows log p f i c e g =
    let n : next_at (bytes_bits log) p ≡ has i c.at = found_has (next_at (bytes_bits log) p) i c (sym e ∙ g) in
    let w : Within (bytes_bits log) p (has i c.at) = rw n at (next_within (bytes_bits log) p) in
    record { next = n; far = w.0; fits = omega (arith, length_bytes log, w.1) }

-- ---- counting

-- n items and w words more
abbrev pub adding : ℕ → ℕ → Tally → Tally
adding n w (Items a b) = Items (n + a) (w + b)
adding n w (Fault k p) = Fault k p

pub words_few : (i : Item) → length (item_words i) ≤ 5
unfolding item_words
words_few (Command bus b Untagged word) = omega arith
words_few (Command bus b (At t) word) = omega arith
words_few (Status bus b Untimed word) = omega arith
words_few (Status bus b (After r) word) = omega arith
words_few (Data bus b word) = omega arith
words_few (BusError bus b word) = omega arith
words_few (Arinc bus c Untagged word) = omega arith
words_few (Arinc bus c (At t) word) = omega arith
words_few (Notice bus c d) = omega arith
words_few (User bus b word) = omega arith
words_few (Overflow bus word) = omega arith

pub tally_long : (check : Item → ℕ) (log : List ℕ) → 32768 < length log → tallied_of (parsed check log) ≡ Fault 2 0
unfolding parsed
tally_long check log h = rw (lt-ltb _ _ h)

module _ (check : Item → ℕ) (log : List ℕ) where
  -- the tally of what is left from p on, n items and w words having been counted
  abbrev pub onward : ℕ → ℕ → ℕ → Tally
  onward p n w = adding n w (tallied_of (parse_from (length log + 1 - n) check (bytes_bits log) p))

  pub tally_start : length log ≤ 32768 → tallied_of (parsed check log) ≡ onward 0 0 0
  unfolding parsed
  tally_start h =
      let e : length log + 1 - 0 ≡ length log + 1 = omega arith in
      rw (le-ltb 32768 (length log) h, e) (go (tallied_of (parse_from (length log + 1) check (bytes_bits log) 0)))
    where
      go : (t : Tally) → t ≡ adding 0 0 t
      go (Items a b) = ap₂ Items (omega arith) (omega arith)
      go (Fault k p) = refl

  module _ (p n w : ℕ) (few : n * 8 ≤ p) (fits : p ≤ length log * 8) where
    fuel : length log + 1 - n ≡ suc (length log - n)
    fuel = omega arith

    pub tally_end : (f : Found) → f ≡ found_of (next_at (bytes_bits log) p) → f ≡ End → onward p n w ≡ Items n w
    unfolding parse_from flat_map
    tally_end f e g = rw (fuel, found_end (next_at (bytes_bits log) p) (sym e ∙ g)) (ap₂ Items (omega arith) (omega arith))

    pub tally_wrong : (f : Found) → f ≡ found_of (next_at (bytes_bits log) p) → f ≡ Wrong → onward p n w ≡ Fault 2 p
    unfolding parse_from
    tally_wrong f e g = rw (fuel, found_wrong (next_at (bytes_bits log) p) (sym e ∙ g))

    pub tally_fault : (i : Item) (q : ℕ) → Follows log p i q → (check i ≡ 0 → ⊥) → onward p n w ≡ Fault (check i) p
    unfolding parse_from
    tally_fault i q f h = rw (fuel, f.next, ne_eqb _ _ h)

    pub tally_more : (i : Item) (q : ℕ) → Follows log p i q → check i ≡ 0 → onward p n w ≡ onward q (n + 1) (w + length (item_words i))
    unfolding parse_from flat_map
    tally_more i q f h =
        let e : length log + 1 - (n + 1) ≡ length log - n = omega arith in
        rw (fuel, f.next, eq-eqb _ _ h, e) (go (parse_from (length log - n) check (bytes_bits log) q))
      where
        go : (r : Parsed) → adding n w (tallied_of (consed i r)) ≡ adding (n + 1) (w + length (item_words i)) (tallied_of r)
        go (fault k j) = refl
        go (items is) = ap₂ Items (omega arith) (omega (arith, length-append (item_words i) (flat_map item_words is)))
