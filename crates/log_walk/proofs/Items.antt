-- What is known of an item from its two numbers: its bus, whether its times are below 10000, and how far it reaches.
use Prim.Native.Nat.{ℕ, ◌+◌, ◌*◌, ◌%◌, ◌^◌, ◌≤◌, ◌<◌}
use native.Mathlib.Omega.{arith}
use mathlib.Core.Bool.{Bool, true, false, cond, ◌&&◌}
use mathlib.Core.Path.{◌≡◌, refl, ap, sym, ◌∙◌}
use mathlib.Core.List.{List}
use lib.ListN.{length, drop, length-append}
use lib.Dec.{eqb, leb, ltb}
use borrow.Author.Tests.{leb-true}
use Rattle.format.specs.Bits.{bits_of, bytes_bits, num_of}
use Rattle.format.specs.Item.{item_fields, item_bits, bus_of_item, in_time}
use Rattle.format.specs.Log.{Next, has, ends, wrong, field, flag, if_there, tagged, timed, end_at, item_at, next_at}
use Rattle.format.specs.Laws.Bits.{length_bits}
use Rattle.format.specs.Laws.Log.Forth.{bytes_low}
use Rattle.format.specs.declared.Time.{Time}
use Rattle.format.specs.declared.Tag.{Tag}
use Rattle.format.specs.declared.Tag.TheVariants.{Untagged, At}
use Rattle.format.specs.declared.Response.{Response}
use Rattle.format.specs.declared.Response.TheVariants.{Untimed, After}
use Rattle.format.specs.declared.Item.{Item}
use Rattle.format.specs.declared.Item.TheVariants.{Command, Status, Data, BusError, Arinc, Notice, User, Overflow}
use Rattle.log_write.specs.Packed.{packed_of}
use Rattle.log_write.specs.declared.Packed.{Packed}
use Rattle.log_write.proofs.Packing.{Says, packed_says}
use Rattle.log_walk.specs.declared.Piece.{Piece}
use Rattle.log_walk.specs.declared.Piece.TheVariants.{Item as Whole, End, Wrong}
use Rattle.log_walk.specs.Piece.{piece_of, bus_in, times_in}
use Rattle.log_walk.proofs.Fields.{field_low}

-- ---- an item whose bus and times are within their widths

abbrev pub TagNarrow : Tag → Type 0
TagNarrow Untagged = Unit {0}
TagNarrow (At t) = (t.high < 65536) × (t.low < 65536) × (t.micro < 16384)

abbrev pub ResponseNarrow : Response → Type 0
ResponseNarrow Untimed = Unit {0}
ResponseNarrow (After r) = r < 16384

abbrev pub TimesNarrow : Item → Type 0
TimesNarrow (Command bus b tag word) = TagNarrow tag
TimesNarrow (Status bus b resp word) = ResponseNarrow resp
TimesNarrow (Data bus b word) = Unit {0}
TimesNarrow (BusError bus b word) = Unit {0}
TimesNarrow (Arinc bus c tag word) = TagNarrow tag
TimesNarrow (Notice bus c diag) = Unit {0}
TimesNarrow (User bus three word) = Unit {0}
TimesNarrow (Overflow bus word) = Unit {0}

bus_known : (i : Item) → bus_of_item i < 16 → bus_in (packed_of i) ≡ bus_of_item i
unfolding packed_of item_fields bus_of_item
bus_known (Command bus b tag word) h = omega arith
bus_known (Status bus b resp word) h = omega arith
bus_known (Data bus b word) h = omega arith
bus_known (BusError bus b word) h = omega arith
bus_known (Arinc bus c tag word) h = omega arith
bus_known (Notice bus c diag) h = omega arith
bus_known (User bus three word) h = omega arith
bus_known (Overflow bus word) h = omega arith

-- a tag ends with its microseconds
micro_last : (high low micro : ℕ) → micro < 16384 → (((0 * 2 ^ 16 + high % 2 ^ 16) * 2 ^ 16 + low % 2 ^ 16) * 2 ^ 14 + micro % 2 ^ 14) % 16384 ≡ micro
micro_last high low micro h = omega arith

response_last : (r : ℕ) → r < 16384 → (0 * 2 ^ 14 + r % 2 ^ 14) % 16384 ≡ r
response_last r h = omega arith

times_known : (i : Item) → TimesNarrow i → times_in (packed_of i) ≡ in_time i
unfolding packed_of item_fields in_time
times_known (Command bus b Untagged word) h = refl
times_known (Command bus b (At t) word) h = ap (λ (n : ℕ). ltb n 10000) (micro_last t.high t.low t.micro h.2)
times_known (Status bus b Untimed word) h = refl
times_known (Status bus b (After r) word) h = ap (λ (n : ℕ). ltb n 10000) (response_last r h)
times_known (Data bus b word) h = refl
times_known (BusError bus b word) h = refl
times_known (Arinc bus c Untagged word) h = refl
times_known (Arinc bus c (At t) word) h = ap (λ (n : ℕ). ltb n 10000) (micro_last t.high t.low t.micro h.2)
times_known (Notice bus c diag) h = refl
times_known (User bus three word) h = refl
times_known (Overflow bus word) h = refl

first_many : (i : Item) → 18 ≤ (packed_of i).first_bits
unfolding packed_of item_fields
first_many (Command bus b tag word) = omega arith
first_many (Status bus b resp word) = omega arith
first_many (Data bus b word) = omega arith
first_many (BusError bus b word) = omega arith
first_many (Arinc bus c tag word) = omega arith
first_many (Notice bus c diag) = omega arith
first_many (User bus three word) = omega arith
first_many (Overflow bus word) = omega arith

-- ---- an item that stands in a log has them so

abbrev Narrowed : Next → Type 0
Narrowed ends = Unit {0}
Narrowed (has i q) = (bus_of_item i < 16) × TimesNarrow i
Narrowed wrong = Unit {0}

module _ (log : List ℕ) (p : ℕ) where
  abbrev s : List ℕ
  s = bytes_bits log

  low : (q n : ℕ) → q + n ≤ length (bytes_bits log) → field (bytes_bits log) q n < 2 ^ n
  low q n h = field_low (bytes_bits log) (bytes_low log) q n h

  either : (b : Bool) (x y : Next) → Narrowed x → Narrowed y → Narrowed (cond b x y)
  either true x y a b = a
  either false x y a b = b

  there : (e : ℕ) (x : Next) → (e ≤ length s → Narrowed x) → Narrowed (if_there s e x)
  there e x g = go (leb e (length s)) refl
    where
      go : (b : Bool) → leb e (length s) ≡ b → Narrowed (cond b x wrong)
      go true b = g (leb-true _ _ b)
      go false b = tt

  with_tag : (b : Bool) (r : ℕ) (item : Tag → Item) → Narrowed (has (item Untagged) r) → ((t : Time) → TagNarrow (At t) → Narrowed (has (item (At t)) (r + 46)))
      → Narrowed (tagged s b r item)
  with_tag false r item g h = g
  with_tag true r item g h = there (r + 46) _ (λ k. h _ (low r 16 (omega arith), low (r + 16) 16 (omega arith), low (r + 32) 14 (omega arith)))

  with_response : (b : Bool) (r : ℕ) (item : Response → Item) → Narrowed (has (item Untimed) r) → ((t : ℕ) → t < 16384 → Narrowed (has (item (After t)) (r + 14)))
      → Narrowed (timed s b r item)
  with_response false r item g h = g
  with_response true r item g h = there (r + 14) _ (λ k. h _ (low r 14 (omega arith)))

  of_kind : (k : ℕ) → Narrowed (item_at s p k)
  unfolding item_at bus_of_item
  of_kind k =
      either (eqb k 1) _ _ (there (p + 26) _ (λ h. with_tag (flag s (p + 9)) (p + 26) _ (low (p + 4) 4 (omega arith), tt) (λ t z. (low (p + 4) 4 (omega arith), z))))
      (either (eqb k 2) _ _ (there (p + 26) _ (λ h. with_response (flag s (p + 9)) (p + 26) _ (low (p + 4) 4 (omega arith), tt) (λ t z. (low (p + 4) 4 (omega arith), z))))
      (either (eqb k 3) _ _ (there (p + 25) _ (λ h. (low (p + 4) 4 (omega arith), tt)))
      (either (eqb k 4) _ _ (there (p + 25) _ (λ h. (low (p + 4) 4 (omega arith), tt)))
      (either (eqb k 5) _ _ (there (p + 43) _ (λ h. with_tag (flag s (p + 10)) (p + 43) _ (low (p + 4) 4 (omega arith), tt) (λ t z. (low (p + 4) 4 (omega arith), z))))
      (either (eqb k 6) _ _ (there (p + 18) _ (λ h. (low (p + 4) 4 (omega arith), tt)))
      (either (eqb k 7) _ _ (there (p + 25) _ (λ h. (low (p + 4) 4 (omega arith), tt)))
      (either (eqb k 8) _ _ (there (p + 24) _ (λ h. (low (p + 4) 4 (omega arith), tt))) tt)))))))

  narrowed : Narrowed (next_at s p)
  unfolding next_at
  narrowed =
      there (p + 4) _ (λ h. either (eqb (field s p 4) 0) (end_at s p) (item_at s p (field s p 4))
      (either (ltb (length s) (p + 12) && eqb (num_of (drop (p + 4) s)) 0) ends wrong tt tt) (of_kind (field s p 4)))

-- ---- what the code found

-- the item whose numbers were found at a place
pub record Holds (log : List ℕ) (p : ℕ) (k : Packed) : Type 0 where
  pub item : Item
  pub next : ℕ
  pub stands : next_at (bytes_bits log) p ≡ has item next
  pub is : k ≡ packed_of item
  pub says : Says item k
  pub bus : bus_in k ≡ bus_of_item item
  pub times : times_in k ≡ in_time item
  pub narrow : TimesNarrow item
  pub many : 18 ≤ k.first_bits
  pub long : length (item_bits item) ≡ k.first_bits + k.behind_bits

same_whole : {k m : Packed} → Whole k ≡ Whole m → k ≡ m
same_whole e = cc

no_whole_end : {A : Type 0} {k : Packed} → End ≡ Whole k → A
no_whole_end e = let z : ◌≡◌ {A = ℕ} 0 1 = cc in absurd (omega arith)

no_whole_wrong : {A : Type 0} {k : Packed} → Wrong ≡ Whole k → A
no_whole_wrong e = let z : ◌≡◌ {A = ℕ} 0 1 = cc in absurd (omega arith)

says_long : (i : Item) (k : Packed) → Says i k → length (item_bits i) ≡ k.first_bits + k.behind_bits
says_long i k s =
    ap length s.bits ∙ length-append (bits_of k.first_bits k.first) (bits_of k.behind_bits k.behind)
    ∙ rw (length_bits k.first_bits k.first, length_bits k.behind_bits k.behind)

pub holds : (log : List ℕ) (p : ℕ) (r : Piece) (k : Packed) → r ≡ piece_of (next_at (bytes_bits log) p) → r ≡ Whole k → Holds log p k
holds log p r k e g = go (next_at (bytes_bits log) p) refl (narrowed log p) (sym e ∙ g)
  where
    go : (x : Next) → next_at (bytes_bits log) p ≡ x → Narrowed x → piece_of x ≡ Whole k → Holds log p k
    go ends n z h = no_whole_end h
    go wrong n z h = no_whole_wrong h
    go (has i q) n z h =
        let w : k ≡ packed_of i = sym (same_whole h) in
        let y : Says i k = rw w (packed_says i) in
        record {
          item = i;
          next = q;
          stands = n;
          is = w;
          says = y;
          bus = rw w (bus_known i z.0);
          times = rw w (times_known i z.1);
          narrow = z.1;
          many = rw w (first_many i);
          long = says_long i k y;
        }

pub ends_there : (x : Next) → piece_of x ≡ End → x ≡ ends
ends_there ends e = refl
ends_there wrong e = let z : ◌≡◌ {A = ℕ} 0 1 = cc in absurd (omega arith)
ends_there (has i q) e = no_whole_end (sym e)

pub wrong_there : (x : Next) → piece_of x ≡ Wrong → x ≡ wrong
wrong_there wrong e = refl
wrong_there ends e = let z : ◌≡◌ {A = ℕ} 0 1 = cc in absurd (omega arith)
wrong_there (has i q) e = no_whole_wrong (sym e)
