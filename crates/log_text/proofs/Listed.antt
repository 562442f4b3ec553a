-- The lines of a log that parses, item by item, and how much room they take.
use Prim.Native.Nat.{ℕ, zero, suc, ◌+◌, ◌*◌, ◌^◌, ◌≤◌, ◌<◌}
use native.Mathlib.Omega.{arith}
use mathlib.Core.Bool.{Bool, true, false, cond}
use mathlib.Core.Path.{◌≡◌, refl, ap, ap₂, sym, ◌∙◌}
use mathlib.Core.List.{List, [], ◌∷◌, ◌++◌, flat_map, append_assoc, append-nil}
use lib.ListN.{length, take, drop, get_or, length-append, length-replicate, replicate}
use lib.Dec.{eqb}
use borrow.Author.Tests.{le-ltb}
use Rattle.format.specs.Bits.{bit, bits_of, bytes_bits, packed}
use Rattle.format.specs.Item.{item_fields, item_bits}
use Rattle.format.specs.Log.{next_at, Next, has, ends, wrong, Parsed, items, fault, consed, parse_from, parse_next, parsed, on_no_plan, log_of}
use Rattle.format.specs.Lists.{text, list, All, nil, cons}
use Rattle.format.specs.Time.{microseconds}
use Rattle.format.specs.Listing.{decimal, decimal_in, hex, side, item_line, listed, listing}
use Rattle.format.specs.Laws.Bits.{length_bytes}
use Rattle.format.specs.Laws.Word.Bytes.{all_bytes}
use Rattle.format.specs.Laws.Log.Fields.{size, Narrow, packs}
use Rattle.format.specs.Laws.Log.Back.{Logged}
use Rattle.format.specs.Laws.Log.Sizes.{fields_length, items_low, bits_low}
use Rattle.format.specs.Laws.Log.Forth.{log_forth, same_items}
use Rattle.format.specs.Laws.Lists.{all_append}
use Rattle.format.specs.declared.Tag.TheVariants.{Untagged, At}
use Rattle.format.specs.declared.Response.TheVariants.{Untimed, After}
use Rattle.format.specs.declared.Item.{Item}
use Rattle.format.specs.declared.Item.TheVariants.{Command, Status, Data, BusError, Arinc, Notice, User, Overflow}
use Rattle.log_read.specs.declared.Tally.{Tally}
use Rattle.log_read.specs.declared.Tally.TheVariants.{Items, Fault}
use Rattle.log_read.specs.Tally.{tallied_of}
use Rattle.log_text.specs.Text.{Adds, items_of}
use Rattle.log_text.proofs.Adding.{adds_then, adds_none, adds_long, adds_same}
use Rattle.log_text.proofs.Digits.{decimal_two, decimal_few, hex_long}
use Rattle.log_text.proofs.Pieces.{side_one, tag_few, response_few}

-- ---- a line has no more bytes than its item has bits

line_fits : (i : Item) → Narrow (item_fields i) → length (item_line i) ≤ size (item_fields i)
unfolding item_fields item_line text list
line_fits (Command bus b Untagged word) z = simp length-append (omega (arith, decimal_two bus (omega arith), side_one b, hex_long 4 word))
line_fits (Command bus b (At t) word) z = simp length-append (omega (arith, decimal_two bus (omega arith), side_one b, hex_long 4 word, decimal_few (microseconds t.high t.low t.micro)))
line_fits (Status bus b Untimed word) z = simp length-append (omega (arith, decimal_two bus (omega arith), side_one b, hex_long 4 word))
line_fits (Status bus b (After r) word) z = simp length-append (omega (arith, decimal_two bus (omega arith), side_one b, hex_long 4 word, decimal_few r))
line_fits (Data bus b word) z = simp length-append (omega (arith, decimal_two bus (omega arith), side_one b, hex_long 4 word))
line_fits (BusError bus b word) z = simp length-append (omega (arith, decimal_two bus (omega arith), side_one b, hex_long 4 word))
line_fits (Arinc bus c Untagged word) z = simp length-append (omega (arith, decimal_two bus (omega arith), decimal_two (c + 1) (omega arith), hex_long 8 word))
line_fits (Arinc bus c (At t) word) z = simp length-append (omega (arith, decimal_two bus (omega arith), decimal_two (c + 1) (omega arith), hex_long 8 word, decimal_few (microseconds t.high t.low t.micro)))
line_fits (Notice bus c d) z = simp length-append (omega (arith, decimal_two bus (omega arith), decimal_two (c + 1) (omega arith), hex_long 2 d))
line_fits (User bus three word) z = simp length-append (omega (arith, decimal_two bus (omega arith), label_two three, hex_long 4 word))
  where
    label_two : (t : Bool) → length (decimal (cond t 3 2)) ≤ 2
    label_two true = decimal_two 3 (omega arith)
    label_two false = decimal_two 2 (omega arith)
line_fits (Overflow bus word) z = simp length-append (omega (arith, decimal_two bus (omega arith), hex_long 4 word))

lines_fit : (is : List Item) → All (Logged on_no_plan) is → length (flat_map item_line is) ≤ length (flat_map item_bits is)
unfolding flat_map item_bits
lines_fit [] nil = omega arith
lines_fit (i ∷ is) (cons w ws) =
    omega (arith, length-append (item_line i) (flat_map item_line is), length-append (item_bits i) (flat_map item_bits is), line_fits i w.narrow, fields_length (item_fields i), lines_fit is ws)

-- a log that parses, and its text, are short enough
pub good : (log : List ℕ) (is : List Item) → ((i : ℕ) → get_or log i 0 < 256) → parsed on_no_plan log ≡ items is → (length log ≤ 32768) × (length (flat_map item_line is) ≤ 262144)
unfolding log_of
good log is low e =
    let f = log_forth on_no_plan log is (all_bytes log low) e in
    let bs = flat_map item_bits is ++ bits_of 4 0 in
    let k = packs bs (all_append (items_low is) (bits_low 4 0)) in
    let l1 : length (packed bs) * 8 ≡ length (bs ++ replicate k.more 0) = sym (length_bytes (packed bs)) ∙ ap length k.bits in
    (f.2, omega (arith, l1, length-append bs (replicate k.more 0), length-append (flat_map item_bits is) (bits_of 4 0), ap length f.0, lines_fit is f.1))

-- ---- item by item

-- what is left of a parsed log behind its first item
record Behind (s : List ℕ) (i : Item) (q : ℕ) (js : List Item) : Type 0 where
  fuel : ℕ
  rest : List Item
  left : parse_from fuel on_no_plan s q ≡ items rest
  first : js ≡ i ∷ rest

no_items : (n p : ℕ) (js : List Item) → fault n p ≡ items js → ⊥
no_items n p js e = let z : ◌≡◌ {A = ℕ} 0 1 = cc in omega arith

behind : (s : List ℕ) (f p : ℕ) (i : Item) (q : ℕ) (js : List Item) → next_at s p ≡ has i q → parse_from f on_no_plan s p ≡ items js → Behind s i q js
unfolding parse_from
behind s zero p i q js n e = absurd (no_items 2 p js e)
behind s (suc f) p i q js n e = go (eqb (on_no_plan i) 0) (rw n at e)
  where
    more : (r : Parsed) → parse_from f on_no_plan s q ≡ r → consed i r ≡ items js → Behind s i q js
    more (fault k m) g h = absurd (no_items k m js h)
    more (items ks) g h = record { fuel = f; rest = ks; left = g; first = sym (same_items h) }

    go : (b : Bool) → cond b (consed i (parse_from f on_no_plan s q)) (fault (on_no_plan i) p) ≡ items js → Behind s i q js
    go true h = more (parse_from f on_no_plan s q) refl h
    go false h = absurd (no_items (on_no_plan i) p js h)

over : (s : List ℕ) (f p : ℕ) (js : List Item) → next_at s p ≡ ends → parse_from f on_no_plan s p ≡ items js → js ≡ []
unfolding parse_from
over s zero p js n e = absurd (no_items 2 p js e)
over s (suc f) p js n e = same_items (sym (rw n at e))

never : (s : List ℕ) (f p : ℕ) (js : List Item) → next_at s p ≡ wrong → parse_from f on_no_plan s p ≡ items js → ⊥
unfolding parse_from
never s zero p js n e = no_items 2 p js e
never s (suc f) p js n e = no_items 2 p js (rw n at e)

-- some lines are put, and `rest` are the items from p on
pub record Doing (log whole d : List ℕ) (p : ℕ) (out : List ℕ) (at : ℕ) : Type 0 where
  pub fuel : ℕ
  pub rest : List Item
  pub said : List ℕ
  pub left : parse_from fuel on_no_plan (bytes_bits log) p ≡ items rest
  pub adds : Adds said d 0 out at
  pub whole_is : whole ≡ said ++ flat_map item_line rest

parsed_is : (log : List ℕ) → length log ≤ 32768 → parsed on_no_plan log ≡ parse_from (length log + 1) on_no_plan (bytes_bits log) 0
unfolding parsed
parsed_is log h = rw (le-ltb 32768 (length log) h)

pub doing_start : (log d : List ℕ) → length log ≤ 32768 → parsed on_no_plan log ≡ items (items_of (parsed on_no_plan log)) → Doing log (flat_map item_line (items_of (parsed on_no_plan log))) d 0 d 0
doing_start log d h e = record {
  fuel = length log + 1;
  rest = items_of (parsed on_no_plan log);
  said = [];
  left = sym (parsed_is log h) ∙ e;
  adds = adds_none d 0 (omega arith);
  whole_is = refl;
}

pub doing_more : {log whole d out y : List ℕ} {p at n : ℕ} (i : Item) (q : ℕ) → Doing log whole d p out at → next_at (bytes_bits log) p ≡ has i q → Adds (item_line i) out at y n → Doing log whole d q y n
unfolding flat_map
doing_more {log} {whole} {d} {out} {y} {p} i q w e f =
    let b = behind (bytes_bits log) w.fuel p i q w.rest e w.left in
    record {
      fuel = b.fuel;
      rest = b.rest;
      said = w.said ++ item_line i;
      left = b.left;
      adds = adds_then w.adds f;
      whole_is = w.whole_is ∙ ap (λ (l : List Item). w.said ++ flat_map item_line l) b.first ∙ sym (append_assoc w.said (item_line i) (flat_map item_line b.rest));
    }

pub doing_over : {log whole d out : List ℕ} {p at : ℕ} → Doing log whole d p out at → next_at (bytes_bits log) p ≡ ends → Adds whole d 0 out at
unfolding flat_map
doing_over {log} {whole} {d} {out} {p} {at} w e =
    let z : w.rest ≡ [] = over (bytes_bits log) w.fuel p w.rest e w.left in
    adds_same w.adds (sym (w.whole_is ∙ ap (λ (l : List Item). w.said ++ flat_map item_line l) z ∙ append-nil w.said))

pub doing_never : {log whole d out : List ℕ} {p at : ℕ} → Doing log whole d p out at → next_at (bytes_bits log) p ≡ wrong → ⊥
doing_never {log} {p = p} w e = never (bytes_bits log) w.fuel p w.rest e w.left

-- there is room for another line
pub doing_room : {log whole d out : List ℕ} {p at : ℕ} → Doing log whole d p out at → length whole ≤ 262144 → 262300 ≤ length d → at + 80 ≤ length out
doing_room w h g = omega (arith, ap length w.whole_is, length-append w.said (flat_map item_line w.rest), w.adds.end, adds_long w.adds)

-- ---- the whole text

pub tallied : (log : List ℕ) (t : Tally) (n w : ℕ) → t ≡ tallied_of (parsed on_no_plan log) → t ≡ Items n w
    → (parsed on_no_plan log ≡ items (items_of (parsed on_no_plan log))) × (n ≡ length (items_of (parsed on_no_plan log)))
tallied log t n w e g = go (parsed on_no_plan log) (sym g ∙ e)
  where
    go : (r : Parsed) → Items n w ≡ tallied_of r → (r ≡ items (items_of r)) × (n ≡ length (items_of r))
    go (items is) h = (refl, cc)
    go (fault k p) h = let z : ◌≡◌ {A = ℕ} 0 1 = cc in absurd (omega arith)

pub refused : (log : List ℕ) (t : Tally) (k p : ℕ) → t ≡ tallied_of (parsed on_no_plan log) → t ≡ Fault k p → parsed on_no_plan log ≡ fault k p
refused log t k p e g = go (parsed on_no_plan log) (sym g ∙ e)
  where
    go : (r : Parsed) → Fault k p ≡ tallied_of r → r ≡ fault k p
    go (items is) h = let z : ◌≡◌ {A = ℕ} 0 1 = cc in absurd (omega arith)
    go (fault j q) h = cc

pub listing_items : (log : List ℕ) (n : ℕ) → parsed on_no_plan log ≡ items (items_of (parsed on_no_plan log)) → n ≡ length (items_of (parsed on_no_plan log))
    → flat_map item_line (items_of (parsed on_no_plan log)) ++ (text "end " ++ (decimal n ++ text "\n")) ≡ listing log
unfolding listing
listing_items log n e h = rw h (sym (ap listed e))

pub listing_refused : (log : List ℕ) (k p : ℕ) → parsed on_no_plan log ≡ fault k p → text "refused " ++ (decimal k ++ (text " at " ++ (decimal p ++ text "\n"))) ≡ listing log
unfolding listing
listing_refused log k p e = sym (ap listed e)
