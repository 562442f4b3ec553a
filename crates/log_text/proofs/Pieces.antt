-- The pieces of a line, how long they can be, and that they are the line.
use Prim.Native.Nat.{ℕ, ◌+◌, ◌*◌, ◌≤◌}
use native.Mathlib.Omega.{arith}
use mathlib.Core.Bool.{Bool, true, false, cond}
use mathlib.Core.Path.{◌≡◌, refl, ap, sym, ◌∙◌}
use mathlib.Core.List.{List, [], ◌∷◌, ◌++◌, append_assoc}
use lib.ListN.{length, length-append}
use Rattle.format.specs.Lists.{text, list}
use Rattle.format.specs.Time.{microseconds}
use Rattle.format.specs.Listing.{decimal, hex, side, tag_text, response_text, line, item_line}
use Rattle.format.specs.declared.Tag.{Tag}
use Rattle.format.specs.declared.Tag.TheVariants.{Untagged, At}
use Rattle.format.specs.declared.Response.{Response}
use Rattle.format.specs.declared.Response.TheVariants.{Untimed, After}
use Rattle.format.specs.declared.Item.{Item}
use Rattle.format.specs.declared.Item.TheVariants.{Command, Status, Data, BusError, Arinc, Notice, User, Overflow}
use Rattle.log_text.specs.Text.{Adds, named}
use Rattle.log_text.proofs.Digits.{decimal_few, hex_long}
use Rattle.log_text.proofs.Adding.{Short, short}

pub named_few : (a b c bus : ℕ) → length (named a b c bus) ≤ 25
named_few a b c bus = rw (length-append (decimal bus) (32 ∷ [])) (omega (arith, decimal_few bus))

pub side_one : (b : Bool) → length (side b) ≡ 1
unfolding text list
side_one true = refl
side_one false = refl

pub sided_few : (a b c bus : ℕ) (s : Bool) (word : ℕ) → length (named a b c bus ++ (side s ++ (32 ∷ hex 4 word))) ≤ 31
sided_few a b c bus s word =
    omega (arith, length-append (named a b c bus) (side s ++ (32 ∷ hex 4 word)), named_few a b c bus, length-append (side s) (32 ∷ hex 4 word), side_one s, hex_long 4 word)

pub channelled_few : (a b c bus n : ℕ) → length (named a b c bus ++ (decimal n ++ (32 ∷ []))) ≤ 46
channelled_few a b c bus n =
    omega (arith, length-append (named a b c bus) (decimal n ++ (32 ∷ [])), named_few a b c bus, length-append (decimal n) (32 ∷ []), decimal_few n)

pub tag_few : (t : Tag) → length (tag_text t) ≤ 24
unfolding text list
tag_few Untagged = omega arith
tag_few (At t) = omega (arith, decimal_few (microseconds t.high t.low t.micro))

pub response_few : (r : Response) → length (response_text r) ≤ 26
unfolding text list
response_few Untimed = omega arith
response_few (After r) = omega (arith, decimal_few r)

abbrev pub sided : ℕ → ℕ → ℕ → ℕ → Bool → ℕ → List ℕ
sided a b c bus s word = named a b c bus ++ (side s ++ (32 ∷ hex 4 word))

abbrev pub channelled : ℕ → ℕ → ℕ → ℕ → ℕ → List ℕ
channelled a b c bus n = named a b c bus ++ (decimal (n + 1) ++ (32 ∷ []))

-- the front of a line, put into the room

pub named_short : {d x : List ℕ} {i j : ℕ} (a b c bus : ℕ) → Adds (named a b c bus) d i x j → Short (named a b c bus) d i x j 25
named_short a b c bus f = short 25 f (named_few a b c bus)

pub sided_short : {d x : List ℕ} {i j : ℕ} (a b c bus : ℕ) (s : Bool) (word : ℕ)
    → Adds (sided a b c bus s word) d i x j → Short (sided a b c bus s word) d i x j 31
sided_short a b c bus s word f = short 31 f (sided_few a b c bus s word)

pub channelled_short : {d x : List ℕ} {i j : ℕ} (a b c bus n : ℕ) → Adds (channelled a b c bus n) d i x j → Short (channelled a b c bus n) d i x j 46
channelled_short a b c bus n f = short 46 f (channelled_few a b c bus (n + 1))

-- a line of its pieces is the item's line

pub command_is : (bus : ℕ) (b : Bool) (t : Tag) (word : ℕ) → (sided 99 109 100 bus b word ++ tag_text t) ++ (10 ∷ []) ≡ item_line (Command bus b t word)
unfolding item_line text list
command_is bus b t word = simp append_assoc

pub status_is : (bus : ℕ) (b : Bool) (r : Response) (word : ℕ) → (sided 115 116 97 bus b word ++ response_text r) ++ (10 ∷ []) ≡ item_line (Status bus b r word)
unfolding item_line text list
status_is bus b r word = simp append_assoc

pub data_is : (bus : ℕ) (b : Bool) (word : ℕ) → sided 100 97 116 bus b word ++ (10 ∷ []) ≡ item_line (Data bus b word)
unfolding item_line text list
data_is bus b word = simp append_assoc

pub error_is : (bus : ℕ) (b : Bool) (word : ℕ) → sided 101 114 114 bus b word ++ (10 ∷ []) ≡ item_line (BusError bus b word)
unfolding item_line text list
error_is bus b word = simp append_assoc

pub arinc_is : (bus c : ℕ) (t : Tag) (word : ℕ) → ((channelled 97 114 110 bus c ++ hex 8 word) ++ tag_text t) ++ (10 ∷ []) ≡ item_line (Arinc bus c t word)
unfolding item_line text list
arinc_is bus c t word = simp append_assoc

pub notice_is : (bus c d : ℕ) → (channelled 97 114 101 bus c ++ hex 2 d) ++ (10 ∷ []) ≡ item_line (Notice bus c d)
unfolding item_line text list
notice_is bus c d = simp append_assoc

pub user_is : (bus : ℕ) (three : Bool) (word x : ℕ) → x ∷ [] ≡ decimal (cond three 3 2) → ((named 117 115 114 bus ++ (x ∷ 32 ∷ [])) ++ hex 4 word) ++ (10 ∷ []) ≡ item_line (User bus three word)
unfolding item_line text list
user_is bus three word x e = rw (← e) (simp append_assoc)

pub overflow_is : (bus word : ℕ) → (named 111 118 102 bus ++ hex 4 word) ++ (10 ∷ []) ≡ item_line (Overflow bus word)
unfolding item_line text list
overflow_is bus word = simp append_assoc
