-- The words of lawful items read as those items.
use Rattle.std.specs.Prelude.{ℕ, zero, suc, ◌+◌, ◌*◌, ◌/◌, ◌%◌, ◌^◌, ◌<◌, Bool, true, false, cond, ◌≡◌, refl, eqb}
use Rattle.std.proofs.Common.{arith, ap, sym, ◌∙◌, lt-ltb, eq-eqb, ne_eqb}
use mathlib.Core.List.{List, [], ◌∷◌, ◌++◌, flat_map, append_assoc}
use Rattle.format.specs.Plan.{kind_on}
use Rattle.format.specs.Item.{stands_on, bus_of_item, sided, high_label, low_label, channel_of, item_parts, tag_parts}
use Rattle.format.specs.Reader.{Fed, bad, fed, feed, starts, with_tag, after, base_bus}
use Rattle.format.specs.Lists.{All, nil, cons}
use Rattle.format.specs.Lawful.{Lawful}
use Rattle.format.specs.Word.{Part, part}
use Rattle.format.proofs.Laws.Reader.Reads.{whole, reads}
use Rattle.format.specs.Laws.Tests.{clash}
use Rattle.format.specs.declared.Kind.{Kind}
use Rattle.format.specs.declared.Kind.TheVariants.{Unused, Mil1553, Arinc429}
use Rattle.format.specs.declared.Time.{Time}
use Rattle.format.specs.declared.Tag.TheVariants.{Untagged, At}
use Rattle.format.specs.declared.Response.TheVariants.{Untimed, After}
use Rattle.format.specs.declared.Item.{Item}
use Rattle.format.specs.declared.Item.TheVariants.{Command, Status, Data, BusError, Arinc, Notice, User, Overflow}
use Rattle.format.specs.declared.Base.{Base}
use Rattle.format.specs.declared.Base.TheVariants as base
use Rattle.format.specs.declared.Held.{Held}
use Rattle.format.specs.declared.Held.TheVariants.{Nothing, Taggable, Half, TagHigh, TagLow, Answering}

-- what may be held between two items, and the item that it is
pub data Quiet : Held → Type 0 where
  none : Quiet Nothing
  some : (x : Base) → Quiet (Taggable x)

abbrev pub flush : Held → List Item
flush Nothing = []
flush (Taggable x) = with_tag x Untagged ∷ []
flush (Half bus c high) = []
flush (TagHigh x high) = []
flush (TagLow x high low) = []
flush (Answering bus r) = []

abbrev pub behind : List Item → Fed → Fed
behind is bad = bad
behind is (fed js h) = fed (is ++ js) h

behind_none : (f : Fed) → f ≡ behind [] f
behind_none bad = refl
behind_none (fed is h) = refl

behind_one : (i : Item) (f : Fed) → after i f ≡ behind (i ∷ []) f
behind_one i bad = refl
behind_one i (fed is h) = refl

-- between two items a word that is no high time starts an item
feed_quiet : (ks : List Kind) {h : Held} → Quiet h → (bus label info : ℕ) → eqb label 7 ≡ false
    → feed ks h bus label info ≡ behind (flush h) (starts (kind_on ks bus) bus label info)
unfolding feed
feed_quiet ks none bus label info e = behind_none (starts (kind_on ks bus) bus label info)
feed_quiet ks (some x) bus label info e = rw e (behind_one (with_tag x Untagged) (starts (kind_on ks bus) bus label info))

-- what follows is read as `is` from every quiet state
abbrev pub Follows : List Kind → List Part → List Item → Type 0
Follows ks xs is = (h : Held) → Quiet h → reads ks h xs ≡ whole (flush h ++ is)

-- a word that starts with what is finished at once and what is then held
start_back : (ks : List Kind) {h : Held} → Quiet h → (k : Kind) (bus label info : ℕ) → kind_on ks bus ≡ k → eqb label 7 ≡ false
    → (js : List Item) (h' : Held) → starts k bus label info ≡ fed js h'
    → (xs : List Part) (is : List Item) → reads ks h' xs ≡ whole is → reads ks h (part bus label info ∷ xs) ≡ whole (flush h ++ (js ++ is))
unfolding reads
start_back ks {h} q k bus label info e t js h' s xs is r =
    rw (feed_quiet ks q bus label info t, e, s, r) (ap whole (append_assoc (flush h) js is))

-- a tag after what it may be put on
tag_back : (ks : List Kind) (x : Base) (t : Time) → t.micro < 10000 → (xs : List Part) (is : List Item) → Follows ks xs is
    → reads ks (Taggable x) (tag_parts (base_bus x) (At t) ++ xs) ≡ whole (with_tag x (At t) ∷ is)
unfolding reads feed
tag_back ks x t m xs is f = simp (eq-eqb (base_bus x) (base_bus x) refl, lt-ltb _ _ m, f Nothing none)

kind_mil : (k : Kind) (i : Item) → stands_on i Arinc429 ≡ false → stands_on i k ≡ true → k ≡ Mil1553
unfolding stands_on
kind_mil Unused i n e = clash e
kind_mil Mil1553 i n e = refl
kind_mil Arinc429 i n e = clash (sym n ∙ e)

kind_arinc : (k : Kind) (i : Item) → stands_on i Mil1553 ≡ false → stands_on i k ≡ true → k ≡ Arinc429
unfolding stands_on
kind_arinc Unused i n e = clash e
kind_arinc Mil1553 i n e = clash (sym n ∙ e)
kind_arinc Arinc429 i n e = refl

-- an item that one word is
alone_back : (ks : List Kind) {h : Held} → Quiet h → (k : Kind) (bus label info : ℕ) → kind_on ks bus ≡ k → eqb label 7 ≡ false
    → (i : Item) → starts k bus label info ≡ fed (i ∷ []) Nothing
    → (xs : List Part) (is : List Item) → Follows ks xs is → reads ks h (part bus label info ∷ xs) ≡ whole (flush h ++ i ∷ is)
alone_back ks q k bus label info e t i s xs is f = start_back ks q k bus label info e t (i ∷ []) Nothing s xs is (f Nothing none)

-- a status after its response time
status_back : (ks : List Kind) (bus r : ℕ) (b : Bool) (word : ℕ) (xs : List Part) (is : List Item) → Follows ks xs is
    → reads ks (Answering bus r) (part bus (sided 14 b) word ∷ xs) ≡ whole (Status bus b (After r) word ∷ is)
unfolding reads feed
status_back ks bus r false word xs is f = simp (eq-eqb bus bus refl, f Nothing none)
status_back ks bus r true word xs is f = simp (eq-eqb bus bus refl, f Nothing none)

-- a channel's high label is its own
channel_back : (c : ℕ) → c < 4 → channel_of (high_label c) ≡ c
channel_back zero h = refl
channel_back (suc zero) h = refl
channel_back (suc (suc zero)) h = refl
channel_back (suc (suc (suc zero))) h = refl
channel_back (suc (suc (suc (suc c)))) h = absurd (omega arith)

-- the two syllables of an ARINC word
half_starts : (bus c info : ℕ) → c < 4 → starts Arinc429 bus (high_label c) info ≡ fed [] (Half bus c info)
unfolding starts
half_starts bus c info h = rw (channel_back c h, lt-ltb c 4 h)

half_back : (ks : List Kind) (bus c word : ℕ) (xs : List Part) (is : List Item) → reads ks (Taggable (base.Arinc bus c word)) xs ≡ whole is
    → reads ks (Half bus c (word / 2 ^ 16)) (part bus (low_label c) (word % 2 ^ 16) ∷ xs) ≡ whole is
unfolding reads feed
half_back ks bus c word xs is r =
    let e : word / 2 ^ 16 * 2 ^ 16 + word % 2 ^ 16 ≡ word = omega arith in
    rw (eq-eqb bus bus refl, eq-eqb (low_label c) (low_label c) refl, e, r) refl

arinc_back : (ks : List Kind) {h : Held} → Quiet h → (bus c word : ℕ) → c < 4 → kind_on ks bus ≡ Arinc429 → (xs : List Part) (is : List Item)
    → reads ks (Taggable (base.Arinc bus c word)) xs ≡ whole is
    → reads ks h (part bus (high_label c) (word / 2 ^ 16) ∷ part bus (low_label c) (word % 2 ^ 16) ∷ xs) ≡ whole (flush h ++ is)
arinc_back ks q bus c word l e xs is r =
    start_back ks q Arinc429 bus (high_label c) (word / 2 ^ 16) e (ne_eqb (high_label c) 7 (λ (z : high_label c ≡ 7). omega arith)) [] _
    (half_starts bus c (word / 2 ^ 16) l) _ is (half_back ks bus c word xs is r)

notice_starts : (bus c diag : ℕ) → c < 4 → diag < 2 ^ 8
    → starts Arinc429 bus 4 (high_label c * 2 ^ 12 + low_label c * 2 ^ 8 + diag) ≡ fed (Notice bus c diag ∷ []) Nothing
unfolding starts
notice_starts bus c diag h l =
    let n : ℕ = high_label c * 2 ^ 12 + low_label c * 2 ^ 8 + diag in
    let e1 : n / 2 ^ 12 ≡ high_label c = omega arith in
    let e2 : n / 2 ^ 8 % 16 ≡ low_label c = omega arith in
    let e3 : n % 2 ^ 8 ≡ diag = omega arith in
    rw (e1, e2, e3, channel_back c h, lt-ltb c 4 h, eq-eqb (low_label c) (low_label c) refl)

user_starts : (k : Kind) (bus : ℕ) (three : Bool) (word : ℕ) → stands_on (User bus three word) k ≡ true
    → starts k bus (cond three 3 2) word ≡ fed (User bus three word ∷ []) Nothing
unfolding starts stands_on
user_starts Unused bus three word e = clash e
user_starts Mil1553 bus true word e = refl
user_starts Mil1553 bus false word e = refl
user_starts Arinc429 bus true word e = refl
user_starts Arinc429 bus false word e = refl

overflow_starts : (k : Kind) (bus word : ℕ) → stands_on (Overflow bus word) k ≡ true → starts k bus 0 word ≡ fed (Overflow bus word ∷ []) Nothing
unfolding starts stands_on
overflow_starts Unused bus word e = clash e
overflow_starts Mil1553 bus word e = refl
overflow_starts Arinc429 bus word e = refl

item_back : (ks : List Kind) (i : Item) → Lawful ks i → (xs : List Part) (is : List Item) → Follows ks xs is → Follows ks (item_parts i ++ xs) (i ∷ is)
unfolding starts stands_on bus_of_item
item_back ks (Command bus false Untagged word) w xs is f h q =
    start_back ks q Mil1553 bus 15 word (kind_mil _ (Command bus false Untagged word) refl w.stands) refl [] (Taggable (base.Command bus false word)) refl xs _ (f _ (some _))
item_back ks (Command bus true Untagged word) w xs is f h q =
    start_back ks q Mil1553 bus 11 word (kind_mil _ (Command bus true Untagged word) refl w.stands) refl [] (Taggable (base.Command bus true word)) refl xs _ (f _ (some _))
item_back ks (Command bus false (At t) word) w xs is f h q =
    start_back ks q Mil1553 bus 15 word (kind_mil _ (Command bus false (At t) word) refl w.stands) refl [] (Taggable (base.Command bus false word)) refl _ _
    (tag_back ks (base.Command bus false word) t w.sized.1.2 xs is f)
item_back ks (Command bus true (At t) word) w xs is f h q =
    start_back ks q Mil1553 bus 11 word (kind_mil _ (Command bus true (At t) word) refl w.stands) refl [] (Taggable (base.Command bus true word)) refl _ _
    (tag_back ks (base.Command bus true word) t w.sized.1.2 xs is f)
item_back ks (Status bus false Untimed word) w xs is f h q = alone_back ks q Mil1553 bus 14 word (kind_mil _ (Status bus false Untimed word) refl w.stands) refl _ refl xs is f
item_back ks (Status bus true Untimed word) w xs is f h q = alone_back ks q Mil1553 bus 10 word (kind_mil _ (Status bus true Untimed word) refl w.stands) refl _ refl xs is f
item_back ks (Status bus b (After r) word) w xs is f h q =
    start_back ks q Mil1553 bus 4 r (kind_mil _ (Status bus b (After r) word) refl w.stands) refl [] (Answering bus r) (rw (lt-ltb r 10000 w.sized.1)) _ _
    (status_back ks bus r b word xs is f)
item_back ks (Data bus false word) w xs is f h q = alone_back ks q Mil1553 bus 13 word (kind_mil _ (Data bus false word) refl w.stands) refl _ refl xs is f
item_back ks (Data bus true word) w xs is f h q = alone_back ks q Mil1553 bus 9 word (kind_mil _ (Data bus true word) refl w.stands) refl _ refl xs is f
item_back ks (BusError bus false word) w xs is f h q = alone_back ks q Mil1553 bus 12 word (kind_mil _ (BusError bus false word) refl w.stands) refl _ refl xs is f
item_back ks (BusError bus true word) w xs is f h q = alone_back ks q Mil1553 bus 8 word (kind_mil _ (BusError bus true word) refl w.stands) refl _ refl xs is f
item_back ks (Arinc bus c Untagged word) w xs is f h q = arinc_back ks q bus c word w.sized.0 (kind_arinc _ (Arinc bus c Untagged word) refl w.stands) xs _ (f _ (some _))
item_back ks (Arinc bus c (At t) word) w xs is f h q =
    arinc_back ks q bus c word w.sized.0 (kind_arinc _ (Arinc bus c (At t) word) refl w.stands) _ _ (tag_back ks (base.Arinc bus c word) t w.sized.2.2 xs is f)
item_back ks (Notice bus c diag) w xs is f h q =
    alone_back ks q Arinc429 bus 4 _ (kind_arinc _ (Notice bus c diag) refl w.stands) refl _ (notice_starts bus c diag w.sized.0 w.sized.1) xs is f
item_back ks (User bus three word) w xs is f h q =
    alone_back ks q _ bus (cond three 3 2) word refl (no7 three) _ (user_starts (kind_on ks bus) bus three word w.stands) xs is f
  where
    no7 : (t : Bool) → eqb (cond t 3 2) 7 ≡ false
    no7 true = refl
    no7 false = refl
item_back ks (Overflow bus word) w xs is f h q =
    alone_back ks q _ bus 0 word refl refl _ (overflow_starts (kind_on ks bus) bus word w.stands) xs is f

-- the words of lawful items read as the items
pub parts_back : (ks : List Kind) (is : List Item) → All (Lawful ks) is → Follows ks (flat_map item_parts is) is
unfolding reads flat_map
parts_back ks [] nil h none = refl
parts_back ks [] nil h (some x) = refl
parts_back ks (i ∷ is) (cons w ws) h q = item_back ks i w (flat_map item_parts is) is (parts_back ks is ws) h q
