-- What code goes by that reads a group from its own bytes, with places that begin at 0, and builds the log behind bits that are left over.
use Rattle.std.specs.Prelude.{ℕ, zero, suc, ◌+◌, ◌*◌, ◌/◌, ◌%◌, ◌^◌, ◌≤◌, ◌<◌, Bool, true, false, cond, ◌≡◌, refl, List, [], ◌∷◌, ◌++◌, map, length, eqb}
use Rattle.std.proofs.Common.{arith, ap, sym, ◌∙◌, ap₂, append_assoc, ne_eqb}
use Rattle.format.specs.Bits.{bits_of, bytes_bits, num_of, num_from}
use Rattle.format.specs.Word.{word_at}
use Rattle.format.specs.Plan.{slots, lead, group_words, place_of}
use Rattle.format.specs.Lists.{All, nil, cons, list, Bytes}
use Rattle.format.specs.Reader.{Slot, run}
use Rattle.format.specs.Group.{group_slots}
use Rattle.stream_rules.specs.Stream.{whole_bytes, rest_bits, slots_at, take_group, group_size, Working, working, Flow, flowed, taken, feed_bytes}
use Rattle.format.specs.Laws.Bits.{length_bits}
use Rattle.format.specs.Laws.Log.Fields.{num_bits}
use Rattle.stream_rules.specs.Laws.Stream.Feed.{feed_append, feed_group}
use Rattle.stream_rules.specs.Laws.Stream.Bits.{whole_append, rest_append, whole_none}
use Rattle.format.specs.declared.Kind.{Kind}
use Rattle.format.specs.declared.Plan.{Plan}
use Rattle.format.specs.declared.Held.{Held}
use Rattle.format.proofs.Laws.Reader.Named.{named, renamed, run_named}

-- ---- a place in the group's own bytes, and in the capture: 0, which no data word has, stands for the first word of what was held before

abbrev pub from_group : ℕ → ℕ → ℕ → ℕ
from_group at since q = cond (eqb q 0) since (at + q)

abbrev slot : ℕ → ℕ → Slot
slot q w = (q, w)

slots_own : (p : Plan) (v : List ℕ) (at since m a : ℕ)
    → list {A = Slot} (λ s. (at + place_of p s, word_at v (place_of p s))) a m ≡ map (named (from_group at since)) (list {A = Slot} (λ s. (0 + place_of p s, word_at v (0 + place_of p s))) a m)
unfolding list place_of
slots_own p v at since zero a = refl
slots_own p v at since (suc m) a =
    let z : 0 + (a % p.tracks * p.words + a / p.tracks + 1) ≡ a % p.tracks * p.words + a / p.tracks + 1 = omega arith in
    let n : eqb (a % p.tracks * p.words + a / p.tracks + 1) 0 ≡ false = ne_eqb _ 0 (λ (e : a % p.tracks * p.words + a / p.tracks + 1 ≡ 0). omega (arith, e)) in
    rw (z, n) (ap (λ (l : List Slot). slot (at + (a % p.tracks * p.words + a / p.tracks + 1)) (word_at v (a % p.tracks * p.words + a / p.tracks + 1)) ∷ l) (slots_own p v at since m (a + 1)))

-- the run that a group asks for, from the run over its own bytes with 0 for the first word of what is held
pub run_own : (ks : List Kind) (p : Plan) (v : List ℕ) (at since : ℕ) (h : Held)
    → run ks p.parity (slots_at p v at) h since ≡ renamed (from_group at since) (run ks p.parity (group_slots p v 0) h 0)
unfolding slots_at group_slots
run_own ks p v at since h =
    ap (λ (l : List Slot). run ks p.parity l h since) (slots_own p v at since (slots p) (lead p))
    ∙ run_named ks p.parity (from_group at since) (list (λ s. (0 + place_of p s, word_at v (0 + place_of p s))) (lead p) (slots p)) h 0

-- ---- bits that are bytes and fewer than eight bits

byte_back : (b : ℕ) → b < 256 → num_of (bits_of 8 b) ≡ b
unfolding num_of
byte_back b h = num_bits 0 8 b ∙ omega (arith, h)

one_byte : (b : ℕ) (xs : List ℕ) → b < 256 → (whole_bytes (bits_of 8 b ++ xs) ≡ b ∷ whole_bytes xs) × (rest_bits (bits_of 8 b ++ xs) ≡ rest_bits xs)
unfolding whole_bytes rest_bits bits_of
one_byte b xs h = (ap (λ (n : ℕ). n ∷ whole_bytes xs) (byte_back b h), refl)

pub whole_back : (bytes xs : List ℕ) → Bytes bytes → length xs < 8 → (whole_bytes (bytes_bits bytes ++ xs) ≡ bytes) × (rest_bits (bytes_bits bytes ++ xs) ≡ rest_bits xs)
unfolding bytes_bits
whole_back [] xs nil h = (whole_none xs h, refl)
whole_back (b ∷ bs) xs (cons l ls) h =
    let o = one_byte b (bytes_bits bs ++ xs) l in
    let i = whole_back bs xs ls h in
    let e = append_assoc (bits_of 8 b) (bytes_bits bs) xs in
    (ap whole_bytes e ∙ o.0 ∙ ap (λ (l : List ℕ). b ∷ l) i.0, ap rest_bits e ∙ o.1 ∙ i.1)

pub rest_back : (xs : List ℕ) → length xs < 8 → rest_bits xs ≡ xs
unfolding rest_bits
rest_back [] l = refl
rest_back (a ∷ []) l = refl
rest_back (a ∷ b ∷ []) l = refl
rest_back (a ∷ b ∷ c ∷ []) l = refl
rest_back (a ∷ b ∷ c ∷ d ∷ []) l = refl
rest_back (a ∷ b ∷ c ∷ d ∷ e ∷ []) l = refl
rest_back (a ∷ b ∷ c ∷ d ∷ e ∷ f ∷ []) l = refl
rest_back (a ∷ b ∷ c ∷ d ∷ e ∷ f ∷ g ∷ []) l = refl
rest_back (a ∷ b ∷ c ∷ d ∷ e ∷ f ∷ g ∷ h ∷ rest) l = absurd (omega arith)

-- as a pen has them: the bytes written, and its last bits
pub pen_parts : (bits bytes : List ℕ) (n last : ℕ) → Bytes bytes → n < 8 → bits ≡ bytes_bits bytes ++ bits_of n last
    → (whole_bytes bits ≡ bytes) × (rest_bits bits ≡ bits_of n last)
pen_parts bits bytes n last small h e =
    let s : length (bits_of n last) < 8 = rw (length_bits n last) h in
    let w = whole_back bytes (bits_of n last) small s in
    (ap whole_bytes e ∙ w.0, ap rest_bits e ∙ w.1 ∙ rest_back (bits_of n last) s)

-- ---- a call by groups

-- the bytes that fill the group that waits, and those behind them
pub feed_step : (w : Working) (a y : List ℕ) → 1 ≤ length a → length w.waiting + length a ≡ group_size w.plan
    → feed_bytes (working w) (a ++ y)
    ≡ flowed (taken w (w.waiting ++ a) (take_group w.plan w.kinds (w.waiting ++ a) w.groups w.carry))
    (feed_bytes (taken w (w.waiting ++ a) (take_group w.plan w.kinds (w.waiting ++ a) w.groups w.carry)).state y)
feed_step w [] y s e = absurd (omega (arith, s))
feed_step w (b ∷ bs) y s e =
    feed_append (working w) (b ∷ bs) y ∙ ap (λ (f : Flow). flowed f (feed_bytes f.state y)) (feed_group w b bs e)

-- the bits of two groups, one after the other, fill the bytes that they fill together, and leave the same bits
pub log_joins : (bits one two : List ℕ) → whole_bytes (bits ++ one) ++ whole_bytes (rest_bits (bits ++ one) ++ two) ≡ whole_bytes (bits ++ (one ++ two))
log_joins bits one two = sym (whole_append (bits ++ one) two) ∙ ap whole_bytes (append_assoc bits one two)

pub rest_joins : (bits one two : List ℕ) → rest_bits (rest_bits (bits ++ one) ++ two) ≡ rest_bits (bits ++ (one ++ two))
rest_joins bits one two = sym (rest_append (bits ++ one) two) ∙ ap rest_bits (append_assoc bits one two)
