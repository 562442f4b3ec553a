-- A log and its items are one thing, without a plan (K7, K9, K12).
use Rattle.std.specs.Prelude.{ℕ, ◌+◌, ◌*◌, ◌<◌, ◌≤◌, Bool, true, false, cond, ◌≡◌, refl, length, replicate}
use Rattle.std.proofs.Common.{arith, ap, sym, ◌∙◌, length-append}
use mathlib.Core.List.{List, [], ◌∷◌, ◌++◌, flat_map}
use Rattle.std.proofs.lemmas.List.{length-replicate}
use Rattle.format.specs.Bits.{bits_of, packed}
use Rattle.format.specs.Lists.{All, nil, cons, Bytes}
use Rattle.format.specs.Item.{bus_of_item, in_time, item_bits}
use Rattle.format.specs.Lawful.{Sized}
use Rattle.format.specs.Log.{items, parsed, on_no_plan, log_of}
use Rattle.log_rules.specs.Pick.{keep}
use Rattle.format.specs.Laws.Lists.{all_append}
use Rattle.format.specs.Laws.Bits.{length_bytes}
use Rattle.format.specs.Laws.Log.Fields.{packs}
use Rattle.format.specs.Laws.Log.Sizes.{bits_low, items_low, sized_of}
use Rattle.format.specs.Laws.Log.Back.{Logged, log_back}
use Rattle.format.specs.Laws.Log.Forth.{log_forth}
use Rattle.format.specs.declared.Item.{Item}

-- the log of these items, and it parses as them
pub record LogOf (log : List ℕ) (is : List Item) : Type 0 where
  pub bytes : log_of is ≡ log
  pub parses : parsed on_no_plan log ≡ items is
  pub logged : All (Logged on_no_plan) is
  pub short : length log ≤ 32768

-- a log that parses
pub log_of_lem : (log : List ℕ) (is : List Item) → Bytes log → parsed on_no_plan log ≡ items is → LogOf log is
log_of_lem log is b e =
    let f = log_forth on_no_plan log is b e in
    record { bytes = f.0; parses = e; logged = f.1; short = f.2 }

-- a log that is written
pub log_new : (is : List Item) → All (Logged on_no_plan) is → length (log_of is) ≤ 32768 → LogOf (log_of is) is
log_new is w h = record { bytes = refl; parses = log_back on_no_plan is w h; logged = w; short = h }

-- and is bytes
pub log_bytes : {log : List ℕ} {is : List Item} → LogOf log is → Bytes log
unfolding log_of
log_bytes {log} {is} l = rw l.bytes at (packs (flat_map item_bits is ++ bits_of 4 0) (all_append (items_low is) (bits_low 4 0))).bytes

-- the length of a log goes by how many bits its items have
pub length_log : (is : List Item) → (length (flat_map item_bits is) + 4 ≤ length (log_of is) * 8) × (length (log_of is) * 8 < length (flat_map item_bits is) + 12)
unfolding log_of bits_of
length_log is =
    let bs : List ℕ = flat_map item_bits is ++ bits_of 4 0 in
    let k = packs bs (all_append (items_low is) (bits_low 4 0)) in
    let l : length (packed bs) * 8 ≡ length bs + k.more = sym (length_bytes (packed bs)) ∙ ap length k.bits ∙ length-append bs (replicate k.more 0) ∙ simp length-replicate in
    let m : length bs ≡ length (flat_map item_bits is) + 4 = length-append (flat_map item_bits is) (bits_of 4 0) in
    omega (arith, k.few)

-- ---- elements that pass a test

pub all_keep : {A : Type 0} {P : A → Type 0} (f : A → Bool) {l : List A} → All P l → All P (keep f l)
unfolding keep
all_keep f All.nil = nil
all_keep {P = P} f (cons {a} {l} h t) = go (f a) (all_keep f t)
  where
    go : (b : Bool) → All P (keep f l) → All P (cond b (a ∷ keep f l) (keep f l))
    go true z = cons h z
    go false z = z

pub keep_append : {A : Type 0} (f : A → Bool) (l m : List A) → keep f (l ++ m) ≡ keep f l ++ keep f m
unfolding keep
keep_append f [] m = refl
keep_append {A} f (a ∷ l) m = go (f a) (keep_append f l m)
  where
    go : (b : Bool) → keep f (l ++ m) ≡ keep f l ++ keep f m → cond b (a ∷ keep f (l ++ m)) (keep f (l ++ m)) ≡ cond b (a ∷ keep f l) (keep f l) ++ keep f m
    go true e = ap (λ (x : List A). a ∷ x) e
    go false e = e

pub same_length : (is js : List Item) → length (flat_map item_bits is) ≡ length (flat_map item_bits js) → length (log_of is) ≡ length (log_of js)
same_length is js e = omega (arith, (length_log is).0, (length_log is).1, (length_log js).0, (length_log js).1)

-- what is logged without a plan has its fields within their ranges
pub logged_sized : (i : Item) → Logged on_no_plan i → Sized i × (bus_of_item i < 16)
logged_sized i w = sized_of i w.narrow (go (in_time i) w.passed)
  where
    go : (b : Bool) → ◌≡◌ {A = ℕ} (cond b 0 4) 0 → b ≡ true
    go true e = refl
    go false e = absurd (omega arith)
