-- The numbers of a state that passes the written test are below 2 ^ 64 and a hundred, so that its bytes say them.
use Rattle.std.specs.Prelude.{ℕ, zero, suc, ◌+◌, ◌*◌, ◌-◌, ◌^◌, ◌≤◌, ◌<◌, Bool, true, false, cond, ◌&&◌, ◌||◌, ◌≡◌, refl, List, [], ◌∷◌, ◌++◌, map, length, get_or, take, drop, replicate, eqb, leb, ltb}
use Rattle.std.proofs.Common.{arith, mul-le-mul_left, mul-le-mul_right, ap, sym, subst, ◌∙◌, append_assoc, length-append, take_at, drop_at, eqb-true, leb-true, ltb-true}
use Rattle.std.proofs.lemmas.List.{length-map, length-replicate}
use Rattle.format.specs.Bits.{bit, num_of, num_from}
use Rattle.format.specs.Lawful.{buses}
use Rattle.format.specs.Lists.{All, nil, cons}
use Rattle.format.specs.Plan.{group_words}
use Rattle.format.specs.Word.{Part, word_for, word_of}
use Rattle.format.specs.Laws.Legal.{Legal, legal_is}
use Rattle.format.specs.Laws.Limits.{Shape, group_least, group_most}
use Rattle.format.specs.Laws.Lists.{all_append, all_of}
use Rattle.format.specs.Laws.Log.Fields.{num_low}
use Rattle.format.specs.Laws.Reader.Held.{held_parts}
use Rattle.format.specs.Laws.Tests.{and_true, bit_low}
use Rattle.format.specs.Laws.Word.Parts.{Holds}
use Rattle.stream_rules.specs.Stream.{State, closed, failed, working, Working, carry_fits, fits, held_fits, most_bytes, place_fits, second_fits, waits_fit}
use Rattle.stream_rules.specs.StateNumbers.{four_words, kind_number, numbers_of}
use Rattle.stream_rules.specs.Laws.Stream.Fits.{held_ok, NumberOk, zeroth, slotted, PlaceOk, zeroth_place, placed, WaitOk, empty, waits, WaitsOk, last, next, place_ok, waits_ok}
use Rattle.stream_rules.proofs.Laws.Stream.Kept.{Fit, fits_is, bits_ok}
use Rattle.stream_rules.proofs.Laws.Stream.Numbers.{held_holds}
use Rattle.stream_state.specs.Layout.{number_at, row_at, row_bytes, stamped, zeros_behind}
use Rattle.stream_state.specs.Laws.Row.{row_back, count_back, behind, behind_gap, row_long, stage_said}
use Rattle.format.specs.declared.Kind.{Kind}
use Rattle.format.specs.declared.Plan.{Plan}
use Rattle.format.specs.declared.Kind.TheVariants.{Unused, Mil1553, Arinc429}

abbrev pub Small : ℕ → Type 0
Small n = n < 2 ^ 64

-- ---- the parts of a row

word_small : (x : Part) → Holds false x → Small (word_for x)
unfolding word_of
word_small x h = omega (arith, h.bus, h.label, h.info)

four_small : (xs : List Part) → All (Holds false) xs → All Small (four_words xs)
four_small [] h = all_of Small _ (omega arith)
four_small (a ∷ []) (cons x h) = all_of Small _ (omega (arith, word_small a x))
four_small (a ∷ b ∷ []) (cons x (cons y h)) = all_of Small _ (omega (arith, word_small a x, word_small b y))
four_small (a ∷ b ∷ c ∷ []) (cons x (cons y (cons z h))) = all_of Small _ (omega (arith, word_small a x, word_small b y, word_small c z))
four_small (a ∷ b ∷ c ∷ d ∷ xs) (cons x (cons y (cons z (cons w h)))) = all_of Small _ (omega (arith, word_small a x, word_small b y, word_small c z, word_small d w))

pub four_long : (xs : List Part) → length (four_words xs) ≡ 5
four_long [] = refl
four_long (a ∷ []) = refl
four_long (a ∷ b ∷ []) = refl
four_long (a ∷ b ∷ c ∷ []) = refl
four_long (a ∷ b ∷ c ∷ d ∷ xs) = refl

kinds_small : (ks : List Kind) → All Small (map kind_number ks)
kinds_small [] = nil
kinds_small (Unused ∷ ks) = cons {a = 0} (omega arith) (kinds_small ks)
kinds_small (Mil1553 ∷ ks) = cons {a = 1} (omega arith) (kinds_small ks)
kinds_small (Arinc429 ∷ ks) = cons {a = 2} (omega arith) (kinds_small ks)

number_small : (p : Plan) (groups k : ℕ) → groups ≤ 2 ^ 40 → NumberOk p groups k → Small k
number_small p groups k g (zeroth e) = omega (arith, e)
number_small p groups k g (slotted s) = omega (arith, s.low)

wait_small : (p : Plan) (ks : List Kind) (groups j k : ℕ) → groups ≤ 2 ^ 40 → WaitOk p ks groups j k → Small k
wait_small p ks groups j k g (empty e) = omega (arith, e)
wait_small p ks groups j k g (waits n e) = number_small p groups k g n

waits_small : (p : Plan) (ks : List Kind) (groups j : ℕ) (l : List ℕ) → groups ≤ 2 ^ 40 → WaitsOk p ks groups j l → All Small l
waits_small p ks groups j [] g last = nil
waits_small p ks groups j (k ∷ l) g (next w o) = cons (wait_small p ks groups j k g w) (waits_small p ks groups (j + 1) l g o)

place_small : (p : Plan) (groups q : ℕ) → 3 * (groups * group_words p) ≤ 2 ^ 40 → PlaceOk p groups q → Small q
place_small p groups q g (zeroth_place e) = omega (arith, e)
place_small p groups q g (placed h) = omega (arith, h)

num_small : (k n : ℕ) → k < 8 → n < 2 ^ k → Small n
num_small zero n h l = omega (arith, l)
num_small (suc zero) n h l = omega (arith, l)
num_small (suc (suc zero)) n h l = omega (arith, l)
num_small (suc (suc (suc zero))) n h l = omega (arith, l)
num_small (suc (suc (suc (suc zero)))) n h l = omega (arith, l)
num_small (suc (suc (suc (suc (suc zero))))) n h l = omega (arith, l)
num_small (suc (suc (suc (suc (suc (suc zero)))))) n h l = omega (arith, l)
num_small (suc (suc (suc (suc (suc (suc (suc zero))))))) n h l = omega (arith, l)
num_small (suc (suc (suc (suc (suc (suc (suc (suc k)))))))) n h l = absurd (omega (arith, h))

-- ---- a working state

pub buses_few : (t : Bool) → buses t ≤ 16
buses_few true = omega arith
buses_few false = omega arith

-- the 99 numbers behind its stage
abbrev pub hundred : Working → List ℕ
hundred w =
    w.plan.words ∷ w.plan.tracks ∷ bit w.plan.frame_time ∷ bit w.plan.crc ∷ bit w.plan.parity ∷ w.plan.crc_label ∷ w.plan.fill_bus
    ∷ length w.bits ∷ num_of w.bits ∷ w.groups ∷ w.carry.since ∷ 0 ∷ 0 ∷ 0
    ∷ (four_words (held_parts w.carry.held) ++ (map kind_number w.kinds ++ w.carry.waits))

pub row_is : (w : Working) → numbers_of (working w) ≡ 1 ∷ (hundred w ++ w.waiting)
row_is w =
    let k : List ℕ = map kind_number w.kinds in
    let f : List ℕ = four_words (held_parts w.carry.held) in
    let q : f ++ (k ++ (w.carry.waits ++ w.waiting)) ≡ (f ++ (k ++ w.carry.waits)) ++ w.waiting =
    ap (λ (l : List ℕ). f ++ l) (sym (append_assoc k w.carry.waits w.waiting)) ∙ sym (append_assoc f (k ++ w.carry.waits) w.waiting) in
    rw q refl

module _ (w : Working) (e : fits (working w) ≡ true) where
  pub fit : Fit w
  fit = fits_is w e

  pub shape : Shape w.plan
  shape = (legal_is w.plan w.kinds fit.lawful).shape

  pub sixteen : length w.kinds ≡ 16
  sixteen = eqb-true (length w.kinds) 16 fit.sixteen

  pub carried : (held_fits w.kinds w.carry.held ≡ true) × (place_fits w.plan w.groups w.carry.since ≡ true)
      × (length w.carry.waits ≡ 64) × (waits_fit w.plan w.kinds w.groups 0 w.carry.waits ≡ true)
  carried =
      let a = and_true (held_fits w.kinds w.carry.held) _ fit.carries in
      let b = and_true (place_fits w.plan w.groups w.carry.since) _ a.1 in
      let c = and_true (eqb (length w.carry.waits) 64) _ b.1 in
      (a.0, b.0, eqb-true (length w.carry.waits) 64 c.0, c.1)

  counted : 3 * (w.groups * group_words w.plan) ≤ 2 ^ 40
  counted = omega (arith, fit.count)

  few_groups : w.groups ≤ 2 ^ 40
  few_groups = omega (arith, counted, mul-le-mul_left w.groups (group_least w.plan shape))

  pub waiting_few : length w.waiting ≤ 6144
  waiting_few = omega (arith, fit.part, group_most w.plan shape)

  pub hundred_long : length (hundred w) ≡ 99
  hundred_long =
      let k : List ℕ = map kind_number w.kinds in
      let f : List ℕ = four_words (held_parts w.carry.held) in
      let q : length (f ++ (k ++ w.carry.waits)) ≡ 85 =
      length-append f (k ++ w.carry.waits) ∙ rw (four_long (held_parts w.carry.held), length-append k w.carry.waits, length-map w.kinds kind_number, sixteen, carried.2) refl in
      ap (λ (n : ℕ). suc (suc (suc (suc (suc (suc (suc (suc (suc (suc (suc (suc (suc (suc n)))))))))))))) q

  num_few : Small (num_of w.bits)
  unfolding num_of
  num_few = num_small (length w.bits) (num_of w.bits) fit.short (num_low w.bits (bits_ok w.bits fit.bits))

  since_small : Small w.carry.since
  since_small = place_small w.plan w.groups w.carry.since counted (place_ok w.plan w.groups w.carry.since carried.1)

  -- the plan's numbers, and the others in front of what is held
  plan_small : let p = w.plan in
      All Small (p.words ∷ p.tracks ∷ bit p.frame_time ∷ bit p.crc ∷ bit p.parity ∷ p.crc_label ∷ p.fill_bus ∷ [])
  plan_small = let p = w.plan in
      all_of Small _
      (omega (arith, shape.words_most, shape.tracks_most, bit_low p.frame_time, bit_low p.crc, bit_low p.parity, shape.named, shape.filling, buses_few p.parity))

  others_small : All Small (length w.bits ∷ num_of w.bits ∷ w.groups ∷ w.carry.since ∷ 0 ∷ 0 ∷ 0 ∷ [])
  others_small = all_of Small _ (omega (arith, fit.short, num_few, few_groups, since_small))

  hundred_small : All Small (hundred w)
  hundred_small =
      all_append (all_append plan_small others_small)
      (all_append (four_small (held_parts w.carry.held) (held_holds w.kinds sixteen w.carry.held (held_ok w.kinds w.carry.held carried.0)))
      (all_append (kinds_small w.kinds) (waits_small w.plan w.kinds w.groups 0 w.carry.waits few_groups (waits_ok w.plan w.kinds w.groups 0 w.carry.waits carried.3))))

-- ---- the bytes of a state that passes say its numbers

-- what the bytes of a row say
pub record Said (ns : List ℕ) : Type 0 where
  pub row : row_at (row_bytes ns) ≡ ns
  pub stage : number_at (row_bytes ns) 0 ≡ stamped (get_or ns 0 0)
  pub count : number_at (row_bytes ns) 100 ≡ length (drop 100 ns)
  pub behind : drop 808 (row_bytes ns) ≡ replicate 216 0 ++ zeros_behind 6144 (drop 100 ns)
  pub behind_gap : drop 1024 (row_bytes ns) ≡ zeros_behind 6144 (drop 100 ns)
  pub long : length (row_bytes ns) ≡ 7168

said : (x : ℕ) (m v : List ℕ) → x ≤ 2 → length m ≡ 99 → All Small m → length v ≤ 6144 → Said (x ∷ (m ++ v))
said x m v stage long small few =
    let l : List ℕ = m ++ v in
    let n : 99 ≤ length l = rw (length-append m v, long) (omega arith) in
    let a : All Small (take 99 l) = rw (take_at m v 99 long) small in
    let f : length (drop 99 l) ≤ 6144 = rw (drop_at m v 99 long) few in
    record {
      row = row_back x l stage n a f;
      stage = stage_said x l stage n a f;
      count = count_back x l stage n a f;
      behind = behind x l stage n a f;
      behind_gap = behind_gap x l stage n a f;
      long = row_long x l stage n a f;
    }

pub zeros_small : (n : ℕ) → All Small (replicate n 0)
zeros_small zero = nil
zeros_small (suc n) = cons {a = 0} (omega arith) (zeros_small n)

or_either : (a b : Bool) {A : Type 0} → (a || b) ≡ true → (a ≡ true → A) → (b ≡ true → A) → A
or_either true b e f g = f refl
or_either false b e f g = g e

pub failed_small : (k q second : ℕ) → fits (failed k q second) ≡ true → (k ≤ 15) × (3 * q < 2 ^ 40) × (3 * second < 2 ^ 40)
unfolding fits
failed_small k q second e =
    let a = and_true ((leb 9 k && leb k 13 || eqb k 15) && ltb (3 * q) most_bytes) (second_fits k second) e in
    let b = and_true (leb 9 k && leb k 13 || eqb k 15) (ltb (3 * q) most_bytes) a.0 in
    let c : k ≤ 15 = or_either (leb 9 k && leb k 13) (eqb k 15) b.0 (λ t. omega (arith, leb-true k 13 (and_true (leb 9 k) (leb k 13) t).1)) (λ t. omega (arith, eqb-true k 15 t)) in
    (c, ltb-true (3 * q) most_bytes b.1, go (eqb k 13) a.1)
  where
    go : (t : Bool) → cond t (ltb (3 * second) most_bytes) (eqb second 0) ≡ true → 3 * second < 2 ^ 40
    go true h = ltb-true (3 * second) most_bytes h
    go false h = omega (arith, eqb-true second 0 h)

pub fits_said : (s : State) → fits s ≡ true → Said (numbers_of s)
fits_said closed e = said 0 (replicate 99 0) [] (omega arith) refl (zeros_small 99) (omega arith)
fits_said (failed k q second) e =
    let f = failed_small k q second e in
    said 2 (replicate 11 0 ++ k ∷ q ∷ second ∷ replicate 85 0) [] (omega arith) refl
    (all_append (zeros_small 11) (cons {a = k} (omega (arith, f)) (cons {a = q} (omega (arith, f)) (cons {a = second} (omega (arith, f)) (zeros_small 85))))) (omega arith)
fits_said (working w) e = rw (row_is w) (said 1 (hundred w) w.waiting (omega arith) (hundred_long w e) (hundred_small w e) (waiting_few w e))
