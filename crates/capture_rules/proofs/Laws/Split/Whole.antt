-- The two operations and the plain reading (document 02, K3, "Proved").
use Prim.Native.Nat.{ℕ, zero, suc, ◌+◌, ◌*◌, ◌/◌, ◌%◌, ◌^◌, ◌-◌, ◌≤◌, ◌<◌}
use Rattle.std.proofs.Common.{arith, mod-lt, div-lt_iff_lt-mul, div-add-mod', mul-le-mul_right, mul-le-mul_left, le_refl, mod-eq_of_lt, le-div_iff_mul-le, div-mul-le_self, ap, sym, ◌∙◌, ap₂, inl, inr}
use Rattle.std.proofs.Math.Nat.{mul-add-div_right, mul-add-mod_self_right, div-eq_of_lt, div-eq_of_lt-le}
use Rattle.std.proofs.Math.Bool.{Bool}
use Rattle.std.specs.Prelude.{true, false, cond, ◌&&◌, ◌||◌, ◌≡◌, ◌⊎◌, length, get_or, take, ltb}
use Rattle.std.proofs.Math.Path.{refl}
use mathlib.Core.List.{List, [], ◌∷◌, ◌++◌, map, flat_map}
use Rattle.std.proofs.lemmas.List.{length-map}
use Rattle.std.proofs.Math.Dec.{eqb, leb}
use borrow.Author.Tests.{le-leb, leb-true, leb-false, eqb-true, eqb-false}
use Rattle.format.specs.Lists.{All, nil, cons, list, Bytes}
use Rattle.format.specs.Word.{is_fill, bare, word_at}
use Rattle.format.specs.Plan.{legal, rows, slots, lead, group_words, place_of, times_needed, stored_at}
use Rattle.format.specs.Item.{item_words}
use Rattle.format.specs.Log.{log_of}
use Rattle.format.specs.Notices.{first_open, open_fault, first_word_of, is_open}
use Rattle.format.specs.Reader.{Slot, run, data_of, places_of, Ran, bad_at, ran, counted}
use Rattle.format.specs.Group.{Fault, none, found, or_else, unless, group_fault, group_slots, group_time}
use Rattle.format.specs.Read.{Reading, gives, refuses, reading, read_groups, roomed, settled, unless_found, open_in, Got, got, stopped, onward, before, finish, if_sound, slots_from}
use Rattle.capture_rules.specs.Split.{groups_fault, frame_times, words_roomed, words_read, run_numbers, log_roomed, items_settled, items_read, in_capture}
use Rattle.format.specs.Laws.Tests.{clash, and_true}
use Rattle.format.specs.Laws.Lists.{map_append, all_map}
use Rattle.format.specs.Laws.Legal.{Legal, legal_is}
use Rattle.format.specs.Laws.Limits.{long, room, free}
use Rattle.format.proofs.Laws.Reader.Groups.{Faultless, last, next}
use Rattle.format.proofs.Laws.Reader.Words.{words_forth}
use Rattle.format.proofs.Laws.Accepted.Exact.{slots_low, slots_count, slots_named}
use Rattle.format.proofs.Laws.Accepted.Faultless.{accepted}
use Rattle.capture_rules.specs.Laws.Split.Places.{Small, run_numbers_lem}
use Rattle.capture_rules.specs.Laws.Split.Faults.{In, FaultIn, fault_in, slots_in}
use Rattle.format.specs.declared.Kind.{Kind}
use Rattle.format.specs.declared.Item.{Item}
use Rattle.format.specs.declared.Plan.{Plan}
use Rattle.format.specs.declared.Held.{Held}
use Rattle.format.specs.declared.Held.TheVariants.{Nothing, Taggable, Half, TagHigh, TagLow, Answering}
use Rattle.format.proofs.Laws.Reader.Named.{named, renamed, run_named, run_fresh, RanIn, run_in}
use Rattle.format.specs.Laws.Reader.Slots.{words_in}
use Rattle.format.specs.Laws.Notices.{first_within, words_before}
use Rattle.format.proofs.Laws.Reader.Onward.{before_none, onward_append}

-- ---- without a fault of 9 to 12 the groups are one run, with its places

pub groups_run : (p : Plan) (ks : List Kind) (c : List ℕ) (n g : ℕ) → Faultless p c n g → (h : Held) (at : ℕ)
    → read_groups p ks c n g h at ≡ onward (run ks p.parity (slots_from p c n g) h at) finish
unfolding read_groups slots_from run
groups_run p ks c zero g last h at = sym (before_none (finish h at))
groups_run p ks c (suc n) g (next e f) h at =
    rw e (onward_same (run ks p.parity (group_slots p c (g * group_words p)) h at) (λ h' at'. groups_run p ks c n (g + 1) f h' at')
    ∙ sym (onward_append ks p.parity (group_slots p c (g * group_words p)) (slots_from p c n (g + 1)) finish h at))
  where
    onward_same : (r : Ran) → ((h' : Held) (at' : ℕ) → read_groups p ks c n (g + 1) h' at' ≡ onward (run ks p.parity (slots_from p c n (g + 1)) h' at') finish)
        → onward r (λ h' at'. read_groups p ks c n (g + 1) h' at') ≡ onward r (λ h' at'. onward (run ks p.parity (slots_from p c n (g + 1)) h' at') finish)
    onward_same (bad_at q r) e = refl
    onward_same (ran is h' at') e = ap (before is) (e h' at')

no_found : {A : Type 0} {n q : ℕ} → found n q ≡ none → A
no_found e = let z : ◌≡◌ {A = ℕ} 0 1 = cc in absurd (omega arith)

pub fault_less : (p : Plan) (c : List ℕ) (n g : ℕ) → groups_fault p c n g ≡ none → Faultless p c n g
unfolding groups_fault
fault_less p c zero g e = last
fault_less p c (suc n) g e = go (group_fault p c (g * group_words p)) refl e (λ z. fault_less p c n (g + 1) z)
  where
    go : (f : Fault) → group_fault p c (g * group_words p) ≡ f → or_else f (groups_fault p c n (g + 1)) ≡ none
        → (groups_fault p c n (g + 1) ≡ none → Faultless p c n (g + 1)) → Faultless p c (suc n) g
    go none i e ih = next i (ih e)
    go (found k q) i e ih = no_found e

pub less_fault : (p : Plan) (c : List ℕ) (n g : ℕ) → Faultless p c n g → groups_fault p c n g ≡ none
unfolding groups_fault
less_fault p c zero g last = refl
less_fault p c (suc n) g (next e f) = rw e (less_fault p c n (g + 1) f)

-- ---- the slots of a capture, by their places among the dealt words

pub counted_small : (i : ℕ) (ws : List ℕ) → All (λ w. w < 2 ^ 24) ws → Small (counted i ws)
unfolding counted
counted_small i [] nil = nil
counted_small i (w ∷ ws) (cons h t) = cons h (counted_small (i + 1) ws t)

-- ---- what a run stops at is 13, and its place goes by another name

abbrev renamed_got : (ℕ → ℕ) → Got → Got
renamed_got f (got is) = got is
renamed_got f (stopped k q r) = stopped k (f q) (f r)

finish_named : (f : ℕ → ℕ) (h : Held) (q : ℕ) → finish h (f q) ≡ renamed_got f (finish h q)
finish_named f Nothing q = refl
finish_named f (Taggable x) q = refl
finish_named f (Half bus c high) q = refl
finish_named f (TagHigh x high) q = refl
finish_named f (TagLow x high low) q = refl
finish_named f (Answering bus r) q = refl

before_named : (f : ℕ → ℕ) (is : List Item) (g : Got) → before is (renamed_got f g) ≡ renamed_got f (before is g)
before_named f is (got js) = refl
before_named f is (stopped k q r) = refl

onward_named : (f : ℕ → ℕ) (r : Ran) → onward (renamed f r) finish ≡ renamed_got f (onward r finish)
onward_named f (bad_at q r) = refl
onward_named f (ran is h q) = ap (before is) (finish_named f h q) ∙ before_named f is (finish h q)

abbrev Thirteen : Got → Type 0
Thirteen (got is) = Unit {0}
Thirteen (stopped k q r) = k ≡ 13

finish_thirteen : (h : Held) (q : ℕ) → Thirteen (finish h q)
finish_thirteen Nothing q = tt
finish_thirteen (Taggable x) q = tt
finish_thirteen (Half bus c high) q = refl
finish_thirteen (TagHigh x high) q = refl
finish_thirteen (TagLow x high low) q = refl
finish_thirteen (Answering bus r) q = refl

before_thirteen : (is : List Item) (g : Got) → Thirteen g → Thirteen (before is g)
before_thirteen is (got js) t = tt
before_thirteen is (stopped k q r) t = t

onward_thirteen : (r : Ran) → Thirteen (onward r finish)
onward_thirteen (bad_at q r) = refl
onward_thirteen (ran is h q) = before_thirteen is (finish h q) (finish_thirteen h q)

-- ---- the earliest open notice has a word

places_named : (f : ℕ → ℕ) (ss : List Slot) → places_of (map (named f) ss) ≡ map f (places_of ss)
unfolding places_of
places_named f [] = refl
places_named f (s ∷ ss) = go (is_fill s.1) (places_named f ss)
  where
    go : (t : Bool) → places_of (map (named f) ss) ≡ map f (places_of ss)
        → cond t (places_of (map (named f) ss)) (f s.0 ∷ places_of (map (named f) ss)) ≡ map f (cond t (places_of ss) (s.0 ∷ places_of ss))
    go true e = e
    go false e = ap (λ (l : List ℕ). f s.0 ∷ l) e

places_count : (ss : List Slot) → length (places_of ss) ≡ length (data_of ss)
unfolding places_of data_of
places_count [] = refl
places_count (s ∷ ss) = go (is_fill s.1) (places_count ss)
  where
    go : (t : Bool) → length (places_of ss) ≡ length (data_of ss) → length (cond t (places_of ss) (s.0 ∷ places_of ss)) ≡ length (cond t (data_of ss) (s.1 ∷ data_of ss))
    go true e = e
    go false e = ap suc e

get_d_map : (f : ℕ → ℕ) (l : List ℕ) (k : ℕ) → k < length l → get_or (map f l) k 0 ≡ f (get_or l k 0)
get_d_map f [] k h = absurd (omega arith)
get_d_map f (x ∷ l) zero h = refl
get_d_map f (x ∷ l) (suc k) h = get_d_map f l k (omega arith)

data_all : (ss : List Slot) → Small ss → All (λ w. w < 2 ^ 24) (data_of ss)
unfolding data_of
data_all [] nil = nil
data_all (s ∷ ss) (cons h t) = go (is_fill s.1) (data_all ss t)
  where
    go : (b : Bool) → All (λ w. w < 2 ^ 24) (data_of ss) → All (λ w. w < 2 ^ 24) (cond b (data_of ss) (s.1 ∷ data_of ss))
    go true a = a
    go false a = cons h a

word_named : (ks : List Kind) (parity : Bool) (f : ℕ → ℕ) (ss : List Slot) → Small ss → (is : List Item) → onward (run ks parity ss Nothing 0) finish ≡ got is
    → (b : Bool) → eqb (first_open is) (length is) ≡ b
    → unless b 15 (first_word_of (places_of (map (named f) ss)) is (first_open is)) ≡ unless b 15 (f (first_word_of (places_of ss) is (first_open is)))
word_named ks parity f ss small is e true t = refl
word_named ks parity f ss small is e false t =
    let w = (words_forth ks parity ss (data_all ss small) 0 is e).0 in
    let k : first_open is < length is = omega (arith, first_within is, eqb-false (first_open is) (length is) t) in
    let n : length (data_of ss) ≡ length (flat_map item_words is) = sym (length-map (data_of ss) (bare parity)) ∙ ap length w in
    let l : length (flat_map item_words (take (first_open is) is)) < length (places_of ss) = omega (arith, words_before is (first_open is) k, places_count ss) in
    ap (found 15) (ap (λ (x : List ℕ). get_or x (length (flat_map item_words (take (first_open is) is))) 0) (places_named f ss) ∙ get_d_map f (places_of ss) _ l)

-- ---- the slots of a group are fewer than its words

rows_few : (p : Plan) → rows p ≤ p.words
unfolding rows
rows_few p = omega arith

pub slots_few : (p : Plan) → slots p ≤ group_words p
unfolding slots
slots_few p = omega (arith, mul-le-mul_left p.tracks (rows_few p))

-- ---- without a fault: the plain reading is the second operation on the words of the first

module _ (p : Plan) (ks : List Kind) (c : List ℕ) (n log_room time_room : ℕ) where
  abbrev ss : List Slot
  ss = slots_from p c n 0

  abbrev ws : List ℕ
  ws = words_in (slots_from p c n 0)

  abbrev ct : List Slot
  ct = counted 0 (words_in (slots_from p c n 0))

  roomed_same : times_needed p n ≤ time_room → (log : List ℕ)
      → roomed p c n log_room time_room log ≡ in_capture p (frame_times p c n) (log_roomed log_room log)
  roomed_same h log = rw (le-leb _ _ h) (go (leb (length log) 32768 && leb (length log) log_room))
    where
      go : (b : Bool) → cond b (gives log (frame_times p c n)) (refuses 6 (length log) 0)
          ≡ in_capture p (frame_times p c n) (cond b (gives log []) (refuses 6 (length log) 0))
      go true = refl
      go false = refl

  open_same : times_needed p n ≤ time_room → (b : Bool) (q : ℕ) (log : List ℕ)
      → unless_found (unless b 15 (stored_at p q)) (unless_found none (roomed p c n log_room time_room log))
      ≡ in_capture p (frame_times p c n) (unless_found (unless b 15 q) (log_roomed log_room log))
  open_same h true q log = roomed_same h log
  open_same h false q log = refl

  settled_same : 1 ≤ slots p → Small ct → times_needed p n ≤ time_room → (g : Got) → onward (run ks p.parity ct Nothing 0) finish ≡ g → Thirteen g
      → settled p c n log_room time_room false (renamed_got (stored_at p) g) ≡ in_capture p (frame_times p c n) (items_settled log_room ct g)
  settled_same free small h (stopped k q r) e t = rw t
  settled_same free small h (got is) e t =
      let w : open_in p c n is ≡ unless (eqb (first_open is) (length is)) 15 (stored_at p (first_word_of (places_of ct) is (first_open is))) =
      ap (λ (l : List Slot). open_fault (first_word_of (places_of l) is) is) (zeroth (slots_named p c n 0 free))
      ∙ word_named ks p.parity (stored_at p) ct small is e (eqb (first_open is) (length is)) refl in
      ap (λ (f : Fault). unless_found f (unless_found none (roomed p c n log_room time_room (log_of is)))) w
      ∙ open_same h (eqb (first_open is) (length is)) (first_word_of (places_of ct) is (first_open is)) (log_of is)
    where
      zeroth : slots_from p c n 0 ≡ map (named (stored_at p)) (counted (0 * slots p) (words_in (slots_from p c n 0)))
          → slots_from p c n 0 ≡ map (named (stored_at p)) (counted 0 (words_in (slots_from p c n 0)))
      zeroth e = let z : 0 * slots p ≡ 0 = omega arith in rw z at e

  groups_same : 1 ≤ slots p → Faultless p c n 0
      → read_groups p ks c n 0 Nothing 0 ≡ renamed_got (stored_at p) (onward (run ks p.parity ct Nothing 0) finish)
  groups_same free f =
      let z : 0 * slots p ≡ 0 = omega arith in
      let e : slots_from p c n 0 ≡ map (named (stored_at p)) ct = rw z at (slots_named p c n 0 free) in
      groups_run p ks c n 0 f Nothing 0 ∙ run_fresh ks p.parity ss finish (λ a b. refl) 0 (stored_at p 0)
      ∙ ap (λ (l : List Slot). onward (run ks p.parity l Nothing (stored_at p 0)) finish) e
      ∙ ap (λ (r : Ran). onward r finish) (run_named ks p.parity (stored_at p) ct Nothing 0)
      ∙ onward_named (stored_at p) (run ks p.parity ct Nothing 0)

  items_are : legal p ks ≡ true → length ws ≤ 349525
      → items_read p ks ws log_room ≡ items_settled log_room ct (onward (run_numbers ks p.parity ct Nothing 0) finish)
  unfolding items_read
  items_are l m = rw (l, le-leb _ _ m)

  pub parts_same : legal p ks ≡ true → Bytes c → length c ≤ 1048576 → n * (3 * group_words p) ≤ length c → Faultless p c n 0 → times_needed p n ≤ time_room
      → settled p c n log_room time_room false (read_groups p ks c n 0 Nothing 0) ≡ in_capture p (frame_times p c n) (items_read p ks ws log_room)
  parts_same l bytes small whole f h =
      let ok = legal_is p ks l in
      let low : All (λ w. w < 2 ^ 24) ws = slots_low p c bytes n 0 in
      let few : slots p ≤ group_words p = slots_few p in
      let m : length ws ≤ 349525 = rw (slots_count p c n 0) (omega (arith, mul-le-mul_left n few)) in
      let fr : 1 ≤ slots p = free p ok.shape in
      let sm : Small ct = counted_small 0 ws low in
      ap (settled p c n log_room time_room false) (groups_same fr f)
      ∙ settled_same fr sm h (onward (run ks p.parity ct Nothing 0) finish) refl (onward_thirteen (run ks p.parity ct Nothing 0))
      ∙ ap (λ (g : Got). in_capture p (frame_times p c n) (items_settled log_room ct g)) (ap (λ (r : Ran). onward r finish) (sym (run_numbers_lem ks p.parity ct sm Nothing 0)))
      ∙ ap (in_capture p (frame_times p c n)) (sym (items_are l m))

-- ---- with a fault of 9 to 12: the plain reading stops there, or at a 13 in an earlier group

-- r stops at this fault, or by 13 in an earlier group
pub data Behind (size : ℕ) : Fault → Got → Type 0 where
  clear : {r : Got} → Behind size none r
  there : {k q : ℕ} → Behind size (found k q) (stopped k q 0)
  sooner : {k q q' r : ℕ} → q' / size < q / size → Behind size (found k q) (stopped 13 q' r)

before_behind : (size : ℕ) (f : Fault) (is : List Item) (r : Got) → Behind size f r → Behind size f (before is r)
before_behind size none is r b = clear
before_behind size (found k q) is (stopped k' q' r) b = b
before_behind size (found k q) is (got _) b = elim b [ ]

abbrev Over : ℕ → Fault → Type 0
Over lo none = Unit {0}
Over lo (found k q) = (9 ≤ k) × (k ≤ 12) × (lo ≤ q)

in_over : (lo hi low : ℕ) (f g : Fault) → low ≤ lo → FaultIn lo hi f → Over low g → Over low (or_else f g)
in_over lo hi low none g l a b = b
in_over lo hi low (found k q) g l a b = (a.0, a.1, omega (arith, a.2.over))

over_less : (lo low : ℕ) (f : Fault) → low ≤ lo → Over lo f → Over low f
over_less lo low none l a = tt
over_less lo low (found k q) l a = (a.0, a.1, omega (arith, a.2))

module _ (p : Plan) (ks : List Kind) (ok : Legal p ks) (c : List ℕ) where
  words_some : 2 ≤ p.words
  words_some = long p ok.shape

  faults_over : (n g : ℕ) → Over (g * group_words p) (groups_fault p c n g)
  unfolding groups_fault
  faults_over zero g = tt
  faults_over (suc n) g =
      in_over (g * group_words p) (g * group_words p + group_words p) (g * group_words p) (group_fault p c (g * group_words p)) (groups_fault p c n (g + 1)) (omega arith)
      (fault_in p c (g * group_words p) words_some ok.shape.tracks_least (room p ok.shape))
      (over_less ((g + 1) * group_words p) (g * group_words p) (groups_fault p c n (g + 1)) (omega arith) (faults_over n (g + 1)))

  words_more : 1 ≤ group_words p
  words_more = omega (arith, mul-le-mul_right p.words ok.shape.tracks_least, words_some)

  sooner_by : (g q' r : ℕ) (f : Fault) → q' < (g + 1) * group_words p → Over ((g + 1) * group_words p) f → Behind (group_words p) f (stopped 13 q' r)
  sooner_by g q' r none h o = clear
  sooner_by g q' r (found k q) h o =
      let a : q' / group_words p < g + 1 = (div-lt_iff_lt-mul words_more).1 h in
      let b : g + 1 ≤ q / group_words p = (le-div_iff_mul-le words_more).1 o.2 in
      sooner {q = q} {q' = q'} {r = r} (omega (arith, a, b))

  pub fault_behind : (n g : ℕ) (h : Held) (at : ℕ) → at < (g + 1) * group_words p → Behind (group_words p) (groups_fault p c n g) (read_groups p ks c n g h at)
  unfolding groups_fault read_groups
  fault_behind zero g h at l = clear
  fault_behind (suc n) g h at l =
      go (group_fault p c (g * group_words p)) (run ks p.parity (group_slots p c (g * group_words p)) h at)
      (run_in ks p.parity (λ q. q < (g + 1) * group_words p) (group_slots p c (g * group_words p))
      (all_map (λ (s : Slot) w. omega (arith, w.under)) (slots_in p c (g * group_words p) words_some ok.shape.tracks_least (room p ok.shape))) h at l)
      (λ h' at' l'. fault_behind n (g + 1) h' at' l')
    where
      go : (f : Fault) (r : Ran) → RanIn (λ q. q < (g + 1) * group_words p) r
          → ((h' : Held) (at' : ℕ) → at' < (g + 1 + 1) * group_words p → Behind (group_words p) (groups_fault p c n (g + 1)) (read_groups p ks c n (g + 1) h' at'))
          → Behind (group_words p) (or_else f (groups_fault p c n (g + 1))) (if_sound f (onward r (λ h' at'. read_groups p ks c n (g + 1) h' at')))
      go (found k q) r i ih = there
      go none (bad_at q r) i ih = sooner_by g q r (groups_fault p c n (g + 1)) i.0 (faults_over n (g + 1))
      go none (ran is h' at') i ih = before_behind (group_words p) (groups_fault p c n (g + 1)) is (read_groups p ks c n (g + 1) h' at') (ih h' at' (omega (arith, i)))

-- ---- the theorem

-- the plain reading gives this refusal, or a 13 in an earlier group
pub data Meets (size : ℕ) (k q second : ℕ) : Reading → Type 0 where
  same : Meets size k q second (refuses k q second)
  sooner13 : {q' r : ℕ} → q' / size < q / size → Meets size k q second (refuses 13 q' r)

-- what the first operation gives, and the plain reading `whole` then
abbrev pub SplitsTo : Plan → List Kind → List ℕ → ℕ → ℕ → ℕ → Reading → Reading → Type 0
SplitsTo p ks c wordRoom time_room log_room whole (gives ws times) = whole ≡ in_capture p times (items_read p ks ws log_room)
SplitsTo p ks c wordRoom time_room log_room whole (refuses k q second) =
    (wordRoom < length c / (3 * group_words p) * slots p) ⊎ ((time_room < times_needed p (length c / (3 * group_words p)))
    ⊎ Meets (group_words p) k q second whole)

abbrev pub Splits : Plan → List Kind → List ℕ → ℕ → ℕ → ℕ → Reading → Type 0
Splits p ks c wordRoom time_room log_room r = SplitsTo p ks c wordRoom time_room log_room (reading false p ks c log_room time_room) r

module _ (p : Plan) (ks : List Kind) (c : List ℕ) (wordRoom time_room log_room : ℕ) (bytes : Bytes c) where
  abbrev n : ℕ
  n = length c / (3 * group_words p)

  abbrev after : Reading
  after = settled p c n log_room time_room false (read_groups p ks c n 0 Nothing 0)

  abbrev Then : Reading → Reading → Type 0
  Then whole r = SplitsTo p ks c wordRoom time_room log_room whole r

  met : {k q : ℕ} {r : Got} → Behind (group_words p) (found k q) r → Meets (group_words p) k q 0 (settled p c n log_room time_room false r)
  met there = same
  met (sooner h) = sooner13 h

  grouped : legal p ks ≡ true → length c ≤ 1048576 → (f : Fault) → groups_fault p c n 0 ≡ f
      → Then after (unless_found f (words_roomed p c n wordRoom time_room))
  grouped l small (found k q) e =
      let ok = legal_is p ks l in
      inr (inr (met (rw e at (fault_behind p ks ok c n 0 Nothing 0 (omega (arith, words_more p ks ok c))))))
  grouped l small none e = go (leb (n * slots p) wordRoom) refl
    where
      timed : (b : Bool) → leb (times_needed p n) time_room ≡ b → Then after (cond b (gives (words_in (slots_from p c n 0)) (frame_times p c n)) (refuses 7 (times_needed p n) 0))
      timed true t = parts_same p ks c n log_room time_room l bytes small (div-mul-le_self (length c) (3 * group_words p)) (fault_less p c n 0 e) (leb-true _ _ t)
      timed false t = inr (inl (leb-false _ _ t))

      go : (b : Bool) → leb (n * slots p) wordRoom ≡ b
          → Then after (cond b (cond (leb (times_needed p n) time_room) (gives (words_in (slots_from p c n 0)) (frame_times p c n)) (refuses 7 (times_needed p n) 0)) (refuses 6 (n * slots p) 0))
      go true t = timed (leb (times_needed p n) time_room) refl
      go false t = inl (leb-false _ _ t)

  pub split : Splits p ks c wordRoom time_room log_room (words_read p ks c wordRoom time_room)
  unfolding words_read reading
  split = go (legal p ks) refl
    where
      fits : Bool
      fits = leb (length c) 1048576 && eqb (length c % (3 * group_words p)) 0

      sized : legal p ks ≡ true → (b : Bool) → fits ≡ b
          → Then (cond b after (refuses 8 (length c) 0)) (cond b (unless_found (groups_fault p c n 0) (words_roomed p c n wordRoom time_room)) (refuses 8 (length c) 0))
      sized l true e = grouped l (leb-true _ _ (and_true _ _ e).0) (groups_fault p c n 0) refl
      sized l false e = inr (inr same)

      go : (b : Bool) → legal p ks ≡ b
          → Then (cond b (cond fits after (refuses 8 (length c) 0)) (refuses 1 0 0))
          (cond b (cond fits (unless_found (groups_fault p c n 0) (words_roomed p c n wordRoom time_room)) (refuses 8 (length c) 0)) (refuses 1 0 0))
      go true l = sized l fits refl
      go false l = inr (inr same)

-- ---- "given room, plain reading accepts exactly when both operations do, with the same log and times"

no_gives : {A : Type 0} {k q r : ℕ} {x y : List ℕ} → refuses k q r ≡ gives x y → A
no_gives e = let z : ◌≡◌ {A = ℕ} 0 1 = cc in absurd (omega arith)

log_given : (p : Plan) (times log times' : List ℕ) (r : Reading) → in_capture p times r ≡ gives log times' → (row : List ℕ) × (r ≡ gives log row) × (times ≡ times')
log_given p times log times' (gives l row) e = (row, cc, cc)
log_given p times log times' (refuses k q r) e = no_gives e

met_none : {A : Type 0} {size k q second : ℕ} {log times : List ℕ} (r : Reading) → Meets size k q second r → r ≡ gives log times → A
met_none (refuses k q r) m e = no_gives e
met_none {A = A} {size = size} {k = k} {q = q} {second = second} {log = log} {times = times} (gives _ _) m e = elim m [ ]

-- the second operation gives no times
abbrev Rowless : Reading → Type 0
Rowless (gives log row) = row ≡ []
Rowless (refuses k q r) = Unit {0}

items_rowless : (p : Plan) (ks : List Kind) (ws : List ℕ) (log_room : ℕ) → Rowless (items_read p ks ws log_room)
unfolding items_read
items_rowless p ks ws log_room = go (legal p ks) (leb (length ws) 349525) (onward (run_numbers ks p.parity (counted 0 ws) Nothing 0) finish)
  where
    log_one : (b : Bool) (log : List ℕ) → Rowless (cond b (gives log []) (refuses 6 (length log) 0))
    log_one true log = refl
    log_one false log = tt

    fault_one : (f : Fault) (log : List ℕ) → Rowless (unless_found f (log_roomed log_room log))
    fault_one none log = log_one (leb (length log) 32768 && leb (length log) log_room) log
    fault_one (found k q) log = tt

    got_one : (g : Got) → Rowless (items_settled log_room (counted 0 ws) g)
    got_one (stopped k q r) = tt
    got_one (got is) = fault_one (open_fault (first_word_of (places_of (counted 0 ws)) is) is) (log_of is)

    go : (a b : Bool) (g : Got) → Rowless (cond a (cond b (items_settled log_room (counted 0 ws) g) (refuses 8 (length ws) 0)) (refuses 1 0 0))
    go true true g = got_one g
    go true false g = tt
    go false b g = tt

row_none : (log row : List ℕ) (r : Reading) → Rowless r → r ≡ gives log row → r ≡ gives log []
row_none log row (gives l x) z e = let i : l ≡ log = cc in rw (i, z)
row_none log row (refuses k q r) z e = no_gives e

module _ (p : Plan) (ks : List Kind) (c : List ℕ) (wordRoom time_room log_room : ℕ) (log times : List ℕ)
    (bytes : Bytes c) (wordsFit : length c / (3 * group_words p) * slots p ≤ wordRoom) (timesFit : times_needed p (length c / (3 * group_words p)) ≤ time_room) where
  abbrev Both : Type 0
  Both = (ws : List ℕ) × (words_read p ks c wordRoom time_room ≡ gives ws times) × (items_read p ks ws log_room ≡ gives log [])

  pub plain_both : reading false p ks c log_room time_room ≡ gives log times → Both
  plain_both e = go (words_read p ks c wordRoom time_room) refl (split p ks c wordRoom time_room log_room bytes)
    where
      go : (r : Reading) → words_read p ks c wordRoom time_room ≡ r → Splits p ks c wordRoom time_room log_room r → Both
      go (gives ws ts) i z =
          let g = log_given p ts log times (items_read p ks ws log_room) (sym z ∙ e) in
          (ws, i ∙ ap (gives ws) g.2, row_none log g.0 (items_read p ks ws log_room) (items_rowless p ks ws log_room) g.1)
      go (refuses k q r) i (inl h) = absurd (omega arith)
      go (refuses k q r) i (inr (inl h)) = absurd (omega arith)
      go (refuses k q r) i (inr (inr m)) = met_none (reading false p ks c log_room time_room) m e

  pub both_plain : Both → reading false p ks c log_room time_room ≡ gives log times
  both_plain b =
      let s : Splits p ks c wordRoom time_room log_room (gives b.0 times) = rw b.1 at (split p ks c wordRoom time_room log_room bytes) in
      s ∙ ap (in_capture p times) b.2

-- "where the first gives one of 9 to 12, plain reading gives the same, or a 13 in an earlier group"; and where it gives 1 or 8, the same
pub first_refuses : (p : Plan) (ks : List Kind) (c : List ℕ) (wordRoom time_room log_room k q second : ℕ) → Bytes c
    → length c / (3 * group_words p) * slots p ≤ wordRoom → times_needed p (length c / (3 * group_words p)) ≤ time_room
    → words_read p ks c wordRoom time_room ≡ refuses k q second → Meets (group_words p) k q second (reading false p ks c log_room time_room)
first_refuses p ks c wordRoom time_room log_room k q second bytes wordsFit timesFit e = go (rw e at (split p ks c wordRoom time_room log_room bytes))
  where
    go : Splits p ks c wordRoom time_room log_room (refuses k q second) → Meets (group_words p) k q second (reading false p ks c log_room time_room)
    go (inl h) = absurd (omega arith)
    go (inr (inl h)) = absurd (omega arith)
    go (inr (inr m)) = m
