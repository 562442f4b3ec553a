-- What the closed reading accepts, composing makes of the log and times that it gives.
use Rattle.std.specs.Prelude.{ℕ, zero, suc, ◌+◌, ◌*◌, ◌/◌, ◌^◌, ◌-◌, ◌<◌, ◌≤◌, Bool, true, false, ◌≡◌, refl, get_or}
use Rattle.std.proofs.Math.Nat.{div-eq_of_lt-le}
use Rattle.std.proofs.Common.{div-add-mod', sym, ◌∙◌, length-append}
use Rattle.std.proofs.Math.Decide.{dec_lt}
use native.Mathlib.Omega.{arith}
use Rattle.std.proofs.Math.Bool.{cond}
use Rattle.std.proofs.Math.Path.{ap}
use mathlib.Core.List.{List, [], ◌∷◌, map, flat_map}
use Rattle.std.proofs.Math.ListN.{length, get_or-eq_default}
use Rattle.std.proofs.lemmas.List.{length-map}
use borrow.Author.Tests.{le-leb, eq-eqb, lt-ltb}
use Rattle.format.specs.Plan.{group_words, slots}
use Rattle.format.specs.Item.{item_words}
use Rattle.format.specs.Log.{parsed, on_plan, items, log_of}
use Rattle.format.specs.Lists.{All, Bytes}
use Rattle.format.specs.Group.{group_time, time_info, group_fault, none}
use Rattle.format.specs.Compose.{made, composed, compose_words, capture_of, groups_for, first_late}
use Rattle.format.specs.Read.{gives, reading, slots_from}
use Rattle.format.specs.Reader.{data_of}
use Rattle.format.specs.Lawful.{Lawful}
use Rattle.format.specs.Word.{bare}
use Rattle.format.specs.Time.{time_end}
use Rattle.format.specs.Laws.Tests.{clash}
use Rattle.format.specs.Laws.Lists.{all_map, length_list, get_or_list, all_left}
use Rattle.format.specs.Laws.Word.Parts.{info_low}
use Rattle.format.specs.Laws.Log.Back.{log_back}
use Rattle.format.proofs.Laws.Reader.Groups.{Faultless}
use Rattle.format.specs.Laws.Notices.{answered_composed}
use Rattle.format.specs.Laws.Limits.{free}
use Rattle.format.specs.Laws.Legal.{Legal, legal_is, lawful_logged}
use Rattle.format.proofs.Laws.Accepted.Faultless.{accepted}
use Rattle.format.proofs.Laws.Accepted.Tidy.{AllTidy, all_tidy}
use Rattle.format.proofs.Laws.Accepted.Stored.{times_are}
use Rattle.format.proofs.Laws.Accepted.Exact.{exact, slots_low, slots_count, faultless_at}
use Rattle.format.specs.Laws.Accepted.Given.{ReadOf, read_by}
use Rattle.format.specs.declared.Plan.{Plan}
use Rattle.format.specs.declared.Kind.{Kind}

-- no time is late
pub none_late : (ts : List ℕ) (i : ℕ) → ((g : ℕ) → get_or ts g 0 < time_end) → first_late i ts ≡ i + length ts
unfolding first_late
none_late [] i h = omega arith
none_late (t ∷ ts) i h = rw (lt-ltb t time_end (h 0), none_late ts (i + 1) (λ g. h (suc g))) (omega arith)

-- the number of groups is the fewest
fewest_is : (p : Plan) → 1 ≤ slots p → (n d : ℕ) → d ≤ n * slots p → (1 ≤ n → n * slots p < d + slots p) → n ≡ groups_for p d
unfolding groups_for
fewest_is p h n d a b = sym (div-eq_of_lt-le (slots p) (low n b) (omega arith))
  where
    low : (m : ℕ) → (1 ≤ m → m * slots p < d + slots p) → m * slots p ≤ d + slots p - 1
    low zero b = omega arith
    low (suc m) b = omega (arith, b (omega arith))

module _ (p : Plan) (ks : List Kind) (sixteen : length ks ≡ 16) (c log times : List ℕ) (bytes : Bytes c) (k : ReadOf true p ks c log times) where
  l : Legal p ks
  l = legal_is p ks k.lawful

  abbrev N : ℕ
  N = length c / (3 * group_words p)

  abbrev ws : List ℕ
  ws = flat_map item_words k.its

  t : AllTidy p c N 0
  t = all_tidy p (free p l.shape) c N 0 k.placed

  split : All (λ w. w < 2 ^ 24) (data_of (slots_from p c N 0)) × All (λ w. w < 2 ^ 24) t.fills
  split = all_left (data_of (slots_from p c N 0)) t.fills (rw t.is at (slots_low p c bytes N 0))

  a : Faultless p c N 0 × (map (bare p.parity) (data_of (slots_from p c N 0)) ≡ ws) × All (Lawful ks) k.its
  a = accepted p ks c N k.its k.reads split.0

  fits : N ≡ groups_for p (length ws)
  fits =
      let e : length ws ≡ length (data_of (slots_from p c N 0)) = ap length (sym a.1) ∙ length-map (data_of (slots_from p c N 0)) (bare p.parity) in
      let s : length (data_of (slots_from p c N 0)) + length t.fills ≡ N * slots p = sym (length-append (data_of (slots_from p c N 0)) t.fills) ∙ ap length (sym t.is) ∙ slots_count p c N 0 in
      rw e (fewest_is p (free p l.shape) N (length (data_of (slots_from p c N 0))) (omega arith) t.fewest)

  size : length c ≡ N * (3 * group_words p)
  size = omega (arith, div-add-mod' (length c) (3 * group_words p), k.evenly)

  abbrev need : ℕ
  need = cond p.frame_time N 0

  abbrev clock_at : ℕ → ℕ
  clock_at g = group_time p c (g * group_words p)

  times_length : length times ≡ need
  times_length = ap length (sym k.timed) ∙ length_list clock_at 0 need

  time_at : (g : ℕ) → g < need → get_or times g 0 ≡ clock_at g
  time_at g h =
      let z : 0 + g ≡ g = omega arith in
      ap (λ (x : List ℕ). get_or x g 0) (sym k.timed) ∙ get_or_list clock_at 0 need g 0 h ∙ ap clock_at z

  clock : p.frame_time ≡ true → (g : ℕ) → g < N → get_or times g 0 ≡ clock_at g
  clock e g h = time_at g (go p.frame_time e)
    where
      go : (b : Bool) → b ≡ true → g < cond b N 0
      go true z = h
      go false z = clash z

  clock_low : p.frame_time ≡ true → (g : ℕ) → g < N → clock_at g < time_end
  unfolding group_time
  clock_low e g h =
      let z : 0 + g ≡ g = omega arith in
      let n : group_fault p c (g * group_words p) ≡ none = rw z at (faultless_at p c N 0 g a.0 h) in
      small (time_info p c (g * group_words p) 0) (time_info p c (g * group_words p) 1) (time_info p c (g * group_words p) 2) (info_low _) (info_low _) (times_are p c (g * group_words p) n e).3
    where
      small : (x y m : ℕ) → x < 65536 → y < 65536 → m < 10000 → 10000 * (65536 * x + y) + m < time_end
      small x y m f g h = omega arith

  timely : (g : ℕ) → get_or times g 0 < time_end
  timely g = go (dec_lt g need) p.frame_time refl
    where
      inside : (b : Bool) → p.frame_time ≡ b → g < cond b N 0 → (p.frame_time ≡ true) × (g < N)
      inside true e h = (e, h)
      inside false e h = absurd (omega arith)

      go : Dec (g < need) → (b : Bool) → p.frame_time ≡ b → get_or times g 0 < time_end
      go (yes h) b e =
          let i = inside p.frame_time refl h in
          rw (time_at g h) (clock_low i.0 g i.1)
      go (no h) b e =
          let m : length times ≤ g = omega (arith, times_length) in
          let z : get_or times g 0 ≡ 0 = get_or-eq_default times 0 m in
          omega arith

  composed_is : (space : ℕ) → length c ≤ space → composed p ks log times space ≡ made c
  unfolding composed compose_words
  composed_is space room =
      let lb : parsed (on_plan ks) (log_of k.its) ≡ items k.its = log_back (on_plan ks) k.its (all_map (λ i w. lawful_logged ks sixteen i w) a.2) k.short in
      let pl : parsed (on_plan ks) log ≡ items k.its = rw k.logged at lb in
      let tl : length times ≡ cond p.frame_time (groups_for p (length ws)) 0 = times_length ∙ ap (λ (x : ℕ). cond p.frame_time x 0) fits in
      let late : first_late 0 times ≡ length times = none_late times 0 timely ∙ omega arith in
      let fine : groups_for p (length ws) * (3 * group_words p) ≤ space = rw (← fits) (omega (arith, size)) in
      let ex : capture_of p times ws ≡ c = exact p ks l c bytes N a.0 t ws a.1 times fits timely clock size in
      rw (
        k.lawful,
        pl,
        answered_composed p times space k.its k.answered,
        eq-eqb (length times) (cond p.frame_time (groups_for p (length ws)) 0) tl,
        eq-eqb (first_late 0 times) (length times) late,
        le-leb (groups_for p (length ws) * (3 * group_words p)) space fine,
        ex,
      )

-- closed exactly: what the closed reading accepts, composing makes again, byte for byte
pub closed_exactly : (p : Plan) (ks : List Kind) (c log times : List ℕ) (log_room time_room space : ℕ) → length ks ≡ 16 → Bytes c
    → reading true p ks c log_room time_room ≡ gives log times → length c ≤ space → composed p ks log times space ≡ made c
closed_exactly p ks c log times log_room time_room space sixteen bytes e h = composed_is p ks sixteen c log times bytes (rw e at (read_by true p ks c log_room time_room)) space h
