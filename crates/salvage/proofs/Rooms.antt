-- Rooms judged, and what is handed over then.
use Prim.Native.Nat.{ℕ, ◌+◌, ◌*◌, ◌/◌, ◌%◌, ◌<◌, ◌≤◌}
use native.Mathlib.Nat.{div-add-mod'}
use native.Mathlib.Omega.{arith}
use mathlib.Core.Bool.{Bool, true, false, cond, ◌&&◌}
use mathlib.Core.Path.{◌≡◌, refl, sym, ap, ap₂, ◌∙◌}
use mathlib.Core.List.{List, [], ◌∷◌, ◌++◌, map}
use lib.ListN.{length, take, drop, length-map}
use lib.Dec.{leb, eqb}
use borrow.Author.Tests.{le-leb, lt-leb, leb-true, leb-false}
use Rattle.format.specs.Answer.{over}
use Rattle.format.specs.Log.{log_of}
use Rattle.format.specs.Plan.{group_words, legal}
use Rattle.format.specs.Laws.Limits.{Shape, some_words}
use Rattle.format.specs.Laws.Tests.{and_true}
use Rattle.format.specs.declared.Kind.{Kind}
use Rattle.format.specs.declared.Plan.{Plan}
use Rattle.salvage_rules.specs.declared.Salvaged.{Salvaged}
use Rattle.salvage_rules.specs.Salvage.{Entry, Salvage, saves, forgoes, Saved, Saves, saved_in, salvage_answer, salvage_groups, salvaged, entry_number}
use Rattle.salvage_run.specs.Tape.{laid}
use Rattle.salvage_run.proofs.Went.{laid_over}
use Rattle.salvage_groups.specs.declared.Tally.{Tally}
use Rattle.salvage_groups.specs.Tally.{Tallied, time_row}
use Rattle.salvage.specs.Room.{room_number, saved_groups, saved_of}

-- ---- the number, as the code tests

module _ (t : Tally) (log_room time_room reportRoom : ℕ) where
  abbrev number : ℕ
  number = room_number t log_room time_room reportRoom

  pub long_log : 32768 < t.bytes → 6 ≡ number
  long_log h = rw (lt-leb t.bytes 32768 h) refl

  pub short_log : t.bytes ≤ 32768 → log_room < t.bytes → 6 ≡ number
  short_log a h = rw (le-leb t.bytes 32768 a, lt-leb t.bytes log_room h) refl

  pub short_times : t.bytes ≤ 32768 → t.bytes ≤ log_room → time_room < t.times → 7 ≡ number
  short_times a b h = rw (le-leb t.bytes 32768 a, le-leb t.bytes log_room b, lt-leb t.times time_room h) refl

  pub short_report : t.bytes ≤ 32768 → t.bytes ≤ log_room → t.times ≤ time_room → reportRoom < t.entries → 20 ≡ number
  short_report a b d h = rw (le-leb t.bytes 32768 a, le-leb t.bytes log_room b, le-leb t.times time_room d, lt-leb t.entries reportRoom h) refl

  pub room_for_all : t.bytes ≤ 32768 → t.bytes ≤ log_room → t.times ≤ time_room → t.entries ≤ reportRoom → 0 ≡ number
  room_for_all a b d h = rw (le-leb t.bytes 32768 a, le-leb t.bytes log_room b, le-leb t.times time_room d, le-leb t.entries reportRoom h) refl

-- ---- what it means

-- a refusal by this number, or there is room for all
pub record Enough (t : Tally) (log_room time_room reportRoom : ℕ) : Type 0 where
  pub short : t.bytes ≤ 32768
  pub log : t.bytes ≤ log_room
  pub times : t.times ≤ time_room
  pub entries : t.entries ≤ reportRoom

-- what the number says of the answer
pub record Judges (p : Plan) (ks : List Kind) (c : List ℕ) (n log_room time_room reportRoom : ℕ) (t : Tally) (k : ℕ) : Type 0 where
  pub six : k ≡ 6 → saved_of p ks c n log_room time_room reportRoom ≡ forgoes 6 t.bytes
  pub seven : k ≡ 7 → saved_of p ks c n log_room time_room reportRoom ≡ forgoes 7 t.times
  pub twenty : k ≡ 20 → saved_of p ks c n log_room time_room reportRoom ≡ forgoes 20 t.entries
  pub enough : (k ≡ 6 → ⊥) → (k ≡ 7 → ⊥) → (k ≡ 20 → ⊥) → Enough t log_room time_room reportRoom
  pub all : (k ≡ 6 → ⊥) → (k ≡ 7 → ⊥) → (k ≡ 20 → ⊥)
      → saved_of p ks c n log_room time_room reportRoom ≡ saves (log_of (salvage_groups p ks c n).its) (time_row p c n) (salvage_groups p ks c n).report

module _ (p : Plan) (ks : List Kind) (c : List ℕ) (n log_room time_room reportRoom : ℕ) (t : Tally) where
  abbrev s : Saved
  s = salvage_groups p ks c n

  module _ (a : t.bytes ≡ length (log_of s.its)) (b : t.times ≡ length (time_row p c n)) (d : t.entries ≡ length s.report) where
    -- the definition, by the numbers of the tally
    abbrev judged : Bool → Bool → Bool → Salvage
    judged x y z = cond x (cond y (cond z (saves (log_of s.its) (time_row p c n) s.report) (forgoes 20 t.entries)) (forgoes 7 t.times)) (forgoes 6 t.bytes)

    by_tally : saved_of p ks c n log_room time_room reportRoom ≡ judged (leb t.bytes 32768 && leb t.bytes log_room) (leb t.times time_room) (leb t.entries reportRoom)
    by_tally = rw (a, b, d) refl

    abbrev told : Bool → Bool → Bool → ℕ
    told x y z = cond x (cond y (cond z 0 20) 7) 6

    refused_by : (x y z : Bool) (k : ℕ) → told x y z ≡ k → (k ≡ 6 → judged x y z ≡ forgoes 6 t.bytes) × (k ≡ 7 → judged x y z ≡ forgoes 7 t.times)
        × (k ≡ 20 → judged x y z ≡ forgoes 20 t.entries) × ((k ≡ 6 → ⊥) → (k ≡ 7 → ⊥) → (k ≡ 20 → ⊥) → (x ≡ true) × (y ≡ true) × (z ≡ true))
    refused_by true true true k e = (λ f. absurd (omega arith), λ f. absurd (omega arith), λ f. absurd (omega arith), λ f g h. (refl, refl, refl))
    refused_by true true false k e = (λ f. absurd (omega arith), λ f. absurd (omega arith), λ f. refl, λ f g h. absurd (h (sym e)))
    refused_by true false z k e = (λ f. absurd (omega arith), λ f. refl, λ f. absurd (omega arith), λ f g h. absurd (g (sym e)))
    refused_by false y z k e = (λ f. refl, λ f. absurd (omega arith), λ f. absurd (omega arith), λ f g h. absurd (f (sym e)))

    pub by : (k : ℕ) → k ≡ room_number t log_room time_room reportRoom → Judges p ks c n log_room time_room reportRoom t k
    by k e =
        let x : Bool = leb t.bytes 32768 && leb t.bytes log_room in
        let y : Bool = leb t.times time_room in
        let z : Bool = leb t.entries reportRoom in
        let r = refused_by x y z k (sym e) in
        record {
          six = λ f. by_tally ∙ r.0 f;
          seven = λ f. by_tally ∙ r.1 f;
          twenty = λ f. by_tally ∙ r.2 f;
          enough = λ f g h.
              let q = r.3 f g h in
              let l = and_true (leb t.bytes 32768) (leb t.bytes log_room) q.0 in
              record {
                short = leb-true t.bytes 32768 l.0;
                log = leb-true t.bytes log_room l.1;
                times = leb-true t.times time_room q.1;
                entries = leb-true t.entries reportRoom q.2;
              };
          all = λ f g h. let q = r.3 f g h in by_tally ∙ rw (q.0, q.1, q.2) refl;
        }

-- ---- what is handed over

-- a refusal leaves all three as they were
pub denies_by : (m : Salvage) (k q : ℕ) (r : Salvaged) (log times report : List ℕ) → m ≡ forgoes k q → r ≡ salvage_answer (forgoes k q) → Saves m r log log times times report report
denies_by m k q r log times report e f = rw e (f, refl, refl, refl)

module _ (p : Plan) (ks : List Kind) (c : List ℕ) (n : ℕ) (log log' times times' report report' : List ℕ) (t : Tally) where
  pub hands_over : {u : Tally} {built out no_times no-times' no-report no-report' : List ℕ} → Tallied ks p c n t built no_times no-times' no-report no-report'
      → Tallied ks p c n u out times times' report report' → Enough t (length log) (length times) (length report) → t.bytes + 7 ≤ length built
      → log' ≡ take t.bytes built ++ drop t.bytes log
      → saved_of p ks c n (length log) (length times) (length report) ≡ saves (log_of (salvage_groups p ks c n).its) (time_row p c n) (salvage_groups p ks c n).report
      → Saves (saved_of p ks c n (length log) (length times) (length report))
      (record { number = 0; place = 0; second = 0; bytes = t.bytes; times = t.times; entries = t.entries }) log log' times times' report report'
  hands_over {u} {built} a b h room e s =
      let es : List ℕ = map entry_number (salvage_groups p ks c n).report in
      let few : length (time_row p c n) ≤ length times = omega (arith, a.number_times, h.times) in
      let k : length es ≡ length (salvage_groups p ks c n).report = length-map (salvage_groups p ks c n).report entry_number in
      let fits : length es ≤ length report = omega (arith, k, a.number_entries, h.entries) in
      rw s (
        rw (a.bytes, a.number_times, a.number_entries) refl,
        e ∙ ap₂ (λ (x : List ℕ) (y : ℕ). x ++ drop y log) (a.log room) a.bytes,
        b.times_laid ∙ laid_over (time_row p c n) times few,
        b.entries_laid ∙ laid_over es report fits,
      )

-- ---- whole groups

pub whole_groups : (p : Plan) → Shape p → (size : ℕ) → size % (3 * group_words p) ≡ 0 → size ≡ size / (3 * group_words p) * (3 * group_words p)
whole_groups p s size e = omega (arith, div-add-mod' size (3 * group_words p))

module _ (p : Plan) (ks : List Kind) (c : List ℕ) (log_room time_room reportRoom : ℕ) where
  pub not_legal : legal p ks ≡ false → salvaged p ks c log_room time_room reportRoom ≡ forgoes 1 0
  unfolding salvaged
  not_legal e = rw e refl

  pub too_long : legal p ks ≡ true → 1048576 < length c → salvaged p ks c log_room time_room reportRoom ≡ forgoes 8 (length c)
  unfolding salvaged
  too_long e h = rw (e, lt-leb (length c) 1048576 h) refl

  pub not_whole : legal p ks ≡ true → length c ≤ 1048576 → eqb (length c % (3 * group_words p)) 0 ≡ false → salvaged p ks c log_room time_room reportRoom ≡ forgoes 8 (length c)
  unfolding salvaged
  not_whole e h z = rw (e, le-leb (length c) 1048576 h, z) refl

  pub is_saved : legal p ks ≡ true → length c ≤ 1048576 → eqb (length c % (3 * group_words p)) 0 ≡ true
      → salvaged p ks c log_room time_room reportRoom ≡ saved_groups p ks c log_room time_room reportRoom
  unfolding salvaged
  is_saved e h z = rw (e, le-leb (length c) 1048576 h, z) refl
