-- "Refusals: 1, 8, then 6, 7, then 20 for too little report room (entries needed)." (document 02, K10)
use Rattle.std.specs.Prelude.{ℕ, ◌*◌, ◌%◌, ◌≤◌, ◌<◌, Bool, ◌&&◌, ◌≡◌, List, [], length, leb, eqb}
use Rattle.std.proofs.Common.{arith, leb-true, leb-false}
use Rattle.std.proofs.Math.Bool.{true, false, cond}
use Rattle.std.proofs.Math.Path.{refl}
use Rattle.format.specs.Log.{log_of}
use Rattle.format.specs.Plan.{group_words, legal}
use Rattle.format.specs.Read.{groups_in}
use Rattle.salvage_rules.specs.Salvage.{Entry, Salvage, saves, forgoes, saved_in, salvage_groups, kept_times, salvaged, salvage_answer}
use Rattle.format.specs.declared.Kind.{Kind}
use Rattle.format.specs.declared.Plan.{Plan}

-- at most 1,048,576 bytes, and whole groups
abbrev pub whole_groups : Plan → List ℕ → Bool
whole_groups p c = leb (length c) 1048576 && eqb (length c % (3 * group_words p)) 0

-- what is to be given: the log, the times, the report
abbrev pub saved_log : Plan → List Kind → List ℕ → List ℕ
saved_log p ks c = log_of (salvage_groups p ks c (groups_in p c)).its

abbrev pub saved_times : Plan → List ℕ → List ℕ
saved_times p c = cond p.frame_time (kept_times p c (groups_in p c) 0) []

abbrev pub saved_report : Plan → List Kind → List ℕ → List Entry
saved_report p ks c = (salvage_groups p ks c (groups_in p c)).report

-- "output too short, or a log above 32,768"
abbrev pub log_fits : List ℕ → ℕ → Bool
log_fits log room = leb (length log) 32768 && leb (length log) room

-- each number with its place, and what is so where it is given: the first of the five that holds
pub data Refused (p : Plan) (ks : List Kind) (c : List ℕ) (log_room time_room reportRoom : ℕ) : ℕ → ℕ → Type 0 where
  plan_illegal : legal p ks ≡ false → Refused p ks c log_room time_room reportRoom 1 0
  not_whole : legal p ks ≡ true → whole_groups p c ≡ false → Refused p ks c log_room time_room reportRoom 8 (length c)
  log_long : legal p ks ≡ true → whole_groups p c ≡ true → log_fits (saved_log p ks c) log_room ≡ false
      → Refused p ks c log_room time_room reportRoom 6 (length (saved_log p ks c))
  times_many : legal p ks ≡ true → whole_groups p c ≡ true → log_fits (saved_log p ks c) log_room ≡ true → time_room < length (saved_times p c)
      → Refused p ks c log_room time_room reportRoom 7 (length (saved_times p c))
  report_long : legal p ks ≡ true → whole_groups p c ≡ true → log_fits (saved_log p ks c) log_room ≡ true → length (saved_times p c) ≤ time_room
      → reportRoom < length (saved_report p ks c) → Refused p ks c log_room time_room reportRoom 20 (length (saved_report p ks c))

same_forgoes : {n q n' q' : ℕ} → forgoes n q ≡ forgoes n' q' → (n ≡ n') × (q ≡ q')
same_forgoes e = (cc, cc)

no_forgoes : {A : Type 0} {n q : ℕ} {log times : List ℕ} {report : List Entry} → saves log times report ≡ forgoes n q → A
no_forgoes e = let z : ◌≡◌ {A = ℕ} 0 1 = cc in absurd (omega arith)

module _ (p : Plan) (ks : List Kind) (c : List ℕ) (log_room time_room reportRoom k q : ℕ) where
  abbrev R : ℕ → ℕ → Type 0
  R n place = Refused p ks c log_room time_room reportRoom n place

  is : (n place : ℕ) → R n place → forgoes n place ≡ forgoes k q → R k q
  is n place r e =
      let s = same_forgoes e in
      rw (← s.0, ← s.1) r

  abbrev timed : Bool → Bool → Salvage
  timed a b =
      cond a (cond b (saves (saved_log p ks c) (saved_times p c) (saved_report p ks c)) (forgoes 20 (length (saved_report p ks c)))) (forgoes 7 (length (saved_times p c)))

  roomed : legal p ks ≡ true → whole_groups p c ≡ true → (f a b : Bool) → log_fits (saved_log p ks c) log_room ≡ f
      → leb (length (saved_times p c)) time_room ≡ a → leb (length (saved_report p ks c)) reportRoom ≡ b
      → cond f (timed a b) (forgoes 6 (length (saved_log p ks c))) ≡ forgoes k q → R k q
  roomed l w false a b f t r e = is 6 _ (log_long l w f) e
  roomed l w true false b f t r e = is 7 _ (times_many l w f (leb-false _ _ t)) e
  roomed l w true true false f t r e = is 20 _ (report_long l w f (leb-true _ _ t) (leb-false _ _ r)) e
  roomed l w true true true f t r e = no_forgoes e

  pub refused_by : salvaged p ks c log_room time_room reportRoom ≡ forgoes k q → R k q
  unfolding salvaged
  refused_by e = go (legal p ks) (whole_groups p c) refl refl e
    where
      go : (a b : Bool) → legal p ks ≡ a → whole_groups p c ≡ b
          → cond a (cond b (saved_in log_room time_room reportRoom (saved_log p ks c) (saved_times p c) (saved_report p ks c)) (forgoes 8 (length c))) (forgoes 1 0) ≡ forgoes k q → R k q
      go false b l w e = is 1 0 (plan_illegal l) e
      go true false l w e = is 8 (length c) (not_whole l w) e
      go true true l w e =
          roomed l w (log_fits (saved_log p ks c) log_room) (leb (length (saved_times p c)) time_room) (leb (length (saved_report p ks c)) reportRoom) refl refl refl e

-- "In every other answer the second place is 0" (K8)
pub answer_none : (m : Salvage) → (salvage_answer m).second ≡ 0
answer_none (saves log times report) = refl
answer_none (forgoes n p) = refl
