-- What the user is promised of the calls on captures (document 02), as theorems over the definitions. The proofs stand in the modules
-- under Laws that each names.
use Rattle.std.specs.Prelude.{ℕ, ◌*◌, ◌^◌, ◌≤◌, ◌<◌, false, true, ◌≡◌, ◌↔◌, List, [], ◌∷◌, ◌++◌, length}
use Rattle.format.specs.Lists.{All, Bytes}
use Rattle.format.specs.Plan.{legal, slots, group_words, times_needed}
use Rattle.format.specs.Read.{reading, gives, refuses, groups_in}
use Rattle.format.specs.Reader.{run, ran, begun, counted}
use Rattle.capture_rules.specs.Split.{words_read, items_read, in_capture}
use Rattle.capture_rules.proofs.Laws.Split.Large as Large
use Rattle.capture_rules.proofs.Laws.Split.Whole.{Meets}
use Rattle.capture_rules.proofs.Laws.Split.Whole as Split
use Rattle.capture_rules.specs.Laws.Split.Second as SplitSecond
use Rattle.format.specs.declared.Item.{Item}
use Rattle.format.specs.declared.Held.{Held}
use Rattle.format.specs.declared.Held.TheVariants.{Nothing}
use Rattle.format.specs.declared.Kind.{Kind}
use Rattle.format.specs.declared.Plan.{Plan}

-- ---- K3: the reading in two operations

-- "given room, plain reading accepts exactly when both operations do, with the same log and times"
pub plain_is_both : (p : Plan) (ks : List Kind) (c : List ℕ) (wordRoom time_room log_room : ℕ) (log times : List ℕ) → Bytes c
    → groups_in p c * slots p ≤ wordRoom → times_needed p (groups_in p c) ≤ time_room
    → (reading false p ks c log_room time_room ≡ gives log times)
    ↔ ((ws : List ℕ) × (words_read p ks c wordRoom time_room ≡ gives ws times) × (items_read p ks ws log_room ≡ gives log []))
plain_is_both p ks c wordRoom time_room log_room log times bytes wordsFit timesFit =
    (Split.plain_both p ks c wordRoom time_room log_room log times bytes wordsFit timesFit, Split.both_plain p ks c wordRoom time_room log_room log times bytes wordsFit timesFit)

-- where the first gives words, plain reading is the second on these words: its log with the first's times, or its refusal, a 13 or 15
-- at the stored place of that word, and the second place of a 13 (K8) likewise
pub plain_by_words : (p : Plan) (ks : List Kind) (c ws times : List ℕ) (wordRoom time_room log_room : ℕ) → Bytes c
    → words_read p ks c wordRoom time_room ≡ gives ws times → reading false p ks c log_room time_room ≡ in_capture p times (items_read p ks ws log_room)
plain_by_words p ks c ws times wordRoom time_room log_room bytes e = rw e at (Split.split p ks c wordRoom time_room log_room bytes)

-- "where the first gives one of 9 to 12, plain reading gives the same, or a 13 in an earlier group" (and where it gives 1 or 8)
pub first_then_plain : (p : Plan) (ks : List Kind) (c : List ℕ) (wordRoom time_room log_room k q second : ℕ) → Bytes c
    → groups_in p c * slots p ≤ wordRoom → times_needed p (groups_in p c) ≤ time_room
    → words_read p ks c wordRoom time_room ≡ refuses k q second → Meets (group_words p) k q second (reading false p ks c log_room time_room)
first_then_plain = Split.first_refuses

-- "13 (also for a number above 24 bits)": behind words that run to items and what is held then, at its place, with the second place that
-- what is held says (`begun`, K8)
pub large_number : (p : Plan) (ks : List Kind) (ws vs : List ℕ) (w log_room : ℕ) → legal p ks ≡ true → length (ws ++ w ∷ vs) ≤ 349525
    → All (λ n. n < 2 ^ 24) ws → 2 ^ 24 ≤ w → (is : List Item) (h : Held) (at : ℕ) → run ks p.parity (counted 0 ws) Nothing 0 ≡ ran is h at
    → items_read p ks (ws ++ w ∷ vs) log_room ≡ refuses 13 (length ws) (begun h at (length ws))
large_number = Large.large_refused

-- K8: "In every other answer the second place is 0."
pub words_second : (p : Plan) (ks : List Kind) (c : List ℕ) (wordRoom time_room n place second : ℕ)
    → words_read p ks c wordRoom time_room ≡ refuses n place second → (n ≡ 13 → ⊥) → second ≡ 0
words_second p ks c wordRoom time_room n place second e = rw e at (SplitSecond.words_only p ks c wordRoom time_room)

pub items_second : (p : Plan) (ks : List Kind) (ws : List ℕ) (log_room n place second : ℕ)
    → items_read p ks ws log_room ≡ refuses n place second → (n ≡ 13 → ⊥) → second ≡ 0
items_second p ks ws log_room n place second e = rw e at (SplitSecond.items_only p ks ws log_room)
