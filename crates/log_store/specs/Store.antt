-- One event as the code has it: what is written of an item, and where the replay then stands.
use Rattle.std.specs.Prelude.{ℕ, ◌+◌, ◌*◌, ◌≤◌, Bool, cond, ◌≡◌, length, eqb}
use mathlib.Core.List.{List, [], ◌∷◌, ◌++◌, flat_map}
use Rattle.format.specs.Item.{item_bits}
use Rattle.format.specs.Log.{on_no_plan}
use Rattle.format.specs.declared.Item.{Item}
use Rattle.format.specs.declared.Item.TheVariants.{Overflow}
use Rattle.log_rules.specs.Replay.{Buffer, arrive, leave}
use Rattle.log_rules.specs.Laws.Ahead.{Ahead}
use Rattle.log_write.specs.declared.Pen.{Pen}
use Rattle.log_write.specs.Pen.{Wrote}
use Rattle.log_buffer.specs.declared.Level.{Level}
use Rattle.log_buffer.specs.Level.{level_of}
use Rattle.log_store.specs.declared.State.{State}

-- ---- what is written of an item

abbrev pub mark_of : Level → Item
mark_of l = Overflow l.bus l.unmarked

abbrev pub stored_by : Level → Item → Bool → List Item
stored_by l i stored = cond stored (cond (eqb l.unmarked 0) [] (mark_of l ∷ []) ++ i ∷ []) []

abbrev pub Puts : Level → Item → Bool → List ℕ → Pen → List ℕ → Pen → Type 0
Puts l i stored built pen built' r =
    ((bits : List ℕ) → Wrote bits built pen → Wrote (bits ++ flat_map item_bits (stored_by l i stored)) built' r) × (r.bits ≤ pen.bits + 178)

-- ---- one event

-- the code stands where the definition has this buffer and these items to come
pub record Holds (log : List ℕ) (rest : List Item) (s : Buffer) (built : List ℕ) (st : State) : Type 0 where
  pub ahead : Ahead on_no_plan log st.at.at rest
  pub level : st.level ≡ level_of s
  pub wrote : Wrote (flat_map item_bits s.stored) built st.pen

-- after n events
abbrev pub Bounded : ℕ → State → Type 0
Bounded n st =
    (st.level.held ≤ 4096) × (st.level.sent ≤ n * 4096) × (st.level.lost ≤ n) × (st.level.unmarked ≤ n) × (st.pen.bits ≤ n * 178)

-- the items to come and the buffer, after an event
abbrev pub rest_after : ℕ → List Item → List Item
rest_after e [] = []
rest_after e (i ∷ is) = cond (eqb e 0) is (i ∷ is)

abbrev pub buffer_after : ℕ → ℕ → ℕ → List Item → Buffer → Buffer
buffer_after capacity slots e [] s = cond (eqb e 0) s (leave slots s)
buffer_after capacity slots e (i ∷ is) s = cond (eqb e 0) (arrive capacity s i) (leave slots s)

abbrev pub Turns : List ℕ → ℕ → ℕ → ℕ → List ℕ → State → List ℕ → State → Type 0
Turns log e capacity slots built st built' r =
    ((rest : List Item) (s : Buffer) → Holds log rest s built st → (e ≡ 0 → 1 ≤ length rest)
    → Holds log (rest_after e rest) (buffer_after capacity slots e rest s) built' r)
    × ((n : ℕ) → capacity ≤ 4096 → Bounded n st → Bounded (n + 1) r)
