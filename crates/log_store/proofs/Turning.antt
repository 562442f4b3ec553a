-- One event.
use Prim.Native.Nat.{ℕ, ◌+◌, ◌*◌, ◌-◌, ◌≤◌}
use native.Mathlib.Omega.{arith}
use mathlib.Core.Bool.{Bool, true, false, cond}
use mathlib.Core.Path.{◌≡◌, refl, ap, ap₂, sym, subst, ◌∙◌}
use mathlib.Core.List.{List, [], ◌∷◌, ◌++◌, flat_map, append-nil}
use lib.ListN.{length}
use lib.Dec.{eqb, leb}
use borrow.Author.Tests.{leb-true, leb-false, eq-eqb, ne_eqb}
use Rattle.format.specs.Bits.{bytes_bits}
use Rattle.format.specs.Item.{item_bits}
use Rattle.format.specs.Log.{next_at, has, ends, wrong, on_no_plan}
use Rattle.format.specs.Laws.Lists.{flat_map_append}
use Rattle.format.specs.declared.Item.{Item}
use Rattle.log_rules.specs.Replay.{Buffer, arrive, leave, missed, taken}
use Rattle.log_rules.specs.Laws.Ahead.{Ahead, ahead_has, ahead_end, ahead_wrong}
use Rattle.log_read.specs.declared.Cursor.{Cursor}
use Rattle.log_write.specs.declared.Pen.{Pen}
use Rattle.log_write.specs.Pen.{Wrote}
use Rattle.log_buffer.specs.declared.Level.{Level}
use Rattle.log_buffer.specs.Level.{arrived_by, left_by, level_of, load_of, need_by, takes_by}
use Rattle.log_buffer.proofs.Levels.{arrive_level, leave_level, needs_are}
use Rattle.log_buffer.proofs.Loads.{load_few}
use Rattle.log_store.specs.declared.State.{State}
use Rattle.log_store.specs.Store.{Bounded, Holds, Puts, Turns, buffer_after, rest_after, stored_by}

-- ---- a group leaves

rest_stays : (e : ℕ) (rest : List Item) → eqb e 0 ≡ false → rest_after e rest ≡ rest
rest_stays e [] z = refl
rest_stays e (i ∷ is) z = rw z refl

buffer_leaves : (capacity slots e : ℕ) (rest : List Item) (s : Buffer) → eqb e 0 ≡ false → buffer_after capacity slots e rest s ≡ leave slots s
buffer_leaves capacity slots e [] s z = rw z refl
buffer_leaves capacity slots e (i ∷ is) s z = rw z refl

leave_stored : (slots : ℕ) (s : Buffer) → (leave slots s).stored ≡ s.stored
unfolding leave
leave_stored slots s = refl

takes_few : (slots : ℕ) (l : Level) → takes_by slots l ≤ l.held
takes_few slots l = go (leb l.held slots) refl
  where
    go : (b : Bool) → leb l.held slots ≡ b → cond b l.held slots ≤ l.held
    go true e = omega arith
    go false e = omega (arith, leb-false l.held slots e)

module _ (log : List ℕ) (e capacity slots : ℕ) (built : List ℕ) (st : State) where
  pub turns_left : (l : Level) → (e ≡ 0 → ⊥) → l ≡ left_by slots st.level → Turns log e capacity slots built st built (record { at = st.at; level = l; pen = st.pen })
  turns_left l n f = (holds, bounded)
    where
      z : eqb e 0 ≡ false
      z = ne_eqb e 0 n

      holds : (rest : List Item) (s : Buffer) → Holds log rest s built st → (e ≡ 0 → 1 ≤ length rest)
          → Holds log (rest_after e rest) (buffer_after capacity slots e rest s) built (record { at = st.at; level = l; pen = st.pen })
      holds rest s h d = rw (rest_stays e rest z, buffer_leaves capacity slots e rest s z) (record {
        ahead = h.ahead;
        level = f ∙ ap (left_by slots) h.level ∙ sym (leave_level slots s);
        wrote = subst (λ (x : List Item). Wrote (flat_map item_bits x) built st.pen) (sym (leave_stored slots s)) h.wrote;
      })

      bounded : (n : ℕ) → capacity ≤ 4096 → Bounded n st → Bounded (n + 1) (record { at = st.at; level = l; pen = st.pen })
      bounded n c b =
          let t = takes_few slots st.level in
          rw f (omega (arith, b.0, t), omega (arith, b.0, b.1, t), omega (arith, b.2), omega (arith, b.3), omega (arith, b.4))

-- ---- an item arrives

arrive_stored : (capacity : ℕ) (s : Buffer) (i : Item)
    → (arrive capacity s i).stored ≡ s.stored ++ stored_by (level_of s) i (leb (s.held + need_by s.unmarked (load_of i).words) capacity)
unfolding arrive
arrive_stored capacity s i =
    ap (λ (n : ℕ). (cond (leb (s.held + n) capacity) (taken s i) (missed s i)).stored) (needs_are s i)
    ∙ go (leb (s.held + need_by s.unmarked (load_of i).words) capacity)
  where
    go : (b : Bool) → (cond b (taken s i) (missed s i)).stored ≡ s.stored ++ stored_by (level_of s) i b
    go true = refl
    go false = sym (append-nil s.stored)

need_few : (n w : ℕ) → w ≤ 5 → need_by n w ≤ 6
need_few n w h = go (eqb n 0)
  where
    go : (b : Bool) → cond b w (w + 1) ≤ 6
    go true = omega arith
    go false = omega arith

module _ (log : List ℕ) (e capacity slots : ℕ) (built : List ℕ) (st : State) where
  module _ (i : Item) (q : Cursor) (stored : Bool) (l : Level) (built' : List ℕ) (pen : Pen) where
    abbrev st' : State
    st' = record { at = q; level = l; pen = pen }

    pub turns_arrived : e ≡ 0 → next_at (bytes_bits log) st.at.at ≡ has i q.at
        → stored ≡ leb (st.level.held + need_by st.level.unmarked (load_of i).words) capacity
        → l ≡ arrived_by st.level (load_of i) stored → Puts st.level i stored built st.pen built' pen
        → Turns log e capacity slots built st built' st'
    turns_arrived z n f g p = (holds, bounded)
      where
        fit : Level → Bool
        fit x = leb (x.held + need_by x.unmarked (load_of i).words) capacity

        first : (rest : List Item) (s : Buffer) → Holds log (i ∷ rest) s built st → Ahead on_no_plan log q.at rest
            → Holds log rest (arrive capacity s i) built' st'
        first rest s h a =
            let b : stored ≡ fit (level_of s) = f ∙ ap fit h.level in
            let k : stored_by st.level i stored ≡ stored_by (level_of s) i (fit (level_of s)) = ap₂ (λ (x : Level) (y : Bool). stored_by x i y) h.level b in
            record {
              ahead = a;
              level = g ∙ ap₂ (λ (x : Level) (y : Bool). arrived_by x (load_of i) y) h.level b ∙ sym (arrive_level capacity s i);
              wrote = subst (λ (x : List ℕ). Wrote x built' pen)
                  (ap (λ (x : List Item). flat_map item_bits s.stored ++ flat_map item_bits x) k
                  ∙ sym (flat_map_append item_bits s.stored (stored_by (level_of s) i (fit (level_of s))))
                  ∙ ap (flat_map item_bits) (sym (arrive_stored capacity s i)))
                  (p.0 (flat_map item_bits s.stored) h.wrote);
            }

        holds : (rest : List Item) (s : Buffer) → Holds log rest s built st → (e ≡ 0 → 1 ≤ length rest)
            → Holds log (rest_after e rest) (buffer_after capacity slots e rest s) built' st'
        holds rest s h d =
            let a = ahead_has on_no_plan log i q.at h.ahead n in
            let k : Holds log (i ∷ a.rest) s built st = subst (λ (x : List Item). Holds log x s built st) a.row h in
            rw (a.row, eq-eqb e 0 z) (first a.rest s k a.ahead)

        level_bounded : (b : Bool) → leb (st.level.held + need_by st.level.unmarked (load_of i).words) capacity ≡ b
            → (n : ℕ) → capacity ≤ 4096 → Bounded n st → pen.bits ≤ (n + 1) * 178
            → Bounded (n + 1) (record { at = q; level = arrived_by st.level (load_of i) b; pen = pen })
        level_bounded true t n c b h =
            let fits = leb-true (st.level.held + need_by st.level.unmarked (load_of i).words) capacity t in
            (omega (arith, fits, c), omega (arith, b.1), omega (arith, b.2), omega arith, h)
        level_bounded false t n c b h = (b.0, omega (arith, b.1), omega (arith, b.2), omega (arith, b.3), h)

        bounded : (n : ℕ) → capacity ≤ 4096 → Bounded n st → Bounded (n + 1) st'
        bounded n c b = rw g (level_bounded stored (sym f) n c b (omega (arith, b.4, p.1)))

  -- what cannot be, since an item is there for each that arrives
  pub turns_over : e ≡ 0 → next_at (bytes_bits log) st.at.at ≡ ends → Turns log e capacity slots built st built st
  turns_over z n = (λ rest s h d. never rest (ahead_end on_no_plan log h.ahead n) (d z), λ n c b. (b.0, omega (arith, b.1), omega (arith, b.2), omega (arith, b.3), omega (arith, b.4)))
    where
      never : {A : Type 0} (rest : List Item) → rest ≡ [] → 1 ≤ length rest → A
      never rest r h = let k : length rest ≡ 0 = ap length r in absurd (omega (arith, k, h))

  pub turns_wrong : e ≡ 0 → next_at (bytes_bits log) st.at.at ≡ wrong → Turns log e capacity slots built st built st
  turns_wrong z n = (λ rest s h d. absurd (ahead_wrong on_no_plan log h.ahead n), λ n c b. (b.0, omega (arith, b.1), omega (arith, b.2), omega (arith, b.3), omega (arith, b.4)))
