-- The log's last bytes, and the earliest notice.
use Prim.Native.Nat.{ℕ, zero, suc, ◌+◌, ◌*◌, ◌/◌, ◌%◌, ◌^◌, ◌≤◌, ◌<◌}
use native.Mathlib.Nat.{mod-lt, mul-le-mul_left}
use native.Mathlib.Omega.{arith}
use mathlib.Core.Bool.{Bool, true, false, cond}
use mathlib.Core.Path.{◌≡◌, refl, ap, ap₂, sym, subst, ◌∙◌}
use mathlib.Core.List.{List, [], ◌∷◌, ◌++◌, append_assoc, flat_map}
use lib.ListN.{length, take, drop}
use lib.Dec.{eqb, leb, ltb}
use lib.Pow.{pow_pos}
use borrow.Author.Tests.{eq-eqb, eqb-false, eqb-true, le-ltb, leb-false, leb-true, lt-ltb, ltb-false, ltb-true, ne_eqb}
use Rattle.format.specs.Answer.{over, refusal, success}
use Rattle.format.specs.Bits.{bits_of, num_of, packed}
use Rattle.format.specs.Item.{item_bits}
use Rattle.format.specs.Plan.{lead, slots}
use Rattle.format.specs.Read.{Got, finish, got, stopped}
use Rattle.format.specs.Laws.Limits.{Shape, some_words}
use Rattle.format.specs.declared.Answer.{Answer}
use Rattle.format.specs.declared.Held.TheVariants.{Nothing}
use Rattle.format.specs.declared.Item.{Item}
use Rattle.format.specs.declared.Kind.{Kind}
use Rattle.format.specs.declared.Plan.{Plan}
use Rattle.notices.specs.Table.{earlier, earliest_of}
use Rattle.data_start.specs.declared.Holding.{Holding}
use Rattle.data_start.specs.declared.Step.{Step}
use Rattle.data_word.specs.Holding.{held_of}
use Rattle.data_word.specs.Meaning.{Brings, Closes}
use Rattle.data_word.proofs.Meaning.{Finished, finished}
use Rattle.data_put.specs.Put.{step_out, step_pen}
use Rattle.data_run.proofs.Closing.{finish_cut}
use Rattle.data_put.proofs.Steps.{step_bits, step_long, step_wrote}
use Rattle.group_read.specs.Row.{dealt_count}
use Rattle.capture_parts.proofs.Part.{dealt_all}
use Rattle.log_write.specs.Pen.{Wrote, closed_in, closed_size, pen_put}
use Rattle.log_write.specs.declared.Pen.{Pen}
use Rattle.log_write.proofs.Writing.{put_bits, put_long, wrote_more}
use Rattle.stream_group.specs.Took.{carried}
use Rattle.stream_piece.proofs.Group.{bits_written}
use Rattle.stream_piece.proofs.Laid.{written}
use Rattle.stream_rules.specs.Stream.{closing, earliest, group_size, lesser, most_bytes, stored_of, unless_waits, whole_bytes}
use Rattle.stream_rules.specs.Laws.Stream.Code.{pen_parts}
use Rattle.stream_rules.specs.Laws.Stream.Fits.{NumberOk, Slotted, WaitOk, WaitsOk, empty, last, next, slotted, waits, zeroth}
use Rattle.stream_end.specs.End.{Ends, Last, Puts, Whole, bits_left, end_answer, end_bytes, last_bytes}

-- ---- the earliest

-- of two, 0 being none
zero_first : (b : ℕ) → earlier 0 b ≡ b
unfolding earlier
zero_first b = refl

zero_second : (a : ℕ) → earlier a 0 ≡ a
unfolding earlier
zero_second a = go (eqb a 0) refl
  where
    go : (t : Bool) → eqb a 0 ≡ t → cond t 0 a ≡ a
    go true e = sym (eqb-true a 0 e)
    go false e = refl

lesser_none : (a : ℕ) → lesser a 0 ≡ a
lesser_none a = go (eqb a 0) refl
  where
    go : (t : Bool) → eqb a 0 ≡ t → cond t 0 a ≡ a
    go true e = sym (eqb-true a 0 e)
    go false e = refl

-- neither is none
module _ (a b : ℕ) (x : a ≡ 0 → ⊥) (y : b ≡ 0 → ⊥) where
  lesser_some : lesser a b ≡ cond (ltb a b) a b
  lesser_some = rw (ne_eqb a 0 x, ne_eqb b 0 y) refl

  earlier_some : earlier a b ≡ cond (ltb a b) a b
  unfolding earlier
  earlier_some = rw (ne_eqb a 0 x, ne_eqb b 0 y) (go (leb a b) refl (ltb a b) refl)
    where
      go : (t : Bool) → leb a b ≡ t → (u : Bool) → ltb a b ≡ u → cond t a b ≡ cond u a b
      go true e true f = refl
      go true e false f = omega (arith, leb-true a b e, ltb-false a b f)
      go false e true f = omega (arith, leb-false a b e, ltb-true a b f)
      go false e false f = refl

  smaller_some : cond (ltb a b) a b ≡ 0 → ⊥
  smaller_some = go (ltb a b)
    where
      go : (t : Bool) → cond t a b ≡ 0 → ⊥
      go true e = x e
      go false e = y e

three : (a b c : ℕ) → cond (ltb (cond (ltb a b) a b) c) (cond (ltb a b) a b) c ≡ cond (ltb a (cond (ltb b c) b c)) a (cond (ltb b c) b c)
three a b c = go (ltb a b) refl (ltb b c) refl
  where
    go : (t : Bool) → ltb a b ≡ t → (u : Bool) → ltb b c ≡ u → cond (ltb (cond t a b) c) (cond t a b) c ≡ cond (ltb a (cond u b c)) a (cond u b c)
    go true e true f = rw (e, lt-ltb a c (omega (arith, ltb-true a b e, ltb-true b c f))) refl
    go true e false f = refl
    go false e true f = rw (e, f) refl
    go false e false f = rw (f, le-ltb a c (omega (arith, ltb-false a b e, ltb-false b c f))) refl

earlier_lesser : (a b c : ℕ) → lesser (earlier a b) c ≡ lesser a (lesser b c)
earlier_lesser a b c = go (eqb a 0) refl (eqb b 0) refl (eqb c 0) refl
  where
    go : (x : Bool) → eqb a 0 ≡ x → (y : Bool) → eqb b 0 ≡ y → (z : Bool) → eqb c 0 ≡ z → lesser (earlier a b) c ≡ lesser a (lesser b c)
    go true e y f z g =
        let k : a ≡ 0 = eqb-true a 0 e in
        rw k (ap (λ (n : ℕ). lesser n c) (zero_first b))
    go false e true f z g =
        let k : b ≡ 0 = eqb-true b 0 f in
        rw k (ap (λ (n : ℕ). lesser n c) (zero_second a))
    go false e false f true g =
        let k : c ≡ 0 = eqb-true c 0 g in
        let n = eqb-false a 0 e in
        let m = eqb-false b 0 f in
        rw k (lesser_none (earlier a b) ∙ earlier_some a b n m ∙ sym (lesser_some a b n m) ∙ ap (lesser a) (sym (lesser_none b)))
    go false e false f false g =
        let n = eqb-false a 0 e in
        let m = eqb-false b 0 f in
        let o = eqb-false c 0 g in
        ap (λ (i : ℕ). lesser i c) (earlier_some a b n m) ∙ lesser_some (cond (ltb a b) a b) c (smaller_some a b n m) o ∙ three a b c
        ∙ sym (lesser_some a (cond (ltb b c) b c) n (smaller_some b c m o)) ∙ ap (lesser a) (sym (lesser_some b c m o))

earliest_from : (found : ℕ) (l : List ℕ) → earliest_of found l ≡ lesser found (earliest l)
unfolding earliest_of earliest
earliest_from found [] = sym (lesser_none found)
earliest_from found (k ∷ l) = earliest_from (earlier found k) l ∙ earlier_lesser found k (earliest l)

pub earliest_is : (l : List ℕ) → earliest_of 0 l ≡ earliest l
earliest_is l = earliest_from 0 l

-- it is the number of a data slot, if there is one
pub earliest_ok : (p : Plan) (ks : List Kind) (g j : ℕ) (l : List ℕ) → WaitsOk p ks g j l → NumberOk p g (earliest l)
unfolding earliest
earliest_ok p ks g j [] last = zeroth refl
earliest_ok p ks g j (k ∷ l) (next w o) = choose (eqb k 0) (eqb (earliest l) 0) (ltb k (earliest l)) (number w) (earliest_ok p ks g (j + 1) l o)
  where
    number : {k : ℕ} → WaitOk p ks g j k → NumberOk p g k
    number (empty e) = zeroth e
    number (waits n e) = n

    choose : {a b : ℕ} (x y z : Bool) → NumberOk p g a → NumberOk p g b → NumberOk p g (cond x b (cond y a (cond z a b)))
    choose true y z m n = n
    choose false true z m n = m
    choose false false true m n = m
    choose false false false m n = n

pub record Stored (p : Plan) (k : ℕ) : Type 0 where
  pub some : 1 ≤ k % 2048
  pub dealt : k % 2048 ≤ dealt_count p
  pub low : k < 2 ^ 52

pub stored_ok : (p : Plan) → Shape p → (g k : ℕ) → g * group_size p ≤ most_bytes → (k ≡ 0 → ⊥) → NumberOk p g k → Stored p k
stored_ok p s g k h z (zeroth e) = absurd (z e)
stored_ok p s g k h z (slotted n) =
    let one : 1 ≤ group_size p = omega (arith, some_words p s) in
    record {
      some = omega (arith, n.over);
      dealt = omega (arith, n.under, dealt_all p s);
      low = omega (arith, n.low, h, mul-le-mul_left g one);
    }

-- ---- bits, the end mark and zeros

pub packed_whole : (xs : List ℕ) → packed (xs ++ bits_of 4 0) ≡ whole_bytes (xs ++ bits_of 11 0)
unfolding packed whole_bytes bits_of
packed_whole [] = refl
packed_whole (a ∷ []) = refl
packed_whole (a ∷ b ∷ []) = refl
packed_whole (a ∷ b ∷ c ∷ []) = refl
packed_whole (a ∷ b ∷ c ∷ d ∷ []) = refl
packed_whole (a ∷ b ∷ c ∷ d ∷ e ∷ []) = refl
packed_whole (a ∷ b ∷ c ∷ d ∷ e ∷ f ∷ []) = refl
packed_whole (a ∷ b ∷ c ∷ d ∷ e ∷ f ∷ g ∷ []) = refl
packed_whole (a ∷ b ∷ c ∷ d ∷ e ∷ f ∷ g ∷ h ∷ rest) = ap (λ (l : List ℕ). num_of (a ∷ b ∷ c ∷ d ∷ e ∷ f ∷ g ∷ h ∷ []) ∷ l) (packed_whole rest)

-- ---- the last bytes are put

module _ (pen : Pen) (h : pen.bits < 8) (step : Step) (is : List Item) (b : Brings is Nothing step) (out : List ℕ) where
  abbrev bits : List ℕ
  bits = bits_left pen ++ flat_map item_bits is

  abbrev pen1 : Pen
  pen1 = step_pen pen step

  pub few_bits : (step_pen pen step).bits ≤ 99
  few_bits = omega (arith, h, step_bits is Nothing step b pen)

  put : Wrote bits (step_out out pen step) pen1
  put = step_wrote is Nothing step b pen (bits_left pen) out (bits_written out pen h)

  pub out_long : length (closed_in (step_out out pen step) (step_pen pen step)) ≡ length out
  unfolding closed_in
  out_long = put_long pen1 0 11 (omega arith) (pow_pos 11) (step_out out pen step) ∙ step_long is Nothing step b pen out

  ended : Wrote (bits ++ bits_of 11 0) (closed_in (step_out out pen step) pen1) (pen_put pen1 0 11)
  unfolding closed_in
  ended = wrote_more pen1 0 11 (omega arith) (pow_pos 11) bits (step_out out pen step) put

  ended_is : last_bytes (bits_left pen) is ≡ ended.bytes
  ended_is =
      ap packed (sym (append_assoc (bits_left pen) (flat_map item_bits is) (bits_of 4 0))) ∙ packed_whole bits
      ∙ (pen_parts (bits ++ bits_of 11 0) ended.bytes ((pen_put pen1 0 11).bits % 8) (pen_put pen1 0 11).last ended.small (mod-lt (pen_put pen1 0 11).bits (omega arith)) ended.is).0

  ended_bits : (pen_put pen1 0 11).bits / 8 ≡ closed_size pen1
  unfolding closed_size
  ended_bits = ap (λ (n : ℕ). n / 8) (put_bits pen1 0 11 (omega arith) (pow_pos 11))

  pub last_size : closed_size pen1 ≡ length (last_bytes (bits_left pen) is)
  last_size = sym ended_bits ∙ sym ended.size ∙ ap (λ (l : List ℕ). length l) (sym ended_is)

  pub last_put : {bytes : ℕ} {r : Answer} (log : List ℕ) {log' out' : List ℕ} → length out ≡ 16 → out' ≡ closed_in (step_out out pen step) pen1 → bytes ≡ closed_size pen1 → bytes ≤ 7
      → r ≡ success bytes 0 → log' ≡ take bytes out' ++ drop bytes log
      → (r ≡ success (length (last_bytes (bits_left pen) is)) 0) × (log' ≡ over (last_bytes (bits_left pen) is) log)
  last_put {bytes} {r} log {log'} {out'} l o e few a x =
      let n : bytes ≡ (pen_put pen1 0 11).bits / 8 = e ∙ sym ended_bits in
      let k : length (closed_in (step_out out pen step) pen1) ≡ 16 = out_long ∙ l in
      let t : take bytes out' ≡ last_bytes (bits_left pen) is =
      ap₂ (λ (i : ℕ) (u : List ℕ). take i u) n o ∙ written ended (omega (arith, n, few, k)) ∙ sym ended_is in
      let m : bytes ≡ length (last_bytes (bits_left pen) is) = e ∙ last_size in
      (a ∙ ap (λ (i : ℕ). success i 0) m, x ∙ ap₂ (λ (u : List ℕ) (i : ℕ). u ++ drop i log) t m)

-- ---- the end

module _ (p : Plan) (held : Holding) (since : ℕ) (pen : Pen) (table log : List ℕ) (step : Step) (c : Closes (finish (held_of held) since) step) where
  abbrev all : Got
  all = closing p (carried held since table)

  -- the cut item
  pub ends_cut : {r : Answer} → step.bad ≡ true → r ≡ refusal 13 since since → Ends p held since pen table r log log
  unfolding closing
  ends_cut z e = rw (finish_cut (held_of held) since step c z) (e, refl)

  module _ (z : step.bad ≡ false) where
    done : Finished (finish (held_of held) since) step
    done = finished (finish (held_of held) since) step c z

    -- an open notice
    pub ends_open : (k : ℕ) {r : Answer} → k ≡ earliest table → (k ≡ 0 → ⊥) → r ≡ refusal 15 (stored_of p k) 0 → Ends p held since pen table r log log
    unfolding closing
    ends_open k y n e = rw (done.is, ← y, ne_eqb k 0 n) (e, refl)

    module _ (y : earliest table ≡ 0) where
      all_is : all ≡ got done.items
      unfolding closing
      all_is = rw (done.is, y) refl

      pub ends_last : pen.bits < 8 → length (end_bytes (bits_left pen) all) ≤ 7 → Last pen step
      ends_last h few = record {
        items = done.items;
        brings = done.brings;
        bits = h;
        few = subst (λ (g : Got). length (end_bytes (bits_left pen) g) ≤ 7) all_is few;
      }

      pub ends_put : {r : Answer} {log' : List ℕ} → Puts pen step r log log' → Ends p held since pen table r log log'
      ends_put {r} {log'} f =
          let g = f done.items done.brings in
          (g.0 ∙ ap (end_answer (bits_left pen)) (sym all_is), g.1 ∙ ap (λ (x : Got). over (end_bytes (bits_left pen) x) log) (sym all_is))
