-- A frame's rows in three runs: rows with time words, rows with data, rows of fill.
use Prim.Native.Nat.{ℕ, ◌+◌, ◌*◌, ◌/◌, ◌%◌, ◌-◌, ◌<◌, ◌≤◌}
use native.Mathlib.Omega.{arith}
use native.Mathlib.Decide.{dec_lt}
use native.Mathlib.Nat.{zero-add, mod-lt, div-add-mod', mul-le-mul_right}
use mathlib.Core.Path.{◌≡◌, sym, ap, ap₂, ◌∙◌}
use mathlib.Core.List.{List, [], ◌∷◌, ◌++◌}
use lib.ListN.{length, take, get_or, get_or-eq_default}
use Rattle.format.specs.Word.{sent, sync, fill}
use Rattle.format.specs.Plan.{rows, lead, slots}
use Rattle.format.specs.Lists.{list}
use Rattle.format.specs.declared.Plan.{Plan}
use Rattle.format.specs.Laws.Limits.{Shape, dealt_most, lead_few, most_dealt, most_rows, room, rows_most, slots_most}
use Rattle.group_write.specs.Writing.{Unsent, Run, row_word, sent_rows, same_rows, front, rows_with}
use Rattle.group_write.proofs.Dealt.{dealt_time, dealt_past}
use Rattle.group_write.proofs.Laws.{list_same, list_split}

-- of T tracks the track t has one of the first l dealt words in its first a rows, and one of `size` words more up to its row b, of n
pub record Parted (T t size l a b n : ℕ) : Type 0 where
  pub one : 1 ≤ T
  pub few : l ≤ 3
  pub timed : (l ≤ a * T + t) × (a * T + t < l + T)
  pub dealt : (l + size ≤ b * T + t) × (b * T + t < l + size + T)
  pub order : (a ≤ b) × (b ≤ n)
  pub short : (n ≤ most_rows) × (size ≤ most_dealt)

-- time words and data have room in the rows
fits : (p : Plan) (size : ℕ) → Shape p → size ≤ slots p → (lead p + size ≤ rows p * p.tracks) × (rows p * p.tracks ≤ most_dealt) × (rows p ≤ most_rows)
unfolding slots
fits p size h s = (omega (arith, s, room p h, lead_few p), omega (arith, dealt_most p h), rows_most p h)

pub words_few : (p : Plan) (size : ℕ) → Shape p → size ≤ slots p → size ≤ most_dealt
words_few p size h s = omega (arith, slots_most p h, s)

module _ (p : Plan) (t : ℕ) (h : Shape p) (u : t < p.tracks) where
  with_is : (n : ℕ) → (n ≤ rows_with p t n * p.tracks + t) × (rows_with p t n * p.tracks + t < n + p.tracks)
  unfolding rows_with
  with_is n =
      let T : ℕ = p.tracks in
      let k : ℕ = n + T - 1 - t in
      let e : k / T * T + k % T ≡ k = div-add-mod' k T in
      let l : k % T < T = mod-lt k h.tracks_least in
      (omega (arith, e, l, u), omega (arith, e, l, u))

  -- rows up to which there is a word come before those up to which there is a later one
  with_under : (m n r : ℕ) → m ≤ n → n ≤ r * p.tracks + t → rows_with p t m ≤ r
  with_under m n r l e = go (dec_lt r (rows_with p t m))
    where
      go : Dec (r < rows_with p t m) → rows_with p t m ≤ r
      go (yes b) = absurd (omega (arith, with_is m, mul-le-mul_right p.tracks b, l, e))
      go (no b) = omega arith

  pub parted : (size l a b n : ℕ) → size ≤ slots p → l ≡ lead p → a ≡ rows_with p t l → b ≡ rows_with p t (l + size) → n ≡ rows p → Parted p.tracks t size l a b n
  parted size l a b n s el ea eb en =
      let f = fits p size h s in
      let d : l + size ≤ rows p * p.tracks = omega (arith, el, f.0) in
      record {
        one = h.tracks_least;
        few = omega (arith, el, lead_few p);
        timed = rw ea (with_is l);
        dealt = rw eb (with_is (l + size));
        order = rw (ea, eb, en) (with_under l (l + size) (rows_with p t (l + size)) (omega arith) (with_is (l + size)).0, with_under (l + size) (l + size) (rows p) (omega arith) (omega (arith, d)));
        short = (omega (arith, en, f.2), omega (arith, f.0, f.1));
      }

module _ (p : Plan) (t l a b n : ℕ) (times words : List ℕ) (q : Parted p.tracks t (length words) l a b n) where
  pub timed_run : (out : List ℕ) → Unsent p times → length times ≡ 3 → 3 * a ≤ length out → Run p times t a out
  timed_run out s e r = record {
    unsent = s;
    few = omega arith;
    ends = omega (arith, q.timed.1, q.few);
    short = omega (arith, q.order, q.short);
    room = r;
  }

  pub data_run : (k : ℕ) (out : List ℕ) → a + k ≡ b → Unsent p words → 3 * k ≤ length out → Run p words (a * p.tracks + t - l) k out
  data_run k out e s r =
      let m : b * p.tracks ≡ (a + k) * p.tracks = ap (λ (i : ℕ). i * p.tracks) (sym e) in
      record {
        unsent = s;
        few = omega (arith, q.short);
        ends = omega (arith, q.timed, q.dealt, m);
        short = omega (arith, q.order, q.short);
        room = r;
      }

  -- what a row holds: a time word, data, or fill
  module _ (e : length times ≡ 3) where
    abbrev blank : ℕ
    blank = fill p.fill_bus

    in_timed : (r : ℕ) → r < a → row_word p times t r ≡ row_word p (take l times ++ words) t r
    in_timed r h = ap (sent p.parity) (sym (dealt_time blank words l times (r * p.tracks + t) blank (omega (arith, q.timed, mul-le-mul_right p.tracks h)) (omega (arith, q.few))))

    past_timed : (r : ℕ) → a ≤ r → row_word p (take l times ++ words) t r ≡ sent p.parity (get_or words (r * p.tracks + t - l) blank)
    past_timed r h = ap (sent p.parity) (dealt_past blank words l times (r * p.tracks + t) (omega (arith, q.timed, mul-le-mul_right p.tracks h)) (omega (arith, q.few)))

    in_data : (i : ℕ) → row_word p words (a * p.tracks + t - l) i ≡ row_word p (take l times ++ words) t (a + i)
    in_data i =
        let at : i * p.tracks + (a * p.tracks + t - l) ≡ (a + i) * p.tracks + t - l = omega (arith, q.timed) in
        ap (λ (s : ℕ). sent p.parity (get_or words s blank)) at ∙ sym (past_timed (a + i) (omega arith))

    in_fill : (r : ℕ) → b ≤ r → sent p.parity blank ≡ row_word p (take l times ++ words) t r
    in_fill r h =
        let past : length words ≤ r * p.tracks + t - l = omega (arith, q.dealt, mul-le-mul_right p.tracks h) in
        sym (past_timed r (omega (arith, q.order)) ∙ ap (sent p.parity) (get_or-eq_default words blank past))

    -- the sync word and the three runs
    pub front_runs : (k j : ℕ) → a + k ≡ b → b + j ≡ n
        → (((sync ∷ []) ++ sent_rows p times t a) ++ sent_rows p words (a * p.tracks + t - l) k) ++ same_rows (sent p.parity blank) j ≡ front p (take l times ++ words) t n
    unfolding front
    front_runs k j ek ej =
        let f : ℕ → ℕ = row_word p (take l times ++ words) t in
        ap (λ ws. sync ∷ ws)
        (ap₂ ◌++◌
        (ap₂ ◌++◌ (list_same (row_word p times t) f a 0 0 (λ i h. in_timed (0 + i) (omega arith)))
        (list_same (row_word p words (a * p.tracks + t - l)) f k 0 a (λ i h. ap (row_word p words (a * p.tracks + t - l)) (zero-add i) ∙ in_data i) ∙ ap (λ (i : ℕ). list f i k) (sym (zero-add a)))
        ∙ sym (list_split f 0 a k) ∙ ap (list f 0) ek)
        (list_same (λ r. sent p.parity blank) f j 0 b (λ i h. in_fill (b + i) (omega arith)) ∙ ap (λ (i : ℕ). list f i j) (sym (zero-add b)))
        ∙ sym (list_split f 0 b j) ∙ ap (list f 0) ej)
