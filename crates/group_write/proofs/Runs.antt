-- A run of rows, one at a time: its words, its bytes and their sum.
use Prim.Native.Nat.{ℕ, ◌+◌, ◌*◌, ◌^◌, ◌≤◌, ◌<◌}
use native.Mathlib.Omega.{arith}
use native.Mathlib.Nat.{mul-le-mul_right}
use mathlib.Core.Bool.{Bool, true}
use mathlib.Core.Path.{◌≡◌, refl, ap, ◌∙◌}
use mathlib.Core.List.{List, [], ◌∷◌, ◌++◌, append_assoc, flat_map}
use lib.ListN.{length, take, drop, get_or}
use Rattle.format.specs.Word.{sent, fill, bytes_of}
use Rattle.format.specs.Lawful.{buses}
use Rattle.format.specs.Lists.{list}
use Rattle.format.specs.declared.Plan.{Plan}
use Rattle.crc.specs.Sum.{Small, Added, Summed}
use Rattle.crc.specs.declared.Sum.{Sum}
use Rattle.crc.proofs.Sums.{summed_none, summed_more, summed_true, summed_is}
use Rattle.group_write.specs.Writing.{Unsent, Run, row_word, sent_rows}
use Rattle.group_write.proofs.Laws.{all_get_d, list_more}
use Rattle.group_write.proofs.Words.{Written, written_none, written_word, written_is}
use Rattle.group_write.proofs.Dealt.{within, buses_some}

module _ (f : ℕ → ℕ) where
  pub written_rows : (d : List ℕ) → Written (list f 0 0) 0 d d
  unfolding list
  written_rows d = written_none d

  pub written_row : {d xs ys : List ℕ} (n v : ℕ) → Written (list f 0 n) n d xs → v ≡ f n → 3 * n + 3 ≤ length d
      → ys ≡ take (3 * n) xs ++ (bytes_of v ++ drop (3 * n + 3) xs) → Written (list f 0 (n + 1)) (n + 1) d ys
  written_row n v w e fits ey = rw (list_more f n, ← e) (written_word (3 * n) v w refl fits refl ey)

  pub summed_rows : (crc : Bool) (s : Sum) → Small s → Summed crc s (list f 0 0) s
  unfolding list
  summed_rows crc s h = summed_none crc s h

  pub summed_row : (crc : Bool) {s t u : Sum} (n v : ℕ) → Summed crc s (list f 0 n) t → v ≡ f n → Summed crc t (v ∷ []) u → Summed crc s (list f 0 (n + 1)) u
  summed_row crc n v p e q = rw (list_more f n, ← e) (summed_more crc p q)

  pub summed_two_rows : (crc : Bool) {s t u : Sum} (n v w : ℕ) → Summed crc s (list f 0 n) t → v ≡ f n → w ≡ f (n + 1) → Summed crc t (v ∷ w ∷ []) u
      → Summed crc s (list f 0 (n + 2)) u
  summed_two_rows crc n v w p e g q =
      let two : n + 1 + 1 ≡ n + 2 = omega arith in
      rw (← two, list_more f (n + 1), list_more f n, ← e, ← g, append_assoc (list f 0 n) (v ∷ []) (w ∷ [])) (summed_more crc p q)

-- of a run of the words ws: a row's word is among them, and it is what the row is to hold
module _ (p : Plan) (ws : List ℕ) (first : ℕ) where
  pub run_in : {out : List ℕ} {n : ℕ} (row : ℕ) → Run p ws first n out → row < n → row * p.tracks + first < length ws
  run_in row r h = omega (arith, mul-le-mul_right p.tracks h, r.ends)

  pub run_low : (s : ℕ) → Unsent p ws → get_or ws s 0 < buses p.parity * 2 ^ 20
  run_low s u = all_get_d (λ w. w < buses p.parity * 2 ^ 20) 0 (omega (arith, buses_some p.parity)) ws u s

  pub run_word : (row s v : ℕ) → s < length ws → s ≡ row * p.tracks + first → v ≡ sent p.parity (get_or ws s 0) → v ≡ row_word p ws first row
  run_word row s v h e ev = ev ∙ ap (sent p.parity) (within ws s (fill p.fill_bus) 0 h ∙ ap (λ (i : ℕ). get_or ws i (fill p.fill_bus)) e)

-- the first rows of a run are put: the next row's word is at s, and they are summed and written
pub record Put (p : Plan) (ws : List ℕ) (first n : ℕ) (before : Sum) (d : List ℕ) (row s : ℕ) (sum : Sum) (out : List ℕ) : Type 0 where
  pub within : row ≤ n
  pub at : s ≡ row * p.tracks + first
  pub sums : Summed true before (sent_rows p ws first row) sum
  pub bytes : Written (sent_rows p ws first row) row d out

module _ (p : Plan) (ws : List ℕ) (first n : ℕ) (before : Sum) (d : List ℕ) (run : Run p ws first n d) where
  pub put_none : Small before → Put p ws first n before d 0 first before d
  put_none h = record {
    within = omega arith;
    at = omega arith;
    sums = summed_rows (row_word p ws first) true before h;
    bytes = written_rows (row_word p ws first) d;
  }

  module _ (row s : ℕ) (sum : Sum) (out : List ℕ) (q : Put p ws first n before d row s sum out) where
    -- the next word, and the one after it
    pub one_in : row < n → s < length ws
    one_in h = omega (arith, q.at, run_in p ws first row run h)

    pub two_in : row + 1 < n → s + p.tracks < length ws
    two_in h = omega (arith, q.at, run_in p ws first (row + 1) run h)

    one_is : (v : ℕ) → row < n → v ≡ sent p.parity (get_or ws s 0) → v ≡ row_word p ws first row
    one_is v h e = run_word p ws first row s v (one_in h) q.at e

    two_is : (v : ℕ) → row + 1 < n → v ≡ sent p.parity (get_or ws (s + p.tracks) 0) → v ≡ row_word p ws first (row + 1)
    two_is v h e = run_word p ws first (row + 1) (s + p.tracks) v (two_in h) (omega (arith, q.at)) e

    pub one_written : {xs : List ℕ} (v : ℕ) → row < n → v ≡ sent p.parity (get_or ws s 0) → xs ≡ take (3 * row) out ++ (bytes_of v ++ drop (3 * row + 3) out)
        → Written (sent_rows p ws first (row + 1)) (row + 1) d xs
    one_written v h e x = written_row (row_word p ws first) row v q.bytes (one_is v h e) (omega (arith, run.room)) x

    pub put_one : {xs : List ℕ} {t : Sum} (v : ℕ) → row < n → v ≡ sent p.parity (get_or ws s 0) → xs ≡ take (3 * row) out ++ (bytes_of v ++ drop (3 * row + 3) out)
        → Added sum (v ∷ []) t → Put p ws first n before d (row + 1) (s + p.tracks) t xs
    put_one v h e x a = record {
      within = omega arith;
      at = omega (arith, q.at);
      sums = summed_row (row_word p ws first) true row v q.sums (one_is v h e) (summed_true refl a);
      bytes = one_written v h e x;
    }

    pub put_two : {xs ys : List ℕ} {t : Sum} (v w : ℕ) → row + 1 < n → v ≡ sent p.parity (get_or ws s 0) → w ≡ sent p.parity (get_or ws (s + p.tracks) 0)
        → xs ≡ take (3 * row) out ++ (bytes_of v ++ drop (3 * row + 3) out) → ys ≡ take (3 * (row + 1)) xs ++ (bytes_of w ++ drop (3 * (row + 1) + 3) xs)
        → Added sum (v ∷ w ∷ []) t → Put p ws first n before d (row + 2) (s + 2 * p.tracks) t ys
    put_two v w h e g x y a =
        let two : row + 1 + 1 ≡ row + 2 = omega arith in
        record {
          within = omega arith;
          at = omega (arith, q.at);
          sums = summed_two_rows (row_word p ws first) true row v w q.sums (one_is v (omega arith) e) (two_is w h g) (summed_true refl a);
          bytes = rw two at (written_row (row_word p ws first) (row + 1) w (one_written v (omega arith) e x) (two_is w h g) (omega (arith, run.room)) y);
        }

    pub put_all : row ≡ n → Added before (sent_rows p ws first n) sum × (out ≡ flat_map bytes_of (sent_rows p ws first n) ++ drop (3 * n) d)
    put_all e = (rw (← e) (summed_is refl q.sums), written_is q.bytes (ap (sent_rows p ws first) e) e)
