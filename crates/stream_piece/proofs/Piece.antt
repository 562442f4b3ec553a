-- The groups of a piece, one after the other.
use Prim.Native.Nat.{ℕ, zero, suc, ◌+◌, ◌*◌, ◌-◌, ◌≤◌, ◌<◌}
use native.Mathlib.Nat.{mul-le-mul_right}
use native.Mathlib.Omega.{arith}
use mathlib.Core.Bool.{true}
use mathlib.Core.Path.{◌≡◌, refl, ap, ap₂, sym, subst, ◌∙◌}
use mathlib.Core.List.{List, [], ◌∷◌, ◌++◌, append-nil}
use lib.ListN.{length, take, drop, length-append, length-drop}
use lib.Seq.{drop-drop, length-take-le, take-add}
use Rattle.format.specs.declared.Kind.{Kind}
use Rattle.format.specs.declared.Plan.{Plan}
use Rattle.data_word.specs.Holding.{Sane}
use Rattle.stream_rules.specs.Stream.{Flow, State, failed, feed_bytes, fits, flowed, group_size, most_bytes, still, working}
use Rattle.stream_rules.specs.Laws.Stream.Feed.{count_in, feed_append, feed_count, feed_failed}
use Rattle.stream_rules.proofs.Laws.Stream.Kept.{feed_fits}
use Rattle.stream_piece.specs.Along.{Goes, Ready, Takes, laid, reached, work_of}
use Rattle.stream_piece.specs.declared.Along.{Along}
use Rattle.stream_piece.proofs.Group.{reached_work}
use Rattle.stream_piece.proofs.Laid.{laid_more, laid_none}
use borrow.Author.Tests.{ne_eqb}

-- ---- one flow after another

pub goes_none : (p : Plan) (ks : List Kind) (a : Along) (table l t : List ℕ) → Sane a.held → a.pen.bits < 8 → Goes p ks (still (reached p ks a table)) a a table l l t t
goes_none p ks a table l t s b = record {
  is = refl;
  sane = s;
  bits = b;
  bytes = omega arith;
  entries = omega arith;
  log = sym (laid_none a.bytes l);
  times = sym (laid_none a.times t);
}

pub goes_more : (p : Plan) (ks : List Kind) (f g : Flow) {a b r : Along} {table table' l l1 l2 t t1 t2 : List ℕ} → Goes p ks f a b table l l1 t t1 → Goes p ks g b r table' l1 l2 t1 t2
    → a.bytes + length f.log + length g.log ≤ length l → a.times + length f.times + length g.times ≤ length t
    → Goes p ks (flowed f g) a r table' l l2 t t2
goes_more p ks f g {a} {b} {r} {table} {table'} {l} {l1} {l2} {t} {t1} {t2} x y hl ht = record {
  is = y.is;
  sane = y.sane;
  bits = y.bits;
  bytes = y.bytes ∙ rw (length-append f.log g.log) (omega (arith, x.bytes));
  entries = y.entries ∙ rw (length-append f.times g.times) (omega (arith, x.entries));
  log = y.log ∙ ap₂ (λ (n : ℕ) (u : List ℕ). laid n g.log u) x.bytes x.log ∙ laid_more a.bytes f.log g.log l hl;
  times = y.times ∙ ap₂ (λ (n : ℕ) (u : List ℕ). laid n g.times u) x.entries x.times ∙ laid_more a.times f.times g.times t ht;
}

-- ---- the bytes of so many groups

module _ (s : State) (D : List ℕ) (size : ℕ) where
  abbrev pub up_to : ℕ → Flow
  up_to i = feed_bytes s (take (i * size) D)

  pub up_none : up_to 0 ≡ still s
  unfolding feed_bytes
  up_none =
      let e : 0 * size ≡ 0 = omega arith in
      ap (λ (n : ℕ). feed_bytes s (take n D)) e

  pub up_more : (i : ℕ) → up_to (i + 1) ≡ flowed (up_to i) (feed_bytes (up_to i).state (take size (drop (i * size) D)))
  up_more i =
      let e : (i + 1) * size ≡ i * size + size = omega arith in
      ap (λ (n : ℕ). feed_bytes s (take n D)) e ∙ ap (feed_bytes s) (take-add (i * size) size D) ∙ feed_append s (take (i * size) D) (take size (drop (i * size) D))

  up_over : (i n : ℕ) → i ≤ n → up_to n ≡ flowed (up_to i) (feed_bytes (up_to i).state (take (n * size - i * size) (drop (i * size) D)))
  up_over i n h =
      let e : n * size ≡ i * size + (n * size - i * size) = omega (arith, mul-le-mul_right size h) in
      ap (λ (m : ℕ). feed_bytes s (take m D)) e ∙ ap (feed_bytes s) (take-add (i * size) (n * size - i * size) D) ∙ feed_append s (take (i * size) D) (take (n * size - i * size) (drop (i * size) D))

  -- what is handed out grows
  pub up_log : (i n : ℕ) → i ≤ n → length (up_to i).log ≤ length (up_to n).log
  up_log i n h =
      let g : Flow = feed_bytes (up_to i).state (take (n * size - i * size) (drop (i * size) D)) in
      rw (up_over i n h, length-append (up_to i).log g.log) (omega arith)

  pub up_times : (i n : ℕ) → i ≤ n → length (up_to i).times ≤ length (up_to n).times
  up_times i n h =
      let g : Flow = feed_bytes (up_to i).state (take (n * size - i * size) (drop (i * size) D)) in
      rw (up_over i n h, length-append (up_to i).times g.times) (omega arith)

  -- behind a fault nothing is read
  pub up_failed : (i n k q second : ℕ) → i ≤ n → (up_to i).state ≡ failed k q second → up_to i ≡ up_to n
  up_failed i n k q second h e = sym (up_over i n h ∙ go (up_to i) (take (n * size - i * size) (drop (i * size) D)) e)
    where
      go : (f : Flow) (xs : List ℕ) → f.state ≡ failed k q second → flowed f (feed_bytes f.state xs) ≡ f
      go f xs e =
          ap (λ (u : State). flowed f (feed_bytes u xs)) e ∙ ap (flowed f) (feed_failed k q second xs)
          ∙ same (append-nil f.log) (append-nil f.times) (sym e)
        where
          same : {a : List ℕ} {b : List ℕ} {u : State} → a ≡ f.log → b ≡ f.times → u ≡ f.state → ◌≡◌ {A = Flow} (record { log = a; times = b; state = u }) f
          same x y z = rw (x, y, z) refl

-- ---- the loop

module _ (p : Plan) (ks : List Kind) (a : Along) (table D : List ℕ) (n : ℕ) where
  abbrev s : State
  s = reached p ks a table

  abbrev size : ℕ
  size = group_size p

  taken_long : (i : ℕ) → i ≤ n → n * size ≤ length D → length (take (i * size) D) ≡ i * size
  taken_long i h r = length-take-le (i * size) D (omega (arith, mul-le-mul_right size h))

  -- before a group
  module _ (i : ℕ) {b : Along} {table' l l' t t' : List ℕ} (g : Goes p ks (up_to s D size i) a b table' l l' t t') where
    pub turn_ready : fits s ≡ true → count_in s + n * size ≤ most_bytes → i ≤ n → n * size ≤ length D → Ready p ks b table'
    turn_ready f c h r = record {
      fit =
          let small : count_in s + length (take (i * size) D) ≤ most_bytes = rw (taken_long i h r) (omega (arith, c, mul-le-mul_right size h)) in
          ap fits (sym g.is) ∙ feed_fits (take (i * size) D) s f small;
      sane = g.sane;
      bits = g.bits;
    }

    pub turn_work : b.number ≡ 0 → (up_to s D size i).state ≡ working (work_of p ks b table')
    turn_work z = g.is ∙ reached_work p ks b table' z

    pub turn_small : count_in s + n * size ≤ most_bytes → i < n → n * size ≤ length D → b.number ≡ 0 → (b.groups + 1) * size ≤ most_bytes
    turn_small c h r z =
        let k : i + 1 ≤ n = omega (arith, h) in
        let e : count_in (up_to s D size i).state ≡ b.groups * size + 0 = ap count_in (turn_work z) in
        let u : count_in (up_to s D size i).state ≤ count_in s + i * size = rw (taken_long i (omega (arith, h)) r) at (feed_count s (take (i * size) D)) in
        omega (arith, c, e, u, mul-le-mul_right size k)

    module _ (v : List ℕ) (vs : v ≡ take size (drop (i * size) D)) (z : b.number ≡ 0) where
      abbrev next : Flow
      next = feed_bytes (working (work_of p ks b table')) v

      next_is : up_to s D size (i + 1) ≡ flowed (up_to s D size i) next
      next_is = up_more s D size i ∙ ap₂ (λ (u : State) (w : List ℕ). flowed (up_to s D size i) (feed_bytes u w)) (turn_work z) (sym vs)

      next_log : length (up_to s D size (i + 1)).log ≡ length (up_to s D size i).log + length next.log
      next_log = ap (λ (f : Flow). length f.log) next_is ∙ length-append (up_to s D size i).log next.log

      next_times : length (up_to s D size (i + 1)).times ≡ length (up_to s D size i).times + length next.times
      next_times = ap (λ (f : Flow). length f.times) next_is ∙ length-append (up_to s D size i).times next.times

      -- there is room for the group
      pub turn_takes : i < n → Takes (up_to s D size n) a l t → length l' ≡ length l → length t' ≡ length t → Takes next b l' t'
      turn_takes h r el et =
          let k : i + 1 ≤ n = omega (arith, h) in
          record {
            bytes = omega (arith, g.bytes, next_log, up_log s D size (i + 1) n k, r.bytes, el);
            entries = omega (arith, g.entries, next_times, up_times s D size (i + 1) n k, r.entries, et);
          }

      -- and it is behind us
      pub turn_goes : {r : Along} {table'' l'' t'' : List ℕ} → i < n → Takes (up_to s D size n) a l t → Goes p ks next b r table'' l' l'' t' t''
          → Goes p ks (up_to s D size (i + 1)) a r table'' l l'' t t''
      turn_goes {r} {table''} {l''} {t''} h room x =
          let k : i + 1 ≤ n = omega (arith, h) in
          subst (λ (f : Flow). Goes p ks f a r table'' l l'' t t'') (sym next_is)
          (goes_more p ks (up_to s D size i) next g x (omega (arith, next_log, up_log s D size (i + 1) n k, room.bytes)) (omega (arith, next_times, up_times s D size (i + 1) n k, room.entries)))

    -- a fault was met
    pub turn_stops : i ≤ n → (b.number ≡ 0 → ⊥) → Goes p ks (up_to s D size n) a b table' l l' t t'
    turn_stops h z =
        let e : (up_to s D size i).state ≡ failed b.number b.place b.second = g.is ∙ rw (ne_eqb b.number 0 z) refl in
        subst (λ (f : Flow). Goes p ks f a b table' l l' t t') (up_failed s D size i n b.number b.place b.second h e) g

-- the part of the piece that is lent
pub part_is : (piece : List ℕ) (first i size : ℕ) {k : ℕ} → k ≡ size → take (first + i * k + k - (first + i * k)) (drop (first + i * k) piece) ≡ take size (drop (i * size) (drop first piece))
part_is piece first i size {k} e =
    let a : first + i * size + size - (first + i * size) ≡ size = omega arith in
    rw e (ap₂ (λ (m : ℕ) (u : List ℕ). take m u) a (sym (drop-drop (i * size) first piece)))

pub part_long : (piece : List ℕ) (first i n size : ℕ) → i < n → first + n * size ≤ length piece → length (take size (drop (i * size) (drop first piece))) ≡ size
part_long piece first i n size h r =
    let k : i + 1 ≤ n = omega (arith, h) in
    length-take-le size (drop (i * size) (drop first piece)) (rw (length-drop (i * size) (drop first piece), length-drop first piece) (omega (arith, r, mul-le-mul_right size k)))
