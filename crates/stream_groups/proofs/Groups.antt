-- A piece that fills groups: the first is completed behind the bytes that wait, the others stand in the piece.
use Prim.Native.Nat.{ℕ, ◌+◌, ◌*◌, ◌-◌, ◌/◌, ◌%◌, ◌^◌, ◌≤◌, ◌<◌}
use native.Mathlib.Nat.{div-add-mod', le_refl, mod-lt, mul-le-mul_right}
use native.Mathlib.Omega.{arith}
use mathlib.Core.Bool.{Bool, true, false, cond}
use mathlib.Core.Path.{◌≡◌, refl, ap, ap₂, sym, subst, ◌∙◌}
use mathlib.Core.List.{List, [], ◌++◌, append_assoc, append-nil}
use lib.ListN.{length, take, drop, length-append, length-drop, take-append-drop}
use lib.Pow.{pow_pos}
use lib.Seq.{drop_at, length-take-le, take-add, take_all, take_at}
use lib.Dec.{eqb}
use borrow.Author.Tests.{eqb-false, eqb-true, ne_eqb}
use Rattle.format.specs.Answer.{over}
use Rattle.format.specs.Bits.{bits_of}
use Rattle.format.specs.Plan.{times_needed}
use Rattle.format.specs.Laws.Bits.{bits_mod}
use Rattle.format.specs.Laws.Limits.{some_words}
use Rattle.format.specs.Laws.Tests.{each_below}
use Rattle.format.specs.declared.Answer.{Answer}
use Rattle.format.specs.declared.Kind.{Kind}
use Rattle.stream_rules.specs.Stream.{Flow, State, Working, answered, count_of, entries_for, failed, feed_bytes, fits, flowed, group_size, keeps, most_bytes, number_of, place_in, second_in, still, working}
use Rattle.stream_rules.specs.Laws.Stream.Feed.{count_in, feed_append, feed_count, feed_failed, feed_part}
use Rattle.stream_rules.proofs.Laws.Stream.Kept.{Fit, feed_fits, fits_is, is_fits}
use Rattle.stream_rules.proofs.Laws.Stream.Room.{entries_enough, room_enough}
use Rattle.stream_state.specs.Layout.{state_bytes}
use Rattle.stream_state.specs.AtWork.{AtWork, table_at, work_in}
use Rattle.stream_state.specs.Parts.{kinds_at}
use Rattle.stream_state.specs.Stand.{working_of}
use Rattle.stream_state.specs.Storing.{Storable}
use Rattle.stream_state.specs.declared.Stand.{Stand}
use Rattle.stream_piece.specs.Along.{Goes, Ready, Takes, laid, reached, work_of}
use Rattle.stream_piece.specs.declared.Along.{Along}
use Rattle.stream_piece.proofs.Group.{reached_work}
use Rattle.stream_piece.proofs.Laid.{laid_front}
use Rattle.stream_piece.proofs.Piece.{goes_more}
use Rattle.stream_calls.specs.Calls.{Leaves, Outcome, feeding, outcome_of}
use Rattle.stream_groups.specs.Feeding.{Fed, Filled, Stores, answer_at, end_answer, end_state, stand_at, start_of}
use Rattle.stream_calls.proofs.Refused.{fed_bytes, waiting_long}

-- ---- lists

-- the bytes of the first group, in the state
pub first_group : (b piece b' : List ℕ) (waiting front size : ℕ) → front + waiting ≡ size → 1024 + size ≤ length b → front ≤ length piece
    → b' ≡ laid (1024 + waiting) (take front piece) b → take (1024 + size - 1024) (drop 1024 b') ≡ take waiting (drop 1024 b) ++ take front piece
first_group b piece b' waiting front size z room few e =
    let F : List ℕ = take front piece in
    let W : List ℕ = take waiting (drop 1024 b) in
    let D : List ℕ = drop (1024 + waiting + length F) b in
    let n : length F ≡ front = length-take-le front piece few in
    let m : length W ≡ waiting = length-take-le waiting (drop 1024 b) (rw (length-drop 1024 b) (omega (arith, room, z))) in
    let l : length (take 1024 b) ≡ 1024 = length-take-le 1024 b (omega (arith, room)) in
    let d : drop 1024 b' ≡ W ++ (F ++ D) =
    ap (drop 1024) (e ∙ ap (λ (u : List ℕ). u ++ (F ++ D)) (take-add 1024 waiting b) ∙ append_assoc (take 1024 b) W (F ++ D)) ∙ drop_at (take 1024 b) (W ++ (F ++ D)) 1024 l in
    let k : 1024 + size - 1024 ≡ waiting + front = omega (arith, z) in
    let s : length (W ++ F) ≡ waiting + front = length-append W F ∙ ap₂ (λ (i j : ℕ). i + j) m n in
    ap₂ (λ (i : ℕ) (u : List ℕ). take i u) k (d ∙ sym (append_assoc W F D)) ∙ take_at (W ++ F) D (waiting + front) s

pub first_long : (b piece v : List ℕ) (waiting front size : ℕ) → front + waiting ≡ size → 1024 + size ≤ length b → front ≤ length piece
    → v ≡ take waiting (drop 1024 b) ++ take front piece → length v ≡ size
first_long b piece v waiting front size z room few e =
    let n : length (take front piece) ≡ front = length-take-le front piece few in
    let m : length (take waiting (drop 1024 b)) ≡ waiting = length-take-le waiting (drop 1024 b) (rw (length-drop 1024 b) (omega (arith, room, z))) in
    ap (λ (u : List ℕ). length u) e ∙ length-append (take waiting (drop 1024 b)) (take front piece) ∙ rw (m, n) (omega (arith, z))

-- what is lent of the piece behind the last group
pub tail_is : (piece : List ℕ) (begin ends : ℕ) → begin ≡ ends → take (length piece - begin) (drop begin piece) ≡ drop ends piece
tail_is piece begin ends e = take_all (length piece - begin) (drop begin piece) (omega (arith, length-drop begin piece)) ∙ ap (λ (n : ℕ). drop n piece) e

pub pow_low : (n : ℕ) → n < 8 → 2 ^ n ≤ 256
pow_low = each_below (λ n. 2 ^ n ≤ 256) 8 (omega arith, (omega arith, (omega arith, (omega arith, (omega arith, (omega arith, (omega arith, (omega arith, tt))))))))

-- ---- flows

-- the bytes that wait go in front of those that are fed
fed_whole : (w : Working) (xs : List ℕ) → length w.waiting < group_size w.plan → feed_bytes (working (keeps w [])) (w.waiting ++ xs) ≡ feed_bytes (working w) xs
fed_whole w xs h =
    feed_append (working (keeps w [])) w.waiting xs
    ∙ ap (λ (f : Flow). flowed f (feed_bytes f.state xs)) (feed_part (keeps w []) w.waiting (omega (arith, h)))

-- the first bytes, then the others
cut_at : (s : State) (xs : List ℕ) (n : ℕ) → feed_bytes s xs ≡ flowed (feed_bytes s (take n xs)) (feed_bytes (feed_bytes s (take n xs)).state (drop n xs))
cut_at s xs n = ap (feed_bytes s) (sym (take-append-drop n xs)) ∙ feed_append s (take n xs) (drop n xs)

first_log : (s : State) (xs : List ℕ) (n : ℕ) → length (feed_bytes s (take n xs)).log ≤ length (feed_bytes s xs).log
first_log s xs n =
    let f : Flow = feed_bytes s (take n xs) in
    let g : Flow = feed_bytes f.state (drop n xs) in
    omega (arith, ap (λ (h : Flow). length h.log) (cut_at s xs n) ∙ length-append f.log g.log)

first_times : (s : State) (xs : List ℕ) (n : ℕ) → length (feed_bytes s (take n xs)).times ≤ length (feed_bytes s xs).times
first_times s xs n =
    let f : Flow = feed_bytes s (take n xs) in
    let g : Flow = feed_bytes f.state (drop n xs) in
    omega (arith, ap (λ (h : Flow). length h.times) (cut_at s xs n) ∙ length-append f.times g.times)

empty_fits : (w : Working) → fits (working w) ≡ true → fits (working (keeps w [])) ≡ true
empty_fits w e =
    let f = fits_is w e in
    is_fits (keeps w []) (record {
      lawful = f.lawful;
      sixteen = f.sixteen;
      part = omega (arith, f.part);
      count = omega (arith, f.count);
      short = f.short;
      bits = f.bits;
      carries = f.carries;
    })

-- ---- the call

module _ (b : List ℕ) (x : Stand) (table piece : List ℕ) (room entries n : ℕ) (F : Filled b x table piece room entries n) where
  abbrev work : AtWork b x
  work = F.fed.work

  abbrev w : Working
  w = work_in b x

  abbrev size : ℕ
  size = group_size x.plan

  abbrev ends : ℕ
  ends = n * size - x.waiting

  -- the flow of the groups that are filled
  abbrev pub total : Flow
  total = feed_bytes (working w) (take ends piece)

  some : 1 ≤ size
  some = omega (arith, some_words x.plan work.shape)

  pub filled_in : n * size ≤ x.waiting + length piece
  filled_in = omega (arith, div-add-mod' (x.waiting + length piece) size, ap (λ (k : ℕ). k * size) F.whole)

  pub rest_few : x.waiting + length piece < n * size + size
  rest_few = omega (arith, div-add-mod' (x.waiting + length piece) size, ap (λ (k : ℕ). k * size) F.whole, mod-lt (x.waiting + length piece) some)

  pub one_filled : size ≤ n * size
  one_filled = omega (arith, mul-le-mul_right size F.some)

  others : (n - 1) * size + size ≡ n * size
  others =
      let e : n - 1 + 1 ≡ n = omega (arith, F.some) in
      omega (arith, ap (λ (k : ℕ). k * size) e)

  pub ends_in : ends ≤ length piece
  ends_in = omega (arith, filled_in, one_filled, work.part)

  count_is : count_in (working w) ≡ x.groups * size + x.waiting
  count_is = ap (λ (k : ℕ). x.groups * size + k) (waiting_long b x work)

  logs : length total.log ≤ 11102
  logs = omega (arith, first_log (working w) piece ends, room_enough w work.fit piece F.fed.short)

  stamps : length (feed_bytes (working w) piece).times ≤ entries
  stamps =
      let e : entries_for (working w) (length piece) ≡ times_needed x.plan n = ap (λ (k : ℕ). times_needed x.plan ((k + length piece) / size)) (waiting_long b x work)
      ∙ ap (λ (q : ℕ). times_needed x.plan q) (sym F.whole) in
      omega (arith, entries_enough w work.fit piece, e, F.timed)

  -- ---- the first group

  module _ (kinds : List Kind) (k : kinds ≡ kinds_at b) (front : ℕ) (e : front + x.waiting ≡ size) where
    abbrev one : Flow
    one = feed_bytes (working w) (take front piece)

    abbrev two : Flow
    two = feed_bytes one.state (take ((n - 1) * size) (drop front piece))

    pub front_in : front ≤ length piece
    front_in = omega (arith, e, filled_in, one_filled)

    pub others_in : front + (n - 1) * size ≤ length piece
    others_in = omega (arith, e, filled_in, others)

    pub total_is : total ≡ flowed one two
    total_is =
        let m : ends ≡ front + (n - 1) * size = omega (arith, e, others) in
        ap (λ (i : ℕ). feed_bytes (working w) (take i piece)) m ∙ ap (feed_bytes (working w)) (take-add front ((n - 1) * size) piece)
        ∙ feed_append (working w) (take front piece) (take ((n - 1) * size) (drop front piece))

    both_log : length one.log + length two.log ≤ 11102
    both_log = omega (arith, logs, ap (λ (f : Flow). length f.log) total_is ∙ length-append one.log two.log)

    both_times : length one.times + length two.times ≤ entries
    both_times = omega (arith, first_times (working w) piece ends, stamps, ap (λ (f : Flow). length f.times) total_is ∙ length-append one.times two.times)

    pub one_is : (v : List ℕ) → v ≡ take x.waiting (drop 1024 b) ++ take front piece → feed_bytes (working (work_of x.plan kinds (start_of x) table)) v ≡ one
    one_is v z = rw (z, k, F.fed.table_is) (fed_whole w (take front piece) (rw (waiting_long b x work) work.part))

    pub first_ready : Ready x.plan kinds (start_of x) table
    first_ready = rw (k, F.fed.table_is) (record { fit = empty_fits w work.fit; sane = work.sane; bits = work.left })

    pub first_small : (x.groups + 1) * size ≤ most_bytes
    first_small = omega (arith, F.size, filled_in, one_filled)

    module _ (g : Flow) (gs : g ≡ one) (l t : List ℕ) (el : length l ≡ room) (et : length t ≡ entries) where
      pub first_takes : Takes g (start_of x) l t
      first_takes = rw gs (record { bytes = omega (arith, both_log, el, F.fed.roomy); entries = omega (arith, both_times, et) })

      module _ {r : Along} {table' l' t' : List ℕ} (G : Goes x.plan kinds g (start_of x) r table' l l' t t') where
        abbrev next : Flow
        next = feed_bytes (reached x.plan kinds r table') (take ((n - 1) * size) (drop front piece))

        next_is : next ≡ two
        next_is = ap (λ (s : State). feed_bytes s (take ((n - 1) * size) (drop front piece))) (sym G.is ∙ ap (λ (f : Flow). f.state) gs)

        front_long : length (take front piece) ≡ front
        front_long = length-take-le front piece front_in

        pub next_ready : Ready x.plan kinds r table'
        next_ready = record {
          fit =
              let small : count_in (working w) + length (take front piece) ≤ most_bytes = rw (front_long, count_is) (omega (arith, F.size, front_in)) in
              ap fits (sym G.is ∙ ap (λ (f : Flow). f.state) gs) ∙ feed_fits (take front piece) (working w) work.fit small;
          sane = G.sane;
          bits = G.bits;
        }

        pub next_count : count_in (reached x.plan kinds r table') + (n - 1) * size ≤ most_bytes
        next_count =
            let c : count_in (reached x.plan kinds r table') ≡ count_in one.state = ap count_in (sym G.is ∙ ap (λ (f : Flow). f.state) gs) in
            omega (arith, c, feed_count (working w) (take front piece), front_long, count_is, F.size, others_in)

        pub next_takes : length l' ≡ length l → length t' ≡ length t → Takes next r l' t'
        next_takes fl ft =
            let a : length g.log ≡ length one.log = ap (λ (f : Flow). length f.log) gs in
            let c : length g.times ≡ length one.times = ap (λ (f : Flow). length f.times) gs in
            let a' : length next.log ≡ length two.log = ap (λ (f : Flow). length f.log) next_is in
            let c' : length next.times ≡ length two.times = ap (λ (f : Flow). length f.times) next_is in
            record {
              bytes = omega (arith, G.bytes, a, a', both_log, el, fl, F.fed.roomy);
              entries = omega (arith, G.entries, c, c', both_times, et, ft);
            }

        pub through_goes : {r' : Along} {table'' l'' t'' : List ℕ} → Goes x.plan kinds next r r' table'' l' l'' t' t'' → Goes x.plan kinds total (start_of x) r' table'' l l'' t t''
        through_goes {r'} {table''} {l''} {t''} H =
            let a : length g.log ≡ length one.log = ap (λ (f : Flow). length f.log) gs in
            let c : length g.times ≡ length one.times = ap (λ (f : Flow). length f.times) gs in
            let a' : length next.log ≡ length two.log = ap (λ (f : Flow). length f.log) next_is in
            let c' : length next.times ≡ length two.times = ap (λ (f : Flow). length f.times) next_is in
            let h : flowed g next ≡ total = ap₂ flowed gs next_is ∙ sym total_is in
            subst (λ (f : Flow). Goes x.plan kinds f (start_of x) r' table'' l l'' t t'') h
            (goes_more x.plan kinds g next G H (omega (arith, a, a', both_log, el, F.fed.roomy)) (omega (arith, c, c', both_times, et)))

  -- ---- the end of the call

  abbrev rest : List ℕ
  rest = drop ends piece

  all_is : feed_bytes (working w) piece ≡ flowed total (feed_bytes total.state rest)
  all_is = cut_at (working w) piece ends

  module _ {r : Along} {table' l l' t t' : List ℕ} (el : length l ≡ room) (et : length t ≡ entries) (G : Goes x.plan (kinds_at b) total (start_of x) r table' l l' t t') where
    feeds : feeding b piece (length l) (length t) ≡ outcome_of (answered (feed_bytes (working w) piece))
    feeds = rw (el, et) (fed_bytes b x work piece room entries F.fed.short F.fed.roomy (rw (sym F.whole) F.timed) F.size)

    -- what was handed out, and the state s
    given : (s : State) (a : Answer) (b' : List ℕ) → feed_bytes (working w) piece ≡ record { log = total.log; times = total.times; state = s }
        → a ≡ record { number = number_of s; place = place_in s; second = second_in s; bytes = r.bytes; times = r.times } → b' ≡ state_bytes s
        → Leaves (feeding b piece (length l) (length t)) a b' l l' t t'
    given s a b' f g h =
        subst (λ (o : Outcome). Leaves o a b' l l' t t') (sym (feeds ∙ ap (λ (u : Flow). outcome_of (answered u)) f))
        (record {
          answer = g ∙ ap₂ (λ (i j : ℕ). the s i j) (G.bytes ∙ omega arith) (G.entries ∙ omega arith);
          state = h;
          log = G.log ∙ laid_front total.log l;
          times = G.times ∙ laid_front total.times t;
        })
      where
        the : State → ℕ → ℕ → Answer
        the s i j = record { number = number_of s; place = place_in s; second = second_in s; bytes = i; times = j }

    total_fits : fits total.state ≡ true
    total_fits =
        let m : length (take ends piece) ≡ ends = length-take-le ends piece ends_in in
        feed_fits (take ends piece) (working w) work.fit (rw (m, count_is) (omega (arith, F.size, ends_in)))

    -- a fault was met
    module _ (z : r.number ≡ 0 → ⊥) where
      fault : State
      fault = failed r.number r.place r.second

      fault_is : total.state ≡ failed r.number r.place r.second
      fault_is = G.is ∙ rw (ne_eqb r.number 0 z) refl

      pub fault_fits : fits (failed r.number r.place r.second) ≡ true
      fault_fits = ap fits (sym fault_is) ∙ total_fits

      pub fault_given : (a : Answer) (b' : List ℕ) → a ≡ answer_at r.number r.place r.second r → b' ≡ state_bytes (failed r.number r.place r.second)
          → Leaves (feeding b piece (length l) (length t)) a b' l l' t t'
      fault_given a b' f h =
          given (failed r.number r.place r.second) a b'
          (all_is ∙ ap (λ (s : State). flowed total (feed_bytes s rest)) fault_is ∙ ap (flowed total) (feed_failed r.number r.place r.second rest)
          ∙ ap₂ (λ (u v : List ℕ). the u v) (append-nil total.log) (append-nil total.times))
          f h
        where
          the : List ℕ → List ℕ → Flow
          the u v = record { log = u; times = v; state = failed r.number r.place r.second }

    -- none was met
    module _ (z : r.number ≡ 0) (k : ℕ) (ke : k ≡ length piece - ends) where
      abbrev then : Working
      then = keeps (work_of x.plan (kinds_at b) r table') rest

      rest_long : length rest ≡ k
      rest_long = length-drop ends piece ∙ sym ke

      work_is : total.state ≡ working (work_of x.plan (kinds_at b) r table')
      work_is = G.is ∙ reached_work x.plan (kinds_at b) r table' z

      whole_is : feed_bytes (working w) piece ≡ record { log = total.log; times = total.times; state = working then }
      whole_is =
          let h : 0 + length rest < size = omega (arith, rest_long, ke, rest_few, ends_in, one_filled, work.part) in
          all_is ∙ ap (λ (s : State). flowed total (feed_bytes s rest)) work_is ∙ ap (flowed total) (feed_part (work_of x.plan (kinds_at b) r table') rest h)
          ∙ ap₂ (λ (u v : List ℕ). the u v) (append-nil total.log) (append-nil total.times)
        where
          the : List ℕ → List ℕ → Flow
          the u v = record { log = u; times = v; state = working then }

      stored : working_of (kinds_at b) (stand_at x.plan r k) table' rest ≡ then
      stored =
          ap₂ (λ (v bits : List ℕ). the v bits) (take_all k rest (omega (arith, rest_long))) (bits_mod r.pen.bits r.pen.bits r.pen.last (le_refl r.pen.bits))
        where
          the : List ℕ → List ℕ → Working
          the v bits = record { plan = x.plan; kinds = kinds_at b; groups = r.groups; waiting = v; bits = bits; carry = then.carry }

      pub storable : Storable (kinds_at b) (stand_at x.plan r k) table' rest
      storable = record {
        fit =
            ap (λ (u : Working). fits (working u)) stored ∙ ap fits (sym (ap (λ (f : Flow). f.state) whole_is))
            ∙ feed_fits piece (working w) work.fit (rw count_is F.size);
        held = G.sane;
        last = mod-lt r.pen.last (pow_pos r.pen.bits);
        count = sym rest_long;
      }

      pub fed_given : (a : Answer) (b' : List ℕ) → a ≡ answer_at 0 0 0 r → b' ≡ state_bytes (working (working_of (kinds_at b) (stand_at x.plan r k) table' rest))
          → Leaves (feeding b piece (length l) (length t)) a b' l l' t t'
      fed_given a b' f h = given (working then) a b' whole_is f (h ∙ ap (λ (u : Working). state_bytes (working u)) stored)

    -- either way
    module _ (rest' : List ℕ) (re : rest' ≡ rest) where
      stores_rest : Stores x.plan (kinds_at b) r table' rest
      stores_rest = record {
        fault = λ z. fault_fits z;
        works = λ z. storable z (length rest) (length-drop ends piece);
      }

      pub stores : Stores x.plan (kinds_at b) r table' rest'
      stores = subst (Stores x.plan (kinds_at b) r table') (sym re) stores_rest

      pub ends_given : (a : Answer) (b' : List ℕ) → a ≡ end_answer r → b' ≡ state_bytes (end_state x.plan (kinds_at b) r table' rest')
          → Leaves (feeding b piece (length l) (length t)) a b' l l' t t'
      ends_given a b' f h = go (eqb r.number 0) refl f (h ∙ ap (λ (u : List ℕ). state_bytes (end_state x.plan (kinds_at b) r table' u)) re)
        where
          go : (q : Bool) → eqb r.number 0 ≡ q → a ≡ cond q (answer_at 0 0 0 r) (answer_at r.number r.place r.second r)
              → b' ≡ state_bytes (cond q (working (working_of (kinds_at b) (stand_at x.plan r (length rest)) table' rest)) (failed r.number r.place r.second))
              → Leaves (feeding b piece (length l) (length t)) a b' l l' t t'
          go true e f h = fed_given (eqb-true r.number 0 e) (length rest) (length-drop ends piece) a b' f h
          go false e f h = fault_given (eqb-false r.number 0 e) a b' f h
