-- What the code does at a group, as the definitions say it.
use Prim.Native.Nat.{ℕ, suc, ◌+◌, ◌*◌, ◌-◌, ◌^◌, ◌<◌, ◌≤◌}
use native.Mathlib.Nat.{mul-le-mul_left}
use native.Mathlib.Omega.{arith}
use mathlib.Core.Bool.{Bool, true, false, cond}
use mathlib.Core.Path.{◌≡◌, refl, sym, ap, ap₂, subst, ◌∙◌}
use mathlib.Core.List.{List, [], ◌∷◌, ◌++◌}
use lib.ListN.{length, take, drop, length-append}
use Rattle.format.specs.Plan.{group_words, slots}
use Rattle.format.specs.Group.{Fault, none, found, group_fault, group_time, group_slots}
use Rattle.format.specs.Laws.Limits.{Shape, free}
use Rattle.format.specs.Laws.Reader.Slots.{words_in}
use Rattle.format.specs.declared.Kind.{Kind}
use Rattle.format.specs.declared.Plan.{Plan}
use Rattle.salvage_rules.specs.Salvage.{entry_number, lost_group}
use Rattle.data_word.proofs.Meaning.{nothing_is_sane}
use Rattle.group_read.proofs.Answers.{part_time_is}
use Rattle.capture_parts.proofs.Part.{part_of, slots_few}
use Rattle.salvage_run.specs.declared.Pass.{Pass}
use Rattle.salvage_run.specs.Tape.{drop_group, held_places, Low, on_row, put_at, Sound, Tape, tape}
use Rattle.salvage_run.proofs.Sounds.{grew_told, low_more, places_few}
use Rattle.salvage_groups.specs.declared.Walk.{Walk}
use Rattle.salvage_groups.specs.Reel.{kept_count, kept_row, Moves, on_group, over_groups, Reel, reel, start_walk}

-- ---- sizes

pub numbers_upto : (p : Plan) → Shape p → (g size : ℕ) → g * (3 * group_words p) + 3 * group_words p ≤ size → size ≤ 1048576 → (g + 1) * slots p ≤ 349525
numbers_upto p s g size h l = omega (arith, mul-le-mul_left (g + 1) (slots_few p s))

pub index_few : (p : Plan) → Shape p → (g size : ℕ) → g * (3 * group_words p) + 3 * group_words p ≤ size → size ≤ 1048576 → g < 349525
index_few p s g size h l =
    let m : (g + 1) * 1 ≤ (g + 1) * slots p = mul-le-mul_left (g + 1) (free p s) in
    omega (arith, numbers_upto p s g size h l)

-- ---- a dropped group

-- behind a group there are as many words more
next_few : (p : Plan) → Shape p → (g : ℕ) → g * slots p + 1 ≤ (g + 1) * slots p
next_few p s g = let m : (g + 1) * slots p ≡ g * slots p + slots p = omega arith in omega (arith, free p s)

gap_sound : (p : Plan) → Shape p → (k g : ℕ) (t : Tape) → Sound (g * slots p) t.pass → Sound ((g + 1) * slots p) (drop_group p k g t).pass
unfolding drop_group
gap_sound p s k g t x =
    let ns : List ℕ = held_places p t.pass ++ entry_number (lost_group k g) ∷ [] in
    let few : length ns ≤ 5 = rw (length-append (held_places p t.pass) (entry_number (lost_group k g) ∷ [])) (omega (arith, places_few p t.pass)) in
    let w = grew_told ns 5 t few in
    let n = next_few p s g in
    record {
      sane = w.sane;
      low = low_more ((g + 1) * slots p + 1) (omega arith) x.low;
      few_bits = omega (arith, x.few_bits);
      few_entries = omega (arith, w.few_entries, x.few_entries);
    }

pub dropped_sound : (p : Plan) → Shape p → (k g : ℕ) (x y : Pass) (rep rep' : List ℕ) → Sound (g * slots p) x
    → ((out : List ℕ) → tape y out rep' ≡ drop_group p k g (tape x out rep)) → Sound ((g + 1) * slots p) y
dropped_sound p s k g x y rep rep' a e = subst (λ (t : Tape). Sound ((g + 1) * slots p) t.pass) (sym (e [])) (gap_sound p s k g (tape x [] rep) a)

module _ (ks : List Kind) (p : Plan) (c : List ℕ) (g : ℕ) (w : Walk) (out row rep : List ℕ) where
  pub reel_dropped : {y : Pass} {rep' : List ℕ} (k q : ℕ) → group_fault p c (g * group_words p) ≡ found k q
      → ((o : List ℕ) → tape y o rep' ≡ drop_group p k g (tape w.pass o rep))
      → reel (record { pass = y; times = w.times }) out row rep' ≡ on_group ks p c g (reel w out row rep)
  unfolding on_group
  reel_dropped k q e h = rw e (ap (λ (t : Tape). record { words = t; times = w.times; row = row }) (h out))

  -- ---- a kept group

  pub reel_kept : {y : Pass} {out' row' rep' : List ℕ} (from : ℕ) (ws : List ℕ) (n time : ℕ) → group_fault p c (g * group_words p) ≡ none
      → tape y out' rep' ≡ on_row ks p from ws (tape w.pass out rep) → from ≡ g * slots p → ws ≡ words_in (group_slots p c (g * group_words p))
      → n ≡ kept_count p w.times → row' ≡ kept_row p time w.times row → group_time p c (g * group_words p) ≡ time
      → reel (record { pass = y; times = n }) out' row' rep' ≡ on_group ks p c g (reel w out row rep)
  unfolding on_group
  reel_kept {y} {out'} {row'} {rep'} from ws n time e h f d a b t =
      let z : tape y out' rep' ≡ on_row ks p (g * slots p) (words_in (group_slots p c (g * group_words p))) (tape w.pass out rep) =
      h ∙ ap₂ (λ (k : ℕ) (l : List ℕ). on_row ks p k l (tape w.pass out rep)) f d in
      rw (e, t, a, b) (ap (λ (x : Tape). record { words = x; times = kept_count p w.times; row = kept_row p time w.times row }) z)

-- a frame time is kept, or there is none
pub kept_yes : (p : Plan) (at time : ℕ) (row : List ℕ) → p.frame_time ≡ true → (at + 1 ≡ kept_count p at) × (put_at row at time ≡ kept_row p time at row)
kept_yes p at time row e = rw e (refl, refl)

pub kept_no : (p : Plan) (at time : ℕ) (row : List ℕ) → p.frame_time ≡ false → (at ≡ kept_count p at) × (row ≡ kept_row p time at row)
kept_no p at time row e = rw e (refl, refl)

pub kept_few : (p : Plan) (g at : ℕ) {n : ℕ} → n ≡ kept_count p at → at ≤ g → n ≤ g + 1
kept_few p g at {n} e h = go p.frame_time e
  where
    go : (b : Bool) → n ≡ cond b (at + 1) at → n ≤ g + 1
    go true e = omega arith
    go false e = omega arith

pub time_is : (p : Plan) (s : Shape p) (c : List ℕ) (g : ℕ) → group_time p c (g * group_words p) ≡ group_time p (part_of p s c g) 0
time_is p s c g =
    let a : g * (3 * group_words p) ≡ 3 * (g * group_words p) = omega arith in
    let b : g * (3 * group_words p) + 3 * group_words p - g * (3 * group_words p) ≡ 3 * group_words p = omega arith in
    part_time_is p c (g * group_words p) (g * (3 * group_words p)) (g * (3 * group_words p) + 3 * group_words p - g * (3 * group_words p)) s a b

-- ---- groups, as a loop has them

pub start_moves : (p : Plan) {w : Walk} → w ≡ start_walk → Moves p 0 w
start_moves p e = subst (Moves p 0) (sym e) (record {
  sound = record {
    sane = nothing_is_sane;
    low = record { first_low = omega arith; second_low = omega arith; third_low = omega arith; fourth_low = omega arith };
    few_bits = omega arith;
    few_entries = omega arith;
  };
  few = omega arith;
})

module _ (ks : List Kind) (p : Plan) (c : List ℕ) where
  pub over_next : (n g : ℕ) (r : Reel) → g < n → over_groups ks p c (n - g) g r ≡ over_groups ks p c (n - (g + 1)) (g + 1) (on_group ks p c g r)
  unfolding over_groups
  over_next n g r h = let e : n - g ≡ suc (n - (g + 1)) = omega arith in rw e refl

  pub over_first : (n : ℕ) (r : Reel) → over_groups ks p c n 0 r ≡ over_groups ks p c (n - 0) 0 r
  over_first n r = let e : n ≡ n - 0 = omega arith in ap (λ (k : ℕ). over_groups ks p c k 0 r) e

  pub over_last : (n g : ℕ) (r : Reel) → n ≤ g → over_groups ks p c (n - g) g r ≡ r
  unfolding over_groups
  over_last n g r h = let e : n - g ≡ 0 = omega arith in rw e refl
