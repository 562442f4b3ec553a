-- What a caller of `load` knows of a state at work.
use Prim.Native.Nat.{ℕ, ◌+◌, ◌*◌, ◌^◌, ◌≤◌, ◌<◌}
use native.Mathlib.Omega.{arith}
use mathlib.Core.Bool.{Bool, true, false, cond}
use mathlib.Core.Path.{◌≡◌, refl, ap, sym, subst, ◌∙◌}
use mathlib.Core.List.{List}
use lib.ListN.{length, drop}
use lib.Dec.{eqb}
use borrow.Author.Tests.{eq-eqb, eqb-true, eqb-false}
use Rattle.format.specs.Laws.Word.Parts.{Holds}
use Rattle.format.specs.Laws.Legal.{legal_is}
use Rattle.format.specs.Laws.Lists.{length_list}
use Rattle.format.specs.Lists.{All, nil, cons, list}
use Rattle.format.proofs.Laws.Reader.Forth.{HeldOk}
use Rattle.format.specs.Laws.Reader.Held.{held_parts}
use Rattle.stream_rules.specs.Stream.{State, closed, failed, working, Working, fits, held_fits}
use Rattle.stream_rules.specs.StateNumbers.{held_from}
use Rattle.stream_rules.specs.Laws.Stream.Fits.{held_ok}
use Rattle.stream_rules.proofs.Laws.Stream.Numbers.{held_holds}
use Rattle.data_start.specs.Holding.{flat}
use Rattle.data_word.specs.Holding.{BaseFits, Fits, held_of}
use Rattle.data_word.proofs.Flat.{flat_is_sane, held_of_flat}
use Rattle.format.specs.declared.Kind.{Kind}
use Rattle.format.specs.declared.Base.{Base}
use Rattle.format.specs.declared.Base.TheVariants as base
use Rattle.format.specs.declared.Held.{Held}
use Rattle.format.specs.declared.Held.TheVariants.{Nothing, Taggable, Half, TagHigh, TagLow, Answering}
use Rattle.stream_state.specs.declared.Loaded.{Loaded}
use Rattle.stream_state.specs.declared.Stand.{Stand}
use Rattle.stream_state.specs.Layout.{is_state, number_at, state_at}
use Rattle.stream_state.specs.Parts.{kinds_at, plan_at, working_at}
use Rattle.stream_state.specs.Stand.{loaded_as, loaded_of, stand_of, working_of}
use Rattle.stream_state.specs.AtWork.{AtWork, table_at, work_in}
use Rattle.stream_state.specs.Laws.Bytes.{passed}
use Rattle.stream_state.specs.Laws.Ended.{state_closed, state_failed}
use Rattle.stream_state.specs.Laws.Loaded.{loaded_working, told}
use Rattle.stream_state.specs.Laws.Working.{Sound, bits_fit_lem, held_fits_lem, is_sound, sized, sound_fits, sound_stand, state_working}

-- ---- what is held, and fits, fits its fields in the log

base_fits : (ks : List Kind) → length ks ≡ 16 → (x : Base) → HeldOk ks (Taggable x) → BaseFits x
base_fits ks n (base.Command bus b word) o = go (held_holds ks n (Taggable (base.Command bus b word)) o)
  where
    go : All (Holds false) (held_parts (Taggable (base.Command bus b word))) → (bus < 16) × (word < 2 ^ 16)
    go (cons h nil) = (h.bus, h.info)
base_fits ks n (base.Arinc bus c word) o = go (held_holds ks n (Taggable (base.Arinc bus c word)) o)
  where
    go : All (Holds false) (held_parts (Taggable (base.Arinc bus c word))) → (bus < 16) × (c < 4) × (word < 2 ^ 32)
    go (cons h (cons i nil)) = (h.bus, o.1, o.2)

held_in : (ks : List Kind) → length ks ≡ 16 → (h : Held) → HeldOk ks h → Fits h
held_in ks n Nothing o = tt
held_in ks n (Taggable x) o = base_fits ks n x o
held_in ks n (Half bus c high) o = go (held_holds ks n (Half bus c high) o)
  where
    go : All (Holds false) (held_parts (Half bus c high)) → (bus < 16) × (c < 4) × (high < 2 ^ 16)
    go (cons h nil) = (h.bus, o.1, o.2)
held_in ks n (TagHigh x high) o = (base_fits ks n x o.0, o.1)
held_in ks n (TagLow x high low) o = (base_fits ks n x o.0, o.1, o.2)
held_in ks n (Answering bus r) o = go (held_holds ks n (Answering bus r) o)
  where
    go : All (Holds false) (held_parts (Answering bus r)) → (bus < 16) × (r < 10000)
    go (cons h nil) = (h.bus, o.1)

pub fitting : (ks : List Kind) → length ks ≡ 16 → (h : Held) → held_fits ks h ≡ true → Fits h
fitting ks n h e = held_in ks n h (held_ok ks h e)

-- ---- the stage of a state at work

abbrev stage_in : State → ℕ
stage_in s = (loaded_as s).stage

stage_of : (b : List ℕ) (w : Working) → state_at b ≡ working w → number_at b 0 ≡ 1025
stage_of b w e = go (eqb (number_at b 0) 1025) refl (eqb (number_at b 0) 1026) refl
  where
    go : (t : Bool) → eqb (number_at b 0) 1025 ≡ t → (u : Bool) → eqb (number_at b 0) 1026 ≡ u → number_at b 0 ≡ 1025
    go true p u q = eqb-true (number_at b 0) 1025 p
    go false p true q =
        let z : stage_in (working w) ≡ 2 = ap stage_in (sym e ∙ state_failed b (eqb-true (number_at b 0) 1026 q)) in
        absurd (omega (arith, z))
    go false p false q =
        let z : stage_in (working w) ≡ 0 = ap stage_in (sym e ∙ state_closed b (eqb-false (number_at b 0) 1025 p) (eqb-false (number_at b 0) 1026 q)) in
        absurd (omega (arith, z))

-- ---- all of it

module _ (b : List ℕ) (e : is_state b ≡ true) (stage : number_at b 0 ≡ 1025) where
  s : Sound b
  s = is_sound b stage e

  long : length b ≡ 7168
  long = (passed b e).long

  abbrev held : Held
  held = held_from (kinds_at b) (list (number_at b) 15 5)

  abbrev stand : Stand
  stand = record {
    plan = plan_at b;
    left = number_at b 8;
    last = number_at b 9;
    groups = number_at b 10;
    since = number_at b 11;
    held = flat held;
    waiting = number_at b 100;
  }

  sixteen : length (kinds_at b) ≡ 16
  sixteen = length_list _ 0 16

  held_is : held_of (flat held) ≡ held
  held_is = held_of_flat held (fitting (kinds_at b) sixteen held (held_fits_lem b long stage s).0)

  work_is : working_at b ≡ work_in b stand
  work_is = rw held_is refl

  at_work : AtWork b stand
  at_work = record {
    long = long;
    passes = e;
    says = state_working b stage s.kinds ∙ ap working work_is;
    fit = ap (λ (w : Working). fits (working w)) (sym work_is) ∙ sound_fits b long stage s;
    sixteen = sixteen;
    lawful = s.lawful;
    shape = (legal_is (plan_at b) (kinds_at b) s.lawful).shape;
    sane = flat_is_sane held (fitting (kinds_at b) sixteen held (held_fits_lem b long stage s).0);
    left = (bits_fit_lem b long stage s).0;
    last = (bits_fit_lem b long stage s).1;
    part = (sized b long stage s).0;
    count = (sized b long stage s).1;
    held = rw held_is (held_fits_lem b long stage s).0;
    since = s.since;
    waits = s.waits;
  }

pub loaded_work : (b : List ℕ) → (loaded_of b).stage ≡ 1 → AtWork b (loaded_of b).stand
loaded_work b e =
    let l = loaded_working b e in
    let p : is_state b ≡ true = (told b 1 e (omega arith)).0 in
    let stage : number_at b 0 ≡ 1025 = stage_of b l.0 l.1 in
    let at : loaded_of b ≡ loaded_as (working (working_at b)) = (told b 1 e (omega arith)).1 ∙ ap loaded_as (state_working b stage (s b p stage).kinds) in
    let x : (loaded_of b).stand ≡ stand b p stage = ap (λ (r : Loaded). r.stand) at ∙ sound_stand b (long b p stage) stage (s b p stage) in
    subst (AtWork b) (sym x) (at_work b p stage)
