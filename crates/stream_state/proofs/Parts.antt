-- A working state's bytes that fail a part of the written test, or pass them all.
use Prim.Native.Nat.{ℕ, ◌+◌}
use mathlib.Core.Bool.{Bool, true, false, cond}
use mathlib.Core.Path.{◌≡◌, refl, sym, ap, ◌∙◌}
use mathlib.Core.List.{List}
use lib.ListN.{length, take, drop}
use Rattle.format.specs.Lists.{Bytes, list}
use Rattle.format.specs.Plan.{legal}
use Rattle.format.specs.Laws.Tests.{clash}
use Rattle.from_c.specs.Numbers.{are_kinds, plan_from}
use Rattle.data_start.specs.declared.Holding.{Holding}
use Rattle.data_start.specs.Holding.{flat}
use Rattle.stream_rules.specs.Stream.{place_fits, waits_fit, working}
use Rattle.stream_rules.specs.StateNumbers.{held_from}
use Rattle.format.specs.declared.Kind.{Kind}
use Rattle.format.specs.declared.Plan.{Plan}
use Rattle.format.specs.declared.Held.TheVariants.{Nothing}
use Rattle.stream_state.specs.declared.Again.{Again}
use Rattle.stream_state.specs.declared.Loaded.{Loaded}
use Rattle.stream_state.specs.declared.Stand.{Stand}
use Rattle.stream_state.specs.Again.{again_of}
use Rattle.stream_state.specs.Layout.{number_at, state_at}
use Rattle.stream_state.specs.Loading.{Planned, Sized}
use Rattle.stream_state.specs.Parts.{are_zeros, bits_fit, held_passes, kinds_at, plan_at, plan_named, size_fits, working_at}
use Rattle.stream_state.specs.Stand.{loaded_as, loaded_of, stopped}
use Rattle.stream_state.specs.Laws.Working.{Sound, is_sound, sound_is, sound_stand, state_working}
use Rattle.stream_state.proofs.Loads.{loads, misfits}

abbrev Refused : List ℕ → Type 0
Refused b = stopped 3 0 0 0 ≡ loaded_of b

pub refuse : (b : List ℕ) → number_at b 0 ≡ 1025 → (t : Bool) → (Sound b → t ≡ true) → t ≡ false → Refused b
refuse b stage t f e = sym (misfits b t (λ s. f (is_sound b stage s)) e)

-- the plan's seven numbers
pub record Seven (b : List ℕ) (words tracks time crc parity label code : ℕ) : Type 0 where
  pub first : words ≡ number_at b 1
  pub second : tracks ≡ number_at b 2
  pub third : time ≡ number_at b 3
  pub fourth : crc ≡ number_at b 4
  pub fifth : parity ≡ number_at b 5
  pub sixth : label ≡ number_at b 6
  pub seventh : code ≡ number_at b 7

module _ {b : List ℕ} {words tracks time crc parity label code : ℕ} (n : Seven b words tracks time crc parity label code) where
  abbrev named : Bool
  named = plan_named words tracks time crc parity label code

  as_read : named ≡ plan_named (number_at b 1) (number_at b 2) (number_at b 3) (number_at b 4) (number_at b 5) (number_at b 6) (number_at b 7)
  as_read = rw (n.first, n.second, n.third, n.fourth, n.fifth, n.sixth, n.seventh) refl

  pub unnamed : number_at b 0 ≡ 1025 → named ≡ false → Refused b
  unnamed stage e =
      refuse b stage (plan_named (number_at b 1) (number_at b 2) (number_at b 3) (number_at b 4) (number_at b 5) (number_at b 6) (number_at b 7)) (λ x. x.named) (sym as_read ∙ e)

  -- numbers that are named are those of a plan
  pub planned : length b ≡ 7168 → number_at b 0 ≡ 1025 → named ≡ true → are_kinds (list (number_at b) 20 16) ≡ true → Planned b (plan_from words tracks time crc parity label code)
  planned long stage e k = record {
    long = long;
    stage = stage;
    named = sym as_read ∙ e;
    kinds = k;
    is = rw (n.first, n.second, n.third, n.fourth, n.fifth, n.sixth, n.seventh) refl;
  }

pub unkind : (b : List ℕ) → number_at b 0 ≡ 1025 → are_kinds (list (number_at b) 20 16) ≡ false → Refused b
unkind b stage e = refuse b stage (are_kinds (list (number_at b) 20 16)) (λ x. x.kinds) e

module _ (b : List ℕ) (p : Plan) (z : Planned b p) where
  pub unlawful : (ks : List Kind) → ks ≡ kinds_at b → legal p ks ≡ false → Refused b
  unlawful ks k e = refuse b z.stage (legal (plan_at b) (kinds_at b)) (λ x. x.lawful) (rw (k, z.is) at e)

  pub oversized : (groups waiting : ℕ) → groups ≡ number_at b 10 → waiting ≡ number_at b 100 → size_fits p groups waiting ≡ false → Refused b
  oversized groups waiting g n e = refuse b z.stage (size_fits (plan_at b) (number_at b 10) (number_at b 100)) (λ x. x.size) (rw (g, n, z.is) at e)

module _ {b : List ℕ} {p : Plan} {groups waiting : ℕ} {ks : List Kind} (z : Sized b p groups waiting ks) where
  refused : (t : Bool) → (Sound b → t ≡ true) → t ≡ false → Refused b
  refused = refuse b z.planned.stage

  pub bad_bits : {left last : ℕ} → left ≡ number_at b 8 → last ≡ number_at b 9 → bits_fit left last ≡ false → Refused b
  bad_bits l m e = refused (bits_fit (number_at b 8) (number_at b 9)) (λ x. x.bits) (rw (l, m) at e)

  pub bad_since : {since : ℕ} → since ≡ number_at b 11 → place_fits p groups since ≡ false → Refused b
  bad_since s e = refused (place_fits (plan_at b) (number_at b 10) (number_at b 11)) (λ x. x.since) (rw (s, z.groups_are, z.planned.is) at e)

  pub bad_fault : are_zeros (list (number_at b) 12 3) ≡ false → Refused b
  bad_fault e = refused (are_zeros (list (number_at b) 12 3)) (λ x. x.faultless) e

  -- what the five numbers hold, by what was fed
  held_bad : (row : List ℕ) → (again_of ks row).bad ≡ true → held_passes ks row ≡ false
  held_bad row e = go (held_passes ks row) e
    where
      go : (t : Bool) → (cond {A = Again} t (record { bad = false; held = flat (held_from ks row) }) (record { bad = true; held = flat Nothing })).bad ≡ true → t ≡ false
      go true f = clash f
      go false f = refl

  held_good : (row : List ℕ) → (again_of ks row).bad ≡ false → (held_passes ks row ≡ true) × ((again_of ks row).held ≡ flat (held_from ks row))
  held_good row e = go (held_passes ks row) e
    where
      go : (t : Bool) → (cond {A = Again} t (record { bad = false; held = flat (held_from ks row) }) (record { bad = true; held = flat Nothing })).bad ≡ false
          → (t ≡ true) × ((cond {A = Again} t (record { bad = false; held = flat (held_from ks row) }) (record { bad = true; held = flat Nothing })).held ≡ flat (held_from ks row))
      go true f = (refl, refl)
      go false f = clash (sym f)

  pub bad_held : {a : Again} → a ≡ again_of ks (list (number_at b) 15 5) → a.bad ≡ true → Refused b
  bad_held e f =
      refused (held_passes (kinds_at b) (list (number_at b) 15 5)) (λ x. x.held) (rw z.kinds_are at (held_bad (list (number_at b) 15 5) (ap (λ (x : Again). x.bad) (sym e) ∙ f)))

  pub bad_waits : {table : List ℕ} → table ≡ list (number_at b) 36 64 → waits_fit p ks groups 0 table ≡ false → Refused b
  bad_waits t e =
      refused (waits_fit (plan_at b) (kinds_at b) (number_at b 10) 0 (list (number_at b) 36 64)) (λ x. x.waits) (rw (t, z.groups_are, z.kinds_are, z.planned.is) at e)

  pub bad_gap : are_zeros (take 216 (drop 808 b)) ≡ false → Refused b
  bad_gap e = refused (are_zeros (take 216 (drop 808 b))) (λ x. x.gap) e

  pub bad_tail : are_zeros (drop (1024 + waiting) b) ≡ false → Refused b
  bad_tail e = refused (are_zeros (drop (1024 + number_at b 100) b)) (λ x. x.tail) (rw z.waiting_is at e)

  pub all_good : {left last since : ℕ} {a : Again} {table : List ℕ} → Bytes b
      → left ≡ number_at b 8 → last ≡ number_at b 9 → since ≡ number_at b 11 → a ≡ again_of ks (list (number_at b) 15 5) → table ≡ list (number_at b) 36 64
      → bits_fit left last ≡ true → place_fits p groups since ≡ true → are_zeros (list (number_at b) 12 3) ≡ true → a.bad ≡ false → waits_fit p ks groups 0 table ≡ true
      → are_zeros (take 216 (drop 808 b)) ≡ true → are_zeros (drop (1024 + waiting) b) ≡ true
      → ◌≡◌ {A = Loaded} (record {
        stage = 1;
        stand = record { plan = p; left = left; last = last; groups = groups; since = since; held = a.held; waiting = waiting };
        number = 0;
        place = 0;
        second = 0;
      }) (loaded_of b)
  all_good {left} {last} {since} {a} {table} bytes l m s e t x y u v w g d =
      let h = held_good (list (number_at b) 15 5) (ap (λ (x : Again). x.bad) (sym e) ∙ v) in
      let sound : Sound b = record {
        named = z.planned.named;
        kinds = z.planned.kinds;
        lawful = rw (z.kinds_are, z.planned.is) at z.lawful;
        size = rw (z.groups_are, z.waiting_is, z.planned.is) at z.size;
        bits = rw (l, m) at x;
        since = rw (s, z.groups_are, z.planned.is) at y;
        faultless = u;
        held = rw z.kinds_are at h.0;
        waits = rw (t, z.groups_are, z.kinds_are, z.planned.is) at w;
        gap = g;
        tail = rw z.waiting_is at d;
      } in
      let held : a.held ≡ flat (held_from (kinds_at b) (list (number_at b) 15 5)) =
      ap (λ (x : Again). x.held) e ∙ h.1 ∙ ap (λ (k : List Kind). flat (held_from k (list (number_at b) 15 5))) z.kinds_are in
      rw (z.planned.is, l, m, z.groups_are, s, held, z.waiting_is)
      (sym (loads b (working (working_at b)) (sound_is b z.planned.long z.planned.stage sound bytes) (state_working b z.planned.stage z.planned.kinds)
      ∙ ap (λ (k : Stand). record { stage = 1; stand = k; number = 0; place = 0; second = 0 }) (sound_stand b z.planned.long z.planned.stage sound)))
