-- The log is closed, and the reading over the groups ends.
use Prim.Native.Nat.{ℕ, ◌+◌, ◌≤◌}
use native.Mathlib.Omega.{arith}
use mathlib.Core.Bool.{true, false}
use mathlib.Core.Path.{◌≡◌, refl, sym, ap, ap₂, ◌∙◌}
use mathlib.Core.List.{List, flat_map}
use lib.ListN.{length, take}
use Rattle.format.specs.Item.{item_bits}
use Rattle.format.specs.Lists.{Bytes}
use Rattle.format.specs.Plan.{slots, stored_at}
use Rattle.format.specs.Log.{log_of}
use Rattle.format.specs.Read.{Got, got, stopped, before, finish, read_groups, misplaced}
use Rattle.format.specs.declared.Kind.{Kind}
use Rattle.format.specs.declared.Item.{Item}
use Rattle.format.specs.declared.Held.TheVariants.{Nothing}
use Rattle.format.specs.declared.Plan.{Plan}
use Rattle.data_start.specs.declared.Step.{Step}
use Rattle.data_word.specs.Holding.{held_of}
use Rattle.data_word.specs.Meaning.{Closes}
use Rattle.data_run.specs.declared.Pass.{Pass}
use Rattle.data_run.specs.declared.fill.Fills.{Fills}
use Rattle.read_groups.specs.declared.Walk.{Walk}
use Rattle.log_write.specs.Pen.{closed_in, closed_size, Wrote}
use Rattle.log_write.proofs.Writing.{wrote_none, closed_size_lem, closed_long, closed_log}
use Rattle.data_put.specs.Put.{step_pen, step_out}
use Rattle.data_run.specs.Pass.{start_pass}
use Rattle.read_groups.specs.Misplaced.{told, place_up}
use Rattle.read_groups.specs.Groups.{Through, Walked}
use Rattle.notices.specs.Laws.Capture.{told15, placed_up, open_in_lem}
use Rattle.notices.specs.Laws.Groups.{open_number, open_few}
use Rattle.read_groups.specs.End.{Ended}
use Rattle.read_groups.proofs.Numbered.{numbers_say_misplaced}
use Rattle.data_run.proofs.Closing.{finish_cut, closed_items, closed_got, closed_wrote}

module _ (ks : List Kind) (p : Plan) (c : List ℕ) (n : ℕ) (out₀ : List ℕ) where
  abbrev all : Got
  all = read_groups p ks c n 0 Nothing 0

  refusal_ends : (k q s : ℕ) (out' : List ℕ) → (k ≡ 0 → ⊥) → all ≡ stopped k q s
      → Ended ks p c n (record { number = k; place = q; second = s; bytes = 0; notice = 0; misplaced = 0 }) out'
  refusal_ends k q s out' z e = record { logged = λ y. absurd (z y); refused = λ _. record { is = e; bytes = refl; notice = refl; misplaced = refl } }

  pub ends_stopped : {out : List ℕ} {k : Walk} (out' : List ℕ) → Walked ks p c n out₀ k out → (k.number ≡ 0 → ⊥)
      → Ended ks p c n (record { number = k.number; place = k.place; second = k.second; bytes = 0; notice = 0; misplaced = 0 }) out'
  ends_stopped {out} {k} out' m z = refusal_ends k.number k.place k.second out' z (m.stops z)

  module _ (x : Pass) (out : List ℕ) (t : Through ks p c n out₀ x out) (s : Step) (m : Closes (finish (held_of x.held) (stored_at p x.since)) s) where
    abbrev last : Got
    last = finish (held_of x.held) (stored_at p x.since)

    pub ends_cut : {place : ℕ} (out' : List ℕ) → s.bad ≡ true → place ≡ stored_at p x.since
        → Ended ks p c n (record { number = 13; place = place; second = place; bytes = 0; notice = 0; misplaced = 0 }) out'
    ends_cut {place} out' z e =
        refusal_ends 13 place place out' (λ y. absurd (omega arith))
        (t.is ∙ ap (before t.items) (finish_cut (held_of x.held) (stored_at p x.since) s m z ∙ ap (λ (q : ℕ). stopped 13 q q) (sym e)))

    module _ (z : s.bad ≡ false) where
      items : List Item
      items = closed_items start_pass out₀ t.items x out t.brought (stored_at p x.since) s m z

      all_is : all ≡ got items
      unfolding items
      all_is = t.is ∙ closed_got start_pass out₀ t.items x out t.brought (stored_at p x.since) s m z

      all_wrote : Wrote (flat_map item_bits items) (step_out out x.pen s) (step_pen x.pen s)
      unfolding items
      all_wrote = closed_wrote start_pass out₀ t.items x out t.brought (stored_at p x.since) s m z (wrote_none out₀)

      pub ends_log : {bytes notice : ℕ} {out' : List ℕ} → 1 ≤ slots p → Bytes c → notice ≡ open_number ks p c n → bytes ≡ closed_size (step_pen x.pen s) → out' ≡ closed_in (step_out out x.pen s) (step_pen x.pen s)
          → Ended ks p c n (record { number = 0; place = 0; second = 0; bytes = bytes; notice = notice; misplaced = x.fills.misplaced }) out'
      ends_log {bytes} {notice} {out'} some all_bytes o b e =
          let size : bytes ≡ length (log_of items) = b ∙ closed_size_lem items (step_out out x.pen s) (step_pen x.pen s) all_wrote in
          let long : length out' ≡ length (step_out out x.pen s) = ap (λ (l : List ℕ). length l) e ∙ closed_long items (step_out out x.pen s) (step_pen x.pen s) all_wrote in
          record {
            logged = λ _. record {
              items = items;
              is = all_is;
              place = refl;
              second = refl;
              bytes = size;
              log = λ h. ap₂ (λ (j : ℕ) (l : List ℕ). take j l) size e ∙ closed_log items (step_out out x.pen s) (step_pen x.pen s) all_wrote (omega (arith, h, size, long));
              notice_number = o;
              notice = ap (λ (m : ℕ). told15 (placed_up (stored_at p) m)) o ∙ open_in_lem p ks c n items some all_bytes all_is;
              number = sym (ap (λ (y : Fills). y.misplaced) t.fill);
              fill = ap (λ (y : Fills). told (place_up (stored_at p) y.misplaced)) (sym t.fill) ∙ numbers_say_misplaced p c some n;
              low = (rw o (open_few ks p c n), t.fill_low);
            };
            refused = λ z. absurd (z refl);
          }
