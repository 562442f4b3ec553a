-- The fields that are taken behind each other are those of the bits, as the table has them.
use Prim.Native.Nat.{ℕ, ◌+◌, ◌≤◌}
use native.Mathlib.Nat.{add-zero}
use native.Mathlib.Omega.{arith}
use mathlib.Core.Path.{◌≡◌, ap, sym, ◌∙◌}
use mathlib.Core.List.{List}
use lib.ListN.{length}
use Rattle.format.specs.Log.{field}
use Rattle.format.specs.declared.Time.{Time}
use Rattle.log_read.specs.declared.Cursor.{Cursor}
use Rattle.log_read.specs.declared.Head.{Head}
use Rattle.log_read.specs.Cursor.{took_of, Ahead}
use Rattle.log_read.specs.Fields.{Heads, head_of, sided_of, marked_of, channelled_of, noticed_of, tagged_of}
use Rattle.log_read.specs.Found.{time_at}
use Rattle.log_read.proofs.Taken.{took_field, took_ahead}

pub head_read : {s : List ℕ} {p : ℕ} {c : Cursor} {h : Head} → Ahead s p 57 0 c → h ≡ head_of c → Heads s p h
unfolding head_of
head_read {s} {p} {c} {h} a e =
    let b = took_ahead a (omega arith) 4 (omega arith) in
    rw e (record {
      kind = λ l. sym (ap (λ (q : ℕ). field s q 4) (sym (add-zero p)) ∙ took_field a (omega arith) 4 (omega arith) l);
      bus = λ l. sym (took_field b (omega arith) 4 (omega arith) l);
      next = took_ahead b (omega arith) 4 (omega arith);
    })

module _ {s : List ℕ} {p : ℕ} {c : Cursor} (a : Ahead s p 57 8 c) where
  pub sided_read : p + 25 ≤ length s → (field s (p + 8) 1 ≡ (sided_of c).side) × (field s (p + 9) 16 ≡ (sided_of c).word)
  unfolding sided_of
  sided_read l =
      let b = took_ahead a (omega arith) 1 (omega arith) in
      (took_field a (omega arith) 1 (omega arith) (omega arith), took_field b (omega arith) 16 (omega arith) l)

  pub marked_read : p + 26 ≤ length s
      → (field s (p + 8) 1 ≡ (marked_of c).side) × (field s (p + 9) 1 ≡ (marked_of c).mark) × (field s (p + 10) 16 ≡ (marked_of c).word)
  unfolding marked_of
  marked_read l =
      let b = took_ahead a (omega arith) 1 (omega arith) in
      let d = took_ahead b (omega arith) 1 (omega arith) in (
        took_field a (omega arith) 1 (omega arith) (omega arith),
        took_field b (omega arith) 1 (omega arith) (omega arith),
        took_field d (omega arith) 16 (omega arith) l,
      )

  pub marked_ahead : Ahead s p 57 26 (marked_of c).next
  unfolding marked_of
  marked_ahead =
      let b = took_ahead a (omega arith) 1 (omega arith) in
      let d = took_ahead b (omega arith) 1 (omega arith) in
      took_ahead d (omega arith) 16 (omega arith)

  pub channelled_read : p + 43 ≤ length s
      → (field s (p + 8) 2 ≡ (channelled_of c).channel) × (field s (p + 10) 1 ≡ (channelled_of c).mark) × (field s (p + 11) 32 ≡ (channelled_of c).word)
  unfolding channelled_of
  channelled_read l =
      let b = took_ahead a (omega arith) 2 (omega arith) in
      let d = took_ahead b (omega arith) 1 (omega arith) in (
        took_field a (omega arith) 2 (omega arith) (omega arith),
        took_field b (omega arith) 1 (omega arith) (omega arith),
        took_field d (omega arith) 32 (omega arith) l,
      )

  pub noticed_read : p + 18 ≤ length s → (field s (p + 8) 2 ≡ (noticed_of c).channel) × (field s (p + 10) 8 ≡ (noticed_of c).diagnostics)
  unfolding noticed_of
  noticed_read l =
      let b = took_ahead a (omega arith) 2 (omega arith) in
      (took_field a (omega arith) 2 (omega arith) (omega arith), took_field b (omega arith) 8 (omega arith) l)

-- a tag, read where 46 bits or more are ahead
pub tagged_read : {s : List ℕ} {p n : ℕ} {c : Cursor} → Ahead s p n 0 c → 46 ≤ n → n ≤ 64 → p + 46 ≤ length s
    → time_at s p ≡ record { high = (tagged_of c).high; low = (tagged_of c).low; micro = (tagged_of c).micro }
unfolding tagged_of
tagged_read {s} {p} {n} {c} a some few l =
    let b = took_ahead a few 16 (omega arith) in
    let d = took_ahead b few 16 (omega arith) in
    rw (
      ap (λ (q : ℕ). field s q 16) (sym (add-zero p)) ∙ took_field a few 16 (omega arith) (omega arith),
      took_field b few 16 (omega arith) (omega arith),
      took_field d few 14 (omega arith) (omega arith),
    )
