-- The fields of an item, one behind the other with the widths of the table (document 01, "The house log").
use Rattle.std.specs.Prelude.{ℕ, ◌+◌, ◌-◌, ◌≤◌, Bool, ◌&&◌, List, ◌≡◌, eqb, leb, ltb, length}
use Rattle.format.specs.Log.{field}
use Rattle.log_read.specs.declared.Cursor.{Cursor}
use Rattle.log_read.specs.declared.Took.{Took}
use Rattle.log_read.specs.declared.Head.{Head}
use Rattle.log_read.specs.declared.Sided.{Sided}
use Rattle.log_read.specs.declared.Marked.{Marked}
use Rattle.log_read.specs.declared.Channelled.{Channelled}
use Rattle.log_read.specs.declared.Noticed.{Noticed}
use Rattle.log_read.specs.declared.Tagged.{Tagged}
use Rattle.log_read.specs.Cursor.{took_of, Ahead}

unfoldable pub head_of : Cursor → Head
head_of c =
    let kind : Took = took_of c 4 in
    let bus : Took = took_of kind.next 4 in
    record { kind = kind.field; bus = bus.field; next = bus.next }

unfoldable pub sided_of : Cursor → Sided
sided_of c =
    let side : Took = took_of c 1 in
    let word : Took = took_of side.next 16 in
    record { side = side.field; word = word.field; next = word.next }

unfoldable pub marked_of : Cursor → Marked
marked_of c =
    let side : Took = took_of c 1 in
    let mark : Took = took_of side.next 1 in
    let word : Took = took_of mark.next 16 in
    record { side = side.field; mark = mark.field; word = word.field; next = word.next }

unfoldable pub channelled_of : Cursor → Channelled
channelled_of c =
    let channel : Took = took_of c 2 in
    let mark : Took = took_of channel.next 1 in
    let word : Took = took_of mark.next 32 in
    record { channel = channel.field; mark = mark.field; word = word.field; next = word.next }

unfoldable pub noticed_of : Cursor → Noticed
noticed_of c =
    let channel : Took = took_of c 2 in
    let diagnostics : Took = took_of channel.next 8 in
    record { channel = channel.field; diagnostics = diagnostics.field; next = diagnostics.next }

unfoldable pub tagged_of : Cursor → Tagged
tagged_of c =
    let high : Took = took_of c 16 in
    let low : Took = took_of high.next 16 in
    let micro : Took = took_of low.next 14 in
    record { high = high.field; low = low.field; micro = micro.field; next = micro.next }

-- whether an end mark stands before the end of a log of so many bits: kind 0, fewer than eight bits behind it, and those zero
unfoldable pub ends_of : Cursor → ℕ → Bool
ends_of c total = leb 4 (total - c.at) && (ltb (total - c.at) 12 && eqb (took_of c (total - c.at)).field 0)

-- a head that was read at the bit p of s, with 57 bits ahead from there
pub record Heads (s : List ℕ) (p : ℕ) (h : Head) : Type 0 where
  pub kind : p + 4 ≤ length s → h.kind ≡ field s p 4
  pub bus : p + 8 ≤ length s → h.bus ≡ field s (p + 4) 4
  pub next : Ahead s p 57 8 h.next
