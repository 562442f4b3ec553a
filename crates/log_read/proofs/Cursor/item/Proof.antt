use Rattle.log_read.proofs.Table.{head_read}
use Rattle.log_read.proofs.Items.{found_item, next_past, next_item, none_other}
use Rattle.log_read.proofs.Ending.{ends_here}
use Rattle.log_read.proofs.Eight.{filled_ahead}
use Rattle.log_read.specs.Fields.{Heads}
use Rattle.log_read.specs.declared.Head.{Head}
use Rattle.log_read.specs.Cursor.{Ahead}
use Rattle.format.specs.Laws.Bits.{length_bytes}
use Rattle.format.specs.Bits.{bytes_bits}
use mathlib.Core.List.{List}
use mathlib.Core.Path.{ap, sym, ◌∙◌}
use native.Mathlib.Omega.{arith}
use Prim.Native.Nat.{ℕ}
use borrow.Author.Rules.{rules}
use Rattle.log_read.proofs.Cursor.item.Statement.{statement}
use Rattle.log_read.proofs.Cursor.item.Tie as tie

-- the function's entry, from where the head was read; the log and the place
abbrev entry : tie.After-head-head → tie.Start
entry c = c.before.before.before.before.before

abbrev log : tie.After-head-head → List ℕ
log c = (entry c).args.log.now

abbrev place : tie.After-head-head → ℕ
place c = (entry c).args.self.at

ahead : (c : tie.After-head-head) → Ahead (bytes_bits (log c)) (place c) 57 0 c.filled-from.result
ahead c = filled_ahead (log c) (place c) c.filled-from.ensures.0

here : (c : tie.After-head-head) → Heads (bytes_bits (log c)) (place c) c.head-head.result
here c = head_read (ahead c) c.head-head.ensures.0

overflow_mul-total : tie.Need-overflow_mul-total
overflow_mul-total c = search rules

returns-then-total-self : tie.Need-returns-then-total-self
returns-then-total-self c =
    let a = c.args in
    rw (next_past (bytes_bits a.log.now) a.self.at (omega (arith, length_bytes a.log.now)))

filled-from-requires : tie.Need-filled-from-requires
filled-from-requires c κs = search rules

head-head-requires : tie.Need-head-head-requires
head-head-requires c κs = search rules

end_mark-requires : tie.Need-end_mark-requires
end_mark-requires c κs = search rules

command-requires : tie.Need-command-requires
command-requires c κs = search rules

status-requires : tie.Need-status-requires
status-requires c κs = search rules

data-requires : tie.Need-data-requires
data-requires c κs = search rules

bus_error-requires : tie.Need-bus_error-requires
bus_error-requires c κs = search rules

arinc-requires : tie.Need-arinc-requires
arinc-requires c κs = search rules

notice-requires : tie.Need-notice-requires
notice-requires c κs = search rules

user-requires : tie.Need-user-requires
user-requires c κs = search rules

overflow-requires : tie.Need-overflow-requires
overflow-requires c κs = search rules

returns-in-0 : tie.Need-returns-in-0
returns-in-0 c =
    let h = c.before.before in
    rw (ends_here (ahead h) _ (length_bytes (log h)) (omega arith) (sym (ap (λ (r : Head). r.kind) h.head-head.ensures.0) ∙ c.in-0.is)) c.end_mark.ensures

returns-in-1 : tie.Need-returns-in-1
returns-in-1 c = found_item (here c.before.before) 1 (omega arith) c.in-1.is c.command.ensures

returns-in-2 : tie.Need-returns-in-2
returns-in-2 c = found_item (here c.before.before) 2 (omega arith) c.in-2.is (c.status.ensures _ (length_bytes (log c.before.before)))

returns-in-3 : tie.Need-returns-in-3
returns-in-3 c = found_item (here c.before.before) 3 (omega arith) c.in-3.is (c.data.ensures _ (length_bytes (log c.before.before)))

returns-in-4 : tie.Need-returns-in-4
returns-in-4 c = found_item (here c.before.before) 4 (omega arith) c.in-4.is (c.bus_error.ensures _ (length_bytes (log c.before.before)))

returns-in-5 : tie.Need-returns-in-5
returns-in-5 c = found_item (here c.before.before) 5 (omega arith) c.in-5.is c.arinc.ensures

returns-in-6 : tie.Need-returns-in-6
returns-in-6 c = found_item (here c.before.before) 6 (omega arith) c.in-6.is (c.notice.ensures _ (length_bytes (log c.before.before)))

returns-in-7 : tie.Need-returns-in-7
returns-in-7 c = found_item (here c.before.before) 7 (omega arith) c.in-7.is (c.user.ensures _ (length_bytes (log c.before.before)))

returns-in-8 : tie.Need-returns-in-8
returns-in-8 c = found_item (here c.before.before) 8 (omega arith) c.in-8.is (c.overflow.ensures _ (length_bytes (log c.before.before)))

returns-in_default : tie.Need-returns-in_default
returns-in_default c =
    let r = c.in_default.in_default-own.rest in
    let k = c.head-head.result.kind in
    rw (
      next_item (here c.before) r.0.0.0.0.0.0.0.0.1,
      none_other (bytes_bits (log c.before)) (place c.before) k r.0.0.0.0.0.0.0.1 r.0.0.0.0.0.0.1
          r.0.0.0.0.0.1 r.0.0.0.0.1 r.0.0.0.1 r.0.0.1 r.0.1 r.1,
    )

pub item_spec : {M : Type 1} → statement M
item_spec =
    tie.close
    (tie.spec
    overflow_mul-total
    returns-then-total-self
    filled-from-requires
    head-head-requires
    end_mark-requires
    command-requires
    status-requires
    data-requires
    bus_error-requires
    arinc-requires
    notice-requires
    user-requires
    overflow-requires
    returns-in-0
    returns-in-1
    returns-in-2
    returns-in-3
    returns-in-4
    returns-in-5
    returns-in-6
    returns-in-7
    returns-in-8
    returns-in_default)
