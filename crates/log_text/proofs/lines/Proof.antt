use Prim.Native.Nat.{ℕ, ◌*◌, ◌-◌}
use native.Mathlib.Omega.{arith}
use borrow.Author.Rules.{rules}
use mathlib.Core.Path.{◌≡◌, sym, ◌∙◌}
use mathlib.Core.List.{List, flat_map}
use lib.ListN.{length}
use Rattle.format.specs.Bits.{bytes_bits}
use Rattle.format.specs.Log.{Next, parsed, on_no_plan, next_at}
use Rattle.format.specs.Listing.{item_line}
use Rattle.log_read.proofs.Parsing.{Follows, follows, found_end, found_wrong}
use Rattle.log_text.specs.Text.{items_of}
use Rattle.log_text.proofs.Adding.{adds_long}
use Rattle.log_text.proofs.Listed.{Doing, doing_start, doing_more, doing_over, doing_never, doing_room}
use Rattle.log_text.proofs.lines.Statement.{statement}
use Rattle.log_text.proofs.lines.Tie as tie

abbrev invariant-loop-item : tie.invariant-loop-item
invariant-loop-item out₀ log place₀ at₀ out place at = Doing log (flat_map item_line (items_of (parsed on_no_plan log))) out₀ place.at out at

abbrev decreases-loop-item : tie.decreases-loop-item
decreases-loop-item out₀ log place₀ at₀ out place at = length log * 8 - place.at

-- ---- the places

-- at an item
abbrev AtLoop : Type 0
AtLoop = tie.At-loop-item invariant-loop-item decreases-loop-item

abbrev start : AtLoop → tie.Start invariant-loop-item decreases-loop-item
start c = c.before.before.before

abbrev here : AtLoop → Next
here c = next_at (bytes_bits (start c).args.log.now) c.loop-item.place.at

-- there is an item
abbrev Found : Type 0
Found = tie.In-Has invariant-loop-item decreases-loop-item

abbrev loop : Found → AtLoop
loop c = c.before.before

after : (c : Found) → Follows (start (loop c)).args.log.now (loop c).loop-item.place.at c.in-Has.item c.in-Has.next.at
after c =
    let i = c.before in
    let l = loop c in
    let g = c.in-Has in
    follows (start l).args.log.now l.loop-item.place.at i.item.result g.item g.next i.item.ensures g.is

-- ---- the needs

loop-item-init : tie.Need-loop-item-init invariant-loop-item decreases-loop-item
loop-item-init c = let s = c.before.before in doing_start s.args.log.now s.args.out.now s.requires.0.1 s.requires.1

item-requires : tie.Need-item-requires invariant-loop-item decreases-loop-item
item-requires c κs = omega arith

enum_known-item : tie.Need-enum_known-item invariant-loop-item decreases-loop-item
enum_known-item c = search rules

item_line-at-requires : tie.Need-item_line-at-requires invariant-loop-item decreases-loop-item
item_line-at-requires c κs =
    let l = loop c.before in
    doing_room l.loop-item.invariant (start l).requires.0.2 (start l).requires.0.0

loop-item-smaller : tie.Need-loop-item-smaller invariant-loop-item decreases-loop-item
loop-item-smaller c = let f = after c.before.before.before.before in omega (arith, f.far, f.fits)

loop-item-preserved : tie.Need-loop-item-preserved invariant-loop-item decreases-loop-item
loop-item-preserved c =
    let p = c.before.before in
    let f = p.before.before in
    doing_more f.in-Has.item _ (loop f).loop-item.invariant (after f).next p.item_line-at.ensures

enum_told-1 : tie.Need-enum_told-1 invariant-loop-item decreases-loop-item
enum_told-1 c = search rules

shape_of-out-in-End : tie.Need-shape_of-out-in-End invariant-loop-item decreases-loop-item
shape_of-out-in-End c = adds_long c.loop-item.invariant.adds

returns-in-End : tie.Need-returns-in-End invariant-loop-item decreases-loop-item
returns-in-End c =
    let i = c.before in
    doing_over i.loop-item.invariant (found_end (here i.before) (sym i.item.ensures ∙ c.in-End.is))

enum_told-in-Wrong : tie.Need-enum_told-in-Wrong invariant-loop-item decreases-loop-item
enum_told-in-Wrong c = search rules

shape_of-out-in-Wrong : tie.Need-shape_of-out-in-Wrong invariant-loop-item decreases-loop-item
shape_of-out-in-Wrong c = adds_long c.loop-item.invariant.adds

returns-in-Wrong : tie.Need-returns-in-Wrong invariant-loop-item decreases-loop-item
returns-in-Wrong c =
    let i = c.before in
    absurd (doing_never i.loop-item.invariant (found_wrong (here i.before) (sym i.item.ensures ∙ c.in-Wrong.is)))

pub lines_spec : {M : Type 1} → statement M
lines_spec =
    tie.close
    (tie.spec
    invariant-loop-item
    decreases-loop-item
    loop-item-init
    item-requires
    enum_known-item
    item_line-at-requires
    loop-item-smaller
    loop-item-preserved
    enum_told-1
    shape_of-out-in-End
    returns-in-End
    enum_told-in-Wrong
    shape_of-out-in-Wrong
    returns-in-Wrong)
