use Prim.Native.Nat.{ℕ, ◌≤◌}
use native.Mathlib.Omega.{arith}
use borrow.Author.Rules.{rules}
use mathlib.Core.Path.{◌≡◌}
use mathlib.Core.List.{List, flat_map}
use lib.ListN.{length}
use Rattle.format.specs.declared.Item.{Item}
use Rattle.format.specs.Listing.{item_line}
use Rattle.format.specs.Log.{items, parsed, on_no_plan}
use Rattle.log_text.specs.Text.{items_of}
use Rattle.log_text.proofs.Adding.{adds_room, adds_same, adds_then}
use Rattle.log_text.proofs.Listed.{good, tallied, refused, listing_items, listing_refused}
use Rattle.log_text.proofs.list.Statement.{statement}
use Rattle.log_text.proofs.list.Tie as tie

-- ---- the places: the log is parsed, has items, and their lines are put

abbrev start : tie.After-parse-tally → tie.Start
start c = c.before.before.before

abbrev log : tie.After-parse-tally → List ℕ
log c = (start c).args.log.now

abbrev parse : tie.In-Items → tie.After-parse-tally
parse c = c.before

abbrev found : tie.In-Items → List Item
found c = items_of (parsed on_no_plan (log (parse c)))

abbrev tally : tie.After-lines-at → tie.In-Items
tally c = c.before.before

-- ---- what was found, and that it is short

parses : (c : tie.In-Items) → (parsed on_no_plan (log (parse c)) ≡ items (found c)) × (c.in-Items.items ≡ length (found c))
parses c =
    let p = parse c in
    let g = c.in-Items in
    tallied (log p) p.parse-tally.result g.items g.words p.parse-tally.ensures g.is

sizes : (c : tie.In-Items) → (length (log (parse c)) ≤ 32768) × (length (flat_map item_line (found c)) ≤ 262144)
sizes c = good (log (parse c)) (found c) (λ i. omega (arith, (parse c).shared_slice_known-1.given i)) (parses c).0

-- ---- the needs

parse-tally-requires : tie.Need-parse-tally-requires
parse-tally-requires c κs = search rules

enum_known-tally : tie.Need-enum_known-tally
enum_known-tally c = search rules

lines-at-requires : tie.Need-lines-at-requires
lines-at-requires c κs =
    let t = c.before in
    (((start (parse t)).requires, (sizes t).0, (sizes t).1), (parses t).0)

end_line-requires : tie.Need-end_line-requires
end_line-requires c κs =
    let p = c.before.before.before in
    adds_room p.lines-at.ensures 25 (omega (arith, (sizes (tally p)).1, (start (parse (tally p))).requires))

enum_known-tally-in-Fault-1 : tie.Need-enum_known-tally-in-Fault-1
enum_known-tally-in-Fault-1 c = search rules

refused_line-requires : tie.Need-refused_line-requires
refused_line-requires c κs = search rules

shape_of-out-in-Items : tie.Need-shape_of-out-in-Items
shape_of-out-in-Items c = search rules

returns-in-Items : tie.Need-returns-in-Items
returns-in-Items c =
    let e = c.before.before in
    let p = e.before.before.before.before in
    let t = tally p in
    adds_same (adds_then p.lines-at.ensures e.end_line.ensures) (listing_items (log (parse t)) t.in-Items.items (parses t).0 (parses t).1)

shape_of-out-in-Fault : tie.Need-shape_of-out-in-Fault
shape_of-out-in-Fault c = search rules

returns-in-Fault : tie.Need-returns-in-Fault
returns-in-Fault c =
    let e = c.before.before in
    let t = e.before.before in
    let p = t.before in
    let g = t.in-Fault in
    adds_same e.refused_line.ensures (listing_refused (log p) _ _ (refused (log p) p.parse-tally.result g.number g.place p.parse-tally.ensures g.is))

pub list_spec : {M : Type 1} → statement M
list_spec =
    tie.close
    (tie.spec
    parse-tally-requires
    enum_known-tally
    lines-at-requires
    end_line-requires
    enum_known-tally-in-Fault-1
    refused_line-requires
    shape_of-out-in-Items
    returns-in-Items
    shape_of-out-in-Fault
    returns-in-Fault)
