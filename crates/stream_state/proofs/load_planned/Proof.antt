use mathlib.Core.Path.{◌≡◌, refl, sym, ◌∙◌}
use mathlib.Core.Bool.{true}
use borrow.Author.Tests.{not-true, not-false}
use Rattle.format.specs.Plan.{legal}
use Rattle.format.specs.Laws.Legal.{legal_is}
use Rattle.stream_state.specs.Parts.{kinds_at}
use Rattle.stream_state.proofs.Used.{lawful}
use Rattle.stream_state.proofs.Parts.{oversized, unlawful}
use borrow.Author.Rules.{rules}
use Rattle.stream_state.proofs.load_planned.Statement.{statement}
use Rattle.stream_state.proofs.load_planned.Tie as tie
use Rattle.stream_state.proofs.load_planned.Reads as reads
use Rattle.stream_state.proofs.load_planned.Lts as lts
use Rattle.from_c.proofs.time_at.Reads as time-at-reads
use Rattle.stream_state.proofs.buses_fit.Reads as buses-fit-reads
use Rattle.stream_state.proofs.ended.Reads as ended-reads
use Rattle.stream_state.proofs.load_sized.Reads as load-sized-reads
use Rattle.stream_state.proofs.size_fits.Reads as size-fits-reads

-- ---- the places

-- the plan was tested
abbrev start : tie.After-buses_fit → tie.Start
start c = c.before.before

tested : (c : tie.After-buses_fit) → c.buses_fit.result ≡ legal (start c).args.plan (kinds_at (start c).args.state.now)
tested c = let s = start c in
    c.buses_fit.ensures ∙ lawful s.args.state.now s.args.plan s.requires.0 s.args.used s.args.above s.requires.1 s.requires.2

-- and is legal
is_legal : (c : tie.Else-not-buses_fit) → legal (start c.before).args.plan (kinds_at (start c.before).args.state.now) ≡ true
is_legal c = sym (tested c.before) ∙ c.if-not-buses_fit.false

-- ---- the needs

buses_fit-requires : tie.Need-buses_fit-requires
buses_fit-requires c κs = search rules

ended-requires : tie.Need-ended-requires
ended-requires c κs = search rules

returns-then-not-buses_fit : tie.Need-returns-then-not-buses_fit
returns-then-not-buses_fit c = let t = c.before.before in
    let s = start t in
    c.ended.ensures ∙ unlawful s.args.state.now s.args.plan s.requires.0 (kinds_at s.args.state.now) refl (sym (tested t) ∙ c.if-not-buses_fit.true)

time_at-groups-requires : tie.Need-time_at-groups-requires
time_at-groups-requires c κs = search rules

time_at-waiting-requires : tie.Need-time_at-waiting-requires
time_at-waiting-requires c κs = search rules

size_fits-requires : tie.Need-size_fits-requires
size_fits-requires c κs = let l = c.before.before in
    let s = start l.before in
    (legal_is s.args.plan (kinds_at s.args.state.now) (is_legal l)).shape

ended-requires-then-not-size_fits : tie.Need-ended-requires-then-not-size_fits
ended-requires-then-not-size_fits c κs = search rules

returns-then-not-size_fits : tie.Need-returns-then-not-size_fits
returns-then-not-size_fits c = let s = start c.before.before.before.before.before.before in
    let g = c.time_at-groups in
    let n = c.time_at-waiting in
    let e = sym c.size_fits.ensures ∙ c.if-not-size_fits.true in
    c.ended-then-not-size_fits.ensures ∙ oversized s.args.state.now s.args.plan s.requires.0 g.result n.result g.ensures n.ensures e

load_sized-requires : tie.Need-load_sized-requires
load_sized-requires c κs = let l = c.before.before.before.before in
    record {
      planned = (start l.before).requires.0;
      kinds_are = refl;
      groups_are = c.time_at-groups.ensures;
      waiting_is = c.time_at-waiting.ensures;
      lawful = is_legal l;
      size = sym c.size_fits.ensures ∙ c.if-not-size_fits.false;
    }

returns : tie.Need-returns
returns c = c.load_sized.ensures

pub load_planned_spec : {M : Type 1} → statement M
load_planned_spec =
    tie.close
    (tie.spec
    buses_fit-requires
    ended-requires
    returns-then-not-buses_fit
    time_at-groups-requires
    time_at-waiting-requires
    size_fits-requires
    ended-requires-then-not-size_fits
    returns-then-not-size_fits
    load_sized-requires
    returns)
