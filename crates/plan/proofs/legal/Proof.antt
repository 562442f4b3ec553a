use mathlib.Core.Bool.{Bool, true, false, ◌&&◌, ◌||◌, not}
use mathlib.Core.Path.{◌≡◌, sym, ◌∙◌}
use lib.Dec.{eqb, leb}
use lib.ListN.{drop}
use Rattle.format.specs.Plan.{legal, used_buses}
use borrow.Author.Tests.{lt-leb, le-leb}
use borrow.Author.Rules.{rules}
use Rattle.plan.proofs.legal.Statement.{statement}
use Rattle.plan.proofs.legal.Tie as tie

-- within the limits what is left is of tracks, parity, label and code; the function's entry
abbrev Limited : Type 0
Limited = tie.After-tracks_fit

abbrev entry : Limited → tie.Start
entry c = c.before.before.before.before.before.before.before.before.before

limited : (c : Limited) (fit : Bool) → c.tracks_fit.result ≡ fit
    → let p = (entry c).args.plan in
    legal p (entry c).args.kinds
    ≡ (fit && (not p.parity || eqb (used_buses (drop 8 (entry c).args.kinds)) 0)
    && leb p.crc_label 7 && leb p.fill_bus 15 && (not p.parity || leb p.fill_bus 7))
unfolding legal
limited c fit e =
    rw (le-leb _ _ c.if-plan-lt-LEAST_WORDS.false, le-leb _ _ c.if-plan-gt-MOST_WORDS.false, le-leb _ _ c.if-plan-lt1.false, le-leb _ _ c.if-plan-gt4.false, sym c.tracks_fit.ensures ∙ e)

returns-then-plan-lt-LEAST_WORDS : tie.Need-returns-then-plan-lt-LEAST_WORDS
unfolding legal
returns-then-plan-lt-LEAST_WORDS c = rw (lt-leb _ _ c.if-plan-lt-LEAST_WORDS.true)

returns-then-plan-gt-MOST_WORDS : tie.Need-returns-then-plan-gt-MOST_WORDS
unfolding legal
returns-then-plan-gt-MOST_WORDS c = rw (le-leb _ _ c.if-plan-lt-LEAST_WORDS.false, lt-leb _ _ c.if-plan-gt-MOST_WORDS.true)

returns-then-plan-lt1 : tie.Need-returns-then-plan-lt1
unfolding legal
returns-then-plan-lt1 c = rw (le-leb _ _ c.if-plan-lt-LEAST_WORDS.false, le-leb _ _ c.if-plan-gt-MOST_WORDS.false, lt-leb _ _ c.if-plan-lt1.true)

returns-then-plan-gt4 : tie.Need-returns-then-plan-gt4
unfolding legal
returns-then-plan-gt4 c = rw (le-leb _ _ c.if-plan-lt-LEAST_WORDS.false, le-leb _ _ c.if-plan-gt-MOST_WORDS.false, le-leb _ _ c.if-plan-lt1.false, lt-leb _ _ c.if-plan-gt4.true)

tracks_fit-requires : tie.Need-tracks_fit-requires
tracks_fit-requires c κs = search rules

parity_fits-requires : tie.Need-parity_fits-requires
parity_fits-requires c κs = search rules

label_and_code_fit-requires : tie.Need-label_and_code_fit-requires
label_and_code_fit-requires c κs = search rules

returns-then-parity_fits : tie.Need-returns-then-parity_fits
returns-then-parity_fits c =
    let fitted = c.before.before in
    c.label_and_code_fit.ensures ∙ sym (limited fitted.before.before true fitted.if-tracks_fit.true ∙ rw (← fitted.parity_fits.ensures, c.if-parity_fits.true))

returns-else-parity_fits : tie.Need-returns-else-parity_fits
returns-else-parity_fits c =
    let fitted = c.before in
    sym (limited fitted.before.before true fitted.if-tracks_fit.true ∙ rw (← fitted.parity_fits.ensures, c.if-parity_fits.false))

returns-else-tracks_fit : tie.Need-returns-else-tracks_fit
returns-else-tracks_fit c = sym (limited c.before false c.if-tracks_fit.false)

pub legal_spec : {M : Type 1} → statement M
legal_spec =
    tie.close
    (tie.spec
    returns-then-plan-lt-LEAST_WORDS
    returns-then-plan-gt-MOST_WORDS
    returns-then-plan-lt1
    returns-then-plan-gt4
    tracks_fit-requires
    parity_fits-requires
    label_and_code_fit-requires
    returns-then-parity_fits
    returns-else-parity_fits
    returns-else-tracks_fit)
