use borrow.Author.Tests.{lt-ltb, le-ltb}
use mathlib.Core.Path.{◌∙◌}
use native.Mathlib.Omega.{arith}
use Rattle.data_word.proofs.Flat.{base_small, time_small}
use Rattle.data_word.proofs.Going.{tag_begins, tag_goes_on, tag_ends, late_micro_is_bad}
use borrow.Author.Rules.{rules}
use Rattle.data_word.proofs.goes_on.Statement.{statement}
use Rattle.data_word.proofs.goes_on.Tie as tie

-- a time word, but not the first
abbrev start : tie.Else-label-eq7 → tie.Start
start c = c.before.before

low-requires : tie.Need-low-requires
low-requires c κs = search rules

returns-then-label-ge8 : tie.Need-returns-then-label-ge8
returns-then-label-ge8 c = c.low.ensures

overflow_mul-bus : tie.Need-overflow_mul-bus
overflow_mul-bus c = search rules

overflow_add-bus : tie.Need-overflow_add-bus
overflow_add-bus c = search rules

holds-requires : tie.Need-holds-requires
holds-requires c κs = search rules

returns-then-label-eq7 : tie.Need-returns-then-label-eq7
returns-then-label-eq7 c =
    λ kinds.
    c.holds.ensures
    ∙ tag_begins kinds _ _ _ (omega arith) (omega arith) _ c.requires.1.0 c.if-label-eq7.true c.requires.1.1

overflow_mul-time : tie.Need-overflow_mul-time
overflow_mul-time c = let h = time_small _ (start c.before).requires.1.0 (omega arith) in omega arith

overflow_add-time : tie.Need-overflow_add-time
overflow_add-time c = let h = time_small _ (start c.before).requires.1.0 (omega arith) in omega arith

overflow_mul-bus-then-label-eq6 : tie.Need-overflow_mul-bus-then-label-eq6
overflow_mul-bus-then-label-eq6 c = search rules

overflow_add-bus-then-label-eq6 : tie.Need-overflow_add-bus-then-label-eq6
overflow_add-bus-then-label-eq6 c = search rules

holds-requires-then-label-eq6 : tie.Need-holds-requires-then-label-eq6
holds-requires-then-label-eq6 c κs = search rules

returns-then-label-eq6 : tie.Need-returns-then-label-eq6
returns-then-label-eq6 c =
    λ kinds.
    c.holds-then-label-eq6.ensures
    ∙ tag_goes_on kinds _ _ _ (omega arith) (omega arith) _ (start c.before.before).requires.1.0 c.if-label-eq6.true (start c.before.before).requires.1.1

overflow_cast-tag : tie.Need-overflow_cast-tag
overflow_cast-tag c = search rules

overflow_mul-tag : tie.Need-overflow_mul-tag
overflow_mul-tag c = search rules

overflow_add-tag : tie.Need-overflow_add-tag
overflow_add-tag c = search rules

overflow_add-base : tie.Need-overflow_add-base
overflow_add-base c = search rules

ends-requires : tie.Need-ends-requires
ends-requires c κs = search rules

returns-then-base-lt4294967296 : tie.Need-returns-then-base-lt4294967296
returns-then-base-lt4294967296 c =
    let t = c.before.before in
    let e = t.before in
    let d = e.before in
    let s = start d in
    λ kinds.
    c.ends.ensures
    ∙ rw (lt-ltb _ _ c.if-base-lt4294967296.true) at (tag_ends kinds _ _ _ (omega arith) (omega arith) _ s.requires.1.0
    d.if-label-ge8.false d.if-label-eq7.false e.if-label-eq6.false t.if-information-lt10000.true s.requires.1.2 s.requires.1.1)

overflow_add-base-then-information-lt10000 : tie.Need-overflow_add-base-then-information-lt10000
overflow_add-base-then-information-lt10000 c = omega (arith, base_small _ (start c.before.before.before).requires.1.0)

ends-requires-then-information-lt10000 : tie.Need-ends-requires-then-information-lt10000
ends-requires-then-information-lt10000 c κs = search rules

returns-then-information-lt10000 : tie.Need-returns-then-information-lt10000
returns-then-information-lt10000 c =
    let t = c.before.before in
    let e = t.before in
    let d = e.before in
    let s = start d in
    λ kinds.
    c.ends-then-information-lt10000.ensures
    ∙ rw (le-ltb _ _ c.if-base-lt4294967296.false) at (tag_ends kinds _ _ _ (omega arith) (omega arith) _ s.requires.1.0
    d.if-label-ge8.false d.if-label-eq7.false e.if-label-eq6.false t.if-information-lt10000.true s.requires.1.2 s.requires.1.1)

refused-requires : tie.Need-refused-requires
refused-requires c κs = search rules

returns : tie.Need-returns
returns c =
    let t = c.before in
    let e = t.before in
    let d = e.before in
    let s = start d in
    λ kinds.
    c.refused.ensures
    ∙ late_micro_is_bad kinds _ _ _ (omega arith) (omega arith) _ s.requires.1.0
    d.if-label-ge8.false d.if-label-eq7.false e.if-label-eq6.false t.if-information-lt10000.false s.requires.1.2 s.requires.1.1

pub goes_on_spec : {M : Type 1} → statement M
goes_on_spec =
    tie.close
    (tie.spec
    low-requires
    returns-then-label-ge8
    overflow_mul-bus
    overflow_add-bus
    holds-requires
    returns-then-label-eq7
    overflow_mul-time
    overflow_add-time
    overflow_mul-bus-then-label-eq6
    overflow_add-bus-then-label-eq6
    holds-requires-then-label-eq6
    returns-then-label-eq6
    overflow_cast-tag
    overflow_mul-tag
    overflow_add-tag
    overflow_add-base
    ends-requires
    returns-then-base-lt4294967296
    overflow_add-base-then-information-lt10000
    ends-requires-then-information-lt10000
    returns-then-information-lt10000
    refused-requires
    returns)
