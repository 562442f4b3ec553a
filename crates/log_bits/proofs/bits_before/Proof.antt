use lib.ListN.{get_or}
use mathlib.Core.Bool.{false}
use Rattle.format.specs.Plan.{kind_on}
use Rattle.format.specs.Word.{bus_of, label_of, part_of}
use Rattle.log_bits.specs.Bits.{label_bits, part_bits}
use Rattle.log_bits.specs.Laws.{bits_next, bits_end, label_low, word_bits}
use Rattle.notices.specs.Laws.Rows.{bus_low}
use Prim.Native.Nat.{◌+◌, ◌*◌, ◌-◌, ◌≤◌}
use mathlib.Core.Path.{◌≡◌, refl, ap, sym, ◌∙◌}
use native.Mathlib.Omega.{arith}
use lib.ListN.{drop, length}
use Rattle.log_bits.specs.Bits.{bits_in}
use borrow.Author.Rules.{rules}
use Rattle.log_bits.proofs.bits_before.Statement.{statement}
use Rattle.log_bits.proofs.bits_before.Tie as tie
use Rattle.log_bits.proofs.bits_before.Reads as reads
use Rattle.log_bits.proofs.bits_before.Lts as lts
use Rattle.log_bits.proofs.label_bits.Reads as label-bits-reads
use Rattle.word.proofs.bus_of.Reads as bus-of-reads
use Rattle.word.proofs.label_of.Reads as label-of-reads

abbrev invariant-loop-i : tie.invariant-loop-i
invariant-loop-i words kinds bits₀ i₀ bits i = (i ≤ length words) × (bits ≤ 27 * i) × (bits_in kinds words ≡ bits + bits_in kinds (drop i words))

abbrev decreases-loop-i : tie.decreases-loop-i
decreases-loop-i words kinds bits₀ i₀ bits i = length words - i

loop-i-init : tie.Need-loop-i-init invariant-loop-i decreases-loop-i
loop-i-init c = (omega arith, omega arith, omega arith)

offset_bounds-words-i : tie.Need-offset_bounds-words-i invariant-loop-i decreases-loop-i
offset_bounds-words-i c = search rules

bounds-words-i : tie.Need-bounds-words-i invariant-loop-i decreases-loop-i
bounds-words-i c = search rules

bus_of-requires : tie.Need-bus_of-requires invariant-loop-i decreases-loop-i
bus_of-requires c κs = search rules

overflow_cast-kind : tie.Need-overflow_cast-kind invariant-loop-i decreases-loop-i
overflow_cast-kind c = search rules

bounds-kinds-bus_of : tie.Need-bounds-kinds-bus_of invariant-loop-i decreases-loop-i
bounds-kinds-bus_of c =
    let o = c.loop-i in
    let b = bus_low false (get_or c.args.words.now o.i 0) (c.requires.0 o.i c.loop-i-test.true) in
    omega (arith, c.bus_of.ensures, b)

label_of-requires : tie.Need-label_of-requires invariant-loop-i decreases-loop-i
label_of-requires c κs = search rules

label_bits-bits-requires : tie.Need-label_bits-bits-requires invariant-loop-i decreases-loop-i
label_bits-bits-requires c κs = search rules

-- the word's bits
bits : (c : tie.After-label_bits-bits invariant-loop-i decreases-loop-i)
    → c.label_bits-bits.result ≡ part_bits c.args.kinds
    (part_of false (get_or c.args.words.now c.loop-i.i 0))
bits c =
    let a = c.args in
    word_bits a.kinds (get_or a.words.now c.loop-i.i 0) _ _ _
    c.bus_of.ensures c.label_of.ensures c.label_bits-bits.ensures

least : (c : tie.After-label_bits-bits invariant-loop-i decreases-loop-i) → c.label_bits-bits.result ≤ 27
least c =
    let a = c.args in
    let w = get_or a.words.now c.loop-i.i 0 in
    omega (arith, bits c, label_low (kind_on a.kinds (bus_of false w)) (label_of w))

overflow_add-bits : tie.Need-overflow_add-bits invariant-loop-i decreases-loop-i
overflow_add-bits c =
    let o = c.loop-i in
    omega (arith, o.invariant.1, c.loop-i-test.true, least c, c.requires.1)

overflow_add-i : tie.Need-overflow_add-i invariant-loop-i decreases-loop-i
overflow_add-i c = search rules

loop-i-smaller : tie.Need-loop-i-smaller invariant-loop-i decreases-loop-i
loop-i-smaller c = search rules

loop-i-preserved : tie.Need-loop-i-preserved invariant-loop-i decreases-loop-i
loop-i-preserved c =
    let o = c.loop-i in
    let a = c.args in
    let i = c.loop-i-test.true in
    (omega (arith, i), omega (arith, o.invariant.1, least c), omega (arith, o.invariant.2, bits_next a.kinds a.words.now o.i i, bits c))

returns : tie.Need-returns invariant-loop-i decreases-loop-i
returns c =
    let o = c.loop-i in
    let a = c.args in
    sym (o.invariant.2 ∙ omega (arith, bits_end a.kinds a.words.now o.i (omega (arith, c.loop-i-test.false))))

pub bits_before_spec : {M : Type 1} → statement M
bits_before_spec =
    tie.close
    (tie.spec
    invariant-loop-i
    decreases-loop-i
    loop-i-init
    offset_bounds-words-i
    bounds-words-i
    bus_of-requires
    overflow_cast-kind
    bounds-kinds-bus_of
    label_of-requires
    label_bits-bits-requires
    overflow_add-bits
    overflow_add-i
    loop-i-smaller
    loop-i-preserved
    returns)
