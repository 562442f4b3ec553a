use mathlib.Core.Path.{◌≡◌, refl, ap, sym, ◌∙◌}
use mathlib.Core.List.{map}
use native.Mathlib.Omega.{arith}
use lib.ListN.{length, length-map}
use Rattle.format.specs.Laws.Front.{front_none, front_part}
use Rattle.format.specs.Laws.Reader.Held.{held_parts}
use Rattle.data_word.specs.Holding.{held_of}
use Rattle.stream_rules.specs.StateNumbers.{four_words, kind_number}
use Rattle.from_c.specs.Laws.{length_times}
use Rattle.stream_state.specs.Laws.Small.{four_long}
use Rattle.stream_state.specs.Storing.{stand_row}
use Rattle.stream_state.proofs.Stored.{all_put, put_row, rows_joined}
use borrow.Author.Rules.{rules}
use Rattle.stream_state.proofs.put_front.Statement.{statement}
use Rattle.stream_state.proofs.put_front.Tie as tie
use Rattle.stream_state.proofs.put_front.Reads as reads
use Rattle.stream_state.proofs.put_front.Lts as lts
use Rattle.from_c.proofs.put_times.Reads as put-times-reads
use Rattle.stream_state.proofs.put_table.Reads as put-table-reads
use Rattle.stream_state.proofs.held_words.Reads as held-words-reads
use Rattle.stream_state.proofs.kind_numbers.Reads as kind-numbers-reads
use Rattle.stream_state.proofs.put_stand.Reads as put-stand-reads

slice_bounds-put_stand-count : tie.Need-slice_bounds-put_stand-count
slice_bounds-put_stand-count c = search rules

slice_bounds-put_stand-start : tie.Need-slice_bounds-put_stand-start
slice_bounds-put_stand-start c = search rules

slice_bounds-put_stand-end : tie.Need-slice_bounds-put_stand-end
slice_bounds-put_stand-end c = search rules

put_stand-requires : tie.Need-put_stand-requires
put_stand-requires c κs = search rules

held_words-words-requires : tie.Need-held_words-words-requires
held_words-words-requires c κs = search rules

slice_bounds-put_times-end : tie.Need-slice_bounds-put_times-end
slice_bounds-put_times-end c = search rules

slice_bounds-put_times-count : tie.Need-slice_bounds-put_times-count
slice_bounds-put_times-count c = search rules

slice_bounds-put_times-start : tie.Need-slice_bounds-put_times-start
slice_bounds-put_times-start c = search rules

slice_bounds-put_times-end-2 : tie.Need-slice_bounds-put_times-end-2
slice_bounds-put_times-end-2 c = search rules

put_times-requires : tie.Need-put_times-requires
put_times-requires c κs = search rules

kind_numbers-numbers-requires : tie.Need-kind_numbers-numbers-requires
kind_numbers-numbers-requires c κs = search rules

slice_bounds-put_times-end-3 : tie.Need-slice_bounds-put_times-end-3
slice_bounds-put_times-end-3 c = search rules

slice_bounds-put_times-count-2 : tie.Need-slice_bounds-put_times-count-2
slice_bounds-put_times-count-2 c = search rules

slice_bounds-put_times-start-2 : tie.Need-slice_bounds-put_times-start-2
slice_bounds-put_times-start-2 c = search rules

slice_bounds-put_times-end-4 : tie.Need-slice_bounds-put_times-end-4
slice_bounds-put_times-end-4 c = search rules

put_times-requires-2 : tie.Need-put_times-requires-2
put_times-requires-2 c κs = search rules

slice_bounds-put_table-count : tie.Need-slice_bounds-put_table-count
slice_bounds-put_table-count c = search rules

slice_bounds-put_table-start : tie.Need-slice_bounds-put_table-start
slice_bounds-put_table-start c = search rules

slice_bounds-put_table-end : tie.Need-slice_bounds-put_table-end
slice_bounds-put_table-end c = search rules

put_table-requires : tie.Need-put_table-requires
put_table-requires c κs = search rules

shape_of-bytes : tie.Need-shape_of-bytes
shape_of-bytes c = search rules

returns : tie.Need-returns
returns c = let t = c.before.before.before.before.before.before in
    let k = t.before.before.before in
    let u = k.before.before.before in
    let h = u.before.before.before in
    let p = h.before.before.before in
    let s = p.before.before.before.before in
    let x = s.args.stand in
    let words = h.held_words-words.result in
    let numbers = k.kind_numbers-numbers.result in
    let table = s.args.table.now in
    let five : length words ≡ 5 = ap length h.held_words-words.ensures ∙ four_long (held_parts (held_of x.held)) in
    let sixteen : length numbers ≡ 16 = ap length k.kind_numbers-numbers.ensures ∙ length-map s.args.kinds kind_number ∙ s.requires.2 in
    let stood = front_part 120 _ (front_none s.args.bytes.now) (length_times (stand_row x)) (omega (arith, s.requires.0)) refl p.put_stand.ensures in
    let held = put_row 40 5 words five refl stood (omega (arith, s.requires.0)) refl u.put_times.ensures in
    let kinds = put_row 128 16 numbers sixteen refl held (omega (arith, s.requires.0)) refl t.put_times-2.ensures in
    let all = put_row 512 64 table s.requires.1 refl kinds (omega (arith, s.requires.0)) refl c.put_table.ensures in
    all_put all s.requires.0
    ∙ rw (h.held_words-words.ensures, k.kind_numbers-numbers.ensures) (rows_joined (stand_row x) (four_words (held_parts (held_of x.held))) (map kind_number s.args.kinds) table)

pub put_front_spec : {M : Type 1} → statement M
put_front_spec =
    tie.close
    (tie.spec
    slice_bounds-put_stand-count
    slice_bounds-put_stand-start
    slice_bounds-put_stand-end
    put_stand-requires
    held_words-words-requires
    slice_bounds-put_times-end
    slice_bounds-put_times-count
    slice_bounds-put_times-start
    slice_bounds-put_times-end-2
    put_times-requires
    kind_numbers-numbers-requires
    slice_bounds-put_times-end-3
    slice_bounds-put_times-count-2
    slice_bounds-put_times-start-2
    slice_bounds-put_times-end-4
    put_times-requires-2
    slice_bounds-put_table-count
    slice_bounds-put_table-start
    slice_bounds-put_table-end
    put_table-requires
    shape_of-bytes
    returns)
