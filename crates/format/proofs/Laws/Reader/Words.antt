-- Items and the words in the slots, both ways.
use Rattle.std.specs.Prelude.{ℕ, ◌^◌, ◌<◌, Bool, ◌≡◌, refl}
use Rattle.std.proofs.Common.{ap, sym, ◌∙◌}
use mathlib.Core.List.{List, [], ◌∷◌, map, flat_map}
use Rattle.format.specs.Word.{sent, bare, Part, part_of, word_for}
use Rattle.format.specs.Item.{item_words, item_parts}
use Rattle.format.specs.Reader.{Slot, run, data_of}
use Rattle.format.specs.Read.{Got, got, stopped, finish, onward}
use Rattle.format.specs.Lawful.{Lawful, Sound}
use Rattle.format.specs.Lists.{All, nil, cons}
use Rattle.format.specs.Laws.Word.Parts.{Holds, part_back, part_forth, part_holds}
use Rattle.format.specs.Laws.Reader.Parts.{said, words_of, items_hold}
use Rattle.format.proofs.Laws.Reader.Reads.{whole, whole_of, reads, run_reads}
use Rattle.format.proofs.Laws.Reader.Back.{parts_back, none}
use Rattle.format.proofs.Laws.Reader.Forth.{Fits, parts_forth}
use Rattle.format.specs.Laws.Lists.{all_map}
use Rattle.format.specs.declared.Kind.{Kind}
use Rattle.format.specs.declared.Item.{Item}
use Rattle.format.specs.declared.Held.TheVariants.{Nothing}

back_parts : (parity : Bool) (xs : List Part) → All (Holds parity) xs → map (part_of parity) (map (sent parity) (map word_for xs)) ≡ xs
back_parts parity [] nil = refl
back_parts parity (x ∷ xs) (cons h t) = rw (part_back parity x h, back_parts parity xs t)

-- what the sent words of the items say is the items' parts
pub words_said : (ks : List Kind) (parity : Bool) (is : List Item) → All (Sound ks parity) is
    → map (part_of parity) (map (sent parity) (flat_map item_words is)) ≡ flat_map item_parts is
words_said ks parity is sound = rw (words_of is) (back_parts parity (flat_map item_parts is) (items_hold ks parity is sound))

pub got_whole : (g : Got) (is : List Item) → whole_of g ≡ whole is → g ≡ got is
got_whole (got js) is e = cc
got_whole (stopped n p q) is e = cc

-- the reader gives back the items whose words the slots hold, fill dropped
pub words_back : (ks : List Kind) (parity : Bool) (is : List Item) → All (Sound ks parity) is
    → (ss : List Slot) → data_of ss ≡ map (sent parity) (flat_map item_words is)
    → (p : ℕ) → onward (run ks parity ss Nothing p) finish ≡ got is
words_back ks parity is ws ss e p =
    got_whole (onward (run ks parity ss Nothing p) finish) is
    (run_reads ks parity ss Nothing p ∙ rw (e, words_said ks parity is ws) (parts_back ks is (all_map (λ i w. w.lawful) ws) Nothing none))

-- what the reader accepts is the words of lawful items
pub forth_words : (parity : Bool) (ws : List ℕ) → All (λ w. w < 2 ^ 24) ws → map word_for (map (part_of parity) ws) ≡ map (bare parity) ws
forth_words parity [] nil = refl
forth_words parity (w ∷ ws) (cons h t) = rw (part_forth parity w h, forth_words parity ws t)

pub said_fits : (parity : Bool) (ws : List ℕ) → All (λ w. w < 2 ^ 24) ws → All Fits (map (part_of parity) ws)
said_fits parity [] nil = nil
said_fits parity (w ∷ ws) (cons h t) = cons (record { label = (part_holds parity w h).label; info = (part_holds parity w h).info }) (said_fits parity ws t)

pub parts_said : (ks : List Kind) (parity : Bool) (ss : List Slot) → All (λ w. w < 2 ^ 24) (data_of ss)
    → (p : ℕ) (is : List Item) → onward (run ks parity ss Nothing p) finish ≡ got is → (said parity ss ≡ flat_map item_parts is) × All (Lawful ks) is
parts_said ks parity ss h p is e =
    let r : reads ks Nothing (said parity ss) ≡ whole is = sym (run_reads ks parity ss Nothing p) ∙ ap whole_of e in
    rw r at (parts_forth ks (said parity ss) Nothing tt (said_fits parity (data_of ss) h))

pub words_forth : (ks : List Kind) (parity : Bool) (ss : List Slot) → All (λ w. w < 2 ^ 24) (data_of ss)
    → (p : ℕ) (is : List Item) → onward (run ks parity ss Nothing p) finish ≡ got is
    → (map (bare parity) (data_of ss) ≡ flat_map item_words is) × All (Lawful ks) is
words_forth ks parity ss h p is e =
    let a = parts_said ks parity ss h p is e in
    (sym (forth_words parity (data_of ss) h) ∙ ap (map word_for) a.0 ∙ sym (words_of is), a.1)
