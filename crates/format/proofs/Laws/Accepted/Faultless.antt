-- What a reading that accepts says of the capture: no group has a fault, and its data words are those of lawful items.
use Rattle.std.specs.Prelude.{ℕ, zero, suc, ◌+◌, ◌*◌, ◌^◌, ◌<◌, ◌≡◌, refl}
use Rattle.std.proofs.Common.{arith, ap, sym, ◌∙◌}
use mathlib.Core.List.{List, map, flat_map}
use Rattle.format.specs.Plan.{group_words}
use Rattle.format.specs.Item.{item_words, item_parts}
use Rattle.format.specs.Reader.{Ran, bad_at, ran, run, data_of}
use Rattle.format.specs.Group.{group_fault, group_slots, Fault, none, found}
use Rattle.format.specs.Read.{Got, got, stopped, before, onward, if_sound, read_groups, slots_from}
use Rattle.format.specs.Lists.{All}
use Rattle.format.specs.Lawful.{Lawful}
use Rattle.format.specs.Word.{part_of, word_for, bare}
use Rattle.format.proofs.Laws.Reader.Reads.{whole, whole_of, reads}
use Rattle.format.proofs.Laws.Reader.Forth.{parts_forth}
use Rattle.format.proofs.Laws.Reader.Words.{forth_words, said_fits}
use Rattle.format.specs.Laws.Reader.Parts.{words_of}
use Rattle.format.proofs.Laws.Reader.Groups.{Faultless, last, next, groups_read}
use Rattle.format.specs.declared.Kind.{Kind}
use Rattle.format.specs.declared.Item.{Item}
use Rattle.format.specs.declared.Plan.{Plan}
use Rattle.format.specs.declared.Held.{Held}
use Rattle.format.specs.declared.Held.TheVariants.{Nothing}

-- a refusal is no reading
no_got : {A : Type 0} (n p q : ℕ) (is : List Item) → stopped n p q ≡ got is → A
no_got n p q is e = let z : ◌≡◌ {A = ℕ} 0 1 = cc in absurd (omega arith)

before_got : (is js : List Item) (g : Got) → before is g ≡ got js → (ks : List Item) × (g ≡ got ks)
before_got is js (got ks) e = (ks, refl)
before_got is js (stopped n p q) e = no_got n p q js e

-- what follows an accepted run is accepted
onward_got : (r : Ran) (k : Held → ℕ → Got) (is : List Item) → onward r k ≡ got is → (h : Held) × (p : ℕ) × (js : List Item) × (k h p ≡ got js)
onward_got (bad_at p q) k is e = no_got 13 p q is e
onward_got (ran js h p) k is e = let b = before_got js is (k h p) e in (h, p, b.0, b.1)

pub accepted_sound : (p : Plan) (ks : List Kind) (c : List ℕ) (n g : ℕ) (h : Held) (at : ℕ) (is : List Item) → read_groups p ks c n g h at ≡ got is → Faultless p c n g
unfolding read_groups
accepted_sound p ks c zero g h at is e = last
accepted_sound p ks c (suc n) g h at is e = go (group_fault p c (g * group_words p)) refl e (λ h' at' js e'. accepted_sound p ks c n (g + 1) h' at' js e')
  where
    go : (f : Fault) → group_fault p c (g * group_words p) ≡ f
        → if_sound f (onward (run ks p.parity (group_slots p c (g * group_words p)) h at) (λ h' at'. read_groups p ks c n (g + 1) h' at')) ≡ got is
        → ((h' : Held) (at' : ℕ) (js : List Item) → read_groups p ks c n (g + 1) h' at' ≡ got js → Faultless p c n (g + 1)) → Faultless p c (suc n) g
    go none f e ih =
        let r = onward_got (run ks p.parity (group_slots p c (g * group_words p)) h at) (λ h' at'. read_groups p ks c n (g + 1) h' at') is e in
        next f (ih r.0 r.1 r.2 r.3)
    go (found k q) f e ih = no_got k q 0 is e

-- its data words say what the words of lawful items say
pub accepted_parts : (p : Plan) (ks : List Kind) (c : List ℕ) (n : ℕ) (is : List Item) → read_groups p ks c n 0 Nothing 0 ≡ got is
    → All (λ w. w < 2 ^ 24) (data_of (slots_from p c n 0))
    → (map (part_of p.parity) (data_of (slots_from p c n 0)) ≡ flat_map item_parts is) × All (Lawful ks) is
accepted_parts p ks c n is e w =
    let d : List ℕ = data_of (slots_from p c n 0) in
    let r : reads ks Nothing (map (part_of p.parity) d) ≡ whole is = sym (groups_read p ks c n 0 (accepted_sound p ks c n 0 Nothing 0 is e) Nothing 0) ∙ ap whole_of e in
    rw r at (parts_forth ks (map (part_of p.parity) d) Nothing tt (said_fits p.parity d w))

-- an accepted capture: no fault, and the data words, bar their parity, are those of lawful items
pub accepted : (p : Plan) (ks : List Kind) (c : List ℕ) (n : ℕ) (is : List Item) → read_groups p ks c n 0 Nothing 0 ≡ got is
    → All (λ w. w < 2 ^ 24) (data_of (slots_from p c n 0))
    → Faultless p c n 0 × (map (bare p.parity) (data_of (slots_from p c n 0)) ≡ flat_map item_words is) × All (Lawful ks) is
accepted p ks c n is e w =
    let a = accepted_parts p ks c n is e w in
    (accepted_sound p ks c n 0 Nothing 0 is e, sym (forth_words p.parity (data_of (slots_from p c n 0)) w) ∙ ap (map word_for) a.0 ∙ sym (words_of is), a.1)
