-- What stands in a dealt row: the time words, then the words of the group's data slots.
use Prim.Native.Nat.{ℕ, zero, suc, ◌+◌, ◌-◌}
use native.Mathlib.Omega.{arith}
use mathlib.Core.Path.{◌≡◌, refl, sym, ap, ◌∙◌}
use mathlib.Core.List.{List, [], ◌∷◌, ◌++◌, map}
use Rattle.format.specs.Lists.{list}
use Rattle.format.specs.Laws.Lists.{list_split, list_same}
use Rattle.format.specs.Word.{word_at}
use Rattle.format.specs.Plan.{lead, slots, place_of}
use Rattle.format.specs.Group.{group_slots}
use Rattle.format.specs.Reader.{Slot}
use Rattle.format.specs.Laws.Limits.{Shape, lead_few, room}
use Rattle.format.specs.Laws.Reader.Slots.{words_in}
use Rattle.format.specs.declared.Plan.{Plan}
use Rattle.group_read.specs.Row.{dealt_count, dealt_words}

map_list : {A B : Type 0} (f : A → B) (g : ℕ → A) (n a : ℕ) → map f (list g a n) ≡ list (λ s. f (g s)) a n
unfolding list
map_list f g zero a = refl
map_list f g (suc n) a = ap (λ l. f (g a) ∷ l) (map_list f g n (a + 1))

pub words_are : (p : Plan) (c : List ℕ) (at : ℕ) → words_in (group_slots p c at) ≡ list (λ s. word_at c (at + place_of p s)) (lead p) (slots p)
unfolding group_slots
words_are p c at = map_list (λ (s : Slot). s.1) (λ s. (at + place_of p s, word_at c (at + place_of p s))) (slots p) (lead p)

-- "First come the frame's three time words .. if frame time is chosen, then data."
pub dealt_is : (p : Plan) (g : List ℕ) → Shape p
    → dealt_words p g ≡ list (λ s. word_at g (place_of p s)) 0 (lead p) ++ words_in (group_slots p g 0)
unfolding dealt_words slots
dealt_is p g h =
    let f : ℕ → ℕ = λ s. word_at g (place_of p s) in
    let e : dealt_count p ≡ lead p + (dealt_count p - lead p) = omega (arith, lead_few p, room p h) in
    let z : 0 + lead p ≡ lead p = omega arith in
    let y : (s : ℕ) → place_of p s ≡ 0 + place_of p s = λ s. omega arith in
    ap (list f 0) e ∙ list_split f 0 (lead p) (dealt_count p - lead p)
    ∙ ap (λ (l : List ℕ). list f 0 (lead p) ++ l)
    (ap (λ (n : ℕ). list f n (dealt_count p - lead p)) z
    ∙ list_same f (λ s. word_at g (0 + place_of p s)) (dealt_count p - lead p) (lead p) (lead p) (λ i l. ap (word_at g) (y (lead p + i)))
    ∙ sym (words_are p g 0))
