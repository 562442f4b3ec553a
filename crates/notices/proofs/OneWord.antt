-- What one word does to the table, by the tests of the code.
use Prim.Native.Nat.{ℕ, ◌+◌, ◌*◌, ◌/◌, ◌%◌}
use mathlib.Core.Bool.{Bool, true, false, cond}
use mathlib.Core.Path.{◌≡◌, refl, sym}
use mathlib.Core.List.{List}
use lib.ListN.{get_or, set}
use borrow.Author.Tests.{eq-eqb, ne_eqb}
use Rattle.format.specs.Word.{part}
use Rattle.format.specs.Laws.Tests.{clash}
use Rattle.format.specs.declared.Kind.{Kind}
use Rattle.format.specs.declared.Kind.TheVariants.{Unused, Mil1553, Arinc429}
use Rattle.notices.specs.Roles.{is_syllable, role_on}
use Rattle.notices.specs.Table.{is_arinc, earlier, noted}

module _ (bus label info number found : ℕ) (t : List ℕ) where
  pub notice_noted : (k : Kind) → is_arinc k ≡ true → label ≡ 4
      → noted number (role_on k (part bus label info)) (found, t) ≡ (earlier found (get_or t (bus * 4 + info / 8192 % 4) 0), set t (bus * 4 + info / 8192 % 4) (number + 1))
  notice_noted Unused a l = clash a
  notice_noted Mil1553 a l = clash a
  notice_noted Arinc429 a l = rw (eq-eqb label 4 l)

  pub word_noted : (k : Kind) → is_arinc k ≡ true → (label ≡ 4 → ⊥) → is_syllable label ≡ true
      → noted number (role_on k (part bus label info)) (found, t) ≡ (found, set t (bus * 4 + label / 2 % 4) 0)
  word_noted Unused a l s = clash a
  word_noted Mil1553 a l s = clash a
  word_noted Arinc429 a l s = rw (ne_eqb label 4 l, s)

  pub rest_noted : (k : Kind) → is_arinc k ≡ true → (label ≡ 4 → ⊥) → is_syllable label ≡ false → noted number (role_on k (part bus label info)) (found, t) ≡ (found, t)
  rest_noted Unused a l s = clash a
  rest_noted Mil1553 a l s = clash a
  rest_noted Arinc429 a l s = rw (ne_eqb label 4 l, s)

  pub none_noted : (k : Kind) → is_arinc k ≡ false → noted number (role_on k (part bus label info)) (found, t) ≡ (found, t)
  none_noted Unused a = refl
  none_noted Mil1553 a = refl
  none_noted Arinc429 a = clash (sym a)
