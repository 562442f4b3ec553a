-- Text that is put into lent room, from a place on.
use Rattle.std.specs.Prelude.{ℕ, ◌+◌, ◌≤◌, Bool, ◌≡◌, List, [], ◌∷◌, ◌++◌, length, take, drop}
use Rattle.std.proofs.Common.{sym, ap, ◌∙◌}
use Rattle.format.specs.Log.{Parsed, items, fault}
use Rattle.format.specs.Listing.{decimal, hex, side}
use Rattle.format.specs.declared.Item.{Item}

-- `text` stands in out' from `at` to n, and the rest is as it was
pub record Adds (text out : List ℕ) (at : ℕ) (out' : List ℕ) (n : ℕ) : Type 0 where
  pub is : out' ≡ take at out ++ (text ++ drop n out)
  pub end : n ≡ at + length text
  pub fits : n ≤ length out

-- one slice and one place do it
pub adds_one : {text out out' out'' : List ℕ} {at n m : ℕ} → Adds text out at out' n → Adds text out at out'' m → (n ≡ m) × (out' ≡ out'')
adds_one {text} {out} {at = at} a b =
    let e = a.end ∙ sym b.end in
    (e, a.is ∙ ap (λ (k : ℕ). take at out ++ (text ++ drop k out)) e ∙ sym b.is)

-- a name of three letters, the bus, and a space behind each
abbrev pub named : ℕ → ℕ → ℕ → ℕ → List ℕ
named a b c bus = (a ∷ b ∷ c ∷ 32 ∷ []) ++ (decimal bus ++ (32 ∷ []))

-- the items of a log that parses
abbrev pub items_of : Parsed → List Item
items_of (items is) = is
items_of (fault n p) = []
