-- Lists that are counted out, facts about every element, and quoted text as bytes.
use Rattle.std.specs.Prelude.{ℕ, zero, suc, ◌+◌, ◌<◌, List, [], ◌∷◌}
use Prim.Native.String.{String, len, char_at}
use Prim.Native.Char.{code}

-- f at a, a + 1, .. , n of them
unfoldable pub list : {A : Type 0} → (ℕ → A) → ℕ → ℕ → List A
list f a zero = []
list f a (suc n) = f a ∷ list f (a + 1) n

-- P of each element
pub data All {A : Type 0} (P : A → Type 0) : List A → Type 0 where
  nil : All P []
  cons : {a : A} {l : List A} → P a → All P l → All P (a ∷ l)

-- bytes
abbrev pub Bytes : List ℕ → Type 0
Bytes c = All (λ b. b < 256) c

-- the bytes of a text
unfoldable pub text : String → List ℕ
text s = list (λ i. code (char_at s i)) 0 (len s)
