-- The words of slots.
use Prim.Native.Nat.{ℕ}
use mathlib.Core.List.{List, map}
use Rattle.format.specs.Reader.{Slot}

abbrev pub words_in : List Slot → List ℕ
words_in ss = map (λ (s : Slot). s.1) ss
