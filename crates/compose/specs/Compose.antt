-- Composing by parts: the first groups.
use Rattle.std.specs.Prelude.{ℕ}
use mathlib.Core.List.{List, flat_map}
use Rattle.format.specs.Compose.{dealt_for}
use Rattle.format.specs.Group.{group}
use Rattle.format.specs.declared.Plan.{Plan}
use Rattle.format.specs.Lists.{list}

-- the stored words of the first n groups
unfoldable pub groups_to : Plan → List ℕ → List ℕ → ℕ → List ℕ
groups_to p times ws n = flat_map (λ (g : ℕ). group p (dealt_for p times ws g)) (list (λ g. g) 0 n)
