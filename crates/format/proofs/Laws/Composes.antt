-- What may be composed is composed.
use Rattle.std.specs.Prelude.{ℕ, ◌*◌, ◌≤◌, ◌<◌, true, cond, ◌≡◌, length}
use Rattle.std.proofs.Common.{arith, ◌∙◌, le-leb, eq-eqb}
use mathlib.Core.List.{List, flat_map}
use Rattle.format.specs.Plan.{legal, group_words}
use Rattle.format.specs.Item.{item_words}
use Rattle.format.specs.Log.{parsed, on_plan, items}
use Rattle.format.specs.Lists.{All}
use Rattle.format.specs.Time.{time_end}
use Rattle.format.specs.Compose.{made, composed, compose_words, capture_of, groups_for, first_late}
use Rattle.format.specs.Laws.Lists.{all_get_d}
use Rattle.format.proofs.Laws.Exactly.{none_late}
use Rattle.format.specs.Laws.Notices.{Answered, answered_composed}
use Rattle.format.specs.declared.Plan.{Plan}
use Rattle.format.specs.declared.Kind.{Kind}
use Rattle.format.specs.declared.Item.{Item}

pub lawful_composed : (p : Plan) (ks : List Kind) (log times : List ℕ) (room : ℕ) (is : List Item) → legal p ks ≡ true → parsed (on_plan ks) log ≡ items is → Answered is
    → length times ≡ cond p.frame_time (groups_for p (length (flat_map item_words is))) 0 → All (λ t. t < time_end) times
    → groups_for p (length (flat_map item_words is)) * (3 * group_words p) ≤ room
    → composed p ks log times room ≡ made (capture_of p times (flat_map item_words is))
unfolding composed compose_words
lawful_composed p ks log times room is lawful parses answered number early fits =
    let n : ℕ = groups_for p (length (flat_map item_words is)) in
    let late : first_late 0 times ≡ length times = none_late times 0 (all_get_d (λ t. t < time_end) 0 (omega arith) times early) ∙ omega arith in
    rw (
      lawful,
      parses,
      answered_composed p times room is answered,
      eq-eqb (length times) (cond p.frame_time n 0) number,
      eq-eqb (first_late 0 times) (length times) late,
      le-leb (n * (3 * group_words p)) room fits,
    )
