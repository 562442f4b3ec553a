-- No answer of a function on a log has a second place (document 02, K8).
use Rattle.std.specs.Prelude.{ℕ, Bool, true, false, cond, ◌&&◌, ◌≡◌, refl, List, map, length, leb, ℤ}
use Rattle.format.specs.Answer.{read_answer}
use Rattle.format.specs.Group.{Fault, none, found}
use Rattle.format.specs.Log.{Parsed, items, fault, parsed, on_no_plan, log_of}
use Rattle.format.specs.Read.{gives, refuses}
use Rattle.log_rules.specs.Profile.{profile_answer}
use Rattle.log_rules.specs.Replay.{Replay, stores, denies, replay_answer}
use Rattle.log_rules.specs.Shift.{if_shifted, moved, moved_item, shift_parsed, shifted, shifted_in, unshifted}

pub profile_none : (f : Fault) → (profile_answer f).second ≡ 0
profile_none none = refl
profile_none (found n p) = refl

pub replay_none : (m : Replay) → (replay_answer m).second ≡ 0
replay_none (stores log sent lost held) = refl
replay_none (denies n p) = refl

pub shift_none : (log times : List ℕ) (by : ℤ) (room : ℕ) → (read_answer (shifted log times by room)).second ≡ 0
unfolding shifted
shift_none log times by room = go (parsed on_no_plan log)
  where
    fits : (b : Bool) (new row : List ℕ) → (read_answer (cond b (gives new row) (refuses 6 (length new) 0))).second ≡ 0
    fits true new row = refl
    fits false new row = refl

    moves_all : (f : Fault) (new row : List ℕ) → (read_answer (if_shifted f (shifted_in room new row))).second ≡ 0
    moves_all (found n p) new row = refl
    moves_all none new row = fits (leb (length new) 32768 && leb (length new) room) new row

    go : (p : Parsed) → (read_answer (shift_parsed times by room p)).second ≡ 0
    go (fault n p) = refl
    go (items is) = moves_all (unshifted by times is) (log_of (map (moved_item by) is)) (map (moved by) times)
