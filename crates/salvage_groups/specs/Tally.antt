-- What the groups of a capture bring, as the definitions say it.
use Rattle.std.specs.Prelude.{ℕ, ◌+◌, ◌≤◌, cond, ◌≡◌, List, [], map, length, take}
use Rattle.std.proofs.Common.{ap, sym, ◌∙◌}
use Rattle.format.specs.Log.{log_of}
use Rattle.format.specs.declared.Kind.{Kind}
use Rattle.format.specs.declared.Plan.{Plan}
use Rattle.salvage_rules.specs.Salvage.{Saved, entry_number, kept_times, salvage_groups}
use Rattle.salvage_run.specs.Tape.{laid}
use Rattle.salvage_groups.specs.declared.Tally.{Tally}

-- the time row of n groups
abbrev pub time_row : Plan → List ℕ → ℕ → List ℕ
time_row p c n = cond p.frame_time (kept_times p c n 0) []

-- the lengths; the log if the array has room for it, times and report as far as their rows have room
pub record Tallied (ks : List Kind) (p : Plan) (c : List ℕ) (n : ℕ) (r : Tally) (out times times' report report' : List ℕ) : Type 0 where
  pub bytes : r.bytes ≡ length (log_of (salvage_groups p ks c n).its)
  pub log : r.bytes + 7 ≤ length out → take r.bytes out ≡ log_of (salvage_groups p ks c n).its
  pub number_times : r.times ≡ length (time_row p c n)
  pub times_laid : times' ≡ laid (time_row p c n) times
  pub number_entries : r.entries ≡ length (salvage_groups p ks c n).report
  pub entries_laid : report' ≡ laid (map entry_number (salvage_groups p ks c n).report) report

-- ---- one answer: the lengths, both rows, and the log where both arrays have room for it; the rest of an array is work room

module _ (ks : List Kind) (p : Plan) (c : List ℕ) (n : ℕ) {r r' : Tally} {out out' times x x' report y y' : List ℕ}
    (a : Tallied ks p c n r out times x report y) (b : Tallied ks p c n r' out' times x' report y') where
  pub tally_one : (r.bytes ≡ r'.bytes) × (r.times ≡ r'.times) × (r.entries ≡ r'.entries) × (x ≡ x') × (y ≡ y')
  tally_one = (
    a.bytes ∙ sym b.bytes,
    a.number_times ∙ sym b.number_times,
    a.number_entries ∙ sym b.number_entries,
    a.times_laid ∙ sym b.times_laid,
    a.entries_laid ∙ sym b.entries_laid,
  )

  pub tally_log_one : r.bytes + 7 ≤ length out → r'.bytes + 7 ≤ length out' → take r.bytes out ≡ take r'.bytes out'
  tally_log_one h k = a.log h ∙ sym (b.log k)
