-- A step's two strings in the log.
use Rattle.std.specs.Prelude.{ℕ, ◌^◌, ◌≤◌, ◌<◌, List}
use Rattle.data_start.specs.declared.Step.{Step}
use Rattle.log_write.specs.declared.Pen.{Pen}
use Rattle.log_write.specs.Pen.{pen_put, pen_in}

-- a step's two strings go to the log
abbrev pub step_pen : Pen → Step → Pen
step_pen w r = pen_put (pen_put w r.first r.first_width) r.second r.second_width

abbrev pub step_out : List ℕ → Pen → Step → List ℕ
step_out out w r = pen_in (pen_in out w r.first r.first_width) (pen_put w r.first r.first_width) r.second r.second_width

-- the two strings fit their widths
pub record Strings (r : Step) : Type 0 where
  pub first_fits : r.first < 2 ^ r.first_width
  pub second_fits : r.second < 2 ^ r.second_width
  pub first_short : r.first_width ≤ 56
  pub second_short : r.second_width ≤ 56
