-- What of a held list fits the fields that it is read into.
-- Inner: `RangeFits` proves it of all that is in range.
use Rattle.std.specs.Prelude.{ℕ, ◌<◌, Bool, ◌||◌, eqb}
use Rattle.llsc.specs.Rows.{some}
use Rattle.moir_model.specs.declared.Header.{Header}
use Rattle.moir_model.specs.declared.Process.{Process}
use Rattle.moir_model.specs.Points.{line_number, idle, busy_points}

-- idle, or the number of a point
abbrev pub line_number_ok : ℕ → Bool
line_number_ok k = eqb k (line_number idle) || some (λ y. eqb k (line_number y)) busy_points

pub record HeaderFits (h : Header) : Type 0 where
  pub tag : h.tag < 65536
  pub pid : h.pid.0 < 256

pub record ProcessFits (q : Process) : Type 0 where
  pub line : q.line < 256
  pub keep : q.keep < 65536
  pub x : HeaderFits q.x
  pub oldhdr : HeaderFits q.oldhdr
  pub newhdr : HeaderFits q.newhdr
  pub h : HeaderFits q.h
  pub y : q.y.tag < 65536
  pub z : q.z.tag < 65536
