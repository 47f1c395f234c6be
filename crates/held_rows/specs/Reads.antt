-- A process as a record's bench has it, read off a held list; numbers that fit their fields.
-- Inner: `NearRowLaws` proves that this is `station`'s `process_of`, `FitLaws` that numbers in range fit.
use Rattle.std.specs.Prelude.{ℕ, ◌+◌, ◌<◌, List, Bool, not, ◌&&◌, ◌||◌, cond, eqb}
use Rattle.model.specs.declared.Process.{Process}
use Rattle.model.specs.Places.{XPlace, BankPlace, HelpPlace}
use Rattle.model.specs.Points.{line_number, idle, busy_points}
use Rattle.llsc.specs.Rows.{some}
use Rattle.held_model.specs.Layout.{call_place}
use Rattle.held_model.specs.Memory.{number_at, held_from}

-- idle, or a point of Figure 2
abbrev pub line_number_ok : ℕ → Bool
line_number_ok k = eqb k (line_number idle) || some (λ y. eqb k (line_number y)) busy_points

-- the open call of process p is on another record than j
abbrev pub away : List ℕ → ℕ → ℕ → Bool
away l j p = not (eqb (number_at l (call_place p)) 0) && not (eqb (number_at l (call_place p + 3)) j)

abbrev pub seen_from : List ℕ → ℕ → ℕ → Process
seen_from l j p = record {
  mybuf = (held_from l p j).mybuf;
  x = (held_from l p j).x;
  line = cond (away l j p) 0 (number_at l (call_place p));
  word = cond (away l j p) 0 (number_at l (call_place p + 1));
  count = cond (away l j p) 0 (number_at l (call_place p + 2));
  answered = (held_from l p j).answered;
  b = record { 0 = number_at l (call_place p + 4) };
  c = record { 0 = number_at l (call_place p + 5) };
  d = record { 0 = number_at l (call_place p + 6) };
  e = record { 0 = number_at l (call_place p + 7) };
}

-- numbers that fit their fields
pub record XFits (x : XPlace) : Type 0 where
  pub buf : x.content.buf.0 < 256
  pub seq : x.content.seq.0 < 256
  pub links : x.links < 65536

pub record BankFits (b : BankPlace) : Type 0 where
  pub buf : b.content.0 < 256
  pub links : b.links < 65536

pub record HelpFits (h : HelpPlace) : Type 0 where
  pub flag : h.content.flag < 256
  pub buf : h.content.buf.0 < 256
  pub links : h.links < 65536

pub record ProcessFits (q : Process) : Type 0 where
  pub mybuf : q.mybuf.0 < 256
  pub x_buf : q.x.buf.0 < 256
  pub x_seq : q.x.seq.0 < 256
  pub line : q.line < 256
  pub b_buf : q.b.0 < 256
  pub c_buf : q.c.0 < 256
  pub d_buf : q.d.0 < 256
  pub e_buf : q.e.0 < 256
