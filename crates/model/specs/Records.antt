-- The process record with one of its numbers set: what the lines of Figure 2 do to their own process.
use Rattle.std.specs.Prelude.{ℕ, ◌+◌, List, true, false, get_or}
use Rattle.model.specs.declared.BufferNumber.{BufferNumber}
use Rattle.llsc.specs.declared.ProcessNumber.{ProcessNumber}
use Rattle.model.specs.declared.XContent.{XContent}
use Rattle.model.specs.declared.Process.{Process}
use Rattle.model.specs.Points.{Point, line_number, idle}

-- what stands past the end of the records
abbrev pub no_process : Process
no_process = record {
  mybuf = record { 0 = 0 };
  x = record { buf = record { 0 = 0 }; seq = record { 0 = 0 } };
  line = 0;
  word = 0;
  count = 0;
  answered = false;
  b = record { 0 = 0 };
  c = record { 0 = 0 };
  d = record { 0 = 0 };
  e = record { 0 = 0 };
}

-- the record of process p
abbrev pub record_at : List Process → ProcessNumber → Process
record_at records p = get_or records p.0 no_process

-- "A step makes one access and adds 1 to the count.": on to the line of a number, or to the point y
abbrev pub to_line : ℕ → Process → Process
to_line k q = record { mybuf = q.mybuf; x = q.x; line = k; word = q.word; count = q.count + 1; answered = q.answered; b = q.b; c = q.c; d = q.d; e = q.e }

abbrev pub to : Point → Process → Process
to y q = to_line (line_number y) q

-- "The answering step .. leaves the process idle with count 0."
abbrev pub rest : Process → Process
rest q = record { mybuf = q.mybuf; x = q.x; line = line_number idle; word = q.word; count = 0; answered = q.answered; b = q.b; c = q.c; d = q.d; e = q.e }

-- "A start places the process at its first line .., sets the count to 0"
abbrev pub begin_line : ℕ → Process → Process
begin_line k q = record { mybuf = q.mybuf; x = q.x; line = k; word = q.word; count = 0; answered = q.answered; b = q.b; c = q.c; d = q.d; e = q.e }

abbrev pub begin : Point → Process → Process
begin y q = begin_line (line_number y) q

-- the next word of a run: the line stays
abbrev pub next_word : Process → Process
next_word q = record { mybuf = q.mybuf; x = q.x; line = q.line; word = q.word + 1; count = q.count + 1; answered = q.answered; b = q.b; c = q.c; d = q.d; e = q.e }

-- the word place at 0
abbrev pub first_word : Process → Process
first_word q = record { mybuf = q.mybuf; x = q.x; line = q.line; word = 0; count = q.count; answered = q.answered; b = q.b; c = q.c; d = q.d; e = q.e }

-- the mark that an LL was answered
abbrev pub marked : Process → Process
marked q = record { mybuf = q.mybuf; x = q.x; line = q.line; word = q.word; count = q.count; answered = true; b = q.b; c = q.c; d = q.d; e = q.e }

-- the copy of X, mybuf, b, c, d and e of Figure 2
abbrev pub with_x : XContent → Process → Process
with_x v q = record { mybuf = q.mybuf; x = v; line = q.line; word = q.word; count = q.count; answered = q.answered; b = q.b; c = q.c; d = q.d; e = q.e }

abbrev pub with_mybuf : BufferNumber → Process → Process
with_mybuf v q = record { mybuf = v; x = q.x; line = q.line; word = q.word; count = q.count; answered = q.answered; b = q.b; c = q.c; d = q.d; e = q.e }

abbrev pub with_b : BufferNumber → Process → Process
with_b v q = record { mybuf = q.mybuf; x = q.x; line = q.line; word = q.word; count = q.count; answered = q.answered; b = v; c = q.c; d = q.d; e = q.e }

abbrev pub with_c : BufferNumber → Process → Process
with_c v q = record { mybuf = q.mybuf; x = q.x; line = q.line; word = q.word; count = q.count; answered = q.answered; b = q.b; c = v; d = q.d; e = q.e }

abbrev pub with_d : BufferNumber → Process → Process
with_d v q = record { mybuf = q.mybuf; x = q.x; line = q.line; word = q.word; count = q.count; answered = q.answered; b = q.b; c = q.c; d = v; e = q.e }

abbrev pub with_e : BufferNumber → Process → Process
with_e v q = record { mybuf = q.mybuf; x = q.x; line = q.line; word = q.word; count = q.count; answered = q.answered; b = q.b; c = q.c; d = q.d; e = v }
