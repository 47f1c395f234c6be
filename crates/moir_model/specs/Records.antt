-- The process record with some of its numbers set: what the lines of Figure 6 do to their own process.
use Rattle.std.specs.Prelude.{ℕ, ◌+◌, List, true, false, get_or}
use Rattle.llsc.specs.declared.ProcessNumber.{ProcessNumber}
use Rattle.moir_model.specs.declared.Header.{Header}
use Rattle.moir_model.specs.declared.Segment.{Segment}
use Rattle.moir_model.specs.declared.Process.{Process}
use Rattle.moir_model.specs.Points.{Point, line_number, idle}

-- what stands past the end of the records
abbrev pub no_header : Header
no_header = record { tag = 0; pid = record { 0 = 0 } }

abbrev pub no_segment : Segment
no_segment = record { tag = 0; val = 0 }

abbrev pub no_process : Process
no_process = record { line = 0; word = 0; count = 0; answered = false; keep = 0; x = no_header; oldhdr = no_header; newhdr = no_header; h = no_header; y = no_segment; z = no_segment }

-- the record of process p
abbrev pub record_at : List Process → ProcessNumber → Process
record_at records p = get_or records p.0 no_process

-- "A step makes one access and adds 1 to the count.": on to the line of a number, or to the point y
abbrev pub to_line : ℕ → Process → Process
to_line k q = record q { line = k; count = q.count + 1 }

abbrev pub to : Point → Process → Process
to y q = to_line (line_number y) q

-- "The answering step .. leaves the process idle with count 0.", and the word place at 0
abbrev pub rest : Process → Process
rest q = record q { line = line_number idle; word = 0; count = 0 }

-- the mark that a WLL was answered, with words or with a process
abbrev pub marked : Process → Process
marked q = record q { answered = true }

-- "A start places the process at its first line .., sets the count to 0"
abbrev pub begin_line : ℕ → Process → Process
begin_line k q = record q { line = k; count = 0 }

abbrev pub begin : Point → Process → Process
begin y q = begin_line (line_number y) q

-- the word place
abbrev pub with_word : ℕ → Process → Process
with_word k q = record q { word = k }

-- lines 10 and 11: x, and the tag that is kept
abbrev pub with_x : Header → Process → Process
with_x v q = record q { keep = v.tag; x = v }

-- line 14
abbrev pub with_old : Header → Process → Process
with_old v q = record q { oldhdr = v }

-- line 18
abbrev pub with_new : Header → Process → Process
with_new v q = record q { newhdr = v }

-- line 7
abbrev pub with_h : Header → Process → Process
with_h v q = record q { h = v }

-- lines 2 and 6
abbrev pub with_y : Segment → Process → Process
with_y v q = record q { y = v }

-- line 4
abbrev pub with_z : Segment → Process → Process
with_z v q = record q { z = v }
