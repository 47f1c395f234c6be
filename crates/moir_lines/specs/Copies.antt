-- Whose Copy runs, and what differs between the two: "In Copy, hdr is the header that it was called with: x in a WLL (line
-- 12), newhdr in an SC (line 20)" (`moir_model`'s lines).
-- Inner: the contracts of the lines say with these which line of `moir_model` is meant.
use Rattle.std.specs.Prelude.{ℕ, ◌+◌}
use Rattle.moir_model.specs.declared.Header.{Header}
use Rattle.moir_model.specs.declared.Process.{Process}
use Rattle.moir_model.specs.declared.LineStep.{LineStep}
use Rattle.moir_model.specs.Lines.{do_line7, do_line7_copy}
use Rattle.moir_lines.specs.declared.copies.CopyOf.{CopyOf}
use Rattle.moir_lines.specs.declared.copies.CopyOf.TheVariants.{Wll, Sc}

-- the number of a line of Copy: 20 more in the Copy of an SC
abbrev pub copy_line : CopyOf → ℕ → ℕ
copy_line Wll k = k
copy_line Sc k = 20 + k

abbrev pub copy_header : CopyOf → Process → Header
copy_header Wll q = q.x
copy_header Sc q = q.newhdr

-- line 7
abbrev pub copy_line7 : CopyOf → ℕ → Header → Process → LineStep
copy_line7 Wll w h q = do_line7 w h q
copy_line7 Sc w h q = do_line7_copy w h q
