-- Laws of the lines of a log's text, for each way that the code returns.
use mathlib.Core.Path.{◌≡◌, sym, ap, ◌∙◌}
use Prim.Native.Nat.{ℕ, ◌+◌, ◌≤◌, ◌<◌}
use mathlib.Core.List.{List}
use native.Mathlib.Numerals.{add-one}
use lib.ListN.{length, get_or, drop, drop_of_length-le}
use lib.Seq.{drop-cons}
use Rattle.judge.specs.declared.log_lines.Lines.{Lines}
use Rattle.judge.specs.LogLines.{ended_line, on_byte, lines_from}

module _ (bs : List ℕ) (i w : ℕ) (s : Lines) where
  pub one_further : i < length bs → lines_from (drop i bs) w s ≡ lines_from (drop (i + 1) bs) w (on_byte s (get_or bs i 0) w)
  unfolding lines_from
  one_further h =
      ap (λ (x : List ℕ). lines_from x w s) (drop-cons bs i 0 h)
      ∙ ap (λ (k : ℕ). lines_from (drop k bs) w (on_byte s (get_or bs i 0) w)) (sym (add-one i))

  pub last_line : length bs ≤ i → lines_from (drop i bs) w s ≡ ended_line s w
  unfolding lines_from
  last_line h = ap (λ (x : List ℕ). lines_from x w s) (drop_of_length-le bs {i = i} h)
