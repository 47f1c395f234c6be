-- The parts of a trace line that every bench has, as bytes. Each part but the entry number has the space before it.
use Rattle.std.specs.Prelude.{ℕ, List, [], ◌∷◌, ◌++◌, Bool, true, false}
use Rattle.listing.specs.Quoted.{quoted}
use Rattle.listing.specs.Decimal.{decimal}
use Rattle.listing.specs.Lines.{letter_l, letter_s, letter_v}
use Rattle.trace_parts.specs.declared.Start.{Start}
use Rattle.trace_parts.specs.declared.Start.TheVariants.{Ll, Vl, Sc}

-- a number, after a space
unfoldable pub spaced : ℕ → List ℕ
spaced n = quoted " " ++ decimal n

-- a number in brackets
unfoldable pub bracketed : ℕ → List ℕ
bracketed n = quoted "[" ++ (decimal n ++ quoted "]")

-- the entry number and the process
unfoldable pub head_text : ℕ → ℕ → List ℕ
head_text entry p = decimal entry ++ spaced p

unfoldable pub truth_text : Bool → List ℕ
truth_text true = quoted " true"
truth_text false = quoted " false"

-- the listing's own line follows where the step answers its call
unfoldable pub end_text : Bool → List ℕ
end_text true = quoted " answers "
end_text false = quoted "\n"

-- a start with the letter of its call; only an SC brings a value
unfoldable pub start_text : Start → List ℕ
start_text Ll = letter_l ∷ []
start_text Vl = letter_v ∷ []
start_text (Sc value) = (letter_s ∷ []) ++ spaced value

-- the line of a start
unfoldable pub start_line : ℕ → ℕ → Start → List ℕ
start_line entry p start = head_text entry p ++ (quoted " start " ++ (start_text start ++ quoted "\n"))

-- the line of a step, with what a bench shows of it
unfoldable pub step_line : {A : Type 0} → (A → List ℕ) → ℕ → ℕ → A → Bool → List ℕ
step_line shown entry p a answered = head_text entry p ++ (shown a ++ end_text answered)
