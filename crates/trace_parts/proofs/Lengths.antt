-- How long the parts of a trace line that every bench has are, with numbers of at most ten digits.
use Prim.Native.Nat.{ℕ, ◌+◌, ◌≤◌}
use mathlib.Core.List.{List, ◌++◌}
use mathlib.Core.Bool.{Bool, true, false}
use native.Mathlib.Omega.{arith}
use lib.ListN.{length}
use Rattle.listing.specs.Quoted.{quoted}
use Rattle.listing.specs.Decimal.{decimal}
use Rattle.listing.proofs.Lengths.{word_digits, entries_digits, joined}
use Rattle.trace_parts.specs.TraceParts.{spaced, bracketed, head_text, truth_text, end_text, start_text, start_line, step_line}
use Rattle.trace_parts.specs.declared.Start.{Start}
use Rattle.trace_parts.specs.declared.Start.TheVariants.{Ll, Vl, Sc}

-- the value that is brought has at most ten digits
abbrev pub SmallStart : Start → Type 0
SmallStart Ll = Unit {0}
SmallStart Vl = Unit {0}
SmallStart (Sc value) = value ≤ 4294967295

pub spaced_length : (n k : ℕ) → length (decimal n) ≤ k → length (spaced n) ≤ k + 1
unfolding spaced
spaced_length n k h = omega arith

pub number_length : (n : ℕ) → n ≤ 4294967295 → length (spaced n) ≤ 11
number_length n h = spaced_length n 10 (word_digits n h)

pub bracketed_length : (n : ℕ) → n ≤ 4294967295 → length (bracketed n) ≤ 12
unfolding bracketed
bracketed_length n h = omega (arith, joined (decimal n) (quoted "]") 10 1 (word_digits n h) (omega arith))

pub head_length : (entry p : ℕ) → entry ≤ 60000 → p ≤ 4294967295 → length (head_text entry p) ≤ 16
unfolding head_text
head_length entry p h k = joined (decimal entry) (spaced p) 5 11 (entries_digits entry h) (number_length p k)

pub truth_length : (t : Bool) → length (truth_text t) ≤ 6
unfolding truth_text
truth_length true = omega arith
truth_length false = omega arith

pub end_length : (t : Bool) → length (end_text t) ≤ 9
unfolding end_text
end_length true = omega arith
end_length false = omega arith

start_text_length : (start : Start) → SmallStart start → length (start_text start) ≤ 12
unfolding start_text
start_text_length Ll h = omega arith
start_text_length Vl h = omega arith
start_text_length (Sc value) h = omega (arith, number_length value h)

-- the line of a start
pub start_length : (entry p : ℕ) (start : Start) → entry ≤ 60000 → p ≤ 4294967295 → SmallStart start → length (start_line entry p start) ≤ 128
unfolding start_line
start_length entry p start h k l =
    let c = joined (start_text start) (quoted "\n") 12 1 (start_text_length start l) (omega arith) in
    omega (arith, joined (head_text entry p) (quoted " start " ++ (start_text start ++ quoted "\n")) 16 20 (head_length entry p h k) (omega (arith, c)))

-- the line of a step, of which little is shown
pub step_length : {A : Type 0} (shown : A → List ℕ) (entry p : ℕ) (a : A) (t : Bool) → entry ≤ 60000 → p ≤ 4294967295
    → length (shown a) ≤ 103 → length (step_line shown entry p a t) ≤ 128
unfolding step_line
step_length shown entry p a t h k s =
    let c = joined (shown a) (end_text t) 103 9 s (end_length t) in
    omega (arith, joined (head_text entry p) (shown a ++ end_text t) 16 112 (head_length entry p h k) c)
