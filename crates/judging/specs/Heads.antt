-- Inner: calls without their words, and the conditions as tests that a log is looked through for. `earns_is`
-- (proofs/JudgeLaws) ties them to what `verdicts` says.
use Rattle.std.specs.Prelude.{◌≡◌, ℕ, ◌+◌, ◌*◌, ◌/◌, List, Bool, Option, Some, None, not, ◌&&◌, ◌||◌, cond, eqb, ltb, leb, length, get_or, drop}
use Rattle.llsc.specs.Rows.{some, between}
use Rattle.verdicts.specs.Log.{Entry, width, entry_of}
use Rattle.verdicts.specs.Reasons.{first_with}
use Rattle.judging.specs.declared.heads.Head.{Head}

abbrev pub head_of : List ℕ → Head
head_of ns = record { process = get_or ns 0 0; kind = get_or ns 1 0; start = get_or ns 2 0; answer = get_or ns 3 0; truth = get_or ns 4 0; moment = get_or ns 5 0 }

abbrev pub head : Entry → Head
head e = record { process = e.process; kind = e.kind; start = e.start; answer = e.answer; truth = e.truth; moment = e.moment }

-- the call of an index
abbrev pub entry_at : ℕ → List ℕ → ℕ → Entry
entry_at w log k = entry_of w (drop (k * width w) log)

-- the numbers behind the last call that is whole
abbrev pub left_over : ℕ → List ℕ → List ℕ
left_over w log = drop (length log / width w * width w) log

-- the kind is one
abbrev pub known : Head → Bool
known e = between 1 3 e.kind

-- a moment is inside its call
abbrev pub inside : Head → Bool
inside e = ltb e.start e.moment && leb e.moment e.answer

-- two calls of one process do not overlap
abbrev pub apart : Head → Head → Bool
apart e f = not (eqb e.process f.process) || (ltb e.answer f.start || ltb f.answer e.start)

-- f is an LL of e's process, before e in moment order
abbrev pub leads : Head → Head → Bool
leads e f = eqb f.process e.process && (eqb f.kind 1 && ltb f.moment e.moment)

-- a closure decides as a test does
abbrev pub Decides : (Head → Bool → Type 0) → (Head → Bool) → Type 0
Decides post f = (e : Head) (b : Bool) → post e b → b ≡ f e

abbrev pub DecidesTwo : (Head → Head → Bool → Type 0) → (Head → Head → Bool) → Type 0
DecidesTwo post r = (e f : Head) (b : Bool) → post e f b → b ≡ r e f

-- the first entry that passes a test, the list beginning with the call of index k
abbrev pub first_from : (Entry → Bool) → ℕ → List Entry → Option ℕ
first_from f k es = cond (some f es) (Some (k + first_with f es)) None

-- e is an SC or VL with no LL of its process before it among all; the first such entry
abbrev pub lacks_ll : List Entry → Head → Bool
lacks_ll all e = not (eqb e.kind 1 || some (λ f. leads e (head f)) all)

abbrev pub first_unled : List Entry → Option ℕ
first_unled all = first_from (λ e. lacks_ll all (head e)) 0 all
