-- What the answers of a listing add to the sums of their processes.
use Rattle.std.specs.Prelude.{ℕ, ◌+◌, List, [], ◌∷◌, Bool, true, false, get_or, set}
use Rattle.answers.specs.declared.Sum.{Sum}
use Rattle.answers.specs.Shape.{Answer, ll, sc, vl}

abbrev pub no_sum : Sum
no_sum = record { successes = 0; scs = 0; steps = 0; lls = 0 }

abbrev pub plus : Sum → Sum → Sum
plus a b = record {
  successes = a.successes + b.successes;
  scs = a.scs + b.scs;
  steps = a.steps + b.steps;
  lls = a.lls + b.lls;
}

abbrev pub bit : Bool → ℕ
bit true = 1
bit false = 0

-- CR 2: "successful SCs over SCs answered, and the total of LL steps over LLs answered"
abbrev pub ll_gain : ℕ → Sum
ll_gain count = record { successes = 0; scs = 0; steps = count; lls = 1 }

abbrev pub sc_gain : ℕ → Sum
sc_gain success = record { successes = success; scs = 1; steps = 0; lls = 0 }

abbrev pub gain_of : Answer → Sum
gain_of (ll p c ws) = ll_gain c
gain_of (sc p c t) = sc_gain (bit t)
gain_of (vl p c t) = no_sum

abbrev pub process_of : Answer → ℕ
process_of (ll p c ws) = p
process_of (sc p c t) = p
process_of (vl p c t) = p

-- "for each process": a gain added to the sum of process p
unfoldable pub tally : List Sum → ℕ → Sum → List Sum
tally l p gain = set l p (plus (get_or l p no_sum) gain)

-- all answers of a listing added
unfoldable pub gained : List Sum → List Answer → List Sum
gained l [] = l
gained l (a ∷ more) = gained (tally l (process_of a) (gain_of a)) more
