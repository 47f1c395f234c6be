-- The judge's verdict in C's terms: no enum crosses to C.
use Rattle.std.specs.Prelude.{ℕ, true, false, Option, Some, None}
use Rattle.llsc.specs.Refusals.{refusal_number}
use Rattle.verdicts.specs.declared.Verdict.{Verdict}
use Rattle.verdicts.specs.declared.Judgement.{Judgement as Said}
use Rattle.verdicts.specs.declared.Judgement.TheVariants.{Refused, Yes, No}
use Rattle.verdicts.specs.declared.Fault.{Fault}
use Rattle.verdicts.specs.declared.Fault.TheVariants.{Unknown, Overlap, Moment, Outside, Answer, Unled}
use Rattle.verdicts.specs.declared.Shown.TheVariants.{Value as Value·shown, WordsOf, Truth}
use Rattle.verdicts.specs.declared.Place.{Place}
use Rattle.verdicts.specs.declared.Place.TheVariants.{Value, Call}
use Rattle.verdicts.specs.Verdicts.{number_of, says_yes}
use Rattle.verdicts.specs.Reasons.{condition_of, cause_of, place_of}
use Rattle.besklaun.specs.declared.logs.Judgement.{Judgement}
use Rattle.besklaun.specs.declared.logs.Reasoned.{Reasoned}

-- the number of the refusal, 0 for none, and whether "It says yes" (02, CR 1); both 0 and false is the no
abbrev pub judgement_of : Verdict → Judgement
judgement_of v = record { number = number_of v; yes = says_yes v }

abbrev pub plain_no : Reasoned
plain_no = record { number = 0; yes = false; condition = 0; given = false; truth = false; call = 0; other = 0 }

-- the reason of a no: the number of its condition, its call and the other, or whether the object holds the value, or its truth
abbrev pub fault_of : Fault → Reasoned
fault_of (Unknown k) = record { number = 0; yes = false; condition = condition_of (Unknown k); given = false; truth = false; call = k; other = 0 }
fault_of (Overlap k j) = record { number = 0; yes = false; condition = condition_of (Overlap k j); given = false; truth = false; call = k; other = j }
fault_of (Moment k j) = record { number = 0; yes = false; condition = condition_of (Moment k j); given = false; truth = false; call = k; other = j }
fault_of (Outside k) = record { number = 0; yes = false; condition = condition_of (Outside k); given = false; truth = false; call = k; other = 0 }
fault_of (Answer k Value·shown) = record { number = 0; yes = false; condition = condition_of (Answer k Value·shown); given = true; truth = false; call = k; other = 0 }
fault_of (Answer k (WordsOf j)) = record { number = 0; yes = false; condition = condition_of (Answer k (WordsOf j)); given = false; truth = false; call = k; other = j }
fault_of (Answer k (Truth t)) = record { number = 0; yes = false; condition = condition_of (Answer k (Truth t)); given = false; truth = t; call = k; other = 0 }
fault_of (Unled k) = record { number = 0; yes = false; condition = condition_of (Unled k); given = false; truth = false; call = k; other = 0 }

-- a refusal, and the value or the call that it is about
abbrev pub refused_of : ℕ → Option Place → Reasoned
refused_of c None = record { number = c; yes = false; condition = 0; given = false; truth = false; call = 0; other = 0 }
refused_of c (Some Value) = record { number = c; yes = false; condition = 0; given = true; truth = false; call = 0; other = 0 }
refused_of c (Some (Call k)) = record { number = c; yes = false; condition = 0; given = false; truth = false; call = k; other = 0 }

-- verdict and reason (verdicts/specs/Reasons) side by side
abbrev pub reasoned_of : Said → Reasoned
reasoned_of (Refused r) = refused_of (refusal_number (cause_of r)) (place_of r)
reasoned_of Yes = record { number = 0; yes = true; condition = 0; given = false; truth = false; call = 0; other = 0 }
reasoned_of (No f) = fault_of f
