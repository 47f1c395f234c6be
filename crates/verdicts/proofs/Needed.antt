-- Each of the six conditions is needed: a log of which it alone fails, by computation. N is 2, W is 1, the value 5.
use mathlib.Core.Path.{◌≡◌, refl}
use mathlib.Core.List.{List, [], ◌∷◌, ◌++◌}
use mathlib.Core.Bool.{Bool, true, false}
use Prim.Native.Nat.{ℕ}
use Rattle.verdicts.specs.declared.Verdict.{Verdict}
use Rattle.verdicts.specs.declared.Verdict.TheVariants.{Yes, No}
use Rattle.verdicts.specs.Log.{entries}
use Rattle.verdicts.specs.Verdicts.{conditions, earns_yes, log_checked, judged}

-- one word: process, kind, start, answer, truth, moment, word
abbrev pub call : ℕ → ℕ → ℕ → ℕ → ℕ → ℕ → ℕ → List ℕ
call p k s a t m v = p ∷ k ∷ s ∷ a ∷ t ∷ m ∷ v ∷ []

abbrev said : List ℕ → Verdict
said log = judged 2 1 (5 ∷ []) log

abbrev held : List ℕ → List Bool
held log = conditions (5 ∷ []) (entries 1 log)

-- process 0 links, writes 7 and is told that its link is gone; process 1 sees 7
abbrev right : List ℕ
right = call 0 1 10 20 0 20 5 ++ call 0 2 30 40 1 40 7 ++ call 1 1 35 60 0 50 7 ++ call 0 3 50 60 0 60 0

pub earned : said right ≡ Yes
unfolding judged log_checked earns_yes
earned = refl

pub nothing_logged : said [] ≡ Yes
unfolding judged log_checked earns_yes
nothing_logged = refl

-- what a log has to show: a no, and which conditions held
abbrev OnlyFails : List Bool → List ℕ → Type 0
OnlyFails hs log = (said log ≡ No) × (held log ≡ hs)

-- a kind of 4
pub kind : OnlyFails (false ∷ true ∷ true ∷ true ∷ true ∷ true ∷ []) (call 0 1 10 20 0 20 5 ++ call 0 4 30 40 1 40 0)
unfolding judged log_checked earns_yes
kind = (refl, refl)

-- and one of 0
pub kind_0 : OnlyFails (false ∷ true ∷ true ∷ true ∷ true ∷ true ∷ []) (call 0 1 10 20 0 20 5 ++ call 0 0 30 40 1 40 0)
unfolding judged log_checked earns_yes
kind_0 = (refl, refl)

-- an answer place that is the next start place, "before" being strict
pub turn : OnlyFails (true ∷ false ∷ true ∷ true ∷ true ∷ true ∷ []) (call 0 1 10 20 0 20 5 ++ call 0 1 20 30 0 30 5)
unfolding judged log_checked earns_yes
turn = (refl, refl)

-- two moments that are one
pub moment : OnlyFails (true ∷ true ∷ false ∷ true ∷ true ∷ true ∷ []) (call 0 1 10 20 0 15 5 ++ call 1 1 10 20 0 15 5)
unfolding judged log_checked earns_yes
moment = (refl, refl)

-- a moment at its start, and one after its answer
pub too_early : OnlyFails (true ∷ true ∷ true ∷ false ∷ true ∷ true ∷ []) (call 0 1 10 20 0 10 5)
unfolding judged log_checked earns_yes
too_early = (refl, refl)

pub too_late : OnlyFails (true ∷ true ∷ true ∷ false ∷ true ∷ true ∷ []) (call 0 1 10 20 0 21 5)
unfolding judged log_checked earns_yes
too_late = (refl, refl)

-- an LL that saw 6; an SC of 7 after which an LL sees 5; a second SC that succeeds without a new LL; a truth of 2
pub other_word : OnlyFails (true ∷ true ∷ true ∷ true ∷ false ∷ true ∷ []) (call 0 1 10 20 0 20 6)
unfolding judged log_checked earns_yes
other_word = (refl, refl)

pub old_word : OnlyFails (true ∷ true ∷ true ∷ true ∷ false ∷ true ∷ []) (call 0 1 10 20 0 20 5 ++ call 0 2 30 40 1 40 7 ++ call 1 1 30 60 0 50 5)
unfolding judged log_checked earns_yes
old_word = (refl, refl)

pub kept_link : OnlyFails (true ∷ true ∷ true ∷ true ∷ false ∷ true ∷ []) (call 0 1 10 20 0 20 5 ++ call 0 2 30 40 1 40 7 ++ call 0 2 50 60 1 60 8)
unfolding judged log_checked earns_yes
kept_link = (refl, refl)

pub truth_of_2 : OnlyFails (true ∷ true ∷ true ∷ true ∷ false ∷ true ∷ []) (call 0 1 10 20 0 20 5 ++ call 0 2 30 40 1 40 7 ++ call 0 3 50 60 2 60 0)
unfolding judged log_checked earns_yes
truth_of_2 = (refl, refl)

-- a VL of a process that never linked, rightly told false
pub no_ll : OnlyFails (true ∷ true ∷ true ∷ true ∷ true ∷ false ∷ []) (call 0 1 10 20 0 20 5 ++ call 1 3 30 40 0 40 0)
unfolding judged log_checked earns_yes
no_ll = (refl, refl)
