-- What is promised of the reason of condition 5: what it says is what Figure 1's object answers.
use Rattle.std.specs.Prelude.{◌≡◌, ℕ, List, ◌∷◌, ◌++◌, map, ◌&&◌, true, false}
use Rattle.llsc.specs.Answers.{Answer}
use Rattle.llsc.specs.Object.{Object, serve}
use Rattle.llsc.specs.Linearizable.{fed}
use Rattle.verdicts.specs.declared.Shown.{Shown}
use Rattle.verdicts.specs.Log.{Entry}
use Rattle.verdicts.specs.Verdicts.{answer_of, answers_of, truth_told, answers_alike, same_answers}
use Rattle.verdicts.specs.Reasons.{Numbered, timed_of_numbered, answer_told}

-- the calls cs, fed to o: those before one of them are answered alike, and that one otherwise, as the reason says
pub record Unlike (value : List ℕ) (all : List Entry) (o : Object) (cs : List Numbered) (k : ℕ) (shown : Shown) : Type 0 where
  pub before : List Numbered
  pub call : Numbered
  pub after : List Numbered
  pub parts : cs ≡ before ++ (call ∷ after)
  pub index : k ≡ call.index
  pub earlier : List Answer
  pub later : List Answer
  pub answers : serve o (map fed (map timed_of_numbered cs)) ≡ earlier ++ (answer_told value all call.entry shown ∷ later)
  pub alike : same_answers earlier (answers_of (map timed_of_numbered before)) ≡ true
  pub unlike : (truth_told call.entry && answers_alike (answer_told value all call.entry shown) (answer_of call.entry)) ≡ false
