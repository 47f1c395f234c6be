-- A yes is given exactly where nothing refuses and the conditions hold, and then the moments are a linearization.
use mathlib.Core.Path.{◌≡◌, refl, sym, ap, subst, ◌∙◌}
use mathlib.Core.Bool.{Bool, true}
use mathlib.Core.List.{List, [], ◌∷◌, map}
use Prim.Native.Nat.{ℕ, ◌≤◌, ◌<◌}
use native.Mathlib.Omega.{arith}
use lib.Dec.{eqb, ltb}
use borrow.Author.Tests.{eqb-false, ltb-true, leb-true, not-true}
use Rattle.llsc.specs.Linearizable.{All, Timed, Distinct, Inside, Linearization}
use Rattle.llsc.specs.Rows.{every}
use Rattle.laws.proofs.AndLaws.{left, right}
use Rattle.laws.specs.Lists.{Pairs}
use Rattle.laws.proofs.AllLaws.{all_of, all_map, every_all, pairs_of, pairs_map, map_map}
use Rattle.verdicts.specs.declared.Verdict.TheVariants.{Yes}
use Rattle.verdicts.specs.Log.{Entry, entries}
use Rattle.verdicts.specs.Verdicts.{number_of, says_yes, call_of, timed_of, each_two, differ, inside, truth_told, conditions, earns_yes, log_refusal, judged}
use Rattle.verdicts.proofs.VerdictLaws.{verdict_says}
use Rattle.verdict_laws.specs.Promises.{YesIsRight}
use Rattle.verdict_laws.proofs.Answers.{equal_answers}

module _ (n w : ℕ) (value log : List ℕ) where
  abbrev earned : Bool
  earned = earns_yes value (entries w log)

  abbrev number : ℕ
  number = log_refusal n w value log

  -- a yes: no refusal, and every condition
  pub yes_means : judged n w value log ≡ Yes → (number ≡ 0) × (earned ≡ true)
  yes_means e = let s = verdict_says n w value log in (sym s.number ∙ ap number_of e, right (eqb number 0) earned (sym s.yes ∙ ap says_yes e))

two_each : (r : Entry → Entry → Bool) (es : List Entry) → each_two r es ≡ true → Pairs (λ e f. r e f ≡ true) es
two_each r [] e = tt
two_each r (x ∷ xs) e = (every_all (r x) xs (left (every (r x) xs) _ e), two_each r xs (right (every (r x) xs) _ e))

pairs_distinct : (ms : List ℕ) → Pairs (λ m k. m ≡ k → ⊥) ms → Distinct ms
pairs_distinct [] p = tt
pairs_distinct (m ∷ ms) p = (p.0, pairs_distinct ms p.1)

module _ (value : List ℕ) (es : List Entry) (earned : earns_yes value es ≡ true) where
  holds : All (λ b. b ≡ true) (conditions value es)
  unfolding earns_yes
  holds = every_all (λ b. b) (conditions value es) earned

  different : Distinct (map (λ (t : Timed). t.moment) (map timed_of es))
  different =
      let two = pairs_of _ (λ (e f : Entry). e.moment ≡ f.moment → ⊥) (λ e f z. eqb-false _ _ (not-true _ z)) es (two_each differ es holds.1.1.0) in
      subst Distinct (sym (map_map (λ (t : Timed). t.moment) timed_of es)) (pairs_distinct (map (λ (e : Entry). e.moment) es) (pairs_map (λ (e : Entry). e.moment) (λ m k. m ≡ k → ⊥) es two))

  within : All (Inside 1) (map timed_of es)
  within = all_map timed_of (Inside 1) es (all_of (λ e. inside e ≡ true) (λ e. Inside 1 (timed_of e)) one es (every_all inside es holds.1.1.1.0))
    where
      one : (e : Entry) → inside e ≡ true → Inside 1 (timed_of e)
      one e z = record {
        after_start = let x : e.start < e.moment = ltb-true _ _ (left (ltb e.start e.moment) _ z) in omega arith;
        by_answer = let x : e.moment ≤ e.answer = leb-true _ _ (right (ltb e.start e.moment) _ z) in omega arith;
      }

  linearized : Linearization 1 value (map call_of es)
  linearized = record {
    timed = map timed_of es;
    same_calls = map_map (λ (t : Timed). t.call) timed_of es;
    distinct = different;
    inside = within;
    served = equal_answers _ _ (right (every truth_told es) _ holds.1.1.1.1.0);
  }

pub yes_is_right : YesIsRight
unfolding linearized
yes_is_right n w value log e = (linearized value (entries w log) (yes_means n w value log e).1, refl)
