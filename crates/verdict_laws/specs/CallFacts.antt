-- What the yes-lemma asks of a list of answered calls, beside a linearization.
use Rattle.std.specs.Prelude.{◌≡◌, Bool, true, false, List, ℕ, ◌<◌, length}
use Rattle.llsc.specs.Answers.{Answer, ll_words, sc_truth, vl_truth}
use Rattle.llsc.specs.Object.{Kind, ll, sc, vl}
use Rattle.llsc.specs.History.{Call}
use Rattle.llsc.specs.Linearizable.{All}
use Rattle.laws.specs.Lists.{Any, Pairs}

-- an answer of the call's kind, and W words where it has words
abbrev pub Formed : ℕ → Kind → Answer → Type 0
Formed w ll (ll_words v) = length v ≡ w
Formed w ll (sc_truth t) = ⊥
Formed w ll (vl_truth t) = ⊥
Formed w (sc offered) (ll_words v) = ⊥
Formed w (sc offered) (sc_truth t) = length offered ≡ w
Formed w (sc offered) (vl_truth t) = ⊥
Formed w vl (ll_words v) = ⊥
Formed w vl (sc_truth t) = ⊥
Formed w vl (vl_truth t) = Unit {0}

pub record WellFormed (n w : ℕ) (c : Call) : Type 0 where
  pub process : c.process < n
  pub formed : Formed w c.kind c.answer

-- calls of one process do not overlap: the later in the list starts after the answer of the earlier
abbrev pub Follows : Call → Call → Type 0
Follows c d = c.process ≡ d.process → c.end < d.start

abbrev pub InTurn : List Call → Type 0
InTurn cs = Pairs Follows cs

-- the kinds that need an LL before them
abbrev pub needs_ll : Kind → Bool
needs_ll ll = false
needs_ll (sc offered) = true
needs_ll vl = true

-- d is an LL of c's process that was answered before c started
pub record Leads (c d : Call) : Type 0 where
  pub process : d.process ≡ c.process
  pub is_ll_is : needs_ll d.kind ≡ false
  pub answered : d.end < c.start

-- each SC or VL has an earlier answered LL of its process
abbrev pub Led : List Call → Type 0
Led cs = All (λ c. needs_ll c.kind ≡ true → Any (Leads c) cs) cs

pub record Loggable (n w : ℕ) (cs : List Call) : Type 0 where
  pub formed : All (WellFormed n w) cs
  pub in_turn : InTurn cs
  pub led : Led cs
