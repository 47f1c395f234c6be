-- After a WLL that named a process no SC or VL is true, within the bound.
use mathlib.Core.Path.{◌≡◌, refl, sym, ◌∙◌}
use mathlib.Core.Bool.{true}
use mathlib.Core.List.{List, [], ◌∷◌}
use Prim.Native.Nat.{ℕ, suc, ◌+◌}
use native.Mathlib.Omega.{arith}
use lib.Dec.{ltb, eqb}
use borrow.Author.Tests.{eqb-true}
use Rattle.llsc.specs.Linearizable.{All}
use Rattle.laws.proofs.Updates.{by_test, contra}
use Rattle.moir_model.specs.Points.{Point, idle, ll10, ll2, ll4, ll5, ll6, ll7, sc14, sc17, sc19, sc2, sc4, sc5, sc6, sc7, vl13}
use Rattle.moir_model.specs.History.{Known, open_of}
use Rattle.moir_linearization.specs.Linearizable.{Served, FalseAfterNaming}
use Rattle.moir_linearization.proofs.PointRanges.{busy}
use Rattle.moir_linearization.proofs.GhostMachine.{Local, Shared, State, eq_pair}
use Rattle.moir_linearization.proofs.GhostHistories.{answer_at, sc_call}
use Rattle.moir_linearization.proofs.Numbers.{ProcessNumbers, SharedNumbers}
use Rattle.moir_linearization.proofs.Contents.{ProcessContents}
use Rattle.moir_linearization.proofs.TagLemmas.{keep_vl13}
use Rattle.moir_linearization.proofs.StepShape.{Few}
use Rattle.moir_linearization.proofs.Watching.{slot_of, called}

module _ (M W : ℕ) where
  module _ (m : ℕ) (s : State) (p : ℕ) (k : Known) (num : SharedNumbers M W (suc m) s.sh) (named_is : k.named ≡ (s.loc p).named) where
    abbrev l : Local
    l = s.loc p

    abbrev h : Shared
    h = s.sh

    abbrev n : ℕ
    n = suc m

    abbrev Falses : List Served → Type 0
    Falses zs = All (λ z. FalseAfterNaming (called k (l.count + 1) z)) zs

    pub falses_at : (y : Point) → (busy y ≡ true → Few M W n s p) → ProcessNumbers M W n y h p l → ProcessContents M W n y h p l → Falses (answer_at W y n p s)
    falses_at idle few a b = tt
    falses_at ll10 few a b = tt
    falses_at ll2 few a b = tt
    falses_at ll4 few a b = tt
    falses_at ll5 few a b = tt
    falses_at ll6 few a b = tt
    falses_at ll7 few a b =
        by_test Falses (eq_pair h.tag h.pid l.x_tag l.x_pid)
        (λ _. by_test Falses (ltb (suc l.word) W) (λ _. tt) (λ _. ((λ _ t. t), tt))) (λ _. ((λ _ t. t), tt))
    falses_at sc14 few a b = by_test Falses (eqb h.tag l.keep) (λ _. tt) (λ _. ((λ _ t. contra t refl), tt))
    falses_at sc17 few a b = tt
    falses_at sc19 few a b = by_test Falses (eq_pair h.tag h.pid l.old_tag l.old_pid) (λ _. tt) (λ _. ((λ _ t. contra t refl), tt))
    falses_at sc2 few a b = tt
    falses_at sc4 few a b = tt
    falses_at sc5 few a b = tt
    falses_at sc6 few a b = tt
    falses_at sc7 few a b =
        let z : Falses (sc_call W p true n l ∷ []) = ((λ e _. contra e (named_is ∙ b.unnamed)), tt) in
        by_test Falses (eq_pair h.tag h.pid l.new_tag l.new_pid) (λ _. by_test Falses (ltb (suc l.word) W) (λ _. tt) (λ _. z)) (λ _. z)
    falses_at vl13 few a b =
        ((λ e t. let r = keep_vl13 M W n h p l num (few refl) a (eqb-true _ _ t) in let o = a.named_old (sym named_is ∙ e) in omega arith), tt)

  -- nor an open SC
  pub opens_false : (n : ℕ) (y : Point) (q : ℕ) (k : Known) (h : Shared) (l : Local) (d : ℕ) → k.named ≡ l.named
      → ProcessContents M W n y h q l → All FalseAfterNaming (open_of q k (slot_of W y l d))
  opens_false n idle q k h l d e b = tt
  opens_false n ll10 q k h l d e b = ((λ _ t. contra t refl), tt)
  opens_false n ll2 q k h l d e b = ((λ _ t. contra t refl), tt)
  opens_false n ll4 q k h l d e b = ((λ _ t. contra t refl), tt)
  opens_false n ll5 q k h l d e b = ((λ _ t. contra t refl), tt)
  opens_false n ll6 q k h l d e b = ((λ _ t. contra t refl), tt)
  opens_false n ll7 q k h l d e b = ((λ _ t. contra t refl), tt)
  opens_false n sc14 q k h l d e b = ((λ _ t. contra t refl), tt)
  opens_false n sc17 q k h l d e b = ((λ _ t. contra t refl), tt)
  opens_false n sc19 q k h l d e b = ((λ _ t. contra t refl), tt)
  opens_false n sc2 q k h l d e b = ((λ f _. contra f (e ∙ b.unnamed)), tt)
  opens_false n sc4 q k h l d e b = ((λ f _. contra f (e ∙ b.unnamed)), tt)
  opens_false n sc5 q k h l d e b = ((λ f _. contra f (e ∙ b.unnamed)), tt)
  opens_false n sc6 q k h l d e b = ((λ f _. contra f (e ∙ b.unnamed)), tt)
  opens_false n sc7 q k h l d e b = ((λ f _. contra f (e ∙ b.unnamed)), tt)
  opens_false n vl13 q k h l d e b = ((λ _ t. contra t refl), tt)
