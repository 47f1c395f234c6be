-- The changes of X are the successes: each success writes the next sequence number, and nothing else writes X.
use mathlib.Core.Path.{◌≡◌, refl, sym, ap, ap₂, ◌∙◌}
use mathlib.Core.Bool.{Bool, true, false, ◌&&◌, cond}
use mathlib.Core.List.{List, [], ◌∷◌, map}
use Prim.Native.Nat.{ℕ, suc, ◌+◌, ◌*◌, ◌%◌, ◌<◌}
use native.Mathlib.Nat.{zero-add}
use native.Mathlib.Omega.{arith}
use lib.Dec.{eqb}
use borrow.Author.Tests.{eq-eqb, ne_eqb}
use Rattle.model.specs.declared.XContent.{XContent}
use Rattle.model.specs.Sizes.{halves}
use Rattle.model.specs.Machine.{Memory}
use Rattle.llsc.specs.History.{Command}
use Rattle.model.specs.History.{next}
use Rattle.after_commands.specs.Changes.{same_content, changes, successes, ChangesAreSuccesses}
use Rattle.laws.proofs.Residues.{suc_mod_ne}
use Rattle.linearization.proofs.GhostMachine.{State}
use Rattle.linearization.proofs.GhostRuns.{exec, setup}
use Rattle.linearization.proofs.InvariantRuns.{execs}
use Rattle.linearization.proofs.Retention.{OnX, left_alone, succeeded, exec_on_x}
use Rattle.linearization.proofs.Successes.{all_wrote}
use Rattle.linearization.proofs.WordLists.{cells}
use Rattle.linearization.proofs.SetUpSimulation.{set_up_halves}
use Rattle.linearization.proofs.Outcome.{to_f}
use Rattle.linearization.proofs.CommandRuns.{Holds, holds_after, set_up_holds}
use Rattle.linearization.proofs.PromiseThree.{same_calls}

-- the test of two contents
same_content_lem : (a b : XContent) → a.buf.0 ≡ b.buf.0 → a.seq.0 ≡ b.seq.0 → same_content a b ≡ true
same_content_lem a b e f = ap₂ ◌&&◌ (eq-eqb a.buf.0 b.buf.0 e) (eq-eqb a.seq.0 b.seq.0 f)

other_content : (a b : XContent) → (a.seq.0 ≡ b.seq.0 → ⊥) → same_content a b ≡ false
other_content a b ne = ap (λ t. eqb a.buf.0 b.buf.0 && t) (ne_eqb a.seq.0 b.seq.0 ne) ∙ both (eqb a.buf.0 b.buf.0)
  where
    both : (t : Bool) → (t && false) ≡ false
    both true = refl
    both false = refl

module _ (N W : ℕ) (h_w : 0 < halves W) where
  -- one command: X's content differs exactly where a success came
  module _ (n : ℕ) (m : Memory) (z : State) (h : Holds N W h_w n m z) (c : Command) where
    abbrev z' : State
    z' = exec N (halves W) n (to_f N W c) z

    h' : Holds N W h_w (suc n) (next m c) z'
    h' = holds_after N W h_w n m z h c

    abbrev before : XContent
    before = m.bench.x.content

    abbrev behind : XContent
    behind = (next m c).bench.x.content

    by_success : OnX z z' → cond (same_content before behind) 0 1 + z.sh.successes ≡ z'.sh.successes
    by_success (left_alone e) =
        let x = h.related.places.x in let x' = h'.related.places.x in
        let t = same_content_lem before behind (x.buf ∙ sym (ap (λ p. p.0) e) ∙ sym x'.buf) (x.seq ∙ sym (ap (λ p. p.1) e) ∙ sym x'.seq) in
        ap (λ b. cond b 0 1 + z.sh.successes) t ∙ zero-add z.sh.successes ∙ sym (ap (λ p. p.2) e)
    by_success (succeeded b v k e f) =
        let low = h.related.sizes.n_low in
        let s = h.related.places.x.seq ∙ h.inv.all.x_seq in
        let s' = h'.related.places.x.seq ∙ h'.inv.all.x_seq ∙ ap (λ i. i % (2 * N)) k in
        let t = other_content before behind (λ q. suc_mod_ne (2 * N) z.sh.successes (omega arith) (sym s' ∙ sym q ∙ s)) in
        ap (λ b. cond b 0 1 + z.sh.successes) t ∙ (let y : 1 + z.sh.successes ≡ suc z.sh.successes = omega arith in y) ∙ sym k

    changed_once : cond (same_content before behind) 0 1 + z.sh.successes ≡ z'.sh.successes
    changed_once = by_success (exec_on_x N (halves W) n z (to_f N W c))

  -- every list
  pub changes_along : (cs : List Command) (n : ℕ) (m : Memory) (z : State) → Holds N W h_w n m z
      → changes m cs + z.sh.successes ≡ (execs N (halves W) n (map (to_f N W) cs) z).sh.successes
  unfolding changes
  changes_along [] n m z h = zero-add z.sh.successes
  changes_along (c ∷ cs) n m z h =
      let a = changed_once n m z h c in
      let b = changes_along cs (suc n) (next m c) (exec N (halves W) n (to_f N W c) z) (holds_after N W h_w n m z h c) in omega arith

pub changes_are_successes : ChangesAreSuccesses
changes_are_successes m shaped n w value cs e =
    let h_w = set_up_halves m n w value e in
    let begin : State = setup n (halves w) (cells value) in
    let a = changes_along n w h_w cs 1 _ begin (set_up_holds m shaped n w value e h_w) in
    let b = (all_wrote n (halves w) 1 (map (to_f n w) cs) begin).number in
    let c = ap successes (same_calls m shaped n w value cs e) in omega arith
