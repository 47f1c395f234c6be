-- The calls that are fed, in the order of their answers, and then the open SCs whose header CAS has succeeded.
use mathlib.Core.Bool.{Bool, true, false, cond}
use mathlib.Core.List.{List, [], ◌∷◌, ◌++◌}
use Prim.Native.Nat.{ℕ, zero, suc, ◌≤◌, ◌<◌}
use lib.Dec.{ltb, eqb}
use lib.ListN.{length}
use Rattle.llsc.specs.Object.{ll, sc, vl}
use Rattle.laws.proofs.Updates.{upd}
use Rattle.laws.proofs.Parts.{tab}
use Rattle.moir_model.specs.Points.{Point, idle, ll10, ll2, ll4, ll5, ll6, ll7, sc14, sc17, sc19, sc2, sc4, sc5, sc6, sc7, vl13}
use Rattle.moir_linearization.proofs.GhostMachine.{Local, State, eq_pair}
use Rattle.moir_linearization.proofs.GhostRuns.{Cmd, WLL, VL, SC, go, exec, is_step, BoundedRun, set_up}
use Rattle.moir_model.specs.Replies.{words, names, sc_truth, vl_truth}
use Rattle.moir_linearization.specs.Linearizable.{Served, Linearizable}
use Rattle.moir_linearization.proofs.PointRanges.{copying}

abbrev pub sc_call : ℕ → ℕ → Bool → ℕ → Local → Served
sc_call W p b e l = record { process = p; kind = sc (tab W l.offered); start = l.start; end = e; answer = sc_truth b }

module _ (W : ℕ) where
  -- the call that a step of p at point y answers, as command number n
  abbrev pub answer_at : Point → ℕ → ℕ → State → List Served
  answer_at idle n p s = []
  answer_at ll10 n p s = []
  answer_at ll2 n p s = []
  answer_at ll4 n p s = []
  answer_at ll5 n p s = []
  answer_at ll6 n p s = []
  answer_at ll7 n p s =
      cond (eq_pair s.sh.tag s.sh.pid (s.loc p).x_tag (s.loc p).x_pid)
      (cond (ltb (suc (s.loc p).word) W) []
      (record {
        process = p;
        kind = ll;
        start = (s.loc p).start;
        end = n;
        answer = words (tab W (upd (s.loc p).returned (s.loc p).word (s.loc p).y_val));
      } ∷ []))
      (record { process = p; kind = ll; start = (s.loc p).start; end = n; answer = names s.sh.pid } ∷ [])
  answer_at sc14 n p s = cond (eqb s.sh.tag (s.loc p).keep) [] (sc_call W p false n (s.loc p) ∷ [])
  answer_at sc17 n p s = []
  answer_at sc19 n p s = cond (eq_pair s.sh.tag s.sh.pid (s.loc p).old_tag (s.loc p).old_pid) [] (sc_call W p false n (s.loc p) ∷ [])
  answer_at sc2 n p s = []
  answer_at sc4 n p s = []
  answer_at sc5 n p s = []
  answer_at sc6 n p s = []
  answer_at sc7 n p s =
      cond (eq_pair s.sh.tag s.sh.pid (s.loc p).new_tag (s.loc p).new_pid)
      (cond (ltb (suc (s.loc p).word) W) [] (sc_call W p true n (s.loc p) ∷ []))
      (sc_call W p true n (s.loc p) ∷ [])
  answer_at vl13 n p s = record { process = p; kind = vl; start = (s.loc p).start; end = n; answer = vl_truth (eqb s.sh.tag (s.loc p).keep) } ∷ []

  -- for each of the first m processes
  abbrev pub concat : ℕ → (ℕ → List Served) → List Served
  concat zero f = []
  concat (suc m) f = concat m f ++ f m

  -- an open SC whose header CAS has succeeded, with the number of its last step
  abbrev pub open_call : State → (ℕ → ℕ) → ℕ → List Served
  open_call s last q = cond (copying (s.loc q).point) (sc_call W q true (last q) (s.loc q) ∷ []) []

-- the numbers of the processes' last steps, after command number n
abbrev pub last_by : ℕ → Cmd → (ℕ → ℕ) → ℕ → ℕ
last_by n c last q = cond (is_step q c) n (last q)

module _ (N M W : ℕ) where
  unfoldable pub answer_of : ℕ → Cmd → State → List Served
  answer_of n (WLL p) s = []
  answer_of n (VL p) s = []
  answer_of n (SC p w f) s = []
  answer_of n (go p) s = cond (ltb p N) (answer_at W (s.loc p).point n p s) []

  unfoldable pub fed_from : ℕ → List Cmd → State → (ℕ → ℕ) → List Served
  fed_from n [] s last = concat W N (open_call W s last)
  fed_from n (c ∷ cs) s last = answer_of n c s ++ fed_from (suc n) cs (exec N M W n c s) (last_by n c last)

  abbrev pub fed_calls : (ℕ → ℕ) → List Cmd → List Served
  fed_calls v cs = fed_from 1 cs (set_up v) (λ q. 0)

-- the order statement over the calls in the order of their answers
abbrev pub AnswerOrder : Type 0
AnswerOrder =
    (N M W : ℕ) → 0 < W → (v : ℕ → ℕ) (cs : List Cmd) → BoundedRun N M W 1 cs (set_up v) → (places : ℕ) → length (fed_calls N M W v cs) ≤ places
    → Linearizable places (tab W v) (fed_calls N M W v cs)
