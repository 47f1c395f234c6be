-- Commands over the machine, CR 8's bound along a list of them, and the calls that Figure 1's object is fed.
use mathlib.Core.Path.{◌≡◌}
use mathlib.Core.Bool.{Bool, true, false, cond}
use mathlib.Core.List.{List, [], ◌∷◌, ◌++◌, map}
use Prim.Native.Nat.{ℕ, suc, ◌≤◌, ◌<◌}
use lib.Dec.{ltb, eqb}
use lib.ListN.{length}
use Rattle.llsc.specs.Object.{Kind, ll, sc, vl}
use Rattle.laws.proofs.Updates.{upd}
use Rattle.laws.proofs.Parts.{tab}
use Rattle.moir_model.specs.Points.{Point, idle, ll10, ll2, ll4, ll5, ll6, ll7, sc14, sc17, sc19, sc2, sc4, sc5, sc6, sc7, vl13}
use Rattle.moir_model.specs.Replies.{Answer, words, names, sc_truth, vl_truth}
use Rattle.moir_linearization.specs.Linearizable.{Served, Linearizable}
use Rattle.moir_linearization.proofs.PointRanges.{is_idle, busy, copying}
use Rattle.moir_linearization.proofs.GhostMachine.{Local, State, noisy, begin, eq_pair, step, Bounded}

-- a start of WLL, of VL, a step, and a start of SC with its words and whether they are W words (row 8)
pub data Cmd : Type 0 where
  WLL VL go : ℕ → Cmd
  SC : ℕ → (ℕ → ℕ) → Bool → Cmd

-- a call that the object is fed, and the number of the command at which it takes effect
pub record Effect : Type 0 where
  pub call : Served
  pub at : ℕ

abbrev pub is_step : ℕ → Cmd → Bool
is_step p (WLL q) = false
is_step p (VL q) = false
is_step p (SC q w f) = false
is_step p (go q) = eqb q p

-- the open call of p, with the last step's number e
abbrev pub call_effect : Kind → Answer → ℕ → ℕ → ℕ → State → Effect
call_effect f a k e p s = record {
  call = record { process = p; kind = f; start = (s.loc p).start; end = e; answer = a };
  at = k;
}

module _ (W : ℕ) where
  abbrev pub ll_effect : Answer → ℕ → ℕ → ℕ → State → Effect
  ll_effect = call_effect ll

  abbrev pub sc_effect : Bool → ℕ → ℕ → ℕ → State → Effect
  sc_effect b k e p s = call_effect (sc (tab W (s.loc p).offered)) (sc_truth b) k e p s

  abbrev pub vl_effect : Bool → ℕ → ℕ → ℕ → State → Effect
  vl_effect b = call_effect vl (vl_truth b)

  -- the call that a step of p at point y makes known: an SC's at its header CAS if it succeeds, e being its last step; every other one's at its answer
  abbrev pub effect_at : Point → ℕ → ℕ → ℕ → State → List Effect
  effect_at idle n e p s = []
  effect_at ll10 n e p s = []
  effect_at ll2 n e p s = []
  effect_at ll4 n e p s = []
  effect_at ll5 n e p s = []
  effect_at ll6 n e p s = []
  effect_at ll7 n e p s =
      cond (eq_pair s.sh.tag s.sh.pid (s.loc p).x_tag (s.loc p).x_pid)
      (cond (ltb (suc (s.loc p).word) W) [] (ll_effect (words (tab W (upd (s.loc p).returned (s.loc p).word (s.loc p).y_val))) n n p s ∷ []))
      (ll_effect (names s.sh.pid) (s.loc p).key n p s ∷ [])
  effect_at sc14 n e p s = cond (eqb s.sh.tag (s.loc p).keep) [] (sc_effect false n n p s ∷ [])
  effect_at sc17 n e p s = []
  effect_at sc19 n e p s = cond (eq_pair s.sh.tag s.sh.pid (s.loc p).old_tag (s.loc p).old_pid) (sc_effect true n e p s ∷ []) (sc_effect false n n p s ∷ [])
  effect_at sc2 n e p s = []
  effect_at sc4 n e p s = []
  effect_at sc5 n e p s = []
  effect_at sc6 n e p s = []
  effect_at sc7 n e p s = []
  effect_at vl13 n e p s = vl_effect (eqb s.sh.tag (s.loc p).keep) n n p s ∷ []

-- the number of the command after a list
abbrev pub number_after : ℕ → List Cmd → ℕ
number_after n [] = n
number_after n (c ∷ cs) = number_after (suc n) cs

module _ (N M W : ℕ) where
  abbrev pub started : ℕ → ℕ → Point → ℕ → (ℕ → ℕ) → State → State
  started n p y v w s = noisy s p s.sh (begin y n v w (s.loc p))

  -- a start, by rows 4, 8, 5 and 7: f says whether its words are W words, ok whether it needs no WLL or had one
  abbrev pub starts : ℕ → ℕ → Point → ℕ → (ℕ → ℕ) → Bool → Bool → State → State
  starts n p y v w f ok s = cond (ltb p N) (cond f (cond (is_idle (s.loc p).point) (cond ok (started n p y v w s) s) s) s) s

  -- command number n
  unfoldable pub exec : ℕ → Cmd → State → State
  exec n (WLL p) s = starts n p ll10 s.sh.successes (s.loc p).offered true true s
  exec n (VL p) s = starts n p vl13 (s.loc p).start_version (s.loc p).offered true (s.loc p).mark s
  exec n (SC p w f) s = starts n p sc14 (s.loc p).start_version w f (s.loc p).mark s
  exec n (go p) s = cond (ltb p N) (step M W n p s) s

  abbrev pub execs : ℕ → List Cmd → State → State
  execs n [] s = s
  execs n (c ∷ cs) s = execs (suc n) cs (exec n c s)

  -- the bound at each accepted step
  abbrev pub BoundedAt : ℕ → Cmd → State → Type 0
  BoundedAt n (WLL p) s = Unit {0}
  BoundedAt n (VL p) s = Unit {0}
  BoundedAt n (SC p w f) s = Unit {0}
  BoundedAt n (go p) s = p < N → busy (s.loc p).point ≡ true → Bounded M W n p s

  abbrev pub BoundedRun : ℕ → List Cmd → State → Type 0
  BoundedRun n [] s = Unit {0}
  BoundedRun n (c ∷ cs) s = BoundedAt n c s × BoundedRun (suc n) cs (exec n c s)

  -- the number of the last step of p's SC, now in its Copy, among the commands from number n on; d if there is none
  unfoldable pub latest_step : ℕ → ℕ → List Cmd → State → ℕ → ℕ
  latest_step p n [] s d = d
  latest_step p n (c ∷ cs) s d = cond (copying (s.loc p).point) (latest_step p (suc n) cs (exec n c s) (cond (is_step p c) n d)) d

  -- command number n, with the commands that follow it
  unfoldable pub effect_of : ℕ → Cmd → List Cmd → State → List Effect
  effect_of n (WLL p) cs s = []
  effect_of n (VL p) cs s = []
  effect_of n (SC p w f) cs s = []
  effect_of n (go p) cs s = cond (ltb p N) (effect_at W (s.loc p).point n (latest_step p (suc n) cs (exec n (go p) s) n) p s) []

  -- the calls that are fed, in the order in which they become known: the answered ones, and the open SCs that have succeeded, as true at their last step
  unfoldable pub effects : ℕ → List Cmd → State → List Effect
  effects n [] s = []
  effects n (c ∷ cs) s = effect_of n c cs s ++ effects (suc n) cs (exec n c s)

-- the set-up
abbrev pub loc0 : Local
loc0 = record {
  point = idle;
  word = 0;
  count = 0;
  mark = false;
  keep = 0;
  x_tag = 0;
  x_pid = 0;
  old_tag = 0;
  old_pid = 0;
  new_tag = 0;
  new_pid = 0;
  h_tag = 0;
  h_pid = 0;
  y_tag = 0;
  y_val = 0;
  z_tag = 0;
  z_val = 0;
  returned = λ k. 0;
  offered = λ k. 0;
  start_version = 0;
  read_version = 0;
  start = 0;
  key = 0;
  named = false;
}

abbrev pub set_up : (ℕ → ℕ) → State
set_up v = record {
  sh = record {
    tag = 0;
    pid = 0;
    seg_tag = λ k. 0;
    seg_val = v;
    rows = upd (λ q k. 0) 0 v;
    successes = 0;
    value = v;
    won_at = 0;
  };
  loc = λ p. loc0;
}

-- the order statement over the calls in the order in which they become known
abbrev pub MoirOrder : Type 0
MoirOrder =
    (N M W : ℕ) → 0 < W → (v : ℕ → ℕ) (cs : List Cmd) → BoundedRun N M W 1 cs (set_up v) →
    (places : ℕ) → length (effects N M W 1 cs (set_up v)) ≤ places →
    Linearizable places (tab W v) (map (λ (e : Effect). e.call) (effects N M W 1 cs (set_up v)))
