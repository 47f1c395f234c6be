-- Commands over the ghost machine, the calls that they answer, and the set-up.
use mathlib.Core.Bool.{Bool, true, false, cond}
use mathlib.Core.List.{List, [], ◌∷◌, ◌++◌}
use Prim.Native.Nat.{ℕ, suc, ◌+◌, ◌*◌}
use lib.Dec.{ltb, eqb}
use Rattle.model.specs.Points.{Point, idle, line1, line2, line3, line4, line5, line6, line7, line7copy, line8, line9}
use Rattle.model.specs.Points.{line10, line11, line12, line12valid, line13, line14, line14valid, line15, line17, line18}
use Rattle.model.specs.Points.{line19, line23}
use Rattle.llsc.specs.Answers.{Answer, ll_words, sc_truth, vl_truth}
use Rattle.llsc.specs.Object.{Kind, ll, sc, vl}
use Rattle.llsc.specs.History.{Call}
use Rattle.llsc.specs.Linearizable.{Timed}
use Rattle.linearization.proofs.PointFacts.{is_idle}
use Rattle.linearization.proofs.GhostMachine.{Local, Shared, State, noisy, step, w_start, begin}
use Rattle.linearization.proofs.WordLists.{words_of}

-- a start of LL, of VL, a step, and a start of SC with its words
pub data Cmd : Type 0 where
  LL VL go : ℕ → Cmd
  SC : ℕ → (ℕ → ℕ) → Cmd

module _ (N W : ℕ) where
  abbrev pub starts : ℕ → ℕ → Point → (ℕ → ℕ) → Bool → State → State
  starts n p y w ok s = cond (ltb p N) (cond (is_idle (s.loc p).point) (cond ok (noisy s p (w_start p n s.sh) (λ l. l) (begin y w (s.loc p))) s) s) s

  -- command number n
  unfoldable pub exec : ℕ → Cmd → State → State
  exec n (LL p) s = starts n p line1 (s.loc p).offered true s
  exec n (VL p) s = starts n p line23 (s.loc p).offered (s.loc p).answered s
  exec n (SC p w) s = starts n p line12 w (s.loc p).answered s
  exec n (go p) s = cond (ltb p N) (step N W n p s) s

  -- the answered calls of p, each with the number of the command at which it takes effect
  abbrev pub ended_call : Kind → Answer → ℕ → ℕ → State → Call
  ended_call k a n p s = record { process = p; kind = k; start = s.sh.start p; end = n; steps = (s.loc p).count + 1; answer = a; count = (s.loc p).count + 1 }

  abbrev pub ll_call : ℕ → ℕ → State → Timed
  ll_call n p s = record { call = ended_call ll (ll_words (words_of W (s.loc p).returned)) n p s; moment = (s.loc p).moment }

  abbrev pub sc_call : ℕ → ℕ → State → Timed
  sc_call n p s = record { call = ended_call (sc (words_of W (s.loc p).offered)) (sc_truth (s.loc p).link_x) n p s; moment = n }

  abbrev pub vl_call : ℕ → ℕ → State → Timed
  vl_call n p s = record { call = ended_call vl (vl_truth (s.loc p).link_x) n p s; moment = n }

  -- what the step at a line answers
  abbrev pub call_at : Point → ℕ → ℕ → State → List Timed
  call_at idle n p s = []
  call_at line1 n p s = []
  call_at line2 n p s = []
  call_at line3 n p s = []
  call_at line4 n p s = []
  call_at line5 n p s = []
  call_at line6 n p s = []
  call_at line7 n p s = []
  call_at line7copy n p s = []
  call_at line8 n p s = []
  call_at line9 n p s = []
  call_at line10 n p s = []
  call_at line11 n p s = cond (ltb (suc (s.loc p).word) W) [] (ll_call n p s ∷ [])
  call_at line12 n p s = []
  call_at line12valid n p s = []
  call_at line13 n p s = []
  call_at line14 n p s = []
  call_at line14valid n p s = []
  call_at line15 n p s = []
  call_at line17 n p s = []
  call_at line18 n p s = []
  call_at line19 n p s = sc_call n p s ∷ []
  call_at line23 n p s = vl_call n p s ∷ []

  -- what a command answers
  unfoldable pub call_f : ℕ → Cmd → State → List Timed
  call_f n (LL p) s = []
  call_f n (VL p) s = []
  call_f n (SC p w) s = []
  call_f n (go p) s = cond (ltb p N) (call_at (s.loc p).point n p s) []

  -- the answered calls of a list of commands, in the order of their answers
  unfoldable pub calls_f : ℕ → List Cmd → State → List Timed
  calls_f n [] s = []
  calls_f n (c ∷ cs) s = call_f n c s ++ calls_f (suc n) cs (exec n c s)

  -- the set-up
  abbrev pub loc0 : ℕ → Local
  loc0 p = record {
    point = idle;
    word = 0;
    count = 0;
    answered = false;
    mybuf = 2 * N + p;
    copy_buf = 0;
    copy_seq = 0;
    b = 0;
    c = 0;
    d = 0;
    e = 0;
    link_x = false;
    link_bank = λ i. false;
    link_help = λ i. false;
    returned = λ i. 0;
    offered = λ i. 0;
    read_version = 0;
    read_at = 0;
    checked_at = 0;
    moment = 0;
    version = 0;
  }

  abbrev pub sh0 : (ℕ → ℕ) → Shared
  sh0 v = record {
    xbuf = 0;
    xseq = 0;
    bank = λ j. j;
    flag = λ p. false;
    help_buf = λ p. 0;
    buf = λ b. cond (eqb b 0) v (λ w. 0);
    successes = 0;
    values = λ i. v;
    buffers = λ i. 0;
    won_at = λ i. 0;
    holders = λ j. j;
    asked = λ p. 0;
    start = λ p. 0;
    help_version = λ p. 0;
    help_moment = λ p. 0;
    served_link = λ p. false;
    last_moment = λ p. 0;
  }

  abbrev pub setup : (ℕ → ℕ) → State
  setup v = record { sh = sh0 v; loc = loc0 }
