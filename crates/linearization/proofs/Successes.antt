-- The successes of a history are those of the machine, and the words of the last one are its present value.
use mathlib.Core.Path.{◌≡◌, refl, sym, ap, ap₂, ◌∙◌}
use mathlib.Core.Bool.{Bool, true, false, cond}
use mathlib.Core.List.{List, [], ◌∷◌, ◌++◌, map}
use Prim.Native.Nat.{ℕ, suc, ◌+◌, ◌*◌, ◌%◌}
use native.Mathlib.Nat.{zero-add}
use native.Mathlib.Omega.{arith}
use lib.Dec.{ltb, eqb}
use Rattle.model.specs.Points.{Point, idle, line1, line2, line3, line4, line5, line6, line7, line7copy, line8, line9}
use Rattle.model.specs.Points.{line10, line11, line12, line12valid, line13, line14, line14valid, line15, line17, line18}
use Rattle.model.specs.Points.{line19, line23}
use Rattle.llsc.specs.Answers.{Answer, ll_words, sc_truth, vl_truth}
use Rattle.llsc.specs.Object.{Kind, ll, sc, vl}
use Rattle.llsc.specs.History.{Call}
use Rattle.llsc.specs.Linearizable.{Timed}
use Rattle.after_commands.specs.Changes.{succeeds, successes}
use Rattle.laws.proofs.Updates.{upd_same, by_test, by_test₂}
use Rattle.linearization.proofs.GhostMachine
use Rattle.linearization.proofs.GhostMachine.{Local, State}
use Rattle.linearization.proofs.WordLists.{words_of}
use Rattle.laws.proofs.ListFacts.{map_append}
use Rattle.linearization.proofs.GhostRuns.{Cmd, exec, starts, sc_call, call_at, call_f, calls_f}
use Rattle.linearization.proofs.PointFacts.{is_idle}
use Rattle.linearization.proofs.InvariantRuns.{execs}

-- the words that an answered call leaves written: a successful SC's own, else those before it
abbrev pub written : Kind → Answer → List ℕ → List ℕ
written ll a before = before
written vl a before = before
written (sc offered) (sc_truth true) before = offered
written (sc offered) (sc_truth false) before = before
written (sc offered) (ll_words ws) before = before
written (sc offered) (vl_truth t) before = before

-- the words of the last success of a history, or those before it
abbrev pub last_written : List ℕ → List Call → List ℕ
last_written before [] = before
last_written before (c ∷ cs) = last_written (written c.kind c.answer before) cs

-- the calls of timed calls
abbrev pub calls_of : List Timed → List Call
calls_of ts = map (λ (t : Timed). t.call) ts

pub successes_append : (cs ds : List Call) → successes (cs ++ ds) ≡ successes cs + successes ds
successes_append [] ds = sym (zero-add (successes ds))
successes_append (c ∷ cs) ds = let e = successes_append cs ds in omega arith

pub last_written_append : (v : List ℕ) (cs ds : List Call) → last_written v (cs ++ ds) ≡ last_written (last_written v cs) ds
last_written_append v [] ds = refl
last_written_append v (c ∷ cs) ds = last_written_append (written c.kind c.answer v) cs ds

-- from the state s to s' the calls ts were answered
pub record Wrote (W : ℕ) (s : State) (ts : List Timed) (s' : State) : Type 0 where
  pub number : successes (calls_of ts) + s.sh.successes ≡ s'.sh.successes
  pub words : last_written (words_of W (s.sh.values s.sh.successes)) (calls_of ts) ≡ words_of W (s'.sh.values s'.sh.successes)

-- nothing answered, and the shared ghosts as before
quiet_call : (W : ℕ) (s s' : State) → s'.sh.successes ≡ s.sh.successes → s'.sh.values ≡ s.sh.values → Wrote W s [] s'
quiet_call W s s' a b = record { number = zero-add s.sh.successes ∙ sym a; words = ap₂ (λ v i. words_of W (v i)) (sym b) (sym a) }

module _ (N W n p : ℕ) (s : State) where
  abbrev l : Local
  l = s.loc p

  -- an SC's last step: what it leaves where it succeeds, and where it fails
  abbrev next_seq : ℕ
  next_seq = suc l.copy_seq % (2 * N)

  abbrev done : State
  done = GhostMachine.noisy s p (GhostMachine.w_end p false n (GhostMachine.w_x l.mybuf next_seq l.offered n next_seq (2 * N + p) s.sh)) (GhostMachine.set_link_x false)
      (GhostMachine.rest l.answered (GhostMachine.set_mybuf l.e (GhostMachine.set_link_x false l)))

  abbrev failed : State
  failed = GhostMachine.noisy s p (GhostMachine.w_end p l.link_x n s.sh) (λ l. l) (GhostMachine.rest l.answered l)

  -- the number of successes and the words after it, by its truth
  abbrev number_by : Bool → ℕ
  number_by t = succeeds (sc_truth t) + 0 + s.sh.successes

  abbrev words_by : Bool → List ℕ
  words_by t = written (sc (words_of W l.offered)) (sc_truth t) (words_of W (s.sh.values s.sh.successes))

  success : (b : Bool) → l.link_x ≡ b → Wrote W s (sc_call N W n p s ∷ []) (cond b done failed)
  success true e = record {
    number = ap number_by e ∙ (let z : 1 + 0 + s.sh.successes ≡ suc s.sh.successes = omega arith in z);
    words = ap words_by e ∙ ap (words_of W) (sym (upd_same s.sh.values (suc s.sh.successes) l.offered));
  }
  success false e = record { number = ap number_by e ∙ (let z : 0 + 0 + s.sh.successes ≡ s.sh.successes = omega arith in z); words = ap words_by e }

  at_point : (y : Point) → Wrote W s (call_at N W y n p s) (GhostMachine.step_at N W y n p s)
  unfolding GhostMachine.step_at
  at_point idle = quiet_call W s _ refl refl
  at_point line1 = quiet_call W s _ refl refl
  at_point line2 = quiet_call W s _ refl refl
  at_point line3 = quiet_call W s _ refl refl
  at_point line4 = by_test (Wrote W s []) (s.sh.flag p) (λ _. quiet_call W s _ refl refl) (λ _. quiet_call W s _ refl refl)
  at_point line5 = quiet_call W s _ refl refl
  at_point line6 = quiet_call W s _ refl refl
  at_point line7 = by_test (Wrote W s []) l.link_x (λ _. quiet_call W s _ refl refl) (λ _. quiet_call W s _ refl refl)
  at_point line7copy = quiet_call W s _ refl refl
  at_point line8 = by_test (Wrote W s []) (s.sh.flag p) (λ _. quiet_call W s _ refl refl) (λ _. quiet_call W s _ refl refl)
  at_point line9 = by_test (Wrote W s []) (l.link_help p) (λ _. quiet_call W s _ refl refl) (λ _. quiet_call W s _ refl refl)
  at_point line10 = quiet_call W s _ refl refl
  at_point line11 =
      by_test₂ (λ (ts : List Timed) (u : State). Wrote W s ts u) (ltb (suc l.word) W)
      (λ _. quiet_call W s _ refl refl)
      (λ _. record { number = zero-add s.sh.successes; words = refl })
  at_point line12 = by_test (Wrote W s []) (eqb (s.sh.bank l.copy_seq) l.copy_buf) (λ _. quiet_call W s _ refl refl) (λ _. quiet_call W s _ refl refl)
  at_point line12valid = by_test (Wrote W s []) l.link_x (λ _. quiet_call W s _ refl refl) (λ _. quiet_call W s _ refl refl)
  at_point line13 = by_test (Wrote W s []) (l.link_bank l.copy_seq) (λ _. quiet_call W s _ refl refl) (λ _. quiet_call W s _ refl refl)
  at_point line14 = by_test (Wrote W s []) (s.sh.flag (l.copy_seq % N)) (λ _. quiet_call W s _ refl refl) (λ _. quiet_call W s _ refl refl)
  at_point line14valid = by_test (Wrote W s []) l.link_x (λ _. quiet_call W s _ refl refl) (λ _. quiet_call W s _ refl refl)
  at_point line15 = by_test (Wrote W s []) (l.link_help (l.copy_seq % N)) (λ _. quiet_call W s _ refl refl) (λ _. quiet_call W s _ refl refl)
  at_point line17 = quiet_call W s _ refl refl
  at_point line18 = quiet_call W s _ refl refl
  at_point line19 = success l.link_x refl
  at_point line23 = record { number = zero-add s.sh.successes; words = refl }

module _ (N W : ℕ) where
  started : (n p : ℕ) (y : Point) (w : ℕ → ℕ) (ok : Bool) (s : State) → Wrote W s [] (starts N W n p y w ok s)
  started n p y w ok s =
      let still : Wrote W s [] s = quiet_call W s s refl refl in
      by_test (Wrote W s []) (ltb p N)
      (λ _. by_test (Wrote W s []) (is_idle (s.loc p).point)
      (λ _. by_test (Wrote W s []) ok (λ _. quiet_call W s _ refl refl) (λ _. still))
      (λ _. still))
      (λ _. still)

  by_command : (n : ℕ) (c : Cmd) (s : State) → Wrote W s (call_f N W n c s) (exec N W n c s)
  unfolding call_f exec GhostMachine.step
  by_command n (Cmd.LL p) s = started n p line1 (s.loc p).offered true s
  by_command n (Cmd.VL p) s = started n p line23 (s.loc p).offered (s.loc p).answered s
  by_command n (Cmd.SC p w) s = started n p line12 w (s.loc p).answered s
  by_command n (Cmd.go p) s = by_test₂ (λ (ts : List Timed) (u : State). Wrote W s ts u) (ltb p N) (λ _. at_point N W n p s (s.loc p).point) (λ _. quiet_call W s s refl refl)

  -- one after the other
  then : (s t u : State) (now rest : List Timed) → Wrote W s now t → Wrote W t rest u → Wrote W s (now ++ rest) u
  then s t u now rest a b = record {
    number = ap (λ cs. successes cs + s.sh.successes) both
        ∙ ap (λ k. k + s.sh.successes) (successes_append (calls_of now) (calls_of rest))
        ∙ (let x = a.number in let y = b.number in omega arith);
    words = ap (last_written _) both ∙ last_written_append _ (calls_of now) (calls_of rest) ∙ ap (λ v. last_written v (calls_of rest)) a.words ∙ b.words;
  }
    where
      both : calls_of (now ++ rest) ≡ calls_of now ++ calls_of rest
      both = map_append (λ (t : Timed). t.call) now rest

  -- over every list of commands
  pub all_wrote : (n : ℕ) (cs : List Cmd) (s : State) → Wrote W s (calls_f N W n cs s) (execs N W n cs s)
  unfolding calls_f
  all_wrote n [] s = quiet_call W s s refl refl
  all_wrote n (c ∷ cs) s = then s _ _ _ _ (by_command n c s) (all_wrote (suc n) cs (exec N W n c s))
