-- Every list of commands over the ghost machine is linearizable.
use mathlib.Core.List.{List, [], ◌∷◌, map}
use Prim.Native.Nat.{ℕ, suc, ◌≤◌, ◌<◌}
use lib.ListN.{length}
use Rattle.llsc.specs.Object.{fresh}
use Rattle.llsc.specs.Linearizable.{All, Timed, sort_into, Linearization}
use Rattle.linearization.proofs.GhostMachine.{State}
use Rattle.linearization.proofs.WordLists.{words_of}
use Rattle.serving.proofs.Serving.{Served}
use Rattle.serving.proofs.Sorting.{Sorted, all_append, sort_into_append}
use Rattle.serving.proofs.Moments.{Within, moments}
use Rattle.linearization.proofs.GhostRuns.{Cmd, exec, call_f, calls_f, setup}
use Rattle.linearization.proofs.GhostLog.{Good, exec_good, exec_within}
use Rattle.linearization.proofs.GhostSetUp.{setup_good}

-- calls in the order of their answers, each with a command number within it; in the order of these numbers the object serves them
pub record Linearized (value : List ℕ) (ts : List Timed) : Type 0 where
  pub sorted : Sorted (sort_into ts [])
  pub served : Served (fresh value) (sort_into ts [])
  pub within : All Within ts

module _ (N W : ℕ) where
  -- the log after a list of commands
  run_sorted : 0 < W → (v0 : List ℕ) (n : ℕ) (cs : List Cmd) (s : State) (log : List Timed) → Good N W v0 n s log
      → Sorted (sort_into (calls_f N W n cs s) log) × Served (fresh v0) (sort_into (calls_f N W n cs s) log)
  unfolding calls_f
  run_sorted h_w v0 n [] s log g = (g.logged.sorted, g.logged.served)
  run_sorted h_w v0 n (c ∷ cs) s log g =
      rw (sort_into_append (call_f N W n c s) (calls_f N W (suc n) cs (exec N W n c s)) log)
      (run_sorted h_w v0 (suc n) cs (exec N W n c s) (sort_into (call_f N W n c s) log) (exec_good N W h_w v0 n s log g c))

  run_within : 0 < W → (v0 : List ℕ) (n : ℕ) (cs : List Cmd) (s : State) (log : List Timed) → Good N W v0 n s log → All Within (calls_f N W n cs s)
  unfolding calls_f
  run_within h_w v0 n [] s log g = tt
  run_within h_w v0 n (c ∷ cs) s log g =
      all_append Within (call_f N W n c s) (calls_f N W (suc n) cs (exec N W n c s)) (exec_within N W h_w v0 n s log g c)
      (run_within h_w v0 (suc n) cs (exec N W n c s) (sort_into (call_f N W n c s) log) (exec_good N W h_w v0 n s log g c))

  pub linearizable : 0 < N → 0 < W → (v : ℕ → ℕ) (cs : List Cmd) → Linearized (words_of W v) (calls_f N W 1 cs (setup N W v))
  linearizable h_n h_w v cs =
      let g = setup_good N W v h_n in
      let r = run_sorted h_w (words_of W v) 1 cs (setup N W v) [] g in
      record { sorted = r.0; served = r.1; within = run_within h_w (words_of W v) 1 cs (setup N W v) [] g }

  -- THE THEOREM: with moments, as promise 3 states it
  pub linearization : 0 < N → 0 < W → (v : ℕ → ℕ) (cs : List Cmd) (places : ℕ) → length (calls_f N W 1 cs (setup N W v)) ≤ places
      → Linearization places (words_of W v) (map (λ (t : Timed). t.call) (calls_f N W 1 cs (setup N W v)))
  linearization h_n h_w v cs places h = let z = linearizable h_n h_w v cs in moments (words_of W v) (calls_f N W 1 cs (setup N W v)) z.served z.within places h
