-- CR 8's order statement, over every list of commands on the machine with its ghosts.
use mathlib.Core.Path.{◌≡◌, refl, ap}
use mathlib.Core.List.{List, [], ◌∷◌, map}
use Prim.Native.Nat.{ℕ, suc}
use native.Mathlib.Omega.{arith}
use lib.ListN.{length}
use Rattle.llsc.specs.Linearizable.{All, Timed, insert}
use Rattle.laws.proofs.Parts.{tab}
use Rattle.serving.proofs.Moments.{Within, moments}
use Rattle.moir_model.specs.Replies.{Answer, words, names, sc_truth, vl_truth}
use Rattle.moir_linearization.proofs.GhostRuns.{Effect, effects, set_up, MoirOrder}
use Rattle.moir_linearization.specs.Linearizable.{Fits, AllMatch}
use Rattle.moir_linearization.proofs.Filling.{filled_answer, placed, fill_all}
use Rattle.moir_linearization.proofs.LogRuns.{InCall, run_served, run_in_call, setup_good}

fits : (v : List ℕ) (a : Answer) → Fits a (filled_answer v a)
fits v (words w) = refl
fits v (names q) = tt
fits v (sc_truth b) = refl
fits v (vl_truth b) = refl

fill_matches : (v0 : List ℕ) (es : List Effect) (log : List Timed) → AllMatch (map (λ (e : Effect). e.call) es)
    (map (λ (t : Timed). t.call) (fill_all v0 es log))
fill_matches v0 [] log = tt
fill_matches v0 (e ∷ es) log = (
  record {
    process = refl;
    kind = refl;
    start = refl;
    end = refl;
    answer = fits _ e.call.answer;
  },
  fill_matches v0 es (insert (placed v0 log e) log),
)

fill_within : (v0 : List ℕ) (es : List Effect) (log : List Timed) → All InCall es → All Within (fill_all v0 es log)
fill_within v0 [] log a = tt
fill_within v0 (e ∷ es) log a = (a.0, fill_within v0 es (insert (placed v0 log e) log) a.1)

fill_length : (v0 : List ℕ) (es : List Effect) (log : List Timed) → length (fill_all v0 es log) ≡ length es
fill_length v0 [] log = refl
fill_length v0 (e ∷ es) log = ap suc (fill_length v0 es (insert (placed v0 log e) log))

pub moir_order : MoirOrder
moir_order N M W h_w v cs b places few = record {
  filled = map (λ (t : Timed). t.call) (fill_all (tab W v) (effects N M W 1 cs (set_up v)) []);
  matches = fill_matches (tab W v) (effects N M W 1 cs (set_up v)) [];
  linearization =
      moments (tab W v) (fill_all (tab W v) (effects N M W 1 cs (set_up v)) []) (run_served N M W h_w (tab W v) 1 cs (set_up v) [] (setup_good N M W v) b)
      (fill_within (tab W v) (effects N M W 1 cs (set_up v)) [] (run_in_call N M W h_w (tab W v) 1 cs (set_up v) [] (setup_good N M W v) b)) places
      (let z = fill_length (tab W v) (effects N M W 1 cs (set_up v)) [] in omega arith);
}
