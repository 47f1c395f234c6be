-- Every list of commands after an accepted set-up: the memory follows the ghost machine, and its invariants hold.
use mathlib.Core.Path.{◌≡◌}
use mathlib.Core.List.{List, [], ◌∷◌, map}
use Prim.Native.Nat.{ℕ, suc, ◌<◌}
use Rattle.model.specs.Sizes.{halves}
use Rattle.model.specs.Machine.{Memory, Shaped}
use Rattle.model.specs.Command.{command, refusal}
use Rattle.model.specs.SetUp.{set_up}
use Rattle.llsc.specs.History.{Command}
use Rattle.after_commands.specs.After.{after}
use Rattle.llsc.specs.Rows.{NotLentMemory}
use Rattle.linearization.proofs.GhostMachine.{State}
use Rattle.linearization.proofs.Invariants.{Invariant}
use Rattle.linearization.proofs.GhostRuns.{exec, setup}
use Rattle.linearization.proofs.InvariantRuns.{number_after, execs, exec_inv}
use Rattle.linearization.proofs.GhostSetUp.{setup_inv}
use Rattle.linearization.proofs.Ranges.{InRanges}
use Rattle.linearization.proofs.RangeRuns.{exec_range, setup_range}
use Rattle.linearization.proofs.Counts.{AllCounts, exec_counts, setup_counts}
use Rattle.linearization.proofs.WordPlace.{PInv, exec_places, setup_places}
use Rattle.linearization.proofs.WordLists.{cells}
use Rattle.linearization.proofs.Relation.{Related}
use Rattle.linearization.proofs.SetUpSimulation.{set_up_related}
use Rattle.linearization.proofs.InRange.{counts_in}
use Rattle.linearization.proofs.Outcome.{to_f, Followed}
use Rattle.linearization.proofs.CommandSimulation.{refusal_sound, followed}

module _ (N W : ℕ) (h_w : 0 < halves W) where
  -- what holds before command number n
  pub record Holds (n : ℕ) (m : Memory) (z : State) : Type 0 where
    pub related : Related N W m z
    pub inv : Invariant N (halves W) n z
    pub range : InRanges N (halves W) z
    pub count : AllCounts N (halves W) h_w z
    pub place : PInv N (halves W) z

  module _ (n : ℕ) (m : Memory) (z : State) (h : Holds n m z) where
    -- the next command: which case it is, and that all this holds again
    pub next_command : (c : Command) → Followed N W n m z c
    next_command = followed N W n m z h.related h.range (counts_in N W h_w n z h.inv h.count) h.place

    pub holds_after : (c : Command) → Holds (suc n) (command m c.process c.order c.value).1 (exec N (halves W) n (to_f N W c) z)
    holds_after c = record {
      related = (next_command c).related;
      inv = exec_inv N (halves W) h_w n z (to_f N W c) h.inv;
      range = exec_range N (halves W) h_w n z (to_f N W c) h.range;
      count = exec_counts N (halves W) h_w n z (to_f N W c) h.inv h.count;
      place = exec_places N (halves W) n z (to_f N W c) h.place;
    }

    pub sound : (c : Command) → NotLentMemory (refusal m c.process c.order c.value)
    sound c = refusal_sound N W n m z h.related h.range (counts_in N W h_w n z h.inv h.count) h.place c.process c.order c.value

  pub holds_after_all : (cs : List Command) (n : ℕ) (m : Memory) (z : State) → Holds n m z → Holds (number_after n (map (to_f N W) cs)) (after m cs) (execs N (halves W) n (map (to_f N W) cs) z)
  unfolding after
  holds_after_all [] n m z h = h
  holds_after_all (c ∷ cs) n m z h = holds_after_all cs (suc n) _ _ (holds_after n m z h c)

-- an accepted set-up begins it: the first command has number 1
pub set_up_holds : (m : Memory) → Shaped m → (n w : ℕ) (value : List ℕ) → (set_up m n w value).0 ≡ 0 → (h_w : 0 < halves w)
    → Holds n w h_w 1 (set_up m n w value).1 (setup n (halves w) (cells value))
set_up_holds m shaped n w value e h_w =
    let r = set_up_related m n w value shaped e in let v : ℕ → ℕ = cells value in
    record {
      related = r;
      inv = setup_inv n (halves w) v r.sizes.n_low;
      range = setup_range n (halves w) r.sizes.n_low h_w v;
      count = setup_counts n (halves w) h_w v;
      place = setup_places n (halves w) v;
    }

pub holds_along : (m : Memory) → Shaped m → (n w : ℕ) (value : List ℕ) → (set_up m n w value).0 ≡ 0 → (h_w : 0 < halves w) (cs : List Command)
    → Holds n w h_w (number_after 1 (map (to_f n w) cs)) (after (set_up m n w value).1 cs) (execs n (halves w) 1 (map (to_f n w) cs) (setup n (halves w) (cells value)))
holds_along m shaped n w value e h_w cs = holds_after_all n w h_w cs 1 _ _ (set_up_holds m shaped n w value e h_w)
