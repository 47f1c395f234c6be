-- The calls of a history are fed as the machine's are.
use mathlib.Core.Path.{◌≡◌, refl, ap, ap₂, ◌∙◌}
use mathlib.Core.Bool.{true, cond}
use mathlib.Core.List.{List, [], ◌∷◌, ◌++◌, map}
use Prim.Native.Nat.{ℕ, zero, suc, ◌+◌, ◌<◌}
use native.Mathlib.Omega.{arith}
use Rattle.llsc.specs.History.{Command}
use Rattle.moir_model.specs.Points.{Point, idle, ll10, ll2, ll4, ll5, ll6, ll7, sc14, sc17, sc19, sc2, sc4, sc5, sc6, sc7, vl13}
use Rattle.moir_model.specs.History.{Event, Known, open_of, open_calls, call_of, calls_from, successes_up_to}
use Rattle.moir_linearization.specs.Linearizable.{served_calls}
use Rattle.moir_linearization.proofs.PointRanges.{copying}
use Rattle.moir_linearization.proofs.GhostMachine.{Local, State}
use Rattle.moir_linearization.proofs.GhostHistories.{answer_of, concat, open_call, fed_from, sc_call}
use Rattle.moir_linearization.proofs.GhostEvents.{ghost, says, events}
use Rattle.moir_linearization.proofs.Watching.{slot_of, KnownOK}
use Rattle.moir_linearization.proofs.CallLists.{served_join, served_called}
use Rattle.moir_linearization.proofs.EventBounds.{Reached, next, calls_here}

module _ (N M W : ℕ) (h_w : 0 < W) (ES : List Event) where
  abbrev S : ℕ → ℕ
  S = successes_up_to ES

  -- the calls are fed as the machine's are
  open_as : (y : Point) (q : ℕ) (k : Known) (l : Local) (d e : ℕ) → (copying y ≡ true → d ≡ e)
      → served_calls (open_of q k (slot_of W y l d)) ≡ cond (copying y) (sc_call W q true e l ∷ []) []
  open_as idle q k l d e f = refl
  open_as ll10 q k l d e f = refl
  open_as ll2 q k l d e f = refl
  open_as ll4 q k l d e f = refl
  open_as ll5 q k l d e f = refl
  open_as ll6 q k l d e f = refl
  open_as ll7 q k l d e f = refl
  open_as sc14 q k l d e f = refl
  open_as sc17 q k l d e f = refl
  open_as sc19 q k l d e f = refl
  open_as sc2 q k l d e f = ap (λ d. sc_call W q true d l ∷ []) (f refl)
  open_as sc4 q k l d e f = ap (λ d. sc_call W q true d l ∷ []) (f refl)
  open_as sc5 q k l d e f = ap (λ d. sc_call W q true d l ∷ []) (f refl)
  open_as sc6 q k l d e f = ap (λ d. sc_call W q true d l ∷ []) (f refl)
  open_as sc7 q k l d e f = ap (λ d. sc_call W q true d l ∷ []) (f refl)
  open_as vl13 q k l d e f = refl

  opens_as : (m : ℕ) (s : State) (last : ℕ → ℕ) (x : ℕ → Known)
      → ((q : ℕ) → q < m → KnownOK W S (s.loc q) (last q) (x q)) → served_calls (open_calls m x) ≡ concat W m
      (open_call W s last)
  opens_as zero s last x f = refl
  opens_as (suc m) s last x f =
      let k = f m (omega arith) in
      served_join (open_calls m x) (open_of m (x m) (x m).slot)
      ∙ ap₂ ◌++◌ (opens_as m s last x (λ q h. f q (omega arith)))
      (ap (λ t. served_calls (open_of m (x m) t)) k.slot_is ∙ open_as (s.loc m).point m (x m) (s.loc m)
      k.last (last m) k.last_is)

  pub served_as_is : (cs : List Command) (m : ℕ) (s : State) (last : ℕ → ℕ) (x : ℕ → Known) → Reached N M W h_w ES m cs s last x
      → served_calls (calls_from N (suc m) (events N M W (suc m) cs s) x) ≡ fed_from N M W (suc m) (map (ghost W) cs) s last
  unfolding calls_from events fed_from
  served_as_is [] m s last x r = opens_as N s last x r.watches.each
  served_as_is (c ∷ cs) m s last x r =
      served_join (call_of c.process (suc m) (says N M W (suc m) (ghost W c) s) (x c.process)) _
      ∙ ap₂ ◌++◌ (ap served_calls (calls_here N M W h_w ES m c cs s last x r)
      ∙ served_called (x c.process) ((s.loc c.process).count + 1) (answer_of N M W (suc m) (ghost W c) s))
      (served_as_is cs (suc m) _ _ _ (next N M W h_w ES m c cs s last x r))
