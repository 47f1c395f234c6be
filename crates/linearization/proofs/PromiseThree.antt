-- Promise 3: the parts put together.
use mathlib.Core.Path.{◌≡◌, refl, sym, ap, subst, ◌∙◌}
use mathlib.Core.List.{List, map}
use Prim.Native.Nat.{ℕ, ◌≤◌, ◌<◌}
use native.Mathlib.Decide.{dec_lt}
use native.Mathlib.Omega.{arith}
use lib.ListN.{length, length-map}
use Rattle.model.specs.Sizes.{halves}
use Rattle.model.specs.Machine.{Memory, Shaped}
use Rattle.model.specs.SetUp.{set_up}
use Rattle.llsc.specs.History.{Command, calls, slots, none}
use Rattle.model.specs.History.{events}
use Rattle.llsc.specs.Linearizable.{All, Timed, Linearization}
use Rattle.model.specs.Linearizable.{Counted, OpenCounted, Promise3}
use Rattle.linearization.proofs.GhostMachine.{State}
use Rattle.linearization.proofs.WordLists.{words_of, cells}
use Rattle.linearization.proofs.GhostRuns.{Cmd, calls_f, setup}
use Rattle.linearization.proofs.InvariantRuns.{execs}
use Rattle.linearization.proofs.GhostLinearization.{linearization}
use Rattle.linearization.proofs.CallCounts.{all_calls, run_counted}
use Rattle.linearization.proofs.OpenCounts.{open_counted}
use Rattle.linearization.proofs.ListFacts.{words_whole}
use Rattle.linearization.proofs.SetUpSimulation.{set_up_admits, set_up_halves}
use Rattle.linearization.proofs.Outcome.{to_f}
use Rattle.linearization.proofs.CommandRuns.{set_up_holds, holds_along}
use Rattle.linearization.proofs.Histories.{SlotsLike, calls_match, slots_match}

module _ (m : Memory) (shaped : Shaped m) (n w : ℕ) (value : List ℕ) (cs : List Command) (e : (set_up m n w value).0 ≡ 0) where
  h_n : 0 < n
  h_n = (set_up_admits m n w value e).sizes.n_low

  h_w : 0 < halves w
  h_w = set_up_halves m n w value e

  abbrev given : ℕ → ℕ
  given = cells value

  abbrev commands : List Cmd
  commands = map (to_f n w) cs

  no_calls : SlotsLike n (halves w) (λ p. none) (setup n (halves w) given)
  no_calls = record { inside = λ q hq. refl; outside = λ q hq. refl }

  -- the calls are the ghost machine's
  pub same_calls : calls (events (set_up m n w value).1 cs) ≡ map (λ (t : Timed). t.call) (calls_f n (halves w) 1 commands (setup n (halves w) given))
  same_calls = calls_match n w h_w cs 1 _ _ _ (set_up_holds m shaped n w value e h_w) no_calls

  counted : All (Counted w) (calls (events (set_up m n w value).1 cs))
  counted = subst (All (Counted w)) (sym same_calls) (all_calls (Counted w) (calls_f n (halves w) 1 commands (setup n (halves w) given)) (run_counted n w h_w h_n given commands))

  open_calls_lem : (p : ℕ) → OpenCounted w (slots (events (set_up m n w value).1 cs) p)
  open_calls_lem p = go (dec_lt p n)
    where
      like : SlotsLike n (halves w) (slots (events (set_up m n w value).1 cs)) (execs n (halves w) 1 commands (setup n (halves w) given))
      like = slots_match n w h_w cs 1 _ _ _ (set_up_holds m shaped n w value e h_w) no_calls

      go : Dec (p < n) → OpenCounted w (slots (events (set_up m n w value).1 cs) p)
      go (yes h) =
          let z : State = execs n (halves w) 1 commands (setup n (halves w) given) in let a = holds_along m shaped n w value e h_w cs in
          subst (OpenCounted w) (sym (like.inside p h))
          (open_counted n w h_w _ z.sh p (z.loc p) (z.sh.start p) (words_of (halves w) (z.loc p).offered) (z.loc p).point (a.inv.each p h) (a.count.each p h))
      go (no h) = subst (OpenCounted w) (sym (like.outside p (omega arith))) tt

  ordered : (places : ℕ) → length (calls (events (set_up m n w value).1 cs)) ≤ places → Linearization places value (calls (events (set_up m n w value).1 cs))
  ordered places h =
      subst (λ v. Linearization places v (calls (events (set_up m n w value).1 cs))) (words_whole w value (set_up_admits m n w value e).value_length)
      (subst (Linearization places (words_of (halves w) given)) (sym same_calls)
      (linearization n (halves w) h_n h_w given commands places
      (let a = ap length same_calls ∙ length-map (calls_f n (halves w) 1 commands (setup n (halves w) given)) (λ (t : Timed). t.call) in omega arith)))

pub promise_three : Promise3
promise_three m shaped n w value cs e = record { counted = counted m shaped n w value cs e; open_counted = open_calls_lem m shaped n w value cs e; linearization = ordered m shaped n w value cs e }
