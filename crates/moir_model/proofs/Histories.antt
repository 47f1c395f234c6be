-- Histories, computed: the calls of a run, with the numbers of their commands, answered and open; and its successes.
use mathlib.Core.Path.{◌≡◌, refl}
use mathlib.Core.List.{List, [], ◌∷◌, ◌++◌}
use mathlib.Core.Bool.{true, false}
use Rattle.llsc.specs.History.{Command}
use Rattle.llsc.specs.Object.{ll, sc, vl}
use Rattle.moir_model.specs.Machine.{Memory, step_at, obey}
use Rattle.moir_model.specs.Refusals.{in_range}
use Rattle.moir_model.specs.Command.{command, refusal}
use Rattle.moir_model.specs.SetUp.{set_up, set_up_refusal}
use Rattle.moir_model.specs.Replies.{words, names, sc_truth, vl_truth}
use Rattle.moir_model.specs.History.{events, ended, pending, calls_from, calls, successes_up_to}
use Rattle.moir_model.proofs.Schedules.{l, v, s, steps, dirty}

abbrev ready : Memory
ready = (set_up dirty 2 1 (5 ∷ [])).1

-- 1l 1. 0l 0! 0s7 0! 1! 1v 1! 1s9 3l 1!: process 1's WLL reads the header in command 2 and names process 0, which succeeds
-- in command 10; command 21 is refused, and has a number too
abbrev named : List Command
named = l 1 ++ steps 1 1 ++ l 0 ++ steps 3 0 ++ s 1 0 7 ++ steps 8 0 ++ steps 2 1 ++ v 1 ++ steps 1 1 ++ s 1 1 9 ++ l 3 ++ steps 1 1

pub named_calls : calls 2 (events ready named)
    ≡ record { process = 0; kind = ll; start = 3; end = 6; steps = 3; wll = 3; read = 4; named = false; outcome = ended (words (5 ∷ [])) 3 }
    ∷ record { process = 0; kind = sc (7 ∷ []); start = 7; end = 15; steps = 8; wll = 3; read = 4; named = false; outcome = ended (sc_truth true) 8 }
    ∷ record { process = 1; kind = ll; start = 1; end = 17; steps = 3; wll = 1; read = 2; named = false; outcome = ended (names 0) 3 }
    ∷ record { process = 1; kind = vl; start = 18; end = 19; steps = 1; wll = 1; read = 2; named = true; outcome = ended (vl_truth false) 1 }
    ∷ record { process = 1; kind = sc (9 ∷ []); start = 20; end = 22; steps = 1; wll = 1; read = 2; named = true; outcome = ended (sc_truth false) 1 }
    ∷ []
unfolding set_up set_up_refusal events command refusal in_range obey step_at calls_from
named_calls = refl

pub named_successes : (successes_up_to (events ready named) 9 ≡ 0) × (successes_up_to (events ready named) 10 ≡ 1)
unfolding set_up set_up_refusal events command refusal in_range obey step_at
named_successes = (refl, refl)

-- 0l 0! 0s7 3(0.) 1l: an open SC whose CAS on the header is done, "ending at its last step", and an open WLL with no step
abbrev standing : List Command
standing = l 0 ++ steps 3 0 ++ s 1 0 7 ++ steps 3 0 ++ l 1

pub open_calls_lem : calls 2 (events ready standing)
    ≡ record { process = 0; kind = ll; start = 1; end = 4; steps = 3; wll = 1; read = 2; named = false; outcome = ended (words (5 ∷ [])) 3 }
    ∷ record { process = 0; kind = sc (7 ∷ []); start = 5; end = 8; steps = 3; wll = 1; read = 2; named = false; outcome = pending true }
    ∷ record { process = 1; kind = ll; start = 9; end = 9; steps = 0; wll = 9; read = 0; named = false; outcome = pending false }
    ∷ []
unfolding set_up set_up_refusal events command refusal in_range obey step_at calls_from
open_calls_lem = refl
