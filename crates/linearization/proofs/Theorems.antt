-- The theorems, each about model's own definitions, with no assumption but those of its statement.
use Rattle.model.specs.Linearizable.{Promise3}
use Rattle.after_commands.specs.OwnDoing.{NeverForItsOwnDoing}
use Rattle.after_commands.specs.Buffers.{EveryBufferOnce}
use Rattle.after_commands.specs.Changes.{ChangesAreSuccesses}
use Rattle.after_commands.specs.WordsStay.{WordsStay}
use Rattle.linearization.proofs.BufferTheorems
use Rattle.linearization.proofs.XChanges
use Rattle.linearization.proofs.WrittenWords
use Rattle.linearization.proofs.SetUpSimulation.{set_up_halves}
use Rattle.linearization.proofs.CommandRuns.{holds_along, sound}
use Rattle.linearization.proofs.PromiseThree.{promise_three}

-- Promise 3, over every list of commands after every accepted set-up.
pub promise_3 : Promise3
promise_3 = promise_three

-- After a set-up no command is refused by rows 1, 2, 3 or 9.
pub never_for_its_own_doing : NeverForItsOwnDoing
never_for_its_own_doing m shaped n w value cs e c = let h_w = set_up_halves m n w value e in sound n w h_w _ _ _ (holds_along m shaped n w value e h_w cs) c

-- After a set-up and any commands the 3N buffer numbers are each found exactly once among owned and kept.
pub every_buffer_once : EveryBufferOnce
every_buffer_once = BufferTheorems.every_buffer_once

-- X changes as often as an SC succeeds.
pub changes_are_successes : ChangesAreSuccesses
changes_are_successes = XChanges.changes_are_successes

-- The words of every success, and the set-up value, stay in their buffer until X has changed 2N more times.
pub words_stay : WordsStay
words_stay = WrittenWords.words_stay
