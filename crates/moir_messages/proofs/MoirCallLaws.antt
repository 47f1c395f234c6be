-- The call that `messages::open_calls::call_at` finds among those of a bench's records is that of `MoirCalls`.
use Rattle.std.proofs.Common.{◌≡◌, refl, ℕ, zero, suc, List, [], ◌∷◌, map, get_or}
use Rattle.std.specs.Prelude.{None}
use Rattle.moir_model.specs.declared.Process.{Process}
use Rattle.moir_model.specs.Records.{no_process}
use Rattle.moir_messages.specs.MoirCalls.{call_of, call_at}

pub told_at : (p : ℕ) (records : List Process) → get_or (map call_of records) p None ≡ call_at p records
told_at p [] = refl
told_at zero (q ∷ records) = refl
told_at (suc p) (q ∷ records) = told_at p records
