-- CR 8's theorems, each about moir_model's own definitions, with no assumption but those of its statement.
use mathlib.Core.Path.{◌≡◌, refl, sym, subst}
use mathlib.Core.List.{List}
use Prim.Native.Nat.{ℕ}
use lib.ListN.{get_or}
use Rattle.llsc.specs.History.{Command}
use Rattle.laws.proofs.ListFacts.{tab_whole}
use Rattle.moir_model.specs.Tags.{tag_values}
use Rattle.moir_model.specs.Machine.{Memory, Shaped}
use Rattle.moir_model.specs.SetUp.{set_up}
use Rattle.moir_model.specs.History.{events}
use Rattle.moir_linearization.specs.Bound.{success_limit, Bounded}
use Rattle.moir_linearization.specs.Linearizable.{Claim, Always, MoirOrder, MoirAlways}
use Rattle.moir_linearization.specs.OwnDoing.{NeverForItsOwnDoing}
use Rattle.moir_linearization.specs.ShortRuns.{ShortOrder}
use Rattle.moir_linearization.proofs.GhostRuns as G
use Rattle.moir_linearization.proofs.GhostEvents as E
use Rattle.moir_linearization.proofs.Ranges.{setup_sound}
use Rattle.moir_linearization.proofs.Relation.{Related}
use Rattle.moir_linearization.proofs.SetUpSimulation.{Admitted, set_up_admits, set_up_related}
use Rattle.moir_linearization.proofs.CommandSimulation.{events_same, sound_along}
use Rattle.moir_linearization.proofs.EventClaims.{claim, always}
use Rattle.moir_linearization.proofs.ShortRunLaws.{short_are_bounded}

module _ (m : Memory) (shaped : Shaped m) (n w : ℕ) (value : List ℕ) (cs : List Command) (e : (set_up m n w value).0 ≡ 0) where
  abbrev v0 : ℕ → ℕ
  v0 k = get_or value k 0

  found : Admitted m n w value
  found = set_up_admits m n w value e

  begun : Related n w (set_up m n w value).1 (G.set_up v0)
  begun = set_up_related m n w value shaped e

  same_events : events (set_up m n w value).1 cs ≡ E.events n tag_values w 1 cs (G.set_up v0)
  same_events = events_same n w found.sizes.w_low 1 cs _ _ begun (setup_sound n tag_values w found.sizes.n_low v0)

  order : Bounded n (events (set_up m n w value).1 cs) → Claim n value (events (set_up m n w value).1 cs)
  order b =
      subst (λ es. Claim n value es) (sym same_events)
      (subst (λ v. Claim n v (E.events n tag_values w 1 cs (G.set_up v0))) (tab_whole w value found.value_length)
      (claim n tag_values w found.sizes.w_low found.sizes.n_low v0 cs success_limit refl (subst (λ es. Bounded n es) same_events b)))

  unbounded : Always n w (events (set_up m n w value).1 cs)
  unbounded = subst (λ es. Always n w es) (sym same_events) (always n tag_values w found.sizes.w_low found.sizes.n_low v0 cs)

-- The Figure 1 order, over every list of commands after every accepted set-up, under CR 8's bound.
pub moir_order : MoirOrder
moir_order m shaped n w value cs e b = order m shaped n w value cs e b

-- The same with no bound to look after: over every list of fewer than 65,535 commands after every accepted set-up.
pub short_order : ShortOrder
short_order m shaped n w value cs e short = moir_order m shaped n w value cs e (short_are_bounded _ n cs short)

-- Without the bound: counts of own steps, a named process wrote during its WLL, no SC or VL is wrongly false.
pub moir_always : MoirAlways
moir_always m shaped n w value cs e = unbounded m shaped n w value cs e

-- After a set-up no command is refused by rows 1, 2, 3 or 9.
pub never_for_its_own_doing : NeverForItsOwnDoing
never_for_its_own_doing m shaped n w value cs e c =
    let a = (set_up_admits m n w value e).sizes in
    sound_along n w a.w_low 1 cs _ _ (set_up_related m n w value shaped e) (setup_sound n tag_values w a.n_low (λ k. get_or value k 0)) c
