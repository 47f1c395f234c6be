-- The set-up of a text run on what is lent: refused by its number, or done, with a sound run before its first entry.
use mathlib.Core.Path.{◌≡◌, refl, sym, ap, subst, ◌∙◌}
use mathlib.Core.Bool.{Bool, false}
use mathlib.Core.List.{List}
use Prim.Native.Nat.{ℕ, ◌+◌, ◌≤◌}
use native.Mathlib.Omega.{arith}
use lib.ListN.{length, take, replicate, length-replicate}
use Rattle.std.specs.Prelude.{Ok, Err}
use Rattle.llsc.specs.declared.refusals.Refusal.{Refusal}
use Rattle.llsc.specs.Refusals.{refusal_number}
use Rattle.listing.specs.declared.Writer.{Writer}
use Rattle.model.specs.declared.Bench.{Bench}
use Rattle.model.specs.declared.Process.{Process}
use Rattle.model.specs.Machine.{Memory, Shaped}
use Rattle.model.specs.SetUp.{records_at_set_up, words_at_set_up, bench_at_set_up, set_up}
use Rattle.setup.specs.SetUpByValue.{set_up_number, Accepted}
use Rattle.notation.specs.declared.First.{First}
use Rattle.notation.specs.Grammar.{largest}
use Rattle.text_model.specs.TextRun.{figure2, Progress}
use Rattle.text_entry.specs.declared.state.Held.{Held}
use Rattle.text_entry.specs.RunState.{RunState, state_with, state_of, progress, Filled, Sound}
use Rattle.text_runs.specs.Runs.{last_room, fresh_run}
use Rattle.whole_runs.specs.Whole.{Prepared}
use Rattle.text_machine.specs.Finished.{memory_of, Lending}
use Rattle.text_machine.proofs.StartLaws as S
use Rattle.text_machine.proofs.StartLaws.{number_small, set_up_same}

module _ (f : First) (held : Held) (len : ℕ) (ws : List ℕ) (few : len ≤ 16) (filled : Filled len held.all) where
  abbrev lent : Memory
  lent = memory_of held len ws

  pub set_up_refused : {r : Refusal} → refusal_number r ≡ set_up_number f.n f.w len (length ws) f.w → Prepared figure2 f lent (Err r) lent
  unfolding set_up
  set_up_refused e = record {
    number = e ∙ set_up_same held len ws f.n f.w f.initial few filled;
    memory = refl;
    few = omega (arith, e, number_small f.n f.w len (length ws) f.w);
  }

  -- a list with room: what is said here is said of the memory alone
  abbrev room : Lending len held.all (replicate 744 0)
  room = record { few = few; filled = filled; room = omega (arith, length-replicate {A = ℕ} 744 0) }

  module _ (small : f.initial ≤ largest) (e : 0 ≡ set_up_number f.n f.w len (length ws) f.w) where
    pub accepted : Accepted f.n f.w (length ws) f.w
    accepted = S.accepted false held ws room f.n f.w f.initial small (sym e)

    module _ {b' : Bench} {all' : List Process} {ws' value : List ℕ} (eb : b' ≡ bench_at_set_up held.bench f.n f.w) (ea : all' ≡ records_at_set_up held.all f.n)
        (ew : ws' ≡ words_at_set_up ws f.n f.w (take f.w value)) (ev : value ≡ replicate 64 f.initial) where
      abbrev held' : Held
      held' = record { bench = b'; all = all' }

      abbrev state : RunState
      state = state_with (fresh_run held' false) 0 ws' (replicate 744 0) 0

      is_first : state ≡ S.first false held ws room f.n f.w f.initial small (sym e)
      is_first = S.first_state_is false held ws room f.n f.w f.initial small (sym e) refl eb ea ew ev

      pub set_up_done : Prepared figure2 f lent (Ok tt) (memory_of held' len ws')
      set_up_done =
          let done = S.set_up_done false held ws room f.n f.w f.initial small (sym e) in
          record {
            number = sym (ap (λ (o : ℕ × Memory). o.0) done);
            memory =
                ap (λ (h : RunState). (progress len h).memory) is_first
                ∙ ap (λ (s : Progress). s.memory) (S.begun_same false held ws room f.n f.w f.initial small (sym e))
                ∙ sym (ap (λ (o : ℕ × Memory). o.1) done);
            few = omega arith;
          }

      pub set_up_sound : Shaped lent → (t : Bool) (to : Writer) → to.written + last_room ≤ length to.list.now
          → Sound len (state_of (fresh_run held' t) 0 ws' to)
      set_up_sound shaped t to more =
          let s : Sound len state = subst (Sound len) (sym is_first) (S.begun_sound false held ws room f.n f.w f.initial small (sym e) shaped) in
          record { few = few; filled = s.filled; entries = omega arith; stop = omega arith; room = more; going = s.going }

      pub set_up_filled : Shaped lent → Filled len all'
      set_up_filled shaped = (subst (Sound len) (sym is_first) (S.begun_sound false held ws room f.n f.w f.initial small (sym e) shaped)).filled
