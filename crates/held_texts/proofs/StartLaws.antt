-- The set-up of a text's run on a held list: refused by its number, or done, and then the list is reached.
use mathlib.Core.Path.{◌≡◌, refl, sym, ap, subst, ◌∙◌}
use mathlib.Core.Bool.{Bool, true, false, cond}
use mathlib.Core.List.{List}
use Prim.Native.Nat.{ℕ, ◌+◌, ◌-◌, ◌≤◌}
use native.Mathlib.Omega.{arith}
use lib.Dec.{eqb}
use lib.ListN.{length, take, replicate, length-replicate}
use borrow.Author.Tests.{eq-eqb}
use Rattle.std.specs.Prelude.{Ok, Err}
use Rattle.llsc.specs.declared.refusals.Refusal.{Refusal}
use Rattle.llsc.specs.Refusals.{refusal_number}
use Rattle.llsc.proofs.RefusalNumbers.{number_some}
use Rattle.serving.proofs.RefusalFacts.{none_holds, inside}
use Rattle.notation.specs.declared.First.{First}
use Rattle.listing.specs.declared.Writer.{Writer}
use Rattle.text_entry.proofs.WordLaws.{take_replicate}
use Rattle.text_runs.specs.Runs.{last_room}
use Rattle.whole_runs.specs.Whole.{Prepared}
use Rattle.whole_runs.specs.Carrying.{in_run}
use Rattle.station.specs.Station.{StationMemory}
use Rattle.station.specs.StationRefusals.{station_set_up_rows_of}
use Rattle.station.specs.StationSetUp.{station_set_up, station_set_up_refusal, station_at_set_up}
use Rattle.station_setup.specs.StationSetUpByValue.{station_set_up_number}
use Rattle.held_model.specs.Layout.{words_place}
use Rattle.held_model.specs.Memory.{laid_out}
use Rattle.held_model.specs.HeldCommand.{SetUpDone}
use Rattle.held_setup.proofs.SetUpLaws.{number_is}
use Rattle.held_laws.proofs.Theorems.{set_up_reaches}
use Rattle.held_texts.specs.declared.running.Left.{Left}
use Rattle.held_texts.specs.HeldRuns.{held_machine, held_memory, Going, Sound}

-- 23 cannot be: a text is of one record
small_by : (a b c d : Bool) → cond a 1 (cond b 2 (cond c 3 (cond d 8 0))) ≤ 15
small_by true b c d = omega arith
small_by false true c d = omega arith
small_by false false true d = omega arith
small_by false false false true = omega arith
small_by false false false false = omega arith

module _ (f : First) (l : List ℕ) where
  abbrev number : ℕ
  number = station_set_up_number f.n f.w 1 16 (length l - words_place 1) f.w

  abbrev s : StationMemory
  s = laid_out 1 l

  abbrev value : List ℕ
  value = replicate f.w f.initial

  refusal_is : number ≡ station_set_up_refusal s f.n f.w 1 value
  refusal_is =
      sym (ap (station_set_up_number f.n f.w 1 16 (length l - words_place 1)) (length-replicate f.w f.initial)) ∙ number_is l f.n f.w 1 value

  small : number ≤ 15
  unfolding station_set_up_number
  small = small_by _ _ _ _

  pub set_up_refused : {g : Refusal} (left : Left) → refusal_number g ≡ number → Prepared held_machine f (held_memory left l) (Err g) (held_memory left l)
  unfolding station_set_up
  set_up_refused left e = record { number = e ∙ refusal_is; memory = refl; few = omega (arith, e, small) }

  module _ (e : 0 ≡ number) where
    pub w_most : f.w ≤ 64
    unfolding station_set_up_number
    w_most = (inside 1 64 f.w (none_holds (station_set_up_rows_of f.n f.w 1 16 (length l - words_place 1) f.w) refl (sym e) 1)).1

    none : station_set_up_refusal s f.n f.w 1 value ≡ 0
    none = sym (e ∙ refusal_is)

    set_up_is : station_set_up s f.n f.w 1 value ≡ (0, station_at_set_up s f.n f.w 1 value)
    unfolding station_set_up
    set_up_is =
        ap (λ (k : ℕ). (k, cond (eqb k 0) (station_at_set_up s f.n f.w 1 value) s)) none

    module _ {v l' : List ℕ} {k : ℕ} (ev : v ≡ replicate 64 f.initial) (d : SetUpDone l f.n f.w 1 (take f.w v) k l') where
      by_value : SetUpDone l f.n f.w 1 value k l'
      by_value = subst (λ (x : List ℕ). SetUpDone l f.n f.w 1 x k l') (ap (take f.w) ev ∙ take_replicate f.w 64 f.initial w_most) d

      both : ◌≡◌ {A = ℕ × StationMemory} (k, laid_out 1 l') (0, station_at_set_up s f.n f.w 1 value)
      both = by_value.done ∙ set_up_is

      by_none : SetUpDone l f.n f.w 1 value 0 l'
      by_none = subst (λ (i : ℕ). SetUpDone l f.n f.w 1 value i l') (ap (λ (x : ℕ × StationMemory). x.0) both) by_value

      memory_is : laid_out 1 l' ≡ station_at_set_up s f.n f.w 1 value
      memory_is = ap (λ (x : ℕ × StationMemory). x.1) both

      pub set_up_done : (left : Left) → Prepared held_machine f (held_memory left l) (Ok tt) (held_memory left l')
      set_up_done left = record {
        number = sym (ap (λ (x : ℕ × StationMemory). x.0) set_up_is);
        memory = ap (λ (m : StationMemory). (left.left, m)) (memory_is ∙ sym (ap (λ (x : ℕ × StationMemory). x.1) set_up_is));
        few = omega arith;
      }

      going : Going l'
      going = record {
        reached = set_up_reaches l l' f.n f.w 1 value by_none;
        one = ap (λ (m : StationMemory). m.r) memory_is;
        width = omega (arith, ap (λ (m : StationMemory). m.w) memory_is, w_most);
      }

      pub set_up_sound : (left : Left) (t : Bool) (to : Writer) → to.written + last_room ≤ length to.list.now → Sound (in_run left 0 t) 0 l' to
      set_up_sound left t to more = record { few = omega arith; stop = omega arith; room = more; going = λ z. going }
