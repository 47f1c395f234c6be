-- The set-up of a text run: refused by its number, or done, with a sound run before its first entry.
use mathlib.Core.Path.{◌≡◌, refl, sym, ap, subst, ◌∙◌}
use mathlib.Core.Bool.{Bool}
use mathlib.Core.List.{List}
use Prim.Native.Nat.{ℕ, ◌+◌, ◌≤◌}
use native.Mathlib.Omega.{arith}
use lib.ListN.{length, take, replicate, length-replicate}
use borrow.Author.Tests.{eq-eqb}
use Rattle.std.specs.Prelude.{Ok, Err}
use Rattle.llsc.specs.declared.refusals.Refusal.{Refusal}
use Rattle.llsc.specs.Refusals.{refusal_number}
use Rattle.listing.specs.declared.Writer.{Writer}
use Rattle.notation.specs.declared.First.{First}
use Rattle.notation.specs.Grammar.{largest}
use Rattle.text_runs.specs.Runs.{last_room}
use Rattle.whole_runs.specs.Carrying.{in_run}
use Rattle.notation.proofs.ReadingLaws.{reader}
use Rattle.text_runs.specs.declared.runs.Finished.{Finished}
use Rattle.text_runs.specs.TextRun.{run_with}
use Rattle.text_runs.specs.StopPlaces.{StopsAt}
use Rattle.text_runs.specs.Returned.{holding}
use Rattle.whole_runs.specs.Whole.{Prepared, Ran}
use Rattle.moir_model.specs.declared.Bench.{Bench}
use Rattle.moir_model.specs.declared.Process.{Process}
use Rattle.moir_model.specs.Machine.{Memory}
use Rattle.moir_model.specs.Refusals.{set_up_rows_of}
use Rattle.moir_model.specs.SetUp.{bench_at_set_up, records_at_set_up, words_at_set_up, at_set_up, set_up_refusal, set_up}
use Rattle.moir_machine.specs.SetUpByValue.{set_up_number, set_up_number_lem, Accepted}
use Rattle.moir_machine.proofs.SetUpLaws.{set_up_fits, records_fit}
use Rattle.moir_text_model.specs.TextRun.{figure6}
use Rattle.moir_text_model.proofs.SmallWords.{Small, small_at_set_up}
use Rattle.moir_text_machine.specs.declared.turns.Held.{Held}
use Rattle.moir_text_machine.specs.RunState.{memory_of, progress, Sound}
use Rattle.moir_text_machine.specs.TextRan.{at_start, seen, TextRan}
use Rattle.moir_text_machine.proofs.EntryLaws.{first_words}
use Rattle.moir_text_machine.proofs.TurnLaws.{first_small}

number_few : (n w words : ℕ) {k : ℕ} → k ≡ set_up_number n w 16 words w → k ≤ 15
unfolding set_up_number
number_few n w words e = omega (arith, e, first_small (set_up_rows_of n w 16 words w) refl)

-- W words of the value
pub prefix_length : {w k : ℕ} {value : List ℕ} → w ≤ 64 → value ≡ replicate 64 k → w ≡ length (take w value)
prefix_length {w} {k} h e = sym (ap (λ (l : List ℕ). length (take w l)) e ∙ ap length (first_words w k h) ∙ length-replicate w k)

-- the memory that the code makes
pub made_memory : {n w k : ℕ} {b : Bench} {all : List Process} {ws' value : List ℕ} (held : Held) (ws : List ℕ) → w ≤ 64 → b ≡ bench_at_set_up held.bench n w
    → all ≡ records_at_set_up held.all n → ws' ≡ words_at_set_up ws n w (take w value) → value ≡ replicate 64 k
    → memory_of (record { bench = b; all = all }) ws' ≡ at_set_up (memory_of held ws) n w (replicate w k)
made_memory {w = w} {k = k} {value = value} held ws few eb ea ew ev =
    let is : take w value ≡ replicate w k = ap (take w) ev ∙ first_words w k few in
    rw (eb, ea, ew, is)

module _ (f : First) (m : Memory) (l : length m.records ≡ 16) where
  abbrev value : List ℕ
  value = replicate f.w f.initial

  -- the number that the code finds is the set-up's
  same_number : set_up_number f.n f.w 16 (length m.words) f.w ≡ set_up_refusal m f.n f.w value
  same_number =
      ap (λ (j : ℕ). set_up_number f.n f.w j (length m.words) f.w) (sym l)
      ∙ ap (set_up_number f.n f.w (length m.records) (length m.words)) (sym (length-replicate f.w f.initial))
      ∙ set_up_number_lem m f.n f.w value

  pub set_up_refused : {r : Refusal} → refusal_number r ≡ set_up_number f.n f.w 16 (length m.words) f.w → Prepared figure6 f m (Err r) m
  unfolding set_up
  set_up_refused e = record { number = e ∙ same_number; memory = refl; few = number_few f.n f.w (length m.words) e }

  module _ (e : 0 ≡ set_up_number f.n f.w 16 (length m.words) f.w) where
    pub accepted : Accepted f.n f.w (length m.words) f.w
    accepted = set_up_fits f.n f.w 16 (length m.words) f.w (sym e)

    pub records_lent : f.n ≤ 16
    records_lent = records_fit f.n f.w 16 (length m.words) f.w (sym e)

    pub set_up_done : {m' : Memory} → m' ≡ at_set_up m f.n f.w value → Prepared figure6 f m (Ok tt) m'
    unfolding set_up
    set_up_done q = record { number = e ∙ same_number; memory = q ∙ sym (simp (eq-eqb (set_up_refusal m f.n f.w value) 0 (sym (e ∙ same_number)))); few = omega arith }

    pub set_up_sound : {held : Held} {ws : List ℕ} → f.initial ≤ largest → length held.all ≡ 16 → memory_of held ws ≡ at_set_up m f.n f.w value
        → (t : Bool) (to : Writer) → to.written + last_room ≤ length to.list.now → Sound (progress (in_run held 0 t) 0 ws to)
    set_up_sound h k q t to room = record {
      sixteen = k;
      entries = omega arith;
      stop = omega arith;
      room = room;
      going = λ z. subst Small (sym q) (small_at_set_up m f.n f.w f.initial h);
    }

-- the generic run, from the memory that a run begins with
pub text_ran : {t : Bool} {text list ws' list' : List ℕ} {m : Memory} {out : Finished Held} → m ≡ at_start
    → Ran figure6 t text list m out (memory_of out.held ws') list' → TextRan t text list (holding out out.held.all) list'
text_ran {t} {text} {list} {m = m} {out = out} e ran = record {
  same = ap seen (ran.same ∙ ap (λ (x : Memory). run_with figure6 reader t x text list) e);
  stops = subst (λ (x : Memory). StopsAt figure6 t x text list out.report) e ran.stops;
}
