-- The parts of a board's run put together: the set-up, the file's rows, the records, the last line.
use mathlib.Core.Path.{◌≡◌, refl, sym, ap, subst, ◌∙◌}
use mathlib.Core.List.{List}
use mathlib.Core.Bool.{Bool, true, false, not, cond}
use Prim.Native.Nat.{ℕ, ◌≤◌, ◌<◌}
use native.Mathlib.Omega.{arith}
use lib.ListN.{length, replicate}
use borrow.Author.Tests.{eq-eqb, ne_eqb, lt-ltb, le-ltb}
use Rattle.std.specs.Prelude.{Ok, Err}
use Rattle.llsc.specs.declared.refusals.Refusal.{Refusal}
use Rattle.llsc.specs.Refusals.{refusal_number}
use Rattle.llsc.proofs.RefusalNumbers.{number_some}
use Rattle.board_listing.specs.declared.ending.Stopped.{Stopped}
use Rattle.model.specs.Machine.{Memory}
use Rattle.model.specs.SetUp.{set_up}
use Rattle.boards.specs.Files.{decode, good_trailer, good_records, file_number}
use Rattle.boards.specs.Places.{read, RightFile, WrongFile}
use Rattle.text_runs.specs.TextRun.{room_needed}
use Rattle.notation.specs.declared.First.{First}
use Rattle.whole_runs.specs.Whole.{Prepared}
use Rattle.text_model.specs.TextRun.{figure2, Ended, ended, begun}
use Rattle.text_entry.specs.declared.state.Held.{Held}
use Rattle.text_entry.specs.RunState.{progress, Sound}
use Rattle.text_entry.proofs.FilledLaws.{gathered_filled}
use Rattle.text_machine.specs.declared.carrying.LentHeld.{LentHeld}
use Rattle.text_machine.specs.Carried.{lent_memory}
use Rattle.text_machine.specs.Finished.{memory_of}
use Rattle.board_listing.specs.BoardListing.{obey_all, run_listed, after_set_up, board_listed}
use Rattle.board_listing.specs.ListedRun.{fresh_state, stopped_state, Between, Obeys, Closable, refused_with, closed, end_of, RunsFile}

pub refused_closable : {held : Held} {f : Refusal} {list : List ℕ} → refusal_number f ≤ 99 → room_needed false ≤ length list → Closable (refused_with held f) list
refused_closable h l = record { entries = omega arith; stop = h; room = omega (arith, l) }

-- with its last line a run is ended
closed_ends : {out : Stopped} {list' : List ℕ} (s : Stopped) (ws list : List ℕ) → ◌≡◌ {A = Stopped × List ℕ} (out, list') (closed s list)
    → end_of out ws list' ≡ ended (progress 16 (stopped_state s ws list))
closed_ends s ws list e = ap (λ (x : Stopped × List ℕ). end_of x.0 ws x.1) e

-- "25 and 26 also before a run"
module _ (held : Held) (ws file list : List ℕ) where
  abbrev m : Memory
  m = memory_of held 16 ws

  abbrev ran : Bool → Ended
  ran t = cond t (ended (obey_all (decode file) (begun false m list 0))) (ended (begun false m list (file_number file)))

  pub file_refused : (f : Refusal) → WrongFile file f → {out : Stopped} {list' : List ℕ} → ◌≡◌ {A = Stopped × List ℕ} (out, list') (closed (refused_with held f) list)
      → RunsFile held ws file list out ws list'
  unfolding run_listed
  file_refused f e c = record {
    same = closed_ends (refused_with held f) ws list c ∙ ap (λ (j : ℕ). ended (begun false m list j)) (sym e)
        ∙ sym (ap ran (ne_eqb (file_number file) 0 (λ z. number_some f (sym e ∙ z))));
    words = refl;
  }

  pub file_run_is : {bs : List (List ℕ)} → RightFile file bs → {done out : Stopped} {ws' list' last : List ℕ}
      → Obeys (read bs) (fresh_state held ws list 0) (stopped_state done ws' list')
      → ◌≡◌ {A = Stopped × List ℕ} (out, last) (closed done list') → RunsFile held ws file list out ws' last
  unfolding run_listed
  file_run_is {bs} f {done} {ws' = ws'} {list' = list'} o c = record {
    same = closed_ends done ws' list' c ∙ ap ended o.same
        ∙ ap (λ rs. ended (obey_all rs (begun false m list 0))) f.reads
        ∙ sym (ap ran (eq-eqb (file_number file) 0 f.number));
    words = o.words;
  }

-- the set-up, refused or done
abbrev prepared : First → Memory → ℕ × Memory
prepared f before = set_up before f.n f.w (replicate f.w f.initial)

module _ {f : First} (file list : List ℕ) where
  pub set_up_refused : {held : Held} {ws : List ℕ} {cause : Refusal} {m' : Memory} → Prepared figure2 f (memory_of held 16 ws) (Err cause) m'
      → {out : Stopped} {list' : List ℕ} → ◌≡◌ {A = Stopped × List ℕ} (out, list') (closed (refused_with held cause) list)
      → end_of out m'.words list' ≡ after_set_up (memory_of held 16 ws) file list (prepared f (memory_of held 16 ws))
  set_up_refused {held} {ws} {cause} {m'} p c =
      let before : Memory = memory_of held 16 ws in
      let told : refusal_number cause ≡ (prepared f before).0 = p.number in
      let words : m'.words ≡ ws = ap (λ (x : Memory). x.words) p.memory in
      closed_ends (refused_with held cause) m'.words list c
      ∙ ap (λ (l : List ℕ). ended (begun false (memory_of held 16 l) list (refusal_number cause))) words
      ∙ ap (λ (i : ℕ). ended (begun false before list i)) told
      ∙ sym (simp (ne_eqb (prepared f before).0 0 (λ z. number_some cause (told ∙ z))))

  pub set_up_run : {m : Memory} {h : LentHeld} {ws₁ ws' list' : List ℕ} {out : Stopped} → Prepared figure2 f m (Ok tt) (lent_memory h ws₁) → h.len ≡ 16
      → RunsFile h.held ws₁ file list out ws' list' → end_of out ws' list' ≡ after_set_up m file list (prepared f m)
  set_up_run {m} {h} {ws₁} p l o =
      o.same
      ∙ ap (λ (k : ℕ). run_listed (memory_of h.held k ws₁) file list) (sym l)
      ∙ ap (λ (x : Memory). run_listed x file list) p.memory
      ∙ sym (simp (eq-eqb (prepared f m).0 0 (sym p.number)))

pub begun_between : {k : ℕ} {held : Held} {ws list : List ℕ} → k ≡ 16 → room_needed false ≤ length list → Sound k (fresh_state held ws list 0)
    → Between (fresh_state held ws list 0)
begun_between {held = held} {ws = ws} {list = list} e l s = record {
  sound = subst (λ (j : ℕ). Sound j (fresh_state held ws list 0)) e s;
  goes = refl;
  none = refl;
  listed = refl;
  room = omega (arith, l);
}

-- what `set_up_and_run` rests on
pub ruleset set_up_laws = (gathered_filled, set_up_refused, set_up_run)

-- 14 at the start
module _ (m : Memory) (n w k : ℕ) (file list : List ℕ) where
  pub no_room : length list < room_needed false → record { number = 14; entries = 0; written = 0; memory = m; listing = list } ≡ board_listed m n w k file list
  unfolding board_listed
  no_room l = simp (lt-ltb (length list) (room_needed false) l)

  pub with_room : room_needed false ≤ length list → {e : Ended} → e ≡ after_set_up m file list (set_up m n w (replicate w k)) → e ≡ board_listed m n w k file list
  unfolding board_listed
  with_room l q = q ∙ sym (simp (le-ltb (length list) (room_needed false) l))

pub file_small : (file : List ℕ) {k : ℕ} → k ≡ file_number file → k ≤ 99
unfolding file_number
file_small file e = rw e (either (good_trailer file) (good_records file))
  where
    either : (t u : Bool) → cond (not t) 25 (cond (not u) 26 0) ≤ 99
    either false u = omega arith
    either true false = omega arith
    either true true = omega arith
