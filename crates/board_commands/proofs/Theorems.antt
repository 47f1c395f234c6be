-- The theorems.
use mathlib.Core.Path.{◌≡◌, refl, sym, ap, subst, ◌∙◌}
use mathlib.Core.Bool.{Bool, true, false, cond}
use mathlib.Core.List.{List, [], ◌∷◌, ◌++◌, map}
use Prim.Native.Nat.{ℕ, zero, suc}
use native.Mathlib.Omega.{arith}
use lib.Dec.{eqb}
use lib.ListN.{take}
use borrow.Author.Tests.{eqb-true, eqb-false, eq-eqb, ne_eqb}
use Rattle.model.specs.declared.Reply.{Reply}
use Rattle.model.specs.declared.Reply.TheVariants.{Refused}
use Rattle.model.specs.Replies.{number_of}
use Rattle.boards.specs.Files.{BoardRecord, decode, file_number}
use Rattle.station.specs.declared.RecordNumber.{RecordNumber}
use Rattle.station.specs.Station.{StationMemory}
use Rattle.station.specs.Projection.{embed}
use Rattle.station.specs.StationRefusals.{StationOrder, record_for}
use Rattle.station.specs.StationCommand.{station_refusal, station_command, obeyed_on}
use Rattle.station.specs.StationHistory.{seen, seen_all, station_after}
use Rattle.station_facts.proofs.Accepts.{obeys, refuses}
use Rattle.board_commands.specs.declared.FileRun.{FileRun}
use Rattle.board_commands.specs.BoardRun.{command_of, run_records, run_file}
use Rattle.board_commands.specs.Promises.{commands_of, OneByOne, EveryFileRuns, RunsAmongCommands}
use Rattle.board_commands.proofs.ReplyLaws.{obeyed_replies}

-- a command keeps W, and its reply has the number of its refusal
module _ (s : StationMemory) (c : StationOrder) where
  pub w_stays : (station_command s c).1.w ≡ s.w
  unfolding station_command
  w_stays = go (eqb (station_refusal s c) 0)
    where
      go : (t : Bool) → (cond t (embed s (record_for s c) c.process (obeyed_on s (record_for s c) c)) (Refused (station_refusal s c), s)).1.w ≡ s.w
      go true = refl
      go false = refl

  pub command_number : number_of (station_command s c).0 ≡ station_refusal s c
  command_number = go (station_refusal s c) refl
    where
      go : (k : ℕ) → station_refusal s c ≡ k → number_of (station_command s c).0 ≡ station_refusal s c
      go zero z = ap (λ (x : Reply × StationMemory). number_of x.0) (obeys s c z) ∙ obeyed_replies _ _ _ _ s.words c.order c.value ∙ sym z
      go (suc k) z = ap (λ (x : Reply × StationMemory). number_of x.0) (refuses s c (λ y. omega (arith, y, z)))

  refused_with_is : (number_of (station_command s c).0 ≡ 0 → ⊥) → station_command s c ≡ (Refused (number_of (station_command s c).0), s)
  refused_with_is h =
      refuses s c (λ z. h (command_number ∙ z)) ∙ ap (λ (k : ℕ). (Refused k, s)) (sym command_number)

w_after : (cs : List StationOrder) (s : StationMemory) → (station_after s cs).w ≡ s.w
unfolding station_after
w_after [] s = refl
w_after (c ∷ cs) s = w_after cs (station_command s c).1 ∙ w_stays s c

-- one command more done before
abbrev one_further : FileRun × StationMemory → FileRun × StationMemory
one_further x = (record { number = x.0.number; done = suc x.0.done }, x.1)

one_more : (rs : List BoardRecord) (done : ℕ) (s : StationMemory) → run_records (suc done) rs s ≡ one_further (run_records done rs s)
unfolding run_records
one_more [] done s = refl
one_more (r ∷ rs) done s = go (eqb (number_of x.0) 0) (one_more rs (suc done) x.1)
  where
    x : Reply × StationMemory
    x = station_command s (command_of s.w r)

    go : (t : Bool) → run_records (suc (suc done)) rs x.1 ≡ one_further (run_records (suc done) rs x.1)
        → cond t (run_records (suc (suc done)) rs x.1) (record { number = number_of x.0; done = suc done }, x.1)
        ≡ one_further (cond t (run_records (suc done) rs x.1) (record { number = number_of x.0; done = done }, x.1))
    go true e = e
    go false e = refl

-- a record, and the rest after it
module _ (s : StationMemory) (r : BoardRecord) (rs : List BoardRecord) where
  abbrev c : StationOrder
  c = command_of s.w r

  abbrev x : Reply × StationMemory
  x = station_command s c

  abbrev cs : List StationOrder
  cs = map (command_of s.w) rs

  go_on : station_refusal s c ≡ 0 → (out : FileRun × StationMemory) → OneByOne x.1 cs out → OneByOne s (c ∷ cs) (one_further out)
  unfolding station_after
  go_on z out o =
      record { so_many = let h = o.so_many in omega arith; accepted = (z, o.accepted); memory = o.memory; number = o.number }

  stop : (number_of x.0 ≡ 0 → ⊥) → OneByOne s (c ∷ cs) (record { number = number_of x.0; done = 0 }, x.1)
  unfolding station_after
  stop h =
      let same = refused_with_is s c h in let stays : x.1 ≡ s = ap (λ (y : Reply × StationMemory). y.1) same in
      record {
        so_many = omega arith;
        accepted = tt;
        memory = stays;
        number = (h, subst (λ (m : StationMemory). station_command m c ≡ (Refused (number_of x.0), m)) (sym stays) same);
      }

  either_way : OneByOne x.1 (map (command_of x.1.w) rs) (run_records 0 rs x.1) → (t : Bool) → eqb (number_of x.0) 0 ≡ t
      → OneByOne s (c ∷ cs) (cond t (run_records 1 rs x.1) (record { number = number_of x.0; done = 0 }, x.1))
  either_way o true e =
      subst (OneByOne s (c ∷ cs)) (sym (one_more rs 0 x.1))
      (go_on (sym (command_number s c) ∙ eqb-true (number_of x.0) 0 e) (run_records 0 rs x.1)
      (subst (λ (w : ℕ). OneByOne x.1 (map (command_of w) rs) (run_records 0 rs x.1)) (w_stays s c) o))
  either_way o false e = stop (eqb-false (number_of x.0) 0 e)

one_by_one : (rs : List BoardRecord) (s : StationMemory) → OneByOne s (map (command_of s.w) rs) (run_records 0 rs s)
unfolding run_records station_after
one_by_one [] s = record { so_many = omega arith; accepted = tt; memory = refl; number = refl }
one_by_one (r ∷ rs) s =
    either_way s r rs (one_by_one rs (station_command s (command_of s.w r)).1) (eqb (number_of (station_command s (command_of s.w r)).0) 0) refl

-- A run is as if its records came one by one, up to the first refusal; a file that row 25 or 26 refuses is not run.
module _ (file : List ℕ) (s : StationMemory) where
  abbrev whole : Bool → FileRun × StationMemory
  whole t = cond t (run_records 0 (decode file) s) (record { number = file_number file; done = 0 }, s)

  runs : (t : Bool) → eqb (file_number file) 0 ≡ t → run_file file s ≡ whole t
  unfolding run_file
  runs t e = ap whole e

pub every_file_runs : EveryFileRuns
every_file_runs file s = record {
  right = λ z. subst (OneByOne s (commands_of s.w file)) (sym (runs file s true (eq-eqb (file_number file) 0 z))) (one_by_one (decode file) s);
  wrong = λ h. runs file s false (ne_eqb (file_number file) 0 h);
}

-- Lists of commands one after the other.
after_append : (cs more : List StationOrder) (s : StationMemory) → station_after s (cs ++ more) ≡ station_after (station_after s cs) more
unfolding station_after
after_append [] more s = refl
after_append (c ∷ cs) more s = after_append cs more (station_command s c).1

seen_append : (j : RecordNumber) (cs more : List StationOrder) (s : StationMemory) → seen_all j s (cs ++ more) ≡ seen_all j s cs ++ seen_all j (station_after s cs) more
unfolding station_after seen_all
seen_append j [] more s = refl
seen_append j (c ∷ cs) more s = ap (λ es. seen j s c ∷ es) (seen_append j cs more (station_command s c).1)

-- A run among commands is a list of commands.
pub runs_among_commands : RunsAmongCommands
unfolding station_after
runs_among_commands s cs file = record {
  ran = ran;
  ran_is = refl;
  memory = go (eqb (file_number file) 0) refl ∙ sym (after_append cs ran s);
  seen = λ j. seen_append j cs ran s;
}
  where
    m : StationMemory
    m = station_after s cs

    ran : List StationOrder
    ran = take (run_file file m).0.done (commands_of s.w file)

    go : (t : Bool) → eqb (file_number file) 0 ≡ t → (run_file file m).1 ≡ station_after m ran
    go true e =
        ((every_file_runs file m).right (eqb-true (file_number file) 0 e)).memory
        ∙ ap (λ (w : ℕ). station_after m (take (run_file file m).0.done (commands_of w file))) (w_after cs s)
    go false e =
        let same = (every_file_runs file m).wrong (eqb-false (file_number file) 0 e) in
        ap (λ (y : FileRun × StationMemory). y.1) same
        ∙ ap (λ (y : FileRun × StationMemory). station_after m (take y.0.done (commands_of s.w file))) (sym same)
