-- Where in its text a run stopped, and at whose entry: at the fault that the text has, or at the item whose entry was
-- refused.
use Rattle.std.specs.Prelude.{ℕ, suc, ◌≤◌, ◌<◌, ◌≡◌, List, [], ◌∷◌, Bool, cond, eqb, leb, length, get_or, replicate}
use Rattle.notation.specs.declared.Entry.{Entry}
use Rattle.notation.specs.declared.Entry.TheVariants.{StartLl}
use Rattle.notation.specs.Grammar.{Text, Said, bytes, says, places, deepest}
use Rattle.notation.specs.Right.{Fault}
use Rattle.positions.specs.declared.Sizes.{Sizes}
use Rattle.positions.specs.declared.StopReport.{StopReport}
use Rattle.positions.specs.declared.StopReport.TheVariants.{NotRead, AtFault, AtNoItem, AtItem}
use Rattle.text_runs.specs.Machines.{Machine}
use Rattle.text_runs.specs.TextRun.{Progress, process_of, carry, carry_all, begun, room_needed, longest_text}

-- "process number not below N", and N is at most 16: a process number above 15 is reported as 16
abbrev pub reported_process : ℕ → ℕ
reported_process p = cond (leb p 15) p 16

-- N and W, as the first line has them
abbrev pub sizes : ℕ → ℕ → Sizes
sizes n w = record { n = n; w = w }

-- a stop at no item, where N and W were read
abbrev pub at_no_item : ℕ → ℕ → StopReport
at_no_item n w = AtNoItem (sizes n w)

-- a stop at the entry with this index, where `ps` are the places of the entries
abbrev pub at_entry : ℕ → ℕ → List Entry → List ℕ → ℕ → StopReport
at_entry n w es ps i = AtItem (sizes n w) (record { place = get_or ps i 0; process = reported_process (process_of (get_or es i (StartLl 0))) })

module _ (M : Machine) where
  -- "After a refused entry nothing more runs.": how many of the entries are carried out whole before the one that stops
  -- the run, all where none does. `!` is one of them, with all its steps.
  unfoldable pub stop_index : List Entry → Progress M → ℕ
  stop_index [] s = 0
  stop_index (e ∷ es) s = cond (eqb (carry M e s).stop 0) (suc (stop_index es (carry M e s))) 0

  -- the item whose entry stops the run; none where the run comes to its end
  abbrev pub item_report : ℕ → ℕ → List Entry → List ℕ → Progress M → StopReport
  item_report n w es ps s = cond (eqb (carry_all M es s).stop 0) (at_no_item n w) (at_entry n w es ps (stop_index es s))

  -- "then 1, 2, 3, then the set-up, then the entries": 1, 2 and 3 are at no item
  abbrev pub started_report : Bool → List ℕ → Said → List ℕ → ℕ × M.Memory → StopReport
  started_report t listing a ps prepared =
      cond (eqb prepared.0 0) (item_report a.n a.w a.entries ps (begun M t prepared.1 listing 0)) (at_no_item a.n a.w)

-- the stop in a text that is looked at: at its fault, or at an item of a right text
pub record StopInText (M : Machine) (t : Bool) (m : M.Memory) (text listing : List ℕ) (report : StopReport) : Type 0 where
  -- "A fault 10 or 11 stands at the first byte (the text's end counts as one) after which no text of any length could
  -- be right"
  pub fault : (k : ℕ) (p : Fault text k) → AtFault p.at ≡ report
  pub item : (x : Text deepest) → bytes x ≡ text → let a = says x in
      report ≡ started_report M t listing a (places x) (M.set_up m a.n a.w (replicate a.w a.initial))

-- The stop of a text run, whatever it was given: a text that is looked at is right or has one fault.
pub record StopsAt (M : Machine) (t : Bool) (m : M.Memory) (text listing : List ℕ) (report : StopReport) : Type 0 where
  -- "14 at its start, then 12 for length": the text is not looked at
  pub no_room : length listing < room_needed t → report ≡ NotRead
  pub too_long : longest_text < length text → report ≡ NotRead
  pub looked : room_needed t ≤ length listing → length text ≤ longest_text → StopInText M t m text listing report
