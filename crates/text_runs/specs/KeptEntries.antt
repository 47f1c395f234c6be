-- A text's entries as the list of numbers keeps them, and a run and its report by that list.
-- Inner: `TextLaws` and `StopLaws` of `whole_runs` prove that these are the parts of `TextRun`'s run and of `StopPlaces`' report.
use Rattle.std.specs.Prelude.{◌≡◌, ◌≤◌, ℕ, List, [], map, Bool, false, drop, replicate}
use Rattle.llsc.specs.declared.Order.{Order}
use Rattle.notation.specs.declared.Entry.{Entry}
use Rattle.notation.specs.Grammar.{Said, deepest}
use Rattle.notation.specs.EntryWords.{entry_in, place_in}
use Rattle.notation.specs.Scan.{scan, between}
use Rattle.notation.specs.FirstLine.{whole}
use Rattle.positions.specs.declared.Item.{Item}
use Rattle.positions.specs.declared.StopReport.{StopReport}
use Rattle.positions.specs.declared.StopReport.TheVariants.{AtItem}
use Rattle.text_runs.specs.Machines.{Machine}
use Rattle.text_runs.specs.TextRun.{Ended, process_of, ended, begun, started, carried_out}
use Rattle.text_runs.specs.StopPlaces.{reported_process, sizes, started_report}

-- the entries that the list of a text keeps
abbrev pub entries_in : List ℕ → List Entry
entries_in list = map entry_in list

-- and the places of their items
abbrev pub places_in : List ℕ → List ℕ
places_in list = map place_in list

-- what a number of the list reports of the item that it keeps
abbrev pub word_item : ℕ → Item
word_item word = record { place = place_in word; process = reported_process (process_of (entry_in word)) }

abbrev pub word_report : ℕ → ℕ → ℕ → StopReport
word_report n w word = AtItem (sizes n w) (word_item word)

-- what a text with this first line and these entries says
abbrev pub said_with : ℕ → ℕ → ℕ → List Entry → Said
said_with n w v es = record { n = n; w = w; initial = v; entries = es }

module _ (M : Machine) where
  -- a run that is refused before its set-up
  abbrev pub refused_with : ℕ → M.Memory → List ℕ → Ended M
  refused_with k m list = ended M (begun M false m list k)

  -- the set-up and the entries
  abbrev pub started_with : Bool → ℕ → ℕ → ℕ → List Entry → M.Memory → List ℕ → Ended M
  started_with t n w v es m list = started M t m list (said_with n w v es) (M.set_up m n w (replicate w v))

  -- where the run stops, where `ps` are the places of the entries
  abbrev pub report_with : Bool → ℕ → ℕ → ℕ → List Entry → List ℕ → M.Memory → List ℕ → StopReport
  report_with t n w v es ps m list = started_report M t list (said_with n w v es) ps (M.set_up m n w (replicate w v))

  -- what is left of a text run once the first line is read, where the items begin at a place
  abbrev pub says_after : Bool → List ℕ → ℕ → ℕ → ℕ → ℕ → M.Memory → List ℕ → Ended M
  says_after t s n w v items m list = carried_out M t m list (whole n w v (scan (drop items s) (between false) [] [] deepest))

-- A process number above 15 is none of N: on this memory its commands are all refused, and with one number.
pub record FarRefused (M : Machine) (m : M.Memory) : Type 0 where
  pub number : ℕ
  pub some : number ≡ 0 → ⊥
  pub refused : (p : ℕ) (o : Order) (v : List ℕ) → 16 ≤ p → M.number_of (M.command m p o v).0 ≡ number
