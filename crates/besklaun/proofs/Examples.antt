-- The definitions of the library in small cases, by computation: verdicts, reasons and stops in C's terms, turns in bytes
-- that just suffice, views, and the marks of a trace.
use mathlib.Core.Path.{◌≡◌, refl}
use mathlib.Core.List.{[], ◌∷◌}
use mathlib.Core.Bool.{true, false}
use lib.ListN.{replicate}
use Rattle.listing.specs.Quoted.{quoted}
use Rattle.verdicts.specs.declared.Verdict.TheVariants.{Refused, Yes, No}
use Rattle.llsc.specs.declared.refusals.Refusal.TheVariants.{NoSuchProcess}
use Rattle.verdicts.specs.declared.Fault.TheVariants.{Overlap}
use Rattle.verdicts.specs.declared.Judgement.{Judgement as Said}
use Rattle.verdicts.specs.declared.Judgement.TheVariants.{No as No·said}
use Rattle.std.specs.Prelude.{Result, Ok}
use Rattle.llsc.specs.declared.refusals.Refusal.{Refusal}
use Rattle.enumeration.specs.declared.Schedule.{Schedule}
use Rattle.besklaun.specs.Judgements.{judgement_of, reasoned_of}
use Rattle.positions.specs.declared.StopReport.TheVariants.{NotRead, AtFault, AtNoItem, AtItem}
use Rattle.text_runs.specs.StopPlaces.{sizes}
use Rattle.besklaun.specs.TextReports.{stop_of}
use Rattle.besklaun.specs.TurnBytes.{schedule_into}
use Rattle.model.specs.View.{view_number, view_part}
use Rattle.besklaun.specs.Views.{view_told}
use Rattle.besklaun.specs.MarkedTraces.{mark_told}
use Rattle.answers.specs.Readers.{digits_after, number_in, spaced_number, expected}
use Rattle.marking.specs.Reading.{line_in}
use Rattle.marking.specs.Marked.{marked_from}

-- a refused log has its number and no yes; yes and no have none
record Verdicts : Type 0 where
  refused_log : judgement_of (Refused NoSuchProcess) ≡ record { number = 4; yes = false }
  yes_log : judgement_of Yes ≡ record { number = 0; yes = true }
  no_log : judgement_of No ≡ record { number = 0; yes = false }

verdicts : Verdicts
verdicts = record { refused_log = refl; yes_log = refl; no_log = refl }

-- calls 3 and 7 overlap: both are told
overlap : Said
overlap = No·said (Overlap 3 7)

both_calls : reasoned_of overlap
    ≡ record { number = 0; yes = false; condition = 2; given = false; truth = false; call = 3; other = 7 }
unfolding overlap
both_calls = refl

-- the turns 1 and 0 in three bytes, in two, which suffice, and in one, which stays
found : Result Schedule Refusal
found = Ok (record { count = 2; turns = 1 ∷ 0 ∷ replicate 62 0 })

record Turns : Type 0 where
  byte_behind : schedule_into found (9 ∷ 9 ∷ 9 ∷ []) ≡ (record { refusal = 0; count = 2 }, 1 ∷ 0 ∷ 9 ∷ [])
  exact_room : schedule_into found (9 ∷ 9 ∷ []) ≡ (record { refusal = 0; count = 2 }, 1 ∷ 0 ∷ [])
  too_few : schedule_into found (9 ∷ []) ≡ (record { refusal = 0; count = 2 }, 9 ∷ [])

turns : Turns
unfolding found
turns = record { byte_behind = refl; exact_room = refl; too_few = refl }

-- success 0 is the value, success 2 the second of the list, and there is no success 3
record Views : Type 0 where
  value : view_told 2 (1 ∷ 2 ∷ []) (3 ∷ 4 ∷ 5 ∷ 6 ∷ []) 0 ≡ record { number = 0; written = false; start = 0; count = 2 }
  second : view_told 2 (1 ∷ 2 ∷ []) (3 ∷ 4 ∷ 5 ∷ 6 ∷ []) 2 ≡ record { number = 0; written = true; start = 2; count = 2 }
  third : view_told 2 (1 ∷ 2 ∷ []) (3 ∷ 4 ∷ 5 ∷ 6 ∷ []) 3 ≡ record { number = 15; written = false; start = 0; count = 0 }

views : Views
unfolding view_number view_part
views = record { value = refl; second = refl; third = refl }

-- the marks of two starts, in room that just suffices, and in room of four bytes
record Marks : Type 0 where
  whole : mark_told (quoted "1 0 start L\n2 1 start V\n") (replicate 28 9) ≡ (28, quoted "  1 0 start L\n~ 2 1 start V\n")
  part : mark_told (quoted "1 0 start L\n2 1 start V\n") (replicate 4 9) ≡ (28, quoted "  1 ")

marks : Marks
unfolding marked_from line_in number_in spaced_number expected digits_after
marks = record { whole = refl; part = refl }

-- a stop of each kind, with what is known there
record Stops : Type 0 where
  not_read : stop_of NotRead ≡ record { kind = 0; place = 0; n = 0; w = 0; process = 0 }
  at_fault : stop_of (AtFault 9) ≡ record { kind = 1; place = 9; n = 0; w = 0; process = 0 }
  no_item : stop_of (AtNoItem (sizes 3 5)) ≡ record { kind = 2; place = 0; n = 3; w = 5; process = 0 }
  at_item : stop_of (AtItem (sizes 3 5) (record { place = 9; process = 7 })) ≡ record { kind = 3; place = 9; n = 3; w = 5; process = 7 }

stops : Stops
stops = record { not_read = refl; at_fault = refl; no_item = refl; at_item = refl }
