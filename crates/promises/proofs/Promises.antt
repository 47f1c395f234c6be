-- The promises, each by the theorems that stand.
use native.Mathlib.Omega.{arith}
use Rattle.linearization.proofs.Theorems as Bench
use Rattle.station_laws.proofs.Theorems as Station
use Rattle.station_facts.proofs.Accepts.{obeys}
use Rattle.commuting_laws.proofs.Theorems.{follows_doing, depends_only, alters_no_other, commute}
use Rattle.commuting_laws.proofs.OnTheBench.{commute_on_the_bench}
use Rattle.notation.proofs.Theorems as Notation
use Rattle.listing.proofs.Theorems.{after_divisions}
use Rattle.text_laws.proofs.FinishLaws.{until_answered, finish_bounded}
use Rattle.text_laws.proofs.TraceTruth as Trace
use Rattle.station_text_machine.proofs.Theorems.{record_0_alone, text_set_up}
use Rattle.station_text_laws.proofs.Theorems.{entry_by_entry}
use Rattle.held_text_model.proofs.FirstStateLaws.{every_first_state}
use Rattle.marking.proofs.Theorems.{marks_mean_apart, trace_shows_line, marked_change_places}
use Rattle.marking_laws.proofs.Theorems.{every_text_is_marked, marked_fits}
use Rattle.verdicts.proofs.VerdictLaws.{verdict_says}
use Rattle.verdicts.proofs.ReasonLaws.{verdict_of_reason, reason_exactly_at_no}
use Rattle.reasons.proofs.ToldAnswers.{reason_5_shown}
use Rattle.verdict_laws.proofs.Theorems.{every_history_earns_yes, yes_is_right}
use Rattle.station_verdict_laws.proofs.Theorems.{every_history_earns_yes_by_record}
use Rattle.sums.proofs.Theorems.{season_table, any_order, right_taken, sums_stay}
use Rattle.season_laws.proofs.Theorems.{season_takes}
use Rattle.enumeration.proofs.Theorems.{every_schedule_once, in_dictionary_order, after_follows}
use Rattle.enumeration.proofs.ReplyTheorems.{number_of_found, found_of_number}
use Rattle.turns_model.proofs.Theorems.{every_turn_says}
use Rattle.boards.proofs.Theorems.{merge_merges, only_one, empty_gives_other}
use Rattle.board_commands.proofs.Theorems.{every_file_runs, runs_among_commands}
use Rattle.board_laws.proofs.Theorems.{every_listed_run, every_exported_run}
use Rattle.moir_linearization.proofs.Theorems as Moir
use Rattle.moir_text_model.proofs.Theorems.{text_order}
use Rattle.moir_text_model.proofs.TraceTruth as MoirTrace
use Rattle.promises.specs.Promises.{Promise1, Promise2, Promise3, Promise4, NoOwnDoing}
use Rattle.promises.specs.Promises.{SeveralRecords, OneItemAlone, ChangePlaces}
use Rattle.promises.specs.TextRunPromises.{EveryTextIsRead, NumbersOneWay, DigitsByDivision, EveryTextIsPromised}
use Rattle.promises.specs.TextRunPromises.{TextOnAStation, StateAfterEntries, FinishEnds, EveryTraceLineIsTrue, MarksAreRight}
use Rattle.promises.specs.LogPromises.{YesExactlyWhen, Judge, Reason, Season, AnyOrder}
use Rattle.promises.specs.LogPromises.{RightListingsTaken, ListingsAreTaken}
use Rattle.promises.specs.InputPromises.{EverySchedule, BothUndo, Turns, Merge, BoardRun}
use Rattle.promises.specs.MoirPromises.{MoirPromise1, MoirPromise2, MoirPromise3, WithoutTheBound, EveryMoirLineIsTrue}
use Rattle.promises.proofs.StationRefusals.{refused_exactly, set_up_refused_exactly}
use Rattle.promises.proofs.MoirRefusals as MoirRefusals
use Rattle.promises.proofs.TextRuns as TextRuns

-- a station and its bench
pub promise_1 : Promise1
promise_1 = (refused_exactly, set_up_refused_exactly)

pub promise_2 : Promise2
promise_2 = (obeys, follows_doing)

pub promise_3 : Promise3
promise_3 = (Bench.promise_3, Station.promise_3_by_record)

pub promise_4 : Promise4
promise_4 = (
  (Bench.every_buffer_once, Bench.changes_are_successes, Bench.words_stay),
  (Station.every_buffer_once_by_record, Station.changes_are_successes_by_record, Station.words_stay_by_record),
)

pub no_own_doing : NoOwnDoing
no_own_doing = (Bench.never_for_its_own_doing, Station.station_never_for_its_own_doing)

pub several_records : SeveralRecords
several_records = (Station.others_stay, Station.as_if_alone, Station.one_record_is_the_bench)

pub one_item_alone : OneItemAlone
one_item_alone = (follows_doing, alters_no_other, depends_only)

pub change_places : ChangePlaces
change_places = (commute, commute_on_the_bench)

-- texts
pub every_text_is_read : EveryTextIsRead
every_text_is_read s = record {
  right_or_fault = Notation.right_or_fault s;
  not_both = Notation.fault_is_wrong s;
  one_saying = Notation.says_one_thing s;
  one_number = Notation.one_number s;
  one_place = Notation.one_place s;
}

pub numbers_one_way : NumbersOneWay
numbers_one_way = (Notation.only_digits, Notation.digits_for_each, Notation.text_again)

pub digits_by_division : DigitsByDivision
digits_by_division = after_divisions

pub every_text_is_promised : EveryTextIsPromised
every_text_is_promised = TextRuns.every_text_is_promised

pub text_on_a_station : TextOnAStation
text_on_a_station = (entry_by_entry, text_set_up, record_0_alone)

pub state_after_entries : StateAfterEntries
state_after_entries = (every_first_state _, every_first_state _)

pub finish_ends : FinishEnds
finish_ends = (until_answered, finish_bounded)

pub every_trace_line_is_true : EveryTraceLineIsTrue
every_trace_line_is_true = Trace.every_line_is_true

pub marks_are_right : MarksAreRight
marks_are_right = (marks_mean_apart, trace_shows_line, marked_change_places, every_text_is_marked, marked_fits)

-- logs and listings
pub yes_exactly_when : YesExactlyWhen
yes_exactly_when = verdict_says

pub judge : Judge
judge = (every_history_earns_yes, every_history_earns_yes_by_record, yes_is_right)

pub reason : Reason
reason = (
  λ n w value log. record {
    verdict = verdict_of_reason n w value log;
    at_no = (reason_exactly_at_no n w value log).at_no;
    only_at_no = (reason_exactly_at_no n w value log).only;
  },
  reason_5_shown,
)

pub season : Season
season = season_table

pub any_order_same : AnyOrder
any_order_same n w xs ys p h = any_order n w p (omega (arith, h))

pub right_listings_taken : RightListingsTaken
right_listings_taken = (right_taken, sums_stay)

pub listings_are_taken : ListingsAreTaken
listings_are_taken s m text listing e h room lent names =
    season_takes s m text listing e h (omega (arith, room)) (omega (arith, lent))
    (λ a is. names a (Notation.read_is_right text a is))

-- schedules, turns and boards
pub every_schedule : EverySchedule
every_schedule a b ts is = record {
  once = every_schedule_once a b ts is;
  order = λ us there. in_dictionary_order a b ts us is there;
  next = after_follows a b ts is;
}

pub both_undo : BothUndo
both_undo = (number_of_found, found_of_number)

pub turns : Turns
turns = every_turn_says

pub merge : Merge
merge = (merge_merges, only_one, empty_gives_other)

pub board_run : BoardRun
board_run = (every_file_runs, runs_among_commands, every_listed_run, every_exported_run)

-- Moir's bench
pub moir_promise_1 : MoirPromise1
moir_promise_1 = (MoirRefusals.refused_exactly, MoirRefusals.set_up_refused_exactly)

pub moir_promise_2 : MoirPromise2
moir_promise_2 = MoirRefusals.obeys

pub moir_promise_3 : MoirPromise3
moir_promise_3 = (Moir.moir_order, Moir.short_order, text_order)

pub without_the_bound : WithoutTheBound
without_the_bound = (Moir.moir_always, Moir.never_for_its_own_doing)

pub every_moir_line_is_true : EveryMoirLineIsTrue
every_moir_line_is_true = MoirTrace.every_line_is_true
