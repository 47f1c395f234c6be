-- The theorems.
use mathlib.Core.Path.{sym, subst, ◌∙◌}
use Rattle.model.specs.Linearizable.{Claim}
use Rattle.linearization.proofs.Theorems.{promise_3}
use Rattle.station.specs.StationSetUp.{station_set_up}
use Rattle.station.specs.StationHistory.{given_all}
use Rattle.station_laws.specs.AsIfAlone.{AsIfAlone, Promise3ByRecord}
use Rattle.station_laws.proofs.AnyMemory.{any_memory}
use Rattle.station_laws.proofs.StationInRange.{station_sound}
use Rattle.station_laws.proofs.StationBufferLaws
use Rattle.station_laws.proofs.StationWordLaws
use Rattle.station_laws.specs.StationBuffers.{EveryBufferOnceByRecord}
use Rattle.station_laws.specs.StationChanges.{ChangesAreSuccessesByRecord}
use Rattle.station_laws.specs.StationWordsStay.{WordsStayByRecord}
use Rattle.station_laws.specs.StationOwnDoing.{StationNeverForItsOwnDoing}
use Rattle.station_laws.proofs.StationSetUpLaws.{lent_alone, h_w, alone_shaped, alone_admits}
use Rattle.station_laws.proofs.LoneBenches.{inv, saw}
use Rattle.station_laws.specs.OthersStay.{OthersStay}
use Rattle.station_laws.specs.OneRecord.{OneRecordIsTheBench}
use Rattle.station_laws.proofs.OneRecordLaws.{one_record_command}
use Rattle.station_laws.proofs.OneRecordSetUp.{one_record_set_up}
use Rattle.station_laws.proofs.OneRecordRuns.{one_record_runs}
use Rattle.station_laws.proofs.OnlyOthers.{only}

-- An accepted command on one record leaves the others in place, for every memory.
pub others_stay : OthersStay
others_stay = only

-- After a set-up the accepted commands of one record are answered as if its bench stood alone.
pub as_if_alone : AsIfAlone
as_if_alone s shaped n w r value cs e j hj m ok e' =
    saw s shaped n w r value e cs j hj
    ∙ any_memory (lent_alone s j n w) m (alone_shaped s shaped n w r value e j hj) ok n w value (h_w s shaped n w r value e) (alone_admits s shaped n w r value e j) e'
    (given_all j (station_set_up s n w r value).1 cs)

-- Promise 3, record by record.
pub promise_3_by_record : Promise3ByRecord
promise_3_by_record s shaped n w r value cs e j hj =
    subst (Claim w value) (sym (saw s shaped n w r value e cs j hj))
    (promise_3 (lent_alone s j n w) (alone_shaped s shaped n w r value e j hj) n w value (given_all j (station_set_up s n w r value).1 cs) (alone_admits s shaped n w r value e j))

-- After a set-up no command is refused by rows 1, 2, 23, 3 or 9.
pub station_never_for_its_own_doing : StationNeverForItsOwnDoing
station_never_for_its_own_doing s shaped n w r value cs e c = station_sound n w r (h_w s shaped n w r value e) _ _ _ (inv s shaped n w r value e cs) c

-- The 3N buffer numbers of each record are each found exactly once among owned and kept.
pub every_buffer_once_by_record : EveryBufferOnceByRecord
every_buffer_once_by_record = StationBufferLaws.every_buffer_once_by_record

-- A record's X changes as often as an SC on it succeeds.
pub changes_are_successes_by_record : ChangesAreSuccessesByRecord
changes_are_successes_by_record = StationWordLaws.changes_are_successes_by_record

-- The words of every success on a record, and the set-up value, stay in their buffer until its X has changed 2N more
-- times.
pub words_stay_by_record : WordsStayByRecord
words_stay_by_record = StationWordLaws.words_stay_by_record

-- With R = 1 the station is the bench as it was: its set-up, its command, and every command after a set-up.
pub one_record_is_the_bench : OneRecordIsTheBench
one_record_is_the_bench = record { set_up_lem = one_record_set_up; commands = one_record_command; runs = one_record_runs }
