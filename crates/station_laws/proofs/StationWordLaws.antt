-- The changes of a record's X, and the words of its successes, in the station as on a bench of its own.
use mathlib.Core.Path.{◌≡◌, refl, sym, ap, ap₂, subst, ◌∙◌}
use mathlib.Core.Bool.{Bool, true, false, cond}
use mathlib.Core.List.{List, [], ◌∷◌, ◌++◌}
use Prim.Native.Nat.{ℕ, suc, ◌+◌, ◌<◌}
use native.Mathlib.Omega.{arith}
use Rattle.model.specs.Places.{XPlace}
use Rattle.model.specs.Sizes.{buffers, halves}
use Rattle.model.specs.Machine.{Memory}
use Rattle.model.specs.SetUp.{set_up}
use Rattle.llsc.specs.Answers.{refused, answered, sc_truth}
use Rattle.llsc.specs.History.{Command, Event, calls, slots}
use Rattle.after_commands.specs.After.{after}
use Rattle.after_commands.specs.Changes.{same_content, changes, successes}
use Rattle.after_commands.specs.WordsStay.{Writes, Stay, lasting}
use Rattle.linearization.proofs.Theorems.{changes_are_successes, words_stay}
use Rattle.station.specs.declared.RecordNumber.{RecordNumber}
use Rattle.station.specs.Station.{StationMemory, buffer_of}
use Rattle.station.specs.StationRefusals.{StationOrder, StationShaped}
use Rattle.station.specs.StationCommand.{station_command}
use Rattle.station.specs.StationSetUp.{station_set_up}
use Rattle.station.specs.StationHistory.{station_says, is_for, nobody, plain, given, seen, given_all, seen_all, station_after}
use Rattle.station_laws.specs.StationChanges.{x_of, changes_of, ChangesAreSuccessesByRecord}
use Rattle.station_laws.specs.StationWordsStay.{WritesOf, StayOf, WordsStayByRecord}
use Rattle.station_laws.proofs.StationRuns.{Inv, step_inv, inv_after}
use Rattle.station_laws.proofs.StationSetUpLaws.{lent_alone, h_w, set_up_inv, alone_shaped, alone_admits}
use Rattle.station_laws.proofs.StationBufferLaws.{buffer_same}
use Rattle.station_laws.proofs.LoneBenches.{given_append, given_one, inv, saw, saw_next}

module _ (N W R : ℕ) (h_w : 0 < halves W) (j : RecordNumber) (hj : j.0 < R) where
  x_same : (k : ℕ) (s : StationMemory) (ms : RecordNumber → Memory) → Inv N W R h_w k s ms → x_of s j ≡ (ms j).bench.x.content
  x_same k s ms v = ap (λ (x : XPlace). x.content) (v.agrees j hj).x

  -- record j's X changes as often as that of its bench
  pub changes_same : (cs : List StationOrder) (k : ℕ) (s : StationMemory) (ms : RecordNumber → Memory) → Inv N W R h_w k s ms → changes_of j s cs ≡ changes (ms j) (given_all j s cs)
  unfolding changes_of changes given_all
  changes_same [] k s ms v = refl
  changes_same (c ∷ cs) k s ms v =
      let u = step_inv N W R h_w k s ms v c in
      ap₂ ◌+◌ (ap₂ (λ a b. cond (same_content a b) 0 1) (x_same k s ms v) (x_same (suc k) _ _ u)) (changes_same cs (suc k) _ _ u)

  -- what stays on its bench stays in the station
  pub stay_same : (most : ℕ) (ws : List ℕ) (k : ℕ) (s : StationMemory) (ms : RecordNumber → Memory) → Inv N W R h_w k s ms → Stay most ws (ms j) → StayOf j most ws s
  stay_same most ws k s ms v stays more few =
      let h = (v.each j hj).holds in
      let b = (ms j).bench.x.content.buf in
      let below : b.0 < buffers N = subst (λ i. i < buffers N) (sym h.related.places.x.buf) h.range.all.xbuf in
      ap (λ x. buffer_of (station_after s more) j x.buf) (x_same k s ms v)
      ∙ buffer_same N W R h_w _ _ _ (inv_after N W R h_w more k s ms v) j hj b below
      ∙ stays (given_all j s more) (subst (λ n. n < most) (changes_same more k s ms v) few)

-- A command that record j saw answered is one that its bench was given: it names the same process.
given_of_answer : (j : RecordNumber) (s : StationMemory) (c : StationOrder) (t : Bool) (k : ℕ) → (seen j s c).said ≡ answered (sc_truth t) k → (given j s c).process ≡ c.process
given_of_answer j s c t k e = go (is_for j s c) e
  where
    go : (b : Bool)
        → (cond {A = Event} b (record { command = plain c; said = station_says (station_command s c).1 c.process (station_command s c).0 }) (record { command = nobody s.n; said = refused 4 })
        ).said ≡ answered (sc_truth t) k
        → (cond b (plain c) (nobody s.n)).process ≡ c.process
    go true e = refl
    go false e = let z : ◌≡◌ {A = ℕ} 0 1 = cc in omega arith

module _ (s : StationMemory) (shaped : StationShaped s) (n w r : ℕ) (value : List ℕ) (e : (station_set_up s n w r value).0 ≡ 0) (j : RecordNumber) (hj : j.0 < r) where
  abbrev begun : StationMemory
  begun = (station_set_up s n w r value).1

  abbrev lone : Memory
  lone = (set_up (lent_alone s j n w) n w value).1

  abbrev h : 0 < halves w
  h = h_w s shaped n w r value e

  writes_same : (cs : List StationOrder) (c : StationOrder) (offered : List ℕ) → WritesOf j begun cs c offered → Writes lone (given_all j begun cs) (given j (station_after begun cs) c) offered
  writes_same cs c offered x = let same = given_of_answer j (station_after begun cs) c true x.count x.ends in record {
    start = x.start;
    steps = x.steps;
    count = x.count;
    running_sc = ap₂ slots (sym (saw s shaped n w r value e cs j hj)) same ∙ x.running_sc;
    ends = sym (ap (λ (v : Event). v.said) (saw_next s shaped n w r value e cs c j hj)) ∙ x.ends;
  }

  pub changes_are : (cs : List StationOrder) → changes_of j begun cs ≡ successes (calls (seen_all j begun cs))
  changes_are cs =
      changes_same n w r h j hj cs 1 _ _ (set_up_inv s shaped n w r value e)
      ∙ changes_are_successes (lent_alone s j n w) (alone_shaped s shaped n w r value e j hj) n w value (given_all j begun cs) (alone_admits s shaped n w r value e j)
      ∙ ap (λ es. successes (calls es)) (sym (saw s shaped n w r value e cs j hj))

  pub set_up_value_stays : StayOf j (lasting n) value begun
  set_up_value_stays =
      stay_same n w r h j hj (lasting n) value 1 _ _ (set_up_inv s shaped n w r value e)
      (words_stay.of_set_up (lent_alone s j n w) (alone_shaped s shaped n w r value e j hj) n w value (alone_admits s shaped n w r value e j))

  pub written_words_stay : (cs : List StationOrder) (c : StationOrder) (offered : List ℕ) → WritesOf j begun cs c offered → StayOf j (lasting n) offered (station_after begun (cs ++ c ∷ []))
  written_words_stay cs c offered x =
      let same = given_append j begun cs (c ∷ []) ∙ ap (given_all j begun cs ++◌) (given_one j (station_after begun cs) c) in
      let stays = words_stay.of_writes (lent_alone s j n w) (alone_shaped s shaped n w r value e j hj) n w value (alone_admits s shaped n w r value e j) (given_all j begun cs)
      (given j (station_after begun cs) c) offered (writes_same cs c offered x) in
      stay_same n w r h j hj (lasting n) offered _ _ _ (inv s shaped n w r value e (cs ++ c ∷ []))
      (subst (λ (ds : List Command). Stay (lasting n) offered (after lone ds)) (sym same) stays)

pub changes_are_successes_by_record : ChangesAreSuccessesByRecord
changes_are_successes_by_record s shaped n w r value cs e j hj = changes_are s shaped n w r value e j hj cs

pub words_stay_by_record : WordsStayByRecord
words_stay_by_record = record { of_set_up = set_up_value_stays; of_writes = written_words_stay }
