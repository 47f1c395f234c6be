-- Where in its text a run stopped, and at whose entry, part by part: the entries, the list that keeps them, and the whole
-- text.
use mathlib.Core.Path.{◌≡◌, refl, sym, ap, subst, ◌∙◌}
use mathlib.Core.Bool.{Bool, true, false, cond}
use mathlib.Core.List.{List, [], ◌∷◌, map}
use Prim.Native.Nat.{ℕ, suc, ◌-◌, ◌≤◌, ◌<◌}
use native.Mathlib.Omega.{arith}
use lib.Dec.{eqb, leb}
use lib.ListN.{length, get_or, take, replicate, length-map, length-take, get_or-map}
use lib.Seq.{get_or-take}
use borrow.Author.Tests.{eqb-true, eqb-false}
use Rattle.std.specs.Prelude.{Result, Ok, Err}
use Rattle.notation.specs.declared.Entry.{Entry}
use Rattle.notation.specs.declared.First.{First}
use Rattle.notation.specs.declared.items.Fault.{Fault as ReadFault}
use Rattle.notation.specs.declared.Entry.TheVariants.{StartLl, StartVl, StartSc, Step, Finish}
use Rattle.notation.specs.Grammar.{Text, Said, bytes, says, places, deepest}
use Rattle.notation.specs.Right.{Right, Fault}
use Rattle.notation.specs.Readers.{Headed, NotHeaded}
use Rattle.notation.specs.Groups.{ItemsEnded, ItemsClosed, ItemsBroken}
use Rattle.notation.specs.Places.{EndsAfter}
use Rattle.notation.specs.EntryWords.{entry_in, place_in, kept_process, kept_entry}
use Rattle.notation.specs.Listed.{Keeps}
use Rattle.notation.proofs.GroupLaws.{text_ended}
use Rattle.notation.proofs.ListedText.{listed_says, words_end, words_say, words_stand}
use Rattle.notation.proofs.ReplyPlaces.{no_first_fault, no_first_place, broken_fault, broken_place, closed_fault, closed_at}
use Rattle.notation.proofs.Theorems.{read_is_right, fault_is_wrong}
use Rattle.positions.specs.declared.StopReport.{StopReport}
use Rattle.positions.specs.declared.StopReport.TheVariants.{NotRead, AtFault, AtItem}
use Rattle.text_runs.specs.Machines.{Machine}
use Rattle.text_runs.specs.TextRun.{Progress, most_entries, process_of, room_needed, longest_text, begun, carry, carry_all}
use Rattle.text_runs.specs.StopPlaces.{reported_process, sizes, at_no_item, at_entry, stop_index, item_report, started_report, StopInText, StopsAt}
use Rattle.text_runs.specs.KeptEntries.{FarRefused, entries_in, places_in, word_report, said_with, report_with}
use Rattle.whole_runs.specs.Reading.{Faulty, broken, stray, ReadInto, Enough, EnoughRead, read_report}
use Rattle.text_runs.proofs.KeptLaws.{kept_run, kept_index}
use Rattle.whole_runs.specs.Carrying.{Over}

-- two reports of items are the same if they are where the run is stopped
same_item : (k n w : ℕ) {a b : StopReport} → ((k ≡ 0 → ⊥) → a ≡ b) → cond (eqb k 0) (at_no_item n w) a ≡ cond (eqb k 0) (at_no_item n w) b
same_item k n w {a} {b} f = pick (eqb k 0) refl
  where
    pick : (t : Bool) → eqb k 0 ≡ t → cond t (at_no_item n w) a ≡ cond t (at_no_item n w) b
    pick true q = refl
    pick false q = f (eqb-false k 0 q)

-- what is kept of a process number reports as the number itself
kept_reported : (p : ℕ) → reported_process (kept_process p) ≡ reported_process p
kept_reported p = pick (leb p 15) refl
  where
    pick : (t : Bool) → leb p 15 ≡ t → reported_process (cond t p 16) ≡ cond t p 16
    pick true q = simp q
    pick false q = refl

kept_process_lem : (e : Entry) → reported_process (process_of (kept_entry e)) ≡ reported_process (process_of e)
kept_process_lem (StartLl p) = kept_reported p
kept_process_lem (StartVl p) = kept_reported p
kept_process_lem (StartSc p k) = kept_reported p
kept_process_lem (Step p) = kept_reported p
kept_process_lem (Finish p) = kept_reported p

abbrev process_at : List Entry → ℕ → ℕ
process_at es i = reported_process (process_of (get_or es i (StartLl 0)))

-- the list that a text's entries are kept in reports an entry as the whole list does
kept_entry_lem : (n w k : ℕ) (es : List Entry) (ps : List ℕ) (i : ℕ) → i < k → at_entry n w (map kept_entry (take k es)) (take k ps) i ≡ at_entry n w es ps i
kept_entry_lem n w k es ps i small =
    let process : process_at (map kept_entry (take k es)) i ≡ process_at es i =
    ap (λ (e : Entry). reported_process (process_of e)) (get_or-map kept_entry (take k es) i (StartLl 0))
    ∙ kept_process_lem (get_or (take k es) i (StartLl 0))
    ∙ ap (λ (e : Entry). reported_process (process_of e)) (get_or-take k es i (StartLl 0) small) in
    ap (λ (place : ℕ). AtItem (sizes n w) (record { place = place; process = process_at (map kept_entry (take k es)) i })) (get_or-take k ps i 0 small)
    ∙ ap (λ (p : ℕ). AtItem (sizes n w) (record { place = get_or ps i 0; process = p })) process

-- the word of an entry has the place of its item, and its process
word_at : (n w at : ℕ) (entries : List ℕ) → at_entry n w (entries_in entries) (places_in entries) at ≡ word_report n w (get_or entries at 0)
unfolding entry_in
word_at n w at entries =
    let place : get_or (places_in entries) at 0 ≡ place_in (get_or entries at 0) = get_or-map place_in entries at 0 in
    let entry : get_or (entries_in entries) at (StartLl 0) ≡ entry_in (get_or entries at 0) = get_or-map entry_in entries at 0 in
    ap (λ (j : ℕ). AtItem (sizes n w) (record { place = j; process = process_at (entries_in entries) at })) place
    ∙ ap (λ (e : Entry). AtItem (sizes n w) (record { place = place_in (get_or entries at 0); process = reported_process (process_of e) })) entry

module _ (M : Machine) where
  -- a run that is stopped is stopped by one of its entries
  pub stop_inside : (es : List Entry) (s : Progress M) → s.stop ≡ 0 → ((carry_all M es s).stop ≡ 0 → ⊥) → stop_index M es s < length es
  unfolding carry_all stop_index
  stop_inside [] s z n = absurd (n z)
  stop_inside (e ∷ es) s z n = pick (eqb (carry M e s).stop 0) (λ q. stop_inside es (carry M e s) (eqb-true (carry M e s).stop 0 q) n)
    where
      pick : (t : Bool) → (t ≡ true → stop_index M es (carry M e s) < length es) → cond t (suc (stop_index M es (carry M e s))) 0 < suc (length es)
      pick true f = omega (arith, f refl)
      pick false f = omega arith

  -- what the list of a text's entries leaves
  module _ {at : ℕ} (entries : List ℕ) {s s' : Progress M} (x : Over M (entries_in entries) s at s') where
    abbrev stop_is : s'.stop ≡ (carry_all M (entries_in entries) s).stop
    stop_is = ap (λ (y : Progress M). y.stop) x.same

    pub stop_within : s.stop ≡ 0 → (s'.stop ≡ 0 → ⊥) → at < length entries
    stop_within z n =
        let inside = stop_inside (entries_in entries) s z (λ y. n (stop_is ∙ y)) in
        omega (arith, inside, x.index, length-map entries entry_in)

    pub item_read : (n w : ℕ) → cond (eqb s'.stop 0) (at_no_item n w) (word_report n w (get_or entries at 0))
        ≡ item_report M n w (entries_in entries) (places_in entries) s
    item_read n w =
        let report : ℕ → StopReport = at_entry n w (entries_in entries) (places_in entries) in
        same_item s'.stop n w (λ z. sym (word_at n w at entries) ∙ ap report x.index)
        ∙ ap (λ (k : ℕ). cond (eqb k 0) (at_no_item n w) (report (stop_index M (entries_in entries) s))) stop_is

  -- a text with a fault, wherever the reader says that it stands
  module _ {t : Bool} {m : M.Memory} {s list : List ℕ} where
    at_fault : {k place : ℕ} → Fault s k → ((j : ℕ) (p : Fault s j) → p.at ≡ place) → StopInText M t m s list (AtFault place)
    at_fault {k} q f = record { fault = λ j p. ap AtFault (f j p); item = λ x is. absurd (fault_is_wrong s k q (record { tree = x; text = is })) }

    pub line_stops : {place : ℕ} → NotHeaded s place → StopInText M t m s list (AtFault place)
    line_stops h = at_fault (no_first_fault h) (λ j. no_first_place h)

    module _ {n w v items : ℕ} (h : Headed s n w v items) where
      broken_stops : {k place : ℕ} → ItemsBroken s items deepest k place → StopInText M t m s list (AtFault place)
      broken_stops i = at_fault (broken_fault h i) (λ j. broken_place h i)

      closed_stops : {next : ℕ} {es : List Entry} → ItemsClosed s items deepest next es → StopInText M t m s list (AtFault (next - 1))
      closed_stops i = at_fault (closed_fault h i) (λ j p. omega (arith, closed_at h i p))

      faulty_stops : {f : ReadFault} → Faulty s items f → StopInText M t m s list (AtFault f.place)
      faulty_stops (broken _ i) = broken_stops i
      faulty_stops (stray next es i) = closed_stops i

    pub report_is : {report given : StopReport} → report ≡ given → StopInText M t m s list given → StopInText M t m s list report
    report_is e x = subst (StopInText M t m s list) (sym e) x

  -- the whole text run
  module _ {t : Bool} {m : M.Memory} {text list : List ℕ} where
    pub stops_14 : length list < room_needed t → StopsAt M t m text list NotRead
    stops_14 l = record { no_room = λ r. refl; too_long = λ r. refl; looked = λ r s. absurd (omega arith) }

    pub stops_12 : {report : StopReport} → longest_text < length text → report ≡ NotRead → StopsAt M t m text list report
    stops_12 l z = record { no_room = λ r. z; too_long = λ r. z; looked = λ r s. absurd (omega arith) }

    pub stops_looked : {report : StopReport} → room_needed t ≤ length list → length text ≤ longest_text → StopInText M t m text list report → StopsAt M t m text list report
    stops_looked r s p = record { no_room = λ l. absurd (omega arith); too_long = λ l. absurd (omega arith); looked = λ r s. p }

  module _ (far : (m : M.Memory) → FarRefused M m) where
    module _ (n w : ℕ) (k : ℕ) (es : List Entry) (ps : List ℕ) (enough : k ≤ most_entries → length es ≤ k) where
      abbrev kept : List Entry
      kept = map kept_entry (take k es)

      kept_item : (s : Progress M) → s.entries ≡ 0 → s.stop ≡ 0 → item_report M n w kept (take k ps) s ≡ item_report M n w es ps s
      kept_item s e z =
          same_item (carry_all M kept s).stop n w (λ x.
          let small : stop_index M kept s < k = omega (arith, stop_inside kept s z x, length-map (take k es) kept_entry, length-take k es) in
          kept_entry_lem n w k es ps (stop_index M kept s) small ∙ ap (at_entry n w es ps) (kept_index M far k es enough s e))
          ∙ ap (λ (x : Progress M). cond (eqb x.stop 0) (at_no_item n w) (at_entry n w es ps (stop_index M es s))) (kept_run M far k es enough s e)

      kept_started : (t : Bool) (listing : List ℕ) (v : ℕ) (prepared : ℕ × M.Memory)
          → started_report M t listing (said_with n w v kept) (take k ps) prepared ≡ started_report M t listing (said_with n w v es) ps prepared
      kept_started t listing v prepared =
          ap (λ (r : StopReport). cond (eqb prepared.0 0) r (at_no_item n w)) (kept_item (begun M t prepared.1 listing 0) refl refl)

    -- a right text, by what its list keeps
    module _ (t : Bool) (m : M.Memory) (list : List ℕ) {s list₀ entries : List ℕ} {to n w v items : ℕ} (l : Enough (length list₀) to) (h : Headed s n w v items)
        (k : Keeps s list₀ entries 0 to (λ es. ItemsEnded s items deepest es) (λ ps. EndsAfter s items ps)) where
      right_text : Right deepest s
      right_text = let told = read_is_right s _ (text_ended h k.read) in record { tree = told.tree; text = told.text }

      kept_report : (x : Text deepest) → bytes x ≡ s → let a = says x in
          report_with M t n w v (entries_in (take to entries)) (places_in (take to entries)) m list ≡ started_report M t list a (places x) (M.set_up m a.n a.w (replicate a.w a.initial))
      kept_report x is =
          let room : ℕ = length list₀ in
          let es : List Entry = (says x).entries in
          let here : ℕ × M.Memory = M.set_up m n w (replicate w v) in
          let enough : room ≤ most_entries → length es ≤ room = λ few. omega (arith, l few, words_end x is h k) in
          ap (λ (y : List Entry). started_report M t list (said_with n w v y) (places_in (take to entries)) here) (words_say x is h k)
          ∙ ap (λ (y : List ℕ). started_report M t list (said_with n w v (map kept_entry (take room es))) y here) (words_stand x is h k)
          ∙ kept_started n w room es (places x) enough t list v here
          ∙ ap (λ (a : Said). started_report M t list (record { n = a.n; w = a.w; initial = a.initial; entries = es }) (places x) (M.set_up m a.n a.w (replicate a.w a.initial)))
          (sym (listed_says x is h k))

      kept_stops : {report : StopReport} → report ≡ report_with M t n w v (entries_in (take to entries)) (places_in (take to entries)) m list → StopInText M t m s list report
      kept_stops e = record { fault = λ j p. absurd (fault_is_wrong s j p right_text); item = λ x is. e ∙ kept_report x is }

    -- where the run by what was read into a list stops
    pub read_stops : {t : Bool} {m : M.Memory} {s list₀ entries list : List ℕ} {first : First} {r : Result ℕ ReadFault} {report : StopReport}
        → EnoughRead (length list₀) r → Headed s first.n first.w first.initial first.items → ReadInto s first.items list₀ entries r
        → report ≡ read_report M t first r entries m list → StopInText M t m s list report
    read_stops {t} {m} {list = list} {r = Ok to} l h k e = kept_stops t m list l h k.reads e
    read_stops {r = Err f} l h k e = report_is e (faulty_stops h k.reads)
