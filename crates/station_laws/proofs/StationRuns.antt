-- Every list of commands: each record of the station agrees with a bench of its own.
use mathlib.Core.Path.{◌≡◌, refl, sym, ap, ap₂, subst, ◌∙◌}
use mathlib.Core.Bool.{Bool, true, false, not, ◌&&◌, ◌||◌, cond}
use mathlib.Core.List.{List, [], ◌∷◌}
use Prim.Native.Nat.{ℕ, suc, ◌+◌, ◌*◌, ◌≤◌, ◌<◌}
use native.Mathlib.Omega.{arith}
use native.Mathlib.Decide.{ℕ_discrete}
use lib.Dec.{eqb, ltb}
use borrow.Author.Tests.{eq-eqb, ne_eqb, le-leb, lt-ltb}
use lib.ListN.{length, length-set}
use Rattle.model.specs.declared.Reply.{Reply}
use Rattle.model.specs.declared.Reply.TheVariants.{Refused}
use Rattle.llsc.specs.declared.Order.TheVariants.{Step}
use Rattle.model.specs.declared.Moved.{Moved}
use Rattle.model.specs.Sizes.{halves}
use Rattle.model.specs.Machine.{Memory}
use Rattle.model.specs.Command.{command}
use Rattle.llsc.specs.Answers.{Said, refused}
use Rattle.model.specs.Replies.{says}
use Rattle.llsc.specs.History.{Command, Event}
use Rattle.model.specs.History.{event_of, events}
use Rattle.after_commands.specs.After.{after}
use Rattle.laws.proofs.Updates.{Split, same, other, split}
use Rattle.linearization.proofs.GhostMachine.{State}
use Rattle.linearization.proofs.InRange.{counts_in}
use Rattle.linearization.proofs.CommandSimulation
use Rattle.linearization.proofs.CommandRuns.{Holds, holds_after}
use Rattle.station.specs.declared.RecordNumber.{RecordNumber}
use Rattle.station.specs.declared.StationProcess.{StationProcess}
use Rattle.station.specs.declared.Tables.{Tables}
use Rattle.station.specs.Station.{StationMemory, process_at}
use Rattle.station.specs.Projection.{embed, put_process}
use Rattle.station.specs.StationRefusals.{StationOrder, record_for, called_ok}
use Rattle.station.specs.StationCommand.{station_refusal, station_command}
use Rattle.station.specs.StationHistory.{station_says, is_for, nobody, given, seen, given_all, seen_all, station_after}
use Rattle.station_laws.proofs.OneSide.{InBounds}
use Rattle.station_facts.proofs.Accepts.{Accepts, accepts, obeys, refuses}
use Rattle.station_laws.proofs.PutBack.{process_other, process_put}
use Rattle.station_laws.proofs.Agrees.{station, Agrees}
use Rattle.station_laws.proofs.Own
use Rattle.station_laws.proofs.Foreign.{foreign_agrees}

module _ (N W R : ℕ) (h_w : 0 < halves W) where
  -- a bench of its own, before command number k
  pub record Alive (k : ℕ) (m : Memory) : Type 0 where
    pub state : State
    pub holds : Holds N W h_w k m state

  -- what holds before command number k; ms j is the bench of record j's own
  pub record Inv (k : ℕ) (s : StationMemory) (ms : RecordNumber → Memory) : Type 0 where
    pub n : s.n ≡ N
    pub w : s.w ≡ W
    pub r : s.r ≡ R
    pub tables : R ≤ length s.tables
    pub holdings : (p : ℕ) → p < N → R ≤ length (process_at s p).holdings
    pub r_low : 1 ≤ R
    pub r_high : R ≤ 8
    pub words : (3 * R + 2) * N * W ≤ length s.words
    pub processes : N ≤ length s.processes
    pub called : (p : ℕ) → p < N → called_ok R (process_at s p) ≡ true
    pub bounds : (p : ℕ) → p < N → InBounds N (process_at s p).b (process_at s p).c (process_at s p).d (process_at s p).e
    pub each : (j : RecordNumber) → j.0 < R → Alive k (ms j)
    pub agrees : (j : RecordNumber) → j.0 < R → Agrees N W R j s (ms j)

  -- a command that row 4 refuses
  pub nobody_refused : (k : ℕ) (m : Memory) → Alive k m → command m N Step [] ≡ (Refused 4, m)
  nobody_refused k m a =
      let z = a.state in let h = a.holds in let ok = counts_in N W h_w k z h.inv h.count in
      CommandSimulation.refuses N W k m z h.related h.range ok h.place N Step [] 4 (λ e. omega arith)
      (CommandSimulation.too_high N W k m z h.related h.range ok h.place N Step [] (le-leb N N (omega arith)))

  module _ (k : ℕ) (ts : List Tables) (ps : List StationProcess) (ws : List ℕ) (ms : RecordNumber → Memory) (v : Inv k (station N W R ts ps ws) ms) (c : StationOrder) where
    abbrev s : StationMemory
    s = station N W R ts ps ws

    abbrev cmd : Command
    cmd = record { process = c.process; order = c.order; value = c.value }

    abbrev event : Said → Event
    event u = record { command = cmd; said = u }

    abbrev to : Bool → Command
    to b = cond b cmd (nobody N)

    abbrev saw : Bool → Event
    saw b = cond b (event (station_says (station_command s c).1 c.process (station_command s c).0)) (record { command = nobody N; said = refused 4 })

    -- record j after the command, which is for it or not
    record Next (j : RecordNumber) (b : Bool) : Type 0 where
      pub agrees : Agrees N W R j (station_command s c).1 (command (ms j) (to b).process (to b).order (to b).value).1
      pub event : saw b ≡ event_of (ms j) (to b)

    -- it is not for record j
    passed : (j : RecordNumber) → j.0 < R → Agrees N W R j (station_command s c).1 (ms j) → Next j false
    passed j hj g = let t = nobody_refused k (ms j) (v.each j hj) in record {
      agrees = subst (λ (o : Reply × Memory). Agrees N W R j (station_command s c).1 o.1) (sym t) g;
      event = ap (λ (o : Reply × Memory). record { command = nobody N; said = says o.1 (record { 0 = N }) o.0 }) (sym t);
    }

    module _ (e : station_refusal s c ≡ 0) where
      abbrev i : RecordNumber
      i = record_for s c

      hi : i.0 < R
      hi = (accepts s c e).on

      hl : R ≤ length (process_at s c.process).holdings
      hl = v.holdings c.process (accepts s c e).below

      abbrev left : Moved × List ℕ
      left = Own.left N W R ts ps ws c e h_w k (ms i) (v.each i hi).state (v.each i hi).holds (v.agrees i hi) v.tables hl

      is : station_command s c ≡ embed s i c.process left
      is = obeys s c e ∙ ap (embed s i c.process) (Own.left_is N W R ts ps ws c e h_w k (ms i) (v.each i hi).state (v.each i hi).holds (v.agrees i hi) v.tables hl)

      mine : Next i true
      mine =
          let z = (v.each i hi).state in let h = (v.each i hi).holds in let g = v.agrees i hi in
          let t = Own.command_alone N W R ts ps ws c e h_w k (ms i) z h g v.tables hl in
          record {
            agrees = rw (is, t) (Own.own_agrees N W R ts ps ws c e h_w k (ms i) z h g v.tables hl);
            event =
                ap (λ (o : Reply × StationMemory). event (station_says o.1 c.process o.0)) is
                ∙ ap event (Own.own_says N W R ts ps ws c e h_w k (ms i) z h g v.tables hl)
                ∙ sym (ap (λ (o : Reply × Memory). event (says o.1 (record { 0 = c.process }) o.0)) t);
          }

      others : (j : RecordNumber) → j.0 < R → (j.0 ≡ i.0 → ⊥) → Agrees N W R j (station_command s c).1 (ms j)
      others j hj ne =
          let z = (v.each i hi).state in let h = (v.each i hi).holds in let g = v.agrees i hi in
          let kept = Own.kept_left N W R ts ps ws c e h_w k (ms i) z h g v.tables hl in
          let rested = Own.rested N W R ts ps ws c e h_w k (ms i) z h g v.tables hl in
          rw is (foreign_agrees N W R ts ps ws c e left kept rested h_w k j hj ne (ms j) (v.each j hj).state (v.each j hj).holds (v.agrees j hj))

    next : (j : RecordNumber) → j.0 < R → Next j (is_for j s c)
    next j hj = go (ℕ_discrete (station_refusal s c) 0) (split j.0 (record_for s c).0)
      where
        is_for_is : {d b : Bool} → eqb (station_refusal s c) 0 ≡ d → eqb (record_for s c).0 j.0 ≡ b → Next j (d && b) → Next j (is_for j s c)
        is_for_is x y n = subst (Next j) (sym (ap₂ ◌&&◌ x y)) n

        go : Dec (station_refusal s c ≡ 0) → Split j.0 (record_for s c).0 → Next j (is_for j s c)
        go (no n) t = is_for_is (ne_eqb _ 0 n) refl (passed j hj (subst (λ (o : Reply × StationMemory). Agrees N W R j o.1 (ms j)) (sym (refuses s c n)) (v.agrees j hj)))
        go (yes e) (same t) = is_for_is (eq-eqb _ 0 e) (eq-eqb _ j.0 (sym t)) (subst (λ n. Next (record { 0 = n }) true) (sym t) (mine e))
        go (yes e) (other n) = is_for_is (eq-eqb _ 0 e) (ne_eqb _ j.0 (λ t. n (sym t))) (passed j hj (others e j hj n))

    -- the sizes
    record Sizes (t : StationMemory) : Type 0 where
      pub n : t.n ≡ N
      pub w : t.w ≡ W
      pub r : t.r ≡ R
      pub tables : R ≤ length t.tables
      pub holdings : (p : ℕ) → p < N → R ≤ length (process_at t p).holdings
      pub words : (3 * R + 2) * N * W ≤ length t.words
      pub processes : N ≤ length t.processes
      pub called : (p : ℕ) → p < N → called_ok R (process_at t p) ≡ true
      pub bounds : (p : ℕ) → p < N → InBounds N (process_at t p).b (process_at t p).c (process_at t p).d (process_at t p).e

    sizes : Sizes (station_command s c).1
    sizes = go (ℕ_discrete (station_refusal s c) 0)
      where
        go : Dec (station_refusal s c ≡ 0) → Sizes (station_command s c).1
        go (no n) =
            rw (refuses s c n) (record { n = refl; w = refl; r = refl; tables = v.tables; holdings = v.holdings; words = v.words; processes = v.processes; called = v.called; bounds = v.bounds })
        go (yes e) = rw (is e) (record {
          n = refl;
          w = refl;
          r = refl;
          tables = subst (λ n. R ≤ n) (sym (length-set ts (record_for s c).0 _)) v.tables;
          holdings = λ p hp. each p hp (split p c.process);
          words = let x = kept in let y = a.words in omega arith;
          processes = subst (λ n. N ≤ n) (sym (length-set ps c.process _)) v.processes;
          called = λ p hp. call p hp (split p c.process);
          bounds = λ p hp. bound p hp (split p c.process);
        })
          where
            a : Accepts s c
            a = accepts s c e

            kept : length (left e).1 ≡ length ws
            kept = (Own.kept_left N W R ts ps ws c e h_w k (ms (record_for s c)) (v.each _ (hi e)).state (v.each _ (hi e)).holds (v.agrees _ (hi e)) v.tables (hl e)).len

            each : (p : ℕ) → p < N → Split p c.process → R ≤ length (process_at (embed s (record_for s c) c.process (left e)).1 p).holdings
            each p hp (same t) =
                rw (
                  t,
                  process_put s (record_for s c) c.process (left e) (let x =
                      a.below in let y = a.processes in omega arith),
                ) (subst (λ n. R ≤ n) (sym (length-set (process_at s c.process).holdings (record_for s c).0 _)) (hl e))
            each p hp (other ne) = rw (process_other s (record_for s c) c.process (left e) p ne) (v.holdings p hp)

            put : process_at (embed s (record_for s c) c.process (left e)).1 c.process ≡ put_process (record_for s c) (process_at s c.process) (left e).0.process
            put = process_put s (record_for s c) c.process (left e) (let x = a.below in let y = a.processes in omega arith)

            -- idle with record number 0, or busy on a record below R
            ok : (b : Bool) → ltb (cond b 0 (record_for s c).0) R && (not b || eqb (cond b 0 (record_for s c).0) 0) ≡ true
            ok true = ap (λ b. b && true) (lt-ltb 0 R v.r_low)
            ok false = ap (λ b. b && true) (lt-ltb (record_for s c).0 R a.on)

            call : (p : ℕ) → p < N → Split p c.process → called_ok R (process_at (embed s (record_for s c) c.process (left e)).1 p) ≡ true
            call p hp (same t) = rw (t, put) (ok (eqb (left e).0.process.line 0))
            call p hp (other ne) = rw (process_other s (record_for s c) c.process (left e) p ne) (v.called p hp)

            bound : (p : ℕ) → p < N → Split p c.process
                → let u = process_at (embed s (record_for s c) c.process (left e)).1 p in InBounds N u.b u.c u.d u.e
            bound p hp (same t) =
                rw (t, put) (Own.left_in N W R ts ps ws c e h_w k (ms (record_for s c)) (v.each _ (hi e)).state (v.each _ (hi e)).holds (v.agrees _ (hi e)) v.tables (hl e)
                (v.bounds c.process a.below))
            bound p hp (other ne) = rw (process_other s (record_for s c) c.process (left e) p ne) (v.bounds p hp)

    step_here : Inv (suc k) (station_command s c).1 (λ j. (command (ms j) (given j s c).process (given j s c).order (given j s c).value).1)
    step_here = record {
      n = sizes.n;
      w = sizes.w;
      r = sizes.r;
      tables = sizes.tables;
      holdings = sizes.holdings;
      r_low = v.r_low;
      r_high = v.r_high;
      words = sizes.words;
      processes = sizes.processes;
      called = sizes.called;
      bounds = sizes.bounds;
      each = λ j hj. record { state = _; holds = holds_after N W h_w k (ms j) (v.each j hj).state (v.each j hj).holds (given j s c) };
      agrees = λ j hj. (next j hj).agrees;
    }

    event_here : (j : RecordNumber) → j.0 < R → seen j s c ≡ event_of (ms j) (given j s c)
    event_here j hj = (next j hj).event

  -- any station of these sizes
  module _ (k : ℕ) (s : StationMemory) (ms : RecordNumber → Memory) (v : Inv k s ms) (c : StationOrder) where
    form : s ≡ station N W R s.tables s.processes s.words
    form = ap₂ (λ (a b : ℕ). station a b s.r s.tables s.processes s.words) v.n v.w ∙ ap (λ (a : ℕ). station N W a s.tables s.processes s.words) v.r

    pub step_inv : Inv (suc k) (station_command s c).1 (λ j. (command (ms j) (given j s c).process (given j s c).order (given j s c).value).1)
    step_inv =
        subst (λ (t : StationMemory). Inv k t ms → Inv (suc k) (station_command t c).1 (λ j. (command (ms j) (given j t c).process (given j t c).order (given j t c).value).1))
        (sym form) (λ u. step_here k s.tables s.processes s.words ms u c) v

    pub step_event_is : (j : RecordNumber) → j.0 < R → seen j s c ≡ event_of (ms j) (given j s c)
    step_event_is j hj = subst (λ (t : StationMemory). Inv k t ms → seen j t c ≡ event_of (ms j) (given j t c)) (sym form) (λ u. event_here k s.tables s.processes s.words ms u c j hj) v

  -- every list
  pub all_events : (cs : List StationOrder) (k : ℕ) (s : StationMemory) (ms : RecordNumber → Memory) → Inv k s ms
      → (j : RecordNumber) → j.0 < R → seen_all j s cs ≡ events (ms j) (given_all j s cs)
  unfolding seen_all given_all events
  all_events [] k s ms v j hj = refl
  all_events (c ∷ cs) k s ms v j hj = ap₂ ◌∷◌ (step_event_is k s ms v c j hj) (all_events cs (suc k) (station_command s c).1 _ (step_inv k s ms v c) j hj)

  abbrev pub number_after : ℕ → List StationOrder → ℕ
  number_after k [] = k
  number_after k (c ∷ cs) = number_after (suc k) cs

  pub inv_after : (cs : List StationOrder) (k : ℕ) (s : StationMemory) (ms : RecordNumber → Memory) → Inv k s ms
      → Inv (number_after k cs) (station_after s cs) (λ j. after (ms j) (given_all j s cs))
  unfolding station_after given_all after
  inv_after [] k s ms v = v
  inv_after (c ∷ cs) k s ms v = inv_after cs (suc k) (station_command s c).1 _ (step_inv k s ms v c)
