-- The turn by value is the turn: what `turn_decided` makes of the gathered records, stored back, is `turn_of`.
use mathlib.Core.Path.{◌≡◌, refl, sym, ap, ◌∙◌}
use mathlib.Core.List.{List, []}
use mathlib.Core.Bool.{Bool, true, false, cond, not, ◌||◌}
use Prim.Native.Nat.{ℕ, zero, suc, ◌-◌, ◌≤◌, ◌<◌}
use native.Mathlib.Omega.{arith}
use lib.Dec.{eqb, ltb, leb}
use Rattle.std.specs.Prelude.{Result, Ok, Err}
use lib.ListN.{length, replicate, length-replicate}
use borrow.Author.Tests.{eq-eqb, ne_eqb, eqb-true, leb-false, lt-ltb, le-ltb}
use Rattle.llsc.specs.declared.Order.{Order}
use Rattle.llsc.specs.declared.Order.TheVariants.{Step}
use Rattle.model.specs.declared.Reply.{Reply}
use Rattle.model.specs.declared.Reply.TheVariants.{Refused}
use Rattle.station.specs.declared.Station.{Station}
use Rattle.station.specs.declared.StationProcess.{StationProcess}
use Rattle.station.specs.Station.{StationMemory, station_memory}
use Rattle.station.specs.Projection.{at_rest}
use Rattle.station.specs.StationRefusals.{station_in_range}
use Rattle.station.specs.StationCommand.{station_command}
use Rattle.station.specs.StationSetUp.{empty_process}
use Rattle.lent.specs.Gathered.{gathered}
use Rattle.station_rows.specs.StationCommandRows.{station_memory_number}
use Rattle.station_rows.proofs.StationRowLaws.{same_then, memory_lent, late_decides}
use Rattle.station_machine.specs.declared.Outcome.{Outcome}
use Rattle.station_machine.specs.StationDecision.{Decided, station_decided, stored_back}
use Rattle.station_machine.proofs.StationDecisionLaws.{same_range, same_process, decision_law}
use Rattle.turns_model.specs.declared.NextCall.{NextCall}
use Rattle.turns_model.specs.declared.Turned.{Turned}
use Rattle.turns_model.specs.declared.TurnReply.{TurnReply}
use Rattle.turns_model.specs.declared.TurnReply.TheVariants.{Replied, Passed}
use Rattle.llsc.specs.CallKinds.{start_of}
use Rattle.turns_model.specs.Turns.{ListedCall, AfterTurn, idle_turn, counts_as_idle, turn_given, turn_refused, turn_commands, step_by}
use Rattle.turns_model.specs.Turns.{lent_refusal, turn, counted, listed_as, turn_of}
use Rattle.turns_machine.specs.declared.TurnOutcome.{TurnOutcome}
use Rattle.turns_machine.specs.TurnDecision.{unchanged_turn, refused_turn, commanded_turn, commanded_at, idle_decided, busy_decided}
use Rattle.turns_machine.specs.TurnDecision.{rests_in, turn_decided, stored_turn}
use Rattle.llsc.proofs.RefusalNumbers.{number_some}
use Rattle.station_machine.proofs.OrderLaws.{same_decided}
use Rattle.station_machine.proofs.StationObeyLaws.{refused_law}

-- what the code answers, where it returns
module _ (s : Station) (list : List StationProcess) (len p : ℕ) (next : NextCall) (left : ℕ) (value words : List ℕ) where
  abbrev number : ℕ
  number = station_memory_number s list len (length words)

  abbrev decided : TurnOutcome × List ℕ
  decided = turn_decided s list len p next left value words

  abbrev beside : TurnOutcome → TurnOutcome × List ℕ
  beside r = (r, words)

  pub other_turn : {r : TurnOutcome} → 1 < p → r ≡ refused_turn 22 left → beside r ≡ decided
  unfolding turn_decided
  other_turn h e = ap beside e ∙ simp (lt-ltb 1 p h)

  module _ (low : p ≤ 1) where
    pub refused_lent : {r : TurnOutcome} (k : ℕ) → k ≡ number → (k ≡ 0 → ⊥) → r ≡ refused_turn k left → beside r ≡ decided
    unfolding turn_decided
    refused_lent k h n e = ap beside e ∙ rw h (simp (le-ltb 1 p low, ne_eqb number 0 (λ z. n (h ∙ z))))

    module _ (h : number ≡ 0) where
      pub steps : {out : TurnOutcome × List ℕ} → rests_in s.n list p ≡ false → out ≡ busy_decided s list len p left words → out ≡ decided
      unfolding turn_decided
      steps r e = e ∙ simp (le-ltb 1 p low, eq-eqb number 0 h, r)

      pub passes : {r : TurnOutcome} → rests_in s.n list p ≡ true → left ≡ 0 → r ≡ unchanged_turn Passed 0 → beside r ≡ decided
      unfolding turn_decided
      passes r z e = ap beside e ∙ simp (le-ltb 1 p low, eq-eqb number 0 h, r, eq-eqb left 0 z)

      pub starts : {out : TurnOutcome × List ℕ} (o : Order) → rests_in s.n list p ≡ true → (left ≡ 0 → ⊥) → o ≡ start_of next.kind
          → out ≡ commanded_at (left - 1) (station_decided s list len p o next.named value words) → out ≡ decided
      unfolding turn_decided
      starts o r z i e =
          e ∙ ap (λ (o : Order). commanded_at (left - 1) (station_decided s list len p o next.named value words)) i ∙
          simp (le-ltb 1 p low, eq-eqb number 0 h, r, ne_eqb left 0 z)

-- a command given, with the words that it left
pub commanded_law : {r : TurnOutcome} {out : Result Outcome ℕ} {words : List ℕ} {decided : Decided} (left : ℕ)
    → r ≡ commanded_turn left out → (out, words) ≡ decided → (r, words) ≡ commanded_at left decided
commanded_law {words = words} left e d = ap (λ (r : TurnOutcome). (r, words)) e ∙ ap (commanded_at left) d

or_same : (a : Bool) {x y : Bool} → (a ≡ false → x ≡ y) → a || x ≡ a || y
or_same true f = refl
or_same false f = f refl

module _ (s : Station) (ps : List StationProcess) (ws : List ℕ) (p : ℕ) (next : NextCall) (v : List ℕ) where
  abbrev all : List StationProcess
  all = gathered ps empty_process 16

  abbrev lent : StationMemory
  lent = station_memory s ps ws

  abbrev call : ListedCall
  call = listed_as next v

  abbrev at_9 : Bool → ℕ
  at_9 t = cond (not t) 9 0

  same_lent : station_memory_number s all (length ps) (length ws) ≡ lent_refusal lent
  unfolding station_memory_number lent_refusal
  same_lent =
      same_then s.n s.w s.r (length ps) (length ws) (at_9 (station_in_range (station_memory s all []))) (at_9 (station_in_range lent))
      (λ h. ap at_9 (same_range s ps ws h.n_most h.processes_lent))

  same_rests : lent_refusal lent ≡ 0 → rests_in s.n all p ≡ counts_as_idle lent p
  same_rests e =
      let h = memory_lent s all (length ps) (length ws) (same_lent ∙ e) in
      or_same (leb s.n p) (λ b. ap at_rest (same_process s ps ws p (leb-false s.n p b) h.n_most h.processes_lent))

  -- nothing is stored
  stays : (reply : TurnReply) (left : ℕ)
      → ◌≡◌ {A = Turned × StationMemory} (stored_turn s ps (unchanged_turn reply left, ws)) (record { reply = reply; left = left }, lent)
  stays reply left = refl

  abbrev answered : Reply × StationMemory → ℕ → Turned × StationMemory
  answered out k = (record { reply = Replied out.0; left = k }, out.1)

  given_stored : (k : ℕ) (d : Decided) → stored_turn s ps (commanded_at k d) ≡ answered (stored_back s ps d) k
  given_stored k (Ok out, ws') = refl
  given_stored k (Err row, ws') = refl

  commands : (o : Order) (named : ℕ) (value : List ℕ) (calls : List ListedCall) (k : ℕ) → k ≡ length calls
      → stored_turn s ps (commanded_at k (station_decided s all (length ps) p o named value ws)) ≡
      counted (turn_commands lent (record { process = p; order = o; called = named; value = value }) calls)
  commands o named value calls k e =
      given_stored k (station_decided s all (length ps) p o named value ws) ∙
      ap (λ (out : Reply × StationMemory). answered out k) (decision_law s ps ws p o named value) ∙
      ap (answered (station_command lent (record { process = p; order = o; called = named; value = value }))) e

  either : (t : Bool) (a b : TurnOutcome × List ℕ) (c d : AfterTurn) → (t ≡ true → stored_turn s ps a ≡ counted c)
      → (t ≡ false → stored_turn s ps b ≡ counted d) → stored_turn s ps (cond t a b) ≡ counted (cond t c d)
  either true a b c d f g = f refl
  either false a b c d f g = g refl

  abbrev idle : ℕ → TurnOutcome × List ℕ
  idle left = idle_decided s all (length ps) p next left v ws

  idles : (left : ℕ) → stored_turn s ps (idle left) ≡ counted (idle_turn lent p (replicate left call))
  idles zero = stays Passed 0
  idles (suc k) =
      let e : suc k - 1 ≡ k = omega arith in
      simp (ne_eqb (suc k) 0 (λ z. let y : ⊥ = omega (arith, z) in y), e)
      (commands (start_of next.kind) next.named v (replicate k call) k (sym (length-replicate k call)))

  module _ (left : ℕ) where
    abbrev busy : TurnOutcome × List ℕ
    busy = busy_decided s all (length ps) p left ws

    abbrev calls : List ListedCall
    calls = replicate left call

    refuses : (k : ℕ) → stored_turn s ps (refused_turn k left, ws) ≡ counted (turn_refused k lent calls)
    refuses k = stays (Replied (Refused k)) left ∙ ap (answered (Refused k, lent)) (sym (length-replicate left call))

    abbrev from_lent : ℕ → Bool → TurnOutcome × List ℕ
    from_lent k t = cond (eqb k 0) (cond t (idle left) busy) (refused_turn k left, ws)

    in_order : lent_refusal lent ≡ 0 → stored_turn s ps (cond (rests_in s.n all p) (idle left) busy) ≡ counted (turn_given lent p calls)
    in_order e =
        ap (λ (t : Bool). stored_turn s ps (cond t (idle left) busy)) (same_rests e) ∙
        either (counts_as_idle lent p) (idle left) busy (idle_turn lent p calls) (turn_commands lent (step_by p) calls)
        (λ _. idles left) (λ _. commands Step 0 [] calls left (sym (length-replicate left call)))

    pub turn_law : stored_turn s ps (turn_decided s (gathered ps empty_process 16) (length ps) p next left v ws) ≡
        turn_of (station_memory s ps ws) p next v left
    unfolding turn_decided turn_of turn
    turn_law =
        let rests = rests_in s.n all p in
        let k = lent_refusal lent in
        let other : TurnOutcome × List ℕ = (refused_turn 22 left, ws) in
        ap (λ (i : ℕ). stored_turn s ps (cond (ltb 1 p) other (from_lent i rests))) same_lent ∙
        either (ltb 1 p) other (from_lent k rests) (turn_refused 22 lent calls)
        (cond (eqb k 0) (turn_given lent p calls) (turn_refused k lent calls)) (λ _. refuses 22) (λ _.
        either (eqb k 0) (cond rests (idle left) busy) (refused_turn k left, ws)
        (turn_given lent p calls) (turn_refused k lent calls)
        (λ z. in_order (eqb-true k 0 z)) (λ _. refuses k))

-- what `decide_turn` rests on
pub ruleset turn_laws = (number_some, same_decided, other_turn, refused_lent, steps, passes, starts)

-- what `give` rests on
pub ruleset give_laws = (number_some, memory_lent, late_decides, refused_law, commanded_law)
