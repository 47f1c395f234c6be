-- A reader of the events knows what the ghosts say of the process that steps.
use mathlib.Core.Path.{◌≡◌, refl, sym, ap, subst, ◌∙◌}
use mathlib.Core.Bool.{Bool, true, false, cond}
use mathlib.Core.List.{List, [], ◌∷◌, map}
use Prim.Native.Nat.{ℕ, suc, ◌+◌}
use lib.Dec.{ltb, eqb}
use Rattle.llsc.specs.declared.Order.TheVariants.{Step}
use Rattle.llsc.specs.Object.{Kind, ll, sc, vl}
use Rattle.laws.proofs.Updates.{upd_same, by_test, by_test₂, contra}
use Rattle.laws.proofs.Parts.{tab}
use Rattle.moir_model.specs.Points.{Point, idle, ll10, ll2, ll4, ll5, ll6, ll7, sc14, sc17, sc19, sc2, sc4, sc5, sc6, sc7, vl13}
use Rattle.moir_model.specs.Replies.{Said}
use Rattle.moir_model.specs.History.{Event, Slot, none, running, Known, ended, Call, named_by, stepped, known_after, ended_by, call_of}
use Rattle.moir_linearization.specs.Linearizable.{Served}
use Rattle.moir_linearization.proofs.PointRanges.{busy, copying}
use Rattle.moir_linearization.proofs.GhostMachine.{Local, Shared, State, quiet, noisy, prev, eq_pair, step_at}
use Rattle.moir_linearization.proofs.GhostHistories.{answer_at}
use Rattle.moir_linearization.proofs.GhostEvents.{said_by}
use Rattle.moir_linearization.proofs.Numbers.{ProcessNumbers}

module _ (W : ℕ) where
  -- an open WLL, SC or VL of a process whose record is l, d being its last step's number
  abbrev wll_slot : Local → ℕ → Slot
  wll_slot l d = running ll l.start d l.count false

  abbrev sc_slot : Bool → Local → ℕ → Slot
  sc_slot won l d = running (sc (tab W l.offered)) l.start d l.count won

  -- the slot of a process at point y
  abbrev pub slot_of : Point → Local → ℕ → Slot
  slot_of idle l d = none
  slot_of ll10 l d = wll_slot l d
  slot_of ll2 l d = wll_slot l d
  slot_of ll4 l d = wll_slot l d
  slot_of ll5 l d = wll_slot l d
  slot_of ll6 l d = wll_slot l d
  slot_of ll7 l d = wll_slot l d
  slot_of sc14 l d = sc_slot false l d
  slot_of sc17 l d = sc_slot false l d
  slot_of sc19 l d = sc_slot false l d
  slot_of sc2 l d = sc_slot true l d
  slot_of sc4 l d = sc_slot true l d
  slot_of sc5 l d = sc_slot true l d
  slot_of sc6 l d = sc_slot true l d
  slot_of sc7 l d = sc_slot true l d
  slot_of vl13 l d = running vl l.start d l.count false

  -- a busy process has an open call
  pub record Running (y : Point) (l : Local) (d : ℕ) : Type 0 where
    pub kind : Kind
    pub won : Bool
    pub is : slot_of y l d ≡ running kind l.start d l.count won

  pub run_slot : (y : Point) (l : Local) (d : ℕ) → busy y ≡ true → Running y l d
  run_slot idle l d b = absurd (contra b refl)
  run_slot ll10 l d b = record { kind = _; won = _; is = refl }
  run_slot ll2 l d b = record { kind = _; won = _; is = refl }
  run_slot ll4 l d b = record { kind = _; won = _; is = refl }
  run_slot ll5 l d b = record { kind = _; won = _; is = refl }
  run_slot ll6 l d b = record { kind = _; won = _; is = refl }
  run_slot ll7 l d b = record { kind = _; won = _; is = refl }
  run_slot sc14 l d b = record { kind = _; won = _; is = refl }
  run_slot sc17 l d b = record { kind = _; won = _; is = refl }
  run_slot sc19 l d b = record { kind = _; won = _; is = refl }
  run_slot sc2 l d b = record { kind = _; won = _; is = refl }
  run_slot sc4 l d b = record { kind = _; won = _; is = refl }
  run_slot sc5 l d b = record { kind = _; won = _; is = refl }
  run_slot sc6 l d b = record { kind = _; won = _; is = refl }
  run_slot sc7 l d b = record { kind = _; won = _; is = refl }
  run_slot vl13 l d b = record { kind = _; won = _; is = refl }

  -- the next step is the first of a WLL
  abbrev pub reads_next : Point → Bool
  reads_next idle = false
  reads_next ll10 = true
  reads_next ll2 = false
  reads_next ll4 = false
  reads_next ll5 = false
  reads_next ll6 = false
  reads_next ll7 = false
  reads_next sc14 = false
  reads_next sc17 = false
  reads_next sc19 = false
  reads_next sc2 = false
  reads_next sc4 = false
  reads_next sc5 = false
  reads_next sc6 = false
  reads_next sc7 = false
  reads_next vl13 = false

  -- what is known of a process whose record is l: S counts the successes up to a command, d is the number of the last step
  pub record KnownOK (S : ℕ → ℕ) (l : Local) (d : ℕ) (k : Known) : Type 0 where
    pub last : ℕ
    pub slot_is : k.slot ≡ slot_of l.point l last
    pub last_is : copying l.point ≡ true → last ≡ d
    pub since_is : S k.wll ≡ l.start_version
    pub unread_is : k.unread ≡ reads_next l.point
    pub read_is : S k.read ≡ l.read_version
    pub named_is : k.named ≡ l.named

-- the call of a history that a step with the count c answers, its process known as k
abbrev pub called : Known → ℕ → Served → Call
called k c z = record {
  process = z.process;
  kind = z.kind;
  start = z.start;
  end = z.end;
  steps = c;
  wll = k.wll;
  read = k.read;
  named = k.named;
  outcome = ended z.answer c;
}

abbrev pub step_event : ℕ → List ℕ → Said → Bool → Event
step_event p v sd won = record { command = record { process = p; order = Step; value = v }; said = sd; won = won }

module _ (M W n : ℕ) (S : ℕ → ℕ) (s : State) (p : ℕ) (v : List ℕ) (k : Known) (d : ℕ) where
  abbrev l : Local
  l = s.loc p

  abbrev h : Shared
  h = s.sh

  abbrev i : ℕ
  i = l.word

  -- the step from y to the point z is a success
  abbrev won_to : Point → Point → Bool
  won_to y z = cond (copying y) false (copying z)

  -- p's step from y answers the calls cs, and leaves p with c and h' shared
  pub record StepAt (y : Point) (cs : List Served) (h' : Shared) (c : Local) : Type 0 where
    pub known : S n ≡ cond (won_to y c.point) (suc h.successes) h.successes
        → KnownOK W S c n (known_after n (step_event p v (said_by cs (l.count + 1)) (won_to y c.point)) (said_by cs (l.count + 1)) k)
    pub count : h'.successes ≡ cond (won_to y c.point) (suc h.successes) h.successes
    pub who : h'.pid ≡ cond (won_to y c.point) p h.pid
    pub when : h'.won_at ≡ cond (won_to y c.point) n h.won_at
    pub calls : call_of p n (said_by cs (l.count + 1)) k ≡ map (called k (l.count + 1)) cs

  pub record StepOK (y : Point) (cs : List Served) (u : State) : Type 0 where
    pub ok : StepAt y cs u.sh (u.loc p)

  put : (y : Point) (cs : List Served) (h' : Shared) (c : Local) → StepAt y cs h' c → StepOK y cs (noisy s p h' c)
  put y cs h' c a = record { ok = subst (StepAt y cs h') (sym (upd_same s.loc p c)) a }

  never : (b : Bool) → cond b false false ≡ false
  never true = refl
  never false = refl

  -- k is what is known before the step from y
  module _ (y : Point) (slot_is : k.slot ≡ slot_of W y l d) (since_is : S k.wll ≡ l.start_version)
      (named_is : k.named ≡ l.named) (unread_is : k.unread ≡ reads_next W y) (read_is : S k.read ≡ l.read_version) where
    -- no answer
    acc : (h' : Shared) (c : Local) → stepped n (won_to y c.point) (slot_of W y l d) ≡ slot_of W c.point c n
        → c.start_version ≡ l.start_version → c.named ≡ l.named
        → h'.successes ≡ cond (won_to y c.point) (suc h.successes) h.successes
        → h'.pid ≡ cond (won_to y c.point) p h.pid → h'.won_at ≡ cond (won_to y c.point) n h.won_at
        → reads_next W c.point ≡ false
        → (S n ≡ cond (won_to y c.point) (suc h.successes) h.successes → S (cond (reads_next W y) n k.read) ≡ c.read_version)
        → StepOK y [] (noisy s p h' c)
    acc h' c e es en a b w eu er =
        put y [] h' c
        (record {
          known = λ counts. record {
            last = n;
            slot_is = ap (stepped n (won_to y c.point)) slot_is ∙ e;
            last_is = λ _. refl;
            since_is = since_is ∙ sym es;
            unread_is = sym eu;
            read_is = ap (λ b. S (cond b n k.read)) unread_is ∙ er counts;
            named_is = named_is ∙ sym en;
          };
          count = a;
          who = b;
          when = w;
          calls = refl;
        })

    -- an answer
    ans : (x : Served) (c : Local) → c.point ≡ idle → ended_by p n x.answer (l.count + 1) k (slot_of W y l d) ≡ called k (l.count + 1) x
        → c.start_version ≡ l.start_version → c.named ≡ named_by l.named x.answer
        → reads_next W y ≡ false → c.read_version ≡ l.read_version → StepOK y (x ∷ []) (quiet s p c)
    ans x c ei ee es en ey er =
        let f : won_to y c.point ≡ false = ap (won_to y) ei ∙ never (copying y) in
        put y (x ∷ []) h c
        (record {
          known = λ _. record {
            last = n;
            slot_is = sym (ap (λ (z : Point). slot_of W z c n) ei);
            last_is = λ _. refl;
            since_is = since_is ∙ sym es;
            unread_is = sym (ap (reads_next W) ei);
            read_is = ap (λ b. S (cond b n k.read)) (unread_is ∙ ey) ∙ read_is ∙ sym er;
            named_is = ap (λ b. named_by b x.answer) named_is ∙ sym en;
          };
          count = sym (ap (λ b. cond b (suc h.successes) h.successes) f);
          who = sym (ap (λ b. cond b p h.pid) f);
          when = sym (ap (λ b. cond b n h.won_at) f);
          calls = ap (λ t. ended_by p n x.answer (l.count + 1) k t ∷ []) slot_is ∙ ap (◌∷ []) ee;
        })

  pub step_ok : (y : Point) → busy y ≡ true → k.slot ≡ slot_of W y l d → S k.wll ≡ l.start_version
      → k.named ≡ l.named → k.unread ≡ reads_next W y → S k.read ≡ l.read_version
      → ProcessNumbers M W n y h p l → StepOK y (answer_at W y n p s) (step_at M W y n p s)
  unfolding step_at
  step_ok idle b e f g u r a = absurd (contra b refl)
  step_ok ll10 b e f g u r a = acc ll10 e f g u r h _ refl refl refl refl refl refl refl (λ z. z)
  step_ok ll2 b e f g u r a = by_test (StepOK ll2 []) (eqb (h.seg_tag i) (prev M l.x_tag))
      (λ _. acc ll2 e f g u r h _ refl refl refl refl refl refl refl (λ _. r)) (λ _. acc ll2 e f g u r h _ refl refl refl refl refl refl refl (λ _. r))
  step_ok ll4 b e f g u r a = acc ll4 e f g u r h _ refl refl refl refl refl refl refl (λ _. r)
  step_ok ll5 b e f g u r a =
      by_test (StepOK ll5 []) (eq_pair (h.seg_tag i) (h.seg_val i) l.y_tag l.y_val)
      (λ _. acc ll5 e f g u r _ _ refl refl refl refl refl refl refl (λ _. r)) (λ _. acc ll5 e f g u r h _ refl refl refl refl refl refl refl (λ _. r))
  step_ok ll6 b e f g u r a = acc ll6 e f g u r h _ refl refl refl refl refl refl refl (λ _. r)
  step_ok ll7 b e f g u r a =
      by_test₂ (λ u cs. StepOK ll7 cs u) (eq_pair h.tag h.pid l.x_tag l.x_pid)
      (λ _. by_test₂ (λ u cs. StepOK ll7 cs u) (ltb (suc i) W)
      (λ _. acc ll7 e f g u r h _ refl refl refl refl refl refl refl (λ _. r)) (λ _. ans ll7 e f g u r _ _ refl refl refl refl refl refl))
      (λ _. ans ll7 e f g u r _ _ refl refl refl refl refl refl)
  step_ok sc14 b e f g u r a =
      by_test₂ (λ u cs. StepOK sc14 cs u) (eqb h.tag l.keep)
      (λ _. acc sc14 e f g u r h _ refl refl refl refl refl refl refl (λ _. r)) (λ _. ans sc14 e f g u r _ _ refl refl refl refl refl refl)
  step_ok sc17 b e f g u r a = by_test (StepOK sc17 []) (ltb (suc i) W)
      (λ _. acc sc17 e f g u r _ _ refl refl refl refl refl refl refl (λ _. r)) (λ _. acc sc17 e f g u r _ _ refl refl refl refl refl refl refl (λ _. r))
  step_ok sc19 b e f g u r a =
      by_test₂ (λ u cs. StepOK sc19 cs u) (eq_pair h.tag h.pid l.old_tag l.old_pid)
      (λ _. acc sc19 e f g u r _ _ refl refl refl refl a.new_pid_is refl refl (λ _. r)) (λ _. ans sc19 e f g u r _ _ refl refl refl refl refl refl)
  step_ok sc2 b e f g u r a = by_test (StepOK sc2 []) (eqb (h.seg_tag i) (prev M l.new_tag))
      (λ _. acc sc2 e f g u r h _ refl refl refl refl refl refl refl (λ _. r)) (λ _. acc sc2 e f g u r h _ refl refl refl refl refl refl refl (λ _. r))
  step_ok sc4 b e f g u r a = acc sc4 e f g u r h _ refl refl refl refl refl refl refl (λ _. r)
  step_ok sc5 b e f g u r a =
      by_test (StepOK sc5 []) (eq_pair (h.seg_tag i) (h.seg_val i) l.y_tag l.y_val)
      (λ _. acc sc5 e f g u r _ _ refl refl refl refl refl refl refl (λ _. r)) (λ _. acc sc5 e f g u r h _ refl refl refl refl refl refl refl (λ _. r))
  step_ok sc6 b e f g u r a = acc sc6 e f g u r h _ refl refl refl refl refl refl refl (λ _. r)
  step_ok sc7 b e f g u r a =
      by_test₂ (λ u cs. StepOK sc7 cs u) (eq_pair h.tag h.pid l.new_tag l.new_pid)
      (λ _. by_test₂ (λ u cs. StepOK sc7 cs u) (ltb (suc i) W)
      (λ _. acc sc7 e f g u r h _ refl refl refl refl refl refl refl (λ _. r)) (λ _. ans sc7 e f g u r _ _ refl refl refl refl refl refl))
      (λ _. ans sc7 e f g u r _ _ refl refl refl refl refl refl)
  step_ok vl13 b e f g u r a = ans vl13 e f g u r _ _ refl refl refl refl refl refl
