-- A command on record j: the bench of its own accepts it, answers it alike, and both agree again.
use mathlib.Core.Path.{◌≡◌, refl, sym, ap, ap₂, subst, ◌∙◌}
use mathlib.Core.Bool.{Bool, true, false, not, ◌&&◌, cond}
use mathlib.Core.List.{List}
use Prim.Native.Nat.{ℕ, suc, ◌+◌, ◌*◌, ◌≤◌, ◌<◌}
use native.Mathlib.Nat.{mul-le-mul_right}
use native.Mathlib.Omega.{arith}
use lib.Dec.{eqb}
use borrow.Author.Tests.{eq-eqb, lt-leb}
use lib.ListN.{length, get_or}
use lib.Seq.{get_or-set_same, get_or-set_other}
use Rattle.llsc.specs.declared.ProcessNumber.{ProcessNumber}
use Rattle.model.specs.Places.{XPlace, BankPlace, HelpPlace}
use Rattle.model.specs.declared.Bench.{Bench}
use Rattle.model.specs.declared.Process.{Process}
use Rattle.llsc.specs.declared.Order.{Order}
use Rattle.llsc.specs.declared.Order.TheVariants.{StartLl, StartSc, StartVl, Step}
use Rattle.model.specs.declared.Reply.{Reply}
use Rattle.model.specs.declared.Reply.TheVariants.{Refused, Accepted, LlAnswered, ScAnswered, VlAnswered}
use Rattle.model.specs.declared.Moved.{Moved}
use Rattle.model.specs.Points.{Point, line_number, idle}
use Rattle.model.specs.Records.{record_at, no_process}
use Rattle.model.specs.Sizes.{buffers, halves}
use Rattle.model.specs.Words.{Layout, one_record, return_area, word_of, half}
use Rattle.model.specs.Machine.{Memory, obey, obey_in}
use Rattle.model.specs.Refusals
use Rattle.llsc.specs.Rows.{is_start, needs_ll, brings_value}
use Rattle.model.specs.Command.{command, refusal, obeyed, stored_back}
use Rattle.llsc.specs.Answers.{answered, ll_words}
use Rattle.model.specs.Replies.{says}
use Rattle.laws.proofs.Updates.{Split, same, other, split}
use Rattle.linearization.proofs.PointFacts
use Rattle.linearization.proofs.GhostMachine.{Local, State}
use Rattle.linearization.proofs.WordLists.{words_of_ext}
use Rattle.linearization.proofs.ListFacts.{cut_words}
use Rattle.linearization.proofs.Relation.{record_of}
use Rattle.linearization.proofs.InRange.{counts_in}
use Rattle.linearization.proofs.GhostRuns.{exec}
use Rattle.linearization.proofs.Outcome.{to_f}
use Rattle.linearization.proofs.WordPlace.{idle_word}
use Rattle.linearization.proofs.CommandSimulation.{late, refusal_late}
use Rattle.linearization.proofs.CommandRuns.{Holds, holds_after}
use Rattle.station.specs.declared.RecordNumber.{RecordNumber}
use Rattle.station.specs.declared.StationProcess.{StationProcess}
use Rattle.station.specs.declared.Tables.{Tables}
use Rattle.station.specs.Station.{StationMemory, tables_at, process_at, station_layout, return_area_of}
use Rattle.station.specs.Projection.{bench_of, process_of, embed, elsewhere, at_rest}
use Rattle.station.specs.StationRefusals.{StationOrder, record_for}
use Rattle.station.specs.StationCommand.{station_refusal, obeyed_on}
use Rattle.station.specs.StationHistory.{station_says}
use Rattle.station_laws.proofs.Live.{whole, returns, LiveProcess, pr}
use Rattle.station_laws.proofs.LiveWords.{Kept}
use Rattle.station_laws.proofs.LiveLines.{Alike, obey_alike}
use Rattle.station_laws.proofs.OneSide.{answers_ll, obey_kept, obey_ll, InBounds, obey_in_is}
use Rattle.station_facts.proofs.Accepts.{Accepts, accepts}
use Rattle.station_laws.proofs.PutBack.{process_back, tables_back, process_other, process_put}
use Rattle.station_laws.proofs.Agrees.{station, WordsFor, Agrees, shape, return_stays, offer_stays, return_alone, offer_alone}

-- no row from 4 on holds
none_late : (o : Order) (i r l : Bool) → (is_start o ≡ true → i ≡ true) → (is_start o ≡ false → i ≡ false)
    → (needs_ll o ≡ true → r ≡ true) → (brings_value o ≡ true → l ≡ true) → late false o i r l ≡ 0
none_late StartLl i r l a b c d = rw (a refl)
none_late StartSc i r l a b c d = rw (a refl, c refl, d refl)
none_late StartVl i r l a b c d = rw (a refl, c refl)
none_late Step i r l a b c d = rw (b refl)

-- the open call, if there is one, is on the record that the command is about
here_is : (b : Bool) (k l : ℕ) (rest : Bool) → (b ≡ true → rest ≡ true) → not rest && not (eqb l (cond b k l)) ≡ false
here_is true k l rest h = rw (h refl)
here_is false k l rest h = go rest
  where
    go : (t : Bool) → not t && not (eqb l l) ≡ false
    go true = refl
    go false = ap not (eq-eqb l l refl)

module _ (N W R : ℕ) (ts : List Tables) (ps : List StationProcess) (ws : List ℕ) (c : StationOrder) (e : station_refusal (station N W R ts ps ws) c ≡ 0) where
  abbrev s : StationMemory
  s = station N W R ts ps ws

  abbrev p : ℕ
  p = c.process

  abbrev me : ProcessNumber
  me = record { 0 = p }

  abbrev j : RecordNumber
  j = record_for s c

  abbrev own : StationProcess
  own = process_at s p

  a : Accepts s c
  a = accepts s c e

  abbrev out : Moved × List ℕ
  out = obeyed_on s j c

  pub here : elsewhere j own ≡ false
  here = here_is (is_start c.order) c.called own.called.0 (at_rest own) a.start

  pub line_here : (process_of j own).line ≡ own.line
  line_here = ap (λ b. cond b 0 own.line) here

  abbrev L : Layout
  L = station_layout N R j

  abbrev T : ℕ
  T = (3 * R + 2) * N

  module _ (h_w : 0 < halves W) (k : ℕ) (m : Memory) (z : State) (h : Holds N W h_w k m z) (g : Agrees N W R j s m) (tl : R ≤ length ts) (hl : R ≤ length own.holdings) where
    abbrev f : Local
    f = z.loc p

    abbrev y : Point
    y = f.point

    abbrev at : Bench
    at = record { n = N; w = W; x = m.bench.x; bank = m.bench.bank; help = m.bench.help }

    hp : p < N
    hp = a.below

    mine : record_at m.records me ≡ record_of f
    mine = h.related.process p hp

    l : LiveProcess (process_of j own) (record_of f)
    l = subst (LiveProcess (process_of j own)) mine (g.process p hp)

    wl : WordsFor N W R j p (record_of f) ws m.words
    wl = subst (λ u. WordsFor N W R j p u ws m.words) mine (g.words p hp)

    line_is : own.line ≡ line_number y
    line_is = sym line_here ∙ l.line

    at_idle : is_start c.order ≡ true → idle ≡ y
    at_idle t = sym (PointFacts.idle_is y (ap (λ i. eqb i 0) (sym line_is) ∙ a.start t))

    -- both sides, with the same bench and the same numbers
    abbrev pub left : Moved × List ℕ
    left = obey_in L c.order me c.value at (pr y (record_of f).mybuf (record_of f).x f.word f.count f.answered own.b own.c own.d own.e) ws

    abbrev pub right : Moved × List ℕ
    right = obey_in (one_record N) c.order me c.value at (record_of f) m.words

    bench_left : bench_of s j ≡ at
    bench_left =
        ap₂ (λ (u : XPlace) (v : List BankPlace). record { n = N; w = W; x = u; bank = v; help = (tables_at s j).help }) g.x g.bank
        ∙ ap (λ (v : List HelpPlace). record { n = N; w = W; x = m.bench.x; bank = m.bench.bank; help = v }) g.help

    bench_right : m.bench ≡ at
    bench_right = ap₂ (λ (i v : ℕ). record { n = i; w = v; x = m.bench.x; bank = m.bench.bank; help = m.bench.help }) h.related.n h.related.w

    pub left_is : out ≡ left
    left_is = ap₂ (λ (b : Bench) (q : Process). obey_in L c.order me c.value b q ws) bench_left (shape (process_of j own) f l)

    right_is : obey c.order me c.value m.bench (record_at m.records me) m.words ≡ right
    unfolding obey
    right_is = ap₂ (λ (b : Bench) (q : Process). obey c.order me c.value b q m.words) bench_right mine

    alike : Alike N W p T (5 * N) L (one_record N) y left right
    alike =
        let r = h.range.each p hp in
        obey_alike N W p T (5 * N) L (one_record N) hp m.bench.x m.bench.bank m.bench.help (record_of f).mybuf (record_of f).x f.word f.count f.answered own.b
        own.c own.d own.e (record_of f).b (record_of f).c (record_of f).d (record_of f).e
        ws m.words r.my r.copy_buf r.word c.order c.value y at_idle a.value (h.place.each p hp) l.b l.c l.d l.e r.b wl

    pub kept_left : Kept N W p L ws left.1
    kept_left = let r = h.range.each p hp in
        obey_kept N W p L hp m.bench.x m.bench.bank m.bench.help (record_of f).mybuf (record_of f).x f.word f.count f.answered own.b own.c own.d own.e
        ws r.my r.word c.order c.value y a.value

    kept_right : Kept N W p (one_record N) m.words right.1
    kept_right = let r = h.range.each p hp in
        obey_kept N W p (one_record N) hp m.bench.x m.bench.bank m.bench.help (record_of f).mybuf (record_of f).x f.word f.count f.answered (record_of f).b
        (record_of f).c (record_of f).d (record_of f).e
        m.words r.my r.word c.order c.value y a.value

    -- the bench of its own accepts
    pub accepted_alone : refusal m p c.order c.value ≡ 0
    accepted_alone =
        refusal_late N W k m z h.related h.range (counts_in N W h_w k z h.inv h.count) h.place p c.order c.value
        ∙ ap (λ b. late b c.order (Refusals.is_idle (record_at m.records me)) (record_at m.records me).answered (eqb (length c.value) W)) (lt-leb N p hp)
        ∙ none_late c.order (Refusals.is_idle (record_at m.records me)) (record_at m.records me).answered (eqb (length c.value) W)
        (λ t. idle_is ∙ a.start t) (λ t. idle_is ∙ a.step t) (λ t. sym (g.process p hp).answered ∙ a.answered t) (λ t. eq-eqb _ W (a.value t))
      where
        idle_is : Refusals.is_idle (record_at m.records me) ≡ at_rest own
        idle_is = ap (λ i. eqb i 0) (sym (g.process p hp).line ∙ line_here)

    pub command_alone : command m p c.order c.value ≡ stored_back m me right
    unfolding command
    command_alone = ap (λ b. cond b (obeyed m me c.order c.value) (Refused (refusal m p c.order c.value), m)) (eq-eqb _ 0 accepted_alone) ∙ ap (stored_back m me) right_is

    -- both after the command
    abbrev pub after : StationMemory
    after = (embed s j p left).1

    abbrev pub alone : Memory
    alone = (stored_back m me right).1

    hr : p < length m.records
    hr = let x = h.related.records_length in let u = hp in omega arith

    hq : p < length ps
    hq = let x = a.processes in let u = hp in omega arith

    own_process : (q : ℕ) → q < N → LiveProcess (process_of j (process_at after q)) (record_at alone.records (record { 0 = q }))
    own_process q b = go (split q p)
      where
        go : Split q p → LiveProcess (process_of j (process_at after q)) (record_at alone.records (record { 0 = q }))
        go (same i) =
            rw (i, get_or-set_same m.records p right.0.process no_process hr, process_put s j p left hq, process_back j own left.0.process (let x = a.on in omega arith)) alike.process
        go (other ne) = rw (process_other s j p left q ne, get_or-set_other m.records p q right.0.process no_process ne) (g.process q b)

    by_whole : (i kr : ℕ) (b : Bool) → i < halves W → i < kr → i < cond b (halves W) kr
    by_whole i kr true x v = x
    by_whole i kr false x v = v

    own_words : (q : ℕ) → q < N → WordsFor N W R j q (record_at alone.records (record { 0 = q })) left.1 right.1
    own_words q b = go (split q p)
      where
        go : Split q p → WordsFor N W R j q (record_at alone.records (record { 0 = q })) left.1 right.1
        go (same i) = rw (i, get_or-set_same m.records p right.0.process no_process hr) (record {
          rows = alike.words.rows;
          rows' = alike.words.rows';
          len = alike.words.len;
          len' = alike.words.len';
          buf = alike.words.buf;
          returned = λ n hn t. alike.words.returned n hn (by_whole n _ (whole (line_number y)) hn t);
          offered = alike.words.offered;
        })
        go (other ne) = rw (get_or-set_other m.records p q right.0.process no_process ne) (record {
          rows = alike.words.rows;
          rows' = alike.words.rows';
          len = alike.words.len;
          len' = alike.words.len';
          buf = alike.words.buf;
          returned =
              λ n hn t. ap (half n) (return_stays N W R j p a.on hp kept_left q (word_of n) b ne (omega arith)) ∙ (g.words q b).returned n hn t
              ∙ sym (ap (half n) (return_alone N W p hp kept_right q (word_of n) b ne (omega arith)));
          offered = λ n hn t. offer_stays N W R j p a.on hp kept_left q n b ne hn ∙ (g.words q b).offered n hn t ∙ sym (offer_alone N W p hp kept_right q n b ne hn);
        })

    pub own_agrees : Agrees N W R j after alone
    own_agrees = let t = tables_back s j p left (let x = a.on in omega arith) in record {
      x = ap (λ (u : Tables). u.x) t ∙ ap (λ (b : Bench). b.x) alike.bench;
      bank = ap (λ (u : Tables). u.bank) t ∙ ap (λ (b : Bench). b.bank) alike.bench;
      help = ap (λ (u : Tables). u.help) t ∙ ap (λ (b : Bench). b.help) alike.bench;
      process = own_process;
      words = own_words;
    }

    -- what holds of the bench of its own after the command
    abbrev z' : State
    z' = exec N (halves W) k (to_f N W (record { process = p; order = c.order; value = c.value })) z

    next : Holds N W h_w (suc k) alone z'
    next = subst (λ (t : Reply × Memory). Holds N W h_w (suc k) t.1 z') command_alone (holds_after N W h_w k m z h (record { process = p; order = c.order; value = c.value }))

    right_record : right.0.process ≡ record_of (z'.loc p)
    right_record = sym (get_or-set_same m.records p right.0.process no_process hr) ∙ next.related.process p hp

    -- left at rest, a process has word place 0 and count 0
    pub rested : left.0.process.line ≡ 0 → (left.0.process.word ≡ 0) × (left.0.process.count ≡ 0)
    rested i =
        let u : line_number (z'.loc p).point ≡ 0 = sym (ap (λ (q : Process). q.line) right_record) ∙ sym alike.process.line ∙ i in
        let t : PointFacts.is_idle (z'.loc p).point ≡ true = ap (λ n. eqb n 0) u in (
          alike.process.word ∙ ap (λ (q : Process). q.word) right_record ∙ idle_word N (halves W) z' p hp next.place (PointFacts.idle_is (z'.loc p).point t),
          alike.process.count ∙ ap (λ (q : Process). q.count) right_record ∙ (counts_in N W h_w (suc k) z' next.inv next.count p hp).idle t,
        )

    -- the answers
    says_same : (r r' : Reply) → r ≡ r'
        → (answers_ll r ≡ true → return_area_of after me ≡ return_area alone.bench.n alone.bench.w me alone.words)
        → station_says after p r ≡ says alone me r'
    says_same r r' i t = subst (λ u. station_says after p r ≡ says alone me u) i (go r t)
      where
        go : (r : Reply) → (answers_ll r ≡ true → return_area_of after me ≡ return_area alone.bench.n alone.bench.w me alone.words) → station_says after p r ≡ says alone me r
        go (Refused n) t = refl
        go Accepted t = refl
        go (LlAnswered n) t = ap (λ v. answered (ll_words v) n) (t refl)
        go (ScAnswered b n) t = refl
        go (VlAnswered b n) t = refl

    same_area : whole (line_number y) ≡ true → return_area_of after me ≡ return_area alone.bench.n alone.bench.w me alone.words
    same_area t =
        let live = alike.words in
        let u : suc (R * buffers N + p) * W ≤ T * W = mul-le-mul_right W (live.rows.return_below p hp) in
        let v : suc (buffers N + p) * W ≤ 5 * N * W = mul-le-mul_right W (live.rows'.return_below p hp) in
        cut_words W ((R * buffers N + p) * W + 0) left.1 (let x = live.len in omega arith)
        ∙ words_of_ext (halves W) _ _ (λ i hi. each i hi)
        ∙ sym (cut_words W ((buffers N + p) * W + 0) right.1 (let x = live.len' in omega arith))
        ∙ sym (ap₂ (λ n w. return_area n w me right.1) next.related.n next.related.w)
      where
        first : (r i : ℕ) → r * W + 0 + i ≡ r * W + i
        first r i = omega arith

        each : (i : ℕ) → i < halves W → half i (get_or left.1 ((R * buffers N + p) * W + 0 + word_of i) 0) ≡ half i (get_or right.1 ((buffers N + p) * W + 0 + word_of i) 0)
        each i hi =
            ap (λ n. half i (get_or left.1 n 0)) (first (R * buffers N + p) (word_of i))
            ∙ alike.words.returned i hi (subst (λ b. i < cond b (halves W) (returns W right.0.process.line right.0.process.word)) (sym t) hi)
            ∙ ap (λ n. half i (get_or right.1 n 0)) (sym (first (buffers N + p) (word_of i)))

    pub own_says : station_says after p left.0.reply ≡ says alone me right.0.reply
    own_says = says_same left.0.reply right.0.reply alike.reply (λ t. same_area (let r = h.range.each p hp in
        obey_ll N W p L hp m.bench.x m.bench.bank m.bench.help (record_of f).mybuf (record_of f).x f.word f.count f.answered own.b own.c own.d own.e
        ws r.my r.word c.order c.value y t))

    -- b, c, d and e stay in range
    pub left_in : InBounds N own.b own.c own.d own.e → InBounds N left.0.process.b left.0.process.c left.0.process.d left.0.process.e
    left_in i = let r = h.range.each p hp in
        obey_in_is N W p L hp m.bench.x m.bench.bank m.bench.help (record_of f).mybuf (record_of f).x f.word f.count f.answered own.b own.c own.d own.e
        ws r.my r.word i.b i.c i.d i.e
        (λ n hn. subst (λ v. v < buffers N) (sym (h.related.places.help n hn).buf) (h.range.all.help_buf n hn))
        (λ n hn. subst (λ v. v < buffers N) (sym (h.related.places.bank n hn).buf) (h.range.all.bank n hn))
        c.order c.value y
