-- CR 13 for the bench of one record: it is a station of one record, so two that are apart change places on it.
use mathlib.Core.Path.{◌≡◌, refl, sym, ap, ap₂, subst, ◌∙◌}
use mathlib.Core.Logic.{inl, inr}
use mathlib.Core.Bool.{Bool, true, false, cond}
use mathlib.Core.List.{List, [], ◌∷◌, map}
use Prim.Native.Nat.{ℕ, suc, ◌+◌, ◌*◌, ◌<◌}
use native.Mathlib.Omega.{arith}
use lib.Dec.{ltb}
use lib.ListN.{take, drop}
use borrow.Author.Tests.{ltb-true}
use Rattle.llsc.specs.declared.ProcessNumber.{ProcessNumber}
use Rattle.model.specs.declared.Process.{Process}
use Rattle.model.specs.declared.Reply.{Reply}
use Rattle.model.specs.declared.Reply.TheVariants.{Refused, Accepted, LlAnswered, ScAnswered, VlAnswered}
use Rattle.llsc.specs.Answers.{answered, ll_words}
use Rattle.llsc.specs.Rows.{is_start}
use Rattle.model.specs.Sizes.{buffers, halves}
use Rattle.model.specs.Words.{Layout, one_record}
use Rattle.model.specs.Records.{record_at}
use Rattle.model.specs.Machine.{Memory}
use Rattle.model.specs.Command.{refusal, command}
use Rattle.model.specs.Replies.{says}
use Rattle.model.specs.SetUp.{set_up}
use Rattle.model.specs.History.{next, event_of}
use Rattle.llsc.specs.History.{Command}
use Rattle.after_commands.specs.After.{after}
use Rattle.serving.proofs.RefusalFacts.{and_true}
use Rattle.station.specs.declared.RecordNumber.{RecordNumber}
use Rattle.station.specs.declared.StationProcess.{StationProcess}
use Rattle.station.specs.Station.{StationMemory, process_at, station_layout}
use Rattle.station.specs.Projection.{process_of}
use Rattle.station.specs.StationRefusals.{StationOrder}
use Rattle.station.specs.StationCommand.{station_refusal, station_command}
use Rattle.station.specs.StationSetUp.{station_set_up}
use Rattle.station.specs.StationHistory.{station_says, station_after}
use Rattle.station_laws.specs.OneRecord.{as_bench, on_the_one}
use Rattle.station_facts.proofs.Accepts.{accepts}
use Rattle.station_laws.proofs.StationRuns.{Inv, step_inv}
use Rattle.station_laws.proofs.StationSetUpLaws.{h_w, set_up_inv}
use Rattle.station_laws.proofs.OneRecordLaws.{only, one_layout, one_record_lem, one_record_refusal, shown}
use Rattle.station_laws.proofs.OneRecordSetUp.{one_record_set_up}
use Rattle.doings.specs.declared.Item.{Item}
use Rattle.doings.specs.Own.{Own, own_in}
use Rattle.doings.specs.Doings.{Touching, nothing, one, doing, Apart}
use Rattle.commuting_laws.specs.Parts.{StationItem, own_of}
use Rattle.commuting_laws.specs.StationDoings.{own_at, on_record, does}
use Rattle.commuting_laws.specs.Commuting.{leaves, said_to, Swapped}
use Rattle.commuting_laws.specs.OnTheBench.{Admitted, reply, bench_does, BenchSwapped, CommuteOnTheBench}
use Rattle.commuting_laws.proofs.AsStation.{as_station, bench_again, as_shaped}
use Rattle.commuting_laws.proofs.Theorems.{commute}

-- a station of one record, and the bench that it is
module _ (N W : ℕ) (h_w : 0 < halves W) where
  record Alone (s : StationMemory) (m : Memory) : Type 0 where
    k : ℕ
    ms : RecordNumber → Memory
    inv : Inv N W 1 h_w k s ms
    same : as_bench s ≡ m

  module _ {s : StationMemory} {m : Memory} (a : Alone s m) where
    called : (p : ℕ) → p < s.n → (process_at s p).called.0 ≡ 0
    called p hp =
        let ok = a.inv.called p (omega (arith, hp, a.inv.n)) in
        let low : (process_at s p).called.0 < 1 = ltb-true (process_at s p).called.0 1 (and_true (ltb (process_at s p).called.0 1) _ ok).0 in
        omega arith

    answers : (c : Command) → ◌≡◌ {A = Reply × Memory} ((station_command s (on_the_one c)).0, as_bench (leaves s (on_the_one c))) (command m c.process c.order c.value)
    answers c =
        one_record_lem s a.inv.r called a.inv.tables (on_the_one c) refl (λ hp _. a.inv.holdings c.process (omega (arith, hp, a.inv.n)))
        ∙ ap (λ (b : Memory). command b c.process c.order c.value) a.same

    refused : (c : Command) → station_refusal s (on_the_one c) ≡ refusal m c.process c.order c.value
    refused c = one_record_refusal s a.inv.r called (on_the_one c) refl ∙ ap (λ (b : Memory). refusal b c.process c.order c.value) a.same

    after_one : (c : Command) → Alone (leaves s (on_the_one c)) (next m c)
    after_one c = record {
      k = suc a.k;
      ms = _;
      inv = step_inv N W 1 h_w a.k s a.ms a.inv (on_the_one c);
      same = ap (λ (o : Reply × Memory). o.1) (answers c);
    }

    same_reply : (c : Command) → (station_command s (on_the_one c)).0 ≡ reply m c
    same_reply c = ap (λ (o : Reply × Memory). o.0) (answers c)

  after_all_is : (cs : List Command) (s : StationMemory) (m : Memory) → Alone s m → Alone (station_after s (map on_the_one cs)) (after m cs)
  unfolding station_after after
  after_all_is [] s m a = a
  after_all_is (c ∷ cs) s m a = after_all_is cs (leaves s (on_the_one c)) (next m c) (after_one a c)

-- what the command does, and what its reply says
module _ {N W : ℕ} {h_w : 0 < halves W} {s : StationMemory} {m : Memory} (a : Alone N W h_w s m) (c : Command) where
  abbrev p : ProcessNumber
  p = record { 0 = c.process }

  abbrev q : StationProcess
  q = process_at s c.process

  abbrev own_seen : RecordNumber → Touching StationItem StationProcess
  own_seen j = on_record j q (doing c.order s.n s.w p c.value (own_at j (own_of s p)))

  on_record_0 : (b : Bool) → q.called.0 ≡ 0 → cond b 0 q.called.0 ≡ 0
  on_record_0 true e = refl
  on_record_0 false e = e

  same_own : own_at only (own_of s p) ≡ own_in (one_record s.n) s.w p (record_at (as_bench s).records p) s.words
  same_own =
      ap (λ (r : ℕ). own_in (station_layout s.n r only) s.w p (process_of only q) s.words) a.inv.r
      ∙ ap₂ (λ (l : Layout) (u : Process). own_in l s.w p u s.words) (one_layout s.n) (sym (shown s.processes c.process))

  same_doing : c.process < s.n → does s (on_the_one c) ≡ on_record only q (bench_does m c)
  same_doing hp =
      ap (λ (k : ℕ). own_seen (record { 0 = k })) (on_record_0 (is_start c.order) (called N W h_w a c.process hp))
      ∙ ap (λ (o : Own Process). on_record only q (doing c.order s.n s.w p c.value o)) same_own
      ∙ ap (λ (b : Memory). on_record only q (bench_does b c)) a.same

says_alike : (s : StationMemory) → s.r ≡ 1 → (p : ℕ) (r : Reply) → station_says s p r ≡ says (as_bench s) (record { 0 = p }) r
says_alike s e p (Refused k) = refl
says_alike s e p Accepted = refl
says_alike s e p (LlAnswered k) =
    let one_times : s.r * buffers s.n ≡ buffers s.n = ap (λ (r : ℕ). r * buffers s.n) e ∙ (let z : 1 * buffers s.n ≡ buffers s.n = omega arith in z) in
    ap (λ (a : ℕ). answered (ll_words (take s.w (drop ((a + p) * s.w + 0) s.words))) k) one_times
says_alike s e p (ScAnswered t k) = refl
says_alike s e p (VlAnswered t k) = refl

same_said : {N W : ℕ} {h_w : 0 < halves W} {s : StationMemory} {m : Memory} → Alone N W h_w s m → (c : Command) → said_to s (on_the_one c) ≡ (event_of m c).said
same_said {N} {W} {h_w} {s} {m} a c =
    let then = after_one N W h_w a c in
    says_alike (leaves s (on_the_one c)) then.inv.r c.process (station_command s (on_the_one c)).0
    ∙ ap₂ (λ (b : Memory) (r : Reply). says b (record { 0 = c.process }) r) then.same (same_reply N W h_w a c)

-- apart on the bench, apart on the one record
apart_there : (j : RecordNumber) (q₁ q₂ : StationProcess) (t u : Touching Item Process) → Apart t u → Apart (on_record j q₁ t) (on_record j q₂ u)
apart_there j q₁ q₂ (nothing o) u a = tt
apart_there j q₁ q₂ (one d) (nothing out) a = tt
apart_there j q₁ q₂ (one d) (one e) (inl n) = inl (λ x. n (ap (λ (i : StationItem). i.item) x))
apart_there j q₁ q₂ (one d) (one e) (inr y) = inr y

-- what is swapped on the one record is swapped on the bench
module _ {N W : ℕ} {h_w : 0 < halves W} {s : StationMemory} {m : Memory} (a : Alone N W h_w s m) (c d : Command) where
  abbrev c' : StationOrder
  c' = on_the_one c

  abbrev d' : StationOrder
  d' = on_the_one d

  swapped_there : (station_refusal s c' ≡ 0 → station_refusal (leaves s c') d' ≡ 0 → Apart (does s c') (does (leaves s c') d') → Swapped s c' d')
      → Admitted m c → Admitted (next m c) d → Apart (bench_does m c) (bench_does (next m c) d) → BenchSwapped m c d
  swapped_there swap ec ed x =
      let ac = after_one N W h_w a c in let ad = after_one N W h_w a d in
      let fc : station_refusal s c' ≡ 0 = refused N W h_w a c ∙ ec in
      let fd : station_refusal (leaves s c') d' ≡ 0 = refused N W h_w ac d ∙ ed in
      let q₁ = process_at s c.process in let q₂ = process_at (leaves s c') d.process in
      let there = apart_there only q₁ q₂ (bench_does m c) (bench_does (next m c) d) x in
      let first : on_record only q₁ (bench_does m c) ≡ does s c' = sym (same_doing a c (accepts s c' fc).below) in
      let second : on_record only q₂ (bench_does (next m c) d) ≡ does (leaves s c') d' = sym (same_doing ac d (accepts (leaves s c') d' fd).below) in
      let z = swap fc fd (subst (Apart (does s c')) second (subst (λ (t : Touching StationItem StationProcess). Apart t (on_record only q₂ (bench_does (next m c) d))) first there)) in
      record {
        admitted_d = sym (refused N W h_w a d) ∙ z.accepted_d;
        admitted_c = sym (refused N W h_w ad c) ∙ z.accepted_c;
        reply_c = sym (same_reply N W h_w ad c) ∙ z.reply_c ∙ same_reply N W h_w a c;
        reply_d = sym (same_reply N W h_w a d) ∙ z.reply_d ∙ same_reply N W h_w ac d;
        said_c = sym (same_said ad c) ∙ z.said_c ∙ same_said a c;
        said_d = sym (same_said a d) ∙ z.said_d ∙ same_said ac d;
        memory = sym (after_one N W h_w ad c).same ∙ ap as_bench z.memory ∙ (after_one N W h_w ac d).same;
      }

pub commute_on_the_bench : CommuteOnTheBench
commute_on_the_bench m h n w value cs e c d ne ec ed x =
    let s = as_station m in let hs = as_shaped m h in
    let set_up_lem : ◌≡◌ {A = ℕ × Memory} ((station_set_up s n w 1 value).0, as_bench (station_set_up s n w 1 value).1) (set_up m n w value) =
    one_record_set_up s hs n w value ∙ ap (λ (b : Memory). set_up b n w value) (bench_again m) in
    let es : (station_set_up s n w 1 value).0 ≡ 0 = ap (λ (o : ℕ × Memory). o.0) set_up_lem ∙ e in
    let wide = h_w s hs n w 1 value es in
    let start : Alone n w wide (station_set_up s n w 1 value).1 (set_up m n w value).1 =
    record { k = 1; ms = _; inv = set_up_inv s hs n w 1 value es; same = ap (λ (o : ℕ × Memory). o.1) set_up_lem } in
    let here = after_all_is n w wide cs (station_set_up s n w 1 value).1 (set_up m n w value).1 start in
    swapped_there here c d (commute s hs n w 1 value (map on_the_one cs) es (on_the_one c) (on_the_one d) ne) ec ed x
