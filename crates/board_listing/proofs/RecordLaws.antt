-- A record is carried out as an entry of a run that has done none: what it comes to is `BoardListing`'s, counted anew.
use mathlib.Core.Path.{◌≡◌, refl, sym, ap, subst, ◌∙◌}
use mathlib.Core.Bool.{Bool, true, false, cond}
use mathlib.Core.List.{List, [], ◌++◌}
use Prim.Native.Nat.{ℕ, zero, suc, ◌+◌, ◌-◌, ◌≤◌}
use native.Mathlib.Omega.{arith}
use lib.Dec.{eqb, ltb, leb}
use lib.ListN.{length}
use lib.Seq.{sets}
use borrow.Author.Tests.{eq-eqb, ne_eqb, eqb-false, lt-leb, ltb-false}
use Rattle.model.specs.declared.Reply.{Reply}
use Rattle.model.specs.Machine.{Memory}
use Rattle.model.specs.Replies.{number_of}
use Rattle.text_entry.specs.Decision.{Outcome, decided}
use Rattle.notation.specs.declared.Entry.{Entry}
use Rattle.notation.specs.declared.Entry.TheVariants.{StartLl, StartVl, StartSc, Step}
use Rattle.notation.specs.Grammar.{largest}
use Rattle.boards.specs.Files.{BoardRecord}
use Rattle.text_runs.specs.TextRun.{most_entries, room_needed, process_of, order_of, value_of}
use Rattle.text_runs.specs.TextRun as TR
use Rattle.text_model.specs.TextRun.{figure2, Progress, stopped, lines_of, trace_line, counted, commanded, single}
use Rattle.text_runs.specs.TrueTraces.{outcome}
use Rattle.text_entry.specs.RunState.{RunState, progress, Ready, Small, answer_line}
use Rattle.text_entry.proofs.WordLaws.{Below}
use Rattle.text_entry.proofs.CommandLaws.{decides}
use Rattle.text_entry.proofs.DecisionLaws.{done}
use Rattle.text_entry.proofs.SingleLaws.{value_every, refused_becomes, answered_becomes}
use Rattle.board_listing.specs.BoardListing.{entry_of}
use Rattle.board_listing.specs.ListedRun.{recounted, Between}

module _ (e : Entry) (s : Progress) (z : s.stop ≡ 0) (none : s.entries ≡ 0) (listed : s.traced ≡ false) where
  abbrev tight : Bool
  tight = ltb (length s.listing - s.written) (room_needed false)

  abbrev out : Reply × Memory
  out = outcome figure2 e s

  abbrev accepted : Bool
  accepted = eqb (number_of out.0) 0

  abbrev came : Bool → Bool → Progress → Progress
  came t u x = cond t (stopped 14 x) (cond u (counted x out.1 (lines_of x e out)) (stopped (number_of out.0) x))

  -- 12 doesn't hold where no entry was done
  single_is : single e s ≡ came tight accepted s
  unfolding TR.single
  single_is =
      let few : leb most_entries s.entries ≡ false = lt-leb most_entries s.entries (omega (arith, none)) in
      simp (eq-eqb s.stop 0 z, few) (ap (λ (t : Bool). cond (ltb (length s.listing - s.written) (room_needed t)) (stopped 14 s) (commanded e s)) listed)

  pub counts : (d : ℕ) → (single e s).stop ≡ 0 → came tight accepted (recounted d s) ≡ recounted (d + 1) (single e s)
  counts d g = go tight accepted refl (sym (ap (λ (x : Progress). x.stop) single_is) ∙ g) ∙ ap (recounted (d + 1)) (sym single_is)
    where
      go : (t u : Bool) → accepted ≡ u → (came t u s).stop ≡ 0 → came t u (recounted d s) ≡ recounted (d + 1) (came t u s)
      go true u q h = absurd (let w : ⊥ = omega (arith, h) in w)
      go false true q h =
          let same : lines_of (recounted d s) e out ≡ lines_of s e out = simp listed in
          ap (λ (l : List ℕ). counted (recounted d s) out.1 l) same
      go false false q h = absurd (eqb-false (number_of out.0) 0 q h)

  pub stops : (d : ℕ) → ((single e s).stop ≡ 0 → ⊥) → came tight accepted (recounted d s) ≡ recounted d (single e s)
  stops d g = go tight accepted (λ h. g (ap (λ (x : Progress). x.stop) single_is ∙ h)) ∙ ap (recounted d) (sym single_is)
    where
      go : (t u : Bool) → ((came t u s).stop ≡ 0 → ⊥) → came t u (recounted d s) ≡ recounted d (came t u s)
      go true u h = refl
      go false true h = absurd (h refl)
      go false false h = refl

  pub stays_listed : (single e s).traced ≡ s.traced
  stays_listed = ap (λ (x : Progress). x.traced) single_is ∙ go tight accepted
    where
      go : (t u : Bool) → (came t u s).traced ≡ s.traced
      go true u = refl
      go false true = refl
      go false false = refl

  pub writes_none : ((single e s).stop ≡ 0 → ⊥) → (single e s).written ≡ s.written
  writes_none g = sym (ap (λ (x : Progress). x.written) (stops 0 g)) ∙ go tight accepted (λ h. g (ap (λ (x : Progress). x.stop) single_is ∙ h))
    where
      go : (t u : Bool) → ((came t u s).stop ≡ 0 → ⊥) → (came t u (recounted 0 s)).written ≡ s.written
      go true u h = refl
      go false true h = absurd (h refl)
      go false false h = refl

  -- an entry that goes on was commanded with 744 bytes left
  pub roomy : (single e s).stop ≡ 0 → (room_needed false ≤ length s.listing - s.written) × (single e s ≡ commanded e s)
  roomy g = go tight refl (sym (ap (λ (x : Progress). x.stop) single_is) ∙ g)
    where
      go : (t : Bool) → tight ≡ t → (came t accepted s).stop ≡ 0 → (room_needed false ≤ length s.listing - s.written) × (single e s ≡ commanded e s)
      go true q h = absurd (let w : ⊥ = omega (arith, h) in w)
      go false q h = (ltb-false (length s.listing - s.written) (room_needed false) q, single_is ∙ ap (λ (t : Bool). came t accepted s) q)

-- an answer line has at most 713 bytes, so there are 31 left of 744
module _ {h : RunState} (b : Between h) (e : Entry) (small : Small e) where
  abbrev s : Progress
  s = progress 16 h

  abbrev x : Outcome × List ℕ
  x = decided h.run.held.bench h.run.held.all 16 (process_of e) (order_of e) (value_of h.run.held.bench.w e) h.words

  module _ (l : room_needed false ≤ length h.listing - h.written) where
    ready : Ready h
    ready = record {
      goes = b.goes;
      entries = omega (arith, b.none);
      room = subst (λ (t : Bool). h.written + room_needed t ≤ length h.listing) (sym b.listed) (omega (arith, l, b.room));
    }

    number : (commanded e s).stop ≡ 0 → number_of x.0.reply ≡ 0
    number g = go (number_of x.0.reply) refl
      where
        go : (k : ℕ) → number_of x.0.reply ≡ k → k ≡ 0
        go zero q = refl
        go (suc k) q =
            let r = refused_becomes e x.0 x.1 small b.sound ready refl (λ y. omega (arith, y, q)) in
            let w : number_of x.0.reply ≡ 0 = ap (λ (t : Progress). t.stop) r.same ∙ g in omega (arith, w, q)

    within : (commanded e s).stop ≡ 0 → (commanded e s).written ≤ h.written + 713
    within g =
        let z = number g in
        let did = done h.run.held.bench h.run.held.all 16 (process_of e) (order_of e) (value_of h.run.held.bench.w e) h.words b.sound.filled.sixteen
        (decides h.run.held.bench h.run.held.all 16 (process_of e) (order_of e) (value_of h.run.held.bench.w e) h.words b.sound.filled.sixteen (value_every e h.run.held.bench.w small)) z in
        let below : Below _ h.words = record { at = (b.sound.going b.goes).small } in
        let line = answer_line x.0.bench.n x.0.bench.w x.1 (process_of e) x.0.reply in
        let all = cond h.run.traced (trace_line (h.run.entries + 1) s.memory e x.0.reply) [] ++ line in
        let a = answered_becomes e x.0 x.1 small b.sound ready refl z (sets h.listing h.written all) (h.written + length all) (record { place = refl; list = refl }) in
        let only : all ≡ line = ap (λ (t : Bool). cond t (trace_line (h.run.entries + 1) s.memory e x.0.reply) [] ++ line) b.listed in
        let w : h.written + length all ≡ (commanded e s).written = ap (λ (t : Progress). t.written) a.same in
        omega (arith, w, ap length only, did.line below)

  pub room_left : (single e s).stop ≡ 0 → (single e s).written + 31 ≤ length h.listing
  room_left g =
      let r = roomy e s b.goes b.none b.listed g in
      let k = ap (λ (t : Progress). t.stop) r.1 in
      let w = within r.0 (sym k ∙ g) in
      omega (arith, w, r.0, ap (λ (t : Progress). t.written) r.1)

-- the entry of a record, by its order
module _ (r : BoardRecord) (small : r.process ≤ largest) where
  pub is_step_is : r.order ≡ 0 → (Step r.process ≡ entry_of r) × Small (Step r.process)
  is_step_is e = (simp (eq-eqb r.order 0 e), small)

  pub is_ll_is : r.order ≡ 1 → (StartLl r.process ≡ entry_of r) × Small (StartLl r.process)
  is_ll_is e = (rw e refl, small)

  pub is_sc : {v : ℕ} → r.order ≡ 2 → v ≡ r.value → v ≤ largest → (StartSc r.process v ≡ entry_of r) × Small (StartSc r.process v)
  is_sc e f l = (ap (StartSc r.process) f ∙ rw e refl, (small, l))

  pub is_vl : (r.order ≡ 0 → ⊥) → (r.order ≡ 1 → ⊥) → (r.order ≡ 2 → ⊥) → (StartVl r.process ≡ entry_of r) × Small (StartVl r.process)
  is_vl a b c = (simp (ne_eqb r.order 0 a, ne_eqb r.order 1 b, ne_eqb r.order 2 c), small)

-- what `entry_of` rests on
pub ruleset entry_laws = (is_step_is, is_ll_is, is_sc, is_vl)
