-- A step depends on what is live alone: two process records and two word lists that agree there give the same bench, the
-- same reply, and agree again.
use mathlib.Core.Path.{◌≡◌, refl, sym, ap, subst}
use mathlib.Core.Bool.{Bool, true, false, cond}
use mathlib.Core.List.{List}
use Prim.Native.Nat.{ℕ, ◌+◌, ◌<◌}
use native.Mathlib.Omega.{arith}
use lib.Dec.{ltb, eqb}
use borrow.Author.Tests.{ltb-false}
use lib.ListN.{length}
use Rattle.model.specs.declared.BufferNumber.{BufferNumber}
use Rattle.llsc.specs.declared.ProcessNumber.{ProcessNumber}
use Rattle.model.specs.declared.XContent.{XContent}
use Rattle.model.specs.declared.Bench.{Bench}
use Rattle.model.specs.declared.Process.{Process}
use Rattle.llsc.specs.declared.Order.{Order}
use Rattle.llsc.specs.declared.Order.TheVariants.{StartLl, StartSc, StartVl, Step}
use Rattle.model.specs.declared.Reply.{Reply}
use Rattle.model.specs.declared.Reply.TheVariants.{Accepted, LlAnswered, ScAnswered}
use Rattle.model.specs.declared.Moved.{Moved}
use Rattle.model.specs.Places.{XPlace, BankPlace, HelpPlace, linked, sc_place}
use Rattle.model.specs.Tables.{bank_at, help_at, put_x, put_help, helped, next}
use Rattle.model.specs.Sizes.{buffers, halves}
use Rattle.model.specs.Words.{Layout, word_of, half}
use Rattle.model.specs.Records.{to, rest, next_word, first_word, marked}
use Rattle.model.specs.Machine.{stepped_in, obey_in}
use Rattle.llsc.specs.Rows.{is_start, brings_value}
use Rattle.model.specs.Points.{Point, line_number, idle, line1, line2, line3, line4, line5, line6, line7, line7copy, line8, line9}
use Rattle.model.specs.Points.{line10, line11, line12, line12valid, line13, line14, line14valid, line15, line17, line18, line19, line23}
use Rattle.laws.proofs.Updates.{by_test₂, contra}
use Rattle.linearization.proofs.WordPlace.{AtFirst}
use Rattle.linearization.proofs.PointFacts.{point_of_lem}
use Rattle.station_laws.proofs.Live.{On, needs_b, needs_c, needs_d, needs_e, whole, returns, offers, LiveProcess, pr, live}
use Rattle.station_laws.proofs.LiveWords.{LiveWords, cell, put, less, read, wrote, offer}

-- what two steps at y leave
pub record Alike (N W p T T' : ℕ) (l l' : Layout) (y : Point) (o o' : Moved × List ℕ) : Type 0 where
  pub bench : o.0.bench ≡ o'.0.bench
  pub reply : o.0.reply ≡ o'.0.reply
  pub process : LiveProcess o.0.process o'.0.process
  pub words : LiveWords N W p (cond (whole (line_number y)) (halves W) (returns W o'.0.process.line o'.0.process.word)) (offers W o'.0.process.line) T T' l l' o.1 o'.1

module _ (N W p T T' : ℕ) (L L' : Layout) (hp : p < N) (x : XPlace) (ks : List BankPlace) (hs : List HelpPlace) (mb : BufferNumber) (cx : XContent) (wd ct : ℕ) (an : Bool)
    (b c d e b' c' d' e' : BufferNumber) (ws ws' : List ℕ) (hm : mb.0 < buffers N) (hx : cx.buf.0 < buffers N) (hw : wd < halves W) where
  abbrev me : ProcessNumber
  me = record { 0 = p }

  abbrev at : Bench
  at = record { n = N; w = W; x = x; bank = ks; help = hs }

  abbrev q : Point → Process
  q y = pr y mb cx wd ct an b c d e

  abbrev u : Point → Process
  u y = pr y mb cx wd ct an b' c' d' e'

  -- the words before
  abbrev Words : Point → Type 0
  Words y = LiveWords N W p (returns W (line_number y) wd) (offers W (line_number y)) T T' L L' ws ws'

  -- the same bench and reply
  abbrev Both : Point → Bench → Reply → List ℕ → List ℕ → Process → Process → Type 0
  Both y B a v v' m m' = Alike N W p T T' L L' y (record { bench = B; process = m; reply = a }, v) (record { bench = B; process = m'; reply = a }, v')

  -- a half of BUF[f] at the word place into the return area, here and there
  abbrev into : ℕ → List ℕ
  into f = put W ws (L.returns + p) wd (cell W ws (L.buffer f) (word_of wd))

  abbrev into' : ℕ → List ℕ
  into' f = put W ws' (L'.returns + p) wd (cell W ws' (L'.buffer f) (word_of wd))

  -- a half of an area's word into BUF[mybuf]; `area` is the row
  abbrev from : ℕ → List ℕ
  from area = put W ws (L.buffer mb.0) wd (cell W ws area (word_of wd))

  abbrev from' : ℕ → List ℕ
  from' area = put W ws' (L'.buffer mb.0) wd (cell W ws' area (word_of wd))

  abbrev more : Bool
  more = ltb (wd + 1) (halves W)

  -- a run of words into the return area, at y with the line z after it
  run : (y z : Point) (f : ℕ) → f < buffers N
      → LiveProcess (next_word (q y)) (next_word (u y)) → LiveProcess (to z (first_word (q y))) (to z (first_word (u y)))
      → (more ≡ true → LiveWords N W p (cond (whole (line_number y)) (halves W) (returns W (line_number y) (wd + 1))) (offers W (line_number y)) T T' L L' (into f) (into' f))
      → (more ≡ false → LiveWords N W p (cond (whole (line_number y)) (halves W) (returns W (line_number z) 0)) (offers W (line_number z)) T T' L L' (into f) (into' f))
      → Both y at Accepted (into f) (into' f) (cond more (next_word (q y)) (to z (first_word (q y)))) (cond more (next_word (u y)) (to z (first_word (u y))))
  run y z f hf i o v v' = by_test₂ (Both y at Accepted (into f) (into' f)) more
      (λ t. record { bench = refl; reply = refl; process = i; words = v t })
      (λ t. record { bench = refl; reply = refl; process = o; words = v' t })

  pub step_alike : (y : Point) → AtFirst y wd → On (needs_b (line_number y)) (b ≡ b') → On (needs_c (line_number y)) (c ≡ c')
      → On (needs_d (line_number y)) (d ≡ d') → On (needs_e (line_number y)) (e ≡ e') → b'.0 < buffers N
      → Words y → Alike N W p T T' L L' y (stepped_in L y me at (q y) ws) (stepped_in L' y me at (u y) ws')
  step_alike idle f hb hc hd he h_b l = record { bench = refl; reply = refl; process = live idle tt tt tt tt; words = l }
  step_alike line1 f hb hc hd he h_b l = record { bench = refl; reply = refl; process = live line2 tt tt tt tt; words = l }
  step_alike line2 f hb hc hd he h_b l = record { bench = refl; reply = refl; process = live line3 tt tt tt tt; words = less N W p hp l (omega arith) (omega arith) }
  step_alike line3 f hb hc hd he h_b l =
      let m : LiveWords N W p wd 0 T T' L L' ws ws' = l in
      run line3 line4 cx.buf.0 hx (live line3 tt tt tt tt) (live line4 tt tt tt tt)
      (λ t. read N W p hp m (wd + 1) cx.buf.0 wd hx hw (λ i hi h ne. omega arith))
      (λ t. read N W p hp m (halves W) cx.buf.0 wd hx hw (λ i hi h ne. let z = ltb-false (wd + 1) (halves W) t in omega arith))
  step_alike line4 f hb hc hd he h_b l = by_test₂ (Both line4 _ Accepted ws ws') (eqb (help_at at me).content.flag 0)
      (λ t. record { bench = refl; reply = refl; process = live line5 refl tt tt tt; words = l })
      (λ t. record { bench = refl; reply = refl; process = live line8 tt tt tt tt; words = l })
  step_alike line5 f hb hc hd he h_b l = record { bench = refl; reply = refl; process = live line6 hb tt tt tt; words = l }
  step_alike line6 f hb hc hd he h_b l = run line6 line7 cx.buf.0 hx (live line6 hb tt tt tt) (live line7 hb tt tt tt)
      (λ t. read N W p hp l (halves W) cx.buf.0 wd hx hw (λ i hi h ne. h))
      (λ t. read N W p hp l (halves W) cx.buf.0 wd hx hw (λ i hi h ne. h))
  step_alike line7 f hb hc hd he h_b l = by_test₂ (Both line7 _ Accepted ws ws') (linked x.links me)
      (λ t. record { bench = refl; reply = refl; process = live line8 tt tt tt tt; words = l })
      (λ t. record { bench = refl; reply = refl; process = live line7copy hb tt tt tt; words = l })
  step_alike line7copy f hb hc hd he h_b l =
      let Goal : BufferNumber → Type 0 =
      λ k. Both line7copy at Accepted (into k.0) (into' b'.0) (cond more (next_word (q line7copy)) (to line8 (first_word (q line7copy))))
      (cond more (next_word (u line7copy)) (to line8 (first_word (u line7copy)))) in
      subst Goal (sym hb)
      (run line7copy line8 b'.0 h_b (live line7copy hb tt tt tt) (live line8 tt tt tt tt)
      (λ t. read N W p hp l (halves W) b'.0 wd h_b hw (λ i hi h ne. h))
      (λ t. read N W p hp l (halves W) b'.0 wd h_b hw (λ i hi h ne. h)))
  step_alike line8 f hb hc hd he h_b l = by_test₂ (Both line8 _ Accepted ws ws') (eqb (help_at at me).content.flag 1)
      (λ t. record { bench = refl; reply = refl; process = live line9 tt refl tt tt; words = l })
      (λ t. record { bench = refl; reply = refl; process = live line10 tt tt tt tt; words = l })
  step_alike line9 f hb hc hd he h_b l =
      record { bench = ap (λ k. put_help at me (sc_place (help_at at me) me (record { flag = 0; buf = k }))) hc; reply = refl; process = live line10 tt tt tt tt; words = l }
  step_alike line10 f hb hc hd he h_b l = record { bench = refl; reply = refl; process = live line11 tt tt tt tt; words = l }
  step_alike line11 f hb hc hd he h_b l = go more
    where
      wrote_back : LiveWords N W p (halves W) 0 T T' L L' (from (L.returns + p)) (from' (L'.returns + p))
      wrote_back = wrote N W p hp l _ _ mb.0 wd (l.returned wd hw hw) hm hw

      go : (t : Bool) → Alike N W p T T' L L' line11
          (record { bench = at; process = cond t (next_word (q line11)) (rest (marked (first_word (q line11)))); reply = cond t Accepted (LlAnswered (ct + 1)) }, from (L.returns + p))
          (record { bench = at; process = cond t (next_word (u line11)) (rest (marked (first_word (u line11)))); reply = cond t Accepted (LlAnswered (ct + 1)) }, from' (L'.returns + p))
      go true = record { bench = refl; reply = refl; process = live line11 tt tt tt tt; words = wrote_back }
      go false = record { bench = refl; reply = refl; process = live idle tt tt tt tt; words = wrote_back }
  step_alike line12 f hb hc hd he h_b l = by_test₂ (Both line12 _ Accepted ws ws') (eqb (bank_at at cx.seq).content.0 cx.buf.0)
      (λ t. record { bench = refl; reply = refl; process = live line14 tt tt tt tt; words = l })
      (λ t. record { bench = refl; reply = refl; process = live line12valid tt tt tt tt; words = l })
  step_alike line12valid f hb hc hd he h_b l = by_test₂ (Both line12valid _ Accepted ws ws') (linked x.links me)
      (λ t. record { bench = refl; reply = refl; process = live line13 tt tt tt tt; words = l })
      (λ t. record { bench = refl; reply = refl; process = live line14 tt tt tt tt; words = l })
  step_alike line13 f hb hc hd he h_b l = record { bench = refl; reply = refl; process = live line14 tt tt tt tt; words = l }
  step_alike line14 f hb hc hd he h_b l = by_test₂ (Both line14 _ Accepted ws ws') (eqb (help_at at (helped N cx.seq)).content.flag 1)
      (λ t. record { bench = refl; reply = refl; process = live line14valid tt tt refl tt; words = l })
      (λ t. record { bench = refl; reply = refl; process = live line17 tt tt tt tt; words = l })
  step_alike line14valid f hb hc hd he h_b l = by_test₂ (Both line14valid _ Accepted ws ws') (linked x.links me)
      (λ t. record { bench = refl; reply = refl; process = live line15 tt tt hd tt; words = l })
      (λ t. record { bench = refl; reply = refl; process = live line17 tt tt tt tt; words = l })
  step_alike line15 f hb hc hd he h_b l =
      let after = put_help at (helped N cx.seq) (sc_place (help_at at (helped N cx.seq)) me (record { flag = 0; buf = mb })) in
      rw hd (by_test₂ (λ m m'. Both line15 after Accepted ws ws' (to line17 m) (to line17 m')) (linked (help_at at (helped N cx.seq)).links me)
      (λ t. record { bench = refl; reply = refl; process = live line17 tt tt tt tt; words = l })
      (λ t. record { bench = refl; reply = refl; process = live line17 tt tt tt tt; words = l }))
  step_alike line17 f hb hc hd he h_b l =
      let w : LiveWords N W p 0 W T T' L L' (from (L.offers + p)) (from' (L'.offers + p)) =
      wrote N W p hp l _ _ mb.0 wd (ap (half wd) (l.offered (word_of wd) (omega arith) (omega arith))) hm hw in
      by_test₂ (Both line17 at Accepted (from (L.offers + p)) (from' (L'.offers + p))) more
      (λ t. record { bench = refl; reply = refl; process = live line17 tt tt tt tt; words = w })
      (λ t. record { bench = refl; reply = refl; process = live line18 tt tt tt tt; words = less N W p hp w (omega arith) (omega arith) })
  step_alike line18 f hb hc hd he h_b l = record { bench = refl; reply = refl; process = live line19 tt tt tt refl; words = l }
  step_alike line19 f hb hc hd he h_b l =
      let after = put_x at (sc_place x me (record { buf = mb; seq = next N cx.seq })) in
      rw he (by_test₂ (λ m m'. Both line19 after (ScAnswered (linked x.links me) (ct + 1)) ws ws' (rest m) (rest m')) (linked x.links me)
      (λ t. record { bench = refl; reply = refl; process = live idle tt tt tt tt; words = l })
      (λ t. record { bench = refl; reply = refl; process = live idle tt tt tt tt; words = l }))
  step_alike line23 f hb hc hd he h_b l = record { bench = refl; reply = refl; process = live idle tt tt tt tt; words = l }

  -- a start, by an idle process
  start_alike : (o : Order) (v : List ℕ) → is_start o ≡ true → (brings_value o ≡ true → length v ≡ W) → Words idle
      → Alike N W p T T' L L' idle (obey_in L o me v at (q idle) ws) (obey_in L' o me v at (u idle) ws')
  start_alike StartLl v s k l = record { bench = refl; reply = refl; process = live line1 tt tt tt tt; words = l }
  start_alike StartSc v s k l = record { bench = refl; reply = refl; process = live line12 tt tt tt tt; words = offer N W p hp l v (k refl) }
  start_alike StartVl v s k l = record { bench = refl; reply = refl; process = live line23 tt tt tt tt; words = l }
  start_alike Step v s k l = absurd (contra s refl)

  -- the same at a point that is idle's
  abbrev Begun : Order → List ℕ → Point → Type 0
  Begun o v y = Words y → Alike N W p T T' L L' y (obey_in L o me v at (q y) ws) (obey_in L' o me v at (u y) ws')

  -- an order: a start at an idle process, or a step at the point y
  pub obey_alike : (o : Order) (v : List ℕ) (y : Point) → (is_start o ≡ true → idle ≡ y) → (brings_value o ≡ true → length v ≡ W)
      → AtFirst y wd → On (needs_b (line_number y)) (b ≡ b') → On (needs_c (line_number y)) (c ≡ c')
      → On (needs_d (line_number y)) (d ≡ d') → On (needs_e (line_number y)) (e ≡ e') → b'.0 < buffers N
      → Begun o v y
  obey_alike StartLl v y s k f hb hc hd he h_b l = subst (Begun StartLl v) (s refl) (start_alike StartLl v refl k) l
  obey_alike StartSc v y s k f hb hc hd he h_b l = subst (Begun StartSc v) (s refl) (start_alike StartSc v refl k) l
  obey_alike StartVl v y s k f hb hc hd he h_b l = subst (Begun StartVl v) (s refl) (start_alike StartVl v refl k) l
  obey_alike Step v y s k f hb hc hd he h_b l =
      subst (λ z. Alike N W p T T' L L' y (stepped_in L z me at (q y) ws) (stepped_in L' z me at (u y) ws')) (sym (point_of_lem y))
      (step_alike y f hb hc hd he h_b l)
