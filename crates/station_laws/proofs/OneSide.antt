-- A step on one side alone: the areas of the other processes stay, and only lines at which the whole return area is
-- live answer an LL.
use mathlib.Core.Path.{◌≡◌, refl, sym, subst}
use mathlib.Core.Bool.{Bool, true, false}
use mathlib.Core.List.{List}
use Prim.Native.Nat.{ℕ, ◌+◌, ◌*◌, ◌%◌, ◌<◌}
use native.Mathlib.Nat.{mod-lt}
use native.Mathlib.Omega.{arith}
use lib.Dec.{ltb, eqb}
use lib.ListN.{length, get_or}
use Rattle.model.specs.declared.BufferNumber.{BufferNumber}
use Rattle.llsc.specs.declared.ProcessNumber.{ProcessNumber}
use Rattle.model.specs.declared.XContent.{XContent}
use Rattle.model.specs.declared.Bench.{Bench}
use Rattle.model.specs.declared.Process.{Process}
use Rattle.llsc.specs.declared.Order.{Order}
use Rattle.llsc.specs.declared.Order.TheVariants.{StartLl, StartSc, StartVl, Step}
use Rattle.model.specs.declared.Reply.{Reply}
use Rattle.model.specs.declared.Reply.TheVariants.{Refused, Accepted, LlAnswered, ScAnswered, VlAnswered}
use Rattle.model.specs.Places.{XPlace, BankPlace, HelpPlace, linked}
use Rattle.model.specs.Tables.{no_bank, no_help, bank_at, help_at, helped}
use Rattle.model.specs.Sizes.{buffers, sequence_numbers, halves}
use Rattle.model.specs.Words.{Layout}
use Rattle.model.specs.Records.{to, rest}
use Rattle.model.specs.Machine.{stepped_in, obey_in}
use Rattle.llsc.specs.Rows.{brings_value}
use Rattle.model.specs.Points.{Point, line_number, idle, line1, line2, line3, line4, line5, line6, line7, line7copy, line8, line9}
use Rattle.model.specs.Points.{line10, line11, line12, line12valid, line13, line14, line14valid, line15, line17, line18, line19, line23}
use Rattle.laws.proofs.Updates.{by_test, contra}
use Rattle.linearization.proofs.PointFacts.{point_of_lem}
use Rattle.station_laws.proofs.Live.{whole, pr}
use Rattle.station_laws.proofs.LiveWords.{Kept, kept_all, kept_return, kept_buffer, kept_offer}

abbrev pub answers_ll : Reply → Bool
answers_ll (Refused k) = false
answers_ll Accepted = false
answers_ll (LlAnswered k) = true
answers_ll (ScAnswered t k) = false
answers_ll (VlAnswered t k) = false

-- four buffer numbers below 3N
pub record InBounds (N : ℕ) (k l m n : BufferNumber) : Type 0 where
  pub b : k.0 < buffers N
  pub c : l.0 < buffers N
  pub d : m.0 < buffers N
  pub e : n.0 < buffers N

module _ (N W p : ℕ) (L : Layout) (hp : p < N) (x : XPlace) (ks : List BankPlace) (hs : List HelpPlace) (mb : BufferNumber) (cx : XContent) (wd ct : ℕ) (an : Bool)
    (b c d e : BufferNumber) (ws : List ℕ) (hm : mb.0 < buffers N) (hw : wd < halves W) where
  abbrev me : ProcessNumber
  me = record { 0 = p }

  abbrev at : Bench
  at = record { n = N; w = W; x = x; bank = ks; help = hs }

  abbrev q : Point → Process
  q y = pr y mb cx wd ct an b c d e

  step_kept : (y : Point) → Kept N W p L ws (stepped_in L y me at (q y) ws).1
  step_kept idle = kept_all N W p hp L ws
  step_kept line1 = kept_all N W p hp L ws
  step_kept line2 = kept_all N W p hp L ws
  step_kept line3 = kept_return N W p hp L ws wd _ hw
  step_kept line4 = kept_all N W p hp L ws
  step_kept line5 = kept_all N W p hp L ws
  step_kept line6 = kept_return N W p hp L ws wd _ hw
  step_kept line7 = kept_all N W p hp L ws
  step_kept line7copy = kept_return N W p hp L ws wd _ hw
  step_kept line8 = kept_all N W p hp L ws
  step_kept line9 = kept_all N W p hp L ws
  step_kept line10 = kept_all N W p hp L ws
  step_kept line11 = kept_buffer N W p hp L ws mb.0 wd _ hm hw
  step_kept line12 = kept_all N W p hp L ws
  step_kept line12valid = kept_all N W p hp L ws
  step_kept line13 = kept_all N W p hp L ws
  step_kept line14 = kept_all N W p hp L ws
  step_kept line14valid = kept_all N W p hp L ws
  step_kept line15 = kept_all N W p hp L ws
  step_kept line17 = kept_buffer N W p hp L ws mb.0 wd _ hm hw
  step_kept line18 = kept_all N W p hp L ws
  step_kept line19 = kept_all N W p hp L ws
  step_kept line23 = kept_all N W p hp L ws

  pub obey_kept : (o : Order) (v : List ℕ) (y : Point) → (brings_value o ≡ true → length v ≡ W) → Kept N W p L ws (obey_in L o me v at (q y) ws).1
  obey_kept StartLl v y k = kept_all N W p hp L ws
  obey_kept StartSc v y k = kept_offer N W p hp L ws v (k refl)
  obey_kept StartVl v y k = kept_all N W p hp L ws
  obey_kept Step v y k = subst (λ z. Kept N W p L ws (stepped_in L z me at (q y) ws).1) (sym (point_of_lem y)) (step_kept y)

  step_ll : (y : Point) → answers_ll (stepped_in L y me at (q y) ws).0.reply ≡ true → whole (line_number y) ≡ true
  step_ll idle h = absurd (contra h refl)
  step_ll line1 h = absurd (contra h refl)
  step_ll line2 h = absurd (contra h refl)
  step_ll line3 h = absurd (contra h refl)
  step_ll line4 h = refl
  step_ll line5 h = refl
  step_ll line6 h = refl
  step_ll line7 h = refl
  step_ll line7copy h = refl
  step_ll line8 h = refl
  step_ll line9 h = refl
  step_ll line10 h = refl
  step_ll line11 h = refl
  step_ll line12 h = absurd (contra h refl)
  step_ll line12valid h = absurd (contra h refl)
  step_ll line13 h = absurd (contra h refl)
  step_ll line14 h = absurd (contra h refl)
  step_ll line14valid h = absurd (contra h refl)
  step_ll line15 h = absurd (contra h refl)
  step_ll line17 h = absurd (contra h refl)
  step_ll line18 h = absurd (contra h refl)
  step_ll line19 h = absurd (contra h refl)
  step_ll line23 h = absurd (contra h refl)

  pub obey_ll : (o : Order) (v : List ℕ) (y : Point) → answers_ll (obey_in L o me v at (q y) ws).0.reply ≡ true → whole (line_number y) ≡ true
  obey_ll StartLl v y h = absurd (contra h refl)
  obey_ll StartSc v y h = absurd (contra h refl)
  obey_ll StartVl v y h = absurd (contra h refl)
  obey_ll Step v y h = step_ll y (subst (λ z. answers_ll (stepped_in L z me at (q y) ws).0.reply ≡ true) (point_of_lem y) h)

  -- b, c, d and e stay in range, live or not
  module _ (hb : b.0 < buffers N) (hc : c.0 < buffers N) (hd : d.0 < buffers N) (he : e.0 < buffers N) (hh : (i : ℕ) → i < N → (get_or hs i no_help).content.buf.0 < buffers N)
      (hk : (i : ℕ) → i < sequence_numbers N → (get_or ks i no_bank).content.0 < buffers N) where
    abbrev Known : Process → Type 0
    Known u = InBounds N u.b u.c u.d u.e

    same : InBounds N b c d e
    same = record { b = hb; c = hc; d = hd; e = he }

    step_in : (y : Point) → Known (stepped_in L y me at (q y) ws).0.process
    step_in idle = same
    step_in line1 = same
    step_in line2 = same
    step_in line3 = by_test Known (ltb (wd + 1) (halves W)) (λ _. same) (λ _. same)
    step_in line4 = by_test Known (eqb (help_at at me).content.flag 0) (λ _. record { b = hh p hp; c = hc; d = hd; e = he }) (λ _. same)
    step_in line5 = same
    step_in line6 = by_test Known (ltb (wd + 1) (halves W)) (λ _. same) (λ _. same)
    step_in line7 = by_test Known (linked x.links me) (λ _. same) (λ _. same)
    step_in line7copy = by_test Known (ltb (wd + 1) (halves W)) (λ _. same) (λ _. same)
    step_in line8 = by_test Known (eqb (help_at at me).content.flag 1) (λ _. record { b = hb; c = hh p hp; d = hd; e = he }) (λ _. same)
    step_in line9 = same
    step_in line10 = same
    step_in line11 = by_test Known (ltb (wd + 1) (halves W)) (λ _. same) (λ _. same)
    step_in line12 = by_test Known (eqb (bank_at at cx.seq).content.0 cx.buf.0) (λ _. same) (λ _. same)
    step_in line12valid = by_test Known (linked x.links me) (λ _. same) (λ _. same)
    step_in line13 = same
    step_in line14 =
        by_test Known (eqb (help_at at (helped N cx.seq)).content.flag 1) (λ _. record { b = hb; c = hc; d = hh (cx.seq.0 % N) (mod-lt cx.seq.0 (omega arith)); e = he }) (λ _. same)
    step_in line14valid = by_test Known (linked x.links me) (λ _. same) (λ _. same)
    step_in line15 = by_test (λ m. Known (to line17 m)) (linked (help_at at (helped N cx.seq)).links me) (λ _. same) (λ _. same)
    step_in line17 = by_test Known (ltb (wd + 1) (halves W)) (λ _. same) (λ _. same)
    step_in line18 = record { b = hb; c = hc; d = hd; e = hk ((cx.seq.0 + 1) % (2 * N)) (mod-lt (cx.seq.0 + 1) (omega arith)) }
    step_in line19 = by_test (λ m. Known (rest m)) (linked x.links me) (λ _. same) (λ _. same)
    step_in line23 = same

    pub obey_in_is : (o : Order) (v : List ℕ) (y : Point) → Known (obey_in L o me v at (q y) ws).0.process
    obey_in_is StartLl v y = same
    obey_in_is StartSc v y = same
    obey_in_is StartVl v y = same
    obey_in_is Step v y = subst (λ z. Known (stepped_in L z me at (q y) ws).0.process) (sym (point_of_lem y)) (step_in y)
