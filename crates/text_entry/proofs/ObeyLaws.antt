-- What an obeyed order leaves: N and W stay, as many words are lent, no word has more than ten digits, and the reply is no refusal
-- and has a count of one step more.
use mathlib.Core.Path.{◌≡◌, refl}
use mathlib.Core.Bool.{Bool, true, false, cond}
use mathlib.Core.List.{List}
use Prim.Native.Nat.{ℕ, ◌+◌, ◌*◌, ◌<◌}
use native.Mathlib.Omega.{arith}
use lib.Dec.{ltb}
use lib.ListN.{length, get_or, length-set}
use lib.Seq.{length-sets}
use Rattle.llsc.specs.declared.ProcessNumber.{ProcessNumber}
use Rattle.model.specs.declared.Bench.{Bench}
use Rattle.model.specs.declared.Process.{Process}
use Rattle.llsc.specs.declared.Order.{Order}
use Rattle.llsc.specs.declared.Order.TheVariants.{StartLl, StartSc, StartVl, Step}
use Rattle.model.specs.declared.Moved.{Moved}
use Rattle.model.specs.declared.Reply.{Reply}
use Rattle.model.specs.declared.Reply.TheVariants.{Accepted, LlAnswered, ScAnswered, VlAnswered}
use Rattle.model.specs.Replies.{number_of}
use Rattle.model.specs.Sizes.{halves}
use Rattle.model.specs.Words.{buffer_word, return_word, offer_word, word_of, with_half, copied_half}
use Rattle.model.proofs.HalfLaws.{with_half_small}
use Rattle.model.specs.Points.{Point, point_of, idle, line1, line2, line3, line4, line5, line6, line7, line7copy, line8, line9, line10}
use Rattle.model.specs.Points.{line11, line12, line12valid, line13, line14, line14valid, line15, line17, line18, line19, line23}
use Rattle.model.specs.Machine.{step_at, obey}
use Rattle.taken.specs.Ranges.{Ready}
use Rattle.words.proofs.WordLaws.{within}
use Rattle.text_entry.proofs.WordLaws.{Below, Every, below_set, below_sets}

-- a reply that is no refusal, with the count k if it answers
pub data Plain (k : ℕ) : Reply → Type 0 where
  accepted : Plain k Accepted
  ll : Plain k (LlAnswered k)
  sc : {t : Bool} → Plain k (ScAnswered t k)
  vl : {t : Bool} → Plain k (VlAnswered t k)

pub plain_none : {k : ℕ} {r : Reply} → Plain k r → number_of r ≡ 0
plain_none accepted = refl
plain_none ll = refl
plain_none sc = refl
plain_none vl = refl

pub record Obeyed (b : Bench) (q : Process) (ws : List ℕ) (out : Moved × List ℕ) : Type 0 where
  pub n : out.0.bench.n ≡ b.n
  pub w : out.0.bench.w ≡ b.w
  pub words : length out.1 ≡ length ws
  pub small : Below (5 * b.n * b.w) ws → Below (5 * b.n * b.w) out.1
  pub reply : Plain (q.count + 1) out.0.reply

-- a step that leaves the words
quiet : {b : Bench} {q : Process} {ws : List ℕ} (out : Moved) → out.bench.n ≡ b.n → out.bench.w ≡ b.w → Plain (q.count + 1) out.reply → Obeyed b q ws (out, ws)
quiet out n w r = record { n = n; w = w; words = refl; small = λ s. s; reply = r }

-- and one that copies a half word
moves : {b : Bench} {q : Process} {ws : List ℕ} (out : Moved) (k from to : ℕ) → out.bench.n ≡ b.n
    → out.bench.w ≡ b.w → from < 5 * b.n * b.w → to < 5 * b.n * b.w → Plain (q.count + 1) out.reply
    → Obeyed b q ws (out, copied_half ws k from to)
moves {ws = ws} out k from to n w h i r =
    let v = with_half k (get_or ws from 0) (get_or ws to 0) in
    record { n = n; w = w; words = length-set ws to v; small = λ s. below_set to v (with_half_small k (get_or ws from 0) (get_or ws to 0) (s.at from h) (s.at to i)) s; reply = r }

-- line 11 answers with its last half word
last_word : (t : Bool) (k : ℕ) → Plain k (cond t Accepted (LlAnswered k))
last_word true k = accepted
last_word false k = ll

-- the words that a step copies are lent
module _ {n w : ℕ} {q : Process} {p : ProcessNumber} {ws : List ℕ} (r : Ready n w q p ws) where
  in_row : word_of q.word < w
  in_row = omega (arith, r.word)

  buffer_in_is : (f : ℕ) → f < 3 * n → f * w + word_of q.word < 5 * n * w
  buffer_in_is f h = within {b = f} {c = 5 * n} (omega arith) in_row

  return_in_is : return_word n w p (word_of q.word) < 5 * n * w
  return_in_is = let l = r.lent in within {b = 3 * n + p.0} {c = 5 * n} (omega (arith, l.process)) in_row

  offer_in_is : offer_word n w p (word_of q.word) < 5 * n * w
  offer_in_is = let l = r.lent in within {b = 4 * n + p.0} {c = 5 * n} (omega (arith, l.process)) in_row

module _ {b : Bench} {q : Process} {p : ProcessNumber} {ws : List ℕ} (r : Ready b.n b.w q p ws) where
  step_obeyed : (y : Point) → Obeyed b q ws (step_at y p b q ws)
  unfolding step_at
  step_obeyed idle = quiet _ refl refl accepted
  step_obeyed line1 = quiet _ refl refl accepted
  step_obeyed line2 = quiet _ refl refl accepted
  step_obeyed line3 =
      moves _ q.word (buffer_word b.w q.x.buf (word_of q.word))
      (return_word b.n b.w p (word_of q.word)) refl refl (buffer_in_is r q.x.buf.0 r.x_buf)
      (return_in_is r) accepted
  step_obeyed line4 = quiet _ refl refl accepted
  step_obeyed line5 = quiet _ refl refl accepted
  step_obeyed line6 =
      moves _ q.word (buffer_word b.w q.x.buf (word_of q.word))
      (return_word b.n b.w p (word_of q.word)) refl refl (buffer_in_is r q.x.buf.0 r.x_buf)
      (return_in_is r) accepted
  step_obeyed line7 = quiet _ refl refl accepted
  step_obeyed line7copy =
      moves _ q.word (buffer_word b.w q.b (word_of q.word))
      (return_word b.n b.w p (word_of q.word)) refl refl (buffer_in_is r q.b.0 r.b_buf) (return_in_is r)
      accepted
  step_obeyed line8 = quiet _ refl refl accepted
  step_obeyed line9 = quiet _ refl refl accepted
  step_obeyed line10 = quiet _ refl refl accepted
  step_obeyed line11 =
      moves _ q.word (return_word b.n b.w p (word_of q.word))
      (buffer_word b.w q.mybuf (word_of q.word)) refl refl (return_in_is r)
      (buffer_in_is r q.mybuf.0 r.mybuf) (last_word (ltb (q.word + 1) (halves b.w)) (q.count + 1))
  step_obeyed line12 = quiet _ refl refl accepted
  step_obeyed line12valid = quiet _ refl refl accepted
  step_obeyed line13 = quiet _ refl refl accepted
  step_obeyed line14 = quiet _ refl refl accepted
  step_obeyed line14valid = quiet _ refl refl accepted
  step_obeyed line15 = quiet _ refl refl accepted
  step_obeyed line17 =
      moves _ q.word (offer_word b.n b.w p (word_of q.word))
      (buffer_word b.w q.mybuf (word_of q.word)) refl refl (offer_in_is r)
      (buffer_in_is r q.mybuf.0 r.mybuf) accepted
  step_obeyed line18 = quiet _ refl refl accepted
  step_obeyed line19 = quiet _ refl refl sc
  step_obeyed line23 = quiet _ refl refl vl

  pub order_obeyed : (o : Order) (v : List ℕ) → Every v → Obeyed b q ws (obey o p v b q ws)
  unfolding obey step_at
  order_obeyed StartLl v e = quiet _ refl refl accepted
  order_obeyed StartSc v e = record { n = refl; w = refl; words = length-sets ws (offer_word b.n b.w p 0) v; small = λ s. below_sets ws (offer_word b.n b.w p 0) v e s; reply = accepted }
  order_obeyed StartVl v e = quiet _ refl refl accepted
  order_obeyed Step v e = step_obeyed (point_of q.line)
