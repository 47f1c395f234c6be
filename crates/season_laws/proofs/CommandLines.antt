-- What a command adds to a listing: nothing, or one answer line of N and W.
use Prim.Native.Nat.{ℕ, suc, ◌+◌, ◌-◌, ◌*◌, ◌≤◌, ◌<◌}
use mathlib.Core.Path.{◌≡◌, refl, subst}
use mathlib.Core.List.{List, [], ◌∷◌}
use mathlib.Core.Bool.{Bool, true, false}
use native.Mathlib.Omega.{arith}
use borrow.Author.Tests.{ltb-true, ltb-false}
use lib.Dec.{ltb}
use lib.ListN.{length, get_or, length-take, length-drop}
use Rattle.model.specs.declared.Process.{Process}
use Rattle.llsc.specs.declared.Order.{Order}
use Rattle.model.specs.declared.Reply.{Reply}
use Rattle.model.specs.Records.{no_process}
use Rattle.model.specs.Replies.{number_of}
use Rattle.model.specs.Words.{return_area, return_word}
use Rattle.model.specs.Machine.{Memory}
use Rattle.model.specs.Command.{command}
use Rattle.lent.specs.Gathered.{gathered}
use Rattle.lent.proofs.GatheredLaws.{gathered_length}
use Rattle.words.proofs.WordLaws.{within}
use Rattle.text_entry.specs.Decision.{Outcome, obeyed_at, stored_back}
use Rattle.text_entry.proofs.DecidedLaws.{decision_law}
use Rattle.text_model.specs.TextRun.{line_of}
use Rattle.text_entry.proofs.WordLaws.{Below, Every}
use Rattle.text_entry.proofs.ObeyLaws.{Plain, accepted, ll, sc, vl, plain_none}
use Rattle.text_entry.proofs.CommandLaws.{Decides, obeys, refuses, decides}
use Rattle.text_entry.proofs.DecisionLaws.{area_at, answer_fits, own_count}
use Rattle.answers.specs.Shape as G
use Rattle.answers.specs.Shape.{largest, Answer, Fit, no_words, word, Fits, ll_fits, sc_fits, vl_fits}

fit_of : (l : List ℕ) → ((i : ℕ) → get_or l i 0 ≤ largest) → Fit l
fit_of [] f = no_words
fit_of (x ∷ l) f = word (f 0) (fit_of l (λ i. f (suc i)))

-- the lines that a reply adds: none, or one answer's
pub data Adds (n w : ℕ) : List ℕ → Type 0 where
  nothing : Adds n w []
  answer : (a : Answer) → Fits n w a → length (G.line_of a) ≤ 713 → Adds n w (G.line_of a)

module _ (n w p : ℕ) (ws : List ℕ) (h : p < n) (lent : 5 * n * w ≤ length ws) (b : Below (5 * n * w) ws) where
  abbrev area : List ℕ
  area = return_area n w (record { 0 = p }) ws

  area_fit : Fit area
  area_fit = fit_of area (λ i. area_at n w p ws h b i (ltb i w) refl)

  -- the return area lies in the lent words, so it has W words
  area_end : (t : Bool) → ltb 0 w ≡ t → return_word n w (record { 0 = p }) 0 + w ≤ length ws
  area_end true t =
      let k = ltb-true 0 w t in
      let l = within {b = 3 * n + p} {c = 5 * n} {k = w - 1} {w = w} (omega arith) (omega (arith, k)) in
      omega (arith, l, k)
  area_end false t = at_zero (omega (arith, ltb-false 0 w t))
    where
      at_zero : w ≡ 0 → return_word n w (record { 0 = p }) 0 + w ≤ length ws
      at_zero z = rw z (omega arith)

  area_length : length area ≡ w
  area_length = simp (length-take, length-drop) (omega (arith, area_end (ltb 0 w) refl))

  module _ (few : n ≤ 16) (narrow : w ≤ 64) (k : ℕ) (c : k ≤ 519) where
    adds_of : (m : Memory) → m.bench.n ≡ n → m.bench.w ≡ w → m.words ≡ ws → (r : Reply) → Plain k r → Adds n w (line_of m p r)
    unfolding G.line_of
    adds_of m en ew es _ accepted = nothing
    adds_of m en ew es r ll =
        rw (en, ew, es) (answer (G.ll p k area) (ll_fits {p = p} {c = k} {ws = area} h (omega arith) area_length area_fit) (answer_fits n w p ws h b k r ll (omega arith) narrow c))
    adds_of m en ew es r (sc {t = t}) = answer (G.sc p k t) (sc_fits {p = p} {c = k} {t = t} h (omega arith)) (answer_fits n w p ws h b k r sc (omega arith) narrow c)
    adds_of m en ew es r (vl {t = t}) = answer (G.vl p k t) (vl_fits {p = p} {c = k} {t = t} h (omega arith)) (answer_fits n w p ws h b k r vl (omega arith) narrow c)

-- what a command leaves
pub record Left (n w p : ℕ) (out : Reply × Memory) : Type 0 where
  pub same_n : out.1.bench.n ≡ n
  pub same_w : out.1.bench.w ≡ w
  pub small : Below (5 * n * w) out.1.words
  pub adds : number_of out.0 ≡ 0 → Adds n w (line_of out.1 p out.0)
  pub number : number_of out.0 ≤ 15

module _ (m : Memory) (p : ℕ) (o : Order) (v : List ℕ) (e : Every v) (small : Below (5 * m.bench.n * m.bench.w) m.words) where
  abbrev N : ℕ
  N = m.bench.n

  abbrev W : ℕ
  W = m.bench.w

  abbrev list : List Process
  list = gathered m.records no_process 16

  abbrev len : ℕ
  len = length m.records

  sixteen : length list ≡ 16
  sixteen = gathered_length m.records no_process 16

  left_of : {x : Outcome × List ℕ} → Decides m.bench list len p o v m.words x → Left N W p (stored_back m.records x)
  left_of (obeys out c y f) =
      let k : ℕ = (get_or list p no_process).count + 1 in
      let few : k ≤ 519 = omega (arith, own_count m.bench list len p o v m.words sixteen c, c.w_most) in
      let lent : 5 * N * W ≤ length out.1 = omega (arith, c.lent, f.words) in
      record {
        same_n = f.n;
        same_w = f.w;
        small = f.small small;
        adds = λ _. adds_of N W p out.1 c.process lent (f.small small) c.n_most c.w_most k few
            (stored_back m.records (obeyed_at p out)).1 f.n f.w refl out.0.reply f.reply;
        number = omega (arith, plain_none f.reply);
      }
  left_of (refuses k n l) = record { same_n = refl; same_w = refl; small = small; adds = λ z. absurd (n z); number = omega arith }

  pub left : Left N W p (command m p o v)
  left =
      subst (Left N W p) (decision_law m.bench m.records m.words p o v)
      (left_of (decides m.bench list len p o v m.words sixteen e))
