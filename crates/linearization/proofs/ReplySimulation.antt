-- What the reply to a step says, from the ghost machine's process.
use mathlib.Core.Path.{◌≡◌, refl, ap, ◌∙◌}
use mathlib.Core.Bool.{false, cond}
use mathlib.Core.List.{List}
use Prim.Native.Nat.{ℕ, suc, ◌+◌, ◌*◌, ◌≤◌, ◌<◌}
use native.Mathlib.Nat.{mul-le-mul_right}
use native.Mathlib.Numerals.{add-one}
use native.Mathlib.Omega.{arith}
use lib.Dec.{ltb}
use lib.ListN.{get_or}
use Rattle.model.specs.Places.{XPlace, BankPlace, HelpPlace}
use Rattle.model.specs.declared.Reply.TheVariants.{Accepted, LlAnswered}
use Rattle.model.specs.Points.{Point, idle, line1, line2, line3, line4, line5, line6, line7, line7copy, line8, line9}
use Rattle.model.specs.Points.{line10, line11, line12, line12valid, line13, line14, line14valid, line15, line17, line18}
use Rattle.model.specs.Points.{line19, line23}
use Rattle.model.specs.Sizes.{halves}
use Rattle.model.specs.Words.{return_area, word_of, half}
use Rattle.model.specs.Machine
use Rattle.model.specs.Machine.{Memory}
use Rattle.llsc.specs.Answers.{Said, accepted, answered, ll_words, sc_truth, vl_truth}
use Rattle.model.specs.Replies.{says}
use Rattle.laws.proofs.Updates.{upd_same, by_test}
use Rattle.linearization.proofs.GhostMachine
use Rattle.linearization.proofs.GhostMachine.{Local, State}
use Rattle.linearization.proofs.WordLists.{words_of, words_of_ext}
use Rattle.linearization.proofs.ListFacts.{cut_words}
use Rattle.linearization.proofs.Relation.{record_of, PlacesLike, Related}

-- what a step at the point y says
abbrev pub said_at : ℕ → Point → Local → Said
said_at W idle f = accepted
said_at W line1 f = accepted
said_at W line2 f = accepted
said_at W line3 f = accepted
said_at W line4 f = accepted
said_at W line5 f = accepted
said_at W line6 f = accepted
said_at W line7 f = accepted
said_at W line7copy f = accepted
said_at W line8 f = accepted
said_at W line9 f = accepted
said_at W line10 f = accepted
said_at W line11 f = cond (ltb (suc f.word) W) accepted (answered (ll_words (words_of W f.returned)) (f.count + 1))
said_at W line12 f = accepted
said_at W line12valid f = accepted
said_at W line13 f = accepted
said_at W line14 f = accepted
said_at W line14valid f = accepted
said_at W line15 f = accepted
said_at W line17 f = accepted
said_at W line18 f = accepted
said_at W line19 f = answered (sc_truth f.link_x) (f.count + 1)
said_at W line23 f = answered (vl_truth f.link_x) (f.count + 1)

-- the return area, in related memory
pub return_area_lem : (N W : ℕ) (m : Memory) (z : State) (p : ℕ) → p < N → Related N W m z
    → return_area m.bench.n m.bench.w (record { 0 = p }) m.words ≡ words_of (halves W) (z.loc p).returned
return_area_lem N W m z p hp r =
    let y : suc (3 * N + p) * W ≤ 5 * N * W = mul-le-mul_right W (omega arith) in let l = r.places.words.len in
    rw (r.n, r.w) (cut_words W ((3 * N + p) * W + 0) m.words (omega arith)
    ∙ words_of_ext (halves W) _ _ (λ k hk. ap (λ i. half k (get_or m.words i 0))
    (let e : (3 * N + p) * W + 0 + word_of k ≡ (3 * N + p) * W + word_of k = omega arith in e) ∙ r.places.words.returned p k hp hk))

-- line 11 leaves the return area as it was
pub return_stays : (N W t p : ℕ) (z : State) → ((GhostMachine.step_at N W line11 t p z).loc p).returned ≡ (z.loc p).returned
unfolding GhostMachine.step_at
return_stays N W t p z =
    by_test (λ (s : State). (s.loc p).returned ≡ (z.loc p).returned) (ltb (suc (z.loc p).word) W)
    (λ _. ap (λ (l : Local). l.returned) (upd_same z.loc p _))
    (λ _. ap (λ (l : Local). l.returned) (upd_same z.loc p _))

module _ (N W : ℕ) (x : XPlace) (ks : List BankPlace) (hs : List HelpPlace) (ws : List ℕ) (p : ℕ) (z : State) (hp : p < N) (r : PlacesLike N W x ks hs ws z.sh z.loc) (m : Memory) where
  abbrev f : Local
  f = z.loc p

  -- m is the memory after the step; the return area is known where line 11 answers
  pub says_at : (y : Point) → (y ≡ line11 → ltb (suc f.word) (halves W) ≡ false → return_area m.bench.n m.bench.w (record { 0 = p }) m.words ≡ words_of (halves W) f.returned)
      → says m (record { 0 = p }) (Machine.step_at y (record { 0 = p }) (record { n = N; w = W; x = x; bank = ks; help = hs }) (record_of f) ws).0.reply ≡ said_at (halves W) y f
  unfolding Machine.step_at
  says_at idle area = refl
  says_at line1 area = refl
  says_at line2 area = refl
  says_at line3 area = refl
  says_at line4 area = refl
  says_at line5 area = refl
  says_at line6 area = refl
  says_at line7 area = refl
  says_at line7copy area = refl
  says_at line8 area = refl
  says_at line9 area = refl
  says_at line10 area = refl
  says_at line11 area =
      by_test (λ s. says m (record { 0 = p }) (cond (ltb (f.word + 1) (halves W)) Accepted (LlAnswered (f.count + 1))) ≡ s) (ltb (suc f.word) (halves W))
      (λ t. rw (ap (λ j. ltb j (halves W)) (add-one f.word) ∙ t))
      (λ t. rw (ap (λ j. ltb j (halves W)) (add-one f.word) ∙ t) (ap (λ a. answered (ll_words a) (f.count + 1)) (area refl t)))
  says_at line12 area = refl
  says_at line12valid area = refl
  says_at line13 area = refl
  says_at line14 area = refl
  says_at line14valid area = refl
  says_at line15 area = refl
  says_at line17 area = refl
  says_at line18 area = refl
  says_at line19 area = ap (λ b. answered (sc_truth b) (f.count + 1)) (r.x.links.at p hp)
  says_at line23 area = ap (λ b. answered (vl_truth b) (f.count + 1)) (r.x.links.at p hp)
