-- CR 2: every listing that a text run writes is a right listing.
use Prim.Native.Nat.{ℕ, zero, suc, ◌+◌, ◌-◌, ◌*◌, ◌≤◌, ◌<◌}
use mathlib.Core.Path.{◌≡◌, refl, sym, ap, subst, ◌∙◌}
use mathlib.Core.List.{List, [], ◌∷◌, ◌++◌}
use mathlib.Core.Bool.{Bool, true, false, cond, true≢false}
use native.Mathlib.Omega.{arith}
use borrow.Author.Tests.{eqb-true, ltb-true, lt-ltb}
use lib.Dec.{eqb, ltb}
use lib.ListN.{length, get_or, drop, replicate, length-append, length-replicate, get_or-append}
use lib.Seq.{sets-eq}
use Rattle.model.specs.Machine.{Memory}
use Rattle.model.specs.SetUp.{words_at_set_up, at_set_up, set_up_refusal, set_up}
use Rattle.setup.specs.SetUpByValue.{set_up_number, set_up_number_lem, Accepted}
use Rattle.setup.proofs.SetUpLaws.{first_row_lem, set_up_fits}
use Rattle.notation.specs.Grammar.{Said}
use Rattle.notation.specs.FirstLine.{read}
use Rattle.notation.specs.Readings.{Reading, right, wrong}
use Rattle.notation.specs.Right.{Why, ended, broken, deep}
use Rattle.notation.proofs.Theorems.{read_is_right, wrong_has_fault}
use Rattle.text_model.specs.TextRun as T
use Rattle.text_runs.specs.TextRun.{longest_text, room_needed}
use Rattle.text_runs.specs.TextRun as TR
use Rattle.text_model.specs.TextRun.{Ended, begun, carry_all, started, carried_out, run_with, run_text}
use Rattle.text_entry.proofs.WordLaws.{Below, Every, every_replicate}
use Rattle.text_machine.proofs.StartLaws.{number_small}
use Rattle.answers.specs.Shape.{largest, longest_listing, Right}
use Rattle.answers.proofs.ChoiceLaws.{either}
use Rattle.std.specs.Result.{IsOk}
use Rattle.sums.specs.declared.Sums.{Sums}
use Rattle.sums.specs.Season.{most_listings, sums_refusal, added}
use Rattle.sums.proofs.Theorems.{right_taken}
use Rattle.season_laws.proofs.RunListing.{AllSmall, written_by, carried_right, refused_right}
use Rattle.season_laws.proofs.TextSmall.{entries_small, initial_small}

every_append : (a b : List ℕ) → Every a → Every b → Every (a ++ b)
every_append a b p q = record { at = all a p.at }
  where
    all : (a : List ℕ) → ((i : ℕ) → get_or a i 0 ≤ largest) → (i : ℕ) → get_or (a ++ b) i 0 ≤ largest
    all [] h i = q.at i
    all (x ∷ a) h zero = h 0
    all (x ∷ a) h (suc i) = all a (λ j. h (suc j)) i

-- every word of the 5N rows is the value's or 0
pub words_small : (ws : List ℕ) (n w k : ℕ) → Accepted n w (length ws) w → k ≤ largest → Below (5 * n * w) (words_at_set_up ws n w (replicate w k))
words_small ws n w k a h = record {
  at = λ i l.
      let rest : List ℕ = replicate (5 * n * w - w) 0 in
      let u : List ℕ = replicate w k ++ rest in
      let f = first_row_lem n w a.n_some in
      let m : length u ≡ 5 * n * w = length-append (replicate w k) rest ∙ omega (arith, length-replicate w k, length-replicate {A = ℕ} (5 * n * w - w) 0) in
      let all = every_append (replicate w k) rest (every_replicate w k h) (every_replicate (5 * n * w - w) 0 (omega arith)) in
      rw (sets-eq u ws 0 (omega (arith, a.words_lent)), get_or-append u (drop (0 + length u) ws) 0 i (omega arith)) (all.at i);
}

pub fits : (m : Memory) (n w k : ℕ) → set_up_refusal m n w (replicate w k) ≡ 0 → Accepted n w (length m.words) w
fits m n w k e =
    let records : ℕ = length m.records in
    let words : ℕ = length m.words in
    set_up_fits n w records words w (ap (set_up_number n w records words) (sym (length-replicate w k)) ∙ set_up_number_lem m n w (replicate w k) ∙ e)

pub why_small : {s : List ℕ} {at k : ℕ} → Why s at k → k ≤ 15
why_small (ended e f) = omega arith
why_small (broken e f) = omega arith
why_small (deep e f g h) = omega arith

module _ (n w : ℕ) (m : Memory) (listing : List ℕ) (room : 744 ≤ length listing) (lent : length listing ≤ longest_listing) where
  abbrev Fine : Ended → Type 0
  Fine e = Right n w (written_by e)

  module _ (a : Said) (en : a.n ≡ n) (ew : a.w ≡ w) (small : AllSmall a.entries) (initial : a.initial ≤ largest) where
    abbrev value : List ℕ
    value = replicate a.w a.initial

    below : set_up_refusal m a.n a.w value ≡ 0 → Below (5 * n * w) (words_at_set_up m.words a.n a.w value)
    below e =
        let rows : 5 * a.n * a.w ≡ 5 * n * w = ap (λ (x : ℕ). 5 * x * a.w) en ∙ ap (λ (x : ℕ). 5 * n * x) ew in
        let ok = fits m a.n a.w a.initial e in
        subst (λ (x : ℕ). Below x (words_at_set_up m.words a.n a.w value)) rows (words_small m.words a.n a.w a.initial ok initial)

    accepted_right : (t : Bool) → eqb (set_up_refusal m a.n a.w value) 0 ≡ t → t ≡ true
        → Fine (T.ended (carry_all a.entries (begun false (cond t (at_set_up m a.n a.w value) m) listing 0)))
    accepted_right true e z =
        let b = below (eqb-true (set_up_refusal m a.n a.w value) 0 e) in
        carried_right n w (at_set_up m a.n a.w value) listing a.entries room lent en ew b small
    accepted_right false e z = absurd (true≢false (sym z))

    refusal_small : set_up_refusal m a.n a.w value ≤ 15
    refusal_small = omega (arith, number_small a.n a.w (length m.records) (length m.words) (length value), set_up_number_lem m a.n a.w value)

    started_right : Fine (started false m listing a (set_up m a.n a.w value))
    unfolding set_up
    started_right =
        let k : ℕ = set_up_refusal m a.n a.w value in
        either Fine (eqb k 0) _ _ (λ e. accepted_right _ refl e) (λ _. refused_right n w m listing k refusal_small room lent)

  -- the text names N and W, if it is a right one
  module _ (text : List ℕ) (names : (a : Said) → read text ≡ right a → (a.n ≡ n) × (a.w ≡ w)) where
    reading_right : (r : Reading) → read text ≡ r → Fine (carried_out false m listing r)
    reading_right (right a) e =
        let t = read_is_right text a e in
        let small = subst (λ (x : Said). AllSmall x.entries) t.saying (entries_small t.tree) in
        let initial = subst (λ (x : Said). x.initial ≤ largest) t.saying (initial_small t.tree) in
        started_right a (names a e).0 (names a e).1 small initial
    reading_right (wrong k left) e = refused_right n w m listing k (why_small (wrong_has_fault text k left e).why) room lent

    writes_right : Right n w (written_by (run_text m text listing))
    unfolding TR.run_with
    writes_right = either Fine (ltb (length listing) (room_needed false)) _ _ (λ e. absurd (omega (arith, ltb-true (length listing) 744 e)))
        (λ _. either Fine (ltb longest_text (length text)) _ _ (λ _. refused_right n w m listing 12 (omega arith) room lent)
        (λ _. reading_right (read text) refl))

-- What a text run writes into at most 65,536 lent bytes is a right listing of the N and W that its text names; where
-- the text is wrong, and names none, of every N and W.
pub run_writes_right : (n w : ℕ) (m : Memory) (text listing : List ℕ) → 744 ≤ length listing → length listing ≤ longest_listing
    → ((a : Said) → read text ≡ right a → (a.n ≡ n) × (a.w ≡ w)) → Right n w (written_by (run_text m text listing))
run_writes_right n w m text listing room lent names = writes_right n w m listing room lent text names

-- 01: "A refusal 14 at the start writes nothing."
pub run_writes_nothing : (m : Memory) (text listing : List ℕ) → length listing < 744 → written_by (run_text m text listing) ≡ []
unfolding TR.run_with
run_writes_nothing m text listing h = simp (lt-ltb (length listing) (room_needed false) h)

-- So a season of that N and W takes every listing that a text run writes.
pub season_takes : (s : Sums) (m : Memory) (text listing : List ℕ) → sums_refusal s ≡ 0 → s.taken < most_listings
    → 744 ≤ length listing → length listing ≤ longest_listing
    → ((a : Said) → read text ≡ right a → (a.n ≡ s.n) × (a.w ≡ s.w)) → IsOk (added s (written_by (run_text m text listing)))
season_takes s m text listing e h room lent names =
    right_taken s (written_by (run_text m text listing)) e h (run_writes_right s.n s.w m text listing room lent names)
