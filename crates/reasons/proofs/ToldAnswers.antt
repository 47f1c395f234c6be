-- What the reason of condition 5 says is what Figure 1's object answers there, and the calls before are answered alike.
use mathlib.Core.Path.{◌≡◌, refl, sym, ap, ap₂, subst, ◌∙◌}
use Prim.Native.Nat.{ℕ, suc, ◌+◌}
use mathlib.Core.List.{List, [], ◌∷◌, ◌++◌, map}
use mathlib.Core.Bool.{Bool, true, false, not, ◌&&◌, cond}
use native.Mathlib.Omega.{arith}
use lib.Dec.{eqb, leb}
use borrow.Author.Tests.{eqb-true}
use Rattle.llsc.specs.Answers.{Answer, ll_words, sc_truth, vl_truth}
use Rattle.llsc.specs.Object.{ll, sc, vl, Object, fresh, tell, feed, serve}
use Rattle.llsc.specs.Linearizable.{All, fed}
use Rattle.std.specs.Prelude.{Option, Some, None}
use Rattle.verdicts.specs.declared.Fault.{Fault}
use Rattle.verdicts.specs.declared.Fault.TheVariants.{Unknown, Overlap, Moment, Outside, Unled}
use Rattle.verdicts.specs.declared.Fault.TheVariants.{Answer as Answer·fault}
use Rattle.verdicts.specs.declared.Shown.{Shown}
use Rattle.verdicts.specs.declared.Shown.TheVariants.{Value, Truth}
use Rattle.verdicts.specs.Log.{Entry}
use Rattle.verdicts.specs.Verdicts.{kind_of, answer_of, answers_of, kind_known, apart, differ, inside, truth_told, answers_alike, same_answers, ll_before}
use Rattle.verdicts.specs.Reasons.{one_at_fault, two_at_fault, at_one, at_two, or_else, reason_of_no}
use Rattle.verdicts.specs.Reasons.{Numbered, timed_of_numbered, numbered, insert_numbered, sort_numbered, numbered_in_order, tells_alike, feed_entry}
use Rattle.verdicts.specs.Reasons.{Standing, in_value, standing_after, words_shown, object_answers, words_at, answer_told, not_alike}
use Rattle.verdicts.specs.ToldAnswers.{Unlike}

not_both : true ≡ false → ⊥
not_both e = let z : ◌≡◌ {A = ℕ} 1 0 = ap (λ b. cond b 1 0) e in omega arith

second : (a b : Bool) → (a && b) ≡ true → b ≡ true
second true b e = e
second false b e = absurd (not_both (sym e))

-- what a reason of condition 5 tells
abbrev index_told : Option Fault → ℕ
index_told (Some (Answer·fault k s)) = k
index_told r = 0

abbrev shown_told : Option Fault → Shown
shown_told (Some (Answer·fault k s)) = s
shown_told r = Value

abbrev is_some : {A : Type 0} → Option A → Bool
is_some None = false
is_some (Some a) = true

module _ (value : List ℕ) (all : List Entry) where
  abbrev words_of : Standing → List ℕ
  words_of None = value
  words_of (Some k) = words_at k all

  -- the object's words stand there; an entry's words are those of its index
  abbrev Stands : Object → Standing → Type 0
  Stands o s = o.words ≡ words_of s

  abbrev In : Numbered → Type 0
  In c = words_at c.index all ≡ c.entry.words

  module _ (c : Numbered) (o : Object) (s : Standing) (st : Stands o s) where
    abbrev e : Entry
    e = c.entry

    abbrev shown : Shown
    shown = cond (eqb e.kind 1) (words_shown s) (Truth (o.link e.process))

    words_are : (s : Standing) → o.words ≡ words_of s → ll_words o.words ≡ answer_told value all e (words_shown s)
    words_are None h = ap ll_words h
    words_are (Some k) h = ap ll_words h

    told_is : tell e.process (kind_of e) o ≡ answer_told value all e shown
    told_is = go (eqb e.kind 1) refl
      where
        two : (d : Bool) → tell e.process (cond d (sc e.words) vl) o ≡ cond d (sc_truth (o.link e.process)) (vl_truth (o.link e.process))
        two true = refl
        two false = refl

        go : (b : Bool) → eqb e.kind 1 ≡ b → tell e.process (cond b ll (cond (eqb e.kind 2) (sc e.words) vl)) o ≡ answer_told value all e (cond b (words_shown s) (Truth (o.link e.process)))
        go true h = words_are s st
        go false h = two (eqb e.kind 2)

    stands_after : In c → Stands (feed_entry e o) (standing_after c o s)
    stands_after i = go (eqb e.kind 1) (eqb e.kind 2) (λ z. ap (λ k. eqb k 2) (eqb-true e.kind 1 z))
      where
        wrote : (l : Bool) → (cond l (record { words = e.words; link = λ q. false }) o).words ≡ words_of (cond l (Some c.index) s)
        wrote true = sym i
        wrote false = st

        go : (b d : Bool) → (b ≡ true → d ≡ false)
            → (feed e.process (cond b ll (cond d (sc e.words) vl)) o).words ≡ words_of (cond (d && o.link e.process) (Some c.index) s)
        go true true h = absurd (not_both (h refl))
        go true false h = st
        go false true h = wrote (o.link e.process)
        go false false h = st

    found : (cs : List Numbered) → tells_alike e o ≡ false → Unlike value all o (c ∷ cs) c.index shown
    found cs z = record {
      before = [];
      call = c;
      after = cs;
      parts = refl;
      index = refl;
      earlier = [];
      later = serve (feed_entry e o) (map fed (map timed_of_numbered cs));
      answers = ap (◌∷ serve (feed_entry e o) (map fed (map timed_of_numbered cs))) told_is;
      alike = refl;
      unlike = ap (λ a. truth_told e && answers_alike a (answer_of e)) (sym told_is) ∙ z;
    }

    passed : (cs : List Numbered) (k : ℕ) (t : Shown) → tells_alike e o ≡ true → Unlike value all (feed_entry e o) cs k t → Unlike value all o (c ∷ cs) k t
    passed cs k t z u = record {
      before = c ∷ u.before;
      call = u.call;
      after = u.after;
      parts = ap (c ∷◌) u.parts;
      index = u.index;
      earlier = tell e.process (kind_of e) o ∷ u.earlier;
      later = u.later;
      answers = ap (tell e.process (kind_of e) o ∷◌) u.answers;
      alike = ap₂ ◌&&◌ (second (truth_told e) _ z) u.alike;
      unlike = u.unlike;
    }

  unlike_in : (o : Object) (s : Standing) (cs : List Numbered) → Stands o s → All In cs → (k : ℕ) (t : Shown) → not_alike o s cs ≡ Some (Answer·fault k t) → Unlike value all o cs k t
  unlike_in o s [] st i k t h = absurd (not_both (sym (ap is_some h)))
  unlike_in o s (c ∷ cs) st i k t h =
      go (tells_alike c.entry o) refl h (unlike_in (feed_entry c.entry o) (standing_after c o s) cs (stands_after c o s st i.0) i.1 k t)
    where
      go : (b : Bool) → tells_alike c.entry o ≡ b
          → cond b (not_alike (feed_entry c.entry o) (standing_after c o s) cs) (Some (object_answers c o s)) ≡ Some (Answer·fault k t)
          → (not_alike (feed_entry c.entry o) (standing_after c o s) cs ≡ Some (Answer·fault k t) → Unlike value all (feed_entry c.entry o) cs k t)
          → Unlike value all o (c ∷ cs) k t
      go true z h u = passed c o s st cs k t z (u h)
      go false z h u = subst (λ j. Unlike value all o (c ∷ cs) j t) (ap index_told h) (subst (Unlike value all o (c ∷ cs) c.index) (ap shown_told h) (found c o s st cs z))

  -- sorted or not, an entry goes with its index
  insert_in : (c : Numbered) (ds : List Numbered) → In c → All In ds → All In (insert_numbered c ds)
  insert_in c [] i a = (i, tt)
  insert_in c (d ∷ ds) i a = go (leb d.entry.moment c.entry.moment) (insert_in c ds i a.1)
    where
      go : (b : Bool) → All In (insert_numbered c ds) → All In (cond b (d ∷ insert_numbered c ds) (c ∷ d ∷ ds))
      go true x = (a.0, x)
      go false x = (i, a)

  sort_in : (cs ds : List Numbered) → All In cs → All In ds → All In (sort_numbered cs ds)
  sort_in [] ds a b = b
  sort_in (c ∷ cs) ds a b = sort_in cs (insert_numbered c ds) a.1 (insert_in c ds a.0 b)

  numbered_in : (k : ℕ) (es : List Entry) → ((j : ℕ) → words_at (j + k) all ≡ words_at j es) → All In (numbered k es)
  numbered_in k [] h = tt
  numbered_in k (e ∷ es) h =
      let first = ap (λ i. words_at i all) (let z : k ≡ 0 + k = omega arith in z) ∙ h 0 in
      (first, numbered_in (suc k) es (λ j. ap (λ i. words_at i all) (let z : j + suc k ≡ suc j + k = omega arith in z) ∙ h (suc j)))

pub unlike_shown : (value : List ℕ) (es : List Entry) (k : ℕ) (t : Shown) → not_alike (fresh value) in_value (numbered_in_order es) ≡ Some (Answer·fault k t)
    → Unlike value es (fresh value) (numbered_in_order es) k t
unlike_shown value es k t h =
    let numbers = numbered_in value es 0 es (λ j. ap (λ i. words_at i es) (let z : j + 0 ≡ j = omega arith in z)) in
    unlike_in value es (fresh value) in_value (numbered_in_order es) refl (sort_in value es (numbered 0 es) [] numbers tt) k t h

-- no other condition tells what the object answers
abbrev is_5 : Option Fault → Bool
is_5 (Some (Answer·fault k t)) = true
is_5 r = false

module _ (rest : Option Fault) (k : ℕ) (t : Shown) where
  abbrev Told : Option Fault → Type 0
  Told r = r ≡ Some (Answer·fault k t)

  after_one : (g : ℕ → Fault) → ((j : ℕ) → is_5 (Some (g j)) ≡ false) → (r : Option ℕ) → Told (or_else (at_one g r) rest) → Told rest
  after_one g n None h = h
  after_one g n (Some j) h = absurd (not_both (sym (ap is_5 h) ∙ n j))

  after_two : (g : ℕ → ℕ → Fault) → ((i j : ℕ) → is_5 (Some (g i j)) ≡ false) → (r : Option (ℕ × ℕ)) → Told (or_else (at_two g r) rest) → Told rest
  after_two g n None h = h
  after_two g n (Some ks) h = absurd (not_both (sym (ap is_5 h) ∙ n ks.0 ks.1))

  this_one : (r : Option Fault) → (Told rest → ⊥) → Told (or_else r rest) → Told r
  this_one None n h = absurd (n h)
  this_one (Some f) n h = h

none_last : (k : ℕ) (t : Shown) → ◌≡◌ {A = Option Fault} None (Some (Answer·fault k t)) → ⊥
none_last k t h = not_both (sym (ap is_5 h))

-- so a no that tells what the object answers is that of condition 5
pub reason_5_shown : (value : List ℕ) (es : List Entry) (k : ℕ) (t : Shown) → reason_of_no value es ≡ Some (Answer·fault k t)
    → Unlike value es (fresh value) (numbered_in_order es) k t
unfolding reason_of_no
reason_5_shown value es k t h =
    let h1 = after_one _ k t Unknown (λ j. refl) (one_at_fault (λ e. not (kind_known e)) es) h in
    let h2 = after_two _ k t Overlap (λ i j. refl) (two_at_fault (λ e f. not (apart e f)) 0 es) h1 in
    let h3 = after_two _ k t Moment (λ i j. refl) (two_at_fault (λ e f. not (differ e f)) 0 es) h2 in
    let h4 = after_one _ k t Outside (λ j. refl) (one_at_fault (λ e. not (inside e)) es) h3 in
    unlike_shown value es k t
    (this_one _ k t (not_alike (fresh value) in_value (numbered_in_order es))
    (λ y. none_last k t (after_one _ k t Unled (λ j. refl) (one_at_fault (λ e. not (ll_before es e)) es) y)) h4)
