-- Figure 1's object as the code holds it.
use mathlib.Core.Path.{◌≡◌, refl, sym, ap, ap₂, subst, ◌∙◌, fun_ext}
use Prim.Native.Nat.{ℕ, suc, ◌+◌, ◌<◌}
use mathlib.Core.List.{List, [], ◌∷◌}
use mathlib.Core.Bool.{Bool, true, false, ◌&&◌, ◌||◌, cond}
use native.Mathlib.Omega.{arith}
use native.Mathlib.Decide.{ℕ_discrete}
use lib.Dec.{eqb, leb}
use lib.Pointwise.{pointwise}
use lib.ListN.{length, get_or, set, drop}
use lib.Seq.{drop-cons, get_or-set_same, get_or-set_other}
use borrow.Author.Tests.{eq-eqb, ne_eqb, leb-false}
use Rattle.std.specs.Prelude.{Option, Some}
use Rattle.llsc.specs.Answers.{ll_words, sc_truth, vl_truth}
use Rattle.llsc.specs.Object.{ll, sc, vl, Object, fresh, set_at, tell, feed}
use Rattle.verdicts.specs.Log.{Entry, entries}
use Rattle.verdicts.specs.declared.Fault.{Fault}
use Rattle.verdicts.specs.declared.Fault.TheVariants.{Answer}
use Rattle.verdicts.specs.Verdicts.{same_words, answers_alike}
use Rattle.verdicts.specs.Reasons.{feed_entry, Standing, standing_after, in_value, not_alike, numbered_in_order}
use Rattle.judging.specs.declared.heads.Head.{Head}
use Rattle.judging.specs.declared.object.Held.{Held}
use Rattle.judging.specs.declared.order.Order.{Order}
use Rattle.judging.specs.Heads.{head, entry_at}
use Rattle.judging.specs.Orders.{count, numbered_at, calls_of, Fits, SortedBy}
use Rattle.judging.specs.Objects.{words_held, object_of, Sane, told_alike, MovedOn, shown_at, not_alike_at}
use Rattle.judging.proofs.CallLoops.{none_of}

-- slices are compared word by word
same_words_is : (xs ys : List ℕ) → pointwise eqb xs ys ≡ same_words xs ys
same_words_is [] [] = refl
same_words_is [] (y ∷ ys) = refl
same_words_is (x ∷ xs) [] = refl
same_words_is (x ∷ xs) (y ∷ ys) = ap (eqb x y &&◌) (same_words_is xs ys)

module _ (w : ℕ) (log : List ℕ) where
  -- the process of a call
  pub low_process : Fits w log → (k : ℕ) → k < count w log → (e : Head) → e ≡ head (entry_at w log k) → e.process < 16
  low_process f k h e z = subst (λ (e : Head). e.process < 16) (sym z) (leb-false 16 _ (none_of w log (λ (e : Entry). leb 16 e.process) k h f.known))

  -- objects with the same links, one by one
  object_is : (v u : List ℕ) (f g : ℕ → Bool) → v ≡ u → ((q : ℕ) → f q ≡ g q) → ◌≡◌ {A = Object} (record { words = v; link = f }) (record { words = u; link = g })
  object_is v u f g e h = ap₂ (λ x (y : ℕ → Bool). record { words = x; link = y }) e (fun_ext h)

  link_set : (links : List Bool) (p q : ℕ) → p < length links → get_or (set links p true) q false ≡ set_at p true (λ q. get_or links q false) q
  link_set links p q h = go (ℕ_discrete q p)
    where
      chosen : (b : Bool) → eqb q p ≡ b → set_at p true (λ q. get_or links q false) q ≡ cond b true (get_or links q false)
      chosen b e = ap (λ b. cond b true (get_or links q false)) e

      go : Dec (q ≡ p) → get_or (set links p true) q false ≡ set_at p true (λ q. get_or links q false) q
      go (yes e) = ap (λ q. get_or (set links p true) q false) e ∙ get_or-set_same links p true false h ∙ sym (chosen true (eq-eqb q p e))
      go (no ne) = get_or-set_other links p q true false ne ∙ sym (chosen false (ne_eqb q p ne))

  module _ (k : ℕ) (h : Held) where
    abbrev entry : Entry
    entry = entry_at w log k

    -- the object after the call, were its kind 1 as the first truth says and 2 as the second does
    abbrev fed_as : List ℕ → Bool → Bool → Object
    fed_as value b c = feed entry.process (cond b ll (cond c (sc entry.words) vl)) (object_of w log value h)

    -- where its words stand, were the kind 2 as the first truth says and the link set as the second does
    abbrev stood_as : Bool → Bool → Standing
    stood_as b c = cond (b && c) (Some k) h.from

    -- the answer to an LL
    abbrev told_as : List ℕ → Bool → Bool
    told_as value b =
        (b || leb entry.truth 1)
        && answers_alike (tell entry.process (cond b ll (cond (eqb entry.kind 2) (sc entry.words) vl)) (object_of w log value h))
        (cond b (ll_words entry.words) (cond (eqb entry.kind 2) (sc_truth (eqb entry.truth 1)) (vl_truth (eqb entry.truth 1))))

    pub told_ll : (value : List ℕ) → entry.kind ≡ 1 → (xs ys : List ℕ) → xs ≡ words_held w log value h.from → ys ≡ entry.words
        → pointwise eqb xs ys ≡ told_alike w log value k h
    told_ll value e xs ys x y = same_words_is xs ys ∙ ap₂ same_words x y ∙ sym (ap (told_as value) (eq-eqb entry.kind 1 e))

    module _ (s : Sane w log h) where
      moved_ll : entry.kind ≡ 1 → length h.links ≡ 16 → entry.process < 16 → MovedOn w log k h (record { links = set h.links entry.process true; from = h.from })
      moved_ll y l p = record {
        moves = λ value.
            object_is _ (object_of w log value h).words _ (set_at entry.process true (λ q. get_or h.links q false)) refl
            (λ q. link_set h.links entry.process q (omega (arith, l)))
            ∙ sym (ap (λ b. fed_as value b (eqb entry.kind 2)) (eq-eqb entry.kind 1 y));
        stands = λ value. sym (ap (λ b. stood_as b (get_or h.links entry.process false)) (ne_eqb entry.kind 2 (λ z. omega (arith, y, z))));
        sane = record { inside = s.inside };
      }

      pub moved_head : (e : Head) → e ≡ head entry → e.kind ≡ 1 → length h.links ≡ 16 → e.process < 16
          → MovedOn w log k h (record { links = set h.links e.process true; from = h.from })
      moved_head e z y l p =
          let process = ap (λ (e : Head). e.process) z in
          subst (λ p. MovedOn w log k h (record { links = set h.links p true; from = h.from })) (sym process)
          (moved_ll (sym (ap (λ (e : Head). e.kind) z) ∙ y) l (subst (◌< 16) process p))

  -- the object serves the calls of an order, one after the other
  pub record ServeInv (value : List ℕ) (cs : List ℕ) (held : Held) (i : ℕ) : Type 0 where
    pub sane : Sane w log held
    pub same : not_alike_at w log (object_of w log value held) held.from (drop i cs) ≡ not_alike_at w log (fresh value) in_value cs

  module _ (value cs : List ℕ) where
    module _ (held : Held) (i : ℕ) (v : ServeInv value cs held i) where
      module _ (h : i < length cs) where
        abbrev k : ℕ
        k = get_or cs i 0

        abbrev more : Option Fault
        more = not_alike_at w log (feed_entry (entry_at w log k) (object_of w log value held)) (standing_after (numbered_at w log k) (object_of w log value held) held.from) (drop (suc i) cs)

        first_call : cond (told_alike w log value k held) more (Some (Answer k (shown_at w log k held))) ≡ not_alike_at w log (fresh value) in_value cs
        first_call = sym (ap (not_alike_at w log (object_of w log value held) held.from) (drop-cons cs i 0 h)) ∙ v.same

        pub serve_go : told_alike w log value k held ≡ true → (n : Held) → MovedOn w log k held n → ServeInv value cs n (i + 1)
        serve_go e n m = record {
          sane = m.sane;
          same = ap (λ j. not_alike_at w log (object_of w log value n) n.from (drop j cs)) (let y : i + 1 ≡ suc i = omega arith in y)
              ∙ ap₂ (λ o s. not_alike_at w log o s (drop (suc i) cs)) (m.moves value) (m.stands value)
              ∙ sym (ap (λ b. cond b more (Some (Answer k (shown_at w log k held)))) e) ∙ first_call;
        }

-- the calls of the order, served, are the calls in moment order, served
pub served_sorted : (w : ℕ) (log value : List ℕ) (o : Order) → SortedBy w log o
    → (r : Option Fault) → r ≡ not_alike_at w log (fresh value) in_value (calls_of o) → r ≡ not_alike (fresh value) in_value (numbered_in_order (entries w log))
served_sorted w log value o s r e = e ∙ ap (not_alike (fresh value) in_value) s.order
