-- The order in which the calls are listed does not matter.
use mathlib.Core.Path.{◌≡◌, refl, sym, ap, subst, ◌∙◌}
use mathlib.Core.List.{List, [], ◌∷◌, map}
use Prim.Native.Nat.{ℕ, ◌≤◌, ◌<◌}
use native.Mathlib.Decide.{dec_le}
use native.Mathlib.Omega.{arith}
use borrow.Author.Tests.{le-leb, lt-leb}
use Rattle.llsc.specs.Object.{fresh, serve}
use Rattle.llsc.specs.Linearizable.{Timed, insert, sort_into, in_moment_order, Distinct, Inside, fed}
use Rattle.moir_linearization.specs.Linearizable.{Served, AllMatch, Linearizable}
use Rattle.moir_linearization.proofs.Permutations.{Perm, none, more, swap, both, perm_map, perm_all, perm_distinct}

-- a call goes past those that are not later, and stops before one that is
past : (a u : Timed) (us : List Timed) → u.moment ≤ a.moment → insert a (u ∷ us) ≡ u ∷ insert a us
past a u us h = rw (le-leb u.moment a.moment h)

stop : (a u : Timed) (us : List Timed) → a.moment < u.moment → insert a (u ∷ us) ≡ a ∷ u ∷ us
stop a u us h = rw (lt-leb u.moment a.moment h)

-- two calls with different moments are inserted in either order
ordered : (a b : Timed) (us : List Timed) → a.moment < b.moment → insert a (insert b us) ≡ insert b (insert a us)
ordered a b [] h = stop a b [] h ∙ sym (past b a [] (omega arith))
ordered a b (u ∷ us) h = go (dec_le u.moment a.moment) (dec_le u.moment b.moment) (ordered a b us h)
  where
    go : Dec (u.moment ≤ a.moment) → Dec (u.moment ≤ b.moment) → insert a (insert b us) ≡ insert b (insert a us)
        → insert a (insert b (u ∷ us)) ≡ insert b (insert a (u ∷ us))
    go (yes x) (yes y) e = ap (insert a) (past b u us y) ∙ past a u (insert b us) x ∙ ap (u ∷◌) e
        ∙ sym (past b u (insert a us) y) ∙ ap (insert b) (sym (past a u us x))
    go (yes x) (no y) e = absurd (omega arith)
    go (no x) (yes y) e =
        ap (insert a) (past b u us y) ∙ stop a u (insert b us) (omega arith) ∙ ap (a ∷◌) (sym (past b u us y))
        ∙ sym (past b a (u ∷ us) (omega arith)) ∙ ap (insert b) (sym (stop a u us (omega arith)))
    go (no x) (no y) e =
        ap (insert a) (stop b u us (omega arith)) ∙ stop a b (u ∷ us) h
        ∙ ap (a ∷◌) (sym (stop b u us (omega arith))) ∙ sym (past b a (u ∷ us) (omega arith))
        ∙ ap (insert b) (sym (stop a u us (omega arith)))

insert_comm : (a b : Timed) (us : List Timed) → (a.moment ≡ b.moment → ⊥) → insert a (insert b us) ≡ insert b (insert a us)
insert_comm a b us ne = go (dec_le b.moment a.moment)
  where
    go : Dec (b.moment ≤ a.moment) → insert a (insert b us) ≡ insert b (insert a us)
    go (yes h) = sym (ordered b a us (omega (arith, ne)))
    go (no h) = ordered a b us (omega arith)

abbrev Apart : List Timed → Type 0
Apart ts = Distinct (map (λ (t : Timed). t.moment) ts)

sort_perm : {ts us : List Timed} → Perm ts us → (into : List Timed) → Apart ts → sort_into ts into ≡ sort_into us into
sort_perm none into d = refl
sort_perm (more {a} p) into d = sort_perm p (insert a into) d.1
sort_perm (swap {a} {b} {xs}) into d = ap (sort_into xs) (sym (insert_comm a b into d.0.0))
sort_perm (both p q) into d = sort_perm p into d ∙ sort_perm q into (perm_distinct (perm_map (λ (t : Timed). t.moment) p) d)

-- the moments go along with the calls
record Moved (cs : List Served) (ts : List Timed) : Type 0 where
  timed : List Timed
  perm : Perm ts timed
  matches : AllMatch cs (map (λ (t : Timed). t.call) timed)

moved : {cs ds : List Served} → Perm cs ds → (ts : List Timed) → AllMatch cs (map (λ (t : Timed). t.call) ts) → Moved ds ts
moved none [] m = record { timed = []; perm = none; matches = tt }
moved none (t ∷ ts) m = absurd m
moved (more p) [] m = absurd m
moved (more p) (t ∷ ts) m = let r = moved p ts m.1 in record { timed = t ∷ r.timed; perm = more r.perm; matches = (m.0, r.matches) }
moved swap [] m = absurd m
moved swap (t ∷ []) m = absurd m.1
moved swap (t ∷ (u ∷ ts)) m = record { timed = u ∷ t ∷ ts; perm = swap; matches = (m.1.0, (m.0, m.1.1)) }
moved (both p q) ts m = let r = moved p ts m in let r' = moved q r.timed r.matches
    in record { timed = r'.timed; perm = both r.perm r'.perm; matches = r'.matches }

pub reordered : (places : ℕ) (value : List ℕ) {cs ds : List Served} → Perm cs ds → Linearizable places value cs → Linearizable places value ds
reordered places value {cs} p l =
    let z = l.linearization in
    let r = moved p z.timed (subst (AllMatch cs) (sym z.same_calls) l.matches) in
    let e : in_moment_order r.timed ≡ in_moment_order z.timed = sym (sort_perm r.perm [] z.distinct) in record {
      filled = map (λ (t : Timed). t.call) r.timed;
      matches = r.matches;
      linearization = record {
        timed = r.timed;
        same_calls = refl;
        distinct = perm_distinct (perm_map (λ (t : Timed). t.moment) r.perm) z.distinct;
        inside = perm_all (Inside places) r.perm z.inside;
        served = subst (λ x. serve (fresh value) (map fed x) ≡ map (λ (t : Timed). t.call.answer) x) (sym e) z.served;
      };
    }
