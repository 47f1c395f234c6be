-- Laws of writes: one after another, and the room that is left.
use Prim.Native.Nat.{ℕ, suc, ◌+◌}
use mathlib.Core.Path.{◌≡◌, refl, sym, ap, subst, ◌∙◌}
use mathlib.Core.List.{List, [], ◌∷◌, ◌++◌, append_assoc}
use native.Mathlib.Omega.{arith}
use native.Mathlib.Nat.{add-zero, add-suc, suc-add, min-eq_left}
use lib.ListN.{length, length-append, length-take, set, take, drop}
use lib.Seq.{sets, length-sets, sets-eq, take_at, drop-drop}
use borrow.Rule.Slice.PartMut.{put_mid}
use Rattle.listing.specs.declared.Writer.{Writer}
use Rattle.listing.specs.Writing.{Room, Wrote, Fits, Writes}

sets_append : (l : List ℕ) (i : ℕ) (a b : List ℕ) → sets (sets l i a) (i + length a) b ≡ sets l i (a ++ b)
sets_append l i [] b = ap (λ (k : ℕ). sets l k b) (add-zero i)
sets_append l i (x ∷ a) b = ap (λ (k : ℕ). sets (sets (set l i x) (suc i) a) k b) (add-suc i (length a) ∙ sym (suc-add i (length a))) ∙ sets_append (set l i x) (suc i) a b

-- a write goes on
pub then : {l l' l'' : List ℕ} {i j k : ℕ} {a b : List ℕ} → Wrote l i a l' j → Wrote l' j b l'' k → Wrote l i (a ++ b) l'' k
then {l} {i = i} {j = j} {a = a} {b = b} p q = record {
  place = omega (arith, p.place, q.place, length-append a b);
  list = q.list ∙ ap (λ (x : List ℕ). sets x j b) p.list ∙ ap (λ (x : ℕ). sets (sets l i a) x b) p.place ∙ sets_append l i a b;
}

pub none : (l : List ℕ) (i : ℕ) → Wrote l i [] l i
none l i = record { place = omega arith; list = refl }

pub same : {l l' bs bs' : List ℕ} {i k : ℕ} → bs' ≡ bs → Wrote l i bs l' k → Wrote l i bs' l' k
same {l} {l' = l'} {i = i} {k = k} e w = subst (λ (x : List ℕ). Wrote l i x l' k) (sym e) w

-- bytes copied into a part of as many
pub copied : {l bs ys : List ℕ} {i k : ℕ} → Room l i bs → k ≡ length bs → ys ≡ bs → Wrote l i bs (put_mid i k l ys) (i + length bs)
copied {l} {bs} {i = i} {k = k} r e f = record {
  place = refl;
  list = ap (λ (y : List ℕ). take i l ++ (y ++ drop k (drop i l))) f
      ∙ ap (λ (y : List ℕ). take i l ++ (bs ++ y)) (drop-drop k i l ∙ ap (λ (j : ℕ). drop (i + j) l) e)
      ∙ sym (append_assoc (take i l) bs (drop (i + length bs) l)) ∙ sym (sets-eq bs l i r.fits);
}

-- the length stays
pub kept : {l l' bs : List ℕ} {i k : ℕ} → Wrote l i bs l' k → length l' ≡ length l
kept {l} {bs = bs} {i = i} w = ap length w.list ∙ length-sets l i bs

-- the bytes before and behind stay
pub stays : {l l' bs : List ℕ} {i k : ℕ} → Room l i bs → Wrote l i bs l' k → l' ≡ take i l ++ bs ++ drop k l
stays {l} {bs = bs} {i = i} {k = k} r w = w.list ∙ sets-eq bs l i r.fits ∙ ap (λ (x : ℕ). take i l ++ bs ++ drop x l) (sym w.place)

pub grows : {l l' bs : List ℕ} {i k : ℕ} → Room l i bs → Wrote l i bs l' k → take k l' ≡ take i l ++ bs
grows {l} {bs = bs} {i = i} {k = k} r w =
    let short = min-eq_left {n = i} {m = length l} (omega (arith, r.fits)) in
    ap (take k) (stays r w)
    ∙ take_at (take i l ++ bs) (drop k l) k (omega (arith, length-append (take i l) bs, length-take i l, w.place, r.fits, short))

-- room for a part, and for the rest after it
pub room_first : {l : List ℕ} {i : ℕ} (a b : List ℕ) → Room l i (a ++ b) → Room l i a
room_first a b r = record { fits = omega (arith, r.fits, length-append a b) }

pub room_then : {l l' : List ℕ} {i j : ℕ} {a : List ℕ} (b : List ℕ) → Room l i (a ++ b) → Wrote l i a l' j → Room l' j b
room_then {a = a} b r w = record { fits = omega (arith, r.fits, length-append a b, w.place, kept w) }

-- the same of a writer: a write goes on in the same lent bytes
room : {u : Writer} {bs : List ℕ} → Fits u bs → Room u.list.now u.written bs
room f = record { fits = f.fits }

pub wrote : {u v : Writer} {bs : List ℕ} → Writes u bs v → Wrote u.list.now u.written bs v.list.now v.written
wrote w = record { place = w.place; list = w.list }

-- what is written gives the rest
pub written : {u v : Writer} {bs : List ℕ} → v.list.ghost_name ≡ u.list.ghost_name → Wrote u.list.now u.written bs v.list.now v.written → Writes u bs v
written e w = record { same = e; long = kept w; place = w.place; list = w.list }

pub writes_then : {u v w : Writer} {a b : List ℕ} → Writes u a v → Writes v b w → Writes u (a ++ b) w
writes_then p q = written (q.same ∙ p.same) (then (wrote p) (wrote q))

pub writes_none : (u : Writer) → Writes u [] u
writes_none u = written refl (none u.list.now u.written)

pub writes_same : {u v : Writer} {bs bs' : List ℕ} → bs' ≡ bs → Writes u bs v → Writes u bs' v
writes_same {u} {v} e w = subst (λ (x : List ℕ). Writes u x v) (sym e) w

pub fits_same : {u : Writer} {bs bs' : List ℕ} → bs ≡ bs' → Fits u bs → Fits u bs'
fits_same {u} e f = subst (λ (x : List ℕ). Fits u x) e f

pub fits_first : {u : Writer} (a b : List ℕ) → Fits u (a ++ b) → Fits u a
fits_first a b f = record { fits = (room_first a b (room f)).fits }

pub fits_then : {u v : Writer} {a : List ℕ} (b : List ℕ) → Fits u (a ++ b) → Writes u a v → Fits v b
fits_then b f w = record { fits = (room_then b (room f) (wrote w)).fits }
