-- Laws of places: what the bytes that the readers find are to `locate`.
use Prim.Native.Nat.{ℕ, ◌+◌, ◌*◌, ◌≤◌, ◌<◌}
use mathlib.Core.Path.{◌≡◌, refl, sym, ap, ◌∙◌}
use mathlib.Core.List.{List, [], ◌∷◌, ◌++◌, append_assoc, append-nil}
use native.Mathlib.Numerals.{add-one}
use lib.ListN.{length, get_or, drop, drop_of_length-le}
use lib.Seq.{drop-cons}
use Rattle.notation.specs.declared.Mark.{Mark}
use Rattle.notation.specs.declared.Kind.{Kind}
use Rattle.notation.specs.declared.Kind.TheVariants.{Gap, Marked, Offer, Open, Close}
use Rattle.notation.specs.Bytes.{kind_of}
use Rattle.notation.specs.Grammar.{times}
use Rattle.notation.specs.Places.{Part, fore, head, tail, Level, Onto, stride, locate, Moves, Opens, Closes, ClosesAfter, EndsHere, EndsAfter}
use Rattle.notation.specs.Readers as D
use Rattle.notation.specs.Readers.{Counts, still, digit, Whole, Gapped, Skipped}

-- one byte
locate_at : (s : List ℕ) (at : ℕ) (m : Part) (stack : List Level) (os : List ℕ) → at < length s
    → locate (drop at s) at m stack os ≡ stride (locate (drop (at + 1) s) (at + 1)) at m (kind_of (get_or s at 0)) stack os
unfolding locate
locate_at s at m stack os h = rw (add-one, drop-cons s at 0)

-- of a known kind
pub locate_kind : {k : Kind} (s : List ℕ) (at : ℕ) (m : Part) (stack : List Level) (os : List ℕ) → at < length s → kind_of (get_or s at 0) ≡ k
    → locate (drop at s) at m stack os ≡ stride (locate (drop (at + 1) s) (at + 1)) at m k stack os
locate_kind s at m stack os h e = locate_at s at m stack os h ∙ ap (λ (x : Kind). stride (locate (drop (at + 1) s) (at + 1)) at m x stack os) e

-- the end
pub locate_end : (s : List ℕ) (at : ℕ) (m : Part) (stack : List Level) (os : List ℕ) → length s ≤ at → locate (drop at s) at m stack os ≡ os
unfolding locate
locate_end s at m stack os h = rw (drop_of_length-le s {i = at} h)

module _ {s : List ℕ} where
  stays : (at : ℕ) (m : Part) → Moves s at m at m []
  stays at m = record { same = λ stack os. ap (λ (x : List ℕ). locate (drop at s) at m stack x) (sym (append-nil os)) }

  pub moves_then : {a b c : ℕ} {m m' m'' : Part} {ps qs : List ℕ} → Moves s a m b m' ps → Moves s b m' c m'' qs → Moves s a m c m'' (ps ++ qs)
  moves_then {c = c} {m'' = m''} {ps = ps} {qs = qs} p q = record {
    same = λ stack os. p.same stack os ∙ q.same stack (os ++ ps) ∙ ap (λ (x : List ℕ). locate (drop c s) c m'' stack x) (append_assoc os ps qs);
  }

  -- a byte that says no place
  quiet : {k : Kind} (m m' : Part) (at : ℕ) → at < length s → kind_of (get_or s at 0) ≡ k
      → ((f : Onto) (stack : List Level) (os : List ℕ) → stride f at m k stack os ≡ f m' stack os) → Moves s at m (at + 1) m' []
  quiet m m' at h e f = record {
    same = λ stack os.
        locate_kind s at m stack os h e ∙ f (locate (drop (at + 1) s) (at + 1)) stack os
        ∙ ap (λ (x : List ℕ). locate (drop (at + 1) s) (at + 1) m' stack x) (sym (append-nil os));
  }

  gapped : {at next : ℕ} → Gapped s at next → Moves s at fore next fore []
  unfolding stride
  gapped {at} D.stay = stays at fore
  gapped (D.gap {next = next} g l e) = moves_then (gapped g) (quiet fore fore next l e (λ f stack os. refl))

  -- the digits of an item's first number, and of the number after its `s`
  counts_head : {at v next v' : ℕ} (p : ℕ) → Counts s at v next v' → Moves s at (head p v) next (head p v') []
  unfolding stride
  counts_head {at} {v} p still = stays at (head p v)
  counts_head p (digit {next = next} {v' = v'} {d = d} c l e fits) =
      moves_then (counts_head p c) (quiet (head p v') (head p (v' * 10 + d)) next l e (λ f stack os. refl))

  counts_tail : {at v next v' : ℕ} → Counts s at v next v' → Moves s at tail next tail []
  unfolding stride
  counts_tail {at} still = stays at tail
  counts_tail (digit {next = next} c l e fits) = moves_then (counts_tail c) (quiet tail tail next l e (λ f stack os. refl))

  headed : {at v next : ℕ} → Whole s at v next → Moves s at fore next (head at v) []
  unfolding stride
  headed {at} w = moves_then (quiet fore (head at w.d) at w.here w.is (λ f stack os. refl)) (counts_head at w.numbered.counts)

  tailed : {at v next : ℕ} → Whole s at v next → Moves s at tail next tail []
  unfolding stride
  tailed {at} w = moves_then (quiet tail tail at w.here w.is (λ f stack os. refl)) (counts_tail w.numbered.counts)

  module _ {at v place : ℕ} (w : Whole s at v place) (h : place < length s) where
    -- an item
    pub places_marked : (m : Mark) → kind_of (get_or s place 0) ≡ Marked m → Moves s at fore (place + 1) tail (at ∷ [])
    unfolding stride
    places_marked m e = moves_then (headed w) (record { same = λ stack os. locate_kind s place (head at v) stack os h e })

    pub places_offer : {k next : ℕ} → kind_of (get_or s place 0) ≡ Offer → Whole s (place + 1) k next → Moves s at fore next tail (at ∷ [])
    unfolding stride
    places_offer e x = moves_then (headed w) (moves_then (record { same = λ stack os. locate_kind s place (head at v) stack os h e }) (tailed x))

    -- a group up to its `(`
    pub places_open : kind_of (get_or s place 0) ≡ Open → Opens s at v (place + 1)
    unfolding stride
    places_open e = record {
      same = λ stack os.
          (headed w).same stack os ∙ locate_kind s place (head at v) stack (os ++ []) h e
          ∙ ap (λ (x : List ℕ). locate (drop (place + 1) s) (place + 1) fore (record { count = v; outer = x } ∷ stack) []) (append-nil os);
    }

  -- right after an item: a `)`, or the end
  pub places_shut : (at : ℕ) → at < length s → kind_of (get_or s at 0) ≡ Close → Closes s at (at + 1)
  unfolding stride
  places_shut at h e = record { same = λ f stack os. locate_kind s at tail (f ∷ stack) os h e }

  pub places_end : (at : ℕ) → length s ≤ at → EndsHere s at
  places_end at h = record { same = λ os. locate_end s at tail [] os h }

  -- and behind gaps
  module _ {at next : ℕ} (h : at < length s) (e : kind_of (get_or s at 0) ≡ Gap) (k : Skipped s (at + 1) next) where
    pub places_on : Moves s at tail next fore []
    unfolding stride
    places_on = moves_then (quiet tail fore at h e (λ f stack os. refl)) (gapped k.gaps)

    pub places_gap_shut : next < length s → kind_of (get_or s next 0) ≡ Close → Closes s at (next + 1)
    unfolding stride
    places_gap_shut l c = record {
      same = λ f stack os.
          places_on.same (f ∷ stack) os ∙ locate_kind s next fore (f ∷ stack) (os ++ []) l c
          ∙ ap (λ (x : List ℕ). locate (drop (next + 1) s) (next + 1) tail stack (f.outer ++ times f.count x)) (append-nil os);
    }

    pub places_gap_end : length s ≤ next → EndsHere s at
    places_gap_end l = record { same = λ os. places_on.same [] os ∙ locate_end s next fore [] (os ++ []) l ∙ append-nil os }

  -- items in a row
  pub places_skip : {at next : ℕ} → Skipped s at next → Moves s at fore next fore []
  places_skip k = gapped k.gaps

  pub places_none : {at next : ℕ} → Skipped s at next → length s ≤ next → EndsAfter s at []
  places_none {next = next} k l = record { same = (places_skip k).same [] [] ∙ locate_end s next fore [] [] l }

  -- a group has the places of its items, as often as its count says
  pub places_group : {at n body next : ℕ} {ps : List ℕ} → Opens s at n body → ClosesAfter s body next ps → Moves s at fore next tail (times n ps)
  places_group {n = n} b c = record { same = λ stack os. b.same stack os ∙ c.same (record { count = n; outer = os }) stack }

  module _ {at next next' : ℕ} {ps qs : List ℕ} (f : Moves s at fore next fore ps) (i : Moves s next fore next' tail qs) where
    pub places_more : {place : ℕ} → Moves s next' tail place fore [] → Moves s at fore place fore (ps ++ qs)
    places_more {place} e = record {
      same = λ stack os. (moves_then f i).same stack os ∙ e.same stack (os ++ (ps ++ qs)) ∙ ap (λ (x : List ℕ). locate (drop place s) place fore stack x) (append-nil (os ++ (ps ++ qs)));
    }

    pub places_closed : {past : ℕ} → Closes s next' past → ClosesAfter s at past (ps ++ qs)
    places_closed e = record { same = λ g stack. (moves_then f i).same (g ∷ stack) [] ∙ e.same g stack (ps ++ qs) }

    pub places_ended : EndsHere s next' → EndsAfter s at (ps ++ qs)
    places_ended e = record { same = (moves_then f i).same [] [] ∙ e.same (ps ++ qs) }
