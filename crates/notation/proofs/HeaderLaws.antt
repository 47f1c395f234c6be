-- Laws of the reading of the first line.
use Prim.Native.Nat.{ℕ, ◌+◌, ◌-◌, ◌*◌, ◌≤◌, ◌<◌}
use mathlib.Core.Path.{◌≡◌, refl, sym, ap, ◌∙◌}
use mathlib.Core.List.{List, []}
use mathlib.Core.Bool.{true, false, true≢false}
use native.Mathlib.Omega.{arith}
use native.Mathlib.Numerals.{add-one}
use borrow.Author.Tests.{eq-eqb, ne_eqb}
use lib.ListN.{length, get_or, drop, drop_of_length-le}
use lib.Seq.{drop-cons}
use Rattle.notation.specs.declared.Kind.{Kind}
use Rattle.notation.specs.declared.Kind.TheVariants.{Digit, Gap, Marked, Offer, Open, Close, Other}
use Rattle.std.specs.Prelude.{Ok, Err}
use Rattle.notation.specs.Readers.{Digits}
use Rattle.notation.specs.Bytes.{space, line_feed, kind_of, is_digit}
use Rattle.notation.specs.Grammar.{digit_ok}
use Rattle.notation.specs.Scan.{between, scan}
use Rattle.notation.specs.FirstLine.{Place, before_n, in_n, before_w, in_w, before_initial, in_initial, Next, goes, begins, breaks}
use Rattle.notation.specs.FirstLine.{starting, inside, step, whole, proceed, read_from, past}
use Rattle.notation.specs.Readings.{wrong}
use Rattle.notation.specs.Readers.{Counts, still, digit, NumberSays, Whole, NoneAt, ends, other, strayed, NumberAtSays, Ended, NotEnded, none, Headed, NotHeaded, no_n, no_w, no_initial}
use Rattle.notation.proofs.ScanLaws.{left_at, digit_fits, digit_stray}
use Rattle.notation.proofs.NumberLaws.{number_only, number_slice}

-- one byte
pub read_at : (d : ℕ) (s : List ℕ) (at : ℕ) (m : Place) → at < length s → read_from d (drop at s) m ≡ past d (drop (at + 1) s) (step m (get_or s at 0))
unfolding read_from
read_at d s at m h = rw (add-one, drop-cons s at 0)

-- the end
pub read_end : (d : ℕ) (s : List ℕ) (at : ℕ) (m : Place) → length s ≤ at → read_from d (drop at s) m ≡ wrong 10 0
unfolding read_from
read_end d s at m h = rw (drop_of_length-le s {i = at} h)

-- a number of the first line: the place before it, the places in it, the byte that ends it and what that byte does
pub record Field (m : Place) (f : ℕ → Place) (stop : ℕ) (out : ℕ → Next) : Type 0 where
  pub before : (b : ℕ) → step m b ≡ starting f (kind_of b)
  pub within : (v b : ℕ) → step (f v) b ≡ inside f stop out v b (kind_of b)
  pub stops : kind_of stop ≡ Gap

pub field_n : Field before_n in_n space (λ x. goes (before_w x))
unfolding step kind_of
field_n = record { before = λ b. refl; within = λ v b. refl; stops = refl }

pub field_w : (n : ℕ) → Field (before_w n) (in_w n) space (λ x. goes (before_initial n x))
unfolding step kind_of
field_w n = record { before = λ b. refl; within = λ v b. refl; stops = refl }

pub field_initial : (n w : ℕ) → Field (before_initial n w) (in_initial n w) line_feed (begins n w)
unfolding step kind_of
field_initial n w = record { before = λ b. refl; within = λ v b. refl; stops = refl }

-- what is no digit breaks where a number should begin
not_starting : (f : ℕ → Place) (k : Kind) → is_digit k ≡ false → starting f k ≡ breaks
unfolding starting
not_starting f (Digit d) h = absurd (true≢false h)
not_starting f Gap h = refl
not_starting f (Marked m) h = refl
not_starting f Offer h = refl
not_starting f Open h = refl
not_starting f Close h = refl
not_starting f Other h = refl

-- and what is neither a digit nor the byte that ends it breaks in one
not_inside : (f : ℕ → Place) (stop : ℕ) (out : ℕ → Next) (v b : ℕ) (k : Kind) → is_digit k ≡ false → (b ≡ stop → ⊥) → inside f stop out v b k ≡ breaks
unfolding inside
not_inside f stop out v b (Digit d) h n = absurd (true≢false h)
not_inside f stop out v b Gap h n = simp (ne_eqb _ _ n)
not_inside f stop out v b (Marked m) h n = refl
not_inside f stop out v b Offer h n = refl
not_inside f stop out v b Open h n = refl
not_inside f stop out v b Close h n = refl
not_inside f stop out v b Other h n = refl

module _ {m : Place} {f : ℕ → Place} {stop : ℕ} {out : ℕ → Next} (fd : Field m f stop out) where
  pub starts : (b d : ℕ) → kind_of b ≡ Digit d → step m b ≡ goes (f d)
  unfolding starting
  starts b d e = fd.before b ∙ ap (starting f) e

  pub starts_not : (b : ℕ) → is_digit (kind_of b) ≡ false → step m b ≡ breaks
  starts_not b h = fd.before b ∙ not_starting f (kind_of b) h

  pub goes_on : (v b d : ℕ) → kind_of b ≡ Digit d → digit_ok v d ≡ true → step (f v) b ≡ goes (f (v * 10 + d))
  unfolding inside
  goes_on v b d e h = fd.within v b ∙ ap (inside f stop out v b) e ∙ digit_fits v d (λ x. goes (f x)) breaks h

  pub goes_astray : (v b d : ℕ) → kind_of b ≡ Digit d → digit_ok v d ≡ false → step (f v) b ≡ breaks
  unfolding inside
  goes_astray v b d e h = fd.within v b ∙ ap (inside f stop out v b) e ∙ digit_stray v d (λ x. goes (f x)) breaks h

  pub stops_at : (v b : ℕ) → b ≡ stop → step (f v) b ≡ out v
  unfolding inside
  stops_at v b e = fd.within v b ∙ ap (inside f stop out v b) (ap kind_of e ∙ fd.stops) ∙ simp (eq-eqb _ _ e)

  pub stops_not : (v b : ℕ) → is_digit (kind_of b) ≡ false → (b ≡ stop → ⊥) → step (f v) b ≡ breaks
  stops_not v b h n = fd.within v b ∙ not_inside f stop out v b (kind_of b) h n

  module _ (d : ℕ) (s : List ℕ) where
    on : (at : ℕ) (p q : Place) → at < length s → step p (get_or s at 0) ≡ goes q → read_from d (drop at s) p ≡ read_from d (drop (at + 1) s) q
    unfolding proceed
    on at p q h e = read_at d s at p h ∙ ap (past d (drop (at + 1) s)) e

    off : (at : ℕ) (p : Place) → at < length s → step p (get_or s at 0) ≡ breaks → read_from d (drop at s) p ≡ wrong 10 (length s - at)
    unfolding proceed
    off at p h e = read_at d s at p h ∙ ap (past d (drop (at + 1) s)) e ∙ ap (wrong 10) (left_at s at h)

    counted : {at v next v' : ℕ} → Counts s at v next v' → read_from d (drop at s) (f v) ≡ read_from d (drop next s) (f v')
    counted still = refl
    counted (digit {next = next} {v' = v'} {d = x} c l e fits) = counted c ∙ on next (f v') (f (v' * 10 + x)) l (goes_on v' (get_or s next 0) x e fits)

    numbered : {at v next : ℕ} → Whole s at v next → read_from d (drop at s) m ≡ read_from d (drop next s) (f v)
    numbered {at} w = on at m (f w.d) w.here (starts (get_or s at 0) w.d w.is) ∙ counted w.numbered.counts

    -- a number and the byte that ends it
    pub ended : {at v next : ℕ} → Ended s at stop v next → read_from d (drop at s) m ≡ past d (drop next s) (out v)
    ended {v = v} {next = next} e = numbered e.number ∙ read_at d s e.place (f v) e.here
        ∙ ap (past d (drop (e.place + 1) s)) (stops_at v (get_or s e.place 0) e.is)
        ∙ ap (λ (x : ℕ). past d (drop x s) (out v)) (sym e.past)

    at_end_is : (at : ℕ) (p : Place) → length s ≤ at → read_from d (drop at s) p ≡ wrong 10 (length s - length s)
    at_end_is at p h =
        let none : 0 ≡ length s - length s = omega arith in
        read_end d s at p h ∙ ap (wrong 10) none

    no_number : {at place : ℕ} → NoneAt s at place → read_from d (drop at s) m ≡ wrong 10 (length s - place)
    no_number {at} (ends h) = at_end_is at m h
    no_number {at} (other h k) = off at m h (starts_not (get_or s at 0) k)
    no_number {at} (strayed {d = x} {place = place} h e o) =
        on at m (f x) h (starts (get_or s at 0) x e) ∙ counted o.counts
        ∙ off place (f o.v') o.here (goes_astray o.v' (get_or s place 0) o.d o.is o.not)

    pub not_ended : {at place : ℕ} → NotEnded s at stop place → read_from d (drop at s) m ≡ wrong 10 (length s - place)
    not_ended (none h) = no_number h
    not_ended (ends {v = v} {place = place} w h) = numbered w ∙ at_end_is place (f v) h
    not_ended (other {v = v} {place = place} w h n) = numbered w ∙ off place (f v) h (stops_not v (get_or s place 0) (w.numbered.stops h) n)

-- a number is read on from its first digit
pub number_whole : (s : List ℕ) (at d : ℕ) (r : Digits) → at < length s → kind_of (get_or s at 0) ≡ Digit d → NumberSays s (at + 1) d r → NumberAtSays s at r
number_whole s at d (Ok (v, next)) h e n = record { d = d; here = h; is = e; numbered = n; only = number_only (number_slice h e n.counts) }
number_whole s at d (Err place) h e x = strayed h e x

-- the whole first line
pub ended_within : {s : List ℕ} {at stop v next : ℕ} → Ended s at stop v next → next ≤ length s
ended_within e = omega (arith, e.here, e.past)

module _ {s : List ℕ} where
  after_n : {n a : ℕ} (d : ℕ) → Ended s 0 space n a → read_from d s before_n ≡ read_from d (drop a s) (before_w n)
  unfolding proceed
  after_n d p = ended field_n d s p

  after_w : {n a w b : ℕ} (d : ℕ) → Ended s 0 space n a → Ended s a space w b → read_from d s before_n ≡ read_from d (drop b s) (before_initial n w)
  unfolding proceed
  after_w {n} d p q = after_n d p ∙ ended (field_w n) d s q

  pub not_headed_reads : {place : ℕ} (d : ℕ) → NotHeaded s place → read_from d s before_n ≡ wrong 10 (length s - place)
  not_headed_reads d (no_n x) = not_ended field_n d s x
  not_headed_reads d (no_w {n = n} p x) = after_n d p ∙ not_ended (field_w n) d s x
  not_headed_reads d (no_initial {n = n} {w = w} p q x) = after_w d p q ∙ not_ended (field_initial n w) d s x

  none_inside : {at place : ℕ} → NoneAt s at place → place ≤ length s
  none_inside (ends h) = omega arith
  none_inside (other h k) = omega arith
  none_inside (strayed h e o) = omega (arith, o.here)

  not_ended_inside : {at stop place : ℕ} → NotEnded s at stop place → place ≤ length s
  not_ended_inside (none h) = none_inside h
  not_ended_inside (ends w h) = omega arith
  not_ended_inside (other w h n) = omega arith

  pub not_headed_inside : {place : ℕ} → NotHeaded s place → place ≤ length s
  not_headed_inside (no_n x) = not_ended_inside x
  not_headed_inside (no_w p x) = not_ended_inside x
  not_headed_inside (no_initial p q x) = not_ended_inside x

  module _ {n w v next : ℕ} (h : Headed s n w v next) where
    pub headed_reads : (d : ℕ) → read_from d s before_n ≡ whole n w v (scan (drop next s) (between false) [] [] d)
    unfolding proceed
    headed_reads d = after_w d h.n_ends h.w_ends ∙ ended (field_initial n w) d s h.initial_ends
