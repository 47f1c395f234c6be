-- A number that a reader read and that is written again gives the same digits: in an item, a count, the first line.
use Prim.Native.Nat.{ℕ, zero, suc, ◌+◌, ◌≤◌, ◌<◌}
use mathlib.Core.Path.{◌≡◌, sym, ap, subst, ◌∙◌}
use mathlib.Core.List.{List, [], ◌∷◌, ◌++◌, append_assoc}
use native.Mathlib.Omega.{arith}
use lib.ListN.{length, get_or, take}
use lib.Seq.{slice}
use Rattle.listing.specs.Decimal.{decimal}
use Rattle.notation.specs.declared.Mark.{Mark}
use Rattle.notation.specs.declared.Mark.TheVariants.{Ll, Vl, One, All}
use Rattle.notation.specs.declared.Kind.{Kind}
use Rattle.notation.specs.declared.Kind.TheVariants.{Digit, Gap, Marked, Offer, Open, Close, Other}
use Rattle.notation.specs.declared.Entry.{Entry}
use Rattle.notation.specs.declared.Entry.TheVariants.{StartSc}
use Rattle.notation.specs.declared.Start.TheVariants.{Group}
use Rattle.std.specs.Prelude.{Ok, Err}
use Rattle.notation.specs.Readers.{Digits, Beginning}
use Rattle.notation.specs.Bytes.{space, line_feed, kind_of, entry_of}
use Rattle.notation.specs.Grammar.{count_ok, times}
use Rattle.notation.specs.Written as W
use Rattle.notation.specs.Written.{entry_written, count_written, first_written, Standing}
use Rattle.notation.specs.Readers as D
use Rattle.notation.specs.Readers.{Whole, NumberAtSays, Ended, offer_of, Signed, Begins, WrittenAgain, BeginSays}
use Rattle.notation.proofs.KindLaws.{either, byte_of}
use Rattle.notation.proofs.NumberLaws.{slice_more, slice_join}
use Rattle.notation.proofs.HeaderLaws.{ended_within}

-- the entry of a mark
pub marked_again : (m : Mark) (c p : ℕ) → kind_of c ≡ Marked m → decimal p ++ c ∷ [] ≡ entry_written (entry_of m p)
marked_again Ll c p e = ap (λ (x : ℕ). decimal p ++ x ∷ []) (byte_of c e)
marked_again Vl c p e = ap (λ (x : ℕ). decimal p ++ x ∷ []) (byte_of c e)
marked_again One c p e = ap (λ (x : ℕ). decimal p ++ x ∷ []) (byte_of c e)
marked_again All c p e = ap (λ (x : ℕ). decimal p ++ x ∷ []) (byte_of c e)

module _ {s : List ℕ} where
  -- a number and the byte after it
  module _ {at v place : ℕ} (w : Whole s at v place) (h : place < length s) where
    with_byte : slice at (place + 1) s ≡ decimal v ++ get_or s place 0 ∷ []
    with_byte = slice_more s at place (omega (arith, w.numbered.on)) h ∙ ap (λ (x : List ℕ). x ++ get_or s place 0 ∷ []) w.only

    -- a mark, an `s` and its number, a `(`
    pub mark_again : (m : Mark) → kind_of (get_or s place 0) ≡ Marked m → slice at (place + 1) s ≡ entry_written (entry_of m v)
    mark_again m e = with_byte ∙ marked_again m (get_or s place 0) v e

    pub offer_again : {k next : ℕ} → kind_of (get_or s place 0) ≡ Offer → Whole s (place + 1) k next → slice at next s ≡ entry_written (StartSc v k)
    offer_again {k} {next} e x =
        slice_join s at (place + 1) next (omega (arith, w.numbered.on)) (omega (arith, x.numbered.on)) x.numbered.within
        ∙ ap (λ (y : List ℕ). y ++ slice (place + 1) next s) with_byte ∙ ap (λ (y : List ℕ). (decimal v ++ get_or s place 0 ∷ []) ++ y) x.only
        ∙ append_assoc (decimal v) (get_or s place 0 ∷ []) (decimal k) ∙ ap (λ (c : ℕ). decimal v ++ c ∷ decimal k) (byte_of (get_or s place 0) e)

    pub count_again : kind_of (get_or s place 0) ≡ Open → slice at (place + 1) s ≡ count_written v
    count_again e = with_byte ∙ ap (λ (c : ℕ). decimal v ++ c ∷ []) (byte_of (get_or s place 0) e)

    offered_again : (e : kind_of (get_or s place 0) ≡ Offer) (x : Digits) → NumberAtSays s (place + 1) x → WrittenAgain s at (offer_of v x)
    offered_again e (Ok (k, next)) x = offer_again e x
    offered_again e (Err p) x = tt

    same_start : {r r' : Beginning} → r ≡ r' → WrittenAgain s at r' → WrittenAgain s at r
    same_start e q = subst (WrittenAgain s at) (sym e) q

    signed_again : (k : Kind) (r : Beginning) → kind_of (get_or s place 0) ≡ k → Signed s v place k r → WrittenAgain s at r
    signed_again (Digit d) r e q = same_start q tt
    signed_again Gap r e q = same_start q tt
    signed_again (Marked m) r e q = same_start q (mark_again m e)
    signed_again Offer r e q = same_start q.same (offered_again e q.number q.is)
    signed_again Open r e q = same_start q (either (WrittenAgain s at) (count_ok v) (Ok (Group v, place + 1)) (Err place) (λ _. count_again e) (λ _. tt))
    signed_again Close r e q = same_start q tt
    signed_again Other r e q = same_start q tt

  again : {at : ℕ} {r : Beginning} → Begins s at r → WrittenAgain s at r
  again (D.none x) = tt
  again (D.ends w h) = tt
  again (D.signed {k = k} {r = r} w h e q) = signed_again w h k r e q

  pub begin_again : {at : ℕ} {r : Beginning} → Begins s at r → BeginSays s at r
  begin_again b = record { begins = b; again = again b }

  -- the first line
  field_again : {at stop v next : ℕ} → Ended s at stop v next → slice at next s ≡ decimal v ++ stop ∷ []
  field_again {at} {v = v} e =
      ap (λ (x : ℕ). slice at x s) e.past ∙ with_byte e.number e.here ∙ ap (λ (c : ℕ). decimal v ++ c ∷ []) e.is

  past : {at stop v next : ℕ} → Ended s at stop v next → at ≤ next
  past e = omega (arith, e.number.numbered.on, e.past)

  pub first_again : {n w v a b next : ℕ} → Ended s 0 space n a → Ended s a space w b → Ended s b line_feed v next → take next s ≡ first_written n w v
  first_again {n} {w} {v} {a} {b} {next} p q r =
      slice_join s 0 a next (omega arith) (omega (arith, past q, past r)) (ended_within r)
      ∙ ap (λ (x : List ℕ). slice 0 a s ++ x) (slice_join s a b next (past q) (past r) (ended_within r))
      ∙ ap (λ (x : List ℕ). x ++ (slice a b s ++ slice b next s)) (field_again p)
      ∙ ap (λ (x : List ℕ). (decimal n ++ space ∷ []) ++ (x ++ slice b next s)) (field_again q)
      ∙ ap (λ (x : List ℕ). (decimal n ++ space ∷ []) ++ ((decimal w ++ space ∷ []) ++ x)) (field_again r)
      ∙ append_assoc (decimal n) (space ∷ []) ((decimal w ++ space ∷ []) ++ last)
      ∙ ap (λ (x : List ℕ). decimal n ++ space ∷ x) (append_assoc (decimal w) (space ∷ []) last)
    where
      last : List ℕ
      last = decimal v ++ line_feed ∷ []

  -- entries in a row, and turns of them
  pub standing_then : {ps qs : List ℕ} {es fs : List Entry} → Standing s ps es → Standing s qs fs → Standing s (ps ++ qs) (es ++ fs)
  standing_then W.none q = q
  standing_then (W.more next h p) q = W.more next h (standing_then p q)

  pub standing_turns : (n : ℕ) {ps : List ℕ} {es : List Entry} → Standing s ps es → Standing s (times n ps) (times n es)
  unfolding times
  standing_turns zero p = W.none
  standing_turns (suc n) p = standing_then p (standing_turns n p)
