-- Laws of the beginning of an item and of what follows one.
use Prim.Native.Nat.{ℕ, ◌+◌, ◌≤◌, ◌<◌}
use mathlib.Core.Path.{◌≡◌, refl, sym, ap, subst, ◌∙◌}
use mathlib.Core.List.{List, [], ◌∷◌, ◌++◌, append-nil}
use mathlib.Core.Bool.{Bool, true, false, cond, true≢false}
use native.Mathlib.Omega.{arith}
use native.Mathlib.Nat.{lt_irrefl, lt_of_lt_of_le}
use borrow.Author.Tests.{leb-true, leb-false}
use lib.Dec.{leb}
use lib.ListN.{length, get_or, drop}
use Rattle.notation.specs.declared.Mark.{Mark}
use Rattle.notation.specs.declared.Mark.TheVariants.{Ll, Vl, One, All}
use Rattle.notation.specs.declared.Kind.{Kind}
use Rattle.notation.specs.declared.Kind.TheVariants.{Digit, Gap, Marked, Offer, Open, Close, Other}
use Rattle.notation.specs.declared.Entry.{Entry}
use Rattle.notation.specs.declared.Entry.TheVariants.{StartSc}
use Rattle.notation.specs.declared.Start.{Start}
use Rattle.notation.specs.declared.Start.TheVariants.{Group}
use Rattle.notation.specs.declared.Follow.{Follow}
use Rattle.std.specs.Prelude.{Ok, Err}
use Rattle.notation.specs.Readers.{Digits, Beginning, Following}
use Rattle.notation.specs.Bytes.{kind_of, entry_of, is_digit, is_gap}
use Rattle.notation.specs.Grammar.{largest, count_ok}
use Rattle.notation.specs.Scan.{between, num, offer, offer_num, done, bad, move, said, Frame, end, fault, at_end, go, scan}
use Rattle.notation.specs.Readers as D
use Rattle.notation.specs.Readers.{Whole, NoneAt, ends, other, strayed, NumberAtSays, Skipped, offer_of, Signed, Begins, behind_of, Behind, After, Follows}
use Rattle.notation.specs.Stretches.{Goes, Faults, AtItem, Small, Once, Begun, StartSays, Onward, Shuts, Ends, FollowSays}
use Rattle.notation.proofs.PlaceLaws.{places_marked, places_offer, places_open, places_shut, places_end, places_on, places_gap_shut, places_gap_end}
use Rattle.notation.proofs.AgainLaws.{mark_again, offer_again, count_again}
use Rattle.notation.proofs.KindLaws.{unless_zero, between_not, offer_not, offer_move}
use Rattle.notation.proofs.ScanLaws.{left_at, scan_at, scan_end, opening}
use Rattle.notation.proofs.ScanLaws.{then, then_fault, byte, byte_bad, end_fault, gaps, numbered, no_number, gathers_num, gathers_offer, leads_num, leads_offer}

at_end_num : (v : ℕ) (stack : List Frame) (os : List Entry) → at_end (num v) stack os ≡ fault 10 0
unfolding at_end
at_end_num v [] os = refl
at_end_num v (f ∷ stack) os = refl

at_end_s : (v : ℕ) (stack : List Frame) (os : List Entry) → at_end (offer v) stack os ≡ fault 10 0
unfolding at_end
at_end_s v [] os = refl
at_end_s v (f ∷ stack) os = refl

pub at_end_offer : (p v : ℕ) (stack : List Frame) (os : List Entry) → at_end (offer_num p v) stack os ≡ at_end done stack (os ++ StartSc p v ∷ [])
unfolding at_end
at_end_offer p v [] os = refl
at_end_offer p v (f ∷ stack) os = refl

marked_small : (m : Mark) (p : ℕ) → p ≤ largest → Small (entry_of m p)
marked_small Ll p h = h
marked_small Vl p h = h
marked_small One p h = h
marked_small All p h = h

-- a count of a group is from 1 to 255
count_turns : (n : ℕ) → count_ok n ≡ true → 0 < n
count_turns n ok = (unless_zero n (leb n 255) ok).0

count_few : (n : ℕ) → count_ok n ≡ true → n ≤ 255
count_few n ok = leb-true n 255 (unless_zero n (leb n 255) ok).1

module _ {s : List ℕ} where
  -- the number of an `s` ends at a byte that is no digit, or with the text
  offer_ends : (p v at : ℕ) → at ≤ length s → (at < length s → is_digit (kind_of (get_or s at 0)) ≡ false) → Goes s at (offer_num p v) at done (StartSc p v ∷ [])
  unfolding said
  offer_ends p v at h e = record {
    on = omega arith;
    within = h;
    same = λ stack os d.
        elim (leb (length s) at) as (λ t. leb (length s) at ≡ t → scan (drop at s) (offer_num p v) stack os d ≡ scan (drop at s) done stack (os ++ StartSc p v ∷ []) d) [
          | true ↦ (λ t. let l = leb-true _ _ t in scan_end s at (offer_num p v) stack os d l ∙ at_end_offer p v stack os ∙ sym (scan_end s at done stack (os ++ StartSc p v ∷ []) d l))
          | false ↦ (λ t. let l = leb-false _ _ t in let w = offer_move p v (kind_of (get_or s at 0)) (e l) in
              scan_at s at (offer_num p v) stack os d l ∙ simp (w.0, w.1)
              (sym (scan_at s at done stack (os ++ StartSc p v ∷ []) d l ∙ simp append-nil)))
        ] refl;
  }

  -- the number after an `s`, or none
  offer_none : {at place : ℕ} (p : ℕ) → NoneAt s at place → Faults s at (offer p) 10 place
  offer_none {at} p (ends h) = end_fault (offer p) at h (at_end_s p)
  offer_none {at} p (other h k) = byte_bad (offer p) (kind_of (get_or s at 0)) at h refl (offer_not p (kind_of (get_or s at 0)) k)
  offer_none p (strayed h e x) = no_number (leads_offer p) (gathers_offer p) h e x

  -- the first number of an item, or none
  first : {at v next : ℕ} → Whole s at v next → Goes s at (between false) next (num v) []
  first w = numbered (leads_num false) gathers_num w

  first_none : {at place : ℕ} → AtItem s at → NoneAt s at place → Faults s at (between false) 10 place
  first_none a (ends h) = absurd (lt_irrefl _ (lt_of_lt_of_le a.here h))
  first_none {at} a (other h k) = byte_bad (between false) (kind_of (get_or s at 0)) at h refl (between_not (kind_of (get_or s at 0)) k a.item)
  first_none a (strayed h e x) = no_number (leads_num false) gathers_num h e x

  module _ {at v place : ℕ} (w : Whole s at v place) where
    cut_off : length s ≤ place → Faults s at (between false) 10 (length s)
    cut_off h = then_fault (first w) (end_fault (num v) place h (at_end_num v))

    module _ (h : place < length s) where
      no_item : move (num v) (kind_of (get_or s place 0)) ≡ bad → Faults s at (between false) 10 place
      no_item k = then_fault (first w) (byte_bad (num v) (kind_of (get_or s place 0)) place h refl k)

      marked_once : (m : Mark) → kind_of (get_or s place 0) ≡ Marked m → Once s at (between false) (entry_of m v) (place + 1)
      unfolding move said
      marked_once m e = record {
        on = omega (arith, w.numbered.on);
        small = marked_small m v w.numbered.small;
        goes = then (first w) (byte (num v) done (Marked m) (entry_of m v ∷ []) place h e refl refl);
        again = mark_again w h m e;
        places = places_marked w h m e;
      }

      -- the `s`
      to_offer : kind_of (get_or s place 0) ≡ Offer → Goes s at (between false) (place + 1) (offer v) []
      unfolding move said
      to_offer e = then (first w) (byte (num v) (offer v) Offer [] place h e refl refl)

      offer_once : {k next : ℕ} → kind_of (get_or s place 0) ≡ Offer → Whole s (place + 1) k next → Once s at (between false) (StartSc v k) next
      offer_once {k} {next} e x = record {
        on = omega (arith, w.numbered.on, x.numbered.on);
        small = (w.numbered.small, x.numbered.small);
        goes = then (to_offer e) (then (numbered (leads_offer v) (gathers_offer v) x) (offer_ends v k next x.numbered.within x.numbered.stops));
        again = offer_again w h e x;
        places = places_offer w h e x;
      }

      -- the `(`
      opened : kind_of (get_or s place 0) ≡ Open → (stack : List Frame) (os : List Entry) (d : ℕ)
          → scan (drop at s) (between false) stack os d ≡ opening (drop (place + 1) s) v stack os d (count_ok v)
      unfolding move said go
      opened k stack os d = (first w).same stack os d ∙ scan_at s place (num v) stack (os ++ []) d h ∙ simp (k, append-nil)

      group_begun : kind_of (get_or s place 0) ≡ Open → count_ok v ≡ true → Begun s at v (place + 1)
      group_begun k ok = record {
        on = omega (arith, w.numbered.on);
        within = omega arith;
        turns = count_turns v ok;
        few = count_few v ok;
        again = count_again w h k;
        places = places_open w h k;
        same = λ stack os d. opened k stack os d ∙ ap (opening (drop (place + 1) s) v stack os d) ok;
      }

      group_bad : kind_of (get_or s place 0) ≡ Open → count_ok v ≡ false → Faults s at (between false) 10 place
      group_bad k ok = record {
        within = omega arith;
        same = λ stack os d. opened k stack os d ∙ ap (opening (drop (place + 1) s) v stack os d) ok ∙ ap (fault 10) (left_at s place h);
      }

  -- how an item begins
  wrong_start : {at place : ℕ} {r : Beginning} → r ≡ Err place → Faults s at (between false) 10 place → StartSays s at r
  wrong_start {at} q f = subst (StartSays s at) (sym q) f

  offer_start : {at p place : ℕ} → Whole s at p place → place < length s → kind_of (get_or s place 0) ≡ Offer
      → (x : Digits) → NumberAtSays s (place + 1) x → StartSays s at (offer_of p x)
  offer_start w h e (Ok (k, next)) x = offer_once w h e x
  offer_start {p = p} w h e (Err place) x = then_fault (to_offer w h e) (offer_none p x)

  group_start : {at n place : ℕ} → Whole s at n place → place < length s → kind_of (get_or s place 0) ≡ Open → (t : Bool) → count_ok n ≡ t
      → StartSays s at (cond t (Ok (Group n, place + 1)) (Err place))
  group_start w h e true ok = group_begun w h e ok
  group_start w h e false ok = group_bad w h e ok

  sign_start : {at v place : ℕ} (r : Beginning) (k : Kind) → Whole s at v place → (h : place < length s) → kind_of (get_or s place 0) ≡ k → Signed s v place k r → StartSays s at r
  unfolding move
  sign_start r (Digit d) w h e q = absurd (true≢false (sym (ap is_digit e) ∙ w.numbered.stops h))
  sign_start {v = v} r Gap w h e q = wrong_start q (no_item w h (ap (move (num v)) e))
  sign_start {at} r (Marked m) w h e q = subst (StartSays s at) (sym q) (marked_once w h m e)
  sign_start {at} r Offer w h e q = subst (StartSays s at) (sym q.same) (offer_start w h e q.number q.is)
  sign_start {at} {v = v} r Open w h e q = subst (StartSays s at) (sym q) (group_start w h e (count_ok v) refl)
  sign_start {v = v} r Close w h e q = wrong_start q (no_item w h (ap (move (num v)) e))
  sign_start {v = v} r Other w h e q = wrong_start q (no_item w h (ap (move (num v)) e))

  pub started : {at : ℕ} {r : Beginning} → AtItem s at → Begins s at r → StartSays s at r
  started a (D.none x) = first_none a x
  started a (D.ends w h) = cut_off w h
  started a (D.signed {k = k} {r = r} w h e q) = sign_start r k w h e q

  -- what follows an item, directly
  follow_end : (at : ℕ) → length s ≤ at → Ends s at
  unfolding at_end
  follow_end at h = record { same = λ os d. scan_end s at done [] os d h; places = places_end at h }

  follow_shut : (at : ℕ) → at < length s → kind_of (get_or s at 0) ≡ Close → Shuts s at (at + 1)
  unfolding move said go
  follow_shut at h e = record { on = omega arith; within = omega arith; same = λ os d. scan_at s at done [] os d h ∙ simp (e, append-nil); places = places_shut at h e }

  -- and behind gaps
  module _ {at next : ℕ} (h : at < length s) (e : kind_of (get_or s at 0) ≡ Gap) (k : Skipped s (at + 1) next) where
    gapped : Goes s at done next (between true) []
    unfolding move said
    gapped = then (byte done (between true) Gap [] at h e refl refl) (gaps true (omega arith) k.gaps)

    gap_end : length s ≤ next → Ends s at
    unfolding at_end
    gap_end l = record { same = λ os d. gapped.same [] os d ∙ scan_end s next (between true) [] (os ++ []) d l ∙ ap end (append-nil os); places = places_gap_end h e k l }

    gap_shut : next < length s → kind_of (get_or s next 0) ≡ Close → Shuts s at (next + 1)
    unfolding move said go
    gap_shut l c = record {
      on = omega (arith, k.on);
      within = omega arith;
      same = λ os d. gapped.same [] os d ∙ scan_at s next (between true) [] (os ++ []) d l ∙ simp (c, append-nil);
      places = places_gap_shut h e k l c;
    }

    gap_item : (d : ℕ) → next < length s → kind_of (get_or s next 0) ≡ Digit d → Onward s at next
    unfolding move said go
    gap_item d l c = record {
      on = omega (arith, k.on);
      item = record { here = l; item = ap is_gap c };
      places = places_on h e k;
      goes = then gapped (record {
        on = omega arith;
        within = omega arith;
        same = λ stack os r.
            scan_at s next (between true) stack os r l ∙ simp (c, append-nil)
            (sym (scan_at s next (between false) stack os r l ∙ simp (c, append-nil)));
      });
    }

    gap_stray : next < length s → move (between true) (kind_of (get_or s next 0)) ≡ bad → Faults s at done 10 next
    gap_stray l c = then_fault gapped (byte_bad (between true) (kind_of (get_or s next 0)) next l refl c)

    gap_sign : (c : Kind) → next < length s → kind_of (get_or s next 0) ≡ c → FollowSays s at (behind_of next c)
    unfolding move
    gap_sign (Digit d) l q = gap_item d l q
    gap_sign Gap l q = absurd (true≢false (sym (ap is_gap q) ∙ k.stops l))
    gap_sign (Marked m) l q = gap_stray l (ap (move (between true)) q)
    gap_sign Offer l q = gap_stray l (ap (move (between true)) q)
    gap_sign Open l q = gap_stray l (ap (move (between true)) q)
    gap_sign Close l q = gap_shut l q
    gap_sign Other l q = gap_stray l (ap (move (between true)) q)

    gap_follow : {r : Following} → Behind s next r → FollowSays s at r
    gap_follow (D.ends l) = gap_end l
    gap_follow (D.byte {k = c} l q x) = subst (FollowSays s at) (sym x) (gap_sign c l q)

module _ (s : List ℕ) where
  stray_follow : (at : ℕ) {r : Following} → r ≡ Err at → at < length s → move done (kind_of (get_or s at 0)) ≡ bad → FollowSays s at r
  stray_follow at q h e = subst (FollowSays s at) (sym q) (byte_bad done (kind_of (get_or s at 0)) at h refl e)

  byte_follow : {at : ℕ} (r : Following) (k : Kind) → at < length s → kind_of (get_or s at 0) ≡ k → After s at k r → FollowSays s at r
  unfolding move
  byte_follow r (Digit d) h e q = stray_follow _ q h (ap (move done) e)
  byte_follow r Gap h e q = gap_follow h e q.skipped q.behind
  byte_follow r (Marked m) h e q = stray_follow _ q h (ap (move done) e)
  byte_follow r Offer h e q = stray_follow _ q h (ap (move done) e)
  byte_follow r Open h e q = stray_follow _ q h (ap (move done) e)
  byte_follow {at} r Close h e q = subst (FollowSays s at) (sym q) (follow_shut at h e)
  byte_follow r Other h e q = stray_follow _ q h (ap (move done) e)

pub followed : {s : List ℕ} {at : ℕ} {r : Following} → Follows s at r → FollowSays s at r
followed {at = at} (D.ends h) = follow_end at h
followed {s} {r = r} (D.byte {k = k} h e q) = byte_follow s r k h e q

-- what an item is that begins, and what follows it, where the reply is known
pub begun_as : {s : List ℕ} {at next : ℕ} {r r' : Start} → AtItem s at → Begins s at (Ok (r, next)) → r ≡ r' → StartSays s at (Ok (r', next))
begun_as {s} {at} {next} a b e = subst (λ (x : Start). StartSays s at (Ok (x, next))) e (started a b)

pub follows_as : {s : List ℕ} {at next : ℕ} {r r' : Follow} → Follows s at (Ok (r, next)) → r ≡ r' → FollowSays s at (Ok (r', next))
follows_as {s} {at} {next} f e = subst (λ (x : Follow). FollowSays s at (Ok (x, next))) e (followed f)
