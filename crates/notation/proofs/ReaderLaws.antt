-- Laws of the byte at which a reader stands.
use Prim.Native.Nat.{ℕ, ◌+◌, ◌*◌, ◌≤◌, ◌<◌}
use mathlib.Core.Path.{◌≡◌, refl, sym, ap, subst, ◌∙◌}
use mathlib.Core.List.{List}
use mathlib.Core.Bool.{Bool, true, false, true≢false}
use native.Mathlib.Omega.{arith}
use borrow.Author.Tests.{leb-true, leb-false}
use lib.Dec.{leb}
use lib.ListN.{length, get_or}
use Rattle.std.specs.Prelude.{None, Ok, Err}
use Rattle.notation.specs.declared.Kind.{Kind}
use Rattle.notation.specs.declared.Kind.TheVariants.{Digit, Gap, Close, Marked, Offer, Open}
use Rattle.notation.specs.declared.Mark.{Mark}
use Rattle.notation.specs.declared.Follow.TheVariants.{Item, Shut, End}
use Rattle.notation.specs.Bytes.{kind_of, is_gap}
use Rattle.notation.specs.Grammar.{digit_ok, count_ok}
use Rattle.notation.specs.Readers as D
use Rattle.notation.specs.Readers.{Counts, NotHeaded, Beginning, Following, NoneAt, ends, other, Whole, Ended, NotEnded}
use Rattle.notation.specs.Readers.{Signed, Begins, BeginSays, Gapped, Skipped, behind_of, Behind, BehindGaps, After, Follows}
use Rattle.notation.specs.Cursor.{DigitAt}
use Rattle.notation.proofs.KindLaws.{stray, gap_stray, unsigned, digit_small, ok_small}
use Rattle.notation.proofs.NumberLaws.{below_or}
use Rattle.notation.proofs.AgainLaws.{begin_again, first_again}

-- in the same text, and where its kind is known
pub kind_in : {s s' : List ℕ} {at : ℕ} {k k' : Kind} → s' ≡ s → (at < length s') × (kind_of (get_or s' at 0) ≡ k) → k ≡ k'
    → (at < length s) × (kind_of (get_or s at 0) ≡ k')
kind_in {at = at} {k' = k'} e h q = subst (λ (x : List ℕ). (at < length x) × (kind_of (get_or x at 0) ≡ k')) e (h.0, h.1 ∙ q)

-- no number begins there
pub no_number : (s : List ℕ) (at : ℕ) → at ≤ length s → DigitAt s at None → NoneAt s at at
no_number s at i h = pick (leb (length s) at) refl
  where
    pick : (t : Bool) → leb (length s) at ≡ t → NoneAt s at at
    pick true e =
        let l = leb-true (length s) at e in
        subst (λ (x : ℕ). NoneAt s at x) (omega (arith, l, i)) (ends l)
    pick false e = let l = leb-false (length s) at e in other l (h l)

module _ {s s' : List ℕ} {at v place : ℕ} (e : s' ≡ s) (w : Whole s at v place) where
  -- the text ends behind a number
  at_end : length s' ≤ place → (length s ≤ place) × (length s ≡ place)
  at_end l = (omega (arith, l, ap length e), omega (arith, l, ap length e, w.numbered.within))

  pub field_cut : {stop : ℕ} → length s' ≤ place → NotEnded s at stop place
  field_cut {stop} l = let q = at_end l in subst (λ (x : ℕ). NotEnded s at stop x) q.1 (D.ends w q.0)

  pub item_cut : length s' ≤ place → BeginSays s at (Err place)
  item_cut l = let q = at_end l in begin_again (subst (λ (x : ℕ). Begins s at (Err x)) q.1 (D.ends w q.0))

  -- another byte than the one that ends a number
  pub field_other : {stop : ℕ} → place < length s' → (get_or s' place 0 ≡ stop → ⊥) → NotEnded s at stop place
  field_other l n = D.other w (omega (arith, l, ap length e)) (λ q. n (ap (λ (x : List ℕ). get_or x place 0) e ∙ q))

  -- the byte behind an item's first number
  pub item_signed : {k k' : Kind} {r : Beginning} → (place < length s') × (kind_of (get_or s' place 0) ≡ k) → k ≡ k' → Signed s' v place k' r
      → BeginSays s at r
  item_signed {k' = k'} {r = r} h q x =
      let y = kind_in e h q in
      begin_again (D.signed w y.0 y.1 (subst (λ (z : List ℕ). Signed z v place k' r) e x))

  -- and what is in the way there
  pub item_unoffered : {p : ℕ} → (place < length s') × (kind_of (get_or s' place 0) ≡ Offer) → NoneAt s' (place + 1) p → BeginSays s at (Err p)
  item_unoffered {p} h x = item_signed h refl (record { number = Err p; is = x; same = refl })

  pub item_uncounted : (place < length s') × (kind_of (get_or s' place 0) ≡ Open) → count_ok v ≡ false → BeginSays s at (Err place)
  item_uncounted h many = item_signed h refl (simp many)

  pub item_unsigned : {k : Kind} → (place < length s') × (kind_of (get_or s' place 0) ≡ k) → ((m : Mark) → k ≡ Marked m → ⊥) → (k ≡ Offer → ⊥) → (k ≡ Open → ⊥)
      → BeginSays s at (Err place)
  item_unsigned {k} h m o p = item_signed h refl (unsigned _ _ _ k m o p)

pub item_none : (s : List ℕ) (at place : ℕ) → NoneAt s at place → BeginSays s at (Err place)
item_none s at place n = begin_again (D.none n)

pub field_none : (s : List ℕ) (at stop place : ℕ) → NoneAt s at place → NotEnded s at stop place
field_none s at stop place n = D.none n

-- the digits and the gaps passed
pub digits_none : (s : List ℕ) (at v : ℕ) → Counts s at v at v
digits_none s at v = D.still

pub digits_more : {s s' : List ℕ} {at v next v' d : ℕ} → Counts s at v next v' → s' ≡ s → (next < length s') × (kind_of (get_or s' next 0) ≡ Digit d)
    → digit_ok v' d ≡ true → Counts s at v (next + 1) (v' * 10 + d)
digits_more c e h ok = let k = kind_in e h refl in D.digit c k.0 k.1 ok

pub gaps_none : (s : List ℕ) (at : ℕ) → Gapped s at at
gaps_none s at = D.stay

pub gaps_more : {s s' : List ℕ} {at next : ℕ} → Gapped s at next → s' ≡ s → (next < length s') × (kind_of (get_or s' next 0) ≡ Gap) → Gapped s at (next + 1)
gaps_more g e h = let k = kind_in e h refl in D.gap g k.0 k.1

record OneGap (s : List ℕ) (at next : ℕ) : Type 0 where
  here : at < length s
  is : kind_of (get_or s at 0) ≡ Gap
  more : Gapped s (at + 1) next

first_gap : {s : List ℕ} {at next : ℕ} → Gapped s at next → at < next → OneGap s at next
first_gap D.stay l = absurd (omega arith)
first_gap {s} {at} (D.gap {next = m} g l e) h =
    below_or _ at m h
    (λ r. let x = first_gap g r in record { here = x.here; is = x.is; more = D.gap x.more l e })
    (λ r. record {
      here = omega arith;
      is = ap (λ (x : ℕ). kind_of (get_or s x 0)) r ∙ e;
      more = subst (λ (x : ℕ). Gapped s (at + 1) (x + 1)) r D.stay;
    })

-- what follows an item: its end is the text's, or a byte stands there; or gaps stand there first
module _ {s s' : List ℕ} {at next : ℕ} (e : s' ≡ s) (k : Skipped s at next) where
  past : {r : Following} → at < next → OneGap s at next → Behind s next r → BehindGaps s (at + 1) r
  past l x b = record { next = next; skipped = record { gaps = x.more; on = omega arith; within = k.within; stops = k.stops }; behind = b }

  -- a byte right after the item, or behind gaps
  byte_after : {c : Kind} {r : Following} → (next < length s) × (kind_of (get_or s next 0) ≡ c) → (at ≡ next → After s at c r) → (at < next → r ≡ behind_of next c)
      → Follows s at r
  byte_after {c} {r} y f g =
      below_or _ at next (omega (arith, k.on))
      (λ l. let x = first_gap k.gaps l in D.byte x.here x.is (past l x (D.byte y.0 y.1 (g l))))
      (λ p. D.byte (omega (arith, y.0)) (ap (λ (x : ℕ). kind_of (get_or s x 0)) p ∙ y.1) (f p))

  pub follow_end : length s' ≤ next → Follows s at (Ok (End, next))
  follow_end l =
      let h : length s ≤ next = omega (arith, l, ap length e) in
      below_or _ at next (omega (arith, k.on))
      (λ r. let x = first_gap k.gaps r in D.byte x.here x.is (past r x (D.ends h)))
      (λ q. subst (λ (x : ℕ). Follows s at (Ok (End, x))) q (D.ends (omega arith)))

  module _ {c : Kind} (h : (next < length s') × (kind_of (get_or s' next 0) ≡ c)) where
    pub follow_shut : c ≡ Close → Follows s at (Ok (Shut, next + 1))
    follow_shut q = byte_after (kind_in e h q) (λ p. ap (λ (x : ℕ). Ok (Shut, x + 1)) (sym p)) (λ l. refl)

    pub follow_item : {d : ℕ} → c ≡ Digit d → (next ≡ at → ⊥) → Follows s at (Ok (Item, next))
    follow_item q l = byte_after (kind_in e h q) (λ p. absurd (l (sym p))) (λ m. refl)

    pub follow_by : {d : ℕ} → c ≡ Digit d → next ≡ at → Follows s at (Err next)
    follow_by q l = byte_after (kind_in e h q) (λ p. ap Err l) (λ m. absurd (omega arith))

    pub follow_stray : ((d : ℕ) → c ≡ Digit d → ⊥) → (c ≡ Close → ⊥) → Follows s at (Err next)
    follow_stray n m =
        let y = kind_in e h refl in
        let g : c ≡ Gap → ⊥ = λ q. true≢false (sym (ap is_gap (y.1 ∙ q)) ∙ k.stops y.0) in
        byte_after y (λ p. subst (λ (x : ℕ). After s at c (Err x)) p (stray s at c g m)) (λ l. gap_stray next c n m)

-- a number of the first line, in the same text and from the same place
module _ {s s' : List ℕ} {at at' stop : ℕ} (e : s' ≡ s) (p : at' ≡ at) where
  pub ended_in : {v next : ℕ} → Ended s' at' stop v next → Ended s at stop v next
  ended_in {v} {next} h = subst (λ (x : List ℕ). Ended x at stop v next) e (subst (λ (x : ℕ). Ended s' x stop v next) p h)

  pub not_ended_in : {next : ℕ} → NotEnded s' at' stop next → NotEnded s at stop next
  not_ended_in {next} h = subst (λ (x : List ℕ). NotEnded x at stop next) e (subst (λ (x : ℕ). NotEnded s' x stop next) p h)

-- the first line is broken at one of its three numbers
pub no_first : {s : List ℕ} {at place : ℕ} → at ≡ 0 → NotEnded s at 32 place → NotHeaded s place
no_first p h = D.no_n (not_ended_in refl p h)

module _ {s s' : List ℕ} {at second n : ℕ} (e : s' ≡ s) (p : at ≡ 0) (first : Ended s at 32 n second) where
  pub no_second : {place : ℕ} → NotEnded s' second 32 place → NotHeaded s place
  no_second h = D.no_w (ended_in refl p first) (not_ended_in e refl h)

  pub no_third : {s'' : List ℕ} {w third place : ℕ} → Ended s' second 32 w third → s'' ≡ s' → NotEnded s'' third 10 place → NotHeaded s place
  no_third x q h = D.no_initial (ended_in refl p first) (ended_in e refl x) (not_ended_in (q ∙ e) refl h)

-- what the functions of a reader rest on
pub ruleset digits_laws = (digit_small, ok_small, digits_none, digits_more)

pub ruleset begin_laws = (item_none, item_cut, item_unoffered, item_uncounted, item_unsigned)

pub ruleset after_laws = (follow_end, follow_shut, follow_item, follow_by, follow_stray)

pub ruleset header_laws = (first_again, ended_in, no_first, no_second, no_third)
