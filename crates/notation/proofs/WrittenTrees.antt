-- Texts of the grammar written again: the same bytes, and each entry's item at its place.
use Prim.Native.Nat.{ℕ, ◌+◌}
use mathlib.Core.Path.{◌≡◌, refl, sym, ap, ◌∙◌}
use mathlib.Core.List.{List, [], ◌∷◌, ◌++◌, append_assoc, append-nil}
use lib.ListN.{length, length-append, take, drop}
use lib.Seq.{take_at, drop_at}
use Rattle.listing.specs.Quoted.{byte}
use Rattle.listing.specs.Decimal.{decimal}
use Rattle.notation.specs.declared.Entry.{Entry}
use Rattle.notation.specs.declared.Entry.TheVariants.{StartSc}
use Rattle.notation.specs.Bytes.{entry_of}
use Rattle.notation.specs.Grammar as G
use Rattle.notation.specs.Grammar.{Item, Items, Lead, Schedule, FirstLine, Text}
use Rattle.notation.specs.Grammar.{item_bytes, items_bytes, lead_bytes, schedule_bytes, first_bytes, bytes}
use Rattle.notation.specs.Grammar.{item_says, items_say, lead_says, schedule_says, says}
use Rattle.notation.specs.Grammar.{item_places, items_places, lead_places, schedule_places, places}
use Rattle.notation.specs.Written as W
use Rattle.notation.specs.Written.{entry_written, first_written, item_written, items_written, lead_written, schedule_written, written, Standing}
use Rattle.notation.proofs.KindLaws.{byte_of}
use Rattle.notation.proofs.NumberLaws.{number_only}
use Rattle.notation.proofs.AgainLaws.{marked_again, standing_then, standing_turns}

-- the same bytes
pub first_line : (f : FirstLine) → first_bytes f ≡ first_written f.n f.w f.initial
unfolding first_bytes
first_line f =
    let n = number_only f.n_number in let w = number_only f.w_number in let v = number_only f.initial_number in cc

-- a number and a sign
signed : {ds : List ℕ} {v : ℕ} (c k : ℕ) (rest : List ℕ) → G.Number ds v → c ≡ k → ds ++ c ∷ rest ≡ decimal v ++ k ∷ rest
signed c k rest n e = let d = number_only n in cc

mutual
  unfolding item_bytes item_written

  pub item_bytes_is : {d : ℕ} (i : Item d) → item_bytes i ≡ item_written i
  item_bytes_is (G.marked ds p c m n k) = ap (λ (x : List ℕ). x ++ c ∷ []) (number_only n) ∙ marked_again m c p k.is
  item_bytes_is (G.offer ds p c ks v n k w) = signed c (byte "s") ks n (byte_of c k.is) ∙ ap (λ (x : List ℕ). decimal p ++ byte "s" ∷ x) (number_only w)
  item_bytes_is (G.group ds n a k ok o i g z t u) =
      signed a (byte "(") (items_bytes i ++ (g ++ z ∷ [])) k (byte_of a o.is)
      ∙ ap (λ (x : List ℕ). decimal n ++ byte "(" ∷ (x ++ (g ++ z ∷ []))) (items_bytes_is i)
      ∙ ap (λ (x : ℕ). decimal n ++ byte "(" ∷ (items_written i ++ (g ++ x ∷ []))) (byte_of z u.is)
      ∙ sym (append_assoc (decimal n) (byte "(" ∷ []) (items_written i ++ (g ++ byte ")" ∷ [])))

  pub items_bytes_is : {d : ℕ} (i : Items d) → items_bytes i ≡ items_written i
  items_bytes_is (G.item l i) = ap (λ (x : List ℕ). x ++ item_bytes i) (lead_bytes_is l) ∙ ap (λ (x : List ℕ). lead_written l ++ x) (item_bytes_is i)

  lead_bytes_is : {d : ℕ} (l : Lead d) → lead_bytes l ≡ lead_written l
  lead_bytes_is (G.fresh g t) = refl
  lead_bytes_is (G.apart i c g k t) = ap (λ (x : List ℕ). x ++ c ∷ g) (items_bytes_is i)

schedule_bytes_lem : {d : ℕ} (t : Schedule d) → schedule_bytes t ≡ schedule_written t
unfolding schedule_bytes schedule_written
schedule_bytes_lem (G.empty g t) = refl
schedule_bytes_lem (G.items i g t) = ap (λ (x : List ℕ). x ++ g) (items_bytes_is i)

pub text_bytes : {d : ℕ} (t : Text d) → bytes t ≡ written t
unfolding bytes written
text_bytes t =
    ap (λ (x : List ℕ). x ++ schedule_bytes t.schedule) (first_line t.first)
    ∙ ap (λ (x : List ℕ). first_written t.first.n t.first.w t.first.initial ++ x) (schedule_bytes_lem t.schedule)

-- bytes b stand in s at a place: what stands before them, and after
record Here (s : List ℕ) (at : ℕ) (b : List ℕ) : Type 0 where
  pre : List ℕ
  rest : List ℕ
  text : s ≡ pre ++ (b ++ rest)
  before : length pre ≡ at

-- each entry at its place
module _ {s : List ℕ} where
  -- the first and the second part of what stands there
  first : {at : ℕ} (a b : List ℕ) → Here s at (a ++ b) → Here s at a
  first a b h = record { pre = h.pre; rest = b ++ h.rest; text = h.text ∙ ap (λ (x : List ℕ). h.pre ++ x) (append_assoc a b h.rest); before = h.before }

  second : {at : ℕ} (a b : List ℕ) → Here s at (a ++ b) → Here s (at + length a) b
  second a b h = record {
    pre = h.pre ++ a;
    rest = h.rest;
    text = h.text ∙ ap (λ (x : List ℕ). h.pre ++ x) (append_assoc a b h.rest) ∙ sym (append_assoc h.pre a (b ++ h.rest));
    before = length-append h.pre a ∙ ap (λ (x : ℕ). x + length a) h.before;
  }

  once : {at : ℕ} {b : List ℕ} (e : Entry) → Here s at b → b ≡ entry_written e → Standing s (at ∷ []) (e ∷ [])
  once {at} {b} e h q =
      let end = length (h.pre ++ b) in
      let upto : take end s ≡ h.pre ++ b = ap (take end) (h.text ∙ sym (append_assoc h.pre b h.rest)) ∙ take_at (h.pre ++ b) h.rest end refl in
      W.more end (ap (drop at) upto ∙ drop_at h.pre b at h.before ∙ q) W.none

  mutual
    unfolding item_bytes item_says item_places item_written

    item_stands : {d at : ℕ} (i : Item d) → Here s at (item_bytes i) → Standing s (item_places at i) (item_says i)
    item_stands {d} (G.marked ds p c m n k) h = once (entry_of m p) h (item_bytes_is {d = d} (G.marked ds p c m n k))
    item_stands {d} (G.offer ds p c ks v n k w) h = once (StartSc p v) h (item_bytes_is {d = d} (G.offer ds p c ks v n k w))
    item_stands {at = at} (G.group ds n a k ok o i g z t u) h =
        let rest = items_bytes i ++ (g ++ z ∷ []) in
        standing_turns n (items_stand i (first (items_bytes i) (g ++ z ∷ []) (second (a ∷ []) rest (second ds (a ∷ rest) h))))

    items_stand : {d at : ℕ} (i : Items d) → Here s at (items_bytes i) → Standing s (items_places at i) (items_say i)
    items_stand (G.item l i) h = standing_then (lead_stands l (first (lead_bytes l) (item_bytes i) h)) (item_stands i (second (lead_bytes l) (item_bytes i) h))

    lead_stands : {d at : ℕ} (l : Lead d) → Here s at (lead_bytes l) → Standing s (lead_places at l) (lead_says l)
    lead_stands (G.fresh g t) h = W.none
    lead_stands (G.apart i c g k t) h = items_stand i (first (items_bytes i) (c ∷ g) h)

  schedule_stands : {d at : ℕ} (t : Schedule d) → Here s at (schedule_bytes t) → Standing s (schedule_places at t) (schedule_says t)
  unfolding schedule_bytes schedule_says schedule_places
  schedule_stands (G.empty g t) h = W.none
  schedule_stands (G.items i g t) h = items_stand i (first (items_bytes i) g h)

pub text_stands : {d : ℕ} (t : Text d) → Standing (bytes t) (places t) (says t).entries
unfolding bytes places says
text_stands t =
    let first = first_bytes t.first in
    schedule_stands t.schedule
    (record { pre = first; rest = []; text = ap (λ (x : List ℕ). first ++ x) (sym (append-nil (schedule_bytes t.schedule))); before = refl })
