-- Laws of groups: a reading under an open group, turns, items in a row, and the whole text.
use Prim.Native.Nat.{ℕ, zero, suc, ◌-◌, ◌≤◌, ◌<◌}
use mathlib.Core.Path.{◌≡◌, refl, sym, ap, ◌∙◌}
use mathlib.Core.List.{List, [], ◌∷◌, ◌++◌, append_assoc, append-nil}
use mathlib.Core.Bool.{true, false}
use native.Mathlib.Omega.{arith}
use lib.ListN.{length, drop}
use Rattle.notation.specs.declared.Entry.{Entry}
use Rattle.notation.specs.Bytes.{kind_of}
use Rattle.notation.specs.Grammar.{count_ok, times, deepest}
use Rattle.notation.specs.Scan.{Mode, between, num, offer, offer_num, done, Move, to, enter, leave, bad, move, said, Frame, Verdict, end, shut, fault, at_end, entered, go, scan}
use Rattle.notation.specs.FirstLine.{whole, read}
use Rattle.notation.specs.Readings.{right, wrong}
use Rattle.notation.specs.Readers.{Skipped, Headed, NotHeaded}
use Rattle.notation.specs.Stretches.{Faults, Begun, Once, Onward, Ends, Shuts}
use Rattle.notation.specs.Groups.{ItemRead, ItemBroken, ItemsEnded, ItemsClosed, ItemsBroken, Sofar}
use Rattle.notation.proofs.ScanLaws.{opening, scan_end, gaps}
use Rattle.notation.proofs.HeaderLaws.{headed_reads, not_headed_reads}

-- what a reading under one more open group comes to
pub under : Frame → List Frame → Verdict → Verdict
under f base (end os) = fault 10 0
under f base (shut os l) = scan l done base (f.before ++ times f.count os) f.room
under f base (fault k left) = fault k left

end_under : (m : Mode) (stack : List Frame) (os : List Entry) (f : Frame) (base : List Frame) → at_end m (stack ++ f ∷ base) os ≡ under f base (at_end m stack os)
unfolding at_end under
end_under (between e) [] os f base = refl
end_under (num v) [] os f base = refl
end_under (offer p) [] os f base = refl
end_under (offer_num p v) [] os f base = refl
end_under done [] os f base = refl
end_under m (g ∷ stack) os f base = refl

go_under : (l : List ℕ) (mv : Move) (stack : List Frame) (os : List Entry) (d : ℕ) (f : Frame) (base : List Frame)
    → ((m : Mode) (stack : List Frame) (os : List Entry) (d : ℕ) → scan l m (stack ++ f ∷ base) os d ≡ under f base (scan l m stack os d))
    → go (scan l) l mv (stack ++ f ∷ base) os d ≡ under f base (go (scan l) l mv stack os d)
unfolding go under
go_under l (to m) stack os d f base ih = ih m stack os d
go_under l (enter n) stack os zero f base ih =
    elim (count_ok n) as (λ t. opening l n (stack ++ f ∷ base) os zero t ≡ under f base (opening l n stack os zero t)) [ true ↦ refl | false ↦ refl ]
go_under l (enter n) stack os (suc r) f base ih =
    elim (count_ok n) as (λ t. opening l n (stack ++ f ∷ base) os (suc r) t ≡ under f base (opening l n stack os (suc r) t))
    [ true ↦ ih (between false) (record { count = n; before = os; room = suc r } ∷ stack) [] r | false ↦ refl ]
go_under l leave [] os d f base ih = refl
go_under l leave (g ∷ stack) os d f base ih = ih done stack (g.before ++ times g.count os) g.room
go_under l bad stack os d f base ih = refl

pub scan_under : (l : List ℕ) (m : Mode) (stack : List Frame) (os : List Entry) (d : ℕ) (f : Frame) (base : List Frame)
    → scan l m (stack ++ f ∷ base) os d ≡ under f base (scan l m stack os d)
unfolding scan
scan_under [] m stack os d f base = end_under m stack os f base
scan_under (b ∷ l) m stack os d f base = go_under l (move m (kind_of b)) stack (os ++ said m (kind_of b)) d f base (λ m stack os d. scan_under l m stack os d f base)

-- one turn more
pub times_snoc : {A : Type 0} (n : ℕ) (es : List A) → times (suc n) es ≡ times n es ++ es
unfolding times
times_snoc zero es = append-nil es
times_snoc {A} (suc n) es = ap (λ (x : List A). es ++ x) (times_snoc n es) ∙ sym (append_assoc es (times n es) es)

entered_pos : (k : Mode → List Frame → List Entry → ℕ → Verdict) (left n : ℕ) (stack : List Frame) (os : List Entry) (d : ℕ) → (d ≡ 0 → ⊥)
    → entered k left n stack os d ≡ k (between false) (record { count = n; before = os; room = d } ∷ stack) [] (d - 1)
entered_pos k left n stack os zero h = absurd (h refl)
entered_pos k left n stack os (suc r) h = ap (λ (x : ℕ). k (between false) (record { count = n; before = os; room = suc r } ∷ stack) [] x) one
  where
    one : r ≡ suc r - 1
    one = omega arith

-- a group in the reading
grouped : {s : List ℕ} {at n body : ℕ} (d : ℕ) → Begun s at n body → (d ≡ 0 → ⊥) → (stack : List Frame) (os : List Entry)
    → scan (drop at s) (between false) stack os d ≡ under (record { count = n; before = os; room = d }) stack (scan (drop body s) (between false) [] [] (d - 1))
grouped {s} {n = n} {body = body} d b h stack os =
    let l = drop body s in
    let f : Frame = record { count = n; before = os; room = d } in
    b.same stack os d ∙ entered_pos (scan l) (suc (length l)) n stack os d h ∙ scan_under l (between false) [] [] (d - 1) f stack

-- an item
pub item_once : {s : List ℕ} {at next : ℕ} {e : Entry} (d : ℕ) → Once s at (between false) e next → ItemRead s at d next (e ∷ [])
item_once d o = record { on = o.on; within = o.goes.within; same = λ stack os. o.goes.same stack os d }

pub item_wrong : {s : List ℕ} {at k place : ℕ} (d : ℕ) → Faults s at (between false) k place → ItemBroken s at d k place
item_wrong d f = record { within = f.within; same = λ stack os. f.same stack os d }

module _ {s : List ℕ} {at n body : ℕ} (d : ℕ) (b : Begun s at n body) where
  pub item_ended : {es : List Entry} → (d ≡ 0 → ⊥) → ItemsEnded s body (d - 1) es → ItemBroken s at d 10 (length s)
  unfolding under
  item_ended h i =
      let none : 0 ≡ length s - length s = omega arith in
      record { within = omega arith; same = λ stack os. grouped d b h stack os ∙ ap (under _ stack) i.same ∙ ap (fault 10) none }

  pub item_broken : {k place : ℕ} → (d ≡ 0 → ⊥) → ItemsBroken s body (d - 1) k place → ItemBroken s at d k place
  unfolding under
  item_broken h i = record { within = i.within; same = λ stack os. grouped d b h stack os ∙ ap (under _ stack) i.same }

  -- a group says what its items say, as many times as its count
  pub item_closed : {next : ℕ} {es : List Entry} → (d ≡ 0 → ⊥) → ItemsClosed s body (d - 1) next es → ItemRead s at d next (times n es)
  unfolding under
  item_closed h i = record { on = omega (arith, b.on, i.on); within = i.within; same = λ stack os. grouped d b h stack os ∙ ap (under _ stack) i.same }

-- items in a row
pub none_yet : {s : List ℕ} {at next : ℕ} (d : ℕ) → Skipped s at next → next < length s → Sofar s at d next []
none_yet d k l = record { on = k.on; item = record { here = l; item = k.stops l }; same = (gaps false (omega (arith, k.on)) k.gaps).same [] [] d }

pub no_items : {s : List ℕ} {at next : ℕ} (d : ℕ) → Skipped s at next → length s ≤ next → ItemsEnded s at d []
unfolding at_end
no_items {s} {at} {next} d k l = record { same = (gaps false (omega (arith, k.on, k.within)) k.gaps).same [] [] d ∙ scan_end s next (between false) [] [] d l }

module _ {s : List ℕ} {at d next : ℕ} {es : List Entry} (f : Sofar s at d next es) where
  module _ {next' : ℕ} {es' : List Entry} (i : ItemRead s next d next' es') where
    one_more : scan (drop at s) (between false) [] [] d ≡ scan (drop next' s) done [] (es ++ es') d
    one_more = f.same ∙ i.same [] es

    pub items_end : Ends s next' → ItemsEnded s at d (es ++ es')
    items_end e = record { same = one_more ∙ e.same (es ++ es') d }

    pub items_shut : {past : ℕ} → Shuts s next' past → ItemsClosed s at d past (es ++ es')
    items_shut e = record { on = omega (arith, f.on, i.on, e.on); within = e.within; same = one_more ∙ e.same (es ++ es') d }

    pub items_stray : {place : ℕ} → Faults s next' done 10 place → ItemsBroken s at d 10 place
    items_stray e = record { within = e.within; same = one_more ∙ e.same [] (es ++ es') d }

    pub items_on : {place : ℕ} → Onward s next' place → Sofar s at d place (es ++ es')
    items_on {place} e = record {
      on = omega (arith, f.on, i.on, e.on);
      item = e.item;
      same = one_more ∙ e.goes.same [] (es ++ es') d ∙ ap (λ (x : List Entry). scan (drop place s) (between false) [] x d) (append-nil (es ++ es'));
    }

-- the whole text: its first line and the items behind it
pub not_headed : {s : List ℕ} {place : ℕ} → NotHeaded s place → read s ≡ wrong 10 (length s - place)
unfolding read
not_headed h = not_headed_reads deepest h

module _ {s : List ℕ} {n w v items : ℕ} (h : Headed s n w v items) where
  pub text_ended : {es : List Entry} → ItemsEnded s items deepest es → read s ≡ right (record { n = n; w = w; initial = v; entries = es })
  unfolding read whole
  text_ended i = headed_reads h deepest ∙ ap (whole n w v) i.same

  pub text_closed : {next : ℕ} {es : List Entry} → ItemsClosed s items deepest next es → read s ≡ wrong 10 (suc (length (drop next s)))
  unfolding read whole
  text_closed i = headed_reads h deepest ∙ ap (whole n w v) i.same

  pub text_broken : {k place : ℕ} → ItemsBroken s items deepest k place → read s ≡ wrong k (length s - place)
  unfolding read whole
  text_broken i = headed_reads h deepest ∙ ap (whole n w v) i.same
