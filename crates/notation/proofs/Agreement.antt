-- What the grammar gives, the reading says.
use Prim.Native.Nat.{ℕ, suc, ◌+◌, ◌*◌}
use mathlib.Core.Path.{◌≡◌, refl, sym, ap, ◌∙◌}
use mathlib.Core.List.{List, [], ◌∷◌, ◌++◌, append_assoc, append-nil}
use mathlib.Core.Bool.{Bool, true, false}
use Rattle.notation.specs.declared.Kind.{Kind}
use Rattle.notation.specs.declared.Kind.TheVariants.{Open, Close}
use Rattle.notation.specs.declared.Entry.{Entry}
use Rattle.notation.specs.declared.Entry.TheVariants.{StartSc}
use Rattle.notation.specs.Bytes.{space, line_feed, kind_of, entry_of, is_digit}
use Rattle.notation.specs.Grammar as G
use Rattle.notation.specs.Grammar.{Byte, Number, Gaps, Item, Items, Lead, Schedule, FirstLine, Text}
use Rattle.notation.specs.Grammar.{count_ok, times, item_bytes, items_bytes, lead_bytes, schedule_bytes, first_bytes}
use Rattle.notation.specs.Grammar.{bytes, item_says, items_say, lead_says, schedule_says, says}
use Rattle.notation.specs.Scan.{Mode, between, num, offer, offer_num, done, to, leave, move, said, Frame, end, at_end, go, scan}
use Rattle.notation.specs.FirstLine.{Place, before_n, Next, goes, step, whole, proceed, read_from, past}
use Rattle.notation.specs.Readings.{right}
use Rattle.notation.proofs.KindLaws.{offer_move}
use Rattle.notation.proofs.ScanLaws.{Gathers, Leads, gathers_num, gathers_offer, leads_num, leads_offer, more_fits}
use Rattle.notation.proofs.ItemLaws.{at_end_offer}
use Rattle.notation.proofs.HeaderLaws.{Field, field_n, field_w, field_initial, starts, goes_on, stops_at}

-- a byte of a known kind
byte : {c : ℕ} {k : Kind} (m m' : Mode) (es : List Entry) (l : List ℕ) (stack : List Frame) (os : List Entry) (d : ℕ) → Byte c k → move m k ≡ to m' → said m k ≡ es
    → scan (c ∷ l) m stack os d ≡ scan l m' stack (os ++ es) d
unfolding scan go
byte m m' es l stack os d e p q = simp (e.is, p, q)

quiet : {c : ℕ} {k : Kind} (m m' : Mode) (l : List ℕ) (stack : List Frame) (os : List Entry) (d : ℕ) → Byte c k
    → move m k ≡ to m' → said m k ≡ [] → scan (c ∷ l) m stack os d ≡ scan l m' stack os d
quiet m m' l stack os d e p q = byte m m' [] l stack os d e p q ∙ ap (λ (x : List Entry). scan l m' stack x d) (append-nil os)

digits_read : {ds : List ℕ} {v : ℕ} (f : ℕ → Mode) (g : Gathers f) (m : Mode) → Leads m f
    → Number ds v → (l : List ℕ) (stack : List Frame) (os : List Entry) (r : ℕ) → scan (ds ++ l) m stack os r ≡ scan l (f v) stack os r
digits_read f g m p (G.digit {d = d} e) l stack os r = quiet m (f d) l stack os r e (p.moves d) (p.says d)
digits_read f g m p (G.more {ds = ds} {v = v} {c = c} {d = d} n e fits) l stack os r =
    ap (λ (x : List ℕ). scan x m stack os r) (append_assoc ds (c ∷ []) l) ∙ digits_read f g m p n (c ∷ l) stack os r
    ∙ quiet (f v) (f (v * 10 + d)) l stack os r e (g.moves v d ∙ more_fits f v d fits) (g.says v d)

number_read : {ds : List ℕ} {v : ℕ} (e : Bool) → Number ds v
    → (l : List ℕ) (stack : List Frame) (os : List Entry) (r : ℕ)
    → scan (ds ++ l) (between e) stack os r ≡ scan l (num v) stack os r
number_read e n = digits_read num gathers_num (between e) (leads_num e) n

offer_read : {ds : List ℕ} {v : ℕ} (p : ℕ) → Number ds v → (l : List ℕ) (stack : List Frame) (os : List Entry) (r : ℕ)
    → scan (ds ++ l) (offer p) stack os r ≡ scan l (offer_num p v) stack os r
offer_read p n = digits_read (offer_num p) (gathers_offer p) (offer p) (leads_offer p) n

gaps_read : {g : List ℕ} (e : Bool) → Gaps g → (l : List ℕ) (stack : List Frame) (os : List Entry) (r : ℕ) → scan (g ++ l) (between e) stack os r ≡ scan l (between e) stack os r
unfolding move said
gaps_read e G.none l stack os r = refl
gaps_read e (G.gap {g = g} h t) l stack os r = quiet (between e) (between e) (g ++ l) stack os r h refl refl ∙ gaps_read e t l stack os r

-- a text that does not go on with a digit
abbrev NoDigit : List ℕ → Type 0
NoDigit [] = Unit {0}
NoDigit (c ∷ l) = is_digit (kind_of c) ≡ false

offer_over : (p v : ℕ) (l : List ℕ) → NoDigit l → (stack : List Frame) (os : List Entry) (r : ℕ) → scan l (offer_num p v) stack os r ≡ scan l done stack (os ++ StartSc p v ∷ []) r
unfolding scan said
offer_over p v [] h stack os r = at_end_offer p v stack os
offer_over p v (c ∷ l) h stack os r = let w = offer_move p v (kind_of c) h in simp (w.0, w.1, append-nil)

gaps_over : {g : List ℕ} (z : ℕ) (l : List ℕ) → Gaps g → is_digit (kind_of z) ≡ false → NoDigit (g ++ z ∷ l)
gaps_over z l G.none h = h
gaps_over z l (G.gap e t) h = ap is_digit e.is

gaps_end : {g : List ℕ} → Gaps g → NoDigit g
gaps_end G.none = tt
gaps_end (G.gap e t) = ap is_digit e.is

-- after items: gaps, and the end of the group or of the text
shuts : {z : ℕ} (m : Mode) (f : Frame) (l : List ℕ) (stack : List Frame) (os : List Entry) (r : ℕ) → Byte z Close → move m Close ≡ leave → said m Close ≡ []
    → scan (z ∷ l) m (f ∷ stack) os r ≡ scan l done stack (f.before ++ times f.count os) f.room
unfolding scan go
shuts m f l stack os r e p q = simp (e.is, p, q, append-nil)

close_read : {g : List ℕ} {z : ℕ} → Gaps g → Byte z Close → (f : Frame) (l : List ℕ) (stack : List Frame) (os : List Entry) (r : ℕ)
    → scan (g ++ z ∷ l) done (f ∷ stack) os r ≡ scan l done stack (f.before ++ times f.count os) f.room
unfolding move said
close_read G.none e f l stack os r = shuts done f l stack os r e refl refl
close_read {z = z} (G.gap {g = g} h t) e f l stack os r =
    quiet (done) (between true) (g ++ z ∷ l) (f ∷ stack) os r h refl refl ∙ gaps_read true t (z ∷ l) (f ∷ stack) os r
    ∙ shuts (between true) f l stack os r e refl refl

end_read : {g : List ℕ} → Gaps g → (os : List Entry) (r : ℕ) → scan g done [] os r ≡ end os
unfolding scan at_end move said
end_read G.none os r = refl
end_read (G.gap {g = g} h t) os r = quiet (done) (between true) g [] os r h refl refl ∙ ap (λ (x : List ℕ). scan x (between true) [] os r) (sym (append-nil g)) ∙ gaps_read true t [] [] os r

opens : {a : ℕ} (n : ℕ) (l : List ℕ) (stack : List Frame) (os : List Entry) (d : ℕ) → Byte a Open → count_ok n ≡ true
    → scan (a ∷ l) (num n) stack os (suc d) ≡ scan l (between false) (record { count = n; before = os; room = suc d } ∷ stack) [] d
unfolding scan go move said
opens n l stack os d e c = simp (e.is, c, append-nil)

record Led (d : ℕ) (l : List ℕ) (es : List Entry) (rest : List ℕ) : Type 0 where
  e : Bool
  same : (stack : List Frame) (os : List Entry) → scan (l ++ rest) (between false) stack os d ≡ scan rest (between e) stack (os ++ es) d

mutual
  unfolding move said item_bytes item_says

  item_read : {d : ℕ} (i : Item d) → (l : List ℕ) → NoDigit l → (e : Bool) (stack : List Frame) (os : List Entry)
      → scan (item_bytes i ++ l) (between e) stack os d ≡ scan l done stack (os ++ item_says i) d
  item_read {d} (G.marked ds p c m n h) l o e stack os =
      ap (λ (x : List ℕ). scan x (between e) stack os d) (append_assoc ds (c ∷ []) l) ∙ number_read e n (c ∷ l) stack os d ∙ byte (num p) done (entry_of m p ∷ []) l stack os d h refl refl
  item_read {d} (G.offer ds p c ws v n h w) l o e stack os =
      ap (λ (x : List ℕ). scan x (between e) stack os d) (append_assoc ds (c ∷ ws) l) ∙ number_read e n (c ∷ (ws ++ l)) stack os d
      ∙ quiet (num p) (offer p) (ws ++ l) stack os d h refl refl ∙ offer_read p w l stack os d ∙ offer_over p v l o stack os d
  item_read (G.group {d = d} ds n a k c h i g z t u) l o e stack os =
      ap (λ (x : List ℕ). scan x (between e) stack os (suc d)) (append_assoc ds (a ∷ (items_bytes i ++ (g ++ z ∷ []))) l)
      ∙ number_read e k (a ∷ ((items_bytes i ++ (g ++ z ∷ [])) ++ l)) stack os (suc d)
      ∙ opens n ((items_bytes i ++ (g ++ z ∷ [])) ++ l) stack os d h c
      ∙ ap (λ (x : List ℕ). scan x (between false) (record { count = n; before = os; room = suc d } ∷ stack) [] d)
      (append_assoc (items_bytes i) (g ++ z ∷ []) l ∙ ap (λ (x : List ℕ). items_bytes i ++ x) (append_assoc g (z ∷ []) l))
      ∙ items_read i (g ++ z ∷ l) (gaps_over z l t (ap is_digit u.is)) (record { count = n; before = os; room = suc d } ∷ stack) []
      ∙ close_read t u (record { count = n; before = os; room = suc d }) l stack (items_say i) d

  items_read : {d : ℕ} (i : Items d) → (l : List ℕ) → NoDigit l
      → (stack : List Frame) (os : List Entry) → scan (items_bytes i ++ l) (between false) stack os d ≡ scan l done stack (os ++ items_say i) d
  items_read {d} (G.item p i) l o stack os =
      let q = lead_read p (item_bytes i ++ l) in
      ap (λ (x : List ℕ). scan x (between false) stack os d) (append_assoc (lead_bytes p) (item_bytes i) l) ∙ q.same stack os ∙ item_read i l o q.e stack (os ++ lead_says p)
      ∙ ap (λ (x : List Entry). scan l done stack x d) (append_assoc os (lead_says p) (item_says i))

  lead_read : {d : ℕ} (p : Lead d) → (rest : List ℕ) → Led d (lead_bytes p) (lead_says p) rest
  lead_read {d} (G.fresh g t) rest = record { e = false; same = λ stack os. gaps_read false t rest stack os d ∙ ap (λ (x : List Entry). scan rest (between false) stack x d) (sym (append-nil os)) }
  lead_read {d} (G.apart i c g h t) rest = record {
    e = true;
    same = λ stack os.
        ap (λ (x : List ℕ). scan x (between false) stack os d) (append_assoc (items_bytes i) (c ∷ g) rest) ∙ items_read i (c ∷ (g ++ rest)) (ap is_digit h.is) stack os
        ∙ quiet done (between true) (g ++ rest) stack (os ++ items_say i) d h refl refl ∙ gaps_read true t rest stack (os ++ items_say i) d;
  }

-- the items of a text
schedule_read : {d : ℕ} (t : Schedule d) → scan (schedule_bytes t) (between false) [] [] d ≡ end (schedule_says t)
unfolding scan at_end schedule_bytes schedule_says
schedule_read {d} (G.empty g t) = ap (λ (x : List ℕ). scan x (between false) [] [] d) (sym (append-nil g)) ∙ gaps_read false t [] [] [] d
schedule_read {d} (G.items i g t) = items_read i g (gaps_end t) [] [] ∙ end_read t (items_say i) d

-- a byte of the first line
pub turn : (d : ℕ) (c : ℕ) (l : List ℕ) (m : Place) (x : Next) → step m c ≡ x → read_from d (c ∷ l) m ≡ past d l x
unfolding read_from
turn d c l m x e = ap (past d l) e

module _ {m : Place} {f : ℕ → Place} {stop : ℕ} {out : ℕ → Next} (fd : Field m f stop out) (d : ℕ) where
  digits_first : {ds : List ℕ} {v : ℕ} → Number ds v → (l : List ℕ) → read_from d (ds ++ l) m ≡ read_from d l (f v)
  unfolding proceed
  digits_first (G.digit {c = c} {d = x} e) l = turn d c l m (goes (f x)) (starts fd c x e.is)
  digits_first (G.more {ds = ds} {v = v} {c = c} {d = x} n e fits) l =
      ap (λ (y : List ℕ). read_from d y m) (append_assoc ds (c ∷ []) l) ∙ digits_first n (c ∷ l) ∙ turn d c l (f v) (goes (f (v * 10 + x))) (goes_on fd v c x e.is fits)

  -- a number and the byte that ends it
  field_read : {ds : List ℕ} {v : ℕ} → Number ds v → (l : List ℕ) → read_from d (ds ++ stop ∷ l) m ≡ past d l (out v)
  field_read {v = v} n l = digits_first n (stop ∷ l) ∙ turn d stop l (f v) (out v) (stops_at fd v stop refl)

-- the first line
first_read : (d : ℕ) (f : FirstLine) (l : List ℕ) → read_from d (first_bytes f ++ l) before_n ≡ whole f.n f.w f.initial (scan l (between false) [] [] d)
unfolding proceed first_bytes
first_read d f l =
    ap (λ (x : List ℕ). read_from d x before_n)
    (append_assoc f.n_digits (space ∷ third) l ∙ ap (λ (x : List ℕ). f.n_digits ++ space ∷ x) (append_assoc f.w_digits (space ∷ second) l
    ∙ ap (λ (x : List ℕ). f.w_digits ++ space ∷ x) (append_assoc f.initial_digits (line_feed ∷ []) l)))
    ∙ field_read field_n d f.n_number (f.w_digits ++ space ∷ (f.initial_digits ++ line_feed ∷ l))
    ∙ field_read (field_w f.n) d f.w_number (f.initial_digits ++ line_feed ∷ l)
    ∙ field_read (field_initial f.n f.w) d f.initial_number l
  where
    second : List ℕ
    second = f.initial_digits ++ line_feed ∷ []

    third : List ℕ
    third = f.w_digits ++ space ∷ (f.initial_digits ++ line_feed ∷ [])

-- what the grammar gives, the reading says
pub text_read : {d : ℕ} (t : Text d) → read_from d (bytes t) before_n ≡ right (says t)
unfolding bytes says whole
text_read {d} t = first_read d t.first (schedule_bytes t.schedule) ∙ ap (whole t.first.n t.first.w t.first.initial) (schedule_read t.schedule)
