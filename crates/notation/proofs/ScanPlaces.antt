-- Where a fault of the items stands, in terms of the reading: at the first byte after which no text of any length is right.
use Prim.Native.Nat.{ℕ, zero, suc, ◌+◌, ◌*◌, ◌<◌}
use mathlib.Core.Path.{◌≡◌, refl, sym, ap, ◌∙◌}
use mathlib.Core.List.{List, [], ◌∷◌, ◌++◌, map}
use mathlib.Core.Bool.{Bool, true, false, true≢false}
use native.Mathlib.Omega.{arith}
use lib.ListN.{length, take, get_or}
use Rattle.notation.specs.declared.Kind.{Kind}
use Rattle.notation.specs.declared.Kind.TheVariants.{Digit, Gap, Marked, Offer, Open, Close, Other}
use Rattle.notation.specs.declared.Entry.{Entry}
use Rattle.notation.specs.declared.Entry.TheVariants.{StartLl, StartSc}
use Rattle.notation.specs.Bytes.{kind_of}
use Rattle.notation.specs.Grammar.{digit_ok, count_ok, times}
use Rattle.notation.specs.Scan.{on_digit, Mode, between, num, offer, offer_num, done, Move, to, enter, leave, bad, more, move, said, Frame, Verdict, end, shut, fault, at_end, entered, go, scan}
use Rattle.notation.proofs.KindLaws.{either}
use Rattle.notation.proofs.ScanLaws.{opening}

-- a text that goes on from here to a right end
pub record Completed (m : Mode) (stack : List Frame) (os : List Entry) (d : ℕ) : Type 0 where
  pub rest : List ℕ
  pub says : List Entry
  pub right : scan rest m stack os d ≡ end says

close_all : (stack : List Frame) (os : List Entry) (d : ℕ) → Completed done stack os d
unfolding scan go move said kind_of at_end
close_all [] os d = record { rest = []; says = os; right = refl }
close_all (f ∷ stack) os d = let r = close_all stack (f.before ++ times f.count (os ++ [])) f.room in record { rest = 41 ∷ r.rest; says = r.says; right = r.right }

offer_done : (p v : ℕ) (stack : List Frame) (os : List Entry) (d : ℕ) → Completed (offer_num p v) stack os d
unfolding scan go move said kind_of at_end
offer_done p v [] os d = record { rest = []; says = os ++ StartSc p v ∷ []; right = refl }
offer_done p v (f ∷ stack) os d = let r = close_all stack (f.before ++ times f.count (os ++ StartSc p v ∷ [])) f.room in record { rest = 41 ∷ r.rest; says = r.says; right = r.right }

-- wherever a reading stands, some text completes it
pub complete : (m : Mode) (stack : List Frame) (os : List Entry) (d : ℕ) → Completed m stack os d
unfolding scan go move said kind_of at_end
complete (between e) stack os d = let r = close_all stack (os ++ [] ++ StartLl 0 ∷ []) d in record { rest = 48 ∷ 108 ∷ r.rest; says = r.says; right = r.right }
complete (num v) stack os d = let r = close_all stack (os ++ StartLl v ∷ []) d in record { rest = 108 ∷ r.rest; says = r.says; right = r.right }
complete (offer p) stack os d = let r = offer_done p 0 stack (os ++ []) d in record { rest = 48 ∷ r.rest; says = r.says; right = r.right }
complete (offer_num p v) stack os d = offer_done p v stack os d
complete done stack os d = close_all stack os d

abbrev pub is_end : Verdict → Bool
is_end (end os) = true
is_end (shut os l) = false
is_end (fault k left) = false

-- one more group may be opened
abbrev pub lift : Frame → Frame
lift f = record { count = f.count; before = f.before; room = suc f.room }

-- a right text begins with p
pub record ScanHope (p : List ℕ) (m : Mode) (stack : List Frame) (os : List Entry) (d : ℕ) : Type 0 where
  pub rest : List ℕ
  pub says : List Entry
  pub right : scan (p ++ rest) m stack os d ≡ end says

-- no text that begins with p is right, however many groups could be opened
abbrev pub ScanHopeless : List ℕ → Mode → List Frame → Type 0
ScanHopeless p m stack = (t : List ℕ) (stack' : List Frame) (os : List Entry) (d : ℕ) → length stack' ≡ length stack → is_end (scan (p ++ t) m stack' os d) ≡ false

-- why a fault stands at a place: the end of the text; a byte after which no text is right; a byte after which a text is right only if one more group could be opened
pub data ScanWhy (s : List ℕ) (at : ℕ) (m : Mode) (stack : List Frame) (os : List Entry) (d k : ℕ) : Type 0 where
  ended : k ≡ 10 → at ≡ length s → ScanWhy s at m stack os d k
  broken : k ≡ 10 → at < length s → ScanHopeless (take (suc at) s) m stack → ScanWhy s at m stack os d k
  deep : k ≡ 11 → at < length s → kind_of (get_or s at 0) ≡ Open → ((t : List ℕ) → is_end (scan (take (suc at) s ++ t) m stack os d) ≡ false)
      → ScanHope (take (suc at) s) m (map lift stack) os (suc d) → ScanWhy s at m stack os d k

pub record ScanPlaced (s : List ℕ) (m : Mode) (stack : List Frame) (os : List Entry) (d k left : ℕ) : Type 0 where
  pub at : ℕ
  pub left_is : at + left ≡ length s
  pub hope : ScanHope (take at s) m stack os d
  pub why : ScanWhy s at m stack os d k

-- the first byte of a reading
first : (b : ℕ) (l : List ℕ) (m : Mode) (stack : List Frame) (os : List Entry) (d : ℕ) (mv : Move) → move m (kind_of b) ≡ mv
    → scan (b ∷ l) m stack os d ≡ go (scan l) l mv stack (os ++ said m (kind_of b)) d
unfolding scan
first b l m stack os d mv e = ap (λ (x : Move). go (scan l) l x stack (os ++ said m (kind_of b)) d) e

-- the number of a verdict: 0 for a text that may end so, 10 for a `)` that closes nothing
abbrev pub number_of : Verdict → ℕ
number_of (end os) = 0
number_of (shut os l) = 10
number_of (fault k left) = k

-- how many bytes are left from its place on
abbrev pub left_of : Verdict → ℕ
left_of (end os) = 0
left_of (shut os l) = suc (length l)
left_of (fault k left) = left

ten : (m : Mode) (stack : List Frame) (os : List Entry) → is_end (at_end m stack os) ≡ false → number_of (at_end m stack os) ≡ 10
unfolding at_end
ten (between e) [] os h = absurd (true≢false h)
ten (num v) [] os h = refl
ten (offer p) [] os h = refl
ten (offer_num p v) [] os h = absurd (true≢false h)
ten done [] os h = absurd (true≢false h)
ten m (f ∷ stack) os h = refl

none_left : (m : Mode) (stack : List Frame) (os : List Entry) → left_of (at_end m stack os) ≡ 0
unfolding at_end
none_left (between e) [] os = refl
none_left (num v) [] os = refl
none_left (offer p) [] os = refl
none_left (offer_num p v) [] os = refl
none_left done [] os = refl
none_left m (f ∷ stack) os = refl

here : (s : List ℕ) (m : Mode) (stack : List Frame) (os : List Entry) (d : ℕ) → ScanHope (take 0 s) m stack os d
here s m stack os d = let r = complete m stack os d in record { rest = r.rest; says = r.says; right = r.right }

-- a fault at the first byte
pub now_bad : (b : ℕ) (l : List ℕ) (m : Mode) (stack : List Frame) (os : List Entry) (d k : ℕ) → k ≡ 10
    → ((t : List ℕ) (stack' : List Frame) (os : List Entry) (d : ℕ) → length stack' ≡ length stack → is_end (scan (b ∷ t) m stack' os d) ≡ false)
    → ScanPlaced (b ∷ l) m stack os d k (suc (length l))
now_bad b l m stack os d k e h = record { at = 0; left_is = omega arith; hope = here (b ∷ l) m stack os d; why = broken e (omega arith) h }

-- the reading goes on with the next byte
module _ (b : ℕ) (l : List ℕ) (m : Mode) (stack : List Frame) (os : List Entry) (d k left : ℕ) (m' : Mode) (e : move m (kind_of b) ≡ to m') where
  on_to : ScanPlaced l m' stack (os ++ said m (kind_of b)) d k left → ScanPlaced (b ∷ l) m stack os d k left
  unfolding go
  on_to p = record {
    at = suc p.at;
    left_is = omega (arith, p.left_is);
    hope = record { rest = p.hope.rest; says = p.hope.says; right = first b (take p.at l ++ p.hope.rest) m stack os d (to m') e ∙ p.hope.right };
    why = later p.why;
  }
    where
      later : ScanWhy l p.at m' stack (os ++ said m (kind_of b)) d k → ScanWhy (b ∷ l) (suc p.at) m stack os d k
      later (ended z q) = ended z (ap suc q)
      later (broken z q h) = broken z (omega arith) (λ t stack' os' d' r. ap is_end (first b (take (suc p.at) l ++ t) m stack' os' d' (to m') e) ∙ h t stack' (os' ++ said m (kind_of b)) d' r)
      later (deep z q o h g) = deep z (omega arith) o
          (λ t. ap is_end (first b (take (suc p.at) l ++ t) m stack os d (to m') e) ∙ h t)
          (record { rest = g.rest; says = g.says; right = first b (take (suc p.at) l ++ g.rest) m (map lift stack) os (suc d) (to m') e ∙ g.right })

-- only a `(` begins a group
to_enter : {m : Mode} {n : ℕ} → to m ≡ enter n → ⊥
to_enter q = let z : ◌≡◌ {A = ℕ} 0 1 = cc in omega arith

leave_enter : {n : ℕ} → leave ≡ enter n → ⊥
leave_enter q = let z : ◌≡◌ {A = ℕ} 0 1 = cc in omega arith

bad_enter : {n : ℕ} → bad ≡ enter n → ⊥
bad_enter q = let z : ◌≡◌ {A = ℕ} 0 1 = cc in omega arith

more_enter : (f : ℕ → Mode) (v d : ℕ) {n : ℕ} → more f v d ≡ enter n → ⊥
unfolding more on_digit
more_enter f v d {n} = either (λ (x : Move). x ≡ enter n → ⊥) (digit_ok v d) (to (f (v * 10 + d))) bad (λ _. to_enter) (λ _. bad_enter)

opens : (m : Mode) (k : Kind) (n : ℕ) → move m k ≡ enter n → k ≡ Open
unfolding move
opens (between false) (Digit d) n h = absurd (to_enter h)
opens (between false) Gap n h = absurd (to_enter h)
opens (between false) (Marked m) n h = absurd (bad_enter h)
opens (between false) Offer n h = absurd (bad_enter h)
opens (between false) Open n h = absurd (bad_enter h)
opens (between false) Close n h = absurd (bad_enter h)
opens (between false) Other n h = absurd (bad_enter h)
opens (between true) (Digit d) n h = absurd (to_enter h)
opens (between true) Gap n h = absurd (to_enter h)
opens (between true) (Marked m) n h = absurd (bad_enter h)
opens (between true) Offer n h = absurd (bad_enter h)
opens (between true) Open n h = absurd (bad_enter h)
opens (between true) Close n h = absurd (leave_enter h)
opens (between true) Other n h = absurd (bad_enter h)
opens (num v) (Digit d) n h = absurd (more_enter num v d h)
opens (num v) Gap n h = absurd (bad_enter h)
opens (num v) (Marked m) n h = absurd (to_enter h)
opens (num v) Offer n h = absurd (to_enter h)
opens (num v) Open n h = refl
opens (num v) Close n h = absurd (bad_enter h)
opens (num v) Other n h = absurd (bad_enter h)
opens (offer p) (Digit d) n h = absurd (to_enter h)
opens (offer p) Gap n h = absurd (bad_enter h)
opens (offer p) (Marked m) n h = absurd (bad_enter h)
opens (offer p) Offer n h = absurd (bad_enter h)
opens (offer p) Open n h = absurd (bad_enter h)
opens (offer p) Close n h = absurd (bad_enter h)
opens (offer p) Other n h = absurd (bad_enter h)
opens (offer_num p v) (Digit d) n h = absurd (more_enter (offer_num p) v d h)
opens (offer_num p v) Gap n h = absurd (to_enter h)
opens (offer_num p v) (Marked m) n h = absurd (bad_enter h)
opens (offer_num p v) Offer n h = absurd (bad_enter h)
opens (offer_num p v) Open n h = absurd (bad_enter h)
opens (offer_num p v) Close n h = absurd (leave_enter h)
opens (offer_num p v) Other n h = absurd (bad_enter h)
opens done (Digit d) n h = absurd (bad_enter h)
opens done Gap n h = absurd (to_enter h)
opens done (Marked m) n h = absurd (bad_enter h)
opens done Offer n h = absurd (bad_enter h)
opens done Open n h = absurd (bad_enter h)
opens done Close n h = absurd (leave_enter h)
opens done Other n h = absurd (bad_enter h)

zero≢suc : {n : ℕ} → 0 ≡ suc n → ⊥
zero≢suc q = omega arith

suc_inj : {a b : ℕ} → suc a ≡ suc b → a ≡ b
suc_inj q = omega arith

module _ (b : ℕ) (m : Mode) (n : ℕ) (e : move m (kind_of b) ≡ enter n) where
  entering : (x : List ℕ) (stack : List Frame) (os : List Entry) (d : ℕ) → count_ok n ≡ true
      → scan (b ∷ x) m stack os d ≡ entered (scan x) (suc (length x)) n stack (os ++ said m (kind_of b)) d
  unfolding go
  entering x stack os d c = first b x m stack os d (enter n) e ∙ ap (opening x n stack (os ++ said m (kind_of b)) d) c

  no_count : (x : List ℕ) (stack : List Frame) (os : List Entry) (d : ℕ) → count_ok n ≡ false → scan (b ∷ x) m stack os d ≡ fault 10 (suc (length x))
  unfolding go
  no_count x stack os d c = first b x m stack os d (enter n) e ∙ ap (opening x n stack (os ++ said m (kind_of b)) d) c

  hop : (x : List ℕ) (stack stack' : List Frame) (os : List Entry) (d : ℕ) → count_ok n ≡ true → length stack' ≡ length stack
      → ((stack'' : List Frame) (os' : List Entry) (d' : ℕ) → length stack'' ≡ suc (length stack) → is_end (scan x (between false) stack'' os' d') ≡ false)
      → is_end (scan (b ∷ x) m stack' os d) ≡ false
  hop x stack stack' os zero c q h = ap is_end (entering x stack' os zero c)
  hop x stack stack' os (suc r) c q h = ap is_end (entering x stack' os (suc r) c) ∙ h (record { count = n; before = os ++ said m (kind_of b); room = suc r } ∷ stack') [] r (ap suc q)

  module _ (l : List ℕ) (stack : List Frame) (os : List Entry) (r k left : ℕ) (c : count_ok n ≡ true) where
    on_enter : ScanPlaced l (between false) (record { count = n; before = os ++ said m (kind_of b); room = suc r } ∷ stack) [] r k left → ScanPlaced (b ∷ l) m stack os (suc r) k left
    on_enter p = record {
      at = suc p.at;
      left_is = omega (arith, p.left_is);
      hope = record { rest = p.hope.rest; says = p.hope.says; right = entering (take p.at l ++ p.hope.rest) stack os (suc r) c ∙ p.hope.right };
      why = later p.why;
    }
      where
        later : ScanWhy l p.at (between false) (record { count = n; before = os ++ said m (kind_of b); room = suc r } ∷ stack) [] r k → ScanWhy (b ∷ l) (suc p.at) m stack os (suc r) k
        later (ended z q) = ended z (ap suc q)
        later (broken z q h) = broken z (omega arith) (λ t stack' os' d' u. hop (take (suc p.at) l ++ t) stack stack' os' d' c u (λ stack'' os'' d'' w. h t stack'' os'' d'' w))
        later (deep z q o h g) = deep z (omega arith) o
            (λ t. ap is_end (entering (take (suc p.at) l ++ t) stack os (suc r) c) ∙ h t)
            (record { rest = g.rest; says = g.says; right = entering (take (suc p.at) l ++ g.rest) (map lift stack) os (suc (suc r)) c ∙ g.right })

    too_deep : ScanPlaced (b ∷ l) m stack os zero 11 (suc (length l))
    too_deep =
        let r = complete (between false) (record { count = n; before = os ++ said m (kind_of b); room = 1 } ∷ map lift stack) [] 0 in
        let up : ScanHope (b ∷ []) m (map lift stack) os 1 =
        record { rest = r.rest; says = r.says; right = entering r.rest (map lift stack) os 1 c ∙ r.right } in
        record {
          at = 0;
          left_is = omega arith;
          hope = here (b ∷ l) m stack os zero;
          why = deep refl (omega arith) (opens m (kind_of b) n e) (λ t. ap is_end (entering t stack os zero c)) up;
        }

module _ (b : ℕ) (m : Mode) (e : move m (kind_of b) ≡ leave) where
  leaving : (x : List ℕ) (f : Frame) (stack : List Frame) (os : List Entry) (d : ℕ)
      → scan (b ∷ x) m (f ∷ stack) os d ≡ scan x done stack (f.before ++ times f.count (os ++ said m (kind_of b))) f.room
  unfolding go
  leaving x f stack os d = first b x m (f ∷ stack) os d leave e

  drop_out : (x : List ℕ) (stack stack' : List Frame) (os : List Entry) (d : ℕ) → length stack' ≡ suc (length stack)
      → ((stack'' : List Frame) (os' : List Entry) (d' : ℕ) → length stack'' ≡ length stack → is_end (scan x done stack'' os' d') ≡ false)
      → is_end (scan (b ∷ x) m stack' os d) ≡ false
  drop_out x stack [] os d q h = absurd (zero≢suc q)
  drop_out x stack (f ∷ stack') os d q h = ap is_end (leaving x f stack' os d) ∙ h stack' (f.before ++ times f.count (os ++ said m (kind_of b))) f.room (suc_inj q)

  on_leave : (l : List ℕ) (f : Frame) (stack : List Frame) (os : List Entry) (d k left : ℕ)
      → ScanPlaced l done stack (f.before ++ times f.count (os ++ said m (kind_of b))) f.room k left → ScanPlaced (b ∷ l) m (f ∷ stack) os d k left
  on_leave l f stack os d k left p = record {
    at = suc p.at;
    left_is = omega (arith, p.left_is);
    hope = record { rest = p.hope.rest; says = p.hope.says; right = leaving (take p.at l ++ p.hope.rest) f stack os d ∙ p.hope.right };
    why = later p.why;
  }
    where
      later : ScanWhy l p.at done stack (f.before ++ times f.count (os ++ said m (kind_of b))) f.room k → ScanWhy (b ∷ l) (suc p.at) m (f ∷ stack) os d k
      later (ended z q) = ended z (ap suc q)
      later (broken z q h) = broken z (omega arith) (λ t stack' os' d' u. drop_out (take (suc p.at) l ++ t) stack stack' os' d' u (λ stack'' os'' d'' w. h t stack'' os'' d'' w))
      later (deep z q o h g) = deep z (omega arith) o
          (λ t. ap is_end (leaving (take (suc p.at) l ++ t) f stack os d) ∙ h t)
          (record { rest = g.rest; says = g.says; right = leaving (take (suc p.at) l ++ g.rest) (lift f) (map lift stack) os (suc d) ∙ g.right })

lone_close : (b : ℕ) (m : Mode) → move m (kind_of b) ≡ leave
    → (t : List ℕ) (stack : List Frame) (os : List Entry) (d : ℕ) → length stack ≡ 0
    → is_end (scan (b ∷ t) m stack os d) ≡ false
unfolding go
lone_close b m e t [] os d q = ap is_end (first b t m [] os d leave e)
lone_close b m e t (f ∷ stack) os d q = absurd (zero≢suc (sym q))

-- wherever the reading of l stops, it has told the right place
abbrev AllPlaced : List ℕ → Type 0
AllPlaced l = (m : Mode) (stack : List Frame) (os : List Entry) (d : ℕ) → let x = scan l m stack os d in
    is_end x ≡ false → ScanPlaced l m stack os d (number_of x) (left_of x)

step : (b : ℕ) (l : List ℕ) (m : Mode) (stack : List Frame) (os : List Entry) (d : ℕ) (mv : Move) → move m (kind_of b) ≡ mv
    → AllPlaced l → let x = go (scan l) l mv stack (os ++ said m (kind_of b)) d in
    is_end x ≡ false → ScanPlaced (b ∷ l) m stack os d (number_of x) (left_of x)
unfolding go
step b l m stack os d (to m') e ih h = on_to b l m stack os d _ _ m' e (ih m' stack (os ++ said m (kind_of b)) d h)
step b l m stack os d (enter n) e ih h = counted (count_ok n) refl d h
  where
    counted : (t : Bool) → count_ok n ≡ t → (d : ℕ) → let x = opening l n stack (os ++ said m (kind_of b)) d t in
        is_end x ≡ false → ScanPlaced (b ∷ l) m stack os d (number_of x) (left_of x)
    counted true c zero h = too_deep b m n e l stack os zero 11 0 c
    counted true c (suc r) h = on_enter b m n e l stack os r _ _ c (ih (between false) (record { count = n; before = os ++ said m (kind_of b); room = suc r } ∷ stack) [] r h)
    counted false c d h = now_bad b l m stack os d 10 refl (λ t stack' os' d' q. ap is_end (no_count b m n e t stack' os' d' c))
step b l m [] os d leave e ih h = now_bad b l m [] os d 10 refl (lone_close b m e)
step b l m (f ∷ stack) os d leave e ih h = on_leave b m e l f stack os d _ _ (ih done stack (f.before ++ times f.count (os ++ said m (kind_of b))) f.room h)
step b l m stack os d bad e ih h = now_bad b l m stack os d 10 refl (λ t stack' os' d' q. ap is_end (first b t m stack' os' d' bad e))

-- a fault stands at the first byte after which no text of any length is right, 11 only where a text would be right if one more group could be opened
pub scan_placed : (s : List ℕ) (m : Mode) (stack : List Frame) (os : List Entry) (d : ℕ) → is_end (scan s m stack os d) ≡ false
    → ScanPlaced s m stack os d (number_of (scan s m stack os d)) (left_of (scan s m stack os d))
unfolding scan
scan_placed [] m stack os d h = record { at = 0; left_is = omega (arith, none_left m stack os); hope = here [] m stack os d; why = ended (ten m stack os h) refl }
scan_placed (b ∷ l) m stack os d h = step b l m stack os d (move m (kind_of b)) refl (λ m stack os d. scan_placed l m stack os d) h
