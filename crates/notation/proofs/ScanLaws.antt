-- Laws of the reading: one byte, the end, and stretches put together.
use Prim.Native.Nat.{ℕ, suc, ◌+◌, ◌-◌, ◌*◌, ◌≤◌, ◌<◌}
use mathlib.Core.Path.{◌≡◌, refl, sym, ap, ◌∙◌}
use mathlib.Core.List.{List, [], ◌++◌, append_assoc, append-nil}
use mathlib.Core.Bool.{Bool, true, false, cond}
use native.Mathlib.Omega.{arith}
use native.Mathlib.Numerals.{add-one}
use lib.ListN.{length, get_or, drop, length-drop, drop_of_length-le}
use lib.Seq.{drop-cons}
use Rattle.notation.specs.declared.Kind.{Kind}
use Rattle.notation.specs.declared.Kind.TheVariants.{Digit, Gap}
use Rattle.notation.specs.declared.Entry.{Entry}
use Rattle.notation.specs.Bytes.{kind_of}
use Rattle.notation.specs.Grammar.{digit_ok}
use Rattle.notation.specs.Scan.{on_digit, Mode, between, num, offer, offer_num, to, bad, more, move, said, Frame, Verdict, fault, at_end, entered, go, scan}
use Rattle.notation.specs.Readers as D
use Rattle.notation.specs.Readers.{Counts, still, digit, StrayDigit, Whole, Gapped}
use Rattle.notation.specs.Stretches.{Goes, Faults}

-- one byte
pub scan_at : (s : List ℕ) (at : ℕ) (m : Mode) (stack : List Frame) (os : List Entry) (d : ℕ) → at < length s
    → scan (drop at s) m stack os d ≡ go (scan (drop (at + 1) s)) (drop (at + 1) s) (move m (kind_of (get_or s at 0))) stack (os ++ said m (kind_of (get_or s at 0))) d
unfolding scan
scan_at s at m stack os d h = rw (add-one, drop-cons s at 0)

-- what is left of a text from a byte on
pub left_at : (s : List ℕ) (at : ℕ) → at < length s → suc (length (drop (at + 1) s)) ≡ length s - at
left_at s at h = omega (arith, length-drop (at + 1) s)

-- the end
pub scan_end : (s : List ℕ) (at : ℕ) (m : Mode) (stack : List Frame) (os : List Entry) (d : ℕ) → length s ≤ at → scan (drop at s) m stack os d ≡ at_end m stack os
unfolding scan
scan_end s at m stack os d h = rw (drop_of_length-le s {i = at} h)

-- a `(` after a count n, which is right or not, with the text l behind it
abbrev pub opening : List ℕ → ℕ → List Frame → List Entry → ℕ → Bool → Verdict
opening l n stack os d t = cond t (entered (scan l) (suc (length l)) n stack os d) (fault 10 (suc (length l)))

-- one more digit of a number
pub digit_fits : {A : Type 0} (v d : ℕ) (fits : ℕ → A) (stray : A) → digit_ok v d ≡ true → on_digit v d fits stray ≡ fits (v * 10 + d)
unfolding on_digit
digit_fits v d fits stray h = ap (λ t. cond t (fits (v * 10 + d)) stray) h

pub digit_stray : {A : Type 0} (v d : ℕ) (fits : ℕ → A) (stray : A) → digit_ok v d ≡ false → on_digit v d fits stray ≡ stray
unfolding on_digit
digit_stray v d fits stray h = ap (λ t. cond t (fits (v * 10 + d)) stray) h

-- a mode that gathers a number
pub record Gathers (f : ℕ → Mode) : Type 0 where
  pub moves : (v d : ℕ) → move (f v) (Digit d) ≡ more f v d
  pub says : (v d : ℕ) → said (f v) (Digit d) ≡ []

-- a mode before such a number
pub record Leads (m : Mode) (f : ℕ → Mode) : Type 0 where
  pub moves : (d : ℕ) → move m (Digit d) ≡ to (f d)
  pub says : (d : ℕ) → said m (Digit d) ≡ []

pub gathers_num : Gathers num
unfolding move said
gathers_num = record { moves = λ v d. refl; says = λ v d. refl }

pub gathers_offer : (p : ℕ) → Gathers (offer_num p)
unfolding move said
gathers_offer p = record { moves = λ v d. refl; says = λ v d. refl }

pub leads_num : (e : Bool) → Leads (between e) num
unfolding move said
leads_num e = record { moves = λ d. refl; says = λ d. refl }

pub leads_offer : (p : ℕ) → Leads (offer p) (offer_num p)
unfolding move said
leads_offer p = record { moves = λ d. refl; says = λ d. refl }

pub more_fits : (f : ℕ → Mode) (v d : ℕ) → digit_ok v d ≡ true → more f v d ≡ to (f (v * 10 + d))
unfolding more
more_fits f v d h = digit_fits v d (λ x. to (f x)) bad h

pub more_stray : (f : ℕ → Mode) (v d : ℕ) → digit_ok v d ≡ false → more f v d ≡ bad
unfolding more
more_stray f v d h = digit_stray v d (λ x. to (f x)) bad h

module _ {s : List ℕ} where
  pub stay : (at : ℕ) (m : Mode) → at ≤ length s → Goes s at m at m []
  stay at m h = record { on = omega arith; within = h; same = λ stack os d. ap (λ (x : List Entry). scan (drop at s) m stack x d) (sym (append-nil os)) }

  pub then : {a b c : ℕ} {m m' m'' : Mode} {es es' : List Entry} → Goes s a m b m' es → Goes s b m' c m'' es' → Goes s a m c m'' (es ++ es')
  then {c = c} {m'' = m''} {es = es} {es' = es'} p q = record {
    on = omega (arith, p.on, q.on);
    within = q.within;
    same = λ stack os d. p.same stack os d ∙ q.same stack (os ++ es) d ∙ ap (λ (x : List Entry). scan (drop c s) m'' stack x d) (append_assoc os es es');
  }

  pub then_fault : {a b k place : ℕ} {m m' : Mode} {es : List Entry} → Goes s a m b m' es → Faults s b m' k place → Faults s a m k place
  then_fault {es = es} p q = record { within = q.within; same = λ stack os d. p.same stack os d ∙ q.same stack (os ++ es) d }

  -- a byte of a known kind that leads to another mode
  pub byte : (m m' : Mode) (k : Kind) (es : List Entry) (at : ℕ) → at < length s → kind_of (get_or s at 0) ≡ k → move m k ≡ to m' → said m k ≡ es → Goes s at m (at + 1) m' es
  unfolding go
  byte m m' k es at h e p q = record { on = omega arith; within = omega arith; same = λ stack os r. scan_at s at m stack os r h ∙ simp (e, p, q) }

  pub byte_bad : (m : Mode) (k : Kind) (at : ℕ) → at < length s → kind_of (get_or s at 0) ≡ k → move m k ≡ bad → Faults s at m 10 at
  unfolding go
  byte_bad m k at h e p = record { within = omega arith; same = λ stack os r. scan_at s at m stack os r h ∙ simp (e, p) (ap (fault 10) (left_at s at h)) }

  pub end_fault : (m : Mode) (at : ℕ) → length s ≤ at → ((stack : List Frame) (os : List Entry) → at_end m stack os ≡ fault 10 0) → Faults s at m 10 (length s)
  end_fault m at h e =
      let none : 0 ≡ length s - length s = omega arith in
      record { within = omega arith; same = λ stack os d. scan_end s at m stack os d h ∙ e stack os ∙ ap (fault 10) none }

  gap : (e : Bool) (at : ℕ) → at < length s → kind_of (get_or s at 0) ≡ Gap → Goes s at (between e) (at + 1) (between e) []
  unfolding move said
  gap e at h p = byte (between e) (between e) Gap [] at h p refl refl

  pub gaps : {at next : ℕ} (e : Bool) → at ≤ length s → Gapped s at next → Goes s at (between e) next (between e) []
  gaps {at} e h D.stay = stay at (between e) h
  gaps e h (D.gap {next = next} g l k) = then (gaps e h g) (gap e next l k)

  -- the digits of a number
  pub counted : {at v next v' : ℕ} (f : ℕ → Mode) → Gathers f → at ≤ length s → Counts s at v next v' → Goes s at (f v) next (f v') []
  counted {at} {v} f g h still = stay at (f v) h
  counted f g h (digit {next = next} {v' = v'} {d = d} c l e fits) = then (counted f g h c) (byte (f v') (f (v' * 10 + d)) (Digit d) [] next l e (g.moves v' d ∙ more_fits f v' d fits) (g.says v' d))

  strayed : {at v place : ℕ} (f : ℕ → Mode) → Gathers f → at ≤ length s → StrayDigit s at v place → Faults s at (f v) 10 place
  strayed {place = place} f g h x =
      let stray = g.moves x.v' x.d ∙ more_stray f x.v' x.d x.not in
      then_fault (counted f g h x.counts) (byte_bad (f x.v') (Digit x.d) place x.here x.is stray)

  -- a number from its first digit on
  pub numbered : {at v next : ℕ} {m : Mode} {f : ℕ → Mode} → Leads m f → Gathers f → Whole s at v next → Goes s at m next (f v) []
  numbered {at} {m = m} {f = f} l g w = then (byte m (f w.d) (Digit w.d) [] at w.here w.is (l.moves w.d) (l.says w.d)) (counted f g (omega (arith, w.here)) w.numbered.counts)

  pub no_number : {at d place : ℕ} {m : Mode} {f : ℕ → Mode} → Leads m f → Gathers f → at < length s
      → kind_of (get_or s at 0) ≡ Digit d → StrayDigit s (at + 1) d place → Faults s at m 10 place
  no_number {at} {d} {m = m} {f = f} l g h e x = then_fault (byte m (f d) (Digit d) [] at h e (l.moves d) (l.says d)) (strayed f g (omega arith) x)
