-- What a reader promises fixes its reply: two replies that keep the promise are one.
use Prim.Native.Nat.{ℕ, ◌+◌, ◌≤◌, ◌<◌}
use mathlib.Core.Path.{◌≡◌, refl, sym, ap, subst, ◌∙◌}
use mathlib.Core.List.{List}
use mathlib.Core.Bool.{true, true≢false}
use native.Mathlib.Omega.{arith}
use lib.ListN.{get_or}
use Rattle.notation.specs.declared.Kind.{Kind}
use Rattle.notation.specs.declared.Kind.TheVariants.{Digit, Gap, Marked, Offer, Open, Close, Other}
use Rattle.std.specs.Prelude.{Result, Ok, Err}
use Rattle.notation.specs.Readers.{Digits, Beginning, Following}
use Rattle.notation.specs.declared.First.{First}
use Rattle.notation.specs.Bytes.{kind_of, is_digit, is_gap}
use Rattle.notation.specs.Grammar.{digit_ok}
use Rattle.notation.specs.Readers as D
use Rattle.notation.specs.Readers.{Counts, Numbered, StrayDigit, NumberSays, Whole, NoneAt, NumberAtSays, Ended}
use Rattle.notation.specs.Readers.{NotEnded, FieldSays, Headed, NotHeaded, HeaderSays, Gapped, Skipped, offer_of}
use Rattle.notation.specs.Readers.{Signed, Begins, Behind, After, Follows}
use Rattle.notation.proofs.NumberLaws.{below_or, counts_on}

same_if : (a b : ℕ) → (a < b → ⊥) → (b < a → ⊥) → a ≡ b
same_if a b p q = omega (arith, p, q)

digit_same : {d e : ℕ} → Digit d ≡ Digit e → d ≡ e
digit_same q = cc

module _ (s : List ℕ) where
  -- digits of one number
  digits_between : {at v next v' : ℕ} → Counts s at v next v' → (i : ℕ) → at ≤ i → i < next → is_digit (kind_of (get_or s i 0)) ≡ true
  digits_between D.still i p q = absurd (omega arith)
  digits_between (D.digit {next = next} c l e f) i p q = below_or _ i next q (λ r. digits_between c i p r) (λ r. ap (λ (x : ℕ). is_digit (kind_of (get_or s x 0))) r ∙ ap is_digit e)

  one_digit : (i j : ℕ) {d e : ℕ} → i ≡ j → kind_of (get_or s i 0) ≡ Digit d → kind_of (get_or s j 0) ≡ Digit e → d ≡ e
  one_digit i j r p q = digit_same (sym p ∙ ap (λ (x : ℕ). kind_of (get_or s x 0)) r ∙ q)

  counts_same : {at v n a m b : ℕ} → Counts s at v n a → Counts s at v m b → n ≡ m → a ≡ b
  counts_same D.still D.still r = refl
  counts_same D.still (D.digit c l e f) r = absurd (omega (arith, counts_on c))
  counts_same (D.digit c l e f) D.still r = absurd (omega (arith, counts_on c))
  counts_same (D.digit {next = i} c l e f) (D.digit {next = j} c₂ l₂ e₂ f₂) r = omega (arith, counts_same c c₂ (omega arith), one_digit i j (omega arith) e e₂)

  fits_at : {at v n a i b d : ℕ} → Counts s at v n a → Counts s at v i b → i < n → kind_of (get_or s i 0) ≡ Digit d → digit_ok b d ≡ true
  fits_at D.still c₂ q k = absurd (omega (arith, counts_on c₂))
  fits_at {i = i} (D.digit {next = next} c l e f) c₂ q k = below_or _ i next q (λ r. fits_at c c₂ r k) (λ r. let p = counts_same c₂ c r in let q = one_digit i next r k e in cc)

  -- one number
  stops_first : {at v a n b m : ℕ} → Numbered s at v a n → Numbered s at v b m → n < m → ⊥
  stops_first {n = n} p q l = true≢false (sym (digits_between q.counts n p.on l) ∙ p.stops (omega (arith, q.within)))

  numbered_one : {at v a n b m : ℕ} → Numbered s at v a n → Numbered s at v b m → (a ≡ b) × (n ≡ m)
  numbered_one {n = n} {m = m} p q = let r = same_if n m (stops_first p q) (stops_first q p) in (counts_same p.counts q.counts r, r)

  stray_not : {at v a n i : ℕ} → StrayDigit s at v i → Numbered s at v a n → ⊥
  stray_not {n = n} {i = i} x p = below_or ⊥ i n (omega (arith, later)) over here
    where
      over : i < n → ⊥
      over r = true≢false (sym (fits_at p.counts x.counts r x.is) ∙ x.not)

      here : i ≡ n → ⊥
      here r = true≢false (sym (ap is_digit x.is) ∙ ap (λ (y : ℕ). is_digit (kind_of (get_or s y 0))) r ∙ p.stops (omega (arith, x.here)))

      later : n < i → ⊥
      later l = true≢false (sym (digits_between x.counts n p.on l) ∙ p.stops (omega (arith, x.here)))

  stray_first : {at v i j : ℕ} → StrayDigit s at v i → StrayDigit s at v j → i < j → ⊥
  stray_first x y l = true≢false (sym (fits_at y.counts x.counts l x.is) ∙ x.not)

  stray_one : {at v i j : ℕ} → StrayDigit s at v i → StrayDigit s at v j → i ≡ j
  stray_one {i = i} {j = j} x y = same_if i j (stray_first x y) (stray_first y x)

  pub number_one : (at v : ℕ) (r r' : Digits) → NumberSays s at v r → NumberSays s at v r' → r ≡ r'
  number_one at v (Ok (a, n)) (Ok (b, m)) p q = let e = numbered_one p q in let x = e.0 in let y = e.1 in cc
  number_one at v (Ok (a, n)) (Err j) p q = absurd (stray_not q p)
  number_one at v (Err i) (Ok (b, m)) p q = absurd (stray_not p q)
  number_one at v (Err i) (Err j) p q = ap Err (stray_one p q)

  whole_one : {at a n b m : ℕ} → Whole s at a n → Whole s at b m → (a ≡ b) × (n ≡ m)
  whole_one {at} {b = b} {m = m} p q = numbered_one p.numbered (subst (λ (x : ℕ). Numbered s (at + 1) x b m) (one_digit at at refl q.is p.is) q.numbered)

  none_not : {at a n i : ℕ} → NoneAt s at i → Whole s at a n → ⊥
  none_not (D.ends h) w = omega (arith, w.here)
  none_not (D.other h k) w = true≢false (sym (ap is_digit w.is) ∙ k)
  none_not {at} {a} {n} (D.strayed h e x) w = stray_not x (subst (λ (y : ℕ). Numbered s (at + 1) y a n) (one_digit at at refl w.is e) w.numbered)

  none_one : {at i j : ℕ} → NoneAt s at i → NoneAt s at j → i ≡ j
  none_one (D.ends h) (D.ends h₂) = refl
  none_one (D.ends h) (D.other h₂ k) = absurd (omega arith)
  none_one (D.ends h) (D.strayed h₂ e x) = absurd (omega arith)
  none_one (D.other h k) (D.ends h₂) = absurd (omega arith)
  none_one (D.other h k) (D.other h₂ k₂) = refl
  none_one (D.other h k) (D.strayed h₂ e x) = absurd (true≢false (sym (ap is_digit e) ∙ k))
  none_one (D.strayed h e x) (D.ends h₂) = absurd (omega arith)
  none_one (D.strayed h e x) (D.other h₂ k) = absurd (true≢false (sym (ap is_digit e) ∙ k))
  none_one {at} (D.strayed h e x) (D.strayed {place = j} h₂ e₂ y) =
      stray_one x (subst (λ (d : ℕ). StrayDigit s (at + 1) d j) (one_digit at at refl e₂ e) y)

  pub number_at_one : (at : ℕ) (r r' : Digits) → NumberAtSays s at r → NumberAtSays s at r' → r ≡ r'
  number_at_one at (Ok (a, n)) (Ok (b, m)) p q = let e = whole_one p q in let x = e.0 in let y = e.1 in cc
  number_at_one at (Ok (a, n)) (Err j) p q = absurd (none_not q p)
  number_at_one at (Err i) (Ok (b, m)) p q = absurd (none_not p q)
  number_at_one at (Err i) (Err j) p q = ap Err (none_one p q)

  -- one field, one first line
  ended_one : {at stop a n b m : ℕ} → Ended s at stop a n → Ended s at stop b m → (a ≡ b) × (n ≡ m)
  ended_one p q = let e = whole_one p.number q.number in (e.0, omega (arith, e.1, p.past, q.past))

  ended_not : {at stop a n i : ℕ} → NotEnded s at stop i → Ended s at stop a n → ⊥
  ended_not (D.none x) e = none_not x e.number
  ended_not (D.ends w h) e = omega (arith, (whole_one w e.number).1, e.here)
  ended_not (D.other w h k) e = k (ap (λ (x : ℕ). get_or s x 0) (whole_one w e.number).1 ∙ e.is)

  not_ended_one : {at stop i j : ℕ} → NotEnded s at stop i → NotEnded s at stop j → i ≡ j
  not_ended_one (D.none x) (D.none y) = none_one x y
  not_ended_one (D.none x) (D.ends w h) = absurd (none_not x w)
  not_ended_one (D.none x) (D.other w h k) = absurd (none_not x w)
  not_ended_one (D.ends w h) (D.none y) = absurd (none_not y w)
  not_ended_one (D.ends w h) (D.ends w₂ h₂) = refl
  not_ended_one (D.ends w h) (D.other w₂ h₂ k) = absurd (omega (arith, (whole_one w w₂).1))
  not_ended_one (D.other w h k) (D.none y) = absurd (none_not y w)
  not_ended_one (D.other w h k) (D.ends w₂ h₂) = absurd (omega (arith, (whole_one w w₂).1))
  not_ended_one (D.other w h k) (D.other w₂ h₂ k₂) = (whole_one w w₂).1

  pub field_one : (at stop : ℕ) (r r' : Digits) → FieldSays s at stop r → FieldSays s at stop r' → r ≡ r'
  field_one at stop (Ok (a, n)) (Ok (b, m)) p q = let e = ended_one p q in let x = e.0 in let y = e.1 in cc
  field_one at stop (Ok (a, n)) (Err j) p q = absurd (ended_not q p)
  field_one at stop (Err i) (Ok (b, m)) p q = absurd (ended_not p q)
  field_one at stop (Err i) (Err j) p q = ap Err (not_ended_one p q)

  moved : {at at' stop a n : ℕ} → at ≡ at' → Ended s at stop a n → Ended s at' stop a n
  moved {stop = stop} {a = a} {n = n} e p = subst (λ (x : ℕ). Ended s x stop a n) e p

  headed_not : {n w v next i : ℕ} → NotHeaded s i → Headed s n w v next → ⊥
  headed_not (D.no_n x) h = ended_not x h.n_ends
  headed_not (D.no_w p x) h = ended_not x (moved (ended_one h.n_ends p).1 h.w_ends)
  headed_not (D.no_initial p q x) h = ended_not x (moved (ended_one (moved (ended_one h.n_ends p).1 h.w_ends) q).1 h.initial_ends)

  moved_not : {at at' stop i : ℕ} → at ≡ at' → NotEnded s at stop i → NotEnded s at' stop i
  moved_not {stop = stop} {i = i} e p = subst (λ (x : ℕ). NotEnded s x stop i) e p

  not_headed_one : {i j : ℕ} → NotHeaded s i → NotHeaded s j → i ≡ j
  not_headed_one (D.no_n x) (D.no_n y) = not_ended_one x y
  not_headed_one (D.no_n x) (D.no_w p y) = absurd (ended_not x p)
  not_headed_one (D.no_n x) (D.no_initial p q y) = absurd (ended_not x p)
  not_headed_one (D.no_w p x) (D.no_n y) = absurd (ended_not y p)
  not_headed_one (D.no_w p x) (D.no_w p₂ y) = not_ended_one (moved_not (ended_one p p₂).1 x) y
  not_headed_one (D.no_w p x) (D.no_initial p₂ q y) = absurd (ended_not (moved_not (ended_one p p₂).1 x) q)
  not_headed_one (D.no_initial p q x) (D.no_n y) = absurd (ended_not y p)
  not_headed_one (D.no_initial p q x) (D.no_w p₂ y) = absurd (ended_not (moved_not (ended_one p₂ p).1 y) q)
  not_headed_one (D.no_initial p q x) (D.no_initial p₂ q₂ y) = not_ended_one (moved_not (ended_one (moved (ended_one p p₂).1 q) q₂).1 x) y

  pub first_line_one : (r r' : Result First ℕ) → HeaderSays s r → HeaderSays s r' → r ≡ r'
  first_line_one (Ok f) (Ok g) p q =
      let e₁ = ended_one p.n_ends q.n_ends in
      let e₂ = ended_one (moved e₁.1 p.w_ends) q.w_ends in
      let e₃ = ended_one (moved e₂.1 p.initial_ends) q.initial_ends in
      ap Ok (λ i. record { n = e₁.0 i; w = e₂.0 i; initial = e₃.0 i; items = e₃.1 i })
  first_line_one (Ok f) (Err j) p q = absurd (headed_not q p)
  first_line_one (Err i) (Ok g) p q = absurd (headed_not p q)
  first_line_one (Err i) (Err j) p q = ap Err (not_headed_one p q)

  -- one end of gaps
  gaps_between : {at next : ℕ} → Gapped s at next → (i : ℕ) → at ≤ i → i < next → is_gap (kind_of (get_or s i 0)) ≡ true
  gaps_between D.stay i p q = absurd (omega arith)
  gaps_between (D.gap {next = next} g l e) i p q = below_or _ i next q (λ r. gaps_between g i p r) (λ r. ap (λ (x : ℕ). is_gap (kind_of (get_or s x 0))) r ∙ ap is_gap e)

  gap_first : {at n m : ℕ} → Skipped s at n → Skipped s at m → n < m → ⊥
  gap_first {n = n} p q l = true≢false (sym (gaps_between q.gaps n p.on l) ∙ p.stops (omega (arith, q.within)))

  pub skip_one : {at n m : ℕ} → Skipped s at n → Skipped s at m → n ≡ m
  skip_one {n = n} {m = m} p q = same_if n m (gap_first p q) (gap_first q p)

  -- one beginning of an item
  signed_one : (v place : ℕ) (k : Kind) (r r' : Beginning) → Signed s v place k r → Signed s v place k r' → r ≡ r'
  signed_one v place (Digit d) r r' p q = p ∙ sym q
  signed_one v place Gap r r' p q = p ∙ sym q
  signed_one v place (Marked m) r r' p q = p ∙ sym q
  signed_one v place Offer r r' p q = p.same ∙ ap (offer_of v) (number_at_one (place + 1) p.number q.number p.is q.is) ∙ sym q.same
  signed_one v place Open r r' p q = p ∙ sym q
  signed_one v place Close r r' p q = p ∙ sym q
  signed_one v place Other r r' p q = p ∙ sym q

  sign_one : (v place v' place' : ℕ) (k k' : Kind) (r r' : Beginning) → v ≡ v' → place ≡ place' → kind_of (get_or s place 0) ≡ k → kind_of (get_or s place' 0) ≡ k'
      → Signed s v place k r → Signed s v' place' k' r' → r ≡ r'
  sign_one v place v' place' k k' r r' e f g h p q =
      let kinds : k' ≡ k = sym h ∙ ap (λ (x : ℕ). kind_of (get_or s x 0)) (sym f) ∙ g in
      let there = subst (λ (x : ℕ). Signed s v' x k' r') (sym f) q in
      let of_v = subst (λ (x : ℕ). Signed s x place k' r') (sym e) there in
      signed_one v place k r r' p (subst (λ (x : Kind). Signed s v place x r') kinds of_v)

  pub begin_one : {at : ℕ} {r r' : Beginning} → Begins s at r → Begins s at r' → r ≡ r'
  begin_one (D.none x) (D.none y) = ap Err (none_one x y)
  begin_one (D.none x) (D.ends w h) = absurd (none_not x w)
  begin_one (D.none x) (D.signed w h e q) = absurd (none_not x w)
  begin_one (D.ends w h) (D.none y) = absurd (none_not y w)
  begin_one (D.ends w h) (D.ends w₂ h₂) = refl
  begin_one (D.ends w h) (D.signed w₂ h₂ e q) = absurd (omega (arith, (whole_one w w₂).1))
  begin_one (D.signed w h e q) (D.none y) = absurd (none_not y w)
  begin_one (D.signed w h e q) (D.ends w₂ h₂) = absurd (omega (arith, (whole_one w w₂).1))
  begin_one (D.signed {v = v} {place = place} {k = k} {r = r} w h e q) (D.signed {v = v'} {place = place'} {k = k'} {r = r'} w₂ h₂ e₂ q₂) =
      let o = whole_one w w₂ in sign_one v place v' place' k k' r r' o.0 o.1 e e₂ q q₂

  -- one thing that follows it
  behind_one : (n m : ℕ) {r r' : Following} → n ≡ m → Behind s n r → Behind s m r' → r ≡ r'
  behind_one n m o (D.ends h) (D.ends h₂) = cc
  behind_one n m o (D.ends h) (D.byte h₂ e q) = absurd (omega arith)
  behind_one n m o (D.byte h e q) (D.ends h₂) = absurd (omega arith)
  behind_one n m o (D.byte h e q) (D.byte h₂ e₂ q₂) = cc

  after_one : (at : ℕ) (k : Kind) (r r' : Following) → After s at k r → After s at k r' → r ≡ r'
  after_one at (Digit d) r r' p q = p ∙ sym q
  after_one at Gap r r' p q = behind_one p.next q.next (skip_one p.skipped q.skipped) p.behind q.behind
  after_one at (Marked m) r r' p q = p ∙ sym q
  after_one at Offer r r' p q = p ∙ sym q
  after_one at Open r r' p q = p ∙ sym q
  after_one at Close r r' p q = p ∙ sym q
  after_one at Other r r' p q = p ∙ sym q

  pub follow_one : {at : ℕ} {r r' : Following} → Follows s at r → Follows s at r' → r ≡ r'
  follow_one (D.ends h) (D.ends h₂) = refl
  follow_one (D.ends h) (D.byte h₂ e q) = absurd (omega arith)
  follow_one (D.byte h e q) (D.ends h₂) = absurd (omega arith)
  follow_one {at} (D.byte {k = k} {r = r} h e q) (D.byte {k = k'} {r = r'} h₂ e₂ q₂) = after_one at k r r' q (subst (λ (x : Kind). After s at x r') (sym e₂ ∙ e) q₂)
