-- The areas of a process: put and found, no part of an item or of another process's areas, and puts change places.
use mathlib.Core.Path.{◌≡◌, refl, sym, ap, ap₂, ◌∙◌}
use mathlib.Core.Logic.{◌≢◌}
use mathlib.Core.List.{List}
use Prim.Native.Nat.{ℕ, ◌+◌, ◌*◌, ◌≤◌, ◌<◌}
use native.Mathlib.Omega.{arith}
use lib.ListN.{length, get_or, set, take, drop}
use lib.Seq.{sets, length-sets}
use Rattle.model.specs.declared.BufferNumber.{BufferNumber}
use Rattle.llsc.specs.declared.ProcessNumber.{ProcessNumber}
use Rattle.model.specs.declared.Bench.{Bench}
use Rattle.model.specs.Words.{Layout, buffer_in, return_in, offer_in, word_of, half, with_half}
use Rattle.laws.proofs.ListFacts.{sets_out}
use Rattle.doings.specs.declared.Item.{Item}
use Rattle.doings.specs.declared.Item.TheVariants.{X, Bank, Help, Half}
use Rattle.doings.specs.Items.{InBench, Holding, half_holding, item_in, whole, put_in_words}
use Rattle.doings.specs.Own.{Own, own_in, put_areas}
use Rattle.doings.proofs.Windows.{set_sets, sets_comm, window_set, window_sets, window_put, sets_window, window_long}
use Rattle.doings.proofs.Layouts.{Laid, row_apart, rows_apart, row_fits}

-- areas of W words
pub record Areas {P : Type 0} (w : ℕ) (o : Own P) : Type 0 where
  pub returned : length o.returned ≡ w
  pub offered : length o.offered ≡ w

module _ {n rows : ℕ} {l : Layout} (laid : Laid n rows l) (w : ℕ) where
  -- p's areas, and a half word of BUF
  module _ (p : ProcessNumber) (hp : p.0 < n) (ws : List ℕ) where
    abbrev ra : ℕ
    ra = return_in l w p 0

    abbrev oa : ℕ
    oa = offer_in l w p 0

    pub areas_length : {P : Type 0} (o : Own P) → length (put_areas l w p o ws) ≡ length ws
    areas_length o = length-sets (sets ws ra o.returned) oa o.offered ∙ length-sets ws ra o.returned

    module _ (fits : rows * w ≤ length ws) where
      ra_fits : ra + w ≤ length ws
      ra_fits = row_fits (l.returns + p.0) rows w (length ws) (laid.return_below p.0 hp) fits

      oa_fits : oa + w ≤ length ws
      oa_fits = row_fits (l.offers + p.0) rows w (length ws) (laid.offer_below p.0 hp) fits

      pub own_areas : {P : Type 0} (q : P) → Areas w (own_in l w p q ws)
      own_areas q = record { returned = window_long ws ra w ra_fits; offered = window_long ws oa w oa_fits }

      pub areas_back : {P : Type 0} (q : P) → put_areas l w p (own_in l w p q ws) ws ≡ ws
      areas_back q = ap (λ (x : List ℕ). sets x oa (take w (drop oa ws))) (sets_window 0 ws ra w ra_fits) ∙ sets_window 0 ws oa w oa_fits

      pub own_put : {P : Type 0} (o : Own P) → Areas w o → own_in l w p o.process (put_areas l w p o ws) ≡ o
      own_put o f =
          let ws₁ = sets ws ra o.returned in let ws₂ = sets ws₁ oa o.offered in
          let apart = rows_apart w (l.returns + p.0) (l.offers + p.0) w (length o.offered) (laid.return_offer p.0 p.0 hp hp) refl f.offered in
          let back : take w (drop ra ws₂) ≡ o.returned =
          window_sets ws₁ o.offered ra w oa apart ∙ window_put ws o.returned ra w f.returned ra_fits in
          let room : oa + w ≤ length ws₁ = omega (arith, oa_fits, length-sets ws ra o.returned) in
          ap₂ (λ (r s : List ℕ). record { process = o.process; returned = r; offered = s }) back (window_put ws₁ o.offered oa w f.offered room)

    module _ (b : Bench) (e : b.n ≡ n) (v : b.w ≡ w) where
      -- a half word of BUF lies in no area
      outside : (f : BufferNumber) (k r : ℕ) → InBench b (Half f k) → l.buffer f.0 ≢ r → r * w + 0 ≤ buffer_in l w f (word_of k) → buffer_in l w f (word_of k) < r * w + 0 + w → ⊥
      outside f k r there ne = row_apart w (l.buffer f.0) r (word_of k) ne (omega (arith, there.word, v))

      not_returned : (f : BufferNumber) (k : ℕ) → InBench b (Half f k) → l.buffer f.0 ≢ l.returns + p.0
      not_returned f k there = laid.buffer_return f.0 p.0 (omega (arith, there.index, e)) hp

      not_offered : (f : BufferNumber) (k : ℕ) → InBench b (Half f k) → l.buffer f.0 ≢ l.offers + p.0
      not_offered f k there = laid.buffer_offer f.0 p.0 (omega (arith, there.index, e)) hp

      pub item_areas : {P : Type 0} (i : Item) → InBench b i → (h : Holding) (q : P) → own_in l w p q (put_in_words l w i h ws) ≡ own_in l w p q ws
      item_areas X there h q = refl
      item_areas (Bank i) there h q = refl
      item_areas (Help i) there h q = refl
      item_areas (Half f k) there h q =
          let at = buffer_in l w f (word_of k) in let new = with_half k (whole k h.first) (get_or ws at 0) in
          ap₂ (λ (r s : List ℕ). record { process = q; returned = r; offered = s })
          (window_set ws ra w at new (outside f k (l.returns + p.0) there (not_returned f k there)))
          (window_set ws oa w at new (outside f k (l.offers + p.0) there (not_offered f k there)))

      module _ {P : Type 0} (o : Own P) (f : Areas w o) where
        stays : (g : BufferNumber) (k : ℕ) → InBench b (Half g k) → get_or (put_areas l w p o ws) (buffer_in l w g (word_of k)) 0 ≡ get_or ws (buffer_in l w g (word_of k)) 0
        stays g k there =
            let at = buffer_in l w g (word_of k) in
            sets_out o.offered (sets ws ra o.returned) oa at 0 (λ x y. outside g k (l.offers + p.0) there (not_offered g k there) x (omega (arith, f.offered)))
            ∙ sets_out o.returned ws ra at 0 (λ x y. outside g k (l.returns + p.0) there (not_returned g k there) x (omega (arith, f.returned)))

        pub areas_item : (i : Item) → InBench b i → item_in l i b (put_areas l w p o ws) ≡ item_in l i b ws
        areas_item X there = refl
        areas_item (Bank i) there = refl
        areas_item (Help i) there = refl
        areas_item (Half g k) there =
            ap (λ (x : ℕ). half_holding (half k (get_or (put_areas l w p o ws) (buffer_in l x g (word_of k)) 0))) v
            ∙ ap (λ (x : ℕ). half_holding (half k x)) (stays g k there)
            ∙ ap (λ (x : ℕ). half_holding (half k (get_or ws (buffer_in l x g (word_of k)) 0))) (sym v)

        pub item_areas_swap : (i : Item) → InBench b i → (h : Holding) → put_in_words l w i h (put_areas l w p o ws) ≡ put_areas l w p o (put_in_words l w i h ws)
        item_areas_swap X there h = refl
        item_areas_swap (Bank i) there h = refl
        item_areas_swap (Help i) there h = refl
        item_areas_swap (Half g k) there h =
            let at = buffer_in l w g (word_of k) in let new = with_half k (whole k h.first) (get_or ws at 0) in
            let first = set_sets ws o.returned at ra new (λ x y. outside g k (l.returns + p.0) there (not_returned g k there) x (omega (arith, f.returned))) in
            let ws₁ = sets ws ra o.returned in
            let second = set_sets ws₁ o.offered at oa new (λ x y. outside g k (l.offers + p.0) there (not_offered g k there) x (omega (arith, f.offered))) in
            ap (λ (x : ℕ). set (put_areas l w p o ws) at (with_half k (whole k h.first) x)) (stays g k there)
            ∙ sym (ap (λ (x : List ℕ). sets x oa o.offered) first ∙ second)

  -- the areas of two processes
  module _ (p q : ProcessNumber) (hp : p.0 < n) (hq : q.0 < n) (ne : q.0 ≢ p.0) (ws : List ℕ) {P : Type 0} (o : Own P) (f : Areas w o) where
    pub areas_other : (x : P) → own_in l w q x (put_areas l w p o ws) ≡ own_in l w q x ws
    areas_other x =
        let kept : (t : ℕ) → t ≢ l.returns + p.0 → t ≢ l.offers + p.0 → take w (drop (t * w + 0) (put_areas l w p o ws)) ≡ take w (drop (t * w + 0) ws) =
        λ t a c. window_sets (sets ws (return_in l w p 0) o.returned) o.offered (t * w + 0) w (offer_in l w p 0) (rows_apart w t (l.offers + p.0) w (length o.offered) c refl f.offered)
        ∙ window_sets ws o.returned (t * w + 0) w (return_in l w p 0) (rows_apart w t (l.returns + p.0) w (length o.returned) a refl f.returned) in
        ap₂ (λ (r s : List ℕ). record { process = x; returned = r; offered = s })
        (kept (l.returns + q.0) (λ e. ne (omega arith)) (laid.return_offer q.0 p.0 hq hp))
        (kept (l.offers + q.0) (λ e. laid.return_offer p.0 q.0 hp hq (sym e)) (λ e. ne (omega arith)))

    pub areas_swap : (g : Own P) → Areas w g → put_areas l w q g (put_areas l w p o ws) ≡ put_areas l w p o (put_areas l w q g ws)
    areas_swap g y =
        let r = l.returns + p.0 in let s = l.offers + p.0 in let t = l.returns + q.0 in let u = l.offers + q.0 in
        let swap : (k m : ℕ) (us vs xs : List ℕ) → k ≢ m → length us ≡ w → length vs ≡ w
        → sets (sets xs (k * w + 0) us) (m * w + 0) vs ≡ sets (sets xs (m * w + 0) vs) (k * w + 0) us =
        λ k m us vs xs e a c. sets_comm xs us vs (k * w + 0) (m * w + 0) (rows_apart w k m (length us) (length vs) e a c) in
        let rt : r ≢ t = λ e. ne (omega arith) in
        let su : s ≢ u = λ e. ne (omega arith) in
        let st : s ≢ t = λ e. laid.return_offer q.0 p.0 hq hp (sym e) in
        let ru : r ≢ u = laid.return_offer p.0 q.0 hp hq in
        ap (λ (x : List ℕ). sets x (u * w + 0) g.offered)
        (swap s t o.offered g.returned (sets ws (r * w + 0) o.returned) st f.offered y.returned
        ∙ ap (λ (x : List ℕ). sets x (s * w + 0) o.offered) (swap r t o.returned g.returned ws rt f.returned y.returned))
        ∙ swap s u o.offered g.offered (sets (sets ws (t * w + 0) g.returned) (r * w + 0) o.returned) su f.offered y.offered
        ∙ ap (λ (x : List ℕ). sets x (s * w + 0) o.offered) (swap r u o.returned g.offered (sets ws (t * w + 0) g.returned) ru f.returned y.offered)
