-- Laws of the list of entries and places: nothing, one of them, some after others, turns of a group, and the whole list.
use Prim.Native.Nat.{ℕ, zero, suc, ◌+◌, ◌-◌, ◌*◌, ◌≤◌, ◌<◌, min}
use mathlib.Core.Path.{◌≡◌, refl, sym, ap, ◌∙◌}
use mathlib.Core.List.{List, [], ◌∷◌, ◌++◌, map}
use native.Mathlib.Omega.{arith}
use native.Mathlib.Nat.{add_comm, zero-mul, suc-mul, mul-le-mul_right, one-mul}
use native.Mathlib.Decide.{dec_le, dec_lt}
use lib.ListN.{length, take, get_or, length-append, length-take, length-map, get_or-append, get_or-map}
use lib.Seq.{get_or-append-add, get_or-take, ext_get_or}
use Rattle.notation.specs.declared.Entry.{Entry}
use Rattle.notation.specs.Grammar.{times}
use Rattle.notation.specs.EntryWords.{entry_in, kept_entry, place_in}
use Rattle.notation.specs.Listed.{same_place, Kept, Lists, Repeated}
use Rattle.notation.proofs.GroupLaws.{times_snoc}

-- inside a list it doesn't matter what stands past its end
get_d_any : {A : Type 0} (l : List A) (i : ℕ) (a b : A) → i < length l → get_or l i a ≡ get_or l i b
get_d_any [] i a b h = absurd (omega arith)
get_d_any (x ∷ l) zero a b h = refl
get_d_any (x ∷ l) (suc i) a b h = get_d_any l i a b (omega arith)

-- n turns: how many, the first, and each like the one before it
module _ {A : Type 0} where
  pub length_times : (n : ℕ) (xs : List A) → length (times n xs) ≡ n * length xs
  unfolding times
  length_times zero xs = sym (zero-mul (length xs))
  length_times (suc n) xs = omega (arith, length-append xs (times n xs), length_times n xs, suc-mul n (length xs))

  times_first : (n i : ℕ) (xs : List A) (none : A) → 0 < n → i < length xs → get_or (times n xs) i none ≡ get_or xs i none
  unfolding times
  times_first zero i xs none t h = absurd (omega arith)
  times_first (suc n) i xs none t h = get_or-append xs (times n xs) none i h

  times_again : (n i : ℕ) (xs : List A) (none : A) → i + length xs < n * length xs
      → get_or (times n xs) (i + length xs) none ≡ get_or (times n xs) i none
  unfolding times
  times_again zero i xs none h = absurd (omega (arith, zero-mul (length xs)))
  times_again (suc n) i xs none h =
      let inside : i < length (times n xs) = omega (arith, length_times n xs, suc-mul n (length xs)) in
      ap (λ (x : ℕ). get_or (xs ++ times n xs) x none) (add_comm i (length xs)) ∙ get_or-append-add xs (times n xs) i none
      ∙ sym (ap (λ (x : List A). get_or x i none) (times_snoc n xs) ∙ get_or-append (times n xs) xs none i inside)

module _ {A B : Type 0} {f : ℕ → B} {g : A → B} {none : A} where
  -- nothing
  kept_none : {list : List ℕ} {from : ℕ} → from ≤ length list → Kept f g none list list from from []
  kept_none h = record { to_is = omega arith; lent = refl; before = λ i l. refl; listed = λ i l. absurd (omega arith) }

  -- some after others
  module _ {list list₁ list₂ : List ℕ} {from mid to : ℕ} {xs ys : List A} (fits : from ≤ length list)
      (x : Kept f g none list list₁ from mid xs) (y : Kept f g none list₁ list₂ mid to ys) where
    then_to : to ≡ min (length list) (from + length (xs ++ ys))
    then_to = omega (arith, x.to_is, x.lent, y.to_is, length-append xs ys)

    then_listed : (i : ℕ) → from + i < to → f (get_or list₂ (from + i) 0) ≡ g (get_or (xs ++ ys) i none)
    then_listed i h = go (dec_lt (from + i) mid)
      where
        go : Dec (from + i < mid) → f (get_or list₂ (from + i) 0) ≡ g (get_or (xs ++ ys) i none)
        go (yes k) =
            let inside : i < length xs = omega (arith, x.to_is) in
            ap f (y.before (from + i) k) ∙ x.listed i k ∙ ap g (sym (get_or-append xs ys none i inside))
        go (no k) =
            let j = i - length xs in
            let at : from + i ≡ mid + j = omega (arith, k, x.to_is, x.lent, y.to_is) in
            let past : length xs + j ≡ i = omega (arith, k, x.to_is, x.lent, y.to_is) in
            ap (λ (n : ℕ). f (get_or list₂ n 0)) at ∙ y.listed j (omega (arith, at))
            ∙ ap g (sym (get_or-append-add xs ys j none) ∙ ap (λ (n : ℕ). get_or (xs ++ ys) n none) past)

    kept_then : Kept f g none list list₂ from to (xs ++ ys)
    kept_then = record {
      to_is = then_to;
      lent = y.lent ∙ x.lent;
      before = λ i l. y.before i (omega (arith, x.to_is)) ∙ x.before i l;
      listed = then_listed;
    }

  -- the turns of a group: the first is read, the others are copies of it
  module _ {list list₁ list₂ : List ℕ} {from to n end : ℕ} {xs : List A} (fits : from ≤ length list) (t : 0 < n)
      (x : Kept f g none list list₁ from to xs) (r : Repeated list₁ list₂ from to n end) where
    some_turn : {a : ℕ} → a ≤ n * a
    some_turn {a} = omega (arith, mul-le-mul_right a t, one-mul a)

    turns_to : end ≡ min (length list) (from + length (times n xs))
    turns_to = go (dec_le (from + length xs) (length list))
      where
        go : Dec (from + length xs ≤ length list) → end ≡ min (length list) (from + length (times n xs))
        go (yes h) =
            let size : to - from ≡ length xs = omega (arith, x.to_is) in
            omega (arith, r.ends.is, x.lent, length_times n xs, ap (λ (a : ℕ). n * a) size)
        go (no h) = omega (arith, h, r.ends.is, x.to_is, x.lent, length_times n xs, some_turn {a = to - from}, some_turn {a = length xs})

    turn_listed : (i : ℕ) → from + i < end → ((j : ℕ) → j < i → from + j < end → f (get_or list₂ (from + j) 0) ≡ g (get_or (times n xs) j none))
        → f (get_or list₂ (from + i) 0) ≡ g (get_or (times n xs) i none)
    turn_listed i h ih = go (dec_lt (from + i) to)
      where
        go : Dec (from + i < to) → f (get_or list₂ (from + i) 0) ≡ g (get_or (times n xs) i none)
        go (yes k) =
            let inside : i < length xs = omega (arith, x.to_is) in
            ap f (r.before (from + i) k) ∙ x.listed i k ∙ ap g (sym (times_first n i xs none t inside))
        go (no k) =
            let j = i - length xs in
            let turned : from < to = r.ends.some (omega (arith, k)) in
            let size : to - from ≡ length xs = omega (arith, k, x.to_is, x.lent, r.ends.within) in
            let back : from + i - (to - from) ≡ from + j = omega (arith, k, x.to_is, x.lent, r.ends.within) in
            let past : j + length xs ≡ i = omega (arith, k, x.to_is, x.lent, r.ends.within) in
            let within : j + length xs < n * length xs = omega (arith, r.ends.is, ap (λ (a : ℕ). n * a) size) in
            ap f (r.again (from + i) (omega (arith, k)) h ∙ ap (λ (a : ℕ). get_or list₂ a 0) back)
            ∙ ih j (omega arith) (omega arith)
            ∙ ap g (sym (times_again n j xs none within) ∙ ap (λ (a : ℕ). get_or (times n xs) a none) past)

    turns_listed : (m i : ℕ) → i < m → from + i < end → f (get_or list₂ (from + i) 0) ≡ g (get_or (times n xs) i none)
    turns_listed zero i l h = absurd (omega arith)
    turns_listed (suc m) i l h = turn_listed i h (λ j k o. turns_listed m j (omega arith) o)

    kept_turns : Kept f g none list list₂ from end (times n xs)
    kept_turns = record {
      to_is = turns_to;
      lent = r.lent ∙ x.lent;
      before = λ i l. r.before i (omega (arith, x.to_is)) ∙ x.before i l;
      listed = λ i h. turns_listed (suc i) i (omega arith) h;
    }

  -- the whole list, as its reader finds it
  module _ {list list' : List ℕ} {to : ℕ} {xs : List A} (x : Kept f g none list list' 0 to xs) where
    whole_within : to ≤ length list'
    whole_within = omega (arith, x.to_is, x.lent)

    whole_list : map f (take to list') ≡ map g (take (length list) xs)
    whole_list = ext_get_or (f 0) (map f (take to list')) (map g (take (length list) xs)) sizes each
      where
        length_left : length (map f (take to list')) ≡ to
        length_left = length-map (take to list') f ∙ omega (arith, length-take to list', whole_within)

        length_right : length (map g (take (length list) xs)) ≡ to
        length_right = length-map (take (length list) xs) g ∙ omega (arith, length-take (length list) xs, x.to_is)

        sizes : length (map f (take to list')) ≡ length (map g (take (length list) xs))
        sizes = length_left ∙ sym length_right

        each : (i : ℕ) → i < length (map f (take to list')) → get_or (map f (take to list')) i (f 0) ≡ get_or (map g (take (length list) xs)) i (f 0)
        each i h =
            let here : i < to = omega (arith, length_left) in
            let there : i < length (map g (take (length list) xs)) = omega (arith, sizes) in
            let at : 0 + i ≡ i = omega arith in
            get_or-map f (take to list') i 0 ∙ ap f (get_or-take to list' i 0 here ∙ ap (λ (a : ℕ). get_or list' a 0) (sym at))
            ∙ x.listed i (omega arith) ∙ ap g (sym (get_or-take (length list) xs i none (omega (arith, x.to_is))))
            ∙ sym (get_or-map g (take (length list) xs) i none)
            ∙ get_d_any (map g (take (length list) xs)) i (g none) (f 0) there

-- entries and their places
pub lists_none : {list : List ℕ} {from : ℕ} → from ≤ length list → Lists list list from from [] []
lists_none h = record { entries = kept_none h; places = kept_none h }

pub lists_then : {list list₁ list₂ : List ℕ} {from mid to : ℕ} {es fs : List Entry} {ps qs : List ℕ} → from ≤ length list
    → Lists list list₁ from mid es ps → Lists list₁ list₂ mid to fs qs → Lists list list₂ from to (es ++ fs) (ps ++ qs)
lists_then fits x y = record { entries = kept_then fits x.entries y.entries; places = kept_then fits x.places y.places }

pub lists_turns : {list list₁ list₂ : List ℕ} {from to n end : ℕ} {es : List Entry} {ps : List ℕ} → from ≤ length list → 0 < n
    → Lists list list₁ from to es ps → Repeated list₁ list₂ from to n end → Lists list list₂ from end (times n es) (times n ps)
lists_turns fits t x r = record { entries = kept_turns fits t x.entries r; places = kept_turns fits t x.places r }

module _ {list list' : List ℕ} {to : ℕ} {es : List Entry} {ps : List ℕ} (x : Lists list list' 0 to es ps) where
  pub kept_entries : map entry_in (take to list') ≡ map kept_entry (take (length list) es)
  kept_entries = whole_list x.entries

  pub kept_places : map place_in (take to list') ≡ map same_place (take (length list) ps)
  kept_places = whole_list x.places
