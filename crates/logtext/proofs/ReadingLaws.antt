-- One byte after the other: what is left of a text, read on, gives what all of it gives.
use mathlib.Core.Path.{◌≡◌, refl, sym, ap, ap₂, ◌∙◌}
use Prim.Native.Nat.{ℕ, suc, ◌+◌, ◌-◌, ◌^◌, ◌≤◌, ◌<◌}
use mathlib.Core.List.{List, [], ◌∷◌, ◌++◌}
use mathlib.Core.Bool.{Bool, true, false, cond}
use native.Mathlib.Omega.{arith}
use native.Mathlib.Numerals.{add-one}
use lib.Dec.{ltb}
use lib.ListN.{length, get_or, set, take, drop, length-append, length-drop, drop_of_length-le}
use lib.Seq.{sets, length-sets, drop-cons, take_all}
use borrow.Author.Tests.{ltb-true}
use Rattle.laws.proofs.ListLaws.{sets_append}
use Rattle.verdicts.specs.declared.Judgement.{Judgement}
use Rattle.verdicts.specs.Reasons.{judged_with_reason}
use Rattle.std.specs.Prelude.{Option, None, Some, is_some}
use Rattle.logtext.specs.declared.Fault.{Fault}
use Rattle.logtext.specs.declared.Fault.TheVariants.{StrayByte, TooLarge, TooMany}
use Rattle.logtext.specs.declared.Reading.{Reading}
use Rattle.logtext.specs.Numbers.{Scan, begin, stopped, is_digit, is_gap, longer, digit_taken, ended, closed, byte_taken, scan, read_numbers, judged_numbers}
use Rattle.logtext.specs.Readings.{counted, read_into, text_into, stopped_at, digit_read, ended_into, closed_into, byte_into}

-- a digit
module _ (d : ℕ) (r : Reading) where
  abbrev next : Reading
  next = record { fault = None; number = Some (longer r.number d); count = r.count }

-- the end of a number
module _ (r : Reading) (ns : List ℕ) where
  -- the number is closed, were there room as the truth says
  abbrev ends : ℕ → Bool → Reading × List ℕ
  ends n c = cond c (record { fault = None; number = None; count = r.count + 1 }, set ns r.count n) (stopped_at TooMany r, ns)

  -- a byte
  abbrev class : Bool → Bool → ℕ → Reading × List ℕ
  class digit gap b = cond digit (digit_read (b - 48) r, ns) (cond gap (closed_into r ns) (stopped_at StrayByte r, ns))

-- what the code holds of a reading is that reading still, once a number is closed or a byte read
module _ (ns : List ℕ) (s : Scan) where
  abbrev room : ℕ
  room = length ns

  abbrev held : List ℕ
  held = (read_into ns s).1

  long : length held ≡ room
  long = length-sets ns 0 s.got

  -- one number more
  put : (n : ℕ) → set held (length s.got) n ≡ sets ns 0 (s.got ++ (n ∷ []))
  put n =
      let from : 0 + length s.got ≡ length s.got = omega arith in
      sym (sets_append ns 0 s.got (n ∷ []) ∙ ap (λ (k : ℕ). set held k n) from)

  close_held : closed_into (counted s) held ≡ read_into ns (closed room s)
  close_held = go s.number
    where
      by : (n : ℕ) (c : Bool) → ends (counted s) held n c
          ≡ read_into ns (cond c (record { fault = None; number = None; got = s.got ++ (n ∷ []) }) (stopped TooMany s))
      by n true =
          ap₂ (λ (k : ℕ) (l : List ℕ). (record { fault = None; number = None; count = k }, l)) (sym (length-append s.got (n ∷ []))) (put n)
      by n false = refl

      go : (o : Option ℕ) → ended_into o (counted s) held ≡ read_into ns (ended o room s)
      go None = refl
      go (Some n) = ap (λ (k : ℕ). ends (counted s) held n (ltb (length s.got) k)) long ∙ by n (ltb (length s.got) room)

  digit_held : (d : ℕ) → (digit_read d (counted s), held) ≡ read_into ns (digit_taken d s)
  digit_held d = go (ltb (longer s.number d) (2 ^ 64))
    where
      go : (b : Bool) → (cond b (next d (counted s)) (stopped_at TooLarge (counted s)), held)
          ≡ read_into ns (cond b (record { fault = None; number = Some (longer s.number d); got = s.got }) (stopped TooLarge s))
      go true = refl
      go false = refl

  byte_held : (b : ℕ) → byte_into b (counted s) held ≡ read_into ns (byte_taken room b s)
  byte_held b = go (is_digit b) (is_gap b)
    where
      go : (digit gap : Bool) → class (counted s) held digit gap b
          ≡ read_into ns (cond digit (digit_taken (b - 48) s) (cond gap (closed room s) (stopped StrayByte s)))
      go true gap = digit_held (b - 48)
      go false true = close_held
      go false false = refl

  -- there was room for what was read
  close_fits : length s.got ≤ room → length (closed room s).got ≤ room
  close_fits h = go s.number
    where
      by : (n : ℕ) (c : Bool) → ltb (length s.got) room ≡ c
          → length (cond c (record { fault = None; number = None; got = s.got ++ (n ∷ []) }) (stopped TooMany s)).got ≤ room
      by n true e = omega (arith, length-append s.got (n ∷ []), ltb-true (length s.got) room e)
      by n false e = h

      go : (o : Option ℕ) → length (ended o room s).got ≤ room
      go None = h
      go (Some n) = by n (ltb (length s.got) room) refl

  byte_fits : (b : ℕ) → length s.got ≤ room → length (byte_taken room b s).got ≤ room
  byte_fits b h = go (is_digit b) (is_gap b) (ltb (longer s.number (b - 48)) (2 ^ 64))
    where
      go : (digit gap small : Bool)
          → length (cond digit (cond small (record { fault = None; number = Some (longer s.number (b - 48)); got = s.got }) (stopped TooLarge s))
          (cond gap (closed room s) (stopped StrayByte s))).got ≤ room
      go true gap true = h
      go true gap false = h
      go false true small = close_fits h
      go false false small = h

-- byte after byte: the reading that the code holds, and what is left of the text, read on, gives what all of it gives
pub record ReadInv (text lent ns : List ℕ) (r : Reading) (i : ℕ) : Type 0 where
  pub reading : Scan
  pub held : (r, ns) ≡ read_into lent reading
  pub fits : length reading.got ≤ length lent
  pub counts : r.count ≤ length ns
  pub same : scan (length lent) (drop i text) reading ≡ read_numbers (length lent) text

pub read_begin : (text lent : List ℕ) → ReadInv text lent lent (record { fault = None; number = None; count = 0 }) 0
read_begin text lent = record { reading = begin; held = refl; fits = omega arith; counts = omega arith; same = refl }

-- the lent list keeps its length
into_long : (lent : List ℕ) (s : Scan) {ns : List ℕ} {r : Reading} → (r, ns) ≡ read_into lent s → length ns ≡ length lent
into_long lent s e = ap (λ (x : Reading × List ℕ). length x.1) e ∙ length-sets lent 0 s.got

module _ (text lent ns : List ℕ) (r : Reading) (i : ℕ) (v : ReadInv text lent ns r i) where
  module _ (h : i < length text) (t : Reading) (ms : List ℕ) (e : (t, ms) ≡ byte_into (get_or text i 0) r ns) where
    abbrev u : Scan
    u = byte_taken (length lent) (get_or text i 0) v.reading

    is : (t, ms) ≡ read_into lent u
    is = e ∙ ap (λ (x : Reading × List ℕ). byte_into (get_or text i 0) x.0 x.1) v.held ∙ byte_held lent v.reading (get_or text i 0)

    first : read_numbers (length lent) text ≡ cond (is_some t.fault) u (scan (length lent) (drop (suc i) text) u)
    unfolding scan
    first =
        sym v.same ∙ ap (λ bs. scan (length lent) bs v.reading) (drop-cons text i 0 h)
        ∙ ap (λ (k : Option Fault). cond (is_some k) u (scan (length lent) (drop (suc i) text) u)) (sym (ap (λ (x : Reading × List ℕ). x.0.fault) is))

    pub read_stop : is_some t.fault ≡ true → (t, ms) ≡ text_into text lent
    read_stop e = is ∙ sym (ap (read_into lent) (first ∙ ap (λ b. cond b u (scan (length lent) (drop (suc i) text) u)) e))

    pub read_go : is_some t.fault ≡ false → ReadInv text lent ms t (i + 1)
    read_go z = record {
      reading = u;
      held = is;
      fits = byte_fits lent v.reading (get_or text i 0) v.fits;
      counts = omega (arith, ap (λ (x : Reading × List ℕ). x.0.count) is, into_long lent u is, byte_fits lent v.reading (get_or text i 0) v.fits);
      same = ap (λ (j : ℕ). scan (length lent) (drop j text) u) (add-one i) ∙ sym (first ∙ ap (λ b. cond b u (scan (length lent) (drop (suc i) text) u)) z);
    }

  pub read_end : length text ≤ i → (t : Reading) (ms : List ℕ) → (t, ms) ≡ closed_into r ns → (t, ms) ≡ text_into text lent
  unfolding scan
  read_end h t ms e =
      e ∙ ap (λ (x : Reading × List ℕ). closed_into x.0 x.1) v.held ∙ close_held lent v.reading
      ∙ ap (read_into lent) (sym (ap (λ bs. scan (length lent) bs v.reading) (drop_of_length-le text {i = i} h)) ∙ v.same)

-- the numbers parted: what is left of the slices
module _ (ns : List ℕ) where
  abbrev w : ℕ
  w = get_or ns 1 0

  from : (k : ℕ) (ms : List ℕ) → take (length ms - k) (drop k ms) ≡ drop k ms
  from k ms = take_all (length ms - k) (drop k ms) (let z = length-drop k ms in omega (arith, z))

  abbrev part : List ℕ
  part = take (length ns - 2) (drop 2 ns)

  pub judged_whole : w ≤ length part → (r : Judgement) → r ≡ judged_with_reason (get_or ns 0 0) w (take w part) (take (length part - w) (drop w part)) → r ≡ judged_numbers ns
  judged_whole h r e = e ∙ ap (judged_with_reason (get_or ns 0 0) w (take w part)) (from w part) ∙ ap (λ ms. judged_with_reason (get_or ns 0 0) w (take w ms) (drop w ms)) (from 2 ns)

  pub judged_short : length part < w → (r : Judgement) → r ≡ judged_with_reason (get_or ns 0 0) w part (take (length part - length part) (drop (length part) part)) → r ≡ judged_numbers ns
  judged_short h r e =
      let none : drop (length part) part ≡ drop w part = drop_of_length-le part {i = length part} (omega arith) ∙ sym (drop_of_length-le part {i = w} (omega arith)) in
      e ∙ ap₂ (judged_with_reason (get_or ns 0 0) w) (sym (take_all w part (omega arith))) (from (length part) part ∙ none)
      ∙ ap (λ ms. judged_with_reason (get_or ns 0 0) w (take w ms) (drop w ms)) (from 2 ns)
