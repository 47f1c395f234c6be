-- The marks of a trace line by line; bytes, marks and lines written one after the other.
use mathlib.Core.Path.{◌≡◌, refl, sym, ap, subst, ◌∙◌}
use mathlib.Core.List.{List, [], ◌∷◌, ◌++◌}
use mathlib.Core.Bool.{Bool, true, false, not, cond}
use Prim.Native.Nat.{ℕ, suc, ◌+◌, ◌-◌, ◌*◌, ◌≤◌, ◌<◌}
use native.Mathlib.Omega.{arith}
use lib.Dec.{eqb, ltb}
use lib.ListN.{length, get_or, set, take}
use lib.Seq.{sets}
use borrow.Author.Tests.{eqb-true, eqb-false, lt-ltb, le-ltb, ltb-true, ltb-false}
use Rattle.listing.specs.Lines.{line_feed}
use Rattle.listing.specs.declared.Writer.{Writer}
use Rattle.listing.specs.Writing.{Wrote, Writes}
use Rattle.listing.proofs.WritingLaws.{then, wrote, written, writes_then, writes_same}
use Rattle.listing.proofs.LineLaws.{take_more}
use Rattle.std.specs.Prelude.{Option, Some, None, MatchOption, position}
use Rattle.std.specs.List.{position_or_len}
use Rattle.answers.specs.Readers.{Text}
use Rattle.marking.specs.declared.Line.{Line}
use Rattle.marking.specs.Marks.{may_swap}
use Rattle.marking.specs.Reading.{line_in}
use Rattle.marking.specs.Marked.{mark_text, marked_from, marked}
use Rattle.marking.specs.CopiedLines.{is_feed, line_bytes, behind, LineEnd, CopiedLine}

-- in a line, up to its end
line_split : (before : Option Line) (bs : List ℕ) → marked_from false before bs ≡ line_bytes bs ++ marked_from true before (behind bs)
unfolding marked_from line_bytes behind
line_split before [] = refl
line_split before (b ∷ bs) = by (eqb b line_feed) (line_split before bs)
  where
    by : (t : Bool) → marked_from false before bs ≡ line_bytes bs ++ marked_from true before (behind bs)
        → b ∷ marked_from t before bs ≡ (b ∷ cond t [] (line_bytes bs)) ++ marked_from true before (cond t bs (behind bs))
    by true e = refl
    by false e = ap (λ (x : List ℕ). b ∷ x) e

-- a line: its mark, its bytes, and the rest
abbrev ByLine : Option Line → List ℕ → Type 0
ByLine before bs = marked_from true before bs ≡ mark_text (may_swap before (line_in bs)) ++ (line_bytes bs ++ marked_from true (line_in bs) (behind bs))

pub marked_line : (before : Option Line) (b : ℕ) (bs : List ℕ) → ByLine before (b ∷ bs)
unfolding marked_from
marked_line before b bs =
    ap (λ (x : List ℕ). mark_text (may_swap before (line_in (b ∷ bs))) ++ x) (line_split (line_in (b ∷ bs)) (b ∷ bs))

pub marked_none : (before : Option Line) → marked_from true before [] ≡ []
unfolding marked_from
marked_none before = refl

pub marked_first : (before : Option Line) (bs : List ℕ) → 0 < length bs → ByLine before bs
marked_first before [] h = absurd (omega arith)
marked_first before (b ∷ bs) h = marked_line before b bs

-- where the first line ends, as the library looks for its line feed
module _ (b : ℕ) (bs : List ℕ) where
  feed_here : is_feed b ≡ true → LineEnd (b ∷ bs) 1
  unfolding line_bytes behind
  feed_here e = record {
    within = omega arith;
    line = sym (ap (λ (t : Bool). b ∷ cond t [] (line_bytes bs)) e);
    left = sym (ap (λ (t : Bool). cond t bs (behind bs)) e);
  }

  feed_later : {k : ℕ} → is_feed b ≡ false → LineEnd bs k → LineEnd (b ∷ bs) (suc k)
  unfolding line_bytes behind
  feed_later {k} e end = record {
    within = let h = end.within in omega (arith, h);
    line = ap (λ (x : List ℕ). b ∷ x) end.line ∙ sym (ap (λ (t : Bool). b ∷ cond t [] (line_bytes bs)) e);
    left = end.left ∙ sym (ap (λ (t : Bool). cond t bs (behind bs)) e);
  }

abbrev feed_at : List ℕ → ℕ
feed_at bs = position_or_len is_feed bs

-- behind the line feed, or at the end of a text with none
abbrev end_of : ℕ → ℕ → ℕ
end_of n l = cond (ltb n l) (n + 1) l

feed_end : (bs : List ℕ) → LineEnd bs (end_of (feed_at bs) (length bs))
unfolding line_bytes behind
feed_end [] = record { within = omega arith; line = refl; left = refl }
feed_end (b ∷ bs) = by (is_feed b) refl (feed_end bs)
  where
    further : (n l : ℕ) (t : Bool) → ltb n l ≡ t → suc (cond t (n + 1) l) ≡ end_of (1 + n) (suc l)
    further n l true h = rw (lt-ltb (1 + n) (suc l) (let z = ltb-true n l h in omega (arith, z))) (omega arith)
    further n l false h = rw (le-ltb (1 + n) (suc l) (let z = ltb-false n l h in omega (arith, z))) refl

    by : (t : Bool) → is_feed b ≡ t → LineEnd bs (end_of (feed_at bs) (length bs)) → LineEnd (b ∷ bs) (end_of (cond (not t) (1 + feed_at bs) 0) (length (b ∷ bs)))
    by true e end = let one : end_of 0 (length (b ∷ bs)) ≡ 1 = rw (lt-ltb 0 (length (b ∷ bs)) (omega arith)) refl in subst (LineEnd (b ∷ bs)) (sym one) (feed_here b bs e)
    by false e end = subst (LineEnd (b ∷ bs)) (further (feed_at bs) (length bs) (ltb (feed_at bs) (length bs)) refl) (feed_later b bs e end)

pub line_end_found : (bs : List ℕ) {o : Option ℕ} {k : ℕ} {Q : ℕ → Type 0} → o ≡ position is_feed bs
    → MatchOption o (k ≡ length bs) Q → ((i : ℕ) → Q i → k ≡ i + 1) → LineEnd bs k
line_end_found bs {o} {k} {Q} e m q = by (ltb (feed_at bs) (length bs)) (feed_end bs) (subst (λ (x : Option ℕ). MatchOption x (k ≡ length bs) Q) e m)
  where
    by : (t : Bool) → LineEnd bs (cond t (feed_at bs + 1) (length bs)) → MatchOption (cond t (Some (feed_at bs)) None) (k ≡ length bs) Q → LineEnd bs k
    by true end m = subst (LineEnd bs) (sym (q (feed_at bs) m)) end
    by false end m = subst (LineEnd bs) (sym m) end

-- a line and what is behind it are the bytes, and a line has one
pub line_lengths : (bs : List ℕ) → length (line_bytes bs) + length (behind bs) ≡ length bs
unfolding line_bytes behind
line_lengths [] = refl
line_lengths (b ∷ bs) = by (eqb b line_feed) (line_lengths bs)
  where
    by : (t : Bool) → length (line_bytes bs) + length (behind bs) ≡ length bs
        → length (b ∷ cond t [] (line_bytes bs)) + length (cond t bs (behind bs)) ≡ length (b ∷ bs)
    by true e = omega arith
    by false e = omega (arith, e)

pub line_some : (bs : List ℕ) → 0 < length bs → 0 < length (line_bytes bs)
unfolding line_bytes
line_some [] h = absurd (omega arith)
line_some (b ∷ bs) h = omega arith

-- `rest` is still to be written
abbrev pub Still : List ℕ → ℕ → List ℕ → List ℕ → ℕ → List ℕ → Type 0
Still l i all out next rest = Wrote l i all (sets out next rest) (next + length rest)

module _ {l : List ℕ} {i : ℕ} {all : List ℕ} where
  none_left : {out : List ℕ} {next : ℕ} {rest : List ℕ} → rest ≡ [] → Still l i all out next rest → Wrote l i all out next
  none_left {out} {next} e w =
      let z = subst (λ (x : List ℕ). Still l i all out next x) e w in record { place = omega (arith, z.place); list = z.list }

  part_done : {out out' : List ℕ} {next next' : ℕ} {both : List ℕ} (a rest : List ℕ) → both ≡ a ++ rest
      → Wrote out next a out' next' → Still l i all out next both → Still l i all out' next' rest
  part_done {out} {out'} {next} {next'} a rest e w s =
      let here : Wrote out' next' rest (sets out' next' rest) (next' + length rest) = record { place = refl; list = refl } in
      let both = then w here in
      let z = subst (λ (x : List ℕ). Still l i all out next x) e s in
      record { place = both.place ∙ z.place; list = both.list ∙ z.list }

-- the loop over the bytes that are written: one more of them stands, or is where there is no room
pub byte_put : {u v w : Writer} (bs : List ℕ) (i : ℕ) → i < length bs → Writes u (take i bs) v → w.list.ghost_name ≡ v.list.ghost_name
    → w.list.now ≡ set v.list.now v.written (get_or bs i 0) → w.written ≡ v.written + 1 → Writes u (take (i + 1) bs) w
byte_put bs i h p same e k = writes_same (take_more bs i h) (writes_then p (written same (record { place = k; list = e })))

-- the bytes after the loop are those that the writer had
pub in_list : {out l l' bs : List ℕ} {k : ℕ} → l' ≡ l → Wrote out 0 bs l k → Wrote out 0 bs l' k
in_list {out} {bs = bs} {k = k} e w = subst (λ (x : List ℕ). Wrote out 0 bs x k) (sym e) w

-- the loop over the lines
pub no_bytes : (bs : List ℕ) → eqb (length bs) 0 ≡ true → bs ≡ []
no_bytes [] e = refl
no_bytes (b ∷ bs) e = absurd (omega (arith, eqb-true (length (b ∷ bs)) 0 e))

pub some_bytes : (bs : List ℕ) → eqb (length bs) 0 ≡ false → 0 < length bs
some_bytes bs e = let z = eqb-false (length bs) 0 e in omega arith

pub record Marking (bs out₀ out : List ℕ) (before : Option Line) (rest : List ℕ) (next : ℕ) : Type 0 where
  pub still : Still out₀ 0 (marked bs) out next (marked_from true before rest)
  pub within : length rest ≤ length bs
  pub close : next ≤ 3 * (length bs - length rest)

pub marking_end : {bs out₀ out : List ℕ} {before : Option Line} {rest : List ℕ} {next : ℕ} → Marking bs out₀ out before rest next → rest ≡ []
    → Wrote out₀ 0 (marked bs) out next
marking_end {before = before} m h = none_left (ap (marked_from true before) h ∙ marked_none before) m.still

module _ {bs out₀ : List ℕ} {u : Writer} {before : Option Line} {rest : List ℕ} (m : Marking bs out₀ u.list.now before rest u.written) where
  -- a line with its mark
  module _ (h : 0 < length rest) (line : Option Line) (e : line ≡ line_in rest) (t : Bool) (f : t ≡ may_swap before line)
      {v : Writer} (w : Writes u (mark_text t) v) where
    marked_here : marked_from true before rest ≡ mark_text t ++ (line_bytes rest ++ marked_from true line (behind rest))
    marked_here =
        marked_first before rest h
        ∙ ap (λ (x : Option Line). mark_text (may_swap before x) ++ (line_bytes rest ++ marked_from true x (behind rest))) (sym e)
        ∙ ap (λ (x : Bool). mark_text x ++ (line_bytes rest ++ marked_from true line (behind rest))) (sym f)

    two : (x : Bool) → length (mark_text x) ≡ 2
    two true = refl
    two false = refl

    module _ {x : Writer} {r : Text} (c : CopiedLine rest v x r) where
      pub shorter : length r.now < length rest
      shorter = omega (arith, ap length c.left, line_lengths rest, line_some rest h)

      pub marking_on : Marking bs out₀ x.list.now line r.now x.written
      marking_on =
          let more = marked_from true line (behind rest) in
          let mark_done = part_done (mark_text t) (line_bytes rest ++ more) marked_here (wrote w) m.still in
          let line_done = part_done (line_bytes rest) more refl (wrote c.wrote) mark_done in
          record {
            still = subst (λ (y : List ℕ). Still out₀ 0 (marked bs) x.list.now x.written (marked_from true line y)) (sym c.left) line_done;
            within = omega (arith, shorter, m.within);
            close = omega (arith, shorter, m.within, m.close, w.place, two t, c.wrote.place, ap length c.left, line_lengths rest, line_some rest h);
          }
