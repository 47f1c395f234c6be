-- A trace's line is read for what it says: the process, the item and whether the act only looks.
use mathlib.Core.Path.{◌≡◌, refl, sym, ap, ap₂, ◌∙◌}
use mathlib.Core.List.{List, [], ◌∷◌, ◌++◌, append_assoc}
use mathlib.Core.Bool.{Bool, true, false, not, cond}
use Rattle.std.specs.Prelude.{Some, Ok}
use Rattle.std.specs.Result.{is_ok}
use Prim.Native.Nat.{ℕ, ◌%◌, ◌≤◌}
use native.Mathlib.Omega.{arith}
use lib.Dec.{eqb}
use lib.ListN.{drop}
use borrow.Author.Tests.{eqb-true, eqb-false, eq-eqb, ne_eqb}
use Rattle.model.specs.Words.{word_of}
use Rattle.listing.specs.Quoted.{quoted, byte}
use Rattle.listing.specs.Decimal.{decimal}
use Rattle.listing.specs.Lines.{space, end_line, refused_line}
use Rattle.laws.proofs.Updates.{contra, is_true}
use Rattle.answers.specs.Shape.{largest}
use Rattle.answers.specs.Readers.{first, is_digit, Read as ReadFrom, number_in}
use Rattle.answers.proofs.Complete.{number_read, spaced_read}
use Rattle.doings.specs.declared.Item.{Item}
use Rattle.doings.specs.declared.Item.TheVariants.{X, Bank, Help, Half}
use Rattle.doings.specs.Items.{index, word_place}
use Rattle.access.specs.declared.Act.{Act}
use Rattle.access.specs.declared.Act.TheVariants.{Read, Write, Ll, Sc, Vl}
use Rattle.access.specs.declared.Access.{Access}
use Rattle.access.specs.Accesses.{item_of}
use Rattle.access.specs.TraceLines.{half_text, half_place_text, item_text, act_text, access_text, step_line}
use Rattle.trace_parts.specs.declared.Start.{Start}
use Rattle.trace_parts.specs.TraceParts as Parts
use Rattle.trace_parts.specs.TraceParts.{spaced, bracketed, head_text, end_text, start_text, start_line}
use Rattle.access.proofs.Lengths.{SmallAccess, small_item}
use Rattle.marking.specs.declared.NamedItem.{NamedItem}
use Rattle.marking.specs.declared.NamedItem.TheVariants as name
use Rattle.marking.specs.declared.Line.{Line}
use Rattle.marking.specs.Marks.{named, started_line, only_looks, shown_line}
use Rattle.marking.specs.Reading.{ItemRead, or_too_large, number_at, spaced_at, numbered, word_in, half_in, item_in, looks_in, no_line, stepped_in, process_in, line_in}

-- what a named item should be read as
abbrev as_named : Item → List ℕ → ItemRead
as_named i rest = record { item = named i; rest = rest }

-- a place of Bank or Help
numbered_named : (place : ℕ → NamedItem) (v : ℕ) (cs : List ℕ) → v ≤ largest
    → numbered place (decimal v ++ (byte "]" ∷ cs)) ≡ record { item = place v; rest = cs }
unfolding numbered
numbered_named place v cs h =
    ap (λ (g : ReadFrom ℕ). record { item = place (or_too_large g).0; rest = drop 1 (or_too_large g).1 }) (number_read v (byte "]" ∷ cs) h refl)

-- a half word: behind the number of the buffer stand `][`, the word, `]` and the half
module _ (f w : ℕ) (hf : f ≤ largest) (hw : w ≤ largest) (half : List ℕ) where
  abbrev text : List ℕ
  text = decimal f ++ (byte "]" ∷ byte "[" ∷ (decimal w ++ (byte "]" ∷ byte " " ∷ half)))

  buffer_named : number_at text ≡ (f, byte "]" ∷ byte "[" ∷ (decimal w ++ (byte "]" ∷ byte " " ∷ half)))
  buffer_named = ap or_too_large (number_read f (byte "]" ∷ byte "[" ∷ (decimal w ++ (byte "]" ∷ byte " " ∷ half))) hf refl)

  word_named_is : word_in text ≡ (w, byte "]" ∷ byte " " ∷ half)
  word_named_is = ap (λ (g : ℕ × List ℕ). number_at (drop 2 g.1)) buffer_named ∙ ap or_too_large (number_read w (byte "]" ∷ byte " " ∷ half) hw refl)

  abbrev high : Bool
  high = eqb (first half) (byte "h")

  half_named : half_in text ≡ record { item = name.Half high f w; rest = drop (cond high 4 3) half }
  unfolding half_in
  half_named =
      ap₂ (λ (g v : ℕ × List ℕ).
      let here : List ℕ = drop 2 v.1 in
      let is_high : Bool = eqb (first here) (byte "h") in
      record { item = name.Half is_high g.0 v.0; rest = drop (cond is_high 4 3) here })
      buffer_named word_named_is

-- the brackets and the half, one after the other
spread : (df dw ht cs : List ℕ)
    → ((df ++ (byte "]" ∷ [])) ++ ((byte "[" ∷ (dw ++ (byte "]" ∷ []))) ++ ht)) ++ cs ≡ df ++ (byte "]" ∷ byte "[" ∷ (dw ++ (byte "]" ∷ (ht ++ cs))))
spread df dw ht cs = simp append_assoc

which_named : (f w : ℕ) → f ≤ largest → w ≤ largest → (cs : List ℕ) (low : Bool)
    → half_in (((decimal f ++ (byte "]" ∷ [])) ++ ((byte "[" ∷ (decimal w ++ (byte "]" ∷ []))) ++ cond low (quoted " low") (quoted " high"))) ++ cs)
    ≡ record { item = name.Half (not low) f w; rest = cs }
which_named f w hf hw cs true = ap half_in (spread (decimal f) (decimal w) (quoted " low") cs) ∙ half_named f w hf hw (quoted "low" ++ cs)
which_named f w hf hw cs false = ap half_in (spread (decimal f) (decimal w) (quoted " high") cs) ∙ half_named f w hf hw (quoted "high" ++ cs)

high_half : (k : ℕ) → not (eqb (k % 2) 0) ≡ eqb (k % 2) 1
high_half k = pick (eqb (k % 2) 0) refl
  where
    pick : (low : Bool) → eqb (k % 2) 0 ≡ low → not low ≡ eqb (k % 2) 1
    pick true e = sym (ne_eqb (k % 2) 1 (λ z. omega (arith, z, eqb-true (k % 2) 0 e)))
    pick false e = let z = eqb-false (k % 2) 0 e in sym (eq-eqb (k % 2) 1 (omega arith))

-- the item, before what begins with a space
item_named : (i : Item) (cs : List ℕ) → index i ≤ largest → word_place i ≤ largest → item_in (item_text i ++ (space ∷ cs)) ≡ as_named i (space ∷ cs)
unfolding item_in item_text bracketed half_place_text half_text
item_named X cs h k = refl
item_named (Bank i) cs h k = ap (λ (bs : List ℕ). numbered name.Bank bs) (append_assoc (decimal i.0) (byte "]" ∷ []) (space ∷ cs)) ∙ numbered_named name.Bank i.0 (space ∷ cs) h
item_named (Help i) cs h k = ap (λ (bs : List ℕ). numbered name.Help bs) (append_assoc (decimal i.0) (byte "]" ∷ []) (space ∷ cs)) ∙ numbered_named name.Help i.0 (space ∷ cs) h
item_named (Half f k) cs h l =
    which_named f.0 (word_of k) h (omega (arith, l)) (space ∷ cs) (eqb (k % 2) 0)
    ∙ ap (λ (t : Bool). record { item = name.Half t f.0 (word_of k); rest = space ∷ cs }) (high_half k)

-- the act begins with a space, and its first letter tells whether it only looks
abbrev Begins : List ℕ → Act → Type 0
Begins bs act = (cs : List ℕ) → (first (bs ++ cs) ≡ space) × (looks_in (bs ++ cs) ≡ only_looks act)

act_named : (act : Act) → Begins (act_text act) act
unfolding act_text looks_in
act_named (Read v) cs = (refl, refl)
act_named (Write v) cs = (refl, refl)
act_named (Ll v) cs = (refl, refl)
act_named (Sc t v) cs = (refl, refl)
act_named (Vl t i) cs = (refl, refl)

act_spaced : (act : Act) (cs : List ℕ) → act_text act ++ cs ≡ space ∷ drop 1 (act_text act ++ cs)
unfolding act_text
act_spaced (Read v) cs = refl
act_spaced (Write v) cs = refl
act_spaced (Ll v) cs = refl
act_spaced (Sc t v) cs = refl
act_spaced (Vl t i) cs = refl

-- an item begins with a space, which ends the number before it
item_stop : (i : Item) (cs : List ℕ) → is_digit (first (item_text i ++ cs)) ≡ false
unfolding item_text
item_stop X cs = refl
item_stop (Bank i) cs = refl
item_stop (Help i) cs = refl
item_stop (Half f k) cs = refl

-- a number begins with a digit, so with no letter
no_digit : (bs : List ℕ) → is_digit (first bs) ≡ false → is_ok (number_in bs) ≡ false
unfolding number_in
no_digit bs e = simp e

begins : (v : ℕ) (cs : List ℕ) → v ≤ largest → is_digit (first cs) ≡ false → is_digit (first (decimal v ++ cs)) ≡ true
begins v cs h e =
    is_true (is_digit (first (decimal v ++ cs))) (λ z. contra (ap is_ok (number_read v cs h e)) (no_digit (decimal v ++ cs) z))

not_s : (bs : List ℕ) → is_digit (first bs) ≡ true → eqb (first bs) (byte "s") ≡ false
not_s bs e = ne_eqb (first bs) (byte "s") (λ x. contra e (ap is_digit x))

-- the entry number and the process, and what follows
module _ (k p : ℕ) (hk : k ≤ largest) (hp : p ≤ largest) (rest : List ℕ) where
  abbrev whole : List ℕ
  whole = decimal k ++ (space ∷ (decimal p ++ (space ∷ rest)))

  entry_named : number_in whole ≡ Ok (k, space ∷ (decimal p ++ (space ∷ rest)))
  entry_named = number_read k (space ∷ (decimal p ++ (space ∷ rest))) hk refl

  process_named : process_in whole ≡ (p, space ∷ rest)
  process_named = ap (λ (g : ReadFrom ℕ). spaced_at (or_too_large g).1) entry_named ∙ ap or_too_large (spaced_read p (space ∷ rest) hp refl)

  abbrev third : Bool → Line
  third s = cond s (started_line p) (stepped_in p (spaced_at (space ∷ rest)).1)

  line_named : line_in whole ≡ Some (third (eqb (first rest) (byte "s")))
  unfolding line_in
  line_named =
      ap₂ (λ (g : ReadFrom ℕ) (q : ℕ × List ℕ). cond (is_ok g)
      (Some (cond (eqb (first (drop 1 q.1)) (byte "s")) (started_line q.0) (stepped_in q.0 (spaced_at q.1).1)))
      no_line)
      entry_named process_named

-- "for a start, `start L`, .."
pub start_line_read : (k p : ℕ) (start : Start) (more : List ℕ) → k ≤ largest → p ≤ largest → line_in (start_line k p start ++ more) ≡ Some (started_line p)
unfolding start_line head_text spaced
start_line_read k p start more hk hp =
    let behind = quoted "start " ++ (start_text start ++ (quoted "\n" ++ more)) in
    let text : start_line k p start ++ more ≡ decimal k ++ (space ∷ (decimal p ++ (space ∷ behind))) = simp append_assoc in
    ap line_in text ∙ line_named k p hk hp behind

-- what is shown of a step, and what follows
access_then : (a : Access) (tail : List ℕ) → access_text a ++ tail ≡ space ∷ (decimal a.line ++ (item_text (item_of a.act) ++ (act_text a.act ++ tail)))
unfolding access_text spaced
access_then a tail = simp append_assoc

-- the step's line
pub step_line_read : (k p : ℕ) (a : Access) (answered : Bool) (more : List ℕ) → k ≤ largest → p ≤ largest → SmallAccess a
    → line_in (step_line k p a answered ++ more) ≡ Some (shown_line p a)
unfolding Parts.step_line head_text spaced
step_line_read k p a answered more hk hp small =
    let i = item_of a.act in
    let end = end_text answered ++ more in
    let tail = act_text a.act ++ end in
    let number = decimal a.line ++ (item_text i ++ tail) in
    let low : a.line ≤ largest = omega (arith, small.line) in
    let shown = access_text a in
    let text : step_line k p a answered ++ more ≡ decimal k ++ (space ∷ (decimal p ++ (space ∷ number))) =
    append_assoc (head_text k p) (shown ++ end_text answered) more
    ∙ ap (λ (x : List ℕ). head_text k p ++ x) (append_assoc shown (end_text answered) more ∙ access_then a end)
    ∙ append_assoc (decimal k) (space ∷ decimal p) (space ∷ number) in
    let line = spaced_read a.line (item_text i ++ tail) low (item_stop i tail) in
    let here = act_spaced a.act end in
    let few = small_item a.act small.act in
    let read : item_in (item_text i ++ tail) ≡ as_named i tail =
    ap (λ (bs : List ℕ). item_in (item_text i ++ bs)) here ∙ item_named i (drop 1 tail) few.0 few.1 ∙ ap (as_named i) (sym here) in
    let look = (act_named a.act end).1 in
    ap line_in text ∙ line_named k p hk hp number
    ∙ ap (λ (t : Bool). Some (cond t (started_line p) (stepped_in p (spaced_at (space ∷ number)).1))) (not_s number (begins a.line (item_text i ++ tail) low (item_stop i tail)))
    ∙ ap (λ (g : ReadFrom ℕ). Some (stepped_in p (or_too_large g).1)) line
    ∙ ap (λ (x : ItemRead). Some (record { process = p; touched = Some (record { item = x.item; looks = looks_in x.rest }) })) read
    ∙ ap (λ (t : Bool). Some (record { process = p; touched = Some (record { item = named i; looks = t }) })) look

-- and the last line of a trace is no command's
pub end_line_read : (e : ℕ) (more : List ℕ) → line_in (end_line e ++ more) ≡ no_line
unfolding line_in end_line number_in
end_line_read e more = refl

pub refused_line_read : (c e : ℕ) (more : List ℕ) → line_in (refused_line c e ++ more) ≡ no_line
unfolding line_in refused_line number_in
refused_line_read c e more = refl
