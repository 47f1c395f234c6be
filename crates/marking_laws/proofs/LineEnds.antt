-- A line of a trace has one line feed, at its end.
use mathlib.Core.Path.{◌≡◌, refl, sym, ap, subst, ◌∙◌}
use mathlib.Core.List.{List, [], ◌∷◌, ◌++◌, append_assoc}
use mathlib.Core.Bool.{Bool, true, false, not, ◌&&◌, cond}
use Prim.Native.Nat.{ℕ, zero, suc, ◌+◌, ◌/◌, ◌%◌, ◌<◌}
use native.Mathlib.Omega.{arith}
use lib.Dec.{eqb, ltb}
use lib.ListN.{length, length-append}
use borrow.Author.Tests.{ne_eqb, not-true}
use Rattle.laws.proofs.AndLaws.{left, right}
use Rattle.model.specs.declared.Reply.{Reply}
use Rattle.model.specs.declared.Reply.TheVariants.{Refused, Accepted, LlAnswered, ScAnswered, VlAnswered}
use Rattle.model.specs.Words.{word_of, return_area}
use Rattle.model.specs.Machine.{Memory}
use Rattle.doings.specs.declared.Item.{Item}
use Rattle.doings.specs.declared.Item.TheVariants.{X, Bank, Help, Half}
use Rattle.listing.specs.Quoted.{quoted}
use Rattle.listing.specs.Decimal.{digits, decimal}
use Rattle.listing.specs.Lines.{line_feed, letter_l, letter_s, letter_v, answer_head, words_of, ll_line, truth_line, end_line, refused_line}
use Rattle.access.specs.declared.Values.{Values}
use Rattle.access.specs.declared.Values.TheVariants as of
use Rattle.access.specs.declared.Act.{Act}
use Rattle.access.specs.declared.Act.TheVariants.{Read, Write, Ll, Sc, Vl}
use Rattle.access.specs.declared.Access.{Access}
use Rattle.access.specs.Accesses.{item_of}
use Rattle.trace_parts.specs.declared.Start.{Start}
use Rattle.trace_parts.specs.declared.Start.TheVariants as call
use Rattle.trace_parts.specs.TraceParts as Parts
use Rattle.trace_parts.specs.TraceParts.{spaced, bracketed, head_text, truth_text, end_text, start_text, start_line}
use Rattle.access.specs.TraceLines.{half_text, half_place_text, item_text, values_text, stored_text, written_text, act_text, access_text, step_line}
use Rattle.text_model.specs.TextRun.{answers}
use Rattle.text_model.specs.TextRun as T
use Rattle.std.specs.Prelude.{Option}
use Rattle.marking.specs.declared.Line.{Line}
use Rattle.marking.specs.Marks.{may_swap}
use Rattle.marking.specs.Reading.{line_in}
use Rattle.marking.specs.Marked.{mark_text, marked_from}
use Rattle.marking.specs.CopiedLines.{line_bytes, behind}
use Rattle.marking.proofs.MarkedLaws.{marked_first}

-- no line feed
unfoldable pub feedless : List ℕ → Bool
feedless [] = true
feedless (b ∷ bs) = not (eqb b line_feed) && feedless bs

both : (a b : Bool) → a ≡ true → b ≡ true → (a && b) ≡ true
both true b e f = f
both false b e f = e

joined : (a b : List ℕ) → feedless a ≡ true → feedless b ≡ true → feedless (a ++ b) ≡ true
unfolding feedless
joined [] b e f = f
joined (x ∷ a) b e f =
    both (not (eqb x line_feed)) (feedless (a ++ b)) (left (not (eqb x line_feed)) (feedless a) e) (joined a b (right (not (eqb x line_feed)) (feedless a) e) f)

-- a line: bytes without a line feed, and a line feed
pub record IsLine (l : List ℕ) : Type 0 where
  pub body : List ℕ
  pub plain : feedless body ≡ true
  pub is : l ≡ body ++ line_feed ∷ []

bytes_of : (a rest : List ℕ) → feedless a ≡ true → line_bytes (a ++ line_feed ∷ rest) ≡ a ++ line_feed ∷ []
unfolding feedless line_bytes
bytes_of [] rest e = refl
bytes_of (x ∷ a) rest e =
    ap (λ (t : Bool). x ∷ cond t [] (line_bytes (a ++ line_feed ∷ rest))) (not-true (eqb x line_feed) (left (not (eqb x line_feed)) (feedless a) e))
    ∙ ap (λ (l : List ℕ). x ∷ l) (bytes_of a rest (right (not (eqb x line_feed)) (feedless a) e))

behind_of_lem : (a rest : List ℕ) → feedless a ≡ true → behind (a ++ line_feed ∷ rest) ≡ rest
unfolding feedless behind
behind_of_lem [] rest e = refl
behind_of_lem (x ∷ a) rest e =
    ap (λ (t : Bool). cond t (a ++ line_feed ∷ rest) (behind (a ++ line_feed ∷ rest))) (not-true (eqb x line_feed) (left (not (eqb x line_feed)) (feedless a) e))
    ∙ behind_of_lem a rest (right (not (eqb x line_feed)) (feedless a) e)

module _ {l : List ℕ} (i : IsLine l) (rest : List ℕ) where
  spread : l ++ rest ≡ i.body ++ line_feed ∷ rest
  spread = ap (λ (x : List ℕ). x ++ rest) i.is ∙ append_assoc i.body (line_feed ∷ []) rest

  bytes_here : line_bytes (l ++ rest) ≡ l
  bytes_here = ap line_bytes spread ∙ bytes_of i.body rest i.plain ∙ sym i.is

  behind_here : behind (l ++ rest) ≡ rest
  behind_here = ap behind spread ∙ behind_of_lem i.body rest i.plain

  some : 0 < length (l ++ rest)
  some = let z : length (l ++ rest) ≡ length i.body + suc (length rest) = ap length spread ∙ length-append i.body (line_feed ∷ rest) in omega (arith, z)

  -- the mark of a line that is read as `line`
  pub line_marked : (before line : Option Line) → line_in (l ++ rest) ≡ line
      → marked_from true before (l ++ rest) ≡ mark_text (may_swap before line) ++ (l ++ marked_from true line rest)
  line_marked before line e =
      marked_first before (l ++ rest) some
      ∙ ap (λ (x : List ℕ). mark_text (may_swap before (line_in (l ++ rest))) ++ (x ++ marked_from true (line_in (l ++ rest)) (behind (l ++ rest)))) bytes_here
      ∙ ap (λ (x : List ℕ). mark_text (may_swap before (line_in (l ++ rest))) ++ (l ++ marked_from true (line_in (l ++ rest)) x)) behind_here
      ∙ ap (λ (x : Option Line). mark_text (may_swap before x) ++ (l ++ marked_from true x rest)) e

-- the parts of lines
feed : IsLine (quoted "\n")
unfolding feedless
feed = record { body = []; plain = refl; is = refl }

before_line : (a : List ℕ) {l : List ℕ} → feedless a ≡ true → IsLine l → IsLine (a ++ l)
before_line a e i = record {
  body = a ++ i.body;
  plain = joined a i.body e i.plain;
  is = ap (λ (x : List ℕ). a ++ x) i.is ∙ sym (append_assoc a i.body (line_feed ∷ []));
}

digit_plain : (n : ℕ) → feedless ((48 + n) ∷ []) ≡ true
unfolding feedless
digit_plain n = simp (ne_eqb (48 + n) line_feed (λ e. omega (arith, e)))

digits_plain : (f n : ℕ) → feedless (digits f n) ≡ true
unfolding digits feedless
digits_plain zero n = refl
digits_plain (suc f) n = by (ltb n 10) (digits_plain f (n / 10))
  where
    by : (t : Bool) → feedless (digits f (n / 10)) ≡ true → feedless (cond t ((48 + n) ∷ []) (digits f (n / 10) ++ (48 + n % 10) ∷ [])) ≡ true
    by true e = digit_plain n
    by false e = joined (digits f (n / 10)) ((48 + n % 10) ∷ []) e (digit_plain (n % 10))

decimal_plain : (n : ℕ) → feedless (decimal n) ≡ true
unfolding decimal
decimal_plain n = digits_plain 20 n

spaced_plain : (n : ℕ) → feedless (spaced n) ≡ true
unfolding spaced feedless
spaced_plain n = joined (quoted " ") (decimal n) refl (decimal_plain n)

bracketed_plain : (n : ℕ) → feedless (bracketed n) ≡ true
unfolding bracketed feedless
bracketed_plain n = joined (quoted "[") (decimal n ++ quoted "]") refl (joined (decimal n) (quoted "]") (decimal_plain n) refl)

head_plain : (k p : ℕ) → feedless (head_text k p) ≡ true
unfolding head_text
head_plain k p = joined (decimal k) (spaced p) (decimal_plain k) (spaced_plain p)

half_plain : (k : ℕ) → feedless (half_text k) ≡ true
unfolding half_text feedless
half_plain k = by (eqb (k % 2) 0)
  where
    by : (t : Bool) → feedless (cond t (quoted " low") (quoted " high")) ≡ true
    by true = refl
    by false = refl

half_place_plain : (k : ℕ) → feedless (half_place_text k) ≡ true
unfolding half_place_text
half_place_plain k = joined (bracketed (word_of k)) (half_text k) (bracketed_plain (word_of k)) (half_plain k)

item_plain : (i : Item) → feedless (item_text i) ≡ true
unfolding item_text feedless
item_plain X = refl
item_plain (Bank i) = joined (quoted " Bank") (bracketed i.0) refl (bracketed_plain i.0)
item_plain (Help i) = joined (quoted " Help") (bracketed i.0) refl (bracketed_plain i.0)
item_plain (Half f k) =
    joined (quoted " BUF") (bracketed f.0 ++ half_place_text k) refl
    (joined (bracketed f.0) (half_place_text k) (bracketed_plain f.0) (half_place_plain k))

truth_plain : (t : Bool) → feedless (truth_text t) ≡ true
unfolding truth_text feedless
truth_plain true = refl
truth_plain false = refl

stored_plain : (t : Bool) → feedless (stored_text t) ≡ true
unfolding stored_text truth_text feedless
stored_plain true = refl
stored_plain false = refl

written_plain : (v : Values) → feedless (written_text v) ≡ true
unfolding written_text feedless
written_plain (of.X v) = refl
written_plain (of.Bank i v) = refl
written_plain (of.Help i v) = refl
written_plain (of.Half f k v) = refl

values_plain : (v : Values) → feedless (values_text v) ≡ true
unfolding values_text
values_plain (of.X v) = joined (spaced v.buf.0) (spaced v.seq.0) (spaced_plain v.buf.0) (spaced_plain v.seq.0)
values_plain (of.Bank i v) = spaced_plain v.0
values_plain (of.Help i v) = joined (spaced v.flag) (spaced v.buf.0) (spaced_plain v.flag) (spaced_plain v.buf.0)
values_plain (of.Half f k v) = spaced_plain v

act_plain : (a : Act) → feedless (act_text a) ≡ true
unfolding act_text feedless
act_plain (Read v) = joined (quoted " read") (values_text v) refl (values_plain v)
act_plain (Write v) =
    joined (quoted " write") (values_text v ++ written_text v) refl
    (joined (values_text v) (written_text v) (values_plain v) (written_plain v))
act_plain (Ll v) = joined (quoted " LL") (values_text v ++ quoted " link set") refl (joined (values_text v) (quoted " link set") (values_plain v) refl)
act_plain (Sc t v) = joined (quoted " SC") (values_text v ++ stored_text t) refl (joined (values_text v) (stored_text t) (values_plain v) (stored_plain t))
act_plain (Vl t i) = joined (quoted " VL") (truth_text t) refl (truth_plain t)

start_plain : (start : Start) → feedless (start_text start) ≡ true
unfolding start_text feedless
start_plain call.Ll = refl
start_plain call.Vl = refl
start_plain (call.Sc v) = joined (letter_s ∷ []) (spaced v) refl (spaced_plain v)

-- a start's line
pub start_is_line : (k p : ℕ) (start : Start) → IsLine (start_line k p start)
unfolding start_line feedless
start_is_line k p start =
    before_line (head_text k p) (head_plain k p)
    (before_line (quoted " start ") refl
    (before_line (start_text start) (start_plain start) feed))

-- an answer's line
answer_head_plain : (p letter k : ℕ) → feedless (letter ∷ []) ≡ true → feedless (answer_head p letter k) ≡ true
unfolding answer_head feedless
answer_head_plain p letter k e =
    let count = quoted " " ++ decimal k in
    let name = (letter ∷ []) ++ count in
    joined (decimal p) (quoted " " ++ name) (decimal_plain p)
    (joined (quoted " ") name refl (joined (letter ∷ []) count e (joined (quoted " ") (decimal k) refl (decimal_plain k))))

words_plain : (ws : List ℕ) → feedless (words_of ws) ≡ true
unfolding words_of feedless
words_plain [] = refl
words_plain (w ∷ ws) = joined (quoted " ") (decimal w ++ words_of ws) refl (joined (decimal w) (words_of ws) (decimal_plain w) (words_plain ws))

ll_is_line : (p k : ℕ) (ws : List ℕ) → IsLine (ll_line p k ws)
unfolding ll_line feedless
ll_is_line p k ws = before_line (answer_head p letter_l k) (answer_head_plain p letter_l k refl) (before_line (words_of ws) (words_plain ws) feed)

truth_is_line : (p letter k : ℕ) (t : Bool) → feedless (letter ∷ []) ≡ true → IsLine (truth_line p letter k t)
unfolding truth_line feedless
truth_is_line p letter k true e = before_line (answer_head p letter k) (answer_head_plain p letter k e) (before_line (quoted " 1") refl feed)
truth_is_line p letter k false e = before_line (answer_head p letter k) (answer_head_plain p letter k e) (before_line (quoted " 0") refl feed)

-- a step's line, with its answer
step_then : (k p : ℕ) (a : Access) (t : Bool) (tail : List ℕ) → IsLine (end_text t ++ tail) → IsLine (step_line k p a t ++ tail)
unfolding Parts.step_line access_text
step_then k p a t tail i =
    let item = item_text (item_of a.act) in
    let parts = head_text k p ++ (spaced a.line ++ (item ++ (act_text a.act ++ (end_text t ++ tail)))) in
    let same : step_line k p a t ++ tail ≡ parts = simp append_assoc in
    subst IsLine (sym same)
    (before_line (head_text k p) (head_plain k p)
    (before_line (spaced a.line) (spaced_plain a.line)
    (before_line item (item_plain (item_of a.act))
    (before_line (act_text a.act) (act_plain a.act) i))))

answer_then : {l : List ℕ} → IsLine l → IsLine (end_text true ++ l)
unfolding end_text feedless
answer_then i = before_line (quoted " answers ") refl i

none_then : IsLine (end_text false ++ [])
unfolding end_text
none_then = feed

pub step_is_line : (k p : ℕ) (a : Access) (m : Memory) (r : Reply) → IsLine (step_line k p a (answers r) ++ T.line_of m p r)
unfolding feedless
step_is_line k p a m (Refused c) = step_then k p a false [] none_then
step_is_line k p a m Accepted = step_then k p a false [] none_then
step_is_line k p a m (LlAnswered j) =
    let ws = return_area m.bench.n m.bench.w (record { 0 = p }) m.words in
    step_then k p a true (ll_line p j ws) (answer_then (ll_is_line p j ws))
step_is_line k p a m (ScAnswered t j) = step_then k p a true (truth_line p letter_s j t) (answer_then (truth_is_line p letter_s j t refl))
step_is_line k p a m (VlAnswered t j) = step_then k p a true (truth_line p letter_v j t) (answer_then (truth_is_line p letter_v j t refl))

-- the last line
pub end_is_line : (e : ℕ) → IsLine (end_line e)
unfolding end_line feedless
end_is_line e = before_line (quoted "end ") refl (before_line (decimal e) (decimal_plain e) feed)

pub refused_is_line : (c e : ℕ) → IsLine (refused_line c e)
unfolding refused_line feedless
refused_is_line c e =
    before_line (quoted "refused ") refl (before_line (decimal c) (decimal_plain c) (before_line (quoted " ") refl (before_line (decimal e) (decimal_plain e) feed)))
