-- The listing of a text run, entry by entry: answer lines of its N and W, and at the end a last line.
use Prim.Native.Nat.{ℕ, zero, suc, ◌+◌, ◌-◌, ◌*◌, ◌≤◌, ◌<◌}
use mathlib.Core.Path.{◌≡◌, refl, sym, ap, subst, ◌∙◌}
use mathlib.Core.List.{List, [], ◌∷◌, ◌++◌, append-nil, append_assoc}
use mathlib.Core.Bool.{Bool, false, cond}
use native.Mathlib.Omega.{arith}
use native.Mathlib.Nat.{add-zero}
use borrow.Author.Tests.{leb-false, ltb-false, eqb-true}
use lib.Dec.{eqb, ltb, leb}
use lib.ListN.{length, take, length-take}
use lib.Seq.{sets}
use Rattle.model.specs.declared.Reply.{Reply}
use Rattle.model.specs.Replies.{number_of}
use Rattle.model.specs.Machine.{Memory}
use Rattle.model.specs.Command.{command}
use Rattle.notation.specs.declared.Entry.{Entry}
use Rattle.notation.specs.declared.Entry.TheVariants.{StartLl, StartVl, StartSc, Step, Finish}
use Rattle.notation.specs.Stretches.{Small}
use Rattle.listing.specs.Lines.{end_line, refused_line}
use Rattle.listing.specs.Writing.{Room, Wrote}
use Rattle.listing.proofs.Lengths.{end_length, refused_length}
use Rattle.listing.proofs.WritingLaws.{kept, grows}
use Rattle.text_runs.specs.TextRun.{most_entries, room_needed, process_of, order_of, value_of}
use Rattle.text_runs.specs.TextRun as TR
use Rattle.text_model.specs.TextRun.{Progress, stopped, line_of, trace_line, lines_of, counted, commanded, single, unanswered, steps, carry, carry_all, Ended, last_line, ended, begun}
use Rattle.text_entry.proofs.WordLaws.{Below}
use Rattle.text_entry.proofs.SingleLaws.{value_every}
use Rattle.answers.specs.Shape as G
use Rattle.answers.specs.Shape.{largest, longest_listing, Answer, Fits, AllFit, no_lines, line, Last, LastFits, end_fits, refused_fits, Right}
use Rattle.answers.proofs.ChoiceLaws.{either}
use Rattle.season_laws.proofs.CommandLines.{Adds, nothing, answer, Left, left}

-- a run in progress whose listing so far is answer lines of N and W
pub record Listed (n w : ℕ) (s : Progress) : Type 0 where
  pub plain : s.traced ≡ false
  pub room : s.written + 17 ≤ length s.listing
  pub lent : length s.listing ≤ longest_listing
  pub answers : List Answer
  pub fit : AllFit n w answers
  pub bytes : take s.written s.listing ≡ G.lines_of answers
  pub same_n : s.memory.bench.n ≡ n
  pub same_w : s.memory.bench.w ≡ w
  pub small : Below (5 * n * w) s.memory.words
  pub entries : s.entries ≤ 60000
  pub stop : s.stop ≤ 15

stop_listed : {n w : ℕ} {s : Progress} (k : ℕ) → k ≤ 15 → Listed n w s → Listed n w (stopped k s)
stop_listed k h l = record {
  plain = l.plain;
  room = l.room;
  lent = l.lent;
  answers = l.answers;
  fit = l.fit;
  bytes = l.bytes;
  same_n = l.same_n;
  same_w = l.same_w;
  small = l.small;
  entries = l.entries;
  stop = h;
}

all_snoc : {n w : ℕ} {xs : List Answer} {a : Answer} → AllFit n w xs → Fits n w a → AllFit n w (xs ++ a ∷ [])
all_snoc no_lines f = line f no_lines
all_snoc (line g h) f = line g (all_snoc h f)

lines_snoc : (xs : List Answer) (a : Answer) → G.lines_of (xs ++ a ∷ []) ≡ G.lines_of xs ++ G.line_of a
unfolding G.lines_of
lines_snoc [] a = append-nil (G.line_of a)
lines_snoc (x ∷ xs) a = ap (λ (y : List ℕ). G.line_of x ++ y) (lines_snoc xs a) ∙ sym (append_assoc (G.line_of x) (G.lines_of xs) (G.line_of a))

-- bytes written behind what a listing has
wrote : (l : List ℕ) (at : ℕ) (bs : List ℕ) → Wrote l at bs (sets l at bs) (at + length bs)
wrote l at bs = record { place = refl; list = refl }

module _ {n w : ℕ} {s : Progress} (l : Listed n w s) (m : Memory) (en : m.bench.n ≡ n) (ew : m.bench.w ≡ w)
    (small : Below (5 * n * w) m.words) (more : s.entries < 60000) (room : s.written + 744 ≤ length s.listing) where
  counts : {bs : List ℕ} → Adds n w bs → Listed n w (counted s m bs)
  counts nothing = record {
    plain = l.plain;
    room = omega arith;
    lent = l.lent;
    answers = l.answers;
    fit = l.fit;
    bytes = ap (λ (k : ℕ). take k s.listing) (add-zero s.written) ∙ l.bytes;
    same_n = en;
    same_w = ew;
    small = small;
    entries = omega arith;
    stop = omega arith;
  }
  counts (answer a f h) =
      let r : Room s.listing s.written (G.line_of a) = record { fits = omega arith } in
      let q = wrote s.listing s.written (G.line_of a) in
      record {
        plain = l.plain;
        room = omega (arith, kept q);
        lent = omega (arith, kept q, l.lent);
        answers = l.answers ++ a ∷ [];
        fit = all_snoc l.fit f;
        bytes = grows r q ∙ ap (λ (x : List ℕ). x ++ G.line_of a) l.bytes ∙ sym (lines_snoc l.answers a);
        same_n = en;
        same_w = ew;
        small = small;
        entries = omega arith;
        stop = omega arith;
      }

module _ {n w : ℕ} {s : Progress} (e : Entry) (small : Small e) (l : Listed n w s) where
  abbrev out : Reply × Memory
  out = command s.memory (process_of e) (order_of e) (value_of s.memory.bench.w e)

  leaves : Left n w (process_of e) out
  leaves =
      let N : ℕ = s.memory.bench.n in
      let W : ℕ = s.memory.bench.w in
      let rows : 5 * n * w ≡ 5 * N * W = ap (λ (x : ℕ). 5 * x * w) (sym l.same_n) ∙ ap (λ (x : ℕ). 5 * N * x) (sym l.same_w) in
      let own = left s.memory (process_of e) (order_of e) (value_of W e) (value_every e W small) (subst (λ (x : ℕ). Below x s.memory.words) rows l.small) in
      subst (λ (x : ℕ). Left x w (process_of e) out) l.same_n (subst (λ (x : ℕ). Left N x (process_of e) out) l.same_w own)

  untraced : Adds n w (line_of out.1 (process_of e) out.0) → Adds n w (lines_of s e out)
  untraced a = subst (λ (t : Bool). Adds n w (cond t (trace_line (s.entries + 1) s.memory e out.0) [] ++ line_of out.1 (process_of e) out.0)) (sym l.plain) a

  commanded_listed : s.entries < 60000 → s.written + 744 ≤ length s.listing → Listed n w (commanded e s)
  commanded_listed more room = either (Listed n w) (eqb (number_of out.0) 0) _ _
      (λ z. counts l out.1 leaves.same_n leaves.same_w leaves.small more room (untraced (leaves.adds (eqb-true _ 0 z))))
      (λ z. stop_listed (number_of out.0) leaves.number l)

  single_listed : Listed n w (single e s)
  unfolding TR.single
  single_listed = either (Listed n w) (eqb s.stop 0) _ _
      (λ _. either (Listed n w) (leb most_entries s.entries) _ _ (λ _. stop_listed 12 (omega arith) l)
      (λ a. either (Listed n w) (ltb (length s.listing - s.written) (room_needed s.traced)) _ _ (λ _. stop_listed 14 (omega arith) l)
      (λ b. commanded_listed (leb-false most_entries s.entries a) (omega (arith, ltb-false (length s.listing - s.written) (room_needed s.traced) b, l.room)))))
      (λ _. l)

steps_listed : {n w : ℕ} (left p : ℕ) {s : Progress} → p ≤ largest → Listed n w s → Listed n w (steps left p s)
unfolding TR.steps
steps_listed zero p h l = l
steps_listed {n} {w} (suc left) p {s} h l =
    let k = single_listed (Step p) h l in either (Listed n w) (unanswered p (single (Step p) s)) _ _ (λ _. steps_listed left p h k) (λ _. k)

carry_listed : {n w : ℕ} {s : Progress} (e : Entry) → Small e → Listed n w s → Listed n w (carry e s)
unfolding TR.carry
carry_listed (StartLl p) h l = single_listed (StartLl p) h l
carry_listed (StartVl p) h l = single_listed (StartVl p) h l
carry_listed (StartSc p k) h l = single_listed (StartSc p k) h l
carry_listed (Step p) h l = single_listed (Step p) h l
carry_listed {n} {w} {s} (Finish p) h l = either (Listed n w) (eqb s.stop 0) _ _ (λ _. steps_listed _ p h l) (λ _. l)

pub data AllSmall : List Entry → Type 0 where
  none : AllSmall []
  entry : {e : Entry} {es : List Entry} → Small e → AllSmall es → AllSmall (e ∷ es)

pub all_listed : {n w : ℕ} {s : Progress} (es : List Entry) → AllSmall es → Listed n w s → Listed n w (carry_all es s)
unfolding TR.carry_all
all_listed [] none l = l
all_listed {n = n} {w = w} {s = s} (e ∷ es) (entry h k) l = all_listed {s = carry e s} es k (carry_listed e h l)

-- the last line
data Ends : List ℕ → Type 0 where
  ends : (z : Last) → LastFits z → length (G.last_of z) ≤ 17 → Ends (G.last_of z)

end_of : {n w : ℕ} {s : Progress} → Listed n w s → Ends (last_line s)
unfolding G.last_of
end_of {s = s} l =
    let E : ℕ = s.entries in
    either Ends (eqb s.stop 0) _ _
    (λ _. ends (G.end E) (end_fits (omega (arith, l.entries))) (omega (arith, end_length E l.entries)))
    (λ _. ends (G.refused s.stop E) (refused_fits (omega (arith, l.stop)) (omega (arith, l.entries))) (refused_length s.stop E l.stop l.entries))

zero_ends : Ends (end_line 0)
unfolding G.last_of
zero_ends = ends (G.end 0) (end_fits {e = 0} (omega arith)) (omega (arith, end_length 0 (omega arith)))

stop_ends : (k : ℕ) → k ≤ 15 → Ends (refused_line k 0)
unfolding G.last_of
stop_ends k h = ends (G.refused k 0) (refused_fits {c = k} {e = 0} (omega arith) (omega arith)) (refused_length k 0 h (omega arith))

-- behind answer lines it makes a right listing
closes : (n w at : ℕ) (listing : List ℕ) (xs : List Answer) → AllFit n w xs → take at listing ≡ G.lines_of xs → at + 17 ≤ length listing
    → length listing ≤ longest_listing → {bs : List ℕ} → Ends bs → Right n w (take (at + length bs) (sets listing at bs))
closes n w at listing xs fit e room lent (ends z f h) =
    let r : Room listing at (G.last_of z) = record { fits = omega arith } in
    let q = wrote listing at (G.last_of z) in
    record {
      short = omega (arith, length-take (at + length (G.last_of z)) (sets listing at (G.last_of z)), kept q);
      shaped = record { answers = xs; last = z; fit = fit; last_fits = f; bytes = grows r q ∙ ap (λ (x : List ℕ). x ++ G.last_of z) e };
    }

-- the bytes that a run has written
abbrev pub written_by : Ended → List ℕ
written_by e = take e.written e.listing

-- what a run of entries has written at its end is a right listing
pub ended_right : {n w : ℕ} {s : Progress} → Listed n w s → Right n w (written_by (ended s))
ended_right {n} {w} {s} l = closes n w s.written s.listing l.answers l.fit l.bytes l.room l.lent (end_of l)

-- from a set-up's memory on
pub carried_right : (n w : ℕ) (m : Memory) (listing : List ℕ) (es : List Entry) → 744 ≤ length listing → length listing ≤ longest_listing
    → m.bench.n ≡ n → m.bench.w ≡ w → Below (5 * n * w) m.words → AllSmall es
    → Right n w (written_by (ended (carry_all es (begun false m listing 0))))
unfolding G.lines_of
carried_right n w m listing es room lent en ew b h =
    let start : Listed n w (begun false m listing 0) = record {
      plain = refl;
      room = omega arith;
      lent = lent;
      answers = [];
      fit = no_lines;
      bytes = refl;
      same_n = en;
      same_w = ew;
      small = b;
      entries = omega arith;
      stop = omega arith;
    } in
    ended_right (all_listed es h start)

-- a run that is refused before its set-up writes a last line, which is right for every N and W
pub refused_right : (n w : ℕ) (m : Memory) (listing : List ℕ) (k : ℕ) → k ≤ 15 → 744 ≤ length listing → length listing ≤ longest_listing
    → Right n w (written_by (ended (begun false m listing k)))
unfolding G.lines_of
refused_right n w m listing k h room lent =
    closes n w 0 listing [] no_lines refl (omega arith) lent (either Ends (eqb k 0) _ _ (λ _. zero_ends) (λ _. stop_ends k h))
