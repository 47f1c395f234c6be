-- What a by-value decision leaves of N, W and the words, and how long the line of its answer is.
use mathlib.Core.Path.{◌≡◌, refl, sym, ap, subst, ◌∙◌}
use mathlib.Core.Bool.{Bool, true, false, cond, ◌&&◌}
use mathlib.Core.List.{List}
use Prim.Native.Nat.{ℕ, ◌+◌, ◌*◌, ◌≤◌, ◌<◌}
use native.Mathlib.Omega.{arith}
use lib.Dec.{leb, ltb}
use lib.ListN.{length, get_or, take, drop, length-take, get_or-eq_default}
use lib.Seq.{get_or-take, get_or-drop}
use borrow.Author.Tests.{leb-true, ltb-true, ltb-false}
use Rattle.model.specs.Sizes.{halves, busy_most}
use Rattle.model.specs.Replies.{number_of}
use Rattle.model.specs.declared.Bench.{Bench}
use Rattle.model.specs.declared.Process.{Process}
use Rattle.llsc.specs.declared.Order.{Order}
use Rattle.model.specs.declared.Reply.{Reply}
use Rattle.model.specs.Records.{no_process}
use Rattle.model.specs.Words.{return_area, return_word}
use Rattle.llsc.specs.Rows.{every}
use Rattle.model.specs.Refusals.{in_range, bench_ok, process_ok, buffer_ok, x_ok, line_ok, count_ok, is_idle}
use Rattle.text_entry.specs.Decision.{Outcome}
use Rattle.laws.proofs.AndLaws.{right}
use Rattle.laws.proofs.ListLaws.{every_at}
use Rattle.rows.proofs.RowLaws.{Cleared}
use Rattle.words.proofs.WordLaws.{within}
use Rattle.notation.specs.Grammar.{largest}
use Rattle.listing.specs.Lines.{letter_s, letter_v}
use Rattle.listing.proofs.Lengths.{ll_length, truth_length}
use Rattle.text_entry.specs.RunState.{answer_line}
use Rattle.text_entry.proofs.WordLaws.{Below}
use Rattle.text_entry.proofs.ObeyLaws.{Plain, accepted, ll, sc, vl, plain_none}
use Rattle.text_entry.proofs.CommandLaws.{Decides, obeys, refuses}

-- row 9: "a busy count above 8W+6"
count_most : (idle : Bool) (k w : ℕ) → leb k (cond idle 0 (busy_most w)) ≡ true → k ≤ busy_most w
count_most true k w e = omega (arith, leb-true k 0 e)
count_most false k w e = leb-true k (busy_most w) e

last_of : (a b c d e f g h k : Bool) → (a && (b && (c && (d && (e && (f && (g && (h && k)))))))) ≡ true → k ≡ true
last_of a b c d e f g h k t =
    right h k (right g (h && k) (right f (g && (h && k)) (right e (f && (g && (h && k))) (right d (e && (f && (g && (h && k))))
    (right c (d && (e && (f && (g && (h && k))))) (right b (c && (d && (e && (f && (g && (h && k)))))) (right a (b && (c && (d && (e && (f && (g && (h && k))))))) t)))))))

count_in : (n w : ℕ) (q : Process) → process_ok n w q ≡ true → q.count ≤ busy_most w
count_in n w q e =
    count_most (is_idle q) q.count w
    (last_of (buffer_ok n q.mybuf) (x_ok n q.x) (buffer_ok n q.b) (buffer_ok n q.c) (buffer_ok n q.d) (buffer_ok n q.e) (line_ok q) (ltb q.word (halves w)) (count_ok w q) e)

-- the words of an LL's answer are words of the 5N rows
module _ (n w p : ℕ) (ws : List ℕ) (h : p < n) (b : Below (5 * n * w) ws) where
  abbrev from : ℕ
  from = return_word n w (record { 0 = p }) 0

  abbrev area : List ℕ
  area = return_area n w (record { 0 = p }) ws

  pub area_at : (i : ℕ) (t : Bool) → ltb i w ≡ t → get_or area i 0 ≤ largest
  area_at i true t =
      let k = ltb-true i w t in
      let l = within {b = 3 * n + p} {c = 5 * n} {k = i} {w = w} (omega arith) k in
      rw (get_or-take w (drop from ws) i 0 k, get_or-drop from ws i 0) (b.at (from + i) (omega (arith, l)))
  area_at i false t =
      let k = ltb-false i w t in
      rw (get_or-eq_default area 0 {n = i} (omega (arith, length-take w (drop from ws)))) (omega arith)

  pub answer_fits : (k : ℕ) (r : Reply) → Plain k r → p < 16 → w ≤ 64 → k ≤ 519 → length (answer_line n w ws p r) ≤ 713
  answer_fits k _ accepted l m c = omega arith
  answer_fits k _ ll l m c = ll_length p k area l c (omega (arith, length-take w (drop from ws))) (λ i. area_at i (ltb i w) refl)
  answer_fits k _ (sc {t = t}) l m c = omega (arith, truth_length p letter_s k t l c)
  answer_fits k _ (vl {t = t}) l m c = omega (arith, truth_length p letter_v k t l c)

module _ (b : Bench) (list : List Process) (len p : ℕ) (o : Order) (v ws : List ℕ) where
  -- what an obeyed command leaves
  pub record Done (x : Outcome × List ℕ) : Type 0 where
    pub place : x.0.at ≡ p
    pub among : p < b.n
    pub process : p < x.0.bench.n
    pub n_most : x.0.bench.n ≤ 16
    pub w_most : x.0.bench.w ≤ 64
    pub records : x.0.bench.n ≤ len
    pub lent : 5 * x.0.bench.n * x.0.bench.w ≤ length x.1
    pub words : length x.1 ≡ length ws
    pub small : Below (5 * b.n * b.w) ws → Below (5 * x.0.bench.n * x.0.bench.w) x.1
    pub line : Below (5 * b.n * b.w) ws → length (answer_line x.0.bench.n x.0.bench.w x.1 p x.0.reply) ≤ 713

  -- and a refused one
  pub record Unchanged (x : Outcome × List ℕ) : Type 0 where
    pub words : x.1 ≡ ws
    pub few : number_of x.0.reply ≤ 15

  module _ (sixteen : length list ≡ 16) where
    pub own_count : Cleared b list len p o (length v) (length ws) → (get_or list p no_process).count ≤ busy_most b.w
    unfolding in_range
    own_count c =
        let e : every (process_ok b.n b.w) (take b.n list) ≡ true = right (bench_ok b) (every (process_ok b.n b.w) (take b.n list)) c.range in
        let s : p < length (take b.n list) = simp length-take (omega (arith, c.process, c.n_most)) in
        let f : process_ok b.n b.w (get_or (take b.n list) p no_process) ≡ true = every_at (process_ok b.n b.w) (take b.n list) p no_process e s in
        count_in b.n b.w (get_or list p no_process) (rw (get_or-take b.n list p no_process c.process) at f)

    pub done : {x : Outcome × List ℕ} → Decides b list len p o v ws x → number_of x.0.reply ≡ 0 → Done x
    done (obeys out c y f) z =
        let N = out.0.bench.n in
        let W = out.0.bench.w in
        let rows : 5 * b.n * b.w ≡ 5 * N * W = ap (λ (n : ℕ). 5 * n * b.w) (sym f.n) ∙ ap (λ (w : ℕ). 5 * N * w) (sym f.w) in
        let k = own_count c in
        let s : Below (5 * b.n * b.w) ws → Below (5 * N * W) out.1 = λ t. subst (λ (m : ℕ). Below m out.1) rows (f.small t) in
        let q : p < N = omega (arith, c.process, f.n) in
        let m : W ≤ 64 = omega (arith, c.w_most, f.w) in
        record {
          place = refl;
          among = c.process;
          process = q;
          n_most = omega (arith, c.n_most, f.n);
          w_most = m;
          records = omega (arith, c.records, f.n);
          lent = subst (λ (j : ℕ). j ≤ length out.1) rows (omega (arith, c.lent, f.words));
          words = f.words;
          small = s;
          line = λ t. answer_fits N W p out.1 q (s t) ((get_or list p no_process).count + 1) out.0.reply f.reply (omega (arith, c.process, c.n_most)) m (omega (arith, k, c.w_most));
        }
    done (refuses k n l) z = absurd (n z)

    pub unchanged : {x : Outcome × List ℕ} → Decides b list len p o v ws x → (number_of x.0.reply ≡ 0 → ⊥) → Unchanged x
    unchanged (obeys out c y f) z = absurd (z (plain_none f.reply))
    unchanged (refuses k n l) z = record { words = refl; few = omega arith }
