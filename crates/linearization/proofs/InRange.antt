-- Row 9 never holds: the numbers of related memory are in range.
use mathlib.Core.Path.{◌≡◌, refl, ap₂, subst}
use mathlib.Core.Bool.{Bool, true, false, ◌&&◌, cond}
use Prim.Native.Nat.{ℕ, ◌*◌, ◌^◌, ◌≤◌, ◌<◌}
use native.Mathlib.Omega.{arith}
use lib.Dec.{ltb, leb}
use borrow.Author.Tests.{lt-ltb, le-leb}
use lib.ListN.{take}
use lib.Seq.{length-take-le, get_or-take}
use Rattle.model.specs.Places.{XPlace, BankPlace, HelpPlace}
use Rattle.model.specs.Sizes.{halves, busy_most}
use Rattle.model.specs.Tables.{no_bank, no_help}
use Rattle.model.specs.Records.{no_process}
use Rattle.model.specs.Machine.{Memory}
use Rattle.llsc.specs.Rows.{every}
use Rattle.model.specs.Refusals.{links_ok, x_place_ok, bank_place_ok, help_place_ok, process_ok, count_ok, in_range}
use Rattle.linearization.proofs.GhostMachine.{Local, State}
use Rattle.linearization.proofs.Invariants.{Invariant}
use Rattle.linearization.proofs.PointFacts.{is_idle, idle_is}
use Rattle.linearization.proofs.Ranges.{ProcessRanges, InRanges}
use Rattle.linearization.proofs.Counts.{ProcessCount, AllCounts, busy_count, idle_count}
use Rattle.laws.proofs.ListFacts.{every_true}
use Rattle.linearization.proofs.PointFacts.{line_ok}
use Rattle.linearization.proofs.Relation.{record_of, LinksLike, XLike, BankLike, HelpLike, Related}

-- "a busy count above 8W+6, an idle count above 0" does not occur
pub record CountIn (W : ℕ) (f : Local) : Type 0 where
  pub busy : f.count ≤ busy_most W
  pub idle : is_idle f.point ≡ true → f.count ≡ 0

pub counts_in : (N W : ℕ) (h_w : 0 < halves W) (n : ℕ) (z : State) → Invariant N (halves W) n z → AllCounts N (halves W) h_w z → (q : ℕ) → q < N → CountIn W (z.loc q)
counts_in N W h_w n z i c q hq = record {
  busy = busy_count N W h_w n (z.loc q).point z.sh q (z.loc q) (i.each q hq) (c.each q hq);
  idle = λ e. idle_count N W h_w (z.sh.flag q) (z.loc q) (subst (λ y. ProcessCount N (halves W) h_w y (z.sh.flag q) (z.loc q)) (idle_is (z.loc q).point e) (c.each q hq));
}

below : (a b c : ℕ) → a ≡ b → b < c → ltb a c ≡ true
below a b c e h = lt-ltb a c (omega arith)

module _ (N : ℕ) where
  links_ok_is : (links : ℕ) (f : ℕ → Bool) → LinksLike N links f → links_ok N links ≡ true
  links_ok_is links f r = lt-ltb links (2 ^ N) r.below

  x_ok_is : (x : XPlace) (b s : ℕ) (f : ℕ → Bool) → b < 3 * N → s < 2 * N → XLike N x b s f → x_place_ok N x ≡ true
  x_ok_is x b s f hb hs r = ap₂ ◌&&◌ (ap₂ ◌&&◌ (below _ _ _ r.buf hb) (below _ _ _ r.seq hs)) (links_ok_is _ f r.links)

  bank_ok : (k : BankPlace) (b : ℕ) (f : ℕ → Bool) → b < 3 * N → BankLike N k b f → bank_place_ok N k ≡ true
  bank_ok k b f hb r = ap₂ ◌&&◌ (below _ _ _ r.buf hb) (links_ok_is _ f r.links)

  flag_ok : (a : ℕ) (b : Bool) → a ≡ cond b 1 0 → a ≤ 1
  flag_ok a true e = omega arith
  flag_ok a false e = omega arith

  help_ok : (h : HelpPlace) (u : Bool) (b : ℕ) (f : ℕ → Bool) → b < 3 * N → HelpLike N h u b f → help_place_ok N h ≡ true
  help_ok h u b f hb r = ap₂ ◌&&◌ (le-leb _ _ (flag_ok _ u r.flag)) (ap₂ ◌&&◌ (below _ _ _ r.buf hb) (links_ok_is _ f r.links))

module _ (N W : ℕ) where
  count_ok_is : (f : Local) → CountIn W f → count_ok W (record_of f) ≡ true
  count_ok_is f c = go (is_idle f.point) refl
    where
      go : (b : Bool) → is_idle f.point ≡ b → leb f.count (cond b 0 (busy_most W)) ≡ true
      go true e = le-leb f.count 0 (let y = c.idle e in omega arith)
      go false e = le-leb _ _ c.busy

  process_ok_is : (f : Local) → ProcessRanges N (halves W) f → CountIn W f → process_ok N W (record_of f) ≡ true
  process_ok_is f r c =
      ap₂ ◌&&◌ (lt-ltb _ _ r.my) (ap₂ ◌&&◌ (ap₂ ◌&&◌ (lt-ltb _ _ r.copy_buf) (lt-ltb _ _ r.copy_seq))
      (ap₂ ◌&&◌ (lt-ltb _ _ r.b) (ap₂ ◌&&◌ (lt-ltb _ _ r.c) (ap₂ ◌&&◌ (lt-ltb _ _ r.d) (ap₂ ◌&&◌ (lt-ltb _ _ r.e)
      (ap₂ ◌&&◌ (line_ok f.point) (ap₂ ◌&&◌ (lt-ltb _ _ r.word) (count_ok_is f c))))))))

  pub in_range_lem : (m : Memory) (z : State) → Related N W m z → InRanges N (halves W) z → ((q : ℕ) → q < N → CountIn W (z.loc q)) → in_range m ≡ true
  unfolding in_range
  in_range_lem m z r i c =
      rw (r.n, r.w)
      (ap₂ ◌&&◌
      (ap₂ ◌&&◌ (x_ok_is N m.bench.x _ _ _ i.all.xbuf i.all.xseq r.places.x) (ap₂ ◌&&◌ bank help))
      process)
    where
      bank : every (bank_place_ok N) (take (2 * N) m.bench.bank) ≡ true
      bank = every_true (bank_place_ok N) no_bank (take (2 * N) m.bench.bank) (λ j hj.
          let y = length-take-le (2 * N) m.bench.bank r.places.bank_length in let h : j < 2 * N = omega arith in
          rw (get_or-take (2 * N) m.bench.bank j no_bank h) (bank_ok N _ _ _ (i.all.bank j h) (r.places.bank j h)))

      help : every (help_place_ok N) (take N m.bench.help) ≡ true
      help = every_true (help_place_ok N) no_help (take N m.bench.help) (λ j hj.
          let y = length-take-le N m.bench.help r.places.help_length in let h : j < N = omega arith in
          rw (get_or-take N m.bench.help j no_help h) (help_ok N _ _ _ _ (i.all.help_buf j h) (r.places.help j h)))

      process : every (process_ok N W) (take N m.records) ≡ true
      process = every_true (process_ok N W) no_process (take N m.records) (λ j hj.
          let y = length-take-le N m.records r.records_length in let h : j < N = omega arith in
          rw (get_or-take N m.records j no_process h, r.process j h) (process_ok_is (z.loc j) (i.each j h) (c j h)))
