-- Every number stays in its range (row 9): a family of invariants of its own, over the same machine.
use mathlib.Core.Bool.{false, cond}
use Prim.Native.Nat.{ℕ, suc, ◌*◌, ◌%◌, ◌<◌}
use native.Mathlib.Nat.{mod-lt}
use native.Mathlib.Omega.{arith}
use lib.Dec.{ltb, eqb}
use borrow.Author.Tests.{ltb-true}
use Rattle.laws.proofs.Updates.{upd, upd_same, upd_other, Split, same, other, split, by_test}
use Rattle.linearization.proofs.GhostMachine.{Local, Shared, State, quiet, noisy, step_at, to, set_link_help}
use Rattle.linearization.proofs.GhostMachine.{set_link_bank, set_link_x}
use Rattle.linearization.proofs.GhostMachine.{set_word, set_returned}
use Rattle.linearization.proofs.GhostMachine.{w_buf}
use Rattle.model.specs.Points.{Point, idle, line1, line2, line3, line4, line5, line6, line7, line7copy, line8, line9}
use Rattle.model.specs.Points.{line10, line11, line12, line12valid, line13, line14, line14valid, line15, line17, line18}
use Rattle.model.specs.Points.{line19, line23}

module _ (N W : ℕ) where
  pub record ProcessRanges (l : Local) : Type 0 where
    pub word : l.word < W
    pub my : l.mybuf < 3 * N
    pub copy_buf : l.copy_buf < 3 * N
    pub b : l.b < 3 * N
    pub c : l.c < 3 * N
    pub d : l.d < 3 * N
    pub e : l.e < 3 * N
    pub copy_seq : l.copy_seq < 2 * N

  pub record SharedRanges (h : Shared) : Type 0 where
    pub xbuf : h.xbuf < 3 * N
    pub xseq : h.xseq < 2 * N
    pub bank : (j : ℕ) → j < 2 * N → h.bank j < 3 * N
    pub help_buf : (j : ℕ) → j < N → h.help_buf j < 3 * N

  pub record InRanges (s : State) : Type 0 where
    pub all : SharedRanges s.sh
    pub each : (q : ℕ) → q < N → ProcessRanges (s.loc q)

  below : (n m : ℕ) (f : ℕ → ℕ) (i v : ℕ) → v < m → ((j : ℕ) → j < n → f j < m) → (j : ℕ) → j < n → upd f i v j < m
  below n m f i v hv a j hj = go (split j i)
    where
      go : Split j i → upd f i v j < m
      go (same e) = rw e (rw (upd_same f i v) hv)
      go (other ne) = rw (upd_other f i j v ne) (a j hj)

  module _ (s : State) (p t : ℕ) (hp : p < N) (h_w : 0 < W) (i : InRanges s) where
    abbrev l : Local
    l = s.loc p

    abbrev h : Shared
    h = s.sh

    n! : (h' : Shared) (g : Local → Local) (k : Local) → SharedRanges h' → ProcessRanges k
        → ((q : ℕ) → q < N → ProcessRanges (s.loc q) → ProcessRanges (g (s.loc q))) → InRanges (noisy s p h' g k)
    n! h' g k a b c = record { all = a; each = λ q hq. go q hq (split q p) }
      where
        go : (q : ℕ) → q < N → Split q p → ProcessRanges (upd (λ r. g (s.loc r)) p k q)
        go q hq (same e) = rw e (rw (upd_same (λ r. g (s.loc r)) p k) b)
        go q hq (other ne) = rw (upd_other (λ r. g (s.loc r)) p q k ne) (c q hq (i.each q hq))

    q! : (k : Local) → ProcessRanges k → InRanges (quiet s p k)
    q! k b = n! s.sh (λ l. l) k i.all b (λ q hq x. x)

    m : ProcessRanges l
    m = i.each p hp

    hu : l.copy_seq % N < N
    hu = mod-lt l.copy_seq (omega arith)

    hv : suc l.copy_seq % (2 * N) < 2 * N
    hv = mod-lt (suc l.copy_seq) (omega arith)

    r! : (y u : Point) (k : Local) → ProcessRanges k → InRanges (quiet s p (cond (ltb (suc k.word) W) (set_word (suc k.word) (to y k)) (set_word 0 (to u k))))
    r! y u k a = by_test (λ x. InRanges (quiet s p x)) (ltb (suc k.word) W) (λ e. q! _ (let z = ltb-true (suc k.word) W e in search arith)) (λ e. q! _ (search arith))

    pub range_step : (y : Point) → InRanges (step_at N W y t p s)
    unfolding step_at
    range_step idle = i
    range_step line1 = n! _ (set_link_help p false) _ (let a = i.all in let b = below N (3 * N) h.help_buf p l.mybuf m.my i.all.help_buf in search) (let a = m in search) (λ q hq x. search)
    range_step line2 = q! _ (let a = m in let b = i.all in search)
    range_step line3 = r! line3 line4 (set_returned l.word (h.buf l.copy_buf l.word) l) (let a = m in search)
    range_step line4 = by_test InRanges (h.flag p) (λ e. q! _ (let a = m in search)) (λ e. q! _ (let a = m in let b = i.all.help_buf p hp in search))
    range_step line5 = q! _ (let a = m in let b = i.all in search)
    range_step line6 = r! line6 line7 (set_returned l.word (h.buf l.copy_buf l.word) l) (let a = m in search)
    range_step line7 = by_test InRanges l.link_x (λ e. q! _ (let a = m in search)) (λ e. q! _ (let a = m in search))
    range_step line7copy = r! line7copy line8 (set_returned l.word (h.buf l.b l.word) l) (let a = m in search)
    range_step line8 = by_test InRanges (h.flag p) (λ e. q! _ (let a = m in let b = i.all.help_buf p hp in search)) (λ e. q! _ (let a = m in search))
    range_step line9 =
        by_test InRanges (l.link_help p)
        (λ e. n! _ (set_link_help p false) _ (let a = i.all in let b = below N (3 * N) h.help_buf p l.c m.c i.all.help_buf in search) (let a = m in search) (λ q hq x. search))
        (λ e. q! _ (let a = m in search))
    range_step line10 = q! _ (let a = m in let b = i.all.help_buf p hp in search)
    range_step line11 =
        by_test InRanges (ltb (suc l.word) W)
        (λ e. n! _ (λ l. l) _ (let a = i.all in search) (let a = m in let z = ltb-true (suc l.word) W e in search) (λ q hq x. x))
        (λ e. n! _ (λ l. l) _ (let a = i.all in search) (let a = m in search) (λ q hq x. x))
    range_step line12 = by_test InRanges (eqb (h.bank l.copy_seq) l.copy_buf) (λ e. q! _ (let a = m in search)) (λ e. q! _ (let a = m in search))
    range_step line12valid = by_test InRanges l.link_x (λ e. q! _ (let a = m in search)) (λ e. q! _ (let a = m in search))
    range_step line13 =
        by_test InRanges (l.link_bank l.copy_seq)
        (λ e. n! _ (set_link_bank l.copy_seq false) _
        (let a = i.all in let b = below (2 * N) (3 * N) h.bank l.copy_seq l.copy_buf m.copy_buf i.all.bank in search) (let a = m in search)
        (λ q hq x. search))
        (λ e. q! _ (let a = m in search))
    range_step line14 = by_test InRanges (h.flag (l.copy_seq % N)) (λ e. q! _ (let a = m in let b = i.all.help_buf _ hu in search)) (λ e. q! _ (let a = m in search))
    range_step line14valid = by_test InRanges l.link_x (λ e. q! _ (let a = m in search)) (λ e. q! _ (let a = m in search))
    range_step line15 =
        by_test InRanges (l.link_help (l.copy_seq % N))
        (λ e. n! _ (set_link_help (l.copy_seq % N) false) _
        (let a = i.all in let b = below N (3 * N) h.help_buf (l.copy_seq % N) l.mybuf m.my i.all.help_buf in search) (let a = m in search) (λ q hq x. search))
        (λ e. q! _ (let a = m in search))
    range_step line17 =
        by_test (λ x. InRanges (noisy s p (w_buf l.mybuf l.word (l.offered l.word) h) (λ l. l) x)) (ltb (suc l.word) W)
        (λ e. n! _ (λ l. l) _ (let a = i.all in search) (let a = m in let z = ltb-true (suc l.word) W e in search) (λ q hq x. x))
        (λ e. n! _ (λ l. l) _ (let a = i.all in search) (let a = m in search) (λ q hq x. x))
    range_step line18 = q! _ (let a = m in let b = i.all.bank _ hv in search)
    range_step line19 =
        by_test InRanges l.link_x
        (λ e. n! _ (set_link_x false) _ (let a = i.all in let b = m.my in let c = hv in search) (let a = m in search) (λ q hq x. search))
        (λ e. n! _ (λ l. l) _ (let a = i.all in search) (let a = m in search) (λ q hq x. x))
    range_step line23 = n! _ (λ l. l) _ (let a = i.all in search) (let a = m in search) (λ q hq x. x)
