-- The machine of Figure 2, one access a step, over functions ℕ → A, with its ghost state.
-- N is the number of processes, W the number of cells of a buffer.
use mathlib.Core.Bool.{Bool, true, false}
use Prim.Native.Nat.{ℕ, suc, ◌+◌, ◌*◌, ◌%◌}
use lib.Dec.{ltb, eqb}
use mathlib.Core.Bool.{cond}
use Rattle.laws.proofs.Updates.{upd, swap}
use Rattle.model.specs.Points.{Point, idle, line1, line2, line3, line4, line5, line6, line7, line7copy, line8, line9}
use Rattle.model.specs.Points.{line10, line11, line12, line12valid, line13, line14, line14valid, line15, line17, line18}
use Rattle.model.specs.Points.{line19, line23}

-- a process: its private numbers, its links, its two areas, and (from r on) ghosts
pub record Local : Type 0 where
  pub point : Point
  pub word : ℕ
  pub count : ℕ
  pub answered : Bool
  pub mybuf : ℕ
  pub copy_buf : ℕ
  pub copy_seq : ℕ
  pub b : ℕ
  pub c : ℕ
  pub d : ℕ
  pub e : ℕ
  pub link_x : Bool
  pub link_bank : ℕ → Bool
  pub link_help : ℕ → Bool
  pub returned : ℕ → ℕ
  pub offered : ℕ → ℕ
  pub read_version : ℕ
  pub read_at : ℕ
  pub checked_at : ℕ
  pub moment : ℕ
  pub version : ℕ

-- what is shared, and (from S on) ghosts
pub record Shared : Type 0 where
  pub xbuf : ℕ
  pub xseq : ℕ
  pub bank : ℕ → ℕ
  pub flag : ℕ → Bool
  pub help_buf : ℕ → ℕ
  pub buf : ℕ → ℕ → ℕ
  pub successes : ℕ
  pub values : ℕ → ℕ → ℕ
  pub buffers : ℕ → ℕ
  pub won_at : ℕ → ℕ
  pub holders : ℕ → ℕ
  pub asked : ℕ → ℕ
  pub start : ℕ → ℕ
  pub help_version : ℕ → ℕ
  pub help_moment : ℕ → ℕ
  pub served_link : ℕ → Bool
  pub last_moment : ℕ → ℕ

pub record State : Type 0 where
  pub sh : Shared
  pub loc : ℕ → Local

-- setters; `abbrev`: a field of a set record computes everywhere
abbrev pub to : Point → Local → Local
to q l = record l { point = q; count = suc l.count }

abbrev pub set_word : ℕ → Local → Local
set_word n l = record l { word = n }

-- idle, with count 0; the mark is set by an LL's answer
abbrev pub rest : Bool → Local → Local
rest m l = record l { point = idle; count = 0; answered = m }

abbrev pub begin : Point → (ℕ → ℕ) → Local → Local
begin q w l = record l { point = q; word = 0; count = 0; offered = w }

abbrev pub set_mybuf : ℕ → Local → Local
set_mybuf n l = record l { mybuf = n }

-- LL(X) by the process: the copy of X, the link, and the ghosts r and tx
abbrev pub ll_x : Shared → ℕ → Local → Local
ll_x s t l = record l { copy_buf = s.xbuf; copy_seq = s.xseq; link_x = true; read_version = s.successes; read_at = t }

abbrev pub set_returned : ℕ → ℕ → Local → Local
set_returned i v l = record l { returned = upd l.returned i v }

abbrev pub set_b : ℕ → Local → Local
set_b n l = record l { b = n }

abbrev pub set_c : ℕ → Local → Local
set_c n l = record l { c = n }

abbrev pub set_d : ℕ → Local → Local
set_d n l = record l { d = n }

abbrev pub set_e : ℕ → Local → Local
set_e n l = record l { e = n }

-- the three links
abbrev pub set_link_x : Bool → Local → Local
set_link_x n l = record l { link_x = n }

abbrev pub set_link_bank : ℕ → Bool → Local → Local
set_link_bank i n l = record l { link_bank = upd l.link_bank i n }

abbrev pub set_link_help : ℕ → Bool → Local → Local
set_link_help i n l = record l { link_help = upd l.link_help i n }

abbrev pub set_checked_at : ℕ → Local → Local
set_checked_at n l = record l { checked_at = n }

abbrev pub set_moment : ℕ → ℕ → Local → Local
set_moment n v l = record l { moment = n; version = v }

-- the six writes of shared memory, on Shared
abbrev pub w_buf : ℕ → ℕ → ℕ → Shared → Shared
w_buf i j v s = record s { buf = upd s.buf i (upd (s.buf i) j v) }

abbrev pub w_bank : ℕ → ℕ → Shared → Shared
w_bank i v s = record s { bank = upd s.bank i v }

abbrev pub w_help : ℕ → Bool → ℕ → Shared → Shared
w_help i f v s = record s { flag = upd s.flag i f; help_buf = upd s.help_buf i v }

abbrev pub w_asked : ℕ → ℕ → Shared → Shared
w_asked i v s = record s { asked = upd s.asked i v }

-- help given: the ghosts of the helped process, and the two owners change places
abbrev pub w_give : ℕ → ℕ → ℕ → ℕ → ℕ → Shared → Shared
w_give i j t h v s = record s {
  holders = swap s.holders i j;
  help_version = upd s.help_version t v;
  help_moment = upd s.help_moment t h;
}

-- a success: X, and the ghosts of success number suc S
abbrev pub w_x : ℕ → ℕ → (ℕ → ℕ) → ℕ → ℕ → ℕ → Shared → Shared
w_x n q w t i j s = record s {
  xbuf = n;
  xseq = q;
  successes = suc s.successes;
  values = upd s.values (suc s.successes) w;
  buffers = upd s.buffers (suc s.successes) n;
  won_at = upd s.won_at (suc s.successes) t;
  holders = swap s.holders i j;
  served_link = λ q. false;
}

-- a call of p ends: the served object's link of p, and p's last moment
abbrev pub w_end : ℕ → Bool → ℕ → Shared → Shared
w_end p x t s = record s { served_link = upd s.served_link p x; last_moment = upd s.last_moment p t }

abbrev pub w_start : ℕ → ℕ → Shared → Shared
w_start i v s = record s { start = upd s.start i v }

-- a quiet step: the process alone
abbrev pub quiet : State → ℕ → Local → State
quiet s p l = record { sh = s.sh; loc = upd s.loc p l }

-- a step that writes: g is what it does to every process's links
abbrev pub noisy : State → ℕ → Shared → (Local → Local) → Local → State
noisy s p h g l = record { sh = h; loc = upd (λ q. g (s.loc q)) p l }

-- the next word: on at the same line, or to the line q with place 0
abbrev pub word : ℕ → Point → Point → Local → Local
word W y q l = cond (ltb (suc l.word) W) (set_word (suc l.word) (to y l)) (set_word 0 (to q l))

module _ (N W : ℕ) where
  -- one step of p, at line `pc`, in the system s, as command number t
  unfoldable pub step_at : Point → ℕ → ℕ → State → State
  step_at idle t p s = s
  step_at line1 t p s = let l = s.loc p in
      let h = w_asked p s.sh.successes (w_help p true l.mybuf s.sh) in
      noisy s p h (set_link_help p false) (to line2 (set_link_help p false l))
  step_at line2 t p s = quiet s p (to line3 (ll_x s.sh t (s.loc p)))
  step_at line3 t p s = let l = s.loc p in
      quiet s p (word W line3 line4 (set_returned l.word (s.sh.buf l.copy_buf l.word) l))
  step_at line4 t p s = let l = s.loc p in
      cond (s.sh.flag p)
      (quiet s p (to line8 (set_moment l.read_at l.read_version (set_link_help p true l))))
      (quiet s p (to line5 (set_b (s.sh.help_buf p) (set_link_help p true l))))
  step_at line5 t p s = quiet s p (to line6 (ll_x s.sh t (s.loc p)))
  step_at line6 t p s = let l = s.loc p in
      quiet s p (word W line6 line7 (set_returned l.word (s.sh.buf l.copy_buf l.word) l))
  step_at line7 t p s = let l = s.loc p in
      cond l.link_x
      (quiet s p (to line8 (set_moment l.read_at l.read_version l)))
      (quiet s p (to line7copy (set_moment (s.sh.help_moment p) (s.sh.help_version p) l)))
  step_at line7copy t p s = let l = s.loc p in
      quiet s p (word W line7copy line8 (set_returned l.word (s.sh.buf l.b l.word) l))
  step_at line8 t p s = let l = s.loc p in
      cond (s.sh.flag p)
      (quiet s p (to line9 (set_c (s.sh.help_buf p) (set_link_help p true l))))
      (quiet s p (to line10 (set_link_help p true l)))
  step_at line9 t p s = let l = s.loc p in
      let unlink = set_link_help p false in
      cond (l.link_help p)
      (noisy s p (w_help p false l.c s.sh) unlink (to line10 (unlink l)))
      (quiet s p (to line10 l))
  step_at line10 t p s = quiet s p (to line11 (set_mybuf (s.sh.help_buf p) (s.loc p)))
  step_at line11 t p s = let l = s.loc p in
      let h = w_buf l.mybuf l.word (l.returned l.word) s.sh in
      cond (ltb (suc l.word) W)
      (noisy s p h (λ x. x) (set_word (suc l.word) (to line11 l)))
      (noisy s p (w_end p l.link_x l.moment h) (λ x. x) (rest true (set_word 0 l)))
  step_at line12 t p s = let l = s.loc p in
      cond (eqb (s.sh.bank l.copy_seq) l.copy_buf)
      (quiet s p (to line14 (set_link_bank l.copy_seq true l)))
      (quiet s p (to line12valid (set_link_bank l.copy_seq true l)))
  step_at line12valid t p s = let l = s.loc p in cond l.link_x (quiet s p (to line13 l)) (quiet s p (to line14 l))
  step_at line13 t p s = let l = s.loc p in
      let unlink = set_link_bank l.copy_seq false in
      cond (l.link_bank l.copy_seq)
      (noisy s p (w_bank l.copy_seq l.copy_buf s.sh) unlink (to line14 (unlink l)))
      (quiet s p (to line14 l))
  step_at line14 t p s = let l = s.loc p in
      let i = l.copy_seq % N in
      cond (s.sh.flag i)
      (quiet s p (to line14valid (set_d (s.sh.help_buf i) (set_link_help i true l))))
      (quiet s p (to line17 (set_link_help i true l)))
  step_at line14valid t p s = let l = s.loc p in
      cond l.link_x (quiet s p (to line15 (set_checked_at t l))) (quiet s p (to line17 l))
  step_at line15 t p s = let l = s.loc p in
      let i = l.copy_seq % N in
      let unlink = set_link_help i false in
      let h = w_give (2 * N + p) (2 * N + i) i l.checked_at l.read_version (w_help i false l.mybuf s.sh) in
      cond (l.link_help i)
      (noisy s p h unlink (to line17 (set_mybuf l.d (unlink l))))
      (quiet s p (to line17 l))
  step_at line17 t p s = let l = s.loc p in
      noisy s p (w_buf l.mybuf l.word (l.offered l.word) s.sh) (λ x. x) (word W line17 line18 l)
  step_at line18 t p s = let l = s.loc p in quiet s p (to line19 (set_e (s.sh.bank (suc l.copy_seq % (2 * N))) l))
  step_at line19 t p s = let l = s.loc p in
      let seq = suc l.copy_seq % (2 * N) in
      let h = w_x l.mybuf seq l.offered t seq (2 * N + p) s.sh in
      cond l.link_x
      (noisy s p (w_end p false t h) (set_link_x false) (rest l.answered (set_mybuf l.e (set_link_x false l))))
      (noisy s p (w_end p l.link_x t s.sh) (λ x. x) (rest l.answered l))
  step_at line23 t p s = let l = s.loc p in noisy s p (w_end p l.link_x t s.sh) (λ x. x) (rest l.answered l)

  unfoldable pub step : ℕ → ℕ → State → State
  unfolding step_at
  step t p s = step_at (s.loc p).point t p s
