-- Figure 6's W-word WLL, VL and SC from CAS (document 001), with CR 8's repair, over functions ℕ → A, with its ghost state.
-- M is the tags' modulus, W the number of words. One access to a step, then the lines without an access up to the next one.
use mathlib.Core.Bool.{Bool, true, false, ◌&&◌, cond}
use Prim.Native.Nat.{ℕ, suc, ◌+◌, ◌-◌, ◌%◌, ◌<◌}
use lib.Dec.{ltb, eqb}
use Rattle.laws.proofs.Updates.{upd}
use Rattle.moir_model.specs.Points.{Point, idle, ll10, ll2, ll4, ll5, ll6, ll7, sc14, sc17, sc19, sc2, sc4, sc5, sc6, sc7, vl13}

-- a process: Figure 6's private variables, its two areas, the mark of an answered WLL, and (from startVersion on) ghosts: the
-- successes at its last WLL's start and at that WLL's line 10, its open call's start, the command at which its call takes
-- effect if line 10 or 19 is it, and whether its last answered WLL named a process
pub record Local : Type 0 where
  pub point : Point
  pub word : ℕ
  pub count : ℕ
  pub mark : Bool
  pub keep : ℕ
  pub x_tag : ℕ
  pub x_pid : ℕ
  pub old_tag : ℕ
  pub old_pid : ℕ
  pub new_tag : ℕ
  pub new_pid : ℕ
  pub h_tag : ℕ
  pub h_pid : ℕ
  pub y_tag : ℕ
  pub y_val : ℕ
  pub z_tag : ℕ
  pub z_val : ℕ
  pub returned : ℕ → ℕ
  pub offered : ℕ → ℕ
  pub start_version : ℕ
  pub read_version : ℕ
  pub start : ℕ
  pub key : ℕ
  pub named : Bool

-- the header, the segments, A, and (from successes on) ghosts: how many SCs have succeeded, the words of the last one and its
-- command number
pub record Shared : Type 0 where
  pub tag : ℕ
  pub pid : ℕ
  pub seg_tag : ℕ → ℕ
  pub seg_val : ℕ → ℕ
  pub rows : ℕ → ℕ → ℕ
  pub successes : ℕ
  pub value : ℕ → ℕ
  pub won_at : ℕ

pub record State : Type 0 where
  pub sh : Shared
  pub loc : ℕ → Local

-- Setters; `abbrev`: a field of a set record computes everywhere.
-- a step to the point q
abbrev pub to : Point → Local → Local
to q l = record l { point = q; count = l.count + 1 }

-- the word place
abbrev pub set_word : ℕ → Local → Local
set_word k l = record l { word = k }

-- lines 10 and 11: x and keep, with the version read and the command's number
abbrev pub read_header : ℕ → ℕ → ℕ → ℕ → Local → Local
read_header t q v n l = record l { keep = t; x_tag = t; x_pid = q; read_version = v; key = n }

-- lines 2 and 6
abbrev pub set_y : ℕ → ℕ → Local → Local
set_y t v l = record l { y_tag = t; y_val = v }

-- line 4
abbrev pub set_z : ℕ → ℕ → Local → Local
set_z t v l = record l { z_tag = t; z_val = v }

-- line 7
abbrev pub set_h : ℕ → ℕ → Local → Local
set_h t q l = record l { h_tag = t; h_pid = q }

-- line 8
abbrev pub set_returned : ℕ → ℕ → Local → Local
set_returned k v l = record l { returned = upd l.returned k v }

-- line 14
abbrev pub set_old : ℕ → ℕ → Local → Local
set_old t q l = record l { old_tag = t; old_pid = q }

-- line 18
abbrev pub set_new : ℕ → ℕ → Local → Local
set_new t q l = record l { new_tag = t; new_pid = q }

-- the command at which the call takes effect
abbrev pub set_key : ℕ → Local → Local
set_key n l = record l { key = n }

-- an answer: idle, count 0 and place 0
abbrev pub rest : Local → Local
rest l = record l { point = idle; word = 0; count = 0 }

-- the answer of a WLL also sets the mark; b says whether it names a process
abbrev pub rest_lL : Bool → Local → Local
rest_lL b l = record l { point = idle; word = 0; count = 0; mark = true; named = b }

-- a start as command number n
abbrev pub begin : Point → ℕ → ℕ → (ℕ → ℕ) → Local → Local
begin q n v w l = record l { point = q; count = 0; offered = w; start_version = v; start = n }

-- the three writes of shared memory: a segment, a word of A, the header (with the ghosts of a success)
abbrev pub w_seg : ℕ → ℕ → ℕ → Shared → Shared
w_seg k t v h = record h { seg_tag = upd h.seg_tag k t; seg_val = upd h.seg_val k v }

abbrev pub w_row : ℕ → ℕ → ℕ → Shared → Shared
w_row q k v h = record h { rows = upd h.rows q (upd (h.rows q) k v) }

abbrev pub w_header : ℕ → ℕ → (ℕ → ℕ) → ℕ → Shared → Shared
w_header t q w n h = record h { tag = t; pid = q; successes = suc h.successes; value = w; won_at = n }

-- a step that leaves shared memory alone, and one that writes
abbrev pub quiet : State → ℕ → Local → State
quiet s p l = record { sh = s.sh; loc = upd s.loc p l }

abbrev pub noisy : State → ℕ → Shared → Local → State
noisy s p h l = record { sh = h; loc = upd s.loc p l }

-- the tag before t, and the tag after it
unfoldable pub prev : ℕ → ℕ → ℕ
prev M t = (t + (M - 1)) % M

abbrev pub next : ℕ → ℕ → ℕ
next M t = suc t % M

-- two pairs are equal: a segment and a copy of one, a header and a copy of one
abbrev pub eq_pair : ℕ → ℕ → ℕ → ℕ → Bool
eq_pair a b c d = eqb a c && eqb b d

module _ (M W : ℕ) where
  -- one step of p, at point y, as command number n
  unfoldable pub step_at : Point → ℕ → ℕ → State → State
  step_at idle n p s = s
  step_at ll10 n p s = quiet s p (to ll2 (read_header s.sh.tag s.sh.pid s.sh.successes n (s.loc p)))
  step_at ll2 n p s = let l = s.loc p in
      let read = set_y (s.sh.seg_tag l.word) (s.sh.seg_val l.word) l in
      cond (eqb (s.sh.seg_tag l.word) (prev M l.x_tag)) (quiet s p (to ll4 read)) (quiet s p (to ll7 read))
  step_at ll4 n p s = let l = s.loc p in quiet s p (to ll5 (set_z l.x_tag (s.sh.rows l.x_pid l.word) l))
  step_at ll5 n p s = let l = s.loc p in
      cond (eq_pair (s.sh.seg_tag l.word) (s.sh.seg_val l.word) l.y_tag l.y_val)
      (noisy s p (w_seg l.word l.z_tag l.z_val s.sh) (to ll6 l))
      (quiet s p (to ll6 l))
  step_at ll6 n p s = let l = s.loc p in quiet s p (to ll7 (set_y (s.sh.seg_tag l.word) (s.sh.seg_val l.word) l))
  step_at ll7 n p s = let l = s.loc p in
      let read = set_h s.sh.tag s.sh.pid l in
      let saved = set_returned l.word l.y_val read in
      cond (eq_pair s.sh.tag s.sh.pid l.x_tag l.x_pid)
      (cond (ltb (suc l.word) W) (quiet s p (set_word (suc l.word) (to ll2 saved))) (quiet s p (rest_lL false saved)))
      (quiet s p (rest_lL true read))
  step_at sc14 n p s = let l = s.loc p in
      let read = set_old s.sh.tag s.sh.pid l in
      cond (eqb s.sh.tag l.keep) (quiet s p (to sc17 read)) (quiet s p (rest read))
  step_at sc17 n p s = let l = s.loc p in
      let h = w_row p l.word (l.offered l.word) s.sh in
      cond (ltb (suc l.word) W)
      (noisy s p h (set_word (suc l.word) (to sc17 l)))
      (noisy s p h (set_word 0 (set_new (next M l.old_tag) p (to sc19 l))))
  step_at sc19 n p s = let l = s.loc p in
      cond (eq_pair s.sh.tag s.sh.pid l.old_tag l.old_pid)
      (noisy s p (w_header l.new_tag l.new_pid l.offered n s.sh) (set_key n (to sc2 l)))
      (quiet s p (rest l))
  step_at sc2 n p s = let l = s.loc p in
      let read = set_y (s.sh.seg_tag l.word) (s.sh.seg_val l.word) l in
      cond (eqb (s.sh.seg_tag l.word) (prev M l.new_tag)) (quiet s p (to sc4 read)) (quiet s p (to sc7 read))
  step_at sc4 n p s = let l = s.loc p in quiet s p (to sc5 (set_z l.new_tag (s.sh.rows l.new_pid l.word) l))
  step_at sc5 n p s = let l = s.loc p in
      cond (eq_pair (s.sh.seg_tag l.word) (s.sh.seg_val l.word) l.y_tag l.y_val)
      (noisy s p (w_seg l.word l.z_tag l.z_val s.sh) (to sc6 l))
      (quiet s p (to sc6 l))
  step_at sc6 n p s = let l = s.loc p in quiet s p (to sc7 (set_y (s.sh.seg_tag l.word) (s.sh.seg_val l.word) l))
  step_at sc7 n p s = let l = s.loc p in
      let read = set_h s.sh.tag s.sh.pid l in
      cond (eq_pair s.sh.tag s.sh.pid l.new_tag l.new_pid)
      (cond (ltb (suc l.word) W) (quiet s p (set_word (suc l.word) (to sc2 read))) (quiet s p (rest read)))
      (quiet s p (rest read))
  step_at vl13 n p s = quiet s p (rest (s.loc p))

  unfoldable pub step : ℕ → ℕ → State → State
  unfolding step_at
  step n p s = step_at (s.loc p).point n p s

  -- CR 8's bound, at a step of p: fewer than M - 1 SCs succeeded since the start of p's last WLL, this step's own success counted
  pub record Bounded (n p : ℕ) (s : State) : Type 0 where
    pub few : suc (step n p s).sh.successes < (s.loc p).start_version + M
