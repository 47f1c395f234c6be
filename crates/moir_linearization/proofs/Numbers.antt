-- Numbers, tags and times: the clauses that hold without the bound (layers 1 to 3).
use mathlib.Core.Path.{◌≡◌}
use mathlib.Core.Bool.{true}
use Prim.Native.Nat.{ℕ, suc, ◌%◌, ◌≤◌, ◌<◌}
use native.Mathlib.Omega.{arith}
use Rattle.laws.proofs.Parts.{SamePart}
use Rattle.laws.proofs.Claimed.{On}
use Rattle.moir_model.specs.Points.{Point}
use Rattle.moir_linearization.proofs.GhostMachine.{Local, Shared, State, prev}
use Rattle.moir_linearization.proofs.PointRanges.{lines}
use Rattle.moir_linearization.proofs.Frame.{Holds}

module _ (M W : ℕ) where
  -- what holds of process p, whose record is l and which stands at y, before command n
  pub record ProcessNumbers (n : ℕ) (y : Point) (h : Shared) (p : ℕ) (l : Local) : Type 0 where
    -- D0: its times are past
    pub start_past : l.start < n
    pub key_past : l.key < n
    -- W0, W1, N2: the versions that it knows, in their order
    pub begun_made : l.start_version ≤ h.successes
    pub begun_read_ll : On (lines 0 4 y) (l.start_version ≤ l.read_version)
    pub begun_read : On (lines 6 15 y) (l.start_version ≤ l.read_version)
    pub read_made : l.read_version ≤ h.successes
    -- Mk: an SC or a VL runs only after an answered WLL
    pub marked : On (lines 7 15 y) (l.mark ≡ true)
    -- R: the word place: 0 but in a run of words, and there below W
    pub no_run : On (lines 5 8 y) (l.word ≡ 0)
    pub no_run_19 : On (lines 10 10 y) (l.word ≡ 0)
    pub in_ll : On (lines 0 4 y) (l.word < W)
    pub in_17 : On (lines 9 9 y) (l.word < W)
    pub in_copy : On (lines 11 15 y) (l.word < W)
    -- Kp, X1, O1, H1: the tags kept are those of the version read, and newhdr is the next one's
    pub keep_tag : l.keep ≡ l.read_version % M
    pub x_tag_is : On (lines 0 4 y) (l.x_tag ≡ l.read_version % M)
    pub old_tag_is : On (lines 9 10 y) (l.old_tag ≡ l.read_version % M)
    pub new_tag_is : On (lines 10 15 y) (l.new_tag ≡ suc l.read_version % M)
    pub new_pid_is : On (lines 10 15 y) (l.new_pid ≡ p)
    -- X2, O2: and the process, while that version is the present one
    pub x_pid_is : On (lines 0 4 y) (l.read_version ≡ h.successes → l.x_pid ≡ h.pid)
    pub old_pid_is : On (lines 9 10 y) (l.read_version ≡ h.successes → l.old_pid ≡ h.pid)
    -- Y1: a segment is to be copied only if its tag is the one before
    pub y_tag_ll : On (lines 1 2 y) (l.y_tag ≡ prev M l.x_tag)
    pub y_tag_sc : On (lines 12 13 y) (l.y_tag ≡ prev M l.new_tag)
    -- E1, E2: in an SC's Copy its version has been made, and if it is the present one the header names p
    pub won : On (lines 11 15 y) (l.read_version < h.successes)
    pub won_pid : On (lines 11 15 y) (suc l.read_version ≡ h.successes → h.pid ≡ p)
    -- Q1: a WLL that named a process read an old version
    pub named_old : On (lines 5 15 y) (l.named ≡ true → l.read_version < h.successes)
    -- B1, B2: the command at which the call takes effect lies in the call; before the last success, if that came since
    pub ll_in_call : On (lines 0 4 y) (l.start < l.key)
    pub ll_before_win : On (lines 0 4 y) (l.read_version < h.successes → l.key < h.won_at)
    pub sc_in_call : On (lines 11 15 y) (l.start < l.key)
    -- D2: the words of A written so far
    pub offered_part : On (lines 9 9 y) (SamePart (h.rows p) l.offered l.word)
    pub offered_whole : On (lines 10 10 y) (SamePart (h.rows p) l.offered W)

  pub record SharedNumbers (n : ℕ) (h : Shared) : Type 0 where
    -- N1: the header's tag; T: the last success is past
    pub header_tag : h.tag ≡ h.successes % M
    pub won_past : h.won_at < n

  abbrev pub Numbers : ℕ → State → Type 0
  Numbers = Holds SharedNumbers ProcessNumbers

  -- a command later
  pub numbers_later : (n : ℕ) (y : Point) (h : Shared) (p : ℕ) (l : Local) → ProcessNumbers n y h p l → ProcessNumbers (suc n) y h p l
  numbers_later n y h p l m = search arith

  pub numbers_later_all : (n : ℕ) (h : Shared) → SharedNumbers n h → SharedNumbers (suc n) h
  numbers_later_all n h g = search arith
