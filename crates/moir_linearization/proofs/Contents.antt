-- Segments, A and what the processes took from them: the clauses that rest on the bound (layers 4 to 6).
use mathlib.Core.Path.{◌≡◌}
use mathlib.Core.Bool.{false}
use mathlib.Core.Logic.{◌⊎◌}
use Prim.Native.Nat.{ℕ, suc, ◌<◌}
use Rattle.laws.proofs.Parts.{SamePart}
use Rattle.laws.proofs.Claimed.{On}
use Rattle.moir_model.specs.Points.{Point}
use Rattle.moir_linearization.proofs.GhostMachine.{Local, Shared, State, prev}
use Rattle.moir_linearization.proofs.PointRanges.{lines}
use Rattle.moir_linearization.proofs.Frame.{Holds}

-- segment i holds its word of the present version
abbrev pub Fresh : Shared → ℕ → Type 0
Fresh h i = h.seg_tag i ≡ h.tag

abbrev pub Behind : Shared → ℕ → Type 0
Behind h i = h.seg_tag i ≡ h.tag → ⊥

abbrev pub AllFresh : Shared → ℕ → Type 0
AllFresh h k = (i : ℕ) → i < k → Fresh h i

-- z is the word of the present version
pub record Right (h : Shared) (k t v : ℕ) : Type 0 where
  pub tag : t ≡ h.tag
  pub val : v ≡ h.value k

module _ (M W : ℕ) where
  pub record ProcessContents (n : ℕ) (y : Point) (h : Shared) (p : ℕ) (l : Local) : Type 0 where
    -- an SC that succeeded follows a WLL that answered words
    pub unnamed : On (lines 11 15 y) (l.named ≡ false)
    -- A1: the last writer writes its next words only if it has read its own version again
    pub own_read : On (lines 9 10 y) (h.pid ≡ p → l.read_version ≡ h.successes)
    -- G1: who has read the present version and is past its WLL found every segment copied
    pub found_copied : On (lines 5 15 y) (l.read_version ≡ h.successes → AllFresh h W)
    -- G2: in the WLL, those before its place, and its place from line 6 on
    pub part_copied : On (lines 0 4 y) (l.read_version ≡ h.successes → AllFresh h l.word)
    pub place_copied : On (lines 3 4 y) (l.read_version ≡ h.successes → Fresh h l.word)
    -- Y2: y is what stands in a segment still behind
    pub y_val_is : On (lines 1 2 y) (l.read_version ≡ h.successes → Behind h l.word → l.y_val ≡ h.seg_val l.word)
    -- Z1: z is what a segment still behind is to get
    pub z_ll : On (lines 2 2 y) (l.read_version ≡ h.successes → Behind h l.word → Right h l.word l.z_tag l.z_val)
    pub z_sc : On (lines 13 13 y) (suc l.read_version ≡ h.successes → Behind h l.word → Right h l.word l.z_tag l.z_val)
    -- Y3, M1: the word to be returned next, and those returned
    pub y_value : On (lines 4 4 y) (l.read_version ≡ h.successes → l.y_val ≡ h.value l.word)
    pub returned_part : On (lines 0 4 y) (l.read_version ≡ h.successes → SamePart l.returned h.value l.word)

  pub record SharedContents (n : ℕ) (h : Shared) : Type 0 where
    -- F1: each segment is of the present version or of the one before
    pub seg_tag_is : (i : ℕ) → i < W → (h.seg_tag i ≡ h.tag) ⊎ (h.seg_tag i ≡ prev M h.tag)
    -- F2: its word is that of the present version; A2: or the last writer's row of A has it
    pub seg_val_is : (i : ℕ) → i < W → Fresh h i → h.seg_val i ≡ h.value i
    pub row_val : (i : ℕ) → i < W → Behind h i → h.rows h.pid i ≡ h.value i

  abbrev pub Contents : ℕ → State → Type 0
  Contents = Holds SharedContents ProcessContents

  -- a command later
  pub contents_later : (n : ℕ) (y : Point) (h : Shared) (p : ℕ) (l : Local) → ProcessContents n y h p l → ProcessContents (suc n) y h p l
  contents_later n y h p l m = search

  pub contents_later_all : (n : ℕ) (h : Shared) → SharedContents n h → SharedContents (suc n) h
  contents_later_all n h g = search
