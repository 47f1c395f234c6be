-- The invariants, and the two frame lemmas.
use mathlib.Core.Path.{◌≡◌, refl}
use mathlib.Core.Bool.{Bool, true, false, not, cond}
use Prim.Native.Nat.{ℕ, suc, ◌+◌, ◌*◌, ◌%◌, ◌≤◌, ◌<◌}
use lib.Dec.{leb, eqb, lit≤}
use borrow.Author.Tests.{leb-true, le-leb}
use native.Mathlib.Decide.{dec_le}
use native.Mathlib.Omega.{arith}
use Rattle.laws.proofs.Claimed.{On}
use Rattle.laws.proofs.Parts.{SamePart}
use Rattle.linearization.proofs.PointFacts.{busy, moving}
use Rattle.laws.proofs.Updates.{upd, upd_same, upd_other, Split, same, other, split, contra, is_true, is_false}
use Rattle.linearization.proofs.GhostMachine.{Local, Shared, State, quiet, noisy, w_end}
use Rattle.model.specs.Points.{Point, idle, line1, line2, line3, line4, line5, line6, line7, line7copy, line8, line9}
use Rattle.model.specs.Points.{line10, line11, line12, line12valid, line13, line14, line14valid, line15, line17, line18}
use Rattle.model.specs.Points.{line19, line23}

-- the lines in an order in which every set of lines that a clause names is a range
abbrev pub line_order : Point → ℕ
line_order line2 = 0
line_order line3 = 1
line_order line4 = 2
line_order line5 = 3
line_order line6 = 4
line_order line7 = 5
line_order line7copy = 6
line_order line8 = 7
line_order line9 = 8
line_order line10 = 9
line_order line11 = 10
line_order line1 = 11
line_order idle = 12
line_order line23 = 13
line_order line12 = 14
line_order line12valid = 15
line_order line13 = 16
line_order line14 = 17
line_order line14valid = 18
line_order line15 = 19
line_order line17 = 20
line_order line18 = 21
line_order line19 = 22

abbrev pub both : Bool → Bool → Bool
both true b = b
both false b = false

abbrev pub lines : ℕ → ℕ → Point → Bool
lines a b y = both (leb a (line_order y)) (leb (line_order y) b)

both_iff : (a b : Bool) → both a b ≡ true → (a ≡ true) × (b ≡ true)
both_iff true b e = (refl, e)
both_iff false b e = absurd (contra e refl)

both_tt : (a b : Bool) → a ≡ true → b ≡ true → both a b ≡ true
both_tt true b p q = q
both_tt false b p q = p

pub rng_get : (a b : ℕ) (y : Point) → lines a b y ≡ true → (a ≤ line_order y) × (line_order y ≤ b)
rng_get a b y e = let z = both_iff _ _ e in (leb-true a (line_order y) z.0, leb-true (line_order y) b z.1)

pub rng_put : (a b : ℕ) (y : Point) → a ≤ line_order y → line_order y ≤ b → lines a b y ≡ true
rng_put a b y p q = both_tt _ _ (le-leb a (line_order y) p) (le-leb (line_order y) b q)

pub ln_le : (y : Point) → line_order y ≤ 22
ln_le idle = lit≤ tt
ln_le line1 = lit≤ tt
ln_le line2 = lit≤ tt
ln_le line3 = lit≤ tt
ln_le line4 = lit≤ tt
ln_le line5 = lit≤ tt
ln_le line6 = lit≤ tt
ln_le line7 = lit≤ tt
ln_le line7copy = lit≤ tt
ln_le line8 = lit≤ tt
ln_le line9 = lit≤ tt
ln_le line10 = lit≤ tt
ln_le line11 = lit≤ tt
ln_le line12 = lit≤ tt
ln_le line12valid = lit≤ tt
ln_le line13 = lit≤ tt
ln_le line14 = lit≤ tt
ln_le line14valid = lit≤ tt
ln_le line15 = lit≤ tt
ln_le line17 = lit≤ tt
ln_le line18 = lit≤ tt
ln_le line19 = lit≤ tt
ln_le line23 = lit≤ tt

-- the use of one clause in another: a range within a range, and what is not below is above
pub wide : (a b c d : ℕ) (y : Point) → c ≤ a → b ≤ d → lines a b y ≡ true → lines c d y ≡ true
wide a b c d y p q e = let z = rng_get a b y e in rng_put c d y (omega arith) (omega arith)

pub above : (b : ℕ) (y : Point) → lines 0 b y ≡ false → lines (suc b) 22 y ≡ true
above b y e = is_true _ (λ z. go (dec_le (line_order y) b) z)
  where
    go : Dec (line_order y ≤ b) → lines (suc b) 22 y ≡ false → ⊥
    go (yes h) z = contra (rng_put 0 b y (omega arith) h) e
    go (no h) z = contra (rng_put (suc b) 22 y (omega arith) (ln_le y)) z

pub apart : (a b c d : ℕ) (y : Point) → suc b ≤ c → lines a b y ≡ true → lines c d y ≡ false
apart a b c d y p e = is_false _ (λ x. let z = rng_get a b y e in let w = rng_get c d y x in omega arith)

-- lines inside a call that are no run of words
abbrev pub still : Point → Bool
still y = both (busy y) (not (moving y))

-- a record of facts takes the fields that it speaks of, and not the whole l: so it is the same fact after a step that leaves those alone
pub record Withdrawing (hf : Bool) (hb : ℕ) (lh : Bool) (c : ℕ) : Type 0 where
  pub linked : hf ≡ true → lh ≡ true
  pub flag : lh ≡ true → hf ≡ true
  pub seen : hf ≡ true → c ≡ hb

pub record Asking (hf : Bool) (hb d : ℕ) : Type 0 where
  pub flag : hf ≡ true
  pub seen : d ≡ hb

pub record Both (A B : Type 0) : Type 0 where
  pub one : A
  pub two : B

-- clauses that proofs name
abbrev pub K2 : ℕ → Shared → Bool → Type 0
K2 N h x = x ≡ true → h.bank (h.successes % (2 * N)) ≡ h.buffers h.successes

abbrev pub K3 : ℕ → Shared → Bool → Bool → Type 0
K3 N h x y = x ≡ true → y ≡ false → h.bank (h.successes % (2 * N)) ≡ h.buffers h.successes

abbrev pub K4x : Shared → ℕ → ℕ → Bool → Bool → Type 0
K4x h i b z x = z ≡ true → Both (x ≡ true) (h.bank i ≡ b → ⊥)

abbrev pub H6 : Shared → ℕ → Bool → ℕ → Type 0
H6 h t y d = y ≡ true → Asking (h.flag t) (h.help_buf t) d

abbrev pub H7 : Shared → ℕ → Bool → Bool → Type 0
H7 h t x y = x ≡ true → h.flag t ≡ true → h.asked t < h.successes → y ≡ true

abbrev pub H8 : Shared → ℕ → Bool → Type 0
H8 h t x = x ≡ true → h.flag t ≡ true → h.asked t ≡ h.successes

abbrev pub H9 : ℕ → Shared → ℕ → Type 0
H9 N h q = h.flag q ≡ true → (s : ℕ) → h.asked q < s → s < h.successes → s % N ≡ q → ⊥

-- moment t lies in the life of value i
abbrev pub Within : Shared → ℕ → ℕ → Type 0
Within h t i = Both (h.won_at i ≤ t) (i < h.successes → t < h.won_at (suc i))

pub record Got (b v : ℕ → ℕ) (T : ℕ → ℕ) (S W i t st : ℕ) : Type 0 where
  pub words : SamePart b v W
  pub inside : Both (T i ≤ t) (i < S → t < T (suc i))
  pub after : st < t

abbrev pub D6 : Shared → ℕ → ℕ → Type 0
D6 h W q = h.flag q ≡ false → Got (h.buf (h.help_buf q)) (h.values (h.help_version q)) h.won_at h.successes W (h.help_version q) (h.help_moment q) (h.start q)

module _ (N W : ℕ) where
  -- what holds of process q, whose record is l, before command n
  pub record ProcessClauses (n : ℕ) (y : Point) (h : Shared) (q : ℕ) (l : Local) : Type 0 where
    -- P1: outside an LL the served object's link of q is its link to X; the moments of its served calls are past, and before its open call
    pub served_link_is : On (lines 11 22 y) (h.served_link q ≡ l.link_x)
    pub last_before_start : On (busy y) (h.last_moment q ≤ h.start q)
    pub last_past : h.last_moment q < n
    -- V2: x is the copy of version readVersion, which has been made; so have the other versions that q knows
    pub copy_seq_is : l.copy_seq ≡ l.read_version % (2 * N)
    pub copy_buf_is : l.copy_buf ≡ h.buffers l.read_version
    pub read_made : l.read_version ≤ h.successes
    pub version_made : l.version ≤ h.successes
    pub help_version_made : h.help_version q ≤ h.successes
    pub asked_made : h.asked q ≤ h.successes
    -- its ghost times are past
    pub read_past : l.read_at < n
    pub check_past : l.checked_at < n
    pub moment_past : l.moment < n
    pub help_past : h.help_moment q < n
    pub start_past : h.start q < n
    -- V3: q is linked to X only where it read the present version, and inside an LL exactly then
    pub linked_current : l.link_x ≡ true → l.read_version ≡ h.successes
    pub current_linked : On (lines 1 10 y) (l.read_version ≡ h.successes → l.link_x ≡ true)
    pub answered_linked : l.answered ≡ true → l.read_version ≡ h.successes → l.link_x ≡ true
    -- the read of X lies in the life of the version read, and after the start of the call
    pub read_in_life : On (lines 1 5 y) (Within h l.read_at l.read_version)
    pub read_after_start : On (lines 1 5 y) (h.start q < l.read_at)
    -- the word place: 0 but in a run of words, and there below W
    pub no_run : On (still y) (l.word ≡ 0)
    pub in_run : On (moving y) (l.word < W)
    -- H1, H2: the flag is up only from line 1 to line 9, and then with q's own buffer
    pub asks_own : On (lines 0 8 y) (h.flag q ≡ true → h.help_buf q ≡ l.mybuf)
    pub asks_not : On (lines 9 22 y) (h.flag q ≡ false)
    -- H3: after line 4 saw the flag down, Help[q] names b
    pub handed : On (lines 3 6 y) (Both (h.flag q ≡ false) (l.b ≡ h.help_buf q))
    -- H5: what line 9 finds
    pub withdraws : On (lines 8 8 y) (Withdrawing (h.flag q) (h.help_buf q) (l.link_help q) l.c)
    -- H6, H7: what line 15 finds; a request since before the present version is still linked
    pub offer_seen : On (lines 18 19 y) (H6 h (l.copy_seq % N) (l.link_help (l.copy_seq % N)) l.d)
    pub offer_open : On (lines 18 19 y) (H7 h (l.copy_seq % N) l.link_x (l.link_help (l.copy_seq % N)))
    -- H8: past line 15 a request that is still open is of the present version
    pub asked_now : On (lines 20 22 y) (H8 h (l.copy_seq % N) l.link_x)
    -- H9 (behind the paper's Lemma 4): no success passed over a process that asks; and q read X after it asked
    pub not_passed : On (lines 0 8 y) (H9 N h q)
    pub read_since_asked : On (lines 1 10 y) (h.asked q ≤ l.read_version)
    -- O1: what q owns
    pub owns_help : On (lines 0 9 y) (h.holders (2 * N + q) ≡ h.help_buf q)
    pub owns_mybuf : On (lines 10 22 y) (h.holders (2 * N + q) ≡ l.mybuf)
    -- K2 to K5: Bank at the sequence number of q's copy, and the next place
    pub bank_current : On (lines 17 22 y) (K2 N h l.link_x)
    pub bank_or_link : On (lines 15 16 y) (K3 N h l.link_x (l.link_bank l.copy_seq))
    pub bank_differs : On (lines 15 16 y) (l.link_bank l.copy_seq ≡ true → h.bank l.copy_seq ≡ l.copy_buf → ⊥)
    pub line13_valid : On (lines 16 16 y) (K4x h l.copy_seq l.copy_buf (l.link_bank l.copy_seq) l.link_x)
    pub next_bank : On (lines 22 22 y) (l.link_x ≡ true → l.e ≡ h.bank (suc h.successes % (2 * N)))
    -- D2, D3: what is written into mybuf so far
    pub offered_part : On (lines 20 20 y) (SamePart (h.buf l.mybuf) l.offered l.word)
    pub offered_whole : On (lines 21 22 y) (SamePart (h.buf l.mybuf) l.offered W)
    pub returned_part : On (lines 10 10 y) (SamePart (h.buf l.mybuf) l.returned l.word)
    -- D4, D5: mybuf holds the version read, to be handed over
    pub mybuf_current : On (lines 12 18 y) (l.link_x ≡ true → SamePart (h.buf l.mybuf) (h.values l.read_version) W)
    pub mybuf_read : On (lines 19 19 y) (SamePart (h.buf l.mybuf) (h.values l.read_version) W)
    pub check_in_life : On (lines 19 19 y) (Within h l.checked_at l.read_version)
    pub check_after_start : On (lines 19 19 y) (l.link_help (l.copy_seq % N) ≡ true → h.start (l.copy_seq % N) < l.checked_at)
    -- D6: the buffer handed over holds the version helpVersion
    pub handed_value : On (lines 0 6 y) (D6 h W q)
    -- D7: line 3 reads the version, while the flag is up
    pub read_part : On (lines 1 1 y) (h.flag q ≡ true → SamePart l.returned (h.values l.read_version) l.word)
    pub read_whole : On (lines 2 2 y) (h.flag q ≡ true → SamePart l.returned (h.values l.read_version) W)
    -- D8: line 6 reads it, while q is linked
    pub reread_part : On (lines 4 4 y) (l.link_x ≡ true → SamePart l.returned (h.values l.read_version) l.word)
    pub reread_whole : On (lines 5 5 y) (l.link_x ≡ true → SamePart l.returned (h.values l.read_version) W)
    pub handed_before_reread : On (lines 4 5 y) (h.help_version q ≤ l.read_version)
    -- D9: line 7 copies the version handed over
    pub copied_part : On (lines 6 6 y) (SamePart l.returned (h.values l.version) l.word)
    pub copied_version : On (lines 6 6 y) (l.version ≡ h.help_version q)
    -- D10: the return area holds the version that q will answer, whose life has the moment; q is linked exactly if it is the present one
    pub answer_value : On (lines 7 10 y) (SamePart l.returned (h.values l.version) W)
    pub moment_in_life : On (lines 6 10 y) (Within h l.moment l.version)
    pub moment_after_start : On (lines 6 10 y) (h.start q < l.moment)
    pub linked_answer : On (lines 6 10 y) (l.link_x ≡ true → l.version ≡ h.successes)
    pub current_answer : On (lines 6 10 y) (l.version ≡ h.successes → l.link_x ≡ true)

  -- what holds of the shared part
  pub record SharedClauses (n : ℕ) (h : Shared) : Type 0 where
    -- V1: X is (buffer of the present version, its number mod 2N)
    pub x_seq : h.xseq ≡ h.successes % (2 * N)
    pub x_buf : h.xbuf ≡ h.buffers h.successes
    -- the successes are past
    pub last_success_past : h.won_at h.successes < n
    pub successes_past : (j : ℕ) → j ≤ h.successes → h.won_at j < n
    -- O1: 3N slots, 3N different buffers; the first 2N are X's buffer and Bank
    pub holders_differ : (i j : ℕ) → i < 2 * N + N → j < 2 * N + N → h.holders i ≡ h.holders j → i ≡ j
    pub kept : (j : ℕ) → j < 2 * N → h.holders j ≡ cond (eqb j h.xseq) h.xbuf (h.bank j)
    -- K1: the last 2N versions' buffers are the kept ones
    pub recent_held : (i : ℕ) → i ≤ h.successes → h.successes < i + 2 * N → h.buffers i ≡ h.holders (i % (2 * N))
    -- D1 (the paper's Lemma 3): they hold their words
    pub recent_values : (i : ℕ) → i ≤ h.successes → h.successes < i + 2 * N → SamePart (h.buf (h.buffers i)) (h.values i) W

  pub record Invariant (n : ℕ) (s : State) : Type 0 where
    pub all : SharedClauses n s.sh
    pub each : (q : ℕ) → q < N → ProcessClauses n (s.loc q).point s.sh q (s.loc q)

  -- a command later
  pub later : (n : ℕ) (y : Point) (h : Shared) (q : ℕ) (l : Local) → ProcessClauses n y h q l → ProcessClauses (suc n) y h q l
  later n y h q l m = search arith

  pub later_g : (n : ℕ) (h : Shared) → SharedClauses n h → SharedClauses (suc n) h
  later_g n h g = let t : (j : ℕ) → j ≤ h.successes → h.won_at j < suc n = λ j x. let z = g.successes_past j x in omega arith in search arith

  -- the end of a call of p leaves the others' facts
  pub others_end : (n : ℕ) (p : ℕ) (x : Bool) (t : ℕ) (q : ℕ) (y : Point) (h : Shared) (l : Local) → (q ≡ p → ⊥) → ProcessClauses n y h q l → ProcessClauses n y (w_end p x t h) q l
  others_end n p x t q y h l ne m = let e1 = upd_other h.last_moment p q t ne in let e2 = upd_other h.served_link p q x ne in search (arith, e1, e2)

  pub all_end : (n : ℕ) (p : ℕ) (x : Bool) (t : ℕ) (h : Shared) → SharedClauses n h → SharedClauses n (w_end p x t h)
  all_end n p x t h g = search

  -- FRAME 1: a quiet step of p owes only p's own facts
  pub quiet_inv : (n : ℕ) (s : State) (p : ℕ) (l : Local) → Invariant n s → ProcessClauses (suc n) l.point s.sh p l → Invariant (suc n) (quiet s p l)
  quiet_inv n s p l i me = record { all = later_g n s.sh i.all; each = λ q hq. go q hq (split q p) }
    where
      go : (q : ℕ) → q < N → Split q p → ProcessClauses (suc n) (upd s.loc p l q).point s.sh q (upd s.loc p l q)
      go q hq (same e) = rw e (rw (upd_same s.loc p l) me)
      go q hq (other ne) = rw (upd_other s.loc p q l ne) (later n _ _ _ _ (i.each q hq))

  -- FRAME 2: a step that writes owes the shared facts, p's own, and that the others' facts last
  pub noisy_inv : (n : ℕ) (s : State) (p : ℕ) (h : Shared) (g : Local → Local) (l : Local) → Invariant n s → SharedClauses (suc n) h → ProcessClauses (suc n) l.point h p l
      → ((q : ℕ) → q < N → (q ≡ p → ⊥) → ProcessClauses n (s.loc q).point s.sh q (s.loc q) → ProcessClauses (suc n) (g (s.loc q)).point h q (g (s.loc q)))
      → Invariant (suc n) (noisy s p h g l)
  noisy_inv n s p h g l i all me rest = record { all = all; each = λ q hq. go q hq (split q p) }
    where
      go : (q : ℕ) → q < N → Split q p → ProcessClauses (suc n) (upd (λ r. g (s.loc r)) p l q).point h q (upd (λ r. g (s.loc r)) p l q)
      go q hq (same e) = rw e (rw (upd_same (λ r. g (s.loc r)) p l) me)
      go q hq (other ne) = rw (upd_other (λ r. g (s.loc r)) p q l ne) (rest q hq ne (i.each q hq))
