-- The changes of X over a list of commands (CR 9): as many as the SCs that succeed.
use Rattle.std.specs.Prelude.{◌≡◌, ℕ, ◌+◌, List, [], ◌∷◌, Bool, true, false, ◌&&◌, cond, eqb}
use Rattle.model.specs.declared.XContent.{XContent}
use Rattle.model.specs.Machine.{Memory, Shaped}
use Rattle.model.specs.SetUp.{set_up}
use Rattle.llsc.specs.Answers.{Answer, ll_words, sc_truth, vl_truth}
use Rattle.llsc.specs.History.{Command, Call, calls}
use Rattle.model.specs.History.{events}
use Rattle.model.specs.History.{next}

-- X's content: a buffer number and a sequence number
abbrev pub same_content : XContent → XContent → Bool
same_content a b = eqb a.buf.0 b.buf.0 && eqb a.seq.0 b.seq.0

-- "X has changed": how many of the commands leave in X another content than they found there
unfoldable pub changes : Memory → List Command → ℕ
changes m [] = 0
changes m (c ∷ cs) = cond (same_content m.bench.x.content (next m c).bench.x.content) 0 1 + changes (next m c) cs

-- the SCs of a history that answered true
abbrev pub succeeds : Answer → ℕ
succeeds (sc_truth true) = 1
succeeds (sc_truth false) = 0
succeeds (ll_words ws) = 0
succeeds (vl_truth t) = 0

abbrev pub successes : List Call → ℕ
successes [] = 0
successes (c ∷ cs) = succeeds c.answer + successes cs

-- X changes once for each SC that succeeds, and never else.
abbrev pub ChangesAreSuccesses : Type 0
ChangesAreSuccesses =
    (m : Memory) → Shaped m → (n w : ℕ) (value : List ℕ) (cs : List Command) → (set_up m n w value).0 ≡ 0
    → changes (set_up m n w value).1 cs ≡ successes (calls (events (set_up m n w value).1 cs))
