-- Right texts, and where and why a text that is not right breaks: the words of the theorems.
use Rattle.std.specs.Prelude.{ℕ, suc, ◌≤◌, ◌<◌, ◌≡◌, List, ◌++◌, length, take, get_or}
use Rattle.notation.specs.declared.Kind.TheVariants.{Open}
use Rattle.notation.specs.Grammar.{Byte, Said, Text, bytes, says, deepest}

-- a text in which groups stand at most d deep, and what it says
pub record Tells (d : ℕ) (s : List ℕ) (a : Said) : Type 0 where
  pub tree : Text d
  pub text : bytes tree ≡ s
  pub saying : says tree ≡ a

-- a right text in which groups stand at most d deep
pub record Right (d : ℕ) (s : List ℕ) : Type 0 where
  pub tree : Text d
  pub text : bytes tree ≡ s

-- some right text begins so
pub record Completable (d : ℕ) (p : List ℕ) : Type 0 where
  pub rest : List ℕ
  pub right : Right d (p ++ rest)

-- 01: "no text of any length could be right" that begins so
abbrev pub Hopeless : ℕ → List ℕ → Type 0
Hopeless d p = (rest : List ℕ) → Right d (p ++ rest) → ⊥

-- why a fault of a number stands at a place
pub data Why (s : List ℕ) (at : ℕ) : ℕ → Type 0 where
  -- 01: "the text's end counts as one" byte
  ended : at ≡ length s → (Right deepest s → ⊥) → Why s at 10
  -- the byte there breaks the notation, however deep groups could stand
  broken : at < length s → ((d : ℕ) → Hopeless d (take (suc at) s)) → Why s at 10
  -- 01: "11 at a ninth open `(`": a `(` that only one more group inside the others would let stand
  deep : at < length s → Byte (get_or s at 0) Open → Hopeless deepest (take (suc at) s) → Completable (suc deepest) (take (suc at) s) → Why s at 11

-- 01: "A fault 10 or 11 stands at the first byte (the text's end counts as one) after which no text of any length could
-- be right"
pub record Fault (s : List ℕ) (k : ℕ) : Type 0 where
  pub at : ℕ
  pub within : at ≤ length s
  pub hope : Completable deepest (take at s)
  pub why : Why s at k
