-- Figure 1's object, W words wide (01, "Demand 3 over a whole list").
use Rattle.std.specs.Prelude.{ℕ, List, [], ◌∷◌, Bool, true, false, cond, eqb}
use Rattle.llsc.specs.Answers.{Answer, ll_words, sc_truth, vl_truth}

-- the kind of a call, with the words that an SC offers
pub data Kind : Type 0 where
  ll vl : Kind
  sc : List ℕ → Kind

-- "Figure 1's object holds W words and, for each process, a link, set or not."
pub record Object : Type 0 where
  pub words : List ℕ
  pub link : ℕ → Bool

-- "It begins with the set-up value and no link set."
abbrev pub fresh : List ℕ → Object
fresh value = record { words = value; link = λ q. false }

-- a function of process numbers, with another value for p
abbrev pub set_at {ℓ} : {A : Type ℓ} → ℕ → A → (ℕ → A) → ℕ → A
set_at p a f q = cond (eqb q p) a (f q)

-- "LL by p answers the words", SC and VL whether p's link is set
abbrev pub tell : ℕ → Kind → Object → Answer
tell p ll o = ll_words o.words
tell p (sc offered) o = sc_truth (o.link p)
tell p vl o = vl_truth (o.link p)

-- "LL .. sets p's link. SC by p, with p's link set, takes the fed words, clears all links ..; otherwise it .. changes
-- nothing. VL .. changes nothing."
abbrev pub feed : ℕ → Kind → Object → Object
feed p ll o = record { words = o.words; link = set_at p true o.link }
feed p (sc offered) o = cond (o.link p) (record { words = offered; link = λ q. false }) o
feed p vl o = o

-- what the object is fed of a call: "process, kind and, for SC, the words of its start. It sees no answer and nothing
-- of the bench's memory."
pub record Fed : Type 0 where
  pub process : ℕ
  pub kind : Kind

-- its answers, one after the other
abbrev pub serve : Object → List Fed → List Answer
serve o [] = []
serve o (c ∷ cs) = tell c.process c.kind o ∷ serve (feed c.process c.kind o) cs
