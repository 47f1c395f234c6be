-- CR 8's bound: "fewer than 65,535 SCs succeed during any one call and from any WLL's start to the end of each later SC or
-- VL of that process before its next WLL, an open call ending at its last step". An SC succeeds at its CAS on the header.
use Rattle.std.specs.Prelude.{ℕ, ◌+◌, ◌<◌, List}
use Rattle.llsc.specs.Linearizable.{All}
use Rattle.moir_model.specs.History.{Event, Call, calls, successes_up_to}

abbrev pub success_limit : ℕ
success_limit = 65535

-- fewer than `limit` SCs succeed after command number `from` and not after command number `to`
abbrev pub FewerThan : ℕ → List Event → ℕ → ℕ → Type 0
FewerThan limit es from to = successes_up_to es to < successes_up_to es from + limit

-- The two intervals that a call ends. The `wll` of an SC or VL is the start of the WLL before it; that of a WLL is its own
-- start.
pub record CallBounded (limit : ℕ) (es : List Event) (c : Call) : Type 0 where
  pub during : FewerThan limit es c.start c.end
  pub since_wll : FewerThan limit es c.wll c.end

abbrev pub BoundedBy : ℕ → ℕ → List Event → Type 0
BoundedBy limit N es = All (CallBounded limit es) (calls N es)

abbrev pub Bounded : ℕ → List Event → Type 0
Bounded = BoundedBy success_limit
