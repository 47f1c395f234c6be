-- The statement of promise 3 about any bench: counts, and an order of the answered calls that Figure 1's object serves.
use Rattle.std.specs.Prelude.{◌≡◌, ℕ, ◌*◌, ◌≤◌, ◌<◌, List, [], ◌∷◌, map, cond, leb, length}
use Rattle.llsc.specs.Object.{Kind, Fed, fresh, serve}
use Rattle.llsc.specs.History.{Event, Slot, none, running, Call, calls, slots}

-- holds of each element
abbrev pub All {ℓ} : {A : Type ℓ} → (A → Type 0) → List A → Type 0
All P [] = Unit {0}
All P (a ∷ rest) = P a × All P rest

-- "each answer brings the true count of own steps": the count that an answer brought, and the own steps of its call, of
-- which a bench says by `OwnSteps` how many they can be
pub record Counted (OwnSteps : ℕ → Type 0) (count steps : ℕ) : Type 0 where
  pub true_count : count ≡ steps
  pub own_steps : OwnSteps steps

-- "open calls have fewer than their kind's largest"
abbrev pub OpenCounted : (Kind → ℕ) → Slot → Type 0
OpenCounted largest none = Unit {0}
OpenCounted largest (running kind start steps) = steps < largest kind

-- an answered call with its moment, the linearization point
pub record Timed : Type 0 where
  pub call : Call
  pub moment : ℕ

-- in moment order: a sort by insertion, each call behind those whose moment is not later
abbrev pub insert : Timed → List Timed → List Timed
insert t [] = t ∷ []
insert t (u ∷ us) = cond (leb u.moment t.moment) (u ∷ insert t us) (t ∷ u ∷ us)

abbrev pub sort_into : List Timed → List Timed → List Timed
sort_into [] sorted = sorted
sort_into (t ∷ ts) sorted = sort_into ts (insert t sorted)

abbrev pub in_moment_order : List Timed → List Timed
in_moment_order ts = sort_into ts []

-- no two are equal
abbrev pub Distinct : List ℕ → Type 0
Distinct [] = Unit {0}
Distinct (m ∷ ms) = All (λ k. m ≡ k → ⊥) ms × Distinct ms

-- "with the list's k-th command .. at place k times M": after the place of its start, and not after the place of its
-- answering step
pub record Inside (places : ℕ) (t : Timed) : Type 0 where
  pub after_start : t.call.start * places < t.moment
  pub by_answer : t.moment ≤ t.call.end * places

abbrev pub fed : Timed → Fed
fed t = record { process = t.call.process; kind = t.call.kind }

-- Moments for the answered calls, places being `places` to a command: all different, each inside its call, and in their
-- order Figure 1's object, begun with the set-up value, gives each call its answer.
pub record Linearization (places : ℕ) (value : List ℕ) (cs : List Call) : Type 0 where
  pub timed : List Timed
  pub same_calls : map (λ (t : Timed). t.call) timed ≡ cs
  pub distinct : Distinct (map (λ (t : Timed). t.moment) timed)
  pub inside : All (Inside places) timed
  pub served : serve (fresh value) (map fed (in_moment_order timed)) ≡ map (λ (t : Timed). t.call.answer) (in_moment_order timed)

-- What is claimed of the events of one list, for a bench whose calls take `OwnSteps` by their kind, `largest` at most
pub record Claim (OwnSteps : Kind → ℕ → Type 0) (largest : Kind → ℕ) (value : List ℕ) (es : List Event) : Type 0 where
  pub counted : All (λ (c : Call). Counted (OwnSteps c.kind) c.count c.steps) (calls es)
  pub open_counted : (p : ℕ) → OpenCounted largest (slots es p)
  pub linearization : (places : ℕ) → length (calls es) ≤ places → Linearization places value (calls es)
