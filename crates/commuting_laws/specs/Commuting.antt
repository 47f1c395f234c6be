-- CR 13, the statements: what an accepted command depends on, what it alters, and when two may change places.
use Rattle.std.specs.Prelude.{◌≡◌, ◌≢◌, ℕ, ◌<◌, List}
use Rattle.llsc.specs.declared.ProcessNumber.{ProcessNumber}
use Rattle.model.specs.declared.Reply.{Reply}
use Rattle.llsc.specs.Answers.{Said}
use Rattle.station.specs.Station.{StationMemory}
use Rattle.station.specs.StationRefusals.{StationOrder, StationShaped}
use Rattle.station.specs.StationCommand.{station_refusal, station_command}
use Rattle.station.specs.StationSetUp.{station_set_up}
use Rattle.station.specs.StationHistory.{station_says, station_after}
use Rattle.doings.specs.Doings.{Touches, Apart}
use Rattle.commuting_laws.specs.Parts.{StationItem, InStation, item_of, own_of}
use Rattle.commuting_laws.specs.StationDoings.{number_of, does, effect_on}

abbrev pub Accepted : StationMemory → StationOrder → Type 0
Accepted s c = station_refusal s c ≡ 0

-- what a command replies and leaves, and what its answer says, an LL's words included
abbrev pub reply_to : StationMemory → StationOrder → Reply
reply_to s c = (station_command s c).0

abbrev pub leaves : StationMemory → StationOrder → StationMemory
leaves s c = (station_command s c).1

abbrev pub said_to : StationMemory → StationOrder → Said
said_to s c = station_says (leaves s c) c.process (reply_to s c)

-- An accepted command is what its doing makes of memory. This fixes the item and the act: by what was seen there its
-- process goes on, and nothing else changes.
abbrev pub FollowsDoing : Type 0
FollowsDoing =
    (s : StationMemory) → StationShaped s → (c : StationOrder) → Accepted s c
    → station_command s c ≡ effect_on (does s c) (number_of c) s

-- two memories that are alike in the footprint of c: N, W, the item that it touches and its own process
pub record Alike (s s₂ : StationMemory) (c : StationOrder) : Type 0 where
  pub n : s.n ≡ s₂.n
  pub w : s.w ≡ s₂.w
  pub own : own_of s (number_of c) ≡ own_of s₂ (number_of c)
  pub item : (i : StationItem) → Touches (does s c) i → item_of i s ≡ item_of i s₂

-- the same answer, and the same is left of the own process and in the item
pub record SameOutcome (s s₂ : StationMemory) (c : StationOrder) : Type 0 where
  pub reply : reply_to s c ≡ reply_to s₂ c
  pub said : said_to s c ≡ said_to s₂ c
  pub own : own_of (leaves s c) (number_of c) ≡ own_of (leaves s₂ c) (number_of c)
  pub item : (i : StationItem) → Touches (does s c) i → item_of i (leaves s c) ≡ item_of i (leaves s₂ c)

-- "its answer and what it leaves depend on N, W, that item and its own process alone"
abbrev pub DependsOnly : Type 0
DependsOnly =
    (s s₂ : StationMemory) → StationShaped s → StationShaped s₂ → (c : StationOrder) → Accepted s c → Accepted s₂ c
    → Alike s s₂ c → SameOutcome s s₂ c

-- every other item, of its record and of all others, every other process, N, W and R stay
pub record Kept (s : StationMemory) (c : StationOrder) : Type 0 where
  pub n : (leaves s c).n ≡ s.n
  pub w : (leaves s c).w ≡ s.w
  pub r : (leaves s c).r ≡ s.r
  pub items : (i : StationItem) → InStation s i → (Touches (does s c) i → ⊥) → item_of i (leaves s c) ≡ item_of i s
  pub processes : (q : ProcessNumber) → q.0 ≢ c.process → q.0 < s.n → own_of (leaves s c) q ≡ own_of s q

-- "such a step alters no other item"
abbrev pub AltersNoOther : Type 0
AltersNoOther = (s : StationMemory) → StationShaped s → (c : StationOrder) → Accepted s c → Kept s c

-- d before c: both are accepted, each is answered as in the other order, and the memory is the same
pub record Swapped (s : StationMemory) (c d : StationOrder) : Type 0 where
  pub accepted_d : Accepted s d
  pub accepted_c : Accepted (leaves s d) c
  pub reply_c : reply_to (leaves s d) c ≡ reply_to s c
  pub reply_d : reply_to s d ≡ reply_to (leaves s c) d
  pub said_c : said_to (leaves s d) c ≡ said_to s c
  pub said_d : said_to s d ≡ said_to (leaves s c) d
  pub memory : leaves (leaves s d) c ≡ leaves (leaves s c) d

-- "after a set-up and any commands, two neighbouring accepted commands of different processes, with no item in common
-- or both only looking, leave the same memory and give the same two answers in either order": independence
abbrev pub Commute : Type 0
Commute =
    (s : StationMemory) → StationShaped s → (n w r : ℕ) (value : List ℕ) (cs : List StationOrder)
    → (station_set_up s n w r value).0 ≡ 0 → let here = station_after (station_set_up s n w r value).1 cs in
    (c d : StationOrder) → c.process ≢ d.process → Accepted here c → Accepted (leaves here c) d
    → Apart (does here c) (does (leaves here c) d) → Swapped here c d
