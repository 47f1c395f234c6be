-- The shared places: X, each Bank[i] and each Help[i] is a single-word LL/SC object, a content and one link for each
-- process (01, "Links").
use Rattle.std.specs.Prelude.{ℕ, ◌+◌, ◌/◌, ◌%◌, ◌^◌, Bool, cond, eqb}
use Rattle.model.specs.declared.BufferNumber.{BufferNumber}
use Rattle.llsc.specs.declared.ProcessNumber.{ProcessNumber}
use Rattle.model.specs.declared.XContent.{XContent}
use Rattle.model.specs.declared.HelpContent.{HelpContent}
use Rattle.model.specs.declared.Place.{Place}

-- X, a place of Bank, a place of Help
abbrev pub XPlace : Type 0
XPlace = Place XContent

abbrev pub BankPlace : Type 0
BankPlace = Place BufferNumber

abbrev pub HelpPlace : Type 0
HelpPlace = Place HelpContent

-- The links of a place are one number, whose bit p is the link of process p.
-- no link is set
abbrev pub no_links : ℕ
no_links = 0

-- "VL tells whether the link is set."
abbrev pub linked : ℕ → ProcessNumber → Bool
linked links p = eqb ((links / 2 ^ p.0) % 2) 1

-- "LL by p .. sets p's link."
abbrev pub link : ℕ → ProcessNumber → ℕ
link links p = cond (linked links p) links (links + 2 ^ p.0)

-- LL by p: the content stays, p's link is set
abbrev pub ll_place : {A : Type 0} → Place A → ProcessNumber → Place A
ll_place x p = record { content = x.content; links = link x.links p }

-- "The plain write of line 1 clears all links of Help[p]."
abbrev pub write_place : {A : Type 0} → A → Place A
write_place v = record { content = v; links = no_links }

-- "SC by p writes and clears all links of that place if p's link is set, else does nothing." It answers what VL would
-- have told.
abbrev pub sc_place : {A : Type 0} → Place A → ProcessNumber → A → Place A
sc_place x p v = cond (linked x.links p) (write_place v) x
