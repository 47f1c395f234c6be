-- Which rows look at lent memory, and that apart from these a command is accepted by N, W, R and its own process.
use mathlib.Core.Path.{◌≡◌, refl, sym, ap, ap₂, ◌∙◌}
use mathlib.Core.Bool.{Bool, true, false, cond}
use Prim.Native.Nat.{ℕ}
use native.Mathlib.Omega.{arith}
use lib.ListN.{length}
use Rattle.llsc.specs.Rows.{first, row1, row2, row9}
use Rattle.station.specs.declared.StationProcess.{StationProcess}
use Rattle.station.specs.Station.{StationMemory, process_at}
use Rattle.station.specs.StationRefusals.{StationOrder, station_in_range, row23, row3of, station_process_rows}
use Rattle.station.specs.StationCommand.{station_refusal}
use Rattle.station_laws.specs.StationOwnDoing.{NotLentStation}
use Rattle.doings.specs.Own.{Own}
use Rattle.commuting_laws.specs.Parts.{own_of}
use Rattle.commuting_laws.specs.StationDoings.{number_of}
use Rattle.commuting_laws.specs.Commuting as cr

-- rows 1, 2, 23, 3 and 9 apart, acceptance is a matter of N, W, R and the own process record
abbrev late : StationOrder → ℕ → ℕ → ℕ → StationProcess → ℕ
late c n w r q = first (station_process_rows n w r c.process c.order c.called (length c.value) q)

abbrev early : Bool → Bool → Bool → Bool → Bool → ℕ → ℕ
early a b d e f l = cond a 1 (cond b 2 (cond d 23 (cond e 3 (cond f 9 l))))

none_late : (a b d e f : Bool) (l : ℕ) → early a b d e f l ≡ 0 → l ≡ 0
none_late true b d e f l x = absurd (omega arith)
none_late false true d e f l x = absurd (omega arith)
none_late false false true e f l x = absurd (omega arith)
none_late false false false true f l x = absurd (omega arith)
none_late false false false false true l x = absurd (omega arith)
none_late false false false false false l x = x

none_early : (a b d e f : Bool) (l : ℕ) → NotLentStation (early a b d e f l) → l ≡ 0 → early a b d e f l ≡ 0
none_early true b d e f l x y = absurd (x.not_1 refl)
none_early false true d e f l x y = absurd (x.not_2 refl)
none_early false false true e f l x y = absurd (x.not_23 refl)
none_early false false false true f l x y = absurd (x.not_3 refl)
none_early false false false false true l x y = absurd (x.not_9 refl)
none_early false false false false false l x y = y

pub accepts_too : (s s₂ : StationMemory) (c : StationOrder) → NotLentStation (station_refusal s₂ c) → s.n ≡ s₂.n → s.w ≡ s₂.w → s.r ≡ s₂.r
    → own_of s (number_of c) ≡ own_of s₂ (number_of c) → cr.Accepted s c → cr.Accepted s₂ c
unfolding station_refusal
accepts_too s s₂ c x a b d o e =
    let q = process_at s c.process in
    let l = none_late (row1 s.n).holds (row2 s.w).holds (row23 s.r).holds (row3of s.n s.w s.r (length s.processes) (length s.words)).holds
    (row9 (station_in_range s)).holds (late c s.n s.w s.r q) e in
    let same : late c s.n s.w s.r q ≡ late c s₂.n s₂.w s₂.r (process_at s₂ c.process) =
    ap₂ (λ (n w : ℕ). late c n w s.r q) a b ∙ ap (λ (r : ℕ). late c s₂.n s₂.w r q) d
    ∙ ap (λ (y : Own StationProcess). late c s₂.n s₂.w s₂.r y.process) o in
    none_early (row1 s₂.n).holds (row2 s₂.w).holds (row23 s₂.r).holds (row3of s₂.n s₂.w s₂.r (length s₂.processes) (length s₂.words)).holds
    (row9 (station_in_range s₂)).holds (late c s₂.n s₂.w s₂.r (process_at s₂ c.process)) x (sym same ∙ l)
