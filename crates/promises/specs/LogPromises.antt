-- The promises of README for what stations write down: the judge of their logs, with its reason, and the season of
-- listings. The entries' replies are their contracts: `judged` at `judging::judge`, `judged_with_reason` at
-- `reasons::judge_with_reason`, `added` at `sums::add_listing`, `table` at `sums::table_of`.
use Rattle.std.specs.Prelude.{◌≡◌, ℕ, ◌≤◌, ◌<◌, List, length, None, Some}
use Rattle.std.specs.Result.{IsOk, IsErr}
use mathlib.Core.List.{Permᴰ}
use Rattle.llsc.specs.Object.{fresh}
use Rattle.verdicts.specs.declared.Verdict.TheVariants.{No}
use Rattle.verdicts.specs.declared.Fault.TheVariants as fault
use Rattle.verdicts.specs.declared.Shown.{Shown}
use Rattle.verdicts.specs.Log.{Entry}
use Rattle.verdicts.specs.Verdicts.{judged, VerdictSays}
use Rattle.verdicts.specs.ToldAnswers.{Unlike}
use Rattle.verdicts.specs.Reasons.{judged_with_reason, verdict_of, reason_for, reason_of_no, numbered_in_order}
use Rattle.verdict_laws.specs.Promises.{EveryHistoryEarnsYes, YesIsRight}
use Rattle.station_verdict_laws.specs.StationPromises.{EveryHistoryEarnsYesByRecord}
use Rattle.model.specs.Machine.{Memory}
use Rattle.notation.specs.Grammar.{Said, deepest}
use Rattle.notation.specs.Right.{Tells}
use Rattle.text_model.specs.TextRun.{run_text}
use Rattle.answers.specs.Shape.{Right, longest_listing}
use Rattle.marking_laws.specs.MarkedRun.{written_by}
use Rattle.sums.specs.declared.Sums.{Sums}
use Rattle.sums.specs.Season.{empty_sums, most_listings, sums_refusal, added, sums_after, add_all}
use Rattle.sums.specs.Fractions.{table}
use Rattle.sums.specs.SeasonTable.{SeasonTable}

-- THE JUDGE (CR 1): "It says yes exactly when every kind is 1 for LL, 2 for SC or 3 for VL, .. and each SC or VL has
-- an LL of its process before it in that order."
abbrev pub YesExactlyWhen : Type 0
YesExactlyWhen = (n w : ℕ) (value log : List ℕ) → VerdictSays n w value log

-- "every bench history from a set-up, of at most 512 answered calls and 2 to the 50th commands, .. has moments that
-- earn a yes", of a bench and of each record of a station; and a yes is never given wrongly.
abbrev pub Judge : Type 0
Judge = EveryHistoryEarnsYes × EveryHistoryEarnsYesByRecord × YesIsRight

-- THE REASON: "With a no comes why: .. the first condition of the request that fails, the line and the right answer".
-- The verdict is the judge's; a reason comes exactly with a no; and what condition 5's tells is what Figure 1's
-- object answers, all calls before being answered alike.
pub record Reasoned (n w : ℕ) (value log : List ℕ) : Type 0 where
  pub verdict : verdict_of (judged_with_reason n w value log) ≡ judged n w value log
  pub at_no : judged n w value log ≡ No → reason_for n w value log ≡ None → ⊥
  pub only_at_no : (reason_for n w value log ≡ None → ⊥) → judged n w value log ≡ No

abbrev pub RightAnswerTold : Type 0
RightAnswerTold =
    (value : List ℕ) (es : List Entry) (k : ℕ) (t : Shown) → reason_of_no value es ≡ Some (fault.Answer k t)
    → Unlike value es (fresh value) (numbered_in_order es) k t

abbrev pub Reason : Type 0
Reason = ((n w : ℕ) (value log : List ℕ) → Reasoned n w value log) × RightAnswerTold

-- THE SEASON (CR 2): "For up to 4,096 listings of one N and W we want, for each process, successful SCs over SCs
-- answered, and the total of LL steps over LLs answered, as fractions in lowest terms."
abbrev pub Season : Type 0
Season = SeasonTable

-- "Adding at most 4,096 listings to empty sums in another order must give the same table, shown over all processes
-- and both fractions together."
abbrev pub AnyOrder : Type 0
AnyOrder =
    (n w : ℕ) (xs ys : List (List ℕ)) → Permᴰ xs ys → length xs ≤ most_listings
    → table (add_all (empty_sums n w) xs) ≡ table (add_all (empty_sums n w) ys)

-- 18 "for a listing .. not answer lines and a last line in 01's shape": every other one is taken, and "the sums stay"
-- at a refusal. What a text run writes is such a listing.
abbrev pub RightListingsTaken : Type 0
RightListingsTaken =
    ((s : Sums) (bs : List ℕ) → sums_refusal s ≡ 0 → s.taken < most_listings → Right s.n s.w bs → IsOk (added s bs))
    × ((s : Sums) (bs : List ℕ) → IsErr (added s bs) → sums_after s bs ≡ s)

abbrev pub ListingsAreTaken : Type 0
ListingsAreTaken =
    (s : Sums) (m : Memory) (text listing : List ℕ) → sums_refusal s ≡ 0 → s.taken < most_listings
    → 744 ≤ length listing → length listing ≤ longest_listing
    → ((a : Said) → Tells deepest text a → (a.n ≡ s.n) × (a.w ≡ s.w))
    → IsOk (added s (written_by (run_text m text listing)))
