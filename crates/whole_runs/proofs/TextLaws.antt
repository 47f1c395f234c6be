-- The parts of a whole text run put together: its first line, its items, and the rows before them.
use mathlib.Core.Path.{◌≡◌, refl, sym, ap, ◌∙◌}
use mathlib.Core.Bool.{Bool, false, cond}
use mathlib.Core.List.{List, map}
use Prim.Native.Nat.{ℕ, ◌-◌, ◌≤◌, ◌<◌}
use lib.Dec.{eqb}
use lib.ListN.{length, take, replicate}
use native.Mathlib.Omega.{arith}
use borrow.Author.Tests.{eq-eqb, lt-ltb, le-ltb, leb-false}
use Rattle.std.specs.Prelude.{Result, Ok, Err}
use Rattle.notation.specs.declared.Entry.{Entry}
use Rattle.notation.specs.declared.items.Fault.{Fault}
use Rattle.notation.specs.declared.items.Items.{Items}
use Rattle.notation.specs.declared.items.Items.TheVariants.{Ended as EndedAt, Closed}
use Rattle.llsc.specs.Refusals.{refusal_number}
use Rattle.llsc.specs.declared.refusals.Refusal.TheVariants.{TextBroken}
use Rattle.notation.specs.Grammar.{Text, bytes, says, deepest}
use Rattle.notation.specs.Readers.{Headed, NotHeaded}
use Rattle.notation.specs.FirstLine.{whole, read}
use Rattle.notation.specs.Groups.{ItemsEnded, ItemsClosed, ItemsBroken}
use Rattle.notation.specs.EntryWords.{kept_entry}
use Rattle.notation.specs.Listed.{Keeps, Lists, ItemsSay}
use Rattle.notation.proofs.ItemsLaws.{items_as}
use Rattle.notation.proofs.HeaderLaws.{headed_reads}
use Rattle.notation.proofs.GroupLaws.{not_headed}
use Rattle.notation.proofs.ListedLaws.{kept_entries}
use Rattle.notation.proofs.ReadingLaws.{reader}
use Rattle.notation.proofs.Theorems.{right_is_read}
use Rattle.text_runs.specs.Machines.{Machine}
use Rattle.text_runs.specs.TextRun.{Progress, most_entries, room_needed, longest_text, Ended, carry_all, ended, begun, started, carried_out, run_with}
use Rattle.text_runs.specs.KeptEntries.{FarRefused, entries_in, refused_with, started_with, says_after}
use Rattle.whole_runs.specs.Reading.{Faulty, broken, stray, ReadInto, Told, Enough, EnoughRead, is_full, read_with}
use Rattle.whole_runs.proofs.FaultLaws.{broken_small}
use Rattle.text_runs.proofs.KeptLaws.{kept_run}

-- a list that is not full keeps all entries
pub all_kept : {list list' : List ℕ} {to : ℕ} {es : List Entry} {ps : List ℕ} → Enough (length list) to → Lists list list' 0 to es ps
    → length list ≤ most_entries → length es ≤ length list
all_kept enough l few = omega (arith, enough few, l.entries.to_is)

-- the items of a text read into a list
module _ {s list list' : List ℕ} {at : ℕ} {r : Items} (x : ItemsSay s at deepest list list' 0 (Ok r)) where
  pub read_ended : {to : ℕ} → r ≡ EndedAt to → ReadInto s at list list' (Ok to)
  read_ended e = record { reads = items_as x e }

  pub read_stray : {next to : ℕ} → r ≡ Closed next to → ReadInto s at list list' (Err (record { cause = TextBroken; place = next - 1 }))
  read_stray {next} e = let y = items_as x e in record { reads = stray next y.says y.read }

pub read_broken : {s list list' : List ℕ} {at : ℕ} {f : Fault} → ItemsSay s at deepest list list' 0 (Err f) → ReadInto s at list list' (Err f)
read_broken {f = f} x = record { reads = broken f x.are.is }

pub ruleset reading_laws = (read_ended, read_stray, read_broken)

-- a text with a fault
module _ (M : Machine) (t : Bool) (s : List ℕ) (n w v items : ℕ) (m : M.Memory) (list : List ℕ) where
  broken_says : {k place : ℕ} → ItemsBroken s items deepest k place → refused_with M k m list ≡ says_after M t s n w v items m list
  unfolding whole
  broken_says i = sym (ap (λ x. carried_out M t m list (whole n w v x)) i.same)

  closed_says : {next : ℕ} {es : List Entry} → ItemsClosed s items deepest next es → refused_with M 10 m list ≡ says_after M t s n w v items m list
  unfolding whole
  closed_says i = sym (ap (λ x. carried_out M t m list (whole n w v x)) i.same)

  -- a right text, by what its list keeps
  kept_says : ((m : M.Memory) → FarRefused M m) → {list₀ entries : List ℕ} {to : ℕ} {Q : List ℕ → Type 0} → Enough (length list₀) to
      → Keeps s list₀ entries 0 to (λ es. ItemsEnded s items deepest es) Q
      → started_with M t n w v (entries_in (take to entries)) m list ≡ says_after M t s n w v items m list
  unfolding whole
  kept_says far {list₀} {entries} {to} l k =
      ap (λ (x : List Entry). started_with M t n w v x m list) (kept_entries k.lists) ∙ same_started
      ∙ sym (ap (λ x. carried_out M t m list (whole n w v x)) k.read.same)
    where
      prepared : ℕ × M.Memory
      prepared = M.set_up m n w (replicate w v)

      same_started : started_with M t n w v (map kept_entry (take (length list₀) k.says)) m list ≡ started_with M t n w v k.says m list
      same_started =
          ap (λ (x : Progress M). cond (eqb prepared.0 0) (ended M x) (ended M (begun M t m list prepared.0)))
          (kept_run M far (length list₀) k.says (all_kept l k.lists) (begun M t prepared.1 list 0) refl)

  faulty_says : {f : Fault} → Faulty s items f → refused_with M (refusal_number f.cause) m list ≡ says_after M t s n w v items m list
  faulty_says (broken _ i) = broken_says i
  faulty_says (stray next es i) = closed_says i

  -- the run by what was read into a list
  pub read_says : ((m : M.Memory) → FarRefused M m) → {list₀ entries : List ℕ} {r : Result ℕ Fault} → EnoughRead (length list₀) r
      → ReadInto s items list₀ entries r → {x : Ended M} → x ≡ read_with M t (record { n = n; w = w; initial = v; items = items }) r entries m list
      → x ≡ says_after M t s n w v items m list
  read_says far {r = Ok to} l k e = e ∙ kept_says far l k.reads
  read_says far {r = Err f} l k e = e ∙ faulty_says k.reads

-- a full list is long enough for every text, a short one for the text that does not fill it
pub full_enough : {room : ℕ} (r : Result ℕ Fault) → most_entries < room → EnoughRead room r
full_enough (Ok to) h = λ l. absurd (omega (arith, h))
full_enough (Err f) h = tt

pub short_enough : {room k : ℕ} (r : Result ℕ Fault) → room ≡ k → is_full r k ≡ false → EnoughRead room r
short_enough (Ok to) e q = λ l. omega (arith, e, leb-false _ _ q)
short_enough (Err f) e q = tt

-- what is told of a reading fits
faulty_small : {s : List ℕ} {at : ℕ} {f : Fault} → Faulty s at f → refusal_number f.cause ≤ 15
faulty_small (broken _ i) = broken_small i
faulty_small (stray next es i) = omega arith

pub read_told : {s list₀ entries : List ℕ} {at : ℕ} {r : Result ℕ Fault} → ReadInto s at list₀ entries r → Told r (length entries)
read_told {r = Ok to} k = omega (arith, k.reads.lists.entries.to_is, k.reads.lists.entries.lent)
read_told {r = Err f} k = faulty_small k.reads

-- the rows before the items
module _ (M : Machine) (t : Bool) (m : M.Memory) (text list : List ℕ) where
  pub run_14 : length list < room_needed t → record { number = 14; entries = 0; written = 0; memory = m; listing = list } ≡ run_with M reader t m text list
  unfolding run_with
  run_14 l = simp (lt-ltb (length list) (room_needed t) l)

  module _ (l : room_needed t ≤ length list) where
    pub run_12 : longest_text < length text → refused_with M 12 m list ≡ run_with M reader t m text list
    unfolding run_with
    run_12 h = simp (le-ltb (length list) (room_needed t) l, lt-ltb longest_text (length text) h)

    run_read : length text ≤ longest_text → carried_out M t m list (read text) ≡ run_with M reader t m text list
    unfolding run_with
    run_read h = simp (le-ltb (length list) (room_needed t) l, le-ltb longest_text (length text) h)

    -- a right text whose set-up is accepted runs its entries after it
    pub run_right : length text ≤ longest_text → (x : Text deepest) → bytes x ≡ text
        → let a = says x in let prepared = M.set_up m a.n a.w (replicate a.w a.initial) in
        prepared.0 ≡ 0 → ended M (carry_all M a.entries (begun M t prepared.1 list 0)) ≡ run_with M reader t m text list
    run_right h x is z =
        let a = says x in
        let prepared = M.set_up m a.n a.w (replicate a.w a.initial) in
        let goes : started M t m list a prepared ≡ ended M (carry_all M a.entries (begun M t prepared.1 list 0)) = simp (eq-eqb prepared.0 0 z) in
        sym (ap (carried_out M t m list) (ap read (sym is) ∙ right_is_read x) ∙ goes) ∙ run_read h

    pub run_not_headed : length text ≤ longest_text → {place : ℕ} → NotHeaded text place → refused_with M 10 m list ≡ run_with M reader t m text list
    run_not_headed h n = sym (ap (carried_out M t m list) (not_headed n)) ∙ run_read h

    pub run_headed : {n w v items : ℕ} → length text ≤ longest_text → Headed text n w v items → says_after M t text n w v items m list ≡ run_with M reader t m text list
    unfolding read
    run_headed h x = sym (ap (carried_out M t m list) (headed_reads x deepest)) ∙ run_read h
