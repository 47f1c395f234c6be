-- What a command reads of the bench, and what it left, as numbers, written back.
-- Inner: `MemoryAfter` and `ObeyLaws` prove that the memory of the list is then that of `moir_model`.
use Rattle.std.specs.Prelude.{◌≡◌, ℕ, List, [], ◌∷◌, cond, length, get_or, set, replicate, take, drop}
use Rattle.std.proofs.lemmas.List.Edits.{sets}
use Rattle.llsc.specs.declared.Order.{Order}
use Rattle.llsc.specs.declared.ProcessNumber.{ProcessNumber}
use Rattle.held_model.specs.Memory.{number_at}
use Rattle.moir_model.specs.declared.Header.{Header}
use Rattle.moir_model.specs.declared.Bench.{Bench}
use Rattle.moir_model.specs.declared.Process.{Process}
use Rattle.moir_model.specs.declared.Moved.{Moved}
use Rattle.moir_model.specs.Machine.{obey}
use Rattle.moir_held_model.specs.Layout.{header_place, tag_place, process_place}
use Rattle.moir_held_model.specs.Memory.{header_from, tag_from}

-- the bench with the tag of segment k alone, and what a command made of it put back into the whole bench
abbrev pub with_tag : ℕ → ℕ → Header → ℕ → ℕ → Bench
with_tag n w h k t = record { n = n; w = w; header = h; tags = set (replicate 64 0) k t }

abbrev pub near_bench : Bench → ℕ → Bench
near_bench b k = with_tag b.n b.w b.header k (get_or b.tags k 0)

abbrev pub put_near : Bench → ℕ → Moved → Moved
put_near b k m = record {
  bench = record { n = b.n; w = b.w; header = m.bench.header; tags = set b.tags k (get_or m.bench.tags k 0) };
  process = m.process;
  reply = m.reply;
}

-- the same bench, read from a list
abbrev pub near_from : List ℕ → ℕ → Bench
near_from l k = with_tag (number_at l 0) (number_at l 1) (header_from l header_place) k (tag_from l k)

abbrev pub header_numbers : Header → List ℕ
header_numbers h = h.tag ∷ h.pid.0 ∷ []

abbrev pub process_numbers : Process → List ℕ
process_numbers q =
    q.line ∷ q.word ∷ q.count ∷ cond q.answered 1 0 ∷ q.keep ∷ q.x.tag ∷ q.x.pid.0 ∷ q.oldhdr.tag ∷ q.oldhdr.pid.0 ∷ q.newhdr.tag ∷
    q.newhdr.pid.0 ∷ q.h.tag ∷ q.h.pid.0 ∷ q.y.tag ∷ q.y.val ∷ q.z.tag ∷ q.z.val ∷ []

-- all that a command to process p left, whose word place was k
abbrev pub written : List ℕ → ℕ → ℕ → Moved → List ℕ
written l p k m =
    sets (sets (sets l header_place (header_numbers m.bench.header)) (tag_place k) (get_or m.bench.tags k 0 ∷ [])) (process_place p) (process_numbers m.process)

-- an order obeyed on the words, from the number `at` on: the numbers before them stay
pub record OnWords (l l' : List ℕ) (at : ℕ) (o : Order) (p : ProcessNumber) (value : List ℕ) (b : Bench) (q : Process) (m : Moved) : Type 0 where
  pub numbers_stay : take at l' ≡ take at l
  pub length_stays : length l' ≡ length l
  pub done : (m, drop at l') ≡ obey o p value b q (drop at l)
