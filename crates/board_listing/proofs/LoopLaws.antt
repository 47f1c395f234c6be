-- The loop over a file's records.
use mathlib.Core.Path.{◌≡◌, refl, sym, ap, subst, ◌∙◌}
use mathlib.Core.List.{List, [], ◌∷◌}
use mathlib.Core.Bool.{Bool, cond}
use Prim.Native.Nat.{ℕ, ◌+◌, ◌<◌, ◌≤◌}
use native.Mathlib.Omega.{arith}
use lib.Dec.{eqb}
use native.Mathlib.Numerals.{add-one}
use lib.ListN.{length, get_or, drop}
use lib.Seq.{drop-cons}
use Rattle.std.proofs.lemmas.List.{drop_all}
use borrow.Author.Tests.{eq-eqb, ne_eqb}
use Rattle.notation.specs.declared.Entry.{Entry}
use Rattle.boards.specs.Files.{BoardRecord, record_of}
use Rattle.boards.specs.Places.{read}
use Rattle.text_model.specs.TextRun.{figure2, Progress, single}
use Rattle.std.specs.Prelude.{Result, Ok, Err}
use Rattle.llsc.specs.declared.refusals.Refusal.{Refusal}
use Rattle.whole_runs.specs.Carrying.{Turned, turn_number}
use Rattle.text_entry.specs.RunState.{RunState, progress, Sound, Small, Becomes}
use Rattle.board_listing.specs.BoardListing.{entry_of, obeyed, obey_all}
use Rattle.board_listing.specs.ListedRun.{recounted, counted_state, stopped_state, Between, Obeys}
use Rattle.board_listing.specs.declared.ending.Stopped.{Stopped}
use Rattle.board_listing.proofs.RecordLaws.{counts, stops, stays_listed, writes_none, room_left}

-- an entry's turn, as it is said of a run
pub turned_becomes : {e : Entry} {out : Result Bool Refusal} (h h' : RunState) {a b : ℕ} → a ≡ 16 → b ≡ a → Turned figure2 e (progress a h) out (progress b h')
    → Sound b h' → length h'.words ≡ length h.words → length h'.listing ≡ length h.listing → Becomes 16 (single e) h h'
turned_becomes h h' {b = b} x y t s w l = let z : b ≡ 16 = y ∙ x in record { same = rw (x, z) at t.same; kept = record { sound = rw z at s; words = w; listing = l } }

pub not_stopped : (r : Result Bool Refusal) → ((x : Refusal) → r ≡ Err x → ⊥) → turn_number r ≡ 0
not_stopped (Ok x) n = refl
not_stopped (Err x) n = absurd (n x refl)

-- the bytes after the loop are those that the writer had
pub in_list : {rs : List BoardRecord} {h : RunState} {ws l l' : List ℕ} (s : Stopped) → l' ≡ l → Obeys rs h (stopped_state s ws l) → Obeys rs h (stopped_state s ws l')
in_list {rs} {h} {ws} s e o = subst (λ (y : List ℕ). Obeys rs h (stopped_state s ws y)) (sym e) o

-- what is left, and what is still to be done, is the whole
pub record Obeying (bs : List (List ℕ)) (h₀ h : RunState) (done : ℕ) : Type 0 where
  pub between : Between h
  pub words : length h.words ≡ length h₀.words
  pub listing : length h.listing ≡ length h₀.listing
  pub same : obey_all (read bs) (progress 16 h₀) ≡ obey_all (read (drop done bs)) (recounted done (progress 16 h))

pub first_record : (bs : List (List ℕ)) (h : RunState) → Between h → Obeying bs h h 0
first_record bs h b = record {
  between = b;
  words = refl;
  listing = refl;
  same = ap (λ (k : ℕ). obey_all (read bs) (recounted k (progress 16 h))) b.none;
}

module _ {bs : List (List ℕ)} {h₀ h : RunState} {done : ℕ} (m : Obeying bs h₀ h done) where
  abbrev s : Progress
  s = progress 16 h

  abbrev whole : Progress
  whole = obey_all (read bs) (progress 16 h₀)

  abbrev r : BoardRecord
  r = record_of (get_or bs done [])

  module _ (some : done < length bs) {e : Entry} (is : e ≡ entry_of r) (small : Small e) {h' : RunState} (b : Becomes 16 (single e) h h') where
    abbrev rs : List BoardRecord
    rs = read (drop (done + 1) bs)

    abbrev t : Progress
    t = progress 16 h'

    made : t ≡ single (entry_of r) s
    made = b.same ∙ ap (λ (y : Entry). single y s) is

    stop_is : h'.stop ≡ (single (entry_of r) s).stop
    stop_is = ap (λ (x : Progress). x.stop) made

    abbrev further : Progress → Bool → Progress
    further x u = cond u (obey_all rs x) x

    next_record : read (drop done bs) ≡ r ∷ rs
    next_record = rw (drop-cons bs done [] some, add-one done) refl

    opened : (x : Progress) → x ≡ obeyed r (recounted done s) → whole ≡ further x (eqb x.stop 0)
    unfolding obey_all
    opened x q =
        m.same ∙ ap (λ (l : List BoardRecord). obey_all l (recounted done s)) next_record
        ∙ ap (λ (y : Progress). further y (eqb y.stop 0)) (sym q)

    pub refused : length bs ≤ 9999999 → (h'.stop ≡ 0 → ⊥) → Obeys (read bs) h₀ (counted_state done h')
    refused few n =
        let g : (single (entry_of r) s).stop ≡ 0 → ⊥ = λ z. n (stop_is ∙ z) in
        let d = m.between in
        let one : recounted done t ≡ obeyed r (recounted done s) = ap (recounted done) made ∙ sym (stops (entry_of r) s d.goes d.none d.listed done g) in
        let w : h'.written ≡ h.written = ap (λ (x : Progress). x.written) made ∙ writes_none (entry_of r) s d.goes d.none d.listed g in
        record {
          same = sym (opened (recounted done t) one ∙ ap (further (recounted done t)) (ne_eqb h'.stop 0 n));
          words = b.kept.words ∙ m.words;
          listing = b.kept.listing ∙ m.listing;
          room = omega (arith, w, d.room, b.kept.listing);
          stop = b.kept.sound.stop;
          few = omega arith;
        }

    pub goes_on : h'.stop ≡ 0 → Obeying bs h₀ (counted_state 0 h') (done + 1)
    goes_on z =
        let g : (single (entry_of r) s).stop ≡ 0 = sym stop_is ∙ z in
        let d = m.between in
        let x = b.kept.sound in
        let one : recounted (done + 1) t ≡ obeyed r (recounted done s) = ap (recounted (done + 1)) made ∙ sym (counts (entry_of r) s d.goes d.none d.listed done g) in
        let left_over = room_left d (entry_of r) (subst Small is small) g in
        record {
          between = record {
            sound = record { few = x.few; filled = x.filled; entries = omega arith; stop = x.stop; room = x.room; going = x.going };
            goes = z;
            none = refl;
            listed = ap (λ (y : Progress). y.traced) made ∙ stays_listed (entry_of r) s d.goes d.none d.listed ∙ d.listed;
            room = omega (arith, left_over, ap (λ (y : Progress). y.written) made, b.kept.listing);
          };
          words = b.kept.words ∙ m.words;
          listing = b.kept.listing ∙ m.listing;
          same = opened (recounted (done + 1) t) one ∙ ap (further (recounted (done + 1) t)) (eq-eqb h'.stop 0 z);
        }

  pub all_done : length bs ≤ 9999999 → length bs ≡ done → Obeys (read bs) h₀ (counted_state (length bs) h)
  unfolding obey_all
  all_done few z =
      let d = m.between in
      subst (λ (k : ℕ). Obeys (read bs) h₀ (counted_state k h)) (sym z) (record {
        same = sym (m.same ∙ rw (drop_all done bs (omega arith)) refl);
        words = m.words;
        listing = m.listing;
        room = d.room;
        stop = d.sound.stop;
        few = omega arith;
      })
