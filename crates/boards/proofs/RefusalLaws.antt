-- The rows of a merge, and what is known of two files that no row refuses.
use mathlib.Core.Path.{◌≡◌, refl, sym, ap, ap₂, subst, ◌∙◌}
use mathlib.Core.List.{List, [], ◌∷◌}
use mathlib.Core.Bool.{Bool, true, false, not, ◌&&◌, cond}
use Prim.Native.Nat.{ℕ, ◌+◌, ◌-◌, ◌*◌, ◌/◌, ◌<◌, ◌≤◌}
use native.Mathlib.Omega.{arith}
use native.Mathlib.Numerals.{add-one}
use lib.Dec.{eqb, leb, ltb}
use borrow.Author.Tests.{eqb-true, leb-true, ltb-false, ne_eqb, le-leb, eq-eqb}
use lib.ListN.{length, take, drop}
use lib.Seq.{sets, drop-cons}
use Rattle.laws.proofs.AndLaws.{left, right}
use Rattle.laws.proofs.AllLaws.{or_none}
use Rattle.llsc.specs.Refusals.{refusal_number}
use Rattle.llsc.specs.declared.refusals.Refusal.{Refusal}
use Rattle.llsc.specs.declared.refusals.Refusal.TheVariants.{BadTrailer}
use Rattle.llsc.proofs.RefusalNumbers.{number_some}
use Rattle.std.specs.Borrow.{Bor}
use Rattle.std.specs.Prelude.{Option, Some, None, Result, Ok, Err, MatchOption, ok_or}
use Rattle.std.specs.List.{ends_with}
use Rattle.std.specs.Cmp.Lexicographic.{pointwise}
use Rattle.std.specs.Simd.{first_chunks}
use Rattle.std.proofs.lemmas.List.{length-take-le, length-drop, drop_all}
use Rattle.std.proofs.Common.{nat_eq}
use Rattle.std.proofs.lemmas.Grind.{common_steps}
use Rattle.boards.specs.Files.{byte_at, number4, trailer_at, offset, count, marked, ends_there, good_trailer, decode, rising, good_records, largest, encode}
use Rattle.boards.specs.Merging.{merge, share_process, file_size, too_large, merge_number, merged_file, merged, merge_files}
use Rattle.boards.specs.Places.{read, all_good, RecordsOf}
use Rattle.boards.specs.Merged.{Ready, file_merged, Both, RefusedWith}
use Rattle.boards.specs.Merged as of_left
use Rattle.boards.specs.declared.merging.Left.{Left}
use Rattle.boards.specs.declared.Merged.{Merged}
use Rattle.boards.proofs.FrontLaws.{and_last, four_drop, read_chunks, good_chunks, so_many, chunks_taken}
use Rattle.boards.proofs.LoopLaws.{length_read}
use Rattle.std.proofs.lemmas.Result.{err_from_is_err_and}

-- what a good trailer says
pub record Trailed (bs : List ℕ) : Type 0 where
  pub long : 12 ≤ length bs
  pub short : length bs ≤ largest
  pub ends : offset bs + 12 * count bs + 12 ≡ length bs

pub trailed : (bs : List ℕ) → good_trailer bs ≡ true → Trailed bs
unfolding good_trailer
trailed bs e =
    let sized = right (leb 12 (length bs)) _ e in let there = right (leb (length bs) largest) _ sized in
    record {
      long = leb-true 12 (length bs) (left (leb 12 (length bs)) _ e);
      short = leb-true (length bs) largest (left (leb (length bs) largest) _ sized);
      ends = eqb-true (offset bs + 12 * count bs + 12) (length bs) (right (marked bs) (ends_there bs) there);
    }

-- the bytes that mark a trailer
mark_tests : (a b c d : ℕ) → pointwise nat_eq (84 ∷ 82 ∷ 65 ∷ 76 ∷ []) (a ∷ b ∷ c ∷ d ∷ []) ≡ (eqb a 84 && (eqb b 82 && (eqb c 65 && eqb d 76)))
mark_tests a b c d = grind (arith, common_steps)

-- the last four bytes
module _ (bs : List ℕ) (long : 12 ≤ length bs) where
  one : (k m : ℕ) → m ≡ k + 1 → k < length bs → drop k bs ≡ byte_at bs k ∷ drop m bs
  one k m e h = rw (e, add-one k) (drop-cons bs k 0 h)

  tail : let at = trailer_at bs in drop (length bs - 4) bs ≡ byte_at bs (at + 8) ∷ byte_at bs (at + 9) ∷ byte_at bs (at + 10) ∷ byte_at bs (at + 11) ∷ []
  tail =
      let at = trailer_at bs in
      ap (λ (k : ℕ). drop k bs) (let e : length bs - 4 ≡ at + 8 = omega arith in e)
      ∙ one (at + 8) (at + 9) (omega arith) (omega arith) ∙ ap (byte_at bs (at + 8) ∷◌) (
      one (at + 9) (at + 10) (omega arith) (omega arith) ∙ ap (byte_at bs (at + 9) ∷◌) (
      one (at + 10) (at + 11) (omega arith) (omega arith) ∙ ap (byte_at bs (at + 10) ∷◌) (
      one (at + 11) (length bs) (omega arith) (omega arith) ∙ ap (byte_at bs (at + 11) ∷◌) (drop_all (length bs) bs (omega arith)))))

-- where row 25 refuses a file, and where it does not
module _ (bs : List ℕ) where
  pub too_short : length bs < 12 → good_trailer bs ≡ false
  unfolding good_trailer
  too_short h = grind (arith, common_steps)

  pub too_long : largest < length bs → good_trailer bs ≡ false
  unfolding good_trailer
  too_long h = grind (arith, common_steps)

  module _ (long : 12 ≤ length bs) where
    marks_are : ends_with nat_eq bs (84 ∷ 82 ∷ 65 ∷ 76 ∷ []) ≡ marked bs
    marks_are = rw (tail bs long) (let at = trailer_at bs in mark_tests (byte_at bs (at + 8)) (byte_at bs (at + 9)) (byte_at bs (at + 10)) (byte_at bs (at + 11)))

    pub not_marked : ends_with nat_eq bs (84 ∷ 82 ∷ 65 ∷ 76 ∷ []) ≡ false → good_trailer bs ≡ false
    unfolding good_trailer
    not_marked e = and_last (leb 12 (length bs)) (and_last (leb (length bs) largest) (ap (λ (t : Bool). t && ends_there bs) (sym marks_are ∙ e)))

  pub ends_elsewhere : (offset bs + 12 * count bs + 12 ≡ length bs → ⊥) → good_trailer bs ≡ false
  unfolding good_trailer
  ends_elsewhere n = grind (arith, common_steps)

  pub is_good : 12 ≤ length bs → length bs ≤ largest → ends_with nat_eq bs (84 ∷ 82 ∷ 65 ∷ 76 ∷ []) ≡ true
      → offset bs + 12 * count bs + 12 ≡ length bs → good_trailer bs ≡ true
  unfolding good_trailer
  is_good h k e f =
      ap₂ ◌&&◌ (le-leb 12 (length bs) h) (ap₂ ◌&&◌ (le-leb (length bs) largest k) (ap₂ ◌&&◌ (sym (marks_are h) ∙ e) (eq-eqb (offset bs + 12 * count bs + 12) (length bs) f)))

-- what a file without a right trailer is refused with, and what one that has it leaves
module _ (o : Option (Bor (List (List ℕ)))) (bs : List ℕ) (m : MatchOption o (good_trailer bs ≡ false) (λ rs. RecordsOf bs rs.now)) where
  pub no_records : (r : Refusal) → ◌≡◌ {A = Result (Bor (List (List ℕ))) Refusal} (Err r) (ok_or o BadTrailer) → (r ≡ BadTrailer) × (good_trailer bs ≡ false)
  no_records r e = go o m e
    where
      go : (o : Option (Bor (List (List ℕ)))) → MatchOption o (good_trailer bs ≡ false) (λ rs. RecordsOf bs rs.now)
          → ◌≡◌ {A = Result (Bor (List (List ℕ))) Refusal} (Err r) (ok_or o BadTrailer) → (r ≡ BadTrailer) × (good_trailer bs ≡ false)
      go None n f = (cc, n)
      go (Some x) n f = absurd (let z : ◌≡◌ {A = ℕ} 0 1 = cc in omega arith)

  pub its_records : (x : Bor (List (List ℕ))) → ◌≡◌ {A = Result (Bor (List (List ℕ))) Refusal} (Ok x) (ok_or o BadTrailer) → RecordsOf bs x.now
  its_records x e = go o m e
    where
      go : (o : Option (Bor (List (List ℕ)))) → MatchOption o (good_trailer bs ≡ false) (λ rs. RecordsOf bs rs.now)
          → ◌≡◌ {A = Result (Bor (List (List ℕ))) Refusal} (Ok x) (ok_or o BadTrailer) → RecordsOf bs x.now
      go None n f = absurd (let z : ◌≡◌ {A = ℕ} 0 1 = cc in omega arith)
      go (Some y) n f = let same : y ≡ x = cc in subst (λ (b : Bor (List (List ℕ))). RecordsOf bs b.now) same n

-- the numbers of the trailer
module _ (file t : List ℕ) (e : t ≡ drop (trailer_at file) file) where
  pub offset_is : number4 t 0 ≡ offset file
  offset_is = ap (λ (x : List ℕ). number4 x 0) e ∙ four_drop file (trailer_at file) 0 ∙ ap (number4 file) (let z : trailer_at file + 0 ≡ trailer_at file = omega arith in z)

  pub count_is : number4 t 4 ≡ count file
  count_is = ap (λ (x : List ℕ). number4 x 4) e ∙ four_drop file (trailer_at file) 4

-- the slice that holds them, cut
pub cut_there : (file : List ℕ) (o n : ℕ) → o + 12 * n ≤ length file
    → let part = take (o + 12 * n - o) (drop o file) in first_chunks 12 (length part / 12) part ≡ first_chunks 12 n (drop o file)
cut_there file o n h =
    let k : o + 12 * n - o ≡ n * 12 = omega arith in
    let l : length (take (n * 12) (drop o file)) ≡ n * 12 = length-take-le (n * 12) (drop o file) (omega (arith, length-drop o file)) in
    let q : length (take (n * 12) (drop o file)) / 12 ≡ n = omega arith in
    rw (k, q) (chunks_taken n (drop o file))

-- a file's records, as its trailer says
module _ {bs : List ℕ} {rs : List (List ℕ)} (r : RecordsOf bs rs) where
  pub reads : read rs ≡ decode bs
  reads = ap read r.same ∙ read_chunks (count bs) (drop (offset bs) bs)

  pub tests : (all_good rs && rising 0 (read rs)) ≡ good_records bs
  tests = ap₂ ◌&&◌ (ap all_good r.same ∙ good_chunks (count bs) (drop (offset bs) bs)) (ap (rising 0) reads)

  pub number_of_them : length rs ≡ count bs
  number_of_them = ap length r.same ∙ so_many (count bs) (drop (offset bs) bs)

  pub few : 12 * length rs + 12 ≤ largest
  few = let t = trailed bs r.trailer in omega (arith, number_of_them)

-- the rows, over truths
and_false : (a b : Bool) → b ≡ false → (a && b) ≡ false
and_false true b e = e
and_false false b e = refl

module _ (a b : List ℕ) (room : ℕ) where
  rows : (g h k l : Bool) → (good_trailer a && good_trailer b) ≡ g → (good_records a && good_records b) ≡ h → share_process (decode a) (decode b) ≡ k
      → too_large (file_size (length (decode a) + length (decode b))) room ≡ l → merge_number a b room ≡ cond (not g) 25 (cond (not h) 26 (cond k 27 (cond l 28 0)))
  unfolding merge_number
  rows g h k l d e f i =
      ap₂ (λ (x y : Bool). cond (not x) 25 (cond (not y) 26 (cond (share_process (decode a) (decode b)) 27 (cond (too_large (file_size (length (decode a) + length (decode b))) room) 28 0)))) d e
      ∙ ap₂ (λ (x y : Bool). cond (not g) 25 (cond (not h) 26 (cond x 27 (cond y 28 0)))) f i

  pub first_trailer : good_trailer a ≡ false → merge_number a b room ≡ 25
  first_trailer e = rows false _ _ _ (ap (λ (x : Bool). x && good_trailer b) e) refl refl refl

  pub second_trailer : good_trailer b ≡ false → merge_number a b room ≡ 25
  second_trailer e = rows false _ _ _ (and_false (good_trailer a) (good_trailer b) e) refl refl refl

  module _ (l : Left) (ra : RecordsOf a l.first.now) (rb : RecordsOf b l.second.now) where
    trailers : (good_trailer a && good_trailer b) ≡ true
    trailers = ap₂ ◌&&◌ ra.trailer rb.trailer

    pub first_record : (all_good l.first.now && rising 0 (read l.first.now)) ≡ false → merge_number a b room ≡ 26
    first_record e = rows true false _ _ trailers (ap (λ (x : Bool). x && good_records b) (sym (tests ra) ∙ e)) refl refl

    pub second_record : (all_good l.second.now && rising 0 (read l.second.now)) ≡ false → merge_number a b room ≡ 26
    second_record e = rows true false _ _ trailers (and_false (good_records a) (good_records b) (sym (tests rb) ∙ e)) refl refl

    module _ (ga : (all_good l.first.now && rising 0 (read l.first.now)) ≡ true) (gb : (all_good l.second.now && rising 0 (read l.second.now)) ≡ true) where
      records : (good_records a && good_records b) ≡ true
      records = ap₂ ◌&&◌ (sym (tests ra) ∙ ga) (sym (tests rb) ∙ gb)

      sharing : share_process (read l.first.now) (read l.second.now) ≡ share_process (decode a) (decode b)
      sharing = ap₂ share_process (reads ra) (reads rb)

      pub shared : share_process (read l.first.now) (read l.second.now) ≡ true → merge_number a b room ≡ 27
      shared e = rows true true true _ trailers records (sym sharing ∙ e) refl

      module _ (no : share_process (read l.first.now) (read l.second.now) ≡ false) where
        size : file_size (of_left.count l) ≡ file_size (length (decode a) + length (decode b))
        size = ap₂ (λ (m n : ℕ). file_size (m + n)) (sym (length_read l.first.now) ∙ ap length (reads ra)) (sym (length_read l.second.now) ∙ ap length (reads rb))

        pub large : too_large (file_size (of_left.count l)) room ≡ true → merge_number a b room ≡ 28
        large e = rows true true false true trailers records (sym sharing ∙ no) (ap (λ (n : ℕ). too_large n room) (sym size) ∙ e)

        pub may_merge : too_large (file_size (of_left.count l)) room ≡ false → Both a b room l
        may_merge e = record {
          number = rows true true false false trailers records (sym sharing ∙ no) (ap (λ (n : ℕ). too_large n room) (sym size) ∙ e);
          first = ra.same;
          second = rb.same;
        }

-- no row holds
pub record Passed (a b : List ℕ) (room : ℕ) : Type 0 where
  pub trailer_first : good_trailer a ≡ true
  pub trailer_second : good_trailer b ≡ true
  pub records_first : good_records a ≡ true
  pub records_second : good_records b ≡ true
  pub not_shared : share_process (decode a) (decode b) ≡ false
  pub fits_room : file_size (length (decode a) + length (decode b)) ≤ room
  pub fits_file : file_size (length (decode a) + length (decode b)) ≤ largest

pub passed : (a b : List ℕ) (room : ℕ) → merge_number a b room ≡ 0 → Passed a b room
unfolding merge_number
passed a b room e =
    let r = truths (good_trailer a && good_trailer b) (good_records a && good_records b) (share_process (decode a) (decode b)) (too_large size room) e in
    let l = or_none (ltb room size) (ltb largest size) r.1.1.1 in
    record {
      trailer_first = left (good_trailer a) (good_trailer b) r.0;
      trailer_second = right (good_trailer a) (good_trailer b) r.0;
      records_first = left (good_records a) (good_records b) r.1.0;
      records_second = right (good_records a) (good_records b) r.1.0;
      not_shared = r.1.1.0;
      fits_room = ltb-false room size l.0;
      fits_file = ltb-false largest size l.1;
    }
  where
    size : ℕ
    size = file_size (length (decode a) + length (decode b))

    truths : (g h k l : Bool) → ◌≡◌ {A = ℕ} (cond (not g) 25 (cond (not h) 26 (cond k 27 (cond l 28 0)))) 0 → (g ≡ true) × ((h ≡ true) × ((k ≡ false) × (l ≡ false)))
    truths false h k l z = absurd (omega arith)
    truths true false k l z = absurd (omega arith)
    truths true true true l z = absurd (omega arith)
    truths true true false true z = absurd (omega arith)
    truths true true false false z = (refl, (refl, (refl, refl)))

-- the entry: refused, or not
module _ (a b out : List ℕ) where
  pub merge_refused : (r : Refusal) → RefusedWith a b (length out) r → (record { number = refusal_number r; written = 0 }, out) ≡ merge_files a b out
  unfolding merge_files
  merge_refused r e =
      ap (λ (t : Bool). chosen t) (sym (ne_eqb (refusal_number r) 0 (number_some r))) ∙ ap (λ (k : ℕ). merged k (merged_file a b) out) (sym e)
    where
      chosen : Bool → Merged × List ℕ
      chosen t = cond t (record { number = 0; written = length (merged_file a b) }, sets out 0 (merged_file a b)) (record { number = refusal_number r; written = 0 }, out)

  module _ {l : Left} (h : Both a b (length out) l) where
    p : Passed a b (length out)
    p = passed a b (length out) h.number

    ra : RecordsOf a l.first.now
    ra = record { trailer = p.trailer_first; same = h.first }

    rb : RecordsOf b l.second.now
    rb = record { trailer = p.trailer_second; same = h.second }

    pub ready : Ready l out
    ready =
        let m = ap length (reads ra) in let n = ap length (reads rb) in
        let x = length_read l.first.now in let y = length_read l.second.now in
        record {
          good = record {
            first = left (all_good l.first.now) _ (tests ra ∙ p.records_first);
            second = left (all_good l.second.now) _ (tests rb ∙ p.records_second);
          };
          few = let r = p.fits_file in omega arith;
          room = let r = p.fits_room in omega arith;
        }

    pub merge_done : (w : ℕ) (out' : List ℕ) → (w, out') ≡ file_merged l out → (record { number = 0; written = w }, out') ≡ merge_files a b out
    unfolding merge_files file_merged
    merge_done w out' e =
        ap (λ (x : ℕ × List ℕ). (record { number = 0; written = x.0 }, x.1)) e
        ∙ ap₂ (λ xs ys. (record { number = 0; written = length (encode (merge xs ys)) }, sets out 0 (encode (merge xs ys)))) (reads ra) (reads rb)
        ∙ ap (λ (x : ℕ). merged x (merged_file a b) out) (sym h.number)

-- what `records_of` rests on
pub ruleset records_laws = (too_short, too_long, not_marked, ends_elsewhere, is_good, cut_there)

-- what `records_of_both` rests on
pub ruleset both_laws = (err_from_is_err_and, no_records, its_records, few, first_trailer, second_trailer)
