-- What the readers put into the list, of a whole text: what it says, and where that stands, by the grammar.
use Prim.Native.Nat.{ℕ, ◌+◌, ◌<◌, min}
use mathlib.Core.Path.{◌≡◌, refl, sym, ap, ◌∙◌}
use mathlib.Core.List.{List, [], ◌∷◌, map}
use mathlib.Core.Bool.{Bool, false, cond}
use native.Mathlib.Omega.{arith}
use native.Mathlib.Numerals.{add-one}
use borrow.Author.Tests.{eq-eqb}
use lib.Dec.{eqb}
use lib.ListN.{length, get_or, drop, take}
use lib.Seq.{drop-cons}
use Rattle.notation.specs.declared.Entry.{Entry}
use Rattle.notation.specs.Bytes.{space, line_feed}
use Rattle.notation.specs.Grammar.{Text, Said, bytes, says, places, deepest}
use Rattle.notation.specs.FirstLine.{read}
use Rattle.notation.specs.Readers.{Counts, still, digit, Whole, Ended, Headed}
use Rattle.notation.specs.Groups.{ItemsEnded}
use Rattle.notation.specs.EntryWords.{entry_in, kept_entry, place_in}
use Rattle.notation.specs.Places.{fore, locate, locate_text, EndsAfter}
use Rattle.notation.specs.Listed.{Keeps}
use Rattle.notation.proofs.GroupLaws.{text_ended}
use Rattle.notation.proofs.ListedLaws.{kept_entries, kept_places}
use Rattle.notation.proofs.PlacedTrees.{digit_no_feed, text_placed}
use Rattle.notation.proofs.TextTrees.{right_same}
use Rattle.notation.proofs.Theorems.{right_is_read}

module _ (s : List ℕ) where
  -- a byte of the first line
  line_at : (at : ℕ) → at < length s
      → locate_text (drop at s) at ≡ cond (eqb (get_or s at 0) line_feed) (locate (drop (at + 1) s) (at + 1) fore [] []) (locate_text (drop (at + 1) s) (at + 1))
  unfolding locate_text
  line_at at h = rw (add-one, drop-cons s at 0)

  line_byte : (at : ℕ) (t : Bool) → at < length s → eqb (get_or s at 0) line_feed ≡ t
      → locate_text (drop at s) at ≡ cond t (locate (drop (at + 1) s) (at + 1) fore [] []) (locate_text (drop (at + 1) s) (at + 1))
  line_byte at t h e = line_at at h ∙ ap (λ (x : Bool). cond x (locate (drop (at + 1) s) (at + 1) fore [] []) (locate_text (drop (at + 1) s) (at + 1))) e

  line_counts : {at v next v' : ℕ} → Counts s at v next v' → locate_text (drop at s) at ≡ locate_text (drop next s) next
  line_counts still = refl
  line_counts (digit {next = next} {d = d} c l e fits) = line_counts c ∙ line_byte next false l (digit_no_feed (get_or s next 0) d e)

  line_number_is : {at v next : ℕ} → Whole s at v next → locate_text (drop at s) at ≡ locate_text (drop next s) next
  line_number_is {at} w = line_byte at false w.here (digit_no_feed (get_or s at 0) w.d w.is) ∙ line_counts w.numbered.counts

  line_space : {at v next : ℕ} → Ended s at space v next → locate_text (drop at s) at ≡ locate_text (drop next s) next
  line_space e =
      line_number_is e.number ∙ line_byte e.place false e.here (ap (λ (x : ℕ). eqb x line_feed) e.is)
      ∙ ap (λ (x : ℕ). locate_text (drop x s) x) (sym e.past)

  line_feed_is : {at v next : ℕ} → Ended s at line_feed v next → locate_text (drop at s) at ≡ locate (drop next s) next fore [] []
  line_feed_is e =
      line_number_is e.number ∙ line_byte e.place _ e.here (eq-eqb _ _ e.is)
      ∙ ap (λ (x : ℕ). locate (drop x s) x fore [] []) (sym e.past)

  line_passed : {n w v next : ℕ} → Headed s n w v next → locate_text s 0 ≡ locate (drop next s) next fore [] []
  line_passed h = line_space h.n_ends ∙ line_space h.w_ends ∙ line_feed_is h.initial_ends

-- a list of places, each as it is
map_same : (l : List ℕ) → map (λ (p : ℕ). p) l ≡ l
map_same [] = refl
map_same (p ∷ l) = ap (λ (x : List ℕ). p ∷ x) (map_same l)

-- a text of the grammar, its first line, and its items read to the end of the text
module _ (t : Text deepest) {s list list' : List ℕ} {n w v items to : ℕ} (is : bytes t ≡ s) (h : Headed s n w v items)
    (x : Keeps s list list' 0 to (λ es. ItemsEnded s items deepest es) (λ ps. EndsAfter s items ps)) where
  -- the entries are those of the text
  pub listed_says : says t ≡ record { n = n; w = w; initial = v; entries = x.says }
  listed_says = right_same (sym (right_is_read t) ∙ ap read is ∙ text_ended h x.read)

  -- and the places too
  pub listed_places : x.places ≡ places t
  listed_places = sym x.located.same ∙ sym (line_passed s h) ∙ ap (λ (l : List ℕ). locate_text l 0) (sym is) ∙ text_placed t

  same_entries : x.says ≡ (says t).entries
  same_entries = ap (λ (a : Said). a.entries) (sym listed_says)

  -- so the words keep both, as many as there is room for
  pub words_end : to ≡ min (length list) (length (says t).entries)
  words_end = omega (arith, x.lists.entries.to_is, ap length same_entries)

  pub words_say : map entry_in (take to list') ≡ map kept_entry (take (length list) (says t).entries)
  words_say = kept_entries x.lists ∙ ap (λ (es : List Entry). map kept_entry (take (length list) es)) same_entries

  pub words_stand : map place_in (take to list') ≡ take (length list) (places t)
  words_stand = kept_places x.lists ∙ map_same (take (length list) x.places) ∙ ap (take (length list)) listed_places
