-- What an accepted command leaves: its own process, the other processes, each item.
use mathlib.Core.Path.{◌≡◌, refl, sym, ap, ap₂, subst, ◌∙◌}
use mathlib.Core.Logic.{◌≢◌}
use Prim.Native.Nat.{ℕ, ◌<◌}
use native.Mathlib.Omega.{arith}
use Rattle.llsc.specs.declared.ProcessNumber.{ProcessNumber}
use Rattle.model.specs.declared.Reply.{Reply}
use Rattle.model.specs.declared.Reply.TheVariants.{Refused, Accepted, LlAnswered, ScAnswered, VlAnswered}
use Rattle.llsc.specs.Answers.{answered, ll_words}
use Rattle.station.specs.declared.StationProcess.{StationProcess}
use Rattle.station.specs.Station.{StationMemory}
use Rattle.station.specs.StationRefusals.{StationOrder}
use Rattle.station.specs.StationHistory.{station_says}
use Rattle.doings.specs.Items.{Holding}
use Rattle.doings.specs.Own.{Own}
use Rattle.doings.specs.Doings.{acted, seen, Doing, Touching, nothing, one, Touches}
use Rattle.doings.proofs.ItemLaws.{trim}
use Rattle.doings.proofs.AreaLaws.{Areas}
use Rattle.commuting_laws.specs.Parts.{StationItem, InStation, item_of, own_of}
use Rattle.commuting_laws.specs.StationDoings.{number_of, does_from, does, shared_after, outcome_of}
use Rattle.commuting_laws.specs.Commuting.{reply_to, leaves, said_to}
use Rattle.commuting_laws.proofs.StationParts.{Sized, present_named, item_put, item_other}
use Rattle.commuting_laws.proofs.StationOwns.{own_item, own_put, own_other, own_sized}
use Rattle.commuting_laws.proofs.Swaps.{shared_sized, shared_n, shared_w, shared_r, shared_own}
use Rattle.commuting_laws.proofs.Admission.{Made}

-- what an accepted command leaves
module _ {s : StationMemory} {c : StationOrder} {t : Touching StationItem StationProcess} (k : Made s c t) where
  abbrev p : ProcessNumber
  p = number_of c

  abbrev o : Own StationProcess
  o = (outcome_of t p s).1

  abbrev m : StationMemory
  m = shared_after t p s

  fits : Areas (shared_after t (number_of c) s).w (outcome_of t (number_of c) s).1
  fits = subst (λ (x : ℕ). Areas x o) (sym (shared_w s k.sized t p)) k.areas

  sized_shared : Sized (shared_after t (number_of c) s)
  sized_shared = shared_sized s k.sized t p

  below_shared : c.process < (shared_after t (number_of c) s).n
  below_shared = omega (arith, k.below, shared_n s k.sized t p)

  pub sized_left : Sized (leaves s c)
  sized_left = subst (λ (x : Reply × StationMemory). Sized x.1) (sym k.made) (own_sized m sized_shared p below_shared o fits)

  pub n_left : (leaves s c).n ≡ s.n
  n_left = ap (λ (x : Reply × StationMemory). x.1.n) k.made ∙ shared_n s k.sized t p

  pub w_left : (leaves s c).w ≡ s.w
  w_left = ap (λ (x : Reply × StationMemory). x.1.w) k.made ∙ shared_w s k.sized t p

  pub r_left : (leaves s c).r ≡ s.r
  r_left = ap (λ (x : Reply × StationMemory). x.1.r) k.made ∙ shared_r s k.sized t p

  pub reply_made : reply_to s c ≡ (outcome_of t (number_of c) s).0
  reply_made = ap (λ (x : Reply × StationMemory). x.0) k.made

  pub own_left : own_of (leaves s c) (number_of c) ≡ (outcome_of t (number_of c) s).1
  own_left = ap (λ (x : Reply × StationMemory). own_of x.1 p) k.made ∙ own_put m sized_shared p below_shared o fits

  pub other_left : (q : ProcessNumber) → q.0 ≢ c.process → q.0 < s.n → own_of (leaves s c) q ≡ own_of s q
  other_left q ne hq =
      ap (λ (x : Reply × StationMemory). own_of x.1 q) k.made
      ∙ own_other m sized_shared p below_shared o fits q (omega (arith, hq, shared_n s k.sized t p)) ne
      ∙ shared_own s k.sized t p q hq k.present

  -- an item of the station, after the command
  pub item_left : (i : StationItem) → InStation s i → item_of i (leaves s c) ≡ item_of i (shared_after t (number_of c) s)
  item_left i there =
      let same_n = shared_n s k.sized t p in let same_w = shared_w s k.sized t p in let same_r = shared_r s k.sized t p in
      let still : InStation m i = record {
        number = omega (arith, there.number, same_r);
        item = record { index = omega (arith, there.item.index, same_n); word = omega (arith, there.item.word, same_w) };
      } in
      ap (λ (x : Reply × StationMemory). item_of i x.1) k.made ∙ own_item m sized_shared p below_shared o fits i still

-- an item that the command does not touch, and the one that it touches
pub untouched : (s : StationMemory) (c : StationOrder) (t : Touching StationItem StationProcess) → Made s c t → (i : StationItem) → InStation s i → (Touches t i → ⊥)
    → item_of i (shared_after t (number_of c) s) ≡ item_of i s
untouched s c (nothing out) k i there ne = refl
untouched s c (one d) k i there ne =
    item_other s k.sized d.item (acted d.act (number_of c) (item_of d.item s)) i (present_named s k.sized d.item k.present) there (λ e. ne (sym e))

-- the reply of an LL is the return area
same_words_lem : (s s₂ : StationMemory) (c : StationOrder) (r : Reply) → own_of s (number_of c) ≡ own_of s₂ (number_of c) → station_says s c.process r ≡ station_says s₂ c.process r
same_words_lem s s₂ c (Refused k) e = refl
same_words_lem s s₂ c Accepted e = refl
same_words_lem s s₂ c (LlAnswered k) e = ap (λ (o : Own StationProcess). answered (ll_words o.returned) k) e
same_words_lem s s₂ c (ScAnswered t k) e = refl
same_words_lem s s₂ c (VlAnswered t k) e = refl

pub same_saying : (s s₂ : StationMemory) (c : StationOrder) → reply_to s c ≡ reply_to s₂ c
    → own_of (leaves s c) (number_of c) ≡ own_of (leaves s₂ c) (number_of c) → said_to s c ≡ said_to s₂ c
same_saying s s₂ c e f = ap (station_says (leaves s c) c.process) e ∙ same_words_lem (leaves s c) (leaves s₂ c) c (reply_to s₂ c) f

-- the same doing
pub same_does : (s s₂ : StationMemory) (c : StationOrder) → s.n ≡ s₂.n → s.w ≡ s₂.w → own_of s (number_of c) ≡ own_of s₂ (number_of c) → does s c ≡ does s₂ c
same_does s s₂ c a b e = ap₂ (λ (n w : ℕ). does_from n w c (own_of s (number_of c))) a b ∙ ap (does_from s₂.n s₂.w c) e

pub agree : (s s₂ : StationMemory) (p : ProcessNumber) (t : Touching StationItem StationProcess) → ((i : StationItem) → Touches t i → item_of i s ≡ item_of i s₂)
    → outcome_of t p s ≡ outcome_of t p s₂
agree s s₂ p (nothing out) h = refl
agree s s₂ p (one d) h = ap (λ (x : Holding). d.next (seen p x)) (h d.item refl)

pub left_in : (s : StationMemory) (c : StationOrder) (d : Doing StationItem StationProcess) → Made s c (one d)
    → item_of d.item (leaves s c) ≡ trim d.item.item (acted d.act (number_of c) (item_of d.item s))
left_in s c d k =
    item_left k d.item (present_named s k.sized d.item k.present)
    ∙ item_put s k.sized d.item (acted d.act (number_of c) (item_of d.item s)) k.present

pub left_alike : (s s₂ : StationMemory) (c : StationOrder) (t : Touching StationItem StationProcess) → Made s c t → Made s₂ c t
    → ((i : StationItem) → Touches t i → item_of i s ≡ item_of i s₂) → (i : StationItem) → Touches t i → item_of i (leaves s c) ≡ item_of i (leaves s₂ c)
left_alike s s₂ c (nothing out) k k₂ h i x = absurd x
left_alike s s₂ c (one d) k k₂ h i x =
    subst (λ (j : StationItem). item_of j (leaves s c) ≡ item_of j (leaves s₂ c)) x
    (left_in s c d k ∙ ap (λ (y : Holding). trim d.item.item (acted d.act (number_of c) y)) (h d.item refl) ∙ sym (left_in s₂ c d k₂))
