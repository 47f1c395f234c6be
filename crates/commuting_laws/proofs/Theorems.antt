-- CR 13's theorems.
use mathlib.Core.Path.{◌≡◌, refl, sym, ap, subst, ◌∙◌}
use mathlib.Core.Logic.{◌≢◌}
use mathlib.Core.List.{List, [], ◌∷◌, ◌++◌}
use mathlib.Core.Bool.{Bool, true, false}
use Prim.Native.Nat.{ℕ, ◌<◌}
use lib.Dec.{eqb}
use borrow.Author.Tests.{eqb-true, eqb-false}
use Rattle.model.specs.declared.Reply.{Reply}
use Rattle.station.specs.declared.StationProcess.{StationProcess}
use Rattle.station.specs.Station.{StationMemory}
use Rattle.station.specs.StationRefusals.{StationOrder}
use Rattle.station.specs.StationCommand.{station_refusal}
use Rattle.station.specs.StationSetUp.{station_set_up}
use Rattle.station.specs.StationHistory.{station_after}
use Rattle.station_laws.specs.StationOwnDoing.{NotLentStation}
use Rattle.station_facts.proofs.Accepts.{refuses}
use Rattle.station_laws.proofs.Theorems.{station_never_for_its_own_doing}
use Rattle.doings.specs.Own.{Own}
use Rattle.commuting_laws.specs.Parts.{own_of}
use Rattle.doings.specs.Doings.{Apart}
use Rattle.doings.proofs.Looks.{apart_sym}
use Rattle.commuting_laws.specs.StationDoings.{number_of, does, outcome_of, effect_on}
use Rattle.commuting_laws.specs.Commuting as cr
use Rattle.commuting_laws.specs.Commuting.{reply_to, leaves, FollowsDoing, DependsOnly, AltersNoOther, Swapped, Commute}
use Rattle.commuting_laws.proofs.Swaps.{same_outcome, effects_swap}
use Rattle.commuting_laws.proofs.Lengths.{TableLengths, table_lengths, set_up_lengths}
use Rattle.commuting_laws.proofs.Admission.{Made, accepted_made}
use Rattle.commuting_laws.proofs.Left.{sized_left, n_left, w_left, r_left, reply_made, own_left, other_left, item_left, untouched, same_saying, same_does, agree, left_alike}
use Rattle.commuting_laws.proofs.Acceptance.{accepts_too}

pub follows_doing : FollowsDoing
follows_doing s h c e = (accepted_made s (table_lengths s h) c e).made

-- "such a step alters no other item"
pub alters_no_other : AltersNoOther
alters_no_other s h c e =
    let k = accepted_made s (table_lengths s h) c e in
    record {
      n = n_left k;
      w = w_left k;
      r = r_left k;
      items = λ i there ne. item_left k i there ∙ untouched s c (does s c) k i there ne;
      processes = other_left k;
    }

-- "its answer and what it leaves depend on N, W, that item and its own process alone"
pub depends_only : DependsOnly
depends_only s s₂ h h₂ c e e₂ a =
    let t = does s c in
    let k = accepted_made s (table_lengths s h) c e in
    let k₂ : Made s₂ c t = subst (Made s₂ c) (sym (same_does s s₂ c a.n a.w a.own)) (accepted_made s₂ (table_lengths s₂ h₂) c e₂) in
    let out = agree s s₂ (number_of c) t a.item in
    let reply : reply_to s c ≡ reply_to s₂ c = reply_made k ∙ ap (λ (x : Reply × Own StationProcess). x.0) out ∙ sym (reply_made k₂) in
    let own : own_of (leaves s c) (number_of c) ≡ own_of (leaves s₂ c) (number_of c) = own_left k ∙ ap (λ (x : Reply × Own StationProcess). x.1) out ∙ sym (own_left k₂) in
    record { reply = reply; said = same_saying s s₂ c reply own; own = own; item = left_alike s s₂ c t k k₂ a.item }

-- two neighbours, where no command meets rows 1, 2, 23, 3 or 9
module _ (s : StationMemory) (h : TableLengths s) (c d : StationOrder) (ne : c.process ≢ d.process) (e : cr.Accepted s c)
    (h₁ : TableLengths (leaves s c)) (h₂ : TableLengths (leaves s d)) (x : NotLentStation (station_refusal s d)) (y : NotLentStation (station_refusal (leaves s d) c))
    (e₁ : cr.Accepted (leaves s c) d) (a : Apart (does s c) (does (leaves s c) d)) where
  pub swapped : Swapped s c d
  swapped =
      let en : d.process ≢ c.process = λ z. ne (sym z) in
      let p = number_of c in let q = number_of d in
      let t = does s c in let u = does s d in
      let k = accepted_made s h c e in
      let k₁ = accepted_made (leaves s c) h₁ d e₁ in
      let hd : d.process < s.n = subst (λ (n : ℕ). d.process < n) (n_left k) k₁.below in
      let own_d : own_of (leaves s c) q ≡ own_of s q = other_left k q en hd in
      let same_d : does (leaves s c) d ≡ u = same_does (leaves s c) s d (n_left k) (w_left k) own_d in
      let accepted_d : cr.Accepted s d = accepts_too (leaves s c) s d x (n_left k) (w_left k) (r_left k) own_d e₁ in
      let l = accepted_made s h d accepted_d in
      let own_c : own_of (leaves s d) p ≡ own_of s p = other_left l p ne k.below in
      let accepted_c : cr.Accepted (leaves s d) c = accepts_too s (leaves s d) c y (sym (n_left l)) (sym (w_left l)) (sym (r_left l)) (sym own_c) e in
      let l₁ : Made (leaves s c) d u = subst (Made (leaves s c) d) same_d k₁ in
      let l₂ : Made (leaves s d) c t = subst (Made (leaves s d) c) (same_does (leaves s d) s c (n_left l) (w_left l) own_c) (accepted_made (leaves s d) h₂ c accepted_c) in
      let apart : Apart t u = subst (Apart t) same_d a in
      let first : leaves s c ≡ (effect_on t p s).1 = ap (λ (z : Reply × StationMemory). z.1) k.made in
      let second : leaves s d ≡ (effect_on u q s).1 = ap (λ (z : Reply × StationMemory). z.1) l.made in
      let out_d : outcome_of u q (leaves s c) ≡ outcome_of u q s =
      ap (outcome_of u q) first ∙ same_outcome s k.sized p q en k.below hd t u k.present l.present k.exact k.areas apart in
      let out_c : outcome_of t p (leaves s d) ≡ outcome_of t p s =
      ap (outcome_of t p) second ∙ same_outcome s k.sized q p ne hd k.below u t l.present k.present l.exact l.areas (apart_sym t u apart) in
      let reply_c : reply_to (leaves s d) c ≡ reply_to s c = reply_made l₂ ∙ ap (λ (z : Reply × Own StationProcess). z.0) out_c ∙ sym (reply_made k) in
      let reply_d : reply_to s d ≡ reply_to (leaves s c) d = reply_made l ∙ ap (λ (z : Reply × Own StationProcess). z.0) (sym out_d) ∙ sym (reply_made l₁) in
      record {
        accepted_d = accepted_d;
        accepted_c = accepted_c;
        reply_c = reply_c;
        reply_d = reply_d;
        said_c = same_saying (leaves s d) s c reply_c (own_left l₂ ∙ ap (λ (z : Reply × Own StationProcess). z.1) out_c ∙ sym (own_left k));
        said_d = same_saying s (leaves s c) d reply_d (own_left l ∙ ap (λ (z : Reply × Own StationProcess). z.1) (sym out_d) ∙ sym (own_left l₁));
        memory =
            ap (λ (z : Reply × StationMemory). z.1) l₂.made ∙ ap (λ (z : StationMemory). (effect_on t p z).1) second
            ∙ sym (effects_swap s k.sized p q en k.below hd t u k.present l.present k.exact l.exact k.areas l.areas apart)
            ∙ sym (ap (λ (z : Reply × StationMemory). z.1) l₁.made ∙ ap (λ (z : StationMemory). (effect_on u q z).1) first);
      }

-- the tables keep their declared lengths
lengths_after : (s : StationMemory) → TableLengths s → (c : StationOrder) → TableLengths (leaves s c)
lengths_after s h c = go (eqb (station_refusal s c) 0) refl
  where
    go : (b : Bool) → eqb (station_refusal s c) 0 ≡ b → TableLengths (leaves s c)
    go true e = let z = sized_left (accepted_made s h c (eqb-true (station_refusal s c) 0 e)) in record { tables = z.tables; bank = z.bank; help = z.help }
    go false e = subst (λ (x : Reply × StationMemory). TableLengths x.1) (sym (refuses s c (eqb-false (station_refusal s c) 0 e))) h

lengths_all : (cs : List StationOrder) (s : StationMemory) → TableLengths s → TableLengths (station_after s cs)
unfolding station_after
lengths_all [] s h = h
lengths_all (c ∷ cs) s h = lengths_all cs (leaves s c) (lengths_after s h c)

one_more : (cs : List StationOrder) (s : StationMemory) (c : StationOrder) → station_after s (cs ++ c ∷ []) ≡ leaves (station_after s cs) c
unfolding station_after
one_more [] s c = refl
one_more (b ∷ cs) s c = one_more cs (leaves s b) c

-- "after a set-up and any commands, two neighbouring accepted commands of different processes .."
pub commute : Commute
commute s h n w r value cs e c d ne ec ed a =
    let start = (station_set_up s n w r value).1 in
    let here = station_after start cs in
    let long : TableLengths here = lengths_all cs start (set_up_lengths s (table_lengths s h) n w r value) in
    let own = station_never_for_its_own_doing s h n w r value in
    swapped here long c d ne ec (lengths_after here long c) (lengths_after here long d) (own cs e d)
    (subst (λ (z : StationMemory). NotLentStation (station_refusal z c)) (one_more cs start d) (own (cs ++ d ∷ []) e c)) ed a
