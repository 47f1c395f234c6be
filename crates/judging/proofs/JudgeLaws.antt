-- The conditions of a yes as the code looks for them, and the verdict.
use mathlib.Core.Path.{◌≡◌, refl, sym, ap, ap₂, ◌∙◌}
use Prim.Native.Nat.{ℕ}
use mathlib.Core.List.{List, [], ◌∷◌}
use mathlib.Core.Bool.{Bool, true, false, not, ◌&&◌, cond}
use lib.Dec.{eqb}
use Rattle.std.specs.Prelude.{Option, Some, None, Ok, Err}
use Rattle.std.specs.Option.{is_some}
use Rattle.llsc.specs.Object.{fresh}
use Rattle.llsc.specs.Rows.{every, some}
use Rattle.llsc.specs.declared.refusals.Refusal.{Refusal}
use Rattle.verdicts.specs.declared.Verdict.TheVariants.{Refused, Yes, No}
use Rattle.verdicts.specs.declared.Fault.{Fault}
use Rattle.verdicts.specs.declared.LogRefusal.{LogRefusal}
use Rattle.verdicts.specs.Log.{Entry, entries}
use Rattle.verdicts.specs.Verdicts.{each_two, kind_known, apart, differ, inside, served_alike, ll_before, earns_yes, said_of, judged}
use Rattle.verdicts.specs.Reasons.{cause_of, log_refused, two_at_fault, not_alike, in_value, numbered_in_order}
use Rattle.verdicts.proofs.ReasonLaws.{across, and_true, some_not, none, one_none, two_none, served_none, cause_told, checked_is}
use Rattle.judging.specs.declared.heads.Head.{Head}
use Rattle.judging.specs.Heads.{head, first_from, lacks_ll, first_unled}
use Rattle.judging.proofs.CallLoops.{from_0, twice}
use Rattle.judging.specs.Heads.{known as Heads·known, inside as Heads·inside, apart as Heads·apart}

and_false : (x : Bool) → (x && false) ≡ false
and_false true = refl
and_false false = refl

-- two tests of every entry, or of each two, as one
join_every : (f g : Entry → Bool) (es : List Entry) → (every f es && every g es) ≡ every (λ e. f e && g e) es
join_every f g [] = refl
join_every f g (e ∷ es) = across (f e) (g e) (every f es) (every g es) ∙ ap (λ b. (f e && g e) && b) (join_every f g es)

join_two : (f g : Entry → Entry → Bool) (es : List Entry) → (each_two f es && each_two g es) ≡ each_two (λ d e. f d e && g d e) es
join_two f g [] = refl
join_two f g (e ∷ es) = across (every (f e) es) (every (g e) es) (each_two f es) (each_two g es) ∙ ap₂ ◌&&◌ (join_every (f e) (g e) es) (join_two f g es)

-- the six conditions in the order in which the code looks
sort_out : (k a d i s l : Bool) → (k && (a && (d && (i && (s && (l && true)))))) ≡ ((k && i) && ((a && d) && (l && s)))
sort_out false a d i s l = refl
sort_out true false d i s l = sym (and_false i)
sort_out true true false i s l = sym (and_false i)
sort_out true true true false s l = refl
sort_out true true true true true l = and_true l ∙ sym (and_true l)
sort_out true true true true false l = sym (and_false l)

-- a call that is wrong by itself, two that can't stand together
abbrev pub wrong : Head → Bool
wrong e = not (Heads·known e && Heads·inside e)

abbrev pub clash : Head → Head → Bool
clash e f = not (Heads·apart e f && not (eqb e.moment f.moment))

-- none is found where each passes
pub first_none : (f : Entry → Bool) (es : List Entry) → none (first_from (λ e. not (f e)) 0 es) ≡ every f es
first_none f es = ap none (from_0 (λ e. not (f e)) es) ∙ one_none f es

every_not : (f : Entry → Bool) (es : List Entry) → every f es ≡ not (some (λ e. not (f e)) es)
every_not f es = twice _ _ refl ∙ ap not (sym (some_not f es))

module _ (value : List ℕ) (es : List Entry) where
  abbrev each_right : Bool
  each_right = every (λ e. kind_known e && inside e) es

  abbrev each_two_right : Bool
  each_two_right = each_two (λ e f. apart e f && differ e f) es

  abbrev each_led : Bool
  each_led = every (ll_before es) es

  abbrev some_wrong : Bool
  some_wrong = some (λ e. wrong (head e)) es

  abbrev some_clash : Bool
  some_clash = not each_two_right

  abbrev some_unled : Bool
  some_unled = some (λ e. lacks_ll es (head e)) es

  -- the conditions in the order in which the code looks, and for the opposite
  pub earns_is : earns_yes value es ≡ (not some_wrong && (not some_clash && (not some_unled && served_alike value es)))
  unfolding earns_yes
  earns_is =
      sort_out (every kind_known es) (each_two apart es) (each_two differ es) (every inside es) (served_alike value es) each_led
      ∙ ap₂ (λ x y. x && (y && (each_led && served_alike value es)))
      (join_every kind_known inside es ∙ every_not (λ e. kind_known e && inside e) es) (join_two apart differ es ∙ twice _ _ refl)
      ∙ ap (λ x. not some_wrong && (not some_clash && (x && served_alike value es))) (every_not (ll_before es) es)

  -- the same by what the four tests of the code answer, that nothing of the kind is there
  pub in_order : earns_yes value es ≡ (each_right && (each_two_right && (each_led && served_alike value es)))
  in_order =
      earns_is
      ∙ ap₂ (λ x y. x && (y && (not some_unled && served_alike value es))) (sym (every_not (λ e. kind_known e && inside e) es)) (sym (twice _ _ refl))
      ∙ ap (λ x. each_right && (each_two_right && (x && served_alike value es))) (sym (every_not (ll_before es) es))

  -- and by what is looked for: none is found first
  abbrev first_wrong : Option ℕ
  first_wrong = first_from (λ e. wrong (head e)) 0 es

  abbrev first_clash : Option (ℕ × ℕ)
  first_clash = two_at_fault (λ e f. clash (head e) (head f)) 0 es

  abbrev first_unlike : Option Fault
  first_unlike = not_alike (fresh value) in_value (numbered_in_order es)

  pub earns_none : earns_yes value es ≡ (none first_wrong && (none first_clash && (none (first_unled es) && none first_unlike)))
  earns_none =
      in_order
      ∙ ap₂ (λ x y. x && (y && (each_led && served_alike value es)))
      (sym (first_none (λ e. kind_known e && inside e) es)) (sym (two_none (λ e f. apart e f && differ e f) 0 es))
      ∙ ap₂ (λ x y. none first_wrong && (none first_clash && (x && y))) (sym (first_none (ll_before es) es)) (sym (served_none value es))

pub none_found : {A : Type 0} (r R : Option A) → r ≡ R → (b : Bool) → is_some r ≡ not b → {y : Bool} → none R ≡ y → b ≡ y
none_found r R e b h v = twice b b refl ∙ ap not (sym h) ∙ sym (none_not r) ∙ ap none e ∙ v
  where
    none_not : {A : Type 0} (r : Option A) → none r ≡ not (is_some r)
    none_not None = refl
    none_not (Some a) = refl

-- the verdict
module _ (n w : ℕ) (value log : List ℕ) where
  pub judged_refused : (r : LogRefusal) (c : Refusal) → c ≡ cause_of r → Err r ≡ log_refused n w value log → Refused c ≡ judged n w value log
  unfolding judged
  judged_refused r c z e = ap Refused z ∙ ap (λ c. said_of c (earns_yes value (entries w log))) (ap cause_told e ∙ checked_is n w value log)

  pub judged_as : Ok tt ≡ log_refused n w value log → (b : Bool) → b ≡ earns_yes value (entries w log) → cond b Yes No ≡ judged n w value log
  unfolding judged
  judged_as e b h = ap (λ b. cond b Yes No) h ∙ ap (λ c. said_of c (earns_yes value (entries w log))) (ap cause_told e ∙ checked_is n w value log)
