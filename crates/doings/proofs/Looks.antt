-- What an act that only looks leaves: the values, and every link but its own. So another process sees the same after
-- it, and two looks change places.
use mathlib.Core.Path.{◌≡◌, refl, sym, ap, ◌∙◌}
use mathlib.Core.Logic.{◌≢◌, inl, inr}
use mathlib.Core.Bool.{Bool, true, false, cond}
use Prim.Native.Nat.{ℕ, ◌+◌, ◌^◌}
use native.Mathlib.Omega.{arith}
use Rattle.llsc.specs.declared.ProcessNumber.{ProcessNumber}
use Rattle.model.specs.Places.{linked, link}
use Rattle.model.proofs.LinkLaws.{link_other}
use Rattle.laws.proofs.Updates.{contra}
use Rattle.doings.specs.Items.{Holding}
use Rattle.doings.specs.Doings.{Act, read, ll, vl, sc, write, looks, acted, seen, Touching, nothing, one, Apart}

-- "LL (its own link apart)": whether the own link is set
abbrev is_ll : Act → Bool
is_ll read = false
is_ll ll = true
is_ll vl = false
is_ll (sc v u) = false
is_ll (write v u) = false

abbrev marked : Bool → ProcessNumber → Holding → Holding
marked t p h = record { first = h.first; second = h.second; links = cond t (link h.links p) h.links }

pub look_leaves : (a : Act) (p : ProcessNumber) (h : Holding) → looks a ≡ true → acted a p h ≡ marked (is_ll a) p h
look_leaves read p h e = refl
look_leaves ll p h e = refl
look_leaves vl p h e = refl
look_leaves (sc v u) p h e = absurd (contra e refl)
look_leaves (write v u) p h e = absurd (contra e refl)

-- p and q are two processes
module _ (p q : ProcessNumber) (ne : q.0 ≢ p.0) where
  link_swap : (k : ℕ) → link (link k p) q ≡ link (link k q) p
  link_swap k =
      ap (λ t. cond t (link k p) (link k p + 2 ^ q.0)) (link_other k p q ne) ∙ go (linked k p) (linked k q)
      ∙ sym (ap (λ t. cond t (link k q) (link k q + 2 ^ p.0)) (link_other k q p (λ e. ne (sym e))))
    where
      go : (s t : Bool)
          → cond t (cond s k (k + 2 ^ p.0)) (cond s k (k + 2 ^ p.0) + 2 ^ q.0) ≡ cond s (cond t k (k + 2 ^ q.0)) (cond t k (k + 2 ^ q.0) + 2 ^ p.0)
      go true true = refl
      go true false = refl
      go false true = refl
      go false false = omega arith

  links_swap : (s t : Bool) (k : ℕ) → cond t (link (cond s (link k p) k) q) (cond s (link k p) k) ≡ cond s (link (cond t (link k q) k) p) (cond t (link k q) k)
  links_swap true true k = link_swap k
  links_swap true false k = refl
  links_swap false true k = refl
  links_swap false false k = refl

  unlinked : (s : Bool) (k : ℕ) → linked (cond s (link k p) k) q ≡ linked k q
  unlinked true k = link_other k p q ne
  unlinked false k = refl

  -- q sees the same after p's look
  pub look_unseen : (a : Act) (h : Holding) → looks a ≡ true → seen q (acted a p h) ≡ seen q h
  look_unseen a h e =
      ap (seen q) (look_leaves a p h e)
      ∙ ap (λ (t : Bool). record { first = h.first; second = h.second; linked = t }) (unlinked (is_ll a) h.links)

  -- two looks change places
  pub looks_swap : (a b : Act) (h : Holding) → looks a ≡ true → looks b ≡ true → acted b q (acted a p h) ≡ acted a p (acted b q h)
  looks_swap a b h la lb =
      ap (acted b q) (look_leaves a p h la) ∙ look_leaves b q (marked (is_ll a) p h) lb
      ∙ ap (λ (k : ℕ). record { first = h.first; second = h.second; links = k }) (links_swap (is_ll a) (is_ll b) h.links)
      ∙ sym (ap (acted a p) (look_leaves b q h lb) ∙ look_leaves a p (marked (is_ll b) q h) la)

-- which of two comes first is no matter
pub apart_sym : {I P : Type 0} (t u : Touching I P) → Apart t u → Apart u t
apart_sym (nothing o) (nothing out) a = a
apart_sym (nothing o) (one e) a = a
apart_sym (one d) (nothing out) a = a
apart_sym (one d) (one e) (inl n) = inl (λ x. n (sym x))
apart_sym (one d) (one e) (inr y) = inr (y.1, y.0)
