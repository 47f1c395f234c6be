-- An entry that is one command, of a run that goes on: accepted, it has left what its command left, with one entry more.
use mathlib.Core.Path.{◌≡◌, refl, sym, ap, ◌∙◌}
use mathlib.Core.Bool.{Bool, true, false, cond}
use Prim.Native.Nat.{ℕ, zero, suc, ◌+◌, ◌-◌, ◌<◌, ◌≤◌}
use native.Mathlib.Omega.{arith}
use lib.Dec.{eqb, ltb, leb}
use lib.ListN.{length}
use borrow.Author.Tests.{eq-eqb, ne_eqb, leb-false}
use Rattle.notation.specs.declared.Entry.{Entry}
use Rattle.text_runs.specs.Machines.{Machine}
use Rattle.text_runs.specs.TextRun.{most_entries, room_needed}
use Rattle.text_runs.specs.TextRun.{Progress, stopped, lines_of, counted, commanded, single}
use Rattle.text_runs.specs.TrueTraces.{outcome}

module _ (M : Machine) where
  -- accepted, with room for one entry more
  pub record Made (e : Entry) (s : Progress M) : Type 0 where
    pub accepted : M.number_of (outcome M e s).0 ≡ 0
    pub fewer : s.entries < most_entries
    pub is : single M e s ≡ counted M s (outcome M e s).1 (lines_of M s e (outcome M e s))

  pub made_commanded : (e : Entry) (s : Progress M) → M.number_of (outcome M e s).0 ≡ 0 → commanded M e s ≡ counted M s (outcome M e s).1 (lines_of M s e (outcome M e s))
  made_commanded e s z = simp (eq-eqb (M.number_of (outcome M e s).0) 0 z)

  -- a command whose run goes on was accepted
  command_accepted : (e : Entry) (s : Progress M) → (commanded M e s).stop ≡ 0 → M.number_of (outcome M e s).0 ≡ 0
  command_accepted e s g = by (M.number_of (outcome M e s).0) refl
    where
      by : (k : ℕ) → M.number_of (outcome M e s).0 ≡ k → k ≡ 0
      by zero z = refl
      by (suc k) z =
          let halted : commanded M e s ≡ stopped M (M.number_of (outcome M e s).0) s = simp (ne_eqb (M.number_of (outcome M e s).0) 0 (λ y. omega (arith, y, z))) in
          let stop : M.number_of (outcome M e s).0 ≡ 0 = sym (ap (λ (t : Progress M). t.stop) halted) ∙ g in
          omega (arith, stop, z)

  -- a run that goes on after it went on before it
  pub single_stays : (e : Entry) (s : Progress M) → (single M e s).stop ≡ 0 → s.stop ≡ 0
  unfolding single
  single_stays e s g = by s.stop refl g
    where
      by : (k : ℕ) → s.stop ≡ k → (single M e s).stop ≡ 0 → k ≡ 0
      by zero z g = refl
      by (suc k) z g = let same : s.stop ≡ 0 = simp (ne_eqb s.stop 0 (λ y. omega (arith, y, z))) at g in omega (arith, same, z)

  -- it makes one entry or none
  pub single_entries : (e : Entry) (s : Progress M) → (single M e s).entries ≤ s.entries + 1
  unfolding single
  single_entries e s = by (eqb s.stop 0) (leb most_entries s.entries) (ltb (length s.listing - s.written) (room_needed s.traced)) (eqb (M.number_of (outcome M e s).0) 0)
    where
      by : (a b c d : Bool)
          → (cond a (cond b (stopped M 12 s) (cond c (stopped M 14 s) (cond d (counted M s (outcome M e s).1 (lines_of M s e (outcome M e s))) (stopped M (M.number_of (outcome M e s).0) s)))) s).entries
          ≤ s.entries + 1
      by false b c d = omega arith
      by true true c d = omega arith
      by true false true d = omega arith
      by true false false true = omega arith
      by true false false false = omega arith

  module _ (e : Entry) (s : Progress M) (z : s.stop ≡ 0) where
    abbrev full : Bool
    full = leb most_entries s.entries

    abbrev short : Bool
    short = ltb (length s.listing - s.written) (room_needed s.traced)

    runs : single M e s ≡ cond full (stopped M 12 s) (cond short (stopped M 14 s) (commanded M e s))
    unfolding single
    runs = simp (eq-eqb s.stop 0 z)

    pub single_made : (single M e s).stop ≡ 0 → Made e s
    single_made g = by full refl short refl (sym (ap (λ (t : Progress M). t.stop) runs) ∙ g)
      where
        by : (a : Bool) → full ≡ a → (b : Bool) → short ≡ b → (cond a (stopped M 12 s) (cond b (stopped M 14 s) (commanded M e s))).stop ≡ 0 → Made e s
        by true ea b eb h = absurd (let w : ⊥ = omega (arith, h) in w)
        by false ea true eb h = absurd (let w : ⊥ = omega (arith, h) in w)
        by false ea false eb h =
            let ok = command_accepted e s h in
            let same : single M e s ≡ commanded M e s = runs ∙ simp (ea, eb) in
            record { accepted = ok; fewer = leb-false most_entries s.entries ea; is = same ∙ made_commanded e s ok }
