-- After an accepted set-up and any commands every tag that N and W need has sixteen bits.
use mathlib.Core.Path.{◌≡◌, refl, sym, ap, ap₂, subst, ◌∙◌}
use mathlib.Core.List.{List, [], ◌∷◌}
use mathlib.Core.Bool.{Bool, true, ◌&&◌, cond}
use Prim.Native.Nat.{ℕ, zero, suc, ◌≤◌, ◌<◌}
use native.Mathlib.Omega.{arith}
use lib.Dec.{eqb}
use lib.ListN.{length, get_or, take}
use lib.Seq.{get_or-take}
use borrow.Author.Tests.{eq-eqb, lt-ltb}
use Rattle.llsc.specs.History.{Command}
use Rattle.llsc.specs.Rows.{every}
use Rattle.laws.proofs.ListFacts.{every_true}
use Rattle.moir_model.specs.declared.Process.{Process}
use Rattle.moir_model.specs.Records.{no_process}
use Rattle.moir_model.specs.Machine.{Memory}
use Rattle.moir_model.specs.History.{next}
use Rattle.moir_model.specs.SetUp.{set_up, set_up_refusal, at_set_up}
use Rattle.moir_linearization.specs.After.{after}
use Rattle.moir_linearization.proofs.SetUpSimulation.{set_up_admits}
use Rattle.moir_text_model.proofs.NumbersLeft.{MemoryFits, ProcessFits, at_set_up_fits, command_fits}
use Rattle.moir_held_model.specs.Ranges.{tag_ok, process_tags_ok, tags_ok}

-- nothing is asked of the words
abbrev Any : ℕ → Type 0
Any k = Unit {0}

after_fits : (m : Memory) (cs : List Command) → MemoryFits Any m → MemoryFits Any (after m cs)
unfolding after
after_fits m [] s = s
after_fits m (c ∷ cs) s = after_fits (next m c) cs (command_fits Any tt m c.process c.order c.value s (λ i. tt))

set_up_fits : (m : Memory) (n w : ℕ) (value : List ℕ) → (set_up m n w value).0 ≡ 0 → MemoryFits Any (set_up m n w value).1
unfolding set_up
set_up_fits m n w value e =
    subst (λ (b : Bool). MemoryFits Any (cond b (at_set_up m n w value) m)) (sym (eq-eqb (set_up_refusal m n w value) 0 e))
    (at_set_up_fits Any tt m n w value (λ i. tt) (set_up_admits m n w value e).value_length)

shorter : {A : Type 0} (k : ℕ) (l : List A) → length (take k l) ≤ k
shorter zero l = omega arith
shorter (suc k) [] = omega arith
shorter (suc k) (a ∷ l) = omega (arith, shorter k l)

-- the first k elements of a list, where each of them passes
each_passes : {A : Type 0} (f : A → Bool) (d : A) (l : List A) (k : ℕ) → ((i : ℕ) → i < k → f (get_or l i d) ≡ true) → every f (take k l) ≡ true
each_passes f d l k h =
    every_true f d (take k l) (λ j hj.
    let z : j < k = omega (arith, hj, shorter k l) in
    ap f (get_or-take k l j d z) ∙ h j z)

process_passes : (q : Process) → ProcessFits Any q → process_tags_ok q ≡ true
process_passes q h =
    ap₂ ◌&&◌ (lt-ltb _ _ h.keep) (ap₂ ◌&&◌ (lt-ltb _ _ h.x) (ap₂ ◌&&◌ (lt-ltb _ _ h.oldhdr) (ap₂ ◌&&◌ (lt-ltb _ _ h.newhdr)
    (ap₂ ◌&&◌ (lt-ltb _ _ h.h) (ap₂ ◌&&◌ (lt-ltb _ _ h.y.tag) (lt-ltb _ _ h.z.tag))))))

passes : (m : Memory) → MemoryFits Any m → tags_ok m ≡ true
passes m h =
    ap₂ ◌&&◌ (lt-ltb _ _ h.items.header)
    (ap₂ ◌&&◌ (each_passes tag_ok 0 m.bench.tags m.bench.w (λ i k. lt-ltb _ _ (h.items.tags i k)))
    (each_passes process_tags_ok no_process m.records m.bench.n (λ i k. process_passes (get_or m.records i no_process) (h.records i k))))

pub tags_fit : (m : Memory) (n w : ℕ) (value : List ℕ) (cs : List Command) → (set_up m n w value).0 ≡ 0
    → tags_ok (after (set_up m n w value).1 cs) ≡ true
tags_fit m n w value cs e = passes (after (set_up m n w value).1 cs) (after_fits (set_up m n w value).1 cs (set_up_fits m n w value e))
