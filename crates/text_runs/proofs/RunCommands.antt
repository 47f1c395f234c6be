-- Every text run after its set-up is a list of accepted commands, at most 60,000, and its listing has their answers.
use mathlib.Core.Path.{◌≡◌, refl, sym, ap, subst, ◌∙◌}
use mathlib.Core.Bool.{Bool, false, cond}
use mathlib.Core.List.{List, [], ◌∷◌, ◌++◌, append_assoc, append-nil}
use Prim.Native.Nat.{ℕ, ◌+◌, ◌≤◌, ◌<◌}
use native.Mathlib.Omega.{arith}
use lib.ListN.{length, length-append}
use Rattle.llsc.specs.History.{Command, after_all}
use Rattle.listing.specs.Writing.{Wrote}
use Rattle.listing.proofs.WritingLaws.{then, none, same}
use Rattle.notation.specs.declared.Entry.{Entry}
use Rattle.text_runs.specs.Machines.{Machine}
use Rattle.text_runs.specs.TextRun.{most_entries, process_of, order_of, value_of}
use Rattle.text_runs.specs.TextRun.{Progress, stopped, trace_line, lines_of, counted, carry_all, begun, ended}
use Rattle.text_runs.specs.RunCommands.{obeying, next, Accepted, answer_lines, Carries}
use Rattle.text_runs.specs.TrueTraces.{outcome, Told, begins, writes, stops}
use Rattle.text_runs.proofs.SingleEntries.{made_commanded}
use Rattle.text_runs.proofs.ToldLaws.{Walk, walked}

-- an accepted entry, with fewer than 60,000 done
pub record Done (M : Machine) (e : Entry) (t : Progress M) : Type 0 where
  pub accepted : M.number_of (outcome M e t).0 ≡ 0
  pub few : t.entries < most_entries

module _ (M : Machine) where
  abbrev Any : Progress M → Type 0
  Any t = Unit {0}

  done : Walk M Any (Done M)
  done = record { stopping = λ k t h. tt; keeping = λ e t h z. tt; telling = λ e t h few z. record { accepted = z; few = few } }

  -- one command more
  pub after_one : (m : M.Memory) (cs : List Command) (c : Command) → after_all (next M) m (cs ++ c ∷ []) ≡ next M (after_all (next M) m cs) c
  after_one m [] c = refl
  after_one m (d ∷ cs) c = after_one (next M m d) cs c

  accepted_one : (m : M.Memory) (cs : List Command) (c : Command) → Accepted M m cs → M.number_of (obeying M (after_all (next M) m cs) c).0 ≡ 0
      → Accepted M m (cs ++ c ∷ [])
  accepted_one m [] c h z = (z, tt)
  accepted_one m (d ∷ cs) c h z = (h.0, accepted_one (next M m d) cs c h.1 z)

  abbrev line_at : M.Memory → Command → List ℕ
  line_at m c = M.line_of (next M m c) c.process (obeying M m c).0

  lines_one : (m : M.Memory) (cs : List Command) (c : Command) → answer_lines M m (cs ++ c ∷ []) ≡ answer_lines M m cs ++ line_at (after_all (next M) m cs) c
  lines_one m [] c = append-nil (line_at m c)
  lines_one m (d ∷ cs) c = ap (λ (x : List ℕ). line_at m d ++ x) (lines_one (next M m d) cs c) ∙ sym (append_assoc (line_at m d) (answer_lines M (next M m d) cs) _)

  module _ (traced : Bool) (m : M.Memory) (listing : List ℕ) where
    -- what a run in progress has carried out
    pub record So (t : Progress M) : Type 0 where
      pub commands : List Command
      pub accepted : Accepted M m commands
      pub count : length commands ≡ t.entries
      pub most : t.entries ≤ most_entries
      pub memory : t.memory ≡ after_all (next M) m commands
      pub style : t.traced ≡ traced
      pub lines : traced ≡ false → Wrote listing 0 (answer_lines M m commands) t.listing t.written

    -- one entry more
    module _ (e : Entry) (t : Progress M) (d : Done M e t) (s : So t) where
      abbrev c : Command
      c = record { process = process_of e; order = order_of e; value = value_of (M.width t.memory) e }

      abbrev last : M.Memory
      last = after_all (next M) m s.commands

      abbrev made : Progress M
      made = counted M t (outcome M e t).1 (lines_of M t e (outcome M e t))

      adds : traced ≡ false → Wrote t.listing t.written (line_at last c) made.listing made.written
      adds f =
          let answer : List ℕ = M.line_of (outcome M e t).1 (process_of e) (outcome M e t).0 in
          let only : lines_of M t e (outcome M e t) ≡ answer =
          ap (λ (x : Bool). cond x (trace_line M (t.entries + 1) t.memory e (outcome M e t).0) [] ++ answer) (s.style ∙ f) in
          let there : line_at last c ≡ lines_of M t e (outcome M e t) = sym (only ∙ ap (λ (x : M.Memory). line_at x c) s.memory) in
          same there (record { place = refl; list = refl })

      pub one_more : So made
      one_more = record {
        commands = s.commands ++ c ∷ [];
        accepted = accepted_one m s.commands c s.accepted (subst (λ (x : M.Memory). M.number_of (obeying M x c).0 ≡ 0) s.memory d.accepted);
        count = omega (arith, length-append s.commands (c ∷ []), s.count);
        most = omega (arith, d.few);
        memory = ap (λ (x : M.Memory). next M x c) s.memory ∙ sym (after_one m s.commands c);
        style = s.style;
        lines = λ f. same (lines_one m s.commands c) (then (s.lines f) (adds f));
      }

      pub one_behind : one_more.commands ≡ s.commands ++ c ∷ []
      unfolding one_more
      one_behind = refl

    -- before the first entry
    abbrev pub none_yet : So (begun M traced m listing 0)
    none_yet = record { commands = []; accepted = tt; count = refl; most = omega arith; memory = refl; style = refl; lines = λ f. none listing 0 }

    abbrev pub halted : (k : ℕ) (t : Progress M) → So t → So (stopped M k t)
    halted k t s = record { commands = s.commands; accepted = s.accepted; count = s.count; most = s.most; memory = s.memory; style = s.style; lines = s.lines }

    ran : {t : Progress M} → Told M (Done M) (begun M traced m listing 0) t → So t
    ran begins = none_yet
    ran (writes {t} x e d) = subst So (sym (made_commanded M e t d.accepted)) (one_more e t d (ran x))
    ran (stops {t} x k) = halted k t (ran x)

    abbrev pub carried : (t : Progress M) → So t → Carries M traced m listing (ended M t)
    carried t s = record {
      commands = s.commands;
      accepted = s.accepted;
      count = s.count;
      most = omega (arith, s.count, s.most);
      memory = s.memory;
      lines = λ f. (then (s.lines f) (record { place = refl; list = refl })).list;
    }

    -- the entries of any text, after its set-up
    module _ (es : List Entry) where
      abbrev run : Progress M
      run = carry_all M es (begun M traced m listing 0)

      pub carries : Carries M traced m listing (ended M run)
      carries = carried run (ran (walked M done (begun M traced m listing 0) es tt))
