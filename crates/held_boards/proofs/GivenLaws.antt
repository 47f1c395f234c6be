-- A record's command on a held list: where W is over 64 a row before row 8 refuses, so 64 words of a value are enough.
use mathlib.Core.Path.{◌≡◌, refl, sym, ap, ap₂, subst, ◌∙◌}
use mathlib.Core.List.{List}
use mathlib.Core.Bool.{Bool, true, false, not, ◌&&◌, cond}
use Prim.Native.Nat.{ℕ, ◌<◌, ◌≤◌}
use native.Mathlib.Omega.{arith}
use lib.Dec.{ltb}
use lib.ListN.{take, replicate}
use borrow.Author.Tests.{ltb-true, le-leb, lt-leb}
use Rattle.llsc.specs.declared.Order.{Order}
use Rattle.llsc.specs.Rows.{row1, row2}
use Rattle.model.specs.declared.Reply.{Reply}
use Rattle.model.specs.declared.Reply.TheVariants.{Refused}
use Rattle.boards.specs.Files.{BoardRecord}
use Rattle.text_entry.proofs.WordLaws.{take_replicate}
use Rattle.station.specs.Station.{StationMemory}
use Rattle.station.specs.StationRefusals.{StationOrder}
use Rattle.station.specs.StationCommand.{station_refusal, station_command}
use Rattle.station_facts.proofs.Accepts.{refuses}
use Rattle.board_commands.specs.BoardRun.{order_of, command_of}
use Rattle.board_commands.specs.ByValue.{at_most64}
use Rattle.board_commands.proofs.CommandLaws.{first_two, some_row_lem, row_2_holds, at_most}
use Rattle.held_model.specs.declared.Told.{Told}
use Rattle.held_model.specs.Memory.{number_at, memory_of}
use Rattle.held_model.specs.Told.{told}
use Rattle.held_model.specs.HeldCommand.{Commanded}

module _ (s : StationMemory) (h : 64 < s.w) where
  wide_number : (c : StationOrder) → first_two (row1 s.n).holds ≡ station_refusal s c
  unfolding station_refusal
  wide_number c =
      row_2_holds (row1 s.n).holds (row2 s.w).holds _ (ap₂ (λ (a b : Bool). not (a && b)) (le-leb 1 s.w (omega (arith, h))) (lt-leb s.w 64 h))

  wide : (c : StationOrder) → station_command s c ≡ (Refused (first_two (row1 s.n).holds), s)
  wide c =
      refuses s c (λ z. some_row_lem (row1 s.n).holds (wide_number c ∙ z)) ∙ ap (λ (k : ℕ). (Refused k, s)) (sym (wide_number c))

abbrev bringing : ℕ → Order → List ℕ → StationOrder
bringing p o v = record { process = p; order = o; called = 0; value = v }

module _ (l : List ℕ) (p : ℕ) (o : Order) (t : Told) (l' : List ℕ) where
  abbrev Done : List ℕ → Type 0
  Done v = Commanded l (bringing p o v) t l'

  any_value : 64 < number_at l 1 → (v u : List ℕ) → Done v → Done u
  any_value h v u d =
      let s : StationMemory = memory_of l in
      let r : station_refusal s (bringing p o v) ≡ station_refusal s (bringing p o u) = sym (wide_number s h (bringing p o v)) ∙ wide_number s h (bringing p o u) in
      let e : station_command s (bringing p o v) ≡ station_command s (bringing p o u) = wide s h (bringing p o v) ∙ sym (wide s h (bringing p o u)) in
      record {
        answer = d.answer ∙ ap (λ (x : Reply × StationMemory). told s.n s.w s.r p x.0) e;
        memory = d.memory ∙ ap (λ (x : Reply × StationMemory). x.1) e;
        marks = λ z. d.marks (r ∙ z);
        refused = λ n. d.refused (λ z. n (sym r ∙ z));
      }

  enough : (k : ℕ) → Done (replicate (at_most64 (number_at l 1)) k) → Done (replicate (number_at l 1) k)
  enough k d = go (ltb 64 (number_at l 1)) refl d
    where
      go : (b : Bool) → ltb 64 (number_at l 1) ≡ b → Done (replicate (cond b 64 (number_at l 1)) k) → Done (replicate (number_at l 1) k)
      go true e x = any_value (ltb-true 64 (number_at l 1) e) (replicate 64 k) (replicate (number_at l 1) k) x
      go false e x = x

-- what the code gives is the record's command
pub given : (l : List ℕ) (r : BoardRecord) {k w : ℕ} {o : Order} {v : List ℕ} {t : Told} {l' : List ℕ} → k ≡ r.value → w ≡ at_most64 (number_at l 1) → o ≡ order_of r.order
    → v ≡ take w (replicate 64 k) → Commanded l (record { process = r.process; order = o; called = 0; value = v }) t l' → Commanded l (command_of (number_at l 1) r) t l'
given l r {k = k} {w = w} {o = o} {v = v} {t = t} {l' = l'} ek ew eo ev d =
    let few : w ≤ 64 = omega (arith, ew, at_most (number_at l 1)) in
    let is : v ≡ replicate (at_most64 (number_at l 1)) r.value = ev ∙ take_replicate w 64 k few ∙ ap₂ (λ (i j : ℕ). replicate i j) ew ek in
    enough l r.process (order_of r.order) t l' r.value
    (subst (λ (x : Order). Done l r.process x t l' (replicate (at_most64 (number_at l 1)) r.value)) eo
    (subst (λ (y : List ℕ). Done l r.process o t l' y) is d))
