-- What no row refuses can be read, obeyed and written back, and that is the order obeyed on the memory.
use mathlib.Core.Path.{◌≡◌, sym, ap, ◌∙◌}
use mathlib.Core.List.{List}
use Prim.Native.Nat.{ℕ, ◌<◌}
use native.Mathlib.Omega.{arith}
use lib.ListN.{get_or, drop, length-drop}
use lib.Seq.{get_or-take}
use Rattle.llsc.specs.declared.Order.{Order}
use Rattle.llsc.specs.declared.ProcessNumber.{ProcessNumber}
use Rattle.held_model.specs.Memory.{number_at}
use Rattle.held_model.proofs.MemoryLaws.{Same}
use Rattle.moir_model.specs.declared.Bench.{Bench}
use Rattle.moir_model.specs.declared.Process.{Process}
use Rattle.moir_model.specs.declared.Reply.{Reply}
use Rattle.moir_model.specs.declared.Moved.{Moved}
use Rattle.moir_model.specs.Machine.{Memory, obey}
use Rattle.moir_model.specs.Command.{put_back, obeyed}
use Rattle.moir_steps.specs.Ranges.{Obeyable}
use Rattle.moir_machine.proofs.RowLaws.{InRange}
use Rattle.moir_held_model.specs.Layout.{header_place, words_place}
use Rattle.moir_held_model.specs.Memory.{header_from, process_from, tag_from, memory_of}
use Rattle.moir_held_model.specs.HeldCommand.{MarksAfter}
use Rattle.moir_held_model.proofs.MemoryLaws.{record_there, tag_there}
use Rattle.moir_held_rows.specs.Reads.{HeaderFits, ProcessFits}
use Rattle.moir_held_rows.specs.ListRows.{Admits}
use Rattle.moir_held_rows.proofs.ListLaws.{whole_ranges}
use Rattle.moir_held_rows.proofs.RangeFits.{tag_fits, header_fits, process_fits}
use Rattle.moir_held_machine.specs.Writes.{with_tag, near_bench, put_near, near_from, written, OnWords}
use Rattle.moir_held_machine.proofs.NearBench.{near_obey}
use Rattle.moir_held_machine.proofs.MemoryAfter.{memory_after, marks_after}

module _ (l : List ℕ) (p : ℕ) (o : Order) (v : List ℕ) (a : Admits l p o v) where
  abbrev n : ℕ
  n = number_at l 0

  abbrev w : ℕ
  w = number_at l 1

  abbrev q : Process
  q = process_from l p

  abbrev k : ℕ
  k = q.word

  abbrev me : ProcessNumber
  me = record { 0 = p }

  abbrev ws : List ℕ
  ws = drop words_place l

  ranges : InRange n w q
  ranges = whole_ranges n w q a.list.w_high a.process

  pub p_in : p < 16
  p_in = omega (arith, a.below, a.list.n_high)

  pub k_in : k < 64
  k_in = omega (arith, ranges.word, a.list.w_high)

  pub own_fits : ProcessFits q
  own_fits = process_fits n a.list.n_high w q a.process

  pub head_fits : HeaderFits (header_from l header_place)
  head_fits = header_fits n a.list.n_high (header_from l header_place) a.header

  pub seen_fits : tag_from l k < 65536
  seen_fits = tag_fits (tag_from l k) a.tag

  pub obeyable : Obeyable o me v (near_from l k) q ws
  obeyable = record {
    ready = record {
      standing = record {
        n_most = a.list.n_high;
        w_most = a.list.w_high;
        words = omega (arith, a.list.words, length-drop words_place l);
        word = ranges.word;
        count = ranges.count;
      };
      process = a.below;
      x_pid_is = ranges.x_pid_is;
      new_pid_is = ranges.new_pid_is;
    };
    value = a.value_words;
  }

  module _ {m : List ℕ} {s : Moved} (on : OnWords l m words_place o me v (near_from l k) q s) where
    abbrev b : Bench
    b = (memory_of l).bench

    stay : Same l m 0 words_place
    stay i x y =
        sym (get_or-take words_place m i 0 y) ∙ ap (λ (z : List ℕ). get_or z i 0) on.numbers_stay ∙ get_or-take words_place l i 0 y

    near_is : near_from l k ≡ near_bench b k
    near_is = ap (with_tag n w (header_from l header_place) k) (sym (tag_there l k k_in))

    abbrev back : Moved × List ℕ → Reply × Memory
    back out = put_back (memory_of l) me (put_near b k out.0, out.1)

    pub obey_law : (s.reply, memory_of (written m p k s)) ≡ obeyed (memory_of l) me o v
    obey_law =
        ap (λ (z : Memory). (s.reply, z)) (memory_after l m p k s k_in p_in (omega (arith, on.length_stays, a.list.long)) stay)
        ∙ ap back (on.done ∙ ap (λ (z : Bench). obey o me v z q ws) near_is)
        ∙ ap (put_back (memory_of l) me) (sym (near_obey me b q ws k_in o v))
        ∙ ap (λ (z : Process). put_back (memory_of l) me (obey o me v b z ws)) (sym (record_there l p p_in))

    pub obey_marks : MarksAfter l (written m p k s) p
    obey_marks = marks_after l m p k s k_in p_in (omega (arith, on.length_stays, a.list.long)) stay
