-- The words that a step that is ready moves are lent.
use Prim.Native.Nat.{ℕ, ◌+◌, ◌<◌}
use mathlib.Core.List.{List}
use native.Mathlib.Omega.{arith}
use lib.ListN.{length}
use Rattle.model.specs.declared.BufferNumber.{BufferNumber}
use Rattle.llsc.specs.declared.ProcessNumber.{ProcessNumber}
use Rattle.model.specs.declared.Process.{Process}
use Rattle.model.specs.Sizes.{buffers}
use Rattle.model.specs.Words.{buffer_in, return_in, offer_in, word_of}
use Rattle.words.specs.declared.layouts.FirstRows.{FirstRows}
use Rattle.words.specs.Layouts.{layout_from}
use Rattle.words.proofs.WordLaws.{within}
use Rattle.steps.specs.Layouts.{ReadyIn, Moves}

module _ {f : FirstRows} {n : ℕ} {q : Process} {p : ProcessNumber} {ws : List ℕ} (r : ReadyIn f n q p ws) where
  in_word : word_of q.word < f.w
  in_word = omega (arith, r.ready.word)

  buffer_lies : (b : BufferNumber) → b.0 < buffers n → buffer_in (layout_from f) f.w b (word_of q.word) < length ws
  buffer_lies b h = omega (arith, within {b = f.buffers + b.0} {c = f.buffers + buffers n} {k = word_of q.word} {w = f.w} (omega arith) in_word, r.placed.buffers_lent)

  return_lies : return_in (layout_from f) f.w p (word_of q.word) < length ws
  return_lies = omega (arith, within {b = f.returns + p.0} {c = f.returns + n} {k = word_of q.word} {w = f.w} (omega (arith, r.ready.lent.process)) in_word, r.placed.returns_lent)

  offer_lies : offer_in (layout_from f) f.w p (word_of q.word) < length ws
  offer_lies = omega (arith, within {b = f.offers + p.0} {c = f.offers + n} {k = word_of q.word} {w = f.w} (omega (arith, r.ready.lent.process)) in_word, r.placed.offers_lent)

  move : (source target : ℕ) → source < length ws → target < length ws → Moves f.w q source target ws
  move source target a b = record { word = r.ready.word; count = r.ready.count; source_lent = a; target_lent = b }

  -- lines 3, 6 and 7's copy; line 11; line 17
  pub reads : (b : BufferNumber) → b.0 < buffers n → Moves f.w q (buffer_in (layout_from f) f.w b (word_of q.word)) (return_in (layout_from f) f.w p (word_of q.word)) ws
  reads b h = move _ _ (buffer_lies b h) return_lies

  pub writes_back : Moves f.w q (return_in (layout_from f) f.w p (word_of q.word)) (buffer_in (layout_from f) f.w q.mybuf (word_of q.word)) ws
  writes_back = move _ _ return_lies (buffer_lies q.mybuf r.ready.mybuf)

  pub writes_offer : Moves f.w q (offer_in (layout_from f) f.w p (word_of q.word)) (buffer_in (layout_from f) f.w q.mybuf (word_of q.word)) ws
  writes_offer = move _ _ offer_lies (buffer_lies q.mybuf r.ready.mybuf)
