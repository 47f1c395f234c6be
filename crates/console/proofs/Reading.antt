-- A room read into from d on: what it holds then, and what its reader lost.
use Rattle.std.proofs.Common.{◌≡◌, ℕ, ◌+◌, ◌≤◌, List, length, take, ◌++◌, arith, length-append, ap, sym, ◌∙◌, append_assoc}
use Rattle.std.proofs.Math.ListN.{length-take}
use Rattle.std.proofs.Math.Seq.{take-append-add}
use Rattle.std.proofs.lemmas.List.{take-append-le}
use Rattle.std.specs.Prelude.{Option, None, Some}
use Rattle.std.specs.Io.KnownBytes.{Consumes}
use borrow.Rule.Slice.PartMut.{put_mid, post_of}

module _ (room buf : List ℕ) (d k n : ℕ) (h : d ≤ length room) (h' : n ≤ length buf) where
  pub within : d + n ≤ length (put_mid d k room buf)
  within = simp (length-append, length-take) (omega arith)

  pub front : take (d + n) (put_mid d k room buf) ≡ take d room ++ take n buf
  front =
      let all : length (take d room) ≡ d = simp length-take (omega arith) in
      ap (λ m. take (m + n) (put_mid d k room buf)) (sym all)
      ∙ take-append-add (take d room) (buf ++ post_of d k room) n
      ∙ ap (λ xs. take d room ++ xs) (take-append-le n buf (post_of d k room) h')

-- one loss after another
pub lost_on : (a b c : Option (List ℕ)) (xs ys : List ℕ) → Consumes a b xs → Consumes b c ys → Consumes a c (xs ++ ys)
lost_on None b c xs ys h h' = tt
lost_on (Some u) None c xs ys h h' = elim h [ ]
lost_on (Some u) (Some v) None xs ys h h' = elim h' [ ]
lost_on (Some u) (Some v) (Some w) xs ys h h' = h ∙ ap (λ l. xs ++ l) h' ∙ sym (append_assoc xs ys w)

pub ruleset reading = (within, front, lost_on)
