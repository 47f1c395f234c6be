-- A step of model follows a step of the ghost machine: a clause for each point.
use mathlib.Core.Path.{◌≡◌, refl, sym, ap, ap₂, ◌∙◌}
use mathlib.Core.Bool.{Bool, true, false, not, cond}
use mathlib.Core.List.{List}
use Prim.Native.Nat.{ℕ, suc, ◌+◌, ◌*◌, ◌%◌, ◌<◌}
use native.Mathlib.Nat.{mod-lt}
use native.Mathlib.Numerals.{add-one}
use native.Mathlib.Omega.{arith}
use lib.Dec.{ltb, eqb}
use lib.ListN.{length, get_or, set, length-set}
use Rattle.llsc.specs.declared.ProcessNumber.{ProcessNumber}
use Rattle.model.specs.declared.BufferNumber.{BufferNumber}
use Rattle.model.specs.declared.XContent.{XContent}
use Rattle.model.specs.declared.Bench.{Bench}
use Rattle.model.specs.declared.Process.{Process}
use Rattle.model.specs.declared.Reply.{Reply}
use Rattle.llsc.specs.declared.Order.{Order}
use Rattle.llsc.specs.declared.Order.TheVariants.{StartLl, StartSc, StartVl, Step}
use Rattle.model.specs.declared.Reply.TheVariants.{Accepted, LlAnswered, ScAnswered, VlAnswered}
use Rattle.model.specs.declared.Moved.{Moved}
use Rattle.model.specs.Places.{XPlace, BankPlace, HelpPlace, linked, link, no_links, write_place, ll_place}
use Rattle.model.specs.Sizes.{halves}
use Rattle.model.specs.Words.{one_record, word_of, half, with_half}
use Rattle.model.specs.Tables.{no_bank, no_help}
use Rattle.model.specs.Records
use Rattle.model.specs.Machine
use Rattle.llsc.specs.Rows.{brings_value, is_start}
use Rattle.model.specs.Lines.{do_line2, do_word}
use Rattle.model.specs.Points.{Point, idle, line1, line2, line3, line4, line5, line6, line7, line7copy}
use Rattle.model.specs.Points.{line8, line9, line10, line11, line12, line12valid, line13, line14, line14valid, line15}
use Rattle.model.specs.Points.{line17, line18, line19, line23}
use Rattle.laws.proofs.Updates.{upd, upd_same, upd_other, Split, same, other, split, by_test, contra}
use Rattle.linearization.proofs.GhostMachine
use Rattle.linearization.proofs.GhostMachine.{Local, Shared, State, quiet, noisy}
use Rattle.linearization.proofs.WordLists.{cells}
use Rattle.linearization.proofs.Ranges.{ProcessRanges}
use Rattle.linearization.proofs.Relation.{record_of, LinksLike, XLike, BankLike, HelpLike, WordsLike, PlacesLike, links_set}
use Rattle.linearization.proofs.Relation.{links_none, x_same, bank_same, help_same, put_place, words_same}
use Rattle.linearization.proofs.Relation.{words_return, words_buffer, words_offer}

-- a flag, 0 or 1, against the Bool
flag_0 : (n : ℕ) (b : Bool) → n ≡ cond b 1 0 → eqb n 0 ≡ not b
flag_0 n true e = ap (λ k. eqb k 0) e
flag_0 n false e = ap (λ k. eqb k 0) e

flag_1 : (n : ℕ) (b : Bool) → n ≡ cond b 1 0 → eqb n 1 ≡ b
flag_1 n true e = ap (λ k. eqb k 1) e
flag_1 n false e = ap (λ k. eqb k 1) e

-- the process record: model counts with + 1
to_record : (y : Point) (f : Local) → Records.to y (record_of f) ≡ record_of (GhostMachine.to y f)
to_record y f = rw (add-one f.count)

next_word_lem : (y : Point) (f : Local) → f.point ≡ y → Records.next_word (record_of f) ≡ record_of (GhostMachine.set_word (suc f.word) (GhostMachine.to y f))
next_word_lem y f e = rw (add-one f.word, add-one f.count, e)

buffer : (b : BufferNumber) (n : ℕ) → b.0 ≡ n → b ≡ record { 0 = n }
buffer b n e = ap (λ k. record { 0 = k }) e

content : (c : XContent) (b s : ℕ) → c.buf.0 ≡ b → c.seq.0 ≡ s → c ≡ record { buf = record { 0 = b }; seq = record { 0 = s } }
content c b s d e = ap₂ (λ i j. record { buf = record { 0 = i }; seq = record { 0 = j } }) d e

-- what a step of p leaves, and the ghost machine after it
pub record Made (N W p : ℕ) (z : State) (o : Moved × List ℕ) (z' : State) : Type 0 where
  pub n : o.0.bench.n ≡ N
  pub w : o.0.bench.w ≡ W
  pub places : PlacesLike N W o.0.bench.x o.0.bench.bank o.0.bench.help o.1 z'.sh z'.loc
  pub process : o.0.process ≡ record_of (z'.loc p)
  pub kept : (q : ℕ) → (q ≡ p → ⊥) → record_of (z'.loc q) ≡ record_of (z.loc q)

-- the processes after a step of p: u is what it did to all, l is p's new one
module _ (z : State) (p : ℕ) (u : Local → Local) (l : Local) where
  abbrev pub locs : ℕ → Local
  locs = upd (λ q. u (z.loc q)) p l

  pub field : {A : Type 0} (F : Local → A) (SharedClauses : ℕ → A) → F l ≡ SharedClauses p
      → ((q : ℕ) → (q ≡ p → ⊥) → F (u (z.loc q)) ≡ SharedClauses q) → (q : ℕ) → F (locs q) ≡ SharedClauses q
  field F SharedClauses a b q = go (split q p)
    where
      go : Split q p → F (locs q) ≡ SharedClauses q
      go (same e) = rw e (ap F (upd_same (λ q. u (z.loc q)) p l) ∙ a)
      go (other ne) = ap F (upd_other (λ q. u (z.loc q)) p q l ne) ∙ b q ne

  pub keeps : {A : Type 0} (F : Local → A) → F l ≡ F (z.loc p) → ((m : Local) → F (u m) ≡ F m) → (q : ℕ) → F (locs q) ≡ F (z.loc q)
  keeps F a b = field F (λ q. F (z.loc q)) a (λ q ne. b (z.loc q))

-- what a start makes of its process
abbrev pub begun : Order → List ℕ → Local → Local
begun StartLl v l = GhostMachine.begin line1 l.offered l
begun StartSc v l = GhostMachine.begin line12 (cells v) l
begun StartVl v l = GhostMachine.begin line23 l.offered l
begun Step v l = l

-- what a step on one item leaves alone: of the shared part, and of each process
abbrev not_x : Shared → (ℕ → ℕ) × (ℕ → Bool) × (ℕ → ℕ) × (ℕ → ℕ → ℕ)
not_x h = (h.bank, h.flag, h.help_buf, h.buf)

abbrev not_bank : Shared → ℕ × ℕ × (ℕ → Bool) × (ℕ → ℕ) × (ℕ → ℕ → ℕ)
not_bank h = (h.xbuf, h.xseq, h.flag, h.help_buf, h.buf)

abbrev not_help : Shared → ℕ × ℕ × (ℕ → ℕ) × (ℕ → ℕ → ℕ)
not_help h = (h.xbuf, h.xseq, h.bank, h.buf)

abbrev not_words : Shared → ℕ × ℕ × (ℕ → ℕ) × (ℕ → Bool) × (ℕ → ℕ)
not_words h = (h.xbuf, h.xseq, h.bank, h.flag, h.help_buf)

abbrev of_x : Local → (ℕ → Bool) × (ℕ → Bool) × (ℕ → ℕ) × (ℕ → ℕ)
of_x m = (m.link_bank, m.link_help, m.returned, m.offered)

abbrev of_bank : Local → Bool × (ℕ → Bool) × (ℕ → ℕ) × (ℕ → ℕ)
of_bank m = (m.link_x, m.link_help, m.returned, m.offered)

abbrev of_help : Local → Bool × (ℕ → Bool) × (ℕ → ℕ) × (ℕ → ℕ)
of_help m = (m.link_x, m.link_bank, m.returned, m.offered)

abbrev of_words : Local → Bool × (ℕ → Bool) × (ℕ → Bool)
of_words m = (m.link_x, m.link_bank, m.link_help)

module _ (N W : ℕ) (x : XPlace) (ks : List BankPlace) (hs : List HelpPlace) (ws : List ℕ) (p t : ℕ) (z : State)
    (hp : p < N) (r : PlacesLike N W x ks hs ws z.sh z.loc) (g : ProcessRanges N (halves W) (z.loc p)) where
  abbrev h : Shared
  h = z.sh

  abbrev f : Local
  f = z.loc p

  abbrev me : ProcessNumber
  me = record { 0 = p }

  abbrev bench : XPlace → List BankPlace → List HelpPlace → Bench
  bench a b c = record { n = N; w = W; x = a; bank = b; help = c }

  -- a step with the same numbers in all records but p's
  made : (b : Bench) (ws' : List ℕ) (q' : Process) (a : Reply) (h' : Shared) (u : Local → Local) (l : Local) → b.n ≡ N → b.w ≡ W → PlacesLike N W b.x b.bank b.help ws' h' (locs z p u l)
      → q' ≡ record_of l → ((m : Local) → record_of (u m) ≡ record_of m) → Made N W p z (record { bench = b; process = q'; reply = a }, ws') (noisy z p h' u l)
  made b ws' q' a h' u l en ew pl e k = record {
    n = en;
    w = ew;
    places = pl;
    process = e ∙ sym (ap record_of (upd_same (λ q. u (z.loc q)) p l));
    kept = λ q ne. ap record_of (upd_other (λ q. u (z.loc q)) p q l ne) ∙ k (z.loc q);
  }

  -- the links of a place, F being the link to it: p's is set, or all are cleared
  link_set : (F : Local → Bool) (links : ℕ) (l : Local) → F l ≡ true → LinksLike N links (λ q. F (z.loc q)) → LinksLike N (link links me) (λ q. F (locs z p (λ m. m) l q))
  link_set F links l e = links_set N links (λ q. F (z.loc q)) _ p hp (ap F (upd_same z.loc p l) ∙ e) (λ q ne. ap F (upd_other z.loc p q l ne))

  links_cleared : (F : Local → Bool) (u : Local → Local) (l : Local) → F l ≡ false → ((m : Local) → F (u m) ≡ false) → LinksLike N no_links (λ q. F (locs z p u l q))
  links_cleared F u l e o = links_none N _ (field z p u l F (λ q. false) e (λ q _. o (z.loc q)))

  -- a step on X
  on_x_is : (x' : XPlace) (q' : Process) (a : Reply) (h' : Shared) (u : Local → Local) (l : Local) → XLike N x' h'.xbuf h'.xseq (λ q. (locs z p u l q).link_x) → q' ≡ record_of l
      → not_x h' ≡ not_x h → of_x l ≡ of_x f → ((m : Local) → of_x (u m) ≡ of_x m) → ((m : Local) → record_of (u m) ≡ record_of m)
      → Made N W p z (record { bench = bench x' ks hs; process = q'; reply = a }, ws) (noisy z p h' u l)
  on_x_is x' q' a h' u l new e sh own oth k = made _ ws q' a h' u l refl refl (record {
    x = new;
    bank_length = r.bank_length;
    bank = λ i hi. bank_same N _ (ap (λ c. c.0 i) sh) (λ q. ap (λ c. c.0 i) (keeps z p u l of_x own oth q)) (r.bank i hi);
    help_length = r.help_length;
    help = λ i hi. help_same N _ (ap (λ c. c.1 i) sh) (ap (λ c. c.2 i) sh) (λ q. ap (λ c. c.1 i) (keeps z p u l of_x own oth q)) (r.help i hi);
    words = words_same N W ws _ _ _ r.words _ _ _ (ap (λ c. c.3) sh) (λ q. ap (λ c. c.2) (keeps z p u l of_x own oth q)) (λ q. ap (λ c. c.3) (keeps z p u l of_x own oth q));
  }) e k

  -- a step on Bank[i]
  on_bank_is : (i : ℕ) → i < 2 * N → (k' : BankPlace) (q' : Process) (h' : Shared) (u : Local → Local) (l : Local)
      → BankLike N k' (h'.bank i) (λ q. (locs z p u l q).link_bank i) → q' ≡ record_of l
      → not_bank h' ≡ not_bank h → of_bank l ≡ of_bank f → ((m : Local) → of_bank (u m) ≡ of_bank m) → ((m : Local) → record_of (u m) ≡ record_of m)
      → ((j : ℕ) → (j ≡ i → ⊥) → h'.bank j ≡ h.bank j) → ((j : ℕ) → (j ≡ i → ⊥) → l.link_bank j ≡ f.link_bank j)
      → ((j : ℕ) → (j ≡ i → ⊥) → (m : Local) → (u m).link_bank j ≡ m.link_bank j)
      → Made N W p z (record { bench = bench x (set ks i k') hs; process = q'; reply = Accepted }, ws) (noisy z p h' u l)
  on_bank_is i hi k' q' h' u l new e sh own oth k bs ls us = made _ ws q' Accepted h' u l refl refl (record {
    x = x_same N x (ap (λ c. c.0) sh) (ap (λ c. c.1) sh) (λ q. ap (λ c. c.0) (keeps z p u l of_bank own oth q)) r.x;
    bank_length = let y = length-set ks i k' in let v = r.bank_length in omega arith;
    bank = put_place (λ j b. BankLike N b (h'.bank j) (λ q. (locs z p u l q).link_bank j)) (2 * N) ks no_bank k' i hi r.bank_length new
        (λ j hj ne. bank_same N _ (bs j ne) (keeps z p u l (λ m. m.link_bank j) (ls j ne) (us j ne)) (r.bank j hj));
    help_length = r.help_length;
    help = λ j hj. help_same N _ (ap (λ c. c.2 j) sh) (ap (λ c. c.3 j) sh) (λ q. ap (λ c. c.1 j) (keeps z p u l of_bank own oth q)) (r.help j hj);
    words = words_same N W ws _ _ _ r.words _ _ _ (ap (λ c. c.4) sh) (λ q. ap (λ c. c.2) (keeps z p u l of_bank own oth q)) (λ q. ap (λ c. c.3) (keeps z p u l of_bank own oth q));
  }) e k

  -- a step on Help[i]
  on_help_is : (i : ℕ) → i < N → (k' : HelpPlace) (q' : Process) (h' : Shared) (u : Local → Local) (l : Local)
      → HelpLike N k' (h'.flag i) (h'.help_buf i) (λ q. (locs z p u l q).link_help i) → q' ≡ record_of l
      → not_help h' ≡ not_help h → of_help l ≡ of_help f → ((m : Local) → of_help (u m) ≡ of_help m) → ((m : Local) → record_of (u m) ≡ record_of m)
      → ((j : ℕ) → (j ≡ i → ⊥) → (h'.flag j ≡ h.flag j) × (h'.help_buf j ≡ h.help_buf j)) → ((j : ℕ) → (j ≡ i → ⊥) → l.link_help j ≡ f.link_help j)
      → ((j : ℕ) → (j ≡ i → ⊥) → (m : Local) → (u m).link_help j ≡ m.link_help j)
      → Made N W p z (record { bench = bench x ks (set hs i k'); process = q'; reply = Accepted }, ws) (noisy z p h' u l)
  on_help_is i hi k' q' h' u l new e sh own oth k bs ls us = made _ ws q' Accepted h' u l refl refl (record {
    x = x_same N x (ap (λ c. c.0) sh) (ap (λ c. c.1) sh) (λ q. ap (λ c. c.0) (keeps z p u l of_help own oth q)) r.x;
    bank_length = r.bank_length;
    bank = λ j hj. bank_same N _ (ap (λ c. c.2 j) sh) (λ q. ap (λ c. c.1 j) (keeps z p u l of_help own oth q)) (r.bank j hj);
    help_length = let y = length-set hs i k' in let v = r.help_length in omega arith;
    help = put_place (λ j b. HelpLike N b (h'.flag j) (h'.help_buf j) (λ q. (locs z p u l q).link_help j)) N hs no_help k' i hi r.help_length new
        (λ j hj ne. help_same N _ (bs j ne).0 (bs j ne).1 (keeps z p u l (λ m. m.link_help j) (ls j ne) (us j ne)) (r.help j hj));
    words = words_same N W ws _ _ _ r.words _ _ _ (ap (λ c. c.3) sh) (λ q. ap (λ c. c.2) (keeps z p u l of_help own oth q)) (λ q. ap (λ c. c.3) (keeps z p u l of_help own oth q));
  }) e k

  -- a step on a word
  on_words : (ws' : List ℕ) (q' : Process) (a : Reply) (h' : Shared) (l : Local)
      → WordsLike N W ws' h'.buf (λ q. (locs z p (λ m. m) l q).returned) (λ q. (locs z p (λ m. m) l q).offered) → q' ≡ record_of l
      → not_words h' ≡ not_words h → of_words l ≡ of_words f → Made N W p z (record { bench = bench x ks hs; process = q'; reply = a }, ws') (noisy z p h' (λ m. m) l)
  on_words ws' q' a h' l new e sh own = made _ ws' q' a h' (λ m. m) l refl refl (record {
    x = x_same N x (ap (λ c. c.0) sh) (ap (λ c. c.1) sh) (λ q. ap (λ c. c.0) (keeps z p (λ m. m) l of_words own (λ _. refl) q)) r.x;
    bank_length = r.bank_length;
    bank = λ j hj. bank_same N _ (ap (λ c. c.2 j) sh) (λ q. ap (λ c. c.1 j) (keeps z p (λ m. m) l of_words own (λ _. refl) q)) (r.bank j hj);
    help_length = r.help_length;
    help = λ j hj. help_same N _ (ap (λ c. c.3 j) sh) (ap (λ c. c.4 j) sh) (λ q. ap (λ c. c.2 j) (keeps z p (λ m. m) l of_words own (λ _. refl) q)) (r.help j hj);
    words = new;
  }) e (λ _. refl)

  -- X: LL, left alone, written
  x_linked : linked x.links me ≡ f.link_x
  x_linked = r.x.links.at p hp

  ll_x_is : (y : Point) → Made N W p z (Machine.on_x (do_line2 y me) (bench x ks hs) (record_of f) ws) (quiet z p (GhostMachine.to y (GhostMachine.ll_x h t f)))
  ll_x_is y =
      let l : Local = GhostMachine.to y (GhostMachine.ll_x h t f) in
      on_x_is _ _ Accepted h (λ m. m) l
      (record { buf = r.x.buf; seq = r.x.seq; links = link_set (λ m. m.link_x) x.links l refl r.x.links })
      (ap (λ c. Records.to y (Records.with_x c (record_of f))) (content x.content h.xbuf h.xseq r.x.buf r.x.seq) ∙ to_record y (GhostMachine.ll_x h t f))
      refl refl (λ _. refl) (λ _. refl)

  stay_x : (q' : Process) (a : Reply) (h' : Shared) (l : Local) → q' ≡ record_of l → h'.xbuf ≡ h.xbuf → h'.xseq ≡ h.xseq
      → not_x h' ≡ not_x h → l.link_x ≡ f.link_x → of_x l ≡ of_x f
      → Made N W p z (record { bench = bench x ks hs; process = q'; reply = a }, ws) (noisy z p h' (λ m. m) l)
  stay_x q' a h' l e xb xs sh lx own = on_x_is x q' a h' (λ m. m) l (x_same N x xb xs (keeps z p (λ m. m) l (λ m. m.link_x) lx (λ _. refl)) r.x) e sh own (λ _. refl) (λ _. refl)

  write_x : (v : XContent) (q' : Process) (a : Reply) (h' : Shared) (l : Local) → q' ≡ record_of l → v.buf.0 ≡ h'.xbuf → v.seq.0 ≡ h'.xseq
      → not_x h' ≡ not_x h → l.link_x ≡ false → of_x l ≡ of_x f
      → Made N W p z (record { bench = bench (record { content = v; links = no_links }) ks hs; process = q'; reply = a }, ws) (noisy z p h' (GhostMachine.set_link_x false) l)
  write_x v q' a h' l e xb xs sh lx own =
      let clear = GhostMachine.set_link_x false in
      on_x_is _ q' a h' clear l (record { buf = xb; seq = xs; links = links_cleared (λ m. m.link_x) clear l lx (λ _. refl) }) e sh own (λ _. refl) (λ _. refl)

  -- Bank[i]: LL, left alone, written
  module _ (i : ℕ) (hi : i < 2 * N) where
    ll_bank_is : (q' : Process) (l : Local) → q' ≡ record_of l → l.link_bank ≡ upd f.link_bank i true → of_bank l ≡ of_bank f
        → Made N W p z (record { bench = bench x (set ks i (ll_place (get_or ks i no_bank) me)) hs; process = q'; reply = Accepted }, ws) (quiet z p l)
    ll_bank_is q' l e lb own =
        on_bank_is i hi _ q' h (λ m. m) l
        (record { buf = (r.bank i hi).buf; links = link_set (λ m. m.link_bank i) _ l (ap (λ c. c i) lb ∙ upd_same f.link_bank i true) (r.bank i hi).links })
        e refl own (λ _. refl) (λ _. refl) (λ j ne. refl) (λ j ne. ap (λ c. c j) lb ∙ upd_other f.link_bank i j true ne) (λ j ne m. refl)

    stay_bank : (q' : Process) (l : Local) → q' ≡ record_of l → l.link_bank ≡ f.link_bank → of_bank l ≡ of_bank f
        → Made N W p z (record { bench = bench x (set ks i (get_or ks i no_bank)) hs; process = q'; reply = Accepted }, ws) (quiet z p l)
    stay_bank q' l e lb own =
        on_bank_is i hi _ q' h (λ m. m) l (bank_same N _ refl (keeps z p (λ m. m) l (λ m. m.link_bank i) (ap (λ c. c i) lb) (λ _. refl)) (r.bank i hi))
        e refl own (λ _. refl) (λ _. refl) (λ j ne. refl) (λ j ne. ap (λ c. c j) lb) (λ j ne m. refl)

    write_bank : (v : ℕ) (q' : Process) (l : Local) → q' ≡ record_of l → l.link_bank ≡ upd f.link_bank i false → of_bank l ≡ of_bank f
        → Made N W p z (record { bench = bench x (set ks i (record { content = record { 0 = v }; links = no_links })) hs; process = q'; reply = Accepted }, ws)
        (noisy z p (GhostMachine.w_bank i v h) (GhostMachine.set_link_bank i false) l)
    write_bank v q' l e lb own =
        let clear = GhostMachine.set_link_bank i false in
        let cleared = links_cleared (λ m. m.link_bank i) clear l (ap (λ c. c i) lb ∙ upd_same f.link_bank i false) (λ m. upd_same m.link_bank i false) in
        on_bank_is i hi _ q' (GhostMachine.w_bank i v h) clear l (record { buf = sym (upd_same h.bank i v); links = cleared })
        e refl own (λ _. refl) (λ _. refl)
        (λ j ne. upd_other h.bank i j v ne) (λ j ne. ap (λ c. c j) lb ∙ upd_other f.link_bank i j false ne) (λ j ne m. upd_other m.link_bank i j false ne)

  -- Help[i]: LL, left alone, written
  module _ (i : ℕ) (hi : i < N) where
    ll_help_is : (q' : Process) (l : Local) → q' ≡ record_of l → l.link_help ≡ upd f.link_help i true → of_help l ≡ of_help f
        → Made N W p z (record { bench = bench x ks (set hs i (ll_place (get_or hs i no_help) me)); process = q'; reply = Accepted }, ws) (quiet z p l)
    ll_help_is q' l e lh own =
        on_help_is i hi _ q' h (λ m. m) l
        (record { flag = (r.help i hi).flag; buf = (r.help i hi).buf; links = link_set (λ m. m.link_help i) _ l (ap (λ c. c i) lh ∙ upd_same f.link_help i true) (r.help i hi).links })
        e refl own (λ _. refl) (λ _. refl) (λ j ne. (refl, refl)) (λ j ne. ap (λ c. c j) lh ∙ upd_other f.link_help i j true ne) (λ j ne m. refl)

    stay_help : (q' : Process) (l : Local) → q' ≡ record_of l → l.link_help ≡ f.link_help → of_help l ≡ of_help f
        → Made N W p z (record { bench = bench x ks (set hs i (get_or hs i no_help)); process = q'; reply = Accepted }, ws) (quiet z p l)
    stay_help q' l e lh own =
        on_help_is i hi _ q' h (λ m. m) l (help_same N _ refl refl (keeps z p (λ m. m) l (λ m. m.link_help i) (ap (λ c. c i) lh) (λ _. refl)) (r.help i hi))
        e refl own (λ _. refl) (λ _. refl) (λ j ne. (refl, refl)) (λ j ne. ap (λ c. c j) lh) (λ j ne m. refl)

    write_help_is : (up : Bool) (v : ℕ) (q' : Process) (h' : Shared) (l : Local) → q' ≡ record_of l → h'.flag ≡ upd h.flag i up → h'.help_buf ≡ upd h.help_buf i v
        → not_help h' ≡ not_help h → l.link_help ≡ upd f.link_help i false → of_help l ≡ of_help f
        → Made N W p z (record { bench = bench x ks (set hs i (write_place (record { flag = cond up 1 0; buf = record { 0 = v } }))); process = q'; reply = Accepted }, ws)
        (noisy z p h' (GhostMachine.set_link_help i false) l)
    write_help_is up v q' h' l e hf hb sh lh own =
        let clear = GhostMachine.set_link_help i false in
        let cleared = links_cleared (λ m. m.link_help i) clear l (ap (λ c. c i) lh ∙ upd_same f.link_help i false) (λ m. upd_same m.link_help i false) in
        let flag_at : h'.flag i ≡ up = ap (λ c. c i) hf ∙ upd_same h.flag i up in
        on_help_is i hi _ q' h' clear l (record { flag = ap (λ b. cond b 1 0) (sym flag_at); buf = sym (ap (λ c. c i) hb ∙ upd_same h.help_buf i v); links = cleared })
        e sh own (λ _. refl) (λ _. refl)
        (λ j ne. (ap (λ c. c j) hf ∙ upd_other h.flag i j up ne, ap (λ c. c j) hb ∙ upd_other h.help_buf i j v ne))
        (λ j ne. ap (λ c. c j) lh ∙ upd_other f.link_help i j false ne) (λ j ne m. upd_other m.link_help i j false ne)

  -- a half word of BUF[b] into the return area; a half of the word u into BUF[mybuf]
  abbrev moved : ℕ → ℕ → List ℕ
  moved u row = set ws (row * W + word_of f.word) (with_half f.word u (get_or ws (row * W + word_of f.word) 0))

  read : (b : ℕ) → b < 3 * N → (q' : Process) (a : Reply) (l : Local) → q' ≡ record_of l → l.returned ≡ upd f.returned f.word (h.buf b f.word)
      → l.offered ≡ f.offered → of_words l ≡ of_words f
      → Made N W p z (record { bench = bench x ks hs; process = q'; reply = a }, moved (get_or ws (b * W + word_of f.word) 0) (3 * N + p)) (quiet z p l)
  read b hb q' a l e ret off own =
      on_words _ q' a h l
      (words_return N W ws _ _ _ r.words _ _ p f.word _ (h.buf b f.word) hp g.word (r.words.buf b f.word hb g.word)
      (ap (λ m. m.returned) (upd_same z.loc p l) ∙ ret) (λ q ne. ap (λ m. m.returned) (upd_other z.loc p q l ne)) (keeps z p (λ m. m) l (λ m. m.offered) off (λ _. refl)))
      e refl own

  write : (u v : ℕ) → half f.word u ≡ v → (q' : Process) (a : Reply) (h' : Shared) (l : Local) → q' ≡ record_of l
      → h'.buf ≡ upd h.buf f.mybuf (upd (h.buf f.mybuf) f.word v) → not_words h' ≡ not_words h
      → l.returned ≡ f.returned → l.offered ≡ f.offered → of_words l ≡ of_words f
      → Made N W p z (record { bench = bench x ks hs; process = q'; reply = a }, moved u f.mybuf) (noisy z p h' (λ m. m) l)
  write u v ev q' a h' l e buf sh ret off own =
      on_words _ q' a h' l
      (words_buffer N W ws _ _ _ r.words _ _ _ f.mybuf f.word u v g.my g.word ev buf
      (keeps z p (λ m. m) l (λ m. m.returned) ret (λ _. refl)) (keeps z p (λ m. m) l (λ m. m.offered) off (λ _. refl)))
      e sh own

  -- the next word of a run, or on to the line y'
  k+1 : ltb (f.word + 1) (halves W) ≡ ltb (suc f.word) (halves W)
  k+1 = ap (λ j. ltb j (halves W)) (add-one f.word)

  abbrev with_read : ℕ → Local
  with_read b = GhostMachine.set_returned f.word (h.buf b f.word) f

  abbrev AfterRead : ℕ → Point → Local → Type 0
  AfterRead b y' l = Made N W p z (Machine.on_read (one_record N) me (record { 0 = b }) (do_word (halves W) y' (record_of f)) (bench x ks hs) (record_of f) ws) (quiet z p l)

  reads : (y y' : Point) → f.point ≡ y → (b : ℕ) → b < 3 * N → AfterRead b y' (GhostMachine.word (halves W) y y' (with_read b))
  reads y y' e b hb =
      by_test (AfterRead b y') (ltb (suc f.word) (halves W))
      (λ t. rw (k+1 ∙ t) (read b hb _ Accepted (GhostMachine.set_word (suc f.word) (GhostMachine.to y (with_read b))) (next_word_lem y f e) refl refl refl))
      (λ t. rw (k+1 ∙ t) (read b hb _ Accepted (GhostMachine.set_word 0 (GhostMachine.to y' (with_read b))) (to_record y' (GhostMachine.set_word 0 f)) refl refl refl))

  -- the process that is helped, and the next sequence number
  abbrev asker : ℕ
  asker = f.copy_seq % N

  abbrev next_seq : ℕ
  next_seq = suc f.copy_seq % (2 * N)

  hu : asker < N
  hu = mod-lt f.copy_seq (omega arith)

  hv : next_seq < 2 * N
  hv = mod-lt (suc f.copy_seq) (omega arith)

  -- the buffer number that Help[i] and Bank[i] hold
  help_buffer : (i : ℕ) (hi : i < N) → (get_or hs i no_help).content.buf ≡ record { 0 = h.help_buf i }
  help_buffer i hi = buffer _ _ (r.help i hi).buf

  -- a process that takes the buffer number of Help[i] into one of its own numbers
  takes : (y : Point) (i : ℕ) → i < N → (put : BufferNumber → Process → Process) (l : Local) → put (record { 0 = h.help_buf i }) (record_of f) ≡ record_of l
      → Records.to y (put (get_or hs i no_help).content.buf (record_of f)) ≡ record_of (GhostMachine.to y l)
  takes y i hi put l e = ap (λ c. Records.to y (put c (record_of f))) (help_buffer i hi) ∙ ap (Records.to y) e ∙ to_record y l

  is_0 : (i : ℕ) (hi : i < N) → eqb (get_or hs i no_help).content.flag 0 ≡ not (h.flag i)
  is_0 i hi = flag_0 _ (h.flag i) (r.help i hi).flag

  is_1 : (i : ℕ) (hi : i < N) → eqb (get_or hs i no_help).content.flag 1 ≡ h.flag i
  is_1 i hi = flag_1 _ (h.flag i) (r.help i hi).flag

  -- model's step of p, at the point y, against the ghost machine
  abbrev After : Point → State → Type 0
  After y z' = Made N W p z (Machine.step_at y me (bench x ks hs) (record_of f) ws) z'

  pub follow : (y : Point) → f.point ≡ y → After y (GhostMachine.step_at N (halves W) y t p z)
  unfolding GhostMachine.step_at Machine.step_at
  follow idle e = record { n = refl; w = refl; places = r; process = refl; kept = λ q ne. refl }
  follow line1 e =
      write_help_is p hp true f.mybuf _ (GhostMachine.w_asked p h.successes (GhostMachine.w_help p true f.mybuf h)) (GhostMachine.to line2 (GhostMachine.set_link_help p false f))
      (to_record line2 f) refl refl refl refl refl
  follow line2 e = ll_x_is line3
  follow line3 e = reads line3 line4 e f.copy_buf g.copy_buf
  follow line4 e =
      by_test (After line4) (h.flag p)
      (λ t'. rw (is_0 p hp ∙ ap not t') (ll_help_is p hp _
      (GhostMachine.to line8 (GhostMachine.set_moment f.read_at f.read_version (GhostMachine.set_link_help p true f))) (to_record line8 f) refl refl))
      (λ t'. rw (is_0 p hp ∙ ap not t') (ll_help_is p hp _ (GhostMachine.to line5 (GhostMachine.set_b (h.help_buf p) (GhostMachine.set_link_help p true f)))
      (takes line5 p hp Records.with_b (GhostMachine.set_b (h.help_buf p) f) refl) refl refl))
  follow line5 e = ll_x_is line6
  follow line6 e = reads line6 line7 e f.copy_buf g.copy_buf
  follow line7 e =
      by_test (After line7) f.link_x
      (λ t'. rw (x_linked ∙ t') (stay_x _ Accepted h (GhostMachine.to line8 (GhostMachine.set_moment f.read_at f.read_version f)) (to_record line8 f) refl refl refl refl refl))
      (λ t'. rw (x_linked ∙ t') (stay_x _ Accepted h (GhostMachine.to line7copy (GhostMachine.set_moment (h.help_moment p) (h.help_version p) f)) (to_record line7copy f) refl refl refl refl refl))
  follow line7copy e = reads line7copy line8 e f.b g.b
  follow line8 e =
      by_test (After line8) (h.flag p)
      (λ t'. rw (is_1 p hp ∙ t') (ll_help_is p hp _ (GhostMachine.to line9 (GhostMachine.set_c (h.help_buf p) (GhostMachine.set_link_help p true f)))
      (takes line9 p hp Records.with_c (GhostMachine.set_c (h.help_buf p) f) refl) refl refl))
      (λ t'. rw (is_1 p hp ∙ t') (ll_help_is p hp _ (GhostMachine.to line10 (GhostMachine.set_link_help p true f)) (to_record line10 f) refl refl))
  follow line9 e =
      by_test (After line9) (f.link_help p)
      (λ t'. rw ((r.help p hp).links.at p hp ∙ t')
      (write_help_is p hp false f.c _ (GhostMachine.w_help p false f.c h) (GhostMachine.to line10 (GhostMachine.set_link_help p false f))
      (to_record line10 f) refl refl refl refl refl))
      (λ t'. rw ((r.help p hp).links.at p hp ∙ t') (stay_help p hp _ (GhostMachine.to line10 f) (to_record line10 f) refl refl))
  follow line10 e = stay_help p hp _ (GhostMachine.to line11 (GhostMachine.set_mybuf (h.help_buf p) f)) (takes line11 p hp Records.with_mybuf (GhostMachine.set_mybuf (h.help_buf p) f) refl) refl refl
  follow line11 e =
      let v : ℕ = f.returned f.word in let from = r.words.returned p f.word hp g.word in
      let h' : Shared = GhostMachine.w_buf f.mybuf f.word v h in
      by_test (After line11) (ltb (suc f.word) (halves W))
      (λ t'. rw (k+1 ∙ t') (write _ v from _ Accepted h' (GhostMachine.set_word (suc f.word) (GhostMachine.to line11 f)) (next_word_lem line11 f e) refl refl refl refl refl))
      (λ t'. rw (k+1 ∙ t') (write _ v from _ (LlAnswered (f.count + 1)) (GhostMachine.w_end p f.link_x f.moment h')
      (GhostMachine.rest true (GhostMachine.set_word 0 f)) refl refl refl refl refl refl))
  follow line12 e =
      let same = ap (λ a. eqb a f.copy_buf) (r.bank f.copy_seq g.copy_seq).buf in
      by_test (After line12) (eqb (h.bank f.copy_seq) f.copy_buf)
      (λ t'. rw (same ∙ t') (ll_bank_is f.copy_seq g.copy_seq _ (GhostMachine.to line14 (GhostMachine.set_link_bank f.copy_seq true f)) (to_record line14 f) refl refl))
      (λ t'. rw (same ∙ t') (ll_bank_is f.copy_seq g.copy_seq _ (GhostMachine.to line12valid (GhostMachine.set_link_bank f.copy_seq true f)) (to_record line12valid f) refl refl))
  follow line12valid e =
      by_test (After line12valid) f.link_x
      (λ t'. rw (x_linked ∙ t') (stay_x _ Accepted h (GhostMachine.to line13 f) (to_record line13 f) refl refl refl refl refl))
      (λ t'. rw (x_linked ∙ t') (stay_x _ Accepted h (GhostMachine.to line14 f) (to_record line14 f) refl refl refl refl refl))
  follow line13 e =
      let linked = (r.bank f.copy_seq g.copy_seq).links.at p hp in
      by_test (After line13) (f.link_bank f.copy_seq)
      (λ t'. rw (linked ∙ t') (write_bank f.copy_seq g.copy_seq f.copy_buf _ (GhostMachine.to line14 (GhostMachine.set_link_bank f.copy_seq false f)) (to_record line14 f) refl refl))
      (λ t'. rw (linked ∙ t') (stay_bank f.copy_seq g.copy_seq _ (GhostMachine.to line14 f) (to_record line14 f) refl refl))
  follow line14 e =
      by_test (After line14) (h.flag asker)
      (λ t'. rw (is_1 asker hu ∙ t') (ll_help_is asker hu _
      (GhostMachine.to line14valid (GhostMachine.set_d (h.help_buf asker) (GhostMachine.set_link_help asker true f)))
      (takes line14valid asker hu Records.with_d (GhostMachine.set_d (h.help_buf asker) f) refl) refl refl))
      (λ t'. rw (is_1 asker hu ∙ t') (ll_help_is asker hu _ (GhostMachine.to line17 (GhostMachine.set_link_help asker true f)) (to_record line17 f) refl refl))
  follow line14valid e =
      by_test (After line14valid) f.link_x
      (λ t'. rw (x_linked ∙ t') (stay_x _ Accepted h (GhostMachine.to line15 (GhostMachine.set_checked_at t f)) (to_record line15 f) refl refl refl refl refl))
      (λ t'. rw (x_linked ∙ t') (stay_x _ Accepted h (GhostMachine.to line17 f) (to_record line17 f) refl refl refl refl refl))
  follow line15 e =
      by_test (After line15) (f.link_help asker)
      (λ t'. rw ((r.help asker hu).links.at p hp ∙ t') (write_help_is asker hu false f.mybuf _
      (GhostMachine.w_give (2 * N + p) (2 * N + asker) asker f.checked_at f.read_version (GhostMachine.w_help asker false f.mybuf h))
      (GhostMachine.to line17 (GhostMachine.set_mybuf f.d (GhostMachine.set_link_help asker false f))) (to_record line17 (GhostMachine.set_mybuf f.d f)) refl refl refl refl refl))
      (λ t'. rw ((r.help asker hu).links.at p hp ∙ t') (stay_help asker hu _ (GhostMachine.to line17 f) (to_record line17 f) refl refl))
  follow line17 e =
      let v : ℕ = f.offered f.word in let from = r.words.offered p f.word hp g.word in
      let h' : Shared = GhostMachine.w_buf f.mybuf f.word v h in
      by_test (λ l. After line17 (noisy z p h' (λ m. m) l)) (ltb (suc f.word) (halves W))
      (λ t'. rw (k+1 ∙ t') (write _ v from _ Accepted h' (GhostMachine.set_word (suc f.word) (GhostMachine.to line17 f)) (next_word_lem line17 f e) refl refl refl refl refl))
      (λ t'. rw (k+1 ∙ t') (write _ v from _ Accepted h' (GhostMachine.set_word 0 (GhostMachine.to line18 f)) (to_record line18 (GhostMachine.set_word 0 f)) refl refl refl refl refl))
  follow line18 e =
      let l : Local = GhostMachine.set_e (h.bank next_seq) f in
      rw (add-one f.copy_seq) (stay_bank next_seq hv _ (GhostMachine.to line19 l)
      (ap (λ c. Records.to line19 (Records.with_e c (record_of f))) (buffer _ _ (r.bank next_seq hv).buf) ∙ to_record line19 l) refl refl)
  follow line19 e =
      by_test (After line19) f.link_x
      (λ t'. rw (add-one f.copy_seq, x_linked ∙ t') (write_x _ _ (ScAnswered true (f.count + 1))
      (GhostMachine.w_end p false t (GhostMachine.w_x f.mybuf next_seq f.offered t next_seq (2 * N + p) h))
      (GhostMachine.rest f.answered (GhostMachine.set_mybuf f.e (GhostMachine.set_link_x false f))) refl refl refl refl refl refl))
      (λ t'. rw (add-one f.copy_seq, x_linked ∙ t')
      (stay_x _ (ScAnswered false (f.count + 1)) (GhostMachine.w_end p f.link_x t h) (GhostMachine.rest f.answered f) refl refl refl refl refl refl))
  follow line23 e = stay_x _ (VlAnswered (linked x.links me) (f.count + 1)) (GhostMachine.w_end p f.link_x t h) (GhostMachine.rest f.answered f) refl refl refl refl refl refl

  -- a start: p's record, and for SC its offer area; n is the number of the command
  -- (its word place is 0, as the ghost machine sets it)
  begins : (y : Point) (w : ℕ → ℕ) → f.word ≡ 0 → Records.begin y (record_of f) ≡ record_of (GhostMachine.begin y w f)
  begins y w e = ap (λ k. record_of (GhostMachine.set_word k (GhostMachine.begin y w f))) e

  abbrev Started : ℕ → Moved × List ℕ → Local → Type 0
  Started n o l = Made N W p z o (noisy z p (GhostMachine.w_start p n h) (λ m. m) l)

  start : (y : Point) (n : ℕ) → f.word ≡ 0
      → Started n (record { bench = bench x ks hs; process = Records.begin y (record_of f); reply = Accepted }, ws) (GhostMachine.begin y f.offered f)
  start y n zero =
      let l : Local = GhostMachine.begin y f.offered f in
      let words = words_same N W ws _ _ _ r.words _ _ _ refl (keeps z p (λ m. m) l (λ m. m.returned) refl (λ _. refl)) (keeps z p (λ m. m) l (λ m. m.offered) refl (λ _. refl)) in
      on_words ws _ Accepted (GhostMachine.w_start p n h) l words (begins y f.offered zero) refl refl

  pub follow_start : (o : Order) (v : List ℕ) (n : ℕ) → f.word ≡ 0 → is_start o ≡ true → (brings_value o ≡ true → length v ≡ W)
      → Started n (Machine.obey o me v (bench x ks hs) (record_of f) ws) (begun o v f)
  unfolding Machine.obey
  follow_start StartLl v n zero s e = start line1 n zero
  follow_start StartVl v n zero s e = start line23 n zero
  follow_start StartSc v n zero s e =
      let l : Local = GhostMachine.begin line12 (cells v) f in
      on_words _ _ Accepted (GhostMachine.w_start p n h) l
      (words_offer N W ws _ _ _ r.words _ _ p v hp (e refl) (keeps z p (λ m. m) l (λ m. m.returned) refl (λ _. refl))
      (ap (λ m. m.offered) (upd_same z.loc p l)) (λ q ne. ap (λ m. m.offered) (upd_other z.loc p q l ne)))
      (begins line12 (cells v) zero) refl refl
  follow_start Step v n zero s e = absurd (contra s refl)
