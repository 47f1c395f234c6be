-- A step of the machine is what its doing makes of memory: an act on one item, and of its own process what follows from
-- what it saw there. The only laws with a clause for each line.
use mathlib.Core.Path.{◌≡◌, refl, sym, ap, ap₂, ◌∙◌}
use mathlib.Core.List.{List}
use mathlib.Core.Bool.{Bool, true, false, cond}
use Prim.Native.Nat.{ℕ, ◌+◌, ◌*◌, ◌≤◌, ◌<◌}
use native.Mathlib.Nat.{mod-lt}
use native.Mathlib.Omega.{arith}
use lib.ListN.{length, get_or, set, take, drop, length-set}
use lib.Seq.{sets, get_or-take, get_or-drop}
use Rattle.model.specs.declared.BufferNumber.{BufferNumber}
use Rattle.model.specs.declared.SequenceNumber.{SequenceNumber}
use Rattle.llsc.specs.declared.ProcessNumber.{ProcessNumber}
use Rattle.model.specs.declared.Bench.{Bench}
use Rattle.model.specs.declared.Process.{Process}
use Rattle.llsc.specs.declared.Order.{Order}
use Rattle.llsc.specs.declared.Order.TheVariants.{StartLl, StartSc, StartVl, Step}
use Rattle.model.specs.declared.Reply.{Reply}
use Rattle.model.specs.declared.Reply.TheVariants.{Accepted}
use Rattle.model.specs.declared.WordStep.{WordStep}
use Rattle.model.specs.declared.Moved.{Moved}
use Rattle.model.specs.Places.{XPlace, BankPlace, HelpPlace, linked, sc_place}
use Rattle.model.specs.Tables.{bank_at, help_at, put_x, put_bank, put_help, next, helped}
use Rattle.model.specs.Sizes.{buffers, sequence_numbers, halves}
use Rattle.model.specs.Words.{Layout, buffer_in, return_in, offer_in, word_of, half, with_half, copied_half}
use Rattle.model.specs.Points.{Point, point_of, idle, line1, line2, line3, line4, line5, line6, line7, line7copy}
use Rattle.model.specs.Points.{line8, line9, line10, line11, line12, line12valid, line13, line14, line14valid}
use Rattle.model.specs.Points.{line15, line17, line18, line19, line23}
use Rattle.model.specs.Records.{to, begin, with_x}
use Rattle.model.specs.Lines.{do_word, do_line11}
use Rattle.model.specs.Machine.{stepped_in, obey_in}
use Rattle.llsc.specs.Rows.{brings_value}
use Rattle.doings.specs.declared.Item.{Item}
use Rattle.doings.specs.declared.Item.TheVariants.{X, Bank, Help, Half}
use Rattle.doings.specs.Items.{item_in, x_of, bank_of, help_of, whole, put_half}
use Rattle.doings.specs.Own.{Own, own_in, put_areas}
use Rattle.doings.specs.Doings.{Act, read, ll, vl, sc, write, cleared, acted, Seen, seen, Touching, nothing, one, x_seen}
use Rattle.doings.specs.Doings.{replies, takes, reading, writing, doing_at, doing, outcome, effect}
use Rattle.doings.proofs.HalfPuts.{half_whole, half_back, half_copied}
use Rattle.doings.proofs.Windows.{sets_window, sets_window_set, window_set}
use Rattle.doings.proofs.Layouts.{row_apart, row_fits}
use Rattle.doings.proofs.ItemLaws.{Inside, trim, words_length, Stands}
use Rattle.doings.proofs.AreaLaws.{Areas, areas_back, own_areas, item_areas}

-- the ranges that the lines rely on; rows 9 and 4 ask for them
pub record Ranged (n w : ℕ) (q : Process) (p : ProcessNumber) : Type 0 where
  pub process : p.0 < n
  pub mybuf : q.mybuf.0 < buffers n
  pub x_buf : q.x.buf.0 < buffers n
  pub x_seq : q.x.seq.0 < sequence_numbers n
  pub b_buf : q.b.0 < buffers n
  pub word : q.word < halves w

-- the item is there, and can hold what is put into it
abbrev pub InsideT : Bench → Touching Item Process → Type 0
InsideT b (nothing out) = Unit {0}
InsideT b (one d) = Inside b d.item

abbrev pub Exact : Layout → ProcessNumber → Bench → List ℕ → Touching Item Process → Type 0
Exact l p b ws (nothing out) = Unit {0}
Exact l p b ws (one d) = trim d.item (acted d.act p (item_in l d.item b ws)) ≡ acted d.act p (item_in l d.item b ws)

pub record Follows (l : Layout) (p : ProcessNumber) (b : Bench) (ws : List ℕ) (out : Moved × List ℕ) (t : Touching Item Process) : Type 0 where
  pub same : out ≡ effect l p t b ws
  pub inside : InsideT b t
  pub areas : Areas b.w (outcome l p t b ws).1
  pub exact : Exact l p b ws t

choice : {A B : Type 0} (f : A → B) (t : Bool) (a b : A) → f (cond t a b) ≡ cond t (f a) (f b)
choice f true a b = refl
choice f false a b = refl

-- b and ws are a record's bench and words, q is p's record
module _ {l : Layout} {rows : ℕ} {b : Bench} {q : Process} {p : ProcessNumber} {ws : List ℕ} (z : Stands l rows b ws) (g : Ranged b.n b.w q p) where
  abbrev n : ℕ
  n = b.n

  abbrev w : ℕ
  w = b.w

  abbrev o : Own Process
  o = own_in l w p q ws

  abbrev ra : ℕ
  ra = return_in l w p 0

  abbrev oa : ℕ
  oa = offer_in l w p 0

  -- the word place, and its word
  abbrev k : ℕ
  k = q.word

  abbrev i : ℕ
  i = word_of q.word

  in_row : word_of q.word < b.w
  in_row = omega (arith, g.word)

  ra_fits : return_in l b.w p 0 + b.w ≤ length ws
  ra_fits = row_fits (l.returns + p.0) rows b.w (length ws) (z.laid.return_below p.0 g.process) z.words

  oa_fits : offer_in l b.w p 0 + b.w ≤ length ws
  oa_fits = row_fits (l.offers + p.0) rows b.w (length ws) (z.laid.offer_below p.0 g.process) z.words

  areas : Areas b.w (own_in l b.w p q ws)
  areas = own_areas z.laid b.w p g.process ws z.words q

  back : put_areas l b.w p (own_in l b.w p q ws) ws ≡ ws
  back = areas_back z.laid b.w p g.process ws z.words q

  -- nothing shared, the areas as they are
  quiet : (u : Process) → Follows l p b ws (record { bench = b; process = u; reply = Accepted }, ws) (nothing (replies o Accepted u))
  quiet u = record {
    same = ap (λ (x : List ℕ). (record { bench = b; process = u; reply = Accepted }, x)) (sym back);
    inside = tt;
    areas = record { returned = areas.returned; offered = areas.offered };
    exact = tt;
  }

  -- a step on a place of each kind, which leaves the areas
  abbrev goes : (Seen → Reply) → (Seen → Process) → Seen → Reply × Own Process
  goes r f s = replies o (r s) (f s)

  abbrev moved : Bench → (Seen → Reply) → (Seen → Process) → Item → List ℕ → Moved × List ℕ
  moved c r f j vs = (record { bench = c; process = f (seen p (item_in l j b ws)); reply = r (seen p (item_in l j b ws)) }, vs)

  on_x_is : (a : Act) (r : Seen → Reply) (f : Seen → Process) (x : XPlace) → x ≡ x_of (acted a p (item_in l X b ws))
      → Follows l p b ws (moved (put_x b x) r f X ws) (one (record { item = X; act = a; next = goes r f }))
  on_x_is a r f x e = record {
    same = ap₂ (λ (y : XPlace) (vs : List ℕ). moved (put_x b y) r f X vs) e (sym back);
    inside = tt;
    areas = record { returned = areas.returned; offered = areas.offered };
    exact = refl;
  }

  on_bank_is : (j : SequenceNumber) → j.0 < 2 * b.n → (a : Act) (f : Seen → Process) (y : BankPlace)
      → y ≡ bank_of (acted a p (item_in l (Bank j) b ws)) → (acted a p (item_in l (Bank j) b ws)).second ≡ 0
      → Follows l p b ws (moved (put_bank b j y) (λ s. Accepted) f (Bank j) ws) (one (record { item = Bank j; act = a; next = goes (λ s. Accepted) f }))
  on_bank_is j h a f y e none = record {
    same = ap₂ (λ (y : BankPlace) (vs : List ℕ). moved (put_bank b j y) (λ s. Accepted) f (Bank j) vs) e (sym back);
    inside = h;
    areas = record { returned = areas.returned; offered = areas.offered };
    exact = let left = acted a p (item_in l (Bank j) b ws) in ap (λ (v : ℕ). record { first = left.first; second = v; links = left.links }) (sym none);
  }

  on_help_is : (j : ProcessNumber) → j.0 < b.n → (a : Act) (f : Seen → Process) (y : HelpPlace) → y ≡ help_of (acted a p (item_in l (Help j) b ws))
      → Follows l p b ws (moved (put_help b j y) (λ s. Accepted) f (Help j) ws) (one (record { item = Help j; act = a; next = goes (λ s. Accepted) f }))
  on_help_is j h a f y e = record {
    same = ap₂ (λ (y : HelpPlace) (vs : List ℕ). moved (put_help b j y) (λ s. Accepted) f (Help j) vs) e (sym back);
    inside = h;
    areas = record { returned = areas.returned; offered = areas.offered };
    exact = refl;
  }

  -- word i of an area, at row r
  of_area : (r : ℕ) → get_or ws (r * b.w + word_of q.word) 0 ≡ get_or (take b.w (drop (r * b.w + 0) ws)) (word_of q.word) 0
  of_area r =
      ap (λ (j : ℕ). get_or ws j 0) (let y : r * w + i ≡ r * w + 0 + i = omega arith in y)
      ∙ sym (get_or-take w (drop (r * w + 0) ws) i 0 in_row ∙ get_or-drop (r * w + 0) ws i 0)

  -- a half word is read
  abbrev stepped : WordStep → List ℕ → Moved × List ℕ
  stepped step vs = (record { bench = b; process = step.process; reply = step.reply }, vs)

  on_read : (f : BufferNumber) → f.0 < 3 * b.n → (step : WordStep)
      → Follows l p b ws (stepped step (copied_half ws q.word (buffer_in l b.w f (word_of q.word)) (return_in l b.w p (word_of q.word)))) (reading o f step)
  on_read f h step = record {
    same = ap (stepped step) (sym words);
    inside = (h, g.word);
    areas = record { returned = length-set o.returned i (with_half k (whole k v) (get_or o.returned i 0)) ∙ areas.returned; offered = areas.offered };
    exact = ap (λ (u : ℕ). record { first = u; second = 0; links = 0 }) (half_whole k (get_or ws from 0));
  }
    where
      from : ℕ
      from = buffer_in l w f i

      v : ℕ
      v = half k (get_or ws from 0)

      new : ℕ
      new = with_half k (whole k v) (get_or ws (ra + i) 0)

      place : ra + i ≡ return_in l w p i
      place = omega arith

      offered : take w (drop oa ws) ≡ take w (drop oa (set ws (ra + i) new))
      offered =
          let ne = z.laid.return_offer p.0 p.0 g.process g.process in
          let out = row_apart w (l.returns + p.0) (l.offers + p.0) i ne in_row in
          sym (window_set ws oa w (ra + i) new (λ x y. out (omega arith) (omega arith)))

      words : put_areas l w p (takes o step (seen p (item_in l (Half f k) b ws))).1 (put_half ws from k v) ≡ copied_half ws k from (return_in l w p i)
      words =
          ap (λ (vs : List ℕ). sets (sets vs ra (put_half o.returned i k v)) oa o.offered) (half_back ws from k)
          ∙ ap (λ (u : ℕ). sets (sets ws ra (set o.returned i (with_half k (whole k v) u))) oa o.offered) (get_or-take w (drop ra ws) i 0 in_row ∙ get_or-drop ra ws i 0)
          ∙ ap (λ (vs : List ℕ). sets vs oa o.offered) (sets_window_set 0 ws ra w i new in_row ra_fits)
          ∙ ap (sets (set ws (ra + i) new) oa) offered
          ∙ sets_window 0 (set ws (ra + i) new) oa w (omega (arith, oa_fits, length-set ws (ra + i) new))
          ∙ ap (λ (j : ℕ). put_half ws j k v) place
          ∙ sym (half_copied ws (return_in l w p i) k from)

  -- a half of the word at `from` is written
  on_write_is : (from : ℕ) (area : List ℕ) → get_or ws from 0 ≡ get_or area (word_of q.word) 0 → (step : WordStep)
      → Follows l p b ws (stepped step (copied_half ws q.word from (buffer_in l b.w q.mybuf (word_of q.word)))) (writing o area step)
  on_write_is from area e step = record {
    same = ap (stepped step) (half_copied ws at k from ∙ ap (λ (x : ℕ). put_half ws at k (half k x)) e ∙ sym words);
    inside = (g.mybuf, g.word);
    areas = record { returned = areas.returned; offered = areas.offered };
    exact = ap (λ (x : ℕ). record { first = x; second = 0; links = 0 }) (half_whole k u);
  }
    where
      u : ℕ
      u = get_or area i 0

      at : ℕ
      at = buffer_in l w q.mybuf i

      new : List ℕ
      new = put_half ws at k (half k u)

      kept : own_in l w p q new ≡ o
      kept = item_areas z.laid w p g.process ws b refl refl (Half q.mybuf k) (record { index = g.mybuf; word = g.word }) (cleared (half k u) 0) q

      words : put_areas l w p o new ≡ new
      words =
          let long : length new ≡ length ws = words_length w l ws (cleared (half k u) 0) (Half q.mybuf k) in
          ap (λ (x : Own Process). put_areas l w p x new) (sym kept) ∙ areas_back z.laid w p g.process new (omega (arith, z.words)) q

  -- an SC on each kind
  sc_x_is : (v u : ℕ) → sc_place b.x p (record { buf = record { 0 = v }; seq = record { 0 = u } }) ≡ x_of (acted (sc v u) p (item_in l X b ws))
  sc_x_is v u = sym (choice x_of (linked b.x.links p) (cleared v u) (item_in l X b ws))

  sc_bank_is : (j : SequenceNumber) (v : BufferNumber) → sc_place (bank_at b j) p v ≡ bank_of (acted (sc v.0 0) p (item_in l (Bank j) b ws))
  sc_bank_is j v = sym (choice bank_of (linked (bank_at b j).links p) (cleared v.0 0) (item_in l (Bank j) b ws))

  sc_help_is : (j : ProcessNumber) (v u : ℕ) → sc_place (help_at b j) p (record { flag = v; buf = record { 0 = u } }) ≡ help_of (acted (sc v u) p (item_in l (Help j) b ws))
  sc_help_is j v u = sym (choice help_of (linked (help_at b j).links p) (cleared v u) (item_in l (Help j) b ws))

  one_number : (t : Bool) (j : SequenceNumber) (v : ℕ) → (cond t (cleared v 0) (item_in l (Bank j) b ws)).second ≡ 0
  one_number true j v = refl
  one_number false j v = refl

  -- the process that is helped, and the place of Bank that line 18 reads
  abbrev other : ProcessNumber
  other = helped n q.x.seq

  abbrev freed : SequenceNumber
  freed = next n q.x.seq

  other_in : (helped b.n q.x.seq).0 < b.n
  other_in = mod-lt q.x.seq.0 {m = b.n} (omega (arith, g.process))

  freed_in : (next b.n q.x.seq).0 < 2 * b.n
  freed_in = mod-lt (q.x.seq.0 + 1) {m = 2 * b.n} (omega (arith, g.process))

  pub step_follows : (y : Point) → Follows l p b ws (stepped_in l y p b q ws) (doing_at y b.n b.w p (own_in l b.w p q ws))
  unfolding doing_at
  step_follows idle = quiet q
  step_follows line1 = on_help_is p g.process (write 1 q.mybuf.0) (λ s. to line2 q) _ refl
  step_follows line2 = on_x_is ll (λ s. Accepted) (λ s. to line3 (with_x (x_seen s) q)) _ refl
  step_follows line3 = on_read q.x.buf g.x_buf (do_word (halves w) line4 q)
  step_follows line4 = on_help_is p g.process ll _ _ refl
  step_follows line5 = on_x_is ll (λ s. Accepted) (λ s. to line6 (with_x (x_seen s) q)) _ refl
  step_follows line6 = on_read q.x.buf g.x_buf (do_word (halves w) line7 q)
  step_follows line7 = on_x_is vl (λ s. Accepted) _ _ refl
  step_follows line7copy = on_read q.b g.b_buf (do_word (halves w) line8 q)
  step_follows line8 = on_help_is p g.process ll _ _ refl
  step_follows line9 = on_help_is p g.process (sc 0 q.c.0) _ _ (sc_help_is p 0 q.c.0)
  step_follows line10 = on_help_is p g.process read _ _ refl
  step_follows line11 = on_write_is _ o.returned (of_area (l.returns + p.0)) (do_line11 (halves w) q)
  step_follows line12 = on_bank_is q.x.seq g.x_seq ll _ _ refl refl
  step_follows line12valid = on_x_is vl (λ s. Accepted) _ _ refl
  step_follows line13 =
      let none = one_number (linked (bank_at b q.x.seq).links p) q.x.seq q.x.buf.0 in
      on_bank_is q.x.seq g.x_seq (sc q.x.buf.0 0) _ _ (sc_bank_is q.x.seq q.x.buf) none
  step_follows line14 = on_help_is other other_in ll _ _ refl
  step_follows line14valid = on_x_is vl (λ s. Accepted) _ _ refl
  step_follows line15 = on_help_is other other_in (sc 0 q.mybuf.0) _ _ (sc_help_is other 0 q.mybuf.0)
  step_follows line17 = on_write_is _ o.offered (of_area (l.offers + p.0)) (do_word (halves w) line18 q)
  step_follows line18 = on_bank_is freed freed_in read _ _ refl refl
  step_follows line19 = on_x_is (sc q.mybuf.0 freed.0) _ _ _ (sc_x_is q.mybuf.0 freed.0)
  step_follows line23 = on_x_is vl _ _ _ refl

  -- an accepted order is what its doing makes of memory
  pub order_follows : (c : Order) (value : List ℕ) → (brings_value c ≡ true → length value ≡ b.w)
      → Follows l p b ws (obey_in l c p value b q ws) (doing c b.n b.w p value (own_in l b.w p q ws))
  unfolding doing
  order_follows StartLl value h = quiet (begin line1 q)
  order_follows StartSc value h = record {
    same =
        ap (λ (vs : List ℕ). (record { bench = b; process = begin line12 q; reply = Accepted }, sets vs oa value)) (sym (sets_window 0 ws ra w ra_fits));
    inside = tt;
    areas = record { returned = areas.returned; offered = h refl };
    exact = tt;
  }
  order_follows StartVl value h = quiet (begin line23 q)
  order_follows Step value h = step_follows (point_of q.line)
