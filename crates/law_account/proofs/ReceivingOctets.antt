-- The octets of one number: whether all have come, and a piece more of them.
use Rattle.std.proofs.Common.{◌≡◌, ◌<◌, ◌≤◌, inl, inr, ℕ, ◌-◌, Bool, true, false, ◌||◌, ◌&&◌, length}
use Rattle.std.proofs.Common.{if◌then◌else◌, Option, Some, None, is_some, refl, ap, sym, ◌∙◌, arith, nat_lt, nat_le}
use Rattle.std.proofs.lemmas.Bool.{cases_lt, and_from, and_parts, and_right, lt-ltb, le-ltb, le-leb, leb-true}
use Rattle.std.proofs.lemmas.Bool.{ltb-true, or_left}
use Rattle.std.proofs.lemmas.Bool.{or_right}
use Rattle.rlc_pdu.specs.Runs.{has, lies_in, run_between}
use Rattle.rlc_pdu.proofs.RunSteps.{added_has, added_ascends}
use Rattle.rlc_am_rx_window.specs.Cells.{cell_at, laid, holds}
use Rattle.rlc_am_rx_window.specs.Piece.{Piece, end_of}
use Rattle.rlc_am_rx_window.specs.Held.{Held, nothing, told_size, with_piece, is_full, is_complete}
use Rattle.journal_account.specs.Arrived.{all_below}
use Rattle.journal_account.specs.FlowArrivals.{FieldArrivals, nothing_came, is_whole, with_octets}
use Rattle.journal_account.proofs.Complete.{below_all, below_not, below_each, whole_is}
use Rattle.journal_account.proofs.Wholes.{iff}
use Rattle.law_rlc.proofs.AmReceiver.Places.{there, laid_there, length_laid, holds-each, each-holds}
use Rattle.law_account.specs.Receiving.{AreOctetsAccounted}

pub none_accounted : (size : ℕ) → 0 < size → AreOctetsAccounted nothing (nothing_came size)
none_accounted size some = record {
  some = some;
  ascends = tt;
  octets = λ i. refl;
  within = λ i le. refl;
  told = refl;
  last = λ e. absurd (omega (arith, e));
}

-- ---- whether all have come

all_is : (h : Held) (f : FieldArrivals) → AreOctetsAccounted h f → is_whole f ≡ all_below (has f.came) f.size
all_is h f a = whole_is f (has f.came) a.ascends (λ i. refl)

held_all : (h : Held) (f : FieldArrivals) → AreOctetsAccounted h f
    → holds h.cells 0 f.size ≡ all_below (has f.came) f.size
held_all h f a =
    iff (holds h.cells 0 f.size) (all_below (has f.came) f.size)
    (λ e. below_all (has f.came) f.size (λ i lt. sym (a.octets i) ∙ holds-each h.cells f.size e i lt))
    (λ e. each-holds h.cells f.size (λ i lt. a.octets i ∙ below_each (has f.came) f.size i e lt))

pub whole_same : (h : Held) (f : FieldArrivals) → AreOctetsAccounted h f → is_complete h ≡ is_whole f
whole_same h f a = by (has f.came (f.size - 1)) refl
  where
    size_is : (b : Bool) → has f.came (f.size - 1) ≡ b → h.size ≡ (if b then Some f.size else None)
    size_is b e = a.told ∙ ap (λ (c : Bool). if c then Some f.size else None) e

    by : (b : Bool) → has f.came (f.size - 1) ≡ b → is_complete h ≡ is_whole f
    by false e =
        ap (is_full h.cells) (size_is false e)
        ∙ sym (all_is h f a ∙ below_not (has f.came) f.size (f.size - 1) (omega (arith, a.some)) e)
    by true e = ap (is_full h.cells) (size_is true e) ∙ (held_all h f a ∙ sym (all_is h f a))

-- of more octets that have come no fewer are all
pub whole_more : (h g : Held) (e f : FieldArrivals) → AreOctetsAccounted h e → AreOctetsAccounted g f → e.size ≡ f.size
    → ((i : ℕ) → has e.came i ≡ true → has f.came i ≡ true) → is_whole e ≡ true → is_whole f ≡ true
whole_more h g e f a b size more whole =
    let all = sym (all_is h e a) ∙ whole in
    all_is g f b
    ∙ below_all (has f.came) f.size
    (λ i lt. more i (below_each (has e.came) e.size i all (omega (arith, lt, size))))

-- ---- octets that came before come again

pub again_accounted : (h : Held) (f : FieldArrivals) (from to : ℕ) → from < to
    → ((i : ℕ) → from ≤ i → i < to → is_some (cell_at h.cells i) ≡ true) → AreOctetsAccounted h f
    → AreOctetsAccounted h (with_octets from to f)
again_accounted h f from to lt held a = record {
  some = a.some;
  ascends = added_ascends f.came from to lt a.ascends;
  octets = λ i. a.octets i ∙ sym (same i);
  within = λ i le. same i ∙ a.within i le;
  told = a.told ∙ ap (λ (b : Bool). if b then Some f.size else None) (sym (same (f.size - 1)));
  last = a.last;
}
  where
    same : (i : ℕ) → has (with_octets from to f).came i ≡ has f.came i
    same i =
        added_has f.came from to lt i
        ∙ by (lies_in (run_between from to) i) refl
      where
        by : (b : Bool) → lies_in (run_between from to) i ≡ b → (b || has f.came i) ≡ has f.came i
        by false e = refl
        by true e =
            let both = and_parts (nat_le from i) (nat_lt i to) e in
            sym (sym (a.octets i) ∙ held i (leb-true from i both.0) (ltb-true i to both.1))

-- ---- a piece of the field comes

-- its octets lie in a field of so many, and it is told to be the last where they reach its end
pub record IsPieceOf (size : ℕ) (p : Piece) : Type 0 where
  pub some : 1 ≤ length p.cells
  pub last : p.last ≡ true → end_of p ≡ size
  pub on : p.last ≡ false → end_of p < size

pub piece_low : (size : ℕ) (p : Piece) → IsPieceOf size p → end_of p ≤ size
piece_low size p part = by p.last refl
  where
    by : (b : Bool) → p.last ≡ b → end_of p ≤ size
    by true e = omega (arith, part.last e)
    by false e = omega (arith, part.on e)

pub piece_accounted : (h : Held) (f : FieldArrivals) (p : Piece) (poll : Bool) → IsPieceOf f.size p
    → AreOctetsAccounted h f → AreOctetsAccounted (with_piece h p poll) (with_octets p.so (end_of p) f)
piece_accounted h f p poll part a = record {
  some = a.some;
  ascends = added_ascends f.came p.so (end_of p) lt a.ascends;
  octets = λ i. laid_there h.cells p.so p.cells i
      ∙ (ap (λ (b : Bool). (nat_le p.so i && nat_lt i (end_of p)) || b) (a.octets i)
      ∙ sym (added_has f.came p.so (end_of p) lt i));
  within = λ i le. added_has f.came p.so (end_of p) lt i ∙ past i le (has f.came i) (a.within i le);
  told = tells p.last (has f.came (f.size - 1)) refl refl;
  last = λ e. laid_there h.cells p.so p.cells (length (laid h.cells p.so p.cells) - 1) ∙ ends e;
}
  where
    lt : p.so < end_of p
    lt = omega (arith, part.some)

    low : end_of p ≤ f.size
    low = piece_low f.size p part

    past : (i : ℕ) → f.size ≤ i → (b : Bool) → b ≡ false → (lies_in (run_between p.so (end_of p)) i || b) ≡ false
    past i le b e =
        ap (λ (c : Bool). c || b) (and_right (nat_le p.so i) (nat_lt i (end_of p))
        (le-ltb i (end_of p) (omega (arith, le, low))))
        ∙ e

    new : (b : Bool) → has f.came (f.size - 1) ≡ b
        → has (with_octets p.so (end_of p) f).came (f.size - 1)
        ≡ (lies_in (run_between p.so (end_of p)) (f.size - 1) || b)
    new b e =
        added_has f.came p.so (end_of p) lt (f.size - 1)
        ∙ ap (λ (c : Bool). lies_in (run_between p.so (end_of p)) (f.size - 1) || c) e

    tells : (last came : Bool) → p.last ≡ last → has f.came (f.size - 1) ≡ came
        → told_size h.size p.last (end_of p)
        ≡ (if has (with_octets p.so (end_of p) f).came (f.size - 1) then Some f.size else None)
    tells last true l e =
        ap (λ (o : Option ℕ). told_size o p.last (end_of p))
        (a.told ∙ ap (λ (c : Bool). if c then Some f.size else None) e)
        ∙ sym (ap (λ (c : Bool). if c then Some f.size else None) (new true e
        ∙ or_right (lies_in (run_between p.so (end_of p)) (f.size - 1)) true refl))
    tells true false l e =
        ap (λ (o : Option ℕ). told_size o p.last (end_of p))
        (a.told ∙ ap (λ (c : Bool). if c then Some f.size else None) e)
        ∙ (ap (λ (c : Bool). if c then Some (end_of p) else None) l
        ∙ (ap (λ (n : ℕ). Some n) (part.last l)
        ∙ sym (ap (λ (c : Bool). if c then Some f.size else None) (new false e
        ∙ or_left (lies_in (run_between p.so (end_of p)) (f.size - 1)) false
        (and_from (nat_le p.so (f.size - 1)) (nat_lt (f.size - 1) (end_of p))
        (le-leb p.so (f.size - 1) (omega (arith, part.last l, part.some)))
        (lt-ltb (f.size - 1) (end_of p) (omega (arith, part.last l, a.some))))))))
    tells false false l e =
        ap (λ (o : Option ℕ). told_size o p.last (end_of p))
        (a.told ∙ ap (λ (c : Bool). if c then Some f.size else None) e)
        ∙ (ap (λ (c : Bool). if c then Some (end_of p) else None) l
        ∙ sym (ap (λ (c : Bool). if c then Some f.size else None) (new false e
        ∙ ap (λ (c : Bool). c || false)
        (and_right (nat_le p.so (f.size - 1)) (nat_lt (f.size - 1) (end_of p))
        (le-ltb (f.size - 1) (end_of p) (omega (arith, part.on l)))))))

    ends : 0 < length (laid h.cells p.so p.cells)
        → ((nat_le p.so (length (laid h.cells p.so p.cells) - 1)
        && nat_lt (length (laid h.cells p.so p.cells) - 1) (end_of p))
        || there h.cells (length (laid h.cells p.so p.cells) - 1)) ≡ true
    ends e = elim (cases_lt (end_of p) (length h.cells)) [
      | inl under ↦
          let same : length (laid h.cells p.so p.cells) - 1 ≡ length h.cells - 1 =
          omega (arith, length_laid h.cells p.so p.cells, under) in
          or_right (nat_le p.so (length (laid h.cells p.so p.cells) - 1)
          && nat_lt (length (laid h.cells p.so p.cells) - 1) (end_of p))
          (there h.cells (length (laid h.cells p.so p.cells) - 1))
          (ap (there h.cells) same ∙ a.last (omega (arith, under)))
      | inr over ↦
          or_left (nat_le p.so (length (laid h.cells p.so p.cells) - 1)
          && nat_lt (length (laid h.cells p.so p.cells) - 1) (end_of p))
          (there h.cells (length (laid h.cells p.so p.cells) - 1))
          (and_from (nat_le p.so (length (laid h.cells p.so p.cells) - 1))
          (nat_lt (length (laid h.cells p.so p.cells) - 1) (end_of p))
          (le-leb p.so (length (laid h.cells p.so p.cells) - 1)
          (omega (arith, length_laid h.cells p.so p.cells, over, part.some)))
          (lt-ltb (length (laid h.cells p.so p.cells) - 1) (end_of p)
          (omega (arith, length_laid h.cells p.so p.cells, over, part.some))))
    ]
