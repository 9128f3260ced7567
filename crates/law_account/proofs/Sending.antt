-- Numbers are written, and sent again.
use Rattle.std.proofs.Common.{◌≡◌, ◌<◌, inl, inr, ℕ, ◌+◌, Bool, true, false, not, ◌&&◌, ◌||◌}
use Rattle.std.proofs.Common.{List, [], ◌∷◌, ◌++◌, length, refl, ap, sym, subst, ◌∙◌, arith, nat_lt, nat_le, set}
use Rattle.std.specs.List.{sum}
use Rattle.std.proofs.lemmas.Bool.{cases_lt, le-ltb, le-leb, lt-ltb, and_from}
use Rattle.std.proofs.lemmas.List.{get_or_append_left, get_or_push, length_push}
use Rattle.rlc_pdu.specs.Runs.{has, run_between, lies_in}
use Rattle.rlc_pdu.proofs.RunSteps.{added_has, added_ascends, removed_has, removed_ascends}
use Rattle.rlc_am_tx_window.specs.Sent.{Sent, fresh, rested, sent_part}
use Rattle.rlc_am_tx_window.specs.Window.{TxWindow, slot_at, with_slot}
use Rattle.journal_account.specs.FlowSending.{SentNumber, FlowSending, never_named, number_at, with_rest}
use Rattle.journal_account.specs.FlowSending.{rested_in, with_resent}
use Rattle.law_rlc.proofs.AmSender.Least.{at-old, at-new}
use Rattle.law_rlc.proofs.AmSender.Heard.{has-all}
use Rattle.law_account.specs.Accounted.{IsAccounted, AreAccounted, OutsetIsAccounted, WritesAreAccounted}
use Rattle.law_account.specs.Accounted.{ResendsAreAccounted, SegmentsAreAccounted}
use Rattle.law_account.proofs.Numbers.{set_accounted}

pub outset_accounted : OutsetIsAccounted
outset_accounted config = record {
  base = refl;
  most_is = refl;
  length_is = refl;
  numbers = λ k lt. absurd (omega (arith, lt));
}

fresh_accounted : (most : ℕ) (field lens : List ℕ) (begins ends : Bool) (place : ℕ) → sum lens ≡ length field
    → IsAccounted most (fresh field lens begins ends place) (never_named (length field))
fresh_accounted most field lens begins ends place whole = record {
  size = refl;
  whole = whole;
  acked = refl;
  plain = refl;
  runs = λ some. (omega arith, some, tt);
  ascends = tt;
  rests = λ i lt. has-all (length field) i lt;
  within = λ i le. refl;
  count = refl;
}

pub writes_accounted : WritesAreAccounted
writes_accounted most w f field lens begins ends place whole a = record {
  base = a.base;
  most_is = a.most_is;
  length_is = omega (
    arith,
    a.length_is,
    length_push w.slots (fresh field lens begins ends place),
    length_push f.numbers (never_named (length field)),
  );
  numbers = λ k lt. by k (omega (arith, lt, length_push w.slots (fresh field lens begins ends place)));
}
  where
    by : (k : ℕ) → k < length w.slots + 1
        → IsAccounted most (slot_at (w.slots ++ fresh field lens begins ends place ∷ []) k)
        (number_at (f.numbers ++ never_named (length field) ∷ []) k)
    by k lt = elim (cases_lt k (length w.slots)) [
      | inl old ↦
          subst (λ (x : Sent). IsAccounted most x (number_at (f.numbers ++ never_named (length field) ∷ []) k))
          (sym (at-old w.slots (fresh field lens begins ends place) k old))
          (subst (λ (x : SentNumber). IsAccounted most (slot_at w.slots k) x)
          (sym (get_or_append_left f.numbers (never_named (length field) ∷ []) (never_named 0) k
          (omega (arith, old, a.length_is)))) (a.numbers k old))
      | inr new ↦
          subst (λ (x : Sent). IsAccounted most x (number_at (f.numbers ++ never_named (length field) ∷ []) k))
          (sym (at-new w.slots (fresh field lens begins ends place) k (omega (arith, lt, new))))
          (subst (λ (x : SentNumber). IsAccounted most (fresh field lens begins ends place) x)
          (sym (get_or_push f.numbers (never_named (length field)) (never_named 0) k
          (omega (arith, lt, new, a.length_is)))) (fresh_accounted most field lens begins ends place whole))
    ]

-- ---- octets rest

rest_bool : (r x : Bool) → (r || not x) ≡ not (not r && x)
rest_bool true x = refl
rest_bool false x = refl

off_bool : (r x : Bool) → x ≡ false → (not r && x) ≡ false
off_bool true x e = refl
off_bool false x e = e

part_accounted : (most from to : ℕ) (h : Sent) (n : SentNumber) → from < to → IsAccounted most h n
    → IsAccounted most (sent_part h from to) (with_rest from to n)
part_accounted most from to h n lt a = record {
  size = a.size;
  whole = a.whole;
  acked = a.acked;
  plain = a.plain;
  runs = λ some. added_ascends h.resting from to lt (a.runs some);
  ascends = removed_ascends n.waiting from to lt a.ascends;
  rests = λ i i_in. added_has h.resting from to lt i
      ∙ (ap (λ (b : Bool). lies_in (run_between from to) i || b) (a.rests i i_in)
      ∙ (rest_bool (lies_in (run_between from to) i) (has n.waiting i)
      ∙ ap not (sym (removed_has n.waiting from to lt i))));
  within = λ i le. removed_has n.waiting from to lt i
      ∙ off_bool (lies_in (run_between from to) i) (has n.waiting i) (a.within i le);
  count = a.count;
}

all_in : (size i : ℕ) → i < size → lies_in (run_between 0 size) i ≡ true
all_in size i lt = and_from (nat_le 0 i) (nat_lt i size) (le-leb 0 i (omega arith)) (lt-ltb i size lt)

whole_accounted : (most size : ℕ) (h : Sent) (n : SentNumber) → size ≡ length h.field → 0 < size
    → IsAccounted most h n → IsAccounted most (rested h) (with_rest 0 size n)
whole_accounted most size h n long some a = record {
  size = a.size;
  whole = a.whole;
  acked = a.acked;
  plain = a.plain;
  runs = λ s. (omega arith, omega (arith, s, a.size), tt);
  ascends = removed_ascends n.waiting 0 size some a.ascends;
  rests = λ i lt. has-all (length h.field) i (omega (arith, lt, a.size))
      ∙ ap not (sym (removed_has n.waiting 0 size some i
      ∙ ap (λ (b : Bool). not b && has n.waiting i) (all_in size i (omega (arith, lt, long, a.size)))));
  within = λ i le. removed_has n.waiting 0 size some i
      ∙ off_bool (lies_in (run_between 0 size) i) (has n.waiting i) (a.within i le);
  count = a.count;
}

-- the account finds the number
resent_is : (most : ℕ) (w : TxWindow) (f : FlowSending) (at from to : ℕ) → AreAccounted most w f
    → with_resent (w.base + at) from to f
    ≡ record f { numbers = set f.numbers at (with_rest from to (number_at f.numbers at)) }
resent_is most w f at from to a =
    ap (λ (b : Bool). rested_in b (w.base + at) from to f) (le-ltb (w.base + at) f.base (omega (arith, a.base)))
    ∙ ap (λ (k : ℕ). record f { numbers = set f.numbers k (with_rest from to (number_at f.numbers k)) })
    (omega (arith, a.base))

pub resends_accounted : ResendsAreAccounted
resends_accounted most w f at lt some a =
    subst (AreAccounted most (with_slot w at (rested (slot_at w.slots at))))
    (sym (resent_is most w f at 0 (length (slot_at w.slots at).field) a))
    (set_accounted most w f at (rested (slot_at w.slots at))
    (with_rest 0 (length (slot_at w.slots at).field) (number_at f.numbers at))
    (λ l. whole_accounted most (length (slot_at w.slots at).field) (slot_at w.slots at) (number_at f.numbers at) refl
    some (a.numbers at lt)) a)

pub segments_accounted : SegmentsAreAccounted
segments_accounted most w f at from to lt some a =
    subst (AreAccounted most (with_slot w at (sent_part (slot_at w.slots at) from to)))
    (sym (resent_is most w f at from to a))
    (set_accounted most w f at (sent_part (slot_at w.slots at) from to)
    (with_rest from to (number_at f.numbers at))
    (λ l. part_accounted most from to (slot_at w.slots at) (number_at f.numbers at) some (a.numbers at lt)) a)
