-- The numbers of the window against the account's, in their places.
use Rattle.std.proofs.Common.{◌≡◌, ◌<◌, ◌≤◌, inl, inr, ℕ, suc, ◌+◌, Bool, true, false, List, [], ◌∷◌, ◌++◌}
use Rattle.std.proofs.Common.{if◌then◌else◌, length, drop, is_some, refl, ap, sym, subst, ◌∙◌, arith}
use Rattle.std.proofs.lemmas.Bool.{cases_eq, cases_lt, or_right}
use Rattle.std.proofs.lemmas.List.{get_or-drop, get_or_append_left, get_or_push, get_or_past, length_push}
use Rattle.rlc_pdu.specs.Runs.{has, lies_in, run_between}
use Rattle.rlc_pdu.proofs.RunSteps.{added_has}
use Rattle.rlc_am_rx_window.specs.Cells.{cell_at}
use Rattle.rlc_am_rx_window.specs.Piece.{Piece, end_of}
use Rattle.rlc_am_rx_window.specs.Held.{Held, nothing, with_piece, is_complete}
use Rattle.rlc_am_rx_window.specs.Window.{RxWindow, slot_at, complete_first, first_incomplete, with_kept}
use Rattle.journal_account.specs.FlowArrivals.{FieldArrivals, nothing_came, not_written, field_at, is_whole}
use Rattle.journal_account.specs.FlowArrivals.{whole_first, first_open, with_octets, octets_at}
use Rattle.journal_account.proofs.ByPlace.{whole_at, octets_here, octets_other, drop_field}
use Rattle.law_rlc.proofs.AmReceiver.Least.{kept-same, kept-other}
use Rattle.law_account.specs.Receiving.{AreOctetsAccounted}
use Rattle.law_account.proofs.ReceivingOctets.{none_accounted, whole_same, whole_more, again_accounted, IsPieceOf}
use Rattle.law_account.proofs.ReceivingOctets.{piece_accounted}

abbrev pub Pairs : List Held → List FieldArrivals → Type 0
Pairs hs fs = (k : ℕ) → AreOctetsAccounted (slot_at hs k) (field_at fs k)

-- as many stand first that are complete, from any place on
pub first_same : (hs : List Held) (fs : List FieldArrivals)
    → ((k : ℕ) → is_complete (slot_at hs k) ≡ whole_at fs k) → complete_first hs ≡ whole_first fs
first_same [] [] same = refl
first_same [] (f ∷ fs) same = ap (λ (b : Bool). if b then whole_first fs + 1 else 0) (same 0)
first_same (h ∷ hs) [] same = ap (λ (b : Bool). if b then complete_first hs + 1 else 0) (same 0)
first_same (h ∷ hs) (f ∷ fs) same =
    ap (λ (b : Bool). if b then complete_first hs + 1 else 0) (same 0)
    ∙ ap (λ (n : ℕ). if is_whole f then n + 1 else 0) (first_same hs fs (λ k. same (suc k)))

pub pairs_whole : (hs : List Held) (fs : List FieldArrivals) → Pairs hs fs → (k : ℕ)
    → is_complete (slot_at hs k) ≡ whole_at fs k
pairs_whole hs fs pairs k = whole_same (slot_at hs k) (field_at fs k) (pairs k)

-- without the first of them
pub drop_pairs : (hs : List Held) (fs : List FieldArrivals) (n : ℕ) → Pairs hs fs → Pairs (drop n hs) (drop n fs)
drop_pairs hs fs n pairs k =
    subst (λ (h : Held). AreOctetsAccounted h (field_at (drop n fs) k)) (sym (get_or-drop n hs k nothing))
    (subst (λ (f : FieldArrivals). AreOctetsAccounted (slot_at hs (n + k)) f) (sym (drop_field fs n k)) (pairs (n + k)))

pub open_same : (hs : List Held) (fs : List FieldArrivals) (from : ℕ) → Pairs hs fs
    → first_incomplete hs from ≡ first_open fs from
open_same hs fs from pairs =
    ap (λ (n : ℕ). from + n)
    (first_same (drop from hs) (drop from fs)
    (pairs_whole (drop from hs) (drop from fs) (drop_pairs hs fs from pairs)))

-- none does where the one at the place isn't
pub none_first : (hs : List Held) → is_complete (slot_at hs 0) ≡ false → complete_first hs ≡ 0
none_first [] e = refl
none_first (h ∷ hs) e = ap (λ (b : Bool). if b then complete_first hs + 1 else 0) e

pub no_further : (hs : List Held) (from : ℕ) → is_complete (slot_at hs from) ≡ false → first_incomplete hs from ≡ from
no_further hs from e =
    let first : slot_at (drop from hs) 0 ≡ slot_at hs from =
    get_or-drop from hs 0 nothing ∙ ap (slot_at hs) (omega arith) in
    let none : complete_first (drop from hs) ≡ 0 = none_first (drop from hs) (ap is_complete first ∙ e) in
    omega (arith, none)

-- ---- a number is written

pub push_pairs : (hs : List Held) (fs : List FieldArrivals) (size : ℕ) → 0 < size → length hs ≤ length fs
    → Pairs hs fs → Pairs hs (fs ++ nothing_came size ∷ [])
push_pairs hs fs size some few pairs k = elim (cases_lt k (length fs)) [
  | inl old ↦ subst (λ (f : FieldArrivals). AreOctetsAccounted (slot_at hs k) f)
      (sym (get_or_append_left fs (nothing_came size ∷ []) not_written k old)) (pairs k)
  | inr past ↦ elim (cases_eq k (length fs)) [
    | inl same ↦
        subst (λ (f : FieldArrivals). AreOctetsAccounted (slot_at hs k) f)
        (sym (get_or_push fs (nothing_came size) not_written k (sym same)))
        (subst (λ (h : Held). AreOctetsAccounted h (nothing_came size))
        (sym (get_or_past hs k nothing (omega (arith, few, past)))) (none_accounted size some))
    | inr other ↦
        subst (λ (f : FieldArrivals). AreOctetsAccounted (slot_at hs k) f)
        (get_or_past fs k not_written past
        ∙ sym (get_or_past (fs ++ nothing_came size ∷ []) k not_written
        (omega (arith, past, other, length_push fs (nothing_came size))))) (pairs k)
  ]
]

-- ---- octets of one come

pub kept_pairs : (w : RxWindow) (fs : List FieldArrivals) (at : ℕ) (p : Piece) (poll : Bool) → at < length fs
    → IsPieceOf (field_at fs at).size p → Pairs w.slots fs
    → Pairs (with_kept w at p poll).slots (octets_at at p.so (end_of p) fs)
kept_pairs w fs at p poll lt part pairs k = elim (cases_eq k at) [
  | inl same ↦
      subst (λ (j : ℕ). AreOctetsAccounted (slot_at (with_kept w at p poll).slots j)
      (field_at (octets_at at p.so (end_of p) fs) j)) (sym same)
      (subst (λ (h : Held). AreOctetsAccounted h (field_at (octets_at at p.so (end_of p) fs) at))
      (sym (kept-same w at p poll))
      (subst (λ (f : FieldArrivals). AreOctetsAccounted (with_piece (slot_at w.slots at) p poll) f)
      (sym (octets_here fs at p.so (end_of p) lt))
      (piece_accounted (slot_at w.slots at) (field_at fs at) p poll part (pairs at))))
  | inr other ↦
      subst (λ (h : Held). AreOctetsAccounted h (field_at (octets_at at p.so (end_of p) fs) k))
      (sym (kept-other w at p poll k other))
      (subst (λ (f : FieldArrivals). AreOctetsAccounted (slot_at w.slots k) f)
      (sym (octets_other fs at p.so (end_of p) k other)) (pairs k))
]

pub again_pairs : (hs : List Held) (fs : List FieldArrivals) (at from to : ℕ) → at < length fs → from < to
    → ((i : ℕ) → from ≤ i → i < to → is_some (cell_at (slot_at hs at).cells i) ≡ true) → Pairs hs fs
    → Pairs hs (octets_at at from to fs)
again_pairs hs fs at from to lt some held pairs k = elim (cases_eq k at) [
  | inl same ↦
      subst (λ (j : ℕ). AreOctetsAccounted (slot_at hs j) (field_at (octets_at at from to fs) j)) (sym same)
      (subst (λ (f : FieldArrivals). AreOctetsAccounted (slot_at hs at) f) (sym (octets_here fs at from to lt))
      (again_accounted (slot_at hs at) (field_at fs at) from to some held (pairs at)))
  | inr other ↦
      subst (λ (f : FieldArrivals). AreOctetsAccounted (slot_at hs k) f)
      (sym (octets_other fs at from to k other)) (pairs k)
]

-- a number that was complete stays so
whole_on : (e : FieldArrivals) (from to : ℕ) → from < to → (h g : Held) → AreOctetsAccounted h e
    → AreOctetsAccounted g (with_octets from to e) → is_whole e ≡ true → is_whole (with_octets from to e) ≡ true
whole_on e from to some h g a b whole =
    whole_more h g e (with_octets from to e) a b refl
    (λ i came. added_has e.came from to some i ∙ or_right (lies_in (run_between from to) i) (has e.came i) came) whole

pub still_whole : (hs gs : List Held) (fs : List FieldArrivals) (at from to : ℕ) → at < length fs → from < to
    → Pairs hs fs → Pairs gs (octets_at at from to fs) → (k : ℕ) → whole_at fs k ≡ true
    → whole_at (octets_at at from to fs) k ≡ true
still_whole hs gs fs at from to lt some pairs after k whole = elim (cases_eq k at) [
  | inl same ↦
      let here = octets_here fs at from to lt in
      subst (λ (j : ℕ). whole_at (octets_at at from to fs) j ≡ true) (sym same)
      (ap is_whole here
      ∙ whole_on (field_at fs at) from to some (slot_at hs at) (slot_at gs at) (pairs at)
      (subst (λ (f : FieldArrivals). AreOctetsAccounted (slot_at gs at) f) here (after at))
      (subst (λ (j : ℕ). whole_at fs j ≡ true) same whole))
  | inr other ↦ ap is_whole (octets_other fs at from to k other) ∙ whole
]
