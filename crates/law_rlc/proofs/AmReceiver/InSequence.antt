-- SDUs come out in the order of their places.
use Rattle.std.proofs.Common.{◌≡◌, ◌<◌, ◌≤◌, inl, inr, ℕ, suc, zero, ◌+◌, ◌-◌, ◌%◌, Bool, true, false, List, [], ◌∷◌}
use Rattle.std.proofs.Common.{◌++◌, length, take, drop, Option, Some, None, slice_get, refl, ap, sym, subst, ◌∙◌, arith}
use Rattle.std.proofs.Common.{add-one, append_assoc, get_or, ltb, leb, if◌then◌else◌, max}
use Rattle.std.proofs.lemmas.Bool.{cases_lt, cases_eq, leb-false, lt-ltb, le-ltb}
use Rattle.std.proofs.lemmas.List.{append-nil, get_or-drop, take-append-drop}
use Rattle.l2_types.specs.declared.AmRxConfig.{AmRxConfig}
use Rattle.rlc_pdu.specs.declared.Landed.{Landed}
use Rattle.rlc_pdu.specs.declared.Landed.TheVariants.{Kept, Repeat, Outside, Clash}
use Rattle.rlc_pdu.specs.Pdus.{AmdPdu}
use Rattle.rlc_am_rx_window.specs.Cells.{Cell, first_of, over, placed, laid, leading}
use Rattle.rlc_am_rx_window.specs.Piece.{Piece, piece_of, end_of}
use Rattle.rlc_am_rx_window.specs.Held.{Held, is_complete, is_full, nothing, with_piece, told_size}
use Rattle.rlc_am_rx_window.specs.Joined.{Joined, empty, opened, extended, closed, with_place, joined}
use Rattle.rlc_am_rx_window.specs.Window.{RxWindow, offset_of, complete_first, with_kept, slot_at, handed_on}
use Rattle.rlc_am_rx_window.specs.Window.{given_after}
use Rattle.rlc_am_rx_window.specs.Window.{landing}
use Rattle.rlc_am_rx.specs.State.{State}
use Rattle.rlc_am_rx.specs.Machine.{landed, after_landing, after_reorder, window_with}
use Rattle.law_rlc.specs.AmReceiver.Run.{Call, Arrive, Up, Write, ExpireReorder, ExpireProhibit, TickReorder}
use Rattle.law_rlc.specs.AmReceiver.Run.{TickProhibit}
use Rattle.law_rlc.specs.AmReceiver.Stream.{IsField, IsPart, IsSent, IsHonest, AreHonest, Flow, flows, flow, initial}
use Rattle.law_rlc.specs.AmReceiver.Stream.{stream, stream_to, somes, IsInSequence}
use Rattle.law_rlc.proofs.AmReceiver.Offset.{offset-in, offset-below}
use Rattle.law_rlc.proofs.AmReceiver.Places.{there, length_laid, over_at, placed_before, placed_behind, holds-each}
use Rattle.law_rlc.proofs.AmReceiver.Least.{kept-same, kept-other}

-- ---- SDUs of a list of places

pub joined_append : (j : Joined) (xs ys : List (Option Cell)) → joined (joined j xs) ys ≡ joined j (xs ++ ys)
joined_append j [] ys = refl
joined_append j (x ∷ xs) ys = joined_append (with_place j x) xs ys

-- SDUs that went up before
abbrev pub behind : List (List ℕ) → Joined → Joined
behind gone j = record { ready = gone ++ j.ready; part = j.part }

place_behind : (gone : List (List ℕ)) (j : Joined) (x : Option Cell)
    → with_place (behind gone j) x ≡ behind gone (with_place j x)
place_behind gone j None = refl
place_behind gone j (Some c) = go c.ends (extended (opened j.part c.begins) (c.octet ∷ []))
  where
    go : (b : Bool) (p : Option (List ℕ)) → closed b (gone ++ j.ready) p ≡ behind gone (closed b j.ready p)
    go true p = ap (λ (r : List (List ℕ)). record { ready = r; part = Some [] }) (append_assoc gone j.ready _)
    go false p = refl

pub joined_behind : (gone : List (List ℕ)) (j : Joined) (xs : List (Option Cell))
    → joined (behind gone j) xs ≡ behind gone (joined j xs)
joined_behind gone j [] = refl
joined_behind gone j (x ∷ xs) = ap (λ (k : Joined). joined k xs) (place_behind gone j x)
    ∙ joined_behind gone (with_place j x) xs

handed_behind : (gone : List (List ℕ)) (j : Joined) (slots : List Held) (given : ℕ)
    → handed_on (behind gone j) slots given ≡ behind gone (handed_on j slots given)
handed_behind gone j [] given = refl
handed_behind gone j (h ∷ hs) given =
    go (is_complete h) (handed_behind gone (joined j (leading (drop given h.cells))) hs 0)
  where
    one : joined (behind gone j) (leading (drop given h.cells)) ≡ behind gone (joined j (leading (drop given h.cells)))
    one = joined_behind gone j (leading (drop given h.cells))

    go : (b : Bool) → handed_on (behind gone (joined j (leading (drop given h.cells)))) hs 0
        ≡ behind gone (handed_on (joined j (leading (drop given h.cells))) hs 0)
        → (if b then handed_on (joined (behind gone j) (leading (drop given h.cells))) hs 0
        else joined (behind gone j) (leading (drop given h.cells)))
        ≡ behind gone (if b then handed_on (joined j (leading (drop given h.cells))) hs 0
        else joined j (leading (drop given h.cells)))
    go true rest = ap (λ (k : Joined). handed_on k hs 0) one ∙ rest
    go false rest = one

pub somes_append : (xs ys : List Cell) → somes (xs ++ ys) ≡ somes xs ++ somes ys
somes_append [] ys = refl
somes_append (x ∷ xs) ys = ap (λ (cs : List (Option Cell)). Some x ∷ cs) (somes_append xs ys)

-- ---- what is held is what the field has

abbrev pub Fits : List (Option Cell) → List Cell → Type 0
Fits cells field = (i : ℕ) (c : Cell) → get_or cells i None ≡ Some c → slice_get field i ≡ Some c

pub record SlotFits (h : Held) (field : List Cell) : Type 0 where
  pub cells : Fits h.cells field
  pub size : (n : ℕ) → h.size ≡ Some n → n ≡ length field
  pub short : h.size ≡ None → length h.cells < length field
  pub within : length h.cells ≤ length field

fits-laid : (cells : List (Option Cell)) (p : Piece) (field : List Cell) → IsPart field p → Fits cells field
    → Fits (laid cells p.so p.cells) field
fits-laid cells p field part f i c e =
    go (get_or cells i None) refl (sym (over_at cells (placed p.so p.cells) i) ∙ e)
  where
    new : get_or (placed p.so p.cells) i None ≡ Some c → slice_get field i ≡ Some c
    new here = elim (cases_lt i p.so) [
      | inl before ↦ let no : None ≡ Some c = sym (placed_before p.so p.cells i before) ∙ here in cc
      | inr from ↦
          let is : slice_get field (p.so + (i - p.so)) ≡ Some c =
          part.part (i - p.so) c (sym (placed_behind p.so p.cells i from) ∙ here) in
          let same : p.so + (i - p.so) ≡ i = omega (arith, from) in
          subst (λ (k : ℕ). slice_get field k ≡ Some c) same is
    ]

    go : (o : Option Cell) → get_or cells i None ≡ o → first_of o (get_or (placed p.so p.cells) i None) ≡ Some c
        → slice_get field i ≡ Some c
    go None was here = new here
    go (Some d) was here = f i c (was ∙ here)

-- ---- octets in sequence

pub lead-take : (cells : List (Option Cell)) (field : List Cell) → Fits cells field
    → leading cells ≡ somes (take (length (leading cells)) field)
lead-take [] field f = refl
lead-take (None ∷ cs) field f = refl
lead-take (Some c ∷ cs) [] f = let here : None ≡ Some c = f 0 c refl in cc
lead-take (Some c ∷ cs) (x ∷ xs) f =
    let here : Some x ≡ Some c = f 0 c refl in
    let rest : leading cs ≡ somes (take (length (leading cs)) xs) = lead-take cs xs (λ i d e. f (suc i) d e) in
    let same : x ≡ c = cc in
    rw same (ap (λ (ds : List (Option Cell)). Some c ∷ ds) rest)

lead-all : (cells : List (Option Cell)) (field : List Cell) → Fits cells field
    → ((i : ℕ) → i < length field → there cells i ≡ true) → leading cells ≡ somes field
lead-all [] [] f all = refl
lead-all [] (x ∷ xs) f all = let no : false ≡ true = all 0 (omega arith) in cc
lead-all (None ∷ cs) [] f all = refl
lead-all (None ∷ cs) (x ∷ xs) f all = let no : false ≡ true = all 0 (omega arith) in cc
lead-all (Some c ∷ cs) [] f all = let here : None ≡ Some c = f 0 c refl in cc
lead-all (Some c ∷ cs) (x ∷ xs) f all =
    let here : Some x ≡ Some c = f 0 c refl in
    let rest : leading cs ≡ somes xs =
    lead-all cs xs (λ i d e. f (suc i) d e) (λ i h. all (suc i) (omega (arith, h))) in
    let same : x ≡ c = cc in
    rw same (ap (λ (ds : List (Option Cell)). Some c ∷ ds) rest)

lead-drop : (cells : List (Option Cell)) (given : ℕ) → given ≤ length (leading cells)
    → take given (leading cells) ++ leading (drop given cells) ≡ leading cells
lead-drop cells zero h = refl
lead-drop [] (suc n) h = absurd (omega (arith, h))
lead-drop (None ∷ cs) (suc n) h = absurd (omega (arith, h))
lead-drop (Some c ∷ cs) (suc n) h = ap (λ (xs : List (Option Cell)). Some c ∷ xs) (lead-drop cs n (omega (arith, h)))

pub lead-count : (cells : List (Option Cell)) (given : ℕ) → given ≤ length (leading cells)
    → given + length (leading (drop given cells)) ≡ length (leading cells)
lead-count cells zero h = omega arith
lead-count [] (suc n) h = absurd (omega (arith, h))
lead-count (None ∷ cs) (suc n) h = absurd (omega (arith, h))
lead-count (Some c ∷ cs) (suc n) h = omega (arith, lead-count cs n (omega (arith, h)))

lead-over : (cs ns : List (Option Cell)) → length (leading cs) ≤ length (leading (over cs ns))
lead-over [] ns = omega arith
lead-over (None ∷ cs) ns = omega arith
lead-over (Some c ∷ cs) [] = omega arith
lead-over (Some c ∷ cs) (n ∷ ns) = omega (arith, lead-over cs ns)

lead-stops : (cells : List (Option Cell)) → get_or cells (length (leading cells)) None ≡ None
lead-stops [] = refl
lead-stops (None ∷ cs) = refl
lead-stops (Some c ∷ cs) = lead-stops cs

full-lead : (cells : List (Option Cell)) (size : Option ℕ) (field : List Cell) → Fits cells field
    → ((n : ℕ) → size ≡ Some n → n ≡ length field) → is_full cells size ≡ true → leading cells ≡ somes field
full-lead cells None field f s full = cc
full-lead cells (Some n) field f s full =
    lead-all cells field f (λ i h. let e : n ≡ length field = s n refl in
    holds-each cells n full i (omega (arith, e, h)))

take-somes : (n : ℕ) (xs : List Cell) → take n (somes xs) ≡ somes (take n xs)
take-somes zero xs = refl
take-somes (suc n) [] = refl
take-somes (suc n) (x ∷ xs) = ap (λ (cs : List (Option Cell)). Some x ∷ cs) (take-somes n xs)

take-take-le : (xs : List Cell) (m n : ℕ) → m ≤ n → take m (take n xs) ≡ take m xs
take-take-le xs zero n h = refl
take-take-le [] (suc m) zero h = absurd (omega (arith, h))
take-take-le [] (suc m) (suc n) h = refl
take-take-le (x ∷ xs) (suc m) zero h = absurd (omega (arith, h))
take-take-le (x ∷ xs) (suc m) (suc n) h = ap (λ (ys : List Cell). x ∷ ys) (take-take-le xs m n (omega (arith, h)))

-- what is put together of the stream up to a place
abbrev pub put_to : (ℕ → List Cell) → ℕ → ℕ → Joined
put_to field front given = joined empty (somes (stream_to field front given))

-- with the rest of what is held of the number in front
joins : (field : ℕ → List Cell) (front given : ℕ) (cells : List (Option Cell)) → Fits cells (field front)
    → given ≤ length (leading cells)
    → joined (put_to field front given) (leading (drop given cells))
    ≡ joined empty (somes (stream field front) ++ leading cells)
joins field front given cells f h =
    let begun : somes (take given (field front)) ≡ take given (leading cells) =
    ap (λ (xs : List Cell). somes xs) (sym (take-take-le (field front) given (length (leading cells)) h))
    ∙ sym (take-somes given (take (length (leading cells)) (field front)))
    ∙ ap (λ (cs : List (Option Cell)). take given cs) (sym (lead-take cells (field front) f)) in
    joined_append empty (somes (stream_to field front given)) (leading (drop given cells))
    ∙ ap (λ (cs : List (Option Cell)). joined empty cs)
    (ap (λ (cs : List (Option Cell)). cs ++ leading (drop given cells))
    (somes_append (stream field front) (take given (field front)))
    ∙ append_assoc (somes (stream field front)) (somes (take given (field front))) (leading (drop given cells))
    ∙ ap (λ (cs : List (Option Cell)). somes (stream field front) ++ cs)
    (ap (λ (cs : List (Option Cell)). cs ++ leading (drop given cells)) begun ∙ lead-drop cells given h))

handed-step : (field : ℕ → List Cell) (front given : ℕ) (h : Held) (hs : List Held) (b : Bool) → is_complete h ≡ b
    → SlotFits h (field front) → given ≤ length (leading h.cells)
    → (b ≡ true → handed_on (put_to field (front + 1) 0) hs 0
    ≡ put_to field (front + 1 + complete_first hs) (given_after hs 0))
    → (if b then handed_on (joined (put_to field front given) (leading (drop given h.cells))) hs 0
    else joined (put_to field front given) (leading (drop given h.cells)))
    ≡ put_to field (front + (if b then complete_first hs + 1 else 0))
    (if b then given_after hs 0 else given + length (leading (drop given h.cells)))
handed-step field front given h hs true full fits h_given rest =
    let whole : leading h.cells ≡ somes (field front) =
    full-lead h.cells h.size (field front) fits.cells fits.size full in
    let list : somes (stream field front) ++ leading h.cells ≡ somes (stream_to field (front + 1) 0) =
    ap (λ (cs : List (Option Cell)). somes (stream field front) ++ cs) whole
    ∙ sym (somes_append (stream field front) (field front))
    ∙ ap (λ (xs : List Cell). somes xs)
    (sym (ap (λ (n : ℕ). stream field n ++ []) (add-one front) ∙ append-nil (stream field front ++ field front))) in
    let one : joined (put_to field front given) (leading (drop given h.cells)) ≡ put_to field (front + 1) 0 =
    joins field front given h.cells fits.cells h_given ∙ ap (λ (cs : List (Option Cell)). joined empty cs) list in
    let same : front + 1 + complete_first hs ≡ front + (complete_first hs + 1) = omega arith in
    ap (λ (j : Joined). handed_on j hs 0) one ∙ rest refl ∙ ap (λ (n : ℕ). put_to field n (given_after hs 0)) same
handed-step field front given h hs false part fits h_given rest =
    let count : given + length (leading (drop given h.cells)) ≡ length (leading h.cells) =
    lead-count h.cells given h_given in
    let same : front ≡ front + 0 = omega arith in
    let list : somes (stream field front) ++ leading h.cells
    ≡ somes (stream_to field front (length (leading h.cells))) =
    ap (λ (cs : List (Option Cell)). somes (stream field front) ++ cs) (lead-take h.cells (field front) fits.cells)
    ∙ sym (somes_append (stream field front) (take (length (leading h.cells)) (field front))) in
    joins field front given h.cells fits.cells h_given
    ∙ ap (λ (cs : List (Option Cell)). joined empty cs) list
    ∙ ap (λ (n : ℕ). put_to field front n) (sym count)
    ∙ ap (λ (n : ℕ). put_to field n (given + length (leading (drop given h.cells)))) same

handed-total : (field : ℕ → List Cell) (slots : List Held) (front given : ℕ)
    → ((k : ℕ) → k < length slots → SlotFits (slot_at slots k) (field (front + k)))
    → given ≤ length (leading (slot_at slots 0).cells)
    → handed_on (put_to field front given) slots given
    ≡ put_to field (front + complete_first slots) (given_after slots given)
handed-total field [] front given fits h = let same : front ≡ front + 0 = omega arith in
    ap (λ (n : ℕ). put_to field n given) same
handed-total field (s ∷ ss) front given fits h =
    handed-step field front given s ss (is_complete s) refl
    (subst (λ (n : ℕ). SlotFits s (field n)) (omega arith) (fits 0 (omega arith))) h
    (λ full. handed-total field ss (front + 1) 0
    (λ k below. subst (λ (n : ℕ). SlotFits (slot_at ss k) (field n)) (omega arith)
    (fits (suc k) (omega (arith, below)))) (omega arith))

-- what is handed on of the number in front is what is held of it before the first gap
given-step : (given : ℕ) (h : Held) (hs : List Held) (b : Bool) → given ≤ length (leading h.cells)
    → (b ≡ true → given_after hs 0 ≡ length (leading (slot_at (drop (complete_first hs) hs) 0).cells))
    → (if b then given_after hs 0 else given + length (leading (drop given h.cells)))
    ≡ length (leading (slot_at (drop (if b then complete_first hs + 1 else 0) (h ∷ hs)) 0).cells)
given-step given h hs true le rest = rw (add-one (complete_first hs)) (rest refl)
given-step given h hs false le rest = lead-count h.cells given le

given-is : (slots : List Held) (given : ℕ) → (slots ≡ [] → given ≡ 0)
    → given ≤ length (leading (slot_at slots 0).cells)
    → given_after slots given ≡ length (leading (slot_at (drop (complete_first slots) slots) 0).cells)
given-is [] given none h = none refl
given-is (s ∷ ss) given none h =
    given-step given s ss (is_complete s) h (λ full. given-is ss 0 (λ e. refl) (omega arith))

-- ---- what holds along a run

pub record Flows (field : ℕ → List Cell) (f : Flow) : Type 0 where
  pub fits : (k : ℕ) → SlotFits (slot_at f.state.window.slots k) (field (f.state.window.front + k))
  pub given : f.state.window.given ≡ length (leading (slot_at f.state.window.slots 0).cells)
  pub total : behind f.gone f.state.out ≡ put_to field f.state.window.front f.state.window.given

nothing-fits : (field : List Cell) → IsField field → SlotFits nothing field
nothing-fits field is = record {
  cells = λ i c e. let no : None ≡ Some c = e in cc;
  size = λ n e. let no : None ≡ Some n = e in cc;
  short = λ e. omega (arith, is.some);
  within = omega arith;
}

told-fits : (o : Option ℕ) (last : Bool) (end n : ℕ) (field : List Cell) → ((m : ℕ) → o ≡ Some m → m ≡ length field)
    → (last ≡ true → end ≡ length field) → told_size o last end ≡ Some n → n ≡ length field
told-fits (Some m) last end n field was now e = was n e
told-fits None true end n field was now e = let same : Some end ≡ Some n = e in let same_end : end ≡ n = cc in
    sym same_end ∙ now refl
told-fits None false end n field was now e = let no : None ≡ Some n = e in cc

short-fits : (o : Option ℕ) (last : Bool) (end have : ℕ) (field : List Cell) → (o ≡ None → have < length field)
    → (last ≡ false → end < length field) → told_size o last end ≡ None → max have end < length field
short-fits (Some m) last end have field was now e = let no : Some m ≡ None = e in cc
short-fits None true end have field was now e = let no : Some end ≡ None = e in cc
short-fits None false end have field was now e = omega (arith, was refl, now refl)

piece-fits : (h : Held) (p : Piece) (poll : Bool) (field : List Cell) → IsPart field p → SlotFits h field
    → SlotFits (with_piece h p poll) field
piece-fits h p poll field part fits = record {
  cells = fits-laid h.cells p field part fits.cells;
  size = λ n e. told-fits h.size p.last (end_of p) n field fits.size part.last e;
  short = λ e. let less : max (length h.cells) (end_of p) < length field =
      short-fits h.size p.last (end_of p) (length h.cells) field fits.short part.on e in
      omega (arith, length_laid h.cells p.so p.cells, less);
  within = omega (arith, length_laid h.cells p.so p.cells, fits.within, end-within p.last refl);
}
  where
    end-within : (b : Bool) → p.last ≡ b → end_of p ≤ length field
    end-within true e = omega (arith, part.last e)
    end-within false e = omega (arith, part.on e)

kept-fits : (field : ℕ → List Cell) (w : RxWindow) (at : ℕ) (p : Piece) (poll : Bool) → IsPart (field (w.front + at)) p
    → ((k : ℕ) → SlotFits (slot_at w.slots k) (field (w.front + k))) → (k : ℕ)
    → SlotFits (slot_at (with_kept w at p poll).slots k) (field (w.front + k))
kept-fits field w at p poll part fits k = elim (cases_eq k at) [
  | inl same ↦ subst (λ (j : ℕ). SlotFits (slot_at (with_kept w at p poll).slots j) (field (w.front + j))) (sym same)
      (subst (λ (h : Held). SlotFits h (field (w.front + at))) (sym (kept-same w at p poll))
      (piece-fits (slot_at w.slots at) p poll (field (w.front + at)) part (fits at)))
  | inr other ↦ subst (λ (h : Held). SlotFits h (field (w.front + k))) (sym (kept-other w at p poll k other)) (fits k)
]

kept-lead : (w : RxWindow) (at : ℕ) (p : Piece) (poll : Bool)
    → length (leading (slot_at w.slots 0).cells) ≤ length (leading (slot_at (with_kept w at p poll).slots 0).cells)
kept-lead w at p poll = elim (cases_eq 0 at) [
  | inl same ↦ subst (λ (j : ℕ). length (leading (slot_at w.slots j).cells)
      ≤ length (leading (slot_at (with_kept w at p poll).slots j).cells)) (sym same)
      (subst (λ (x : Held). length (leading (slot_at w.slots at).cells) ≤ length (leading x.cells))
      (sym (kept-same w at p poll)) (lead-over (slot_at w.slots at).cells (placed p.so p.cells)))
  | inr other ↦ subst (λ (x : Held). length (leading (slot_at w.slots 0).cells) ≤ length (leading x.cells))
      (sym (kept-other w at p poll 0 other)) (omega arith)
]

-- the number that is read is the number that was sent, where a PDU is kept
pub number-sent : (field : ℕ → List Cell) (s : State) (p : AmdPdu) (n : ℕ) → IsSent field s p n
    → ltb (offset_of s.window.front p.sn) 512 ≡ true
    → IsPart (field (s.window.front + offset_of s.window.front p.sn)) (piece_of p)
number-sent field s p n sent below = elim (cases_lt n s.window.front) [
  | inl under ↦
      let far : 512 ≤ offset_of s.window.front (n % 1024) = offset-below s.window.front n under sent.from in
      let out : ltb (offset_of s.window.front p.sn) 512 ≡ false =
      rw sent.sn (le-ltb (offset_of s.window.front (n % 1024)) 512 far) in
      let no : true ≡ false = sym below ∙ out in cc
  | inr from ↦
      let is : offset_of s.window.front (n % 1024) ≡ n - s.window.front =
      offset-in s.window.front n from (omega (arith, sent.below)) in
      let number : s.window.front + offset_of s.window.front p.sn ≡ n = rw (sent.sn, is) (omega (arith, from)) in
      subst (λ (m : ℕ). IsPart (field m) (piece_of p)) (sym number) sent.part
]

pub kept-in : (s : State) (p : AmdPdu) → landed s p ≡ Kept → ltb (offset_of s.window.front p.sn) 512 ≡ true
kept-in s p e = go (leb 512 (offset_of s.window.front p.sn)) refl
  where
    go : (b : Bool) → leb 512 (offset_of s.window.front p.sn) ≡ b → ltb (offset_of s.window.front p.sn) 512 ≡ true
    go true out = let no : Outside ≡ Kept =
        sym
        (ap (λ (b : Bool). if b then Outside
        else landing (slice_get s.window.slots (offset_of s.window.front p.sn)) (piece_of p)) out) ∙ e in cc
    go false in_it = lt-ltb (offset_of s.window.front p.sn) 512 (leb-false 512 (offset_of s.window.front p.sn) in_it)

landing-flows : (field : ℕ → List Cell) (l : Landed) (s : State) (gone : List (List ℕ)) (p : AmdPdu)
    → (l ≡ Kept → IsPart (field (s.window.front + offset_of s.window.front p.sn)) (piece_of p))
    → Flows field (record { state = s; gone = gone })
    → Flows field (record { state = after_landing l s p; gone = gone })
landing-flows field Kept s gone p part h =
    let w : RxWindow = window_with s.window p in
    let fits : (k : ℕ) → SlotFits (slot_at w.slots k) (field (s.window.front + k)) =
    kept-fits field s.window (offset_of s.window.front p.sn) (piece_of p) p.poll (part refl) h.fits in
    let lead : length (leading (slot_at s.window.slots 0).cells) ≤ length (leading (slot_at w.slots 0).cells) =
    kept-lead s.window (offset_of s.window.front p.sn) (piece_of p) p.poll in
    let given : s.window.given ≤ length (leading (slot_at w.slots 0).cells) = omega (arith, h.given, lead) in
    record {
      fits = λ k.
          subst (λ (x : Held). SlotFits x (field (s.window.front + complete_first w.slots + k)))
          (sym (get_or-drop (complete_first w.slots) w.slots k nothing))
          (subst (λ (n : ℕ). SlotFits (slot_at w.slots (complete_first w.slots + k)) (field n)) (omega arith)
          (fits (complete_first w.slots + k)));
      given = given-is w.slots s.window.given (λ e. no-slots w.slots e given) given;
      total = sym (handed_behind gone s.out w.slots s.window.given)
          ∙ ap (λ (j : Joined). handed_on j w.slots s.window.given) h.total
          ∙ handed-total field w.slots s.window.front s.window.given (λ k below. fits k) given;
    }
  where
    no-slots : (slots : List Held) → slots ≡ [] → s.window.given ≤ length (leading (slot_at slots 0).cells)
        → s.window.given ≡ 0
    no-slots [] e le = omega (arith, le)
    no-slots (x ∷ xs) e le = cc
landing-flows field Repeat s gone p part h = record { fits = h.fits; given = h.given; total = h.total }
landing-flows field Outside s gone p part h = record { fits = h.fits; given = h.given; total = h.total }
landing-flows field Clash s gone p part h = record { fits = h.fits; given = h.given; total = h.total }

expiry-flows : (field : ℕ → List Cell) (m : Option ℕ) (s : State) (gone : List (List ℕ))
    → Flows field (record { state = s; gone = gone })
    → Flows field (record { state = after_reorder m s; gone = gone })
expiry-flows field None s gone h = h
expiry-flows field (Some x) s gone h = record { fits = h.fits; given = h.given; total = h.total }

up-behind : (gone ready : List (List ℕ)) (part : Option (List ℕ))
    → behind (gone ++ take 1 ready) (record { ready = drop 1 ready; part = part })
    ≡ behind gone (record { ready = ready; part = part })
up-behind gone ready part =
    ap (λ (r : List (List ℕ)). record { ready = r; part = part })
    (append_assoc gone (take 1 ready) (drop 1 ready)
    ∙ ap (λ (r : List (List ℕ)). gone ++ r) (take-append-drop 1 ready))

pub call-flows : (field : ℕ → List Cell) (f : Flow) (c : Call) → IsHonest field f.state c → Flows field f
    → Flows field (flows f c)
call-flows field f (Arrive p) honest h =
    landing-flows field (landed f.state p) f.state f.gone p
    (λ e. number-sent field f.state p honest.0 honest.1 (kept-in f.state p e))
    (record { fits = h.fits; given = h.given; total = h.total })
call-flows field f Up honest h =
    record { fits = h.fits; given = h.given; total = up-behind f.gone f.state.out.ready f.state.out.part ∙ h.total }
call-flows field f Write honest h = record { fits = h.fits; given = h.given; total = h.total }
call-flows field f ExpireReorder honest h =
    expiry-flows field f.state.mark f.state f.gone (record { fits = h.fits; given = h.given; total = h.total })
call-flows field f ExpireProhibit honest h = record { fits = h.fits; given = h.given; total = h.total }
call-flows field f TickReorder honest h = record { fits = h.fits; given = h.given; total = h.total }
call-flows field f TickProhibit honest h = record { fits = h.fits; given = h.given; total = h.total }

pub flow-flows : (field : ℕ → List Cell) (calls : List Call) (f : Flow) → AreHonest field f.state calls
    → Flows field f → Flows field (flow calls f)
flow-flows field [] f honest h = h
flow-flows field (c ∷ cs) f honest h = flow-flows field cs (flows f c) honest.1 (call-flows field f c honest.0 h)

pub initial-flows : (field : ℕ → List Cell) (config : AmRxConfig) → ((n : ℕ) → IsField (field n))
    → Flows field (initial config)
initial-flows field config is =
    record { fits = λ k. nothing-fits (field (0 + k)) (is (0 + k)); given = refl; total = refl }

pub in_sequence : (field : ℕ → List Cell) (config : AmRxConfig) (calls : List Call) → ((n : ℕ) → IsField (field n))
    → AreHonest field (initial config).state calls → IsInSequence field (flow calls (initial config))
in_sequence field config calls is honest =
    let f : Flow = flow calls (initial config) in
    let h : Flows field f = flow-flows field calls (initial config) honest (initial-flows field config is) in
    record {
      sdus = ap (λ (j : Joined). j.ready) h.total;
      part = ap (λ (j : Joined). j.part) h.total;
      missing = rw h.given (lead-stops (slot_at f.state.window.slots 0).cells);
    }
