-- What is kept of the numbers from VR(UR) on, and what those below it join to.
use Rattle.std.proofs.Common.{◌≡◌, ◌<◌, ◌≤◌, inl, inr, ℕ, suc, zero, ◌+◌, ◌-◌, true, false, List, [], ◌∷◌, ◌++◌, length}
use Rattle.std.proofs.Common.{take, drop, replicate, Option, Some, None, is_some, refl, ap, sym, subst, ◌∙◌, arith}
use Rattle.std.proofs.Common.{add-one, length-append, get_or-set_same, get_or-set_other, max, min}
use Rattle.std.proofs.lemmas.List.{get_or-drop, length-drop}
use Rattle.std.proofs.lemmas.Bool.{cases_eq, cases_lt}
use Rattle.std.proofs.Math.ListN.{length-set, length-replicate}
use Rattle.l2_num.specs.Least.{IsLeast}
use Rattle.journal_um.specs.declared.pieces.Piece.{Piece}
use Rattle.journal_um.specs.UmJoiner.{UmJoiner, with_pdu, with_pdus}
use Rattle.journal_um.specs.UmWindow.{UmWindow, pdu_at, leading, passed, grown, placed, with_placed}
use Rattle.journal_um.specs.UmFlow.{UmFlow, advanced, put, kept}

-- ---- the list

leading-le : (pdus : List (Option (List Piece))) → leading pdus ≤ length pdus
leading-le [] = omega arith
leading-le (None ∷ ss) = omega arith
leading-le (Some p ∷ ss) = let ih = leading-le ss in omega arith

leading-some : (pdus : List (Option (List Piece))) (k : ℕ) → k < leading pdus → is_some (pdu_at pdus k) ≡ true
leading-some [] k h = absurd (omega arith)
leading-some (None ∷ ss) k h = absurd (omega arith)
leading-some (Some p ∷ ss) zero h = refl
leading-some (Some p ∷ ss) (suc k) h = leading-some ss k (omega arith)

leading-stop : (pdus : List (Option (List Piece))) → is_some (pdu_at pdus (leading pdus)) ≡ false
leading-stop [] = refl
leading-stop (None ∷ ss) = refl
leading-stop (Some p ∷ ss) = rw (add-one (leading ss)) (leading-stop ss)

pdu-drop : (n k : ℕ) (pdus : List (Option (List Piece))) → pdu_at (drop n pdus) k ≡ pdu_at pdus (n + k)
pdu-drop n k pdus = get_or-drop n pdus k None

pdu-replicated : (n k : ℕ) → pdu_at (replicate n None) k ≡ None
pdu-replicated zero k = refl
pdu-replicated (suc n) zero = refl
pdu-replicated (suc n) (suc k) = pdu-replicated n k

pdu-padded : (pdus : List (Option (List Piece))) (n k : ℕ) → pdu_at (pdus ++ replicate n None) k ≡ pdu_at pdus k
pdu-padded [] n k = pdu-replicated n k
pdu-padded (s ∷ ss) n zero = refl
pdu-padded (s ∷ ss) n (suc k) = pdu-padded ss n k

length-grown : (pdus : List (Option (List Piece))) (size : ℕ) → length (grown pdus size) ≡ max (length pdus) size
length-grown pdus size =
    omega (
      arith,
      length-append pdus (replicate (size - length pdus) None),
      length-replicate {A = Option (List Piece)} (size - length pdus) None,
    )

length-placed : (pdus : List (Option (List Piece))) (at : ℕ) (p : List Piece)
    → length (placed pdus at p) ≡ max (length pdus) (at + 1)
length-placed pdus at p = length-set (grown pdus (at + 1)) at (Some p) ∙ length-grown pdus (at + 1)

placed-same : (pdus : List (Option (List Piece))) (at : ℕ) (p : List Piece) → pdu_at (placed pdus at p) at ≡ Some p
placed-same pdus at p =
    get_or-set_same (grown pdus (at + 1)) at (Some p) None (omega (arith, length-grown pdus (at + 1)))

placed-other : (pdus : List (Option (List Piece))) (at k : ℕ) (p : List Piece) → (k ≡ at → ⊥)
    → pdu_at (placed pdus at p) k ≡ pdu_at pdus k
placed-other pdus at k p other = get_or-set_other (grown pdus (at + 1)) at k (Some p) None other
    ∙ pdu-padded pdus (at + 1 - length pdus) k

-- ---- joining all numbers below one

abbrev pub below : (ℕ → Option (List Piece)) → ℕ → UmJoiner → UmJoiner
below pdus zero j = j
below pdus (suc n) j = with_pdu (pdus n) (below pdus n j)

below-next : (pdus : ℕ → Option (List Piece)) (n : ℕ) (j : UmJoiner)
    → below pdus (n + 1) j ≡ with_pdu (pdus n) (below pdus n j)
below-next pdus n j = rw (add-one n) refl

below-same : (n : ℕ) (p q : ℕ → Option (List Piece)) (j : UmJoiner) → ((k : ℕ) → k < n → p k ≡ q k)
    → below p n j ≡ below q n j
below-same zero p q j same = refl
below-same (suc n) p q j same =
    ap (λ (o : Option (List Piece)). with_pdu o (below p n j)) (same n (omega arith))
    ∙ ap (with_pdu (q n)) (below-same n p q j (λ k lt. same k (omega (arith, lt))))

pub joined-on : (n : ℕ) (p : ℕ → Option (List Piece)) (edge : ℕ) (pdus : List (Option (List Piece))) (j j0 : UmJoiner)
    → n ≤ length pdus → ((k : ℕ) → pdu_at pdus k ≡ p (edge + k)) → j ≡ below p edge j0
    → with_pdus (take n pdus) j ≡ below p (edge + n) j0
joined-on zero p edge pdus j j0 le are e = e ∙ ap (λ (m : ℕ). below p m j0) (omega arith)
joined-on (suc n) p edge [] j j0 le are e = absurd (omega (arith, le))
joined-on (suc n) p edge (x ∷ xs) j j0 le are e =
    let here : x ≡ p edge = are 0 ∙ ap p (omega arith) in
    let one : with_pdu x j ≡ below p (edge + 1) j0 =
    ap (λ (o : Option (List Piece)). with_pdu o j) here ∙ ap (with_pdu (p edge)) e ∙ sym (below-next p edge j0) in
    joined-on n p (edge + 1) xs (with_pdu x j) j0 (omega (arith, le)) (λ k. are (suc k) ∙ ap p (omega arith)) one
    ∙ ap (λ (m : ℕ). below p m j0) (omega arith)

-- ---- what is kept

-- of the numbers accepted, all from the base on below the edge; those from there on are kept, and those below it joined
pub record Holds (p : ℕ → Option (List Piece)) (base top : ℕ) (j0 : UmJoiner) (w : UmWindow) (j : UmJoiner)
    : Type 0 where
  pub from : base ≤ w.edge
  pub top_is : w.edge + length w.pdus ≡ top
  pub between : (n : ℕ) → base ≤ n → n < w.edge → is_some (p n) ≡ true
  pub are : (k : ℕ) → pdu_at w.pdus k ≡ p (w.edge + k)
  pub joined : j ≡ below p w.edge j0

-- and nothing at the edge
pub record Rests (p : ℕ → Option (List Piece)) (base top : ℕ) (j0 : UmJoiner) (w : UmWindow) (j : UmJoiner)
    : Type 0 where
  pub holds : Holds p base top j0 w j
  pub here : is_some (p w.edge) ≡ false

pub rests-least : (p : ℕ → Option (List Piece)) (base top : ℕ) (j0 : UmJoiner) (w : UmWindow) (j : UmJoiner)
    → Rests p base top j0 w j → IsLeast (λ n. is_some (p n)) base w.edge
rests-least p base top j0 w j r =
    record { from = r.holds.from; refused = r.here; before = λ n a b. r.holds.between n a b }

pub rests-same : (p q : ℕ → Option (List Piece)) (base top : ℕ) (j0 : UmJoiner) (w : UmWindow) (j : UmJoiner)
    → ((n : ℕ) → q n ≡ p n) → Rests p base top j0 w j → Rests q base top j0 w j
rests-same p q base top j0 w j same r =
    let h = r.holds in
    record {
      holds = record {
        from = h.from;
        top_is = h.top_is;
        between = λ n a b. ap is_some (same n) ∙ h.between n a b;
        are = λ k. h.are k ∙ sym (same (w.edge + k));
        joined = h.joined ∙ below-same w.edge p q j0 (λ k lt. sym (same k));
      };
      here = ap is_some (same w.edge) ∙ r.here;
    }

-- the edge moves by so many numbers
pub pass-holds : (p : ℕ → Option (List Piece)) (base base' top : ℕ) (j0 : UmJoiner) (w : UmWindow) (j : UmJoiner)
    (n : ℕ) → n ≤ length w.pdus → base ≤ base' → base' ≤ w.edge + n
    → ((k : ℕ) → k < n → base' ≤ w.edge + k → is_some (pdu_at w.pdus k) ≡ true) → Holds p base top j0 w j
    → Holds p base' top j0 (passed n w) (with_pdus (take n w.pdus) j)
pass-holds p base base' top j0 w j n within higher up all h =
    let all_of : min n (length w.pdus) ≡ n = omega (arith, within) in
    let there : length (drop n w.pdus) ≡ length w.pdus - n = length-drop n w.pdus in
    let t = h.top_is in
    record {
      from = omega (arith, all_of, up);
      top_is = omega (arith, all_of, there, t, within);
      between = λ k a b. elim (cases_lt k w.edge) [
        | inl lt ↦ h.between k (omega (arith, a, higher)) lt
        | inr le ↦
            let at : w.edge + (k - w.edge) ≡ k = omega (arith, le) in
            ap is_some (ap p (sym at) ∙ sym (h.are (k - w.edge)))
            ∙ all (k - w.edge) (omega (arith, all_of, b, le)) (omega (arith, a, at))
      ];
      are = λ k. pdu-drop n k w.pdus ∙ h.are (n + k) ∙ ap p (omega (arith, all_of));
      joined = joined-on n p w.edge w.pdus j j0 within h.are h.joined
          ∙ ap (λ (m : ℕ). below p (w.edge + m) j0) (sym all_of);
    }

-- it moves past the accepted numbers that stand first
pub advanced-rests : (p : ℕ → Option (List Piece)) (base top : ℕ) (j0 : UmJoiner) (f : UmFlow)
    → Holds p base top j0 f.window f.joiner
    → Rests p base top j0 (advanced f).window (advanced f).joiner
advanced-rests p base top j0 f h =
    let le = leading-le f.window.pdus in
    let from = h.from in
    let all_of : min (leading f.window.pdus) (length f.window.pdus) ≡ leading f.window.pdus = omega (arith, le) in
    record {
      holds = pass-holds p base base top j0 f.window f.joiner (leading f.window.pdus) le (omega arith)
          (omega (arith, from)) (λ k lt a. leading-some f.window.pdus k lt) h;
      here = ap is_some (ap p (omega (arith, all_of)) ∙ sym (h.are (leading f.window.pdus)))
          ∙ leading-stop f.window.pdus;
    }

-- a PDU is accepted at a place of the window
place-holds : (p q : ℕ → Option (List Piece)) (base top at : ℕ) (pieces : List Piece) (j0 : UmJoiner) (w : UmWindow)
    (j : UmJoiner) → q (w.edge + at) ≡ Some pieces → ((n : ℕ) → (n ≡ w.edge + at → ⊥) → q n ≡ p n)
    → Holds p base top j0 w j → Holds q base (max top (w.edge + at + 1)) j0 (with_placed at pieces w) j
place-holds p q base top at pieces j0 w j this others h =
    let len = length-placed w.pdus at pieces in
    let t = h.top_is in
    record {
      from = h.from;
      top_is = omega (arith, len, t);
      between = λ n a b. ap is_some (others n (λ e. omega (arith, b, e))) ∙ h.between n a b;
      are = λ k. elim (cases_eq k at) [
        | inl same ↦ subst (λ (i : ℕ). pdu_at (placed w.pdus at pieces) i ≡ q (w.edge + i)) (sym same)
            (placed-same w.pdus at pieces ∙ sym this)
        | inr other ↦ placed-other w.pdus at k pieces other ∙ h.are k
            ∙ sym (others (w.edge + k) (λ e. other (omega (arith, e))))
      ];
      joined = h.joined ∙ below-same w.edge p q j0 (λ k lt. sym (others k (λ e. omega (arith, lt, e))));
    }

pub kept-rests : (p q : ℕ → Option (List Piece)) (base top mark at : ℕ) (pieces : List Piece) (j0 : UmJoiner)
    (f : UmFlow) → base ≡ max (top - f.window.width) mark → 0 < f.window.width
    → at < length f.window.pdus + f.window.width → q (f.window.edge + at) ≡ Some pieces
    → ((n : ℕ) → (n ≡ f.window.edge + at → ⊥) → q n ≡ p n) → Holds p base top j0 f.window f.joiner
    → Rests q (max (max top (f.window.edge + at + 1) - f.window.width) mark) (max top (f.window.edge + at + 1)) j0
    (kept at pieces f).window (kept at pieces f).joiner
kept-rests p q base top mark at pieces j0 f is wide within this others h =
    let t = h.top_is in
    let from = h.from in
    let few : at + 1 - f.window.width ≤ length f.window.pdus = omega (arith, within) in
    let all_of : min (at + 1 - f.window.width) (length f.window.pdus) ≡ at + 1 - f.window.width = omega (arith, few) in
    let place : f.window.edge + min (at + 1 - f.window.width) (length f.window.pdus)
    + (at - (at + 1 - f.window.width)) ≡ f.window.edge + at = omega (arith, all_of, wide) in
    let moved : Holds p (max (max top (f.window.edge + at + 1) - f.window.width) mark) top j0
    (passed (at + 1 - f.window.width) f.window)
    (with_pdus (take (at + 1 - f.window.width) f.window.pdus) f.joiner) =
    pass-holds p base (max (max top (f.window.edge + at + 1) - f.window.width) mark) top j0 f.window f.joiner
    (at + 1 - f.window.width) few (omega (arith, is)) (omega (arith, is, from, t))
    (λ k lt a. absurd (omega (arith, lt, a))) h in
    let put_there : Holds q (max (max top (f.window.edge + at + 1) - f.window.width) mark)
    (max top (f.window.edge + min (at + 1 - f.window.width) (length f.window.pdus)
    + (at - (at + 1 - f.window.width)) + 1)) j0
    (with_placed (at - (at + 1 - f.window.width)) pieces (passed (at + 1 - f.window.width) f.window))
    (with_pdus (take (at + 1 - f.window.width) f.window.pdus) f.joiner) =
    place-holds p q (max (max top (f.window.edge + at + 1) - f.window.width) mark) top
    (at - (at + 1 - f.window.width)) pieces j0 (passed (at + 1 - f.window.width) f.window)
    (with_pdus (take (at + 1 - f.window.width) f.window.pdus) f.joiner)
    (ap q place ∙ this) (λ n e. others n (λ g. e (g ∙ sym place))) moved in
    advanced-rests q (max (max top (f.window.edge + at + 1) - f.window.width) mark)
    (max top (f.window.edge + at + 1)) j0 (put at pieces f)
    (subst (λ (x : ℕ). Holds q (max (max top (f.window.edge + at + 1) - f.window.width) mark) (max top (x + 1)) j0
    (put at pieces f).window (put at pieces f).joiner) place put_there)
