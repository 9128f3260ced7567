-- SDUs with their COUNTs: which of them there are, and what becomes of them.
use Rattle.std.proofs.Common.{◌≡◌, ◌<◌, ◌≤◌, ℕ, suc, ◌+◌, ◌-◌, ◌==◌, Bool, true, false, ◌||◌, nat_lt, if◌then◌else◌}
use Rattle.std.proofs.Common.{List, [], ◌∷◌, ◌++◌, length, map, drop, Some, slice_get, refl, ap, sym, ◌∙◌, arith}
use Rattle.std.proofs.Common.{inl, inr}
use Rattle.std.proofs.lemmas.Bool.{cases_lt, lt-ltb, le-ltb}
use Rattle.std.proofs.lemmas.List.{drop_all}
use Rattle.pdcp_tx_store.specs.declared.given.Sent.{Sent}
use Rattle.pdcp_tx_store.specs.Given.{tells, untold, from_unacked}
use Rattle.journal_takes.proofs.CountSets.{drop-step, drop-none}
use Rattle.law_takes.specs.Accounted.{numbered}

abbrev pub one : (ℕ → Bool) → ℕ → List ℕ → Sent
one acked count sdu = record { count = count; octets = sdu; acked = acked count }

-- the first of them, left out or not
pub first-of : (out acked : ℕ → Bool) (count : ℕ) (x : List ℕ) (xs : List (List ℕ)) (b : Bool) → out count ≡ b
    → numbered out acked count (x ∷ xs)
    ≡ (if b then numbered out acked (count + 1) xs else one acked count x ∷ numbered out acked (count + 1) xs)
first-of out acked count x xs b e =
    ap (λ (c : Bool). if c then numbered out acked (count + 1) xs
    else one acked count x ∷ numbered out acked (count + 1) xs) e

-- ---- they are the same

pub same-numbered : (out acked out' acked' : ℕ → Bool) (count : ℕ) (xs : List (List ℕ))
    → ((k : ℕ) → count ≤ k → k < count + length xs → out k ≡ out' k)
    → ((k : ℕ) → count ≤ k → k < count + length xs → out k ≡ false → acked k ≡ acked' k)
    → numbered out acked count xs ≡ numbered out' acked' count xs
same-numbered out acked out' acked' count [] o a = refl
same-numbered out acked out' acked' count (x ∷ xs) o a =
    by (out count) refl
    (same-numbered out acked out' acked' (count + 1) xs (λ k le lt. o k (omega (arith, le)) (omega (arith, lt)))
    (λ k le lt. a k (omega (arith, le)) (omega (arith, lt))))
  where
    here : out count ≡ out' count
    here = o count (omega arith) (omega arith)

    by : (b : Bool) → out count ≡ b → numbered out acked (count + 1) xs ≡ numbered out' acked' (count + 1) xs
        → numbered out acked count (x ∷ xs) ≡ numbered out' acked' count (x ∷ xs)
    by true e rest =
        first-of out acked count x xs true e ∙ rest ∙ sym (first-of out' acked' count x xs true (sym here ∙ e))
    by false e rest =
        first-of out acked count x xs false e
        ∙ ap (λ (b : Bool). record { count = count; octets = x; acked = b } ∷ numbered out acked (count + 1) xs)
        (a count (omega arith) (omega arith) e)
        ∙ ap (λ (l : List Sent). one acked' count x ∷ l) rest
        ∙ sym (first-of out' acked' count x xs false (sym here ∙ e))

-- those below a COUNT are left out
pub without-front : (out acked : ℕ → Bool) (count low : ℕ) (xs : List (List ℕ)) → count ≤ low
    → ((k : ℕ) → count ≤ k → k < low → out k ≡ true)
    → numbered out acked count xs ≡ numbered out acked low (drop (low - count) xs)
without-front out acked count low [] le o =
    ap (numbered out acked low) (sym (drop_all (low - count) [] (omega arith)))
without-front out acked count low (x ∷ xs) le o = elim (cases_lt count low) [
  | inl lt ↦
      first-of out acked count x xs true (o count (omega arith) lt)
      ∙ without-front out acked (count + 1) low xs (omega (arith, lt)) (λ k a b. o k (omega (arith, a)) b)
      ∙ ap (numbered out acked low) (sym (drop-step (x ∷ xs) low count lt))
  | inr ge ↦
      let is : count ≡ low = omega (arith, le, ge) in
      ap (λ (n : ℕ). numbered out acked n (x ∷ xs)) is
      ∙ ap (numbered out acked low) (sym (drop-none (x ∷ xs) low count ge))
]

pub all-left-out : (out acked : ℕ → Bool) (count : ℕ) (xs : List (List ℕ))
    → ((k : ℕ) → count ≤ k → k < count + length xs → out k ≡ true) → numbered out acked count xs ≡ []
all-left-out out acked count [] o = refl
all-left-out out acked count (x ∷ xs) o =
    first-of out acked count x xs true (o count (omega arith) (omega arith))
    ∙ all-left-out out acked (count + 1) xs (λ k a b. o k (omega (arith, a)) (omega (arith, b)))

-- one more behind them
pub one-behind : (out acked : ℕ → Bool) (count : ℕ) (xs : List (List ℕ)) (y : List ℕ) (end : ℕ)
    → count + length xs ≡ end
    → numbered out acked count (xs ++ y ∷ []) ≡ numbered out acked count xs ++ numbered out acked end (y ∷ [])
one-behind out acked count [] y end is =
    let same : count ≡ end = omega (arith, is) in
    ap (λ (n : ℕ). numbered out acked n (y ∷ [])) same
one-behind out acked count (x ∷ xs) y end is =
    by (out count) refl (one-behind out acked (count + 1) xs y end (omega (arith, is)))
  where
    by : (b : Bool) → out count ≡ b → numbered out acked (count + 1) (xs ++ y ∷ [])
        ≡ numbered out acked (count + 1) xs ++ numbered out acked end (y ∷ [])
        → numbered out acked count (x ∷ xs ++ y ∷ [])
        ≡ numbered out acked count (x ∷ xs) ++ numbered out acked end (y ∷ [])
    by true e rest =
        first-of out acked count x (xs ++ y ∷ []) true e ∙ rest
        ∙ ap (λ (l : List Sent). l ++ numbered out acked end (y ∷ [])) (sym (first-of out acked count x xs true e))
    by false e rest =
        first-of out acked count x (xs ++ y ∷ []) false e ∙ ap (λ (l : List Sent). one acked count x ∷ l) rest
        ∙ ap (λ (l : List Sent). l ++ numbered out acked end (y ∷ [])) (sym (first-of out acked count x xs false e))

-- ---- the first that isn't left out

abbrev pub out-to : ℕ → (ℕ → Bool) → ℕ → Bool
out-to low out count = nat_lt count low || out count

pub below-is-out : (low count : ℕ) (out : ℕ → Bool) → count < low → out-to low out count ≡ true
below-is-out low count out lt = ap (λ (b : Bool). b || out count) (lt-ltb count low lt)

pub above-is-as : (low count : ℕ) (out : ℕ → Bool) → low ≤ count → out-to low out count ≡ out count
above-is-as low count out le = ap (λ (b : Bool). b || out count) (le-ltb count low le)

pub record Head (out acked : ℕ → Bool) (count first : ℕ) (xs : List (List ℕ)) : Type 0 where
  pub sdu : List ℕ
  pub there : slice_get xs (first - count) ≡ Some sdu
  pub is : numbered out acked count xs
      ≡ one acked first sdu ∷ numbered (out-to (first + 1) out) acked count xs

pub head : (out acked : ℕ → Bool) (count first : ℕ) (xs : List (List ℕ)) → count ≤ first
    → first < count + length xs → ((k : ℕ) → count ≤ k → k < first → out k ≡ true) → out first ≡ false
    → Head out acked count first xs
head out acked count first [] le lt o f = absurd (omega (arith, le, lt))
head out acked count first (x ∷ xs) le lt o f = elim (cases_lt count first) [
  | inl below ↦
      let h = head out acked (count + 1) first xs (omega (arith, below)) (omega (arith, lt))
      (λ k a b. o k (omega (arith, a)) b) f in
      further h below
  | inr above ↦ here (omega (arith, le, above))
]
  where
    further : Head out acked (count + 1) first xs → count < first → Head out acked count first (x ∷ xs)
    further h below = record {
      sdu = h.sdu;
      there = behind (first - count) (omega arith) h.there;
      is = first-of out acked count x xs true (o count (omega arith) below) ∙ h.is
          ∙ ap (λ (l : List Sent). one acked first h.sdu ∷ l)
          (sym (first-of (out-to (first + 1) out) acked count x xs true
          (below-is-out (first + 1) count out (omega (arith, below)))));
    }
      where
        behind : (k : ℕ) → k ≡ suc (first - (count + 1)) → slice_get xs (first - (count + 1)) ≡ Some h.sdu
            → slice_get (x ∷ xs) k ≡ Some h.sdu
        behind k is there = rw is there

    here : count ≡ first → Head out acked count first (x ∷ xs)
    here is = record {
      sdu = x;
      there = ap (slice_get (x ∷ xs)) at0;
      is = first-of out acked count x xs false (ap out is ∙ f)
          ∙ ap (λ (n : ℕ). one acked n x ∷ numbered out acked (count + 1) xs) is
          ∙ ap (λ (l : List Sent). one acked first x ∷ l) (rest
          ∙ sym (first-of (out-to (first + 1) out) acked count x xs true
          (below-is-out (first + 1) count out (omega (arith, is)))));
    }
      where
        at0 : first - count ≡ 0
        at0 = omega (arith, is)

        rest : numbered out acked (count + 1) xs ≡ numbered (out-to (first + 1) out) acked (count + 1) xs
        rest =
            same-numbered out acked (out-to (first + 1) out) acked (count + 1) xs
            (λ k a b. sym (above-is-as (first + 1) k out (omega (arith, a, is)))) (λ k a b e. refl)

-- ---- what becomes of them

-- from the first on that isn't confirmed
pub from-first : (out acked : ℕ → Bool) (count first : ℕ) (xs : List (List ℕ)) → count ≤ first
    → ((k : ℕ) → count ≤ k → k < first → (out k || acked k) ≡ true)
    → (first < count + length xs → (out first ≡ false) × (acked first ≡ false))
    → from_unacked (numbered out acked count xs) ≡ numbered (out-to first out) acked count xs
from-first out acked count first [] le o f = refl
from-first out acked count first (x ∷ xs) le o f = elim (cases_lt count first) [
  | inl below ↦
      by (out count) refl (o count (omega arith) below)
      (from-first out acked (count + 1) first xs (omega (arith, below)) (λ k a b. o k (omega (arith, a)) b)
      (λ lt. f (omega (arith, lt)))) below
  | inr above ↦ here (omega (arith, le, above)) (f (omega (arith, le, above)))
]
  where
    by : (b : Bool) → out count ≡ b → (out count || acked count) ≡ true
        → from_unacked (numbered out acked (count + 1) xs) ≡ numbered (out-to first out) acked (count + 1) xs
        → count < first
        → from_unacked (numbered out acked count (x ∷ xs)) ≡ numbered (out-to first out) acked count (x ∷ xs)
    by true e passes rest below =
        ap from_unacked (first-of out acked count x xs true e) ∙ rest
        ∙ sym (first-of (out-to first out) acked count x xs true (below-is-out first count out below))
    by false e passes rest below =
        let yes : acked count ≡ true = sym (ap (λ (b : Bool). b || acked count) e) ∙ passes in
        ap from_unacked (first-of out acked count x xs false e)
        ∙ ap (λ (b : Bool). if b then from_unacked (numbered out acked (count + 1) xs)
        else one acked count x ∷ numbered out acked (count + 1) xs) yes
        ∙ rest ∙ sym (first-of (out-to first out) acked count x xs true (below-is-out first count out below))

    here : count ≡ first → (out first ≡ false) × (acked first ≡ false)
        → from_unacked (numbered out acked count (x ∷ xs)) ≡ numbered (out-to first out) acked count (x ∷ xs)
    here is g =
        let none : out count ≡ false = ap out is ∙ g.0 in
        let open' : acked count ≡ false = ap acked is ∙ g.1 in
        ap from_unacked (first-of out acked count x xs false none)
        ∙ ap (λ (b : Bool). if b then from_unacked (numbered out acked (count + 1) xs)
        else one acked count x ∷ numbered out acked (count + 1) xs) open'
        ∙ ap (λ (l : List Sent). one acked count x ∷ l) rest
        ∙ sym (first-of (out-to first out) acked count x xs false
        (above-is-as first count out (omega (arith, is)) ∙ none))
      where
        rest : numbered out acked (count + 1) xs ≡ numbered (out-to first out) acked (count + 1) xs
        rest =
            same-numbered out acked (out-to first out) acked (count + 1) xs
            (λ k a b. sym (above-is-as first k out (omega (arith, a, is)))) (λ k a b e. refl)

-- but for those that a report tells
pub without-told : (out acked : ℕ → Bool) (from : ℕ) (bitmap : List ℕ) (count : ℕ) (xs : List (List ℕ))
    → untold from bitmap (numbered out acked count xs)
    ≡ numbered (λ k. out k || tells from bitmap k) acked count xs
without-told out acked from bitmap count [] = refl
without-told out acked from bitmap count (x ∷ xs) =
    by (out count) (tells from bitmap count) refl refl (without-told out acked from bitmap (count + 1) xs)
  where
    by : (b c : Bool) → out count ≡ b → tells from bitmap count ≡ c
        → untold from bitmap (numbered out acked (count + 1) xs)
        ≡ numbered (λ k. out k || tells from bitmap k) acked (count + 1) xs
        → untold from bitmap (numbered out acked count (x ∷ xs))
        ≡ numbered (λ k. out k || tells from bitmap k) acked count (x ∷ xs)
    by true c e f rest =
        ap (untold from bitmap) (first-of out acked count x xs true e) ∙ rest
        ∙ sym (first-of (λ k. out k || tells from bitmap k) acked count x xs true
        (ap (λ (b : Bool). b || tells from bitmap count) e))
    by false true e f rest =
        ap (untold from bitmap) (first-of out acked count x xs false e)
        ∙ ap (λ (b : Bool). if b then untold from bitmap (numbered out acked (count + 1) xs)
        else one acked count x ∷ untold from bitmap (numbered out acked (count + 1) xs)) f
        ∙ rest
        ∙ sym (first-of (λ k. out k || tells from bitmap k) acked count x xs true
        (ap (λ (b : Bool). b || tells from bitmap count) e ∙ f))
    by false false e f rest =
        ap (untold from bitmap) (first-of out acked count x xs false e)
        ∙ ap (λ (b : Bool). if b then untold from bitmap (numbered out acked (count + 1) xs)
        else one acked count x ∷ untold from bitmap (numbered out acked (count + 1) xs)) f
        ∙ ap (λ (l : List Sent). one acked count x ∷ l) rest
        ∙ sym (first-of (λ k. out k || tells from bitmap k) acked count x xs false
        (ap (λ (b : Bool). b || tells from bitmap count) e ∙ f))

-- with one more that is confirmed
abbrev pub marked : ℕ → Sent → Sent
marked count x = record x { acked = (count == x.count) || x.acked }

pub with-mark : (out acked : ℕ → Bool) (mark count : ℕ) (xs : List (List ℕ))
    → map (marked mark) (numbered out acked count xs) ≡ numbered out (λ k. (mark == k) || acked k) count xs
with-mark out acked mark count [] = refl
with-mark out acked mark count (x ∷ xs) = by (out count) refl (with-mark out acked mark (count + 1) xs)
  where
    by : (b : Bool) → out count ≡ b → map (marked mark) (numbered out acked (count + 1) xs)
        ≡ numbered out (λ k. (mark == k) || acked k) (count + 1) xs
        → map (marked mark) (numbered out acked count (x ∷ xs))
        ≡ numbered out (λ k. (mark == k) || acked k) count (x ∷ xs)
    by true e rest =
        ap (map (marked mark)) (first-of out acked count x xs true e) ∙ rest
        ∙ sym (first-of out (λ k. (mark == k) || acked k) count x xs true e)
    by false e rest =
        ap (map (marked mark)) (first-of out acked count x xs false e)
        ∙ ap (λ (l : List Sent). one (λ k. (mark == k) || acked k) count x ∷ l) rest
        ∙ sym (first-of out (λ k. (mark == k) || acked k) count x xs false e)
