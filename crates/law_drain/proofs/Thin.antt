-- SDUs that ascend by COUNT, of which some go and more are acknowledged.
use Rattle.std.proofs.Common.{◌≡◌, ◌≤◌, inl, inr, ◌⊎◌, ℕ, zero, suc, ◌+◌, ◌-◌, Bool, true, false, not}
use Rattle.std.proofs.Common.{if◌then◌else◌, List, [], ◌∷◌, ◌++◌, map, Option, Some, None}
use Rattle.std.proofs.Common.{refl, ap, sym, subst, ◌∙◌, arith, nat_lt}
use Rattle.std.specs.Prelude.{slice_get, slice_set}
use Rattle.std.specs.List.{AllByRecursion}
use Rattle.pdcp_tx_store.specs.declared.given.Sent.{Sent}
use Rattle.pdcp_tx_store.specs.declared.given.Entry.{Entry}
use Rattle.pdcp_tx_store.specs.declared.given.Entry.TheVariants.{Data, Own, Gone}
use Rattle.pdcp_tx_store.specs.Given.{Given, trimmed, acked, acked_at, with_ack}
use Rattle.pdcp_tx_store.specs.Given.{first_open, first_unacked, tells, heard, untold, from_unacked}
use Rattle.pdcp_tx_store.specs.Given.{data_of}
use Rattle.pdcp_tx.specs.State.{or_else, low}

-- ---- SDUs by ascending COUNT, and the first that isn't acknowledged

abbrev pub low_of : List Sent → ℕ → ℕ
low_of xs n = or_else (first_unacked xs) n

abbrev pub IsAbove : ℕ → List Sent → Type 0
IsAbove m xs = AllByRecursion (λ x. x.acked ≡ false → m ≤ x.count) xs

-- they ascend from one on below an end, and none that isn't acknowledged lies below another
abbrev pub Ascend : ℕ → List Sent → ℕ → Type 0
Ascend low [] end = low ≤ end
Ascend low (x ∷ xs) end = (low ≤ x.count) × Ascend (x.count + 1) xs end

pub ascend-lower : (a b : ℕ) (xs : List Sent) (end : ℕ) → a ≤ b → Ascend b xs end → Ascend a xs end
ascend-lower a b [] end le h = omega (arith, le, h)
ascend-lower a b (x ∷ xs) end le h = (omega (arith, le, h.0), h.1)

pub ascend-above : (m a : ℕ) (xs : List Sent) (end : ℕ) → m ≤ a → Ascend a xs end → IsAbove m xs × (m ≤ end)
ascend-above m a [] end le h = (tt, omega (arith, le, h))
ascend-above m a (x ∷ xs) end le h =
    let rest = ascend-above m (x.count + 1) xs end (omega (arith, le, h.0)) h.1 in
    ((λ e. omega (arith, le, h.0), rest.0), rest.1)

pub above-low : (a : ℕ) (xs : List Sent) (end : ℕ) → Ascend a xs end
    → IsAbove (low_of xs end) xs × (low_of xs end ≤ end)
above-low a [] end h = (tt, omega arith)
above-low a (x ∷ xs) end h =
    by x.acked refl (above-low (x.count + 1) xs end h.1)
    (ascend-above x.count (x.count + 1) xs end (omega arith) h.1)
  where
    by : (b : Bool) → x.acked ≡ b → IsAbove (low_of xs end) xs × (low_of xs end ≤ end)
        → IsAbove x.count xs × (x.count ≤ end)
        → IsAbove (or_else (if b then first_unacked xs else Some x.count) end) (x ∷ xs)
        × (or_else (if b then first_unacked xs else Some x.count) end ≤ end)
    by true e ih here = ((λ off. let no' : true ≡ false = sym e ∙ off in cc, ih.0), ih.1)
    by false e ih here = ((λ off. omega arith, here.0), here.1)

pub low-least : (m : ℕ) (xs : List Sent) (n : ℕ) → IsAbove m xs → m ≤ n → m ≤ low_of xs n
low-least m [] n h le = le
low-least m (x ∷ xs) n h le = by x.acked refl (low-least m xs n h.1 le)
  where
    by : (b : Bool) → x.acked ≡ b → m ≤ low_of xs n
        → m ≤ or_else (if b then first_unacked xs else Some x.count) n
    by true e ih = ih
    by false e ih = h.0 e

-- ---- some of them, of which more may be acknowledged

abbrev pub IsLike : Sent → Sent → Type 0
IsLike x y = (y.count ≡ x.count) × (y.acked ≡ false → x.acked ≡ false)

abbrev pub Thin : List Sent → List Sent → Type 0
Thin [] [] = Unit {0}
Thin [] (y ∷ ys) = ⊥
Thin (x ∷ xs) [] = Unit {0}
Thin (x ∷ xs) (y ∷ ys) = (IsLike x y × Thin xs ys) ⊎ Thin xs (y ∷ ys)

pub thin-none : (xs : List Sent) → Thin xs []
thin-none [] = tt
thin-none (x ∷ xs) = tt

pub thin-more : (x : Sent) (xs ys : List Sent) → Thin xs ys → Thin (x ∷ xs) ys
thin-more x xs [] h = tt
thin-more x xs (y ∷ ys) h = inr h

pub thin-self : (xs : List Sent) → Thin xs xs
thin-self [] = tt
thin-self (x ∷ xs) = inl ((refl, λ e. e), thin-self xs)

pub thin-both : (xs ys zs : List Sent) → Thin xs ys → Thin ys zs → Thin xs zs
thin-both [] [] zs a b = b
thin-both [] (y ∷ ys) zs a b = absurd a
thin-both (x ∷ xs) ys [] a b = tt
thin-both (x ∷ xs) [] (z ∷ zs) a b = absurd b
thin-both (x ∷ xs) (y ∷ ys) (z ∷ zs) (inl like) (inl more) =
    inl ((more.0.0 ∙ like.0.0, λ e. like.0.1 (more.0.1 e)), thin-both xs ys zs like.1 more.1)
thin-both (x ∷ xs) (y ∷ ys) (z ∷ zs) (inl like) (inr more) = inr (thin-both xs ys (z ∷ zs) like.1 more)
thin-both (x ∷ xs) (y ∷ ys) (z ∷ zs) (inr less) b = inr (thin-both xs (y ∷ ys) (z ∷ zs) less b)

pub thin-then : (xs us ys vs : List Sent) → Thin xs us → Thin ys vs → Thin (xs ++ ys) (us ++ vs)
thin-then [] [] ys vs a b = b
thin-then [] (u ∷ us) ys vs a b = absurd a
thin-then (x ∷ xs) [] ys vs a b = thin-more x (xs ++ ys) vs (thin-then xs [] ys vs (thin-none xs) b)
thin-then (x ∷ xs) (u ∷ us) ys vs (inl like) b = inl (like.0, thin-then xs us ys vs like.1 b)
thin-then (x ∷ xs) (u ∷ us) ys vs (inr more) b = inr (thin-then xs (u ∷ us) ys vs more b)

pub thin-ascend : (a : ℕ) (xs ys : List Sent) (end : ℕ) → Thin xs ys → Ascend a xs end → Ascend a ys end
thin-ascend a [] [] end t h = h
thin-ascend a [] (y ∷ ys) end t h = absurd t
thin-ascend a (x ∷ xs) [] end t h =
    ascend-lower a (x.count + 1) [] end (omega (arith, h.0))
    (thin-ascend (x.count + 1) xs [] end (thin-none xs) h.1)
thin-ascend a (x ∷ xs) (y ∷ ys) end (inl like) h = (
  omega (arith, h.0, like.0.0),
  subst (λ (n : ℕ). Ascend (n + 1) ys end) (sym like.0.0) (thin-ascend (x.count + 1) xs ys end like.1 h.1),
)
thin-ascend a (x ∷ xs) (y ∷ ys) end (inr more) h =
    ascend-lower a (x.count + 1) (y ∷ ys) end (omega (arith, h.0))
    (thin-ascend (x.count + 1) xs (y ∷ ys) end more h.1)

pub thin-above : (m : ℕ) (xs ys : List Sent) → Thin xs ys → IsAbove m xs → IsAbove m ys
thin-above m [] [] t h = tt
thin-above m [] (y ∷ ys) t h = absurd t
thin-above m (x ∷ xs) [] t h = tt
thin-above m (x ∷ xs) (y ∷ ys) (inl like) h =
    ((λ e. let le = h.0 (like.0.1 e) in omega (arith, le, like.0.0)), thin-above m xs ys like.1 h.1)
thin-above m (x ∷ xs) (y ∷ ys) (inr more) h = thin-above m xs (y ∷ ys) more h.1

-- the first that isn't acknowledged doesn't come down
pub thin-low : (a : ℕ) (xs ys : List Sent) (end : ℕ) → Thin xs ys → Ascend a xs end → low_of xs end ≤ low_of ys end
thin-low a xs ys end t h =
    let all = above-low a xs end h in
    low-least (low_of xs end) ys end (thin-above (low_of xs end) xs ys t all.0) all.1

-- ---- what a sender keeps

pub trimmed-thin : (es : List Entry) → Thin (data_of es) (data_of (trimmed es))
trimmed-thin [] = tt
trimmed-thin (Data s ∷ es) = by s.acked (trimmed-thin es)
  where
    by : (b : Bool) → Thin (data_of es) (data_of (trimmed es))
        → Thin (s ∷ data_of es) (data_of (if not b then Data s ∷ es else trimmed es))
    by true ih = thin-more s (data_of es) (data_of (trimmed es)) ih
    by false ih = thin-self (s ∷ data_of es)
trimmed-thin (Own ∷ es) = thin-self (data_of es)
trimmed-thin (Gone ∷ es) = trimmed-thin es

pub set-thin : (es : List Entry) (k : ℕ) (e : Entry) → slice_get es k ≡ Some e
    → Thin (data_of es) (data_of (slice_set es k (acked e)))
set-thin [] k e at = tt
set-thin (Data s ∷ es) zero e at =
    let same : Data s ≡ e = ap (λ (o : Option Entry). from o) at in
    subst (λ (x : Entry). Thin (s ∷ data_of es) (data_of (acked x ∷ es))) same
    (inl ((refl, λ off. let no' : true ≡ false = off in cc), thin-self (data_of es)))
  where
    from : Option Entry → Entry
    from None = Data s
    from (Some x) = x
set-thin (Own ∷ es) zero e at =
    let same : Own ≡ e = ap (λ (o : Option Entry). from o) at in
    subst (λ (x : Entry). Thin (data_of es) (data_of (acked x ∷ es))) same (thin-self (data_of es))
  where
    from : Option Entry → Entry
    from None = Own
    from (Some x) = x
set-thin (Gone ∷ es) zero e at =
    let same : Gone ≡ e = ap (λ (o : Option Entry). from o) at in
    subst (λ (x : Entry). Thin (data_of es) (data_of (acked x ∷ es))) same (thin-self (data_of es))
  where
    from : Option Entry → Entry
    from None = Gone
    from (Some x) = x
set-thin (Data s ∷ es) (suc k) e at = inl ((refl, λ off. off), set-thin es k e at)
set-thin (Own ∷ es) (suc k) e at = set-thin es k e at
set-thin (Gone ∷ es) (suc k) e at = set-thin es k e at

pub acked-thin : (g : Given) (place : ℕ) → Thin (data_of g.entries) (data_of (with_ack g place).entries)
acked-thin g place = by (nat_lt place g.gone)
  where
    at : (o : Option Entry) → slice_get g.entries (place - g.gone) ≡ o
        → Thin (data_of g.entries) (data_of (acked_at o g.entries (place - g.gone)))
    at None e = thin-self (data_of g.entries)
    at (Some x) e = set-thin g.entries (place - g.gone) x e

    by : (b : Bool)
        → Thin (data_of g.entries)
        (data_of (acked_at (if b then None else slice_get g.entries (place - g.gone)) g.entries (place - g.gone)))
    by true = thin-self (data_of g.entries)
    by false = at (slice_get g.entries (place - g.gone)) refl

pub heard-thin : (from : ℕ) (bitmap : List ℕ) (es : List Entry)
    → Thin (data_of es) (data_of (map (heard from bitmap) es))
heard-thin from bitmap [] = tt
heard-thin from bitmap (Data s ∷ es) = by (tells from bitmap s.count) (heard-thin from bitmap es)
  where
    by : (b : Bool) → Thin (data_of es) (data_of (map (heard from bitmap) es))
        → Thin (s ∷ data_of es) (data_of ((if b then Gone else Data s) ∷ map (heard from bitmap) es))
    by true ih = thin-more s (data_of es) (data_of (map (heard from bitmap) es)) ih
    by false ih = inl ((refl, λ e. e), ih)
heard-thin from bitmap (Own ∷ es) = heard-thin from bitmap es
heard-thin from bitmap (Gone ∷ es) = heard-thin from bitmap es

pub untold-thin : (from : ℕ) (bitmap : List ℕ) (xs : List Sent) → Thin xs (untold from bitmap xs)
untold-thin from bitmap [] = tt
untold-thin from bitmap (x ∷ xs) = by (tells from bitmap x.count) (untold-thin from bitmap xs)
  where
    by : (b : Bool) → Thin xs (untold from bitmap xs)
        → Thin (x ∷ xs) (if b then untold from bitmap xs else x ∷ untold from bitmap xs)
    by true ih = thin-more x xs (untold from bitmap xs) ih
    by false ih = inl ((refl, λ e. e), ih)

pub unacked-thin : (xs : List Sent) → Thin xs (from_unacked xs)
unacked-thin [] = tt
unacked-thin (x ∷ xs) = by x.acked (unacked-thin xs)
  where
    by : (b : Bool) → Thin xs (from_unacked xs) → Thin (x ∷ xs) (if b then from_unacked xs else x ∷ xs)
    by true ih = thin-more x xs (from_unacked xs) ih
    by false ih = thin-self (x ∷ xs)

pub data-then : (es fs : List Entry) → data_of (es ++ fs) ≡ data_of es ++ data_of fs
data-then [] fs = refl
data-then (Data s ∷ es) fs = ap (λ (xs : List Sent). s ∷ xs) (data-then es fs)
data-then (Own ∷ es) fs = data-then es fs
data-then (Gone ∷ es) fs = data-then es fs

-- the first unconfirmed COUNT is that of the first that isn't acknowledged
pub open-low : (es : List Entry) (again : List Sent) (n : ℕ)
    → or_else (first_open es) (or_else (first_unacked again) n) ≡ low_of (data_of es ++ again) n
open-low [] again n = refl
open-low (Data s ∷ es) again n = by s.acked (open-low es again n)
  where
    by : (b : Bool) → or_else (first_open es) (or_else (first_unacked again) n) ≡ low_of (data_of es ++ again) n
        → or_else (if b then first_open es else Some s.count) (or_else (first_unacked again) n)
        ≡ or_else (if b then first_unacked (data_of es ++ again) else Some s.count) n
    by true ih = ih
    by false ih = refl
open-low (Own ∷ es) again n = open-low es again n
open-low (Gone ∷ es) again n = open-low es again n
