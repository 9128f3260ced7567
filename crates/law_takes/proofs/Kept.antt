-- What a sender keeps of the SDUs that it gave RLC, and what the next life takes again of them.
use Rattle.std.proofs.Common.{◌≡◌, ◌<◌, ◌≤◌, ℕ, zero, suc, ◌+◌, ◌-◌, ◌==◌, Bool, true, false, ◌||◌, nat_lt}
use Rattle.std.proofs.Common.{if◌then◌else◌, List, [], ◌∷◌, ◌++◌, map, Some, None, slice_get, slice_set, refl}
use Rattle.std.proofs.Common.{ap, sym, ◌∙◌, arith, append_assoc, subst}
use Rattle.std.proofs.lemmas.Bool.{eq-eqb, ne_eqb}
use Rattle.std.proofs.lemmas.List.{append-nil}
use Rattle.l2_num.specs.Ascending.{AreBetween}
use Rattle.pdcp_tx_store.specs.declared.given.Sent.{Sent}
use Rattle.pdcp_tx_store.specs.declared.given.Entry.{Entry}
use Rattle.pdcp_tx_store.specs.declared.given.Entry.TheVariants.{Data, Own, Gone}
use Rattle.pdcp_tx_store.specs.Given.{Given, trimmed, acked, entry_at, first_open, first_unacked, tells}
use Rattle.pdcp_tx_store.specs.Given.{heard, untold, from_unacked, data_of}
use Rattle.pdcp_tx.specs.State.{State, or_else, low, kept_again, first_again}
use Rattle.law_takes.proofs.Numbered.{marked}

abbrev pub counts : List Sent → List ℕ
counts ss = map (λ x. x.count) ss

-- ---- from the first that RLC hasn't acknowledged

pub unacked-step : (x : Sent) (xs : List Sent) (b : Bool) → x.acked ≡ b
    → from_unacked (x ∷ xs) ≡ (if b then from_unacked xs else x ∷ xs)
unacked-step x xs b e = ap (λ (c : Bool). if c then from_unacked xs else x ∷ xs) e

pub unacked-once : (xs : List Sent) → from_unacked (from_unacked xs) ≡ from_unacked xs
unacked-once [] = refl
unacked-once (x ∷ xs) = by x.acked refl (unacked-once xs)
  where
    by : (b : Bool) → x.acked ≡ b → from_unacked (from_unacked xs) ≡ from_unacked xs
        → from_unacked (from_unacked (x ∷ xs)) ≡ from_unacked (x ∷ xs)
    by true e rest = ap from_unacked (unacked-step x xs true e) ∙ rest ∙ sym (unacked-step x xs true e)
    by false e rest = ap from_unacked (unacked-step x xs false e)

-- what is kept from there on is so already
pub kept-once : (ss kept : List Sent) → from_unacked ss ≡ kept → from_unacked ss ≡ from_unacked kept
kept-once ss kept e = sym (unacked-once ss) ∙ ap from_unacked e

-- one more behind them that isn't acknowledged
pub unacked-behind : (xs : List Sent) (y : Sent) → y.acked ≡ false
    → from_unacked (xs ++ y ∷ []) ≡ from_unacked xs ++ y ∷ []
unacked-behind [] y e = unacked-step y [] false e
unacked-behind (x ∷ xs) y e = by x.acked refl (unacked-behind xs y e)
  where
    by : (b : Bool) → x.acked ≡ b → from_unacked (xs ++ y ∷ []) ≡ from_unacked xs ++ y ∷ []
        → from_unacked (x ∷ xs ++ y ∷ []) ≡ from_unacked (x ∷ xs) ++ y ∷ []
    by true f rest =
        unacked-step x (xs ++ y ∷ []) true f ∙ rest
        ∙ ap (λ (l : List Sent). l ++ y ∷ []) (sym (unacked-step x xs true f))
    by false f rest =
        unacked-step x (xs ++ y ∷ []) false f ∙ ap (λ (l : List Sent). l ++ y ∷ []) (sym (unacked-step x xs false f))

or-true : (a b : Bool) → b ≡ true → (a || b) ≡ true
or-true true b e = refl
or-true false b e = e

-- what is acknowledged stays so
pub unacked-marked : (count : ℕ) (xs : List Sent)
    → from_unacked (map (marked count) xs) ≡ from_unacked (map (marked count) (from_unacked xs))
unacked-marked count [] = refl
unacked-marked count (x ∷ xs) = by x.acked refl (unacked-marked count xs)
  where
    by : (b : Bool) → x.acked ≡ b
        → from_unacked (map (marked count) xs) ≡ from_unacked (map (marked count) (from_unacked xs))
        → from_unacked (map (marked count) (x ∷ xs)) ≡ from_unacked (map (marked count) (from_unacked (x ∷ xs)))
    by true e rest =
        unacked-step (marked count x) (map (marked count) xs) true (or-true (count == x.count) x.acked e) ∙ rest
        ∙ ap (λ (l : List Sent). from_unacked (map (marked count) l)) (sym (unacked-step x xs true e))
    by false e rest = ap (λ (l : List Sent). from_unacked (map (marked count) l)) (sym (unacked-step x xs false e))

untold-step : (from : ℕ) (bitmap : List ℕ) (x : Sent) (xs : List Sent) (b : Bool) → tells from bitmap x.count ≡ b
    → untold from bitmap (x ∷ xs) ≡ (if b then untold from bitmap xs else x ∷ untold from bitmap xs)
untold-step from bitmap x xs b e =
    ap (λ (c : Bool). if c then untold from bitmap xs else x ∷ untold from bitmap xs) e

pub unacked-untold : (from : ℕ) (bitmap : List ℕ) (xs : List Sent)
    → from_unacked (untold from bitmap xs) ≡ from_unacked (untold from bitmap (from_unacked xs))
unacked-untold from bitmap [] = refl
unacked-untold from bitmap (x ∷ xs) =
    by x.acked (tells from bitmap x.count) refl refl (unacked-untold from bitmap xs)
  where
    by : (b c : Bool) → x.acked ≡ b → tells from bitmap x.count ≡ c
        → from_unacked (untold from bitmap xs) ≡ from_unacked (untold from bitmap (from_unacked xs))
        → from_unacked (untold from bitmap (x ∷ xs)) ≡ from_unacked (untold from bitmap (from_unacked (x ∷ xs)))
    by true true e f rest =
        ap from_unacked (untold-step from bitmap x xs true f) ∙ rest
        ∙ ap (λ (l : List Sent). from_unacked (untold from bitmap l)) (sym (unacked-step x xs true e))
    by true false e f rest =
        ap from_unacked (untold-step from bitmap x xs false f)
        ∙ unacked-step x (untold from bitmap xs) true e ∙ rest
        ∙ ap (λ (l : List Sent). from_unacked (untold from bitmap l)) (sym (unacked-step x xs true e))
    by false c e f rest =
        ap (λ (l : List Sent). from_unacked (untold from bitmap l)) (sym (unacked-step x xs false e))

pub untold-more : (from : ℕ) (bitmap : List ℕ) (xs ys : List Sent)
    → untold from bitmap (xs ++ ys) ≡ untold from bitmap xs ++ untold from bitmap ys
untold-more from bitmap [] ys = refl
untold-more from bitmap (x ∷ xs) ys = by (tells from bitmap x.count) refl (untold-more from bitmap xs ys)
  where
    by : (b : Bool) → tells from bitmap x.count ≡ b
        → untold from bitmap (xs ++ ys) ≡ untold from bitmap xs ++ untold from bitmap ys
        → untold from bitmap (x ∷ xs ++ ys) ≡ untold from bitmap (x ∷ xs) ++ untold from bitmap ys
    by true f rest =
        untold-step from bitmap x (xs ++ ys) true f ∙ rest
        ∙ ap (λ (l : List Sent). l ++ untold from bitmap ys) (sym (untold-step from bitmap x xs true f))
    by false f rest =
        untold-step from bitmap x (xs ++ ys) false f ∙ ap (λ (l : List Sent). x ∷ l) rest
        ∙ ap (λ (l : List Sent). l ++ untold from bitmap ys) (sym (untold-step from bitmap x xs false f))

-- ---- entries, and the SDUs among them

pub data-more : (es fs : List Entry) → data_of (es ++ fs) ≡ data_of es ++ data_of fs
data-more [] fs = refl
data-more (Data x ∷ es) fs = ap (λ (l : List Sent). x ∷ l) (data-more es fs)
data-more (Own ∷ es) fs = data-more es fs
data-more (Gone ∷ es) fs = data-more es fs

-- the first of those that are to be taken again is
pub data-again : (es : List Entry) (x : Sent) (xs : List Sent)
    → data_of (es ++ Data x ∷ []) ++ xs ≡ data_of es ++ x ∷ xs
data-again es x xs =
    ap (λ (l : List Sent). l ++ xs) (data-more es (Data x ∷ [])) ∙ append_assoc (data_of es) (x ∷ []) xs

-- the own report is
pub data-own : (es : List Entry) → data_of (es ++ Own ∷ []) ≡ data_of es
data-own es = data-more es (Own ∷ []) ∙ append-nil (data_of es)

-- what is confirmed at the front isn't taken again
pub trims-kept : (es : List Entry) (ss : List Sent)
    → from_unacked (data_of (trimmed es) ++ ss) ≡ from_unacked (data_of es ++ ss)
trims-kept [] ss = refl
trims-kept (Data x ∷ es) ss = by x.acked refl (trims-kept es ss)
  where
    by : (b : Bool) → x.acked ≡ b → from_unacked (data_of (trimmed es) ++ ss) ≡ from_unacked (data_of es ++ ss)
        → from_unacked (data_of (trimmed (Data x ∷ es)) ++ ss) ≡ from_unacked (data_of (Data x ∷ es) ++ ss)
    by true e rest = rw e rest
    by false e rest = rw e refl
trims-kept (Own ∷ es) ss = refl
trims-kept (Gone ∷ es) ss = trims-kept es ss

pub lower : (a b : ℕ) (ns : List ℕ) (end : ℕ) → a ≤ b → AreBetween b ns end → AreBetween a ns end
lower a b [] end le h = omega (arith, h)
lower a b (n ∷ ns) end le h = (omega (arith, le, h.0), h.1)

pub higher : (low : ℕ) (ns : List ℕ) (end more : ℕ) → end ≤ more → AreBetween low ns end → AreBetween low ns more
higher low [] end more le h = omega (arith, le, h)
higher low (n ∷ ns) end more le h = (h.0, higher (n + 1) ns end more le h.1)

pub trims-between : (low : ℕ) (es : List Entry) (end : ℕ) → AreBetween low (counts (data_of es)) end
    → AreBetween low (counts (data_of (trimmed es))) end
trims-between low [] end h = h
trims-between low (Data x ∷ es) end h = by x.acked refl (trims-between (x.count + 1) es end h.1)
  where
    by : (b : Bool) → x.acked ≡ b → AreBetween (x.count + 1) (counts (data_of (trimmed es))) end
        → AreBetween low (counts (data_of (trimmed (Data x ∷ es)))) end
    by true e rest =
        rw e (lower low (x.count + 1) (counts (data_of (trimmed es))) end (omega (arith, h.0)) rest)
    by false e rest = rw e h
trims-between low (Own ∷ es) end h = h
trims-between low (Gone ∷ es) end h = trims-between low es end h

pub grows : (low : ℕ) (xs : List Sent) (x : Sent) (end : ℕ) → x.count ≡ end → AreBetween low (counts xs) end
    → AreBetween low (counts (xs ++ x ∷ [])) (end + 1)
grows low [] x end is h = (omega (arith, is, h), omega (arith, is))
grows low (y ∷ ys) x end is h = (h.0, grows (y.count + 1) ys x end is h.1)

-- ---- a report has come

pub data-heard : (from : ℕ) (bitmap : List ℕ) (es : List Entry)
    → data_of (map (heard from bitmap) es) ≡ untold from bitmap (data_of es)
data-heard from bitmap [] = refl
data-heard from bitmap (Data x ∷ es) = by (tells from bitmap x.count) refl (data-heard from bitmap es)
  where
    by : (b : Bool) → tells from bitmap x.count ≡ b
        → data_of (map (heard from bitmap) es) ≡ untold from bitmap (data_of es)
        → data_of (map (heard from bitmap) (Data x ∷ es)) ≡ untold from bitmap (data_of (Data x ∷ es))
    by true e rest = rw e rest
    by false e rest = rw e (ap (λ (l : List Sent). x ∷ l) rest)
data-heard from bitmap (Own ∷ es) = data-heard from bitmap es
data-heard from bitmap (Gone ∷ es) = data-heard from bitmap es

-- ---- RLC has acknowledged a place

above : (low : ℕ) (es : List Entry) (k : ℕ) (x : Sent) (end : ℕ) → slice_get es k ≡ Some (Data x)
    → AreBetween low (counts (data_of es)) end → (low ≤ x.count) × (x.count < end)
above low [] k x end q h = let no : None ≡ Some (Data x) = q in absurd cc
above low (e ∷ es) zero x end q h = first e (let some : Some e ≡ Some (Data x) = q in cc) h
  where
    ends : (low : ℕ) (ns : List ℕ) (end : ℕ) → AreBetween low ns end → low ≤ end
    ends low [] end h = h
    ends low (n ∷ ns) end h = omega (arith, h.0, ends (n + 1) ns end h.1)

    first : (e : Entry) → e ≡ Data x → AreBetween low (counts (data_of (e ∷ es))) end
        → (low ≤ x.count) × (x.count < end)
    first (Data y) is h =
        let same : y ≡ x = cc in
        let up : y.count + 1 ≤ end = ends (y.count + 1) (counts (data_of es)) end h.1 in
        let low' : low ≤ y.count = h.0 in
        let n : y.count ≡ x.count = ap (λ (z : Sent). z.count) same in
        (omega (arith, low', n), omega (arith, up, n))
    first Own is h = absurd cc
    first Gone is h = absurd cc
above low (Data y ∷ es) (suc k) x end q h =
    let r = above (y.count + 1) es k x end q h.1 in
    (omega (arith, h.0, r.0), r.1)
above low (Own ∷ es) (suc k) x end q h = above low es k x end q h
above low (Gone ∷ es) (suc k) x end q h = above low es k x end q h

marked-same : (count : ℕ) (x : Sent) → (count == x.count) ≡ false → marked count x ≡ x
marked-same count x e = ap (λ (b : Bool). record x { acked = b || x.acked }) e

pub map-more : (count : ℕ) (xs ys : List Sent)
    → map (marked count) (xs ++ ys) ≡ map (marked count) xs ++ map (marked count) ys
map-more count [] ys = refl
map-more count (x ∷ xs) ys = ap (λ (l : List Sent). marked count x ∷ l) (map-more count xs ys)

pub counts-marked : (count : ℕ) (xs : List Sent) → counts (map (marked count) xs) ≡ counts xs
counts-marked count [] = refl
counts-marked count (x ∷ xs) = ap (λ (l : List ℕ). x.count ∷ l) (counts-marked count xs)

-- none of them has the COUNT
pub unmarked : (count low : ℕ) (xs : List Sent) (end : ℕ) → count < low → AreBetween low (counts xs) end
    → map (marked count) xs ≡ xs
unmarked count low [] end lt h = refl
unmarked count low (x ∷ xs) end lt h =
    let le : low ≤ x.count = h.0 in
    ap (λ (y : Sent). y ∷ map (marked count) xs)
    (marked-same count x (ne_eqb count x.count (λ e. absurd (omega (arith, e, lt, le)))))
    ∙ ap (λ (l : List Sent). x ∷ l) (unmarked count (x.count + 1) xs end (omega (arith, lt, le)) h.1)

pub data-acked : (low : ℕ) (es : List Entry) (k : ℕ) (x : Sent) (end : ℕ) → slice_get es k ≡ Some (Data x)
    → AreBetween low (counts (data_of es)) end
    → data_of (slice_set es k (acked (Data x))) ≡ map (marked x.count) (data_of es)
data-acked low [] k x end q h = let no : None ≡ Some (Data x) = q in absurd cc
data-acked low (e ∷ es) zero x end q h = first e (let some : Some e ≡ Some (Data x) = q in cc) h
  where
    first : (e : Entry) → e ≡ Data x → AreBetween low (counts (data_of (e ∷ es))) end
        → data_of (acked (Data x) ∷ es) ≡ map (marked x.count) (data_of (e ∷ es))
    first (Data y) is h =
        let same : y ≡ x = cc in
        ap (λ (b : Bool). record x { acked = b || x.acked } ∷ data_of es) (sym (eq-eqb x.count x.count refl))
        ∙ ap (λ (z : Sent). marked x.count z ∷ data_of es) (sym same)
        ∙ ap (λ (l : List Sent). marked x.count y ∷ l)
        (sym (unmarked x.count (y.count + 1) (data_of es) end
        (let n : y.count ≡ x.count = ap (λ (z : Sent). z.count) same in omega (arith, n)) h.1))
    first Own is h = absurd cc
    first Gone is h = absurd cc
data-acked low (Data y ∷ es) (suc k) x end q h =
    let r = above (y.count + 1) es k x end q h.1 in
    ap (λ (l : List Sent). y ∷ l) (data-acked (y.count + 1) es k x end q h.1)
    ∙ ap (λ (z : Sent). z ∷ map (marked x.count) (data_of es))
    (sym (marked-same x.count y (ne_eqb x.count y.count (λ e. absurd (omega (arith, e, r.0))))))
data-acked low (Own ∷ es) (suc k) x end q h = data-acked low es k x end q h
data-acked low (Gone ∷ es) (suc k) x end q h = data-acked low es k x end q h

-- the SDUs stay where it was none
pub data-other : (es : List Entry) (k : ℕ) (e : Entry) → slice_get es k ≡ Some e → data_of (e ∷ []) ≡ []
    → data_of (slice_set es k (acked e)) ≡ data_of es
data-other [] k e q none = let no : None ≡ Some e = q in absurd cc
data-other (x ∷ es) zero e q none = first x e (let some : Some x ≡ Some e = q in cc) none
  where
    first : (x e : Entry) → x ≡ e → data_of (e ∷ []) ≡ [] → data_of (acked e ∷ es) ≡ data_of (x ∷ es)
    first x (Data y) is none = absurd cc
    first x Own is none = ap (λ (z : Entry). data_of (z ∷ es)) (sym is)
    first x Gone is none = ap (λ (z : Entry). data_of (z ∷ es)) (sym is)
data-other (Data y ∷ es) (suc k) e q none = ap (λ (l : List Sent). y ∷ l) (data-other es k e q none)
data-other (Own ∷ es) (suc k) e q none = data-other es k e q none
data-other (Gone ∷ es) (suc k) e q none = data-other es k e q none

pub below-end : (es : List Entry) (k : ℕ) (x : Sent) (end : ℕ) → slice_get es k ≡ Some (Data x)
    → AreBetween 0 (counts (data_of es)) end → x.count < end
below-end es k x end q h = let r = above 0 es k x end q h in r.1

pub entry-is : (g : Given) (place : ℕ) (e : Entry) → entry_at g place ≡ Some e
    → slice_get g.entries (place - g.gone) ≡ Some e
entry-is g place e q = by (nat_lt place g.gone) refl
  where
    by : (b : Bool) → nat_lt place g.gone ≡ b → slice_get g.entries (place - g.gone) ≡ Some e
    by true b = let no : None ≡ Some e =
        subst (λ (t : Bool). (if t then None else slice_get g.entries (place - g.gone)) ≡ Some e) b q in absurd cc
    by false b = subst (λ (t : Bool). (if t then None else slice_get g.entries (place - g.gone)) ≡ Some e) b q

-- ---- the first unconfirmed COUNT

low-step : (x : Sent) (xs : List Sent) (n : ℕ) (b : Bool) → x.acked ≡ b
    → first_again (from_unacked xs) n ≡ or_else (first_unacked xs) n
    → first_again (from_unacked (x ∷ xs)) n ≡ or_else (first_unacked (x ∷ xs)) n
low-step x xs n true e h = rw e h
low-step x xs n false e h = rw e refl

first-is : (xs : List Sent) (n : ℕ) → first_again (from_unacked xs) n ≡ or_else (first_unacked xs) n
first-is [] n = refl
first-is (x ∷ xs) n = low-step x xs n x.acked refl (first-is xs n)

open-low : (x : Sent) (es : List Entry) (ss : List Sent) (n : ℕ) (b : Bool) → x.acked ≡ b
    → or_else (first_open es) (or_else (first_unacked ss) n) ≡ or_else (first_unacked (data_of es ++ ss)) n
    → or_else (first_open (Data x ∷ es)) (or_else (first_unacked ss) n)
    ≡ or_else (first_unacked (data_of (Data x ∷ es) ++ ss)) n
open-low x es ss n true e h = rw e h
open-low x es ss n false e h = rw e refl

all-open : (es : List Entry) (ss : List Sent) (n : ℕ)
    → or_else (first_open es) (or_else (first_unacked ss) n) ≡ or_else (first_unacked (data_of es ++ ss)) n
all-open [] ss n = refl
all-open (Data x ∷ es) ss n = open-low x es ss n x.acked refl (all-open es ss n)
all-open (Own ∷ es) ss n = all-open es ss n
all-open (Gone ∷ es) ss n = all-open es ss n

pub low-is : (s : State) → low s ≡ first_again (kept_again s) s.next
low-is s = all-open s.given.entries s.again s.next ∙ sym (first-is (data_of s.given.entries ++ s.again) s.next)
