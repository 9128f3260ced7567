-- One step of what goes over what was given.
use Rattle.std.proofs.Common.{◌≡◌, ◌<◌, ◌≤◌, ℕ, suc, zero, ◌+◌, ◌-◌, true, false, List, [], ◌∷◌, ◌++◌, length, drop}
use Rattle.std.proofs.Common.{take, map, Some, None, slice_get, slice_set, slice_index_or, refl, add-one, ap, sym, ◌∙◌}
use Rattle.std.proofs.Common.{arith}
use Rattle.std.proofs.lemmas.Grind.{common_steps}
use Rattle.pdcp_tx_store.specs.declared.given.Entry.{Entry}
use Rattle.pdcp_tx_store.specs.declared.given.Entry.TheVariants.{Data, Own, Gone}
use Rattle.pdcp_tx_store.specs.Given.{is_open, trimmed, closed, acked, open_length, open_octets, heard}

pub open_more : (es : List Entry) (e : Entry) → open_octets (es ++ e ∷ []) ≡ open_octets es + open_length e
open_more [] e = omega arith
open_more (x ∷ xs) e = let ih = open_more xs e in omega arith

-- an acknowledged entry counts no more
acked_none : (e : Entry) → open_length (acked e) ≡ 0
acked_none (Data s) = refl
acked_none Own = refl
acked_none Gone = refl

open_set : (es : List Entry) (k : ℕ) (e new : Entry) → slice_get es k ≡ Some e
    → open_octets (slice_set es k new) + open_length e ≡ open_octets es + open_length new
open_set [] k e new g = cc
open_set (x ∷ xs) zero e new g = grind arith
open_set (x ∷ xs) (suc k) e new g = let ih = open_set xs k e new g in omega arith

pub open_acked : (es : List Entry) (k : ℕ) (e : Entry) → slice_get es k ≡ Some e
    → open_octets (slice_set es k (acked e)) ≡ open_octets es - open_length e
open_acked es k e g = omega (arith, open_set es k e (acked e) g, acked_none e)

pub ruleset acks = (open_acked)

pub trimmed_stop : (es : List Entry) (e : Entry) → slice_get es 0 ≡ Some e → is_open e ≡ true → trimmed es ≡ es
trimmed_stop [] e g h = cc
trimmed_stop (x ∷ xs) e g h = grind arith

pub closed_stop : (es : List Entry) (e : Entry) → slice_get es 0 ≡ Some e → is_open e ≡ true → closed es ≡ 0
closed_stop [] e g h = cc
closed_stop (x ∷ xs) e g h = grind arith

pub closed_none : (e : Entry) → is_open e ≡ false → open_length e ≡ 0
closed_none (Data s) h = grind arith
closed_none Own h = refl
closed_none Gone h = refl

pub ruleset trims = (trimmed_stop, closed_stop, closed_none)

pub get_at : (es : List Entry) (k : ℕ) (e : Entry) → k < length es → e ≡ slice_index_or es k e → slice_get es k ≡ Some e
get_at [] k e lt g = absurd (omega arith)
get_at (x ∷ xs) zero e lt g = ap Some (sym g)
get_at (x ∷ xs) (suc k) e lt g = get_at xs k e (omega arith) g

pub get_past : (es : List Entry) (k : ℕ) → length es ≤ k → slice_get es k ≡ None
get_past [] k le = refl
get_past (x ∷ xs) zero le = absurd (omega arith)
get_past (x ∷ xs) (suc k) le = get_past xs k (omega arith)

-- those from a place on are changed
unfoldable pub mapped_from : (Entry → Entry) → ℕ → List Entry → List Entry
mapped_from f k es = take k es ++ map f (drop k es)

pub mapped_all : (f : Entry → Entry) (es : List Entry) → mapped_from f 0 es ≡ map f es
unfolding mapped_from
mapped_all f es = refl

pub mapped_end : (f : Entry → Entry) (es : List Entry) (k : ℕ) → length es ≤ k → mapped_from f k es ≡ es
unfolding mapped_from
mapped_end f [] k le = grind (arith, common_steps)
mapped_end f (x ∷ xs) zero le = absurd (omega arith)
mapped_end f (x ∷ xs) (suc k) le = ap (λ l. x ∷ l) (mapped_end f xs k (omega arith))

mapped_suc : (f : Entry → Entry) (es : List Entry) (k : ℕ) → k < length es
    → mapped_from f (suc k) (slice_set es k (f (slice_index_or es k Own))) ≡ mapped_from f k es
unfolding mapped_from
mapped_suc f [] k lt = absurd (omega arith)
mapped_suc f (x ∷ xs) zero lt = refl
mapped_suc f (x ∷ xs) (suc k) lt = ap (λ l. x ∷ l) (mapped_suc f xs k (omega arith))

pub mapped_step : (f : Entry → Entry) (es : List Entry) (k : ℕ) → k < length es
    → mapped_from f (k + 1) (slice_set es k (f (slice_index_or es k Own))) ≡ mapped_from f k es
mapped_step f es k lt = ap (λ (n : ℕ). mapped_from f n (slice_set es k (f (slice_index_or es k Own)))) (add-one k)
    ∙ mapped_suc f es k lt

pub ruleset maps = (mapped_all, mapped_end, mapped_step)

pub set_same : (es : List Entry) (k : ℕ) (e new : Entry) → k < length es → e ≡ slice_index_or es k e
    → e ≡ slice_index_or es k Own
set_same [] k e new lt g = absurd (omega arith)
set_same (x ∷ xs) zero e new lt g = g
set_same (x ∷ xs) (suc k) e new lt g = set_same xs k e new (omega arith) g

pub ruleset set_at = (set_same)

heard_less : (from : ℕ) (bitmap : List ℕ) (e : Entry) → open_length (heard from bitmap e) ≤ open_length e
heard_less from bitmap (Data s) = grind arith
heard_less from bitmap Own = omega arith
heard_less from bitmap Gone = omega arith

pub open_less : (from : ℕ) (bitmap : List ℕ) (es : List Entry)
    → open_octets (map (heard from bitmap) es) ≤ open_octets es
open_less from bitmap [] = omega arith
open_less from bitmap (e ∷ es) = omega (arith, heard_less from bitmap e, open_less from bitmap es)

pub ruleset hears = (open_less)
