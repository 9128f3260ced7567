-- The octets of PDUs that a PDCP sender has still to give, over each call.
use Rattle.std.proofs.Common.{◌≡◌, ◌≤◌, ℕ, zero, suc, ◌+◌, ◌-◌, Bool, true, false, if◌then◌else◌, List, [], ◌∷◌, ◌++◌}
use Rattle.std.proofs.Common.{length, drop, take, map, Option, Some, None, refl, sym, subst, arith}
use Rattle.std.specs.Prelude.{slice_get}
use Rattle.pdcp_tx_store.specs.declared.given.Sent.{Sent}
use Rattle.pdcp_tx_store.specs.Waiting.{Waits}
use Rattle.pdcp_tx_store.specs.Given.{tells, untold}
use Rattle.pdcp_tx.specs.Pdus.{extra}
use Rattle.pdcp_tx.specs.State.{State, offers, owed_offers, again_offer, new_offers, submitted, took, took_owed}
use Rattle.pdcp_tx.specs.State.{took_again}
use Rattle.pdcp_tx.specs.State.{took_new, confirmed, reported, reported_from, fms_count, after_late}
use Rattle.pdcp_tx.specs.State.{is_overdue}
use Rattle.pdcp_tx.specs.Runs.{Submit, Take, Confirm, Report, Owe, Tick, Late}
use Rattle.law_drain.specs.Unsent.{again_octets, waiting_octets, unsent, offer_octets}
use Rattle.law_drain.specs.Unsent.{UnsentFalls}

waiting_octets_more : (more : ℕ) (ws : List Waits) (w : Waits)
    → waiting_octets more (ws ++ w ∷ []) ≡ waiting_octets more ws + (length w.sdu + more)
waiting_octets_more more [] w = omega arith
waiting_octets_more more (x ∷ xs) w = let ih = waiting_octets_more more xs w in omega (arith, ih)

waiting_octets_drop : (more : ℕ) (ws : List Waits) → waiting_octets more (drop 1 ws) ≤ waiting_octets more ws
waiting_octets_drop more [] = omega arith
waiting_octets_drop more (w ∷ ws) = omega arith

again_octets_untold : (more from : ℕ) (bitmap : List ℕ) (ss : List Sent)
    → again_octets more (untold from bitmap ss) ≤ again_octets more ss
again_octets_untold more from bitmap [] = omega arith
again_octets_untold more from bitmap (s ∷ ss) =
    by (tells from bitmap s.count) (again_octets_untold more from bitmap ss)
  where
    by : (b : Bool) → again_octets more (untold from bitmap ss) ≤ again_octets more ss
        → again_octets more (if b then untold from bitmap ss else s ∷ untold from bitmap ss)
        ≤ length s.octets + more + again_octets more ss
    by true ih = omega (arith, ih)
    by false ih = omega (arith, ih)

-- ---- a PDU is given

new-falls : (n : ℕ) (ws : List Waits) (s : State) → s.waiting ≡ ws
    → unsent (took_new (take n ws) s) + offer_octets s.kind (slice_get (new_offers s.next (take n ws)) 0) ≤ unsent s
new-falls zero ws s e = omega arith
new-falls (suc n) [] s e = omega arith
new-falls (suc n) (w ∷ ws) s e = rw e (omega arith)

took-falls : (owed : Option (List ℕ)) (again : List Sent) (s : State) → s.owed ≡ owed → s.again ≡ again
    → unsent (took_owed owed s)
    + offer_octets s.kind (slice_get (owed_offers owed ++ map again_offer again
    ++ new_offers s.next (take (s.bound - s.next) s.waiting)) 0) ≤ unsent s
took-falls (Some report) again s o a = rw (o, a) (omega arith)
took-falls None (x ∷ xs) s o a = rw (o, a) (omega arith)
took-falls None [] s o a =
    subst (λ (ss : List Sent). unsent (took_again ss s)
    + offer_octets s.kind (slice_get (new_offers s.next (take (s.bound - s.next) s.waiting)) 0) ≤ unsent s) (sym a)
    (new-falls (s.bound - s.next) s.waiting s refl)

reported-falls : (o : Option ℕ) (s : State) (bitmap : List ℕ) → unsent (reported_from o s bitmap) ≤ unsent s
reported-falls None s bitmap = omega arith
reported-falls (Some from) s bitmap = omega (arith, again_octets_untold (extra s.kind) from bitmap s.again)

late-falls : (b : Bool) (s : State) → waiting_octets (extra s.kind) (if b then drop 1 s.waiting else s.waiting)
    ≤ waiting_octets (extra s.kind) s.waiting
late-falls true s = waiting_octets_drop (extra s.kind) s.waiting
late-falls false s = omega arith

pub unsent_falls : UnsentFalls
unfolding submitted took offers confirmed reported after_late
unsent_falls s (Submit sdu) =
    omega (arith, waiting_octets_more (extra s.kind) s.waiting (record { sdu = sdu; born = s.clock }))
unsent_falls s Take = omega (arith, took-falls s.owed s.again s refl refl)
unsent_falls s (Confirm place) = omega arith
unsent_falls s (Report fms bitmap) = omega (arith, reported-falls (fms_count s.kind s.base fms) s bitmap)
unsent_falls s (Owe report) = omega arith
unsent_falls s Tick = omega arith
unsent_falls s Late = omega (arith, late-falls (is_overdue s) s)
