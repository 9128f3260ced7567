-- SDUs that RLC hands up, one after the other, and a timer that doesn't run.
use Rattle.std.proofs.Common.{◌≡◌, ℕ, List, [], ◌∷◌, ◌++◌, drop, Option, Some, None, slice_get, refl, ap}
use Rattle.bearer_types.specs.declared.Event.{Event}
use Rattle.pdcp_rx.specs.declared.Cause.TheVariants.{Arrived}
use Rattle.rlc_pdu.specs.declared.Expired.TheVariants.{Done, NotRunning}
use Rattle.rlc_um.specs.Receiver.{State as Receiver, handed, expiring, expired, expiry, after_expiry, starts, at_mark}
use Rattle.bearer_pdcp.specs.Ends.{Ends}
use Rattle.bearer_pdcp.specs.Hearing.{heard_told, after_hearing}
use Rattle.bearer.specs.Unacknowledged.Hearing.{hears_all, handing}

pub hears_next : (r : Receiver) (sdu : List ℕ) (pdcp : Ends) (events : List Event)
    → slice_get r.joined.ready 0 ≡ Some sdu
    → handing (handed r) (after_hearing sdu Arrived pdcp) (events ++ heard_told sdu Arrived pdcp)
    ≡ handing r pdcp events
hears_next r sdu pdcp events h =
    ap (λ l. hears_all l Arrived (record { pdcp = pdcp; events = events })) (first_back r.joined.ready sdu h)
  where
    first_back : (xs : List (List ℕ)) (x : List ℕ) → slice_get xs 0 ≡ Some x → x ∷ drop 1 xs ≡ xs
    first_back [] x h = let no : None ≡ Some x = h in cc
    first_back (y ∷ ys) x h = let same : Some y ≡ Some x = h in ap (λ z. z ∷ ys) cc

pub hears_end : (r : Receiver) (pdcp : Ends) (events : List Event) → slice_get r.joined.ready 0 ≡ None
    → record { pdcp = pdcp; events = events } ≡ handing r pdcp events
hears_end r pdcp events h =
    ap (λ l. hears_all l Arrived (record { pdcp = pdcp; events = events })) (back r.joined.ready h)
  where
    back : (xs : List (List ℕ)) → slice_get xs 0 ≡ None → [] ≡ xs
    back [] h = refl
    back (x ∷ xs) h = let no : Some x ≡ None = h in cc

pub ruleset steps = (hears_next, hears_end)

idle_by : (m : Option ℕ) (r : Receiver) → expiry m r ≡ NotRunning → after_expiry m r ≡ r
idle_by None r h = refl
idle_by (Some x) r h = let no : Done (starts None (at_mark x r).window) ≡ NotRunning = h in cc

pub idle_expired : (r : Receiver) → expiring r ≡ NotRunning → expired r ≡ r
unfolding expiring expired
idle_expired r h = idle_by r.mark r h
