-- In which order a bearer tells of what it hears, of its timers, and of the end of its life.
use Rattle.std.proofs.Common.{◌≡◌, inl, inr, ℕ, Bool, true, false, if◌then◌else◌, Option, Some, None, IfSome, Result}
use Rattle.std.proofs.Common.{Ok, Err, List, [], ◌∷◌, ◌++◌, length, append-nil, append_assoc, refl, ap, sym, ◌∙◌, subst}
use Rattle.bearer_pdcp.specs.Discarding.{late_told, tick_told}
use Rattle.bearer_pdcp.specs.Ends.{Ends}
use Rattle.bearer_pdcp.specs.Hearing.{is_applied, is_for_sender, ups, got_told, got_left, got_applied, with_arrived}
use Rattle.bearer_pdcp.specs.Hearing.{heard_told, after_hearing, applies}
use Rattle.bearer_pdcp.specs.Telling.{turned_told, landed_told, expired_told}
use Rattle.bearer_types.specs.declared.Event.{Event}
use Rattle.bearer_types.specs.declared.Event.TheVariants as events
use Rattle.bearer.specs.Unacknowledged.Hearing.{Hearing, hears as um_hears, hears_all as um_hears_all, up_told}
use Rattle.bearer.specs.Unacknowledged.Hearing.{arrived_told as um_arrived_told, expiry_told as um_expiry_told}
use Rattle.bearer.specs.Unacknowledged.Hearing.{expiry_left, clock_told as um_clock_told, expiry as um_expiry}
use Rattle.bearer.specs.Unacknowledged.Hearing.{after_expiry as um_after_expiry, told_of as um_told_of, timed_told}
use Rattle.bearer.specs.Unacknowledged.Hearing.{timed_left, counted_down, ticking as um_ticking}
use Rattle.bearer.specs.Unacknowledged.Lives.{stopping as um_stopping}
use Rattle.bearer.specs.Unacknowledged.State.{State as UmBearer}
use Rattle.l2_num.specs.Timers.{ends}
use Rattle.l2_types.specs.declared.Clock.{Clock}
use Rattle.l2_types.specs.declared.Clock.TheVariants.{Poll, Reorder, Prohibit}
use Rattle.l2_types.specs.declared.Lost.TheVariants as lost
use Rattle.pdcp_rx.specs.declared.Cause.{Cause}
use Rattle.pdcp_rx.specs.declared.Cause.TheVariants.{Arrived, Reestablished}
use Rattle.pdcp_rx.specs.declared.Got.{Got}
use Rattle.pdcp_rx.specs.declared.Got.TheVariants as got_as
use Rattle.pdcp_rx.specs.State.{got}
use Rattle.pdcp_tx.specs.State.{State as Sending, is_overdue, after_late, ticked as pdcp_ticked}
use Rattle.pdcp_tx_store.specs.Waiting.{Waits}
use Rattle.rlc_pdu.specs.declared.Expired.{Expired}
use Rattle.rlc_pdu.specs.declared.Expired.TheVariants.{Done, NotRunning}
use Rattle.rlc_pdu.specs.declared.Landed.{Landed}
use Rattle.rlc_pdu.specs.declared.Landed.TheVariants.{Kept, Repeat, Outside, Clash}
use Rattle.rlc_pdu.specs.declared.Turned.{Turned}
use Rattle.rlc_pdu.specs.declared.RlcRefusal.{RlcRefusal}
use Rattle.rlc_pdu.specs.Pdus.{UmdPdu}
use Rattle.rlc_um.specs.Receiver.{State as UmReceiver, landed as um_landed, landing, turning, arrival}
use Rattle.rlc_um.specs.Receiver.{after_landing as um_after_landing, expiring, expired as um_expired, all_joined}
use Rattle.rlc_um.specs.Window.{number_of}
use Rattle.rlc_um.specs.Joined.{Parts, parts_of}
use Rattle.law_words.specs.BearerOrder.{OfEvents, an_up, of_an_sdu, of_an_arrived_sdu, of_a_data_pdu, of_a_pdu}
use Rattle.law_words.specs.BearerOrder.{of_an_expiry, a_discard, of_discards, in_a_tti, at_the_end}
use Rattle.law_words.specs.Sequences.{just, ◌then◌, maybe, many}
use Rattle.law_bearer.proofs.AnyBearer.Sequences.{both, none, many_none, many_more, Behind, behind, behind_none}
use Rattle.law_bearer.proofs.AnyBearer.Sequences.{behind_as, behind_many, behind_nothing}

pub maybe_if : (b : Bool) (event : Event) → maybe (just event) (if b then event ∷ [] else [])
maybe_if true event = inr refl
maybe_if false event = inl refl

-- the same of another number
pub as_of : (S : ℕ → OfEvents) (l m : ℕ) (told : List Event) → l ≡ m → S l told → S m told
as_of S l m told e p = subst (λ (n : ℕ). S n told) e p

-- ---- PDCP tells its own channel

kept_if : (b : Bool) (x y : Ends) → x.lcid ≡ y.lcid → (if b then x else y).lcid ≡ y.lcid
kept_if true x y e = e
kept_if false x y e = refl

got_own : (g : Got) (cause : Cause) (e : Ends) → (got_left g cause e).lcid ≡ e.lcid
got_own got_as.Up cause e = refl
got_own got_as.Stored cause e = refl
got_own got_as.Old cause e = refl
got_own got_as.OutOfRange cause e = refl
got_own (got_as.Integrity found wanted) cause e = refl
got_own (got_as.Report fms bitmap) cause e = kept_if (is_for_sender e cause) _ e refl
got_own (got_as.Unreadable fault) cause e = refl

pub heard_own : (pdu : List ℕ) (cause : Cause) (e : Ends) → (after_hearing pdu cause e).lcid ≡ e.lcid
unfolding after_hearing
heard_own pdu cause e = got_own (got e.rx pdu cause) cause (with_arrived pdu cause e)

-- ---- an SDU that goes to PDCP

many_ups : (lcid : ℕ) (sdus : List (List ℕ)) → many (an_up lcid) (ups lcid sdus)
many_ups lcid [] = many_none (an_up lcid)
many_ups lcid (sdu ∷ sdus) =
    many_more (an_up lcid) (events.Up lcid sdu ∷ []) (ups lcid sdus) (sdu, refl) (many_ups lcid sdus)

report_in : (b : Bool) (lcid : ℕ) → of_an_sdu lcid (if b then [] else events.Drop lcid lost.Report ∷ [])
report_in true lcid = inl (many_none (an_up lcid))
report_in false lcid = inr (inr (inr (inl refl)))

got_in : (g : Got) (cause : Cause) (e : Ends) → of_an_sdu e.lcid (got_told g cause e)
got_in got_as.Up cause e = inl (many_ups e.lcid e.rx.ready)
got_in got_as.Stored cause e = inl (many_ups e.lcid e.rx.ready)
got_in got_as.Old cause e = inr (inl refl)
got_in got_as.OutOfRange cause e = inr (inr (inl refl))
got_in (got_as.Integrity found wanted) cause e = inr (inr (inr (inr (inl (found, (wanted, refl))))))
got_in (got_as.Report fms bitmap) cause e = report_in (is_applied e cause fms) e.lcid
got_in (got_as.Unreadable fault) cause e = inr (inr (inr (inr (inr (fault, refl)))))

pub heard_in : (l : ℕ) (sdu : List ℕ) (cause : Cause) (e : Ends) → e.lcid ≡ l → of_an_sdu l (heard_told sdu cause e)
unfolding heard_told
heard_in l sdu cause e q =
    as_of of_an_sdu e.lcid l (heard_told sdu cause e) q (got_in (got e.rx sdu cause) cause (with_arrived sdu cause e))

-- a report that is applied tells nothing
applied_none : (g : Got) (cause : Cause) (e : Ends) → got_applied g cause e ≡ true → got_told g cause e ≡ []
applied_none got_as.Up cause e h = absurd cc
applied_none got_as.Stored cause e h = absurd cc
applied_none got_as.Old cause e h = absurd cc
applied_none got_as.OutOfRange cause e h = absurd cc
applied_none (got_as.Integrity found wanted) cause e h = absurd cc
applied_none (got_as.Report fms bitmap) cause e h = rw h refl
applied_none (got_as.Unreadable fault) cause e h = absurd cc

pub applies_none : (sdu : List ℕ) (cause : Cause) (e : Ends) → applies sdu cause e ≡ true → heard_told sdu cause e ≡ []
unfolding heard_told applies
applies_none sdu cause e h = applied_none (got e.rx sdu cause) cause (with_arrived sdu cause e) h

-- ---- discards

late_in : (b : Bool) (lcid len : ℕ) (later : List Event) → many (a_discard lcid) later
    → many (a_discard lcid) (if b then events.Discard lcid len ∷ later else [])
late_in true lcid len later p = many_more (a_discard lcid) (events.Discard lcid len ∷ []) later (len, refl) p
late_in false lcid len later p = many_none (a_discard lcid)

all_late : (lcid : ℕ) (ws : List Waits) (s : Sending) → many (a_discard lcid) (late_told lcid ws s)
all_late lcid [] s = many_none (a_discard lcid)
all_late lcid (w ∷ ws) s =
    late_in (is_overdue s) lcid (length w.sdu) (late_told lcid ws (after_late s)) (all_late lcid ws (after_late s))

-- one at least, or none
pub record IsSome (lcid : ℕ) (told : List Event) : Type 0 where
  pub len : ℕ
  pub later : List Event
  pub told_are : told ≡ events.Discard lcid len ∷ later
  pub are_later : many (a_discard lcid) later

some_late : (b : Bool) (lcid len : ℕ) (later : List Event) → many (a_discard lcid) later
    → maybe (IsSome lcid) (if b then events.Discard lcid len ∷ later else [])
some_late true lcid len later p = inr (record { len = len; later = later; told_are = refl; are_later = p })
some_late false lcid len later p = inl refl

lates : (lcid : ℕ) (ws : List Waits) (s : Sending) → maybe (IsSome lcid) (late_told lcid ws s)
lates lcid [] s = inl refl
lates lcid (w ∷ ws) s =
    some_late (is_overdue s) lcid (length w.sdu) (late_told lcid ws (after_late s)) (all_late lcid ws (after_late s))

pub tick_in : (e : Ends) → maybe (IsSome e.lcid) (tick_told e)
unfolding tick_told
tick_in e = lates e.lcid e.tx.waiting (pdcp_ticked e.tx)

-- with the start of poll, or without
pub some_in : (lcid : ℕ) (told start : List Event) → IsSome lcid told → maybe (just (events.Start lcid Poll)) start
    → of_discards lcid (told ++ start)
some_in lcid told start k p =
    rw k.told_are (both (a_discard lcid) (many (a_discard lcid) then maybe (just (events.Start lcid Poll)))
    (events.Discard lcid k.len ∷ []) (k.later ++ start) (k.len, refl)
    (both (many (a_discard lcid)) (maybe (just (events.Start lcid Poll))) k.later start k.are_later p))

-- ---- an unacknowledged bearer

um_all : (l : ℕ) (sdus : List (List ℕ)) (cause : Cause) (h : Hearing) → h.pdcp.lcid ≡ l
    → Behind h.events (many (of_an_sdu l)) (um_hears_all sdus cause h).events
um_all l [] cause h q = behind_none h.events (many (of_an_sdu l)) (many_none (of_an_sdu l))
um_all l (sdu ∷ sdus) cause h q =
    let told = heard_told sdu cause h.pdcp in
    behind_many h.events (h.events ++ told) (of_an_sdu l) (um_hears_all (sdu ∷ sdus) cause h).events
    (behind h.events (of_an_sdu l) told (heard_in l sdu cause h.pdcp q))
    (um_all l sdus cause (um_hears sdu cause h) (heard_own sdu cause h.pdcp ∙ q))

pub um_all_kept : (l : ℕ) (sdus : List (List ℕ)) (cause : Cause) (h : Hearing) → h.pdcp.lcid ≡ l
    → (um_hears_all sdus cause h).pdcp.lcid ≡ l
um_all_kept l [] cause h q = q
um_all_kept l (sdu ∷ sdus) cause h q = um_all_kept l sdus cause (um_hears sdu cause h) (heard_own sdu cause h.pdcp ∙ q)

up_in : (l : ℕ) (r : UmReceiver) (told : List Event) (s : UmBearer) → s.pdcp.lcid ≡ l
    → Behind told (many (of_an_sdu l)) (up_told r told s)
up_in l r told s q = um_all l r.joined.ready Arrived (record { pdcp = s.pdcp; events = told }) q

pub wider : (l : ℕ) (told : List Event) → many (of_an_sdu l) told → many (of_an_arrived_sdu l) told
wider l told m = record {
  parts = m.parts;
  told_are = m.told_are;
  are_each = λ i part here. inl (m.are_each i part here);
}

-- an arrival: one that is dropped finds nothing ready
abbrev pub IsDropped : Landed → Type 0
IsDropped Kept = ⊥
IsDropped Repeat = Unit {0}
IsDropped Outside = Unit {0}
IsDropped Clash = Unit {0}

pub kept_in : (l : ℕ) (t : Turned) (all : List Event) → Behind (turned_told l t) (many (of_an_arrived_sdu l)) all
    → of_a_data_pdu l all
kept_in l t all k =
    let S = many (of_an_arrived_sdu l) in
    let stops = if t.stopped then events.Stop l Reorder ∷ [] else [] in
    let starts = if t.started then events.Start l Reorder ∷ [] else [] in
    inr
    (inr
    (inr (behind_nothing (maybe (just (events.Stop l Reorder)) then maybe (just (events.Start l Reorder)) then S)
    all (record {
      rest = stops ++ (starts ++ k.rest);
      all_are = k.all_are ∙ append_assoc stops starts k.rest;
      is_rest = both (maybe (just (events.Stop l Reorder))) (maybe (just (events.Start l Reorder)) then S) stops
          (starts ++ k.rest) (maybe_if t.stopped (events.Stop l Reorder))
          (both (maybe (just (events.Start l Reorder))) S starts k.rest (maybe_if t.started (events.Start l Reorder))
          k.is_rest);
    }))))

um_landed_in : (l : ℕ) (landed' : Landed) (t : Turned) (ready : List (List ℕ)) (h : Ends) → h.lcid ≡ l
    → (IsDropped landed' → ready ≡ [])
    → of_a_data_pdu l (um_hears_all ready Arrived (record { pdcp = h; events = landed_told l landed' t })).events
um_landed_in l Kept t ready h q none' =
    kept_in l t _ (behind_as (turned_told l t) (many (of_an_sdu l)) (many (of_an_arrived_sdu l)) _
    (λ es p. wider l es p) (um_all l ready Arrived (record { pdcp = h; events = turned_told l t }) q))
um_landed_in l Repeat t ready h q none' = rw (none' tt) (inl refl)
um_landed_in l Outside t ready h q none' = rw (none' tt) (inr (inl refl))
um_landed_in l Clash t ready h q none' = rw (none' tt) (inr (inr (inl refl)))

um_ready : (landed' : Landed) (x : ℕ) (p : Parts) (r : UmReceiver) → r.joined.ready ≡ [] → IsDropped landed'
    → (um_after_landing landed' x p r).joined.ready ≡ []
um_ready Kept x p r e d = absurd d
um_ready Repeat x p r e d = e
um_ready Outside x p r e d = e
um_ready Clash x p r e d = e

um_arrival_ready : (pdu : UmdPdu) (r : UmReceiver) → r.joined.ready ≡ [] → IsDropped (landing pdu r)
    → (arrival pdu r).joined.ready ≡ []
unfolding landing arrival
um_arrival_ready pdu r e d =
    um_ready (um_landed r (number_of r.window pdu.sn)) (number_of r.window pdu.sn) (parts_of pdu) r e d

pub um_arrived_in : (l : ℕ) (r : Result UmdPdu RlcRefusal) (s : UmBearer) → s.pdcp.lcid ≡ l → s.rx.joined.ready ≡ []
    → of_a_pdu l (um_arrived_told r s)
um_arrived_in l (Err fault) s q e = inl (fault, ap (λ (n : ℕ). events.BadRlc n fault ∷ []) q)
um_arrived_in l (Ok pdu) s q e =
    inr
    (inl
    (subst
    (λ (n : ℕ). of_a_data_pdu l
    (um_hears_all (arrival pdu s.rx).joined.ready Arrived
    (record { pdcp = s.pdcp; events = landed_told n (landing pdu s.rx) (turning pdu s.rx) })).events) (sym q)
    (um_landed_in l (landing pdu s.rx) (turning pdu s.rx) (arrival pdu s.rx).joined.ready s.pdcp q
    (um_arrival_ready pdu s.rx e))))

expired_in : (l : ℕ) (again : Bool) (all : List Event)
    → Behind (expired_told l Reorder again) (many (of_an_sdu l)) all → of_an_expiry l Reorder all
expired_in l again all k =
    let starts = if again then events.Start l Reorder ∷ [] else [] in
    record {
      first = events.Expired l Reorder ∷ [];
      second = starts ++ k.rest;
      told_are = k.all_are;
      is_first = refl;
      is_second = both (maybe (just (events.Start l Reorder))) (many (of_an_sdu l)) starts k.rest
          (maybe_if again (events.Start l Reorder)) k.is_rest;
    }

um_reorder_in : (l : ℕ) (x : Expired) (s : UmBearer) → s.pdcp.lcid ≡ l
    → IfSome (um_expiry_told x s) (of_an_expiry l Reorder)
um_reorder_in l NotRunning s q = tt
um_reorder_in l (Done again) s q =
    subst (λ (n : ℕ). of_an_expiry l Reorder (up_told (um_expired s.rx) (expired_told n Reorder again) s)) (sym q)
    (expired_in l again (up_told (um_expired s.rx) (expired_told l Reorder again) s)
    (up_in l (um_expired s.rx) (expired_told l Reorder again) s q))

um_clock_in : (l : ℕ) (clock : Clock) (s : UmBearer) → s.pdcp.lcid ≡ l
    → IfSome (um_clock_told clock s) (of_an_expiry l clock)
um_clock_in l Poll s q = tt
um_clock_in l Reorder s q = um_reorder_in l (expiring s.rx) s q
um_clock_in l Prohibit s q = tt

pub um_expiry_in : (l : ℕ) (clock : Clock) (s : UmBearer) → s.pdcp.lcid ≡ l
    → IfSome (um_expiry s clock) (of_an_expiry l clock)
unfolding um_expiry
um_expiry_in l clock s q = um_clock_in l clock s q

um_told_in : (S : OfEvents) (o : Option (List Event)) → IfSome o S → maybe S (um_told_of o)
um_told_in S None p = inl refl
um_told_in S (Some told) p = inr p

um_timed_in : (l : ℕ) (b : Bool) (s : UmBearer) → s.pdcp.lcid ≡ l → maybe (of_an_expiry l Reorder) (timed_told b s)
um_timed_in l true s q = um_told_in (of_an_expiry l Reorder) (um_expiry s Reorder) (um_expiry_in l Reorder s q)
um_timed_in l false s q = inl refl

pub um_left_kept : (l : ℕ) (x : Expired) (s : UmBearer) → s.pdcp.lcid ≡ l → (expiry_left x s).pdcp.lcid ≡ l
um_left_kept l NotRunning s q = q
um_left_kept l (Done again) s q =
    um_all_kept l (um_expired s.rx).joined.ready Arrived
    (record { pdcp = s.pdcp; events = expired_told s.pdcp.lcid Reorder again }) q

pub um_timed_kept : (l : ℕ) (b : Bool) (s : UmBearer) → s.pdcp.lcid ≡ l → (timed_left b s).pdcp.lcid ≡ l
unfolding um_after_expiry
um_timed_kept l true s q = um_left_kept l (expiring s.rx) s q
um_timed_kept l false s q = q

-- the discards, without a start of poll
pub discards_in : (l : ℕ) (told : List Event) → maybe (IsSome l) told → maybe (of_discards l) told
discards_in l told (inl e) = inl e
discards_in l told (inr k) = inr (subst (of_discards l) (append-nil told) (some_in l told [] k (inl refl)))

pub um_ticking_in : (l : ℕ) (s : UmBearer) → s.pdcp.lcid ≡ l → in_a_tti l (um_ticking s)
unfolding um_ticking
um_ticking_in l s q =
    let c = counted_down s in
    let b = ends s.rx.clock in
    let v = timed_left b c in
    let D = maybe (of_discards l) in
    let P = maybe (of_an_expiry l Prohibit) in
    let discarded : D (tick_told v.pdcp) =
    as_of (λ (n : ℕ). maybe (of_discards n)) v.pdcp.lcid l (tick_told v.pdcp) (um_timed_kept l b c q)
    (discards_in v.pdcp.lcid (tick_told v.pdcp) (tick_in v.pdcp)) in
    both (maybe (of_an_expiry l Poll)) (maybe (of_an_expiry l Reorder) then P then D) []
    (timed_told b c ++ tick_told v.pdcp) (none (of_an_expiry l Poll))
    (both (maybe (of_an_expiry l Reorder)) (P then D) (timed_told b c) (tick_told v.pdcp) (um_timed_in l b c q)
    (both P D [] (tick_told v.pdcp) (none (of_an_expiry l Prohibit)) discarded))

pub um_stopping_in : (l : ℕ) (s : UmBearer) → s.pdcp.lcid ≡ l → at_the_end false l (um_stopping s)
unfolding um_stopping
um_stopping_in l s q =
    behind_nothing (many (of_an_sdu l)) (um_stopping s)
    (um_all l (all_joined s.rx) Reestablished (record { pdcp = s.pdcp; events = [] }) q)
