-- Calls of a bearer over acknowledged RLC, as steps of PDCP's sender.
use Rattle.std.proofs.Common.{◌≡◌, ℕ, Bool, true, false, nat_lt, List, [], ◌∷◌, ◌++◌}
use Rattle.std.proofs.Common.{length, Option, Result, Ok, Err, subst, refl, ap, sym, ◌∙◌}
use Rattle.l2_types.specs.declared.Clock.{Clock}
use Rattle.l2_types.specs.declared.Clock.TheVariants.{Poll, Reorder, Prohibit}
use Rattle.eps_sec.specs.declared.Keys.{Keys}
use Rattle.pdcp_pdu.specs.Kinds.{is_am}
use Rattle.pdcp_rx.specs.declared.Cause.TheVariants.{Arrived, Reestablished}
use Rattle.pdcp_tx.specs.State.{Offer, offers, confirmed}
use Rattle.rlc_pdu.specs.declared.RlcRefusal.{RlcRefusal}
use Rattle.rlc_pdu.specs.Pdus.{AcknowledgedPdu, Payload, Status}
use Rattle.rlc_pdu.specs.Reading.{am_at}
use Rattle.rlc_am_tx.specs.declared.answers.Heard.{Heard}
use Rattle.rlc_am_tx.specs.declared.answers.Heard.TheVariants as heard_as
use Rattle.rlc_am_rx.specs.Machine.{landed, turned, arrived, finished}
use Rattle.rlc_am_tx.specs.Machine.{heard, after_status}
use Rattle.rlc_am_tx.specs.Need.{hungry}
use Rattle.bearer_pdcp.specs.Ends.{Ends}
use Rattle.bearer_pdcp.specs.Hearing.{applies, heard_told, after_hearing}
use Rattle.bearer_pdcp.specs.Lives.{restarted as restarted_pdcp}
use Rattle.bearer_pdcp.specs.Discarding.{after_tick as after_discards, tick_told}
use Rattle.bearer_pdcp.specs.Telling.{landed_told}
use Rattle.bearer.specs.Acknowledged.State.{State, Work, work}
use Rattle.bearer.specs.Acknowledged.Taking.{given_to, fed, feeds, feeding, data_size, status_told, has_prohibit}
use Rattle.bearer.specs.Acknowledged.Taking.{after_taking}
use Rattle.bearer.specs.Acknowledged.Hearing.{settled_if, heard_work, hears, hears_all, confirms, status_work}
use Rattle.bearer.specs.Acknowledged.Hearing.{arrived_left, after_arrival, all_confirmed}
use Rattle.bearer.specs.Acknowledged.Lives.{Ending, hears_last, ends_with, stopped, restarted}
use Rattle.bearer.specs.Acknowledged.Timing.{Ticking, expires_if, clock_left, counts, has_ended, ticks, discards}
use Rattle.bearer.specs.Acknowledged.Timing.{after_expiry, ticked}
use Rattle.law_bearer.specs.AnyBearer.Stream.{am_offered}
use Rattle.law_bearer.proofs.AnyBearer.Sender.{nothing, confirms_one}
use Rattle.law_bearer.proofs.AnyBearer.Feeding.{Fed as FedOf, all_fed}
use Rattle.law_bearer.proofs.AnyBearer.Parts.{Passed, rests, by_tx, passed_then}
use Rattle.law_bearer.proofs.AnyBearer.Parts.{hearing_moves, Ended, ends_as, ended_then, last_one}

-- ---- RLC takes PDUs

-- so many are fed
abbrev pub Fed : List Offer → Work → Work → Type 0
Fed os w v = FedOf given_to am_offered os w.pdcp v.pdcp w.tx v.tx

pub all_fed_in : (s : State) (share : ℕ) (held : Option ℕ)
    → Fed (offers s.pdcp.tx) (work s.pdcp s.tx (status_told s.pdcp.lcid (has_prohibit s) s.rx share))
    (feeding s share held)
all_fed_in s share held =
    all_fed given_to am_offered (λ tx. refl) (λ pdu pdus tx. refl) (λ (w : Work). w.pdcp) (λ (w : Work). w.tx)
    (λ (w : Work). hungry w.tx (data_size s share) held) fed (λ w. refl) (λ w. refl)
    (λ (os : List Offer) (w : Work). feeds os (data_size s share) held w) (λ w. refl) (λ o os w. refl)
    (offers s.pdcp.tx) (work s.pdcp s.tx (status_told s.pdcp.lcid (has_prohibit s) s.rx share)) refl

pub take_left : (s : State) (share : ℕ) (held : Option ℕ)
    → (after_taking s share held).pdcp ≡ (feeding s share held).pdcp
unfolding after_taking
take_left s share held = refl

-- ---- a PDU arrives

settled_same : (b : Bool) (w : Work) → (settled_if b w).pdcp ≡ w.pdcp
settled_same true w = refl
settled_same false w = refl

hears_moves : (sdus : List (List ℕ)) (w : Work) → Passed w.pdcp (hears_all sdus w).pdcp nothing
hears_moves [] w = rests w.pdcp
hears_moves (sdu ∷ sdus) w =
    let one : Passed w.pdcp (hears sdu w).pdcp nothing =
    subst (λ (e : Ends). Passed w.pdcp e nothing) (sym (settled_same (applies sdu Arrived w.pdcp) (heard_work sdu w)))
    (hearing_moves sdu Arrived w.pdcp) in
    passed_then w.pdcp (hears sdu w).pdcp (hears_all sdus (hears sdu w)).pdcp nothing nothing one
    (hears_moves sdus (hears sdu w))

confirms_move : (places : List ℕ) (e : Ends) → Passed e (confirms places e) nothing
confirms_move [] e = rests e
confirms_move (place ∷ places) e =
    let d : Ends = record e { tx = confirmed e.tx place } in
    passed_then e d (confirms places d) nothing nothing
    (by_tx e (confirmed e.tx place) nothing (confirms_one e.tx place)) (confirms_move places d)

status_same : (h : Heard) (w : Work) → (status_work h w).pdcp ≡ w.pdcp
status_same heard_as.Ignored w = refl
status_same (heard_as.Limit sn) w = refl
status_same (heard_as.Applied stopped) w = refl

arrival_by : (r : Result AcknowledgedPdu RlcRefusal) (s : State) → Passed s.pdcp (arrived_left r s).pdcp nothing
arrival_by (Err fault) s = rests s.pdcp
arrival_by (Ok (Payload p)) s =
    hears_moves (arrived s.rx p).out.ready
    (work s.pdcp s.tx (landed_told s.pdcp.lcid (landed s.rx p) (turned s.rx p)))
arrival_by (Ok (Status p)) s =
    let news = (after_status s.tx p).accounts.news in
    let w : Work = work (confirms news s.pdcp) (all_confirmed (after_status s.tx p)) [] in
    subst (λ (e : Ends). Passed s.pdcp e nothing) (sym (status_same (heard s.tx p) w)) (confirms_move news s.pdcp)

pub arrival_moves : (s : State) (pdu : List ℕ) → Passed s.pdcp (after_arrival s pdu).pdcp nothing
unfolding after_arrival
arrival_moves s pdu = arrival_by (am_at pdu) s

-- ---- timers

clock_same : (clock : Clock) (s : State) → (clock_left clock s).pdcp ≡ s.pdcp
clock_same Poll s = refl
clock_same Reorder s = refl
clock_same Prohibit s = refl

pub expiry_same : (s : State) (clock : Clock) → (after_expiry s clock).pdcp ≡ s.pdcp
unfolding after_expiry
expiry_same s clock = clock_same clock s

expires_same : (b : Bool) (clock : Clock) (t : Ticking) → (expires_if b clock t).bearer.pdcp ≡ t.bearer.pdcp
expires_same true clock t = expiry_same t.bearer clock
expires_same false clock t = refl

ticks_same : (clock : Clock) (t : Ticking) → (ticks clock t).bearer.pdcp ≡ t.bearer.pdcp
ticks_same Poll t = expires_same (has_ended Poll t.bearer) Poll (record t { bearer = counts Poll t.bearer })
ticks_same Reorder t = expires_same (has_ended Reorder t.bearer) Reorder (record t { bearer = counts Reorder t.bearer })
ticks_same Prohibit t =
    expires_same (has_ended Prohibit t.bearer) Prohibit (record t { bearer = counts Prohibit t.bearer })

discards_are : (t : Ticking) → (discards t).bearer.pdcp ≡ after_discards t.bearer.pdcp
discards_are t =
    settled_same (nat_lt 0 (length (tick_told t.bearer.pdcp)))
    (work (after_discards t.bearer.pdcp) t.bearer.tx (t.events ++ tick_told t.bearer.pdcp))

pub ticked_is : (s : State) → (ticked s).bearer.pdcp ≡ after_discards s.pdcp
unfolding ticked
ticked_is s =
    let t0 : Ticking = record { bearer = s; events = [] } in
    let t1 = ticks Poll t0 in
    let t2 = ticks Reorder t1 in
    let t3 = ticks Prohibit t2 in
    discards_are t3 ∙ ap after_discards (ticks_same Prohibit t2 ∙ ticks_same Reorder t1 ∙ ticks_same Poll t0)

-- ---- the end of a life and the beginning of the next

last_ended : (sdus : List (List ℕ)) (e : Ending) → Ended e.pdcp (hears_last sdus e).pdcp
last_ended [] e = ends_as e.pdcp
last_ended (sdu ∷ sdus) e =
    ended_then e.pdcp (after_hearing sdu Reestablished e.pdcp) (hears_last (sdu ∷ sdus) e).pdcp (last_one sdu e.pdcp)
    (last_ended sdus (record {
      pdcp = after_hearing sdu Reestablished e.pdcp;
      events = e.events ++ heard_told sdu Reestablished e.pdcp;
    }))

ended_by : (b : Bool) (sdus : List (List ℕ)) (e : Ending) → Ended e.pdcp (ends_with b sdus e).pdcp
ended_by true sdus e = last_ended sdus e
ended_by false sdus e = ends_as e.pdcp

pub stop_ends : (s : State) → Ended s.pdcp (stopped s).pdcp
unfolding stopped
stop_ends s = ended_by (is_am s.pdcp.kind) (finished s.rx) (record { pdcp = s.pdcp; events = [] })

pub restart_is : (s : State) (keys : Keys) → (restarted (stopped s) keys).pdcp ≡ restarted_pdcp (stopped s).pdcp keys
unfolding restarted
restart_is s keys = refl
