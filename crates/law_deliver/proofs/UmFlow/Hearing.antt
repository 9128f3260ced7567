-- What happens at an end is, to the run of RLC's receiver there, arrivals, expiries, TTIs, and PDUs of PDCP that are
-- handed up.
use Rattle.std.proofs.Common.{◌≡◌, ◌<◌, ℕ, ◌+◌, ◌*◌, Bool, true, false, if◌then◌else◌, List, [], ◌∷◌, ◌++◌, Result, Ok}
use Rattle.std.proofs.Common.{Err, append_assoc, append-nil, refl, ap, sym, subst, ◌∙◌}
use Rattle.l2_num.specs.Timers.{ends}
use Rattle.l2_types.specs.declared.Clock.{Clock}
use Rattle.l2_types.specs.declared.Clock.TheVariants.{Poll, Reorder, Prohibit}
use Rattle.rlc_pdu.specs.declared.Expired.{Expired}
use Rattle.rlc_pdu.specs.declared.Expired.TheVariants.{Done, NotRunning}
use Rattle.rlc_pdu.specs.declared.RlcRefusal.{RlcRefusal}
use Rattle.rlc_pdu.specs.Pdus.{UmdPdu, IsUmBits}
use Rattle.rlc_pdu.specs.Reading.{umd_at}
use Rattle.rlc_um.specs.Sender.{Sender}
use Rattle.rlc_um.specs.Window.{top_of}
use Rattle.rlc_um.specs.Receiver.{State as Receiver, arrival, expiring, expired}
use Rattle.bearer.specs.Unacknowledged.State.{State}
use Rattle.bearer.specs.Unacknowledged.Taking.{after_taking}
use Rattle.bearer.specs.Unacknowledged.Hearing.{all_handed, arrived_left, after_arrival, expiry_left, clock_left}
use Rattle.bearer.specs.Unacknowledged.Hearing.{after_expiry, counted_down, timed_left, after_ticking}
use Rattle.bearer.specs.Submitting.{submitted}
use Rattle.bearer.specs.Taking.{after as taken_from}
use Rattle.bearer.specs.Hearing.{arrived as flow_arrived, expired as flow_expired, ticked, with_discard}
use Rattle.law_bearer.specs.AnyBearer.Calls.{Call, Submit, Take, Arrive, Expire, Tick, SetDiscard}
use Rattle.law_rlc.specs.AmPair.Flow.{Copy}
use Rattle.law_deliver.specs.UmFlow.Pair.{called, BearerEnd, IsCalling}
use Rattle.law_deliver.specs.UmFlow.Handing.{by_pdu, by_expiry, by_clock, hands, all_called}
use Rattle.law_rlc.specs.UmPair.Run.{Call as ReceiverCall, Arrive as Arrives, Expire as Expires, Tick as Ticks}
use Rattle.law_rlc.specs.UmPair.Send.{Step as SenderStep}
use Rattle.law_deliver.specs.UmFlow.Runs.{ups, as_read, as_expired, as_timed, receiver_calls}
use Rattle.law_deliver.proofs.UmFlow.Standing.{Stands, IsCopyOf, arrives_one, expires_one, counts_one, hands_all}

module _ (bits reorder : ℕ) (steps : List SenderStep) (tx : Sender) (cs : List Copy) (given : List (List ℕ)) where
  -- what comes of calls behind others
  abbrev Comes : List ReceiverCall → Receiver → List (List ℕ) → Type 0
  Comes calls rx heard = Stands bits reorder steps calls tx rx cs given heard

  pub hears_none : (calls : List ReceiverCall) (rx : Receiver) (heard : List (List ℕ)) → Comes calls rx heard
      → Comes (calls ++ []) rx (heard ++ [])
  hears_none calls rx heard h =
      subst (λ (l : List (List ℕ)). Comes (calls ++ []) rx l) (sym (append-nil heard))
      (subst (λ (l : List ReceiverCall). Comes l rx heard) (sym (append-nil calls)) h)

  expiry_hears : (x : Expired) (b : State) (calls : List ReceiverCall) (heard : List (List ℕ))
      → Comes calls b.rx heard → Comes (calls ++ as_expired x b.rx) (expiry_left x b).rx (heard ++ by_expiry x b.rx)
  expiry_hears NotRunning b calls heard h = hears_none calls b.rx heard h
  expiry_hears (Done again) b calls heard h =
      let r : Receiver = expired b.rx in
      subst (λ (l : List ReceiverCall). Comes l (all_handed r) (heard ++ r.joined.ready))
      (append_assoc calls (Expires ∷ []) (ups r.joined.ready))
      (hands_all bits reorder steps (calls ++ Expires ∷ []) tx r cs given heard r.joined.ready refl
      (expires_one bits reorder steps calls tx b.rx cs given heard h))

  clock_hears : (clock : Clock) (b : State) (calls : List ReceiverCall) (heard : List (List ℕ))
      → Comes calls b.rx heard
      → Comes (calls ++ as_timed clock b.rx) (clock_left clock b).rx (heard ++ by_clock clock b.rx)
  clock_hears Poll b calls heard h = hears_none calls b.rx heard h
  clock_hears Reorder b calls heard h = expiry_hears (expiring b.rx) b calls heard h
  clock_hears Prohibit b calls heard h = hears_none calls b.rx heard h

  timed_hears : (now : Bool) (b : State) (calls : List ReceiverCall) (heard : List (List ℕ)) → Comes calls b.rx heard
      → Comes (calls ++ (if now then as_timed Reorder b.rx else [])) (timed_left now b).rx
      (heard ++ (if now then by_clock Reorder b.rx else []))
  unfolding after_expiry
  timed_hears true b calls heard h = clock_hears Reorder b calls heard h
  timed_hears false b calls heard h = hears_none calls b.rx heard h

  -- a call that brings no PDU
  pub calls_hear : (e : BearerEnd) (c : Call) (calls : List ReceiverCall) (heard : List (List ℕ)) → IsCalling e c
      → Comes calls e.bearer.rx heard
      → Comes (calls ++ receiver_calls e.bearer c) (called e.bearer c).rx (heard ++ hands e.bearer c)
  unfolding submitted taken_from flow_expired ticked with_discard after_taking after_expiry after_ticking
  calls_hear e (Submit sdu) calls heard g h = hears_none calls e.bearer.rx heard h
  calls_hear e (Take share held) calls heard g h = hears_none calls e.bearer.rx heard h
  calls_hear e (Arrive pdu) calls heard g h = absurd g
  calls_hear e (Expire clock) calls heard g h = clock_hears clock e.bearer calls heard h
  calls_hear e Tick calls heard g h =
      let now : Bool = ends e.bearer.rx.clock in
      let b : State = counted_down e.bearer in
      subst (λ (l : List ReceiverCall). Comes l (timed_left now b).rx
      (heard ++ (if now then by_clock Reorder b.rx else [])))
      (append_assoc calls (Ticks ∷ []) (if now then as_timed Reorder b.rx else []))
      (timed_hears now b (calls ++ Ticks ∷ []) heard
      (counts_one bits reorder steps calls tx e.bearer.rx cs given heard h))
  calls_hear e (SetDiscard ttis) calls heard g h = hears_none calls e.bearer.rx heard h

  -- a PDU that is under way comes
  read_hears : (r : Result UmdPdu RlcRefusal) (pdu : UmdPdu) (b : State) (calls : List ReceiverCall)
      (heard : List (List ℕ)) → r ≡ Ok pdu → Comes (calls ++ Arrives pdu ∷ []) (arrival pdu b.rx) heard
      → Comes (calls ++ as_read r b.rx) (arrived_left r b).rx (heard ++ by_pdu r b.rx)
  read_hears r pdu b calls heard q h =
      let ready : List (List ℕ) = (arrival pdu b.rx).joined.ready in
      subst (λ (x : Result UmdPdu RlcRefusal). Comes (calls ++ as_read x b.rx) (arrived_left x b).rx
      (heard ++ by_pdu x b.rx)) (sym q)
      (subst (λ (l : List ReceiverCall). Comes l (all_handed (arrival pdu b.rx)) (heard ++ ready))
      (append_assoc calls (Arrives pdu ∷ []) (ups ready))
      (hands_all bits reorder steps (calls ++ Arrives pdu ∷ []) tx (arrival pdu b.rx) cs given heard ready refl h))

  pub copy_hears : (b : State) (c : Copy) (calls : List ReceiverCall) (heard : List (List ℕ)) → IsUmBits bits
      → b.bits ≡ bits → (h : Comes calls b.rx heard) → IsCopyOf bits h.f.made c
      → 2 * b.rx.window.width + c.number < top_of b.rx.window + b.rx.window.width
      → Comes (calls ++ receiver_calls b (Arrive c.octets)) (called b (Arrive c.octets)).rx
      (heard ++ hands b (Arrive c.octets))
  unfolding flow_arrived after_arrival
  copy_hears b c calls heard u q h k near =
      read_hears (umd_at b.bits c.octets) k.pdu b calls heard (ap (λ (n : ℕ). umd_at n c.octets) q ∙ k.read)
      (arrives_one bits reorder steps calls tx b.rx cs given heard c u h k near)

-- ---- nothing that is ready is left over

expiry_idle : (x : Expired) (b : State) → b.rx.joined.ready ≡ [] → (expiry_left x b).rx.joined.ready ≡ []
expiry_idle NotRunning b q = q
expiry_idle (Done again) b q = refl

clock_idle : (clock : Clock) (b : State) → b.rx.joined.ready ≡ [] → (clock_left clock b).rx.joined.ready ≡ []
clock_idle Poll b q = q
clock_idle Reorder b q = expiry_idle (expiring b.rx) b q
clock_idle Prohibit b q = q

timed_idle : (now : Bool) (b : State) → b.rx.joined.ready ≡ [] → (timed_left now b).rx.joined.ready ≡ []
unfolding after_expiry
timed_idle true b q = clock_idle Reorder b q
timed_idle false b q = q

arrived_idle : (r : Result UmdPdu RlcRefusal) (b : State) → b.rx.joined.ready ≡ []
    → (arrived_left r b).rx.joined.ready ≡ []
arrived_idle (Err refused) b q = q
arrived_idle (Ok pdu) b q = refl

one_idle : (b : State) (c : Call) → b.rx.joined.ready ≡ [] → (called b c).rx.joined.ready ≡ []
unfolding submitted taken_from flow_arrived flow_expired ticked with_discard after_taking after_arrival after_expiry
    after_ticking
one_idle b (Submit sdu) q = q
one_idle b (Take share held) q = q
one_idle b (Arrive pdu) q = arrived_idle (umd_at b.bits pdu) b q
one_idle b (Expire clock) q = clock_idle clock b q
one_idle b Tick q = timed_idle (ends b.rx.clock) (counted_down b) q
one_idle b (SetDiscard ttis) q = q

pub all_idle : (b : State) (cs : List Call) → b.rx.joined.ready ≡ [] → (all_called b cs).rx.joined.ready ≡ []
all_idle b [] q = q
all_idle b (c ∷ cs) q = all_idle (called b c) cs (one_idle b c q)
