-- What a step makes of the SDUs offered, handed up and ready.
use Rattle.std.proofs.Common.{◌≡◌, ℕ, Bool, true, false, List, [], ◌∷◌, ◌++◌, drop, slice_get, Option, Some, None}
use Rattle.std.proofs.Common.{Result, Ok, Err, if◌then◌else◌, refl, ap, sym, subst, ◌∙◌}
use Rattle.std.proofs.lemmas.List.{append-nil}
use Rattle.rlc_pdu.specs.declared.Landed.{Landed}
use Rattle.rlc_pdu.specs.declared.Landed.TheVariants.{Kept, Repeat, Outside, Clash}
use Rattle.rlc_pdu.specs.declared.fault.RlcRefusal.{RlcRefusal}
use Rattle.rlc_pdu.specs.Pdus.{AmdPdu, AcknowledgedPdu, Payload, Status as Control}
use Rattle.rlc_pdu.specs.Reading.{am_at}
use Rattle.rlc_am_rx_window.specs.Held.{Held, is_complete}
use Rattle.rlc_am_rx_window.specs.Cells.{leading}
use Rattle.rlc_am_rx_window.specs.Joined.{Joined, joined}
use Rattle.rlc_am_rx_window.specs.Window.{handed_on}
use Rattle.rlc_am_rx.specs.State.{State}
use Rattle.rlc_am_rx.specs.Machine.{landed, after_landing, after_reorder, window_with}
use Rattle.law_rlc.specs.AmSender.Run.{Call as SenderCall, Offer, Take, Status, Tick, Expire, Settle, Confirm}
use Rattle.law_rlc.specs.AmReceiver.Run.{Call, Arrive, Up, Write, ExpireReorder, ExpireProhibit, TickReorder}
use Rattle.law_rlc.specs.AmReceiver.Run.{TickProhibit}
use Rattle.law_rlc.specs.AmReceiver.Stream.{Flow as Output, flows, flow, initial}
use Rattle.law_rlc.specs.AmPair.Flow.{Copy, Report, Flow, Step, Sends, Receives, Reports, DataComes, StatusComes}
use Rattle.law_rlc.specs.AmPair.Flow.{DataGoes, StatusGoes, Passes, data_read, data_comes, status_read, status_comes}
use Rattle.law_rlc.specs.AmPair.Flow.{happens}
use Rattle.law_rlc.specs.AmPair.Given.{IsReceiving, IsGiven}
use Rattle.law_rlc.specs.AmPair.Sdus.{offers_with, offered_in, offered, handed_up, ready}
use Rattle.law_words.specs.Lists.{AreFirstSdus}
use Rattle.law_rlc.specs.AmPair.Arrives.{brings}
use Rattle.law_rlc.specs.AmPair.Steps.{is_up, takes_up, GoesUp, offers}
use Rattle.law_rlc.proofs.AmPair.Sdus.{front-itself, front-more, joined-grows}

-- ---- what comes up

flow-more : (cs : List Call) (c : Call) (o : Output) → flow (cs ++ c ∷ []) o ≡ flows (flow cs o) c
flow-more [] c o = refl
flow-more (d ∷ ds) c o = flow-more ds c (flows o d)

abbrev output : Flow → Output
output f = flow f.heard (initial f.receiving)

handed-grows : (j : Joined) (slots : List Held) (given : ℕ) → AreFirstSdus j.ready (handed_on j slots given).ready
handed-grows j [] given = front-itself j.ready
handed-grows j (h ∷ hs) given =
    by (is_complete h) (joined-grows j (leading (drop given h.cells)))
    (handed-grows (joined j (leading (drop given h.cells))) hs 0)
  where
    by : (b : Bool) → AreFirstSdus j.ready (joined j (leading (drop given h.cells))).ready
        → AreFirstSdus (joined j (leading (drop given h.cells))).ready
        (handed_on (joined j (leading (drop given h.cells))) hs 0).ready
        → AreFirstSdus j.ready (if b then handed_on (joined j (leading (drop given h.cells))) hs 0
        else joined j (leading (drop given h.cells))).ready
    by true own rest =
        front-more j.ready (joined j (leading (drop given h.cells))).ready
        (handed_on (joined j (leading (drop given h.cells))) hs 0).ready own rest
    by false own rest = own

landing-grows : (l : Landed) (s : State) (p : AmdPdu) → AreFirstSdus s.out.ready (after_landing l s p).out.ready
landing-grows Kept s p = handed-grows s.out (window_with s.window p).slots (window_with s.window p).given
landing-grows Repeat s p = front-itself s.out.ready
landing-grows Outside s p = front-itself s.out.ready
landing-grows Clash s p = front-itself s.out.ready

expiry-ready : (m : Option ℕ) (s : State) → (after_reorder m s).out.ready ≡ s.out.ready
expiry-ready None s = refl
expiry-ready (Some x) s = refl

-- neither changes
abbrev Rests : Flow → Flow → Type 0
Rests f g = (handed_up g ≡ handed_up f) × (ready g ≡ ready f)

hears-rests : (f g : Flow) (c : Call) → IsReceiving c → is_up c ≡ false → output g ≡ flows (output f) c → Rests f g
hears-rests f g (Arrive p) given e o = absurd given
hears-rests f g Up given e o = cc
hears-rests f g Write given e o = absurd given
hears-rests f g ExpireReorder given e o = (
  ap (λ (x : Output). x.gone) o,
  ap (λ (x : Output). x.state.out.ready) o
      ∙ expiry-ready (output f).state.mark (output f).state,
)
hears-rests f g ExpireProhibit given e o = (ap (λ (x : Output). x.gone) o, ap (λ (x : Output). x.state.out.ready) o)
hears-rests f g TickReorder given e o = (ap (λ (x : Output). x.gone) o, ap (λ (x : Output). x.state.out.ready) o)
hears-rests f g TickProhibit given e o = (ap (λ (x : Output). x.gone) o, ap (λ (x : Output). x.state.out.ready) o)

status-rests : (f : Flow) (o : Option Report) → Rests f (status_comes f o)
status-rests f None = (refl, refl)
status-rests f (Some r) = by (am_at r.octets)
  where
    by : (x : Result AcknowledgedPdu RlcRefusal) → Rests f (status_read f x)
    by (Ok (Payload pdu)) = (refl, refl)
    by (Ok (Control pdu)) = (refl, refl)
    by (Err refused) = (refl, refl)

step-rests : (f : Flow) (s : Step) → IsGiven f s → takes_up s ≡ false → brings s ≡ false → Rests f (happens f s)
step-rests f (Sends c) given e b = (refl, refl)
step-rests f (Receives c) given e b =
    hears-rests f (happens f (Receives c)) c given e (flow-more f.heard c (initial f.receiving))
step-rests f (Reports size octets) given e b =
    let o = flow-more f.heard Write (initial f.receiving) in
    (ap (λ (x : Output). x.gone) o, ap (λ (x : Output). x.state.out.ready) o)
step-rests f (DataComes k) given e b = cc
step-rests f (StatusComes k) given e b = status-rests f (slice_get f.reports k)
step-rests f (DataGoes k) given e b = (refl, refl)
step-rests f (StatusGoes k) given e b = (refl, refl)
step-rests f Passes given e b = (refl, refl)

-- a data PDU adds to what is ready
abbrev Grows : Flow → Flow → Type 0
Grows f g = (handed_up g ≡ handed_up f) × AreFirstSdus (ready f) (ready g)

data-grows : (f : Flow) (o : Option Copy) → Grows f (data_comes f o)
data-grows f None = (refl, front-itself (ready f))
data-grows f (Some c) = by (am_at c.octets)
  where
    by : (x : Result AcknowledgedPdu RlcRefusal) → Grows f (data_read f x)
    by (Ok (Payload pdu)) =
        let o : output (data_read f (Ok (Payload pdu))) ≡ flows (output f) (Arrive pdu) =
        flow-more f.heard (Arrive pdu) (initial f.receiving) in (
          ap (λ (x : Output). x.gone) o,
          subst (λ (x : Output). AreFirstSdus (ready f) x.state.out.ready) (sym o)
              (landing-grows (landed (output f).state pdu) (output f).state pdu),
        )
    by (Ok (Control pdu)) = (refl, front-itself (ready f))
    by (Err refused) = (refl, front-itself (ready f))

rests-grows : (f g : Flow) → Rests f g → Grows f g
rests-grows f g r = (r.0, subst (λ (xs : List (List ℕ)). AreFirstSdus (ready f) xs) (sym r.1) (front-itself (ready f)))

step-grows : (f : Flow) (s : Step) → IsGiven f s → takes_up s ≡ false → Grows f (happens f s)
step-grows f (Sends c) given e = rests-grows f (happens f (Sends c)) (step-rests f (Sends c) given e refl)
step-grows f (Receives c) given e = rests-grows f (happens f (Receives c)) (step-rests f (Receives c) given e refl)
step-grows f (Reports size octets) given e =
    rests-grows f (happens f (Reports size octets)) (step-rests f (Reports size octets) given e refl)
step-grows f (DataComes k) given e = data-grows f (slice_get f.copies k)
step-grows f (StatusComes k) given e =
    rests-grows f (happens f (StatusComes k)) (step-rests f (StatusComes k) given e refl)
step-grows f (DataGoes k) given e = rests-grows f (happens f (DataGoes k)) (step-rests f (DataGoes k) given e refl)
step-grows f (StatusGoes k) given e =
    rests-grows f (happens f (StatusGoes k)) (step-rests f (StatusGoes k) given e refl)
step-grows f Passes given e = rests-grows f (happens f Passes) (step-rests f Passes given e refl)

pub goes-up : (f : Flow) → GoesUp f
goes-up f =
    let o = flow-more f.heard Up (initial f.receiving) in record {
      gone = ap (λ (x : Output). x.gone) o;
      rest = ap (λ (x : Output). x.state.out.ready) o;
      stays = λ s given e. (step-grows f s given e).0;
      grows = λ s given e. (step-grows f s given e).1;
      same = λ s given e b. (step-rests f s given e b).1;
    }

-- ---- what is offered

offered-end : (cs : List SenderCall) (c : SenderCall) → offered_in (cs ++ c ∷ []) ≡ offered_in cs ++ offers_with c []
offered-end [] c = refl
offered-end (Offer sdu ∷ cs) c = ap (λ (xs : List (List ℕ)). sdu ∷ xs) (offered-end cs c)
offered-end (Take size held more ∷ cs) c = offered-end cs c
offered-end (Status status ∷ cs) c = offered-end cs c
offered-end (Tick ∷ cs) c = offered-end cs c
offered-end (Expire more ∷ cs) c = offered-end cs c
offered-end (Settle more ∷ cs) c = offered-end cs c
offered-end (Confirm ∷ cs) c = offered-end cs c

status-offers : (f : Flow) (o : Option Report) → offered (status_comes f o) ≡ offered f ++ []
status-offers f None = sym (append-nil (offered f))
status-offers f (Some r) = by (am_at r.octets)
  where
    by : (x : Result AcknowledgedPdu RlcRefusal) → offered (status_read f x) ≡ offered f ++ []
    by (Ok (Payload pdu)) = sym (append-nil (offered f))
    by (Ok (Control pdu)) = offered-end f.sent (Status pdu)
    by (Err refused) = sym (append-nil (offered f))

data-offers : (f : Flow) (o : Option Copy) → offered (data_comes f o) ≡ offered f ++ []
data-offers f None = sym (append-nil (offered f))
data-offers f (Some c) = by (am_at c.octets)
  where
    by : (x : Result AcknowledgedPdu RlcRefusal) → offered (data_read f x) ≡ offered f ++ []
    by (Ok (Payload pdu)) = sym (append-nil (offered f))
    by (Ok (Control pdu)) = sym (append-nil (offered f))
    by (Err refused) = sym (append-nil (offered f))

pub step-offers : (f : Flow) (s : Step) → offered (happens f s) ≡ offered f ++ offers s
step-offers f (Sends c) = offered-end f.sent c
step-offers f (Receives c) = sym (append-nil (offered f))
step-offers f (Reports size octets) = sym (append-nil (offered f))
step-offers f (DataComes k) = data-offers f (slice_get f.copies k)
step-offers f (StatusComes k) = status-offers f (slice_get f.reports k)
step-offers f (DataGoes k) = sym (append-nil (offered f))
step-offers f (StatusGoes k) = sym (append-nil (offered f))
step-offers f Passes = sym (append-nil (offered f))
