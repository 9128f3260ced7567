-- What deeds keep: the kind, the protections, and that nothing is left over.
use Rattle.std.proofs.Common.{◌≡◌, ℕ, ◌+◌, Bool, true, false, if◌then◌else◌, List, [], ◌∷◌, drop, Option, Some, None}
use Rattle.std.proofs.Common.{refl, ap, ◌∙◌}
use Rattle.pdcp_rx.specs.declared.got.Cause.{Cause}
use Rattle.pdcp_rx.specs.declared.got.Cause.TheVariants.{Arrived}
use Rattle.pdcp_rx.specs.declared.got.Got.{Got}
use Rattle.pdcp_rx.specs.declared.security.Opened.{Opened}
use Rattle.pdcp_rx.specs.declared.security.Opened.TheVariants.{Sdu, Differs}
use Rattle.pdcp_rx.specs.Heard.{Heard, Bad, Told, Data, heard}
use Rattle.pdcp_rx.specs.Held.{stored}
use Rattle.pdcp_rx.specs.State.{State as Receiving, above, passed_over, opened_at, waits, raised, left_heard, left_data}
use Rattle.pdcp_rx.specs.State.{left_opened, arrived}
use Rattle.pdcp_tx.specs.declared.sender.Next.{Next}
use Rattle.pdcp_tx.specs.Runs.{Call as PdcpCall, Submit, Take, Confirm, Report, Owe, Tick, Late, after}
use Rattle.pdcp_tx.specs.State.{State as Sending, submitted, confirmed, reported, reported_from, fms_count, after_late}
use Rattle.pdcp_tx.specs.State.{taking}
use Rattle.rlc_am_tx.specs.declared.turn.Turn.{Turn}
use Rattle.rlc_am_tx.specs.declared.turn.Turn.TheVariants as turns
use Rattle.rlc_am_tx.specs.Machine.{State as Sender, turn, after_turn, with_poll, is_wanted, sent_whole, sent_segment}
use Rattle.rlc_am_tx.specs.Machine.{sent_new, after_expiry, expiry_limit, expired, with_recalled, recalled_place}
use Rattle.rlc_am_tx.specs.Machine.{with_owed, ended, settles, settled_by}
use Rattle.rlc_am_rx.specs.Machine.{after_reorder}
use Rattle.rlc_am_rx.specs.State.{State as Receiver}
use Rattle.l2_num.specs.Timers.{runs}
use Rattle.law_rlc.specs.AmReceiver.Run.{Call as ReceiverCall, Arrive, Up, Write, ExpireReorder, ExpireProhibit}
use Rattle.law_rlc.specs.AmReceiver.Run.{TickReorder, TickProhibit, state_after}
use Rattle.law_rlc.specs.AmSender.Run.{Call as SenderCall, Offer, Take as Taking, Status, Tick as Ticks, Expire, Settle}
use Rattle.law_rlc.specs.AmSender.Run.{Confirm as Confirmed, after as sender_after}
use Rattle.bearer.specs.Acknowledged.State.{State}
use Rattle.law_bearer.proofs.AnyBearer.Sender.{took_same}
use Rattle.law_bearer.specs.AmBearer.Deeds.{Deed, Feeds, Sends, Confirms, Receives, HandsUp, Asks, Sets, does, does_all}
use Rattle.law_bearer.specs.AmBearer.Deeds.{offered_next, after_heard, confirms_first, hands_first}
use Rattle.law_bearer.specs.AmBearer.Calls.{IsOfData, IsOfSignalling, IsIdle}
use Rattle.law_bearer.specs.AmBearer.Lives.{KeepsProtection}
use Rattle.law_bearer.proofs.AmBearer.Ups.{IsQuiet, AreQuiet}

-- ---- PDCP's sender

pub record SendsAlike (s t : Sending) : Type 0 where
  pub kind : t.kind ≡ s.kind
  pub protection : t.protection ≡ s.protection

reported_alike : (from : Option ℕ) (s : Sending) (bitmap : List ℕ) → SendsAlike s (reported_from from s bitmap)
reported_alike None s bitmap = record { kind = refl; protection = refl }
reported_alike (Some n) s bitmap = record { kind = refl; protection = refl }

asks_alike : (s : Sending) (c : PdcpCall) → SendsAlike s (after s c)
unfolding submitted confirmed reported after_late
asks_alike s (Submit sdu) = record { kind = refl; protection = refl }
asks_alike s Take = record { kind = (took_same s).kind; protection = (took_same s).protection }
asks_alike s (Confirm place) = record { kind = refl; protection = refl }
asks_alike s (Report fms bitmap) = reported_alike (fms_count s.kind s.base fms) s bitmap
asks_alike s (Owe report) = record { kind = refl; protection = refl }
asks_alike s Tick = record { kind = refl; protection = refl }
asks_alike s Late = record { kind = refl; protection = refl }

told_alike : (h : Heard) (s : Sending) → SendsAlike s (after_heard h s)
told_alike (Bad refusal) s = record { kind = refl; protection = refl }
told_alike (Told fms bitmap) s = asks_alike s (Report fms bitmap)
told_alike (Data sn body) s = record { kind = refl; protection = refl }

-- ---- PDCP's receiver

pub record HearsAlike (r t : Receiving) : Type 0 where
  pub kind : t.kind ≡ r.kind
  pub protection : t.protection ≡ r.protection

placed_alike : (r : Receiving) (b : Bool) (at : ℕ) (sdu : List ℕ)
    → HearsAlike r (if b then record r { held = stored r.held at sdu } else raised r (stored r.held at sdu) (at + 1))
placed_alike r true at sdu = record { kind = refl; protection = refl }
placed_alike r false at sdu = record { kind = refl; protection = refl }

opened_alike : (r : Receiving) (cause : Cause) (at : ℕ) (o : Opened) → HearsAlike r (left_opened r cause at o)
opened_alike r cause at (Sdu sdu) = placed_alike r (waits r.kind cause at) at sdu
opened_alike r cause at (Differs found wanted) = record { kind = refl; protection = refl }

data_alike : (why : Option Got) (r : Receiving) (cause : Cause) (at : ℕ) (o : Opened)
    → HearsAlike r (left_data why r cause at o)
data_alike (Some why) r cause at o = record { kind = refl; protection = refl }
data_alike None r cause at o = opened_alike r cause at o

heard_alike : (h : Heard) (r : Receiving) (cause : Cause) → HearsAlike r (left_heard r cause h)
heard_alike (Bad refusal) r cause = record { kind = refl; protection = refl }
heard_alike (Told fms bitmap) r cause = record { kind = refl; protection = refl }
heard_alike (Data sn body) r cause =
    data_alike (passed_over r (above r sn)) r cause (above r sn) (opened_at r (above r sn) body)

pub arrives_alike : (r : Receiving) (sdu : List ℕ) (cause : Cause) → HearsAlike r (arrived r sdu cause)
unfolding arrived
arrives_alike r sdu cause = heard_alike (heard r.kind sdu) r cause

-- ---- both

record StaysAlike (b d : State) : Type 0 where
  kind : d.pdcp.kind ≡ b.pdcp.kind
  tx : SendsAlike b.pdcp.tx d.pdcp.tx
  rx : HearsAlike b.pdcp.rx d.pdcp.rx

same_rx : (r : Receiving) → HearsAlike r r
same_rx r = record { kind = refl; protection = refl }

same_tx : (s : Sending) → SendsAlike s s
same_tx s = record { kind = refl; protection = refl }

confirms_alike : (places : List ℕ) (b : State) → StaysAlike b (confirms_first places b)
confirms_alike [] b = record { kind = refl; tx = same_tx b.pdcp.tx; rx = same_rx b.pdcp.rx }
confirms_alike (place ∷ places) b =
    record { kind = refl; tx = asks_alike b.pdcp.tx (Confirm place); rx = same_rx b.pdcp.rx }

hands_alike : (sdus : List (List ℕ)) (b : State) → StaysAlike b (hands_first sdus b)
hands_alike [] b = record { kind = refl; tx = same_tx b.pdcp.tx; rx = same_rx b.pdcp.rx }
hands_alike (sdu ∷ sdus) b =
    let r : HearsAlike b.pdcp.rx (arrived b.pdcp.rx sdu Arrived) = arrives_alike b.pdcp.rx sdu Arrived in
    record {
      kind = refl;
      tx = told_alike (heard b.pdcp.rx.kind sdu) b.pdcp.tx;
      rx = record { kind = r.kind; protection = r.protection };
    }

does_alike : (b : State) (deed : Deed) → StaysAlike b (does b deed)
does_alike b Feeds = record { kind = refl; tx = asks_alike b.pdcp.tx Take; rx = same_rx b.pdcp.rx }
does_alike b (Sends c) = record { kind = refl; tx = same_tx b.pdcp.tx; rx = same_rx b.pdcp.rx }
does_alike b Confirms = confirms_alike b.tx.accounts.news b
does_alike b (Receives c) = record { kind = refl; tx = same_tx b.pdcp.tx; rx = same_rx b.pdcp.rx }
does_alike b HandsUp = hands_alike b.rx.out.ready b
does_alike b (Asks c) = record { kind = refl; tx = asks_alike b.pdcp.tx c; rx = same_rx b.pdcp.rx }
does_alike b (Sets ttis) = record {
  kind = refl;
  tx = record { kind = refl; protection = refl };
  rx = same_rx b.pdcp.rx;
}

pub deeds_keep_protection : (b : State) (deed : Deed) → KeepsProtection b (does b deed)
deeds_keep_protection b deed = let h = does_alike b deed in
    record { sending = h.tx.protection; receiving = h.rx.protection }

pub kind_stays : (deeds : List Deed) (b : State) → (does_all deeds b).pdcp.tx.kind ≡ b.pdcp.tx.kind
kind_stays [] b = refl
kind_stays (deed ∷ deeds) b = kind_stays deeds (does b deed) ∙ (does_alike b deed).tx.kind

pub data_stays : (bits : ℕ) (deeds : List Deed) (b : State) → IsOfData bits b → IsOfData bits (does_all deeds b)
data_stays bits [] b h = h
data_stays bits (deed ∷ deeds) b h =
    let one = does_alike b deed in
    data_stays bits deeds (does b deed)
    (record {
      kind = one.kind ∙ h.kind;
      sending = one.tx.kind ∙ h.sending;
      receiving = one.rx.kind ∙ h.receiving;
    })

pub signalling_stays : (deeds : List Deed) (b : State) → IsOfSignalling b → IsOfSignalling (does_all deeds b)
signalling_stays [] b h = h
signalling_stays (deed ∷ deeds) b h =
    let one = does_alike b deed in
    signalling_stays deeds (does b deed)
    (record {
      kind = one.kind ∙ h.kind;
      sending = one.tx.kind ∙ h.sending;
      receiving = one.rx.kind ∙ h.receiving;
    })

-- ---- nothing is left over

poll_news : (b : Bool) (s : Sender) → (with_poll b s).accounts.news ≡ s.accounts.news
poll_news true s = refl
poll_news false s = refl

turn_news : (t : Turn) (s : Sender) (size : ℕ) (more : Bool)
    → (after_turn t s size more).accounts.news ≡ s.accounts.news
unfolding after_turn
turn_news turns.Whole s size more = poll_news (is_wanted (sent_whole s) more) (sent_whole s)
turn_news turns.Part s size more = poll_news (is_wanted (sent_segment s size) more) (sent_segment s size)
turn_news turns.New s size more = poll_news (is_wanted (sent_new s size) more) (sent_new s size)
turn_news turns.Idle s size more = refl
turn_news turns.Stopped s size more = refl
turn_news turns.Small s size more = refl
turn_news turns.Shut s size more = refl
turn_news turns.Held s size more = refl

ended_news : (o : Option ℕ) (b : Bool) (s : Sender) → (ended o b s).accounts.news ≡ s.accounts.news
ended_news (Some sn) b s = refl
ended_news None true s = refl
ended_news None false s = refl

recalled_news : (o : Option ℕ) (s : Sender) → (with_recalled o s).accounts.news ≡ s.accounts.news
recalled_news None s = refl
recalled_news (Some at) s = refl

expired_by : (b : Bool) (s : Sender) (more : Bool)
    → (if b then ended (expiry_limit s more) false (expired s more) else s).accounts.news ≡ s.accounts.news
expired_by true s more = ended_news (expiry_limit s more) false (expired s more)
    ∙ recalled_news (recalled_place s more) (with_owed s)
expired_by false s more = refl

expiry_news : (s : Sender) (more : Bool) → (after_expiry s more).accounts.news ≡ s.accounts.news
unfolding after_expiry
expiry_news s more = expired_by (runs s.polls.timer) s more

settled_by_news : (b : Bool) (s : Sender) → (settled_by b s).accounts.news ≡ s.accounts.news
settled_by_news true s = refl
settled_by_news false s = refl

pub settled_news : (s : Sender) (more : Bool) → (sender_after s (Settle more)).accounts.news ≡ s.accounts.news
settled_news s more = settled_by_news (settles s more) s

quiet_news : (s : Sender) (c : SenderCall) → IsQuiet (Sends c) → s.accounts.news ≡ []
    → (sender_after s c).accounts.news ≡ []
quiet_news s (Offer sdu) q e = e
quiet_news s (Taking size held more) q e = turn_news (turn s size held more) s size more ∙ e
quiet_news s (Status status) q e = absurd q
quiet_news s Ticks q e = e
quiet_news s (Expire more) q e = expiry_news s more ∙ e
quiet_news s (Settle more) q e = settled_news s more ∙ e
quiet_news s Confirmed q e = ap (λ (l : List ℕ). drop 1 l) e

reorder_ready : (mark : Option ℕ) (r : Receiver) → (after_reorder mark r).out.ready ≡ r.out.ready
reorder_ready None r = refl
reorder_ready (Some x) r = refl

quiet_ready : (r : Receiver) (c : ReceiverCall) → IsQuiet (Receives c) → r.out.ready ≡ []
    → (state_after r c).out.ready ≡ []
quiet_ready r (Arrive pdu) q e = absurd q
quiet_ready r Up q e = ap (λ (l : List (List ℕ)). drop 1 l) e
quiet_ready r Write q e = e
quiet_ready r ExpireReorder q e = reorder_ready r.mark r ∙ e
quiet_ready r ExpireProhibit q e = e
quiet_ready r TickReorder q e = e
quiet_ready r TickProhibit q e = e

offered_news : (o : Option Next) (s : Sender) → (offered_next o s).accounts.news ≡ s.accounts.news
offered_news None s = refl
offered_news (Some pdu) s = refl

confirms_idle : (places : List ℕ) (b : State) → b.tx.accounts.news ≡ places → IsIdle b
    → IsIdle (confirms_first places b)
confirms_idle [] b p h = h
confirms_idle (place ∷ places) b p h =
    record { heard = h.heard; raised = h.raised; confirmed = ap (λ (l : List ℕ). drop 1 l) h.confirmed }

quiet_one : (deed : Deed) (b : State) → IsQuiet deed → IsIdle b → IsIdle (does b deed)
quiet_one Feeds b q h = record {
  heard = h.heard;
  raised = h.raised;
  confirmed = offered_news (taking b.pdcp.tx) b.tx ∙ h.confirmed;
}
quiet_one (Sends c) b q h = record { heard = h.heard; raised = h.raised; confirmed = quiet_news b.tx c q h.confirmed }
quiet_one Confirms b q h = confirms_idle b.tx.accounts.news b refl h
quiet_one (Receives c) b q h =
    record { heard = quiet_ready b.rx c q h.heard; raised = h.raised; confirmed = h.confirmed }
quiet_one HandsUp b q h = absurd q
quiet_one (Asks c) b q h = record { heard = h.heard; raised = h.raised; confirmed = h.confirmed }
quiet_one (Sets ttis) b q h = record { heard = h.heard; raised = h.raised; confirmed = h.confirmed }

pub quiet_idle : (deeds : List Deed) (b : State) → AreQuiet deeds → IsIdle b → IsIdle (does_all deeds b)
quiet_idle [] b q h = h
quiet_idle (deed ∷ deeds) b q h = quiet_idle deeds (does b deed) q.1 (quiet_one deed b q.0 h)
