-- What each call of an acknowledged bearer is to RLC's sender and to RLC's receiver, by calls of
-- their own (TS 36.322 4.2.1.3).
use Rattle.std.specs.Prelude.{◌≡◌, ℕ, Bool, if◌then◌else◌, List, [], ◌∷◌, ◌++◌, map, Option, Result}
use Rattle.std.specs.Prelude.{Ok, Err}
use Rattle.std.specs.List.{AllByRecursion}
use Rattle.rlc_pdu.specs.declared.fault.RlcRefusal.{RlcRefusal}
use Rattle.rlc_pdu.specs.declared.outcome.Taken.{Taken}
use Rattle.rlc_pdu.specs.Pdus.{AcknowledgedPdu, Payload, Status as Control}
use Rattle.rlc_pdu.specs.Reading.{am_at}
use Rattle.rlc_am_tx.specs.Machine.{State as Sender, answer as rlc_answer}
use Rattle.rlc_am_rx.specs.State.{State as Receiver, fresh}
use Rattle.law_rlc.specs.AmSender.Run.{Call as SenderCall, Offer, Take as Taking, Status}
use Rattle.law_rlc.specs.AmSender.Run.{Tick as Ticks, Expire as Expires, Settle, Confirm}
use Rattle.law_rlc.specs.AmReceiver.Run.{Call as ReceiverCall, Arrive as Hears, Up, Write}
use Rattle.law_rlc.specs.AmReceiver.Run.{ExpireReorder, ExpireProhibit, TickReorder, TickProhibit}
use Rattle.law_rlc.specs.AmReceiver.Run.{state_after}
use Rattle.eps_sec.specs.declared.Keys.{Keys}
use Rattle.bearer_pdcp.specs.Telling.{pdus_of}
use Rattle.bearer.specs.Acknowledged.State.{State, has_more}
use Rattle.bearer.specs.Acknowledged.Taking.{writes_status, status_pdus, data_size, after_taking}
use Rattle.bearer.specs.declared.flow.Flow.TheVariants.{Am}
use Rattle.bearer.specs.Taking.{pdus}
use Rattle.law_bearer.specs.AnyBearer.Calls.{Call, Submit, Take, Arrive, Expire, Tick, SetDiscard}
use Rattle.law_bearer.specs.AnyBearer.Calls.{after, Restart, goes}
use Rattle.law_bearer.specs.AnyBearer.Stream.{takes, pdu_of}
use Rattle.law_bearer.specs.AnyBearer.Sending.{sends_on}

-- ---- the sender

-- the PDUs of PDCP that RLC takes
abbrev pub offers_in : State → ℕ → Option ℕ → List (List ℕ)
offers_in b share held = map (pdu_of b.pdcp.tx) (takes (Am b) (Take share held))

-- the sender with these
abbrev pub offered_to : State → ℕ → Option ℕ → Sender
offered_to b share held = sends_on (map (λ sdu. Offer sdu) (offers_in b share held)) b.tx

-- whether PDCP has more behind it
abbrev pub has_more_behind : State → ℕ → Option ℕ → Bool
has_more_behind b share held = has_more (after_taking b share held).pdcp

-- the data PDU that it then gives
abbrev pub data_given : State → ℕ → Option ℕ → Taken
data_given b share held =
    rlc_answer (offered_to b share held) (data_size b share) held (has_more_behind b share held)

abbrev pub status_heard : Result AcknowledgedPdu RlcRefusal → List SenderCall
status_heard (Ok (Control pdu)) = Status pdu ∷ []
status_heard (Ok (Payload pdu)) = []
status_heard (Err refused) = []

-- what brings something to the sender, or takes it from there
abbrev pub sender_calls : State → Call → List SenderCall
sender_calls b (Submit sdu) = []
sender_calls b (Take share held) =
    map (λ sdu. Offer sdu) (offers_in b share held)
    ++ Taking (data_size b share) held (has_more_behind b share held) ∷ []
sender_calls b (Arrive pdu) = status_heard (am_at pdu)
sender_calls b (Expire clock) = []
sender_calls b Tick = []
sender_calls b (SetDiscard ttis) = []

-- all else is of its timer, or hands over what is confirmed
abbrev pub IsOfSender : SenderCall → Type 0
IsOfSender (Offer sdu) = ⊥
IsOfSender (Taking size held more) = ⊥
IsOfSender (Status pdu) = ⊥
IsOfSender Ticks = Unit {0}
IsOfSender (Expires more) = Unit {0}
IsOfSender (Settle more) = Unit {0}
IsOfSender Confirm = Unit {0}

-- a sender comes to another state by calls, and then by some of its own
pub record SenderGoes (s t : Sender) (calls : List SenderCall) : Type 0 where
  pub own : List SenderCall
  pub are_own : AllByRecursion IsOfSender own
  pub left : t ≡ sends_on own (sends_on calls s)

-- ---- the receiver

abbrev pub hears_on : List ReceiverCall → Receiver → Receiver
hears_on [] r = r
hears_on (c ∷ cs) r = hears_on cs (state_after r c)

abbrev pub data_heard : Result AcknowledgedPdu RlcRefusal → List ReceiverCall
data_heard (Ok (Payload pdu)) = Hears pdu ∷ []
data_heard (Ok (Control pdu)) = []
data_heard (Err refused) = []

-- what brings a data PDU to the receiver, or takes a STATUS from there
abbrev pub receiver_calls : State → Call → List ReceiverCall
receiver_calls b (Submit sdu) = []
receiver_calls b (Take share held) = if writes_status b.rx share then Write ∷ [] else []
receiver_calls b (Arrive pdu) = data_heard (am_at pdu)
receiver_calls b (Expire clock) = []
receiver_calls b Tick = []
receiver_calls b (SetDiscard ttis) = []

-- all else is of its timers, or hands up
abbrev pub IsOfReceiver : ReceiverCall → Type 0
IsOfReceiver (Hears pdu) = ⊥
IsOfReceiver Up = Unit {0}
IsOfReceiver Write = ⊥
IsOfReceiver ExpireReorder = Unit {0}
IsOfReceiver ExpireProhibit = Unit {0}
IsOfReceiver TickReorder = Unit {0}
IsOfReceiver TickProhibit = Unit {0}

pub record ReceiverGoes (r t : Receiver) (calls : List ReceiverCall) : Type 0 where
  pub own : List ReceiverCall
  pub are_own : AllByRecursion IsOfReceiver own
  pub left : t ≡ hears_on own (hears_on calls r)

-- ---- the laws

abbrev pub SenderGoesOn : Type 0
SenderGoesOn = (b d : State) (c : Call) → after (Am b) c ≡ Am d
    → SenderGoes b.tx d.tx (sender_calls b c)

abbrev pub ReceiverGoesOn : Type 0
ReceiverGoesOn = (b d : State) (c : Call) → after (Am b) c ≡ Am d
    → ReceiverGoes b.rx d.rx (receiver_calls b c)

-- the PDUs that it writes are the receiver's STATUS, where it writes one, and the data PDU that the
-- sender gives
abbrev pub WritesWhatRlcGives : Type 0
WritesWhatRlcGives = (b : State) (share : ℕ) (held : Option ℕ)
    → pdus (Am b) share held ≡ status_pdus b.rx share ++ pdus_of (data_given b share held)

-- each life begins with a receiver that begins
abbrev pub HearsAnew : Type 0
HearsAnew = (b d : State) (keys : Keys) → goes (Am b) (Restart keys) ≡ Am d
    → d.rx ≡ fresh b.rx_config
