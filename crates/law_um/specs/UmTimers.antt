-- What an unacknowledged bearer tells of t-Reordering is what its receiver does in each call; by
-- that and by the PDU that comes the receiver stays beside the history of its flow
-- (docs/laws/ACCOUNT.md; TS 36.322 5.1.2.2, 5.4).
use Rattle.std.specs.Prelude.{◌≡◌, ℕ, ◌*◌, ◌%◌, List, [], ◌∷◌, ◌++◌, map, Option, Some, None}
use Rattle.std.specs.Prelude.{Result, Ok, Err}
use Rattle.eps_sec.specs.declared.Keys.{Keys}
use Rattle.rlc_pdu.specs.Pdus.{UmdPdu}
use Rattle.rlc_pdu.specs.Reading.{umd_at}
use Rattle.rlc_pdu.specs.declared.RlcRefusal.{RlcRefusal}
use Rattle.rlc_um.specs.Joined.{parts_of}
use Rattle.rlc_um.specs.Receiver.{State as Receiver, turning, arrival, expiring, expired, counted}
use Rattle.rlc_um.specs.Receiver.{handed, start, all_joined}
use Rattle.rlc_um.specs.Sender.{width_of}
use Rattle.bearer.specs.Unacknowledged.State.{State}
use Rattle.bearer.specs.Unacknowledged.Lives.{stopped, restarted}
use Rattle.bearer.specs.declared.flow.Flow.TheVariants.{Um}
use Rattle.journal_um.specs.declared.pieces.Piece.{Piece}
use Rattle.journal_um.specs.UmEvents.{UmEvent, PduArrived, ReorderStarted, ReorderExpired}
use Rattle.journal_um.specs.UmEvents.{UmLifeEvent, InLife, LifeEnded}
use Rattle.journal_um.specs.UmFlow.{flow_of}
use Rattle.law_bearer.specs.AnyBearer.Calls.{Call, Submit, Take, Arrive, Expire, Tick, SetDiscard}
use Rattle.law_rlc.specs.UmPair.Run.{Call as ReceiverCall, Arrive as Hears, Expire as Expiry}
use Rattle.law_rlc.specs.UmPair.Run.{Tick as Counts, Up}
use Rattle.law_deliver.specs.AmFlow.Reordering.{Reordering, Starts, Expires, reordering_in}
use Rattle.law_deliver.specs.AmFlow.Reordering.{starts_if, expiry_of}
use Rattle.law_deliver.specs.AmFlow.Ups.{tells_in}
use Rattle.law_deliver.specs.UmFlow.Handing.{hands, tells}
use Rattle.law_deliver.specs.UmFlow.Pair.{called}
use Rattle.law_deliver.specs.UmFlow.Runs.{receiver_calls}
use Rattle.law_um.specs.UmReceiving.{SameOctets, SameSdus, CarryAlike, Handing, IsBeside}

-- ---- what is told is what the receiver does

abbrev pub state_after : Receiver → ReceiverCall → Receiver
state_after r (Hears pdu) = arrival pdu r
state_after r Expiry = expired r
state_after r Counts = counted r
state_after r Up = handed r

abbrev pub hears_on : List ReceiverCall → Receiver → Receiver
hears_on [] r = r
hears_on (c ∷ cs) r = hears_on cs (state_after r c)

abbrev pub reordering_by : Receiver → ReceiverCall → List Reordering
reordering_by r (Hears pdu) = starts_if (turning pdu r).started
reordering_by r Expiry = expiry_of (expiring r)
reordering_by r Counts = []
reordering_by r Up = []

abbrev pub reordering_over : List ReceiverCall → Receiver → List Reordering
reordering_over [] r = []
reordering_over (c ∷ cs) r = reordering_by r c ++ reordering_over cs (state_after r c)

pub record TellsReordering (b : State) (c : Call) : Type 0 where
  -- on any channel the same is told
  pub tells_are : (l : ℕ) → tells_in l (Um b) c ≡ tells b c
  pub left : (called b c).rx ≡ hears_on (receiver_calls b c) b.rx
  pub told_is : reordering_in (tells b c) ≡ reordering_over (receiver_calls b c) b.rx

abbrev pub UmBearersTellReordering : Type 0
UmBearersTellReordering = (b : State) (c : Call) → TellsReordering b c

-- ---- the history in a call

abbrev pub event_of : Reordering → UmEvent
event_of Starts = ReorderStarted
event_of Expires = ReorderExpired

-- further events, in order
abbrev pub with_events : List UmEvent → List UmLifeEvent → List UmLifeEvent
with_events [] es = es
with_events (e ∷ more) es = with_events more (InLife e ∷ es)

-- a PDU that comes, by its true number
pub record Coming : Type 0 where
  pub number : ℕ
  pub pieces : List Piece

abbrev pub arrival_of : Option Coming → List UmEvent
arrival_of None = []
arrival_of (Some p) = PduArrived p.number p.pieces ∷ []

-- one that is read has the SN of its number, and carries its pieces
abbrev pub IsReadOf : ℕ → Result UmdPdu RlcRefusal → Option Coming → Type 0
IsReadOf width (Err refusal) None = Unit {0}
IsReadOf width (Err refusal) (Some p) = ⊥
IsReadOf width (Ok pdu) None = ⊥
IsReadOf width (Ok pdu) (Some p) =
    (pdu.sn ≡ p.number % (2 * width)) × CarryAlike SameOctets (parts_of pdu) p.pieces

abbrev pub Brings : ℕ → State → Call → Option Coming → Type 0
Brings width b (Submit sdu) p = p ≡ None
Brings width b (Take share held) p = p ≡ None
Brings width b (Arrive pdu) p = IsReadOf width (umd_at b.bits pdu) p
Brings width b (Expire clock) p = p ≡ None
Brings width b Tick p = p ≡ None
Brings width b (SetDiscard ttis) p = p ≡ None

-- the PDU comes, and then t-Reordering does what is told of it
abbrev pub gone_on : State → Call → Option Coming → List UmLifeEvent → List UmLifeEvent
gone_on b c p es = with_events (arrival_of p ++ map event_of (reordering_in (tells b c))) es

-- ---- the receiver beside it

-- these SDUs went up before
abbrev pub Behind : List (List ℕ) → Handing
Behind gone ready u = SameSdus (gone ++ ready) u

pub record IsUmBeside (width many : ℕ) (gone : List (List ℕ)) (r : Receiver)
    (es : List UmLifeEvent) : Type 0 where
  -- all that was ready went up
  pub idle : r.joined.ready ≡ []
  pub beside : IsBeside SameOctets (Behind gone) r (flow_of width many es)

-- ---- the laws

-- as a bearer comes
abbrev pub UmBearersBeginBeside : Type 0
UmBearersBeginBeside =
    (width reorder many : ℕ) → IsUmBeside width many [] (start width reorder) []

-- in a call, in which more SDUs go up
abbrev pub UmBearersGoOnBeside : Type 0
UmBearersGoOnBeside =
    (width many : ℕ) (gone : List (List ℕ)) (b : State) (c : Call) (p : Option Coming)
    (es : List UmLifeEvent) → Brings width b c p → IsUmBeside width many gone b.rx es
    → IsUmBeside width many (gone ++ hands b c) (called b c).rx (gone_on b c p es)

-- as a life ends, and the next one begins
abbrev pub UmBearersLiveOnBeside : Type 0
UmBearersLiveOnBeside =
    (width many : ℕ) (gone : List (List ℕ)) (b : State) (keys : Keys) (es : List UmLifeEvent)
    → width_of b.bits ≡ width → IsUmBeside width many gone b.rx es
    → IsUmBeside width many (gone ++ all_joined b.rx) (restarted (stopped b) keys).rx
    (LifeEnded ∷ es)
