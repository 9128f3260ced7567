-- What RLC's receiver hands up to PDCP's receiver, and what goes up from there (TS 36.322
-- 5.1.2.2.3, 5.4, TS 36.323 5.1.2).
use Rattle.std.specs.Prelude.{◌≡◌, ℕ, if◌then◌else◌, List, [], ◌∷◌, ◌++◌, Result, Ok, Err}
use Rattle.bearer_types.specs.declared.Event.{Event}
use Rattle.l2_num.specs.Timers.{ends}
use Rattle.l2_types.specs.declared.Clock.{Clock}
use Rattle.l2_types.specs.declared.Clock.TheVariants.{Poll, Reorder, Prohibit}
use Rattle.pdcp_pdu.specs.declared.PdcpKind.TheVariants.{Um as UmKind}
use Rattle.pdcp_rx.specs.declared.got.Cause.{Cause}
use Rattle.pdcp_rx.specs.declared.got.Cause.TheVariants.{Arrived, Reestablished}
use Rattle.pdcp_rx.specs.State.{State as Receiving, arrived}
use Rattle.rlc_pdu.specs.declared.Expired.{Expired}
use Rattle.rlc_pdu.specs.declared.Expired.TheVariants.{Done, NotRunning}
use Rattle.rlc_pdu.specs.declared.RlcRefusal.{RlcRefusal}
use Rattle.rlc_pdu.specs.Pdus.{UmdPdu}
use Rattle.rlc_pdu.specs.Reading.{umd_at}
use Rattle.rlc_um.specs.Receiver.{State as Receiver, arrival, expiring, expired, counted}
use Rattle.rlc_um.specs.Receiver.{all_joined}
use Rattle.bearer.specs.declared.flow.Flow.TheVariants.{Um}
use Rattle.bearer.specs.Hearing.{arriving, expiry, ticking}
use Rattle.bearer.specs.Lives.{stopping}
use Rattle.bearer.specs.Taking.{told}
use Rattle.bearer.specs.Unacknowledged.State.{State}
use Rattle.bearer.specs.Unacknowledged.Hearing.{told_of}
use Rattle.bearer.specs.Unacknowledged.Lives.{stopped}
use Rattle.law_bearer.specs.AnyBearer.Calls.{Call, Submit, Take, Arrive, Expire, Tick, SetDiscard}
use Rattle.law_bearer.specs.AmBearer.Calls.{ups_among}
use Rattle.law_deliver.specs.UmFlow.Pair.{called}

-- ---- the PDUs of PDCP that RLC's receiver has ready behind a call

abbrev pub by_pdu : Result UmdPdu RlcRefusal → Receiver → List (List ℕ)
by_pdu (Err refused) r = []
by_pdu (Ok pdu) r = (arrival pdu r).joined.ready

abbrev pub by_expiry : Expired → Receiver → List (List ℕ)
by_expiry NotRunning r = []
by_expiry (Done again) r = (expired r).joined.ready

-- the reordering timer alone runs here
abbrev pub by_clock : Clock → Receiver → List (List ℕ)
by_clock Poll r = []
by_clock Reorder r = by_expiry (expiring r) r
by_clock Prohibit r = []

abbrev pub hands : State → Call → List (List ℕ)
hands b (Submit sdu) = []
hands b (Take share held) = []
hands b (Arrive pdu) = by_pdu (umd_at b.bits pdu) b.rx
hands b (Expire clock) = by_clock clock b.rx
hands b Tick = if ends b.rx.clock then by_clock Reorder (counted b.rx) else []
hands b (SetDiscard ttis) = []

-- in a life
abbrev pub handed : State → List Call → List (List ℕ)
handed b [] = []
handed b (c ∷ cs) = hands b c ++ handed (called b c) cs

abbrev pub all_called : State → List Call → State
all_called b [] = b
all_called b (c ∷ cs) = all_called (called b c) cs

-- ---- PDCP's receiver hears them, one after the other, and what is ready behind each goes up

abbrev pub hears_one : Cause → List ℕ → Receiving → Receiving
hears_one cause pdu r = record (arrived r pdu cause) { ready = [] }

abbrev pub hears : Cause → List (List ℕ) → Receiving → Receiving
hears cause [] r = r
hears cause (pdu ∷ pdus) r = hears cause pdus (hears_one cause pdu r)

abbrev pub raises : Cause → List (List ℕ) → Receiving → List (List ℕ)
raises cause [] r = []
raises cause (pdu ∷ pdus) r = (arrived r pdu cause).ready
    ++ raises cause pdus (hears_one cause pdu r)

-- ---- what calls tell

abbrev pub tells : State → Call → List Event
tells b (Submit sdu) = []
tells b (Take share held) = told b.pdcp.lcid (Um b) share held
tells b (Arrive pdu) = arriving b.pdcp.lcid (Um b) pdu
tells b (Expire clock) = told_of (expiry (Um b) clock)
tells b Tick = ticking (Um b)
tells b (SetDiscard ttis) = []

abbrev pub tells_all : State → List Call → List Event
tells_all b [] = []
tells_all b (c ∷ cs) = tells b c ++ tells_all (called b c) cs

-- ---- the laws

-- a bearer of unacknowledged data, with SNs of PDCP of so many bits; nothing that is ready to go up
-- is left over
pub record IsOfData (bits : ℕ) (b : State) : Type 0 where
  pub kind : b.pdcp.kind ≡ UmKind bits
  pub idle : b.pdcp.rx.ready ≡ []

-- PDCP's receiver hears just what RLC hands up, and of just what it makes of that the calls tell
-- that it goes up
pub record HearsJust (bits : ℕ) (b : State) (cs : List Call) : Type 0 where
  pub heard : (all_called b cs).pdcp.rx ≡ hears Arrived (handed b cs) b.pdcp.rx
  pub ups : ups_among (tells_all b cs) ≡ raises Arrived (handed b cs) b.pdcp.rx
  pub stays : IsOfData bits (all_called b cs)

abbrev pub HearsWhatIsHanded : Type 0
HearsWhatIsHanded = (bits : ℕ) (b : State) (cs : List Call) → IsOfData bits b → HearsJust bits b cs

-- as a life ends, what RLC can put together
pub record HearsTheRest (b : State) : Type 0 where
  pub heard : (stopped b).pdcp.rx ≡ hears Reestablished (all_joined b.rx) b.pdcp.rx
  pub ups : ups_among (stopping (Um b)) ≡ raises Reestablished (all_joined b.rx) b.pdcp.rx

abbrev pub HearsTheRestAtTheEnd : Type 0
HearsTheRestAtTheEnd = (bits : ℕ) (b : State) → IsOfData bits b → HearsTheRest b
