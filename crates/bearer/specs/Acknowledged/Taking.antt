-- A bearer writes within its share of a grant (TS 36.321 5.4.3.1): a STATUS that is due, and then
-- at most one data PDU.
use Rattle.std.specs.Prelude.{ℕ, ◌+◌, ◌-◌, ◌%◌, Bool, ◌&&◌, if◌then◌else◌, List, [], ◌∷◌, ◌++◌}
use Rattle.std.specs.Prelude.{Option, Some, None, is_some, length, nat_le}
use Rattle.bearer_types.specs.declared.Event.{Event}
use Rattle.bearer_types.specs.declared.Event.TheVariants as events
use Rattle.l2_types.specs.declared.Clock.TheVariants.{Poll, Prohibit}
use Rattle.l2_types.specs.declared.How.{How}
use Rattle.l2_types.specs.declared.How.TheVariants as how
use Rattle.l2_types.specs.declared.Waits.TheVariants as waits
use Rattle.rlc_pdu.specs.declared.Taken.{Taken}
use Rattle.rlc_pdu.specs.declared.Taken.TheVariants.{Piece, Idle, Small, Shut, Held, Stopped}
use Rattle.rlc_am_rx.specs.State.{State as Receiver}
use Rattle.rlc_am_rx.specs.Status.{may_write, ack, nacks}
use Rattle.rlc_am_rx.specs.Machine.{written}
use Rattle.rlc_am_tx.specs.Machine.{State as Sender, offered, answer as rlc_answer, after_take}
use Rattle.rlc_am_tx.specs.Need.{hungry}
use Rattle.pdcp_tx.specs.State.{Offer, offers}
use Rattle.bearer_pdcp.specs.Taking.{taken, taking_told, after_taking as after_pdcp}
use Rattle.bearer_pdcp.specs.Telling.{pdus_of}
use Rattle.bearer.specs.Acknowledged.State.{State, has_more, Work, work, with_work}
use Rattle.bearer.specs.Acknowledged.Reports.{status_octets}
use Rattle.rlc_pdu.specs.declared.constants.TheConstants.{AM_MODULUS}

-- ---- the STATUS: it is written where it is due, may be sent, and 2 octets fit behind 3 for its
-- subheader

abbrev pub writes_status : Receiver → ℕ → Bool
writes_status r share = may_write r && nat_le 5 share

abbrev pub status_pdu : Receiver → ℕ → List ℕ
status_pdu r share = status_octets (ack r (share - 3) % AM_MODULUS) (nacks r (share - 3))

abbrev pub status_pdus : Receiver → ℕ → List (List ℕ)
status_pdus r share = if writes_status r share then status_pdu r share ∷ [] else []

-- the prohibit timer starts, if the bearer has one
abbrev pub prohibit_told : ℕ → Bool → List Event
prohibit_told lcid has = if has then events.Start lcid Prohibit ∷ [] else []

abbrev pub status_told : ℕ → Bool → Receiver → ℕ → List Event
status_told lcid has r share = if writes_status r share
    then events.Send lcid how.Status (ack r (share - 3) % AM_MODULUS)
    ∷ prohibit_told lcid has else []

abbrev pub has_prohibit : State → Bool
has_prohibit s = is_some s.rx_config.prohibit

abbrev pub status_left : Receiver → ℕ → Receiver
status_left r share = if writes_status r share then written r else r

-- the share behind it
abbrev pub share_left : Receiver → ℕ → ℕ
share_left r share = if writes_status r share then share - (3 + length (status_pdu r share))
    else share

-- ---- RLC takes what PDCP has, as long as the PDU has room for more

abbrev pub given_to : Option (List ℕ) → Sender → Sender
given_to None tx = tx
given_to (Some pdu) tx = offered tx pdu

abbrev pub fed : Work → Work
fed w = work (after_pdcp w.pdcp) (given_to (taken w.pdcp) w.tx) (w.events ++ taking_told w.pdcp)

abbrev pub feeds : List Offer → ℕ → Option ℕ → Work → Work
feeds [] size held w = w
feeds (o ∷ os) size held w = if hungry w.tx size held then feeds os size held (fed w) else w

-- ---- the data PDU

-- a PDU is sent for the first time, or again
abbrev pub how_of : Bool → How
how_of first = if first then how.New else how.Re

abbrev pub poll_told : ℕ → Bool → List Event
poll_told lcid polled = if polled then events.Start lcid Poll ∷ [] else []

abbrev pub data_told : ℕ → Taken → List Event
data_told lcid (Piece number first polled octets) =
    events.Send lcid (how_of first) (number % AM_MODULUS) ∷ poll_told lcid polled
data_told lcid Idle = []
data_told lcid Small = events.Wait lcid waits.Small ∷ []
data_told lcid Shut = events.Wait lcid waits.Shut ∷ []
data_told lcid Held = events.Wait lcid waits.Held ∷ []
data_told lcid Stopped = events.Wait lcid waits.Stopped ∷ []

abbrev pub answer_of : Work → ℕ → Option ℕ → Taken
answer_of w size held = rlc_answer w.tx size held (has_more w.pdcp)

abbrev pub sent : Work → ℕ → Option ℕ → Work
sent w size held =
    work w.pdcp (after_take w.tx size held (has_more w.pdcp))
    (w.events ++ data_told w.pdcp.lcid (answer_of w size held))

-- ---- the whole

abbrev pub data_size : State → ℕ → ℕ
data_size s share = share_left s.rx share - 3

abbrev pub feeding : State → ℕ → Option ℕ → Work
feeding s share held =
    feeds (offers s.pdcp.tx) (data_size s share) held
    (work s.pdcp s.tx (status_told s.pdcp.lcid (has_prohibit s) s.rx share))

unfoldable pub answer : State → ℕ → Option ℕ → Taken
answer s share held = answer_of (feeding s share held) (data_size s share) held

unfoldable pub pdus : State → ℕ → Option ℕ → List (List ℕ)
pdus s share held = status_pdus s.rx share ++ pdus_of (answer s share held)

unfoldable pub taking : State → ℕ → Option ℕ → List Event
taking s share held = (sent (feeding s share held) (data_size s share) held).events

unfoldable pub after_taking : State → ℕ → Option ℕ → State
after_taking s share held =
    with_work (sent (feeding s share held) (data_size s share) held)
    (record s { rx = status_left s.rx share })
