-- Which deeds each call of an acknowledged bearer is, of data or of signalling (TS 36.322 5.1.3,
-- 5.2, TS 36.323 5.1).
use Rattle.std.specs.Prelude.{◌≡◌, ℕ, Bool, true, false, List, [], ◌∷◌, ◌++◌, map, length, Option}
use Rattle.std.specs.Prelude.{Result, Ok, Err, nat_lt}
use Rattle.bearer_types.specs.declared.Event.{Event}
use Rattle.bearer_types.specs.declared.Event.TheVariants as events
use Rattle.l2_types.specs.declared.Clock.{Clock}
use Rattle.l2_types.specs.declared.Clock.TheVariants.{Poll, Reorder, Prohibit}
use Rattle.pdcp_pdu.specs.declared.PdcpKind.TheVariants.{Am as AmKind, Srb as SrbKind}
use Rattle.pdcp_rx.specs.declared.got.Cause.TheVariants.{Arrived}
use Rattle.pdcp_tx.specs.Runs.{Submit as Submits, Tick as TickPdcp, Late}
use Rattle.rlc_pdu.specs.declared.fault.RlcRefusal.{RlcRefusal}
use Rattle.rlc_pdu.specs.Pdus.{AcknowledgedPdu, Payload, Status as Control}
use Rattle.rlc_pdu.specs.Reading.{am_at}
use Rattle.rlc_am_tx.specs.declared.answers.Heard.{Heard}
use Rattle.rlc_am_tx.specs.declared.answers.Heard.TheVariants as heard_as
use Rattle.rlc_am_tx.specs.Machine.{heard as heard_status, after_status}
use Rattle.rlc_am_rx.specs.Machine.{arrived as landed_in}
use Rattle.law_rlc.specs.AmSender.Run.{Take as Taking, Status, Tick as TickSender}
use Rattle.law_rlc.specs.AmSender.Run.{Expire as ExpireSender, Settle}
use Rattle.law_rlc.specs.AmReceiver.Run.{Arrive as Hears, Write, ExpireReorder, ExpireProhibit}
use Rattle.law_rlc.specs.AmReceiver.Run.{TickReorder, TickProhibit}
use Rattle.bearer_pdcp.specs.Discarding.{after_tick as after_discards, tick_told}
use Rattle.bearer_pdcp.specs.Ends.{Ends}
use Rattle.bearer_pdcp.specs.Hearing.{applies}
use Rattle.bearer.specs.Acknowledged.State.{State, has_more}
use Rattle.bearer.specs.Acknowledged.Taking.{writes_status, data_size}
use Rattle.bearer.specs.Acknowledged.Hearing.{confirms}
use Rattle.bearer.specs.Acknowledged.Timing.{told_of, has_ended}
use Rattle.bearer.specs.declared.flow.Flow.TheVariants.{Am}
use Rattle.bearer.specs.Hearing.{arriving, expiry, ticking}
use Rattle.bearer.specs.Taking.{told}
use Rattle.law_bearer.specs.AnyBearer.Acknowledged.{offers_in, has_more_behind}
use Rattle.law_bearer.specs.AnyBearer.Calls.{Call, Submit, Take, Arrive, Expire, Tick, SetDiscard}
use Rattle.law_bearer.specs.AnyBearer.Calls.{after}
use Rattle.law_bearer.specs.AmBearer.Deeds.{Deed, Feeds, Sends, Confirms, Receives, HandsUp, Asks}
use Rattle.law_bearer.specs.AmBearer.Deeds.{Sets, does_all, go_up, hears_one}

abbrev pub only_if : Bool → Deed → List Deed
only_if true deed = deed ∷ []
only_if false deed = []

-- the poll timer starts where nothing else would bring an acknowledgement, by what PDCP has
abbrev pub settles : Ends → Deed
settles e = Sends (Settle (has_more e))

-- ---- a STATUS where one is written, each PDU that RLC takes, and a data PDU

abbrev pub takes : State → ℕ → Option ℕ → List Deed
takes b share held =
    only_if (writes_status b.rx share) (Receives Write)
    ++ map (λ pdu. Feeds) (offers_in b share held)
    ++ Sends (Taking (data_size b share) held (has_more_behind b share held)) ∷ []

-- ---- a PDU arrives

-- each SDU that RLC hands up; behind a report that is applied the sender settles
abbrev pub hands_up : List (List ℕ) → Ends → List Deed
hands_up [] e = []
hands_up (sdu ∷ sdus) e =
    HandsUp ∷ (only_if (applies sdu Arrived e) (settles (hears_one sdu e))
    ++ hands_up sdus (hears_one sdu e))

-- behind a STATUS that is applied it settles too
abbrev pub settles_by : Heard → Ends → List Deed
settles_by heard_as.Ignored e = []
settles_by (heard_as.Limit sn) e = []
settles_by (heard_as.Applied stopped) e = settles e ∷ []

-- each place that is newly confirmed
abbrev pub confirms_all : List ℕ → List Deed
confirms_all places = map (λ place. Confirms) places

abbrev pub arrives : Result AcknowledgedPdu RlcRefusal → State → List Deed
arrives (Err refused) b = []
arrives (Ok (Payload pdu)) b = Receives (Hears pdu) ∷ hands_up (landed_in b.rx pdu).out.ready b.pdcp
arrives (Ok (Control pdu)) b =
    Sends (Status pdu)
    ∷ (confirms_all (after_status b.tx pdu).accounts.news
    ++ settles_by (heard_status b.tx pdu) (confirms (after_status b.tx pdu).accounts.news b.pdcp))

-- ---- timers

abbrev pub expires : Clock → State → Deed
expires Poll b = Sends (ExpireSender (has_more b.pdcp))
expires Reorder b = Receives ExpireReorder
expires Prohibit b = Receives ExpireProhibit

abbrev pub counted : Clock → Deed
counted Poll = Sends TickSender
counted Reorder = Receives TickReorder
counted Prohibit = Receives TickProhibit

-- a timer counts a TTI, and expires where it ends
abbrev pub ticks : Clock → State → List Deed
ticks clock b = counted clock ∷ only_if (has_ended clock b) (expires clock b)

-- each SDU whose discard timer ends is dropped; behind that the sender settles
abbrev pub discards : List Event → Ends → List Deed
discards told e =
    Asks TickPdcp
    ∷ (map (λ event. Asks Late) told ++ only_if (nat_lt 0 (length told))
    (settles (after_discards e)))

-- ---- any call

abbrev pub deeds_of : State → Call → List Deed
deeds_of b (Submit sdu) = Asks (Submits sdu) ∷ []
deeds_of b (Take share held) = takes b share held
deeds_of b (Arrive pdu) = arrives (am_at pdu) b
deeds_of b (Expire clock) = expires clock b ∷ []
deeds_of b Tick = ticks Poll b ++ ticks Reorder b ++ ticks Prohibit b
    ++ discards (tick_told b.pdcp) b.pdcp
deeds_of b (SetDiscard ttis) = Sets ttis ∷ []

-- ---- what a call tells, and the SDUs of which it tells that they go up

abbrev pub tells : State → Call → List Event
tells b (Submit sdu) = []
tells b (Take share held) = told b.pdcp.lcid (Am b) share held
tells b (Arrive pdu) = arriving b.pdcp.lcid (Am b) pdu
tells b (Expire clock) = told_of (expiry (Am b) clock)
tells b Tick = ticking (Am b)
tells b (SetDiscard ttis) = []

abbrev pub up_in : Event → List (List ℕ)
up_in (events.Up lcid sdu) = sdu ∷ []
up_in event = []

abbrev pub ups_among : List Event → List (List ℕ)
ups_among [] = []
ups_among (event ∷ told) = up_in event ++ ups_among told

-- ---- the laws

-- a bearer of acknowledged data, with SNs of so many bits
pub record IsOfData (bits : ℕ) (b : State) : Type 0 where
  pub kind : b.pdcp.kind ≡ AmKind bits
  pub sending : b.pdcp.tx.kind ≡ AmKind bits
  pub receiving : b.pdcp.rx.kind ≡ AmKind bits

-- nothing that is ready to go from an entity to the next is left
pub record IsIdle (b : State) : Type 0 where
  pub heard : b.rx.out.ready ≡ []
  pub raised : b.pdcp.rx.ready ≡ []
  pub confirmed : b.tx.accounts.news ≡ []

pub record AreDeeds (bits : ℕ) (b : State) (c : Call) : Type 0 where
  pub left : after (Am b) c ≡ Am (does_all (deeds_of b c) b)
  pub ups : go_up (deeds_of b c) b ≡ ups_among (tells b c)
  pub stays : IsOfData bits (does_all (deeds_of b c) b)
  pub idle : IsIdle (does_all (deeds_of b c) b)

abbrev pub CallsAreDeeds : Type 0
CallsAreDeeds = (bits : ℕ) (b : State) (c : Call) → IsOfData bits b → IsIdle b → AreDeeds bits b c

-- a bearer of signalling
pub record IsOfSignalling (b : State) : Type 0 where
  pub kind : b.pdcp.kind ≡ SrbKind
  pub sending : b.pdcp.tx.kind ≡ SrbKind
  pub receiving : b.pdcp.rx.kind ≡ SrbKind

pub record AreSignallingDeeds (b : State) (c : Call) : Type 0 where
  pub left : after (Am b) c ≡ Am (does_all (deeds_of b c) b)
  pub ups : go_up (deeds_of b c) b ≡ ups_among (tells b c)
  pub stays : IsOfSignalling (does_all (deeds_of b c) b)
  pub idle : IsIdle (does_all (deeds_of b c) b)

abbrev pub SignallingCallsAreDeeds : Type 0
SignallingCallsAreDeeds = (b : State) (c : Call) → IsOfSignalling b → IsIdle b
    → AreSignallingDeeds b c
