-- Which deeds of a bearer add to what it may still send: those that submit an SDU alone.
use Rattle.std.proofs.Common.{◌≡◌, ◌≤◌, ℕ, ◌+◌, ◌*◌, Bool, true, false}
use Rattle.std.proofs.Common.{List}
use Rattle.std.proofs.Common.{[], ◌∷◌, ◌++◌, length, map, Option, Result, Ok, Err, refl}
use Rattle.std.proofs.Common.{arith}
use Rattle.std.specs.Prelude.{nat_lt}
use Rattle.std.specs.List.{AllByRecursion}
use Rattle.bearer_types.specs.declared.Event.{Event}
use Rattle.l2_types.specs.declared.Clock.{Clock}
use Rattle.l2_types.specs.declared.Clock.TheVariants.{Poll, Reorder, Prohibit}
use Rattle.pdcp_rx.specs.declared.got.Cause.TheVariants.{Arrived}
use Rattle.pdcp_tx.specs.Pdus.{pdu}
use Rattle.pdcp_tx.specs.Runs.{Call as PdcpCall, Submit as Submits, Take as TakePdcp, Confirm as ConfirmPdcp}
use Rattle.pdcp_tx.specs.Runs.{Report as ReportPdcp, Owe, Tick as TickPdcp, Late}
use Rattle.pdcp_tx.specs.State.{State as Sending}
use Rattle.rlc_pdu.specs.declared.fault.RlcRefusal.{RlcRefusal}
use Rattle.rlc_pdu.specs.Pdus.{AcknowledgedPdu, StatusPdu, Payload, Status as Control}
use Rattle.rlc_pdu.specs.Reading.{am_at}
use Rattle.rlc_am_tx.specs.declared.answers.Heard.{Heard as RlcHeard}
use Rattle.rlc_am_tx.specs.declared.answers.Heard.TheVariants as heard_as
use Rattle.rlc_am_tx.specs.Machine.{State as Sender, after_status}
use Rattle.rlc_am_tx.specs.Machine.{heard as heard_status}
use Rattle.rlc_am_rx.specs.Machine.{arrived as landed_in}
use Rattle.law_rlc.specs.AmSender.Run.{Call as SenderCall, Offer, Take as Taking, Status, Tick as TickSender}
use Rattle.law_rlc.specs.AmSender.Run.{Expire as ExpireSender, Settle, Confirm as HandOver}
use Rattle.law_rlc.specs.AmReceiver.Run.{Call as ReceiverCall, Write}
use Rattle.bearer_pdcp.specs.Discarding.{after_tick as after_discards, tick_told}
use Rattle.bearer_pdcp.specs.Ends.{Ends}
use Rattle.bearer_pdcp.specs.Hearing.{applies}
use Rattle.bearer.specs.Acknowledged.State.{State}
use Rattle.bearer.specs.Acknowledged.Taking.{writes_status, data_size}
use Rattle.bearer.specs.Acknowledged.Hearing.{confirms}
use Rattle.bearer.specs.Acknowledged.Timing.{has_ended}
use Rattle.law_bearer.specs.AnyBearer.Acknowledged.{offers_in, has_more_behind}
use Rattle.law_bearer.specs.AnyBearer.Calls.{Call, Submit, Take, Arrive, Expire, Tick, SetDiscard}
use Rattle.law_bearer.specs.AmBearer.Calls.{only_if, deeds_of, hands_up, settles_by, confirms_all, arrives, ticks}
use Rattle.law_bearer.specs.AmBearer.Calls.{settles as settles_then, discards, expires}
use Rattle.law_bearer.specs.AmBearer.Deeds.{Deed, Feeds, Sends, Confirms, Receives, HandsUp, Asks, Sets, does}
use Rattle.law_bearer.specs.AmBearer.Deeds.{hears_one}
use Rattle.law_drain.specs.Bearer.{submitted_in, IsOfDrain}
use Rattle.law_drain.specs.Done.{IsOfRlc, IsOfLife}
use Rattle.law_drain.specs.Dues.{offered_by}
use Rattle.law_drain.specs.Unsent.{added_by}
use Rattle.law_drain.proofs.BearerDues.{brought_at, brought_along}

-- ---- which deeds add to it

abbrev pub IsAsked : PdcpCall → Type 0
IsAsked (Submits sdu) = ⊥
IsAsked TakePdcp = Unit {0}
IsAsked (ConfirmPdcp place) = Unit {0}
IsAsked (ReportPdcp fms bitmap) = Unit {0}
IsAsked (Owe report) = ⊥
IsAsked TickPdcp = Unit {0}
IsAsked Late = Unit {0}

abbrev pub IsBare : Deed → Type 0
IsBare Feeds = Unit {0}
IsBare (Sends c) = IsOfRlc c
IsBare Confirms = Unit {0}
IsBare (Receives c) = Unit {0}
IsBare HandsUp = Unit {0}
IsBare (Asks c) = IsAsked c
IsBare (Sets ttis) = Unit {0}

pub told-none : (s : Sender) (c : SenderCall) → IsOfRlc c → offered_by s c ≡ 0
told-none s (Offer sdu) h = absurd h
told-none s (Taking share held more) h = refl
told-none s (Status status) h = refl
told-none s TickSender h = refl
told-none s (ExpireSender more) h = refl
told-none s (Settle more) h = refl
told-none s HandOver h = absurd h

asked-none : (most : ℕ) (s : Sending) (c : PdcpCall) → IsAsked c → (most + 1) * added_by s c ≡ 0
asked-none most s (Submits sdu) h = absurd h
asked-none most s TakePdcp h = omega arith
asked-none most s (ConfirmPdcp place) h = omega arith
asked-none most s (ReportPdcp fms bitmap) h = omega arith
asked-none most s (Owe report) h = absurd h
asked-none most s TickPdcp h = omega arith
asked-none most s Late h = omega arith

bare-none : (b : State) (deed : Deed) → IsBare deed → brought_at b deed ≡ 0
bare-none b Feeds h = refl
bare-none b (Sends c) h = told-none b.tx c h
bare-none b Confirms h = refl
bare-none b (Receives c) h = refl
bare-none b HandsUp h = refl
bare-none b (Asks c) h = asked-none b.tx.config.max_retx b.pdcp.tx c h
bare-none b (Sets ttis) h = refl

abbrev pub AreBare : List Deed → Type 0
AreBare deeds = AllByRecursion IsBare deeds

all-none : (deeds : List Deed) (b : State) → AreBare deeds → brought_along deeds b ≡ 0
all-none [] b h = refl
all-none (deed ∷ deeds) b h = omega (arith, bare-none b deed h.0, all-none deeds (does b deed) h.1)

-- ---- lists of deeds

pub then-all : (P : Deed → Type 0) (xs ys : List Deed) → AllByRecursion P xs → AllByRecursion P ys
    → AllByRecursion P (xs ++ ys)
then-all P [] ys a b = b
then-all P (x ∷ xs) ys a b = (a.0, then-all P xs ys a.1 b)

pub each-all : {A : Type 0} (P : Deed → Type 0) (deed : Deed) (xs : List A) → P deed
    → AllByRecursion P (map (λ x. deed) xs)
each-all P deed [] h = tt
each-all P deed (x ∷ xs) h = (h, each-all P deed xs h)

pub if-all : (P : Deed → Type 0) (b : Bool) (deed : Deed) → P deed → AllByRecursion P (only_if b deed)
if-all P true deed h = (h, tt)
if-all P false deed h = tt

-- what holds of each deed that a call of a drain is, but of those of RLC's receiver
pub record IsOfCalls (P : Deed → Type 0) : Type 0 where
  pub sends : (c : SenderCall) → IsOfRlc c → P (Sends c)
  pub confirms : P Confirms
  pub hands : P HandsUp

pub handing-all : (P : Deed → Type 0) (sdus : List (List ℕ)) (e : Ends) → IsOfCalls P
    → AllByRecursion P (hands_up sdus e)
handing-all P [] e h = tt
handing-all P (sdu ∷ sdus) e h = (
  h.hands,
  then-all P (only_if (applies sdu Arrived e) (settles_then (hears_one sdu e))) (hands_up sdus (hears_one sdu e))
      (if-all P (applies sdu Arrived e) (settles_then (hears_one sdu e)) (h.sends _ tt))
      (handing-all P sdus (hears_one sdu e) h),
)

settling-all : (P : Deed → Type 0) (answer : RlcHeard) (e : Ends) → IsOfCalls P → AllByRecursion P (settles_by answer e)
settling-all P heard_as.Ignored e h = tt
settling-all P (heard_as.Limit sn) e h = tt
settling-all P (heard_as.Applied stopped) e h = (h.sends _ tt, tt)

-- a STATUS is heard
pub status-all : (P : Deed → Type 0) (status : StatusPdu) (b : State) → IsOfCalls P
    → AllByRecursion P (arrives (Ok (Control status)) b)
status-all P status b h = (
  h.sends (Status status) tt,
  then-all P (confirms_all (after_status b.tx status).accounts.news)
      (settles_by (heard_status b.tx status) (confirms (after_status b.tx status).accounts.news b.pdcp))
      (each-all P Confirms (after_status b.tx status).accounts.news h.confirms)
      (settling-all P (heard_status b.tx status) (confirms (after_status b.tx status).accounts.news b.pdcp) h),
)

-- the bearer writes
pub taking-all : (P : Deed → Type 0) (share : ℕ) (held : Option ℕ) (b : State) → IsOfCalls P → P Feeds
    → P (Receives Write) → AllByRecursion P (deeds_of b (Take share held))
taking-all P share held b h feeds write =
    then-all P (only_if (writes_status b.rx share) (Receives Write) ++ map (λ pdu. Feeds) (offers_in b share held))
    (Sends (Taking (data_size b share) held (has_more_behind b share held)) ∷ [])
    (then-all P (only_if (writes_status b.rx share) (Receives Write)) (map (λ pdu. Feeds) (offers_in b share held))
    (if-all P (writes_status b.rx share) (Receives Write) write) (each-all P Feeds (offers_in b share held) feeds))
    (h.sends (Taking (data_size b share) held (has_more_behind b share held)) tt, tt)

-- ---- the deeds of a drain, of which none asks PDCP for anything

abbrev pub IsCalm : Deed → Type 0
IsCalm Feeds = Unit {0}
IsCalm (Sends c) = IsOfRlc c
IsCalm Confirms = Unit {0}
IsCalm (Receives c) = Unit {0}
IsCalm HandsUp = Unit {0}
IsCalm (Asks c) = ⊥
IsCalm (Sets ttis) = ⊥

abbrev pub AreCalm : List Deed → Type 0
AreCalm deeds = AllByRecursion IsCalm deeds

calm-calls : IsOfCalls IsCalm
calm-calls = record { sends = λ c told. told; confirms = tt; hands = tt }

expiring-calm : (clock : Clock) (b : State) → IsCalm (expires clock b)
expiring-calm Poll b = tt
expiring-calm Reorder b = tt
expiring-calm Prohibit b = tt

arriving-calm : (r : Result AcknowledgedPdu RlcRefusal) (b : State) → AreCalm (arrives r b)
arriving-calm (Err refused) b = tt
arriving-calm (Ok (Payload data')) b = (tt, handing-all IsCalm (landed_in b.rx data').out.ready b.pdcp calm-calls)
arriving-calm (Ok (Control status)) b = status-all IsCalm status b calm-calls

pub call-calm : (b : State) (c : Call) → IsOfDrain c → AreCalm (deeds_of b c)
call-calm b (Submit sdu) h = absurd h
call-calm b (Take share held) h = taking-all IsCalm share held b calm-calls tt tt
call-calm b (Arrive pdu) h = arriving-calm (am_at pdu) b
call-calm b (Expire clock) h = (expiring-calm clock b, tt)
call-calm b Tick h = absurd h
call-calm b (SetDiscard ttis) h = absurd h

calm-bare : (deed : Deed) → IsCalm deed → IsBare deed
calm-bare Feeds h = tt
calm-bare (Sends c) h = h
calm-bare Confirms h = tt
calm-bare (Receives c) h = tt
calm-bare HandsUp h = tt
calm-bare (Asks c) h = absurd h
calm-bare (Sets ttis) h = absurd h

all-bare : (deeds : List Deed) → AreCalm deeds → AreBare deeds
all-bare [] h = tt
all-bare (deed ∷ deeds) h = (calm-bare deed h.0, all-bare deeds h.1)

pub calm-none : (deeds : List Deed) (b : State) → AreCalm deeds → brought_along deeds b ≡ 0
calm-none deeds b h = all-none deeds b (all-bare deeds h)

drain-none : (b : State) (c : Call) → IsOfDrain c → brought_along (deeds_of b c) b ≡ 0
drain-none b c h = calm-none (deeds_of b c) b (call-calm b c h)

-- ---- a TTI that begins

pub record IsOfTicks (P : Deed → Type 0) : Type 0 where
  pub sends : (c : SenderCall) → IsOfRlc c → P (Sends c)
  pub receives : (c : ReceiverCall) → P (Receives c)
  pub ticks : P (Asks TickPdcp)
  pub lates : P (Asks Late)

ticking-all : (P : Deed → Type 0) (clock : Clock) (b : State) → IsOfTicks P → AllByRecursion P (ticks clock b)
ticking-all P Poll b h = (h.sends _ tt, if-all P (has_ended Poll b) (expires Poll b) (h.sends _ tt))
ticking-all P Reorder b h = (h.receives _, if-all P (has_ended Reorder b) (expires Reorder b) (h.receives _))
ticking-all P Prohibit b h = (h.receives _, if-all P (has_ended Prohibit b) (expires Prohibit b) (h.receives _))

discarding-all : (P : Deed → Type 0) (told : List Event) (e : Ends) → IsOfTicks P → AllByRecursion P (discards told e)
discarding-all P told e h = (
  h.ticks,
  then-all P (map (λ event. Asks Late) told) (only_if (nat_lt 0 (length told)) (settles_then (after_discards e)))
      (each-all P (Asks Late) told h.lates)
      (if-all P (nat_lt 0 (length told)) (settles_then (after_discards e)) (h.sends _ tt)),
)

pub tick-all : (P : Deed → Type 0) (b : State) → IsOfTicks P → AllByRecursion P (deeds_of b Tick)
tick-all P b h =
    then-all P ((ticks Poll b ++ ticks Reorder b) ++ ticks Prohibit b) (discards (tick_told b.pdcp) b.pdcp)
    (then-all P (ticks Poll b ++ ticks Reorder b) (ticks Prohibit b)
    (then-all P (ticks Poll b) (ticks Reorder b) (ticking-all P Poll b h) (ticking-all P Reorder b h))
    (ticking-all P Prohibit b h))
    (discarding-all P (tick_told b.pdcp) b.pdcp h)

bare-ticks : IsOfTicks IsBare
bare-ticks = record { sends = λ c told. told; receives = λ c. tt; ticks = tt; lates = tt }

pub brought-in : (b : State) (c : Call) → brought_along (deeds_of b c) b ≤ submitted_in b c
brought-in b (Submit sdu) = omega arith
brought-in b (Take share held) = omega (arith, drain-none b (Take share held) tt)
brought-in b (Arrive pdu) = omega (arith, drain-none b (Arrive pdu) tt)
brought-in b (Expire clock) = omega (arith, drain-none b (Expire clock) tt)
brought-in b Tick = omega (arith, all-none (deeds_of b Tick) b (tick-all IsBare b bare-ticks))
brought-in b (SetDiscard ttis) = omega arith

-- ---- all are those of a life

life-calls : IsOfCalls IsOfLife
life-calls = record { sends = λ c told. told; confirms = tt; hands = tt }

life-ticks : IsOfTicks IsOfLife
life-ticks = record { sends = λ c told. told; receives = λ c. tt; ticks = tt; lates = tt }

arriving-life : (r : Result AcknowledgedPdu RlcRefusal) (b : State) → AllByRecursion IsOfLife (arrives r b)
arriving-life (Err refused) b = tt
arriving-life (Ok (Payload data')) b = (tt, handing-all IsOfLife (landed_in b.rx data').out.ready b.pdcp life-calls)
arriving-life (Ok (Control status)) b = status-all IsOfLife status b life-calls

expiring-life : (clock : Clock) (b : State) → IsOfLife (expires clock b)
expiring-life Poll b = tt
expiring-life Reorder b = tt
expiring-life Prohibit b = tt

pub call-life : (b : State) (c : Call) → AllByRecursion IsOfLife (deeds_of b c)
call-life b (Submit sdu) = (tt, tt)
call-life b (Take share held) = taking-all IsOfLife share held b life-calls tt tt
call-life b (Arrive pdu) = arriving-life (am_at pdu) b
call-life b (Expire clock) = (expiring-life clock b, tt)
call-life b Tick = tick-all IsOfLife b life-ticks
call-life b (SetDiscard ttis) = (tt, tt)
