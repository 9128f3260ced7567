-- A step of a life in which a block comes: what is gathered of what PDCP gives RLC goes on beside both ends.
use Rattle.std.proofs.Common.{◌≡◌, ◌≤◌, ℕ, if◌then◌else◌, Bool, true, false, List, [], ◌∷◌, ◌++◌, Option, Some, None}
use Rattle.std.proofs.Common.{reverse, slice_get, slice_index_or, unwrap_or, append-nil, append_assoc, refl, ap, sym}
use Rattle.std.proofs.Common.{subst, ◌∙◌}
use Rattle.std.specs.List.{AllByRecursion}
use Rattle.std.specs.Prelude.{option_to_list, Result, Ok, Err}
use Rattle.air_record.specs.declared.record.Arrived.TheVariants.{Got}
use Rattle.air_record.specs.declared.record.Record.{Record}
use Rattle.air_record.specs.declared.record.Record.TheVariants as records
use Rattle.air_record.specs.Submissions.{submitted_by}
use Rattle.air_text.specs.Groups.{Group}
use Rattle.bearer.specs.Acknowledged.Hearing.{after_arrival}
use Rattle.bearer.specs.Acknowledged.State.{State}
use Rattle.bearer.specs.declared.flow.Flow.{Flow}
use Rattle.bearer.specs.declared.flow.Flow.TheVariants.{Am}
use Rattle.bearer_types.specs.Sides.{other, sent_by, heard_by}
use Rattle.bearer_types.specs.declared.config.BearerConfig.{BearerConfig}
use Rattle.bearer_types.specs.declared.event.Event.{Event}
use Rattle.bearer_types.specs.declared.event.Event.TheVariants as events
use Rattle.eps_sec.specs.declared.Keys.{Keys}
use Rattle.l2_node.specs.End.{End}
use Rattle.l2_types.specs.declared.event.Clock.TheVariants.{Poll}
use Rattle.l2_types.specs.declared.side.Side.{Side}
use Rattle.l2_types.specs.declared.side.Side.TheVariants.{Nb, Ue}
use Rattle.mac_pdu.specs.declared.item.Direction.{Direction as AirDirection}
use Rattle.mac_pdu.specs.declared.item.Direction.TheVariants as directions
use Rattle.pdu_show.specs.declared.kinds.Layout.{Layout}
use Rattle.promises.specs.Arrival.{account_of, entries_in}
use Rattle.promises.specs.Blocks.{kinds}
use Rattle.promises.specs.Events.{is_of_loop, is_on, told_on}
use Rattle.promises.specs.Flows.{looped_at, loops_in}
use Rattle.promises.specs.Pdus.{carried}
use Rattle.promises.specs.Records.{is_got, events_of}
use Rattle.rlc_am_rx.specs.State.{State as Receiver}
use Rattle.rlc_pdu.specs.declared.fault.RlcRefusal.{RlcRefusal}
use Rattle.rlc_pdu.specs.Pdus.{AcknowledgedPdu, Payload, Status}
use Rattle.rlc_pdu.specs.Reading.{am_at}
use Rattle.journal_flows.specs.declared.parcels.Parcel.{Parcel}
use Rattle.journal_flows.specs.FlowsTold.{Histories, histories}
use Rattle.journal_flows.specs.Gathering.{Gatherer, Journal, Sending, sending_of, behind_record, behind_records}
use Rattle.journal_flows.specs.Gathering.{MayTake}
use Rattle.journal_flows.specs.Gathering.{sent_last as sent_parcels}
use Rattle.journal_given.specs.Giving.{may_take_by}
use Rattle.journal_given.specs.Supplies.{Bearer, History, histories as supplies}
use Rattle.journal_lives.specs.LifeEvents.{running}
use Rattle.law_bearer.specs.AnyBearer.Calls.{Call as BearerCall, after_all}
use Rattle.law_bearer.specs.AnyBearer.Rounds.{arrivals}
use Rattle.law_bearer.proofs.AnyBearer.SenderCalls.{all_then}
use Rattle.law_deliver.specs.AmChannel.Arrival.{told_from}
use Rattle.law_deliver.specs.AmChannel.Delivery.{AmEndsBeginAlike, was_submitted}
use Rattle.law_deliver.specs.AmChannel.Lives.{AirStep, InLife, AreLiving, lives, end_at, calls_at, brought}
use Rattle.law_deliver.specs.AmFlow.Air.{Block, Air, Comes, Step, outset, IsGiven}
use Rattle.law_deliver.specs.AmFlow.Channels.{calls_of}
use Rattle.law_deliver.specs.AmFlow.Ups.{calls_over, tells_over}
use Rattle.law_deliver.proofs.AmFlow.Stations.{come_side}
use Rattle.law_deliver.proofs.AmFlow.Ups.{Stands, tells_of}
use Rattle.law_given.specs.BearerRecords.{bearer_first}
use Rattle.law_given.specs.Beside.{GoesOnAs}
use Rattle.law_given.specs.Joined.{Direction}
use Rattle.law_given.specs.Landing.{Block as Brings, pdus_of, BringsNoData, BringsNoStatus, news_in, news_of, ready_in}
use Rattle.law_given.specs.Landing.{ready_of}
use Rattle.law_given.proofs.GivenRecords.{journal_at}
use Rattle.law_given.proofs.Landing.{arrives-so, one-confirms}
use Rattle.law_given.proofs.Tied.{AreTied, TiesGoOn, calls_of_step, offered_over, ready_over, news_over}
use Rattle.law_node.specs.Calls.{Receive}
use Rattle.law_node.specs.Holding.{flow}
use Rattle.law_node.specs.Telling.{told_of}
use Rattle.law_run.specs.TwoEnds.Along.{at_side}
use Rattle.law_run.specs.TwoEnds.Logs.{LogEntry, Tells, Builds, Hears, Flight, process_of, flight_in}
use Rattle.law_run.specs.TwoEnds.Logs.{logged_at, logged, all_tell, log_come, log_at}
use Rattle.law_run.proofs.TwoEnds.Along.{flight_more}
use Rattle.law_words.specs.Arrivals.{account}
use Rattle.law_sound.specs.AgreeLaws.{AgreeOn}
use Rattle.law_sound.specs.BesideLaws.{IsGatheredBeside, station_of}
use Rattle.law_sound.specs.HeldLaws.{held_parcels}
use Rattle.law_sound.specs.LivedFails.{HaveComeNew}
use Rattle.law_sound.specs.LivedHistories.{AreLived, Moment}
use Rattle.law_sound.specs.NamedSteps.{SendsNoNewBlock}
use Rattle.law_sound.specs.StepReading.{IsFlightOf}
use Rattle.law_sound.proofs.Agreeing.{Agrees}
use Rattle.law_sound.proofs.CarriedShapes.{BlockBrings, blocks_bring}
use Rattle.law_sound.proofs.Gathering.{back}
use Rattle.law_sound.proofs.GivenActs.{IsGatheredOn}
use Rattle.law_sound.proofs.GivenAnswers.{journal_more}
use Rattle.law_sound.proofs.GivenBeside.{AreGivenOf}
use Rattle.law_sound.proofs.GivenBlocks.{HasBlock, up_to, up_to_is, BlockComes, BlockGoes, block_goes, stands_so}
use Rattle.law_sound.proofs.GivenBlocks.{flow_is}
use Rattle.law_sound.proofs.GivenCalls.{GoesBy, submits_all, arrivals_none}
use Rattle.law_sound.proofs.GivenMoments.{way, bearer, history}
use Rattle.law_sound.proofs.GivenSteps.{goes_are, loops_are}
use Rattle.law_sound.proofs.GivenWays.{ways_go, same_state}
use Rattle.law_sound.proofs.LaterRecords.{TellsOfNoTaking, LeavesTaking, arrivals_over, later_records_leave}
use Rattle.law_sound.proofs.LivedFails.{AreThere}
use Rattle.law_sound.proofs.LoggedEvents.{as_logged, events_in, records_events, far_told, none_sent}
use Rattle.law_sound.proofs.SentProcesses.{event_keeps, landing_keeps, processes_are}

-- ---- what PDUs bring that arrive

none_offered : (pdus : List (List ℕ)) (b : State) → offered_over (Am b) (arrivals pdus) ≡ []
none_offered [] b = refl
none_offered (pdu ∷ pdus) b =
    ap (λ (f : Flow). offered_over f (arrivals pdus)) (arrives-so b pdu) ∙ none_offered pdus (after_arrival b pdu)

no_news : (r : Result AcknowledgedPdu RlcRefusal) (b : State) → BringsNoStatus r → news_in r b ≡ []
no_news (Err refusal) b none = refl
no_news (Ok (Payload data')) b none = refl
no_news (Ok (Status status)) b none = absurd none

no_ready : (r : Result AcknowledgedPdu RlcRefusal) (x : Receiver) → BringsNoData r → ready_in r x ≡ []
no_ready (Err refusal) x none = refl
no_ready (Ok (Payload data')) x none = absurd none
no_ready (Ok (Status status)) x none = refl

all_news : (pdus : List (List ℕ)) (last : Option (List ℕ)) (b : State)
    → AllByRecursion (λ (pdu : List ℕ). BringsNoStatus (am_at pdu)) (option_to_list last)
    → news_over (Am b) (arrivals (pdus ++ option_to_list last)) ≡ news_of pdus b
all_news [] None b none = refl
all_news [] (Some pdu) b none = append-nil (news_in (am_at pdu) b) ∙ no_news (am_at pdu) b none.0
all_news (pdu ∷ pdus) last b none =
    ap (λ (f : Flow). news_in (am_at pdu) b ++ news_over f (arrivals (pdus ++ option_to_list last))) (arrives-so b pdu)
    ∙ ap (λ (ns : List ℕ). news_in (am_at pdu) b ++ ns) (all_news pdus last (after_arrival b pdu) none)

all_ready : (pdus : List (List ℕ)) (last : Option (List ℕ)) (b : State)
    → AllByRecursion (λ (pdu : List ℕ). BringsNoData (am_at pdu)) pdus
    → ready_over (Am b) (arrivals (pdus ++ option_to_list last)) ≡ ready_of last b.rx
all_ready [] None b none = refl
all_ready [] (Some pdu) b none = append-nil (ready_in (am_at pdu) b.rx)
all_ready (pdu ∷ pdus) last b none =
    let more = arrivals (pdus ++ option_to_list last) in
    ap (λ (f : Flow). ready_in (am_at pdu) b.rx ++ ready_over f more) (arrives-so b pdu)
    ∙ ap (λ (xs : List (List ℕ)). xs ++ ready_over (Am (after_arrival b pdu)) more) (no_ready (am_at pdu) b.rx none.0)
    ∙ all_ready pdus last (after_arrival b pdu) none.1
    ∙ ap (ready_of last) (one-confirms b pdu none.0).receiver

-- ---- the step: the bearer of the side that hears the block is called by what it carries, and the other one isn't

module _ (l : ℕ) (a : Air) (k : ℕ) where
  abbrev coming : Side → AirStep
  coming from = InLife (at_side (other from) (Comes k))

  quiet_calls : (from : Side) → calls_of_step l from a (coming from) ≡ []
  quiet_calls Nb = refl
  quiet_calls Ue = refl

  hears_calls : (from : Side) (block : Block) → (end_at (other from) a).side ≡ other from
      → slice_get (station_of from a).blocks k ≡ Some block
      → calls_of_step l (other from) a (coming from) ≡ arrivals (carried l (sent_by from) block.octets)
  hears_calls Nb block side at =
      ap (λ (b : Option Block). calls_over l (brought b) a.ue.end) at
      ∙ append-nil (arrivals (carried l (heard_by a.ue.end.side) block.octets))
      ∙ ap (λ (own : Side). arrivals (carried l (heard_by own) block.octets)) side
  hears_calls Ue block side at =
      ap (λ (b : Option Block). calls_over l (brought b) a.nb.end) at
      ∙ append-nil (arrivals (carried l (heard_by a.nb.end.side) block.octets))
      ∙ ap (λ (own : Side). arrivals (carried l (heard_by own) block.octets)) side

  log_is : (from : Side) (block : Block) → slice_get (station_of from a).blocks k ≡ Some block
      → log_at a (coming from) ≡ Hears (other from) block.process block.octets
      ∷ all_tell (other from) (told_of (end_at (other from) a) (Receive block.octets))
  log_is Nb block at = ap (log_come Ue a.ue.end) at
  log_is Ue block at = ap (log_come Nb a.nb.end) at

-- ---- what is told as a block comes tells nothing of what is taken

off_channel : (l : ℕ) (e : Event) → is_on l e ≡ false → TellsOfNoTaking l e
off_channel l (events.Take lcid count len) off =
    λ on. let no : true ≡ false = sym on ∙ off in absurd cc
off_channel l (events.Report lcid fms bitmap) off =
    λ on. let no : true ≡ false = sym on ∙ off in absurd cc
off_channel l (events.Expired lcid Poll) off =
    λ on. let no : true ≡ false = sym on ∙ off in absurd cc
off_channel l e off = tt

on_channel : (l : ℕ) (es : List Event) → AllByRecursion (TellsOfNoTaking l) (told_on l es)
    → AllByRecursion (TellsOfNoTaking l) es
on_channel l [] h = tt
on_channel l (e ∷ es) h = by (is_on l e) refl h (on_channel l es)
  where
    by : (b : Bool) → is_on l e ≡ b
        → AllByRecursion (TellsOfNoTaking l) (if b then e ∷ told_on l es else told_on l es)
        → (AllByRecursion (TellsOfNoTaking l) (told_on l es) → AllByRecursion (TellsOfNoTaking l) es)
        → AllByRecursion (TellsOfNoTaking l) (e ∷ es)
    by true on h more = (h.0, more h.1)
    by false off h more = (off_channel l e off, more h)

block_tells : (side : Side) (l : ℕ) (e : End) (b : State) (block : List ℕ) → Stands side l e → flow l e ≡ Am b
    → AllByRecursion (TellsOfNoTaking l) (told_of e (Receive block))
block_tells side l e b block stands is =
    let told_is = (tells_of side l e (Receive block) stands (record { adds_none = refl; moves_none = refl })).told_is in
    on_channel l (told_of e (Receive block))
    (subst (AllByRecursion (TellsOfNoTaking l))
    (sym (told_is ∙ ap (λ (f : Flow). tells_over l f (calls_of l e (Receive block))) is))
    (arrivals_over l b (carried l (heard_by e.side) block)))

-- so do the records of it
abbrev LeavesIt : ℕ → LogEntry → Type 0
LeavesIt l (Tells own event) = TellsOfNoTaking l event
LeavesIt l (Builds own process octets) = ⊥
LeavesIt l (Hears own process octets) = ⊥

all_leave : (l : ℕ) (side : Side) (es : List Event) → AllByRecursion (TellsOfNoTaking l) es
    → AllByRecursion (LeavesIt l) (all_tell side es)
all_leave l side [] h = tt
all_leave l side (e ∷ es) h = (h.0, all_leave l side es h.1)

loop_leaves : (l : ℕ) (e : Event) → is_of_loop e ≡ true → TellsOfNoTaking l e
loop_leaves l (events.Take lcid count len) loop = let no : false ≡ true = loop in absurd cc
loop_leaves l (events.Report lcid fms bitmap) loop = let no : false ≡ true = loop in absurd cc
loop_leaves l (events.Expired lcid Poll) loop = let no : false ≡ true = loop in absurd cc
loop_leaves l e loop = tt

records_leave : (l : ℕ) (sent : Flight) (xs : List Record) → AllByRecursion (LeavesIt l) (logged sent xs)
    → AllByRecursion (LeavesTaking l) xs
records_leave l = as_logged (LeavesIt l) (LeavesTaking l) (λ sent one h. by sent one h)
  where
    event : (own : Side) (e : Event) (loop : Bool) → is_of_loop e ≡ loop
        → AllByRecursion (LeavesIt l) (if loop then [] else Tells own e ∷ []) → TellsOfNoTaking l e
    event own e true loop h = loop_leaves l e loop
    event own e false loop h = h.0

    by : (sent : Flight) (one : Record) → AllByRecursion (LeavesIt l) (logged_at sent one) → LeavesTaking l one
    by sent (records.Of own e) h = event own e (is_of_loop e) refl h
    by sent (records.Block direction process true version octets) h = absurd h.0
    by sent (records.Air direction Got heard) h = absurd h.0
    by sent one h = tt

-- ---- what processes hold stays where no new block is built

module _ {F : Type 0} (g : Gatherer F) where
  record_holds : (layouts : List (Option Layout)) (more : Bool) (one : Record) (side : Side) (j : Journal F)
      → SendsNoNewBlock one
      → (sending_of side (behind_record g layouts more one j)).held ≡ (sending_of side j).held
  record_holds layouts more (records.Of by event) side j none =
      event_keeps g (λ (x : Sending). x.held) (λ named x. refl) layouts more by side event j
  record_holds layouts more (records.Block direction process true version octets) side j none = absurd none
  record_holds layouts more (records.Block directions.Down process false version octets) Nb j none = refl
  record_holds layouts more (records.Block directions.Down process false version octets) Ue j none = refl
  record_holds layouts more (records.Block directions.Up process false version octets) Nb j none = refl
  record_holds layouts more (records.Block directions.Up process false version octets) Ue j none = refl
  record_holds layouts more (records.Air direction what heard) side j none =
      ap (λ (x : Sending). x.held) (landing_keeps g (is_got what) direction side j)
  record_holds layouts more one side j none = refl

  records_hold : (may_take : MayTake) (past : List Group) (layouts : List (Option Layout))
      (before told : List Record) (side : Side) (j : Journal F) → AllByRecursion SendsNoNewBlock told
      → (sending_of side (behind_records g may_take past layouts before told j)).held ≡ (sending_of side j).held
  records_hold may_take past layouts before [] side j none = refl
  records_hold may_take past layouts before (one ∷ told) side j none =
      records_hold may_take past layouts (one ∷ before) told side
      (behind_record g layouts (may_take past before one) one j) none.1
      ∙ record_holds layouts (may_take past before one) one side j none.0

-- what is held for the block that was sent last
last_as : (x y : Sending) (process : ℕ) → x.held ≡ y.held → x.process ≡ process
    → sent_parcels x ≡ held_parcels y process
last_as x y process held is =
    ap (λ (all : List (Option (List Parcel))). unwrap_or (slice_index_or all x.process None) []) held
    ∙ ap (λ (n : ℕ). unwrap_or (slice_index_or y.held n None) []) is

air_process : (side : Side) (heard : Option Bool) (direction : AirDirection) (sent : Flight)
    → process_of side (flight_in (records.Air direction Got heard ∷ []) sent) ≡ process_of side sent
air_process Nb heard direction sent = refl
air_process Ue heard direction sent = refl

flies_as : (side : Side) (j : Journal Histories) (sent : Flight) → IsFlightOf j sent
    → (sending_of side j).process ≡ process_of side sent
flies_as Nb j sent h = h.nb_is
flies_as Ue j sent h = h.ue_is

same_sending : (l : ℕ) (side : Side) (i j : Journal Histories) → AgreeOn l i j → sending_of side i ≡ sending_of side j
same_sending l Nb i j h = h.alike.nb
same_sending l Ue i j h = h.alike.ue

history_as : (l : ℕ) (side : Side) (j : Journal Histories) (m : Moment) → running (j.flows.acked Nb l) ≡ m.down
    → running (j.flows.acked Ue l) ≡ m.up → running (j.flows.acked side l) ≡ history side m
history_as l Nb j m down up = down
history_as l Ue j m down up = up

-- ---- the whole

module _ (l : ℕ) (low : l ≤ 10) (newer : List Group) (now : Group) (past : List Group)
    (none : submitted_by now.line ≡ None) (c : BearerConfig) (keys : Keys) (nb ue : End)
    (begins : AmEndsBeginAlike l c keys nb ue) (steps : List AirStep) (s : Step) (t : AreTied l c nb ue steps)
    (n : TiesGoOn l c nb ue steps (InLife s) t) (living : AreLiving l (outset nb ue) (steps ++ InLife s ∷ []))
    (given : IsGiven l (lives steps (outset nb ue)) s)
    (new : HaveComeNew l (lives steps (outset nb ue))) (there : AreThere l (lives steps (outset nb ue)))
    (sent : Flight) (told xs : List Record) (logs : logged sent xs ≡ log_at (lives steps (outset nb ue)) (InLife s))
    (looped : (side : Side) (k : ℕ) → looped_at side k xs
    ≡ was_submitted k (calls_at side (lives steps (outset nb ue)) (InLife s))
    (end_at side (lives steps (outset nb ue)))) where
  abbrev air : Air
  air = lives steps (outset nb ue)

  abbrev on : List AirStep
  on = steps ++ InLife s ∷ []

  abbrev was : Side → State
  was side = bearer l c nb ue steps t side

  abbrev now_is : Side → State
  now_is side = bearer l c nb ue on n.next side

  abbrev before : Side → Direction
  before side = way l c nb ue steps t side

  abbrev after : Side → Direction
  after side = way l c nb ue on n.next side

  abbrev calls : Side → List BearerCall
  calls side = calls_of_step l side air (InLife s)

  abbrev may_take : MayTake
  may_take = may_take_by supplies (newer ++ now ∷ past)

  abbrev at_told : List Record → Journal Histories
  at_told all = journal_at l low newer now past none all

  module _ (from : Side) (k : ℕ) (block : Block) (is : s ≡ at_side (other from) (Comes k))
      (at : slice_get (station_of from (lives steps (outset nb ue))).blocks k ≡ Some block) where
    abbrev side : Side
    side = other from

    abbrev says : List Event
    says = told_of (end_at side air) (Receive block.octets)

    abbrev Has : Type 0
    Has = HasBlock from block.process block.octets says sent xs

    abbrev first_of_it : Has → List Record
    first_of_it h = up_to from block.process block.octets says sent xs h

    block_logs : logged sent xs ≡ Hears side block.process block.octets ∷ all_tell side says
    block_logs = logs ∙ ap (λ (z : Step). log_at air (InLife z)) is ∙ log_is l air k from block at

    none_called : calls from ≡ []
    none_called = ap (λ (z : Step). calls_of_step l from air (InLife z)) is ∙ quiet_calls l air k from

    far_none_called : calls (other side) ≡ []
    far_none_called = subst (λ (z : Side). calls z ≡ []) (sym (back from)) none_called

    arrive_all : calls side ≡ arrivals (carried l (sent_by from) block.octets)
    arrive_all =
        ap (λ (z : Step). calls_of_step l side air (InLife z)) is
        ∙ hears_calls l air k from block
        (come_side side (end_at side air) (stands_so l c nb ue steps t side).come) at

    unlooped : loops_in l xs ≡ []
    unlooped =
        loops_are l low newer now past none c keys nb ue begins steps s t n living given new there sent told xs logs
        looped Ue
        ∙ by from none_called arrive_all
      where
        by : (z : Side) → calls z ≡ [] → calls (other z) ≡ arrivals (carried l (sent_by from) block.octets)
            → submits_all (calls Ue) ≡ []
        by Nb p q = ap submits_all q ∙ arrivals_none (carried l (sent_by from) block.octets)
        by Ue p q = ap submits_all p

    module _ (m m' : Moment) (j j' : Journal Histories)
        (lived : AreLived l (lives steps (outset nb ue)) m.pdus m.down m.up)
        (beside : IsGatheredBeside l (lives steps (outset nb ue)) m.pdus m.down m.up j) (flight : IsFlightOf j sent)
        (lived' : AreLived l (lives (steps ++ InLife s ∷ []) (outset nb ue)) m'.pdus m'.down m'.up)
        (down : running (j'.flows.acked Nb l) ≡ m'.down) (up : running (j'.flows.acked Ue l) ≡ m'.up)
        (agree : AgreeOn l (journal_at l low newer now past none told) j)
        (agree' : AgreeOn l (journal_at l low newer now past none (told ++ xs)) j')
        (agrees : (first more : List Record) → xs ≡ first ++ more → (side : Side)
        → Agrees (account (entries_in c.pdcp_bits l side [] (told ++ first)) (account_of c l side past))
        ((journal_at l low newer now past none (told ++ first)).flows.acked side l))
        (account_is : (side : Side) → told_from c l side (steps ++ InLife s ∷ []) (outset nb ue)
        ≡ account (entries_in c.pdcp_bits l side [] (told ++ xs)) (account_of c l side past))
        (b : Bearer History) (is_there : bearer_first l now past told ≡ Some b)
        (g : AreGivenOf c t.joined.there t.joined.back t.joined.one t.joined.two m.down m.up b) where
      abbrev parcels : List Parcel
      parcels = held_parcels (sending_of from j) block.process

      abbrev bring : BlockBrings l from block.octets parcels
      bring = blocks_bring l from air k block m j lived beside at

      abbrev brings : Brings
      brings = bring.brings

      arrive : calls side ≡ arrivals (pdus_of brings)
      arrive = arrive_all ∙ ap (λ (pdus : List (List ℕ)). arrivals pdus) bring.carries

      goes_there : GoesOnAs (before from) (after from) [] (ready_of brings.last (was side).rx) []
      goes_there =
          subst (λ (ups : List (List ℕ)). GoesOnAs (before from) (after from) [] ups [])
          (all_ready brings.statuses brings.last (was side) bring.statuses)
          (subst (λ (ds : List BearerCall). GoesBy (before from) (after from) (was from) [] (was side) ds) arrive
          (subst (λ (cs : List BearerCall). GoesBy (before from) (after from) (was from) cs (was side) (calls side))
          none_called
          (ways_go l c nb ue steps s t n from)))

      goes_back : GoesOnAs (before side) (after side) [] [] (news_of brings.statuses (was side))
      goes_back =
          subst (λ (offers : List (List ℕ)). GoesOnAs (before side) (after side) offers []
          (news_of brings.statuses (was side))) (none_offered (pdus_of brings) (was side))
          (subst (λ (ns : List ℕ). GoesOnAs (before side) (after side)
          (offered_over (Am (was side)) (arrivals (pdus_of brings))) [] ns)
          (all_news brings.statuses brings.last (was side) bring.last)
          (subst (λ (cs : List BearerCall). GoesBy (before side) (after side) (was side) cs (was (other side)) [])
          arrive
          (subst (λ (ds : List BearerCall). GoesBy (before side) (after side) (was side) (calls side) (was (other side))
          ds) far_none_called
          (ways_go l c nb ue steps s t n side))))

      goes : (own : Side) → after_all (Am (was own)) (calls own) ≡ Am (now_is own)
      goes own =
          goes_are l low newer now past none c keys nb ue begins steps s t n living given new there sent told xs logs
          looped own

      -- what the side that sent the block sent last
      sends_it : (h : Has) → sent_parcels (sending_of from (at_told (told ++ first_of_it h))) ≡ parcels
      sends_it h =
          let first = first_of_it h in
          let one = records.Air (heard_by side) Got h.heard in
          let layouts = kinds (now ∷ past) in
          let seen = reverse told in
          let last = behind_records histories may_take past layouts seen first (at_told told) in
          let same = same_sending l from (at_told told) j agree in
          let held : (sending_of from last).held ≡ (sending_of from j).held =
          records_hold histories may_take past layouts seen first from (at_told told)
          (all_then SendsNoNewBlock h.silent (one ∷ []) (none_sent sent h.silent h.silent_logs) (tt, tt))
          ∙ ap (λ (x : Sending). x.held) same in
          let process : (sending_of from last).process ≡ block.process =
          processes_are histories may_take past layouts seen first from (at_told told) sent
          (ap (λ (x : Sending). x.process) same ∙ flies_as from j sent flight)
          ∙ ap (process_of from) (sym (flight_more h.silent (one ∷ []) sent))
          ∙ air_process from h.heard (heard_by side) (flight_in h.silent sent)
          ∙ subst (λ (z : Side). process_of z (flight_in h.silent sent) ≡ block.process) (back from) h.process_is in
          ap (λ (i : Journal Histories). sent_parcels (sending_of from i))
          (journal_more l low newer now past none told first)
          ∙ last_as (sending_of from last) (sending_of from j) block.process held process

      -- behind all records
      ends : (own : Side) → running ((at_told (told ++ xs)).flows.acked own l) ≡ history own m'
      ends own = ap running (agree'.same own) ∙ history_as l own j' m' down up

      -- those behind that of the block leave the flow that the side which hears it sends
      later : (h : Has) → running ((at_told (told ++ first_of_it h)).flows.acked side l) ≡ history side m'
      later h =
          let first = first_of_it h in
          let layouts = kinds (now ∷ past) in
          let seen = reverse (told ++ first) in
          let f = flight_in h.silent sent in
          let leaves : AllByRecursion (LeavesTaking l) h.behind =
          records_leave l f h.behind (subst (AllByRecursion (LeavesIt l)) (sym h.behind_logs)
          (all_leave l side says (block_tells side l (end_at side air) (was side) block.octets
          (stands_so l c nb ue steps t side) (flow_is l c nb ue steps t side)))) in
          let far : told_on l (events_of (other side) h.behind) ≡ [] =
          ap (told_on l) (records_events (other side) f h.behind ∙ ap (events_in (other side)) h.behind_logs
          ∙ far_told side says) in
          let parts : told ++ xs ≡ (told ++ first) ++ h.behind =
          ap (λ (all : List Record). told ++ all) (up_to_is from block.process block.octets says sent xs h)
          ∙ sym (append_assoc told first h.behind) in
          ap running
          (sym (ap (λ (i : Journal Histories). i.flows.acked side l)
          (ap (λ (all : List Record). at_told all) parts
          ∙ journal_more l low newer now past none (told ++ first) h.behind)
          ∙ later_records_leave layouts may_take past seen l side h.behind (at_told (told ++ first)) leaves far))
          ∙ ends side

      comes : BlockComes l c nb ue low newer now past none steps (InLife s) t n.next m m' from block.process
          block.octets sent told xs b parcels bring
      comes = record {
        lived = lived;
        lived_on = lived';
        is = is_there;
        given = g;
        logs = block_logs;
        loops = unlooped;
        agrees = agrees;
        account_is = account_is;
        parcels_are = sends_it;
        later = later;
        ends = ends from;
        there = goes_there;
        back = goes_back;
        left = ap (after_all (Am (was side))) (sym arrive) ∙ goes side;
        stays = same_state (was from) (now_is from) (ap (after_all (Am (was from))) (sym none_called) ∙ goes from);
      }

      comes_on : IsGatheredOn l low newer now past none c nb ue told xs (steps ++ InLife s ∷ []) n.next m'
      comes_on =
          let r : BlockGoes l c nb ue low newer now past none steps (InLife s) t n.next m m' from block.process
          block.octets sent told xs b =
          block_goes l c nb ue low newer now past none steps (InLife s) t n.next m m' from block.process block.octets
          sent told xs b parcels bring comes in
          record { gathered_on = r.gathered; is = r.is; given = r.given; right = r.right }

  pub block_read : (from : Side) (k : ℕ) (block : Block) → s ≡ at_side (other from) (Comes k)
      → slice_get (station_of from (lives steps (outset nb ue))).blocks k ≡ Some block
      → (m m' : Moment) (j j' : Journal Histories)
      → AreLived l (lives steps (outset nb ue)) m.pdus m.down m.up
      → IsGatheredBeside l (lives steps (outset nb ue)) m.pdus m.down m.up j → IsFlightOf j sent
      → AreLived l (lives (steps ++ InLife s ∷ []) (outset nb ue)) m'.pdus m'.down m'.up
      → running (j'.flows.acked Nb l) ≡ m'.down → running (j'.flows.acked Ue l) ≡ m'.up
      → AgreeOn l (journal_at l low newer now past none told) j
      → AgreeOn l (journal_at l low newer now past none (told ++ xs)) j'
      → ((first more : List Record) → xs ≡ first ++ more → (side : Side)
      → Agrees (account (entries_in c.pdcp_bits l side [] (told ++ first)) (account_of c l side past))
      ((journal_at l low newer now past none (told ++ first)).flows.acked side l))
      → ((side : Side) → told_from c l side (steps ++ InLife s ∷ []) (outset nb ue)
      ≡ account (entries_in c.pdcp_bits l side [] (told ++ xs)) (account_of c l side past))
      → (b : Bearer History) → bearer_first l now past told ≡ Some b
      → AreGivenOf c t.joined.there t.joined.back t.joined.one t.joined.two m.down m.up b
      → IsGatheredOn l low newer now past none c nb ue told xs (steps ++ InLife s ∷ []) n.next m'
  block_read from k block is at m m' j j' lived beside flight lived' down up agree agree' agrees account_is b there' g =
      comes_on from k block is at m m' j j' lived beside flight lived' down up agree agree' agrees account_is b there' g
