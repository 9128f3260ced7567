-- Behind records of a group, on a channel whose bearers aren't of acknowledged data: what is kept of the flows that
-- both sides send, while the PDUs of the journal are checked, stands beside both ends; each record is right on the
-- channel.
use Rattle.std.proofs.Common.{◌≡◌, ◌<◌, ◌≤◌, ℕ, true, List, [], ◌∷◌, ◌++◌, length, Some, None}
use Rattle.std.specs.List.{AllByRecursion}
use Rattle.air_record.specs.declared.record.Record.{Record}
use Rattle.air_record.specs.declared.record.Record.TheVariants as records
use Rattle.air_record.specs.Submissions.{submitted_by}
use Rattle.air_link.specs.Link.{end_of}
use Rattle.air_text.specs.Groups.{Group}
use Rattle.bearer.specs.declared.flow.Flow.{Flow as BearerFlow}
use Rattle.bearer_types.specs.Sides.{sender_of}
use Rattle.bearer_types.specs.declared.event.Event.{Event}
use Rattle.bearer_types.specs.declared.event.Event.TheVariants as events
use Rattle.l2_types.specs.declared.side.Side.{Side}
use Rattle.promises.specs.Flows.{looped_at}
use Rattle.journal_flows.specs.Gathering.{sending_of}
use Rattle.journal_given.specs.Supplies as given
use Rattle.journal_sent.specs.RightSent.{AllSent, Flow, FirstIsTaken}
use Rattle.journal_sent.specs.SentPdus.{histories}
use Rattle.journal_sent.specs.Sending.{acked_at, all_sending}
use Rattle.law_deliver.specs.AmChannel.Delivery.{was_submitted}
use Rattle.law_deliver.specs.AmChannel.Lives.{InLife, end_at, calls_at}
use Rattle.law_deliver.specs.AmFlow.Air.{Air, Step, happens, IsGiven}
use Rattle.law_given.proofs.GivenRecords.{BringsNoBlock, journal_at}
use Rattle.law_node.specs.Holding.{flow}
use Rattle.law_run.specs.TwoEnds.Along.{TellsTogether}
use Rattle.law_run.specs.TwoEnds.Logs.{Flight, flight_in, logged, log_at}
use Rattle.law_run.specs.TwoEnds.On.{IsOn}
use Rattle.law_run.proofs.Past.{link_behind}
use Rattle.law_sent.specs.Channels.{AreRight, flow_on, sent_on}
use Rattle.law_sent.proofs.ChannelsNamed.{AreNamedAlike}
use Rattle.law_sound.specs.LivedFails.{HaveComeNew}
use Rattle.law_sound.specs.NamedSteps.{SendsNoNewBlock}
use Rattle.law_sound.proofs.LivedFails.{AreThere}
use Rattle.law_sound.proofs.QueueBeside.{IsQueuedBy, IsAckedBy}
use Rattle.law_sound.proofs.SentBetween.{IsRightPdu}
use Rattle.law_sound.proofs.SentRecords.{giving_before, sending_first}

-- ---- a flow stands beside a bearer

pub record IsQueuedOn (side : Side) (l : ℕ) (x : BearerFlow) (s : AllSent) : Type 0 where
  pub flow : Flow
  pub stands : flow_on side l s ≡ Some flow
  pub queued : IsQueuedBy x flow

-- ---- a record is right on the channel, behind those before it

abbrev pub IsRightOnChannel : ℕ → Event → Flow → Type 0
IsRightOnChannel l (events.Take lcid count len) f = lcid ≡ l → FirstIsTaken count len f
IsRightOnChannel l (events.Report lcid fms bitmap) f = lcid ≡ l → ⊥
IsRightOnChannel l (events.Discard lcid len) f = lcid ≡ l → 0 < length f.waiting
IsRightOnChannel l event f = Unit {0}

module _ (l : ℕ) (now : Group) (past : List Group) where
  abbrev pub IsRightRecord : List Record → Record → Type 0
  IsRightRecord told (records.Of side event) =
      (f : Flow) → flow_on side l (sending_first now past told) ≡ Some f → IsRightOnChannel l event f
  IsRightRecord told (records.Block direction process true version octets) =
      let from = sender_of direction in
      (f : Flow) → flow_on from l (sending_first now past told) ≡ Some f
      → AreRight IsRightPdu
      (acked_at from l (giving_before now past told (records.Block direction process true version octets)))
      (sent_on l direction octets (sending_first now past told)) f
  IsRightRecord told one = Unit {0}

  abbrev pub AreRightRecords : List Record → List Record → Type 0
  AreRightRecords told [] = Unit {0}
  AreRightRecords told (one ∷ xs) = IsRightRecord told one × AreRightRecords (told ++ one ∷ []) xs

-- ---- at a moment of a life, among the records of a group whose line submits no SDU

module _ (l : ℕ) (low : l ≤ 10) (newer : List Group) (now : Group) (past : List Group)
    (none : submitted_by now.line ≡ None) where
  pub record IsQueuedAt (told : List Record) (a : Air) : Type 0 where
    pub new : HaveComeNew l a
    pub there : AreThere l a
    pub queued : (side : Side) → IsQueuedOn side l (flow l (end_at side a)) (sending_first now past told)
    -- no PDU is named that isn't in a block
    pub silent : (side : Side) → (sending_of side (journal_at l low newer now past none told)).named ≡ []
    pub alike : AreNamedAlike (journal_at l low newer now past none told) (sending_first now past told)

  -- what the checker knows as acknowledged, before a record behind others that bring and send no block
  abbrev pub KnowsAcked : List Record → Air → Type 0
  KnowsAcked told a = (side : Side) (before : List Record) (one : Record) → AllByRecursion BringsNoBlock before
      → AllByRecursion SendsNoNewBlock before
      → IsAckedBy (flow l (end_at side a)) (acked_at side l (giving_before now past (told ++ before) one))

  -- the records of a step tell what both ends log in it
  pub record TellsStep (a : Air) (s : Step) (sent : Flight) (xs : List Record) : Type 0 where
    pub given : IsGiven l a s
    pub logs : logged sent xs ≡ log_at a (InLife s)
    pub looped : (side : Side) (n : ℕ)
        → looped_at side n xs ≡ was_submitted n (calls_at side a (InLife s)) (end_at side a)
    pub tells : TellsTogether (InLife s) a xs

  -- what each step carries on, for what is known of acknowledgements
  pub record IsBase (Base : Flight → List Record → List Record → Air → Type 0) : Type 0 where
    pub knows : (sent : Flight) (told others : List Record) (a : Air) → Base sent told others a → KnowsAcked told a
    pub one_step : (sent : Flight) (told xs others : List Record) (a : Air) (s : Step)
        → now.events ≡ told ++ (xs ++ others) → TellsStep a s sent xs → Base sent told (xs ++ others) a
        → Base (flight_in xs sent) (told ++ xs) others (happens a s)
    pub silent : (sent : Flight) (told xs others : List Record) (a : Air) → now.events ≡ told ++ (xs ++ others)
        → logged sent xs ≡ [] → Base sent told (xs ++ others) a
        → Base (flight_in xs sent) (told ++ xs) others a

-- ---- behind groups

-- both ends have a bearer of the channel, and blocks are under way between them
pub record IsAirBehind (l : ℕ) (past : List Group) : Type 0 where
  pub air : Air
  pub on : IsOn (link_behind past) air
  pub new : HaveComeNew l air
  pub there : AreThere l air

abbrev pub QueuesOn : ℕ → List Group → Type 0
QueuesOn l past = (side : Side)
    → IsQueuedOn side l (flow l (end_of side (link_behind past))) (all_sending histories given.histories past)

abbrev pub NewestIsRight : ℕ → List Group → Type 0
NewestIsRight l [] = Unit {0}
NewestIsRight l (now ∷ past) = AreRightRecords l now past [] now.events

pub record QueuesBehind (l : ℕ) (past : List Group) : Type 0 where
  pub queues : QueuesOn l past
  pub right : NewestIsRight l past
