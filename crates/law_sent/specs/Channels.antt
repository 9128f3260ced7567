-- What is kept of a channel of acknowledged data, while the PDUs that a journal sends are checked,
-- goes on by its own records alone: so whether these are right is told channel by channel
-- (docs/formats/JOURNAL.md; TS 36.321 6.1.2, TS 36.322 5.1.3.1.1, TS 36.323 5.1.1, 6.2.6).
use Rattle.std.specs.Prelude.{◌≡◌, ℕ, ◌≤◌, ◌==◌, Bool, true, false, if◌then◌else◌, List, []}
use Rattle.std.specs.Prelude.{◌∷◌, ◌++◌, length, Option, Some}
use Rattle.l2_types.specs.declared.event.How.{How}
use Rattle.l2_types.specs.declared.side.Side.{Side}
use Rattle.mac_pdu.specs.declared.builder.Sdu.{Sdu}
use Rattle.mac_pdu.specs.declared.item.Direction.{Direction}
use Rattle.mac_pdu.specs.Reading.{reading}
use Rattle.bearer_types.specs.declared.config.BearerConfig.{BearerConfig}
use Rattle.bearer_types.specs.declared.event.Event.{Event}
use Rattle.bearer_types.specs.declared.event.Event.TheVariants as events
use Rattle.bearer_types.specs.Sides.{is_same, sender_of}
use Rattle.air_record.specs.declared.line.Line.{Line}
use Rattle.air_record.specs.declared.line.Line.TheVariants as lines
use Rattle.air_record.specs.declared.record.Record.{Record}
use Rattle.air_record.specs.declared.record.Record.TheVariants as records
use Rattle.journal_flows.specs.Gathering.{sdus_read}
use Rattle.journal_flows.specs.Accounts.{account_at}
use Rattle.journal_given.specs.Supplies as given
use Rattle.journal_sent.specs.declared.checker.NamedPdu.{NamedPdu}
use Rattle.journal_sent.specs.SentPdus.{histories}
use Rattle.journal_sent.specs.SentFlows.{is_data, gives_data, flow_reported, flow_judges}
use Rattle.journal_sent.specs.SentFlows.{flow_settled}
use Rattle.journal_sent.specs.Sending.{flow_at, flows_of, named_of, sdu_of, acked_at}
use Rattle.journal_sent.specs.Sending.{bearer_begun, after_line, after_record, renewed_by}
use Rattle.journal_sent.specs.Sending.{after_group}
use Rattle.journal_sent.specs.RightSent.{Flow, AllSent, Given, PduTest, PduIsSent, PduIsShaped}
use Rattle.journal_sent.specs.RightSent.{InBlock}

-- ---- a channel of acknowledged data

abbrev pub flow_on : Side → ℕ → AllSent → Option Flow
flow_on side l s = flow_at l (flows_of side s)

-- the SDUs that wait are kept elsewhere
pub record IsOfData (f : Flow) : Type 0 where
  pub data_is : is_data f.layout ≡ true
  pub none_wait : f.waiting ≡ []

-- the flow stands there
pub record StandsOn (side : Side) (l : ℕ) (s : AllSent) (f : Flow) : Type 0 where
  pub is : flow_on side l s ≡ Some f
  pub of_data : IsOfData f

-- ---- the PDUs of a new block on a channel, as `send` records name them

pub record SentPdu : Type 0 where
  pub how : How
  pub passed : Option (List ℕ)
  pub octets : List ℕ

abbrev pub pdus_on : ℕ → List NamedPdu → List Sdu → List SentPdu
pdus_on l (n ∷ named) (d ∷ sdus) =
    (if d.lcid == l then record { how = n.how; passed = n.sdu; octets = d.octets } ∷ [] else [])
    ++ pdus_on l named sdus
pdus_on l named sdus = []

abbrev pub behind_one : (ℕ → Bool) → SentPdu → Flow → Flow
behind_one acked p f = (flow_judges histories acked p.how p.passed p.octets f).flow

abbrev pub behind_all : (ℕ → Bool) → List SentPdu → Flow → Flow
behind_all acked [] f = f
behind_all acked (p ∷ ps) f = behind_all acked ps (behind_one acked p f)

-- each is right behind those before it
abbrev pub AreRight : PduTest → (ℕ → Bool) → List SentPdu → Flow → Type 0
AreRight right acked [] f = Unit {0}
AreRight right acked (p ∷ ps) f =
    right acked p.how p.passed p.octets f × AreRight right acked ps (behind_one acked p f)

abbrev pub sent_on : ℕ → Direction → List ℕ → AllSent → List SentPdu
sent_on l direction octets s =
    pdus_on l (named_of (sender_of direction) s) (sdus_read (reading direction octets))

-- ---- a record, by what its line and those before it told

abbrev pub only_at : Bool → (Flow → Flow) → Flow → Flow
only_at here change f = if here then change f else f

abbrev pub by_event : Side → ℕ → Event → Given → Flow → Flow
by_event side l (events.Take lcid count len) j f = only_at (lcid == l)
    (gives_data histories count (sdu_of given.histories side l count j)) f
by_event side l (events.Report lcid fms bitmap) j f =
    only_at (lcid == l) (flow_reported histories fms bitmap) f
by_event side l event j f = f

abbrev pub by_record : Side → ℕ → Record → Given → AllSent → Flow → Flow
by_record side l (records.Of at event) j s f = only_at (is_same at side) (by_event side l event j) f
by_record side l (records.Block direction process true version octets) j s f =
    only_at (is_same (sender_of direction) side)
    (behind_all (acked_at side l j) (sent_on l direction octets s)) f
by_record side l one j s f = f

abbrev pub RecordsGoAlone : Type 0
RecordsGoAlone =
    (side : Side) (l : ℕ) (one : Record) (j : Given) (s : AllSent) (f : Flow) → StandsOn side l s f
    → StandsOn side l (after_record histories given.histories one j s) (by_record side l one j s f)

-- ---- a new block is right where it is so on each channel

-- a PDU of another kind of bearer isn't judged
abbrev pub OnData : PduTest → PduTest
OnData right acked how passed octets f =
    is_data f.layout ≡ true → right acked how passed octets f

abbrev pub IsRightByChannel : PduTest → Type 0
IsRightByChannel right =
    (direction : Direction) (octets : List ℕ) (j : Given) (s : AllSent)
    → ((l : ℕ) (f : Flow) → flow_on (sender_of direction) l s ≡ Some f → is_data f.layout ≡ true
    → AreRight right (acked_at (sender_of direction) l j) (sent_on l direction octets s) f)
    → InBlock (OnData right) direction octets j s

-- in what it carries, and in how it is framed; so too by any other test
abbrev pub BlocksAreRightByChannel : Type 0
BlocksAreRightByChannel = IsRightByChannel PduIsSent × IsRightByChannel PduIsShaped

-- ---- lines

abbrev pub begins_on : ℕ → Line → Bool
begins_on l (lines.Bearer config options) = config.channel.lcid == l
begins_on l line = false

abbrev pub LinesGoAlone : Type 0
LinesGoAlone =
    (side : Side) (l : ℕ) (line : Line) (s : AllSent) (f : Flow) → begins_on l line ≡ false
    → StandsOn side l s f → StandsOn side l (after_line histories line s) f

-- channels are 0 to 10
pub record HasChannels (s : AllSent) : Type 0 where
  pub nb : length s.nb ≡ 11
  pub ue : length s.ue ≡ 11

abbrev pub BearersBegin : Type 0
BearersBegin =
    (side : Side) (config : BearerConfig) (options : _) (s : AllSent) → HasChannels s
    → config.channel.lcid ≤ 10
    → flow_on side config.channel.lcid (after_line histories (lines.Bearer config options) s)
    ≡ bearer_begun histories side s.keys config

-- ---- a group ends

abbrev pub GroupsEndAlone : Type 0
GroupsEndAlone =
    (side : Side) (l : ℕ) (j : Given) (s : AllSent) (f : Flow) → StandsOn side l s f
    → StandsOn side l (after_group histories j s)
    (flow_settled histories (account_at side l j.kept.journal.flows)
    (renewed_by histories s.renewal f))
