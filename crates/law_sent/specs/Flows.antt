-- What is kept of a channel of any kind, while the PDUs that a journal sends are checked, goes on
-- by its own records alone (docs/formats/JOURNAL.md; TS 36.321 6.1.2, TS 36.322 5.1,
-- TS 36.323 5.1.1).
use Rattle.std.specs.Prelude.{◌≡◌, ℕ, ◌==◌, true, false, List, ◌∷◌, ◌++◌, [], Option, Some}
use Rattle.std.specs.Prelude.{None, option_map}
use Rattle.l2_types.specs.declared.event.How.TheVariants as hows
use Rattle.l2_types.specs.declared.side.Side.{Side}
use Rattle.l2_types.specs.declared.side.Side.TheVariants.{Ue}
use Rattle.mac_pdu.specs.declared.item.Direction.{Direction}
use Rattle.bearer_types.specs.declared.event.Event.{Event}
use Rattle.bearer_types.specs.declared.event.Event.TheVariants as events
use Rattle.bearer_types.specs.Sides.{is_same, sender_of}
use Rattle.air_record.specs.declared.line.Line.{Line}
use Rattle.air_record.specs.declared.record.Record.{Record}
use Rattle.air_record.specs.declared.record.Record.TheVariants as records
use Rattle.air_record.specs.declared.submission.Submission.{Submission}
use Rattle.air_record.specs.Submissions.{unrefused}
use Rattle.journal_flows.specs.Accounts.{account_at}
use Rattle.journal_given.specs.Supplies as given
use Rattle.journal_sent.specs.SentPdus.{histories}
use Rattle.journal_sent.specs.SentFlows.{flow_submitted, flow_taken, flow_reported, flow_discarded}
use Rattle.journal_sent.specs.SentFlows.{flow_settled, passed_by}
use Rattle.journal_sent.specs.Sending.{sdu_of, acked_at, named_of, settled, released, renewed_by}
use Rattle.journal_sent.specs.Sending.{after_line, after_record, after_group}
use Rattle.journal_sent.specs.RightSent.{Flow, AllSent, Given, PduTest, InBlock}
use Rattle.journal_sent.specs.RightSent.{PduIsSent, PduIsShaped}
use Rattle.law_sent.specs.Channels.{flow_on, only_at, AreRight, behind_all, sent_on, begins_on}

-- ---- the SDU of a line is submitted

abbrev pub submits_to : Side → ℕ → Option Submission → Flow → Flow
submits_to side l None f = f
submits_to side l (Some d) f =
    only_at (is_same d.side side) (only_at (d.lcid == l) (flow_submitted d.octets)) f

-- ---- a record, by what its line and those before it told

abbrev pub event_on : Side → ℕ → Event → Given → Flow → Flow
event_on side l (events.Take lcid count len) j f = only_at (lcid == l)
    (flow_taken histories count len (sdu_of given.histories side l count j)) f
event_on side l (events.Report lcid fms bitmap) j f =
    only_at (lcid == l) (flow_reported histories fms bitmap) f
event_on side l (events.Discard lcid len) j f = only_at (lcid == l) flow_discarded f
event_on side l event j f = f

abbrev pub record_on : Side → ℕ → Record → Given → AllSent → Flow → Flow
record_on side l (records.Of at event) j s f = only_at (is_same at side) (event_on side l event j) f
record_on side l (records.Block direction process true version octets) j s f =
    only_at (is_same (sender_of direction) side)
    (behind_all (acked_at side l j) (sent_on l direction octets s)) f
record_on side l (records.Looped lcid octets) j s f =
    only_at (is_same Ue side) (only_at (lcid == l) (flow_submitted octets)) f
record_on side l one j s f = f

-- a channel of a side goes on so, whatever stands there
pub record FlowGoesOn (side : Side) (l : ℕ) : Type 0 where
  pub releases : (o : Option Submission) (s : AllSent)
      → flow_on side l (released o s) ≡ option_map (submits_to side l o) (flow_on side l s)
  pub settles : (one : Record) (s : AllSent)
      → flow_on side l (settled one s)
      ≡ option_map (submits_to side l (unrefused one s.submitted)) (flow_on side l s)
  pub records : (one : Record) (j : Given) (s : AllSent)
      → flow_on side l (after_record histories given.histories one j s)
      ≡ option_map (record_on side l one j s) (flow_on side l (settled one s))
  pub lines : (line : Line) (s : AllSent) → begins_on l line ≡ false
      → flow_on side l (after_line histories line s) ≡ flow_on side l s
  pub ends : (j : Given) (s : AllSent)
      → flow_on side l (after_group histories j s)
      ≡ option_map (λ (f : Flow). flow_settled histories (account_at side l j.kept.journal.flows)
      (renewed_by histories s.renewal f)) (flow_on side l (released s.submitted s))

abbrev pub FlowsGoOn : Type 0
FlowsGoOn = (side : Side) (l : ℕ) → FlowGoesOn side l

-- ---- a new block is right where it is so on each channel

abbrev pub IsRightOnAll : PduTest → Type 0
IsRightOnAll right =
    (direction : Direction) (octets : List ℕ) (j : Given) (s : AllSent)
    → ((l : ℕ) (f : Flow) → flow_on (sender_of direction) l s ≡ Some f
    → AreRight right (acked_at (sender_of direction) l j) (sent_on l direction octets s) f)
    → InBlock right direction octets j s

abbrev pub BlocksAreRightOnAll : Type 0
BlocksAreRightOnAll = IsRightOnAll PduIsSent × IsRightOnAll PduIsShaped

-- ---- a transparent SDU is passed on: its `send` stands just behind its `take` (5.1.1.1)

abbrev pub SendsWhatIsPassed : Type 0
SendsWhatIsPassed =
    (side : Side) (l len : ℕ) (i j : Given) (s : AllSent) (f : Flow) → s.submitted ≡ None
    → flow_on side l s ≡ Some f → f.cover ≡ None
    → named_of side
    (after_record histories given.histories (records.Of side (events.Send l hows.Tm 0)) j
    (after_record histories given.histories (records.Of side (events.Take l None len)) i s))
    ≡ named_of side s ++ record { lcid = l; how = hows.Tm; sdu = passed_by f } ∷ []
