-- What is kept of a channel of acknowledged data goes on by its own records alone.
use Rattle.std.proofs.Common.{◌≡◌, ℕ, ◌==◌, Bool, true, false, Option, Some, None, option_map, refl, ap, ◌∙◌, arith}
use Rattle.std.proofs.lemmas.List.{get_or-set_same}
use Rattle.l2_types.specs.declared.side.Side.{Side}
use Rattle.l2_types.specs.declared.side.Side.TheVariants.{Nb, Ue}
use Rattle.bearer_types.specs.declared.event.Event.{Event}
use Rattle.bearer_types.specs.declared.event.Event.TheVariants as events
use Rattle.bearer_types.specs.Sides.{is_same, sender_of}
use Rattle.air_record.specs.declared.record.Record.{Record}
use Rattle.air_record.specs.declared.record.Record.TheVariants as records
use Rattle.air_record.specs.declared.submission.Submission.{Submission}
use Rattle.air_record.specs.Submissions.{unrefused}
use Rattle.journal_flows.specs.Accounts.{account_at}
use Rattle.journal_given.specs.Supplies as given
use Rattle.journal_sent.specs.SentPdus.{histories}
use Rattle.journal_sent.specs.SentFlows.{flow_submitted, flow_discarded, flow_taken, gives_data, flow_reported}
use Rattle.journal_sent.specs.SentFlows.{flow_settled}
use Rattle.journal_sent.specs.Sending.{sdu_of, acked_at, released, bearer_begun, renewed_by}
use Rattle.journal_sent.specs.RightSent.{Flow, AllSent, Given}
use Rattle.law_sent.specs.Channels.{flow_on, IsOfData, StandsOn, by_event, by_record, behind_all, sent_on, only_at}
use Rattle.law_sent.specs.Channels.{RecordsGoAlone, LinesGoAlone, BearersBegin, GroupsEndAlone}
use Rattle.law_sent.specs.Flows.{submits_to, event_on, record_on}
use Rattle.law_sent.proofs.ChannelsFlows.{IsLike, like_data, like_itself, only_like, submitted_not, discarded_not}
use Rattle.law_sent.proofs.ChannelsFlows.{taken_given, given_like, reported_like, behind_like, renewed_data}
use Rattle.law_sent.proofs.ChannelsFlows.{settled_like}
use Rattle.law_sent.proofs.Flows.{flows_go_on}

-- ---- what records make of a flow of acknowledged data

only_alike : (b : Bool) (c d : Flow → Flow) (f : Flow) → c f ≡ d f → only_at b c f ≡ only_at b d f
only_alike true c d f same = same
only_alike false c d f same = refl

only_same : (b : Bool) (c : Flow → Flow) (f : Flow) → c f ≡ f → only_at b c f ≡ f
only_same true c f same = same
only_same false c f same = refl

-- SDUs wait elsewhere
submits_not : (side : Side) (l : ℕ) (o : Option Submission) (f : Flow) → IsOfData f → submits_to side l o f ≡ f
submits_not side l None f h = refl
submits_not side l (Some d) f h =
    only_same (is_same d.side side) (only_at (d.lcid == l) (flow_submitted d.octets)) f
    (only_same (d.lcid == l) (flow_submitted d.octets) f (submitted_not d.octets f h))

event_by : (side : Side) (l : ℕ) (event : Event) (j : Given) (f : Flow) → IsOfData f
    → event_on side l event j f ≡ by_event side l event j f
event_by side l (events.Take lcid count len) j f h =
    let sdu = sdu_of given.histories side l count j in
    only_alike (lcid == l) (flow_taken histories count len sdu) (gives_data histories count sdu) f
    (taken_given count len sdu f h)
event_by side l (events.Discard lcid len) j f h =
    only_same (lcid == l) flow_discarded f (discarded_not f h)
event_by side l event j f h = refl

record_by : (side : Side) (l : ℕ) (one : Record) (j : Given) (s : AllSent) (f : Flow) → IsOfData f
    → record_on side l one j s f ≡ by_record side l one j s f
record_by side l (records.Of at event) j s f h =
    only_alike (is_same at side) (event_on side l event j) (by_event side l event j) f (event_by side l event j f h)
record_by side l (records.Block direction process true version octets) j s f h = refl
record_by side l (records.Block direction process false version octets) j s f h = refl
record_by side l (records.Looped lcid octets) j s f h =
    only_same (is_same Ue side) (only_at (lcid == l) (flow_submitted octets)) f
    (only_same (lcid == l) (flow_submitted octets) f (submitted_not octets f h))
record_by side l one j s f h = refl

-- it stays one
event_like : (side : Side) (l : ℕ) (event : Event) (j : Given) (f : Flow) → IsLike f (by_event side l event j f)
event_like side l (events.Take lcid count len) j f =
    let sdu = sdu_of given.histories side l count j in
    only_like (lcid == l) (gives_data histories count sdu) f (given_like count sdu f)
event_like side l (events.Report lcid fms bitmap) j f =
    only_like (lcid == l) (flow_reported histories fms bitmap) f (reported_like fms bitmap f)
event_like side l event j f = like_itself f

record_like : (side : Side) (l : ℕ) (one : Record) (j : Given) (s : AllSent) (f : Flow)
    → IsLike f (by_record side l one j s f)
record_like side l (records.Of at event) j s f =
    only_like (is_same at side) (by_event side l event j) f (event_like side l event j f)
record_like side l (records.Block direction process true version octets) j s f =
    only_like (is_same (sender_of direction) side)
    (behind_all (acked_at side l j) (sent_on l direction octets s)) f
    (behind_like (acked_at side l j) (sent_on l direction octets s) f)
record_like side l (records.Block direction process false version octets) j s f = like_itself f
record_like side l one j s f = like_itself f

-- ---- the flow that stands there

released_is : (side : Side) (l : ℕ) (o : Option Submission) (s : AllSent) (f : Flow) → StandsOn side l s f
    → flow_on side l (released o s) ≡ Some f
released_is side l o s f h =
    (flows_go_on side l).releases o s ∙ ap (option_map (submits_to side l o)) h.is
    ∙ ap (λ (g : Flow). Some g) (submits_not side l o f h.of_data)

pub records_go_alone : RecordsGoAlone
records_go_alone side l one j s f h = record {
  is = (flows_go_on side l).records one j s
      ∙ ap (option_map (record_on side l one j s)) (released_is side l (unrefused one s.submitted) s f h)
      ∙ ap (λ (g : Flow). Some g) (record_by side l one j s f h.of_data);
  of_data = like_data f (by_record side l one j s f) (record_like side l one j s f) h.of_data;
}

pub lines_go_alone : LinesGoAlone
lines_go_alone side l line s f other h = record {
  is = (flows_go_on side l).lines line s other ∙ h.is;
  of_data = h.of_data;
}

pub bearers_begin : BearersBegin
bearers_begin Nb config options s has low =
    get_or-set_same s.nb config.channel.lcid (bearer_begun histories Nb s.keys config) None
    (omega (arith, has.nb, low))
bearers_begin Ue config options s has low =
    get_or-set_same s.ue config.channel.lcid (bearer_begun histories Ue s.keys config) None
    (omega (arith, has.ue, low))

pub groups_end_alone : GroupsEndAlone
groups_end_alone side l j s f h =
    let account = account_at side l j.kept.journal.flows in
    let next = renewed_by histories s.renewal in
    record {
      is = (flows_go_on side l).ends j s
          ∙ ap (option_map (λ (g : Flow). flow_settled histories account (next g)))
          (released_is side l s.submitted s f h);
      of_data = like_data (next f) (flow_settled histories account (next f)) (settled_like account (next f))
          (renewed_data s.renewal f h.of_data);
    }
