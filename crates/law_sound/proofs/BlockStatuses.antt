-- What a new block carries of an acknowledged channel: STATUS PDUs that are true, and one data PDU.
use Rattle.std.proofs.Common.{◌≡◌, ℕ, ◌-◌, List, [], ◌++◌, Option, Some, refl, ap, sym, subst, ◌∙◌, arith}
use Rattle.std.specs.List.{AllByRecursion}
use Rattle.bearer.specs.Acknowledged.State.{State}
use Rattle.bearer.specs.Acknowledged.Taking.{status_pdus}
use Rattle.bearer.specs.Taking.{pdus}
use Rattle.bearer.specs.declared.flow.Flow.TheVariants.{Am}
use Rattle.bearer_pdcp.specs.Telling.{pdus_of}
use Rattle.bearer_types.specs.Sides.{sent_by}
use Rattle.l2_types.specs.declared.config.AmTxConfig.{AmTxConfig}
use Rattle.l2_types.specs.declared.AmRxConfig.{AmRxConfig}
use Rattle.l2_types.specs.declared.event.How.TheVariants as hows
use Rattle.l2_types.specs.declared.side.Side.{Side}
use Rattle.l2_types.specs.declared.side.Side.TheVariants.{Nb, Ue}
use Rattle.rlc_pdu.specs.declared.outcome.Taken.{Taken}
use Rattle.rlc_pdu.specs.declared.outcome.Taken.TheVariants as taken
use Rattle.rlc_am_rx.specs.State.{State as Receiver}
use Rattle.rlc_am_rx.specs.Status.{ack}
use Rattle.rlc_am_tx.specs.Machine.{State as Sender}
use Rattle.journal_account.specs.FlowEvents.{FlowEvent}
use Rattle.journal_account.specs.TrueStatus.{IsTrueStatus}
use Rattle.journal_flows.specs.declared.parcels.Parcel.TheVariants.{Report}
use Rattle.journal_flows.specs.NumberedPdus.{front_in, parcel_by}
use Rattle.promises.specs.Pdus.{carried}
use Rattle.law_account.specs.EndsTold.{AreEndsOf}
use Rattle.law_account.specs.Reporting.{reported}
use Rattle.law_bearer.specs.AnyBearer.Acknowledged.{data_given}
use Rattle.law_bearer.specs.AnyBearer.Calls.{Take}
use Rattle.law_bearer.proofs.AnyBearer.SenderCalls.{all_then, writes_what_rlc_gives}
use Rattle.law_rlc.specs.AmPair.Flow.{Copy, Flow, sender, goes as flow_goes, am_rlc_outset, copies_with}
use Rattle.law_rlc.proofs.AmPair.Laws.{sound}
use Rattle.law_rlc.proofs.AmPair.Sound.{IsTrueCopy}
use Rattle.law_deliver.specs.AmFlow.Air.{Station, goes, outset}
use Rattle.law_deliver.specs.AmFlow.Flows.{HasFlow}
use Rattle.law_deliver.specs.AmFlow.Links.{IsFlowOn}
use Rattle.law_deliver.specs.AmFlow.Pair.{BearerEnd, IsTaking}
use Rattle.law_deliver.proofs.AmFlow.Air.{both_match}
use Rattle.law_deliver.proofs.AmFlow.Flows.{bearers_are_flows}
use Rattle.law_deliver.proofs.AmFlow.Loads.{each}
use Rattle.law_deliver.proofs.AmFlow.Sending.{calls_send}
use Rattle.law_deliver.proofs.AmFlow.Standing.{goes_more, given_more}
use Rattle.law_deliver.proofs.AmFlow.Stations.{Matches}
use Rattle.law_deliver.proofs.AmFlow.Turns.{all_built}
use Rattle.law_deliver.proofs.AmFlow.Visiting.{is_taking}
use Rattle.law_sound.specs.BlockStatuses.{IsReportTrue, AreReportsTrue, IsTrueAsGathered, ReportsAreTrue, WritesTruly}
use Rattle.law_sound.specs.BlockStatuses.{EndsWriteTruly}
use Rattle.law_sound.specs.HearingLaws.{ReadsAsData, IsWrittenTrue}
use Rattle.law_sound.proofs.AirBlocks.{new_by}
use Rattle.law_sound.proofs.Brought.{copy_read}
use Rattle.law_sound.proofs.Writing.{bearers_report_truly, at_most_one}

-- ---- each that is gathered as a STATUS

same_report : (es : List FlowEvent) (next l : ℕ) (octets : List ℕ) → IsReportTrue es next l octets
    → IsTrueAsGathered es next l octets
same_report es next l octets h ack' entries q =
    let same : Some (Report l h.ack h.entries) ≡ Some (Report l ack' entries) = sym h.gathered ∙ q in
    let ack_is : h.ack ≡ ack' = cc in
    let entries_are : h.entries ≡ entries = cc in
    subst (IsTrueStatus es ack') entries_are (subst (λ (n : ℕ). IsTrueStatus es n h.entries) ack_is h.is_true)

no_report : (es : List FlowEvent) (next l : ℕ) (octets : List ℕ) → ReadsAsData octets
    → IsTrueAsGathered es next l octets
no_report es next l octets (pdu, read) ack' entries q =
    let none = sym (ap (parcel_by next (front_in es) l hows.Status) read) ∙ q in absurd cc

pub reports_are_true : ReportsAreTrue
reports_are_true es next l pdus h =
    subst (AllByRecursion (IsTrueAsGathered es next l)) (sym h.are)
    (all_then (IsTrueAsGathered es next l) h.statuses h.behind
    (each (IsReportTrue es next l) (IsTrueAsGathered es next l) (same_report es next l) h.statuses h.are_true)
    (each ReadsAsData (IsTrueAsGathered es next l) (no_report es next l) h.behind h.are_data))

-- ---- what an acknowledged bearer writes

written_report : (es : List FlowEvent) (rx : Receiver) (size next l : ℕ) (octets : List ℕ)
    → IsWrittenTrue es rx size next l octets → IsReportTrue es next l octets
written_report es rx size next l octets h = record {
  ack = ack rx size;
  entries = reported rx size;
  gathered = ap (parcel_by next (front_in es) l hows.Status) h.reads ∙ h.gathered.gathered;
  is_true = h.gathered.is_true;
}

given_read : (t : Taken) (cs : List Copy) → AllByRecursion (λ (c : Copy). ReadsAsData c.octets) (copies_with t cs)
    → AllByRecursion ReadsAsData (pdus_of t)
given_read (taken.Piece number first polled octets) cs h = (h.0, tt)
given_read taken.Idle cs h = tt
given_read taken.Small cs h = tt
given_read taken.Shut cs h = tt
given_read taken.Held cs h = tt
given_read taken.Stopped cs h = tt

module _ (n : BearerEnd) (share : ℕ) (held : Option ℕ) where
  -- its data PDU is under way then in the flow that it sends
  data_read : (sending : AmTxConfig) (receiving : AmRxConfig) (o : BearerEnd) → HasFlow sending receiving n o
      → IsTaking n share held → AllByRecursion ReadsAsData (pdus_of (data_given n.bearer share held))
  data_read sending receiving o h taking =
      let begun = am_rlc_outset sending receiving in
      let g = calls_send n (Take share held) (flow_goes h.steps begun) o.bearer.rx o.reports taking
      (record {
        sender_is = h.is.sender_is;
        receiver_is = h.is.receiver_is;
        copies_are = h.is.copies_are;
        reports_are = h.is.reports_are;
        busy_is = h.is.busy_is;
      }) in
      let f = flow_goes (h.steps ++ g.steps) begun in
      let s = sound sending receiving (h.steps ++ g.steps) (given_more begun h.steps g.steps h.given g.given) in
      let copies_are : f.copies ≡ copies_with (data_given n.bearer share held) n.copies =
      ap (λ (x : Flow). x.copies) (goes_more begun h.steps g.steps) ∙ g.stands.copies_are in
      given_read (data_given n.bearer share held) n.copies
      (subst (AllByRecursion (λ (c : Copy). ReadsAsData c.octets)) copies_are
      (each (IsTrueCopy (sender f).past.sent) (λ (c : Copy). ReadsAsData c.octets)
      (λ c q. let r = copy_read f c s q in (r.pdu, r.read)) f.copies s.copies))

  built_truly : (es : List FlowEvent) (next l : ℕ) (d : State) → d ≡ n.bearer
      → AllByRecursion (IsReportTrue es next l) (status_pdus d.rx share)
      → AllByRecursion ReadsAsData (pdus_of (data_given n.bearer share held))
      → AreReportsTrue es next l (pdus (Am n.bearer) share held)
  built_truly es next l d same are_true data' = record {
    statuses = status_pdus n.bearer.rx share;
    behind = pdus_of (data_given n.bearer share held);
    are = writes_what_rlc_gives n.bearer share held;
    are_true = subst (λ (x : State). AllByRecursion (IsReportTrue es next l) (status_pdus x.rx share)) same are_true;
    are_data = data';
    one = at_most_one (data_given n.bearer share held);
  }

-- ---- a turn

writes_truly : (l : ℕ) (side : Side) (sending other_sending : AmTxConfig) (receiving other_receiving : AmRxConfig)
    (from to : Station) (out : IsFlowOn l sending receiving from.end to.end) (n o : BearerEnd) → Matches side l to n
    → HasFlow other_sending other_receiving n o → WritesTruly l side sending receiving from to out
writes_truly l side sending other_sending receiving other_receiving from to out n o m back most next es c done ends =
    all_built (λ octets. AreReportsTrue es next l (carried l (sent_by side) octets)) to c done.0 done.2
    (λ t new b few. new_by side l to n m (AreReportsTrue es next l) t.tti t.order t.grant b.some few nothing
    (built_truly n _ _ es next l out.to_bearer same (reports _)
    (data_read n _ _ other_sending other_receiving o back (is_taking side l to n n t new m b few))))
  where
    same : out.to_bearer ≡ n.bearer
    same = let is : Am out.to_bearer ≡ Am n.bearer = sym out.to_is ∙ m.bearer_is in cc

    nothing : AreReportsTrue es next l []
    nothing = record { statuses = []; behind = []; are = refl; are_true = tt; are_data = tt; one = omega arith }

    reports : (share : ℕ) → AllByRecursion (IsReportTrue es next l) (status_pdus out.to_bearer.rx share)
    reports share =
        each (IsWrittenTrue es out.to_bearer.rx (share - 3) next l) (IsReportTrue es next l)
        (written_report es out.to_bearer.rx (share - 3) next l) (status_pdus out.to_bearer.rx share)
        (bearers_report_truly sending receiving out.steps out.given most share next l es out.to_bearer
        (sym out.receiver_is)
        (subst (λ (x : Sender). AreEndsOf most es x out.to_bearer.rx) (sym out.sender_is) ends))

pub ends_write_truly : EndsWriteTruly
ends_write_truly l nb ue b d steps x y given h =
    let a = goes steps (outset nb ue) in
    let p = both_match l nb ue b d steps x y given in
    let f = bearers_are_flows b d p.steps x.life y.life p.given in
    record {
      at_ue = writes_truly l Ue b.tx_config d.tx_config d.rx_config b.rx_config a.nb a.ue h.down _ _ p.ue.matches
          f.back;
      at_nb = writes_truly l Nb d.tx_config b.tx_config b.rx_config d.rx_config a.ue a.nb h.up _ _ p.nb.matches
          f.there;
    }
