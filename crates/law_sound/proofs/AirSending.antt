-- A bearer goes along the history of the flow that it sends on, in each step of a life of two ends over the air.
use Rattle.std.proofs.Common.{◌≡◌, ℕ, ◌+◌, ap, ◌∙◌, List, [], Some, inl, slice_get, refl, sym, subst}
use Rattle.std.specs.List.{AllByRecursion}
use Rattle.bearer.specs.Acknowledged.State.{State, has_more}
use Rattle.bearer.specs.declared.flow.Flow.TheVariants.{Am}
use Rattle.bearer_types.specs.Sides.{heard_by, sent_by}
use Rattle.l2_node.specs.End.{End}
use Rattle.l2_types.specs.declared.config.AmTxConfig.{AmTxConfig}
use Rattle.l2_types.specs.declared.AmRxConfig.{AmRxConfig}
use Rattle.l2_types.specs.declared.side.Side.{Side}
use Rattle.l2_types.specs.declared.side.Side.TheVariants.{Nb, Ue}
use Rattle.mac_pdu.specs.declared.item.Direction.{Direction}
use Rattle.promises.specs.Pdus.{carried}
use Rattle.rlc_am_rx.specs.State.{State as Receiver}
use Rattle.rlc_am_tx.specs.Machine.{State as Sender}
use Rattle.journal_account.specs.Acked.{ignored_in}
use Rattle.journal_account.specs.FlowEvents.{FlowEvent}
use Rattle.journal_failure.specs.RightFailure.{AreFailsOf}
use Rattle.law_deliver.specs.AmChannel.Lives.{calls_by}
use Rattle.law_deliver.specs.AmFlow.Air.{Block, Station, Air, Act, Step, AtNb, AtUe, Passes, does, happens, goes}
use Rattle.law_deliver.specs.AmFlow.Air.{outset, IsDone, IsGiven}
use Rattle.law_deliver.specs.AmFlow.Carrying.{carried_behind, carries_none}
use Rattle.law_deliver.specs.AmFlow.Links.{IsFlowOn, AreFlowsOn}
use Rattle.law_deliver.specs.AmFlow.Pair.{BearerEnd}
use Rattle.law_deliver.specs.AmFlow.UnderWay.{CarriesFlows, flow_on}
use Rattle.law_deliver.specs.AmFlow.Ups.{calls_over}
use Rattle.law_deliver.proofs.AmFlow.Air.{BothMatch, both_match}
use Rattle.law_deliver.proofs.AmFlow.Loads.{all_at}
use Rattle.law_deliver.proofs.AmFlow.Stations.{Matches}
use Rattle.law_account.specs.EndsTold.{AreEndsOf}
use Rattle.law_run.specs.TwoEnds.ChannelLog.{parted}
use Rattle.law_run.specs.TwoEnds.SenderLog.{BearerEntry, bearer_logs}
use Rattle.law_run.proofs.AskedCalls.{AsksOf, AllP, SideGoes, goes_to, goes_none, act_goes}
use Rattle.law_run.proofs.OrderedLogs.{IsOrdered}
use Rattle.law_run.proofs.SenderLog.{OfCalls, GoesBy}
use Rattle.law_sound.specs.AirSending.{GoOnByLog, SendByAir, EndsSendByAir}
use Rattle.law_sound.specs.LogLaws.{HasComeBy, with_log, fails_in}
use Rattle.law_sound.specs.IgnoredLaws.{told_ignored}
use Rattle.law_sound.proofs.IgnoredLogs.{parted_ignored}
use Rattle.law_sound.proofs.LoggedOn.{flows_come_by, parted_log, logged_ends, logged_fails, logged_ignored}
use Rattle.law_sound.proofs.LoggedOn.{parted_fails}
use Rattle.law_sound.proofs.Nearing.{IsNear, near_stays, under_way_near}

-- ---- by calls of its bearer

goes_on_by : (most : ℕ) (es : List FlowEvent) (b : State) (tx : Sender) (rx : Receiver) (log : List BearerEntry)
    → HasComeBy b.tx → IsOrdered log → GoesBy (AsksOf b.pdcp.kind (has_more b.pdcp) IsNear) b.tx tx log
    → AreEndsOf most es b.tx rx → GoOnByLog most es b tx rx (parted log)
goes_on_by most es b tx rx log come ordered x ends =
    let kind = b.pdcp.kind in
    let more = has_more b.pdcp in
    let same = sym (parted_log kind more log es ordered) in
    record {
      ends = subst (λ (now : List FlowEvent). AreEndsOf most now tx rx) same
          (logged_ends kind more most es b.tx tx rx log come x ends);
      fails = subst (λ (sns : List ℕ). AreFailsOf most es (with_log kind more (parted log) es) sns)
          (sym (parted_fails log))
          (subst (λ (now : List FlowEvent). AreFailsOf most es now (fails_in log)) same
          (logged_fails kind more most es b.tx tx rx log come x ends));
      ignored = subst (λ (now : List FlowEvent). ignored_in now ≡ ignored_in es + told_ignored (parted log)) same
          (logged_ignored kind more most es b.tx tx rx log come x ends
          ∙ ap (λ (n : ℕ). ignored_in es + n) (sym (parted_ignored log)));
    }

-- ---- at an end

module _ (l : ℕ) (side oside : Side) (dir : heard_by side ≡ sent_by oside) (sending other_sending : AmTxConfig)
    (receiving other_receiving : AmRxConfig) (s o : Station) (out : IsFlowOn l sending receiving s.end o.end)
    (back : IsFlowOn l other_sending other_receiving o.end s.end) (n : BearerEnd) (m : Matches side l s n)
    (carries : AllByRecursion (CarriesFlows l (sent_by oside) (flow_on l other_sending other_receiving o.end s.end back)
    (flow_on l sending receiving s.end o.end out)) o.blocks) where
  abbrev b : State
  b = out.from_bearer

  abbrev Q : OfCalls
  Q = AsksOf b.pdcp.kind (has_more b.pdcp) IsNear

  come : HasComeBy b.tx
  come = subst HasComeBy out.sender_is (flows_come_by sending receiving out.steps out.given)

  hears : (k : ℕ) (block : Block) → slice_get o.blocks k ≡ Some block
      → AllByRecursion (AllP IsNear b.tx) (carried l (heard_by side) block.octets)
  hears k block at =
      let pdus : List (List ℕ) = carried l (sent_by oside) block.octets in
      let near = under_way_near other_sending sending receiving other_receiving back.steps out.steps back.given
      out.given block.age pdus (all_at _ o.blocks k block carries at) in
      subst (λ (d : Direction). AllByRecursion (AllP IsNear b.tx) (carried l d block.octets)) (sym dir)
      (subst (λ (x : Sender). AllByRecursion (AllP IsNear x) pdus) out.sender_is near)

  -- an act
  acts : (x : Act) → IsDone l s x → (z : End) → (behind : IsFlowOn l sending receiving (does o s x).end z)
      → (most : ℕ) (es : List FlowEvent)
      → AreEndsOf most es b.tx out.to_bearer.rx
      → GoOnByLog most es b behind.from_bearer.tx out.to_bearer.rx
      (parted (bearer_logs l (Am b) (calls_over l (calls_by o x) s.end)))
  acts x done z behind most es ends =
      let cs = calls_over l (calls_by o x) s.end in
      let there : SideGoes Q l (does o s x).end b cs =
      act_goes IsNear near_stays side l s b m.come m.there out.from_is o hears x done in
      goes_on_by most es b behind.from_bearer.tx out.to_bearer.rx (bearer_logs l (Am b) cs) come there.ordered
      (goes_to Q l (does o s x).end b behind.from_bearer cs there behind.from_is) ends

  -- the other end acts
  rests : (z : End) → (behind : IsFlowOn l sending receiving s.end z) → (most : ℕ) (es : List FlowEvent)
      → AreEndsOf most es b.tx out.to_bearer.rx
      → GoOnByLog most es b behind.from_bearer.tx out.to_bearer.rx (parted (bearer_logs l (Am b) []))
  rests z behind most es ends =
      goes_on_by most es b behind.from_bearer.tx out.to_bearer.rx [] come (inl refl)
      (goes_to Q l s.end b behind.from_bearer []
      (goes_none IsNear near_stays side l s b m.come m.there out.from_is) behind.from_is) ends

-- ---- in a step

pub ends_send_by_air : EndsSendByAir
ends_send_by_air l nb ue b d steps s x y given g h behind = by s g behind
  where
    a : Air
    a = goes steps (outset nb ue)

    p : BothMatch l b d (goes steps (outset nb ue)) (carried_behind l steps (outset nb ue) carries_none)
    p = both_match l nb ue b d steps x y given

    f : AreFlowsOn l b d (goes steps (outset nb ue))
    f = h.flows

    by : (s : Step) → IsGiven l (goes steps (outset nb ue)) s
        → (behind : AreFlowsOn l b d (happens (goes steps (outset nb ue)) s))
        → SendByAir l b d (goes steps (outset nb ue)) s h.flows behind
    by (AtNb act) g behind = record {
      by_nb = acts l Nb Ue refl b.tx_config d.tx_config d.rx_config b.rx_config a.nb a.ue f.down f.up _
          p.nb.matches h.by_ue act g _ behind.down;
      by_ue = rests l Ue Nb refl d.tx_config b.tx_config b.rx_config d.rx_config a.ue a.nb f.up f.down _
          p.ue.matches h.by_nb _ behind.up;
    }
    by (AtUe act) g behind = record {
      by_nb = rests l Nb Ue refl b.tx_config d.tx_config d.rx_config b.rx_config a.nb a.ue f.down f.up _
          p.nb.matches h.by_ue _ behind.down;
      by_ue = acts l Ue Nb refl d.tx_config b.tx_config b.rx_config d.rx_config a.ue a.nb f.up f.down _
          p.ue.matches h.by_nb act g _ behind.up;
    }
    by Passes g behind = record {
      by_nb = rests l Nb Ue refl b.tx_config d.tx_config d.rx_config b.rx_config a.nb a.ue f.down f.up _
          p.nb.matches h.by_ue _ behind.down;
      by_ue = rests l Ue Nb refl d.tx_config b.tx_config b.rx_config d.rx_config a.ue a.nb f.up f.down _
          p.ue.matches h.by_nb _ behind.up;
    }
