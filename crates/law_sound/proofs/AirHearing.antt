-- A block that is under way brings the bearer that hears it what is under way in its flow.
use Rattle.std.proofs.Common.{◌≡◌, ℕ, List, [], ◌++◌, Some, refl, ap, sym, subst, ◌∙◌}
use Rattle.std.specs.List.{AllByRecursion}
use Rattle.bearer.specs.declared.flow.Flow.{Flow as Bearer}
use Rattle.bearer.specs.declared.flow.Flow.TheVariants.{Am}
use Rattle.bearer_types.specs.Sides.{heard_by, sent_by}
use Rattle.l2_types.specs.declared.config.AmTxConfig.{AmTxConfig}
use Rattle.l2_types.specs.declared.AmRxConfig.{AmRxConfig}
use Rattle.l2_types.specs.declared.side.Side.{Side}
use Rattle.l2_types.specs.declared.side.Side.TheVariants.{Nb, Ue}
use Rattle.law_rlc.specs.AmPair.Flow.{sender}
use Rattle.mac_pdu.specs.declared.item.Direction.{Direction}
use Rattle.promises.specs.Pdus.{carried}
use Rattle.rlc_am_rx.specs.State.{State as Receiver}
use Rattle.rlc_am_tx.specs.Machine.{State as Sender, start}
use Rattle.law_bearer.specs.AnyBearer.Calls.{after_all}
use Rattle.law_deliver.specs.AmFlow.Air.{Block, Station, comes, goes, outset}
use Rattle.law_deliver.specs.AmFlow.Links.{IsFlowOn}
use Rattle.law_deliver.specs.AmFlow.Pair.{BearerEnd}
use Rattle.law_deliver.specs.AmFlow.Reordering.{reordering_in}
use Rattle.law_deliver.specs.AmFlow.UnderWay.{CarriesFlows, IsUnderWay, flow_on}
use Rattle.law_deliver.specs.AmFlow.Ups.{tells_over}
use Rattle.law_deliver.proofs.AmFlow.Air.{both_match}
use Rattle.law_deliver.proofs.AmFlow.Channels.{receive_by}
use Rattle.law_deliver.proofs.AmFlow.Loads.{all_at}
use Rattle.law_deliver.proofs.AmFlow.Stations.{Matches, come_side}
use Rattle.law_account.specs.EndsTold.{AreEndsOf}
use Rattle.law_account.proofs.EndsTold.{ends_begin}
use Rattle.law_sound.specs.AirHearing.{LivesBegin, HearsBlocks, HasOneOn, EndsHearByAir}
use Rattle.law_sound.specs.HearingLaws.{with_reordering, HasBrought, arrivals}
use Rattle.law_sound.proofs.AirBlocks.{blocks_bring_one}
use Rattle.law_sound.proofs.Brought.{under_way_brings}
use Rattle.law_sound.proofs.HeardBlocks.{blocks_are_heard}

pub lives_begin : LivesBegin
lives_begin from to h k =
    subst (λ (x : Sender). AreEndsOf from.tx_config.max_retx [] x to.rx) (sym h.sends)
    (subst (λ (y : Receiver). AreEndsOf from.tx_config.max_retx [] (start from.tx_config) y) (sym k.hears)
    (ends_begin from.tx_config to.rx_config))

module _ (l : ℕ) (side oside : Side) (sending other_sending : AmTxConfig) (receiving other_receiving : AmRxConfig)
    (from to : Station) (out : IsFlowOn l sending receiving from.end to.end)
    (back : IsFlowOn l other_sending other_receiving to.end from.end) where
  -- the bearer that hears takes the PDUs of the channel
  pub arrives : (n : BearerEnd) (block : Block) → heard_by side ≡ sent_by oside → Matches side l to n
      → (behind : IsFlowOn l sending receiving from.end (comes to (Some block)).end)
      → after_all (Am out.to_bearer) (arrivals (carried l (sent_by oside) block.octets)) ≡ Am behind.to_bearer
  arrives n block dir m behind =
      let by = receive_by l to.end block.octets in
      let way : heard_by to.end.side ≡ sent_by oside = ap heard_by (come_side side to.end m.come) ∙ dir in
      ap (λ (d : Direction). after_all (Am out.to_bearer) (arrivals (carried l d block.octets))) (sym way)
      ∙ (sym (by.goes m.there
      ∙ ap (λ (f : Bearer). after_all f (arrivals (carried l (heard_by to.end.side) block.octets))) out.to_is)
      ∙ behind.to_is)

  hears_blocks : (n : BearerEnd) → heard_by side ≡ sent_by oside → Matches side l to n
      → AllByRecursion (CarriesFlows l (sent_by oside) (flow_on l sending receiving from.end to.end out)
      (flow_on l other_sending other_receiving to.end from.end back)) from.blocks
      → AllByRecursion (HasOneOn l oside) from.blocks → HearsBlocks l oside sending receiving from to out
  hears_blocks n dir m carries ones most k es block at behind ends =
      let pdus : List (List ℕ) = carried l (sent_by oside) block.octets in
      let f = flow_on l sending receiving from.end to.end out in
      let under_way : AllByRecursion (IsUnderWay f (flow_on l other_sending other_receiving to.end from.end back)
      block.age) pdus = all_at _ from.blocks k block carries at in
      let b : HasBrought f pdus =
      under_way_brings sending other_sending other_receiving receiving out.steps back.steps block.age pdus out.given
      back.given under_way (all_at (HasOneOn l oside) from.blocks k block ones at) in
      let there : AreEndsOf most es (sender f).state out.to_bearer.rx =
      subst (λ (x : Sender). AreEndsOf most es x out.to_bearer.rx) (sym out.sender_is) ends in
      record {
        came = b.came;
        brings = b.brings;
        ends = subst (λ (x : Sender). AreEndsOf most
            (with_reordering (reordering_in (tells_over l (Am out.to_bearer) (arrivals pdus))) (b.came ++ es)) x
            behind.to_bearer.rx) out.sender_is
            (blocks_are_heard sending receiving out.steps out.given most l es b.came out.to_bearer behind.to_bearer
            pdus b.brings (sym out.receiver_is) (arrives n block dir m behind) there);
      }

pub ends_hear_by_air : EndsHearByAir
ends_hear_by_air l nb ue b d steps x y given h =
    let a = goes steps (outset nb ue) in
    let p = both_match l nb ue b d steps x y given in
    let ones = blocks_bring_one l nb ue b d steps x y given in
    record {
      at_ue = hears_blocks l Ue Nb b.tx_config d.tx_config d.rx_config b.rx_config a.nb a.ue h.flows.down h.flows.up
          _ refl p.ue.matches h.by_nb ones.by_nb;
      at_nb = hears_blocks l Nb Ue d.tx_config b.tx_config b.rx_config d.rx_config a.ue a.nb h.flows.up h.flows.down
          _ refl p.nb.matches h.by_ue ones.by_ue;
    }
