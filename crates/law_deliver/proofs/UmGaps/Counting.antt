-- A bearer gives RLC no more PDUs in a life than there are COUNTs.
use Rattle.std.proofs.Common.{◌≡◌, ◌≤◌, ℕ, suc, ◌^◌, List, [], ◌∷◌, ◌++◌, length, refl, ap, sym, subst, ◌∙◌, arith}
use Rattle.bearer.specs.declared.flow.Flow.TheVariants.{Um}
use Rattle.bearer.specs.Unacknowledged.State.{State}
use Rattle.bearer.specs.Unacknowledged.Lives.{stopped, restarted}
use Rattle.law_bearer.specs.AnyBearer.Calls.{Call}
use Rattle.law_bearer.specs.AnyBearer.Stream.{stream}
use Rattle.eps_sec.specs.declared.Keys.{Keys}
use Rattle.pdcp_tx.specs.declared.sender.Next.{Next}
use Rattle.law_deliver.specs.UmDelivery.Lives.{AreAccepted, news_by, submits_by}
use Rattle.law_deliver.proofs.UmDelivery.Ending.{next_tx, data_next}
use Rattle.law_deliver.proofs.UmDelivery.Sending.{octets, sent, Sends, sends_all}
use Rattle.law_deliver.specs.UmFlow.Handing.{IsOfData, all_called}
use Rattle.law_deliver.proofs.UmFlow.Handing.{hears_what_is_handed}
use Rattle.law_pdcp.specs.UmPair.Flow.{Flow, Restart, happens}
use Rattle.law_pdcp.proofs.UmPair.Laws.{run_writes}
use Rattle.law_pdcp.proofs.UmPair.Sound.{Writes}

-- as a life begins
pub record Begins (bits : ℕ) (b : State) : Type 0 where
  pub flow : Flow
  pub writes : Writes bits flow
  pub sender_is : flow.sender ≡ b.pdcp.tx
  pub stream_is : flow.stream ≡ []
  pub of_data : IsOfData bits b

octets_many : (ns : List Next) → length (octets ns) ≡ length ns
octets_many [] = refl
octets_many (n ∷ ns) = ap suc (octets_many ns)

module _ (bits : ℕ) (b : State) (cs : List Call) (h : Begins bits b) (ok : AreAccepted b cs) where
  sending : Sends h.flow (all_called b cs).pdcp.tx (news_by b cs) (stream (Um b) cs) (submits_by cs)
  sending = sends_all bits b cs h.flow h.of_data h.sender_is ok

  still_writes : Writes bits (sent h.flow (all_called b cs).pdcp.tx (news_by b cs) sending.nexts)
  still_writes = subst (Writes bits) sending.left (run_writes bits sending.events h.flow sending.may h.writes)

  pub few_given : length (stream (Um b) cs) ≤ 2 ^ 32
  few_given =
      let many : length (h.flow.stream ++ sending.nexts) ≡ length (stream (Um b) cs) =
      ap (λ (ns : List Next). length (ns ++ sending.nexts)) h.stream_is ∙ sym (octets_many sending.nexts)
      ∙ ap length sending.given_is in
      let count = still_writes.count in
      let room = still_writes.sends.room in
      omega (arith, many, count, room)

  pub begins_next : (keys : Keys) → Begins bits (restarted (stopped (all_called b cs)) keys)
  begins_next keys =
      let d : State = all_called b cs in
      let stays : IsOfData bits d = (hears_what_is_handed bits b cs h.of_data).stays in
      let f : Flow = sent h.flow d.pdcp.tx (news_by b cs) sending.nexts in
      record {
        flow = happens f (Restart keys);
        writes = run_writes bits (Restart keys ∷ []) f (tt, tt) still_writes;
        sender_is = next_tx bits d keys stays;
        stream_is = refl;
        of_data = data_so d stays keys;
      }
    where
      data_so : (d : State) → IsOfData bits d → (keys : Keys) → IsOfData bits (restarted (stopped d) keys)
      data_so d stays keys = data_next bits d d [] keys refl stays
