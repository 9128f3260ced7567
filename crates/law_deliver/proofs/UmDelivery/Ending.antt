-- A life of a direction ends, and the next one begins.
use Rattle.std.proofs.Common.{◌≡◌, ℕ, ◌+◌, Bool, false, if◌then◌else◌, List, [], ◌∷◌, ◌++◌, map, Some, None, append-nil}
use Rattle.std.proofs.Common.{refl, ap, sym, subst, ◌∙◌}
use Rattle.eps_sec.specs.declared.Keys.{Keys}
use Rattle.pdcp_pdu.specs.Kinds.{is_am}
use Rattle.pdcp_rx.specs.declared.got.Cause.TheVariants.{Reestablished}
use Rattle.pdcp_rx.specs.State.{State as Receiving, report, restarted as restarted_receiving}
use Rattle.pdcp_tx.specs.State.{restarted as restarted_sending}
use Rattle.law_pdcp.specs.OneEnd.Lives.{submitted_in}
use Rattle.rlc_um.specs.Receiver.{all_joined}
use Rattle.bearer_pdcp.specs.Ends.{Ends}
use Rattle.bearer_pdcp.specs.Lives.{owing_report, restarted as restarted_pdcp}
use Rattle.bearer.specs.Unacknowledged.State.{State}
use Rattle.bearer.specs.Unacknowledged.Lives.{stopped, restarted}
use Rattle.law_bearer.specs.AnyBearer.Calls.{Call}
use Rattle.law_bearer.proofs.AnyBearer.Unacknowledged.{restart_is}
use Rattle.law_deliver.specs.UmFlow.Flows.{Way, last_places}
use Rattle.law_deliver.specs.UmFlow.Handing.{IsOfData, all_called, hears}
use Rattle.law_deliver.proofs.UmFlow.Handing.{rest_ready, hears_what_is_handed}
use Rattle.law_deliver.proofs.UmFlow.Lives.{next_life_begins}
use Rattle.law_pdcp.specs.UmPair.Flow.{Flow, Restart, run_um_pdcp, happens, steps}
use Rattle.law_deliver.specs.UmDelivery.Delivery.{FewBetween}
use Rattle.law_deliver.specs.UmDelivery.Lives.{AreAccepted, ups_to_end, taken, submitted}
use Rattle.law_deliver.proofs.UmDelivery.Living.{Goes, Joins, IsWay, rest_up, receiver_rest, kind_rest, to_stays}
use Rattle.law_deliver.proofs.UmDelivery.Living.{to_end}
use Rattle.law_deliver.proofs.UmDelivery.Sending.{run_then, given_then, short_then, submitted_then}

-- ---- PDCP in the next life

pdcp_tx_next : (e : Ends) (keys : Keys) → is_am e.kind ≡ false
    → (restarted_pdcp e keys).tx ≡ restarted_sending e.tx keys
unfolding restarted_pdcp
pdcp_tx_next e keys um =
    ap (λ (b : Bool). owing_report (if b then Some (report e.rx) else None) (restarted_sending e.tx keys)) um

pdcp_rx_next : (e : Ends) (keys : Keys) → (restarted_pdcp e keys).rx ≡ restarted_receiving e.rx keys
unfolding restarted_pdcp
pdcp_rx_next e keys = refl

pub next_tx : (bits : ℕ) (b : State) (keys : Keys) → IsOfData bits b
    → restarted_sending b.pdcp.tx keys ≡ (restarted (stopped b) keys).pdcp.tx
next_tx bits b keys h =
    let e : Ends = record b.pdcp { rx = hears Reestablished (all_joined b.rx) b.pdcp.rx } in
    sym (ap (λ (x : Ends). x.tx) (restart_is b keys)
    ∙ ap (λ (x : Ends). (restarted_pdcp x keys).tx) (rest_ready bits b h) ∙ pdcp_tx_next e keys (ap is_am h.kind))

next_rx : (bits : ℕ) (b : State) (keys : Keys) → IsOfData bits b
    → restarted_receiving (hears Reestablished (all_joined b.rx) b.pdcp.rx) keys
    ≡ (restarted (stopped b) keys).pdcp.rx
next_rx bits b keys h =
    let e : Ends = record b.pdcp { rx = hears Reestablished (all_joined b.rx) b.pdcp.rx } in
    sym (ap (λ (x : Ends). x.rx) (restart_is b keys)
    ∙ ap (λ (x : Ends). (restarted_pdcp x keys).rx) (rest_ready bits b h) ∙ pdcp_rx_next e keys)

receiving_kind : (r : Receiving) (keys : Keys) → (restarted_receiving r keys).kind ≡ r.kind
unfolding restarted_receiving
receiving_kind r keys = refl

pub data_next : (bits : ℕ) (b d : State) (cs : List Call) (keys : Keys) → all_called b cs ≡ d → IsOfData bits b
    → IsOfData bits (restarted (stopped d) keys)
data_next bits b d cs keys q h =
    subst (λ (x : State). IsOfData bits (restarted (stopped x) keys)) q (next_life_begins bits b cs keys h).of_data

-- ---- the whole

module _ (pdcp_bits bits reorder : ℕ) (w : Way) (f : Flow) (j : Joins pdcp_bits w.from w.to f)
    (is : IsWay bits reorder w) (ok : AreAccepted w.from w.from_calls) (keys : Keys) where
  abbrev pub ended_flow : Flow
  ended_flow = happens (rest_up pdcp_bits bits reorder w f j is ok) (Restart keys)

  from_stays : IsOfData pdcp_bits w.from_end.bearer
  from_stays =
      subst (IsOfData pdcp_bits) is.from_is (hears_what_is_handed pdcp_bits w.from w.from_calls j.from_data).stays

  pub joins_next : Joins pdcp_bits (restarted (stopped w.from_end.bearer) keys)
      (restarted (stopped w.to_end.bearer) keys) ended_flow
  joins_next = record {
    sender_is = ap (λ (b : State). restarted_sending b.pdcp.tx keys) is.from_is
        ∙ next_tx pdcp_bits w.from_end.bearer keys from_stays;
    receiver_is =
        ap (λ (r : Receiving). restarted_receiving r keys) (receiver_rest pdcp_bits bits reorder w f j is ok)
        ∙ next_rx pdcp_bits w.to_end.bearer keys (to_stays pdcp_bits bits reorder w f j is ok);
    kind = receiving_kind (rest_up pdcp_bits bits reorder w f j is ok).receiver keys
        ∙ kind_rest pdcp_bits bits reorder w f j is ok;
    stream_is = refl;
    passed_is = refl;
    earlier_is = refl;
    from_data = data_next pdcp_bits w.from w.from_end.bearer w.from_calls keys is.from_is j.from_data;
    to_data = data_next pdcp_bits w.to w.to_end.bearer w.to_calls keys is.to_is j.to_data;
  }

  pub goes_next : FewBetween pdcp_bits 0 (last_places bits reorder w)
      → Goes f ended_flow (taken w) (ups_to_end w) (map (λ place. f.earlier + place) (last_places bits reorder w))
      (submitted w)
  goes_next few =
      let m = to_end pdcp_bits bits reorder w f j is ok few in
      record {
        events = m.events ++ Restart keys ∷ [];
        may = given_then m.events (Restart keys ∷ []) f m.may (tt, tt);
        short = short_then m.events (Restart keys ∷ []) f m.short (tt, tt);
        left = run_then m.events (Restart keys ∷ []) f ∙ ap (run_um_pdcp (Restart keys ∷ [])) m.left;
        sdus_are = m.sdus_are;
        ups_are = m.ups_are;
        handed_are = m.handed_are;
        submitted_is = submitted_then m.events (Restart keys ∷ []) ∙ append-nil (submitted_in (steps m.events))
            ∙ m.submitted_is;
      }
