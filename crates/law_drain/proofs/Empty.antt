-- PDCP of a signalling bearer keeps nothing as a life begins.
use Rattle.std.proofs.Common.{◌≡◌, ◌<◌, ◌^◌, List, [], ◌++◌, length, refl, ap, ◌∙◌, arith}
use Rattle.bearer.specs.Acknowledged.State.{State, fresh as fresh_am}
use Rattle.bearer_pdcp.specs.Ends.{begun}
use Rattle.bearer_types.specs.declared.config.BearerConfig.{BearerConfig}
use Rattle.eps_sec.specs.declared.Keys.{Keys}
use Rattle.l2_types.specs.declared.side.Side.{Side}
use Rattle.pdcp_pdu.specs.declared.pdu.PdcpKind.{PdcpKind}
use Rattle.pdcp_pdu.specs.declared.pdu.PdcpKind.TheVariants.{Srb as SrbKind}
use Rattle.pdcp_rx.specs.State.{restarted as restarted_receiving}
use Rattle.pdcp_tx_store.specs.Given.{from_unacked, data_of}
use Rattle.pdcp_tx_store.specs.declared.given.Entry.{Entry}
use Rattle.pdcp_tx_store.specs.declared.given.Sent.{Sent}
use Rattle.pdcp_tx.specs.Pdus.{width}
use Rattle.pdcp_tx.specs.State.{State as PdcpState, start as start_pdcp, restarted as restarted_sending, kept_again}
use Rattle.pdcp_tx.specs.State.{next_from, waiting_on}
use Rattle.law_bearer.specs.AmBearer.Calls.{IsOfSignalling, IsIdle}
use Rattle.law_drain.specs.Signalling.{KeepsNone, RestartsEmpty}
use Rattle.law_drain.proofs.Standing.{anew, signalling-left}

pub signalling_begins_empty : (c : BearerConfig) (keys : Keys) (side : Side) → c.first < 2 ^ 32
    → KeepsNone (fresh_am c SrbKind keys side).pdcp.tx
unfolding fresh_am begun start_pdcp
signalling_begins_empty c keys side few = record {
  given = refl;
  again = refl;
  owed = refl;
  counts = omega (arith, few);
  bound = omega arith;
}

none-again : (s : PdcpState) → s.given.entries ≡ [] → s.again ≡ [] → kept_again s ≡ []
none-again s given again =
    ap (λ (es : List Entry). from_unacked (data_of es ++ s.again)) given
    ∙ ap (λ (ss : List Sent). from_unacked ss) again

restarted-none : (s : PdcpState) (keys : Keys) → s.kind ≡ SrbKind → KeepsNone s → KeepsNone (restarted_sending s keys)
unfolding restarted_sending
restarted-none s keys srb h =
    let next : next_from s.kind s.next ≡ 0 = ap (λ (k : PdcpKind). next_from k s.next) srb in
    let none : length (waiting_on s.kind s.waiting) ≡ 0 =
    ap (λ (k : PdcpKind). length (waiting_on k s.waiting)) srb in
    let wide : width s.kind ≡ 2 ^ 32 = ap width srb in
    record {
      given = refl;
      again = none-again s h.given h.again;
      owed = refl;
      counts = omega (arith, next, none);
      bound = omega (arith, wide);
    }

pub signalling_goes_on_empty : (b : State) (keys : Keys) → IsOfSignalling b → IsIdle b → KeepsNone b.pdcp.tx
    → RestartsEmpty b keys
unfolding restarted_sending restarted_receiving
signalling_goes_on_empty b keys h idle keeps = record {
  bearer = anew b keys;
  left = signalling-left b keys h.kind;
  kind = record { kind = h.kind; sending = h.sending; receiving = h.receiving };
  idle = record { heard = refl; raised = idle.raised; confirmed = refl };
  keeps = restarted-none b.pdcp.tx keys h.sending keeps;
}
