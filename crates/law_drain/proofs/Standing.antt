-- A bearer stands between two of its calls, from its first life on and through lives.
use Rattle.std.proofs.Common.{◌≡◌, inl, inr, ℕ, Bool, [], refl, ap, sym, subst, ◌∙◌}
use Rattle.eps_sec.specs.declared.Keys.{Keys}
use Rattle.l2_types.specs.declared.side.Side.{Side}
use Rattle.pdcp_pdu.specs.Kinds.{is_am}
use Rattle.pdcp_pdu.specs.declared.pdu.PdcpKind.TheVariants.{Am as AmKind, Srb as SrbKind}
use Rattle.pdcp_rx.specs.State.{report, restarted as restarted_receiving, fresh as fresh_receiving}
use Rattle.pdcp_tx.specs.Runs.{Owe}
use Rattle.pdcp_tx.specs.State.{start as start_pdcp, restarted as restarted_sending}
use Rattle.rlc_am_rx.specs.Machine.{finished}
use Rattle.rlc_am_tx.specs.Machine.{start}
use Rattle.bearer_pdcp.specs.Ends.{Ends, begun}
use Rattle.bearer_pdcp.specs.Lives.{restarted as restarted_pdcp}
use Rattle.bearer_types.specs.declared.config.BearerConfig.{BearerConfig}
use Rattle.bearer.specs.Acknowledged.Lives.{ends_with, stopped as am_stopped, restarted as am_restarted}
use Rattle.bearer.specs.Acknowledged.State.{State, with_new_rlc, fresh as fresh_am}
use Rattle.bearer.specs.Lives.{stopped, restarted}
use Rattle.bearer.specs.declared.flow.Flow.TheVariants.{Am}
use Rattle.law_pdcp.specs.OneEnd.Lives.{Calls, Restart as RestartPdcp}
use Rattle.law_bearer.specs.AnyBearer.Calls.{Restart, goes}
use Rattle.law_bearer.specs.AmBearer.Calls.{IsOfData, IsOfSignalling, IsIdle}
use Rattle.law_bearer.specs.AmBearer.Lives.{restarts, closed}
use Rattle.law_bearer.proofs.AmBearer.Lives.{restarts_are_deeds}
use Rattle.law_drain.specs.Done.{nothing_given}
use Rattle.law_drain.specs.Ends.{HasLived, IsOfAny, Stands}
use Rattle.law_drain.proofs.BearerQuiet.{HasGiven, deeds-given, given-step}

-- ---- a life begins

-- PDCP's sender having come to it through any lives
begins : (b : State) → IsOfAny b → IsIdle b → b.tx ≡ start b.tx_config → b.pdcp.tx.given ≡ nothing_given
    → HasGiven b.pdcp.tx → Stands b
begins b kind idle new nothing h = record {
  kind = kind;
  idle = idle;
  lived = record {
    origin = b;
    kind = h.kind;
    protection = h.p;
    first = h.first;
    past = h.steps;
    given = sym h.is;
    begins = new;
    nothing = nothing;
    deeds = [];
    life = tt;
    octets = tt;
    is = refl;
  };
}

pub data-stands : (c : BearerConfig) (bits : ℕ) (keys : Keys) (side : Side)
    → Stands (fresh_am c (AmKind bits) keys side)
unfolding fresh_am begun start_pdcp fresh_receiving
data-stands c bits keys side =
    begins (fresh_am c (AmKind bits) keys side) (inl (bits, record { kind = refl; sending = refl; receiving = refl }))
    (record { heard = refl; raised = refl; confirmed = refl }) refl refl
    (record { kind = AmKind bits; p = _; first = c.first; steps = []; is = refl })

pub signalling-stands : (c : BearerConfig) (keys : Keys) (side : Side) → Stands (fresh_am c SrbKind keys side)
unfolding fresh_am begun start_pdcp fresh_receiving
signalling-stands c keys side =
    begins (fresh_am c SrbKind keys side) (inr (record { kind = refl; sending = refl; receiving = refl }))
    (record { heard = refl; raised = refl; confirmed = refl }) refl refl
    (record { kind = SrbKind; p = _; first = c.first; steps = []; is = refl })

-- ---- and the next one

gave : (b : State) → HasLived b → HasGiven b.pdcp.tx
gave b h =
    subst (λ (d : State). HasGiven d.pdcp.tx) h.is
    (deeds-given h.deeds h.origin
    (record { kind = h.kind; p = h.protection; first = h.first; steps = h.past; is = sym h.given }))

pub record StandsAnew (b : State) (keys : Keys) : Type 0 where
  pub bearer : State
  pub left : goes (Am b) (Restart keys) ≡ Am bearer
  pub stands : Stands bearer

data-anew : (bits : ℕ) (b : State) (keys : Keys) → IsOfData bits b → IsIdle b → HasLived b → StandsAnew b keys
unfolding restarted_sending
data-anew bits b keys h idle lived =
    let x = restarts_are_deeds bits b keys h idle in
    record {
      bearer = restarts b keys;
      left = x.left;
      stands = begins (restarts b keys) (inl (bits, x.stays)) x.idle refl refl
          (given-step (restarted_sending b.pdcp.tx keys) (Calls (Owe (report (closed b))))
          (given-step b.pdcp.tx (RestartPdcp keys) (gave b lived)));
    }

abbrev pub anew : State → Keys → State
anew b keys = with_new_rlc b.tx_config b.rx_config (record b.pdcp {
  tx = restarted_sending b.pdcp.tx keys;
  rx = restarted_receiving b.pdcp.rx keys;
})

signalling-restarts : (e : Ends) (keys : Keys) → e.kind ≡ SrbKind → restarted_pdcp e keys
    ≡ record e { tx = restarted_sending e.tx keys; rx = restarted_receiving e.rx keys }
unfolding restarted_pdcp
signalling-restarts e keys srb = rw srb refl

pub signalling-left : (b : State) (keys : Keys) → b.pdcp.kind ≡ SrbKind
    → goes (Am b) (Restart keys) ≡ Am (anew b keys)
unfolding stopped restarted am_stopped am_restarted
signalling-left b keys srb =
    let none : is_am b.pdcp.kind ≡ is_am SrbKind = ap is_am srb in
    ap (λ (t : Bool). Am (with_new_rlc b.tx_config b.rx_config
    (restarted_pdcp (ends_with t (finished b.rx) (record { pdcp = b.pdcp; events = [] })).pdcp keys))) none
    ∙ ap (λ (e : Ends). Am (with_new_rlc b.tx_config b.rx_config e)) (signalling-restarts b.pdcp keys srb)

signalling-anew : (b : State) (keys : Keys) → IsOfSignalling b → IsIdle b → HasLived b → StandsAnew b keys
unfolding restarted_sending restarted_receiving
signalling-anew b keys h idle lived = record {
  bearer = anew b keys;
  left = signalling-left b keys h.kind;
  stands = begins (anew b keys)
      (inr (record { kind = h.kind; sending = h.sending; receiving = h.receiving }))
      (record { heard = refl; raised = idle.raised; confirmed = refl }) refl refl
      (given-step b.pdcp.tx (RestartPdcp keys) (gave b lived));
}

pub stands-anew : (b : State) (keys : Keys) → Stands b → StandsAnew b keys
stands-anew b keys h = elim h.kind [
  | inl data' ↦ data-anew data'.0 b keys data'.1 h.idle h.lived
  | inr signalling ↦ signalling-anew b keys signalling h.idle h.lived
]
