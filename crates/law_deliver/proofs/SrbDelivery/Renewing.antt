-- A life of a signalling bearer ends, and both ends begin the next one.
use Rattle.std.proofs.Common.{◌≡◌, ◌≤◌, ℕ, Bool, List, [], ◌∷◌, map, refl, ap, sym, subst, ◌∙◌}
use Rattle.law_bearer.specs.AmBearer.Calls.{ups_among}
use Rattle.bearer_types.specs.declared.Event.TheVariants as events
use Rattle.bearer_types.specs.declared.BearerConfig.{BearerConfig}
use Rattle.l2_types.specs.declared.Kind.{Kind}
use Rattle.l2_types.specs.declared.Kind.TheVariants as kinds
use Rattle.l2_types.specs.declared.Lost.TheVariants as lost
use Rattle.l2_types.specs.declared.Side.{Side}
use Rattle.l2_types.specs.declared.Side.TheVariants.{Nb, Ue}
use Rattle.bearer_pdcp.specs.Ends.{Ends, begun, bearer_of}
use Rattle.bearer_pdcp.specs.Lives.{restarted as restarted_pdcp, report_of, owing_report}
use Rattle.bearer.specs.Acknowledged.Lives.{Ending, drops_last, ends_with, last_ups, stopped as am_stopped}
use Rattle.bearer.specs.Acknowledged.Lives.{stopping as am_stopping, restarted as am_restarted}
use Rattle.bearer.specs.Acknowledged.State.{State, with_new_rlc, fresh as fresh_am}
use Rattle.bearer.specs.Bearer.{flow_of}
use Rattle.bearer.specs.declared.flow.Flow.TheVariants.{Am}
use Rattle.bearer.specs.Lives.{stopped, stopping, restarted}
use Rattle.law_bearer.specs.AnyBearer.Calls.{Restart, goes as bearer_goes}
use Rattle.eps_sec.specs.declared.Keys.{Keys}
use Rattle.law_deliver.specs.AmFlow.Pair.{Pair, Step, goes, am_pair_outset}
use Rattle.pdcp_pdu.specs.declared.PdcpKind.{PdcpKind}
use Rattle.pdcp_pdu.specs.declared.PdcpKind.TheVariants.{Srb}
use Rattle.pdcp_pdu.specs.Kinds.{is_am}
use Rattle.pdcp_rx.specs.State.{restarted as restarted_receiving}
use Rattle.pdcp_tx.specs.State.{restarted as restarted_sending}
use Rattle.pdcp_sec.specs.Protection.{protection_of}
use Rattle.rlc_am_rx.specs.Machine.{finished}
use Rattle.law_pdcp.specs.SrbPair.Beginning.{BeginAnew}
use Rattle.law_pdcp.proofs.SrbPair.Beginning.{first_life, begins_anew}
use Rattle.promises.specs.Events.{losses}
use Rattle.law_deliver.specs.SrbDelivery.Life.{BothBegin, AreLived}
use Rattle.law_deliver.specs.SrbDelivery.Lives.{renewed_bearer, BeginsAnew, BothBeginAnew, AreBothEnds}
use Rattle.law_deliver.proofs.SrbDelivery.Joined.{Way}
use Rattle.law_deliver.proofs.SrbDelivery.Laws.{BothWays, way_there, way_back, lived}

-- ---- at an end

drops_none : (lcid : ℕ) (sdus : List (List ℕ)) → ups_among (map (λ sdu. events.Drop lcid lost.Handover) sdus) ≡ []
drops_none lcid [] = refl
drops_none lcid (sdu ∷ sdus) = drops_none lcid sdus

last_is : (b : State) → b.pdcp.kind ≡ Srb
    → last_ups b ≡ drops_last (finished b.rx) (record { pdcp = b.pdcp; events = [] })
last_is b k = ap (λ (a : Bool). ends_with a (finished b.rx) (record { pdcp = b.pdcp; events = [] })) (ap is_am k)

renewed_pdcp : (e : Ends) (keys : Keys) → e.kind ≡ Srb
    → restarted_pdcp e keys ≡ record e { tx = restarted_sending e.tx keys; rx = restarted_receiving e.rx keys }
unfolding restarted_pdcp
renewed_pdcp e keys k =
    ap (λ (x : PdcpKind). record e {
      tx = owing_report (report_of x e.rx) (restarted_sending e.tx keys);
      rx = restarted_receiving e.rx keys;
    }) k

pub renews_as : (b : State) (keys : Keys) → b.pdcp.kind ≡ Srb
    → bearer_goes (Am b) (Restart keys) ≡ Am (renewed_bearer b keys)
unfolding stopped restarted am_stopped am_restarted
renews_as b keys k =
    ap (λ (x : Ending). Am (with_new_rlc b.tx_config b.rx_config (restarted_pdcp x.pdcp keys))) (last_is b k)
    ∙ ap (λ (e : Ends). Am (with_new_rlc b.tx_config b.rx_config e)) (renewed_pdcp b.pdcp keys k)

pub none_up_at_the_end : (b : State) → b.pdcp.kind ≡ Srb → ups_among (stopping (Am b)) ≡ []
unfolding stopping am_stopping
none_up_at_the_end b k = ap (λ (x : Ending). ups_among x.events) (last_is b k) ∙ drops_none b.pdcp.lcid (finished b.rx)

drops_lose_none : (lcid : ℕ) (sdus : List (List ℕ)) → losses (map (λ sdu. events.Drop lcid lost.Handover) sdus) ≡ []
drops_lose_none lcid [] = refl
drops_lose_none lcid (sdu ∷ sdus) = drops_lose_none lcid sdus

none_lost_at_the_end : (b : State) → b.pdcp.kind ≡ Srb → losses (stopping (Am b)) ≡ []
unfolding stopping am_stopping
none_lost_at_the_end b k = ap (λ (x : Ending). losses x.events) (last_is b k)
    ∙ drops_lose_none b.pdcp.lcid (finished b.rx)

-- ---- at both ends

anew : (b : State) (keys : Keys) → b.pdcp.kind ≡ Srb → (renewed_bearer b keys).pdcp.tx.next ≡ 0
    → (renewed_bearer b keys).pdcp.rx.next ≡ 0 → BeginsAnew b keys
anew b keys k s r = record {
  left = renews_as b keys k;
  none_up = none_up_at_the_end b k;
  none_lost = none_lost_at_the_end b k;
  count = s;
  awaited = r;
}

pub both_anew : (there back : Way) (p : Pair) (ns fu fs nu : List (List ℕ)) (keys : Keys)
    → BothWays there back p ns fu fs nu → BothBeginAnew p.near.bearer p.far.bearer keys
both_anew there back p ns fu fs nu keys h =
    let near = p.near.bearer in
    let far = p.far.bearer in
    let o = h.out in
    let i = h.inn in
    let down : BeginAnew (restarted_sending near.pdcp.tx keys) (restarted_receiving far.pdcp.rx keys) =
    begins_anew there.first there.protection _ _ near.pdcp.tx far.pdcp.rx keys o.sends o.hears h.far_is.idle.raised in
    let up : BeginAnew (restarted_sending far.pdcp.tx keys) (restarted_receiving near.pdcp.rx keys) =
    begins_anew back.first back.protection _ _ far.pdcp.tx near.pdcp.rx keys i.sends i.hears h.near_is.idle.raised in
    record {
      near_anew = anew near keys h.near_is.kind down.anew (up.alike.awaited ∙ up.anew);
      far_anew = anew far keys h.far_is.kind up.anew (down.alike.awaited ∙ down.anew);
      both = record {
        near_kind = h.near_is.kind;
        far_kind = h.far_is.kind;
        near_life = record { sends = refl; hears = refl };
        far_life = record { sends = refl; hears = refl };
        there = down.alike;
        back = up.alike;
      };
    }

pub next_life : (near far : State) (steps : List Step) (keys : Keys) → BothBegin near far
    → AreLived (am_pair_outset near far) steps
    → BothBeginAnew (goes steps (am_pair_outset near far)).near.bearer
    (goes steps (am_pair_outset near far)).far.bearer keys
next_life near far steps keys h g =
    both_anew (way_there near far steps) (way_back near far steps) (goes steps (am_pair_outset near far)) _ _ _ _ keys
    (lived near far steps h g)

-- ---- the first life

same_bearer : (b d : State) → Am b ≡ Am d → b ≡ d
same_bearer b d e = cc

first_is : (c : BearerConfig) (keys : Keys) (side : Side) (b : State) → c.kind ≡ kinds.Srb
    → flow_of c.kind c keys side ≡ Am b → fresh_am c Srb keys side ≡ b
first_is c keys side b k q =
    same_bearer (fresh_am c Srb keys side) b (ap (λ (x : Kind). flow_of x c keys side) (sym k) ∙ q)

pub fresh_begin : (c : BearerConfig) (keys : Keys) → c.first ≤ 4294967296
    → BothBegin (fresh_am c Srb keys Nb) (fresh_am c Srb keys Ue)
unfolding fresh_am begun
fresh_begin c keys few = record {
  near_kind = refl;
  far_kind = refl;
  near_life = record { sends = refl; hears = refl };
  far_life = record { sends = refl; hears = refl };
  there = first_life (protection_of Srb keys (bearer_of c.channel.lcid) 1) c.first few;
  back = first_life (protection_of Srb keys (bearer_of c.channel.lcid) 0) c.first few;
}

pub first_life_begins : (c : BearerConfig) (keys : Keys) (nb ue : State) → AreBothEnds c keys nb ue → BothBegin nb ue
first_life_begins c keys nb ue h =
    subst (λ (x : State). BothBegin x ue) (first_is c keys Nb nb h.kind h.nb_is)
    (subst (BothBegin (fresh_am c Srb keys Nb)) (first_is c keys Ue ue h.kind h.ue_is) (fresh_begin c keys h.first))
