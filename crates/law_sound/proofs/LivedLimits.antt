-- A bearer keeps its limit of retransmissions, through all lives.
use Rattle.std.proofs.Common.{◌≡◌, ℕ, [], ◌∷◌, ap, sym, ◌∙◌}
use Rattle.bearer.specs.Acknowledged.State.{State, fresh as fresh_am}
use Rattle.bearer.specs.Bearer.{flow_of}
use Rattle.bearer.specs.declared.flow.Flow.{Flow}
use Rattle.bearer.specs.declared.flow.Flow.TheVariants.{Am}
use Rattle.bearer_types.specs.declared.config.BearerConfig.{BearerConfig}
use Rattle.l2_node.specs.End.{End}
use Rattle.l2_types.specs.declared.Kind.{Kind}
use Rattle.l2_types.specs.declared.Kind.TheVariants as kinds
use Rattle.l2_types.specs.declared.side.Side.{Side}
use Rattle.l2_types.specs.declared.side.Side.TheVariants.{Nb, Ue}
use Rattle.pdcp_pdu.specs.declared.PdcpKind.TheVariants as pdcp
use Rattle.law_bearer.specs.AnyBearer.Calls.{Restart, goes as bearer_goes}
use Rattle.law_bearer.proofs.AnyBearer.Sendings.{begins_anew}
use Rattle.law_drain.proofs.Left.{config-is}
use Rattle.law_node.specs.Calls.{Move, after}
use Rattle.law_node.specs.Holding.{flow}
use Rattle.law_deliver.specs.AmChannel.Lives.{InLife, Moves, lives_on}
use Rattle.law_deliver.specs.AmFlow.Air.{Air, happens}
use Rattle.law_deliver.specs.AmFlow.Carrying.{carries_none}
use Rattle.law_deliver.proofs.AmFlow.Ups.{Stands, the_end}
use Rattle.law_run.proofs.DrainFlows.{bearers_stand}
use Rattle.law_sound.specs.LivedHistories.{AreLived, Moment}
use Rattle.law_sound.specs.LivedLimits.{AreLimits, LimitsBegin, LimitsStay}
use Rattle.law_sound.proofs.LivedFails.{same_limit, stands_new, lived_there}
use Rattle.law_sound.proofs.LivedHistories.{lives_go_on_beside, moves_begin_beside}
use Rattle.law_sound.proofs.MovingFails.{lives_come_new}

-- ---- of a bearer

first_limit : (k : Kind) (c : BearerConfig) (keys : _) (side : Side) (b : State) → flow_of k c keys side ≡ Am b
    → b.tx.config.max_retx ≡ c.tx.max_retx
unfolding fresh_am
first_limit kinds.Tm c keys side b is = absurd cc
first_limit kinds.Srb c keys side b is =
    let same : fresh_am c pdcp.Srb keys side ≡ b = cc in
    ap (λ (x : State). x.tx.config.max_retx) (sym same)
first_limit kinds.Um c keys side b is = absurd cc
first_limit kinds.Am c keys side b is =
    let same : fresh_am c (pdcp.Am c.pdcp_bits) keys side ≡ b = cc in
    ap (λ (x : State). x.tx.config.max_retx) (sym same)

-- of an end, as it moves
moved_limit : (side : Side) (l : ℕ) (e : End) (keys : _) (b d : State) → Stands side l e → flow l e ≡ Am b
    → flow l (after e (Move keys)) ≡ Am d → d.tx.config.max_retx ≡ b.tx.config.max_retx
moved_limit side l e keys b d s p q =
    let come = s.come in
    let there = bearers_stand side e l b (record {
      maximum = come.maximum;
      reports = come.reports;
      calls = come.past;
      given = come.given;
      end_is = come.end_is;
    }) p in
    let again : bearer_goes (Am b) (Restart keys) ≡ Am d =
    ap (λ (f : Flow). bearer_goes f (Restart keys)) (sym p) ∙ (sym (the_end side l e keys s).bearer_is ∙ q) in
    ap (λ x. x.config.max_retx) (begins_anew b d keys again)
    ∙ ap (λ c. c.max_retx) (sym (config-is b there.lived))

-- ---- of both ends

limits_at : (most l : ℕ) (a : Air) (m n : Moment) (h : AreLived l a m.pdus m.down m.up)
    → (k : AreLived l a n.pdus n.down n.up) → AreLimits most h.nb_bearer h.ue_bearer
    → AreLimits most k.nb_bearer k.ue_bearer
limits_at most l a m n h k are =
    let f = h.air.by_air.flows in
    let g = k.air.by_air.flows in
    record {
      nb_is = same_limit (flow l a.nb.end) g.down.from_bearer f.down.from_bearer _ _ g.down.from_is f.down.from_is
          k.beside.by_nb.follows.most_is (h.beside.by_nb.follows.most_is ∙ are.nb_is);
      ue_is = same_limit (flow l a.ue.end) g.up.from_bearer f.up.from_bearer _ _ g.up.from_is f.up.from_is
          k.beside.by_ue.follows.most_is (h.beside.by_ue.follows.most_is ∙ are.ue_is);
    }

pub limits_stay : LimitsStay
limits_stay most l [] a m last new living h k are = limits_at most l a m last h k are
limits_stay most l (InLife s ∷ xs) a m last new living h k are =
    let o = lives_go_on_beside l a s m.pdus m.down m.up h living.0 in
    let next = o.lived.air.by_air.flows in
    limits_stay most l xs (happens a s) (record { pdus = _; down = _; up = _ }) last
    (lives_come_new l (InLife s ∷ []) a new (living.0, tt)) living.1 o.lived k
    (record {
      nb_is = same_limit (flow l (happens a s).nb.end) next.down.from_bearer o.behind.down.from_bearer _ _
          next.down.from_is o.behind.down.from_is o.lived.beside.by_nb.follows.most_is
          (o.go_on.by_nb.ends.follows.most_is ∙ are.nb_is);
      ue_is = same_limit (flow l (happens a s).ue.end) next.up.from_bearer o.behind.up.from_bearer _ _
          next.up.from_is o.behind.up.from_is o.lived.beside.by_ue.follows.most_is
          (o.go_on.by_ue.ends.follows.most_is ∙ are.ue_is);
    })
limits_stay most l (Moves keys ∷ xs) a m last new living h k are =
    let n = moves_begin_beside l a m.pdus m.down m.up keys h in
    let there = lived_there l a m h in
    let was = h.air.by_air.flows in
    let next = n.air.by_air.flows in
    limits_stay most l xs (lives_on a (Moves keys)) (record { pdus = carries_none; down = []; up = [] }) last
    (lives_come_new l (Moves keys ∷ []) a new (tt, tt)) living.1 n k
    (record {
      nb_is = sym n.beside.by_nb.follows.most_is
          ∙ (moved_limit Nb l a.nb.end keys was.down.from_bearer next.down.from_bearer
          (stands_new Nb l a.nb.end new.nb there.nb) was.down.from_is next.down.from_is
          ∙ (h.beside.by_nb.follows.most_is ∙ are.nb_is));
      ue_is = sym n.beside.by_ue.follows.most_is
          ∙ (moved_limit Ue l a.ue.end keys was.up.from_bearer next.up.from_bearer
          (stands_new Ue l a.ue.end new.ue there.ue) was.up.from_is next.up.from_is
          ∙ (h.beside.by_ue.follows.most_is ∙ are.ue_is));
    })

pub limits_begin : LimitsBegin
limits_begin l c keys a m nb ue h =
    let f = h.air.by_air.flows in
    record {
      nb_is = sym h.beside.by_nb.follows.most_is
          ∙ first_limit c.kind c keys Nb f.down.from_bearer (sym nb.bearer_is ∙ f.down.from_is);
      ue_is = sym h.beside.by_ue.follows.most_is
          ∙ first_limit c.kind c keys Ue f.up.from_bearer (sym ue.bearer_is ∙ f.up.from_is);
    }
