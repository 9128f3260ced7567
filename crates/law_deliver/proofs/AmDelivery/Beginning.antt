-- Both ends begin their first life as two ways on which nothing has happened.
use Rattle.std.proofs.Common.{◌≡◌, ℕ, Bool, true, false, [], refl, sym, subst, arith}
use Rattle.bearer.specs.Acknowledged.State.{State}
use Rattle.bearer_types.specs.Configs.{ArePdcpBits}
use Rattle.bearer_types.specs.declared.BearerConfig.{BearerConfig}
use Rattle.eps_sec.specs.declared.Keys.{Keys}
use Rattle.l2_types.specs.declared.Kind.{Kind}
use Rattle.l2_types.specs.declared.Kind.TheVariants as kinds
use Rattle.l2_types.specs.declared.Side.TheVariants.{Nb, Ue}
use Rattle.pdcp_pdu.specs.declared.PdcpKind.TheVariants.{Am as AmKind}
use Rattle.pdcp_pdu.specs.Kinds.{IsKind}
use Rattle.pdcp_sec.specs.Protection.{Protection}
use Rattle.pdcp_tx.specs.State.{start as start_sending}
use Rattle.law_bearer.specs.AmBearer.Lives.{AmPdcpBeginAlike, BeginsAs, protection_at}
use Rattle.law_bearer.proofs.AmBearer.Lives.{first_life_begins, ends_begin_alike}
use Rattle.law_rlc.specs.AmPair.Arrives.{arrives}
use Rattle.law_rlc.specs.AmPair.Flow.{am_rlc_outset}
use Rattle.law_rlc.proofs.AmPair.Laws.{arrived-was-offered}
use Rattle.l2_types.specs.declared.config.AmTxConfig.{AmTxConfig}
use Rattle.l2_types.specs.declared.AmRxConfig.{AmRxConfig}
use Rattle.law_deliver.specs.AmFlow.Pair.{begins, am_pair_outset}
use Rattle.law_deliver.specs.AmDelivery.Delivery.{AreBothEnds}
use Rattle.law_deliver.proofs.AmDelivery.Joined.{Way, IsWay, Joins, Reports, JoinedPair}

-- nothing has arrived
pub none_arrives : (sending : AmTxConfig) (receiving : AmRxConfig) (k : ℕ) (b : Bool)
    → arrives (am_rlc_outset sending receiving) k ≡ b → false ≡ b
none_arrives sending receiving k true e = absurd (omega (arith, arrived-was-offered sending receiving [] tt k e))
none_arrives sending receiving k false e = refl

abbrev pub first_way : BearerConfig → Protection → Way
first_way c p = record {
  bits = c.pdcp_bits;
  protection = p;
  first = c.first;
  events = [];
  sending = c.tx;
  receiving = c.rx;
  steps = [];
}

kind_is : (kind : Kind) (bits : ℕ) → kind ≡ kinds.Am → ArePdcpBits kind bits → IsKind (AmKind bits)
kind_is kind bits k h = subst (λ (x : Kind). ArePdcpBits x bits) k h

first_is_way : (c : BearerConfig) (keys : Keys) (nb ue : State) (p : Protection) → AreBothEnds c keys nb ue
    → IsWay (first_way c p)
first_is_way c keys nb ue p h =
    record {
      kind = kind_is c.kind c.pdcp_bits h.kind h.config.pdcp_bits;
      first = omega (arith, h.first);
      events = tt;
      steps = tt;
    }

first_joins : (c : BearerConfig) (p : Protection) (from to : State) → AmPdcpBeginAlike c.pdcp_bits p c.first from to
    → BeginsAs c from → BeginsAs c to
    → Joins (first_way c p) (begins from) (begins to)
first_joins c p from to h f t = record {
  rlc_is = record {
    sender_is = sym f.tx;
    receiver_is = sym t.rx;
    copies_are = refl;
    reports_are = refl;
    busy_is = refl;
  };
  sender_is = sym h.sender;
  receiver_is = sym h.receiver;
  stream_is = refl;
  passed_is = refl;
  whole_is = λ k. none_arrives c.tx c.rx k (arrives (am_rlc_outset c.tx c.rx) k) refl;
}

-- none is owed
first_reports : (c : BearerConfig) (p q : Protection) → Reports (first_way c p) (first_way c q)
unfolding start_sending
first_reports c p q = record { owed = λ r e. cc; sent = tt }

pub begins_joined : (c : BearerConfig) (keys : Keys) (nb ue : State) → AreBothEnds c keys nb ue
    → JoinedPair c.pdcp_bits (first_way c (protection_at c keys Nb)) (first_way c (protection_at c keys Ue))
    (am_pair_outset nb ue)
begins_joined c keys nb ue h =
    let near = first_life_begins c keys Nb nb h.kind h.nb_is in
    let far = first_life_begins c keys Ue ue h.kind h.ue_is in
    record {
      down_is = first_is_way c keys nb ue (protection_at c keys Nb) h;
      up_is = first_is_way c keys nb ue (protection_at c keys Ue) h;
      down_bits = refl;
      up_bits = refl;
      down_joins =
          first_joins c (protection_at c keys Nb) nb ue (ends_begin_alike c keys Nb nb ue h.kind h.nb_is h.ue_is) near
          far;
      up_joins =
          first_joins c (protection_at c keys Ue) ue nb (ends_begin_alike c keys Ue ue nb h.kind h.ue_is h.nb_is) far
          near;
      down_reports = first_reports c (protection_at c keys Nb) (protection_at c keys Ue);
      up_reports = first_reports c (protection_at c keys Ue) (protection_at c keys Nb);
      near_data = near.stays;
      far_data = far.stays;
      near_idle = near.idle;
      far_idle = far.idle;
    }
