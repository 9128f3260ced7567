-- A life begins with entities of RLC that begin.
use Rattle.std.proofs.Common.{◌≡◌, ℕ, List, [], ◌∷◌, refl, ap, subst, ◌∙◌}
use Rattle.bearer_types.specs.declared.BearerConfig.{BearerConfig}
use Rattle.eps_sec.specs.declared.Keys.{Keys}
use Rattle.l2_types.specs.declared.Side.{Side}
use Rattle.pdcp_rx.specs.State.{fresh as fresh_receiving, restarted as restarted_receiving}
use Rattle.bearer_pdcp.specs.Ends.{Ends, begun}
use Rattle.bearer_pdcp.specs.Lives.{restarted as restarted_pdcp}
use Rattle.bearer.specs.Unacknowledged.State.{State, fresh}
use Rattle.bearer.specs.Unacknowledged.Lives.{stopped, restarted}
use Rattle.law_bearer.specs.AnyBearer.Calls.{Call}
use Rattle.law_deliver.specs.UmFlow.Pair.{called}
use Rattle.law_deliver.specs.UmFlow.Handing.{IsOfData, all_called}
use Rattle.law_deliver.specs.UmFlow.Lives.{BeginsLife, IsAdded, BeginsAgain}
use Rattle.law_deliver.proofs.UmFlow.Sending.{IsSetAlike, stays_set}
use Rattle.law_deliver.proofs.UmFlow.Handing.{hears_what_is_handed, rest_ready, still_idle}

pub first_life_begins : (c : BearerConfig) (keys : Keys) (side : Side) → IsAdded c (fresh c keys side)
unfolding fresh begun fresh_receiving
first_life_begins c keys side = record {
  begins = record { bits_are = refl; sends = refl; receives = refl };
  of_data = record { kind = refl; idle = refl };
}

-- ---- the next life

all_stay_set : (b : State) (cs : List Call) → IsSetAlike b (all_called b cs)
all_stay_set b [] = record { bits_are = refl; reorder_is = refl }
all_stay_set b (c ∷ cs) =
    let one = stays_set b c in
    let rest = all_stay_set (called b c) cs in
    record { bits_are = rest.bits_are ∙ one.bits_are; reorder_is = rest.reorder_is ∙ one.reorder_is }

pub begins_anew : (b : State) (keys : Keys) → BeginsLife b.bits b.reorder (restarted (stopped b) keys)
unfolding restarted stopped
begins_anew b keys = record { bits_are = refl; sends = refl; receives = refl }

pdcp_anew : (e : Ends) (keys : Keys) → ((restarted_pdcp e keys).kind ≡ e.kind)
    × ((restarted_pdcp e keys).rx.ready ≡ e.rx.ready)
unfolding restarted_pdcp restarted_receiving
pdcp_anew e keys = (refl, refl)

data_anew : (bits : ℕ) (b : State) (keys : Keys) → IsOfData bits b → IsOfData bits (restarted (stopped b) keys)
unfolding restarted
data_anew bits b keys h =
    let p = pdcp_anew (stopped b).pdcp keys in
    record { kind = p.0 ∙ ap (λ (e : Ends). e.kind) (rest_ready bits b h) ∙ h.kind; idle = p.1 ∙ still_idle bits b h }

pub next_life_begins : (pdcp_bits : ℕ) (b : State) (cs : List Call) (keys : Keys) → IsOfData pdcp_bits b
    → BeginsAgain b.bits b.reorder pdcp_bits (restarted (stopped (all_called b cs)) keys)
next_life_begins pdcp_bits b cs keys h =
    let d : State = all_called b cs in
    let set = all_stay_set b cs in
    let next : State = restarted (stopped d) keys in
    record {
      begins = subst (λ (n : ℕ). BeginsLife n b.reorder next) set.bits_are
          (subst (λ (n : ℕ). BeginsLife d.bits n next) set.reorder_is (begins_anew d keys));
      of_data = data_anew pdcp_bits d keys (hears_what_is_handed pdcp_bits b cs h).stays;
    }
