use Rattle.std.proofs.Common.{◌≡◌, List, IsTrue, IfOk, rules, ap, subst, sym, ◌∙◌, slice_index_or}
use Rattle.bearer.specs.Bearer.{Of, Life}
use Rattle.bearer.specs.Hearing.{expiry as flow_expiry}
use Rattle.l2_node.specs.End.{End}
use Rattle.l2_node.specs.Finding.{find}
use Rattle.l2_node.specs.Hearing.{bearer_of, expiry, expired}
use Rattle.l2_node.proofs.Idle.{found, idle_if_ok}
use Rattle.l2_node.proofs.end.End.expire.Goals as goal

pub returns-clause-idle : goal.returns-clause-idle
unfolding expiry expired
returns-clause-idle c =
    let read = c.index_mut-bearer.result.now in
    let items : c.self.inside.bearers.items ≡ c.args.self.now.bearers = ap (λ (e : End). e.bearers) c.self.view_is in
    let place = c.find-at.ensures.find ∙ ap (find c.args.lcid) (c.as_slice.ensures.value ∙ items) in
    let here = subst (λ (bs : List (Of Life)). read ≡ slice_index_or bs c.find-at.result read) items
    c.index_mut-bearer.ensures.value in
    let same : bearer_of c.args.lcid c.args.self.now ≡ read =
    found c.args.lcid c.args.self.now.bearers c.find-at.result read place c.requires here in
    idle_if_ok c.args.lcid c.args.clock c.args.self.now _ c.expire.result
    (λ dead. c.expire.ensures.dead (subst (λ (b : Of Life). IsTrue b.state.dead) same dead))
    (subst (λ (b : Of Life). IfOk c.expire.result (λ events. events ≡ flow_expiry b.state.flow c.args.clock))
    (sym same) c.expire.ensures.told)
    (search rules)
