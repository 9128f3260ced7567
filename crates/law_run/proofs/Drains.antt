-- A drain leaves nothing undelivered.
use Rattle.std.proofs.Common.{◌≡◌, true, false, List, [], ◌∷◌, ap, sym, ◌∙◌}
use Rattle.std.proofs.lemmas.Bool.{and_parts}
use Rattle.air_link.specs.Draining.{is_drained}
use Rattle.air_link.specs.Link.{Link, end_of}
use Rattle.air_text.specs.Groups.{Group, history}
use Rattle.bearer_types.specs.declared.event.Event.{Event}
use Rattle.promises.specs.Records.{events_of}
use Rattle.law_deliver.specs.AmChannel.Delivery.{submitted_at}
use Rattle.law_deliver.specs.AmChannel.Drained.{has_failed}
use Rattle.promises.specs.Taken.{kept_of}
use Rattle.law_deliver.specs.AmChannel.Lives.{lives, end_at}
use Rattle.law_deliver.proofs.AmChannel.Drained.{drained_ends_have_delivered}
use Rattle.promises.specs.Events.{discards_on}
use Rattle.l2_node.specs.End.{End}
use Rattle.l2_node.specs.Sums.{is_drained as end_drained}
use Rattle.l2_types.specs.declared.side.Side.{Side}
use Rattle.l2_types.specs.declared.side.Side.TheVariants.{Nb, Ue}
use Rattle.law_node.specs.Holding.{flow}
use Rattle.law_run.specs.TwoEnds.On.{IsOn}
use Rattle.law_deliver.specs.AmFlow.Air.{Air}
use Rattle.promises.specs.Delivery.{is_forged}
use Rattle.promises.specs.Drained.{LeavesNothing, DrainsLeaveNothing}
use Rattle.law_run.specs.Order.{KeepsOrder}
use Rattle.law_run.proofs.Delivering.{alike, is_delivering, steps, start, tells, went_up_is, was_submitted_is}
use Rattle.law_run.proofs.DrainBegins.{none_forged}
use Rattle.law_run.proofs.DrainDone.{is_done}
use Rattle.law_run.proofs.Past.{link_behind}

-- ---- an end

pub side_drained : (side : Side) (k : Link) → is_drained k ≡ true → end_drained (end_of side k) ≡ true
side_drained Nb k e = (and_parts (end_drained k.nb) (end_drained k.ue) e).0
side_drained Ue k e = (and_parts (end_drained k.nb) (end_drained k.ue) e).1

pub end_is : (side : Side) (k : Link) (a : Air) → IsOn k a → end_at side a ≡ end_of side k
end_is Nb k a on = on.nb_is
end_is Ue k a on = on.ue_is

-- ---- so all is delivered

leaves_nothing : (past : List Group) → KeepsOrder past → is_drained (link_behind past) ≡ true → is_forged past ≡ false
    → LeavesNothing past
leaves_nothing past order done own from l c e kind unfailed =
    let d = is_delivering l past c order e own in
    let k = link_behind past in
    let xs = steps l c past d in
    let a = start l c past d in
    let here : end_at from (lives xs a) ≡ end_of from k = end_is from k (lives xs a) d.lived.by.on in
    let all =
    drained_ends_have_delivered l c d.keys d.nb d.ue from xs (alike l c past d kind) d.lived.by.living
    (ap end_drained here ∙ side_drained from k done) (ap (λ (x : End). has_failed (flow l x)) here
    ∙ (d.senders kind from).unfailed unfailed) in
    let sdus = was_submitted_is l c past d from in
    let up = sym (went_up_is l c past d from) in
    record {
      kept_are_up =
          up ∙ (all.kept ∙ ap (λ (events : List Event). kept_of l c.first events (submitted_at l from xs a))
          (tells l c past d from) ∙ ap (kept_of l c.first (events_of from (history past))) sdus);
      all_are_up = λ undiscarded. up ∙ all.submitted (ap (discards_on l) (tells l c past d from) ∙ undiscarded) ∙ sdus;
    }

pub drains_leave_nothing : (past : List Group) → KeepsOrder past → DrainsLeaveNothing past
drains_leave_nothing [] order = tt
drains_leave_nothing (g ∷ past) (right, order) = (
  λ d. leaves_nothing (g ∷ past) (right, order) (is_done past g right order d).drained
      (none_forged past g right order d),
  drains_leave_nothing past order,
)
