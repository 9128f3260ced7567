-- On each channel at most 1024 SDUs wait.
use Rattle.std.proofs.Common.{◌≡◌, ◌≤◌, ◌⊎◌, inl, inr, ℕ, ◌+◌, ◌-◌, false, List, [], ◌∷◌, length, map, arith, ap, sym}
use Rattle.std.proofs.Common.{subst, ◌∙◌}
use Rattle.std.proofs.lemmas.List.{length-append, length-map}
use Rattle.air_link.specs.Link.{Link, end_of}
use Rattle.air_record.specs.declared.record.Record.{Record}
use Rattle.air_text.specs.Groups.{Group, history}
use Rattle.bearer.specs.declared.flow.Flow.{Flow}
use Rattle.bearer.specs.declared.flow.Flow.TheVariants.{Tm, Um, Am}
use Rattle.bearer_types.specs.declared.config.BearerConfig.{BearerConfig}
use Rattle.bearer_types.specs.declared.event.Event.{Event}
use Rattle.l2_node.specs.End.{End, fresh}
use Rattle.l2_node.specs.Finding.{find, bearer_at}
use Rattle.l2_types.specs.declared.channel.Kind.{Kind}
use Rattle.l2_types.specs.declared.channel.Kind.TheVariants as kinds
use Rattle.l2_types.specs.declared.side.Side.{Side}
use Rattle.l2_types.specs.declared.side.Side.TheVariants.{Nb, Ue}
use Rattle.law_run.specs.AnyCalls.Ends.{ByCalls}
use Rattle.law_bearer.specs.AnyBearer.Calls.{ends}
use Rattle.law_bearer.specs.AnyBearer.Queue.{queue}
use Rattle.law_run.specs.TwoEnds.On.{IsOn}
use Rattle.law_deliver.specs.AmChannel.Lives.{lives, end_at}
use Rattle.law_deliver.specs.AmFlow.Air.{Air}
use Rattle.law_deliver.proofs.AmChannel.Delivery.{channels_tell_what_waits}
use Rattle.law_node.specs.Holding.{flow}
use Rattle.law_node.proofs.Keeping.{AllAre, at_is, reached_are}
use Rattle.law_node.proofs.Queueing.{HasFewWaiting, few_kept, waits_in}
use Rattle.promises.specs.Flows.{submitted}
use Rattle.promises.specs.Limits.{gone, FewWait, FewSignalsWait, QueuesAreShort}
use Rattle.promises.specs.Records.{events_of}
use Rattle.promises.specs.Signalling.{submitted_since}
use Rattle.promises.specs.Taken.{leaves, lengths_on}
use Rattle.promises.specs.Takes.{left_since}
use Rattle.law_run.specs.Order.{KeepsOrder}
use Rattle.law_run.proofs.Delivering.{IsDelivering, steps, start, alike, is_delivering, tells, was_submitted_is}
use Rattle.law_run.proofs.Past.{link_behind}
use Rattle.law_run.proofs.Reaching.{come_by_calls}
use Rattle.law_run.proofs.Renewed.{is_renewed, queue_since, steps as life_steps, start as life_start}
use Rattle.law_run.proofs.Taking.{queue_told}

few_waits : (lcid : ℕ) (f : Flow) → HasFewWaiting lcid f → length (waits_in f) ≤ 1024
few_waits lcid (Tm b) h = h.1
few_waits lcid (Um b) h = let same = length-map b.pdcp.tx.waiting (λ w. w.sdu) in omega (arith, same, h.0)
few_waits lcid (Am b) h = let same = length-map b.pdcp.tx.waiting (λ w. w.sdu) in omega (arith, same, h.0)

-- those of PDCP
few_queue : (f : Flow) → length (waits_in f) ≤ 1024 → length (queue (ends f)) ≤ 1024
few_queue (Tm b) h = omega arith
few_queue (Um b) h = h
few_queue (Am b) h = h

-- an end that has come by calls
come_few : (side : Side) (told : List Record) (e : End) → ByCalls side told (fresh side 4 false) e
    → AllAre HasFewWaiting e.bearers
come_few side told e k =
    subst (λ (x : End). AllAre HasFewWaiting x.bearers) (sym k.end_is)
    (reached_are HasFewWaiting few_kept side 4 false k.calls k.given)

few_come : (l : ℕ) (e : End) → AllAre HasFewWaiting e.bearers → length (waits_in (flow l e)) ≤ 1024
few_come l e h =
    few_waits (bearer_at e.bearers (find l e.bearers)).channel.lcid (flow l e)
    (at_is HasFewWaiting e.bearers (find l e.bearers) few_kept h)

few_behind : (side : Side) (l : ℕ) (past : List Group) → KeepsOrder past
    → length (waits_in (flow l (end_of side (link_behind past)))) ≤ 1024
few_behind Nb l past order =
    few_come l (link_behind past).nb (come_few Nb (history past) (link_behind past).nb (come_by_calls past order).nb)
few_behind Ue l past order =
    few_come l (link_behind past).ue (come_few Ue (history past) (link_behind past).ue (come_by_calls past order).ue)

-- where both ends of a channel are
end_is : (side : Side) (k : Link) (a : Air) → IsOn k a → end_at side a ≡ end_of side k
end_is Nb k a on = on.nb_is
end_is Ue k a on = on.ue_is

few_at : (side : Side) (l : ℕ) (past : List Group) (a : Air) → KeepsOrder past → IsOn (link_behind past) a
    → length (waits_in (flow l (end_at side a))) ≤ 1024
few_at side l past a order on =
    subst (λ (x : End). length (waits_in (flow l x)) ≤ 1024) (sym (end_is side (link_behind past) a on))
    (few_behind side l past order)

few_left : (all gone waits : ℕ) → all ≡ gone + waits → waits ≤ 1024 → all - gone ≤ 1024
few_left all gone waits q few = omega (arith, q, few)

module _ (l : ℕ) (c : BearerConfig) (past : List Group) (order : KeepsOrder past) (d : IsDelivering l c past)
    (side : Side) where
  -- what waits at the end
  abbrev waits : List (List ℕ)
  waits = queue (ends (flow l (end_at side (lives (steps l c past d) (start l c past d)))))

  few : length waits ≤ 1024
  few =
      let a = lives (steps l c past d) (start l c past d) in
      few_queue (flow l (end_at side a)) (few_at side l past a order d.lived.by.on)

  am_gone : c.kind ≡ kinds.Am → length (submitted side l past)
      ≡ gone c.kind l c.first (events_of side (history past)) + length waits
  am_gone kind =
      ap (λ (sdus : List (List ℕ)). length sdus) (sym (was_submitted_is l c past d side))
      ∙ (channels_tell_what_waits l c d.keys d.nb d.ue side (steps l c past d) (alike l c past d kind) d.lived.by.living
      ∙ (ap (λ (es : List Event). length (leaves l c.first es) + length waits) (tells l c past d side)
      ∙ ap (λ (k : Kind). gone k l c.first (events_of side (history past)) + length waits) (sym kind)))

  um_gone : c.kind ≡ kinds.Um → length (submitted side l past)
      ≡ gone c.kind l c.first (events_of side (history past)) + length waits
  um_gone kind =
      let told = lengths_on l (events_of side (history past)) in
      let all = ap (λ (ns : List ℕ). length ns) (queue_told l c past d side kind) in
      let parts = length-append told (map length waits) in
      let one = length-map waits length in
      let two = length-map (submitted side l past) length in
      let sum : length (submitted side l past) ≡ length told + length waits = omega (arith, all, parts, one, two) in
      sum ∙ ap (λ (k : Kind). gone k l c.first (events_of side (history past)) + length waits) (sym kind)

  any_gone : (c.kind ≡ kinds.Um) ⊎ (c.kind ≡ kinds.Am) → length (submitted side l past)
      ≡ gone c.kind l c.first (events_of side (history past)) + length waits
  any_gone (inl kind) = um_gone kind
  any_gone (inr kind) = am_gone kind

few_wait : (past : List Group) → KeepsOrder past → FewWait past
few_wait past order side l c e kind own =
    let d = is_delivering l past c order e own in
    few_left (length (submitted side l past)) (gone c.kind l c.first (events_of side (history past)))
    (length (waits l c past order d side)) (any_gone l c past order d side kind) (few l c past order d side)

few_signals_wait : (past : List Group) → KeepsOrder past → FewSignalsWait past
few_signals_wait past order side l c e kind own =
    let d = is_renewed l past c order kind e own in
    let a = lives (life_steps l past d) (life_start l past d) in
    let waits : List (List ℕ) = waits_in (flow l (end_at side a)) in
    let few = few_at side l past a order d.lived.by.on in
    let all = ap (λ (ns : List ℕ). length ns) (queue_since l past d side) in
    let parts = length-append (left_since side l past) (map length waits) in
    let one = length-map waits length in
    let two = length-map (submitted_since side l past) length in
    omega (arith, all, parts, one, two, few)

pub queues_are_short : (past : List Group) → KeepsOrder past → QueuesAreShort past
queues_are_short [] order = tt
queues_are_short (g ∷ past) (right, order) =
    ((few_wait (g ∷ past) (right, order), few_signals_wait (g ∷ past) (right, order)), queues_are_short past order)
