-- Each `take` of a journal on a channel with an acknowledged data bearer names the SDU of its COUNT; on one with an
-- unacknowledged data bearer SDUs leave the queue in their order.
use Rattle.std.proofs.Common.{◌≡◌, ℕ, List, [], ◌∷◌, ◌++◌, map, length, take, subst, ap, sym, ◌∙◌}
use Rattle.std.proofs.Math.Seq.{take-append_seam}
use Rattle.std.specs.List.{AllByRecursion}
use Rattle.air_text.specs.Groups.{Group, history}
use Rattle.bearer_types.specs.declared.config.BearerConfig.{BearerConfig}
use Rattle.bearer_types.specs.declared.event.Event.{Event}
use Rattle.l2_types.specs.declared.channel.Kind.TheVariants.{Um}
use Rattle.l2_types.specs.declared.side.Side.{Side}
use Rattle.l2_types.specs.declared.side.Side.TheVariants.{Nb, Ue}
use Rattle.law_bearer.specs.AnyBearer.Calls.{ends}
use Rattle.law_bearer.specs.AnyBearer.Queue.{queue}
use Rattle.law_node.proofs.Queueing.{waits_in}
use Rattle.law_node.specs.Holding.{flow}
use Rattle.promises.specs.Flows.{submitted}
use Rattle.promises.specs.Records.{events_of}
use Rattle.promises.specs.Taken.{takes_on, NamesSdu, lengths_on}
use Rattle.promises.specs.Takes.{AllTakesAreNamed, TakesName, AllLeaveInOrder, SdusLeaveInOrder, left_since}
use Rattle.promises.specs.Takes.{AllLeaveInLife, SignalsLeaveInOrder}
use Rattle.law_deliver.specs.AmChannel.Delivery.{taken_at, HasBegun}
use Rattle.law_deliver.specs.AmChannel.Lives.{lives, end_at}
use Rattle.law_deliver.specs.AmFlow.Air.{outset}
use Rattle.law_deliver.proofs.AmChannel.Delivery.{channels_tell_what_is_taken}
use Rattle.law_deliver.proofs.UmChannel.Queue.{channels_tell_what_leaves}
use Rattle.law_run.specs.Order.{KeepsOrder}
use Rattle.law_run.proofs.Arriving.{taken_is}
use Rattle.law_run.proofs.Delivering.{IsDelivering, steps, start, alike, is_delivering, tells, was_submitted_is}
use Rattle.law_run.proofs.Renewed.{is_renewed, queue_since, steps as life_steps, start as life_start}
use Rattle.promises.specs.Signalling.{submitted_since}

are_named : (past : List Group) → KeepsOrder past → AllTakesAreNamed past
are_named past order from l c e kind own =
    let d = is_delivering l past c order e own in
    let sdus = taken_at l from (steps l c past d) (outset d.nb d.ue) in
    let told = channels_tell_what_is_taken l c d.keys d.nb d.ue from (steps l c past d)
    (alike l c past d kind) d.lived.by.living in
    subst (λ (xs : List (List ℕ)). AllByRecursion (NamesSdu c.first xs) (takes_on l (events_of from (history past))))
    (taken_is l c past d kind from)
    (subst (λ (es : List Event). AllByRecursion (NamesSdu c.first sdus) (takes_on l es)) (tells l c past d from)
    told.are_named)

pub takes_name : (past : List Group) → KeepsOrder past → TakesName past
takes_name [] order = tt
takes_name (g ∷ past) (right, order) = (are_named (g ∷ past) (right, order), takes_name past order)

-- ---- on a channel with an unacknowledged data bearer

begun_at : (l : ℕ) (c : BearerConfig) (past : List Group) (d : IsDelivering l c past) (side : Side)
    → HasBegun side l c d.keys (end_at side (outset d.nb d.ue))
begun_at l c past d Nb = d.nb_begun
begun_at l c past d Ue = d.ue_begun

-- what has left the queue, and what waits
pub queue_told : (l : ℕ) (c : BearerConfig) (past : List Group) (d : IsDelivering l c past) (side : Side) → c.kind ≡ Um
    → lengths_on l (events_of side (history past))
    ++ map length (queue (ends (flow l (end_at side (lives (steps l c past d) (start l c past d))))))
    ≡ map length (submitted side l past)
queue_told l c past d side kind =
    let waits = map length (queue (ends (flow l (end_at side (lives (steps l c past d) (start l c past d)))))) in
    ap (λ (es : List Event). lengths_on l es ++ waits) (sym (tells l c past d side))
    ∙ (channels_tell_what_leaves l c d.keys d.nb d.ue side (steps l c past d) kind (begun_at l c past d side)
    d.lived.by.living
    ∙ ap (λ (xs : List (List ℕ)). map length xs) (was_submitted_is l c past d side))

front : (xs ys zs : List ℕ) → xs ++ ys ≡ zs → xs ≡ take (length xs) zs
front xs ys zs q = sym (take-append_seam xs ys) ∙ ap (take (length xs)) q

leave_in_order : (past : List Group) → KeepsOrder past → AllLeaveInOrder past
leave_in_order past order side l c e kind own =
    let d = is_delivering l past c order e own in
    front (lengths_on l (events_of side (history past)))
    (map length (queue (ends (flow l (end_at side (lives (steps l c past d) (start l c past d)))))))
    (map length (submitted side l past)) (queue_told l c past d side kind)

pub sdus_leave_in_order : (past : List Group) → KeepsOrder past → SdusLeaveInOrder past
sdus_leave_in_order [] order = tt
sdus_leave_in_order (g ∷ past) (right, order) =
    (leave_in_order (g ∷ past) (right, order), sdus_leave_in_order past order)

-- ---- on a channel with a transparent or a signalling bearer

leave_in_life : (past : List Group) → KeepsOrder past → AllLeaveInLife past
leave_in_life past order side l c e kind own =
    let d = is_renewed l past c order kind e own in
    front (left_since side l past)
    (map length (waits_in (flow l (end_at side (lives (life_steps l past d) (life_start l past d))))))
    (map length (submitted_since side l past)) (queue_since l past d side)

pub signals_leave_in_order : (past : List Group) → KeepsOrder past → SignalsLeaveInOrder past
signals_leave_in_order [] order = tt
signals_leave_in_order (g ∷ past) (right, order) =
    (leave_in_life (g ∷ past) (right, order), signals_leave_in_order past order)
