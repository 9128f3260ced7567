-- What each other call adds.
use Rattle.std.proofs.Common.{ℕ, Option, Some, None, List, [], ◌∷◌, if◌then◌else◌, Bool, true, false, append-nil, refl}
use Rattle.std.proofs.Common.{sym}
use Rattle.std.specs.Prelude.{option_map}
use Rattle.bearer_types.specs.declared.event.Event.{Event}
use Rattle.eps_sec.specs.declared.Keys.{Keys}
use Rattle.l2_bits.specs.declared.fault.SubmitRefusal.{SubmitRefusal}
use Rattle.l2_node.specs.Finding.{has}
use Rattle.l2_node.specs.Hearing.{expired}
use Rattle.l2_node.specs.Moving.{leaving}
use Rattle.l2_node.specs.Submitting.{refusal}
use Rattle.l2_types.specs.declared.event.Clock.{Clock}
use Rattle.l2_types.specs.declared.event.Clock.TheVariants.{Poll, Reorder, Prohibit}
use Rattle.l2_types.specs.declared.side.Side.{Side}
use Rattle.l2_types.specs.declared.side.Side.TheVariants.{Nb, Ue}
use Rattle.air_link.specs.Link.{Link, end_of}
use Rattle.bearer_types.specs.Lcids.{all_lcids}
use Rattle.air_link.specs.Telling.{one_more, tells_all}
use Rattle.air_link.specs.Loops.{loops}
use Rattle.air_link.specs.Downlink.{hears}
use Rattle.air_link.specs.Draining.{timer_expires, receiver_expires, all_receivers_expire, receivers_expire}
use Rattle.air_link.specs.Draining.{all_senders_expire, senders_expire}
use Rattle.air_link.specs.Lines.{bears, discards, visits, reports, listens, no_place, submits_by, submitting}
use Rattle.air_link.specs.Lines.{expires_by, expiring, expires_alone, expires, forges, moves, hands_over}
use Rattle.law_run.specs.AnyCalls.Calls.{Call, Bears, Discards, Visits, Reports, Listens, Loops, Expires, Forges}
use Rattle.law_run.specs.AnyCalls.Calls.{HandsOver, ReceiversExpire, SendersExpire, after}
use Rattle.law_run.specs.AnyCalls.Counts.{Grows}
use Rattle.law_run.specs.AnyCalls.Told.{why_refused, accepted, Adds, renewed, AddsSubmitted}
use Rattle.law_run.proofs.AnyCalls.Adding.{stays, adds_then, same_grows, one_grows}
use Rattle.law_run.proofs.AnyCalls.Telling.{is_eq, is_apart, tells_all_adds, end_stays}
use Rattle.law_run.proofs.AnyCalls.Looping.{loops_adds, loop_set_adds}
use Rattle.law_run.proofs.AnyCalls.Flying.{hears_adds}

expires_by_adds : (r : Option (List Event)) (side : Side) (l : Link) → Adds [] l (expires_by r side l)
expires_by_adds None side l = stays l l refl
expires_by_adds (Some events) side l =
    let m = tells_all side events l in
    adds_then [] [] l m (loops m) (tells_all_adds side events l) (loops_adds m)

pub expires_adds : (side : Side) (lcid : ℕ) (clock : Clock) (l : Link) → Adds [] l (expires side lcid clock l)
unfolding expires
expires_adds side lcid clock l =
    let m = expires_alone side lcid clock l in
    adds_then [] [] l m (expires_by (expiring side lcid clock l) side m)
    (end_stays side (expired lcid clock (end_of side l)) l) (expires_by_adds (expiring side lcid clock l) side m)

forges_adds : (side : Side) (block : List ℕ) (l : Link) → Adds [] l (forges side block l)
unfolding forges
forges_adds side block l =
    let m = hears side block l in
    adds_then [] [] l m (loops m) (hears_adds side block l) (loops_adds m)

hands_over_adds : (keys : Keys) (l : Link) → Adds [] (renewed (HandsOver keys) l) (hands_over keys l)
unfolding hands_over
hands_over_adds keys l =
    let k = renewed (HandsOver keys) l in
    let j = moves keys l in
    let m = tells_all Nb (leaving l.nb) j in
    let n = tells_all Ue (leaving l.ue) m in
    let to_m = adds_then [] [] k j m (stays k j refl) (tells_all_adds Nb (leaving l.nb) j) in
    let to_n = adds_then [] [] k m n to_m (tells_all_adds Ue (leaving l.ue) m) in
    adds_then [] [] k n (loops n) to_n (loops_adds n)

-- ---- expiries of a drain

ends_if : (b : Bool) (side : Side) (clock : Clock) (lcid : ℕ) (l : Link)
    → Adds [] l (if b then expires side lcid clock l else l)
ends_if true side clock lcid l = expires_adds side lcid clock l
ends_if false side clock lcid l = stays l l refl

timer_adds : (side : Side) (clock : Clock) (lcid : ℕ) (l : Link) → Adds [] l (timer_expires side clock lcid l)
unfolding timer_expires
timer_adds side clock lcid l = ends_if (has lcid (end_of side l).bearers) side clock lcid l

receiver_adds : (side : Side) (lcid : ℕ) (l : Link) → Adds [] l (receiver_expires side lcid l)
receiver_adds side lcid l =
    let m = timer_expires side Reorder lcid l in
    adds_then [] [] l m (timer_expires side Prohibit lcid m) (timer_adds side Reorder lcid l)
    (timer_adds side Prohibit lcid m)

all_receivers_add : (side : Side) (lcids : List ℕ) (l : Link) → Adds [] l (all_receivers_expire side lcids l)
all_receivers_add side [] l = stays l l refl
all_receivers_add side (lcid ∷ lcids) l =
    let m = receiver_expires side lcid l in
    adds_then [] [] l m (all_receivers_expire side lcids m) (receiver_adds side lcid l) (all_receivers_add side lcids m)

all_senders_add : (side : Side) (lcids : List ℕ) (l : Link) → Adds [] l (all_senders_expire side lcids l)
all_senders_add side [] l = stays l l refl
all_senders_add side (lcid ∷ lcids) l =
    let m = timer_expires side Poll lcid l in
    adds_then [] [] l m (all_senders_expire side lcids m) (timer_adds side Poll lcid l) (all_senders_add side lcids m)

receivers_add : (l : Link) → Adds [] l (receivers_expire l)
unfolding receivers_expire
receivers_add l =
    let m = all_receivers_expire Nb all_lcids l in
    adds_then [] [] l m (all_receivers_expire Ue all_lcids m) (all_receivers_add Nb all_lcids l)
    (all_receivers_add Ue all_lcids m)

senders_add : (l : Link) → Adds [] l (senders_expire l)
unfolding senders_expire
senders_add l =
    let m = all_senders_expire Nb all_lcids l in
    adds_then [] [] l m (all_senders_expire Ue all_lcids m) (all_senders_add Nb all_lcids l)
    (all_senders_add Ue all_lcids m)

-- ---- any call

pub calls_adds : (c : Call) (l : Link) → Adds [] (renewed c l) (after c l)
unfolding bears discards visits reports listens
calls_adds (Bears c keys) l = stays l (bears c keys l) refl
calls_adds (Discards lcid ttis) l = stays l (discards lcid ttis l) refl
calls_adds (Visits maximum) l = stays l (visits maximum l) refl
calls_adds Reports l = stays l (reports l) refl
calls_adds (Listens c) l = stays l (listens c l) refl
calls_adds (Loops mode) l = loop_set_adds mode l
calls_adds (Expires side lcid clock) l = expires_adds side lcid clock l
calls_adds (Forges side block) l = forges_adds side block l
calls_adds (HandsOver keys) l = hands_over_adds keys l
calls_adds ReceiversExpire l = receivers_add l
calls_adds SendersExpire l = senders_add l

-- ---- a submission

one_accepted : (xs : List ℕ) (lcid : ℕ) → Grows (accepted lcid None) xs (one_more xs lcid)
one_accepted xs lcid =
    one_grows (accepted lcid None) xs lcid (rw (is_eq lcid) refl) (λ k apart. rw (is_apart lcid k apart) refl)

submits_adds : (r : Option SubmitRefusal) (side : Side) (lcid : ℕ) (sdu : List ℕ) (l : Link)
    → AddsSubmitted side lcid (option_map no_place r) l (submits_by r side lcid sdu l)
submits_adds None Nb lcid sdu l = record {
  out_is = sym (append-nil l.out);
  ttis_is = refl;
  submitted = one_accepted l.down.submitted lcid;
  other_submitted = refl;
  nb_delivered = refl;
  ue_delivered = refl;
  nb_failed = refl;
  ue_failed = refl;
}
submits_adds None Ue lcid sdu l = record {
  out_is = sym (append-nil l.out);
  ttis_is = refl;
  submitted = one_accepted l.up.submitted lcid;
  other_submitted = refl;
  nb_delivered = refl;
  ue_delivered = refl;
  nb_failed = refl;
  ue_failed = refl;
}
submits_adds (Some broken) Nb lcid sdu l = record {
  out_is = refl;
  ttis_is = refl;
  submitted = same_grows (accepted lcid (Some (no_place broken))) l.down.submitted l.down.submitted refl (λ k. refl);
  other_submitted = refl;
  nb_delivered = refl;
  ue_delivered = refl;
  nb_failed = refl;
  ue_failed = refl;
}
submits_adds (Some broken) Ue lcid sdu l = record {
  out_is = refl;
  ttis_is = refl;
  submitted = same_grows (accepted lcid (Some (no_place broken))) l.up.submitted l.up.submitted refl (λ k. refl);
  other_submitted = refl;
  nb_delivered = refl;
  ue_delivered = refl;
  nb_failed = refl;
  ue_failed = refl;
}

pub submitting_adds : (side : Side) (lcid : ℕ) (sdu : List ℕ) (l : Link)
    → AddsSubmitted side lcid (why_refused side lcid sdu l) l (submitting side lcid sdu l)
unfolding submitting
submitting_adds side lcid sdu l = submits_adds (refusal lcid sdu (end_of side l)) side lcid sdu l
