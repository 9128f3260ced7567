-- What an end does in several deeds, beside what is told of a direction.
use Rattle.std.proofs.Common.{◌≡◌, ℕ, zero, suc, ◌+◌, List, [], ◌∷◌, ◌++◌, map, Option, Some, None, slice_get}
use Rattle.std.proofs.Common.{append-nil, append_assoc, refl, sym, subst, ◌∙◌}
use Rattle.std.specs.List.{AllByRecursion}
use Rattle.law_rlc.specs.AmPair.Flow.{Copy}
use Rattle.bearer.specs.Unacknowledged.State.{State}
use Rattle.law_bearer.specs.AnyBearer.Calls.{Call, Submit, Take, Arrive, Expire, Tick, SetDiscard}
use Rattle.law_deliver.proofs.AmFlow.Loads.{Load}
use Rattle.law_deliver.proofs.AmFlow.Stations.{IsPlain}
use Rattle.rlc_pdu.specs.Pdus.{IsUmBits}
use Rattle.law_deliver.specs.UmChannel.Pairs.{come_from, go_from}
use Rattle.law_deliver.proofs.UmChannel.Deeds.{does_all, AreDone}
use Rattle.law_deliver.specs.UmFlow.Pair.{BearerEnd, Calls, Comes, Goes, comes, does}
use Rattle.law_deliver.proofs.UmFlow.Flows.{IsOn, to_on}
use Rattle.law_deliver.proofs.UmFlow.Sending.{IsNoTake}
use Rattle.um_losses.specs.Flow.{Flow}
use Rattle.um_losses.specs.declared.flow.Happening.{Happening}
use Rattle.um_losses.specs.Told.{all_after}
use Rattle.law_deliver.proofs.UmGaps.Telling.{outs}
use Rattle.law_deliver.proofs.UmGaps.Tracking.{Tracks, out_of, IsNoArrival, to_calls}

-- ---- at the end that sends: calls that take nothing, and PDUs of the other direction that come, leave what is under
-- way

pub no_take : (cs : List Call) → AllByRecursion IsPlain cs → AllByRecursion IsNoTake cs
no_take [] h = tt
no_take (c ∷ cs) h = (one c h.0, no_take cs h.1)
  where
    one : (c : Call) → IsPlain c → IsNoTake c
    one (Submit sdu) p = tt
    one (Take share held) p = absurd p
    one (Arrive pdu) p = absurd p
    one (Expire clock) p = tt
    one Tick p = tt
    one (SetDiscard ttis) p = tt

call_copies : (m n : BearerEnd) (c : Call) → IsPlain c → (does m n (Calls c)).copies ≡ n.copies
call_copies m n (Submit sdu) p = refl
call_copies m n (Take share held) p = absurd p
call_copies m n (Arrive pdu) p = absurd p
call_copies m n (Expire clock) p = refl
call_copies m n Tick p = refl
call_copies m n (SetDiscard ttis) p = refl

pub calls_copies : (m n : BearerEnd) (cs : List Call) → AllByRecursion IsPlain cs
    → (does_all m n (map (λ c. Calls c) cs)).copies ≡ n.copies
calls_copies m n [] p = refl
calls_copies m n (c ∷ cs) p = calls_copies m (does m n (Calls c)) cs p.1 ∙ call_copies m n c p.0

come_copies : (e : BearerEnd) (o : Option Copy) → (comes e o).copies ≡ e.copies
come_copies e None = refl
come_copies e (Some c) = refl

pub comes_copies : (m n : BearerEnd) (place count : ℕ) → (does_all m n (come_from place count)).copies ≡ n.copies
comes_copies m n place zero = refl
comes_copies m n place (suc k) = comes_copies m (does m n (Comes place)) (place + 1) k
    ∙ come_copies n (slice_get m.copies place)

pub arrivals_take_none : (pdus : List (List ℕ)) → AllByRecursion IsNoTake (map (λ p. Arrive p) pdus)
arrivals_take_none [] = tt
arrivals_take_none (p ∷ ps) = (tt, arrivals_take_none ps)

-- ---- at the end that hears

no_arrival : (c : Call) → IsPlain c → IsNoArrival c
no_arrival (Submit sdu) p = tt
no_arrival (Take share held) p = absurd p
no_arrival (Arrive pdu) p = absurd p
no_arrival (Expire clock) p = tt
no_arrival Tick p = tt
no_arrival (SetDiscard ttis) p = tt

pub plain_come_none : (cs : List Call) → AllByRecursion IsPlain cs → AllByRecursion IsNoArrival cs
plain_come_none [] h = tt
plain_come_none (c ∷ cs) h = (no_arrival c h.0, plain_come_none cs h.1)

pub after_then : (xs ys : List Happening) (f : Flow) → all_after (xs ++ ys) f ≡ all_after ys (all_after xs f)
after_then [] ys f = refl
after_then (x ∷ xs) ys f = after_then xs ys _

module _ (bits reorder counts : ℕ) (u : IsUmBits bits) where
  -- calls that bring no PDU
  pub to_all_calls : (l : ℕ) (a : State) (xs : List Call) (b : State) (ys : List Call) (n m : BearerEnd)
      (loads : List Load) (f : Flow) (cs : List Call) → AreDone n m (map (λ c. Calls c) cs)
      → AllByRecursion IsNoArrival cs
      → Tracks bits reorder counts a xs b ys n m loads f
      → Tracks bits reorder counts a xs b (ys ++ cs) n (does_all n m (map (λ c. Calls c) cs)) loads
      (all_after (outs l m.bearer cs) f)
  to_all_calls l a xs b ys n m loads f [] g none h =
      subst (λ (zs : List Call). Tracks bits reorder counts a xs b zs n m loads f) (sym (append-nil ys)) h
  to_all_calls l a xs b ys n m loads f (c ∷ cs) g none h =
      let d : BearerEnd = does n m (Calls c) in
      let one = to_calls bits reorder counts u a xs b ys n m loads f c g.0 none.0 h in
      subst (λ (zs : List Call). Tracks bits reorder counts a xs b zs n (does_all n d (map (λ c. Calls c) cs)) loads
      (all_after (outs l m.bearer (c ∷ cs)) f)) (append_assoc ys (c ∷ []) cs)
      (subst (Tracks bits reorder counts a xs b ((ys ++ c ∷ []) ++ cs) n (does_all n d (map (λ c. Calls c) cs)) loads)
      (sym (after_then (out_of m.bearer c) (outs l d.bearer cs) f))
      (to_all_calls l a xs b (ys ++ c ∷ []) n d loads (all_after (out_of m.bearer c) f) cs g.1 none.1 one))

  -- what it has under way itself is let go
  to_on_go : (a : State) (xs : List Call) (b : State) (ys : List Call) (n m : BearerEnd) (place count : ℕ)
      → IsOn bits reorder a xs b ys n m → IsOn bits reorder a xs b ys n (does_all n m (go_from place count))
  to_on_go a xs b ys n m place zero h = h
  to_on_go a xs b ys n m place (suc k) h =
      to_on_go a xs b ys n (does n m (Goes place)) place k
      (subst (λ (zs : List Call). IsOn bits reorder a xs b zs n (does n m (Goes place))) (append-nil ys)
      (to_on bits reorder u a xs b ys n m (Goes place) tt tt h))

  pub to_goes : (a : State) (xs : List Call) (b : State) (ys : List Call) (n m : BearerEnd) (loads : List Load)
      (f : Flow) (place count : ℕ) → Tracks bits reorder counts a xs b ys n m loads f
      → Tracks bits reorder counts a xs b ys n (does_all n m (go_from place count)) loads f
  to_goes a xs b ys n m loads f place count h = record {
    on = to_on_go a xs b ys n m place count h.on;
    tm = h.tm;
    calls = h.calls;
    heard = h.heard;
    idle = h.idle;
    written = h.written;
    copies_are = h.copies_are;
    under = h.under;
  }
