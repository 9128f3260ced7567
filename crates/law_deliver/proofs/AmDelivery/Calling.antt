-- Each call of an end that brings no PDU brings both ways on.
use Rattle.std.proofs.Common.{◌≡◌, ℕ, Bool, true, false, ◌||◌, nat_lt, List, [], ◌∷◌, ◌++◌, map, length, ap, sym, subst}
use Rattle.std.proofs.Common.{◌∙◌}
use Rattle.bearer_types.specs.declared.Event.{Event}
use Rattle.l2_types.specs.declared.Clock.{Clock}
use Rattle.l2_types.specs.declared.Clock.TheVariants.{Poll, Reorder, Prohibit}
use Rattle.pdcp_tx.specs.Runs.{Submit as SubmitPdcp, Late}
use Rattle.pdcp_tx.specs.State.{State as Sending, refusal}
use Rattle.bearer.specs.declared.flow.Flow.TheVariants.{Am}
use Rattle.bearer.specs.Acknowledged.State.{State}
use Rattle.bearer.specs.Acknowledged.Timing.{has_ended}
use Rattle.bearer_pdcp.specs.Discarding.{after_tick as after_discards, tick_told}
use Rattle.bearer_pdcp.specs.Ends.{Ends}
use Rattle.law_bearer.specs.AnyBearer.Calls.{Call, Submit, Take, Arrive, Expire, Tick, SetDiscard}
use Rattle.law_bearer.specs.AnyBearer.Queue.{news}
use Rattle.law_bearer.specs.AmBearer.Deeds.{Deed, Asks, does_all}
use Rattle.law_bearer.specs.AmBearer.Calls.{only_if, settles, expires, counted, ticks, discards, deeds_of, tells}
use Rattle.law_bearer.specs.AmBearer.Calls.{ups_among}
use Rattle.law_bearer.proofs.AmBearer.Ups.{AreQuiet, quiet_up}
use Rattle.law_bearer.proofs.AmBearer.Taking.{takes_quiet}
use Rattle.law_bearer.proofs.AmBearer.Timing.{expires_quiet, tti_quiet, in_a_tti}
use Rattle.law_bearer.proofs.AmBearer.Calls.{calls_are_deeds}
use Rattle.law_deliver.specs.AmFlow.Pair.{BearerEnd, acknowledged, called, calls, IsCalling}
use Rattle.law_deliver.proofs.AmFlow.Standing.{or_none}
use Rattle.law_deliver.specs.AmDelivery.Arrival.{said_in, heard_in}
use Rattle.law_deliver.specs.Accepted.{IsAccepted}
use Rattle.law_deliver.proofs.AmDelivery.Joined.{Way}
use Rattle.law_deliver.proofs.AmDelivery.Ends.{JoinedEnds, EndsGoOn}
use Rattle.law_deliver.proofs.AmDelivery.Lasting.{given_in, raised_in}
use Rattle.law_deliver.proofs.AmDelivery.Timers.{IsOwn, AreOwn, own_all, asks_go_on, with_bearer}
use Rattle.law_deliver.proofs.AmDelivery.Taking.{takes_go_on}

-- ---- timers are deeds of its own

own_then : (xs ys : List Deed) → AreOwn xs → AreOwn ys → AreOwn (xs ++ ys)
own_then [] ys h k = k
own_then (x ∷ xs) ys h k = (h.0, own_then xs ys h.1 k)

expires_own : (clock : Clock) (b : State) → IsOwn (expires clock b)
expires_own Poll b = tt
expires_own Reorder b = tt
expires_own Prohibit b = tt

counted_own : (clock : Clock) → IsOwn (counted clock)
counted_own Poll = tt
counted_own Reorder = tt
counted_own Prohibit = tt

only_own : (due : Bool) (deed : Deed) → IsOwn deed → AreOwn (only_if due deed)
only_own true deed own = (own, tt)
only_own false deed own = tt

ticks_own : (clock : Clock) (b : State) → AreOwn (ticks clock b)
ticks_own clock b = (counted_own clock, only_own (has_ended clock b) (expires clock b) (expires_own clock b))

lates_own : (told : List Event) → AreOwn (map (λ event. Asks Late) told)
lates_own [] = tt
lates_own (event ∷ told) = (tt, lates_own told)

discards_own : (told : List Event) (e : Ends) → AreOwn (discards told e)
discards_own told e = (
  tt,
  own_then (map (λ event. Asks Late) told) (only_if (nat_lt 0 (length told)) (settles (after_discards e)))
      (lates_own told) (only_own (nat_lt 0 (length told)) (settles (after_discards e)) tt),
)

tti_own : (b : State) → AreOwn (in_a_tti b)
tti_own b =
    own_then (ticks Poll b ++ ticks Reorder b ++ ticks Prohibit b) (discards (tick_told b.pdcp) b.pdcp)
    (own_then (ticks Poll b ++ ticks Reorder b) (ticks Prohibit b)
    (own_then (ticks Poll b) (ticks Reorder b) (ticks_own Poll b) (ticks_own Reorder b)) (ticks_own Prohibit b))
    (discards_own (tick_told b.pdcp) b.pdcp)

-- ---- nothing goes up

quiet_call : (e : BearerEnd) (c : Call) → IsCalling e c → AreQuiet (deeds_of e.bearer c)
quiet_call e (Submit sdu) g = (tt, tt)
quiet_call e (Take share held) g = takes_quiet e.bearer share held
quiet_call e (Arrive pdu) g = absurd g
quiet_call e (Expire clock) g = (expires_quiet clock e.bearer, tt)
quiet_call e Tick g = tti_quiet e.bearer
quiet_call e (SetDiscard ttis) g = (tt, tt)

none_up : (bits : ℕ) (out inn : Way) (e o : BearerEnd) (c : Call) → JoinedEnds bits out inn e o → IsCalling e c
    → [] ≡ ups_among (tells e.bearer c)
none_up bits out inn e o c h g =
    sym (quiet_up (deeds_of e.bearer c) e.bearer (quiet_call e c g))
    ∙ (calls_are_deeds bits e.bearer c h.of_data h.idle).ups

-- ---- a call that writes nothing

called_as : (bits : ℕ) (out inn : Way) (e o : BearerEnd) (c : Call) → JoinedEnds bits out inn e o
    → does_all (deeds_of e.bearer c) e.bearer ≡ called e.bearer c
called_as bits out inn e o c h =
    ap (acknowledged e.bearer) (sym (calls_are_deeds bits e.bearer c h.of_data h.idle).left)

writes_none : (bits : ℕ) (out inn : Way) (e o : BearerEnd) (c : Call) → JoinedEnds bits out inn e o
    → EndsGoOn bits out inn (with_bearer (deeds_of e.bearer c) e) o [] [] [] [] [] []
    → EndsGoOn bits out inn (record e { bearer = called e.bearer c; busy = e.busy || false }) o [] [] [] [] [] []
writes_none bits out inn e o c h m =
    subst (λ (busy : Bool). EndsGoOn bits out inn (record e { bearer = called e.bearer c; busy = busy }) o [] [] []
    [] [] []) (or_none e.busy)
    (subst (λ (b : State). EndsGoOn bits out inn (record e { bearer = b }) o [] [] [] [] [] [])
    (called_as bits out inn e o c h) m)

submits_go_on : (bits : ℕ) (out inn : Way) (e o : BearerEnd) (sdu : List ℕ) → JoinedEnds bits out inn e o
    → IsAccepted e.bearer.pdcp.tx (Submit sdu)
    → EndsGoOn bits out inn (calls e (Submit sdu)) o [] [] [] [] [] []
submits_go_on bits out inn e o sdu h ok =
    writes_none bits out inn e o (Submit sdu) h
    (asks_go_on bits out inn e o (SubmitPdcp sdu) h (ap (λ (s : Sending). refusal s sdu) h.out_joins.sender_is
    ∙ ok) tt)

own_go_on : (bits : ℕ) (out inn : Way) (e o : BearerEnd) (c : Call) → JoinedEnds bits out inn e o
    → AreOwn (deeds_of e.bearer c)
    → EndsGoOn bits out inn (record e { bearer = called e.bearer c; busy = e.busy || false }) o [] [] [] [] [] []
own_go_on bits out inn e o c h own =
    writes_none bits out inn e o c h (own_all bits out inn e o (deeds_of e.bearer c) h own)

-- ---- any call

calls_on : (bits : ℕ) (out inn : Way) (e o : BearerEnd) (c : Call) → JoinedEnds bits out inn e o → IsCalling e c
    → IsAccepted e.bearer.pdcp.tx c
    → EndsGoOn bits out inn (calls e c) o (news (Am e.bearer) c) [] (said_in e.bearer c) (heard_in c)
    (given_in e.bearer c) (raised_in e.bearer c)
calls_on bits out inn e o (Submit sdu) h g ok = submits_go_on bits out inn e o sdu h ok
calls_on bits out inn e o (Take share held) h g ok = takes_go_on bits out inn e o share held h g
calls_on bits out inn e o (Arrive pdu) h g ok = absurd g
calls_on bits out inn e o (Expire clock) h g ok =
    own_go_on bits out inn e o (Expire clock) h (expires_own clock e.bearer, tt)
calls_on bits out inn e o Tick h g ok = own_go_on bits out inn e o Tick h (tti_own e.bearer)
calls_on bits out inn e o (SetDiscard ttis) h g ok = own_go_on bits out inn e o (SetDiscard ttis) h (tt, tt)

pub calls_go_on : (bits : ℕ) (out inn : Way) (e o : BearerEnd) (c : Call) → JoinedEnds bits out inn e o
    → IsCalling e c → IsAccepted e.bearer.pdcp.tx c
    → EndsGoOn bits out inn (calls e c) o (news (Am e.bearer) c) (ups_among (tells e.bearer c)) (said_in e.bearer c)
    (heard_in c) (given_in e.bearer c) (raised_in e.bearer c)
calls_go_on bits out inn e o c h g ok =
    subst (λ (ups : List (List ℕ)). EndsGoOn bits out inn (calls e c) o (news (Am e.bearer) c) ups
    (said_in e.bearer c) (heard_in c) (given_in e.bearer c) (raised_in e.bearer c)) (none_up bits out inn e o c h g)
    (calls_on bits out inn e o c h g ok)
