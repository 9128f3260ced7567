-- A bearer gives RLC PDUs of PDCP only as it writes, and so its calls give octets.
use Rattle.std.proofs.Common.{ℕ, Bool, true, false, List, [], ◌∷◌, ◌++◌, map, Option, Result, Ok, Err, sym, subst}
use Rattle.std.specs.List.{AllByRecursion}
use Rattle.l2_types.specs.declared.Clock.{Clock}
use Rattle.l2_types.specs.declared.Clock.TheVariants.{Poll, Reorder, Prohibit}
use Rattle.rlc_am_rx.specs.Machine.{arrived as landed_in}
use Rattle.rlc_pdu.specs.declared.fault.RlcRefusal.{RlcRefusal}
use Rattle.rlc_pdu.specs.Pdus.{AcknowledgedPdu, Payload, Status as Control}
use Rattle.rlc_pdu.specs.Reading.{am_at}
use Rattle.bearer.specs.Acknowledged.State.{State}
use Rattle.bearer.specs.Acknowledged.Taking.{data_size}
use Rattle.law_rlc.specs.AmSender.Octets.{HasOctets}
use Rattle.law_rlc.specs.AmSender.Run.{Call as SenderCall, Offer, Take as Taking, Status, Tick as TickSender}
use Rattle.law_rlc.specs.AmSender.Run.{Expire as ExpireSender, Settle, Confirm as HandOver}
use Rattle.law_bearer.specs.AnyBearer.Acknowledged.{offers_in, has_more_behind}
use Rattle.law_bearer.specs.AnyBearer.Calls.{Call, Submit, Take, Arrive, Expire, Tick, SetDiscard}
use Rattle.law_bearer.specs.AmBearer.Calls.{deeds_of, arrives, expires}
use Rattle.law_bearer.specs.AmBearer.Deeds.{Deed, Feeds, Sends, Confirms, Receives, HandsUp, Asks, Sets, does, does_all}
use Rattle.law_bearer.specs.AmBearer.Sending.{sends_at, sends_in, hand_over_calls}
use Rattle.law_bearer.proofs.AmBearer.Sending.{in_then, takes_are_its_calls}
use Rattle.law_bearer.specs.AnyBearer.Rounds.{takes_in}
use Rattle.law_drain.specs.Done.{IsOfRlc}
use Rattle.law_drain.specs.Ends.{HasOctet, OffersOctets}
use Rattle.law_drain.specs.Round.{deeds_along, behind}
use Rattle.law_drain.proofs.Calm.{IsOfCalls, handing-all, status-all, IsOfTicks, tick-all}
use Rattle.law_drain.proofs.Come.{both-all}
use Rattle.law_drain.proofs.Hearing.{behind-is}
use Rattle.law_drain.proofs.Rounds.{along-then}

-- each PDU that PDCP gives RLC in calls has an octet
abbrev pub GiveOctets : List Call → State → Type 0
GiveOctets cs b = AllByRecursion HasOctets (sends_in (deeds_along cs b) b)

-- ---- deeds that give none

abbrev IsPlain : Deed → Type 0
IsPlain Feeds = ⊥
IsPlain (Sends c) = IsOfRlc c
IsPlain Confirms = Unit {0}
IsPlain (Receives c) = Unit {0}
IsPlain HandsUp = Unit {0}
IsPlain (Asks c) = Unit {0}
IsPlain (Sets ttis) = Unit {0}

told-gives : (c : SenderCall) → IsOfRlc c → HasOctets c
told-gives (Offer sdu) h = absurd h
told-gives (Taking size held more) h = tt
told-gives (Status status) h = tt
told-gives TickSender h = tt
told-gives (ExpireSender more) h = tt
told-gives (Settle more) h = tt
told-gives HandOver h = absurd h

hand-over-gives : (places : List ℕ) → AllByRecursion HasOctets (hand_over_calls places)
hand-over-gives [] = tt
hand-over-gives (place ∷ places) = (tt, tt)

plain-gives : (deed : Deed) (b : State) → IsPlain deed → AllByRecursion HasOctets (sends_at b deed)
plain-gives Feeds b h = absurd h
plain-gives (Sends c) b h = (told-gives c h, tt)
plain-gives Confirms b h = hand-over-gives b.tx.accounts.news
plain-gives (Receives c) b h = tt
plain-gives HandsUp b h = tt
plain-gives (Asks c) b h = tt
plain-gives (Sets ttis) b h = tt

plains-give : (deeds : List Deed) (b : State) → AllByRecursion IsPlain deeds
    → AllByRecursion HasOctets (sends_in deeds b)
plains-give [] b h = tt
plains-give (deed ∷ deeds) b h =
    both-all (sends_at b deed) (sends_in deeds (does b deed)) (plain-gives deed b h.0)
    (plains-give deeds (does b deed) h.1)

-- ---- calls that give none

plain-calls : IsOfCalls IsPlain
plain-calls = record { sends = λ c told. told; confirms = tt; hands = tt }

plain-ticks : IsOfTicks IsPlain
plain-ticks = record { sends = λ c told. told; receives = λ c. tt; ticks = tt; lates = tt }

arriving-plain : (r : Result AcknowledgedPdu RlcRefusal) (b : State) → AllByRecursion IsPlain (arrives r b)
arriving-plain (Err refused) b = tt
arriving-plain (Ok (Payload data')) b = (tt, handing-all IsPlain (landed_in b.rx data').out.ready b.pdcp plain-calls)
arriving-plain (Ok (Control status)) b = status-all IsPlain status b plain-calls

expiring-plain : (clock : Clock) (b : State) → IsPlain (expires clock b)
expiring-plain Poll b = tt
expiring-plain Reorder b = tt
expiring-plain Prohibit b = tt

abbrev pub IsOther : Call → Type 0
IsOther (Submit sdu) = Unit {0}
IsOther (Take share held) = ⊥
IsOther (Arrive pdu) = Unit {0}
IsOther (Expire clock) = Unit {0}
IsOther Tick = Unit {0}
IsOther (SetDiscard ttis) = Unit {0}

other-plain : (c : Call) (b : State) → IsOther c → AllByRecursion IsPlain (deeds_of b c)
other-plain (Submit sdu) b h = (tt, tt)
other-plain (Take share held) b h = absurd h
other-plain (Arrive pdu) b h = arriving-plain (am_at pdu) b
other-plain (Expire clock) b h = (expiring-plain clock b, tt)
other-plain Tick b h = tick-all IsPlain b plain-ticks
other-plain (SetDiscard ttis) b h = (tt, tt)

pub others-give : (cs : List Call) (b : State) → AllByRecursion IsOther cs → GiveOctets cs b
others-give [] b h = tt
others-give (c ∷ cs) b h =
    let d = does_all (deeds_of b c) b in
    subst (λ (calls : List SenderCall). AllByRecursion HasOctets calls)
    (sym (in_then (deeds_of b c) (deeds_along cs d) b))
    (both-all (sends_in (deeds_of b c) b) (sends_in (deeds_along cs d) d)
    (plains-give (deeds_of b c) b (other-plain c b h.0)) (others-give cs d h.1))

-- ---- a bearer writes

offers-give : (ps : List (List ℕ)) (c : SenderCall) → IsOfRlc c → AllByRecursion HasOctet ps
    → AllByRecursion HasOctets (map (λ pdu. Offer pdu) ps ++ c ∷ [])
offers-give [] c told h = (told-gives c told, tt)
offers-give (p ∷ ps) c told h = (h.0, offers-give ps c told h.1)

take-gives : (b : State) (share : ℕ) (held : Option ℕ) → OffersOctets b → GiveOctets (Take share held ∷ []) b
take-gives b share held h =
    let calls = sends_in (deeds_of b (Take share held)) b in
    subst (λ (cs : List SenderCall). AllByRecursion HasOctets cs) (sym (in_then (deeds_of b (Take share held)) [] b))
    (both-all calls [] (subst (λ (cs : List SenderCall). AllByRecursion HasOctets cs)
    (sym (takes_are_its_calls b share held))
    (offers-give (offers_in b share held) (Taking (data_size b share) held (has_more_behind b share held)) tt
    (h share held))) tt)

pub share-gives : (here : Bool) (share : ℕ) (held : Option ℕ) (b : State) → OffersOctets b
    → GiveOctets (takes_in (record { here = here; octets = share; held = held })) b
share-gives true share held b h = take-gives b share held h
share-gives false share held b h = tt

-- ---- one behind the other

pub along-give : (xs ys : List Call) (b : State) → GiveOctets xs b → GiveOctets ys (behind xs b)
    → GiveOctets (xs ++ ys) b
along-give xs ys b g h =
    let rest = deeds_along ys (behind xs b) in
    subst (λ (deeds : List Deed). AllByRecursion HasOctets (sends_in deeds b)) (sym (along-then xs ys b))
    (subst (λ (cs : List SenderCall). AllByRecursion HasOctets cs) (sym (in_then (deeds_along xs b) rest b))
    (both-all (sends_in (deeds_along xs b) b) (sends_in rest (does_all (deeds_along xs b) b)) g
    (subst (λ (d : State). AllByRecursion HasOctets (sends_in rest d)) (behind-is xs b) h)))
