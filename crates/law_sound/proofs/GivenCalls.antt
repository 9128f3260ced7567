-- Where no block comes in a step, the bearer of one side is called once or not at all: what is gathered goes on by it.
use Rattle.std.proofs.Common.{◌≡◌, ℕ, ◌==◌, Bool, true, false, List, [], ◌∷◌, ◌++◌, Option, Some, None, map}
use Rattle.std.proofs.Common.{append-nil, append_assoc, refl, ap, sym, subst, ◌∙◌}
use Rattle.std.specs.List.{flat_map}
use Rattle.bearer.specs.Acknowledged.State.{State}
use Rattle.bearer.specs.declared.flow.Flow.TheVariants.{Am}
use Rattle.bearer_types.specs.Sides.{heard_by}
use Rattle.harq.specs.declared.sender.Visit.{Visit}
use Rattle.harq.specs.declared.sender.Visit.TheVariants.{New, Resend, Silent}
use Rattle.l2_bits.specs.declared.fault.SubmitRefusal.{SubmitRefusal}
use Rattle.l2_node.specs.Building.{visit, visited}
use Rattle.l2_node.specs.End.{End}
use Rattle.l2_node.specs.Submitting.{refusal}
use Rattle.promises.specs.Pdus.{carried}
use Rattle.prioritise.specs.Channels.{has as has_channel}
use Rattle.law_bearer.specs.AnyBearer.Calls.{Call as BearerCall, Submit as Submits, Take as Takes, Arrive as Arrives}
use Rattle.law_bearer.specs.AnyBearer.Calls.{Expire as Expires, Tick as Ticks, SetDiscard as SetsDiscard}
use Rattle.law_bearer.specs.AnyBearer.Queue.{submits as submits_in}
use Rattle.law_bearer.specs.AmBearer.Calls.{tells}
use Rattle.law_deliver.specs.AmChannel.Delivery.{accepted, submitted_in, was_submitted}
use Rattle.law_deliver.specs.AmFlow.Channels.{only, takes_of, submits_of, calls_of, share_of, held_of}
use Rattle.law_deliver.specs.AmFlow.Ups.{calls_over, tells_over}
use Rattle.law_deliver.proofs.AmChannel.Bearers.{tells_so}
use Rattle.law_given.specs.Beside.{GoesOnAs}
use Rattle.law_given.specs.Joined.{Direction}
use Rattle.law_given.specs.SupplyLaws.{IsOwn, offered_in}
use Rattle.law_given.proofs.Tied.{offered_over, ready_over, news_over}
use Rattle.law_node.specs.Calls.{Call, Turn, Visits, Receive, Submit, SetDiscard, Tick, Expire}
use Rattle.law_node.specs.Calls.{after as end_after}

-- ---- what an end is submitted is what its bearer is

abbrev pub submits_all : List BearerCall → List (List ℕ)
submits_all cs = flat_map submits_in cs

submits_then : (xs ys : List BearerCall) → submits_all (xs ++ ys) ≡ submits_all xs ++ submits_all ys
submits_then [] ys = refl
submits_then (x ∷ xs) ys =
    ap (λ (zs : List (List ℕ)). submits_in x ++ zs) (submits_then xs ys)
    ∙ sym (append_assoc (submits_in x) (submits_all xs) (submits_all ys))

pub arrivals_none : (pdus : List (List ℕ)) → submits_all (map (λ (pdu : List ℕ). Arrives pdu) pdus) ≡ []
arrivals_none [] = refl
arrivals_none (pdu ∷ pdus) = arrivals_none pdus

accepted_so : (r : Option SubmitRefusal) (here : Bool) (octets : List ℕ)
    → accepted r here octets ≡ submits_all (submits_of r here octets)
accepted_so None true octets = refl
accepted_so None false octets = refl
accepted_so (Some why) here octets = refl

only_none : (here : Bool) (c : BearerCall) → submits_in c ≡ [] → [] ≡ submits_all (only here c)
only_none true c none = sym (append-nil (submits_in c) ∙ none)
only_none false c none = refl

takes_none : (v : Visit) (t : Turn) (e : End) (l : ℕ) → [] ≡ submits_all (takes_of v t e l)
takes_none New t e l =
    only_none (has_channel l e.buckets.channels) (Takes (share_of e t.grant l) (held_of e l)) refl
takes_none (Resend rv) t e l = refl
takes_none Silent t e l = refl

submits_one_call : (l : ℕ) (e : End) (c : Call) → submitted_in l e c ≡ submits_all (calls_of l e c)
submits_one_call l e (Submit lcid octets) = accepted_so (refusal lcid octets e) (lcid == l) octets
submits_one_call l e (SetDiscard lcid ttis) = only_none (lcid == l) (SetsDiscard ttis) refl
submits_one_call l e (Visits t) = takes_none (visit t.tti t.order e) t (visited t.tti t.order e) l
submits_one_call l e (Receive block) = sym (arrivals_none (carried l (heard_by e.side) block))
submits_one_call l e (Expire lcid clock) = only_none (lcid == l) (Expires clock) refl
submits_one_call l e Tick = refl
submits_one_call l e c = refl

pub submits_over : (l : ℕ) (cs : List Call) (e : End) → was_submitted l cs e ≡ submits_all (calls_over l cs e)
submits_over l [] e = refl
submits_over l (c ∷ cs) e =
    ap (λ (xs : List (List ℕ)). xs ++ was_submitted l cs (end_after e c)) (submits_one_call l e c)
    ∙ ap (λ (xs : List (List ℕ)). submits_all (calls_of l e c) ++ xs) (submits_over l cs (end_after e c))
    ∙ sym (submits_then (calls_of l e c) (calls_over l cs (end_after e c)))

-- ---- a call of its own brings nothing, and confirms nothing

own_ready : (b : State) (c : BearerCall) → IsOwn c → ready_over (Am b) (c ∷ []) ≡ []
own_ready b (Submits sdu) own = refl
own_ready b (Takes share held) own = refl
own_ready b (Arrives pdu) own = absurd own
own_ready b (Expires clock) own = refl
own_ready b Ticks own = refl
own_ready b (SetsDiscard ttis) own = refl

own_news : (b : State) (c : BearerCall) → IsOwn c → news_over (Am b) (c ∷ []) ≡ []
own_news b (Submits sdu) own = refl
own_news b (Takes share held) own = refl
own_news b (Arrives pdu) own = absurd own
own_news b (Expires clock) own = refl
own_news b Ticks own = refl
own_news b (SetsDiscard ttis) own = refl

own_offers : (b : State) (c : BearerCall) → offered_over (Am b) (c ∷ []) ≡ offered_in b c
own_offers b c = append-nil (offered_in b c)

-- so a direction goes on where only one side's bearer is called, and where none is

abbrev pub GoesBy : Direction → Direction → State → List BearerCall → State → List BearerCall → Type 0
GoesBy d e from cs to ds =
    GoesOnAs d e (offered_over (Am from) cs) (ready_over (Am to) ds) (news_over (Am from) cs)

pub sender_goes : (d e : Direction) (from to : State) (c : BearerCall) → IsOwn c → GoesBy d e from (c ∷ []) to []
    → GoesOnAs d e (offered_in from c) [] []
sender_goes d e from to c own g =
    subst (λ (xs : List (List ℕ)). GoesOnAs d e xs [] []) (own_offers from c)
    (subst (λ (ns : List ℕ). GoesOnAs d e (offered_over (Am from) (c ∷ [])) [] ns) (own_news from c own) g)

pub receiver_goes : (d e : Direction) (from to : State) (c : BearerCall) → IsOwn c → GoesBy d e from [] to (c ∷ [])
    → GoesOnAs d e [] [] []
receiver_goes d e from to c own g = subst (λ (xs : List (List ℕ)). GoesOnAs d e [] xs []) (own_ready to c own) g

pub one_tells : (l : ℕ) (b : State) (c : BearerCall) → b.pdcp.lcid ≡ l → tells_over l (Am b) (c ∷ []) ≡ tells b c
one_tells l b c lcid = append-nil _ ∙ sym (tells_so l b c lcid)
