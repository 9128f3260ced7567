-- What is submitted at an end is submitted to its bearer of the channel.
use Rattle.std.proofs.Common.{◌≡◌, ℕ, ◌==◌, Bool, true, false, Option, Some, None, List, [], ◌∷◌, ◌++◌, map, append-nil}
use Rattle.std.proofs.Common.{append_assoc, refl, ap, sym, ◌∙◌}
use Rattle.std.specs.List.{AllByRecursion}
use Rattle.law_bearer.specs.AnyBearer.Calls.{Call as BearerCall, Submit as Submits, Take as Takes, Arrive as Arrives}
use Rattle.law_bearer.specs.AnyBearer.Calls.{Expire as Expires, SetDiscard as SetsDiscard, Step as BearerStep}
use Rattle.law_bearer.specs.AnyBearer.Calls.{Calls as CallsIt, Restart}
use Rattle.law_bearer.specs.AnyBearer.Queue.{submits, all_submitted}
use Rattle.eps_sec.specs.declared.Keys.{Keys}
use Rattle.harq.specs.declared.sender.Visit.{Visit}
use Rattle.harq.specs.declared.sender.Visit.TheVariants.{New, Resend, Silent}
use Rattle.l2_bits.specs.declared.fault.SubmitRefusal.{SubmitRefusal}
use Rattle.l2_node.specs.Building.{visit, visited}
use Rattle.l2_node.specs.End.{End}
use Rattle.bearer_types.specs.Sides.{heard_by}
use Rattle.l2_node.specs.Submitting.{refusal}
use Rattle.law_node.specs.Bearers.{keys_in}
use Rattle.law_node.specs.Calls.{Turn, Call, SetVisits, SetReports, Add, Submit, SetDiscard, Tick, TickBuckets, Visits}
use Rattle.law_node.specs.Calls.{Grants, Granted, Assigned, Pass, Receive, Expire, Move, after}
use Rattle.prioritise.specs.Channels.{has as has_channel}
use Rattle.law_deliver.specs.AmFlow.Channels.{only, share_of, held_of, takes_of, submits_of, calls_of}
use Rattle.promises.specs.Pdus.{carried}
use Rattle.law_deliver.specs.AmChannel.Delivery.{accepted, submitted_in, was_submitted, steps_in, steps_over}
use Rattle.law_deliver.specs.AmChannel.Delivery.{sets_discard, SetNone}
use Rattle.law_deliver.proofs.AmChannel.Acting.{as_steps}
use Rattle.law_deliver.proofs.AmChannel.Ends.{all_more}
use Rattle.law_deliver.proofs.AmChannel.Unset.{IsUnset, IsUnsetStep}

-- ---- nothing but by a submission

submitted_more : (xs ys : List BearerStep) → all_submitted (xs ++ ys) ≡ all_submitted xs ++ all_submitted ys
submitted_more [] ys = refl
submitted_more (CallsIt c ∷ xs) ys = ap (λ (sdus : List (List ℕ)). submits c ++ sdus) (submitted_more xs ys)
    ∙ sym (append_assoc (submits c) (all_submitted xs) (all_submitted ys))
submitted_more (Restart keys ∷ xs) ys = submitted_more xs ys

lives_none : (ks : List Keys) → all_submitted (map (λ keys. Restart keys) ks) ≡ []
lives_none [] = refl
lives_none (k ∷ ks) = lives_none ks

arrives_none : (pdus : List (List ℕ)) → all_submitted (as_steps (map (λ pdu. Arrives pdu) pdus)) ≡ []
arrives_none [] = refl
arrives_none (pdu ∷ pdus) = arrives_none pdus

only_none : (here : Bool) (c : BearerCall) → submits c ≡ [] → all_submitted (as_steps (only here c)) ≡ []
only_none true c q = ap (λ (sdus : List (List ℕ)). sdus ++ []) q
only_none false c q = refl

takes_none : (v : Visit) (t : Turn) (e : End) (l : ℕ) → all_submitted (as_steps (takes_of v t e l)) ≡ []
takes_none New t e l = only_none (has_channel l e.buckets.channels) (Takes (share_of e t.grant l) (held_of e l)) refl
takes_none (Resend rv) t e l = refl
takes_none Silent t e l = refl

submits_one : (r : Option SubmitRefusal) (here : Bool) (octets : List ℕ)
    → all_submitted (as_steps (submits_of r here octets)) ≡ accepted r here octets
submits_one None true octets = refl
submits_one None false octets = refl
submits_one (Some why) here octets = refl

calls_submit : (l : ℕ) (e : End) (c : Call) → all_submitted (as_steps (calls_of l e c)) ≡ submitted_in l e c
calls_submit l e (SetVisits maximum) = refl
calls_submit l e (SetReports reports) = refl
calls_submit l e (Add c keys) = refl
calls_submit l e (Submit lcid octets) = submits_one (refusal lcid octets e) (lcid == l) octets
calls_submit l e (SetDiscard lcid ttis) = only_none (lcid == l) (SetsDiscard ttis) refl
calls_submit l e Tick = refl
calls_submit l e TickBuckets = refl
calls_submit l e (Visits t) = takes_none (visit t.tti t.order e) t (visited t.tti t.order e) l
calls_submit l e (Grants tti) = refl
calls_submit l e (Granted tti good) = refl
calls_submit l e (Assigned tti ndi good) = refl
calls_submit l e (Pass tti) = refl
calls_submit l e (Receive block) = arrives_none (carried l (heard_by e.side) block)
calls_submit l e (Expire lcid clock) = only_none (lcid == l) (Expires clock) refl
calls_submit l e (Move keys) = refl

one_submits : (l : ℕ) (e : End) (c : Call) → all_submitted (steps_in l e c) ≡ submitted_in l e c
one_submits l e c =
    submitted_more (as_steps (calls_of l e c)) (map (λ keys. Restart keys) (keys_in c))
    ∙ ap (λ (sdus : List (List ℕ)). all_submitted (as_steps (calls_of l e c)) ++ sdus) (lives_none (keys_in c))
    ∙ append-nil (all_submitted (as_steps (calls_of l e c)))
    ∙ calls_submit l e c

pub submitted_is : (l : ℕ) (cs : List Call) (e : End) → was_submitted l cs e ≡ all_submitted (steps_over l cs e)
submitted_is l [] e = refl
submitted_is l (c ∷ cs) e =
    ap (λ (sdus : List (List ℕ)). submitted_in l e c ++ sdus) (submitted_is l cs (after e c))
    ∙ ap (λ (sdus : List (List ℕ)). sdus ++ all_submitted (steps_over l cs (after e c))) (sym (one_submits l e c))
    ∙ sym (submitted_more (steps_in l e c) (steps_over l cs (after e c)))

-- ---- where the end sets no discard timer, its bearer sets none

abbrev AreUnset : List BearerStep → Type 0
AreUnset xs = AllByRecursion IsUnsetStep xs

lives_unset : (ks : List Keys) → AreUnset (map (λ keys. Restart keys) ks)
lives_unset [] = tt
lives_unset (k ∷ ks) = (tt, lives_unset ks)

arrives_unset : (pdus : List (List ℕ)) → AreUnset (as_steps (map (λ pdu. Arrives pdu) pdus))
arrives_unset [] = tt
arrives_unset (pdu ∷ pdus) = (tt, arrives_unset pdus)

only_unset : (here : Bool) (c : BearerCall) → IsUnset c → AreUnset (as_steps (only here c))
only_unset true c q = (q, tt)
only_unset false c q = tt

takes_unset : (v : Visit) (t : Turn) (e : End) (l : ℕ) → AreUnset (as_steps (takes_of v t e l))
takes_unset New t e l = only_unset (has_channel l e.buckets.channels) (Takes (share_of e t.grant l) (held_of e l)) tt
takes_unset (Resend rv) t e l = tt
takes_unset Silent t e l = tt

submits_unset : (r : Option SubmitRefusal) (here : Bool) (octets : List ℕ)
    → AreUnset (as_steps (submits_of r here octets))
submits_unset None here octets = only_unset here (Submits octets) tt
submits_unset (Some why) here octets = tt

discard_unset : (here : Bool) (ttis : ℕ) → here ≡ false → AreUnset (as_steps (only here (SetsDiscard ttis)))
discard_unset true ttis q = let no : true ≡ false = q in absurd cc
discard_unset false ttis q = tt

calls_unset : (l : ℕ) (e : End) (c : Call) → sets_discard l c ≡ false → AreUnset (as_steps (calls_of l e c))
calls_unset l e (SetVisits maximum) q = tt
calls_unset l e (SetReports reports) q = tt
calls_unset l e (Add c keys) q = tt
calls_unset l e (Submit lcid octets) q = submits_unset (refusal lcid octets e) (lcid == l) octets
calls_unset l e (SetDiscard lcid ttis) q = discard_unset (lcid == l) ttis q
calls_unset l e Tick q = (tt, tt)
calls_unset l e TickBuckets q = tt
calls_unset l e (Visits t) q = takes_unset (visit t.tti t.order e) t (visited t.tti t.order e) l
calls_unset l e (Grants tti) q = tt
calls_unset l e (Granted tti good) q = tt
calls_unset l e (Assigned tti ndi good) q = tt
calls_unset l e (Pass tti) q = tt
calls_unset l e (Receive block) q = arrives_unset (carried l (heard_by e.side) block)
calls_unset l e (Expire lcid clock) q = only_unset (lcid == l) (Expires clock) tt
calls_unset l e (Move keys) q = tt

pub steps_unset : (l : ℕ) (cs : List Call) (e : End) → SetNone l cs → AllByRecursion IsUnsetStep (steps_over l cs e)
steps_unset l [] e q = tt
steps_unset l (c ∷ cs) e q =
    all_more IsUnsetStep (steps_in l e c) (steps_over l cs (after e c))
    (all_more IsUnsetStep (as_steps (calls_of l e c)) (map (λ keys. Restart keys) (keys_in c)) (calls_unset l e c q.0)
    (lives_unset (keys_in c)))
    (steps_unset l cs (after e c) q.1)
