-- An acknowledged bearer writes octets of its own numbers, whatever comes to it.
use Rattle.std.proofs.Common.{◌≡◌, ◌≤◌, ℕ, ◌-◌, Bool, true, false, if◌then◌else◌, Option, Some, None, Result}
use Rattle.std.proofs.Common.{Ok, Err, List, [], ◌∷◌, ◌++◌, map, refl, ap, sym, subst, ◌∙◌, arith}
use Rattle.std.specs.List.{AllByRecursion}
use Rattle.bearer.specs.Acknowledged.State.{State}
use Rattle.bearer.specs.Acknowledged.Taking.{writes_status, status_pdu, status_pdus, data_size}
use Rattle.bearer.specs.declared.flow.Flow.{Flow}
use Rattle.bearer.specs.declared.flow.Flow.TheVariants.{Am}
use Rattle.bearer.specs.Taking.{pdus}
use Rattle.bearer_pdcp.specs.Telling.{pdus_of}
use Rattle.l2_bits.specs.declared.fault.SubmitRefusal.{SubmitRefusal}
use Rattle.rlc_am_rx.specs.Status.{ack}
use Rattle.rlc_am_tx.specs.Machine.{State as Sender}
use Rattle.rlc_pdu.specs.declared.fault.RlcRefusal.{RlcRefusal}
use Rattle.rlc_pdu.specs.declared.outcome.Taken.{Taken}
use Rattle.rlc_pdu.specs.declared.outcome.Taken.TheVariants as taken
use Rattle.rlc_pdu.specs.Pdus.{AcknowledgedPdu, Payload, Status as Control, StatusPdu}
use Rattle.rlc_pdu.specs.Reading.{am_at}
use Rattle.law_rlc.specs.AmSender.Run.{Call as SenderCall, Offer, Take as Taking, after as sender_after}
use Rattle.law_rlc.specs.AmArrival.Arrival.{written_in}
use Rattle.law_bearer.specs.AnyBearer.Acknowledged.{offers_in, offered_to, has_more_behind, data_given, status_heard}
use Rattle.law_bearer.specs.AnyBearer.Calls.{Call, Submit, Take, Arrive, Expire, Tick, SetDiscard, after_all}
use Rattle.law_bearer.specs.AnyBearer.Sending.{sends_on}
use Rattle.law_bearer.proofs.AnyBearer.SenderCalls.{sender_goes_on, sends_then, writes_what_rlc_gives}
use Rattle.law_deliver.specs.AmFlow.Channels.{only, submits_of}
use Rattle.law_deliver.specs.AmFlow.Pair.{called, HasOctet}
use Rattle.law_deliver.proofs.AmFlow.Sending.{is_called}
use Rattle.law_node.proofs.Reading.{report_reads}
use Rattle.law_node.proofs.Ready.{WritesWell}
use Rattle.law_node.proofs.Senders.{size_most}
use Rattle.law_words.specs.Arrivals.{Passes, Account, accounted}
use Rattle.law_words.specs.Passing.{Passing, Writes, written_as}
use Rattle.promises.specs.Given.{entries_passed, entries_written}
use Rattle.promises.specs.OwnPdus.{IsOwnPdu}
use Rattle.law_run.proofs.OwnPdus.Sender.{Owns, OwnOn, status_owns, own_calls, offers_own, take_owns}

-- ---- calls in which nothing is written

abbrev pub IsQuiet : Call → Type 0
IsQuiet (Submit sdu) = Unit {0}
IsQuiet (Take share held) = ⊥
IsQuiet (Arrive pdu) = Unit {0}
IsQuiet (Expire clock) = Unit {0}
IsQuiet Tick = Unit {0}
IsQuiet (SetDiscard ttis) = Unit {0}

heard_owns : (fields : List ℕ) (r : Result AcknowledgedPdu RlcRefusal) (s : Sender) → Owns fields s
    → Owns fields (sends_on (status_heard r) s)
heard_owns fields (Ok (Control pdu)) s h = status_owns fields s pdu h
heard_owns fields (Ok (Payload pdu)) s h = h
heard_owns fields (Err refused) s h = h

quiet_owns : (fields : List ℕ) (b : State) (c : Call) → IsQuiet c → Owns fields b.tx → Owns fields (called b c).tx
quiet_owns fields b (Submit sdu) q h =
    let m = sender_goes_on b (called b (Submit sdu)) (Submit sdu) (is_called b (Submit sdu)) in
    subst (Owns fields) (sym m.left) (own_calls fields m.own b.tx m.are_own h)
quiet_owns fields b (Take share held) q h = absurd q
quiet_owns fields b (Arrive pdu) q h =
    let m = sender_goes_on b (called b (Arrive pdu)) (Arrive pdu) (is_called b (Arrive pdu)) in
    subst (Owns fields) (sym m.left)
    (own_calls fields m.own (sends_on (status_heard (am_at pdu)) b.tx) m.are_own (heard_owns fields (am_at pdu) b.tx h))
quiet_owns fields b (Expire clock) q h =
    let m = sender_goes_on b (called b (Expire clock)) (Expire clock) (is_called b (Expire clock)) in
    subst (Owns fields) (sym m.left) (own_calls fields m.own b.tx m.are_own h)
quiet_owns fields b Tick q h =
    let m = sender_goes_on b (called b Tick) Tick (is_called b Tick) in
    subst (Owns fields) (sym m.left) (own_calls fields m.own b.tx m.are_own h)
quiet_owns fields b (SetDiscard ttis) q h =
    let m = sender_goes_on b (called b (SetDiscard ttis)) (SetDiscard ttis) (is_called b (SetDiscard ttis)) in
    subst (Owns fields) (sym m.left) (own_calls fields m.own b.tx m.are_own h)

-- a bearer with its sender, behind calls
pub record Holds (fields : List ℕ) (f : Flow) : Type 0 where
  pub bearer : State
  pub is : f ≡ Am bearer
  pub owns : Owns fields bearer.tx

pub quiet_all : (fields : List ℕ) (cs : List Call) (b : State) → AllByRecursion IsQuiet cs → Owns fields b.tx
    → Holds fields (after_all (Am b) cs)
quiet_all fields [] b q h = record { bearer = b; is = refl; owns = h }
quiet_all fields (c ∷ cs) b q h =
    let rest = quiet_all fields cs (called b c) q.1 (quiet_owns fields b c q.0 h) in
    record {
      bearer = rest.bearer;
      is = ap (λ (f : Flow). after_all f cs) (is_called b c) ∙ rest.is;
      owns = rest.owns;
    }

pub quiet_only : (here : Bool) (c : Call) → IsQuiet c → AllByRecursion IsQuiet (only here c)
quiet_only true c q = (q, tt)
quiet_only false c q = tt

pub quiet_submits : (r : Option SubmitRefusal) (here : Bool) (octets : List ℕ)
    → AllByRecursion IsQuiet (submits_of r here octets)
quiet_submits None here octets = quiet_only here (Submit octets) tt
quiet_submits (Some why) here octets = tt

pub quiet_arrives : (pdus : List (List ℕ)) → AllByRecursion IsQuiet (map (λ pdu. Arrive pdu) pdus)
quiet_arrives [] = tt
quiet_arrives (pdu ∷ pdus) = (tt, quiet_arrives pdus)

-- ---- it writes

-- octets that are read as a STATUS tell nothing
abbrev StatusIs : List ℕ → Type 0
StatusIs octets = (pdu : StatusPdu) × (am_at octets ≡ Ok (Control pdu))

wrote_piece : (t : Taken) → map (λ pdu. Writes pdu) (pdus_of t) ≡ written_in t
wrote_piece (taken.Piece number fresh polled octets) = refl
wrote_piece taken.Idle = refl
wrote_piece taken.Small = refl
wrote_piece taken.Shut = refl
wrote_piece taken.Held = refl
wrote_piece taken.Stopped = refl

silent : (octets : List ℕ) (a : Account) → StatusIs octets → accounted (Passes (Writes octets)) a ≡ a
silent octets a is = ap (λ (x : Result AcknowledgedPdu RlcRefusal). record a { rlc = written_as x a.rlc }) is.1

status_own : (due : Bool) (octets : List ℕ) (t : Taken) (a : Account) (s : Sender) → StatusIs octets
    → OwnOn a (entries_passed (written_in t)) s
    → OwnOn a (entries_written ((if due then octets ∷ [] else []) ++ pdus_of t)) s
status_own true octets t a s is h =
    let same = subst (λ (ps : List Passing). OwnOn a (entries_passed ps) s) (sym (wrote_piece t)) h in
    let rest = subst (λ (b : Account). OwnOn b (entries_written (pdus_of t)) s) (sym (silent octets a is)) same in
    record {
      own = (
        subst (λ (x : Result AcknowledgedPdu RlcRefusal). IsOwnPdu a.rlc x) (sym is.1) tt,
        rest.own,
      );
      owns = rest.owns;
    }
status_own false octets t a s is h =
    subst (λ (ps : List Passing). OwnOn a (entries_passed ps) s) (sym (wrote_piece t)) h

status_reads : (l : ℕ) (b : State) (share : ℕ) → WritesWell l (Am b) → StatusIs (status_pdu b.rx share)
status_reads l b share w = (_, (report_reads b.rx (share - 3) (ack b.rx (share - 3)) w.ready.cells).read)

pub takes_own : (l : ℕ) (b : State) (share : ℕ) (held : Option ℕ) (a : Account) → share ≤ 9424
    → AllByRecursion HasOctet (offers_in b share held) → WritesWell l (Am b) → Owns a.rlc.fields b.tx
    → OwnOn a (entries_written (pdus (Am b) share held)) (called b (Take share held)).tx
takes_own l b share held a most some well h =
    let size = data_size b share in
    let more = has_more_behind b share held in
    let fits = size_most b share most in
    let offers : List SenderCall = map (λ sdu. Offer sdu) (offers_in b share held) in
    let last : List SenderCall = Taking size held more ∷ [] in
    let m = sender_goes_on b (called b (Take share held)) (Take share held) (is_called b (Take share held)) in
    let s = offered_to b share held in
    let u = sender_after s (Taking size held more) in
    let x = take_owns size held more a s (omega (arith, fits))
    (offers_own a.rlc.fields (offers_in b share held) b.tx some h) in
    let left : (called b (Take share held)).tx ≡ sends_on m.own u =
    m.left ∙ ap (sends_on m.own) (sends_then b.tx offers last) in
    let all : OwnOn a (entries_passed (written_in (data_given b share held))) (sends_on m.own u) =
    record { own = x.own; owns = own_calls _ m.own u m.are_own x.owns } in
    let wrote = status_own (writes_status b.rx share) (status_pdu b.rx share) (data_given b share held) a
    (sends_on m.own u) (status_reads l b share well) all in
    subst (λ (ps : List (List ℕ)). OwnOn a (entries_written ps) (called b (Take share held)).tx)
    (sym (writes_what_rlc_gives b share held))
    (subst (λ (y : Sender). OwnOn a (entries_written (status_pdus b.rx share ++ pdus_of (data_given b share held))) y)
    (sym left) wrote)
