-- An acknowledged bearer goes along the history of its flow as a block comes.
use Rattle.std.proofs.Common.{◌≡◌, ℕ, List, [], ◌∷◌, ◌++◌, Some, slice_get, Result, Ok, Err, refl}
use Rattle.std.proofs.Common.{ap, sym, subst, ◌∙◌, append-nil}
use Rattle.std.specs.List.{AllByRecursion}
use Rattle.rlc_pdu.specs.declared.fault.RlcRefusal.{RlcRefusal}
use Rattle.rlc_pdu.specs.Pdus.{AcknowledgedPdu, AmdPdu, Payload, Status as Control}
use Rattle.rlc_pdu.specs.Reading.{am_at}
use Rattle.rlc_am_tx.specs.Machine.{State as Sender, heard, after_status}
use Rattle.bearer.specs.Acknowledged.Hearing.{arrived_left, arrived_told, after_arrival, arriving, confirms}
use Rattle.bearer.specs.Acknowledged.Hearing.{all_confirmed}
use Rattle.bearer.specs.Acknowledged.State.{State, work}
use Rattle.bearer.specs.Hearing.{arrived as any_arrived, arriving as any_arriving}
use Rattle.bearer.specs.declared.flow.Flow.{Flow as Bearer}
use Rattle.bearer.specs.declared.flow.Flow.TheVariants.{Am}
use Rattle.bearer_types.specs.declared.event.Event.{Event}
use Rattle.journal_account.specs.FlowEvents.{FlowEvent}
use Rattle.law_rlc.specs.AmPair.Flow.{Copy, Flow, sender, goes, am_rlc_outset}
use Rattle.law_bearer.specs.AnyBearer.Calls.{Arrive, after, after_all}
use Rattle.law_deliver.specs.AmFlow.Pair.{called}
use Rattle.law_deliver.specs.AmFlow.Reordering.{Reordering, reordering_in}
use Rattle.law_deliver.specs.AmFlow.Ups.{tells_in, tells_over}
use Rattle.law_deliver.proofs.AmFlow.Reordering.{in_both, control_silent}
use Rattle.law_deliver.proofs.AmFlow.Sending.{is_called}
use Rattle.law_account.specs.EndsTold.{AreEndsOf}
use Rattle.law_sound.specs.HearingLaws.{with_reordering, IsNoData, octets_of, Brings, NoData, OneData, arrivals}
use Rattle.law_sound.specs.HearingLaws.{BlocksAreHeard}
use Rattle.law_sound.proofs.Hearings.{bearers_hear_data}

-- ---- a PDU that isn't a data PDU

-- leaves the receiver as it is
left_by : (x : Result AcknowledgedPdu RlcRefusal) (b : State) → ((pdu : AmdPdu) → x ≡ Ok (Payload pdu) → ⊥)
    → (arrived_left x b).rx ≡ b.rx
left_by (Ok (Payload pdu)) b none = absurd (none pdu refl)
left_by (Ok (Control pdu)) b none = refl
left_by (Err refused) b none = refl

left_as : (octets : List ℕ) (b : State) → IsNoData octets → (called b (Arrive octets)).rx ≡ b.rx
unfolding any_arrived after_arrival
left_as octets b none = left_by (am_at octets) b none

-- and nothing is told of t-Reordering
silent_by : (x : Result AcknowledgedPdu RlcRefusal) (b : State) → ((pdu : AmdPdu) → x ≡ Ok (Payload pdu) → ⊥)
    → reordering_in (arrived_told x b) ≡ []
silent_by (Ok (Payload pdu)) b none = absurd (none pdu refl)
silent_by (Ok (Control pdu)) b none =
    control_silent (heard b.tx pdu)
    (work (confirms (after_status b.tx pdu).accounts.news b.pdcp) (all_confirmed (after_status b.tx pdu)) [])
silent_by (Err refused) b none = refl

silent_as : (l : ℕ) (octets : List ℕ) (b : State) → IsNoData octets
    → reordering_in (tells_in l (Am b) (Arrive octets)) ≡ []
unfolding any_arriving arriving
silent_as l octets b none = silent_by (am_at octets) b none

-- ---- PDUs come one behind the other

record IsHeardTo (most l : ℕ) (es : List FlowEvent) (tx : Sender) (b : State) (pdus : List (List ℕ)) : Type 0 where
  bearer : State
  is : after_all (Am b) (arrivals pdus) ≡ Am bearer
  ends : AreEndsOf most (with_reordering (reordering_in (tells_over l (Am b) (arrivals pdus))) es) tx bearer.rx

behind_silent : (l : ℕ) (b d : State) (octets : List ℕ) (pdus : List (List ℕ)) → IsNoData octets
    → after (Am b) (Arrive octets) ≡ Am d
    → reordering_in (tells_over l (Am b) (arrivals (octets ∷ pdus)))
    ≡ reordering_in (tells_over l (Am d) (arrivals pdus))
behind_silent l b d octets pdus none q =
    ap (λ (f : Bearer). reordering_in (tells_in l (Am b) (Arrive octets) ++ tells_over l f (arrivals pdus))) q
    ∙ (in_both (tells_in l (Am b) (Arrive octets)) (tells_over l (Am d) (arrivals pdus))
    ∙ ap (λ (xs : List Reordering). xs ++ reordering_in (tells_over l (Am d) (arrivals pdus)))
    (silent_as l octets b none))

heard_behind : (most l : ℕ) (es : List FlowEvent) (tx : Sender) (b : State) (octets : List ℕ) (pdus : List (List ℕ))
    → IsNoData octets → IsHeardTo most l es tx (called b (Arrive octets)) pdus
    → IsHeardTo most l es tx b (octets ∷ pdus)
heard_behind most l es tx b octets pdus none h =
    let d = called b (Arrive octets) in
    let q : after (Am b) (Arrive octets) ≡ Am d = is_called b (Arrive octets) in
    record {
      bearer = h.bearer;
      is = ap (λ (f : Bearer). after_all f (arrivals pdus)) q ∙ h.is;
      ends = subst (λ (xs : List Reordering). AreEndsOf most (with_reordering xs es) tx h.bearer.rx)
          (sym (behind_silent l b d octets pdus none q)) h.ends;
    }

none_heard : (most l : ℕ) (es : List FlowEvent) (tx : Sender) (b : State) (pdus : List (List ℕ))
    → AllByRecursion IsNoData pdus → AreEndsOf most es tx b.rx → IsHeardTo most l es tx b pdus
none_heard most l es tx b [] none ends = record { bearer = b; is = refl; ends = ends }
none_heard most l es tx b (octets ∷ pdus) none ends =
    heard_behind most l es tx b octets pdus none.0
    (none_heard most l es tx (called b (Arrive octets)) pdus none.1
    (subst (AreEndsOf most es tx) (sym (left_as octets b none.0)) ends))

-- ---- one of them is a data PDU that is under way

last_heard : (most l : ℕ) (es : List FlowEvent) (tx : Sender) (octets : List ℕ) (before : List (List ℕ)) (b : State)
    → ((d : State) → d.rx ≡ b.rx → IsHeardTo most l es tx d (octets ∷ [])) → AllByRecursion IsNoData before
    → IsHeardTo most l es tx b (before ++ octets ∷ [])
last_heard most l es tx octets [] b comes none = comes b refl
last_heard most l es tx octets (one ∷ before) b comes none =
    heard_behind most l es tx b one (before ++ octets ∷ []) none.0
    (last_heard most l es tx octets before (called b (Arrive one))
    (λ d same. comes d (same ∙ left_as one b none.0)) none.1)

pub blocks_are_heard : BlocksAreHeard
blocks_are_heard sending receiving steps given most l es came b d pdus brings here q ends = by brings
  where
    f : Flow
    f = goes steps (am_rlc_outset sending receiving)

    tx : Sender
    tx = (sender f).state

    to : (xs : List FlowEvent) → IsHeardTo most l xs tx b pdus
        → AreEndsOf most (with_reordering (reordering_in (tells_over l (Am b) (arrivals pdus))) xs) tx d.rx
    to xs h =
        let same : Am h.bearer ≡ Am d = sym h.is ∙ q in
        let is : h.bearer ≡ d = cc in
        subst (λ (x : State).
        AreEndsOf most (with_reordering (reordering_in (tells_over l (Am b) (arrivals pdus))) xs) tx x.rx) is h.ends

    data_heard : (c : Copy) (k : ℕ) (pdu : AmdPdu) → slice_get f.copies k ≡ Some c → am_at c.octets ≡ Ok (Payload pdu)
        → (x : State) → x.rx ≡ b.rx → IsHeardTo most l (octets_of c pdu ∷ es) tx x (c.octets ∷ [])
    data_heard c k pdu at read x same = record {
      bearer = called x (Arrive c.octets);
      is = is_called x (Arrive c.octets);
      ends = subst (λ (told : List Event).
          AreEndsOf most (with_reordering (reordering_in told) (octets_of c pdu ∷ es)) tx
          (called x (Arrive c.octets)).rx)
          (sym (append-nil (tells_in l (Am x) (Arrive c.octets))))
          (bearers_hear_data sending receiving steps given most l es x (called x (Arrive c.octets)) k c pdu at read
          (same ∙ here) (is_called x (Arrive c.octets)) (subst (AreEndsOf most es tx) (sym same) ends));
    }

    by : Brings f pdus came
        → AreEndsOf most (with_reordering (reordering_in (tells_over l (Am b) (arrivals pdus))) (came ++ es)) tx d.rx
    by (NoData none nothing) =
        subst (λ (xs : List FlowEvent). AreEndsOf most
        (with_reordering (reordering_in (tells_over l (Am b) (arrivals pdus))) (xs ++ es)) tx d.rx) (sym nothing)
        (to es (none_heard most l es tx b pdus none ends))
    by (OneData before c k pdu none pdus_are at read came_is) =
        subst (λ (xs : List FlowEvent). AreEndsOf most
        (with_reordering (reordering_in (tells_over l (Am b) (arrivals pdus))) (xs ++ es)) tx d.rx) (sym came_is)
        (to (octets_of c pdu ∷ es) (subst (IsHeardTo most l (octets_of c pdu ∷ es) tx b) (sym pdus_are)
        (last_heard most l (octets_of c pdu ∷ es) tx c.octets before b (data_heard c k pdu at read) none)))
