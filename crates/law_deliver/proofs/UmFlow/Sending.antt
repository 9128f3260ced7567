-- What happens at an end is, to the run of RLC's sender there, offers and a take.
use Rattle.std.proofs.Common.{◌≡◌, ℕ, Bool, true, false, List, [], ◌∷◌, ◌++◌, map, Option, Result, Ok, Err}
use Rattle.std.proofs.Common.{append_assoc, append-nil, refl, sym, subst}
use Rattle.std.specs.List.{AllByRecursion}
use Rattle.l2_num.specs.Timers.{ends as ends_now}
use Rattle.l2_types.specs.declared.Clock.{Clock}
use Rattle.l2_types.specs.declared.Clock.TheVariants.{Poll, Reorder, Prohibit}
use Rattle.rlc_pdu.specs.declared.Expired.{Expired}
use Rattle.rlc_pdu.specs.declared.Expired.TheVariants.{Done, NotRunning}
use Rattle.rlc_pdu.specs.declared.RlcRefusal.{RlcRefusal}
use Rattle.rlc_pdu.specs.declared.outcome.Taken.{Taken}
use Rattle.rlc_pdu.specs.Pdus.{UmdPdu, IsUmBits}
use Rattle.rlc_pdu.specs.Reading.{umd_at}
use Rattle.rlc_um.specs.Sender.{Sender, taken as rlc_taken, after_take, offered}
use Rattle.rlc_um.specs.Receiver.{State as Receiver, expiring}
use Rattle.bearer.specs.Unacknowledged.State.{State}
use Rattle.bearer.specs.Unacknowledged.Taking.{feeding, size_in, answer, after_taking}
use Rattle.bearer.specs.Unacknowledged.Hearing.{arrived_left, after_arrival, expiry_left, clock_left, after_expiry}
use Rattle.bearer.specs.Unacknowledged.Hearing.{counted_down, timed_left, after_ticking}
use Rattle.bearer.specs.declared.flow.Flow.TheVariants.{Um}
use Rattle.bearer.specs.Submitting.{submitted}
use Rattle.bearer.specs.Taking.{after as taken_from}
use Rattle.bearer.specs.Hearing.{arrived as flow_arrived, expired, ticked, with_discard}
use Rattle.law_bearer.specs.AnyBearer.Calls.{Call, Submit, Take, Arrive, Expire, Tick, SetDiscard, after, ends}
use Rattle.law_bearer.specs.AnyBearer.Stream.{takes, pdu_of, pdus_of, um_offered}
use Rattle.law_bearer.proofs.AnyBearer.Flows.{is_offered}
use Rattle.law_rlc.specs.AmPair.Flow.{Copy, copies_with}
use Rattle.law_deliver.specs.UmFlow.Pair.{BearerEnd, called, written_by, HasOctet, IsTaking, IsCalling}
use Rattle.law_rlc.specs.UmPair.Run.{Call as ReceiverCall}
use Rattle.law_rlc.specs.UmPair.Send.{Step as SenderStep, Offer, Take as Takes}
use Rattle.law_deliver.specs.UmFlow.Runs.{sender_steps}
use Rattle.law_deliver.proofs.UmFlow.Standing.{Stands, offers_one, takes_one}

-- ---- an unacknowledged bearer stays one, with numbers of as many bits

pub is_called : (b : State) (c : Call) → after (Um b) c ≡ Um (called b c)
unfolding submitted taken_from flow_arrived expired ticked with_discard
is_called b (Submit sdu) = refl
is_called b (Take share held) = refl
is_called b (Arrive pdu) = refl
is_called b (Expire clock) = refl
is_called b Tick = refl
is_called b (SetDiscard ttis) = refl

-- what no call but a take changes
pub record SendsAlike (b d : State) : Type 0 where
  pub tx_is : d.tx ≡ b.tx
  pub bits_are : d.bits ≡ b.bits
  pub reorder_is : d.reorder ≡ b.reorder

alike : (b : State) → SendsAlike b b
alike b = record { tx_is = refl; bits_are = refl; reorder_is = refl }

arrived_alike : (r : Result UmdPdu RlcRefusal) (b : State) → SendsAlike b (arrived_left r b)
arrived_alike (Err refused) b = alike b
arrived_alike (Ok pdu) b = record { tx_is = refl; bits_are = refl; reorder_is = refl }

expired_alike : (x : Expired) (b : State) → SendsAlike b (expiry_left x b)
expired_alike NotRunning b = alike b
expired_alike (Done again) b = record { tx_is = refl; bits_are = refl; reorder_is = refl }

clock_alike : (clock : Clock) (b : State) → SendsAlike b (clock_left clock b)
clock_alike Poll b = alike b
clock_alike Reorder b = expired_alike (expiring b.rx) b
clock_alike Prohibit b = alike b

timed_alike : (now : Bool) (b : State) → SendsAlike b (timed_left now b)
unfolding after_expiry
timed_alike true b = clock_alike Reorder b
timed_alike false b = alike b

abbrev pub IsNoTake : Call → Type 0
IsNoTake (Submit sdu) = Unit {0}
IsNoTake (Take share held) = ⊥
IsNoTake (Arrive pdu) = Unit {0}
IsNoTake (Expire clock) = Unit {0}
IsNoTake Tick = Unit {0}
IsNoTake (SetDiscard ttis) = Unit {0}

pub called_alike : (b : State) (c : Call) → IsNoTake c → SendsAlike b (called b c)
unfolding submitted flow_arrived expired ticked with_discard after_arrival after_expiry after_ticking
called_alike b (Submit sdu) n = record { tx_is = refl; bits_are = refl; reorder_is = refl }
called_alike b (Take share held) n = absurd n
called_alike b (Arrive pdu) n = arrived_alike (umd_at b.bits pdu) b
called_alike b (Expire clock) n = clock_alike clock b
called_alike b Tick n = let t = timed_alike (ends_now b.rx.clock) (counted_down b) in
    record { tx_is = t.tx_is; bits_are = t.bits_are; reorder_is = t.reorder_is }
called_alike b (SetDiscard ttis) n = record { tx_is = refl; bits_are = refl; reorder_is = refl }

-- how it is set
pub record IsSetAlike (b d : State) : Type 0 where
  pub bits_are : d.bits ≡ b.bits
  pub reorder_is : d.reorder ≡ b.reorder

take_set : (b : State) (share : ℕ) (held : Option ℕ) → IsSetAlike b (called b (Take share held))
unfolding taken_from after_taking
take_set b share held = record { bits_are = refl; reorder_is = refl }

set_by : (b d : State) → SendsAlike b d → IsSetAlike b d
set_by b d h = record { bits_are = h.bits_are; reorder_is = h.reorder_is }

pub stays_set : (b : State) (c : Call) → IsSetAlike b (called b c)
stays_set b (Submit sdu) = set_by b (called b (Submit sdu)) (called_alike b (Submit sdu) tt)
stays_set b (Take share held) = take_set b share held
stays_set b (Arrive pdu) = set_by b (called b (Arrive pdu)) (called_alike b (Arrive pdu) tt)
stays_set b (Expire clock) = set_by b (called b (Expire clock)) (called_alike b (Expire clock) tt)
stays_set b Tick = set_by b (called b Tick) (called_alike b Tick tt)
stays_set b (SetDiscard ttis) = set_by b (called b (SetDiscard ttis)) (called_alike b (SetDiscard ttis) tt)

-- ---- a take

module _ (bits reorder : ℕ) (calls : List ReceiverCall) (rx : Receiver) (heard : List (List ℕ)) where
  offers_all : (pdus : List (List ℕ)) (steps : List SenderStep) (tx : Sender) (cs : List Copy) (given : List (List ℕ))
      → AllByRecursion HasOctet pdus → Stands bits reorder steps calls tx rx cs given heard
      → Stands bits reorder (steps ++ map (λ pdu. Offer pdu) pdus) calls (um_offered pdus tx) rx cs (given ++ pdus)
      heard
  offers_all [] steps tx cs given some h =
      subst (λ (l : List (List ℕ)). Stands bits reorder (steps ++ []) calls tx rx cs l heard) (sym (append-nil given))
      (subst (λ (l : List SenderStep). Stands bits reorder l calls tx rx cs given heard) (sym (append-nil steps)) h)
  offers_all (pdu ∷ pdus) steps tx cs given some h =
      let offers : List SenderStep = map (λ pdu. Offer pdu) pdus in
      subst (λ (l : List (List ℕ)). Stands bits reorder (steps ++ Offer pdu ∷ offers) calls
      (um_offered pdus (offered pdu tx)) rx cs l heard) (append_assoc given (pdu ∷ []) pdus)
      (subst (λ (l : List SenderStep). Stands bits reorder l calls (um_offered pdus (offered pdu tx)) rx cs
      ((given ++ pdu ∷ []) ++ pdus) heard) (append_assoc steps (Offer pdu ∷ []) offers)
      (offers_all pdus (steps ++ Offer pdu ∷ []) (offered pdu tx) cs (given ++ pdu ∷ []) some.1
      (offers_one bits reorder steps calls tx rx cs given heard pdu some.0 h)))

  take_tx : (b : State) (share : ℕ) (held : Option ℕ)
      → (called b (Take share held)).tx ≡ after_take (feeding b share held).tx (size_in share) held
  unfolding taken_from after_taking
  take_tx b share held = refl

  take_answers : (b : State) (share : ℕ) (held : Option ℕ)
      → answer b share held ≡ rlc_taken (feeding b share held).tx (size_in share) held
  unfolding answer
  take_answers b share held = refl

  takes_all : (e : BearerEnd) (share : ℕ) (held : Option ℕ) (steps : List SenderStep) (given : List (List ℕ))
      → IsUmBits bits → IsTaking e share held → Stands bits reorder steps calls e.bearer.tx rx e.copies given heard
      → Stands bits reorder (steps ++ sender_steps e.bearer (Take share held)) calls
      (called e.bearer (Take share held)).tx rx (copies_with (answer e.bearer share held) e.copies)
      (given ++ map (pdu_of e.bearer.pdcp.tx) (takes (Um e.bearer) (Take share held))) heard
  takes_all e share held steps given u t h =
      let b = e.bearer in
      let pdus : List (List ℕ) = map (pdu_of b.pdcp.tx) (takes (Um b) (Take share held)) in
      let offers : List SenderStep = map (λ pdu. Offer pdu) pdus in
      let last : List SenderStep = Takes (size_in share) held ∷ [] in
      let fed : Stands bits reorder (steps ++ offers) calls (feeding b share held).tx rx e.copies (given ++ pdus)
      heard =
      subst (λ (tx : Sender). Stands bits reorder (steps ++ offers) calls tx rx e.copies (given ++ pdus) heard)
      (sym (is_offered (Um b) share held)) (offers_all pdus steps b.tx e.copies given t.some h) in
      subst (λ (l : List SenderStep). Stands bits reorder l calls (called b (Take share held)).tx rx
      (copies_with (answer b share held) e.copies) (given ++ pdus) heard) (append_assoc steps offers last)
      (subst (λ (tx : Sender). Stands bits reorder ((steps ++ offers) ++ last) calls tx rx
      (copies_with (answer b share held) e.copies) (given ++ pdus) heard) (sym (take_tx b share held))
      (subst (λ (a : Taken). Stands bits reorder ((steps ++ offers) ++ last) calls
      (after_take (feeding b share held).tx (size_in share) held) rx (copies_with a e.copies) (given ++ pdus)
      heard) (sym (take_answers b share held))
      (takes_one bits reorder (steps ++ offers) calls (feeding b share held).tx rx e.copies (given ++ pdus) heard
      (size_in share) held u t.lowest fed)))

  -- ---- any call

  pub sends_none : (b d : State) (steps : List SenderStep) (cs : List Copy) (given : List (List ℕ)) → d.tx ≡ b.tx
      → Stands bits reorder steps calls b.tx rx cs given heard
      → Stands bits reorder (steps ++ []) calls d.tx rx cs (given ++ []) heard
  sends_none b d steps cs given q h =
      subst (λ (tx : Sender). Stands bits reorder (steps ++ []) calls tx rx cs (given ++ []) heard) (sym q)
      (subst (λ (l : List (List ℕ)). Stands bits reorder (steps ++ []) calls b.tx rx cs l heard)
      (sym (append-nil given))
      (subst (λ (l : List SenderStep). Stands bits reorder l calls b.tx rx cs given heard) (sym (append-nil steps)) h))

  pub calls_send : (e : BearerEnd) (c : Call) (steps : List SenderStep) (given : List (List ℕ)) → IsUmBits bits
      → IsCalling e c → Stands bits reorder steps calls e.bearer.tx rx e.copies given heard
      → Stands bits reorder (steps ++ sender_steps e.bearer c) calls (called e.bearer c).tx rx
      (copies_with (written_by e.bearer c) e.copies) (given ++ pdus_of (ends (Um e.bearer)) (takes (Um e.bearer) c))
      heard
  calls_send e (Submit sdu) steps given u g h =
      sends_none e.bearer (called e.bearer (Submit sdu)) steps e.copies given
      (called_alike e.bearer (Submit sdu) tt).tx_is h
  calls_send e (Take share held) steps given u g h = takes_all e share held steps given u g h
  calls_send e (Arrive pdu) steps given u g h = absurd g
  calls_send e (Expire clock) steps given u g h =
      sends_none e.bearer (called e.bearer (Expire clock)) steps e.copies given
      (called_alike e.bearer (Expire clock) tt).tx_is h
  calls_send e Tick steps given u g h =
      sends_none e.bearer (called e.bearer Tick) steps e.copies given (called_alike e.bearer Tick tt).tx_is h
  calls_send e (SetDiscard ttis) steps given u g h =
      sends_none e.bearer (called e.bearer (SetDiscard ttis)) steps e.copies given
      (called_alike e.bearer (SetDiscard ttis) tt).tx_is h

pub arrival_sends : (b : State) (pdu : List ℕ) → (called b (Arrive pdu)).tx ≡ b.tx
arrival_sends b pdu = (called_alike b (Arrive pdu) tt).tx_is
