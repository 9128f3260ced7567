-- What RLC of a direction is given, hands up and newly confirms in a step of a life.
use Rattle.std.proofs.Common.{◌≡◌, ℕ, List, [], ◌∷◌, ◌++◌, map, Result, Ok, Err, append-nil, append_assoc, ap, sym}
use Rattle.std.proofs.Common.{◌∙◌}
use Rattle.pdcp_tx.specs.declared.sender.Next.{Next}
use Rattle.rlc_am_tx.specs.Machine.{State as Sender, after_status}
use Rattle.rlc_am_rx.specs.Machine.{arrived as landed_in}
use Rattle.rlc_am_rx.specs.State.{State as Receiver}
use Rattle.rlc_pdu.specs.declared.fault.RlcRefusal.{RlcRefusal}
use Rattle.rlc_pdu.specs.Pdus.{AcknowledgedPdu, Payload, Status}
use Rattle.rlc_pdu.specs.Reading.{am_at}
use Rattle.bearer.specs.Acknowledged.State.{State}
use Rattle.law_bearer.specs.AnyBearer.Acknowledged.{offers_in}
use Rattle.law_bearer.specs.AnyBearer.Calls.{Call, Submit, Take, Arrive, Expire, Tick, SetDiscard}
use Rattle.law_rlc.specs.AmPair.Confirmed.{confirmed}
use Rattle.law_rlc.specs.AmPair.Sdus.{offered, handed_up}
use Rattle.law_words.specs.Arrivals.{AccountEntry, Gives, Passes, Renews}
use Rattle.law_words.specs.Passing.{Passing, Writes, Comes}
use Rattle.law_deliver.specs.AmDelivery.Arrival.{heard_in, heard_by}
use Rattle.law_deliver.specs.AmFlow.Pair.{Pair}
use Rattle.law_deliver.specs.AmDelivery.Lives.{LifeStep, InLife, Restarts, near_calls, far_calls}
use Rattle.law_deliver.proofs.AmDelivery.Joined.{Way, rlc, pdcp}

-- ---- by a call of an end

-- the PDUs of PDCP that RLC takes
abbrev pub given_in : State → Call → List (List ℕ)
given_in b (Submit sdu) = []
given_in b (Take share held) = offers_in b share held
given_in b (Arrive pdu) = []
given_in b (Expire clock) = []
given_in b Tick = []
given_in b (SetDiscard ttis) = []

-- and those that it hands up as data come
abbrev pub raised_by_pdu : Result AcknowledgedPdu RlcRefusal → Receiver → List (List ℕ)
raised_by_pdu (Err refused) r = []
raised_by_pdu (Ok (Payload pdu)) r = (landed_in r pdu).out.ready
raised_by_pdu (Ok (Status pdu)) r = []

abbrev pub raised_in : State → Call → List (List ℕ)
raised_in b (Submit sdu) = []
raised_in b (Take share held) = []
raised_in b (Arrive pdu) = raised_by_pdu (am_at pdu) b.rx
raised_in b (Expire clock) = []
raised_in b Tick = []
raised_in b (SetDiscard ttis) = []

-- and what it newly confirms as a STATUS comes
abbrev pub confirmed_by_pdu : Result AcknowledgedPdu RlcRefusal → Sender → List ℕ
confirmed_by_pdu (Err refused) s = []
confirmed_by_pdu (Ok (Payload pdu)) s = []
confirmed_by_pdu (Ok (Status pdu)) s = (after_status s pdu).accounts.news

abbrev pub confirmed_as_passes : Passing → Sender → List ℕ
confirmed_as_passes (Writes octets) s = []
confirmed_as_passes (Comes octets) s = confirmed_by_pdu (am_at octets) s

abbrev pub confirmed_as : AccountEntry → Sender → List ℕ
confirmed_as (Gives g) s = []
confirmed_as (Passes p) s = confirmed_as_passes p s
confirmed_as Renews s = []

-- as so much is heard, at most one PDU
abbrev pub confirmed_as_heard : List AccountEntry → Sender → List ℕ
confirmed_as_heard [] s = []
confirmed_as_heard (h ∷ hs) s = confirmed_as h s

abbrev pub confirmed_in : State → Call → List ℕ
confirmed_in b c = confirmed_as_heard (heard_in c) b.tx

-- ---- in a step, in which an end is called once or not at all

abbrev pub given_by : State → List Call → List (List ℕ)
given_by b [] = []
given_by b (c ∷ cs) = given_in b c

abbrev pub raised_by : State → List Call → List (List ℕ)
raised_by b [] = []
raised_by b (c ∷ cs) = raised_in b c

abbrev pub confirmed_by : State → List Call → List ℕ
confirmed_by b cs = confirmed_as_heard (heard_by cs) b.tx

-- so at each end
abbrev pub near_in : {X : Type 0} → (State → List Call → List X) → Pair → LifeStep → List X
near_in by p (InLife s) = by p.near.bearer (near_calls p s)
near_in by p (Restarts keys) = []

abbrev pub far_in : {X : Type 0} → (State → List Call → List X) → Pair → LifeStep → List X
far_in by p (InLife s) = by p.far.bearer (far_calls p s)
far_in by p (Restarts keys) = []

abbrev pub IsOfLife : LifeStep → Type 0
IsOfLife (InLife s) = Unit {0}
IsOfLife (Restarts keys) = ⊥

-- ---- a way goes on in a life

-- RLC is given these, hands these up and newly confirms these
pub record Lasts (w v : Way) (given raised : List (List ℕ)) (news : List ℕ) : Type 0 where
  pub offered_is : offered (rlc v) ≡ offered (rlc w) ++ given
  pub handed_is : handed_up (rlc v) ≡ handed_up (rlc w) ++ raised
  pub confirmed_is : confirmed (rlc v) ≡ confirmed (rlc w) ++ news

pub lasts_so : (w : Way) → Lasts w w [] [] []
lasts_so w = record {
  offered_is = sym (append-nil (offered (rlc w)));
  handed_is = sym (append-nil (handed_up (rlc w)));
  confirmed_is = sym (append-nil (confirmed (rlc w)));
}

pub lasts_then : (u v w : Way) (given more raised later : List (List ℕ)) (news last : List ℕ)
    → Lasts u v given raised news → Lasts v w more later last
    → Lasts u w (given ++ more) (raised ++ later) (news ++ last)
lasts_then u v w given more raised later news last h k = record {
  offered_is = k.offered_is ∙ ap (λ (l : List (List ℕ)). l ++ more) h.offered_is
      ∙ append_assoc (offered (rlc u)) given more;
  handed_is = k.handed_is ∙ ap (λ (l : List (List ℕ)). l ++ later) h.handed_is
      ∙ append_assoc (handed_up (rlc u)) raised later;
  confirmed_is = k.confirmed_is ∙ ap (λ (l : List ℕ). l ++ last) h.confirmed_is
      ∙ append_assoc (confirmed (rlc u)) news last;
}

-- none is given where PDCP gives none
pub none_given : (w v : Way) → map (λ (n : Next). n.octets) (pdcp w).stream ≡ offered (rlc w)
    → map (λ (n : Next). n.octets) (pdcp v).stream ≡ offered (rlc v) → (pdcp v).stream ≡ (pdcp w).stream
    → offered (rlc v) ≡ offered (rlc w)
none_given w v before now same =
    sym now ∙ ap (map (λ (n : Next). n.octets)) same ∙ before
