-- Each step of a life brings both ways on, where each PDU that comes does.
use Rattle.std.proofs.Common.{◌≡◌, ℕ, List, [], Option, Some, None, slice_get, refl, subst}
use Rattle.rlc_am_tx.specs.Machine.{State as Sender}
use Rattle.law_words.specs.Arrivals.{AccountEntry}
use Rattle.law_rlc.specs.AmPair.Flow.{Copy, Report, sender}
use Rattle.bearer.specs.Acknowledged.State.{State}
use Rattle.law_deliver.specs.AmFlow.Pair.{BearerEnd, Pair, Deed, Calls, DataComes, StatusComes, DataGoes}
use Rattle.law_deliver.specs.AmFlow.Pair.{StatusGoes, Near, Far, Passes, does, happens, IsDone}
use Rattle.law_deliver.specs.AmDelivery.Arrival.{said_by, heard_by}
use Rattle.law_deliver.specs.AmDelivery.Lives.{InLife, MayBeDone, call_by, call_of, calls_in, news_by, ups_by}
use Rattle.law_deliver.proofs.AmDelivery.Joined.{Way, rlc}
use Rattle.law_deliver.proofs.AmDelivery.Promises.{BothGoOn, StepsGoOn}
use Rattle.law_deliver.proofs.AmDelivery.Ends.{JoinedEnds, EndsGoOn, near_ends, far_ends, from_near, from_far}
use Rattle.law_deliver.proofs.AmDelivery.Calling.{calls_go_on}
use Rattle.law_deliver.proofs.AmDelivery.Lasting.{Lasts, given_by, raised_by, confirmed_as_heard}
use Rattle.law_deliver.proofs.AmDelivery.Losing.{data_goes, status_goes, passes_go_on}

abbrev DeedGoesOn : Deed → Type 0
DeedGoesOn d = (bits : ℕ) (out inn : Way) (e o : BearerEnd) → JoinedEnds bits out inn e o → IsDone e d
    → MayBeDone e.bearer d
    → EndsGoOn bits out inn (does o e d) o (news_by e.bearer (calls_in o d)) (ups_by e.bearer (calls_in o d))
    (said_by e.bearer (calls_in o d)) (heard_by (calls_in o d)) (given_by e.bearer (calls_in o d))
    (raised_by e.bearer (calls_in o d))

-- nothing is taken as something comes
abbrev pub ComesSo : Deed → Type 0
ComesSo d = (bits : ℕ) (out inn : Way) (e o : BearerEnd) → JoinedEnds bits out inn e o
    → EndsGoOn bits out inn (does o e d) o [] (ups_by e.bearer (calls_in o d)) [] (heard_by (calls_in o d))
    [] (raised_by e.bearer (calls_in o d))

data_news : (b : State) (x : Option Copy) → [] ≡ news_by b (call_by x)
data_news b None = refl
data_news b (Some c) = refl

status_news : (b : State) (x : Option Report) → [] ≡ news_by b (call_of x)
status_news b None = refl
status_news b (Some s) = refl

data_said : (b : State) (x : Option Copy) → [] ≡ said_by b (call_by x)
data_said b None = refl
data_said b (Some c) = refl

status_said : (b : State) (x : Option Report) → [] ≡ said_by b (call_of x)
status_said b None = refl
status_said b (Some s) = refl

data_given : (b : State) (x : Option Copy) → [] ≡ given_by b (call_by x)
data_given b None = refl
data_given b (Some c) = refl

status_given : (b : State) (x : Option Report) → [] ≡ given_by b (call_of x)
status_given b None = refl
status_given b (Some s) = refl

-- ---- a deed at an end is a step

near_goes_on : (bits : ℕ) (down up : Way) (p : Pair) (d : Deed) → (sender (rlc down)).state ≡ p.near.bearer.tx
    → EndsGoOn bits down up (does p.far p.near d) p.far (news_by p.near.bearer (calls_in p.far d))
    (ups_by p.near.bearer (calls_in p.far d)) (said_by p.near.bearer (calls_in p.far d)) (heard_by (calls_in p.far d))
    (given_by p.near.bearer (calls_in p.far d)) (raised_by p.near.bearer (calls_in p.far d))
    → BothGoOn bits down up p (InLife (Near d))
near_goes_on bits down up p d q m = record {
  down_after = m.out_after;
  up_after = m.inn_after;
  joined = from_near bits m.out_after m.inn_after (happens p (Near d)) m.joined;
  down_goes = m.out_goes;
  up_goes = m.inn_goes;
  down_lasts = λ in'.
      subst (λ (tx : Sender). Lasts down m.out_after (given_by p.near.bearer (calls_in p.far d)) []
      (confirmed_as_heard (heard_by (calls_in p.far d)) tx)) q m.out_lasts;
  up_lasts = λ in'. m.inn_lasts;
}

far_goes_on : (bits : ℕ) (down up : Way) (p : Pair) (d : Deed) → (sender (rlc up)).state ≡ p.far.bearer.tx
    → EndsGoOn bits up down (does p.near p.far d) p.near (news_by p.far.bearer (calls_in p.near d))
    (ups_by p.far.bearer (calls_in p.near d)) (said_by p.far.bearer (calls_in p.near d))
    (heard_by (calls_in p.near d)) (given_by p.far.bearer (calls_in p.near d))
    (raised_by p.far.bearer (calls_in p.near d))
    → BothGoOn bits down up p (InLife (Far d))
far_goes_on bits down up p d q m = record {
  down_after = m.inn_after;
  up_after = m.out_after;
  joined = from_far bits m.inn_after m.out_after (happens p (Far d)) m.joined;
  down_goes = m.inn_goes;
  up_goes = m.out_goes;
  down_lasts = λ in'. m.inn_lasts;
  up_lasts = λ in'.
      subst (λ (tx : Sender). Lasts up m.out_after (given_by p.far.bearer (calls_in p.near d)) []
      (confirmed_as_heard (heard_by (calls_in p.near d)) tx)) q m.out_lasts;
}

-- ---- any step

deeds_go_on : ((k : ℕ) → ComesSo (DataComes k)) → ((k : ℕ) → ComesSo (StatusComes k)) → (d : Deed) → DeedGoesOn d
deeds_go_on data_so status_so (Calls c) bits out inn e o h g ok = calls_go_on bits out inn e o c h g ok
deeds_go_on data_so status_so (DataComes k) bits out inn e o h g ok =
    let d : Deed = DataComes k in
    let x = slice_get o.copies k in
    let raised = raised_by e.bearer (calls_in o d) in
    subst (λ (given : List (List ℕ)). EndsGoOn bits out inn (does o e d) o (news_by e.bearer (calls_in o d))
    (ups_by e.bearer (calls_in o d)) (said_by e.bearer (calls_in o d)) (heard_by (calls_in o d)) given raised)
    (data_given e.bearer x)
    (subst (λ (said : List AccountEntry). EndsGoOn bits out inn (does o e d) o (news_by e.bearer (calls_in o d))
    (ups_by e.bearer (calls_in o d)) said (heard_by (calls_in o d)) [] raised) (data_said e.bearer x)
    (subst (λ (l : List (List ℕ)). EndsGoOn bits out inn (does o e d) o l (ups_by e.bearer (calls_in o d)) []
    (heard_by (calls_in o d)) [] raised) (data_news e.bearer x) (data_so k bits out inn e o h)))
deeds_go_on data_so status_so (StatusComes k) bits out inn e o h g ok =
    let d : Deed = StatusComes k in
    let x = slice_get o.reports k in
    let raised = raised_by e.bearer (calls_in o d) in
    subst (λ (given : List (List ℕ)). EndsGoOn bits out inn (does o e d) o (news_by e.bearer (calls_in o d))
    (ups_by e.bearer (calls_in o d)) (said_by e.bearer (calls_in o d)) (heard_by (calls_in o d)) given raised)
    (status_given e.bearer x)
    (subst (λ (said : List AccountEntry). EndsGoOn bits out inn (does o e d) o (news_by e.bearer (calls_in o d))
    (ups_by e.bearer (calls_in o d)) said (heard_by (calls_in o d)) [] raised) (status_said e.bearer x)
    (subst (λ (l : List (List ℕ)). EndsGoOn bits out inn (does o e d) o l (ups_by e.bearer (calls_in o d)) []
    (heard_by (calls_in o d)) [] raised) (status_news e.bearer x) (status_so k bits out inn e o h)))
deeds_go_on data_so status_so (DataGoes k) bits out inn e o h g ok = data_goes bits out inn e o k h
deeds_go_on data_so status_so (StatusGoes k) bits out inn e o h g ok = status_goes bits out inn e o k h

pub steps_go_on : ((k : ℕ) → ComesSo (DataComes k)) → ((k : ℕ) → ComesSo (StatusComes k)) → StepsGoOn
steps_go_on data_so status_so bits down up p (Near d) h g ok =
    near_goes_on bits down up p d h.down_joins.rlc_is.sender_is
    (deeds_go_on data_so status_so d bits down up p.near p.far (near_ends bits down up p h) g ok)
steps_go_on data_so status_so bits down up p (Far d) h g ok =
    far_goes_on bits down up p d h.up_joins.rlc_is.sender_is
    (deeds_go_on data_so status_so d bits up down p.far p.near (far_ends bits down up p h) g ok)
steps_go_on data_so status_so bits down up p Passes h g ok = passes_go_on bits down up p h g
