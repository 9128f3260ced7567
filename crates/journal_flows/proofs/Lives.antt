-- Events that can be make histories, and what is kept of a flow is the account of its history.
use Rattle.std.proofs.Common.{◌≡◌, ℕ, ◌^◌, ◌<◌, ◌≤◌, Bool, true, false, List, [], ◌∷◌, Some, None}
use Rattle.std.proofs.Common.{refl, inl, inr}
use Rattle.std.proofs.Common.{ap, sym, ◌∙◌, arith, subst, if◌then◌else◌}
use Rattle.std.specs.Prelude.{nat_lt, nat_le}
use Rattle.std.proofs.lemmas.Bool.{and_parts, ltb-true, leb-true, false≢true, cases_lt}
use Rattle.l2_num.specs.Least.{IsLeast}
use Rattle.journal_account.specs.FlowEvents.{SduTaken, NumberWritten, OctetsResent, OctetsArrived, ReorderStarted}
use Rattle.journal_account.specs.FlowEvents.{ReorderExpired, StatusHeard, PollExpired, IsHistory, next_of}
use Rattle.journal_account.specs.Arrived.{is_complete_in}
use Rattle.journal_account.specs.FlowArrivals.{next_in}
use Rattle.journal_account.specs.FlowSending.{sent_in}
use Rattle.journal_account.specs.Laws.{IsAccount}
use Rattle.journal_account.proofs.Accounts.{accounts_are_true}
use Rattle.journal_lives.specs.FlowLives.{FlowLives, lives_of, lives_with}
use Rattle.journal_lives.specs.LifeEvents.{LifeEvent, PduGiven, InLife, LifeEnded, running, IsPossibleLife, AreLives}
use Rattle.journal_lives.proofs.LivesTold.{lives_are_true}
use Rattle.journal_flows.specs.Possible.{are_octets, is_possible, with_event, most_octets}
use Rattle.journal_flows.specs.NumberedPdus.{front_in}
use Rattle.journal_flows.specs.FlowKept.{kept_with, IsOfHistory}
use Rattle.journal_flows.proofs.Numbers.{front_least}

-- ---- events that can be

some_octets : (from to : ℕ) → are_octets from to ≡ true → from < to
some_octets from to h = ltb-true from to (and_parts (nat_lt from to) (nat_le to most_octets) h).0

pub possible : (e : LifeEvent) (es : List LifeEvent) → is_possible (next_of (running es)) e ≡ true
    → IsPossibleLife e es
possible (PduGiven None size) es h = tt
possible (PduGiven (Some count) size) es h = ltb-true count (2 ^ 32) h
possible (InLife (SduTaken size)) es h = absurd (false≢true h)
possible (InLife (NumberWritten size)) es h = (tt, some_octets 0 size h)
possible (InLife (OctetsResent n from to)) es h =
    let both = and_parts (nat_lt n (next_of (running es))) (are_octets from to) h in
    (tt, (ltb-true n (next_of (running es)) both.0, some_octets from to both.1))
possible (InLife (OctetsArrived n from to)) es h =
    let both = and_parts (nat_lt n (next_of (running es))) (are_octets from to) h in
    (tt, (ltb-true n (next_of (running es)) both.0, some_octets from to both.1))
possible (InLife ReorderStarted) es h = (tt, tt)
possible (InLife ReorderExpired) es h = (tt, tt)
possible (InLife (StatusHeard ack entries)) es h = (tt, leb-true ack (next_of (running es)) h)
possible (InLife (PollExpired more)) es h = (tt, tt)
possible LifeEnded es h = tt

pub event_lives : (e : LifeEvent) (es : List LifeEvent) → AreLives es → AreLives (with_event e es)
event_lives e es h = by (is_possible (next_of (running es)) e) refl
  where
    by : (b : Bool) → is_possible (next_of (running es)) e ≡ b → AreLives (if b then e ∷ es else es)
    by true p = (possible e es p, h)
    by false p = h

-- ---- the account of a history

histories : (es : List LifeEvent) → AreLives es → IsHistory (running es)
histories [] h = tt
histories (PduGiven count size ∷ es) h = (tt, histories es h.1)
histories (InLife e ∷ es) h = (h.0.1, histories es h.1)
histories (LifeEnded ∷ es) h = tt

is_account : (most first : ℕ) (es : List LifeEvent) → AreLives es
    → IsAccount most (running es) (lives_of most first es).account
is_account most first es h =
    subst (IsAccount most (running es)) (sym (lives_are_true most first es h).account)
    (accounts_are_true most (running es) (histories es h))

pub next_is : (most first : ℕ) (es : List LifeEvent) → AreLives es
    → next_in (lives_of most first es).account.arrivals ≡ next_of (running es)
next_is most first es h = (is_account most first es h).arrivals.next

sent_is : (most first : ℕ) (es : List LifeEvent) → AreLives es
    → sent_in (lives_of most first es).account.sending ≡ next_of (running es)
sent_is most first es h = (is_account most first es h).sending.next

one_least : (p : ℕ → Bool) (m k l : ℕ) → IsLeast p m k → IsLeast p m l → k ≤ l
one_least p m k l g h = elim (cases_lt l k) [
  | inl lt ↦ absurd (false≢true (sym h.refused ∙ g.before l h.from lt))
  | inr le ↦ le
]

pub front_is : (most first : ℕ) (es : List LifeEvent) → AreLives es
    → (lives_of most first es).account.arrivals.front ≡ front_in (running es)
front_is most first es h =
    let kept = (is_account most first es h).arrivals.front in
    let least = front_least (running es) in
    let p = is_complete_in (running es) in
    let front = (lives_of most first es).account.arrivals.front in
    omega (
      arith,
      one_least p 0 front (front_in (running es)) kept least,
      one_least p 0 (front_in (running es)) front least kept,
    )

pub kept_is : (most first : ℕ) (e : LifeEvent) (es : List LifeEvent) → AreLives es
    → kept_with e (lives_of most first es) ≡ lives_of most first (with_event e es)
kept_is most first e es h =
    ap (λ (n : ℕ). if is_possible n e then lives_with e (lives_of most first es) else lives_of most first es)
    (next_is most first es h) ∙ by (is_possible (next_of (running es)) e)
  where
    by : (b : Bool) → (if b then lives_with e (lives_of most first es) else lives_of most first es)
        ≡ lives_of most first (if b then e ∷ es else es)
    by true = refl
    by false = refl

-- ---- what is kept of a flow is that of some history

pub outset : (most first : ℕ) → IsOfHistory (lives_of most first [])
outset most first = record { most = most; first = first; history = []; lives = tt; is = refl }

pub agrees : (l : FlowLives) → IsOfHistory l → sent_in l.account.sending ≡ next_in l.account.arrivals
agrees l h =
    subst (λ (l : FlowLives). sent_in l.account.sending ≡ next_in l.account.arrivals) (sym h.is)
    (sent_is h.most h.first h.history h.lives ∙ sym (next_is h.most h.first h.history h.lives))

pub goes_on : (e : LifeEvent) (l : FlowLives) → IsOfHistory l → is_possible (next_in l.account.arrivals) e ≡ true
    → IsOfHistory (lives_with e l)
goes_on e l h p =
    let next : next_in l.account.arrivals ≡ next_of (running h.history) =
    ap (λ (l : FlowLives). next_in l.account.arrivals) h.is ∙ next_is h.most h.first h.history h.lives in
    record {
      most = h.most;
      first = h.first;
      history = e ∷ h.history;
      lives = (possible e h.history (sym (ap (λ (n : ℕ). is_possible n e) next) ∙ p), h.lives);
      is = ap (lives_with e) h.is;
    }
