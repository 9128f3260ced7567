-- What the account of a flow tells is what its history says (docs/laws/ACCOUNT.md).
use Rattle.std.specs.Prelude.{◌≡◌, ℕ, ◌-◌, ◌<◌, ◌≤◌, List, true, MatchOption}
use Rattle.l2_num.specs.Least.{IsLeast}
use Rattle.rlc_pdu.specs.Runs.{has}
use Rattle.journal_account.specs.FlowEvents.{FlowEvent, IsHistory, field_sizes, next_of}
use Rattle.journal_account.specs.Arrived.{octet_came, is_complete_in, top_in, mark_in, expired_mark}
use Rattle.journal_account.specs.Stream.{end_of_all, sdu_sizes, place_came, is_in_sequence}
use Rattle.journal_account.specs.Stream.{is_whole_sdu}
use Rattle.journal_account.specs.FlowArrivals.{FlowArrivals, next_in, field_at, stream_gap}
use Rattle.journal_account.specs.FlowSdus.{FlowSdus}
use Rattle.journal_account.specs.FlowSending.{FlowSending, sent_in, number_at, octets_wait}
use Rattle.journal_account.specs.FlowSending.{namings_of}
use Rattle.journal_account.specs.Acked.{is_acked, ignored_in}
use Rattle.journal_account.specs.Confirmed.{is_confirmed_sdu}
use Rattle.journal_account.specs.Waiting.{waits, namings, IsWithin, FailsAt}
use Rattle.journal_account.specs.FlowAccount.{FlowAccount, account_of}
use Rattle.journal_account.specs.FlowStatus.{is_true_status}
use Rattle.journal_account.specs.FlowWholes.{is_whole_kept}
use Rattle.journal_account.specs.FlowConfirmed.{is_confirmed_kept, is_among, confirmed_sdus}
use Rattle.journal_account.specs.TrueStatus.{IsTrueStatus}
use Rattle.journal_account.specs.declared.entry.StatusEntry.{StatusEntry}

pub record AreArrivals (es : List FlowEvent) (a : FlowArrivals) : Type 0 where
  -- VR(R) is the least number that isn't complete
  pub front : IsLeast (is_complete_in es) 0 a.front
  -- VR(MS) is the least that isn't complete at or above each VR(X) at which t-Reordering expired
  pub bound : IsLeast (is_complete_in es) (expired_mark es) a.bound
  pub top : a.top ≡ top_in es
  pub mark : a.mark ≡ mark_in es
  -- VR(R) ≤ VR(MS) ≤ VR(H) ≤ VT(S)
  pub front_low : a.front ≤ a.bound
  pub bound_low : a.bound ≤ a.top
  pub top_low : a.top ≤ next_of es
  -- the numbers from VR(R) on below VT(S), and which of their octets have come
  pub next : next_in a ≡ next_of es
  pub came : (n i : ℕ) → a.front ≤ n
      → has (field_at a.fields (n - a.front)).came i ≡ octet_came es n i
  -- the places of the stream that were written, and the first that hasn't come
  pub written : a.written ≡ end_of_all (field_sizes es)
  pub gap : IsLeast (place_came es) 0 (stream_gap a)

-- and which are whole, in sequence or not
abbrev pub AreWhole : List FlowEvent → FlowAccount → Type 0
AreWhole es a = (k : ℕ) → is_whole_kept k a ≡ is_whole_sdu es k

-- and which are confirmed
abbrev pub AreConfirmed : List FlowEvent → FlowAccount → Type 0
AreConfirmed es a = (k : ℕ) → is_confirmed_kept k a ≡ is_confirmed_sdu es k

pub record AreSdus (es : List FlowEvent) (s : FlowSdus) : Type 0 where
  -- so many octets were taken
  pub taken : s.taken ≡ end_of_all (sdu_sizes es)
  -- the first SDU that isn't in sequence
  pub sequenced : IsLeast (is_in_sequence es) 0 s.sequenced

-- octets are said to wait all exactly where each of them waits
pub record AreWaiting (es : List FlowEvent) (s : FlowSending) (n from to : ℕ) : Type 0 where
  pub all : octets_wait n from to s ≡ true → (i : ℕ) → from ≤ i → i < to → waits es n i ≡ true
  pub only : ((i : ℕ) → from ≤ i → i < to → waits es n i ≡ true) → octets_wait n from to s ≡ true

pub record IsSending (most : ℕ) (es : List FlowEvent) (s : FlowSending) : Type 0 where
  -- VT(A) is the least number that isn't acknowledged
  pub base : IsLeast (is_acked es) 0 s.base
  -- the numbers from VT(A) on below VT(S), and which of them are acknowledged
  pub next : sent_in s ≡ next_of es
  pub acked : (n : ℕ) → s.base ≤ n → n < next_of es
      → (number_at s.numbers (n - s.base)).acked ≡ is_acked es n
  -- which octets wait, and how often each number was named so that it counts
  pub waiting : (n from to : ℕ) → from < to → AreWaiting es s n from to
  pub namings_are : (n : ℕ) → s.base ≤ n → namings_of n s ≡ namings es n
  -- where the flow failed, once it did
  pub limit : MatchOption s.limit (IsWithin most es) (FailsAt most es)

-- a STATUS is said to be true exactly where it is
pub record IsJudged (es : List FlowEvent) (a : FlowArrivals) (ack : ℕ) (entries : List StatusEntry)
    : Type 0 where
  pub all : is_true_status ack entries a ≡ true → IsTrueStatus es ack entries
  pub only : IsTrueStatus es ack entries → is_true_status ack entries a ≡ true

pub record IsAccount (most : ℕ) (es : List FlowEvent) (a : FlowAccount) : Type 0 where
  pub arrivals : AreArrivals es a.arrivals
  pub statuses : (ack : ℕ) (entries : List StatusEntry) → IsJudged es a.arrivals ack entries
  pub sdus : AreSdus es a.sdus
  pub whole : AreWhole es a
  pub sending : IsSending most es a.sending
  pub confirmed : AreConfirmed es a
  -- how many STATUS were ignored
  pub ignored : a.ignored ≡ ignored_in es

abbrev pub AccountsAreTrue : Type 0
AccountsAreTrue =
    (most : ℕ) (es : List FlowEvent) → IsHistory es → IsAccount most es (account_of most es)

-- all SDUs in one walk are as each is asked for itself
abbrev pub ConfirmedAlike : Type 0
ConfirmedAlike = (a : FlowAccount) (k : ℕ) → is_among k (confirmed_sdus a) ≡ is_confirmed_kept k a
