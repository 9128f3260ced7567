-- The account of an acknowledged flow in a life, event by event (docs/laws/ACCOUNT.md).
use Rattle.std.specs.Prelude.{ℕ, ◌+◌, Bool, ◌||◌, nat_lt, if◌then◌else◌, List, [], ◌∷◌}
use Rattle.journal_account.specs.FlowEvents.{FlowEvent, SduTaken, NumberWritten, OctetsResent}
use Rattle.journal_account.specs.FlowEvents.{OctetsArrived, ReorderStarted, ReorderExpired}
use Rattle.journal_account.specs.FlowEvents.{StatusHeard, PollExpired}
use Rattle.journal_account.specs.FlowArrivals.{FlowArrivals, none_written, with_number}
use Rattle.journal_account.specs.FlowArrivals.{with_arrival, reorder_started, reorder_expired}
use Rattle.journal_account.specs.FlowArrivals.{stream_gap}
use Rattle.journal_account.specs.FlowSending.{FlowSending, none_sent, with_sent, with_resent}
use Rattle.journal_account.specs.FlowSending.{with_status, with_poll_expired}
use Rattle.journal_account.specs.FlowSdus.{FlowSdus, no_sdus, with_sdu, sequenced_to}

-- confirmed are the SDUs as the sender knows them: those are in sequence that end before VT(A);
-- ignored is how many STATUS were ignored
pub record FlowAccount : Type 0 where
  pub arrivals : FlowArrivals
  pub sdus : FlowSdus
  pub confirmed : FlowSdus
  pub sending : FlowSending
  pub ignored : ℕ

-- as a life begins, with maxRetxThreshold
abbrev pub empty_account : ℕ → FlowAccount
empty_account most = record {
  arrivals = none_written;
  sdus = no_sdus;
  confirmed = no_sdus;
  sending = none_sent most;
  ignored = 0;
}

abbrev pub arrivals_with : FlowEvent → FlowArrivals → FlowArrivals
arrivals_with (SduTaken size) a = a
arrivals_with (NumberWritten size) a = with_number size a
arrivals_with (OctetsResent n from to) a = a
arrivals_with (OctetsArrived n from to) a = with_arrival n from to a
arrivals_with ReorderStarted a = reorder_started a
arrivals_with ReorderExpired a = reorder_expired a
arrivals_with (StatusHeard ack entries) a = a
arrivals_with (PollExpired more) a = a

abbrev pub sdus_with : FlowEvent → FlowSdus → FlowSdus
sdus_with (SduTaken size) s = with_sdu size s
sdus_with other s = s

-- an octet isn't written yet, or an SDU may be taken
abbrev pub left_to_send : Bool → FlowAccount → Bool
left_to_send more a = more || nat_lt a.arrivals.written a.sdus.taken

abbrev pub sending_with : FlowEvent → FlowAccount → FlowSending
sending_with (SduTaken size) a = a.sending
sending_with (NumberWritten size) a = with_sent size a.sending
sending_with (OctetsResent n from to) a = with_resent n from to a.sending
sending_with (OctetsArrived n from to) a = a.sending
sending_with ReorderStarted a = a.sending
sending_with ReorderExpired a = a.sending
sending_with (StatusHeard ack entries) a = with_status ack entries a.sending
sending_with (PollExpired more) a = with_poll_expired (left_to_send more a) a.sending

-- its ACK lies below VT(A)
abbrev pub ignored_with : FlowEvent → FlowAccount → ℕ
ignored_with (StatusHeard ack entries) a =
    if nat_lt ack a.sending.base then a.ignored + 1 else a.ignored
ignored_with other a = a.ignored

abbrev pub sequenced : FlowAccount → FlowAccount
sequenced a = record a {
  sdus = sequenced_to (stream_gap a.arrivals) a.sdus;
  confirmed = sequenced_to a.sending.start a.confirmed;
}

abbrev pub account_with : FlowEvent → FlowAccount → FlowAccount
account_with e a = sequenced (record {
  arrivals = arrivals_with e a.arrivals;
  sdus = sdus_with e a.sdus;
  confirmed = sdus_with e a.confirmed;
  sending = sending_with e a;
  ignored = ignored_with e a;
})

-- the account of a history
abbrev pub account_of : ℕ → List FlowEvent → FlowAccount
account_of most [] = empty_account most
account_of most (e ∷ es) = account_with e (account_of most es)
