-- A PDU has a poll exactly where one of the four causes stands, along every run.
use Rattle.std.proofs.Common.{◌≡◌, ℕ, ◌+◌, Bool, true, false, if◌then◌else◌, List, [], ◌∷◌, length, Option, Some, None}
use Rattle.std.proofs.Common.{refl, ap, ◌∙◌}
use Rattle.l2_num.specs.Timers.{runs}
use Rattle.rlc_pdu.specs.Pdus.{StatusPdu}
use Rattle.rlc_am_tx_window.specs.Window.{offset_of}
use Rattle.rlc_am_tx.specs.declared.turn.Turn.{Turn}
use Rattle.rlc_am_tx.specs.declared.turn.Turn.TheVariants as turns
use Rattle.rlc_am_tx.specs.Machine.{State, Polls, turn, answer_of, after_turn, after_status, after_expiry, is_ignored}
use Rattle.rlc_am_tx.specs.Machine.{with_poll, is_wanted, is_quiet, sent_whole, sent_segment, sent_new, new_slot, ended}
use Rattle.rlc_am_tx.specs.Machine.{limit_of, stops, read, applied, with_recalled, with_owed, expired, recalled_place}
use Rattle.rlc_am_tx.specs.Machine.{expiry_limit, settled_by, settles}
use Rattle.law_rlc.specs.AmSender.Run.{Call, Offer, Take, Status, Tick, Expire, Settle, Confirm, World, after}
use Rattle.law_rlc.specs.AmSender.Run.{run_am_sender, begun}
use Rattle.law_rlc.specs.AmSender.Polled.{Event, New, Again, Expired, poll_of, events_by, events_after, pdus_since}
use Rattle.law_rlc.specs.AmSender.Polled.{octets_since, expired_since, has_cause, is_due, PollsByCauses}

-- the counts against the events
record Counts (p : Polls) (log : List Event) : Type 0 where
  pdus : p.pdus_without_poll ≡ pdus_since log
  octets : p.octets_without_poll ≡ octets_since log
  owed : p.owed ≡ expired_since log

-- what is wanted is what is due, by the same counts
wanted-is : (s : State) (more : Bool) (pdus octets : ℕ) (owed : Bool) → s.polls.pdus_without_poll ≡ pdus
    → s.polls.octets_without_poll ≡ octets → s.polls.owed ≡ owed
    → is_wanted s more ≡ has_cause s.config pdus octets owed (is_quiet s more)
wanted-is s more pdus octets owed a b c = rw (a, b, c) refl

due-is : (t : Turn) (s : State) (size : ℕ) (more : Bool) (log : List Event) → Counts s.polls log
    → poll_of (answer_of t s size more) ≡ is_due t s size more log
unfolding answer_of
due-is turns.New s size more log h =
    wanted-is (sent_new s size) more (pdus_since log + 1) (octets_since log + length (new_slot s size).field)
    (expired_since log) (ap (λ (n : ℕ). n + 1) h.pdus) (ap (λ (n : ℕ). n + length (new_slot s size).field) h.octets)
    h.owed
due-is turns.Whole s size more log h =
    wanted-is (sent_whole s) more (pdus_since log) (octets_since log) (expired_since log) h.pdus h.octets h.owed
due-is turns.Part s size more log h =
    wanted-is (sent_segment s size) more (pdus_since log) (octets_since log) (expired_since log) h.pdus h.octets
    h.owed
due-is turns.Idle s size more log h = refl
due-is turns.Stopped s size more log h = refl
due-is turns.Small s size more log h = refl
due-is turns.Shut s size more log h = refl
due-is turns.Held s size more log h = refl

new-counts : (b : Bool) (s : State) (n : ℕ) (log : List Event) → s.polls.pdus_without_poll ≡ pdus_since log + 1
    → s.polls.octets_without_poll ≡ octets_since log + n → s.polls.owed ≡ expired_since log
    → Counts (with_poll b s).polls (New n b ∷ log)
new-counts true s n log a b c = record { pdus = refl; octets = refl; owed = refl }
new-counts false s n log a b c = record { pdus = a; octets = b; owed = c }

again-counts : (b : Bool) (s : State) (log : List Event) → Counts s.polls log
    → Counts (with_poll b s).polls (Again b ∷ log)
again-counts true s log h = record { pdus = refl; octets = refl; owed = refl }
again-counts false s log h = record { pdus = h.pdus; octets = h.octets; owed = h.owed }

turn-counts : (t : Turn) (s : State) (size : ℕ) (more : Bool) (log : List Event) → Counts s.polls log
    → Counts (after_turn t s size more).polls (events_by t s size (poll_of (answer_of t s size more)) log)
unfolding after_turn answer_of
turn-counts turns.New s size more log h =
    new-counts (is_wanted (sent_new s size) more) (sent_new s size) (length (new_slot s size).field) log
    (ap (λ (n : ℕ). n + 1) h.pdus) (ap (λ (n : ℕ). n + length (new_slot s size).field) h.octets) h.owed
turn-counts turns.Whole s size more log h = again-counts (is_wanted (sent_whole s) more) (sent_whole s) log h
turn-counts turns.Part s size more log h =
    again-counts (is_wanted (sent_segment s size) more) (sent_segment s size) log h
turn-counts turns.Idle s size more log h = h
turn-counts turns.Stopped s size more log h = h
turn-counts turns.Small s size more log h = h
turn-counts turns.Shut s size more log h = h
turn-counts turns.Held s size more log h = h

-- a step that leaves the counts alone
same : (p q : Polls) (log : List Event) → q.pdus_without_poll ≡ p.pdus_without_poll
    → q.octets_without_poll ≡ p.octets_without_poll → q.owed ≡ p.owed → Counts p log → Counts q log
same p q log a b c h = record { pdus = a ∙ h.pdus; octets = b ∙ h.octets; owed = c ∙ h.owed }

ended-counts : (l : Option ℕ) (b : Bool) (s : State) (log : List Event) → Counts s.polls log
    → Counts (ended l b s).polls log
ended-counts (Some sn) b s log h = same s.polls (ended (Some sn) b s).polls log refl refl refl h
ended-counts None true s log h = same s.polls (ended None true s).polls log refl refl refl h
ended-counts None false s log h = h

status-counts : (b : Bool) (s : State) (status : StatusPdu) (log : List Event) → Counts s.polls log
    → Counts (if b then s else applied s (offset_of s.window.base status.ack) status.nacks).polls log
status-counts true s status log h = h
status-counts false s status log h =
    ended-counts (limit_of s (offset_of s.window.base status.ack) status.nacks)
    (stops s (offset_of s.window.base status.ack) status.nacks)
    (read s (offset_of s.window.base status.ack) status.nacks) log h

recalled-counts : (o : Option ℕ) (s : State) (log : List Event) → Counts s.polls log
    → Counts (with_recalled o s).polls log
recalled-counts None s log h = h
recalled-counts (Some at) s log h = h

expiry-counts : (b : Bool) (s : State) (more : Bool) (log : List Event) → Counts s.polls log
    → Counts (if b then ended (expiry_limit s more) false (expired s more) else s).polls
    (if b then Expired ∷ log else log)
expiry-counts false s more log h = h
expiry-counts true s more log h = ended-counts (expiry_limit s more) false (expired s more) (Expired ∷ log)
    (recalled-counts (recalled_place s more) (with_owed s) (Expired ∷ log)
    (record { pdus = h.pdus; octets = h.octets; owed = refl }))

settled-counts : (b : Bool) (s : State) (log : List Event) → Counts s.polls log → Counts (settled_by b s).polls log
settled-counts true s log h = same s.polls (settled_by true s).polls log refl refl refl h
settled-counts false s log h = h

after-counts : (s : State) (c : Call) (log : List Event) → Counts s.polls log
    → Counts (after s c).polls (events_after s c log)
unfolding after_status after_expiry
after-counts s (Offer sdu) log h = h
after-counts s (Take size held more) log h = turn-counts (turn s size held more) s size more log h
after-counts s (Status status) log h = status-counts (is_ignored s status.ack) s status log h
after-counts s Tick log h = same s.polls (after s Tick).polls log refl refl refl h
after-counts s (Expire more) log h = expiry-counts (runs s.polls.timer) s more log h
after-counts s (Settle more) log h = settled-counts (settles s more) s log h
after-counts s Confirm log h = h

run-counts : (calls : List Call) (w : World (List Event)) → Counts w.state.polls w.past
    → Counts (run_am_sender events_after calls w).state.polls (run_am_sender events_after calls w).past
run-counts [] w h = h
run-counts (c ∷ cs) w h =
    run-counts cs (record { state = after w.state c; past = events_after w.state c w.past })
    (after-counts w.state c w.past h)

pub polls : PollsByCauses
polls config calls size held more =
    due-is (turn (run_am_sender events_after calls (begun config [])).state size held more)
    (run_am_sender events_after calls (begun config [])).state size more
    (run_am_sender events_after calls (begun config [])).past
    (run-counts calls (begun config []) (record { pdus = refl; octets = refl; owed = refl }))
