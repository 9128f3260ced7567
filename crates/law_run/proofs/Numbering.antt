-- An acknowledged sender numbers its new PDUs one by one, within its window, and sends again what is in it.
use Rattle.std.proofs.Common.{◌≡◌, ℕ, ◌+◌, ◌%◌, ◌<◌, ◌≤◌, Bool, true, false, ◌&&◌, if◌then◌else◌, nat_le, nat_lt}
use Rattle.std.proofs.Common.{length, length-append, length-drop, Option, Some, None, List, [], ◌∷◌, ◌++◌, refl, ap}
use Rattle.std.proofs.Common.{sym, subst, ◌∙◌, arith}
use Rattle.std.proofs.lemmas.Bool.Decides.{nat_tests}
use Rattle.std.proofs.Math.ListN.{length-set}
use Rattle.bearer.specs.declared.flow.Flow.TheVariants.{Am}
use Rattle.bearer.specs.Acknowledged.State.{State}
use Rattle.bearer.specs.Acknowledged.Taking.{data_told, poll_told as start_told}
use Rattle.bearer.specs.Acknowledged.Timing.{poll_told, told_of}
use Rattle.law_bearer.specs.AnyBearer.Calls.{Call as BearerCall, after_all}
use Rattle.bearer_types.specs.declared.event.Event.{Event}
use Rattle.bearer_types.specs.declared.event.Event.TheVariants as events
use Rattle.law_deliver.specs.AmFlow.Ups.{tells_over}
use Rattle.law_rlc.proofs.AmSender.Slots.{named-length, acked-length, considered-length, leading-length}
use Rattle.l2_types.specs.declared.event.How.TheVariants as hows
use Rattle.rlc_am_tx.specs.declared.answers.Heard.{Heard}
use Rattle.rlc_am_tx.specs.declared.answers.Heard.TheVariants as heard_as
use Rattle.rlc_am_tx.specs.declared.answers.PollExpired.{PollExpired}
use Rattle.rlc_am_tx.specs.declared.answers.PollExpired.TheVariants as polls
use Rattle.rlc_am_tx.specs.declared.turn.Turn.{Turn}
use Rattle.rlc_am_tx.specs.declared.turn.Turn.TheVariants as turns
use Rattle.rlc_am_tx.specs.Machine.{State as Sender, turn, after_turn, with_poll, is_wanted, sent_whole, sent_segment}
use Rattle.rlc_am_tx.specs.Machine.{answer_of, waits, is_empty, is_shut, is_held, again, first_place, number_again}
use Rattle.rlc_am_tx.specs.Machine.{resend_turn, new_turn, sent_new, read, read_window, is_ignored, limit_of, stops}
use Rattle.rlc_am_tx.specs.Machine.{ended, applied, after_status, heard, recalled_place, with_recalled, with_owed}
use Rattle.rlc_am_tx.specs.Machine.{expiry_limit, expiry as poll_expiry, after_expiry as after_poll, expired}
use Rattle.rlc_am_tx_window.specs.Sent.{Sent, all_wait, whole_size}
use Rattle.rlc_am_tx_window.specs.Window.{TxWindow, next, with_slot, named_all, acked_from, leading_acked, advanced}
use Rattle.rlc_pdu.specs.declared.constants.TheConstants.{AM_MODULUS, AM_WINDOW_SIZE}
use Rattle.rlc_pdu.specs.declared.pdu.Nack.{Nack}
use Rattle.rlc_pdu.specs.Pdus.{StatusPdu}
use Rattle.law_run.specs.TwoEnds.SenderLog.{read_told}
use Rattle.law_run.proofs.KeptByCalls.{Seen, poll_seen, IsKept as IsKeptByCalls, Carries, calls_kept}
use Rattle.law_run.proofs.Numbered.{Fits, Writes, IsKept, kept_same, kept_then, writes_kept, writes_still, writes_then}
use Rattle.law_run.proofs.Numbered.{still_numbered, still_over}
use Rattle.law_run.proofs.Quiet.{tell_sender}
use Rattle.law_run.proofs.Still.{stopped_still}

-- ---- RLC's sender writes

-- what a turn finds
abbrev Finds : Turn → Sender → Type 0
Finds turns.Whole s = waits s ≡ true
Finds turns.Part s = waits s ≡ true
Finds turns.New s = is_shut s ≡ false
Finds t s = Unit {0}

again_finds : (whole part : Bool) (s : Sender) → waits s ≡ true
    → Finds (if whole then turns.Whole else if part then turns.Part else turns.Small) s
again_finds true part s e = e
again_finds false true s e = e
again_finds false false s e = tt

new_finds : (shut held small empty : Bool) (s : Sender) → is_shut s ≡ shut
    → Finds (if shut then turns.Shut else if held then turns.Held else if small then turns.Small
    else if empty then turns.Idle else turns.New) s
new_finds true held small empty s e = tt
new_finds false true small empty s e = tt
new_finds false false true empty s e = tt
new_finds false false false true s e = tt
new_finds false false false false s e = e

turn_by : (idle failed waiting : Bool) (s : Sender) (size : ℕ) (held : Option ℕ) → waits s ≡ waiting
    → Finds (if idle then turns.Idle else if failed then turns.Stopped
    else if waiting then resend_turn (again s) size else new_turn s size held) s
turn_by true failed waiting s size held e = tt
turn_by false true waiting s size held e = tt
turn_by false false true s size held e =
    again_finds (all_wait (again s) && nat_le (whole_size (again s)) size) (nat_le 5 size) s e
turn_by false false false s size held e =
    new_finds (is_shut s) (is_held held (next s.window)) (nat_lt size 3) (is_empty s) s refl

turn_finds : (s : Sender) (size : ℕ) (held : Option ℕ) (more : Bool) → Finds (turn s size held more) s
unfolding turn
turn_finds s size held more = turn_by _ s.failed (waits s) s size held refl

-- a number of the window
is_there : (s : Sender) → waits s ≡ true → first_place s < length s.window.slots
is_there s e = grind (arith, nat_tests)

has_place : (s : Sender) → is_shut s ≡ false → Fits s.window → length s.window.slots + 1 ≤ AM_WINDOW_SIZE
has_place s e fits = grind (arith, nat_tests)

set_kept : (w : TxWindow) (at : ℕ) (h : Sent) → IsKept w (with_slot w at h)
set_kept w at h = record {
  next_is = ap (λ (n : ℕ). w.base + n) (length-set w.slots at h);
  few = omega (arith, length-set w.slots at h);
}

poll_same : (wanted : Bool) (s : Sender) → (with_poll wanted s).window ≡ s.window
poll_same wanted s = ap (λ (v : Seen). v.window) (poll_seen wanted s)

start_still : (lcid : ℕ) (polled : Bool) → tell_sender (start_told lcid polled) ≡ false
start_still lcid true = refl
start_still lcid false = refl

-- a PDU is sent again
sends_again : (lcid : ℕ) (polled : Bool) (s : Sender) (b : TxWindow) → waits s ≡ true → IsKept s.window b
    → Writes s.window (events.Send lcid hows.Re (number_again s % AM_MODULUS) ∷ start_told lcid polled) b
sends_again lcid polled s b e k fits =
    let n = next s.window in
    let at = is_there s e in
    let quiet = start_still lcid polled in
    record {
      numbered = (
        record {
          number = number_again s;
          below = omega (arith, at);
          near = omega (arith, fits);
          sn_is = refl;
        },
        still_numbered n (start_told lcid polled) quiet,
      );
      next_is = k.next_is ∙ sym (still_over n (start_told lcid polled) quiet);
      fits = omega (arith, k.few, fits);
    }

-- a new one
sends_new : (lcid : ℕ) (polled : Bool) (s : Sender) (h : Sent) → is_shut s ≡ false
    → Writes s.window (events.Send lcid hows.New (next s.window % AM_MODULUS) ∷ start_told lcid polled)
    (record s.window { slots = s.window.slots ++ h ∷ [] })
sends_new lcid polled s h e fits =
    let n = next s.window in
    let one = length-append s.window.slots (h ∷ []) in
    let quiet = start_still lcid polled in
    let place = has_place s e fits in
    let more : s.window.base + length (s.window.slots ++ h ∷ []) ≡ n + 1 = omega (arith, one) in
    record {
      numbered = (refl, still_numbered (n + 1) (start_told lcid polled) quiet);
      next_is = more ∙ sym (still_over (n + 1) (start_told lcid polled) quiet);
      fits = omega (arith, one, place);
    }

writes_to : (a b c : TxWindow) (told : List Event) → c ≡ b → Writes a told b → Writes a told c
writes_to a b c told e p = subst (λ (w : TxWindow). Writes a told w) (sym e) p

turn_writes : (t : Turn) (lcid : ℕ) (s : Sender) (size : ℕ) (more : Bool) → Finds t s
    → Writes s.window (data_told lcid (answer_of t s size more)) (after_turn t s size more).window
unfolding answer_of after_turn
turn_writes turns.Whole lcid s size more e =
    let polled = is_wanted (sent_whole s) more in
    writes_to s.window (sent_whole s).window (with_poll polled (sent_whole s)).window _
    (poll_same polled (sent_whole s))
    (sends_again lcid polled s (sent_whole s).window e (set_kept s.window (first_place s) _))
turn_writes turns.Part lcid s size more e =
    let polled = is_wanted (sent_segment s size) more in
    writes_to s.window (sent_segment s size).window (with_poll polled (sent_segment s size)).window _
    (poll_same polled (sent_segment s size))
    (sends_again lcid polled s (sent_segment s size).window e (set_kept s.window (first_place s) _))
turn_writes turns.New lcid s size more e =
    let polled = is_wanted (sent_new s size) more in
    writes_to s.window (sent_new s size).window (with_poll polled (sent_new s size)).window _
    (poll_same polled (sent_new s size))
    (sends_new lcid polled s _ e)
turn_writes turns.Idle lcid s size more e = writes_still s.window [] refl
turn_writes turns.Stopped lcid s size more e = writes_still s.window _ refl
turn_writes turns.Small lcid s size more e = writes_still s.window _ refl
turn_writes turns.Shut lcid s size more e = writes_still s.window _ refl
turn_writes turns.Held lcid s size more e = writes_still s.window _ refl

-- ---- it hears a STATUS, or its timer expires

kept_to : (a b c : TxWindow) → c ≡ b → IsKept a b → IsKept a c
kept_to a b c e k = subst (λ (w : TxWindow). IsKept a w) (sym e) k

ended_same : (limit : Option ℕ) (stopped : Bool) (s : Sender) → (ended limit stopped s).window ≡ s.window
ended_same (Some sn) stopped s = refl
ended_same None true s = refl
ended_same None false s = refl

-- VT(A) moves, VT(S) stays
advanced_kept : (w : TxWindow) → IsKept w (advanced w)
advanced_kept w =
    let lead = leading-length w.slots in
    let rest = length-drop (leading_acked w.slots) w.slots in
    record { next_is = omega (arith, lead, rest); few = omega (arith, rest) }

read_kept : (s : Sender) (below : ℕ) (nacks : List Nack) → IsKept s.window (read s below nacks).window
read_kept s below nacks =
    let base = s.window.base in
    let named = named_all base s.window.slots nacks in
    let acked = acked_from 0 below named in
    let same : length (read_window s below nacks).slots ≡ length s.window.slots =
    considered-length base s.config.max_retx acked nacks ∙ acked-length 0 below named
    ∙ named-length base s.window.slots nacks in
    kept_then s.window (read_window s below nacks) (advanced (read_window s below nacks))
    (record { next_is = ap (λ (n : ℕ). base + n) same; few = omega (arith, same) })
    (advanced_kept (read_window s below nacks))

applied_kept : (s : Sender) (below : ℕ) (nacks : List Nack) → IsKept s.window (applied s below nacks).window
applied_kept s below nacks =
    kept_to s.window (read s below nacks).window (applied s below nacks).window
    (ended_same (limit_of s below nacks) (stops s below nacks) (read s below nacks)) (read_kept s below nacks)

status_by : (ignored : Bool) (s : Sender) (below : ℕ) (nacks : List Nack)
    → IsKept s.window (if ignored then s else applied s below nacks).window
status_by true s below nacks = kept_same s.window
status_by false s below nacks = applied_kept s below nacks

status_kept : (s : Sender) (p : StatusPdu) → IsKept s.window (after_status s p).window
unfolding after_status
status_kept s p = status_by (is_ignored s p.ack) s _ p.nacks

recalled_kept : (place : Option ℕ) (s : Sender) → IsKept s.window (with_recalled place s).window
recalled_kept None s = kept_same s.window
recalled_kept (Some at) s = set_kept s.window at _

poll_by : (runs : Bool) (s : Sender) (more : Bool)
    → IsKept s.window (if runs then ended (expiry_limit s more) false (expired s more) else s).window
poll_by true s more =
    kept_to s.window (expired s more).window (ended (expiry_limit s more) false (expired s more)).window
    (ended_same (expiry_limit s more) false (expired s more)) (recalled_kept (recalled_place s more) (with_owed s))
poll_by false s more = kept_same s.window

poll_kept : (s : Sender) (more : Bool) → IsKept s.window (after_poll s more).window
unfolding after_poll
poll_kept s more = poll_by _ s more

-- ---- what it tells then

read_writes : (lcid : ℕ) (h : Heard) (a b : TxWindow) → IsKept a b → Writes a (read_told lcid h) b
read_writes lcid heard_as.Ignored a b k = writes_kept a b _ refl k
read_writes lcid (heard_as.Limit sn) a b k =
    λ fits. record { numbered = (tt, tt); next_is = k.next_is; fits = omega (arith, k.few, fits) }
read_writes lcid (heard_as.Applied stopped) a b k = writes_kept a b _ (stopped_still lcid stopped) k

poll_writes : (lcid : ℕ) (x : PollExpired) (a b : TxWindow) → IsKept a b → Writes a (told_of (poll_told lcid x)) b
poll_writes lcid polls.NotRunning a b k = writes_kept a b [] refl k
poll_writes lcid polls.Done a b k = writes_kept a b _ refl k
poll_writes lcid (polls.Limit sn) a b k = λ fits.
    record { numbered = (tt, (tt, tt)); next_is = k.next_is; fits = omega (arith, k.few, fits) }

abbrev pub SenderWrites : Seen → List Event → Seen → Type 0
SenderWrites v told w = Writes v.window told w.window

sender_writes : IsKeptByCalls SenderWrites
sender_writes = record {
  still = λ v told quiet. writes_still v.window told quiet;
  both = λ a b c xs ys p q. writes_then a.window b.window c.window xs ys p q;
  sends = λ lcid s size held more.
      turn_writes (turn s size held more) lcid s size more (turn_finds s size held more);
  reads = λ lcid s p. read_writes lcid (heard s p) s.window _ (status_kept s p);
  expires = λ lcid s more. poll_writes lcid (poll_expiry s more) s.window _ (poll_kept s more);
}

-- in any calls of an acknowledged bearer
pub calls_number : (l : ℕ) (b : State) (cs : List BearerCall)
    → Carries SenderWrites b (tells_over l (Am b) cs) (after_all (Am b) cs)
calls_number = calls_kept SenderWrites sender_writes
