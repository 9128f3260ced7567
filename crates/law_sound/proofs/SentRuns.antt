-- RLC's sender through calls, with the streams of what it sends; VT(A) never falls, and a number that waits isn't
-- acknowledged.
use Rattle.std.proofs.Common.{◌≡◌, ◌<◌, ◌≤◌, ℕ, ◌+◌, ◌-◌, Bool, true, false, not, ◌||◌, nat_le, if◌then◌else◌, List, []}
use Rattle.std.proofs.Common.{◌∷◌, ◌++◌, map, length, Option, Some, None, is_some, refl, ap, sym, subst, ◌∙◌, arith}
use Rattle.std.specs.List.{AllByRecursion}
use Rattle.std.specs.Prelude.{MatchOption, is_none}
use Rattle.std.proofs.lemmas.Bool.{and_from, le-leb, le-ltb, ltb-true}
use Rattle.l2_num.specs.Timers.{runs}
use Rattle.l2_types.specs.declared.config.AmTxConfig.{AmTxConfig}
use Rattle.pdcp_pdu.specs.declared.PdcpKind.{PdcpKind}
use Rattle.pdu_show.specs.declared.kinds.Layout.TheVariants as layouts
use Rattle.rlc_pdu.specs.declared.pdu.Part.{Part}
use Rattle.rlc_pdu.specs.Pdus.{StatusPdu}
use Rattle.rlc_pdu.specs.Places.{IsGap}
use Rattle.rlc_pdu.specs.Runs.{has, gap_in}
use Rattle.rlc_pdu.proofs.PlaceLaws.{gaps_are_first}
use Rattle.rlc_am_tx_window.specs.Sent.{Sent as Kept, first_waiting, is_waiting}
use Rattle.rlc_am_tx_window.specs.Window.{TxWindow, slot_at, leading_idle, offset_of}
use Rattle.rlc_am_tx.specs.declared.turn.Turn.{Turn}
use Rattle.rlc_am_tx.specs.declared.turn.Turn.TheVariants as turns
use Rattle.rlc_am_tx.specs.Machine.{State, turn, answer, waits, number_again, after_turn, is_wanted, sent_whole}
use Rattle.rlc_am_tx.specs.Machine.{sent_segment, sent_new, is_ignored, limit_of, stops, read, applied, after_status}
use Rattle.rlc_am_tx.specs.Machine.{after_expiry, ended, expiry_limit, expired, with_recalled, with_owed}
use Rattle.rlc_am_tx.specs.Machine.{recalled_place, settles}
use Rattle.rlc_am_tx.proofs.SendSteps.{first-waits}
use Rattle.journal_account.specs.Acked.{is_acked}
use Rattle.journal_account.specs.FlowAccount.{account_of}
use Rattle.journal_account.specs.FlowEvents.{FlowEvent, IsHistory}
use Rattle.journal_account.specs.FlowSending.{FlowSending, SentNumber, number_at, octets_wait, acked_kept}
use Rattle.journal_account.specs.Laws.{IsSending}
use Rattle.journal_account.specs.Waiting.{waits as waits_by}
use Rattle.journal_account.proofs.Accounts.{accounts_are_true}
use Rattle.journal_account.proofs.Waits.{acked_rests}
use Rattle.journal_sent.specs.RightSent.{Flow, Sent}
use Rattle.journal_sent.specs.SentFlows.{is_open_in}
use Rattle.journal_sent.specs.SentPdus.{histories, with_given}
use Rattle.law_account.specs.Accounted.{IsAccounted, AreAccounted}
use Rattle.law_account.proofs.Taken.{is_whole, has_octet}
use Rattle.law_bearer.specs.AnyBearer.Acknowledged.{IsOfSender}
use Rattle.law_bearer.specs.AnyBearer.Sending.{sends_on}
use Rattle.law_deliver.specs.AmFlow.Pair.{HasOctet}
use Rattle.law_rlc.specs.AmSender.Namings.{Marks, marks_after}
use Rattle.law_rlc.specs.AmSender.Octets.{Octets, nothing_sent, octets_after}
use Rattle.law_rlc.specs.AmSender.Run.{Call, Offer, Take, Status, Tick, Expire, Settle, Confirm, World, after}
use Rattle.law_rlc.specs.AmSender.Run.{run_am_sender, begun}
use Rattle.law_rlc.proofs.AmPair.Runs.{called}
use Rattle.law_rlc.proofs.AmSender.Least.{polled-window, ended-window, settled-window}
use Rattle.law_rlc.proofs.AmSender.Marked.{is-part}
use Rattle.law_sent.specs.Senders.{AreStreamsOf, IsAsked, ran, IsOpen, AnswerIsRight, behind_answer, WritesRightly}
use Rattle.law_sent.proofs.Senders.{offers_go_on, writes_rightly}
use Rattle.law_sound.proofs.SentBeside.{IsRun}
use Rattle.law_sound.proofs.SentStreams.{all_given}

-- ---- a sender goes on by its own calls

ran_more : (config : AmTxConfig) (calls : List Call) (c : Call)
    → ran config (calls ++ c ∷ []) ≡ called octets_after (ran config calls) c
ran_more config calls c = by calls (begun config nothing_sent)
  where
    by : (cs : List Call) (w : World Octets)
        → run_am_sender octets_after (cs ++ c ∷ []) w ≡ called octets_after (run_am_sender octets_after cs w) c
    by [] w = refl
    by (d ∷ ds) w = by ds (called octets_after w d)

asked_more : (calls : List Call) (c : Call) → AllByRecursion IsAsked calls → IsAsked c
    → AllByRecursion IsAsked (calls ++ c ∷ [])
asked_more [] c h own = (own, tt)
asked_more (d ∷ calls) c h own = (h.0, asked_more calls c h.1 own)

-- a call more
run_more : (s : State) (x y : Sent) (c : Call) (h : IsRun s x) → IsAsked c
    → AreStreamsOf (octets_after (ran h.config h.calls).state c (ran h.config h.calls).past) y → IsRun (after s c) y
run_more s x y c h own streams =
    let more = ran_more h.config h.calls c in
    record {
      config = h.config;
      calls = h.calls ++ c ∷ [];
      asked = asked_more h.calls c h.asked own;
      state_is = ap (λ (w : World Octets). w.state) more ∙ ap (λ (t : State). after t c) h.state_is;
      streams = subst (λ (w : World Octets). AreStreamsOf w.past y) (sym more) streams;
    }

-- which octets wait is no part of them
unmarked : (o : Octets) (marks : Marks) (x : Sent) → AreStreamsOf o x → AreStreamsOf (record o { marks = marks }) x
unmarked o marks x h = record {
  octets = record { stream_is = h.octets.stream_is; fields_are = h.octets.fields_are; sent = h.octets.sent };
  marks = record { stream_is = h.marks.stream_is; fields_are = h.marks.fields_are; sent = h.marks.sent };
}

pub status_run : (s : State) (x : Sent) (pdu : StatusPdu) → IsRun s x → IsRun (after s (Status pdu)) x
status_run s x pdu h =
    let w = ran h.config h.calls in
    run_more s x x (Status pdu) h tt (unmarked w.past (marks_after w.state (Status pdu) w.past.marks) x h.streams)

own_run : (s : State) (x : Sent) (c : Call) → IsOfSender c → IsRun s x → IsRun (after s c) x
own_run s x (Offer sdu) own h = absurd own
own_run s x (Take size held more) own h = absurd own
own_run s x (Status pdu) own h = absurd own
own_run s x Tick own h =
    let w = ran h.config h.calls in
    run_more s x x Tick h tt (unmarked w.past (marks_after w.state Tick w.past.marks) x h.streams)
own_run s x (Expire more) own h =
    let w = ran h.config h.calls in
    run_more s x x (Expire more) h tt (unmarked w.past (marks_after w.state (Expire more) w.past.marks) x h.streams)
own_run s x (Settle more) own h =
    let w = ran h.config h.calls in
    run_more s x x (Settle more) h tt (unmarked w.past (marks_after w.state (Settle more) w.past.marks) x h.streams)
own_run s x Confirm own h =
    let w = ran h.config h.calls in
    run_more s x x Confirm h tt (unmarked w.past (marks_after w.state Confirm w.past.marks) x h.streams)

pub own_runs : (cs : List Call) (s : State) (x : Sent) → AllByRecursion IsOfSender cs → IsRun s x
    → IsRun (sends_on cs s) x
own_runs [] s x own h = h
own_runs (c ∷ cs) s x own h = own_runs cs (after s c) x own.1 (own_run s x c own.0 h)

pub offers_run : (pdus : List (List ℕ)) (s : State) (x : Sent) → AllByRecursion HasOctet pdus → IsRun s x
    → IsRun (sends_on (map (λ pdu. Offer pdu) pdus) s) (all_given pdus x)
offers_run [] s x some h = h
offers_run (pdu ∷ pdus) s x some h =
    let w = ran h.config h.calls in
    offers_run pdus (after s (Offer pdu)) (with_given histories pdu x) some.1
    (run_more s x (with_given histories pdu x) (Offer pdu) h some.0
    (offers_go_on w.state pdu w.past x some.0 h.streams))

-- ---- it writes a PDU

pub record WritesOn (acked : ℕ → Bool) (s : State) (size : ℕ) (held : Option ℕ) (more : Bool) (f : Flow)
    : Type 0 where
  pub right : (passed : Option (List ℕ)) → AnswerIsRight acked passed (answer s size held more) f
  pub run : (passed : Option (List ℕ))
      → IsRun (after s (Take size held more)) (behind_answer acked passed (answer s size held more) f).stream

ran_writes : (kind : PdcpKind) (acked : ℕ → Bool) (config : AmTxConfig) (calls : List Call) (size : ℕ)
    (held : Option ℕ) (more : Bool) (f : Flow) → AllByRecursion IsAsked calls → size ≤ 32767
    → f.layout ≡ layouts.Am kind → AreStreamsOf (ran config calls).past f.stream
    → IsOpen acked f (ran config calls).state (turn (ran config calls).state size held more)
    → WritesOn acked (ran config calls).state size held more f
ran_writes kind acked config calls size held more f asked few layout streams open' =
    let w = ran config calls in
    let rightly : (passed : Option (List ℕ)) → WritesRightly acked passed w.state size held more w.past f =
    λ passed. writes_rightly config calls size held more kind acked passed f asked few layout open' streams in
    let here : IsRun w.state f.stream =
    record { config = config; calls = calls; asked = asked; state_is = refl; streams = streams } in
    record {
      right = λ passed. (rightly passed).right;
      run = λ passed.
          run_more w.state f.stream (behind_answer acked passed (answer w.state size held more) f).stream
          (Take size held more) here few (rightly passed).streams;
    }

pub writes_on : (kind : PdcpKind) (acked : ℕ → Bool) (s : State) (size : ℕ) (held : Option ℕ) (more : Bool) (f : Flow)
    → size ≤ 32767 → f.layout ≡ layouts.Am kind → IsOpen acked f s (turn s size held more) → IsRun s f.stream
    → WritesOn acked s size held more f
writes_on kind acked s size held more f few layout open' h =
    subst (λ (t : State). IsOpen acked f t (turn t size held more) → WritesOn acked t size held more f) h.state_is
    (ran_writes kind acked h.config h.calls size held more f h.asked few layout h.streams) open'

-- ---- VT(A) never falls

turn_grows : (t : Turn) (s : State) (size : ℕ) (more : Bool) → s.window.base ≤ (after_turn t s size more).window.base
unfolding after_turn
turn_grows turns.Whole s size more =
    let same = ap (λ (w : TxWindow). w.base) (polled-window (is_wanted (sent_whole s) more) (sent_whole s)) in
    omega (arith, same)
turn_grows turns.Part s size more =
    let same = ap (λ (w : TxWindow). w.base)
    (polled-window (is_wanted (sent_segment s size) more) (sent_segment s size)) in
    omega (arith, same)
turn_grows turns.New s size more =
    let same = ap (λ (w : TxWindow). w.base) (polled-window (is_wanted (sent_new s size) more) (sent_new s size)) in
    omega (arith, same)
turn_grows turns.Idle s size more = omega arith
turn_grows turns.Stopped s size more = omega arith
turn_grows turns.Small s size more = omega arith
turn_grows turns.Shut s size more = omega arith
turn_grows turns.Held s size more = omega arith

status_grows : (s : State) (status : StatusPdu) → s.window.base ≤ (after_status s status).window.base
unfolding after_status
status_grows s status = by (is_ignored s status.ack)
  where
    below : ℕ
    below = offset_of s.window.base status.ack

    by : (b : Bool) → s.window.base ≤ (if b then s else applied s below status.nacks).window.base
    by true = omega arith
    by false =
        let same = ap (λ (w : TxWindow). w.base)
        (ended-window (limit_of s below status.nacks) (stops s below status.nacks) (read s below status.nacks)) in
        omega (arith, same)

recalled_base : (at : Option ℕ) (s : State) → (with_recalled at s).window.base ≡ s.window.base
recalled_base None s = refl
recalled_base (Some at) s = refl

expiry_grows : (s : State) (more : Bool) → s.window.base ≤ (after_expiry s more).window.base
unfolding after_expiry
expiry_grows s more = by (runs s.polls.timer)
  where
    by : (b : Bool)
        → s.window.base ≤ (if b then ended (expiry_limit s more) false (expired s more) else s).window.base
    by true =
        let same = ap (λ (w : TxWindow). w.base) (ended-window (expiry_limit s more) false (expired s more)) in
        let stays = recalled_base (recalled_place s more) (with_owed s) in
        omega (arith, same, stays)
    by false = omega arith

call_grows : (s : State) (c : Call) → s.window.base ≤ (after s c).window.base
call_grows s (Offer sdu) = omega arith
call_grows s (Take size held more) = turn_grows (turn s size held more) s size more
call_grows s (Status status) = status_grows s status
call_grows s Tick = omega arith
call_grows s (Expire more) = expiry_grows s more
call_grows s (Settle more) =
    let same = ap (λ (w : TxWindow). w.base) (settled-window (settles s more) s) in
    omega (arith, same)
call_grows s Confirm = omega arith

pub base_grows : (cs : List Call) (s : State) → s.window.base ≤ (sends_on cs s).window.base
base_grows [] s = omega arith
base_grows (c ∷ cs) s =
    let one = call_grows s c in
    let rest = base_grows cs (after s c) in
    omega (arith, one, rest)

-- ---- what is offered leaves the window

pub offers_window : (pdus : List (List ℕ)) (s : State) → (sends_on (map (λ pdu. Offer pdu) pdus) s).window ≡ s.window
offers_window [] s = refl
offers_window (pdu ∷ pdus) s = offers_window pdus (after s (Offer pdu))

-- ---- a number that waits isn't acknowledged

-- an octet that doesn't rest
record OneWaits (h : Kept) : Type 0 where
  place : ℕ
  below : place < length h.field
  open' : has h.resting place ≡ false

one_waits : (most : ℕ) (h : Kept) (n : SentNumber) → IsAccounted most h n → is_waiting h ≡ true → OneWaits h
one_waits most h n a e =
    by (first_waiting h)
    (gaps_are_first h.resting 0 (length h.field)
    (a.runs (subst (λ (k : ℕ). 0 < k) a.size (has_octet h e)))) e
  where
    by : (o : Option Part)
        → MatchOption o ((i : ℕ) → 0 ≤ i → i < length h.field → has h.resting i ≡ true)
        (IsGap h.resting 0 (length h.field))
        → is_some o ≡ true → OneWaits h
    by None all some = absurd cc
    by (Some p) gap some = record {
      place = p.start;
      below = omega (arith, gap.some, gap.below);
      open' = gap.missing p.start (omega arith) gap.some;
    }

not_true : (b c : Bool) → c ≡ false → c ≡ not b → b ≡ true
not_true true c e same = refl
not_true false c e same = absurd cc

-- an octet that waits is no gap
no_gap : (most : ℕ) (h : Kept) (n : SentNumber) (i : ℕ) → IsAccounted most h n → has n.waiting i ≡ true
    → is_none (gap_in n.waiting i (i + 1)) ≡ true
no_gap most h n i a e = by (gap_in n.waiting i (i + 1)) (gaps_are_first n.waiting i (i + 1) a.ascends)
  where
    by : (o : Option Part)
        → MatchOption o ((k : ℕ) → i ≤ k → k < i + 1 → has n.waiting k ≡ true) (IsGap n.waiting i (i + 1))
        → is_none o ≡ true
    by None all = refl
    by (Some p) gap =
        let none : has n.waiting i ≡ false =
        gap.missing i (omega (arith, gap.above, gap.some, gap.below)) (omega (arith, gap.above, gap.some, gap.below)) in
        absurd cc

waiting_open : (most : ℕ) (es : List FlowEvent) (s : State) → IsHistory es
    → AreAccounted most s.window (account_of most es).sending → waits s ≡ true
    → acked_kept (number_again s) (account_of most es).sending ≡ false
waiting_open most es s history are e =
    let place = leading_idle s.window.slots in
    let lt : place < length s.window.slots = ltb-true place (length s.window.slots) e in
    let f : FlowSending = (account_of most es).sending in
    let kept : Kept = slot_at s.window.slots place in
    let n : SentNumber = number_at f.numbers place in
    let a : IsAccounted most kept n = are.numbers place lt in
    let one = one_waits most kept n a (first-waits s.window.slots lt) in
    let size = a.size in
    let below = one.below in
    let told : has n.waiting one.place ≡ true =
    not_true (has n.waiting one.place) (has kept.resting one.place) one.open'
    (a.rests one.place (omega (arith, size, below))) in
    let base = are.base in
    let many = are.length_is in
    let number : ℕ = number_again s in
    let at : number - f.base ≡ place = omega (arith, base) in
    let low : f.base ≤ number = omega (arith, base) in
    let sending : IsSending most es f = (accounts_are_true most es history).sending in
    let next' = sending.next in
    let own : octets_wait number one.place (one.place + 1) f ≡ true =
    and_from (nat_le f.base number)
    (is_none (gap_in (number_at f.numbers (number - f.base)).waiting one.place (one.place + 1)))
    (le-leb f.base number low)
    (subst (λ (k : ℕ). is_none (gap_in (number_at f.numbers k).waiting one.place (one.place + 1)) ≡ true) (sym at)
    (no_gap most kept n one.place a told)) in
    let wait : waits_by es number one.place ≡ true =
    (sending.waiting number one.place (one.place + 1) (omega arith)).all own one.place (omega arith) (omega arith) in
    ap (λ (b : Bool). b || (number_at f.numbers (number - f.base)).acked) (le-ltb number f.base low)
    ∙ (sending.acked number low (omega (arith, base, many, lt, next'))
    ∙ still number one.place wait)
  where
    still : (number i : ℕ) → waits_by es number i ≡ true → is_acked es number ≡ false
    still number i w = by (is_acked es number) refl
      where
        by : (b : Bool) → is_acked es number ≡ b → b ≡ false
        by true e' = let none = acked_rests es number i e' in absurd cc
        by false e' = refl

-- so it is sent again rightly
pub turn_open : (most : ℕ) (es : List FlowEvent) (s : State) (size : ℕ) (held : Option ℕ) (more : Bool)
    (acked : ℕ → Bool) (f : Flow) → IsHistory es → AreAccounted most s.window (account_of most es).sending
    → ((n : ℕ) → acked n ≡ acked_kept n (account_of most es).sending) → f.floor ≤ s.window.base
    → IsOpen acked f s (turn s size held more)
turn_open most es s size held more acked f history accounted are low = by (turn s size held more) refl
  where
    opens : waits s ≡ true → is_open_in f.floor acked (number_again s) ≡ true
    opens w =
        and_from (nat_le f.floor (number_again s)) (not (acked (number_again s)))
        (le-leb f.floor (number_again s) (omega (arith, low)))
        (ap (λ (b : Bool). not b) (are (number_again s) ∙ waiting_open most es s history accounted w))

    by : (t : Turn) → turn s size held more ≡ t → IsOpen acked f s t
    by turns.Whole e' = opens (is_whole s size held more e')
    by turns.Part e' = opens (is-part s size held more e').0
    by turns.New e' = tt
    by turns.Idle e' = tt
    by turns.Stopped e' = tt
    by turns.Small e' = tt
    by turns.Shut e' = tt
    by turns.Held e' = tt
