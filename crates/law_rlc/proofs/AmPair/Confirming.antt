-- What a flow confirms: a STATUS that comes to the sender adds what it newly confirms, and nothing else changes it.
use Rattle.std.proofs.Common.{◌≡◌, ℕ, Bool, true, false, if◌then◌else◌, List, [], ◌∷◌, ◌++◌, drop, slice_get, Option}
use Rattle.std.proofs.Common.{Some, None, Result, Ok, Err, append_assoc, append-nil, refl, ap, sym, ◌∙◌}
use Rattle.l2_num.specs.Timers.{runs}
use Rattle.rlc_pdu.specs.declared.fault.RlcRefusal.{RlcRefusal}
use Rattle.rlc_pdu.specs.Pdus.{AcknowledgedPdu, StatusPdu, Payload, Status as Control}
use Rattle.rlc_pdu.specs.Reading.{am_at}
use Rattle.rlc_am_tx_window.specs.Ledger.{Ledger}
use Rattle.rlc_am_tx.specs.declared.turn.Turn.{Turn}
use Rattle.rlc_am_tx.specs.declared.turn.Turn.TheVariants as turns
use Rattle.rlc_am_tx.specs.Machine.{State, turn, after_turn, after_status, after_expiry, with_poll, is_wanted}
use Rattle.rlc_am_tx.specs.Machine.{sent_whole, sent_segment, sent_new, ended, expired, expiry_limit, with_recalled}
use Rattle.rlc_am_tx.specs.Machine.{with_owed, recalled_place, settled_by, settles}
use Rattle.law_rlc.specs.AmSender.Run.{Call, Offer, Take, Status, Tick, Expire, Settle, Confirm, World, after, begun}
use Rattle.law_rlc.specs.AmSender.Confirmed.{Confirmations, unconfirmed, sent_by, with_given, confirmations_after}
use Rattle.law_rlc.specs.AmSender.Confirmed.{places}
use Rattle.law_rlc.specs.AmSender.Octets.{nothing_sent, octets_after}
use Rattle.law_rlc.specs.AmPair.Confirmed.{confirmations, confirmed}
use Rattle.law_rlc.specs.AmPair.Flow.{Copy, Flow, Step, Sends, Receives, Reports, DataComes, StatusComes, DataGoes}
use Rattle.law_rlc.specs.AmPair.Flow.{StatusGoes, Passes, sender, sends, data_read, data_comes, status_read, happens}
use Rattle.law_rlc.specs.AmPair.Given.{IsSending}
use Rattle.law_rlc.proofs.AmPair.Runs.{run-more, same-state}

-- ---- a call of the sender that is no STATUS

abbrev pub ConfirmsNone : Call → Type 0
ConfirmsNone (Offer sdu) = Unit {0}
ConfirmsNone (Take size held more) = Unit {0}
ConfirmsNone (Status status) = ⊥
ConfirmsNone Tick = Unit {0}
ConfirmsNone (Expire more) = Unit {0}
ConfirmsNone (Settle more) = Unit {0}
ConfirmsNone Confirm = Unit {0}

polled-ledger : (b : Bool) (s : State) → (with_poll b s).accounts ≡ s.accounts
polled-ledger true s = refl
polled-ledger false s = refl

turn-places : (t : Turn) (s : State) (size : ℕ) (more : Bool) (g : Confirmations)
    → places (after_turn t s size more) (sent_by t s size g) ≡ places s g
unfolding after_turn
turn-places turns.Whole s size more g =
    ap (λ (l : Ledger). g.given ++ l.news) (polled-ledger (is_wanted (sent_whole s) more) (sent_whole s))
turn-places turns.Part s size more g =
    ap (λ (l : Ledger). g.given ++ l.news) (polled-ledger (is_wanted (sent_segment s size) more) (sent_segment s size))
turn-places turns.New s size more g =
    ap (λ (l : Ledger). g.given ++ l.news) (polled-ledger (is_wanted (sent_new s size) more) (sent_new s size))
turn-places turns.Idle s size more g = refl
turn-places turns.Stopped s size more g = refl
turn-places turns.Small s size more g = refl
turn-places turns.Shut s size more g = refl
turn-places turns.Held s size more g = refl

ended-ledger : (o : Option ℕ) (s : State) → (ended o false s).accounts ≡ s.accounts
ended-ledger None s = refl
ended-ledger (Some sn) s = refl

recalled-ledger : (o : Option ℕ) (s : State) → (with_recalled o s).accounts ≡ s.accounts
recalled-ledger None s = refl
recalled-ledger (Some at) s = refl

expiry-ledger : (s : State) (more : Bool) → (after_expiry s more).accounts ≡ s.accounts
unfolding after_expiry
expiry-ledger s more = by (runs s.polls.timer)
  where
    by : (b : Bool) → (if b then ended (expiry_limit s more) false (expired s more) else s).accounts ≡ s.accounts
    by true =
        ended-ledger (expiry_limit s more) (expired s more) ∙ recalled-ledger (recalled_place s more) (with_owed s)
    by false = refl

settled-ledger : (b : Bool) (s : State) → (settled_by b s).accounts ≡ s.accounts
settled-ledger true s = refl
settled-ledger false s = refl

handed-over : (news given : List ℕ) → with_given (slice_get news 0) given ++ drop 1 news ≡ given ++ news
handed-over [] given = refl
handed-over (x ∷ news) given = append_assoc given (x ∷ []) news

pub call-places : (s : State) (c : Call) (g : Confirmations) → ConfirmsNone c
    → places (after s c) (confirmations_after s c g) ≡ places s g
call-places s (Offer sdu) g n = refl
call-places s (Take size held more) g n = turn-places (turn s size held more) s size more g
call-places s (Status status) g n = absurd n
call-places s Tick g n = refl
call-places s (Expire more) g n = ap (λ (l : Ledger). g.given ++ l.news) (expiry-ledger s more)
call-places s (Settle more) g n = ap (λ (l : Ledger). g.given ++ l.news) (settled-ledger (settles s more) s)
call-places s Confirm g n = handed-over s.accounts.news g.given

-- ---- a step

-- no STATUS comes to the sender
abbrev pub IsSilent : Step → Type 0
IsSilent (Sends c) = ConfirmsNone c
IsSilent (Receives c) = Unit {0}
IsSilent (Reports size octets) = Unit {0}
IsSilent (DataComes k) = Unit {0}
IsSilent (StatusComes k) = ⊥
IsSilent (DataGoes k) = Unit {0}
IsSilent (StatusGoes k) = Unit {0}
IsSilent Passes = Unit {0}

pub sending-silent : (f : Flow) (c : Call) → IsSending f c → ConfirmsNone c
sending-silent f (Offer sdu) g = tt
sending-silent f (Take size held more) g = tt
sending-silent f (Status status) g = absurd g
sending-silent f Tick g = tt
sending-silent f (Expire more) g = tt
sending-silent f (Settle more) g = tt
sending-silent f Confirm g = tt

call-confirms : (f : Flow) (c : Call) → ConfirmsNone c → confirmed (sends f c) ≡ confirmed f
call-confirms f c n =
    ap (λ (w : World Confirmations). places w.state w.past)
    (run-more confirmations_after f.sent c (begun f.sending unconfirmed))
    ∙ call-places (confirmations f).state c (confirmations f).past n

data-confirms : (f : Flow) (o : Option Copy) → confirmed (data_comes f o) ≡ confirmed f
data-confirms f None = refl
data-confirms f (Some c) = by (am_at c.octets)
  where
    by : (x : Result AcknowledgedPdu RlcRefusal) → confirmed (data_read f x) ≡ confirmed f
    by (Ok (Payload pdu)) = refl
    by (Ok (Control pdu)) = refl
    by (Err refused) = refl

pub step-confirms : (f : Flow) (s : Step) → IsSilent s → confirmed (happens f s) ≡ confirmed f
step-confirms f (Sends c) n = call-confirms f c n
step-confirms f (Receives c) n = refl
step-confirms f (Reports size octets) n = refl
step-confirms f (DataComes k) n = data-confirms f (slice_get f.copies k)
step-confirms f (StatusComes k) n = absurd n
step-confirms f (DataGoes k) n = refl
step-confirms f (StatusGoes k) n = refl
step-confirms f Passes n = refl

-- ---- a STATUS comes

pub same-sender : (f : Flow) → (confirmations f).state ≡ (sender f).state
same-sender f =
    same-state confirmations_after octets_after f.sent (begun f.sending unconfirmed) (begun f.sending nothing_sent) refl

-- where all that was confirmed is handed over, what it newly confirms comes behind it
pub status-confirms : (f : Flow) (pdu : StatusPdu) → (sender f).state.accounts.news ≡ []
    → confirmed (status_read f (Ok (Control pdu))) ≡ confirmed f ++ (after_status (sender f).state pdu).accounts.news
status-confirms f pdu none =
    let given = (confirmations f).past.given in
    let all : confirmed f ≡ given =
    ap (λ (s : State). given ++ s.accounts.news) (same-sender f) ∙ ap (λ (l : List ℕ). given ++ l) none
    ∙ append-nil given in
    ap (λ (w : World Confirmations). places w.state w.past)
    (run-more confirmations_after f.sent (Status pdu) (begun f.sending unconfirmed))
    ∙ ap (λ (s : State). given ++ (after s (Status pdu)).accounts.news) (same-sender f)
    ∙ ap (λ (l : List ℕ). l ++ (after_status (sender f).state pdu).accounts.news) (sym all)
