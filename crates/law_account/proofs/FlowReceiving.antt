-- Along the history of a flow: a data PDU that is under way brings octets of its number.
use Rattle.std.proofs.Common.{◌≡◌, ◌<◌, ◌≤◌, ℕ, zero, suc, ◌+◌, ◌-◌, ◌%◌, List, [], ◌∷◌}
use Rattle.std.proofs.Common.{length, Some, Ok, slice_get, slice_index_or}
use Rattle.std.proofs.Common.{ap, sym, subst, ◌∙◌, arith}
use Rattle.std.specs.List.{AllByRecursion}
use Rattle.rlc_pdu.specs.Pdus.{AmdPdu, Payload}
use Rattle.rlc_pdu.specs.Reading.{am_at}
use Rattle.rlc_am_rx_window.specs.Cells.{Cell}
use Rattle.rlc_am_rx_window.specs.Piece.{piece_of}
use Rattle.rlc_am_tx_window.specs.Window.{slot_at}
use Rattle.rlc_am_rx.specs.Status.{ack}
use Rattle.journal_account.specs.FlowEvents.{SduTaken, NumberWritten, OctetsResent, OctetsArrived, ReorderStarted}
use Rattle.journal_account.specs.FlowEvents.{ReorderExpired, StatusHeard, PollExpired}
use Rattle.journal_account.specs.FlowAccount.{account_of}
use Rattle.journal_account.proofs.Accounts.{accounts_are_true}
use Rattle.journal_account.specs.FlowArrivals.{FlowArrivals, next_in, field_at}
use Rattle.journal_account.specs.FlowSending.{FlowSending}
use Rattle.law_rlc.specs.AmReceiver.Stream.{IsPart, IsSent}
use Rattle.law_rlc.specs.AmSender.Octets.{Place}
use Rattle.law_rlc.specs.AmPair.Fields.{cells_of, field_of}
use Rattle.law_rlc.specs.AmPair.Flow.{Copy, Flow, sender, receiver, goes, am_rlc_outset}
use Rattle.law_rlc.proofs.AmArrival.Coming.{IsRead, reads_copy, never_clashes, is_near}
use Rattle.law_rlc.proofs.AmPair.Fields.{sent-field}
use Rattle.law_rlc.proofs.AmPair.Hearing.{base-first}
use Rattle.law_rlc.proofs.AmPair.Laws.{sound}
use Rattle.law_rlc.proofs.AmPair.Parts.{cells-length}
use Rattle.law_rlc.proofs.AmPair.Sending.{sent-number}
use Rattle.law_rlc.proofs.AmPair.Sound.{IsTrueCopy, IsSound}
use Rattle.law_rlc.proofs.AmSender.Keys.{key}
use Rattle.law_rlc.proofs.AmSender.Pdus.{face-length}
use Rattle.law_account.specs.Accounted.{AreAccounted}
use Rattle.law_account.specs.Receiving.{IsReceiverAccounted}
use Rattle.law_account.specs.Reporting.{reported}
use Rattle.law_account.specs.FlowReceiving.{SenderEventsAreAwaited, AreSizesAlike, AreBrought}
use Rattle.law_account.specs.FlowReceiving.{CopiesAreAccounted, HistoriesTellReports}
use Rattle.law_account.proofs.Receiving.{numbers_awaited, arrivals_accounted}
use Rattle.law_account.proofs.Reporting.{reports_true}

-- what is under way at a place holds what all do
pub place_of : {A : Type 0} (P : A → Type 0) (xs : List A) (k : ℕ) (x : A) → AllByRecursion P xs
    → slice_get xs k ≡ Some x → P x
place_of P [] k x h e = absurd cc
place_of P (y ∷ ys) zero x h e = let is : y ≡ x = cc in subst P is h.0
place_of P (y ∷ ys) (suc k) x h e = place_of P ys k x h.1 e

same_pdu : (p q : AmdPdu) (octets : List ℕ) → am_at octets ≡ Ok (Payload p) → am_at octets ≡ Ok (Payload q) → q ≡ p
same_pdu p q octets e f = let same : Ok (Payload q) ≡ Ok (Payload p) = sym f ∙ e in cc

pub copy_accounted : (f : Flow) (most : ℕ) (s : FlowSending) (a : FlowArrivals) (c : Copy) (p : AmdPdu) → IsSound f
    → IsTrueCopy (sender f).past.sent c → am_at c.octets ≡ Ok (Payload p)
    → AreAccounted most (sender f).state.window s → AreSizesAlike s a → IsReceiverAccounted (receiver f).state a
    → AreBrought (receiver f).state p c.number a
copy_accounted f most s a c p h t read w z r = record {
  written = known;
  some = omega (arith, is_sent.part.some);
  accounted = arrivals_accounted (field_of sent) (receiver f).state a p c.number is_sent
      (record { before = known; size = long }) (never_clashes f c p h t read) r;
}
  where
    sent : List (List Place)
    sent = (sender f).past.sent

    known : c.number < next_in a
    known = omega (arith, t.known, sent-number f h, w.base, w.length_is, z.next)

    field_is : field_of sent c.number ≡ cells_of (slice_index_or sent c.number [])
    field_is = sent-field sent c.number t.known

    -- its field is as long as the account has it
    long : a.front ≤ c.number → (field_at a.fields (c.number - a.front)).size ≡ length (field_of sent c.number)
    long front =
        let base : s.base ≤ c.number = omega (arith, base-first f h, r.front, w.base, front) in
        let at : (sender f).state.window.base + (c.number - s.base) ≡ c.number = omega (arith, w.base, base) in
        let inside : c.number - s.base < length (sender f).state.window.slots =
        omega (arith, known, z.next, w.length_is, base) in
        sym (z.sizes c.number base front known)
        ∙ (sym ((w.numbers (c.number - s.base) inside).size)
        ∙ (face-length (key (slot_at (sender f).state.window.slots (c.number - s.base)))
        (slice_index_or sent ((sender f).state.window.base + (c.number - s.base)) [])
        (h.keeps.faces.slots (c.number - s.base) inside)
        ∙ (ap (λ (n : ℕ). length (slice_index_or sent n [])) at
        ∙ (sym (cells-length (slice_index_or sent c.number []))
        ∙ sym (ap (λ (cs : List Cell). length cs) field_is)))))

    rd : IsRead sent c.number c.octets
    rd = reads_copy f c h t

    same : rd.pdu ≡ p
    same = same_pdu p rd.pdu c.octets read rd.read

    sn : p.sn ≡ c.number % 1024
    sn = subst (λ (q : AmdPdu). q.sn ≡ c.number % 1024) same rd.sn

    is_sent : IsSent (field_of sent) (receiver f).state p c.number
    is_sent =
        let near = is_near f c p h t sn in
        record {
          sn = sn;
          from = near.from;
          below = near.below;
          part = subst (λ (cs : List Cell). IsPart cs (piece_of p)) (sym field_is)
              (subst (λ (q : AmdPdu). IsPart (cells_of (slice_index_or sent c.number [])) (piece_of q)) same rd.part);
        }

pub copies_accounted : CopiesAreAccounted
copies_accounted sending receiving steps given most s a k c p at read w z r =
    let f = goes steps (am_rlc_outset sending receiving) in
    let h : IsSound f = sound sending receiving steps given in
    copy_accounted f most s a c p h (place_of (IsTrueCopy (sender f).past.sent) f.copies k c h.copies at) read w z r

-- ---- by the history

pub sender_events_awaited : SenderEventsAreAwaited
sender_events_awaited most es s (SduTaken size) at possible r = r
sender_events_awaited most es s (NumberWritten size) at possible r =
    numbers_awaited s (account_of most es).arrivals size possible r
sender_events_awaited most es s (OctetsResent n from to) at possible r = r
sender_events_awaited most es s (OctetsArrived n from to) at possible r = absurd at
sender_events_awaited most es s ReorderStarted at possible r = absurd at
sender_events_awaited most es s ReorderExpired at possible r = absurd at
sender_events_awaited most es s (StatusHeard ack entries) at possible r = r
sender_events_awaited most es s (PollExpired more) at possible r = r

pub histories_tell_reports : HistoriesTellReports
histories_tell_reports most es s size h r =
    ((accounts_are_true most es h).statuses (ack s size) (reported s size)).all
    (reports_true s (account_of most es).arrivals size r).is_true
