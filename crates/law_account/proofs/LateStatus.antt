-- A STATUS that is under way has 10 bits of numbers near VT(S).
use Rattle.std.proofs.Common.{◌≡◌, ◌≤◌, ℕ, Bool, true, ◌||◌, ◌==◌, List, [], ◌∷◌, length, map, refl, ap, sym, ◌∙◌}
use Rattle.std.proofs.Common.{arith}
use Rattle.rlc_pdu.specs.declared.pdu.Nack.{Nack}
use Rattle.rlc_am_tx_window.specs.Window.{next}
use Rattle.rlc_am_rx_window.specs.declared.missing.Missing.{Missing}
use Rattle.rlc_am_rx.specs.State.{State as Receiver}
use Rattle.rlc_am_rx.specs.Status.{nack_of, listed, chosen}
use Rattle.journal_account.specs.Entries.{names_number}
use Rattle.law_rlc.specs.AmReceiver.Status.{has_entry, IsTrueStatus}
use Rattle.law_rlc.proofs.AmReceiver.TrueStatus.{has_append, entry_in, true_status}
use Rattle.law_rlc.specs.AmPair.Flow.{Report, Flow, sender, receiver, goes, am_rlc_outset}
use Rattle.law_rlc.specs.AmPair.Numbers.{IsOrdered}
use Rattle.law_rlc.proofs.AmPair.Hearing.{in-order}
use Rattle.law_rlc.proofs.AmPair.Laws.{sound}
use Rattle.law_rlc.specs.AmPair.Given.{IsReporting}
use Rattle.law_rlc.proofs.AmPair.Sending.{sent-number}
use Rattle.law_rlc.proofs.AmPair.Sound.{one, at-most-one, each, IsTrueReport, IsSound}
use Rattle.law_rlc.proofs.AmPair.Statuses.{reports-sound}
use Rattle.law_rlc.specs.AmPair.Statuses.{reduced}
use Rattle.law_account.specs.LateStatus.{IsWrittenAhead, StatusesAreWrittenAhead, entry_of, entries_of, IsHeardLate}
use Rattle.law_account.specs.LateStatus.{LateStatusesAreHeard}
use Rattle.law_account.specs.TrueStatus.{nack_with, HasTrueNumbers}
use Rattle.law_account.proofs.TrueStatus.{true_status_heard}

-- ---- it is written

written_ahead : (f : Flow) (size : ℕ) (octets : List ℕ) → IsReporting f size octets → IsSound f
    → IsWrittenAhead (receiver f).state size
written_ahead f size octets g h = record {
  ack = record {
    from = t.ack_above;
    near =
        let a = (reports-sound f size octets g h).reports.0.known in let b = o.least in let c = o.window in
        let n = sent-number f h in omega (arith, a, b, c, n);
  };
  entries = λ n e.
      let in' : has_entry (listed s) n ≡ true = ap (λ (ms : List Missing). has_entry ms n) t.begins
      ∙ (has_append (chosen s size) t.rest n ∙ ap (λ (b : Bool). b || has_entry t.rest n) e) in
      let r = entry_in s.window.slots s.window.front s.bound n in' in
      let from = r.0 in let below = r.1 in let a = o.highest in let b = o.sent in let c = o.window in
      let d = o.least in
      record { from = from; near = omega (arith, below, a, b, c, d) };
}
  where
    s : Receiver
    s = (receiver f).state

    t : IsTrueStatus (receiver f) size
    t = true_status f.receiving f.heard size h.some

    o : IsOrdered f
    o = in-order f h

pub statuses_written_ahead : StatusesAreWrittenAhead
statuses_written_ahead sending receiving steps size octets g is =
    written_ahead (goes steps (am_rlc_outset sending receiving)) size octets is (sound sending receiving steps g)

-- ---- it comes

same_nacks : (ms : List Missing) → map nack_of ms ≡ map nack_with (map entry_of ms)
same_nacks [] = refl
same_nacks (m ∷ ms) = ap (λ (ns : List Nack). nack_of m ∷ ns) (same_nacks ms)

same_named : (ms : List Missing) (n : ℕ) → names_number (map entry_of ms) n ≡ has_entry ms n
same_named [] n = refl
same_named (m ∷ ms) n = ap (λ (b : Bool). (m.number == n) || b) (same_named ms n)

true_numbers : (f : Flow) → IsSound f → (r : Report)
    → IsTrueReport (receiver f).kept (length (sender f).past.sent) f.busy r
    → HasTrueNumbers (sender f).state.window (reduced r) r.ack (entries_of r)
true_numbers f h r q = record {
  window = (in-order f h).window;
  ack_sn = refl;
  nack_sns = same_nacks r.entries;
  ack_near = record {
    known = let a = q.known in omega (arith, a, number);
    young = let a = q.young in omega (arith, a, number, age, most);
  };
  near = λ n e.
      let a = q.near n (sym (same_named r.entries n) ∙ e) in let b = a.0 in let c = a.1 in
      record { known = omega (arith, b, number); young = omega (arith, c, number, age, most) };
}
  where
    number : length (sender f).past.sent ≡ next (sender f).state.window
    number = sent-number f h

    age : r.age ≤ 216
    age = q.age

    most : one f.busy ≤ 1
    most = at-most-one f.busy

pub heard_late : (f : Flow) → IsSound f → (r : Report)
    → IsTrueReport (receiver f).kept (length (sender f).past.sent) f.busy r → IsHeardLate (sender f).state r
heard_late f h r q =
    let numbers = true_numbers f h r q in
    record {
      numbers = numbers;
      heard = true_status_heard (sender f).state (reduced r) r.ack (entries_of r) numbers;
    }

pub late_statuses_heard : LateStatusesAreHeard
late_statuses_heard sending receiving steps g =
    let f = goes steps (am_rlc_outset sending receiving) in
    let h = sound sending receiving steps g in
    each (IsTrueReport (receiver f).kept (length (sender f).past.sent) f.busy) (IsHeardLate (sender f).state)
    (heard_late f h) f.reports h.reports
