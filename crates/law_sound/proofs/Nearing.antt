-- A STATUS with numbers near VT(S) keeps them near as other PDUs come before it.
use Rattle.std.proofs.Common.{◌≡◌, ◌≤◌, ℕ, Bool, true, false, if◌then◌else◌, List, [], ◌∷◌, Option, Some, None}
use Rattle.std.proofs.Common.{Result, Ok, Err, refl, ap, sym, subst, ◌∙◌, arith}
use Rattle.std.specs.List.{AllByRecursion}
use Rattle.l2_num.specs.Timers.{runs}
use Rattle.l2_types.specs.declared.config.AmTxConfig.{AmTxConfig}
use Rattle.l2_types.specs.declared.AmRxConfig.{AmRxConfig}
use Rattle.bearer.specs.Acknowledged.State.{State}
use Rattle.rlc_pdu.specs.declared.fault.RlcRefusal.{RlcRefusal}
use Rattle.rlc_pdu.specs.Pdus.{AcknowledgedPdu, StatusPdu, Payload, Status as Control}
use Rattle.rlc_pdu.specs.Reading.{am_at}
use Rattle.rlc_am_tx_window.specs.Window.{TxWindow, next, offset_of}
use Rattle.rlc_am_tx.specs.Machine.{State as Sender, after_status, after_expiry, is_ignored, applied, read}
use Rattle.rlc_am_tx.specs.Machine.{limit_of, stops, expiry_limit, expired, recalled_place, with_recalled, with_owed}
use Rattle.rlc_am_tx.specs.Machine.{settles, settled_by, ended}
use Rattle.journal_account.specs.declared.entry.StatusEntry.{StatusEntry}
use Rattle.law_rlc.specs.AmSender.Run.{Call as SenderCall, Offer, Take, Status, Tick, Expire, Settle, Confirm, after}
use Rattle.law_rlc.specs.AmPair.Flow.{Step as FlowStep, sender, goes as flow_goes, am_rlc_outset}
use Rattle.law_rlc.specs.AmPair.Given.{AreGiven as AreGivenSteps}
use Rattle.law_rlc.proofs.AmSender.Carried.{applied-next, recalled-next}
use Rattle.law_rlc.proofs.AmSender.Least.{ended-window, settled-window}
use Rattle.law_bearer.specs.AnyBearer.Acknowledged.{status_heard, IsOfSender}
use Rattle.law_bearer.specs.AnyBearer.Calls.{Arrive}
use Rattle.law_bearer.specs.AnyBearer.Sending.{sends_on}
use Rattle.law_bearer.proofs.AnyBearer.SenderCalls.{sender_goes_on}
use Rattle.law_deliver.specs.AmFlow.Pair.{called}
use Rattle.law_deliver.specs.AmFlow.UnderWay.{IsUnderWay}
use Rattle.law_deliver.proofs.AmFlow.Loads.{all_at, each}
use Rattle.law_deliver.proofs.AmFlow.Sending.{is_called}
use Rattle.law_deliver.proofs.AmFlow.UnderWay.{statuses_are_of_reports}
use Rattle.law_account.specs.LateStatus.{IsHeardLate, entries_of}
use Rattle.law_account.specs.TrueStatus.{HasTrueNumbers}
use Rattle.law_account.proofs.LateStatus.{late_statuses_heard}
use Rattle.law_run.proofs.AskedCalls.{AllP}

-- a STATUS has 10 bits of numbers near VT(S)
abbrev pub IsNear : Sender → StatusPdu → Type 0
IsNear s status = (ack : ℕ) × (entries : List StatusEntry) × HasTrueNumbers s.window status ack entries

-- VT(S) stays, and VT(A) only rises
record IsLater (w v : TxWindow) : Type 0 where
  next_is : next v ≡ next w
  base : w.base ≤ v.base

later_as : (w v : TxWindow) → v ≡ w → IsLater w v
later_as w v q = record { next_is = ap next q; base = let b = ap (λ (x : TxWindow). x.base) q in omega (arith, b) }

later_then : (u v w : TxWindow) → IsLater u v → IsLater v w → IsLater u w
later_then u v w p q =
    record { next_is = q.next_is ∙ p.next_is; base = let a = p.base in let b = q.base in omega (arith, a, b) }

near_later : (s t : Sender) (status : StatusPdu) → IsLater s.window t.window → IsNear s status → IsNear t status
near_later s t status l h =
    let n = h.2 in
    let same = l.next_is in
    let low = l.base in (
      h.0,
      h.1,
      record {
        window = let a = n.window in omega (arith, a, same, low);
        ack_sn = n.ack_sn;
        nack_sns = n.nack_sns;
        ack_near = record {
          known = let a = n.ack_near.known in omega (arith, a, same);
          young = let a = n.ack_near.young in omega (arith, a, same);
        };
        near = λ k e.
            let x = n.near k e in
            record {
              known = let a = x.known in omega (arith, a, same);
              young = let a = x.young in omega (arith, a, same);
            };
      },
    )

-- ---- a PDU comes

applied_later : (s : Sender) (below : ℕ) (status : StatusPdu)
    → IsLater s.window (applied s below status.nacks).window
applied_later s below status = record {
  next_is = applied-next s below status;
  base =
      let w = ap (λ (v : TxWindow). v.base)
      (ended-window (limit_of s below status.nacks) (stops s below status.nacks) (read s below status.nacks)) in
      omega (arith, w);
}

status_later : (s : Sender) (status : StatusPdu) → IsLater s.window (after_status s status).window
unfolding after_status
status_later s status = by (is_ignored s status.ack)
  where
    by : (b : Bool)
        → IsLater s.window (if b then s else applied s (offset_of s.window.base status.ack) status.nacks).window
    by true = later_as s.window s.window refl
    by false = applied_later s (offset_of s.window.base status.ack) status

recalled_later : (o : Option ℕ) (s : Sender) → IsLater s.window (with_recalled o s).window
recalled_later None s = later_as s.window s.window refl
recalled_later (Some at) s = record { next_is = recalled-next (Some at) s; base = omega arith }

expiry_later : (s : Sender) (more : Bool) → IsLater s.window (after_expiry s more).window
unfolding after_expiry
expiry_later s more = by (runs s.polls.timer)
  where
    by : (b : Bool)
        → IsLater s.window (if b then ended (expiry_limit s more) false (expired s more) else s).window
    by true =
        subst (IsLater s.window) (sym (ended-window (expiry_limit s more) false (expired s more)))
        (recalled_later (recalled_place s more) (with_owed s))
    by false = later_as s.window s.window refl

own_later : (s : Sender) (c : SenderCall) → IsOfSender c → IsLater s.window (after s c).window
own_later s (Offer sdu) own = absurd own
own_later s (Take size held more) own = absurd own
own_later s (Status status) own = absurd own
own_later s Tick own = later_as s.window s.window refl
own_later s (Expire more) own = expiry_later s more
own_later s (Settle more) own =
    later_as s.window (settled_by (settles s more) s).window (settled-window (settles s more) s)
own_later s Confirm own = later_as s.window s.window refl

owns_later : (cs : List SenderCall) (s : Sender) → AllByRecursion IsOfSender cs
    → IsLater s.window (sends_on cs s).window
owns_later [] s own = later_as s.window s.window refl
owns_later (c ∷ cs) s own =
    later_then s.window (after s c).window (sends_on cs (after s c)).window (own_later s c own.0)
    (owns_later cs (after s c) own.1)

heard_later : (r : Result AcknowledgedPdu RlcRefusal) (s : Sender)
    → IsLater s.window (sends_on (status_heard r) s).window
heard_later (Ok (Control status)) s = status_later s status
heard_later (Ok (Payload pdu)) s = later_as s.window s.window refl
heard_later (Err refused) s = later_as s.window s.window refl

arrival_later : (b : State) (octets : List ℕ) → IsLater b.tx.window (called b (Arrive octets)).tx.window
arrival_later b octets =
    let d = called b (Arrive octets) in
    let g = sender_goes_on b d (Arrive octets) (is_called b (Arrive octets)) in
    let heard = sends_on (status_heard (am_at octets)) b.tx in
    later_then b.tx.window heard.window d.tx.window (heard_later (am_at octets) b.tx)
    (subst (λ (s : Sender). IsLater heard.window s.window) (sym g.left) (owns_later g.own heard g.are_own))

pub near_stays : (b : State) (octets : List ℕ) (status : StatusPdu) → IsNear b.tx status
    → IsNear (called b (Arrive octets)).tx status
near_stays b octets status near =
    near_later b.tx (called b (Arrive octets)).tx status (arrival_later b octets) near

-- ---- what is under way has such numbers

module _ (sending other_sending : AmTxConfig) (receiving other_receiving : AmRxConfig) (out back : List FlowStep)
    (out_given : AreGivenSteps (am_rlc_outset sending other_receiving) out)
    (back_given : AreGivenSteps (am_rlc_outset other_sending receiving) back) (age : ℕ) where
  one_near : (octets : List ℕ)
      → IsUnderWay (flow_goes out (am_rlc_outset sending other_receiving))
      (flow_goes back (am_rlc_outset other_sending receiving)) age octets
      → AllP IsNear (sender (flow_goes back (am_rlc_outset other_sending receiving))).state octets
  one_near octets u status read =
      let f = flow_goes back (am_rlc_outset other_sending receiving) in
      let r = statuses_are_of_reports sending other_sending receiving other_receiving out back age octets status
      out_given back_given u read in
      let late = all_at (IsHeardLate (sender f).state) f.reports r.place r.report
      (late_statuses_heard other_sending receiving back back_given) r.there in (
        r.report.ack,
        entries_of r.report,
        subst (λ (p : StatusPdu). HasTrueNumbers (sender f).state.window p r.report.ack (entries_of r.report))
            (sym r.is) late.numbers,
      )

  pub under_way_near : (pdus : List (List ℕ))
      → AllByRecursion (IsUnderWay (flow_goes out (am_rlc_outset sending other_receiving))
      (flow_goes back (am_rlc_outset other_sending receiving)) age) pdus
      → AllByRecursion (AllP IsNear (sender (flow_goes back (am_rlc_outset other_sending receiving))).state) pdus
  under_way_near pdus all =
      let f = flow_goes back (am_rlc_outset other_sending receiving) in
      each (IsUnderWay (flow_goes out (am_rlc_outset sending other_receiving)) f age)
      (AllP IsNear (sender f).state) one_near pdus all
