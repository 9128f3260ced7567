-- What PDCP of a bearer keeps at an end: SDUs that may be submitted, and a short report.
use Rattle.std.proofs.Common.{◌≡◌, ◌≤◌, ◌<◌, ℕ, zero, suc, ◌+◌, ◌-◌, ◌*◌, ◌/◌, ◌%◌, ◌^◌, Bool, true, false, ◌||◌, ◌==◌}
use Rattle.std.proofs.Common.{nat_lt, nat_le, if◌then◌else◌, List, [], ◌∷◌, length, take, replicate, Option, Some, None}
use Rattle.std.proofs.Common.{refl, ap, sym, subst, ◌∙◌, arith, length-append, length-drop}
use Rattle.std.proofs.lemmas.Bool.Decides.{nat_tests}
use Rattle.std.proofs.lemmas.List.{length-set, length-replicate}
use Rattle.eps_sec.specs.declared.Keys.{Keys}
use Rattle.l2_bits.specs.declared.fault.SubmitRefusal.{SubmitRefusal}
use Rattle.l2_bits.specs.declared.fault.SubmitRefusal.TheVariants.{Empty, TooLong}
use Rattle.l2_types.specs.declared.side.Side.{Side}
use Rattle.pdcp_pdu.specs.Grammar.{report_header}
use Rattle.pdcp_pdu.specs.Kinds.{is_am, bits_of}
use Rattle.pdcp_pdu.specs.declared.pdu.PdcpKind.{PdcpKind}
use Rattle.pdcp_pdu.specs.declared.pdu.PdcpKind.TheVariants.{Srb, Um, Am}
use Rattle.pdcp_rx.specs.Heard.{Heard, Bad, Told, Data, heard}
use Rattle.pdcp_rx.specs.Held.{bitmap, is_held, widened, stored, rising}
use Rattle.pdcp_rx.specs.Laws.{Arrive, happens}
use Rattle.pdcp_rx.specs.State.{State as Receiving, width, above, passed_over, opened_at, waits, raised, left_opened}
use Rattle.pdcp_rx.specs.State.{left_data, left_heard, got, arrived, report, fresh, restarted as restarted_receiving}
use Rattle.pdcp_rx.specs.declared.got.Cause.{Cause}
use Rattle.pdcp_rx.specs.declared.got.Got.{Got}
use Rattle.pdcp_rx.specs.declared.got.Got.TheVariants as got_as
use Rattle.pdcp_rx.specs.declared.security.Opened.{Opened}
use Rattle.pdcp_rx.specs.declared.security.Opened.TheVariants as inside
use Rattle.pdcp_tx_store.specs.declared.given.Sent.{Sent}
use Rattle.pdcp_tx_store.specs.Waiting.{Waits}
use Rattle.pdcp_tx.specs.Pdus.{extra}
use Rattle.pdcp_tx.specs.Runs.{Submit, Take, Confirm, Report, Tick, Late}
use Rattle.pdcp_tx.specs.State.{State as Sending, start, refusal, submitted, took, took_owed, took_again, took_new}
use Rattle.pdcp_tx.specs.State.{confirmed, reported, reported_from, fms_count, ticked, after_late, is_overdue}
use Rattle.pdcp_tx.specs.State.{restarted as restarted_sending}
use Rattle.bearer_pdcp.specs.Discarding.{without_late, after_tick}
use Rattle.bearer_pdcp.specs.Ends.{Ends, begun}
use Rattle.bearer_pdcp.specs.Hearing.{is_for_sender, got_left, with_arrived, after_hearing}
use Rattle.bearer_pdcp.specs.Lives.{report_of, owing_report, restarted}
use Rattle.bearer_pdcp.specs.Taking.{after_taking}
use Rattle.bearer_pdcp.proofs.OwedSteps.{owed_late}
use Rattle.law_pdcp.specs.OneEnd.Lives.{Step, Calls, SetDiscard, Restart, goes}
use Rattle.law_pdcp.specs.OneEnd.Receiving.{Calls as Hears}
use Rattle.law_pdcp.proofs.OneEnd.Hearings.{kind_stays}
use Rattle.law_drain.specs.Ends.{HasOctet}
use Rattle.law_drain.specs.Left.{AllSent, AllWaiting, FitsReport}
use Rattle.law_drain.specs.Unsent.{report_octets}
use Rattle.law_drain.proofs.Counting.{HasCounts, step-counts}
use Rattle.law_drain.proofs.Keeping.{Brings, Keeps, step-keeps}

abbrev pub MayBeSubmitted : List ℕ → Type 0
MayBeSubmitted sdu = (1 ≤ length sdu) × (length sdu ≤ 8188)

-- what its receiver holds lies in its window; so a report is short where numbers have at most 15 bits
pub record Fits (e : Ends) : Type 0 where
  pub sdus : Keeps MayBeSubmitted e.tx
  pub counts : HasCounts e.tx
  pub held : length e.rx.held ≤ width e.rx.kind
  pub report : width e.rx.kind ≤ 2 ^ 14 → report_octets e.tx.owed ≤ 2051

-- a header, and the MAC-I of signalling
pub extra-most : (kind : PdcpKind) → extra kind ≤ 5
extra-most Srb = omega arith
extra-most (Um bits) = by (bits == 7)
  where
    by : (b : Bool) → (if b then 1 else 2) ≤ 5
    by true = omega arith
    by false = omega arith
extra-most (Am bits) = omega arith

-- ---- the own report waits until it is taken

same-owed : (s t : Sending) → t.owed ≡ s.owed → report_octets t.owed ≤ report_octets s.owed
same-owed s t e = let same = ap report_octets e in omega (arith, same)

new-owed : (ws : List Waits) (s : Sending) → (took_new ws s).owed ≡ s.owed
new-owed [] s = refl
new-owed (w ∷ ws) s = refl

again-owed : (ss : List Sent) (s : Sending) → (took_again ss s).owed ≡ s.owed
again-owed [] s = new-owed (take (s.bound - s.next) s.waiting) s
again-owed (x ∷ xs) s = refl

take-owed : (o : Option (List ℕ)) (s : Sending) → report_octets (took_owed o s).owed ≤ report_octets s.owed
take-owed None s = same-owed s (took_again s.again s) (again-owed s.again s)
take-owed (Some pdu) s = omega arith

pub took-owed : (s : Sending) → report_octets (took s).owed ≤ report_octets s.owed
unfolding took
took-owed s = take-owed s.owed s

from-owed : (o : Option ℕ) (s : Sending) (bits : List ℕ) → (reported_from o s bits).owed ≡ s.owed
from-owed None s bits = refl
from-owed (Some from) s bits = refl

reported-owed : (s : Sending) (fms : ℕ) (bits : List ℕ) → (reported s fms bits).owed ≡ s.owed
unfolding reported
reported-owed s fms bits = from-owed (fms_count s.kind s.base fms) s bits

confirmed-owed : (s : Sending) (place : ℕ) → (confirmed s place).owed ≡ s.owed
unfolding confirmed
confirmed-owed s place = refl

submitted-owed : (s : Sending) (sdu : List ℕ) → (submitted s sdu).owed ≡ s.owed
unfolding submitted
submitted-owed s sdu = refl

-- ---- a step of the sender

with-sender : (e : Ends) (s : Sending) → Fits e → Keeps MayBeSubmitted s → HasCounts s
    → report_octets s.owed ≤ report_octets e.tx.owed → Fits (record e { tx = s })
with-sender e s h k c le = record {
  sdus = k;
  counts = c;
  held = h.held;
  report = λ narrow. let few = h.report narrow in omega (arith, few, le);
}

after-step : (e : Ends) (x : Step) → Fits e → Brings MayBeSubmitted x
    → report_octets (goes e.tx x).owed ≤ report_octets e.tx.owed → Fits (record e { tx = goes e.tx x })
after-step e x h b le =
    with-sender e (goes e.tx x) h (step-keeps MayBeSubmitted e.tx x b h.sdus) (step-counts e.tx x h.counts) le

pub taken-fits : (e : Ends) → Fits e → Fits (after_taking e)
unfolding after_taking
taken-fits e h = after-step e (Calls Take) h tt (took-owed e.tx)

pub confirmed-fits : (e : Ends) (place : ℕ) → Fits e → Fits (record e { tx = confirmed e.tx place })
confirmed-fits e place h =
    after-step e (Calls (Confirm place)) h tt
    (same-owed e.tx (confirmed e.tx place) (confirmed-owed e.tx place))

pub discards-fit : (e : Ends) (ttis : ℕ) → Fits e → Fits (record e { tx = record e.tx { discard = Some ttis } })
discards-fit e ttis h = after-step e (SetDiscard ttis) h tt (omega arith)

allowed : (a b : Bool) (others : Option SubmitRefusal)
    → (if a then Some Empty else (if b then Some TooLong else others)) ≡ None → (a ≡ false) × (b ≡ false)
allowed true b others e = let no : Some Empty ≡ None = e in cc
allowed false true others e = let no : Some TooLong ≡ None = e in cc
allowed false false others e = (refl, refl)

may-be : (s : Sending) (sdu : List ℕ) → refusal s sdu ≡ None → MayBeSubmitted sdu
unfolding refusal
may-be s sdu e =
    let parts = allowed (length sdu == 0) (nat_lt 8188 (length sdu)) _ e in
    (grind (arith, nat_tests, parts.0), grind (arith, nat_tests, parts.1))

pub submitted-fits : (e : Ends) (sdu : List ℕ) → refusal e.tx sdu ≡ None → Fits e
    → Fits (record e { tx = submitted e.tx sdu })
submitted-fits e sdu allowed' h =
    after-step e (Calls (Submit sdu)) h (may-be e.tx sdu allowed')
    (same-owed e.tx (submitted e.tx sdu) (submitted-owed e.tx sdu))

record Later (s t : Sending) : Type 0 where
  sdus : Keeps MayBeSubmitted t
  counts : HasCounts t
  owed : t.owed ≡ s.owed

lates : (ws : List Waits) (s : Sending) → Keeps MayBeSubmitted s → HasCounts s → Later s (without_late ws s)
lates [] s k c = record { sdus = k; counts = c; owed = refl }
lates (w ∷ ws) s k c =
    by (is_overdue s)
    (lates ws (after_late s) (step-keeps MayBeSubmitted s (Calls Late) tt k) (step-counts s (Calls Late) c))
  where
    by : (b : Bool) → Later (after_late s) (without_late ws (after_late s))
        → Later s (if b then without_late ws (after_late s) else s)
    by true rest = record { sdus = rest.sdus; counts = rest.counts; owed = rest.owed ∙ owed_late s }
    by false rest = record { sdus = k; counts = c; owed = refl }

pub ticked-fits : (e : Ends) → Fits e → Fits (after_tick e)
unfolding after_tick
ticked-fits e h =
    let x = lates e.tx.waiting (ticked e.tx) (step-keeps MayBeSubmitted e.tx (Calls Tick) tt h.sdus)
    (step-counts e.tx (Calls Tick) h.counts) in
    with-sender e (without_late e.tx.waiting (ticked e.tx)) h x.sdus x.counts
    (same-owed e.tx (without_late e.tx.waiting (ticked e.tx)) x.owed)

-- ---- what the receiver holds

stored-length : (held : List (Option (List ℕ))) (at : ℕ) (sdu : List ℕ)
    → length (stored held at sdu) ≡ length held + (at + 1 - length held)
stored-length held at sdu = length-set (widened held (at + 1)) at (Some sdu)
    ∙ length-append held (replicate (at + 1 - length held) None)
    ∙ ap (λ (n : ℕ). length held + n) (length-replicate (at + 1 - length held) None)

placed-held : (b : Bool) (s : Receiving) (at : ℕ) (sdu : List ℕ) → at < width s.kind → length s.held ≤ width s.kind
    → length (if b then record s { held = stored s.held at sdu }
    else raised s (stored s.held at sdu) (at + 1)).held ≤ width s.kind
placed-held true s at sdu near h = omega (arith, stored-length s.held at sdu, near, h)
placed-held false s at sdu near h =
    omega (
      arith,
      length-drop (rising (stored s.held at sdu) (at + 1)) (stored s.held at sdu),
      stored-length s.held at sdu,
      near,
      h,
    )

opened-held : (o : Opened) (s : Receiving) (cause : Cause) (at : ℕ) → at < width s.kind → length s.held ≤ width s.kind
    → length (left_opened s cause at o).held ≤ width s.kind
opened-held (inside.Sdu sdu) s cause at near h = placed-held (waits s.kind cause at) s at sdu near h
opened-held (inside.Differs found wanted) s cause at near h = h

passed : (a b c : Bool)
    → (if a || b then Some got_as.Old else (if c then Some got_as.OutOfRange else None)) ≡ None → a ≡ false
passed true b c e = let no : Some got_as.Old ≡ None = e in cc
passed false b c e = refl

is-near : (s : Receiving) (at : ℕ) → passed_over s at ≡ None → at < width s.kind
is-near s at e =
    let far = passed (nat_le (width s.kind) at) (is_held s.held at) (nat_le (2 ^ 32) (s.next + at)) e in
    grind (arith, nat_tests, far)

data-held : (why : Option Got) (s : Receiving) (cause : Cause) (at : ℕ) (o : Opened) → passed_over s at ≡ why
    → length s.held ≤ width s.kind → length (left_data why s cause at o).held ≤ width s.kind
data-held (Some why) s cause at o e h = h
data-held None s cause at o e h = opened-held o s cause at (is-near s at e) h

heard-held : (x : Heard) (s : Receiving) (cause : Cause) → length s.held ≤ width s.kind
    → length (left_heard s cause x).held ≤ width s.kind
heard-held (Bad refused) s cause h = h
heard-held (Told fms bits) s cause h = h
heard-held (Data sn body) s cause h =
    data-held (passed_over s (above s sn)) s cause (above s sn) (opened_at s (above s sn) body) refl h

arrived-held : (s : Receiving) (pdu : List ℕ) (cause : Cause) → length s.held ≤ width s.kind
    → length (arrived s pdu cause).held ≤ width s.kind
unfolding arrived
arrived-held s pdu cause h = heard-held (heard s.kind pdu) s cause h

arrived-kind : (s : Receiving) (pdu : List ℕ) (cause : Cause) → (arrived s pdu cause).kind ≡ s.kind
unfolding happens
arrived-kind s pdu cause = kind_stays s (Hears (Arrive pdu cause))

arrived-fits : (pdu : List ℕ) (cause : Cause) (e : Ends) → Fits e → Fits (with_arrived pdu cause e)
arrived-fits pdu cause e h =
    let same = arrived-kind e.rx pdu cause in
    record {
      sdus = h.sdus;
      counts = h.counts;
      held = subst (λ (k : PdcpKind). length (arrived e.rx pdu cause).held ≤ width k) (sym same)
          (arrived-held e.rx pdu cause h.held);
      report = λ narrow. h.report (subst (λ (k : PdcpKind). width k ≤ 2 ^ 14) same narrow);
    }

handed-fits : (e : Ends) → Fits e → Fits (record e { rx = record e.rx { ready = [] } })
handed-fits e h = record { sdus = h.sdus; counts = h.counts; held = h.held; report = h.report }

report-fits : (b : Bool) (e : Ends) (fms : ℕ) (bits : List ℕ) → Fits e
    → Fits (if b then record e { tx = reported e.tx fms bits } else e)
report-fits true e fms bits h =
    after-step e (Calls (Report fms bits)) h tt
    (same-owed e.tx (reported e.tx fms bits) (reported-owed e.tx fms bits))
report-fits false e fms bits h = h

got-fits : (g : Got) (cause : Cause) (e : Ends) → Fits e → Fits (got_left g cause e)
got-fits got_as.Up cause e h = handed-fits e h
got-fits got_as.Stored cause e h = handed-fits e h
got-fits got_as.Old cause e h = h
got-fits got_as.OutOfRange cause e h = h
got-fits (got_as.Integrity found wanted) cause e h = h
got-fits (got_as.Report fms bits) cause e h = report-fits (is_for_sender e cause) e fms bits h
got-fits (got_as.Unreadable fault) cause e h = h

pub heard-fits : (pdu : List ℕ) (cause : Cause) (e : Ends) → Fits e → Fits (after_hearing pdu cause e)
unfolding after_hearing
heard-fits pdu cause e h =
    got-fits (got e.rx pdu cause) cause (with_arrived pdu cause e) (arrived-fits pdu cause e h)

-- ---- the next life

bitmap-length : (held : List (Option (List ℕ))) (at n : ℕ) → length (bitmap held at n) ≡ n
bitmap-length held at zero = refl
bitmap-length held at (suc n) = ap suc (bitmap-length held (at + 8) n)

header-few : (bits fms : ℕ) → length (report_header bits 0 fms) ≤ 3
header-few bits fms = by (bits == 12)
  where
    by : (b : Bool)
        → length (if b then (fms / 256) ∷ (fms % 256) ∷ [] else (0 / 2) ∷ (0 % 2 * 128 + fms / 256) ∷ (fms % 256) ∷ [])
        ≤ 3
    by true = omega arith
    by false = omega arith

report-few : (s : Receiving) → length s.held ≤ 2 ^ 14 → length (report s) ≤ 2051
unfolding report
report-few s le =
    omega (
      arith,
      length-append (report_header (bits_of s.kind) 0 (s.next % 2 ^ bits_of s.kind))
          (bitmap s.held 1 ((length s.held + 6) / 8)),
      bitmap-length s.held 1 ((length s.held + 6) / 8),
      header-few (bits_of s.kind) (s.next % 2 ^ bits_of s.kind),
      le,
    )

owing-keeps : (o : Option (List ℕ)) (s : Sending) → Keeps MayBeSubmitted s → Keeps MayBeSubmitted (owing_report o s)
owing-keeps None s k = k
owing-keeps (Some pdu) s k = record { given = k.given; again = k.again; waiting = k.waiting }

owing-counts : (o : Option (List ℕ)) (s : Sending) → HasCounts s → HasCounts (owing_report o s)
owing-counts None s c = c
owing-counts (Some pdu) s c = c

owing-few : (t : Bool) (pdu : List ℕ) (s : Sending) → s.owed ≡ None → length pdu ≤ 2051
    → report_octets (owing_report (if t then Some pdu else None) s).owed ≤ 2051
owing-few true pdu s none few = few
owing-few false pdu s none few = let zero' = ap report_octets none in omega (arith, zero')

kept-held : (b : Bool) (held : List (Option (List ℕ))) (most : ℕ) → length held ≤ most
    → length (if b then held else []) ≤ most
kept-held true held most h = h
kept-held false held most h = omega arith

restarted-owed : (s : Sending) (keys : Keys) → (restarted_sending s keys).owed ≡ None
unfolding restarted_sending
restarted-owed s keys = refl

pub restarted-fits : (e : Ends) (keys : Keys) → Fits e → Fits (restarted e keys)
unfolding restarted restarted_receiving
restarted-fits e keys h = record {
  sdus = owing-keeps (report_of e.kind e.rx) (restarted_sending e.tx keys)
      (step-keeps MayBeSubmitted e.tx (Restart keys) tt h.sdus);
  counts = owing-counts (report_of e.kind e.rx) (restarted_sending e.tx keys)
      (step-counts e.tx (Restart keys) h.counts);
  held = kept-held (is_am e.rx.kind) e.rx.held (width e.rx.kind) h.held;
  report = λ narrow.
      owing-few (is_am e.kind) (report e.rx) (restarted_sending e.tx keys) (restarted-owed e.tx keys)
      (report-few e.rx (omega (arith, h.held, narrow)));
}

pub begun-fits : (lcid : ℕ) (kind : PdcpKind) (first : ℕ) (keys : Keys) (side : Side)
    → Fits (begun lcid kind first keys side)
unfolding begun start fresh
begun-fits lcid kind first keys side = record {
  sdus = record { given = tt; again = tt; waiting = tt };
  counts = omega arith;
  held = omega arith;
  report = λ narrow. omega arith;
}

-- ---- what is said of it

all-sent : (ss : List Sent) → AllSent MayBeSubmitted ss → AllSent HasOctet ss
all-sent [] h = tt
all-sent (s ∷ ss) h = (h.0.0, all-sent ss h.1)

all-waiting : (ws : List Waits) → AllWaiting MayBeSubmitted ws → AllWaiting HasOctet ws
all-waiting [] h = tt
all-waiting (w ∷ ws) h = (h.0.0, all-waiting ws h.1)

pub fits-report : (e : Ends) → Fits e → width e.rx.kind ≤ 2 ^ 14 → FitsReport e.tx
fits-report e h narrow = record {
  octets = (all-sent e.tx.again h.sdus.again, all-waiting e.tx.waiting h.sdus.waiting);
  report = h.report narrow;
}
