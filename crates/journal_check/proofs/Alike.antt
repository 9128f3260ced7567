-- Of the accounts of flows each checker reads what the taking of SDUs leaves as it is.
use Rattle.std.proofs.Common.{◌≡◌, ℕ, Bool, true, false, ◌&&◌, List, [], ◌∷◌, Option, Some, None, refl, ap, ◌∙◌}
use Rattle.std.proofs.Math.Path.{fun_ext}
use Rattle.eps_sec.specs.declared.Keys.{Keys}
use Rattle.l2_types.specs.declared.event.Lost.TheVariants.{Ignored}
use Rattle.l2_types.specs.declared.side.Side.{Side}
use Rattle.l2_types.specs.declared.side.Side.TheVariants.{Nb, Ue}
use Rattle.mac_pdu.specs.declared.builder.Sdu.{Sdu}
use Rattle.mac_pdu.specs.Reading.{reading}
use Rattle.bearer_types.specs.declared.event.Event.{Event}
use Rattle.bearer_types.specs.declared.event.Event.TheVariants as events
use Rattle.bearer_types.specs.Sides.{other, sender_of}
use Rattle.air_record.specs.declared.record.Record.{Record}
use Rattle.air_record.specs.declared.record.Record.TheVariants as records
use Rattle.journal_stream.specs.SentOctets.{SentOctets}
use Rattle.journal_takes.specs.FlowTakes.{FlowTakes}
use Rattle.journal_flows.specs.declared.parcels.Parcel.{Parcel}
use Rattle.journal_flows.specs.declared.parcels.Parcel.TheVariants.{Octets, Pieces, Report}
use Rattle.journal_flows.specs.Gathering.{Sending, sending_of, sent_last, sdus_read}
use Rattle.journal_flows.specs.Accounts.{Keeping, account_at}
use Rattle.journal_given.specs.Supplies.{accounts}
use Rattle.journal_given.specs.Giving as given
use Rattle.journal_given.proofs.Taking.{SameKept, account_same, sending_same}
use Rattle.journal_sent.specs.declared.checker.NamedPdu.{NamedPdu}
use Rattle.journal_sent.specs.declared.checker.PassedSdu.{PassedSdu}
use Rattle.journal_sent.specs.SentPdus as pdus
use Rattle.journal_sent.specs.SentFlows.{SentFlow, acked_by, flow_settled}
use Rattle.journal_sent.specs.Sending as sent
use Rattle.journal_failure.specs.Checking as failure
use Rattle.journal_status.specs.StatusChecking as status
use Rattle.journal_delivered.specs.DeliveryChecking as delivered

-- ---- failures

limits_same : (side : Side) (k w : Keeping) → SameKept k w → failure.limit_at side k ≡ failure.limit_at side w
limits_same side k w s =
    fun_ext (λ (l : ℕ). ap failure.limit_of (account_same side l k w s))

abbrev failure_ended : (ℕ → Option ℕ) → (ℕ → Option ℕ) → failure.Checking → failure.Checking
failure_ended nb ue c = record {
  nb = failure.all_ended c.hands_over nb 0 c.nb;
  ue = failure.all_ended c.hands_over ue 0 c.ue;
  right = c.right && failure.all_right nb 0 c.nb && failure.all_right ue 0 c.ue;
  hands_over = false;
}

pub failure_same : (k w : Keeping) (c : failure.Checking) → SameKept k w
    → failure.after_group k c ≡ failure.after_group w c
failure_same k w c s =
    ap (λ (f : ℕ → Option ℕ). failure_ended f (failure.limit_at Ue k) c) (limits_same Nb k w s)
    ∙ ap (λ (f : ℕ → Option ℕ). failure_ended (failure.limit_at Nb w) f c) (limits_same Ue k w s)

-- ---- STATUS PDUs

report_same : (from : Side) (p : Parcel) (k w : Keeping) → SameKept k w
    → status.is_true_report k.journal.flows from p ≡ status.is_true_report w.journal.flows from p
report_same from (Octets lcid n start end) k w s = refl
report_same from (Pieces lcid n size pieces) k w s = refl
report_same from (Report lcid ack entries) k w s =
    ap (λ (o : Option _). status.is_true_for o ack entries) (account_same (other from) lcid k w s)

reports_same : (from : Side) (ps : List Parcel) (k w : Keeping) → SameKept k w
    → status.all_true k.journal.flows from ps ≡ status.all_true w.journal.flows from ps
reports_same from [] k w s = refl
reports_same from (p ∷ ps) k w s =
    ap (λ (b : Bool). b && status.all_true k.journal.flows from ps) (report_same from p k w s)
    ∙ ap (λ (b : Bool). status.is_true_report w.journal.flows from p && b) (reports_same from ps k w s)

true_same : (from : Side) (k w : Keeping) → SameKept k w → status.are_true k from ≡ status.are_true w from
true_same from k w s =
    ap (λ (x : Sending). status.all_true k.journal.flows from (sent_last x)) (sending_same from k w s)
    ∙ reports_same from (sent_last (sending_of from w.journal)) k w s

ignored_same : (side : Side) (lcid : ℕ) (k w : Keeping) → SameKept k w
    → status.ignored_at side k lcid ≡ status.ignored_at side w lcid
ignored_same side lcid k w s = ap status.ignored_kept (account_same side lcid k w s)

event_same : (side : Side) (event : Event) (k w : Keeping) (c : status.Checking) → SameKept k w
    → status.after_event k side event c ≡ status.after_event w side event c
event_same side (events.Drop lcid Ignored) k w c s =
    ap (λ (n : ℕ). status.after_told side lcid n c) (ignored_same side lcid k w s)
event_same side event k w c s = refl

pub status_same : (one : Record) (k w : Keeping) (c : status.Checking) → SameKept k w
    → status.after_record k one c ≡ status.after_record w one c
status_same (records.Of side event) k w c s = event_same side event k w c s
status_same (records.Block direction process true version octets) k w c s =
    ap (λ (b : Bool). status.and_right b c) (true_same (sender_of direction) k w s)
status_same one k w c s = refl

abbrev status_ended : (ℕ → ℕ) → (ℕ → ℕ) → status.Checking → status.Checking
status_ended nb ue c = record {
  nb = status.tolds_behind c.hands_over c.nb;
  ue = status.tolds_behind c.hands_over c.ue;
  right = c.right && status.all_told nb 0 c.nb && status.all_told ue 0 c.ue;
  hands_over = false;
}

all_ignored_same : (side : Side) (k w : Keeping) → SameKept k w → status.ignored_at side k ≡ status.ignored_at side w
all_ignored_same side k w s = fun_ext (λ (l : ℕ). ignored_same side l k w s)

pub status_end_same : (k w : Keeping) (c : status.Checking) → SameKept k w
    → status.after_group k c ≡ status.after_group w c
status_end_same k w c s =
    ap (λ (f : ℕ → ℕ). status_ended f (status.ignored_at Ue k) c) (all_ignored_same Nb k w s)
    ∙ ap (λ (f : ℕ → ℕ). status_ended (status.ignored_at Nb w) f c) (all_ignored_same Ue k w s)

-- ---- what goes up

came_same : (side : Side) (k w : Keeping) → SameKept k w → delivered.came_at side k ≡ delivered.came_at side w
came_same side k w s =
    fun_ext (λ (l : ℕ). ap delivered.next_of (account_same side l k w s))

abbrev delivered_ended : (ℕ → ℕ) → (ℕ → ℕ) → delivered.Checking → delivered.Checking
delivered_ended nb ue c = record c {
  nb = delivered.all_ended nb 0 c.nb;
  ue = delivered.all_ended ue 0 c.ue;
  right = c.right && delivered.all_right (delivered.all_ended nb 0 c.nb)
      && delivered.all_right (delivered.all_ended ue 0 c.ue);
}

pub delivered_same : (k w : Keeping) (c : delivered.Checking) → SameKept k w
    → delivered.after_group k c ≡ delivered.after_group w c
delivered_same k w c s =
    let last = delivered.released c.submitted c in
    ap (λ (f : ℕ → ℕ). delivered_ended f (delivered.came_at Ue k) last) (came_same Nb k w s)
    ∙ ap (λ (f : ℕ → ℕ). delivered_ended (delivered.came_at Nb w) f last) (came_same Ue k w s)

-- ---- what is sent

abbrev Giving : Type 0
Giving = given.Giving FlowTakes

abbrev Sent : Type 0
Sent = sent.Sending SentOctets

acked_same : (side : Side) (lcid : ℕ) (k w : Keeping) → SameKept k w
    → acked_by (account_at side lcid k.journal.flows) ≡ acked_by (account_at side lcid w.journal.flows)
acked_same side lcid k w s = ap acked_by (account_same side lcid k w s)

pdus_same : (side : Side) (named : List NamedPdu) (sdus : List Sdu) (k : Keeping) (g : Giving) (c : Sent)
    → SameKept k g.kept
    → sent.pdus_told pdus.accounts side (given.with_kept k g) named sdus c
    ≡ sent.pdus_told pdus.accounts side g named sdus c
pdus_same side [] sdus k g c s = refl
pdus_same side (n ∷ named) [] k g c s = refl
pdus_same side (n ∷ named) (d ∷ sdus) k g c s =
    ap (λ (f : ℕ → Bool). sent.pdus_told pdus.accounts side (given.with_kept k g) named sdus
    (sent.pdu_told_by pdus.accounts side f n d (sent.flow_at d.lcid (sent.flows_of side c)) c))
    (acked_same side d.lcid k g.kept s)
    ∙ pdus_same side named sdus k g (sent.pdu_told pdus.accounts side g n d c) s

taken_same : (side : Side) (lcid : ℕ) (count : Option ℕ) (k : Keeping) (g : Giving)
    → sent.sdu_of accounts side lcid count (given.with_kept k g) ≡ sent.sdu_of accounts side lcid count g
taken_same side lcid None k g = refl
taken_same side lcid (Some count) k g = refl

happens_same : (side : Side) (event : Event) (k : Keeping) (g : Giving) (passed : Option PassedSdu) (c : Sent)
    → sent.event_told pdus.accounts accounts side event (given.with_kept k g) passed c
    ≡ sent.event_told pdus.accounts accounts side event g passed c
happens_same side (events.Take lcid count len) k g passed c =
    ap (λ (sdu : Option (List ℕ)). sent.take_told pdus.accounts side lcid count len sdu c)
    (taken_same side lcid count k g)
happens_same side event k g passed c = refl

told_same : (one : Record) (k : Keeping) (g : Giving) (passed : Option PassedSdu) (c : Sent) → SameKept k g.kept
    → sent.tells pdus.accounts accounts one (given.with_kept k g) passed c
    ≡ sent.tells pdus.accounts accounts one g passed c
told_same (records.Of side event) k g passed c s =
    happens_same side event k g passed (sent.judged (sent.is_known (sent.lcid_in event) c) c)
told_same (records.Block direction process true version octets) k g passed c s =
    let from = sender_of direction in
    pdus_same from (sent.named_of from c) (sdus_read (reading direction octets)) k g (sent.with_named from [] c) s
told_same one k g passed c s = refl

pub sent_same : (one : Record) (k : Keeping) (g : Giving) (c : Sent) → SameKept k g.kept
    → sent.after_record pdus.accounts accounts one (given.with_kept k g) c
    ≡ sent.after_record pdus.accounts accounts one g c
sent_same one k g c s =
    let settled = sent.settled one c in
    told_same one k g settled.passed (record (sent.settled one c) { passed = None }) s

closed_slot_same : (renewal : Option Keys) (side : Side) (k : Keeping) (g : Giving) → SameKept k g.kept → (lcid : ℕ)
    (f : Option (SentFlow SentOctets))
    → sent.flow_closed pdus.accounts renewal side (given.with_kept k g) lcid f
    ≡ sent.flow_closed pdus.accounts renewal side g lcid f
closed_slot_same renewal side k g s lcid None = refl
closed_slot_same renewal side k g s lcid (Some f) =
    ap (λ (o : Option _). Some (flow_settled pdus.accounts o (sent.renewed_by pdus.accounts renewal f)))
    (account_same side lcid k g.kept s)

closed_same : (renewal : Option Keys) (side : Side) (k : Keeping) (g : Giving) → SameKept k g.kept
    → sent.flow_closed pdus.accounts renewal side (given.with_kept k g)
    ≡ sent.flow_closed pdus.accounts renewal side g
closed_same renewal side k g s =
    fun_ext (λ (l : ℕ). fun_ext (λ (f : Option (SentFlow SentOctets)). closed_slot_same renewal side k g s l f))

abbrev Closing : Type 0
Closing = ℕ → Option (SentFlow SentOctets) → Option (SentFlow SentOctets)

abbrev closes : Closing → Closing → Sent → Sent
closes nb ue c = record {
  nb = given.each_from nb 0 c.nb;
  ue = given.each_from ue 0 c.ue;
  named_nb = [];
  named_ue = [];
  passed = None;
  submitted = None;
  keys = sent.keys_behind c.renewal c.keys;
  renewal = None;
  sent = c.sent;
  shaped = c.shaped;
}

closing_same : (k : Keeping) (g : Giving) (c : Sent) → SameKept k g.kept
    → sent.closed pdus.accounts (given.with_kept k g) c ≡ sent.closed pdus.accounts g c
closing_same k g c s =
    ap (λ (f : Closing). closes f (sent.flow_closed pdus.accounts c.renewal Ue (given.with_kept k g)) c)
    (closed_same c.renewal Nb k g s)
    ∙ ap (λ (f : Closing). closes (sent.flow_closed pdus.accounts c.renewal Nb g) f c)
    (closed_same c.renewal Ue k g s)

pub sent_end_same : (k : Keeping) (g : Giving) (c : Sent) → SameKept k g.kept
    → sent.after_group pdus.accounts (given.with_kept k g) c ≡ sent.after_group pdus.accounts g c
sent_end_same k g c s = closing_same k g (sent.released c.submitted c) s
