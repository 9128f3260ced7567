-- Status reports that arrive, and lives, beside what is gathered.
use Rattle.std.proofs.Common.{◌≡◌, ℕ, Bool, true, false, Option, Some, None, List, [], ◌∷◌, map, Result}
use Rattle.std.proofs.Common.{Ok, refl, ap, sym, ◌∙◌, subst, inl}
use Rattle.bearer_types.specs.Sides.{other}
use Rattle.eps_sec.specs.declared.Keys.{Keys}
use Rattle.pdcp_pdu.specs.Kinds.{is_am}
use Rattle.pdcp_pdu.specs.declared.PdcpKind.{PdcpKind}
use Rattle.pdcp_pdu.specs.declared.PdcpKind.TheVariants.{Am as AmKind}
use Rattle.pdcp_sec.specs.Protection.{Protection}
use Rattle.pdcp_rx.specs.declared.got.Cause.TheVariants.{Arrived}
use Rattle.pdcp_rx.specs.Heard.{Heard, Bad, Told, Data, heard}
use Rattle.pdcp_rx.specs.State.{report}
use Rattle.pdcp_tx.specs.State.{State as Sending, start, reported, reported_from, fms_count, restarted, owing}
use Rattle.rlc_pdu.specs.declared.fault.RlcRefusal.{RlcRefusal}
use Rattle.rlc_pdu.specs.Pdus.{AcknowledgedPdu, AmdPdu, Payload}
use Rattle.rlc_pdu.specs.Reading.{am_at}
use Rattle.rlc_am_rx.specs.Machine.{arrived as landed_in, landed, turned}
use Rattle.bearer_pdcp.specs.Ends.{Ends}
use Rattle.bearer_pdcp.specs.Hearing.{applies}
use Rattle.bearer_pdcp.specs.Telling.{landed_told}
use Rattle.bearer.specs.Acknowledged.State.{State, Work, work, fresh as fresh_am}
use Rattle.bearer.specs.Acknowledged.Hearing.{settled_if, heard_work, hears, hears_all as all_heard, arrived_left}
use Rattle.bearer.specs.Acknowledged.Hearing.{after_arrival}
use Rattle.bearer.specs.declared.flow.Flow.TheVariants.{Am}
use Rattle.bearer.specs.Bearer.{flow_of}
use Rattle.bearer.specs.Hearing.{arrived}
use Rattle.journal_lives.specs.CountsCome.{CountsCome}
use Rattle.journal_takes.specs.TakeEvents.{ReportHeard}
use Rattle.journal_given.specs.Supplies.{Supply, History, histories, begun, told, life_ended}
use Rattle.law_bearer.specs.AnyBearer.Calls.{Arrive, after}
use Rattle.law_bearer.specs.AmBearer.Deeds.{after_heard, hears_one}
use Rattle.law_bearer.specs.AmBearer.Lives.{closed, restarts, protection_at}
use Rattle.law_bearer.proofs.AmBearer.Hearing.{hears_one_as}
use Rattle.law_bearer.proofs.AmBearer.Keeping.{arrives_alike}
use Rattle.law_bearer.proofs.AmBearer.Lives.{restarts_are_deeds, ends_begin_alike}
use Rattle.law_takes.specs.Laws.{IsReport}
use Rattle.law_takes.specs.Histories.{Hears, Restarts}
use Rattle.law_takes.proofs.Deeds.{deeds_are_told, runs_are_told}
use Rattle.law_given.specs.Supplied.{Progress, outset, IsReadAs, IsOwed, run_of, IsSupplied}
use Rattle.law_given.specs.SupplyLaws.{AreReports, hears_all, DataIsGathered, RefusedStay, SuppliesBegin}
use Rattle.law_given.specs.SupplyLaws.{LivesAreGathered}

-- ---- a status report

by-report : (from : Option ℕ) (x : Sending) (bitmap : List ℕ) → (reported_from from x bitmap).owed ≡ x.owed
by-report None x bitmap = refl
by-report (Some from) x bitmap = refl

report-owed : (x : Sending) (fms : ℕ) (bitmap : List ℕ) → x.owed ≡ (reported x fms bitmap).owed
unfolding reported
report-owed x fms bitmap = sym (by-report (fms_count x.kind x.base fms) x bitmap)

one-heard : (p : Progress) (x : Sending) (s : Supply History) (from : ℕ) (marks : List ℕ) (fms : ℕ)
    (bitmap : List ℕ) → IsReport x from marks fms bitmap → IsSupplied p x s
    → IsSupplied p (reported x fms bitmap) (told histories (ReportHeard from marks) s)
one-heard p x s from marks fms bitmap r h = record {
  bits = h.bits;
  given = h.given;
  told = deeds_are_told s.takes.first s.takes.bits (run_of x h.given s.takes) (Hears from marks fms bitmap) r h.told;
  many = h.many;
  pdus = h.pdus;
  unconfirmed = h.unconfirmed;
  only_given = h.only_given;
  owed = subst (λ (o : Option (List ℕ)). IsOwed s.bits s.said h.given o) (report-owed x fms bitmap) h.owed;
  report = h.report;
  came = h.came;
}

-- ---- a data PDU

abbrev after_all : List Heard → Sending → Sending
after_all [] x = x
after_all (pdu ∷ pdus) x = after_all pdus (after_heard pdu x)

pdus-heard : (pdus : List Heard) (reports : List CountsCome) (p : Progress) (x : Sending) (s : Supply History)
    → AreReports x pdus reports → IsSupplied p x s → IsSupplied p (after_all pdus x) (hears_all reports s)
pdus-heard [] [] p x s r h = h
pdus-heard [] (said ∷ reports) p x s r h = absurd r
pdus-heard (Bad refusal ∷ pdus) reports p x s r h = pdus-heard pdus reports p x s r h
pdus-heard (Data sn body ∷ pdus) reports p x s r h = pdus-heard pdus reports p x s r h
pdus-heard (Told fms bitmap ∷ pdus) [] p x s r h = absurd r
pdus-heard (Told fms bitmap ∷ pdus) (said ∷ reports) p x s r h =
    pdus-heard pdus reports p (reported x fms bitmap) (told histories (ReportHeard said.next said.beyond) s) r.1
    (one-heard p x s said.next said.beyond fms bitmap r.0 h)

settled-pdcp : (a : Bool) (w : Work) → (settled_if a w).pdcp ≡ w.pdcp
settled-pdcp true w = refl
settled-pdcp false w = refl

-- PDCP behind one of them
hears-pdcp : (sdu : List ℕ) (w : Work) → is_am w.pdcp.kind ≡ true → w.pdcp.rx.ready ≡ []
    → (hears sdu w).pdcp ≡ hears_one sdu w.pdcp
hears-pdcp sdu w am q =
    settled-pdcp (applies sdu Arrived w.pdcp) (heard_work sdu w) ∙ hears_one_as sdu w.pdcp (inl am) q

all-sender : (sdus : List (List ℕ)) (w : Work) (e : Ends) → w.pdcp ≡ e → is_am e.kind ≡ true → e.rx.ready ≡ []
    → (all_heard sdus w).pdcp.tx ≡ after_all (map (heard e.rx.kind) sdus) e.tx
all-sender [] w e same am q = ap (λ (x : Ends). x.tx) same
all-sender (sdu ∷ sdus) w e same am q =
    let next : (hears sdu w).pdcp ≡ hears_one sdu e =
    hears-pdcp sdu w (ap (λ (x : Ends). is_am x.kind) same ∙ am) (ap (λ (x : Ends). x.rx.ready) same ∙ q)
    ∙ ap (hears_one sdu) same in
    all-sender sdus (hears sdu w) (hears_one sdu e) next am refl
    ∙ ap (λ (kind : PdcpKind). after_all (map (heard kind) sdus) (after_heard (heard e.rx.kind sdu) e.tx))
    (arrives_alike e.rx sdu Arrived).kind

data-sender : (b d : State) (pdu : List ℕ) (data' : AmdPdu) → am_at pdu ≡ Ok (Payload data')
    → is_am b.pdcp.kind ≡ true → b.pdcp.rx.ready ≡ [] → after (Am b) (Arrive pdu) ≡ Am d
    → d.pdcp.tx ≡ after_all (map (heard b.pdcp.rx.kind) (landed_in b.rx data').out.ready) b.pdcp.tx
unfolding arrived after_arrival
data-sender b d pdu data' read am q e =
    let one : Am (arrived_left (am_at pdu) b) ≡ Am d = e in
    let same : d ≡ arrived_left (am_at pdu) b = cc in
    ap (λ (y : State). y.pdcp.tx) same
    ∙ ap (λ (r : Result AcknowledgedPdu RlcRefusal). (arrived_left r b).pdcp.tx) read
    ∙ all-sender (landed_in b.rx data').out.ready
    (work b.pdcp b.tx (landed_told b.pdcp.lcid (landed b.rx data') (turned b.rx data'))) b.pdcp refl am q

pub data_is_gathered : DataIsGathered
data_is_gathered p b d pdu data' reports s read k idle e r h =
    subst (λ (y : Sending). IsSupplied p y (hears_all reports s))
    (sym (data-sender b d pdu data' read (ap is_am k.kind) idle.raised e))
    (pdus-heard (map (heard b.pdcp.rx.kind) (landed_in b.rx data').out.ready) reports p b.pdcp.tx s r h)

pub refused_stay : RefusedStay
unfolding arrived after_arrival
refused_stay b d pdu why read e =
    let one : Am (arrived_left (am_at pdu) b) ≡ Am d = e in
    let same : d ≡ arrived_left (am_at pdu) b = cc in
    same ∙ ap (λ (r : Result AcknowledgedPdu RlcRefusal). arrived_left r b) read

-- ---- lives

begins-beside : (bits first : ℕ) (p : Protection)
    → IsSupplied outset (start (AmKind bits) p first) (begun histories first bits)
unfolding start
begins-beside bits first p = record {
  bits = refl;
  given = [];
  told = runs_are_told first bits p [] tt;
  many = refl;
  pdus = tt;
  unconfirmed = refl;
  only_given = λ number le. refl;
  owed = tt;
  report = refl;
  came = λ e. absurd cc;
}

pub supplies_begin : SuppliesBegin
supplies_begin c keys side b k q =
    let far : State = fresh_am c (AmKind c.pdcp_bits) keys (other side) in
    let alike = ends_begin_alike c keys side b far k q (ap (λ kind. flow_of kind c keys (other side)) k) in
    subst (λ (x : Sending). IsSupplied outset x (begun histories c.first c.pdcp_bits)) (sym alike.sender)
    (begins-beside c.pdcp_bits c.first (protection_at c keys side))

life-beside : (p : Progress) (x : Sending) (s : Supply History) (keys : Keys) (owed : List ℕ) (said : CountsCome)
    → IsReadAs s.bits owed said → IsSupplied p x s
    → IsSupplied outset (owing (restarted x keys) owed) (life_ended histories said s)
life-beside p x s keys owed said r h = record {
  bits = h.bits;
  given = [];
  told = deeds_are_told s.takes.first s.takes.bits (run_of x h.given s.takes) (Restarts keys (Some owed)) tt h.told;
  many = refl;
  pdus = tt;
  unconfirmed = refl;
  only_given = λ number le. refl;
  owed = (refl, r);
  report = refl;
  came = λ e. absurd cc;
}

pub lives_are_gathered : LivesAreGathered
lives_are_gathered p b d keys said s k idle e r h =
    let next = restarts_are_deeds s.bits b keys k idle in
    let both : Am (restarts b keys) ≡ Am d = sym next.left ∙ e in
    let same : restarts b keys ≡ d = cc in
    subst (λ (y : State). IsSupplied outset y.pdcp.tx (life_ended histories said s)) same
    (life-beside p b.pdcp.tx s keys (report (closed b)) said r h)
