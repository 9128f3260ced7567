-- What PDCP of an acknowledged bearer gives RLC at an end that has come so far is told by one record: a report that it
-- owes is read as one.
use Rattle.std.proofs.Common.{◌≡◌, ◌<◌, ℕ, ◌-◌, length, Bool, true, false, if◌then◌else◌, List, [], ◌∷◌, ◌++◌, map}
use Rattle.std.proofs.Common.{take, Option, Some, None, Result, Ok, Err, option_map, slice_get, refl, ap, sym, subst}
use Rattle.std.proofs.Common.{◌∙◌}
use Rattle.std.specs.Prelude.{IfSome}
use Rattle.bearer.specs.Bearer.{flow_of}
use Rattle.bearer.specs.Acknowledged.State.{fresh as fresh_am}
use Rattle.bearer.specs.declared.flow.Flow.{Flow}
use Rattle.bearer.specs.declared.flow.Flow.TheVariants.{Tm, Um, Am}
use Rattle.bearer.specs.Hearing.{arrived, expired, ticked, with_discard}
use Rattle.bearer.specs.Lives.{stopped, restarted}
use Rattle.bearer.specs.Submitting.{refusal, submitted}
use Rattle.bearer.specs.Taking.{after as flow_after}
use Rattle.bearer_pdcp.specs.Discarding.{after_tick, without_late}
use Rattle.bearer_pdcp.specs.Ends.{Ends, begun}
use Rattle.bearer_pdcp.specs.Hearing.{after_hearing, got_left, is_for_sender, with_arrived}
use Rattle.bearer_pdcp.specs.Lives.{report_of, owing_report, restarted as restarted_pdcp}
use Rattle.bearer_pdcp.specs.Taking.{taken, taking_told, next_told, report_told, after_taking}
use Rattle.bearer_types.specs.Configs.{IsConfig, ArePdcpBits}
use Rattle.bearer_types.specs.declared.config.BearerConfig.{BearerConfig}
use Rattle.bearer_types.specs.declared.event.Event.{Event}
use Rattle.bearer_types.specs.declared.event.Event.TheVariants as events
use Rattle.eps_sec.specs.declared.Keys.{Keys}
use Rattle.l2_types.specs.declared.channel.Kind.{Kind}
use Rattle.l2_types.specs.declared.channel.Kind.TheVariants as kinds
use Rattle.l2_types.specs.declared.event.Clock.{Clock}
use Rattle.l2_types.specs.declared.side.Side.{Side}
use Rattle.pdcp_pdu.specs.declared.pdu.PdcpKind.{PdcpKind}
use Rattle.pdcp_pdu.specs.declared.pdu.PdcpKind.TheVariants as pdcp
use Rattle.pdcp_pdu.specs.declared.pdu.PdcpRefusal.{PdcpRefusal}
use Rattle.pdcp_pdu.specs.Kinds.{IsKind, is_am}
use Rattle.pdcp_pdu.specs.Pdus.{UserPdu, Sdu, Report}
use Rattle.pdcp_pdu.specs.Reading.{user_at}
use Rattle.pdcp_rx.specs.Heard.{Told, heard, heard_user}
use Rattle.pdcp_rx.specs.State.{State as Receiving, got}
use Rattle.pdcp_rx.specs.declared.Cause.{Cause}
use Rattle.pdcp_rx.specs.declared.Got.{Got}
use Rattle.pdcp_rx.specs.declared.Got.TheVariants as got_as
use Rattle.pdcp_sec.specs.Protection.{Protection}
use Rattle.pdcp_tx.specs.State.{State as Sending, Offer, owed_offers, again_offer, new_offers, offers, written, taking}
use Rattle.pdcp_tx.specs.State.{took_new, took_again, took_owed, took, confirmed, fms_count, reported_from, reported}
use Rattle.pdcp_tx.specs.State.{is_overdue, after_late, submitted as pdcp_submitted, restarted as restarted_sending}
use Rattle.pdcp_tx.specs.State.{start, ticked as pdcp_ticked}
use Rattle.pdcp_tx_store.specs.Waiting.{Waits}
use Rattle.pdcp_tx_store.specs.declared.given.Sent.{Sent}
use Rattle.law_node.proofs.Keeping.{IsKept}
pub use Rattle.law_node.proofs.Offers.{tag_length}
use Rattle.law_node.proofs.Offers.{Offers, offers_pass, begun_offers, taken_is, pdu_some}
use Rattle.law_node.proofs.Pdcp.{Passes, arrives, expires, ticks_of, submits_of, discards_of, takes_of, moves_of}
use Rattle.promises.specs.Names.{IsPdcp}
use Rattle.law_pdcp.specs.AmPair.Flow.{IsReport}
use Rattle.law_pdcp.proofs.AmPair.Beginning.{report_heard}
use Rattle.law_run.specs.TwoEnds.SenderLog.{BearerEntry, telling}

-- ---- a report that a sender owes is read as one

-- a bearer of signalling or of data is acknowledged
abbrev pub IsAcknowledged : PdcpKind → Type 0
IsAcknowledged pdcp.Srb = Unit {0}
IsAcknowledged (pdcp.Um bits) = ⊥
IsAcknowledged (pdcp.Am bits) = Unit {0}

abbrev pub IsOwed : PdcpKind → Option (List ℕ) → Type 0
IsOwed kind None = Unit {0}
IsOwed kind (Some text) = (is_am kind ≡ true) × IsReport kind text

pub record OwesReports (kind : PdcpKind) (e : Ends) : Type 0 where
  pub acknowledged : IsAcknowledged kind
  pub known : IsKind kind
  pub offers : Offers kind e
  pub owed : IsOwed kind e.tx.owed

-- ---- no step of PDCP takes that away

keeps : (kind : PdcpKind) (d e : Ends) → OwesReports kind d → Offers kind e → e.tx.owed ≡ d.tx.owed
    → OwesReports kind e
keeps kind d e h o same = record {
  acknowledged = h.acknowledged;
  known = h.known;
  offers = o;
  owed = subst (IsOwed kind) (sym same) h.owed;
}

reported_owed : (from : Option ℕ) (s : Sending) (bitmap : List ℕ) → (reported_from from s bitmap).owed ≡ s.owed
reported_owed None s bitmap = refl
reported_owed (Some from) s bitmap = refl

got_owed : (g : Got) (cause : Cause) (e : Ends) → (got_left g cause e).tx.owed ≡ e.tx.owed
unfolding reported
got_owed got_as.Up cause e = refl
got_owed got_as.Stored cause e = refl
got_owed got_as.Old cause e = refl
got_owed got_as.OutOfRange cause e = refl
got_owed (got_as.Integrity found wanted) cause e = refl
got_owed (got_as.Report fms bitmap) cause e = by (is_for_sender e cause)
  where
    by : (b : Bool) → (if b then record e { tx = reported e.tx fms bitmap } else e).tx.owed ≡ e.tx.owed
    by true = reported_owed (fms_count e.tx.kind e.tx.base fms) e.tx bitmap
    by false = refl
got_owed (got_as.Unreadable fault) cause e = refl

heard_owed : (pdu : List ℕ) (cause : Cause) (e : Ends) → (after_hearing pdu cause e).tx.owed ≡ e.tx.owed
unfolding after_hearing
heard_owed pdu cause e = got_owed (got e.rx pdu cause) cause (with_arrived pdu cause e)

late_owed : (ws : List Waits) (s : Sending) → (without_late ws s).owed ≡ s.owed
unfolding after_late
late_owed [] s = refl
late_owed (w ∷ ws) s = by (is_overdue s) (late_owed ws (after_late s))
  where
    by : (b : Bool) → (without_late ws (after_late s)).owed ≡ s.owed
        → (if b then without_late ws (after_late s) else s).owed ≡ s.owed
    by true q = q
    by false q = refl

tick_owed : (e : Ends) → (after_tick e).tx.owed ≡ e.tx.owed
unfolding after_tick
tick_owed e = late_owed e.tx.waiting (pdcp_ticked e.tx)

new_owed : (ws : List Waits) (s : Sending) → (took_new ws s).owed ≡ s.owed
new_owed [] s = refl
new_owed (w ∷ ws) s = refl

again_owed : (xs : List Sent) (s : Sending) → (took_again xs s).owed ≡ s.owed
again_owed [] s = new_owed (take (s.bound - s.next) s.waiting) s
again_owed (x ∷ xs) s = refl

none_owed : (o : Option (List ℕ)) (s : Sending) → s.owed ≡ o → (took_owed o s).owed ≡ None
none_owed None s q = again_owed s.again s ∙ q
none_owed (Some text) s q = refl

taken_owed : (e : Ends) → (after_taking e).tx.owed ≡ None
unfolding after_taking took
taken_owed e = none_owed e.tx.owed e.tx refl

owes_by : (kind : PdcpKind) (r : Receiving) (s : Sending) → IsAcknowledged kind → IsKind kind → r.kind ≡ kind
    → s.owed ≡ None → IsOwed kind (owing_report (report_of kind r) s).owed
owes_by pdcp.Srb r s a known same none = subst (IsOwed pdcp.Srb) (sym none) tt
owes_by (pdcp.Um bits) r s a known same none = absurd a
owes_by (pdcp.Am bits) r s a known same none =
    (refl, record { fms = _; bitmap = _; is = report_heard r bits same known })

restart_owed : (kind : PdcpKind) (e : Ends) (keys : Keys) → OwesReports kind e
    → IsOwed kind (restarted_pdcp e keys).tx.owed
unfolding restarted_pdcp restarted_sending
restart_owed kind e keys h =
    let s = restarted_sending e.tx keys in
    subst (λ (k : PdcpKind). IsOwed kind (owing_report (report_of k e.rx) s).owed) (sym h.offers.kind_is)
    (owes_by kind e.rx s h.acknowledged h.known h.offers.rx_kind refl)

pub owes_passes : (kind : PdcpKind) → IsKind kind → Passes (OwesReports kind)
unfolding confirmed pdcp_submitted
owes_passes kind known =
    let o = offers_pass kind known in
    record {
      heard = λ pdu cause e h.
          keeps kind e (after_hearing pdu cause e) h (o.heard pdu cause e h.offers) (heard_owed pdu cause e);
      ticked = λ e h. keeps kind e (after_tick e) h (o.ticked e h.offers) (tick_owed e);
      taken = λ e h. record {
        acknowledged = h.acknowledged;
        known = h.known;
        offers = o.taken e h.offers;
        owed = subst (IsOwed kind) (sym (taken_owed e)) tt;
      };
      confirms = λ e place h.
          keeps kind e (record e { tx = confirmed e.tx place }) h (o.confirms e place h.offers) refl;
      submits = λ e octets r h.
          keeps kind e (record e { tx = pdcp_submitted e.tx octets }) h (o.submits e octets r h.offers) refl;
      discards = λ e ttis h.
          keeps kind e (record e { tx = record e.tx { discard = Some ttis } }) h (o.discards e ttis h.offers) refl;
      restarts = λ e keys h. record {
        acknowledged = h.acknowledged;
        known = h.known;
        offers = o.restarts e keys h.offers;
        owed = restart_owed kind e keys h;
      };
    }

-- ---- nor any call of an acknowledged bearer

abbrev pub OwesSome : ℕ → Flow → Type 0
OwesSome lcid (Tm b) = Unit {0}
OwesSome lcid (Um b) = Unit {0}
OwesSome lcid (Am b) = (kind : PdcpKind) × OwesReports kind b.pdcp

begins_some : (kind : Kind) (c : BearerConfig) (keys : Keys) (side : Side) → c.kind ≡ kind → IsConfig c
    → OwesSome c.channel.lcid (flow_of kind c keys side)
unfolding fresh_am begun start
begins_some kinds.Tm c keys side e g = tt
begins_some kinds.Srb c keys side e g = (
  pdcp.Srb,
  record {
    acknowledged = tt;
    known = tt;
    offers = begun_offers c.channel.lcid pdcp.Srb c.first keys side;
    owed = tt;
  },
)
begins_some kinds.Um c keys side e g = tt
begins_some kinds.Am c keys side e g = (
  pdcp.Am c.pdcp_bits,
  record {
    acknowledged = tt;
    known = subst (λ (k : Kind). ArePdcpBits k c.pdcp_bits) e g.pdcp_bits;
    offers = begun_offers c.channel.lcid (pdcp.Am c.pdcp_bits) c.first keys side;
    owed = tt;
  },
)

by_submit : (lcid : ℕ) (f : Flow) (octets : List ℕ) → refusal f octets ≡ None → OwesSome lcid f
    → OwesSome lcid (submitted f octets)
unfolding refusal submitted
by_submit lcid (Tm b) octets r p = tt
by_submit lcid (Um b) octets r p = tt
by_submit lcid (Am b) octets r (k, p) = (k, submits_of (OwesReports k) (owes_passes k p.known) (Am b) octets r p)

by_discard : (lcid : ℕ) (f : Flow) (ttis : ℕ) → OwesSome lcid f → OwesSome lcid (with_discard f ttis)
unfolding with_discard
by_discard lcid (Tm b) ttis p = tt
by_discard lcid (Um b) ttis p = tt
by_discard lcid (Am b) ttis (k, p) = (k, discards_of (OwesReports k) (owes_passes k p.known) (Am b) ttis p)

by_take : (lcid : ℕ) (f : Flow) (share : ℕ) (held : Option ℕ) → OwesSome lcid f
    → OwesSome lcid (flow_after f share held)
unfolding flow_after
by_take lcid (Tm b) share held p = tt
by_take lcid (Um b) share held p = tt
by_take lcid (Am b) share held (k, p) = (k, takes_of (OwesReports k) (owes_passes k p.known) (Am b) share held p)

by_arrival : (lcid : ℕ) (f : Flow) (pdu : List ℕ) → OwesSome lcid f → OwesSome lcid (arrived f pdu)
unfolding arrived
by_arrival lcid (Tm b) pdu p = tt
by_arrival lcid (Um b) pdu p = tt
by_arrival lcid (Am b) pdu (k, p) = (k, arrives (OwesReports k) (owes_passes k p.known) (Am b) pdu p)

by_expiry : (lcid : ℕ) (f : Flow) (clock : Clock) → OwesSome lcid f → OwesSome lcid (expired f clock)
unfolding expired
by_expiry lcid (Tm b) clock p = tt
by_expiry lcid (Um b) clock p = tt
by_expiry lcid (Am b) clock (k, p) = (k, expires (OwesReports k) (owes_passes k p.known) (Am b) clock p)

by_tick : (lcid : ℕ) (f : Flow) → OwesSome lcid f → OwesSome lcid (ticked f)
unfolding ticked
by_tick lcid (Tm b) p = tt
by_tick lcid (Um b) p = tt
by_tick lcid (Am b) (k, p) = (k, ticks_of (OwesReports k) (owes_passes k p.known) (Am b) p)

by_move : (lcid : ℕ) (f : Flow) (keys : Keys) → OwesSome lcid f → OwesSome lcid (restarted (stopped f) keys)
unfolding restarted stopped
by_move lcid (Tm b) keys p = tt
by_move lcid (Um b) keys p = tt
by_move lcid (Am b) keys (k, p) = (k, moves_of (OwesReports k) (owes_passes k p.known) (Am b) keys p)

pub owes_kept : IsKept OwesSome
owes_kept = record {
  idle = tt;
  begins = λ c keys side g. begins_some c.kind c keys side refl g;
  submits = λ lcid f octets r p. by_submit lcid f octets r p;
  discards = λ lcid f ttis p. by_discard lcid f ttis p;
  takes = λ lcid f share held most p. by_take lcid f share held p;
  arrives = λ lcid f pdu p. by_arrival lcid f pdu p;
  expires = λ lcid f clock p. by_expiry lcid f clock p;
  ticks = λ lcid f p. by_tick lcid f p;
  moves = λ lcid f keys p. by_move lcid f keys p;
}

-- ---- one record tells what is taken

report_one : (lcid : ℕ) (r : Result UserPdu PdcpRefusal) (fms : ℕ) (bitmap : List ℕ)
    → heard_user r ≡ Told fms bitmap → (event : Event) × (report_told lcid r ≡ event ∷ [])
report_one lcid (Err refused) fms bitmap h = cc
report_one lcid (Ok (Sdu sn text)) fms bitmap h = cc
report_one lcid (Ok (Report f bs)) fms bitmap h = (events.Report lcid f bs, refl)

own_one : (lcid : ℕ) (kind own : PdcpKind) (p : Protection) (text : List ℕ) → is_am kind ≡ true → IsReport kind text
    → (event : Event) × (next_told lcid kind (Some (written own p None text)) ≡ event ∷ [])
unfolding heard
own_one lcid pdcp.Srb own p text am r = cc
own_one lcid (pdcp.Um bits) own p text am r = cc
own_one lcid (pdcp.Am bits) own p text am r = report_one lcid (user_at bits text) r.fms r.bitmap r.is

first_one : (lcid : ℕ) (kind own : PdcpKind) (p : Protection) (owed : Option (List ℕ)) (again : List Sent) (n : ℕ)
    (ws : List Waits) (sdu : List ℕ) → IsOwed kind owed
    → option_map (λ n. n.octets) (option_map (λ (o : Offer). written own p o.count o.text)
    (slice_get (owed_offers owed ++ map again_offer again ++ new_offers n ws) 0)) ≡ Some sdu
    → (event : Event) × (next_told lcid kind (option_map (λ (o : Offer). written own p o.count o.text)
    (slice_get (owed_offers owed ++ map again_offer again ++ new_offers n ws) 0)) ≡ event ∷ [])
first_one lcid kind own p None [] n [] sdu o t = cc
first_one lcid kind own p None [] n (w ∷ ws) sdu o t = (events.Take lcid (Some n) _, refl)
first_one lcid kind own p None (x ∷ again) n ws sdu o t = (events.Take lcid (Some x.count) _, refl)
first_one lcid kind own p (Some text) again n ws sdu o t = own_one lcid kind own p text o.0 o.1

-- an SDU of an acknowledged bearer, or a report, with the record that tells it
pub record IsTakenOf (kind : PdcpKind) (sdu : List ℕ) (es : List BearerEntry) : Type 0 where
  pub ends : Ends
  pub acknowledged : IsAcknowledged kind
  pub known : IsKind kind
  pub kind_is : ends.kind ≡ kind
  pub sending : ends.tx.kind ≡ kind
  pub is : taken ends ≡ Some sdu
  pub some : 0 < length sdu
  pub event : Event
  pub told : taking_told ends ≡ event ∷ []
  pub logged : es ≡ telling (event ∷ [])

pub taken_of : (kind : PdcpKind) (e : Ends) (sdu : List ℕ) → OwesReports kind e → taken e ≡ Some sdu
    → IsTakenOf kind sdu (telling (taking_told e))
unfolding taken taking_told taking offers
taken_of kind e sdu h t =
    let s = e.tx in
    let one = first_one e.lcid e.kind s.kind s.protection s.owed s.again s.next
    (take (s.bound - s.next) s.waiting) sdu (subst (λ (k : PdcpKind). IsOwed k s.owed) (sym h.offers.kind_is) h.owed) t
    in
    record {
      ends = e;
      acknowledged = h.acknowledged;
      known = h.known;
      kind_is = h.offers.kind_is;
      sending = h.offers.tx.kind_is;
      is = t;
      some = pdu_some kind sdu
          (subst (λ (o : Option (List ℕ)). IfSome o (λ x. IsPdcp kind x)) t (taken_is kind e h.known h.offers));
      event = one.0;
      told = one.1;
      logged = ap telling one.1;
    }
