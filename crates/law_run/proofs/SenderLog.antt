-- What RLC's sender keeps along its own calls, by what is logged of them, an acknowledged bearer keeps in any call.
use Rattle.std.proofs.Common.{◌≡◌, ℕ, zero, suc, Bool, true, false, if◌then◌else◌, nat_lt, length, unwrap_or}
use Rattle.std.proofs.Common.{option_map, Option, Some, None, drop, Result, Ok, Err, List, [], ◌∷◌, ◌++◌}
use Rattle.std.proofs.Common.{append-nil, append_assoc, refl, ap, sym, subst, ◌∙◌}
use Rattle.std.specs.List.{AllByRecursion}
use Rattle.std.specs.Prelude.{IfSome}
use Rattle.bearer.specs.declared.flow.Flow.{Flow}
use Rattle.bearer.specs.declared.flow.Flow.TheVariants.{Am}
use Rattle.bearer.specs.Hearing.{arriving, arrived, expiry as flow_expiry, expired as flow_expired, ticking}
use Rattle.bearer.specs.Hearing.{ticked as flow_ticked, with_discard}
use Rattle.bearer.specs.Submitting.{submitted}
use Rattle.bearer.specs.Taking.{told as flow_told, after as flow_taken, pdus as flow_pdus}
use Rattle.bearer.specs.Acknowledged.Hearing.{arriving as am_arriving, after_arrival, arrived_told, arrived_left}
use Rattle.bearer.specs.Acknowledged.Hearing.{settled_work, settled_if, heard_work, hears, hears_all, status_work}
use Rattle.bearer.specs.Acknowledged.Hearing.{confirms, all_confirmed, stopped_told, started_told}
use Rattle.bearer.specs.Acknowledged.State.{State, has_more, Work, work}
use Rattle.bearer.specs.Acknowledged.Taking.{given_to, fed, feeds, after_taking, feeding, data_size, data_told}
use Rattle.bearer.specs.Acknowledged.Taking.{status_told, has_prohibit, status_pdus, taking as am_taking}
use Rattle.bearer.specs.Acknowledged.Taking.{pdus as am_pdus, answer as am_answer}
use Rattle.bearer.specs.Acknowledged.Timing.{poll_told, expiry, after_expiry, Ticking, told_of, expires_if, counts}
use Rattle.bearer.specs.Acknowledged.Timing.{has_ended, ticks, discards, ticked}
use Rattle.bearer_pdcp.specs.Discarding.{after_tick as after_discards, tick_told}
use Rattle.bearer_pdcp.specs.Ends.{Ends}
use Rattle.bearer_pdcp.specs.Hearing.{applies, heard_told}
use Rattle.bearer_pdcp.specs.Taking.{taken, taking_told, next_told, after_taking as after_pdcp}
use Rattle.pdcp_pdu.specs.declared.PdcpKind.{PdcpKind}
use Rattle.pdcp_tx.specs.declared.Next.{Next}
use Rattle.pdcp_tx.specs.State.{taking as pdcp_taking}
use Rattle.bearer_pdcp.specs.Telling.{landed_told, pdus_of}
use Rattle.bearer_types.specs.declared.event.Event.{Event}
use Rattle.l2_types.specs.declared.event.Clock.{Clock}
use Rattle.l2_types.specs.declared.event.Clock.TheVariants.{Poll, Reorder, Prohibit}
use Rattle.law_bearer.specs.AnyBearer.Calls.{Call as BearerCall, Submit, Take, Arrive, Expire, Tick, SetDiscard}
use Rattle.law_bearer.specs.AnyBearer.Calls.{after as called}
use Rattle.pdcp_rx.specs.declared.got.Cause.TheVariants.{Arrived}
use Rattle.pdcp_tx.specs.State.{Offer, offers}
use Rattle.rlc_am_tx.specs.declared.answers.Heard.{Heard}
use Rattle.rlc_am_tx.specs.declared.answers.Heard.TheVariants as heard_as
use Rattle.rlc_am_tx.specs.Machine.{State as Sender, answer as rlc_answer, after_take, settled_by}
use Rattle.rlc_am_tx.specs.Machine.{settles as settles_so, after_tick as sender_ticked, confirmed, heard, after_status}
use Rattle.rlc_am_tx.specs.Machine.{expiry as poll_expiry, after_expiry as after_poll}
use Rattle.rlc_am_tx.specs.Need.{hungry}
use Rattle.rlc_am_rx.specs.Machine.{landed, turned, arrived as receives, reorder_answer, prohibit_answer}
use Rattle.rlc_pdu.specs.declared.fault.RlcRefusal.{RlcRefusal}
use Rattle.rlc_pdu.specs.Pdus.{AcknowledgedPdu, Payload, Status, StatusPdu}
use Rattle.rlc_pdu.specs.Reading.{am_at}
use Rattle.law_run.specs.TwoEnds.SenderLog.{BearerEntry, Tells, Comes, telling, writing, bearer_log, read_told}
use Rattle.law_run.specs.TwoEnds.SenderLog.{ReadsAsStatus, IsElse, is_of_flow, SenderDeed, Makes, Else, deed_log}
use Rattle.law_run.specs.TwoEnds.SenderLog.{behind_deed, IsDeed, deeds_log, behind_deeds, AreDeeds, GoesAlong}
use Rattle.law_run.specs.TwoEnds.SenderLog.{WritesStatuses, CallsGoAlong}
use Rattle.law_rlc.specs.AmSender.Run.{Call as SenderCall, Offer as Offers, Take as Takes, Status as Hears}
use Rattle.law_rlc.specs.AmSender.Run.{Tick as Ticks, Expire as Expires, Settle, Confirm}
use Rattle.prioritise.proofs.ChannelLemmas.{both_false}
use Rattle.law_run.proofs.Still.{tell_flow, heard_still, tick_still, landed_still, timer_still, status_still}

-- ---- the log

pub tells_more : (xs ys : List Event) → telling (xs ++ ys) ≡ telling xs ++ telling ys
tells_more [] ys = refl
tells_more (e ∷ xs) ys = ap (λ (es : List BearerEntry). Tells e ∷ es) (tells_more xs ys)

-- ---- from a sender to what it is then, by what is logged

-- what holds of a call of the sender, with what is logged of it
abbrev pub OfCalls : Type 1
OfCalls = Sender → SenderCall → List BearerEntry → Type 0

-- what PDCP gives, behind so many that it gave before
abbrev pub given_before : ℕ → Ends → Ends
given_before zero e = e
given_before (suc n) e = given_before n (after_pdcp e)

abbrev pub IsGivenBy : OfCalls → Ends → Sender → Type 0
IsGivenBy Q e s = IfSome (taken e) (λ sdu. Q s (Offers sdu) (telling (taking_told e)))

abbrev pub AreGivenBy : OfCalls → Ends → Type 0
AreGivenBy Q e = (n : ℕ) (s : Sender) → IsGivenBy Q (given_before n e) s

abbrev pub MayExpire : OfCalls → Ends → Type 0
MayExpire Q e = (s : Sender) (es : List BearerEntry) → Q s (Expires (has_more e)) es

-- of a STATUS that is written W holds, and of what is asked of the sender's calls Q
pub record IsKeptAlong (W : List ℕ → Type 0) (Q : OfCalls) (R : Sender → List BearerEntry → Sender → Type 0) :
    Type 0 where
  pub still : (s : Sender) (told : List Event) → tell_flow told ≡ false → R s (telling told) s
  pub both : (a b c : Sender) (xs ys : List BearerEntry) → R a xs b → R b ys c → R a (xs ++ ys) c
  pub offers : (e : Ends) (s : Sender) → IsGivenBy Q e s → R s (telling (taking_told e)) (given_to (taken e) s)
  pub sends : (lcid : ℕ) (s : Sender) (size : ℕ) (held : Option ℕ) (more : Bool) (reports : List (List ℕ))
      → AllByRecursion W reports → ((es : List BearerEntry) → Q s (Takes size held more) es)
      → R s (telling (data_told lcid (rlc_answer s size held more))
      ++ writing (reports ++ pdus_of (rlc_answer s size held more)))
      (after_take s size held more)
  pub passes : (s : Sender) (pdu : List ℕ) → (ReadsAsStatus pdu → ⊥) → R s (Comes pdu ∷ []) s
  pub reads : (lcid : ℕ) (s : Sender) (pdu : List ℕ) (p : StatusPdu) → am_at pdu ≡ Ok (Status p)
      → ((es : List BearerEntry) → Q s (Hears p) es)
      → R s (Comes pdu ∷ telling (read_told lcid (heard s p))) (after_status s p)
  pub confirms : (s : Sender) → R s [] (all_confirmed s)
  pub settles : (lcid : ℕ) (s : Sender) (more : Bool)
      → R s (telling (started_told lcid (settles_so s more))) (settled_by (settles_so s more) s)
  pub counts : (s : Sender) → R s [] (sender_ticked s)
  pub expires : (lcid : ℕ) (s : Sender) (more : Bool) → ((es : List BearerEntry) → Q s (Expires more) es)
      → R s (telling (told_of (poll_told lcid (poll_expiry s more)))) (after_poll s more)

-- of a bearer, and what it is then
pub record CarriesAlong (R : Sender → List BearerEntry → Sender → Type 0) (b : State) (es : List BearerEntry)
    (f : Flow) :
    Type 0 where
  pub bearer : State
  pub flow_is : f ≡ Am bearer
  pub kept : R b.tx es bearer.tx

-- what is asked of a call of the bearer
pub record IsTaking (W : List ℕ → Type 0) (Q : OfCalls) (b : State) (share : ℕ) (held : Option ℕ) : Type 0 where
  pub reports : AllByRecursion W (status_pdus b.rx share)
  pub given : AreGivenBy Q b.pdcp
  pub takes : (s : Sender) (more : Bool) (es : List BearerEntry) → Q s (Takes (data_size b share) held more) es

abbrev pub IsHearing : OfCalls → Sender → List ℕ → Type 0
IsHearing Q s pdu =
    (p : StatusPdu) → am_at pdu ≡ Ok (Status p) → (es : List BearerEntry) → Q s (Hears p) es

abbrev pub IsMet : (List ℕ → Type 0) → OfCalls → State → BearerCall → Type 0
IsMet W Q b (Submit sdu) = Unit {0}
IsMet W Q b (Take share held) = IsTaking W Q b share held
IsMet W Q b (Arrive pdu) = IsHearing Q b.tx pdu
IsMet W Q b (Expire clock) = MayExpire Q b.pdcp
IsMet W Q b Tick = MayExpire Q b.pdcp
IsMet W Q b (SetDiscard ttis) = Unit {0}

module _ (W : List ℕ → Type 0) (Q : OfCalls) (R : Sender → List BearerEntry → Sender → Type 0)
    (k : IsKeptAlong W Q R) where
  -- ---- from one stage of a call to another

  record Goes (v w : Work) : Type 0 where
    more : List Event
    events_are : w.events ≡ v.events ++ more
    kept : R v.tx (telling more) w.tx

  goes_then : (u v w : Work) → Goes u v → Goes v w → Goes u w
  goes_then u v w p q = record {
    more = p.more ++ q.more;
    events_are = q.events_are ∙ ap (λ (es : List Event). es ++ q.more) p.events_are
        ∙ append_assoc u.events p.more q.more;
    kept = subst (λ (es : List BearerEntry). R u.tx es w.tx) (sym (tells_more p.more q.more))
        (k.both u.tx v.tx w.tx (telling p.more) (telling q.more) p.kept q.kept);
  }

  -- nothing is told of the sender, and it stays
  goes_still : (v w : Work) (told : List Event) → w.events ≡ v.events ++ told → w.tx ≡ v.tx
      → tell_flow told ≡ false → Goes v w
  goes_still v w told are same quiet = record {
    more = told;
    events_are = are;
    kept = subst (λ (s : Sender). R v.tx (telling told) s) (sym same) (k.still v.tx told quiet);
  }

  goes_nowhere : (w : Work) → Goes w w
  goes_nowhere w = goes_still w w [] (sym (append-nil w.events)) refl refl

  from_nothing : (e : Ends) (s : Sender) (w : Work) → Goes (work e s []) w → R s (telling w.events) w.tx
  from_nothing e s w p =
      subst (λ (es : List Event). R s (telling es) w.tx) (sym p.events_are) p.kept

  -- ---- it takes

  fed_goes : (w : Work) → IsGivenBy Q w.pdcp w.tx → Goes w (fed w)
  fed_goes w g = record { more = taking_told w.pdcp; events_are = refl; kept = k.offers w.pdcp w.tx g }

  feed_by : (more : Bool) (os : List Offer) (size : ℕ) (held : Option ℕ) (w : Work) → AreGivenBy Q w.pdcp
      → ((v : Work) → AreGivenBy Q v.pdcp → Goes v (feeds os size held v))
      → Goes w (if more then feeds os size held (fed w) else w)
  feed_by true os size held w g rest =
      goes_then w (fed w) (feeds os size held (fed w)) (fed_goes w (g 0 w.tx)) (rest (fed w) (λ n s. g (suc n) s))
  feed_by false os size held w g rest = goes_nowhere w

  feeds_go : (os : List Offer) (size : ℕ) (held : Option ℕ) (w : Work) → AreGivenBy Q w.pdcp
      → Goes w (feeds os size held w)
  feeds_go [] size held w g = goes_nowhere w
  feeds_go (o ∷ os) size held w g = feed_by (hungry w.tx size held) os size held w g (feeds_go os size held)

  take_kept : (b : State) (share : ℕ) (held : Option ℕ) → IsTaking W Q b share held
      → R b.tx (telling (am_taking b share held) ++ writing (am_pdus b share held)) (after_taking b share held).tx
  unfolding am_taking after_taking am_pdus am_answer
  take_kept b share held h =
      let size = data_size b share in
      let first = status_told b.pdcp.lcid (has_prohibit b) b.rx share in
      let u : Work = work b.pdcp b.tx [] in
      let v : Work = work b.pdcp b.tx first in
      let w = feeding b share held in
      let told = data_told w.pdcp.lcid (rlc_answer w.tx size held (has_more w.pdcp)) in
      let written = writing (status_pdus b.rx share ++ pdus_of (rlc_answer w.tx size held (has_more w.pdcp))) in
      let begins = goes_still u v first refl refl (status_still b.pdcp.lcid (has_prohibit b) b.rx share) in
      let fed_up = from_nothing b.pdcp b.tx w
      (goes_then u v w begins (feeds_go (offers b.pdcp.tx) size held v h.given)) in
      subst (λ (es : List BearerEntry). R b.tx es (after_take w.tx size held (has_more w.pdcp)))
      (sym (append_assoc (telling w.events) (telling told) written)
      ∙ ap (λ (es : List BearerEntry). es ++ written) (sym (tells_more w.events told)))
      (k.both b.tx w.tx (after_take w.tx size held (has_more w.pdcp)) (telling w.events) (telling told ++ written)
      fed_up (k.sends w.pdcp.lcid w.tx size held (has_more w.pdcp) (status_pdus b.rx share) h.reports
      (h.takes w.tx (has_more w.pdcp))))

  -- ---- a PDU arrives

  work_settles : (w : Work) → Goes w (settled_work w)
  work_settles w = record {
    more = started_told w.pdcp.lcid (settles_so w.tx (has_more w.pdcp));
    events_are = refl;
    kept = k.settles w.pdcp.lcid w.tx (has_more w.pdcp);
  }

  settles_if : (b : Bool) (w : Work) → Goes w (settled_if b w)
  settles_if true w = work_settles w
  settles_if false w = goes_nowhere w

  hears_goes : (sdu : List ℕ) (w : Work) → Goes w (hears sdu w)
  hears_goes sdu w =
      goes_then w (heard_work sdu w) (hears sdu w)
      (goes_still w (heard_work sdu w) (heard_told sdu Arrived w.pdcp) refl refl (heard_still sdu Arrived w.pdcp))
      (settles_if (applies sdu Arrived w.pdcp) (heard_work sdu w))

  hears_go : (sdus : List (List ℕ)) (w : Work) → Goes w (hears_all sdus w)
  hears_go [] w = goes_nowhere w
  hears_go (sdu ∷ sdus) w =
      goes_then w (hears sdu w) (hears_all sdus (hears sdu w)) (hears_goes sdu w) (hears_go sdus (hears sdu w))

  status_goes : (pdu : List ℕ) (h : Heard) (e : Ends) (s t : Sender)
      → R s (Comes pdu ∷ telling (read_told e.lcid h)) t
      → R s (Comes pdu ∷ telling (status_work h (work e t [])).events) (status_work h (work e t [])).tx
  status_goes pdu heard_as.Ignored e s t r = r
  status_goes pdu (heard_as.Limit sn) e s t r = r
  status_goes pdu (heard_as.Applied stopped) e s t r =
      let told = stopped_told e.lcid stopped in
      let w : Work = work e t told in
      let more = started_told e.lcid (settles_so t (has_more e)) in
      subst (λ (es : List BearerEntry). R s (Comes pdu ∷ es) (settled_work w).tx) (sym (tells_more told more))
      (k.both s t (settled_work w).tx (Comes pdu ∷ telling told) (telling more) r (k.settles e.lcid t (has_more e)))

  arrives_by : (r : Result AcknowledgedPdu RlcRefusal) (b : State) (pdu : List ℕ) → am_at pdu ≡ r
      → IsHearing Q b.tx pdu
      → R b.tx (Comes pdu ∷ telling (arrived_told r b)) (arrived_left r b).tx
  arrives_by (Err fault) b pdu e near =
      k.both b.tx b.tx b.tx (Comes pdu ∷ []) (telling (arrived_told (Err fault) b))
      (k.passes b.tx pdu (λ x. let no : Ok (Status x.0) ≡ Err fault = sym x.1 ∙ e in absurd cc))
      (k.still b.tx (arrived_told (Err fault) b) refl)
  arrives_by (Ok (Payload p)) b pdu e near =
      let first = landed_told b.pdcp.lcid (landed b.rx p) (turned b.rx p) in
      let u : Work = work b.pdcp b.tx [] in
      let v : Work = work b.pdcp b.tx first in
      let w = hears_all (receives b.rx p).out.ready v in
      k.both b.tx b.tx w.tx (Comes pdu ∷ []) (telling w.events)
      (k.passes b.tx pdu (λ x. let no : Ok (Status x.0) ≡ Ok (Payload p) = sym x.1 ∙ e in absurd cc))
      (from_nothing b.pdcp b.tx w
      (goes_then u v w (goes_still u v first refl refl (landed_still b.pdcp.lcid (landed b.rx p) (turned b.rx p)))
      (hears_go (receives b.rx p).out.ready v)))
  arrives_by (Ok (Status p)) b pdu e near =
      let f = confirms (after_status b.tx p).accounts.news b.pdcp in
      let s = after_status b.tx p in
      let read : List BearerEntry = Comes pdu ∷ telling (read_told f.lcid (heard b.tx p)) in
      status_goes pdu (heard b.tx p) f b.tx (all_confirmed s)
      (subst (λ (es : List BearerEntry). R b.tx es (all_confirmed s)) (append-nil read)
      (k.both b.tx s (all_confirmed s) read [] (k.reads f.lcid b.tx pdu p e (near p e)) (k.confirms s)))

  arrival_kept : (b : State) (pdu : List ℕ) → IsHearing Q b.tx pdu
      → R b.tx (Comes pdu ∷ telling (am_arriving b pdu)) (after_arrival b pdu).tx
  unfolding am_arriving after_arrival
  arrival_kept b pdu near = arrives_by (am_at pdu) b pdu refl near

  -- ---- a timer expires, a TTI begins

  expiry_kept : (clock : Clock) (b : State) → (clock ≡ Poll → MayExpire Q b.pdcp)
      → R b.tx (telling (told_of (expiry b clock))) (after_expiry b clock).tx
  unfolding expiry after_expiry
  expiry_kept Poll b may = k.expires b.pdcp.lcid b.tx (has_more b.pdcp) (may refl b.tx)
  expiry_kept Reorder b may = k.still b.tx _ (timer_still b.pdcp.lcid Reorder (reorder_answer b.rx.mark b.rx)
      (λ e. let no : Reorder ≡ Poll = e in absurd cc))
  expiry_kept Prohibit b may = k.still b.tx _ (timer_still b.pdcp.lcid Prohibit (prohibit_answer b.rx)
      (λ e. let no : Prohibit ≡ Poll = e in absurd cc))

  count_kept : (clock : Clock) (b : State) → R b.tx [] (counts clock b).tx
  count_kept Poll b = k.counts b.tx
  count_kept Reorder b = k.still b.tx [] refl
  count_kept Prohibit b = k.still b.tx [] refl

  abbrev as_work : Ticking → Work
  as_work t = work t.bearer.pdcp t.bearer.tx t.events

  expires_by : (b : Bool) (clock : Clock) (t : Ticking) → (clock ≡ Poll → MayExpire Q t.bearer.pdcp)
      → Goes (as_work t) (as_work (expires_if b clock t))
  expires_by true clock t may =
      record { more = told_of (expiry t.bearer clock); events_are = refl; kept = expiry_kept clock t.bearer may }
  expires_by false clock t may = goes_nowhere (as_work t)

  clock_goes : (clock : Clock) (t : Ticking) → (clock ≡ Poll → MayExpire Q (counts clock t.bearer).pdcp)
      → Goes (as_work t) (as_work (ticks clock t))
  clock_goes clock t may =
      let counted : Ticking = record t { bearer = counts clock t.bearer } in
      goes_then (as_work t) (as_work counted) (as_work (ticks clock t))
      (record { more = []; events_are = sym (append-nil t.events); kept = count_kept clock t.bearer })
      (expires_by (has_ended clock t.bearer) clock counted may)

  discards_go : (t : Ticking) → Goes (as_work t) (as_work (discards t))
  discards_go t =
      let told = tick_told t.bearer.pdcp in
      let w : Work = work (after_discards t.bearer.pdcp) t.bearer.tx (t.events ++ told) in
      goes_then (as_work t) w (as_work (discards t))
      (goes_still (as_work t) w told refl refl (tick_still t.bearer.pdcp)) (settles_if (nat_lt 0 (length told)) w)

  tick_kept : (b : State) → MayExpire Q b.pdcp → R b.tx (telling (ticked b).events) (ticked b).bearer.tx
  unfolding ticked
  tick_kept b may =
      let t : Ticking = record { bearer = b; events = [] } in
      let p = ticks Poll t in
      let r = ticks Reorder p in
      let q = ticks Prohibit r in
      let u = discards q in
      let to_r = goes_then (as_work t) (as_work p) (as_work r) (clock_goes Poll t (λ e. may))
      (clock_goes Reorder p (λ e. let no : Reorder ≡ Poll = e in absurd cc)) in
      let to_q = goes_then (as_work t) (as_work r) (as_work q) to_r
      (clock_goes Prohibit r (λ e. let no : Prohibit ≡ Poll = e in absurd cc)) in
      from_nothing b.pdcp b.tx (as_work u) (goes_then (as_work t) (as_work q) (as_work u) to_q (discards_go q))

  -- ---- any call

  none_told : (o : Option (List Event)) → unwrap_or o [] ≡ told_of o
  none_told None = refl
  none_told (Some told) = refl

  as_am : (b d : State) (es : List BearerEntry) → R b.tx es d.tx → CarriesAlong R b es (Am d)
  as_am b d es p = record { bearer = d; flow_is = refl; kept = p }

  pub call_along : (l : ℕ) (b : State) (c : BearerCall) → IsMet W Q b c
      → CarriesAlong R b (bearer_log l (Am b) c) (called (Am b) c)
  unfolding submitted flow_told flow_taken flow_pdus arriving arrived flow_expiry flow_expired ticking flow_ticked
      with_discard
  call_along l b (Submit sdu) m = as_am b _ [] (k.still b.tx [] refl)
  call_along l b (Take share held) m =
      as_am b (after_taking b share held) (telling (am_taking b share held) ++ writing (am_pdus b share held))
      (take_kept b share held m)
  call_along l b (Arrive pdu) m =
      as_am b (after_arrival b pdu) (Comes pdu ∷ telling (am_arriving b pdu)) (arrival_kept b pdu m)
  call_along l b (Expire clock) m =
      as_am b (after_expiry b clock) (telling (unwrap_or (expiry b clock) []))
      (subst (λ (es : List Event). R b.tx (telling es) (after_expiry b clock).tx) (sym (none_told (expiry b clock)))
      (expiry_kept clock b (λ e. m)))
  call_along l b Tick m = as_am b (ticked b).bearer (telling (ticked b).events) (tick_kept b m)
  call_along l b (SetDiscard ttis) m = as_am b _ [] (k.still b.tx [] refl)

-- ---- so they go along calls of the sender

-- of each of which it holds
abbrev pub IsOf : OfCalls → Sender → SenderDeed → Type 0
IsOf Q s (Makes c es) = Q s c es
IsOf Q s (Else es) = Unit {0}

abbrev pub AreOf : OfCalls → Sender → List SenderDeed → Type 0
AreOf Q s [] = Unit {0}
AreOf Q s (d ∷ ds) = IsOf Q s d × AreOf Q (behind_deed s d) ds

pub record GoesBy (Q : OfCalls) (s t : Sender) (es : List BearerEntry) : Type 0 where
  pub deeds : List SenderDeed
  pub are : AreDeeds s deeds
  pub of : AreOf Q s deeds
  pub logged : es ≡ deeds_log deeds
  pub left : t ≡ behind_deeds deeds s

-- nothing is asked of other calls
pub record AsksNoMore (Q : OfCalls) : Type 0 where
  pub ticks : (s : Sender) → Q s Ticks []
  pub settles : (s : Sender) (more : Bool) (es : List BearerEntry) → Q s (Settle more) es
  pub confirms : (s : Sender) → Q s Confirm []

then_behind : (s : Sender) (xs ys : List SenderDeed) → behind_deeds (xs ++ ys) s ≡ behind_deeds ys (behind_deeds xs s)
then_behind s [] ys = refl
then_behind s (x ∷ xs) ys = then_behind (behind_deed s x) xs ys

then_logged : (xs ys : List SenderDeed) → deeds_log (xs ++ ys) ≡ deeds_log xs ++ deeds_log ys
then_logged [] ys = refl
then_logged (x ∷ xs) ys =
    ap (λ (es : List BearerEntry). deed_log x ++ es) (then_logged xs ys)
    ∙ sym (append_assoc (deed_log x) (deeds_log xs) (deeds_log ys))

else_told : (told : List Event) → tell_flow told ≡ false → AllByRecursion IsElse (telling told)
else_told [] h = tt
else_told (e ∷ told) h =
    let parts = both_false (is_of_flow e) (tell_flow told) h in
    (parts.0, else_told told parts.1)

-- PDCP may have nothing
nothing_by : (lcid : ℕ) (kind : PdcpKind) (n : Option Next) → option_map (λ (x : Next). x.octets) n ≡ None
    → AllByRecursion IsElse (telling (next_told lcid kind n))
nothing_by lcid kind None q = tt
nothing_by lcid kind (Some n) q = let other : Some n.octets ≡ None = q in absurd cc

nothing_told : (e : Ends) → taken e ≡ None → AllByRecursion IsElse (telling (taking_told e))
unfolding taken taking_told
nothing_told e q = nothing_by e.lcid e.kind (pdcp_taking e.tx) q

module _ (Q : OfCalls) where
  then_deeds : (s : Sender) (xs ys : List SenderDeed) → AreDeeds s xs → AreDeeds (behind_deeds xs s) ys
      → AreDeeds s (xs ++ ys)
  then_deeds s [] ys h k = k
  then_deeds s (x ∷ xs) ys h k = (h.0, then_deeds (behind_deed s x) xs ys h.1 k)

  then_of : (s : Sender) (xs ys : List SenderDeed) → AreOf Q s xs → AreOf Q (behind_deeds xs s) ys
      → AreOf Q s (xs ++ ys)
  then_of s [] ys h k = k
  then_of s (x ∷ xs) ys h k = (h.0, then_of (behind_deed s x) xs ys h.1 k)

  pub goes_both : (a b c : Sender) (xs ys : List BearerEntry) → GoesBy Q a b xs → GoesBy Q b c ys
      → GoesBy Q a c (xs ++ ys)
  goes_both a b c xs ys p q = record {
    deeds = p.deeds ++ q.deeds;
    are = then_deeds a p.deeds q.deeds p.are (subst (λ (s : Sender). AreDeeds s q.deeds) p.left q.are);
    of = then_of a p.deeds q.deeds p.of (subst (λ (s : Sender). AreOf Q s q.deeds) p.left q.of);
    logged = ap (λ (es : List BearerEntry). es ++ ys) p.logged
        ∙ (ap (λ (es : List BearerEntry). deeds_log p.deeds ++ es) q.logged ∙ sym (then_logged p.deeds q.deeds));
    left = q.left ∙ (ap (behind_deeds q.deeds) p.left ∙ sym (then_behind a p.deeds q.deeds));
  }

  pub goes_not : (s : Sender) → GoesBy Q s s []
  goes_not s = record { deeds = []; are = tt; of = tt; logged = refl; left = refl }

  goes_one : (s : Sender) (d : SenderDeed) → IsDeed s d → IsOf Q s d → GoesBy Q s (behind_deed s d) (deed_log d)
  goes_one s d h q =
      record { deeds = d ∷ []; are = (h, tt); of = (q, tt); logged = sym (append-nil (deed_log d)); left = refl }

  goes_taking : (s : Sender) (e : Ends) (t : Option (List ℕ)) → taken e ≡ t
      → IfSome t (λ sdu. Q s (Offers sdu) (telling (taking_told e)))
      → GoesBy Q s (given_to t s) (telling (taking_told e))
  goes_taking s e None q h = goes_one s (Else (telling (taking_told e))) (nothing_told e q) tt
  goes_taking s e (Some sdu) q h = goes_one s (Makes (Offers sdu) (telling (taking_told e))) (e, q, refl) h

  module _ (few : AsksNoMore Q) where
    -- what is confirmed is handed over one by one
    confirms_by : (ns : List ℕ) (s : Sender) → s.accounts.news ≡ ns → GoesBy Q s (all_confirmed s) []
    confirms_by [] s q = record {
      deeds = [];
      are = tt;
      of = tt;
      logged = refl;
      left = ap (λ (ns : List ℕ). record s { accounts = record s.accounts { news = ns } }) (sym q);
    }
    confirms_by (n ∷ ns) s q =
        goes_both s (confirmed s) (all_confirmed s) [] [] (goes_one s (Makes Confirm []) refl (few.confirms s))
        (confirms_by ns (confirmed s) (ap (drop 1) q))

    pub goes_along : IsKeptAlong ReadsAsStatus Q (λ s es t. GoesBy Q s t es)
    goes_along = record {
      still = λ s told quiet. goes_one s (Else (telling told)) (else_told told quiet) tt;
      both = λ a b c xs ys p q. goes_both a b c xs ys p q;
      offers = λ e s g. goes_taking s e (taken e) refl g;
      sends = λ lcid s size held more reports well g.
          goes_one s (Makes (Takes size held more) _) (lcid, reports, well, refl) (g _);
      passes = λ s pdu other. goes_one s (Else (Comes pdu ∷ [])) (other, tt) tt;
      reads = λ lcid s pdu p e g. goes_one s (Makes (Hears p) _) (lcid, pdu, e, refl) (g _);
      confirms = λ s. confirms_by s.accounts.news s refl;
      settles = λ lcid s more. goes_one s (Makes (Settle more) _) (lcid, refl) (few.settles s more _);
      counts = λ s. goes_one s (Makes Ticks []) refl (few.ticks s);
      expires = λ lcid s more g. goes_one s (Makes (Expires more) _) (lcid, refl) (g _);
    }

-- ---- where nothing is asked of them

abbrev pub AnyCall : OfCalls
AnyCall s c es = Unit {0}

pub asks_none : AsksNoMore AnyCall
asks_none = record { ticks = λ s. tt; settles = λ s more es. tt; confirms = λ s. tt }

any_given : (o : Option (List ℕ)) → IfSome o (λ sdu. Unit {0})
any_given None = tt
any_given (Some sdu) = tt

pub any_met : (W : List ℕ → Type 0) (b : State) (c : BearerCall)
    → ((share : ℕ) (held : Option ℕ) → c ≡ Take share held → AllByRecursion W (status_pdus b.rx share))
    → IsMet W AnyCall b c
any_met W b (Submit sdu) w = tt
any_met W b (Take share held) w = record {
  reports = w share held refl;
  given = λ n s. any_given (taken (given_before n b.pdcp));
  takes = λ s more es. tt;
}
any_met W b (Arrive pdu) w = λ p e es. tt
any_met W b (Expire clock) w = λ s es. tt
any_met W b Tick w = λ s es. tt
any_met W b (SetDiscard ttis) w = tt

pub written_met : (b : State) (c : BearerCall) → WritesStatuses b c → IsMet ReadsAsStatus AnyCall b c
written_met b c w = any_met ReadsAsStatus b c (λ share held e. subst (WritesStatuses b) e w)

pub along_deeds : (Q : OfCalls) (s t : Sender) (es : List BearerEntry) → GoesBy Q s t es → GoesAlong s t es
along_deeds Q s t es x = record { deeds = x.deeds; are = x.are; logged = x.logged; left = x.left }

pub calls_go_along : CallsGoAlong
calls_go_along l b d c is w =
    let x = call_along ReadsAsStatus AnyCall (λ s es t. GoesBy AnyCall s t es) (goes_along AnyCall asks_none) l b c
    (written_met b c w) in
    let same : Am x.bearer ≡ Am d = sym x.flow_is ∙ is in
    let bearer : x.bearer ≡ d = cc in
    subst (λ (y : State). GoesAlong b.tx y.tx (bearer_log l (Am b) c)) bearer
    (along_deeds AnyCall b.tx x.bearer.tx (bearer_log l (Am b) c) x.kept)
