-- What each call of a bearer tells is gathered beside what it makes of PDCP's sender.
use Rattle.std.proofs.Common.{◌≡◌, ◌≤◌, ℕ, zero, suc, ◌-◌, ◌%◌, Bool, true, false, if◌then◌else◌, nat_lt, List, [], ◌∷◌}
use Rattle.std.proofs.Common.{◌++◌, length, map, take, drop, Option, Some, option_map, slice_get, refl, ap, sym, ◌∙◌}
use Rattle.std.proofs.Common.{subst, arith, append_assoc, append-nil}
use Rattle.std.specs.Prelude.{option_to_list}
use Rattle.std.specs.List.{AllByRecursion}
use Rattle.bearer_types.specs.declared.Event.{Event}
use Rattle.bearer_types.specs.declared.Event.TheVariants as events
use Rattle.l2_types.specs.declared.Clock.{Clock}
use Rattle.l2_types.specs.declared.Clock.TheVariants.{Poll, Reorder, Prohibit}
use Rattle.l2_types.specs.declared.How.TheVariants as how
use Rattle.rlc_pdu.specs.declared.Expired.{Expired}
use Rattle.rlc_pdu.specs.declared.Expired.TheVariants.{Done, NotRunning}
use Rattle.rlc_pdu.specs.declared.Taken.{Taken}
use Rattle.rlc_pdu.specs.declared.Taken.TheVariants.{Piece, Idle, Small, Shut, Held, Stopped}
use Rattle.rlc_am_tx.specs.declared.answers.PollExpired.{PollExpired}
use Rattle.rlc_am_tx.specs.declared.answers.PollExpired.TheVariants as polls
use Rattle.rlc_am_tx.specs.Machine.{expiry as poll_expiry, settles as starts}
use Rattle.rlc_am_tx.specs.Need.{hungry}
use Rattle.rlc_am_rx.specs.Machine.{reorder_answer, prohibit_answer}
use Rattle.rlc_am_rx.specs.Status.{ack}
use Rattle.pdcp_pdu.specs.declared.PdcpKind.{PdcpKind}
use Rattle.pdcp_pdu.specs.declared.PdcpKind.TheVariants.{Am as AmKind}
use Rattle.pdcp_pdu.specs.Kinds.{IsKind}
use Rattle.pdcp_sec.specs.Protection.{Protection}
use Rattle.pdcp_tx_store.specs.Waiting.{Waits}
use Rattle.pdcp_tx.specs.State.{State as Sending, Offer, offers, taking, took, is_overdue, after_late}
use Rattle.pdcp_tx.specs.State.{submitted as pdcp_submitted, ticked as pdcp_ticked, written}
use Rattle.bearer_pdcp.specs.Discarding.{without_late, late_told, after_tick, tick_told}
use Rattle.bearer_pdcp.specs.Ends.{Ends}
use Rattle.bearer_pdcp.specs.Taking.{next_told, taking_told, after_taking as after_pdcp}
use Rattle.bearer_pdcp.specs.Telling.{expired_told}
use Rattle.bearer.specs.Acknowledged.State.{State, has_more, Work, work}
use Rattle.bearer.specs.Acknowledged.Hearing.{settled_if, started_told}
use Rattle.bearer.specs.Acknowledged.Taking.{fed, feeds, feeding, data_size, status_told, writes_status, has_prohibit}
use Rattle.bearer.specs.Acknowledged.Taking.{prohibit_told, data_told, poll_told as polled_told, answer_of}
use Rattle.bearer.specs.Acknowledged.Taking.{after_taking, taking as am_taking}
use Rattle.bearer.specs.Acknowledged.Timing.{poll_told, timer_told, clock_told, clock_left, expiry as am_expiry}
use Rattle.bearer.specs.Acknowledged.Timing.{after_expiry, Ticking, told_of, expires_if, counts, has_ended}
use Rattle.bearer.specs.Acknowledged.Timing.{ticks as ticked_by, discards as discarded, ticked as am_ticked}
use Rattle.bearer.specs.declared.flow.Flow.TheVariants.{Am}
use Rattle.bearer.specs.Submitting.{submitted}
use Rattle.bearer.specs.Taking.{after as taken_from, told as flow_told}
use Rattle.bearer.specs.Hearing.{expired, expiry, ticked, ticking, with_discard}
use Rattle.journal_given.specs.Supplies.{Supply, History}
use Rattle.law_bearer.specs.AnyBearer.Calls.{Call, Submit, Take, Arrive, Expire, Tick, SetDiscard, after}
use Rattle.law_bearer.specs.AmBearer.Calls.{tells, IsOfData}
use Rattle.law_bearer.specs.AnyBearer.Stream.{pdu_of}
use Rattle.law_bearer.specs.AnyBearer.Acknowledged.{offers_in}
use Rattle.law_bearer.proofs.AnyBearer.Sender.{left_of, took_same}
use Rattle.law_bearer.proofs.AnyBearer.Flows.{taken_off}
use Rattle.law_bearer.proofs.AmBearer.Taking.{behind_as}
use Rattle.law_given.specs.Supplied.{Progress, IsSupplied}
use Rattle.law_given.specs.SupplyLaws.{supplied_by, supplied_all, IsRight, submitted_by, gathered, offered_in}
use Rattle.law_given.specs.SupplyLaws.{with_offered, IsGathered, CallsAreGathered}
use Rattle.law_given.proofs.Supplied.{Went, went-then, submits, ticks, sets-discard, discards, takes-next, next-offered}
use Rattle.law_given.proofs.Supplied.{nothing-more}

-- ---- events that tell nothing of what is given

abbrev pub IsQuiet : Event → Type 0
IsQuiet (events.Take lcid count len) = ⊥
IsQuiet (events.Report lcid fms bitmap) = ⊥
IsQuiet (events.Discard lcid len) = ⊥
IsQuiet event = Unit {0}

abbrev pub AreQuiet : List Event → Type 0
AreQuiet told = AllByRecursion IsQuiet told

pub quiet-same : (event : Event) (s : Supply History) → IsQuiet event → supplied_by event s ≡ s
quiet-same (events.Take lcid count len) s q = absurd q
quiet-same (events.Report lcid fms bitmap) s q = absurd q
quiet-same (events.Discard lcid len) s q = absurd q
quiet-same event s q = refl

pub quiet-right : (event : Event) (s : Supply History) → IsQuiet event → IsRight event s
quiet-right (events.Take lcid count len) s q = absurd q
quiet-right (events.Report lcid fms bitmap) s q = absurd q
quiet-right (events.Discard lcid len) s q = absurd q
quiet-right event s q = tt

quiet-then : (xs ys : List Event) → AreQuiet xs → AreQuiet ys → AreQuiet (xs ++ ys)
quiet-then [] ys h k = k
quiet-then (x ∷ xs) ys h k = (h.0, quiet-then xs ys h.1 k)

pub quiet-went : (p : Progress) (x : Sending) (told : List Event) (s : Supply History) → AreQuiet told
    → IsSupplied p x s → Went p x told s
quiet-went p x [] s q h = record { supplied = h; right = tt; bits = refl }
quiet-went p x (event ∷ told) s q h =
    let same : supplied_by event s ≡ s = quiet-same event s q.0 in
    let rest = quiet-went p x told (supplied_by event s) q.1
    (subst (λ (u : Supply History). IsSupplied p x u) (sym same) h) in
    record {
      supplied = rest.supplied;
      right = (quiet-right event s q.0, rest.right);
      bits = rest.bits ∙ ap (λ (u : Supply History). u.bits) same;
    }

more-quiet : (p : Progress) (x : Sending) (xs ys : List Event) (s : Supply History) → AreQuiet ys → Went p x xs s
    → Went p x (xs ++ ys) s
more-quiet p x xs ys s q h = went-then p p x x xs ys s h (quiet-went p x ys (supplied_all xs s) q h.supplied)

more-nothing : (p : Progress) (x : Sending) (told : List Event) (s : Supply History) → Went p x told s
    → Went (with_offered [] p) x told s
more-nothing p x told s h = record {
  supplied = nothing-more p x (supplied_all told s) h.supplied;
  right = h.right;
  bits = h.bits;
}

-- ---- RLC takes what PDCP has

fed-went : (p : Progress) (w : Work) (s : Supply History) → IsKind (AmKind s.bits) → w.pdcp.kind ≡ AmKind s.bits
    → w.pdcp.tx.kind ≡ AmKind s.bits → Went p w.pdcp.tx w.events s
    → Went (with_offered (next-offered w.pdcp.tx) p) (fed w).pdcp.tx (fed w).events s
unfolding after_pdcp taking_told
fed-went p w s bits kind k h =
    let now : Supply History = supplied_all w.events s in
    let same : AmKind s.bits ≡ AmKind now.bits = ap AmKind (sym h.bits) in
    went-then p (with_offered (next-offered w.pdcp.tx) p) w.pdcp.tx (took w.pdcp.tx) w.events
    (next_told w.pdcp.lcid w.pdcp.kind (taking w.pdcp.tx)) s h
    (subst (λ (own : PdcpKind). Went (with_offered (next-offered w.pdcp.tx) p) (took w.pdcp.tx)
    (next_told w.pdcp.lcid own (taking w.pdcp.tx)) now) (sym (kind ∙ same))
    (takes-next p w.pdcp.tx now w.pdcp.lcid (subst IsKind same bits) (k ∙ same) h.supplied))

fed-kind : (w : Work) → (fed w).pdcp.kind ≡ w.pdcp.kind
unfolding after_pdcp
fed-kind w = refl

pub fed-sender : (w : Work) → (fed w).pdcp.tx ≡ took w.pdcp.tx
unfolding after_pdcp
fed-sender w = refl

-- a sender that spells PDUs as another
pub record SpellsAs (x y : Sending) : Type 0 where
  pub kind : x.kind ≡ y.kind
  pub protection : x.protection ≡ y.protection

spells-on : (w : Work) (x : Sending) → SpellsAs w.pdcp.tx x → SpellsAs (fed w).pdcp.tx x
spells-on w x h =
    let same = took_same w.pdcp.tx in
    record {
      kind = ap (λ (y : Sending). y.kind) (fed-sender w) ∙ same.kind ∙ h.kind;
      protection = ap (λ (y : Sending). y.protection) (fed-sender w) ∙ same.protection ∙ h.protection;
    }

spelled-alike : (x y : Sending) (o : Offer) → SpellsAs x y → pdu_of x o ≡ pdu_of y o
spelled-alike x y o h =
    ap (λ (kind : PdcpKind). (written kind x.protection o.count o.text).octets) h.kind
    ∙ ap (λ (own : Protection). (written y.kind own o.count o.text).octets) h.protection

next-is : (x y : Sending) (o : Offer) (os : List Offer) → offers x ≡ o ∷ os → SpellsAs x y
    → next-offered x ≡ pdu_of y o ∷ []
next-is x y o os q h =
    ap (λ (l : List Offer). option_to_list (option_map (pdu_of x) (slice_get l 0))) q
    ∙ ap (λ (pdu : List ℕ). pdu ∷ []) (spelled-alike x y o h)

-- what holds of the work and of the PDUs that RLC was given so far, where it goes on as RLC takes one more
module _ (Holds : Work → List (List ℕ) → Type 0) (x : Sending)
    (goes-on : (w : Work) (l : List (List ℕ)) → SpellsAs w.pdcp.tx x → Holds w l
    → Holds (fed w) (l ++ next-offered w.pdcp.tx)) where
  -- so many of what may be taken
  record Fed (os : List Offer) (before : List (List ℕ)) (v : Work) : Type 0 where
    n : ℕ
    few : n ≤ length os
    left : offers v.pdcp.tx ≡ drop n os
    holds : Holds v (before ++ map (pdu_of x) (take n os))

  none-fed : (os : List Offer) (before : List (List ℕ)) (w : Work) → offers w.pdcp.tx ≡ os → Holds w before
      → Fed os before w
  none-fed os before w q h =
      record { n = zero; few = omega arith; left = q; holds = subst (Holds w) (sym (append-nil before)) h }

  one-fed : (o : Offer) (os : List Offer) (before : List (List ℕ)) (v : Work)
      → Fed os (before ++ pdu_of x o ∷ []) v → Fed (o ∷ os) before v
  one-fed o os before v h = record {
    n = suc h.n;
    few = omega (arith, h.few);
    left = h.left;
    holds = subst (Holds v) (append_assoc before (pdu_of x o ∷ []) (map (pdu_of x) (take h.n os))) h.holds;
  }

  feeds-fed : (os : List Offer) (size : ℕ) (held : Option ℕ) (before : List (List ℕ)) (w : Work)
      → SpellsAs w.pdcp.tx x → offers w.pdcp.tx ≡ os → Holds w before → Fed os before (feeds os size held w)
  feeds-fed [] size held before w same q h = none-fed [] before w q h
  feeds-fed (o ∷ os) size held before w same q h =
      by (hungry w.tx size held)
      (feeds-fed os size held (before ++ pdu_of x o ∷ []) (fed w) (spells-on w x same)
      (ap offers (fed-sender w) ∙ left_of 1 w.pdcp.tx ∙ ap (drop 1) q)
      (subst (λ (l : List (List ℕ)). Holds (fed w) (before ++ l)) (next-is w.pdcp.tx x o os q same)
      (goes-on w before same h)))
    where
      by : (b : Bool) → Fed os (before ++ pdu_of x o ∷ []) (feeds os size held (fed w))
          → Fed (o ∷ os) before (if b then feeds os size held (fed w) else w)
      by true g = one-fed o os before (feeds os size held (fed w)) g
      by false g = none-fed (o ∷ os) before w q h

status-quiet : (lcid sn : ℕ) (has due : Bool)
    → AreQuiet (if due then events.Send lcid how.Status sn ∷ prohibit_told lcid has else [])
status-quiet lcid sn true true = (tt, (tt, tt))
status-quiet lcid sn false true = (tt, tt)
status-quiet lcid sn has false = tt

pub data-quiet : (lcid : ℕ) (t : Taken) → AreQuiet (data_told lcid t)
data-quiet lcid (Piece number first polled octets) = (tt, by polled)
  where
    by : (polled : Bool) → AreQuiet (polled_told lcid polled)
    by true = (tt, tt)
    by false = tt
data-quiet lcid Idle = tt
data-quiet lcid Small = (tt, tt)
data-quiet lcid Shut = (tt, tt)
data-quiet lcid Held = (tt, tt)
data-quiet lcid Stopped = (tt, tt)

offered-are : (b : State) (share : ℕ) (held : Option ℕ) (n : ℕ) → n ≤ length (offers b.pdcp.tx)
    → offers (feeding b share held).pdcp.tx ≡ drop n (offers b.pdcp.tx)
    → map (pdu_of b.pdcp.tx) (take n (offers b.pdcp.tx)) ≡ offers_in b share held
unfolding taken_from
offered-are b share held n few q =
    ap (map (pdu_of b.pdcp.tx))
    (sym (taken_off n (offers b.pdcp.tx) (offers (after_taking b share held).pdcp.tx) few
    (ap (λ (e : Ends). offers e.tx) (behind_as b share held) ∙ q)))

-- a STATUS PDU that is due is written before any data
abbrev pub begun : State → ℕ → Work
begun b share = work b.pdcp b.tx (status_told b.pdcp.lcid (has_prohibit b) b.rx share)

pub begun-quiet : (b : State) (share : ℕ) → AreQuiet (begun b share).events
begun-quiet b share =
    status-quiet b.pdcp.lcid (ack b.rx (share - 3) % 1024) (has_prohibit b) (writes_status b.rx share)

pub feeding-holds : (Holds : Work → List (List ℕ) → Type 0) (b : State) (share : ℕ) (held : Option ℕ)
    → ((w : Work) (l : List (List ℕ)) → SpellsAs w.pdcp.tx b.pdcp.tx → Holds w l
    → Holds (fed w) (l ++ next-offered w.pdcp.tx))
    → Holds (begun b share) [] → Holds (feeding b share held) (offers_in b share held)
feeding-holds Holds b share held goes-on h =
    let x = b.pdcp.tx in
    let f = feeds-fed Holds x goes-on (offers x) (data_size b share) held [] (begun b share)
    (record { kind = refl; protection = refl }) refl h in
    subst (Holds (feeding b share held)) (offered-are b share held f.n f.few f.left) f.holds

-- what is told so far is gathered, and the kind stays
pub record Feeds (p : Progress) (s : Supply History) (w : Work) (l : List (List ℕ)) : Type 0 where
  pub kind : w.pdcp.kind ≡ AmKind s.bits
  pub went : Went (with_offered l p) w.pdcp.tx w.events s

pub feeds-on : (p : Progress) (s : Supply History) (x : Sending) (w : Work) (l : List (List ℕ))
    → IsKind (AmKind s.bits) → x.kind ≡ AmKind s.bits → SpellsAs w.pdcp.tx x → Feeds p s w l
    → Feeds p s (fed w) (l ++ next-offered w.pdcp.tx)
feeds-on p s x w l bits k same h = record {
  kind = fed-kind w ∙ h.kind;
  went = subst (λ (l' : List (List ℕ)). Went (record p { offered = l' }) (fed w).pdcp.tx (fed w).events s)
      (append_assoc p.offered l (next-offered w.pdcp.tx))
      (fed-went (with_offered l p) w s bits h.kind (same.kind ∙ k) h.went);
}

pub begun-feeds : (p : Progress) (b : State) (share : ℕ) (s : Supply History) → IsOfData s.bits b
    → IsSupplied p b.pdcp.tx s → Feeds p s (begun b share) []
begun-feeds p b share s k h =
    let told = (begun b share).events in
    record {
      kind = k.kind;
      went = more-nothing p b.pdcp.tx told s (quiet-went p b.pdcp.tx told s (begun-quiet b share) h);
    }

writes-went : (p : Progress) (b : State) (share : ℕ) (held : Option ℕ) (s : Supply History) → IsKind (AmKind s.bits)
    → IsOfData s.bits b → IsSupplied p b.pdcp.tx s
    → Went (with_offered (offers_in b share held) p) (after_taking b share held).pdcp.tx (am_taking b share held) s
unfolding after_taking am_taking
writes-went p b share held s bits k h =
    let v = feeding b share held in
    let ends = answer_of v (data_size b share) held in
    let f = feeding-holds (Feeds p s) b share held (λ w l. feeds-on p s b.pdcp.tx w l bits k.sending)
    (begun-feeds p b share s k h) in
    more-quiet (with_offered (offers_in b share held) p) v.pdcp.tx v.events (data_told v.pdcp.lcid ends) s
    (data-quiet v.pdcp.lcid ends) f.went

-- ---- a timer expires

poll-quiet : (lcid : ℕ) (x : PollExpired) → AreQuiet (told_of (poll_told lcid x))
poll-quiet lcid polls.NotRunning = tt
poll-quiet lcid polls.Done = (tt, tt)
poll-quiet lcid (polls.Limit sn) = (tt, (tt, tt))

timer-quiet : (lcid : ℕ) (clock : Clock) (x : Expired) → AreQuiet (told_of (timer_told lcid clock x))
timer-quiet lcid clock NotRunning = tt
timer-quiet lcid clock (Done again) = by again
  where
    by : (again : Bool) → AreQuiet (expired_told lcid clock again)
    by true = (tt, (tt, tt))
    by false = (tt, tt)

clock-quiet : (clock : Clock) (b : State) → AreQuiet (told_of (clock_told clock b))
clock-quiet Poll b = poll-quiet b.pdcp.lcid (poll_expiry b.tx (has_more b.pdcp))
clock-quiet Reorder b = timer-quiet b.pdcp.lcid Reorder (reorder_answer b.rx.mark b.rx)
clock-quiet Prohibit b = timer-quiet b.pdcp.lcid Prohibit (prohibit_answer b.rx)

pub expiry-quiet : (clock : Clock) (b : State) → AreQuiet (told_of (am_expiry b clock))
unfolding am_expiry
expiry-quiet clock b = clock-quiet clock b

clock-pdcp : (clock : Clock) (b : State) → (clock_left clock b).pdcp ≡ b.pdcp
clock-pdcp Poll b = refl
clock-pdcp Reorder b = refl
clock-pdcp Prohibit b = refl

expiry-pdcp : (clock : Clock) (b : State) → (after_expiry b clock).pdcp ≡ b.pdcp
unfolding after_expiry
expiry-pdcp clock b = clock-pdcp clock b

counts-pdcp : (clock : Clock) (b : State) → (counts clock b).pdcp ≡ b.pdcp
counts-pdcp Poll b = refl
counts-pdcp Reorder b = refl
counts-pdcp Prohibit b = refl

-- ---- a TTI begins: timers tell nothing of what is given

record Stays (b : State) (t : Ticking) : Type 0 where
  pdcp : t.bearer.pdcp ≡ b.pdcp
  quiet : AreQuiet t.events

expires-stays : (ended : Bool) (clock : Clock) (b : State) (t : Ticking) → Stays b t
    → Stays b (expires_if ended clock t)
expires-stays true clock b t h = record {
  pdcp = expiry-pdcp clock t.bearer ∙ h.pdcp;
  quiet = quiet-then t.events (told_of (am_expiry t.bearer clock)) h.quiet (expiry-quiet clock t.bearer);
}
expires-stays false clock b t h = h

ticks-stays : (clock : Clock) (b : State) (t : Ticking) → Stays b t → Stays b (ticked_by clock t)
ticks-stays clock b t h =
    expires-stays (has_ended clock t.bearer) clock b (record t { bearer = counts clock t.bearer })
    (record { pdcp = counts-pdcp clock t.bearer ∙ h.pdcp; quiet = h.quiet })

lates-went : (lcid : ℕ) (ws : List Waits) (p : Progress) (x : Sending) (s : Supply History) → IsSupplied p x s
    → Went p (without_late ws x) (late_told lcid ws x) s
lates-went lcid [] p x s h = record { supplied = h; right = tt; bits = refl }
lates-went lcid (w ∷ ws) p x s h =
    by (is_overdue x) refl (λ s' k. lates-went lcid ws p (after_late x) s' k)
  where
    by : (b : Bool) → is_overdue x ≡ b
        → ((s' : Supply History) → IsSupplied p (after_late x) s'
        → Went p (without_late ws (after_late x)) (late_told lcid ws (after_late x)) s')
        → Went p (if b then without_late ws (after_late x) else x)
        (if b then events.Discard lcid (length w.sdu) ∷ late_told lcid ws (after_late x) else []) s
    by true e rest =
        let one = discards p x s lcid (length w.sdu) e h in
        let more = rest (supplied_by (events.Discard lcid (length w.sdu)) s) one.supplied in
        record { supplied = more.supplied; right = (one.right.0, more.right); bits = more.bits }
    by false e rest = record { supplied = h; right = tt; bits = refl }

tick-went : (p : Progress) (e : Ends) (s : Supply History) → IsSupplied p e.tx s
    → Went p (after_tick e).tx (tick_told e) s
unfolding after_tick tick_told
tick-went p e s h =
    lates-went e.lcid e.tx.waiting p (pdcp_ticked e.tx) s (ticks p e.tx s h)

settled-went : (a : Bool) (p : Progress) (w : Work) (s : Supply History) → Went p w.pdcp.tx w.events s
    → Went p (settled_if a w).pdcp.tx (settled_if a w).events s
settled-went true p w s h =
    more-quiet p w.pdcp.tx w.events (started_told w.pdcp.lcid (starts w.tx (has_more w.pdcp))) s
    (by (starts w.tx (has_more w.pdcp))) h
  where
    by : (b : Bool) → AreQuiet (started_told w.pdcp.lcid b)
    by true = (tt, tt)
    by false = tt
settled-went false p w s h = h

discards-went : (p : Progress) (b : State) (t : Ticking) (s : Supply History) → Stays b t
    → IsSupplied p b.pdcp.tx s → Went p (discarded t).bearer.pdcp.tx (discarded t).events s
discards-went p b t s k h =
    let e = t.bearer.pdcp in
    let own : IsSupplied p e.tx s = subst (λ (d : Ends). IsSupplied p d.tx s) (sym k.pdcp) h in
    let before = quiet-went p e.tx t.events s k.quiet own in
    settled-went (nat_lt 0 (length (tick_told e))) p (work (after_tick e) t.bearer.tx (t.events ++ tick_told e)) s
    (went-then p p e.tx (after_tick e).tx t.events (tick_told e) s before
    (tick-went p e (supplied_all t.events s) before.supplied))

tti-went : (p : Progress) (b : State) (s : Supply History) → IsSupplied p b.pdcp.tx s
    → Went p (am_ticked b).bearer.pdcp.tx (am_ticked b).events s
unfolding am_ticked
tti-went p b s h =
    let t0 : Ticking = record { bearer = b; events = [] } in
    let t1 = ticked_by Poll t0 in
    let t2 = ticked_by Reorder t1 in
    discards-went p b (ticked_by Prohibit t2) s
    (ticks-stays Prohibit b t2 (ticks-stays Reorder b t1 (ticks-stays Poll b t0
    (record { pdcp = refl; quiet = tt })))) h

-- ---- any call

gathers : (p : Progress) (b d : State) (c : Call) (s : Supply History) (x : Sending)
    → (submitted_by c s).bits ≡ s.bits → d.pdcp.tx ≡ x
    → Went (with_offered (offered_in b c) p) x (tells b c) (submitted_by c s) → IsGathered p b d c s
gathers p b d c s x same e h = record {
  supplied = subst (λ (y : Sending). IsSupplied (with_offered (offered_in b c) p) y (gathered b c s)) (sym e)
      h.supplied;
  right = h.right;
  bits = h.bits ∙ same;
}

sender-is : (b d : State) → Am b ≡ Am d → d.pdcp.tx ≡ b.pdcp.tx
sender-is b d e = let same : b ≡ d = cc in ap (λ (y : State). y.pdcp.tx) (sym same)

takes-gathered : (p : Progress) (b d : State) (share : ℕ) (held : Option ℕ) (s : Supply History)
    → IsKind (AmKind s.bits) → IsOfData s.bits b → after (Am b) (Take share held) ≡ Am d
    → IsSupplied p b.pdcp.tx s → IsGathered p b d (Take share held) s
unfolding taken_from flow_told
takes-gathered p b d share held s bits k e h =
    gathers p b d (Take share held) s (after_taking b share held).pdcp.tx refl
    (sender-is (after_taking b share held) d e) (writes-went p b share held s bits k h)

ticks-gathered : (p : Progress) (b d : State) (s : Supply History) → after (Am b) Tick ≡ Am d
    → IsSupplied p b.pdcp.tx s → IsGathered p b d Tick s
unfolding ticked ticking
ticks-gathered p b d s e h =
    gathers p b d Tick s (am_ticked b).bearer.pdcp.tx refl (sender-is (am_ticked b).bearer d e)
    (more-nothing p (am_ticked b).bearer.pdcp.tx (am_ticked b).events s (tti-went p b s h))

expires-gathered : (p : Progress) (b d : State) (clock : Clock) (s : Supply History)
    → after (Am b) (Expire clock) ≡ Am d → IsSupplied p b.pdcp.tx s → IsGathered p b d (Expire clock) s
unfolding expired expiry
expires-gathered p b d clock s e h =
    gathers p b d (Expire clock) s b.pdcp.tx refl
    (sender-is (after_expiry b clock) d e ∙ ap (λ (x : Ends). x.tx) (expiry-pdcp clock b))
    (more-nothing p b.pdcp.tx (told_of (am_expiry b clock)) s
    (quiet-went p b.pdcp.tx (told_of (am_expiry b clock)) s (expiry-quiet clock b) h))

pub calls_are_gathered : CallsAreGathered
unfolding submitted with_discard
calls_are_gathered p b d (Submit sdu) s w bits k e h =
    let one = submits p b.pdcp.tx s sdu h in
    gathers p b d (Submit sdu) s (pdcp_submitted b.pdcp.tx sdu) refl (sender-is _ d e)
    (record {
      supplied = nothing-more p (pdcp_submitted b.pdcp.tx sdu) (submitted_by (Submit sdu) s) one;
      right = tt;
      bits = refl;
    })
calls_are_gathered p b d (Take share held) s w bits k e h = takes-gathered p b d share held s bits k e h
calls_are_gathered p b d (Arrive pdu) s w bits k e h = absurd w
calls_are_gathered p b d (Expire clock) s w bits k e h = expires-gathered p b d clock s e h
calls_are_gathered p b d Tick s w bits k e h = ticks-gathered p b d s e h
calls_are_gathered p b d (SetDiscard ttis) s w bits k e h =
    let one = sets-discard p b.pdcp.tx s ttis h in
    gathers p b d (SetDiscard ttis) s (record b.pdcp.tx { discard = Some ttis }) refl (sender-is _ d e)
    (record {
      supplied = nothing-more p (record b.pdcp.tx { discard = Some ttis }) s one;
      right = tt;
      bits = refl;
    })
