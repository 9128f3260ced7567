-- The SDUs of an unacknowledged data bearer leave its queue in their order, each told by its length.
use Rattle.std.proofs.Common.{◌≡◌, ℕ, Bool, true, false, Option, Some, None, List, [], ◌∷◌}
use Rattle.std.proofs.Common.{◌++◌, map, length, append-nil, append_assoc, unwrap_or, refl, ap, sym, subst, ◌∙◌}
use Rattle.std.specs.List.{flat_map}
use Rattle.std.proofs.lemmas.Grind.{flat_map-append}
use Rattle.std.proofs.lemmas.List.{map-append}
use Rattle.bearer.specs.declared.flow.Flow.{Flow}
use Rattle.bearer.specs.declared.flow.Flow.TheVariants.{Um}
use Rattle.bearer.specs.Hearing.{arrived as flow_arrived, expired as flow_expired, ticked as flow_ticked, with_discard}
use Rattle.bearer.specs.Hearing.{ticking as flow_ticking, expiry as flow_expiry}
use Rattle.bearer.specs.Lives.{stopping}
use Rattle.bearer.specs.Submitting.{submitted as flow_submitted}
use Rattle.bearer.specs.Taking.{told as flow_told, after as flow_after}
use Rattle.bearer.specs.Unacknowledged.Hearing.{expiry, told_of, counted_down, timed_told, ticking, after_ticking}
use Rattle.bearer.specs.Unacknowledged.Hearing.{after_arrival, after_expiry, timed_left}
use Rattle.bearer.specs.Unacknowledged.Lives.{stopped, restarted}
use Rattle.bearer.specs.Unacknowledged.State.{State}
use Rattle.bearer.specs.Unacknowledged.Taking.{Feeding, fed, feeds, feeding, size_in, idle_told, data_told, has_more}
use Rattle.bearer.specs.Unacknowledged.Taking.{why_idle, taking, after_taking}
use Rattle.bearer_pdcp.specs.Discarding.{tick_told}
use Rattle.bearer_pdcp.specs.Ends.{Ends}
use Rattle.bearer_pdcp.specs.Lives.{restarted as restarted_pdcp}
use Rattle.bearer_types.specs.declared.event.Event.{Event}
use Rattle.eps_sec.specs.declared.Keys.{Keys}
use Rattle.l2_num.specs.Timers.{ends as ends_now}
use Rattle.l2_types.specs.declared.event.Clock.TheVariants.{Reorder}
use Rattle.l2_types.specs.declared.event.Waits.{Waits as Why}
use Rattle.law_bearer.specs.AnyBearer.Calls.{Call, Submit, Take, Arrive, Expire, Tick, SetDiscard, Step, Calls, Restart}
use Rattle.law_bearer.specs.AnyBearer.Calls.{ends, run_bearer}
use Rattle.law_bearer.specs.AnyBearer.Queue.{queue, submits, all_submitted}
use Rattle.law_bearer.proofs.AnyBearer.Between.{IsBetween}
use Rattle.law_bearer.proofs.AnyBearer.Sender.{submitting, submits_one, sdus, moved_queue}
use Rattle.law_bearer.proofs.AnyBearer.Unacknowledged.{take_left, arrival_moves, expiry_moves, timed, before_discards}
use Rattle.law_bearer.proofs.AnyBearer.Unacknowledged.{ticked_is, stop_ends, restart_is}
use Rattle.law_node.proofs.Pdcp.{OfPdcp, arrives, expires, ticks_of, discards_of, takes_of, moves_of}
use Rattle.law_node.proofs.Plain.{IsPlainSender, IsPlain, owes_nothing, plain_passes}
use Rattle.pdcp_pdu.specs.Kinds.{is_am}
use Rattle.pdcp_pdu.specs.declared.pdu.PdcpKind.{PdcpKind}
use Rattle.pdcp_pdu.specs.declared.pdu.PdcpKind.TheVariants.{Um as UmKind}
use Rattle.pdcp_tx.specs.State.{State as Sending, Offer, offers, submitted as pdcp_submitted, waiting_on}
use Rattle.pdcp_tx.specs.State.{restarted as restarted_sending}
use Rattle.pdcp_tx_store.specs.Waiting.{Waits}
use Rattle.promises.specs.Taken.{length_in, lengths_on}
use Rattle.rlc_pdu.specs.declared.Taken.{Taken}
use Rattle.rlc_pdu.specs.declared.Taken.TheVariants.{Piece, Idle, Small, Shut, Held, Stopped}
use Rattle.rlc_um.specs.Sender.{is_hungry, taken as rlc_taken}
use Rattle.law_deliver.specs.UmFlow.Pair.{called}
use Rattle.law_deliver.proofs.AmChannel.Ends.{lengths_in, all_lengths, length_off}
use Rattle.law_deliver.proofs.AmChannel.Feeding.{feeds_lens}
use Rattle.law_deliver.proofs.AmChannel.Lengths.{lens, tick_lens, hears_none, same_lens}
use Rattle.law_deliver.proofs.AmFlow.Events.{none_arriving, none_expiring, none_ending}
use Rattle.law_deliver.proofs.UmChannel.Bearers.{between_called, between_next, restarts}
use Rattle.law_deliver.proofs.UmFlow.Sending.{is_called}

-- ---- RLC takes PDUs

module _ (kind : PdcpKind) (off : is_am kind ≡ false) where
  feeds_told : (l : ℕ) (os : List Offer) (size : ℕ) (held : Option ℕ) (f : Feeding) → f.pdcp.lcid ≡ l
      → IsPlain kind f.pdcp
      → lengths_on l (feeds os size held f).events ++ lens (feeds os size held f).pdcp.tx.waiting
      ≡ lengths_on l f.events ++ lens f.pdcp.tx.waiting
  feeds_told l os size held f own h =
      feeds_lens (λ (v : Feeding). v.events) (λ (v : Feeding). v.pdcp) (λ (v : Feeding). is_hungry v.tx size held) fed
      (λ v. refl) (λ v. refl) (λ (xs : List Offer) (v : Feeding). feeds xs size held v) (λ v. refl) (λ o xs v. refl)
      kind off l os f own h

  idle_none : (l lcid : ℕ) (more : Bool) (why : Why) → lengths_on l (idle_told lcid more why) ≡ []
  idle_none l lcid true why = refl
  idle_none l lcid false why = refl

  data_none : (l lcid bits : ℕ) (more : Bool) (why : Why) (t : Taken)
      → lengths_on l (data_told lcid bits more why t) ≡ []
  data_none l lcid bits more why (Piece number first polled octets) = refl
  data_none l lcid bits more why Idle = idle_none l lcid more why
  data_none l lcid bits more why Small = refl
  data_none l lcid bits more why Shut = refl
  data_none l lcid bits more why Held = refl
  data_none l lcid bits more why Stopped = refl

  take_told : (l : ℕ) (b : State) (share : ℕ) (held : Option ℕ) → b.pdcp.lcid ≡ l → IsPlain kind b.pdcp
      → lengths_in l (Um b) (Take share held) ++ lens (after_taking b share held).pdcp.tx.waiting
      ≡ lens b.pdcp.tx.waiting
  unfolding flow_told taking
  take_told l b share held own h =
      let f = feeding b share held in
      let data' = data_told f.pdcp.lcid b.bits (has_more f.pdcp) (why_idle f.tx held)
      (rlc_taken f.tx (size_in share) held) in
      let none : lengths_on l (f.events ++ data') ≡ lengths_on l f.events =
      flat_map-append (length_in l) f.events data'
      ∙ (ap (λ (ns : List ℕ). lengths_on l f.events ++ ns)
      (data_none l f.pdcp.lcid b.bits (has_more f.pdcp) (why_idle f.tx held) (rlc_taken f.tx (size_in share) held))
      ∙ append-nil (lengths_on l f.events)) in
      ap (λ (ns : List ℕ). ns ++ lens (after_taking b share held).pdcp.tx.waiting) none
      ∙ (ap (λ (e : Ends). lengths_on l f.events ++ lens e.tx.waiting) (take_left b share held)
      ∙ feeds_told l (offers b.pdcp.tx) (size_in share) held
      (record { pdcp = b.pdcp; tx = b.tx; events = [] }) own h)

told_same : (o : Option (List Event)) → told_of o ≡ unwrap_or o []
told_same None = refl
told_same (Some told) = refl

timed_none : (l : ℕ) (b : State) (on : Bool) → IsBetween l (Um b)
    → lengths_on l (timed_told on (counted_down b)) ≡ []
unfolding flow_expiry
timed_none l b true k =
    let d = counted_down b in
    ap (lengths_on l) (told_same (expiry d Reorder))
    ∙ none_expiring length_in length_off l (Um d) (record { own = k.own; empty = k.empty }) (hears_none l l) Reorder
timed_none l b false k = refl

expired_lcid : (l : ℕ) (d : State) → IsBetween l (Um d) → (after_expiry d Reorder).pdcp.lcid ≡ l
unfolding flow_expired
expired_lcid l d k = (between_called l d (Expire Reorder) k).own

timed_lcid : (l : ℕ) (b : State) → IsBetween l (Um b) → (timed b).pdcp.lcid ≡ l
timed_lcid l b k = by (ends_now b.rx.clock)
  where
    by : (on : Bool) → (timed_left on (counted_down b)).pdcp.lcid ≡ l
    by true = expired_lcid l (counted_down b) (record { own = k.own; empty = k.empty })
    by false = k.own

ticks_told : (l : ℕ) (b : State) → IsBetween l (Um b)
    → lengths_in l (Um b) Tick ++ lens (after_ticking b).pdcp.tx.waiting ≡ lens b.pdcp.tx.waiting
unfolding flow_ticking ticking
ticks_told l b k =
    let on = ends_now b.rx.clock in
    let e = (timed b).pdcp in
    let left = lens (after_ticking b).pdcp.tx.waiting in
    ap (λ (ns : List ℕ). ns ++ left)
    (flat_map-append (length_in l) (timed_told on (counted_down b)) (tick_told e)
    ∙ ap (λ (ns : List ℕ). ns ++ lengths_on l (tick_told e)) (timed_none l b on k))
    ∙ (ap (λ (d : Ends). lengths_on l (tick_told e) ++ lens d.tx.waiting) (ticked_is b)
    ∙ (tick_lens l e (timed_lcid l b k) ∙ same_lens b.pdcp e (before_discards b)))

-- ---- a call

call_lens : (kind : PdcpKind) → is_am kind ≡ false → (l : ℕ) (b : State) (c : Call) → IsBetween l (Um b)
    → IsPlain kind b.pdcp
    → lengths_in l (Um b) c ++ lens (called b c).pdcp.tx.waiting ≡ lens b.pdcp.tx.waiting ++ map length (submits c)
unfolding flow_submitted flow_arrived flow_expired flow_ticked with_discard flow_after
call_lens kind off l b (Submit sdu) k h =
    ap (λ (xs : List (List ℕ)). map length xs)
    (moved_queue b.pdcp.tx (pdcp_submitted b.pdcp.tx sdu) (submitting sdu) (submits_one b.pdcp.tx sdu))
    ∙ map-append length (sdus b.pdcp.tx.waiting) (sdu ∷ [])
call_lens kind off l b (Take share held) k h = take_told kind off l b share held k.own h
    ∙ sym (append-nil (lens b.pdcp.tx.waiting))
call_lens kind off l b (Arrive pdu) k h =
    ap (λ (ns : List ℕ). ns ++ lens (after_arrival b pdu).pdcp.tx.waiting)
    (none_arriving length_in length_off l (Um b) k (hears_none l l) pdu)
    ∙ (same_lens b.pdcp (after_arrival b pdu).pdcp (arrival_moves b pdu)
    ∙ sym (append-nil (lens b.pdcp.tx.waiting)))
call_lens kind off l b (Expire clock) k h =
    ap (λ (ns : List ℕ). ns ++ lens (after_expiry b clock).pdcp.tx.waiting)
    (none_expiring length_in length_off l (Um b) k (hears_none l l) clock)
    ∙ (same_lens b.pdcp (after_expiry b clock).pdcp (expiry_moves b clock)
    ∙ sym (append-nil (lens b.pdcp.tx.waiting)))
call_lens kind off l b Tick k h = ticks_told l b k ∙ sym (append-nil (lens b.pdcp.tx.waiting))
call_lens kind off l b (SetDiscard ttis) k h = sym (append-nil (lens b.pdcp.tx.waiting))

-- ---- through lives

module _ (bits : ℕ) where
  abbrev Plain : State → Type 0
  Plain b = IsPlain (UmKind bits) b.pdcp

  plain_submitted : (s : Sending) (sdu : List ℕ) → IsPlainSender (UmKind bits) s
      → IsPlainSender (UmKind bits) (pdcp_submitted s sdu)
  unfolding pdcp_submitted
  plain_submitted s sdu h = record {
    kind_is = h.kind_is;
    owes_none = h.owes_none;
    none_again = h.none_again;
    none_given = h.none_given;
  }

  plain_called : (b : State) (c : Call) → Plain b → Plain (called b c)
  unfolding flow_submitted
  plain_called b (Submit sdu) h = record { own = h.own; sender = plain_submitted b.pdcp.tx sdu h.sender }
  plain_called b (Take share held) h =
      subst (OfPdcp (IsPlain (UmKind bits))) (is_called b (Take share held))
      (takes_of (IsPlain (UmKind bits)) (plain_passes (UmKind bits) refl) (Um b) share held h)
  plain_called b (Arrive pdu) h =
      subst (OfPdcp (IsPlain (UmKind bits))) (is_called b (Arrive pdu))
      (arrives (IsPlain (UmKind bits)) (plain_passes (UmKind bits) refl) (Um b) pdu h)
  plain_called b (Expire clock) h =
      subst (OfPdcp (IsPlain (UmKind bits))) (is_called b (Expire clock))
      (expires (IsPlain (UmKind bits)) (plain_passes (UmKind bits) refl) (Um b) clock h)
  plain_called b Tick h =
      subst (OfPdcp (IsPlain (UmKind bits))) (is_called b Tick)
      (ticks_of (IsPlain (UmKind bits)) (plain_passes (UmKind bits) refl) (Um b) h)
  plain_called b (SetDiscard ttis) h =
      subst (OfPdcp (IsPlain (UmKind bits))) (is_called b (SetDiscard ttis))
      (discards_of (IsPlain (UmKind bits)) (plain_passes (UmKind bits) refl) (Um b) ttis h)

  abbrev next : State → Keys → State
  next b keys = restarted (stopped b) keys

  plain_next : (b : State) (keys : Keys) → Plain b → Plain (next b keys)
  plain_next b keys h =
      subst (OfPdcp (IsPlain (UmKind bits))) (restarts b keys)
      (moves_of (IsPlain (UmKind bits)) (plain_passes (UmKind bits) refl) (Um b) keys h)

  begun_waits : (s : Sending) (keys : Keys) → s.kind ≡ UmKind bits → (restarted_sending s keys).waiting ≡ s.waiting
  unfolding restarted_sending
  begun_waits s keys q = ap (λ (x : PdcpKind). waiting_on x s.waiting) q

  pdcp_waits : (e : Ends) (keys : Keys) → IsPlain (UmKind bits) e → (restarted_pdcp e keys).tx.waiting ≡ e.tx.waiting
  unfolding restarted_pdcp
  pdcp_waits e keys h =
      ap (λ (s : Sending). s.waiting) (owes_nothing (UmKind bits) refl e (restarted_sending e.tx keys) h)
      ∙ begun_waits e.tx keys h.sender.kind_is

  next_waits : (b : State) (keys : Keys) → Plain b → (next b keys).pdcp.tx.waiting ≡ b.pdcp.tx.waiting
  next_waits b keys h =
      let x = stop_ends b in
      let e = (stopped b).pdcp in
      let plain : IsPlain (UmKind bits) e = record {
        own = x.kind ∙ h.own;
        sender = subst (IsPlainSender (UmKind bits)) (sym x.tx) h.sender;
      } in
      ap (λ (d : Ends). d.tx.waiting) (restart_is b keys)
      ∙ (pdcp_waits e keys plain ∙ ap (λ (s : Sending). s.waiting) x.tx)

  pub all_lens : (l : ℕ) (xs : List Step) (b : State) → IsBetween l (Um b) → Plain b
      → all_lengths l (Um b) xs ++ map length (queue (ends (run_bearer xs (Um b))))
      ≡ lens b.pdcp.tx.waiting ++ map length (all_submitted xs)
  all_lens l [] b k h = sym (append-nil (lens b.pdcp.tx.waiting))
  all_lens l (Calls c ∷ xs) b k h =
      let d = called b c in
      let is = is_called b c in
      let here = lengths_in l (Um b) c in
      let left = map length (queue (ends (run_bearer xs (Um d)))) in
      let more = map length (all_submitted xs) in
      let subs = map length (submits c) in
      ap (λ (f : Flow). (here ++ all_lengths l f xs) ++ map length (queue (ends (run_bearer xs f)))) is
      ∙ (append_assoc here (all_lengths l (Um d) xs) left
      ∙ (ap (λ (ns : List ℕ). here ++ ns)
      (all_lens l xs d (between_called l b c k) (plain_called b c h))
      ∙ (sym (append_assoc here (lens d.pdcp.tx.waiting) more)
      ∙ (ap (λ (ns : List ℕ). ns ++ more) (call_lens (UmKind bits) refl l b c k h)
      ∙ (append_assoc (lens b.pdcp.tx.waiting) subs more
      ∙ ap (λ (ns : List ℕ). lens b.pdcp.tx.waiting ++ ns)
      (sym (map-append length (submits c) (all_submitted xs))))))))
  all_lens l (Restart keys ∷ xs) b k h =
      let d = next b keys in
      let left = map length (queue (ends (run_bearer xs (Um d)))) in
      ap (λ (f : Flow). (flat_map (length_in l) (stopping (Um b)) ++ all_lengths l f xs)
      ++ map length (queue (ends (run_bearer xs f)))) (restarts b keys)
      ∙ (ap (λ (ns : List ℕ). (ns ++ all_lengths l (Um d) xs) ++ left)
      (none_ending length_in length_off l (Um b) k (hears_none l l))
      ∙ (all_lens l xs d (between_next l b keys k) (plain_next b keys h)
      ∙ ap (λ (ws : List Waits). lens ws ++ map length (all_submitted xs)) (next_waits b keys h)))
