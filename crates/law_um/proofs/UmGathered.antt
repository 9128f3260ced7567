-- What events tell of the flows of a channel of unacknowledged data.
use Rattle.std.proofs.Common.{◌≡◌, ℕ, ◌+◌, ◌==◌, Bool, true, false, ◌&&◌, if◌then◌else◌, List, [], ◌∷◌, ◌++◌, map}
use Rattle.std.proofs.Common.{length, Option, Some, None, refl, ap, sym, subst, ◌∙◌, arith}
use Rattle.std.specs.List.{AllByRecursion}
use Rattle.std.specs.Prelude.{slice_index_or}
use Rattle.std.proofs.lemmas.Bool.{eqb-true}
use Rattle.std.proofs.lemmas.Bool.Decides.{nat_tests}
use Rattle.std.proofs.lemmas.List.{map-append}
use Rattle.l2_types.specs.declared.event.Clock.TheVariants.{Poll, Reorder, Prohibit}
use Rattle.l2_types.specs.declared.side.Side.{Side}
use Rattle.l2_types.specs.declared.side.Side.TheVariants.{Nb, Ue}
use Rattle.pdcp_pdu.specs.declared.pdu.PdcpKind.TheVariants as pdcp
use Rattle.pdu_show.specs.declared.kinds.Layout.{Layout}
use Rattle.pdu_show.specs.declared.kinds.Layout.TheVariants as layouts
use Rattle.bearer_types.specs.declared.event.Event.{Event}
use Rattle.bearer_types.specs.declared.event.Event.TheVariants as events
use Rattle.bearer_types.specs.Sides.{other, is_same}
use Rattle.promises.specs.Events.{is_on, told_on}
use Rattle.journal_account.specs.FlowEvents.{FlowEvent, SduTaken, PollExpired}
use Rattle.journal_account.specs.FlowEvents.{ReorderStarted, ReorderExpired}
use Rattle.journal_um.specs.UmEvents.{UmEvent, UmLifeEvent}
use Rattle.journal_um.specs.UmEvents as um
use Rattle.journal_flows.specs.FlowsTold.{Histories, histories, is_at, with_told}
use Rattle.journal_flows.specs.Gathering.{all_told, taken_as, report_as, reorder_as, told_by}
use Rattle.journal_flows.specs.NumberedPdus.{AnyEvent, Acked, Unacked, Told, told_in, um_told}
use Rattle.journal_flows.specs.UmPdus.{UmFlowEvent, AtSender, AtReceiver, sent_in, come_in}
use Rattle.law_deliver.specs.AmFlow.Reordering.{Reordering, reordering_told, reordering_in}
use Rattle.law_um.specs.UmTimers.{event_of, with_events}
use Rattle.law_um.specs.UmGathered.{IsShownSo, all_gathered, FlowsGoOn, sizes_told, sizes_in, with_sizes}
use Rattle.law_um.specs.UmGathered.{UmEventsAreGathered, OtherEventsStayAway, UmToldIsGathered}
use Rattle.law_um.proofs.UmTimers.{then_events}

-- ---- of which flow

at_own : (side : Side) (l : ℕ) → is_at side l side l ≡ true
at_own Nb l = grind (arith, nat_tests)
at_own Ue l = grind (arith, nat_tests)

at_back : (side : Side) (l : ℕ) → is_at side l (other side) l ≡ false
at_back Nb l = refl
at_back Ue l = refl

at_other : (side : Side) (l : ℕ) → is_at (other side) l side l ≡ false
at_other Nb l = refl
at_other Ue l = refl

module _ (from : Side) (l : ℕ) (own : Side) (e : UmFlowEvent) (h : Histories) where
  there : is_at from l own l ≡ true → (all_told histories (um_told from l e) h).unacked own l ≡ e ∷ h.unacked own l
  there is = ap (λ (b : Bool). if b then e ∷ h.unacked own l else h.unacked own l) is

  elsewhere : is_at from l own l ≡ false → (all_told histories (um_told from l e) h).unacked own l ≡ h.unacked own l
  elsewhere is = ap (λ (b : Bool). if b then e ∷ h.unacked own l else h.unacked own l) is

-- ---- what is told, by what is left

-- of both flows of the channel
pub by_flows : (side : Side) (l : ℕ) (h i : Histories) → i.unacked side l ≡ h.unacked side l
    → i.unacked (other side) l ≡ h.unacked (other side) l → FlowsGoOn side l h i (λ es. es) (λ es. es)
by_flows side l h i own back = record {
  sent_is = ap sent_in own;
  come_is = ap come_in back;
  own_stays = ap come_in own;
  back_stays = ap sent_in back;
}

pub sender_tells : (side : Side) (l : ℕ) (e : FlowEvent) (h : Histories)
    → FlowsGoOn side l h (all_told histories (um_told side l (AtSender e)) h) (λ es. e ∷ es) (λ es. es)
sender_tells side l e h =
    let own = there side l side (AtSender e) h (at_own side l) in
    let back = elsewhere side l (other side) (AtSender e) h (at_back side l) in
    record {
      sent_is = ap sent_in own;
      come_is = ap come_in back;
      own_stays = ap come_in own;
      back_stays = ap sent_in back;
    }

pub receiver_tells : (side : Side) (l : ℕ) (e : UmEvent) (h : Histories)
    → FlowsGoOn side l h (all_told histories (um_told (other side) l (AtReceiver e)) h) (λ es. es)
    (λ es. um.InLife e ∷ es)
receiver_tells side l e h =
    let own = elsewhere (other side) l side (AtReceiver e) h (at_other side l) in
    let back = there (other side) l (other side) (AtReceiver e) h (at_own (other side) l) in
    record {
      sent_is = ap sent_in own;
      come_is = ap come_in back;
      own_stays = ap come_in own;
      back_stays = ap sent_in back;
    }

pub none_told : (side : Side) (l : ℕ) (h : Histories) → FlowsGoOn side l h h (λ es. es) (λ es. es)
none_told side l h = by_flows side l h h refl refl

-- one behind the other
pub flows_then : (side : Side) (l : ℕ) (h i j : Histories) (sent more : List FlowEvent → List FlowEvent)
    (come again : List UmLifeEvent → List UmLifeEvent) → FlowsGoOn side l h i sent come
    → FlowsGoOn side l i j more again
    → FlowsGoOn side l h j (λ es. more (sent es)) (λ es. again (come es))
flows_then side l h i j sent more come again a b = record {
  sent_is = b.sent_is ∙ ap more a.sent_is;
  come_is = b.come_is ∙ ap again a.come_is;
  own_stays = b.own_stays ∙ a.own_stays;
  back_stays = b.back_stays ∙ a.back_stays;
}

pub flows_as : (side : Side) (l : ℕ) (h i : Histories) (sent own : List FlowEvent → List FlowEvent)
    (come back : List UmLifeEvent → List UmLifeEvent) → ((es : List FlowEvent) → sent es ≡ own es)
    → ((es : List UmLifeEvent) → come es ≡ back es) → FlowsGoOn side l h i sent come → FlowsGoOn side l h i own back
flows_as side l h i sent own come back same alike a = record {
  sent_is = a.sent_is ∙ same (sent_in (h.unacked side l));
  come_is = a.come_is ∙ alike (come_in (h.unacked (other side) l));
  own_stays = a.own_stays;
  back_stays = a.back_stays;
}

-- ---- an event of the channel

module _ (kinds : List (Option Layout)) (rlc_bits bits : ℕ) (side : Side) (l : ℕ) (h : Histories)
    (known : IsShownSo kinds l rlc_bits bits) where
  abbrev Adds : List Told → Event → Type 0
  Adds ts e = FlowsGoOn side l h (all_told histories ts h) (with_sizes (sizes_told bits e))
      (with_events (map event_of (reordering_told e)))

  -- of its own layout and LCID
  own_layout : (lcid : ℕ) (ts : Option Layout → ℕ → List Told) (e : ℕ → Event) → (lcid == l) ≡ true
      → Adds (ts (Some (layouts.Um rlc_bits (pdcp.Um bits))) l) (e l)
      → Adds (ts (slice_index_or kinds lcid None) lcid) (e lcid)
  own_layout lcid ts e here a =
      subst (λ (n : ℕ). Adds (ts (slice_index_or kinds n None) n) (e n)) (sym (eqb-true lcid l here))
      (subst (λ (x : Option Layout). Adds (ts x l) (e l)) (sym known) a)

  -- what adds nothing to either
  quiet : (ts : List Told) (e : Event) → FlowsGoOn side l h (all_told histories ts h) (λ es. es) (λ es. es)
      → sizes_told bits e ≡ [] → reordering_told e ≡ [] → Adds ts e
  quiet ts e a none silent =
      subst (λ (ns : List ℕ). FlowsGoOn side l h (all_told histories ts h) (with_sizes ns)
      (with_events (map event_of (reordering_told e)))) (sym none)
      (subst (λ (rs : List Reordering). FlowsGoOn side l h (all_told histories ts h) (with_sizes [])
      (with_events (map event_of rs))) (sym silent)
      (record {
        sent_is = a.sent_is;
        come_is = a.come_is;
        own_stays = a.own_stays;
        back_stays = a.back_stays;
      }))

  taken : (count : Option ℕ) (len : ℕ)
      → Adds (taken_as (Some (layouts.Um rlc_bits (pdcp.Um bits))) side l count len) (events.Take l count len)
  taken count len =
      let a = sender_tells side l (SduTaken (len + (if bits == 7 then 1 else 2))) h in
      record { sent_is = a.sent_is; come_is = a.come_is; own_stays = a.own_stays; back_stays = a.back_stays }

  started : Adds (reorder_as (Some (layouts.Um rlc_bits (pdcp.Um bits))) (other side) l ReorderStarted
      um.ReorderStarted) (events.Start l Reorder)
  started =
      let a = receiver_tells side l um.ReorderStarted h in
      record { sent_is = a.sent_is; come_is = a.come_is; own_stays = a.own_stays; back_stays = a.back_stays }

  expired : Adds (reorder_as (Some (layouts.Um rlc_bits (pdcp.Um bits))) (other side) l ReorderExpired
      um.ReorderExpired) (events.Expired l Reorder)
  expired =
      let a = receiver_tells side l um.ReorderExpired h in
      record { sent_is = a.sent_is; come_is = a.come_is; own_stays = a.own_stays; back_stays = a.back_stays }

pub um_events_are_gathered : UmEventsAreGathered
um_events_are_gathered kinds rlc bits more side l (events.Take lcid count len) h known here =
    own_layout kinds rlc bits side l h known lcid (λ x n. taken_as x side n count len) (λ n. events.Take n count len)
    here (taken kinds rlc bits side l h known count len)
um_events_are_gathered kinds rlc bits more side l (events.Report lcid fms bitmap) h known here =
    own_layout kinds rlc bits side l h known lcid (λ x n. report_as x side n (length bitmap))
    (λ n. events.Report n fms bitmap) here
    (quiet kinds rlc bits side l h known [] (events.Report l fms bitmap) (none_told side l h) refl refl)
um_events_are_gathered kinds rlc bits more side l (events.Start lcid Reorder) h known here =
    own_layout kinds rlc bits side l h known lcid
    (λ x n. reorder_as x (other side) n ReorderStarted um.ReorderStarted) (λ n. events.Start n Reorder) here
    (started kinds rlc bits side l h known)
um_events_are_gathered kinds rlc bits more side l (events.Start lcid Poll) h known here =
    quiet kinds rlc bits side l h known [] (events.Start lcid Poll) (none_told side l h) refl refl
um_events_are_gathered kinds rlc bits more side l (events.Start lcid Prohibit) h known here =
    quiet kinds rlc bits side l h known [] (events.Start lcid Prohibit) (none_told side l h) refl refl
um_events_are_gathered kinds rlc bits more side l (events.Expired lcid Reorder) h known here =
    own_layout kinds rlc bits side l h known lcid
    (λ x n. reorder_as x (other side) n ReorderExpired um.ReorderExpired) (λ n. events.Expired n Reorder) here
    (expired kinds rlc bits side l h known)
um_events_are_gathered kinds rlc bits more side l (events.Expired lcid Poll) h known here =
    quiet kinds rlc bits side l h known (told_in side lcid (PollExpired more)) (events.Expired lcid Poll)
    (by_flows side l h (all_told histories (told_in side lcid (PollExpired more)) h) refl refl) refl refl
um_events_are_gathered kinds rlc bits more side l (events.Expired lcid Prohibit) h known here =
    quiet kinds rlc bits side l h known [] (events.Expired lcid Prohibit) (none_told side l h) refl refl
um_events_are_gathered kinds rlc bits more side l e h known here =
    quiet kinds rlc bits side l h known [] e (none_told side l h) refl refl

-- ---- what is told on another channel

abbrev pub IsElsewhere : ℕ → Told → Type 0
IsElsewhere l t = (t.lcid == l) ≡ false

one_elsewhere : (from : Side) (l : ℕ) (t : Told) (h : Histories) → IsElsewhere l t
    → (with_told t h).unacked from l ≡ h.unacked from l
one_elsewhere from l t h apart = by t.event
  where
    at : is_at t.side t.lcid from l ≡ false
    at = ap (λ (b : Bool). is_same t.side from && b) apart ∙ none (is_same t.side from)
      where
        none : (b : Bool) → (b && false) ≡ false
        none true = refl
        none false = refl

    by : (e : AnyEvent)
        → (with_told (record { side = t.side; lcid = t.lcid; event = e }) h).unacked from l ≡ h.unacked from l
    by (Acked e) = refl
    by (Unacked e) = ap (λ (b : Bool). if b then e ∷ h.unacked from l else h.unacked from l) at

pub all_elsewhere : (from : Side) (l : ℕ) (ts : List Told) (h : Histories) → AllByRecursion (IsElsewhere l) ts
    → (all_told histories ts h).unacked from l ≡ h.unacked from l
all_elsewhere from l [] h apart = refl
all_elsewhere from l (t ∷ ts) h apart =
    all_elsewhere from l ts (with_told t h) apart.1 ∙ one_elsewhere from l t h apart.0

-- so of both flows of the channel
pub stays_elsewhere : (side : Side) (l : ℕ) (ts : List Told) (h : Histories) → AllByRecursion (IsElsewhere l) ts
    → FlowsGoOn side l h (all_told histories ts h) (λ es. es) (λ es. es)
stays_elsewhere side l ts h apart =
    by_flows side l h (all_told histories ts h) (all_elsewhere side l ts h apart)
    (all_elsewhere (other side) l ts h apart)

module _ (l : ℕ) (side : Side) (lcid : ℕ) (apart : (lcid == l) ≡ false) where
  taken_elsewhere : (x : Option Layout) (count : Option ℕ) (len : ℕ)
      → AllByRecursion (IsElsewhere l) (taken_as x side lcid count len)
  taken_elsewhere (Some (layouts.Am pdcp.Srb)) count len = (apart, tt)
  taken_elsewhere (Some (layouts.Am (pdcp.Um bits))) count len = (apart, tt)
  taken_elsewhere (Some (layouts.Am (pdcp.Am bits))) count len = (apart, tt)
  taken_elsewhere (Some (layouts.Um rlc (pdcp.Um bits))) count len = (apart, tt)
  taken_elsewhere (Some (layouts.Um rlc pdcp.Srb)) count len = tt
  taken_elsewhere (Some (layouts.Um rlc (pdcp.Am bits))) count len = tt
  taken_elsewhere (Some layouts.Tm) count len = tt
  taken_elsewhere None count len = tt

  report_elsewhere : (x : Option Layout) (len : ℕ) → AllByRecursion (IsElsewhere l) (report_as x side lcid len)
  report_elsewhere (Some (layouts.Am pdcp.Srb)) len = tt
  report_elsewhere (Some (layouts.Am (pdcp.Um bits))) len = tt
  report_elsewhere (Some (layouts.Am (pdcp.Am bits))) len = (apart, tt)
  report_elsewhere (Some (layouts.Um rlc kind)) len = tt
  report_elsewhere (Some layouts.Tm) len = tt
  report_elsewhere None len = tt

  reorder_elsewhere : (x : Option Layout) (e : FlowEvent) (u : UmEvent)
      → AllByRecursion (IsElsewhere l) (reorder_as x side lcid e u)
  reorder_elsewhere (Some (layouts.Am kind)) e u = (apart, tt)
  reorder_elsewhere (Some (layouts.Um rlc kind)) e u = (apart, tt)
  reorder_elsewhere (Some layouts.Tm) e u = (apart, tt)
  reorder_elsewhere None e u = (apart, tt)

event_elsewhere : (kinds : List (Option Layout)) (more : Bool) (side : Side) (l : ℕ) (e : Event) → is_on l e ≡ false
    → AllByRecursion (IsElsewhere l) (told_by kinds more side e)
event_elsewhere kinds more side l (events.Take lcid count len) q =
    taken_elsewhere l side lcid q (slice_index_or kinds lcid None) count len
event_elsewhere kinds more side l (events.Report lcid fms bitmap) q =
    report_elsewhere l side lcid q (slice_index_or kinds lcid None) (length bitmap)
event_elsewhere kinds more side l (events.Start lcid Reorder) q =
    reorder_elsewhere l (other side) lcid q (slice_index_or kinds lcid None) ReorderStarted um.ReorderStarted
event_elsewhere kinds more side l (events.Start lcid Poll) q = tt
event_elsewhere kinds more side l (events.Start lcid Prohibit) q = tt
event_elsewhere kinds more side l (events.Expired lcid Reorder) q =
    reorder_elsewhere l (other side) lcid q (slice_index_or kinds lcid None) ReorderExpired um.ReorderExpired
event_elsewhere kinds more side l (events.Expired lcid Poll) q = (q, tt)
event_elsewhere kinds more side l (events.Expired lcid Prohibit) q = tt
event_elsewhere kinds more side l e q = tt

pub other_events_stay_away : OtherEventsStayAway
other_events_stay_away kinds more side l e h q =
    stays_elsewhere side l (told_by kinds more side e) h (event_elsewhere kinds more side l e q)

-- ---- events one behind the other

pub sizes_then : (sizes more : List ℕ) (es : List FlowEvent)
    → with_sizes more (with_sizes sizes es) ≡ with_sizes (sizes ++ more) es
sizes_then [] more es = refl
sizes_then (size ∷ sizes) more es = sizes_then sizes more (SduTaken size ∷ es)

reordering_then : (rs more : List Reordering) (es : List UmLifeEvent)
    → with_events (map event_of more) (with_events (map event_of rs) es) ≡ with_events (map event_of (rs ++ more)) es
reordering_then rs more es =
    sym (then_events (map event_of rs) (map event_of more) es)
    ∙ ap (λ (us : List UmEvent). with_events us es) (sym (map-append event_of rs more))

pub um_told_is_gathered : UmToldIsGathered
um_told_is_gathered kinds rlc bits more side l [] h known =
    let a = none_told side l h in
    record { sent_is = a.sent_is; come_is = a.come_is; own_stays = a.own_stays; back_stays = a.back_stays }
um_told_is_gathered kinds rlc bits more side l (e ∷ told') h known =
    by (is_on l e) refl
    (um_told_is_gathered kinds rlc bits more side l told' (all_told histories (told_by kinds more side e) h) known)
  where
    i : Histories
    i = all_told histories (told_by kinds more side e) h

    rest : List Event
    rest = told_on l told'

    by : (b : Bool) → is_on l e ≡ b
        → FlowsGoOn side l i (all_gathered kinds more side told' i) (with_sizes (sizes_in bits rest))
        (with_events (map event_of (reordering_in rest)))
        → FlowsGoOn side l h (all_gathered kinds more side told' i)
        (with_sizes (sizes_in bits (if b then e ∷ rest else rest)))
        (with_events (map event_of (reordering_in (if b then e ∷ rest else rest))))
    by true here a =
        flows_as side l h (all_gathered kinds more side told' i) _ _ _ _
        (λ es. sizes_then (sizes_told bits e) (sizes_in bits rest) es)
        (λ es. reordering_then (reordering_told e) (reordering_in rest) es)
        (flows_then side l h i (all_gathered kinds more side told' i) (with_sizes (sizes_told bits e))
        (with_sizes (sizes_in bits rest)) (with_events (map event_of (reordering_told e)))
        (with_events (map event_of (reordering_in rest)))
        (um_events_are_gathered kinds rlc bits more side l e h known here) a)
    by false away a =
        let b = other_events_stay_away kinds more side l e h away in
        record {
          sent_is = a.sent_is ∙ ap (with_sizes (sizes_in bits rest)) b.sent_is;
          come_is = a.come_is ∙ ap (with_events (map event_of (reordering_in rest))) b.come_is;
          own_stays = a.own_stays ∙ b.own_stays;
          back_stays = a.back_stays ∙ b.back_stays;
        }
