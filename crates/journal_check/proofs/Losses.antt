-- Whether the losses of an unacknowledged flow were long is what its history says.
use Rattle.std.proofs.Common.{◌≡◌, ◌<◌, ◌≤◌, ◌^◌, ◌==◌, ℕ, Bool, true, false, not, if◌then◌else◌, List, [], ◌∷◌}
use Rattle.std.proofs.Common.{Option, Some, None, refl, ap, sym, ◌∙◌, lit<}
use Rattle.std.specs.Prelude.{option_map}
use Rattle.l2_types.specs.declared.channel.Kind.TheVariants as bearers
use Rattle.l2_types.specs.declared.side.Side.{Side}
use Rattle.l2_types.specs.declared.side.Side.TheVariants.{Nb, Ue}
use Rattle.mac_pdu.specs.declared.item.Direction.{Direction}
use Rattle.bearer_types.specs.declared.config.BearerConfig.{BearerConfig}
use Rattle.bearer_types.specs.declared.event.Event.{Event}
use Rattle.bearer_types.specs.declared.event.Event.TheVariants as events
use Rattle.bearer_types.specs.Sides.{other, sender_of}
use Rattle.air_record.specs.declared.record.Record.{Record}
use Rattle.air_record.specs.declared.record.Record.TheVariants as records
use Rattle.air_record.specs.declared.record.State.{State}
use Rattle.air_record.specs.declared.record.State.TheVariants as states
use Rattle.air_text.specs.Groups.{Group}
use Rattle.promises.specs.Configs.{config_of}
use Rattle.journal_um.specs.declared.pieces.JoinedSdu.{JoinedSdu}
use Rattle.journal_um.specs.UmFlow.{UmFlow, is_long}
use Rattle.journal_um.specs.UmLosses.{is_long_in}
use Rattle.journal_um.specs.UmWindow.{width_of}
use Rattle.journal_um.proofs.Accounts.{um_accounts_are_true}
use Rattle.journal_flows.specs.Gathering.{MayTake}
use Rattle.journal_flows.specs.Accounts.{Keeping, um_flow_at, all_kept, after_line, after_record, after_group}
use Rattle.journal_flows.specs.Accounts.{after_records, kept_within}
use Rattle.journal_flows.specs.FlowsTold.{um_flows_told}
use Rattle.journal_flows.specs.Laws.{bearer_on, um_flow_as, um_flow_by, Deed, GoesLine, GoesRecord, GoesEnd, kept_by}
use Rattle.journal_flows.specs.Laws.{before_taking, taken_of}
use Rattle.journal_flows.specs.UmPdus.{UmFlowEvent, come_in}
use Rattle.journal_flows.proofs.Groups.{um_flows_are_told}
use Rattle.journal_flows.proofs.Taking.{taking_is_free}
use Rattle.journal_edge.specs.EdgeFlow.{EdgeFlow}
use Rattle.journal_edge.specs.EdgeChecking.{EdgeChecking, Beside, ready_at, left_by, slots_leave, slot_at, event_leaves}
use Rattle.journal_edge.specs.EdgeChecking.{leaves, is_state_of, is_state, beside_record}
use Rattle.journal_edge.specs.EdgeChecking.{beside_records, beside_line, all_beside}
use Rattle.journal_edge.proofs.Taking.{kept_whole, takes_all}
use Rattle.journal_edge.proofs.Walks.{all_read_so}
use Rattle.journal_check.specs.Soundness.{may_take, are_long, is_told}
use Rattle.journal_check.specs.Soundness as sums
use Rattle.journal_check.specs.Checked.{AreRuled}
use Rattle.journal_check.proofs.Ruled.{same_bearer, low_bearer}

-- ---- the accounts, of which SDUs were taken

record IsTaken (k whole : Keeping) : Type 0 where
  deeds : List Deed
  kept : k ≡ kept_by deeds
  whole_is : kept_whole deeds ≡ whole

taken_more : (deed : Deed) (f : Keeping → Keeping) (k whole : Keeping)
    → ((deeds : List Deed) → kept_by (deed ∷ deeds) ≡ f (kept_by deeds))
    → ((deeds : List Deed) → kept_whole (deed ∷ deeds) ≡ f (kept_whole deeds))
    → IsTaken k whole → IsTaken (f k) (f whole)
taken_more deed f k whole does goes h = record {
  deeds = deed ∷ h.deeds;
  kept = ap f h.kept ∙ sym (does h.deeds);
  whole_is = goes h.deeds ∙ ap f h.whole_is;
}

slot_leaves : (from : Side) (lcid : ℕ) (slot : Option EdgeFlow) (k whole : Keeping) → IsTaken k whole
    → IsTaken (left_by from lcid k slot) whole
slot_leaves from lcid None k whole h = h
slot_leaves from lcid (Some f) k whole h =
    let r = takes_all from lcid (ready_at from lcid (kept_by h.deeds)) h.deeds refl in
    record {
      deeds = r.deeds;
      kept = ap (λ (k : Keeping). left_by from lcid k (Some f)) h.kept ∙ r.kept;
      whole_is = r.whole ∙ h.whole_is;
    }

event_left : (side : Side) (event : Event) (c : EdgeChecking) (k whole : Keeping) → IsTaken k whole
    → IsTaken (event_leaves side event k c) whole
event_left side (events.Up lcid sdu) c k whole h =
    slot_leaves (other side) lcid (slot_at (other side) lcid c) k whole h
event_left side event c k whole h = h

record_left : (one : Record) (c : EdgeChecking) (k whole : Keeping) → IsTaken k whole → IsTaken (leaves one k c) whole
record_left (records.Of side event) c k whole h = event_left side event c k whole h
record_left one c k whole h = h

slots_left : (from : Side) (lcid : ℕ) (slots : List (Option EdgeFlow)) (k whole : Keeping) → IsTaken k whole
    → IsTaken (slots_leave from lcid k slots) whole
slots_left from lcid slots k whole h =
    let r = all_read_so from lcid slots h.deeds in
    record {
      deeds = r.deeds;
      kept = ap (λ (k : Keeping). slots_leave from lcid k slots) h.kept ∙ r.kept;
      whole_is = r.whole ∙ h.whole_is;
    }

records_left : (may : MayTake) (past : List Group) (before told : List Record) (b : Beside) (whole : Keeping)
    → IsTaken b.kept whole
    → IsTaken (beside_records may past before told b).kept (after_records may past before told whole)
records_left may past before [] b whole h = h
records_left may past before (one ∷ told) b whole h =
    let more = may past before one in
    records_left may past (one ∷ before) told (beside_record (may past before one) one b)
    (after_record (may past before one) one whole)
    (record_left one b.checked (after_record more one b.kept) (after_record more one whole)
    (taken_more (GoesRecord more one) (after_record more one) b.kept whole (λ deeds. refl) (λ deeds. refl) h))

group_left : (may : MayTake) (now : Group) (past : List Group)
    → IsTaken (all_beside may past).kept (all_kept may past)
    → IsTaken (all_beside may (now ∷ past)).kept (all_kept may (now ∷ past))
group_left may now past h =
    let begins = beside_line now.line (all_beside may past) in
    let b = beside_records may past [] now.events (beside_line now.line (all_beside may past)) in
    let whole = after_group (kept_within may now past (all_kept may past)) in
    let behind = records_left may past [] now.events begins (after_line now.line (all_kept may past))
    (taken_more (GoesLine now.line) (after_line now.line) (all_beside may past).kept (all_kept may past)
    (λ deeds. refl) (λ deeds. refl) h) in
    let ended = taken_more GoesEnd after_group b.kept (kept_within may now past (all_kept may past))
    (λ deeds. refl) (λ deeds. refl) behind in
    slots_left Ue 0 b.checked.ue (slots_leave Nb 0 (after_group b.kept) b.checked.nb) whole
    (slots_left Nb 0 b.checked.nb (after_group b.kept) whole ended)

are_taken : (may : MayTake) (past : List Group) → IsTaken (all_beside may past).kept (all_kept may past)
are_taken may [] = record { deeds = []; kept = refl; whole_is = refl }
are_taken may (now ∷ past) = group_left may now past (are_taken may past)

-- ---- losses

abbrev long_in : Option UmFlow → Option Bool
long_in o = option_map (λ (f : UmFlow). is_long f) o

-- they don't hang on the SDUs that were taken
before_long : (taken : List JoinedSdu) (o : Option UmFlow) → long_in (option_map (before_taking taken) o) ≡ long_in o
before_long taken None = refl
before_long taken (Some f) = refl

long_kept : (may : MayTake) (past : List Group) (from : Side) (lcid : ℕ) → lcid ≤ 10
    → long_in (um_flow_at from lcid (all_beside may past).kept.journal.flows)
    ≡ long_in (um_flow_by (bearer_on lcid past) (um_flows_told may past from lcid))
long_kept may past from lcid low =
    let h = are_taken may past in
    let free = (taking_is_free h.deeds from lcid low).unacked in
    ap (λ (k : Keeping). long_in (um_flow_at from lcid k.journal.flows)) h.kept
    ∙ sym (before_long (taken_of from lcid h.deeds) (um_flow_at from lcid (kept_by h.deeds).journal.flows))
    ∙ ap long_in free
    ∙ ap (λ (k : Keeping). long_in (um_flow_at from lcid k.journal.flows)) h.whole_is
    ∙ ap long_in (um_flows_are_told may past from lcid low).behind

-- ---- a `sum` record

-- by whether losses were long, of an unacknowledged flow
abbrev state_by : Option Bool → State → Bool
state_by None state = true
state_by (Some long) state = sums.is_state state long

flip : (b : Bool) → (if b then false else true) ≡ not b
flip true = refl
flip false = refl

state_of : (o : Option UmFlow) (state : State) → is_state_of o state ≡ state_by (long_in o) state
state_of None state = refl
state_of (Some f) states.Short = flip (is_long f)
state_of (Some f) states.Long = refl
state_of (Some f) state = refl

wide : (bits : ℕ) → 0 < width_of bits
wide bits = by (bits == 5)
  where
    by : (b : Bool) → 0 < (if b then 16 else 512)
    by true = lit< tt
    by false = lit< tt

told_as : (config : BearerConfig) (es : List UmFlowEvent) (state : State)
    → state_by (long_in (um_flow_by (Some config) es)) state
    ≡ is_told config.kind state (is_long_in (width_of config.rlc_bits) (2 ^ config.pdcp_bits) (come_in es))
told_as config es state = by config.kind
  where
    by : (kind : _) → state_by (long_in (um_flow_as kind config es)) state
        ≡ is_told kind state (is_long_in (width_of config.rlc_bits) (2 ^ config.pdcp_bits) (come_in es))
    by bearers.Tm = refl
    by bearers.Srb = refl
    by bearers.Am = refl
    by bearers.Um = ap (λ (b : Bool). sums.is_state state b)
        (um_accounts_are_true (width_of config.rlc_bits) (2 ^ config.pdcp_bits) (come_in es)
        (wide config.rlc_bits)).long

-- it tells truly exactly where the flow's history says so
pub state_is : (past : List Group) (direction : Direction) (lcid : ℕ) (config : BearerConfig) (state : State)
    → AreRuled past → config_of lcid past ≡ Some config
    → is_state direction lcid state (all_beside (may_take past) past).kept
    ≡ is_told config.kind state (are_long (sender_of direction) lcid config past)
state_is past direction lcid config state ruled is =
    let from = sender_of direction in
    let may = may_take past in
    state_of (um_flow_at (sender_of direction) lcid (all_beside (may_take past) past).kept.journal.flows) state
    ∙ ap (λ (o : Option Bool). state_by o state)
    (long_kept may past (sender_of direction) lcid (low_bearer lcid past config ruled is))
    ∙ ap (λ (o : Option BearerConfig).
    state_by (long_in (um_flow_by o (um_flows_told (may_take past) past (sender_of direction) lcid))) state)
    (sym (same_bearer lcid past) ∙ is)
    ∙ told_as config (um_flows_told may past (sender_of direction) lcid) state
