-- Group by group, as many SDUs wait by what is gathered of a channel with signalling bearers as at its ends.
use Rattle.std.proofs.Common.{◌≡◌, ◌<◌, ◌≤◌, ℕ, ◌+◌, ◌^◌, ◌==◌, Bool, true, false, if◌then◌else◌, List, [], ◌∷◌}
use Rattle.std.proofs.Common.{◌++◌, length, Option, Some, None, refl, ap, sym, subst, ◌∙◌, ◌⊎◌, inl, inr, ◌&&◌, arith}
use Rattle.std.specs.List.{AllByRecursion, flat_map}
use Rattle.std.proofs.lemmas.Bool.{eq-eqb}
use Rattle.air_record.specs.declared.line.Line.{Line}
use Rattle.air_record.specs.declared.line.Line.TheVariants as lines
use Rattle.air_record.specs.declared.record.Record.{Record}
use Rattle.air_record.specs.declared.record.Record.TheVariants as records
use Rattle.air_record.specs.declared.submission.Submission.{Submission}
use Rattle.air_record.specs.Submissions.{submitted_by}
use Rattle.air_text.specs.Groups.{Group}
use Rattle.bearer.specs.Bearer.{flow_of}
use Rattle.bearer.specs.Acknowledged.State.{fresh as fresh_am}
use Rattle.bearer.specs.declared.flow.Flow.{Flow}
use Rattle.bearer.specs.declared.flow.Flow.TheVariants.{Am}
use Rattle.bearer_types.specs.Configs.{IsChannelOf}
use Rattle.bearer_types.specs.Sides.{is_same}
use Rattle.bearer_types.specs.declared.config.BearerConfig.{BearerConfig}
use Rattle.bearer_types.specs.declared.event.Event.TheVariants as events
use Rattle.eps_sec.specs.declared.Key.{Key}
use Rattle.eps_sec.specs.declared.Keys.{Keys}
use Rattle.air_link.specs.Lines.{no_place}
use Rattle.air_link.specs.Link.{Link, end_of}
use Rattle.l2_bits.specs.declared.fault.SubmitRefusal.{SubmitRefusal}
use Rattle.l2_node.specs.End.{End}
use Rattle.l2_node.specs.Submitting.{refusal}
use Rattle.l2_types.specs.declared.channel.Kind.{Kind}
use Rattle.l2_types.specs.declared.channel.Kind.TheVariants as bearers
use Rattle.l2_types.specs.declared.side.Side.{Side}
use Rattle.l2_types.specs.declared.side.Side.TheVariants.{Nb, Ue}
use Rattle.pdcp_pdu.specs.declared.pdu.PdcpKind.{PdcpKind}
use Rattle.pdcp_pdu.specs.declared.pdu.PdcpKind.TheVariants as pdcp
use Rattle.promises.specs.Blocks.{kinds}
use Rattle.promises.specs.Configs.{config_of}
use Rattle.promises.specs.Delivery.{forges}
use Rattle.promises.specs.Events.{told_on}
use Rattle.promises.specs.Flows.{looped_at}
use Rattle.promises.specs.Parts.{is_handover}
use Rattle.promises.specs.Records.{events_of}
use Rattle.journal_flows.specs.FlowsTold.{Histories, histories as flows, no_events, is_at}
use Rattle.journal_flows.specs.Gathering.{Journal, behind, behind_line, behind_end, behind_records, within}
use Rattle.journal_flows.specs.Gathering as gathering
use Rattle.journal_flows.specs.Laws.{bearer_on}
use Rattle.journal_given.specs.Giving.{waits_at, all_given}
use Rattle.journal_given.specs.Supplies.{histories}
use Rattle.law_bearer.specs.AnyBearer.Calls.{Restart, goes}
use Rattle.law_bearer.specs.AnyBearer.Calls.{Call as BearerCall, Submit as Submits}
use Rattle.law_bearer.specs.AnyBearer.Queue.{submits}
use Rattle.law_deliver.specs.AmChannel.Delivery.{HasBegun}
use Rattle.law_deliver.specs.AmChannel.Lives.{AirStep, InLife, Moves, AreLiving, lives, lives_on, end_at, calls_at}
use Rattle.law_deliver.specs.AmFlow.Air.{Air, Calls, happens, outset, IsGiven}
use Rattle.law_deliver.specs.AmFlow.Channels.{submits_of}
use Rattle.law_deliver.specs.AmFlow.Ups.{calls_over, tells_over}
use Rattle.law_deliver.proofs.AmChannel.Ends.{step_end}
use Rattle.law_deliver.proofs.AmFlow.Ups.{Stands, the_end}
use Rattle.law_deliver.proofs.SrbChannel.Queue.{begins_first}
use Rattle.law_given.specs.BearerRecords.{IsRightOn, has_data, is_data, left_by, waits_first}
use Rattle.law_given.specs.OneBearer.{waits_submits, waits_by_line}
use Rattle.law_given.proofs.BearerRecordsWaits.{waits_by_records}
use Rattle.law_given.proofs.GivenRecords.{AllRight, any_right, left_none, none_before}
use Rattle.law_given.proofs.Tied.{calls_of_step}
use Rattle.law_given.proofs.WaitingBearers.{first_queueing, restarts_queueing}
use Rattle.law_given.proofs.WaitingRecords.{left_by_events}
use Rattle.law_node.specs.Calls.{Call, Move, Submit, run_end}
use Rattle.law_node.specs.Holding.{flow}
use Rattle.law_node.proofs.Queueing.{waits_in}
use Rattle.law_run.specs.Order.{IsRight, KeepsOrder}
use Rattle.law_run.specs.TwoEnds.Along.{at_side}
use Rattle.law_run.specs.TwoEnds.Lived.{IsAcknowledged}
use Rattle.law_run.specs.TwoEnds.On.{IsOn}
use Rattle.law_run.proofs.BearerWalk.{adds_one, comes}
use Rattle.law_run.proofs.DrainTracks.{links_track}
use Rattle.law_run.proofs.EmptyLists.{parts_empty}
use Rattle.law_run.proofs.Flowing.{looped_then}
use Rattle.law_run.proofs.Past.{link_behind}
use Rattle.law_run.proofs.Unlooped.{none_looped}
use Rattle.law_run.specs.TwoEnds.Along.{AreAlong}
use Rattle.law_run.specs.TwoEnds.Logs.{Flight, flight_in, no_flight}
use Rattle.law_run.specs.TwoEnds.Staying.{AreInLife}
use Rattle.law_sound.specs.AgreeLaws.{AgreeOn, AnswerAlike}
use Rattle.law_sound.specs.BesideLaws.{ReadRecord, behind_all}
use Rattle.law_sound.specs.LivedFails.{HaveComeNew}
use Rattle.law_sound.specs.LivedHistories.{Moment}
use Rattle.law_sound.specs.LoggedRecords.{records_of}
use Rattle.law_sound.specs.StepReading.{read_as}
use Rattle.law_sound.proofs.AgreeJournals.{journals_agree}
use Rattle.law_sound.proofs.Delivering.{bearer_is}
use Rattle.law_sound.proofs.GatheredFails.{FailsSaid, fails_still, begins_fail, moves_fail}
use Rattle.law_sound.proofs.GivenAnswers.{TellsNoExpiry, none_answer, unexpired_answer}
use Rattle.law_sound.proofs.GivenCalls.{submits_over}
use Rattle.law_sound.proofs.GivenStepFacts.{stands_at, step_there}
use Rattle.law_sound.proofs.GivenBetween.{may}
use Rattle.law_sound.proofs.GivenLife.{IsSaid, all_said}
use Rattle.law_sound.proofs.GroupBearers.{of_kind}
use Rattle.law_sound.proofs.GroupCarrying.{IsReadBehind, StaysCarrying, stays_carrying, is_submission, config_stays}
use Rattle.law_sound.proofs.GroupCarrying.{same_alike, HandsIn, Refuses, submits_carrying}
use Rattle.law_sound.proofs.GroupReading.{outset_moment, begins, moved_keys, moves, at_end}
use Rattle.law_sound.proofs.LivedFails.{AreThere, lived_there}
use Rattle.law_sound.proofs.MovingFails.{lives_come_new}
use Rattle.law_sound.proofs.StepCarrying.{Carries}
use Rattle.law_sound.proofs.StepRecords.{records_read}
use Rattle.law_sound.proofs.Still.{IsGone, AreGone}
use Rattle.law_sound.proofs.WaitingSteps.{IsSignallingAt, waiting_at, IsWaitingAt, many_wait}
use Rattle.law_sound.proofs.WaitingSteps.{queue_goes_on, bearer_goes_on, signals_on, waiting_silent, waiting_step}

-- ---- it goes on with each step, and each record is right

module _ (l : ℕ) (low : l ≤ 10) (newer : List Group) (now : Group) (past : List Group)
    (none : submitted_by now.line ≡ None) (plain : has_data (bearer_on l (now ∷ past)) ≡ false) where
  all_right : (xs told : List Record) → AllRight l low newer now past none told xs
  all_right [] told = tt
  all_right (one ∷ xs) told = (
    subst (IsRightOn l one) (sym (none_before l now past told one low plain)) (any_right l one),
    all_right xs (told ++ one ∷ []),
  )

  abbrev pub Waits : List Record → Air → Moment → Journal Histories → Type 0
  Waits told a m j = IsWaitingAt l low newer now past none plain told a j

  abbrev pub Says : List Record → ReadRecord → Type 0
  Says told x = IsSaid l low newer now past none told x

  pub carries_waiting : (kind : PdcpKind) → Carries l kind (kinds (now ∷ past)) now.events Waits Says
  carries_waiting kind = record {
    one_step = λ s a m j told xs others sent given octets are logs looped flight r x w.
        let h = waiting_step l low newer now past none plain kind a s m j told xs others sent given logs looped r x w in
        (h.0, all_said l low newer now past none told x.reads (all_right (records_of x.reads) told) h.1);
    silent = λ a m j told xs others sent octets are logs loops r w.
        let h = waiting_silent l low newer now past none plain a j told xs sent logs loops w in
        (h.0, all_said l low newer now past none told xs (all_right (records_of xs) told) h.1);
  }

-- ---- behind groups

-- of a whole journal
pub record IsWaitingBehind (all : List Group) (l : ℕ) (past : List Group) (a : Air) (j : Journal Histories)
    : Type 0 where
  pub signalling : (side : Side) → IsSignallingAt l side a
  pub waits : (side : Side) → waits_at side l (all_given histories past).waits ≡ waiting_at l side a
  pub agree : AgreeOn l (behind flows no_events (may all) past) j

pub record WaitsBehind (all : List Group) (c : BearerConfig) (l : ℕ) (past : List Group) : Type 0 where
  pub read : IsReadBehind (may all) c l past
  pub waiting : IsWaitingBehind all l past read.air read.journal
  pub fails : FailsSaid (may all) c l past

waits_kept : (l : ℕ) (line : Line) (n : ℕ) → adds_one l line ≡ false → waits_by_line l line n ≡ n
waits_kept l (lines.Bearer config options) n other = ap (λ (here : Bool). if here then 0 else n) other
waits_kept l line n other = refl

module _ (l : ℕ) (low : l ≤ 10) (newer : List Group) (now : Group) (past : List Group)
    (none : submitted_by now.line ≡ None) (plain : has_data (bearer_on l (now ∷ past)) ≡ false) where
  -- before the records of a group
  pub first_waits : (a : Air) (j : Journal Histories) → adds_one l now.line ≡ false
      → IsWaitingBehind (newer ++ now ∷ past) l past a j
      → IsWaitingAt l low newer now past none plain [] a (behind_line flows now.line j)
  first_waits a j other w = record {
    signalling = w.signalling;
    waits = λ side. (waits_by_records side l now past low).begins ∙ waits_kept l now.line _ other ∙ w.waits side;
    agree = (journals_agree l _ _ w.agree).lines now.line;
  }

  -- and behind it
  pub last_waits : (a : Air) (j : Journal Histories) → gathering.is_handover now.line ≡ false
      → IsWaitingAt l low newer now past none plain now.events a j
      → IsWaitingBehind (newer ++ now ∷ past) l (now ∷ past) a j
  last_waits a j here w = record {
    signalling = w.signalling;
    waits = λ side.
        (waits_by_records side l now past low).ends
        ∙ (ap (λ (b : Bool). if b then 0 else waits_submits side l (left_by now.line now.events)
        (waits_first side l now past now.events)) here
        ∙ (ap (λ (sdu : Option Submission). waits_submits side l sdu (waits_first side l now past now.events))
        (left_none l low newer now past none now.events)
        ∙ w.waits side));
    agree = subst (λ (b : Bool). AgreeOn l (behind_end flows b
        (within flows (may (newer ++ now ∷ past)) now past
        (behind flows no_events (may (newer ++ now ∷ past)) past))) j)
        (sym here) w.agree;
  }

-- the line is neither a handover, nor a submission, nor that of the channel's own bearers
pub stays_waiting : (newer : List Group) (c : BearerConfig) (l : ℕ) (past : List Group) (g : Group) → IsRight past g
    → KeepsOrder past → adds_one l g.line ≡ false → forges g.line ≡ false → is_handover g.line ≡ false
    → gathering.is_handover g.line ≡ false → is_submission g.line ≡ false → submitted_by g.line ≡ None
    → c.kind ≡ bearers.Srb → WaitsBehind (newer ++ g ∷ past) c l past → WaitsBehind (newer ++ g ∷ past) c l (g ∷ past)
stays_waiting newer c l past g right order other own here there unsubmitted none signalling h =
    let all = newer ++ g ∷ past in
    let low : l ≤ 10 = h.read.low in
    let config : config_of l (g ∷ past) ≡ Some c = config_stays l g.line (config_of l past) other ∙ h.read.is in
    let plain : has_data (bearer_on l (g ∷ past)) ≡ false =
    ap has_data (bearer_is l (g ∷ past) ∙ config) ∙ ap is_data signalling in
    let x : StaysCarrying (Waits l low newer g past none plain) (Says l low newer g past none plain)
    (may all) c l g past
    h.read.journal =
    stays_carrying (Waits l low newer g past none plain) (Says l low newer g past none plain) (may all) c l past g right
    order other own here unsubmitted h.read
    (carries_waiting l low newer g past none plain (of_kind c.kind c.pdcp_bits))
    (first_waits l low newer g past none plain h.read.air h.read.journal other h.waiting) in
    let waiting = last_waits l low newer g past none plain x.behind.air x.behind.journal there x.within in
    record {
      read = x.behind;
      waiting = waiting;
      fails = fails_still (may all) c l g past x.behind.newest h.read.journal x.behind.journal there h.waiting.agree
          waiting.agree x.first_is x.journal_is;
    }

-- ---- the bearers come: nothing waits

-- by the line
pub waits_begin : (side : Side) (l : ℕ) (now : Group) (past : List Group) → l ≤ 10 → (config : BearerConfig)
    (options : _) → now.line ≡ lines.Bearer config options → config.channel.lcid ≡ l
    → waits_first side l now past [] ≡ 0
waits_begin side l now past low config options line lcid =
    let n = waits_at side l (all_given histories past).waits in
    (waits_by_records side l now past low).begins
    ∙ (ap (λ (x : Line). waits_by_line l x n) line
    ∙ ap (λ (here : Bool). if here then 0 else n) (eq-eqb config.channel.lcid l lcid))

begun_at : (c : BearerConfig) (keys : Keys) (side : Side) (l : ℕ) (a : Air) → c.first ≤ 2 ^ 32
    → flow l (end_at side a) ≡ flow_of bearers.Srb c keys side → IsSignallingAt l side a
begun_at c keys side l a few is = record {
  bearer = fresh_am c pdcp.Srb keys side;
  bearer_is = is;
  queueing = first_queueing c keys side few;
}

pub signalling_begins : (side : Side) (l : ℕ) (c : BearerConfig) (keys : Keys) (a : Air) → c.kind ≡ bearers.Srb
    → c.first ≤ 2 ^ 32 → HasBegun side l c keys (end_at side a)
    → IsSignallingAt l side a × (waiting_at l side a ≡ 0)
signalling_begins side l c keys a kind few h = (
  begun_at c keys side l a few (h.bearer_is ∙ ap (λ (k : Kind). flow_of k c keys side) kind),
  ap (length {A = List ℕ}) (begins_first side l c keys (end_at side a) (inr kind) h).none_waits,
)

-- ---- both ends move: what waits is dropped

pub waits_dropped : (side : Side) (l : ℕ) (now : Group) (past : List Group) → l ≤ 10
    → gathering.is_handover now.line ≡ true → waits_at side l (all_given histories (now ∷ past)).waits ≡ 0
waits_dropped side l now past low over =
    (waits_by_records side l now past low).ends
    ∙ ap (λ (b : Bool). if b then 0 else waits_submits side l (left_by now.line now.events)
    (waits_first side l now past now.events)) over

pub signalling_moves : (side : Side) (l : ℕ) (a : Air) (keys : Keys) → Stands side l (end_at side a)
    → IsSignallingAt l side a
    → IsSignallingAt l side (lives_on a (Moves keys)) × (waiting_at l side (lives_on a (Moves keys)) ≡ 0)
signalling_moves side l a keys st h =
    let n = restarts_queueing h.bearer keys h.queueing in
    let is : flow l (end_at side (lives_on a (Moves keys))) ≡ Am n.next =
    ap (flow l) (step_end side a (Moves keys))
    ∙ (ap (λ (cs : List Call). flow l (run_end cs (end_at side a))) (calls_are side)
    ∙ ((the_end side l (end_at side a) keys st).bearer_is
    ∙ (ap (λ (f : Flow). goes f (Restart keys)) h.bearer_is ∙ n.next_is))) in (
      record { bearer = n.next; bearer_is = is; queueing = n.queueing },
      ap (λ (f : Flow). length (waits_in f)) is ∙ ap (length {A = List ℕ}) n.none_waits,
    )
  where
    calls_are : (side : Side) → calls_at side a (Moves keys) ≡ Move keys ∷ []
    calls_are Nb = refl
    calls_are Ue = refl

-- ---- the groups of such lines, and of one that submits an SDU

module _ (l : ℕ) (newer : List Group) (now : Group) (past : List Group) where
  -- where the records of a group are answered alike, what is gathered agrees behind it
  group_agrees : (reads : List ReadRecord) (j : Journal Histories) (over : Bool) → records_of reads ≡ now.events
      → AnswerAlike l (may (newer ++ now ∷ past)) past [] reads
      → AgreeOn l (behind flows no_events (may (newer ++ now ∷ past)) past) j
      → AgreeOn l (behind_end flows over
      (within flows (may (newer ++ now ∷ past)) now past (behind flows no_events (may (newer ++ now ∷ past)) past)))
      (behind_end flows over (behind_all (kinds (now ∷ past)) reads (behind_line flows now.line j)))
  group_agrees reads j over are alike agree =
      let begun = (journals_agree l _ _ agree).lines now.line in
      let told =
      (journals_agree l _ _ begun).all (kinds (now ∷ past)) (may (newer ++ now ∷ past)) past [] reads alike in
      (journals_agree l _ _
      (subst (λ (zs : List Record). AgreeOn l
      (behind_records flows (may (newer ++ now ∷ past)) past (kinds (now ∷ past)) [] zs
      (behind_line flows now.line (behind flows no_events (may (newer ++ now ∷ past)) past)))
      (behind_all (kinds (now ∷ past)) reads (behind_line flows now.line j))) are told)).ends over

  -- where its records tell of no end
  silent_agrees : (reads : List ReadRecord) (j : Journal Histories) → records_of reads ≡ now.events
      → ((side : Side) → events_of side now.events ≡ [])
      → AgreeOn l (behind flows no_events (may (newer ++ now ∷ past)) past) j
      → AgreeOn l (within flows (may (newer ++ now ∷ past)) now past
      (behind flows no_events (may (newer ++ now ∷ past)) past))
      (behind_all (kinds (now ∷ past)) reads (behind_line flows now.line j))
  silent_agrees reads j are untold agree =
      group_agrees reads j false are
      (none_answer l (may (newer ++ now ∷ past)) past [] reads
      (λ side. ap (told_on l) (ap (events_of side) are ∙ untold side))) agree

same_agrees : (l : ℕ) (j : Journal Histories) → AgreeOn l j j
same_agrees l j = record { alike = same_alike j; same = λ side. refl }

-- the bearers come, and nothing is told
pub begins_waiting : (newer : List Group) (past : List Group) (g : Group) (c : BearerConfig) (options : _)
    → IsRight past (record g { line = lines.Bearer c options }) → KeepsOrder past → c.kind ≡ bearers.Srb
    → WaitsBehind (newer ++ record g { line = lines.Bearer c options } ∷ past) c c.channel.lcid
    (record g { line = lines.Bearer c options } ∷ past)
begins_waiting newer past g c options right order kind =
    let now : Group = record g { line = lines.Bearer c options } in
    let all = newer ++ now ∷ past in
    let l = c.channel.lcid in
    let b = begins (may all) past g c options right order (subst IsAcknowledged (sym kind) tt) in
    let x = comes past g c options right order in
    let there = link_behind (now ∷ past) in
    let low : l ≤ 10 = b.behind.low in
    let begun = λ (side : Side).
    signalling_begins side l c x.keys (outset there.nb there.ue) kind (omega (arith, x.first))
    (at_end side there (λ s e. HasBegun s l c x.keys e) (x.begun side)) in
    let waiting : IsWaitingBehind all l (now ∷ past) b.behind.air b.behind.journal = record {
      signalling = λ side. subst (IsSignallingAt l side) (sym b.air_is) (begun side).0;
      waits = λ side.
          (waits_by_records side l now past low).ends
          ∙ (ap (λ (told : List Record). waits_submits side l (left_by now.line told)
          (waits_first side l now past told))
          b.none
          ∙ (waits_begin side l now past low c options refl refl
          ∙ sym (ap (waiting_at l side) b.air_is ∙ (begun side).1)));
      agree = subst (λ (j : Journal Histories). AgreeOn l (behind flows no_events (may all) (now ∷ past)) j)
          (sym b.journal_is)
          (subst (λ (told : List Record). AgreeOn l
          (behind_records flows (may all) past (kinds (now ∷ past)) [] told
          (behind_line flows now.line (behind flows no_events (may all) past)))
          (behind_line flows now.line (behind flows no_events (may all) past))) (sym b.none)
          (same_agrees l _));
    } in
    record {
      read = b.behind;
      waiting = waiting;
      fails = begins_fail (may all) past g c options b waiting.agree;
    }

-- ---- a line that submits an SDU

one_if : (here : Bool) (octets : List ℕ) → (if here then Submits octets ∷ [] else []) ++ []
    ≡ (if here then Submits octets ∷ [] else [])
one_if true octets = refl
one_if false octets = refl

own_submits : (l lcid : ℕ) (octets : List ℕ) (e : End) → refusal lcid octets e ≡ None
    → calls_over l (Submit lcid octets ∷ []) e ≡ (if lcid == l then Submits octets ∷ [] else [])
own_submits l lcid octets e none =
    ap (λ (r : Option SubmitRefusal). submits_of r (lcid == l) octets ++ []) none ∙ one_if (lcid == l) octets

-- so many SDUs more
count_if : (here : Bool) (octets : List ℕ)
    → length (flat_map submits (if here then Submits octets ∷ [] else [])) ≡ (if here then 1 else 0)
count_if true octets = refl
count_if false octets = refl

none_told : (here : Bool) (octets : List ℕ) (l : ℕ) (f : Flow)
    → tells_over l f (if here then Submits octets ∷ [] else []) ≡ []
none_told true octets l f = refl
none_told false octets l f = refl

calls_handed : (l : ℕ) (a : Air) (side z : Side) (lcid : ℕ) (octets : List ℕ)
    → refusal lcid octets (end_at side a) ≡ None
    → calls_of_step l z a (InLife (at_side side (Calls (Submit lcid octets))))
    ≡ (if is_at side lcid z l then Submits octets ∷ [] else [])
calls_handed l a Nb Nb lcid octets taken = own_submits l lcid octets a.nb.end taken
calls_handed l a Ue Ue lcid octets taken = own_submits l lcid octets a.ue.end taken
calls_handed l a Nb Ue lcid octets taken = refl
calls_handed l a Ue Nb lcid octets taken = refl

one_more_if : (here : Bool) (n : ℕ) → (if here then n + 1 else n) ≡ n + (if here then 1 else 0)
one_more_if true n = refl
one_more_if false n = omega arith

-- as many wait at a side behind it
handed_waits : (l : ℕ) (a : Air) (side z : Side) (lcid : ℕ) (octets : List ℕ)
    (given : IsGiven l a (at_side side (Calls (Submit lcid octets)))) (new : HaveComeNew l a) (there : AreThere l a)
    → refusal lcid octets (end_at side a) ≡ None → IsSignallingAt l z a
    → waiting_at l z (happens a (at_side side (Calls (Submit lcid octets))))
    ≡ (if is_at side lcid z l then waiting_at l z a + 1 else waiting_at l z a)
handed_waits l a side z lcid octets given new there taken h =
    let s = at_side side (Calls (Submit lcid octets)) in
    let here = is_at side lcid z l in
    let q = queue_goes_on l a s given new there z h in
    let calls = calls_handed l a side z lcid octets taken in
    let last = many_wait l z (happens a s) q.last (bearer_goes_on l a s given new there z h) in
    let was = many_wait l z a h.bearer h.bearer_is in
    let count = q.count in
    let told = ap left_by_events (ap (tells_over l (Am h.bearer)) calls ∙ none_told here octets l (Am h.bearer)) in
    let more = ap (λ (cs : List BearerCall). length (flat_map submits cs)) calls ∙ count_if here octets in
    let all = one_more_if here (waiting_at l z a) in
    omega (arith, last, was, count, told, more, all)

-- the end of a link is that of the air
on_end : (side : Side) (k : Link) (a : Air) → IsOn k a → end_at side a ≡ end_of side k
on_end Nb k a h = h.nb_is
on_end Ue k a h = h.ue_is

same_refused : (side : Side) (lcid : ℕ) → (is_same side side && (lcid == lcid)) ≡ true
same_refused Nb lcid = eq-eqb lcid lcid refl
same_refused Ue lcid = eq-eqb lcid lcid refl

module _ (newer : List Group) (c : BearerConfig) (l : ℕ) (past : List Group) (g : Group) (side : Side) (lcid : ℕ)
    (octets : List ℕ) where
  abbrev now : Group
  now = record g { line = lines.Submit side lcid octets }

  abbrev all : List Group
  all = newer ++ now ∷ past

  begun : (h : WaitsBehind all c l past) (z : Side) → waits_first z l now past [] ≡ waiting_at l z h.read.air
  begun h z = (waits_by_records z l now past h.read.low).begins ∙ h.waiting.waits z

  by : (h : WaitsBehind all c l past) (b : IsReadBehind (may all) c l (now ∷ past))
      → HandsIn (may all) c l past now side lcid octets h.read b
      ⊎ Refuses (may all) c l past now side lcid octets h.read b
      → IsWaitingBehind all l (now ∷ past) b.air b.journal
  by h b (inl y) =
      let s = at_side side (Calls (Submit lcid octets)) in
      let r = h.read.read in
      let there = lived_there l h.read.air h.read.moment r.lived in
      let taken = ap (refusal lcid octets) (on_end side (link_behind past) h.read.air h.read.on) ∙ y.taken in
      record {
        signalling = λ z. subst (IsSignallingAt l z) (sym y.air_is)
            (signals_on l h.read.air s y.given r.new there z (h.waiting.signalling z));
        waits = λ z.
            (waits_by_records z l now past h.read.low).ends
            ∙ (ap (λ (told : List Record). waits_submits z l (left_by now.line told) (waits_first z l now past told))
            y.none
            ∙ (ap (λ (n : ℕ). if is_at side lcid z l then n + 1 else n) (begun h z)
            ∙ sym (ap (waiting_at l z) y.air_is
            ∙ handed_waits l h.read.air side z lcid octets y.given r.new there taken (h.waiting.signalling z))));
        agree = subst (λ (j : Journal Histories). AgreeOn l (behind flows no_events (may all) (now ∷ past)) j)
            (sym y.journal_is)
            (silent_agrees l newer now past y.to.reads h.read.journal (y.to.are ∙ sym y.none)
            (λ z. ap (events_of z) y.none) h.waiting.agree);
      }
  by h b (inr y) =
      record {
        signalling = λ z. subst (IsSignallingAt l z) (sym y.air_is) (h.waiting.signalling z);
        waits = λ z.
            (waits_by_records z l now past h.read.low).ends
            ∙ (ap (λ (told : List Record). waits_submits z l (left_by now.line told) (waits_first z l now past told))
            y.are
            ∙ ((waits_by_records z l now past h.read.low).goes [] (records.Refused side lcid (no_place y.why))
            ∙ (ap (λ (refused : Bool). waits_submits z l
            (if refused then None else Some (record { side = side; lcid = lcid; octets = octets }))
            (waits_first z l now past [])) (same_refused side lcid)
            ∙ (begun h z ∙ ap (waiting_at l z) (sym y.air_is)))));
        agree = subst (λ (j : Journal Histories). AgreeOn l (behind flows no_events (may all) (now ∷ past)) j)
            (sym y.journal_is)
            (silent_agrees l newer now past b.newest.reads h.read.journal b.newest.are
            (λ z. ap (events_of z) y.are) h.waiting.agree);
      }

  pub submits_waiting : IsRight past now → KeepsOrder past → WaitsBehind all c l past → WaitsBehind all c l (now ∷ past)
  submits_waiting right order h =
      let x = submits_carrying (may all) c l past g side lcid octets right order h.read in
      let waiting = by h x.behind x.so in
      record {
        read = x.behind;
        waiting = waiting;
        fails = fails_still (may all) c l now past x.behind.newest h.read.journal x.behind.journal refl h.waiting.agree
            waiting.agree x.first_is x.journal_is;
      }

-- ---- a handover

gone_unexpired : (l : ℕ) (told : List Record) → AreGone told → AllByRecursion (TellsNoExpiry l) told
gone_unexpired l [] gone = tt
gone_unexpired l (one ∷ told) gone = (by one gone.0, gone_unexpired l told gone.1)
  where
    by : (one : Record) → IsGone one → TellsNoExpiry l one
    by (records.Of side (events.Expired lcid clock)) h = absurd h
    by (records.Of side event) h = tt
    by one h = tt

looped_parts : (side : Side) (l : ℕ) (xs ys : List Record) → looped_at side l (xs ++ ys) ≡ []
    → (looped_at side l xs ≡ []) × (looped_at side l ys ≡ [])
looped_parts side l xs ys none =
    parts_empty (looped_at side l xs) (looped_at side l ys) (sym (looped_then side l xs ys) ∙ none)

-- in steps of a life in which no SDU of the channel is submitted none comes to wait
abbrev NoneWaitsAt : ℕ → Air → Type 0
NoneWaitsAt l a = (side : Side) → IsSignallingAt l side a × (waiting_at l side a ≡ 0)

none_come : (l : ℕ) (steps : List AirStep) (a : Air) (sent : Flight) (told : List Record) → AreLiving l a steps
    → AreInLife steps → HaveComeNew l a → AreThere l a → AreAlong sent steps a told
    → ((side : Side) → looped_at side l told ≡ []) → NoneWaitsAt l a → NoneWaitsAt l (lives steps a)
none_come l [] a sent told living life new there along loops none = none
none_come l (Moves keys ∷ steps) a sent told living life new there along loops none = absurd life
none_come l (InLife s ∷ steps) a sent told living life new there along loops none =
    let parts = λ (side : Side). looped_parts side l along.now along.later
    (ap (looped_at side l) (sym along.are) ∙ loops side) in
    none_come l steps (happens a s) (flight_in along.now sent) along.later living.1 life
    (lives_come_new l (InLife s ∷ []) a new (living.0, tt)) (step_there l a s living.0 new there) along.others
    (λ side. (parts side).1)
    (λ side.
    let h = (none side).0 in
    let q = queue_goes_on l a s living.0 new there side h in
    let submitted : flat_map submits (calls_of_step l side a (InLife s)) ≡ [] =
    sym (submits_over l (calls_at side a (InLife s)) (end_at side a)) ∙ (sym (along.looped side l) ∙ (parts side).0) in
    let few = ap (length {A = List ℕ}) submitted in
    let count = q.count in
    let was = many_wait l side a h.bearer h.bearer_is in
    let none_was = (none side).1 in
    let last = many_wait l side (happens a s) q.last (bearer_goes_on l a s living.0 new there side h) in
    (signals_on l a s living.0 new there side h, omega (arith, few, count, was, none_was, last)))

low_signalling : (kind : Kind) (l : ℕ) → kind ≡ bearers.Srb → IsChannelOf kind l → l < 3
low_signalling kind l is h =
    let most : (1 ≤ l) × (l ≤ 2) = subst (λ (k : Kind). IsChannelOf k l) is h in
    let two = most.1 in
    omega (arith, two)

module _ (newer : List Group) (c : BearerConfig) (l : ℕ) (past : List Group) (g : Group)
    (user rrc integrity : Key) where
  abbrev moving : Group
  moving = record g { line = lines.Handover user rrc integrity }

  abbrev all_moving : List Group
  all_moving = newer ++ moving ∷ past

  abbrev new_keys : Keys
  new_keys = moved_keys user rrc integrity past

  pub moves_waiting : IsRight past moving → KeepsOrder past → c.kind ≡ bearers.Srb
      → WaitsBehind all_moving c l past → WaitsBehind all_moving c l (moving ∷ past)
  moves_waiting right order kind h =
      let x = moves (may all_moving) c l past g user rrc integrity right order h.read in
      let a = h.read.air in
      let r = h.read.read in
      let told = read_as false g.events in
      let there = lived_there l a h.read.moment r.lived in
      let small = low_signalling c.kind l kind (links_track l past c order h.read.is).goes_with in
      let loops = λ (side : Side). looped_parts side l x.moved.leaving x.moved.behind
      (ap (looped_at side l) (sym x.are) ∙ none_looped side l past moving small (right, order)) in
      let begun : NoneWaitsAt l (lives_on a (Moves new_keys)) = λ side.
      signalling_moves side l a new_keys (stands_at side l a r.new there) (h.waiting.signalling side) in
      let none = none_come l x.moved.by.steps (lives_on a (Moves new_keys)) no_flight x.moved.behind x.moved.by.living
      x.moved.in_life x.begun.new (lived_there l (lives_on a (Moves new_keys)) outset_moment x.begun.lived)
      (x.moved.along no_flight) (λ side. (loops side).1) begun in
      let waiting : IsWaitingBehind all_moving l (moving ∷ past) x.behind.air x.behind.journal = record {
        signalling = λ side. subst (IsSignallingAt l side) (sym x.air_is) (none side).0;
        waits = λ side.
            waits_dropped side l moving past h.read.low refl
            ∙ sym (ap (waiting_at l side) x.air_is ∙ (none side).1);
        agree = subst (λ (j : Journal Histories). AgreeOn l (behind flows no_events (may all_moving) (moving ∷ past)) j)
            (sym x.journal_is)
            (group_agrees l newer moving past (read_as false g.events) h.read.journal true (records_read false g.events)
            (unexpired_answer l (may all_moving) past [] (read_as false g.events)
            (subst (AllByRecursion (TellsNoExpiry l)) (sym (records_read false g.events))
            (gone_unexpired l g.events x.gone)))
            h.waiting.agree);
      } in
      record {
        read = x.behind;
        waiting = waiting;
        fails = moves_fail (may all_moving) c l past g user rrc integrity h.read x h.waiting.agree waiting.agree;
      }
