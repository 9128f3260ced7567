-- The group of a line that is neither a handover, nor a submission, nor that of the channel's own bearers: what is kept
-- of the flows of acknowledged data goes on beside both ends, and each new block is right on the channel.
use Rattle.std.proofs.Common.{◌≡◌, ◌≤◌, ℕ, Bool, true, false, if◌then◌else◌, List, [], ◌∷◌, ◌++◌, Option, Some}
use Rattle.std.proofs.Common.{None, refl, ap, sym, subst, ◌∙◌}
use Rattle.std.specs.List.{AllByRecursion}
use Rattle.air_record.specs.Submissions.{submitted_by, unrefused}
use Rattle.air_record.specs.declared.line.Line.{Line}
use Rattle.air_record.specs.declared.line.Line.TheVariants as lines
use Rattle.air_record.specs.declared.record.Record.{Record}
use Rattle.air_record.specs.declared.record.Record.TheVariants as records
use Rattle.air_record.specs.declared.submission.Submission.{Submission}
use Rattle.air_text.specs.Groups.{Group}
use Rattle.bearer.specs.Acknowledged.State.{State}
use Rattle.bearer_types.specs.declared.config.BearerConfig.{BearerConfig}
use Rattle.bearer_types.specs.declared.event.Event.{Event}
use Rattle.bearer_types.specs.declared.event.Event.TheVariants as events
use Rattle.l2_types.specs.declared.channel.Kind.TheVariants as bearers
use Rattle.l2_types.specs.declared.event.Lost.TheVariants as losts
use Rattle.l2_types.specs.declared.side.Side.{Side}
use Rattle.l2_types.specs.declared.side.Side.TheVariants.{Nb, Ue}
use Rattle.promises.specs.Blocks.{kinds}
use Rattle.promises.specs.Configs.{config_of}
use Rattle.promises.specs.Delivery.{forges}
use Rattle.promises.specs.Events.{is_of_loop, told_on}
use Rattle.promises.specs.Parts.{is_handover}
use Rattle.journal_flows.specs.FlowsTold.{Histories, histories as flows}
use Rattle.journal_flows.specs.Gathering.{Journal, Sending, sending_of, behind_line}
use Rattle.journal_given.specs.Giving as giving
use Rattle.journal_given.specs.Supplies.{Bearer, History}
use Rattle.journal_given.specs.Supplies as given
use Rattle.journal_sent.specs.declared.checker.PassedSdu.{PassedSdu}
use Rattle.journal_sent.specs.RightSent.{AllSent, Given}
use Rattle.journal_sent.specs.SentPdus.{histories}
use Rattle.journal_sent.specs.Sending.{Flows, with_flows, named_of, judged, is_known, lcid_in, has_bearer}
use Rattle.journal_sent.specs.Sending.{released, settled, event_told, tells, after_line, after_record, records_told}
use Rattle.journal_sent.specs.Sending.{all_sending}
use Rattle.law_deliver.specs.AmChannel.Lives.{AirStep}
use Rattle.law_given.proofs.Tied.{AreTied}
use Rattle.law_run.specs.Order.{IsRight, KeepsOrder}
use Rattle.law_run.specs.TwoEnds.Logs.{LogEntry, Tells, Flight, flight_behind, logged_at, logged}
use Rattle.law_run.proofs.BearerWalk.{adds_one}
use Rattle.law_run.proofs.EmptyLists.{parts_empty}
use Rattle.law_sent.specs.Channels.{begins_on}
use Rattle.law_sent.proofs.ChannelsNamed.{as_named}
use Rattle.law_sent.proofs.Channels.{lines_go_alone}
use Rattle.law_sound.specs.AlikeLaws.{AreAlikeJournals}
use Rattle.law_sound.specs.BesideLaws.{ReadRecord, behind_all}
use Rattle.law_sound.specs.ComingLaws.{TellsFlows}
use Rattle.law_sound.specs.LoggedRecords.{records_of}
use Rattle.law_sound.specs.NamedLogs.{named_over}
use Rattle.law_sound.specs.NamedSteps.{SendsNoNewBlock}
use Rattle.law_sound.proofs.GivenBetween.{GoesBehind}
use Rattle.law_sound.proofs.GivenStays.{StaysBeside, none_of, config_on, agree_first, GoOn, stays_beside}
use Rattle.law_sound.proofs.GroupCarrying.{is_submission}
use Rattle.law_sound.proofs.Groups.{sending_line}
use Rattle.law_sound.proofs.LoggedEvents.{events_in, none_sent, records_events}
use Rattle.law_sound.proofs.NamedLogs.{records_name}
use Rattle.law_sound.proofs.SentBetween.{IsSentOn, StandsBeside, AreSentBeside, SendsBehind}
use Rattle.law_sound.proofs.SentEnds.{GoesSending, group_ends}
use Rattle.law_sound.proofs.SentKeys.{none_named}
use Rattle.law_sound.proofs.SentLife.{IsSentAt, sent_on, sent_said}
use Rattle.law_sound.proofs.SentRecords.{sending_first, sent_quiet}
use Rattle.law_sound.proofs.StepCarrying.{AllSaid}

-- ---- records that log nothing

-- they name no PDU

flows_name : (side own : Side) (fs : Flows _) (s : AllSent) → named_of side (with_flows own fs s) ≡ named_of side s
flows_name Nb Nb fs s = refl
flows_name Nb Ue fs s = refl
flows_name Ue Nb fs s = refl
flows_name Ue Ue fs s = refl

submission_names : (side : Side) (sdu : Option Submission) (s : AllSent)
    → named_of side (released sdu s) ≡ named_of side s
submission_names Nb None s = refl
submission_names Ue None s = refl
submission_names Nb (Some d) s = flows_name Nb d.side _ (record s { submitted = None })
submission_names Ue (Some d) s = flows_name Ue d.side _ (record s { submitted = None })

passed_names : (side : Side) (s : AllSent) → named_of side (record s { passed = None }) ≡ named_of side s
passed_names Nb s = refl
passed_names Ue s = refl

judged_names : (side : Side) (right : Bool) (s : AllSent) → named_of side (judged right s) ≡ named_of side s
judged_names Nb right s = refl
judged_names Ue right s = refl

loop_names : (side own : Side) (e : Event) (j : Given) (passed : Option PassedSdu) (s : AllSent)
    → is_of_loop e ≡ true → named_of side (event_told histories given.histories own e j passed s) ≡ named_of side s
loop_names side own (events.Drop lcid losts.Loop) j passed s loop = refl
loop_names side own e j passed s loop = absurd cc

quiet_names : (side : Side) (sent : Flight) (one : Record) (j : Given) (passed : Option PassedSdu) (s : AllSent)
    → logged_at sent one ≡ [] → named_of side (tells histories given.histories one j passed s) ≡ named_of side s
quiet_names side sent (records.Of own e) j passed s none = by (is_of_loop e) refl none
  where
    by : (loop : Bool) → is_of_loop e ≡ loop → (if loop then [] else Tells own e ∷ []) ≡ []
        → named_of side (tells histories given.histories (records.Of own e) j passed s) ≡ named_of side s
    by true q none =
        loop_names side own e j passed (judged (is_known (lcid_in e) s) s) q
        ∙ judged_names side (is_known (lcid_in e) s) s
    by false q none = absurd cc
quiet_names side sent (records.Block direction process true version octets) j passed s none = absurd cc
quiet_names side sent (records.Looped lcid octets) j passed s none =
    flows_name side Ue _ (judged (has_bearer lcid s) s) ∙ judged_names side (has_bearer lcid s) s
quiet_names side sent (records.Refused own lcid why) j passed s none = judged_names side (has_bearer lcid s) s
quiet_names side sent one j passed s none = refl

all_quiet : (side : Side) (sent : Flight) (xs : List Record) (j : Given) (s : AllSent) → logged sent xs ≡ []
    → named_of side (records_told histories given.histories xs j s) ≡ named_of side s
all_quiet side sent [] j s logs = refl
all_quiet side sent (one ∷ xs) j s logs =
    let parts = parts_empty (logged_at sent one) (logged (flight_behind one sent) xs) logs in
    all_quiet side (flight_behind one sent) xs (giving.after_record given.histories one j)
    (after_record histories given.histories one (giving.settled given.histories one j) s) parts.1
    ∙ quiet_names side sent one (giving.settled given.histories one j) (settled one s).passed
    (record (settled one s) { passed = None }) parts.0
    ∙ passed_names side (settled one s)
    ∙ submission_names side (unrefused one s.submitted) s

told_more : (told xs : List Record) (j : Given) (s : AllSent)
    → records_told histories given.histories (told ++ xs) j s
    ≡ records_told histories given.histories xs (giving.after_records given.histories told j)
    (records_told histories given.histories told j s)
told_more [] xs j s = refl
told_more (one ∷ told) xs j s =
    told_more told xs (giving.after_record given.histories one j)
    (after_record histories given.histories one (giving.settled given.histories one j) s)

quiet_first : (side : Side) (now : Group) (past : List Group) (told : List Record) (sent : Flight) (xs : List Record)
    → logged sent xs ≡ []
    → named_of side (sending_first now past (told ++ xs)) ≡ named_of side (sending_first now past told)
quiet_first side now past told sent xs logs =
    let j = giving.after_line given.histories now.line (giving.all_given given.histories past) in
    let s = after_line histories now.line (all_sending histories given.histories past) in
    ap (λ (t : AllSent). named_of side t) (told_more told xs j s)
    ∙ all_quiet side sent xs (giving.after_records given.histories told j)
    (records_told histories given.histories told j s) logs

-- ---- journals that are alike name alike

alike_names : (i j : Journal Histories) (side : Side) → AreAlikeJournals i j
    → (sending_of side i).named ≡ (sending_of side j).named
alike_names i j Nb h = ap (λ (s : Sending). s.named) h.nb
alike_names i j Ue h = ap (λ (s : Sending). s.named) h.ue

pub begins_alike : (l : ℕ) (line : Line) → adds_one l line ≡ false → begins_on l line ≡ false
begins_alike l (lines.Bearer config options) h = h
begins_alike l line h = refl

-- ---- the group

module _ (newer : List Group) (c : BearerConfig) (l : ℕ) (past : List Group) (g : Group) (right : IsRight past g)
    (order : KeepsOrder past) (other : adds_one l g.line ≡ false) (own : forges g.line ≡ false)
    (here : is_handover g.line ≡ false) (unsubmitted : is_submission g.line ≡ false)
    (flows_told : TellsFlows (g ∷ past)) (data' : c.kind ≡ bearers.Am) (h : GoesBehind (newer ++ g ∷ past) c l past)
    (v : SendsBehind (newer ++ g ∷ past) c l past h) where
  abbrev low : l ≤ 10
  low = h.read.low

  abbrev none : submitted_by g.line ≡ None
  none = none_of newer c l past g right order other own here unsubmitted flows_told data' h

  abbrev config : config_of l (g ∷ past) ≡ Some c
  config = config_on newer c l past g right order other own here unsubmitted flows_told data' h

  abbrev Beside : List Record → (steps : List AirStep) → AreTied l c h.given.nb h.given.ue steps → Bearer History
      → Type 0
  Beside told steps t b = IsSentAt l low newer g past none c h.given.nb h.given.ue told steps t b

  abbrev Also : List Record → Record → Type 0
  Also told one = IsSentOn l g past told one

  -- the line changes nothing of it

  line_beside : (side : Side) (b : State)
      → StandsBeside side l c.pdcp_bits b (all_sending histories given.histories past)
      → StandsBeside side l c.pdcp_bits b (sending_first g past [])
  line_beside side b x = record {
    flow = x.flow;
    stands = lines_go_alone side l g.line (all_sending histories given.histories past) x.flow
        (begins_alike l g.line other) x.stands;
    by_bearer = x.by_bearer;
  }

  begun : Beside [] h.given.steps h.given.tied h.given.bearer
  begun = record {
    beside = record {
      nb = line_beside Nb h.given.tied.joined.one v.sent.beside.nb;
      ue = line_beside Ue h.given.tied.joined.two v.sent.beside.ue;
      sizes = v.sent.beside.sizes;
    };
    alike = λ side.
        alike_names _ (behind_line flows g.line h.read.journal) side
        (agree_first newer c l past g right order other own here unsubmitted flows_told data' h).alike
        ∙ ap (λ (s : Sending). s.named) (sending_line side g.line h.read.journal)
        ∙ h.read.read.named side
        ∙ sym (ap as_named (none_named side g past));
  }

  -- nor do records that log nothing

  quiet_beside : (side : Side) (b : State) (told : List Record) (sent : Flight) (xs : List Record)
      → logged sent xs ≡ [] → StandsBeside side l c.pdcp_bits b (sending_first g past told)
      → StandsBeside side l c.pdcp_bits b (sending_first g past (told ++ xs))
  quiet_beside side b told sent xs logs x = record {
    flow = x.flow;
    stands = sent_quiet l g past side xs told x.flow
        (ap (told_on l) (records_events side sent xs ∙ ap (events_in side) logs)) (none_sent sent xs logs) x.stands;
    by_bearer = x.by_bearer;
  }

  none_said : (told : List Record) (xs : List ReadRecord) → AllByRecursion SendsNoNewBlock (records_of xs)
      → AllSaid (λ (before : List Record) (x : ReadRecord). Also before x.one) told xs
  none_said told [] unsent = tt
  none_said told (x ∷ xs) unsent = (by x.one unsent.0, none_said (told ++ x.one ∷ []) xs unsent.1)
    where
      by : (one : Record) → SendsNoNewBlock one → Also told one
      by (records.Block direction process true version octets) unsent = absurd unsent
      by one unsent = tt

  goes_on : GoOn newer c l past g right order other own here unsubmitted flows_told data' h Beside Also
  goes_on = record {
    one_step = λ steps s m j told xs others sent living given are logs looped flight octets r x w v. (
      sent_on l low newer g past none c h.given.keys h.given.nb h.given.ue h.given.begins flows_told config data' here
          other steps s m j told xs others others sent living given are logs looped flight octets r x w v,
      sent_said l low newer g past none c h.given.keys h.given.nb h.given.ue h.given.begins flows_told config data'
          here other steps s m j told xs others others sent living given are logs looped flight octets r x w v,
    );
    quiet = λ steps m j told xs others sent are logs loops r w agree v. (
      record {
        beside = record {
          nb = quiet_beside Nb w.tied.joined.one told sent (records_of xs) logs v.beside.nb;
          ue = quiet_beside Ue w.tied.joined.two told sent (records_of xs) logs v.beside.ue;
          sizes = v.beside.sizes;
        };
        alike = λ side.
            alike_names _ (behind_all (kinds (g ∷ past)) xs j) side agree.alike
            ∙ records_name (kinds (g ∷ past)) side sent xs j
            ∙ ap (λ (log : List LogEntry). named_over side log (sending_of side j).named) logs
            ∙ sym (alike_names _ j side w.agree.alike)
            ∙ v.alike side
            ∙ sym (ap as_named (quiet_first side g past told sent (records_of xs) logs));
      },
      none_said told xs (none_sent sent (records_of xs) logs),
    );
  }

  -- ---- behind it

  goes : GoesSending (newer ++ g ∷ past) c l (g ∷ past)
  goes =
      let x : StaysBeside (newer ++ g ∷ past) c l past g h Beside Also =
      stays_beside newer c l past g right order other own here unsubmitted flows_told data' h Beside Also goes_on begun
      in
      let s = sending_first g past g.events in
      record {
        goes = x.next;
        sends = record {
          sent = record {
            beside = group_ends newer c l past g data' x.next.read x.next.given here
                (subst (λ (b : Bearer History). AreSentBeside l c x.next.given.tied.joined.one
                x.next.given.tied.joined.two s b) x.bearer_is
                (subst (λ (two : State). AreSentBeside l c x.next.given.tied.joined.one two s x.gathered) x.two_is
                (subst (λ (one : State). AreSentBeside l c one x.tied.joined.two s x.gathered) x.one_is
                x.beside.beside)));
          };
          said = x.said;
        };
      }

pub stays_sent : (all newer : List Group) (c : BearerConfig) (l : ℕ) (past : List Group) (g : Group)
    → all ≡ newer ++ g ∷ past → IsRight past g → KeepsOrder past → adds_one l g.line ≡ false → forges g.line ≡ false
    → is_handover g.line ≡ false → is_submission g.line ≡ false → TellsFlows (g ∷ past) → c.kind ≡ bearers.Am
    → GoesSending all c l past → GoesSending all c l (g ∷ past)
stays_sent all newer c l past g is right order other own here unsubmitted flows_told data' =
    subst (λ (gs : List Group). GoesSending gs c l past → GoesSending gs c l (g ∷ past)) (sym is)
    (λ h. goes newer c l past g right order other own here unsubmitted flows_told data' h.goes h.sends)
