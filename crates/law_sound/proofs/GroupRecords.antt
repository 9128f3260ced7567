-- Each record of the journal of a script that forges no block is right in what it sends, as a checker of any journal
-- asks it, on each channel.
use Rattle.std.proofs.Common.{◌≡◌, ◌<◌, ◌≤◌, inl, inr, ℕ, Bool, true, false, List, [], ◌∷◌, ◌++◌, length, append-nil}
use Rattle.std.proofs.Common.{append_assoc, Option, Some, None, refl, ap, sym, subst, ◌∙◌}
use Rattle.std.proofs.lemmas.Bool.{cases_lt}
use Rattle.std.specs.List.{AllByRecursion}
use Rattle.std.specs.Prelude.{IfSome, IsTrue}
use Rattle.air_record.specs.declared.line.Line.{Line}
use Rattle.air_record.specs.declared.line.Line.TheVariants as lines
use Rattle.air_record.specs.declared.record.Record.{Record}
use Rattle.air_record.specs.declared.record.Record.TheVariants as records
use Rattle.air_record.specs.Submissions.{submitted_by}
use Rattle.air_text.specs.Groups.{Group}
use Rattle.bearer_types.specs.Sides.{sender_of}
use Rattle.bearer_types.specs.declared.config.BearerConfig.{BearerConfig}
use Rattle.bearer_types.specs.declared.event.Event.{Event}
use Rattle.bearer_types.specs.declared.event.Event.TheVariants as events
use Rattle.l2_types.specs.declared.channel.Kind.{Kind}
use Rattle.l2_types.specs.declared.channel.Kind.TheVariants as bearers
use Rattle.l2_types.specs.declared.event.How.{How}
use Rattle.l2_types.specs.declared.side.Side.{Side}
use Rattle.mac_pdu.specs.Reading.{reading}
use Rattle.mac_pdu.specs.declared.item.Direction.{Direction}
use Rattle.pdcp_pdu.specs.declared.pdu.PdcpKind.TheVariants as pdcp
use Rattle.pdu_show.specs.Kinds.{layout_of}
use Rattle.pdu_show.specs.declared.kinds.Layout.{Layout}
use Rattle.pdu_show.specs.declared.kinds.Layout.TheVariants as layouts
use Rattle.prioritise.proofs.ChannelLemmas.{both_false}
use Rattle.promises.specs.Air.{ttis}
use Rattle.promises.specs.Blocks.{kinds}
use Rattle.promises.specs.Configs.{config_of}
use Rattle.promises.specs.Delivery.{forges, is_forged}
use Rattle.promises.specs.Loops.{ReturnInOrder}
use Rattle.promises.specs.Order.{Channels, SubmitTells}
use Rattle.promises.specs.Telling.{LineTells, channels}
use Rattle.journal_flows.specs.Gathering.{sdus_read}
use Rattle.journal_given.specs.Giving.{all_given}
use Rattle.journal_given.specs.Giving as giving
use Rattle.journal_given.specs.Supplies as given
use Rattle.journal_sent.specs.RightSent.{AllSent, DiscardedOf, EachRecord, FirstIsTaken, Flow, Given, InBlock}
use Rattle.journal_sent.specs.RightSent.{IsRightEvent, IsSdu, PduIsSent, PduIsShaped, PduTest, RecordIsSent}
use Rattle.journal_sent.specs.RightSent.{RecordIsShaped, RecordTest, SentIsRight, ShapesAreRight, TakenAs}
use Rattle.journal_sent.specs.SentFlows.{is_data}
use Rattle.journal_sent.specs.SentPdus.{histories}
use Rattle.journal_sent.specs.Sending.{acked_at, after_line, after_record, all_sending, has_bearer, is_known, lcid_in}
use Rattle.journal_sent.specs.Sending.{sdu_of, settled}
use Rattle.law_run.specs.Order.{KeepsOrder}
use Rattle.law_run.proofs.BearerWalk.{adds_one, unchanged}
use Rattle.law_sent.specs.Channels.{AreRight, SentPdu, behind_one, flow_on, pdus_on, sent_on}
use Rattle.law_sent.proofs.ChannelsNamed.{settled_names}
use Rattle.law_sent.proofs.FlowsBlocks.{right_on_all}
use Rattle.law_sent.proofs.FlowsNamed.{unsubmitted_flow}
use Rattle.law_sound.specs.ComingLaws.{TellsFlows}
use Rattle.law_sound.specs.RunLaws.{RunsSendRightly}
use Rattle.law_sound.proofs.Delivering.{bearer_is as bearer_on_is}
use Rattle.law_sound.proofs.Elsewhere.{none_stands_above}
use Rattle.law_sound.proofs.GroupSent.{group_said, sending_behind}
use Rattle.law_sound.proofs.Groups.{tells_before}
use Rattle.law_sound.proofs.KnownRecords.{HasBearer, channel_in, records_known}
use Rattle.law_sound.proofs.QueueAt.{AreRightRecords, IsRightRecord}
use Rattle.law_sound.proofs.QueueBearers.{IsOfQueue}
use Rattle.law_sound.proofs.QueueGroups.{HasBases, HasNoBase, has_no_bases, queues_behind}
use Rattle.law_sound.proofs.QueueRecords.{first_unsubmitted}
use Rattle.law_sound.proofs.QueueSignals.{signals_have_bases}
use Rattle.law_sound.proofs.Running.{runs_tell_flows}
use Rattle.law_sound.proofs.SentBetween.{IsRightPdu, IsSentOn}
use Rattle.law_sound.proofs.SentLayouts.{IsOfBearer, bearer_stands, flow_stands}
use Rattle.law_sound.proofs.SentRecords.{giving_before, giving_first, giving_next, sending_first, sending_next}
use Rattle.law_sound.proofs.SentTakes.{takes_sized}

-- ---- a flow of acknowledged data, or of another kind

-- of these are the bearers of queues
other_kind : (kind : Kind) (rlc_bits pdcp_bits : ℕ) → is_data (layout_of kind rlc_bits pdcp_bits) ≡ false
    → IsOfQueue kind
other_kind bearers.Tm rlc_bits pdcp_bits e = tt
other_kind bearers.Srb rlc_bits pdcp_bits e = tt
other_kind bearers.Um rlc_bits pdcp_bits e = tt
other_kind bearers.Am rlc_bits pdcp_bits e = absurd cc

data_kind : (kind : Kind) (rlc_bits pdcp_bits : ℕ) → is_data (layout_of kind rlc_bits pdcp_bits) ≡ true
    → kind ≡ bearers.Am
data_kind bearers.Tm rlc_bits pdcp_bits e = absurd cc
data_kind bearers.Srb rlc_bits pdcp_bits e = absurd cc
data_kind bearers.Um rlc_bits pdcp_bits e = absurd cc
data_kind bearers.Am rlc_bits pdcp_bits e = refl

taken_data : (layout : Layout) (count : Option ℕ) (len : ℕ) (sdu : Option (List ℕ)) (f : Flow) → is_data layout ≡ true
    → IfSome sdu IsSdu → TakenAs layout count len sdu f
taken_data layouts.Tm count len sdu f e h = absurd cc
taken_data (layouts.Um rlc_bits kind) count len sdu f e h = absurd cc
taken_data (layouts.Am pdcp.Srb) count len sdu f e h = absurd cc
taken_data (layouts.Am (pdcp.Um bits)) count len sdu f e h = absurd cc
taken_data (layouts.Am (pdcp.Am bits)) count len sdu f e h = h

taken_first : (layout : Layout) (count : Option ℕ) (len : ℕ) (sdu : Option (List ℕ)) (f : Flow)
    → is_data layout ≡ false → FirstIsTaken count len f → TakenAs layout count len sdu f
taken_first layouts.Tm count len sdu f e h = h
taken_first (layouts.Um rlc_bits kind) count len sdu f e h = h
taken_first (layouts.Am pdcp.Srb) count len sdu f e h = h
taken_first (layouts.Am (pdcp.Um bits)) count len sdu f e h = h
taken_first (layouts.Am (pdcp.Am bits)) count len sdu f e h = absurd cc

discarded_data : (layout : Layout) (f : Flow) → is_data layout ≡ true → DiscardedOf layout f
discarded_data layouts.Tm f e = absurd cc
discarded_data (layouts.Um rlc_bits kind) f e = absurd cc
discarded_data (layouts.Am pdcp.Srb) f e = absurd cc
discarded_data (layouts.Am (pdcp.Um bits)) f e = absurd cc
discarded_data (layouts.Am (pdcp.Am bits)) f e = tt

discarded_first : (layout : Layout) (f : Flow) → is_data layout ≡ false → 0 < length f.waiting → DiscardedOf layout f
discarded_first layouts.Tm f e h = h
discarded_first (layouts.Um rlc_bits kind) f e h = h
discarded_first (layouts.Am pdcp.Srb) f e h = h
discarded_first (layouts.Am (pdcp.Um bits)) f e h = h
discarded_first (layouts.Am (pdcp.Am bits)) f e h = absurd cc

-- ---- bases, by kind

bases_by : (kind : Kind) (l : ℕ) (past : List Group) (c : BearerConfig) → c.kind ≡ kind → IsOfQueue kind
    → KeepsOrder past → is_forged past ≡ false → HasBases l c past
bases_by bearers.Tm l past c is of order own = has_no_bases l past c order own (subst HasNoBase (sym is) tt)
bases_by bearers.Srb l past c is of order own = signals_have_bases l past c order own is
bases_by bearers.Um l past c is of order own = has_no_bases l past c order own (subst HasNoBase (sym is) tt)
bases_by bearers.Am l past c is of order own = absurd of

-- ---- each PDU, by one of both tests

module _ (right : PduTest)
    (pick : (acked : ℕ → Bool) (how : How) (passed : Option (List ℕ)) (octets : List ℕ) (f : Flow)
    → IsRightPdu acked how passed octets f → right acked how passed octets f) where
  each_pdu : (acked : ℕ → Bool) (ps : List SentPdu) (f : Flow) → AreRight IsRightPdu acked ps f
      → AreRight right acked ps f
  each_pdu acked [] f h = tt
  each_pdu acked (p ∷ ps) f h =
      (pick acked p.how p.passed p.octets f h.0, each_pdu acked ps (behind_one acked p f) h.1)

-- one record among others
at_record : (l : ℕ) (now : Group) (past : List Group) (told others before : List Record) (one : Record)
    → AreRightRecords l now past before (told ++ one ∷ others) → IsRightRecord l now past (before ++ told) one
at_record l now past [] others before one h =
    subst (λ (zs : List Record). IsRightRecord l now past zs one) (sym (append-nil before)) h.0
at_record l now past (x ∷ told) others before one h =
    subst (λ (zs : List Record). IsRightRecord l now past zs one) (append_assoc before (x ∷ []) told)
    (at_record l now past told others (before ++ x ∷ []) one h.1)

known_at : (P : Record → Type 0) (told others : List Record) (one : Record) → AllByRecursion P (told ++ one ∷ others)
    → P one
known_at P [] others one h = h.0
known_at P (x ∷ told) others one h = known_at P told others one h.1

-- ---- a line that submits an SDU leaves no record but that it is refused

abbrev IsOwnRecord : Record → Type 0
IsOwnRecord (records.Refused side lcid why) = ⊥
IsOwnRecord one = Unit {0}

none_behind : (side : Side) (lcid : ℕ) (told others : List Record) (one : Record) → IsOwnRecord one
    → SubmitTells side lcid (told ++ one ∷ others) → ⊥
none_behind side lcid [] others one is (inl none) = absurd cc
none_behind side lcid (x ∷ told) others one is (inl none) = absurd cc
none_behind side lcid [] others one is (inr refused) =
    let same : one ≡ records.Refused side lcid refused.why = let all = refused.told_is in cc in
    subst IsOwnRecord same is
none_behind side lcid (x ∷ []) others one is (inr refused) = let all = refused.told_is in absurd cc
none_behind side lcid (x ∷ y ∷ told) others one is (inr refused) = let all = refused.told_is in absurd cc

unsubmitted_by : (t : ℕ) (ks : List (Option Layout)) (cs : Side → Channels) (line : Line) (told others : List Record)
    (one : Record) → IsOwnRecord one → LineTells t ks cs line (told ++ one ∷ others) → submitted_by line ≡ None
unsubmitted_by t ks cs (lines.Submit side lcid octets) told others one is h =
    absurd (none_behind side lcid told others one is h)
unsubmitted_by t ks cs line told others one is h = refl

-- nor does one of a bearer
adds_none : (t : ℕ) (ks : List (Option Layout)) (cs : Side → Channels) (line : Line) (told others : List Record)
    (one : Record) (l : ℕ) → LineTells t ks cs line (told ++ one ∷ others) → adds_one l line ≡ false
adds_none t ks cs (lines.Bearer config options) [] others one l h = absurd cc
adds_none t ks cs (lines.Bearer config options) (x ∷ told) others one l h = absurd cc
adds_none t ks cs line told others one l h = refl

-- ---- each record

module _ (now : Group) (past : List Group) (order : KeepsOrder (now ∷ past)) (own : is_forged (now ∷ past) ≡ false)
    (flows_told : TellsFlows (now ∷ past)) (loops : ReturnInOrder (now ∷ past)) where
  apart : (forges now.line ≡ false) × (is_forged past ≡ false)
  apart = both_false (forges now.line) (is_forged past) own

  has_channel : (lcid : ℕ) (told : List Record) (one : Record) → HasBearer (now ∷ past) lcid
      → IsTrue (has_bearer lcid (settled one (sending_first now past told)))
  has_channel lcid told one h = elim (cases_lt 10 lcid) [
    | inl far ↦ (
        let no : None ≡ Some h.0 =
        sym (none_stands_above (now ∷ past) lcid order far) ∙ bearer_on_is lcid (now ∷ past) ∙ h.1 in
        absurd cc)
    | inr low ↦ bearer_stands now past told one lcid h.0 low h.1
  ]

  known_so : (told others : List Record) (one : Record) → now.events ≡ told ++ one ∷ others → (lcid : ℕ)
      → channel_in one ≡ Some lcid → HasBearer (now ∷ past) lcid
  known_so told others one are =
      known_at (λ (x : Record). (lcid : ℕ) → channel_in x ≡ Some lcid → HasBearer (now ∷ past) lcid) told others one
      (subst (AllByRecursion (λ (x : Record). (lcid : ℕ) → channel_in x ≡ Some lcid → HasBearer (now ∷ past) lcid)) are
      (records_known now past order own flows_told.order loops))

  module _ (told others : List Record) (one : Record) (are : now.events ≡ told ++ one ∷ others) where
    abbrev s : AllSent
    s = sending_first now past told

    abbrev j : Given
    j = giving_before now past told one

    is_known_so : (o : Option ℕ) → ((lcid : ℕ) → o ≡ Some lcid → HasBearer (now ∷ past) lcid)
        → IsTrue (is_known o (settled one s))
    is_known_so None h = refl
    is_known_so (Some lcid) h = has_channel lcid told one (h lcid refl)

    module _ (is_own : IsOwnRecord one) where
      none : submitted_by now.line ≡ None
      none =
          unsubmitted_by (ttis past) (kinds past) (λ side. channels past) now.line told others one is_own
          (subst (LineTells (ttis past) (kinds past) (λ side. channels past) now.line) are flows_told.order.0)

      stood : (side : Side) (l : ℕ) → flow_on side l (settled one s) ≡ flow_on side l s
      stood side l = unsubmitted_flow side l one s (first_unsubmitted now past told none)

      -- of acknowledged data, or of another kind
      data FlowKind (l : ℕ) (f : Flow) : Type 0 where
        OfData : is_data f.layout ≡ true → (c : BearerConfig) → c.kind ≡ bearers.Am → config_of l (now ∷ past) ≡ Some c
            → l ≤ 10 → FlowKind l f
        OfQueue : is_data f.layout ≡ false → IsRightRecord l now past told one → FlowKind l f

      kind_of : (side : Side) (l : ℕ) (f : Flow) → flow_on side l (settled one s) ≡ Some f → FlowKind l f
      kind_of side l f is =
          let x = flow_stands now past told side l f (sym (stood side l) ∙ is) in
          by (is_data f.layout) refl x
        where
          by : (b : Bool) → is_data f.layout ≡ b → IsOfBearer now past l f → FlowKind l f
          by true e x =
              OfData e x.config
              (data_kind x.config.kind x.config.rlc_bits x.config.pdcp_bits (ap is_data (sym x.layout_is) ∙ e)) x.is
              x.low
          by false e x =
              let of = other_kind x.config.kind x.config.rlc_bits x.config.pdcp_bits
              (ap is_data (sym x.layout_is) ∙ e) in
              let q = queues_behind l (now ∷ past) x.config order own of x.is
              (bases_by x.config.kind l (now ∷ past) x.config refl of order own) in
              OfQueue e (at_record l now past told others [] one
              (subst (AreRightRecords l now past []) are q.right))

      -- an SDU that RLC takes of acknowledged data
      takes_so : (side : Side) (l : ℕ) (count : Option ℕ) (c : BearerConfig) → c.kind ≡ bearers.Am
          → config_of l (now ∷ past) ≡ Some c → l ≤ 10 → IfSome (sdu_of given.histories side l count j) IsSdu
      takes_so side l count c kind config low =
          let other = adds_none (ttis past) (kinds past) (λ side'. channels past) now.line told others one l
          (subst (LineTells (ttis past) (kinds past) (λ side'. channels past) now.line) are flows_told.order.0) in
          let before = unchanged l now.line (config_of l past) c other config in
          takes_sized [] now past order.0 order.1 none c l low other
          (sending_behind (now ∷ []) l past c order.1 kind before apart.1 (tells_before now past flows_told)) told
          others one are side count

      -- ---- events

      -- of the flow that stands there, if one does
      where_it_stands : (side : Side) (l : ℕ) (P : Flow → Type 0)
          → ((f : Flow) → flow_on side l s ≡ Some f → FlowKind l f → P f)
          → IfSome (flow_on side l (settled one s)) P
      where_it_stands side l P right = by (flow_on side l (settled one s)) refl
        where
          by : (o : Option Flow) → flow_on side l (settled one s) ≡ o → IfSome o P
          by None e = tt
          by (Some f) e = right f (sym (stood side l) ∙ e) (kind_of side l f e)

      event_right : (side : Side) (event : Event) → one ≡ records.Of side event
          → IsRightEvent side event j (settled one s)
      event_right side (events.Take lcid count len) is =
          where_it_stands side lcid
          (λ (f : Flow). TakenAs f.layout count len (sdu_of given.histories side lcid count j) f)
          (λ f there kind. by f there kind)
        where
          by : (f : Flow) → flow_on side lcid s ≡ Some f → FlowKind lcid f
              → TakenAs f.layout count len (sdu_of given.histories side lcid count j) f
          by f there (OfData data' c kind config low) =
              taken_data f.layout count len (sdu_of given.histories side lcid count j) f data'
              (takes_so side lcid count c kind config low)
          by f there (OfQueue plain right) =
              taken_first f.layout count len (sdu_of given.histories side lcid count j) f plain
              (subst (IsRightRecord lcid now past told) is right f there refl)
      event_right side (events.Report lcid fms bitmap) is =
          where_it_stands side lcid (λ (f : Flow). IsTrue (is_data f.layout)) (λ f there kind. by f there kind)
        where
          by : (f : Flow) → flow_on side lcid s ≡ Some f → FlowKind lcid f → IsTrue (is_data f.layout)
          by f there (OfData data' c kind config low) = data'
          by f there (OfQueue plain right) = absurd (subst (IsRightRecord lcid now past told) is right f there refl)
      event_right side (events.Discard lcid len) is =
          where_it_stands side lcid (λ (f : Flow). DiscardedOf f.layout f) (λ f there kind. by f there kind)
        where
          by : (f : Flow) → flow_on side lcid s ≡ Some f → FlowKind lcid f → DiscardedOf f.layout f
          by f there (OfData data' c kind config low) = discarded_data f.layout f data'
          by f there (OfQueue plain right) =
              discarded_first f.layout f plain (subst (IsRightRecord lcid now past told) is right f there refl)
      event_right side event is = tt

      -- ---- a new block

      module _ (right : PduTest)
          (pick : (acked : ℕ → Bool) (how : How) (passed : Option (List ℕ)) (octets : List ℕ) (f : Flow)
          → IsRightPdu acked how passed octets f → right acked how passed octets f) where
        block_right : (direction : Direction) (process version : ℕ) (octets : List ℕ)
            → one ≡ records.Block direction process true version octets
            → InBlock right direction octets j (settled one s)
        block_right direction process version octets is =
            right_on_all right direction octets j (settled one s)
            (λ l f there.
            subst (λ (ps : List SentPdu). AreRight right (acked_at from l j) ps f)
            (ap (λ (named : List _). pdus_on l named (sdus_read (reading direction octets)))
            (sym (settled_names one from s)))
            (each_pdu right pick (acked_at from l j) (sent_on l direction octets s) f
            (by l f (sym (stood from l) ∙ there) (kind_of from l f there))))
          where
            from : Side
            from = sender_of direction

            by : (l : ℕ) (f : Flow) → flow_on from l s ≡ Some f → FlowKind l f
                → AreRight IsRightPdu (acked_at from l j) (sent_on l direction octets s) f
            by l f there (OfData data' c kind config low) =
                subst (λ (x : Record). AreRight IsRightPdu (acked_at from l (giving_before now past told x))
                (sent_on l direction octets s) f) (sym is)
                (subst (IsSentOn l now past told) is
                (group_said now past l c order kind config own flows_told told one others are) f there data')
            by l f there (OfQueue plain rights) =
                subst (λ (x : Record). AreRight IsRightPdu (acked_at from l (giving_before now past told x))
                (sent_on l direction octets s) f) (sym is)
                (subst (IsRightRecord l now past told) is rights f there)

  -- ---- by both tests

  one_sent : (told others : List Record) (one : Record) → now.events ≡ told ++ one ∷ others
      → RecordIsSent one (giving_before now past told one) (settled one (sending_first now past told))
  one_sent told others (records.Of side event) are = (
    is_known_so told others (records.Of side event) are (lcid_in event)
        (λ lcid is. known_so told others (records.Of side event) are lcid is),
    event_right told others (records.Of side event) are tt side event refl,
  )
  one_sent told others (records.Block direction process true version octets) are =
      block_right told others (records.Block direction process true version octets) are tt PduIsSent
      (λ acked how passed octets' f h. h.0) direction process version octets refl
  one_sent told others (records.Looped lcid octets) are =
      has_channel lcid told (records.Looped lcid octets)
      (known_so told others (records.Looped lcid octets) are lcid refl)
  one_sent told others (records.Refused side lcid why) are =
      has_channel lcid told (records.Refused side lcid why)
      (known_so told others (records.Refused side lcid why) are lcid refl)
  one_sent told others one are = tt

  one_shaped : (told others : List Record) (one : Record) → now.events ≡ told ++ one ∷ others
      → RecordIsShaped one (giving_before now past told one) (settled one (sending_first now past told))
  one_shaped told others (records.Block direction process true version octets) are =
      block_right told others (records.Block direction process true version octets) are tt PduIsShaped
      (λ acked how passed octets' f h. h.1) direction process version octets refl
  one_shaped told others one are = tt

-- ---- one behind the other

module _ (right : RecordTest) (now : Group) (past : List Group)
    (each : (told others : List Record) (one : Record) → now.events ≡ told ++ one ∷ others
    → right one (giving_before now past told one) (settled one (sending_first now past told))) where
  each_right : (others told : List Record) (j : Given) (s : AllSent) → now.events ≡ told ++ others
      → j ≡ giving_first now past told → s ≡ sending_first now past told → EachRecord right others j s
  each_right [] told j s are given_is sent_is = tt
  each_right (one ∷ others) told j s are given_is sent_is = (
    subst (λ (x : AllSent). right one (giving.settled given.histories one j) (settled one x)) (sym sent_is)
        (subst (λ (x : Given). right one (giving.settled given.histories one x)
        (settled one (sending_first now past told))) (sym given_is) (each told others one are)),
    each_right others (told ++ one ∷ []) (giving.after_record given.histories one j)
        (after_record histories given.histories one (giving.settled given.histories one j) s)
        (are ∙ sym (append_assoc told (one ∷ []) others))
        (ap (giving.after_record given.histories one) given_is ∙ sym (giving_next now past told one))
        (ap (λ (x : Given). after_record histories given.histories one (giving.settled given.histories one x) s)
        given_is
        ∙ ap (after_record histories given.histories one (giving_before now past told one)) sent_is
        ∙ sym (sending_next now past told one)),
  )

  pub records_right : EachRecord right now.events
      (giving.after_line given.histories now.line (all_given given.histories past))
      (after_line histories now.line (all_sending histories given.histories past))
  records_right = each_right now.events [] _ _ refl refl refl

-- ---- each group

groups_sent : (past : List Group) → KeepsOrder past → is_forged past ≡ false → TellsFlows past → ReturnInOrder past
    → SentIsRight past × ShapesAreRight past
groups_sent [] order own told loops = (tt, tt)
groups_sent (now ∷ past) order own told loops =
    let more = groups_sent past order.1 (both_false (forges now.line) (is_forged past) own).1
    (tells_before now past told) loops.1 in (
      (records_right RecordIsSent now past (one_sent now past order own told loops), more.0),
      (records_right RecordIsShaped now past (one_shaped now past order own told loops), more.1),
    )

pub runs_send_rightly : RunsSendRightly
runs_send_rightly whole octets played p own =
    groups_sent p.past p.order own (runs_tell_flows whole octets played p) p.loops
