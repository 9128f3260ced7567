-- The STATUS PDUs in a script's journal are right, as their checker asks it: on channels with an acknowledged bearer by
-- what is read of its groups, and elsewhere there are none.
use Rattle.std.proofs.Common.{◌≡◌, ◌≤◌, ℕ, zero, suc, ◌+◌, Bool, true, false, if◌then◌else◌, List, []}
use Rattle.std.proofs.Common.{◌∷◌, ◌++◌, length, Option, Some, None, Result, Ok, inl, inr, refl, ap, sym, subst, ◌∙◌}
use Rattle.std.proofs.Common.{arith}
use Rattle.std.specs.Prelude.{slice_index_or, slice_set, unwrap_or}
use Rattle.std.specs.List.{AllByRecursion}
use Rattle.std.proofs.lemmas.List.Elements.{All-from_recursion}
use Rattle.std.proofs.lemmas.Bool.{cases_lt}
use Rattle.air_record.specs.declared.record.Record.{Record}
use Rattle.air_record.specs.declared.record.Record.TheVariants as records
use Rattle.air_text.specs.Groups.{Group}
use Rattle.bearer_types.specs.Sides.{other, sender_of}
use Rattle.bearer_types.specs.declared.config.BearerConfig.{BearerConfig}
use Rattle.l2_types.specs.declared.channel.Kind.{Kind}
use Rattle.l2_types.specs.declared.channel.Kind.TheVariants as bearers
use Rattle.l2_types.specs.declared.side.Side.{Side}
use Rattle.l2_types.specs.declared.side.Side.TheVariants.{Nb, Ue}
use Rattle.mac_pdu.specs.declared.builder.Sdu.{Sdu}
use Rattle.mac_pdu.specs.declared.item.Direction.{Direction}
use Rattle.mac_pdu.specs.declared.item.Direction.TheVariants as directions
use Rattle.mac_pdu.specs.Reading.{reading}
use Rattle.rlc_pdu.specs.declared.fault.RlcRefusal.{RlcRefusal}
use Rattle.rlc_pdu.specs.Pdus.{AcknowledgedPdu, UmdPdu, Payload, Status}
use Rattle.rlc_pdu.specs.Reading.{am_at, umd_at}
use Rattle.l2_types.specs.declared.event.How.{How}
use Rattle.l2_types.specs.declared.event.How.TheVariants as hows
use Rattle.law_bearer.proofs.AnyBearer.SenderCalls.{all_then}
use Rattle.journal_flows.specs.NumberedPdus.{parcel_by}
use Rattle.journal_flows.specs.UmPdus.{um_parcel_by}
use Rattle.pdcp_pdu.specs.declared.pdu.PdcpKind.{PdcpKind}
use Rattle.pdu_show.specs.Kinds.{layout_of}
use Rattle.pdu_show.specs.declared.kinds.Layout.{Layout}
use Rattle.pdu_show.specs.declared.kinds.Layout.TheVariants as layouts
use Rattle.prioritise.proofs.ChannelLemmas.{both_false}
use Rattle.promises.specs.Blocks.{kinds}
use Rattle.promises.specs.Configs.{config_of}
use Rattle.promises.specs.Delivery.{forges, is_forged}
use Rattle.journal_account.specs.Acked.{ignored_in}
use Rattle.journal_account.specs.FlowEvents.{FlowEvent}
use Rattle.journal_lives.specs.LifeEvents.{running}
use Rattle.journal_flows.specs.declared.parcels.Parcel.{Parcel}
use Rattle.journal_flows.specs.declared.parcels.Parcel.TheVariants.{Octets, Pieces, Report}
use Rattle.journal_flows.specs.declared.sending.Named.{Named}
use Rattle.journal_flows.specs.FlowsTold.{Histories, Flows, histories, no_events}
use Rattle.journal_flows.specs.Accounts.{is_acked_kind}
use Rattle.journal_flows.specs.Gathering.{Journal, Sending, Loaded, MayTake, sending_of, sent_last, sdus_read}
use Rattle.journal_flows.specs.Gathering.{parcel_of, parcel_in}
use Rattle.journal_flows.specs.Gathering.{loads_parcel, loads, behind, behind_line, behind_new, behind_record}
use Rattle.journal_flows.specs.Gathering.{behind_records}
use Rattle.journal_flows.specs.Laws.{bearer_on}
use Rattle.journal_status.specs.RightStatus.{up_to, IsTrueReport, StatusesAreTrue}
use Rattle.journal_status.specs.RightStatus.{tells_ignored, ignored_told, ignored_by, ignored_within, AreIgnoredTold}
use Rattle.journal_status.specs.RightStatus.{GroupStatusRight, StatusIsRight}
use Rattle.law_run.specs.Order.{KeepsOrder}
use Rattle.law_run.specs.TwoEnds.Lived.{IsAcknowledged}
use Rattle.law_sound.specs.AlikeLaws.{AreAlikeJournals, TellAlike}
use Rattle.law_sound.specs.BesideLaws.{ReadRecord, behind_all}
use Rattle.law_sound.specs.ElsewhereLaws.{IsUnacked, TellsNoneElsewhere, TellNoneElsewhere}
use Rattle.law_sound.specs.GroupReading.{IsReadTruly}
use Rattle.law_sound.specs.LoggedRecords.{records_of}
use Rattle.law_sound.specs.RunLaws.{RunsReportTruly}
use Rattle.law_sound.specs.StepReading.{ignored_so_far, IsTrueOf, AreTrueAt, TellTruly}
use Rattle.law_sound.proofs.AlikeJournals.{tell_alike}
use Rattle.law_sound.proofs.Delivering.{bearer_is}
use Rattle.law_sound.proofs.Elsewhere.{others_tell_none}
use Rattle.law_sound.proofs.ElsewhereRight.{others_are_right}
use Rattle.law_sound.proofs.GroupCarrying.{reads_alike}
use Rattle.law_sound.proofs.GroupReading.{groups_are_read}
use Rattle.law_sound.proofs.GroupKinds.{layout_by, are_kinds}
use Rattle.law_sound.proofs.StepLogs.{records_then}
use Rattle.law_sound.proofs.StepStatuses.{ignored_next, ignored_both}

-- ---- a STATUS is gathered only of a channel that is known as an acknowledged one

abbrev IsKnownAm : List (Option Layout) → ℕ → Type 0
IsKnownAm ks lcid = (kind : PdcpKind) × (slice_index_or ks lcid None ≡ Some (layouts.Am kind))

abbrev IsKnownReport : List (Option Layout) → Parcel → Type 0
IsKnownReport ks (Octets lcid n start end) = Unit {0}
IsKnownReport ks (Pieces lcid n size pieces) = Unit {0}
IsKnownReport ks (Report lcid ack entries) = IsKnownAm ks lcid

abbrev IsKnownIn : List (Option Layout) → Option Parcel → Type 0
IsKnownIn ks None = Unit {0}
IsKnownIn ks (Some p) = IsKnownReport ks p

parcel_known : (ks : List (Option Layout)) (flows : Histories) (from : Side) (s : Named) (octets : List ℕ)
    → IsKnownIn ks (parcel_of histories ks flows from s octets)
parcel_known ks flows from s octets = by (slice_index_or ks s.lcid None) refl
  where
    status : (kind : PdcpKind) (next front : ℕ) (how : How) (read : Result AcknowledgedPdu RlcRefusal)
        → slice_index_or ks s.lcid None ≡ Some (layouts.Am kind) → IsKnownIn ks (parcel_by next front s.lcid how read)
    status kind next front hows.New (Ok (Payload pdu)) q = tt
    status kind next front hows.Re (Ok (Payload pdu)) q = tt
    status kind next front hows.Status (Ok (Status pdu)) q = (kind, q)
    status kind next front how read q = tt

    pieces : (next place : ℕ) (how : How) (read : Result UmdPdu RlcRefusal)
        → IsKnownIn ks (um_parcel_by next place s.lcid how read)
    pieces next place hows.New (Ok pdu) = tt
    pieces next place how read = tt

    by : (o : Option Layout) → slice_index_or ks s.lcid None ≡ o
        → IsKnownIn ks (parcel_in histories o flows from s octets)
    by (Some (layouts.Am kind)) q = status kind _ _ s.how (am_at octets) q
    by (Some (layouts.Um bits kind)) q = pieces _ _ s.how (umd_at bits octets)
    by (Some layouts.Tm) q = tt
    by None q = tt

module _ (ks : List (Option Layout)) where
  abbrev AreKnown : List Parcel → Type 0
  AreKnown ps = AllByRecursion (IsKnownReport ks) ps

  loads_known : (from : Side) (named : List Named) (sdus : List Sdu) (b : Loaded Histories) → AreKnown b.parcels
      → AreKnown (loads histories ks from named sdus b).parcels
  loads_known from [] sdus b h = h
  loads_known from (s ∷ named) [] b h = h
  loads_known from (s ∷ named) (d ∷ sdus) b h =
      let o = parcel_of histories ks b.flows from s d.octets in
      loads_known from named sdus (loads_parcel histories from s.how o b)
      (one o (parcel_known ks b.flows from s d.octets))
    where
      one : (o : Option Parcel) → IsKnownIn ks o → AreKnown (loads_parcel histories from s.how o b).parcels
      one None known = h
      one (Some p) known = all_then (IsKnownReport ks) b.parcels (p ∷ []) h (known, tt)

  -- what a process holds is what was put there
  put_held : (ps : List Parcel) (held : List (Option (List Parcel))) (n : ℕ) → AreKnown ps
      → AreKnown (unwrap_or (slice_index_or (slice_set held n (Some ps)) n None) [])
  put_held ps [] n h = tt
  put_held ps (x ∷ held) zero h = h
  put_held ps (x ∷ held) (suc n) h = put_held ps held n h

  block_known : (direction : Direction) (process : ℕ) (octets : List ℕ) (i : Journal Histories)
      → AreKnown (sent_last (sending_of (sender_of direction) (behind_new histories ks direction process octets i)))
  block_known directions.Down process octets i =
      put_held _ i.nb.held process (loads_known Nb i.nb.named (sdus_read (reading directions.Down octets)) _ tt)
  block_known directions.Up process octets i =
      put_held _ i.ue.held process (loads_known Ue i.ue.named (sdus_read (reading directions.Up octets)) _ tt)

  each_true : (flows : Flows) (from : Side) (ps : List Parcel) → AreKnown ps
      → ((l : ℕ) → IsKnownAm ks l → AllByRecursion (IsTrueOf l (running (flows (other from) l))) ps)
      → AllByRecursion (IsTrueReport flows from) ps
  each_true flows from [] known h = tt
  each_true flows from (Octets lcid n start end ∷ ps) known h = (tt, each_true flows from ps known.1 (λ l k. (h l k).1))
  each_true flows from (Pieces lcid n size pieces ∷ ps) known h =
      (tt, each_true flows from ps known.1 (λ l k. (h l k).1))
  each_true flows from (Report lcid ack entries ∷ ps) known h =
      ((h lcid known.0).0 refl, each_true flows from ps known.1 (λ l k. (h l k).1))

-- ---- what is true of alike histories

still_true : (l : ℕ) (es fs : List FlowEvent) (ps : List Parcel) → TellAlike es fs
    → AllByRecursion (IsTrueOf l es) ps → AllByRecursion (IsTrueOf l fs) ps
still_true l es fs [] alike h = tt
still_true l es fs (Octets lcid n start end ∷ ps) alike h = (tt, still_true l es fs ps alike h.1)
still_true l es fs (Pieces lcid n size pieces ∷ ps) alike h = (tt, still_true l es fs ps alike h.1)
still_true l es fs (Report lcid ack entries ∷ ps) alike h =
    (λ same. alike.statuses ack entries (h.0 same), still_true l es fs ps alike h.1)

turned : (i j : Journal Histories) → AreAlikeJournals i j → AreAlikeJournals j i
turned i j h = record {
  flows = record {
    acked = λ side lcid. sym (h.flows.acked side lcid);
    unacked = λ side lcid. sym (h.flows.unacked side lcid);
  };
  nb = sym h.nb;
  ue = sym h.ue;
}

same_sending : (side : Side) (i j : Journal Histories) → AreAlikeJournals i j → sending_of side i ≡ sending_of side j
same_sending Nb i j h = h.nb
same_sending Ue i j h = h.ue

-- ---- a record among those that are read

head_of : (x y : Record) (xs ys : List Record) → x ∷ xs ≡ y ∷ ys → x ≡ y
head_of x y xs ys e = cc

tail_of : (x y : Record) (xs ys : List Record) → x ∷ xs ≡ y ∷ ys → xs ≡ ys
tail_of x y xs ys e = cc

record IsSplit (reads : List ReadRecord) (told : List Record) (one : Record) : Type 0 where
  before : List ReadRecord
  more : Bool
  behind : List ReadRecord
  are : reads ≡ before ++ record { more = more; one = one } ∷ behind
  before_are : records_of before ≡ told

split_reads : (told : List Record) (one : Record) (others : List Record) (reads : List ReadRecord)
    → records_of reads ≡ told ++ one ∷ others → IsSplit reads told one
split_reads [] one others [] e = absurd (let no = e in cc)
split_reads [] one others (x ∷ reads) e =
    let same : x.one ≡ one = head_of x.one one (records_of reads) others e in
    record {
      before = [];
      more = x.more;
      behind = reads;
      are = ap (λ (z : Record). record { more = x.more; one = z } ∷ reads) same;
      before_are = refl;
    }
split_reads (t ∷ told) one others [] e = absurd (let no = e in cc)
split_reads (t ∷ told) one others (x ∷ reads) e =
    let same : x.one ≡ t = head_of x.one t (records_of reads) (told ++ one ∷ others) e in
    let rest' = split_reads told one others reads (tail_of x.one t (records_of reads) (told ++ one ∷ others) e) in
    record {
      before = x ∷ rest'.before;
      more = rest'.more;
      behind = rest'.behind;
      are = ap (λ (zs : List ReadRecord). x ∷ zs) rest'.are;
      before_are = ap (λ (z : Record). z ∷ records_of rest'.before) same
          ∙ ap (λ (zs : List Record). t ∷ zs) rest'.before_are;
    }

-- as it is told of truly
record IsTrueThere (ks : List (Option Layout)) (l : ℕ) (said : Side → ℕ) (j : Journal Histories)
    (before : List ReadRecord) (x : ReadRecord) : Type 0 where
  reports : AreTrueAt l (behind_all ks (before ++ x ∷ []) j) x.one
  ignored : (side : Side) → tells_ignored side l x.one ≡ true
      → (said side + ignored_told side l (records_of before)) + 1
      ≤ ignored_so_far side l (behind_all ks (before ++ x ∷ []) j)

true_there : (ks : List (Option Layout)) (l : ℕ) (said : Side → ℕ) (j : Journal Histories) (before : List ReadRecord)
    (x : ReadRecord) (behind' : List ReadRecord) → TellTruly ks l said j (before ++ x ∷ behind')
    → IsTrueThere ks l said j before x
true_there ks l said j [] x behind' h = record {
  reports = h.0;
  ignored = λ side q. let few = h.1 side q in omega (arith, few);
}
true_there ks l said j (y ∷ before) x behind' h =
    let i = behind_record histories ks y.more y.one j in
    let more = true_there ks l (λ side. said side + ignored_told side l (y.one ∷ [])) i before x behind' h.2 in
    record {
      reports = more.reports;
      ignored = λ side q.
          let few = more.ignored side q in
          let all = ignored_next side l y.one (records_of before) in
          omega (arith, few, all);
    }

-- ---- the channels with an acknowledged bearer

record IsAckedOn (l : ℕ) (past : List Group) : Type 0 where
  config : BearerConfig
  is : config_of l past ≡ Some config
  acked : IsAcknowledged config.kind

acked_of : (kind : Kind) (rlc bits : ℕ) (pdcp' : PdcpKind) → Some (layout_of kind rlc bits) ≡ Some (layouts.Am pdcp')
    → IsAcknowledged kind
acked_of bearers.Tm rlc bits pdcp' e = absurd (let no = e in cc)
acked_of bearers.Srb rlc bits pdcp' e = tt
acked_of bearers.Um rlc bits pdcp' e = absurd (let no = e in cc)
acked_of bearers.Am rlc bits pdcp' e = tt

out_of_range : (xs : List (Option Layout)) (l : ℕ) → length xs ≤ l → slice_index_or xs l None ≡ None
out_of_range [] l h = refl
out_of_range (x ∷ xs) zero h = absurd (omega (arith, h))
out_of_range (x ∷ xs) (suc l) h = out_of_range xs l (omega (arith, h))

acked_on : (past : List Group) (l : ℕ) → IsKnownAm (kinds past) l → IsAckedOn l past
acked_on past l (kind, q) = elim (cases_lt l 11) as (λ w. IsAckedOn l past) [
  | inl low ↦ by (config_of l past) refl (sym ((are_kinds past).is l (omega (arith, low))) ∙ q)
  | inr high ↦
      let size = (are_kinds past).size in
      let none : None ≡ Some (layouts.Am kind) =
      sym (out_of_range (kinds past) l (omega (arith, size, high))) ∙ q in
      absurd (let no = none in cc)
]
  where
    by : (o : Option BearerConfig) → config_of l past ≡ o → layout_by o ≡ Some (layouts.Am kind) → IsAckedOn l past
    by None is e = absurd (let no = e in cc)
    by (Some c) is e =
        record { config = c; is = is; acked = acked_of c.kind c.rlc_bits c.pdcp_bits kind e }

-- ---- of a group

module _ (may_take : MayTake) (now : Group) (past : List Group) (order : KeepsOrder (now ∷ past))
    (own : is_forged (now ∷ past) ≡ false) where
  abbrev ks : List (Option Layout)
  ks = kinds (now ∷ past)

  abbrev begun : Journal Histories
  begun = behind_line histories now.line (behind histories no_events may_take past)

  -- behind the first records of it
  abbrev told_to : List Record → Journal Histories
  told_to told = behind_records histories may_take past ks [] told begun

  -- what is read stands beside it
  read_beside : (c : BearerConfig) (l : ℕ) (x : IsReadTruly may_take c l now past) (reads : List ReadRecord)
      (told : List Record)
      → records_of reads ≡ told → AreAlikeJournals (told_to told) (behind_all ks reads x.first)
  read_beside c l x reads told e =
      subst (λ (zs : List Record). AreAlikeJournals (told_to zs) (behind_all ks reads x.first)) e
      (reads_alike may_take past ks reads [] begun x.first x.alike)

  record IsTruly (c : BearerConfig) (l : ℕ) (told : List Record) (one : Record)
      (x : IsReadTruly may_take c l now past) : Type 0 where
    before : List ReadRecord
    before_are : records_of before ≡ told
    read : ReadRecord
    one_is : read.one ≡ one
    truly : IsTrueThere ks l (λ side. ignored_so_far side l x.first) x.first before read
    alike : AreAlikeJournals (told_to (told ++ one ∷ [])) (behind_all ks (before ++ read ∷ []) x.first)

  truly_at : (c : BearerConfig) (l : ℕ) (told : List Record) (one : Record) (others : List Record)
      → now.events ≡ told ++ one ∷ others
      → (x : IsReadTruly may_take c l now past) → IsTruly c l told one x
  truly_at c l told one others e x =
      let s = split_reads told one others x.reads (x.are ∙ e) in
      let read : ReadRecord = record { more = s.more; one = one } in
      record {
        before = s.before;
        before_are = s.before_are;
        read = read;
        one_is = refl;
        truly = true_there ks l _ x.first s.before read s.behind
            (subst (TellTruly ks l (λ side. ignored_so_far side l x.first) x.first) s.are x.statuses.each);
        alike = read_beside c l x (s.before ++ read ∷ []) (told ++ one ∷ [])
            (records_then s.before (read ∷ []) ∙ ap (λ (zs : List Record). zs ++ one ∷ []) s.before_are);
      }

  -- ---- the STATUS in a new block

  record LastRecord (told : List Record) (one : Record) : Type 0 where
    more : Bool
    before : Journal Histories
    is : told_to (told ++ one ∷ []) ≡ behind_record histories ks more one before

  last_record : (told : List Record) (one : Record) → LastRecord told one
  last_record told one = let l = by told [] begun in record { more = l.0; before = l.1; is = l.2 }
    where
      by : (told before : List Record) (j : Journal Histories)
          → (more : Bool) × (i : Journal Histories)
          × (behind_records histories may_take past ks before (told ++ one ∷ []) j
          ≡ behind_record histories ks more one i)
      by [] before j = (may_take past before one, j, refl)
      by (t ∷ told) before j = by told (t ∷ before) (behind_record histories ks (may_take past before t) t j)

  block_reports : (told others : List Record) (direction : Direction) (process version : ℕ) (octets : List ℕ)
      → now.events ≡ told ++ records.Block direction process true version octets ∷ others
      → AllByRecursion
      (IsTrueReport (told_to (told ++ records.Block direction process true version octets ∷ [])).flows.acked
      (sender_of direction))
      (sent_last (sending_of (sender_of direction)
      (told_to (told ++ records.Block direction process true version octets ∷ []))))
  block_reports told others direction process version octets e =
      let one = records.Block direction process true version octets in
      let from = sender_of direction in
      let j = told_to (told ++ one ∷ []) in
      let last = last_record told one in
      each_true ks j.flows.acked from (sent_last (sending_of from j))
      (subst (λ (i : Journal Histories). AreKnown ks (sent_last (sending_of from i))) (sym last.is)
      (block_known ks direction process octets last.before))
      (λ l known.
      let c = acked_on (now ∷ past) l known in
      let x = groups_are_read may_take l now past c.config order own c.is c.acked in
      let t = truly_at c.config l told one others e x in
      let i = behind_all ks (t.before ++ t.read ∷ []) x.first in
      let there : AreTrueAt l i one = subst (AreTrueAt l i) t.one_is t.truly.reports in
      subst (λ (s : Sending). AllByRecursion (IsTrueOf l (running (j.flows.acked (other from) l))) (sent_last s))
      (sym (same_sending from j i t.alike))
      (still_true l (running (i.flows.acked (other from) l)) (running (j.flows.acked (other from) l))
      (sent_last (sending_of from i))
      (tell_alike i.flows j.flows (turned j i t.alike).flows (other from) l) there))

  statuses_true : StatusesAreTrue may_take now past
  statuses_true told (records.Block direction process true version octets) others e =
      let one = records.Block direction process true version octets in
      let from = sender_of direction in
      let j = told_to (told ++ one ∷ []) in
      All-from_recursion (IsTrueReport j.flows.acked from) (sent_last (sending_of from j))
      (block_reports told others direction process version octets e)
  statuses_true told one others e = tt

  -- ---- those that are ignored

  module _ (side : Side) (l : ℕ) (c : BearerConfig) (is : bearer_on l (now ∷ past) ≡ Some c)
      (acked : is_acked_kind c.kind ≡ true) (x : IsReadTruly may_take c l now past) where
    within_is : (told : List Record) (i : Journal Histories) → AreAlikeJournals (told_to told) i
        → ignored_within may_take (up_to told now) past side l ≡ ignored_so_far side l i
    within_is told i alike =
        let es = (told_to told).flows.acked side l in
        ap (λ (o : Option BearerConfig). ignored_by o es) is
        ∙ (ap (λ (b : Bool). if b then ignored_in (running es) else 0) acked
        ∙ (tell_alike (told_to told).flows i.flows alike.flows side l).ignored)

    ignored_truly : AreIgnoredTold may_take now past side l
    ignored_truly = record {
      behind_each = λ told one others e tells.
          let t = truly_at c l told one others e x in
          let first = within_is [] x.first x.alike in
          let there = within_is (told ++ one ∷ []) (behind_all ks (t.before ++ t.read ∷ []) x.first) t.alike in
          let few = t.truly.ignored side (ap (tells_ignored side l) t.one_is ∙ tells) in
          let same = ap (ignored_told side l) t.before_are in
          let all = ignored_both side l told (one ∷ []) in
          let one' = ap (λ (b : Bool). length (if b then one ∷ [] else [])) tells in
          omega (arith, first, there, few, same, all, one');
      behind_all =
          let first = within_is [] x.first x.alike in
          let there = within_is now.events (behind_all ks x.reads x.first)
          (read_beside c l x x.reads now.events x.are) in
          let all = x.statuses.all side in
          let same = ap (ignored_told side l) x.are in
          omega (arith, first, there, all, same);
    }

acked_kind : (kind : Kind) → is_acked_kind kind ≡ true → IsAcknowledged kind
acked_kind bearers.Tm h = absurd (let no = h in cc)
acked_kind bearers.Srb h = tt
acked_kind bearers.Um h = absurd (let no = h in cc)
acked_kind bearers.Am h = tt

group_right : (may_take : MayTake) (now : Group) (past : List Group) → KeepsOrder (now ∷ past)
    → is_forged (now ∷ past) ≡ false → TellsNoneElsewhere now past → GroupStatusRight may_take now past
group_right may_take now past order own none = record {
  are_true = statuses_true may_take now past order own;
  on_channels = λ side lcid low. by side lcid (bearer_on lcid (now ∷ past)) refl;
  elsewhere = λ side lcid high. (none.elsewhere side lcid high).ignored;
}
  where
    unacked : (side : Side) (lcid : ℕ) → IsUnacked (bearer_on lcid (now ∷ past))
        → AreIgnoredTold may_take now past side lcid
    unacked side lcid h = (others_are_right may_take now past side lcid h (none.on_channels side lcid h)).ignored

    of_kind : (side : Side) (lcid : ℕ) (c : BearerConfig) (b : Bool) → bearer_on lcid (now ∷ past) ≡ Some c
        → is_acked_kind c.kind ≡ b → AreIgnoredTold may_take now past side lcid
    of_kind side lcid c false is q = unacked side lcid (subst IsUnacked (sym is) q)
    of_kind side lcid c true is q =
        ignored_truly may_take now past order own side lcid c is q
        (groups_are_read may_take lcid now past c order own (sym (bearer_is lcid (now ∷ past)) ∙ is)
        (acked_kind c.kind q))

    by : (side : Side) (lcid : ℕ) (o : Option BearerConfig) → bearer_on lcid (now ∷ past) ≡ o
        → AreIgnoredTold may_take now past side lcid
    by side lcid None is = unacked side lcid (subst IsUnacked (sym is) tt)
    by side lcid (Some c) is = of_kind side lcid c (is_acked_kind c.kind) is refl

all_right : (may_take : MayTake) (past : List Group) → KeepsOrder past → is_forged past ≡ false → TellNoneElsewhere past
    → StatusIsRight may_take past
all_right may_take [] order own none = tt
all_right may_take (g ∷ past) (right, order) own none = (
  group_right may_take g past (right, order) own none.0,
  all_right may_take past order (both_false (forges g.line) (is_forged past) own).1 none.1,
)

pub runs_report_truly : RunsReportTruly
runs_report_truly may_take whole octets played p own =
    all_right may_take p.past p.order own (others_tell_none p.past p.order)
