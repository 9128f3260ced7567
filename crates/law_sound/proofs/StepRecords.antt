-- Records that log what a side tells in a step of a life are those of its bearer.
use Rattle.std.proofs.Common.{◌≡◌, ℕ, ◌%◌, ◌&&◌, Bool, true, false, if◌then◌else◌, List, [], ◌∷◌, ◌++◌, map}
use Rattle.std.proofs.Common.{Option, Some, None, slice_index_or, append-nil, refl, ap, sym, subst, ◌∙◌}
use Rattle.std.specs.List.{AllByRecursion, filter}
use Rattle.air_record.specs.declared.record.Record.{Record}
use Rattle.air_record.specs.declared.record.Record.TheVariants as records
use Rattle.bearer.specs.Acknowledged.State.{State, has_more}
use Rattle.bearer.specs.declared.flow.Flow.{Flow}
use Rattle.bearer.specs.declared.flow.Flow.TheVariants.{Am}
use Rattle.bearer_types.specs.declared.event.Event.{Event}
use Rattle.bearer_types.specs.declared.event.Event.TheVariants as events
use Rattle.bearer_types.specs.Sides.{is_same, sent_by, heard_by}
use Rattle.harq.specs.declared.sender.Visit.{Visit}
use Rattle.harq.specs.declared.sender.Visit.TheVariants.{New, Resend, Silent}
use Rattle.l2_node.specs.Building.{visit, visited}
use Rattle.l2_node.specs.End.{End}
use Rattle.l2_node.specs.Finding.{has}
use Rattle.l2_node.specs.Writing.{new_block}
use Rattle.l2_types.specs.declared.event.Clock.TheVariants.{Poll}
use Rattle.l2_types.specs.declared.side.Side.{Side}
use Rattle.l2_types.specs.declared.side.Side.TheVariants.{Nb, Ue}
use Rattle.law_bearer.specs.AnyBearer.Calls.{Call as BearerCall}
use Rattle.law_deliver.specs.AmFlow.Air.{Block, Station, Calls, built_at, IsCalling}
use Rattle.law_deliver.specs.AmFlow.Carrying.{Builds}
use Rattle.law_deliver.specs.AmFlow.Channels.{calls_of, GoesOnInLife}
use Rattle.law_deliver.specs.AmFlow.Ups.{calls_over}
use Rattle.law_node.specs.Calls.{Call, Turn, Visits, Receive, IsGiven, reached}
use Rattle.law_node.specs.Holding.{flow}
use Rattle.law_node.specs.Telling.{told_of}
use Rattle.pdcp_pdu.specs.declared.pdu.PdcpKind.{PdcpKind}
use Rattle.pdu_show.specs.declared.kinds.Layout.{Layout}
use Rattle.pdu_show.specs.declared.kinds.Layout.TheVariants as layouts
use Rattle.promises.specs.Events.{is_on}
use Rattle.promises.specs.Pdus.{carried}
use Rattle.law_run.specs.TwoEnds.ChannelLog.{on_channel, parted, told_in, come_in, written_in, coming}
use Rattle.law_run.specs.TwoEnds.ChannelLog.{HasRoom}
use Rattle.law_run.specs.TwoEnds.Logs.{LogEntry, Flight, logged, all_tell, log_in, Hears}
use Rattle.law_run.specs.TwoEnds.Logs.{Builds as EndBuilds}
use Rattle.law_run.specs.TwoEnds.SenderLog.{BearerEntry, Tells, telling, writing, bearer_logs}
use Rattle.law_run.proofs.ChannelLogs.{ends_log_on_channels}
use Rattle.law_run.proofs.KeptByCalls.{said_writing}
use Rattle.law_sound.specs.BesideLaws.{ReadRecord, tells, MayTakeAs, IsToldAt, AreRecordsOf}
use Rattle.law_sound.specs.LivedFails.{HasComeNew}
use Rattle.law_sound.specs.LoggedRecords.{records_of, IsOfSide, IsTold, IsOwn}
use Rattle.law_sound.specs.StepReading.{read_as, HasCountOn}
use Rattle.law_sound.proofs.LoggedRecords.{said_coming, said_parted, said_on, on_more, records_said, own_records_tell}

-- ---- the parts of a log

written_coming : (pdus : List (List ℕ)) (log : List BearerEntry) → written_in (coming pdus ++ log) ≡ written_in log
written_coming [] log = refl
written_coming (pdu ∷ pdus) log = written_coming pdus log

written_telling : (told : List Event) (log : List BearerEntry) → written_in (telling told ++ log) ≡ written_in log
written_telling [] log = refl
written_telling (e ∷ told) log = written_telling told log

written_writing : (written : List (List ℕ)) (log : List BearerEntry)
    → written_in (writing written ++ log) ≡ written ++ written_in log
written_writing [] log = refl
written_writing (octets ∷ written) log = ap (λ (ps : List (List ℕ)). octets ∷ ps) (written_writing written log)

written_alone : (written : List (List ℕ)) → written_in (writing written) ≡ written
written_alone [] = refl
written_alone (octets ∷ written) = ap (λ (ps : List (List ℕ)). octets ∷ ps) (written_alone written)

written_parted : (log : List BearerEntry) → written_in (parted log) ≡ written_in log
written_parted log =
    written_coming (come_in log) (telling (told_in log) ++ writing (written_in log))
    ∙ (written_telling (told_in log) (writing (written_in log)) ∙ written_alone (written_in log))

module _ (l : ℕ) (side : Side) where
  tells_written : (told : List Event) (hs : List LogEntry)
      → written_in (on_channel l side (all_tell side told ++ hs)) ≡ written_in (on_channel l side hs)
  tells_written [] hs = refl
  tells_written (e ∷ told) hs = by (is_same side side && is_on l e) (tells_written told hs)
    where
      by : (b : Bool)
          → written_in (on_channel l side (all_tell side told ++ hs)) ≡ written_in (on_channel l side hs)
          → written_in ((if b then Tells e ∷ [] else []) ++ on_channel l side (all_tell side told ++ hs))
          ≡ written_in (on_channel l side hs)
      by true rest = rest
      by false rest = rest

  none_written : (told : List Event) → written_in (on_channel l side (all_tell side told)) ≡ []
  none_written told =
      ap (λ (hs : List LogEntry). written_in (on_channel l side hs)) (sym (append-nil (all_tell side told)))
      ∙ tells_written told []

-- ---- the log of a call: what its end tells, with a block that comes before it, or a new one behind it

plain_log : (side : Side) (process : ℕ) (s : Station) (c : Call) → (Builds s.end (Calls c) → ⊥) → IsCalling s c
    → log_in side process s.end c ≡ all_tell side (told_of s.end c)
plain_log side process s (Visits t) none g = by (visit t.tti t.order s.end) refl
  where
    by : (v : Visit) → visit t.tti t.order s.end ≡ v
        → all_tell side (told_of s.end (Visits t))
        ++ map (λ (octets : List ℕ). EndBuilds side (t.tti % 8) octets)
        (map (λ (b : Block). b.octets) (built_at v t (visited t.tti t.order s.end)))
        ≡ all_tell side (told_of s.end (Visits t))
    by New q = absurd (none (record { turn = t; is = refl; new = q }))
    by (Resend rv) q = append-nil (all_tell side (told_of s.end (Visits t)))
    by Silent q = append-nil (all_tell side (told_of s.end (Visits t)))
plain_log side process s (Receive block) none g = absurd g
plain_log side process s c none g = refl

pub plain_logs : (side : Side) (process : ℕ) (s : Station) (c : Call) → (Builds s.end (Calls c) → ⊥) → IsCalling s c
    → log_in side process s.end c ≡ all_tell side (told_of s.end c)
plain_logs = plain_log

pub building_log : (side : Side) (process : ℕ) (e : End) (t : Turn) → visit t.tti t.order e ≡ New
    → log_in side process e (Visits t)
    ≡ all_tell side (told_of e (Visits t))
    ++ EndBuilds side (t.tti % 8) (new_block (visited t.tti t.order e) t.grant) ∷ []
building_log side process e t q =
    ap (λ (v : Visit). all_tell side (told_of e (Visits t))
    ++ map (λ (octets : List ℕ). EndBuilds side (t.tti % 8) octets)
    (map (λ (b : Block). b.octets) (built_at v t (visited t.tti t.order e)))) q

-- what it logs on the channel is what its bearer does
pub logs_are : (l : ℕ) (side : Side) (process : ℕ) (e : End) (c : Call) (b : State) → HasComeNew side l e
    → has l e.bearers ≡ true → flow l e ≡ Am b → IsGiven c → GoesOnInLife l c → HasRoom e c
    → on_channel l side (log_in side process e c) ≡ parted (bearer_logs l (Am b) (calls_over l (c ∷ []) e))
logs_are l side process e c b new there is given life room =
    let come = new.come in
    subst (λ (z : End). has l z.bearers ≡ true → HasRoom z c → flow l z ≡ Am b
    → on_channel l side (log_in side process z c) ≡ parted (bearer_logs l (Am b) (calls_over l (c ∷ []) z)))
    (sym come.end_is)
    (λ t r f.
    ends_log_on_channels side come.maximum come.reports come.past c l process come.given new.new given life t r
    ∙ (ap (λ (x : Flow). parted (bearer_logs l x (calls_of l (reached side come.maximum come.reports come.past) c))) f
    ∙ ap (λ (cs : List BearerCall). parted (bearer_logs l (Am b) cs))
    (sym (append-nil (calls_of l (reached side come.maximum come.reports come.past) c))))) there room is

-- ---- records that log what a side tells

read_records : (more : Bool) (told : List Record) → records_of (read_as more told) ≡ told
read_records more [] = refl
read_records more (one ∷ told) = ap (λ (xs : List Record). one ∷ xs) (read_records more told)

pub records_read : (more : Bool) (told : List Record) → records_of (read_as more told) ≡ told
records_read = read_records

takes_so : (more : Bool) (e : Event) → MayTakeAs more more e
takes_so more (events.Expired lcid Poll) = refl
takes_so more e = tt

module _ (l : ℕ) (side : Side) where
  all_of_side : (told : List Event) → AllByRecursion (IsOfSide side) (all_tell side told)
  all_of_side [] = tt
  all_of_side (e ∷ told) = (refl, all_of_side told)

  pub all_told_by : (told : List Event) → AllByRecursion (IsTold side) (all_tell side told)
  all_told_by [] = tt
  all_told_by (e ∷ told) = (refl, all_told_by told)

  true_on : (a b : Bool) → (a && b) ≡ true → b ≡ true
  true_on true b e = e
  true_on false b e = absurd cc

  one_at : (kind : PdcpKind) (more : Bool) (one : Record) → IsOwn l side one → HasCountOn kind l one
      → IsToldAt l side kind more more one
  one_at kind more (records.Of own e) h count = λ q. (h q, takes_so more e, count (true_on (tells e) (is_on l e) q))
  one_at kind more one h count = h

  each_at : (kind : PdcpKind) (more : Bool) (told : List Record)
      → AllByRecursion (λ (x : ReadRecord). IsOwn l side x.one) (read_as more told)
      → AllByRecursion (HasCountOn kind l) told
      → AllByRecursion (λ (x : ReadRecord). IsToldAt l side kind more x.more x.one) (read_as more told)
  each_at kind more [] own counts = tt
  each_at kind more (one ∷ told) own counts =
      (one_at kind more one own.0 counts.0, each_at kind more told own.1 counts.1)

  -- that are of its bearer, where what it logs tells just this on the channel
  pub are_records : (kinds : List (Option Layout)) (b : State) (log : List BearerEntry) (written : List (List ℕ))
      (sent : Flight) (told : List Record) (said : List Event)
      → slice_index_or kinds l None ≡ Some (layouts.Am b.pdcp.kind) → logged sent told ≡ all_tell side said
      → told_in log ≡ said_on l side (all_tell side said) → written_in log ≡ written
      → AllByRecursion (HasCountOn b.pdcp.kind l) told
      → AreRecordsOf kinds l side b log (read_as (has_more b.pdcp) told) written
  are_records kinds b log written sent told said known logs tells_it writes counts =
      let more = has_more b.pdcp in
      let xs = read_as more told in
      let log_is : logged sent (records_of xs) ≡ all_tell side said =
      ap (logged sent) (read_records more told) ∙ logs in
      record {
        known = known;
        told = records_said l side sent xs (subst (AllByRecursion (IsOfSide side)) (sym log_is) (all_of_side said))
            ∙ ap (filter tells) (ap (said_on l side) log_is ∙ sym tells_it);
        writes = writes;
        each = each_at b.pdcp.kind more told
            (own_records_tell l side sent xs
            (subst (AllByRecursion (IsTold side)) (sym log_is) (all_told_by said))) counts;
      }

  -- ---- what the log of a call tells and writes on the channel

  -- a block that comes stands first
  heard_said : (process : ℕ) (octets : List ℕ) (hs : List LogEntry)
      → said_on l side (Hears side process octets ∷ hs) ≡ said_on l side hs
  heard_said process octets hs =
      on_more l side (Hears side process octets ∷ []) hs
      ∙ ap (λ (es : List Event). es ++ said_on l side hs) (by (is_same side side))
    where
      by : (b : Bool) → told_in ((if b then coming (carried l (heard_by side) octets) else []) ++ []) ≡ []
      by true = ap told_in (append-nil (coming (carried l (heard_by side) octets)))
          ∙ said_coming (carried l (heard_by side) octets)
      by false = refl

  heard_written : (process : ℕ) (octets : List ℕ) (hs : List LogEntry)
      → written_in (on_channel l side (Hears side process octets ∷ hs)) ≡ written_in (on_channel l side hs)
  heard_written process octets hs = by (is_same side side)
    where
      by : (b : Bool)
          → written_in ((if b then coming (carried l (heard_by side) octets) else []) ++ on_channel l side hs)
          ≡ written_in (on_channel l side hs)
      by true = written_coming (carried l (heard_by side) octets) (on_channel l side hs)
      by false = refl

  -- a new one last
  built_said : (told : List Event) (process : ℕ) (octets : List ℕ)
      → said_on l side (all_tell side told ++ EndBuilds side process octets ∷ [])
      ≡ said_on l side (all_tell side told)
  built_said told process octets =
      on_more l side (all_tell side told) (EndBuilds side process octets ∷ [])
      ∙ (ap (λ (es : List Event). said_on l side (all_tell side told) ++ es) (by (is_same side side))
      ∙ append-nil (said_on l side (all_tell side told)))
    where
      by : (b : Bool) → told_in ((if b then writing (carried l (sent_by side) octets) else []) ++ []) ≡ []
      by true = ap told_in (append-nil (writing (carried l (sent_by side) octets)))
          ∙ said_writing (carried l (sent_by side) octets)
      by false = refl

built_written : (l : ℕ) (side : Side) (told : List Event) (process : ℕ) (octets : List ℕ)
    → written_in (on_channel l side (all_tell side told ++ EndBuilds side process octets ∷ []))
    ≡ carried l (sent_by side) octets
built_written l side told process octets =
    tells_written l side told (EndBuilds side process octets ∷ []) ∙ by side
  where
    by : (s : Side) → written_in (on_channel l s (EndBuilds s process octets ∷ [])) ≡ carried l (sent_by s) octets
    by Nb = ap written_in (append-nil (writing (carried l (sent_by Nb) octets)))
        ∙ written_alone (carried l (sent_by Nb) octets)
    by Ue = ap written_in (append-nil (writing (carried l (sent_by Ue) octets)))
        ∙ written_alone (carried l (sent_by Ue) octets)

-- ---- so records of a call are those of the bearer

module _ (kinds : List (Option Layout)) (l : ℕ) (side : Side) (b : State)
    (known : slice_index_or kinds l None ≡ Some (layouts.Am b.pdcp.kind)) where
  -- by what its end logs, which tells this
  call_records : (e : End) (c : Call) (hs : List LogEntry) (written : List (List ℕ)) (sent : Flight)
      (told : List Record) (said : List Event) (log : List BearerEntry) → on_channel l side hs ≡ parted log
      → said_on l side hs ≡ said_on l side (all_tell side said) → written_in (on_channel l side hs) ≡ written
      → logged sent told ≡ all_tell side said → AllByRecursion (HasCountOn b.pdcp.kind l) told
      → AreRecordsOf kinds l side b log (read_as (has_more b.pdcp) told) written
  call_records e c hs written sent told said log same tells_it writes logs counts =
      are_records l side kinds b log written sent told said known logs
      (sym (said_parted log) ∙ (ap told_in (sym same) ∙ tells_it))
      (sym (written_parted log) ∙ (ap written_in (sym same) ∙ writes)) counts

  module _ (s : Station) (new : HasComeNew side l s.end) (there : has l s.end.bearers ≡ true)
      (is : flow l s.end ≡ Am b) where
    abbrev log_of : Call → List BearerEntry
    log_of c = bearer_logs l (Am b) (calls_over l (c ∷ []) s.end)

    pub plain_records : (c : Call) (sent : Flight) (told : List Record) → IsGiven c → GoesOnInLife l c → HasRoom s.end c
        → (Builds s.end (Calls c) → ⊥) → IsCalling s c → logged sent told ≡ log_in side 0 s.end c
        → AllByRecursion (HasCountOn b.pdcp.kind l) told
        → AreRecordsOf kinds l side b (log_of c) (read_as (has_more b.pdcp) told) []
    plain_records c sent told given life room none calling logs counts =
        let said = told_of s.end c in
        let plain = plain_log side 0 s c none calling in
        call_records s.end c (all_tell side said) [] sent told said (log_of c)
        (ap (on_channel l side) (sym plain) ∙ logs_are l side 0 s.end c b new there is given life room) refl
        (none_written l side said) (logs ∙ plain) counts

    -- behind the record that a block is got
    pub coming_records : (process : ℕ) (octets : List ℕ) (sent : Flight) (told : List Record)
        → logged sent told ≡ all_tell side (told_of s.end (Receive octets))
        → AllByRecursion (HasCountOn b.pdcp.kind l) told
        → AreRecordsOf kinds l side b (log_of (Receive octets)) (read_as (has_more b.pdcp) told) []
    coming_records process octets sent told logs counts =
        let said = told_of s.end (Receive octets) in
        call_records s.end (Receive octets) (Hears side process octets ∷ all_tell side said) [] sent told said
        (log_of (Receive octets))
        (logs_are l side process s.end (Receive octets) b new there is tt
        (record { adds_none = refl; moves_none = refl }) tt) (heard_said l side process octets (all_tell side said))
        (heard_written l side process octets (all_tell side said) ∙ none_written l side said) logs counts

    -- before the record of a new block
    pub building_records : (t : Turn) (sent : Flight) (told : List Record) → IsGiven (Visits t)
        → GoesOnInLife l (Visits t) → HasRoom s.end (Visits t) → visit t.tti t.order s.end ≡ New
        → logged sent told ≡ all_tell side (told_of s.end (Visits t)) → AllByRecursion (HasCountOn b.pdcp.kind l) told
        → AreRecordsOf kinds l side b (log_of (Visits t)) (read_as (has_more b.pdcp) told)
        (carried l (sent_by side) (new_block (visited t.tti t.order s.end) t.grant))
    building_records t sent told given life room build logs counts =
        let said = told_of s.end (Visits t) in
        let octets = new_block (visited t.tti t.order s.end) t.grant in
        let log = building_log side 0 s.end t build in
        call_records s.end (Visits t) (all_tell side said ++ EndBuilds side (t.tti % 8) octets ∷ [])
        (carried l (sent_by side) octets) sent told said (log_of (Visits t))
        (ap (on_channel l side) (sym log) ∙ logs_are l side 0 s.end (Visits t) b new there is given life room)
        (built_said l side said (t.tti % 8) octets) (built_written l side said (t.tti % 8) octets) logs counts
