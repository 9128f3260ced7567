-- Alike journals stay alike behind each record, line and group, whatever is said of SDUs as t-PollRetransmit expires.
use Rattle.std.proofs.Common.{◌≡◌, ℕ, ◌==◌, Bool, true, false, List, [], ◌∷◌, map, Option, Some, None, refl, ap, sym}
use Rattle.std.proofs.Common.{◌∙◌, if◌then◌else◌, slice_index_or}
use Rattle.l2_types.specs.declared.event.Clock.TheVariants.{Poll}
use Rattle.l2_types.specs.declared.side.Side.{Side}
use Rattle.rlc_pdu.specs.Reading.{am_at, umd_at}
use Rattle.bearer_types.specs.declared.event.Event.TheVariants as events
use Rattle.bearer_types.specs.Sides.{other}
use Rattle.air_record.specs.declared.line.Line.{Line}
use Rattle.air_record.specs.declared.line.Line.TheVariants as lines
use Rattle.air_record.specs.declared.record.Record.{Record}
use Rattle.air_record.specs.declared.record.Record.TheVariants as records
use Rattle.air_text.specs.Groups.{Group}
use Rattle.pdu_show.specs.declared.kinds.Layout.{Layout}
use Rattle.pdu_show.specs.declared.kinds.Layout.TheVariants as layouts
use Rattle.promises.specs.Blocks.{kinds}
use Rattle.journal_account.specs.FlowEvents.{PollExpired, next_of}
use Rattle.journal_lives.specs.LifeEvents.{LifeEvent, InLife, LifeEnded, running}
use Rattle.journal_flows.specs.declared.sending.Named.{Named}
use Rattle.journal_flows.specs.Possible.{is_possible, with_event}
use Rattle.journal_flows.specs.UmPdus.{UmFlowEvent, sent_in, place_next, um_parcel_by}
use Rattle.journal_flows.specs.UmPdus as um
use Rattle.journal_flows.specs.NumberedPdus.{AnyEvent, Acked, Unacked, front_in, parcel_by}
use Rattle.journal_flows.specs.Gathering.{Journal, MayTake, parcel_in, behind_record, behind_records}
use Rattle.journal_flows.specs.Gathering.{behind_line, is_handover, behind_end, behind}
use Rattle.journal_flows.specs.FlowsTold.{Histories, no_events, is_at, with_any, histories}
use Rattle.journal_flows.proofs.Gathered.{Agree, Alike, record_alike}
use Rattle.journal_status.specs.RightStatus.{told_within}
use Rattle.law_sound.specs.AlikeLaws.{life_without_flag, AreAlikeLives, AreAlikeFlows, AreAlikeJournals, TellAlike}
use Rattle.law_sound.specs.AlikeLaws.{AlikeJournalsGoOnAlike, JournalsAreAlike}
use Rattle.law_sound.proofs.AlikeHistories.{alike_histories, alike_lives}

-- ---- an event of a flow

pub tell_alike : (h k : Histories) → AreAlikeFlows h k → (side : Side) (lcid : ℕ)
    → TellAlike (running (h.acked side lcid)) (running (k.acked side lcid))
tell_alike h k a side lcid =
    alike_histories (running (h.acked side lcid)) (running (k.acked side lcid))
    (alike_lives (h.acked side lcid) (k.acked side lcid) (a.acked side lcid))

possible_same : (next : ℕ) (e : LifeEvent) → is_possible next (life_without_flag e) ≡ is_possible next e
possible_same next (InLife (PollExpired more)) = refl
possible_same next (InLife e) = refl
possible_same next e = refl

event_alike : (e f : LifeEvent) (es fs : List LifeEvent) → life_without_flag e ≡ life_without_flag f
    → AreAlikeLives es fs → AreAlikeLives (with_event e es) (with_event f fs)
event_alike e f es fs same a =
    ap (λ (b : Bool). map life_without_flag (if b then e ∷ es else es)) tests
    ∙ by (is_possible (next_of (running fs)) f)
  where
    tests : is_possible (next_of (running es)) e ≡ is_possible (next_of (running fs)) f
    tests =
        ap (λ (n : ℕ). is_possible n e) (alike_histories (running es) (running fs) (alike_lives es fs a)).next
        ∙ sym (possible_same (next_of (running fs)) e)
        ∙ ap (λ (x : LifeEvent). is_possible (next_of (running fs)) x) same
        ∙ possible_same (next_of (running fs)) f

    by : (b : Bool)
        → map life_without_flag (if b then e ∷ es else es) ≡ map life_without_flag (if b then f ∷ fs else fs)
    by true =
        ap (λ (x : LifeEvent). x ∷ map life_without_flag es) same
        ∙ ap (λ (xs : List LifeEvent). life_without_flag f ∷ xs) a
    by false = a

acked_alike : (from : Side) (own : ℕ) (e f : LifeEvent) (h k : Histories) → life_without_flag e ≡ life_without_flag f
    → AreAlikeFlows h k → AreAlikeFlows (with_any from own (Acked e) h) (with_any from own (Acked f) k)
acked_alike from own e f h k same a = record {
  acked = λ side lcid. by side lcid (is_at from own side lcid);
  unacked = a.unacked;
}
  where
    by : (side : Side) (lcid : ℕ) (b : Bool)
        → AreAlikeLives (if b then with_event e (h.acked side lcid) else h.acked side lcid)
        (if b then with_event f (k.acked side lcid) else k.acked side lcid)
    by side lcid true = event_alike e f (h.acked side lcid) (k.acked side lcid) same (a.acked side lcid)
    by side lcid false = a.acked side lcid

pub any_alike : (from : Side) (own : ℕ) (e : AnyEvent) (h k : Histories) → AreAlikeFlows h k
    → AreAlikeFlows (with_any from own e h) (with_any from own e k)
any_alike from own (Acked e) h k a = acked_alike from own e e h k refl a
any_alike from own (Unacked e) h k a = record {
  acked = a.acked;
  unacked = λ side lcid. ap (λ (us : List UmFlowEvent). if is_at from own side lcid then e ∷ us else us)
      (a.unacked side lcid);
}

-- ---- a PDU as it is named

pub read_alike : (layout : Option Layout) (h k : Histories) (from : Side) (one : Named) (octets : List ℕ)
    → AreAlikeFlows h k → parcel_in histories layout h from one octets ≡ parcel_in histories layout k from one octets
read_alike (Some (layouts.Am kind)) h k from one octets a =
    ap (λ (next : ℕ). parcel_by next (front_in (running (h.acked (other from) one.lcid))) one.lcid one.how
    (am_at octets)) (tell_alike h k a from one.lcid).next
    ∙ ap (λ (front : ℕ). parcel_by (next_of (running (k.acked from one.lcid))) front one.lcid one.how (am_at octets))
    (tell_alike h k a (other from) one.lcid).front
read_alike (Some (layouts.Um bits kind)) h k from one octets a =
    ap (λ (us : List UmFlowEvent). um_parcel_by (next_of (sent_in us)) (place_next (sent_in us)) one.lcid one.how
    (umd_at bits octets)) (a.unacked from one.lcid)
read_alike layout h k from one octets a = refl

histories_agree : (layouts : List (Option Layout)) → Agree Histories Histories histories histories layouts AreAlikeFlows
histories_agree layouts = record {
  tells = λ t h k a. any_alike t.side t.lcid t.event h k a;
  reads = λ h k from one octets a. read_alike (slice_index_or layouts one.lcid None) h k from one octets a;
}

-- ---- a record, whatever it is said to tell

abbrev with_itself : (h : Histories) → AreAlikeFlows h h
with_itself h = record { acked = λ side lcid. refl; unacked = λ side lcid. refl }

flag_alike : (layouts : List (Option Layout)) (more might : Bool) (one : Record) (j : Journal Histories)
    → AreAlikeJournals (behind_record histories layouts more one j) (behind_record histories layouts might one j)
flag_alike layouts more might (records.Of side (events.Expired lcid Poll)) j = record {
  flows =
      acked_alike side lcid (InLife (PollExpired more)) (InLife (PollExpired might)) j.flows j.flows refl
      (with_itself j.flows);
  nb = refl;
  ue = refl;
}
flag_alike layouts more might (records.Of side event) j = record { flows = with_itself _; nb = refl; ue = refl }
flag_alike layouts more might one j = record { flows = with_itself _; nb = refl; ue = refl }

alike_through : (i j k : Journal Histories) → Alike Histories Histories AreAlikeFlows i j → AreAlikeJournals j k
    → AreAlikeJournals i k
alike_through i j k a b = record {
  flows = record {
    acked = λ side lcid. a.flows.acked side lcid ∙ b.flows.acked side lcid;
    unacked = λ side lcid. a.flows.unacked side lcid ∙ b.flows.unacked side lcid;
  };
  nb = a.nb ∙ b.nb;
  ue = a.ue ∙ b.ue;
}

alike_record : (layouts : List (Option Layout)) (more might : Bool) (one : Record) (i j : Journal Histories)
    → AreAlikeJournals i j
    → AreAlikeJournals (behind_record histories layouts more one i) (behind_record histories layouts might one j)
alike_record layouts more might one i j a =
    alike_through (behind_record histories layouts more one i) (behind_record histories layouts more one j)
    (behind_record histories layouts might one j)
    (record_alike Histories Histories histories histories layouts AreAlikeFlows (histories_agree layouts) more one i j
    (record { flows = a.flows; nb = a.nb; ue = a.ue }))
    (flag_alike layouts more might one j)

-- ---- a line, and the end of its group

alike_line : (line : Line) (i j : Journal Histories) → AreAlikeJournals i j
    → AreAlikeJournals (behind_line histories line i) (behind_line histories line j)
alike_line (lines.Bearer config options) i j a = record {
  flows = record {
    acked = λ side lcid. by side lcid (config.channel.lcid == lcid);
    unacked = λ side lcid. ap (λ (us : List UmFlowEvent). if config.channel.lcid == lcid then [] else us)
        (a.flows.unacked side lcid);
  };
  nb = a.nb;
  ue = a.ue;
}
  where
    by : (side : Side) (lcid : ℕ) (b : Bool)
        → AreAlikeLives (if b then [] else i.flows.acked side lcid) (if b then [] else j.flows.acked side lcid)
    by side lcid true = refl
    by side lcid false = a.flows.acked side lcid
alike_line line i j a = a

alike_end : (hands_over : Bool) (i j : Journal Histories) → AreAlikeJournals i j
    → AreAlikeJournals (behind_end histories hands_over i) (behind_end histories hands_over j)
alike_end true i j a = record {
  flows = record {
    acked = λ side lcid. ap (λ (es : List LifeEvent). LifeEnded ∷ es) (a.flows.acked side lcid);
    unacked = λ side lcid. ap (λ (us : List UmFlowEvent). um.LifeEnded ∷ us) (a.flows.unacked side lcid);
  };
  nb = refl;
  ue = refl;
}
alike_end false i j a = a

pub alike_journals : AlikeJournalsGoOnAlike
alike_journals i j a = record {
  records = λ layouts more might one. alike_record layouts more might one i j a;
  lines = λ line. alike_line line i j a;
  ends = λ hands_over. alike_end hands_over i j a;
}

-- ---- records and groups

alike_records : (one another : MayTake) (past : List Group) (layouts : List (Option Layout)) (before told : List Record)
    (i j : Journal Histories) → AreAlikeJournals i j
    → AreAlikeJournals (behind_records histories one past layouts before told i)
    (behind_records histories another past layouts before told j)
alike_records one another past layouts before [] i j a = a
alike_records one another past layouts before (x ∷ told) i j a =
    alike_records one another past layouts (x ∷ before) told
    (behind_record histories layouts (one past before x) x i)
    (behind_record histories layouts (another past before x) x j)
    (alike_record layouts (one past before x) (another past before x) x i j a)

alike_within : (one another : MayTake) (now : Group) (past : List Group)
    → AreAlikeJournals (behind histories no_events one past) (behind histories no_events another past)
    → AreAlikeJournals (told_within one now past) (told_within another now past)
alike_within one another now past a =
    let i = behind histories no_events one past in
    let j = behind histories no_events another past in
    alike_records one another past (kinds (now ∷ past)) [] now.events (behind_line histories now.line i)
    (behind_line histories now.line j) (alike_line now.line i j a)

alike_behind : (one another : MayTake) (past : List Group)
    → AreAlikeJournals (behind histories no_events one past) (behind histories no_events another past)
alike_behind one another [] = record { flows = with_itself _; nb = refl; ue = refl }
alike_behind one another (now ∷ past) =
    alike_end (is_handover now.line) (told_within one now past) (told_within another now past)
    (alike_within one another now past (alike_behind one another past))

pub journals_are_alike : JournalsAreAlike
journals_are_alike one another past = record {
  records = alike_records one another past;
  within = λ now. alike_within one another now past (alike_behind one another past);
  behind = alike_behind one another past;
}
