-- Journals that agree on a channel do so behind each record that both answer alike, each line and each group's end.
use Rattle.std.proofs.Common.{◌≡◌, ℕ, ◌==◌, Bool, true, false, ◌&&◌, List, [], ◌∷◌, Option, None, ap, if◌then◌else◌}
use Rattle.std.proofs.Common.{slice_index_or, refl, ◌∙◌}
use Rattle.std.proofs.lemmas.Bool.{eqb-true}
use Rattle.l2_types.specs.declared.event.Clock.TheVariants.{Poll}
use Rattle.l2_types.specs.declared.side.Side.{Side}
use Rattle.bearer_types.specs.declared.event.Event.TheVariants as events
use Rattle.bearer_types.specs.Sides.{is_same}
use Rattle.air_record.specs.declared.line.Line.{Line}
use Rattle.air_record.specs.declared.line.Line.TheVariants as lines
use Rattle.air_record.specs.declared.record.Record.{Record}
use Rattle.air_record.specs.declared.record.Record.TheVariants as records
use Rattle.air_text.specs.Groups.{Group}
use Rattle.pdu_show.specs.declared.kinds.Layout.{Layout}
use Rattle.journal_account.specs.FlowEvents.{PollExpired}
use Rattle.journal_lives.specs.LifeEvents.{LifeEvent, InLife, LifeEnded}
use Rattle.journal_flows.specs.Possible.{with_event}
use Rattle.journal_flows.specs.NumberedPdus.{Told, Acked, Unacked}
use Rattle.journal_flows.specs.Gathering.{Journal, MayTake, behind_record, behind_records, behind_line, behind_end}
use Rattle.journal_flows.specs.FlowsTold.{Histories, is_at, histories, with_told}
use Rattle.journal_flows.proofs.Gathered.{Agree, record_alike}
use Rattle.law_sound.specs.AgreeLaws.{AnswersAlike, AnswerAlike, AgreeOn, JournalsAgreeOnAChannel}
use Rattle.law_sound.specs.AlikeLaws.{AreAlikeFlows}
use Rattle.law_sound.specs.BesideLaws.{ReadRecord, behind_all}
use Rattle.law_sound.specs.LoggedRecords.{records_of}
use Rattle.law_sound.proofs.AlikeJournals.{alike_journals, any_alike, read_alike}

record FlowsAgree (l : ℕ) (one another : Histories) : Type 0 where
  alike : AreAlikeFlows one another
  same : (side : Side) → one.acked side l ≡ another.acked side l

told_agrees : (l : ℕ) (t : Told) (h k : Histories) → FlowsAgree l h k → FlowsAgree l (with_told t h) (with_told t k)
told_agrees l t h k a = record { alike = any_alike t.side t.lcid t.event h k a.alike; same = λ side. by t.event side }
  where
    by : (e : _) (side : Side)
        → (with_told (record t { event = e }) h).acked side l ≡ (with_told (record t { event = e }) k).acked side l
    by (Acked e) side =
        ap (λ (es : List LifeEvent). if is_at t.side t.lcid side l then with_event e es else es) (a.same side)
    by (Unacked e) side = a.same side

flows_agree : (l : ℕ) (layouts : List (Option Layout))
    → Agree Histories Histories histories histories layouts (FlowsAgree l)
flows_agree l layouts = record {
  tells = λ t h k a. told_agrees l t h k a;
  reads = λ h k from one octets a. read_alike (slice_index_or layouts one.lcid None) h k from one octets a.alike;
}

-- a record, whatever other channels are answered
flag_same : (l : ℕ) (layouts : List (Option Layout)) (more might : Bool) (one : Record) (j : Journal Histories)
    (side : Side) → AnswersAlike l more might one
    → (behind_record histories layouts more one j).flows.acked side l
    ≡ (behind_record histories layouts might one j).flows.acked side l
flag_same l layouts more might (records.Of from (events.Expired lcid Poll)) j side same =
    by (is_same from side) (lcid == l) refl
  where
    by : (b c : Bool) → (lcid == l) ≡ c
        → (if b && c then with_event (InLife (PollExpired more)) (j.flows.acked side l) else j.flows.acked side l)
        ≡ (if b && c then with_event (InLife (PollExpired might)) (j.flows.acked side l) else j.flows.acked side l)
    by true true q =
        ap (λ (m : Bool). with_event (InLife (PollExpired m)) (j.flows.acked side l)) (same (eqb-true lcid l q))
    by true false q = refl
    by false c q = refl
flag_same l layouts more might (records.Of from event) j side same = refl
flag_same l layouts more might one j side same = refl

record_agrees : (l : ℕ) (layouts : List (Option Layout)) (more might : Bool) (one : Record) (i j : Journal Histories)
    → AgreeOn l i j → AnswersAlike l more might one
    → AgreeOn l (behind_record histories layouts more one i) (behind_record histories layouts might one j)
record_agrees l layouts more might one i j a same = record {
  alike = (alike_journals i j a.alike).records layouts more might one;
  same = λ side.
      (record_alike Histories Histories histories histories layouts (FlowsAgree l) (flows_agree l layouts) more one i j
      (record {
        flows = record { alike = a.alike.flows; same = a.same };
        nb = a.alike.nb;
        ue = a.alike.ue;
      })).flows.same side
      ∙ flag_same l layouts more might one j side same;
}

all_agree : (l : ℕ) (layouts : List (Option Layout)) (may_take : MayTake) (past : List Group) (before : List Record)
    (xs : List ReadRecord) (i j : Journal Histories) → AgreeOn l i j → AnswerAlike l may_take past before xs
    → AgreeOn l (behind_records histories may_take past layouts before (records_of xs) i) (behind_all layouts xs j)
all_agree l layouts may_take past before [] i j a same = a
all_agree l layouts may_take past before (x ∷ xs) i j a same =
    all_agree l layouts may_take past (x.one ∷ before) xs
    (behind_record histories layouts (may_take past before x.one) x.one i)
    (behind_record histories layouts x.more x.one j)
    (record_agrees l layouts (may_take past before x.one) x.more x.one i j a same.0) same.1

line_agrees : (l : ℕ) (line : Line) (i j : Journal Histories) → AgreeOn l i j → (side : Side)
    → (behind_line histories line i).flows.acked side l ≡ (behind_line histories line j).flows.acked side l
line_agrees l (lines.Bearer config options) i j a side =
    ap (λ (es : List LifeEvent). if config.channel.lcid == l then [] else es) (a.same side)
line_agrees l line i j a side = a.same side

end_agrees : (l : ℕ) (hands_over : Bool) (i j : Journal Histories) → AgreeOn l i j → (side : Side)
    → (behind_end histories hands_over i).flows.acked side l ≡ (behind_end histories hands_over j).flows.acked side l
end_agrees l true i j a side = ap (λ (es : List LifeEvent). LifeEnded ∷ es) (a.same side)
end_agrees l false i j a side = a.same side

pub journals_agree : JournalsAgreeOnAChannel
journals_agree l i j a = record {
  records = λ layouts more might one same. record_agrees l layouts more might one i j a same;
  all = λ layouts may_take past before xs same. all_agree l layouts may_take past before xs i j a same;
  lines = λ line. record { alike = (alike_journals i j a.alike).lines line; same = line_agrees l line i j a };
  ends = λ hands_over.
      record { alike = (alike_journals i j a.alike).ends hands_over; same = end_agrees l hands_over i j a };
}
