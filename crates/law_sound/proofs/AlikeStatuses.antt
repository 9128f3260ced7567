-- Whether the STATUS PDUs of a journal are right doesn't depend on what is said of SDUs as t-PollRetransmit expires.
use Rattle.std.proofs.Common.{◌≡◌, ℕ, ◌+◌, ◌≤◌, true, if◌then◌else◌, List, [], ◌∷◌, ◌++◌, Option, Some, None}
use Rattle.std.proofs.Common.{refl, ap, sym, ◌∙◌, subst}
use Rattle.std.specs.List.{All}
use Rattle.l2_types.specs.declared.side.Side.{Side}
use Rattle.bearer_types.specs.declared.config.BearerConfig.{BearerConfig}
use Rattle.bearer_types.specs.Sides.{other, sender_of}
use Rattle.air_record.specs.declared.record.Record.{Record}
use Rattle.air_record.specs.declared.record.Record.TheVariants as records
use Rattle.air_text.specs.Groups.{Group}
use Rattle.journal_flows.specs.declared.parcels.Parcel.{Parcel}
use Rattle.journal_flows.specs.declared.parcels.Parcel.TheVariants.{Octets, Pieces, Report}
use Rattle.journal_flows.specs.Gathering.{Journal, MayTake, Sending, sent_last}
use Rattle.journal_flows.specs.FlowsTold.{Histories}
use Rattle.journal_flows.specs.Accounts.{is_acked_kind}
use Rattle.journal_flows.specs.Laws.{bearer_on}
use Rattle.journal_flows.proofs.Gathered.{sending_alike}
use Rattle.journal_status.specs.RightStatus.{up_to, IsTrueReport, AreTrueReports, told_within}
use Rattle.journal_status.specs.RightStatus.{ignored_told, ignored_by, ignored_within}
use Rattle.journal_status.specs.RightStatus.{AreIgnoredTold, GroupStatusRight}
use Rattle.law_sound.specs.AlikeLaws.{AreAlikeFlows, AreAlikeJournals, StatusNeedsNoFlags}
use Rattle.law_sound.proofs.AlikeJournals.{tell_alike, journals_are_alike}

-- ---- the STATUS that are written

report_alike : (from : Side) (p : Parcel) (h k : Histories) → AreAlikeFlows h k → IsTrueReport h.acked from p
    → IsTrueReport k.acked from p
report_alike from (Octets lcid n start end) h k a is = is
report_alike from (Pieces lcid n size pieces) h k a is = is
report_alike from (Report lcid ack entries) h k a is = (tell_alike h k a (other from) lcid).statuses ack entries is

reports_alike : (one : Record) (i j : Journal Histories) → AreAlikeJournals i j → AreTrueReports i one
    → AreTrueReports j one
reports_alike (records.Block direction process true version octets) i j a are =
    subst (λ (x : Sending). All (IsTrueReport j.flows.acked (sender_of direction)) (sent_last x))
    (sending_alike Histories Histories AreAlikeFlows (sender_of direction) i j
    (record { flows = a.flows; nb = a.nb; ue = a.ue }))
    (λ n d lt. report_alike (sender_of direction) _ i.flows j.flows a.flows (are n d lt))
reports_alike one i j a are = are

-- ---- the STATUS that are ignored

ignored_alike : (one another : MayTake) (now : Group) (past : List Group) (side : Side) (lcid : ℕ)
    → ignored_within one now past side lcid ≡ ignored_within another now past side lcid
ignored_alike one another now past side lcid = by (bearer_on lcid (now ∷ past))
  where
    by : (bearer : Option BearerConfig)
        → ignored_by bearer ((told_within one now past).flows.acked side lcid)
        ≡ ignored_by bearer ((told_within another now past).flows.acked side lcid)
    by None = refl
    by (Some config) =
        let a = (journals_are_alike one another past).within now in
        ap (λ (n : ℕ). if is_acked_kind config.kind then n else 0)
        (tell_alike (told_within one now past).flows (told_within another now past).flows a.flows side lcid).ignored

told_alike : (one another : MayTake) (now : Group) (past : List Group) (side : Side) (lcid : ℕ)
    → AreIgnoredTold one now past side lcid → AreIgnoredTold another now past side lcid
told_alike one another now past side lcid h = record {
  behind_each = λ told x rest is tells.
      subst (λ (n : ℕ). ignored_within another (up_to [] now) past side lcid
      + ignored_told side lcid (told ++ x ∷ []) ≤ n)
      (ignored_alike one another (up_to (told ++ x ∷ []) now) past side lcid)
      (subst (λ (n : ℕ). n + ignored_told side lcid (told ++ x ∷ [])
      ≤ ignored_within one (up_to (told ++ x ∷ []) now) past side lcid)
      (ignored_alike one another (up_to [] now) past side lcid) (h.behind_each told x rest is tells));
  behind_all =
      ap (λ (n : ℕ). n + ignored_told side lcid now.events)
      (sym (ignored_alike one another (up_to [] now) past side lcid))
      ∙ h.behind_all ∙ ignored_alike one another now past side lcid;
}

-- ---- of a group, and of a journal

group_alike : (one another : MayTake) (now : Group) (past : List Group) → GroupStatusRight one now past
    → GroupStatusRight another now past
group_alike one another now past h = record {
  are_true = λ told x rest is.
      reports_alike x (told_within one (up_to (told ++ x ∷ []) now) past)
      (told_within another (up_to (told ++ x ∷ []) now) past)
      ((journals_are_alike one another past).within (up_to (told ++ x ∷ []) now)) (h.are_true told x rest is);
  on_channels = λ side lcid low. told_alike one another now past side lcid (h.on_channels side lcid low);
  elsewhere = h.elsewhere;
}

pub status_needs_no_flags : StatusNeedsNoFlags
status_needs_no_flags one another [] h = h
status_needs_no_flags one another (now ∷ past) h =
    (group_alike one another now past h.0, status_needs_no_flags one another past h.1)
