-- Both ends of a flow stay beside the history that the log of any calls of its sender tells, entry by entry.
use Rattle.std.proofs.Common.{◌≡◌, ℕ, ◌+◌, Bool, true, false, List, [], ◌∷◌, ◌++◌, map, Option, Some, None, Result, Ok}
use Rattle.std.proofs.Common.{Err, inl, inr, slice_get, refl, ap, sym, subst, ◌∙◌, arith}
use Rattle.std.specs.List.{AllByRecursion}
use Rattle.l2_types.specs.declared.config.AmTxConfig.{AmTxConfig}
use Rattle.l2_types.specs.declared.AmRxConfig.{AmRxConfig}
use Rattle.l2_types.specs.declared.event.Clock.TheVariants.{Poll, Reorder, Prohibit}
use Rattle.bearer.specs.Acknowledged.Hearing.{started_told}
use Rattle.bearer.specs.Acknowledged.Taking.{data_told as sent_told}
use Rattle.bearer_pdcp.specs.Telling.{pdus_of}
use Rattle.bearer_types.specs.declared.event.Event.{Event}
use Rattle.bearer_types.specs.declared.event.Event.TheVariants as events
use Rattle.pdcp_pdu.specs.declared.pdu.PdcpKind.{PdcpKind}
use Rattle.pdcp_pdu.specs.declared.pdu.PdcpKind.TheVariants as pdcp
use Rattle.pdcp_pdu.specs.Kinds.{IsKind}
use Rattle.rlc_pdu.specs.declared.fault.RlcRefusal.{RlcRefusal}
use Rattle.rlc_pdu.specs.declared.outcome.Taken.{Taken}
use Rattle.rlc_pdu.specs.declared.outcome.Taken.TheVariants as taken
use Rattle.rlc_pdu.specs.Pdus.{AcknowledgedPdu, Payload, Status as Control}
use Rattle.rlc_pdu.specs.Reading.{am_at}
use Rattle.rlc_am_rx.specs.State.{State as Receiver}
use Rattle.rlc_am_tx.specs.declared.answers.Heard.{Heard}
use Rattle.rlc_am_tx.specs.declared.answers.Heard.TheVariants as heard_as
use Rattle.rlc_am_tx.specs.Machine.{State, answer, heard, settles}
use Rattle.journal_account.specs.FlowEvents.{FlowEvent, SduTaken, next_of}
use Rattle.journal_failure.specs.RightFailure.{AreFailsOf}
use Rattle.law_rlc.specs.AmSender.Octets.{Octets, octets_after}
use Rattle.law_rlc.specs.AmSender.Run.{Call, Offer, Take, Status as Hears, Tick, Expire, Settle, Confirm, World, after}
use Rattle.law_rlc.specs.AmSender.Run.{run_am_sender}
use Rattle.law_rlc.specs.AmSender.Watched.{state_after}
use Rattle.law_rlc.specs.AmPair.Flow.{Copy, Report, Flow, Step, Sends, Receives, Reports, DataComes, StatusComes}
use Rattle.law_rlc.specs.AmPair.Flow.{DataGoes, StatusGoes, Passes, sender, data_read, data_comes, status_read}
use Rattle.law_rlc.specs.AmPair.Flow.{status_comes, happens, goes, am_rlc_outset}
use Rattle.law_rlc.specs.AmPair.Given.{IsSending, IsGiven, AreGiven}
use Rattle.law_account.specs.EndsTold.{AreEndsOf}
use Rattle.law_account.specs.History.{with_told}
use Rattle.law_account.proofs.EndsTold.{senders_go_on}
use Rattle.law_run.specs.TwoEnds.SenderLog.{BearerEntry, Tells, Writes, Comes, telling, writing, IsLoggedAs, read_told}
use Rattle.law_run.specs.TwoEnds.SenderLog.{SenderDeed, Makes, Else, AreDeeds, deed_log, deeds_log, behind_deeds}
use Rattle.law_run.specs.TwoEnds.ChannelLog.{coming, come_in, told_in, written_in, parted}
use Rattle.law_run.proofs.AskedCalls.{AsksOf}
use Rattle.law_run.proofs.OrderedLogs.{IsComing, IsOrdered}
use Rattle.law_run.proofs.OwnReports.{IsAcknowledged as IsOfAm, IsTakenOf}
use Rattle.law_run.proofs.SenderLog.{AreOf, GoesBy}
use Rattle.journal_account.specs.Acked.{ignored_in}
use Rattle.law_sound.specs.IgnoredLaws.{told_ignored}
use Rattle.law_sound.specs.LogLaws.{event_told, entry_told, with_log, fails_at, fails_in, IsBounded, HasComeBy}
use Rattle.law_sound.specs.LogLaws.{HasLength, IsAsked}
use Rattle.law_sound.specs.LogLaws.{more_in, AtSender, with_logs, sender_log, AreLogged}
use Rattle.law_sound.specs.SduLaws.{IsAcknowledged}
use Rattle.law_sound.proofs.IgnoredLogs.{logs_tell_ignored}
use Rattle.law_sound.proofs.Lengths.{taken_are_told}
use Rattle.law_sound.proofs.Logs.{bounded_more, comes_on, log_both, written_fails, else_log, bounded_as}
use Rattle.law_sound.proofs.Logs.{logs_tell_calls, logs_tell_flows}
use Rattle.law_sound.proofs.Nearing.{IsNear}

-- ---- the sender of a flow has come by calls

record HasSent (sending : AmTxConfig) (f : Flow) : Type 0 where
  sending_is : f.sending ≡ sending
  bounded : AllByRecursion IsBounded f.sent

sends_bounded : (f : Flow) (c : Call) → IsSending f c → IsBounded c
sends_bounded f (Offer sdu) g = g
sends_bounded f (Take size held more) g = g.few
sends_bounded f (Hears status) g = tt
sends_bounded f Tick g = tt
sends_bounded f (Expire more) g = tt
sends_bounded f (Settle more) g = tt
sends_bounded f Confirm g = tt

module _ (sending : AmTxConfig) (f : Flow) (h : HasSent sending f) where
  data_sent : (o : Option Copy) → HasSent sending (data_comes f o)
  data_sent None = h
  data_sent (Some c) = by (am_at c.octets)
    where
      by : (r : Result AcknowledgedPdu RlcRefusal) → HasSent sending (data_read f r)
      by (Ok (Payload pdu)) = record { sending_is = h.sending_is; bounded = h.bounded }
      by (Ok (Control pdu)) = h
      by (Err refused) = h

  status_sent : (o : Option Report) → HasSent sending (status_comes f o)
  status_sent None = h
  status_sent (Some r) = by (am_at r.octets)
    where
      by : (x : Result AcknowledgedPdu RlcRefusal) → HasSent sending (status_read f x)
      by (Ok (Payload pdu)) = h
      by (Ok (Control pdu)) =
          record { sending_is = h.sending_is; bounded = bounded_more f.sent (Hears pdu) h.bounded tt }
      by (Err refused) = h

  step_sent : (s : Step) → IsGiven f s → HasSent sending (happens f s)
  step_sent (Sends c) g =
      record { sending_is = h.sending_is; bounded = bounded_more f.sent c h.bounded (sends_bounded f c g) }
  step_sent (Receives c) g = record { sending_is = h.sending_is; bounded = h.bounded }
  step_sent (Reports size octets) g = record { sending_is = h.sending_is; bounded = h.bounded }
  step_sent (DataComes k) g = data_sent (slice_get f.copies k)
  step_sent (StatusComes k) g = status_sent (slice_get f.reports k)
  step_sent (DataGoes k) g = record { sending_is = h.sending_is; bounded = h.bounded }
  step_sent (StatusGoes k) g = record { sending_is = h.sending_is; bounded = h.bounded }
  step_sent Passes g = record { sending_is = h.sending_is; bounded = h.bounded }

all_sent : (sending : AmTxConfig) (steps : List Step) (f : Flow) → AreGiven f steps → HasSent sending f
    → HasSent sending (goes steps f)
all_sent sending [] f g h = h
all_sent sending (s ∷ steps) f g h = all_sent sending steps (happens f s) g.1 (step_sent sending f h s g.0)

state_is : (cs : List Call) (w : World Octets) → state_after cs w.state ≡ (run_am_sender octets_after cs w).state
state_is [] w = refl
state_is (c ∷ cs) w = state_is cs (record { state = after w.state c; past = octets_after w.state c w.past })

pub flows_come_by : (sending : AmTxConfig) (receiving : AmRxConfig) (steps : List Step)
    → AreGiven (am_rlc_outset sending receiving) steps
    → HasComeBy (sender (goes steps (am_rlc_outset sending receiving))).state
flows_come_by sending receiving steps g =
    let f = goes steps (am_rlc_outset sending receiving) in
    let h = all_sent sending steps (am_rlc_outset sending receiving) g (record { sending_is = refl; bounded = tt }) in
    record { config = f.sending; calls = f.sent; bounded = h.bounded; left = state_is f.sent _ }

-- ---- what is asked of calls

is_wide : (kind : PdcpKind) → IsOfAm kind → IsKind kind → IsAcknowledged kind
is_wide pdcp.Srb a known = tt
is_wide (pdcp.Um bits) a known = a
is_wide (pdcp.Am bits) a (inl q) = λ no. omega (arith, q, no)
is_wide (pdcp.Am bits) a (inr q) = λ no. omega (arith, q, no)

length_told : (kind : PdcpKind) (sdu : List ℕ) (log : List BearerEntry) → IsTakenOf kind sdu log
    → HasLength kind sdu log
length_told kind sdu log h = record {
  some = h.some;
  event = h.event;
  one = h.logged;
  size = taken_are_told kind h.ends sdu h.event
      (record { acknowledged = is_wide kind h.acknowledged h.known; kind_is = h.kind_is; sending = h.sending }) h.is
      h.told;
}

-- ---- only an expiry of t-PollRetransmit tells whether there is more

abbrev IsStill : BearerEntry → Type 0
IsStill (Tells (events.Expired lcid Poll)) = ⊥
IsStill x = Unit {0}

abbrev AreStill : List BearerEntry → Type 0
AreStill log = AllByRecursion IsStill log

any_more : (kind : PdcpKind) (more other : Bool) (next : ℕ) (x : BearerEntry) → IsStill x
    → entry_told kind more next x ≡ entry_told kind other next x
any_more kind more other next (Writes octets) h = refl
any_more kind more other next (Comes octets) h = refl
any_more kind more other next (Tells (events.Expired lcid Poll)) h = absurd h
any_more kind more other next (Tells (events.Expired lcid Reorder)) h = refl
any_more kind more other next (Tells (events.Expired lcid Prohibit)) h = refl
any_more kind more other next (Tells (events.Take lcid count len)) h = refl
any_more kind more other next (Tells (events.Report lcid fms bitmap)) h = refl
any_more kind more other next (Tells e) h = refl

still_more : (kind : PdcpKind) (more other : Bool) (log : List BearerEntry) (es : List FlowEvent) → AreStill log
    → with_log kind more log es ≡ with_log kind other log es
still_more kind more other [] es h = refl
still_more kind more other (x ∷ log) es h =
    ap (λ (o : Option FlowEvent). with_log kind more log (with_told o es)) (any_more kind more other (next_of es) x h.0)
    ∙ still_more kind more other log (with_told (entry_told kind other (next_of es) x) es) h.1

sdu_still : (kind : PdcpKind) (e : Event) (n : ℕ) → event_told kind false e ≡ Some (SduTaken n) → IsStill (Tells e)
sdu_still kind (events.Expired lcid Poll) n h = cc
sdu_still kind (events.Expired lcid Reorder) n h = tt
sdu_still kind (events.Expired lcid Prohibit) n h = tt
sdu_still kind e n h = tt

writing_still : (pdus : List (List ℕ)) → AreStill (writing pdus)
writing_still [] = tt
writing_still (pdu ∷ pdus) = (tt, writing_still pdus)

sent_still : (lcid : ℕ) (t : Taken) (pdus : List (List ℕ)) → AreStill (telling (sent_told lcid t) ++ writing pdus)
sent_still lcid (taken.Piece number first true octets) pdus = (tt, (tt, writing_still pdus))
sent_still lcid (taken.Piece number first false octets) pdus = (tt, writing_still pdus)
sent_still lcid taken.Idle pdus = writing_still pdus
sent_still lcid taken.Small pdus = (tt, writing_still pdus)
sent_still lcid taken.Shut pdus = (tt, writing_still pdus)
sent_still lcid taken.Held pdus = (tt, writing_still pdus)
sent_still lcid taken.Stopped pdus = (tt, writing_still pdus)

read_still : (lcid : ℕ) (h : Heard) → AreStill (telling (read_told lcid h))
read_still lcid heard_as.Ignored = (tt, tt)
read_still lcid (heard_as.Limit sn) = (tt, tt)
read_still lcid (heard_as.Applied true) = (tt, tt)
read_still lcid (heard_as.Applied false) = tt

started_still : (lcid : ℕ) (b : Bool) → AreStill (telling (started_told lcid b))
started_still lcid true = (tt, tt)
started_still lcid false = tt

module _ (kind : PdcpKind) (more : Bool) where
  abbrev Asks : State → Call → List BearerEntry → Type 0
  Asks = AsksOf kind more IsNear

  asked_as : (s : State) (c : Call) (log : List BearerEntry) → Asks s c log → IsAsked kind s c log
  asked_as s (Offer sdu) log a = length_told kind sdu log a
  asked_as s (Take size held m) log a = a
  asked_as s (Hears status) log a = a
  asked_as s Tick log a = tt
  asked_as s (Expire m) log a = tt
  asked_as s (Settle m) log a = tt
  asked_as s Confirm log a = tt

  still_as : (log told : List BearerEntry) (es : List FlowEvent) → log ≡ told → AreStill told
      → with_log kind more log es ≡ with_log kind false log es
  still_as log told es e still = still_more kind more false log es (subst AreStill (sym e) still)

  call_more : (s : State) (c : Call) (log : List BearerEntry) (es : List FlowEvent) → IsLoggedAs s c log → Asks s c log
      → with_log kind more log es ≡ with_log kind (more_in c) log es
  call_more s (Offer sdu) log es l a =
      let h = length_told kind sdu log a in
      still_as log (telling (h.event ∷ [])) es h.one (sdu_still kind h.event _ h.size, tt)
  call_more s (Take size held m) log es (lcid, reports, are, e) a =
      still_as log _ es e (sent_still lcid (answer s size held m) (reports ++ pdus_of (answer s size held m)))
  call_more s (Hears status) log es (lcid, octets, read, e) a =
      still_as log _ es e (tt, read_still lcid (heard s status))
  call_more s Tick log es l a = still_as log [] es l tt
  call_more s (Expire m) log es l a = ap (λ (b : Bool). with_log kind b log es) (sym a)
  call_more s (Settle m) log es (lcid, e) a = still_as log _ es e (started_still lcid (settles s m))
  call_more s Confirm log es l a = still_as log [] es l tt

  -- ---- deeds of the sender

  logged_are : (ds : List SenderDeed) (es : List FlowEvent) (s : State) → AreDeeds s ds → AreOf Asks s ds
      → AreLogged kind es s (map (λ (d : SenderDeed). AtSender d) ds)
  logged_are [] es s are of = tt
  logged_are (Makes c log ∷ ds) es s are of =
      ((are.0, asked_as s c log of.0), logged_are ds (with_log kind (more_in c) log es) (after s c) are.1 of.1)
  logged_are (Else log ∷ ds) es s are of =
      ((are.0, tt), logged_are ds (with_log kind false log es) s are.1 of.1)

  logs_are : (ds : List SenderDeed) → sender_log (map (λ (d : SenderDeed). AtSender d) ds) ≡ deeds_log ds
  logs_are [] = refl
  logs_are (d ∷ ds) = ap (λ (log : List BearerEntry). deed_log d ++ log) (logs_are ds)

  history_is : (ds : List SenderDeed) (es : List FlowEvent) (s : State) → AreDeeds s ds → AreOf Asks s ds
      → with_logs kind (map (λ (d : SenderDeed). AtSender d) ds) es ≡ with_log kind more (deeds_log ds) es
  history_is [] es s are of = refl
  history_is (Makes c log ∷ ds) es s are of =
      history_is ds (with_log kind (more_in c) log es) (after s c) are.1 of.1
      ∙ (ap (with_log kind more (deeds_log ds)) (sym (call_more s c log es are.0 of.0))
      ∙ sym (log_both kind more log (deeds_log ds) es))
  history_is (Else log ∷ ds) es s are of =
      history_is ds (with_log kind false log es) s are.1 of.1
      ∙ (ap (with_log kind more (deeds_log ds))
      (else_log kind false log es are.0 ∙ sym (else_log kind more log es are.0))
      ∙ sym (log_both kind more log (deeds_log ds) es))

  ends_on : (most : ℕ) (rx : Receiver) (ds : List SenderDeed) (es : List FlowEvent) (s : State) → HasComeBy s
      → AreDeeds s ds → AreOf Asks s ds → AreEndsOf most es s rx
      → AreEndsOf most (with_log kind more (deeds_log ds) es) (behind_deeds ds s) rx
  ends_on most rx [] es s come are of ends = ends
  ends_on most rx (Makes c log ∷ ds) es s come are of ends =
      let asked = asked_as s c log of.0 in
      let t = logs_tell_calls kind most es s c log come are.0 asked ends.follows in
      let rest = ends_on most rx ds (with_told t.event es) (after s c)
      (comes_on s c (bounded_as kind s c log asked) come) are.1 of.1
      (senders_go_on most es s rx c t.event t.told ends) in
      subst (λ (xs : List FlowEvent). AreEndsOf most xs (behind_deeds ds (after s c)) rx)
      (ap (with_log kind more (deeds_log ds)) (sym (call_more s c log es are.0 of.0 ∙ t.logged))
      ∙ sym (log_both kind more log (deeds_log ds) es)) rest
  ends_on most rx (Else log ∷ ds) es s come are of ends =
      subst (λ (xs : List FlowEvent). AreEndsOf most xs (behind_deeds ds s) rx)
      (ap (with_log kind more (deeds_log ds)) (sym (else_log kind more log es are.0))
      ∙ sym (log_both kind more log (deeds_log ds) es)) (ends_on most rx ds es s come are.1 of.1 ends)

  -- ---- what comes first, then what is told, and then what is written

  event_quiet : (e : Event) → IsComing (Tells e) → event_told kind more e ≡ None
  event_quiet (events.Take lcid count len) h = absurd h
  event_quiet (events.Report lcid fms bitmap) h = absurd h
  event_quiet (events.Expired lcid Poll) h = absurd h
  event_quiet (events.Expired lcid Reorder) h = refl
  event_quiet (events.Expired lcid Prohibit) h = refl
  event_quiet e h = refl

  coming_log : (log : List BearerEntry) (es : List FlowEvent) → AllByRecursion IsComing log
      → with_log kind more (coming (come_in log)) es ≡ with_log kind more log es
  coming_log [] es h = refl
  coming_log (Tells e ∷ log) es h =
      coming_log log es h.1
      ∙ ap (λ (o : Option FlowEvent). with_log kind more log (with_told o es)) (sym (event_quiet e h.0))
  coming_log (Writes octets ∷ log) es h = absurd h.0
  coming_log (Comes octets ∷ log) es h =
      coming_log log (with_told (entry_told kind more (next_of es) (Comes octets)) es) h.1

  told_quiet : (log : List BearerEntry) (es : List FlowEvent) → AllByRecursion IsComing log
      → with_log kind more (telling (told_in log) ++ writing (written_in log)) es ≡ es
  told_quiet [] es h = refl
  told_quiet (Tells e ∷ log) es h =
      ap (λ (o : Option FlowEvent). with_log kind more (telling (told_in log) ++ writing (written_in log))
      (with_told o es)) (event_quiet e h.0)
      ∙ told_quiet log es h.1
  told_quiet (Writes octets ∷ log) es h = absurd h.0
  told_quiet (Comes octets ∷ log) es h = told_quiet log es h.1

  pub parted_log : (log : List BearerEntry) (es : List FlowEvent) → IsOrdered log
      → with_log kind more (parted log) es ≡ with_log kind more log es
  parted_log log es (inl same) = ap (λ (xs : List BearerEntry). with_log kind more xs es) same
  parted_log log es (inr h) =
      let first = coming (come_in log) in
      let last = telling (told_in log) ++ writing (written_in log) in
      log_both kind more first last es
      ∙ (told_quiet log (with_log kind more first es) h ∙ coming_log log es h)

  -- ---- a log of such deeds

  module _ (most : ℕ) (es : List FlowEvent) (s t : State) (rx : Receiver) (log : List BearerEntry)
      (come : HasComeBy s) (x : GoesBy Asks s t log) (ends : AreEndsOf most es s rx) where
    pub logged_ends : AreEndsOf most (with_log kind more log es) t rx
    logged_ends =
        subst (λ (xs : List BearerEntry). AreEndsOf most (with_log kind more xs es) t rx) (sym x.logged)
        (subst (λ (y : State). AreEndsOf most (with_log kind more (deeds_log x.deeds) es) y rx) (sym x.left)
        (ends_on most rx x.deeds es s come x.are x.of ends))

    pub logged_fails : AreFailsOf most es (with_log kind more log es) (fails_in log)
    logged_fails =
        let ds = map (λ (d : SenderDeed). AtSender d) x.deeds in
        let f = logs_tell_flows kind most ds es s come (logged_are x.deeds es s x.are x.of) ends.follows in
        subst (λ (xs : List BearerEntry). AreFailsOf most es (with_log kind more xs es) (fails_in xs)) (sym x.logged)
        (subst (λ (now : List FlowEvent). AreFailsOf most es now (fails_in (deeds_log x.deeds)))
        (history_is x.deeds es s x.are x.of)
        (subst (λ (xs : List BearerEntry). AreFailsOf most es (with_logs kind ds es) (fails_in xs)) (logs_are x.deeds)
        f.fails))

    pub logged_ignored : ignored_in (with_log kind more log es) ≡ ignored_in es + told_ignored log
    logged_ignored =
        let ds = map (λ (d : SenderDeed). AtSender d) x.deeds in
        let f = logs_tell_ignored kind most ds es s come (logged_are x.deeds es s x.are x.of) ends.follows in
        subst (λ (xs : List BearerEntry). ignored_in (with_log kind more xs es) ≡ ignored_in es + told_ignored xs)
        (sym x.logged)
        (subst (λ (now : List FlowEvent). ignored_in now ≡ ignored_in es + told_ignored (deeds_log x.deeds))
        (history_is x.deeds es s x.are x.of)
        (subst (λ (xs : List BearerEntry). ignored_in (with_logs kind ds es) ≡ ignored_in es + told_ignored xs)
        (logs_are x.deeds) f.told))

-- ---- the SNs in it

come_fails : (pdus : List (List ℕ)) (log : List BearerEntry) → fails_in (coming pdus ++ log) ≡ fails_in log
come_fails [] log = refl
come_fails (pdu ∷ pdus) log = come_fails pdus log

pub told_fails : (log : List BearerEntry) (pdus : List (List ℕ))
    → fails_in (telling (told_in log) ++ writing pdus) ≡ fails_in log
told_fails [] pdus = written_fails pdus
told_fails (Tells e ∷ log) pdus = ap (λ (sns : List ℕ). fails_at (Tells e) ++ sns) (told_fails log pdus)
told_fails (Writes octets ∷ log) pdus = told_fails log pdus
told_fails (Comes octets ∷ log) pdus = told_fails log pdus

pub parted_fails : (log : List BearerEntry) → fails_in (parted log) ≡ fails_in log
parted_fails log =
    come_fails (come_in log) (telling (told_in log) ++ writing (written_in log)) ∙ told_fails log (written_in log)
