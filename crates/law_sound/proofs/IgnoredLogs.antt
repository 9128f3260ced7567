-- What is told of ignored STATUS PDUs is what the history of the log ignores.
use Rattle.std.proofs.Common.{◌≡◌, ℕ, ◌+◌, ◌%◌, ◌==◌, Bool, true, false, if◌then◌else◌, List, [], ◌∷◌, ◌++◌, Option}
use Rattle.std.proofs.Common.{Some, None, length, Result, Ok, Err, refl, ap, sym, subst, ◌∙◌, arith}
use Rattle.std.specs.List.{AllByRecursion}
use Rattle.l2_types.specs.declared.event.Clock.TheVariants.{Poll}
use Rattle.l2_types.specs.declared.event.Lost.TheVariants as losts
use Rattle.bearer.specs.Acknowledged.Hearing.{started_told}
use Rattle.bearer.specs.Acknowledged.Taking.{data_told as sent_told}
use Rattle.bearer.specs.Acknowledged.Timing.{poll_told, told_of}
use Rattle.bearer.specs.Taking.{pdus}
use Rattle.bearer.specs.declared.flow.Flow.{Flow}
use Rattle.bearer.specs.declared.flow.Flow.TheVariants.{Am}
use Rattle.bearer_types.specs.declared.event.Event.{Event}
use Rattle.bearer_types.specs.declared.event.Event.TheVariants as events
use Rattle.pdcp_pdu.specs.declared.pdu.PdcpKind.{PdcpKind}
use Rattle.pdcp_pdu.specs.declared.pdu.PdcpKind.TheVariants as pdcp
use Rattle.rlc_pdu.specs.declared.constants.TheConstants.{AM_MODULUS}
use Rattle.rlc_pdu.specs.declared.fault.RlcRefusal.{RlcRefusal}
use Rattle.rlc_pdu.specs.declared.outcome.Taken.{Taken}
use Rattle.rlc_pdu.specs.declared.outcome.Taken.TheVariants as taken
use Rattle.rlc_pdu.specs.Pdus.{AcknowledgedPdu, Payload, Status, StatusPdu}
use Rattle.rlc_pdu.specs.Reading.{am_at}
use Rattle.rlc_am_tx.specs.declared.answers.Heard.TheVariants as heard_as
use Rattle.rlc_am_tx.specs.declared.answers.PollExpired.{PollExpired as Expiry}
use Rattle.rlc_am_tx.specs.declared.answers.PollExpired.TheVariants as expires
use Rattle.rlc_am_tx.specs.Machine.{State, answer, heard, heard_of, expiry, settles, is_ignored}
use Rattle.journal_account.specs.Acked.{ignored_in}
use Rattle.journal_account.specs.FlowEvents.{FlowEvent, NumberWritten, OctetsResent, OctetsArrived, ReorderStarted}
use Rattle.journal_account.specs.FlowEvents.{ReorderExpired, SduTaken, StatusHeard, IsHistory, next_of}
use Rattle.law_account.specs.History.{Follows, IsOfReceiver, with_told}
use Rattle.law_account.specs.Ignored.{counted}
use Rattle.law_account.proofs.Ignored.{ignored_told}
use Rattle.law_bearer.specs.AnyBearer.Calls.{Call as BearerCall, Submit, Take as BearerTake, Arrive}
use Rattle.law_bearer.specs.AnyBearer.Calls.{Expire as BearerExpire, Tick as BearerTick, SetDiscard, after as called}
use Rattle.law_bearer.proofs.AnyBearer.SenderCalls.{all_then}
use Rattle.law_deliver.specs.AmFlow.Channels.{calls_of}
use Rattle.law_deliver.specs.AmFlow.NoPdus.{BringsNoPdu}
use Rattle.law_deliver.specs.AmFlow.Ups.{tells_in}
use Rattle.law_deliver.proofs.AmFlow.NoPdus.{calls_bring_none}
use Rattle.law_deliver.proofs.AmFlow.Carrying.{front, rest}
use Rattle.law_rlc.specs.AmSender.Run.{Call, Offer, Take, Status as Hears, Tick, Expire, Settle, Confirm}
use Rattle.law_run.specs.TwoEnds.ChannelLog.{coming, come_in, told_in, written_in, parted}
use Rattle.law_run.specs.TwoEnds.SenderLog.{BearerEntry, Tells, Writes, Comes, telling, writing, read_told, bearer_log}
use Rattle.law_run.specs.TwoEnds.SenderLog.{bearer_logs, IsLoggedAs, IsElse, is_of_flow, SenderDeed, Makes, Else}
use Rattle.law_run.specs.TwoEnds.SenderLog.{deed_log}
use Rattle.law_sound.specs.IgnoredLaws.{ignored_at, told_ignored, ComesNone, LogsTellIgnored, NoBlockIsIgnored}
use Rattle.law_sound.specs.LogLaws.{event_told, report_told, written_told, entry_told, with_log, HasComeBy, IsAsked}
use Rattle.law_sound.specs.LogLaws.{more_in, AtSender, AtReceiver, more_of, with_deed, behind_one, sender_log, IsLogged}
use Rattle.law_sound.proofs.Logs.{logs_tell_calls, logs_tell_flows, else_log}

-- ---- entries

pub told_both : (xs ys : List BearerEntry) → told_ignored (xs ++ ys) ≡ told_ignored xs + told_ignored ys
told_both [] ys = omega arith
told_both (x ∷ xs) ys = let rest = told_both xs ys in omega (arith, rest)

pub writing_none : (written : List (List ℕ)) → told_ignored (writing written) ≡ 0
writing_none [] = refl
writing_none (octets ∷ written) = let more = writing_none written in omega (arith, more)

-- ---- the history ignores none where no PDU comes

report_ignores : (kind : PdcpKind) (len : ℕ) (es : List FlowEvent)
    → ignored_in (with_told (report_told kind len) es) ≡ ignored_in es
report_ignores pdcp.Srb len es = refl
report_ignores (pdcp.Um bits) len es = refl
report_ignores (pdcp.Am bits) len es = refl

event_ignores : (kind : PdcpKind) (more : Bool) (e : Event) (es : List FlowEvent)
    → ignored_in (with_told (event_told kind more e) es) ≡ ignored_in es
event_ignores kind more (events.Take lcid count len) es = refl
event_ignores kind more (events.Report lcid fms bitmap) es = report_ignores kind (length bitmap) es
event_ignores kind more (events.Expired lcid Poll) es = refl
event_ignores kind more e es = refl

data_ignores : (b : Bool) (n number from to : ℕ) (es : List FlowEvent)
    → ignored_in ((if b then NumberWritten n else OctetsResent number from to) ∷ es) ≡ ignored_in es
data_ignores true n number from to es = refl
data_ignores false n number from to es = refl

written_ignores : (w : ℕ) (r : Result AcknowledgedPdu RlcRefusal) (es : List FlowEvent)
    → ignored_in (with_told (written_told w r) es) ≡ ignored_in es
written_ignores w (Ok (Payload pdu)) es = data_ignores (pdu.sn == w % AM_MODULUS) _ _ _ _ es
written_ignores w (Ok (Status pdu)) es = refl
written_ignores w (Err refused) es = refl

entry_ignores : (kind : PdcpKind) (more : Bool) (w : ℕ) (x : BearerEntry) (es : List FlowEvent) → ComesNone x
    → ignored_in (with_told (entry_told kind more w x) es) ≡ ignored_in es
entry_ignores kind more w (Tells e) es none = event_ignores kind more e es
entry_ignores kind more w (Writes octets) es none = written_ignores w (am_at octets) es
entry_ignores kind more w (Comes octets) es none = absurd none

log_ignores : (kind : PdcpKind) (more : Bool) (log : List BearerEntry) (es : List FlowEvent)
    → AllByRecursion ComesNone log → ignored_in (with_log kind more log es) ≡ ignored_in es
log_ignores kind more [] es none = refl
log_ignores kind more (x ∷ log) es none =
    log_ignores kind more log (with_told (entry_told kind more (next_of es) x) es) none.1
    ∙ entry_ignores kind more (next_of es) x es none.0

telling_none : (told : List Event) → AllByRecursion ComesNone (telling told)
telling_none [] = tt
telling_none (e ∷ told) = (tt, telling_none told)

writing_comes : (written : List (List ℕ)) → AllByRecursion ComesNone (writing written)
writing_comes [] = tt
writing_comes (octets ∷ written) = (tt, writing_comes written)

both_none : (told : List Event) (written : List (List ℕ)) → AllByRecursion ComesNone (telling told ++ writing written)
both_none told written =
    all_then ComesNone (telling told) (writing written) (telling_none told) (writing_comes written)

-- ---- a call that hears no STATUS

sent_none : (lcid : ℕ) (t : Taken) (written : List (List ℕ))
    → told_ignored (telling (sent_told lcid t) ++ writing written) ≡ 0
sent_none lcid t written =
    let both = told_both (telling (sent_told lcid t)) (writing written) in
    let first = by t in
    let last = writing_none written in
    omega (arith, both, first, last)
  where
    by : (t : Taken) → told_ignored (telling (sent_told lcid t)) ≡ 0
    by (taken.Piece number first true octets) = refl
    by (taken.Piece number first false octets) = refl
    by taken.Idle = refl
    by taken.Small = refl
    by taken.Shut = refl
    by taken.Held = refl
    by taken.Stopped = refl

sdu_none : (kind : PdcpKind) (e : Event) (n : ℕ) → event_told kind false e ≡ Some (SduTaken n)
    → ignored_at (Tells e) ≡ 0
sdu_none kind (events.Drop lcid losts.Ignored) n q = cc
sdu_none kind e n q = refl

expiry_none : (lcid : ℕ) (x : Expiry) → told_ignored (telling (told_of (poll_told lcid x))) ≡ 0
expiry_none lcid expires.NotRunning = refl
expiry_none lcid expires.Done = refl
expiry_none lcid (expires.Limit sn) = refl

started_none : (lcid : ℕ) (b : Bool) → told_ignored (telling (started_told lcid b)) ≡ 0
started_none lcid true = refl
started_none lcid false = refl

else_none : (log : List BearerEntry) → AllByRecursion IsElse log → told_ignored log ≡ 0
else_none [] h = refl
else_none (x ∷ log) h = let one = by x h.0 in let rest = else_none log h.1 in omega (arith, one, rest)
  where
    event : (e : Event) → is_of_flow e ≡ false → ignored_at (Tells e) ≡ 0
    event (events.Drop lcid losts.Ignored) q = cc
    event e q = refl

    by : (x : BearerEntry) → IsElse x → ignored_at x ≡ 0
    by (Tells e) q = event e q
    by (Writes octets) q = refl
    by (Comes octets) q = refl

-- ---- a deed

abbrev IsTold : PdcpKind → List FlowEvent → SenderDeed → Type 0
IsTold kind es d =
    ignored_in (with_deed kind (AtSender d) es) ≡ ignored_in es + told_ignored (deed_log d)

quiet : (kind : PdcpKind) (es : List FlowEvent) (c : Call) (log own : List BearerEntry) → log ≡ own
    → AllByRecursion ComesNone own → told_ignored own ≡ 0 → IsTold kind es (Makes c log)
quiet kind es c log own e none zero =
    let same = log_ignores kind (more_in c) own es none in
    subst (λ (l : List BearerEntry). IsTold kind es (Makes c l)) (sym e) (omega (arith, same, zero))

read_ignored : (b : Bool) (lcid : ℕ) (octets : List ℕ) (sn : Option ℕ) (stopped : Bool) (n : ℕ)
    → counted b n
    ≡ n + told_ignored
    (Comes octets ∷ telling (read_told lcid (if b then heard_as.Ignored else heard_of sn stopped)))
read_ignored true lcid octets sn stopped n = refl
read_ignored false lcid octets (Some sn) stopped n = omega arith
read_ignored false lcid octets None true n = omega arith
read_ignored false lcid octets None false n = omega arith

status_tells : (kind : PdcpKind) (most : ℕ) (es : List FlowEvent) (s : State) (status : StatusPdu)
    (log : List BearerEntry) → HasComeBy s → IsLoggedAs s (Hears status) log → IsAsked kind s (Hears status) log
    → Follows most es s → IsHistory (with_deed kind (AtSender (Makes (Hears status) log)) es)
    → IsTold kind es (Makes (Hears status) log)
unfolding heard
status_tells kind most es s status log come deed asked f now =
    let t = logs_tell_calls kind most es s (Hears status) log come deed asked f in
    let heard_is = t.told.2 in
    let logged : with_log kind false log es ≡ StatusHeard t.told.0 t.told.1 ∷ es =
    t.logged ∙ ap (λ (o : Option FlowEvent). with_told o es) t.told.3 in
    ap ignored_in logged
    ∙ (ignored_told most es s status t.told.0 t.told.1 (subst IsHistory logged now) heard_is f.window
    ∙ (read_ignored (is_ignored s status.ack) deed.0 deed.1 _ _ (ignored_in es)
    ∙ ap (λ (l : List BearerEntry). ignored_in es + told_ignored l) (sym deed.3)))

deed_tells : (kind : PdcpKind) (most : ℕ) (d : SenderDeed) (es : List FlowEvent) (s : State) → HasComeBy s
    → IsLogged kind es s (AtSender d) → Follows most es s → IsHistory (with_deed kind (AtSender d) es)
    → IsTold kind es d
deed_tells kind most (Makes (Offer sdu) log) es s come (deed, asked) f now =
    let zero = sdu_none kind asked.event _ asked.size in
    quiet kind es (Offer sdu) log (Tells asked.event ∷ []) asked.one (tt, tt) (omega (arith, zero))
deed_tells kind most (Makes (Take size held more) log) es s come ((lcid, reports, are, e), asked) f now =
    quiet kind es (Take size held more) log _ e (both_none (sent_told lcid (answer s size held more)) _)
    (sent_none lcid (answer s size held more) _)
deed_tells kind most (Makes (Hears status) log) es s come (deed, asked) f now =
    status_tells kind most es s status log come deed asked f now
deed_tells kind most (Makes Tick log) es s come (deed, asked) f now = quiet kind es Tick log [] deed tt refl
deed_tells kind most (Makes (Expire more) log) es s come ((lcid, e), asked) f now =
    quiet kind es (Expire more) log _ e (telling_none (told_of (poll_told lcid (expiry s more))))
    (expiry_none lcid (expiry s more))
deed_tells kind most (Makes (Settle more) log) es s come ((lcid, e), asked) f now =
    quiet kind es (Settle more) log _ e (telling_none (started_told lcid (settles s more)))
    (started_none lcid (settles s more))
deed_tells kind most (Makes Confirm log) es s come (deed, asked) f now = quiet kind es Confirm log [] deed tt refl
deed_tells kind most (Else log) es s come (is, asked) f now =
    let same = ap ignored_in (else_log kind false log es is) in
    let zero = else_none log is in
    omega (arith, same, zero)

receiver_ignores : (e : FlowEvent) (es : List FlowEvent) → IsOfReceiver e → ignored_in (e ∷ es) ≡ ignored_in es
receiver_ignores (OctetsArrived n from to) es is = refl
receiver_ignores ReorderStarted es is = refl
receiver_ignores ReorderExpired es is = refl
receiver_ignores e es is = absurd is

-- ---- any deeds

pub logs_tell_ignored : LogsTellIgnored
logs_tell_ignored kind most [] es s come are f = record { told = omega arith; none = λ none. refl }
logs_tell_ignored kind most (AtSender d ∷ ds) es s come are f =
    let now = logs_tell_flows kind most (AtSender d ∷ []) es s come (are.0, tt) f in
    let more = logs_tell_ignored kind most ds (with_deed kind (AtSender d) es) (behind_one s (AtSender d)) now.come
    are.1 now.follows in
    let one = deed_tells kind most d es s come are.0 f now.follows.history in
    let all = more.told in
    let both = told_both (deed_log d) (sender_log ds) in
    record {
      told = omega (arith, one, all, both);
      none = λ none.
          let first = log_ignores kind (more_of d) (deed_log d) es (front ComesNone (deed_log d) (sender_log ds) none)
          in
          let last = more.none (rest ComesNone (deed_log d) (sender_log ds) none) in
          omega (arith, one, first, last, both);
    }
logs_tell_ignored kind most (AtReceiver e ∷ ds) es s come are f =
    let now = logs_tell_flows kind most (AtReceiver e ∷ []) es s come (are.0, tt) f in
    let more = logs_tell_ignored kind most ds (e ∷ es) s now.come are.1 now.follows in
    record {
      told = more.told ∙ ap (λ (n : ℕ). n + told_ignored (sender_log ds)) (receiver_ignores e es are.0.0);
      none = more.none;
    }

-- ---- a call that brings no block

call_none : (l : ℕ) (f : Flow) (c : BearerCall) → BringsNoPdu c → AllByRecursion ComesNone (bearer_log l f c)
call_none l f (Submit sdu) none = tt
call_none l f (BearerTake share held) none = both_none (tells_in l f (BearerTake share held)) (pdus f share held)
call_none l f (Arrive pdu) none = absurd none
call_none l f (BearerExpire clock) none = telling_none (tells_in l f (BearerExpire clock))
call_none l f BearerTick none = telling_none (tells_in l f BearerTick)
call_none l f (SetDiscard ttis) none = tt

pub calls_none : (l : ℕ) (f : Flow) (cs : List BearerCall) → AllByRecursion BringsNoPdu cs
    → AllByRecursion ComesNone (bearer_logs l f cs)
calls_none l f [] none = tt
calls_none l f (c ∷ cs) none =
    all_then ComesNone (bearer_log l f c) (bearer_logs l (called f c) cs) (call_none l f c none.0)
    (calls_none l (called f c) cs none.1)

pub no_block_ignored : NoBlockIsIgnored
no_block_ignored l e c b none = calls_none l (Am b) (calls_of l e c) (calls_bring_none l e c none)

-- ---- what comes first, then what is told, and then what is written

come_first : (pdus : List (List ℕ)) (log : List BearerEntry) → told_ignored (coming pdus ++ log) ≡ told_ignored log
come_first [] log = refl
come_first (pdu ∷ pdus) log = let more = come_first pdus log in omega (arith, more)

told_then : (log : List BearerEntry) (written : List (List ℕ))
    → told_ignored (telling (told_in log) ++ writing written) ≡ told_ignored log
told_then [] written = writing_none written
told_then (Tells e ∷ log) written = let more = told_then log written in omega (arith, more)
told_then (Writes octets ∷ log) written = let more = told_then log written in omega (arith, more)
told_then (Comes octets ∷ log) written = let more = told_then log written in omega (arith, more)

pub parted_ignored : (log : List BearerEntry) → told_ignored (parted log) ≡ told_ignored log
parted_ignored log =
    come_first (come_in log) (telling (told_in log) ++ writing (written_in log)) ∙ told_then log (written_in log)
